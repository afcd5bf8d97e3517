use Rattle.std.proofs.Common.{nat_eq, sym, ap, ◌∙◌, arith}
use Rattle.std.specs.Prelude.{is_some}
use Rattle.std.proofs.lemmas.Bool.{eq-eqb}
use Rattle.px_lexer.proofs.SignLemmas.{begins_as_mark, begins_as_slash, begins_as_single}
use Rattle.px_lexer.proofs.signs.begins_sign.Goals as goal

pub returns-then-first-from : goal.returns-then-first-from
returns-then-first-from c =
    ap (λ x. nat_eq c.code_ahead.result x) c.from-then-first-from.ensures
    ∙ sym (begins_as_mark c.args.cs.now c.args.at _ _ c.code-first.ensures c.code_ahead.ensures (omega arith))

pub returns-then-first-from-2 : goal.returns-then-first-from-2
returns-then-first-from-2 c =
    eq-eqb _ _ c.if-first-from-2.true
    ∙ sym (begins_as_slash c.args.cs.now c.args.at _ c.code-first.ensures (λ mark. omega arith) (omega arith))

pub returns-else-first-from-2 : goal.returns-else-first-from-2
returns-else-first-from-2 c =
    c.is_some.ensures
    ∙ ap is_some c.single.ensures
    ∙ sym (begins_as_single c.args.cs.now c.args.at _ c.code-first.ensures (λ mark. omega arith) (λ slash. omega arith))
