use Rattle.std.proofs.Common.{◌+◌, arith}
use Rattle.std.proofs.lemmas.Result.{err_from_is_err_and}
use Rattle.px_base.proofs.Facts.{denied}
use Rattle.px_lexer.specs.declared.token_list.TokenKind.TheVariants as kind
use Rattle.px_lexer.specs.Terminals.{terminals_of}
use Rattle.px_exprs.proofs.TokenReading.{goes_on}
use Rattle.px_lexer.proofs.TokenAccess.{length_terminals}
use Rattle.px_lexer.specs.declared.spelling.Operator.TheVariants as sign
use Rattle.px_exprs.proofs.TrailerSteps.{IsUnnamed, unnamed_here, positional_refused, positional_read, keyword_refused, keyword_read, name_refused}
use Rattle.px_exprs.proofs.grammar.Grammar.argument.Goals as goal
use Rattle.px_exprs.proofs.grammar.Grammar.argument.Goals.{then-not-is_name-via-then-not-is_name, then-not-is_name-via-else-not-is_name+then-not-is_operator}

pub returns-in_err-value : goal.returns-in_err-value
returns-in_err-value g c =
    let ts = terminals_of c.args.tokens.now in
    let p = err_from_is_err_and c.from_residual.result c.from_residual.ensures.1 in
    let plain : IsUnnamed ts c.args.from =
    elim c.then-not-is_name.branch [
      | then-not-is_name-via-then-not-is_name w ↦ (λ name n equal. denied c.is_name.ensures w.if-not-is_name.true (name, n))
      | then-not-is_name-via-else-not-is_name+then-not-is_operator w ↦ unnamed_here (denied w.is_operator.ensures w.if-not-is_operator.true)
    ] in
    rw (p.1, p.2) (positional_refused c.args.room plain (omega (arith, c.requires.inside, length_terminals c.args.tokens.now)) c.in_err-value.field-0.0 c.in_err-value.ensures)

pub returns-then-not-is_name : goal.returns-then-not-is_name
returns-then-not-is_name g c = positional_read c.in_ok-value.ensures

pub returns-in_err-found : goal.returns-in_err-found
returns-in_err-found g c =
    let p = err_from_is_err_and c.from_residual-in_err-found.result c.from_residual-in_err-found.ensures.1 in
    let named = c.is_name.ensures.0 c.if-not-is_name.false in
    rw (p.1, p.2) (name_refused c.args.room named.1 c.in_err-found.field-0.0 c.in_err-found.ensures)

pub returns-in_err-value-2 : goal.returns-in_err-value-2
returns-in_err-value-2 g c =
    let p = err_from_is_err_and c.from_residual-in_err-value-2.result c.from_residual-in_err-value-2.ensures.1 in
    let named = c.is_name.ensures.0 c.if-not-is_name.false in
    rw (p.1, p.2) (keyword_refused c.args.room named.1 (c.is_operator.ensures.0 c.if-not-is_operator.false) c.in_err-value-2.field-0.0 c.in_err-value-2.ensures)

pub element-requires-2-clause-inside : goal.element-requires-2-clause-inside
element-requires-2-clause-inside g c =
    let equal = c.is_operator.ensures.0 c.if-not-is_operator.false in
    omega (arith, goes_on c.args.tokens.now (c.args.from + 1) (kind.Operator sign.Equal) c.requires.input equal (omega arith))

pub returns : goal.returns
returns g c = keyword_read c.in_ok-found.ensures (c.is_operator.ensures.0 c.if-not-is_operator.false) c.in_ok-value-2.ensures
