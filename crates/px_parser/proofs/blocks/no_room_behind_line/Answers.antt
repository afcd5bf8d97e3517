use Rattle.std.proofs.Common.{◌≡◌, suc, ◌+◌, Bool, true, false, refl, sym, ap, ap₂, ◌∙◌, subst, arith}
use Rattle.std.specs.Prelude.{nat_eq, ◌&&◌}
use Rattle.std.proofs.lemmas.Bool.{and_parts, eq-eqb, eqb-true}
use Rattle.px_base.proofs.Facts.{denied}
use Rattle.px_base.specs.declared.refusals.Span.{Span}
use Rattle.px_lexer.proofs.OneToken.{one_place}
use Rattle.px_lexer.specs.declared.token_list.TokenKind.TheVariants as kind
use Rattle.px_lexer.specs.Terminals.{HasKind, IsAt, terminals_of}
use Rattle.px_lexer.proofs.TokenAccess.{length_terminals}
use Rattle.px_parser.specs.Readings.{IsStuck, Anywhere}
use Rattle.px_parser.specs.StatementGrammar.{Block}
use Rattle.px_parser.proofs.BlockSteps.{newline_over, newline_stuck}
use Rattle.px_parser.proofs.blocks.no_room_behind_line.Goals as goal

pub overflow_add-from : goal.overflow_add-from
overflow_add-from c = record { fits = omega (arith, c.requires.input.goes_on c.args.from kind.Newline c.requires.newline (λ e. cc), c.requires.input.input.few) }

pub returns-then-is_indent : goal.returns-then-is_indent
returns-then-is_indent c =
    let inside = c.requires.input.goes_on c.args.from kind.Newline c.requires.newline (λ e. cc) in
    let same : c.args.from + 1 ≡ suc c.args.from = omega arith in
    let indent : HasKind (terminals_of c.args.tokens.now) (suc c.args.from) kind.Indent = subst (λ k. HasKind (terminals_of c.args.tokens.now) k kind.Indent) same (c.is_indent.ensures.0 c.if-is_indent.true) in
    newline_over (terminals_of c.args.tokens.now) c.args.from c.requires.newline (omega (arith, inside, length_terminals c.args.tokens.now))
    (λ together. (indent, omega (arith, c.requires.input.goes_on (suc c.args.from) kind.Indent indent (λ e. cc), length_terminals c.args.tokens.now)))

span_same : (p q : Span) → nat_eq p.line q.line && nat_eq p.column q.column ≡ true → p ≡ q
span_same p q e =
    let parts = and_parts (nat_eq p.line q.line) (nat_eq p.column q.column) e in
    ap₂ (λ l k. record { line = l; column = k }) (eqb-true p.line q.line parts.0) (eqb-true p.column q.column parts.1)

span_equal : (p q : Span) → p ≡ q → nat_eq p.line q.line && nat_eq p.column q.column ≡ true
span_equal p q e = ap₂ (λ a b. a && b) (eq-eqb p.line q.line (ap (λ (s : Span). s.line) e)) (eq-eqb p.column q.column (ap (λ (s : Span). s.column) e))

not_true : (b : Bool) → b ≡ false → b ≡ true → ⊥
not_true b e f = cc

pub returns-then-eq : goal.returns-then-eq
returns-then-eq c =
    let ts = terminals_of c.args.tokens.now in
    let inside = c.requires.input.goes_on c.args.from kind.Newline c.requires.newline (λ e. cc) in
    let same : c.args.from + 1 ≡ suc c.args.from = omega arith in
    let spans : c.place-2.result ≡ c.place.result = sym (span_same c.place.result c.place-2.result (sym c.eq.ensures ∙ c.if-eq.true)) in
    let next : IsAt ts (suc c.args.from) c.place.result = subst (λ k. IsAt ts k c.place.result) same (subst (λ s. IsAt ts (c.args.from + 1) s) spans c.place-2.ensures) in
    let stuck : IsStuck Block Anywhere ts c.args.from 0 (suc c.args.from) =
    newline_stuck ts c.args.from (omega (arith, inside, length_terminals c.args.tokens.now)) (record { line = c.requires.newline; next = refl; at = c.place.result; first = c.place.ensures; second = next })
    (λ indent. denied c.is_indent.ensures c.if-is_indent.false (subst (λ k. HasKind ts k kind.Indent) (sym same) indent)) in
    subst (IsStuck Block Anywhere ts c.args.from 0) (sym same) stuck

pub returns-else-eq : goal.returns-else-eq
returns-else-eq c =
    let ts = terminals_of c.args.tokens.now in
    let inside = c.requires.input.goes_on c.args.from kind.Newline c.requires.newline (λ e. cc) in
    let same : suc c.args.from ≡ c.args.from + 1 = omega arith in
    newline_over ts c.args.from c.requires.newline (omega (arith, inside, length_terminals c.args.tokens.now)) (λ together.
    let spans : c.place.result ≡ c.place-2.result = one_place c.place.ensures together.first ∙ one_place together.second (subst (λ k. IsAt ts k c.place-2.result) (sym same) c.place-2.ensures) in
    absurd (not_true c.eq.result c.if-eq.false (c.eq.ensures ∙ span_equal c.place.result c.place-2.result spans)))
