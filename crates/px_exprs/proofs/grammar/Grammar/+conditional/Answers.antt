use Rattle.std.proofs.Common.{ap, ◌∙◌, arith}
use Rattle.px_base.proofs.Facts.{denied}
use Rattle.px_tree.specs.declared.expressions.ExprForm.TheVariants as forms
use Rattle.std.proofs.lemmas.Result.{err_from_is_err_and}
use Rattle.px_lexer.specs.declared.spelling.Keyword.TheVariants as word
use Rattle.px_lexer.specs.declared.token_list.TokenKind.TheVariants as kind
use Rattle.px_lexer.specs.Terminals.{terminals_of}
use Rattle.px_exprs.proofs.Stops.{past_if}
use Rattle.px_exprs.proofs.Steps.{fails}
use Rattle.px_exprs.proofs.Tailed.{first_step, read_alone}
use Rattle.px_exprs.proofs.TokenReading.{goes_on}
use Rattle.px_lexer.proofs.TokenAccess.{length_terminals}
use Rattle.px_exprs.proofs.JunctionSteps.{nests_less}
use Rattle.px_exprs.proofs.ConditionalSteps.{expr_tailed, alternative_over, test_refused, else_missing, other_refused, conditional_read}
use Rattle.px_exprs.proofs.grammar.Grammar.+conditional.Goals as goal

pub returns-in_err-value : goal.returns-in_err-value
returns-in_err-value g t c =
    let p = err_from_is_err_and c.from_residual.result c.from_residual.ensures.1 in
    rw (p.1, p.2) (fails (first_step expr_tailed (terminals_of c.args.tokens.now) c.args.from c.args.room) _ c.in_err-value.ensures)

pub returns-then-not-is_keyword : goal.returns-then-not-is_keyword
returns-then-not-is_keyword g t c =
    let reading = c.in_ok-value.ensures in
    read_alone expr_tailed reading (past_if reading.stops (denied c.is_keyword.ensures c.if-not-is_keyword.true))

pub returns-in_err-room : goal.returns-in_err-room
returns-in_err-room g t c =
    let p = err_from_is_err_and c.from_residual-in_err-room.result c.from_residual-in_err-room.ensures.1 in
    rw (p.1, p.2) (alternative_over c.in_ok-value.ensures (c.is_keyword.ensures.0 c.if-not-is_keyword.false) _ c.in_err-room.ensures)

pub overflow_add-number : goal.overflow_add-number
overflow_add-number g t c =
    let inside = goes_on c.args.tokens.now c.in_ok-value.value.to (kind.Keyword word.If) c.requires.input (c.is_keyword.ensures.0 c.if-not-is_keyword.false) (omega arith) in
    omega (arith, inside, c.requires.input.few)

pub disjunction-requires-2-clause-inside : goal.disjunction-requires-2-clause-inside
disjunction-requires-2-clause-inside g t c =
    let inside = goes_on c.args.tokens.now c.in_ok-value.value.to (kind.Keyword word.If) c.requires.input (c.is_keyword.ensures.0 c.if-not-is_keyword.false) (omega arith) in
    omega (arith, inside)

pub returns-in_err-test : goal.returns-in_err-test
returns-in_err-test g t c =
    let p = err_from_is_err_and c.from_residual-in_err-test.result c.from_residual-in_err-test.ensures.1 in
    rw (p.1, p.2) (test_refused c.in_ok-value.ensures (c.is_keyword.ensures.0 c.if-not-is_keyword.false) c.in_ok-room.ensures _ c.in_err-test.ensures)

pub returns-then-not-is_keyword-2 : goal.returns-then-not-is_keyword-2
returns-then-not-is_keyword-2 g t c =
    let condition = c.is_keyword.ensures.0 c.if-not-is_keyword.false in
    else_missing c.in_ok-value.ensures condition c.in_ok-room.ensures c.in_ok-test.ensures (denied c.is_keyword-2.ensures c.if-not-is_keyword-2.true)

pub overflow_add-test_to : goal.overflow_add-test_to
overflow_add-test_to g t c =
    let inside = goes_on c.args.tokens.now c.in_ok-test.test.to (kind.Keyword word.Else) c.requires.input (c.is_keyword-2.ensures.0 c.if-not-is_keyword-2.false) (omega arith) in
    omega (arith, inside, c.requires.input.few)

pub conditional-requires : goal.conditional-requires
conditional-requires g t c κs within =
    let inside = goes_on c.args.tokens.now c.in_ok-test.test.to (kind.Keyword word.Else) c.requires.input (c.is_keyword-2.ensures.0 c.if-not-is_keyword-2.false) (omega arith) in
    (omega (arith, c.in_ok-room.ensures.1, c.decreases), (within, (c.requires.input, (omega (arith, inside), nests_less c.requires.nests (omega (arith, c.in_ok-room.ensures.1))))))

pub returns-in_err-otherwise : goal.returns-in_err-otherwise
returns-in_err-otherwise g t c =
    let p = err_from_is_err_and c.from_residual-in_err-otherwise.result c.from_residual-in_err-otherwise.ensures.1 in
    let condition = c.is_keyword.ensures.0 c.if-not-is_keyword.false in
    let denial = c.is_keyword-2.ensures.0 c.if-not-is_keyword-2.false in
    rw (p.1, p.2) (other_refused c.in_ok-value.ensures condition c.in_ok-room.ensures c.in_ok-test.ensures denial _ c.in_err-otherwise.ensures)

pub node-requires-clause-small : goal.node-requires-clause-small
node-requires-clause-small g t c =
    let reading = c.in_ok-value.ensures in
    omega (arith, reading.within, length_terminals c.args.tokens.now, c.requires.input.few)

pub returns : goal.returns
returns g t c =
    let condition = c.is_keyword.ensures.0 c.if-not-is_keyword.false in
    let denial = c.is_keyword-2.ensures.0 c.if-not-is_keyword-2.false in
    let made = c.node.ensures in
    let form =
    c.in_ok-form.ensures ∙ (ap (λ v. forms.Conditional v c.in_ok-test_tree.test_tree c.in_ok-otherwise.otherwise.tree) c.in_ok-value_tree.ensures
    ∙ ap (λ v. forms.Conditional c.in_ok-value.value.tree v c.in_ok-otherwise.otherwise.tree) c.in_ok-test_tree.ensures) in
    conditional_read c.in_ok-value.ensures condition c.in_ok-room.ensures c.in_ok-test.ensures denial c.in_ok-otherwise.ensures form made.1 made.2 c.max.ensures c.max-depth.ensures
