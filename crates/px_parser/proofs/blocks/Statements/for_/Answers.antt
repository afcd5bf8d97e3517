use Rattle.std.proofs.Common.{arith, subst, sym, ◌∙◌}
use Rattle.std.proofs.lemmas.Result.{err_from_is_err_and}
use Rattle.px_lexer.specs.Terminals.{terminals_of}
use Rattle.px_lexer.proofs.TokenAccess.{length_terminals}
use Rattle.px_parser.proofs.TokenShapes.{misread}
use Rattle.px_parser.proofs.Steps.{fails}
use Rattle.px_parser.proofs.CompoundSteps.{step_for_word, step_for_target, step_for_in, step_for_value, step_for_body, for_built, colon_inside, AreLoopTargets}
use Rattle.px_parser.proofs.ReadingSteps.{inside_tokens}
use Rattle.px_parser.proofs.blocks.Statements.for_.Goals as goal

pub returns-in_err-word : goal.returns-in_err-word
returns-in_err-word g c =
    let p = err_from_is_err_and c.from_residual.result c.from_residual.ensures.1 in
    rw (p.1, p.2) (fails (step_for_word (terminals_of c.args.tokens.now) c.args.from c.args.room) c.in_err-word.field-0.0 (misread (c.in_err-word.ensures c.args.room)))

pub loop_targets-requires-clause-inside : goal.loop_targets-requires-clause-inside
loop_targets-requires-clause-inside g c = inside_tokens c.args.tokens.now _ (c.in_ok-word.ensures c.args.room).within

pub returns-in_err-target : goal.returns-in_err-target
returns-in_err-target g c =
    let p = err_from_is_err_and c.from_residual-in_err-target.result c.from_residual-in_err-target.ensures.1 in
    rw (p.1, p.2) (fails (step_for_target (c.in_ok-word.ensures c.args.room)) c.in_err-target.field-0.0 (c.in_err-target.ensures c.args.room))

pub keyword-requires-2-clause-inside : goal.keyword-requires-2-clause-inside
keyword-requires-2-clause-inside g c = inside_tokens c.args.tokens.now _ (c.in_ok-target.ensures c.args.room).within

pub returns-in_err-behind : goal.returns-in_err-behind
returns-in_err-behind g c =
    let p = err_from_is_err_and c.from_residual-in_err-behind.result c.from_residual-in_err-behind.ensures.1 in
    rw (p.1, p.2) (fails (step_for_in (c.in_ok-word.ensures c.args.room) (c.in_ok-target.ensures c.args.room)) c.in_err-behind.field-0.0 (misread (c.in_err-behind.ensures c.args.room)))

pub values-requires-clause-inside : goal.values-requires-clause-inside
values-requires-clause-inside g c = inside_tokens c.args.tokens.now _ (c.in_ok-behind.ensures c.args.room).within

pub returns-in_err-value : goal.returns-in_err-value
returns-in_err-value g c =
    let p = err_from_is_err_and c.from_residual-in_err-value.result c.from_residual-in_err-value.ensures.1 in
    rw (p.1, p.2) (fails (step_for_value (c.in_ok-word.ensures c.args.room) (c.in_ok-target.ensures c.args.room) (c.in_ok-behind.ensures c.args.room)) c.in_err-value.field-0.0 (c.in_err-value.ensures c.args.room))

pub body-requires-clause-inside : goal.body-requires-clause-inside
body-requires-clause-inside g c = inside_tokens c.args.tokens.now _ (c.in_ok-value.ensures c.args.room).within

pub returns-in_err-body : goal.returns-in_err-body
returns-in_err-body g c =
    let p = err_from_is_err_and c.from_residual-in_err-body.result c.from_residual-in_err-body.ensures.1 in
    rw (p.1, p.2) (fails (step_for_body (c.in_ok-word.ensures c.args.room) (c.in_ok-target.ensures c.args.room) (c.in_ok-behind.ensures c.args.room) (c.in_ok-value.ensures c.args.room)) c.in_err-body.field-0.0 c.in_err-body.ensures)

pub compound-tree-requires-clause-small : goal.compound-tree-requires-clause-small
compound-tree-requires-clause-small g c = omega (arith, colon_inside c.in_ok-body.ensures, c.requires.input.input.few, length_terminals c.args.tokens.now)

pub returns : goal.returns
returns g c =
    let target = subst (λ e. AreLoopTargets (terminals_of c.args.tokens.now) c.in_ok-word.word.to c.args.room e c.in_ok-target.target.to)
    (sym (c.into_inner.ensures ∙ c.in_ok-target_tree.ensures)) (c.in_ok-target.ensures c.args.room) in
    for_built (c.in_ok-word.ensures c.args.room) target (c.in_ok-behind.ensures c.args.room) (c.in_ok-value.ensures c.args.room) c.in_ok-body.ensures c.compound-tree.ensures.1 c.in_ok-value_tree.ensures c.compound-tree.ensures.2
