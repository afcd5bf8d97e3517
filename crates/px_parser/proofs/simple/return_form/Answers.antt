use Rattle.std.proofs.Common.{refl}
use Rattle.std.proofs.lemmas.Result.{err_from_is_err_and}
use Rattle.px_base.proofs.Facts.{denied}
use Rattle.px_lexer.specs.Terminals.{terminals_of}
use Rattle.px_parser.proofs.TokenShapes.{misread}
use Rattle.px_parser.proofs.Steps.{fails}
use Rattle.px_parser.proofs.SimpleSteps.{return_first, return_value, return_none, return_answer}
use Rattle.px_parser.proofs.TokenSteps.{reading_inside}
use Rattle.px_parser.proofs.simple.return_form.Goals as goal

pub returns-in_err-word : goal.returns-in_err-word
returns-in_err-word c =
    let p = err_from_is_err_and c.from_residual.result c.from_residual.ensures.1 in
    λ room. rw (p.1, p.2) (fails (return_first (terminals_of c.args.tokens.now) c.args.from room) _ (misread (c.in_err-word.ensures room)))

pub returns-then-ends_simple : goal.returns-then-ends_simple
returns-then-ends_simple c = λ room. return_none (c.in_ok-word.ensures room) (c.if-ends_simple.ensures.0 refl)

pub values-requires-clause-inside : goal.values-requires-clause-inside
values-requires-clause-inside c = reading_inside c.args.tokens.now (c.in_ok-word.ensures 0)

pub returns-in_err-value : goal.returns-in_err-value
returns-in_err-value c =
    let p = err_from_is_err_and c.from_residual-in_err-value.result c.from_residual-in_err-value.ensures.1 in
    λ room. rw (p.1, p.2) (fails (return_value (c.in_ok-word.ensures room) (denied c.if-ends_simple.ensures refl)) _ (c.in_err-value.ensures room))

pub returns : goal.returns
returns c = λ room. return_answer (c.in_ok-word.ensures room) (c.in_ok-value.ensures room) _ c.keep_before_simple_end.ensures
