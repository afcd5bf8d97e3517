use Rattle.std.proofs.Common.{refl}
use Rattle.std.proofs.lemmas.Result.{err_from_is_err_and}
use Rattle.px_base.proofs.Facts.{denied}
use Rattle.px_lexer.specs.Terminals.{terminals_of}
use Rattle.px_parser.proofs.TokenShapes.{misread}
use Rattle.px_parser.proofs.Steps.{fails}
use Rattle.px_parser.proofs.SimpleSteps.{raise_first, raise_name, raise_text_fails, raise_answer, raise_text_answer}
use Rattle.px_parser.proofs.TokenSteps.{reading_inside}
use Rattle.px_parser.proofs.simple.raise_form.Goals as goal

pub returns-in_err-word : goal.returns-in_err-word
returns-in_err-word c =
    let p = err_from_is_err_and c.from_residual.result c.from_residual.ensures.1 in
    λ room. rw (p.1, p.2) (fails (raise_first (terminals_of c.args.tokens.now) c.args.from room) _ (misread (c.in_err-word.ensures room)))

pub identifier-requires-clause-inside : goal.identifier-requires-clause-inside
identifier-requires-clause-inside c = reading_inside c.args.tokens.now (c.in_ok-word.ensures 0)

pub returns-in_err-kind : goal.returns-in_err-kind
returns-in_err-kind c =
    let p = err_from_is_err_and c.from_residual-in_err-kind.result c.from_residual-in_err-kind.ensures.1 in
    λ room. rw (p.1, p.2) (fails (raise_name (c.in_ok-word.ensures room)) _ (c.in_err-kind.ensures room))

pub returns-then-not-is_operator : goal.returns-then-not-is_operator
returns-then-not-is_operator c = λ room. raise_answer (c.in_ok-word.ensures room) (c.in_ok-kind.ensures room) (denied c.if-not-is_operator.ensures refl) _ c.keep_before_simple_end.ensures

pub returns-in_err-text : goal.returns-in_err-text
returns-in_err-text c =
    let p = err_from_is_err_and c.from_residual-in_err-text.result c.from_residual-in_err-text.ensures.1 in
    λ room. rw (p.1, p.2) (raise_text_fails (c.in_ok-word.ensures room) (c.in_ok-kind.ensures room) (c.if-not-is_operator.ensures.0 refl) _ (c.in_err-text.ensures room))

pub returns : goal.returns
returns c = λ room. raise_text_answer (c.in_ok-word.ensures room) (c.in_ok-kind.ensures room) (c.if-not-is_operator.ensures.0 refl) (c.in_ok-text.ensures room) _ c.keep_before_simple_end-2.ensures
