use Rattle.std.proofs.Common.{refl}
use Rattle.std.proofs.lemmas.Result.{err_from_is_err_and}
use Rattle.px_base.proofs.Facts.{denied}
use Rattle.px_lexer.specs.declared.spelling.Operator.TheVariants as sign
use Rattle.px_lexer.specs.declared.token_list.TokenKind.TheVariants as kind
use Rattle.px_lexer.specs.Terminals.{terminals_of}
use Rattle.px_parser.proofs.TokenShapes.{misread}
use Rattle.px_parser.proofs.Steps.{fails}
use Rattle.px_parser.proofs.SimpleSteps.{token_here, text_first, text_inside, text_unclosed, text_none, text_read}
use Rattle.px_parser.proofs.TextReadings.{text_unread, text_reading}
use Rattle.px_parser.proofs.TokenSteps.{reading_inside}
use Rattle.px_parser.proofs.simple.raised_text.Goals as goal

pub returns-in_err-opening : goal.returns-in_err-opening
returns-in_err-opening c =
    let p = err_from_is_err_and c.from_residual.result c.from_residual.ensures.1 in
    λ room. rw (p.1, p.2) (fails (text_first (terminals_of c.args.tokens.now) c.args.from room) _ (misread (c.in_err-opening.ensures room)))

pub returns-then-is_operator : goal.returns-then-is_operator
returns-then-is_operator c = λ room. text_none (c.in_ok-opening.ensures room)
    (token_here c.args.tokens.now c.in_ok-opening.opening.to room (kind.Operator sign.CloseParenthesis) c.requires.input (λ e. cc) (c.if-is_operator.ensures.0 refl))

pub expr-requires-clause-inside : goal.expr-requires-clause-inside
expr-requires-clause-inside c = reading_inside c.args.tokens.now (c.in_ok-opening.ensures 0)

pub returns-in_err-text : goal.returns-in_err-text
returns-in_err-text c =
    let p = err_from_is_err_and c.from_residual-in_err-text.result c.from_residual-in_err-text.ensures.1 in
    λ room. rw (p.1, p.2) (fails (text_inside (c.in_ok-opening.ensures room) (denied c.if-is_operator.ensures refl)) _ (text_unread (terminals_of c.args.tokens.now) c.in_ok-opening.opening.to room refl _ c.in_err-text.ensures))

pub operator-requires-2-clause-inside : goal.operator-requires-2-clause-inside
operator-requires-2-clause-inside c = reading_inside c.args.tokens.now (text_reading 0 refl c.in_ok-text.ensures)

pub returns-in_err-closing : goal.returns-in_err-closing
returns-in_err-closing c =
    let p = err_from_is_err_and c.from_residual-in_err-closing.result c.from_residual-in_err-closing.ensures.1 in
    λ room. rw (p.1, p.2) (text_unclosed (c.in_ok-opening.ensures room) (denied c.if-is_operator.ensures refl) (text_reading room refl c.in_ok-text.ensures) _ (misread (c.in_err-closing.ensures room)))

pub returns : goal.returns
returns c = λ room. rw (c.in_ok-text_tree.ensures) (text_read (c.in_ok-opening.ensures room) (text_reading room refl c.in_ok-text.ensures) (c.in_ok-closing.ensures room))
