use Rattle.px_base.proofs.Facts.{denied}
use Rattle.px_lexer.specs.declared.token_list.TokenKind.TheVariants as kind
use Rattle.px_parser.proofs.TokenShapes.{token_answer}
use Rattle.px_parser.proofs.words.newline.Goals as goal

pub returns : goal.returns
returns c = token_answer c.args.tokens.now c.args.at kind.Newline _ _ c.requires.input (λ e. cc) c.requires.inside c.is_newline.ensures.0 (denied c.is_newline.ensures) c.token.ensures
