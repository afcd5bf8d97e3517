use Rattle.px_base.proofs.Facts.{denied}
use Rattle.px_parser.proofs.TokenShapes.{soft_answer}
use Rattle.px_parser.proofs.words.soft.Goals as goal

pub returns : goal.returns
returns c = soft_answer c.args.tokens.now c.args.at c.args.word.now _ _ c.requires.input c.requires.inside c.is_word.ensures.0 (denied c.is_word.ensures) c.token.ensures
