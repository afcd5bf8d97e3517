use Rattle.std.proofs.Common.{sym}
use Rattle.px_lexer.proofs.CharacterLemmas.{continues_word-none}
use Rattle.px_lexer.proofs.characters.Characters.continues_word.Goals as goal

pub returns-in-None : goal.returns-in-None
returns-in-None c = sym (continues_word-none c.args.self.now c.args.at c.in-None.ensures)
