use Rattle.std.proofs.Common.{refl}
use Rattle.px_lexer.proofs.Reaching.{reached_nothing}
use Rattle.px_lexer.proofs.reader.Reader.new.Goals as goal

pub returns-clause-reached : goal.returns-clause-reached
returns-clause-reached c =
    reached_nothing _ _ c.text_start-start.ensures.place c.text_start-start.ensures.near c.text_start-start.ensures.index refl refl refl refl c.new.ensures.items refl c.new-2.ensures c.new-3.ensures
