use Rattle.std.proofs.Common.{ap, ◌∙◌}
use Rattle.px_lexer.specs.Words.{foreign_words}
use Rattle.px_lexer.specs.Spellings.{is_among}
use Rattle.px_lexer.proofs.WordLemmas.{is_among-filter}
use Rattle.px_lexer.proofs.words.is_foreign.Goals as goal

pub returns : goal.returns
returns c =
    let word = c.args.word.now in
    c.stands_in.ensures ∙ ap (λ spellings. is_among spellings word) c.foreign_of_len.ensures ∙ is_among-filter foreign_words word
