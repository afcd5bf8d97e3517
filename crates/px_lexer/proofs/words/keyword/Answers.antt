use Rattle.std.proofs.Common.{ap, ◌∙◌}
use Rattle.px_lexer.specs.Words.{keywords}
use Rattle.px_lexer.specs.Spellings.{meaning_in}
use Rattle.px_lexer.proofs.WordLemmas.{meaning_in-filter}
use Rattle.px_lexer.proofs.words.keyword.Goals as goal

pub returns : goal.returns
returns c =
    let word = c.args.word.now in
    c.meaning.ensures ∙ ap (λ rows. meaning_in rows word) c.keywords_of_len.ensures ∙ meaning_in-filter keywords word
