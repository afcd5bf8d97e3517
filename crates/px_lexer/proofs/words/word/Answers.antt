use Rattle.std.proofs.Common.{subst, MatchOption}
use Rattle.px_lexer.specs.Words.{IsWordKind}
use Rattle.px_lexer.specs.Refusals.{IsBadWord}
use Rattle.px_lexer.proofs.WordLemmas.{EndsAt-word, word_readable, word_read, word_unread}
use Rattle.px_lexer.proofs.words.word.Goals as goal

pub between-requires-clause-forward : goal.between-requires-clause-forward
between-requires-clause-forward c = (EndsAt-word c.args.cs.now c.args.from c.word_end-to.result c.requires c.word_end-to.ensures).forward

pub between-requires-clause-within : goal.between-requires-clause-within
between-requires-clause-within c = (EndsAt-word c.args.cs.now c.args.from c.word_end-to.result c.requires c.word_end-to.ensures).within

pub between-requires-clause-readable : goal.between-requires-clause-readable
between-requires-clause-readable c = word_readable c.args.cs.now c.args.from c.word_end-to.result c.requires c.word_end-to.ensures

pub returns-in-Some : goal.returns-in-Some
returns-in-Some c =
    let ends = EndsAt-word c.args.cs.now c.args.from c.word_end-to.result c.requires c.word_end-to.ensures in
    let word = c.between.result.now in
    let has = subst (λ found. MatchOption found (IsBadWord word) (IsWordKind word)) c.in-Some.is c.in_ok-kind.ensures in
    word_read c.args.cs.now word c.args.from c.word_end-to.result c.in-Some.kind ends c.between.ensures has

pub returns-in-None : goal.returns-in-None
returns-in-None c =
    let ends = EndsAt-word c.args.cs.now c.args.from c.word_end-to.result c.requires c.word_end-to.ensures in
    let word = c.between.result.now in
    let bad = subst (λ found. MatchOption found (IsBadWord word) (IsWordKind word)) c.in-None.is c.in_ok-kind.ensures in
    word_unread c.args.cs.now word c.args.from c.word_end-to.result ends c.between.ensures bad
