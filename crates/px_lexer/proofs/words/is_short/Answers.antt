use Rattle.std.proofs.Common.{arith}
use Rattle.std.proofs.lemmas.Bool.{false≢true}
use Rattle.std.proofs.lemmas.Str.{length-le-encodes}
use Rattle.px_lexer.proofs.WordLemmas.{length-encodes-more}
use Rattle.px_lexer.proofs.words.is_short.Goals as goal

pub returns-then-word-gt-IDENTIFIER_LIMIT : goal.returns-then-word-gt-IDENTIFIER_LIMIT
returns-then-word-gt-IDENTIFIER_LIMIT c =
    (λ wrong. absurd (false≢true wrong), λ short. absurd (omega (arith, length-le-encodes c.args.word.now, short)))

pub loop-c-preserved : goal.loop-c-preserved
loop-c-preserved c =
    let more = length-encodes-more c.args.word.now c.loop-c.c-index c.c-item.result c.len_utf8-size.result c.loop-c-test.true c.c-item.is c.len_utf8-size.ensures.value in
    record {
      counted = omega (arith, more, c.loop-c.invariant.counted);
      few = omega arith;
    }
