use Rattle.std.proofs.Common.{refl, sym, ◌∙◌}
use Rattle.std.proofs.lemmas.Bool.{false≢true}
use Rattle.px_lexer.proofs.NumberReading.{bad_end, from-le, not_decimal_good, padded_decides, end_inside}
use Rattle.px_lexer.proofs.numbers.is_bad.Goals as goal

pub returns-then-continues_word : goal.returns-then-continues_word
returns-then-continues_word c =
    (λ _. bad_end c.args.cs.now c.args.from c.args.literal.to (from-le c.args.cs.now c.args.from c.args.literal c.requires.whole) (sym c.continues_word.ensures ∙ c.if-continues_word.true), λ _. refl)

pub returns-then-not-is_decimal : goal.returns-then-not-is_decimal
returns-then-not-is_decimal c = (
  λ holds. absurd (false≢true holds),
  λ bad. absurd (not_decimal_good c.args.cs.now c.args.from c.args.literal c.requires.stands c.requires.whole (sym c.continues_word.ensures ∙ c.if-continues_word.false) (sym c.is_decimal.ensures ∙ c.if-not-is_decimal.true) bad),
)

pub is_padded-requires : goal.is_padded-requires
is_padded-requires c = end_inside c.args.cs.now c.args.from c.args.literal c.requires.stands c.requires.whole

pub returns : goal.returns
returns c =
    padded_decides c.args.cs.now c.args.from c.args.literal c.is_padded.result c.requires.stands c.requires.whole (sym c.continues_word.ensures ∙ c.if-continues_word.false) (sym c.is_decimal.ensures ∙ c.if-not-is_decimal.false) c.is_padded.ensures
