use Rattle.std.proofs.Common.{sym, ◌∙◌}
use Rattle.px_lexer.proofs.NumberPlaces.{no_zero, no_letter, no_digit_behind, based_place}
use Rattle.px_lexer.proofs.numbers.based_literal.Goals as goal

pub returns-then-not-stands : goal.returns-then-not-stands
returns-then-not-stands c = no_zero c.args.cs.now c.args.from (sym c.if-not-stands.true ∙ c.stands.ensures.value)

pub returns-in_err-base : goal.returns-in_err-base
returns-in_err-base c = rw c.from_residual.ensures (no_letter c.args.cs.now c.args.from c.in_err-base.ensures.value)

pub returns-then-not-is_digit : goal.returns-then-not-is_digit
returns-then-not-is_digit c =
    no_digit_behind c.args.cs.now c.args.from c.letter_end-digits.result c.in_ok-base.base c.letter_end-digits.ensures c.in_ok-base.ensures.value.0 (sym c.if-not-is_digit.true ∙ c.is_digit.ensures.value)

pub returns : goal.returns
returns c =
    based_place c.args.cs.now c.args.from c.letter_end-digits.result c.digits_end-to.result c.in_ok-base.base c.letter_end-digits.ensures c.in_ok-base.ensures.value.0
    (sym c.if-not-stands.false ∙ c.stands.ensures.value) (sym c.if-not-is_digit.false ∙ c.is_digit.ensures.value) c.digits_end-to.ensures
