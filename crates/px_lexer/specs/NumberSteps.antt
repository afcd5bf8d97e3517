-- How far the reader of numbers goes at each of its steps, and what it keeps.
use Prim.Native.Char.{code}
use Rattle.std.specs.Prelude.{◌≡◌, ℕ, suc, ◌+◌, ◌*◌, Bool, true, false, Option, MatchOption, ◌&&◌, ◌||◌, List, [], ◌∷◌, ◌==◌, if◌then◌else◌, drop, slice_index}
use Rattle.std.specs.Char.{is_digit, digit_value}
use Rattle.px_lexer.specs.Numbers.{underscore, zero_digit, base_of}
use Rattle.px_lexer.specs.declared.numbers.Literal.{Literal}

-- how many characters behind a digit go on with digits of the base, and with underscores that stand alone between two
unfoldable pub tail_len : ℕ → List ℕ → ℕ
tail_len base [] = 0
tail_len base (c ∷ cs) =
    if is_digit c base || c == underscore && is_digit (slice_index cs 0) base then suc (tail_len base cs) else 0

-- how many characters the digits of the base at the front have
unfoldable pub digits_len : ℕ → List ℕ → ℕ
digits_len base [] = 0
digits_len base (c ∷ cs) = if is_digit c base then suc (tail_len base cs) else 0

-- how many a point and the digits behind it have
unfoldable pub point_len : List ℕ → ℕ
point_len cs = if slice_index cs 0 == code "." then suc (digits_len 10 (drop 1 cs)) else 0

-- how many stand before the digits of an exponent
unfoldable pub sign_len : List ℕ → ℕ
sign_len cs = if slice_index cs 1 == code "+" || slice_index cs 1 == code "-" then 2 else 1

-- how many an exponent has
unfoldable pub exponent_len : List ℕ → ℕ
exponent_len cs =
    if (slice_index cs 0 == code "e" || slice_index cs 0 == code "E") && is_digit (slice_index cs (sign_len cs)) 10
    then sign_len cs + digits_len 10 (drop (sign_len cs) cs) else 0

-- how many the suffix has
unfoldable pub suffix_len : List ℕ → ℕ
suffix_len cs = if slice_index cs 0 == code "j" then 1 else 0

-- digits, and a point
unfoldable pub front_len : List ℕ → ℕ
front_len cs = digits_len 10 cs + point_len (drop (digits_len 10 cs) cs)

-- these and an exponent
unfoldable pub floating_len : List ℕ → ℕ
floating_len cs = front_len cs + exponent_len (drop (front_len cs) cs)

-- these and the suffix
unfoldable pub decimal_len : List ℕ → ℕ
decimal_len cs = floating_len cs + suffix_len (drop (floating_len cs) cs)

-- how many stand before the digits behind a letter for their base
unfoldable pub letter_len : List ℕ → ℕ
letter_len cs = if slice_index cs 2 == underscore then 3 else 2

-- 0, a letter for a base, and a digit of it
unfoldable pub is_based : List ℕ → Bool
is_based cs = slice_index cs 0 == zero_digit && is_digit (slice_index cs (letter_len cs)) (base_of (slice_index cs 1))

-- where the digits of the whole number at the front begin
unfoldable pub digits_start : List ℕ → ℕ
digits_start cs = if is_based cs then letter_len cs else 0

-- the base of these digits
unfoldable pub radix_of : List ℕ → ℕ
radix_of cs = if is_based cs then base_of (slice_index cs 1) else 10

-- where these digits end
unfoldable pub whole_len : List ℕ → ℕ
whole_len cs = digits_start cs + digits_len (radix_of cs) (drop (digits_start cs) cs)

-- where the literal ends
unfoldable pub numeral_len : List ℕ → ℕ
numeral_len cs = if is_based cs then whole_len cs else decimal_len cs

-- the literal at the front of these characters, which stand at this index
pub record IsNumeralAt (cs : List ℕ) (from : ℕ) (literal : Literal) : Type 0 where
  pub base : literal.base ≡ radix_of cs
  pub digits : literal.digits ≡ from + digits_start cs
  pub whole : literal.whole ≡ from + whole_len cs
  pub to : literal.to ≡ from + numeral_len cs

-- the same where it has a letter for its base; else none
abbrev pub IsBasedAt : List ℕ → ℕ → Option Literal → Type 0
IsBasedAt cs from found = MatchOption found (is_based cs ≡ false) (λ literal. (is_based cs ≡ true) × IsNumeralAt cs from literal)

-- the literal without a letter for its base
pub record IsDecimalAt (cs : List ℕ) (from : ℕ) (literal : Literal) : Type 0 where
  pub base : literal.base ≡ 10
  pub digits : literal.digits ≡ from
  pub whole : literal.whole ≡ from + digits_len 10 cs
  pub to : literal.to ≡ from + decimal_len cs

-- a number with one more digit, or an underscore, behind its own
abbrev pub with_digit : ℕ → ℕ → ℕ → ℕ
with_digit base value c = if c == underscore then value else value * base + digit_value c
