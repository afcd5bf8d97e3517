-- Numeric literals (Python Language Reference, 2.4.4 to 2.4.7). Of these the language has the whole numbers alone.
use Prim.Native.Char.{code}
use Rattle.std.specs.Prelude.{◌≡◌, ◌≢◌, ℕ, ◌+◌, ◌*◌, ◌^◌, ◌⊎◌, Bool, not, ◌||◌, List, [], ◌∷◌, ◌++◌, ◌==◌, if◌then◌else◌, IsTrue, IsFalse, fold, filter, slice_index}
use Rattle.std.specs.List.{list_all}
use Rattle.std.specs.Char.{is_ascii_digit, is_digit, digit_value}

abbrev pub underscore : ℕ
underscore = code "_"

abbrev pub zero_digit : ℕ
zero_digit = code "0"

-- digits, between two of which one underscore may stand
pub data IsDigits (test : ℕ → Bool) : List ℕ → Type 0 where
  last : {c : ℕ} → IsTrue (test c) → IsDigits test (c ∷ [])
  next : {c : ℕ} {cs : List ℕ} → IsTrue (test c) → IsDigits test cs → IsDigits test (c ∷ cs)
  parted : {c between : ℕ} {cs : List ℕ} → IsTrue (test c) → between ≡ underscore → IsDigits test cs
      → IsDigits test (c ∷ between ∷ cs)

-- the number that digits of this base write, underscores aside
abbrev pub digits_value : ℕ → List ℕ → ℕ
digits_value base digits = fold (λ value c. value * base + digit_value c) 0 (filter (λ c. not (c == underscore)) digits)

-- digits from 0 to 9
abbrev pub IsDecimal : List ℕ → Type 0
IsDecimal = IsDigits is_ascii_digit

-- the base that the letter behind a 0 names; other letters name the base 0, which has no digits
abbrev pub base_of : ℕ → ℕ
base_of letter =
    if letter == code "x" || letter == code "X" then 16
    else (if letter == code "o" || letter == code "O" then 8
    else (if letter == code "b" || letter == code "B" then 2 else 0))

-- 0 and a letter, and digits of the letter's base, before which an underscore may stand
pub record IsBased (spelling : List ℕ) (letter : ℕ) (digits : List ℕ) : Type 0 where
  pub formed : IsDigits (λ c. is_digit c (base_of letter)) digits
  pub spelled : (spelling ≡ zero_digit ∷ letter ∷ digits) ⊎ (spelling ≡ zero_digit ∷ letter ∷ underscore ∷ digits)

-- 2.4.6 Floating point literals

-- a point and digits
pub record IsFraction (spelling : List ℕ) : Type 0 where
  pub digits : List ℕ
  pub formed : IsDecimal digits
  pub spelled : spelling ≡ code "." ∷ digits

pub data IsPointFloat (spelling : List ℕ) : Type 0 where
  fraction_alone : IsFraction spelling → IsPointFloat spelling
  with_fraction : (whole fraction : List ℕ) → IsDecimal whole → IsFraction fraction → spelling ≡ whole ++ fraction
      → IsPointFloat spelling
  with_point : (whole : List ℕ) → IsDecimal whole → spelling ≡ whole ++ code "." ∷ [] → IsPointFloat spelling

-- `e` or `E`, a sign or none, and digits
pub data IsExponent (spelling : List ℕ) : Type 0 where
  signed : (e sign : ℕ) (digits : List ℕ) → IsTrue (e == code "e" || e == code "E")
      → IsTrue (sign == code "+" || sign == code "-") → IsDecimal digits → spelling ≡ e ∷ sign ∷ digits
      → IsExponent spelling
  unsigned : (e : ℕ) (digits : List ℕ) → IsTrue (e == code "e" || e == code "E") → IsDecimal digits
      → spelling ≡ e ∷ digits → IsExponent spelling

pub data IsFloatingPoint (spelling : List ℕ) : Type 0 where
  point : IsPointFloat spelling → IsFloatingPoint spelling
  exponent : (front exponent : List ℕ) → IsDecimal front ⊎ IsPointFloat front → IsExponent exponent
      → spelling ≡ front ++ exponent → IsFloatingPoint spelling

-- 2.4.7 Imaginary literals: digits or a floating point literal, and the suffix `j`
pub record IsImaginary (spelling : List ℕ) : Type 0 where
  pub front : List ℕ
  pub formed : IsDecimal front ⊎ IsFloatingPoint front
  pub spelled : spelling ≡ front ++ code "j" ∷ []

-- a literal with a point, an exponent or the suffix
abbrev pub IsFloat : List ℕ → Type 0
IsFloat spelling = IsFloatingPoint spelling ⊎ IsImaginary spelling

-- any numeric literal, also one that the language refuses
pub data IsNumeral (spelling : List ℕ) : Type 0 where
  decimal : IsDecimal spelling → IsNumeral spelling
  based : (letter : ℕ) (digits : List ℕ) → IsBased spelling letter digits → IsNumeral spelling
  float : IsFloat spelling → IsNumeral spelling

-- 2.4.5 Integer literals

-- each digit is a 0
abbrev pub is_zero : List ℕ → Bool
is_zero digits = list_all (λ c. c == zero_digit || c == underscore) digits

-- a whole number and its value: 0, also repeated, a decimal that doesn't begin with 0, or one with a letter for its base
pub data IsWhole (spelling : List ℕ) (value : ℕ) : Type 0 where
  zero : IsDecimal spelling → IsTrue (is_zero spelling) → value ≡ 0 → IsWhole spelling value
  decimal : IsDecimal spelling → slice_index spelling 0 ≢ zero_digit → value ≡ digits_value 10 spelling → IsWhole spelling value
  based : (letter : ℕ) (digits : List ℕ) → IsBased spelling letter digits
      → value ≡ digits_value (base_of letter) digits → IsWhole spelling value

-- a decimal that begins with 0 and isn't 0
pub record HasLeadingZero (spelling : List ℕ) : Type 0 where
  pub digits : IsDecimal spelling
  pub leading : slice_index spelling 0 ≡ zero_digit
  pub other : IsFalse (is_zero spelling)

-- whole numbers are below this one
abbrev pub number_limit : ℕ
number_limit = 2 ^ 127
