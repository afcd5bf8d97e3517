-- Lines and columns of places, and how one place follows another.
use Rattle.std.proofs.Common.{◌≡◌, ℕ, zero, suc, ◌+◌, ◌<◌, ◌≤◌, ◌⊎◌, Bool, true, false, List, [], ◌∷◌, ◌++◌, length, take, refl, ap, subst, ◌∙◌, inl, inr, ⊎_elim, arith, length-append, add-one, add-zero}
use Rattle.std.specs.Prelude.{IsTrue, if◌then◌else◌, slice_index, encode_utf8_all}
use Rattle.std.specs.Char.{len_utf8}
use lib.Utf8.{encode}
use Rattle.std.proofs.lemmas.Bool.{cases_lt}
use Rattle.std.proofs.lemmas.List.{take_more}
use Rattle.std.proofs.lemmas.Str.{encodes-append, length-encode}
use Rattle.px_base.specs.Findings.{comes_first}
use Rattle.px_base.proofs.FirstFindings.{comes_first-line, comes_first-column, comes_first-number}
use Rattle.px_lexer.specs.declared.places.Place.{Place}
use Rattle.px_lexer.specs.declared.places.Source.{Source}
use Rattle.px_lexer.specs.Places.{ends_line, lines_before, columns_before, refusal_at}
use Rattle.px_lexer.specs.Characters.{characters, byte_of}
use Rattle.px_lexer.specs.Tokens.{size_limit}
use Rattle.px_lexer.specs.Reached.{IsPlace, IsSource}
use Rattle.px_lexer.specs.Readers.{IsNotAfter}
use Rattle.px_lexer.proofs.CharacterLemmas.{characters_short}

-- one line and column stand before another
abbrev IsLater : ℕ → ℕ → ℕ → ℕ → Type 0
IsLater line column line' column' = (line < line') ⊎ ((line ≡ line') × (column < column'))

later_step : (ends : Bool) (line column line' column' : ℕ) → IsLater line column line' column' ⊎ ((line ≡ line') × (column ≡ column'))
    → IsLater line column (if ends then suc line' else line') (if ends then 0 else suc column')
later_step true line column line' column' before =
    inl (⊎_elim (⊎_elim (λ (less : line < line'). omega arith) (λ same. omega (arith, same.0))) (λ same. omega (arith, same.0)) before)
later_step false line column line' column' before =
    ⊎_elim (⊎_elim (λ (less : line < line'). inl less) (λ same. inr (same.0, omega (arith, same.1)))) (λ same. inr (same.0, omega (arith, same.1))) before

-- a later character stands on a later line, or in a later column of the same one
pub place_later : (cs : List ℕ) (i j : ℕ) → i < j → (lines_before cs i < lines_before cs j) ⊎ ((lines_before cs i ≡ lines_before cs j) × (columns_before cs i < columns_before cs j))
unfolding lines_before columns_before
place_later cs i zero less = absurd (omega arith)
place_later cs i (suc j) less =
    later_step (ends_line cs j) _ _ _ _ (⊎_elim
    (λ (before : i < j). inl (place_later cs i j before))
    (λ (last : j ≤ i). let same : i ≡ j = omega arith in inr (ap (lines_before cs) same, ap (columns_before cs) same))
    (cases_lt i j))

-- of two refusals at characters the one at the earlier comes first, and at one character the one with the smaller number
pub comes_first_by_place : (cs : List ℕ) (rule i other j : ℕ) → IsNotAfter rule i other j → IsTrue (comes_first (refusal_at cs rule i) (refusal_at cs other j))
comes_first_by_place cs rule i other j before =
    ⊎_elim
    (λ (less : i < j). ⊎_elim
    (λ (line : lines_before cs i < lines_before cs j). comes_first-line (refusal_at cs rule i) (refusal_at cs other j) (omega arith))
    (λ same. comes_first-column (refusal_at cs rule i) (refusal_at cs other j) (ap (λ n. 1 + n) same.0) (omega (arith, same.1)))
    (place_later cs i j less))
    (λ same. comes_first-number (refusal_at cs rule i) (refusal_at cs other j) (ap (λ k. 1 + lines_before cs k) same.0) (ap (λ k. 1 + columns_before cs k) same.0) same.1)
    before

-- one character more

lines_more : (cs : List ℕ) (i : ℕ) → ends_line cs i ≡ true → lines_before cs (i + 1) ≡ suc (lines_before cs i)
unfolding lines_before
lines_more cs i ends = rw (add-one, ends) refl

lines_same : (cs : List ℕ) (i : ℕ) → ends_line cs i ≡ false → lines_before cs (i + 1) ≡ lines_before cs i
unfolding lines_before
lines_same cs i goes_on = rw (add-one, goes_on) refl

columns_new : (cs : List ℕ) (i : ℕ) → ends_line cs i ≡ true → columns_before cs (i + 1) ≡ 0
unfolding columns_before
columns_new cs i ends = rw (add-one, ends) refl

columns_more : (cs : List ℕ) (i : ℕ) → ends_line cs i ≡ false → columns_before cs (i + 1) ≡ suc (columns_before cs i)
unfolding columns_before
columns_more cs i goes_on = rw (add-one, goes_on) refl

encoded_one : (c : ℕ) → length (encode_utf8_all (c ∷ [])) ≡ len_utf8 c
encoded_one c = length-append (encode c) [] ∙ add-zero _ ∙ length-encode c

-- the byte of the next character
byte_more : (text : List ℕ) (i : ℕ) → i < length (characters text) → byte_of text (i + 1) ≡ byte_of text i + len_utf8 (slice_index (characters text) i)
byte_more text i inside =
    let cs = characters text in
    let c = slice_index cs i in
    let all : encode_utf8_all (take (i + 1) cs) ≡ encode_utf8_all (take i cs) ++ encode_utf8_all (c ∷ []) =
    ap encode_utf8_all (take_more cs i 0 inside) ∙ encodes-append (take i cs) (c ∷ []) in
    omega (arith, ap length all ∙ length-append (encode_utf8_all (take i cs)) (encode_utf8_all (c ∷ [])), encoded_one c)

next_line_of : (text : List ℕ) (place : Place) (width : ℕ) → IsPlace text place → place.index < length (characters text)
    → width ≡ len_utf8 (slice_index (characters text) place.index) → ends_line (characters text) place.index ≡ true
    → IsPlace text (record { index = place.index + 1; line = place.line + 1; column = 1; byte = place.byte + width })
next_line_of text place width there inside wide ends = record {
  line = omega (arith, there.line, lines_more (characters text) place.index ends);
  column = omega (arith, columns_new (characters text) place.index ends);
  byte = omega (arith, there.byte, byte_more text place.index inside, wide);
}

next_column_of : (text : List ℕ) (place : Place) (width : ℕ) → IsPlace text place → place.index < length (characters text)
    → width ≡ len_utf8 (slice_index (characters text) place.index) → ends_line (characters text) place.index ≡ false
    → IsPlace text (record { index = place.index + 1; line = place.line; column = place.column + 1; byte = place.byte + width })
next_column_of text place width there inside wide goes_on = record {
  line = omega (arith, there.line, lines_same (characters text) place.index goes_on);
  column = omega (arith, there.column, columns_more (characters text) place.index goes_on);
  byte = omega (arith, there.byte, byte_more text place.index inside, wide);
}

-- the place behind a character that ends a line
pub next_line : (source : Source) → IsSource source → (place : Place) (width : ℕ) → IsPlace source.text.now place → place.index < length source.characters
    → width ≡ len_utf8 (slice_index source.characters place.index) → ends_line source.characters place.index ≡ true
    → IsPlace source.text.now (record { index = place.index + 1; line = place.line + 1; column = 1; byte = place.byte + width })
next_line source whole place width there inside wide ends =
    let text = source.text.now in
    next_line_of text place width there (subst (λ cs. place.index < length cs) whole.whole inside)
    (subst (λ cs. width ≡ len_utf8 (slice_index cs place.index)) whole.whole wide)
    (subst (λ cs. ends_line cs place.index ≡ true) whole.whole ends)

-- the place behind another character
pub next_column : (source : Source) → IsSource source → (place : Place) (width : ℕ) → IsPlace source.text.now place → place.index < length source.characters
    → width ≡ len_utf8 (slice_index source.characters place.index) → ends_line source.characters place.index ≡ false
    → IsPlace source.text.now (record { index = place.index + 1; line = place.line; column = place.column + 1; byte = place.byte + width })
next_column source whole place width there inside wide goes_on =
    let text = source.text.now in
    next_column_of text place width there (subst (λ cs. place.index < length cs) whole.whole inside)
    (subst (λ cs. width ≡ len_utf8 (slice_index cs place.index)) whole.whole wide)
    (subst (λ cs. ends_line cs place.index ≡ false) whole.whole goes_on)

-- a text that isn't too large has few characters
pub few_characters : (text cs : List ℕ) → cs ≡ characters text → length text ≤ size_limit → length cs ≤ 1048576
few_characters text cs whole small = omega (arith, ap length whole, characters_short text)
