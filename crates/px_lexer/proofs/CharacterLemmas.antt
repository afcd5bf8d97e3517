-- Characters as identifier characters, and the characters of a text.
use Rattle.std.proofs.Common.{◌≡◌, ℕ, zero, suc, ◌+◌, ◌<◌, ◌≤◌, ◌⊎◌, true, false, List, [], ◌∷◌, ◌++◌, length, take, drop, refl, ap, sym, ◌∙◌, ⊎_elim, arith, length-append, length-drop}
use Rattle.std.specs.Prelude.{IsTrue, nat_le, nat_lt, if◌then◌else◌, slice_index}
use Rattle.std.specs.Str.{chars, IsUtf8, all_scalars}
use Rattle.std.specs.Str.Lossy.{utf8_valid_len, valid_len_up_to}
use Rattle.std.proofs.lemmas.List.{get_or_past, get_or_append_left, length-take-le}
use Rattle.std.proofs.lemmas.List.Sums.{prefix_len-drop_yes, prefix_len-drop_no, prefix_len-drop_all}
use Rattle.std.proofs.lemmas.Bool.{leb-true, false≢true, cases_lt, lt-ltb, le-ltb, eq-eqb, ne_eqb, cond_both, and_parts}
use Rattle.std.proofs.lemmas.Str.{utf8_valid_len_le, IsUtf8-nil, IsUtf8-from_is_utf8, encodes-chars, scalars-chars, length-le-encodes}
use lib.Utf8.{scalar_cases}
use Rattle.unicode_ident.proofs.Computing.{unicode_ident}
use Rattle.px_lexer.specs.Characters.{unreadable, mark_len, characters_of, characters}
use Rattle.px_lexer.specs.Words.{starts_word, continues_word, word_len}

-- 0, as which a list reads past its end, is no identifier character
pub continues_word-zero : continues_word 0 ≡ false
unfolding unicode_ident
continues_word-zero = refl

pub starts_word-zero : starts_word 0 ≡ false
unfolding unicode_ident
starts_word-zero = refl

-- a place past the end, or where no character can be read, has no identifier character
pub continues_word-none : (cs : List ℕ) (i : ℕ) → IsTrue (nat_le (length cs) i) ⊎ (slice_index cs i ≡ unreadable) → continues_word (slice_index cs i) ≡ false
continues_word-none cs i none =
    ⊎_elim
    (λ past. ap continues_word (get_or_past cs i 0 (leb-true _ _ past)) ∙ continues_word-zero)
    (λ broken. ap continues_word broken)
    none

pub starts_word-none : (cs : List ℕ) (i : ℕ) → IsTrue (nat_le (length cs) i) ⊎ (slice_index cs i ≡ unreadable) → starts_word (slice_index cs i) ≡ false
starts_word-none cs i none =
    ⊎_elim
    (λ past. ap starts_word (get_or_past cs i 0 (leb-true _ _ past)) ∙ starts_word-zero)
    (λ broken. ap starts_word broken)
    none

-- so an identifier character stands inside
pub continues_word-inside : (cs : List ℕ) (i : ℕ) → continues_word (slice_index cs i) ≡ true → i < length cs
continues_word-inside cs i holds =
    ⊎_elim
    (λ inside. inside)
    (λ past. absurd (false≢true (sym (ap continues_word (get_or_past cs i 0 past) ∙ continues_word-zero) ∙ holds)))
    (cases_lt i (length cs))

-- how a word goes on at an index, and how it ends there
pub word_len-more : (cs : List ℕ) (i : ℕ) → continues_word (slice_index cs i) ≡ true → word_len (drop i cs) ≡ 1 + word_len (drop (i + 1) cs)
word_len-more cs i holds = prefix_len-drop_yes continues_word cs i 0 (continues_word-inside cs i holds) holds

pub word_len-ends : (cs : List ℕ) (i : ℕ) → continues_word (slice_index cs i) ≡ false → word_len (drop i cs) ≡ 0
word_len-ends cs i fails =
    ⊎_elim
    (λ inside. prefix_len-drop_no continues_word cs i 0 inside fails)
    (λ past. prefix_len-drop_all continues_word cs i past)
    (cases_lt i (length cs))

-- what is read of bytes: their front that is UTF-8, and `unreadable` where it is shorter
pub characters_of-front : (bytes front items : List ℕ) → front ≡ take (utf8_valid_len bytes) bytes → items ≡ chars front
    → items ++ (if nat_lt (length front) (length bytes) then unreadable ∷ [] else []) ≡ characters_of bytes
characters_of-front bytes front items is_front is_read =
    let within = utf8_valid_len_le bytes in
    let size : length front ≡ utf8_valid_len bytes = ap length is_front ∙ length-take-le (utf8_valid_len bytes) bytes within in
    let read : items ≡ chars (take (utf8_valid_len bytes) bytes) = is_read ∙ ap chars is_front in
    ⊎_elim
    (λ less. rw (read, size, lt-ltb (utf8_valid_len bytes) (length bytes) less, ne_eqb (utf8_valid_len bytes) (length bytes) (λ same. omega arith)) refl)
    (λ all. rw (read, size, le-ltb (utf8_valid_len bytes) (length bytes) all, eq-eqb (utf8_valid_len bytes) (length bytes) (omega arith)) refl)
    (cases_lt (utf8_valid_len bytes) (length bytes))

pub characters-front : (text bytes front items : List ℕ) → bytes ≡ drop (mark_len text) text → front ≡ take (utf8_valid_len bytes) bytes → items ≡ chars front
    → items ++ (if nat_lt (length front) (length bytes) then unreadable ∷ [] else []) ≡ characters text
unfolding characters
characters-front text bytes front items behind is_front is_read =
    characters_of-front bytes front items is_front is_read ∙ ap characters_of behind

-- the front that is read is UTF-8
valid_front : (bytes : List ℕ) (n : ℕ) → IsUtf8 (take (valid_len_up_to bytes n) bytes)
valid_front bytes zero = IsUtf8-nil
valid_front bytes (suc n) =
    cond_both _ (suc n) (valid_len_up_to bytes n) (λ k. IsUtf8 (take k bytes)) (λ valid. IsUtf8-from_is_utf8 _ valid) (λ _. valid_front bytes n)

IsUtf8-front : (bytes : List ℕ) → IsUtf8 (take (utf8_valid_len bytes) bytes)
unfolding utf8_valid_len
IsUtf8-front bytes = valid_front bytes (length bytes)

-- a character of UTF-8 is none that stands for an unreadable byte
scalars-at : (cs : List ℕ) (i : ℕ) → all_scalars cs ≡ true → slice_index cs i < unreadable
scalars-at [] i all = omega arith
scalars-at (c ∷ cs) zero all =
    ⊎_elim (λ low. omega (arith, low)) (λ high. omega (arith, high.1)) (scalar_cases c (and_parts _ _ all).0)
scalars-at (c ∷ cs) (suc i) all = scalars-at cs i (and_parts _ _ all).1

-- the characters that are read, and what stands behind them
record IsRead (bytes : List ℕ) (front rest : List ℕ) : Type 0 where
  pub all : characters_of bytes ≡ front ++ rest
  pub scalars : all_scalars front ≡ true
  pub short : length rest ≤ 1
  pub within : length front + length rest ≤ length bytes

read_of : (bytes : List ℕ) → (rest : List ℕ) × IsRead bytes (chars (take (utf8_valid_len bytes) bytes)) rest
read_of bytes =
    let n = utf8_valid_len bytes in
    let front = chars (take n bytes) in
    let within = utf8_valid_len_le bytes in
    let valid = IsUtf8-front bytes in
    let fewer : length front ≤ n =
    omega (arith, length-le-encodes front, ap length (encodes-chars (take n bytes) valid), length-take-le n bytes within) in
    ⊎_elim
    (λ (less : n < length bytes). (
      unreadable ∷ [],
      record {
        all = ap (λ b. front ++ (if b then [] else unreadable ∷ [])) (ne_eqb n (length bytes) (λ same. omega arith));
        scalars = scalars-chars (take n bytes) valid;
        short = omega arith;
        within = omega arith;
      },
    ))
    (λ (whole : length bytes ≤ n). (
      [],
      record {
        all = ap (λ b. front ++ (if b then [] else unreadable ∷ [])) (eq-eqb n (length bytes) (omega arith));
        scalars = scalars-chars (take n bytes) valid;
        short = omega arith;
        within = omega arith;
      },
    ))
    (cases_lt n (length bytes))

read_short : (bytes front rest : List ℕ) → IsRead bytes front rest → length (characters_of bytes) ≤ length bytes
read_short bytes front rest read = omega (arith, read.within, ap length read.all, length-append front rest)

read_last : (bytes front rest : List ℕ) (i : ℕ) → IsRead bytes front rest → i < length (characters_of bytes) → slice_index (characters_of bytes) i ≡ unreadable → suc i ≡ length (characters_of bytes)
read_last bytes front rest i read inside is =
    let size = ap length read.all ∙ length-append front rest in
    let short = read.short in
    ⊎_elim
    (λ (early : i < length front).
    let code = scalars-at front i read.scalars in
    let same : slice_index (characters_of bytes) i ≡ slice_index front i = ap (λ cs. slice_index cs i) read.all ∙ get_or_append_left front rest 0 i early in
    absurd (omega (arith, code, same, is)))
    (λ (late : length front ≤ i). omega arith)
    (cases_lt i (length front))

-- a text has no more characters than bytes
pub characters_short : (text : List ℕ) → length (characters text) ≤ length text
unfolding characters
characters_short text =
    let bytes = drop (mark_len text) text in
    let read = read_of bytes in
    omega (arith, read_short bytes _ read.0 read.1, length-drop (mark_len text) text)

-- where a byte can't be read, no further character stands
pub unreadable_last : (text : List ℕ) (i : ℕ) → i < length (characters text) → slice_index (characters text) i ≡ unreadable → suc i ≡ length (characters text)
unfolding characters
unreadable_last text i inside is =
    let bytes = drop (mark_len text) text in
    let read = read_of bytes in
    read_last bytes _ read.0 i read.1 inside is
