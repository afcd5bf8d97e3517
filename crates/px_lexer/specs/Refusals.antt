-- Where a text breaks a rule of the lexer.
use Prim.Native.Char.{code}
use Rattle.std.specs.Prelude.{◌≡◌, ◌≢◌, ℕ, ◌+◌, ◌-◌, ◌<◌, ◌≤◌, ◌⊎◌, List, length, take, drop, nat_lt, slice_index, IsTrue, IsFalse, MatchBool, None}
use Rattle.px_base.specs.declared.refusals.Refusal.{Refusal}
use Rattle.px_lexer.specs.declared.forms.Form.{Form}
use Rattle.px_lexer.specs.declared.forms.Form.TheVariants as form
use Rattle.px_lexer.specs.Characters.{unreadable, characters}
use Rattle.px_lexer.specs.Places.{refusal_at}
use Rattle.px_lexer.specs.Spellings.{meaning_in, is_among}
use Rattle.px_lexer.specs.Words.{keywords, foreign_words, IsIdentifier, continues_word}
use Rattle.px_lexer.specs.Numbers.{IsFloat, IsWhole, HasLeadingZero, number_limit}
use Rattle.px_lexer.specs.Strings.{IsBodyLen, is_closed, body_start, body_of, prefix_of, is_raw, IsBadEscape}
use Rattle.px_lexer.specs.Pieces.{Piece, IsPiece, AreBetween}
use Rattle.px_lexer.specs.Lines.{Line, AreLines, has_content, level_of, levels_of, indentation_end, Lands}
use Rattle.px_lexer.specs.Tokens.{size_limit}

-- E1: the character that can't be read
abbrev pub IsNotReadable : List ℕ → ℕ → Type 0
IsNotReadable cs i = (i < length cs) × (slice_index cs i ≡ unreadable)

-- Rules that a piece breaks. The first n characters are the piece.

-- E2: a character that begins no token, and can be read
abbrev pub IsBadCharacter : List ℕ → Type 0
IsBadCharacter cs = slice_index cs 0 ≢ unreadable

-- E2: a word that is no keyword and no foreign word, and is outside NFKC or too long for an identifier
pub record IsBadWord (word : List ℕ) : Type 0 where
  pub no_keyword : meaning_in keywords word ≡ None
  pub not_foreign : IsFalse (is_among foreign_words word)
  pub wrong : IsIdentifier word → ⊥

-- E2: a decimal without a letter, point or exponent that begins with 0 and isn't 0, or a number that an identifier character
-- follows
abbrev pub IsBadNumber : List ℕ → ℕ → Type 0
IsBadNumber cs n = HasLeadingZero (take n cs) ⊎ IsTrue (continues_word (slice_index cs n))

-- E8: a number with a point, an exponent or the suffix j
abbrev pub IsFloatLiteral : List ℕ → ℕ → Type 0
IsFloatLiteral cs n = IsFloat (take n cs)

-- E9: a whole number of 2^127 or more
pub record IsTooWide (cs : List ℕ) (n : ℕ) : Type 0 where
  pub value : ℕ
  pub whole : IsWhole (take n cs) value
  pub wide : number_limit ≤ value

-- E2: the character at the index i is a wrong escape in the body of a string that isn't raw
pub record HasBadEscape (cs : List ℕ) (i : ℕ) : Type 0 where
  pub body : ℕ
  pub whole : IsBodyLen cs body
  pub not_raw : IsFalse (is_raw (prefix_of cs))
  pub index : ℕ
  pub placed : i ≡ body_start cs + index
  pub wrong : IsBadEscape (body_of cs body) index

-- E4: a string that meets a line end, or the end of the text; before a character that can't be read it is E1 there
pub record IsNotEnded (cs : List ℕ) : Type 0 where
  pub body : ℕ
  pub whole : IsBodyLen cs body
  pub open_end : IsFalse (is_closed cs body)
  pub readable : slice_index cs (body_start cs + body) ≢ unreadable

-- the piece of this form, which is the first n characters, breaks the rule with this number at the character with the index i
pub data BreaksIn (found : Form) (cs : List ℕ) (n rule i : ℕ) : Type 0 where
  bad_character : found ≡ form.Stray → rule ≡ 2 → i ≡ 0 → IsBadCharacter cs → BreaksIn found cs n rule i
  bad_word : found ≡ form.Word → rule ≡ 2 → i ≡ 0 → IsBadWord (take n cs) → BreaksIn found cs n rule i
  bad_number : found ≡ form.Number → rule ≡ 2 → i ≡ 0 → IsBadNumber cs n → BreaksIn found cs n rule i
  float_literal : found ≡ form.Number → rule ≡ 8 → i ≡ 0 → IsFloatLiteral cs n → BreaksIn found cs n rule i
  literal_too_wide : found ≡ form.Number → rule ≡ 9 → i ≡ 0 → IsTooWide cs n → BreaksIn found cs n rule i
  bad_escape : found ≡ form.Text → rule ≡ 2 → HasBadEscape cs i → BreaksIn found cs n rule i
  string_not_ended : found ≡ form.Text → rule ≡ 4 → i ≡ 0 → IsNotEnded cs → BreaksIn found cs n rule i

-- a piece of the text breaks the rule at this character
pub record BreaksInPiece (cs : List ℕ) (rule i : ℕ) : Type 0 where
  pub before : List Piece
  pub piece : Piece
  pub reached : AreBetween cs 0 before piece.from
  pub stands : IsPiece cs piece
  pub index : ℕ
  pub broken : BreaksIn piece.form (drop piece.from cs) (piece.to - piece.from) rule index
  pub placed : i ≡ piece.from + index

-- Rules that the indentation of a line breaks

-- the indentation ends with this character, behind lines of these indentations, and breaks the rule with this number there: a
-- form feed behind its spaces is E2; a tab, and a line that is shallower than the last one and lands on no open level, are E3
pub data IsMisindented (cs : List ℕ) (levels : List ℕ) (level rule i : ℕ) : Type 0 where
  form_feed : rule ≡ 2 → slice_index cs i ≡ code "\u{c}" → IsMisindented cs levels level rule i
  tab : rule ≡ 3 → slice_index cs i ≡ code "\t" → IsMisindented cs levels level rule i
  no_level : rule ≡ 3 → (Lands levels level → ⊥) → IsMisindented cs levels level rule i

-- a line with content, which begins with these pieces, breaks the rule at the first character after its indentation
pub record BreaksInLine (cs : List ℕ) (rule i : ℕ) : Type 0 where
  pub before : List Line
  pub pieces : List Piece
  pub to : ℕ
  pub cut : AreLines cs before pieces to
  pub content : IsTrue (has_content pieces)
  pub placed : i ≡ indentation_end cs pieces
  pub broken : IsMisindented cs (levels_of cs before) (level_of cs pieces) rule i

-- the rule with this number is broken at this character
pub data BreaksAt (cs : List ℕ) (rule i : ℕ) : Type 0 where
  not_utf8 : rule ≡ 1 → IsNotReadable cs i → BreaksAt cs rule i
  in_piece : BreaksInPiece cs rule i → BreaksAt cs rule i
  in_line : BreaksInLine cs rule i → BreaksAt cs rule i

-- the characters break the rule that the refusal names, at its place
abbrev pub BreaksCharacters : List ℕ → Refusal → Type 0
BreaksCharacters cs refusal = (i : ℕ) × BreaksAt cs refusal.number i × (refusal ≡ refusal_at cs refusal.number i)

-- E7 at 1:1
abbrev pub too_large : Refusal
too_large = record { number = 7; line = 1; column = 1 }

-- The text breaks the rule that the refusal names, at its place. A text that is too large breaks that rule alone.
abbrev pub BreaksText : List ℕ → Refusal → Type 0
BreaksText text refusal =
    MatchBool (nat_lt size_limit (length text)) (refusal ≡ too_large) (BreaksCharacters (characters text) refusal)
