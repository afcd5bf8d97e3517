-- Steps of reading a string.
use Prim.Native.Char.{code}
use Rattle.std.specs.Prelude.{◌≡◌, ℕ, ◌+◌, ◌<◌, ◌≤◌, ◌==◌, ◌||◌, nat_eq, slice_index, Bool, true, false, List, [], ◌∷◌, length, drop, replicate, if◌then◌else◌, Option, Some, None, IsTrue, IsFalse}
use Rattle.std.specs.List.{starts_with}
use Rattle.px_lexer.specs.declared.strings.Quotes.{Quotes}
use Rattle.px_lexer.specs.declared.strings.BodyEnd.{BodyEnd}
use Rattle.px_lexer.specs.declared.strings.Outline.{Outline}
use Rattle.px_lexer.specs.declared.string_content.Given.{Given}
use Rattle.px_lexer.specs.declared.string_content.Given.TheVariants.{Nothing, One, Kept}
use Rattle.px_lexer.specs.declared.string_content.EscapeRead.{EscapeRead}
use Rattle.px_lexer.specs.declared.string_content.Content.{Content}
use Rattle.px_lexer.specs.declared.string_content.Content.TheVariants.{Spelled, Wrong}
use Rattle.px_lexer.specs.Words.{word_len}
use Rattle.px_lexer.specs.Strings.{Escape, stops, closes, body_start, string_len, is_closed, IsBodyLen, IsBadEscape, is_escaped, SpellsContent}

-- the quotes with this code, three or one
abbrev pub quotes_by : ℕ → Bool → List ℕ
quotes_by quote triple = if triple then replicate 3 quote else quote ∷ []

-- these quotes open a string, and as many as there are stand at the front
pub record AreOpening (text : List ℕ) (quotes : Quotes) : Type 0 where
  pub code : quotes.code ≡ slice_index text 0
  pub triple : quotes.triple ≡ starts_with nat_eq text (replicate 3 quotes.code)
  pub within : length (quotes_by quotes.code quotes.triple) ≤ length text

-- a body ends at its first place where it stops
pub record IsBodyEnd (quotes rest : List ℕ) (end : BodyEnd) : Type 0 where
  pub stopped : IsTrue (stops quotes rest end.len)
  pub first : (i : ℕ) → i < end.len → IsFalse (stops quotes rest i)
  pub closed : end.closed ≡ closes quotes rest end.len

-- the string at this index has these parts
pub record IsOutline (cs : List ℕ) (from : ℕ) (outline : Outline) : Type 0 where
  pub opening : outline.opening ≡ from + word_len (drop from cs)
  pub start : outline.start ≡ from + body_start (drop from cs)
  pub whole : IsBodyLen (drop from cs) outline.body.len
  pub closed : outline.body.closed ≡ is_closed (drop from cs) outline.body.len
  pub to : outline.to ≡ from + string_len (drop from cs) outline.body.len
  pub within : outline.to ≤ length cs

-- a letter that alone is a prefix of this language
abbrev pub is_own_letter : ℕ → Bool
is_own_letter c = c == code "r" || (c == code "R" || (c == code "u" || c == code "U"))

-- the characters that are given
abbrev pub given_of : Given → List ℕ
given_of Nothing = []
given_of (One c) = c ∷ []
given_of (Kept c) = code "\\" ∷ c ∷ []

-- the escape that is read
abbrev pub escape_by : Option EscapeRead → Option Escape
escape_by None = None
escape_by (Some e) = Some (record { taken = e.taken; given = given_of e.given })

-- no escape before this index is wrong
abbrev pub AreGoodBefore : List ℕ → ℕ → Type 0
AreGoodBefore body n = (i : ℕ) → i < n → IsBadEscape body i → ⊥

-- what is read of the body of a string by whether it is raw: its content, or its first wrong escape
abbrev pub IsContentRead : Bool → List ℕ → Content → Type 0
IsContentRead true body (Spelled content) = SpellsContent true body content
IsContentRead true body (Wrong at) = ⊥
IsContentRead false body (Spelled content) =
    ((i : ℕ) → IsBadEscape body i → ⊥) × (IsFalse (is_escaped body (length body)) → SpellsContent false body content)
IsContentRead false body (Wrong at) = IsBadEscape body at × AreGoodBefore body at
