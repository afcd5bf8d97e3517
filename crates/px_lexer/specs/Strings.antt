-- Strings (Python Language Reference, 2.4.1 String and Bytes literals). A string has a prefix or none, opening quotes, its body
-- and closing quotes.
use Prim.Native.Char.{code}
use Rattle.std.specs.Prelude.{◌≡◌, ◌≢◌, ℕ, zero, suc, ◌+◌, ◌<◌, min, Bool, true, false, not, ◌&&◌, ◌||◌, List, [], ◌∷◌, ◌++◌, length, take, drop, map, replicate, nat_eq, nat_le, ◌==◌, if◌then◌else◌, codes, slice_index, find, Option, Some, None, IsTrue, IsFalse}
use Rattle.std.specs.List.{list_any, list_all, starts_with, prefix_len}
use Rattle.std.specs.Char.{is_digit, is_ascii_hexdigit, to_ascii_lowercase}
use Rattle.std.specs.Str.{all_scalars}
use Rattle.px_lexer.specs.Characters.{unreadable}
use Rattle.px_lexer.specs.Places.{is_line_break, line_end_len, begins_line_end}
use Rattle.px_lexer.specs.Spellings.{is_among}
use Rattle.px_lexer.specs.Numbers.{digits_value}
use Rattle.px_lexer.specs.Words.{word_len}

-- Prefix and quotes

-- the identifier characters before the quote, as a whole
abbrev pub prefix_of : List ℕ → List ℕ
prefix_of cs = take (word_len cs) cs

-- prefixes of strings that this language leaves out
abbrev pub foreign_prefixes : List (List ℕ)
foreign_prefixes = codes "b" ∷ codes "c" ∷ codes "f" ∷ codes "br" ∷ codes "rb" ∷ codes "fr" ∷ codes "rf" ∷ codes "ur" ∷ []

-- one of these, in any letter case
abbrev pub is_foreign_prefix : List ℕ → Bool
is_foreign_prefix prefix = is_among foreign_prefixes (map to_ascii_lowercase prefix)

-- what may stand before the quote: nothing, r, u, or a foreign prefix
abbrev pub is_prefix : List ℕ → Bool
is_prefix prefix = is_among ([] ∷ codes "r" ∷ codes "u" ∷ []) (map to_ascii_lowercase prefix) || is_foreign_prefix prefix

-- a prefix with an r makes a raw string
abbrev pub is_raw : List ℕ → Bool
is_raw prefix = list_any (λ c. c == code "r" || c == code "R") prefix

-- `'` or `"`
abbrev pub is_quote : ℕ → Bool
is_quote c = c == code "'" || c == code "\""

-- a string begins with these
abbrev pub opens_string : List ℕ → Bool
opens_string cs = is_prefix (prefix_of cs) && is_quote (slice_index cs (word_len cs))

-- the quotes that open the string, and close it: three of one kind where they stand there, and else one
abbrev pub quotes_of : List ℕ → List ℕ
quotes_of cs =
    let quote = slice_index cs (word_len cs) in
    let three = replicate 3 quote in
    if starts_with nat_eq (drop (word_len cs) cs) three then three else quote ∷ []

-- the index at which the body begins
abbrev pub body_start : List ℕ → ℕ
body_start cs = word_len cs + length (quotes_of cs)

-- Where the body ends

-- the character at this index of a body stands behind a backslash that isn't escaped itself
unfoldable pub is_escaped : List ℕ → ℕ → Bool
is_escaped body zero = false
is_escaped body (suc i) = slice_index body i == code "\\" && not (is_escaped body i)

-- the closing quotes stand at this index, and aren't escaped
abbrev pub closes : List ℕ → List ℕ → ℕ → Bool
closes quotes body i = starts_with nat_eq (drop i body) quotes && not (is_escaped body i)

-- a line end that isn't escaped, in a string with one quote on each side
abbrev pub breaks_off : List ℕ → List ℕ → ℕ → Bool
breaks_off quotes body i = length quotes == 1 && begins_line_end body i && not (is_escaped body i)

-- the characters end here, or can't be read from here on
abbrev pub runs_out : List ℕ → ℕ → Bool
runs_out body i = nat_le (length body) i || slice_index body i == unreadable

-- no body goes on over this index
abbrev pub stops : List ℕ → List ℕ → ℕ → Bool
stops quotes body i = closes quotes body i || breaks_off quotes body i || runs_out body i

-- the body of the string with which these characters begin has n characters: it ends at the first place where it stops
pub record IsBodyLen (cs : List ℕ) (n : ℕ) : Type 0 where
  pub stopped : IsTrue (stops (quotes_of cs) (drop (body_start cs) cs) n)
  pub first : (i : ℕ) → i < n → IsFalse (stops (quotes_of cs) (drop (body_start cs) cs) i)

-- the string is closed behind a body of n characters
abbrev pub is_closed : List ℕ → ℕ → Bool
is_closed cs n = closes (quotes_of cs) (drop (body_start cs) cs) n

-- the length of the whole string whose body has n characters, with its closing quotes if they are there
abbrev pub string_len : List ℕ → ℕ → ℕ
string_len cs n = body_start cs + n + (if is_closed cs n then length (quotes_of cs) else 0)

-- the body of n characters
abbrev pub body_of : List ℕ → ℕ → List ℕ
body_of cs n = take n (drop (body_start cs) cs)

-- the whole is one string, with its closing quotes
pub record IsClosedString (spelling : List ℕ) : Type 0 where
  pub opens : IsTrue (opens_string spelling)
  pub body : ℕ
  pub ends : IsBodyLen spelling body
  pub closed : IsTrue (is_closed spelling body)
  pub whole : string_len spelling body ≡ length spelling

-- What the body stands for

-- the characters that stand for another one behind a backslash, each with that one
unfoldable pub simple_escapes : List (ℕ × ℕ)
simple_escapes =
    (code "\\", code "\\") ∷ (code "'", code "'") ∷ (code "\"", code "\"") ∷ (code "a", 7) ∷ (code "b", 8) ∷ (code "f", 12) ∷
    (code "n", code "\n") ∷ (code "r", code "\r") ∷ (code "t", code "\t") ∷ (code "v", 11) ∷ []

-- an escape: how many characters it has, and what they stand for
pub record Escape : Type 0 where
  pub taken : ℕ
  pub given : List ℕ

-- a simple escape; before any other character the backslash stays
abbrev pub simple_escape : ℕ → Option (ℕ × ℕ) → Option Escape
simple_escape c (Some row) = Some (record { taken = 2; given = row.1 ∷ [] })
simple_escape c None = Some (record { taken = 2; given = code "\\" ∷ c ∷ [] })

-- one to three octal digits, as many as there are
abbrev pub octal_escape : List ℕ → Option Escape
octal_escape cs =
    let n = min 3 (prefix_len (λ c. is_digit c 8) (drop 1 cs)) in
    Some (record { taken = 1 + n; given = digits_value 8 (take n (drop 1 cs)) ∷ [] })

-- n hexadecimal digits behind a letter; none where they aren't all there, or write no Unicode scalar value
abbrev pub hex_escape : ℕ → List ℕ → Option Escape
hex_escape n cs =
    let digits = take n (drop 2 cs) in
    let c = digits_value 16 digits in
    if length digits == n && list_all is_ascii_hexdigit digits && all_scalars (c ∷ [])
    then Some (record { taken = 2 + n; given = c ∷ [] }) else None

-- the escape that begins with the backslash at the front; none where it is wrong
unfoldable pub escape_of : List ℕ → Option Escape
escape_of cs =
    let c = slice_index cs 1 in
    if is_line_break c then Some (record { taken = 1 + line_end_len (drop 1 cs); given = [] })
    else (if is_digit c 8 then octal_escape cs
    else (if c == code "x" then hex_escape 2 cs
    else (if c == code "u" then hex_escape 4 cs
    else (if c == code "U" then hex_escape 8 cs
    else (if c == code "N" then None
    else simple_escape c (find (λ row. row.0 == c) simple_escapes))))))

-- the content of a string that isn't raw: escapes stand for what they give, and line ends for LF
pub data IsContent : List ℕ → List ℕ → Type 0 where
  ends : IsContent [] []
  character : {c : ℕ} {body content : List ℕ} → c ≢ code "\\" → IsFalse (is_line_break c) → IsContent body content
      → IsContent (c ∷ body) (c ∷ content)
  line_end : {body content : List ℕ} → IsTrue (is_line_break (slice_index body 0))
      → IsContent (drop (line_end_len body) body) content → IsContent body (code "\n" ∷ content)
  escape : {body content whole : List ℕ} (e : Escape) → slice_index body 0 ≡ code "\\" → escape_of body ≡ Some e
      → IsContent (drop e.taken body) content → whole ≡ e.given ++ content → IsContent body whole

-- each line end as LF: a CR before LF is dropped, and any other is LF
abbrev pub with_line_feeds : List ℕ → List ℕ
with_line_feeds [] = []
with_line_feeds (c ∷ body) =
    if c == code "\r"
    then (if slice_index body 0 == code "\n" then with_line_feeds body else code "\n" ∷ with_line_feeds body)
    else c ∷ with_line_feeds body

-- the content of a string by whether it is raw; in a raw one all stays
abbrev pub SpellsContent : Bool → List ℕ → List ℕ → Type 0
SpellsContent true body content = content ≡ with_line_feeds body
SpellsContent false body content = IsContent body content

-- a wrong escape begins at this index of a body
pub record IsBadEscape (body : List ℕ) (i : ℕ) : Type 0 where
  pub inside : i < length body
  pub backslash : slice_index body i ≡ code "\\"
  pub begins : IsFalse (is_escaped body i)
  pub wrong : escape_of (drop i body) ≡ None
