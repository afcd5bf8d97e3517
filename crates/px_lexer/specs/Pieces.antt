-- The pieces of a text: from its first character to its last, what is spelled at each place, as long as it can be.
use Prim.Native.Char.{code}
use Rattle.std.specs.Prelude.{◌≡◌, ℕ, ◌+◌, ◌-◌, ◌<◌, Bool, true, false, not, ◌&&◌, ◌||◌, List, [], ◌∷◌, drop, length, ◌==◌, if◌then◌else◌, slice_index, slice_range}
use Rattle.std.specs.List.{prefix_len}
use Rattle.std.specs.Char.{is_ascii_digit}
use Rattle.px_lexer.specs.declared.forms.Form.{Form}
use Rattle.px_lexer.specs.declared.forms.Form.TheVariants as form
use Rattle.px_lexer.specs.Places.{is_line_break, line_end_len}
use Rattle.px_lexer.specs.Spellings.{IsLongest}
use Rattle.px_lexer.specs.Words.{starts_word, word_len}
use Rattle.px_lexer.specs.Numbers.{IsNumeral}
use Rattle.px_lexer.specs.Signs.{IsSign, begins_sign}
use Rattle.px_lexer.specs.Strings.{opens_string, IsBodyLen, string_len}

-- a space, a tab or a form feed
abbrev pub is_blank : ℕ → Bool
is_blank c = c == code " " || c == code "\t" || c == code "\u{c}"

-- a digit, or a point and a digit
abbrev pub begins_number : List ℕ → Bool
begins_number cs = is_ascii_digit (slice_index cs 0) || slice_index cs 0 == code "." && is_ascii_digit (slice_index cs 1)

-- a backslash and a line end
abbrev pub joins_lines : List ℕ → Bool
joins_lines cs = slice_index cs 0 == code "\\" && is_line_break (slice_index cs 1)

-- the form of the piece with which these characters begin
unfoldable pub form_of : List ℕ → Form
form_of cs =
    let c = slice_index cs 0 in
    if is_blank c then form.Blank
    else (if is_line_break c then form.LineEnd
    else (if joins_lines cs then form.Join
    else (if c == code "#" then form.Comment
    else (if opens_string cs then form.Text
    else (if starts_word c then form.Word
    else (if begins_number cs then form.Number
    else (if begins_sign cs then form.Sign else form.Stray)))))))

-- the piece of this form at the front has n characters
abbrev pub HasLength : Form → List ℕ → ℕ → Type 0
HasLength form.Blank cs n = n ≡ 1
HasLength form.LineEnd cs n = n ≡ line_end_len cs
HasLength form.Join cs n = n ≡ 1 + line_end_len (drop 1 cs)
HasLength form.Comment cs n = n ≡ prefix_len (λ c. not (is_line_break c)) cs
HasLength form.Word cs n = n ≡ word_len cs
HasLength form.Number cs n = IsLongest IsNumeral cs n
HasLength form.Text cs n = (body : ℕ) × IsBodyLen cs body × (n ≡ string_len cs body)
HasLength form.Sign cs n = IsLongest IsSign cs n
HasLength form.Stray cs n = n ≡ 1

-- a piece: its form, and its characters from one index to before another
pub record Piece : Type 0 where
  pub form : Form
  pub from : ℕ
  pub to : ℕ

-- the characters of a piece
abbrev pub spelling : List ℕ → Piece → List ℕ
spelling cs piece = slice_range cs piece.from piece.to

-- the piece stands at the index from which it goes
pub record IsPiece (cs : List ℕ) (piece : Piece) : Type 0 where
  pub inside : piece.from < length cs
  pub formed : piece.form ≡ form_of (drop piece.from cs)
  pub forward : piece.from < piece.to
  pub whole : HasLength piece.form (drop piece.from cs) (piece.to - piece.from)

-- these pieces follow one another, from one index to another
abbrev pub AreBetween : List ℕ → ℕ → List Piece → ℕ → Type 0
AreBetween cs from [] to = from ≡ to
AreBetween cs from (piece ∷ pieces) to = (piece.from ≡ from) × IsPiece cs piece × AreBetween cs piece.to pieces to

-- a token, or what should be one
abbrev pub is_content : Form → Bool
is_content form.Blank = false
is_content form.LineEnd = false
is_content form.Join = false
is_content form.Comment = false
is_content form.Word = true
is_content form.Number = true
is_content form.Text = true
is_content form.Sign = true
is_content form.Stray = true

abbrev pub is_comment : Form → Bool
is_comment form.Comment = true
is_comment _ = false

abbrev pub is_line_end : Form → Bool
is_line_end form.LineEnd = true
is_line_end _ = false
