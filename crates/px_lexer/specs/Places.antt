-- Line ends, and the line and the column of a character (Python Language Reference, 2.1.2 Physical lines). A line end is LF,
-- CR LF or CR. Past the last character a text reads as 0.
use Prim.Native.Char.{code}
use Rattle.std.specs.Prelude.{ℕ, zero, suc, ◌+◌, Bool, not, ◌&&◌, ◌||◌, List, ◌==◌, slice_index, if◌then◌else◌}
use Rattle.px_base.specs.declared.refusals.Span.{Span}
use Rattle.px_base.specs.declared.refusals.Refusal.{Refusal}

-- LF or CR
abbrev pub is_line_break : ℕ → Bool
is_line_break c = c == code "\n" || c == code "\r"

-- how many characters the line end takes that begins these: two for CR LF
abbrev pub line_end_len : List ℕ → ℕ
line_end_len cs = if slice_index cs 0 == code "\r" && slice_index cs 1 == code "\n" then 2 else 1

-- a line end begins with the character at this index: the LF of a CR LF begins none
abbrev pub begins_line_end : List ℕ → ℕ → Bool
begins_line_end cs zero = is_line_break (slice_index cs 0)
begins_line_end cs (suc i) =
    slice_index cs (suc i) == code "\r" || slice_index cs (suc i) == code "\n" && not (slice_index cs i == code "\r")

-- a line end ends with the character at this index: the CR of a CR LF ends none
abbrev pub ends_line : List ℕ → ℕ → Bool
ends_line cs i = slice_index cs i == code "\n" || slice_index cs i == code "\r" && not (slice_index cs (i + 1) == code "\n")

-- how many line ends stand before this index
unfoldable pub lines_before : List ℕ → ℕ → ℕ
lines_before cs zero = 0
lines_before cs (suc i) = if ends_line cs i then suc (lines_before cs i) else lines_before cs i

-- how many characters stand before this index on its line
unfoldable pub columns_before : List ℕ → ℕ → ℕ
columns_before cs zero = 0
columns_before cs (suc i) = if ends_line cs i then 0 else suc (columns_before cs i)

-- the place of the character at this index, or where a further one would stand; lines and columns count from 1
abbrev pub span_of : List ℕ → ℕ → Span
span_of cs i = record { line = 1 + lines_before cs i; column = 1 + columns_before cs i }

-- the refusal with this number at the character at this index
abbrev pub refusal_at : List ℕ → ℕ → ℕ → Refusal
refusal_at cs number i = record { number = number; line = 1 + lines_before cs i; column = 1 + columns_before cs i }
