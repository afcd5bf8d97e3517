-- Logical lines, brackets and indentation (Python Language Reference, 2.1.1 Logical lines, 2.1.5 to 2.1.8).
use Prim.Native.Char.{code}
use Rattle.std.specs.Prelude.{◌≡◌, ◌≢◌, ℕ, ◌+◌, ◌-◌, ◌<◌, suc, Bool, ◌&&◌, ◌⊎◌, List, [], ◌∷◌, ◌++◌, flat_map, length, drop, nat_lt, ◌==◌, if◌then◌else◌, slice_index, Contains, IsTrue, All}
use Rattle.std.specs.List.{list_any, list_all, prefix_len}
use Rattle.px_lexer.specs.Signs.{is_opening, is_closing}
use Rattle.px_lexer.specs.Pieces.{Piece, AreBetween, spelling, is_content, is_line_end}

-- Brackets

-- how many brackets are open behind a piece, of so many before it; a closing one without an open one changes nothing
abbrev pub depth_behind : List ℕ → ℕ → Piece → ℕ
depth_behind cs depth piece =
    if is_opening (spelling cs piece) then suc depth
    else (if is_closing (spelling cs piece) then depth - 1 else depth)

-- how many brackets are open behind these pieces, of so many before them
unfoldable pub depth_after : List ℕ → ℕ → List Piece → ℕ
depth_after cs depth [] = depth
depth_after cs depth (piece ∷ pieces) = depth_after cs (depth_behind cs depth piece) pieces

-- Logical lines

-- a logical line that a line end ends: its pieces, and that line end
pub record Line : Type 0 where
  pub pieces : List Piece
  pub ending : Piece

abbrev pub pieces_of : Line → List Piece
pieces_of line = line.pieces ++ line.ending ∷ []

-- each line end among the pieces stands inside brackets, and so ends no logical line
abbrev pub GoesOn : List ℕ → List Piece → Type 0
GoesOn cs pieces =
    (before after : List Piece) (piece : Piece) → pieces ≡ before ++ piece ∷ after → IsTrue (is_line_end piece.form)
    → 0 < depth_after cs 0 before

-- the line ends at its first line end outside brackets
pub record IsLine (cs : List ℕ) (line : Line) : Type 0 where
  pub goes_on : GoesOn cs line.pieces
  pub ended : IsTrue (is_line_end line.ending.form)
  pub outside : depth_after cs 0 line.pieces ≡ 0

-- the characters before this index are these logical lines, and then pieces with which one more line begins
pub record AreLines (cs : List ℕ) (lines : List Line) (rest : List Piece) (to : ℕ) : Type 0 where
  pub pieces : AreBetween cs 0 (flat_map pieces_of lines ++ rest) to
  pub ended : All (IsLine cs) lines
  pub goes_on : GoesOn cs rest

-- A line has a token, or what should be one. Another line gives nothing, and has no indentation.
abbrev pub has_content : List Piece → Bool
has_content pieces = list_any (λ piece. is_content piece.form) pieces

-- Indentation of a line with these pieces

-- the index at which the line begins
abbrev pub start_of : List Piece → ℕ
start_of [] = 0
start_of (piece ∷ pieces) = piece.from

-- how many form feeds stand from an index on; at the start of a line they are skipped
abbrev pub feeds_from : List ℕ → ℕ → ℕ
feeds_from cs start = prefix_len (λ c. c == code "\u{c}") (drop start cs)

-- how many spaces stand behind them, for a line that begins at this index
abbrev pub level_from : List ℕ → ℕ → ℕ
level_from cs start = prefix_len (λ c. c == code " ") (drop (start + feeds_from cs start) cs)

-- the index of the first character behind these
abbrev pub indented_to : List ℕ → ℕ → ℕ
indented_to cs start = start + feeds_from cs start + level_from cs start

-- the indentation
abbrev pub level_of : List ℕ → List Piece → ℕ
level_of cs pieces = level_from cs (start_of pieces)

-- the index of the first character after the indentation
abbrev pub indentation_end : List ℕ → List Piece → ℕ
indentation_end cs pieces = indented_to cs (start_of pieces)

-- the indentation of a line that has one
abbrev pub own_level : List ℕ → List Piece → List ℕ
own_level cs pieces = if has_content pieces then level_of cs pieces ∷ [] else []

-- the indentations of the lines that have one
abbrev pub levels_of : List ℕ → List Line → List ℕ
levels_of cs lines = flat_map (λ line. own_level cs line.pieces) lines

-- the last of these indentations, and 0 before the first line
abbrev pub last_level : List ℕ → ℕ
last_level levels = slice_index (0 ∷ levels) (length levels)

-- The levels over 0 that are open behind lines of these indentations, from the outermost: those such that each later line is
-- deeper. So of lines of one level with no shallower one between them the last stands for the level.
unfoldable pub open_levels : List ℕ → List ℕ
open_levels [] = []
open_levels (level ∷ later) =
    if nat_lt 0 level && list_all (nat_lt level) later then level ∷ open_levels later else open_levels later

-- a line may have this indentation behind lines of those: it is deeper than the last one, or its level is open
abbrev pub Lands : List ℕ → ℕ → Type 0
Lands levels level = (last_level levels < level) ⊎ (level ≡ 0) ⊎ Contains (open_levels levels) level

-- a line with these pieces may stand behind lines of these indentations; neither a tab nor a form feed follows its spaces
pub record IsIndented (cs : List ℕ) (levels : List ℕ) (pieces : List Piece) : Type 0 where
  pub lands : Lands levels (level_of cs pieces)
  pub no_tab : slice_index cs (indentation_end cs pieces) ≢ code "\t"
  pub no_feed : slice_index cs (indentation_end cs pieces) ≢ code "\u{c}"
