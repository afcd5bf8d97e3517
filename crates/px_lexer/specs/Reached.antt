-- What is known when the text has been read up to a place.
use Rattle.std.specs.Prelude.{◌≡◌, ℕ, ◌+◌, ◌-◌, ◌*◌, ◌<◌, ◌⊎◌, ◌≤◌, List, [], ◌∷◌, ◌++◌, filter, flat_map, length, MatchBool, Option, Some, None, if◌then◌else◌, nat_lt, replicate, slice_index}
use Rattle.std.specs.List.{AllZip}
use Rattle.px_lexer.specs.declared.token_list.Token.{Token}
use Rattle.px_lexer.specs.declared.token_list.TokenKind.{TokenKind}
use Rattle.px_lexer.specs.declared.token_list.Comment.{Comment}
use Rattle.px_lexer.specs.declared.token_list.TokenKind.TheVariants as kind
use Rattle.px_lexer.specs.declared.places.Place.{Place}
use Rattle.px_lexer.specs.declared.reader.Reader.{Reader}
use Rattle.px_lexer.specs.declared.places.Source.{Source}
use Rattle.px_lexer.specs.declared.readings.Breach.{Breach}
use Rattle.px_lexer.specs.Characters.{unreadable, characters, byte_of}
use Rattle.px_lexer.specs.Places.{lines_before, columns_before}
use Rattle.px_lexer.specs.Pieces.{Piece, AreBetween, is_content}
use Rattle.px_lexer.specs.Lines.{Line, AreLines, IsIndented, pieces_of, has_content, level_from, indented_to, own_level, levels_of, last_level, open_levels, depth_after}
use Rattle.px_lexer.specs.Tokens.{size_limit, IsTokenOf, tokens_before_line, AreOfLines, leading_comments}
use Rattle.px_lexer.specs.Refusals.{BreaksInPiece, BreaksInLine, IsMisindented}
use Rattle.px_lexer.specs.Readers.{IsNotAfter}

-- the index, line, column and byte of one place in the text
pub record IsPlace (text : List ℕ) (place : Place) : Type 0 where
  pub line : place.line ≡ 1 + lines_before (characters text) place.index
  pub column : place.column ≡ 1 + columns_before (characters text) place.index
  pub byte : place.byte ≡ byte_of text place.index

-- no piece and no line that ends by this index breaks a rule
pub record IsClean (cs : List ℕ) (to : ℕ) : Type 0 where
  pub pieces : (rule i : ℕ) (found : BreaksInPiece cs rule i) → found.piece.to ≤ to → ⊥
  pub lines : (rule i : ℕ) (found : BreaksInLine cs rule i) → found.to ≤ to → ⊥

-- the tokens of the content with which a line begins
pub record AreOfBegun (text : List ℕ) (levels : List ℕ) (pieces : List Piece) (tokens : List Token) : Type 0 where
  pub indented : IsIndented (characters text) levels pieces
  pub spelled : List Token
  pub each : AllZip (IsTokenOf text) (filter (λ piece. is_content piece.form) pieces) spelled
  pub all : tokens ≡ tokens_before_line text levels pieces ++ spelled

-- the tokens of a line that isn't ended, without its NEWLINE
abbrev pub AreOfFront : List ℕ → List ℕ → List Piece → List Token → Type 0
AreOfFront text levels pieces tokens = MatchBool (has_content pieces) (AreOfBegun text levels pieces tokens) (tokens ≡ [])

-- the text is read up to this index, where it breaks no rule
pub record IsLexed (text : List ℕ) (to : ℕ) (lines : List Line) (rest : List Piece) (of_lines of_rest : List Token) : Type 0 where
  pub cut : AreLines (characters text) lines rest to
  pub ended : AreOfLines text [] lines of_lines
  pub begun : AreOfFront text (levels_of (characters text) lines) rest of_rest
  pub clean : IsClean (characters text) to

-- the characters are those of the text, which isn't too large
pub record IsSource (source : Source) : Type 0 where
  pub whole : source.characters ≡ characters source.text.now
  pub small : length source.text.now ≤ size_limit

-- the numbers of a place are small
pub record IsNear (place : Place) : Type 0 where
  pub line : place.line ≤ place.index + 1
  pub column : place.column ≤ place.index + 1
  pub byte : place.byte ≤ 4 * place.index + 3

-- what the reader holds of these lines, and of the pieces with which one more line begins
pub record IsHeld (text : List ℕ) (lines : List Line) (rest : List Piece) (reader : Reader) : Type 0 where
  pub at : IsPlace text reader.at
  pub start : IsPlace text reader.start
  pub near : IsNear reader.at
  pub near_start : IsNear reader.start
  pub line_start : AreBetween (characters text) 0 (flat_map pieces_of lines) reader.start.index
  pub line_rest : AreBetween (characters text) reader.start.index rest reader.at.index
  pub within : reader.at.index ≤ length (characters text)
  pub depth : reader.depth ≡ depth_after (characters text) 0 rest
  pub shallow : reader.depth ≤ reader.at.index
  pub started : reader.started ≡ has_content rest
  pub any_token : reader.any_token ≡ has_content (flat_map pieces_of lines ++ rest)
  pub levels : reader.levels.items ≡ open_levels (levels_of (characters text) lines ++ own_level (characters text) rest)
  pub last_level : reader.last_level ≡ last_level (levels_of (characters text) lines ++ own_level (characters text) rest)
  pub comments : reader.comments ≡ leading_comments text (flat_map pieces_of lines ++ rest)

-- the reader has read the text up to its place, where it breaks no rule, and holds its tokens and its leading comments
pub record IsReached (text : List ℕ) (reader : Reader) : Type 0 where
  pub lines : List Line
  pub rest : List Piece
  pub of_lines : List Token
  pub of_rest : List Token
  pub lexed : IsLexed text reader.at.index lines rest of_lines of_rest
  pub held : IsHeld text lines rest reader
  pub list : reader.list ≡ of_lines ++ of_rest

-- a line that begins at this index, behind lines of these indentations, breaks no rule by its indentation, or first the one
-- that the breach names
abbrev pub IsIndentationFinding : List ℕ → List ℕ → ℕ → Option Breach → Type 0
IsIndentationFinding cs levels start None =
    (rule : ℕ) → IsMisindented cs levels (level_from cs start) rule (indented_to cs start) → ⊥
IsIndentationFinding cs levels start (Some breach) =
    (breach.at ≡ indented_to cs start) × IsMisindented cs levels (level_from cs start) breach.rule breach.at
    × ((rule : ℕ) → IsMisindented cs levels (level_from cs start) rule breach.at → breach.rule ≤ rule)

-- of a rule that may be broken and one that is, the one that comes first
abbrev pub IsEarlier : Option Breach → Breach → Breach → Type 0
IsEarlier None b first = first ≡ b
IsEarlier (Some a) b first =
    ((first ≡ a) × IsNotAfter a.rule a.at b.rule b.at) ⊎ ((first ≡ b) × IsNotAfter b.rule b.at a.rule a.at)

-- the token of a kind from one place to before another
abbrev pub token_from : TokenKind → Place → Place → Token
token_from t from to = record { kind = t; at = record { line = from.line; column = from.column }; from = from.byte; to = to.byte }

-- the comment from one place to before another
abbrev pub comment_from : Place → Place → Comment
comment_from from to = record { at = record { line = from.line; column = from.column }; from = from.byte; to = to.byte }

-- the tokens that tell of a line of this indentation, behind a line of the last one, with these levels open
abbrev pub level_tokens : ℕ → List ℕ → ℕ → Place → List Token
level_tokens last levels level at =
    (if nat_lt last level then token_from kind.Indent at at ∷ [] else [])
    ++ replicate (length (filter (nat_lt level) levels)) (token_from kind.Dedent at at)

-- the levels that are open behind such a line
abbrev pub levels_behind : List ℕ → ℕ → List ℕ
levels_behind levels level = filter (λ l. nat_lt l level) levels ++ (if nat_lt 0 level then level ∷ [] else [])

-- all but the tokens and the levels stays
pub record IsOnlyIndented (before after : Reader) : Type 0 where
  pub at : after.at ≡ before.at
  pub start : after.start ≡ before.start
  pub depth : after.depth ≡ before.depth
  pub started : after.started ≡ before.started
  pub any_token : after.any_token ≡ before.any_token
  pub comments : after.comments ≡ before.comments

-- the line is opened: its changes of level are told at the place behind its indentation, and its level is the last one
pub record IsOpened (text : List ℕ) (before after : Reader) : Type 0 where
  pub at : Place
  pub there : IsPlace text at
  pub index : at.index ≡ indented_to (characters text) before.start.index
  pub list : after.list ≡ before.list ++ level_tokens before.last_level before.levels.items (level_from (characters text) before.start.index) at
  pub levels : after.levels.items ≡ levels_behind before.levels.items (level_from (characters text) before.start.index)
  pub last : after.last_level ≡ level_from (characters text) before.start.index
  pub rest : IsOnlyIndented before after

-- the same, where it isn't opened yet
abbrev pub IsStarted : List ℕ → Reader → Reader → Type 0
IsStarted text before after = MatchBool before.started (after ≡ before) (IsOpened text before after)

-- the last character can't be read
abbrev pub IsCutShort : List ℕ → Type 0
IsCutShort cs = (0 < length cs) × (slice_index cs (length cs - 1) ≡ unreadable)
