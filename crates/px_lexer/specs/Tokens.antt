-- The tokens of a text, and its leading comment lines.
use Rattle.std.specs.Prelude.{◌≡◌, ℕ, pos, ◌-◌, ◌<◌, ◌≤◌, Bool, true, false, not, List, [], ◌∷◌, ◌++◌, map, filter, flat_map, length, take, drop, replicate, take_while, nat_lt, if◌then◌else◌, slice_index, Contains, IsTrue, IsFalse, MatchBool}
use Rattle.std.specs.List.{AllZip}
use Rattle.px_lexer.specs.declared.token_list.Token.{Token}
use Rattle.px_lexer.specs.declared.token_list.Comment.{Comment}
use Rattle.px_lexer.specs.declared.token_list.TokenKind.{TokenKind}
use Rattle.px_lexer.specs.declared.token_list.TokenKind.TheVariants as kind
use Rattle.px_lexer.specs.Characters.{unreadable, characters, byte_of}
use Rattle.px_lexer.specs.Places.{span_of}
use Rattle.px_lexer.specs.Words.{IsWordKind, continues_word}
use Rattle.px_lexer.specs.Numbers.{IsWhole, number_limit}
use Rattle.px_lexer.specs.Strings.{IsBodyLen, is_closed, body_of, prefix_of, is_raw, is_foreign_prefix, SpellsContent}
use Rattle.px_lexer.specs.Signs.{IsSignKind}
use Rattle.px_lexer.specs.Pieces.{Piece, is_content, is_comment}
use Rattle.px_lexer.specs.declared.forms.Form.{Form}
use Rattle.px_lexer.specs.declared.forms.Form.TheVariants as form
use Rattle.px_lexer.specs.Lines.{Line, AreLines, pieces_of, has_content, level_of, own_level, levels_of, last_level, open_levels, indentation_end, IsIndented}

-- the greatest number of bytes of a text
abbrev pub size_limit : ℕ
size_limit = 1048576

-- Tokens that are spelled

-- the first n characters are a whole number with this kind, and no identifier character follows
pub record IsNumberKind (cs : List ℕ) (n : ℕ) (t : TokenKind) : Type 0 where
  pub value : ℕ
  pub spelled : IsWhole (take n cs) value
  pub fits : value < number_limit
  pub ends : IsFalse (continues_word (slice_index cs n))
  pub kind : t ≡ kind.Number (pos value)

-- the kind of a string by whether it is foreign
abbrev pub string_kind : Bool → List ℕ → TokenKind
string_kind true content = kind.Foreign
string_kind false content = kind.Text content

-- a string that is closed stands at the front and has this kind
pub record IsStringKind (cs : List ℕ) (t : TokenKind) : Type 0 where
  pub body : ℕ
  pub whole : IsBodyLen cs body
  pub closed : IsTrue (is_closed cs body)
  pub content : List ℕ
  pub spelled : SpellsContent (is_raw (prefix_of cs)) (body_of cs body) content
  pub kind : t ≡ string_kind (is_foreign_prefix (prefix_of cs)) content

-- a piece of this form, which is the first n characters, is a token of this kind
abbrev pub IsKind : Form → List ℕ → ℕ → TokenKind → Type 0
IsKind form.Blank cs n t = ⊥
IsKind form.LineEnd cs n t = ⊥
IsKind form.Join cs n t = ⊥
IsKind form.Comment cs n t = ⊥
IsKind form.Word cs n t = IsWordKind (take n cs) t
IsKind form.Number cs n t = IsNumberKind cs n t
IsKind form.Text cs n t = IsStringKind cs t
IsKind form.Sign cs n t = IsSignKind (take n cs) t
IsKind form.Stray cs n t = ⊥

-- the token of this kind from the character at one index to before the one at another
abbrev pub token_at : List ℕ → ℕ → ℕ → TokenKind → Token
token_at text from to t = record { kind = t; at = span_of (characters text) from; from = byte_of text from; to = byte_of text to }

-- the piece is this token
pub record IsTokenOf (text : List ℕ) (piece : Piece) (token : Token) : Type 0 where
  pub kind : IsKind piece.form (drop piece.from (characters text)) (piece.to - piece.from) token.kind
  pub placed : token ≡ token_at text piece.from piece.to token.kind

-- Tokens that tell of lines

-- NEWLINE at the line end that ends a line
abbrev pub newline_at : List ℕ → Piece → Token
newline_at text ending = token_at text ending.from ending.to kind.Newline

-- a token without bytes behind the last character
abbrev pub token_behind : List ℕ → TokenKind → Token
token_behind text t = token_at text (length (characters text)) (length (characters text)) t

-- INDENT before a line of this level that is deeper than the last one, and one DEDENT for each open level that is deeper than the
-- line, at this index
abbrev pub indentation_tokens : List ℕ → List ℕ → ℕ → ℕ → List Token
indentation_tokens text levels level at =
    (if nat_lt (last_level levels) level then token_at text at at kind.Indent ∷ [] else [])
    ++ replicate (length (filter (nat_lt level) (open_levels levels))) (token_at text at at kind.Dedent)

-- the same for a line with these pieces, behind its indentation
abbrev pub tokens_before_line : List ℕ → List ℕ → List Piece → List Token
tokens_before_line text levels pieces =
    indentation_tokens text levels (level_of (characters text) pieces) (indentation_end (characters text) pieces)

-- behind the last line one DEDENT for each open level, and END
abbrev pub end_of_text : List ℕ → List ℕ → List Token
end_of_text text levels =
    replicate (length (open_levels levels)) (token_behind text kind.Dedent) ++ token_behind text kind.End ∷ []

-- the tokens of a line with content, which stands behind lines of these indentations and ends with this NEWLINE
pub record AreOfContent (text : List ℕ) (levels : List ℕ) (pieces : List Piece) (newline : Token) (tokens : List Token) : Type 0 where
  pub indented : IsIndented (characters text) levels pieces
  pub spelled : List Token
  pub each : AllZip (IsTokenOf text) (filter (λ piece. is_content piece.form) pieces) spelled
  pub all : tokens ≡ tokens_before_line text levels pieces ++ spelled ++ newline ∷ []

-- the tokens of a line; there are none without content
abbrev pub AreOfLine : List ℕ → List ℕ → List Piece → Token → List Token → Type 0
AreOfLine text levels pieces newline tokens =
    MatchBool (has_content pieces) (AreOfContent text levels pieces newline tokens) (tokens ≡ [])

-- the tokens of lines that are ended, behind lines of these indentations
abbrev pub AreOfLines : List ℕ → List ℕ → List Line → List Token → Type 0
AreOfLines text levels [] tokens = tokens ≡ []
AreOfLines text levels (line ∷ lines) tokens =
    (own : List Token) × (others : List Token) × (tokens ≡ own ++ others)
    × AreOfLine text levels line.pieces (newline_at text line.ending) own
    × AreOfLines text (levels ++ own_level (characters text) line.pieces) lines others

-- Leading comment lines

abbrev pub comment_at : List ℕ → Piece → Comment
comment_at text piece =
    record { at = span_of (characters text) piece.from; from = byte_of text piece.from; to = byte_of text piece.to }

-- the comments among these pieces before the first token
abbrev pub leading_comments : List ℕ → List Piece → List Comment
leading_comments text pieces =
    map (comment_at text) (filter (λ piece. is_comment piece.form) (take_while (λ piece. not (is_content piece.form)) pieces))

-- The text has these tokens, and these leading comment lines. It is cut into logical lines that are ended, and the rest, which
-- gets a NEWLINE where it has content. All of it can be read, its comments too.
pub record IsTokens (text : List ℕ) (tokens : List Token) (comments : List Comment) : Type 0 where
  pub small : length text ≤ size_limit
  pub readable : Contains (characters text) unreadable → ⊥
  pub lines : List Line
  pub rest : List Piece
  pub cut : AreLines (characters text) lines rest (length (characters text))
  pub of_lines : List Token
  pub ended : AreOfLines text [] lines of_lines
  pub of_rest : List Token
  pub unended : AreOfLine text (levels_of (characters text) lines) rest (token_behind text kind.Newline) of_rest
  pub all : tokens
      ≡ of_lines ++ of_rest ++ end_of_text text (levels_of (characters text) lines ++ own_level (characters text) rest)
  pub leading : comments ≡ leading_comments text (flat_map pieces_of lines ++ rest)
