-- The tokens of a text as a grammar sees them, and what stands at an index of them.
use Rattle.std.specs.Prelude.{◌≡◌, ℕ, List, map, chars, slice_get, slice_range, Some}
use Rattle.px_base.specs.declared.refusals.Span.{Span}
use Rattle.px_lexer.specs.declared.spelling.Keyword.{Keyword}
use Rattle.px_lexer.specs.declared.spelling.Operator.{Operator}
use Rattle.px_lexer.specs.declared.token_list.Token.{Token}
use Rattle.px_lexer.specs.declared.token_list.TokenKind.{TokenKind}
use Rattle.px_lexer.specs.declared.token_list.Tokens.{Tokens}
use Rattle.px_lexer.specs.declared.token_list.TokenKind.TheVariants as kind

-- a token: its kind, its place, and the characters that it is spelled with
pub record Terminal : Type 0 where
  pub kind : TokenKind
  pub at : Span
  pub spelling : List ℕ

abbrev pub terminal_of : List ℕ → Token → Terminal
terminal_of text token = record { kind = token.kind; at = token.at; spelling = chars (slice_range text token.from token.to) }

-- the tokens of a text with their spellings
unfoldable pub terminals : List ℕ → List Token → List Terminal
terminals text tokens = map (terminal_of text) tokens

abbrev pub terminals_of : Tokens → List Terminal
terminals_of tokens = terminals tokens.text tokens.list

-- the token at an index
abbrev pub Stands : List Terminal → ℕ → Terminal → Type 0
Stands ts i t = slice_get ts i ≡ Some t

-- a token of this kind stands at an index
pub record HasKind (ts : List Terminal) (i : ℕ) (k : TokenKind) : Type 0 where
  pub token : Terminal
  pub stands : Stands ts i token
  pub kind : token.kind ≡ k

abbrev pub IsKeyword : List Terminal → ℕ → Keyword → Type 0
IsKeyword ts i word = HasKind ts i (kind.Keyword word)

abbrev pub IsOperator : List Terminal → ℕ → Operator → Type 0
IsOperator ts i operator = HasKind ts i (kind.Operator operator)

-- an identifier with this spelling
pub record IsName (ts : List Terminal) (i : ℕ) (name : List ℕ) : Type 0 where
  pub token : Terminal
  pub stands : Stands ts i token
  pub kind : token.kind ≡ kind.Name
  pub spelled : token.spelling ≡ name

-- the token at this index has this place
pub record IsAt (ts : List Terminal) (i : ℕ) (at : Span) : Type 0 where
  pub token : Terminal
  pub stands : Stands ts i token
  pub placed : token.at ≡ at
