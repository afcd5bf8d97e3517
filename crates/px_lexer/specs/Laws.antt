-- Laws of the tokens of a text.
use Rattle.std.specs.Prelude.{◌≡◌, ℕ, ◌+◌, ◌⊎◌, Bool, true, false, List, ◌↔◌, Some, drop, Contains, IsTrue}
use Rattle.px_base.specs.declared.refusals.Refusal.{Refusal}
use Rattle.px_base.specs.Findings.{IsFirst}
use Rattle.px_lexer.specs.declared.token_list.Token.{Token}
use Rattle.px_lexer.specs.declared.token_list.Comment.{Comment}
use Rattle.px_lexer.specs.declared.token_list.TokenKind.{TokenKind}
use Rattle.px_lexer.specs.declared.token_list.TokenKind.TheVariants as kind
use Rattle.px_lexer.specs.Characters.{characters}
use Rattle.px_lexer.specs.Spellings.{IsLongest}
use Rattle.px_lexer.specs.Words.{IsWord}
use Rattle.px_lexer.specs.Numbers.{IsNumeral}
use Rattle.px_lexer.specs.Signs.{IsSign}
use Rattle.px_lexer.specs.Strings.{IsClosedString}
use Rattle.px_lexer.specs.Tokens.{token_at, IsTokens}
use Rattle.px_lexer.specs.Refusals.{BreaksText}

-- a text has at most one list of tokens, and one list of leading comment lines
abbrev pub TokensAreUnique : Type 0
TokensAreUnique =
    (text : List ℕ) (tokens others : List Token) (comments other_comments : List Comment)
    → IsTokens text tokens comments → IsTokens text others other_comments → (tokens ≡ others) × (comments ≡ other_comments)

-- a text has tokens exactly where it breaks no rule
abbrev pub TokensAreThere : Type 0
TokensAreThere =
    (text : List ℕ) → ((tokens : List Token) × (comments : List Comment) × IsTokens text tokens comments)
    ↔ ((refusal : Refusal) → BreaksText text refusal → ⊥)

-- a text has tokens, or a refusal that comes first
abbrev pub TokensOrRefusal : Type 0
TokensOrRefusal =
    (text : List ℕ) → ((tokens : List Token) × (comments : List Comment) × IsTokens text tokens comments)
    ⊎ ((refusal : Refusal) × IsFirst (BreaksText text) (Some refusal))

-- what is spelled with the characters of one token: a word, a number of whatever kind, a sign or a closed string
pub data IsLexeme (spelling : List ℕ) : Type 0 where
  word : IsWord spelling → IsLexeme spelling
  number : IsNumeral spelling → IsLexeme spelling
  sign : IsSign spelling → IsLexeme spelling
  closed_string : IsClosedString spelling → IsLexeme spelling

-- NEWLINE, INDENT, DEDENT and END only tell of lines; each other token is spelled
abbrev pub is_spelled : TokenKind → Bool
is_spelled kind.Newline = false
is_spelled kind.Indent = false
is_spelled kind.Dedent = false
is_spelled kind.End = false
is_spelled _ = true

-- each token that is spelled takes as many characters from its first one on as a word, a number, a sign or a closed string
-- there can have, of whatever form
abbrev pub TokensAreLongest : Type 0
TokensAreLongest =
    (text : List ℕ) (tokens : List Token) (comments : List Comment) → IsTokens text tokens comments
    → (token : Token) → Contains tokens token → IsTrue (is_spelled token.kind)
    → (from n : ℕ) × (token ≡ token_at text from (from + n) token.kind) × IsLongest IsLexeme (drop from (characters text)) n
