-- What the reader of modules needs of its tokens.
use Rattle.std.specs.Prelude.{◌≡◌, ℕ, suc, ◌<◌, List, length}
use Rattle.px_lexer.specs.declared.token_list.Tokens.{Tokens}
use Rattle.px_lexer.specs.declared.token_list.TokenKind.{TokenKind}
use Rattle.px_lexer.specs.declared.token_list.TokenKind.TheVariants as kind
use Rattle.px_tree.specs.Names.{IsFunctionName}
use Rattle.px_lexer.specs.Terminals.{HasKind, IsName, terminals_of}
use Rattle.px_exprs.specs.Inputs.{IsInput}

pub record IsListing (tokens : Tokens) : Type 0 where
  pub input : IsInput tokens
  -- no other token than END is the last one, and END is
  pub goes_on : (i : ℕ) (k : TokenKind) → HasKind (terminals_of tokens) i k → (k ≡ kind.End → ⊥) → suc i < length tokens.list
  pub ends : (i : ℕ) → HasKind (terminals_of tokens) i kind.End → suc i ≡ length tokens.list
  -- each name may be that of a function
  pub named : (i : ℕ) (name : List ℕ) → IsName (terminals_of tokens) i name → IsFunctionName name
