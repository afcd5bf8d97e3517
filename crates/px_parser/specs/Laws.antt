-- Laws of modules: their tokens are read in one way, a refusal stands at one of them, and each node has a number of its own.
use Rattle.std.specs.Prelude.{◌≡◌, ℕ, ◌<◌, ◌⊎◌, List, length, All}
use Rattle.px_base.specs.declared.refusals.Refusal.{Refusal}
use Rattle.px_lexer.specs.declared.token_list.Tokens.{Tokens}
use Rattle.px_lexer.specs.Tokens.{IsTokens}
use Rattle.px_tree.specs.declared.modules.Comment.{Comment}
use Rattle.px_tree.specs.declared.modules.Module.{Module}
use Rattle.px_lexer.specs.Terminals.{Terminal, Stands, terminals_of}
use Rattle.px_exprs.specs.NodeNumbers.{AreDistinct}
use Rattle.px_parser.specs.Listings.{IsListing}
use Rattle.px_parser.specs.ModuleNumbers.{module_numbers}
use Rattle.px_parser.specs.Parsing.{Derives, IsModuleOf, IsModuleRefused}

-- tokens are one module at most, whatever nesting is allowed
abbrev pub ModulesAreUnique : Type 0
ModulesAreUnique = (limit other : ℕ) (ts : List Terminal) (comments : List Comment) (m n : Module) → Derives limit ts comments m → Derives other ts comments n → m ≡ n

-- Tokens are parsed in one way at most: as a module, or with a refusal. Nothing is asked of the tokens.
pub record ParsingIsUnique : Type 0 where
  pub parsed : (tokens : Tokens) (m n : Module) → IsModuleOf tokens m → IsModuleOf tokens n → m ≡ n
  pub refused : (ts : List Terminal) (refusal other : Refusal) → IsModuleRefused ts refusal → IsModuleRefused ts other → refusal ≡ other
  pub either : (tokens : Tokens) (m : Module) (refusal : Refusal) → IsModuleOf tokens m → IsModuleRefused (terminals_of tokens) refusal → ⊥

-- E5, E6 or E27 at the place of one of the tokens
pub record IsAtToken (ts : List Terminal) (refusal : Refusal) : Type 0 where
  pub index : ℕ
  pub token : Terminal
  pub stands : Stands ts index token
  pub line : refusal.line ≡ token.at.line
  pub column : refusal.column ≡ token.at.column
  pub number : (refusal.number ≡ 5) ⊎ ((refusal.number ≡ 6) ⊎ (refusal.number ≡ 27))

-- a module that is refused is so at one of its tokens
abbrev pub RefusalsAreAtTokens : Type 0
RefusalsAreAtTokens = (ts : List Terminal) (refusal : Refusal) → IsModuleRefused ts refusal → IsAtToken ts refusal

-- the tokens of a text are what the reader of modules needs
abbrev pub TextsAreListed : Type 0
TextsAreListed = (tokens : Tokens) → IsTokens tokens.text tokens.list tokens.comments → IsListing tokens

-- the numbers of the nodes of a module are indices of its tokens, each once
abbrev pub ModuleNumbersAreDistinct : Type 0
ModuleNumbersAreDistinct =
    (limit : ℕ) (ts : List Terminal) (comments : List Comment) (m : Module) → Derives limit ts comments m → All (λ n. n < length ts) (module_numbers m) × AreDistinct (module_numbers m)
