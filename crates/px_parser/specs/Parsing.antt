-- Which module a text's tokens are, and where they are refused.
use Rattle.std.specs.Prelude.{◌≡◌, ℕ, suc, ◌<◌, List, [], ◌++◌, length, take, map, slice_range, Some, None}
use Rattle.px_base.specs.declared.refusals.Refusal.{Refusal}
use Rattle.px_base.specs.declared.refusals.Span.{Span}
use Rattle.px_lexer.specs.declared.spelling.Keyword.TheVariants as word
use Rattle.px_lexer.specs.declared.token_list.Tokens.{Tokens}
use Rattle.px_lexer.specs.declared.token_list.Comment.{Comment as CommentToken}
use Rattle.px_lexer.specs.declared.token_list.TokenKind.TheVariants as kind
use Rattle.px_tree.specs.declared.modules.Comment.{Comment}
use Rattle.px_tree.specs.declared.modules.Module.{Module}
use Rattle.px_lexer.specs.Terminals.{Terminal, HasKind, IsKeyword, IsAt, terminals_of}
use Rattle.px_exprs.specs.Runs.{nesting_limit, IsRefusalAt}
use Rattle.px_parser.specs.Shapes.{Mode}
use Rattle.px_parser.specs.ModuleGrammar.{ModuleForm}

-- Modules

-- each block is looked at
abbrev pub strict : ℕ → Mode
strict limit = record { limit = limit; unseen = None }

-- the tokens are this module with these leading comment lines, and neither its blocks nor an expression or type of it are nested deeper
abbrev pub Derives : ℕ → List Terminal → List Comment → Module → Type 0
Derives limit ts comments m = ModuleForm comments (strict limit) ts 0 m limit (length ts)

-- some module begins with these tokens
abbrev pub Begins : List Terminal → Type 0
Begins ts = (more : List Terminal) × (limit : ℕ) × (m : Module) × Derives limit (ts ++ more) [] m

-- Refusals

-- blocks that begin from this index on may be any tokens
abbrev pub unseen_from : ℕ → ℕ → Mode
unseen_from limit k = record { limit = limit; unseen = Some k }

-- and expressions and types keep the limit
abbrev pub looks_before : ℕ → Mode
looks_before k = unseen_from nesting_limit k

-- Some module begins with the first k tokens whose blocks are nested within the limit, whatever the blocks that begin behind these
-- tokens, and whose expressions and types are nested at most so deep.
abbrev pub BeginsWithin : ℕ → List Terminal → ℕ → Type 0
BeginsWithin limit ts k = (more : List Terminal) × (m : Module) × ModuleForm [] (unseen_from limit k) (take k ts ++ more) 0 m nesting_limit (length (take k ts ++ more))

-- Some module begins with the tokens up to this one, and each that does is nested deeper than the limit, whatever the blocks that
-- begin behind this token. The word `sizeof` itself is no bracket, so that the place is that of the bracket behind it, but where the
-- word begins a block that is nested too deep.
pub record IsTooDeep (ts : List Terminal) (k : ℕ) : Type 0 where
  pub within : k < length ts
  pub begins : Begins (take (suc k) ts)
  pub deep : BeginsWithin nesting_limit ts (suc k) → ⊥
  pub counted : IsKeyword ts k word.Sizeof → (limit : ℕ) → BeginsWithin limit ts (suc k) → ⊥

-- the first token such that no module begins with the tokens up to it
pub record IsStop (ts : List Terminal) (k : ℕ) : Type 0 where
  pub within : k < length ts
  pub begins : Begins (take k ts)
  pub none : Begins (take (suc k) ts) → ⊥

-- The first token is the end of a line without bytes, as at the end of a text, so that the second stands at the same place.
pub record AreTogether (ts : List Terminal) (k l : ℕ) : Type 0 where
  pub line : HasKind ts k kind.Newline
  pub next : l ≡ suc k
  pub at : Span
  pub first : IsAt ts k at
  pub second : IsAt ts l at

-- E6: the first token that shows too deep a nesting, but where it is the end of a line, and no module goes on with the token at its
-- place
pub record IsNestedTooDeep (ts : List Terminal) (k : ℕ) : Type 0 where
  pub deep : IsTooDeep ts k
  pub first : (i : ℕ) → i < k → IsTooDeep ts i → ⊥
  pub apart : AreTogether ts k (suc k) → IsStop ts (suc k) → ⊥

-- E5: the first token such that no module begins with the tokens up to it, where none before it shows too deep a nesting, but the end of
-- a line at its place
pub record IsNoModule (ts : List Terminal) (k : ℕ) : Type 0 where
  pub stops : IsStop ts k
  pub shallow : (i : ℕ) → IsTooDeep ts i → AreTogether ts i k

-- E27: the first foreign word
pub record IsForeign (ts : List Terminal) (k : ℕ) : Type 0 where
  pub foreign : HasKind ts k kind.Foreign
  pub first : (i : ℕ) → i < k → HasKind ts i kind.Foreign → ⊥

abbrev pub HasNoForeign : List Terminal → Type 0
HasNoForeign ts = (i : ℕ) → HasKind ts i kind.Foreign → ⊥

-- E27, E5 or E6 at its token; the foreign words come first
pub data IsModuleRefused (ts : List Terminal) (refusal : Refusal) : Type 0 where
  foreign_word : (k : ℕ) → IsForeign ts k → IsRefusalAt ts 27 k refusal → IsModuleRefused ts refusal
  no_module : (k : ℕ) → HasNoForeign ts → IsNoModule ts k → IsRefusalAt ts 5 k refusal → IsModuleRefused ts refusal
  nested_too_deep : (k : ℕ) → HasNoForeign ts → IsNestedTooDeep ts k → IsRefusalAt ts 6 k refusal → IsModuleRefused ts refusal

-- The tokens of a text

abbrev pub comment_of : List ℕ → CommentToken → Comment
comment_of text comment = record { at = comment.at; text = slice_range text comment.from comment.to }

-- the module that a text's tokens are
pub record IsModuleOf (tokens : Tokens) (m : Module) : Type 0 where
  pub clean : HasNoForeign (terminals_of tokens)
  pub derived : Derives nesting_limit (terminals_of tokens) (map (comment_of tokens.text) tokens.comments) m
