-- How far an expression goes, and where it is refused.
use Rattle.std.specs.Prelude.{◌≡◌, ℕ, suc, ◌<◌, ◌≤◌, List, ◌++◌, length, take}
use Rattle.px_tree.specs.declared.expressions.Expr.{Expr}
use Rattle.px_base.specs.declared.refusals.Refusal.{Refusal}
use Rattle.px_lexer.specs.declared.spelling.Keyword.TheVariants as word
use Rattle.px_lexer.specs.Terminals.{Terminal, Stands, IsKeyword}
use Rattle.px_exprs.specs.Grammar.{IsExpr}

-- the tokens from this index to their end are an expression with this tree and this nesting
abbrev pub Derives : List Terminal → ℕ → Expr → ℕ → Type 0
Derives ts from e depth = IsExpr ts from e depth (length ts)

-- some expression begins with the tokens from this index to their end
abbrev pub Begins : List Terminal → ℕ → Type 0
Begins ts from = (more : List Terminal) × (e : Expr) × (depth : ℕ) × Derives (ts ++ more) from e depth

-- the tokens from one index to before another are the longest with which some expression begins
pub record IsRun (ts : List Terminal) (from to : ℕ) : Type 0 where
  pub forward : from ≤ to
  pub within : to ≤ length ts
  pub begins : Begins (take to ts) from
  pub longest : (k : ℕ) → to < k → k ≤ length ts → Begins (take k ts) from → ⊥

-- the greatest nesting of an expression by itself
abbrev pub nesting_limit : ℕ
nesting_limit = 64

-- Some expression begins with the tokens up to this one, and each that does is nested deeper than the limit. The word `sizeof` itself
-- is no bracket and no operator, so that the place is that of the bracket behind it.
pub record IsTooDeep (limit : ℕ) (ts : List Terminal) (from k : ℕ) : Type 0 where
  pub within : k < length ts
  pub begins : Begins (take (suc k) ts) from
  pub counted : IsKeyword ts k word.Sizeof → ⊥
  pub deep : (more : List Terminal) (e : Expr) (depth : ℕ) → Derives (take (suc k) ts ++ more) from e depth → limit < depth

-- E6: at the first token with which each expression is nested too deep
pub record IsNestedTooDeep (limit : ℕ) (ts : List Terminal) (from k : ℕ) : Type 0 where
  pub deep : IsTooDeep limit ts from k
  pub first : (i : ℕ) → i < k → IsTooDeep limit ts from i → ⊥

-- E5: behind the run, where that is no expression and isn't nested too deep
pub record IsNoExpression (limit : ℕ) (ts : List Terminal) (from k : ℕ) : Type 0 where
  pub run : IsRun ts from k
  pub none : (e : Expr) (depth : ℕ) → IsExpr ts from e depth k → ⊥
  pub shallow : (i : ℕ) → IsTooDeep limit ts from i → ⊥

-- the run is this expression, and isn't nested too deep
pub record IsRead (limit : ℕ) (ts : List Terminal) (from : ℕ) (e : Expr) (to : ℕ) : Type 0 where
  pub run : IsRun ts from to
  pub depth : ℕ
  pub derived : IsExpr ts from e depth to
  pub shallow : depth ≤ limit

-- the refusal with this number at the token with this index
pub record IsRefusalAt (ts : List Terminal) (number k : ℕ) (refusal : Refusal) : Type 0 where
  pub token : Terminal
  pub stands : Stands ts k token
  pub refused : refusal ≡ record { number = number; line = token.at.line; column = token.at.column }

-- E5 or E6 at its token
pub data IsExpressionRefused (limit : ℕ) (ts : List Terminal) (from : ℕ) (refusal : Refusal) : Type 0 where
  no_expression : (k : ℕ) → IsNoExpression limit ts from k → IsRefusalAt ts 5 k refusal → IsExpressionRefused limit ts from refusal
  nested_too_deep : (k : ℕ) → IsNestedTooDeep limit ts from k → IsRefusalAt ts 6 k refusal → IsExpressionRefused limit ts from refusal
