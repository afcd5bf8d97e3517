-- Laws of the grammar of expressions.
use Rattle.std.specs.Prelude.{◌≡◌, ℕ, suc, ◌<◌, ◌≤◌, List, All}
use Rattle.px_base.specs.declared.refusals.Span.{Span}
use Rattle.px_base.specs.declared.refusals.Refusal.{Refusal}
use Rattle.px_tree.specs.declared.expressions.Expr.{Expr}
use Rattle.px_tree.specs.declared.expressions.ExprForm.TheVariants as form
use Rattle.px_lexer.specs.Terminals.{Terminal, IsAt, IsName}
use Rattle.px_exprs.specs.Grammar.{IsExpr, node}
use Rattle.px_exprs.specs.Runs.{IsRead, IsExpressionRefused}
use Rattle.px_exprs.specs.Marks.{IsMarkOf, node_marks}
use Rattle.px_exprs.specs.NodeNumbers.{node_numbers, AreDistinct}

-- tokens from one index to before another are one expression at most, with one nesting
abbrev pub ExpressionsAreUnique : Type 0
ExpressionsAreUnique =
    (ts : List Terminal) (from to : ℕ) (e other : Expr) (depth other_depth : ℕ) → IsExpr ts from e depth to → IsExpr ts from other other_depth to → (e ≡ other) × (depth ≡ other_depth)

-- each identifier is an expression, also one that is a word of a type or a function's head elsewhere
abbrev pub NamesAreExpressions : Type 0
NamesAreExpressions = (ts : List Terminal) (i : ℕ) (at : Span) (name : List ℕ) → IsAt ts i at → IsName ts i name → IsExpr ts i (node i at (form.Name name)) 0 (suc i)

-- the numbers of the nodes of an expression are indices of its tokens, each once
abbrev pub NodeNumbersAreDistinct : Type 0
NodeNumbersAreDistinct =
    (ts : List Terminal) (from to : ℕ) (e : Expr) (depth : ℕ) → IsExpr ts from e depth to → All (λ n. (from ≤ n) × (n < to)) (node_numbers e) × AreDistinct (node_numbers e)

-- From an index on, where so much nesting is allowed, the tokens are read in one way at most: as an expression, or with a refusal.
pub record ReadingsAreUnique : Type 0 where
  pub read : (limit : ℕ) (ts : List Terminal) (from to other_to : ℕ) (e other : Expr) → IsRead limit ts from e to → IsRead limit ts from other other_to → (e ≡ other) × (to ≡ other_to)
  pub refused : (limit : ℕ) (ts : List Terminal) (from : ℕ) (refusal other : Refusal) → IsExpressionRefused limit ts from refusal → IsExpressionRefused limit ts from other → refusal ≡ other
  pub either : (limit : ℕ) (ts : List Terminal) (from to : ℕ) (e : Expr) (refusal : Refusal) → IsRead limit ts from e to → IsExpressionRefused limit ts from refusal → ⊥

-- the places, names, numbers and strings of an expression are those of its tokens
abbrev pub MarksAreOfTokens : Type 0
MarksAreOfTokens = (ts : List Terminal) (from to : ℕ) (e : Expr) (depth : ℕ) → IsExpr ts from e depth to → All (IsMarkOf ts from to) (node_marks e)
