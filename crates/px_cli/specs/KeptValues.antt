-- How a run keeps the values of its variables, and what it tells of a statement.
use Rattle.std.specs.Prelude.{◌≡◌, ◌⊎◌, ℕ, ℤ, pos, List, ◌∷◌, ◌++◌, Some, None, Bool, nat_eq, Result, MatchBool, IfOk}
use Rattle.std.specs.Cmp.Lexicographic.{pointwise}
use Rattle.indexmap.specs.IndexMap.{get_by}
use Rattle.px_base.specs.declared.c_types.CType.TheVariants.{Long}
use Rattle.px_base.specs.declared.refusals.NoMemory.{NoMemory}
use Rattle.px_ctypes.specs.Types.{IsInRange}
use Rattle.px_base.specs.declared.c_types.BinOp.{BinOp}
use Rattle.px_base.specs.declared.c_types.BinOp.TheVariants.{Add, Sub}
use Rattle.px_tree.specs.declared.expressions.Expr.{Expr}
use Rattle.px_tree.specs.declared.expressions.Link.{Link}
use Rattle.px_tree.specs.declared.statements.Stmt.{Stmt}
use Rattle.px_tree.specs.declared.statements.Declarator.{Declarator}
use Rattle.px_cli.specs.FirstMeaning.{Values, SumIs, Does}
use Rattle.px_cli.specs.declared.variables.Variables.{Variables}

-- the values of the variables that are kept
abbrev pub values_of : Variables → Values
values_of variables name = get_by (λ kept. pointwise nat_eq name kept.now) variables.values

-- each of them is a `long`
abbrev pub AreLongs : Values → Type 0
AreLongs values = (name : List ℕ) (value : ℤ) → values name ≡ Some value → IsInRange Long value

-- What is told of a statement: that it was done, with what it printed behind the output so far, or that it does nothing of
-- what is built.
abbrev pub IsTried : Values → Stmt → Values → List ℕ → List ℕ → Result Bool NoMemory → Type 0
IsTried before s after earlier later result = IfOk result (λ done. MatchBool done
    ((printed : List ℕ) × Does before s after printed × (later ≡ earlier ++ printed))
    ((then : Values) (printed : List ℕ) → Does before s then printed → ⊥))

-- `+` or `-`
abbrev pub IsTerm : BinOp → Type 0
IsTerm op = (op ≡ Add) ⊎ (op ≡ Sub)

-- the first of these is a `+` or a `-`
pub record BeginsWithTerm (links : List Link) : Type 0 where
  pub link : Link
  pub others : List Link
  pub are : links ≡ link ∷ others
  pub term : IsTerm link.op

-- the value that a declared variable begins with: that of its sum, or 0
abbrev pub BeginsAs : Values → Declarator → ℤ → Type 0
BeginsAs values declarator value =
    ((declarator.value ≡ None) × (value ≡ pos 0)) ⊎ ((e : Expr) × (declarator.value ≡ Some e) × SumIs values e value)
