-- Modules whose code has no `return`, and modules that come to an outcome.
use Rattle.std.specs.Prelude.{◌≡◌, ℕ, List, Some}
use Rattle.px_tree.specs.declared.typed_heads.TypedHead.{TypedHead}
use Rattle.px_tree.specs.declared.typed_heads.TypedHead.TheVariants as head
use Rattle.px_walk.specs.Roses.{Roses, rose, none, more, gathered}
use Rattle.px_typed_walk.specs.TypedView.{TypedRose}
use Rattle.px_model.specs.declared.outcomes.Outcome.{Outcome}
use Rattle.px_regcode.specs.Images.{ImageParts}
use Rattle.px_meaning.specs.Calls.{Source}
use Rattle.px_meaning.specs.OneWorld.{meaning_in}
use Rattle.px_code_laws.specs.Compiled.{IsCompiled}

-- By the head, and whether no `return` stands among the parts, which counts where statements are among these. A `return` is a statement,
-- and stands in no expression.
abbrev pub NoReturnBy : TypedHead → Type 0 → Type 0
NoReturnBy head.Return inner = ⊥
NoReturnBy head.Declare inner = inner
NoReturnBy (head.Try clauses has_else has_finally) inner = inner
NoReturnBy head.Block inner = inner
NoReturnBy (head.Handler kinds assigns) inner = inner
NoReturnBy (head.If arms has_else) inner = inner
NoReturnBy head.Arm inner = inner
NoReturnBy head.While inner = inner
NoReturnBy (head.Range arguments) inner = inner
NoReturnBy head.Over inner = inner
NoReturnBy (head.Parallel arguments nogil schedule) inner = inner
NoReturnBy head.WithGil inner = inner
NoReturnBy head.WithNogil inner = inner
NoReturnBy (head.ParallelBlock has_size) inner = inner
NoReturnBy _ inner = Unit {0}

-- a statement that is no `return`, and in which none stands
abbrev mutual
  pub HasNoReturn : TypedRose → Type 0
  HasNoReturn (rose h number at parts) = NoReturnBy h (HaveNoReturn parts)

  pub HaveNoReturn : Roses TypedHead → Type 0
  HaveNoReturn none = Unit {0}
  HaveNoReturn (more tree trees) = HasNoReturn tree × HaveNoReturn trees

-- what a module does on an input, with so many turns and a team of so many members
pub record HasOutcome (source : Source) (input : List ℕ) (turns members : ℕ) : Type 0 where
  pub outcome : Outcome
  pub is : meaning_in source input turns members ≡ Some outcome

-- A module that has code, and no `return` in its own code, has a meaning on each input.
abbrev pub CompiledModulesHaveOutcomes : Type 0
CompiledModulesHaveOutcomes =
    (image : ImageParts) (source : Source) → IsCompiled image source → HaveNoReturn (gathered source.code)
    → (input : List ℕ) (turns members : ℕ) → HasOutcome source input turns members
