-- What statements come to, in the order in which the program finds it.
use Rattle.std.specs.Prelude.{ℕ, Bool, List, [], ◌∷◌, ◌++◌, drop, map, Option, Some, None}
use Rattle.px_base.specs.declared.refusals.Span.{Span}
use Rattle.px_tree.specs.declared.typed_trees.TypedTree.{TypedTree}
use Rattle.px_walk.specs.Roses.{parts_of}
use Rattle.px_walk.specs.ExprView.{Tree}
use Rattle.px_typed_walk.specs.TypedView.{TypedRose}
use Rattle.px_operators.specs.declared.gathering.Gathered.{Gathered}
use Rattle.px_operators.specs.Outcomes.{Outcome, mapped, both}
use Rattle.px_operators.specs.Kept.{trees_kept, gathered_kept}
use Rattle.px_environments.specs.Environments.{Environment}
use Rattle.px_types.specs.Statements.{assigned, assigned_each, statement}

-- what some trees came to
abbrev pub trees_gathered : Gathered TypedTree → Outcome (List TypedRose)
trees_gathered gathered = mapped trees_kept (gathered_kept gathered)

-- what came to some trees, and behind them others
abbrev pub with_all : {A : Type 0} → Outcome (List A) → Outcome (List A) → Outcome (List A)
with_all so_far others = mapped (λ parts. parts.0 ++ parts.1) (both so_far others)

-- what the parts of a node from one on come to, which are statements or arms
abbrev pub block_from : Environment → Bool → ℕ → Tree → List (Outcome TypedRose)
block_from environment looped from tree = map (statement environment looped) (drop from (parts_of tree))

-- a value that is assigned to one target or more
abbrev pub assigned_to : ℕ → Span → List TypedRose × TypedRose → Outcome TypedRose
assigned_to number at ([], tree) = assigned_each number at ([], tree)
assigned_to number at (target ∷ [], tree) = assigned number at (target, tree)
assigned_to number at (target ∷ next ∷ targets, tree) = assigned_each number at (target ∷ next ∷ targets, tree)
