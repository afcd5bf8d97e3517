use Rattle.std.proofs.Common.{◌≡◌, drop}
use Rattle.px_tree.specs.TypedTypes.{greatest}
use Rattle.px_tree.proofs.typed_trees.TypedTree.new.Given as goal

abbrev pub invariant-loop-part : goal.invariant-loop-part
invariant-loop-part l = greatest l.last (drop l.part-index l.part-items) ≡ greatest l.initial.last l.part-items
