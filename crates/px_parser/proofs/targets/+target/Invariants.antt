use Rattle.std.proofs.Common.{drop}
use Rattle.px_parser.specs.Parts.{AreTargetTrees}
use Rattle.px_parser.proofs.targets.+target.Given as goal

abbrev pub invariant-are_targets-loop-expr : goal.invariant-are_targets-loop-expr
invariant-are_targets-loop-expr l = (AreTargetTrees l.exprs → AreTargetTrees (drop l.expr-index l.exprs)) × (AreTargetTrees (drop l.expr-index l.exprs) → AreTargetTrees l.exprs)
