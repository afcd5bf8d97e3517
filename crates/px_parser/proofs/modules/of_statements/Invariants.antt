use Rattle.std.proofs.Common.{◌≡◌, ◌++◌, map, reverse, length}
use Rattle.px_tree.specs.declared.modules.ModuleItem.TheVariants as module_item
use Rattle.px_parser.proofs.modules.of_statements.Given as goal

abbrev pub invariant-loop-last : goal.invariant-loop-last
invariant-loop-last l = map module_item.Statement l.fn.statements ≡ map module_item.Statement l.statements ++ reverse l.all

abbrev pub decreases-loop-last : goal.decreases-loop-last
decreases-loop-last l = length l.statements
