-- the code, with that which is left behind it, is the whole
use Rattle.std.proofs.Common.{◌≡◌, ◌+◌, ◌-◌, ◌++◌}
use Rattle.px_stmtgen.specs.Layouts.{drops}
use Rattle.px_stmtgen.proofs.endings.drops.Given as goal

abbrev pub invariant-loop-number : goal.invariant-loop-number
invariant-loop-number l =
    l.code ++ drops l.number (l.first + l.count - l.number) ≡ l.fn.code ++ drops l.first l.count
