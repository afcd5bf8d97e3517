-- the registers, with those that are left, are all
use Rattle.std.proofs.Common.{◌≡◌, ◌+◌, ◌-◌, ◌++◌}
use Rattle.px_stmtgen.specs.Layouts.{registers_from}
use Rattle.px_stmtgen.proofs.endings.registers_from.Given as goal

abbrev pub invariant-loop-number : goal.invariant-loop-number
invariant-loop-number l =
    l.list ++ registers_from l.number (l.first + l.count - l.number) ≡ registers_from l.first l.count
