-- the code, with that which is left behind it, is the whole
use Rattle.std.proofs.Common.{◌≡◌, ◌+◌, ◌-◌, ◌++◌}
use Rattle.px_stmtgen.specs.FunctionCode.{zeros}
use Rattle.px_stmtgen.proofs.endings.zeros.Given as goal

abbrev pub invariant-loop-number : goal.invariant-loop-number
invariant-loop-number l =
    l.code ++ zeros l.number (l.first + l.count - l.number) ≡ l.fn.code ++ zeros l.first l.count
