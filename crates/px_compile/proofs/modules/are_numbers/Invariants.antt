-- those that are left are numbers where all are
use Rattle.std.proofs.Common.{◌≡◌, drop}
use Rattle.px_compile.specs.FitModules.{are_numbers}
use Rattle.px_compile.proofs.modules.are_numbers.Given as goal

abbrev pub invariant-loop-local : goal.invariant-loop-local
invariant-loop-local l = are_numbers (drop l.local-index l.locals) ≡ are_numbers l.locals
