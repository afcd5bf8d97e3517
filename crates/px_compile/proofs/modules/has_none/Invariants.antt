-- None stands among what is left where it stands among all
use Rattle.std.proofs.Common.{◌≡◌, drop}
use Rattle.px_compile.specs.FitModules.{has_none}
use Rattle.px_compile.proofs.modules.has_none.Given as goal

abbrev pub invariant-loop-what : goal.invariant-loop-what
invariant-loop-what l = has_none (drop l.what-index l.constants) ≡ has_none l.constants
