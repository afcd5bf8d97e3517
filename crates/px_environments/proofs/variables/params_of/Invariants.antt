use Rattle.std.proofs.Common.{◌≡◌, ◌++◌, drop, map}
use Rattle.px_environments.specs.Signatures.{value_type_of}
use Rattle.px_environments.proofs.variables.params_of.Given as goal

abbrev pub invariant-loop-param : goal.invariant-loop-param
invariant-loop-param l = l.types ++ map value_type_of (drop l.param-index l.function.params) ≡ map value_type_of l.function.params
