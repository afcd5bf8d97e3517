use Rattle.std.proofs.Common.{◌≡◌, ℕ, drop}
use Rattle.std.specs.Option.{option_or}
use Rattle.px_environments.specs.Kept.{variables_kept}
use Rattle.px_environments.specs.Signatures.{variable_in}
use Rattle.px_environments.proofs.variables.Variables.new.Given as goal

-- what is kept, and what the variables from here on add, is what all give
abbrev pub invariant-loop-slot : goal.invariant-loop-slot
invariant-loop-slot l = (n : ℕ) → option_or (variables_kept l.kept n) (variable_in l.slot (drop l.slot l.locals) n) ≡ variable_in 0 l.locals n
