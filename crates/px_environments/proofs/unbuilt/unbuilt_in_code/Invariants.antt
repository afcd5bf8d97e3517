use Rattle.std.proofs.Common.{◌≡◌, drop}
use Rattle.px_base.specs.Findings.{first_of}
use Rattle.px_environments.specs.Kept.{environment_kept}
use Rattle.px_environments.proofs.FirstForms.{code_first}
use Rattle.px_environments.proofs.unbuilt.unbuilt_in_code.Given as goal

abbrev pub invariant-loop-item : goal.invariant-loop-item
invariant-loop-item l =
    first_of l.first (code_first (environment_kept l.environment) (drop l.item-index l.items)) ≡ code_first (environment_kept l.environment) l.items
