use Rattle.std.proofs.Common.{ap, ◌∙◌}
use Rattle.px_walk.specs.Findings.{visited}
use Rattle.px_names.specs.Contexts.{nodes_of}
use Rattle.px_names.specs.Declarations.{Names}
use Rattle.px_names.specs.Steps.{names_after}
use Rattle.px_names.proofs.NameSteps.{all_found}
use Rattle.px_names.proofs.naming.tables_of.Goals as goal

pub returns : goal.returns
returns c =
    c.in_ok-visit.ensures.visited
    ∙ ap (λ (names : Names). visited names_after names (nodes_of c.args.«module».now)) c.new-tables.ensures
    ∙ all_found (nodes_of c.args.«module».now)
