use Rattle.std.proofs.Common.{ap, ◌∙◌}
use Rattle.std.specs.Prelude.{bytes_eq}
use Rattle.std.specs.List.{list_any}
use Rattle.px_walk.specs.Findings.{visited}
use Rattle.px_names.specs.Contexts.{nodes_of}
use Rattle.px_names.specs.Declarations.{Names}
use Rattle.px_names.specs.Kept.{names_kept}
use Rattle.px_names.specs.Steps.{shared_after}
use Rattle.px_names.proofs.NameSteps.{all_names}
use Rattle.px_names.proofs.naming.lookup_of.Goals as goal

pub returns : goal.returns
returns c =
    let nodes = nodes_of c.args.«module».now in
    c.in_ok-visit.ensures.visited
    ∙ ap (λ (names : Names). visited shared_after names nodes)
    ((λ i. record (names_kept c.in_ok-tables.tables) { shared = λ n. list_any (λ kept. bytes_eq n kept.now) (c.new-shared.ensures.empty i) }) ∙ c.in_ok-tables.ensures)
    ∙ all_names nodes
