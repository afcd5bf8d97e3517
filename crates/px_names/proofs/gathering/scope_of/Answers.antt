use Rattle.std.proofs.Common.{ℕ, Option, ap, ◌∙◌}
use Rattle.px_walk.specs.Findings.{visited}
use Rattle.px_walk.specs.Nodes.{rose_of}
use Rattle.px_walk.specs.Roses.{occurrences}
use Rattle.px_names.specs.declared.meanings.Meaning.{Meaning}
use Rattle.px_names.specs.Contexts.{module_code, down}
use Rattle.px_names.specs.Kept.{names_in}
use Rattle.px_names.specs.Steps.{Gathered, gathered_after}
use Rattle.px_names.proofs.NameSteps.{all_gathered}
use Rattle.px_names.proofs.gathering.scope_of.Goals as goal

pub returns : goal.returns
returns c =
    let names = names_in c.args.lookup.now in
    let nodes = occurrences down module_code (rose_of c.args.node) in
    ap (λ (gathered : Gathered). gathered.2)
    (c.in_ok-visit.ensures.visited
    ∙ ap (λ (kept : ℕ → Option Meaning). visited gathered_after (names, c.args.function, kept) nodes) c.new-scope.ensures
    ∙ all_gathered names c.args.function nodes)
