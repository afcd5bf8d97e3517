use Rattle.std.proofs.Common.{None, ap, ◌∙◌}
use Rattle.px_names.specs.Contexts.{nodes_of}
use Rattle.px_names.specs.Kept.{names_in}
use Rattle.px_names.specs.Steps.{Judged}
use Rattle.px_names.proofs.NameSteps.{judging}
use Rattle.px_names.proofs.naming.first_broken.Goals as goal

pub returns : goal.returns
returns c =
    ap (λ (judged : Judged). judged.1) (c.in_ok-visit.ensures.visited ∙ judging (names_in c.args.lookup.now) None (nodes_of c.args.«module».now))
