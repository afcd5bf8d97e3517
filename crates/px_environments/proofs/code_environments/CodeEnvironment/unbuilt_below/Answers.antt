use Rattle.std.proofs.Common.{ap, ◌∙◌}
use Rattle.px_base.specs.declared.refusals.Span.{Span}
use Rattle.px_base.proofs.FirstFindings.{only}
use Rattle.px_walk.specs.Nodes.{rose_of}
use Rattle.px_walk.specs.Roses.{occurrences}
use Rattle.px_walk.specs.Findings.{Breaks, finding}
use Rattle.px_walk.proofs.Walks.{finding-first}
use Rattle.px_environments.specs.declared.form_contexts.FormRole.TheVariants as role
use Rattle.px_environments.specs.Kept.{environment_kept}
use Rattle.px_environments.specs.BuiltForms.{form_below, unbuilt_at}
use Rattle.px_environments.proofs.code_environments.CodeEnvironment.unbuilt_below.Goals as goal

pub returns : goal.returns
returns c =
    let rule = unbuilt_at (environment_kept c.args.self.now) in
    let tree = rose_of c.args.node in
    let nodes = occurrences form_below (record { at = c.at-at.result; role = role.Other }) tree in
    only (Breaks rule nodes) c.first_broken.result (finding rule nodes) c.first_broken.ensures (finding-first rule nodes)
    ∙ ap (λ (at : Span). finding rule (occurrences form_below (record { at = at; role = role.Other }) tree)) c.at-at.ensures
