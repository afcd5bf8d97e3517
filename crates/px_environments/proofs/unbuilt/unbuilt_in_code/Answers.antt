use Rattle.std.proofs.Common.{◌+◌, List, drop, Option, sym, ap, ◌∙◌}
use Rattle.std.proofs.lemmas.List.{drop_all}
use Rattle.px_base.specs.declared.refusals.Refusal.{Refusal}
use Rattle.px_base.specs.Findings.{first_of}
use Rattle.px_tree.specs.declared.modules.ModuleItem.{ModuleItem}
use Rattle.px_names.proofs.PartLoops.{none_first}
use Rattle.px_environments.specs.Kept.{environment_kept}
use Rattle.px_environments.proofs.FirstForms.{code_first, code_step}
use Rattle.px_environments.proofs.Parts.{drop_here}
use Rattle.px_environments.proofs.unbuilt.unbuilt_in_code.Goals as goal

pub loop-item-preserved : goal.loop-item-preserved
loop-item-preserved c =
    let environment = environment_kept c.args.environment.now in
    let items = c.args.items.now in
    let k = c.loop-item.item-index in
    let item = c.item-item.result in
    ap (λ (found : Option Refusal). first_of found (code_first environment (drop (k + 1) items))) c.earlier-first.ensures
    ∙ code_step environment items k item c.loop-item.first c.unbuilt_in_item.result
    (drop_here items items k item (λ i. items) c.loop-item-test.true c.item-item.is) c.unbuilt_in_item.ensures
    ∙ c.loop-item.invariant

pub returns : goal.returns
returns c =
    let environment = environment_kept c.args.environment.now in
    sym (none_first c.loop-item.first)
    ∙ ap (λ (rest : List ModuleItem). first_of c.loop-item.first (code_first environment rest))
    (sym (drop_all c.loop-item.item-index c.args.items.now c.loop-item-test.false))
    ∙ c.loop-item.invariant
