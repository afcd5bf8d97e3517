use Rattle.std.proofs.Common.{sym, ap, ◌∙◌}
use Rattle.std.specs.Prelude.{is_some}
use Rattle.px_names.proofs.MapSteps.{number_kept_after, none_of}
use Rattle.px_environments.specs.Kept.{variables_kept}
use Rattle.px_environments.proofs.TableSteps.{new_entry, old_entry}
use Rattle.px_environments.proofs.variables.Variables.add.Goals as goal

pub returns-then-is_some : goal.returns-then-is_some
returns-then-is_some c =
    let kept = variables_kept c.args.self.now in
    let local = c.args.local.now in
    let there = ap (λ o. is_some o) (sym c.get.ensures) ∙ sym c.is_some.ensures ∙ c.if-is_some.true in
    λ i n. old_entry kept local.number (record { slot = c.args.slot; value_type = local.value_type }) there n i

pub returns : goal.returns
returns c =
    let kept = variables_kept c.args.self.now in
    let local = c.args.local.now in
    let none = sym c.get.ensures ∙ none_of c.get.result (sym c.is_some.ensures ∙ c.if-is_some.false) in
    λ i n. (number_kept_after c.args.self.now.variables c.insert.new.self local.number (record { slot = c.args.slot; value_type = local.value_type }) c.in_ok-insert.ensures.updates n
    ∙ new_entry kept local.number (record { slot = c.args.slot; value_type = local.value_type }) none n) i
