use Rattle.std.proofs.Common.{Bool, true, cond, ap, ◌∙◌}
use Rattle.px_names.specs.Kept.{is_seen, with_seen}
use Rattle.px_names.proofs.MapSteps.{name_set_after, name_order}
use Rattle.px_names.proofs.arguments.is_second.Goals as goal

pub returns-in_ok-insert-in-Some-clause-seen : goal.returns-in_ok-insert-in-Some-clause-seen
returns-in_ok-insert-in-Some-clause-seen c =
    let seen = is_seen c.args.seen.now in
    let name = c.in-Some.name in
    (λ i n. (name_set_after c.args.seen.now c.insert.new.self name c.in_ok-insert-in-Some.ensures.updates n
    ∙ ap (λ (b : Bool). cond b true (seen n)) (name_order n name.now)) i)
    ∙ ap (λ o. with_seen o seen) c.in-Some.ensures
