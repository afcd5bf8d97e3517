use Rattle.std.proofs.Common.{◌+◌, ap, sym, ◌∙◌, ◌++◌, ◌∷◌, []}
use Rattle.px_member.specs.contracts.member.Member.{the_view}
use Rattle.px_member.proofs.References.{among_held_in}
use Rattle.px_member.proofs.CallSteps.{opened_among, opens_frame, unopened_among}
use Rattle.px_member.proofs.member.Member.open.Goals as goal

pub returns-in-Err-clause-held : goal.returns-in-Err-clause-held
returns-in-Err-clause-held c =
    let is = c.self.view_is in
    let after = c.replace-caller.ensures.after in
    rw (after, c.in-Err.ensures.items, ← is)
    (among_held_in _ _ c.self.inside.book (unopened_among c.self.inside.frame c.args.count c.in-Ok.registers c.self.inside.callers.items c.in-Ok.ensures))

pub returns-clause-did : goal.returns-clause-did
returns-clause-did c =
    let is = c.self.view_is in
    let after = c.replace-caller.ensures.after in
    rw (after, ← is)
    (opens_frame (the_view c.self.inside) c.args.f c.args.count c.args.next c.args.d c.in-Ok.registers c.push.new.self.items c.in-Ok.ensures
    (c.requires ∙ ap (λ m. m.frame.pc + 1) (sym is)) (c.in_default-push.ensures.items ∙ ap (λ f. c.self.inside.callers.items ++ f ∷ []) c.replace-caller.ensures.value))

pub returns-clause-held : goal.returns-clause-held
returns-clause-held c =
    let is = c.self.view_is in
    let after = c.replace-caller.ensures.after in
    rw (after, ← is)
    (among_held_in _ _ c.self.inside.book (opened_among c.self.inside.frame c.args.count c.args.next c.in-Ok.registers c.self.inside.callers.items c.push.new.self.items c.in-Ok.ensures
    (c.in_default-push.ensures.items ∙ ap (λ f. c.self.inside.callers.items ++ f ∷ []) c.replace-caller.ensures.value)))
