use Rattle.px_member.specs.contracts.member.Member.{the_view}
use Rattle.px_member.proofs.CallSteps.{gives_held, gives_slot}
use Rattle.px_member.proofs.member.Member.give.Goals as goal

pub returns-clause-did : goal.returns-clause-did
returns-clause-did c = let is = c.self.view_is in rw (← is) (gives_slot _ c.args.a c.take-slot.result c.take-slot.new.self c.back.result c.back.new.self c.take-slot.ensures.value c.back.ensures.did)

pub returns-clause-held : goal.returns-clause-held
returns-clause-held c =
    let is = c.self.view_is in
    rw (← is) (λ h. c.back.ensures.held (gives_held (the_view c.self.inside) c.args.a c.take-slot.result c.take-slot.new.self c.take-slot.ensures.value c.take-slot.ensures.emptied h))
