use Rattle.std.proofs.Common.{sym, ap, ◌∙◌, ◌++◌, ◌∷◌, [], rules}
use Rattle.px_member.proofs.FrameSteps.{throws_held, throws_on, throws_out}
use Rattle.px_member.proofs.member.Member.throw.Goals as goal

pub returns-in-Some-clause-did : goal.returns-in-Some-clause-did
returns-in-Some-clause-did c = λ image.
    throws_on c.args.self.now _ c.pop.new.self.items c.replace.new.dest c.last_fault-fault.result c.fail.result c.fail.new.self c.last_fault-fault.ensures.fault
    (c.self.view_is ∙ c.last_fault-fault.ensures.rest) (c.in-Some.ensures.items ∙ ap (λ f. c.pop.new.self.items ++ f ∷ []) (sym c.replace.ensures.after)) c.fail.ensures.did image

pub returns-in-Some-clause-held : goal.returns-in-Some-clause-held
returns-in-Some-clause-held c = λ h.
    c.fail.ensures.held (throws_held c.args.self.now _ c.pop.new.self.items c.replace.new.dest (c.self.view_is ∙ c.last_fault-fault.ensures.rest)
    (c.in-Some.ensures.items ∙ ap (λ f. c.pop.new.self.items ++ f ∷ []) (sym c.replace.ensures.after)) h)

pub returns-in-None-clause-did : goal.returns-in-None-clause-did
returns-in-None-clause-did c = λ image.
    throws_out c.args.self.now _ c.last_fault-fault.result c.pop.new.self.items c.last_fault-fault.ensures.fault (c.self.view_is ∙ c.last_fault-fault.ensures.rest) (search rules) image
