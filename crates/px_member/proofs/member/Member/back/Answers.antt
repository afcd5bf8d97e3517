use Rattle.std.proofs.Common.{sym, ap, ◌∙◌, ◌++◌, ◌∷◌, []}
use Rattle.px_member.proofs.References.{among_among, among_held_in, second_among}
use Rattle.px_member.proofs.FrameSteps.{frame_among, given_among, gives_back, gives_nothing}
use Rattle.px_member.proofs.member.Member.back.Goals as goal

pub returns-in-Some-result-clause-did : goal.returns-in-Some-result-clause-did
returns-in-Some-result-clause-did c = let is = c.self.view_is in rw (← is)
    (gives_back _ c.pop.new.self.items c.replace.new.dest c.args.slot c.in-Some-result.d c.set.new.self
    (c.in-Some.ensures.items ∙ ap (λ f. c.pop.new.self.items ++ f ∷ []) (sym c.replace.ensures.after)) c.in-Some-result.is c.set.ensures)

pub returns-in-None-clause-did : goal.returns-in-None-clause-did
returns-in-None-clause-did c = let is = c.self.view_is in rw (← is)
    (gives_nothing _ c.pop.new.self.items c.replace.new.dest _
    (c.in-Some.ensures.items ∙ ap (λ f. c.pop.new.self.items ++ f ∷ []) (sym c.replace.ensures.after)) c.in-None.is)

pub returns-in-Some-result-clause-held : goal.returns-in-Some-result-clause-held
returns-in-Some-result-clause-held c = let is = c.self.view_is in rw (← is)
    (among_held_in _ _ c.self.inside.book (given_among c.self.inside.frame c.replace.new.dest c.self.inside.callers.items c.pop.new.self.items c.in-Some-result.d.number c.args.slot c.set.new.self
    (c.in-Some.ensures.items ∙ ap (λ f. c.pop.new.self.items ++ f ∷ []) (sym c.replace.ensures.after)) c.set.ensures))

pub returns-in-None-clause-held : goal.returns-in-None-clause-held
returns-in-None-clause-held c = let is = c.self.view_is in rw (← is)
    (among_held_in _ _ c.self.inside.book (among_among _ _ _ (frame_among c.self.inside.frame c.replace.new.dest c.self.inside.callers.items c.pop.new.self.items
    (c.in-Some.ensures.items ∙ ap (λ f. c.pop.new.self.items ++ f ∷ []) (sym c.replace.ensures.after))) (second_among _ _)))
