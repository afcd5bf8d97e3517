use Rattle.std.proofs.Common.{sym, ap, ◌∙◌, ◌++◌, ◌∷◌, []}
use Rattle.px_member.proofs.FrameSteps.{none_unwound, unwound_more}
use Rattle.px_member.proofs.member.Member.fail.Goals as goal

pub loop-self-init : goal.loop-self-init
loop-self-init c = let is = c.self.view_is in rw is (none_unwound c.args.fault c.args.self.now)

pub loop-self-preserved : goal.loop-self-preserved
loop-self-preserved c =
    unwound_more c.args.fault c.args.self.now _ c.pop.new.self.items c.replace.new.dest c.loop-self.invariant c.in_default.is
    (c.in-Some-pop.ensures.items ∙ ap (λ f. c.pop.new.self.items ++ f ∷ []) (sym c.replace.ensures.after))
