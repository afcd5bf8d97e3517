use Rattle.std.proofs.Common.{sym, ap, ◌∙◌, ◌-◌}
use Rattle.px_machine.specs.Machine.{act}
use Rattle.px_member.proofs.Moves.{behind, goes_on, no_turn, seen, spends_none, spends_one, with_turns}
use Rattle.px_member.proofs.member.Member.turn.Goals as goal

pub returns-then-self-eq0-clause-did : goal.returns-then-self-eq0-clause-did
unfolding act
returns-then-self-eq0-clause-did c = λ image m h u.
    let n = seen _ _ c.self.view_is m h in
    (_, m.rest, spends_none _ (n.rest.turns ∙ c.if-self-eq0.true) _ m, no_turn _ m n)

pub returns-clause-did : goal.returns-clause-did
unfolding act
returns-clause-did c = λ image m h u.
    let n = seen _ _ c.self.view_is m h in
    let turned = with_turns _ _ _ (ap (λ k. k - 1) n.rest.turns) m n in
    rw (spends_one _ (λ e. c.if-self-eq0.false (sym n.rest.turns ∙ e)) _ m)
    (goes_on c.args.next _ _ _ c.go_to.ensures.did _ turned (behind _ _ c.self.view_is _ c.requires))
