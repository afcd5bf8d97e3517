use Rattle.std.proofs.Common.{sym, ◌∙◌, subst}
use Rattle.px_meaning.specs.States.{holding}
use Rattle.px_meaning.specs.Modules.{first_state}
use Rattle.px_machine.specs.Means.{first_member}
use Rattle.px_member.specs.Members.{IsMember, IsEnd}
use Rattle.px_run.proofs.Onward.{first_among}
use Rattle.px_run.proofs.Beginning.{begun, ends, outcome_is}
use Rattle.px_run.proofs.run.run_module.Goals as goal

pub drive-requires-clause-ends : goal.drive-requires-clause-ends
drive-requires-clause-ends c =
    ends c.args.image.now c.args.turns c.args.members c.put_book.new.self c.new.result c.new.ensures.objects c.new.ensures.made c.new.ensures.output
    (λ store stands. subst (λ p. IsMember p (first_member c.args.image.now (holding store (first_state c.args.turns c.args.members)))) (sym c.put_book.ensures)
    (c.in_ok-member.ensures.begins c.new.result store stands))
    (λ store. first_among c.args.image.now c.formed.ensures (holding store (first_state c.args.turns c.args.members))) c.requires.ends

pub returns : goal.returns
returns c = λ names input given gives.
    let so = begun c.args.image.now c.args.turns c.args.members c.put_book.new.self c.new.result c.new.ensures.objects c.new.ensures.made c.new.ensures.output
    (λ store stands. subst (λ p. IsMember p (first_member c.args.image.now (holding store (first_state c.args.turns c.args.members)))) (sym c.put_book.ensures)
    (c.in_ok-member.ensures.begins c.new.result store stands))
    (λ store. first_among c.args.image.now c.formed.ensures (holding store (first_state c.args.turns c.args.members))) names input given gives in
    let over = c.in_ok-drive.ensures _ gives.last gives.rest gives.world so in
    let end = subst (λ e. IsEnd e gives.last) (sym (c.into_end.ensures ∙ c.output_of-output.ensures.end)) over.0.end in
    outcome_is c.args.image.now c.args.turns c.args.members names input given gives c.drive.new.member over.0 over.1 c.end_of-end.result (c.end_of-end.ensures gives.last end)
    c.output_of-output.result c.output_of-output.ensures.output c.new-2.result c.new-2.ensures
