use Rattle.std.proofs.Common.{ap, ◌∙◌}
use Rattle.std.proofs.Common.{replicate, slice_get}
use Rattle.px_regcode.specs.declared.codes.Code.{Code}
use Rattle.std.specs.Prelude.{List}
use Rattle.px_interp.specs.declared.registers.Slot.TheVariants.{Empty}
use Rattle.px_member.specs.Members.{count_of}
use Rattle.px_member.proofs.Beginnings.{begins, holds_nothing}
use Rattle.px_member.proofs.member.Member.main.Goals as goal

pub returns-clause-begins : goal.returns-clause-begins
returns-clause-begins c = λ interp store stands.
    begins c.args.image.now c.in_ok-registers.registers c.new-2.result.items c.args.turns c.args.members interp store
    (c.in_ok-registers.ensures ∙ ap (λ n. replicate n Empty) (c.first_count.ensures ∙ ap (λ (codes : List Code). count_of (slice_get codes 0)) c.codes.ensures))
    c.new-2.ensures.items stands

pub returns-clause-empty : goal.returns-clause-empty
returns-clause-empty c =
    holds_nothing c.in_ok-registers.registers c.new-2.result.items c.args.turns c.args.members _ c.in_ok-registers.ensures c.new-2.ensures.items
