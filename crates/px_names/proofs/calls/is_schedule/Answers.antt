use Rattle.std.proofs.Common.{◌∙◌, sym}
use Rattle.px_names.specs.Uses.{is_schedule}
use Rattle.px_names.proofs.Heads.{from_head, other_schedule}
use Rattle.px_names.proofs.calls.is_schedule.Goals as goal

pub returns-in-None : goal.returns-in-None
returns-in-None c = from_head is_schedule c.in-None.is

pub returns-in-Text : goal.returns-in-Text
returns-in-Text c = c.is_schedule_text.ensures ∙ from_head is_schedule c.in-Text.is

pub returns-in_default : goal.returns-in_default
returns-in_default c = sym (other_schedule c.args.value c.in_default.not-None c.in_default.not-Text)
