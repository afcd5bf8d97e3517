use Rattle.std.proofs.Common.{sym, ap, ◌∙◌}
use Rattle.px_walk.specs.Nodes.{rose_of}
use Rattle.px_walk.specs.Roses.{parts_of}
use Rattle.px_names.specs.Uses.{is_call}
use Rattle.px_names.proofs.PartLoops.{call_there, call_none}
use Rattle.px_names.proofs.rows.is_call_at.Goals as goal

pub returns-in-Some : goal.returns-in-Some
returns-in-Some c =
    c.is_call.ensures ∙ ap is_call c.head.ensures
    ∙ sym (call_there (parts_of (rose_of c.args.row)) c.args.from (rose_of c.in-Some.trailer) (sym c.in-Some.ensures))

pub returns-in-None : goal.returns-in-None
returns-in-None c = sym (call_none (parts_of (rose_of c.args.row)) c.args.from (sym c.in-None.ensures))
