use Rattle.std.proofs.Common.{sym, ◌∙◌}
use Rattle.px_walk.specs.Nodes.{rose_of}
use Rattle.px_walk.specs.Roses.{parts_of}
use Rattle.px_names.proofs.PartLoops.{values_there, values_none}
use Rattle.px_names.proofs.rows.values_at.Goals as goal

pub returns-in-Some : goal.returns-in-Some
returns-in-Some c =
    c.values_refusal.ensures ∙ sym (values_there (parts_of (rose_of c.args.row)) c.args.from (rose_of c.in-Some.call) (sym c.in-Some.ensures))

pub returns-in-None : goal.returns-in-None
returns-in-None c = sym (values_none (parts_of (rose_of c.args.row)) c.args.from (sym c.in-None.ensures))
