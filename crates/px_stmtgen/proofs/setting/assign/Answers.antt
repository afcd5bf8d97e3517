use Rattle.std.proofs.Common.{sym, refl}
use Rattle.px_walk.specs.Roses.{parts_of}
use Rattle.px_typed_walk.specs.TypedView.{rose_of_typed}
use Rattle.px_exprgen.specs.ExpressionCode.{width, widest}
use Rattle.px_exprgen.proofs.Fitting.{part_places}
use Rattle.px_stmtgen.specs.Layouts.{temporary}
use Rattle.px_stmtgen.proofs.Appending.{same_code, no_code}
use Rattle.px_stmtgen.proofs.Parts.{part_fits}
use Rattle.px_stmtgen.proofs.PartCode.{assign_there, assign_empty, assign_short}
use Rattle.px_stmtgen.proofs.setting.assign.Goals as goal

pub returns-in_default : goal.returns-in_default
returns-in_default c =
    no_code c.args.code.now _ (assign_empty c.args.layout (parts_of (rose_of_typed c.args.node.tree.now)) _ (sym c.in_default.ensures))

pub returns-in_default-get : goal.returns-in_default-get
returns-in_default-get c =
    no_code c.args.code.now _ (assign_short c.args.layout (parts_of (rose_of_typed c.args.node.tree.now)) _ (sym c.in_default-get.ensures))

pub set_target-requires-clause-target : goal.set_target-requires-clause-target
set_target-requires-clause-target c =
    part_places (rose_of_typed c.args.node.tree.now) (rose_of_typed c.in-Some.target.tree.now) 0 (sym c.in-Some.ensures) c.requires.places

pub set_target-requires-clause-width : goal.set_target-requires-clause-width
set_target-requires-clause-width c =
    part_fits width widest (λ tree trees. refl) (parts_of (rose_of_typed c.args.node.tree.now)) 1 (temporary c.args.layout) (rose_of_typed c.in-Some-get.value.tree.now) (sym c.in-Some-get.ensures) c.requires.width

pub set_target-requires-clause-places : goal.set_target-requires-clause-places
set_target-requires-clause-places c =
    part_places (rose_of_typed c.args.node.tree.now) (rose_of_typed c.in-Some-get.value.tree.now) 1 (sym c.in-Some-get.ensures) c.requires.places

pub returns : goal.returns
returns c =
    same_code c.set_target.result c.args.code.now c.set_target.new.code _ _ (assign_there c.args.layout (parts_of (rose_of_typed c.args.node.tree.now)) (rose_of_typed c.in-Some.target.tree.now) (rose_of_typed c.in-Some-get.value.tree.now) _ (sym c.in-Some.ensures) (sym c.in-Some-get.ensures)) c.set_target.ensures
