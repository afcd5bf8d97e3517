use Rattle.std.proofs.Common.{sym, refl}
use Rattle.px_walk.specs.Roses.{parts_of}
use Rattle.px_typed_walk.specs.TypedView.{rose_of_typed}
use Rattle.px_exprgen.specs.ExpressionCode.{width, widest}
use Rattle.px_exprgen.proofs.Fitting.{part_places}
use Rattle.px_stmtgen.specs.Layouts.{temporary}
use Rattle.px_stmtgen.proofs.Appending.{same_code, no_code}
use Rattle.px_stmtgen.proofs.Parts.{part_fits}
use Rattle.px_stmtgen.proofs.PartCode.{declared_there, declared_empty}
use Rattle.px_stmtgen.proofs.setting.declared.Goals as goal

pub set-requires-clause-width : goal.set-requires-clause-width
set-requires-clause-width c =
    part_fits width widest (λ tree trees. refl) (parts_of (rose_of_typed c.args.node.tree.now)) 0 (temporary c.args.layout) (rose_of_typed c.in-Some.value.tree.now) (sym c.in-Some.ensures) c.requires.width

pub set-requires-clause-places : goal.set-requires-clause-places
set-requires-clause-places c =
    part_places (rose_of_typed c.args.node.tree.now) (rose_of_typed c.in-Some.value.tree.now) 0 (sym c.in-Some.ensures) c.requires.places

pub returns-in-Some : goal.returns-in-Some
returns-in-Some c =
    same_code c.set.result c.args.code.now c.set.new.code _ _ (declared_there c.args.layout c.args.slot (parts_of (rose_of_typed c.args.node.tree.now)) (rose_of_typed c.in-Some.value.tree.now) _ (sym c.in-Some.ensures)) c.set.ensures

pub returns-in-None : goal.returns-in-None
returns-in-None c =
    no_code c.args.code.now _ (declared_empty c.args.layout c.args.slot (parts_of (rose_of_typed c.args.node.tree.now)) _ (sym c.in-None.ensures))
