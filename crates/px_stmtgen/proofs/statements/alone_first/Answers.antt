use Rattle.std.proofs.Common.{refl, sym}
use Rattle.px_walk.specs.Roses.{parts_of}
use Rattle.px_typed_walk.specs.TypedView.{rose_of_typed}
use Rattle.px_exprgen.proofs.Fitting.{part_places}
use Rattle.px_stmtgen.specs.Layouts.{temporary}
use Rattle.px_stmtgen.specs.StatementCode.{alone_width, alone_widths}
use Rattle.px_stmtgen.proofs.Appending.{same_code, no_code}
use Rattle.px_stmtgen.proofs.Parts.{part_fits, part_objects}
use Rattle.px_stmtgen.proofs.PartCode.{alone_there, alone_empty}
use Rattle.px_stmtgen.proofs.statements.alone_first.Goals as goal

pub alone-requires-clause-width : goal.alone-requires-clause-width
alone-requires-clause-width c =
    part_fits alone_width alone_widths (λ tree trees. refl) (parts_of (rose_of_typed c.args.node.tree.now)) 0 (temporary c.args.layout) (rose_of_typed c.in-Some.part.tree.now) (sym c.in-Some.ensures) c.requires.width

pub alone-requires-clause-objects : goal.alone-requires-clause-objects
alone-requires-clause-objects c =
    part_objects (rose_of_typed c.args.node.tree.now) (rose_of_typed c.in-Some.part.tree.now) 0 c.args.layout.objects (sym c.in-Some.ensures) c.requires.objects

pub alone-requires-clause-places : goal.alone-requires-clause-places
alone-requires-clause-places c =
    part_places (rose_of_typed c.args.node.tree.now) (rose_of_typed c.in-Some.part.tree.now) 0 (sym c.in-Some.ensures) c.requires.places

pub returns-in-Some : goal.returns-in-Some
returns-in-Some c =
    same_code c.alone.result c.args.code.now c.alone.new.code _ _ (alone_there c.args.layout (parts_of (rose_of_typed c.args.node.tree.now)) (rose_of_typed c.in-Some.part.tree.now) _ (sym c.in-Some.ensures)) c.alone.ensures

pub returns-in-None : goal.returns-in-None
returns-in-None c =
    no_code c.args.code.now _ (alone_empty c.args.layout (parts_of (rose_of_typed c.args.node.tree.now)) _ (sym c.in-None.ensures))
