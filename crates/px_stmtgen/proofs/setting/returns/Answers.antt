use Rattle.std.proofs.Common.{sym, refl}
use Rattle.px_walk.specs.Roses.{parts_of}
use Rattle.px_typed_walk.specs.TypedView.{rose_of_typed}
use Rattle.px_exprgen.specs.ExpressionCode.{width, widest}
use Rattle.px_exprgen.proofs.Fitting.{part_places}
use Rattle.px_stmtgen.specs.Layouts.{temporary}
use Rattle.px_stmtgen.proofs.Appending.{same_code, then_code}
use Rattle.px_stmtgen.proofs.Parts.{part_fits}
use Rattle.px_stmtgen.proofs.PartCode.{return_there, return_empty}
use Rattle.px_stmtgen.proofs.setting.returns.Goals as goal

pub expression-requires-clause-width : goal.expression-requires-clause-width
expression-requires-clause-width c =
    part_fits width widest (λ tree trees. refl) (parts_of (rose_of_typed c.args.node.tree.now)) 0 (temporary c.args.layout) (rose_of_typed c.in-Some.value.tree.now) (sym c.in-Some.ensures) c.requires.width

pub expression-requires-clause-places : goal.expression-requires-clause-places
expression-requires-clause-places c =
    part_places (rose_of_typed c.args.node.tree.now) (rose_of_typed c.in-Some.value.tree.now) 0 (sym c.in-Some.ensures) c.requires.places

pub returns-in_ok-expression-in-Some : goal.returns-in_ok-expression-in-Some
returns-in_ok-expression-in-Some c =
    same_code c.push.result c.args.code.now c.push.new.self _ _ (return_there c.args.layout (parts_of (rose_of_typed c.args.node.tree.now)) (rose_of_typed c.in-Some.value.tree.now) _ (sym c.in-Some.ensures))
    (then_code c.push.result c.args.code.now c.expression.new.code c.push.new.self _ _ c.in_ok-expression-in-Some.ensures c.push.ensures.ok)

pub returns-in-None : goal.returns-in-None
returns-in-None c =
    same_code c.ending.result c.args.code.now c.ending.new.code _ _ (return_empty c.args.layout (parts_of (rose_of_typed c.args.node.tree.now)) _ (sym c.in-None.ensures)) c.ending.ensures
