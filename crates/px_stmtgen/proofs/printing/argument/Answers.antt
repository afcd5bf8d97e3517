use Rattle.std.proofs.Common.{ap, sym, refl, ◌∙◌, arith}
use Rattle.px_tree.specs.declared.typed_heads.TypedHead.TheVariants as head
use Rattle.px_exprgen.proofs.Fitting.{part_fits}
use Rattle.px_typed_walk.specs.TypedView.{rose_of_typed}
use Rattle.px_stmtgen.specs.Layouts.{temporary}
use Rattle.px_stmtgen.proofs.Appending.{same_code, then_code}
use Rattle.px_stmtgen.proofs.PartCode.{boxed}
use Rattle.px_stmtgen.proofs.printing.argument.Goals as goal

pub part-requires-clause-width : goal.part-requires-clause-width
part-requires-clause-width c =
    λ part there. part_fits (rose_of_typed c.args.tree.now) (head.Converted c.in-Converted.asked) (temporary c.args.layout) 0 (temporary c.args.layout) part c.in-Converted.ensures (λ a b. refl) c.requires.width (omega arith) there

pub returns-in_ok-part-in-ToObject : goal.returns-in_ok-part-in-ToObject
returns-in_ok-part-in-ToObject c =
    same_code c.push.result c.args.code.now c.push.new.self _ _
    (boxed c.args.layout c.args.d (rose_of_typed c.args.tree.now) c.in-ToObject.t _ (ap head.Converted (sym c.in-ToObject.is) ∙ c.in-Converted.ensures))
    (then_code c.push.result c.args.code.now c.part.new.code c.push.new.self _ _ c.in_ok-part-in-ToObject.ensures c.push.ensures.ok)
