use Rattle.std.proofs.Common.{refl, arith}
use Rattle.px_tree.specs.declared.typed_values.ValueType.TheVariants as type
use Rattle.px_stmtgen.proofs.Cleanups.{swallowing_length, throwing_length}
use Rattle.px_stmtgen.proofs.functions.cleanup_length.Goals as goal

pub returns-in-C : goal.returns-in-C
returns-in-C c =
    swallowing_length c.args.layout c.args.swallows (type.C c.in-C.field-0) 2 _ c.if-swallows.true c.in-C.is refl (omega arith)

pub returns-in-Object : goal.returns-in-Object
returns-in-Object c =
    swallowing_length c.args.layout c.args.swallows type.Object 2 _ c.if-swallows.true c.in-Object.is refl (omega arith)

pub returns-in-View : goal.returns-in-View
returns-in-View c =
    swallowing_length c.args.layout c.args.swallows (type.View c.in-View.field-0) 0 _ c.if-swallows.true c.in-View.is refl (omega arith)

pub returns-in-Void : goal.returns-in-Void
returns-in-Void c =
    swallowing_length c.args.layout c.args.swallows type.Void 1 _ c.if-swallows.true c.in-Void.is refl (omega arith)

pub returns-else-swallows : goal.returns-else-swallows
returns-else-swallows c =
    throwing_length c.args.layout c.args.swallows c.if-swallows.false
