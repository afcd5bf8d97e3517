use Rattle.std.proofs.Common.{◌≡◌, ◌+◌, ◌++◌, drop, length, suc, refl, ap, ◌∙◌, arith}
use Rattle.px_walk.specs.Roses.{gathered, parts_of}
use Rattle.px_typed_walk.specs.TypedView.{rose_of_typed}
use Rattle.px_exprgen.specs.ExpressionCode.{width, widest}
use Rattle.px_exprgen.proofs.Fitting.{part_places}
use Rattle.px_stmtgen.specs.Layouts.{temporary}
use Rattle.px_stmtgen.specs.StatementCode.{arguments_code}
use Rattle.px_stmtgen.proofs.Parts.{part_fits}
use Rattle.px_stmtgen.proofs.PartCode.{arguments_next}
use Rattle.px_stmtgen.proofs.printing.arguments.Goals as goal

pub argument-requires-clause-width : goal.argument-requires-clause-width
argument-requires-clause-width c =
    part_fits width widest (λ tree trees. refl) (parts_of (rose_of_typed c.args.node.tree.now)) c.loop-k.k (temporary c.args.layout) (rose_of_typed c.part.result.tree.now) c.part.ensures c.requires.width

pub argument-requires-clause-places : goal.argument-requires-clause-places
argument-requires-clause-places c =
    part_places (rose_of_typed c.args.node.tree.now) (rose_of_typed c.part.result.tree.now) c.loop-k.k c.part.ensures c.requires.places

pub loop-k-preserved : goal.loop-k-preserved
loop-k-preserved c =
    let next : c.args.layout.variables + (c.loop-k.k + 1) ≡ suc (c.args.layout.variables + c.loop-k.k) = omega arith in
    ap (λ d. c.argument.new.code ++ arguments_code c.args.layout d (gathered (drop (c.loop-k.k + 1) (parts_of (rose_of_typed c.args.node.tree.now)))) (length c.argument.new.code)) next
    ∙ arguments_next c.args.layout (parts_of (rose_of_typed c.args.node.tree.now)) c.loop-k.k (c.args.layout.variables + c.loop-k.k) (rose_of_typed c.part.result.tree.now) c.loop-k.code c.argument.new.code _
    c.loop-k.invariant c.part.ensures c.in_ok-argument.ensures
