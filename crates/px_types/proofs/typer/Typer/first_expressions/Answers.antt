use Rattle.std.proofs.Common.{◌<◌, ◌≤◌, length, take, length-take, arith}
use Rattle.px_walk.specs.Nodes.{rose_of}
use Rattle.px_walk.specs.Roses.{parts_of}
use Rattle.px_typed_walk.specs.TypedView.{rose_of_typed}
use Rattle.px_operators.specs.Kept.{gathered_kept}
use Rattle.px_typed_expressions.specs.Expressions.{expression}
use Rattle.px_types.specs.Typers.{environment_of}
use Rattle.px_types.proofs.StatementLoops.{from_first, from_next, from_none, all_given, taken_there}
use Rattle.px_types.proofs.typer.Typer.first_expressions.Goals as goal

pub loop-k-init : goal.loop-k-init
loop-k-init c =
    from_first rose_of_typed (expression (environment_of c.args.self.now)) (gathered_kept c.new-all.result) (take c.args.count (parts_of (rose_of c.args.node))) c.new-all.ensures

pub loop-k-preserved : goal.loop-k-preserved
loop-k-preserved c =
    let parts = parts_of (rose_of c.args.node) in
    let within : c.loop-k.k < c.args.count = omega arith in
    from_next rose_of_typed (expression (environment_of c.args.self.now)) (gathered_kept c.loop-k.all) (gathered_kept c.take.new.self) (take c.args.count parts) c.loop-k.k (rose_of c.part.result) c.expression.result _
    c.loop-k.invariant (taken_there c.args.count c.loop-k.k parts (rose_of c.part.result) c.part.ensures within) c.expression.ensures c.in_ok-take.ensures

pub returns : goal.returns
returns c =
    let parts = parts_of (rose_of c.args.node) in
    let past : length (take c.args.count parts) ≤ c.loop-k.k = omega (arith, length-take c.args.count parts) in
    all_given (λ all. all.items) rose_of_typed c.all.result (gathered_kept c.loop-k.all) _ c.all.ensures
    (from_none rose_of_typed (expression (environment_of c.args.self.now)) (gathered_kept c.loop-k.all) (take c.args.count parts) c.loop-k.k _ c.loop-k.invariant past)
