use Rattle.std.proofs.Common.{arith}
use Rattle.px_walk.specs.Nodes.{rose_of}
use Rattle.px_walk.specs.Roses.{parts_of}
use Rattle.px_typed_walk.specs.TypedView.{rose_of_typed}
use Rattle.px_operators.specs.Kept.{gathered_kept}
use Rattle.px_types.specs.Statements.{returned}
use Rattle.px_types.specs.Typers.{environment_of}
use Rattle.px_types.proofs.StatementLoops.{from_first, from_next, from_none, all_given}
use Rattle.px_types.proofs.typer.Typer.returns.Goals as goal

pub loop-k-init : goal.loop-k-init
loop-k-init c =
    from_first rose_of_typed (returned (environment_of c.args.self.now) c.args.t) (gathered_kept c.new-all.result) (parts_of (rose_of c.args.node)) c.new-all.ensures

pub loop-k-preserved : goal.loop-k-preserved
loop-k-preserved c =
    from_next rose_of_typed (returned (environment_of c.args.self.now) c.args.t) (gathered_kept c.loop-k.all) (gathered_kept c.take.new.self) (parts_of (rose_of c.args.node)) c.loop-k.k (rose_of c.part.result)
    c.returned_part.result _ c.loop-k.invariant c.part.ensures c.returned_part.ensures c.in_ok-take.ensures

pub returns : goal.returns
returns c =
    all_given (λ all. all.items) rose_of_typed c.all.result (gathered_kept c.loop-k.all) _ c.all.ensures
    (from_none rose_of_typed (returned (environment_of c.args.self.now) c.args.t) (gathered_kept c.loop-k.all) (parts_of (rose_of c.args.node)) c.loop-k.k _ c.loop-k.invariant (omega arith))
