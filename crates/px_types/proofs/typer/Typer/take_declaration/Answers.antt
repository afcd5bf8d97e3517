use Rattle.std.proofs.Common.{refl, sym, ap, drop, ◌∙◌, arith}
use Rattle.std.specs.Option.{is_some}
use Rattle.px_walk.specs.Nodes.{rose_of}
use Rattle.px_walk.specs.Roses.{at_of, parts_of}
use Rattle.px_typed_walk.specs.TypedView.{rose_of_typed}
use Rattle.px_operators.specs.Kept.{gathered_kept}
use Rattle.px_environments.specs.WrittenTypes.{first_type}
use Rattle.px_types.specs.Statements.{declarator}
use Rattle.px_types.specs.StatementsKept.{trees_gathered}
use Rattle.px_types.specs.Typers.{environment_of}
use Rattle.px_types.proofs.StatementLoops.{from_next, from_none}
use Rattle.px_types.proofs.StatementSteps.{declared_all}
use Rattle.px_types.proofs.typer.Typer.take_declaration.Goals as goal

pub loop-k-init : goal.loop-k-init
loop-k-init c = refl

pub loop-k-preserved : goal.loop-k-preserved
loop-k-preserved c =
    from_next rose_of_typed (declarator (environment_of c.args.self.now)) (gathered_kept c.loop-k.all) (gathered_kept c.take-in-loop-k.new.self) (parts_of (rose_of c.args.node)) c.loop-k.k (rose_of c.part.result)
    c.declarator.result _ c.loop-k.invariant c.part.ensures c.declarator.ensures c.in_ok-take.ensures

pub returns : goal.returns
returns c =
    let parts = parts_of (rose_of c.args.node) in
    from_none rose_of_typed (declarator (environment_of c.args.self.now)) (gathered_kept c.loop-k.all) parts c.loop-k.k _ c.loop-k.invariant (omega arith)
    ∙ declared_all (environment_of c.args.self.now) (at_of (rose_of c.args.node)) (first_type parts) (drop 1 parts) (trees_gathered c.args.all.now)
    (sym (ap is_some c.first_type.ensures) ∙ c.if-is_none.ensures)
