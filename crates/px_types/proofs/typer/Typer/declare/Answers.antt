use Rattle.std.proofs.Common.{ap, arith}
use Rattle.px_tree.specs.declared.typed_heads.TypedHead.TheVariants as head
use Rattle.px_walk.specs.Nodes.{rose_of}
use Rattle.px_walk.specs.Roses.{number_of, at_of, parts_of}
use Rattle.px_typed_walk.specs.TypedView.{rose_of_typed}
use Rattle.px_operators.specs.Kept.{gathered_kept, trees_kept}
use Rattle.px_operators.specs.Outcomes.{mapped}
use Rattle.px_types.specs.Statements.{declaration}
use Rattle.px_types.specs.StatementsKept.{trees_gathered}
use Rattle.px_types.specs.Typers.{environment_of}
use Rattle.px_types.proofs.StatementLoops.{all_given, made_there}
use Rattle.px_types.proofs.StatementSteps.{lists_first, lists_next, lists_none}
use Rattle.px_types.proofs.typer.Typer.declare.Goals as goal

pub loop-k-init : goal.loop-k-init
loop-k-init c =
    lists_first (declaration (environment_of c.args.self.now)) (trees_gathered c.new-all.result) (parts_of (rose_of c.args.node)) (ap (mapped trees_kept) c.new-all.ensures)

pub loop-k-preserved : goal.loop-k-preserved
loop-k-preserved c =
    lists_next (declaration (environment_of c.args.self.now)) (trees_gathered c.loop-k.all) (trees_gathered c.take_declaration.new.all) (parts_of (rose_of c.args.node)) c.loop-k.k (rose_of c.part.result) _
    c.loop-k.invariant c.part.ensures c.in_ok-take_declaration.ensures

pub returns : goal.returns
returns c =
    let node = rose_of c.args.node in
    made_there head.Declare c.number.result (number_of node) c.at.result (at_of node) _ c.made.result c.number.ensures c.at.ensures
    (c.made.ensures _
    (all_given (λ all. all.items) rose_of_typed c.all.result (gathered_kept c.loop-k.all) _ c.all.ensures
    (lists_none (declaration (environment_of c.args.self.now)) (trees_gathered c.loop-k.all) (parts_of node) c.loop-k.k _ c.loop-k.invariant (omega arith))))
