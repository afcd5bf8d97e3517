use Rattle.std.proofs.Common.{◌≡◌, ◌+◌, ◌*◌, ◌<◌, true, ap, sym, subst, ◌∙◌, arith}
use Rattle.std.specs.Prelude.{Err, slice_get}
use Rattle.px_tree.specs.declared.typed_heads.TypedHead.TheVariants as head
use Rattle.px_walk.specs.Forms as form
use Rattle.px_walk.specs.HeadForms.{form_of}
use Rattle.px_walk.specs.Nodes.{rose_of}
use Rattle.px_walk.specs.Roses.{number_of, at_of, parts_of, size}
use Rattle.px_walk.proofs.Walks.{size-part}
use Rattle.px_typed_walk.specs.TypedView.{rose_of_typed}
use Rattle.px_operators.specs.Outcomes.{Gives, followed, all_of}
use Rattle.px_operators.specs.Conversions.{tested}
use Rattle.px_operators.specs.Kept.{gathered_kept}
use Rattle.px_typed_expressions.specs.Expressions.{expression_at}
use Rattle.px_types.specs.Statements.{made, guarded, for_of, statement}
use Rattle.px_types.specs.StatementsKept.{trees_gathered, block_from}
use Rattle.px_types.specs.Typers.{environment_of}
use Rattle.px_types.proofs.StatementHeads.{other_statement}
use Rattle.px_types.proofs.StatementLoops.{from_next, from_none, all_given, made_there, unbuilt_given}
use Rattle.px_types.proofs.StatementSteps.{by_form, block_whole, block_same, block_loops, block_behind, block_alone}
use Rattle.px_types.proofs.typer.Typer.+statement.Goals as goal

pub take_block-statement-requires : goal.take_block-statement-requires
take_block-statement-requires t c =
    let less : size (rose_of c.part.result) < size (rose_of c.args.node) = size-part (rose_of c.args.node) c.loop-k.k (rose_of c.part.result) c.part.ensures in
    let d = c.decreases in
    (omega arith, tt)

pub take_block-loop-k-preserved : goal.take_block-loop-k-preserved
take_block-loop-k-preserved t c =
    from_next rose_of_typed (statement (environment_of c.args.self.now) c.args.looped) (gathered_kept c.loop-k.all) (gathered_kept c.take.new.self) (parts_of (rose_of c.args.node)) c.loop-k.k (rose_of c.part.result)
    c.statement.result _ c.loop-k.invariant c.part.ensures c.statement.ensures c.in_ok-take.ensures

pub take_block-returns : goal.take_block-returns
take_block-returns t c =
    from_none rose_of_typed (statement (environment_of c.args.self.now) c.args.looped) (gathered_kept c.loop-k.all) (parts_of (rose_of c.args.node)) c.loop-k.k _ c.loop-k.invariant (omega arith)

pub guarded-returns : goal.guarded-returns
guarded-returns t c =
    let environment = environment_of c.args.self.now in
    let node = rose_of c.args.node in
    let block = block_from environment c.args.looped 1 node in
    made_there c.args.head c.number.result (number_of node) c.at.result (at_of node) _ c.made.result c.number.ensures c.at.ensures
    (c.made.ensures _
    (all_given (λ all. all.items) rose_of_typed c.all.result (gathered_kept c.take_block.new.all) _ c.all.ensures
    (block_behind (followed (expression_at environment (at_of node) (slice_get (parts_of node) 0)) tested) block c.test.result (gathered_kept c.new-all.result) (gathered_kept c.take.new.self) (gathered_kept c.take_block.new.all)
    c.new-all.ensures c.test.ensures c.in_ok-take.ensures c.in_ok-take_block.ensures)))

pub if_of-returns : goal.if_of-returns
if_of-returns t c =
    let environment = environment_of c.args.self.now in
    let node = rose_of c.args.node in
    let block = block_from environment c.args.looped 0 node in
    made_there c.args.head c.number.result (number_of node) c.at.result (at_of node) _ c.made.result c.number.ensures c.at.ensures
    (c.made.ensures _
    (all_given (λ all. all.items) rose_of_typed c.all.result (gathered_kept c.take_block.new.all) _ c.all.ensures
    (block_alone block (gathered_kept c.new-all.result) (gathered_kept c.take_block.new.all) c.new-all.ensures c.in_ok-take_block.ensures)))

pub range_block-returns : goal.range_block-returns
range_block-returns t c =
    let environment = environment_of c.args.self.now in
    let node = rose_of c.args.node in
    let block = block_from environment true 2 node in
    all_given (λ all. all.items) rose_of_typed c.all.result (gathered_kept c.take_block.new.all) _ c.all.ensures
    (block_alone block (gathered_kept c.new-all.result) (gathered_kept c.take_block.new.all) c.new-all.ensures c.in_ok-take_block.ensures)

pub statement-returns-in-Assign : goal.statement-returns-in-Assign
statement-returns-in-Assign t c = by_form (environment_of c.args.self.now) c.args.looped (rose_of c.args.node) (form.Assign c.in-Assign.targets) c.assign.result c.in-Assign.ensures c.assign.ensures

pub statement-returns-in-Augment : goal.statement-returns-in-Augment
statement-returns-in-Augment t c = by_form (environment_of c.args.self.now) c.args.looped (rose_of c.args.node) (form.Augment c.in-Augment.op) c.augment.result c.in-Augment.ensures c.augment.ensures

pub statement-returns-in-Pass : goal.statement-returns-in-Pass
statement-returns-in-Pass t c = by_form (environment_of c.args.self.now) c.args.looped (rose_of c.args.node) form.Pass c.plain.result c.in-Pass.ensures c.plain.ensures

pub statement-returns-in-Break : goal.statement-returns-in-Break
statement-returns-in-Break t c = by_form (environment_of c.args.self.now) c.args.looped (rose_of c.args.node) form.Break c.in_loop.result c.in-Break.ensures c.in_loop.ensures

pub statement-returns-in-Continue : goal.statement-returns-in-Continue
statement-returns-in-Continue t c = by_form (environment_of c.args.self.now) c.args.looped (rose_of c.args.node) form.Continue c.in_loop-in-Continue.result c.in-Continue.ensures c.in_loop-in-Continue.ensures

pub statement-returns-in-Return : goal.statement-returns-in-Return
statement-returns-in-Return t c = by_form (environment_of c.args.self.now) c.args.looped (rose_of c.args.node) form.Return c.return_of.result c.in-Return.ensures c.return_of.ensures

pub statement-returns-in-Global : goal.statement-returns-in-Global
statement-returns-in-Global t c = by_form (environment_of c.args.self.now) c.args.looped (rose_of c.args.node) (form.Global c.in-Global.field-0.now) c.plain-in-Global.result c.in-Global.ensures c.plain-in-Global.ensures

pub statement-returns-in-Declare : goal.statement-returns-in-Declare
statement-returns-in-Declare t c = by_form (environment_of c.args.self.now) c.args.looped (rose_of c.args.node) form.Declare c.declare.result c.in-Declare.ensures c.declare.ensures

pub statement-returns-in-DeclareGroup : goal.statement-returns-in-DeclareGroup
statement-returns-in-DeclareGroup t c = by_form (environment_of c.args.self.now) c.args.looped (rose_of c.args.node) form.DeclareGroup c.declare-in-DeclareGroup.result c.in-DeclareGroup.ensures c.declare-in-DeclareGroup.ensures

pub statement-returns-in-If : goal.statement-returns-in-If
statement-returns-in-If t c =
    let environment = environment_of c.args.self.now in
    let node = rose_of c.args.node in
    by_form environment c.args.looped node (form.If c.in-If.arms c.in-If.has_else) c.if_of.result c.in-If.ensures
    (subst (λ b. Gives rose_of_typed c.if_of.result (made (head.If c.in-If.arms c.in-If.has_else) (number_of node) (at_of node) (all_of b))) (block_whole environment c.args.looped node) c.if_of.ensures)

pub statement-returns-in-Arm : goal.statement-returns-in-Arm
statement-returns-in-Arm t c =
    let environment = environment_of c.args.self.now in
    let node = rose_of c.args.node in
    by_form environment c.args.looped node form.Arm c.guarded.result c.in-Arm.ensures
    (subst (λ b. Gives rose_of_typed c.guarded.result (guarded head.Arm (number_of node) (at_of node) (expression_at environment (at_of node) (slice_get (parts_of node) 0)) b))
    (block_same environment c.args.looped 1 node) c.guarded.ensures)

pub statement-returns-in-While : goal.statement-returns-in-While
statement-returns-in-While t c =
    let environment = environment_of c.args.self.now in
    let node = rose_of c.args.node in
    by_form environment c.args.looped node form.While c.guarded-in-While.result c.in-While.ensures
    (subst (λ b. Gives rose_of_typed c.guarded-in-While.result (guarded head.While (number_of node) (at_of node) (expression_at environment (at_of node) (slice_get (parts_of node) 0)) b))
    (block_loops environment c.args.looped 1 node) c.guarded-in-While.ensures)

pub statement-returns-in-For : goal.statement-returns-in-For
statement-returns-in-For t c =
    let environment = environment_of c.args.self.now in
    let node = rose_of c.args.node in
    by_form environment c.args.looped node form.For c.for_of.result c.in-For.ensures
    (subst (λ b. Gives rose_of_typed c.for_of.result (for_of environment (number_of node) (at_of node) (parts_of node) b)) (block_loops environment c.args.looped 2 node) c.for_of.ensures)

pub statement-returns-in_default : goal.statement-returns-in_default
statement-returns-in_default t c =
    let environment = environment_of c.args.self.now in
    let node = rose_of c.args.node in
    let other = c.in_default in
    by_form environment c.args.looped node (form_of c.head.result) (Err c.unbuilt.result) c.head.ensures
    (unbuilt_given c.unbuilt.result c.at.result (at_of node) _ c.unbuilt.ensures c.at.ensures
    (other_statement environment c.args.looped (number_of node) (at_of node) (parts_of node) _ c.head.result
    other.not-Assign other.not-Augment other.not-Pass other.not-Break other.not-Continue other.not-Return other.not-Global other.not-If other.not-Arm other.not-While other.not-For other.not-Declare other.not-DeclareGroup))
