use Rattle.std.proofs.Common.{◌<◌, ◌+◌, drop, refl, ◌∙◌, arith}
use Rattle.px_tree.specs.declared.typed_heads.TypedHead.TheVariants as head
use Rattle.px_walk.specs.Roses.{parts_of, size}
use Rattle.px_walk.proofs.Walks.{size-part}
use Rattle.px_typed_walk.specs.TypedView.{rose_of_typed}
use Rattle.px_exprgen.specs.ExpressionCode.{widest}
use Rattle.px_exprgen.proofs.Fitting.{part_places}
use Rattle.px_exprgen.proofs.Parts.{drop_one}
use Rattle.px_stmtgen.specs.Layouts.{temporary}
use Rattle.px_stmtgen.specs.StatementCode.{alone_widths, statement_width, statement_widths}
use Rattle.px_stmtgen.proofs.Appending.{same_code, no_code}
use Rattle.px_stmtgen.proofs.Bodies.{turns_next}
use Rattle.px_stmtgen.proofs.Parts.{part_fits, part_objects, statement_fits}
use Rattle.px_stmtgen.proofs.PartCode.{statement_is}
use Rattle.px_stmtgen.proofs.StatementHeads.{expression_by, assign_by, augment_by, declare_by, declarator_by, return_by, other_statement}
use Rattle.px_stmtgen.proofs.statements.+statement.Goals as goal

pub in_turn-statement-requires : goal.in_turn-statement-requires
in_turn-statement-requires t c =
    let there = c.part.ensures in
    let less : size (rose_of_typed c.part.result.tree.now) < size (rose_of_typed c.args.node.tree.now) = size-part (rose_of_typed c.args.node.tree.now) c.loop-k.k (rose_of_typed c.part.result.tree.now) there in
    let d = c.decreases in
    (omega arith, (c.requires.width c.loop-k.k (rose_of_typed c.part.result.tree.now) there, (part_objects (rose_of_typed c.args.node.tree.now) (rose_of_typed c.part.result.tree.now) c.loop-k.k c.args.layout.objects there c.requires.objects, part_places (rose_of_typed c.args.node.tree.now) (rose_of_typed c.part.result.tree.now) c.loop-k.k there c.requires.places)))

pub in_turn-loop-k-preserved : goal.in_turn-loop-k-preserved
in_turn-loop-k-preserved t c =
    turns_next c.args.layout (rose_of_typed c.part.result.tree.now) (drop c.loop-k.k (parts_of (rose_of_typed c.args.node.tree.now))) (drop (c.loop-k.k + 1) (parts_of (rose_of_typed c.args.node.tree.now))) c.loop-k.code c.statement.new.code _
    c.loop-k.invariant (drop_one (parts_of (rose_of_typed c.args.node.tree.now)) c.loop-k.k (rose_of_typed c.part.result.tree.now) c.part.ensures) c.in_ok-statement.ensures

pub statement-alone_first-requires-clause-width : goal.statement-alone_first-requires-clause-width
statement-alone_first-requires-clause-width t c =
    statement_fits (rose_of_typed c.args.tree.now) head.Expression alone_widths (temporary c.args.layout) c.in-Expression.ensures refl c.requires.width

pub statement-assign-requires-clause-width : goal.statement-assign-requires-clause-width
statement-assign-requires-clause-width t c =
    statement_fits (rose_of_typed c.args.tree.now) head.Assign widest (temporary c.args.layout) c.in-Assign.ensures refl c.requires.width

pub statement-augment-requires-clause-width : goal.statement-augment-requires-clause-width
statement-augment-requires-clause-width t c =
    statement_fits (rose_of_typed c.args.tree.now) (head.Augment c.in-Augment.field-0) widest (temporary c.args.layout) c.in-Augment.ensures refl c.requires.width

pub statement-in_turn-requires : goal.statement-in_turn-requires
statement-in_turn-requires t c =
    let fits = statement_fits (rose_of_typed c.args.tree.now) head.Declare statement_widths (temporary c.args.layout) c.in-Declare.ensures refl c.requires.width in
    let d = c.decreases in
    (omega arith, ((λ k part there. part_fits statement_width statement_widths (λ tree trees. refl) (parts_of (rose_of_typed c.args.tree.now)) k (temporary c.args.layout) part there fits), (c.requires.objects, c.requires.places)))

pub statement-declared-requires-clause-width : goal.statement-declared-requires-clause-width
statement-declared-requires-clause-width t c =
    statement_fits (rose_of_typed c.args.tree.now) (head.Declarator c.in-Declarator.slot c.in-Declarator.field-1) widest (temporary c.args.layout) c.in-Declarator.ensures refl c.requires.width

pub statement-returns-requires-clause-width : goal.statement-returns-requires-clause-width
statement-returns-requires-clause-width t c =
    statement_fits (rose_of_typed c.args.tree.now) head.Return widest (temporary c.args.layout) c.in-Return.ensures refl c.requires.width

pub statement-returns-in-Expression : goal.statement-returns-in-Expression
statement-returns-in-Expression t c =
    same_code c.alone_first.result c.args.code.now c.alone_first.new.code _ _ (statement_is c.args.layout (rose_of_typed c.args.tree.now) head.Expression _ c.in-Expression.ensures ∙ expression_by c.args.layout _ _ _) c.alone_first.ensures

pub statement-returns-in-Assign : goal.statement-returns-in-Assign
statement-returns-in-Assign t c =
    same_code c.assign.result c.args.code.now c.assign.new.code _ _ (statement_is c.args.layout (rose_of_typed c.args.tree.now) head.Assign _ c.in-Assign.ensures ∙ assign_by c.args.layout _ _ _) c.assign.ensures

pub statement-returns-in-Augment : goal.statement-returns-in-Augment
statement-returns-in-Augment t c =
    same_code c.augment.result c.args.code.now c.augment.new.code _ _ (statement_is c.args.layout (rose_of_typed c.args.tree.now) (head.Augment c.in-Augment.field-0) _ c.in-Augment.ensures ∙ augment_by c.args.layout c.in-Augment.field-0 _ _ _) c.augment.ensures

pub statement-returns-in-Declare : goal.statement-returns-in-Declare
statement-returns-in-Declare t c =
    same_code c.in_turn.result c.args.code.now c.in_turn.new.code _ _ (statement_is c.args.layout (rose_of_typed c.args.tree.now) head.Declare _ c.in-Declare.ensures ∙ declare_by c.args.layout _ _ _) c.in_turn.ensures

pub statement-returns-in-Declarator : goal.statement-returns-in-Declarator
statement-returns-in-Declarator t c =
    same_code c.declared.result c.args.code.now c.declared.new.code _ _ (statement_is c.args.layout (rose_of_typed c.args.tree.now) (head.Declarator c.in-Declarator.slot c.in-Declarator.field-1) _ c.in-Declarator.ensures ∙ declarator_by c.args.layout c.in-Declarator.slot c.in-Declarator.field-1 _ _ _) c.declared.ensures

pub statement-returns-in-Return : goal.statement-returns-in-Return
statement-returns-in-Return t c =
    same_code c.returns.result c.args.code.now c.returns.new.code _ _ (statement_is c.args.layout (rose_of_typed c.args.tree.now) head.Return _ c.in-Return.ensures ∙ return_by c.args.layout _ _ _) c.returns.ensures

pub statement-returns-in_default : goal.statement-returns-in_default
statement-returns-in_default t c =
    no_code c.args.code.now _ (statement_is c.args.layout (rose_of_typed c.args.tree.now) c.head.result _ c.head.ensures
    ∙ other_statement c.args.layout _ _ _ c.head.result c.in_default.not-Expression c.in_default.not-Assign c.in_default.not-Augment c.in_default.not-Declare c.in_default.not-Declarator c.in_default.not-Return)
