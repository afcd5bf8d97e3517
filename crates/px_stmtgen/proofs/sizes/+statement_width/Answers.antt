use Rattle.std.proofs.Common.{◌<◌, ap, sym, refl, ◌∙◌, arith}
use Rattle.px_tree.specs.declared.typed_heads.TypedHead.TheVariants as head
use Rattle.px_walk.specs.Roses.{parts_of, size}
use Rattle.px_walk.proofs.Walks.{size-part}
use Rattle.px_typed_walk.specs.TypedView.{rose_of_typed}
use Rattle.px_exprgen.specs.Places.{capped}
use Rattle.px_stmtgen.specs.StatementCode.{statement_width, statement_widths}
use Rattle.px_stmtgen.proofs.Parts.{width_by_head}
use Rattle.px_stmtgen.proofs.Roses.{parts_next}
use Rattle.px_stmtgen.proofs.sizes.+statement_width.Goals as goal

pub statement_width-returns-in-Expression : goal.statement_width-returns-in-Expression
statement_width-returns-in-Expression t c =
    c.alone_widths.ensures ∙ ap capped (sym (width_by_head (rose_of_typed c.args.tree.now) head.Expression c.in-Expression.ensures))

pub statement_width-returns-in-Assign : goal.statement_width-returns-in-Assign
statement_width-returns-in-Assign t c =
    c.widest.ensures ∙ ap capped (sym (width_by_head (rose_of_typed c.args.tree.now) head.Assign c.in-Assign.ensures))

pub statement_width-returns-in-Augment : goal.statement_width-returns-in-Augment
statement_width-returns-in-Augment t c =
    c.widest-in-Augment.ensures ∙ ap capped (sym (width_by_head (rose_of_typed c.args.tree.now) (head.Augment c.in-Augment.field-0) c.in-Augment.ensures))

pub statement_width-returns-in-Declare : goal.statement_width-returns-in-Declare
statement_width-returns-in-Declare t c =
    c.statement_widths.ensures ∙ ap capped (sym (width_by_head (rose_of_typed c.args.tree.now) head.Declare c.in-Declare.ensures))

pub statement_width-returns-in-Declarator : goal.statement_width-returns-in-Declarator
statement_width-returns-in-Declarator t c =
    c.widest-in-Declarator.ensures ∙ ap capped (sym (width_by_head (rose_of_typed c.args.tree.now) (head.Declarator c.in-Declarator.field-0 c.in-Declarator.field-1) c.in-Declarator.ensures))

pub statement_width-returns-in-Return : goal.statement_width-returns-in-Return
statement_width-returns-in-Return t c =
    c.widest-in-Return.ensures ∙ ap capped (sym (width_by_head (rose_of_typed c.args.tree.now) head.Return c.in-Return.ensures))

pub statement_widths-statement_width-requires : goal.statement_widths-statement_width-requires
statement_widths-statement_width-requires t c =
    let less : size (rose_of_typed c.part.result.tree.now) < size (rose_of_typed c.args.node.tree.now) =
    size-part (rose_of_typed c.args.node.tree.now) c.loop-k.k (rose_of_typed c.part.result.tree.now) c.part.ensures in
    let d = c.decreases in
    (omega arith, tt)

pub statement_widths-loop-k-preserved : goal.statement_widths-loop-k-preserved
statement_widths-loop-k-preserved t c =
    parts_next statement_width statement_widths (λ tree trees. refl) (parts_of (rose_of_typed c.args.node.tree.now)) c.loop-k.k (rose_of_typed c.part.result.tree.now) c.loop-k.most c.statement_width.result c.max-most.result _
    c.loop-k.invariant c.part.ensures c.statement_width.ensures c.max-most.ensures
