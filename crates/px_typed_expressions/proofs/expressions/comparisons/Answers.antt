use Rattle.std.proofs.Common.{drop, sym, ap, ◌∙◌, arith}
use Rattle.px_walk.specs.Nodes.{rose_of}
use Rattle.px_walk.specs.Roses.{at_of, parts_of}
use Rattle.px_typed_expressions.specs.Expressions.{comparison_in}
use Rattle.px_typed_expressions.proofs.ExpressionOperators.{with_comparisons, comparisons_first, comparisons_more, comparisons_other, comparisons_last}
use Rattle.px_typed_expressions.proofs.expressions.comparisons.Goals as goal

pub loop-k-init : goal.loop-k-init
loop-k-init c =
    let at = at_of (rose_of c.args.node) in
    let parts = drop 1 (parts_of (rose_of c.args.node)) in
    ap (λ ops. with_comparisons at ops parts) c.new-ops.ensures.items ∙ comparisons_first at parts

pub loop-k-preserved : goal.loop-k-preserved
loop-k-preserved c =
    comparisons_more (at_of (rose_of c.args.node)) c.loop-k.ops.items c.push.new.self.items c.in-Some.op _ (parts_of (rose_of c.args.node)) c.loop-k.k (rose_of c.part.result)
    c.part.ensures (ap comparison_in (sym c.head.ensures) ∙ sym c.comparison_in.ensures ∙ c.in-Some.is) c.in_ok-push-in-Some.ensures.items c.loop-k.invariant

pub returns-in-None : goal.returns-in-None
returns-in-None c =
    rw (c.unbuilt.ensures, c.at.ensures)
    (comparisons_other (at_of (rose_of c.args.node)) c.loop-k.ops.items _ (parts_of (rose_of c.args.node)) c.loop-k.k (rose_of c.part.result)
    c.part.ensures (ap comparison_in (sym c.head.ensures) ∙ sym c.comparison_in.ensures ∙ c.in-None.is) c.loop-k.invariant)

pub returns : goal.returns
returns c = comparisons_last (at_of (rose_of c.args.node)) c.loop-k.ops.items _ (parts_of (rose_of c.args.node)) c.loop-k.k (omega arith) c.loop-k.invariant
