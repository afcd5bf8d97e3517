use Rattle.std.proofs.Common.{[], ◌++◌, drop, ap, ◌∙◌, arith}
use Rattle.std.specs.List.{cons_option}
use Rattle.px_walk.specs.Nodes.{rose_of}
use Rattle.px_walk.specs.Roses.{parts_of}
use Rattle.px_typed_expressions.specs.Expressions.{operator_of, operators}
use Rattle.px_typed_expressions.proofs.ExpressionOperators.{operators_first, operators_more, operators_last}
use Rattle.px_typed_expressions.proofs.expressions.operators.Goals as goal

pub loop-k-init : goal.loop-k-init
loop-k-init c =
    let parts = parts_of (rose_of c.args.node) in
    ap (λ ops. ops ++ operators (drop 0 parts)) c.new-ops.ensures.items ∙ operators_first parts

pub loop-k-preserved : goal.loop-k-preserved
loop-k-preserved c =
    operators_more c.loop-k.ops.items c.add_operator.new.ops.items _ (parts_of (rose_of c.args.node)) c.loop-k.k (rose_of c.part.result) c.part.ensures
    (c.in_ok-add_operator.ensures ∙ ap (λ op. c.loop-k.ops.items ++ cons_option op []) (c.operator_of.ensures ∙ ap operator_of c.head.ensures))
    c.loop-k.invariant

pub returns : goal.returns
returns c = operators_last c.loop-k.ops.items _ (parts_of (rose_of c.args.node)) c.loop-k.k (omega arith) c.loop-k.invariant
