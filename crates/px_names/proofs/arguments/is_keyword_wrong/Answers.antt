use Rattle.std.proofs.Common.{◌∙◌, sym, ap, arith}
use Rattle.std.specs.List.{list_any}
use Rattle.px_walk.specs.Nodes.{rose_of}
use Rattle.px_walk.specs.Roses.{head_of, parts_of}
use Rattle.px_walk.specs.ExprView.{Tree}
use Rattle.px_names.specs.Arguments.{is_wrong_keyword}
use Rattle.px_names.proofs.PartLoops.{drop_whole, any_passed, any_found, nothing_behind}
use Rattle.px_names.proofs.arguments.is_keyword_wrong.Goals as goal

pub loop-k-init : goal.loop-k-init
loop-k-init c = ap (list_any (λ (argument : Tree). is_wrong_keyword c.args.callee (head_of argument))) (drop_whole (parts_of (rose_of c.args.call)))

pub loop-k-preserved : goal.loop-k-preserved
loop-k-preserved c =
    any_passed (λ (argument : Tree). is_wrong_keyword c.args.callee (head_of argument)) (parts_of (rose_of c.args.call)) c.loop-k.k (rose_of c.part.result) c.part.ensures
    (ap (is_wrong_keyword c.args.callee) (sym c.head.ensures) ∙ sym c.is_wrong.ensures ∙ c.if-is_wrong.false)
    ∙ c.loop-k.invariant

pub returns-then-is_wrong : goal.returns-then-is_wrong
returns-then-is_wrong c =
    sym (any_found (λ (argument : Tree). is_wrong_keyword c.args.callee (head_of argument)) (parts_of (rose_of c.args.call)) c.loop-k.k (rose_of c.part.result) c.part.ensures
    (ap (is_wrong_keyword c.args.callee) (sym c.head.ensures) ∙ sym c.is_wrong.ensures ∙ c.if-is_wrong.true))
    ∙ c.loop-k.invariant

pub returns : goal.returns
returns c =
    sym (nothing_behind (list_any (λ (argument : Tree). is_wrong_keyword c.args.callee (head_of argument))) (parts_of (rose_of c.args.call)) c.loop-k.k (omega arith)) ∙ c.loop-k.invariant
