use Rattle.std.proofs.Common.{sym, ap, ◌∙◌}
use Rattle.px_walk.specs.Nodes.{rose_of}
use Rattle.px_walk.specs.Roses.{head_of, parts_of}
use Rattle.px_walk.specs.ExprView.{Tree}
use Rattle.px_names.specs.Uses.{is_call}
use Rattle.px_environments.proofs.Parts.{all_passed, all_failed}
use Rattle.px_environments.proofs.built_forms.are_calls.Goals as goal

pub loop-k-preserved : goal.loop-k-preserved
loop-k-preserved c =
    all_passed (λ (trailer : Tree). is_call (head_of trailer)) (parts_of (rose_of c.args.row)) c.loop-k.k (rose_of c.part.result) c.part.ensures
    (sym (c.is_call.ensures ∙ ap is_call c.head.ensures) ∙ c.if-not-is_call.false)
    ∙ c.loop-k.invariant

pub returns-then-not-is_call : goal.returns-then-not-is_call
returns-then-not-is_call c =
    sym (all_failed (λ (trailer : Tree). is_call (head_of trailer)) (parts_of (rose_of c.args.row)) c.loop-k.k (rose_of c.part.result) c.part.ensures
    (sym (c.is_call.ensures ∙ ap is_call c.head.ensures) ∙ c.if-not-is_call.true))
    ∙ c.loop-k.invariant
