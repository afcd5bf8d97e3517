use Rattle.std.proofs.Common.{◌≡◌, ◌+◌, drop, Bool, true, false, ◌&&◌, ◌||◌, not, sym, ap, ◌∙◌}
use Rattle.px_walk.specs.Nodes.{rose_of}
use Rattle.px_walk.specs.Roses.{head_of, parts_of}
use Rattle.px_names.specs.Rules.{are_identities_right, is_identity, is_none_at, right_of}
use Rattle.px_names.proofs.PartLoops.{chain_more, link_broken, link_of_right, link_of_left, link_of_other}
use Rattle.px_names.proofs.judging.is_chain_right.Goals.{else-is_identity-via-then-is_identity+then-not-left+else-not-right, else-is_identity-via-then-is_identity+else-not-left, else-is_identity-via-else-is_identity}
use Rattle.px_names.proofs.judging.is_chain_right.Goals as goal

pub returns-then-not-right : goal.returns-then-not-right
returns-then-not-right c =
    let parts = parts_of (rose_of c.args.chain) in
    let part = rose_of c.part-comparison.result in
    let identity : is_identity (head_of part) ≡ true = ap is_identity (sym c.head.ensures) ∙ sym c.is_identity.ensures ∙ c.if-is_identity.true in
    let right : is_none_at (right_of part) ≡ false = sym (c.is_none_at-right.ensures ∙ ap is_none_at c.get-in-loop-k.ensures) ∙ c.if-not-right.true in
    sym (chain_more c.loop-k.left parts c.loop-k.k part c.part-comparison.ensures
    ∙ link_broken (is_identity (head_of part)) c.loop-k.left (is_none_at (right_of part)) (are_identities_right (is_none_at (right_of part)) (drop (c.loop-k.k + 1) parts))
    identity c.if-not-left.true right)
    ∙ c.loop-k.invariant

pub loop-k-preserved : goal.loop-k-preserved
loop-k-preserved c =
    let parts = parts_of (rose_of c.args.chain) in
    let part = rose_of c.part-comparison.result in
    let behind = drop (c.loop-k.k + 1) parts in
    let test = is_identity (head_of part) in
    let spelled : test ≡ c.is_identity.result = ap is_identity (sym c.head.ensures) ∙ sym c.is_identity.ensures in
    let right : c.is_none_at-right.result ≡ is_none_at (right_of part) = c.is_none_at-right.ensures ∙ ap is_none_at c.get-in-loop-k.ensures in
    let holds : (not test || c.loop-k.left || is_none_at (right_of part)) ≡ true =
    elim c.else-is_identity.branch [
      | else-is_identity-via-then-is_identity+then-not-left+else-not-right w ↦ link_of_right test c.loop-k.left (is_none_at (right_of part)) (sym right ∙ w.if-not-right.false)
      | else-is_identity-via-then-is_identity+else-not-left w ↦ link_of_left test c.loop-k.left (is_none_at (right_of part)) w.if-not-left.false
      | else-is_identity-via-else-is_identity w ↦ link_of_other test c.loop-k.left (is_none_at (right_of part)) (spelled ∙ w.if-is_identity.false)
    ] in
    ap (λ (left : Bool). are_identities_right left behind) right
    ∙ ap (λ (b : Bool). b && are_identities_right (is_none_at (right_of part)) behind) (sym holds)
    ∙ sym (chain_more c.loop-k.left parts c.loop-k.k part c.part-comparison.ensures)
    ∙ c.loop-k.invariant
