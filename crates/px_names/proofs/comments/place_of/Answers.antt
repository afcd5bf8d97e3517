use Rattle.std.proofs.Common.{◌≡◌, ℕ, ◌<◌, length, false, not, get_or, sym, ap, arith}
use Rattle.std.specs.Prelude.{◌==◌}
use Rattle.std.proofs.lemmas.Bool.{eq-eqb}
use Rattle.std.proofs.lemmas.List.Sums.{prefix_len_is}
use Rattle.px_names.proofs.comments.place_of.Goals as goal

pub returns-else-text-at-clause-place : goal.returns-else-text-at-clause-place
returns-else-text-at-clause-place c =
    let text = c.args.text.now in
    let at = c.loop-at.at in
    let stops : at < length text → not (get_or text at 0 == c.args.byte) ≡ false =
    λ less. ap not (eq-eqb (get_or text at 0) c.args.byte c.if-text-at.false) in
    sym (prefix_len_is (λ (b : ℕ). not (b == c.args.byte)) text at 0 c.loop-at.invariant.within (λ k less. ap not (c.loop-at.invariant.others k less)) stops)

pub returns-after-loop-at-clause-place : goal.returns-after-loop-at-clause-place
returns-after-loop-at-clause-place c =
    let text = c.args.text.now in
    let at = c.loop-at.at in
    let stops : at < length text → not (get_or text at 0 == c.args.byte) ≡ false = λ less. absurd (omega (arith, less, c.loop-at-test.false)) in
    sym (prefix_len_is (λ (b : ℕ). not (b == c.args.byte)) text at 0 c.loop-at.invariant.within (λ k less. ap not (c.loop-at.invariant.others k less)) stops)
