-- A step that no word holds takes each stride but 0 out of the words; and a product of a stride and a step of a word has 127 bits.
use Rattle.std.proofs.Common.{◌≡◌, ◌≤◌, ◌^◌, ℤ, pos, negsuc, FitsSigned, arith, sym, ap, ◌∙◌, true, false, w64, of_z, to_z, subst, lit<}
use Rattle.std.specs.Prelude.{◌*ℤ◌, int_lt, unsigned_abs}
use mir.Syntax.{w128}
use Rattle.std.proofs.lemmas.Bool.{ltb-false, ltb-true}
use Rattle.std.proofs.lemmas.Int.{fits_signed_mul, to_z-of_z}
use Rattle.px_views.proofs.Numbers.{large_step}
use Rattle.px_views.proofs.axes.scaled.Goals as goal
use Rattle.px_views.proofs.axes.scaled.Goals.{then-step-via-then-step, then-step-via-else-step+then-step-2}

far_below : (k : ℤ) → int_lt k (negsuc 9223372036854775807) ≡ true → 2 ^ 63 ≤ unsigned_abs k
far_below (pos n) e = absurd cc
far_below (negsuc n) e = omega (arith, ltb-true 9223372036854775807 n e)

far_above : (k : ℤ) → int_lt (pos 9223372036854775807) k ≡ true → 2 ^ 63 ≤ unsigned_abs k
far_above (pos n) e = omega (arith, ltb-true 9223372036854775807 n e)
far_above (negsuc n) e = absurd cc

near_by : (k : ℤ) → int_lt k (negsuc 9223372036854775807) ≡ false → int_lt (pos 9223372036854775807) k ≡ false → unsigned_abs k ≤ 2 ^ 63
near_by (pos n) e h = omega (arith, ltb-false 9223372036854775807 n h)
near_by (negsuc n) e h = omega (arith, ltb-false 9223372036854775807 n e)

word_is : (z : ℤ) → FitsSigned w64 z → unsigned_abs z ≤ 2 ^ 63
word_is (pos n) fits = omega (arith, fits.sfits)
word_is (negsuc n) fits = omega (arith, fits.sfits)

pub returns-then-step : goal.returns-then-step
returns-then-step c small =
    let is = to_z-of_z w128 c.args.step c.ranges.step in
    elim c.then-step.branch [
      | then-step-via-then-step w ↦
          large_step c.args.stride c.args.step (far_below c.args.step (ap (λ k. int_lt k (negsuc 9223372036854775807)) (sym is) ∙ w.if-step.true)) small
      | then-step-via-else-step+then-step-2 w ↦
          large_step c.args.stride c.args.step (far_above c.args.step (ap (λ k. int_lt (pos 9223372036854775807) k) (sym is) ∙ w.if-step-2.true)) small
    ]

pub overflow_mul-product : goal.overflow_mul-product
overflow_mul-product c =
    let wide : FitsSigned w128 c.args.stride = record { sfits = omega (arith, c.ranges.stride.sfits) } in
    let stride : to_z w128 (of_z w128 (to_z w64 (of_z w64 c.args.stride))) ≡ c.args.stride =
    ap (λ z. to_z w128 (of_z w128 z)) (to_z-of_z w64 c.args.stride c.ranges.stride) ∙ to_z-of_z w128 c.args.stride wide in
    let step : to_z w128 (of_z w128 c.args.step) ≡ c.args.step = to_z-of_z w128 c.args.step c.ranges.step in
    let below : int_lt c.args.step (negsuc 9223372036854775807) ≡ false = ap (λ k. int_lt k (negsuc 9223372036854775807)) (sym step) ∙ c.if-step.false in
    let above : int_lt (pos 9223372036854775807) c.args.step ≡ false = ap (λ k. int_lt (pos 9223372036854775807) k) (sym step) ∙ c.if-step-2.false in
    let fits : FitsSigned w128 (c.args.stride *ℤ c.args.step) =
    fits_signed_mul w128 c.args.stride c.args.step (2 ^ 63) (2 ^ 63) (word_is c.args.stride c.ranges.stride) (near_by c.args.step below above) (lit< tt) in
    subst (λ z. FitsSigned w128 (z *ℤ to_z w128 (of_z w128 c.args.step))) (sym stride)
    (subst (λ z. FitsSigned w128 (c.args.stride *ℤ z)) (sym step) fits)
