-- Laws of the product of whole numbers.
use Rattle.std.proofs.Common.{◌≡◌, ◌*◌, ℤ, neg_ℤ, ◌+ℤ◌, ◌*ℤ◌, ap, ◌∙◌, arith}
use lib.IntN.{*ℤ_comm}
use Rattle.std.proofs.lemmas.Int.{ints}
use borrow.Author.Differences.{up, down, sum_is_lem, product_is}

pub *ℤ-distrib : (a b c : ℤ) → (a +ℤ b) *ℤ c ≡ (a *ℤ c) +ℤ (b *ℤ c)
*ℤ-distrib a b c =
    let above = ap (λ x. x * up c) (sum_is_lem a b) in
    let below = ap (λ x. x * down c) (sum_is_lem a b) in
    omega (arith, ints, above, below)

pub neg-*ℤ : (a c : ℤ) → neg_ℤ a *ℤ c ≡ neg_ℤ (a *ℤ c)
neg-*ℤ a c =
    let over : up (neg_ℤ a) ≡ down a = omega (arith, ints) in
    let under : down (neg_ℤ a) ≡ up a = omega (arith, ints) in
    omega (arith, ints, ap (λ x. x * up c) over, ap (λ x. x * down c) over, ap (λ x. x * up c) under, ap (λ x. x * down c) under)

pub *ℤ-swap : (a b c : ℤ) → (a *ℤ b) *ℤ c ≡ (a *ℤ c) *ℤ b
*ℤ-swap a b c =
    let p = product_is a b in
    let q = product_is a c in
    omega (
      arith,
      ints,
      ap (λ x. x * up c) p.0,
      ap (λ x. x * down c) p.0,
      ap (λ x. x * up c) p.1,
      ap (λ x. x * down c) p.1,
      ap (λ x. x * up b) q.0,
      ap (λ x. x * down b) q.0,
      ap (λ x. x * up b) q.1,
      ap (λ x. x * down b) q.1,
    )

pub *ℤ-assoc : (a b c : ℤ) → (a *ℤ b) *ℤ c ≡ a *ℤ (b *ℤ c)
*ℤ-assoc a b c = ap (λ x. x *ℤ c) (*ℤ_comm a b) ∙ *ℤ-swap b a c ∙ *ℤ_comm (b *ℤ c) a
