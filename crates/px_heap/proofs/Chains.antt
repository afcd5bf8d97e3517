-- The list of the objects that are still to be freed, which goes through their slots.
use Rattle.std.proofs.Common.{◌≡◌, ◌⊎◌, ℕ, List, [], ◌∷◌, get_or, Option, Some, None, inl, inr, ap, ◌∙◌}
use Rattle.px_heap.specs.declared.slots.Object.{Object}

abbrev pub IsIn : List ℕ → ℕ → Type 0
IsIn [] k = ⊥
IsIn (j ∷ ks) k = (k ≡ j) ⊎ IsIn ks k

-- an object without a reference in this slot
pub record IsDead (slots : List (Option Object)) (key : ℕ) : Type 0 where
  pub object : Object
  pub there : get_or slots key None ≡ Some object
  pub count : object.count ≡ 0

-- the keys of the list that begins at this link, all different
abbrev pub IsChain : List (Option Object) → Option ℕ → List ℕ → Type 0
IsChain slots link [] = link ≡ None
IsChain slots link (k ∷ ks) = (link ≡ Some k) × (d : IsDead slots k) × (IsIn ks k → ⊥) × IsChain slots d.object.next ks

pub chain_dead : (slots : List (Option Object)) (link : Option ℕ) (ks : List ℕ) (k : ℕ) → IsChain slots link ks → IsIn ks k → IsDead slots k
chain_dead slots link [] k c h = absurd h
chain_dead slots link (j ∷ ks) k c (inl e) = record { object = c.1.object; there = ap (λ n. get_or slots n None) e ∙ c.1.there; count = c.1.count }
chain_dead slots link (j ∷ ks) k c (inr h) = chain_dead slots c.1.object.next ks k c.3 h

-- a list stays where its slots do
pub chain_kept : (a b : List (Option Object)) (link : Option ℕ) (ks : List ℕ) → ((k : ℕ) → IsIn ks k → get_or b k None ≡ get_or a k None) → IsChain a link ks → IsChain b link ks
chain_kept a b link [] h c = c
chain_kept a b link (k ∷ ks) h c = (
  c.0,
  (record { object = c.1.object; there = h k (inl (λ i. k)) ∙ c.1.there; count = c.1.count }),
  c.2,
  chain_kept a b c.1.object.next ks (λ j i. h j (inr i)) c.3,
)
