-- What holds of the objects of each heap.
use Rattle.std.proofs.Common.{◌≡◌, ℕ, ◌<◌, List, [], Option, Some, sym, ap, ◌∙◌, arith}
use Rattle.px_heap.specs.declared.slots.Object.{Object}
use Rattle.px_heap.specs.Heaps.{AreHeld, AreLive, Heap, IsHeap, Live, object_of}
use Rattle.px_heap.specs.References.{inner, references}
use Rattle.px_heap.proofs.Keeping.{at_live}
use Rattle.px_heap.proofs.Maps.{IsThere, is_there}

module _ (slots : List (Option Object)) (made : ℕ) (heap : Heap) (holds : IsHeap slots made) (e : record { slots = slots; made = made } ≡ heap) (number : ℕ) (o : Live) (h : object_of heap number ≡ Some o) where
  there : IsThere slots number o
  there = is_there slots number o (ap (λ x. object_of x number) e ∙ h)

  pub number_given : number < heap.made
  number_given =
      let i = holds.below o.key there.object there.there in
      let n = there.number_is in
      let m : made ≡ heap.made = ap (λ x. x.made) e in
      omega (arith, i, n, m)

  pub has_reference : 0 < o.count
  has_reference =
      let i = holds.counted o.key there.object there.there in
      let c : o.count ≡ there.object.count = ap (λ x. x.count) there.live_is in
      omega (arith, i, c)

  pub references_live : AreLive heap (references o.value)
  references_live =
      let v : there.object.value ≡ o.value = sym (ap (λ x. x.value) there.live_is) in
      rw v at (at_live slots made heap (references there.object.value) holds e (holds.targets o.key there.object there.there))

pub counts_suffice : (slots : List (Option Object)) (made : ℕ) (heap : Heap) → IsHeap slots made → record { slots = slots; made = made } ≡ heap → AreHeld heap []
counts_suffice slots made heap holds e = record {
  live = tt;
  counted = λ n o h d.
      let t = is_there slots n o (ap (λ x. object_of x n) e ∙ h) in
      let c : o.count ≡ t.object.count = ap (λ x. x.count) t.live_is in
      let k = holds.covered o.key t.object t.there (λ f. d (c ∙ f)) in
      let i : inner slots t.object.number ≡ inner heap.slots n = ap (inner slots) t.number_is ∙ ap (λ x. inner x.slots n) e in
      omega (arith, c, k, i);
}
