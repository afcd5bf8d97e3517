-- What `make` answers, over the slots and the heap that they are seen as.
use Rattle.std.proofs.Common.{◌≡◌, ◌≢◌, ℕ, ◌+◌, ◌<◌, List, get_or, Option, Some, None, sym, ap, ◌∙◌, arith}
use Rattle.px_heap.specs.declared.slots.Object.{Object}
use Rattle.px_heap.specs.Heaps.{Heap, IsHeap, found_from, limit, object_of, put}
use Rattle.px_heap.specs.Answers.{IsNew}
use Rattle.px_heap.specs.References.{inner, references, times, times_in}
use Rattle.px_heap.proofs.Maps.{Changes, found_none, put_there}
use Rattle.px_heap.proofs.Sums.{inner_changed}

pub is_new : (slots new : List (Option Object)) (made : ℕ) (heap after : Heap) (key : ℕ) (o : Object) → IsHeap slots made → record { slots = slots; made = made } ≡ heap
    → record { slots = new; made = made + 1 } ≡ after → made < limit → o.number ≡ made → o.count ≡ 1
    → get_or slots key None ≡ None → get_or new key None ≡ Some o → ((other : ℕ) → other ≢ key → get_or new other None ≡ get_or slots other None)
    → inner new made ≡ 0
    → IsNew heap after o.value (record { number = made; key = key })
is_new slots new made heap after key o holds e f few number count vacant there others no_reference = record {
  number = ap (λ x. x.made) e;
  objects = λ other.
      let c : Changes slots new key made (Some o) = record {
        changed = there;
        others = others;
        was = λ p h. absurd (none_is_some p (sym vacant ∙ h));
        is = λ p h. let same : o ≡ p = cc in ap (λ x. x.number) (sym same) ∙ number;
        alone = λ k p d h i. let b = holds.below k p h in omega (arith, b, i);
      } in
      ap (λ x. object_of x other) (sym f)
      ∙ put_there slots new key made (Some o) c holds.apart other
      ∙ ap (λ l. put made (Some l) (found_from 0 slots) other) (ap (λ n. record { key = key; count = n; value = o.value }) count)
      ∙ ap (λ x. put x.made (Some (record { key = key; count = 1; value = o.value })) (object_of x) other) e;
  made = ap (λ x. x.made) (sym f) ∙ ap (λ x. x.made + 1) e;
  inner = λ n.
      let i = inner_changed slots new key n others in
      let x : times_in n (get_or slots key None) ≡ 0 = ap (times_in n) vacant in
      let y : times_in n (get_or new key None) ≡ times n (references o.value) = ap (times_in n) there in
      let u : inner after.slots n ≡ inner new n = ap (λ x. inner x.slots n) (sym f) in
      let v : inner slots n ≡ inner heap.slots n = ap (λ x. inner x.slots n) e in
      omega (arith, i, x, y, u, v);
  fresh = let g : heap.made ≡ made = ap (λ x. x.made) (sym e) in
      ap (object_of heap) g ∙ ap (λ x. object_of x made) (sym e) ∙ found_none slots made (λ k p h i. let b = holds.below k p h in omega (arith, b, i));
  alone = let g : heap.made ≡ made = ap (λ x. x.made) (sym e) in
      ap (λ x. inner x.slots heap.made) (sym f) ∙ ap (inner new) g ∙ no_reference;
  few = let g : heap.made ≡ made = ap (λ x. x.made) (sym e) in omega (arith, g, few);
}
  where
    none_is_some : (p : Object) → None ≡ Some p → ⊥
    none_is_some p h = absurd (cc)
