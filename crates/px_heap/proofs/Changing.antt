-- What `share` and `write` leave.
use Rattle.std.proofs.Common.{◌≡◌, ◌≢◌, ℕ, ◌+◌, ◌<◌, List, get_or, Option, Some, None, refl, sym, ap, ◌∙◌, arith}
use Rattle.std.specs.Prelude.{option_map}
use Rattle.std.proofs.lemmas.Bool.{cases_eq}
use Rattle.px_heap.specs.declared.slots.Object.{Object}
use Rattle.px_heap.specs.declared.values.Serial.{Serial}
use Rattle.px_heap.specs.declared.values.Value.{Value}
use Rattle.px_heap.specs.Heaps.{AreHeld, AreLive, Heap, IsHeap, IsLive, inner_count, limit, with_content, with_count}
use Rattle.px_heap.specs.References.{IsAt, inner, references, times, times_in}
use Rattle.px_heap.proofs.Keeping.{at_by, at_live, heap_counting, heap_holding, held_at, live_at, same_sum}
use Rattle.px_heap.proofs.Methods.{count_is, named}
use Rattle.px_heap.proofs.Sums.{inner_changed, still_at}

module _ (slots new : List (Option Object)) (made : ℕ) (heap : Heap) (s : Serial) (holds : IsHeap slots made) (e : record { slots = slots; made = made } ≡ heap) (h : IsLive heap s)
    (others : (k : ℕ) → k ≢ s.key → get_or new k None ≡ get_or slots k None) where
  pub shared_heap : (count : ℕ) → get_or new s.key None ≡ option_map (with_count (count + 1)) (get_or slots s.key None) → option_map (λ o. o.count) (get_or slots s.key None) ≡ Some count → count < limit → IsHeap new made
  shared_heap count changed c less =
      let n = named slots made heap s e h in
      let f = count_is _ n.object count n.there c in
      heap_counting slots new made s.key n.object (with_count (count + 1) n.object) holds n.there (changed ∙ ap (option_map (with_count (count + 1))) n.there) others refl
      refl (omega (arith, f)) (omega (arith, less))

  pub shared_sum : (count : ℕ) → get_or new s.key None ≡ option_map (with_count (count + 1)) (get_or slots s.key None) → (number : ℕ) → inner_count (record { slots = new; made = made }) number ≡ inner_count heap number
  shared_sum count changed number =
      let n = named slots made heap s e h in
      same_sum slots new made s.key n.object (with_count (count + 1) n.object) holds n.there (changed ∙ ap (option_map (with_count (count + 1))) n.there) others refl refl number
      ∙ ap (λ x. inner x.slots number) e

  pub written_heap : (value : Value) → get_or new s.key None ≡ option_map (with_content value) (get_or slots s.key None) → AreHeld heap (references value) → IsHeap new made
  written_heap value changed held =
      let n = named slots made heap s e h in
      heap_holding slots new made s.key n.object (with_content value n.object) holds n.there (changed ∙ ap (option_map (with_content value)) n.there) others refl
      refl (live_at slots made heap (references value) e held.live) (held_at slots made heap (references value) holds e held)

  pub written_sum : (value was : Value) → get_or new s.key None ≡ option_map (with_content value) (get_or slots s.key None) → option_map (λ o. o.value) (get_or slots s.key None) ≡ Some was
      → (number : ℕ) → inner_count (record { slots = new; made = made }) number + times number (references was) ≡ inner_count heap number + times number (references value)
  written_sum value was changed is number =
      let n = named slots made heap s e h in
      let i = inner_changed slots new s.key number others in
      let v : Some n.object.value ≡ Some was = sym (ap (option_map (λ o. o.value)) n.there) ∙ is in
      let w : n.object.value ≡ was = cc in
      let x : times_in number (get_or slots s.key None) ≡ times number (references was) = ap (times_in number) n.there ∙ ap (λ y. times number (references y)) w in
      let y : times_in number (get_or new s.key None) ≡ times number (references value) = ap (times_in number) (changed ∙ ap (option_map (with_content value)) n.there) in
      let z : inner slots number ≡ inner heap.slots number = ap (λ q. inner q.slots number) e in
      omega (arith, i, x, y, z)

  at_new : (value : Value) → get_or new s.key None ≡ option_map (with_content value) (get_or slots s.key None) → (q : Serial) → IsAt slots q → IsAt new q
  at_new value changed q i =
      let n = named slots made heap s e h in
      at_by slots new made s.key n.object (with_content value n.object) holds n.there (changed ∙ ap (option_map (with_content value)) n.there) others refl q (cases_eq q.key s.key) i

  -- the references in the value that went are still live
  pub written_live : (value was : Value) → get_or new s.key None ≡ option_map (with_content value) (get_or slots s.key None) → option_map (λ o. o.value) (get_or slots s.key None) ≡ Some was → AreHeld heap (references value)
      → AreLive (record { slots = new; made = made }) (references was)
  written_live value was changed is held =
      let n = named slots made heap s e h in
      let v : Some n.object.value ≡ Some was = sym (ap (option_map (λ o. o.value)) n.there) ∙ is in
      let w : n.object.value ≡ was = cc in
      let t = rw w at (holds.targets s.key n.object n.there) in
      at_live new made (record { slots = new; made = made }) (references was) (written_heap value changed held) refl (still_at slots new (references was) (λ q c. at_new value changed q) t)
