-- That a heap stays one where the object in a slot is changed or a new one put there.
use Rattle.std.proofs.Common.{◌≡◌, ◌≢◌, ◌⊎◌, ℕ, ◌+◌, ◌<◌, ◌≤◌, List, [], ◌∷◌, get_or, Option, Some, None, refl, sym, ap, ◌∙◌, inl, inr, arith}
use Rattle.std.specs.Prelude.{option_map}
use Rattle.std.proofs.lemmas.Bool.{cases_eq}
use Rattle.px_heap.specs.declared.slots.Object.{Object}
use Rattle.px_heap.specs.declared.values.Serial.{Serial}
use Rattle.px_heap.specs.declared.values.Value.{Value}
use Rattle.px_heap.specs.Heaps.{AreHeld, AreLive, Heap, IsHeap, IsLive, found_from, limit, live, object_of}
use Rattle.px_heap.specs.References.{AreAt, IsAt, inner, references, times, times_in}
use Rattle.px_heap.proofs.Maps.{AreApart, found_at}
use Rattle.px_heap.proofs.Methods.{named}
use Rattle.px_heap.proofs.Sums.{inner_changed, inner_none, still_at, times_none}

some_is : (o p : Object) → Some o ≡ Some p → o ≡ p
some_is o p e = cc

none_is_some : (o : Object) → None ≡ Some o → ⊥
none_is_some o e = absurd (cc)

-- live references stand in their slots
pub live_at : (slots : List (Option Object)) (made : ℕ) (heap : Heap) (rs : List Serial) → record { slots = slots; made = made } ≡ heap → AreLive heap rs → AreAt slots rs
live_at slots made heap [] e h = tt
live_at slots made heap (r ∷ rs) e h =
    let n = named slots made heap r e h.0 in
    (ap (option_map (λ o. o.number)) n.there ∙ ap (λ k. Some k) n.number_is, live_at slots made heap rs e h.1)

-- references in slots are live
pub at_live : (slots : List (Option Object)) (made : ℕ) (heap : Heap) (rs : List Serial) → IsHeap slots made → record { slots = slots; made = made } ≡ heap → AreAt slots rs → AreLive heap rs
at_live slots made heap [] holds e h = tt
at_live slots made heap (r ∷ rs) holds e h = (by_slot (get_or slots r.key None) refl h.0, at_live slots made heap rs holds e h.1)
  where
    by_slot : (slot : Option Object) → get_or slots r.key None ≡ slot → option_map (λ o. o.number) slot ≡ Some r.number → IsLive heap r
    by_slot None g i = absurd (cc)
    by_slot (Some o) g i =
        let same : o.number ≡ r.number = cc in
        ap (λ x. option_map (λ l. l.key) (object_of x r.number)) (sym e) ∙ ap (λ n. option_map (λ l. l.key) (found_from 0 slots n)) (sym same)
        ∙ ap (option_map (λ l. l.key)) (found_at slots r.key o holds.apart g)

-- the references in a live object's value are live
pub value_live : (slots : List (Option Object)) (made key : ℕ) (heap : Heap) (value : Value) → IsHeap slots made → record { slots = slots; made = made } ≡ heap
    → option_map (λ o. o.value) (get_or slots key None) ≡ Some value → AreLive heap (references value)
value_live slots made key heap value holds e h = by_slot (get_or slots key None) refl h
  where
    by_slot : (slot : Option Object) → get_or slots key None ≡ slot → option_map (λ o. o.value) slot ≡ Some value → AreLive heap (references value)
    by_slot None g i = absurd (cc)
    by_slot (Some o) g i =
        let same : o.value ≡ value = cc in
        rw same at (at_live slots made heap (references o.value) holds e (holds.targets key o g))

-- held references are counted
pub held_at : (slots : List (Option Object)) (made : ℕ) (heap : Heap) (rs : List Serial) → IsHeap slots made → record { slots = slots; made = made } ≡ heap → AreHeld heap rs
    → (k : ℕ) (o : Object) → get_or slots k None ≡ Some o → o.count ≢ limit → inner slots o.number + times o.number rs ≤ o.count
held_at slots made heap rs holds e h k o g d =
    let f : object_of heap o.number ≡ Some (live k o) = ap (λ x. object_of x o.number) (sym e) ∙ found_at slots k o holds.apart g in
    let c = h.counted o.number (live k o) f d in
    let v : inner slots o.number ≡ inner heap.slots o.number = ap (λ x. inner x.slots o.number) e in
    omega (arith, c, v)

-- a slot that gets this object, whose references are there
module _ (slots new : List (Option Object)) (made after key : ℕ) (p : Object) (holds : IsHeap slots made) (le : made ≤ after)
    (next : get_or new key None ≡ Some p) (others : (k : ℕ) → k ≢ key → get_or new k None ≡ get_or slots k None)
    (at_kept : (q : Serial) → IsAt slots q → IsAt new q) (apart : AreApart new) (below : p.number < after) (counted : 0 < p.count) (few : p.count ≤ limit)
    (targets : AreAt slots (references p.value)) (covered : (k : ℕ) (q : Object) → get_or new k None ≡ Some q → q.count ≢ limit → inner new q.number ≤ q.count) where
  is_it : (k : ℕ) (q : Object) → k ≡ key → get_or new k None ≡ Some q → q ≡ p
  is_it k q e h = some_is q p (sym h ∙ ap (λ n. get_or new n None) e ∙ next)

  as_was : (k : ℕ) (q : Object) → k ≢ key → get_or new k None ≡ Some q → get_or slots k None ≡ Some q
  as_was k q d h = sym (others k d) ∙ h

  pub heap_with : IsHeap new after
  heap_with = record {
    below = λ k q h. elim (cases_eq k key) [
      | inl e ↦ let n : q.number ≡ p.number = ap (λ x. x.number) (is_it k q e h) in omega (arith, n, below)
      | inr d ↦ let i = holds.below k q (as_was k q d h) in omega (arith, i, le)
    ];
    apart = apart;
    counted = λ k q h. elim (cases_eq k key) [
      | inl e ↦ let n : q.count ≡ p.count = ap (λ x. x.count) (is_it k q e h) in omega (arith, n, counted)
      | inr d ↦ holds.counted k q (as_was k q d h)
    ];
    few = λ k q h. elim (cases_eq k key) [
      | inl e ↦ let n : q.count ≡ p.count = ap (λ x. x.count) (is_it k q e h) in omega (arith, n, few)
      | inr d ↦ holds.few k q (as_was k q d h)
    ];
    targets = λ k q h. elim (cases_eq k key) [
      | inl e ↦ still_at slots new (references q.value) (λ x c. at_kept x) (rw (is_it k q e h) targets)
      | inr d ↦ still_at slots new (references q.value) (λ x c. at_kept x) (holds.targets k q (as_was k q d h))
    ];
    covered = covered;
  }

-- an object with the same number in its slot
module _ (slots new : List (Option Object)) (made key : ℕ) (o p : Object) (holds : IsHeap slots made) (there : get_or slots key None ≡ Some o)
    (next : get_or new key None ≡ Some p) (others : (k : ℕ) → k ≢ key → get_or new k None ≡ get_or slots k None) (number : p.number ≡ o.number) where
  pub at_by : (q : Serial) → (q.key ≡ key) ⊎ (q.key ≢ key) → IsAt slots q → IsAt new q
  at_by q (inl e) h =
      ap (λ k. option_map (λ x. x.number) (get_or new k None)) e ∙ ap (option_map (λ x. x.number)) next ∙ ap (λ n. Some n) number
      ∙ sym (ap (option_map (λ x. x.number)) there) ∙ sym (ap (λ k. option_map (λ x. x.number) (get_or slots k None)) e) ∙ h
  at_by q (inr d) h = ap (option_map (λ x. x.number)) (others q.key d) ∙ h

  number_of : (k : ℕ) (q : Object) → (k ≡ key) ⊎ (k ≢ key) → get_or new k None ≡ Some q → (x : Object) × (get_or slots k None ≡ Some x) × (q.number ≡ x.number)
  number_of k q (inl e) h = (o, ap (λ n. get_or slots n None) e ∙ there, ap (λ x. x.number) (some_is q p (sym h ∙ ap (λ n. get_or new n None) e ∙ next)) ∙ number)
  number_of k q (inr d) h = (q, sym (others k d) ∙ h, refl)

  apart_still : AreApart new
  apart_still j k x y h i e =
      let u = number_of j x (cases_eq j key) h in
      let v = number_of k y (cases_eq k key) i in
      holds.apart j k u.0 v.0 u.1 v.1 (sym u.2 ∙ e ∙ v.2)

  sum_with : (n : ℕ) → inner new n + times n (references o.value) ≡ inner slots n + times n (references p.value)
  sum_with n =
      let i = inner_changed slots new key n others in
      let x : times_in n (get_or slots key None) ≡ times n (references o.value) = ap (times_in n) there in
      let y : times_in n (get_or new key None) ≡ times n (references p.value) = ap (times_in n) next in
      omega (arith, i, x, y)

  below_as : p.number < made
  below_as = let i = holds.below key o there in omega (arith, i, number)

  -- with the same value, and no lower count
  pub same_sum : p.value ≡ o.value → (n : ℕ) → inner new n ≡ inner slots n
  same_sum v n =
      let i = sum_with n in
      let j : times n (references p.value) ≡ times n (references o.value) = ap (λ x. times n (references x)) v in
      omega (arith, i, j)

  pub heap_counting : p.value ≡ o.value → o.count ≤ p.count → p.count ≤ limit → IsHeap new made
  heap_counting v more few = heap_with slots new made made key p holds (omega arith) next others (λ q. at_by q (cases_eq q.key key)) apart_still below_as
      (let i = holds.counted key o there in omega (arith, i, more)) few (rw v (holds.targets key o there))
      (λ k q h d. elim (cases_eq k key) [
        | inl e ↦
            let same = some_is q p (sym h ∙ ap (λ n. get_or new n None) e ∙ next) in
            let n : q.number ≡ o.number = ap (λ x. x.number) same ∙ number in
            let c : q.count ≡ p.count = ap (λ x. x.count) same in
            let g = holds.covered key o there (λ f. d (omega (arith, f, more, few, c))) in
            let i : inner new q.number ≡ inner slots o.number = same_sum v q.number ∙ ap (inner slots) n in
            omega (arith, g, i, c, more)
        | inr e ↦
            let g = holds.covered k q (sym (others k e) ∙ h) d in
            let i = same_sum v q.number in
            omega (arith, g, i)
      ])

  -- with the same count, and another value
  pub heap_holding : p.count ≡ o.count → AreAt slots (references p.value)
      → ((k : ℕ) (x : Object) → get_or slots k None ≡ Some x → x.count ≢ limit → inner slots x.number + times x.number (references p.value) ≤ x.count) → IsHeap new made
  heap_holding c at held = heap_with slots new made made key p holds (omega arith) next others (λ q. at_by q (cases_eq q.key key)) apart_still below_as
      (let i = holds.counted key o there in omega (arith, i, c)) (let i = holds.few key o there in omega (arith, i, c)) at
      (λ k q h d. elim (cases_eq k key) [
        | inl e ↦
            let same = some_is q p (sym h ∙ ap (λ n. get_or new n None) e ∙ next) in
            let n : q.number ≡ o.number = ap (λ x. x.number) same ∙ number in
            let m : q.count ≡ o.count = ap (λ x. x.count) same ∙ c in
            let g = held key o there (λ f. d (m ∙ f)) in
            let i = sum_with o.number in
            let j : inner new q.number ≡ inner new o.number = ap (inner new) n in
            omega (arith, g, i, j, m)
        | inr e ↦
            let g = held k q (sym (others k e) ∙ h) d in
            let i = sum_with q.number in
            omega (arith, g, i)
      ])

-- a new object
module _ (slots new : List (Option Object)) (made key : ℕ) (p : Object) (holds : IsHeap slots made) (vacant : get_or slots key None ≡ None)
    (next : get_or new key None ≡ Some p) (others : (k : ℕ) → k ≢ key → get_or new k None ≡ get_or slots k None) (number : p.number ≡ made) (count : p.count ≡ 1)
    (at : AreAt slots (references p.value))
    (held : (k : ℕ) (x : Object) → get_or slots k None ≡ Some x → x.count ≢ limit → inner slots x.number + times x.number (references p.value) ≤ x.count) where
  was_there : (q : Serial) → (slot : Option Object) → get_or slots q.key None ≡ slot → option_map (λ x. x.number) slot ≡ Some q.number → q.key ≢ key
  was_there q None g h e = absurd (cc)
  was_there q (Some x) g h e = none_is_some x (sym vacant ∙ ap (λ n. get_or slots n None) (sym e) ∙ g)

  new_sum : (n : ℕ) → inner new n ≡ inner slots n + times n (references p.value)
  new_sum n =
      let i = inner_changed slots new key n others in
      let x : times_in n (get_or slots key None) ≡ 0 = ap (times_in n) vacant in
      let y : times_in n (get_or new key None) ≡ times n (references p.value) = ap (times_in n) next in
      omega (arith, i, x, y)

  fresh : (k : ℕ) (o : Object) → get_or slots k None ≡ Some o → o.number ≢ made
  fresh k o h e = let i = holds.below k o h in omega (arith, i, e)

  in_slot : (k : ℕ) (slot : Option Object) → get_or slots k None ≡ slot → times_in made slot ≡ 0
  in_slot k None h = refl
  in_slot k (Some o) h = times_none slots made (references o.value) fresh (holds.targets k o h)

  pub no_reference : inner new made ≡ 0
  no_reference =
      let i = new_sum made in
      let x = inner_none slots made (λ k. in_slot k (get_or slots k None) refl) in
      let y = times_none slots made (references p.value) fresh at in
      omega (arith, i, x, y)

  it_is : (k : ℕ) (q : Object) → k ≡ key → get_or new k None ≡ Some q → q ≡ p
  it_is k q e h = some_is q p (sym h ∙ ap (λ n. get_or new n None) e ∙ next)

  new_apart : AreApart new
  new_apart j k x y h i e =
      elim (cases_eq j key) [
        | inl a ↦ elim (cases_eq k key) [
          | inl b ↦ a ∙ sym b
          | inr b ↦ absurd (fresh k y (sym (others k b) ∙ i) (sym e ∙ ap (λ z. z.number) (it_is j x a h) ∙ number))
        ]
        | inr a ↦ elim (cases_eq k key) [
          | inl b ↦ absurd (fresh j x (sym (others j a) ∙ h) (e ∙ ap (λ z. z.number) (it_is k y b i) ∙ number))
          | inr b ↦ holds.apart j k x y (sym (others j a) ∙ h) (sym (others k b) ∙ i) e
        ]
      ]

  pub heap_making : IsHeap new (made + 1)
  heap_making = heap_with slots new made (made + 1) key p holds (omega arith) next others
      (λ q h. ap (option_map (λ x. x.number)) (others q.key (was_there q (get_or slots q.key None) refl h)) ∙ h) new_apart (omega (arith, number)) (omega (arith, count)) (omega (arith, count)) at
      (λ k q h d. elim (cases_eq k key) [
        | inl e ↦
            let n : inner new q.number ≡ inner new made = ap (inner new) (ap (λ x. x.number) (it_is k q e h) ∙ number) in
            let z = no_reference in
            omega (arith, n, z)
        | inr e ↦
            let g = held k q (sym (others k e) ∙ h) d in
            let i = new_sum q.number in
            omega (arith, g, i)
      ])
