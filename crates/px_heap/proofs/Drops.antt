-- What `drop_one` leaves, over the slots and the heap that they are seen as.
use Rattle.std.proofs.Common.{◌≡◌, ◌≢◌, ◌⊎◌, ℕ, ◌+◌, ◌<◌, ◌≤◌, List, [], ◌∷◌, Bool, true, false, get_or, Option, Some, None, refl, sym, ap, ◌∙◌, inl, inr, arith}
use Rattle.std.specs.Prelude.{option_map}
use Rattle.std.proofs.lemmas.Bool.{cases_eq, cases_Bool, eq-eqb, ne_eqb}
use Rattle.px_heap.specs.declared.slots.Object.{Object}
use Rattle.px_heap.specs.declared.values.Serial.{Serial}
use Rattle.px_heap.specs.Heaps.{AreHeld, Heap, IsHeap, Live, found_from, limit, live, object_of, value_of}
use Rattle.px_heap.specs.References.{inner, references, times}
use Rattle.px_heap.specs.Freeing.{IsReleased, lowered, work}
use Rattle.px_heap.specs.Answers.{IsDropped, is_among, lost, lowered_by, rest_of, times_of}
use Rattle.px_heap.specs.Answers as answers
use Rattle.px_heap.proofs.Chains.{IsChain, IsIn}
use Rattle.px_heap.proofs.Freeings.{AreFreed, IsFreeing, WasFreed, apart_now, lost_by, numbers}
use Rattle.px_heap.proofs.Keeping.{held_at, live_at}
use Rattle.px_heap.proofs.Lowerings.{lower_step}
use Rattle.px_heap.proofs.Maps.{found_at, found_none, is_there}
use Rattle.px_heap.proofs.Removals.{Freed, all_freed}

some_is : (o p : Object) → Some o ≡ Some p → o ≡ p
some_is o p e = cc

some_not_none : (o : Object) → Some o ≡ None → ⊥
some_not_none o e = absurd (cc)

none_is_live : (l : Live) → None ≡ Some l → ⊥
none_is_live l e = absurd (cc)

among_here : (n m : ℕ) (ms : List ℕ) → n ≡ m → is_among n (m ∷ ms) ≡ true
among_here n m ms e = rw (eq-eqb n m e) refl

among_there : (n m : ℕ) (ms : List ℕ) → n ≢ m → is_among n (m ∷ ms) ≡ is_among n ms
among_there n m ms d = rw (ne_eqb n m d) refl

in_list : (n : ℕ) (ms : List ℕ) → is_among n ms ≡ true → IsIn ms n
in_list n [] e = absurd (cc)
in_list n (m ∷ ms) e = elim (cases_eq n m) [
  | inl same ↦ inl same
  | inr d ↦ inr (in_list n ms (sym (among_there n m ms d) ∙ e))
]

is_in_list : (n : ℕ) (ms : List ℕ) → IsIn ms n → is_among n ms ≡ true
is_in_list n [] h = absurd h
is_in_list n (m ∷ ms) h = elim (cases_eq n m) [
  | inl same ↦ among_here n m ms same
  | inr d ↦ among_there n m ms d ∙ is_in_list n ms (elim h [ inl e ↦ absurd (d e) | inr i ↦ i ])
]

not_in_list : (n : ℕ) (ms : List ℕ) → (IsIn ms n → ⊥) → is_among n ms ≡ false
not_in_list n ms h = elim (cases_Bool (is_among n ms)) [
  | inl e ↦ absurd (h (in_list n ms e))
  | inr e ↦ e
]

true_false : (b : Bool) → b ≡ true → b ≡ false → ⊥
true_false b e f = absurd (cc)

-- ---- at the beginning
begins : (a : List (Option Object)) (made : ℕ) (s : Serial) → IsHeap a made → option_map (λ o. o.number) (get_or a s.key None) ≡ Some s.number
    → ((k : ℕ) (o : Object) → get_or a k None ≡ Some o → o.count ≢ limit → inner a o.number + times o.number (s ∷ []) ≤ o.count) → IsFreeing a s [] (s ∷ []) (work a None)
begins a made s holds at held = record {
  was = λ k o h. record { object = o; there = h; number = refl; value = refl; few = holds.few k o h; full = λ e. e; less = λ d. d; exact = λ d. refl };
  gone = λ k o h i. some_not_none o (sym h ∙ i);
  left = λ k o h i. i;
  targets = holds.targets;
  taking = (at, tt);
  covered = held;
  dead = [];
  chain = refl;
  all_dead = λ k o h c. let i = holds.counted k o h in omega (arith, c, i);
  freed_before = tt;
  sum = λ n. refl;
}

-- ---- at the end
module _ (a left : List (Option Object)) (made : ℕ) (s : Serial) (freed : List Object) (holds : IsHeap a made) (f : IsFreeing a s freed [] (work left None)) where
  abbrev pub heap : Heap
  heap = record { slots = a; made = made }

  none_dead : (ks : List ℕ) → IsChain left None ks → (k : ℕ) → IsIn ks k → ⊥
  none_dead [] c k h = h
  none_dead (j ∷ ks) c k h = absurd (cc)

  positive : (k : ℕ) (o : Object) → get_or left k None ≡ Some o → 0 < o.count
  positive k o h = by_count o.count refl
    where
      by_count : (n : ℕ) → o.count ≡ n → 0 < o.count
      by_count n e = elim (cases_eq o.count 0) [
        | inl z ↦ absurd (none_dead f.dead f.chain k (f.all_dead k o h z))
        | inr d ↦ omega (arith, d)
      ]

  pub ends_heap : IsHeap left made
  ends_heap = record {
    below = λ k o h. let x = f.was k o h in let i = holds.below k x.object x.there in let n = x.number in omega (arith, i, n);
    apart = apart_now a s freed [] (work left None) holds.apart f;
    counted = positive;
    few = λ k o h. (f.was k o h).few;
    targets = f.targets;
    covered = λ k o h d. let i = f.covered k o h d in omega (arith, i);
  }

  freed_is : (o : Object) (n : ℕ) (w : WasFreed a o n) → object_of heap o.number ≡ Some (live w.key w.object)
  freed_is o n w = ap (object_of heap) w.number ∙ found_at a w.key w.object holds.apart w.there

  -- what the definitions say is lost is what was
  lost_is : (os : List Object) (n : ℕ) → AreFreed a s os → lost heap s.number (numbers os) n ≡ lost_by s os n
  lost_is [] n h = omega arith
  lost_is (o ∷ os) n h =
      let v : value_of heap o.number ≡ Some o.value = ap (option_map (λ l. l.value)) (freed_is o (lost_by s os o.number) h.0) ∙ ap (λ x. Some x) (sym h.0.value) in
      let t : times_of n (value_of heap o.number) ≡ times n (references o.value) = ap (times_of n) v in
      let i = lost_is os n h.2 in
      omega (arith, t, i)

  in_turn_is : (os : List Object) → AreFreed a s os → answers.AreFreed heap s.number (numbers os)
  in_turn_is [] h = tt
  in_turn_is (o ∷ os) h =
      let i = lost_is os o.number h.2 in (
        ap (option_map (λ l. l.count)) (freed_is o (lost_by s os o.number) h.0) ∙ ap (λ x. Some x) (h.0.count ∙ sym i),
        (λ e. h.0.less (h.0.count ∙ sym i ∙ e)),
        not_in_list o.number (numbers os) h.1,
        in_turn_is os h.2,
      )

  less_count : (o p : Object) (n : ℕ) → (p.count ≡ limit → o.count ≡ limit) → (p.count ≢ limit → o.count + n ≡ p.count + 0) → o.count ≡ (lowered_by n (live 0 p)).count
  less_count o p n full exact = elim (cases_eq p.count limit) [
    | inl e ↦ rw (eq-eqb p.count limit e) (full e ∙ sym e)
    | inr d ↦ rw (ne_eqb p.count limit d) (let i = exact d in omega (arith, i))
  ]

  new_object : (n : ℕ) (b : Bool) (old : Option Live) → is_among n (numbers freed) ≡ b → object_of heap n ≡ old
      → found_from 0 left n ≡ rest_of (lost heap s.number (numbers freed) n) b old
  new_object n true old e h = found_none left n (λ k o i g. f.left k o i (in_list o.number (numbers freed) (ap (λ m. is_among m (numbers freed)) g ∙ e)))
  new_object n false (Some l) e h =
      let t = is_there a n l h in
      elim (cases_slot (get_or left l.key None) refl) [
        | inl none ↦ absurd (true_false (is_among n (numbers freed)) (is_in_list n (numbers freed) (rw t.number_is at (f.gone l.key t.object t.there none))) e)
        | inr some ↦
            let o = some.0 in
            let w = f.was l.key o some.1 in
            let same : w.object ≡ t.object = some_is w.object t.object (sym w.there ∙ t.there) in
            let number : o.number ≡ n = w.number ∙ ap (λ x. x.number) same ∙ t.number_is in
            let count = less_count o w.object (lost_by s freed o.number) w.full w.exact in
            let lose : lost_by s freed o.number ≡ lost heap s.number (numbers freed) n = ap (lost_by s freed) number ∙ sym (lost_is freed n f.freed_before) in
            let at : found_from 0 left n ≡ Some (live l.key o) = ap (found_from 0 left) (sym number) ∙ found_at left l.key o (apart_now a s freed [] (work left None) holds.apart f) some.1 in
            let is : live l.key o ≡ lowered_by (lost heap s.number (numbers freed) n) (live l.key t.object) =
            ap (λ c. record { key = l.key; count = c; value = o.value }) count
            ∙ ap (λ v. record { key = l.key; count = (lowered_by (lost_by s freed o.number) (live 0 w.object)).count; value = v }) w.value
            ∙ ap (λ m. lowered_by m (live l.key w.object)) lose
            ∙ ap (λ x. lowered_by (lost heap s.number (numbers freed) n) (live l.key x)) same in
            at ∙ ap (λ x. Some x) (is ∙ ap (lowered_by (lost heap s.number (numbers freed) n)) (sym t.live_is))
      ]
    where
      cases_slot : (slot : Option Object) → get_or left l.key None ≡ slot → (get_or left l.key None ≡ None) ⊎ ((o : Object) × (get_or left l.key None ≡ Some o))
      cases_slot None e = inl e
      cases_slot (Some o) e = inr (o, e)
  new_object n false None e h = found_none left n (λ k o i g.
      let w = f.was k o i in
      none_is_live (live k w.object) (sym h ∙ ap (found_from 0 a) (sym g ∙ w.number) ∙ found_at a k w.object holds.apart w.there))

  pub ends_dropped : IsDropped heap (record { slots = left; made = made }) s.number
  ends_dropped = record {
    freed = numbers freed;
    in_turn = in_turn_is freed f.freed_before;
    objects = λ n. new_object n (is_among n (numbers freed)) (object_of heap n) refl refl;
    left = λ n l h.
        let t = is_there left n l h in
        let c : l.count ≡ t.object.count = ap (λ x. x.count) t.live_is in
        let i = positive l.key t.object t.there in
        omega (arith, c, i);
    inner = λ n.
        let i = f.sum n in
        let l = lost_is freed n f.freed_before in
        omega (arith, i, l);
    made = refl;
  }

-- ---- the whole
module _ (slots left : List (Option Object)) (made : ℕ) (heap : Heap) (s : Serial) (holds : IsHeap slots made) (e : record { slots = slots; made = made } ≡ heap)
    (held : AreHeld heap (s ∷ [])) (released : IsReleased (work slots None) s.key left) where
  state : Freed slots s left
  state =
      let at = live_at slots made heap (s ∷ []) e held.live in
      let b = begins slots made s holds at.0 (held_at slots made heap (s ∷ []) holds e held) in
      all_freed slots s [] (lowered s.key (work slots None)) left holds.apart released (lower_step slots s [] s [] (work slots None) holds.apart b)

  pub dropped_heap : IsHeap left made
  dropped_heap = ends_heap slots left made s state.freed holds state.state

  pub is_dropped : IsDropped heap (record { slots = left; made = made }) s.number
  is_dropped = rw (← e) (ends_dropped slots left made s state.freed holds state.state)
