-- What the methods of a heap answer, over the slots and the heap that they are seen as.
use Rattle.std.proofs.Common.{◌≡◌, ◌≢◌, ℕ, ◌+◌, ◌<◌, ◌≤◌, ◌^◌, List, true, false, get_or, Option, Some, None, refl, sym, ap, ◌∙◌, inl, inr, arith}
use Rattle.std.specs.Prelude.{option_map, nat_eq, is_some}
use Rattle.std.proofs.lemmas.Bool.{cases_eq, eq-eqb, ne_eqb}
use Rattle.px_heap.specs.declared.slots.Object.{Object}
use Rattle.px_heap.specs.declared.values.Serial.{Serial}
use Rattle.px_heap.specs.declared.values.Value.{Value}
use Rattle.px_heap.specs.Heaps.{Heap, IsHeap, IsLive, Live, count_of, found_from, limit, live, object_of, put, value_of, with_content, with_count}
use Rattle.px_heap.specs.Answers.{HasNow, holding, raised, shared}
use Rattle.px_heap.proofs.Maps.{Changes, is_there, put_there}

-- the object that a serial names
pub record Named (slots : List (Option Object)) (heap : Heap) (s : Serial) : Type 0 where
  pub object : Object
  pub there : get_or slots s.key None ≡ Some object
  pub number_is : object.number ≡ s.number
  pub found : object_of heap s.number ≡ Some (live s.key object)

named_by : (slots : List (Option Object)) (heap : Heap) (s : Serial) → slots ≡ heap.slots → (l : Option Live) → object_of heap s.number ≡ l → option_map (λ o. o.key) l ≡ Some s.key → Named slots heap s
named_by slots heap s e None h i = absurd (cc)
named_by slots heap s e (Some l) h i =
    let t = is_there heap.slots s.number l h in
    let k : l.key ≡ s.key = cc in
    record {
      object = t.object;
      there = ap (λ n. get_or n s.key None) e ∙ ap (λ n. get_or heap.slots n None) (sym k) ∙ t.there;
      number_is = t.number_is;
      found = h ∙ ap (λ x. Some x) (t.live_is ∙ ap (λ n. live n t.object) k);
    }

pub named : (slots : List (Option Object)) (made : ℕ) (heap : Heap) (s : Serial) → record { slots = slots; made = made } ≡ heap → IsLive heap s → Named slots heap s
named slots made heap s e h = named_by slots heap s (ap (λ x. x.slots) e) (object_of heap s.number) refl h

pub has_key : (slots : List (Option Object)) (made : ℕ) (heap : Heap) (s : Serial) → record { slots = slots; made = made } ≡ heap → IsLive heap s → is_some (get_or slots s.key None) ≡ true
has_key slots made heap s e h = ap is_some (named slots made heap s e h).there

pub value_read : (slots : List (Option Object)) (made : ℕ) (heap : Heap) (s : Serial) (value : Value) → record { slots = slots; made = made } ≡ heap → IsLive heap s
    → option_map (λ o. o.value) (get_or slots s.key None) ≡ Some value → value_of heap s.number ≡ Some value
value_read slots made heap s value e h i = let n = named slots made heap s e h in ap (option_map (λ o. o.value)) n.found ∙ sym (ap (option_map (λ o. o.value)) n.there) ∙ i

pub count_read : (slots : List (Option Object)) (made : ℕ) (heap : Heap) (s : Serial) (count : ℕ) → record { slots = slots; made = made } ≡ heap → IsLive heap s
    → option_map (λ o. o.count) (get_or slots s.key None) ≡ Some count → count_of heap s.number ≡ Some count
count_read slots made heap s count e h i = let n = named slots made heap s e h in ap (option_map (λ o. o.count)) n.found ∙ sym (ap (option_map (λ o. o.count)) n.there) ∙ i

-- A change of a live object's slot by a step that keeps its number, and what that is for the object.
pub record IsStep (step : Option Object → Option Object) (effect : Option Live → Option Live) (o : Object) (key : ℕ) : Type 0 where
  pub number : (p : Object) → step (Some o) ≡ Some p → p.number ≡ o.number
  pub effect_is : option_map (live key) (step (Some o)) ≡ effect (Some (live key o))

module _ (slots new : List (Option Object)) (made : ℕ) (heap : Heap) (s : Serial) (holds : IsHeap slots made) (e : record { slots = slots; made = made } ≡ heap) (h : IsLive heap s) where
  changes : (slot : Option Object) → get_or new s.key None ≡ slot → ((other : ℕ) → other ≢ s.key → get_or new other None ≡ get_or slots other None)
      → ((p : Object) → slot ≡ Some p → p.number ≡ s.number) → Changes slots new s.key s.number slot
  changes slot a b i =
      let n = named slots made heap s e h in
      record {
        changed = a;
        others = b;
        was = λ o f. let same : o ≡ n.object = some_is o n.object (sym f ∙ n.there) in ap (λ x. x.number) same ∙ n.number_is;
        is = i;
        alone = λ k o d f g. d (holds.apart k s.key o n.object f n.there (g ∙ sym n.number_is));
      }
    where
      some_is : (o p : Object) → Some o ≡ Some p → o ≡ p
      some_is o p f = cc

  pub has_now : (step : Option Object → Option Object) (effect : Option Live → Option Live)
      → get_or new s.key None ≡ step (get_or slots s.key None) → ((other : ℕ) → other ≢ s.key → get_or new other None ≡ get_or slots other None)
      → ((o : Object) → get_or slots s.key None ≡ Some o → IsStep step effect o s.key)
      → HasNow heap (record { slots = new; made = made }) s.number (effect (object_of heap s.number))
  has_now step effect a b steps =
      let n = named slots made heap s e h in
      let i = steps n.object n.there in
      let c = changes (step (Some n.object)) (a ∙ ap step n.there) b (λ p f. i.number p f ∙ n.number_is) in
      record {
        objects = λ other. put_there slots new s.key s.number (step (Some n.object)) c holds.apart other
            ∙ ap (λ l. put s.number l (found_from 0 slots) other) (i.effect_is ∙ sym (ap effect n.found))
            ∙ ap (λ x. put s.number (effect (object_of heap s.number)) (object_of x) other) e;
        made = ap (λ x. x.made) e;
      }

pub kept : (heap : Heap) (s : Serial) (effect : Option Live → Option Live) → effect (object_of heap s.number) ≡ object_of heap s.number → HasNow heap heap s.number (effect (object_of heap s.number))
kept heap s effect e = record {
  objects = λ other. elim (cases_eq other s.number) [
    | inl a ↦ rw (eq-eqb other s.number a) (ap (object_of heap) a ∙ sym e)
    | inr a ↦ rw (ne_eqb other s.number a) refl
  ];
  made = refl;
}

-- The steps

pub written : (value : Value) (o : Object) (key : ℕ) → IsStep (option_map (with_content value)) (option_map (holding value)) o key
written value o key = record { number = λ p e. by_value p e; effect_is = refl }
  where
    by_value : (p : Object) → Some (with_content value o) ≡ Some p → p.number ≡ o.number
    by_value p e = let same : with_content value o ≡ p = cc in ap (λ x. x.number) (sym same)

counted_number : (count : ℕ) (o p : Object) → Some (with_count count o) ≡ Some p → p.number ≡ o.number
counted_number count o p e = let same : with_count count o ≡ p = cc in ap (λ x. x.number) (sym same)

pub shared_once : (count : ℕ) (o : Object) (key : ℕ) → o.count ≡ count → count < limit → IsStep (option_map (with_count (count + 1))) (option_map shared) o key
shared_once count o key e h = record {
  number = λ p f. counted_number (count + 1) o p f;
  effect_is =
      let g : nat_eq o.count limit ≡ false = ne_eqb o.count limit (λ i. omega (arith, i, e, h)) in
      let same : raised o.count ≡ count + 1 = rw g (ap (λ n. n + 1) e) in
      ap (λ n. Some (record { key = key; count = n; value = o.value })) (sym same);
}

pub count_is : (slot : Option Object) (o : Object) (count : ℕ) → slot ≡ Some o → option_map (λ x. x.count) slot ≡ Some count → o.count ≡ count
count_is slot o count h e = let f : Some o.count ≡ Some count = sym (ap (option_map (λ x. x.count)) h) ∙ e in cc

pub full : (count other : ℕ) → other ≡ count → limit ≤ count → count < 2 ^ 64 → other ≡ limit
full count other e h i = omega (arith, e, h, i)

-- where a count is at its greatest, nothing changes
pub kept_full : (slots : List (Option Object)) (made : ℕ) (heap : Heap) (s : Serial) (effect : Option Live → Option Live) (count : ℕ) → record { slots = slots; made = made } ≡ heap → IsLive heap s
    → option_map (λ o. o.count) (get_or slots s.key None) ≡ Some count → ((l : Live) → l.count ≡ count → effect (Some l) ≡ Some l)
    → HasNow heap heap s.number (effect (object_of heap s.number))
kept_full slots made heap s effect count e h i same =
    let n = named slots made heap s e h in
    kept heap s effect (ap effect n.found ∙ same (live s.key n.object) (count_is _ n.object count n.there i) ∙ sym n.found)

pub shared_full : (l : Live) → l.count ≡ limit → option_map shared (Some l) ≡ Some l
shared_full l e = let f : raised l.count ≡ l.count = rw (eq-eqb l.count limit e) refl in ap (λ n. Some (record { key = l.key; count = n; value = l.value })) f

pub written_count : (value : Value) (o p : Object) → 0 < o.count → Some (with_content value o) ≡ Some p → 0 < p.count
written_count value o p h e = let same : with_content value o ≡ p = cc in let f : p.count ≡ o.count = ap (λ x. x.count) (sym same) in omega (arith, f, h)
