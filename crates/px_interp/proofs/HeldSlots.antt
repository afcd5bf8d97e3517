-- Which references are held once a register is set.
use Rattle.std.proofs.Common.{◌≡◌, ℕ, zero, suc, ◌+◌, ◌≤◌, List, [], ◌∷◌, ◌++◌, get_or, set, Some, sym, subst, ap, arith}
use Rattle.std.proofs.lemmas.List.{append-nil}
use Rattle.px_heap.specs.declared.values.Serial.{Serial}
use Rattle.px_heap.specs.References.{times}
use Rattle.px_heap.specs.Heaps.{AreHeld, AreLive, Heap, IsLive}
use Rattle.px_interp.specs.declared.registers.Slot.{Slot}
use Rattle.px_interp.specs.declared.registers.Slot.TheVariants.{Empty, Whole, Object, View, Fault}
use Rattle.px_interp.specs.Slots.{object_in, references_in, references_of}

-- ---- references beside others

times_joined : (n : ℕ) (front back : List Serial) → times n (front ++ back) ≡ times n front + times n back
times_joined n [] back = omega arith
times_joined n (r ∷ front) back = let e = times_joined n front back in omega (arith, e)

live_front : (heap : Heap) (front back : List Serial) → AreLive heap (front ++ back) → AreLive heap front
live_front heap [] back h = tt
live_front heap (r ∷ front) back h = (h.0, live_front heap front back h.1)

live_behind : (heap : Heap) (front back : List Serial) → AreLive heap (front ++ back) → AreLive heap back
live_behind heap [] back h = h
live_behind heap (r ∷ front) back h = live_behind heap front back h.1

live_joined : (heap : Heap) (front back : List Serial) → AreLive heap front → AreLive heap back → AreLive heap (front ++ back)
live_joined heap [] back g h = h
live_joined heap (r ∷ front) back g h = (g.0, live_joined heap front back g.1 h)

pub held_front : (heap : Heap) (front back : List Serial) → AreHeld heap (front ++ back) → AreHeld heap front
held_front heap front back h = record {
  live = live_front heap front back h.live;
  counted = λ m o i d. let k = h.counted m o i d in let t = times_joined m front back in omega (arith, k, t);
}

pub held_behind : (heap : Heap) (front back : List Serial) → AreHeld heap (front ++ back) → AreHeld heap back
held_behind heap front back h = record {
  live = live_behind heap front back h.live;
  counted = λ m o i d. let k = h.counted m o i d in let t = times_joined m front back in omega (arith, k, t);
}

-- ---- a register that is set

set_times : (m : ℕ) (slots : List Slot) (n : ℕ) (s : Slot)
    → times m (references_of (set slots n s)) + times m (references_in (get_or slots n Empty)) ≤ times m (references_of slots) + times m (references_in s)
set_times m [] n s = omega arith
set_times m (x ∷ slots) zero s =
    let a = times_joined m (references_in s) (references_of slots) in
    let b = times_joined m (references_in x) (references_of slots) in
    omega (arith, a, b)
set_times m (x ∷ slots) (suc n) s =
    let a = times_joined m (references_in x) (references_of (set slots n s)) in
    let b = times_joined m (references_in x) (references_of slots) in
    let i = set_times m slots n s in
    omega (arith, a, b, i)

pub there_live : (heap : Heap) (slots : List Slot) (n : ℕ) → AreLive heap (references_of slots) → AreLive heap (references_in (get_or slots n Empty))
there_live heap [] n h = tt
there_live heap (x ∷ slots) zero h = live_front heap (references_in x) (references_of slots) h
there_live heap (x ∷ slots) (suc n) h = there_live heap slots n (live_behind heap (references_in x) (references_of slots) h)

set_live : (heap : Heap) (slots : List Slot) (n : ℕ) (s : Slot) → AreLive heap (references_in s) → AreLive heap (references_of slots) → AreLive heap (references_of (set slots n s))
set_live heap [] n s g h = tt
set_live heap (x ∷ slots) zero s g h = live_joined heap (references_in s) (references_of slots) g (live_behind heap (references_in x) (references_of slots) h)
set_live heap (x ∷ slots) (suc n) s g h =
    live_joined heap (references_in x) (references_of (set slots n s)) (live_front heap (references_in x) (references_of slots) h)
    (set_live heap slots n s g (live_behind heap (references_in x) (references_of slots) h))

-- what a register held comes out for what it gets
pub set_held : (heap : Heap) (slots : List Slot) (n : ℕ) (s : Slot) (others : List Serial) → AreHeld heap (references_in s ++ (references_of slots ++ others))
    → AreHeld heap (references_in (get_or slots n Empty) ++ (references_of (set slots n s) ++ others))
set_held heap slots n s others h =
    let inside = live_behind heap (references_in s) (references_of slots ++ others) h.live in
    let here = live_front heap (references_of slots) others inside in
    let was = get_or slots n Empty in
    record {
      live = live_joined heap (references_in was) (references_of (set slots n s) ++ others) (there_live heap slots n here)
          (live_joined heap (references_of (set slots n s)) others (set_live heap slots n s (live_front heap (references_in s) (references_of slots ++ others) h.live) here)
          (live_behind heap (references_of slots) others inside));
      counted = λ m o i d.
          let k = h.counted m o i d in
          let a = times_joined m (references_in s) (references_of slots ++ others) in
          let b = times_joined m (references_of slots) others in
          let e = times_joined m (references_in was) (references_of (set slots n s) ++ others) in
          let f = times_joined m (references_of (set slots n s)) others in
          let g = set_times m slots n s in
          omega (arith, k, a, b, e, f, g);
    }

-- a new reference stands in a register
pub object_held : (heap : Heap) (slots : List Slot) (n : ℕ) (of : Serial) (others : List Serial) → AreHeld heap (of ∷ references_of slots ++ others)
    → AreHeld heap (references_of (set slots n (Object of)) ++ others)
object_held heap slots n of others h =
    held_behind heap (references_in (get_or slots n Empty)) (references_of (set slots n (Object of)) ++ others) (set_held heap slots n (Object of) others h)

-- ---- what a register holds

pub is_object : (s : Slot) (of : Serial) → object_in s ≡ Some of → s ≡ Object of
is_object (Object was) of e = let same : was ≡ of = cc in ap Object same
is_object Empty of e = absurd (cc)
is_object (Whole n) of e = absurd (cc)
is_object (View v) of e = absurd (cc)
is_object (Fault f) of e = absurd (cc)

-- the reference of a register, beside what is left once it is emptied
pub emptied_held : (heap : Heap) (slots : List Slot) (n : ℕ) (of : Serial) (others : List Serial) → object_in (get_or slots n Empty) ≡ Some of
    → AreHeld heap (references_of slots ++ others) → AreHeld heap (of ∷ references_of (set slots n Empty) ++ others)
emptied_held heap slots n of others e h =
    let is = is_object (get_or slots n Empty) of e in
    rw is at (set_held heap slots n Empty others h)

-- the reference of a register is live
pub object_live : (heap : Heap) (slots : List Slot) (n : ℕ) (of : Serial) → object_in (get_or slots n Empty) ≡ Some of → AreLive heap (references_of slots) → IsLive heap of
object_live heap slots n of e h =
    let is = is_object (get_or slots n Empty) of e in
    (rw is at (there_live heap slots n h)).0

-- the reference of a register is held
pub reference_held : (heap : Heap) (slots : List Slot) (n : ℕ) (of : Serial) → object_in (get_or slots n Empty) ≡ Some of → AreHeld heap (references_of slots) → AreHeld heap (of ∷ [])
reference_held heap slots n of e h =
    held_front heap (of ∷ []) (references_of (set slots n Empty) ++ [])
    (emptied_held heap slots n of [] e (subst (AreHeld heap) (sym (append-nil (references_of slots))) h))
