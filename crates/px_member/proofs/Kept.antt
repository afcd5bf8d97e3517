-- Which references are held where a register gets something else.
use Rattle.std.proofs.Common.{◌≡◌, ℕ, zero, suc, ◌+◌, ◌≤◌, List, [], ◌∷◌, ◌++◌, Option, Some, None, set, get_or, refl, sym, ap, ◌∙◌, subst, arith}
use Rattle.std.specs.List.{flat_map}
use Rattle.px_heap.specs.declared.values.Serial.{Serial}
use Rattle.px_heap.specs.References.{times}
use Rattle.px_heap.specs.Heaps.{AreLive, Heap}
use Rattle.px_interp.specs.declared.registers.Slot.{Slot}
use Rattle.px_interp.specs.declared.registers.Slot.TheVariants.{Empty}
use Rattle.px_interp.specs.Slots.{references_in, references_of}
use Rattle.px_interp.specs.Interps.{Interp}
use Rattle.px_member.specs.Members.{AreHeldIn, HoldsAll, Member, references_in_frame}

times_both : (n : ℕ) (front back : List Serial) → times n (front ++ back) ≡ times n front + times n back
times_both n [] back = omega arith
times_both n (r ∷ front) back = let e = times_both n front back in omega (arith, e)

live_front : (heap : Heap) (front back : List Serial) → AreLive heap (front ++ back) → AreLive heap front
live_front heap [] back h = tt
live_front heap (r ∷ front) back h = (h.0, live_front heap front back h.1)

live_back : (heap : Heap) (front back : List Serial) → AreLive heap (front ++ back) → AreLive heap back
live_back heap [] back h = h
live_back heap (r ∷ front) back h = live_back heap front back h.1

live_both : (heap : Heap) (front back : List Serial) → AreLive heap front → AreLive heap back → AreLive heap (front ++ back)
live_both heap [] back g h = h
live_both heap (r ∷ front) back g h = (g.0, live_both heap front back g.1 h)

-- ---- one register

live_set : (heap : Heap) (slots : List Slot) (i : ℕ) (s : Slot) → AreLive heap (references_of slots) → AreLive heap (references_in s)
    → AreLive heap (references_of (set slots i s))
live_set heap [] i s g h = tt
live_set heap (t ∷ slots) zero s g h = live_both heap (references_in s) _ h (live_back heap (references_in t) _ g)
live_set heap (t ∷ slots) (suc i) s g h =
    live_both heap (references_in t) _ (live_front heap (references_in t) _ g) (live_set heap slots i s (live_back heap (references_in t) _ g) h)

live_at : (heap : Heap) (slots : List Slot) (i : ℕ) → AreLive heap (references_of slots) → AreLive heap (references_in (get_or slots i Empty))
live_at heap [] i g = tt
live_at heap (t ∷ slots) zero g = live_front heap (references_in t) _ g
live_at heap (t ∷ slots) (suc i) g = live_at heap slots i (live_back heap (references_in t) _ g)

times_set : (n : ℕ) (slots : List Slot) (i : ℕ) (s : Slot)
    → times n (references_of (set slots i s)) ≤ times n (references_of slots) + times n (references_in s)
times_set n [] i s = omega arith
times_set n (t ∷ slots) zero s =
    let new = times_both n (references_in s) (references_of slots) in
    let old = times_both n (references_in t) (references_of slots) in
    omega (arith, new, old)
times_set n (t ∷ slots) (suc i) s =
    let new = times_both n (references_in t) (references_of (set slots i s)) in
    let old = times_both n (references_in t) (references_of slots) in
    let less = times_set n slots i s in
    omega (arith, new, old, less)

times_taken : (n : ℕ) (slots : List Slot) (i : ℕ)
    → times n (references_of (set slots i Empty)) + times n (references_in (get_or slots i Empty)) ≡ times n (references_of slots)
times_taken n [] i = refl
times_taken n (t ∷ slots) zero =
    let old = times_both n (references_in t) (references_of slots) in
    omega (arith, old)
times_taken n (t ∷ slots) (suc i) =
    let new = times_both n (references_in t) (references_of (set slots i Empty)) in
    let old = times_both n (references_in t) (references_of slots) in
    let same = times_taken n slots i in
    omega (arith, new, old, same)

-- ---- all registers

pub record IsPart (slots all : List Slot) : Type 0 where
  pub live : (heap : Heap) → AreLive heap (references_of all) → AreLive heap (references_of slots)
  pub times : (n : ℕ) → times n (references_of slots) ≤ times n (references_of all)

part_set : (slots : List Slot) (i : ℕ) (s : Slot) → references_in s ≡ [] → IsPart (set slots i s) slots
part_set slots i s e = record {
  live = λ heap h. live_set heap slots i s h (subst (λ rs. AreLive heap rs) (sym e) tt);
  times = λ n. let less = times_set n slots i s in let none = ap (times n) e in omega (arith, less, none);
}

pub part_without : (slots registers : List Slot) (i : ℕ) (s : Slot) → registers ≡ set slots i s → references_in s ≡ [] → IsPart registers slots
part_without slots registers i s is e = subst (λ r. IsPart r slots) (sym is) (part_set slots i s e)

part_moved : (slots : List Slot) (a d : ℕ) → IsPart (set (set slots a Empty) d (get_or slots a Empty)) slots
part_moved slots a d = record {
  live = λ heap h. live_set heap (set slots a Empty) d (get_or slots a Empty) (live_set heap slots a Empty h tt) (live_at heap slots a h);
  times = λ n.
      let less = times_set n (set slots a Empty) d (get_or slots a Empty) in
      let same = times_taken n slots a in
      omega (arith, less, same);
}

pub part_move : (slots taken registers : List Slot) (a d : ℕ) (s : Slot) → s ≡ get_or slots a Empty → taken ≡ set slots a Empty
    → registers ≡ set taken d s
    → IsPart registers slots
part_move slots taken registers a d s e f is =
    let whole : registers ≡ set (set slots a Empty) d (get_or slots a Empty) = is ∙ ap (λ x. set x d s) f ∙ ap (set (set slots a Empty) d) e in
    subst (λ r. IsPart r slots) (sym whole) (part_moved slots a d)

held_part : (book : Option Interp) (slots all : List Slot) (others : List Serial) → IsPart slots all
    → AreHeldIn book (references_of all ++ others) → AreHeldIn book (references_of slots ++ others)
held_part None slots all others p h = tt
held_part (Some interp) slots all others p h = record {
  live = live_both interp.heap (references_of slots) others (p.live interp.heap (live_front interp.heap (references_of all) others h.live))
      (live_back interp.heap (references_of all) others h.live);
  counted = λ n o is few.
      let new = times_both n (references_of slots) others in
      let old = times_both n (references_of all) others in
      let less = p.times n in
      let counted = h.counted n o is few in
      omega (arith, new, old, less, counted);
}

-- the running frame gets registers that hold no other references
pub keeps : (view now : Member) (registers : List Slot) → view ≡ now → IsPart registers view.frame.registers → HoldsAll now
    → HoldsAll (record view { frame = record view.frame { registers = registers } })
keeps view now registers e p h =
    held_part view.book registers view.frame.registers (flat_map references_in_frame view.callers) p (subst HoldsAll (sym e) h)
