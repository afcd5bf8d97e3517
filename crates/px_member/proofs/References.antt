-- References that are among others, each at most as often, are held where those are.
use Rattle.std.proofs.Common.{◌≡◌, ℕ, zero, suc, ◌+◌, ◌≤◌, List, [], ◌∷◌, ◌++◌, get_or, set, replicate, Option, Some, None, refl, arith}
use Rattle.px_heap.specs.declared.values.Serial.{Serial}
use Rattle.px_heap.specs.Heaps.{AreHeld, AreLive, Heap}
use Rattle.px_heap.specs.References.{times}
use Rattle.px_interp.specs.declared.registers.Slot.{Slot}
use Rattle.px_interp.specs.declared.registers.Slot.TheVariants.{Empty}
use Rattle.px_interp.specs.Slots.{references_in, references_of}
use Rattle.px_interp.specs.Interps.{Interp}
use Rattle.px_member.specs.Members.{AreHeldIn}

times_append : (n : ℕ) (xs ys : List Serial) → times n (xs ++ ys) ≡ times n xs + times n ys
times_append n [] ys = omega arith
times_append n (x ∷ xs) ys = let h = times_append n xs ys in omega (arith, h)

live_append : (heap : Heap) (xs ys : List Serial) → AreLive heap xs → AreLive heap ys → AreLive heap (xs ++ ys)
live_append heap [] ys h k = k
live_append heap (x ∷ xs) ys h k = (h.0, live_append heap xs ys h.1 k)

live_first : (heap : Heap) (xs ys : List Serial) → AreLive heap (xs ++ ys) → AreLive heap xs
live_first heap [] ys h = tt
live_first heap (x ∷ xs) ys h = (h.0, live_first heap xs ys h.1)

live_second : (heap : Heap) (xs ys : List Serial) → AreLive heap (xs ++ ys) → AreLive heap ys
live_second heap [] ys h = h
live_second heap (x ∷ xs) ys h = live_second heap xs ys h.1

-- each of the first list is in the second, at least as often
pub record Among (ys xs : List Serial) : Type 0 where
  pub times : (n : ℕ) → times n ys ≤ times n xs
  pub live : (heap : Heap) → AreLive heap xs → AreLive heap ys

pub among_held : (ys xs : List Serial) (heap : Heap) → Among ys xs → AreHeld heap xs → AreHeld heap ys
among_held ys xs heap a h = record {
  live = a.live heap h.live;
  counted = λ n o e d.
      let i = a.times n in
      let j = h.counted n o e d in
      omega (arith, i, j);
}

pub among_held_in : (ys xs : List Serial) (book : Option Interp) → Among ys xs → AreHeldIn book xs → AreHeldIn book ys
among_held_in ys xs None a h = tt
among_held_in ys xs (Some interp) a h = among_held ys xs interp.heap a h

pub all_among : (xs : List Serial) → Among xs xs
all_among xs = record { times = λ n. omega arith; live = λ heap h. h }

pub among_among : (zs ys xs : List Serial) → Among zs ys → Among ys xs → Among zs xs
among_among zs ys xs a b = record {
  times = λ n.
      let i = a.times n in
      let j = b.times n in
      omega (arith, i, j);
  live = λ heap h. a.live heap (b.live heap h);
}

pub none_among : (xs : List Serial) → Among [] xs
none_among xs = record { times = λ n. omega arith; live = λ heap h. tt }

pub both_among : (ys xs bs cs : List Serial) → Among ys xs → Among bs cs → Among (ys ++ bs) (xs ++ cs)
both_among ys xs bs cs a b = record {
  times = λ n.
      let i = a.times n in
      let j = b.times n in
      let k = times_append n ys bs in
      let l = times_append n xs cs in
      omega (arith, i, j, k, l);
  live = λ heap h. live_append heap ys bs (a.live heap (live_first heap xs cs h)) (b.live heap (live_second heap xs cs h));
}

pub first_among : (xs ys : List Serial) → Among xs (xs ++ ys)
first_among xs ys = record {
  times = λ n. let k = times_append n xs ys in omega (arith, k);
  live = λ heap h. live_first heap xs ys h;
}

pub second_among : (xs ys : List Serial) → Among ys (xs ++ ys)
second_among xs ys = record {
  times = λ n. let k = times_append n xs ys in omega (arith, k);
  live = λ heap h. live_second heap xs ys h;
}

pub turned_among : (xs ys : List Serial) → Among (ys ++ xs) (xs ++ ys)
turned_among xs ys = record {
  times = λ n.
      let k = times_append n xs ys in
      let l = times_append n ys xs in
      omega (arith, k, l);
  live = λ heap h. live_append heap ys xs (live_second heap xs ys h) (live_first heap xs ys h);
}

-- the second of three stands first
pub moved_among : (xs ys zs : List Serial) → Among (ys ++ (xs ++ zs)) (xs ++ (ys ++ zs))
moved_among xs ys zs = record {
  times = λ n.
      let a = times_append n xs (ys ++ zs) in
      let b = times_append n ys zs in
      let d = times_append n ys (xs ++ zs) in
      let e = times_append n xs zs in
      omega (arith, a, b, d, e);
  live = λ heap h.
      let rest = live_second heap xs (ys ++ zs) h in
      live_append heap ys (xs ++ zs) (live_first heap ys zs rest) (live_append heap xs zs (live_first heap xs (ys ++ zs) h) (live_second heap ys zs rest));
}

-- ---- registers

-- one that is set has the references of its new content beside those of the others
pub set_among : (slots : List Slot) (k : ℕ) (slot : Slot) → Among (references_of (set slots k slot)) (references_in slot ++ references_of slots)
set_among [] k slot = none_among _
set_among (x ∷ slots) zero slot = both_among (references_in slot) (references_in slot) _ _ (all_among _) (second_among (references_in x) (references_of slots))
set_among (x ∷ slots) (suc k) slot =
    among_among _ _ _ (both_among (references_in x) (references_in x) _ _ (all_among _) (set_among slots k slot)) (moved_among (references_in slot) (references_in x) (references_of slots))

-- one that is emptied leaves its references to who takes its content
pub taken_among : (slots : List Slot) (k : ℕ) → Among (references_in (get_or slots k Empty) ++ references_of (set slots k Empty)) (references_of slots)
taken_among [] k = none_among _
taken_among (x ∷ slots) zero = all_among _
taken_among (x ∷ slots) (suc k) =
    among_among _ _ _ (moved_among (references_in x) (references_in (get_or slots k Empty)) (references_of (set slots k Empty)))
    (both_among (references_in x) (references_in x) _ _ (all_among _) (taken_among slots k))

-- empty registers have none
pub no_references : (n : ℕ) → references_of (replicate n Empty) ≡ []
no_references zero = refl
no_references (suc n) = no_references n
