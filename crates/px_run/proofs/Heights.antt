-- Heights fall along each way of formed code on which no turn is spent: one that had more instructions than its function would come to
-- an instruction twice.
use Rattle.std.proofs.Common.{◌≡◌, ℕ, zero, suc, ◌+◌, ◌-◌, ◌<◌, ◌≤◌, Bool, true, false, if◌then◌else◌, refl, sym, ap, ◌∙◌, subst, arith}
use Rattle.std.proofs.Common.{List, [], ◌∷◌, map, length, slice_get, slice_index_or, Option, Some, None, Contains}
use Rattle.std.proofs.lemmas.Option.{slice_get_within, none-some, same_Some}
use Rattle.px_regcode.specs.declared.codes.Code.{Code}
use Rattle.px_regcode.specs.declared.instructions.Instr.{Instr}
use Rattle.px_regcode.specs.Images.{ImageParts, IsAt}
use Rattle.px_regcode.specs.Facts.{FrameFact, FrameMay, RegisterMay, follows, Way, successors, frame_after}
use Rattle.px_regcode.specs.Paths.{spends, FreePath, step, steps}
use Rattle.px_regcode.specs.Formed.{IsFormed, KeepsShape, Keeps, shape}
use Rattle.px_machine.specs.Slots.{Frame}
use Rattle.px_run.specs.Heights.{fact_of, greatest, if_free, height, height_in, frame_height, longest}
use Rattle.px_run.specs.Among.{IsAmong}
use Rattle.px_run.proofs.Pigeons.{IsNew, AreApart, no_more}

-- ---- greatest numbers

contains_first : {A : Type 0} (x : A) (xs : List A) → Contains (x ∷ xs) x
contains_first x xs = (0, omega arith, refl)

contains_more : {A : Type 0} (x y : A) (xs : List A) → Contains xs y → Contains (x ∷ xs) y
contains_more x y xs c = (suc c.0, (let less = c.1 in omega arith), c.2)

same_map : {A : Type 0} (f g : A → ℕ) (xs : List A) → ((x : A) → Contains xs x → f x ≡ g x) → map f xs ≡ map g xs
same_map f g [] same = refl
same_map f g (x ∷ xs) same =
    ap (λ n. n ∷ map f xs) (same x (contains_first x xs)) ∙ ap (λ ns. g x ∷ ns) (same_map f g xs (λ y c. same y (contains_more x y xs c)))

at_index : {A : Type 0} (f : A → ℕ) (x : A) (xs : List A) (k : ℕ) → k < length xs → slice_index_or xs k x ≡ x → f x ≤ greatest (map f xs)
at_index f x [] k less e = absurd (omega (arith, less))
at_index f x (y ∷ xs) zero less e = let same : f y ≡ f x = ap f e in omega arith
at_index f x (y ∷ xs) (suc k) less e = let le = at_index f x xs k (omega (arith, less)) e in omega arith

one_of : {A : Type 0} (f : A → ℕ) (x : A) (xs : List A) → Contains xs x → f x ≤ greatest (map f xs)
one_of f x xs c = at_index f x xs c.0 c.1 c.2

at_place : {A : Type 0} (f : A → ℕ) (x : A) (xs : List A) (k : ℕ) → slice_get xs k ≡ Some x → f x ≤ greatest (map f xs)
at_place f x [] k e = absurd (none-some x e)
at_place f x (y ∷ xs) zero e = let same : f y ≡ f x = ap f (same_Some y x e) in omega arith
at_place f x (y ∷ xs) (suc k) e = let le = at_place f x xs k e in omega arith

at_most : {A : Type 0} (f : A → ℕ) (n : ℕ) (xs : List A) → ((x : A) → f x ≤ n) → greatest (map f xs) ≤ n
at_most f n [] all = omega arith
at_most f n (x ∷ xs) all = let a = all x in let b = at_most f n xs all in omega arith

-- ---- free instructions

same_free : (o : Option Instr) (f g : Instr → ℕ) → ((i : Instr) → o ≡ Some i → spends i ≡ false → f i ≡ g i) → if_free o f ≡ if_free o g
same_free None f g same = refl
same_free (Some i) f g same = by (spends i) refl
  where
    by : (b : Bool) → spends i ≡ b → (if b then 0 else f i) ≡ (if b then 0 else g i)
    by true e = refl
    by false e = same i refl e

none_free : (o : Option Instr) (f : Instr → ℕ) → ((i : Instr) → o ≡ Some i → spends i ≡ false → ⊥) → if_free o f ≡ 0
none_free None f no_such = refl
none_free (Some i) f no_such = by (spends i) refl
  where
    by : (b : Bool) → spends i ≡ b → (if b then 0 else f i) ≡ 0
    by true e = refl
    by false e = absurd (no_such i refl e)

free_most : (o : Option Instr) (f : Instr → ℕ) (n : ℕ) → ((i : Instr) → f i ≤ n) → if_free o f ≤ n
free_most None f n all = omega arith
free_most (Some i) f n all = by (spends i)
  where
    by : (b : Bool) → (if b then 0 else f i) ≤ n
    by true = omega arith
    by false = all i

-- the height at a follower of an instruction
abbrev height_at : ℕ → ImageParts → Code → Instr → FrameFact → Way × ℕ → ℕ
height_at n image code i fact p = height n image code p.1 (frame_after i p.0 fact)

height_most : (n : ℕ) (image : ImageParts) (code : Code) (pc : ℕ) (fact : FrameFact) → height n image code pc fact ≤ n
unfolding height
height_most zero image code pc fact = omega arith
height_most (suc n) image code pc fact =
    free_most (slice_get code.instrs pc) _ (suc n)
    (λ i.
    let all : (p : Way × ℕ) → height_at n image code i fact p ≤ n = λ p. height_most n image code p.1 (frame_after i p.0 fact) in
    let le = at_most (height_at n image code i fact) n (successors image pc i fact) all in
    omega arith)

-- ---- ways

module _ (image : ImageParts) (formed : IsFormed image) (function : ℕ) (code : Code) (is_code : slice_get image.codes function ≡ Some code) where
  shape_of : (pc : ℕ) (i : Instr) (fact : FrameFact) → slice_get code.instrs pc ≡ Some i → FrameMay image function pc fact
      → KeepsShape image (FrameMay image) (RegisterMay image) function pc code i fact
  unfolding Keeps
  shape_of pc i fact there may = formed.rules function pc code i fact shape is_code there may

  stands : (pc : ℕ) (i : Instr) → slice_get code.instrs pc ≡ Some i → IsAt image function pc i
  stands pc i there = record { code = code; is_code = is_code; is_instr = there }

  abbrev Free : ℕ → ℕ → Type 0
  Free pc to = FreePath image (FrameMay image) function pc to

  -- from each of these a free way leads to an instruction
  abbrev Lead : List ℕ → ℕ → Type 0
  Lead [] pc = Unit {0}
  Lead (v ∷ vs) pc = Free v pc × Lead vs pc

  lead_on : (vs : List ℕ) (pc to : ℕ) → Free pc to → Lead vs pc → Lead vs to
  lead_on [] pc to path lead = tt
  lead_on (v ∷ vs) pc to path lead = (steps lead.0 path, lead_on vs pc to path lead.1)

  all_new : (vs : List ℕ) (pc : ℕ) → (Free pc pc → ⊥) → Lead vs pc → IsNew pc vs
  all_new [] pc none lead = tt
  all_new (v ∷ vs) pc none lead = ((λ same. none (subst (λ k. Free k pc) (sym same) lead.0)), all_new vs pc none lead.1)

  -- an instruction behind such a way is another one than those on it
  one_more : (vs : List ℕ) (pc : ℕ) (i : Instr) (fact : FrameFact) → slice_get code.instrs pc ≡ Some i → FrameMay image function pc fact
      → AreApart (length code.instrs) vs → Lead vs pc → AreApart (length code.instrs) (pc ∷ vs)
  one_more vs pc i fact there may apart lead =
      (slice_get_within code.instrs pc i there, all_new vs pc (shape_of pc i fact there may).no_free_path lead, apart)

  -- with as many instructions as aren't on the way yet, one more makes no way longer
  settled : (n : ℕ) (vs : List ℕ) (pc : ℕ) (fact : FrameFact) → length vs + n ≡ length code.instrs → AreApart (length code.instrs) vs → Lead vs pc
      → FrameMay image function pc fact → height (suc n) image code pc fact ≡ height n image code pc fact
  unfolding height
  settled zero vs pc fact count apart lead may =
      none_free (slice_get code.instrs pc) _ (λ i there free.
      let le = no_more (length code.instrs) (pc ∷ vs) (one_more vs pc i fact there may apart lead) in omega arith)
  settled (suc n) vs pc fact count apart lead may =
      same_free (slice_get code.instrs pc) _ _ (λ i there free.
      ap (λ ns. suc (greatest ns))
      (same_map (height_at (suc n) image code i fact) (height_at n image code i fact) (successors image pc i fact)
      (λ p c.
      let path : Free pc p.1 = step may (stands pc i there) free c in
      settled n (pc ∷ vs) p.1 (frame_after i p.0 fact) (omega arith) (one_more vs pc i fact there may apart lead) (path, lead_on vs pc p.1 path lead)
      (follows may (stands pc i there) c))))

  falls_at : (n pc : ℕ) (i : Instr) (fact : FrameFact) (way : Way) (to : ℕ) → suc n ≡ length code.instrs → slice_get code.instrs pc ≡ Some i
      → FrameMay image function pc fact → spends i ≡ false → Contains (successors image pc i fact) (way, to)
      → height (suc n) image code to (frame_after i way fact) < height (suc n) image code pc fact
  unfolding height
  falls_at n pc i fact way to count there may free c =
      let go : Instr → ℕ = λ x. suc (greatest (map (height_at n image code x fact) (successors image pc x fact))) in
      let is : if_free (slice_get code.instrs pc) go ≡ go i = ap (λ o. if_free o go) there ∙ ap (λ b. if b then 0 else go i) free in
      let path : Free pc to = step may (stands pc i there) free c in
      let same =
      settled n (pc ∷ []) to (frame_after i way fact) (omega arith) (one_more [] pc i fact there may tt tt) (path, tt)
      (follows may (stands pc i there) c) in
      let le = one_of (height_at n image code i fact) (way, to) (successors image pc i fact) c in
      omega arith

  falls : (pc : ℕ) (i : Instr) (fact : FrameFact) (way : Way) (to : ℕ) → slice_get code.instrs pc ≡ Some i → FrameMay image function pc fact
      → spends i ≡ false
      → Contains (successors image pc i fact) (way, to)
      → height (length code.instrs) image code to (frame_after i way fact) < height (length code.instrs) image code pc fact
  falls pc i fact way to there may free c =
      let within = slice_get_within code.instrs pc i there in
      let count : suc (length code.instrs - 1) ≡ length code.instrs = omega arith in
      subst (λ n. height n image code to (frame_after i way fact) < height n image code pc fact) count
      (falls_at (length code.instrs - 1) pc i fact way to count there may free c)

-- ---- frames

height_of : (image : ImageParts) (frame : Frame) (o : Option Code) → slice_get image.codes frame.function ≡ o
    → height_in o image frame ≤ longest image
height_of image frame None is = omega arith
height_of image frame (Some code) is =
    let le = height_most (length code.instrs) image code frame.pc (fact_of frame) in
    let less = at_place (λ (c : Code). length c.instrs) code image.codes frame.function is in
    omega arith

-- no frame has more instructions before it than the longest function
pub frame_most : (image : ImageParts) (frame : Frame) → frame_height image frame ≤ longest image
frame_most image frame = height_of image frame (slice_get image.codes frame.function) refl

-- a frame that goes on without a turn has a lower height
pub frame_falls : (image : ImageParts) → IsFormed image → (frame later : Frame) (i : Instr) (way : Way) → IsAt image frame.function frame.pc i
    → IsAmong image frame → later.function ≡ frame.function → Contains (successors image frame.pc i (fact_of frame)) (way, later.pc)
    → fact_of later ≡ frame_after i way (fact_of frame)
    → spends i ≡ false → frame_height image later < frame_height image frame
frame_falls image formed frame later i way at among same c fact free =
    let before : frame_height image frame ≡ height_in (Some at.code) image frame = ap (λ o. height_in o image frame) at.is_code in
    let behind : frame_height image later ≡ height_in (Some at.code) image later =
    ap (λ f. height_in (slice_get image.codes f) image later) same ∙ ap (λ o. height_in o image later) at.is_code in
    let to : height_in (Some at.code) image later ≡ height (length at.code.instrs) image at.code later.pc (frame_after i way (fact_of frame)) =
    ap (λ f. height (length at.code.instrs) image at.code later.pc f) fact in
    let less = falls image formed frame.function at.code at.is_code frame.pc i (fact_of frame) way later.pc at.is_instr among free c in
    omega arith
