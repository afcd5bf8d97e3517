-- The places of code that is a path, or two of them: one for what cleans up, one for the statements.
use Rattle.std.proofs.Common.{◌≡◌, ◌⊎◌, inl, inr, ℕ, zero, suc, ◌+◌, ◌<◌, pos, ◌||◌, ◌&&◌, Bool, true, false, if◌then◌else◌, List, [], ◌∷◌, ◌++◌, length, Option, Some, None, Contains, refl, sym, ap, ◌∙◌, subst, arith}
use Rattle.std.specs.Prelude.{slice_get}
use Rattle.px_regcode.specs.declared.codes.Code.{Code}
use Rattle.px_regcode.specs.declared.instructions.Instr.{Instr}
use Rattle.px_regcode.specs.declared.instructions.Instr.TheVariants as instr
use Rattle.px_regcode.specs.Images.{ImageParts}
use Rattle.px_regcode.specs.Effects.{may_fault}
use Rattle.px_regcode.specs.Operands.{targets}
use Rattle.px_regcode.specs.Facts.{State, outside, Way, done, faulted, successors, frame_fact, if_faulting, frame_after, frame_done, makes, hands_on}
use Rattle.px_regcode.specs.Formed.{is_owned, ends_frame, may_be_left, is_without}
use Rattle.px_regcode.proofs.Tests.{Each}
use Rattle.px_code_laws.proofs.Straight.{bare, May, Kinds, clean, Loses, Step, Path}
use Rattle.px_code_laws.proofs.ObjectSteps.{jump_step, handle_step}
use Rattle.px_code_laws.proofs.Tabled.{Place, fact_at, Leads, Holds}

-- ---- code whose last instruction ends the frame

abbrev pub Closed : List Instr → Type 0
Closed [] = ⊥
Closed (i ∷ []) = ends_frame i ≡ true
Closed (i ∷ (j ∷ is)) = Closed (j ∷ is)

pub closed_behind : (before code : List Instr) → Closed code → Closed (before ++ code)
closed_behind [] code closed = closed
closed_behind (i ∷ []) [] closed = absurd closed
closed_behind (i ∷ []) (j ∷ code) closed = closed
closed_behind (i ∷ (k ∷ before)) code closed = closed_behind (k ∷ before) code closed

goes_within : (code : List Instr) → Closed code → (n : ℕ) (i : Instr) → slice_get code n ≡ Some i → ends_frame i ≡ false → suc n < length code
goes_within [] closed n i at goes = absurd closed
goes_within (j ∷ []) closed zero i at goes = let same : j ≡ i = cc in let ends : ends_frame i ≡ true = subst (λ x. ends_frame x ≡ true) same closed in cc
goes_within (j ∷ []) closed (suc n) i at goes = cc
goes_within (j ∷ (k ∷ code)) closed zero i at goes = omega arith
goes_within (j ∷ (k ∷ code)) closed (suc n) i at goes = let less = goes_within (k ∷ code) closed n i at goes in omega (arith, less)

-- ---- lists one behind the other

abbrev pub joins : {X : Type 0} → ℕ → (ℕ → X) → (ℕ → X) → ℕ → X
joins zero f g n = g n
joins (suc k) f g zero = f zero
joins (suc k) f g (suc n) = joins k (λ m. f (suc m)) g n

joins_low : {X : Type 0} (k : ℕ) (f g : ℕ → X) (n : ℕ) → n < k → joins k f g n ≡ f n
joins_low zero f g n less = absurd (omega (arith, less))
joins_low (suc k) f g zero less = refl
joins_low (suc k) f g (suc n) less = joins_low k (λ m. f (suc m)) g n (omega (arith, less))

joins_high : {X : Type 0} (k : ℕ) (f g : ℕ → X) (n : ℕ) → joins k f g (k + n) ≡ g n
joins_high zero f g n = let number : 0 + n ≡ n = omega arith in ap g number
joins_high (suc k) f g n =
    let number : suc k + n ≡ suc (k + n) = omega arith in ap (λ m. joins (suc k) f g m) number ∙ joins_high k (λ m. f (suc m)) g n

found : {X : Type 0} (a b : List X) (n : ℕ) (x : X) → slice_get (a ++ b) n ≡ Some x
    → (slice_get a n ≡ Some x) ⊎ ((m : ℕ) × (n ≡ length a + m) × (slice_get b m ≡ Some x))
found [] b n x at = inr (n, omega arith, at)
found (y ∷ a) b zero x at = inl at
found (y ∷ a) b (suc n) x at = elim (found a b n x at) [
  | inl mine ↦ inl mine
  | inr (m, is, other) ↦ inr (m, omega (arith, is), other)
]

-- ---- states by places

module _ (image : ImageParts) (code : Code) (variables objects : ℕ) (handled : Bool) where
  abbrev Goes : Kinds → List Instr → Kinds → Type 0
  Goes before is after = Path image code variables objects handled before is after

  abbrev pub states : (before after : Kinds) (is : List Instr) → Goes before is after → ℕ → Kinds
  states before after [] p n = before
  states before after (i ∷ is) (Path.go s p) zero = before
  states before after (i ∷ is) (Path.go {mid} s p) (suc n) = states mid after is p n

  first_states : (before after : Kinds) (is : List Instr) (p : Goes before is after) → states before after is p 0 ≡ before
  first_states before after [] p = refl
  first_states before after (i ∷ is) (Path.go s p) = refl

  step_at : (before after : Kinds) (is : List Instr) (p : Goes before is after) (n : ℕ) (i : Instr) → slice_get is n ≡ Some i
      → Step image code variables objects handled (states before after is p n) i (states before after is p (suc n))
  step_at before after [] p n i at = cc
  step_at before after (j ∷ is) (Path.go {mid} s p) zero i at =
      let same : j ≡ i = cc in
      subst (λ x. Step image code variables objects handled before x (states mid after is p 0)) same
      (subst (λ k. Step image code variables objects handled before j k) (sym (first_states mid after is p)) s)
  step_at before after (j ∷ is) (Path.go {mid} s p) (suc n) i at = step_at mid after is p n i at

-- ---- ways on

nothing : {X : Type 0} {x : X} → Contains [] x → ⊥
nothing (k, lt, at) = omega (arith, lt)

ways : (ends faults : Bool) (h : Option ℕ) (pc : ℕ) (way : Way) (to : ℕ)
    → Contains (if ends then [] else (done, pc + 1) ∷ if_faulting faults h) (way, to)
    → (ends ≡ false) × (((way ≡ done) × (to ≡ pc + 1)) ⊎ ((way ≡ faulted) × (faults ≡ true) × (h ≡ Some to)))
ways true faults h pc way to named = absurd (nothing named)
ways false faults h pc way to (zero, lt, at) = (refl, inl (sym (ap (λ p. p.0) at), sym (ap (λ p. p.1) at)))
ways false false h pc way to (suc k, lt, at) = absurd (omega (arith, lt))
ways false true None pc way to (suc k, lt, at) = absurd (omega (arith, lt))
ways false true (Some j) pc way to (suc zero, lt, at) = (refl, inr (sym (ap (λ p. p.0) at), refl, ap (λ p. Some p.1) at))
ways false true (Some j) pc way to (suc (suc k), lt, at) = absurd (omega (arith, lt))

each_so : {X : Type 0} (P Q : X → Type 0) (xs : List X) → ((x : X) → P x → Q x) → Each P xs → Each Q xs
each_so P Q [] so all = tt
each_so P Q (x ∷ xs) so all = (so x all.0, each_so P Q xs so all.1)

one_way : (k : ℕ) (way : Way) (to : ℕ) → Contains {X = Way × ℕ} ((done, k) ∷ []) (way, to) → (way ≡ done) × (to ≡ k)
one_way k way to (zero, lt, at) = (sym (ap (λ p. p.0) at), sym (ap (λ p. p.1) at))
one_way k way to (suc j, lt, at) = absurd (omega (arith, lt))

only : (k j : ℕ) → Contains (k ∷ []) j → j ≡ k
only k j (zero, lt, at) = sym at
only k j (suc n, lt, at) = absurd (omega (arith, lt))

module _ (image : ImageParts) (code : Code) (variables objects : ℕ) (place : ℕ → Place) where
  -- where faults go
  abbrev pub Catches : Option ℕ → Bool → Place → Type 0
  Catches None handled here = handled ≡ false
  Catches (Some k) handled here = (handled ≡ true) × (k < length code.instrs) × ((place k).handler ≡ None)
      × ((r : ℕ) → (place k).kinds r ≡ clean image code variables objects r) × (here.rank < (place k).rank)

  pub record Next (here there : Place) (pc : ℕ) : Type 0 where
    pub within : pc + 1 < length code.instrs
    pub is_place : place (pc + 1) ≡ there
    pub same : there.handler ≡ here.handler
    pub later : here.rank < there.rank

  -- what a fault loses
  loses_by : (h : Option ℕ) (handled : Bool) (here : Place) (k : ℕ) → h ≡ Some k → Catches h handled here
      → (handled ≡ true) × (k < length code.instrs) × ((place k).handler ≡ None)
      × ((r : ℕ) → (place k).kinds r ≡ clean image code variables objects r) × (here.rank < (place k).rank)
  loses_by None handled here k is c = cc
  loses_by (Some j) handled here k is c = let same : j ≡ k = cc in subst (λ x. Catches (Some x) handled here) same c

  without_handler : (h : Option ℕ) (handled : Bool) (here : Place) → is_without h ≡ true → Catches h handled here → handled ≡ false
  without_handler None handled here is c = c
  without_handler (Some k) handled here is c = cc

  module _ (handled : Bool) (here there : Place) (pc : ℕ) (i : Instr) (catches : Catches here.handler handled here)
      (s : Step image code variables objects handled here.kinds i there.kinds) (next : ends_frame i ≡ false → Next here there pc) where
    goes : ends_frame i ≡ false → Leads image here (place (pc + 1)) i done
    unfolding frame_after
    goes on =
        let n = next on in
        subst (λ p. Leads image here p i done) (sym n.is_place) (record {
          frame = s.goes_on.same (fact_at here) ∙ ap (λ h. record { handler = h; count = pos 0; stage = outside }) (sym n.same);
          later = n.later;
          made = s.keeps.made on;
          handed = s.keeps.handed on;
        })

    falls : may_fault i ≡ true → (k : ℕ) → here.handler ≡ Some k → Leads image here (place k) i faulted
    unfolding frame_after makes
    falls faults k is =
        let c = loses_by here.handler handled here k is catches in record {
          frame = ap (λ h. record { handler = h; count = pos 0; stage = outside }) (sym c.2);
          later = c.4;
          made = tt;
          handed = λ r t may.
              let lost = subst (λ h. Loses image code variables objects h r t) c.0 (s.keeps.loses faults r t may) in
              each_so (λ p. (p.0 ≡ r) × (p.1 ≡ t)) (λ p. May ((place k).kinds p.0) p.1) (hands_on image outside i faulted r t)
              (λ p are. subst (λ x. May ((place k).kinds x) p.1) (sym are.0) (subst (λ x. May ((place k).kinds r) x) (sym are.1)
              (subst (λ x. May x t) (sym (c.3 r)) lost)))
              (s.keeps.faults r t may);
        }

    leads_on : (way : Way) (to : ℕ) → Contains (successors image pc i (fact_at here)) (way, to) → (to < length code.instrs) × Leads image here (place to) i way
    leads_on way to named =
        let w = ways (ends_frame i) (may_fault i) here.handler pc way to
        (subst (λ l. Contains l (way, to)) (s.goes_on.next pc (fact_at here)) named) in
        elim w.1 [
          | inl (by, at) ↦ (
            subst (λ t. t < length code.instrs) (sym at) (next w.0).within,
            subst (λ t. Leads image here (place t) i way) (sym at) (subst (λ y. Leads image here (place (pc + 1)) i y) (sym by) (goes w.0)),
          )
          | inr (by, faults, is) ↦ (
            (loses_by here.handler handled here to is catches).1,
            subst (λ y. Leads image here (place to) i y) (sym by) (falls faults to is),
          )
        ]

    left_so : (ends faults : Bool) → ends_frame i ≡ ends → may_fault i ≡ faults → (ends || (faults && is_without here.handler)) ≡ true
        → (r : ℕ) (t : State) → May (here.kinds r) t → may_be_left i r t ≡ true → is_owned t ≡ false
    left_so true faults ends_so faults_so is r t may left = s.keeps.left ends_so r t may left
    left_so false true ends_so faults_so is r t may left =
        subst (λ h. Loses image code variables objects h r t) (without_handler here.handler handled here is catches) (s.keeps.loses faults_so r t may)
    left_so false false ends_so faults_so is r t may left = cc

    pub step_holds : Holds image code place here pc i
    step_holds = record {
      ordinary = s.keeps.ordinary;
      named = s.keeps.named;
      shaped = s.keeps.shaped;
      given = s.keeps.given;
      asked = s.keeps.asked;
      kept = s.keeps.kept;
      taken = s.keeps.taken;
      written = s.keeps.written;
      left = λ ends r t may left. left_so (ends_frame i) (may_fault i) refl refl ends r t may left;
      targets_in = λ k named. absurd (nothing (subst (λ l. Contains l k) s.goes_on.no_target named));
      inside = λ way to named. (leads_on way to named).0;
      leads = λ way to named. (leads_on way to named).1;
    }

-- ---- the jump over the cleanup, and the start of the statements

abbrev pub jump_place : Place
jump_place = record { handler = None; kinds = λ r. bare; rank = 0 }

abbrev pub handle_place : Place
handle_place = record { handler = None; kinds = λ r. bare; rank = 1 }

module _ (image : ImageParts) (code : Code) (variables objects : ℕ) (place : ℕ → Place) where
  pub jump_holds : (k : ℕ) → k < length code.instrs → place k ≡ handle_place → Holds image code place jump_place 0 (instr.Jump k)
  unfolding successors targets frame_after frame_done may_fault
  jump_holds k within is =
      let s = jump_step image code variables objects false (λ r. bare) k in record {
        ordinary = s.ordinary;
        named = s.named;
        shaped = s.shaped;
        given = s.given;
        asked = s.asked;
        kept = s.kept;
        taken = s.taken;
        written = s.written;
        left = λ ends r t may left. cc;
        targets_in = λ j named. subst (λ n. n < length code.instrs) (sym (only k j named)) within;
        inside = λ way to named. subst (λ n. n < length code.instrs) (sym (one_way k way to named).1) within;
        leads = λ way to named.
            let w = one_way k way to named in
            subst (λ t. Leads image jump_place (place t) (instr.Jump k) way) (sym w.1) (subst (λ y. Leads image jump_place (place k) (instr.Jump k) y) (sym w.0)
            (subst (λ p. Leads image jump_place p (instr.Jump k) done) (sym is) (record {
              frame = refl;
              later = omega arith;
              made = s.made refl;
              handed = s.handed refl;
            })));
      }

  pub handle_holds : (pc : ℕ) (there : Place) → 1 < length code.instrs → pc + 1 < length code.instrs → place (pc + 1) ≡ there → there.handler ≡ Some 1
      → ((r : ℕ) → there.kinds r ≡ bare) → 1 < there.rank → Holds image code place handle_place pc (instr.Handle 1)
  unfolding successors targets frame_after frame_done may_fault
  handle_holds pc there first within is handler kinds later =
      let s = handle_step image code variables objects false (λ r. bare) 1 in record {
        ordinary = s.ordinary;
        named = s.named;
        shaped = s.shaped;
        given = s.given;
        asked = s.asked;
        kept = s.kept;
        taken = s.taken;
        written = s.written;
        left = λ ends r t may left. cc;
        targets_in = λ j named. subst (λ n. n < length code.instrs) (sym (only 1 j named)) first;
        inside = λ way to named. subst (λ n. n < length code.instrs) (sym (one_way (pc + 1) way to named).1) within;
        leads = λ way to named.
            let w = one_way (pc + 1) way to named in
            subst (λ t. Leads image handle_place (place t) (instr.Handle 1) way) (sym w.1) (subst (λ y. Leads image handle_place (place (pc + 1)) (instr.Handle 1) y) (sym w.0)
            (subst (λ p. Leads image handle_place p (instr.Handle 1) done) (sym is) (record {
              frame = ap (λ h. frame_fact h (pos 0) outside) (sym handler);
              later = later;
              made = each_so (λ p. May bare p.1) (λ p. May (there.kinds p.0) p.1) (makes image outside (instr.Handle 1) done)
                  (λ p may. subst (λ k. May k p.1) (sym (kinds p.0)) may) (s.made refl);
              handed = λ r t may. each_so (λ p. May bare p.1) (λ p. May (there.kinds p.0) p.1) (hands_on image outside (instr.Handle 1) done r t)
                  (λ p here. subst (λ k. May k p.1) (sym (kinds p.0)) here) (s.handed refl r t may);
            })));
      }
