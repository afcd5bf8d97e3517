-- Straight code by what its registers may hold: each instruction hands kinds of states on to the next one.
use Rattle.std.proofs.Common.{◌≡◌, ◌≢◌, ℕ, suc, ◌+◌, ◌<◌, nat_eq, Bool, true, false, if◌then◌else◌, List, [], ◌∷◌, ◌++◌, refl, sym, ap, subst}
use Rattle.std.specs.Prelude.{nat_le, ◌&&◌, slice_get, Some, None}
use Rattle.std.proofs.lemmas.Bool.{eqb-true, eq-eqb}
use Rattle.px_regcode.specs.declared.codes.Code.{Code}
use Rattle.px_regcode.specs.declared.instructions.Instr.{Instr}
use Rattle.px_regcode.specs.Images.{ImageParts}
use Rattle.px_regcode.specs.Effects.{may_fault, reads, writes, empties}
use Rattle.px_regcode.specs.declared.operands.Register.{Register}
use Rattle.px_regcode.specs.Operands.{takes, targets}
use Rattle.px_regcode.specs.Paths.{is_ticket}
use Rattle.px_regcode.specs.Facts.{FrameFact, successors, if_faulting, frame_done, plan_writes}
use Rattle.px_regcode.specs.Facts.{State, empty, whole, object, held, lent, fault, outside, done, faulted, numbers_of, makes, hands_on, is_one_of, once_emptied, each_once_emptied, all_at}
use Rattle.px_regcode.specs.Shapes.{IsShaped, Meets, needs, plan_of, arguments_of}
use Rattle.px_regcode.specs.Formed.{callee, ends_iteration, is_enter, is_leave, StandsIn}
use Rattle.px_regcode.specs.Formed.{IsGiven, is_owned, owning_writes, times, names, ends_frame, may_be_left}
use Rattle.px_regcode.proofs.Tests.{Each}

-- what a register may hold: nothing, a number, a reference, no reference, or one that is let go
pub data Kind : Type 0 where
  bare : Kind
  numeric : Kind
  owning : Kind
  unowned : Kind
  releasable : Kind

abbrev pub May : Kind → State → Type 0
May bare empty = Unit {0}
May numeric whole = Unit {0}
May owning (object false) = Unit {0}
May unowned empty = Unit {0}
May unowned whole = Unit {0}
May releasable empty = Unit {0}
May releasable (object false) = Unit {0}
May k s = ⊥

abbrev pub Kinds : Type 0
Kinds = ℕ → Kind

-- one register holds something else
abbrev pub put : ℕ → Kind → Kinds → Kinds
put d k before r = if nat_eq r d then k else before r

pub put_same : (d : ℕ) (k : Kind) (before : Kinds) → put d k before d ≡ k
put_same d k before = ap (λ b. if b then k else before d) (eq-eqb d d refl)

pub put_other : (d r : ℕ) (k : Kind) (before : Kinds) → r ≢ d → put d k before r ≡ before r
put_other d r k before other = by_test (nat_eq r d) refl
  where
    by_test : (b : Bool) → nat_eq r d ≡ b → put d k before r ≡ before r
    by_test true is = absurd (other (eqb-true r d is))
    by_test false is = ap (λ b. if b then k else before r) is

-- the register holds no reference
abbrev pub Plain : Kind → Type 0
Plain bare = Unit {0}
Plain numeric = Unit {0}
Plain unowned = Unit {0}
Plain owning = ⊥
Plain releasable = ⊥

pub plain_free : (k : Kind) → Plain k → (s : State) → May k s → is_owned s ≡ false
plain_free bare p empty may = refl
plain_free bare p whole may = refl
plain_free bare p (object stood) may = absurd may
plain_free bare p (held rank stood) may = absurd may
plain_free bare p (lent rank from gone) may = refl
plain_free bare p fault may = refl
plain_free numeric p empty may = refl
plain_free numeric p whole may = refl
plain_free numeric p (object stood) may = absurd may
plain_free numeric p (held rank stood) may = absurd may
plain_free numeric p (lent rank from gone) may = refl
plain_free numeric p fault may = refl
plain_free unowned p empty may = refl
plain_free unowned p whole may = refl
plain_free unowned p (object stood) may = absurd may
plain_free unowned p (held rank stood) may = absurd may
plain_free unowned p (lent rank from gone) may = refl
plain_free unowned p fault may = refl
plain_free owning p s may = absurd p
plain_free releasable p s may = absurd p

-- a number
pub is_whole : (k : Kind) → k ≡ numeric → (s : State) → May k s → s ≡ whole
is_whole bare is s may = cc
is_whole numeric is whole may = refl
is_whole numeric is empty may = absurd may
is_whole numeric is (object stood) may = absurd may
is_whole numeric is (held rank stood) may = absurd may
is_whole numeric is (lent rank from gone) may = absurd may
is_whole numeric is fault may = absurd may
is_whole owning is s may = cc
is_whole unowned is s may = cc
is_whole releasable is s may = cc

-- an instruction that stands outside of parallel loops, takes no lock, and hands no arguments over
pub record Ordinary (image : ImageParts) (i : Instr) : Type 0 where
  pub no_plan : plan_of image i ≡ None
  pub no_copies : plan_writes image outside i ≡ []
  pub no_arguments : (other : Code) (n : ℕ) (a : Register) → callee image i ≡ Some other → slice_get (arguments_of i) n ≡ Some a → ⊥
  pub no_iteration : ends_iteration i ≡ false
  pub no_ticket : is_ticket i ≡ false
  pub no_enter : is_enter i ≡ false
  pub no_leave : is_leave i ≡ false
  pub stands : StandsIn i outside

-- one behind which the next one follows, with the same handler
pub record GoesOn (image : ImageParts) (i : Instr) : Type 0 where
  pub next : (pc : ℕ) (fact : FrameFact)
      → successors image pc i fact ≡ (if ends_frame i then [] else (done, pc + 1) ∷ if_faulting (may_fault i) fact.handler)
  pub no_target : targets i ≡ []
  pub same : (fact : FrameFact) → frame_done i fact ≡ fact

module _ (image : ImageParts) (code : Code) (variables objects : ℕ) where
  -- what may stand in a register where a fault is caught
  abbrev pub clean : Kinds
  clean r = if nat_le variables r && nat_le (suc r) (variables + objects) then releasable else unowned

  -- by whether there is a handler: what a fault needs of a register
  abbrev pub Loses : Bool → ℕ → State → Type 0
  Loses true r s = May (clean r) s
  Loses false r s = is_owned s ≡ false

  -- an instruction keeps the rules where registers hold such states, and hands others on
  pub record Keeping (handled : Bool) (before : Kinds) (i : Instr) (after : Kinds) : Type 0 where
    pub ordinary : Ordinary image i
    pub named : Each (λ r. r < code.registers) (numbers_of (reads i ++ writes i ++ empties i))
    pub shaped : IsShaped image code i
    pub given : IsGiven code.result i
    pub asked : Each (λ p. (s : State) → May (before p.0) s → Meets s p.1) (needs code.result i)
    pub kept : Each (λ r. (s : State) → May (before r) s → is_owned s ≡ false) (numbers_of (writes i))
    pub taken : Each (λ r. (s : State) → May (before r) s → is_owned s ≡ true → times r (names i) ≡ 1) (numbers_of (takes i))
    pub written : Each (λ r. times r (names i) ≡ 1) (owning_writes image i)
    pub left : ends_frame i ≡ true → (r : ℕ) (s : State) → May (before r) s → may_be_left i r s ≡ true → is_owned s ≡ false
    pub loses : may_fault i ≡ true → (r : ℕ) (s : State) → May (before r) s → Loses handled r s
    pub faults : (r : ℕ) (s : State) → May (before r) s → Each (λ p. (p.0 ≡ r) × (p.1 ≡ s)) (hands_on image outside i faulted r s)
    pub made : ends_frame i ≡ false → Each (λ p. May (after p.0) p.1) (makes image outside i done)
    pub handed : ends_frame i ≡ false → (r : ℕ) (s : State) → May (before r) s → Each (λ p. May (after p.0) p.1) (hands_on image outside i done r s)

  -- one that goes on behind itself, if it doesn't end the frame
  pub record Step (handled : Bool) (before : Kinds) (i : Instr) (after : Kinds) : Type 0 where
    pub goes_on : GoesOn image i
    pub keeps : Keeping handled before i after

  -- instructions one behind another
  pub data Path (handled : Bool) : Kinds → List Instr → Kinds → Type 0 where
    stop : {at : Kinds} → Path handled at [] at
    go : {before mid after : Kinds} {i : Instr} {is : List Instr} → Step handled before i mid → Path handled mid is after
        → Path handled before (i ∷ is) after

  pub joined : {handled : Bool} {before mid after : Kinds} (a b : List Instr) → Path handled before a mid → Path handled mid b after
      → Path handled before (a ++ b) after
  joined [] b Path.stop q = q
  joined (i ∷ is) b (Path.go s p) q = Path.go s (joined is b p q)

-- ---- what stays

pub never_lent : (k : Kind) (e : List ℕ) (s : State) → May k s → once_emptied e s ≡ s
never_lent k e empty may = refl
never_lent k e whole may = refl
never_lent k e (object stood) may = refl
never_lent k e (held rank stood) may = refl
never_lent bare e (lent rank from gone) may = absurd may
never_lent numeric e (lent rank from gone) may = absurd may
never_lent owning e (lent rank from gone) may = absurd may
never_lent unowned e (lent rank from gone) may = absurd may
never_lent releasable e (lent rank from gone) may = absurd may
never_lent k e fault may = refl

-- what a register that isn't changed hands on
pub stays_as : (k : Kind) (after : Kinds) (changed e : List ℕ) (r : ℕ) (s : State) → May k s
    → (is_one_of r changed ≡ false → after r ≡ k)
    → Each (λ p. May (after p.0) p.1) (each_once_emptied e (all_at r (if is_one_of r changed then [] else s ∷ [])))
stays_as k after changed e r s may same = by_test (is_one_of r changed) refl
  where
    by_test : (b : Bool) → is_one_of r changed ≡ b
        → Each (λ p. May (after p.0) p.1) (each_once_emptied e (all_at r (if b then [] else s ∷ [])))
    by_test true is = tt
    by_test false is = (subst (λ t. May (after r) t) (sym (never_lent k e s may)) (subst (λ l. May l s) (sym (same is)) may), tt)

-- what a fault hands on
pub faults_as : (k : Kind) (r : ℕ) (s : State) → May k s
    → Each {X = ℕ × State} (λ p. (p.0 ≡ r) × (p.1 ≡ s)) ((r, s) ∷ (r, once_emptied [] s) ∷ [])
faults_as k r s may = ((refl, refl), ((refl, never_lent k [] s may), tt))
