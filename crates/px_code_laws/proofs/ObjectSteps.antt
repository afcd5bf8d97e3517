-- The instructions on objects, the calls and the ends of functions, and what they hand on.
use Rattle.std.proofs.Common.{◌≡◌, ◌≢◌, ℕ, zero, suc, ◌+◌, ◌<◌, ◌≤◌, nat_eq, Bool, true, false, if◌then◌else◌, [], ◌∷◌, ◌++◌, Some, None, refl, sym, ap, subst, arith}
use Rattle.std.proofs.lemmas.Bool.{eqb-true, eq-eqb}
use Rattle.px_base.specs.declared.c_types.CType.{CType}
use Rattle.px_regcode.specs.declared.codes.Code.{Code}
use Rattle.px_regcode.specs.declared.instructions.Instr.{Instr}
use Rattle.px_regcode.specs.declared.instructions.Instr.TheVariants as instr
use Rattle.px_regcode.specs.Images.{ImageParts}
use Rattle.px_regcode.specs.Effects.{may_fault, reads, writes, empties, gives_whole, gives_object}
use Rattle.px_regcode.specs.Operands.{takes, targets}
use Rattle.px_regcode.specs.Facts.{successors, frame_done}
use Rattle.px_regcode.specs.Facts.{State, empty, whole, object, held, lent, fault, numbers_of, makes, hands_on, derives, result_of, state_of, as_result}
use Rattle.px_regcode.specs.Shapes.{IsShaped, Meets, reference, reference_or_nothing, of_kind, IsTextOrNone, IsCallOf, IsOfKind, each, needs}
use Rattle.px_regcode.specs.Formed.{StandsIn}
use Rattle.px_regcode.specs.Formed.{owning_writes, times, owning_result}
use Rattle.px_regcode.proofs.Tests.{Each}
use Rattle.px_exprgen.specs.ExpressionCode.{register}
use Rattle.px_regcode.specs.declared.operands.RegKind.{RegKind}
use Rattle.px_regcode.specs.declared.operands.RegKind.TheVariants as kind
use Rattle.px_stmtgen.specs.Layouts.{registers_from}
use Rattle.std.specs.Prelude.{slice_get, not}
use Rattle.px_code_laws.proofs.NumberSteps.{put_unchanged, is_number}
use Rattle.px_code_laws.proofs.Straight.{Kind, bare, numeric, owning, unowned, releasable, May, Kinds, put, put_same, Plain, plain_free, is_whole, Loses, Step, Keeping, stays_as, faults_as}

pub put_gives : (d : ℕ) (k : Kind) (before : Kinds) (s : State) → May k s → May (put d k before d) s
put_gives d k before s may = subst (λ l. May l s) (sym (put_same d k before)) may

pub is_reference : (k : Kind) → k ≡ owning → (s : State) → May k s → s ≡ object false
is_reference bare is s may = cc
is_reference numeric is s may = cc
is_reference unowned is s may = cc
is_reference releasable is s may = cc
is_reference owning is (object false) may = refl
is_reference owning is (object true) may = absurd may
is_reference owning is empty may = absurd may
is_reference owning is whole may = absurd may
is_reference owning is (held rank stood) may = absurd may
is_reference owning is (lent rank from gone) may = absurd may
is_reference owning is fault may = absurd may

-- a register whose reference is let go
abbrev pub Released : Kind → Type 0
Released owning = Unit {0}
Released releasable = Unit {0}
Released bare = Unit {0}
Released numeric = ⊥
Released unowned = ⊥

is_released : (k : Kind) → Released k → (s : State) → May k s → Meets s reference_or_nothing
unfolding Meets
is_released owning p (object false) may = tt
is_released owning p (object true) may = absurd may
is_released owning p empty may = absurd may
is_released owning p whole may = absurd may
is_released owning p (held rank stood) may = absurd may
is_released owning p (lent rank from gone) may = absurd may
is_released owning p fault may = absurd may
is_released releasable p (object false) may = tt
is_released releasable p (object true) may = absurd may
is_released releasable p empty may = tt
is_released releasable p whole may = absurd may
is_released releasable p (held rank stood) may = absurd may
is_released releasable p (lent rank from gone) may = absurd may
is_released releasable p fault may = absurd may
is_released bare p empty may = tt
is_released bare p whole may = absurd may
is_released bare p (object stood) may = absurd may
is_released bare p (held rank stood) may = absurd may
is_released bare p (lent rank from gone) may = absurd may
is_released bare p fault may = absurd may
is_released numeric p s may = absurd p
is_released unowned p s may = absurd p

meets_reference : (k : Kind) → k ≡ owning → (s : State) → May k s → Meets s reference
unfolding Meets
meets_reference k is s may = subst (λ t. Meets t reference) (sym (is_reference k is s may)) tt

-- named once

once : (a : ℕ) → times a (a ∷ []) ≡ 1
once a = ap (λ b. if b then 1 else 0) (eq-eqb a a refl)

once_behind : (d a : ℕ) → d ≢ a → times d (a ∷ d ∷ []) ≡ 1
once_behind d a other = by_test (nat_eq d a) refl
  where
    by_test : (b : Bool) → nat_eq d a ≡ b → (if b then suc (times d (d ∷ [])) else times d (d ∷ [])) ≡ 1
    by_test true is = absurd (other (eqb-true d a is))
    by_test false is = once d

-- registers behind one another

named_from : (P : ℕ → Type 0) (first count : ℕ) → ((r : ℕ) → first ≤ r → r < first + count → P r) → Each P (numbers_of (registers_from first count ++ [] ++ []))
named_from P first zero all = tt
named_from P first (suc count) all =
    (all first (omega arith) (omega arith), named_from P (suc first) count (λ r from less. all r (omega (arith, from)) (omega (arith, less))))

asked_from : (before : Kinds) (first count : ℕ) → ((r : ℕ) → first ≤ r → r < first + count → before r ≡ owning)
    → Each (λ p. (s : State) → May (before p.0) s → Meets s p.1) (each reference (registers_from first count))
asked_from before first zero all = tt
asked_from before first (suc count) all =
    (meets_reference (before first) (all first (omega arith) (omega arith)), asked_from before (suc first) count (λ r from less. all r (omega (arith, from)) (omega (arith, less))))

-- what a function of a kind gives
abbrev pub given_kind : RegKind → Kind
given_kind kind.Whole = numeric
given_kind kind.Object = owning
given_kind (kind.View rank) = bare
given_kind kind.Empty = bare
given_kind kind.Fault = bare

abbrev pub IsResult : RegKind → Type 0
IsResult kind.Whole = Unit {0}
IsResult kind.Object = Unit {0}
IsResult (kind.View rank) = ⊥
IsResult kind.Empty = ⊥
IsResult kind.Fault = ⊥

gives_result : (k : RegKind) → IsResult k → May (given_kind k) (state_of k)
gives_result kind.Whole is = tt
gives_result kind.Object is = tt
gives_result (kind.View rank) is = absurd is
gives_result kind.Empty is = absurd is
gives_result kind.Fault is = absurd is

owns_once : (d : ℕ) (k : RegKind) → IsResult k → Each (λ r. times r (d ∷ []) ≡ 1) (owning_result (Some k) (d ∷ []))
owns_once d kind.Whole is = tt
owns_once d kind.Object is = (once d, tt)
owns_once d (kind.View rank) is = absurd is
owns_once d kind.Empty is = absurd is
owns_once d kind.Fault is = absurd is

returned : (k : RegKind) → IsResult k → (l : Kind) → l ≡ given_kind k → (s : State) → May l s → Meets s (of_kind k)
unfolding Meets IsOfKind
returned kind.Whole is l same s may = subst (λ t. Meets t (of_kind kind.Whole)) (sym (is_whole l same s may)) tt
returned kind.Object is l same s may = subst (λ t. Meets t (of_kind kind.Object)) (sym (is_reference l same s may)) tt
returned (kind.View rank) is l same s may = absurd is
returned kind.Empty is l same s may = absurd is
returned kind.Fault is l same s may = absurd is

not_empty : (k : RegKind) → IsResult k → k ≢ kind.Empty
not_empty kind.Whole is same = cc
not_empty kind.Object is same = cc
not_empty (kind.View rank) is same = cc
not_empty kind.Empty is same = absurd is
not_empty kind.Fault is same = cc

left_but : (a r : ℕ) (s : State) → not (nat_eq r a) ≡ true → r ≢ a
left_but a r s leaves same = let t : nat_eq r a ≡ true = eq-eqb r a same in cc

module _ (image : ImageParts) (code : Code) (variables objects : ℕ) (handled : Bool) (before : Kinds)
    (safe : (r : ℕ) (s : State) → May (before r) s → Loses image code variables objects handled r s) where
  abbrev Goes : Instr → Kinds → Type 0
  Goes i after = Step image code variables objects handled before i after

  pub box_step : (d a : ℕ) (t : CType) → d < code.registers → a < code.registers → d ≢ a → before a ≡ numeric → Plain (before d) → Goes (instr.Box t (register d) (register a)) (put d owning before)
  unfolding successors targets frame_done StandsIn may_fault reads writes empties gives_whole gives_object takes IsShaped needs owning_writes makes hands_on derives
  box_step d a t room rooma other there plain = record {
    goes_on = record { next = λ pc fact. refl; no_target = refl; same = λ fact. refl };
    keeps = record {
      ordinary = record { no_plan = refl; no_copies = refl; no_arguments = λ other n a called given. cc; no_iteration = refl; no_ticket = refl; no_enter = refl; no_leave = refl; stands = tt };
      named = (rooma, (room, tt));
      shaped = tt;
      given = tt;
      asked = (is_number (before a) there, tt);
      kept = (plain_free (before d) plain, tt);
      taken = tt;
      written = (once_behind d a other, tt);
      left = λ is r s may leaves. cc;
      loses = λ is r s may. safe r s may;
      faults = λ r s may. faults_as (before r) r s may;
      made = λ is. (put_gives d owning before (object false) tt, tt);
      handed = λ is r s may. stays_as (before r) (put d owning before) (d ∷ []) [] r s may (λ unlike. put_unchanged d r owning before unlike);
    };
  }

  pub print_step : (first count : ℕ) → first + count ≤ code.registers → ((r : ℕ) → first ≤ r → r < first + count → before r ≡ owning) → Goes (instr.Print (registers_from first count)) before
  unfolding successors targets frame_done StandsIn may_fault reads writes empties gives_whole gives_object takes IsShaped needs owning_writes makes hands_on derives
  print_step first count room all = record {
    goes_on = record { next = λ pc fact. refl; no_target = refl; same = λ fact. refl };
    keeps = record {
      ordinary = record { no_plan = refl; no_copies = refl; no_arguments = λ other n a called given. cc; no_iteration = refl; no_ticket = refl; no_enter = refl; no_leave = refl; stands = tt };
      named = named_from (λ r. r < code.registers) first count (λ r from less. omega (arith, less, room));
      shaped = tt;
      given = tt;
      asked = asked_from before first count all;
      kept = tt;
      taken = tt;
      written = tt;
      left = λ is r s may leaves. cc;
      loses = λ is r s may. safe r s may;
      faults = λ r s may. faults_as (before r) r s may;
      made = λ is. tt;
      handed = λ is r s may. stays_as (before r) before [] [] r s may (λ same. refl);
    };
  }

  pub text_step : (d n : ℕ) → d < code.registers → IsTextOrNone (slice_get image.constants n) → Plain (before d) → Goes (instr.Text (register d) n) (put d owning before)
  unfolding successors targets frame_done StandsIn may_fault reads writes empties gives_whole gives_object takes IsShaped needs owning_writes makes hands_on derives
  text_step d n room text plain = record {
    goes_on = record { next = λ pc fact. refl; no_target = refl; same = λ fact. refl };
    keeps = record {
      ordinary = record { no_plan = refl; no_copies = refl; no_arguments = λ other n a called given. cc; no_iteration = refl; no_ticket = refl; no_enter = refl; no_leave = refl; stands = tt };
      named = (room, tt);
      shaped = text;
      given = tt;
      asked = tt;
      kept = (plain_free (before d) plain, tt);
      taken = tt;
      written = (once d, tt);
      left = λ is r s may leaves. cc;
      loses = λ is r s may. safe r s may;
      faults = λ r s may. faults_as (before r) r s may;
      made = λ is. (put_gives d owning before (object false) tt, tt);
      handed = λ is r s may. stays_as (before r) (put d owning before) (d ∷ []) [] r s may (λ unlike. put_unchanged d r owning before unlike);
    };
  }

  pub call_step : (f : ℕ) → IsCallOf image f None 0 → Goes (instr.Call f None []) before
  unfolding successors targets frame_done StandsIn may_fault reads writes empties gives_whole gives_object takes IsShaped needs owning_writes makes hands_on derives
  call_step f is_call = record {
    goes_on = record { next = λ pc fact. refl; no_target = refl; same = λ fact. refl };
    keeps = record {
      ordinary = record { no_plan = refl; no_copies = refl; no_arguments = λ other n a called given. cc; no_iteration = refl; no_ticket = refl; no_enter = refl; no_leave = refl; stands = tt };
      named = tt;
      shaped = is_call;
      given = tt;
      asked = tt;
      kept = tt;
      taken = tt;
      written = tt;
      left = λ is r s may leaves. cc;
      loses = λ is r s may. safe r s may;
      faults = λ r s may. faults_as (before r) r s may;
      made = λ is. tt;
      handed = λ is r s may. stays_as (before r) before [] [] r s may (λ same. refl);
    };
  }

  pub result_step : (f d : ℕ) (k : RegKind) → IsCallOf image f (Some (register d)) 0 → result_of (slice_get image.codes f) ≡ Some k → IsResult k → d < code.registers → Plain (before d) → Goes (instr.Call f (Some (register d)) []) (put d (given_kind k) before)
  unfolding successors targets frame_done StandsIn may_fault reads writes empties gives_whole gives_object takes IsShaped needs owning_writes makes hands_on derives
  result_step f d k is_call same is_result room plain = record {
    goes_on = record { next = λ pc fact. refl; no_target = refl; same = λ fact. refl };
    keeps = record {
      ordinary = record { no_plan = refl; no_copies = refl; no_arguments = λ other n a called given. cc; no_iteration = refl; no_ticket = refl; no_enter = refl; no_leave = refl; stands = tt };
      named = (room, tt);
      shaped = is_call;
      given = tt;
      asked = tt;
      kept = (plain_free (before d) plain, tt);
      taken = tt;
      written = subst (λ o. Each (λ r. times r (d ∷ []) ≡ 1) (owning_result o (d ∷ []))) (sym same) (owns_once d k is_result);
      left = λ is r s may leaves. cc;
      loses = λ is r s may. safe r s may;
      faults = λ r s may. faults_as (before r) r s may;
      made = λ is. subst (λ o. Each (λ p. May (put d (given_kind k) before p.0) p.1) (as_result d o ++ [] ++ [])) (sym same) (put_gives d (given_kind k) before (state_of k) (gives_result k is_result), tt);
      handed = λ is r s may. stays_as (before r) (put d (given_kind k) before) (d ∷ []) [] r s may (λ unlike. put_unchanged d r (given_kind k) before unlike);
    };
  }

-- what raises no fault
module _ (image : ImageParts) (code : Code) (variables objects : ℕ) (handled : Bool) (before : Kinds) where
  abbrev Leaves : Instr → Kinds → Type 0
  Leaves i after = Step image code variables objects handled before i after

  pub drop_step : (a : ℕ) → a < code.registers → Released (before a) → Leaves (instr.Drop (register a)) (put a bare before)
  unfolding successors targets frame_done StandsIn may_fault reads writes empties gives_whole gives_object takes IsShaped needs owning_writes makes hands_on derives
  drop_step a room released = record {
    goes_on = record { next = λ pc fact. refl; no_target = refl; same = λ fact. refl };
    keeps = record {
      ordinary = record { no_plan = refl; no_copies = refl; no_arguments = λ other n a called given. cc; no_iteration = refl; no_ticket = refl; no_enter = refl; no_leave = refl; stands = tt };
      named = (room, (room, tt));
      shaped = tt;
      given = tt;
      asked = (is_released (before a) released, tt);
      kept = tt;
      taken = ((λ s may owned. once a), tt);
      written = tt;
      left = λ is r s may leaves. cc;
      loses = λ is r s may. cc;
      faults = λ r s may. faults_as (before r) r s may;
      made = λ is. (put_gives a bare before empty tt, tt);
      handed = λ is r s may. stays_as (before r) (put a bare before) (a ∷ []) (a ∷ []) r s may (λ unlike. put_unchanged a r bare before unlike);
    };
  }

  pub return_step : (a : ℕ) (k : RegKind) (after : Kinds) → a < code.registers → code.result ≡ k → IsResult k → before a ≡ given_kind k → ((r : ℕ) → r ≢ a → Plain (before r)) → Leaves (instr.Return (register a)) after
  unfolding successors targets frame_done StandsIn may_fault reads writes empties gives_whole gives_object takes IsShaped needs owning_writes makes hands_on derives
  return_step a k after room same is_result there others = record {
    goes_on = record { next = λ pc fact. refl; no_target = refl; same = λ fact. refl };
    keeps = record {
      ordinary = record { no_plan = refl; no_copies = refl; no_arguments = λ other n a called given. cc; no_iteration = refl; no_ticket = refl; no_enter = refl; no_leave = refl; stands = tt };
      named = (room, tt);
      shaped = tt;
      given = subst (λ l. l ≢ kind.Empty) (sym same) (not_empty k is_result);
      asked = (subst (λ l. (s : State) → May (before a) s → Meets s (of_kind l)) (sym same) (returned k is_result (before a) there), tt);
      kept = tt;
      taken = ((λ s may owned. once a), tt);
      written = tt;
      left = λ is r s may leaves. plain_free (before r) (others r (left_but a r s leaves)) s may;
      loses = λ is r s may. cc;
      faults = λ r s may. faults_as (before r) r s may;
      made = λ is. cc;
      handed = λ is r s may. cc;
    };
  }

  pub finish_step : (after : Kinds) → code.result ≡ kind.Empty → ((r : ℕ) → Plain (before r)) → Leaves instr.Finish after
  unfolding successors targets frame_done StandsIn may_fault reads writes empties gives_whole gives_object takes IsShaped needs owning_writes makes hands_on derives
  finish_step after same others = record {
    goes_on = record { next = λ pc fact. refl; no_target = refl; same = λ fact. refl };
    keeps = record {
      ordinary = record { no_plan = refl; no_copies = refl; no_arguments = λ other n a called given. cc; no_iteration = refl; no_ticket = refl; no_enter = refl; no_leave = refl; stands = tt };
      named = tt;
      shaped = same;
      given = tt;
      asked = tt;
      kept = tt;
      taken = tt;
      written = tt;
      left = λ is r s may leaves. plain_free (before r) (others r) s may;
      loses = λ is r s may. cc;
      faults = λ r s may. faults_as (before r) r s may;
      made = λ is. cc;
      handed = λ is r s may. cc;
    };
  }

  pub throw_step : (after : Kinds) → ((r : ℕ) → Plain (before r)) → Leaves instr.Throw after
  unfolding successors targets frame_done StandsIn may_fault reads writes empties gives_whole gives_object takes IsShaped needs owning_writes makes hands_on derives
  throw_step after others = record {
    goes_on = record { next = λ pc fact. refl; no_target = refl; same = λ fact. refl };
    keeps = record {
      ordinary = record { no_plan = refl; no_copies = refl; no_arguments = λ other n a called given. cc; no_iteration = refl; no_ticket = refl; no_enter = refl; no_leave = refl; stands = tt };
      named = tt;
      shaped = tt;
      given = tt;
      asked = tt;
      kept = tt;
      taken = tt;
      written = tt;
      left = λ is r s may leaves. plain_free (before r) (others r) s may;
      loses = λ is r s may. cc;
      faults = λ r s may. faults_as (before r) r s may;
      made = λ is. cc;
      handed = λ is r s may. cc;
    };
  }

  pub jump_step : (k : ℕ) → Keeping image code variables objects handled before (instr.Jump k) before
  unfolding successors targets frame_done StandsIn may_fault reads writes empties gives_whole gives_object takes IsShaped needs owning_writes makes hands_on derives
  jump_step k = record {
    ordinary = record { no_plan = refl; no_copies = refl; no_arguments = λ other n a called given. cc; no_iteration = refl; no_ticket = refl; no_enter = refl; no_leave = refl; stands = tt };
    named = tt;
    shaped = tt;
    given = tt;
    asked = tt;
    kept = tt;
    taken = tt;
    written = tt;
    left = λ is r s may leaves. cc;
    loses = λ is r s may. cc;
    faults = λ r s may. faults_as (before r) r s may;
    made = λ is. tt;
    handed = λ is r s may. stays_as (before r) before [] [] r s may (λ same. refl);
  }

  pub handle_step : (k : ℕ) → Keeping image code variables objects handled before (instr.Handle k) before
  unfolding successors targets frame_done StandsIn may_fault reads writes empties gives_whole gives_object takes IsShaped needs owning_writes makes hands_on derives
  handle_step k = record {
    ordinary = record { no_plan = refl; no_copies = refl; no_arguments = λ other n a called given. cc; no_iteration = refl; no_ticket = refl; no_enter = refl; no_leave = refl; stands = tt };
    named = tt;
    shaped = tt;
    given = tt;
    asked = tt;
    kept = tt;
    taken = tt;
    written = tt;
    left = λ is r s may leaves. cc;
    loses = λ is r s may. cc;
    faults = λ r s may. faults_as (before r) r s may;
    made = λ is. tt;
    handed = λ is r s may. stays_as (before r) before [] [] r s may (λ same. refl);
  }
