-- The instructions that write numbers, and what they hand on.
use Rattle.std.proofs.Common.{◌≡◌, ◌≢◌, ℕ, ◌<◌, ◌^◌, ◌-◌, nat_eq, ◌||◌, Bool, true, false, if◌then◌else◌, [], ◌∷◌, ◌++◌, refl, sym, ap, subst, ◌∙◌, map}
use Rattle.std.specs.Prelude.{ℤ, pos, neg_ℤ, ◌≤ℤ◌}
use Rattle.std.proofs.lemmas.Bool.{eqb-true}
use Rattle.px_base.specs.declared.c_types.CType.{CType}
use Rattle.px_base.specs.declared.c_types.CType.TheVariants.{Bint}
use Rattle.px_base.specs.declared.c_types.BinOp.{BinOp}
use Rattle.px_base.specs.declared.c_types.UnOp.{UnOp}
use Rattle.px_base.specs.declared.c_types.CmpOp.{CmpOp}
use Rattle.px_regcode.specs.declared.codes.Code.{Code}
use Rattle.px_regcode.specs.declared.instructions.Instr.{Instr}
use Rattle.px_regcode.specs.declared.instructions.Instr.TheVariants as instr
use Rattle.px_regcode.specs.Images.{ImageParts}
use Rattle.px_regcode.specs.Effects.{may_fault, reads, writes, empties, gives_whole, gives_object}
use Rattle.px_regcode.specs.Operands.{takes, targets}
use Rattle.px_regcode.specs.Facts.{successors, frame_done}
use Rattle.px_regcode.specs.Facts.{State, whole, makes, hands_on, derives, is_one_of, each_once_emptied, all_at, moved_on, left_behind}
use Rattle.px_regcode.specs.Shapes.{IsShaped, Meets, number, something, needs}
use Rattle.px_regcode.specs.Formed.{StandsIn}
use Rattle.px_regcode.specs.Formed.{is_owned, owning_writes}
use Rattle.px_regcode.proofs.Tests.{Each}
use Rattle.px_exprgen.specs.ExpressionCode.{register}
use Rattle.px_code_laws.proofs.Straight.{Kind, numeric, May, Kinds, put, put_same, Plain, plain_free, is_whole, Loses, Step, stays_as, faults_as}

-- what isn't named isn't changed
pub put_unchanged : (d r : ℕ) (k : Kind) (before : Kinds) → is_one_of r (d ∷ []) ≡ false → put d k before r ≡ before r
put_unchanged d r k before is = by_test (nat_eq r d) refl is
  where
    by_test : (b : Bool) → nat_eq r d ≡ b → (b || false) ≡ false → put d k before r ≡ before r
    by_test true at unlike = cc
    by_test false at unlike = ap (λ b. if b then k else before r) at

pub put_there : (d : ℕ) (before : Kinds) → May (put d numeric before d) whole
put_there d before = subst (λ k. May k whole) (sym (put_same d numeric before)) tt

pub is_number : (k : Kind) → k ≡ numeric → (s : State) → May k s → Meets s number
unfolding Meets
is_number k is s may = subst (λ t. Meets t number) (sym (is_whole k is s may)) tt

pub is_something : (k : Kind) → k ≡ numeric → (s : State) → May k s → Meets s something
unfolding Meets
is_something k is s may = subst (λ t. Meets t something) (sym (is_whole k is s may)) tt

pub moves_on : (a d : ℕ) (before : Kinds) → before a ≡ numeric → (r : ℕ) (s : State) → May (before r) s
    → Each (λ p. May (put d numeric before p.0) p.1) (each_once_emptied (a ∷ []) ((if nat_eq r a then map (λ s. (d, s)) (moved_on s) else [])
    ++ all_at r (if is_one_of r (d ∷ []) then [] else (if is_one_of r (a ∷ []) then left_behind s ∷ [] else s ∷ []))))
moves_on a d before is r s may = by_test (nat_eq r a) refl
  where
    by_test : (b : Bool) → nat_eq r a ≡ b
        → Each (λ p. May (put d numeric before p.0) p.1) (each_once_emptied (a ∷ []) ((if b then map (λ s. (d, s)) (moved_on s) else [])
        ++ all_at r (if is_one_of r (d ∷ []) then [] else (if b || false then left_behind s ∷ [] else s ∷ []))))
    by_test true at =
        let here : before r ≡ numeric = ap before (eqb-true r a at) ∙ is in
        let w : s ≡ whole = is_whole (before r) here s may in
        subst (λ s. Each (λ p. May (put d numeric before p.0) p.1) (each_once_emptied (a ∷ []) (map (λ s. (d, s)) (moved_on s)
        ++ all_at r (if is_one_of r (d ∷ []) then [] else left_behind s ∷ [])))) (sym w)
        (put_there d before, stays_as (before r) (put d numeric before) (d ∷ []) (a ∷ []) r whole (subst (λ s. May (before r) s) w may) (λ unlike. put_unchanged d r numeric before unlike))
    by_test false at = stays_as (before r) (put d numeric before) (d ∷ []) (a ∷ []) r s may (λ unlike. put_unchanged d r numeric before unlike)

not_owned : (s : State) → s ≡ whole → is_owned s ≡ true → ⊥
not_owned s is owned = let no : is_owned s ≡ false = ap is_owned is in cc

module _ (image : ImageParts) (code : Code) (variables objects : ℕ) (handled : Bool) (before : Kinds)
    (safe : (r : ℕ) (s : State) → May (before r) s → Loses image code variables objects handled r s) where
  abbrev Goes : Instr → Kinds → Type 0
  Goes i after = Step image code variables objects handled before i after

  pub const_step : (d : ℕ) (n : ℤ) → (neg_ℤ (pos (2 ^ 63)) ≤ℤ n) × (n ≤ℤ pos (2 ^ 64 - 1)) → d < code.registers → Plain (before d) → Goes (instr.Const (register d) n) (put d numeric before)
  unfolding successors targets frame_done StandsIn may_fault reads writes empties gives_whole gives_object takes IsShaped needs owning_writes makes hands_on derives
  const_step d n range room plain = record {
    goes_on = record { next = λ pc fact. refl; no_target = refl; same = λ fact. refl };
    keeps = record {
      ordinary = record { no_plan = refl; no_copies = refl; no_arguments = λ other n a called given. cc; no_iteration = refl; no_ticket = refl; no_enter = refl; no_leave = refl; stands = tt };
      named = (room, tt);
      shaped = range;
      given = tt;
      asked = tt;
      kept = (plain_free (before d) plain, tt);
      taken = tt;
      written = tt;
      left = λ is r s may leaves. cc;
      loses = λ is r s may. safe r s may;
      faults = λ r s may. faults_as (before r) r s may;
      made = λ is. (put_there d before, tt);
      handed = λ is r s may. stays_as (before r) (put d numeric before) (d ∷ []) [] r s may (λ unlike. put_unchanged d r numeric before unlike);
    };
  }

  pub move_step : (a d : ℕ) → a < code.registers → d < code.registers → before a ≡ numeric → Plain (before d) → Goes (instr.Move (register d) (register a)) (put d numeric before)
  unfolding successors targets frame_done StandsIn may_fault reads writes empties gives_whole gives_object takes IsShaped needs owning_writes makes hands_on derives
  move_step a d rooma room there plain = record {
    goes_on = record { next = λ pc fact. refl; no_target = refl; same = λ fact. refl };
    keeps = record {
      ordinary = record { no_plan = refl; no_copies = refl; no_arguments = λ other n a called given. cc; no_iteration = refl; no_ticket = refl; no_enter = refl; no_leave = refl; stands = tt };
      named = (rooma, (room, tt));
      shaped = tt;
      given = tt;
      asked = (is_something (before a) there, tt);
      kept = (plain_free (before d) plain, tt);
      taken = ((λ s may owned. absurd (not_owned s (is_whole (before a) there s may) owned)), tt);
      written = tt;
      left = λ is r s may leaves. cc;
      loses = λ is r s may. safe r s may;
      faults = λ r s may. faults_as (before r) r s may;
      made = λ is. tt;
      handed = λ is r s may. moves_on a d before there r s may;
    };
  }

  pub unary_step : (a d : ℕ) (op : UnOp) (t : CType) → t ≢ Bint → a < code.registers → d < code.registers → before a ≡ numeric → Plain (before d) → Goes (instr.Unary op t (register d) (register a)) (put d numeric before)
  unfolding successors targets frame_done StandsIn may_fault reads writes empties gives_whole gives_object takes IsShaped needs owning_writes makes hands_on derives
  unary_step a d op t other rooma room there plain = record {
    goes_on = record { next = λ pc fact. refl; no_target = refl; same = λ fact. refl };
    keeps = record {
      ordinary = record { no_plan = refl; no_copies = refl; no_arguments = λ other n a called given. cc; no_iteration = refl; no_ticket = refl; no_enter = refl; no_leave = refl; stands = tt };
      named = (rooma, (room, tt));
      shaped = other;
      given = tt;
      asked = (is_number (before a) there, tt);
      kept = (plain_free (before d) plain, tt);
      taken = tt;
      written = tt;
      left = λ is r s may leaves. cc;
      loses = λ is r s may. safe r s may;
      faults = λ r s may. faults_as (before r) r s may;
      made = λ is. (put_there d before, tt);
      handed = λ is r s may. stays_as (before r) (put d numeric before) (d ∷ []) [] r s may (λ unlike. put_unchanged d r numeric before unlike);
    };
  }

  pub convert_step : (a d : ℕ) (t : CType) → a < code.registers → d < code.registers → before a ≡ numeric → Plain (before d) → Goes (instr.Convert t (register d) (register a)) (put d numeric before)
  unfolding successors targets frame_done StandsIn may_fault reads writes empties gives_whole gives_object takes IsShaped needs owning_writes makes hands_on derives
  convert_step a d t rooma room there plain = record {
    goes_on = record { next = λ pc fact. refl; no_target = refl; same = λ fact. refl };
    keeps = record {
      ordinary = record { no_plan = refl; no_copies = refl; no_arguments = λ other n a called given. cc; no_iteration = refl; no_ticket = refl; no_enter = refl; no_leave = refl; stands = tt };
      named = (rooma, (room, tt));
      shaped = tt;
      given = tt;
      asked = (is_number (before a) there, tt);
      kept = (plain_free (before d) plain, tt);
      taken = tt;
      written = tt;
      left = λ is r s may leaves. cc;
      loses = λ is r s may. safe r s may;
      faults = λ r s may. faults_as (before r) r s may;
      made = λ is. (put_there d before, tt);
      handed = λ is r s may. stays_as (before r) (put d numeric before) (d ∷ []) [] r s may (λ unlike. put_unchanged d r numeric before unlike);
    };
  }

  pub magnitude_step : (a d : ℕ) (t : CType) → t ≢ Bint → a < code.registers → d < code.registers → before a ≡ numeric → Plain (before d) → Goes (instr.Magnitude t (register d) (register a)) (put d numeric before)
  unfolding successors targets frame_done StandsIn may_fault reads writes empties gives_whole gives_object takes IsShaped needs owning_writes makes hands_on derives
  magnitude_step a d t other rooma room there plain = record {
    goes_on = record { next = λ pc fact. refl; no_target = refl; same = λ fact. refl };
    keeps = record {
      ordinary = record { no_plan = refl; no_copies = refl; no_arguments = λ other n a called given. cc; no_iteration = refl; no_ticket = refl; no_enter = refl; no_leave = refl; stands = tt };
      named = (rooma, (room, tt));
      shaped = other;
      given = tt;
      asked = (is_number (before a) there, tt);
      kept = (plain_free (before d) plain, tt);
      taken = tt;
      written = tt;
      left = λ is r s may leaves. cc;
      loses = λ is r s may. safe r s may;
      faults = λ r s may. faults_as (before r) r s may;
      made = λ is. (put_there d before, tt);
      handed = λ is r s may. stays_as (before r) (put d numeric before) (d ∷ []) [] r s may (λ unlike. put_unchanged d r numeric before unlike);
    };
  }

  pub binary_step : (a b d : ℕ) (op : BinOp) (t : CType) (truncates : Bool) → t ≢ Bint → a < code.registers → b < code.registers → d < code.registers → before a ≡ numeric → before b ≡ numeric → Plain (before d) → Goes (instr.Binary op t (register d) (register a) (register b) truncates) (put d numeric before)
  unfolding successors targets frame_done StandsIn may_fault reads writes empties gives_whole gives_object takes IsShaped needs owning_writes makes hands_on derives
  binary_step a b d op t truncates other rooma roomb room there there2 plain = record {
    goes_on = record { next = λ pc fact. refl; no_target = refl; same = λ fact. refl };
    keeps = record {
      ordinary = record { no_plan = refl; no_copies = refl; no_arguments = λ other n a called given. cc; no_iteration = refl; no_ticket = refl; no_enter = refl; no_leave = refl; stands = tt };
      named = (rooma, (roomb, (room, tt)));
      shaped = other;
      given = tt;
      asked = (is_number (before a) there, (is_number (before b) there2, tt));
      kept = (plain_free (before d) plain, tt);
      taken = tt;
      written = tt;
      left = λ is r s may leaves. cc;
      loses = λ is r s may. safe r s may;
      faults = λ r s may. faults_as (before r) r s may;
      made = λ is. (put_there d before, tt);
      handed = λ is r s may. stays_as (before r) (put d numeric before) (d ∷ []) [] r s may (λ unlike. put_unchanged d r numeric before unlike);
    };
  }

  pub compare_step : (a b d : ℕ) (op : CmpOp) (t : CType) → a < code.registers → b < code.registers → d < code.registers → before a ≡ numeric → before b ≡ numeric → Plain (before d) → Goes (instr.Compare op t (register d) (register a) (register b)) (put d numeric before)
  unfolding successors targets frame_done StandsIn may_fault reads writes empties gives_whole gives_object takes IsShaped needs owning_writes makes hands_on derives
  compare_step a b d op t rooma roomb room there there2 plain = record {
    goes_on = record { next = λ pc fact. refl; no_target = refl; same = λ fact. refl };
    keeps = record {
      ordinary = record { no_plan = refl; no_copies = refl; no_arguments = λ other n a called given. cc; no_iteration = refl; no_ticket = refl; no_enter = refl; no_leave = refl; stands = tt };
      named = (rooma, (roomb, (room, tt)));
      shaped = tt;
      given = tt;
      asked = (is_number (before a) there, (is_number (before b) there2, tt));
      kept = (plain_free (before d) plain, tt);
      taken = tt;
      written = tt;
      left = λ is r s may leaves. cc;
      loses = λ is r s may. safe r s may;
      faults = λ r s may. faults_as (before r) r s may;
      made = λ is. (put_there d before, tt);
      handed = λ is r s may. stays_as (before r) (put d numeric before) (d ∷ []) [] r s may (λ unlike. put_unchanged d r numeric before unlike);
    };
  }
