-- The code of expressions of C types follows them.
use Rattle.std.proofs.Common.{◌≡◌, ◌≢◌, ℕ, zero, suc, ◌+◌, ◌/◌, ◌<◌, ◌≤◌, max, List, [], ◌∷◌, ◌++◌, length, Option, Some, None, Bool, refl, sym, ap, ◌∙◌, subst, arith, length-append}
use Rattle.std.specs.Prelude.{ℤ, pos, unsigned_abs, IsFalse, IfOk, slice_get, slice_set, Result, Ok, Err}
use Rattle.std.proofs.lemmas.List.{get_or-set_same, get_or-set_other, length-set}
use Rattle.std.proofs.lemmas.Option.{slice_get_within}
use Rattle.px_base.specs.declared.c_types.CType.{CType}
use Rattle.px_base.specs.declared.c_types.CType.TheVariants.{Bint, SizeT}
use Rattle.px_base.specs.declared.c_types.BinOp.{BinOp}
use Rattle.px_base.specs.declared.c_types.UnOp.{UnOp}
use Rattle.px_base.specs.declared.c_types.CmpOp.{CmpOp}
use Rattle.px_base.specs.declared.faults.Fault.{Fault}
use Rattle.px_ctypes.specs.Types.{bits, IsInRange, IsValueOf}
use Rattle.px_ctypes.specs.Wrapping.{wrap}
use Rattle.px_ctypes.specs.Conversions.{converted}
use Rattle.px_ctypes.specs.Operators.{is_shift, binary_value, unary_value, compare_value}
use Rattle.px_ctypes.proofs.WrapLaws.{wrap-in_range}
use Rattle.px_ctypes.proofs.ResultLaws.{binary_in_range, unary_in_range, converted_value}
use Rattle.px_tree.specs.declared.typed_values.ValueType.{ValueType}
use Rattle.px_tree.specs.declared.typed_values.ValueType.TheVariants as type
use Rattle.px_tree.specs.declared.typed_values.Conversion.TheVariants as conversion
use Rattle.px_tree.specs.declared.typed_values.Comparing.TheVariants as comparing
use Rattle.px_tree.specs.declared.typed_heads.TypedHead.{TypedHead}
use Rattle.px_tree.specs.declared.typed_heads.TypedHead.TheVariants as head
use Rattle.px_tree.specs.TypedTypes.{type_of_head}
use Rattle.px_walk.specs.Roses.{Roses, rose, none, more}
use Rattle.px_typed_walk.specs.TypedView.{TypedRose, type_of}
use Rattle.px_model.specs.declared.stores.Store.{Store}
use Rattle.px_regcode.specs.declared.instructions.Instr.{Instr}
use Rattle.px_regcode.specs.declared.instructions.Instr.TheVariants as instr
use Rattle.px_meaning.specs.Values.{Value, number_in}
use Rattle.px_meaning.specs.Values as value
use Rattle.px_meaning.specs.States.{State, variable_at}
use Rattle.px_meaning.specs.Interactions.{Interaction, done, ◌>>=◌}
use Rattle.px_meaning.specs.Ends.{Ends, gives, on_whole, on_number, number_or_fault}
use Rattle.px_meaning.specs.Expressions.{Context, Scope, Evaluation, part, of_truth, value_there, steps_of, giving, eval_by, eval, evaluations}
use Rattle.px_exprgen.specs.ExpressionCode.{Emission, register, part_code, on_one, on_two, steps_code, code_by, expression_code, expression_codes, width_by, width, widths, widest}
use Rattle.px_machine.specs.Slots.{Slot, empty, whole, Member}
use Rattle.px_machine.specs.Steps.{Step, went}
use Rattle.px_machine.specs.Machine.{act, act_at, instruction_in, step, with_number, sets, sets_or_faults, moved, right_operand}
use Rattle.px_machine.specs.Follows.{Follows, arrives, goes}
use Rattle.px_code_laws.specs.Settings.{Setting, base, member_at, slot_in, Stands, IsDroppable, Agree, Kept, Valued, Faults, RunsOut, GivenIs, GivenThere}
use Rattle.px_code_laws.specs.Fine.{HasType, FineHead, FineParts, IsFine, AreFine, AreSteps, types_of}
use Rattle.px_code_laws.proofs.Followed.{Ending, value_by, weaker}
use Rattle.px_code_laws.proofs.Values.{converted_same, in_range, value_in_range, truth_value, size_value, right_same, operand_fits}

-- these instructions stand one behind another from a place on
abbrev pub HasAt : List Instr → ℕ → List Instr → Type 0
HasAt code pc [] = Unit {0}
HasAt code pc (x ∷ xs) = (slice_get code pc ≡ Some x) × HasAt code (pc + 1) xs

pub has_front : (code : List Instr) (pc : ℕ) (a b : List Instr) → HasAt code pc (a ++ b) → HasAt code pc a
has_front code pc [] b h = tt
has_front code pc (x ∷ a) b h = (h.0, has_front code (pc + 1) a b h.1)

pub has_back : (code : List Instr) (pc : ℕ) (a b : List Instr) → HasAt code pc (a ++ b) → HasAt code (pc + length a) b
has_back code pc [] b h = let e : pc ≡ pc + 0 = omega arith in subst (λ n. HasAt code n b) e h
has_back code pc (x ∷ a) b h =
    let e : pc + 1 + length a ≡ pc + length (x ∷ a) = omega arith in
    subst (λ n. HasAt code n b) e (has_back code (pc + 1) a b h.1)

pub kept_all : (d : ℕ) (r : List Slot) → Kept d r r
kept_all d r = record { size = refl; same = λ k less. refl }

pub lower : {d : ℕ} {r q s : List Slot} → Kept d r q → Kept (suc d) q s → Kept d r s
lower a b = record { size = b.size ∙ a.size; same = λ k less. b.same k (omega (arith, less)) ∙ a.same k less }

module _ (c : Setting) (context : Context) (is_code : slice_get c.image.codes c.function ≡ Some c.code) where
  abbrev pub here : ℕ → List Slot → State → Step
  here pc r s = went (member_at c pc r s.store s.turns)

  abbrev pub Leads : {A : Type 0} → (A → State → Step → Type 0) → Step → Interaction (Ends A) → Type 0
  Leads P step t = Follows c.image (Ending P (Faults c) (RunsOut c)) step t

  -- one instruction
  pub one : {A : Type 0} (Q : A → Step → Type 0) (pc : ℕ) (r : List Slot) (store : Option Store) (turns : ℕ) (i : Instr) (t : Interaction A) → slice_get c.code.instrs pc ≡ Some i
      → Follows c.image Q (act c.image i (member_at c pc r store turns)) t → Follows c.image Q (went (member_at c pc r store turns)) t
  unfolding step
  one Q pc r store turns i t has p =
      let m = member_at c pc r store turns in
      goes (subst (λ code. Follows c.image Q (act_at c.image (instruction_in code pc) m) t) (sym is_code)
      (subst (λ found. Follows c.image Q (act_at c.image found m) t) (sym has) p))

  -- a register behind those of the variables and objects changes nothing of what the others hold
  pub agrees_with : {s : State} {q : List Slot} (d : ℕ) (slot : Slot) → base c ≤ d → Agree c s q → Agree c s (slice_set q d slot)
  agrees_with {s} {q} d slot above a = record {
    size = length-set q d slot ∙ a.size;
    count = a.count;
    stand = λ k t has. subst (λ u. Stands t (variable_at s k) u)
        (sym (get_or-set_other q d k slot empty (λ e. omega (arith, e, above, slice_get_within c.locals k _ has)))) (a.stand k t has);
    clean = λ k less. subst IsDroppable (sym (get_or-set_other q d (length c.locals + k) slot empty (λ e. omega (arith, e, above, less)))) (a.clean k less);
    temporaries = a.temporaries;
    waiting = a.waiting;
    members = a.members;
    turns = a.turns;
    store = a.store;
  }

  pub kept_with : {d : ℕ} {r q : List Slot} (slot : Slot) → Kept d r q → Kept d r (slice_set q d slot)
  kept_with {d} {r} {q} slot k = record {
    size = length-set q d slot ∙ k.size;
    same = λ j less. get_or-set_other q d j slot empty (λ e. omega (arith, e, less)) ∙ k.same j less;
  }

  -- a number is written to d
  pub wrote : (t : CType) (pc after d : ℕ) (r q : List Slot) (s : State) (n : ℤ) → IsValueOf t n → base c ≤ d → d < c.code.registers → pc + 1 ≡ after → Agree c s q → Kept d r q
      → Valued c t after d r (value.whole n) s (here (pc + 1) (slice_set q d (whole n)) s)
  wrote t pc after d r q s n v above room end a k = record {
    number = n;
    is_number = refl;
    is_value = v;
    after = slice_set q d (whole n);
    agree = agrees_with d (whole n) above a;
    kept = kept_with (whole n) k;
    there = get_or-set_same q d (whole n) empty (omega (arith, room, a.size));
    goes_on = ap (λ p. here p (slice_set q d (whole n)) s) end;
  }

  pub number_by : {B : Type 0} {Q : B → State → Step → Type 0} {t : CType} {pc d : ℕ} {r : List Slot} {at : Step} {run : Interaction (Ends Value)} (go : ℤ → State → Interaction (Ends B))
      → Leads (Valued c t pc d r) at run
      → ((n : ℤ) (q : List Slot) (u : State) → IsValueOf t n → Agree c u q → Kept d r q → slot_in q d ≡ whole n → Leads Q (here pc q u) (go n u))
      → Leads Q at (run >>= on_number go)
  number_by {Q = Q} go f after = value_by (on_whole go) f (λ v u s p.
      subst (λ w. Leads Q s (on_whole go w u)) (sym p.is_number)
      (subst (λ w. Leads Q w (go p.number u)) (sym p.goes_on) (after p.number p.after u p.is_value p.agree p.kept p.there)))

  -- the value at hand is for the first part
  abbrev pub given_at : Option CType → ℕ → Option CType
  given_at at_hand zero = at_hand
  given_at at_hand (suc k) = None

  -- the code of an expression leaves its value in d, and takes so many registers
  pub record Runs (at_hand : Option CType) (e : Evaluation) (code : Emission) (wide : ℕ) (t : CType) : Type 0 where
    pub run : (pc d : ℕ) (r : List Slot) (s : State) (scope : Scope) → HasAt c.code.instrs pc (code pc d) → base c ≤ d → d + wide ≤ c.code.registers → Agree c s r → GivenThere at_hand scope d r
        → Leads (Valued c t (pc + length (code pc d)) d r) (here pc r s) (e scope s)

  pub record PartRuns (at_hand : Option CType) (parts : Roses TypedHead) (k : ℕ) (t : CType) : Type 0 where
    pub wide : ℕ
    pub fits : k + wide ≤ widths parts
    pub runs : Runs (given_at at_hand k) (part (evaluations context parts) k) (part_code (expression_codes parts) k) wide t

  abbrev pub PartsRun : Option CType → Roses TypedHead → Type 0
  PartsRun at_hand parts = (k : ℕ) (t : CType) → HasType (types_of parts) k t → PartRuns at_hand parts k t

  type_there : {a : ValueType} {t : CType} → Some a ≡ Some (type.C t) → a ≡ type.C t
  type_there e = cc

  same_type : {t u : CType} → type.C t ≡ type.C u → t ≡ u
  same_type e = cc

  runs_as : {at_hand : Option CType} {e : Evaluation} {code : Emission} {wide : ℕ} {t u : CType} → t ≡ u → Runs at_hand e code wide t → Runs at_hand e code wide u
  runs_as {at_hand} {e} {code} {wide} same r = subst (λ v. Runs at_hand e code wide v) same r

  -- ---- heads

  constant_runs : (at_hand : Option CType) (t : CType) (n : ℤ) (wide : ℕ) → IsValueOf t n → Runs at_hand (λ scope s. done (gives (value.whole n) s)) (λ pc d. instr.Const (register d) n ∷ []) (max 1 wide) t
  unfolding act
  constant_runs at_hand t n wide v = record {
    run = λ pc d r s scope has above room a given.
        one _ pc r s.store s.turns (instr.Const (register d) n) _ has.0
        (arrives (wrote t pc (pc + 1) d r r s n v above (omega (arith, room)) refl a (kept_all d r)));
  }

  local_runs : (at_hand : Option CType) (slot : ℕ) (t : CType) (wide : ℕ) → slice_get c.locals slot ≡ Some (type.C t)
      → Runs at_hand (λ scope s. done (gives (value.whole (number_in (variable_at s slot))) s)) (λ pc d. instr.Move (register d) (register slot) ∷ []) (max 1 wide) t
  unfolding act
  local_runs at_hand slot t wide has_local = record {
    run = λ pc d r s scope has above room a given.
        let stands = a.stand slot t has_local in
        let n = number_in (variable_at s slot) in
        one _ pc r s.store s.turns (instr.Move (register d) (register slot)) _ has.0
        (subst (λ u. Leads (Valued c t (pc + 1) d r) (moved (register d) (register slot) u (member_at c pc r s.store s.turns)) (done (gives (value.whole n) s))) (sym stands.is_slot)
        (arrives (wrote t pc (pc + 1) d r r s n stands.is_value above (omega (arith, room)) refl a (kept_all d r))));
  }

  -- an operator on one value
  unary_runs : {at_hand : Option CType} {parts : Roses TypedHead} {t u : CType} (make : ℕ → Instr) (f : ℤ → ℤ) → PartRuns at_hand parts 0 t
      → ((d : ℕ) (m : Member) (x : ℤ) → IsValueOf t x → slot_in m.frame.registers d ≡ whole x → act c.image (make d) m ≡ sets (register d) (whole (f x)) m)
      → ((x : ℤ) → IsValueOf u (f x))
      → Runs at_hand (λ scope s. part (evaluations context parts) 0 scope s >>= on_number (λ x s1. done (gives (value.whole (f x)) s1))) (on_one make (expression_codes parts)) (max 1 (widths parts)) u
  unary_runs {at_hand} {parts} {t} {u} make f p acts fits = record {
    run = λ pc d r s scope has above room a given.
        let code = part_code (expression_codes parts) 0 pc d in
        let end : pc + length code + 1 ≡ pc + length (code ++ make d ∷ []) = omega (arith, length-append code (make d ∷ [])) in
        number_by (λ x s1. done (gives (value.whole (f x)) s1))
        (p.runs.run pc d r s scope (has_front _ pc code _ has) above (omega (arith, room, p.fits)) a given)
        (λ x q s1 v b k there.
        one _ (pc + length code) q s1.store s1.turns (make d) _ (has_back _ pc code _ has).0
        (subst (λ at. Leads (Valued c u (pc + length (code ++ make d ∷ [])) d r) at (done (gives (value.whole (f x)) s1))) (sym (acts d (member_at c (pc + length code) q s1.store s1.turns) x v there))
        (arrives (wrote u (pc + length code) _ d r q s1 (f x) (fits x) above (omega (arith, room)) end b k))));
  }

  -- the number of an operator, or its fault
  result_by : (u : CType) (pc after d : ℕ) (r q : List Slot) (s : State) (result : Result ℤ Fault) → IfOk result (λ n. IsValueOf u n) → base c ≤ d → d < c.code.registers → pc + 1 ≡ after
      → Agree c s q → Kept d r q
      → Leads (Valued c u after d r) (sets_or_faults (register d) result (member_at c pc q s.store s.turns)) (done (number_or_fault result s))
  result_by u pc after d r q s (Ok n) v above room end a k = arrives (wrote u pc after d r q s n v above room end a k)
  result_by u pc after d r q s (Err f) v above room end a k = arrives (record { pc = pc; after = q; agree = a; fails = refl })

  -- an operator on two values
  binary_runs : {at_hand : Option CType} {parts : Roses TypedHead} {t t2 u : CType} (make : ℕ → Instr) (f : ℤ → ℤ → Result ℤ Fault) → PartRuns at_hand parts 0 t → PartRuns at_hand parts 1 t2
      → ((d : ℕ) (m : Member) (x y : ℤ) → IsValueOf t x → IsValueOf t2 y → slot_in m.frame.registers d ≡ whole x → slot_in m.frame.registers (suc d) ≡ whole y
      → act c.image (make d) m ≡ sets_or_faults (register d) (f x y) m)
      → ((x y : ℤ) → IsValueOf t x → IsValueOf t2 y → IfOk (f x y) (λ n. IsValueOf u n))
      → Runs at_hand (λ scope s. part (evaluations context parts) 0 scope s >>= on_number (λ x s1. part (evaluations context parts) 1 scope s1 >>= on_number (λ y s2. done (number_or_fault (f x y) s2))))
      (on_two make (expression_codes parts)) (max 1 (widths parts)) u
  binary_runs {at_hand} {parts} {t} {t2} {u} make f p p2 acts fits = record {
    run = λ pc d r s scope has above room a given.
        let codes = expression_codes parts in
        let left = part_code codes 0 pc d in
        let right = part_code codes 1 (pc + length left) (suc d) in
        let after = pc + length (left ++ (right ++ make d ∷ [])) in
        let end : pc + length left + length right + 1 ≡ after =
        omega (arith, length-append left (right ++ make d ∷ []), length-append right (make d ∷ [])) in
        let behind = has_back _ pc left _ has in
        number_by (λ x s1. part (evaluations context parts) 1 scope s1 >>= on_number (λ y s2. done (number_or_fault (f x y) s2)))
        (p.runs.run pc d r s scope (has_front _ pc left _ has) above (omega (arith, room, p.fits)) a given)
        (λ x q s1 v b k there.
        number_by (λ y s2. done (number_or_fault (f x y) s2))
        (p2.runs.run (pc + length left) (suc d) q s1 scope (has_front _ _ right _ behind) (omega (arith, above)) (omega (arith, room, p2.fits)) b tt)
        (λ y q2 s2 v2 b2 k2 there2.
        let pc2 = pc + length left + length right in
        let m = member_at c pc2 q2 s2.store s2.turns in
        one _ pc2 q2 s2.store s2.turns (make d) _ (has_back _ _ right _ behind).0
        (subst (λ at. Leads (Valued c u after d r) at (done (number_or_fault (f x y) s2))) (sym (acts d m x y v v2 (k2.same d (omega arith) ∙ there) there2))
        (result_by u pc2 after d r q2 s2 (f x y) (fits x y v v2) above (omega (arith, room)) end b2 (lower k k2)))));
  }

  cast_runs : {at_hand : Option CType} {parts : Roses TypedHead} {t : CType} → PartRuns at_hand parts 0 t
      → Runs at_hand (part (evaluations context parts) 0) (part_code (expression_codes parts) 0) (max 1 (widths parts)) t
  cast_runs {at_hand} {parts} p = record { run = λ pc d r s scope has above room a given. p.runs.run pc d r s scope has above (omega (arith, room, p.fits)) a given }

  -- the value at hand stands in d
  given_runs : (t : CType) (wide : ℕ) → Runs (Some t) (λ scope s. done (value_there scope.given s)) (λ pc d. []) (max 1 wide) t
  given_runs t wide = record {
    run = λ pc d r s scope has above room a given.
        subst (λ o. Leads (Valued c t (pc + 0) d r) (here pc r s) (done (value_there o s))) (sym given.is_given)
        (arrives (record {
          number = given.number;
          is_number = refl;
          is_value = given.is_value;
          after = r;
          agree = a;
          kept = kept_all d r;
          there = given.there;
          goes_on = ap (λ p. here p r s) (let e : pc ≡ pc + 0 = omega arith in e);
        }));
  }

  none_at : {e : Evaluation} {code : Emission} {wide : ℕ} {t : CType} (k : ℕ) → Runs (given_at None k) e code wide t → Runs None e code wide t
  none_at zero r = r
  none_at (suc k) r = r

  -- a value that stands there with lower registers as they were is such a one too for registers before
  kept_through : {t : CType} {pc d : ℕ} {r q : List Slot} {at : Step} {run : Interaction (Ends Value)} → Kept d r q → Leads (Valued c t pc d q) at run → Leads (Valued c t pc d r) at run
  kept_through k f = weaker (λ v s step p. record {
    number = p.number;
    is_number = p.is_number;
    is_value = p.is_value;
    after = p.after;
    agree = p.agree;
    kept = record { size = p.kept.size ∙ k.size; same = λ j less. p.kept.same j less ∙ k.same j less };
    there = p.there;
    goes_on = p.goes_on;
  }) f

  at_hand_as : {at_hand other : Option CType} {e : Evaluation} {code : Emission} {wide : ℕ} {t : CType} → other ≡ at_hand → Runs at_hand e code wide t → Runs other e code wide t
  at_hand_as {e = e} {code = code} {wide = wide} {t = t} same r = subst (λ g. Runs g e code wide t) (sym same) r

  -- ---- what the instructions of operators do with numbers of their types

  number_there : (m : Member) (d : ℕ) (x : ℤ) (go : ℤ → Step) → slot_in m.frame.registers d ≡ whole x → with_number (slot_in m.frame.registers d) go ≡ go x
  number_there m d x go there = ap (λ u. with_number u go) there

  acts_convert : (t : CType) (d : ℕ) (m : Member) (x : ℤ) → slot_in m.frame.registers d ≡ whole x
      → act c.image (instr.Convert t (register d) (register d)) m ≡ sets (register d) (whole (converted t x)) m
  unfolding act
  acts_convert t d m x there = number_there m d x (λ n. sets (register d) (whole (converted t n)) m) there

  acts_unary : (op : UnOp) (t : CType) (d : ℕ) (m : Member) (x : ℤ) → IsValueOf t x → slot_in m.frame.registers d ≡ whole x
      → act c.image (instr.Unary op t (register d) (register d)) m ≡ sets (register d) (whole (unary_value op t x)) m
  unfolding act
  acts_unary op t d m x v there =
      number_there m d x (λ n. sets (register d) (whole (unary_value op t (converted t n))) m) there
      ∙ ap (λ n. sets (register d) (whole (unary_value op t n)) m) (converted_same t x v)

  acts_abs : (t : CType) (d : ℕ) (m : Member) (x : ℤ) → IsValueOf t x → slot_in m.frame.registers d ≡ whole x
      → act c.image (instr.Magnitude t (register d) (register d)) m ≡ sets (register d) (whole (wrap t (pos (unsigned_abs x)))) m
  unfolding act
  acts_abs t d m x v there =
      number_there m d x (λ n. sets (register d) (whole (wrap t (pos (unsigned_abs (converted t n))))) m) there
      ∙ ap (λ n. sets (register d) (whole (wrap t (pos (unsigned_abs n)))) m) (converted_same t x v)

  acts_binary : (op : BinOp) (t t2 : CType) (truncates : Bool) (d : ℕ) (m : Member) (x y : ℤ) → IsValueOf t x → IsValueOf t2 y → (IsFalse (is_shift op) → t2 ≡ t)
      → slot_in m.frame.registers d ≡ whole x → slot_in m.frame.registers (suc d) ≡ whole y
      → act c.image (instr.Binary op t (register d) (register d) (register (suc d)) truncates) m ≡ sets_or_faults (register d) (binary_value op t x y truncates) m
  unfolding act
  acts_binary op t t2 truncates d m x y v v2 plain there there2 =
      number_there m d x (λ n. with_number (slot_in m.frame.registers (suc d)) (λ k. sets_or_faults (register d) (binary_value op t (converted t n) (right_operand op t k) truncates) m)) there
      ∙ number_there m (suc d) y (λ k. sets_or_faults (register d) (binary_value op t (converted t x) (right_operand op t k) truncates) m) there2
      ∙ ap (λ n. sets_or_faults (register d) (binary_value op t n (right_operand op t y) truncates) m) (converted_same t x v)
      ∙ ap (λ k. sets_or_faults (register d) (binary_value op t x k truncates) m) (right_same op t t2 y plain v2)

  acts_compare : (op : CmpOp) (t : CType) (d : ℕ) (m : Member) (x y : ℤ) → IsValueOf t x → IsValueOf t y
      → slot_in m.frame.registers d ≡ whole x → slot_in m.frame.registers (suc d) ≡ whole y
      → act c.image (instr.Compare op t (register d) (register d) (register (suc d))) m ≡ sets_or_faults (register d) (Ok (of_truth (compare_value op x y))) m
  unfolding act
  acts_compare op t d m x y v v2 there there2 =
      number_there m d x (λ n. with_number (slot_in m.frame.registers (suc d)) (λ k. sets (register d) (whole (of_truth (compare_value op (converted t n) (converted t k)))) m)) there
      ∙ number_there m (suc d) y (λ k. sets (register d) (whole (of_truth (compare_value op (converted t x) (converted t k)))) m) there2
      ∙ ap (λ n. sets (register d) (whole (of_truth (compare_value op n (converted t y)))) m) (converted_same t x v)
      ∙ ap (λ k. sets (register d) (whole (of_truth (compare_value op x k))) m) (converted_same t y v2)

  ok_value : (op : BinOp) (t t2 : CType) (x y : ℤ) (truncates : Bool) (result : Result ℤ Fault) → t ≢ Bint → IfOk result (λ n. IsInRange t n) → IfOk result (λ n. IsValueOf t n)
  ok_value op t t2 x y truncates (Ok n) other v = value_in_range t n other v
  ok_value op t t2 x y truncates (Err f) other v = tt

  -- ---- by the head

  by_head : (h : TypedHead) (at_hand : Option CType) (parts : Roses TypedHead) → (AreFine c.locals at_hand parts → PartsRun at_hand parts)
      → ((t : CType) → AreSteps c.locals at_hand t parts → Runs at_hand (steps_of (evaluations context parts)) (steps_code (expression_codes parts)) (max 1 (widest parts)) t)
      → (u : CType) → FineHead c.locals at_hand h (types_of parts) → FineParts h (AreFine c.locals at_hand parts) (λ t. AreSteps c.locals at_hand t parts) → type_of_head h ≡ type.C u
      → Runs at_hand (eval_by context h (evaluations context parts)) (code_by h (expression_codes parts)) (width_by h (widths parts) (widest parts)) u
  unfolding eval_by code_by
  by_head (head.Literal t n) at_hand parts plain steps u fine p same = runs_as (same_type same) (constant_runs at_hand t n (widths parts) fine)
  by_head (head.Sizeof t) at_hand parts plain steps u fine p same = runs_as (same_type same) (constant_runs at_hand SizeT (pos (bits t / 8)) (widths parts) (size_value t))
  by_head (head.Local slot (type.C t)) at_hand parts plain steps u fine p same = runs_as (same_type same) (local_runs at_hand slot t (widths parts) fine)
  by_head (head.Local slot type.Object) at_hand parts plain steps u fine p same = absurd fine
  by_head (head.Local slot (type.View t)) at_hand parts plain steps u fine p same = absurd fine
  by_head (head.Local slot type.Void) at_hand parts plain steps u fine p same = absurd fine
  by_head (head.Converted (conversion.ToC t)) at_hand parts plain steps u fine p same = runs_as (same_type same)
      (unary_runs (λ d. instr.Convert t (register d) (register d)) (converted t) (plain p 0 fine.given fine.has) (λ d m x v there. acts_convert t d m x there) (λ x. converted_value t x))
  by_head (head.Converted (conversion.ToObject t)) at_hand parts plain steps u fine p same = absurd fine
  by_head (head.Converted (conversion.FromObject t)) at_hand parts plain steps u fine p same = absurd fine
  by_head (head.Converted conversion.Truth) at_hand parts plain steps u fine p same = absurd fine
  by_head (head.Converted (conversion.ViewOfObject t)) at_hand parts plain steps u fine p same = absurd fine
  by_head (head.Converted (conversion.ViewOfView t)) at_hand parts plain steps u fine p same = absurd fine
  by_head (head.Cast (type.C t)) at_hand parts plain steps u fine p same = runs_as (same_type same) (cast_runs (plain p 0 t fine))
  by_head (head.Cast type.Object) at_hand parts plain steps u fine p same = absurd fine
  by_head (head.Cast (type.View t)) at_hand parts plain steps u fine p same = absurd fine
  by_head (head.Cast type.Void) at_hand parts plain steps u fine p same = absurd fine
  by_head (head.Unary op t) at_hand parts plain steps u fine p same = runs_as (same_type same)
      (unary_runs (λ d. instr.Unary op t (register d) (register d)) (unary_value op t) (plain p 0 t fine.1) (acts_unary op t) (λ x. value_in_range t _ fine.0 (unary_in_range op t x)))
  by_head (head.Binary op t truncates) at_hand parts plain steps u fine p same = runs_as (same_type same)
      (binary_runs (λ d. instr.Binary op t (register d) (register d) (register (suc d)) truncates) (λ x y. binary_value op t x y truncates)
      (plain p 0 t fine.1.0) (plain p 1 fine.1.1.given fine.1.1.has)
      (λ d m x y v v2 there there2. acts_binary op t fine.1.1.given truncates d m x y v v2 fine.1.1.same there there2)
      (λ x y v v2. ok_value op t fine.1.1.given x y truncates (binary_value op t x y truncates) fine.0
      (binary_in_range op t x y truncates (in_range t x fine.0 v) (operand_fits op t fine.1.1.given y fine.0 fine.1.1.same v2))))
  by_head (head.Compare (comparing.C op t)) at_hand parts plain steps u fine p same = runs_as (same_type same)
      (binary_runs (λ d. instr.Compare op t (register d) (register d) (register (suc d))) (λ x y. Ok (of_truth (compare_value op x y)))
      (plain p 0 t fine.0) (plain p 1 t fine.1) (acts_compare op t) (λ x y v v2. truth_value (compare_value op x y)))
  by_head (head.Compare (comparing.Objects op)) at_hand parts plain steps u fine p same = absurd fine
  by_head (head.Compare comparing.In) at_hand parts plain steps u fine p same = absurd fine
  by_head (head.Compare comparing.NotIn) at_hand parts plain steps u fine p same = absurd fine
  by_head (head.Compare comparing.Is) at_hand parts plain steps u fine p same = absurd fine
  by_head (head.Compare comparing.IsNot) at_hand parts plain steps u fine p same = absurd fine
  by_head (head.Abs t) at_hand parts plain steps u fine p same = runs_as (same_type same)
      (unary_runs (λ d. instr.Magnitude t (register d) (register d)) (λ x. wrap t (pos (unsigned_abs x))) (plain p 0 t fine.1) (acts_abs t)
      (λ x. value_in_range t _ fine.0 (wrap-in_range t (pos (unsigned_abs x)))))
  by_head (head.Constant k) at_hand parts plain steps u fine p same = absurd fine
  by_head (head.ModuleName name) at_hand parts plain steps u fine p same = absurd fine
  by_head (head.Given (type.C t)) at_hand parts plain steps u fine p same = at_hand_as fine (runs_as (same_type same) (given_runs t (widths parts)))
  by_head (head.Given type.Object) at_hand parts plain steps u fine p same = absurd fine
  by_head (head.Given (type.View t)) at_hand parts plain steps u fine p same = absurd fine
  by_head (head.Given type.Void) at_hand parts plain steps u fine p same = absurd fine
  by_head (head.Kept t) at_hand parts plain steps u fine p same = absurd fine
  by_head (head.Steps (type.C t)) at_hand parts plain steps u fine p same = runs_as (same_type same) (steps t p)
  by_head (head.Steps type.Object) at_hand parts plain steps u fine p same = absurd fine
  by_head (head.Steps (type.View t)) at_hand parts plain steps u fine p same = absurd fine
  by_head (head.Steps type.Void) at_hand parts plain steps u fine p same = absurd fine
  by_head head.Comparisons at_hand parts plain steps u fine p same = absurd fine
  by_head head.Not at_hand parts plain steps u fine p same = absurd fine
  by_head (head.And t) at_hand parts plain steps u fine p same = absurd fine
  by_head (head.Or t) at_hand parts plain steps u fine p same = absurd fine
  by_head (head.Conditional t) at_hand parts plain steps u fine p same = absurd fine
  by_head (head.Call function t) at_hand parts plain steps u fine p same = absurd fine
  by_head (head.Min t) at_hand parts plain steps u fine p same = absurd fine
  by_head (head.Max t) at_hand parts plain steps u fine p same = absurd fine
  by_head head.ThreadId at_hand parts plain steps u fine p same = absurd fine
  by_head (head.ObjectUnary op) at_hand parts plain steps u fine p same = absurd fine
  by_head (head.ObjectBinary op) at_hand parts plain steps u fine p same = absurd fine
  by_head head.Tuple at_hand parts plain steps u fine p same = absurd fine
  by_head head.List at_hand parts plain steps u fine p same = absurd fine
  by_head head.Dict at_hand parts plain steps u fine p same = absurd fine
  by_head head.Item at_hand parts plain steps u fine p same = absurd fine
  by_head (head.Part has_from has_to has_step) at_hand parts plain steps u fine p same = absurd fine
  by_head (head.Method method) at_hand parts plain steps u fine p same = absurd fine
  by_head (head.Builtin what) at_hand parts plain steps u fine p same = absurd fine
  by_head (head.Element t wraparound) at_hand parts plain steps u fine p same = absurd fine
  by_head (head.ViewPart t wraparound) at_hand parts plain steps u fine p same = absurd fine
  by_head head.Index at_hand parts plain steps u fine p same = absurd fine
  by_head (head.Slice has_from has_to has_step) at_hand parts plain steps u fine p same = absurd fine
  by_head head.NewAxis at_hand parts plain steps u fine p same = absurd fine
  by_head head.Ellipsis at_hand parts plain steps u fine p same = absurd fine
  by_head (head.Transposed t) at_hand parts plain steps u fine p same = absurd fine
  by_head (head.Copied t) at_hand parts plain steps u fine p same = absurd fine
  by_head head.Length at_hand parts plain steps u fine p same = absurd fine
  by_head (head.Extent axis) at_hand parts plain steps u fine p same = absurd fine
  by_head head.Array at_hand parts plain steps u fine p same = absurd fine
  by_head (head.Keyword keyword) at_hand parts plain steps u fine p same = absurd fine
  by_head head.Expression at_hand parts plain steps u fine p same = absurd fine
  by_head head.Assign at_hand parts plain steps u fine p same = absurd fine
  by_head head.AssignEach at_hand parts plain steps u fine p same = absurd fine
  by_head head.Unpack at_hand parts plain steps u fine p same = absurd fine
  by_head (head.Augment op) at_hand parts plain steps u fine p same = absurd fine
  by_head head.Declare at_hand parts plain steps u fine p same = absurd fine
  by_head (head.Declarator slot t) at_hand parts plain steps u fine p same = absurd fine
  by_head head.Pass at_hand parts plain steps u fine p same = absurd fine
  by_head head.Break at_hand parts plain steps u fine p same = absurd fine
  by_head head.Continue at_hand parts plain steps u fine p same = absurd fine
  by_head head.Return at_hand parts plain steps u fine p same = absurd fine
  by_head (head.Raise kind) at_hand parts plain steps u fine p same = absurd fine
  by_head head.Reraise at_hand parts plain steps u fine p same = absurd fine
  by_head (head.Try clauses has_else has_finally) at_hand parts plain steps u fine p same = absurd fine
  by_head head.Block at_hand parts plain steps u fine p same = absurd fine
  by_head (head.Handler kinds assigns) at_hand parts plain steps u fine p same = absurd fine
  by_head (head.Catches kind) at_hand parts plain steps u fine p same = absurd fine
  by_head head.CatchesAll at_hand parts plain steps u fine p same = absurd fine
  by_head head.Global at_hand parts plain steps u fine p same = absurd fine
  by_head (head.If arms has_else) at_hand parts plain steps u fine p same = absurd fine
  by_head head.Arm at_hand parts plain steps u fine p same = absurd fine
  by_head head.While at_hand parts plain steps u fine p same = absurd fine
  by_head (head.Range arguments) at_hand parts plain steps u fine p same = absurd fine
  by_head head.Over at_hand parts plain steps u fine p same = absurd fine
  by_head (head.Parallel arguments nogil schedule) at_hand parts plain steps u fine p same = absurd fine
  by_head head.ChunkSize at_hand parts plain steps u fine p same = absurd fine
  by_head head.TeamSize at_hand parts plain steps u fine p same = absurd fine
  by_head head.WithGil at_hand parts plain steps u fine p same = absurd fine
  by_head head.WithNogil at_hand parts plain steps u fine p same = absurd fine
  by_head (head.ParallelBlock has_size) at_hand parts plain steps u fine p same = absurd fine

  mutual
    unfolding eval expression_code

    pub expression_runs : (tree : TypedRose) (at_hand : Option CType) (t : CType) → IsFine c.locals at_hand tree → type_of tree ≡ type.C t
        → Runs at_hand (eval context tree) (expression_code tree) (width tree) t
    expression_runs (rose h number at parts) at_hand t fine same =
        by_head h at_hand parts (λ all k u has. part_runs parts at_hand all k u has) (λ u all. steps_run parts at_hand u all) t fine.0 fine.1 same

    pub part_runs : (parts : Roses TypedHead) (at_hand : Option CType) → AreFine c.locals at_hand parts → (k : ℕ) (t : CType) → HasType (types_of parts) k t → PartRuns at_hand parts k t
    part_runs none at_hand fine k t has = cc
    part_runs (more tree trees) at_hand fine zero t has =
        record { wide = width tree; fits = omega arith; runs = expression_runs tree at_hand t fine.0 (type_there has) }
    part_runs (more tree trees) at_hand fine (suc k) t has =
        let p = part_runs trees None fine.1 k t has in
        record { wide = p.wide; fits = omega (arith, p.fits); runs = none_at k p.runs }

    steps_run : (parts : Roses TypedHead) (at_hand : Option CType) (t : CType) → AreSteps c.locals at_hand t parts
        → Runs at_hand (steps_of (evaluations context parts)) (steps_code (expression_codes parts)) (max 1 (widest parts)) t
    steps_run none at_hand t fine = absurd fine
    steps_run (more tree none) at_hand t fine = record {
      run = λ pc d r s scope has above room a given.
          let code = expression_code tree pc d in
          let end : pc + length code ≡ pc + length (code ++ []) = omega (arith, length-append code []) in
          subst (λ n. Leads (Valued c t n d r) (here pc r s) (eval context tree scope s)) end
          ((expression_runs tree at_hand t fine.0 fine.1).run pc d r s scope (has_front _ pc code _ has) above (omega (arith, room)) a given);
    }
    steps_run (more tree (more other trees)) at_hand t fine = record {
      run = λ pc d r s scope has above room a given.
          let u = fine.0 in
          let code = expression_code tree pc d in
          let others = steps_code (expression_codes (more other trees)) (pc + length code) d in
          let end : pc + length code + length others ≡ pc + length (code ++ others) = omega (arith, length-append code others) in
          value_by (λ v s1. steps_of (evaluations context (more other trees)) (giving v scope) s1)
          ((expression_runs tree at_hand u fine.1.0.0 fine.1.0.1).run pc d r s scope (has_front _ pc code _ has) above (omega (arith, room)) a given)
          (λ v s1 step p.
          let next_given : GivenIs u (giving v scope) d p.after = record { number = p.number; is_given = ap (λ x. Some x) p.is_number; is_value = p.is_value; there = p.there } in
          subst (λ w. Leads (Valued c t (pc + length (code ++ others)) d r) w (steps_of (evaluations context (more other trees)) (giving v scope) s1)) (sym p.goes_on)
          (subst (λ n. Leads (Valued c t n d r) (here (pc + length code) p.after s1) (steps_of (evaluations context (more other trees)) (giving v scope) s1)) end
          (kept_through p.kept
          ((steps_run (more other trees) (Some u) t fine.1.1).run (pc + length code) d p.after s1 (giving v scope) (has_back _ pc code _ has) above (omega (arith, room)) p.agree next_given))));
    }
