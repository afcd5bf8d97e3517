-- The code of functions: their beginning, their statements and their end.
use Rattle.std.proofs.Common.{◌≡◌, ◌≢◌, ℕ, zero, suc, ◌+◌, ◌<◌, ◌≤◌, List, [], ◌∷◌, ◌++◌, length, Option, Some, None, true, refl, sym, ap, ◌∙◌, subst, arith, ⊎_elim}
use Rattle.std.specs.Prelude.{ℤ, pos, slice_get, slice_set, slice_index_or}
use Rattle.std.proofs.lemmas.Bool.{cases_eq}
use Rattle.std.proofs.lemmas.List.{get_or-set_same, get_or-set_other, length-set}
use Rattle.px_base.specs.declared.c_types.CType.{CType}
use Rattle.px_base.specs.declared.c_types.CType.TheVariants.{Bint, SizeT}
use Rattle.px_base.specs.declared.faults.Fault.{Fault}
use Rattle.px_ctypes.specs.Types.{IsValueOf}
use Rattle.px_tree.specs.declared.typed_values.ValueType.{ValueType}
use Rattle.px_tree.specs.declared.typed_values.ValueType.TheVariants as type
use Rattle.px_typed_walk.specs.TypedView.{TypedRose}
use Rattle.px_model.specs.declared.stores.Store.{Store}
use Rattle.px_model.specs.declared.stores.ObjectValue.TheVariants as object_value
use Rattle.px_regcode.specs.declared.instructions.Instr.{Instr}
use Rattle.px_regcode.specs.declared.instructions.Instr.TheVariants as instr
use Rattle.px_meaning.specs.Values.{Value, number_in}
use Rattle.px_meaning.specs.Values as value
use Rattle.px_meaning.specs.States.{State, holding}
use Rattle.px_meaning.specs.Interactions.{Interaction, done, ◌>>=◌}
use Rattle.px_meaning.specs.Ends.{Ends, gives, on_value, Flow, next, continues, breaks, returns}
use Rattle.px_meaning.specs.Objects.{new_object}
use Rattle.px_meaning.specs.Expressions.{Context}
use Rattle.px_meaning.specs.Statements.{in_turn, exec}
use Rattle.px_exprgen.specs.ExpressionCode.{register}
use Rattle.px_stmtgen.specs.declared.layouts.Layout.{Layout}
use Rattle.px_stmtgen.specs.Layouts.{ending_code}
use Rattle.px_stmtgen.specs.StatementCode.{in_turn_code, statement_code}
use Rattle.px_machine.specs.Slots.{Slot, empty, whole}
use Rattle.px_machine.specs.Steps.{Step, went}
use Rattle.px_machine.specs.Machine.{act, stepping, gets, given, slot_of_value}
use Rattle.px_machine.specs.Follows.{Follows, arrives}
use Rattle.px_machine.specs.Means.{HasStore}
use Rattle.px_code_laws.specs.Settings.{Setting, base, member_at, rest_with, slot_in, IsDroppable, Agree}
use Rattle.px_code_laws.specs.FineStatements.{Surrounding, FineEnd}
use Rattle.px_code_laws.proofs.Followed.{value_by}
use Rattle.px_code_laws.proofs.Expressions.{HasAt, has_front, has_back, Leads, here, one, agrees_with}
use Rattle.px_code_laws.proofs.Agreement.{IsObject, ResultFits, CallsRun, agrees_holding, agrees_dropped, stepping_by}
use Rattle.px_code_laws.proofs.Printing.{laid, around, boxed_by, EndsWithout, EndsWith, Flows}
use Rattle.std.specs.List.{flat_map}
use Rattle.std.specs.Prelude.{replicate, map}
use Rattle.std.proofs.lemmas.List.{length-replicate, take-replicate, get_or-replicate}
use Rattle.std.proofs.lemmas.Int.{ints}
use Rattle.px_base.specs.declared.c_types.CType.TheVariants.{SChar, UChar, Char, Short, UShort, Int, UInt, Long, ULong, LongLong, ULongLong, SsizeT}
use Rattle.px_ctypes.proofs.WrapLaws.{zero_in_range}
use Rattle.px_base.specs.declared.objects.Constant.TheVariants as constant
use Rattle.px_meaning.specs.Values.{Variable, buffers_of}
use Rattle.px_meaning.specs.States.{opening_variables, buffers_of_frame}
use Rattle.px_meaning.specs.Objects.{constant_object}
use Rattle.px_meaning.specs.Expressions.{outermost}
use Rattle.px_meaning.specs.Calls.{ending_value, returned_value, flow_value}
use Rattle.px_stmtgen.specs.FunctionCode.{zeros, body_code}
use Rattle.px_machine.specs.Machine.{returns as hands_back, returns_to, returns_slot, constant_at, unwound}
use Rattle.px_code_laws.specs.Settings.{IsNumber}
use Rattle.px_code_laws.specs.Compiled.{AllNumbers, AreCompiled, RoomFor}
use Rattle.px_code_laws.proofs.Followed.{then_steps}
use Rattle.px_code_laws.proofs.Statements.{AllDo, statement_runs, in_turn_runs}

-- ---- registers and variables at the beginning

pub zero_value : (t : CType) → IsValueOf t (pos 0)
zero_value SChar = zero_in_range SChar
zero_value UChar = zero_in_range UChar
zero_value Char = zero_in_range Char
zero_value Short = zero_in_range Short
zero_value UShort = zero_in_range UShort
zero_value Int = zero_in_range Int
zero_value UInt = zero_in_range UInt
zero_value Long = zero_in_range Long
zero_value ULong = zero_in_range ULong
zero_value LongLong = zero_in_range LongLong
zero_value ULongLong = zero_in_range ULongLong
zero_value SsizeT = zero_in_range SsizeT
zero_value SizeT = zero_in_range SizeT
zero_value Bint = (omega (arith, ints), omega (arith, ints))

pub has_shift : (x : Instr) (code is : List Instr) (pc : ℕ) → HasAt code pc is → HasAt (x ∷ code) (pc + 1) is
has_shift x code [] pc h = tt
has_shift x code (i ∷ is) pc h =
    (let e : suc pc ≡ pc + 1 = omega arith in subst (λ n. slice_get (x ∷ code) n ≡ Some i) e h.0, has_shift x code is (pc + 1) h.1)

pub has_self : (a b : List Instr) → HasAt (a ++ b) (length a) b
has_self [] [] = tt
has_self [] (x ∷ b) = (refl, has_shift x b b 0 (has_self [] b))
has_self (x ∷ a) b = subst (λ n. HasAt (x ∷ (a ++ b)) n b) (let e : length a + 1 ≡ suc (length a) = omega arith in e) (has_shift x (a ++ b) b (length a) (has_self a b))

-- registers of variables

pub record TypeAt (types : List ValueType) (k : ℕ) : Type 0 where
  pub given : CType
  pub there : slice_get types k ≡ Some (type.C given)

pub type_at : (types : List ValueType) → AllNumbers types → (k : ℕ) → k < length types → TypeAt types k
type_at [] all k less = absurd (omega (arith, less))
type_at (type.C t ∷ types) all zero less = record { given = t; there = refl }
type_at (type.C t ∷ types) all (suc k) less = let x = type_at types all k (omega (arith, less)) in record { given = x.given; there = x.there }
type_at (type.Object ∷ types) all k less = absurd all
type_at (type.View t ∷ types) all k less = absurd all
type_at (type.Void ∷ types) all k less = absurd all

no_buffers_in : (v : Variable) → IsNumber v → buffers_of v ≡ []
no_buffers_in None n = refl
no_buffers_in (Some (value.whole n)) is = refl
no_buffers_in (Some (value.object serial)) is = absurd is
no_buffers_in (Some (value.view v)) is = absurd is
no_buffers_in (Some value.nothing) is = absurd is

pub no_buffers : (variables : List Variable) → ((k : ℕ) → k < length variables → IsNumber (slice_index_or variables k None)) → flat_map buffers_of variables ≡ []
no_buffers [] all = refl
no_buffers (v ∷ variables) all =
    let front : buffers_of v ≡ [] = no_buffers_in v (all 0 (omega arith)) in
    ap (λ x. x ++ flat_map buffers_of variables) front ∙ no_buffers variables (λ k less. all (suc k) (omega (arith, less)))

-- variables of C types are 0 before they are assigned
pub zeros_run : {A : Type 0} (c : Setting) (context : Context) (is_code : slice_get c.image.codes c.function ≡ Some c.code) (Q : A → Step → Type 0) (count first pc : ℕ) (q : List Slot) (store : Option Store) (turns : ℕ) (t : Interaction A)
    → HasAt c.code.instrs pc (zeros first count) → first + count ≤ length q
    → ((after : List Slot) → length after ≡ length q → ((k : ℕ) → k < first → slot_in after k ≡ slot_in q k) → ((k : ℕ) → first ≤ k → k < first + count → slot_in after k ≡ whole (pos 0))
    → ((k : ℕ) → first + count ≤ k → slot_in after k ≡ slot_in q k) → Follows c.image Q (went (member_at c (pc + length (zeros first count)) after store turns)) t)
    → Follows c.image Q (went (member_at c pc q store turns)) t
unfolding act
zeros_run c context is_code Q zero first pc q store turns t has room proceed =
    let e : pc + 0 ≡ pc = omega arith in
    subst (λ n. Follows c.image Q (went (member_at c n q store turns)) t) e
    (proceed q refl (λ k less. refl) (λ k from less. absurd (omega (arith, from, less))) (λ k from. refl))
zeros_run c context is_code Q (suc count) first pc q store turns t has room proceed =
    let end : pc + 1 + length (zeros (suc first) count) ≡ pc + length (zeros first (suc count)) = omega arith in
    let q1 = slice_set q first (whole (pos 0)) in
    let long : length q1 ≡ length q = length-set q first (whole (pos 0)) in
    one c context is_code Q pc q store turns (instr.Const (register first) (pos 0)) t has.0
    (zeros_run c context is_code Q count (suc first) (pc + 1) q1 store turns t has.1 (omega (arith, room, long)) (λ after size low mid high.
    subst (λ n. Follows c.image Q (went (member_at c n after store turns)) t) (sym end)
    (proceed after (size ∙ long)
    (λ k less. low k (omega (arith, less)) ∙ get_or-set_other q first k (whole (pos 0)) empty (λ e. omega (arith, e, less)))
    (λ k from less. ⊎_elim
    (λ (e : k ≡ first). ap (slot_in after) e ∙ low first (omega arith) ∙ get_or-set_same q first (whole (pos 0)) empty (omega (arith, room)))
    (λ (d : k ≢ first). mid k (omega (arith, from, d)) (omega (arith, less)))
    (cases_eq k first))
    (λ k from. high k (omega (arith, from)) ∙ get_or-set_other q first k (whole (pos 0)) empty (λ e. omega (arith, e, from))))))

-- ---- what the opening of a frame gives

module _ (n : ℕ) where
  opening_is : opening_variables n [] ≡ replicate n None
  opening_is = take-replicate n n None (omega arith)

  pub opening_length : length (opening_variables n []) ≡ n
  opening_length = ap length opening_is ∙ length-replicate n None

  pub opening_none : (k : ℕ) → k < n → slice_index_or (opening_variables n []) k None ≡ None
  opening_none k less = ap (λ vs. slice_index_or vs k None) opening_is ∙ get_or-replicate n k None None less

-- the end of a frame, as those who wait for it see it

pub record Left (c : Setting) (g : ValueType) (v : Value) (s : State) (step : Step) : Type 0 where
  pub fits : ResultFits g v
  pub free : buffers_of_frame s.frame ≡ []
  pub waiting : s.callers ≡ c.waiting
  pub members : s.members ≡ c.members
  pub turns : s.turns ≤ c.bound
  pub store : c.locked ≡ true → HasStore s.store
  pub goes_on : step ≡ returns_to (slot_of_value v) c.result c.callers (rest_with c s.store s.turns)

pub record Broke (c : Setting) (f : Fault) (s : State) (step : Step) : Type 0 where
  pub free : buffers_of_frame s.frame ≡ []
  pub waiting : s.callers ≡ c.waiting
  pub members : s.members ≡ c.members
  pub turns : s.turns ≤ c.bound
  pub store : c.locked ≡ true → HasStore s.store
  pub goes_on : step ≡ unwound f c.callers (rest_with c s.store s.turns)

-- a frame of numbers holds no buffer
pub free_frame : (c : Setting) (s : State) (q : List Slot) → AllNumbers c.locals → Agree c s q → buffers_of_frame s.frame ≡ []
free_frame c s q numbers agree =
    ap (λ x. x ++ flat_map buffers_of s.frame.variables) agree.temporaries
    ∙ no_buffers s.frame.variables (λ k less. let x = type_at c.locals numbers k (omega (arith, less, agree.count)) in (agree.stand k x.given x.there).is_number)

module _ (c : Setting) (context : Context) (gives_type : ValueType) (none_at : ℕ) (callees : List (Option ValueType))
    (is_code : slice_get c.image.codes c.function ≡ Some c.code) (room roomy : base c ≤ c.code.registers)
    (same_constants : c.image.constants ≡ context.constants) (numbers : AllNumbers c.locals) where
  abbrev laid3 : Layout
  laid3 = laid c context gives_type none_at callees is_code room

  abbrev around3 : Surrounding
  around3 = around c context gives_type none_at callees is_code room

  abbrev Goes : {A : Type 0} → (A → State → Step → Type 0) → Step → Interaction (Ends A) → Type 0
  Goes P step t = Leads c context is_code P step t

  left_with : (v : Value) (pc : ℕ) (q : List Slot) (s : State) → ResultFits gives_type v → Agree c s q
      → Left c gives_type v s (hands_back (slot_of_value v) (member_at c pc q s.store s.turns))
  left_with v pc q s fits agree = record {
    fits = fits;
    free = free_frame c s q numbers agree;
    waiting = agree.waiting;
    members = agree.members;
    turns = agree.turns;
    store = agree.store;
    goes_on = refl;
  }

  return_number : (given : CType) (n : ℤ) (pc : ℕ) (q : List Slot) (s : State) → gives_type ≡ type.C given → IsValueOf given n → slot_in q (base c) ≡ whole n
      → HasAt c.code.instrs pc (instr.Return (register (base c)) ∷ []) → Agree c s q → Goes (Left c gives_type) (here c context is_code pc q s) (done (gives (value.whole n) s))
  unfolding act
  return_number given n pc q s typed in_type there has agree =
      one c context is_code _ pc q s.store s.turns (instr.Return (register (base c))) _ has.0
      (subst (λ u. Goes (Left c gives_type) (returns_slot u (member_at c pc q s.store s.turns)) (done (gives (value.whole n) s))) (sym there)
      (arrives (left_with (value.whole n) pc q s (subst (λ g. ResultFits g (value.whole n)) (sym typed) (record { number = n; is = refl; in_type = in_type })) agree)))

  record MadeNone (pc : ℕ) (v : Value) (s : State) (step : Step) : Type 0 where
    object : IsObject v
    after : List Slot
    agree : Agree c s after
    there : slot_in after (length c.locals) ≡ slot_of_value v
    goes_on : step ≡ here c context is_code pc after s

  return_object : (v : Value) (pc : ℕ) (q : List Slot) (s : State) → gives_type ≡ type.Object → IsObject v → slot_in q (length c.locals) ≡ slot_of_value v
      → HasAt c.code.instrs pc (instr.Return (register (length c.locals)) ∷ []) → Agree c s q → Goes (Left c gives_type) (here c context is_code pc q s) (done (gives v s))
  unfolding act
  return_object v pc q s typed made there has agree =
      one c context is_code _ pc q s.store s.turns (instr.Return (register (length c.locals))) _ has.0
      (subst (λ u. Goes (Left c gives_type) (returns_slot u (member_at c pc q s.store s.turns)) (done (gives v s))) (sym there)
      (subst (λ w. Goes (Left c gives_type) (returns_slot (slot_of_value w) (member_at c pc q s.store s.turns)) (done (gives w s))) (sym made.is)
      (arrives (left_with (value.object made.serial) pc q s (subst (λ g. ResultFits g (value.object made.serial)) (sym typed) (record { serial = made.serial; is = refl })) agree))))

  -- the end without a value
  pub ending_run : (g : ValueType) → gives_type ≡ g → FineEnd around3 g → RoomFor g (base c) c.code.registers → (pc : ℕ) (q : List Slot) (s : State) → HasAt c.code.instrs pc (ending_code laid3 g) → Agree c s q
      → Goes (Left c gives_type) (here c context is_code pc q s) (done (ending_value g s))
  unfolding act
  ending_run (type.C t) is fine fits pc q s has agree =
      one c context is_code _ pc q s.store s.turns (instr.Const (register (base c)) (pos 0)) _ has.0
      (return_number t (pos 0) (pc + 1) (slice_set q (base c) (whole (pos 0))) s is (zero_value t) (get_or-set_same q (base c) (whole (pos 0)) empty (omega (arith, fits, agree.size))) has.1
      (agrees_with c context is_code (base c) (whole (pos 0)) (omega arith) agree))
  ending_run type.Object is fine fits pc q s has agree =
      let n = length c.locals in
      let zero_is : n ≡ n + 0 = omega arith in
      let m = member_at c pc q s.store s.turns in
      let constant_is : slice_get c.image.constants none_at ≡ Some constant.None = ap (λ x. slice_get x none_at) same_constants ∙ fine.1 in
      one c context is_code _ pc q s.store s.turns (instr.Text (register n) none_at) _ has.0
      (subst (λ x. Goes (Left c gives_type) (constant_at x (λ what. stepping (new_object (constant_object what)) (gets (register n)) m)) (done (ending_value type.Object s))) (sym constant_is)
      (then_steps {P = MadeNone (pc + 1)} (stepping_by c context is_code roomy (MadeNone (pc + 1)) s.store (new_object object_value.None) (gets (register n)) pc q s agree
      (λ from o store e.
      let made = boxed_by c context gives_type none_at callees is_code room from o store object_value.None e in
      record {
        object = made;
        after = slice_set q n (slot_of_value o);
        agree = subst (λ i. Agree c (holding store s) (slice_set q i (slot_of_value o))) (sym zero_is)
            (agrees_dropped c context is_code roomy 0 (slot_of_value o) (omega (arith, fine.0)) (subst (λ x. IsDroppable (slot_of_value x)) (sym made.is) tt) (agrees_holding c context is_code roomy store agree));
        there = get_or-set_same q n (slot_of_value o) empty (omega (arith, room, fine.0, agree.size));
        goes_on = refl;
      }))
      (λ v s1 step p.
      subst (λ w. Goes (Left c gives_type) w (done (gives v s1))) (sym p.goes_on)
      (return_object v (pc + 1) p.after s1 is p.object p.there has.1 p.agree))))
  ending_run (type.View t) is fine fits pc q s has agree = absurd fine
  ending_run type.Void is fine fits pc q s has agree =
      one c context is_code _ pc q s.store s.turns instr.Finish _ has.0
      (arrives (left_with value.nothing pc q s (subst (λ g. ResultFits g value.nothing) (sym is) refl) agree))

  -- ---- the body and the end

  flow_by : (pc : ℕ) (flow : Flow) (s : State) (step : Step) → FineEnd around3 gives_type → RoomFor gives_type (base c) c.code.registers → HasAt c.code.instrs pc (ending_code laid3 gives_type)
      → Flows c context gives_type none_at callees is_code room pc flow s step → Goes (Left c gives_type) step (flow_value gives_type flow s)
  flow_by pc next s step fine fits has p =
      subst (λ w. Goes (Left c gives_type) w (done (ending_value gives_type s))) (sym p.goes_on) (ending_run gives_type refl fine fits pc p.after s has p.agree)
  flow_by pc continues s step fine fits has p = absurd p
  flow_by pc breaks s step fine fits has p = absurd p
  flow_by pc (returns v) s step fine fits has p = ⊎_elim
      (λ (e : EndsWithout c context gives_type none_at callees is_code room v s step).
      subst (λ w. Goes (Left c gives_type) w (done (returned_value gives_type v s))) (sym e.goes_on)
      (subst (λ x. Goes (Left c gives_type) (here c context is_code e.pc e.after s) (done (returned_value gives_type x s))) (sym e.is)
      (ending_run gives_type refl fine fits e.pc e.after s e.has e.agree)))
      (λ (e : EndsWith c context gives_type none_at callees is_code room v s step).
      subst (λ w. Goes (Left c gives_type) w (done (returned_value gives_type v s))) (sym e.goes_on)
      (subst (λ x. Goes (Left c gives_type) (here c context is_code e.pc e.after s) (done (returned_value gives_type x s))) (sym e.is)
      (return_number e.given e.number e.pc e.after s e.gives e.in_type e.there e.has e.agree)))
      p

  module _ (called : CallsRun c context is_code roomy callees) where
    all_do : (body : List TypedRose) → AreCompiled around3 c.code.registers body
        → AllDo c context gives_type none_at callees is_code room roomy called (map (exec context) body) (map (statement_code laid3) body)
    all_do [] compiled = tt
    all_do (tree ∷ trees) compiled =
        (statement_runs c context gives_type none_at callees is_code room roomy called tree compiled.0.0 compiled.0.1, all_do trees compiled.1)

    pub statements_of : (body : List TypedRose) → AreCompiled around3 c.code.registers body → (pc : ℕ) (q : List Slot) (s : State) → HasAt c.code.instrs pc (in_turn_code (map (statement_code laid3) body) pc) → Agree c s q
        → Goes (Flows c context gives_type none_at callees is_code room (pc + length (in_turn_code (map (statement_code laid3) body) pc))) (here c context is_code pc q s) (in_turn (map (exec context) body) outermost s)
    statements_of body compiled pc q s has agree =
        in_turn_runs c context gives_type none_at callees is_code room roomy called (map (exec context) body) (map (statement_code laid3) body) (all_do body compiled) pc q s outermost has agree

    pub body_runs : (body : List TypedRose) → AreCompiled around3 c.code.registers body → FineEnd around3 gives_type → RoomFor gives_type (base c) c.code.registers → (pc : ℕ) (q : List Slot) (s : State) → HasAt c.code.instrs pc (body_code laid3 body pc) → Agree c s q
        → Goes (Left c gives_type) (here c context is_code pc q s) (in_turn (map (exec context) body) outermost s >>= on_value (flow_value gives_type))
    body_runs body compiled fine fits pc q s has agree =
        let first = in_turn_code (map (statement_code laid3) body) pc in
        value_by (flow_value gives_type) (statements_of body compiled pc q s (has_front _ pc first _ has) agree)
        (λ flow s1 step p. flow_by (pc + length first) flow s1 step fine fits (has_back _ pc first _ has) p)
