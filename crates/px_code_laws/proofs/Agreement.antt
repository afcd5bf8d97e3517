-- The code of statements follows them.
use Rattle.std.proofs.Common.{◌≡◌, ◌≢◌, ℕ, suc, ◌+◌, ◌<◌, ◌≤◌, List, [], length, Option, Some, None, true, refl, sym, ap, ◌∙◌, subst, arith, ⊎_elim}
use Rattle.std.specs.Prelude.{ℤ, slice_get, slice_set, slice_index_or}
use Rattle.std.proofs.lemmas.Bool.{cases_eq}
use Rattle.std.proofs.lemmas.List.{get_or-set_same, get_or-set_other, length-set}
use Rattle.std.proofs.lemmas.Option.{slice_get_within}
use Rattle.px_base.specs.declared.c_types.CType.{CType}
use Rattle.px_ctypes.specs.Types.{IsValueOf}
use Rattle.px_tree.specs.declared.typed_values.ValueType.{ValueType}
use Rattle.px_tree.specs.declared.typed_values.ValueType.TheVariants as type
use Rattle.px_model.specs.declared.stores.Store.{Store}
use Rattle.px_regcode.specs.declared.operands.Register.{Register}
use Rattle.px_regcode.specs.declared.instructions.Instr.TheVariants as instr
use Rattle.px_meaning.specs.Values.{Value, number_in}
use Rattle.px_meaning.specs.Values as value
use Rattle.px_meaning.specs.States.{State, variable_at, assigned, holding}
use Rattle.px_meaning.specs.Interactions.{done}
use Rattle.px_meaning.specs.Objects.{Stepped, gave, failed, with_stepped, step_from}
use Rattle.px_meaning.specs.Expressions.{Context}
use Rattle.px_exprgen.specs.ExpressionCode.{register}
use Rattle.px_machine.specs.Slots.{Slot, empty, whole, Member}
use Rattle.px_machine.specs.Steps.{Step, went}
use Rattle.px_machine.specs.Machine.{act, with_store, stepped, given, slot_of_value}
use Rattle.px_machine.specs.Follows.{arrives}
use Rattle.px_machine.specs.Means.{HasStore}
use Rattle.px_code_laws.specs.Settings.{Setting, base, member_at, slot_in, IsDroppable, Stands, Agree}
use Rattle.px_code_laws.proofs.Expressions.{Leads}

-- the register that gets what a call gives
abbrev pub result_register : ValueType → ℕ → Option Register
result_register (type.C t) d = Some (register d)
result_register type.Object d = Some (register d)
result_register (type.View t) d = Some (register d)
result_register type.Void d = None

-- a number of a type
pub record IsNumberOf (t : CType) (v : Value) : Type 0 where
  pub number : ℤ
  pub is : v ≡ value.whole number
  pub in_type : IsValueOf t number

pub record IsObject (v : Value) : Type 0 where
  pub serial : ℕ
  pub is : v ≡ value.object serial

-- a value that fits what a function gives
abbrev pub ResultFits : ValueType → Value → Type 0
ResultFits (type.C t) v = IsNumberOf t v
ResultFits type.Object v = IsObject v
ResultFits (type.View t) v = ⊥
ResultFits type.Void v = v ≡ value.nothing

module _ (c : Setting) (context : Context) (is_code : slice_get c.image.codes c.function ≡ Some c.code) (room : base c ≤ c.code.registers) where
  -- behind a call: the frame of the source is as it was, and its result stands in the register for it
  pub record Called (t : ValueType) (d pc : ℕ) (q : List Slot) (before : State) (v : Value) (s : State) (step : Step) : Type 0 where
    pub same_frame : s.frame ≡ before.frame
    pub same_waiting : s.callers ≡ before.callers
    pub same_members : s.members ≡ before.members
    pub turns : s.turns ≤ c.bound
    pub store : c.locked ≡ true → HasStore s.store
    pub fits : ResultFits t v
    pub goes_on : step ≡ went (member_at c (pc + 1) (given (result_register t d) (slot_of_value v) q) s.store s.turns)

  -- the calls of functions without parameters
  pub record CallsRun (callees : List (Option ValueType)) : Type 0 where
    pub run : (f : ℕ) (t : ValueType) → slice_get callees f ≡ Some (Some t) → (d pc : ℕ) (q : List Slot) (s : State) → Agree c s q
        → Leads c context is_code (Called t d pc q s) (act c.image (instr.Call (suc f) (result_register t d) []) (member_at c pc q s.store s.turns)) (context.calls f [] s)

  -- ---- agreement

  pub agrees_holding : {s : State} {q : List Slot} (store : Store) → Agree c s q → Agree c (holding store s) q
  agrees_holding store a = record { size = a.size; count = a.count; stand = a.stand; clean = a.clean; temporaries = a.temporaries; waiting = a.waiting; members = a.members; turns = a.turns; store = λ locked. record { store = store; is = refl } }

  clean_by : (q : List Slot) (k j : ℕ) (slot : Slot) → base c ≤ length q → k < c.objects → IsDroppable slot → IsDroppable (slot_in q (length c.locals + j))
      → IsDroppable (slot_in (slice_set q (length c.locals + k) slot) (length c.locals + j))
  clean_by q k j slot long less droppable old = ⊎_elim
      (λ (e : j ≡ k). subst (λ i. IsDroppable (slot_in (slice_set q (length c.locals + k) slot) (length c.locals + i))) (sym e)
      (subst IsDroppable (sym (get_or-set_same q (length c.locals + k) slot empty (omega (arith, long, less)))) droppable))
      (λ (n : j ≢ k). subst IsDroppable (sym (get_or-set_other q (length c.locals + k) (length c.locals + j) slot empty (λ e. n (omega (arith, e))))) old)
      (cases_eq j k)

  -- a register for objects
  pub agrees_dropped : {s : State} {q : List Slot} (k : ℕ) (slot : Slot) → k < c.objects → IsDroppable slot → Agree c s q → Agree c s (slice_set q (length c.locals + k) slot)
  agrees_dropped {s} {q} k slot less droppable a = record {
    size = length-set q (length c.locals + k) slot ∙ a.size;
    count = a.count;
    stand = λ j t has. subst (λ u. Stands t (variable_at s j) u)
        (sym (get_or-set_other q (length c.locals + k) j slot empty (λ e. omega (arith, e, slice_get_within c.locals j _ has)))) (a.stand j t has);
    clean = λ j below. clean_by q k j slot (omega (arith, room, a.size)) less droppable (a.clean j below);
    temporaries = a.temporaries;
    waiting = a.waiting;
    members = a.members;
    turns = a.turns;
    store = a.store;
  }

  stand_by : (s : State) (q : List Slot) (slot : ℕ) (t : CType) (n : ℤ) → slot < length q → slot < length s.frame.variables → IsValueOf t n
      → (j : ℕ) (u : CType) → (j ≡ slot → u ≡ t) → (j ≢ slot → Stands u (variable_at s j) (slot_in q j))
      → Stands u (variable_at (assigned slot (value.whole n) s) j) (slot_in (slice_set q slot (whole n)) j)
  stand_by s q slot t n inside there v j u same other = ⊎_elim
      (λ (e : j ≡ slot).
      let variable : variable_at (assigned slot (value.whole n) s) j ≡ Some (value.whole n) =
      subst (λ i. slice_index_or (slice_set s.frame.variables slot (Some (value.whole n))) i None ≡ Some (value.whole n)) (sym e) (get_or-set_same s.frame.variables slot (Some (value.whole n)) None there) in
      let register : slot_in (slice_set q slot (whole n)) j ≡ whole n =
      subst (λ i. slot_in (slice_set q slot (whole n)) i ≡ whole n) (sym e) (get_or-set_same q slot (whole n) empty inside) in
      subst (λ x. Stands u x (slot_in (slice_set q slot (whole n)) j)) (sym variable)
      (record { is_number = tt; is_slot = register; is_value = subst (λ w. IsValueOf w n) (sym (same e)) v }))
      (λ (d : j ≢ slot).
      subst (λ x. Stands u x (slot_in (slice_set q slot (whole n)) j)) (sym (get_or-set_other s.frame.variables slot j (Some (value.whole n)) None d))
      (subst (λ x. Stands u (variable_at s j) x) (sym (get_or-set_other q slot j (whole n) empty d)) (other d)))
      (cases_eq j slot)

  type_is : {t u : CType} {o : Option ValueType} → o ≡ Some (type.C t) → o ≡ Some (type.C u) → u ≡ t
  type_is e f = cc

  -- a variable
  pub agrees_assigned : {s : State} {q : List Slot} (slot : ℕ) (t : CType) (n : ℤ) → slice_get c.locals slot ≡ Some (type.C t) → IsValueOf t n → Agree c s q
      → Agree c (assigned slot (value.whole n) s) (slice_set q slot (whole n))
  agrees_assigned {s} {q} slot t n local v a =
      let within = slice_get_within c.locals slot _ local in
      record {
        size = length-set q slot (whole n) ∙ a.size;
        count = length-set s.frame.variables slot (Some (value.whole n)) ∙ a.count;
        stand = λ j u has. stand_by s q slot t n (omega (arith, within, room, a.size)) (omega (arith, within, a.count)) v j u
            (λ e. type_is local (subst (λ i. slice_get c.locals i ≡ Some (type.C u)) e has)) (λ d. a.stand j u has);
        clean = λ k less. subst IsDroppable (sym (get_or-set_other q slot (length c.locals + k) (whole n) empty (λ e. omega (arith, e, within)))) (a.clean k less);
        temporaries = a.temporaries;
        waiting = a.waiting;
        members = a.members;
        turns = a.turns;
        store = a.store;
      }

  -- ---- steps on objects

  pub stepped_by : {A : Type 0} (P : A → State → Step → Type 0) (what : Stepped A) (go : A → Member → Step) (pc : ℕ) (q : List Slot) (s : State) → Agree c s q
      → ((a : A) (store : Store) → what ≡ gave a store → P a (holding store s) (go a (member_at c pc q (Some store) s.turns)))
      → Leads c context is_code P (stepped what go (member_at c pc q s.store s.turns)) (done (with_stepped what s))
  stepped_by P (gave a store) go pc q s agree after = arrives (after a store refl)
  stepped_by P (failed f store) go pc q s agree after =
      arrives (record { pc = pc; after = q; agree = agrees_holding store agree; fails = refl })

  pub stepping_by : {A : Type 0} (P : A → State → Step → Type 0) (o : Option Store) (how : Store → Stepped A) (go : A → Member → Step) (pc : ℕ) (q : List Slot) (s : State) → Agree c s q
      → ((from : Store) (a : A) (store : Store) → how from ≡ gave a store → P a (holding store s) (go a (member_at c pc q (Some store) s.turns)))
      → Leads c context is_code P (with_store o (λ store. stepped (how store) go (member_at c pc q s.store s.turns))) (done (step_from o how s))
  stepping_by P None how go pc q s agree after = arrives tt
  stepping_by P (Some store) how go pc q s agree after = stepped_by P (how store) go pc q s agree (after store)

  -- the frame of the source is as it was
  pub agrees_back : {s t : State} {q : List Slot} → t.frame ≡ s.frame → t.callers ≡ s.callers → t.members ≡ s.members → t.turns ≤ c.bound → (c.locked ≡ true → HasStore t.store)
      → Agree c s q → Agree c t q
  agrees_back {s} {t} {q} frame callers members turns store a = record {
    size = a.size;
    count = ap (λ f. length f.variables) frame ∙ a.count;
    stand = λ j u has. subst (λ f. Stands u (slice_index_or f.variables j None) (slot_in q j)) (sym frame) (a.stand j u has);
    clean = a.clean;
    temporaries = ap (λ f. f.temporaries) frame ∙ a.temporaries;
    waiting = callers ∙ a.waiting;
    members = members ∙ a.members;
    turns = turns;
    store = store;
  }
