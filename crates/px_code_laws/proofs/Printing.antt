-- The code of statements follows them.
use Rattle.std.proofs.Common.{◌≡◌, ℕ, zero, suc, ◌+◌, ◌<◌, ◌≤◌, List, [], ◌∷◌, ◌++◌, length, Option, Some, None, Bool, true, false, refl, sym, ap, ◌∙◌, subst, arith, length-append, ◌⊎◌}
use Rattle.std.specs.Prelude.{ℤ, slice_get, slice_set, nat_lt, if◌then◌else◌, codes}
use Rattle.std.proofs.lemmas.List.{get_or-set_same, get_or-set_other, length-set}
use Rattle.px_base.specs.declared.c_types.CType.{CType}
use Rattle.px_base.specs.declared.faults.Fault.{Fault}
use Rattle.px_ctypes.specs.Types.{IsValueOf}
use Rattle.px_ctypes.specs.Conversions.{converted}
use Rattle.px_tree.specs.declared.typed_values.ValueType.{ValueType}
use Rattle.px_tree.specs.declared.typed_values.ValueType.TheVariants as type
use Rattle.px_tree.specs.declared.typed_values.Conversion.TheVariants as conversion
use Rattle.px_tree.specs.declared.typed_heads.TypedHead.{TypedHead}
use Rattle.px_tree.specs.declared.typed_heads.TypedHead.TheVariants as head
use Rattle.px_walk.specs.Roses.{Roses, rose, none, more}
use Rattle.px_typed_walk.specs.TypedView.{TypedRose}
use Rattle.px_model.specs.declared.stores.Store.{Store}
use Rattle.px_model.specs.declared.stores.ObjectValue.{ObjectValue}
use Rattle.px_regcode.specs.declared.instructions.Instr.TheVariants as instr
use Rattle.px_meaning.specs.Values.{Value, number_in}
use Rattle.px_meaning.specs.Values as value
use Rattle.px_meaning.specs.States.{State, holding}
use Rattle.px_meaning.specs.Interactions.{Interaction, done, ◌>>=◌}
use Rattle.px_meaning.specs.Ends.{Ends, gives, on_value, Flow, next, continues, breaks, returns}
use Rattle.px_meaning.specs.Objects.{Stepped, gave, failed, with_stepped, step_from, object_limit, new_object, boxed, texts_of, spaced, with_output, print_line, print_from, printed}
use Rattle.px_meaning.specs.Objects as source
use Rattle.px_meaning.specs.Expressions.{Context, Scope, each, eval, evaluations, eval_by, converted_by, printing}
use Rattle.px_meaning.specs.Statements.{Execution}
use Rattle.px_exprgen.specs.ExpressionCode.{register, part_code, expression_codes, width, widths, widest}
use Rattle.px_stmtgen.specs.declared.layouts.Layout.{Layout}
use Rattle.px_stmtgen.specs.Layouts.{registers_from, drops, ending_code}
use Rattle.px_stmtgen.specs.StatementCode.{StatementEmission, count_of, boxed_code, argument_code, arguments_code, print_code}
use Rattle.px_machine.specs.Slots.{Slot, empty, whole, object, view, fault, Member, slot_of, storing}
use Rattle.px_machine.specs.Slots as Slots
use Rattle.px_machine.specs.Slots.{next as after_one}
use Rattle.px_machine.specs.Steps.{Step, went}
use Rattle.px_machine.specs.Machine.{act, with_number, with_store, stepping, gets, slot_of_value, object_among, objects_at, prints, prints_line, drops as drop_step}
use Rattle.px_machine.specs.Follows.{Follows, arrives}
use Rattle.px_code_laws.specs.Settings.{Setting, base, member_at, slot_in, IsDroppable, Agree, Kept}
use Rattle.px_code_laws.specs.Fine.{HasType, AreFine, types_of}
use Rattle.px_code_laws.specs.FineStatements.{Surrounding, FineArgument, FineArguments}
use Rattle.px_code_laws.proofs.Followed.{value_by, weaker}
use Rattle.px_code_laws.proofs.Values.{converted_same}
use Rattle.px_code_laws.proofs.Expressions.{HasAt, has_front, has_back, kept_all, Leads, here, one, number_by, part_runs}
use Rattle.px_code_laws.proofs.Agreement.{IsObject, agrees_holding, agrees_dropped, stepped_by, stepping_by}

-- the object of a new object's step
made_by : (b : Bool) (k : ℕ) (st st2 st3 : Store) (f : Fault) (v : Value) → (if b then gave (value.object k) st else failed f st2) ≡ gave v st3 → IsObject v
made_by true k st st2 st3 f v e = record { serial = k; is = cc }
made_by false k st st2 st3 f v e = cc

-- the objects of registers, with one more in front
collected_by : (v : Value) (slot : Slot) (o : Option (List Value)) (values : List Value) → IsObject v → slot ≡ slot_of_value v → o ≡ Some values → object_among slot o ≡ Some (v ∷ values)
collected_by v slot o values made is others =
    let slot_is : slot ≡ Slots.object made.serial = is ∙ ap slot_of_value made.is in
    ap (λ x. object_among x o) slot_is ∙ ap (object_among (Slots.object made.serial)) others ∙ ap (λ x. Some (x ∷ values)) (sym made.is)

module _ (c : Setting) (context : Context) (gives_type : ValueType) (none_at : ℕ) (callees : List (Option ValueType))
    (is_code : slice_get c.image.codes c.function ≡ Some c.code) (room : base c ≤ c.code.registers) where
  abbrev pub laid : Layout
  laid = record { variables = length c.locals; objects = c.objects; gives = gives_type; none_at = none_at }

  abbrev pub around : Surrounding
  around = record { locals = c.locals; objects = c.objects; gives = gives_type; none_at = none_at; constants = context.constants; callees = callees; locked = c.locked }

  roomy : base c ≤ c.code.registers
  roomy = omega (arith, room)

  abbrev at : ℕ → List Slot → State → Step
  at pc q s = here c context is_code pc q s

  abbrev Reaches : {A : Type 0} → (A → State → Step → Type 0) → Step → Interaction (Ends A) → Type 0
  Reaches P step t = Leads c context is_code P step t

  -- the code goes on at an instruction
  pub record Arrives (pc : ℕ) (s : State) (step : Step) : Type 0 where
    pub after : List Slot
    pub agree : Agree c s after
    pub goes_on : step ≡ at pc after s

  -- what stands behind a `return` without a value, or with a number

  pub record EndsWithout (v : Value) (s : State) (step : Step) : Type 0 where
    pub is : v ≡ value.nothing
    pub pc : ℕ
    pub after : List Slot
    pub agree : Agree c s after
    pub has : HasAt c.code.instrs pc (ending_code laid gives_type)
    pub goes_on : step ≡ at pc after s

  pub record EndsWith (v : Value) (s : State) (step : Step) : Type 0 where
    pub given : CType
    pub gives : gives_type ≡ type.C given
    pub number : ℤ
    pub is : v ≡ value.whole number
    pub in_type : IsValueOf given number
    pub pc : ℕ
    pub after : List Slot
    pub agree : Agree c s after
    pub there : slot_in after (base c) ≡ whole number
    pub has : HasAt c.code.instrs pc (instr.Return (register (base c)) ∷ [])
    pub goes_on : step ≡ at pc after s

  abbrev pub Flows : ℕ → Flow → State → Step → Type 0
  Flows pc next s step = Arrives pc s step
  Flows pc continues s step = ⊥
  Flows pc breaks s step = ⊥
  Flows pc (returns v) s step = EndsWithout v s step ⊎ EndsWith v s step

  pub record Executes (e : Execution) (code : StatementEmission) : Type 0 where
    pub run : (pc : ℕ) (q : List Slot) (s : State) (scope : Scope) → HasAt c.code.instrs pc (code pc) → Agree c s q
        → Reaches (Flows (pc + length (code pc))) (at pc q s) (e scope s)

  -- ---- print

  pub record Boxed (pc d : ℕ) (old : List Slot) (v : Value) (s : State) (step : Step) : Type 0 where
    pub object : IsObject v
    pub after : List Slot
    pub agree : Agree c s after
    pub kept : Kept d old after
    pub there : slot_in after d ≡ slot_of_value v
    pub goes_on : step ≡ at pc after s

  pub boxed_by : (from : Store) (v : Value) (to : Store) (what : ObjectValue) → new_object what from ≡ gave v to → IsObject v
  boxed_by from v to what e = made_by (nat_lt (length from.objects) object_limit) (length from.objects) _ _ to _ v e

  lower_to : {d e : ℕ} {r q : List Slot} → d ≤ e → Kept e r q → Kept d r q
  lower_to le k = record { size = k.size; same = λ j less. k.same j (omega (arith, less, le)) }

  then_kept : {d : ℕ} {r q s : List Slot} → Kept d r q → Kept d q s → Kept d r s
  then_kept a b = record { size = b.size ∙ a.size; same = λ j less. b.same j less ∙ a.same j less }

  box_runs : (t u : CType) (parts : Roses TypedHead) → HasType (types_of parts) 0 u → AreFine c.locals None parts → u ≡ t → base c + widths parts ≤ c.code.registers
      → (k d pc : ℕ) (q : List Slot) (s : State) (scope : Scope) → d ≡ length c.locals + k → k < c.objects
      → HasAt c.code.instrs pc (boxed_code laid d (head.Converted (conversion.ToObject t)) parts pc) → Agree c s q
      → Reaches (Boxed (pc + length (boxed_code laid d (head.Converted (conversion.ToObject t)) parts pc)) d q) (at pc q s) (converted_by (conversion.ToObject t) (evaluations context parts) scope s)
  unfolding act
  box_runs t u parts has_type fine same fits k d pc q s scope is less has agree =
      let p = part_runs c context is_code parts None fine 0 u has_type in
      let code = part_code (expression_codes parts) 0 pc (base c) in
      let box = instr.Box t (register d) (register (base c)) in
      let end : pc + length code + 1 ≡ pc + length (code ++ box ∷ []) = omega (arith, length-append code (box ∷ [])) in
      let below : d < base c = omega (arith, is, less) in
      let P = Boxed (pc + length (code ++ box ∷ [])) d q in
      number_by c context is_code (λ n s1. done (source.stepping (new_object (boxed t n)) s1))
      (p.runs.run pc (base c) q s scope (has_front _ pc code _ has) (omega arith) (omega (arith, p.fits, fits, room)) agree tt)
      (λ n q1 s1 v a k1 there.
      let pc1 = pc + length code in
      let m = member_at c pc1 q1 s1.store s1.turns in
      let value : IsValueOf t n = subst (λ w. IsValueOf w n) same v in
      one c context is_code _ pc1 q1 s1.store s1.turns box _ (has_back _ pc code _ has).0
      (subst (λ w. Reaches P (with_number w (λ x. stepping (new_object (boxed t (converted t x))) (gets (register d)) m)) (done (source.stepping (new_object (boxed t n)) s1))) (sym there)
      (subst (λ x. Reaches P (stepping (new_object (boxed t x)) (gets (register d)) m) (done (source.stepping (new_object (boxed t n)) s1))) (sym (converted_same t n value))
      (stepping_by c context is_code roomy P s1.store (new_object (boxed t n)) (gets (register d)) pc1 q1 s1 a
      (λ from o store e.
      let object = boxed_by from o store (boxed t n) e in
      record {
        object = object;
        after = slice_set q1 d (slot_of_value o);
        agree = subst (λ i. Agree c (holding store s1) (slice_set q1 i (slot_of_value o))) (sym is)
            (agrees_dropped c context is_code roomy k (slot_of_value o) less (subst (λ x. IsDroppable (slot_of_value x)) (sym object.is) tt) (agrees_holding c context is_code roomy store a));
        kept = record { size = length-set q1 d _ ∙ k1.size; same = λ j l. get_or-set_other q1 d j _ empty (λ e. omega (arith, e, l)) ∙ k1.same j (omega (arith, l, below)) };
        there = get_or-set_same q1 d (slot_of_value o) empty (omega (arith, below, room, a.size));
        goes_on = ap (λ p. at p (slice_set q1 d (slot_of_value o)) (holding store s1)) end;
      })))))

  -- the arguments of print

  argument_runs : (tree : TypedRose) → FineArgument c.locals tree → base c + width tree ≤ c.code.registers
      → (k d pc : ℕ) (q : List Slot) (s : State) (scope : Scope) → d ≡ length c.locals + k → k < c.objects → HasAt c.code.instrs pc (argument_code laid d tree pc) → Agree c s q
      → Reaches (Boxed (pc + length (argument_code laid d tree pc)) d q) (at pc q s) (eval context tree scope s)
  unfolding eval eval_by
  argument_runs (rose (head.Converted (conversion.ToObject t)) number place parts) fine wide k d pc q s scope is less has agree =
      box_runs t t parts fine.0 fine.1 refl (omega (arith, wide)) k d pc q s scope is less has agree
  argument_runs (rose (head.Literal t n) number place parts) fine wide k d pc q s scope is less has agree = absurd fine
  argument_runs (rose (head.Sizeof t) number place parts) fine wide k d pc q s scope is less has agree = absurd fine
  argument_runs (rose (head.Constant which) number place parts) fine wide k d pc q s scope is less has agree = absurd fine
  argument_runs (rose (head.Local slot t) number place parts) fine wide k d pc q s scope is less has agree = absurd fine
  argument_runs (rose (head.ModuleName name) number place parts) fine wide k d pc q s scope is less has agree = absurd fine
  argument_runs (rose (head.Given t) number place parts) fine wide k d pc q s scope is less has agree = absurd fine
  argument_runs (rose (head.Kept t) number place parts) fine wide k d pc q s scope is less has agree = absurd fine
  argument_runs (rose (head.Converted (conversion.ToC t)) number place parts) fine wide k d pc q s scope is less has agree = absurd fine
  argument_runs (rose (head.Converted (conversion.FromObject t)) number place parts) fine wide k d pc q s scope is less has agree = absurd fine
  argument_runs (rose (head.Converted conversion.Truth) number place parts) fine wide k d pc q s scope is less has agree = absurd fine
  argument_runs (rose (head.Converted (conversion.ViewOfObject t)) number place parts) fine wide k d pc q s scope is less has agree = absurd fine
  argument_runs (rose (head.Converted (conversion.ViewOfView t)) number place parts) fine wide k d pc q s scope is less has agree = absurd fine
  argument_runs (rose (head.Cast t) number place parts) fine wide k d pc q s scope is less has agree = absurd fine
  argument_runs (rose (head.Steps t) number place parts) fine wide k d pc q s scope is less has agree = absurd fine
  argument_runs (rose (head.Unary op t) number place parts) fine wide k d pc q s scope is less has agree = absurd fine
  argument_runs (rose (head.Binary op t truncates) number place parts) fine wide k d pc q s scope is less has agree = absurd fine
  argument_runs (rose (head.Compare how) number place parts) fine wide k d pc q s scope is less has agree = absurd fine
  argument_runs (rose head.Comparisons number place parts) fine wide k d pc q s scope is less has agree = absurd fine
  argument_runs (rose head.Not number place parts) fine wide k d pc q s scope is less has agree = absurd fine
  argument_runs (rose (head.And t) number place parts) fine wide k d pc q s scope is less has agree = absurd fine
  argument_runs (rose (head.Or t) number place parts) fine wide k d pc q s scope is less has agree = absurd fine
  argument_runs (rose (head.Conditional t) number place parts) fine wide k d pc q s scope is less has agree = absurd fine
  argument_runs (rose (head.Call function t) number place parts) fine wide k d pc q s scope is less has agree = absurd fine
  argument_runs (rose (head.Abs t) number place parts) fine wide k d pc q s scope is less has agree = absurd fine
  argument_runs (rose (head.Min t) number place parts) fine wide k d pc q s scope is less has agree = absurd fine
  argument_runs (rose (head.Max t) number place parts) fine wide k d pc q s scope is less has agree = absurd fine
  argument_runs (rose head.ThreadId number place parts) fine wide k d pc q s scope is less has agree = absurd fine
  argument_runs (rose (head.ObjectUnary op) number place parts) fine wide k d pc q s scope is less has agree = absurd fine
  argument_runs (rose (head.ObjectBinary op) number place parts) fine wide k d pc q s scope is less has agree = absurd fine
  argument_runs (rose head.Tuple number place parts) fine wide k d pc q s scope is less has agree = absurd fine
  argument_runs (rose head.List number place parts) fine wide k d pc q s scope is less has agree = absurd fine
  argument_runs (rose head.Dict number place parts) fine wide k d pc q s scope is less has agree = absurd fine
  argument_runs (rose head.Item number place parts) fine wide k d pc q s scope is less has agree = absurd fine
  argument_runs (rose (head.Part has_from has_to has_step) number place parts) fine wide k d pc q s scope is less has agree = absurd fine
  argument_runs (rose (head.Method method) number place parts) fine wide k d pc q s scope is less has agree = absurd fine
  argument_runs (rose (head.Builtin what) number place parts) fine wide k d pc q s scope is less has agree = absurd fine
  argument_runs (rose (head.Element t wraparound) number place parts) fine wide k d pc q s scope is less has agree = absurd fine
  argument_runs (rose (head.ViewPart t wraparound) number place parts) fine wide k d pc q s scope is less has agree = absurd fine
  argument_runs (rose head.Index number place parts) fine wide k d pc q s scope is less has agree = absurd fine
  argument_runs (rose (head.Slice has_from has_to has_step) number place parts) fine wide k d pc q s scope is less has agree = absurd fine
  argument_runs (rose head.NewAxis number place parts) fine wide k d pc q s scope is less has agree = absurd fine
  argument_runs (rose head.Ellipsis number place parts) fine wide k d pc q s scope is less has agree = absurd fine
  argument_runs (rose (head.Transposed t) number place parts) fine wide k d pc q s scope is less has agree = absurd fine
  argument_runs (rose (head.Copied t) number place parts) fine wide k d pc q s scope is less has agree = absurd fine
  argument_runs (rose head.Length number place parts) fine wide k d pc q s scope is less has agree = absurd fine
  argument_runs (rose (head.Extent axis) number place parts) fine wide k d pc q s scope is less has agree = absurd fine
  argument_runs (rose head.Array number place parts) fine wide k d pc q s scope is less has agree = absurd fine
  argument_runs (rose (head.Keyword keyword) number place parts) fine wide k d pc q s scope is less has agree = absurd fine
  argument_runs (rose head.Expression number place parts) fine wide k d pc q s scope is less has agree = absurd fine
  argument_runs (rose head.Assign number place parts) fine wide k d pc q s scope is less has agree = absurd fine
  argument_runs (rose head.AssignEach number place parts) fine wide k d pc q s scope is less has agree = absurd fine
  argument_runs (rose head.Unpack number place parts) fine wide k d pc q s scope is less has agree = absurd fine
  argument_runs (rose (head.Augment op) number place parts) fine wide k d pc q s scope is less has agree = absurd fine
  argument_runs (rose head.Declare number place parts) fine wide k d pc q s scope is less has agree = absurd fine
  argument_runs (rose (head.Declarator slot t) number place parts) fine wide k d pc q s scope is less has agree = absurd fine
  argument_runs (rose head.Pass number place parts) fine wide k d pc q s scope is less has agree = absurd fine
  argument_runs (rose head.Break number place parts) fine wide k d pc q s scope is less has agree = absurd fine
  argument_runs (rose head.Continue number place parts) fine wide k d pc q s scope is less has agree = absurd fine
  argument_runs (rose head.Return number place parts) fine wide k d pc q s scope is less has agree = absurd fine
  argument_runs (rose (head.Raise kind) number place parts) fine wide k d pc q s scope is less has agree = absurd fine
  argument_runs (rose head.Reraise number place parts) fine wide k d pc q s scope is less has agree = absurd fine
  argument_runs (rose (head.Try clauses has_else has_finally) number place parts) fine wide k d pc q s scope is less has agree = absurd fine
  argument_runs (rose head.Block number place parts) fine wide k d pc q s scope is less has agree = absurd fine
  argument_runs (rose (head.Handler kinds assigns) number place parts) fine wide k d pc q s scope is less has agree = absurd fine
  argument_runs (rose (head.Catches kind) number place parts) fine wide k d pc q s scope is less has agree = absurd fine
  argument_runs (rose head.CatchesAll number place parts) fine wide k d pc q s scope is less has agree = absurd fine
  argument_runs (rose head.Global number place parts) fine wide k d pc q s scope is less has agree = absurd fine
  argument_runs (rose (head.If arms has_else) number place parts) fine wide k d pc q s scope is less has agree = absurd fine
  argument_runs (rose head.Arm number place parts) fine wide k d pc q s scope is less has agree = absurd fine
  argument_runs (rose head.While number place parts) fine wide k d pc q s scope is less has agree = absurd fine
  argument_runs (rose (head.Range arguments) number place parts) fine wide k d pc q s scope is less has agree = absurd fine
  argument_runs (rose head.Over number place parts) fine wide k d pc q s scope is less has agree = absurd fine
  argument_runs (rose (head.Parallel arguments nogil schedule) number place parts) fine wide k d pc q s scope is less has agree = absurd fine
  argument_runs (rose head.ChunkSize number place parts) fine wide k d pc q s scope is less has agree = absurd fine
  argument_runs (rose head.TeamSize number place parts) fine wide k d pc q s scope is less has agree = absurd fine
  argument_runs (rose head.WithGil number place parts) fine wide k d pc q s scope is less has agree = absurd fine
  argument_runs (rose head.WithNogil number place parts) fine wide k d pc q s scope is less has agree = absurd fine
  argument_runs (rose (head.ParallelBlock has_size) number place parts) fine wide k d pc q s scope is less has agree = absurd fine

  -- the objects stand in registers behind one another
  pub record Collected (pc d count : ℕ) (old : List Slot) (values : List Value) (s : State) (step : Step) : Type 0 where
    pub after : List Slot
    pub agree : Agree c s after
    pub kept : Kept d old after
    pub objects : objects_at after (registers_from d count) ≡ Some values
    pub goes_on : step ≡ at pc after s

  arguments_run : (trees : Roses TypedHead) → FineArguments c.locals trees → base c + widest trees ≤ c.code.registers
      → (k d pc : ℕ) (q : List Slot) (s : State) (scope : Scope) → d ≡ length c.locals + k → k + count_of trees ≤ c.objects → HasAt c.code.instrs pc (arguments_code laid d trees pc) → Agree c s q
      → Reaches (Collected (pc + length (arguments_code laid d trees pc)) d (count_of trees) q) (at pc q s) (each (evaluations context trees) scope s)
  unfolding eval
  arguments_run none fine wide k d pc q s scope is less has agree =
      arrives (record { after = q; agree = agree; kept = kept_all d q; objects = refl; goes_on = ap (λ p. at p q s) (let e : pc ≡ pc + 0 = omega arith in e) })
  arguments_run (more tree trees) fine wide k d pc q s scope is less has agree =
      let first = argument_code laid d tree pc in
      let others = arguments_code laid (suc d) trees (pc + length first) in
      let end : pc + length first + length others ≡ pc + length (first ++ others) = omega (arith, length-append first others) in
      let P = Collected (pc + length (first ++ others)) d (suc (count_of trees)) q in
      value_by (λ v s1. each (evaluations context trees) scope s1 >>= on_value (λ values s2. done (gives (v ∷ values) s2)))
      (argument_runs tree fine.0 (omega (arith, wide)) k d pc q s scope is (omega (arith, less)) (has_front _ pc first _ has) agree)
      (λ v s1 step b.
      subst (λ w. Reaches P w (each (evaluations context trees) scope s1 >>= on_value (λ values s2. done (gives (v ∷ values) s2)))) (sym b.goes_on)
      (value_by (λ values s2. done (gives (v ∷ values) s2))
      (arguments_run trees fine.1 (omega (arith, wide)) (suc k) (suc d) (pc + length first) b.after s1 scope (omega (arith, is)) (omega (arith, less)) (has_back _ pc first _ has) b.agree)
      (λ values s2 step2 r.
      arrives (record {
        after = r.after;
        agree = r.agree;
        kept = then_kept b.kept (lower_to (omega arith) r.kept);
        objects = collected_by v (slot_in r.after d) (objects_at r.after (registers_from (suc d) (count_of trees))) values b.object (r.kept.same d (omega arith) ∙ b.there) r.objects;
        goes_on = r.goes_on ∙ ap (λ p. at p r.after s2) end;
      }))))

  -- ---- objects are let go

  drop_by : {A : Type 0} (Q : A → Step → Type 0) (slot : Slot) (k d pc : ℕ) (q : List Slot) (s : State) (store : Store) (t : Interaction A) → d ≡ length c.locals + k → k < c.objects → slot_in q d ≡ slot → IsDroppable slot
      → s.store ≡ Some store → Agree c s q → ((after : List Slot) → Agree c s after → Follows c.image Q (at (pc + 1) after s) t)
      → Follows c.image Q (drop_step (register d) (slot_in q d) (member_at c pc q s.store s.turns)) t
  drop_by Q empty k d pc q s store t is less there droppable held agree after =
      subst (λ w. Follows c.image Q (drop_step (register d) w (member_at c pc q s.store s.turns)) t) (sym there) (after q agree)
  drop_by Q (object serial) k d pc q s store t is less there droppable held agree after =
      subst (λ w. Follows c.image Q (drop_step (register d) w (member_at c pc q s.store s.turns)) t) (sym there)
      (after (slice_set q d empty) (subst (λ i. Agree c s (slice_set q i empty)) (sym is) (agrees_dropped c context is_code roomy k empty less tt agree)))
  drop_by Q (whole n) k d pc q s store t is less there droppable held agree after = absurd droppable
  drop_by Q (view v) k d pc q s store t is less there droppable held agree after = absurd droppable
  drop_by Q (fault f) k d pc q s store t is less there droppable held agree after = absurd droppable

  pub drops_run : {A : Type 0} (Q : A → Step → Type 0) (count k d pc : ℕ) (q : List Slot) (s : State) (store : Store) (t : Interaction A) → d ≡ length c.locals + k → k + count ≤ c.objects
      → s.store ≡ Some store → HasAt c.code.instrs pc (drops d count) → Agree c s q → ((after : List Slot) → Agree c s after → Follows c.image Q (at (pc + length (drops d count)) after s) t)
      → Follows c.image Q (at pc q s) t
  unfolding act
  drops_run Q zero k d pc q s store t is less held has agree after =
      let e : pc + 0 ≡ pc = omega arith in subst (λ p. Follows c.image Q (at p q s) t) e (after q agree)
  drops_run Q (suc count) k d pc q s store t is less held has agree after =
      let end : pc + 1 + length (drops (suc d) count) ≡ pc + suc (length (drops (suc d) count)) = omega arith in
      let droppable : IsDroppable (slot_in q d) = subst (λ i. IsDroppable (slot_in q i)) (sym is) (agree.clean k (omega (arith, less))) in
      one c context is_code Q pc q s.store s.turns (instr.Drop (register d)) t has.0
      (subst (λ o. Follows c.image Q (with_store o (λ store. drop_step (register d) (slot_in q d) (member_at c pc q s.store s.turns))) t) (sym held)
      (drop_by Q (slot_in q d) k d pc q s store t is (omega (arith, less)) refl droppable held agree (λ after1 agree1.
      drops_run Q count (suc k) (suc d) (pc + 1) after1 s store t (omega (arith, is)) (omega (arith, less)) held has.1 agree1 (λ after2 agree2.
      subst (λ p. Follows c.image Q (at p after2 s) t) (sym end) (after after2 agree2)))))

  -- ---- the line

  record Printed (pc : ℕ) (q : List Slot) (s : State) (step : Step) : Type 0 where
    store : Store
    held : s.store ≡ Some store
    agree : Agree c s q
    goes_on : step ≡ at pc q s

  line_by : (o : Option (List (List ℕ))) (store : Store) (pc : ℕ) (q : List Slot) (s : State) → Agree c s q
      → Reaches (λ v t step. Printed (pc + 1) q t step) (prints_line o store (member_at c pc q s.store s.turns)) (done (print_line o store s))
  line_by None store pc q s agree = arrives tt
  line_by (Some texts) store pc q s agree =
      stepped_by c context is_code roomy (λ v t step. Printed (pc + 1) q t step) (with_output (store.output ++ source.spaced texts ++ codes "\n") store) (λ _ m1. went (after_one m1)) pc q s agree
      (λ v store2 e. record { store = store2; held = refl; agree = agrees_holding c context is_code roomy store2 agree; goes_on = refl })

  print_by : (o : Option Store) (values : List Value) (pc : ℕ) (q : List Slot) (s : State) → Agree c s q
      → Reaches (λ v t step. Printed (pc + 1) q t step) (with_store o (λ store. prints_line (texts_of store values) store (member_at c pc q s.store s.turns))) (done (print_from o values s))
  print_by None values pc q s agree = arrives tt
  print_by (Some store) values pc q s agree = line_by (texts_of store values) store pc q s agree

  pub print_runs : (parts : Roses TypedHead) → count_of parts ≤ c.objects → FineArguments c.locals parts → base c + widest parts ≤ c.code.registers
      → (pc : ℕ) (q : List Slot) (s : State) (scope : Scope) → HasAt c.code.instrs pc (print_code laid parts pc) → Agree c s q
      → Reaches (Flows (pc + length (print_code laid parts pc))) (at pc q s) (printing (evaluations context parts) scope s >>= on_value (λ _ s1. done (gives next s1)))
  unfolding act
  print_runs parts some fine wide pc q s scope has agree =
      let n = length c.locals in
      let count = count_of parts in
      let first = arguments_code laid n parts pc in
      let print = instr.Print (registers_from n count) in
      let pc1 = pc + length first in
      let end : pc1 + 1 + length (drops n count) ≡ pc + length (first ++ (print ∷ drops n count)) = omega (arith, length-append first (print ∷ drops n count)) in
      let F = Flows (pc + length (first ++ (print ∷ drops n count))) in
      let behind_args = has_back _ pc first _ has in
      let zero_is : n ≡ n + 0 = omega arith in
      value_by (λ _ s1. done (gives next s1))
      (value_by {Q = λ v t step. (q2 : List Slot) × Printed (pc1 + 1) q2 t step} (λ values s1. done (printed values s1))
      (arguments_run parts fine wide 0 n pc q s scope zero_is (omega (arith, some)) (has_front _ pc first _ has) agree)
      (λ values s1 step r.
      subst (λ w. Reaches (λ v t step. (q2 : List Slot) × Printed (pc1 + 1) q2 t step) w (done (printed values s1))) (sym r.goes_on)
      (one c context is_code _ pc1 r.after s1.store s1.turns print _ behind_args.0
      (subst (λ o. Reaches (λ v t step. (q2 : List Slot) × Printed (pc1 + 1) q2 t step) (prints o (member_at c pc1 r.after s1.store s1.turns)) (done (printed values s1))) (sym r.objects)
      (weaker (λ v t step p. (r.after, p)) (print_by s1.store values pc1 r.after s1 r.agree))))))
      (λ v t step p.
      subst (λ w. Reaches F w (done (gives next t))) (sym p.1.goes_on)
      (drops_run _ count 0 n (pc1 + 1) p.0 t p.1.store (done (gives next t)) zero_is (omega (arith, some)) p.1.held behind_args.1 p.1.agree (λ after agree2.
      arrives (record { after = after; agree = agree2; goes_on = ap (λ p. at p after t) end }))))
