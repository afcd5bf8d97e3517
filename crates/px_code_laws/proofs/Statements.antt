-- The code of statements follows them.
use Rattle.std.proofs.Common.{◌≡◌, ℕ, suc, ◌+◌, ◌≤◌, List, [], ◌∷◌, ◌++◌, length, Option, Some, None, refl, sym, ap, subst, arith, length-append, inl, inr}
use Rattle.std.specs.Prelude.{slice_get, slice_set, codes}
use Rattle.px_base.specs.declared.c_types.CType.{CType}
use Rattle.px_base.specs.declared.refusals.Span.{Span}
use Rattle.px_base.specs.declared.c_types.CType.TheVariants.{Bint, SizeT}
use Rattle.px_base.specs.declared.objects.Builtin.TheVariants as builtin
use Rattle.px_tree.specs.declared.typed_values.ValueType.{ValueType}
use Rattle.px_tree.specs.declared.typed_values.ValueType.TheVariants as type
use Rattle.px_tree.specs.declared.typed_values.Conversion.TheVariants as conversion
use Rattle.px_tree.specs.declared.typed_values.Comparing.TheVariants as comparing
use Rattle.px_tree.specs.declared.typed_heads.TypedHead.{TypedHead}
use Rattle.px_tree.specs.declared.typed_heads.TypedHead.TheVariants as head
use Rattle.px_walk.specs.Roses.{Roses, rose, none, more, listed}
use Rattle.px_typed_walk.specs.TypedView.{TypedRose, type_of}
use Rattle.px_regcode.specs.declared.instructions.Instr.TheVariants as instr
use Rattle.px_meaning.specs.Values.{Value, number_in}
use Rattle.px_meaning.specs.Values as value
use Rattle.px_meaning.specs.States.{State, assigned}
use Rattle.px_meaning.specs.Interactions.{Interaction, done, ◌>>=◌}
use Rattle.px_meaning.specs.Ends.{Ends, gives, on_value, Flow, next, continues, breaks, returns, then_do}
use Rattle.px_meaning.specs.Expressions.{Context, Scope, giving, eval, eval_by}
use Rattle.px_meaning.specs.Statements.{Execution, Branch, in_turn, dropped, exec_by, exec, executions, branches_of, assign_local, assign_to}
use Rattle.px_exprgen.specs.ExpressionCode.{register, behind, expression_code, width}
use Rattle.px_stmtgen.specs.declared.layouts.Layout.{Layout}
use Rattle.px_stmtgen.specs.StatementCode.{StatementEmission, call_code, alone_code, set_code, target_code, statement_width, statement_widths, statement_width_by, alone_width, in_turn_code, statement_by, statement_code, statement_codes}
use Rattle.px_machine.specs.Slots.{Slot, whole}
use Rattle.px_machine.specs.Steps.{Step}
use Rattle.px_machine.specs.Machine.{act, given, slot_of_value, moved}
use Rattle.px_machine.specs.Follows.{arrives}
use Rattle.px_code_laws.specs.Settings.{Setting, base, member_at, IsDroppable, Agree, GivenThere}
use Rattle.px_code_laws.specs.Fine.{IsFine}
use Rattle.px_code_laws.specs.FineStatements.{FineCall, FineAlone, FineSet, FineTarget, FineAugmented, FineReturned, FineStatementBy, IsFineStatement, AreFineStatements}
use Rattle.px_code_laws.proofs.Followed.{value_by}
use Rattle.px_code_laws.proofs.Expressions.{HasAt, has_front, has_back, Leads, here, one, agrees_with, expression_runs}
use Rattle.px_code_laws.proofs.Agreement.{Called, CallsRun, agrees_dropped, agrees_assigned, agrees_back}
use Rattle.px_code_laws.proofs.Printing.{laid, around, Flows, Executes, drops_run, print_runs}

module _ (c : Setting) (context : Context) (gives_type : ValueType) (none_at : ℕ) (callees : List (Option ValueType))
    (is_code : slice_get c.image.codes c.function ≡ Some c.code) (room roomy : base c ≤ c.code.registers)
    (called : CallsRun c context is_code roomy callees) where
  abbrev pub laid2 : Layout
  laid2 = laid c context gives_type none_at callees is_code room

  abbrev pub at : ℕ → List Slot → State → Step
  at pc q s = here c context is_code pc q s

  abbrev pub Reaches : {A : Type 0} → (A → State → Step → Type 0) → Step → Interaction (Ends A) → Type 0
  Reaches P step t = Leads c context is_code P step t

  abbrev pub Ways : ℕ → Flow → State → Step → Type 0
  Ways pc = Flows c context gives_type none_at callees is_code room pc

  abbrev pub Does : Execution → StatementEmission → Type 0
  Does e code = Executes c context gives_type none_at callees is_code room e code

  nothing_runs : Does (λ scope s. done (gives next s)) (λ pc. [])
  nothing_runs = record {
    run = λ pc q s scope has agree.
        arrives (record { after = q; agree = agree; goes_on = ap (λ p. at p q s) (let e : pc ≡ pc + 0 = omega arith in e) });
  }

  -- ---- values that stand alone

  number_alone : (tree : TypedRose) (t : CType) → IsFine c.locals None tree → type_of tree ≡ type.C t → base c + width tree ≤ c.code.registers
      → Does (λ scope s. eval context tree scope s >>= on_value (λ _ s1. done (gives next s1))) (λ pc. expression_code tree pc (base c))
  number_alone tree t fine typed wide = record {
    run = λ pc q s scope has agree.
        value_by (λ _ s1. done (gives next s1)) ((expression_runs c context is_code tree None t fine typed).run pc (base c) q s scope has (omega arith) wide agree tt)
        (λ v s1 step p. arrives (record { after = p.after; agree = p.agree; goes_on = p.goes_on }));
  }

  call_back : (t : ValueType) (d pc : ℕ) (q : List Slot) (s : State) (v : Value) (s1 : State) (step : Step) → Agree c s q → Called c context is_code roomy t d pc q s v s1 step → Agree c s1 q
  call_back t d pc q s v s1 step agree p = agrees_back c context is_code roomy p.same_frame p.same_waiting p.same_members p.turns p.store agree

  call_runs : (function : ℕ) (t : ValueType) → FineCall (around c context gives_type none_at callees is_code room) function t none
      → (pc : ℕ) (q : List Slot) (s : State) (scope : Scope) → HasAt c.code.instrs pc (call_code laid2 function t) → Agree c s q
      → Reaches (Ways (pc + length (call_code laid2 function t))) (at pc q s) (context.calls function [] s >>= on_value (λ _ s1. done (gives next s1)))
  unfolding act
  call_runs function (type.C t) fine pc q s scope has agree =
      value_by (λ _ s1. done (gives next s1))
      (one c context is_code _ pc q s.store s.turns (instr.Call (suc function) (Some (register (base c))) []) _ has.0 (called.run function (type.C t) fine.0 (base c) pc q s agree))
      (λ v s1 step p.
      arrives (record {
        after = slice_set q (base c) (slot_of_value v);
        agree = agrees_with c context is_code (base c) (slot_of_value v) (omega arith) (call_back (type.C t) (base c) pc q s v s1 step agree p);
        goes_on = p.goes_on;
      }))
  call_runs function type.Object fine pc q s scope has agree =
      let n = length c.locals in
      let zero_is : n ≡ n + 0 = omega arith in
      let end : pc + 1 + 1 ≡ pc + 2 = omega arith in
      value_by (λ _ s1. done (gives next s1))
      (one c context is_code _ pc q s.store s.turns (instr.Call (suc function) (Some (register n)) []) _ has.0 (called.run function type.Object fine.0 n pc q s agree))
      (λ v s1 step p.
      let back = call_back type.Object n pc q s v s1 step agree p in
      let droppable : IsDroppable (slot_of_value v) = subst (λ x. IsDroppable (slot_of_value x)) (sym p.fits.is) tt in
      let held = back.store fine.1.1 in
      subst (λ w. Reaches (Ways (pc + 2)) w (done (gives next s1))) (sym p.goes_on)
      (drops_run c context gives_type none_at callees is_code room _ 1 0 n (pc + 1) (slice_set q n (slot_of_value v)) s1 held.store (done (gives next s1)) zero_is (omega (arith, fine.1.0)) held.is (has.1.0, tt)
      (subst (λ i. Agree c s1 (slice_set q i (slot_of_value v))) (sym zero_is) (agrees_dropped c context is_code roomy 0 (slot_of_value v) (omega (arith, fine.1.0)) droppable back))
      (λ after agree2. arrives (record { after = after; agree = agree2; goes_on = ap (λ p. at p after s1) end }))))
  call_runs function (type.View t) fine pc q s scope has agree = absurd fine.1
  call_runs function type.Void fine pc q s scope has agree =
      value_by (λ _ s1. done (gives next s1))
      (one c context is_code _ pc q s.store s.turns (instr.Call (suc function) None []) _ has.0 (called.run function type.Void fine.0 0 pc q s agree))
      (λ v s1 step p.
      arrives (record { after = q; agree = call_back type.Void 0 pc q s v s1 step agree p; goes_on = p.goes_on }))

  alone_runs : (tree : TypedRose) → FineAlone (around c context gives_type none_at callees is_code room) tree → base c + alone_width tree ≤ c.code.registers
      → Does (dropped context tree) (alone_code laid2 tree)
  unfolding eval eval_by
  alone_runs (rose (head.Literal t n) number place parts) fine wide = number_alone (rose (head.Literal t n) number place parts) t fine refl wide
  alone_runs (rose (head.Sizeof t) number place parts) fine wide = number_alone (rose (head.Sizeof t) number place parts) SizeT fine refl wide
  alone_runs (rose (head.Constant which) number place parts) fine wide = absurd fine.0
  alone_runs (rose (head.Local slot (type.C t)) number place parts) fine wide = number_alone (rose (head.Local slot (type.C t)) number place parts) t fine refl wide
  alone_runs (rose (head.Local slot type.Object) number place parts) fine wide = absurd fine.0
  alone_runs (rose (head.Local slot (type.View t)) number place parts) fine wide = absurd fine.0
  alone_runs (rose (head.Local slot type.Void) number place parts) fine wide = absurd fine.0
  alone_runs (rose (head.ModuleName name) number place parts) fine wide = absurd fine.0
  alone_runs (rose (head.Given (type.C t)) number place parts) fine wide = number_alone (rose (head.Given (type.C t)) number place parts) t fine refl wide
  alone_runs (rose (head.Given type.Object) number place parts) fine wide = absurd fine.0
  alone_runs (rose (head.Given (type.View t)) number place parts) fine wide = absurd fine.0
  alone_runs (rose (head.Given type.Void) number place parts) fine wide = absurd fine.0
  alone_runs (rose (head.Kept t) number place parts) fine wide = absurd fine.0
  alone_runs (rose (head.Converted (conversion.ToC t)) number place parts) fine wide = number_alone (rose (head.Converted (conversion.ToC t)) number place parts) t fine refl wide
  alone_runs (rose (head.Converted (conversion.ToObject t)) number place parts) fine wide = absurd fine.0
  alone_runs (rose (head.Converted (conversion.FromObject t)) number place parts) fine wide = absurd fine.0
  alone_runs (rose (head.Converted conversion.Truth) number place parts) fine wide = absurd fine.0
  alone_runs (rose (head.Converted (conversion.ViewOfObject t)) number place parts) fine wide = absurd fine.0
  alone_runs (rose (head.Converted (conversion.ViewOfView t)) number place parts) fine wide = absurd fine.0
  alone_runs (rose (head.Cast (type.C t)) number place parts) fine wide = number_alone (rose (head.Cast (type.C t)) number place parts) t fine refl wide
  alone_runs (rose (head.Cast type.Object) number place parts) fine wide = absurd fine.0
  alone_runs (rose (head.Cast (type.View t)) number place parts) fine wide = absurd fine.0
  alone_runs (rose (head.Cast type.Void) number place parts) fine wide = absurd fine.0
  alone_runs (rose (head.Steps (type.C t)) number place parts) fine wide = number_alone (rose (head.Steps (type.C t)) number place parts) t fine refl wide
  alone_runs (rose (head.Steps type.Object) number place parts) fine wide = absurd fine.0
  alone_runs (rose (head.Steps (type.View t)) number place parts) fine wide = absurd fine.0
  alone_runs (rose (head.Steps type.Void) number place parts) fine wide = absurd fine.0
  alone_runs (rose (head.Unary op t) number place parts) fine wide = number_alone (rose (head.Unary op t) number place parts) t fine refl wide
  alone_runs (rose (head.Binary op t truncates) number place parts) fine wide = number_alone (rose (head.Binary op t truncates) number place parts) t fine refl wide
  alone_runs (rose (head.Compare (comparing.C op t)) number place parts) fine wide = number_alone (rose (head.Compare (comparing.C op t)) number place parts) Bint fine refl wide
  alone_runs (rose (head.Compare (comparing.Objects op)) number place parts) fine wide = absurd fine.0
  alone_runs (rose (head.Compare comparing.In) number place parts) fine wide = absurd fine.0
  alone_runs (rose (head.Compare comparing.NotIn) number place parts) fine wide = absurd fine.0
  alone_runs (rose (head.Compare comparing.Is) number place parts) fine wide = absurd fine.0
  alone_runs (rose (head.Compare comparing.IsNot) number place parts) fine wide = absurd fine.0
  alone_runs (rose head.Comparisons number place parts) fine wide = absurd fine.0
  alone_runs (rose head.Not number place parts) fine wide = absurd fine.0
  alone_runs (rose (head.And t) number place parts) fine wide = absurd fine.0
  alone_runs (rose (head.Or t) number place parts) fine wide = absurd fine.0
  alone_runs (rose (head.Conditional t) number place parts) fine wide = absurd fine.0
  alone_runs (rose (head.Call function (type.C t)) number place none) fine wide = record { run = λ pc q s scope has agree. call_runs function (type.C t) fine pc q s scope has agree }
  alone_runs (rose (head.Call function type.Object) number place none) fine wide = record { run = λ pc q s scope has agree. call_runs function type.Object fine pc q s scope has agree }
  alone_runs (rose (head.Call function type.Void) number place none) fine wide = record { run = λ pc q s scope has agree. call_runs function type.Void fine pc q s scope has agree }
  alone_runs (rose (head.Call function (type.View t)) number place none) fine wide = absurd fine.1
  alone_runs (rose (head.Call function t) number place (more tree trees)) fine wide = absurd fine
  alone_runs (rose (head.Abs t) number place parts) fine wide = number_alone (rose (head.Abs t) number place parts) t fine refl wide
  alone_runs (rose (head.Min t) number place parts) fine wide = absurd fine.0
  alone_runs (rose (head.Max t) number place parts) fine wide = absurd fine.0
  alone_runs (rose head.ThreadId number place parts) fine wide = absurd fine.0
  alone_runs (rose (head.ObjectUnary op) number place parts) fine wide = absurd fine.0
  alone_runs (rose (head.ObjectBinary op) number place parts) fine wide = absurd fine.0
  alone_runs (rose head.Tuple number place parts) fine wide = absurd fine.0
  alone_runs (rose head.List number place parts) fine wide = absurd fine.0
  alone_runs (rose head.Dict number place parts) fine wide = absurd fine.0
  alone_runs (rose head.Item number place parts) fine wide = absurd fine.0
  alone_runs (rose (head.Part has_from has_to has_step) number place parts) fine wide = absurd fine.0
  alone_runs (rose (head.Method method) number place parts) fine wide = absurd fine.0
  alone_runs (rose (head.Builtin builtin.Print) number place parts) fine wide = record {
    run = λ pc q s scope has agree.
        print_runs c context gives_type none_at callees is_code room parts fine.1.0 fine.1.1 (omega (arith, wide)) pc q s scope has agree;
  }
  alone_runs (rose (head.Builtin builtin.Input) number place parts) fine wide = absurd fine.0
  alone_runs (rose (head.Builtin builtin.Len) number place parts) fine wide = absurd fine.0
  alone_runs (rose (head.Builtin builtin.Int) number place parts) fine wide = absurd fine.0
  alone_runs (rose (head.Builtin builtin.Str) number place parts) fine wide = absurd fine.0
  alone_runs (rose (head.Builtin builtin.Repr) number place parts) fine wide = absurd fine.0
  alone_runs (rose (head.Builtin builtin.Bool) number place parts) fine wide = absurd fine.0
  alone_runs (rose (head.Builtin builtin.List) number place parts) fine wide = absurd fine.0
  alone_runs (rose (head.Builtin builtin.Tuple) number place parts) fine wide = absurd fine.0
  alone_runs (rose (head.Builtin builtin.Abs) number place parts) fine wide = absurd fine.0
  alone_runs (rose (head.Builtin builtin.Min) number place parts) fine wide = absurd fine.0
  alone_runs (rose (head.Builtin builtin.Max) number place parts) fine wide = absurd fine.0
  alone_runs (rose (head.Builtin builtin.Range) number place parts) fine wide = absurd fine.0
  alone_runs (rose (head.Element t wraparound) number place parts) fine wide = absurd fine.0
  alone_runs (rose (head.ViewPart t wraparound) number place parts) fine wide = absurd fine.0
  alone_runs (rose head.Index number place parts) fine wide = absurd fine.0
  alone_runs (rose (head.Slice has_from has_to has_step) number place parts) fine wide = absurd fine.0
  alone_runs (rose head.NewAxis number place parts) fine wide = absurd fine.0
  alone_runs (rose head.Ellipsis number place parts) fine wide = absurd fine.0
  alone_runs (rose (head.Transposed t) number place parts) fine wide = absurd fine.0
  alone_runs (rose (head.Copied t) number place parts) fine wide = absurd fine.0
  alone_runs (rose head.Length number place parts) fine wide = absurd fine.0
  alone_runs (rose (head.Extent axis) number place parts) fine wide = absurd fine.0
  alone_runs (rose head.Array number place parts) fine wide = absurd fine.0
  alone_runs (rose (head.Keyword keyword) number place parts) fine wide = absurd fine.0
  alone_runs (rose head.Expression number place parts) fine wide = absurd fine.0
  alone_runs (rose head.Assign number place parts) fine wide = absurd fine.0
  alone_runs (rose head.AssignEach number place parts) fine wide = absurd fine.0
  alone_runs (rose head.Unpack number place parts) fine wide = absurd fine.0
  alone_runs (rose (head.Augment op) number place parts) fine wide = absurd fine.0
  alone_runs (rose head.Declare number place parts) fine wide = absurd fine.0
  alone_runs (rose (head.Declarator slot t) number place parts) fine wide = absurd fine.0
  alone_runs (rose head.Pass number place parts) fine wide = absurd fine.0
  alone_runs (rose head.Break number place parts) fine wide = absurd fine.0
  alone_runs (rose head.Continue number place parts) fine wide = absurd fine.0
  alone_runs (rose head.Return number place parts) fine wide = absurd fine.0
  alone_runs (rose (head.Raise kind) number place parts) fine wide = absurd fine.0
  alone_runs (rose head.Reraise number place parts) fine wide = absurd fine.0
  alone_runs (rose (head.Try clauses has_else has_finally) number place parts) fine wide = absurd fine.0
  alone_runs (rose head.Block number place parts) fine wide = absurd fine.0
  alone_runs (rose (head.Handler kinds assigns) number place parts) fine wide = absurd fine.0
  alone_runs (rose (head.Catches kind) number place parts) fine wide = absurd fine.0
  alone_runs (rose head.CatchesAll number place parts) fine wide = absurd fine.0
  alone_runs (rose head.Global number place parts) fine wide = absurd fine.0
  alone_runs (rose (head.If arms has_else) number place parts) fine wide = absurd fine.0
  alone_runs (rose head.Arm number place parts) fine wide = absurd fine.0
  alone_runs (rose head.While number place parts) fine wide = absurd fine.0
  alone_runs (rose (head.Range arguments) number place parts) fine wide = absurd fine.0
  alone_runs (rose head.Over number place parts) fine wide = absurd fine.0
  alone_runs (rose (head.Parallel arguments nogil schedule) number place parts) fine wide = absurd fine.0
  alone_runs (rose head.ChunkSize number place parts) fine wide = absurd fine.0
  alone_runs (rose head.TeamSize number place parts) fine wide = absurd fine.0
  alone_runs (rose head.WithGil number place parts) fine wide = absurd fine.0
  alone_runs (rose head.WithNogil number place parts) fine wide = absurd fine.0
  alone_runs (rose (head.ParallelBlock has_size) number place parts) fine wide = absurd fine.0

  -- ---- variables

  set_by : (at_hand : Option CType) (slot : ℕ) (t : CType) (tree : TypedRose) → slice_get c.locals slot ≡ Some (type.C t) → IsFine c.locals at_hand tree → type_of tree ≡ type.C t → base c + width tree ≤ c.code.registers
      → (pc : ℕ) (q : List Slot) (s : State) (scope : Scope) → HasAt c.code.instrs pc (set_code laid2 slot tree pc) → Agree c s q → GivenThere at_hand scope (base c) q
      → Reaches (Ways (pc + length (set_code laid2 slot tree pc))) (at pc q s) (eval context tree scope s >>= on_value (assign_local slot (type.C t)))
  unfolding act
  set_by at_hand slot t tree local fine typed wide pc q s scope has agree given =
      let code = expression_code tree pc (base c) in
      let move = instr.Move (register slot) (register (base c)) in
      let end : pc + length code + 1 ≡ pc + length (code ++ move ∷ []) = omega (arith, length-append code (move ∷ [])) in
      value_by (assign_local slot (type.C t)) ((expression_runs c context is_code tree at_hand t fine typed).run pc (base c) q s scope (has_front _ pc code _ has) (omega arith) wide agree given)
      (λ v s1 step p.
      let m = member_at c (pc + length code) p.after s1.store s1.turns in
      subst (λ x. Reaches (Ways (pc + length (code ++ move ∷ []))) step (assign_local slot (type.C t) x s1)) (sym p.is_number)
      (subst (λ w. Reaches (Ways (pc + length (code ++ move ∷ []))) w (assign_local slot (type.C t) (value.whole p.number) s1)) (sym p.goes_on)
      (one c context is_code _ (pc + length code) p.after s1.store s1.turns move _ (has_back _ pc code _ has).0
      (subst (λ u. Reaches (Ways (pc + length (code ++ move ∷ []))) (moved (register slot) (register (base c)) u m) (done (gives next (assigned slot (value.whole p.number) s1)))) (sym p.there)
      (arrives (record {
        after = slice_set p.after slot (whole p.number);
        agree = agrees_assigned c context is_code roomy slot t p.number local p.is_value p.agree;
        goes_on = ap (λ n. at n (slice_set p.after slot (whole p.number)) (assigned slot (value.whole p.number) s1)) end;
      }))))))

  set_runs : (slot : ℕ) (t : CType) (tree : TypedRose) → FineSet (around c context gives_type none_at callees is_code room) slot (type.C t) tree → base c + width tree ≤ c.code.registers
      → Does (λ scope s. eval context tree scope s >>= on_value (assign_local slot (type.C t))) (set_code laid2 slot tree)
  set_runs slot t tree fine wide = record { run = λ pc q s scope has agree. set_by None slot t tree fine.0 fine.1.fine fine.1.typed wide pc q s scope has agree tt }

  augment_runs : (slot : ℕ) (t : CType) (number : ℕ) (place : Span) (parts : Roses TypedHead) (tree : TypedRose)
      → FineAugmented (around c context gives_type none_at callees is_code room) (rose (head.Local slot (type.C t)) number place parts) slot t tree
      → base c + width (rose (head.Local slot (type.C t)) number place parts) ≤ c.code.registers → base c + width tree ≤ c.code.registers
      → Does (λ scope s. eval context (rose (head.Local slot (type.C t)) number place parts) scope s >>= on_value (λ old s1. eval context tree (giving old scope) s1 >>= on_value (assign_local slot (type.C t))))
      (λ pc. behind (expression_code (rose (head.Local slot (type.C t)) number place parts) pc (base c)) (set_code laid2 slot tree) pc)
  augment_runs slot t number place parts tree fine wide wide2 = record {
    run = λ pc q s scope has agree.
        let target = rose (head.Local slot (type.C t)) number place parts in
        let code = expression_code target pc (base c) in
        let others = set_code laid2 slot tree (pc + length code) in
        let end : pc + length code + length others ≡ pc + length (code ++ others) = omega (arith, length-append code others) in
        value_by (λ old s1. eval context tree (giving old scope) s1 >>= on_value (assign_local slot (type.C t)))
        ((expression_runs c context is_code target None t fine.target_fine refl).run pc (base c) q s scope (has_front _ pc code _ has) (omega arith) wide agree tt)
        (λ old s1 step p.
        subst (λ w. Reaches (Ways (pc + length (code ++ others))) w (eval context tree (giving old scope) s1 >>= on_value (assign_local slot (type.C t)))) (sym p.goes_on)
        (subst (λ n. Reaches (Ways n) (at (pc + length code) p.after s1) (eval context tree (giving old scope) s1 >>= on_value (assign_local slot (type.C t)))) end
        (set_by (Some t) slot t tree fine.local fine.fine fine.typed wide2 (pc + length code) p.after s1 (giving old scope) (has_back _ pc code _ has) p.agree
        (record { number = p.number; is_given = ap (λ x. Some x) p.is_number; is_value = p.is_value; there = p.there }))));
  }

  target_runs : (h : TypedHead) (target tree : TypedRose) → FineTarget (around c context gives_type none_at callees is_code room) h tree → base c + width tree ≤ c.code.registers
      → Does (λ scope s. eval context tree scope s >>= on_value (assign_to h)) (target_code laid2 h tree)
  target_runs (head.Literal t n) target tree fine wide = absurd fine
  target_runs (head.Sizeof t) target tree fine wide = absurd fine
  target_runs (head.Constant which) target tree fine wide = absurd fine
  target_runs (head.Local slot (type.C t)) target tree fine wide = set_runs slot t tree fine wide
  target_runs (head.Local slot type.Object) target tree fine wide = absurd fine
  target_runs (head.Local slot (type.View t)) target tree fine wide = absurd fine
  target_runs (head.Local slot type.Void) target tree fine wide = absurd fine
  target_runs (head.ModuleName name) target tree fine wide = absurd fine
  target_runs (head.Given t) target tree fine wide = absurd fine
  target_runs (head.Kept t) target tree fine wide = absurd fine
  target_runs (head.Converted asked) target tree fine wide = absurd fine
  target_runs (head.Cast t) target tree fine wide = absurd fine
  target_runs (head.Steps t) target tree fine wide = absurd fine
  target_runs (head.Unary op t) target tree fine wide = absurd fine
  target_runs (head.Binary op t truncates) target tree fine wide = absurd fine
  target_runs (head.Compare how) target tree fine wide = absurd fine
  target_runs head.Comparisons target tree fine wide = absurd fine
  target_runs head.Not target tree fine wide = absurd fine
  target_runs (head.And t) target tree fine wide = absurd fine
  target_runs (head.Or t) target tree fine wide = absurd fine
  target_runs (head.Conditional t) target tree fine wide = absurd fine
  target_runs (head.Call function t) target tree fine wide = absurd fine
  target_runs (head.Abs t) target tree fine wide = absurd fine
  target_runs (head.Min t) target tree fine wide = absurd fine
  target_runs (head.Max t) target tree fine wide = absurd fine
  target_runs head.ThreadId target tree fine wide = absurd fine
  target_runs (head.ObjectUnary op) target tree fine wide = absurd fine
  target_runs (head.ObjectBinary op) target tree fine wide = absurd fine
  target_runs head.Tuple target tree fine wide = absurd fine
  target_runs head.List target tree fine wide = absurd fine
  target_runs head.Dict target tree fine wide = absurd fine
  target_runs head.Item target tree fine wide = absurd fine
  target_runs (head.Part has_from has_to has_step) target tree fine wide = absurd fine
  target_runs (head.Method method) target tree fine wide = absurd fine
  target_runs (head.Builtin what) target tree fine wide = absurd fine
  target_runs (head.Element t wraparound) target tree fine wide = absurd fine
  target_runs (head.ViewPart t wraparound) target tree fine wide = absurd fine
  target_runs head.Index target tree fine wide = absurd fine
  target_runs (head.Slice has_from has_to has_step) target tree fine wide = absurd fine
  target_runs head.NewAxis target tree fine wide = absurd fine
  target_runs head.Ellipsis target tree fine wide = absurd fine
  target_runs (head.Transposed t) target tree fine wide = absurd fine
  target_runs (head.Copied t) target tree fine wide = absurd fine
  target_runs head.Length target tree fine wide = absurd fine
  target_runs (head.Extent axis) target tree fine wide = absurd fine
  target_runs head.Array target tree fine wide = absurd fine
  target_runs (head.Keyword keyword) target tree fine wide = absurd fine
  target_runs head.Expression target tree fine wide = absurd fine
  target_runs head.Assign target tree fine wide = absurd fine
  target_runs head.AssignEach target tree fine wide = absurd fine
  target_runs head.Unpack target tree fine wide = absurd fine
  target_runs (head.Augment op) target tree fine wide = absurd fine
  target_runs head.Declare target tree fine wide = absurd fine
  target_runs (head.Declarator slot t) target tree fine wide = absurd fine
  target_runs head.Pass target tree fine wide = absurd fine
  target_runs head.Break target tree fine wide = absurd fine
  target_runs head.Continue target tree fine wide = absurd fine
  target_runs head.Return target tree fine wide = absurd fine
  target_runs (head.Raise kind) target tree fine wide = absurd fine
  target_runs head.Reraise target tree fine wide = absurd fine
  target_runs (head.Try clauses has_else has_finally) target tree fine wide = absurd fine
  target_runs head.Block target tree fine wide = absurd fine
  target_runs (head.Handler kinds assigns) target tree fine wide = absurd fine
  target_runs (head.Catches kind) target tree fine wide = absurd fine
  target_runs head.CatchesAll target tree fine wide = absurd fine
  target_runs head.Global target tree fine wide = absurd fine
  target_runs (head.If arms has_else) target tree fine wide = absurd fine
  target_runs head.Arm target tree fine wide = absurd fine
  target_runs head.While target tree fine wide = absurd fine
  target_runs (head.Range arguments) target tree fine wide = absurd fine
  target_runs head.Over target tree fine wide = absurd fine
  target_runs (head.Parallel arguments nogil schedule) target tree fine wide = absurd fine
  target_runs head.ChunkSize target tree fine wide = absurd fine
  target_runs head.TeamSize target tree fine wide = absurd fine
  target_runs head.WithGil target tree fine wide = absurd fine
  target_runs head.WithNogil target tree fine wide = absurd fine
  target_runs (head.ParallelBlock has_size) target tree fine wide = absurd fine

  -- ---- `return` with a number

  return_by : (g : ValueType) → gives_type ≡ g → (tree : TypedRose) → FineReturned (around c context gives_type none_at callees is_code room) g tree → base c + width tree ≤ c.code.registers
      → Does (λ scope s. eval context tree scope s >>= on_value (λ v s1. done (gives (returns v) s1))) (λ pc. expression_code tree pc (base c) ++ instr.Return (register (base c)) ∷ [])
  return_by (type.C t) is tree fine wide = record {
    run = λ pc q s scope has agree.
        let code = expression_code tree pc (base c) in
        value_by (λ v s1. done (gives (returns v) s1)) ((expression_runs c context is_code tree None t fine.fine fine.typed).run pc (base c) q s scope (has_front _ pc code _ has) (omega arith) wide agree tt)
        (λ v s1 step p. arrives (inr (record {
          given = t;
          gives = is;
          number = p.number;
          is = p.is_number;
          in_type = p.is_value;
          pc = pc + length code;
          after = p.after;
          agree = p.agree;
          there = p.there;
          has = has_back _ pc code _ has;
          goes_on = p.goes_on;
        })));
  }
  return_by type.Object is tree fine wide = absurd fine
  return_by (type.View t) is tree fine wide = absurd fine
  return_by type.Void is tree fine wide = absurd fine

  -- ---- one statement after another

  abbrev pub AllDo : List Execution → List StatementEmission → Type 0
  AllDo [] [] = Unit {0}
  AllDo [] (code ∷ codes) = ⊥
  AllDo (e ∷ es) [] = ⊥
  AllDo (e ∷ es) (code ∷ codes) = Does e code × AllDo es codes

  then_by : (xs : List Execution) (scope : Scope) (pc end : ℕ) (flow : Flow) (s : State) (step : Step) → Ways pc flow s step
      → ((q : List Slot) → Agree c s q → Reaches (Ways end) (at pc q s) (in_turn xs scope s))
      → Reaches (Ways end) step (then_do (in_turn xs scope) flow s)
  then_by xs scope pc end next s step p after = subst (λ w. Reaches (Ways end) w (in_turn xs scope s)) (sym p.goes_on) (after p.after p.agree)
  then_by xs scope pc end continues s step p after = absurd p
  then_by xs scope pc end breaks s step p after = absurd p
  then_by xs scope pc end (returns v) s step p after = arrives p

  pub in_turn_runs : (es : List Execution) (codes : List StatementEmission) → AllDo es codes → (pc : ℕ) (q : List Slot) (s : State) (scope : Scope)
      → HasAt c.code.instrs pc (in_turn_code codes pc) → Agree c s q → Reaches (Ways (pc + length (in_turn_code codes pc))) (at pc q s) (in_turn es scope s)
  in_turn_runs [] [] all pc q s scope has agree = nothing_runs.run pc q s scope has agree
  in_turn_runs [] (code ∷ codes) all pc q s scope has agree = absurd all
  in_turn_runs (e ∷ es) [] all pc q s scope has agree = absurd all
  in_turn_runs (e ∷ es) (code ∷ codes) all pc q s scope has agree =
      let first = code pc in
      let others = in_turn_code codes (pc + length first) in
      let end : pc + length first + length others ≡ pc + length (first ++ others) = omega (arith, length-append first others) in
      value_by (then_do (in_turn es scope)) (all.0.run pc q s scope (has_front _ pc first _ has) agree)
      (λ flow s1 step p.
      then_by es scope (pc + length first) (pc + length (first ++ others)) flow s1 step p (λ q1 agree1.
      subst (λ n. Reaches (Ways n) (at (pc + length first) q1 s1) (in_turn es scope s1)) end
      (in_turn_runs es codes all.1 (pc + length first) q1 s1 scope (has_back _ pc first _ has) agree1)))

  -- ---- by the head

  by_head : (h : TypedHead) (parts : Roses TypedHead) (steps : List Execution) (branches : List Branch)
      → FineStatementBy (around c context gives_type none_at callees is_code room) h parts (AreFineStatements (around c context gives_type none_at callees is_code room) parts)
      → (AreFineStatements (around c context gives_type none_at callees is_code room) parts → base c + statement_widths parts ≤ c.code.registers → AllDo (executions context parts) (statement_codes laid2 parts))
      → base c + statement_width_by h parts (statement_widths parts) ≤ c.code.registers
      → Does (exec_by context h (listed parts) (executions context parts) (branches_of context parts)) (statement_by laid2 h parts (statement_codes laid2 parts))
  unfolding exec_by statement_by
  by_head (head.Literal t n) parts steps branches fine inner wide = absurd fine
  by_head (head.Sizeof t) parts steps branches fine inner wide = absurd fine
  by_head (head.Constant which) parts steps branches fine inner wide = absurd fine
  by_head (head.Local slot t) parts steps branches fine inner wide = absurd fine
  by_head (head.ModuleName name) parts steps branches fine inner wide = absurd fine
  by_head (head.Given t) parts steps branches fine inner wide = absurd fine
  by_head (head.Kept t) parts steps branches fine inner wide = absurd fine
  by_head (head.Converted asked) parts steps branches fine inner wide = absurd fine
  by_head (head.Cast t) parts steps branches fine inner wide = absurd fine
  by_head (head.Steps t) parts steps branches fine inner wide = absurd fine
  by_head (head.Unary op t) parts steps branches fine inner wide = absurd fine
  by_head (head.Binary op t truncates) parts steps branches fine inner wide = absurd fine
  by_head (head.Compare how) parts steps branches fine inner wide = absurd fine
  by_head head.Comparisons parts steps branches fine inner wide = absurd fine
  by_head head.Not parts steps branches fine inner wide = absurd fine
  by_head (head.And t) parts steps branches fine inner wide = absurd fine
  by_head (head.Or t) parts steps branches fine inner wide = absurd fine
  by_head (head.Conditional t) parts steps branches fine inner wide = absurd fine
  by_head (head.Call function t) parts steps branches fine inner wide = absurd fine
  by_head (head.Abs t) parts steps branches fine inner wide = absurd fine
  by_head (head.Min t) parts steps branches fine inner wide = absurd fine
  by_head (head.Max t) parts steps branches fine inner wide = absurd fine
  by_head head.ThreadId parts steps branches fine inner wide = absurd fine
  by_head (head.ObjectUnary op) parts steps branches fine inner wide = absurd fine
  by_head (head.ObjectBinary op) parts steps branches fine inner wide = absurd fine
  by_head head.Tuple parts steps branches fine inner wide = absurd fine
  by_head head.List parts steps branches fine inner wide = absurd fine
  by_head head.Dict parts steps branches fine inner wide = absurd fine
  by_head head.Item parts steps branches fine inner wide = absurd fine
  by_head (head.Part has_from has_to has_step) parts steps branches fine inner wide = absurd fine
  by_head (head.Method method) parts steps branches fine inner wide = absurd fine
  by_head (head.Builtin what) parts steps branches fine inner wide = absurd fine
  by_head (head.Element t wraparound) parts steps branches fine inner wide = absurd fine
  by_head (head.ViewPart t wraparound) parts steps branches fine inner wide = absurd fine
  by_head head.Index parts steps branches fine inner wide = absurd fine
  by_head (head.Slice has_from has_to has_step) parts steps branches fine inner wide = absurd fine
  by_head head.NewAxis parts steps branches fine inner wide = absurd fine
  by_head head.Ellipsis parts steps branches fine inner wide = absurd fine
  by_head (head.Transposed t) parts steps branches fine inner wide = absurd fine
  by_head (head.Copied t) parts steps branches fine inner wide = absurd fine
  by_head head.Length parts steps branches fine inner wide = absurd fine
  by_head (head.Extent axis) parts steps branches fine inner wide = absurd fine
  by_head head.Array parts steps branches fine inner wide = absurd fine
  by_head (head.Keyword keyword) parts steps branches fine inner wide = absurd fine
  by_head head.Expression none steps branches fine inner wide = absurd fine
  by_head head.Expression (more tree none) steps branches fine inner wide = record { run = λ pc q s scope has agree. (alone_runs tree fine (omega (arith, wide))).run pc q s scope has agree }
  by_head head.Expression (more tree (more other trees)) steps branches fine inner wide = absurd fine
  by_head head.Assign none steps branches fine inner wide = absurd fine
  by_head head.Assign (more (rose target number place parts) none) steps branches fine inner wide = absurd fine
  by_head head.Assign (more (rose target number place parts) (more tree none)) steps branches fine inner wide = record {
    run = λ pc q s scope has agree.
        (target_runs target (rose target number place parts) tree fine (omega (arith, wide))).run pc q s scope has agree;
  }
  by_head head.Assign (more (rose target number place parts) (more tree (more other trees))) steps branches fine inner wide = absurd fine
  by_head head.AssignEach parts steps branches fine inner wide = absurd fine
  by_head head.Unpack parts steps branches fine inner wide = absurd fine
  by_head (head.Augment op) none steps branches fine inner wide = absurd fine
  by_head (head.Augment op) (more (rose target number place parts) none) steps branches fine inner wide = absurd fine
  by_head (head.Augment op) (more (rose target number place parts) (more tree (more other trees))) steps branches fine inner wide = absurd fine
  by_head (head.Augment op) (more (rose (head.Literal t n) number place parts) (more tree none)) steps branches fine inner wide = absurd fine
  by_head (head.Augment op) (more (rose (head.Sizeof t) number place parts) (more tree none)) steps branches fine inner wide = absurd fine
  by_head (head.Augment op) (more (rose (head.Constant which) number place parts) (more tree none)) steps branches fine inner wide = absurd fine
  by_head (head.Augment op) (more (rose (head.Local slot (type.C t)) number place parts) (more tree none)) steps branches fine inner wide = record {
    run = λ pc q s scope has agree.
        (augment_runs slot t number place parts tree fine (omega (arith, wide)) (omega (arith, wide))).run pc q s scope has agree;
  }
  by_head (head.Augment op) (more (rose (head.Local slot type.Object) number place parts) (more tree none)) steps branches fine inner wide = absurd fine
  by_head (head.Augment op) (more (rose (head.Local slot (type.View t)) number place parts) (more tree none)) steps branches fine inner wide = absurd fine
  by_head (head.Augment op) (more (rose (head.Local slot type.Void) number place parts) (more tree none)) steps branches fine inner wide = absurd fine
  by_head (head.Augment op) (more (rose (head.ModuleName name) number place parts) (more tree none)) steps branches fine inner wide = absurd fine
  by_head (head.Augment op) (more (rose (head.Given t) number place parts) (more tree none)) steps branches fine inner wide = absurd fine
  by_head (head.Augment op) (more (rose (head.Kept t) number place parts) (more tree none)) steps branches fine inner wide = absurd fine
  by_head (head.Augment op) (more (rose (head.Converted asked) number place parts) (more tree none)) steps branches fine inner wide = absurd fine
  by_head (head.Augment op) (more (rose (head.Cast t) number place parts) (more tree none)) steps branches fine inner wide = absurd fine
  by_head (head.Augment op) (more (rose (head.Steps t) number place parts) (more tree none)) steps branches fine inner wide = absurd fine
  by_head (head.Augment op) (more (rose (head.Unary op2 t) number place parts) (more tree none)) steps branches fine inner wide = absurd fine
  by_head (head.Augment op) (more (rose (head.Binary op2 t truncates) number place parts) (more tree none)) steps branches fine inner wide = absurd fine
  by_head (head.Augment op) (more (rose (head.Compare how) number place parts) (more tree none)) steps branches fine inner wide = absurd fine
  by_head (head.Augment op) (more (rose head.Comparisons number place parts) (more tree none)) steps branches fine inner wide = absurd fine
  by_head (head.Augment op) (more (rose head.Not number place parts) (more tree none)) steps branches fine inner wide = absurd fine
  by_head (head.Augment op) (more (rose (head.And t) number place parts) (more tree none)) steps branches fine inner wide = absurd fine
  by_head (head.Augment op) (more (rose (head.Or t) number place parts) (more tree none)) steps branches fine inner wide = absurd fine
  by_head (head.Augment op) (more (rose (head.Conditional t) number place parts) (more tree none)) steps branches fine inner wide = absurd fine
  by_head (head.Augment op) (more (rose (head.Call function t) number place parts) (more tree none)) steps branches fine inner wide = absurd fine
  by_head (head.Augment op) (more (rose (head.Abs t) number place parts) (more tree none)) steps branches fine inner wide = absurd fine
  by_head (head.Augment op) (more (rose (head.Min t) number place parts) (more tree none)) steps branches fine inner wide = absurd fine
  by_head (head.Augment op) (more (rose (head.Max t) number place parts) (more tree none)) steps branches fine inner wide = absurd fine
  by_head (head.Augment op) (more (rose head.ThreadId number place parts) (more tree none)) steps branches fine inner wide = absurd fine
  by_head (head.Augment op) (more (rose (head.ObjectUnary op2) number place parts) (more tree none)) steps branches fine inner wide = absurd fine
  by_head (head.Augment op) (more (rose (head.ObjectBinary op2) number place parts) (more tree none)) steps branches fine inner wide = absurd fine
  by_head (head.Augment op) (more (rose head.Tuple number place parts) (more tree none)) steps branches fine inner wide = absurd fine
  by_head (head.Augment op) (more (rose head.List number place parts) (more tree none)) steps branches fine inner wide = absurd fine
  by_head (head.Augment op) (more (rose head.Dict number place parts) (more tree none)) steps branches fine inner wide = absurd fine
  by_head (head.Augment op) (more (rose head.Item number place parts) (more tree none)) steps branches fine inner wide = absurd fine
  by_head (head.Augment op) (more (rose (head.Part has_from has_to has_step) number place parts) (more tree none)) steps branches fine inner wide = absurd fine
  by_head (head.Augment op) (more (rose (head.Method method) number place parts) (more tree none)) steps branches fine inner wide = absurd fine
  by_head (head.Augment op) (more (rose (head.Builtin what) number place parts) (more tree none)) steps branches fine inner wide = absurd fine
  by_head (head.Augment op) (more (rose (head.Element t wraparound) number place parts) (more tree none)) steps branches fine inner wide = absurd fine
  by_head (head.Augment op) (more (rose (head.ViewPart t wraparound) number place parts) (more tree none)) steps branches fine inner wide = absurd fine
  by_head (head.Augment op) (more (rose head.Index number place parts) (more tree none)) steps branches fine inner wide = absurd fine
  by_head (head.Augment op) (more (rose (head.Slice has_from has_to has_step) number place parts) (more tree none)) steps branches fine inner wide = absurd fine
  by_head (head.Augment op) (more (rose head.NewAxis number place parts) (more tree none)) steps branches fine inner wide = absurd fine
  by_head (head.Augment op) (more (rose head.Ellipsis number place parts) (more tree none)) steps branches fine inner wide = absurd fine
  by_head (head.Augment op) (more (rose (head.Transposed t) number place parts) (more tree none)) steps branches fine inner wide = absurd fine
  by_head (head.Augment op) (more (rose (head.Copied t) number place parts) (more tree none)) steps branches fine inner wide = absurd fine
  by_head (head.Augment op) (more (rose head.Length number place parts) (more tree none)) steps branches fine inner wide = absurd fine
  by_head (head.Augment op) (more (rose (head.Extent axis) number place parts) (more tree none)) steps branches fine inner wide = absurd fine
  by_head (head.Augment op) (more (rose head.Array number place parts) (more tree none)) steps branches fine inner wide = absurd fine
  by_head (head.Augment op) (more (rose (head.Keyword keyword) number place parts) (more tree none)) steps branches fine inner wide = absurd fine
  by_head (head.Augment op) (more (rose head.Expression number place parts) (more tree none)) steps branches fine inner wide = absurd fine
  by_head (head.Augment op) (more (rose head.Assign number place parts) (more tree none)) steps branches fine inner wide = absurd fine
  by_head (head.Augment op) (more (rose head.AssignEach number place parts) (more tree none)) steps branches fine inner wide = absurd fine
  by_head (head.Augment op) (more (rose head.Unpack number place parts) (more tree none)) steps branches fine inner wide = absurd fine
  by_head (head.Augment op) (more (rose (head.Augment op2) number place parts) (more tree none)) steps branches fine inner wide = absurd fine
  by_head (head.Augment op) (more (rose head.Declare number place parts) (more tree none)) steps branches fine inner wide = absurd fine
  by_head (head.Augment op) (more (rose (head.Declarator slot t) number place parts) (more tree none)) steps branches fine inner wide = absurd fine
  by_head (head.Augment op) (more (rose head.Pass number place parts) (more tree none)) steps branches fine inner wide = absurd fine
  by_head (head.Augment op) (more (rose head.Break number place parts) (more tree none)) steps branches fine inner wide = absurd fine
  by_head (head.Augment op) (more (rose head.Continue number place parts) (more tree none)) steps branches fine inner wide = absurd fine
  by_head (head.Augment op) (more (rose head.Return number place parts) (more tree none)) steps branches fine inner wide = absurd fine
  by_head (head.Augment op) (more (rose (head.Raise kind) number place parts) (more tree none)) steps branches fine inner wide = absurd fine
  by_head (head.Augment op) (more (rose head.Reraise number place parts) (more tree none)) steps branches fine inner wide = absurd fine
  by_head (head.Augment op) (more (rose (head.Try clauses has_else has_finally) number place parts) (more tree none)) steps branches fine inner wide = absurd fine
  by_head (head.Augment op) (more (rose head.Block number place parts) (more tree none)) steps branches fine inner wide = absurd fine
  by_head (head.Augment op) (more (rose (head.Handler kinds assigns) number place parts) (more tree none)) steps branches fine inner wide = absurd fine
  by_head (head.Augment op) (more (rose (head.Catches kind) number place parts) (more tree none)) steps branches fine inner wide = absurd fine
  by_head (head.Augment op) (more (rose head.CatchesAll number place parts) (more tree none)) steps branches fine inner wide = absurd fine
  by_head (head.Augment op) (more (rose head.Global number place parts) (more tree none)) steps branches fine inner wide = absurd fine
  by_head (head.Augment op) (more (rose (head.If arms has_else) number place parts) (more tree none)) steps branches fine inner wide = absurd fine
  by_head (head.Augment op) (more (rose head.Arm number place parts) (more tree none)) steps branches fine inner wide = absurd fine
  by_head (head.Augment op) (more (rose head.While number place parts) (more tree none)) steps branches fine inner wide = absurd fine
  by_head (head.Augment op) (more (rose (head.Range arguments) number place parts) (more tree none)) steps branches fine inner wide = absurd fine
  by_head (head.Augment op) (more (rose head.Over number place parts) (more tree none)) steps branches fine inner wide = absurd fine
  by_head (head.Augment op) (more (rose (head.Parallel arguments nogil schedule) number place parts) (more tree none)) steps branches fine inner wide = absurd fine
  by_head (head.Augment op) (more (rose head.ChunkSize number place parts) (more tree none)) steps branches fine inner wide = absurd fine
  by_head (head.Augment op) (more (rose head.TeamSize number place parts) (more tree none)) steps branches fine inner wide = absurd fine
  by_head (head.Augment op) (more (rose head.WithGil number place parts) (more tree none)) steps branches fine inner wide = absurd fine
  by_head (head.Augment op) (more (rose head.WithNogil number place parts) (more tree none)) steps branches fine inner wide = absurd fine
  by_head (head.Augment op) (more (rose (head.ParallelBlock has_size) number place parts) (more tree none)) steps branches fine inner wide = absurd fine
  by_head head.Declare parts steps branches fine inner wide = record { run = λ pc q s scope has agree. in_turn_runs (executions context parts) (statement_codes laid2 parts) (inner fine wide) pc q s scope has agree }
  by_head (head.Declarator slot t) none steps branches fine inner wide = nothing_runs
  by_head (head.Declarator slot (type.C t)) (more tree none) steps branches fine inner wide = record { run = λ pc q s scope has agree. (set_runs slot t tree fine (omega (arith, wide))).run pc q s scope has agree }
  by_head (head.Declarator slot type.Object) (more tree none) steps branches fine inner wide = absurd fine
  by_head (head.Declarator slot (type.View t)) (more tree none) steps branches fine inner wide = absurd fine
  by_head (head.Declarator slot type.Void) (more tree none) steps branches fine inner wide = absurd fine
  by_head (head.Declarator slot t) (more tree (more other trees)) steps branches fine inner wide = absurd fine
  by_head head.Pass parts steps branches fine inner wide = nothing_runs
  by_head head.Break parts steps branches fine inner wide = absurd fine
  by_head head.Continue parts steps branches fine inner wide = absurd fine
  by_head head.Return none steps branches fine inner wide = record {
    run = λ pc q s scope has agree.
        arrives (inl (record { is = refl; pc = pc; after = q; agree = agree; has = has; goes_on = refl }));
  }
  by_head head.Return (more tree none) steps branches fine inner wide = return_by gives_type refl tree fine (omega (arith, wide))
  by_head head.Return (more tree (more other trees)) steps branches fine inner wide = absurd fine
  by_head (head.Raise kind) parts steps branches fine inner wide = absurd fine
  by_head head.Reraise parts steps branches fine inner wide = absurd fine
  by_head (head.Try clauses has_else has_finally) parts steps branches fine inner wide = absurd fine
  by_head head.Block parts steps branches fine inner wide = absurd fine
  by_head (head.Handler kinds assigns) parts steps branches fine inner wide = absurd fine
  by_head (head.Catches kind) parts steps branches fine inner wide = absurd fine
  by_head head.CatchesAll parts steps branches fine inner wide = absurd fine
  by_head head.Global parts steps branches fine inner wide = nothing_runs
  by_head (head.If arms has_else) parts steps branches fine inner wide = absurd fine
  by_head head.Arm parts steps branches fine inner wide = absurd fine
  by_head head.While parts steps branches fine inner wide = absurd fine
  by_head (head.Range arguments) parts steps branches fine inner wide = absurd fine
  by_head head.Over parts steps branches fine inner wide = absurd fine
  by_head (head.Parallel arguments nogil schedule) parts steps branches fine inner wide = absurd fine
  by_head head.ChunkSize parts steps branches fine inner wide = absurd fine
  by_head head.TeamSize parts steps branches fine inner wide = absurd fine
  by_head head.WithGil parts steps branches fine inner wide = absurd fine
  by_head head.WithNogil parts steps branches fine inner wide = absurd fine
  by_head (head.ParallelBlock has_size) parts steps branches fine inner wide = absurd fine

  mutual
    unfolding exec statement_code

    pub statement_runs : (tree : TypedRose) → IsFineStatement (around c context gives_type none_at callees is_code room) tree → base c + statement_width tree ≤ c.code.registers
        → Does (exec context tree) (statement_code laid2 tree)
    statement_runs (rose h number at parts) fine wide = by_head h parts (executions context parts) (branches_of context parts) fine (λ inner wide. statements_run parts inner wide) wide

    statements_run : (parts : Roses TypedHead) → AreFineStatements (around c context gives_type none_at callees is_code room) parts → base c + statement_widths parts ≤ c.code.registers
        → AllDo (executions context parts) (statement_codes laid2 parts)
    statements_run none fine wide = tt
    statements_run (more tree trees) fine wide = (statement_runs tree fine.0 (omega (arith, wide)), statements_run trees fine.1 (omega (arith, wide)))
