-- Calls of functions: code follows them, for each number of turns.
use Rattle.std.proofs.Common.{◌≡◌, ℕ, suc, ◌+◌, ◌<◌, ◌≤◌, List, [], ◌∷◌, ◌++◌, length, Option, Some, None, Bool, true, false, refl, sym, ap, ◌∙◌, subst, arith, length-append}
use Rattle.std.specs.Prelude.{pos, ◌-◌, slice_get, slice_index_or, if◌then◌else◌}
use Rattle.std.proofs.lemmas.Option.{slice_get_within}
use Rattle.px_base.specs.declared.c_types.CType.{CType}
use Rattle.px_base.specs.declared.faults.Fault.{Fault}
use Rattle.px_tree.specs.declared.typed_values.ValueType.{ValueType}
use Rattle.px_typed_walk.specs.TypedView.{TypedRose}
use Rattle.px_regcode.specs.declared.instructions.Instr.TheVariants as instr
use Rattle.px_meaning.specs.Values.{Value}
use Rattle.px_meaning.specs.States.{State, variable_at}
use Rattle.px_meaning.specs.Interactions.{Interaction, done, ◌>>=◌}
use Rattle.px_meaning.specs.Ends.{Ends, gives, raised, spent, meaningless, on_value}
use Rattle.px_meaning.specs.Expressions.{Context}
use Rattle.px_meaning.specs.Statements.{in_turn, exec}
use Rattle.px_exprgen.specs.ExpressionCode.{behind}
use Rattle.px_stmtgen.specs.Layouts.{drops, ending_code}
use Rattle.px_machine.specs.Slots.{Slot, empty, whole}
use Rattle.px_machine.specs.Steps.{Step, went}
use Rattle.px_machine.specs.Machine.{act}
use Rattle.px_machine.specs.Follows.{Follows, arrives}
use Rattle.px_machine.specs.Means.{HasStore}
use Rattle.px_code_laws.specs.Settings.{Setting, base, member_at, slot_in, IsDroppable, Stands, Agree, Faults, RunsOut}
use Rattle.px_code_laws.specs.FineStatements.{Surrounding}
use Rattle.px_code_laws.proofs.Followed.{Ending}
use Rattle.px_code_laws.proofs.Expressions.{HasAt, has_front, has_back, one}
use Rattle.px_code_laws.proofs.Agreement.{CallsRun}
use Rattle.px_code_laws.proofs.Printing.{drops_run}
use Rattle.std.specs.Prelude.{map, ◌-◌, not, ◌||◌, nat_eq}
use Rattle.std.proofs.lemmas.List.{length-replicate, take-replicate, get_or-replicate}
use Rattle.px_meaning.specs.Values.{Variable}
use Rattle.px_meaning.specs.States.{opening_variables, new_frame}
use Rattle.px_meaning.specs.Expressions.{outermost}
use Rattle.px_meaning.specs.Calls.{ending_value, flow_value, swallowed}
use Rattle.px_stmtgen.specs.FunctionCode.{zeros, body_code, cleanup, handles, function_code}
use Rattle.px_code_laws.proofs.Followed.{followed_by}
use Rattle.px_machine.specs.Machine.{opening_registers}
use Rattle.px_code_laws.specs.Compiled.{layout_of, IsCode}
use Rattle.px_code_laws.proofs.Followed.{as_said, ends_as}
use Rattle.px_code_laws.proofs.Frames.{has_self, zeros_run, opening_length, opening_none, zero_value, Left, Broke, free_frame, ending_run, body_runs}

or_true : (o : Bool) → o || true ≡ false → true ≡ false
or_true true e = e
or_true false e = e

-- ---- a frame from its opening to its end

-- what a frame begins with
abbrev pub Opened : Setting → State → Type 0
Opened c s = ((s.frame ≡ new_frame (opening_variables (length c.locals) [])) × (s.callers ≡ c.waiting)) × ((s.members ≡ c.members) × ((s.turns ≤ c.bound) × HasStore s.store))

opening_slots_long : (size : ℕ) → length (opening_registers size []) ≡ size
opening_slots_long size = ap length (take-replicate size size empty (omega arith)) ∙ length-replicate size empty

opening_slots_empty : (size k : ℕ) → k < size → slot_in (opening_registers size []) k ≡ empty
opening_slots_empty size k less = ap (λ x. slot_in x k) (take-replicate size size empty (omega arith)) ∙ get_or-replicate size k empty empty less

opened_stand : (t : CType) (s : State) (variables : List Variable) (k : ℕ) (slot : Slot) → s.frame ≡ new_frame variables → slice_index_or variables k None ≡ None → slot ≡ whole (pos 0) → Stands t (variable_at s k) slot
opened_stand t s variables k slot frame unassigned is =
    let e : variable_at s k ≡ None = ap (λ f. slice_index_or f.variables k None) frame ∙ unassigned in
    subst (λ v. Stands t v slot) (sym e) (record { is_number = tt; is_slot = is; is_value = zero_value t })

opened_agrees : (c : Setting) (s : State) (q : List Slot) (count : ℕ) → base c ≤ c.code.registers → count ≡ length c.locals → Opened c s → length q ≡ c.code.registers
    → ((k : ℕ) → k < count → slot_in q k ≡ whole (pos 0)) → ((k : ℕ) → count ≤ k → k < c.code.registers → slot_in q k ≡ empty) → Agree c s q
opened_agrees c s q count roomy counted is size zeroed empty_there = record {
  size = size;
  count = ap (λ f. length f.variables) is.0.0 ∙ opening_length (length c.locals);
  stand = λ k t has. let less = slice_get_within c.locals k _ has in
      opened_stand t s (opening_variables (length c.locals) []) k (slot_in q k) is.0.0 (opening_none (length c.locals) k less) (zeroed k (omega (arith, less, counted)));
  clean = λ k less. subst IsDroppable (sym (empty_there (length c.locals + k) (omega (arith, counted)) (omega (arith, less, roomy)))) tt;
  temporaries = ap (λ f. f.temporaries) is.0.0;
  waiting = is.0.1;
  members = is.1.0;
  turns = is.1.1.0;
  store = λ locked. is.1.1.1;
}

abbrev pub with_handler : Option ℕ → Option Fault → Setting → Setting
with_handler handler caught c = record c { handler = handler; caught = caught }

agrees_as : {c : Setting} {s : State} {q : List Slot} (handler : Option ℕ) (caught : Option Fault) → Agree c s q → Agree (with_handler handler caught c) s q
agrees_as handler caught a = record { size = a.size; count = a.count; stand = a.stand; clean = a.clean; temporaries = a.temporaries; waiting = a.waiting; members = a.members; turns = a.turns; store = a.store }

left_as : {c : Setting} {g : ValueType} (handler : Option ℕ) (caught : Option Fault) (v : Value) (s : State) (step : Step) → Left (with_handler handler caught c) g v s step → Left c g v s step
left_as handler caught v s step x = record { fits = x.fits; free = x.free; waiting = x.waiting; members = x.members; turns = x.turns; store = x.store; goes_on = x.goes_on }

module _ (c : Setting) (context : Context) (gives_type : ValueType) (none_at : ℕ) (callees : List (Option ValueType))
    (is_code : slice_get c.image.codes c.function ≡ Some c.code) (roomy : base c ≤ c.code.registers)
    (locked : c.locked ≡ true) (sw : Bool) (body : List TypedRose)
    (compiled : IsCode (record { locals = c.locals; objects = c.objects; gives = gives_type; none_at = none_at; constants = context.constants; callees = callees; locked = c.locked }) sw body c.code) where
  abbrev pub around_here : Surrounding
  around_here = record { locals = c.locals; objects = c.objects; gives = gives_type; none_at = none_at; constants = context.constants; callees = callees; locked = c.locked }

  -- What the statements of the body come to, and how the run goes on behind them.
  pub record GoesOn {A B : Type 0} (run : State → Interaction (Ends A)) (P : Option ℕ → A → State → Step → Type 0) (k : Ends A → Interaction B) (Q : B → Step → Type 0) : Type 0 where
    pub body_goes : (handler : Option ℕ) (pc : ℕ) (q : List Slot) (s : State) → HasAt c.code.instrs pc (body_code (layout_of around_here) body pc) → Agree (with_handler handler None c) s q
        → Follows c.image (Ending (P handler) (Faults (with_handler handler None c)) (RunsOut (with_handler handler None c))) (went (member_at (with_handler handler None c) pc q s.store s.turns)) (run s)
    pub value_goes : (handler : Option ℕ) (v : A) (s : State) (step : Step) → P handler v s step → Follows c.image Q step (k (gives v s))
    pub fault_goes : (f : Fault) (s : State) (step : Step) → sw ≡ false → Broke c f s step → Follows c.image Q step (k (raised f s))
    pub swallow_goes : (f : Fault) (pc : ℕ) (q : List Slot) (s : State) → sw ≡ true → HasAt c.code.instrs pc (ending_code (layout_of around_here) gives_type) → Agree (with_handler None (Some f) c) s q
        → Follows c.image Q (went (member_at (with_handler None (Some f) c) pc q s.store s.turns)) (k (raised f s))
    pub spent_goes : (s : State) (step : Step) → RunsOut c s step → Follows c.image Q step (k (spent s))
    pub lost_goes : (step : Step) → Follows c.image Q step (k meaningless)

  module _ {A B : Type 0} (run : State → Interaction (Ends A)) (P : Option ℕ → A → State → Step → Type 0) (k : Ends A → Interaction B) (Q : B → Step → Type 0) (goes_on : GoesOn run P k Q) where
    broken_as : (caught : Option Fault) (f : Fault) (s : State) (step : Step) → Faults (with_handler None caught c) f s step → Broke c f s step
    broken_as caught f s step x = record {
      free = free_frame (with_handler None caught c) s x.after compiled.numbers x.agree;
      waiting = x.agree.waiting;
      members = x.agree.members;
      turns = x.agree.turns;
      store = x.agree.store;
      goes_on = x.fails;
    }

    -- statements behind a beginning, with a handler or without one
    from_zeros : (handler : Option ℕ) (pc : ℕ) (s : State) → HasAt c.code.instrs pc (zeros 0 (length c.locals - 0))
        → HasAt c.code.instrs (pc + length (zeros 0 (length c.locals - 0))) (body_code (layout_of around_here) body (pc + length (zeros 0 (length c.locals - 0)))) → Opened c s
        → Follows c.image (Ending (P handler) (Faults (with_handler handler None c)) (RunsOut (with_handler handler None c)))
        (went (member_at (with_handler handler None c) pc (opening_registers c.code.registers []) s.store s.turns)) (run s)
    from_zeros handler pc s has_zeros has_body is =
        let c1 = with_handler handler None c in
        let q0 = opening_registers c.code.registers [] in
        let count = length c.locals - 0 in
        let counted : count ≡ length c.locals = omega arith in
        let long = opening_slots_long c.code.registers in
        zeros_run c1 context is_code _ count 0 pc q0 s.store s.turns (run s) has_zeros (omega (arith, counted, long, roomy)) (λ after size low mid high.
        goes_on.body_goes handler (pc + length (zeros 0 count)) after s has_body
        (agrees_as handler None (opened_agrees c s after count roomy counted is (size ∙ long) (λ k less. mid k (omega arith) (omega (arith, less)))
        (λ k from below. high k (omega (arith, from)) ∙ opening_slots_empty c.code.registers k below))))

    -- without a handler

    unswallowed : (e : Ends A) (step : Step) → sw ≡ false → Ending (P None) (Faults (with_handler None None c)) (RunsOut (with_handler None None c)) e step → Follows c.image Q step (k e)
    unswallowed (gives v s) step off x = goes_on.value_goes None v s step x
    unswallowed (raised f s) step off x = goes_on.fault_goes f s step off (broken_as None f s step x)
    unswallowed (spent s) step off x = goes_on.spent_goes s step (record { members = x.members; stops = x.stops })
    unswallowed meaningless step off x = goes_on.lost_goes step

    -- with a handler

    swallows_by : (b : Bool) → sw ≡ b → (f : Fault) (s : State) (pc : ℕ) (q : List Slot) → HasAt c.code.instrs pc (if b then ending_code (layout_of around_here) gives_type else instr.Throw ∷ []) → Agree (with_handler None (Some f) c) s q
        → Follows c.image Q (went (member_at (with_handler None (Some f) c) pc q s.store s.turns)) (k (raised f s))
    unfolding act
    swallows_by true is f s pc q has agree = goes_on.swallow_goes f pc q s is has agree
    swallows_by false is f s pc q has agree =
        one (with_handler None (Some f) c) context is_code Q pc q s.store s.turns instr.Throw (k (raised f s)) has.0
        (goes_on.fault_goes f s _ is (record {
          free = free_frame (with_handler None (Some f) c) s q compiled.numbers agree;
          waiting = agree.waiting;
          members = agree.members;
          turns = agree.turns;
          store = agree.store;
          goes_on = refl;
        }))

    with_cleanup : (e : Ends A) (step : Step) → HasAt c.code.instrs 1 (cleanup (layout_of around_here) sw)
        → Ending (P (Some 1)) (Faults (with_handler (Some 1) None c)) (RunsOut (with_handler (Some 1) None c)) e step → Follows c.image Q step (k e)
    with_cleanup (gives v s) step has x = goes_on.value_goes (Some 1) v s step x
    with_cleanup (raised f s) step has x =
        let c3 = with_handler None (Some f) c in
        let agree : Agree c3 s x.after = record { size = x.agree.size; count = x.agree.count; stand = x.agree.stand; clean = x.agree.clean; temporaries = x.agree.temporaries; waiting = x.agree.waiting; members = x.agree.members; turns = x.agree.turns; store = x.agree.store } in
        let held = x.agree.store locked in
        let drop_code = drops (length c.locals) c.objects in
        let zero_is : length c.locals ≡ length c.locals + 0 = omega arith in
        subst (λ w. Follows c.image Q w (k (raised f s))) (sym x.fails)
        (drops_run c3 context gives_type none_at callees is_code compiled.room Q c.objects 0 (length c.locals) 1 x.after s held.store (k (raised f s))
        zero_is (omega arith) held.is (has_front _ 1 drop_code _ has) agree (λ after agree2.
        swallows_by sw refl f s (1 + length drop_code) after (has_back _ 1 drop_code _ has) agree2))
    with_cleanup (spent s) step has x = goes_on.spent_goes s step (record { members = x.members; stops = x.stops })
    with_cleanup meaningless step has x = goes_on.lost_goes step

    -- both

    handles_none : (b : Bool) → not (nat_eq c.objects 0) || b ≡ false → b ≡ false
    handles_none true e = or_true (not (nat_eq c.objects 0)) e
    handles_none false e = refl

    begins_by : (b : Bool) → handles (layout_of around_here) sw ≡ b → (s : State) → Opened c s
        → HasAt c.code.instrs 0 (behind ((if b then instr.Jump (suc (length (cleanup (layout_of around_here) sw))) ∷ (cleanup (layout_of around_here) sw ++ instr.Handle 1 ∷ []) else []) ++ zeros 0 (length c.locals - 0)) (body_code (layout_of around_here) body) 0)
        → Follows c.image Q (went (member_at (with_handler None None c) 0 (opening_registers c.code.registers []) s.store s.turns)) (run s >>= k)
    unfolding act
    begins_by false e s is has =
        let front = zeros 0 (length c.locals - 0) in
        followed_by k (from_zeros None 0 s (has_front _ 0 front _ has) (has_back _ 0 front _ has) is) (λ e1 step x. unswallowed e1 step (handles_none sw e) x)
    begins_by true e s is has =
        let cleaning = cleanup (layout_of around_here) sw in
        let target = suc (length cleaning) in
        let q0 = opening_registers c.code.registers [] in
        let beginning = instr.Jump target ∷ (cleaning ++ instr.Handle 1 ∷ []) in
        let front = beginning ++ zeros 0 (length c.locals - 0) in
        let has_beginning = has_front _ 0 beginning _ (has_front _ 0 front _ has) in
        let has_cleaning = has_front _ 1 cleaning _ has_beginning.1 in
        let there : 1 + length cleaning ≡ target = omega arith in
        let has_handle = subst (λ n. HasAt c.code.instrs n (instr.Handle 1 ∷ [])) there (has_back _ 1 cleaning _ has_beginning.1) in
        let end : 0 + length beginning ≡ target + 1 = omega (arith, length-append cleaning (instr.Handle 1 ∷ [])) in
        let has_zeros = subst (λ n. HasAt c.code.instrs n (zeros 0 (length c.locals - 0))) end (has_back _ 0 beginning _ (has_front _ 0 front _ has)) in
        let last : 0 + length front ≡ target + 1 + length (zeros 0 (length c.locals - 0)) = omega (arith, length-append cleaning (instr.Handle 1 ∷ []), length-append beginning (zeros 0 (length c.locals - 0))) in
        let has_body = subst (λ n. HasAt c.code.instrs n (body_code (layout_of around_here) body n)) last (has_back _ 0 front _ has) in
        one (with_handler None None c) context is_code Q 0 q0 s.store s.turns (instr.Jump target) _ has_beginning.0
        (one (with_handler None None c) context is_code Q target q0 s.store s.turns (instr.Handle 1) _ has_handle.0
        (followed_by k (from_zeros (Some 1) (target + 1) s has_zeros has_body is) (λ e1 step x. with_cleanup e1 step has_cleaning x)))

    pub opened_runs : (s : State) → Opened c s → Follows c.image Q (went (member_at (with_handler None None c) 0 (opening_registers c.code.registers []) s.store s.turns)) (run s >>= k)
    unfolding function_code
    opened_runs s is =
        begins_by (handles (layout_of around_here) sw) refl s is
        (subst (λ code. HasAt code 0 (function_code (layout_of around_here) 0 sw body)) (sym compiled.instrs) (has_self [] (function_code (layout_of around_here) 0 sw body)))

  -- ---- functions

  module _ (same_constants : c.image.constants ≡ context.constants)
      (calls_run : (handler : Option ℕ) (caught : Option Fault) → CallsRun (with_handler handler caught c) context is_code roomy callees) where
    abbrev whole_run : State → Interaction (Ends Value)
    whole_run s = in_turn (map (exec context) body) outermost s >>= on_value (flow_value gives_type)

    function_goes : GoesOn whole_run (λ handler. Left (with_handler handler None c) gives_type) (swallowed sw gives_type) (Ending (Left c gives_type) (Broke c) (RunsOut c))
    function_goes = record {
      body_goes = λ handler pc q s has agree.
          body_runs (with_handler handler None c) context gives_type none_at callees is_code compiled.room roomy same_constants compiled.numbers (calls_run handler None) body compiled.compiled compiled.end compiled.end_room pc q s has agree;
      value_goes = λ handler v s step x. arrives (left_as handler None v s step x);
      fault_goes = λ f s step off x.
          subst (λ b. Follows c.image (Ending (Left c gives_type) (Broke c) (RunsOut c)) step (if b then done (ending_value gives_type s) else done (raised f s))) (sym off) (arrives x);
      swallow_goes = λ f pc q s on has agree.
          subst (λ b. Follows c.image (Ending (Left c gives_type) (Broke c) (RunsOut c)) (went (member_at (with_handler None (Some f) c) pc q s.store s.turns)) (if b then done (ending_value gives_type s) else done (raised f s))) (sym on)
          (as_said (ends_as (λ v t step x. left_as None (Some f) v t step x)
          (λ g t step x. record {
            free = free_frame (with_handler None (Some f) c) t x.after compiled.numbers x.agree;
            waiting = x.agree.waiting;
            members = x.agree.members;
            turns = x.agree.turns;
            store = x.agree.store;
            goes_on = x.fails;
          })
          (λ t step x. record { members = x.members; stops = x.stops }))
          (ending_run (with_handler None (Some f) c) context gives_type none_at callees is_code compiled.room roomy same_constants compiled.numbers gives_type refl compiled.end compiled.end_room pc q s has agree));
      spent_goes = λ s step x. arrives x;
      lost_goes = λ step. arrives tt;
    }

    pub frame_runs : (s : State) → Opened c s
        → Follows c.image (Ending (Left c gives_type) (Broke c) (RunsOut c)) (went (member_at (with_handler None None c) 0 (opening_registers c.code.registers []) s.store s.turns)) (whole_run s >>= swallowed sw gives_type)
    frame_runs s is = opened_runs whole_run (λ handler. Left (with_handler handler None c) gives_type) (swallowed sw gives_type) (Ending (Left c gives_type) (Broke c) (RunsOut c)) function_goes s is
