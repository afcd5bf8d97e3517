-- An image that is the code of a module means it.
use Rattle.std.proofs.Common.{◌≡◌, ℕ, suc, ◌+◌, ◌≤◌, List, [], ◌∷◌, length, Option, Some, None, false, refl, sym, ap, ◌∙◌, subst, arith, inl, ⊎_elim}
use Rattle.std.specs.Prelude.{slice_get}
use Rattle.px_base.specs.declared.faults.Fault.{Fault}
use Rattle.px_tree.specs.declared.typed_values.ValueType.{ValueType}
use Rattle.px_tree.specs.declared.typed_values.ValueType.TheVariants as type
use Rattle.px_model.specs.declared.stores.Store.{Store}
use Rattle.px_regcode.specs.declared.operands.Register.{Register}
use Rattle.px_regcode.specs.declared.instructions.Instr.TheVariants as instr
use Rattle.px_meaning.specs.Values.{Value}
use Rattle.px_meaning.specs.States.{State, holding}
use Rattle.px_meaning.specs.Interactions.{done}
use Rattle.px_meaning.specs.Ends.{Ends, gives, raised, spent, meaningless, Flow, next, continues, breaks, returns}
use Rattle.px_meaning.specs.Statements.{in_turn, exec}
use Rattle.px_stmtgen.specs.StatementCode.{in_turn_code, statement_code}
use Rattle.px_machine.specs.Slots.{Slot}
use Rattle.px_machine.specs.Steps.{Step, went, stuck}
use Rattle.px_machine.specs.Machine.{act}
use Rattle.px_machine.specs.Follows.{Follows, arrives}
use Rattle.px_machine.specs.Means.{HasStore}
use Rattle.px_code_laws.specs.Settings.{Setting, rest_with, Faults, RunsOut}
use Rattle.px_code_laws.proofs.Followed.{Ending}
use Rattle.px_code_laws.proofs.Expressions.{HasAt, has_front, has_back, one}
use Rattle.px_code_laws.proofs.Printing.{EndsWithout, EndsWith, Flows}
use Rattle.std.specs.Prelude.{map}
use Rattle.std.proofs.Common.{inl}
use Rattle.px_meaning.specs.States.{buffers_of_frame}
use Rattle.px_meaning.specs.Expressions.{outermost}
use Rattle.px_code_laws.proofs.Followed.{then_steps}
use Rattle.px_regcode.specs.declared.codes.Code.{Code}
use Rattle.px_regcode.specs.declared.codes.Start.TheVariants as start
use Rattle.px_regcode.specs.Images.{ImageParts}
use Rattle.px_meaning.specs.States.{times_in, holders_of, emptied}
use Rattle.px_meaning.specs.Ends.{frame_end, letting_go}
use Rattle.px_meaning.specs.Calls.{SourceFunction, Source, calls_of}
use Rattle.px_machine.specs.Slots.{Frame, member}
use Rattle.px_machine.specs.Steps.{ended}
use Rattle.px_machine.specs.Steps as end
use Rattle.px_machine.specs.Machine.{calls}
use Rattle.px_machine.specs.Means.{rest_of}
use Rattle.px_code_laws.specs.Compiled.{layout_of, IsCompiled}
use Rattle.px_code_laws.proofs.Followed.{as_said}
use Rattle.px_code_laws.proofs.Frames.{Broke, free_frame}
use Rattle.px_meaning.specs.Modules.{first_state, module_context, module_code}
use Rattle.px_machine.specs.Machine.{arguments_at}
use Rattle.px_machine.specs.Means.{IsCodeOf, start_of, CountsHolds, Argue, CallEnds, first_registers, first_member, ModuleEnds, Means}
use Rattle.px_code_laws.proofs.Frames.{statements_of}
use Rattle.px_code_laws.proofs.Opening.{with_handler}
use Rattle.px_code_laws.proofs.Calls.{Did, Failed, Out, setting_of, calls_in, calls_do}
use Rattle.px_code_laws.proofs.Opening.{GoesOn, opened_runs, around_here}

no_arguments : (registers : List Slot) (arguments : List Register) (values : List Value) → Argue [] registers arguments values → (arguments ≡ []) × (values ≡ [])
no_arguments registers [] [] a = (refl, refl)
no_arguments registers [] (v ∷ values) a = absurd a
no_arguments registers (r ∷ arguments) [] a = absurd a
no_arguments registers (r ∷ arguments) (v ∷ values) a = absurd a

call_ends : (g : ValueType) (d : Option Register) (frame : Frame) (callers : List Frame) (below : ℕ) (buffers : List ℕ) (holds bound : ℕ) (before : State) (e : Ends Value) (step : Step)
    → Ending (Did g d frame callers below buffers holds bound before) (Failed frame callers below buffers holds bound before) (Out below buffers holds before) e step
    → CallEnds d [] frame callers below buffers holds before e step
call_ends g d frame callers below buffers holds bound before (gives v s) step x = (x.goes_on, (x.same_frame, x.same_waiting))
call_ends g d frame callers below buffers holds bound before (raised f s) step x = (inl x.goes_on, (x.same_frame, x.same_waiting))
call_ends g d frame callers below buffers holds bound before (spent s) step x = record { rest = rest_of below buffers holds s; is = x.goes_on; store = refl; turns = refl }
call_ends g d frame callers below buffers holds bound before meaningless step x = tt

same_code : {a b : Code} → Some a ≡ Some b → a ≡ b
same_code e = cc

module _ (image : ImageParts) (source : Source) (compiled : IsCompiled image source) where
  functions_mean : (bound function : ℕ) (f : SourceFunction) → slice_get source.functions function ≡ Some f
      → (d : Option Register) (arguments : List Register) (values : List Value) (frame : Frame) (callers : List Frame) (below : ℕ) (buffers : List ℕ) (holds : ℕ) (s : State)
      → Argue f.params frame.registers arguments values → length callers + below ≡ length s.callers → CountsHolds holds s.store → (start_of f.lock ≡ start.Held → HasStore s.store) → s.turns ≤ bound
      → Follows image (CallEnds d arguments frame callers below buffers holds s)
      (calls (suc function) (slice_get image.codes (suc function)) d arguments (arguments_at frame.registers arguments) (member frame callers (rest_of below buffers holds s))) (calls_of source bound function values s)
  functions_mean bound function f there d arguments values frame callers below buffers holds s argue level counted held within =
      let x = compiled.functions function f there in
      let none = no_arguments frame.registers arguments values (subst (λ types. Argue types frame.registers arguments values) x.compiled.params argue) in
      let store = held (ap start_of x.compiled.lock) in
      subst (λ vs. Follows image (CallEnds d arguments frame callers below buffers holds s)
      (calls (suc function) (slice_get image.codes (suc function)) d arguments (arguments_at frame.registers arguments) (member frame callers (rest_of below buffers holds s))) (calls_of source bound function vs s)) (sym none.1)
      (subst (λ args. Follows image (CallEnds d args frame callers below buffers holds s)
      (calls (suc function) (slice_get image.codes (suc function)) d args (arguments_at frame.registers args) (member frame callers (rest_of below buffers holds s))) (calls_of source bound function [] s)) (sym none.0)
      (as_said (λ e step y. call_ends f.gives d frame callers below buffers holds bound s e step y)
      ((calls_do image source compiled.callees compiled.constants compiled.are_callees compiled.functions bound).run function f there d frame callers below buffers holds s level store within)))

  codes_are : (function : ℕ) (f : SourceFunction) (code : Code) → slice_get source.functions function ≡ Some f → slice_get image.codes (suc function) ≡ Some code → IsCodeOf f code
  codes_are function f code there code_there =
      let x = compiled.functions function f there in
      subst (IsCodeOf f) (same_code (sym x.there ∙ code_there)) x.compiled.says

  -- ---- the module

  abbrev setting : ℕ → ℕ → Setting
  setting turns members = setting_of image source compiled.callees compiled.constants compiled.are_callees compiled.functions 0 compiled.code [] compiled.objects None [] 0 [] 1 members [] turns

  record OverWith (turns members : ℕ) (s : State) (step : Step) : Type 0 where
    free : buffers_of_frame s.frame ≡ []
    same_members : s.members ≡ members
    stops : step ≡ ended end.over (rest_with (setting turns members) s.store s.turns)

  abbrev Overs : ℕ → ℕ → Flow → State → Step → Type 0
  Overs turns members next s step = OverWith turns members s step
  Overs turns members continues s step = ⊥
  Overs turns members breaks s step = ⊥
  Overs turns members (returns v) s step = buffers_of_frame s.frame ≡ []

  roomy : 0 + compiled.objects ≤ compiled.code.registers
  roomy = let r = compiled.is_code.room in omega (arith, r)

  module _ (turns members : ℕ) where
    over_by : (handler : Option ℕ) (pc : ℕ) (flow : Flow) (s : State) (step : Step) → HasAt compiled.code.instrs pc (instr.Finish ∷ [])
        → Flows (with_handler handler None (setting turns members)) (module_context source turns) type.Void compiled.none_at compiled.callees compiled.code_there compiled.is_code.room pc flow s step
        → Follows image (Ending (Overs turns members) (Faults (with_handler handler None (setting turns members))) (RunsOut (with_handler handler None (setting turns members)))) step (done (gives flow s))
    unfolding act
    over_by handler pc next s step has p =
        let c = with_handler handler None (setting turns members) in
        subst (λ w. Follows image (Ending (Overs turns members) (Faults c) (RunsOut c)) w (done (gives next s))) (sym p.goes_on)
        (one c (module_context source turns) compiled.code_there _ pc p.after s.store s.turns instr.Finish _ has.0
        (arrives (record { free = free_frame c s p.after compiled.is_code.numbers p.agree; same_members = p.agree.members; stops = refl })))
    over_by handler pc continues s step has p = absurd p
    over_by handler pc breaks s step has p = absurd p
    over_by handler pc (returns v) s step has p =
        let c = with_handler handler None (setting turns members) in
        arrives (⊎_elim
        (λ (e : EndsWithout c (module_context source turns) type.Void compiled.none_at compiled.callees compiled.code_there compiled.is_code.room v s step). free_frame c s e.after compiled.is_code.numbers e.agree)
        (λ (e : EndsWith c (module_context source turns) type.Void compiled.none_at compiled.callees compiled.code_there compiled.is_code.room v s step). free_frame c s e.after compiled.is_code.numbers e.agree)
        p)

    frame_over : (flow : Flow) (s : State) (step : Step) → Overs turns members flow s step → Follows image ModuleEnds step (frame_end (λ flow. []) emptied (gives flow s))
    frame_over next s step x =
        subst (λ going. Follows image ModuleEnds step (letting_go going (λ buffer. times_in buffer [] + holders_of (emptied s) buffer) (done (gives next (emptied s))))) (sym x.free)
        (arrives (record { rest = rest_with (setting turns members) s.store s.turns; is = x.stops; store = refl; turns = refl }))
    frame_over continues s step x = absurd x
    frame_over breaks s step x = absurd x
    frame_over (returns v) s step x =
        subst (λ going. Follows image ModuleEnds step (letting_go going (λ buffer. times_in buffer [] + holders_of (emptied s) buffer) (done (gives (returns v) (emptied s))))) (sym x) (arrives tt)

    fault_over : (f : Fault) (s : State) (step : Step) → Broke (setting turns members) f s step → Follows image ModuleEnds step (frame_end {A = Flow} (λ flow. []) emptied (raised f s))
    fault_over f s step x =
        subst (λ going. Follows image ModuleEnds step (letting_go going (holders_of (emptied s)) (done (raised f (emptied s))))) (sym x.free)
        (arrives (record { rest = rest_with (setting turns members) s.store s.turns; is = x.goes_on; store = refl; turns = refl }))

    module_goes : GoesOn (setting turns members) (module_context source turns) type.Void compiled.none_at compiled.callees compiled.code_there roomy refl false source.code compiled.is_code
        (λ s. in_turn (map (exec (module_context source turns)) source.code) outermost s) (λ handler. Overs turns members) (frame_end (λ flow. []) emptied) ModuleEnds
    module_goes = record {
      body_goes = λ handler pc q s has agree.
          let c = with_handler handler None (setting turns members) in
          let first = in_turn_code (map (statement_code (layout_of (around_here (setting turns members) (module_context source turns) type.Void compiled.none_at compiled.callees compiled.code_there roomy refl false source.code compiled.is_code))) source.code) pc in
          then_steps
          (statements_of c (module_context source turns) type.Void compiled.none_at compiled.callees compiled.code_there compiled.is_code.room roomy compiled.constants compiled.is_code.numbers
          (calls_in image source compiled.callees compiled.constants compiled.are_callees compiled.functions turns (calls_do image source compiled.callees compiled.constants compiled.are_callees compiled.functions turns)
          0 compiled.code [] compiled.objects None [] 0 [] 1 members [] refl compiled.code_there roomy handler None)
          source.code compiled.is_code.compiled pc q s (has_front _ pc first _ has) agree)
          (λ flow s1 step p. over_by handler (pc + length first) flow s1 step (has_back _ pc first _ has) p);
      value_goes = λ handler flow s step x. frame_over flow s step x;
      fault_goes = λ f s step off x. fault_over f s step x;
      swallow_goes = λ f pc q s on has agree. cc;
      spent_goes = λ s step x. arrives (record { rest = rest_with (setting turns members) s.store s.turns; is = x.stops; store = refl; turns = refl });
      lost_goes = λ step. arrives tt;
    }

    module_means : (store : Store)
        → Follows image ModuleEnds (went (first_member image (holding store (first_state turns members)))) (module_code (module_context source turns) source (holding store (first_state turns members)))
    module_means store =
        let s = holding store (first_state turns members) in
        subst (λ o. Follows image ModuleEnds (went (member (record { function = 0; pc = 0; registers = first_registers o; result = None; handler = None; caught = None }) [] (rest_of 0 [] 1 s))) (module_code (module_context source turns) source s)) (sym compiled.code_there)
        (opened_runs (setting turns members) (module_context source turns) type.Void compiled.none_at compiled.callees compiled.code_there roomy refl false source.code compiled.is_code
        (λ s. in_turn (map (exec (module_context source turns)) source.code) outermost s) (λ handler. Overs turns members) (frame_end (λ flow. []) emptied) ModuleEnds module_goes
        s ((refl, refl), (refl, (omega arith, record { store = store; is = refl }))))

  pub code_means : Means image source
  code_means = record { count = compiled.count; constants = compiled.constants; codes = codes_are; functions = functions_mean; module_runs = module_means }
