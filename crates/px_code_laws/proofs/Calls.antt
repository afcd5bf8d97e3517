-- Code means its module: calls of functions and module code follow the source, for each number of turns.
use Rattle.std.proofs.Common.{◌≡◌, ℕ, zero, suc, ◌+◌, ◌≤◌, List, [], ◌∷◌, length, Option, Some, None, Bool, true, false, refl, sym, ap, ◌∙◌, subst, arith}
use Rattle.std.specs.Prelude.{slice_get, nat_lt, if◌then◌else◌}
use Rattle.px_base.specs.declared.faults.Fault.{Fault}
use Rattle.px_tree.specs.declared.typed_values.ValueType.{ValueType}
use Rattle.px_regcode.specs.declared.operands.Register.{Register}
use Rattle.px_meaning.specs.Values.{Value}
use Rattle.px_meaning.specs.States.{State, variable_at, assigned, holding}
use Rattle.px_meaning.specs.Interactions.{Interaction, done}
use Rattle.px_meaning.specs.Ends.{Ends, gives, raised, spent, meaningless}
use Rattle.px_machine.specs.Slots.{Member}
use Rattle.px_machine.specs.Steps.{Step, went, stuck}
use Rattle.px_machine.specs.Machine.{act, slot_of_value}
use Rattle.px_machine.specs.Follows.{Follows, arrives}
use Rattle.px_machine.specs.Means.{HasStore}
use Rattle.px_code_laws.specs.Settings.{Setting, member_at, rest_with, Faults, RunsOut}
use Rattle.px_code_laws.proofs.Followed.{Ending}
use Rattle.px_code_laws.proofs.Agreement.{result_register, ResultFits, Called, CallsRun, agrees_back}
use Rattle.px_meaning.specs.States.{opening_variables, new_frame, buffers_of_frame}
use Rattle.px_machine.specs.Machine.{returns_to, faulting, unwound}
use Rattle.px_code_laws.proofs.Followed.{followed_by}
use Rattle.px_base.specs.declared.faults.Kind.TheVariants.{RecursionError}
use Rattle.px_ctypes.specs.Operators.{fault_of}
use Rattle.px_tree.specs.declared.modules.Lock.{Lock}
use Rattle.px_regcode.specs.declared.codes.Code.{Code}
use Rattle.px_regcode.specs.Images.{ImageParts}
use Rattle.px_meaning.specs.Values.{buffers_in}
use Rattle.px_meaning.specs.States.{depth, entered, back_to, times_in, holders_of, emptied}
use Rattle.px_meaning.specs.States as states
use Rattle.px_meaning.specs.Ends.{spend, frame_end, letting_go}
use Rattle.px_meaning.specs.Calls.{SourceFunction, Source, context_of, swallows, function_run, in_lock, frame_limit, framed, called, calls_of}
use Rattle.px_machine.specs.Slots.{Frame, member, with_rest}
use Rattle.px_machine.specs.Steps.{ended}
use Rattle.px_machine.specs.Steps as end
use Rattle.px_machine.specs.Machine.{opening_registers, opened, opens, spends, calls, back_in}
use Rattle.px_machine.specs.Means.{rest_of}
use Rattle.px_code_laws.specs.Settings.{frame_at}
use Rattle.px_code_laws.specs.Compiled.{FunctionIsCompiled, FunctionThere, CodeThere}
use Rattle.px_code_laws.proofs.Followed.{as_said, ends_as}
use Rattle.px_code_laws.proofs.Frames.{Left, Broke}
use Rattle.px_code_laws.proofs.Opening.{with_handler, frame_runs}

-- ---- turns

spends_by : {A : Type 0} (image : ImageParts) (Q : Ends A → Step → Type 0) (t : ℕ) (goes_on : Member → Step) (go : State → Interaction (Ends A)) (m : Member) (s : State)
    → (t ≡ 0 → Q (spent s) (ended end.spent m.rest))
    → ((left : ℕ) → t ≡ suc left → Follows image Q (goes_on (with_rest (record m.rest { turns = left }) m)) (go (record s { turns = left })))
    → Follows image Q (spends t goes_on m) (spend t go s)
spends_by image Q zero goes_on go m s out on = arrives (out refl)
spends_by image Q (suc left) goes_on go m s out on = on left refl

both_by : {A : Type 0} (image : ImageParts) (Q : A → Step → Type 0) (b : Bool) (x y : Step) (t u : Interaction A) → Follows image Q x t → Follows image Q y u
    → Follows image Q (if b then x else y) (if b then t else u)
both_by image Q true x y t u p q = p
both_by image Q false x y t u p q = q

-- ---- calls, as the frame that makes them sees them

pub record Did (g : ValueType) (d : Option Register) (frame : Frame) (callers : List Frame) (below : ℕ) (buffers : List ℕ) (holds bound : ℕ) (before : State) (v : Value) (s : State) (step : Step) : Type 0 where
  pub fits : ResultFits g v
  pub same_frame : s.frame ≡ before.frame
  pub same_waiting : s.callers ≡ before.callers
  pub same_members : s.members ≡ before.members
  pub turns : s.turns ≤ bound
  pub store : HasStore s.store
  pub goes_on : step ≡ went (member (back_in d (slot_of_value v) frame) callers (rest_of below buffers holds s))

pub record Failed (frame : Frame) (callers : List Frame) (below : ℕ) (buffers : List ℕ) (holds bound : ℕ) (before : State) (f : Fault) (s : State) (step : Step) : Type 0 where
  pub same_frame : s.frame ≡ before.frame
  pub same_waiting : s.callers ≡ before.callers
  pub same_members : s.members ≡ before.members
  pub turns : s.turns ≤ bound
  pub store : HasStore s.store
  pub goes_on : step ≡ unwound f (frame ∷ callers) (rest_of below buffers holds s)

pub record Out (below : ℕ) (buffers : List ℕ) (holds : ℕ) (before : State) (s : State) (step : Step) : Type 0 where
  pub same_members : s.members ≡ before.members
  pub goes_on : step ≡ ended end.spent (rest_of below buffers holds s)

module _ (image : ImageParts) (source : Source) (callees : List (Option ValueType)) (same_constants : image.constants ≡ source.constants)
    (are_callees : (function : ℕ) (t : ValueType) → slice_get callees function ≡ Some (Some t) → FunctionThere source function t)
    (functions : (function : ℕ) (f : SourceFunction) → slice_get source.functions function ≡ Some f → CodeThere image source callees function f) where
  pub record CallsDo (bound : ℕ) : Type 0 where
    pub run : (function : ℕ) (f : SourceFunction) → slice_get source.functions function ≡ Some f
        → (d : Option Register) (frame : Frame) (callers : List Frame) (below : ℕ) (buffers : List ℕ) (holds : ℕ) (s : State)
        → length callers + below ≡ length s.callers → HasStore s.store → s.turns ≤ bound
        → Follows image (Ending (Did f.gives d frame callers below buffers holds bound s) (Failed frame callers below buffers holds bound s) (Out below buffers holds s))
        (calls (suc function) (slice_get image.codes (suc function)) d [] (Some []) (member frame callers (rest_of below buffers holds s))) (calls_of source bound function [] s)

  -- what stands in a frame of a function, whose team has the size that its state says
  abbrev pub setting_of : ℕ → Code → List ValueType → ℕ → Option Register → List Frame → ℕ → List ℕ → ℕ → ℕ → List states.Frame → ℕ → Setting
  setting_of function code locals objects d callers below buffers holds members waiting bound = record {
    image = image;
    function = function;
    code = code;
    locals = locals;
    objects = objects;
    result = d;
    handler = None;
    caught = None;
    callers = callers;
    below = below;
    buffers = buffers;
    holds = holds;
    members = members;
    locked = true;
    waiting = waiting;
    bound = bound;
  }

  pub rest_same : (c : Setting) (s : State) → s.members ≡ c.members → rest_of c.below c.buffers c.holds s ≡ rest_with c s.store s.turns
  rest_same c s e = ap (λ m. record { below = c.below; buffers = c.buffers; store = s.store; holds = c.holds; turns = s.turns; members = m }) e

  -- calls in the code of a frame
  pub calls_in : (bound : ℕ) → CallsDo bound → (function : ℕ) (code : Code) (locals : List ValueType) (objects : ℕ) (d : Option Register) (callers : List Frame) (below : ℕ) (buffers : List ℕ) (holds members : ℕ) (waiting : List states.Frame)
      → length callers + below ≡ length waiting
      → (is_code : slice_get image.codes function ≡ Some code) (roomy : length locals + objects ≤ code.registers) (handler : Option ℕ) (caught : Option Fault)
      → CallsRun (with_handler handler caught (setting_of function code locals objects d callers below buffers holds members waiting bound)) (context_of source bound (calls_of source bound)) is_code roomy callees
  unfolding act
  calls_in bound calling function code locals objects d callers below buffers holds members waiting level is_code roomy handler caught =
      let c = with_handler handler caught (setting_of function code locals objects d callers below buffers holds members waiting bound) in
      record {
        run = λ f t has e pc q s agree.
            let callee = are_callees f t has in
            let m = frame_at c pc q in
            subst (λ rest. Follows image (Ending (Called c (context_of source bound (calls_of source bound)) is_code roomy t e pc q s) (Faults c) (RunsOut c)) (calls (suc f) (slice_get image.codes (suc f)) (result_register t e) [] (Some []) (member m callers rest)) (calls_of source bound f [] s)) (rest_same c s agree.members)
            (as_said (ends_as
            (λ v u step x. record {
              same_frame = x.same_frame;
              same_waiting = x.same_waiting;
              same_members = x.same_members;
              turns = x.turns;
              store = λ locked. x.store;
              fits = subst (λ g. ResultFits g v) callee.gives x.fits;
              goes_on = x.goes_on ∙ ap (λ rest. went (member (back_in (result_register t e) (slot_of_value v) m) callers rest)) (rest_same c u (x.same_members ∙ agree.members));
            })
            (λ fault u step x. record {
              pc = pc;
              after = q;
              agree = agrees_back c (context_of source bound (calls_of source bound)) is_code roomy x.same_frame x.same_waiting x.same_members x.turns (λ locked. x.store) agree;
              fails = x.goes_on ∙ ap (unwound fault (m ∷ callers)) (rest_same c u (x.same_members ∙ agree.members));
            })
            (λ u step x. record { members = x.same_members ∙ agree.members; stops = x.goes_on ∙ ap (ended end.spent) (rest_same c u (x.same_members ∙ agree.members)) }))
            (calling.run f callee.callee callee.there (result_register t e) m callers below buffers holds s (level ∙ ap length (sym agree.waiting)) (agree.store refl) agree.turns));
      }

  -- ---- the frame of a function ends, and the one that called it goes on

  ends_for : (g : ValueType) (d : Option Register) (c : Setting) (frame : Frame) (callers : List Frame) (bound : ℕ) (before : State) → c.callers ≡ frame ∷ callers → c.result ≡ d → c.waiting ≡ before.frame ∷ before.callers → c.members ≡ before.members → c.bound ≤ bound → c.locked ≡ true
      → (e : Ends Value) (step : Step) → Ending (Left c g) (Broke c) (RunsOut c) e step
      → Follows image (Ending (Did g d frame callers c.below c.buffers c.holds bound before) (Failed frame callers c.below c.buffers c.holds bound before) (Out c.below c.buffers c.holds before)) step
      (frame_end buffers_in (back_to before) e)
  ends_for g d c frame callers bound before are result waiting members within locked (gives v s) step x =
      let P = Ending (Did g d frame callers c.below c.buffers c.holds bound before) (Failed frame callers c.below c.buffers c.holds bound before) (Out c.below c.buffers c.holds before) in
      subst (λ going. Follows image P step (letting_go going (λ buffer. times_in buffer (buffers_in v) + holders_of (back_to before s) buffer) (done (gives v (back_to before s))))) (sym x.free)
      (arrives (record {
        fits = x.fits;
        same_frame = refl;
        same_waiting = refl;
        same_members = x.members ∙ members;
        turns = omega (arith, x.turns, within);
        store = x.store locked;
        goes_on = x.goes_on ∙ ap (λ r. returns_to (slot_of_value v) r c.callers (rest_with c s.store s.turns)) result
            ∙ ap (λ cs. returns_to (slot_of_value v) d cs (rest_with c s.store s.turns)) are
            ∙ ap (λ rest. went (member (back_in d (slot_of_value v) frame) callers rest)) (sym (rest_same c s x.members));
      }))
  ends_for g d c frame callers bound before are result waiting members within locked (raised f s) step x =
      let P = Ending (Did g d frame callers c.below c.buffers c.holds bound before) (Failed frame callers c.below c.buffers c.holds bound before) (Out c.below c.buffers c.holds before) in
      subst (λ going. Follows image P step (letting_go going (holders_of (back_to before s)) (done (raised f (back_to before s))))) (sym x.free)
      (arrives (record {
        same_frame = refl;
        same_waiting = refl;
        same_members = x.members ∙ members;
        turns = omega (arith, x.turns, within);
        store = x.store locked;
        goes_on = x.goes_on ∙ ap (λ cs. unwound f cs (rest_with c s.store s.turns)) are ∙ ap (unwound f (frame ∷ callers)) (sym (rest_same c s x.members));
      }))
  ends_for g d c frame callers bound before are result waiting members within locked (spent s) step x = arrives (record { same_members = x.members ∙ members; goes_on = x.stops ∙ ap (ended end.spent) (sym (rest_same c s x.members)) })
  ends_for g d c frame callers bound before are result waiting members within locked meaningless step x = arrives tt

  -- ---- a call

  frame_level : (l : List Frame) (below : ℕ) (s : State) → length l + below ≡ length s.callers → suc (length l) + below ≡ states.depth s
  frame_level l below s level = omega (arith, level)

  opened_run : (bound : ℕ) → CallsDo bound → (function : ℕ) (f : SourceFunction) → slice_get source.functions function ≡ Some f → (code : Code) → slice_get image.codes (suc function) ≡ Some code → FunctionIsCompiled source callees f code
      → (d : Option Register) (frame : Frame) (callers : List Frame) (below : ℕ) (buffers : List ℕ) (holds : ℕ) (s : State)
      → length callers + below ≡ length s.callers → HasStore s.store → s.turns ≤ bound
      → Follows image (Ending (Did f.gives d frame callers below buffers holds bound s) (Failed frame callers below buffers holds bound s) (Out below buffers holds s))
      (opens (suc function) code d [] [] (member frame callers (rest_of below buffers holds s))) (framed (context_of source bound (calls_of source bound)) f [] s)
  opened_run bound calling function f there code code_there compiled d frame callers below buffers holds s level held within =
      let context = context_of source bound (calls_of source bound) in
      let P = Ending (Did f.gives d frame callers below buffers holds bound s) (Failed frame callers below buffers holds bound s) (Out below buffers holds s) in
      let c = setting_of (suc function) code compiled.locals compiled.objects d (frame ∷ callers) below buffers holds s.members (s.frame ∷ s.callers) bound in
      let here_level : suc (length callers) + below ≡ states.depth s = frame_level callers below s level in
      let roomy : length compiled.locals + compiled.objects ≤ code.registers = let r = compiled.is_code.room in omega (arith, r) in
      let run = λ (l : Lock). in_lock l (function_run context f s) (entered (new_frame (opening_variables f.variables [])) s) in
      let sw = swallows f.is_noexcept f.gives in
      let s1 = entered (new_frame (opening_variables f.variables [])) s in
      let frame_is : new_frame (opening_variables f.variables []) ≡ new_frame (opening_variables (length compiled.locals) []) = ap (λ n. new_frame (opening_variables n [])) compiled.variables in
      let body : Follows image P (went (member_at c 0 (opening_registers code.registers []) s.store s.turns)) (function_run context f s s1) =
      followed_by (frame_end buffers_in (back_to s))
      (frame_runs c context f.gives compiled.none_at callees code_there roomy refl sw f.body compiled.is_code same_constants
      (λ handler caught. calls_in bound calling (suc function) code compiled.locals compiled.objects d (frame ∷ callers) below buffers holds s.members (s.frame ∷ s.callers) (omega (arith, level)) code_there roomy handler caught)
      s1 ((frame_is, refl), (refl, (within, held))))
      (λ e step x. ends_for f.gives d c frame callers bound s refl refl refl refl (omega arith) refl e step x) in
      subst (λ depth. Follows image P (if nat_lt depth frame_limit then went (member (opened (suc function) code d []) (frame ∷ callers) (rest_of below buffers holds s)) else faulting (fault_of RecursionError 31) (member frame callers (rest_of below buffers holds s))) (framed context f [] s)) (sym here_level)
      (both_by image P (nat_lt (states.depth s) frame_limit) _ _ _ _
      (subst (λ l. Follows image P (went (member (opened (suc function) code d []) (frame ∷ callers) (rest_of below buffers holds s))) (run l)) (sym compiled.lock) body)
      (arrives (record { same_frame = refl; same_waiting = refl; same_members = refl; turns = within; store = held; goes_on = refl })))

  pub calls_do : (bound : ℕ) → CallsDo bound
  unfolding calls_of
  calls_do zero = record {
    run = λ function f there d frame callers below buffers holds s level held within.
        let x = functions function f there in
        let P = Ending (Did f.gives d frame callers below buffers holds 0 s) (Failed frame callers below buffers holds 0 s) (Out below buffers holds s) in
        let m = member frame callers (rest_of below buffers holds s) in
        let none_left : 0 ≡ s.turns = omega (arith, within) in
        subst (λ o. Follows image P (calls (suc function) o d [] (Some []) m) (done (spent s))) (sym x.there)
        (subst (λ t. Follows image P (spends t (opens (suc function) x.code d [] []) m) (done (spent s))) none_left
        (arrives (record { same_members = refl; goes_on = refl })));
  }
  calls_do (suc bound) = record {
    run = λ function f there d frame callers below buffers holds s level held within.
        let x = functions function f there in
        let P = Ending (Did f.gives d frame callers below buffers holds (suc bound) s) (Failed frame callers below buffers holds (suc bound) s) (Out below buffers holds s) in
        let m = member frame callers (rest_of below buffers holds s) in
        let context = context_of source bound (calls_of source bound) in
        subst (λ o. Follows image P (calls (suc function) o d [] (Some []) m) (called context (slice_get source.functions function) [] s)) (sym x.there)
        (subst (λ o. Follows image P (calls (suc function) (Some x.code) d [] (Some []) m) (called context o [] s)) (sym there)
        (spends_by image P s.turns (opens (suc function) x.code d [] []) (framed context f []) m s
        (λ e. record { same_members = refl; goes_on = refl })
        (λ left e.
        as_said (ends_as
        (λ v u step y. record { fits = y.fits; same_frame = y.same_frame; same_waiting = y.same_waiting; same_members = y.same_members; turns = omega (arith, y.turns); store = y.store; goes_on = y.goes_on })
        (λ fault u step y. record { same_frame = y.same_frame; same_waiting = y.same_waiting; same_members = y.same_members; turns = omega (arith, y.turns); store = y.store; goes_on = y.goes_on })
        (λ u step y. record { same_members = y.same_members; goes_on = y.goes_on }))
        (opened_run bound (calls_do bound) function f there x.code x.there x.compiled d frame callers below buffers holds (record s { turns = left }) level held (omega (arith, e, within))))));
  }
