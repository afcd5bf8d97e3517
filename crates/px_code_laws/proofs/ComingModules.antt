-- A module that has code, and no `return` in its own code, comes to an outcome.
use Rattle.std.proofs.Common.{◌≡◌, ℕ, zero, suc, List, [], Option, Some, None, Bool, true, false, refl, sym, ap, ◌∙◌, subst}
use Rattle.std.specs.Prelude.{nat_lt, if◌then◌else◌}
use Rattle.std.proofs.lemmas.Bool.{false≢true}
use Rattle.px_base.specs.declared.faults.Kind.TheVariants.{RecursionError}
use Rattle.px_ctypes.specs.Operators.{fault_of}
use Rattle.px_tree.specs.declared.typed_values.ValueType.{ValueType}
use Rattle.px_tree.specs.declared.typed_values.ValueType.TheVariants as type
use Rattle.px_walk.specs.Roses.{gathered}
use Rattle.px_model.specs.declared.stores.Store.{Store}
use Rattle.px_model.specs.declared.stores.ObjectValue.TheVariants as object_value
use Rattle.px_model.specs.declared.outcomes.End.{End}
use Rattle.px_model.specs.declared.outcomes.End.TheVariants as end
use Rattle.px_regcode.specs.Images.{ImageParts}
use Rattle.px_meaning.specs.Values.{Value, whole, object, view, nothing, buffers_in}
use Rattle.px_meaning.specs.States.{State, depth, holding, back_to, emptied, entered, new_frame, opening_variables}
use Rattle.px_meaning.specs.Interactions.{Interaction, done}
use Rattle.px_meaning.specs.Ends.{Ends, gives, raised, spent, meaningless, spend, frame_end, Flow, next, continues, breaks, returns}
use Rattle.px_meaning.specs.Sections.{given_back, section_end}
use Rattle.px_meaning.specs.Objects.{new_object}
use Rattle.px_meaning.specs.Expressions.{outermost}
use Rattle.px_meaning.specs.Calls.{SourceFunction, Source, context_of, ending_value, returned_value, flow_value, swallows, swallowed, function_run, in_lock, frame_limit, framed, called, calls_of}
use Rattle.px_meaning.specs.Modules.{first_state, module_context, module_code, module_run, end_of}
use Rattle.px_meaning.specs.OneWorld.{first_world, outcome_together, outcome, outcome_from, meaning_in}
use Rattle.px_machine.specs.Means.{HasStore}
use Rattle.px_code_laws.specs.FineStatements.{Surrounding}
use Rattle.px_code_laws.specs.Compiled.{CodeThere, IsCompiled}
use Rattle.px_code_laws.specs.Outcomes.{HaveNoReturn, HasOutcome}
use Rattle.px_code_laws.proofs.Coming.{Comes, ends, enters, leaves, behind, Well, with_value, frame_ends, ends_together}
use Rattle.px_code_laws.proofs.ComingPrints.{Holds, step_comes}
use Rattle.px_code_laws.proofs.ComingStatements.{CallsCome, Flows, body_comes}

-- ---- functions

ending_comes : (t : ValueType) (s : State) → HasStore s.store → Comes (Well Holds) (done (ending_value t s))
ending_comes (type.C t) s has = ends has
ending_comes type.Object s has = step_comes (new_object object_value.None) s has (λ v store is. record { store = store; is = refl })
ending_comes (type.View t) s has = ends has
ending_comes type.Void s has = ends has

returned_comes : (t : ValueType) (v : Value) (s : State) → HasStore s.store → Comes (Well Holds) (done (returned_value t v s))
returned_comes t (whole n) s has = ends has
returned_comes t (object serial) s has = ends has
returned_comes t (view v) s has = ends has
returned_comes t nothing s has = ending_comes t s has

flow_comes : (t : ValueType) (flow : Flow) (s : State) → Flows true flow s → Comes (Well Holds) (flow_value t flow s)
flow_comes t next s f = ending_comes t s f
flow_comes t continues s f = absurd f
flow_comes t breaks s f = absurd f
flow_comes t (returns v) s f = returned_comes t v s f.1

swallowed_comes : (swallows : Bool) (t : ValueType) (e : Ends Value) → Well Holds e → Comes (Well Holds) (swallowed swallows t e)
swallowed_comes swallows t (gives v s) has = ends has
swallowed_comes true t (raised f s) has = ending_comes t s has
swallowed_comes false t (raised f s) has = ends has
swallowed_comes swallows t (spent s) has = ends tt
swallowed_comes swallows t meaningless has = absurd has

spends : {R : Value → State → Type 0} (turns : ℕ) (go : State → Interaction (Ends Value)) (s : State) → HasStore s.store
    → ((s : State) → HasStore s.store → Comes (Well R) (go s)) → Comes (Well R) (spend turns go s)
spends zero go s has after = ends tt
spends (suc left) go s has after = after (record s { turns = left }) has

module _ (image : ImageParts) (source : Source) (compiled : IsCompiled image source) where
  function_comes : (n function : ℕ) (f : SourceFunction) → CodeThere image source compiled.callees function f
      → CallsCome (context_of source n (calls_of source n)) compiled.callees → (caller s : State) → HasStore s.store
      → Comes (Well Holds) (function_run (context_of source n (calls_of source n)) f caller s)
  function_comes n function f there calls caller s has =
      let x = there.compiled in
      let c : Surrounding = record {
        locals = x.locals;
        objects = x.objects;
        gives = f.gives;
        none_at = x.none_at;
        constants = source.constants;
        callees = compiled.callees;
        locked = true;
      } in
      behind (frame_end buffers_in (back_to caller))
      (behind (swallowed (swallows f.is_noexcept f.gives) f.gives)
      (with_value (flow_value f.gives)
      (body_comes (context_of source n (calls_of source n)) c true calls there.code.registers f.body x.is_code.compiled
      (λ e. absurd (false≢true (sym e))) outermost s has)
      (λ flow s1 p. flow_comes f.gives flow s1 p))
      (λ e p. swallowed_comes (swallows f.is_noexcept f.gives) f.gives e p))
      (λ e p. frame_ends buffers_in (back_to caller) e p (λ v s1 held. held) (λ s1 held. held))

  framed_comes : (n function : ℕ) (f : SourceFunction) → CodeThere image source compiled.callees function f
      → CallsCome (context_of source n (calls_of source n)) compiled.callees → (s : State) → HasStore s.store
      → Comes (Well Holds) (framed (context_of source n (calls_of source n)) f [] s)
  framed_comes n function f there calls s has = within (nat_lt (depth s) frame_limit)
    where
      opened : State
      opened = entered (new_frame (opening_variables f.variables [])) s

      run : State → Interaction (Ends Value)
      run = function_run (context_of source n (calls_of source n)) f s

      within : (b : Bool) → Comes (Well Holds) (if b then in_lock f.lock run opened else done (raised (fault_of RecursionError 31) s))
      within true =
          subst (λ l. Comes (Well Holds) (in_lock l run opened)) (sym there.compiled.lock) (function_comes n function f there calls s opened has)
      within false = ends has

  calls_come : (bound : ℕ) → CallsCome (context_of source bound (calls_of source bound)) compiled.callees
  unfolding calls_of
  calls_come zero = record { come = λ function t there s has. ends tt }
  calls_come (suc n) = record {
    come = λ function t there s has.
        let callee = compiled.are_callees function t there in
        subst (λ o. Comes (Well Holds) (called (context_of source n (calls_of source n)) o [] s)) (sym callee.there)
        (spends s.turns (framed (context_of source n (calls_of source n)) callee.callee []) s has
        (λ s1 held. framed_comes n function callee.callee (compiled.functions function callee.callee callee.there) (calls_come n) s1 held));
  }

  -- ---- module code

  record IsEnd (e : Ends Flow) : Type 0 where
    end : End
    is : end_of e ≡ Some end

  code_comes : HaveNoReturn (gathered source.code) → (turns : ℕ) (s : State) → HasStore s.store
      → Comes (Well (Flows false)) (module_code (module_context source turns) source s)
  code_comes plain turns s has =
      let c : Surrounding = record {
        locals = [];
        objects = compiled.objects;
        gives = type.Void;
        none_at = compiled.none_at;
        constants = source.constants;
        callees = compiled.callees;
        locked = true;
      } in
      behind (frame_end (λ flow. []) emptied)
      (body_comes (module_context source turns) c false (calls_come turns) compiled.code.registers source.code compiled.is_code.compiled
      (λ e. plain) outermost s has)
      (λ e p. frame_ends (λ flow. []) emptied e p flow_kept (λ s1 held. held))
    where
      flow_kept : (flow : Flow) (s : State) → Flows false flow s → Flows false flow (emptied s)
      flow_kept next s f = f
      flow_kept continues s f = f
      flow_kept breaks s f = f
      flow_kept (returns v) s f = f

  gives_back : {A : Type 0} {Q : A → Type 0} {t : Interaction A} (o : Option Store) → Comes Q t → Comes Q (given_back o t)
  gives_back None f = f
  gives_back (Some store) f = leaves f

  section_ends : (e : Ends Flow) → Well (Flows false) e → Comes IsEnd (section_end e)
  section_ends (gives next s) f = gives_back s.store (ends (record { end = end.Done; is = refl }))
  section_ends (gives continues s) f = absurd f
  section_ends (gives breaks s) f = absurd f
  section_ends (gives (returns v) s) f = absurd (false≢true f.0)
  section_ends (raised fault s) f = gives_back s.store (ends (record { end = end.Raised fault; is = refl }))
  section_ends (spent s) f = gives_back s.store (ends (record { end = end.Spent; is = refl }))
  section_ends meaningless f = absurd f

  run_comes : HaveNoReturn (gathered source.code) → (turns members : ℕ) → Comes IsEnd (module_run source turns members)
  unfolding module_run
  run_comes plain turns members =
      enters (λ store. behind section_end
      (code_comes plain turns (holding store (first_state turns members)) (record { store = store; is = refl }))
      (λ e f. section_ends e f))

  pub has_outcome : HaveNoReturn (gathered source.code) → (input : List ℕ) (turns members : ℕ) → HasOutcome source input turns members
  unfolding meaning_in
  has_outcome plain input turns members =
      let x = ends_together (run_comes plain turns members) (first_world source.names input) in
      record {
        outcome = outcome x.holds.end x.behind;
        is = ap outcome_together x.is ∙ ap (λ e. outcome_from e x.behind) x.holds.is;
      }
