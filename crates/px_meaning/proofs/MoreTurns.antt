-- More turns change nothing of a meaning that isn't spent.
use Rattle.std.proofs.Common.{◌≡◌, ℕ, zero, suc, ◌+◌, ◌≤◌, List, [], map, Option, Some, None, Bool, refl, sym, ap, ◌∙◌, arith}
use Rattle.std.specs.Prelude.{nat_lt, slice_get}
use Rattle.px_tree.specs.declared.modules.Lock.{Lock}
use Rattle.px_tree.specs.declared.modules.Lock.TheVariants as lock
use Rattle.px_tree.specs.declared.typed_values.ValueType.{ValueType}
use Rattle.px_tree.specs.declared.typed_values.ValueType.TheVariants as value
use Rattle.px_model.specs.declared.outcomes.End.TheVariants as end
use Rattle.px_model.specs.declared.outcomes.Outcome.{Outcome}
use Rattle.px_model.specs.declared.stores.ObjectValue.TheVariants as object_value
use Rattle.px_meaning.specs.Values.{Value, whole, object, view, nothing, buffers_in}
use Rattle.px_meaning.specs.States.{State, depth, opening_variables, new_frame, entered, emptied, back_to}
use Rattle.px_meaning.specs.Interactions.{Interaction, done}
use Rattle.px_meaning.specs.Ends.{Ends, gives, Flow, next, continues, breaks, returns}
use Rattle.px_meaning.specs.Objects.{new_object}
use Rattle.px_meaning.specs.Expressions.{Context, outermost}
use Rattle.px_meaning.specs.Statements.{exec}
use Rattle.px_meaning.specs.Calls.{SourceFunction, Source, context_of, ending_value, returned_value, flow_value, swallows, swallowed, function_run, in_lock, frame_limit, framed, called, calls_of}
use Rattle.px_meaning.specs.Modules.{first_state, module_code, module_context, module_run, end_of}
use Rattle.px_meaning.specs.OneWorld.{together, first_world, outcome_from, outcome_together, meaning_in}
use Rattle.px_meaning.specs.Worlds.{World}
use Rattle.px_meaning.specs.Laws.{MoreTurnsChangeNothing}
use Rattle.px_meaning.proofs.Alike.{more_turns, IsOver, ran_out, lost, gives_back, comes_to_loop, Alike, over, gave_alike, raised_alike, loads, puts, fills, copies, makes, releases, enters, leaves, GoesOnAlike, behind, values_alike, later, done_as, stepping_later, spending_alike, with_lock_alike, frame_alike}
use Rattle.px_meaning.proofs.AlikeExpressions.{ContextsAlike, either_alike}
use Rattle.px_meaning.proofs.AlikeStatements.{in_turn_alike, code_alike}

module _ (extra : ℕ) where
  ending_later : (t : ValueType) (s : State) → later extra (ending_value t s) ≡ ending_value t (more_turns extra s)
  ending_later (value.C t) s = refl
  ending_later value.Object s = stepping_later extra (new_object object_value.None) s
  ending_later (value.View t) s = refl
  ending_later value.Void s = refl

  ending_alike : (t : ValueType) (s : State) → Alike extra (done (ending_value t s)) (done (ending_value t (more_turns extra s)))
  ending_alike t s = done_as extra (ending_value t s) (ending_value t (more_turns extra s)) (ending_later t s)

  returned_alike : (t : ValueType) (v : Value) (s : State)
      → Alike extra (done (returned_value t v s)) (done (returned_value t v (more_turns extra s)))
  returned_alike t (whole n) s = gave_alike
  returned_alike t (object serial) s = gave_alike
  returned_alike t (view v) s = gave_alike
  returned_alike t nothing s = ending_alike t s

  flow_alike : (t : ValueType) (flow : Flow) (s : State) → Alike extra (flow_value t flow s) (flow_value t flow (more_turns extra s))
  flow_alike t next s = ending_alike t s
  flow_alike t continues s = over lost
  flow_alike t breaks s = over lost
  flow_alike t (returns v) s = returned_alike t v s

  swallowed_alike : (b : Bool) (t : ValueType) → GoesOnAlike extra (swallowed b t) (swallowed b t)
  swallowed_alike b t = record {
    gave = λ v s. gave_alike;
    failed = λ fault s. either_alike extra b _ _ _ _ (ending_alike t s) raised_alike;
    ran_out = λ s. ran_out;
    lost = lost;
  }

  run_alike : (c d : Context) → ContextsAlike extra c d → (f : SourceFunction) (caller s : State)
      → Alike extra (function_run c f caller s) (function_run d f (more_turns extra caller) (more_turns extra s))
  run_alike c d ctx f caller s =
      behind (behind (behind (in_turn_alike extra (map (exec c) f.body) (map (exec d) f.body) (code_alike extra c d ctx f.body) outermost s)
      (values_alike extra _ _ (flow_alike f.gives))) (swallowed_alike (swallows f.is_noexcept f.gives) f.gives))
      (frame_alike extra buffers_in (back_to caller) (back_to (more_turns extra caller)) (λ last. refl))

  lock_alike : (l : Lock) (go go2 : State → Interaction (Ends Value)) → ((s : State) → Alike extra (go s) (go2 (more_turns extra s)))
      → (s : State) → Alike extra (in_lock l go s) (in_lock l go2 (more_turns extra s))
  lock_alike lock.Unwritten go go2 same s = same s
  lock_alike lock.Nogil go go2 same s = same s
  lock_alike lock.WithGil go go2 same s = with_lock_alike extra go go2 same s

  framed_alike : (c d : Context) → ContextsAlike extra c d → (f : SourceFunction) (arguments : List Value) (s : State)
      → Alike extra (framed c f arguments s) (framed d f arguments (more_turns extra s))
  framed_alike c d ctx f arguments s =
      either_alike extra (nat_lt (depth s) frame_limit) _ _ _ _
      (lock_alike f.lock (function_run c f s) (function_run d f (more_turns extra s)) (run_alike c d ctx f s)
      (entered (new_frame (opening_variables f.variables arguments)) s))
      raised_alike

  called_alike : (c d : Context) → ContextsAlike extra c d → (o : Option SourceFunction) (arguments : List Value) (s : State)
      → Alike extra (called c o arguments s) (called d o arguments (more_turns extra s))
  called_alike c d ctx None arguments s = over lost
  called_alike c d ctx (Some f) arguments s = spending_alike extra (framed c f arguments) (framed d f arguments)
      (framed_alike c d ctx f arguments) s

  calls_alike : (source : Source) (n m : ℕ) → n ≤ m → (function : ℕ) (arguments : List Value) (s : State)
      → Alike extra (calls_of source n function arguments s) (calls_of source m function arguments (more_turns extra s))
  unfolding calls_of
  calls_alike source zero m le function arguments s = over ran_out
  calls_alike source (suc n) zero le function arguments s = absurd (omega (arith, le))
  calls_alike source (suc n) (suc m) le function arguments s =
      called_alike (context_of source n (calls_of source n)) (context_of source m (calls_of source m))
      (record { calls = calls_alike source n m (omega (arith, le)); constants = refl; bound = omega (arith, le) })
      (slice_get source.functions function) arguments s

  contexts_alike : (source : Source) (turns : ℕ) → ContextsAlike extra (module_context source turns) (module_context source (turns + extra))
  contexts_alike source turns = record {
    calls = calls_alike source turns (turns + extra) (omega arith);
    constants = refl;
    bound = omega
        arith;
  }

  module_alike : (source : Source) (turns members : ℕ)
      → Alike extra (module_run source turns members) (module_run source (turns + extra) members)
  unfolding module_run
  module_alike source turns members =
      let c = module_context source turns in
      let d = module_context source (turns + extra) in
      with_lock_alike extra (module_code c source) (module_code d source)
      (λ s. behind (in_turn_alike extra (map (exec c) source.code) (map (exec d) source.code)
      (code_alike extra c d (contexts_alike source turns) source.code) outermost s)
      (frame_alike extra (λ flow. []) emptied emptied (λ last. refl)))
      (first_state turns members)

no_outcome : {A : Type 0} {a : A} → None ≡ Some a → ⊥
no_outcome same = cc

is_there : {A : Type 0} {a b : A} → Some a ≡ Some b → a ≡ b
is_there same = cc

-- a run that is over has no outcome but that it is spent
over_is_spent : {t : Interaction (Ends Flow)} → IsOver t → (w : World) (o : Outcome) → outcome_together (together t w) ≡ Some o
    → o.end ≡ end.Spent
over_is_spent ran_out w o is = sym (ap (λ x. x.end) (is_there is))
over_is_spent lost w o is = absurd (no_outcome is)
over_is_spent (gives_back x) w o is = over_is_spent x _ o is
over_is_spent comes_to_loop w o is = absurd (no_outcome is)

end_same : (flow : Flow) (s v : State) → end_of (gives flow s) ≡ end_of (gives flow v)
end_same next s v = refl
end_same continues s v = refl
end_same breaks s v = refl
end_same (returns x) s v = refl

alike_same : {extra : ℕ} {t u : Interaction (Ends Flow)} → Alike extra t u → (w : World) (o : Outcome)
    → outcome_together (together t w) ≡ Some o → (o.end ≡ end.Spent → ⊥)
    → outcome_together (together u w) ≡ Some o
alike_same (over x) w o is alive = absurd (alive (over_is_spent x w o is))
alike_same {extra} (gave_alike {a} {s}) w o is alive = ap (λ e. outcome_from e w) (end_same a (more_turns extra s) s) ∙ is
alike_same raised_alike w o is alive = is
alike_same (loads k) w o is alive = alike_same (k _) w o is alive
alike_same (puts x) w o is alive = alike_same x _ o is alive
alike_same (fills x) w o is alive = alike_same x _ o is alive
alike_same (copies x) w o is alive = alike_same x _ o is alive
alike_same (makes x) w o is alive = alike_same x _ o is alive
alike_same (releases x) w o is alive = alike_same x _ o is alive
alike_same (enters k) w o is alive = alike_same (k _) w o is alive
alike_same (leaves x) w o is alive = alike_same x _ o is alive

pub more_turns_change_nothing : MoreTurnsChangeNothing
unfolding meaning_in
more_turns_change_nothing source input turns extra members o is alive =
    alike_same (module_alike extra source turns members) (first_world source.names input) o is alive
