-- Calls of functions (Python Language Reference 6.3.4; Cython user guide, Language Basics and Cython and the GIL).
use Rattle.std.specs.Prelude.{ℕ, zero, suc, Bool, true, false, nat_lt, if◌then◌else◌, List, map, slice_get, Option, Some, None, pos}
use Rattle.px_base.specs.declared.faults.Kind.TheVariants.{RecursionError, UnboundLocalError}
use Rattle.px_base.specs.declared.objects.Constant.{Constant}
use Rattle.px_ctypes.specs.Operators.{fault_of}
use Rattle.px_tree.specs.declared.modules.Lock.{Lock}
use Rattle.px_tree.specs.declared.modules.Lock.TheVariants as lock
use Rattle.px_tree.specs.declared.typed_values.ValueType.{ValueType}
use Rattle.px_tree.specs.declared.typed_values.ValueType.TheVariants as value
use Rattle.px_typed_walk.specs.TypedView.{TypedRose}
use Rattle.px_model.specs.declared.stores.ObjectValue.TheVariants as object_value
use Rattle.px_meaning.specs.Values.{Value, whole, nothing, buffers_in}
use Rattle.px_meaning.specs.States.{State, depth, opening_variables, new_frame, entered, back_to}
use Rattle.px_meaning.specs.Interactions.{Interaction, done, ◌>>=◌}
use Rattle.px_meaning.specs.Ends.{Ends, gives, raised, spent, meaningless, on_value, spending, frame_end, Flow, next, continues, breaks, returns}
use Rattle.px_meaning.specs.Sections.{with_lock}
use Rattle.px_meaning.specs.Objects.{stepping, new_object}
use Rattle.px_meaning.specs.Expressions.{Calls, Context, outermost}
use Rattle.px_meaning.specs.Statements.{exec, in_turn}

-- A function as plain data: the types of its parameters, how many variables it has, of which the parameters are the first, the type of
-- its result, whether its faults are swallowed, its lock clause and its statements.
pub record SourceFunction : Type 0 where
  pub params : List ValueType
  pub variables : ℕ
  pub gives : ValueType
  pub is_noexcept : Bool
  pub lock : Lock
  pub body : List TypedRose

-- A module as plain data: the statements of its code, its functions, how many names it has, and its constants.
pub record Source : Type 0 where
  pub code : List TypedRose
  pub functions : List SourceFunction
  pub names : ℕ
  pub constants : List Constant

abbrev pub context_of : Source → ℕ → Calls → Context
context_of source bound calls = record { calls = calls; constants = source.constants; bound = bound }

-- What a function gives that ends without a value: 0, None, nothing, or a fault where it would be a view.
abbrev pub ending_value : ValueType → State → Ends Value
ending_value (value.C t) s = gives (whole (pos 0)) s
ending_value value.Object s = stepping (new_object object_value.None) s
ending_value (value.View t) s = raised (fault_of UnboundLocalError 26) s
ending_value value.Void s = gives nothing s

-- `return` alone counts as such an end
abbrev pub returned_value : ValueType → Value → State → Ends Value
returned_value t nothing s = ending_value t s
returned_value t v s = gives v s

abbrev pub flow_value : ValueType → Flow → State → Interaction (Ends Value)
flow_value t next s = done (ending_value t s)
flow_value t continues s = done meaningless
flow_value t breaks s = done meaningless
flow_value t (returns v) s = done (returned_value t v s)

-- A fault of a `noexcept` function whose result isn't a view is swallowed.

abbrev pub swallows : Bool → ValueType → Bool
swallows false t = false
swallows true (value.View t) = false
swallows true _ = true

abbrev pub swallowed : Bool → ValueType → Ends Value → Interaction (Ends Value)
swallowed swallows t (gives v s) = done (gives v s)
swallowed swallows t (raised fault s) = if swallows then done (ending_value t s) else done (raised fault s)
swallowed swallows t (spent s) = done (spent s)
swallowed swallows t meaningless = done meaningless

-- a function whose frame runs, up to the end of the frame
abbrev pub function_run : Context → SourceFunction → State → State → Interaction (Ends Value)
function_run context f caller s =
    in_turn (map (exec context) f.body) outermost s >>= on_value (flow_value f.gives) >>= swallowed (swallows f.is_noexcept f.gives) f.gives
    >>= frame_end buffers_in (back_to caller)

-- a function `with gil` runs in a section, up to the end of its frame
abbrev pub in_lock : Lock → (State → Interaction (Ends Value)) → State → Interaction (Ends Value)
in_lock lock.Unwritten go s = go s
in_lock lock.Nogil go s = go s
in_lock lock.WithGil go s = with_lock go s

abbrev pub frame_limit : ℕ
frame_limit = 500

-- the frame is made; the fault of one that isn't made is the caller's
abbrev pub framed : Context → SourceFunction → List Value → State → Interaction (Ends Value)
framed context f arguments s =
    if nat_lt (depth s) frame_limit
    then in_lock f.lock (function_run context f s) (entered (new_frame (opening_variables f.variables arguments)) s)
    else done (raised (fault_of RecursionError 31) s)

abbrev pub called : Context → Option SourceFunction → List Value → State → Interaction (Ends Value)
called context None arguments s = done meaningless
called context (Some f) arguments s = spending (framed context f arguments) s

-- What calls of the functions of a module do. The number bounds the calls that may stand in one another: each spends a turn, so none is
-- past the number of turns with which the run began.
unfoldable pub calls_of : Source → ℕ → Calls
calls_of source zero function arguments s = done (spent s)
calls_of source (suc n) function arguments s =
    called (context_of source n (calls_of source n)) (slice_get source.functions function) arguments s
