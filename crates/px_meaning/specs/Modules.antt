-- The run of a module.
use Rattle.std.specs.Prelude.{ℕ, [], length, map, take, Option, Some, None}
use Rattle.px_base.specs.declared.statuses.Status.{Status}
use Rattle.px_base.specs.declared.statuses.Status.TheVariants as status
use Rattle.px_tree.specs.declared.typed_modules.TypedFunction.{TypedFunction}
use Rattle.px_tree.specs.declared.typed_modules.Typed.{Typed}
use Rattle.px_typed_walk.specs.TypedView.{rose_of_typed}
use Rattle.px_model.specs.declared.outcomes.End.{End}
use Rattle.px_model.specs.declared.outcomes.End.TheVariants as end
use Rattle.px_meaning.specs.States.{State, new_frame, emptied}
use Rattle.px_meaning.specs.Interactions.{Interaction, ◌>>=◌}
use Rattle.px_meaning.specs.Ends.{Ends, gives, raised, spent, meaningless, frame_end, Flow, next, continues, breaks, returns}
use Rattle.px_meaning.specs.Sections.{with_lock}
use Rattle.px_meaning.specs.Expressions.{Context, outermost}
use Rattle.px_meaning.specs.Statements.{exec, in_turn}
use Rattle.px_meaning.specs.Calls.{SourceFunction, Source, context_of, calls_of}

-- What a typed module is as plain data

abbrev pub function_of : TypedFunction → SourceFunction
function_of f = record {
  params = map (λ local. local.value_type) (take f.params f.locals);
  variables = length f.locals;
  gives = f.gives;
  is_noexcept = f.is_noexcept;
  lock = f.lock;
  body = map rose_of_typed f.body;
}

abbrev pub source_of : Typed → Source
source_of typed = record {
  code = map rose_of_typed typed.code;
  functions = map function_of typed.functions;
  names = length typed.names;
  constants = typed.constants;
}

-- the state in which a run begins: one frame, without variables, and without the lock
abbrev pub first_state : ℕ → ℕ → State
first_state turns members = record { frame = new_frame []; callers = []; store = None; turns = turns; members = members }

abbrev pub module_context : Source → ℕ → Context
module_context source turns = context_of source turns (calls_of source turns)

-- its code, up to the end of its frame
abbrev pub module_code : Context → Source → State → Interaction (Ends Flow)
module_code context source s = in_turn (map (exec context) source.code) outermost s >>= frame_end (λ flow. []) emptied

-- The run of a module: its code with the lock held.
unfoldable pub module_run : Source → ℕ → ℕ → Interaction (Ends Flow)
module_run source turns members = with_lock (module_code (module_context source turns) source) (first_state turns members)

-- how a module ends; its code ends behind its last statement
abbrev pub end_of : Ends Flow → Option End
end_of (gives next s) = Some end.Done
end_of (gives continues s) = None
end_of (gives breaks s) = None
end_of (gives (returns v) s) = None
end_of (raised fault s) = Some (end.Raised fault)
end_of (spent s) = Some end.Spent
end_of meaningless = None

-- the status of a command that ran it
abbrev pub status_of : End → Status
status_of end.Done = status.Done
status_of (end.Raised fault) = status.Raised
status_of end.Spent = status.Spent
