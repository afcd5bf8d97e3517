-- The state of a run: its frames, the turns that it has left, and the store where it holds the lock.
use Rattle.std.specs.Prelude.{ℕ, suc, ◌==◌, List, [], ◌∷◌, ◌++◌, length, map, take, replicate, slice_index_or, slice_set, count_by, flat_map, Option, Some, None}
use Rattle.px_model.specs.declared.stores.Store.{Store}
use Rattle.px_meaning.specs.Values.{Value, Variable, buffers_of}

-- A function that runs, or module code.
pub record Frame : Type 0 where
  -- the variables, by their places among the locals
  pub variables : List Variable
  -- the buffers of the views that expressions have at the moment, in the order in which these were made; no form that has a meaning
  -- makes one
  pub temporaries : List ℕ
  -- the operand of a comparison that the comparison behind it reads too
  pub kept : Option Value

pub record State : Type 0 where
  -- the frame that runs, and those that wait for it, the innermost first
  pub frame : Frame
  pub callers : List Frame
  -- there where the run holds the lock
  pub store : Option Store
  pub turns : ℕ
  -- the size of the run's team, which no step changes
  pub members : ℕ

-- how many frames there are
abbrev pub depth : State → ℕ
depth s = suc (length s.callers)

-- Variables

abbrev pub variable_at : State → ℕ → Variable
variable_at s slot = slice_index_or s.frame.variables slot None

abbrev pub with_variables : State → List Variable → State
with_variables s variables = record s { frame = record s.frame { variables = variables } }

abbrev pub assigned : ℕ → Value → State → State
assigned slot v s = with_variables s (slice_set s.frame.variables slot (Some v))

abbrev pub keeping : Value → State → State
keeping v s = record s { frame = record s.frame { kept = Some v } }

-- The lock

abbrev pub holding : Store → State → State
holding store s = record s { store = Some store }

abbrev pub freed : State → State
freed s = record s { store = None }

-- Frames

-- the variables of a call: its arguments, and the others unassigned
abbrev pub opening_variables : ℕ → List Value → List Variable
opening_variables count arguments = take count (map Some arguments ++ replicate count None)

abbrev pub new_frame : List Variable → Frame
new_frame variables = record { variables = variables; temporaries = []; kept = None }

abbrev pub entered : Frame → State → State
entered frame s = record s { frame = frame; callers = s.frame ∷ s.callers }

-- a call is over: the frames are those of the caller
abbrev pub back_to : State → State → State
back_to caller s = record s { frame = caller.frame; callers = caller.callers }

-- module code is over: its frame has nothing any more
abbrev pub emptied : State → State
emptied s = record s { frame = new_frame [] }

-- The holders of a buffer are the live view values on it: variables, parameters and temporaries of all frames (Cython user guide,
-- Typed Memoryviews).

abbrev pub buffers_of_variables : Frame → List ℕ
buffers_of_variables frame = flat_map buffers_of frame.variables

-- in the order in which they go at the frame's end
abbrev pub buffers_of_frame : Frame → List ℕ
buffers_of_frame frame = frame.temporaries ++ buffers_of_variables frame

abbrev pub buffers_of_frames : List Frame → List ℕ
buffers_of_frames frames = flat_map buffers_of_frame frames

abbrev pub times_in : ℕ → List ℕ → ℕ
times_in buffer buffers = count_by (λ b. b == buffer) buffers

abbrev pub holders_of : State → ℕ → ℕ
holders_of s buffer = times_in buffer (buffers_of_frames (s.frame ∷ s.callers))
