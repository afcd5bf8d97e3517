-- What variables and expressions have while a module runs.
use Rattle.std.specs.Prelude.{ℕ, ℤ, pos, List, [], ◌∷◌, Option, Some, None}
use Rattle.px_model.specs.declared.cells.ViewCells.{ViewCells}

-- A view with the number of its buffer, from 1, of which it is a holder, also where it has no cells.
pub record ViewValue : Type 0 where
  pub buffer : ℕ
  pub view : ViewCells

pub data Value : Type 0 where
  -- a number of a C integer type
  whole : ℤ → Value
  -- an object, by its serial number
  object : ℕ → Value
  view : ViewValue → Value
  -- what a void function gives
  nothing : Value

-- the buffers that a value holds, which is one or none
abbrev pub buffers_in : Value → List ℕ
buffers_in (whole n) = []
buffers_in (object serial) = []
buffers_in (view v) = v.buffer ∷ []
buffers_in nothing = []

-- A variable has a value, or it isn't assigned. An unassigned one of a C type is read as 0.

abbrev pub Variable : Type 0
Variable = Option Value

abbrev pub buffers_of : Variable → List ℕ
buffers_of None = []
buffers_of (Some v) = buffers_in v

-- the number of a variable of a C type
abbrev pub number_in : Variable → ℤ
number_in (Some (whole n)) = n
number_in _ = pos 0
