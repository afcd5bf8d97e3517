-- Iterations of parallel loops, each alone (Cython user guide, Using Parallelism).
use Rattle.std.specs.Prelude.{ℕ, suc, ◌-◌, ℤ, pos, neg_ℤ, ◌+ℤ◌, ◌*ℤ◌, Bool, true, false, List, [], ◌∷◌, ◌++◌, Some, None}
use Rattle.px_base.specs.declared.c_types.CType.{CType}
use Rattle.px_base.specs.declared.c_types.BinOp.{BinOp}
use Rattle.px_base.specs.declared.c_types.BinOp.TheVariants as binary
use Rattle.px_ctypes.specs.Conversions.{converted}
use Rattle.px_model.specs.declared.stores.Store.{Store}
use Rattle.px_model.specs.declared.outcomes.LoopEnd.{LoopEnd}
use Rattle.px_model.specs.declared.outcomes.LoopEnd.TheVariants as loop_end
use Rattle.px_meaning.specs.Values.{Value, Variable, whole, object, view, nothing}
use Rattle.px_meaning.specs.States.{State, with_variables, freed, assigned}
use Rattle.px_meaning.specs.Interactions.{Interaction, done, load, put, fill, copy, make, released, enter, leave, loop, LoopEntry}
use Rattle.px_meaning.specs.Ends.{Ends, gives, raised, spent, meaningless, spending, Flow, next, continues, breaks, returns}
use Rattle.px_meaning.specs.Statements.{Execution}
use Rattle.px_meaning.specs.Expressions.{outermost}
use Rattle.px_meaning.specs.Worlds.{Words, Write, written, fill_writes, copy_writes}

-- What a variable of the loop's function is in the loop. The index is one that has its last value behind it.
pub data Role : Type 0 where
  shared : Role
  reduction : BinOp → CType → Role
  last : Role
  private : Role

-- What is fixed of a loop: the roles of the variables of its function, by their places, which of them is the index, the type of that,
-- and what the statements of the body do.
pub record LoopBody : Type 0 where
  pub roles : List Role
  pub index : ℕ
  pub index_type : CType
  pub run : Execution

-- the loops of a module, by their places among these
abbrev pub LoopBodies : Type 0
LoopBodies = ℕ → LoopBody

-- the index at a place
abbrev pub index_at : LoopEntry → ℕ → ℤ
index_at entry place = entry.start +ℤ (pos place *ℤ entry.step)

-- The opening of an iteration. Private copies start unassigned, which is 0 for what reads them, and those of reductions at a value
-- that changes nothing.

abbrev pub first_copy : BinOp → CType → ℤ
first_copy binary.Mul t = converted t (pos 1)
-- all bits are ones
first_copy binary.BitAnd t = converted t (neg_ℤ (pos 1))
first_copy _ t = pos 0

abbrev pub copy_of : Role → Variable → Variable
copy_of shared variable = variable
copy_of (reduction op t) variable = Some (whole (first_copy op t))
copy_of last variable = None
copy_of private variable = None

abbrev pub copies_of : List Role → List Variable → List Variable
copies_of (role ∷ roles) (variable ∷ variables) = copy_of role variable ∷ copies_of roles variables
copies_of _ variables = variables

abbrev pub with_index : LoopBody → LoopEntry → ℕ → State → State
with_index body entry place s = assigned body.index (whole (converted body.index_type (index_at entry place))) s

abbrev pub iteration_opening : LoopBody → LoopEntry → State
iteration_opening body entry = with_variables (freed entry.opening) (copies_of body.roles entry.opening.frame.variables)

-- the body with the index of a place
abbrev pub body_at : LoopBody → LoopEntry → ℕ → State → Interaction (Ends Flow)
body_at body entry place s = body.run outermost (with_index body entry place s)

-- The run of the body for one place: it spends one turn first.
abbrev pub iteration : LoopBodies → LoopEntry → ℕ → Interaction (Ends Flow)
iteration bodies entry place =
    spending (body_at (bodies entry.prange) entry place) (iteration_opening (bodies entry.prange) entry)

-- An iteration alone on the opening words, whose j-th lock section begins with the j-th store: how far it comes, its writes, in their
-- order, and the stores that its sections leave.

pub data Reached (A : Type 0) : Type 0 where
  -- it waits for one more section
  waits : Reached A
  ended : A → Reached A
  -- it comes to what no accepted body does: a loop of its own, or the release of a buffer
  refused : Reached A

pub record Alone (A : Type 0) : Type 0 where
  pub reached : Reached A
  pub writes : List Write
  pub left : List Store

abbrev pub reaching : {A : Type 0} → Reached A → Alone A
reaching reached = record { reached = reached; writes = []; left = [] }

abbrev pub behind_writes : {A : Type 0} → List Write → Alone A → Alone A
behind_writes writes a = record a { writes = writes ++ a.writes }

abbrev pub behind_section : {A : Type 0} → Store → Alone A → Alone A
behind_section store a = record a { left = store ∷ a.left }

abbrev pub alone : {A : Type 0} → Interaction A → Words → List Store → Alone A
alone (done a) words starts = reaching (ended a)
alone (load cell k) words starts = alone (k (words cell)) words starts
alone (put cell word t) words starts =
    behind_writes ((cell, word) ∷ []) (alone t (written ((cell, word) ∷ []) words) starts)
alone (fill cells word t) words starts =
    behind_writes (fill_writes cells word) (alone t (written (fill_writes cells word) words) starts)
alone (copy pairs from to t) words starts =
    behind_writes (copy_writes pairs from to words) (alone t (written (copy_writes pairs from to words) words) starts)
alone (make buffer size t) words starts = alone t words starts
alone (released buffer t) words starts = reaching refused
alone (enter k) words [] = reaching waits
alone (enter k) words (store ∷ starts) = alone (k store) words starts
alone (leave store t) words starts = behind_section store (alone t words starts)
alone (loop entry k) words starts = reaching refused

-- How an iteration ends. None of a lawful journal ends as `meaningless`, so what is said of that is of no weight.

-- whether it stops the loop
abbrev pub is_stop : Ends Flow → Bool
is_stop (gives next s) = false
is_stop (gives continues s) = false
is_stop (gives breaks s) = true
is_stop (gives (returns v) s) = true
is_stop (raised fault s) = true
is_stop (spent s) = true
is_stop meaningless = false

-- what a loop returns; from a void function it is 0
abbrev pub returned_number : Value → ℤ
returned_number (whole n) = n
returned_number (object serial) = pos 0
returned_number (view v) = pos 0
returned_number nothing = pos 0

-- the end of the loop that it stops
abbrev pub stop_end : Ends Flow → LoopEnd
stop_end (gives next s) = loop_end.Over
stop_end (gives continues s) = loop_end.Over
stop_end (gives breaks s) = loop_end.Broke
stop_end (gives (returns v) s) = loop_end.Returned (returned_number v)
stop_end (raised fault s) = loop_end.Raised fault
stop_end (spent s) = loop_end.Spent
stop_end meaningless = loop_end.Over

-- The turns that it spent, of those at the loop's entry. A spent one counts as one turn more than it had.
abbrev pub turns_spent : ℕ → Ends Flow → ℕ
turns_spent had (gives flow s) = had - s.turns
turns_spent had (raised fault s) = had - s.turns
turns_spent had (spent s) = suc had
turns_spent had meaningless = 0

-- its copies
abbrev pub copies_left : Ends Flow → List Variable
copies_left (gives flow s) = s.frame.variables
copies_left (raised fault s) = s.frame.variables
copies_left (spent s) = s.frame.variables
copies_left meaningless = []
