-- How a part of a run ends.
use Rattle.std.specs.Prelude.{ℕ, zero, suc, ◌+◌, ℤ, List, [], ◌∷◌, Result, Ok, Err}
use Rattle.px_base.specs.declared.faults.Fault.{Fault}
use Rattle.px_meaning.specs.Values.{Value, whole, object, view, nothing}
use Rattle.px_meaning.specs.States.{State, buffers_of_frame, times_in, holders_of}
use Rattle.px_meaning.specs.Interactions.{Interaction, done, released}

pub data Ends (A : Type 0) : Type 0 where
  gives : A → State → Ends A
  raised : Fault → State → Ends A
  -- no turn was left for the next turn of a loop or call; nothing is done any more
  spent : State → Ends A
  -- what stands there is no form that types give, or one that isn't built
  meaningless : Ends A

abbrev pub HasMeaning : {A : Type 0} → Ends A → Type 0
HasMeaning (gives a s) = Unit {0}
HasMeaning (raised fault s) = Unit {0}
HasMeaning (spent s) = Unit {0}
HasMeaning meaningless = ⊥

-- A form that types give and whose meaning isn't defined. A module with one is refused before it runs.
abbrev pub not_built : {A : Type 0} → Interaction (Ends A)
not_built = done meaningless

-- goes on with the value
abbrev pub on_value : {A B : Type 0} → (A → State → Interaction (Ends B)) → Ends A → Interaction (Ends B)
on_value go (gives a s) = go a s
on_value go (raised fault s) = done (raised fault s)
on_value go (spent s) = done (spent s)
on_value go meaningless = done meaningless

-- goes on with a number of a C type
abbrev pub on_whole : {B : Type 0} → (ℤ → State → Interaction (Ends B)) → Value → State → Interaction (Ends B)
on_whole go (whole n) s = go n s
on_whole go (object serial) s = done meaningless
on_whole go (view v) s = done meaningless
on_whole go nothing s = done meaningless

abbrev pub on_number : {B : Type 0} → (ℤ → State → Interaction (Ends B)) → Ends Value → Interaction (Ends B)
on_number go = on_value (on_whole go)

-- the number of an operator, or its fault
abbrev pub number_or_fault : Result ℤ Fault → State → Ends Value
number_or_fault (Ok n) s = gives (whole n) s
number_or_fault (Err fault) s = raised fault s

-- Each turn of a loop and each call spends one turn.
abbrev pub spend : {A : Type 0} → ℕ → (State → Interaction (Ends A)) → State → Interaction (Ends A)
spend zero go s = done (spent s)
spend (suc left) go s = go (record s { turns = left })

abbrev pub spending : {A : Type 0} → (State → Interaction (Ends A)) → State → Interaction (Ends A)
spending go s = spend s.turns go s

-- How a statement ends that raises nothing (Python Language Reference 7 and 8).
pub data Flow : Type 0 where
  next : Flow
  continues : Flow
  breaks : Flow
  -- with the value, which is `nothing` where none stands there
  returns : Value → Flow

-- what comes behind a statement
abbrev pub then_do : (State → Interaction (Ends Flow)) → Flow → State → Interaction (Ends Flow)
then_do go next s = go s
then_do go continues s = done (gives continues s)
then_do go breaks s = done (gives breaks s)
then_do go (returns v) s = done (gives (returns v) s)

-- what comes behind the body of a loop
abbrev pub behind_body : (State → Interaction (Ends Flow)) → Flow → State → Interaction (Ends Flow)
behind_body go next s = go s
behind_body go continues s = go s
behind_body go breaks s = done (gives next s)
behind_body go (returns v) s = done (gives (returns v) s)

-- Views that go at one moment, in this order, where so many other views hold each buffer. A buffer is released where its holders go
-- from 1 to 0.

abbrev pub release_unless : {A : Type 0} → ℕ → ℕ → Interaction A → Interaction A
release_unless zero buffer t = released buffer t
release_unless (suc holders) buffer t = t

abbrev pub letting_go : {A : Type 0} → List ℕ → (ℕ → ℕ) → Interaction A → Interaction A
letting_go [] others t = t
letting_go (buffer ∷ going) others t =
    release_unless (times_in buffer going + others buffer) buffer (letting_go going others t)

-- The end of a frame: its temporaries go, and then its parameters and locals in the order of their declarations, after a fault too.
-- Others that hold their buffers are the holders in the state behind the frame, and what the frame gives. A spent run releases nothing.
abbrev pub frame_end : {A : Type 0} → (A → List ℕ) → (State → State) → Ends A → Interaction (Ends A)
frame_end held back (gives a s) =
    letting_go (buffers_of_frame s.frame) (λ buffer. times_in buffer (held a) + holders_of (back s) buffer) (done (gives a (back s)))
frame_end held back (raised fault s) = letting_go (buffers_of_frame s.frame) (holders_of (back s)) (done (raised fault (back s)))
frame_end held back (spent s) = done (spent (back s))
frame_end held back meaningless = done meaningless
