-- What the end of a frame releases.
use Rattle.std.proofs.Common.{◌≡◌, refl}
use Rattle.std.specs.Prelude.{ℕ, pos, List, [], ◌∷◌, Some, None}
use Rattle.px_base.specs.declared.faults.Kind.TheVariants.{ZeroDivisionError}
use Rattle.px_ctypes.specs.Operators.{fault_of}
use Rattle.px_meaning.specs.Values.{Value, Variable, whole, view, nothing, buffers_in}
use Rattle.px_meaning.specs.States.{State, back_to, new_frame, holders_of}
use Rattle.px_meaning.specs.Worlds.{World}
use Rattle.px_meaning.specs.OneWorld.{ended, together, first_store}
use Rattle.px_meaning.specs.Interactions.{done, released}
use Rattle.px_meaning.specs.Ends.{gives, raised, spent, frame_end}

-- a view without cells on the buffer of this number
abbrev on_buffer : ℕ → Value
on_buffer buffer = view (record { buffer = buffer; view = record { shape = []; cells = [] } })

abbrev viewing : ℕ → Variable
viewing buffer = Some (on_buffer buffer)

-- the caller has a view on the second buffer
abbrev caller : State
caller = record { frame = new_frame (viewing 2 ∷ Some (whole (pos 5)) ∷ []); callers = []; store = None; turns = 9; members = 1 }

-- the function has views on the first three, of which the last one is a temporary
abbrev function : State
function = record caller {
  frame = record { variables = viewing 1 ∷ None ∷ viewing 2 ∷ viewing 1 ∷ []; temporaries = 3 ∷ []; kept = None };
  callers = caller.frame ∷ [];
  turns = 7;
}

abbrev behind : State
behind = record caller { turns = 7 }

first_is_held_twice : holders_of function 1 ≡ 2
first_is_held_twice = refl

second_is_held_twice : holders_of function 2 ≡ 2
second_is_held_twice = refl

-- the temporary goes first, the first buffer with the last of its views, and the second one has a holder left
all_go : frame_end buffers_in (back_to caller) (gives nothing function) ≡ released 3 (released 1 (done (gives nothing behind)))
all_go = refl

-- what is given is held by the caller
one_is_given : frame_end buffers_in (back_to caller) (gives (on_buffer 1) function) ≡ released 3 (done (gives (on_buffer 1) behind))
one_is_given = refl

-- after a fault they go too, and a spent run releases nothing
behind_a_fault : {A : Type 0} (held : A → List ℕ)
    → frame_end held (back_to caller) (raised (fault_of ZeroDivisionError 1) function) ≡ released 3
    (released 1 (done (raised (fault_of ZeroDivisionError 1) behind)))
behind_a_fault held = refl

behind_the_turns : {A : Type 0} (held : A → List ℕ) → frame_end held (back_to caller) (spent function) ≡ done (spent behind)
behind_the_turns held = refl

-- releases stand in the order in which they come
abbrev shared : World
shared = record { words = λ cell. 0; store = first_store 0 []; released = 7 ∷ [] }

in_their_order : together (frame_end buffers_in (back_to caller) (gives nothing function)) shared
    ≡ ended (gives nothing behind) (record shared { released = 7 ∷ 3 ∷ 1 ∷ [] })
in_their_order = refl
