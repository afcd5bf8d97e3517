-- Which journals of a parallel loop are lawful, and what the loop means along one (Cython user guide, Using Parallelism; what it leaves
-- to the implementation are this language's own rules).
use Rattle.std.specs.Prelude.{◌≡◌, ◌<◌, ◌≤◌, ℕ, suc, ◌-◌, ◌==◌, ℤ, Bool, false, IsTrue, nat_lt, if◌then◌else◌, List, [], ◌∷◌, ◌++◌, length, map, sum, count_by, filter_map, flat_map, slice_get, slice_index, slice_index_or, Contains, Option, Some, None, Result, Ok, Err}
use Rattle.std.specs.List.{range_with_len}
use Rattle.px_base.specs.declared.c_types.CType.{CType}
use Rattle.px_base.specs.declared.c_types.BinOp.{BinOp}
use Rattle.px_base.specs.declared.c_types.BinOp.TheVariants as binary
use Rattle.px_base.specs.declared.faults.Fault.{Fault}
use Rattle.px_ctypes.specs.Operators.{binary_value}
use Rattle.px_model.specs.Partition.{Partition}
use Rattle.px_model.specs.Chunks.{chunk_table, first_place, chunk_owner}
use Rattle.px_model.specs.declared.stores.Store.{Store}
use Rattle.px_model.specs.declared.journals.Ran.{Ran}
use Rattle.px_model.specs.declared.journals.Journal.{Journal}
use Rattle.px_model.specs.declared.outcomes.LoopEnd.{LoopEnd}
use Rattle.px_model.specs.declared.outcomes.LoopEnd.TheVariants as loop_end
use Rattle.px_meaning.specs.Values.{Variable, whole, number_in}
use Rattle.px_meaning.specs.Interactions.{Interaction, LoopEntry, LoopReport}
use Rattle.px_meaning.specs.Ends.{Ends, HasMeaning, Flow}
use Rattle.px_meaning.specs.Iterations.{Role, shared, reduction, last, private, LoopBodies, iteration, Alone, Reached, waits, ended, refused, alone, is_stop, stop_end, turns_spent, copies_left}
use Rattle.px_meaning.specs.Worlds.{Words, Write, written, World}

-- Which iterations ran, by their places

-- those of a taken chunk, which are as many of its first ones as the journal says
abbrev pub places_of : List ℕ → Ran → List ℕ
places_of table run = range_with_len (first_place table run.chunk) run.ran

abbrev pub places_ran : Partition → Journal → List ℕ
places_ran p journal = flat_map (places_of (chunk_table p)) journal.ran

-- a member ran the iteration at a place
pub record RanBy (p : Partition) (journal : Journal) (member place : ℕ) : Type 0 where
  pub run : Ran
  pub taken : Contains journal.ran run
  pub by : run.member ≡ member
  pub there : Contains (places_of (chunk_table p) run) place

-- Lock sections. Each entry of a journal gives the store that the next section of its iteration leaves when it is started on the store
-- so far.

-- the store so far, and those with which the sections of each iteration began
pub record Sections : Type 0 where
  pub store : Store
  pub starts : ℕ → List Store

abbrev pub opening_sections : Store → Sections
opening_sections store = record { store = store; starts = λ place. [] }

-- the store that a section leaves which begins with this one, behind those that began with these
abbrev pub next_left : {A : Type 0} → Interaction A → Words → List Store → Store → Option Store
next_left t words starts store = slice_get (alone t words (starts ++ store ∷ [])).left (length starts)

abbrev pub one_more : (ℕ → List Store) → ℕ → Store → ℕ → List Store
one_more starts place store other = if other == place then starts other ++ store ∷ [] else starts other

abbrev pub with_section : Option Store → ℕ → Sections → Sections
with_section None place now = now
with_section (Some store) place now = record { store = store; starts = one_more now.starts place now.store }

unfoldable pub stores_of : {A : Type 0} → (ℕ → Interaction A) → Words → List ℕ → Sections → Sections
stores_of iterations words [] now = now
stores_of iterations words (place ∷ places) now =
    stores_of iterations words places
    (with_section (next_left (iterations place) words (now.starts place) now.store) place now)

-- A loop with the world in which it is entered

pub record Running : Type 0 where
  pub bodies : LoopBodies
  pub entry : LoopEntry
  pub words : Words
  pub store : Store

abbrev pub entered_in : LoopBodies → LoopEntry → World → Running
entered_in bodies entry w = record { bodies = bodies; entry = entry; words = w.words; store = w.store }

abbrev pub sections_along : Running → Journal → Sections
sections_along l journal = stores_of (iteration l.bodies l.entry) l.words journal.sections (opening_sections l.store)

-- what the iteration at a place comes to, with the starts that its sections have along the journal
unfoldable pub result_at : Running → Journal → ℕ → Alone (Ends Flow)
result_at l journal place = alone (iteration l.bodies l.entry place) l.words ((sections_along l journal).starts place)

abbrev pub is_reached_stop : Reached (Ends Flow) → Bool
is_reached_stop waits = false
is_reached_stop (ended ends) = is_stop ends
is_reached_stop refused = false

abbrev pub Stops : Running → Journal → ℕ → Type 0
Stops l journal place = IsTrue (is_reached_stop (result_at l journal place).reached)

-- it comes to its end, which has a meaning: it waits for no further section, and comes to nothing that is refused
pub record EndsAlong (l : Running) (journal : Journal) (place : ℕ) : Type 0 where
  pub ends : Ends Flow
  pub reached : (result_at l journal place).reached ≡ ended ends
  pub meaning : HasMeaning ends

abbrev pub times_at : List ℕ → ℕ → ℕ
times_at places place = count_by (λ other. other == place) places

-- who owns a chunk takes it
abbrev pub IsOwner : Option ℕ → ℕ → Type 0
IsOwner None member = Unit {0}
IsOwner (Some owner) member = member ≡ owner

abbrev pub chunk_count : Partition → ℕ → ℕ
chunk_count p chunk = slice_index (chunk_table p) chunk

-- a taken chunk
pub record IsTaken (p : Partition) (run : Ran) : Type 0 where
  pub chunk : run.chunk < length (chunk_table p)
  pub ran : run.ran ≤ chunk_count p run.chunk
  pub member : run.member < p.members
  pub owner : IsOwner (chunk_owner p run.chunk) run.member

-- some member took this chunk
pub record WasTaken (journal : Journal) (chunk : ℕ) : Type 0 where
  pub run : Ran
  pub there : Contains journal.ran run
  pub is : run.chunk ≡ chunk

-- A journal of a loop is lawful.
pub record Lawful (l : Running) (journal : Journal) : Type 0 where
  -- the numbers are those of the loop's entry
  pub members : journal.members ≡ l.entry.partition.members
  pub schedule : journal.schedule ≡ l.entry.partition.schedule
  pub size : journal.size ≡ l.entry.partition.size
  pub count : journal.count ≡ l.entry.partition.count
  -- chunks stand by rising number, each once, and each has as many iterations as ran, and its owner where it has one
  pub rising : (j k : ℕ) (one other : Ran) → slice_get journal.ran j ≡ Some one → slice_get journal.ran k ≡ Some other → j < k
      → one.chunk < other.chunk
  pub taken : (run : Ran) → Contains journal.ran run → IsTaken l.entry.partition run
  -- chunks on request are a front of the list, and those of an owner a front of his
  pub front : (run : Ran) (chunk : ℕ) → Contains journal.ran run → chunk < run.chunk
      → chunk_owner l.entry.partition chunk ≡ chunk_owner l.entry.partition run.chunk → WasTaken journal chunk
  -- a member has one unfinished chunk at most, its last
  pub unfinished : (one other : Ran) → Contains journal.ran one → Contains journal.ran other → one.member ≡ other.member
      → one.ran < chunk_count l.entry.partition one.chunk → other.chunk ≤ one.chunk
  -- no iteration of a member follows one of its own that stopped
  pub behind_stop : (member one other : ℕ) → RanBy l.entry.partition journal member one → RanBy l.entry.partition journal member other
      → Stops l journal one → other ≤ one
  -- each iteration that ran comes to its end, which has a meaning, and stands among the sections as often as it takes one; no other one
  -- stands there
  pub ends : (place : ℕ) → Contains (places_ran l.entry.partition journal) place → EndsAlong l journal place
  pub sections : (place : ℕ) → Contains (places_ran l.entry.partition journal) place
      → times_at journal.sections place ≡ length (result_at l journal place).left
  pub no_other : (place : ℕ) → Contains journal.sections place → Contains (places_ran l.entry.partition journal) place
  -- a member's sections stand in the order in which it ran their iterations
  pub in_order : (j k member one other : ℕ) → slice_get journal.sections j ≡ Some one → slice_get journal.sections k ≡ Some other
      → j < k → RanBy l.entry.partition journal member one → RanBy l.entry.partition journal member other → one ≤ other
  -- what stopped the loop ran and stopped; where nothing did, no iteration stopped, and all ran
  pub stopped : (place : ℕ) → journal.stopped ≡ Some place
      → Contains (places_ran l.entry.partition journal) place × Stops l journal place
  pub not_stopped : journal.stopped ≡ None → (place : ℕ) → place < l.entry.partition.count
      → Contains (places_ran l.entry.partition journal) place × (Stops l journal place → ⊥)

-- What the loop leaves

-- what the iterations that ended came to
abbrev pub ends_in : Reached (Ends Flow) → Option (Ends Flow)
ends_in waits = None
ends_in (ended ends) = Some ends
ends_in refused = None

abbrev pub ends_along : Running → Journal → List (Ends Flow)
ends_along l journal = filter_map (λ place. ends_in (result_at l journal place).reached) (places_ran l.entry.partition journal)

-- the writes of all that ran, of which no two write one cell
abbrev pub writes_along : Running → Journal → List Write
writes_along l journal = flat_map (λ place. (result_at l journal place).writes) (places_ran l.entry.partition journal)

-- the copies of one variable, in the order of the places
abbrev pub copies_at : List (Ends Flow) → ℕ → List Variable
copies_at ends slot = map (λ e. slice_index_or (copies_left e) slot None) ends

-- the copies of `-` are added up
abbrev pub combining : BinOp → BinOp
combining binary.Sub = binary.Add
combining op = op

abbrev pub number_or : ℤ → Result ℤ Fault → ℤ
number_or n (Ok m) = m
number_or n (Err fault) = n

abbrev pub combined : BinOp → CType → ℤ → ℤ → ℤ
combined op t a b = number_or a (binary_value (combining op) t a b false)

abbrev pub combined_all : BinOp → CType → ℤ → List Variable → ℤ
combined_all op t n [] = n
combined_all op t n (copy ∷ copies) = combined_all op t (combined op t n (number_in copy)) copies

-- the copy of the greatest place that assigned it, else what was there
abbrev pub latest : Variable → List Variable → Variable
latest old [] = old
latest old (None ∷ copies) = latest old copies
latest old (Some v ∷ copies) = latest (Some v) copies

abbrev pub variable_behind : Role → Variable → List Variable → Variable
variable_behind shared old copies = old
variable_behind (reduction op t) old copies = Some (whole (combined_all op t (number_in old) copies))
variable_behind last old copies = latest old copies
-- no accepted module reads it
variable_behind private old copies = old

-- by the roles of the variables from this place on
abbrev pub variables_behind : List Role → ℕ → List Variable → List (Ends Flow) → List Variable
variables_behind (role ∷ roles) slot (old ∷ variables) ends =
    variable_behind role old (copies_at ends slot) ∷ variables_behind roles (suc slot) variables ends
variables_behind _ slot variables ends = variables

abbrev pub all_spent : ℕ → List (Ends Flow) → ℕ
all_spent had ends = sum (map (turns_spent had) ends)

-- the end of what stopped the loop
abbrev pub end_at : Reached (Ends Flow) → LoopEnd
end_at waits = loop_end.Over
end_at (ended ends) = stop_end ends
end_at refused = loop_end.Over

abbrev pub end_by : Running → Journal → Option ℕ → LoopEnd
end_by l journal None = loop_end.Over
end_by l journal (Some place) = end_at (result_at l journal place).reached

-- The turns left are those at the entry less what the iterations that ran spent. Where that is below 0 the loop is spent.
abbrev pub end_along : Running → Journal → LoopEnd
end_along l journal =
    if nat_lt l.entry.opening.turns (all_spent l.entry.opening.turns (ends_along l journal)) then loop_end.Spent
    else end_by l journal journal.stopped

unfoldable pub report_along : Running → Journal → LoopReport
report_along l journal = record {
  end = end_along l journal;
  variables = variables_behind (l.bodies l.entry.prange).roles 0 l.entry.opening.frame.variables (ends_along l journal);
  turns = l.entry.opening.turns - all_spent l.entry.opening.turns (ends_along l journal);
}

-- the store is the one with which the fold over the sections ends, and the list of releases is as it was
unfoldable pub world_along : LoopBodies → LoopEntry → World → Journal → World
world_along bodies entry w journal =
    let l : Running = entered_in bodies entry w in
    record w { words = written (writes_along l journal) w.words; store = (sections_along l journal).store }

-- A loop that is entered in a world goes along a journal: the journal is lawful, and the loop comes to this report and leaves this world.
pub record LoopAlong (bodies : LoopBodies) (entry : LoopEntry) (w : World) (journal : Journal) (report : LoopReport) (after : World)
    : Type 0 where
  pub lawful : Lawful (entered_in bodies entry w) journal
  pub report_is : report ≡ report_along (entered_in bodies entry w) journal
  pub world_is : after ≡ world_along bodies entry w journal
