-- A journal that is lawful, and the loop along it; and journals each of which breaks one rule.
use Rattle.std.proofs.Common.{◌≡◌, ◌<◌, ◌≤◌, ◌⊎◌, inl, inr, ⊎_elim, ℕ, zero, suc, List, [], ◌∷◌, Some, None, length, refl, sym, ap, subst, arith}
use Rattle.std.specs.Prelude.{pos, false, IsTrue, codes, slice_get, Contains}
use Rattle.std.specs.Fmt.{digits}
use Rattle.px_ctypes.specs.Wrapping.{wrap}
use Rattle.px_base.specs.declared.c_types.Schedule.TheVariants as schedule
use Rattle.px_model.specs.Partition.{partition}
use Rattle.px_model.specs.Chunks.{chunk_table}
use Rattle.px_model.specs.declared.journals.Ran.{Ran}
use Rattle.px_model.specs.declared.journals.Journal.{Journal}
use Rattle.px_model.specs.declared.outcomes.LoopEnd.TheVariants as loop_end
use Rattle.px_model.specs.declared.stores.ObjectValue.TheVariants as object_value
use Rattle.px_meaning.specs.Values.{whole}
use Rattle.px_base.specs.declared.c_types.CType.TheVariants as c
use Rattle.px_model.specs.declared.cells.Cell.{Cell}
use Rattle.px_meaning.specs.Interactions.{LoopEntry, Interaction, done, load, put, fill, copy, make, released, enter, leave, loop as loop_of}
use Rattle.px_meaning.specs.Along.{Along, at_end, loads, puts, fills, copies, makes, releases, enters, leaves, loops}
use Rattle.px_meaning.specs.Worlds.{World, with_writes, with_release}
use Rattle.px_meaning.specs.Expressions.{eval, eval_by}
use Rattle.px_meaning.specs.Statements.{exec, exec_by}
use Rattle.px_meaning.specs.OneWorld.{first_store, first_world}
use Rattle.px_meaning.specs.Journals.{Running, RanBy, places_of, places_ran, chunk_count, times_at, result_at, stores_of, report_along, world_along, Stops, EndsAlong, WasTaken, IsTaken, Lawful, LoopAlong}
use Rattle.px_meaning.specs.Ends.{Ends, Flow}
use Rattle.px_meaning.specs.Iterations as reaching
use Rattle.px_meaning.proofs.JournalExamples.{entry_of, ran, journal_of, running, printing_body, breaking, breaking_entry, quiet_body}

-- for i in prange(2): with gil: print(i), on one member
abbrev entry : LoopEntry
entry = entry_of 2 1 (pos 0) (pos 1) (None ∷ [])

abbrev loop : Running
loop = running printing_body entry

abbrev journal : Journal
journal = journal_of 1 2 (ran 0 0 2 ∷ []) (0 ∷ 1 ∷ []) None

-- Lists of one and of two

only_one : {X : Type 0} (x y : X) → Contains (x ∷ []) y → x ≡ y
only_one x y (zero, lt, is) = is
only_one x y (suc k, lt, is) = absurd (omega (arith, lt))

one_of_two : {X : Type 0} (x z y : X) → Contains (x ∷ z ∷ []) y → (x ≡ y) ⊎ (z ≡ y)
one_of_two x z y (zero, lt, is) = inl is
one_of_two x z y (suc zero, lt, is) = inr is
one_of_two x z y (suc (suc k), lt, is) = absurd (omega (arith, lt))

no_such : {X : Type 0} {x : X} → None ≡ Some x → ⊥
no_such same = cc

at_both : (P : ℕ → Type 0) → P 0 → P 1 → (place : ℕ) → (0 ≡ place) ⊎ (1 ≡ place) → P place
at_both P p q place = ⊎_elim (λ same. subst P same p) (λ same. subst P same q)

-- The fields

place_of : (place : ℕ) → Contains (places_ran entry.partition journal) place → (0 ≡ place) ⊎ (1 ≡ place)
unfolding chunk_table
place_of place there = one_of_two 0 1 place there

there : (place : ℕ) → (0 ≡ place) ⊎ (1 ≡ place) → Contains (places_ran entry.partition journal) place
unfolding chunk_table
there place one = at_both (Contains (0 ∷ 1 ∷ [])) (0, omega arith, refl) (1, omega arith, refl) place one

not_so : IsTrue false → ⊥
not_so same = cc

stops_not : (place : ℕ) → (0 ≡ place) ⊎ (1 ≡ place) → Stops loop journal place → ⊥
unfolding result_at stores_of exec exec_by eval eval_by wrap digits
stops_not place one = at_both (λ p. Stops loop journal p → ⊥) not_so not_so place one

ends : (place : ℕ) → (0 ≡ place) ⊎ (1 ≡ place) → EndsAlong loop journal place
unfolding result_at stores_of exec exec_by eval eval_by wrap digits
ends place one = at_both (EndsAlong loop journal) (record { ends = _; reached = refl; meaning = tt })
    (record { ends = _; reached = refl; meaning = tt }) place one

is_taken : (run : Ran) → Contains journal.ran run → IsTaken entry.partition run
unfolding chunk_table
is_taken run h = subst (IsTaken entry.partition) (only_one (ran 0 0 2) run h)
    (record { chunk = omega arith; ran = omega arith; member = omega arith; owner = refl })

by_place : {member place : ℕ} → RanBy entry.partition journal member place → (0 ≡ place) ⊎ (1 ≡ place)
unfolding chunk_table
by_place {place = place} r =
    one_of_two 0 1 place (subst (λ run. Contains (places_of (chunk_table entry.partition) run) place)
    (sym (only_one (ran 0 0 2) r.run r.taken)) r.there)

rises : (j k : ℕ) (one other : Ran) → slice_get journal.ran j ≡ Some one → slice_get journal.ran k ≡ Some other → j < k
    → one.chunk < other.chunk
rises zero zero one other a b lt = absurd (omega (arith, lt))
rises zero (suc k) one other a b lt = absurd (no_such b)
rises (suc j) k one other a b lt = absurd (no_such a)

the_same : {X : Type 0} {x y : X} → Some x ≡ Some y → x ≡ y
the_same same = cc

in_their_order : (j k one other : ℕ) → slice_get journal.sections j ≡ Some one → slice_get journal.sections k ≡ Some other → j < k
    → one ≤ other
in_their_order zero zero one other a b lt = absurd (omega (arith, lt))
in_their_order zero (suc k) one other a b lt = omega (arith, the_same a)
in_their_order (suc zero) zero one other a b lt = absurd (omega (arith, lt))
in_their_order (suc zero) (suc zero) one other a b lt = absurd (omega (arith, lt))
in_their_order (suc zero) (suc (suc k)) one other a b lt = absurd (no_such b)
in_their_order (suc (suc j)) k one other a b lt = absurd (no_such a)

as_often : (place : ℕ) → (0 ≡ place) ⊎ (1 ≡ place) → times_at journal.sections place ≡ length (result_at loop journal place).left
unfolding result_at stores_of exec exec_by eval eval_by wrap digits
as_often place one = at_both (λ p. times_at journal.sections p ≡ length (result_at loop journal p).left) refl refl place one

below_two : (place : ℕ) → place < 2 → (0 ≡ place) ⊎ (1 ≡ place)
below_two zero lt = inl refl
below_two (suc zero) lt = inr refl
below_two (suc (suc k)) lt = absurd (omega (arith, lt))

no_earlier : (run : Ran) (chunk : ℕ) → Contains journal.ran run → chunk < run.chunk → ⊥
no_earlier run chunk h lt = omega (arith, ap (λ r. r.chunk) (only_one (ran 0 0 2) run h), lt)

is_whole : (one : Ran) → Contains journal.ran one → one.ran < chunk_count entry.partition one.chunk → ⊥
unfolding chunk_table
is_whole one h = subst (λ run. run.ran < chunk_count entry.partition run.chunk → ⊥) (only_one (ran 0 0 2) one h) (λ lt. omega (arith, lt))

pub lawful : Lawful loop journal
lawful = record {
  members = refl;
  schedule = refl;
  size = refl;
  count = refl;
  rising = rises;
  taken = is_taken;
  front = λ run chunk h lt same. absurd (no_earlier run chunk h lt);
  unfinished = λ one other h g same lt. absurd (is_whole one h lt);
  behind_stop = λ member one other r q stops. absurd (stops_not one (by_place r) stops);
  ends = λ place h. ends place (place_of place h);
  sections = λ place h. as_often place (place_of place h);
  no_other = λ place h. there place (one_of_two 0 1 place h);
  in_order = λ j k member one other a b lt r q. in_their_order j k one other a b lt;
  stopped = λ place is. absurd (no_such is);
  not_stopped = λ is place lt. (there place (below_two place lt), stops_not place (below_two place lt));
}

-- It prints the indices in their order and makes an object of each; the index keeps its last value.

abbrev left : World
left = record {
  words = λ cell. 0;
  store = record (first_store 0 []) { objects = object_value.Int (pos 0) ∷ object_value.Int (pos 1) ∷ []; output = codes "0\n1\n" };
  released = [];
}

goes_along : LoopAlong printing_body entry (first_world 0 []) journal
    (record { end = loop_end.Over; variables = Some (whole (pos 1)) ∷ []; turns = 48 }) left
unfolding report_along world_along result_at stores_of chunk_table exec exec_by eval eval_by wrap digits
goes_along = record { lawful = lawful; report_is = refl; world_is = refl }

-- A run that makes each request, the loop among them, gives what the loop reports.

abbrev here : Cell
here = record { buffer = 1; place = 2 }

abbrev there_too : Cell
there_too = record { buffer = 1; place = 3 }

abbrev requests : Interaction ℕ
requests =
    make 1 4 (load here (λ word. enter (λ store. leave store (loop_of entry (λ report.
    put here 5 (fill (here ∷ []) word (copy ((there_too, here) ∷ []) c.Long c.Long (released 2 (done report.turns)))))))))

requests_along : Along printing_body requests (first_world 0 []) (journal ∷ []) 48
    (with_release 2 (with_writes ((there_too, 0) ∷ []) (with_writes ((here, 0) ∷ []) (with_writes ((here, 5) ∷ []) left))))
unfolding wrap
requests_along = makes (loads (enters (leaves (loops goes_along (puts (fills (copies (releases at_end))))))))

-- Journals of the same loop, and of others, each of which breaks one rule

first_of : {X : Type 0} (x : X) (xs : List X) → Contains (x ∷ xs) x
first_of x xs = (0, omega arith, refl)

second_of : {X : Type 0} (x y : X) (xs : List X) → Contains (x ∷ y ∷ xs) y
second_of x y xs = (1, omega arith, refl)

another_count : Lawful loop (journal_of 1 3 (ran 0 0 2 ∷ []) (0 ∷ 1 ∷ []) None) → ⊥
another_count h = omega (arith, h.count)

-- the chunk has two iterations
too_many_ran : Lawful loop (journal_of 1 2 (ran 0 0 3 ∷ []) (0 ∷ 1 ∷ []) None) → ⊥
unfolding chunk_table
too_many_ran h = omega (arith, (h.taken (ran 0 0 3) (first_of (ran 0 0 3) [])).ran)

-- there is one chunk, and one member
no_such_chunk : Lawful loop (journal_of 1 2 (ran 1 0 0 ∷ []) [] None) → ⊥
unfolding chunk_table
no_such_chunk h = omega (arith, (h.taken (ran 1 0 0) (first_of (ran 1 0 0) [])).chunk)

no_such_member : Lawful loop (journal_of 1 2 (ran 0 1 2 ∷ []) (0 ∷ 1 ∷ []) None) → ⊥
no_such_member h = omega (arith, (h.taken (ran 0 1 2) (first_of (ran 0 1 2) [])).member)

chunk_twice : Lawful loop (journal_of 1 2 (ran 0 0 2 ∷ ran 0 0 2 ∷ []) (0 ∷ 1 ∷ []) None) → ⊥
chunk_twice h = omega (arith, h.rising 0 1 (ran 0 0 2) (ran 0 0 2) refl refl (omega arith))

-- one iteration for each of two members, of which the first one owns the first chunk
abbrev two : Running
two = running printing_body (entry_of 2 2 (pos 0) (pos 1) (None ∷ []))

another_owner : Lawful two (journal_of 2 2 (ran 0 1 1 ∷ ran 1 0 1 ∷ []) (0 ∷ 1 ∷ []) None) → ⊥
another_owner h = omega (arith, (h.taken (ran 0 1 1) (first_of (ran 0 1 1) (ran 1 0 1 ∷ []))).owner)

-- the second one of two sections is missing; one section stands there twice; one is of an iteration that didn't run
section_missing : Lawful loop (journal_of 1 2 (ran 0 0 2 ∷ []) (0 ∷ []) None) → ⊥
unfolding chunk_table result_at stores_of exec exec_by eval eval_by wrap digits
section_missing h = waits_on (h.ends 1 (second_of 0 1 [])).reached
  where
    waits_on : {e : Ends Flow} → reaching.waits ≡ reaching.ended e → ⊥
    waits_on same = cc

section_twice : Lawful loop (journal_of 1 2 (ran 0 0 2 ∷ []) (0 ∷ 1 ∷ 1 ∷ []) None) → ⊥
unfolding chunk_table result_at stores_of exec exec_by eval eval_by wrap digits
section_twice h = let same : ◌≡◌ {A = ℕ} 2 1 = h.sections 1 (second_of 0 1 []) in omega (arith, same)

section_of_none : Lawful loop (journal_of 1 2 (ran 0 0 1 ∷ []) (0 ∷ 1 ∷ []) None) → ⊥
unfolding chunk_table
section_of_none h = let same : ◌≡◌ {A = ℕ} 0 1 = only_one 0 1 (h.no_other 1 (second_of 0 1 [])) in omega (arith, same)

-- a member's sections don't stand in its order
sections_swapped : Lawful loop (journal_of 1 2 (ran 0 0 2 ∷ []) (1 ∷ 0 ∷ []) None) → ⊥
unfolding chunk_table
sections_swapped h =
    omega (
      arith,
      h.in_order 0 1 0 1 0 refl refl (omega arith)
          (record { run = ran 0 0 2; taken = first_of (ran 0 0 2) []; by = refl; there = second_of 0 1 [] })
          (record { run = ran 0 0 2; taken = first_of (ran 0 0 2) []; by = refl; there = first_of 0 (1 ∷ []) }),
    )

-- nothing stopped, and one iteration didn't run; what is said to have stopped the loop didn't stop
left_out : Lawful loop (journal_of 1 2 (ran 0 0 1 ∷ []) (0 ∷ []) None) → ⊥
unfolding chunk_table
left_out h = let same : ◌≡◌ {A = ℕ} 0 1 = only_one 0 1 (h.not_stopped refl 1 (omega arith)).0 in omega (arith, same)

stopped_by_none : Lawful loop (journal_of 1 2 (ran 0 0 2 ∷ []) (0 ∷ 1 ∷ []) (Some 1)) → ⊥
unfolding result_at stores_of exec exec_by eval eval_by wrap digits
stopped_by_none h = not_so (h.stopped 1 refl).1

-- for i in prange(6): if i == 4: break; total += i, on one member, which goes on behind its break; on another team a chunk isn't begun at
-- the front, and a member goes on behind a chunk that it didn't finish
abbrev breaking_loop : Running
breaking_loop = running breaking breaking_entry

behind_its_stop : Lawful breaking_loop (journal_of 1 6 (ran 0 0 6 ∷ []) [] (Some 4)) → ⊥
unfolding chunk_table result_at stores_of exec exec_by eval eval_by wrap
behind_its_stop h =
    omega (
      arith,
      h.behind_stop 0 4 5 (record {
        run = ran 0 0 6;
        taken = first_of (ran 0 0 6) [];
        by = refl;
        there = (4, omega arith, refl);
      })
          (record { run = ran 0 0 6; taken = first_of (ran 0 0 6) []; by = refl; there = (5, omega arith, refl) }) refl,
    )

abbrev on_request : Running
on_request = running quiet_body (record (entry_of 4 2 (pos 0) (pos 1) (None ∷ [])) { partition = partition 4 2 schedule.Dynamic (Some 2) })

abbrev dynamic_journal : List Ran → Journal
dynamic_journal runs = record {
  members = 2;
  schedule = schedule.Dynamic;
  size = Some 2;
  count = 4;
  ran = runs;
  sections = [];
  stopped
      = Some 0;
}

not_a_front : Lawful on_request (dynamic_journal (ran 1 0 2 ∷ [])) → ⊥
not_a_front h = taken_first (h.front (ran 1 0 2) 0 (first_of (ran 1 0 2) []) (omega arith) refl)
  where
    taken_first : WasTaken (dynamic_journal (ran 1 0 2 ∷ [])) 0 → ⊥
    taken_first w = omega (arith, w.is, ap (λ r. r.chunk) (only_one (ran 1 0 2) w.run w.there))

unfinished_before : Lawful on_request (dynamic_journal (ran 0 0 1 ∷ ran 1 0 2 ∷ [])) → ⊥
unfolding chunk_table
unfinished_before h = omega (
  arith,
  h.unfinished (ran 0 0 1) (ran 1 0 2) (first_of (ran 0 0 1) (ran 1 0 2 ∷ []))
      (second_of (ran 0 0 1) (ran 1 0 2) []) refl (omega arith),
)
