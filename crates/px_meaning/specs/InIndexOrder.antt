-- Parallel loops in the order of their indices: each is a plain loop over them on the one state. Reductions and variables with a last
-- value are ordinary variables; nothing is copied or combined, and no journal is read.
use Rattle.std.specs.Prelude.{ℕ, zero, suc, pos, List, ◌∷◌, Option, Some, None}
use Rattle.px_model.specs.declared.outcomes.LoopEnd.{LoopEnd}
use Rattle.px_model.specs.declared.outcomes.LoopEnd.TheVariants as loop_end
use Rattle.px_model.specs.declared.outcomes.Outcome.{Outcome}
use Rattle.px_meaning.specs.Values.{Variable, whole}
use Rattle.px_meaning.specs.States.{State, with_variables, freed}
use Rattle.px_meaning.specs.Interactions.{Interaction, done, load, put, fill, copy, make, released, enter, leave, loop, LoopEntry, LoopReport, ◌>>=◌}
use Rattle.px_meaning.specs.Ends.{Ends, gives, raised, spent, meaningless, spending, Flow, next, continues, breaks, returns}
use Rattle.px_meaning.specs.Calls.{Source}
use Rattle.px_meaning.specs.Modules.{module_run}
use Rattle.px_meaning.specs.OneWorld.{together, first_world, outcome_together}
use Rattle.px_meaning.specs.Iterations.{Role, shared, reduction, last, private, LoopBody, LoopBodies, body_at, returned_number}

-- A turn of the body. As in an iteration alone, one that comes to a loop of its own or to the release of a buffer has no meaning.
abbrev pub within_loop : {A : Type 0} → Interaction (Ends A) → Interaction (Ends A)
within_loop (done e) = done e
within_loop (load cell k) = load cell (λ word. within_loop (k word))
within_loop (put cell word t) = put cell word (within_loop t)
within_loop (fill cells word t) = fill cells word (within_loop t)
within_loop (copy pairs from to t) = copy pairs from to (within_loop t)
within_loop (make buffer size t) = make buffer size (within_loop t)
within_loop (released buffer t) = done meaningless
within_loop (enter k) = enter (λ store. within_loop (k store))
within_loop (leave store t) = leave store (within_loop t)
within_loop (loop entry k) = done meaningless

-- A reduction that isn't assigned is assigned 0 where the loop is entered, which nothing that reads it can tell; so it is assigned behind
-- the loop, as it is behind one along a journal, also where no iteration assigns it.
abbrev pub opened : Role → Variable → Variable
opened shared variable = variable
opened (reduction op t) None = Some (whole (pos 0))
opened (reduction op t) (Some v) = Some v
opened last variable = variable
opened private variable = variable

abbrev pub all_opened : List Role → List Variable → List Variable
all_opened (role ∷ roles) (variable ∷ variables) = opened role variable ∷ all_opened roles variables
all_opened _ variables = variables

abbrev pub plain_opening : LoopBody → LoopEntry → State
plain_opening body entry = with_variables (freed entry.opening) (all_opened body.roles entry.opening.frame.variables)

abbrev pub report : LoopEnd → State → LoopReport
report end s = record { end = end; variables = s.frame.variables; turns = s.turns }

-- what comes behind a turn; where that has no meaning, there is no report
abbrev pub behind_turn : (State → Interaction (Option LoopReport)) → Ends Flow → Interaction (Option LoopReport)
behind_turn go (gives next s) = go s
behind_turn go (gives continues s) = go s
behind_turn go (gives breaks s) = done (Some (report loop_end.Broke s))
behind_turn go (gives (returns v) s) = done (Some (report (loop_end.Returned (returned_number v)) s))
behind_turn go (raised fault s) = done (Some (report (loop_end.Raised fault) s))
behind_turn go (spent s) = done (Some (report loop_end.Spent s))
behind_turn go meaningless = done None

-- so many turns from a place on
abbrev pub plain_from : LoopBody → LoopEntry → ℕ → ℕ → State → Interaction (Option LoopReport)
plain_from body entry zero place s = done (Some (report loop_end.Over s))
plain_from body entry (suc left) place s =
    within_loop (spending (body_at body entry place) s) >>= behind_turn (plain_from body entry left (suc place))

unfoldable pub plain_loop : LoopBodies → LoopEntry → Interaction (Option LoopReport)
plain_loop bodies entry =
    plain_from (bodies entry.prange) entry entry.partition.count 0 (plain_opening (bodies entry.prange) entry)

-- goes on with the report of a loop
abbrev pub on_report : {A : Type 0} → (LoopReport → Interaction (Ends A)) → Option LoopReport → Interaction (Ends A)
on_report go None = done meaningless
on_report go (Some report) = go report

-- a run with its loops answered by other runs, which stand in their place
abbrev pub with_loops : {A : Type 0} → (LoopEntry → Interaction (Option LoopReport)) → Interaction (Ends A) → Interaction (Ends A)
with_loops answers (done e) = done e
with_loops answers (load cell k) = load cell (λ word. with_loops answers (k word))
with_loops answers (put cell word t) = put cell word (with_loops answers t)
with_loops answers (fill cells word t) = fill cells word (with_loops answers t)
with_loops answers (copy pairs from to t) = copy pairs from to (with_loops answers t)
with_loops answers (make buffer size t) = make buffer size (with_loops answers t)
with_loops answers (released buffer t) = released buffer (with_loops answers t)
with_loops answers (enter k) = enter (λ store. with_loops answers (k store))
with_loops answers (leave store t) = leave store (with_loops answers t)
with_loops answers (loop entry k) = answers entry >>= on_report (λ report. with_loops answers (k report))

-- What a module does with its parallel loops in the order of their indices. One that comes to what has no meaning, in a loop too, has none.
unfoldable pub meaning_in_index_order : LoopBodies → Source → List ℕ → ℕ → ℕ → Option Outcome
meaning_in_index_order bodies source input turns members =
    outcome_together (together (with_loops (plain_loop bodies) (module_run source turns members)) (first_world source.names input))
