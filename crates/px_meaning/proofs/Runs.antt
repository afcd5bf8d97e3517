-- Runs along journals, and on one world.
use Rattle.std.proofs.Common.{◌≡◌, ℕ, List, [], ◌∷◌, Option, Some, None, refl, sym, ap, ◌∙◌, subst}
use Rattle.px_model.specs.declared.journals.Journal.{Journal}
use Rattle.px_model.specs.declared.outcomes.Outcome.{Outcome}
use Rattle.px_meaning.specs.Interactions.{Interaction, done, load, put, fill, copy, make, released, enter, leave, loop, LoopEntry, LoopReport}
use Rattle.px_meaning.specs.Ends.{Ends, Flow}
use Rattle.px_meaning.specs.Calls.{Source}
use Rattle.px_meaning.specs.Modules.{module_run}
use Rattle.px_meaning.specs.Iterations.{LoopBodies}
use Rattle.px_meaning.specs.OneWorld.{Together, ended, at_loop, together, outcome_of, outcome_together, first_world, meaning_in}
use Rattle.px_meaning.specs.InIndexOrder.{meaning_in_index_order, plain_loop, with_loops}
use Rattle.px_meaning.specs.Along.{Along, at_end, loads, puts, fills, copies, makes, releases, enters, leaves, loops, Meaning}
use Rattle.px_meaning.specs.Worlds.{World, with_writes, with_release, with_stored, fill_writes, copy_writes}
use Rattle.px_meaning.specs.Laws.{MeaningsAreUnique, LoopsAreTheRest}

moved : {A : Type 0} {bodies : LoopBodies} {report other : LoopReport} {w z v : World} {journals : List Journal} {a : A}
    (k : LoopReport → Interaction A)
    → other ≡ report → z ≡ w → Along bodies (k other) z journals a v → Along bodies (k report) w journals a v
moved {bodies = bodies} {report = report} {z = z} {v = v} {journals = journals} {a = a} k same there x =
    subst (λ w. Along bodies (k report) w journals a v) there (subst (λ r. Along bodies (k r) z journals a v) same x)

along_once : {A : Type 0} {bodies : LoopBodies} {t : Interaction A} {w v u : World} {journals : List Journal} {a b : A}
    → Along bodies t w journals a v → Along bodies t w journals b u → (a ≡ b) × (v ≡ u)
along_once at_end at_end = (refl, refl)
along_once (loads x) (loads y) = along_once x y
along_once (puts x) (puts y) = along_once x y
along_once (fills x) (fills y) = along_once x y
along_once (copies x) (copies y) = along_once x y
along_once (makes x) (makes y) = along_once x y
along_once (releases x) (releases y) = along_once x y
along_once (enters x) (enters y) = along_once x y
along_once (leaves x) (leaves y) = along_once x y
along_once (loops {k = k} h x) (loops g y) = along_once x (moved k (g.report_is ∙ sym h.report_is) (g.world_is ∙ sym h.world_is) y)

some_once : {A : Type 0} {a b : A} → Some a ≡ Some b → a ≡ b
some_once same = cc

pub unique : MeaningsAreUnique
unique bodies source input turns members journals one other x y =
    let same = along_once x.along y.along in
    some_once (sym x.gives ∙ ap (λ e. outcome_of e x.world) same.0 ∙ ap (λ w. outcome_of y.ends w) same.1 ∙ y.gives)

-- where a run comes to its end on one world, it goes so along no journal
IsAlong : {A : Type 0} → LoopBodies → Interaction A → World → Together A → Type 0
IsAlong bodies t w (ended a v) = Along bodies t w [] a v
IsAlong bodies t w (at_loop entry v) = Unit {0}

module _ {A : Type 0} (bodies : LoopBodies) where
  carried : (t : Interaction A) (u : Interaction A) (w v : World) (end : Together A)
      → ((a : A) (z : World) → Along bodies t w [] a z → Along bodies u v [] a z)
      → IsAlong bodies t w end → IsAlong bodies u v end
  unfolding IsAlong
  carried t u w v (ended a z) step x = step a z x
  carried t u w v (at_loop entry z) step x = tt

  along_one : (t : Interaction A) (w : World) → IsAlong bodies t w (together t w)
  unfolding IsAlong
  along_one (done a) w = at_end
  along_one (load cell k) w = carried (k (w.words cell)) (load cell k) w w (together (k (w.words cell)) w) (λ a z x. loads x)
      (along_one (k (w.words cell)) w)
  along_one (put cell word t) w =
      let v = with_writes ((cell, word) ∷ []) w in carried t (put cell word t) v w (together t v) (λ a z x. puts x) (along_one t v)
  along_one (fill cells word t) w =
      let v = with_writes (fill_writes cells word) w in carried t (fill cells word t) v w (together t v) (λ a z x. fills x) (along_one t v)
  along_one (copy pairs from to t) w =
      let v = with_writes (copy_writes pairs from to w.words) w in
      carried t (copy pairs from to t) v w (together t v) (λ a z x. copies x) (along_one t v)
  along_one (make buffer size t) w = carried t (make buffer size t) w w (together t w) (λ a z x. makes x) (along_one t w)
  along_one (released buffer t) w =
      let v = with_release buffer w in carried t (released buffer t) v w (together t v) (λ a z x. releases x) (along_one t v)
  along_one (enter k) w = carried (k w.store) (enter k) w w (together (k w.store) w) (λ a z x. enters x) (along_one (k w.store) w)
  along_one (leave store t) w =
      let v = with_stored store w in carried t (leave store t) v w (together t v) (λ a z x. leaves x) (along_one t v)
  along_one (loop entry k) w = tt

-- and the other way round
one_along : {A : Type 0} {bodies : LoopBodies} {t : Interaction A} {w v : World} {a : A} → Along bodies t w [] a v
    → together t w ≡ ended a v
one_along at_end = refl
one_along (loads x) = one_along x
one_along (puts x) = one_along x
one_along (fills x) = one_along x
one_along (copies x) = one_along x
one_along (makes x) = one_along x
one_along (releases x) = one_along x
one_along (enters x) = one_along x
one_along (leaves x) = one_along x

-- what answers loops changes nothing of a run that comes to none
IsSame : {A : Type 0} → Together A → Together A → Type 0
IsSame (ended a v) end = end ≡ ended a v
IsSame (at_loop entry v) end = Unit {0}

no_loops : {A : Type 0} (answers : LoopEntry → Interaction (Option LoopReport)) (t : Interaction (Ends A)) (w : World)
    → IsSame (together t w) (together (with_loops answers t) w)
unfolding IsSame
no_loops answers (done a) w = refl
no_loops answers (load cell k) w = no_loops answers (k (w.words cell)) w
no_loops answers (put cell word t) w = no_loops answers t _
no_loops answers (fill cells word t) w = no_loops answers t _
no_loops answers (copy pairs from to t) w = no_loops answers t _
no_loops answers (make buffer size t) w = no_loops answers t w
no_loops answers (released buffer t) w = no_loops answers t _
no_loops answers (enter k) w = no_loops answers (k w.store) w
no_loops answers (leave store t) w = no_loops answers t _
no_loops answers (loop entry k) w = tt

meaning_by : (bodies : LoopBodies) (source : Source) (input : List ℕ) (turns members : ℕ) (outcome : Outcome) (end : Together (Ends Flow))
    → IsAlong bodies (module_run source turns members) (first_world source.names input) end → outcome_together end ≡ Some outcome
    → Meaning bodies source input turns members [] outcome
unfolding IsAlong
meaning_by bodies source input turns members outcome (ended ends w) x is = record { ends = ends; world = w; along = x; gives = is }
meaning_by bodies source input turns members outcome (at_loop entry w) x is = absurd (none_is_some is)
  where
    none_is_some : None ≡ Some outcome → ⊥
    none_is_some e = cc

in_order_by : (one other : Together (Ends Flow)) (outcome : Outcome) → IsSame one other → outcome_together one ≡ Some outcome
    → outcome_together other ≡ Some outcome
unfolding IsSame
in_order_by (ended ends w) other outcome same is = ap outcome_together same ∙ is
in_order_by (at_loop entry w) other outcome same is = absurd (none_is_some is)
  where
    none_is_some : None ≡ Some outcome → ⊥
    none_is_some e = cc

pub the_rest : LoopsAreTheRest
unfolding meaning_in meaning_in_index_order
the_rest = record {
  there = λ bodies source input turns members outcome is.
      meaning_by bodies source input turns members outcome _ (along_one bodies (module_run source turns members)
      (first_world source.names input)) is;
  only = λ bodies source input turns members outcome m. ap outcome_together (one_along m.along) ∙ m.gives;
  in_order = λ bodies source input turns members outcome is.
      in_order_by (together (module_run source turns members) (first_world source.names input)) _ outcome
      (no_loops (plain_loop bodies) (module_run source turns members) (first_world source.names input)) is;
}
