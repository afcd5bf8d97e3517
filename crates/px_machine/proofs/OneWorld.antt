-- Code on one world ends where its run ends.
use Rattle.std.proofs.Common.{◌≡◌, ℕ, List, [], ◌∷◌, Option, Some, None, refl, sym, ap, ◌∙◌, subst}
use Rattle.px_model.specs.declared.stores.Store.{Store}
use Rattle.px_model.specs.declared.outcomes.Outcome.{Outcome}
use Rattle.px_regcode.specs.Images.{ImageParts}
use Rattle.px_meaning.specs.States.{State, holding, freed}
use Rattle.px_meaning.specs.Interactions.{Interaction, done, load, put, fill, copy, make, released, enter, leave, loop, ◌>>=◌}
use Rattle.px_meaning.specs.Ends.{Ends, gives, raised, spent, meaningless, Flow, next, continues, breaks, returns}
use Rattle.px_meaning.specs.Sections.{given_back, section_end}
use Rattle.px_meaning.specs.Worlds.{World, with_writes, with_release, with_stored, fill_writes, copy_writes}
use Rattle.px_meaning.specs.Calls.{Source}
use Rattle.px_meaning.specs.Modules.{first_state, module_context, module_code, module_run, end_of}
use Rattle.px_meaning.specs.OneWorld.{Together, together, first_store, first_world, outcome_together, outcome_of, meaning_in}
use Rattle.px_meaning.specs.OneWorld as source
use Rattle.px_machine.specs.Steps.{Step, went}
use Rattle.px_machine.specs.Steps as end
use Rattle.px_machine.specs.Follows.{Follows}
use Rattle.px_machine.specs.Follows as follows
use Rattle.px_machine.specs.Means.{Means, ModuleEnds, EndsAs, first_member}
use Rattle.px_machine.specs.OneWorld.{Reaches, here, goes, by_load, by_put, by_fill, by_copy, by_make, by_release, by_enter, by_leave, end_of_member, output_of, RunGives}

same_value : {A : Type 0} {a b : A} {w v : World} → source.ended a w ≡ source.ended b v → (a ≡ b) × (w ≡ v)
same_value e = (cc, cc)

-- where a step leads that belongs to a run which ends with a value
record EndsBeside {A : Type 0} (image : ImageParts) (Q : A → Step → Type 0) (s : Step) (w : World) (a : A) (v : World) : Type 0 where
  last : Step
  belongs : Q a last
  reaches : Reaches image s w last v

code_ends : {A : Type 0} (image : ImageParts) (Q : A → Step → Type 0) (at : Step) (run : Interaction A) (w v : World) (z : A)
    → Follows image Q at run → together run w ≡ source.ended z v → EndsBeside image Q at w z v
code_ends image Q at run w v z (follows.arrives {s} {a} q) e =
    let same = same_value e in
    record { last = s; belongs = subst (λ x. Q x s) same.0 q; reaches = subst (λ u. Reaches image s w s u) same.1 here }
code_ends image Q at run w v z (follows.goes {m} {t} f) e =
    let r = code_ends image Q _ t w v z f e in record { last = r.last; belongs = r.belongs; reaches = goes r.reaches }
code_ends image Q at run w v z (follows.by_load {cell} {n} {k} f) e =
    let r = code_ends image Q _ (k (w.words cell)) w v z (f (w.words cell)) e in record { last = r.last; belongs = r.belongs; reaches = by_load r.reaches }
code_ends image Q at run w v z (follows.by_put {cell} {word} {m} {t} f) e =
    let r = code_ends image Q _ t (with_writes ((cell, word) ∷ []) w) v z f e in record { last = r.last; belongs = r.belongs; reaches = by_put r.reaches }
code_ends image Q at run w v z (follows.by_fill {cells} {word} {m} {t} f) e =
    let r = code_ends image Q _ t (with_writes (fill_writes cells word) w) v z f e in record { last = r.last; belongs = r.belongs; reaches = by_fill r.reaches }
code_ends image Q at run w v z (follows.by_copy {pairs} {from} {to} {m} {t} f) e =
    let r = code_ends image Q _ t (with_writes (copy_writes pairs from to w.words) w) v z f e in record { last = r.last; belongs = r.belongs; reaches = by_copy r.reaches }
code_ends image Q at run w v z (follows.by_make {buffer} {size} {m} {t} f) e =
    let r = code_ends image Q _ t w v z f e in record { last = r.last; belongs = r.belongs; reaches = by_make r.reaches }
code_ends image Q at run w v z (follows.by_release {buffer} {m} {t} f) e =
    let r = code_ends image Q _ t (with_release buffer w) v z f e in record { last = r.last; belongs = r.belongs; reaches = by_release r.reaches }
code_ends image Q at run w v z (follows.by_enter {n} {k} f) e =
    let r = code_ends image Q _ (k w.store) w v z (f w.store) e in record { last = r.last; belongs = r.belongs; reaches = by_enter r.reaches }
code_ends image Q at run w v z (follows.by_leave {store} {m} {t} f) e =
    let r = code_ends image Q _ t (with_stored store w) v z f e in record { last = r.last; belongs = r.belongs; reaches = by_leave r.reaches }

-- what comes behind a run on one world

abbrev after : {A B : Type 0} → Together A → (A → Interaction B) → Together B
after (source.ended a w) k = together (k a) w
after (source.at_loop entry w) k = source.at_loop entry w

together_behind : {A B : Type 0} (t : Interaction A) (k : A → Interaction B) (w : World) → together (t >>= k) w ≡ after (together t w) k
together_behind (done a) k w = refl
together_behind (load cell f) k w = together_behind (f (w.words cell)) k w
together_behind (put cell word t) k w = together_behind t k (with_writes ((cell, word) ∷ []) w)
together_behind (fill cells word t) k w = together_behind t k (with_writes (fill_writes cells word) w)
together_behind (copy pairs from to t) k w = together_behind t k (with_writes (copy_writes pairs from to w.words) w)
together_behind (make buffer size t) k w = together_behind t k w
together_behind (released buffer t) k w = together_behind t k (with_release buffer w)
together_behind (enter f) k w = together_behind (f w.store) k w
together_behind (leave store t) k w = together_behind t k (with_stored store w)
together_behind (loop entry f) k w = refl

-- ---- the outcome of a module

none_some : {A : Type 0} {a : A} → None ≡ Some a → ⊥
none_some e = cc

some_same : {A : Type 0} {a b : A} → Some a ≡ Some b → a ≡ b
some_same e = cc

no_outcome : {outcome : Outcome} (flow : Ends Flow) (o : Option Store) (v : World) → end_of flow ≡ None → outcome_together (together (given_back o (done flow)) v) ≡ Some outcome → ⊥
no_outcome flow None v is e = none_some (sym (ap (λ x. source.outcome_from x v) is) ∙ e)
no_outcome flow (Some store) v is e = none_some (sym (ap (λ x. source.outcome_from x (with_stored store v)) is) ∙ e)

module _ (image : ImageParts) (module_of : Source) (input : List ℕ) (turns members : ℕ) (outcome : Outcome) where
  abbrev start : Step
  start = went (first_member image (holding (first_store module_of.names input) (first_state turns members)))

  abbrev world : World
  world = first_world module_of.names input

  made : (last : end.MemberEnd) (s : State) (v : World) (step : Step) → EndsAs last s step → Reaches image start world step v
      → outcome ≡ record { end = end_of_member last; output = output_of s.store v; released = v.released } → RunGives image module_of.names input turns members outcome
  made last s v step is reaches e = record {
    last = last;
    rest = is.rest;
    world = v;
    reaches = subst (λ x. Reaches image start world x v) is.is reaches;
    is = e ∙ ap (λ o. record { end = end_of_member last; output = output_of o v; released = v.released }) (sym is.store);
  }

  by_store : (flow : Ends Flow) (o : Option Store) (v : World) → outcome_together (together (given_back o (done flow)) v) ≡ Some outcome
      → (last : end.MemberEnd) → end_of flow ≡ Some (end_of_member last) → outcome ≡ record { end = end_of_member last; output = output_of o v; released = v.released }
  by_store flow None v e last is =
      some_same (sym e ∙ ap (λ x. source.outcome_from x v) is)
  by_store flow (Some store) v e last is =
      some_same (sym e ∙ ap (λ x. source.outcome_from x (with_stored store v)) is)

  ended_by : (a : Ends Flow) (v : World) (step : Step) → ModuleEnds a step → Reaches image start world step v → outcome_together (together (section_end a) v) ≡ Some outcome → RunGives image module_of.names input turns members outcome
  ended_by (gives next s) v step p reaches e = made end.over s v step p reaches (by_store (gives next (freed s)) s.store v e end.over refl)
  ended_by (gives continues s) v step p reaches e = absurd (no_outcome (gives continues (freed s)) s.store v refl e)
  ended_by (gives breaks s) v step p reaches e = absurd (no_outcome (gives breaks (freed s)) s.store v refl e)
  ended_by (gives (returns x) s) v step p reaches e = absurd (no_outcome (gives (returns x) (freed s)) s.store v refl e)
  ended_by (raised f s) v step p reaches e = made (end.raised f) s v step p reaches (by_store (raised f (freed s)) s.store v e (end.raised f) refl)
  ended_by (spent s) v step p reaches e = made end.spent s v step p reaches (by_store (spent (freed s)) s.store v e end.spent refl)
  ended_by meaningless v step p reaches e = cc

  by_together : Means image module_of → (x : Together (Ends Flow)) → together (module_code (module_context module_of turns) module_of (holding (first_store module_of.names input) (first_state turns members))) world ≡ x
      → outcome_together (after x section_end) ≡ Some outcome → RunGives image module_of.names input turns members outcome
  by_together means (source.ended a v) is e =
      let r = code_ends image ModuleEnds start _ world v a (means.module_runs turns members (first_store module_of.names input)) is in
      ended_by a v r.last r.belongs r.reaches e
  by_together means (source.at_loop entry v) is e = cc

  pub images_give : Means image module_of → meaning_in module_of input turns members ≡ Some outcome → RunGives image module_of.names input turns members outcome
  unfolding meaning_in module_run
  images_give means e =
      let s = holding (first_store module_of.names input) (first_state turns members) in
      let run = module_code (module_context module_of turns) module_of s in
      by_together means (together run world) refl (ap outcome_together (sym (together_behind run section_end world)) ∙ e)
