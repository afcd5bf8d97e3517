-- Runs that differ in the turns that they have: they ask the same, and come to the same, up to where the one with fewer turns has none
-- left.
use Rattle.std.proofs.Common.{◌≡◌, ℕ, zero, suc, ◌+◌, List, [], ◌∷◌, Option, Some, None, refl, subst, arith}
use Rattle.std.specs.Prelude.{ℤ, Result, Ok, Err}
use Rattle.px_base.specs.declared.c_types.CType.{CType}
use Rattle.px_base.specs.declared.faults.Fault.{Fault}
use Rattle.px_model.specs.declared.cells.Cell.{Cell}
use Rattle.px_model.specs.declared.stores.Store.{Store}
use Rattle.px_meaning.specs.Values.{Value, whole, object, view, nothing}
use Rattle.px_meaning.specs.States.{State, freed, holding, buffers_of_frame, times_in, holders_of}
use Rattle.px_meaning.specs.Interactions.{Interaction, done, load, put, fill, copy, make, released, enter, leave, loop, LoopEntry, LoopReport, ◌>>=◌}
use Rattle.px_meaning.specs.Ends.{Ends, gives, raised, spent, meaningless, on_value, on_whole, on_number, number_or_fault, spend, spending, Flow, next, continues, breaks, returns, then_do, behind_body, release_unless, letting_go, frame_end}
use Rattle.px_meaning.specs.Sections.{given_back, section_end, lock_from, with_lock, taken_again, unlock_from, without_lock}
use Rattle.px_meaning.specs.Objects.{Stepped, gave, failed, with_stepped, step_from, stepping}

abbrev pub more_turns : ℕ → State → State
more_turns extra s = record s { turns = s.turns + extra }

-- a run that has run out of turns, has no meaning, or comes to a parallel loop; what it does before is to give the store back
pub data IsOver {A : Type 0} : Interaction (Ends A) → Type 0 where
  ran_out : {s : State} → IsOver (done (spent s))
  lost : IsOver (done meaningless)
  gives_back : {store : Store} {t : Interaction (Ends A)} → IsOver t → IsOver (leave store t)
  comes_to_loop : {entry : LoopEntry} {k : LoopReport → Interaction (Ends A)} → IsOver (loop entry k)

pub data Alike (extra : ℕ) {A : Type 0} : Interaction (Ends A) → Interaction (Ends A) → Type 0 where
  over : {t u : Interaction (Ends A)} → IsOver t → Alike extra t u
  gave_alike : {a : A} {s : State} → Alike extra (done (gives a s)) (done (gives a (more_turns extra s)))
  raised_alike : {fault : Fault} {s : State} → Alike extra (done (raised fault s)) (done (raised fault (more_turns extra s)))
  loads : {cell : Cell} {k l : ℕ → Interaction (Ends A)} → ((word : ℕ) → Alike extra (k word) (l word))
      → Alike extra (load cell k) (load cell l)
  puts : {cell : Cell} {word : ℕ} {t u : Interaction (Ends A)} → Alike extra t u → Alike extra (put cell word t) (put cell word u)
  fills : {cells : List Cell} {word : ℕ} {t u : Interaction (Ends A)} → Alike extra t u
      → Alike extra (fill cells word t) (fill cells word u)
  copies : {pairs : List (Cell × Cell)} {from to : CType} {t u : Interaction (Ends A)} → Alike extra t u
      → Alike extra (copy pairs from to t) (copy pairs from to u)
  makes : {buffer size : ℕ} {t u : Interaction (Ends A)} → Alike extra t u → Alike extra (make buffer size t) (make buffer size u)
  releases : {buffer : ℕ} {t u : Interaction (Ends A)} → Alike extra t u → Alike extra (released buffer t) (released buffer u)
  enters : {k l : Store → Interaction (Ends A)} → ((store : Store) → Alike extra (k store) (l store)) → Alike extra (enter k) (enter l)
  leaves : {store : Store} {t u : Interaction (Ends A)} → Alike extra t u → Alike extra (leave store t) (leave store u)

-- what goes on with an end
pub record GoesOnAlike (extra : ℕ) {A B : Type 0} (f g : Ends A → Interaction (Ends B)) : Type 0 where
  pub gave : (a : A) (s : State) → Alike extra (f (gives a s)) (g (gives a (more_turns extra s)))
  pub failed : (fault : Fault) (s : State) → Alike extra (f (raised fault s)) (g (raised fault (more_turns extra s)))
  pub ran_out : (s : State) → IsOver (f (spent s))
  pub lost : IsOver (f meaningless)

over_by : {extra : ℕ} {A B : Type 0} {f g : Ends A → Interaction (Ends B)} {t : Interaction (Ends A)} → GoesOnAlike extra f g → IsOver t
    → IsOver (t >>= f)
over_by goes (ran_out {s}) = goes.ran_out s
over_by goes lost = goes.lost
over_by goes (gives_back o) = gives_back (over_by goes o)
over_by goes comes_to_loop = comes_to_loop

pub behind : {extra : ℕ} {A B : Type 0} {f g : Ends A → Interaction (Ends B)} {t u : Interaction (Ends A)} → Alike extra t u
    → GoesOnAlike extra f g → Alike extra (t >>= f) (u >>= g)
behind (over o) goes = over (over_by goes o)
behind (gave_alike {a} {s}) goes = goes.gave a s
behind (raised_alike {fault} {s}) goes = goes.failed fault s
behind (loads k) goes = loads (λ word. behind (k word) goes)
behind (puts x) goes = puts (behind x goes)
behind (fills x) goes = fills (behind x goes)
behind (copies x) goes = copies (behind x goes)
behind (makes x) goes = makes (behind x goes)
behind (releases x) goes = releases (behind x goes)
behind (enters k) goes = enters (λ store. behind (k store) goes)
behind (leaves x) goes = leaves (behind x goes)

module _ (extra : ℕ) where
  pub values_alike : {A B : Type 0} (go go2 : A → State → Interaction (Ends B))
      → ((a : A) (s : State) → Alike extra (go a s) (go2 a (more_turns extra s)))
      → GoesOnAlike extra (on_value go) (on_value go2)
  values_alike go go2 same = record { gave = same; failed = λ fault s. raised_alike; ran_out = λ s. ran_out; lost = lost }

  pub wholes_alike : {B : Type 0} (go go2 : ℤ → State → Interaction (Ends B))
      → ((n : ℤ) (s : State) → Alike extra (go n s) (go2 n (more_turns extra s)))
      → (v : Value) (s : State) → Alike extra (on_whole go v s) (on_whole go2 v (more_turns extra s))
  wholes_alike go go2 same (whole n) s = same n s
  wholes_alike go go2 same (object serial) s = over lost
  wholes_alike go go2 same (view v) s = over lost
  wholes_alike go go2 same nothing s = over lost

  pub numbers_alike : {B : Type 0} (go go2 : ℤ → State → Interaction (Ends B))
      → ((n : ℤ) (s : State) → Alike extra (go n s) (go2 n (more_turns extra s)))
      → GoesOnAlike extra (on_number go) (on_number go2)
  numbers_alike go go2 same = values_alike (on_whole go) (on_whole go2) (wholes_alike go go2 same)

  -- what gives or raises something at once
  abbrev pub later : {A : Type 0} → Ends A → Ends A
  later (gives a s) = gives a (more_turns extra s)
  later (raised fault s) = raised fault (more_turns extra s)
  later (spent s) = spent (more_turns extra s)
  later meaningless = meaningless

  pub done_alike : {A : Type 0} (e : Ends A) → Alike extra (done e) (done (later e))
  done_alike (gives a s) = gave_alike
  done_alike (raised fault s) = raised_alike
  done_alike (spent s) = over ran_out
  done_alike meaningless = over lost

  pub done_as : {A : Type 0} (e d : Ends A) → later e ≡ d → Alike extra (done e) (done d)
  done_as e d same = subst (λ x. Alike extra (done e) (done x)) same (done_alike e)

  pub number_alike : (r : Result ℤ Fault) (s : State)
      → Alike extra (done (number_or_fault r s)) (done (number_or_fault r (more_turns extra s)))
  number_alike (Ok n) s = gave_alike
  number_alike (Err fault) s = raised_alike

  stepped_later : {A : Type 0} (step : Stepped A) (s : State) → later (with_stepped step s) ≡ with_stepped step (more_turns extra s)
  stepped_later (gave a store) s = refl
  stepped_later (failed fault store) s = refl

  step_later : {A : Type 0} (o : Option Store) (step : Store → Stepped A) (s : State)
      → later (step_from o step s) ≡ step_from o step (more_turns extra s)
  step_later None step s = refl
  step_later (Some store) step s = stepped_later (step store) s

  pub stepping_later : {A : Type 0} (step : Store → Stepped A) (s : State) → later (stepping step s) ≡ stepping step (more_turns extra s)
  stepping_later step s = step_later s.store step s

  pub stepping_alike : {A : Type 0} (step : Store → Stepped A) (s : State)
      → Alike extra (done (stepping step s)) (done (stepping step (more_turns extra s)))
  stepping_alike step s = done_as (stepping step s) (stepping step (more_turns extra s)) (stepping_later step s)

  -- a turn
  spend_alike : {A : Type 0} (turns : ℕ) (go go2 : State → Interaction (Ends A))
      → ((s : State) → Alike extra (go s) (go2 (more_turns extra s)))
      → (s : State) → Alike extra (spend turns go s) (spend (turns + extra) go2 (more_turns extra s))
  spend_alike zero go go2 same s = over ran_out
  spend_alike (suc n) go go2 same s =
      let is : suc (n + extra) ≡ suc n + extra = omega arith in
      subst (λ m. Alike extra (spend (suc n) go s) (spend m go2 (more_turns extra s))) is (same (record s { turns = n }))

  pub spending_alike : {A : Type 0} (go go2 : State → Interaction (Ends A)) → ((s : State) → Alike extra (go s) (go2 (more_turns extra s)))
      → (s : State) → Alike extra (spending go s) (spending go2 (more_turns extra s))
  spending_alike go go2 same s = spend_alike s.turns go go2 same s

  -- flows
  pub then_alike : (go go2 : State → Interaction (Ends Flow)) → ((s : State) → Alike extra (go s) (go2 (more_turns extra s)))
      → (flow : Flow) (s : State) → Alike extra (then_do go flow s) (then_do go2 flow (more_turns extra s))
  then_alike go go2 same next s = same s
  then_alike go go2 same continues s = gave_alike
  then_alike go go2 same breaks s = gave_alike
  then_alike go go2 same (returns v) s = gave_alike

  pub body_alike : (go go2 : State → Interaction (Ends Flow)) → ((s : State) → Alike extra (go s) (go2 (more_turns extra s)))
      → (flow : Flow) (s : State) → Alike extra (behind_body go flow s) (behind_body go2 flow (more_turns extra s))
  body_alike go go2 same next s = same s
  body_alike go go2 same continues s = same s
  body_alike go go2 same breaks s = gave_alike
  body_alike go go2 same (returns v) s = gave_alike

  -- the end of a frame
  release_alike : {A : Type 0} (holders buffer : ℕ) (t u : Interaction (Ends A)) → Alike extra t u
      → Alike extra (release_unless holders buffer t) (release_unless holders buffer u)
  release_alike zero buffer t u x = releases x
  release_alike (suc holders) buffer t u x = x

  letting_alike : {A : Type 0} (going : List ℕ) (others : ℕ → ℕ) (t u : Interaction (Ends A)) → Alike extra t u
      → Alike extra (letting_go going others t) (letting_go going others u)
  letting_alike [] others t u x = x
  letting_alike (buffer ∷ going) others t u x =
      release_alike (times_in buffer going + others buffer) buffer (letting_go going others t) (letting_go going others u)
      (letting_alike going others t u x)

  pub frame_alike : {A : Type 0} (held : A → List ℕ) (back back2 : State → State)
      → ((s : State) → more_turns extra (back s) ≡ back2 (more_turns extra s))
      → GoesOnAlike extra (frame_end held back) (frame_end held back2)
  frame_alike {A = A} held back back2 same = record {
    gave = λ a s. subst (λ v. Alike extra (frame_end held back (gives a s))
        (letting_go (buffers_of_frame s.frame) (λ buffer. times_in buffer (held a) + holders_of v buffer) (done (gives a v)))) (same s)
        (letting_alike (buffers_of_frame s.frame) (λ buffer. times_in buffer (held a) + holders_of (back s) buffer) _ _ gave_alike);
    failed = λ fault s. subst (λ v. Alike extra {A = A} (frame_end held back (raised fault s))
        (letting_go (buffers_of_frame s.frame) (holders_of v) (done (raised fault v)))) (same s)
        (letting_alike (buffers_of_frame s.frame) (holders_of (back s)) _ _ raised_alike);
    ran_out = λ s. ran_out;
    lost = lost;
  }

  -- lock sections
  given_alike : {A : Type 0} (o : Option Store) (t u : Interaction (Ends A)) → Alike extra t u
      → Alike extra (given_back o t) (given_back o u)
  given_alike None t u x = x
  given_alike (Some store) t u x = leaves x

  given_over : {A : Type 0} (o : Option Store) (t : Interaction (Ends A)) → IsOver t → IsOver (given_back o t)
  given_over None t x = x
  given_over (Some store) t x = gives_back x

  section_alike : {A : Type 0} → GoesOnAlike extra (section_end {A = A}) (section_end {A = A})
  section_alike = record {
    gave = λ a s. given_alike s.store _ _ gave_alike;
    failed = λ fault s. given_alike s.store _ _ raised_alike;
    ran_out = λ s. given_over s.store _ ran_out;
    lost = lost;
  }

  lock_alike : {A : Type 0} (o : Option Store) (go go2 : State → Interaction (Ends A))
      → ((s : State) → Alike extra (go s) (go2 (more_turns extra s)))
      → (s : State) → Alike extra (lock_from o go s) (lock_from o go2 (more_turns extra s))
  lock_alike None go go2 same s = enters (λ store. behind (same (holding store s)) section_alike)
  lock_alike (Some store) go go2 same s = same s

  pub with_lock_alike : {A : Type 0} (go go2 : State → Interaction (Ends A)) → ((s : State) → Alike extra (go s) (go2 (more_turns extra s)))
      → (s : State) → Alike extra (with_lock go s) (with_lock go2 (more_turns extra s))
  with_lock_alike go go2 same s = lock_alike s.store go go2 same s

  again_alike : {A : Type 0} → GoesOnAlike extra (taken_again {A = A}) (taken_again {A = A})
  again_alike = record {
    gave = λ a s. enters (λ store. gave_alike);
    failed = λ fault s. enters (λ store. raised_alike);
    ran_out = λ s. ran_out;
    lost = lost;
  }

  unlock_alike : {A : Type 0} (o : Option Store) (go go2 : State → Interaction (Ends A))
      → ((s : State) → Alike extra (go s) (go2 (more_turns extra s)))
      → (s : State) → Alike extra (unlock_from o go s) (unlock_from o go2 (more_turns extra s))
  unlock_alike None go go2 same s = same s
  unlock_alike (Some store) go go2 same s = leaves (behind (same (freed s)) again_alike)

  pub without_lock_alike : {A : Type 0} (go go2 : State → Interaction (Ends A))
      → ((s : State) → Alike extra (go s) (go2 (more_turns extra s)))
      → (s : State) → Alike extra (without_lock go s) (without_lock go2 (more_turns extra s))
  without_lock_alike go go2 same s = unlock_alike s.store go go2 same s
