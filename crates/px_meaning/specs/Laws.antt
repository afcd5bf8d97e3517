-- Laws of the meaning of modules.
use Rattle.std.specs.Prelude.{◌≡◌, ◌≢◌, ℕ, ◌+◌, List, [], Some, None}
use Rattle.std.specs.List.{range_with_len}
use Rattle.px_model.specs.declared.journals.Journal.{Journal}
use Rattle.px_model.specs.declared.outcomes.End.TheVariants as end
use Rattle.px_model.specs.declared.outcomes.Outcome.{Outcome}
use Rattle.px_meaning.specs.Calls.{Source}
use Rattle.px_meaning.specs.Iterations.{LoopBodies}
use Rattle.px_meaning.specs.OneWorld.{meaning_in}
use Rattle.px_meaning.specs.InIndexOrder.{meaning_in_index_order}
use Rattle.px_meaning.specs.Journals.{Running, Lawful, places_ran}
use Rattle.px_meaning.specs.Along.{Meaning}

-- a module has one meaning for an input, turns, members, the journals of its loops and the bodies of these
abbrev pub MeaningsAreUnique : Type 0
MeaningsAreUnique =
    (bodies : LoopBodies) (source : Source) (input : List ℕ) (turns members : ℕ) (journals : List Journal) (one other : Outcome)
    → Meaning bodies source input turns members journals one → Meaning bodies source input turns members journals other → one ≡ other

-- A module that comes to no parallel loop means without journals what it does on one world, and so it does in the order of indices.
pub record LoopsAreTheRest : Type 0 where
  pub there : (bodies : LoopBodies) (source : Source) (input : List ℕ) (turns members : ℕ) (outcome : Outcome)
      → meaning_in source input turns members ≡ Some outcome → Meaning bodies source input turns members [] outcome
  pub only : (bodies : LoopBodies) (source : Source) (input : List ℕ) (turns members : ℕ) (outcome : Outcome)
      → Meaning bodies source input turns members [] outcome → meaning_in source input turns members ≡ Some outcome
  pub in_order : (bodies : LoopBodies) (source : Source) (input : List ℕ) (turns members : ℕ) (outcome : Outcome)
      → meaning_in source input turns members ≡ Some outcome → meaning_in_index_order bodies source input turns members ≡ Some outcome

-- a module that comes to no parallel loop, and doesn't run out of its turns, means the same with more turns
abbrev pub MoreTurnsChangeNothing : Type 0
MoreTurnsChangeNothing =
    (source : Source) (input : List ℕ) (turns extra members : ℕ) (outcome : Outcome) → meaning_in source input turns members ≡ Some outcome
    → outcome.end ≢ end.Spent → meaning_in source input (turns + extra) members ≡ Some outcome

-- In a lawful journal of a loop that nothing stopped all iterations ran, each once.
abbrev pub UnstoppedJournalsAreWhole : Type 0
UnstoppedJournalsAreWhole =
    (l : Running) (journal : Journal) → Lawful l journal → journal.stopped ≡ None
    → places_ran l.entry.partition journal ≡ range_with_len 0 l.entry.partition.count
