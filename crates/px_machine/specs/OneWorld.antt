-- A member that runs on one world, which answers its requests.
use Rattle.std.specs.Prelude.{◌≡◌, ℕ, List, [], ◌∷◌, Option, Some, None}
use Rattle.px_base.specs.declared.c_types.CType.{CType}
use Rattle.px_model.specs.declared.cells.Cell.{Cell}
use Rattle.px_model.specs.declared.stores.Store.{Store}
use Rattle.px_model.specs.declared.outcomes.End.{End}
use Rattle.px_model.specs.declared.outcomes.End.TheVariants as end
use Rattle.px_model.specs.declared.outcomes.Outcome.{Outcome}
use Rattle.px_regcode.specs.Images.{ImageParts}
use Rattle.px_meaning.specs.States.{holding}
use Rattle.px_meaning.specs.Worlds.{World, with_writes, with_release, with_stored, fill_writes, copy_writes}
use Rattle.px_meaning.specs.OneWorld.{first_store, first_world, meaning_in}
use Rattle.px_meaning.specs.Calls.{Source}
use Rattle.px_meaning.specs.Modules.{first_state}
use Rattle.px_machine.specs.Slots.{Member, Rest}
use Rattle.px_machine.specs.Steps.{Step, MemberEnd, over, raised, spent, went, loads, puts, fills, copies, makes, releases, enters, leaves, ended}
use Rattle.px_machine.specs.Machine.{step}
use Rattle.px_machine.specs.Means.{Means, first_member}

-- One step leads to another one, by so many instructions whose requests the world answers; and the world behind them.
pub data Reaches (image : ImageParts) : Step → World → Step → World → Type 0 where
  here : {s : Step} {w : World} → Reaches image s w s w
  goes : {m : Member} {s : Step} {w v : World} → Reaches image (step image m) w s v → Reaches image (went m) w s v
  by_load : {cell : Cell} {n : ℕ → Member} {s : Step} {w v : World}
      → Reaches image (went (n (w.words cell))) w s v → Reaches image (loads cell n) w s v
  by_put : {cell : Cell} {word : ℕ} {m : Member} {s : Step} {w v : World}
      → Reaches image (went m) (with_writes ((cell, word) ∷ []) w) s v → Reaches image (puts cell word m) w s v
  by_fill : {cells : List Cell} {word : ℕ} {m : Member} {s : Step} {w v : World}
      → Reaches image (went m) (with_writes (fill_writes cells word) w) s v → Reaches image (fills cells word m) w s v
  by_copy : {pairs : List (Cell × Cell)} {from to : CType} {m : Member} {s : Step} {w v : World}
      → Reaches image (went m) (with_writes (copy_writes pairs from to w.words) w) s v → Reaches image (copies pairs from to m) w s v
  by_make : {buffer size : ℕ} {m : Member} {s : Step} {w v : World}
      → Reaches image (went m) w s v → Reaches image (makes buffer size m) w s v
  by_release : {buffer : ℕ} {m : Member} {s : Step} {w v : World}
      → Reaches image (went m) (with_release buffer w) s v → Reaches image (releases buffer m) w s v
  by_enter : {n : Store → Member} {s : Step} {w v : World}
      → Reaches image (went (n w.store)) w s v → Reaches image (enters n) w s v
  by_leave : {store : Store} {m : Member} {s : Step} {w v : World}
      → Reaches image (went m) (with_stored store w) s v → Reaches image (leaves store m) w s v

-- how a module ends whose main member ends so
abbrev pub end_of_member : MemberEnd → End
end_of_member over = end.Done
end_of_member (raised f) = end.Raised f
end_of_member spent = end.Spent

-- what was printed: by the store that the member has, or by that of the world
abbrev pub output_of : Option Store → World → List ℕ
output_of None w = w.store.output
output_of (Some store) w = store.output

-- The main member of an image runs to its end, on the world in which a module of so many names begins with this input; what it has then
-- and what it left make this outcome.
pub record RunGives (image : ImageParts) (names : ℕ) (input : List ℕ) (turns members : ℕ) (outcome : Outcome) : Type 0 where
  pub last : MemberEnd
  pub rest : Rest
  pub world : World
  pub reaches : Reaches image (went (first_member image (holding (first_store names input) (first_state turns members))))
      (first_world names input) (ended last rest) world
  pub is : outcome ≡ record { end = end_of_member last; output = output_of rest.store world; released = world.released }

-- Where a module has a meaning on an input, the main member of an image that means it runs to its end and gives the same.
abbrev pub ImagesGiveTheMeaning : Type 0
ImagesGiveTheMeaning =
    (image : ImageParts) (text : Source) (input : List ℕ) (turns members : ℕ) (outcome : Outcome)
    → Means image text → meaning_in text input turns members ≡ Some outcome → RunGives image text.names input turns members outcome
