-- Code follows a run of the source: it makes the same requests in the same order, whatever is answered, and its end and that of the run
-- belong together. A run that comes to a parallel loop isn't followed.
use Rattle.std.specs.Prelude.{ℕ, List}
use Rattle.px_base.specs.declared.c_types.CType.{CType}
use Rattle.px_model.specs.declared.cells.Cell.{Cell}
use Rattle.px_model.specs.declared.stores.Store.{Store}
use Rattle.px_regcode.specs.Images.{ImageParts}
use Rattle.px_meaning.specs.Interactions.{Interaction, done, load, put, fill, copy, make, released, enter, leave}
use Rattle.px_machine.specs.Slots.{Member}
use Rattle.px_machine.specs.Steps.{Step, went, loads, puts, fills, copies, makes, releases, enters, leaves}
use Rattle.px_machine.specs.Machine.{step}

pub data Follows {A : Type 0} (image : ImageParts) (Q : A → Step → Type 0) : Step → Interaction A → Type 0 where
  arrives : {s : Step} {a : A} → Q a s → Follows image Q s (done a)
  -- an instruction that requests nothing
  goes : {m : Member} {t : Interaction A} → Follows image Q (step image m) t → Follows image Q (went m) t
  by_load : {cell : Cell} {n : ℕ → Member} {k : ℕ → Interaction A}
      → ((word : ℕ) → Follows image Q (went (n word)) (k word)) → Follows image Q (loads cell n) (load cell k)
  by_put : {cell : Cell} {word : ℕ} {m : Member} {t : Interaction A}
      → Follows image Q (went m) t → Follows image Q (puts cell word m) (put cell word t)
  by_fill : {cells : List Cell} {word : ℕ} {m : Member} {t : Interaction A}
      → Follows image Q (went m) t → Follows image Q (fills cells word m) (fill cells word t)
  by_copy : {pairs : List (Cell × Cell)} {from to : CType} {m : Member} {t : Interaction A}
      → Follows image Q (went m) t → Follows image Q (copies pairs from to m) (copy pairs from to t)
  by_make : {buffer size : ℕ} {m : Member} {t : Interaction A}
      → Follows image Q (went m) t → Follows image Q (makes buffer size m) (make buffer size t)
  by_release : {buffer : ℕ} {m : Member} {t : Interaction A}
      → Follows image Q (went m) t → Follows image Q (releases buffer m) (released buffer t)
  by_enter : {n : Store → Member} {k : Store → Interaction A}
      → ((store : Store) → Follows image Q (went (n store)) (k store)) → Follows image Q (enters n) (enter k)
  by_leave : {store : Store} {m : Member} {t : Interaction A}
      → Follows image Q (went m) t → Follows image Q (leaves store m) (leave store t)
