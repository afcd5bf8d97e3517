-- The object runtime as plain data, and the store that it stands for.
use Rattle.std.specs.Prelude.{◌≡◌, ℕ, List}
use Rattle.px_model.specs.declared.stores.Store.{Store}
use Rattle.px_heap.specs.Heaps.{Heap}
use Rattle.px_heap.specs.Stores.{StandsFor}

pub record Interp : Type 0 where
  pub heap : Heap
  pub output : List ℕ

pub record Represents (interp : Interp) (store : Store) : Type 0 where
  pub objects : StandsFor interp.heap store
  pub output : interp.output ≡ store.output
