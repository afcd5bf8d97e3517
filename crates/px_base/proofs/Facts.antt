-- Bools that tell facts.
use Rattle.std.proofs.Common.{Bool, ◌∙◌, sym}
use Rattle.std.specs.Prelude.{◌↔◌, IsTrue, IsFalse}
use Rattle.std.proofs.lemmas.Bool.{false≢true}

-- where the bool is false the fact doesn't hold
pub denied : {b : Bool} {A : Type 0} → (IsTrue b ↔ A) → IsFalse b → A → ⊥
denied told fails holds = false≢true (sym fails ∙ told.1 holds)
