-- What a member does by one instruction: it goes on, or it makes a request of what it shares with others and goes on by the answer, or
-- it has ended. The requests are those of runs of the source, but for parallel loops.
use Rattle.std.specs.Prelude.{ℕ, List}
use Rattle.px_base.specs.declared.c_types.CType.{CType}
use Rattle.px_base.specs.declared.faults.Fault.{Fault}
use Rattle.px_model.specs.declared.cells.Cell.{Cell}
use Rattle.px_model.specs.declared.stores.Store.{Store}
use Rattle.px_machine.specs.Slots.{Member, Rest}

-- How a member ends: its first frame is over, by a fault that nothing in it took, or with no turn for the next turn of a loop or call.
pub data MemberEnd : Type 0 where
  over : MemberEnd
  raised : Fault → MemberEnd
  spent : MemberEnd

pub data Step : Type 0 where
  went : Member → Step
  loads : Cell → (ℕ → Member) → Step
  puts : Cell → ℕ → Member → Step
  fills : List Cell → ℕ → Member → Step
  copies : List (Cell × Cell) → CType → CType → Member → Step
  makes : (buffer size : ℕ) → Member → Step
  releases : (buffer : ℕ) → Member → Step
  enters : (Store → Member) → Step
  leaves : Store → Member → Step
  ended : MemberEnd → Rest → Step
  -- no instruction stands there, or its operands are of the wrong kinds
  stuck : Step
