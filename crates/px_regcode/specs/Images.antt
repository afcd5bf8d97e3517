-- A module's code as plain data, and what its parts name.
use Rattle.std.specs.Prelude.{ℕ, List, Some, ◌≡◌, slice_get}
use Rattle.px_base.specs.declared.objects.Constant.{Constant}
use Rattle.px_regcode.specs.declared.codes.Code.{Code}
use Rattle.px_regcode.specs.declared.plans.LoopPlan.{LoopPlan}
use Rattle.px_regcode.specs.declared.instructions.Instr.{Instr}

-- the code of the module and of its functions, its parallel loops and its constants
pub record ImageParts : Type 0 where
  pub codes : List Code
  pub loops : List LoopPlan
  pub constants : List Constant

-- the instruction stands at this place of the code of this function
pub record IsAt (image : ImageParts) (f pc : ℕ) (i : Instr) : Type 0 where
  pub code : Code
  pub is_code : slice_get image.codes f ≡ Some code
  pub is_instr : slice_get code.instrs pc ≡ Some i

abbrev pub image_of : List Code → List LoopPlan → List Constant → ImageParts
image_of codes loops constants = record { codes = codes; loops = loops; constants = constants }
