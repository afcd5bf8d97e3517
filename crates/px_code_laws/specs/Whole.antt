-- What an image of compiled functions has beside their instructions: no parallel loops, module code that is called with the lock, names
-- for the functions, and a line for each instruction.
use Rattle.std.specs.Prelude.{◌≡◌, ℕ, suc, [], length, slice_get, Some}
use Rattle.px_regcode.specs.declared.codes.Code.{Code}
use Rattle.px_regcode.specs.Images.{ImageParts}
use Rattle.px_regcode.specs.Formed.{IsModule, IsName}

pub record IsWhole (image : ImageParts) : Type 0 where
  pub loops : image.loops ≡ []
  pub first : (code : Code) → slice_get image.codes 0 ≡ Some code → IsModule code
  pub names : (function : ℕ) (code : Code) → slice_get image.codes (suc function) ≡ Some code → IsName code.name
  pub lines : (function : ℕ) (code : Code) → slice_get image.codes function ≡ Some code → length code.lines ≡ length code.instrs
