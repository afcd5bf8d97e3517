-- When an image is the code of a module whose functions have no parameters.
use Rattle.std.specs.Prelude.{◌≡◌, ℕ, suc, ◌+◌, ◌<◌, ◌≤◌, Bool, true, false, List, [], ◌∷◌, length, slice_get, Option, Some}
use Rattle.px_tree.specs.declared.modules.Lock.TheVariants as lock
use Rattle.px_tree.specs.declared.typed_values.ValueType.{ValueType}
use Rattle.px_tree.specs.declared.typed_values.ValueType.TheVariants as type
use Rattle.px_typed_walk.specs.TypedView.{TypedRose}
use Rattle.px_regcode.specs.declared.codes.Code.{Code}
use Rattle.px_regcode.specs.Images.{ImageParts}
use Rattle.px_meaning.specs.Calls.{SourceFunction, Source, swallows}
use Rattle.px_machine.specs.Means.{IsCodeOf}
use Rattle.px_stmtgen.specs.declared.layouts.Layout.{Layout}
use Rattle.px_stmtgen.specs.StatementCode.{statement_width}
use Rattle.px_stmtgen.specs.FunctionCode.{function_code}
use Rattle.px_code_laws.specs.FineStatements.{Surrounding, FineEnd, IsFineStatement}

abbrev pub AllNumbers : List ValueType → Type 0
AllNumbers [] = Unit {0}
AllNumbers (type.C t ∷ types) = AllNumbers types
AllNumbers (type.Object ∷ types) = ⊥
AllNumbers (type.View t ∷ types) = ⊥
AllNumbers (type.Void ∷ types) = ⊥

-- statements that have code, for which there are registers enough
abbrev pub AreCompiled : Surrounding → ℕ → List TypedRose → Type 0
AreCompiled around registers [] = Unit {0}
AreCompiled around registers (tree ∷ trees) =
    (IsFineStatement around tree × (length around.locals + around.objects + statement_width tree ≤ registers))
    × AreCompiled around registers trees

abbrev pub layout_of : Surrounding → Layout
layout_of around =
    record { variables = length around.locals; objects = around.objects; gives = around.gives; none_at = around.none_at }

-- an end with a number takes one more register
abbrev pub RoomFor : ValueType → ℕ → ℕ → Type 0
RoomFor (type.C t) first registers = first < registers
RoomFor type.Object first registers = Unit {0}
RoomFor (type.View t) first registers = Unit {0}
RoomFor type.Void first registers = Unit {0}

-- the code of statements with what stands round them
pub record IsCode (around : Surrounding) (swallowed : Bool) (body : List TypedRose) (code : Code) : Type 0 where
  pub instrs : code.instrs ≡ function_code (layout_of around) 0 swallowed body
  pub numbers : AllNumbers around.locals
  pub room : length around.locals + around.objects ≤ code.registers
  pub end_room : RoomFor around.gives (length around.locals + around.objects) code.registers
  pub compiled : AreCompiled around code.registers body
  pub end : FineEnd around around.gives
  pub locked : around.locked ≡ true

-- a function without parameters and lock clause has this code
pub record FunctionIsCompiled (source : Source) (callees : List (Option ValueType)) (f : SourceFunction) (code : Code) : Type 0 where
  pub locals : List ValueType
  pub objects : ℕ
  pub none_at : ℕ
  pub variables : f.variables ≡ length locals
  pub lock : f.lock ≡ lock.Unwritten
  pub params : f.params ≡ []
  pub says : IsCodeOf f code
  pub is_code : IsCode (record { locals = locals; objects = objects; gives = f.gives; none_at = none_at; constants = source.constants; callees = callees; locked = true })
      (swallows f.is_noexcept f.gives) f.body code

pub record FunctionThere (source : Source) (function : ℕ) (t : ValueType) : Type 0 where
  pub callee : SourceFunction
  pub there : slice_get source.functions function ≡ Some callee
  pub gives : callee.gives ≡ t

pub record CodeThere (image : ImageParts) (source : Source) (callees : List (Option ValueType)) (function : ℕ) (f : SourceFunction) : Type 0 where
  pub code : Code
  pub there : slice_get image.codes (suc function) ≡ Some code
  pub compiled : FunctionIsCompiled source callees f code

pub record IsCompiled (image : ImageParts) (source : Source) : Type 0 where
  pub count : length image.codes ≡ suc (length source.functions)
  pub constants : image.constants ≡ source.constants
  -- what the functions give, by their places
  pub callees : List (Option ValueType)
  pub are_callees : (function : ℕ) (t : ValueType) → slice_get callees function ≡ Some (Some t) → FunctionThere source function t
  pub functions : (function : ℕ) (f : SourceFunction) → slice_get source.functions function ≡ Some f → CodeThere image source callees function f
  pub code : Code
  pub code_there : slice_get image.codes 0 ≡ Some code
  pub objects : ℕ
  pub none_at : ℕ
  pub is_code : IsCode (record { locals = []; objects = objects; gives = type.Void; none_at = none_at; constants = source.constants; callees = callees; locked = true })
      false source.code code
