-- The statements that have code.
use Rattle.std.specs.Prelude.{◌≡◌, ℕ, ◌≤◌, Bool, true, List, slice_get, Option, Some, None}
use Rattle.px_base.specs.declared.c_types.CType.{CType}
use Rattle.px_base.specs.declared.objects.Builtin.TheVariants as builtin
use Rattle.px_base.specs.declared.objects.Constant.{Constant}
use Rattle.px_base.specs.declared.objects.Constant.TheVariants as constant
use Rattle.px_tree.specs.declared.typed_values.ValueType.{ValueType}
use Rattle.px_tree.specs.declared.typed_values.ValueType.TheVariants as type
use Rattle.px_tree.specs.declared.typed_values.Conversion.TheVariants as conversion
use Rattle.px_tree.specs.declared.typed_heads.TypedHead.{TypedHead}
use Rattle.px_tree.specs.declared.typed_heads.TypedHead.TheVariants as head
use Rattle.px_walk.specs.Roses.{Roses, rose, none, more}
use Rattle.px_typed_walk.specs.TypedView.{TypedRose, type_of}
use Rattle.px_stmtgen.specs.StatementCode.{count_of}
use Rattle.px_code_laws.specs.Fine.{HasType, IsFine, AreFine, types_of}

-- What statements stand in: the types of the variables, how many registers there are for objects, what the function gives, the place of
-- None among the constants, these, and what the functions of the module give that have no parameters, by their places.
pub record Surrounding : Type 0 where
  pub locals : List ValueType
  pub objects : ℕ
  pub gives : ValueType
  pub none_at : ℕ
  pub constants : List Constant
  pub callees : List (Option ValueType)
  -- whether the lock is held
  pub locked : Bool

-- an argument of print: a number as an object
abbrev pub FineBoxed : List ValueType → TypedHead → Roses TypedHead → Type 0
FineBoxed locals (head.Converted (conversion.ToObject t)) parts = HasType (types_of parts) 0 t × AreFine locals None parts
FineBoxed locals _ parts = ⊥

abbrev pub FineArgument : List ValueType → TypedRose → Type 0
FineArgument locals (rose h number at parts) = FineBoxed locals h parts

abbrev pub FineArguments : List ValueType → Roses TypedHead → Type 0
FineArguments locals none = Unit {0}
FineArguments locals (more tree trees) = FineArgument locals tree × FineArguments locals trees

-- a call of a function without parameters
abbrev pub FineResult : Surrounding → ValueType → Type 0
FineResult c (type.C t) = Unit {0}
FineResult c type.Object = (1 ≤ c.objects) × (c.locked ≡ true)
FineResult c (type.View t) = ⊥
FineResult c type.Void = Unit {0}

abbrev pub FineCall : Surrounding → ℕ → ValueType → Roses TypedHead → Type 0
FineCall c function t none = (slice_get c.callees function ≡ Some (Some t)) × FineResult c t
FineCall c function t (more tree trees) = ⊥

-- a number
pub record FineNumber (locals : List ValueType) (tree : TypedRose) (t : CType) : Type 0 where
  pub fine : IsFine locals None tree
  pub typed : type_of tree ≡ type.C t

abbrev pub FineAlone : Surrounding → TypedRose → Type 0
FineAlone c (rose (head.Builtin builtin.Print) number at parts) =
    (c.locked ≡ true) × ((count_of parts ≤ c.objects) × FineArguments c.locals parts)
FineAlone c (rose (head.Call function t) number at parts) = FineCall c function t parts
FineAlone c (rose h number at parts) = IsFine c.locals None (rose h number at parts)

abbrev pub FineSet : Surrounding → ℕ → ValueType → TypedRose → Type 0
FineSet c slot (type.C t) tree = (slice_get c.locals slot ≡ Some (type.C t)) × FineNumber c.locals tree t
FineSet c slot type.Object tree = ⊥
FineSet c slot (type.View t) tree = ⊥
FineSet c slot type.Void tree = ⊥

abbrev pub FineTarget : Surrounding → TypedHead → TypedRose → Type 0
FineTarget c (head.Local slot t) tree = FineSet c slot t tree
FineTarget c _ tree = ⊥

abbrev pub FineExpression : Surrounding → Roses TypedHead → Type 0
FineExpression c (more tree none) = FineAlone c tree
FineExpression c _ = ⊥

abbrev pub FineAssign : Surrounding → Roses TypedHead → Type 0
FineAssign c (more (rose h number at parts) (more tree none)) = FineTarget c h tree
FineAssign c _ = ⊥

-- a variable whose value is at hand for the value that it gets
pub record FineAugmented (c : Surrounding) (target : TypedRose) (slot : ℕ) (t : CType) (tree : TypedRose) : Type 0 where
  pub local : slice_get c.locals slot ≡ Some (type.C t)
  pub target_fine : IsFine c.locals None target
  pub fine : IsFine c.locals (Some t) tree
  pub typed : type_of tree ≡ type.C t

abbrev pub FineAugmentTo : Surrounding → TypedHead → TypedRose → TypedRose → Type 0
FineAugmentTo c (head.Local slot (type.C t)) target tree = FineAugmented c target slot t tree
FineAugmentTo c _ target tree = ⊥

abbrev pub FineAugment : Surrounding → Roses TypedHead → Type 0
FineAugment c (more (rose h number at parts) (more tree none)) = FineAugmentTo c h (rose h number at parts) tree
FineAugment c _ = ⊥

abbrev pub FineDeclarator : Surrounding → ℕ → ValueType → Roses TypedHead → Type 0
FineDeclarator c slot t none = Unit {0}
FineDeclarator c slot t (more tree none) = FineSet c slot t tree
FineDeclarator c slot t _ = ⊥

-- an end without a value
abbrev pub FineEnd : Surrounding → ValueType → Type 0
FineEnd c (type.C t) = Unit {0}
FineEnd c type.Object = (1 ≤ c.objects) × (slice_get c.constants c.none_at ≡ Some constant.None)
FineEnd c (type.View t) = ⊥
FineEnd c type.Void = Unit {0}

abbrev pub FineReturned : Surrounding → ValueType → TypedRose → Type 0
FineReturned c (type.C t) tree = FineNumber c.locals tree t
FineReturned c type.Object tree = ⊥
FineReturned c (type.View t) tree = ⊥
FineReturned c type.Void tree = ⊥

abbrev pub FineReturn : Surrounding → Roses TypedHead → Type 0
FineReturn c none = FineEnd c c.gives
FineReturn c (more tree none) = FineReturned c c.gives tree
FineReturn c _ = ⊥

-- by the head, and whether the parts are fine statements
abbrev pub FineStatementBy : Surrounding → TypedHead → Roses TypedHead → Type 0 → Type 0
FineStatementBy c head.Expression parts inner = FineExpression c parts
FineStatementBy c head.Assign parts inner = FineAssign c parts
FineStatementBy c (head.Augment op) parts inner = FineAugment c parts
FineStatementBy c head.Declare parts inner = inner
FineStatementBy c (head.Declarator slot t) parts inner = FineDeclarator c slot t parts
FineStatementBy c head.Pass parts inner = Unit {0}
FineStatementBy c head.Global parts inner = Unit {0}
FineStatementBy c head.Return parts inner = FineReturn c parts
FineStatementBy c _ parts inner = ⊥

abbrev mutual
  pub IsFineStatement : Surrounding → TypedRose → Type 0
  IsFineStatement c (rose h number at parts) = FineStatementBy c h parts (AreFineStatements c parts)

  pub AreFineStatements : Surrounding → Roses TypedHead → Type 0
  AreFineStatements c none = Unit {0}
  AreFineStatements c (more tree trees) = IsFineStatement c tree × AreFineStatements c trees
