-- The expressions of C types that have code, by the types of their parts.
use Rattle.std.specs.Prelude.{◌≡◌, ◌≢◌, ℕ, IsFalse, List, [], ◌∷◌, slice_get, Option, Some, None}
use Rattle.px_base.specs.declared.c_types.CType.{CType}
use Rattle.px_base.specs.declared.c_types.CType.TheVariants.{Bint}
use Rattle.px_base.specs.declared.c_types.BinOp.{BinOp}
use Rattle.px_ctypes.specs.Types.{IsValueOf}
use Rattle.px_ctypes.specs.Operators.{is_shift}
use Rattle.px_tree.specs.declared.typed_values.ValueType.{ValueType}
use Rattle.px_tree.specs.declared.typed_values.ValueType.TheVariants as type
use Rattle.px_tree.specs.declared.typed_values.Conversion.{Conversion}
use Rattle.px_tree.specs.declared.typed_values.Conversion.TheVariants as conversion
use Rattle.px_tree.specs.declared.typed_values.Comparing.{Comparing}
use Rattle.px_tree.specs.declared.typed_values.Comparing.TheVariants as comparing
use Rattle.px_tree.specs.declared.typed_heads.TypedHead.{TypedHead}
use Rattle.px_tree.specs.declared.typed_heads.TypedHead.TheVariants as head
use Rattle.px_walk.specs.Roses.{Roses, rose, none, more}
use Rattle.px_typed_walk.specs.TypedView.{TypedRose, type_of}

-- the part of this number has a value of the type
abbrev pub HasType : List ValueType → ℕ → CType → Type 0
HasType types k t = slice_get types k ≡ Some (type.C t)

-- a right operand: of the type, or of any type as the count of a shift
pub record RightFits (op : BinOp) (t : CType) (types : List ValueType) : Type 0 where
  pub given : CType
  pub has : HasType types 1 given
  pub same : IsFalse (is_shift op) → given ≡ t

abbrev pub FineLocal : List ValueType → ℕ → ValueType → Type 0
FineLocal locals slot (type.C t) = slice_get locals slot ≡ Some (type.C t)
FineLocal locals slot type.Object = ⊥
FineLocal locals slot (type.View t) = ⊥
FineLocal locals slot type.Void = ⊥

pub record FromNumber (types : List ValueType) : Type 0 where
  pub given : CType
  pub has : HasType types 0 given

abbrev pub FineConversion : Conversion → List ValueType → Type 0
FineConversion (conversion.ToC t) types = FromNumber types
FineConversion (conversion.ToObject t) types = ⊥
FineConversion (conversion.FromObject t) types = ⊥
FineConversion conversion.Truth types = ⊥
FineConversion (conversion.ViewOfObject t) types = ⊥
FineConversion (conversion.ViewOfView t) types = ⊥

abbrev pub FineCast : ValueType → List ValueType → Type 0
FineCast (type.C t) types = HasType types 0 t
FineCast type.Object types = ⊥
FineCast (type.View t) types = ⊥
FineCast type.Void types = ⊥

abbrev pub FineComparison : Comparing → List ValueType → Type 0
FineComparison (comparing.C op t) types = HasType types 0 t × HasType types 1 t
FineComparison (comparing.Objects op) types = ⊥
FineComparison comparing.In types = ⊥
FineComparison comparing.NotIn types = ⊥
FineComparison comparing.Is types = ⊥
FineComparison comparing.IsNot types = ⊥

-- the value at hand
abbrev pub FineGiven : Option CType → ValueType → Type 0
FineGiven at_hand (type.C t) = at_hand ≡ Some t
FineGiven at_hand type.Object = ⊥
FineGiven at_hand (type.View t) = ⊥
FineGiven at_hand type.Void = ⊥

abbrev pub FineSteps : ValueType → Type 0
FineSteps (type.C t) = Unit {0}
FineSteps type.Object = ⊥
FineSteps (type.View t) = ⊥
FineSteps type.Void = ⊥

-- by the types of variables, that of the value at hand, if there is one, and those of the parts
abbrev pub FineHead : List ValueType → Option CType → TypedHead → List ValueType → Type 0
FineHead locals at_hand (head.Literal t n) types = IsValueOf t n
FineHead locals at_hand (head.Sizeof t) types = Unit {0}
FineHead locals at_hand (head.Local slot t) types = FineLocal locals slot t
FineHead locals at_hand (head.Given t) types = FineGiven at_hand t
FineHead locals at_hand (head.Converted asked) types = FineConversion asked types
FineHead locals at_hand (head.Cast t) types = FineCast t types
FineHead locals at_hand (head.Steps t) types = FineSteps t
FineHead locals at_hand (head.Unary op t) types = (t ≢ Bint) × HasType types 0 t
FineHead locals at_hand (head.Binary op t truncates) types = (t ≢ Bint) × (HasType types 0 t × RightFits op t types)
FineHead locals at_hand (head.Compare how) types = FineComparison how types
FineHead locals at_hand (head.Abs t) types = (t ≢ Bint) × HasType types 0 t
FineHead locals at_hand _ types = ⊥

-- what is asked of the parts: of steps something else
abbrev pub FineParts : TypedHead → Type 0 → (CType → Type 0) → Type 0
FineParts (head.Steps (type.C t)) plain steps = steps t
FineParts _ plain steps = plain

abbrev pub types_of : Roses TypedHead → List ValueType
types_of none = []
types_of (more tree trees) = type_of tree ∷ types_of trees

-- A value at hand is read in the first part alone, before another value takes its register. Each step has that of the one before at hand.
abbrev mutual
  pub IsFine : List ValueType → Option CType → TypedRose → Type 0
  IsFine locals at_hand (rose head number at parts) =
      FineHead locals at_hand head (types_of parts) × FineParts head (AreFine locals at_hand parts) (λ t. AreSteps locals at_hand t parts)

  pub AreFine : List ValueType → Option CType → Roses TypedHead → Type 0
  AreFine locals at_hand none = Unit {0}
  AreFine locals at_hand (more tree trees) = IsFine locals at_hand tree × AreFine locals None trees

  pub AreSteps : List ValueType → Option CType → CType → Roses TypedHead → Type 0
  AreSteps locals at_hand t none = ⊥
  AreSteps locals at_hand t (more tree none) = IsFine locals at_hand tree × (type_of tree ≡ type.C t)
  AreSteps locals at_hand t (more tree (more other trees)) =
      (u : CType) × ((IsFine locals at_hand tree × (type_of tree ≡ type.C u)) × AreSteps locals (Some u) t (more other trees))
