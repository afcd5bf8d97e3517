-- An expression that fits is fine.
use Rattle.std.proofs.Common.{◌≡◌, ◌≢◌, Bool, true, false, ℕ, List, slice_get, Option, Some, None, refl, ap, sym, ◌∙◌, arith}
use Rattle.std.specs.Prelude.{◌&&◌, not, ℤ, pos, int_le, ◌≤ℤ◌}
use Rattle.std.proofs.lemmas.Bool.{false≢true}
use Rattle.std.proofs.lemmas.Option.{same_Some}
use Rattle.std.proofs.lemmas.Int.{ints}
use Rattle.px_base.specs.declared.c_types.CType.{CType}
use Rattle.px_base.specs.declared.c_types.CType.TheVariants as c
use Rattle.px_base.specs.declared.c_types.BinOp.{BinOp}
use Rattle.px_base.specs.declared.c_types.BinOp.TheVariants as op
use Rattle.px_ctypes.specs.Types.{IsValueOf, IsInRange, is_in_range, least, greatest}
use Rattle.px_tree.specs.declared.typed_values.ValueType.{ValueType}
use Rattle.px_tree.specs.declared.typed_values.ValueType.TheVariants as type
use Rattle.px_tree.specs.declared.typed_values.Conversion.{Conversion}
use Rattle.px_tree.specs.declared.typed_values.Conversion.TheVariants as conversion
use Rattle.px_tree.specs.declared.typed_values.Comparing.{Comparing}
use Rattle.px_tree.specs.declared.typed_values.Comparing.TheVariants as comparing
use Rattle.px_tree.specs.declared.typed_heads.TypedHead.{TypedHead}
use Rattle.px_tree.specs.declared.typed_heads.TypedHead.TheVariants as head
use Rattle.px_walk.specs.Roses.{Roses, rose, none, more}
use Rattle.px_typed_walk.specs.TypedView.{TypedRose, type_of}
use Rattle.px_operators.specs.Conversions.{is_same_c}
use Rattle.px_operators.proofs.ConversionLaws.{same_c}
use Rattle.px_code_laws.specs.Fine.{types_of, RightFits, FineLocal, FineConversion, FineCast, FineComparison, FineGiven, FineHead, FineParts, IsFine, AreFine, AreSteps}
use Rattle.px_compile.specs.Fits.{is_c_type, is_number, has_type, right_fits, local_fits, conversion_fits, cast_fits, comparison_fits, given_fits, is_value_of, last_type, steps_type_fits, head_fits, c_type_of, are_steps, tree_fits, parts_fit}

pub left_of : (a b : Bool) → (a && b) ≡ true → a ≡ true
left_of true b both = refl
left_of false b both = cc

pub right_of : (a b : Bool) → (a && b) ≡ true → b ≡ true
right_of true b both = both
right_of false b both = cc

-- ---- types

pub c_there : (there : Option ValueType) (t : CType) → is_c_type there t ≡ true → there ≡ Some (type.C t)
c_there None t is = absurd (false≢true is)
c_there (Some (type.C u)) t is = ap (λ v. Some (type.C v)) (same_c u t is)
c_there (Some type.Object) t is = absurd (false≢true is)
c_there (Some (type.View v)) t is = absurd (false≢true is)
c_there (Some type.Void) t is = absurd (false≢true is)

pub some_is : {A : Type 0} {a b : A} → Some a ≡ Some b → a ≡ b
some_is same = same_Some _ _ same

pub record Number (there : Option ValueType) : Type 0 where
  pub given : CType
  pub has : there ≡ Some (type.C given)

pub number_there : (there : Option ValueType) → is_number there ≡ true → Number there
number_there None is = absurd (false≢true is)
number_there (Some (type.C u)) is = record { given = u; has = refl }
number_there (Some type.Object) is = absurd (false≢true is)
number_there (Some (type.View v)) is = absurd (false≢true is)
number_there (Some type.Void) is = absurd (false≢true is)

not_bint : (t : CType) → not (is_same_c t c.Bint) ≡ true → t ≢ c.Bint
not_bint t is same = false≢true (sym (ap (λ u. not (is_same_c u c.Bint)) same) ∙ is)

-- ---- heads

int_at_most : (a b : ℤ) → int_le a b ≡ true → a ≤ℤ b
int_at_most a b is = omega (arith, ints, is)

in_range : (t : CType) (n : ℤ) → is_in_range t n ≡ true → IsInRange t n
in_range t n is = (int_at_most (least t) n (left_of _ _ is), int_at_most n (greatest t) (right_of (int_le (least t) n) _ is))

fine_value : (t : CType) (n : ℤ) → is_value_of t n ≡ true → IsValueOf t n
fine_value c.SChar n is = in_range c.SChar n is
fine_value c.UChar n is = in_range c.UChar n is
fine_value c.Char n is = in_range c.Char n is
fine_value c.Short n is = in_range c.Short n is
fine_value c.UShort n is = in_range c.UShort n is
fine_value c.Int n is = in_range c.Int n is
fine_value c.UInt n is = in_range c.UInt n is
fine_value c.Long n is = in_range c.Long n is
fine_value c.ULong n is = in_range c.ULong n is
fine_value c.LongLong n is = in_range c.LongLong n is
fine_value c.ULongLong n is = in_range c.ULongLong n is
fine_value c.SsizeT n is = in_range c.SsizeT n is
fine_value c.SizeT n is = in_range c.SizeT n is
fine_value c.Bint n is = (int_at_most (pos 0) n (left_of _ _ is), int_at_most n (pos 1) (right_of (int_le (pos 0) n) _ is))

fine_right : (op : BinOp) (t : CType) (types : List ValueType) → right_fits op t types ≡ true → RightFits op t types
fine_right op.Add t types is = record { given = t; has = c_there (slice_get types 1) t is; same = λ no. refl }
fine_right op.Sub t types is = record { given = t; has = c_there (slice_get types 1) t is; same = λ no. refl }
fine_right op.Mul t types is = record { given = t; has = c_there (slice_get types 1) t is; same = λ no. refl }
fine_right op.FloorDiv t types is = record { given = t; has = c_there (slice_get types 1) t is; same = λ no. refl }
fine_right op.Mod t types is = record { given = t; has = c_there (slice_get types 1) t is; same = λ no. refl }
fine_right op.Shl t types is = let there = number_there (slice_get types 1) is in record { given = there.given; has = there.has; same = λ no. absurd (false≢true (sym no)) }
fine_right op.Shr t types is = let there = number_there (slice_get types 1) is in record { given = there.given; has = there.has; same = λ no. absurd (false≢true (sym no)) }
fine_right op.BitAnd t types is = record { given = t; has = c_there (slice_get types 1) t is; same = λ no. refl }
fine_right op.BitOr t types is = record { given = t; has = c_there (slice_get types 1) t is; same = λ no. refl }
fine_right op.BitXor t types is = record { given = t; has = c_there (slice_get types 1) t is; same = λ no. refl }

fine_local : (locals : List ValueType) (slot : ℕ) (t : ValueType) → local_fits locals slot t ≡ true → FineLocal locals slot t
fine_local locals slot (type.C t) is = c_there (slice_get locals slot) t is
fine_local locals slot type.Object is = absurd (false≢true is)
fine_local locals slot (type.View v) is = absurd (false≢true is)
fine_local locals slot type.Void is = absurd (false≢true is)

fine_given : (at_hand : Option CType) (t : ValueType) → given_fits at_hand t ≡ true → FineGiven at_hand t
fine_given (Some u) (type.C t) is = ap Some (same_c u t is)
fine_given (Some u) type.Object is = absurd (false≢true is)
fine_given (Some u) (type.View v) is = absurd (false≢true is)
fine_given (Some u) type.Void is = absurd (false≢true is)
fine_given None (type.C t) is = absurd (false≢true is)
fine_given None type.Object is = absurd (false≢true is)
fine_given None (type.View v) is = absurd (false≢true is)
fine_given None type.Void is = absurd (false≢true is)

fine_conversion : (asked : Conversion) (types : List ValueType) → conversion_fits asked types ≡ true → FineConversion asked types
fine_conversion (conversion.ToC t) types is = let there = number_there (slice_get types 0) is in record { given = there.given; has = there.has }
fine_conversion (conversion.ToObject t) types is = absurd (false≢true is)
fine_conversion (conversion.FromObject t) types is = absurd (false≢true is)
fine_conversion conversion.Truth types is = absurd (false≢true is)
fine_conversion (conversion.ViewOfObject t) types is = absurd (false≢true is)
fine_conversion (conversion.ViewOfView t) types is = absurd (false≢true is)

fine_cast : (t : ValueType) (types : List ValueType) → cast_fits t types ≡ true → FineCast t types
fine_cast (type.C t) types is = c_there (slice_get types 0) t is
fine_cast type.Object types is = absurd (false≢true is)
fine_cast (type.View v) types is = absurd (false≢true is)
fine_cast type.Void types is = absurd (false≢true is)

fine_comparison : (how : Comparing) (types : List ValueType) → comparison_fits how types ≡ true → FineComparison how types
fine_comparison (comparing.C op t) types is = (c_there (slice_get types 0) t (left_of _ _ is), c_there (slice_get types 1) t (right_of (has_type types 0 t) _ is))
fine_comparison (comparing.Objects op) types is = absurd (false≢true is)
fine_comparison comparing.In types is = absurd (false≢true is)
fine_comparison comparing.NotIn types is = absurd (false≢true is)
fine_comparison comparing.Is types is = absurd (false≢true is)
fine_comparison comparing.IsNot types is = absurd (false≢true is)

-- A fine head, whose parts are fine as the head asks: as parts one behind another, or as steps.
abbrev Fine : List ValueType → Option CType → TypedHead → List ValueType → Type 0 → (CType → Type 0) → Type 0
Fine locals at_hand h types plain steps = FineHead locals at_hand h types × FineParts h plain steps

fine_steps : (locals : List ValueType) (at_hand : Option CType) (t : ValueType) (types : List ValueType) (plain : Type 0) (steps : CType → Type 0)
    → steps_type_fits t types ≡ true → ((u : CType) → is_c_type (last_type types) u ≡ true → steps u)
    → Fine locals at_hand (head.Steps t) types plain steps
fine_steps locals at_hand (type.C t) types plain steps is go = (tt, go t is)
fine_steps locals at_hand type.Object types plain steps is go = absurd (false≢true is)
fine_steps locals at_hand (type.View v) types plain steps is go = absurd (false≢true is)
fine_steps locals at_hand type.Void types plain steps is go = absurd (false≢true is)

fine_head : (locals : List ValueType) (at_hand : Option CType) (h : TypedHead) (types : List ValueType) (plain : Type 0) (steps : CType → Type 0)
    → head_fits locals at_hand h types ≡ true → (are_steps h ≡ false → plain)
    → (are_steps h ≡ true → (t : CType) → is_c_type (last_type types) t ≡ true → steps t)
    → Fine locals at_hand h types plain steps
unfolding head_fits are_steps
fine_head locals at_hand (head.Literal x y) types plain steps is go in_steps = (fine_value x y is, go refl)
fine_head locals at_hand (head.Sizeof x) types plain steps is go in_steps = (tt, go refl)
fine_head locals at_hand (head.Constant x) types plain steps is go in_steps = absurd (false≢true is)
fine_head locals at_hand (head.Local x y) types plain steps is go in_steps = (fine_local locals x y is, go refl)
fine_head locals at_hand (head.ModuleName x) types plain steps is go in_steps = absurd (false≢true is)
fine_head locals at_hand (head.Given x) types plain steps is go in_steps = (fine_given at_hand x is, go refl)
fine_head locals at_hand (head.Kept x) types plain steps is go in_steps = absurd (false≢true is)
fine_head locals at_hand (head.Converted x) types plain steps is go in_steps = (fine_conversion x types is, go refl)
fine_head locals at_hand (head.Cast x) types plain steps is go in_steps = (fine_cast x types is, go refl)
fine_head locals at_hand (head.Steps x) types plain steps is go in_steps = fine_steps locals at_hand x types plain steps is (in_steps refl)
fine_head locals at_hand (head.Unary x y) types plain steps is go in_steps = ((not_bint y (left_of _ _ is), c_there (slice_get types 0) y (right_of (not (is_same_c y c.Bint)) _ is)), go refl)
fine_head locals at_hand (head.Binary x y z) types plain steps is go in_steps = let others = right_of (not (is_same_c y c.Bint)) _ is in ((not_bint y (left_of _ _ is), (c_there (slice_get types 0) y (left_of _ _ others), fine_right x y types (right_of (has_type types 0 y) _ others))), go refl)
fine_head locals at_hand (head.Compare x) types plain steps is go in_steps = (fine_comparison x types is, go refl)
fine_head locals at_hand head.Comparisons types plain steps is go in_steps = absurd (false≢true is)
fine_head locals at_hand head.Not types plain steps is go in_steps = absurd (false≢true is)
fine_head locals at_hand (head.And x) types plain steps is go in_steps = absurd (false≢true is)
fine_head locals at_hand (head.Or x) types plain steps is go in_steps = absurd (false≢true is)
fine_head locals at_hand (head.Conditional x) types plain steps is go in_steps = absurd (false≢true is)
fine_head locals at_hand (head.Call x y) types plain steps is go in_steps = absurd (false≢true is)
fine_head locals at_hand (head.Abs x) types plain steps is go in_steps = ((not_bint x (left_of _ _ is), c_there (slice_get types 0) x (right_of (not (is_same_c x c.Bint)) _ is)), go refl)
fine_head locals at_hand (head.Min x) types plain steps is go in_steps = absurd (false≢true is)
fine_head locals at_hand (head.Max x) types plain steps is go in_steps = absurd (false≢true is)
fine_head locals at_hand head.ThreadId types plain steps is go in_steps = absurd (false≢true is)
fine_head locals at_hand (head.ObjectUnary x) types plain steps is go in_steps = absurd (false≢true is)
fine_head locals at_hand (head.ObjectBinary x) types plain steps is go in_steps = absurd (false≢true is)
fine_head locals at_hand head.Tuple types plain steps is go in_steps = absurd (false≢true is)
fine_head locals at_hand head.List types plain steps is go in_steps = absurd (false≢true is)
fine_head locals at_hand head.Dict types plain steps is go in_steps = absurd (false≢true is)
fine_head locals at_hand head.Item types plain steps is go in_steps = absurd (false≢true is)
fine_head locals at_hand (head.Part x y z) types plain steps is go in_steps = absurd (false≢true is)
fine_head locals at_hand (head.Method x) types plain steps is go in_steps = absurd (false≢true is)
fine_head locals at_hand (head.Builtin x) types plain steps is go in_steps = absurd (false≢true is)
fine_head locals at_hand (head.Element x y) types plain steps is go in_steps = absurd (false≢true is)
fine_head locals at_hand (head.ViewPart x y) types plain steps is go in_steps = absurd (false≢true is)
fine_head locals at_hand head.Index types plain steps is go in_steps = absurd (false≢true is)
fine_head locals at_hand (head.Slice x y z) types plain steps is go in_steps = absurd (false≢true is)
fine_head locals at_hand head.NewAxis types plain steps is go in_steps = absurd (false≢true is)
fine_head locals at_hand head.Ellipsis types plain steps is go in_steps = absurd (false≢true is)
fine_head locals at_hand (head.Transposed x) types plain steps is go in_steps = absurd (false≢true is)
fine_head locals at_hand (head.Copied x) types plain steps is go in_steps = absurd (false≢true is)
fine_head locals at_hand head.Length types plain steps is go in_steps = absurd (false≢true is)
fine_head locals at_hand (head.Extent x) types plain steps is go in_steps = absurd (false≢true is)
fine_head locals at_hand head.Array types plain steps is go in_steps = absurd (false≢true is)
fine_head locals at_hand (head.Keyword x) types plain steps is go in_steps = absurd (false≢true is)
fine_head locals at_hand head.Expression types plain steps is go in_steps = absurd (false≢true is)
fine_head locals at_hand head.Assign types plain steps is go in_steps = absurd (false≢true is)
fine_head locals at_hand head.AssignEach types plain steps is go in_steps = absurd (false≢true is)
fine_head locals at_hand head.Unpack types plain steps is go in_steps = absurd (false≢true is)
fine_head locals at_hand (head.Augment x) types plain steps is go in_steps = absurd (false≢true is)
fine_head locals at_hand head.Declare types plain steps is go in_steps = absurd (false≢true is)
fine_head locals at_hand (head.Declarator x y) types plain steps is go in_steps = absurd (false≢true is)
fine_head locals at_hand head.Pass types plain steps is go in_steps = absurd (false≢true is)
fine_head locals at_hand head.Break types plain steps is go in_steps = absurd (false≢true is)
fine_head locals at_hand head.Continue types plain steps is go in_steps = absurd (false≢true is)
fine_head locals at_hand head.Return types plain steps is go in_steps = absurd (false≢true is)
fine_head locals at_hand (head.Raise x) types plain steps is go in_steps = absurd (false≢true is)
fine_head locals at_hand head.Reraise types plain steps is go in_steps = absurd (false≢true is)
fine_head locals at_hand (head.Try x y z) types plain steps is go in_steps = absurd (false≢true is)
fine_head locals at_hand head.Block types plain steps is go in_steps = absurd (false≢true is)
fine_head locals at_hand (head.Handler x y) types plain steps is go in_steps = absurd (false≢true is)
fine_head locals at_hand (head.Catches x) types plain steps is go in_steps = absurd (false≢true is)
fine_head locals at_hand head.CatchesAll types plain steps is go in_steps = absurd (false≢true is)
fine_head locals at_hand head.Global types plain steps is go in_steps = absurd (false≢true is)
fine_head locals at_hand (head.If x y) types plain steps is go in_steps = absurd (false≢true is)
fine_head locals at_hand head.Arm types plain steps is go in_steps = absurd (false≢true is)
fine_head locals at_hand head.While types plain steps is go in_steps = absurd (false≢true is)
fine_head locals at_hand (head.Range x) types plain steps is go in_steps = absurd (false≢true is)
fine_head locals at_hand head.Over types plain steps is go in_steps = absurd (false≢true is)
fine_head locals at_hand (head.Parallel x y z) types plain steps is go in_steps = absurd (false≢true is)
fine_head locals at_hand head.ChunkSize types plain steps is go in_steps = absurd (false≢true is)
fine_head locals at_hand head.TeamSize types plain steps is go in_steps = absurd (false≢true is)
fine_head locals at_hand head.WithGil types plain steps is go in_steps = absurd (false≢true is)
fine_head locals at_hand head.WithNogil types plain steps is go in_steps = absurd (false≢true is)
fine_head locals at_hand (head.ParallelBlock x) types plain steps is go in_steps = absurd (false≢true is)

-- ---- trees

c_type_is : (t : ValueType) (u : CType) → Some t ≡ Some (type.C u) → c_type_of t ≡ Some u
c_type_is t u same = ap c_type_of (some_is same)

mutual
  pub fine_tree : (locals : List ValueType) (at_hand : Option CType) (tree : TypedRose) → tree_fits locals at_hand tree ≡ true → IsFine locals at_hand tree
  fine_tree locals at_hand (rose h number at parts) is =
      let ok = left_of (head_fits locals at_hand h (types_of parts)) _ is in
      let rest = right_of (head_fits locals at_hand h (types_of parts)) (parts_fit locals at_hand (are_steps h) parts) is in
      fine_head locals at_hand h (types_of parts) _ _ ok
      (λ plain. fine_parts locals at_hand parts (sym (ap (λ steps. parts_fit locals at_hand steps parts) plain) ∙ rest))
      (λ in_steps t last. fine_in_steps locals at_hand parts t (sym (ap (λ steps. parts_fit locals at_hand steps parts) in_steps) ∙ rest) last)

  pub fine_parts : (locals : List ValueType) (at_hand : Option CType) (parts : Roses TypedHead) → parts_fit locals at_hand false parts ≡ true
      → AreFine locals at_hand parts
  fine_parts locals at_hand none is = tt
  fine_parts locals at_hand (more tree trees) is = (
    fine_tree locals at_hand tree (left_of (tree_fits locals at_hand tree) _ is),
    fine_parts locals None trees (right_of (tree_fits locals at_hand tree) (parts_fit locals None false trees) is),
  )

  fine_in_steps : (locals : List ValueType) (at_hand : Option CType) (parts : Roses TypedHead) (t : CType) → parts_fit locals at_hand true parts ≡ true
      → is_c_type (last_type (types_of parts)) t ≡ true → AreSteps locals at_hand t parts
  fine_in_steps locals at_hand none t is last = absurd (false≢true last)
  fine_in_steps locals at_hand (more tree none) t is last =
      (fine_tree locals at_hand tree (left_of (tree_fits locals at_hand tree) _ is), some_is (c_there (Some (type_of tree)) t last))
  fine_in_steps locals at_hand (more tree (more other trees)) t is last =
      let others = right_of (tree_fits locals at_hand tree) (is_number (Some (type_of tree)) && parts_fit locals (c_type_of (type_of tree)) true (more other trees)) is in
      let there = number_there (Some (type_of tree)) (left_of (is_number (Some (type_of tree))) _ others) in
      let rest = right_of (is_number (Some (type_of tree))) (parts_fit locals (c_type_of (type_of tree)) true (more other trees)) others in (
        there.given,
        (
          (fine_tree locals at_hand tree (left_of (tree_fits locals at_hand tree) _ is), some_is there.has),
          fine_in_steps locals (Some there.given) (more other trees) t
              (sym (ap (λ hand. parts_fit locals hand true (more other trees)) (c_type_is (type_of tree) there.given there.has)) ∙ rest) last,
        ),
      )
