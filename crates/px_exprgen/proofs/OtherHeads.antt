-- Heads that take registers, or have code, like most. (This file is written by a script.)
use Rattle.std.proofs.Common.{◌≡◌, ℕ, ℤ, Bool, max, List, [], refl}
use Rattle.px_base.specs.declared.c_types.BinOp.{BinOp}
use Rattle.px_base.specs.declared.c_types.UnOp.{UnOp}
use Rattle.px_base.specs.declared.c_types.CType.{CType}
use Rattle.px_tree.specs.declared.typed_values.ValueType.{ValueType}
use Rattle.px_tree.specs.declared.typed_values.Conversion.{Conversion}
use Rattle.px_tree.specs.declared.typed_values.Comparing.{Comparing}
use Rattle.px_tree.specs.declared.typed_heads.TypedHead.{TypedHead}
use Rattle.px_tree.specs.declared.typed_heads.TypedHead.TheVariants as head
use Rattle.px_exprgen.specs.ExpressionCode.{Emission, code_by, width_by}

pub other_width : (a b : ℕ) (h : TypedHead)
    → ((x0 : ValueType) → h ≡ head.Steps x0 → ⊥)
    → width_by h a b ≡ max 1 a
other_width a b (head.Literal x0 x1) no_Steps = refl
other_width a b (head.Sizeof x0) no_Steps = refl
other_width a b (head.Constant x0) no_Steps = refl
other_width a b (head.Local x0 x1) no_Steps = refl
other_width a b (head.ModuleName x0) no_Steps = refl
other_width a b (head.Given x0) no_Steps = refl
other_width a b (head.Kept x0) no_Steps = refl
other_width a b (head.Converted x0) no_Steps = refl
other_width a b (head.Cast x0) no_Steps = refl
other_width a b (head.Steps x0) no_Steps = absurd (no_Steps x0 refl)
other_width a b (head.Unary x0 x1) no_Steps = refl
other_width a b (head.Binary x0 x1 x2) no_Steps = refl
other_width a b (head.Compare x0) no_Steps = refl
other_width a b head.Comparisons no_Steps = refl
other_width a b head.Not no_Steps = refl
other_width a b (head.And x0) no_Steps = refl
other_width a b (head.Or x0) no_Steps = refl
other_width a b (head.Conditional x0) no_Steps = refl
other_width a b (head.Call x0 x1) no_Steps = refl
other_width a b (head.Abs x0) no_Steps = refl
other_width a b (head.Min x0) no_Steps = refl
other_width a b (head.Max x0) no_Steps = refl
other_width a b head.ThreadId no_Steps = refl
other_width a b (head.ObjectUnary x0) no_Steps = refl
other_width a b (head.ObjectBinary x0) no_Steps = refl
other_width a b head.Tuple no_Steps = refl
other_width a b head.List no_Steps = refl
other_width a b head.Dict no_Steps = refl
other_width a b head.Item no_Steps = refl
other_width a b (head.Part x0 x1 x2) no_Steps = refl
other_width a b (head.Method x0) no_Steps = refl
other_width a b (head.Builtin x0) no_Steps = refl
other_width a b (head.Element x0 x1) no_Steps = refl
other_width a b (head.ViewPart x0 x1) no_Steps = refl
other_width a b head.Index no_Steps = refl
other_width a b (head.Slice x0 x1 x2) no_Steps = refl
other_width a b head.NewAxis no_Steps = refl
other_width a b head.Ellipsis no_Steps = refl
other_width a b (head.Transposed x0) no_Steps = refl
other_width a b (head.Copied x0) no_Steps = refl
other_width a b head.Length no_Steps = refl
other_width a b (head.Extent x0) no_Steps = refl
other_width a b head.Array no_Steps = refl
other_width a b (head.Keyword x0) no_Steps = refl
other_width a b head.Expression no_Steps = refl
other_width a b head.Assign no_Steps = refl
other_width a b head.AssignEach no_Steps = refl
other_width a b head.Unpack no_Steps = refl
other_width a b (head.Augment x0) no_Steps = refl
other_width a b head.Declare no_Steps = refl
other_width a b (head.Declarator x0 x1) no_Steps = refl
other_width a b head.Pass no_Steps = refl
other_width a b head.Break no_Steps = refl
other_width a b head.Continue no_Steps = refl
other_width a b head.Return no_Steps = refl
other_width a b (head.Raise x0) no_Steps = refl
other_width a b head.Reraise no_Steps = refl
other_width a b (head.Try x0 x1 x2) no_Steps = refl
other_width a b head.Block no_Steps = refl
other_width a b (head.Handler x0 x1) no_Steps = refl
other_width a b (head.Catches x0) no_Steps = refl
other_width a b head.CatchesAll no_Steps = refl
other_width a b head.Global no_Steps = refl
other_width a b (head.If x0 x1) no_Steps = refl
other_width a b head.Arm no_Steps = refl
other_width a b head.While no_Steps = refl
other_width a b (head.Range x0) no_Steps = refl
other_width a b head.Over no_Steps = refl
other_width a b (head.Parallel x0 x1 x2) no_Steps = refl
other_width a b head.ChunkSize no_Steps = refl
other_width a b head.TeamSize no_Steps = refl
other_width a b head.WithGil no_Steps = refl
other_width a b head.WithNogil no_Steps = refl
other_width a b (head.ParallelBlock x0) no_Steps = refl

pub other_code : (codes : List Emission) (pc d : ℕ) (h : TypedHead)
    → ((x0 : CType) (x1 : ℤ) → h ≡ head.Literal x0 x1 → ⊥)
    → ((x0 : CType) → h ≡ head.Sizeof x0 → ⊥)
    → ((x0 : ℕ) (x1 : ValueType) → h ≡ head.Local x0 x1 → ⊥)
    → ((x0 : Conversion) → h ≡ head.Converted x0 → ⊥)
    → ((x0 : ValueType) → h ≡ head.Cast x0 → ⊥)
    → ((x0 : ValueType) → h ≡ head.Steps x0 → ⊥)
    → ((x0 : UnOp) (x1 : CType) → h ≡ head.Unary x0 x1 → ⊥)
    → ((x0 : BinOp) (x1 : CType) (x2 : Bool) → h ≡ head.Binary x0 x1 x2 → ⊥)
    → ((x0 : Comparing) → h ≡ head.Compare x0 → ⊥)
    → ((x0 : CType) → h ≡ head.Abs x0 → ⊥)
    → code_by h codes pc d ≡ []
unfolding code_by
other_code codes pc d (head.Literal x0 x1) no_Literal no_Sizeof no_Local no_Converted no_Cast no_Steps no_Unary no_Binary no_Compare no_Abs = absurd (no_Literal x0 x1 refl)
other_code codes pc d (head.Sizeof x0) no_Literal no_Sizeof no_Local no_Converted no_Cast no_Steps no_Unary no_Binary no_Compare no_Abs = absurd (no_Sizeof x0 refl)
other_code codes pc d (head.Constant x0) no_Literal no_Sizeof no_Local no_Converted no_Cast no_Steps no_Unary no_Binary no_Compare no_Abs = refl
other_code codes pc d (head.Local x0 x1) no_Literal no_Sizeof no_Local no_Converted no_Cast no_Steps no_Unary no_Binary no_Compare no_Abs = absurd (no_Local x0 x1 refl)
other_code codes pc d (head.ModuleName x0) no_Literal no_Sizeof no_Local no_Converted no_Cast no_Steps no_Unary no_Binary no_Compare no_Abs = refl
other_code codes pc d (head.Given x0) no_Literal no_Sizeof no_Local no_Converted no_Cast no_Steps no_Unary no_Binary no_Compare no_Abs = refl
other_code codes pc d (head.Kept x0) no_Literal no_Sizeof no_Local no_Converted no_Cast no_Steps no_Unary no_Binary no_Compare no_Abs = refl
other_code codes pc d (head.Converted x0) no_Literal no_Sizeof no_Local no_Converted no_Cast no_Steps no_Unary no_Binary no_Compare no_Abs = absurd (no_Converted x0 refl)
other_code codes pc d (head.Cast x0) no_Literal no_Sizeof no_Local no_Converted no_Cast no_Steps no_Unary no_Binary no_Compare no_Abs = absurd (no_Cast x0 refl)
other_code codes pc d (head.Steps x0) no_Literal no_Sizeof no_Local no_Converted no_Cast no_Steps no_Unary no_Binary no_Compare no_Abs = absurd (no_Steps x0 refl)
other_code codes pc d (head.Unary x0 x1) no_Literal no_Sizeof no_Local no_Converted no_Cast no_Steps no_Unary no_Binary no_Compare no_Abs = absurd (no_Unary x0 x1 refl)
other_code codes pc d (head.Binary x0 x1 x2) no_Literal no_Sizeof no_Local no_Converted no_Cast no_Steps no_Unary no_Binary no_Compare no_Abs = absurd (no_Binary x0 x1 x2 refl)
other_code codes pc d (head.Compare x0) no_Literal no_Sizeof no_Local no_Converted no_Cast no_Steps no_Unary no_Binary no_Compare no_Abs = absurd (no_Compare x0 refl)
other_code codes pc d head.Comparisons no_Literal no_Sizeof no_Local no_Converted no_Cast no_Steps no_Unary no_Binary no_Compare no_Abs = refl
other_code codes pc d head.Not no_Literal no_Sizeof no_Local no_Converted no_Cast no_Steps no_Unary no_Binary no_Compare no_Abs = refl
other_code codes pc d (head.And x0) no_Literal no_Sizeof no_Local no_Converted no_Cast no_Steps no_Unary no_Binary no_Compare no_Abs = refl
other_code codes pc d (head.Or x0) no_Literal no_Sizeof no_Local no_Converted no_Cast no_Steps no_Unary no_Binary no_Compare no_Abs = refl
other_code codes pc d (head.Conditional x0) no_Literal no_Sizeof no_Local no_Converted no_Cast no_Steps no_Unary no_Binary no_Compare no_Abs = refl
other_code codes pc d (head.Call x0 x1) no_Literal no_Sizeof no_Local no_Converted no_Cast no_Steps no_Unary no_Binary no_Compare no_Abs = refl
other_code codes pc d (head.Abs x0) no_Literal no_Sizeof no_Local no_Converted no_Cast no_Steps no_Unary no_Binary no_Compare no_Abs = absurd (no_Abs x0 refl)
other_code codes pc d (head.Min x0) no_Literal no_Sizeof no_Local no_Converted no_Cast no_Steps no_Unary no_Binary no_Compare no_Abs = refl
other_code codes pc d (head.Max x0) no_Literal no_Sizeof no_Local no_Converted no_Cast no_Steps no_Unary no_Binary no_Compare no_Abs = refl
other_code codes pc d head.ThreadId no_Literal no_Sizeof no_Local no_Converted no_Cast no_Steps no_Unary no_Binary no_Compare no_Abs = refl
other_code codes pc d (head.ObjectUnary x0) no_Literal no_Sizeof no_Local no_Converted no_Cast no_Steps no_Unary no_Binary no_Compare no_Abs = refl
other_code codes pc d (head.ObjectBinary x0) no_Literal no_Sizeof no_Local no_Converted no_Cast no_Steps no_Unary no_Binary no_Compare no_Abs = refl
other_code codes pc d head.Tuple no_Literal no_Sizeof no_Local no_Converted no_Cast no_Steps no_Unary no_Binary no_Compare no_Abs = refl
other_code codes pc d head.List no_Literal no_Sizeof no_Local no_Converted no_Cast no_Steps no_Unary no_Binary no_Compare no_Abs = refl
other_code codes pc d head.Dict no_Literal no_Sizeof no_Local no_Converted no_Cast no_Steps no_Unary no_Binary no_Compare no_Abs = refl
other_code codes pc d head.Item no_Literal no_Sizeof no_Local no_Converted no_Cast no_Steps no_Unary no_Binary no_Compare no_Abs = refl
other_code codes pc d (head.Part x0 x1 x2) no_Literal no_Sizeof no_Local no_Converted no_Cast no_Steps no_Unary no_Binary no_Compare no_Abs = refl
other_code codes pc d (head.Method x0) no_Literal no_Sizeof no_Local no_Converted no_Cast no_Steps no_Unary no_Binary no_Compare no_Abs = refl
other_code codes pc d (head.Builtin x0) no_Literal no_Sizeof no_Local no_Converted no_Cast no_Steps no_Unary no_Binary no_Compare no_Abs = refl
other_code codes pc d (head.Element x0 x1) no_Literal no_Sizeof no_Local no_Converted no_Cast no_Steps no_Unary no_Binary no_Compare no_Abs = refl
other_code codes pc d (head.ViewPart x0 x1) no_Literal no_Sizeof no_Local no_Converted no_Cast no_Steps no_Unary no_Binary no_Compare no_Abs = refl
other_code codes pc d head.Index no_Literal no_Sizeof no_Local no_Converted no_Cast no_Steps no_Unary no_Binary no_Compare no_Abs = refl
other_code codes pc d (head.Slice x0 x1 x2) no_Literal no_Sizeof no_Local no_Converted no_Cast no_Steps no_Unary no_Binary no_Compare no_Abs = refl
other_code codes pc d head.NewAxis no_Literal no_Sizeof no_Local no_Converted no_Cast no_Steps no_Unary no_Binary no_Compare no_Abs = refl
other_code codes pc d head.Ellipsis no_Literal no_Sizeof no_Local no_Converted no_Cast no_Steps no_Unary no_Binary no_Compare no_Abs = refl
other_code codes pc d (head.Transposed x0) no_Literal no_Sizeof no_Local no_Converted no_Cast no_Steps no_Unary no_Binary no_Compare no_Abs = refl
other_code codes pc d (head.Copied x0) no_Literal no_Sizeof no_Local no_Converted no_Cast no_Steps no_Unary no_Binary no_Compare no_Abs = refl
other_code codes pc d head.Length no_Literal no_Sizeof no_Local no_Converted no_Cast no_Steps no_Unary no_Binary no_Compare no_Abs = refl
other_code codes pc d (head.Extent x0) no_Literal no_Sizeof no_Local no_Converted no_Cast no_Steps no_Unary no_Binary no_Compare no_Abs = refl
other_code codes pc d head.Array no_Literal no_Sizeof no_Local no_Converted no_Cast no_Steps no_Unary no_Binary no_Compare no_Abs = refl
other_code codes pc d (head.Keyword x0) no_Literal no_Sizeof no_Local no_Converted no_Cast no_Steps no_Unary no_Binary no_Compare no_Abs = refl
other_code codes pc d head.Expression no_Literal no_Sizeof no_Local no_Converted no_Cast no_Steps no_Unary no_Binary no_Compare no_Abs = refl
other_code codes pc d head.Assign no_Literal no_Sizeof no_Local no_Converted no_Cast no_Steps no_Unary no_Binary no_Compare no_Abs = refl
other_code codes pc d head.AssignEach no_Literal no_Sizeof no_Local no_Converted no_Cast no_Steps no_Unary no_Binary no_Compare no_Abs = refl
other_code codes pc d head.Unpack no_Literal no_Sizeof no_Local no_Converted no_Cast no_Steps no_Unary no_Binary no_Compare no_Abs = refl
other_code codes pc d (head.Augment x0) no_Literal no_Sizeof no_Local no_Converted no_Cast no_Steps no_Unary no_Binary no_Compare no_Abs = refl
other_code codes pc d head.Declare no_Literal no_Sizeof no_Local no_Converted no_Cast no_Steps no_Unary no_Binary no_Compare no_Abs = refl
other_code codes pc d (head.Declarator x0 x1) no_Literal no_Sizeof no_Local no_Converted no_Cast no_Steps no_Unary no_Binary no_Compare no_Abs = refl
other_code codes pc d head.Pass no_Literal no_Sizeof no_Local no_Converted no_Cast no_Steps no_Unary no_Binary no_Compare no_Abs = refl
other_code codes pc d head.Break no_Literal no_Sizeof no_Local no_Converted no_Cast no_Steps no_Unary no_Binary no_Compare no_Abs = refl
other_code codes pc d head.Continue no_Literal no_Sizeof no_Local no_Converted no_Cast no_Steps no_Unary no_Binary no_Compare no_Abs = refl
other_code codes pc d head.Return no_Literal no_Sizeof no_Local no_Converted no_Cast no_Steps no_Unary no_Binary no_Compare no_Abs = refl
other_code codes pc d (head.Raise x0) no_Literal no_Sizeof no_Local no_Converted no_Cast no_Steps no_Unary no_Binary no_Compare no_Abs = refl
other_code codes pc d head.Reraise no_Literal no_Sizeof no_Local no_Converted no_Cast no_Steps no_Unary no_Binary no_Compare no_Abs = refl
other_code codes pc d (head.Try x0 x1 x2) no_Literal no_Sizeof no_Local no_Converted no_Cast no_Steps no_Unary no_Binary no_Compare no_Abs = refl
other_code codes pc d head.Block no_Literal no_Sizeof no_Local no_Converted no_Cast no_Steps no_Unary no_Binary no_Compare no_Abs = refl
other_code codes pc d (head.Handler x0 x1) no_Literal no_Sizeof no_Local no_Converted no_Cast no_Steps no_Unary no_Binary no_Compare no_Abs = refl
other_code codes pc d (head.Catches x0) no_Literal no_Sizeof no_Local no_Converted no_Cast no_Steps no_Unary no_Binary no_Compare no_Abs = refl
other_code codes pc d head.CatchesAll no_Literal no_Sizeof no_Local no_Converted no_Cast no_Steps no_Unary no_Binary no_Compare no_Abs = refl
other_code codes pc d head.Global no_Literal no_Sizeof no_Local no_Converted no_Cast no_Steps no_Unary no_Binary no_Compare no_Abs = refl
other_code codes pc d (head.If x0 x1) no_Literal no_Sizeof no_Local no_Converted no_Cast no_Steps no_Unary no_Binary no_Compare no_Abs = refl
other_code codes pc d head.Arm no_Literal no_Sizeof no_Local no_Converted no_Cast no_Steps no_Unary no_Binary no_Compare no_Abs = refl
other_code codes pc d head.While no_Literal no_Sizeof no_Local no_Converted no_Cast no_Steps no_Unary no_Binary no_Compare no_Abs = refl
other_code codes pc d (head.Range x0) no_Literal no_Sizeof no_Local no_Converted no_Cast no_Steps no_Unary no_Binary no_Compare no_Abs = refl
other_code codes pc d head.Over no_Literal no_Sizeof no_Local no_Converted no_Cast no_Steps no_Unary no_Binary no_Compare no_Abs = refl
other_code codes pc d (head.Parallel x0 x1 x2) no_Literal no_Sizeof no_Local no_Converted no_Cast no_Steps no_Unary no_Binary no_Compare no_Abs = refl
other_code codes pc d head.ChunkSize no_Literal no_Sizeof no_Local no_Converted no_Cast no_Steps no_Unary no_Binary no_Compare no_Abs = refl
other_code codes pc d head.TeamSize no_Literal no_Sizeof no_Local no_Converted no_Cast no_Steps no_Unary no_Binary no_Compare no_Abs = refl
other_code codes pc d head.WithGil no_Literal no_Sizeof no_Local no_Converted no_Cast no_Steps no_Unary no_Binary no_Compare no_Abs = refl
other_code codes pc d head.WithNogil no_Literal no_Sizeof no_Local no_Converted no_Cast no_Steps no_Unary no_Binary no_Compare no_Abs = refl
other_code codes pc d (head.ParallelBlock x0) no_Literal no_Sizeof no_Local no_Converted no_Cast no_Steps no_Unary no_Binary no_Compare no_Abs = refl
