-- A statement without a place that doesn't fit is fine.
use Rattle.std.proofs.Common.{◌≡◌, Bool, true, false, ℕ, suc, ◌≤◌, List, length, slice_get, Option, Some, None, refl, ap, sym, subst, arith}
use Rattle.std.specs.Prelude.{◌&&◌, if◌then◌else◌}
use Rattle.std.proofs.lemmas.Bool.{false≢true, true≢false}
use Rattle.std.proofs.lemmas.Option.{none-some}
use Rattle.px_base.specs.declared.refusals.Span.{Span}
use Rattle.px_base.specs.declared.c_types.CType.{CType}
use Rattle.px_base.specs.declared.objects.Builtin.TheVariants as builtin
use Rattle.px_base.specs.declared.objects.Constant.TheVariants as constant
use Rattle.px_tree.specs.declared.typed_values.ValueType.{ValueType}
use Rattle.px_tree.specs.declared.typed_values.ValueType.TheVariants as type
use Rattle.px_tree.specs.declared.typed_values.Conversion.TheVariants as conversion
use Rattle.px_tree.specs.declared.typed_heads.TypedHead.{TypedHead}
use Rattle.px_tree.specs.declared.typed_heads.TypedHead.TheVariants as head
use Rattle.px_walk.specs.Roses.{Roses, rose, none, more, listed}
use Rattle.px_typed_walk.specs.TypedView.{TypedRose, type_of}
use Rattle.px_operators.proofs.ConversionLaws.{same_c}
use Rattle.px_stmtgen.specs.StatementCode.{count_of}
use Rattle.px_stmtgen.specs.Sizes.{objects, objects_below, result_objects}
use Rattle.px_code_laws.specs.Fine.{types_of}
use Rattle.px_code_laws.specs.FineStatements.{Surrounding, FineBoxed, FineArgument, FineArguments, FineResult, FineCall, FineNumber, FineAlone, FineSet, FineTarget, FineExpression, FineAssign, FineAugmentTo, FineAugment, FineDeclarator, FineEnd, FineReturned, FineReturn, FineStatementBy, IsFineStatement, AreFineStatements}
use Rattle.px_compile.specs.Fits.{has_type, tree_fits}
use Rattle.px_compile.specs.FitStatements.{one_part, two_parts, boxed_fits, argument_fits, arguments_fit, gives_type, is_callee, call_fits, alone_by, alone_fits, expression_fits, number_fits, variable_fits, set_fits, target_fits, assign_fits, step_fits, augmented_fits, augment_fits, declarator_fits, end_fits, return_fits, leaf_fits, is_group, first_there, placed, unfit, unfit_among}
use Rattle.px_compile.proofs.FineFits.{left_of, right_of, c_there, some_is, fine_tree, fine_parts}

-- ---- what is at hand of the surrounding

-- It has registers for the objects of the end, the lock is held, and None stands at its place where it stands among the constants.
pub record Serves (c : Surrounding) (none_there : Bool) : Type 0 where
  pub end : result_objects c.gives ≤ c.objects
  pub locked : c.locked ≡ true
  pub none : none_there ≡ true → slice_get c.constants c.none_at ≡ Some constant.None

-- ---- print

fine_boxed : (locals : List ValueType) (h : TypedHead) (parts : Roses TypedHead) → boxed_fits locals h parts ≡ true → FineBoxed locals h parts
unfolding boxed_fits
fine_boxed locals (head.Literal x y) parts is = absurd (false≢true is)
fine_boxed locals (head.Sizeof x) parts is = absurd (false≢true is)
fine_boxed locals (head.Constant x) parts is = absurd (false≢true is)
fine_boxed locals (head.Local x y) parts is = absurd (false≢true is)
fine_boxed locals (head.ModuleName x) parts is = absurd (false≢true is)
fine_boxed locals (head.Given x) parts is = absurd (false≢true is)
fine_boxed locals (head.Kept x) parts is = absurd (false≢true is)
fine_boxed locals (head.Converted (conversion.ToC x)) parts is = absurd (false≢true is)
fine_boxed locals (head.Converted (conversion.ToObject x)) parts is = (c_there (slice_get (types_of parts) 0) x (left_of _ _ is), fine_parts locals None parts (right_of (has_type (types_of parts) 0 x) _ is))
fine_boxed locals (head.Converted (conversion.FromObject x)) parts is = absurd (false≢true is)
fine_boxed locals (head.Converted conversion.Truth) parts is = absurd (false≢true is)
fine_boxed locals (head.Converted (conversion.ViewOfObject x)) parts is = absurd (false≢true is)
fine_boxed locals (head.Converted (conversion.ViewOfView x)) parts is = absurd (false≢true is)
fine_boxed locals (head.Cast x) parts is = absurd (false≢true is)
fine_boxed locals (head.Steps x) parts is = absurd (false≢true is)
fine_boxed locals (head.Unary x y) parts is = absurd (false≢true is)
fine_boxed locals (head.Binary x y z) parts is = absurd (false≢true is)
fine_boxed locals (head.Compare x) parts is = absurd (false≢true is)
fine_boxed locals head.Comparisons parts is = absurd (false≢true is)
fine_boxed locals head.Not parts is = absurd (false≢true is)
fine_boxed locals (head.And x) parts is = absurd (false≢true is)
fine_boxed locals (head.Or x) parts is = absurd (false≢true is)
fine_boxed locals (head.Conditional x) parts is = absurd (false≢true is)
fine_boxed locals (head.Call x y) parts is = absurd (false≢true is)
fine_boxed locals (head.Abs x) parts is = absurd (false≢true is)
fine_boxed locals (head.Min x) parts is = absurd (false≢true is)
fine_boxed locals (head.Max x) parts is = absurd (false≢true is)
fine_boxed locals head.ThreadId parts is = absurd (false≢true is)
fine_boxed locals (head.ObjectUnary x) parts is = absurd (false≢true is)
fine_boxed locals (head.ObjectBinary x) parts is = absurd (false≢true is)
fine_boxed locals head.Tuple parts is = absurd (false≢true is)
fine_boxed locals head.List parts is = absurd (false≢true is)
fine_boxed locals head.Dict parts is = absurd (false≢true is)
fine_boxed locals head.Item parts is = absurd (false≢true is)
fine_boxed locals (head.Part x y z) parts is = absurd (false≢true is)
fine_boxed locals (head.Method x) parts is = absurd (false≢true is)
fine_boxed locals (head.Builtin x) parts is = absurd (false≢true is)
fine_boxed locals (head.Element x y) parts is = absurd (false≢true is)
fine_boxed locals (head.ViewPart x y) parts is = absurd (false≢true is)
fine_boxed locals head.Index parts is = absurd (false≢true is)
fine_boxed locals (head.Slice x y z) parts is = absurd (false≢true is)
fine_boxed locals head.NewAxis parts is = absurd (false≢true is)
fine_boxed locals head.Ellipsis parts is = absurd (false≢true is)
fine_boxed locals (head.Transposed x) parts is = absurd (false≢true is)
fine_boxed locals (head.Copied x) parts is = absurd (false≢true is)
fine_boxed locals head.Length parts is = absurd (false≢true is)
fine_boxed locals (head.Extent x) parts is = absurd (false≢true is)
fine_boxed locals head.Array parts is = absurd (false≢true is)
fine_boxed locals (head.Keyword x) parts is = absurd (false≢true is)
fine_boxed locals head.Expression parts is = absurd (false≢true is)
fine_boxed locals head.Assign parts is = absurd (false≢true is)
fine_boxed locals head.AssignEach parts is = absurd (false≢true is)
fine_boxed locals head.Unpack parts is = absurd (false≢true is)
fine_boxed locals (head.Augment x) parts is = absurd (false≢true is)
fine_boxed locals head.Declare parts is = absurd (false≢true is)
fine_boxed locals (head.Declarator x y) parts is = absurd (false≢true is)
fine_boxed locals head.Pass parts is = absurd (false≢true is)
fine_boxed locals head.Break parts is = absurd (false≢true is)
fine_boxed locals head.Continue parts is = absurd (false≢true is)
fine_boxed locals head.Return parts is = absurd (false≢true is)
fine_boxed locals (head.Raise x) parts is = absurd (false≢true is)
fine_boxed locals head.Reraise parts is = absurd (false≢true is)
fine_boxed locals (head.Try x y z) parts is = absurd (false≢true is)
fine_boxed locals head.Block parts is = absurd (false≢true is)
fine_boxed locals (head.Handler x y) parts is = absurd (false≢true is)
fine_boxed locals (head.Catches x) parts is = absurd (false≢true is)
fine_boxed locals head.CatchesAll parts is = absurd (false≢true is)
fine_boxed locals head.Global parts is = absurd (false≢true is)
fine_boxed locals (head.If x y) parts is = absurd (false≢true is)
fine_boxed locals head.Arm parts is = absurd (false≢true is)
fine_boxed locals head.While parts is = absurd (false≢true is)
fine_boxed locals (head.Range x) parts is = absurd (false≢true is)
fine_boxed locals head.Over parts is = absurd (false≢true is)
fine_boxed locals (head.Parallel x y z) parts is = absurd (false≢true is)
fine_boxed locals head.ChunkSize parts is = absurd (false≢true is)
fine_boxed locals head.TeamSize parts is = absurd (false≢true is)
fine_boxed locals head.WithGil parts is = absurd (false≢true is)
fine_boxed locals head.WithNogil parts is = absurd (false≢true is)
fine_boxed locals (head.ParallelBlock x) parts is = absurd (false≢true is)

fine_argument : (locals : List ValueType) (tree : TypedRose) → argument_fits locals tree ≡ true → FineArgument locals tree
fine_argument locals (rose h number at parts) is = fine_boxed locals h parts is

fine_arguments : (locals : List ValueType) (parts : Roses TypedHead) → arguments_fit locals parts ≡ true → FineArguments locals parts
fine_arguments locals none is = tt
fine_arguments locals (more tree trees) is =
    (fine_argument locals tree (left_of _ _ is), fine_arguments locals trees (right_of (argument_fits locals tree) _ is))

counted : (parts : Roses TypedHead) → count_of parts ≡ length (listed parts)
counted none = refl
counted (more tree trees) = ap suc (counted trees)

-- ---- calls

same_type : (u t : ValueType) → gives_type u t ≡ true → u ≡ t
same_type (type.C u) (type.C t) is = ap type.C (same_c u t is)
same_type (type.C u) type.Object is = absurd (false≢true is)
same_type (type.C u) (type.View t) is = absurd (false≢true is)
same_type (type.C u) type.Void is = absurd (false≢true is)
same_type type.Object (type.C t) is = absurd (false≢true is)
same_type type.Object type.Object is = refl
same_type type.Object (type.View t) is = absurd (false≢true is)
same_type type.Object type.Void is = absurd (false≢true is)
same_type (type.View u) (type.C t) is = absurd (false≢true is)
same_type (type.View u) type.Object is = absurd (false≢true is)
same_type (type.View u) (type.View t) is = absurd (false≢true is)
same_type (type.View u) type.Void is = absurd (false≢true is)
same_type type.Void (type.C t) is = absurd (false≢true is)
same_type type.Void type.Object is = absurd (false≢true is)
same_type type.Void (type.View t) is = absurd (false≢true is)
same_type type.Void type.Void is = refl

callee_there : (callee : Option (Option ValueType)) (t : ValueType) → is_callee callee t ≡ true → callee ≡ Some (Some t)
callee_there None t is = absurd (false≢true is)
callee_there (Some None) t is = absurd (false≢true is)
callee_there (Some (Some u)) t is = ap (λ v. Some (Some v)) (same_type u t is)

no_view : (callee : Option (Option ValueType)) (t : ValueType) → is_callee callee t ≡ true → (c : Surrounding) → result_objects t ≤ c.objects
    → c.locked ≡ true → FineResult c t
no_view callee (type.C t) is c room locked = tt
no_view callee type.Object is c room locked = (room, locked)
no_view None (type.View t) is c room locked = absurd (false≢true is)
no_view (Some None) (type.View t) is c room locked = absurd (false≢true is)
no_view (Some (Some (type.C u))) (type.View t) is c room locked = absurd (false≢true is)
no_view (Some (Some type.Object)) (type.View t) is c room locked = absurd (false≢true is)
no_view (Some (Some (type.View u))) (type.View t) is c room locked = absurd (false≢true is)
no_view (Some (Some type.Void)) (type.View t) is c room locked = absurd (false≢true is)
no_view callee type.Void is c room locked = tt

fine_call : (c : Surrounding) (function : ℕ) (t : ValueType) (parts : Roses TypedHead) → call_fits c.callees function t parts ≡ true
    → result_objects t ≤ c.objects → c.locked ≡ true → FineCall c function t parts
fine_call c function t none is room locked =
    (callee_there (slice_get c.callees function) t is, no_view (slice_get c.callees function) t is c room locked)
fine_call c function t (more tree trees) is room locked = absurd (false≢true is)

-- ---- what stands for its own

fine_alone : (c : Surrounding) (tree : TypedRose) → c.locked ≡ true → objects tree ≤ c.objects → alone_fits c.locals c.callees tree ≡ true → FineAlone c tree
unfolding alone_by
fine_alone c (rose (head.Literal x y) number at parts) locked room is = fine_tree c.locals None (rose (head.Literal x y) number at parts) is
fine_alone c (rose (head.Sizeof x) number at parts) locked room is = fine_tree c.locals None (rose (head.Sizeof x) number at parts) is
fine_alone c (rose (head.Constant x) number at parts) locked room is = fine_tree c.locals None (rose (head.Constant x) number at parts) is
fine_alone c (rose (head.Local x y) number at parts) locked room is = fine_tree c.locals None (rose (head.Local x y) number at parts) is
fine_alone c (rose (head.ModuleName x) number at parts) locked room is = fine_tree c.locals None (rose (head.ModuleName x) number at parts) is
fine_alone c (rose (head.Given x) number at parts) locked room is = fine_tree c.locals None (rose (head.Given x) number at parts) is
fine_alone c (rose (head.Kept x) number at parts) locked room is = fine_tree c.locals None (rose (head.Kept x) number at parts) is
fine_alone c (rose (head.Converted x) number at parts) locked room is = fine_tree c.locals None (rose (head.Converted x) number at parts) is
fine_alone c (rose (head.Cast x) number at parts) locked room is = fine_tree c.locals None (rose (head.Cast x) number at parts) is
fine_alone c (rose (head.Steps x) number at parts) locked room is = fine_tree c.locals None (rose (head.Steps x) number at parts) is
fine_alone c (rose (head.Unary x y) number at parts) locked room is = fine_tree c.locals None (rose (head.Unary x y) number at parts) is
fine_alone c (rose (head.Binary x y z) number at parts) locked room is = fine_tree c.locals None (rose (head.Binary x y z) number at parts) is
fine_alone c (rose (head.Compare x) number at parts) locked room is = fine_tree c.locals None (rose (head.Compare x) number at parts) is
fine_alone c (rose head.Comparisons number at parts) locked room is = fine_tree c.locals None (rose head.Comparisons number at parts) is
fine_alone c (rose head.Not number at parts) locked room is = fine_tree c.locals None (rose head.Not number at parts) is
fine_alone c (rose (head.And x) number at parts) locked room is = fine_tree c.locals None (rose (head.And x) number at parts) is
fine_alone c (rose (head.Or x) number at parts) locked room is = fine_tree c.locals None (rose (head.Or x) number at parts) is
fine_alone c (rose (head.Conditional x) number at parts) locked room is = fine_tree c.locals None (rose (head.Conditional x) number at parts) is
fine_alone c (rose (head.Call function t) number at parts) locked room is = fine_call c function t parts is (omega (arith, room)) locked
fine_alone c (rose (head.Abs x) number at parts) locked room is = fine_tree c.locals None (rose (head.Abs x) number at parts) is
fine_alone c (rose (head.Min x) number at parts) locked room is = fine_tree c.locals None (rose (head.Min x) number at parts) is
fine_alone c (rose (head.Max x) number at parts) locked room is = fine_tree c.locals None (rose (head.Max x) number at parts) is
fine_alone c (rose head.ThreadId number at parts) locked room is = fine_tree c.locals None (rose head.ThreadId number at parts) is
fine_alone c (rose (head.ObjectUnary x) number at parts) locked room is = fine_tree c.locals None (rose (head.ObjectUnary x) number at parts) is
fine_alone c (rose (head.ObjectBinary x) number at parts) locked room is = fine_tree c.locals None (rose (head.ObjectBinary x) number at parts) is
fine_alone c (rose head.Tuple number at parts) locked room is = fine_tree c.locals None (rose head.Tuple number at parts) is
fine_alone c (rose head.List number at parts) locked room is = fine_tree c.locals None (rose head.List number at parts) is
fine_alone c (rose head.Dict number at parts) locked room is = fine_tree c.locals None (rose head.Dict number at parts) is
fine_alone c (rose head.Item number at parts) locked room is = fine_tree c.locals None (rose head.Item number at parts) is
fine_alone c (rose (head.Part x y z) number at parts) locked room is = fine_tree c.locals None (rose (head.Part x y z) number at parts) is
fine_alone c (rose (head.Method x) number at parts) locked room is = fine_tree c.locals None (rose (head.Method x) number at parts) is
fine_alone c (rose (head.Builtin builtin.Print) number at parts) locked room is =
    (locked, (subst (λ n. n ≤ c.objects) (sym (counted parts)) (omega (arith, room)), fine_arguments c.locals parts is))
fine_alone c (rose (head.Builtin builtin.Input) number at parts) locked room is = fine_tree c.locals None (rose (head.Builtin builtin.Input) number at parts) is
fine_alone c (rose (head.Builtin builtin.Len) number at parts) locked room is = fine_tree c.locals None (rose (head.Builtin builtin.Len) number at parts) is
fine_alone c (rose (head.Builtin builtin.Int) number at parts) locked room is = fine_tree c.locals None (rose (head.Builtin builtin.Int) number at parts) is
fine_alone c (rose (head.Builtin builtin.Str) number at parts) locked room is = fine_tree c.locals None (rose (head.Builtin builtin.Str) number at parts) is
fine_alone c (rose (head.Builtin builtin.Repr) number at parts) locked room is = fine_tree c.locals None (rose (head.Builtin builtin.Repr) number at parts) is
fine_alone c (rose (head.Builtin builtin.Bool) number at parts) locked room is = fine_tree c.locals None (rose (head.Builtin builtin.Bool) number at parts) is
fine_alone c (rose (head.Builtin builtin.List) number at parts) locked room is = fine_tree c.locals None (rose (head.Builtin builtin.List) number at parts) is
fine_alone c (rose (head.Builtin builtin.Tuple) number at parts) locked room is = fine_tree c.locals None (rose (head.Builtin builtin.Tuple) number at parts) is
fine_alone c (rose (head.Builtin builtin.Abs) number at parts) locked room is = fine_tree c.locals None (rose (head.Builtin builtin.Abs) number at parts) is
fine_alone c (rose (head.Builtin builtin.Min) number at parts) locked room is = fine_tree c.locals None (rose (head.Builtin builtin.Min) number at parts) is
fine_alone c (rose (head.Builtin builtin.Max) number at parts) locked room is = fine_tree c.locals None (rose (head.Builtin builtin.Max) number at parts) is
fine_alone c (rose (head.Builtin builtin.Range) number at parts) locked room is = fine_tree c.locals None (rose (head.Builtin builtin.Range) number at parts) is
fine_alone c (rose (head.Element x y) number at parts) locked room is = fine_tree c.locals None (rose (head.Element x y) number at parts) is
fine_alone c (rose (head.ViewPart x y) number at parts) locked room is = fine_tree c.locals None (rose (head.ViewPart x y) number at parts) is
fine_alone c (rose head.Index number at parts) locked room is = fine_tree c.locals None (rose head.Index number at parts) is
fine_alone c (rose (head.Slice x y z) number at parts) locked room is = fine_tree c.locals None (rose (head.Slice x y z) number at parts) is
fine_alone c (rose head.NewAxis number at parts) locked room is = fine_tree c.locals None (rose head.NewAxis number at parts) is
fine_alone c (rose head.Ellipsis number at parts) locked room is = fine_tree c.locals None (rose head.Ellipsis number at parts) is
fine_alone c (rose (head.Transposed x) number at parts) locked room is = fine_tree c.locals None (rose (head.Transposed x) number at parts) is
fine_alone c (rose (head.Copied x) number at parts) locked room is = fine_tree c.locals None (rose (head.Copied x) number at parts) is
fine_alone c (rose head.Length number at parts) locked room is = fine_tree c.locals None (rose head.Length number at parts) is
fine_alone c (rose (head.Extent x) number at parts) locked room is = fine_tree c.locals None (rose (head.Extent x) number at parts) is
fine_alone c (rose head.Array number at parts) locked room is = fine_tree c.locals None (rose head.Array number at parts) is
fine_alone c (rose (head.Keyword x) number at parts) locked room is = fine_tree c.locals None (rose (head.Keyword x) number at parts) is
fine_alone c (rose head.Expression number at parts) locked room is = fine_tree c.locals None (rose head.Expression number at parts) is
fine_alone c (rose head.Assign number at parts) locked room is = fine_tree c.locals None (rose head.Assign number at parts) is
fine_alone c (rose head.AssignEach number at parts) locked room is = fine_tree c.locals None (rose head.AssignEach number at parts) is
fine_alone c (rose head.Unpack number at parts) locked room is = fine_tree c.locals None (rose head.Unpack number at parts) is
fine_alone c (rose (head.Augment x) number at parts) locked room is = fine_tree c.locals None (rose (head.Augment x) number at parts) is
fine_alone c (rose head.Declare number at parts) locked room is = fine_tree c.locals None (rose head.Declare number at parts) is
fine_alone c (rose (head.Declarator x y) number at parts) locked room is = fine_tree c.locals None (rose (head.Declarator x y) number at parts) is
fine_alone c (rose head.Pass number at parts) locked room is = fine_tree c.locals None (rose head.Pass number at parts) is
fine_alone c (rose head.Break number at parts) locked room is = fine_tree c.locals None (rose head.Break number at parts) is
fine_alone c (rose head.Continue number at parts) locked room is = fine_tree c.locals None (rose head.Continue number at parts) is
fine_alone c (rose head.Return number at parts) locked room is = fine_tree c.locals None (rose head.Return number at parts) is
fine_alone c (rose (head.Raise x) number at parts) locked room is = fine_tree c.locals None (rose (head.Raise x) number at parts) is
fine_alone c (rose head.Reraise number at parts) locked room is = fine_tree c.locals None (rose head.Reraise number at parts) is
fine_alone c (rose (head.Try x y z) number at parts) locked room is = fine_tree c.locals None (rose (head.Try x y z) number at parts) is
fine_alone c (rose head.Block number at parts) locked room is = fine_tree c.locals None (rose head.Block number at parts) is
fine_alone c (rose (head.Handler x y) number at parts) locked room is = fine_tree c.locals None (rose (head.Handler x y) number at parts) is
fine_alone c (rose (head.Catches x) number at parts) locked room is = fine_tree c.locals None (rose (head.Catches x) number at parts) is
fine_alone c (rose head.CatchesAll number at parts) locked room is = fine_tree c.locals None (rose head.CatchesAll number at parts) is
fine_alone c (rose head.Global number at parts) locked room is = fine_tree c.locals None (rose head.Global number at parts) is
fine_alone c (rose (head.If x y) number at parts) locked room is = fine_tree c.locals None (rose (head.If x y) number at parts) is
fine_alone c (rose head.Arm number at parts) locked room is = fine_tree c.locals None (rose head.Arm number at parts) is
fine_alone c (rose head.While number at parts) locked room is = fine_tree c.locals None (rose head.While number at parts) is
fine_alone c (rose (head.Range x) number at parts) locked room is = fine_tree c.locals None (rose (head.Range x) number at parts) is
fine_alone c (rose head.Over number at parts) locked room is = fine_tree c.locals None (rose head.Over number at parts) is
fine_alone c (rose (head.Parallel x y z) number at parts) locked room is = fine_tree c.locals None (rose (head.Parallel x y z) number at parts) is
fine_alone c (rose head.ChunkSize number at parts) locked room is = fine_tree c.locals None (rose head.ChunkSize number at parts) is
fine_alone c (rose head.TeamSize number at parts) locked room is = fine_tree c.locals None (rose head.TeamSize number at parts) is
fine_alone c (rose head.WithGil number at parts) locked room is = fine_tree c.locals None (rose head.WithGil number at parts) is
fine_alone c (rose head.WithNogil number at parts) locked room is = fine_tree c.locals None (rose head.WithNogil number at parts) is
fine_alone c (rose (head.ParallelBlock x) number at parts) locked room is = fine_tree c.locals None (rose (head.ParallelBlock x) number at parts) is

fine_expression : (c : Surrounding) (parts : Roses TypedHead) → c.locked ≡ true → objects_below parts ≤ c.objects
    → expression_fits c.locals c.callees (one_part parts) ≡ true → FineExpression c parts
fine_expression c none locked room is = absurd (false≢true is)
fine_expression c (more tree none) locked room is = fine_alone c tree locked (omega (arith, room)) is
fine_expression c (more tree (more other trees)) locked room is = absurd (false≢true is)

-- ---- numbers and variables

fine_number : (locals : List ValueType) (t : CType) (tree : TypedRose) → number_fits locals (type.C t) tree ≡ true → FineNumber locals tree t
fine_number locals t tree is = record {
  fine = fine_tree locals None tree (left_of _ _ is);
  typed = some_is (c_there (Some (type_of tree)) t (right_of (tree_fits locals None tree) _ is));
}

fine_set : (c : Surrounding) (slot : ℕ) (t : ValueType) (tree : TypedRose) → set_fits c.locals slot t tree ≡ true → FineSet c slot t tree
fine_set c slot (type.C t) tree is =
    (c_there (slice_get c.locals slot) t (left_of _ _ is), fine_number c.locals t tree (right_of (has_type c.locals slot t) _ is))
fine_set c slot type.Object tree is = absurd (false≢true is)
fine_set c slot (type.View t) tree is = absurd (false≢true is)
fine_set c slot type.Void tree is = absurd (false≢true is)

fine_target : (c : Surrounding) (h : TypedHead) (tree : TypedRose) → target_fits c.locals h tree ≡ true → FineTarget c h tree
unfolding target_fits
fine_target c (head.Literal x y) tree is = absurd (false≢true is)
fine_target c (head.Sizeof x) tree is = absurd (false≢true is)
fine_target c (head.Constant x) tree is = absurd (false≢true is)
fine_target c (head.Local slot t) tree is = fine_set c slot t tree is
fine_target c (head.ModuleName x) tree is = absurd (false≢true is)
fine_target c (head.Given x) tree is = absurd (false≢true is)
fine_target c (head.Kept x) tree is = absurd (false≢true is)
fine_target c (head.Converted x) tree is = absurd (false≢true is)
fine_target c (head.Cast x) tree is = absurd (false≢true is)
fine_target c (head.Steps x) tree is = absurd (false≢true is)
fine_target c (head.Unary x y) tree is = absurd (false≢true is)
fine_target c (head.Binary x y z) tree is = absurd (false≢true is)
fine_target c (head.Compare x) tree is = absurd (false≢true is)
fine_target c head.Comparisons tree is = absurd (false≢true is)
fine_target c head.Not tree is = absurd (false≢true is)
fine_target c (head.And x) tree is = absurd (false≢true is)
fine_target c (head.Or x) tree is = absurd (false≢true is)
fine_target c (head.Conditional x) tree is = absurd (false≢true is)
fine_target c (head.Call x y) tree is = absurd (false≢true is)
fine_target c (head.Abs x) tree is = absurd (false≢true is)
fine_target c (head.Min x) tree is = absurd (false≢true is)
fine_target c (head.Max x) tree is = absurd (false≢true is)
fine_target c head.ThreadId tree is = absurd (false≢true is)
fine_target c (head.ObjectUnary x) tree is = absurd (false≢true is)
fine_target c (head.ObjectBinary x) tree is = absurd (false≢true is)
fine_target c head.Tuple tree is = absurd (false≢true is)
fine_target c head.List tree is = absurd (false≢true is)
fine_target c head.Dict tree is = absurd (false≢true is)
fine_target c head.Item tree is = absurd (false≢true is)
fine_target c (head.Part x y z) tree is = absurd (false≢true is)
fine_target c (head.Method x) tree is = absurd (false≢true is)
fine_target c (head.Builtin x) tree is = absurd (false≢true is)
fine_target c (head.Element x y) tree is = absurd (false≢true is)
fine_target c (head.ViewPart x y) tree is = absurd (false≢true is)
fine_target c head.Index tree is = absurd (false≢true is)
fine_target c (head.Slice x y z) tree is = absurd (false≢true is)
fine_target c head.NewAxis tree is = absurd (false≢true is)
fine_target c head.Ellipsis tree is = absurd (false≢true is)
fine_target c (head.Transposed x) tree is = absurd (false≢true is)
fine_target c (head.Copied x) tree is = absurd (false≢true is)
fine_target c head.Length tree is = absurd (false≢true is)
fine_target c (head.Extent x) tree is = absurd (false≢true is)
fine_target c head.Array tree is = absurd (false≢true is)
fine_target c (head.Keyword x) tree is = absurd (false≢true is)
fine_target c head.Expression tree is = absurd (false≢true is)
fine_target c head.Assign tree is = absurd (false≢true is)
fine_target c head.AssignEach tree is = absurd (false≢true is)
fine_target c head.Unpack tree is = absurd (false≢true is)
fine_target c (head.Augment x) tree is = absurd (false≢true is)
fine_target c head.Declare tree is = absurd (false≢true is)
fine_target c (head.Declarator x y) tree is = absurd (false≢true is)
fine_target c head.Pass tree is = absurd (false≢true is)
fine_target c head.Break tree is = absurd (false≢true is)
fine_target c head.Continue tree is = absurd (false≢true is)
fine_target c head.Return tree is = absurd (false≢true is)
fine_target c (head.Raise x) tree is = absurd (false≢true is)
fine_target c head.Reraise tree is = absurd (false≢true is)
fine_target c (head.Try x y z) tree is = absurd (false≢true is)
fine_target c head.Block tree is = absurd (false≢true is)
fine_target c (head.Handler x y) tree is = absurd (false≢true is)
fine_target c (head.Catches x) tree is = absurd (false≢true is)
fine_target c head.CatchesAll tree is = absurd (false≢true is)
fine_target c head.Global tree is = absurd (false≢true is)
fine_target c (head.If x y) tree is = absurd (false≢true is)
fine_target c head.Arm tree is = absurd (false≢true is)
fine_target c head.While tree is = absurd (false≢true is)
fine_target c (head.Range x) tree is = absurd (false≢true is)
fine_target c head.Over tree is = absurd (false≢true is)
fine_target c (head.Parallel x y z) tree is = absurd (false≢true is)
fine_target c head.ChunkSize tree is = absurd (false≢true is)
fine_target c head.TeamSize tree is = absurd (false≢true is)
fine_target c head.WithGil tree is = absurd (false≢true is)
fine_target c head.WithNogil tree is = absurd (false≢true is)
fine_target c (head.ParallelBlock x) tree is = absurd (false≢true is)

fine_assign : (c : Surrounding) (parts : Roses TypedHead) → assign_fits c.locals (two_parts parts) ≡ true → FineAssign c parts
fine_assign c none is = absurd (false≢true is)
fine_assign c (more tree none) is = absurd (false≢true is)
fine_assign c (more (rose h number at parts) (more tree none)) is = fine_target c h tree is
fine_assign c (more tree (more other (more third trees))) is = absurd (false≢true is)

fine_augmented : (c : Surrounding) (slot : ℕ) (t : ValueType) (target tree : TypedRose)
    → (variable_fits c.locals slot t && (tree_fits c.locals None target && step_fits c.locals t tree)) ≡ true
    → FineAugmentTo c (head.Local slot t) target tree
fine_augmented c slot (type.C t) target tree is =
    let rest = right_of (has_type c.locals slot t) (tree_fits c.locals None target && step_fits c.locals (type.C t) tree) is in
    let last = right_of (tree_fits c.locals None target) (step_fits c.locals (type.C t) tree) rest in
    record {
      local = c_there (slice_get c.locals slot) t (left_of _ _ is);
      target_fine = fine_tree c.locals None target (left_of _ _ rest);
      fine = fine_tree c.locals (Some t) tree (left_of _ _ last);
      typed = some_is (c_there (Some (type_of tree)) t (right_of (tree_fits c.locals (Some t) tree) _ last));
    }
fine_augmented c slot type.Object target tree is = absurd (false≢true is)
fine_augmented c slot (type.View t) target tree is = absurd (false≢true is)
fine_augmented c slot type.Void target tree is = absurd (false≢true is)

fine_augment_to : (c : Surrounding) (h : TypedHead) (target tree : TypedRose) → augmented_fits c.locals h target tree ≡ true → FineAugmentTo c h target tree
unfolding augmented_fits
fine_augment_to c (head.Literal x y) target tree is = absurd (false≢true is)
fine_augment_to c (head.Sizeof x) target tree is = absurd (false≢true is)
fine_augment_to c (head.Constant x) target tree is = absurd (false≢true is)
fine_augment_to c (head.Local slot t) target tree is = fine_augmented c slot t target tree is
fine_augment_to c (head.ModuleName x) target tree is = absurd (false≢true is)
fine_augment_to c (head.Given x) target tree is = absurd (false≢true is)
fine_augment_to c (head.Kept x) target tree is = absurd (false≢true is)
fine_augment_to c (head.Converted x) target tree is = absurd (false≢true is)
fine_augment_to c (head.Cast x) target tree is = absurd (false≢true is)
fine_augment_to c (head.Steps x) target tree is = absurd (false≢true is)
fine_augment_to c (head.Unary x y) target tree is = absurd (false≢true is)
fine_augment_to c (head.Binary x y z) target tree is = absurd (false≢true is)
fine_augment_to c (head.Compare x) target tree is = absurd (false≢true is)
fine_augment_to c head.Comparisons target tree is = absurd (false≢true is)
fine_augment_to c head.Not target tree is = absurd (false≢true is)
fine_augment_to c (head.And x) target tree is = absurd (false≢true is)
fine_augment_to c (head.Or x) target tree is = absurd (false≢true is)
fine_augment_to c (head.Conditional x) target tree is = absurd (false≢true is)
fine_augment_to c (head.Call x y) target tree is = absurd (false≢true is)
fine_augment_to c (head.Abs x) target tree is = absurd (false≢true is)
fine_augment_to c (head.Min x) target tree is = absurd (false≢true is)
fine_augment_to c (head.Max x) target tree is = absurd (false≢true is)
fine_augment_to c head.ThreadId target tree is = absurd (false≢true is)
fine_augment_to c (head.ObjectUnary x) target tree is = absurd (false≢true is)
fine_augment_to c (head.ObjectBinary x) target tree is = absurd (false≢true is)
fine_augment_to c head.Tuple target tree is = absurd (false≢true is)
fine_augment_to c head.List target tree is = absurd (false≢true is)
fine_augment_to c head.Dict target tree is = absurd (false≢true is)
fine_augment_to c head.Item target tree is = absurd (false≢true is)
fine_augment_to c (head.Part x y z) target tree is = absurd (false≢true is)
fine_augment_to c (head.Method x) target tree is = absurd (false≢true is)
fine_augment_to c (head.Builtin x) target tree is = absurd (false≢true is)
fine_augment_to c (head.Element x y) target tree is = absurd (false≢true is)
fine_augment_to c (head.ViewPart x y) target tree is = absurd (false≢true is)
fine_augment_to c head.Index target tree is = absurd (false≢true is)
fine_augment_to c (head.Slice x y z) target tree is = absurd (false≢true is)
fine_augment_to c head.NewAxis target tree is = absurd (false≢true is)
fine_augment_to c head.Ellipsis target tree is = absurd (false≢true is)
fine_augment_to c (head.Transposed x) target tree is = absurd (false≢true is)
fine_augment_to c (head.Copied x) target tree is = absurd (false≢true is)
fine_augment_to c head.Length target tree is = absurd (false≢true is)
fine_augment_to c (head.Extent x) target tree is = absurd (false≢true is)
fine_augment_to c head.Array target tree is = absurd (false≢true is)
fine_augment_to c (head.Keyword x) target tree is = absurd (false≢true is)
fine_augment_to c head.Expression target tree is = absurd (false≢true is)
fine_augment_to c head.Assign target tree is = absurd (false≢true is)
fine_augment_to c head.AssignEach target tree is = absurd (false≢true is)
fine_augment_to c head.Unpack target tree is = absurd (false≢true is)
fine_augment_to c (head.Augment x) target tree is = absurd (false≢true is)
fine_augment_to c head.Declare target tree is = absurd (false≢true is)
fine_augment_to c (head.Declarator x y) target tree is = absurd (false≢true is)
fine_augment_to c head.Pass target tree is = absurd (false≢true is)
fine_augment_to c head.Break target tree is = absurd (false≢true is)
fine_augment_to c head.Continue target tree is = absurd (false≢true is)
fine_augment_to c head.Return target tree is = absurd (false≢true is)
fine_augment_to c (head.Raise x) target tree is = absurd (false≢true is)
fine_augment_to c head.Reraise target tree is = absurd (false≢true is)
fine_augment_to c (head.Try x y z) target tree is = absurd (false≢true is)
fine_augment_to c head.Block target tree is = absurd (false≢true is)
fine_augment_to c (head.Handler x y) target tree is = absurd (false≢true is)
fine_augment_to c (head.Catches x) target tree is = absurd (false≢true is)
fine_augment_to c head.CatchesAll target tree is = absurd (false≢true is)
fine_augment_to c head.Global target tree is = absurd (false≢true is)
fine_augment_to c (head.If x y) target tree is = absurd (false≢true is)
fine_augment_to c head.Arm target tree is = absurd (false≢true is)
fine_augment_to c head.While target tree is = absurd (false≢true is)
fine_augment_to c (head.Range x) target tree is = absurd (false≢true is)
fine_augment_to c head.Over target tree is = absurd (false≢true is)
fine_augment_to c (head.Parallel x y z) target tree is = absurd (false≢true is)
fine_augment_to c head.ChunkSize target tree is = absurd (false≢true is)
fine_augment_to c head.TeamSize target tree is = absurd (false≢true is)
fine_augment_to c head.WithGil target tree is = absurd (false≢true is)
fine_augment_to c head.WithNogil target tree is = absurd (false≢true is)
fine_augment_to c (head.ParallelBlock x) target tree is = absurd (false≢true is)

fine_augment : (c : Surrounding) (parts : Roses TypedHead) → augment_fits c.locals (two_parts parts) ≡ true → FineAugment c parts
fine_augment c none is = absurd (false≢true is)
fine_augment c (more tree none) is = absurd (false≢true is)
fine_augment c (more (rose h number at parts) (more tree none)) is = fine_augment_to c h (rose h number at parts) tree is
fine_augment c (more tree (more other (more third trees))) is = absurd (false≢true is)

fine_declarator : (c : Surrounding) (slot : ℕ) (t : ValueType) (parts : Roses TypedHead) → declarator_fits c.locals slot t parts ≡ true → FineDeclarator c slot t parts
fine_declarator c slot t none is = tt
fine_declarator c slot t (more tree none) is = fine_set c slot t tree is
fine_declarator c slot t (more tree (more other trees)) is = absurd (false≢true is)

pub fine_end : (c : Surrounding) (none_there : Bool) (t : ValueType) → result_objects t ≤ c.objects → Serves c none_there → end_fits none_there t ≡ true → FineEnd c t
fine_end c none_there (type.C t) room serves is = tt
fine_end c none_there type.Object room serves is = (room, serves.none is)
fine_end c none_there (type.View t) room serves is = absurd (false≢true is)
fine_end c none_there type.Void room serves is = tt

fine_returned : (c : Surrounding) (t : ValueType) (tree : TypedRose) → number_fits c.locals t tree ≡ true → FineReturned c t tree
fine_returned c (type.C t) tree is = fine_number c.locals t tree is
fine_returned c type.Object tree is = absurd (false≢true is)
fine_returned c (type.View t) tree is = absurd (false≢true is)
fine_returned c type.Void tree is = absurd (false≢true is)

fine_return : (c : Surrounding) (none_there : Bool) (parts : Roses TypedHead) → Serves c none_there → return_fits c.locals c.gives none_there parts ≡ true → FineReturn c parts
fine_return c none_there none serves is = fine_end c none_there c.gives serves.end serves is
fine_return c none_there (more tree none) serves is = fine_returned c c.gives tree is
fine_return c none_there (more tree (more other trees)) serves is = absurd (false≢true is)

-- ---- statements

fine_leaf : (c : Surrounding) (none_there : Bool) (h : TypedHead) (parts : Roses TypedHead) (inner : Type 0) → Serves c none_there → objects_below parts ≤ c.objects
    → (is_group h ≡ true → inner) → (is_group h ≡ false → leaf_fits c.locals c.gives none_there c.callees h parts ≡ true) → FineStatementBy c h parts inner
unfolding leaf_fits is_group
fine_leaf c none_there (head.Literal x y) parts inner serves room group fits = absurd (false≢true (fits refl))
fine_leaf c none_there (head.Sizeof x) parts inner serves room group fits = absurd (false≢true (fits refl))
fine_leaf c none_there (head.Constant x) parts inner serves room group fits = absurd (false≢true (fits refl))
fine_leaf c none_there (head.Local x y) parts inner serves room group fits = absurd (false≢true (fits refl))
fine_leaf c none_there (head.ModuleName x) parts inner serves room group fits = absurd (false≢true (fits refl))
fine_leaf c none_there (head.Given x) parts inner serves room group fits = absurd (false≢true (fits refl))
fine_leaf c none_there (head.Kept x) parts inner serves room group fits = absurd (false≢true (fits refl))
fine_leaf c none_there (head.Converted x) parts inner serves room group fits = absurd (false≢true (fits refl))
fine_leaf c none_there (head.Cast x) parts inner serves room group fits = absurd (false≢true (fits refl))
fine_leaf c none_there (head.Steps x) parts inner serves room group fits = absurd (false≢true (fits refl))
fine_leaf c none_there (head.Unary x y) parts inner serves room group fits = absurd (false≢true (fits refl))
fine_leaf c none_there (head.Binary x y z) parts inner serves room group fits = absurd (false≢true (fits refl))
fine_leaf c none_there (head.Compare x) parts inner serves room group fits = absurd (false≢true (fits refl))
fine_leaf c none_there head.Comparisons parts inner serves room group fits = absurd (false≢true (fits refl))
fine_leaf c none_there head.Not parts inner serves room group fits = absurd (false≢true (fits refl))
fine_leaf c none_there (head.And x) parts inner serves room group fits = absurd (false≢true (fits refl))
fine_leaf c none_there (head.Or x) parts inner serves room group fits = absurd (false≢true (fits refl))
fine_leaf c none_there (head.Conditional x) parts inner serves room group fits = absurd (false≢true (fits refl))
fine_leaf c none_there (head.Call x y) parts inner serves room group fits = absurd (false≢true (fits refl))
fine_leaf c none_there (head.Abs x) parts inner serves room group fits = absurd (false≢true (fits refl))
fine_leaf c none_there (head.Min x) parts inner serves room group fits = absurd (false≢true (fits refl))
fine_leaf c none_there (head.Max x) parts inner serves room group fits = absurd (false≢true (fits refl))
fine_leaf c none_there head.ThreadId parts inner serves room group fits = absurd (false≢true (fits refl))
fine_leaf c none_there (head.ObjectUnary x) parts inner serves room group fits = absurd (false≢true (fits refl))
fine_leaf c none_there (head.ObjectBinary x) parts inner serves room group fits = absurd (false≢true (fits refl))
fine_leaf c none_there head.Tuple parts inner serves room group fits = absurd (false≢true (fits refl))
fine_leaf c none_there head.List parts inner serves room group fits = absurd (false≢true (fits refl))
fine_leaf c none_there head.Dict parts inner serves room group fits = absurd (false≢true (fits refl))
fine_leaf c none_there head.Item parts inner serves room group fits = absurd (false≢true (fits refl))
fine_leaf c none_there (head.Part x y z) parts inner serves room group fits = absurd (false≢true (fits refl))
fine_leaf c none_there (head.Method x) parts inner serves room group fits = absurd (false≢true (fits refl))
fine_leaf c none_there (head.Builtin x) parts inner serves room group fits = absurd (false≢true (fits refl))
fine_leaf c none_there (head.Element x y) parts inner serves room group fits = absurd (false≢true (fits refl))
fine_leaf c none_there (head.ViewPart x y) parts inner serves room group fits = absurd (false≢true (fits refl))
fine_leaf c none_there head.Index parts inner serves room group fits = absurd (false≢true (fits refl))
fine_leaf c none_there (head.Slice x y z) parts inner serves room group fits = absurd (false≢true (fits refl))
fine_leaf c none_there head.NewAxis parts inner serves room group fits = absurd (false≢true (fits refl))
fine_leaf c none_there head.Ellipsis parts inner serves room group fits = absurd (false≢true (fits refl))
fine_leaf c none_there (head.Transposed x) parts inner serves room group fits = absurd (false≢true (fits refl))
fine_leaf c none_there (head.Copied x) parts inner serves room group fits = absurd (false≢true (fits refl))
fine_leaf c none_there head.Length parts inner serves room group fits = absurd (false≢true (fits refl))
fine_leaf c none_there (head.Extent x) parts inner serves room group fits = absurd (false≢true (fits refl))
fine_leaf c none_there head.Array parts inner serves room group fits = absurd (false≢true (fits refl))
fine_leaf c none_there (head.Keyword x) parts inner serves room group fits = absurd (false≢true (fits refl))
fine_leaf c none_there head.Expression parts inner serves room group fits = fine_expression c parts serves.locked room (fits refl)
fine_leaf c none_there head.Assign parts inner serves room group fits = fine_assign c parts (fits refl)
fine_leaf c none_there head.AssignEach parts inner serves room group fits = absurd (false≢true (fits refl))
fine_leaf c none_there head.Unpack parts inner serves room group fits = absurd (false≢true (fits refl))
fine_leaf c none_there (head.Augment x) parts inner serves room group fits = fine_augment c parts (fits refl)
fine_leaf c none_there head.Declare parts inner serves room group fits = group refl
fine_leaf c none_there (head.Declarator x y) parts inner serves room group fits = fine_declarator c x y parts (fits refl)
fine_leaf c none_there head.Pass parts inner serves room group fits = tt
fine_leaf c none_there head.Break parts inner serves room group fits = absurd (false≢true (fits refl))
fine_leaf c none_there head.Continue parts inner serves room group fits = absurd (false≢true (fits refl))
fine_leaf c none_there head.Return parts inner serves room group fits = fine_return c none_there parts serves (fits refl)
fine_leaf c none_there (head.Raise x) parts inner serves room group fits = absurd (false≢true (fits refl))
fine_leaf c none_there head.Reraise parts inner serves room group fits = absurd (false≢true (fits refl))
fine_leaf c none_there (head.Try x y z) parts inner serves room group fits = absurd (false≢true (fits refl))
fine_leaf c none_there head.Block parts inner serves room group fits = absurd (false≢true (fits refl))
fine_leaf c none_there (head.Handler x y) parts inner serves room group fits = absurd (false≢true (fits refl))
fine_leaf c none_there (head.Catches x) parts inner serves room group fits = absurd (false≢true (fits refl))
fine_leaf c none_there head.CatchesAll parts inner serves room group fits = absurd (false≢true (fits refl))
fine_leaf c none_there head.Global parts inner serves room group fits = tt
fine_leaf c none_there (head.If x y) parts inner serves room group fits = absurd (false≢true (fits refl))
fine_leaf c none_there head.Arm parts inner serves room group fits = absurd (false≢true (fits refl))
fine_leaf c none_there head.While parts inner serves room group fits = absurd (false≢true (fits refl))
fine_leaf c none_there (head.Range x) parts inner serves room group fits = absurd (false≢true (fits refl))
fine_leaf c none_there head.Over parts inner serves room group fits = absurd (false≢true (fits refl))
fine_leaf c none_there (head.Parallel x y z) parts inner serves room group fits = absurd (false≢true (fits refl))
fine_leaf c none_there head.ChunkSize parts inner serves room group fits = absurd (false≢true (fits refl))
fine_leaf c none_there head.TeamSize parts inner serves room group fits = absurd (false≢true (fits refl))
fine_leaf c none_there head.WithGil parts inner serves room group fits = absurd (false≢true (fits refl))
fine_leaf c none_there head.WithNogil parts inner serves room group fits = absurd (false≢true (fits refl))
fine_leaf c none_there (head.ParallelBlock x) parts inner serves room group fits = absurd (false≢true (fits refl))

pub nothing_first : (first other : Option Span) → first_there first other ≡ None → (first ≡ None) × (other ≡ None)
nothing_first None other is = (refl, is)
nothing_first (Some at) other is = (is, cc)

placed_none : (fits : Bool) (at : Span) → placed fits at ≡ None → fits ≡ true
placed_none true at is = refl
placed_none false at is = absurd (none-some _ (sym is))

pub by_group : {A : Type 0} (b : Bool) (first second whole : A) → (if b then first else second) ≡ whole → (b ≡ true → first ≡ whole) × (b ≡ false → second ≡ whole)
by_group true first second whole is = ((λ yes. is), (λ no. absurd (true≢false no)))
by_group false first second whole is = ((λ yes. absurd (false≢true yes)), (λ no. is))

mutual
  pub fine_statement : (c : Surrounding) (none_there : Bool) (tree : TypedRose) → Serves c none_there → objects tree ≤ c.objects
      → unfit c.locals c.gives none_there c.callees tree ≡ None → IsFineStatement c tree
  fine_statement c none_there (rose h number at parts) serves room is =
      let both = by_group (is_group h) (unfit_among c.locals c.gives none_there c.callees parts)
      (placed (leaf_fits c.locals c.gives none_there c.callees h parts) at) None is in
      let below : objects_below parts ≤ c.objects = omega (arith, room) in
      fine_leaf c none_there h parts _ serves below
      (λ yes. fine_statements c none_there parts serves below (both.0 yes))
      (λ no. placed_none _ at (both.1 no))

  pub fine_statements : (c : Surrounding) (none_there : Bool) (parts : Roses TypedHead) → Serves c none_there → objects_below parts ≤ c.objects
      → unfit_among c.locals c.gives none_there c.callees parts ≡ None → AreFineStatements c parts
  fine_statements c none_there none serves room is = tt
  fine_statements c none_there (more tree trees) serves room is =
      let both = nothing_first (unfit c.locals c.gives none_there c.callees tree) (unfit_among c.locals c.gives none_there c.callees trees) is in (
        fine_statement c none_there tree serves (omega (arith, room)) both.0,
        fine_statements c none_there trees serves (omega (arith, room)) both.1,
      )
