-- What expressions give, by the typed tree (Python Language Reference 6; ISO C11 6.5). Each form is said by what its parts give.
use Rattle.std.specs.Prelude.{ℕ, zero, suc, ◌/◌, ℤ, pos, unsigned_abs, int_lt, Bool, true, false, if◌then◌else◌, List, [], ◌∷◌, slice_get, Option, Some, None}
use Rattle.px_base.specs.declared.c_types.CType.{CType}
use Rattle.px_base.specs.declared.c_types.BinOp.{BinOp}
use Rattle.px_base.specs.declared.c_types.UnOp.{UnOp}
use Rattle.px_base.specs.declared.c_types.CmpOp.{CmpOp}
use Rattle.px_base.specs.declared.objects.Builtin.{Builtin}
use Rattle.px_base.specs.declared.objects.Builtin.TheVariants as builtin
use Rattle.px_base.specs.declared.objects.Constant.{Constant}
use Rattle.px_base.specs.declared.objects.Constant.TheVariants as constant
use Rattle.px_base.specs.declared.faults.Fault.{Fault}
use Rattle.px_base.specs.declared.faults.Kind.TheVariants.{UnboundLocalError}
use Rattle.px_ctypes.specs.Types.{bits}
use Rattle.px_ctypes.specs.Wrapping.{wrap}
use Rattle.px_ctypes.specs.Operators.{binary_value, unary_value, compare_value, fault_of, is_zero}
use Rattle.px_ctypes.specs.Conversions.{converted}
use Rattle.px_tree.specs.declared.typed_values.ValueType.{ValueType}
use Rattle.px_tree.specs.declared.typed_values.ValueType.TheVariants as value
use Rattle.px_tree.specs.declared.typed_values.Conversion.{Conversion}
use Rattle.px_tree.specs.declared.typed_values.Conversion.TheVariants as conversion
use Rattle.px_tree.specs.declared.typed_values.Comparing.{Comparing}
use Rattle.px_tree.specs.declared.typed_values.Comparing.TheVariants as comparing
use Rattle.px_tree.specs.declared.typed_heads.TypedHead.{TypedHead}
use Rattle.px_tree.specs.declared.typed_heads.TypedHead.TheVariants as head
use Rattle.px_walk.specs.Roses.{Roses, rose, none, more}
use Rattle.px_typed_walk.specs.TypedView.{TypedRose}
use Rattle.px_meaning.specs.Values.{Value, Variable, whole, object, view, nothing, number_in}
use Rattle.px_meaning.specs.States.{State, variable_at, keeping}
use Rattle.px_meaning.specs.Interactions.{Interaction, done, ◌>>=◌}
use Rattle.px_meaning.specs.Ends.{Ends, gives, raised, meaningless, not_built, on_value, on_number, number_or_fault}
use Rattle.px_meaning.specs.Objects.{stepping, new_object, boxed, constant_object, fetched, printed}

-- what calls of functions do, by the function's place among those of the module and its arguments
abbrev pub Calls : Type 0
Calls = ℕ → List Value → State → Interaction (Ends Value)

-- What code hangs on beside its state: what calls do, the constants of the module, and a bound of the turns of its loops. The bound is
-- no less than the turns that are left where the code begins, so no loop comes to it.
pub record Context : Type 0 where
  pub calls : Calls
  pub constants : List Constant
  pub bound : ℕ

-- What a node finds round it: the value that the nearest node gives to the part in which it stands, and the fault that the innermost
-- clause of `try` handles.
pub record Scope : Type 0 where
  pub given : Option Value
  pub handled : Option Fault

abbrev pub outermost : Scope
outermost = record { given = None; handled = None }

abbrev pub giving : Value → Scope → Scope
giving v scope = record scope { given = Some v }

-- what an expression does
abbrev pub Evaluation : Type 0
Evaluation = Scope → State → Interaction (Ends Value)

-- Parts

-- what the part of this number gives
abbrev pub part : List Evaluation → ℕ → Scope → State → Interaction (Ends Value)
part [] k scope s = done meaningless
part (e ∷ es) zero scope s = e scope s
part (e ∷ es) (suc k) scope s = part es k scope s

-- the values of all parts, from the left
abbrev pub each : List Evaluation → Scope → State → Interaction (Ends (List Value))
each [] scope s = done (gives [] s)
each (e ∷ es) scope s =
    e scope s >>= on_value (λ v s1. each es scope s1 >>= on_value (λ values s2. done (gives (v ∷ values) s2)))

-- Variables

abbrev pub value_there : Option Value → State → Ends Value
value_there (Some v) s = gives v s
value_there None s = meaningless

-- an object or a view has to be assigned
abbrev pub assigned_value : Variable → State → Ends Value
assigned_value (Some v) s = gives v s
assigned_value None s = raised (fault_of UnboundLocalError 26) s

abbrev pub local_value : ValueType → Variable → State → Ends Value
local_value (value.C t) variable s = gives (whole (number_in variable)) s
local_value value.Object variable s = assigned_value variable s
local_value (value.View t) variable s = assigned_value variable s
local_value value.Void variable s = meaningless

-- Operators on numbers of C types

abbrev pub of_truth : Bool → ℤ
of_truth true = pos 1
of_truth false = pos 0

abbrev pub unary_of : UnOp → CType → List Evaluation → Evaluation
unary_of op t parts scope s = part parts 0 scope s >>= on_number (λ a s1. done (gives (whole (unary_value op t a)) s1))

abbrev pub binary_of : BinOp → CType → Bool → List Evaluation → Evaluation
binary_of op t truncates parts scope s =
    part parts 0 scope s >>= on_number (λ a s1. part parts 1 scope s1 >>= on_number (λ b s2.
    done (number_or_fault (binary_value op t a b truncates) s2)))

abbrev pub compare_of : CmpOp → List Evaluation → Evaluation
compare_of op parts scope s =
    part parts 0 scope s >>= on_number (λ a s1. part parts 1 scope s1 >>= on_number (λ b s2.
    done (gives (whole (of_truth (compare_value op a b))) s2)))

-- `not`, the operand of which is a truth
abbrev pub not_of : List Evaluation → Evaluation
not_of parts scope s = part parts 0 scope s >>= on_number (λ n s1. done (gives (whole (of_truth (is_zero n))) s1))

abbrev pub abs_of : CType → List Evaluation → Evaluation
abs_of t parts scope s = part parts 0 scope s >>= on_number (λ n s1. done (gives (whole (wrap t (pos (unsigned_abs n)))) s1))

-- the least and the greatest of numbers

abbrev pub lesser : ℤ → ℤ → ℤ
lesser a b = if int_lt b a then b else a

abbrev pub greater : ℤ → ℤ → ℤ
greater a b = if int_lt a b then b else a

-- the one that is chosen of a number and what parts give
abbrev pub extreme_from : (ℤ → ℤ → ℤ) → ℤ → List Evaluation → Evaluation
extreme_from chosen n [] scope s = done (gives (whole n) s)
extreme_from chosen n (e ∷ es) scope s = e scope s >>= on_number (λ m s1. extreme_from chosen (chosen n m) es scope s1)

abbrev pub extreme_of : (ℤ → ℤ → ℤ) → List Evaluation → Evaluation
extreme_of chosen [] scope s = done meaningless
extreme_of chosen (e ∷ es) scope s = e scope s >>= on_number (λ n s1. extreme_from chosen n es scope s1)

-- Several steps, each of which finds the value of the one before

abbrev pub steps_of : List Evaluation → Evaluation
steps_of [] scope s = done meaningless
steps_of (e ∷ []) scope s = e scope s
steps_of (e ∷ next ∷ es) scope s = e scope s >>= on_value (λ v s1. steps_of (next ∷ es) (giving v scope) s1)

-- the operand that the next comparison reads too
abbrev pub kept_of : List Evaluation → Evaluation
kept_of parts scope s = part parts 0 scope s >>= on_value (λ v s1. done (gives v (keeping v s1)))

-- comparisons behind one that doesn't hold aren't made
abbrev pub comparisons_of : List Evaluation → Evaluation
comparisons_of [] scope s = done meaningless
comparisons_of (e ∷ []) scope s = e scope s
comparisons_of (e ∷ next ∷ es) scope s =
    e scope s >>= on_number (λ holds s1.
    if is_zero holds then done (gives (whole (pos 0)) s1)
    else comparisons_of (next ∷ es) (record scope { given = s1.frame.kept }) s1)

-- `and`, `or` and the conditional evaluate no more than they need

abbrev pub on_truth : {B : Type 0} → (State → Interaction (Ends B)) → (State → Interaction (Ends B)) → Value → State → Interaction (Ends B)
on_truth held failed (whole n) s = if is_zero n then failed s else held s
on_truth held failed (object serial) s = not_built
on_truth held failed (view v) s = done meaningless
on_truth held failed nothing s = done meaningless

abbrev pub and_of : List Evaluation → Evaluation
and_of parts scope s =
    part parts 0 scope s >>= on_value (λ v s1. on_truth (λ s2. part parts 1 scope s2) (λ s2. done (gives v s2)) v s1)

abbrev pub or_of : List Evaluation → Evaluation
or_of parts scope s =
    part parts 0 scope s >>= on_value (λ v s1. on_truth (λ s2. done (gives v s2)) (λ s2. part parts 1 scope s2) v s1)

-- the test stands between the two values
abbrev pub conditional_of : List Evaluation → Evaluation
conditional_of parts scope s =
    part parts 1 scope s >>= on_value (on_truth (λ s2. part parts 0 scope s2) (λ s2. part parts 2 scope s2))

-- Conversions

abbrev pub converted_by : Conversion → List Evaluation → Evaluation
converted_by (conversion.ToC t) parts scope s =
    part parts 0 scope s >>= on_number (λ n s1. done (gives (whole (converted t n)) s1))
converted_by (conversion.ToObject t) parts scope s =
    part parts 0 scope s >>= on_number (λ n s1. done (stepping (new_object (boxed t n)) s1))
converted_by (conversion.FromObject t) parts scope s = not_built
converted_by conversion.Truth parts scope s = not_built
converted_by (conversion.ViewOfObject t) parts scope s = not_built
converted_by (conversion.ViewOfView t) parts scope s = not_built

abbrev pub compared_by : Comparing → List Evaluation → Evaluation
compared_by (comparing.C op t) parts scope s = compare_of op parts scope s
compared_by (comparing.Objects op) parts scope s = not_built
compared_by comparing.In parts scope s = not_built
compared_by comparing.NotIn parts scope s = not_built
compared_by comparing.Is parts scope s = not_built
compared_by comparing.IsNot parts scope s = not_built

-- Views. The heads that give a view aren't built, but for a variable of that type, which is its own holder, and the value at hand.

-- a cast that is written
abbrev pub cast_to : ValueType → List Evaluation → Evaluation
cast_to (value.C t) parts scope s = part parts 0 scope s
cast_to value.Object parts scope s = part parts 0 scope s
cast_to (value.View t) parts scope s = not_built
cast_to value.Void parts scope s = done meaningless

-- A call, by the type of the function's result. The arguments become the parameters.
abbrev pub call_of : Calls → ℕ → ValueType → List Evaluation → Evaluation
call_of calls function (value.C t) parts scope s = each parts scope s >>= on_value (calls function)
call_of calls function value.Object parts scope s = each parts scope s >>= on_value (calls function)
call_of calls function (value.View t) parts scope s = not_built
call_of calls function value.Void parts scope s = each parts scope s >>= on_value (calls function)

-- Objects

abbrev pub constant_there : Option Constant → State → Ends Value
constant_there None s = meaningless
constant_there (Some what) s = stepping (new_object (constant_object what)) s

-- the arguments are evaluated, and then they are printed
abbrev pub printing : List Evaluation → Evaluation
printing parts scope s = each parts scope s >>= on_value (λ values s1. done (printed values s1))

-- as a value it is None
abbrev pub print_value : List Evaluation → Evaluation
print_value parts scope s =
    printing parts scope s >>= on_value (λ _ s1. done (stepping (new_object (constant_object constant.None)) s1))

abbrev pub builtin_by : Builtin → List Evaluation → Evaluation
builtin_by builtin.Print parts scope s = print_value parts scope s
builtin_by builtin.Input parts scope s = not_built
builtin_by builtin.Len parts scope s = not_built
builtin_by builtin.Int parts scope s = not_built
builtin_by builtin.Str parts scope s = not_built
builtin_by builtin.Repr parts scope s = not_built
builtin_by builtin.Bool parts scope s = not_built
builtin_by builtin.List parts scope s = not_built
builtin_by builtin.Tuple parts scope s = not_built
builtin_by builtin.Abs parts scope s = not_built
builtin_by builtin.Min parts scope s = not_built
builtin_by builtin.Max parts scope s = not_built
builtin_by builtin.Range parts scope s = not_built

-- An expression by its head and what its parts give.
unfoldable pub eval_by : Context → TypedHead → List Evaluation → Evaluation
eval_by context (head.Literal t n) parts scope s = done (gives (whole n) s)
eval_by context (head.Sizeof t) parts scope s = done (gives (whole (pos (bits t / 8))) s)
eval_by context (head.Constant k) parts scope s = done (constant_there (slice_get context.constants k) s)
eval_by context (head.Local slot t) parts scope s = done (local_value t (variable_at s slot) s)
eval_by context (head.ModuleName name) parts scope s = done (stepping (fetched name) s)
eval_by context (head.Given t) parts scope s = done (value_there scope.given s)
eval_by context (head.Kept t) parts scope s = kept_of parts scope s
eval_by context (head.Converted asked) parts scope s = converted_by asked parts scope s
eval_by context (head.Cast t) parts scope s = cast_to t parts scope s
eval_by context (head.Steps t) parts scope s = steps_of parts scope s
eval_by context (head.Unary op t) parts scope s = unary_of op t parts scope s
eval_by context (head.Binary op t truncates) parts scope s = binary_of op t truncates parts scope s
eval_by context (head.Compare how) parts scope s = compared_by how parts scope s
eval_by context head.Comparisons parts scope s = comparisons_of parts scope s
eval_by context head.Not parts scope s = not_of parts scope s
eval_by context (head.And t) parts scope s = and_of parts scope s
eval_by context (head.Or t) parts scope s = or_of parts scope s
eval_by context (head.Conditional t) parts scope s = conditional_of parts scope s
eval_by context (head.Call function t) parts scope s = call_of context.calls function t parts scope s
eval_by context (head.Abs t) parts scope s = abs_of t parts scope s
eval_by context (head.Min t) parts scope s = extreme_of lesser parts scope s
eval_by context (head.Max t) parts scope s = extreme_of greater parts scope s
eval_by context (head.Builtin what) parts scope s = builtin_by what parts scope s
-- what isn't built
eval_by context head.ThreadId parts scope s = not_built
eval_by context (head.ObjectUnary op) parts scope s = not_built
eval_by context (head.ObjectBinary op) parts scope s = not_built
eval_by context head.Tuple parts scope s = not_built
eval_by context head.List parts scope s = not_built
eval_by context head.Dict parts scope s = not_built
eval_by context head.Item parts scope s = not_built
eval_by context (head.Part has_from has_to has_step) parts scope s = not_built
eval_by context (head.Method method) parts scope s = not_built
eval_by context (head.Element t wraparound) parts scope s = not_built
eval_by context (head.ViewPart t wraparound) parts scope s = not_built
eval_by context (head.Transposed t) parts scope s = not_built
eval_by context (head.Copied t) parts scope s = not_built
eval_by context head.Length parts scope s = not_built
eval_by context (head.Extent axis) parts scope s = not_built
eval_by context head.Array parts scope s = not_built
-- parts of expressions, and statements, have no value
eval_by context head.Index parts scope s = done meaningless
eval_by context (head.Slice has_from has_to has_step) parts scope s = done meaningless
eval_by context head.NewAxis parts scope s = done meaningless
eval_by context head.Ellipsis parts scope s = done meaningless
eval_by context (head.Keyword keyword) parts scope s = done meaningless
eval_by context head.Expression parts scope s = done meaningless
eval_by context head.Assign parts scope s = done meaningless
eval_by context head.AssignEach parts scope s = done meaningless
eval_by context head.Unpack parts scope s = done meaningless
eval_by context (head.Augment op) parts scope s = done meaningless
eval_by context head.Declare parts scope s = done meaningless
eval_by context (head.Declarator slot t) parts scope s = done meaningless
eval_by context head.Pass parts scope s = done meaningless
eval_by context head.Break parts scope s = done meaningless
eval_by context head.Continue parts scope s = done meaningless
eval_by context head.Return parts scope s = done meaningless
eval_by context (head.Raise kind) parts scope s = done meaningless
eval_by context head.Reraise parts scope s = done meaningless
eval_by context (head.Try clauses has_else has_finally) parts scope s = done meaningless
eval_by context head.Block parts scope s = done meaningless
eval_by context (head.Handler kinds assigns) parts scope s = done meaningless
eval_by context (head.Catches kind) parts scope s = done meaningless
eval_by context head.CatchesAll parts scope s = done meaningless
eval_by context head.Global parts scope s = done meaningless
eval_by context (head.If arms has_else) parts scope s = done meaningless
eval_by context head.Arm parts scope s = done meaningless
eval_by context head.While parts scope s = done meaningless
eval_by context (head.Range arguments) parts scope s = done meaningless
eval_by context head.Over parts scope s = done meaningless
eval_by context (head.Parallel arguments nogil schedule) parts scope s = done meaningless
eval_by context head.ChunkSize parts scope s = done meaningless
eval_by context head.TeamSize parts scope s = done meaningless
eval_by context head.WithGil parts scope s = done meaningless
eval_by context head.WithNogil parts scope s = done meaningless
eval_by context (head.ParallelBlock has_size) parts scope s = done meaningless

-- what an expression gives, and the state behind it
unfoldable mutual
  pub eval : Context → TypedRose → Evaluation
  eval context (rose head number at parts) scope s = eval_by context head (evaluations context parts) scope s

  pub evaluations : Context → Roses TypedHead → List Evaluation
  evaluations context none = []
  evaluations context (more tree trees) = eval context tree ∷ evaluations context trees
