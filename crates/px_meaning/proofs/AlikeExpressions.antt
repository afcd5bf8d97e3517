-- Expressions in runs that differ in their turns.
use Rattle.std.proofs.Common.{◌≡◌, ℕ, zero, suc, ◌≤◌, List, [], ◌∷◌, Option, Some, None, Bool, true, false, refl, subst}
use Rattle.std.specs.Prelude.{ℤ, if◌then◌else◌, slice_get}
use Rattle.px_base.specs.declared.c_types.CType.{CType}
use Rattle.px_base.specs.declared.c_types.BinOp.{BinOp}
use Rattle.px_base.specs.declared.c_types.UnOp.{UnOp}
use Rattle.px_base.specs.declared.c_types.CmpOp.{CmpOp}
use Rattle.px_base.specs.declared.objects.Builtin.{Builtin}
use Rattle.px_base.specs.declared.objects.Builtin.TheVariants as builtin
use Rattle.px_base.specs.declared.objects.Constant.{Constant}
use Rattle.px_base.specs.declared.objects.Constant.TheVariants as constant
use Rattle.px_ctypes.specs.Operators.{binary_value, is_zero}
use Rattle.px_tree.specs.declared.typed_values.ValueType.{ValueType}
use Rattle.px_tree.specs.declared.typed_values.ValueType.TheVariants as value
use Rattle.px_tree.specs.declared.typed_values.Conversion.{Conversion}
use Rattle.px_tree.specs.declared.typed_values.Conversion.TheVariants as conversion
use Rattle.px_tree.specs.declared.typed_values.Comparing.{Comparing}
use Rattle.px_tree.specs.declared.typed_values.Comparing.TheVariants as comparing
use Rattle.px_tree.specs.declared.typed_heads.TypedHead.{TypedHead}
use Rattle.px_tree.specs.declared.typed_heads.TypedHead.TheVariants as head
use Rattle.px_model.specs.declared.stores.Store.{Store}
use Rattle.px_walk.specs.Roses.{Roses, rose, none, more}
use Rattle.px_typed_walk.specs.TypedView.{TypedRose}
use Rattle.px_meaning.specs.Values.{Value, Variable, whole, object, view, nothing}
use Rattle.px_meaning.specs.States.{State, variable_at, keeping}
use Rattle.px_meaning.specs.Interactions.{Interaction, done, ◌>>=◌}
use Rattle.px_meaning.specs.Ends.{Ends, on_value}
use Rattle.px_meaning.specs.Objects.{Stepped, stepping, with_stepped, with_output, new_object, boxed, constant_object, fetched, texts_of, spaced, print_line, print_from, printed}
use Rattle.px_meaning.specs.Expressions.{Context, Scope, Evaluation, giving, part, each, value_there, assigned_value, local_value, unary_of, binary_of, compare_of, not_of, abs_of, lesser, greater, extreme_from, extreme_of, steps_of, kept_of, comparisons_of, on_truth, and_of, or_of, conditional_of, converted_by, compared_by, cast_to, call_of, constant_there, printing, print_value, builtin_by, eval_by, eval, evaluations}
use Rattle.px_meaning.proofs.Alike.{more_turns, lost, Alike, over, gave_alike, raised_alike, behind, values_alike, numbers_alike, later, done_as, number_alike, stepping_alike}

module _ (extra : ℕ) where
  abbrev pub AreAlike : Evaluation → Evaluation → Type 0
  AreAlike e f = (scope : Scope) (s : State) → Alike extra (e scope s) (f scope (more_turns extra s))

  abbrev pub AllAlike : List Evaluation → List Evaluation → Type 0
  AllAlike [] [] = Unit {0}
  AllAlike [] (f ∷ fs) = ⊥
  AllAlike (e ∷ es) [] = ⊥
  AllAlike (e ∷ es) (f ∷ fs) = AreAlike e f × AllAlike es fs

  -- contexts of which the second one has more turns
  pub record ContextsAlike (c d : Context) : Type 0 where
    pub calls : (function : ℕ) (arguments : List Value) (s : State)
        → Alike extra (c.calls function arguments s) (d.calls function arguments (more_turns extra s))
    pub constants : c.constants ≡ d.constants
    pub bound : c.bound ≤ d.bound

  pub part_alike : (es fs : List Evaluation) → AllAlike es fs → (k : ℕ) → AreAlike (part es k) (part fs k)
  part_alike [] [] same k scope s = over lost
  part_alike [] (f ∷ fs) same k scope s = absurd same
  part_alike (e ∷ es) [] same k scope s = absurd same
  part_alike (e ∷ es) (f ∷ fs) same zero scope s = same.0 scope s
  part_alike (e ∷ es) (f ∷ fs) same (suc k) scope s = part_alike es fs same.1 k scope s

  pub each_alike : (es fs : List Evaluation) → AllAlike es fs → (scope : Scope) (s : State)
      → Alike extra (each es scope s) (each fs scope (more_turns extra s))
  each_alike [] [] same scope s = gave_alike
  each_alike [] (f ∷ fs) same scope s = absurd same
  each_alike (e ∷ es) [] same scope s = absurd same
  each_alike (e ∷ es) (f ∷ fs) same scope s =
      behind (same.0 scope s) (values_alike extra _ _ (λ v s1. behind (each_alike es fs same.1 scope s1)
      (values_alike extra _ _ (λ vs s2. gave_alike))))

  there_alike : (o : Option Value) (s : State) → Alike extra (done (value_there o s)) (done (value_there o (more_turns extra s)))
  there_alike None s = over lost
  there_alike (Some v) s = gave_alike

  assigned_alike : (x : Variable) (s : State) → Alike extra (done (assigned_value x s)) (done (assigned_value x (more_turns extra s)))
  assigned_alike None s = raised_alike
  assigned_alike (Some v) s = gave_alike

  local_alike : (t : ValueType) (x : Variable) (s : State)
      → Alike extra (done (local_value t x s)) (done (local_value t x (more_turns extra s)))
  local_alike (value.C t) x s = gave_alike
  local_alike value.Object x s = assigned_alike x s
  local_alike (value.View t) x s = assigned_alike x s
  local_alike value.Void x s = over lost

  constant_there_alike : (o : Option Constant) (s : State)
      → Alike extra (done (constant_there o s)) (done (constant_there o (more_turns extra s)))
  constant_there_alike None s = over lost
  constant_there_alike (Some what) s = stepping_alike extra (new_object (constant_object what)) s

  constant_alike : (c d : Context) → ContextsAlike c d → (k : ℕ) (s : State)
      → Alike extra (done (constant_there (slice_get c.constants k) s))
      (done (constant_there (slice_get d.constants k) (more_turns extra s)))
  constant_alike c d ctx k s =
      subst (λ constants. Alike extra (done (constant_there (slice_get c.constants k) s))
      (done (constant_there (slice_get constants k) (more_turns extra s)))) ctx.constants
      (constant_there_alike (slice_get c.constants k) s)

  unary_alike : (op : UnOp) (t : CType) (es fs : List Evaluation) → AllAlike es fs → AreAlike (unary_of op t es) (unary_of op t fs)
  unary_alike op t es fs same scope s = behind (part_alike es fs same 0 scope s) (numbers_alike extra _ _ (λ n s1. gave_alike))

  binary_alike : (op : BinOp) (t : CType) (truncates : Bool) (es fs : List Evaluation) → AllAlike es fs
      → AreAlike (binary_of op t truncates es) (binary_of op t truncates fs)
  binary_alike op t truncates es fs same scope s =
      behind (part_alike es fs same 0 scope s) (numbers_alike extra _ _ (λ a s1. behind (part_alike es fs same 1 scope s1)
      (numbers_alike extra _ _ (λ b s2. number_alike extra (binary_value op t a b truncates) s2))))

  compare_alike : (op : CmpOp) (es fs : List Evaluation) → AllAlike es fs → AreAlike (compare_of op es) (compare_of op fs)
  compare_alike op es fs same scope s =
      behind (part_alike es fs same 0 scope s) (numbers_alike extra _ _
      (λ a s1. behind (part_alike es fs same 1 scope s1) (numbers_alike extra _ _ (λ b s2. gave_alike))))

  not_alike : (es fs : List Evaluation) → AllAlike es fs → AreAlike (not_of es) (not_of fs)
  not_alike es fs same scope s = behind (part_alike es fs same 0 scope s) (numbers_alike extra _ _ (λ n s1. gave_alike))

  abs_alike : (t : CType) (es fs : List Evaluation) → AllAlike es fs → AreAlike (abs_of t es) (abs_of t fs)
  abs_alike t es fs same scope s = behind (part_alike es fs same 0 scope s) (numbers_alike extra _ _ (λ n s1. gave_alike))

  from_alike : (chosen : ℤ → ℤ → ℤ) (n : ℤ) (es fs : List Evaluation) → AllAlike es fs
      → AreAlike (extreme_from chosen n es) (extreme_from chosen n fs)
  from_alike chosen n [] [] same scope s = gave_alike
  from_alike chosen n [] (f ∷ fs) same scope s = absurd same
  from_alike chosen n (e ∷ es) [] same scope s = absurd same
  from_alike chosen n (e ∷ es) (f ∷ fs) same scope s = behind (same.0 scope s)
      (numbers_alike extra _ _ (λ m s1. from_alike chosen (chosen n m) es fs same.1 scope s1))

  extreme_alike : (chosen : ℤ → ℤ → ℤ) (es fs : List Evaluation) → AllAlike es fs → AreAlike (extreme_of chosen es) (extreme_of chosen fs)
  extreme_alike chosen [] [] same scope s = over lost
  extreme_alike chosen [] (f ∷ fs) same scope s = absurd same
  extreme_alike chosen (e ∷ es) [] same scope s = absurd same
  extreme_alike chosen (e ∷ es) (f ∷ fs) same scope s = behind (same.0 scope s)
      (numbers_alike extra _ _ (λ m s1. from_alike chosen m es fs same.1 scope s1))

  steps_alike : (es fs : List Evaluation) → AllAlike es fs → AreAlike (steps_of es) (steps_of fs)
  steps_alike [] [] same scope s = over lost
  steps_alike [] (f ∷ fs) same scope s = absurd same
  steps_alike (e ∷ es) [] same scope s = absurd same
  steps_alike (e ∷ []) (f ∷ []) same scope s = same.0 scope s
  steps_alike (e ∷ []) (f ∷ f2 ∷ fs) same scope s = absurd same.1
  steps_alike (e ∷ e2 ∷ es) (f ∷ []) same scope s = absurd same.1
  steps_alike (e ∷ e2 ∷ es) (f ∷ f2 ∷ fs) same scope s =
      behind (same.0 scope s) (values_alike extra _ _ (λ v s1. steps_alike (e2 ∷ es) (f2 ∷ fs) same.1 (giving v scope) s1))

  kept_alike : (es fs : List Evaluation) → AllAlike es fs → AreAlike (kept_of es) (kept_of fs)
  kept_alike es fs same scope s = behind (part_alike es fs same 0 scope s) (values_alike extra _ _ (λ v s1. gave_alike {s = keeping v s1}))

  -- one of two, by a test
  pub either_alike : {A : Type 0} (test : Bool) (t t2 u u2 : Interaction (Ends A)) → Alike extra t t2 → Alike extra u u2
      → Alike extra (if test then t else u) (if test then t2 else u2)
  either_alike true t t2 u u2 x y = x
  either_alike false t t2 u u2 x y = y

  comparisons_alike : (es fs : List Evaluation) → AllAlike es fs → AreAlike (comparisons_of es) (comparisons_of fs)
  comparisons_alike [] [] same scope s = over lost
  comparisons_alike [] (f ∷ fs) same scope s = absurd same
  comparisons_alike (e ∷ es) [] same scope s = absurd same
  comparisons_alike (e ∷ []) (f ∷ []) same scope s = same.0 scope s
  comparisons_alike (e ∷ []) (f ∷ f2 ∷ fs) same scope s = absurd same.1
  comparisons_alike (e ∷ e2 ∷ es) (f ∷ []) same scope s = absurd same.1
  comparisons_alike (e ∷ e2 ∷ es) (f ∷ f2 ∷ fs) same scope s =
      behind (same.0 scope s) (numbers_alike extra _ _ (λ n s1.
      either_alike (is_zero n) _ _ _ _ gave_alike (comparisons_alike (e2 ∷ es) (f2 ∷ fs) same.1 (record scope { given = s1.frame.kept })
      s1)))

  pub truth_alike : {B : Type 0} (held failed held2 failed2 : State → Interaction (Ends B))
      → ((s : State) → Alike extra (held s) (held2 (more_turns extra s))) →
      ((s : State) → Alike extra (failed s) (failed2 (more_turns extra s)))
      → (v : Value) (s : State) → Alike extra (on_truth held failed v s) (on_truth held2 failed2 v (more_turns extra s))
  truth_alike held failed held2 failed2 x y (whole n) s = either_alike (is_zero n) _ _ _ _ (y s) (x s)
  truth_alike held failed held2 failed2 x y (object serial) s = over lost
  truth_alike held failed held2 failed2 x y (view v) s = over lost
  truth_alike held failed held2 failed2 x y nothing s = over lost

  and_alike : (es fs : List Evaluation) → AllAlike es fs → AreAlike (and_of es) (and_of fs)
  and_alike es fs same scope s =
      behind (part_alike es fs same 0 scope s) (values_alike extra _ _ (λ v s1.
      truth_alike _ _ _ _ (λ s2. part_alike es fs same 1 scope s2) (λ s2. gave_alike) v s1))

  or_alike : (es fs : List Evaluation) → AllAlike es fs → AreAlike (or_of es) (or_of fs)
  or_alike es fs same scope s =
      behind (part_alike es fs same 0 scope s) (values_alike extra _ _ (λ v s1.
      truth_alike _ _ _ _ (λ s2. gave_alike) (λ s2. part_alike es fs same 1 scope s2) v s1))

  conditional_alike : (es fs : List Evaluation) → AllAlike es fs → AreAlike (conditional_of es) (conditional_of fs)
  conditional_alike es fs same scope s =
      behind (part_alike es fs same 1 scope s) (values_alike extra _ _ (λ v s1.
      truth_alike _ _ _ _ (λ s2. part_alike es fs same 0 scope s2) (λ s2. part_alike es fs same 2 scope s2) v s1))

  converted_alike : (asked : Conversion) (es fs : List Evaluation) → AllAlike es fs
      → AreAlike (converted_by asked es) (converted_by asked fs)
  converted_alike (conversion.ToC t) es fs same scope s = behind (part_alike es fs same 0 scope s)
      (numbers_alike extra _ _ (λ n s1. gave_alike))
  converted_alike (conversion.ToObject t) es fs same scope s =
      behind (part_alike es fs same 0 scope s) (numbers_alike extra _ _ (λ n s1. stepping_alike extra (new_object (boxed t n)) s1))
  converted_alike (conversion.FromObject t) es fs same scope s = over lost
  converted_alike conversion.Truth es fs same scope s = over lost
  converted_alike (conversion.ViewOfObject t) es fs same scope s = over lost
  converted_alike (conversion.ViewOfView t) es fs same scope s = over lost

  compared_alike : (how : Comparing) (es fs : List Evaluation) → AllAlike es fs → AreAlike (compared_by how es) (compared_by how fs)
  compared_alike (comparing.C op t) es fs same scope s = compare_alike op es fs same scope s
  compared_alike (comparing.Objects op) es fs same scope s = over lost
  compared_alike comparing.In es fs same scope s = over lost
  compared_alike comparing.NotIn es fs same scope s = over lost
  compared_alike comparing.Is es fs same scope s = over lost
  compared_alike comparing.IsNot es fs same scope s = over lost

  -- printing
  stepped_as : {A : Type 0} (step : Stepped A) (s : State) → later extra (with_stepped step s) ≡ with_stepped step (more_turns extra s)
  stepped_as (Rattle.px_meaning.specs.Objects.gave a store) s = refl
  stepped_as (Rattle.px_meaning.specs.Objects.failed fault store) s = refl

  line_later : (o : Option (List (List ℕ))) (store : Store) (s : State)
      → later extra (print_line o store s) ≡ print_line o store (more_turns extra s)
  line_later None store s = refl
  line_later (Some texts) store s = stepped_as (with_output _ store) s

  printed_later : (o : Option Store) (values : List Value) (s : State)
      → later extra (print_from o values s) ≡ print_from o values (more_turns extra s)
  printed_later None values s = refl
  printed_later (Some store) values s = line_later (texts_of store values) store s

  printed_alike : (values : List Value) (s : State) → Alike extra (done (printed values s)) (done (printed values (more_turns extra s)))
  printed_alike values s = done_as extra (printed values s) (printed values (more_turns extra s)) (printed_later s.store values s)

  pub printing_alike : (es fs : List Evaluation) → AllAlike es fs → AreAlike (printing es) (printing fs)
  printing_alike es fs same scope s = behind (each_alike es fs same scope s) (values_alike extra _ _ (λ values s1. printed_alike values s1))

  print_alike : (es fs : List Evaluation) → AllAlike es fs → AreAlike (print_value es) (print_value fs)
  print_alike es fs same scope s =
      behind (printing_alike es fs same scope s) (values_alike extra _ _
      (λ v s1. stepping_alike extra (new_object (constant_object constant.None)) s1))

  builtin_alike : (what : Builtin) (es fs : List Evaluation) → AllAlike es fs → AreAlike (builtin_by what es) (builtin_by what fs)
  builtin_alike builtin.Print es fs same scope s = print_alike es fs same scope s
  builtin_alike builtin.Input es fs same scope s = over lost
  builtin_alike builtin.Len es fs same scope s = over lost
  builtin_alike builtin.Int es fs same scope s = over lost
  builtin_alike builtin.Str es fs same scope s = over lost
  builtin_alike builtin.Repr es fs same scope s = over lost
  builtin_alike builtin.Bool es fs same scope s = over lost
  builtin_alike builtin.List es fs same scope s = over lost
  builtin_alike builtin.Tuple es fs same scope s = over lost
  builtin_alike builtin.Abs es fs same scope s = over lost
  builtin_alike builtin.Min es fs same scope s = over lost
  builtin_alike builtin.Max es fs same scope s = over lost
  builtin_alike builtin.Range es fs same scope s = over lost

  call_alike : (c d : Context) → ContextsAlike c d → (function : ℕ) (es fs : List Evaluation) → AllAlike es fs → (scope : Scope) (s : State)
      → Alike extra (each es scope s >>= on_value (c.calls function)) (each fs scope (more_turns extra s) >>= on_value (d.calls function))
  call_alike c d ctx function es fs same scope s =
      behind (each_alike es fs same scope s) (values_alike extra _ _ (λ arguments s1. ctx.calls function arguments s1))

  cast_alike : (t : ValueType) (es fs : List Evaluation) → AllAlike es fs → AreAlike (cast_to t es) (cast_to t fs)
  cast_alike (value.C t) es fs same scope s = part_alike es fs same 0 scope s
  cast_alike value.Object es fs same scope s = part_alike es fs same 0 scope s
  cast_alike (value.View t) es fs same scope s = over lost
  cast_alike value.Void es fs same scope s = over lost

  call_of_alike : (c d : Context) → ContextsAlike c d → (function : ℕ) (t : ValueType) (es fs : List Evaluation) → AllAlike es fs
      → AreAlike (call_of c.calls function t es) (call_of d.calls function t fs)
  call_of_alike c d ctx function (value.C t) es fs same scope s = call_alike c d ctx function es fs same scope s
  call_of_alike c d ctx function value.Object es fs same scope s = call_alike c d ctx function es fs same scope s
  call_of_alike c d ctx function (value.View t) es fs same scope s = over lost
  call_of_alike c d ctx function value.Void es fs same scope s = call_alike c d ctx function es fs same scope s

  eval_by_alike : (c d : Context) → ContextsAlike c d → (h : TypedHead) (es fs : List Evaluation) → AllAlike es fs
      → AreAlike (eval_by c h es) (eval_by d h fs)
  unfolding eval_by
  eval_by_alike c d ctx (head.Literal t n) es fs same scope s = gave_alike
  eval_by_alike c d ctx (head.Sizeof t) es fs same scope s = gave_alike
  eval_by_alike c d ctx (head.Constant k) es fs same scope s = constant_alike c d ctx k s
  eval_by_alike c d ctx (head.Local slot t) es fs same scope s = local_alike t (variable_at s slot) s
  eval_by_alike c d ctx (head.ModuleName name) es fs same scope s = stepping_alike extra (fetched name) s
  eval_by_alike c d ctx (head.Given t) es fs same scope s = there_alike scope.given s
  eval_by_alike c d ctx (head.Kept t) es fs same scope s = kept_alike es fs same scope s
  eval_by_alike c d ctx (head.Converted asked) es fs same scope s = converted_alike asked es fs same scope s
  eval_by_alike c d ctx (head.Cast t) es fs same scope s = cast_alike t es fs same scope s
  eval_by_alike c d ctx (head.Steps t) es fs same scope s = steps_alike es fs same scope s
  eval_by_alike c d ctx (head.Unary op t) es fs same scope s = unary_alike op t es fs same scope s
  eval_by_alike c d ctx (head.Binary op t truncates) es fs same scope s = binary_alike op t truncates es fs same scope s
  eval_by_alike c d ctx (head.Compare how) es fs same scope s = compared_alike how es fs same scope s
  eval_by_alike c d ctx head.Comparisons es fs same scope s = comparisons_alike es fs same scope s
  eval_by_alike c d ctx head.Not es fs same scope s = not_alike es fs same scope s
  eval_by_alike c d ctx (head.And t) es fs same scope s = and_alike es fs same scope s
  eval_by_alike c d ctx (head.Or t) es fs same scope s = or_alike es fs same scope s
  eval_by_alike c d ctx (head.Conditional t) es fs same scope s = conditional_alike es fs same scope s
  eval_by_alike c d ctx (head.Call function t) es fs same scope s = call_of_alike c d ctx function t es fs same scope s
  eval_by_alike c d ctx (head.Abs t) es fs same scope s = abs_alike t es fs same scope s
  eval_by_alike c d ctx (head.Min t) es fs same scope s = extreme_alike lesser es fs same scope s
  eval_by_alike c d ctx (head.Max t) es fs same scope s = extreme_alike greater es fs same scope s
  eval_by_alike c d ctx (head.Builtin what) es fs same scope s = builtin_alike what es fs same scope s
  eval_by_alike c d ctx head.ThreadId es fs same scope s = over lost
  eval_by_alike c d ctx (head.ObjectUnary op) es fs same scope s = over lost
  eval_by_alike c d ctx (head.ObjectBinary op) es fs same scope s = over lost
  eval_by_alike c d ctx head.Tuple es fs same scope s = over lost
  eval_by_alike c d ctx head.List es fs same scope s = over lost
  eval_by_alike c d ctx head.Dict es fs same scope s = over lost
  eval_by_alike c d ctx head.Item es fs same scope s = over lost
  eval_by_alike c d ctx (head.Part has_from has_to has_step) es fs same scope s = over lost
  eval_by_alike c d ctx (head.Method method) es fs same scope s = over lost
  eval_by_alike c d ctx (head.Element t wraparound) es fs same scope s = over lost
  eval_by_alike c d ctx (head.ViewPart t wraparound) es fs same scope s = over lost
  eval_by_alike c d ctx (head.Transposed t) es fs same scope s = over lost
  eval_by_alike c d ctx (head.Copied t) es fs same scope s = over lost
  eval_by_alike c d ctx head.Length es fs same scope s = over lost
  eval_by_alike c d ctx (head.Extent axis) es fs same scope s = over lost
  eval_by_alike c d ctx head.Array es fs same scope s = over lost
  eval_by_alike c d ctx head.Index es fs same scope s = over lost
  eval_by_alike c d ctx (head.Slice has_from has_to has_step) es fs same scope s = over lost
  eval_by_alike c d ctx head.NewAxis es fs same scope s = over lost
  eval_by_alike c d ctx head.Ellipsis es fs same scope s = over lost
  eval_by_alike c d ctx (head.Keyword keyword) es fs same scope s = over lost
  eval_by_alike c d ctx head.Expression es fs same scope s = over lost
  eval_by_alike c d ctx head.Assign es fs same scope s = over lost
  eval_by_alike c d ctx head.AssignEach es fs same scope s = over lost
  eval_by_alike c d ctx head.Unpack es fs same scope s = over lost
  eval_by_alike c d ctx (head.Augment op) es fs same scope s = over lost
  eval_by_alike c d ctx head.Declare es fs same scope s = over lost
  eval_by_alike c d ctx (head.Declarator slot t) es fs same scope s = over lost
  eval_by_alike c d ctx head.Pass es fs same scope s = over lost
  eval_by_alike c d ctx head.Break es fs same scope s = over lost
  eval_by_alike c d ctx head.Continue es fs same scope s = over lost
  eval_by_alike c d ctx head.Return es fs same scope s = over lost
  eval_by_alike c d ctx (head.Raise kind) es fs same scope s = over lost
  eval_by_alike c d ctx head.Reraise es fs same scope s = over lost
  eval_by_alike c d ctx (head.Try clauses has_else has_finally) es fs same scope s = over lost
  eval_by_alike c d ctx head.Block es fs same scope s = over lost
  eval_by_alike c d ctx (head.Handler kinds assigns) es fs same scope s = over lost
  eval_by_alike c d ctx (head.Catches kind) es fs same scope s = over lost
  eval_by_alike c d ctx head.CatchesAll es fs same scope s = over lost
  eval_by_alike c d ctx head.Global es fs same scope s = over lost
  eval_by_alike c d ctx (head.If arms has_else) es fs same scope s = over lost
  eval_by_alike c d ctx head.Arm es fs same scope s = over lost
  eval_by_alike c d ctx head.While es fs same scope s = over lost
  eval_by_alike c d ctx (head.Range arguments) es fs same scope s = over lost
  eval_by_alike c d ctx head.Over es fs same scope s = over lost
  eval_by_alike c d ctx (head.Parallel arguments nogil schedule) es fs same scope s = over lost
  eval_by_alike c d ctx head.ChunkSize es fs same scope s = over lost
  eval_by_alike c d ctx head.TeamSize es fs same scope s = over lost
  eval_by_alike c d ctx head.WithGil es fs same scope s = over lost
  eval_by_alike c d ctx head.WithNogil es fs same scope s = over lost
  eval_by_alike c d ctx (head.ParallelBlock has_size) es fs same scope s = over lost

  mutual
    unfolding eval

    pub eval_alike : (c d : Context) → ContextsAlike c d → (tree : TypedRose) → AreAlike (eval c tree) (eval d tree)
    eval_alike c d ctx (rose h number at parts) scope s =
        eval_by_alike c d ctx h (evaluations c parts) (evaluations d parts) (evaluations_alike c d ctx parts) scope s

    pub evaluations_alike : (c d : Context) → ContextsAlike c d → (parts : Roses TypedHead)
        → AllAlike (evaluations c parts) (evaluations d parts)
    evaluations_alike c d ctx none = tt
    evaluations_alike c d ctx (more tree trees) = (eval_alike c d ctx tree, evaluations_alike c d ctx trees)
