-- Statements in runs that differ in their turns.
use Rattle.std.proofs.Common.{ℕ, zero, suc, ◌≤◌, List, [], ◌∷◌, take, drop, map, Option, Some, None, arith}
use Rattle.std.specs.Prelude.{ℤ, ◌+ℤ◌}
use Rattle.px_base.specs.declared.c_types.CType.{CType}
use Rattle.px_ctypes.specs.Operators.{is_zero}
use Rattle.px_ctypes.specs.Conversions.{converted}
use Rattle.px_tree.specs.declared.typed_values.ValueType.{ValueType}
use Rattle.px_tree.specs.declared.typed_values.ValueType.TheVariants as value
use Rattle.px_tree.specs.declared.typed_heads.TypedHead.{TypedHead}
use Rattle.px_tree.specs.declared.typed_heads.TypedHead.TheVariants as head
use Rattle.px_walk.specs.Roses.{Roses, rose, none, more, listed, head_of}
use Rattle.px_typed_walk.specs.TypedView.{TypedRose}
use Rattle.px_meaning.specs.Values.{Value, whole, object, view, nothing}
use Rattle.px_meaning.specs.States.{State, assigned}
use Rattle.px_meaning.specs.Ends.{next}
use Rattle.px_meaning.specs.Objects.{with_name}
use Rattle.px_meaning.specs.Expressions.{Context, Scope, Evaluation, giving, eval, evaluations}
use Rattle.px_meaning.specs.Statements.{Execution, in_turn, value_of, is_print, dropped, expression_alone, assign_local, assign_name, assign_to, assignment, last_value, but_last, assign_each, augment_value, augment_to, augmentation, declared, returned, Branch, chosen, looping, Bounds, bounds_of, range_count, ranging, range_from, range_over, range_of, exec_by, exec, executions, branches_of, branch_of}
use Rattle.px_meaning.proofs.Alike.{more_turns, ran_out, lost, Alike, over, gave_alike, raised_alike, behind, values_alike, numbers_alike, stepping_alike, spending_alike, then_alike, body_alike, with_lock_alike, without_lock_alike}
use Rattle.px_meaning.proofs.AlikeExpressions.{AreAlike, AllAlike, ContextsAlike, each_alike, either_alike, printing_alike, eval_alike, evaluations_alike}

module _ (extra : ℕ) where
  abbrev pub RunAlike : Execution → Execution → Type 0
  RunAlike x y = (scope : Scope) (s : State) → Alike extra (x scope s) (y scope (more_turns extra s))

  abbrev pub AllRunAlike : List Execution → List Execution → Type 0
  AllRunAlike [] [] = Unit {0}
  AllRunAlike [] (y ∷ ys) = ⊥
  AllRunAlike (x ∷ xs) [] = ⊥
  AllRunAlike (x ∷ xs) (y ∷ ys) = RunAlike x y × AllRunAlike xs ys

  abbrev pub BranchAlike : Branch → Branch → Type 0
  BranchAlike b c = AreAlike extra b.test c.test × RunAlike b.body c.body

  abbrev pub AllBranchesAlike : List Branch → List Branch → Type 0
  AllBranchesAlike [] [] = Unit {0}
  AllBranchesAlike [] (c ∷ cs) = ⊥
  AllBranchesAlike (b ∷ bs) [] = ⊥
  AllBranchesAlike (b ∷ bs) (c ∷ cs) = BranchAlike b c × AllBranchesAlike bs cs

  runs_dropped : (n : ℕ) (xs ys : List Execution) → AllRunAlike xs ys → AllRunAlike (drop n xs) (drop n ys)
  runs_dropped zero xs ys same = same
  runs_dropped (suc n) [] [] same = tt
  runs_dropped (suc n) [] (y ∷ ys) same = absurd same
  runs_dropped (suc n) (x ∷ xs) [] same = absurd same
  runs_dropped (suc n) (x ∷ xs) (y ∷ ys) same = runs_dropped n xs ys same.1

  branches_taken : (n : ℕ) (bs cs : List Branch) → AllBranchesAlike bs cs → AllBranchesAlike (take n bs) (take n cs)
  branches_taken zero bs cs same = tt
  branches_taken (suc n) [] [] same = tt
  branches_taken (suc n) [] (c ∷ cs) same = absurd same
  branches_taken (suc n) (b ∷ bs) [] same = absurd same
  branches_taken (suc n) (b ∷ bs) (c ∷ cs) same = (same.0, branches_taken n bs cs same.1)

  pub in_turn_alike : (xs ys : List Execution) → AllRunAlike xs ys → RunAlike (in_turn xs) (in_turn ys)
  in_turn_alike [] [] same scope s = gave_alike
  in_turn_alike [] (y ∷ ys) same scope s = absurd same
  in_turn_alike (x ∷ xs) [] same scope s = absurd same
  in_turn_alike (x ∷ xs) (y ∷ ys) same scope s =
      behind (same.0 scope s) (values_alike extra _ _ (then_alike extra (in_turn xs scope) (in_turn ys scope)
      (in_turn_alike xs ys same.1 scope)))

  value_alike : (c d : Context) → ContextsAlike extra c d → (trees : List TypedRose) (k : ℕ)
      → AreAlike extra (value_of c trees k) (value_of d trees k)
  value_alike c d ctx [] k scope s = over lost
  value_alike c d ctx (tree ∷ trees) zero scope s = eval_alike extra c d ctx tree scope s
  value_alike c d ctx (tree ∷ trees) (suc k) scope s = value_alike c d ctx trees k scope s

  dropped_alike : (c d : Context) → ContextsAlike extra c d → (tree : TypedRose) → RunAlike (dropped c tree) (dropped d tree)
  dropped_alike c d ctx (rose h number at parts) scope s =
      behind (either_alike extra (is_print h) _ _ _ _
      (printing_alike extra (evaluations c parts) (evaluations d parts) (evaluations_alike extra c d ctx parts) scope s)
      (eval_alike extra c d ctx (rose h number at parts) scope s)) (values_alike extra _ _ (λ v s1. gave_alike))

  alone_alike : (c d : Context) → ContextsAlike extra c d → (trees : List TypedRose)
      → RunAlike (expression_alone c trees) (expression_alone d trees)
  alone_alike c d ctx [] scope s = over lost
  alone_alike c d ctx (tree ∷ trees) scope s = dropped_alike c d ctx tree scope s

  local_alike : (slot : ℕ) (t : ValueType) (v : Value) (s : State)
      → Alike extra (assign_local slot t v s) (assign_local slot t v (more_turns extra s))
  local_alike slot (value.C t) v s = gave_alike {s = assigned slot v s}
  local_alike slot value.Object v s = gave_alike {s = assigned slot v s}
  local_alike slot (value.View t) v s = over lost
  local_alike slot value.Void v s = over lost

  name_alike : (name : ℕ) (v : Value) (s : State) → Alike extra (assign_name name v s) (assign_name name v (more_turns extra s))
  name_alike name (whole n) s = over lost
  name_alike name (object serial) s = stepping_alike extra (with_name next name serial) s
  name_alike name (view v) s = over lost
  name_alike name nothing s = over lost

  target_alike : (h : TypedHead) (v : Value) (s : State) → Alike extra (assign_to h v s) (assign_to h v (more_turns extra s))
  target_alike (head.Local slot t) v s = local_alike slot t v s
  target_alike (head.ModuleName name) v s = name_alike name v s
  target_alike _ v s = over lost

  assignment_alike : (c d : Context) → ContextsAlike extra c d → (trees : List TypedRose)
      → RunAlike (assignment c trees) (assignment d trees)
  assignment_alike c d ctx [] scope s = over lost
  assignment_alike c d ctx (target ∷ trees) scope s = behind (value_alike c d ctx trees 0 scope s)
      (values_alike extra _ _ (target_alike (head_of target)))

  last_alike : (c d : Context) → ContextsAlike extra c d → (trees : List TypedRose)
      → AreAlike extra (last_value c trees) (last_value d trees)
  last_alike c d ctx [] scope s = over lost
  last_alike c d ctx (tree ∷ []) scope s = eval_alike extra c d ctx tree scope s
  last_alike c d ctx (tree ∷ tree2 ∷ trees) scope s = last_alike c d ctx (tree2 ∷ trees) scope s

  but_last_alike : (xs ys : List Execution) → AllRunAlike xs ys → AllRunAlike (but_last xs) (but_last ys)
  but_last_alike [] [] same = tt
  but_last_alike [] (y ∷ ys) same = absurd same
  but_last_alike (x ∷ xs) [] same = absurd same
  but_last_alike (x ∷ []) (y ∷ []) same = tt
  but_last_alike (x ∷ []) (y ∷ y2 ∷ ys) same = absurd same.1
  but_last_alike (x ∷ x2 ∷ xs) (y ∷ []) same = absurd same.1
  but_last_alike (x ∷ x2 ∷ xs) (y ∷ y2 ∷ ys) same = (same.0, but_last_alike (x2 ∷ xs) (y2 ∷ ys) same.1)

  assign_each_alike : (c d : Context) → ContextsAlike extra c d → (trees : List TypedRose) (xs ys : List Execution) → AllRunAlike xs ys
      → RunAlike (assign_each c trees xs) (assign_each d trees ys)
  assign_each_alike c d ctx trees xs ys same scope s =
      behind (last_alike c d ctx trees scope s) (values_alike extra _ _ (λ v s1.
      in_turn_alike (but_last xs) (but_last ys) (but_last_alike xs ys same) (giving v scope) s1))

  augment_alike : (c d : Context) → ContextsAlike extra c d → (trees : List TypedRose)
      → RunAlike (augment_value c trees) (augment_value d trees)
  augment_alike c d ctx trees scope s =
      behind (value_alike c d ctx trees 0 scope s) (values_alike extra _ _ (λ old s1. assignment_alike c d ctx trees (giving old scope) s1))

  augment_to_alike : (c d : Context) → ContextsAlike extra c d → (h : TypedHead) (trees : List TypedRose)
      → RunAlike (augment_to c h trees) (augment_to d h trees)
  augment_to_alike c d ctx (head.Local slot t) trees scope s = augment_alike c d ctx trees scope s
  augment_to_alike c d ctx (head.ModuleName name) trees scope s = augment_alike c d ctx trees scope s
  augment_to_alike c d ctx _ trees scope s = over lost

  augmentation_alike : (c d : Context) → ContextsAlike extra c d → (trees : List TypedRose)
      → RunAlike (augmentation c trees) (augmentation d trees)
  augmentation_alike c d ctx [] scope s = over lost
  augmentation_alike c d ctx (target ∷ trees) scope s = augment_to_alike c d ctx (head_of target) (target ∷ trees) scope s

  declared_alike : (c d : Context) → ContextsAlike extra c d → (slot : ℕ) (t : ValueType) (trees : List TypedRose)
      → RunAlike (declared c slot t trees) (declared d slot t trees)
  declared_alike c d ctx slot t [] scope s = gave_alike
  declared_alike c d ctx slot t (tree ∷ trees) scope s = behind (eval_alike extra c d ctx tree scope s)
      (values_alike extra _ _ (local_alike slot t))

  returned_alike : (c d : Context) → ContextsAlike extra c d → (trees : List TypedRose) → RunAlike (returned c trees) (returned d trees)
  returned_alike c d ctx [] scope s = gave_alike
  returned_alike c d ctx (tree ∷ trees) scope s = behind (eval_alike extra c d ctx tree scope s)
      (values_alike extra _ _ (λ v s1. gave_alike))

  chosen_alike : (bs cs : List Branch) (x y : Execution) → AllBranchesAlike bs cs → RunAlike x y → RunAlike (chosen bs x) (chosen cs y)
  chosen_alike [] [] x y same other scope s = other scope s
  chosen_alike [] (c ∷ cs) x y same other scope s = absurd same
  chosen_alike (b ∷ bs) [] x y same other scope s = absurd same
  chosen_alike (b ∷ bs) (c ∷ cs) x y same other scope s =
      behind (same.0.0 scope s) (numbers_alike extra _ _ (λ n s1.
      either_alike extra (is_zero n) _ _ _ _ (chosen_alike bs cs x y same.1 other scope s1) (same.0.1 scope s1)))

  looping_alike : (n m : ℕ) → n ≤ m → (e f : Evaluation) (x y : Execution) → AreAlike extra e f → RunAlike x y
      → RunAlike (looping n e x) (looping m f y)
  looping_alike zero m le e f x y test body scope s = over ran_out
  looping_alike (suc n) zero le e f x y test body scope s = absurd (omega (arith, le))
  looping_alike (suc n) (suc m) le e f x y test body scope s =
      behind (test scope s) (numbers_alike extra _ _ (λ holds s1.
      either_alike extra (is_zero holds) _ _ _ _ gave_alike
      (spending_alike extra _ _ (λ s2. behind (body scope s2)
      (values_alike extra _ _ (body_alike extra (looping n e x scope) (looping m f y scope)
      (looping_alike n m (omega (arith, le)) e f x y test body scope)))) s1)))

  ranging_alike : (n : ℕ) (index step : ℤ) (slot : ℕ) (t : CType) (x y : Execution) → RunAlike x y
      → RunAlike (ranging n index step slot t x) (ranging n index step slot t y)
  ranging_alike zero index step slot t x y body scope s = gave_alike
  ranging_alike (suc n) index step slot t x y body scope s =
      spending_alike extra _ _ (λ s1. behind (body scope (assigned slot (whole (converted t index)) s1))
      (values_alike extra _ _ (body_alike extra (ranging n (index +ℤ step) step slot t x scope)
      (ranging n (index +ℤ step) step slot t y scope)
      (ranging_alike n (index +ℤ step) step slot t x y body scope)))) s

  from_alike : (o : Option Bounds) (slot : ℕ) (t : CType) (x y : Execution) → RunAlike x y
      → RunAlike (range_from o slot t x) (range_from o slot t y)
  from_alike None slot t x y body scope s = over lost
  from_alike (Some b) slot t x y body scope s =
      either_alike extra (is_zero b.step) _ _ _ _ raised_alike (ranging_alike (range_count b) b.start b.step slot t x y body scope s)

  -- a target of a loop over numbers is a variable of a C type
  of_type_alike : (slot : ℕ) (t : ValueType) (es fs : List Evaluation) (x y : Execution) → AllAlike extra es fs → RunAlike x y
      → RunAlike (range_over (head.Local slot t) es x) (range_over (head.Local slot t) fs y)
  of_type_alike slot (value.C t) es fs x y same body scope s =
      behind (each_alike extra es fs same scope s) (values_alike extra _ _
      (λ values s1. from_alike (bounds_of values) slot t x y body scope s1))
  of_type_alike slot value.Object es fs x y same body scope s = over lost
  of_type_alike slot (value.View t) es fs x y same body scope s = over lost
  of_type_alike slot value.Void es fs x y same body scope s = over lost

  over_alike : (h : TypedHead) (es fs : List Evaluation) (x y : Execution) → AllAlike extra es fs → RunAlike x y
      → RunAlike (range_over h es x) (range_over h fs y)
  over_alike (head.Local slot t) es fs x y same body scope s = of_type_alike slot t es fs x y same body scope s
  over_alike _ es fs x y same body scope s = over lost

  evals_alike : (c d : Context) → ContextsAlike extra c d → (trees : List TypedRose)
      → AllAlike extra (map (eval c) trees) (map (eval d) trees)
  evals_alike c d ctx [] = tt
  evals_alike c d ctx (tree ∷ trees) = (eval_alike extra c d ctx tree, evals_alike c d ctx trees)

  range_alike : (c d : Context) → ContextsAlike extra c d → (count : ℕ) (trees : List TypedRose) (xs ys : List Execution)
      → AllRunAlike xs ys
      → RunAlike (range_of c count trees xs) (range_of d count trees ys)
  range_alike c d ctx count [] xs ys same scope s = over lost
  range_alike c d ctx count (target ∷ trees) xs ys same scope s =
      over_alike (head_of target) _ _ _ _ (evals_alike c d ctx (take count trees))
      (in_turn_alike (drop (suc count) xs) (drop (suc count) ys) (runs_dropped (suc count) xs ys same)) scope s

  exec_by_alike : (c d : Context) → ContextsAlike extra c d → (h : TypedHead) (trees : List TypedRose) (xs ys : List Execution)
      → AllRunAlike xs ys
      → (bs cs : List Branch) → AllBranchesAlike bs cs → RunAlike (exec_by c h trees xs bs) (exec_by d h trees ys cs)
  unfolding exec_by
  exec_by_alike c d ctx head.Expression trees xs ys xys bs cs bcs scope s = alone_alike c d ctx trees scope s
  exec_by_alike c d ctx head.Assign trees xs ys xys bs cs bcs scope s = assignment_alike c d ctx trees scope s
  exec_by_alike c d ctx head.AssignEach trees xs ys xys bs cs bcs scope s = assign_each_alike c d ctx trees xs ys xys scope s
  exec_by_alike c d ctx (head.Augment op) trees xs ys xys bs cs bcs scope s = augmentation_alike c d ctx trees scope s
  exec_by_alike c d ctx head.Declare trees xs ys xys bs cs bcs scope s = in_turn_alike xs ys xys scope s
  exec_by_alike c d ctx (head.Declarator slot t) trees xs ys xys bs cs bcs scope s = declared_alike c d ctx slot t trees scope s
  exec_by_alike c d ctx head.Pass trees xs ys xys bs cs bcs scope s = gave_alike
  exec_by_alike c d ctx head.Break trees xs ys xys bs cs bcs scope s = gave_alike
  exec_by_alike c d ctx head.Continue trees xs ys xys bs cs bcs scope s = gave_alike
  exec_by_alike c d ctx head.Return trees xs ys xys bs cs bcs scope s = returned_alike c d ctx trees scope s
  exec_by_alike c d ctx head.Global trees xs ys xys bs cs bcs scope s = gave_alike
  exec_by_alike c d ctx (head.If arms has_else) trees xs ys xys bs cs bcs scope s = chosen_alike (take arms bs) (take arms cs)
      (in_turn (drop arms xs)) (in_turn (drop arms ys)) (branches_taken arms bs cs bcs)
      (in_turn_alike (drop arms xs) (drop arms ys) (runs_dropped arms xs ys xys)) scope s
  exec_by_alike c d ctx head.While trees xs ys xys bs cs bcs scope s = looping_alike (suc c.bound) (suc d.bound) (omega (arith, ctx.bound))
      (value_of c trees 0) (value_of d trees 0) (in_turn (drop 1 xs)) (in_turn (drop 1 ys)) (value_alike c d ctx trees 0)
      (in_turn_alike (drop 1 xs) (drop 1 ys) (runs_dropped 1 xs ys xys)) scope s
  exec_by_alike c d ctx (head.Range arguments) trees xs ys xys bs cs bcs scope s = range_alike c d ctx arguments trees xs ys xys scope s
  exec_by_alike c d ctx head.WithGil trees xs ys xys bs cs bcs scope s = with_lock_alike extra (in_turn xs scope) (in_turn ys scope)
      (in_turn_alike xs ys xys scope) s
  exec_by_alike c d ctx head.WithNogil trees xs ys xys bs cs bcs scope s = without_lock_alike extra (in_turn xs scope) (in_turn ys scope)
      (in_turn_alike xs ys xys scope) s
  exec_by_alike c d ctx head.Unpack trees xs ys xys bs cs bcs scope s = over lost
  exec_by_alike c d ctx (head.Raise kind) trees xs ys xys bs cs bcs scope s = over lost
  exec_by_alike c d ctx head.Reraise trees xs ys xys bs cs bcs scope s = over lost
  exec_by_alike c d ctx (head.Try clauses has_else has_finally) trees xs ys xys bs cs bcs scope s = over lost
  exec_by_alike c d ctx head.Over trees xs ys xys bs cs bcs scope s = over lost
  exec_by_alike c d ctx (head.Parallel arguments nogil schedule) trees xs ys xys bs cs bcs scope s = over lost
  exec_by_alike c d ctx (head.ParallelBlock has_size) trees xs ys xys bs cs bcs scope s = over lost
  exec_by_alike c d ctx head.Block trees xs ys xys bs cs bcs scope s = over lost
  exec_by_alike c d ctx (head.Handler kinds assigns) trees xs ys xys bs cs bcs scope s = over lost
  exec_by_alike c d ctx (head.Catches kind) trees xs ys xys bs cs bcs scope s = over lost
  exec_by_alike c d ctx head.CatchesAll trees xs ys xys bs cs bcs scope s = over lost
  exec_by_alike c d ctx head.Arm trees xs ys xys bs cs bcs scope s = over lost
  exec_by_alike c d ctx head.ChunkSize trees xs ys xys bs cs bcs scope s = over lost
  exec_by_alike c d ctx head.TeamSize trees xs ys xys bs cs bcs scope s = over lost
  exec_by_alike c d ctx (head.Literal t n) trees xs ys xys bs cs bcs scope s = over lost
  exec_by_alike c d ctx (head.Sizeof t) trees xs ys xys bs cs bcs scope s = over lost
  exec_by_alike c d ctx (head.Constant k) trees xs ys xys bs cs bcs scope s = over lost
  exec_by_alike c d ctx (head.Local slot t) trees xs ys xys bs cs bcs scope s = over lost
  exec_by_alike c d ctx (head.ModuleName name) trees xs ys xys bs cs bcs scope s = over lost
  exec_by_alike c d ctx (head.Given t) trees xs ys xys bs cs bcs scope s = over lost
  exec_by_alike c d ctx (head.Kept t) trees xs ys xys bs cs bcs scope s = over lost
  exec_by_alike c d ctx (head.Converted asked) trees xs ys xys bs cs bcs scope s = over lost
  exec_by_alike c d ctx (head.Cast t) trees xs ys xys bs cs bcs scope s = over lost
  exec_by_alike c d ctx (head.Steps t) trees xs ys xys bs cs bcs scope s = over lost
  exec_by_alike c d ctx (head.Unary op t) trees xs ys xys bs cs bcs scope s = over lost
  exec_by_alike c d ctx (head.Binary op t truncates) trees xs ys xys bs cs bcs scope s = over lost
  exec_by_alike c d ctx (head.Compare how) trees xs ys xys bs cs bcs scope s = over lost
  exec_by_alike c d ctx head.Comparisons trees xs ys xys bs cs bcs scope s = over lost
  exec_by_alike c d ctx head.Not trees xs ys xys bs cs bcs scope s = over lost
  exec_by_alike c d ctx (head.And t) trees xs ys xys bs cs bcs scope s = over lost
  exec_by_alike c d ctx (head.Or t) trees xs ys xys bs cs bcs scope s = over lost
  exec_by_alike c d ctx (head.Conditional t) trees xs ys xys bs cs bcs scope s = over lost
  exec_by_alike c d ctx (head.Call function t) trees xs ys xys bs cs bcs scope s = over lost
  exec_by_alike c d ctx (head.Abs t) trees xs ys xys bs cs bcs scope s = over lost
  exec_by_alike c d ctx (head.Min t) trees xs ys xys bs cs bcs scope s = over lost
  exec_by_alike c d ctx (head.Max t) trees xs ys xys bs cs bcs scope s = over lost
  exec_by_alike c d ctx head.ThreadId trees xs ys xys bs cs bcs scope s = over lost
  exec_by_alike c d ctx (head.ObjectUnary op) trees xs ys xys bs cs bcs scope s = over lost
  exec_by_alike c d ctx (head.ObjectBinary op) trees xs ys xys bs cs bcs scope s = over lost
  exec_by_alike c d ctx head.Tuple trees xs ys xys bs cs bcs scope s = over lost
  exec_by_alike c d ctx head.List trees xs ys xys bs cs bcs scope s = over lost
  exec_by_alike c d ctx head.Dict trees xs ys xys bs cs bcs scope s = over lost
  exec_by_alike c d ctx head.Item trees xs ys xys bs cs bcs scope s = over lost
  exec_by_alike c d ctx (head.Part has_from has_to has_step) trees xs ys xys bs cs bcs scope s = over lost
  exec_by_alike c d ctx (head.Method method) trees xs ys xys bs cs bcs scope s = over lost
  exec_by_alike c d ctx (head.Builtin what) trees xs ys xys bs cs bcs scope s = over lost
  exec_by_alike c d ctx (head.Element t wraparound) trees xs ys xys bs cs bcs scope s = over lost
  exec_by_alike c d ctx (head.ViewPart t wraparound) trees xs ys xys bs cs bcs scope s = over lost
  exec_by_alike c d ctx head.Index trees xs ys xys bs cs bcs scope s = over lost
  exec_by_alike c d ctx (head.Slice has_from has_to has_step) trees xs ys xys bs cs bcs scope s = over lost
  exec_by_alike c d ctx head.NewAxis trees xs ys xys bs cs bcs scope s = over lost
  exec_by_alike c d ctx head.Ellipsis trees xs ys xys bs cs bcs scope s = over lost
  exec_by_alike c d ctx (head.Transposed t) trees xs ys xys bs cs bcs scope s = over lost
  exec_by_alike c d ctx (head.Copied t) trees xs ys xys bs cs bcs scope s = over lost
  exec_by_alike c d ctx head.Length trees xs ys xys bs cs bcs scope s = over lost
  exec_by_alike c d ctx (head.Extent axis) trees xs ys xys bs cs bcs scope s = over lost
  exec_by_alike c d ctx head.Array trees xs ys xys bs cs bcs scope s = over lost
  exec_by_alike c d ctx (head.Keyword keyword) trees xs ys xys bs cs bcs scope s = over lost

  mutual
    unfolding exec

    pub exec_alike : (c d : Context) → ContextsAlike extra c d → (tree : TypedRose) → RunAlike (exec c tree) (exec d tree)
    exec_alike c d ctx (rose h number at parts) scope s =
        exec_by_alike c d ctx h (listed parts) (executions c parts) (executions d parts) (executions_alike c d ctx parts)
        (branches_of c parts) (branches_of d parts) (branches_alike c d ctx parts) scope s

    executions_alike : (c d : Context) → ContextsAlike extra c d → (parts : Roses TypedHead)
        → AllRunAlike (executions c parts) (executions d parts)
    executions_alike c d ctx none = tt
    executions_alike c d ctx (more tree trees) = (exec_alike c d ctx tree, executions_alike c d ctx trees)

    branches_alike : (c d : Context) → ContextsAlike extra c d → (parts : Roses TypedHead)
        → AllBranchesAlike (branches_of c parts) (branches_of d parts)
    branches_alike c d ctx none = tt
    branches_alike c d ctx (more tree trees) = (branch_alike c d ctx tree, branches_alike c d ctx trees)

    branch_alike : (c d : Context) → ContextsAlike extra c d → (tree : TypedRose) → BranchAlike (branch_of c tree) (branch_of d tree)
    branch_alike c d ctx (rose h number at parts) = (
      value_alike c d ctx (listed parts) 0,
      in_turn_alike (drop 1 (executions c parts)) (drop 1 (executions d parts))
          (runs_dropped 1 (executions c parts) (executions d parts) (executions_alike c d ctx parts)),
    )

  pub code_alike : (c d : Context) → ContextsAlike extra c d → (trees : List TypedRose)
      → AllRunAlike (map (exec c) trees) (map (exec d) trees)
  code_alike c d ctx [] = tt
  code_alike c d ctx (tree ∷ trees) = (exec_alike c d ctx tree, code_alike c d ctx trees)
