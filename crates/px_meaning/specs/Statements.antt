-- What statements do, by the typed tree (Python Language Reference 7 and 8; Cython user guide, Language Basics). Each form is said by
-- what its parts do.
use Rattle.std.specs.Prelude.{ℕ, zero, suc, ℤ, pos, ◌+ℤ◌, unsigned_abs, Bool, true, false, if◌then◌else◌, List, [], ◌∷◌, take, drop, map, Option, Some, None}
use Rattle.std.specs.Int.{div_ceil}
use Rattle.px_base.specs.declared.c_types.CType.{CType}
use Rattle.px_base.specs.declared.objects.Builtin.TheVariants as builtin
use Rattle.px_base.specs.declared.faults.Kind.TheVariants.{ValueError}
use Rattle.px_ctypes.specs.Operators.{fault_of, is_zero}
use Rattle.px_ctypes.specs.Conversions.{converted}
use Rattle.px_tree.specs.declared.typed_values.ValueType.{ValueType}
use Rattle.px_tree.specs.declared.typed_values.ValueType.TheVariants as value
use Rattle.px_tree.specs.declared.typed_heads.TypedHead.{TypedHead}
use Rattle.px_tree.specs.declared.typed_heads.TypedHead.TheVariants as head
use Rattle.px_model.specs.Sequences.{goes_up, slice_distance}
use Rattle.px_walk.specs.Roses.{Roses, rose, none, more, listed, head_of}
use Rattle.px_typed_walk.specs.TypedView.{TypedRose}
use Rattle.px_meaning.specs.Values.{Value, whole, object, view, nothing}
use Rattle.px_meaning.specs.States.{State, assigned}
use Rattle.px_meaning.specs.Interactions.{Interaction, done, ◌>>=◌}
use Rattle.px_meaning.specs.Ends.{Ends, gives, raised, spent, meaningless, not_built, on_value, on_number, Flow, next, continues, breaks, returns, then_do, behind_body, spending}
use Rattle.px_meaning.specs.Sections.{with_lock, without_lock}
use Rattle.px_meaning.specs.Objects.{stepping, with_name}
use Rattle.px_meaning.specs.Expressions.{Context, Scope, Evaluation, each, giving, eval, evaluations, printing}

-- what a statement does
abbrev pub Execution : Type 0
Execution = Scope → State → Interaction (Ends Flow)

-- one statement after another
abbrev pub in_turn : List Execution → Execution
in_turn [] scope s = done (gives next s)
in_turn (x ∷ xs) scope s = x scope s >>= on_value (then_do (in_turn xs scope))

-- the value of a part
abbrev pub value_of : Context → List TypedRose → ℕ → Evaluation
value_of context [] k scope s = done meaningless
value_of context (tree ∷ trees) zero scope s = eval context tree scope s
value_of context (tree ∷ trees) (suc k) scope s = value_of context trees k scope s

-- Expressions alone. Their value isn't used: a print that stands alone makes no None.

abbrev pub is_print : TypedHead → Bool
is_print (head.Builtin builtin.Print) = true
is_print _ = false

abbrev pub dropped : Context → TypedRose → Execution
dropped context (rose head number at parts) scope s =
    (if is_print head then printing (evaluations context parts) scope s else eval context (rose head number at parts) scope s)
    >>= on_value (λ _ s1. done (gives next s1))

abbrev pub expression_alone : Context → List TypedRose → Execution
expression_alone context [] scope s = done meaningless
expression_alone context (tree ∷ trees) scope s = dropped context tree scope s

-- Targets. The value has the type of the target. Assignments to variables of a view type aren't built.

abbrev pub assign_local : ℕ → ValueType → Value → State → Interaction (Ends Flow)
assign_local slot (value.C t) v s = done (gives next (assigned slot v s))
assign_local slot value.Object v s = done (gives next (assigned slot v s))
assign_local slot (value.View t) v s = not_built
assign_local slot value.Void v s = done meaningless

abbrev pub assign_name : ℕ → Value → State → Interaction (Ends Flow)
assign_name name (whole n) s = done meaningless
assign_name name (object serial) s = done (stepping (with_name next name serial) s)
assign_name name (view v) s = done meaningless
assign_name name nothing s = done meaningless

-- a value for what a head stands for; what is no target here is none in the language
abbrev pub assign_to : TypedHead → Value → State → Interaction (Ends Flow)
assign_to (head.Local slot t) v s = assign_local slot t v s
assign_to (head.ModuleName name) v s = assign_name name v s
assign_to head.Item v s = not_built
assign_to (head.Part has_from has_to has_step) v s = not_built
assign_to (head.Element t wraparound) v s = not_built
assign_to (head.ViewPart t wraparound) v s = not_built
assign_to _ v s = done meaningless

-- the value is evaluated and converted, and then the target gets it
abbrev pub assignment : Context → List TypedRose → Execution
assignment context [] scope s = done meaningless
assignment context (target ∷ trees) scope s = value_of context trees 0 scope s >>= on_value (assign_to (head_of target))

-- the value that several assignments read is behind them
abbrev pub last_value : Context → List TypedRose → Evaluation
last_value context [] scope s = done meaningless
last_value context (tree ∷ []) scope s = eval context tree scope s
last_value context (tree ∷ next_tree ∷ trees) scope s = last_value context (next_tree ∷ trees) scope s

abbrev pub but_last : List Execution → List Execution
but_last [] = []
but_last (x ∷ []) = []
but_last (x ∷ y ∷ xs) = x ∷ but_last (y ∷ xs)

abbrev pub assign_each : Context → List TypedRose → List Execution → Execution
assign_each context trees steps scope s = last_value context trees scope s >>= on_value (λ v. in_turn (but_last steps) (giving v scope))

-- `target op= value`: the target's value, then the value that it gets, in which that one is at hand. A target that has parts evaluates
-- them once.

abbrev pub augment_value : Context → List TypedRose → Execution
augment_value context trees scope s =
    value_of context trees 0 scope s >>= on_value (λ old s1. assignment context trees (giving old scope) s1)

abbrev pub augment_to : Context → TypedHead → List TypedRose → Execution
augment_to context (head.Local slot t) trees scope s = augment_value context trees scope s
augment_to context (head.ModuleName name) trees scope s = augment_value context trees scope s
augment_to context head.Item trees scope s = not_built
augment_to context (head.Part has_from has_to has_step) trees scope s = not_built
augment_to context (head.Element t wraparound) trees scope s = not_built
augment_to context (head.ViewPart t wraparound) trees scope s = not_built
augment_to context _ trees scope s = done meaningless

abbrev pub augmentation : Context → List TypedRose → Execution
augmentation context [] scope s = done meaningless
augmentation context (target ∷ trees) scope s = augment_to context (head_of target) (target ∷ trees) scope s

-- a declared variable gets the value that stands there, if one does
abbrev pub declared : Context → ℕ → ValueType → List TypedRose → Execution
declared context slot t [] scope s = done (gives next s)
declared context slot t (tree ∷ trees) scope s = eval context tree scope s >>= on_value (assign_local slot t)

abbrev pub returned : Context → List TypedRose → Execution
returned context [] scope s = done (gives (returns nothing) s)
returned context (tree ∷ trees) scope s = eval context tree scope s >>= on_value (λ v s1. done (gives (returns v) s1))

-- `if`: the statements of the first arm whose test holds, else those behind the arms

-- the test of an arm, and its statements
pub record Branch : Type 0 where
  pub test : Evaluation
  pub body : Execution

abbrev pub chosen : List Branch → Execution → Execution
chosen [] otherwise scope s = otherwise scope s
chosen (branch ∷ branches) otherwise scope s =
    branch.test scope s >>= on_number (λ holds s1.
    if is_zero holds then chosen branches otherwise scope s1 else branch.body scope s1)

-- `while`: a turn is spent behind a test that holds. The first number bounds the turns.
abbrev pub looping : ℕ → Evaluation → Execution → Execution
looping zero test body scope s = done (spent s)
looping (suc n) test body scope s =
    test scope s >>= on_number (λ holds s1.
    if is_zero holds then done (gives next s1)
    else spending (λ s2. body scope s2 >>= on_value (behind_body (looping n test body scope))) s1)

-- Loops over `range` (Python Library Reference, Ranges): start, stop and step

pub record Bounds : Type 0 where
  pub start : ℤ
  pub stop : ℤ
  pub step : ℤ

abbrev pub bounds : ℤ → ℤ → ℤ → Bounds
bounds start stop step = record { start = start; stop = stop; step = step }

-- of one, two or three arguments
abbrev pub bounds_of : List Value → Option Bounds
bounds_of (whole stop ∷ []) = Some (bounds (pos 0) stop (pos 1))
bounds_of (whole start ∷ whole stop ∷ []) = Some (bounds start stop (pos 1))
bounds_of (whole start ∷ whole stop ∷ whole step ∷ []) = Some (bounds start stop step)
bounds_of _ = None

-- how many indices there are, where the step isn't 0
abbrev pub range_count : Bounds → ℕ
range_count b = div_ceil (slice_distance (goes_up b.step) b.start b.stop) (unsigned_abs b.step)

-- So many turns from an index on. The indices are exact whole numbers, each of which becomes one of the type of the target at its
-- turn, when the turn is spent.
abbrev pub ranging : ℕ → ℤ → ℤ → ℕ → CType → Execution → Execution
ranging zero index step slot t body scope s = done (gives next s)
ranging (suc n) index step slot t body scope s =
    spending (λ s1. body scope (assigned slot (whole (converted t index)) s1)
    >>= on_value (behind_body (ranging n (index +ℤ step) step slot t body scope))) s

abbrev pub range_from : Option Bounds → ℕ → CType → Execution → Execution
range_from None slot t body scope s = done meaningless
range_from (Some b) slot t body scope s =
    if is_zero b.step then done (raised (fault_of ValueError 7) s)
    else ranging (range_count b) b.start b.step slot t body scope s

-- By the target, which is a variable of a C type; loops over `range` with other targets aren't built.
abbrev pub range_over : TypedHead → List Evaluation → Execution → Execution
range_over (head.Local slot (value.C t)) arguments body scope s =
    each arguments scope s >>= on_value (λ values s1. range_from (bounds_of values) slot t body scope s1)
range_over (head.Local slot value.Object) arguments body scope s = not_built
range_over (head.Local slot (value.View t)) arguments body scope s = not_built
range_over (head.Local slot value.Void) arguments body scope s = done meaningless
range_over (head.ModuleName name) arguments body scope s = not_built
range_over head.Item arguments body scope s = not_built
range_over (head.Part has_from has_to has_step) arguments body scope s = not_built
range_over (head.Element t wraparound) arguments body scope s = not_built
range_over (head.ViewPart t wraparound) arguments body scope s = not_built
range_over head.Unpack arguments body scope s = not_built
-- nothing else is a target
range_over _ arguments body scope s = done meaningless

abbrev pub range_of : Context → ℕ → List TypedRose → List Execution → Execution
range_of context count [] steps scope s = done meaningless
range_of context count (target ∷ trees) steps scope s =
    range_over (head_of target) (map (eval context) (take count trees)) (in_turn (drop (suc count) steps)) scope s

-- A statement by its head, its parts, and what those of them that are statements or arms do.
unfoldable pub exec_by : Context → TypedHead → List TypedRose → List Execution → List Branch → Execution
exec_by context head.Expression trees steps branches scope s = expression_alone context trees scope s
exec_by context head.Assign trees steps branches scope s = assignment context trees scope s
exec_by context head.AssignEach trees steps branches scope s = assign_each context trees steps scope s
exec_by context (head.Augment op) trees steps branches scope s = augmentation context trees scope s
exec_by context head.Declare trees steps branches scope s = in_turn steps scope s
exec_by context (head.Declarator slot t) trees steps branches scope s = declared context slot t trees scope s
exec_by context head.Pass trees steps branches scope s = done (gives next s)
exec_by context head.Break trees steps branches scope s = done (gives breaks s)
exec_by context head.Continue trees steps branches scope s = done (gives continues s)
exec_by context head.Return trees steps branches scope s = returned context trees scope s
exec_by context head.Global trees steps branches scope s = done (gives next s)
exec_by context (head.If arms has_else) trees steps branches scope s =
    chosen (take arms branches) (in_turn (drop arms steps)) scope s
exec_by context head.While trees steps branches scope s =
    looping (suc context.bound) (value_of context trees 0) (in_turn (drop 1 steps)) scope s
exec_by context (head.Range arguments) trees steps branches scope s = range_of context arguments trees steps scope s
exec_by context head.WithGil trees steps branches scope s = with_lock (in_turn steps scope) s
exec_by context head.WithNogil trees steps branches scope s = without_lock (in_turn steps scope) s
-- what isn't built
exec_by context head.Unpack trees steps branches scope s = not_built
exec_by context (head.Raise kind) trees steps branches scope s = not_built
exec_by context head.Reraise trees steps branches scope s = not_built
exec_by context (head.Try clauses has_else has_finally) trees steps branches scope s = not_built
exec_by context head.Over trees steps branches scope s = not_built
exec_by context (head.Parallel arguments nogil schedule) trees steps branches scope s = not_built
exec_by context (head.ParallelBlock has_size) trees steps branches scope s = not_built
-- parts of statements, and expressions, are no statements
exec_by context head.Block trees steps branches scope s = done meaningless
exec_by context (head.Handler kinds assigns) trees steps branches scope s = done meaningless
exec_by context (head.Catches kind) trees steps branches scope s = done meaningless
exec_by context head.CatchesAll trees steps branches scope s = done meaningless
exec_by context head.Arm trees steps branches scope s = done meaningless
exec_by context head.ChunkSize trees steps branches scope s = done meaningless
exec_by context head.TeamSize trees steps branches scope s = done meaningless
exec_by context (head.Literal t n) trees steps branches scope s = done meaningless
exec_by context (head.Sizeof t) trees steps branches scope s = done meaningless
exec_by context (head.Constant k) trees steps branches scope s = done meaningless
exec_by context (head.Local slot t) trees steps branches scope s = done meaningless
exec_by context (head.ModuleName name) trees steps branches scope s = done meaningless
exec_by context (head.Given t) trees steps branches scope s = done meaningless
exec_by context (head.Kept t) trees steps branches scope s = done meaningless
exec_by context (head.Converted asked) trees steps branches scope s = done meaningless
exec_by context (head.Cast t) trees steps branches scope s = done meaningless
exec_by context (head.Steps t) trees steps branches scope s = done meaningless
exec_by context (head.Unary op t) trees steps branches scope s = done meaningless
exec_by context (head.Binary op t truncates) trees steps branches scope s = done meaningless
exec_by context (head.Compare how) trees steps branches scope s = done meaningless
exec_by context head.Comparisons trees steps branches scope s = done meaningless
exec_by context head.Not trees steps branches scope s = done meaningless
exec_by context (head.And t) trees steps branches scope s = done meaningless
exec_by context (head.Or t) trees steps branches scope s = done meaningless
exec_by context (head.Conditional t) trees steps branches scope s = done meaningless
exec_by context (head.Call function t) trees steps branches scope s = done meaningless
exec_by context (head.Abs t) trees steps branches scope s = done meaningless
exec_by context (head.Min t) trees steps branches scope s = done meaningless
exec_by context (head.Max t) trees steps branches scope s = done meaningless
exec_by context head.ThreadId trees steps branches scope s = done meaningless
exec_by context (head.ObjectUnary op) trees steps branches scope s = done meaningless
exec_by context (head.ObjectBinary op) trees steps branches scope s = done meaningless
exec_by context head.Tuple trees steps branches scope s = done meaningless
exec_by context head.List trees steps branches scope s = done meaningless
exec_by context head.Dict trees steps branches scope s = done meaningless
exec_by context head.Item trees steps branches scope s = done meaningless
exec_by context (head.Part has_from has_to has_step) trees steps branches scope s = done meaningless
exec_by context (head.Method method) trees steps branches scope s = done meaningless
exec_by context (head.Builtin what) trees steps branches scope s = done meaningless
exec_by context (head.Element t wraparound) trees steps branches scope s = done meaningless
exec_by context (head.ViewPart t wraparound) trees steps branches scope s = done meaningless
exec_by context head.Index trees steps branches scope s = done meaningless
exec_by context (head.Slice has_from has_to has_step) trees steps branches scope s = done meaningless
exec_by context head.NewAxis trees steps branches scope s = done meaningless
exec_by context head.Ellipsis trees steps branches scope s = done meaningless
exec_by context (head.Transposed t) trees steps branches scope s = done meaningless
exec_by context (head.Copied t) trees steps branches scope s = done meaningless
exec_by context head.Length trees steps branches scope s = done meaningless
exec_by context (head.Extent axis) trees steps branches scope s = done meaningless
exec_by context head.Array trees steps branches scope s = done meaningless
exec_by context (head.Keyword keyword) trees steps branches scope s = done meaningless

unfoldable mutual
  -- what a statement does, and how it ends
  pub exec : Context → TypedRose → Execution
  exec context (rose head number at parts) scope s =
      exec_by context head (listed parts) (executions context parts) (branches_of context parts) scope s

  pub executions : Context → Roses TypedHead → List Execution
  executions context none = []
  executions context (more tree trees) = exec context tree ∷ executions context trees

  -- what parts are as arms
  pub branches_of : Context → Roses TypedHead → List Branch
  branches_of context none = []
  branches_of context (more tree trees) = branch_of context tree ∷ branches_of context trees

  pub branch_of : Context → TypedRose → Branch
  branch_of context (rose head number at parts) =
      record { test = value_of context (listed parts) 0; body = in_turn (drop 1 (executions context parts)) }
