-- The types of statements, one clause for each form.
use Rattle.std.specs.Prelude.{ℕ, Bool, true, false, ◌||◌, if◌then◌else◌, List, [], ◌∷◌, ◌++◌, length, take, drop, map, slice_get, Option, Some, None, Ok}
use Rattle.px_base.specs.declared.refusals.Span.{Span}
use Rattle.px_base.specs.declared.c_types.BinOp.{BinOp}
use Rattle.px_tree.specs.declared.typed_values.ValueType.{ValueType}
use Rattle.px_tree.specs.declared.typed_values.ValueType.TheVariants as value
use Rattle.px_tree.specs.declared.typed_heads.TypedHead.{TypedHead}
use Rattle.px_tree.specs.declared.typed_heads.TypedHead.TheVariants as head
use Rattle.px_walk.specs.Forms.{Form}
use Rattle.px_walk.specs.Forms as form
use Rattle.px_walk.specs.Roses.{Roses, rose, none, more, listed, head_of, number_of, at_of, parts_of}
use Rattle.px_walk.specs.ExprView.{Tree}
use Rattle.px_typed_walk.specs.TypedView.{TypedRose, typed_node, type_of}
use Rattle.px_operators.specs.Outcomes.{Outcome, refused, refused_with, unbuilt, followed, mapped, both, all_of, flat}
use Rattle.px_environments.specs.declared.signatures.Variable.{Variable}
use Rattle.px_environments.specs.Environments.{Environment}
use Rattle.px_environments.specs.WrittenTypes.{first_type}
use Rattle.px_operators.specs.Conversions.{fitted, tested, valued}
use Rattle.px_operators.specs.Operators.{Operand, operand, operands, given, binary_step}
use Rattle.px_typed_expressions.specs.Expressions.{expression, expression_at, operands_below}
use Rattle.px_environments.specs.Atoms.{is_range_head}

-- a node of these parts
abbrev pub made : TypedHead → ℕ → Span → Outcome (List TypedRose) → Outcome TypedRose
made head number at parts = mapped (λ trees. typed_node head number at trees) parts

-- Assignments. The value is evaluated once and converted into the type of each target.

abbrev pub fitted_to : TypedRose × TypedRose → Outcome (List TypedRose)
fitted_to (target, tree) = mapped (λ fit. target ∷ fit ∷ []) (fitted (type_of target) tree)

abbrev pub assigned : ℕ → Span → TypedRose × TypedRose → Outcome TypedRose
assigned number at parts = made head.Assign number at (fitted_to parts)

-- the value at hand, of this type and from this place, as a target reads it
abbrev pub value_given : ValueType → Span → TypedRose → TypedRose
value_given t at target = typed_node (head.Given t) (number_of target) at []

abbrev pub assigned_at : ValueType → Span → TypedRose → Outcome TypedRose
assigned_at t at target = assigned (number_of target) (at_of target) (target, value_given t at target)

abbrev pub assigned_given : TypedRose → TypedRose → Outcome TypedRose
assigned_given tree target = assigned_at (type_of tree) (at_of tree) target

abbrev pub assigned_each : ℕ → Span → List TypedRose × TypedRose → Outcome TypedRose
assigned_each number at (targets, tree) =
    mapped (λ steps. typed_node head.AssignEach number at (steps ++ tree ∷ [])) (all_of (map (assigned_given tree) targets))

-- an expression alone may be of any type, also none
abbrev pub assignment : ℕ → Span → List (Outcome TypedRose) → Outcome TypedRose → Outcome TypedRose
assignment number at [] tree = mapped (λ t. typed_node head.Expression number at (t ∷ [])) tree
assignment number at (target ∷ []) tree = followed (both target (followed tree valued)) (assigned number at)
assignment number at (target ∷ next ∷ targets) tree =
    followed (both (all_of (target ∷ next ∷ targets)) (followed tree valued)) (assigned_each number at)

abbrev pub assign_of : Environment → ℕ → Span → ℕ → List Tree → Outcome TypedRose
assign_of environment number at targets parts =
    assignment number at (map (expression environment) (take targets parts)) (expression_at environment at (slice_get parts targets))

-- `target op= value` is the operator on the target's value and the other one, converted into the target's type

abbrev pub augmented : Bool → ℕ → Span → BinOp → Operand × Operand → Outcome TypedRose
augmented cdivision number at op ((target, t), right) =
    made (head.Augment op) number at
    (fitted_to (target, binary_step cdivision number at op (given number (at_of target) t) right))

abbrev pub augment_of : Environment → ℕ → Span → BinOp → List Tree → Outcome TypedRose
augment_of environment number at op parts =
    followed
    (both (followed (expression_at environment at (slice_get parts 0)) operand)
    (followed (expression_at environment at (slice_get parts 1)) operand))
    (augmented environment.cdivision number at op)

-- Declarations of variables, each with the value that it is given.

abbrev pub declared_with : Environment → Variable → ℕ → Span → List Tree → Outcome TypedRose
declared_with environment variable number at [] = Ok (typed_node (head.Declarator variable.slot variable.value_type) number at [])
declared_with environment variable number at (part ∷ parts) =
    mapped (λ fit. typed_node (head.Declarator variable.slot variable.value_type) number at (fit ∷ []))
    (followed (expression environment part) (fitted variable.value_type))

abbrev pub declared_by : Environment → Option Variable → ℕ → Span → List Tree → Outcome TypedRose
declared_by environment None number at parts = unbuilt at
declared_by environment (Some variable) number at parts = declared_with environment variable number at parts

abbrev pub declarator : Environment → Tree → Outcome TypedRose
declarator environment tree =
    declared_by environment (environment.variables (number_of tree)) (number_of tree) (at_of tree) (parts_of tree)

-- a type that isn't one is refused at its declaration
abbrev pub declarators_of : Environment → Span → Option ValueType → List Tree → Outcome (List TypedRose)
declarators_of environment at None names = refused at
declarators_of environment at (Some t) names = all_of (map (declarator environment) names)

abbrev pub declaration : Environment → Tree → Outcome (List TypedRose)
declaration environment tree = declarators_of environment (at_of tree) (first_type (parts_of tree)) (drop 1 (parts_of tree))

abbrev pub declare_of : Environment → ℕ → Span → List Tree → Outcome TypedRose
declare_of environment number at declarations =
    made head.Declare number at (mapped flat (all_of (map (declaration environment) declarations)))

-- `return` stands in a function alone, and gives a value of its result's type; a void function has none.

abbrev pub returned_as : ValueType → Span → Outcome TypedRose → Outcome TypedRose
returned_as value.Void at outcome = refused_with at outcome
returned_as t at outcome = followed outcome (fitted t)

abbrev pub returned : Environment → ValueType → Tree → Outcome TypedRose
returned environment t tree = returned_as t (at_of tree) (expression environment tree)

abbrev pub return_in : Environment → Option ValueType → ℕ → Span → List Tree → Outcome TypedRose
return_in environment None number at parts =
    refused_with at (made head.Return number at (all_of (map (expression environment) parts)))
return_in environment (Some t) number at parts = made head.Return number at (all_of (map (returned environment t) parts))

-- Blocks, with what their statements come to.

-- a test and the block that it guards
abbrev pub guarded : TypedHead → ℕ → Span → Outcome TypedRose → List (Outcome TypedRose) → Outcome TypedRose
guarded head number at test block = made head number at (all_of (followed test tested ∷ block))

abbrev pub if_of : ℕ → Bool → ℕ → Span → List (Outcome TypedRose) → Outcome TypedRose
if_of arms has_else number at block = made (head.If arms has_else) number at (all_of block)

-- a loop over `range`: where the target is a C variable and the arguments are C, the indices are converted into its type at each turn

abbrev pub trees_of : Operand → TypedRose
trees_of (tree, t) = tree

abbrev pub range_arguments : List (Outcome TypedRose) → Outcome (List TypedRose)
range_arguments outcomes = mapped (map trees_of) (operands outcomes)

abbrev pub range_parts : ℕ → Span → (TypedRose × List TypedRose) × List TypedRose → TypedRose
range_parts number at ((target, arguments), block) =
    typed_node (head.Range (length arguments)) number at (target ∷ arguments ++ block)

abbrev pub range_loop : ℕ → Span → Outcome TypedRose → List (Outcome TypedRose) → List (Outcome TypedRose) → Outcome TypedRose
range_loop number at target arguments block =
    mapped (range_parts number at)
    (both (both (mapped trees_of (followed target operand)) (range_arguments arguments)) (all_of block))

abbrev pub for_over : Environment → ℕ → Span → Outcome TypedRose → Tree → List (Outcome TypedRose) → Outcome TypedRose
for_over environment number at target tree block =
    if is_range_head environment tree (head_of tree) then range_loop number at target (operands_below environment tree) block
    else unbuilt at

abbrev pub for_of : Environment → ℕ → Span → List Tree → List (Outcome TypedRose) → Outcome TypedRose
for_of environment number at (target ∷ tree ∷ parts) block = for_over environment number at (expression environment target) tree block
for_of environment number at _ block = unbuilt at

-- `break` and `continue` stand in a loop.
abbrev pub in_loop : Bool → TypedHead → ℕ → Span → Outcome TypedRose
in_loop true head number at = Ok (typed_node head number at [])
in_loop false head number at = refused at

-- A statement by its form, its parts, and what those of them that are statements or arms come to; the flag says that it stands in a
-- loop.
abbrev pub statement_by : Environment → Bool → Form → ℕ → Span → List Tree → List (Outcome TypedRose) → Outcome TypedRose
statement_by environment looped (form.Assign targets) number at parts block = assign_of environment number at targets parts
statement_by environment looped (form.Augment op) number at parts block = augment_of environment number at op parts
statement_by environment looped form.Pass number at parts block = Ok (typed_node head.Pass number at [])
statement_by environment looped form.Break number at parts block = in_loop looped head.Break number at
statement_by environment looped form.Continue number at parts block = in_loop looped head.Continue number at
statement_by environment looped form.Return number at parts block =
    return_in environment environment.gives number at parts
statement_by environment looped (form.Global names) number at parts block = Ok (typed_node head.Global number at [])
statement_by environment looped (form.If arms has_else) number at parts block = if_of arms has_else number at block
statement_by environment looped form.Arm number at parts block =
    guarded head.Arm number at (expression_at environment at (slice_get parts 0)) (drop 1 block)
statement_by environment looped form.While number at parts block =
    guarded head.While number at (expression_at environment at (slice_get parts 0)) (drop 1 block)
statement_by environment looped form.For number at parts block = for_of environment number at parts (drop 2 block)
statement_by environment looped form.Declare number at parts block = declare_of environment number at parts
statement_by environment looped form.DeclareGroup number at parts block = declare_of environment number at parts
statement_by environment looped _ number at parts block = unbuilt at

abbrev pub is_loop : Form → Bool
is_loop form.While = true
is_loop form.For = true
is_loop _ = false

unfoldable mutual
  pub statement : Environment → Bool → Tree → Outcome TypedRose
  statement environment looped (rose head number at parts) =
      statement_by environment looped head number at (listed parts) (statements environment (looped || is_loop head) parts)

  pub statements : Environment → Bool → Roses Form → List (Outcome TypedRose)
  statements environment looped none = []
  statements environment looped (more part parts) = statement environment looped part ∷ statements environment looped parts
