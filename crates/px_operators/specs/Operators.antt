-- Operators on C operands, each with the common type of its operands as a rule.
use Rattle.std.specs.Prelude.{ℕ, Bool, true, false, ◌&&◌, if◌then◌else◌, List, [], ◌∷◌, map, zip, fold, Ok}
use Rattle.px_base.specs.declared.refusals.Span.{Span}
use Rattle.px_base.specs.declared.c_types.CType.{CType}
use Rattle.px_base.specs.declared.c_types.BinOp.{BinOp}
use Rattle.px_base.specs.declared.c_types.BinOp.TheVariants as binary
use Rattle.px_base.specs.declared.c_types.UnOp.{UnOp}
use Rattle.px_base.specs.declared.c_types.CmpOp.{CmpOp}
use Rattle.px_tree.specs.declared.typed_values.ValueType.{ValueType}
use Rattle.px_tree.specs.declared.typed_values.ValueType.TheVariants as value
use Rattle.px_tree.specs.declared.typed_values.Comparing.TheVariants as comparing
use Rattle.px_tree.specs.declared.typed_heads.TypedHead.{TypedHead}
use Rattle.px_tree.specs.declared.typed_heads.TypedHead.TheVariants as head
use Rattle.px_ctypes.specs.Conversions.{promoted, common}
use Rattle.px_ctypes.specs.Operators.{is_shift}
use Rattle.px_walk.specs.Roses.{number_of, at_of}
use Rattle.px_typed_walk.specs.TypedView.{TypedRose, typed_node, type_of}
use Rattle.px_operators.specs.Outcomes.{Outcome, refused, unbuilt, followed, mapped, both, all_of, single, only}
use Rattle.px_operators.specs.Conversions.{in_c, tested}

-- Operands. Neither a view nor a void call is one.

-- an operand with its C type
abbrev pub Operand : Type 0
Operand = TypedRose × CType

abbrev pub operand_of : TypedRose → ValueType → Outcome Operand
operand_of tree (value.C t) = Ok (tree, t)
operand_of tree value.Object = unbuilt (at_of tree)
operand_of tree (value.View t) = refused (at_of tree)
operand_of tree value.Void = refused (at_of tree)

abbrev pub operand : TypedRose → Outcome Operand
operand tree = operand_of tree (type_of tree)

abbrev pub operands : List (Outcome TypedRose) → Outcome (List Operand)
operands outcomes = all_of (map (λ outcome. followed outcome operand) outcomes)

-- the value at hand: its type, the number of the node that reads it, and its place
abbrev pub given : ℕ → Span → CType → Operand
given number at t = (typed_node (head.Given (value.C t)) number at [], t)

-- Unary `+ - ~` have the promoted type.

abbrev pub unary_step : UnOp → ℕ → Span → Operand → TypedRose
unary_step op number at (tree, t) =
    typed_node (head.Unary op (promoted t)) number at (in_c (promoted t) (tree, t) ∷ [])

abbrev pub unary_of : UnOp → ℕ → Span → List Operand → Outcome TypedRose
unary_of op number at operands = mapped (unary_step op number at) (single at operands)

-- `+ - * & | ^ // %` have the common type. A shift has the promoted left type, and its count is compared as a whole number.

abbrev pub binary_type : BinOp → CType → CType → CType
binary_type op left right = if is_shift op then promoted left else common left right

-- the type in which the right operand is taken
abbrev pub right_type : BinOp → CType → CType → CType
right_type op left right = if is_shift op then right else common left right

abbrev pub is_division : BinOp → Bool
is_division binary.FloorDiv = true
is_division binary.Mod = true
is_division _ = false

abbrev pub binary_step : Bool → ℕ → Span → BinOp → Operand → Operand → TypedRose
binary_step cdivision number at op left right =
    typed_node (head.Binary op (binary_type op left.1 right.1) (is_division op && cdivision)) number at
    (in_c (binary_type op left.1 right.1) left ∷ in_c (right_type op left.1 right.1) right ∷ [])

-- Operators of one level group from the left. Each step behind the first is on the value of the one before.
abbrev pub binary_steps : Bool → ℕ → Span → Operand → List (BinOp × Operand) → List TypedRose
binary_steps cdivision number at left [] = []
binary_steps cdivision number at left ((op, right) ∷ others) =
    binary_step cdivision number at op left right
    ∷ binary_steps cdivision number at (given number at (binary_type op left.1 right.1)) others

-- the type of the last of some steps behind one of this type
abbrev pub last_type : ValueType → List TypedRose → ValueType
last_type t [] = t
last_type t (step ∷ steps) = last_type (type_of step) steps

-- one step is itself, and several are one node
abbrev pub of_steps : ℕ → Span → List TypedRose → Outcome TypedRose
of_steps number at [] = unbuilt at
of_steps number at (step ∷ []) = Ok step
of_steps number at (step ∷ next ∷ steps) =
    Ok (typed_node (head.Steps (last_type (type_of next) steps)) number at (step ∷ next ∷ steps))

abbrev pub chain_of : Bool → ℕ → Span → List BinOp → List Operand → Outcome TypedRose
chain_of cdivision number at ops [] = unbuilt at
chain_of cdivision number at ops (first ∷ others) = of_steps number at (binary_steps cdivision number at first (zip ops others))

abbrev pub compare_step : ℕ → Span → CmpOp → Operand → Operand → TypedRose
compare_step number at op left right =
    typed_node (head.Compare (comparing.C op (common left.1 right.1))) number at
    (in_c (common left.1 right.1) left ∷ in_c (common left.1 right.1) right ∷ [])

-- an operand that the next comparison reads too
abbrev pub kept : Operand → Operand
kept (tree, t) = (typed_node (head.Kept (value.C t)) (number_of tree) (at_of tree) (tree ∷ []), t)

abbrev pub compare_steps : ℕ → Span → Operand → List (CmpOp × Operand) → List TypedRose
compare_steps number at left [] = []
compare_steps number at left ((op, right) ∷ []) = compare_step number at op left right ∷ []
compare_steps number at left ((op, right) ∷ next ∷ others) =
    compare_step number at op left (kept right)
    ∷ compare_steps number at (given number (at_of right.0) right.1) (next ∷ others)

abbrev pub of_comparisons : ℕ → Span → List TypedRose → Outcome TypedRose
of_comparisons number at [] = unbuilt at
of_comparisons number at (step ∷ []) = Ok step
of_comparisons number at (step ∷ next ∷ steps) = Ok (typed_node head.Comparisons number at (step ∷ next ∷ steps))

abbrev pub comparison_of : ℕ → Span → List CmpOp → List Operand → Outcome TypedRose
comparison_of number at ops [] = unbuilt at
comparison_of number at ops (first ∷ others) = of_comparisons number at (compare_steps number at first (zip ops others))

-- `and` and `or` have the common type of their operands, to which each is converted. They group from the left too.

abbrev pub logic_step : (ValueType → TypedHead) → ℕ → Span → Operand → Operand → TypedRose
logic_step made number at left right =
    typed_node (made (value.C (common left.1 right.1))) number at
    (in_c (common left.1 right.1) left ∷ in_c (common left.1 right.1) right ∷ [])

abbrev pub logic_steps : (ValueType → TypedHead) → ℕ → Span → Operand → List Operand → List TypedRose
logic_steps made number at left [] = []
logic_steps made number at left (right ∷ others) =
    logic_step made number at left right ∷ logic_steps made number at (given number at (common left.1 right.1)) others

abbrev pub logic_of : (ValueType → TypedHead) → ℕ → Span → List Operand → Outcome TypedRose
logic_of made number at [] = unbuilt at
logic_of made number at (first ∷ others) = of_steps number at (logic_steps made number at first others)

-- `min` and `max` of two or more operands have the common type of all, to which each is first converted.

abbrev pub common_of : CType → List Operand → CType
common_of t operands = fold (λ so_far next. common so_far next.1) t operands

abbrev pub in_common : TypedHead → ℕ → Span → CType → List Operand → TypedRose
in_common head number at t operands = typed_node head number at (map (in_c t) operands)

abbrev pub of_common : (CType → TypedHead) → ℕ → Span → List Operand → Outcome TypedRose
of_common made number at [] = unbuilt at
of_common made number at (only ∷ []) = unbuilt at
of_common made number at (first ∷ next ∷ others) =
    Ok (in_common (made (common_of first.1 (next ∷ others))) number at (common_of first.1 (next ∷ others)) (first ∷ next ∷ others))

-- `not` is a bint.
abbrev pub not_of : ℕ → Span → List (Outcome TypedRose) → Outcome TypedRose
not_of number at outcomes = mapped (λ test. typed_node head.Not number at (test ∷ [])) (followed (only at outcomes) tested)

-- The conditional has the common type of its values; its test is a truth.

abbrev pub choice : ℕ → Span → (Operand × TypedRose) × Operand → TypedRose
choice number at ((left, test), right) =
    typed_node (head.Conditional (value.C (common left.1 right.1))) number at
    (in_c (common left.1 right.1) left ∷ test ∷ in_c (common left.1 right.1) right ∷ [])

abbrev pub conditional_of : ℕ → Span → List (Outcome TypedRose) → Outcome TypedRose
conditional_of number at (left ∷ test ∷ right ∷ []) =
    mapped (choice number at) (both (both (followed left operand) (followed test tested)) (followed right operand))
conditional_of number at _ = unbuilt at
