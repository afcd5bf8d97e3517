-- Laws of the types of operators and of their chains.
use Rattle.std.proofs.Common.{◌≡◌, ℕ, List, [], ◌∷◌, refl, sym, ap, ◌∙◌}
use Rattle.std.specs.Prelude.{Bool, Ok, Err, zip}
use Rattle.px_base.specs.declared.refusals.Span.{Span}
use Rattle.px_base.specs.declared.c_types.CType.{CType}
use Rattle.px_base.specs.declared.c_types.CType.TheVariants as c
use Rattle.px_base.specs.declared.c_types.BinOp.{BinOp}
use Rattle.px_base.specs.declared.c_types.CmpOp.{CmpOp}
use Rattle.px_ctypes.specs.Conversions.{common}
use Rattle.px_tree.specs.TypedTypes.{type_of_head}
use Rattle.px_tree.specs.declared.typed_values.ValueType.{ValueType}
use Rattle.px_tree.specs.declared.typed_values.ValueType.TheVariants as value
use Rattle.px_tree.specs.declared.typed_heads.TypedHead.{TypedHead}
use Rattle.px_tree.specs.declared.typed_heads.TypedHead.TheVariants as head
use Rattle.px_walk.specs.Roses.{at_of}
use Rattle.px_typed_walk.specs.TypedView.{TypedRose, typed_node, type_of}
use Rattle.px_operators.specs.Outcomes.{Outcome, followed, mapped, only}
use Rattle.px_operators.specs.Conversions.{tested}
use Rattle.px_operators.specs.Laws.{chain_type}
use Rattle.px_operators.specs.Operators.{Operand, operand_of, operand, given, kept, binary_type, binary_step, binary_steps, last_type, of_steps, chain_of, compare_step, compare_steps, of_comparisons, comparison_of, logic_step, logic_steps, logic_of, common_of, in_common, of_common, not_of}

operand_has : (t : ValueType) (tree : TypedRose) (o : Operand) → type_of tree ≡ t → operand_of tree t ≡ Ok o → type_of o.0 ≡ value.C o.1
operand_has (value.C t) tree o has is =
    let same : o ≡ (tree, t) = cc in
    ap (λ (p : Operand). type_of p.0) same ∙ has ∙ ap (λ (p : Operand). value.C p.1) (sym same)
operand_has value.Object tree o has is = cc
operand_has (value.View t) tree o has is = cc
operand_has value.Void tree o has is = cc

pub operand_type : (tree : TypedRose) (o : Operand) → operand tree ≡ Ok o → type_of o.0 ≡ value.C o.1
operand_type tree o is = operand_has (type_of tree) tree o refl is

-- ---- nodes of all operands

mapped_type : (t : ValueType) (f : TypedRose → TypedRose) (o : Outcome TypedRose) (made : TypedRose) → ((tree : TypedRose) → type_of (f tree) ≡ t) → mapped f o ≡ Ok made → type_of made ≡ t
mapped_type t f (Ok tree) made all is = let same : made ≡ f tree = cc in ap type_of same ∙ all tree
mapped_type t f (Err refusal) made all is = cc

pub not_type : (number : ℕ) (at : Span) (outcomes : List (Outcome TypedRose)) (made : TypedRose) → not_of number at outcomes ≡ Ok made → type_of made ≡ value.C c.Bint
not_type number at outcomes made is =
    mapped_type (value.C c.Bint) (λ test. typed_node head.Not number at (test ∷ [])) (followed (only at outcomes) tested) made (λ tree. refl) is

pub common_type : (made_of : CType → TypedHead) (number : ℕ) (at : Span) (first next : Operand) (others : List Operand) (made : TypedRose)
    → ((t : CType) → type_of_head (made_of t) ≡ value.C t)
    → of_common made_of number at (first ∷ next ∷ others) ≡ Ok made → type_of made ≡ value.C (common_of first.1 (next ∷ others))
common_type made_of number at first next others made heads is =
    let t = common_of first.1 (next ∷ others) in
    let same : made ≡ in_common (made_of t) number at t (first ∷ next ∷ others) = cc in
    ap type_of same ∙ heads t

-- ---- chains

steps_type : (number : ℕ) (at : Span) (step : TypedRose) (steps : List TypedRose) (made : TypedRose) → of_steps number at (step ∷ steps) ≡ Ok made → type_of made ≡ last_type (type_of step) steps
steps_type number at step [] made is = let same : made ≡ step = cc in ap type_of same
steps_type number at step (next ∷ steps) made is =
    let same : made ≡ typed_node (head.Steps (last_type (type_of next) steps)) number at (step ∷ next ∷ steps) = cc in
    ap type_of same

last_binary : (cdivision : Bool) (number : ℕ) (at : Span) (left : Operand) (pairs : List (BinOp × Operand)) (t : ValueType)
    → t ≡ value.C left.1 → last_type t (binary_steps cdivision number at left pairs) ≡ value.C (chain_type left.1 pairs)
last_binary cdivision number at left [] t is = is
last_binary cdivision number at left ((op, right) ∷ pairs) t is =
    last_binary cdivision number at (given number at (binary_type op left.1 right.1)) pairs (value.C (binary_type op left.1 right.1)) refl

binary_chain : (cdivision : Bool) (number : ℕ) (at : Span) (first : Operand) (pairs : List (BinOp × Operand)) (made : TypedRose)
    → of_steps number at (binary_steps cdivision number at first pairs) ≡ Ok made → type_of made ≡ value.C (chain_type first.1 pairs)
binary_chain cdivision number at first [] made is = cc
binary_chain cdivision number at first ((op, right) ∷ pairs) made is =
    steps_type number at (binary_step cdivision number at op first right) (binary_steps cdivision number at (given number at (binary_type op first.1 right.1)) pairs) made is
    ∙ last_binary cdivision number at (given number at (binary_type op first.1 right.1)) pairs (value.C (binary_type op first.1 right.1)) refl

pub chain_has : (cdivision : Bool) (number : ℕ) (at : Span) (ops : List BinOp) (first : Operand) (others : List Operand) (made : TypedRose)
    → chain_of cdivision number at ops (first ∷ others) ≡ Ok made → type_of made ≡ value.C (chain_type first.1 (zip ops others))
chain_has cdivision number at ops first others made is = binary_chain cdivision number at first (zip ops others) made is

last_logic : (made_of : ValueType → TypedHead) (heads : (t : ValueType) → type_of_head (made_of t) ≡ t) (number : ℕ) (at : Span) (left : Operand) (others : List Operand) (t : ValueType)
    → t ≡ value.C left.1 → last_type t (logic_steps made_of number at left others) ≡ value.C (common_of left.1 others)
last_logic made_of heads number at left [] t is = is
last_logic made_of heads number at left (right ∷ others) t is =
    last_logic made_of heads number at (given number at (common left.1 right.1)) others (type_of (logic_step made_of number at left right)) (heads (value.C (common left.1 right.1)))

pub logic_has : (made_of : ValueType → TypedHead) (heads : (t : ValueType) → type_of_head (made_of t) ≡ t) (number : ℕ) (at : Span) (first : Operand) (others : List Operand) (made : TypedRose)
    → logic_of made_of number at (first ∷ others) ≡ Ok made → type_of made ≡ value.C (common_of first.1 others)
logic_has made_of heads number at first [] made is = cc
logic_has made_of heads number at first (right ∷ others) made is =
    steps_type number at (logic_step made_of number at first right) (logic_steps made_of number at (given number at (common first.1 right.1)) others) made is
    ∙ last_logic made_of heads number at (given number at (common first.1 right.1)) others (type_of (logic_step made_of number at first right)) (heads (value.C (common first.1 right.1)))

of_comparisons_type : (number : ℕ) (at : Span) (step : TypedRose) (steps : List TypedRose) (made : TypedRose)
    → type_of step ≡ value.C c.Bint → of_comparisons number at (step ∷ steps) ≡ Ok made → type_of made ≡ value.C c.Bint
of_comparisons_type number at step [] made has is = let same : made ≡ step = cc in ap type_of same ∙ has
of_comparisons_type number at step (next ∷ steps) made has is =
    let same : made ≡ typed_node head.Comparisons number at (step ∷ next ∷ steps) = cc in
    ap type_of same

comparisons_have : (number : ℕ) (at : Span) (first : Operand) (pairs : List (CmpOp × Operand)) (made : TypedRose)
    → of_comparisons number at (compare_steps number at first pairs) ≡ Ok made → type_of made ≡ value.C c.Bint
comparisons_have number at first [] made is = cc
comparisons_have number at first ((op, right) ∷ []) made is = of_comparisons_type number at (compare_step number at op first right) [] made refl is
comparisons_have number at first ((op, right) ∷ next ∷ pairs) made is =
    of_comparisons_type number at (compare_step number at op first (kept right)) (compare_steps number at (given number (at_of right.0) right.1) (next ∷ pairs)) made refl is

pub comparison_has : (number : ℕ) (at : Span) (ops : List CmpOp) (operands : List Operand) (made : TypedRose)
    → comparison_of number at ops operands ≡ Ok made → type_of made ≡ value.C c.Bint
comparison_has number at ops [] made is = cc
comparison_has number at ops (first ∷ others) made is = comparisons_have number at first (zip ops others) made is
