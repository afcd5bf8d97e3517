-- Operators once they are erased: the steps of a chain are its operands with the operators between them.
use Rattle.std.proofs.Common.{◌≡◌, ℕ, List, [], ◌∷◌, ◌++◌, map, refl, sym, ap, ◌∙◌, append-nil}
use Rattle.std.specs.Prelude.{Bool, ◌&&◌, zip, flat_map, Ok}
use Rattle.px_base.specs.declared.refusals.Span.{Span}
use Rattle.px_base.specs.declared.c_types.CType.{CType}
use Rattle.px_base.specs.declared.c_types.CType.TheVariants as c
use Rattle.px_base.specs.declared.c_types.BinOp.{BinOp}
use Rattle.px_base.specs.declared.c_types.CmpOp.{CmpOp}
use Rattle.px_base.specs.declared.c_types.UnOp.{UnOp}
use Rattle.px_base.specs.declared.objects.Builtin.TheVariants as builtin
use Rattle.px_ctypes.specs.Conversions.{promoted, common}
use Rattle.px_tree.specs.declared.typed_values.ValueType.TheVariants as value_type
use Rattle.px_tree.specs.declared.typed_values.Comparing.TheVariants as comparing
use Rattle.px_tree.specs.declared.typed_heads.TypedHead.TheVariants as head
use Rattle.px_walk.specs.Forms.{Form}
use Rattle.px_walk.specs.Forms as form
use Rattle.px_walk.specs.Roses.{at_of}
use Rattle.px_typed_walk.specs.TypedView.{TypedRose, typed_node, type_of}
use Rattle.px_operators.specs.Outcomes.{Outcome, followed, both, single, only}
use Rattle.px_operators.specs.Conversions.{tested, in_c}
use Rattle.px_operators.specs.Operators.{Operand, operand, given, kept, unary_step, unary_of, binary_type, right_type, is_division, binary_step, binary_steps, last_type, of_steps, chain_of, compare_step, compare_steps, of_comparisons, comparison_of, logic_step, logic_steps, logic_of, common_of, in_common, of_common, not_of, choice, conditional_of}
use Rattle.px_type_laws.specs.PlainForms.{PlainTree, written, link, comparison, call_row}
use Rattle.px_type_laws.specs.PlainForms as plain
use Rattle.px_type_laws.specs.Erased.{erased, spelled, added}
use Rattle.px_type_laws.specs.BareExpressions.{with_operators, behind_first}
use Rattle.px_type_laws.proofs.OutcomeParts.{ok_same, followed_ok, mapped_ok, both_ok, single_ok}
use Rattle.px_type_laws.proofs.Agreements.{Agrees, Agree, only_shown}
use Rattle.px_type_laws.proofs.ErasedNodes.{node_erased, in_c_erased, fitted_erased, fitted_shown, operand_erased, operands_erased, operand_shown, in_c_each, hand, given_erased, kept_erased, added_behind, joined_steps}

-- ---- operators on one or two operands

pub unary_erased : (op : UnOp) (number : ℕ) (at : Span) (os : List Operand) (typed : TypedRose) → unary_of op number at os ≡ Ok typed
    → erased typed ≡ written (form.Unary op) number at (operands_erased os)
unary_erased op number at os typed is =
    let found = mapped_ok (unary_step op number at) (single at os) typed is in
    let o : Operand = found.0 in
    ap erased (sym found.2)
    ∙ node_erased (head.Unary op (promoted o.1)) number at (in_c (promoted o.1) o ∷ [])
    ∙ ap (λ (t : PlainTree). written (form.Unary op) number at (t ∷ [])) (in_c_erased (promoted o.1) o)
    ∙ ap (λ (taken : List Operand). written (form.Unary op) number at (operands_erased taken)) (sym (single_ok at os o found.1))

binary_erased : (cdivision : Bool) (number : ℕ) (at : Span) (op : BinOp) (left right : Operand)
    → erased (binary_step cdivision number at op left right) ≡ written form.Chain number at (operand_erased left ∷ link op (operand_erased right) ∷ [])
binary_erased cdivision number at op left right =
    let first = in_c (binary_type op left.1 right.1) left in
    let second = in_c (right_type op left.1 right.1) right in
    node_erased (head.Binary op (binary_type op left.1 right.1) (is_division op && cdivision)) number at (first ∷ second ∷ [])
    ∙ ap (λ (t : PlainTree). written form.Chain number at (t ∷ link op (erased second) ∷ [])) (in_c_erased (binary_type op left.1 right.1) left)
    ∙ ap (λ (t : PlainTree). written form.Chain number at (operand_erased left ∷ link op t ∷ [])) (in_c_erased (right_type op left.1 right.1) right)

-- an operator on the value at hand
pub binary_next : (cdivision : Bool) (number : ℕ) (at place : Span) (op : BinOp) (t : CType) (right : Operand)
    → erased (binary_step cdivision number at op (given number place t) right) ≡ written form.Chain number at (hand number place ∷ link op (operand_erased right) ∷ [])
binary_next cdivision number at place op t right =
    binary_erased cdivision number at op (given number place t) right
    ∙ ap (λ (h : PlainTree). written form.Chain number at (h ∷ link op (operand_erased right) ∷ [])) (given_erased number place t)

compare_erased : (number : ℕ) (at : Span) (op : CmpOp) (left right : Operand)
    → erased (compare_step number at op left right) ≡ written form.Compare number at (operand_erased left ∷ comparison (spelled op) (operand_erased right) ∷ [])
compare_erased number at op left right =
    let first = in_c (common left.1 right.1) left in
    let second = in_c (common left.1 right.1) right in
    node_erased (head.Compare (comparing.C op (common left.1 right.1))) number at (first ∷ second ∷ [])
    ∙ ap (λ (t : PlainTree). written form.Compare number at (t ∷ comparison (spelled op) (erased second) ∷ [])) (in_c_erased (common left.1 right.1) left)
    ∙ ap (λ (t : PlainTree). written form.Compare number at (operand_erased left ∷ comparison (spelled op) t ∷ [])) (in_c_erased (common left.1 right.1) right)

and_erased : (number : ℕ) (at : Span) (left right : Operand)
    → erased (logic_step head.And number at left right) ≡ written form.And number at (operand_erased left ∷ operand_erased right ∷ [])
and_erased number at left right =
    let first = in_c (common left.1 right.1) left in
    let second = in_c (common left.1 right.1) right in
    node_erased (head.And (value_type.C (common left.1 right.1))) number at (first ∷ second ∷ [])
    ∙ ap (λ (t : PlainTree). written form.And number at (t ∷ erased second ∷ [])) (in_c_erased (common left.1 right.1) left)
    ∙ ap (λ (t : PlainTree). written form.And number at (operand_erased left ∷ t ∷ [])) (in_c_erased (common left.1 right.1) right)

or_erased : (number : ℕ) (at : Span) (left right : Operand)
    → erased (logic_step head.Or number at left right) ≡ written form.Or number at (operand_erased left ∷ operand_erased right ∷ [])
or_erased number at left right =
    let first = in_c (common left.1 right.1) left in
    let second = in_c (common left.1 right.1) right in
    node_erased (head.Or (value_type.C (common left.1 right.1))) number at (first ∷ second ∷ [])
    ∙ ap (λ (t : PlainTree). written form.Or number at (t ∷ erased second ∷ [])) (in_c_erased (common left.1 right.1) left)
    ∙ ap (λ (t : PlainTree). written form.Or number at (operand_erased left ∷ t ∷ [])) (in_c_erased (common left.1 right.1) right)

-- ---- several steps

steps_erased : (shape : Form) (number : ℕ) (at : Span) (step : TypedRose) (steps : List TypedRose) (typed : TypedRose) (parts rest : List PlainTree)
    → of_steps number at (step ∷ steps) ≡ Ok typed → erased step ≡ written shape number at parts → flat_map (added (plain.Written shape)) (map erased steps) ≡ rest
    → erased typed ≡ written shape number at (parts ++ rest)
steps_erased shape number at step [] typed parts rest is first others =
    ap erased (sym (ok_same step typed is)) ∙ first
    ∙ ap (λ (ps : List PlainTree). written shape number at ps) (sym (append-nil parts) ∙ ap (λ (ps : List PlainTree). parts ++ ps) others)
steps_erased shape number at step (next ∷ steps) typed parts rest is first others =
    let made = head.Steps (last_type (type_of next) steps) in
    ap erased (sym (ok_same (typed_node made number at (step ∷ next ∷ steps)) typed is))
    ∙ node_erased made number at (step ∷ next ∷ steps)
    ∙ joined_steps made shape number at (erased step) (map erased (next ∷ steps)) parts rest first others

comparisons_erased : (number : ℕ) (at : Span) (step : TypedRose) (steps : List TypedRose) (typed : TypedRose) (parts rest : List PlainTree)
    → of_comparisons number at (step ∷ steps) ≡ Ok typed → erased step ≡ written form.Compare number at parts
    → flat_map (added (plain.Written form.Compare)) (map erased steps) ≡ rest → erased typed ≡ written form.Compare number at (parts ++ rest)
comparisons_erased number at step [] typed parts rest is first others =
    ap erased (sym (ok_same step typed is)) ∙ first
    ∙ ap (λ (ps : List PlainTree). written form.Compare number at ps) (sym (append-nil parts) ∙ ap (λ (ps : List PlainTree). parts ++ ps) others)
comparisons_erased number at step (next ∷ steps) typed parts rest is first others =
    ap erased (sym (ok_same (typed_node head.Comparisons number at (step ∷ next ∷ steps)) typed is))
    ∙ node_erased head.Comparisons number at (step ∷ next ∷ steps)
    ∙ joined_steps head.Comparisons form.Compare number at (erased step) (map erased (next ∷ steps)) parts rest first others

-- ---- chains

abbrev linked : BinOp × Operand → PlainTree
linked pair = link pair.0 (operand_erased pair.1)

links : (ops : List BinOp) (os : List Operand) → map linked (zip ops os) ≡ with_operators link ops (operands_erased os)
links [] os = refl
links (op ∷ ops) [] = refl
links (op ∷ ops) (o ∷ os) = ap (λ rest. link op (operand_erased o) ∷ rest) (links ops os)

next_binaries : (cdivision : Bool) (number : ℕ) (at : Span) (t : CType) (pairs : List (BinOp × Operand))
    → flat_map (added (plain.Written form.Chain)) (map erased (binary_steps cdivision number at (given number at t) pairs)) ≡ map linked pairs
next_binaries cdivision number at t [] = refl
next_binaries cdivision number at t ((op, right) ∷ pairs) =
    let others = map erased (binary_steps cdivision number at (given number at (binary_type op t right.1)) pairs) in
    ap (λ (step : PlainTree). added (plain.Written form.Chain) step ++ flat_map (added (plain.Written form.Chain)) others) (binary_next cdivision number at at op t right)
    ∙ ap (λ (ps : List PlainTree). ps ++ flat_map (added (plain.Written form.Chain)) others) (added_behind form.Chain number at number at (link op (operand_erased right) ∷ []) refl)
    ∙ ap (λ (rest : List PlainTree). link op (operand_erased right) ∷ rest) (next_binaries cdivision number at (binary_type op t right.1) pairs)

binaries : (cdivision : Bool) (number : ℕ) (at : Span) (first : Operand) (pairs : List (BinOp × Operand)) (typed : TypedRose)
    → of_steps number at (binary_steps cdivision number at first pairs) ≡ Ok typed → erased typed ≡ written form.Chain number at (operand_erased first ∷ map linked pairs)
binaries cdivision number at first [] typed is = absurd cc
binaries cdivision number at first ((op, right) ∷ pairs) typed is =
    steps_erased form.Chain number at (binary_step cdivision number at op first right) (binary_steps cdivision number at (given number at (binary_type op first.1 right.1)) pairs) typed
    (operand_erased first ∷ link op (operand_erased right) ∷ []) (map linked pairs) is
    (binary_erased cdivision number at op first right) (next_binaries cdivision number at (binary_type op first.1 right.1) pairs)

pub chain_erased : (cdivision : Bool) (number : ℕ) (at : Span) (ops : List BinOp) (os : List Operand) (typed : TypedRose) → chain_of cdivision number at ops os ≡ Ok typed
    → erased typed ≡ written form.Chain number at (behind_first link ops (operands_erased os))
chain_erased cdivision number at ops [] typed is = absurd cc
chain_erased cdivision number at ops (first ∷ others) typed is =
    binaries cdivision number at first (zip ops others) typed is
    ∙ ap (λ (rest : List PlainTree). written form.Chain number at (operand_erased first ∷ rest)) (links ops others)

-- ---- comparisons

abbrev compared_with : CmpOp × Operand → PlainTree
compared_with pair = comparison (spelled pair.0) (operand_erased pair.1)

comparisons_of : (ops : List CmpOp) (os : List Operand) → map compared_with (zip ops os) ≡ with_operators comparison (map spelled ops) (operands_erased os)
comparisons_of [] os = refl
comparisons_of (op ∷ ops) [] = refl
comparisons_of (op ∷ ops) (o ∷ os) = ap (λ rest. comparison (spelled op) (operand_erased o) ∷ rest) (comparisons_of ops os)

compare_kept : (number : ℕ) (at : Span) (op : CmpOp) (left right : Operand)
    → erased (compare_step number at op left (kept right)) ≡ written form.Compare number at (operand_erased left ∷ comparison (spelled op) (operand_erased right) ∷ [])
compare_kept number at op left right =
    compare_erased number at op left (kept right)
    ∙ ap (λ (t : PlainTree). written form.Compare number at (operand_erased left ∷ comparison (spelled op) t ∷ [])) (kept_erased right)

-- a comparison of the value at hand
compare_next : (number : ℕ) (at place : Span) (op : CmpOp) (t : CType) (step : TypedRose) (right : Operand)
    → erased step ≡ written form.Compare number at (operand_erased (given number place t) ∷ comparison (spelled op) (operand_erased right) ∷ [])
    → added (plain.Written form.Compare) (erased step) ≡ comparison (spelled op) (operand_erased right) ∷ []
compare_next number at place op t step right is =
    ap (added (plain.Written form.Compare))
    (is ∙ ap (λ (h : PlainTree). written form.Compare number at (h ∷ comparison (spelled op) (operand_erased right) ∷ [])) (given_erased number place t))
    ∙ added_behind form.Compare number at number place (comparison (spelled op) (operand_erased right) ∷ []) refl

next_comparisons : (number : ℕ) (at place : Span) (t : CType) (pairs : List (CmpOp × Operand))
    → flat_map (added (plain.Written form.Compare)) (map erased (compare_steps number at (given number place t) pairs)) ≡ map compared_with pairs
next_comparisons number at place t [] = refl
next_comparisons number at place t ((op, right) ∷ []) =
    ap (λ (ps : List PlainTree). ps ++ [])
    (compare_next number at place op t (compare_step number at op (given number place t) right) right (compare_erased number at op (given number place t) right))
next_comparisons number at place t ((op, right) ∷ next ∷ pairs) =
    let others = map erased (compare_steps number at (given number (at_of right.0) right.1) (next ∷ pairs)) in
    ap (λ (ps : List PlainTree). ps ++ flat_map (added (plain.Written form.Compare)) others)
    (compare_next number at place op t (compare_step number at op (given number place t) (kept right)) right (compare_kept number at op (given number place t) right))
    ∙ ap (λ (rest : List PlainTree). comparison (spelled op) (operand_erased right) ∷ rest) (next_comparisons number at (at_of right.0) right.1 (next ∷ pairs))

all_comparisons : (number : ℕ) (at : Span) (first : Operand) (pairs : List (CmpOp × Operand)) (typed : TypedRose)
    → of_comparisons number at (compare_steps number at first pairs) ≡ Ok typed → erased typed ≡ written form.Compare number at (operand_erased first ∷ map compared_with pairs)
all_comparisons number at first [] typed is = absurd cc
all_comparisons number at first ((op, right) ∷ []) typed is =
    comparisons_erased number at (compare_step number at op first right) [] typed
    (operand_erased first ∷ comparison (spelled op) (operand_erased right) ∷ []) [] is (compare_erased number at op first right) refl
all_comparisons number at first ((op, right) ∷ next ∷ pairs) typed is =
    comparisons_erased number at (compare_step number at op first (kept right)) (compare_steps number at (given number (at_of right.0) right.1) (next ∷ pairs)) typed
    (operand_erased first ∷ comparison (spelled op) (operand_erased right) ∷ []) (map compared_with (next ∷ pairs)) is
    (compare_kept number at op first right) (next_comparisons number at (at_of right.0) right.1 (next ∷ pairs))

pub comparison_erased : (number : ℕ) (at : Span) (ops : List CmpOp) (os : List Operand) (typed : TypedRose) → comparison_of number at ops os ≡ Ok typed
    → erased typed ≡ written form.Compare number at (behind_first comparison (map spelled ops) (operands_erased os))
comparison_erased number at ops [] typed is = absurd cc
comparison_erased number at ops (first ∷ others) typed is =
    all_comparisons number at first (zip ops others) typed is
    ∙ ap (λ (rest : List PlainTree). written form.Compare number at (operand_erased first ∷ rest)) (comparisons_of ops others)

-- ---- `and` and `or`

next_ands : (number : ℕ) (at : Span) (t : CType) (os : List Operand)
    → flat_map (added (plain.Written form.And)) (map erased (logic_steps head.And number at (given number at t) os)) ≡ operands_erased os
next_ands number at t [] = refl
next_ands number at t (right ∷ os) =
    let others = map erased (logic_steps head.And number at (given number at (common t right.1)) os) in
    ap (λ (step : PlainTree). added (plain.Written form.And) step ++ flat_map (added (plain.Written form.And)) others)
    (and_erased number at (given number at t) right ∙ ap (λ (h : PlainTree). written form.And number at (h ∷ operand_erased right ∷ [])) (given_erased number at t))
    ∙ ap (λ (ps : List PlainTree). ps ++ flat_map (added (plain.Written form.And)) others) (added_behind form.And number at number at (operand_erased right ∷ []) refl)
    ∙ ap (λ (rest : List PlainTree). operand_erased right ∷ rest) (next_ands number at (common t right.1) os)

pub ands_erased : (number : ℕ) (at : Span) (os : List Operand) (typed : TypedRose) → logic_of head.And number at os ≡ Ok typed
    → erased typed ≡ written form.And number at (operands_erased os)
ands_erased number at [] typed is = absurd cc
ands_erased number at (first ∷ []) typed is = absurd cc
ands_erased number at (first ∷ right ∷ others) typed is =
    steps_erased form.And number at (logic_step head.And number at first right) (logic_steps head.And number at (given number at (common first.1 right.1)) others) typed
    (operand_erased first ∷ operand_erased right ∷ []) (operands_erased others) is
    (and_erased number at first right) (next_ands number at (common first.1 right.1) others)

next_ors : (number : ℕ) (at : Span) (t : CType) (os : List Operand)
    → flat_map (added (plain.Written form.Or)) (map erased (logic_steps head.Or number at (given number at t) os)) ≡ operands_erased os
next_ors number at t [] = refl
next_ors number at t (right ∷ os) =
    let others = map erased (logic_steps head.Or number at (given number at (common t right.1)) os) in
    ap (λ (step : PlainTree). added (plain.Written form.Or) step ++ flat_map (added (plain.Written form.Or)) others)
    (or_erased number at (given number at t) right ∙ ap (λ (h : PlainTree). written form.Or number at (h ∷ operand_erased right ∷ [])) (given_erased number at t))
    ∙ ap (λ (ps : List PlainTree). ps ++ flat_map (added (plain.Written form.Or)) others) (added_behind form.Or number at number at (operand_erased right ∷ []) refl)
    ∙ ap (λ (rest : List PlainTree). operand_erased right ∷ rest) (next_ors number at (common t right.1) os)

pub ors_erased : (number : ℕ) (at : Span) (os : List Operand) (typed : TypedRose) → logic_of head.Or number at os ≡ Ok typed
    → erased typed ≡ written form.Or number at (operands_erased os)
ors_erased number at [] typed is = absurd cc
ors_erased number at (first ∷ []) typed is = absurd cc
ors_erased number at (first ∷ right ∷ others) typed is =
    steps_erased form.Or number at (logic_step head.Or number at first right) (logic_steps head.Or number at (given number at (common first.1 right.1)) others) typed
    (operand_erased first ∷ operand_erased right ∷ []) (operands_erased others) is
    (or_erased number at first right) (next_ors number at (common first.1 right.1) others)

-- ---- `min` and `max`

pub min_erased : (number : ℕ) (at : Span) (os : List Operand) (typed : TypedRose) → of_common head.Min number at os ≡ Ok typed
    → erased typed ≡ call_row (plain.BuiltinName builtin.Min) number at (operands_erased os)
min_erased number at [] typed is = absurd cc
min_erased number at (first ∷ []) typed is = absurd cc
min_erased number at (first ∷ next ∷ others) typed is =
    let t = common_of first.1 (next ∷ others) in
    ap erased (sym (ok_same (in_common (head.Min t) number at t (first ∷ next ∷ others)) typed is))
    ∙ node_erased (head.Min t) number at (map (in_c t) (first ∷ next ∷ others))
    ∙ ap (call_row (plain.BuiltinName builtin.Min) number at) (in_c_each t (first ∷ next ∷ others))

pub max_erased : (number : ℕ) (at : Span) (os : List Operand) (typed : TypedRose) → of_common head.Max number at os ≡ Ok typed
    → erased typed ≡ call_row (plain.BuiltinName builtin.Max) number at (operands_erased os)
max_erased number at [] typed is = absurd cc
max_erased number at (first ∷ []) typed is = absurd cc
max_erased number at (first ∷ next ∷ others) typed is =
    let t = common_of first.1 (next ∷ others) in
    ap erased (sym (ok_same (in_common (head.Max t) number at t (first ∷ next ∷ others)) typed is))
    ∙ node_erased (head.Max t) number at (map (in_c t) (first ∷ next ∷ others))
    ∙ ap (call_row (plain.BuiltinName builtin.Max) number at) (in_c_each t (first ∷ next ∷ others))

-- ---- `not`, and the conditional

pub not_erased : (number : ℕ) (at : Span) (outcomes : List (Outcome TypedRose)) (trees : List PlainTree) (typed : TypedRose) → Agree outcomes trees
    → not_of number at outcomes ≡ Ok typed → erased typed ≡ written form.Not number at trees
not_erased number at outcomes trees typed all is =
    let found = mapped_ok (λ (test : TypedRose). typed_node head.Not number at (test ∷ [])) (followed (only at outcomes) tested) typed is in
    let value = followed_ok (only at outcomes) tested found.0 found.1 in
    ap erased (sym found.2)
    ∙ node_erased head.Not number at (found.0 ∷ [])
    ∙ ap (λ (t : PlainTree). written form.Not number at (t ∷ [])) (fitted_erased (value_type.C c.Bint) value.0 found.0 value.2)
    ∙ ap (written form.Not number at) (sym (only_shown at outcomes trees value.0 all value.1))

three : (number : ℕ) (at : Span) (left test right : Outcome TypedRose) (l t r : PlainTree) (typed : TypedRose) → Agrees left l → Agrees test t → Agrees right r
    → conditional_of number at (left ∷ test ∷ right ∷ []) ≡ Ok typed → erased typed ≡ written form.Conditional number at (l ∷ t ∷ r ∷ [])
three number at left test right l t r typed first second third is =
    let found = mapped_ok (choice number at) (both (both (followed left operand) (followed test tested)) (followed right operand)) typed is in
    let outer = both_ok (both (followed left operand) (followed test tested)) (followed right operand) found.0 found.1 in
    let inner = both_ok (followed left operand) (followed test tested) found.0.0 outer.0 in
    let a : Operand = found.0.0.0 in
    let b : TypedRose = found.0.0.1 in
    let o : Operand = found.0.1 in
    let kind = common a.1 o.1 in
    ap erased (sym found.2)
    ∙ node_erased (head.Conditional (value_type.C kind)) number at (in_c kind a ∷ b ∷ in_c kind o ∷ [])
    ∙ ap (λ (x : PlainTree). written form.Conditional number at (x ∷ erased b ∷ erased (in_c kind o) ∷ [])) (in_c_erased kind a ∙ operand_shown left l first a inner.0)
    ∙ ap (λ (x : PlainTree). written form.Conditional number at (l ∷ x ∷ erased (in_c kind o) ∷ [])) (fitted_shown (value_type.C c.Bint) test t second b inner.1)
    ∙ ap (λ (x : PlainTree). written form.Conditional number at (l ∷ t ∷ x ∷ [])) (in_c_erased kind o ∙ operand_shown right r third o outer.1)

three_agree : (number : ℕ) (at : Span) (left test right : Outcome TypedRose) (trees : List PlainTree) (typed : TypedRose) → Agree (left ∷ test ∷ right ∷ []) trees
    → conditional_of number at (left ∷ test ∷ right ∷ []) ≡ Ok typed → erased typed ≡ written form.Conditional number at trees
three_agree number at left test right [] typed all is = absurd all
three_agree number at left test right (l ∷ []) typed all is = absurd all.1
three_agree number at left test right (l ∷ t ∷ []) typed all is = absurd all.1.1
three_agree number at left test right (l ∷ t ∷ r ∷ []) typed all is = three number at left test right l t r typed all.0 all.1.0 all.1.1.0 is
three_agree number at left test right (l ∷ t ∷ r ∷ other ∷ trees) typed all is = absurd all.1.1.1

pub conditional_erased : (number : ℕ) (at : Span) (outcomes : List (Outcome TypedRose)) (trees : List PlainTree) (typed : TypedRose) → Agree outcomes trees
    → conditional_of number at outcomes ≡ Ok typed → erased typed ≡ written form.Conditional number at trees
conditional_erased number at [] trees typed all is = absurd cc
conditional_erased number at (left ∷ []) trees typed all is = absurd cc
conditional_erased number at (left ∷ test ∷ []) trees typed all is = absurd cc
conditional_erased number at (left ∷ test ∷ right ∷ []) trees typed all is = three_agree number at left test right trees typed all is
conditional_erased number at (left ∷ test ∷ right ∷ other ∷ outcomes) trees typed all is = absurd cc
