-- Loops over operands.
use Rattle.std.proofs.Common.{◌≡◌, ℕ, ◌+◌, ◌<◌, ◌≤◌, List, [], ◌∷◌, ◌++◌, length, map, drop, get_or, refl, sym, ap, subst, ◌∙◌, append_assoc, arith}
use Rattle.std.specs.Prelude.{Bool, Result, min, zip}
use Rattle.std.proofs.lemmas.List.{append-nil, drop_more, drop_all, length-drop, length-map, map-append}
use Rattle.px_base.specs.declared.refusals.Span.{Span}
use Rattle.px_base.specs.declared.refusals.Trouble.{Trouble}
use Rattle.px_base.specs.declared.c_types.CType.{CType}
use Rattle.px_base.specs.declared.c_types.BinOp.{BinOp}
use Rattle.px_base.specs.declared.c_types.CmpOp.{CmpOp}
use Rattle.px_tree.specs.declared.typed_values.ValueType.{ValueType}
use Rattle.px_tree.specs.declared.typed_heads.TypedHead.{TypedHead}
use Rattle.px_tree.specs.declared.typed_trees.TypedTree.{TypedTree}
use Rattle.px_ctypes.specs.Conversions.{common}
use Rattle.px_walk.specs.Roses.{at_of}
use Rattle.px_typed_walk.specs.TypedView.{TypedRose, rose_of_typed}
use Rattle.px_operators.specs.declared.operands.Operand.{Operand}
use Rattle.px_operators.specs.Outcomes.{Gives}
use Rattle.px_operators.specs.Operators as plain
use Rattle.px_operators.specs.Operators.{given, kept, binary_type, binary_step, binary_steps, of_steps, chain_of, compare_step, compare_steps, of_comparisons, comparison_of, logic_step, logic_steps}
use Rattle.px_operators.specs.Kept.{trees_kept, operand_kept, operands_kept}

-- one tree more, and those that are still to come
pub one_more : (before behind : List TypedTree) (made : TypedTree) (tree : TypedRose) (rest whole : List TypedRose)
    → behind ≡ before ++ made ∷ [] → rose_of_typed made ≡ tree → trees_kept before ++ tree ∷ rest ≡ whole → trees_kept behind ++ rest ≡ whole
one_more before behind made tree rest whole pushed is all =
    ap (λ trees. trees_kept trees ++ rest) pushed
    ∙ ap (λ trees. trees ++ rest) (map-append rose_of_typed before (made ∷ []))
    ∙ append_assoc (trees_kept before) (rose_of_typed made ∷ []) rest
    ∙ ap (λ t. trees_kept before ++ t ∷ rest) is
    ∙ all

-- nothing more: the trees so far are all
pub no_more : {P : Type 0} (steps_of : List P → List TypedRose) (trees whole : List TypedRose) (left : List P)
    → steps_of [] ≡ [] → trees ++ steps_of left ≡ whole → left ≡ [] → trees ≡ whole
no_more steps_of trees whole left ends all none =
    sym (append-nil trees) ∙ ap (λ more. trees ++ more) (sym ends) ∙ ap (λ xs. trees ++ steps_of xs) (sym none) ∙ all

-- Pairs of operators and operands

pub zip_more : {A B : Type 0} (xs : List A) (ys : List B) (k : ℕ) (d : A) (z : B) (rest : List B)
    → k < length xs → ys ≡ z ∷ rest → zip (drop k xs) ys ≡ (get_or xs k d, z) ∷ zip (drop (k + 1) xs) rest
zip_more xs ys k d z rest below steps = ap (λ zs. zip zs ys) (drop_more xs k d below) ∙ ap (λ zs. zip (get_or xs k d ∷ drop (k + 1) xs) zs) steps

-- no operator is left
pub zip_behind : {A B : Type 0} (xs : List A) (ys : List B) (k : ℕ) → length xs ≤ k → zip (drop k xs) ys ≡ []
zip_behind xs ys k past = ap (λ zs. zip zs ys) (drop_all k xs past)

-- no operand is left
pub zip_none : {A B C : Type 0} (f : B → C) (xs : List A) (ys : List B) → length ys ≡ 0 → zip xs (map f ys) ≡ []
zip_none f [] ys none = refl
zip_none f (x ∷ xs) [] none = refl
zip_none f (x ∷ xs) (y ∷ ys) none = absurd (omega arith)

-- ---- chains

pub binary_turn : (cdivision : Bool) (number : ℕ) (at : Span) (ops : List BinOp) (k : ℕ) (d : BinOp) (before behind : List TypedTree) (made : TypedTree)
    (left right next : Operand) (items rest : List Operand) (t : CType) (whole : List TypedRose)
    → trees_kept before ++ binary_steps cdivision number at (operand_kept left) (zip (drop k ops) (operands_kept items)) ≡ whole
    → k < length ops → items ≡ right ∷ rest
    → rose_of_typed made ≡ binary_step cdivision number at (get_or ops k d) (operand_kept left) (operand_kept right)
    → behind ≡ before ++ made ∷ []
    → t ≡ binary_type (get_or ops k d) left.c_type right.c_type → operand_kept next ≡ given number at t
    → trees_kept behind ++ binary_steps cdivision number at (operand_kept next) (zip (drop (k + 1) ops) (operands_kept rest)) ≡ whole
binary_turn cdivision number at ops k d before behind made left right next items rest t whole all below steps is pushed type next_is =
    one_more before behind made (binary_step cdivision number at (get_or ops k d) (operand_kept left) (operand_kept right))
    (binary_steps cdivision number at (operand_kept next) (zip (drop (k + 1) ops) (operands_kept rest))) whole pushed is
    (ap (λ o. trees_kept before ++ binary_step cdivision number at (get_or ops k d) (operand_kept left) (operand_kept right)
    ∷ binary_steps cdivision number at o (zip (drop (k + 1) ops) (operands_kept rest))) (next_is ∙ ap (given number at) type)
    ∙ ap (λ pairs. trees_kept before ++ binary_steps cdivision number at (operand_kept left) pairs)
    (sym (zip_more ops (operands_kept items) k d (operand_kept right) (operands_kept rest) below (ap operands_kept steps)))
    ∙ all)

pub chain_gives : (cdivision : Bool) (number : ℕ) (at : Span) (ops : List BinOp) (operands rest : List Operand) (first : Operand) (steps : List TypedTree) (answer : Result TypedTree Trouble)
    → operands ≡ first ∷ rest → trees_kept steps ≡ binary_steps cdivision number at (operand_kept first) (zip ops (operands_kept rest))
    → Gives rose_of_typed answer (of_steps number at (trees_kept steps)) → Gives rose_of_typed answer (chain_of cdivision number at ops (operands_kept operands))
chain_gives cdivision number at ops operands rest first steps answer begins all gives =
    subst (Gives rose_of_typed answer)
    (ap (of_steps number at) all ∙ ap (λ xs. chain_of cdivision number at ops (operands_kept xs)) (sym begins)) gives

-- ---- comparisons

-- the right operand is kept where another comparison reads it
pub split_kept : (number : ℕ) (at : Span) (left right : plain.Operand) (op : CmpOp) (ops : List CmpOp) (others : List plain.Operand)
    → 1 ≤ length ops → 1 ≤ length others
    → compare_steps number at left ((op, right) ∷ zip ops others) ≡ compare_step number at op left (kept right) ∷ compare_steps number at (given number (at_of right.0) right.1) (zip ops others)
split_kept number at left right op [] others some_ops some_others = absurd (omega arith)
split_kept number at left right op (next ∷ ops) [] some_ops some_others = absurd (omega arith)
split_kept number at left right op (next ∷ ops) (other ∷ others) some_ops some_others = refl

pub split_last : (number : ℕ) (at : Span) (left right : plain.Operand) (op : CmpOp) (ops : List CmpOp) (others : List plain.Operand)
    → min (length ops) (length others) ≡ 0
    → compare_steps number at left ((op, right) ∷ zip ops others) ≡ compare_step number at op left right ∷ compare_steps number at (given number (at_of right.0) right.1) (zip ops others)
split_last number at left right op [] others last = refl
split_last number at left right op (next ∷ ops) [] last = refl
split_last number at left right op (next ∷ ops) (other ∷ others) last = absurd (omega arith)

pub compare_turn : (number : ℕ) (at : Span) (ops : List CmpOp) (k : ℕ) (d : CmpOp) (before behind : List TypedTree) (made : TypedTree)
    (left right used next : Operand) (items rest : List Operand) (whole : List TypedRose)
    → trees_kept before ++ compare_steps number at (operand_kept left) (zip (drop k ops) (operands_kept items)) ≡ whole
    → k < length ops → items ≡ right ∷ rest
    → rose_of_typed made ≡ compare_step number at (get_or ops k d) (operand_kept left) (operand_kept used)
    → behind ≡ before ++ made ∷ []
    → operand_kept next ≡ given number (at_of (rose_of_typed right.tree)) right.c_type
    → compare_steps number at (operand_kept left) ((get_or ops k d, operand_kept right) ∷ zip (drop (k + 1) ops) (operands_kept rest))
    ≡ compare_step number at (get_or ops k d) (operand_kept left) (operand_kept used)
    ∷ compare_steps number at (given number (at_of (rose_of_typed right.tree)) right.c_type) (zip (drop (k + 1) ops) (operands_kept rest))
    → trees_kept behind ++ compare_steps number at (operand_kept next) (zip (drop (k + 1) ops) (operands_kept rest)) ≡ whole
compare_turn number at ops k d before behind made left right used next items rest whole all below steps is pushed next_is split =
    one_more before behind made (compare_step number at (get_or ops k d) (operand_kept left) (operand_kept used))
    (compare_steps number at (operand_kept next) (zip (drop (k + 1) ops) (operands_kept rest))) whole pushed is
    (ap (λ o. trees_kept before ++ compare_step number at (get_or ops k d) (operand_kept left) (operand_kept used)
    ∷ compare_steps number at o (zip (drop (k + 1) ops) (operands_kept rest))) next_is
    ∙ ap (λ trees. trees_kept before ++ trees) (sym split)
    ∙ ap (λ pairs. trees_kept before ++ compare_steps number at (operand_kept left) pairs)
    (sym (zip_more ops (operands_kept items) k d (operand_kept right) (operands_kept rest) below (ap operands_kept steps)))
    ∙ all)

-- which of the two it is, by the number of comparisons
pub split_more : (number : ℕ) (at : Span) (left right : plain.Operand) (used : plain.Operand) (op : CmpOp) (ops : List CmpOp) (k last : ℕ) (rest : List Operand)
    → k < length ops → last ≡ min (length ops) (k + (1 + length rest)) → k + 1 < last → used ≡ kept right
    → compare_steps number at left ((op, right) ∷ zip (drop (k + 1) ops) (operands_kept rest))
    ≡ compare_step number at op left used ∷ compare_steps number at (given number (at_of right.0) right.1) (zip (drop (k + 1) ops) (operands_kept rest))
split_more number at left right used op ops k last rest below last_is more is =
    let some_ops : 1 ≤ length (drop (k + 1) ops) = omega (arith, length-drop (k + 1) ops) in
    let some_others : 1 ≤ length (operands_kept rest) = omega (arith, length-map rest operand_kept) in
    split_kept number at left right op (drop (k + 1) ops) (operands_kept rest) some_ops some_others
    ∙ ap (λ o. compare_step number at op left o ∷ compare_steps number at (given number (at_of right.0) right.1) (zip (drop (k + 1) ops) (operands_kept rest))) (sym is)

pub split_end : (number : ℕ) (at : Span) (left right : plain.Operand) (used : plain.Operand) (op : CmpOp) (ops : List CmpOp) (k last : ℕ) (rest : List Operand)
    → k < length ops → last ≡ min (length ops) (k + (1 + length rest)) → last ≤ k + 1 → used ≡ right
    → compare_steps number at left ((op, right) ∷ zip (drop (k + 1) ops) (operands_kept rest))
    ≡ compare_step number at op left used ∷ compare_steps number at (given number (at_of right.0) right.1) (zip (drop (k + 1) ops) (operands_kept rest))
split_end number at left right used op ops k last rest below last_is none is =
    let none_left : min (length (drop (k + 1) ops)) (length (operands_kept rest)) ≡ 0 = omega (arith, length-drop (k + 1) ops, length-map rest operand_kept) in
    split_last number at left right op (drop (k + 1) ops) (operands_kept rest) none_left
    ∙ ap (λ o. compare_step number at op left o ∷ compare_steps number at (given number (at_of right.0) right.1) (zip (drop (k + 1) ops) (operands_kept rest))) (sym is)

pub comparison_gives : (number : ℕ) (at : Span) (ops : List CmpOp) (operands rest : List Operand) (first : Operand) (steps : List TypedTree) (answer : Result TypedTree Trouble)
    → operands ≡ first ∷ rest → trees_kept steps ≡ compare_steps number at (operand_kept first) (zip ops (operands_kept rest))
    → Gives rose_of_typed answer (of_comparisons number at (trees_kept steps)) → Gives rose_of_typed answer (comparison_of number at ops (operands_kept operands))
comparison_gives number at ops operands rest first steps answer begins all gives =
    subst (Gives rose_of_typed answer)
    (ap (of_comparisons number at) all ∙ ap (λ xs. comparison_of number at ops (operands_kept xs)) (sym begins)) gives

-- ---- `and` and `or`

pub logic_turn : (made_of : ValueType → TypedHead) (number : ℕ) (at : Span) (before behind : List TypedTree) (made : TypedTree)
    (left right next : Operand) (items rest : List Operand) (t : CType) (whole : List TypedRose)
    → trees_kept before ++ logic_steps made_of number at (operand_kept left) (operands_kept items) ≡ whole
    → items ≡ right ∷ rest
    → rose_of_typed made ≡ logic_step made_of number at (operand_kept left) (operand_kept right)
    → behind ≡ before ++ made ∷ []
    → t ≡ common left.c_type right.c_type → operand_kept next ≡ given number at t
    → trees_kept behind ++ logic_steps made_of number at (operand_kept next) (operands_kept rest) ≡ whole
logic_turn made_of number at before behind made left right next items rest t whole all steps is pushed type next_is =
    one_more before behind made (logic_step made_of number at (operand_kept left) (operand_kept right))
    (logic_steps made_of number at (operand_kept next) (operands_kept rest)) whole pushed is
    (ap (λ o. trees_kept before ++ logic_step made_of number at (operand_kept left) (operand_kept right) ∷ logic_steps made_of number at o (operands_kept rest))
    (next_is ∙ ap (given number at) type)
    ∙ ap (λ xs. trees_kept before ++ logic_steps made_of number at (operand_kept left) (operands_kept xs)) (sym steps)
    ∙ all)
