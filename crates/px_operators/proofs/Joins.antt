-- Answers and outcomes that are joined.
use Rattle.std.proofs.Common.{◌≡◌, ℕ, ◌≤◌, ◌-◌, suc, List, [], ◌∷◌, ◌++◌, length, map, get_or, Option, Some, None, refl, sym, ap, ◌∙◌, arith}
use Rattle.std.specs.Prelude.{Result, Ok, Err, MatchOption}
use Rattle.std.specs.Result.{result_unwrap_or}
use Rattle.px_base.specs.declared.refusals.Span.{Span}
use Rattle.px_base.specs.declared.refusals.Trouble.{Trouble}
use Rattle.px_base.specs.declared.refusals.Trouble.TheVariants.{Refused, NoMemory}
use Rattle.px_tree.specs.declared.typed_values.ValueType.{ValueType}
use Rattle.px_tree.specs.declared.typed_trees.TypedTree.{TypedTree}
use Rattle.px_tree.specs.declared.typed_heads.TypedHead.TheVariants as head
use Rattle.px_typed_walk.specs.TypedView.{rose_of_typed, typed_node, type_of}
use Rattle.px_operators.specs.declared.gathering.Part.{Part}
use Rattle.px_operators.specs.declared.operands.Operand.{Operand}
use Rattle.px_operators.specs.Outcomes.{Outcome, Gives, followed, mapped, both}
use Rattle.px_operators.specs.Conversions.{tested}
use Rattle.px_operators.specs.Operators.{operand, choice, conditional_of, last_type, of_steps}
use Rattle.px_operators.specs.Kept.{part_kept, operand_kept, both_answers}

-- both are there where their join is
pub both_ok : {A B : Type 0} (a : Result A Trouble) (b : Result B Trouble) (x : A) (y : B) → both_answers a b ≡ Ok (x, y) → (a ≡ Ok x) × (b ≡ Ok y)
both_ok {A = A} {B = B} (Ok a) (Ok b) x y is =
    (ap (λ (r : Result (A × B) Trouble). Ok (result_unwrap_or {T = A × B} r (a, b)).0) is, ap (λ (r : Result (A × B) Trouble). Ok (result_unwrap_or {T = A × B} r (a, b)).1) is)
both_ok (Ok a) (Err trouble) x y is = absurd cc
both_ok (Err (Refused refusal)) (Ok b) x y is = absurd cc
both_ok (Err (Refused refusal)) (Err (Refused other)) x y is = absurd cc
both_ok (Err (Refused refusal)) (Err NoMemory) x y is = absurd cc
both_ok (Err NoMemory) b x y is = absurd cc

pub gives_ok : {A B : Type 0} (view : A → B) (a : Result A Trouble) (o : Outcome B) (x : A) → Gives view a o → a ≡ Ok x → o ≡ Ok (view x)
gives_ok view (Ok a) o x gives is = let same : a ≡ x = cc in gives ∙ ap (λ y. Ok (view y)) same
gives_ok view (Err (Refused refusal)) o x gives is = absurd cc
gives_ok view (Err NoMemory) o x gives is = absurd cc

-- an element that is taken from the end
pub popped : {A : Type 0} (r : Option A) (old new : List A) (x : A) → MatchOption r ((old ≡ []) × (new ≡ [])) (λ last. old ≡ new ++ last ∷ []) → r ≡ Some x → old ≡ new ++ x ∷ []
popped None old new x is there = absurd cc
popped (Some y) old new x is there = let same : y ≡ x = cc in is ∙ ap (λ z. new ++ z ∷ []) same

pub conditional_gives : (number : ℕ) (at : Span) (left test right : Part) (l : Result Operand Trouble) (t : Result TypedTree Trouble) (r : Result Operand Trouble)
    (lv : Operand) (tv : TypedTree) (rv : Operand) (made : TypedTree)
    → Gives operand_kept l (followed (part_kept left) operand)
    → Gives rose_of_typed t (followed (part_kept test) tested)
    → Gives operand_kept r (followed (part_kept right) operand)
    → both_answers (both_answers l t) r ≡ Ok ((lv, tv), rv)
    → rose_of_typed made ≡ choice number at ((operand_kept lv, rose_of_typed tv), operand_kept rv)
    → conditional_of number at (part_kept left ∷ part_kept test ∷ part_kept right ∷ []) ≡ Ok (rose_of_typed made)
conditional_gives number at left test right l t r lv tv rv made gl gt gr joined is =
    let outer = both_ok (both_answers l t) r (lv, tv) rv joined in
    let inner = both_ok l t lv tv outer.0 in
    let a = gives_ok operand_kept l (followed (part_kept left) operand) lv gl inner.0 in
    let b = gives_ok rose_of_typed t (followed (part_kept test) tested) tv gt inner.1 in
    let c = gives_ok operand_kept r (followed (part_kept right) operand) rv gr outer.1 in
    ap (λ o. mapped (choice number at) (both (both o (followed (part_kept test) tested)) (followed (part_kept right) operand))) a
    ∙ ap (λ o. mapped (choice number at) (both (both (Ok (operand_kept lv)) o) (followed (part_kept right) operand))) b
    ∙ ap (λ o. mapped (choice number at) (both (Ok (operand_kept lv, rose_of_typed tv)) o)) c
    ∙ ap Ok (sym is)

-- the type of the last step
last_type_is : (x : TypedTree) (xs : List TypedTree) (d : TypedTree)
    → last_type (type_of (rose_of_typed x)) (map rose_of_typed xs) ≡ type_of (rose_of_typed (get_or (x ∷ xs) (length xs) d))
last_type_is x [] d = refl
last_type_is x (y ∷ ys) d = last_type_is y ys d

pub of_several : (number : ℕ) (at : Span) (steps : List TypedTree) (last made : TypedTree) (t : ValueType)
    → last ≡ get_or steps (length steps - 1) last → t ≡ type_of (rose_of_typed last) → 1 ≤ length steps → (length steps ≡ 1 → ⊥)
    → rose_of_typed made ≡ typed_node (head.Steps t) number at (map rose_of_typed steps)
    → of_steps number at (map rose_of_typed steps) ≡ Ok (rose_of_typed made)
of_several number at [] last made t there is some several made_is = absurd (omega arith)
of_several number at (x ∷ []) last made t there is some several made_is = absurd (several refl)
of_several number at (x ∷ y ∷ xs) last made t there is some several made_is =
    let n : length (x ∷ y ∷ xs) - 1 ≡ suc (length xs) = omega arith in
    let here : last ≡ get_or (y ∷ xs) (length xs) last = there ∙ ap (λ k. get_or (x ∷ y ∷ xs) k last) n in
    let same : last_type (type_of (rose_of_typed y)) (map rose_of_typed xs) ≡ t =
    last_type_is y xs last ∙ ap (λ z. type_of (rose_of_typed z)) (sym here) ∙ sym is in
    ap (λ u. Ok (typed_node (head.Steps u) number at (map rose_of_typed (x ∷ y ∷ xs)))) same ∙ ap Ok (sym made_is)
