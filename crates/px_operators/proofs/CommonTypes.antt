-- The common type of a list of operands.
use Rattle.std.proofs.Common.{◌≡◌, ℕ, ◌+◌, ◌-◌, ◌<◌, ◌≤◌, List, [], ◌∷◌, length, take, drop, get_or, Some, None, refl, sym, ap, ◌∙◌, arith}
use Rattle.std.proofs.lemmas.List.{drop_more, drop_all}
use Rattle.px_base.specs.declared.c_types.CType.{CType}
use Rattle.px_ctypes.specs.Conversions.{common}
use Rattle.px_operators.specs.declared.operands.Operand.{Operand}
use Rattle.px_operators.specs.Operators.{common_of}
use Rattle.px_operators.specs.OperatorsKept.{common_if_several}
use Rattle.px_operators.specs.Kept.{operands_kept}

-- one operand more
pub common_turn : (others : List Operand) (k : ℕ) (item : Operand) (t next whole : CType)
    → common_of t (operands_kept (drop k others)) ≡ whole → k < length others → item ≡ get_or others k item → next ≡ common t item.c_type
    → common_of next (operands_kept (drop (k + 1) others)) ≡ whole
common_turn others k item t next whole all below is next_is =
    ap (λ u. common_of u (operands_kept (drop (k + 1) others))) (next_is ∙ ap (λ (o : Operand). common t o.c_type) is)
    ∙ ap (λ xs. common_of t (operands_kept xs)) (sym (drop_more others k item below))
    ∙ all

take_all : {A : Type 0} (xs : List A) → take (length xs) xs ≡ xs
take_all [] = refl
take_all (x ∷ xs) = ap (λ rest. x ∷ rest) (take_all xs)

-- no operand more
pub common_end : (operands : List Operand) (first : Operand) (k : ℕ) (t : CType)
    → 2 ≤ length operands → first ≡ get_or operands 0 first
    → length (take (length operands - 1) (drop 1 operands)) ≤ k
    → common_of t (operands_kept (drop k (take (length operands - 1) (drop 1 operands)))) ≡ common_of first.c_type (operands_kept (take (length operands - 1) (drop 1 operands)))
    → Some t ≡ common_if_several (operands_kept operands)
common_end [] first k t several is past all = absurd (omega arith)
common_end (x ∷ []) first k t several is past all = absurd (omega arith)
common_end (x ∷ y ∷ rest) first k t several is past all =
    let n : length (x ∷ y ∷ rest) - 1 ≡ length (y ∷ rest) = omega arith in
    let others : take (length (x ∷ y ∷ rest) - 1) (y ∷ rest) ≡ y ∷ rest = ap (λ m. take m (y ∷ rest)) n ∙ take_all (y ∷ rest) in
    ap Some
    (sym (ap (λ xs. common_of t (operands_kept xs)) (drop_all k (take (length (x ∷ y ∷ rest) - 1) (y ∷ rest)) past)) ∙ all
    ∙ ap (λ (o : Operand). common_of o.c_type (operands_kept (take (length (x ∷ y ∷ rest) - 1) (y ∷ rest)))) is
    ∙ ap (λ xs. common_of x.c_type (operands_kept xs)) others)

pub common_of_one : (operands : List Operand) → 1 ≤ length operands → length operands < 2 → None ≡ common_if_several (operands_kept operands)
common_of_one [] some few = absurd (omega arith)
common_of_one (x ∷ []) some few = refl
common_of_one (x ∷ y ∷ rest) some few = absurd (omega arith)
