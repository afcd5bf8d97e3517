-- Loops over registers that stand behind one another.
use Rattle.std.proofs.Common.{◌≡◌, ℕ, suc, ◌+◌, ◌-◌, ◌<◌, ◌≤◌, List, [], ◌∷◌, ◌++◌, sym, ap, ◌∙◌, append_assoc, arith}
use Rattle.std.proofs.lemmas.List.{append-nil}

pub range_first : {A : Type 0} (row : ℕ → ℕ → List A) (first count : ℕ) (before : List A)
    → before ++ row first (first + count - first) ≡ before ++ row first count
range_first row first count before = let e : first + count - first ≡ count = omega arith in ap (λ n. before ++ row first n) e

pub range_next : {A : Type 0} (row : ℕ → ℕ → List A) (make : ℕ → A) → ((n count : ℕ) → row n (suc count) ≡ make n ∷ row (suc n) count)
    → (last number : ℕ) (before after total : List A)
    → before ++ row number (last - number) ≡ total → number < last → after ≡ before ++ make number ∷ []
    → after ++ row (number + 1) (last - (number + 1)) ≡ total
range_next row make step last number before after total so_far within e =
    let left : last - number ≡ suc (last - (number + 1)) = omega arith in
    let next : number + 1 ≡ suc number = omega arith in
    ap (λ xs. xs ++ row (number + 1) (last - (number + 1))) e
    ∙ append_assoc before (make number ∷ []) (row (number + 1) (last - (number + 1)))
    ∙ ap (λ n. before ++ make number ∷ row n (last - (number + 1))) next
    ∙ sym (ap (λ xs. before ++ xs) (ap (row number) left ∙ step number (last - (number + 1)))) ∙ so_far

pub range_last : {A : Type 0} (row : ℕ → ℕ → List A) → ((n : ℕ) → row n 0 ≡ []) → (last number : ℕ) (before total : List A)
    → before ++ row number (last - number) ≡ total → last ≤ number → before ≡ total
range_last row none last number before total so_far past =
    let left : last - number ≡ 0 = omega arith in
    sym (ap (λ xs. before ++ xs) (ap (row number) left ∙ none number) ∙ append-nil before) ∙ so_far
