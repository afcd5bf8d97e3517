-- What one more line does to the open levels.
use Rattle.std.proofs.Common.{◌≡◌, ℕ, Bool, List, [], ◌∷◌, ◌++◌, refl, true, false}
use Rattle.std.specs.Prelude.{nat_lt, if◌then◌else◌, ◌&&◌, filter}
use Rattle.std.specs.List.{list_all}
use Rattle.px_lexer.specs.Lines.{open_levels}

list_all-snoc : (test : ℕ → Bool) (xs : List ℕ) (x : ℕ) → list_all test (xs ++ x ∷ []) ≡ (list_all test xs && test x)
list_all-snoc test [] x = by_cases (test x)
  where
    by_cases : (b : Bool) → (b && true) ≡ (true && b)
    by_cases true = refl
    by_cases false = refl
list_all-snoc test (y ∷ ys) x = by_cases (test y) (list_all-snoc test ys x)
  where
    by_cases : (b : Bool) → list_all test (ys ++ x ∷ []) ≡ (list_all test ys && test x) → (b && list_all test (ys ++ x ∷ [])) ≡ ((b && list_all test ys) && test x)
    by_cases true e = e
    by_cases false e = refl

step : (positive all below : Bool) (l level : ℕ) (xs ys zs : List ℕ) → nat_lt l level ≡ below → xs ≡ filter (λ l. nat_lt l level) ys ++ zs
    → (if positive && (all && below) then l ∷ xs else xs) ≡ filter (λ l. nat_lt l level) (if positive && all then l ∷ ys else ys) ++ zs
step false all below l level xs ys zs b e = e
step true false below l level xs ys zs b e = e
step true true true l level xs ys zs b e = rw (b, e) refl
step true true false l level xs ys zs b e = rw (b, e) refl

-- what a further line does to the levels that are open: those that aren't below it are left, and its own is open
pub open_levels-snoc : (levels : List ℕ) (level : ℕ) → open_levels (levels ++ level ∷ []) ≡ filter (λ l. nat_lt l level) (open_levels levels) ++ (if nat_lt 0 level then level ∷ [] else [])
unfolding open_levels
open_levels-snoc [] level = by_cases (nat_lt 0 level)
  where
    by_cases : (b : Bool) → (if b && true then level ∷ [] else []) ≡ (if b then level ∷ [] else [])
    by_cases true = refl
    by_cases false = refl
open_levels-snoc (l ∷ ls) level =
    rw (list_all-snoc (nat_lt l) ls level) (step (nat_lt 0 l) (list_all (nat_lt l) ls) (nat_lt l level) l level _ _ _ refl (open_levels-snoc ls level))
