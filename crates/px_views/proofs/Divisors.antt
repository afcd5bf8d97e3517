-- The greatest common divisor of the strides of axes.
use Rattle.std.proofs.Common.{◌≡◌, ℕ, zero, suc, ◌<◌, ◌≤◌, List, [], ◌∷◌, map, refl, sym, subst, arith, Bool, true, false, cond}
use Rattle.std.specs.Prelude.{All, filter, nat_lt, unsigned_abs}
use Rattle.std.specs.Int.{IsGcd, ◌∣◌}
use Rattle.std.proofs.lemmas.Bool.{ltb-true, ltb-false}
use Rattle.std.proofs.lemmas.Nat.Gcd.{dvd-zero, dvd_trans}
use Rattle.px_views.specs.declared.axes.Axis.{Axis}
use Rattle.px_views.specs.Answers.{IsGreatestDivisor}
use Rattle.px_views.specs.Strides.{step_sizes}

all_more : (P : ℕ → Type 0) (x : ℕ) (xs : List ℕ) → P x → All P xs → All P (x ∷ xs)
all_more P x xs h hs zero d less = h
all_more P x xs h hs (suc k) d less = hs k d (omega arith)

pub no_divisor : IsGreatestDivisor [] 0
no_divisor = record { divides = λ k d less. absurd (omega arith); greatest = λ d h. dvd-zero d }

by_test : (a : Axis) (axes : List Axis) (g h : ℕ) → IsGreatestDivisor (step_sizes axes) g
    → (1 < a.extent → IsGcd g (unsigned_abs a.stride) h) → (a.extent ≤ 1 → h ≡ g)
    → (b : Bool) → nat_lt 1 a.extent ≡ b
    → IsGreatestDivisor (map (λ axis. unsigned_abs axis.stride) (cond b (a ∷ filter (λ axis. nat_lt 1 axis.extent) axes) (filter (λ axis. nat_lt 1 axis.extent) axes))) h
by_test a axes g h rest several few true e =
    let gcd : IsGcd g (unsigned_abs a.stride) h = several (ltb-true 1 a.extent e) in
    record {
      divides = all_more (λ n. h ∣ n) (unsigned_abs a.stride) (step_sizes axes) gcd.1 (λ k d less. dvd_trans h gcd.0 (rest.divides k d less));
      greatest = λ d all. gcd.2 d (rest.greatest d (λ k e less. all (suc k) e (omega arith))) (all 0 0 (omega arith));
    }
by_test a axes g h rest several few false e = subst (IsGreatestDivisor (step_sizes axes)) (sym (few (ltb-false 1 a.extent e))) rest

pub more_divisor : (a : Axis) (axes : List Axis) (g h : ℕ) → IsGreatestDivisor (step_sizes axes) g
    → (1 < a.extent → IsGcd g (unsigned_abs a.stride) h) → (a.extent ≤ 1 → h ≡ g) → IsGreatestDivisor (step_sizes (a ∷ axes)) h
more_divisor a axes g h rest several few = by_test a axes g h rest several few (nat_lt 1 a.extent) refl
