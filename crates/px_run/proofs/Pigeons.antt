-- Distinct numbers below a bound are no more than it.
use Rattle.std.proofs.Common.{◌≡◌, ◌≢◌, ◌⊎◌, inl, inr, ℕ, zero, suc, ◌<◌, ◌≤◌, List, [], ◌∷◌, length, subst, arith}

-- a number that isn't in a list
abbrev pub IsNew : ℕ → List ℕ → Type 0
IsNew n [] = Unit {0}
IsNew n (m ∷ ms) = (n ≢ m) × IsNew n ms

-- distinct numbers below a bound
abbrev pub AreApart : ℕ → List ℕ → Type 0
AreApart n [] = Unit {0}
AreApart n (m ∷ ms) = (m < n) × IsNew m ms × AreApart n ms

-- numbers below the next bound are below this one, but for one of them
record WithoutTop (n : ℕ) (ms : List ℕ) : Type 0 where
  others : List ℕ
  apart : AreApart n others
  shorter : length ms ≤ suc (length others)
  new : (k : ℕ) → IsNew k ms → IsNew k others

lowered : (n : ℕ) (ms : List ℕ) → IsNew n ms → AreApart (suc n) ms → AreApart n ms
lowered n [] new apart = tt
lowered n (m ∷ ms) new apart = (let other : n ≢ m = new.0 in let less : m < suc n = apart.0 in grind arith, apart.1, lowered n ms new.1 apart.2)

without_top : (n : ℕ) (ms : List ℕ) → AreApart (suc n) ms → WithoutTop n ms
without_top n [] apart = record { others = []; apart = tt; shorter = omega arith; new = λ k new. tt }
without_top n (m ∷ ms) apart = by (let less : m < suc n = apart.0 in grind arith) (without_top n ms apart.2)
  where
    by : (m ≡ n) ⊎ (m < n) → WithoutTop n ms → WithoutTop n (m ∷ ms)
    by (inl same) w = record {
      others = ms;
      apart = lowered n ms (subst (λ k. IsNew k ms) same apart.1) apart.2;
      shorter = omega arith;
      new = λ k new. new.1;
    }
    by (inr less) w = record {
      others = m ∷ w.others;
      apart = (less, w.new m apart.1, w.apart);
      shorter = (let s = w.shorter in omega arith);
      new = λ k new. (new.0, w.new k new.1);
    }

pub no_more : (n : ℕ) (ms : List ℕ) → AreApart n ms → length ms ≤ n
no_more zero [] apart = omega arith
no_more zero (m ∷ ms) apart = absurd (omega (arith, apart.0))
no_more (suc n) ms apart = let w = without_top n ms apart in let le = no_more n w.others w.apart in let s = w.shorter in omega arith
