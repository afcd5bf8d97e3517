-- Lists of distinct numbers in a range.
use Rattle.std.proofs.Common.{ℕ, suc, ◌<◌, ◌≤◌, ◌≢◌, List, [], ◌∷◌, ◌++◌, All, arith}
use Rattle.std.proofs.lemmas.List.Elements.{All-nil, All-cons, All-append, All-weaker}
use Rattle.std.proofs.lemmas.List.Kept.{AllPairs-cons}
use Rattle.px_exprs.specs.NodeNumbers.{AreDistinct}

-- from the first index to before the second
abbrev pub IsWithin : ℕ → ℕ → ℕ → Type 0
IsWithin i j n = (i ≤ n) × (n < j)

-- distinct numbers in a range
pub record Fits (ns : List ℕ) (i j : ℕ) : Type 0 where
  pub within : All (IsWithin i j) ns
  pub distinct : AreDistinct ns

-- no number
pub nothing : {i j : ℕ} → Fits [] i j
nothing {i} {j} = record { within = All-nil (IsWithin i j); distinct = λ a b d lt within. absurd (omega (arith, within)) }

-- the same in a wider range
pub wider : {ns : List ℕ} {a b i j : ℕ} → Fits ns a b → i ≤ a → b ≤ j → Fits ns i j
wider {ns} {a} {b} {i} {j} f le ge = record { within = All-weaker (IsWithin a b) (IsWithin i j) (λ n w. (omega (arith, w.0, le), omega (arith, w.1, ge))) ns f.within; distinct = f.distinct }

-- a number and others that it isn't
pub with_own : {ns : List ℕ} {i k j : ℕ} → i ≤ k → k < j → All (λ n. k ≢ n) ns → Fits ns i j → Fits (k ∷ ns) i j
with_own {ns} {i} {k} {j} le lt apart f =
    record { within = All-cons (IsWithin i j) k ns (le, lt) f.within; distinct = AllPairs-cons (λ m n. m ≢ n) k ns apart f.distinct }

-- a number, and others behind it
pub before : {ns : List ℕ} {i j : ℕ} → i < j → Fits ns (suc i) j → Fits (i ∷ ns) i j
before {ns} {i} {j} lt f = with_own (omega arith) lt (All-weaker (IsWithin (suc i) j) (λ n. i ≢ n) (λ n w same. omega (arith, w.0, same)) ns f.within) (wider f (omega arith) (omega arith))

all_pairs_first : (n : ℕ) (ns : List ℕ) → AreDistinct (n ∷ ns) → All (λ m. n ≢ m) ns
all_pairs_first n ns h k d lt = h 0 (suc k) d (omega arith) (omega (arith, lt))

all_pairs_rest : (n : ℕ) (ns : List ℕ) → AreDistinct (n ∷ ns) → AreDistinct ns
all_pairs_rest n ns h a b d lt within = h (suc a) (suc b) d (omega (arith, lt)) (omega (arith, within))

all_first : (P : ℕ → Type 0) (n : ℕ) (ns : List ℕ) → All P (n ∷ ns) → P n
all_first P n ns h = h 0 n (omega arith)

all_rest : (P : ℕ → Type 0) (n : ℕ) (ns : List ℕ) → All P (n ∷ ns) → All P ns
all_rest P n ns h k d lt = h (suc k) d (omega (arith, lt))

-- numbers before an index, and others from it on
distinct_append : (k : ℕ) (ns ms : List ℕ) → All (λ n. n < k) ns → All (λ m. k ≤ m) ms → AreDistinct ns → AreDistinct ms → AreDistinct (ns ++ ms)
distinct_append k [] ms low high a b = b
distinct_append k (n ∷ ns) ms low high a b =
    let below = all_first (λ m. m < k) n ns low in
    AllPairs-cons (λ m n. m ≢ n) n (ns ++ ms)
    (All-append (λ m. n ≢ m) ns ms (all_pairs_first n ns a) (All-weaker (λ m. k ≤ m) (λ m. n ≢ m) (λ m le same. omega (arith, below, le, same)) ms high))
    (distinct_append k ns ms (all_rest (λ m. m < k) n ns low) high (all_pairs_rest n ns a) b)

-- numbers in one range, and others in a range behind it
pub both : {ns ms : List ℕ} {i k l j : ℕ} → Fits ns i k → Fits ms l j → i ≤ l → k ≤ l → k ≤ j → Fits (ns ++ ms) i j
both {ns} {ms} {i} {k} {l} {j} f g low middle high =
    record {
      within = All-append (IsWithin i j) ns ms (wider f (omega arith) high).within (wider g low (omega arith)).within;
      distinct = distinct_append l ns ms (All-weaker (IsWithin i k) (λ n. n < l) (λ n w. omega (arith, w.1, middle)) ns f.within) (All-weaker (IsWithin l j) (λ n. l ≤ n) (λ n w. w.0) ms g.within) f.distinct g.distinct;
    }

-- the number between two ranges, and the numbers in them
pub between : {ns ms : List ℕ} {i k j : ℕ} → Fits ns i k → Fits ms (suc k) j → i ≤ k → k < j → Fits (k ∷ (ns ++ ms)) i j
between {ns} {ms} {i} {k} {j} f g low high =
    with_own low high
    (All-append (λ n. k ≢ n) ns ms (All-weaker (IsWithin i k) (λ n. k ≢ n) (λ n w same. omega (arith, w.1, same)) ns f.within) (All-weaker (IsWithin (suc k) j) (λ n. k ≢ n) (λ n w same. omega (arith, w.0, same)) ms g.within))
    (both f g (omega (arith, low)) (omega arith) (omega (arith, high)))
