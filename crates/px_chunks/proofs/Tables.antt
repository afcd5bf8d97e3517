-- Lists of equal blocks: their sums, their lengths and their parts.
use Rattle.std.proofs.Common.{◌≡◌, ℕ, zero, suc, ◌+◌, ◌-◌, ◌*◌, ◌/◌, ◌%◌, ◌<◌, ◌≤◌, min, List, [], ◌∷◌, ◌++◌, length, get_or, take, refl, sym, subst, ◌∙◌, ap, arith, inl, inr, length-append, replicate, add-one, add-zero, zero-add}
use Rattle.std.specs.Prelude.{sum, nat_lt, if◌then◌else◌}
use Rattle.std.specs.List.{range_with_len, flat_map}
use Rattle.std.specs.Int.{div_ceil}
use Rattle.std.proofs.lemmas.List.{take-append-le, get_or_append_left, get_or-append-add, get_or-replicate, length-replicate, take-replicate, take_all, append-nil}
use Rattle.std.proofs.lemmas.List.Sums.{sum_by-append, sum_by_more}
use Rattle.std.proofs.lemmas.List.Folds.{sum_by-replicate}
use Rattle.std.proofs.lemmas.Nat.{div-add-mod', mod_below}
use Rattle.std.proofs.lemmas.Grind.{flat_map-append}
use Rattle.std.proofs.lemmas.Bool.{cases_lt, lt-ltb, le-ltb}
use Rattle.std.proofs.Math.Nat.{div-eq_of_lt, mod-le, add-mul, mul-suc, suc-mul, mul_comm, mul-le-mul_right}
use Rattle.std.proofs.Math.Seq.{take-append-add}
use Rattle.px_model.specs.Chunks.{even_blocks, blocks_of, last_block, chunk_at, places_held, first_place}

-- ---- runs of equal blocks
pub sum-append : (xs ys : List ℕ) → sum (xs ++ ys) ≡ sum xs + sum ys
sum-append xs ys = sum_by-append (λ x. x) xs ys

pub sum-replicate : (n x : ℕ) → sum (replicate n x) ≡ n * x
sum-replicate n x = sum_by-replicate (λ y. y) n x

pub sum_more : (xs : List ℕ) (k : ℕ) → k < length xs → sum (take (k + 1) xs) ≡ sum (take k xs) + get_or xs k 0
sum_more xs k h = sum_by_more (λ x. x) xs k 0 h

-- the blocks of the first run alone
pub front_sum : (a x k : ℕ) (ys : List ℕ) → k ≤ a → sum (take k (replicate a x ++ ys)) ≡ k * x
front_sum a x k ys h =
    let short : k ≤ length (replicate a x) = omega (arith, length-replicate a x) in
    ap sum (take-append-le k (replicate a x) ys short ∙ take-replicate k a x h) ∙ sum-replicate k x

pub front_at : (a x k : ℕ) (ys : List ℕ) → k < a → get_or (replicate a x ++ ys) k 0 ≡ x
front_at a x k ys h =
    let short : k < length (replicate a x) = omega (arith, length-replicate a x) in
    get_or_append_left (replicate a x) ys 0 k short ∙ get_or-replicate a k x 0 h

-- j blocks more of the second run
pub back_sum : (a x b y j : ℕ) → j ≤ b → sum (take (a + j) (replicate a x ++ replicate b y)) ≡ a * x + j * y
back_sum a x b y j h =
    ap (λ m. sum (take (m + j) (replicate a x ++ replicate b y))) (sym (length-replicate a x))
    ∙ ap sum (take-append-add (replicate a x) (replicate b y) j ∙ ap (λ ys. replicate a x ++ ys) (take-replicate j b y h))
    ∙ sum-append (replicate a x) (replicate j y)
    ∙ ap (λ m. m + sum (replicate j y)) (sum-replicate a x)
    ∙ ap (λ m. a * x + m) (sum-replicate j y)

pub back_at : (a x b y j : ℕ) → j < b → get_or (replicate a x ++ replicate b y) (a + j) 0 ≡ y
back_at a x b y j h =
    ap (λ m. get_or (replicate a x ++ replicate b y) (m + j) 0) (sym (length-replicate a x))
    ∙ get_or-append-add (replicate a x) (replicate b y) j 0
    ∙ get_or-replicate b j y 0 h

-- ---- even blocks
pub even_length : (n T : ℕ) → 0 < T → length (even_blocks n T) ≡ min n T
even_length n T h =
    omega (arith, length-append (replicate (n % T) (n / T + 1)) (replicate (min n T - n % T) (n / T)), length-replicate (n % T) (n / T + 1), length-replicate (min n T - n % T) (n / T), mod-le n T, mod_below n T h)

-- k blocks of a share, the first r of which are longer by one
shares : (r k j q : ℕ) → k ≡ r + j → r * (q + 1) + j * q ≡ k * q + r
shares r k j q e = omega (arith, ap (λ m. m * q) e, add-mul r j q, mul-suc r q)

total_of : (n T q r : ℕ) → q * T + r ≡ n → r < T → (n < T → q ≡ 0) → r * (q + 1) + (min n T - r) * q ≡ n
total_of n T q r e below few = elim (cases_lt n T) [
  | inl less ↦ let none : q ≡ 0 = few less in let all : 0 * T + r ≡ n = rw none at e in rw none (omega (arith, all))
  | inr more ↦ shares r T (min n T - r) q (omega arith) ∙ omega (arith, e, mul_comm T q)
]

pub even_sum : (n T : ℕ) → 0 < T → sum (even_blocks n T) ≡ n
even_sum n T h =
    sum-append (replicate (n % T) (n / T + 1)) (replicate (min n T - n % T) (n / T))
    ∙ ap (λ m. m + sum (replicate (min n T - n % T) (n / T))) (sum-replicate (n % T) (n / T + 1))
    ∙ ap (λ m. n % T * (n / T + 1) + m) (sum-replicate (min n T - n % T) (n / T))
    ∙ total_of n T (n / T) (n % T) (div-add-mod' n T) (mod_below n T h) (λ less. div-eq_of_lt less)

-- a chunk among the longer blocks, and one behind them
pub even_early : (n T k : ℕ) → k < n % T → chunk_at (even_blocks n T) k ≡ (k * (n / T + 1), n / T + 1)
even_early n T k h =
    let ys = replicate (min n T - n % T) (n / T) in
    let first : sum (take k (even_blocks n T)) ≡ k * (n / T + 1) = front_sum (n % T) (n / T + 1) k ys (omega arith) in
    let count : get_or (even_blocks n T) k 0 ≡ n / T + 1 = front_at (n % T) (n / T + 1) k ys h in
    cc

pub even_late : (n T k : ℕ) → 0 < T → n % T ≤ k → k < length (even_blocks n T) → chunk_at (even_blocks n T) k ≡ (k * (n / T) + n % T, n / T)
even_late n T k h more within =
    let j : ℕ = k - n % T in
    let e : n % T + j ≡ k = omega arith in
    let few : j < min n T - n % T = omega (arith, even_length n T h) in
    let first : sum (take (n % T + j) (even_blocks n T)) ≡ n % T * (n / T + 1) + j * (n / T) =
    back_sum (n % T) (n / T + 1) (min n T - n % T) (n / T) j (omega arith) in
    let count : get_or (even_blocks n T) (n % T + j) 0 ≡ n / T =
    back_at (n % T) (n / T + 1) (min n T - n % T) (n / T) j few in
    let total : n % T * (n / T + 1) + j * (n / T) ≡ k * (n / T) + n % T = shares (n % T) k j (n / T) (sym e) in
    let P : ℕ → Type 0 = λ m. chunk_at (even_blocks n T) m ≡ (k * (n / T) + n % T, n / T) in
    subst P e cc

-- a chunk of either kind
pub even_at : (n T k : ℕ) → 0 < T → k < length (even_blocks n T)
    → chunk_at (even_blocks n T) k ≡ (k * (n / T) + min k (n % T), if nat_lt k (n % T) then n / T + 1 else n / T)
even_at n T k h within = elim (cases_lt k (n % T)) [
  | inl less ↦
      let place : k * (n / T + 1) ≡ k * (n / T) + min k (n % T) = omega (arith, mul-suc k (n / T)) in
      even_early n T k less ∙ ap (λ m. (m, n / T + 1)) place
      ∙ ap (λ b. (k * (n / T) + min k (n % T), if b then n / T + 1 else n / T)) (sym (lt-ltb k (n % T) less))
  | inr more ↦
      let place : k * (n / T) + n % T ≡ k * (n / T) + min k (n % T) = omega arith in
      even_late n T k h more within ∙ ap (λ m. (m, n / T)) place
      ∙ ap (λ b. (k * (n / T) + min k (n % T), if b then n / T + 1 else n / T)) (sym (le-ltb k (n % T) more))
]

-- ---- blocks of a size
pub last_length : (r : ℕ) → length (last_block r) ≡ min 1 r
last_length zero = refl
last_length (suc r) = omega arith

pub last_sum : (r : ℕ) → sum (last_block r) ≡ r
last_sum zero = refl
last_sum (suc r) = omega arith

pub last_at : (r : ℕ) → get_or (last_block r) 0 0 ≡ r
last_at zero = refl
last_at (suc r) = refl

pub block_length : (n s : ℕ) → length (blocks_of s n) ≡ div_ceil n s
block_length n s =
    omega (arith, length-append (replicate (n / s) s) (last_block (n % s)), length-replicate (n / s) s, last_length (n % s))

pub block_sum : (n s : ℕ) → sum (blocks_of s n) ≡ n
block_sum n s =
    sum-append (replicate (n / s) s) (last_block (n % s))
    ∙ ap (λ m. m + sum (last_block (n % s))) (sum-replicate (n / s) s)
    ∙ ap (λ m. n / s * s + m) (last_sum (n % s))
    ∙ div-add-mod' n s

-- a chunk begins within the loop, and has the size where that is left, and else all that is left
least_of : (s q k n r : ℕ) → q * s + r ≡ n → k < q → s ≡ min s (n - k * s)
least_of s q k n r e h =
    let d : ℕ = q - (k + 1) in
    let split : q ≡ (k + 1) + d = omega arith in
    omega (arith, ap (λ m. m * s) split, add-mul (k + 1) d s, suc-mul k s, add-one k)

pub block_at : (n s k : ℕ) → 0 < s → k < length (blocks_of s n) → chunk_at (blocks_of s n) k ≡ (k * s, min s (n - k * s))
block_at n s k h within =
    let total : n / s * s + n % s ≡ n = div-add-mod' n s in
    let below : n % s < s = mod_below n s h in
    let few : k < n / s + min 1 (n % s) = omega (arith, block_length n s) in
    let first : sum (take k (blocks_of s n)) ≡ k * s = front_sum (n / s) s k (last_block (n % s)) (omega arith) in
    elim (cases_lt k (n / s)) [
      | inl less ↦
          let count : get_or (blocks_of s n) k 0 ≡ s = front_at (n / s) s k (last_block (n % s)) less in
          let whole : s ≡ min s (n - k * s) = least_of s (n / s) k n (n % s) total less in
          cc
      | inr more ↦
          let e : n / s + 0 ≡ k = omega arith in
          let count : get_or (blocks_of s n) (n / s + 0) 0 ≡ n % s =
          ap (λ m. get_or (blocks_of s n) (m + 0) 0) (sym (length-replicate (n / s) s))
          ∙ get_or-append-add (replicate (n / s) s) (last_block (n % s)) 0 0
          ∙ last_at (n % s) in
          let same : k * s ≡ n / s * s = ap (λ m. m * s) (omega arith) in
          let left : n % s ≡ min s (n - k * s) = omega arith in
          let count_here : get_or (blocks_of s n) k 0 ≡ n % s = rw e at count in
          cc
    ]

pub block_first_below : (n s k : ℕ) → 0 < s → k < length (blocks_of s n) → k * s < n
block_first_below n s k h within =
    let total : n / s * s + n % s ≡ n = div-add-mod' n s in
    let few : k < n / s + min 1 (n % s) = omega (arith, block_length n s) in
    elim (cases_lt k (n / s)) [
      | inl less ↦ let up : (k + 1) * s ≤ n / s * s = mul-le-mul_right s (omega arith) in omega (arith, add-one k, suc-mul k s)
      | inr more ↦ let same : k * s ≡ n / s * s = ap (λ m. m * s) (omega arith) in omega arith
    ]

-- each chunk holds a place
pub block_each : (n s k : ℕ) → 0 < s → k < length (blocks_of s n) → 1 ≤ get_or (blocks_of s n) k 0
block_each n s k h within =
    let at : get_or (blocks_of s n) k 0 ≡ min s (n - k * s) = ap (λ c. c.1) (block_at n s k h within) in
    omega (arith, at, block_first_below n s k h within)

-- a share is more than nothing where there are no longer blocks before it
share_some : (n T q r k : ℕ) → q * T + r ≡ n → r < T → r ≤ k → k < min n T → 1 ≤ q
share_some n T zero r k e below more less = absurd (omega (arith, e))
share_some n T (suc q) r k e below more less = omega arith

pub even_each : (n T k : ℕ) → 0 < T → k < length (even_blocks n T) → 1 ≤ get_or (even_blocks n T) k 0
even_each n T k h within = elim (cases_lt k (n % T)) [
  | inl less ↦ let at : get_or (even_blocks n T) k 0 ≡ n / T + 1 = ap (λ c. c.1) (even_early n T k less) in omega arith
  | inr more ↦
      let at : get_or (even_blocks n T) k 0 ≡ n / T = ap (λ c. c.1) (even_late n T k h more within) in
      let some : 1 ≤ n / T = share_some n T (n / T) (n % T) k (div-add-mod' n T) (mod_below n T h) more (omega (arith, even_length n T h)) in
      omega arith
]

-- ---- the places that a table holds
range_more : (a n m : ℕ) → range_with_len a (n + m) ≡ range_with_len a n ++ range_with_len (a + n) m
range_more a zero m = rw (zero-add m, add-zero a) refl
range_more a (suc n) m =
    let longer : suc n + m ≡ suc (n + m) = omega arith in
    let later : (a + 1) + n ≡ a + suc n = omega arith in
    ap (range_with_len a) longer
    ∙ ap (λ xs. a ∷ xs) (range_more (a + 1) n m ∙ ap (λ b. range_with_len (a + 1) n ++ range_with_len b m) later)

range_on : (n m : ℕ) → range_with_len 0 (n + m) ≡ range_with_len 0 n ++ range_with_len n m
range_on n m = range_more 0 n m ∙ ap (λ a. range_with_len 0 n ++ range_with_len a m) (zero-add n)

front_places : (table : List ℕ) (m : ℕ) → m ≤ length table
    → flat_map (λ k. range_with_len (first_place table k) (get_or table k 0)) (range_with_len 0 m) ≡ range_with_len 0 (sum (take m table))
front_places table zero h = refl
front_places table (suc m) h =
    let places : ℕ → List ℕ = λ k. range_with_len (first_place table k) (get_or table k 0) in
    let total : sum (take (suc m) table) ≡ sum (take m table) + get_or table m 0 =
    ap (λ j. sum (take j table)) (sym (add-one m)) ∙ sum_more table m (omega arith) in
    ap (λ j. flat_map places (range_with_len 0 j)) (sym (add-one m))
    ∙ ap (flat_map places) (range_on m 1)
    ∙ flat_map-append places (range_with_len 0 m) (m ∷ [])
    ∙ ap (λ xs. xs ++ (places m ++ [])) (front_places table m (omega arith))
    ∙ ap (λ xs. range_with_len 0 (sum (take m table)) ++ xs) (append-nil (places m))
    ∙ sym (range_on (sum (take m table)) (get_or table m 0))
    ∙ ap (range_with_len 0) (sym total)

pub places_are : (table : List ℕ) → places_held table ≡ range_with_len 0 (sum table)
places_are table = front_places table (length table) (omega arith) ∙ ap (λ xs. range_with_len 0 (sum xs)) (take_all (length table) table (omega arith))
