-- How many references there are, where one slot is changed.
use Rattle.std.proofs.Common.{◌≡◌, ◌≢◌, ℕ, zero, suc, ◌+◌, ◌<◌, ◌≤◌, List, [], ◌∷◌, get_or, Option, Some, None, refl, sym, ap, ◌∙◌, arith}
use Rattle.std.specs.Prelude.{option_map}
use Rattle.std.proofs.lemmas.Bool.{eq-eqb, ne_eqb}
use Rattle.px_heap.specs.declared.slots.Object.{Object}
use Rattle.px_heap.specs.declared.values.Serial.{Serial}
use Rattle.px_heap.specs.References.{AreAt, IsAt, inner, times, times_in}

inner_empty : (b : List (Option Object)) (n : ℕ) → ((k : ℕ) → get_or b k None ≡ None) → inner b n ≡ 0
inner_empty [] n h = refl
inner_empty (y ∷ b) n h =
    let e : times_in n y ≡ 0 = ap (times_in n) (h 0) in
    let f = inner_empty b n (λ k. h (suc k)) in
    omega (arith, e, f)

inner_same : (a b : List (Option Object)) (n : ℕ) → ((k : ℕ) → get_or b k None ≡ get_or a k None) → inner b n ≡ inner a n
inner_same [] b n h = inner_empty b n h
inner_same (x ∷ a) [] n h = sym (inner_empty (x ∷ a) n (λ k. sym (h k)))
inner_same (x ∷ a) (y ∷ b) n h =
    let e : times_in n y ≡ times_in n x = ap (times_in n) (h 0) in
    let f = inner_same a b n (λ k. h (suc k)) in
    omega (arith, e, f)

suc_apart : (k j : ℕ) → (k ≢ j) → suc k ≢ suc j
suc_apart k j d e = d (omega (arith, e))

-- the references in the old slot go, and those in the new one come
pub inner_changed : (a b : List (Option Object)) (key n : ℕ) → ((other : ℕ) → other ≢ key → get_or b other None ≡ get_or a other None)
    → inner b n + times_in n (get_or a key None) ≡ inner a n + times_in n (get_or b key None)
inner_changed [] [] key n h = refl
inner_changed [] (y ∷ b) zero n h =
    let f = inner_empty b n (λ k. h (suc k) (λ e. omega (arith, e))) in
    omega (arith, f)
inner_changed [] (y ∷ b) (suc key) n h =
    let e : times_in n y ≡ 0 = ap (times_in n) (h 0 (λ e. omega (arith, e))) in
    let f = inner_changed [] b key n (λ k d. h (suc k) (suc_apart k key d)) in
    omega (arith, e, f)
inner_changed (x ∷ a) [] zero n h =
    let f = inner_empty a n (λ k. sym (h (suc k) (λ e. omega (arith, e)))) in
    omega (arith, f)
inner_changed (x ∷ a) [] (suc key) n h =
    let e : 0 ≡ times_in n x = ap (times_in n) (h 0 (λ e. omega (arith, e))) in
    let f = inner_changed a [] key n (λ k d. h (suc k) (suc_apart k key d)) in
    omega (arith, e, f)
inner_changed (x ∷ a) (y ∷ b) zero n h =
    let f = inner_same a b n (λ k. h (suc k) (λ e. omega (arith, e))) in
    omega (arith, f)
inner_changed (x ∷ a) (y ∷ b) (suc key) n h =
    let e : times_in n y ≡ times_in n x = ap (times_in n) (h 0 (λ e. omega (arith, e))) in
    let f = inner_changed a b key n (λ k d. h (suc k) (suc_apart k key d)) in
    omega (arith, e, f)

-- a slot's references are among all
pub inner_at : (a : List (Option Object)) (k n : ℕ) → times_in n (get_or a k None) ≤ inner a n
inner_at [] k n = omega arith
inner_at (x ∷ a) zero n = omega arith
inner_at (x ∷ a) (suc k) n = let f = inner_at a k n in omega (arith, f)

pub inner_none : (a : List (Option Object)) (n : ℕ) → ((k : ℕ) → times_in n (get_or a k None) ≡ 0) → inner a n ≡ 0
inner_none [] n h = refl
inner_none (x ∷ a) n h =
    let e = h 0 in
    let f = inner_none a n (λ k. h (suc k)) in
    omega (arith, e, f)

pub times_here : (n : ℕ) (r : Serial) (rs : List Serial) → r.number ≡ n → times n (r ∷ rs) ≡ 1 + times n rs
times_here n r rs e = rw (eq-eqb r.number n e) refl

pub times_there : (n : ℕ) (r : Serial) (rs : List Serial) → r.number ≢ n → times n (r ∷ rs) ≡ times n rs
times_there n r rs d = rw (ne_eqb r.number n d) (omega arith)

pub times_less : (n : ℕ) (r : Serial) (rs : List Serial) → times n rs ≤ times n (r ∷ rs)
times_less n r rs = omega arith

-- references stay at their objects where these stay
pub still_at : (a b : List (Option Object)) (rs : List Serial) → ((r : Serial) → 0 < times r.number rs → IsAt a r → IsAt b r) → AreAt a rs → AreAt b rs
still_at a b [] f h = tt
still_at a b (r ∷ rs) f h = (
  f r (let e = times_here r.number r rs refl in omega (arith, e)) h.0,
  still_at a b rs (λ q i. f q (let e = times_less q.number r rs in omega (arith, e, i))) h.1,
)

-- no reference is to an object with a number that none has
pub times_none : (a : List (Option Object)) (n : ℕ) (rs : List Serial) → ((k : ℕ) (o : Object) → get_or a k None ≡ Some o → o.number ≢ n) → AreAt a rs → times n rs ≡ 0
times_none a n [] f h = refl
times_none a n (r ∷ rs) f h =
    times_there n r rs (λ e. by_slot (get_or a r.key None) refl h.0 e) ∙ times_none a n rs f h.1
  where
    by_slot : (slot : Option Object) → get_or a r.key None ≡ slot → option_map (λ o. o.number) slot ≡ Some r.number → r.number ≡ n → ⊥
    by_slot None g i e = absurd (cc)
    by_slot (Some o) g i e = let same : o.number ≡ r.number = cc in f r.key o g (same ∙ e)
