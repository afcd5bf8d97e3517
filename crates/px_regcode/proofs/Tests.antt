-- What a passed test of lists and facts says.
use Rattle.std.proofs.Common.{◌≡◌, inl, inr, ℕ, zero, suc, ◌+◌, ◌<◌, ℤ, int_eq, Bool, true, false, not, ◌&&◌, ◌||◌, List, [], ◌∷◌, length}
use Rattle.std.proofs.Common.{slice_get, Option, Some, None, Contains, refl, sym, ap, ap₂, ◌∙◌, subst, arith, eq-or-lt_of_le, eqb-true}
use Rattle.std.proofs.Common.{eq-eqb, nat_eq}
use Rattle.std.proofs.lemmas.Bool.Decides.{Decides-int_eq}
use Rattle.px_regcode.specs.Facts.{State, empty, whole, object, held, lent, fault, Phase, to_look, to_claim, to_begin, in_iteration, Stage}
use Rattle.px_regcode.specs.Facts.{outside, inside, FrameFact, frame_fact}
use Rattle.px_regcode.specs.Listed.{same_flag, same_state, same_target, same_phase, same_stage, same_fact, is_fact, every, all_true}
use Rattle.px_regcode.specs.Listed.{all_true, every_from, every_below, every_of, has_fact}

-- ---- tests

pub both : (a b : Bool) → (a && b) ≡ true → (a ≡ true) × (b ≡ true)
both true b is = (refl, is)
both false b is = cc

abbrev pub AllTrue : List Bool → Type 0
AllTrue [] = Unit {0}
AllTrue (b ∷ bs) = (b ≡ true) × AllTrue bs

pub all_of : (bs : List Bool) → all_true bs ≡ true → AllTrue bs
all_of [] is = tt
all_of (b ∷ bs) is = let parts = both b (all_true bs) is in (parts.0, all_of bs parts.1)

pub implied : (a b : Bool) → (not a || b) ≡ true → a ≡ true → b ≡ true
implied true b is holds = is
implied false b is holds = cc

pub one_of : (a b : Bool) → (a || b) ≡ true → a ≡ false → b ≡ true
one_of true b is not_a = cc
one_of false b is not_a = is

pub false_of : (a : Bool) → not a ≡ true → a ≡ false
false_of true is = cc
false_of false is = refl

pub neither : (a b : Bool) → (a || b) ≡ false → (a ≡ false) × (b ≡ false)
neither true b is = cc
neither false b is = (refl, is)

pub contrary : (a : Bool) → a ≡ true → a ≡ false → ⊥
contrary a is is_not = cc

pub not_both : (a b : Bool) → not (a && b) ≡ true → a ≡ true → b ≡ false
not_both true b is holds = false_of b is
not_both false b is holds = cc

-- ---- elements

pub here : {X : Type 0} (x : X) (xs : List X) → Contains (x ∷ xs) x
here x xs = (0, omega arith, refl)

pub there : {X : Type 0} (x y : X) (xs : List X) → Contains xs y → Contains (x ∷ xs) y
there x y xs (k, lt, is) = (suc k, omega (arith, lt), is)

pub every_in : {X : Type 0} (test : X → Bool) (xs : List X) → every test xs ≡ true → (x : X) → Contains xs x → test x ≡ true
every_in test [] is x (k, lt, at) = absurd (omega (arith, lt))
every_in test (y ∷ ys) is x (zero, lt, at) = subst (λ z. test z ≡ true) at (both (test y) (every test ys) is).0
every_in test (y ∷ ys) is x (suc k, lt, at) = every_in test ys (both (test y) (every test ys) is).1 x (k, omega (arith, lt), at)

-- a fact of each element, one beside the other
abbrev pub Each : {X : Type 0} → (X → Type 0) → List X → Type 0
Each P [] = Unit {0}
Each P (x ∷ xs) = P x × Each P xs

pub each_at : {X : Type 0} (P : X → Type 0) (xs : List X) → Each P xs → (k : ℕ) (x : X) → slice_get xs k ≡ Some x → P x
each_at P [] all k x at = cc
each_at P (y ∷ ys) all zero x at = let same : y ≡ x = cc in subst P same all.0
each_at P (y ∷ ys) all (suc k) x at = each_at P ys all.1 k x at

pub each_in : {X : Type 0} (P : X → Type 0) (xs : List X) → Each P xs → (x : X) → Contains xs x → P x
each_in P [] all x (k, lt, at) = absurd (omega (arith, lt))
each_in P (y ∷ ys) all x (zero, lt, at) = subst P at all.0
each_in P (y ∷ ys) all x (suc k, lt, at) = each_in P ys all.1 x (k, omega (arith, lt), at)

pub every_from_at : {X : Type 0} (n : ℕ) (test : ℕ → X → Bool) (xs : List X) → every_from n test xs ≡ true
    → (k : ℕ) (x : X) → slice_get xs k ≡ Some x → test (n + k) x ≡ true
every_from_at n test [] is k x at = cc
every_from_at {X} n test (y ∷ ys) is zero x at =
    let same : y ≡ x = cc in
    let number : n ≡ n + 0 = omega arith in
    subst (λ z. test z x ≡ true) number (subst (λ z. test n z ≡ true) same (both (test n y) (every_from (suc n) test ys) is).0)
every_from_at n test (y ∷ ys) is (suc k) x at =
    let number : suc n + k ≡ n + suc k = omega arith in
    subst (λ z. test z x ≡ true) number (every_from_at (suc n) test ys (both (test n y) (every_from (suc n) test ys) is).1 k x at)

pub every_at : {X : Type 0} (test : ℕ → X → Bool) (xs : List X) → every_from 0 test xs ≡ true
    → (k : ℕ) (x : X) → slice_get xs k ≡ Some x → test k x ≡ true
every_at test xs is k x at =
    let number : 0 + k ≡ k = omega arith in
    subst (λ z. test z x ≡ true) number (every_from_at 0 test xs is k x at)

pub element_at : {X : Type 0} (xs : List X) (k : ℕ) → k < length xs → (x : X) × (slice_get xs k ≡ Some x)
element_at [] k lt = absurd (omega (arith, lt))
element_at (x ∷ xs) zero lt = (x, refl)
element_at (x ∷ xs) (suc k) lt = element_at xs k (omega (arith, lt))

pub every_below_at : (n : ℕ) (test : ℕ → Bool) → every_below n test ≡ true → (k : ℕ) → k < n → test k ≡ true
every_below_at zero test is k lt = absurd (omega (arith, lt))
every_below_at (suc n) test is k lt =
    let parts = both (test n) (every_below n test) is in
    elim (eq-or-lt_of_le {n = k} {m = n} (omega (arith, lt))) [
      | inl same ↦ subst (λ z. test z ≡ true) (sym same) parts.0
      | inr less ↦ every_below_at n test parts.1 k less
    ]

same_number : (n : ℕ) → nat_eq n n ≡ true
same_number n = eq-eqb n n refl

pub every_of_in : (rs : List ℕ) (facts : List (ℕ × State)) (test : ℕ → State → Bool) → every_of rs facts test ≡ true
    → (r : ℕ) (s : State) → Contains rs r → Contains facts (r, s) → test r s ≡ true
every_of_in rs facts test is r s named may =
    let inner = every_in (λ q. every (λ p. not (nat_eq q p.0) || test q p.1) facts) rs is r named in
    implied (nat_eq r r) (test r s) (every_in (λ p. not (nat_eq r p.0) || test r p.1) facts inner (r, s) may) (same_number r)

-- ---- equal facts

flags : (a b : Bool) → same_flag a b ≡ true → a ≡ b
flags true true is = refl
flags true false is = cc
flags false true is = cc
flags false false is = refl

pub same_states : (s t : State) → same_state s t ≡ true → s ≡ t
unfolding same_state
same_states empty empty is = refl
same_states whole whole is = refl
same_states (object a) (object b) is = ap object (flags a b is)
same_states (held n a) (held m b) is =
    let parts = both (nat_eq n m) (same_flag a b) is in ap₂ held (eqb-true n m parts.0) (flags a b parts.1)
same_states (lent n r a) (lent m q b) is =
    let parts = both (nat_eq n m && nat_eq r q) (same_flag a b) is in
    let numbers = both (nat_eq n m) (nat_eq r q) parts.0 in
    let n_is = eqb-true n m numbers.0 in
    let r_is = eqb-true r q numbers.1 in
    let flag = flags a b parts.1 in
    cc
same_states fault fault is = refl
same_states s t is = cc

targets_same : (k j : Option ℕ) → same_target k j ≡ true → k ≡ j
targets_same None None is = refl
targets_same (Some k) (Some j) is = ap Some (eqb-true k j is)
targets_same k j is = cc

phases : (p q : Phase) → same_phase p q ≡ true → p ≡ q
phases to_look to_look is = refl
phases to_claim to_claim is = refl
phases to_begin to_begin is = refl
phases in_iteration in_iteration is = refl
phases p q is = cc

stages : (a b : Stage) → same_stage a b ≡ true → a ≡ b
stages outside outside is = refl
stages (inside n p) (inside m q) is =
    let parts = both (nat_eq n m) (same_phase p q) is in ap₂ inside (eqb-true n m parts.0) (phases p q parts.1)
stages a b is = cc

pub int_is : (x y : ℤ) → int_eq x y ≡ true → x ≡ y
int_is x y is = (Decides-int_eq x y).0 is

pub int_is_not : (x y : ℤ) → int_eq x y ≡ false → x ≡ y → ⊥
int_is_not x y is same = let yes = (Decides-int_eq x y).1 same in cc

same_facts : (a b : FrameFact) → same_fact a b ≡ true → a ≡ b
unfolding same_fact
same_facts a b is =
    let parts = both (same_target a.handler b.handler && int_eq a.count b.count) (same_stage a.stage b.stage) is in
    let front = both (same_target a.handler b.handler) (int_eq a.count b.count) parts.0 in
    let handler = targets_same a.handler b.handler front.0 in
    let count = int_is a.count b.count front.1 in
    let stage = stages a.stage b.stage parts.1 in
    ap₂ (λ h c. frame_fact h c a.stage) handler count ∙ ap (λ z. frame_fact b.handler b.count z) stage

pub fact_is : (o : Option FrameFact) (fact : FrameFact) → is_fact o fact ≡ true → o ≡ Some fact
fact_is None fact is = cc
fact_is (Some other) fact is = ap Some (same_facts other fact is)

pub fact_in : (facts : List (ℕ × State)) (q : ℕ × State) → has_fact facts q ≡ true → Contains facts q
fact_in [] q is = cc
fact_in (p ∷ ps) q is = first_or_later (nat_eq p.0 q.0 && same_state p.1 q.1) refl (fact_in ps q)
  where
    first_or_later : (b : Bool) → (nat_eq p.0 q.0 && same_state p.1 q.1) ≡ b → (has_fact ps q ≡ true → Contains ps q) → Contains (p ∷ ps) q
    first_or_later true eq later =
        let parts = both (nat_eq p.0 q.0) (same_state p.1 q.1) eq in
        let same : p ≡ q = ap₂ (λ r s. (r, s)) (eqb-true p.0 q.0 parts.0) (same_states p.1 q.1 parts.1) in
        (0, omega arith, same)
    first_or_later false eq later = there p q ps (later (one_of (nat_eq p.0 q.0 && same_state p.1 q.1) (has_fact ps q) is eq))
