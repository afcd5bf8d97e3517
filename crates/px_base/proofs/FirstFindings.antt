-- The order of refusals is total, and the first of several findings does not hang on how they are joined.
use Rattle.std.proofs.Common.{◌≡◌, ℕ, ◌+◌, ◌<◌, ◌≤◌, List, [], ◌∷◌, ◌++◌, length, get_or, take, Bool, true, false, ◌&&◌, ◌||◌, cond, ◌⊎◌, inl, inr, Option, Some, None, refl, sym, ap, subst, ◌∙◌, arith}
use Rattle.std.specs.Prelude.{Contains, IsNone, ◌↔◌, IsTrue, nat_lt, nat_le, ◌==◌}
use Rattle.std.proofs.lemmas.Bool.Decides.{nat_tests}
use Rattle.std.proofs.lemmas.List.{take_more}
use Rattle.std.proofs.lemmas.List.Elements.{Contains-append_left, Contains-push, Contains-push_cases}
use Rattle.px_base.specs.declared.refusals.Refusal.{Refusal}
use Rattle.px_base.specs.Findings.{comes_first, IsFirst, first_of}

-- the test by plain numbers
abbrev test : ℕ → ℕ → ℕ → ℕ → ℕ → ℕ → Bool
test l c n l' c' n' = nat_lt l l' || l == l' && (nat_lt c c' || c == c' && nat_le n n')

by_line : (l c n l' c' n' : ℕ) → l < l' → test l c n l' c' n' ≡ true
by_line l c n l' c' n' line = grind (arith, nat_tests)

by_column : (l c n l' c' n' : ℕ) → l ≡ l' → c < c' → test l c n l' c' n' ≡ true
by_column l c n l' c' n' line column = grind (arith, nat_tests)

by_number : (l c n l' c' n' : ℕ) → l ≡ l' → c ≡ c' → n ≤ n' → test l c n l' c' n' ≡ true
by_number l c n l' c' n' line column number = grind (arith, nat_tests)

total : (l c n l' c' n' : ℕ) → (test l c n l' c' n' ≡ true) ⊎ (test l' c' n' l c n ≡ true)
total l c n l' c' n' = grind (arith, nat_tests)

transitive : (l c n l' c' n' l'' c'' n'' : ℕ) → test l c n l' c' n' ≡ true → test l' c' n' l'' c'' n'' ≡ true → test l c n l'' c'' n'' ≡ true
transitive l c n l' c' n' l'' c'' n'' first second = grind (arith, nat_tests)

same_line : (l c n l' c' n' : ℕ) → test l c n l' c' n' ≡ true → test l' c' n' l c n ≡ true → l ≡ l'
same_line l c n l' c' n' there back = grind (arith, nat_tests)

same_column : (l c n l' c' n' : ℕ) → test l c n l' c' n' ≡ true → test l' c' n' l c n ≡ true → c ≡ c'
same_column l c n l' c' n' there back = grind (arith, nat_tests)

same_number : (l c n l' c' n' : ℕ) → test l c n l' c' n' ≡ true → test l' c' n' l c n ≡ true → n ≡ n'
same_number l c n l' c' n' there back = grind (arith, nat_tests)

abbrev made : ℕ → ℕ → ℕ → Refusal
made l c n = record { number = n; line = l; column = c }

pub comes_first-total : (a b : Refusal) → IsTrue (comes_first a b) ⊎ IsTrue (comes_first b a)
unfolding comes_first
comes_first-total a b = total a.line a.column a.number b.line b.column b.number

pub comes_first-transitive : (a b c : Refusal) → IsTrue (comes_first a b) → IsTrue (comes_first b c) → IsTrue (comes_first a c)
unfolding comes_first
comes_first-transitive a b c first second = transitive a.line a.column a.number b.line b.column b.number c.line c.column c.number first second

pub comes_first-antisymmetric : (a b : Refusal) → IsTrue (comes_first a b) → IsTrue (comes_first b a) → a ≡ b
unfolding comes_first
comes_first-antisymmetric a b there back =
    let line = same_line a.line a.column a.number b.line b.column b.number there back in
    let column = same_column a.line a.column a.number b.line b.column b.number there back in
    let number = same_number a.line a.column a.number b.line b.column b.number there back in
    ap (λ (l : ℕ). made l a.column a.number) line ∙ ap (λ (c : ℕ). made b.line c a.number) column ∙ ap (λ (n : ℕ). made b.line b.column n) number

pub comes_first-reflexive : (a : Refusal) → IsTrue (comes_first a a)
comes_first-reflexive a = elim (comes_first-total a a) [ inl first ↦ first | inr first ↦ first ]

pub comes_first-line : (a b : Refusal) → a.line < b.line → IsTrue (comes_first a b)
unfolding comes_first
comes_first-line a b line = by_line a.line a.column a.number b.line b.column b.number line

pub comes_first-column : (a b : Refusal) → a.line ≡ b.line → a.column < b.column → IsTrue (comes_first a b)
unfolding comes_first
comes_first-column a b line column = by_column a.line a.column a.number b.line b.column b.number line column

pub comes_first-number : (a b : Refusal) → a.line ≡ b.line → a.column ≡ b.column → a.number ≤ b.number → IsTrue (comes_first a b)
unfolding comes_first
comes_first-number a b line column number = by_number a.line a.column a.number b.line b.column b.number line column number

-- what does not come first comes after
pub comes_after : (a b : Refusal) → comes_first a b ≡ false → IsTrue (comes_first b a)
comes_after a b late = elim (comes_first-total a b) [ inl first ↦ absurd cc | inr first ↦ first ]

pub first_of-left : (a b : Refusal) → IsTrue (comes_first a b) → first_of (Some a) (Some b) ≡ Some a
first_of-left a b first = rw first refl

pub first_of-right : (a b : Refusal) → comes_first a b ≡ false → first_of (Some a) (Some b) ≡ Some b
first_of-right a b late = rw late refl

-- ---- the laws

either : (a b : Refusal) (x y : Bool) → comes_first a b ≡ x → comes_first b a ≡ y → first_of (Some a) (Some b) ≡ first_of (Some b) (Some a)
either a b true true e f = first_of-left a b e ∙ ap Some (comes_first-antisymmetric a b e f) ∙ sym (first_of-left b a f)
either a b true false e f = first_of-left a b e ∙ sym (first_of-right b a f)
either a b false y e f = first_of-right a b e ∙ sym (first_of-left b a (comes_after a b e))

pub first_of-commutative : (a b : Option Refusal) → first_of a b ≡ first_of b a
first_of-commutative None None = refl
first_of-commutative None (Some b) = refl
first_of-commutative (Some a) None = refl
first_of-commutative (Some a) (Some b) = either a b (comes_first a b) (comes_first b a) refl refl

pub first_of-idempotent : (a : Option Refusal) → first_of a a ≡ a
first_of-idempotent None = refl
first_of-idempotent (Some a) = first_of-left a a (comes_first-reflexive a)

-- what comes after one of two in their order comes after the other
late : (a b c : Refusal) (x : Bool) → comes_first a c ≡ x → comes_first a b ≡ false → comes_first b c ≡ false → comes_first a c ≡ false
late a b c true e ab bc = let early : comes_first b c ≡ true = comes_first-transitive b a c (comes_after a b ab) e in absurd cc
late a b c false e ab bc = e

three : (a b c : Refusal) (x y : Bool) → comes_first a b ≡ x → comes_first b c ≡ y
    → first_of (cond x (Some a) (Some b)) (Some c) ≡ first_of (Some a) (cond y (Some b) (Some c))
three a b c true true e f = first_of-left a c (comes_first-transitive a b c e f) ∙ sym (first_of-left a b e)
three a b c true false e f = refl
three a b c false true e f = first_of-left b c f ∙ sym (first_of-right a b e)
three a b c false false e f = first_of-right b c f ∙ sym (first_of-right a c (late a b c (comes_first a c) refl e f))

alone : (x : Bool) (a b : Refusal) → first_of (cond x (Some a) (Some b)) None ≡ cond x (Some a) (Some b)
alone true a b = refl
alone false a b = refl

before : (x : Bool) (a b : Refusal) → first_of None (cond x (Some a) (Some b)) ≡ cond x (Some a) (Some b)
before true a b = refl
before false a b = refl

pub first_of-associative : (a b c : Option Refusal) → first_of (first_of a b) c ≡ first_of a (first_of b c)
first_of-associative None b c = refl
first_of-associative (Some a) None None = refl
first_of-associative (Some a) None (Some c) = refl
first_of-associative (Some a) (Some b) None = alone (comes_first a b) a b
first_of-associative (Some a) (Some b) (Some c) = three a b c (comes_first a b) (comes_first b c) refl refl

-- ---- the first of all

joined_by : (P Q : Refusal → Type 0) (a b : Refusal) (x : Bool) → comes_first a b ≡ x → IsFirst P (Some a) → IsFirst Q (Some b) → IsFirst (λ r. P r ⊎ Q r) (cond x (Some a) (Some b))
joined_by P Q a b true e is_a is_b = (inl is_a.0, λ r h. elim h [ inl p ↦ is_a.1 r p | inr q ↦ comes_first-transitive a b r e (is_b.1 r q) ])
joined_by P Q a b false e is_a is_b = (inr is_b.0, λ r h. elim h [ inl p ↦ comes_first-transitive b a r (comes_after a b e) (is_a.1 r p) | inr q ↦ is_b.1 r q ])

-- the first of what one fact or another holds of
pub joined : (P Q : Refusal → Type 0) (a b : Option Refusal) → IsFirst P a → IsFirst Q b → IsFirst (λ r. P r ⊎ Q r) (first_of a b)
joined P Q None None none_p none_q = λ r h. elim h [ inl p ↦ none_p r p | inr q ↦ none_q r q ]
joined P Q None (Some b) none_p is_b = (inr is_b.0, λ r h. elim h [ inl p ↦ absurd (none_p r p) | inr q ↦ is_b.1 r q ])
joined P Q (Some a) None is_a none_q = (inl is_a.0, λ r h. elim h [ inl p ↦ is_a.1 r p | inr q ↦ absurd (none_q r q) ])
joined P Q (Some a) (Some b) is_a is_b = joined_by P Q a b (comes_first a b) refl is_a is_b

-- the first where another fact holds of the same refusals
pub weaker : (P Q : Refusal → Type 0) (found : Option Refusal) → ((r : Refusal) → P r → Q r) → ((r : Refusal) → Q r → P r) → IsFirst P found → IsFirst Q found
weaker P Q None there back none = λ r q. none r (back r q)
weaker P Q (Some first) there back is = (there first is.0, λ r q. is.1 r (back r q))

-- there is one first at most
pub only : (P : Refusal → Type 0) (a b : Option Refusal) → IsFirst P a → IsFirst P b → a ≡ b
only P None None none_a none_b = refl
only P None (Some b) none_a is_b = absurd (none_a b is_b.0)
only P (Some a) None is_a none_b = absurd (none_b a is_a.0)
only P (Some a) (Some b) is_a is_b = ap Some (comes_first-antisymmetric a b (is_a.1 b is_b.0) (is_b.1 a is_a.0))

-- the first of one refusal alone
pub single : (a : Refusal) → IsFirst (λ r. a ≡ r) (Some a)
single a = (refl, λ r same. subst (λ (s : Refusal). IsTrue (comes_first a s)) same (comes_first-reflexive a))

-- the first of a list so far, and of one more
pub first_of_more : (xs : List Refusal) (i : ℕ) (d : Refusal) (found : Option Refusal) → i < length xs
    → IsFirst (Contains (take i xs)) found → IsFirst (Contains (take (i + 1) xs)) (first_of found (Some (get_or xs i d)))
first_of_more xs i d found in_range so_far =
    let x = get_or xs i d in
    let P : Refusal → Type 0 = λ r. Contains (take i xs) r ⊎ (x ≡ r) in
    let there : (r : Refusal) → P r → Contains (take i xs ++ x ∷ []) r = λ r h. elim h [
      | inl earlier ↦ Contains-append_left (take i xs) (x ∷ []) r earlier
      | inr same ↦ subst (λ (y : Refusal). Contains (take i xs ++ x ∷ []) y) same (Contains-push (take i xs) x)
    ] in
    rw (take_more xs i d in_range) (weaker P (Contains (take i xs ++ x ∷ [])) (first_of found (Some x)) there (λ r h. Contains-push_cases (take i xs) x r h)
    (joined (Contains (take i xs)) (λ r. x ≡ r) found (Some x) so_far (single x)))

-- there is no first exactly where the list is empty
pub none_first : (xs : List Refusal) (found : Option Refusal) → IsFirst (Contains xs) found → IsNone found ↔ (xs ≡ [])
none_first [] None is = (λ h. refl, λ h. refl)
none_first [] (Some x) is = (λ h. refl, λ h. absurd (omega (arith, is.0.1)))
none_first (x ∷ xs) None none = (λ h. absurd (none x (0, omega arith, refl)), λ h. refl)
none_first (x ∷ xs) (Some y) is = (λ h. absurd cc, λ h. absurd cc)
