-- What an outcome that is there is made of.
use Rattle.std.proofs.Common.{◌≡◌, List, [], ◌∷◌, refl, sym, ap}
use Rattle.std.specs.Prelude.{Bool, true, false, if◌then◌else◌, Ok, Err}
use Rattle.px_base.specs.declared.refusals.Span.{Span}
use Rattle.px_operators.specs.Outcomes.{Outcome, unbuilt, followed, mapped, both, single, refused_with}

pub ok_same : {A : Type 0} (a b : A) → ◌≡◌ {A = Outcome A} (Ok a) (Ok b) → a ≡ b
ok_same a b is = cc

pub followed_ok : {A B : Type 0} (o : Outcome A) (next : A → Outcome B) (b : B) → followed o next ≡ Ok b → (a : A) × (o ≡ Ok a) × (next a ≡ Ok b)
followed_ok (Ok a) next b is = (a, refl, is)
followed_ok (Err refusal) next b is = absurd cc

pub mapped_ok : {A B : Type 0} (f : A → B) (o : Outcome A) (b : B) → mapped f o ≡ Ok b → (a : A) × (o ≡ Ok a) × (f a ≡ b)
mapped_ok f (Ok a) b is = (a, refl, ok_same (f a) b is)
mapped_ok f (Err refusal) b is = absurd cc

pub both_ok : {A B : Type 0} (a : Outcome A) (b : Outcome B) (pair : A × B) → both a b ≡ Ok pair → (a ≡ Ok pair.0) × (b ≡ Ok pair.1)
both_ok {A = A} {B = B} (Ok a) (Ok b) pair is =
    let joined : A × B = (a, b) in
    let same : joined ≡ pair = ok_same joined pair is in
    (ap (λ (p : A × B). Ok p.0) same, ap (λ (p : A × B). Ok p.1) same)
both_ok (Ok a) (Err refusal) pair is = absurd cc
both_ok (Err refusal) (Ok b) pair is = absurd cc
both_ok (Err refusal) (Err other) pair is = absurd cc

pub first_ok : {A : Type 0} (o : Outcome A) (others : Outcome (List A)) (xs : List A) → mapped (λ parts. parts.0 ∷ parts.1) (both o others) ≡ Ok xs
    → (x : A) × (rest : List A) × (o ≡ Ok x) × (others ≡ Ok rest) × (xs ≡ x ∷ rest)
first_ok (Ok x) (Ok rest) xs is = (x, rest, refl, refl, sym (ok_same (x ∷ rest) xs is))
first_ok (Ok x) (Err refusal) xs is = absurd cc
first_ok (Err refusal) (Ok rest) xs is = absurd cc
first_ok (Err refusal) (Err other) xs is = absurd cc

pub single_ok : {A : Type 0} (at : Span) (xs : List A) (x : A) → single at xs ≡ Ok x → xs ≡ x ∷ []
single_ok at [] x is = absurd cc
single_ok at (y ∷ []) x is = ap (λ z. z ∷ []) (ok_same y x is)
single_ok at (y ∷ z ∷ xs) x is = absurd cc

pub chosen_ok : {A : Type 0} (test : Bool) (x : A) (at : Span) (y : A) → (if test then Ok x else unbuilt at) ≡ Ok y → x ≡ y
chosen_ok true x at y is = ok_same x y is
chosen_ok false x at y is = absurd cc

pub refused_never : {A B : Type 0} (at : Span) (o : Outcome A) (b : B) → refused_with {B = B} at o ≡ Ok b → ⊥
refused_never at (Ok a) b is = cc
refused_never at (Err refusal) b is = cc
