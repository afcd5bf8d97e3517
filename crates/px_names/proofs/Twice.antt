-- Keywords that stand twice are found one by one, beside those that were seen before.
use Rattle.std.proofs.Common.{◌≡◌, ℕ, List, [], ◌∷◌, Bool, true, false, ◌||◌, cond, Option, Some, None, refl, sym, ap, ◌∙◌}
use Rattle.std.specs.Prelude.{bytes_eq}
use Rattle.std.specs.List.{list_any, cons_option}
use Rattle.std.proofs.lemmas.Bool.{false≢true}
use Rattle.px_names.specs.Arguments.{has_twice}
use Rattle.px_names.specs.Kept.{with_seen, is_second_of}

-- whether a name stands among those that were seen, or twice
abbrev pub has_second : (List ℕ → Bool) → List (List ℕ) → Bool
has_second seen [] = false
has_second seen (name ∷ names) = seen name || has_second (with_seen (Some name) seen) names

either : (p seen : List ℕ → Bool) (names : List (List ℕ))
    → list_any (λ n. cond (p n) true (seen n)) names ≡ (list_any p names || list_any seen names)
either p seen [] = refl
either p seen (name ∷ names) =
    ap (λ b. cond (p name) true (seen name) || b) (either p seen names) ∙ arranged (p name) (seen name) (list_any p names) (list_any seen names)
  where
    arranged : (a b c d : Bool) → (cond a true b || (c || d)) ≡ ((a || c) || (b || d))
    arranged true b c d = refl
    arranged false true true d = refl
    arranged false true false d = refl
    arranged false false c d = refl

order : (a b c d : Bool) → (a || ((b || c) || d)) ≡ ((a || c) || (b || d))
order true b c d = refl
order false true true d = refl
order false true false d = refl
order false false true d = refl
order false false false d = refl

second_of : (seen : List ℕ → Bool) (names : List (List ℕ)) → has_second seen names ≡ (list_any seen names || has_twice names)
second_of seen [] = refl
second_of seen (name ∷ names) =
    ap (λ b. seen name || b)
    (second_of (with_seen (Some name) seen) names ∙ ap (λ b. b || has_twice names) (either (bytes_eq name) seen names))
    ∙ order (seen name) (list_any (bytes_eq name) names) (list_any seen names) (has_twice names)

nowhere : (names : List (List ℕ)) → list_any (λ n. false) names ≡ false
nowhere [] = refl
nowhere (name ∷ names) = nowhere names

-- beside nothing, that is to stand twice
pub second_is_twice : (names : List (List ℕ)) → has_second (λ n. false) names ≡ has_twice names
second_is_twice names = second_of (λ n. false) names ∙ ap (λ b. b || has_twice names) (nowhere names)

-- one keyword more, where there is one

pub second_more : (o : Option (List ℕ)) (seen : List ℕ → Bool) (rest : List (List ℕ)) → is_second_of o seen ≡ false
    → has_second (with_seen o seen) rest ≡ has_second seen (cons_option o rest)
second_more None seen rest is = refl
second_more (Some name) seen rest is = ap (λ b. b || has_second (with_seen (Some name) seen) rest) (sym is)

pub second_found : (o : Option (List ℕ)) (seen : List ℕ → Bool) (rest : List (List ℕ)) → is_second_of o seen ≡ true
    → has_second seen (cons_option o rest) ≡ true
second_found None seen rest is = absurd (false≢true is)
second_found (Some name) seen rest is = ap (λ b. b || has_second (with_seen (Some name) seen) rest) is
