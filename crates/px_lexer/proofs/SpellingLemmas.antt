-- Spellings among some.
use Rattle.std.proofs.Common.{◌≡◌, ℕ, Bool, true, List, [], ◌∷◌, ◌≤◌, length, take, nat_eq, ap, subst, ⊎_elim, arith}
use Rattle.std.specs.Prelude.{bytes_eq}
use Rattle.std.specs.List.{list_all, starts_with}
use Rattle.std.proofs.lemmas.List.{length-take}
use Rattle.std.proofs.lemmas.Slice.Eq.{bytes_eq-Decides}
use Rattle.std.proofs.lemmas.Bool.{false≢true, and_parts, or_cases}
use Rattle.px_lexer.specs.Spellings.{is_among}

-- what holds of each spelling holds of one among them
pub among_all : (test : List ℕ → Bool) (spellings : List (List ℕ)) (s : List ℕ) → list_all test spellings ≡ true → is_among spellings s ≡ true → test s ≡ true
among_all test [] s each among = absurd (false≢true among)
among_all test (o ∷ os) s each among =
    let both = and_parts (test o) (list_all test os) each in
    ⊎_elim (λ same. subst (λ x. test x ≡ true) ((bytes_eq-Decides o s).0 same) both.0) (λ later. among_all test os s both.1 later) (or_cases (bytes_eq o s) (is_among os s) among)

-- what stands at the front fits
pub starts_fits : (cs spelling : List ℕ) → starts_with nat_eq cs spelling ≡ true → length spelling ≤ length cs
starts_fits cs spelling starts =
    let same : spelling ≡ take (length spelling) cs = (bytes_eq-Decides spelling (take (length spelling) cs)).0 starts in
    omega (arith, simp length-take at (ap length same))
