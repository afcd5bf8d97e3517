-- A list of names that is searched.
use Rattle.std.proofs.Common.{◌≡◌, ℕ, zero, suc, ◌||◌, List, [], ◌∷◌, map, Bool, true, false, Bor, nat_eq, refl, sym, ◌∙◌, subst, arith, ◌↔◌, IsTrue}
use Rattle.std.specs.Prelude.{Contains}
use Rattle.std.specs.List.{list_any}
use Rattle.std.specs.Cmp.Lexicographic.{pointwise}
use Rattle.std.proofs.lemmas.Bool.{false≢true}
use Rattle.std.proofs.lemmas.Bool.Decides.{Decides-eqb}
use Rattle.std.proofs.lemmas.Slice.Eq.{slice_eq-Decides}
use Rattle.px_cli.proofs.VariableLemmas.{equal}

abbrev Same : List ℕ → Bor (List ℕ) → Bool
Same name k = pointwise nat_eq k.now name

found_first : {X : Type 0} (x : X) (xs : List X) → Contains (x ∷ xs) x
found_first x xs = (0, omega arith, refl)

found_later : {X : Type 0} (y : X) (xs : List X) (x : X) → Contains xs x → Contains (y ∷ xs) x
found_later y xs x (k, lt, is) = (suc k, omega (arith, lt), is)

-- what a search answers at a list's first element
abbrev pub Searched : List (Bor (List ℕ)) → List ℕ → Bool → Type 0
Searched items name r = IsTrue r ↔ Contains (map (λ k. k.now) items) name

searched_more : (k : Bor (List ℕ)) (items : List (Bor (List ℕ))) (name : List ℕ) (b r : Bool) → b ≡ Same name k → Searched items name r → Searched (k ∷ items) name (b || r)
searched_more k items name true r is h = (λ yes. subst (λ x. Contains (map (λ k. k.now) (k ∷ items)) x) (equal k.now name (sym is)) (found_first k.now (map (λ k. k.now) items)), λ found. refl)
searched_more k items name false r is h = (λ yes. found_later k.now (map (λ k. k.now) items) name (h.0 yes), λ found. h.1 (later found))
  where
    later : Contains (map (λ k. k.now) (k ∷ items)) name → Contains (map (λ k. k.now) items) name
    later (zero, lt, same) = absurd (false≢true (is ∙ (slice_eq-Decides Decides-eqb k.now name (Same name k) refl).1 same))
    later (suc n, lt, same) = (n, omega (arith, lt), same)

pub searched : (items : List (Bor (List ℕ))) (name : List ℕ) → Searched items name (list_any (λ k. pointwise nat_eq k.now name) items)
searched [] name = (λ yes. absurd (false≢true yes), λ found. absurd (omega (arith, found.1)))
searched (k ∷ items) name = searched_more k items name (Same name k) (list_any (λ k. pointwise nat_eq k.now name) items) refl (searched items name)
