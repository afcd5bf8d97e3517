-- The parts of a node from one on.
use Rattle.std.proofs.Common.{◌≡◌, ℕ, ◌+◌, List, [], ◌∷◌, drop, get_or, refl, ap, ◌∙◌}
use Rattle.std.specs.Prelude.{Some, slice_get}
use Rattle.std.proofs.lemmas.List.{drop_more}
use Rattle.std.proofs.lemmas.Option.{slice_get_within, get_or_from_slice_get}

pub drop_whole : {A : Type 0} (xs : List A) → drop 0 xs ≡ xs
drop_whole [] = refl
drop_whole (x ∷ xs) = refl

pub drop_one : {A : Type 0} (xs : List A) (k : ℕ) (x : A) → slice_get xs k ≡ Some x → drop k xs ≡ x ∷ drop (k + 1) xs
drop_one {A = A} xs k x is =
    let here : get_or xs k x ≡ x = get_or_from_slice_get xs k x x is in
    drop_more xs k x (slice_get_within xs k x is) ∙ ap (λ (y : A). y ∷ drop (k + 1) xs) here
