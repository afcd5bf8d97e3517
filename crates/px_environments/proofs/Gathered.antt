-- Lists that are gathered element by element: what stands there, with what the rest adds.
use Rattle.std.proofs.Common.{◌≡◌, ℕ, ◌+◌, List, [], ◌∷◌, ◌++◌, drop, map, Option, Some, None, refl, sym, ap, ◌∙◌}
use Rattle.std.specs.Prelude.{filter_map, flat_map}
use Rattle.std.specs.List.{cons_option}
use Rattle.std.specs.Option.{option_to_list}
use Rattle.std.proofs.lemmas.List.{append_assoc}

pub one_added : {A : Type 0} (old new : List A) (x : A) (rest : List A) → new ≡ old ++ x ∷ [] → new ++ rest ≡ old ++ x ∷ rest
one_added {A = A} old new x rest is = ap (λ (xs : List A). xs ++ rest) is ∙ append_assoc old (x ∷ []) rest

pub some_added : {A : Type 0} (old new more rest : List A) → new ≡ old ++ more → new ++ rest ≡ old ++ (more ++ rest)
some_added {A = A} old new more rest is = ap (λ (xs : List A). xs ++ rest) is ∙ append_assoc old more rest

-- what the elements from one on give, by that element and those behind it

pub mapped_more : {A B : Type 0} (f : A → B) (xs : List A) (k : ℕ) (x : A) → drop k xs ≡ x ∷ drop (k + 1) xs
    → map f (drop k xs) ≡ f x ∷ map f (drop (k + 1) xs)
mapped_more f xs k x here = ap (map f) here

pub joined_more : {A B : Type 0} (f : A → List B) (xs : List A) (k : ℕ) (x : A) → drop k xs ≡ x ∷ drop (k + 1) xs
    → flat_map f (drop k xs) ≡ f x ++ flat_map f (drop (k + 1) xs)
joined_more f xs k x here = ap (flat_map f) here

pub chosen_more : {A B : Type 0} (h : A → Option B) (xs : List A) (k : ℕ) (x : A) → drop k xs ≡ x ∷ drop (k + 1) xs
    → filter_map h (drop k xs) ≡ cons_option (h x) (filter_map h (drop (k + 1) xs))
chosen_more h xs k x here = ap (filter_map h) here

pub option_first : {A : Type 0} (o : Option A) (rest : List A) → option_to_list o ++ rest ≡ cons_option o rest
option_first None rest = refl
option_first (Some x) rest = refl

-- one step of a loop that adds what each element gives

pub map_step : {A B : Type 0} (f : A → B) (xs : List A) (k : ℕ) (x : A) (old new : List B) → drop k xs ≡ x ∷ drop (k + 1) xs → new ≡ old ++ f x ∷ []
    → new ++ map f (drop (k + 1) xs) ≡ old ++ map f (drop k xs)
map_step {B = B} f xs k x old new here put =
    one_added old new (f x) (map f (drop (k + 1) xs)) put ∙ ap (λ (rest : List B). old ++ rest) (sym (mapped_more f xs k x here))

pub flat_map_step : {A B : Type 0} (f : A → List B) (xs : List A) (k : ℕ) (x : A) (old new : List B) → drop k xs ≡ x ∷ drop (k + 1) xs → new ≡ old ++ f x
    → new ++ flat_map f (drop (k + 1) xs) ≡ old ++ flat_map f (drop k xs)
flat_map_step {B = B} f xs k x old new here put =
    some_added old new (f x) (flat_map f (drop (k + 1) xs)) put ∙ ap (λ (rest : List B). old ++ rest) (sym (joined_more f xs k x here))

pub filter_map_step : {A B : Type 0} (h : A → Option B) (xs : List A) (k : ℕ) (x : A) (old new : List B) → drop k xs ≡ x ∷ drop (k + 1) xs
    → new ≡ old ++ option_to_list (h x) → new ++ filter_map h (drop (k + 1) xs) ≡ old ++ filter_map h (drop k xs)
filter_map_step {B = B} h xs k x old new here put =
    some_added old new (option_to_list (h x)) (filter_map h (drop (k + 1) xs)) put
    ∙ ap (λ (rest : List B). old ++ rest) (option_first (h x) (filter_map h (drop (k + 1) xs)) ∙ sym (chosen_more h xs k x here))
