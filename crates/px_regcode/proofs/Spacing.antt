-- Words that are written one behind another.
use Rattle.std.proofs.Common.{◌≡◌, ℕ, zero, suc, ◌+◌, ◌<◌, ◌≤◌, List, [], ◌∷◌, ◌++◌}
use Rattle.std.proofs.Common.{length, drop, map, arith, Result, Ok, Err, refl, sym, ap, ◌∙◌, append_assoc}
use Rattle.std.specs.Prelude.{codes, slice_index_or, OnOk}
use Rattle.std.proofs.lemmas.List.{append-nil}
use Rattle.px_regcode.specs.Listing.{spaced}

-- words behind words
pub spaced_both : (a b : List (List ℕ)) → spaced (a ++ b) ≡ spaced a ++ spaced b
spaced_both [] b = refl
spaced_both (w ∷ ws) b =
    ap (λ t. codes " " ++ w ++ t) (spaced_both ws b) ∙ ap (λ t. codes " " ++ t) (sym (append_assoc w (spaced ws) (spaced b)))

-- what is left behind an index, and behind all
pub drop_first : {A : Type 0} (xs : List A) (n : ℕ) (d : A) → n < length xs → drop n xs ≡ slice_index_or xs n d ∷ drop (n + 1) xs
drop_first [] n d lt = absurd (omega (arith, lt))
drop_first (y ∷ xs) zero d lt = refl
drop_first (y ∷ xs) (suc n) d lt =
    drop_first xs n d (omega (arith, lt))
    ∙ ap (λ m. slice_index_or xs n d ∷ drop m (y ∷ xs)) (let same : suc (n + 1) ≡ suc n + 1 = omega arith in same)

pub drop_all : {A : Type 0} (xs : List A) (n : ℕ) → length xs ≤ n → drop n xs ≡ []
drop_all [] zero le = refl
drop_all [] (suc n) le = refl
drop_all (x ∷ xs) zero le = absurd (omega (arith, le))
drop_all (x ∷ xs) (suc n) le = drop_all xs n (omega (arith, le))

-- a text with the words of what is left behind it: one word more is written
pub word_more : {A : Type 0} (word : A → List ℕ) (xs : List A) (n : ℕ) (d : A) (text more all : List ℕ) → n < length xs
    → text ++ spaced (map word (drop n xs)) ≡ all
    → more ≡ text ++ spaced (word (slice_index_or xs n d) ∷ []) → more ++ spaced (map word (drop (n + 1) xs)) ≡ all
word_more word xs n d text more all lt before then =
    ap (λ t. t ++ spaced (map word (drop (n + 1) xs))) then
    ∙ append_assoc text (spaced (word (slice_index_or xs n d) ∷ [])) (spaced (map word (drop (n + 1) xs)))
    ∙ ap (λ t. text ++ t) (sym (spaced_both (word (slice_index_or xs n d) ∷ []) (map word (drop (n + 1) xs))))
    ∙ sym (ap (λ l. text ++ spaced (map word l)) (drop_first xs n d lt))
    ∙ before

-- all are written
pub words_end : {A : Type 0} (word : A → List ℕ) (xs : List A) (n : ℕ) (text all : List ℕ) → length xs ≤ n
    → text ++ spaced (map word (drop n xs)) ≡ all → text ≡ all
words_end word xs n text all le before = sym (append-nil text) ∙ sym (ap (λ l. text ++ spaced (map word l)) (drop_all xs n le)) ∙ before

-- words written behind words
pub both_written : (old mid new : List ℕ) (a b : List (List ℕ)) → mid ≡ old ++ spaced a → new ≡ mid ++ spaced b
    → new ≡ old ++ spaced (a ++ b)
both_written old mid new a b first then =
    then ∙ ap (λ t. t ++ spaced b) first ∙ append_assoc old (spaced a) (spaced b) ∙ ap (λ t. old ++ t) (sym (spaced_both a b))

pub both_ok : {E : Type 0} (r : Result (Unit {0}) E) (old mid new : List ℕ) (a b : List (List ℕ)) → mid ≡ old ++ spaced a
    → OnOk r (new ≡ mid ++ spaced b) → OnOk r (new ≡ old ++ spaced (a ++ b))
both_ok (Ok done) old mid new a b first then = both_written old mid new a b first then
both_ok (Err e) old mid new a b first then = tt
