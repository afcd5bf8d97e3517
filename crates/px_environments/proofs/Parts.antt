-- Loops over the parts of a node.
use Rattle.std.proofs.Common.{◌≡◌, ℕ, ◌+◌, ◌<◌, ◌≤◌, List, [], ◌∷◌, length, drop, get_or, Bool, true, false, ◌&&◌, Option, Some, None, Bor, sym, ap, ◌∙◌}
use Rattle.std.specs.Prelude.{slice_get, option_copied}
use Rattle.std.specs.Slice.{IsItemAt}
use Rattle.std.specs.List.{list_all}
use Rattle.std.proofs.lemmas.List.{drop_more, drop_all}
use Rattle.std.proofs.lemmas.Option.{slice_get_within, slice_get_past, slice_get-get_or, get_or_from_slice_get}

pub drop_one : {A : Type 0} (xs : List A) (k : ℕ) (x : A) → slice_get xs k ≡ Some x → drop k xs ≡ x ∷ drop (k + 1) xs
drop_one {A = A} xs k x is =
    let here : get_or xs k x ≡ x = get_or_from_slice_get xs k x x is in
    drop_more xs k x (slice_get_within xs k x is) ∙ ap (λ (y : A). y ∷ drop (k + 1) xs) here

pub all_more : {A : Type 0} (test : A → Bool) (xs : List A) (k : ℕ) (x : A) → slice_get xs k ≡ Some x
    → list_all test (drop k xs) ≡ (test x && list_all test (drop (k + 1) xs))
all_more test xs k x is = ap (list_all test) (drop_one xs k x is)

pub all_passed : {A : Type 0} (test : A → Bool) (xs : List A) (k : ℕ) (x : A) → slice_get xs k ≡ Some x → test x ≡ true
    → list_all test (drop (k + 1) xs) ≡ list_all test (drop k xs)
all_passed test xs k x is holds = sym (all_more test xs k x is ∙ ap (λ b. b && list_all test (drop (k + 1) xs)) holds)

pub all_failed : {A : Type 0} (test : A → Bool) (xs : List A) (k : ℕ) (x : A) → slice_get xs k ≡ Some x → test x ≡ false → list_all test (drop k xs) ≡ false
all_failed test xs k x is fails = all_more test xs k x is ∙ ap (λ b. b && list_all test (drop (k + 1) xs)) fails

pub all_behind : {A : Type 0} (test : A → Bool) (xs : List A) (k : ℕ) → length xs ≤ k → list_all test (drop k xs) ≡ true
all_behind test xs k past = ap (list_all test) (drop_all k xs past)

-- the same where the list stands elsewhere
pub drop_here : {A : Type 0} (kept items : List A) (k : ℕ) (item : A) → kept ≡ items → k < length kept → item ≡ get_or kept k item
    → drop k items ≡ item ∷ drop (k + 1) items
drop_here kept items k item same within is = ap (drop k) (sym same) ∙ drop_more kept k item within ∙ (λ i. sym is i ∷ drop (k + 1) (same i))

pub drop_past : {A : Type 0} (kept items : List A) (k : ℕ) → kept ≡ items → length kept ≤ k → drop k items ≡ []
drop_past kept items k same past = ap (drop k) (sym same) ∙ drop_all k kept past

-- what `get` lends is the element there
pub lent : {A : Type 0} (xs : List A) (k : ℕ) (r : Option (Bor A)) → IsItemAt xs k r → option_copied r ≡ slice_get xs k
lent xs k None is = sym (slice_get_past xs k is.3)
lent xs k (Some x) is = sym (slice_get-get_or xs k x.now is.3.0 ∙ ap Some (sym is.1))
