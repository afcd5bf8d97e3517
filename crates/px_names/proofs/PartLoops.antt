-- Loops over the parts of a node: what is said of the parts from one on, by that part and those behind it.
use Rattle.std.proofs.Common.{◌≡◌, ℕ, zero, suc, ◌+◌, ◌≤◌, List, [], ◌∷◌, length, drop, get_or, Bool, true, false, ◌&&◌, ◌||◌, not, Option, Some, None, refl, sym, ap, ◌∙◌, arith}
use Rattle.std.specs.Prelude.{slice_get, option_and_then}
use Rattle.std.specs.List.{list_any, list_all, cons_option}
use Rattle.std.specs.Option.{option_or}
use Rattle.std.proofs.lemmas.Bool.{false≢true}
use Rattle.std.proofs.lemmas.List.{drop_more, drop_all}
use Rattle.std.proofs.lemmas.Option.{slice_get_within, get_or_from_slice_get}
use Rattle.px_base.specs.declared.refusals.Span.{Span}
use Rattle.px_base.specs.declared.refusals.Refusal.{Refusal}
use Rattle.px_base.specs.Findings.{first_of}
use Rattle.px_base.proofs.FirstFindings.{first_of-associative}
use Rattle.px_walk.specs.Roses.{head_of, parts_of}
use Rattle.px_walk.specs.ExprView.{Tree}
use Rattle.px_names.specs.declared.callees.Callee.{Callee}
use Rattle.px_names.specs.declared.contexts.Context.{Context}
use Rattle.px_names.specs.Declarations.{Names}
use Rattle.px_names.specs.declared.meanings.Imported.{Imported}
use Rattle.px_names.specs.Arguments.{keyword_of, count_of_keyword, keywords}
use Rattle.px_names.specs.Rules.{are_identities_right, is_chain_right, is_identity, is_none_form, is_none_at, right_of, row_rule, meaning_of_atom}
use Rattle.px_names.specs.Uses.{is_call, is_call_first, call_refusal, calls_refusal, called_behind, value_refusal, values_refusal, values_of, use_of, row_refusal, import_used, import_called, attribute_in}

pub drop_whole : {A : Type 0} (xs : List A) → drop 0 xs ≡ xs
drop_whole [] = refl
drop_whole (x ∷ xs) = refl

pub drop_one : {A : Type 0} (xs : List A) (k : ℕ) (x : A) → slice_get xs k ≡ Some x → drop k xs ≡ x ∷ drop (k + 1) xs
drop_one {A = A} xs k x is =
    let here : get_or xs k x ≡ x = get_or_from_slice_get xs k x x is in
    drop_more xs k x (slice_get_within xs k x is) ∙ ap (λ (y : A). y ∷ drop (k + 1) xs) here

pub any_more : {A : Type 0} (test : A → Bool) (xs : List A) (k : ℕ) (x : A) → slice_get xs k ≡ Some x
    → list_any test (drop k xs) ≡ (test x || list_any test (drop (k + 1) xs))
any_more test xs k x is = ap (list_any test) (drop_one xs k x is)

pub any_passed : {A : Type 0} (test : A → Bool) (xs : List A) (k : ℕ) (x : A) → slice_get xs k ≡ Some x → test x ≡ false
    → list_any test (drop (k + 1) xs) ≡ list_any test (drop k xs)
any_passed test xs k x is fails = sym (any_more test xs k x is ∙ ap (λ b. b || list_any test (drop (k + 1) xs)) fails)

pub any_found : {A : Type 0} (test : A → Bool) (xs : List A) (k : ℕ) (x : A) → slice_get xs k ≡ Some x → test x ≡ true → list_any test (drop k xs) ≡ true
any_found test xs k x is holds = any_more test xs k x is ∙ ap (λ b. b || list_any test (drop (k + 1) xs)) holds

pub all_more : {A : Type 0} (test : A → Bool) (xs : List A) (k : ℕ) (x : A) → slice_get xs k ≡ Some x
    → list_all test (drop k xs) ≡ (test x && list_all test (drop (k + 1) xs))
all_more test xs k x is = ap (list_all test) (drop_one xs k x is)

pub all_passed : {A : Type 0} (test : A → Bool) (xs : List A) (k : ℕ) (x : A) → slice_get xs k ≡ Some x → test x ≡ true
    → list_all test (drop (k + 1) xs) ≡ list_all test (drop k xs)
all_passed test xs k x is holds = sym (all_more test xs k x is ∙ ap (λ b. b && list_all test (drop (k + 1) xs)) holds)

pub all_failed : {A : Type 0} (test : A → Bool) (xs : List A) (k : ℕ) (x : A) → slice_get xs k ≡ Some x → test x ≡ false → list_all test (drop k xs) ≡ false
all_failed test xs k x is fails = all_more test xs k x is ∙ ap (λ b. b && list_all test (drop (k + 1) xs)) fails

pub keywords_more : (parts : List Tree) (k : ℕ) (part : Tree) → slice_get parts k ≡ Some part
    → keywords (drop k parts) ≡ cons_option (keyword_of (head_of part)) (keywords (drop (k + 1) parts))
keywords_more parts k part is = ap keywords (drop_one parts k part is)

count_with : (o : Option (List ℕ)) (rest : List (List ℕ)) → length (cons_option o rest) ≡ count_of_keyword o + length rest
count_with None rest = omega arith
count_with (Some name) rest = omega arith

pub count_more : (parts : List Tree) (k : ℕ) (part : Tree) → slice_get parts k ≡ Some part
    → length (keywords (drop k parts)) ≡ count_of_keyword (keyword_of (head_of part)) + length (keywords (drop (k + 1) parts))
count_more parts k part is = ap length (keywords_more parts k part is) ∙ count_with (keyword_of (head_of part)) (keywords (drop (k + 1) parts))

pub count_is_small : (o : Option (List ℕ)) → count_of_keyword o ≤ 1
count_is_small None = omega arith
count_is_small (Some name) = omega arith

pub calls_more : (at : Span) (c : Callee) (parts : List Tree) (k : ℕ) (part : Tree) (first : Option Refusal) → slice_get parts k ≡ Some part
    → first_of (first_of first (call_refusal at c part)) (calls_refusal at (called_behind (head_of part)) (drop (k + 1) parts))
    ≡ first_of first (calls_refusal at c (drop k parts))
calls_more at c parts k part first is =
    first_of-associative first (call_refusal at c part) (calls_refusal at (called_behind (head_of part)) (drop (k + 1) parts))
    ∙ ap (λ rest. first_of first (calls_refusal at c rest)) (sym (drop_one parts k part is))

pub values_more : (parts : List Tree) (k : ℕ) (part : Tree) (first : Option Refusal) → slice_get parts k ≡ Some part
    → first_of (first_of first (value_refusal part)) (values_refusal (drop (k + 1) parts)) ≡ first_of first (values_refusal (drop k parts))
values_more parts k part first is =
    first_of-associative first (value_refusal part) (values_refusal (drop (k + 1) parts))
    ∙ ap (λ rest. first_of first (values_refusal rest)) (sym (drop_one parts k part is))

pub import_more : (imported : Imported) (parts : List Tree) (k : ℕ) (part : Tree) → slice_get parts k ≡ Some part
    → import_used imported (drop k parts)
    ≡ option_or (import_called imported (drop k parts)) (option_and_then (λ inner. import_used inner (drop (k + 1) parts)) (attribute_in imported (head_of part)))
import_more imported parts k part is =
    ap (import_used imported) (drop_one parts k part is)
    ∙ ap (λ rest. option_or (import_called imported rest) (option_and_then (λ inner. import_used inner (drop (k + 1) parts)) (attribute_in imported (head_of part))))
    (sym (drop_one parts k part is))

pub nothing_behind : {A B : Type 0} (f : List A → B) (xs : List A) (k : ℕ) → length xs ≤ k → f (drop k xs) ≡ f []
nothing_behind f xs k past = ap f (drop_all k xs past)

pub none_first : (found : Option Refusal) → first_of found None ≡ found
none_first None = refl
none_first (Some refusal) = refl

-- ---- a part that isn't there

pub drop_none : {A : Type 0} (xs : List A) (k : ℕ) → slice_get xs k ≡ None → drop k xs ≡ []
drop_none [] k none = drop_all k [] (omega arith)
drop_none (x ∷ xs) zero none = absurd cc
drop_none (x ∷ xs) (suc k) none = drop_none xs k none

-- ---- the call of a row

pub call_there : (parts : List Tree) (k : ℕ) (part : Tree) → slice_get parts k ≡ Some part → is_call_first (drop k parts) ≡ is_call (head_of part)
call_there parts k part is = ap is_call_first (drop_one parts k part is)

pub call_none : (parts : List Tree) (k : ℕ) → slice_get parts k ≡ None → is_call_first (drop k parts) ≡ false
call_none parts k none = ap is_call_first (drop_none parts k none)

pub values_there : (parts : List Tree) (k : ℕ) (part : Tree) → slice_get parts k ≡ Some part → values_of (drop k parts) ≡ values_refusal (parts_of part)
values_there parts k part is = ap values_of (drop_one parts k part is)

pub values_none : (parts : List Tree) (k : ℕ) → slice_get parts k ≡ None → values_of (drop k parts) ≡ None
values_none parts k none = ap values_of (drop_none parts k none)

-- ---- the first part

pub row_first : (names : Names) (context : Context) (at : Span) (parts : List Tree) (atom : Tree) → slice_get parts 0 ≡ Some atom
    → row_rule names context at parts
    ≡ row_refusal at context.role (drop 1 parts) (use_of (meaning_of_atom names context.function (head_of atom)) (drop 1 parts))
row_first names context at parts atom is =
    ap (row_rule names context at) (sym (drop_whole parts) ∙ drop_one parts 0 atom is)

pub row_none : (names : Names) (context : Context) (at : Span) (parts : List Tree) → slice_get parts 0 ≡ None → row_rule names context at parts ≡ None
row_none names context at parts none = ap (row_rule names context at) (sym (drop_whole parts) ∙ drop_none parts 0 none)

pub chain_first : (parts : List Tree) → are_identities_right (is_none_at (slice_get parts 0)) (drop 1 parts) ≡ is_chain_right parts
chain_first [] = refl
chain_first (first ∷ others) = ap (are_identities_right (is_none_form (head_of first))) (drop_whole others)

pub chain_more : (left : Bool) (parts : List Tree) (k : ℕ) (part : Tree) → slice_get parts k ≡ Some part
    → are_identities_right left (drop k parts)
    ≡ ((not (is_identity (head_of part)) || left || is_none_at (right_of part)) && are_identities_right (is_none_at (right_of part)) (drop (k + 1) parts))
chain_more left parts k part is = ap (are_identities_right left) (drop_one parts k part is)

-- ---- one comparison

pub link_broken : (test left right rest : Bool) → test ≡ true → left ≡ false → right ≡ false → ((not test || left || right) && rest) ≡ false
link_broken true false false rest a b c = refl
link_broken true false true rest a b c = absurd (false≢true (sym c))
link_broken true true right rest a b c = absurd (false≢true (sym b))
link_broken false left right rest a b c = absurd (false≢true a)

pub link_of_right : (test left right : Bool) → right ≡ true → (not test || left || right) ≡ true
link_of_right true true right is = refl
link_of_right true false right is = is
link_of_right false left right is = refl

pub link_of_left : (test left right : Bool) → left ≡ true → (not test || left || right) ≡ true
link_of_left true true right is = refl
link_of_left true false right is = absurd (false≢true is)
link_of_left false left right is = refl

pub link_of_other : (test left right : Bool) → test ≡ false → (not test || left || right) ≡ true
link_of_other true left right is = absurd (false≢true (sym is))
link_of_other false left right is = refl
