-- The first of the findings of a list, part by part.
use Rattle.std.proofs.Common.{◌≡◌, inl, inr, ℕ, ◌+◌, ◌≤◌, List, [], ◌∷◌, length, drop, map, Option, Some, None, refl, sym, ap, ◌∙◌, arith}
use Rattle.std.specs.Prelude.{slice_get, zip, filter_map, option_and_then}
use Rattle.std.specs.List.{cons_option}
use Rattle.std.proofs.lemmas.List.{drop_all}
use Rattle.std.proofs.lemmas.Option.{slice_get_cases}
use Rattle.px_base.specs.declared.refusals.Refusal.{Refusal}
use Rattle.px_base.specs.Findings.{first_of}
use Rattle.px_base.proofs.FirstFindings.{first_of-associative}
use Rattle.px_tree.specs.declared.modules.Function.{Function}
use Rattle.px_tree.specs.declared.modules.ModuleItem.{ModuleItem}
use Rattle.px_tree.specs.declared.statements.Stmt.{Stmt}
use Rattle.px_walk.specs.StmtView.{rose_of_stmt}
use Rattle.px_names.specs.declared.named.NamedCode.{NamedCode}
use Rattle.px_names.specs.NamedModule.{function_item}
use Rattle.px_names.proofs.PartLoops.{none_first}
use Rattle.px_environments.specs.Environments.{Environment}
use Rattle.px_environments.specs.Signatures.{statement_item}
use Rattle.px_environments.specs.BuiltForms.{first_in, unbuilt_below, unbuilt_in_function, unbuilt_in_known}
use Rattle.px_environments.proofs.Gathered.{chosen_more}
use Rattle.px_environments.proofs.Parts.{drop_one}

-- ---- functions

apart : {A : Type 0} (o : Option A) (x : A) → o ≡ None → o ≡ Some x → ⊥
apart o x none some = cc

past : {A : Type 0} (xs : List A) (k : ℕ) → slice_get xs k ≡ None → length xs ≤ k
past xs k none = elim (slice_get_cases xs k).1 [ inl w ↦ absurd (apart (slice_get xs k) w.0 none w.2) | inr w ↦ w.0 ]

zip_none : {A B : Type 0} (xs : List A) → zip {X = B} xs [] ≡ []
zip_none [] = refl
zip_none (x ∷ xs) = refl

abbrev functions_first : List Function → List Function → List NamedCode → Option Refusal
functions_first functions fs codes = first_in (map (unbuilt_in_function functions) (zip fs codes))

function_more : (functions : List Function) (f : Function) (fs : List Function) (codes : List NamedCode) (place : ℕ) (first : Option Refusal) (code : Option NamedCode)
    → slice_get codes place ≡ code
    → first_of (first_of first (unbuilt_in_known functions f code)) (functions_first functions fs (drop (place + 1) codes))
    ≡ first_of first (functions_first functions (f ∷ fs) (drop place codes))
function_more functions f fs codes place first (Some code) is =
    first_of-associative first (unbuilt_in_function functions (f, code)) (functions_first functions fs (drop (place + 1) codes))
    ∙ ap (λ (rest : List NamedCode). first_of first (functions_first functions (f ∷ fs) rest)) (sym (drop_one codes place code is))
function_more functions f fs codes place first None is =
    let behind : length codes ≤ place = past codes place is in
    ap (λ (rest : List NamedCode). first_of (first_of first None) (functions_first functions fs rest)) (drop_all (place + 1) codes (omega arith))
    ∙ ap (λ (pairs : List (Function × NamedCode)). first_of (first_of first None) (first_in (map (unbuilt_in_function functions) pairs))) (zip_none fs)
    ∙ none_first (first_of first None)
    ∙ ap (λ (rest : List NamedCode). first_of first (functions_first functions (f ∷ fs) rest)) (sym (drop_all place codes behind))

pub functions_step : (functions : List Function) (items : List ModuleItem) (k : ℕ) (item : ModuleItem) (f : Function) (codes : List NamedCode) (place : ℕ) (first found : Option Refusal)
    → drop k items ≡ item ∷ drop (k + 1) items → function_item item ≡ Some f → found ≡ unbuilt_in_known functions f (slice_get codes place)
    → first_of (first_of first found) (first_in (map (unbuilt_in_function functions) (zip (filter_map function_item (drop (k + 1) items)) (drop (place + 1) codes))))
    ≡ first_of first (first_in (map (unbuilt_in_function functions) (zip (filter_map function_item (drop k items)) (drop place codes))))
functions_step functions items k item f codes place first found here is finds =
    let rest : List Function = filter_map function_item (drop (k + 1) items) in
    ap (λ (o : Option Refusal). first_of (first_of first o) (functions_first functions rest (drop (place + 1) codes))) finds
    ∙ function_more functions f rest codes place first (slice_get codes place) refl
    ∙ ap (λ (fs : List Function). first_of first (functions_first functions fs (drop place codes)))
    (sym (chosen_more function_item items k item here ∙ ap (λ (o : Option Function). cons_option o rest) is))

-- ---- module code

abbrev pub code_first : Environment → List ModuleItem → Option Refusal
code_first environment items = first_in (map (λ s. unbuilt_below environment (rose_of_stmt s)) (filter_map statement_item items))

statement_more : (environment : Environment) (o : Option Stmt) (statements : List Stmt) (first : Option Refusal)
    → first_of (first_of first (option_and_then (λ s. unbuilt_below environment (rose_of_stmt s)) o))
    (first_in (map (λ s. unbuilt_below environment (rose_of_stmt s)) statements))
    ≡ first_of first (first_in (map (λ s. unbuilt_below environment (rose_of_stmt s)) (cons_option o statements)))
statement_more environment None statements first =
    ap (λ (found : Option Refusal). first_of found (first_in (map (λ s. unbuilt_below environment (rose_of_stmt s)) statements))) (none_first first)
statement_more environment (Some s) statements first =
    first_of-associative first (unbuilt_below environment (rose_of_stmt s)) (first_in (map (λ s. unbuilt_below environment (rose_of_stmt s)) statements))

pub code_step : (environment : Environment) (items : List ModuleItem) (k : ℕ) (item : ModuleItem) (first found : Option Refusal)
    → drop k items ≡ item ∷ drop (k + 1) items → found ≡ option_and_then (λ s. unbuilt_below environment (rose_of_stmt s)) (statement_item item)
    → first_of (first_of first found) (code_first environment (drop (k + 1) items)) ≡ first_of first (code_first environment (drop k items))
code_step environment items k item first found here finds =
    ap (λ (o : Option Refusal). first_of (first_of first o) (code_first environment (drop (k + 1) items))) finds
    ∙ statement_more environment (statement_item item) (filter_map statement_item (drop (k + 1) items)) first
    ∙ ap (λ (statements : List Stmt). first_of first (first_in (map (λ s. unbuilt_below environment (rose_of_stmt s)) statements)))
    (sym (chosen_more statement_item items k item here))
