-- Loops over what stands in a module.
use Rattle.std.proofs.Common.{◌≡◌, ℕ, ◌+◌, ◌≤◌, zero, suc, List, [], ◌∷◌, length, drop, map, Bool, true, false, ◌||◌, Option, Some, None, refl, sym, ap, subst, ◌∙◌, arith}
use Rattle.std.specs.Prelude.{Result, Ok, Err, slice_get, filter_map, zip}
use Rattle.std.specs.List.{cons_option, list_any}
use Rattle.std.proofs.lemmas.List.{drop_all}
use Rattle.px_base.specs.declared.refusals.Trouble.{Trouble}
use Rattle.px_tree.specs.declared.modules.Function.{Function}
use Rattle.px_tree.specs.declared.typed_modules.TypedFunction.{TypedFunction}
use Rattle.px_tree.specs.declared.typed_values.ValueType.{ValueType}
use Rattle.px_typed_walk.specs.TypedView.{TypedRose}
use Rattle.px_names.specs.declared.meanings.Meaning.{Meaning}
use Rattle.px_names.specs.declared.named.NamedCode.{NamedCode}
use Rattle.px_operators.specs.Outcomes.{Outcome, Gives, mapped, all_of}
use Rattle.px_operators.specs.Kept.{gathers}
use Rattle.px_operators.proofs.AllParts.{gathers_all}
use Rattle.px_environments.specs.declared.signatures.Variable.{Variable}
use Rattle.px_environments.specs.declared.signatures.Signature.{Signature}
use Rattle.px_environments.specs.Environments.{Environment}
use Rattle.px_types.specs.TypedModule.{function_with, function_kept}
use Rattle.px_types.specs.ModuleKept.{pair_of, count_of_function}
use Rattle.px_types.proofs.StatementLoops.{drop_one, drop_whole, given_ok, mapped_err, mapped_twice}

-- an environment by its tables
abbrev pub environment : (ℕ → Option Meaning) → (ℕ → Option Variable) → (ℕ → Option Signature) → Bool → Option ValueType → Environment
environment meanings variables functions cdivision gives =
    record { meanings = meanings; variables = variables; functions = functions; cdivision = cdivision; gives = gives }

pub environment_by : (meanings : ℕ → Option Meaning) (variables others : ℕ → Option Variable) (functions signatures : ℕ → Option Signature) (cdivision : Bool) (gives : Option ValueType)
    → variables ≡ others → functions ≡ signatures
    → environment meanings variables functions cdivision gives ≡ environment meanings others signatures cdivision gives
environment_by meanings variables others functions signatures cdivision gives same equal =
    ap (λ v. environment meanings v functions cdivision gives) same ∙ ap (λ f. environment meanings others f cdivision gives) equal

-- ---- the statements of module code

one_gathered : {A P : Type 0} (F : P → Outcome A) (o : Option P) (so_far : Outcome (List A)) (rest : List P)
    → gathers (gathers so_far (map F (cons_option o []))) (map F rest) ≡ gathers so_far (map F (cons_option o rest))
one_gathered F None so_far rest = refl
one_gathered F (Some x) so_far rest = refl

pub items_first : {A I P : Type 0} (g : I → Option P) (F : P → Outcome A) (so_far : Outcome (List A)) (items : List I)
    → so_far ≡ Ok [] → gathers so_far (map F (filter_map g (drop 0 items))) ≡ all_of (map F (filter_map g items))
items_first g F so_far items none =
    ap (λ o. gathers o (map F (filter_map g (drop 0 items)))) none
    ∙ gathers_all (map F (filter_map g (drop 0 items)))
    ∙ ap (λ xs. all_of (map F (filter_map g xs))) (drop_whole items)

pub items_next : {A I P : Type 0} (g : I → Option P) (F : P → Outcome A) (before behind : Outcome (List A)) (items : List I) (k : ℕ) (x : I) (total : Outcome (List A))
    → gathers before (map F (filter_map g (drop k items))) ≡ total → slice_get items k ≡ Some x → behind ≡ gathers before (map F (cons_option (g x) []))
    → gathers behind (map F (filter_map g (drop (k + 1) items))) ≡ total
items_next g F before behind items k x total so_far is taken =
    ap (λ o. gathers o (map F (filter_map g (drop (k + 1) items)))) taken
    ∙ one_gathered F (g x) before (filter_map g (drop (k + 1) items))
    ∙ sym (ap (λ xs. gathers before (map F (filter_map g xs))) (drop_one items k x is))
    ∙ so_far

pub items_none : {A I P : Type 0} (g : I → Option P) (F : P → Outcome A) (so_far : Outcome (List A)) (items : List I) (k : ℕ) (total : Outcome (List A))
    → gathers so_far (map F (filter_map g (drop k items))) ≡ total → length items ≤ k → so_far ≡ total
items_none g F so_far items k total all past = sym (ap (λ xs. gathers so_far (map F (filter_map g xs))) (drop_all k items past)) ∙ all

-- ---- the functions, each with what its names stand for

zip_none : {A B : Type 0} (xs : List A) → zip {X = B} xs [] ≡ []
zip_none [] = refl
zip_none (x ∷ xs) = refl

none_there : {A : Type 0} (xs : List A) (k : ℕ) → None ≡ slice_get xs k → length xs ≤ k
none_there [] k is = omega arith
none_there (x ∷ xs) zero is = absurd cc
none_there (x ∷ xs) (suc k) is = let past = none_there xs k is in omega arith

pairs_gathered : {A : Type 0} (F : Function × NamedCode → Outcome A) (o : Option Function) (code : Option NamedCode) (so_far : Outcome (List A)) (fs : List Function) (codes : List NamedCode) (place : ℕ)
    → code ≡ slice_get codes place
    → gathers (gathers so_far (map F (pair_of o code))) (map F (zip fs (drop (place + count_of_function o) codes)))
    ≡ gathers so_far (map F (zip (cons_option o fs) (drop place codes)))
pairs_gathered F None None so_far fs codes place is =
    let same : place + 0 ≡ place = omega arith in ap (λ (n : ℕ). gathers so_far (map F (zip fs (drop n codes)))) same
pairs_gathered F None (Some code) so_far fs codes place is =
    let same : place + 0 ≡ place = omega arith in ap (λ (n : ℕ). gathers so_far (map F (zip fs (drop n codes)))) same
pairs_gathered F (Some f) None so_far fs codes place is =
    let past = none_there codes place is in
    ap (λ rest. gathers so_far (map F (zip fs rest))) (drop_all (place + 1) codes (omega arith))
    ∙ ap (λ rest. gathers so_far (map F rest)) (zip_none fs)
    ∙ sym (ap (λ rest. gathers so_far (map F (zip (f ∷ fs) rest))) (drop_all place codes past))
pairs_gathered F (Some f) (Some code) so_far fs codes place is =
    sym (ap (λ rest. gathers so_far (map F (zip (f ∷ fs) rest))) (drop_one codes place code (sym is)))

pub pairs_first : {A I : Type 0} (g : I → Option Function) (F : Function × NamedCode → Outcome A) (so_far : Outcome (List A)) (items : List I) (codes : List NamedCode)
    → so_far ≡ Ok [] → gathers so_far (map F (zip (filter_map g (drop 0 items)) (drop 0 codes))) ≡ all_of (map F (zip (filter_map g items) codes))
pairs_first g F so_far items codes none =
    ap (λ o. gathers o (map F (zip (filter_map g (drop 0 items)) (drop 0 codes)))) none
    ∙ gathers_all (map F (zip (filter_map g (drop 0 items)) (drop 0 codes)))
    ∙ ap (λ xs. all_of (map F (zip (filter_map g xs) (drop 0 codes)))) (drop_whole items)
    ∙ ap (λ xs. all_of (map F (zip (filter_map g items) xs))) (drop_whole codes)

pub pairs_next : {A I : Type 0} (g : I → Option Function) (F : Function × NamedCode → Outcome A) (before behind : Outcome (List A)) (items : List I) (codes : List NamedCode) (k place next : ℕ) (x : I)
    (code : Option NamedCode) (total : Outcome (List A))
    → gathers before (map F (zip (filter_map g (drop k items)) (drop place codes))) ≡ total
    → slice_get items k ≡ Some x → code ≡ slice_get codes place → next ≡ place + count_of_function (g x)
    → behind ≡ gathers before (map F (pair_of (g x) code))
    → gathers behind (map F (zip (filter_map g (drop (k + 1) items)) (drop next codes))) ≡ total
pairs_next g F before behind items codes k place next x code total so_far is there step taken =
    ap (λ o. gathers o (map F (zip (filter_map g (drop (k + 1) items)) (drop next codes)))) taken
    ∙ ap (λ n. gathers (gathers before (map F (pair_of (g x) code))) (map F (zip (filter_map g (drop (k + 1) items)) (drop n codes)))) step
    ∙ pairs_gathered F (g x) code before (filter_map g (drop (k + 1) items)) codes place there
    ∙ sym (ap (λ xs. gathers before (map F (zip (filter_map g xs) (drop place codes)))) (drop_one items k x is))
    ∙ so_far

pub pairs_none : {A I : Type 0} (g : I → Option Function) (F : Function × NamedCode → Outcome A) (so_far : Outcome (List A)) (items : List I) (codes : List NamedCode) (k place : ℕ) (total : Outcome (List A))
    → gathers so_far (map F (zip (filter_map g (drop k items)) (drop place codes))) ≡ total → length items ≤ k → so_far ≡ total
pairs_none g F so_far items codes k place total all past =
    sym (ap (λ xs. gathers so_far (map F (zip (filter_map g xs) (drop place codes)))) (drop_all k items past)) ∙ all

pub count_is_small : (o : Option Function) → count_of_function o ≤ 1
count_is_small None = omega arith
count_is_small (Some f) = omega arith

-- ---- whether one of some passes a test

pub any_passed : {A B : Type 0} (view : A → B) (test : B → Bool) (xs : List A) (k : ℕ) (x : A) → slice_get xs k ≡ Some x → test (view x) ≡ false
    → list_any test (map view (drop (k + 1) xs)) ≡ list_any test (map view (drop k xs))
any_passed view test xs k x is fails =
    sym (ap (λ ys. list_any test (map view ys)) (drop_one xs k x is) ∙ ap (λ b. b || list_any test (map view (drop (k + 1) xs))) fails)

pub any_found : {A B : Type 0} (view : A → B) (test : B → Bool) (xs : List A) (k : ℕ) (x : A) → slice_get xs k ≡ Some x → test (view x) ≡ true
    → list_any test (map view (drop k xs)) ≡ true
any_found view test xs k x is holds =
    ap (λ ys. list_any test (map view ys)) (drop_one xs k x is) ∙ ap (λ b. b || list_any test (map view (drop (k + 1) xs))) holds

pub any_none : {A B : Type 0} (view : A → B) (test : B → Bool) (xs : List A) (k : ℕ) → length xs ≤ k → list_any test (map view (drop k xs)) ≡ false
any_none view test xs k past = ap (λ ys. list_any test (map view ys)) (drop_all k xs past)

-- ---- a function with its header and its body

abbrev Parts : Type 0
Parts = (List ValueType × ValueType) × List TypedRose

pub function_refused : {V : Type 0} (view : V → List TypedRose) (f : Function) (o : Outcome Parts) (body : Result V Trouble) (trouble : Trouble)
    → Gives view body (mapped (λ (parts : Parts). parts.1) o) → body ≡ Err trouble → Gives function_kept (Err trouble) (mapped (λ (parts : Parts). function_with f parts.1) o)
function_refused view f o body trouble gives is =
    subst (Gives function_kept (Err trouble)) (sym (mapped_twice (λ (parts : Parts). parts.1) (function_with f) o))
    (mapped_err view function_kept body (mapped (λ (parts : Parts). parts.1) o) trouble (function_with f) gives is)

pub function_made : {V : Type 0} (view : V → List TypedRose) (f : Function) (o : Outcome Parts) (body : Result V Trouble) (x : V) (typed : TypedFunction)
    → Gives view body (mapped (λ (parts : Parts). parts.1) o) → body ≡ Ok x → function_kept typed ≡ function_with f (view x)
    → mapped (λ (parts : Parts). function_with f parts.1) o ≡ Ok (function_kept typed)
function_made view f o body x typed gives is made =
    mapped_twice (λ (parts : Parts). parts.1) (function_with f) o
    ∙ ap (mapped (function_with f)) (given_ok view body (mapped (λ (parts : Parts). parts.1) o) x gives is)
    ∙ sym (ap Ok made)
