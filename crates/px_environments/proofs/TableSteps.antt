-- What the tables of variables and functions keep after an entry is put in, and what the rest of a list adds to them.
use Rattle.std.proofs.Common.{◌≡◌, ℕ, ◌+◌, List, ◌∷◌, drop, Bool, true, false, cond, Option, Some, None, Bor, nat_eq, refl, sym, ap, ◌∙◌}
use Rattle.std.specs.Prelude.{is_some, filter_map, option_copied}
use Rattle.std.specs.List.{cons_option}
use Rattle.std.specs.Option.{option_or}
use Rattle.std.proofs.lemmas.Bool.{false≢true, eqb-true}
use Rattle.std.specs.Map.{lookup}
use Rattle.indexmap.specs.IndexMap.{IndexMap, get_by, IsEmpty}
use Rattle.px_tree.specs.declared.modules.Function.{Function}
use Rattle.px_tree.specs.declared.modules.ModuleItem.{ModuleItem}
use Rattle.px_tree.specs.declared.typed_modules.Local.{Local}
use Rattle.px_names.specs.NamedModule.{function_item}
use Rattle.px_names.proofs.Options.{or_none}
use Rattle.px_environments.specs.declared.signatures.Variable.{Variable}
use Rattle.px_environments.specs.declared.signatures.Signature.{Signature}
use Rattle.px_environments.specs.Kept.{with_first}
use Rattle.px_environments.specs.Signatures.{signature_of, function_in, variable_in}
use Rattle.px_environments.proofs.Gathered.{chosen_more}

-- ---- the first entry of a number stays

pub new_entry : {V : Type 0} (kept : ℕ → Option V) (number : ℕ) (v : V) → kept number ≡ None
    → (n : ℕ) → cond (nat_eq n number) (Some v) (kept n) ≡ with_first number v kept n
new_entry {V = V} kept number v none n = cases (nat_eq n number) refl
  where
    cases : (b : Bool) → nat_eq n number ≡ b → cond b (Some v) (kept n) ≡ option_or (kept n) (cond b (Some v) None)
    cases true is = sym (ap (λ (o : Option V). option_or o (Some v)) (ap kept (eqb-true n number is) ∙ none))
    cases false is = sym (or_none (kept n))

there_before : {V : Type 0} (o : Option V) (v : V) → is_some o ≡ true → o ≡ option_or o (Some v)
there_before None v is = absurd (false≢true is)
there_before (Some w) v is = refl

pub old_entry : {V : Type 0} (kept : ℕ → Option V) (number : ℕ) (v : V) → is_some (kept number) ≡ true
    → (n : ℕ) → kept n ≡ with_first number v kept n
old_entry kept number v there n = cases (nat_eq n number) refl
  where
    cases : (b : Bool) → nat_eq n number ≡ b → kept n ≡ option_or (kept n) (cond b (Some v) None)
    cases true is = there_before (kept n) v (ap (λ o. is_some o) (ap kept (eqb-true n number is)) ∙ there)
    cases false is = sym (or_none (kept n))

-- ---- a table without entries

pub nothing_kept : {V S : Type 0} (m : IndexMap ℕ V S) (test : ℕ → Bool) → IsEmpty m → get_by test m ≡ None
nothing_kept m test empty = ap (lookup test) empty

-- ---- an entry, and what comes behind it

one_more : {V : Type 0} (o : Option V) (b : Bool) (v : V) (rest : Option V) → option_or (option_or o (cond b (Some v) None)) rest ≡ option_or o (cond b (Some v) rest)
one_more None true v rest = refl
one_more None false v rest = refl
one_more (Some w) b v rest = refl

pub variables_step : (kept after : ℕ → Option Variable) (locals : List Local) (k : ℕ) (local : Local) → drop k locals ≡ local ∷ drop (k + 1) locals
    → after ≡ with_first local.number (record { slot = k; value_type = local.value_type }) kept
    → (n : ℕ) → option_or (after n) (variable_in (k + 1) (drop (k + 1) locals) n) ≡ option_or (kept n) (variable_in k (drop k locals) n)
variables_step kept after locals k local here put n =
    ap (λ (table : ℕ → Option Variable). option_or (table n) (variable_in (k + 1) (drop (k + 1) locals) n)) put
    ∙ one_more (kept n) (nat_eq n local.number) (record { slot = k; value_type = local.value_type }) (variable_in (k + 1) (drop (k + 1) locals) n)
    ∙ ap (λ (rest : List Local). option_or (kept n) (variable_in k rest n)) (sym here)

pub functions_step : (kept after : ℕ → Option Signature) (place : ℕ) (items : List ModuleItem) (k : ℕ) (item : ModuleItem) (f : Function)
    → drop k items ≡ item ∷ drop (k + 1) items → function_item item ≡ Some f → after ≡ with_first f.number (signature_of place f) kept
    → (n : ℕ) → option_or (after n) (function_in (place + 1) (filter_map function_item (drop (k + 1) items)) n)
    ≡ option_or (kept n) (function_in place (filter_map function_item (drop k items)) n)
functions_step kept after place items k item f here is put n =
    let rest : List Function = filter_map function_item (drop (k + 1) items) in
    ap (λ (table : ℕ → Option Signature). option_or (table n) (function_in (place + 1) rest n)) put
    ∙ one_more (kept n) (nat_eq n f.number) (signature_of place f) (function_in (place + 1) rest n)
    ∙ ap (λ (functions : List Function). option_or (kept n) (function_in place functions n))
    (sym (chosen_more function_item items k item here ∙ ap (λ (o : Option Function). cons_option o rest) is))

pub nothing_copied : {T : Type 0} (o : Option (Bor T)) → ((x : Bor T) → o ≡ Some x → ⊥) → option_copied o ≡ None
nothing_copied None none = refl
nothing_copied (Some x) none = absurd (none x refl)

-- what is no function adds none
pub no_function : (items : List ModuleItem) (k : ℕ) (item : ModuleItem) → drop k items ≡ item ∷ drop (k + 1) items → function_item item ≡ None
    → filter_map function_item (drop (k + 1) items) ≡ filter_map function_item (drop k items)
no_function items k item here is =
    sym (chosen_more function_item items k item here ∙ ap (λ (o : Option Function). cons_option o (filter_map function_item (drop (k + 1) items))) is)

pub is_some-copied : {T : Type 0} (o : Option (Bor T)) → is_some (option_copied o) ≡ is_some o
is_some-copied None = refl
is_some-copied (Some x) = refl
