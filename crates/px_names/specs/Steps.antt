-- What a node adds to what is said of names, in the order of the text.
use Rattle.std.specs.Prelude.{ℕ, Bool, false, ◌&&◌, ◌||◌, if◌then◌else◌, nat_eq, List, [], ◌∷◌, Option, Some, None, bytes_eq}
use Rattle.std.specs.List.{list_any}
use Rattle.std.specs.Option.{option_eq, option_or}
use Rattle.px_base.specs.declared.refusals.Refusal.{Refusal}
use Rattle.px_base.specs.Findings.{first_of}
use Rattle.px_walk.specs.Forms.{Form}
use Rattle.px_walk.specs.Forms as form
use Rattle.px_walk.specs.Roses.{head_of, number_of, parts_of}
use Rattle.px_walk.specs.ExprView.{Tree}
use Rattle.px_names.specs.declared.contexts.Context.{Context}
use Rattle.px_names.specs.declared.meanings.LocalKind.TheVariants as local
use Rattle.px_names.specs.declared.meanings.Meaning.{Meaning}
use Rattle.px_names.specs.declared.tables.Declared.{Declared}
use Rattle.px_names.specs.declared.tables.Defined.{Defined}
use Rattle.px_names.specs.Imports.{Given, given_by}
use Rattle.px_names.specs.Declarations.{Names, is_target, is_assigned_outside}
use Rattle.px_names.specs.NamedModule.{Use, use_in}
use Rattle.px_names.specs.Rules.{rule_of}

abbrev pub no_names : Names
no_names = record {
  declared = λ function name. None;
  assigned = λ function name. None;
  globals = λ function name. false;
  shared = λ name. false;
  functions = λ name. None;
  imports = λ name. None;
}

-- without the module names
abbrev pub unshared : Names → Names
unshared names = record names { shared = λ name. false }

-- a name in this function, or else in module code
abbrev pub is_here : Option ℕ → List ℕ → Option ℕ → List ℕ → Bool
is_here function name f n = option_eq nat_eq f function && bytes_eq n name

abbrev pub with_declared : Names → Option ℕ → List ℕ → Declared → Names
with_declared names function name declared = record names {
  declared = λ f n. option_or (names.declared f n) (if is_here function name f n then Some declared else None);
}

abbrev pub with_assigned : Names → Option ℕ → List ℕ → ℕ → Names
with_assigned names function name number = record names {
  assigned = λ f n. option_or (names.assigned f n) (if is_here function name f n then Some number else None);
}

abbrev pub with_globals : Names → Option ℕ → List (List ℕ) → Names
with_globals names function globals = record names {
  globals = λ f n. names.globals f n || option_eq nat_eq f function && list_any (λ other. bytes_eq n other) globals;
}

abbrev pub with_function : Names → List ℕ → Defined → Names
with_function names name defined = record names {
  functions = λ n. option_or (names.functions n) (if bytes_eq n name then Some defined else None);
}

abbrev pub with_import : Names → Given → Names
with_import names entry = record names {
  imports = λ n. if bytes_eq n entry.0 then Some entry.1 else names.imports n;
}

abbrev pub with_imports : Names → List Given → Names
with_imports names [] = names
with_imports names (entry ∷ entries) = with_imports (with_import names entry) entries

-- all but module names, which hang on what stands behind them too

abbrev pub after_name : Names → Context → List ℕ → ℕ → Names
after_name names context name number = if is_target context.role then with_assigned names context.function name number else names

abbrev pub after_form : Names → Context → Form → ℕ → List Tree → Names
after_form names context (form.Param name is_not_none) number parts =
    with_declared names context.function name (record { number = number; kind = local.Parameter })
after_form names context (form.Declarator name) number parts =
    with_declared names context.function name (record { number = number; kind = local.Variable })
after_form names context (form.Global globals) number parts = with_globals names context.function globals
after_form names context (form.Name name) number parts = after_name names context name number
after_form names context (form.Function f) number parts =
    with_function names f.name (record { number = number; params = f.params })
after_form names context (form.Import is_cimport dotted alias) number parts =
    with_imports names (given_by (form.Import is_cimport dotted alias) parts)
after_form names context (form.ImportFrom is_cimport dotted) number parts =
    with_imports names (given_by (form.ImportFrom is_cimport dotted) parts)
after_form names context _ number parts = names

abbrev pub names_after : Names → Context → Tree → Names
names_after names context node = after_form names context (head_of node) (number_of node) (parts_of node)

-- module names, where all else is known

abbrev pub with_shared : Names → List ℕ → Names
with_shared names name = record names { shared = λ n. names.shared n || bytes_eq n name }

abbrev pub is_outside : Names → Option ℕ → List ℕ → Bool
is_outside names function name = is_assigned_outside (names.globals function name) (names.declared function name) function

abbrev pub shared_in : Names → Option ℕ → List ℕ → Names
shared_in names function name = if is_outside names function name then with_shared names name else names

abbrev pub shared_name : Names → Context → List ℕ → Names
shared_name names context name = if is_target context.role then shared_in names context.function name else names

abbrev pub shared_form : Names → Context → Form → Names
shared_form names context (form.Name name) = shared_name names context name
shared_form names context _ = names

abbrev pub shared_after : Names → Context → Tree → Names
shared_after names context node = shared_form names context (head_of node)

-- the first broken rule

abbrev pub Judged : Type 0
Judged = Names × Option Refusal

abbrev pub judged_after : Judged → Context → Tree → Judged
judged_after (names, first) context node = (names, first_of first (rule_of names context node))

-- what the names stand for

abbrev pub Gathered : Type 0
Gathered = Names × Option ℕ × (ℕ → Option Meaning)

abbrev pub with_use : Option Use → (ℕ → Option Meaning) → ℕ → Option Meaning
with_use None kept number = kept number
with_use (Some entry) kept number = if nat_eq number entry.0 then Some entry.1 else kept number

abbrev pub gathered_after : Gathered → Context → Tree → Gathered
gathered_after (names, function, kept) context node = (names, function, with_use (use_in names function (context, node)) kept)
