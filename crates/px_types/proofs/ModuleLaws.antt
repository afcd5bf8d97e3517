-- Modules whose names stand for the same have the same types.
use Rattle.std.proofs.Common.{◌≡◌, ℕ, List, [], ◌∷◌, map, Bool, Option, Some, None, refl, sym, ap, ◌∙◌}
use Rattle.std.specs.Prelude.{Err, zip}
use Rattle.std.specs.List.{AllZip}
use Rattle.px_base.specs.declared.refusals.Refusal.{Refusal}
use Rattle.px_base.specs.Findings.{first_of}
use Rattle.px_tree.specs.declared.modules.Function.{Function}
use Rattle.px_tree.specs.declared.modules.Module.{Module}
use Rattle.px_tree.specs.declared.statements.Stmt.{Stmt}
use Rattle.px_tree.specs.declared.typed_modules.Local.{Local}
use Rattle.px_tree.specs.declared.typed_values.ValueType.{ValueType}
use Rattle.px_walk.specs.ModuleView.{rose_of_function}
use Rattle.px_walk.specs.StmtView.{rose_of_stmt}
use Rattle.px_names.specs.declared.meanings.Meaning.{Meaning}
use Rattle.px_names.specs.declared.named.NamedCode.{NamedCode}
use Rattle.px_names.specs.declared.named.Named.{Named}
use Rattle.px_names.specs.declared.settings.Directives.{Directives}
use Rattle.px_names.specs.Kept.{meanings_kept}
use Rattle.px_names.specs.Laws.{IsSameCode, IsSameNamed}
use Rattle.px_names.specs.NamedModule.{functions_of}
use Rattle.px_operators.specs.Outcomes.{Outcome, all_of, both, mapped}
use Rattle.px_environments.specs.Environments.{Environment}
use Rattle.px_environments.specs.Signatures.{code_environment, module_environment, statements_of, locals_of, gives_of, variable_in, function_in}
use Rattle.px_environments.specs.BuiltForms.{first_in, unbuilt_below, unbuilt_in, unbuilt_in_code, unbuilt_in_function}
use Rattle.px_types.specs.TypedModule.{ModuleTypes, FunctionTypes, block, header_outcome, function_with, function_types, functions_types, code_types, module_types, module_with}
use Rattle.px_types.specs.Types.{types_unless, types_of}

-- ---- environments

abbrev environment_with : List Function → List Local → Option ValueType → (ℕ → Option Meaning) → Directives → Environment
environment_with functions locals gives meanings directives =
    record { meanings = meanings; variables = variable_in 0 locals; functions = function_in 0 functions; cdivision = directives.cdivision; gives = gives }

same_environment : (functions : List Function) (locals : List Local) (gives : Option ValueType) (a b : NamedCode) → IsSameCode a b
    → code_environment functions locals gives a ≡ code_environment functions locals gives b
same_environment functions locals gives a b same =
    ap (λ meanings. environment_with functions locals gives meanings a.directives) same.scope
    ∙ ap (λ directives. environment_with functions locals gives (meanings_kept b.scope) directives) same.set

-- ---- functions, each with what its names stand for

same_each : {A : Type 0} (F : Function × NamedCode → A) → ((f : Function) (a b : NamedCode) → IsSameCode a b → F (f, a) ≡ F (f, b))
    → (functions : List Function) (a b : List NamedCode) → AllZip IsSameCode a b → map F (zip functions a) ≡ map F (zip functions b)
same_each F same [] a b all = refl
same_each F same (f ∷ functions) [] [] all = refl
same_each F same (f ∷ functions) [] (y ∷ ys) all = absurd all
same_each F same (f ∷ functions) (x ∷ xs) [] all = absurd all
same_each F same (f ∷ functions) (x ∷ xs) (y ∷ ys) all =
    ap (λ o. o ∷ map F (zip functions xs)) (same f x y all.0) ∙ ap (λ rest. F (f, y) ∷ rest) (same_each F same functions xs ys all.1)

abbrev types_in : Function → Environment → Outcome FunctionTypes
types_in f environment = mapped (λ parts. function_with f parts.1) (both (header_outcome f) (block environment f.body))

same_function : (functions : List Function) (f : Function) (a b : NamedCode) → IsSameCode a b → function_types functions (f, a) ≡ function_types functions (f, b)
same_function functions f a b same = ap (types_in f) (same_environment functions (locals_of f) (Some (gives_of f)) a b same)

same_unbuilt : (functions : List Function) (f : Function) (a b : NamedCode) → IsSameCode a b → unbuilt_in_function functions (f, a) ≡ unbuilt_in_function functions (f, b)
same_unbuilt functions f a b same =
    ap (λ environment. unbuilt_below environment (rose_of_function f)) (same_environment functions (locals_of f) (Some (gives_of f)) a b same)

-- ---- modules

abbrev with_types : Option Refusal → Outcome ModuleTypes → Outcome ModuleTypes
with_types None types = types
with_types (Some refusal) types = Err refusal

types_by : (unbuilt : Option Refusal) (named : Named) → types_unless unbuilt named ≡ with_types unbuilt (module_types named)
types_by None named = refl
types_by (Some refusal) named = refl

-- what is found of a module, its code and its functions, where its code has this environment
abbrev types_from : Module → Environment → List (Outcome FunctionTypes) → List (Option Refusal) → Outcome ModuleTypes
types_from m environment functions unbuilt =
    with_types
    (first_of (first_in (map (λ (s : Stmt). unbuilt_below environment (rose_of_stmt s)) (statements_of m))) (first_in unbuilt))
    (mapped module_with (both (block environment (statements_of m)) (all_of functions)))

abbrev types_here : Module → NamedCode → List NamedCode → Outcome ModuleTypes
types_here m code functions =
    types_from m (module_environment (functions_of m) code)
    (map (function_types (functions_of m)) (zip (functions_of m) functions))
    (map (unbuilt_in_function (functions_of m)) (zip (functions_of m) functions))

types_split : (named : Named) → types_of named ≡ types_here named.«module» named.code named.functions
types_split named = types_by (unbuilt_in named) named

same_here : (m : Module) (a b : NamedCode) (functions others : List NamedCode) → IsSameCode a b → AllZip IsSameCode functions others
    → types_here m a functions ≡ types_here m b others
same_here m a b functions others same all =
    let fs = functions_of m in
    ap (λ environment. types_from m environment (map (function_types fs) (zip fs functions)) (map (unbuilt_in_function fs) (zip fs functions))) (same_environment fs [] None a b same)
    ∙ ap (λ types. types_from m (module_environment fs b) types (map (unbuilt_in_function fs) (zip fs functions))) (same_each (function_types fs) (same_function fs) fs functions others all)
    ∙ ap (types_from m (module_environment fs b) (map (function_types fs) (zip fs others))) (same_each (unbuilt_in_function fs) (same_unbuilt fs) fs functions others all)

pub same_types : (a b : Named) → IsSameNamed a b → types_of a ≡ types_of b
same_types a b same =
    types_split a
    ∙ ap (λ m. types_here m a.code a.functions) same.kept
    ∙ same_here b.«module» a.code b.code a.functions b.functions same.code same.functions
    ∙ sym (types_split b)
