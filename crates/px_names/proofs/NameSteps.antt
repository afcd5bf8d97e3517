-- What a walk through a module finds of its names is what its nodes say.
use Rattle.std.proofs.Common.{◌≡◌, ℕ, List, [], ◌∷◌, Bool, true, false, ◌&&◌, ◌||◌, cond, Option, Some, None, nat_eq, refl, sym, ap, ◌∙◌, subst}
use Rattle.std.specs.Prelude.{find, filter_map, flat_map, bytes_eq}
use Rattle.std.specs.List.{last_or, cons_option, list_any}
use Rattle.std.specs.Option.{option_or, option_eq}
use Rattle.px_base.specs.declared.refusals.Refusal.{Refusal}
use Rattle.px_base.specs.Findings.{first_of, IsFirst}
use Rattle.px_base.proofs.FirstFindings.{first_of-associative}
use Rattle.px_tree.specs.declared.modules.Module.{Module}
use Rattle.px_walk.specs.Findings.{finding, visited}
use Rattle.px_walk.proofs.Walks.{finding-first}
use Rattle.px_walk.specs.Forms.{Form}
use Rattle.px_walk.specs.Forms as form
use Rattle.px_walk.specs.Roses.{head_of, number_of, parts_of}
use Rattle.px_walk.specs.ExprView.{Tree}
use Rattle.px_names.specs.declared.contexts.Context.{Context}
use Rattle.px_names.specs.declared.meanings.Imported.{Imported}
use Rattle.px_names.specs.declared.meanings.Meaning.{Meaning}
use Rattle.px_names.specs.Contexts.{Node, nodes_of}
use Rattle.px_names.specs.Imports.{Given, given, given_by}
use Rattle.px_names.specs.Declarations.{Names, is_in, declares, kind_of, declaration, first_declared, is_target, is_name, assigns, first_assigned, makes_global, is_global, defines, count_of_params, definition, first_function, names_of}
use Rattle.px_names.specs.NamedModule.{Use, use_in, uses_in, use_numbered}
use Rattle.px_names.specs.Rules.{rule_of, BreaksNames}
use Rattle.px_names.specs.Kept.{no_meanings}
use Rattle.px_names.specs.Steps.{no_names, unshared, with_assigned, with_import, with_imports, after_name, after_form, names_after, with_shared, is_outside, shared_in, shared_form, shared_after, judged_after, with_use, gathered_after}
use Rattle.px_names.proofs.MapSteps.{equal}
use Rattle.px_names.proofs.Options.{or_none, or_false, and_true, adds_nothing, adds_no_target, adds_no_truth, adds_no_shared, or_assoc, first_found, last_chosen, last_or-append, filter_map-append}
use Rattle.px_names.proofs.PartLoops.{none_first}

-- ---- imports change nothing else

imports_alone : (names : Names) (entries : List Given) → with_imports names entries ≡ record names { imports = (with_imports names entries).imports }
imports_alone names [] = refl
imports_alone names (entry ∷ entries) = imports_alone (with_import names entry) entries

-- whether the name of an imported name is this one, and what it gives
abbrev chosen : List ℕ → Given → Option Imported
chosen n entry = cond (bytes_eq n entry.0) (Some entry.1) None

imports_give : (names : Names) (entries : List Given) (n : List ℕ)
    → (with_imports names entries).imports n ≡ last_or (names.imports n) (filter_map (chosen n) entries)
imports_give names [] n = refl
imports_give names (entry ∷ entries) n =
    imports_give (with_import names entry) entries n
    ∙ last_chosen (bytes_eq n entry.0) (names.imports n) entry.1 (filter_map (chosen n) entries)

-- ---- a name that is no target changes nothing, and one that is changes its assignment alone

name_else : {A : Type 0} (field : Names → A) (names : Names) (context : Context) (name : List ℕ) (number : ℕ)
    → field (with_assigned names context.function name number) ≡ field names → field (after_name names context name number) ≡ field names
name_else {A = A} field names context name number same = cases (is_target context.role)
  where
    cases : (t : Bool) → field (cond t (with_assigned names context.function name number) names) ≡ field names
    cases true = same
    cases false = refl

name_assigned : (names : Names) (context : Context) (name : List ℕ) (number : ℕ) (f : Option ℕ) (n : List ℕ)
    → (after_name names context name number).assigned f n
    ≡ option_or (names.assigned f n) (cond (option_eq nat_eq f context.function && (is_target context.role && bytes_eq n name)) (Some number) None)
name_assigned names context name number f n = cases (is_target context.role)
  where
    cases : (t : Bool) → (cond t (with_assigned names context.function name number) names).assigned f n
        ≡ option_or (names.assigned f n) (cond (option_eq nat_eq f context.function && (t && bytes_eq n name)) (Some number) None)
    cases true = refl
    cases false = sym (adds_nothing (names.assigned f n) number (option_eq nat_eq f context.function))

-- ---- what one node adds

after_declared : (names : Names) (context : Context) (h : Form) (number : ℕ) (parts : List Tree) (f : Option ℕ) (n : List ℕ)
    → (after_form names context h number parts).declared f n
    ≡ option_or (names.declared f n) (cond (option_eq nat_eq f context.function && declares n h) (Some (record { number = number; kind = kind_of h })) None)
after_declared names context (form.Param name is_not_none) number parts f n = refl
after_declared names context (form.Declarator name) number parts f n = refl
after_declared names context (form.Name name) number parts f n =
    name_else (λ r. r.declared f n) names context name number refl ∙ sym (adds_nothing (names.declared f n) _ (option_eq nat_eq f context.function))
after_declared names context (form.Import is_cimport dotted alias) number parts f n =
    ap (λ (r : Names). r.declared f n) (imports_alone names (given_by (form.Import is_cimport dotted alias) parts))
    ∙ sym (adds_nothing (names.declared f n) _ (option_eq nat_eq f context.function))
after_declared names context (form.ImportFrom is_cimport dotted) number parts f n =
    ap (λ (r : Names). r.declared f n) (imports_alone names (given_by (form.ImportFrom is_cimport dotted) parts))
    ∙ sym (adds_nothing (names.declared f n) _ (option_eq nat_eq f context.function))
after_declared names context _ number parts f n = sym (adds_nothing (names.declared f n) _ (option_eq nat_eq f context.function))

after_assigned : (names : Names) (context : Context) (h : Form) (number : ℕ) (parts : List Tree) (f : Option ℕ) (n : List ℕ)
    → (after_form names context h number parts).assigned f n
    ≡ option_or (names.assigned f n) (cond (option_eq nat_eq f context.function && (is_target context.role && is_name n h)) (Some number) None)
after_assigned names context (form.Name name) number parts f n = name_assigned names context name number f n
after_assigned names context (form.Import is_cimport dotted alias) number parts f n =
    ap (λ (r : Names). r.assigned f n) (imports_alone names (given_by (form.Import is_cimport dotted alias) parts))
    ∙ sym (adds_no_target (names.assigned f n) number (option_eq nat_eq f context.function) (is_target context.role))
after_assigned names context (form.ImportFrom is_cimport dotted) number parts f n =
    ap (λ (r : Names). r.assigned f n) (imports_alone names (given_by (form.ImportFrom is_cimport dotted) parts))
    ∙ sym (adds_no_target (names.assigned f n) number (option_eq nat_eq f context.function) (is_target context.role))
after_assigned names context _ number parts f n =
    sym (adds_no_target (names.assigned f n) number (option_eq nat_eq f context.function) (is_target context.role))

after_globals : (names : Names) (context : Context) (h : Form) (number : ℕ) (parts : List Tree) (f : Option ℕ) (n : List ℕ)
    → (after_form names context h number parts).globals f n ≡ (names.globals f n || option_eq nat_eq f context.function && makes_global n h)
after_globals names context (form.Global globals) number parts f n = refl
after_globals names context (form.Name name) number parts f n =
    name_else (λ r. r.globals f n) names context name number refl ∙ sym (adds_no_truth (names.globals f n) (option_eq nat_eq f context.function))
after_globals names context (form.Import is_cimport dotted alias) number parts f n =
    ap (λ (r : Names). r.globals f n) (imports_alone names (given_by (form.Import is_cimport dotted alias) parts))
    ∙ sym (adds_no_truth (names.globals f n) (option_eq nat_eq f context.function))
after_globals names context (form.ImportFrom is_cimport dotted) number parts f n =
    ap (λ (r : Names). r.globals f n) (imports_alone names (given_by (form.ImportFrom is_cimport dotted) parts))
    ∙ sym (adds_no_truth (names.globals f n) (option_eq nat_eq f context.function))
after_globals names context _ number parts f n = sym (adds_no_truth (names.globals f n) (option_eq nat_eq f context.function))

after_functions : (names : Names) (context : Context) (h : Form) (number : ℕ) (parts : List Tree) (n : List ℕ)
    → (after_form names context h number parts).functions n
    ≡ option_or (names.functions n) (cond (defines n h) (Some (record { number = number; params = count_of_params h })) None)
after_functions names context (form.Function f) number parts n = refl
after_functions names context (form.Name name) number parts n =
    name_else (λ r. r.functions n) names context name number refl ∙ sym (or_none (names.functions n))
after_functions names context (form.Import is_cimport dotted alias) number parts n =
    ap (λ (r : Names). r.functions n) (imports_alone names (given_by (form.Import is_cimport dotted alias) parts)) ∙ sym (or_none (names.functions n))
after_functions names context (form.ImportFrom is_cimport dotted) number parts n =
    ap (λ (r : Names). r.functions n) (imports_alone names (given_by (form.ImportFrom is_cimport dotted) parts)) ∙ sym (or_none (names.functions n))
after_functions names context _ number parts n = sym (or_none (names.functions n))

after_imports : (names : Names) (context : Context) (h : Form) (number : ℕ) (parts : List Tree) (n : List ℕ)
    → (after_form names context h number parts).imports n ≡ last_or (names.imports n) (filter_map (chosen n) (given_by h parts))
after_imports names context (form.Name name) number parts n = name_else (λ r. r.imports n) names context name number refl
after_imports names context (form.Import is_cimport dotted alias) number parts n =
    imports_give names (given_by (form.Import is_cimport dotted alias) parts) n
after_imports names context (form.ImportFrom is_cimport dotted) number parts n =
    imports_give names (given_by (form.ImportFrom is_cimport dotted) parts) n
after_imports names context _ number parts n = refl

after_shared : (names : Names) (context : Context) (h : Form) (number : ℕ) (parts : List Tree) (n : List ℕ)
    → (after_form names context h number parts).shared n ≡ names.shared n
after_shared names context (form.Name name) number parts n = name_else (λ r. r.shared n) names context name number refl
after_shared names context (form.Import is_cimport dotted alias) number parts n =
    ap (λ (r : Names). r.shared n) (imports_alone names (given_by (form.Import is_cimport dotted alias) parts))
after_shared names context (form.ImportFrom is_cimport dotted) number parts n =
    ap (λ (r : Names). r.shared n) (imports_alone names (given_by (form.ImportFrom is_cimport dotted) parts))
after_shared names context _ number parts n = refl

-- ---- what all nodes add

-- the state after some nodes
abbrev later : Names → List Node → Names
later names nodes = visited names_after names nodes

all_declared : (names : Names) (nodes : List Node) (f : Option ℕ) (n : List ℕ)
    → (later names nodes).declared f n ≡ option_or (names.declared f n) (first_declared nodes f n)
all_declared names [] f n = sym (or_none (names.declared f n))
all_declared names (node ∷ nodes) f n =
    all_declared (names_after names node.0 node.1) nodes f n
    ∙ ap (λ before. option_or before (first_declared nodes f n)) (after_declared names node.0 (head_of node.1) (number_of node.1) (parts_of node.1) f n)
    ∙ first_found declaration (names.declared f n) node (is_in f node && declares n (head_of node.1)) (find (λ (other : Node). is_in f other && declares n (head_of other.1)) nodes)

all_assigned : (names : Names) (nodes : List Node) (f : Option ℕ) (n : List ℕ)
    → (later names nodes).assigned f n ≡ option_or (names.assigned f n) (first_assigned nodes f n)
all_assigned names [] f n = sym (or_none (names.assigned f n))
all_assigned names (node ∷ nodes) f n =
    all_assigned (names_after names node.0 node.1) nodes f n
    ∙ ap (λ before. option_or before (first_assigned nodes f n)) (after_assigned names node.0 (head_of node.1) (number_of node.1) (parts_of node.1) f n)
    ∙ first_found (λ (other : Node). number_of other.1) (names.assigned f n) node (is_in f node && assigns n node) (find (λ (other : Node). is_in f other && assigns n other) nodes)

all_globals : (names : Names) (nodes : List Node) (f : Option ℕ) (n : List ℕ)
    → (later names nodes).globals f n ≡ (names.globals f n || is_global nodes f n)
all_globals names [] f n = sym (or_false (names.globals f n))
all_globals names (node ∷ nodes) f n =
    all_globals (names_after names node.0 node.1) nodes f n
    ∙ ap (λ before. before || is_global nodes f n) (after_globals names node.0 (head_of node.1) (number_of node.1) (parts_of node.1) f n)
    ∙ or_assoc (names.globals f n) (is_in f node && makes_global n (head_of node.1)) (is_global nodes f n)

all_functions : (names : Names) (nodes : List Node) (n : List ℕ)
    → (later names nodes).functions n ≡ option_or (names.functions n) (first_function nodes n)
all_functions names [] n = sym (or_none (names.functions n))
all_functions names (node ∷ nodes) n =
    all_functions (names_after names node.0 node.1) nodes n
    ∙ ap (λ before. option_or before (first_function nodes n)) (after_functions names node.0 (head_of node.1) (number_of node.1) (parts_of node.1) n)
    ∙ first_found definition (names.functions n) node (defines n (head_of node.1)) (find (λ (other : Node). defines n (head_of other.1)) nodes)

abbrev all_given : List Node → List Given
all_given nodes = flat_map (λ node. given node.1) nodes

all_imports : (names : Names) (nodes : List Node) (n : List ℕ)
    → (later names nodes).imports n ≡ last_or (names.imports n) (filter_map (chosen n) (all_given nodes))
all_imports names [] n = refl
all_imports names (node ∷ nodes) n =
    all_imports (names_after names node.0 node.1) nodes n
    ∙ ap (λ before. last_or before (filter_map (chosen n) (all_given nodes))) (after_imports names node.0 (head_of node.1) (number_of node.1) (parts_of node.1) n)
    ∙ last_or-append (names.imports n) (filter_map (chosen n) (given node.1)) (filter_map (chosen n) (all_given nodes))
    ∙ ap (last_or (names.imports n)) (sym (filter_map-append (chosen n) (given node.1) (all_given nodes)))

all_shared : (names : Names) (nodes : List Node) (n : List ℕ) → (later names nodes).shared n ≡ names.shared n
all_shared names [] n = refl
all_shared names (node ∷ nodes) n =
    all_shared (names_after names node.0 node.1) nodes n ∙ after_shared names node.0 (head_of node.1) (number_of node.1) (parts_of node.1) n

-- all but module names are found
pub all_found : (nodes : List Node) → visited names_after no_names nodes ≡ unshared (names_of nodes)
all_found nodes = λ i. record {
  declared = λ f n. all_declared no_names nodes f n i;
  assigned = λ f n. all_assigned no_names nodes f n i;
  globals = λ f n. all_globals no_names nodes f n i;
  shared = λ n. all_shared no_names nodes n i;
  functions = λ n. all_functions no_names nodes n i;
  imports = λ n. all_imports no_names nodes n i;
}

-- ---- module names

-- a test of a name hangs on the name alone
at_name : (P : List ℕ → Bool) (n name : List ℕ) → (bytes_eq n name && P n) ≡ (bytes_eq n name && P name)
at_name P n name = cases (bytes_eq n name) refl
  where
    cases : (b : Bool) → bytes_eq n name ≡ b → (b && P n) ≡ (b && P name)
    cases true is = ap P (equal n name is)
    cases false is = refl

abbrev more_shared : Names → Node → List ℕ → Bool
more_shared names node n = assigns n node && is_outside names node.0.function n

name_shared : (names : Names) (context : Context) (name : List ℕ) (n : List ℕ)
    → (shared_form names context (form.Name name)).shared n ≡ (names.shared n || (is_target context.role && bytes_eq n name) && is_outside names context.function n)
name_shared names context name n = targets (is_target context.role)
  where
    outsides : (o : Bool) → (cond o (with_shared names name) names).shared n ≡ (names.shared n || bytes_eq n name && o)
    outsides true = ap (λ b. names.shared n || b) (sym (and_true (bytes_eq n name)))
    outsides false = sym (adds_no_truth (names.shared n) (bytes_eq n name))

    targets : (t : Bool) → (cond t (shared_in names context.function name) names).shared n ≡ (names.shared n || (t && bytes_eq n name) && is_outside names context.function n)
    targets true = outsides (is_outside names context.function name)
        ∙ ap (λ b. names.shared n || b) (sym (at_name (is_outside names context.function) n name))
    targets false = sym (or_false (names.shared n))

shared_alone : (names : Names) (context : Context) (name : List ℕ)
    → shared_form names context (form.Name name) ≡ record names { shared = (shared_form names context (form.Name name)).shared }
shared_alone names context name = targets (is_target context.role)
  where
    outsides : (o : Bool) → cond o (with_shared names name) names ≡ record names { shared = (cond o (with_shared names name) names).shared }
    outsides true = refl
    outsides false = refl

    targets : (t : Bool) → cond t (shared_in names context.function name) names ≡ record names { shared = (cond t (shared_in names context.function name) names).shared }
    targets true = outsides (is_outside names context.function name)
    targets false = refl

shared_step : (names : Names) (context : Context) (h : Form)
    → shared_form names context h ≡ record names { shared = λ n. names.shared n || (is_target context.role && is_name n h) && is_outside names context.function n }
shared_step names context (form.Name name) =
    shared_alone names context name ∙ (λ i. record names { shared = λ n. name_shared names context name n i })
shared_step names context _ =
    λ i. record names { shared = λ n. sym (adds_no_shared (names.shared n) (is_target context.role) (is_outside names context.function n)) i }

pub sharing : (names : Names) (nodes : List Node)
    → visited shared_after names nodes ≡ record names { shared = λ n. names.shared n || list_any (λ (node : Node). more_shared names node n) nodes }
sharing names [] = λ i. record names { shared = λ n. sym (or_false (names.shared n)) i }
sharing names (node ∷ nodes) =
    sharing (shared_after names node.0 node.1) nodes
    ∙ ap (λ (r : Names). record r { shared = λ n. r.shared n || list_any (λ (other : Node). more_shared r other n) nodes }) (shared_step names node.0 (head_of node.1))
    ∙ (λ i. record names { shared = λ n. or_assoc (names.shared n) (more_shared names node n) (list_any (λ (other : Node). more_shared names other n) nodes) i })

pub all_names : (nodes : List Node) → visited shared_after (unshared (names_of nodes)) nodes ≡ names_of nodes
all_names nodes = sharing (unshared (names_of nodes)) nodes

-- ---- the first broken rule

pub judging : (names : Names) (first : Option Refusal) (nodes : List Node)
    → visited judged_after (names, first) nodes ≡ (names, first_of first (finding (rule_of names) nodes))
judging names first [] = λ i. (names, sym (none_first first) i)
judging names first (node ∷ nodes) =
    judging names (first_of first (rule_of names node.0 node.1)) nodes
    ∙ (λ i. (names, first_of-associative first (rule_of names node.0 node.1) (finding (rule_of names) nodes) i))

-- ---- what names stand for

abbrev numbered : ℕ → Use → Option Meaning
numbered number entry = cond (nat_eq number entry.0) (Some entry.1) None

one_use : (entry : Option Use) (kept : ℕ → Option Meaning) (rest : List Use) (number : ℕ)
    → last_or (with_use entry kept number) (filter_map (numbered number) rest) ≡ last_or (kept number) (filter_map (numbered number) (cons_option entry rest))
one_use None kept rest number = refl
one_use (Some entry) kept rest number = last_chosen (nat_eq number entry.0) (kept number) entry.1 (filter_map (numbered number) rest)

gathering : (names : Names) (function : Option ℕ) (kept : ℕ → Option Meaning) (nodes : List Node)
    → visited gathered_after (names, function, kept) nodes
    ≡ (names, function, λ number. last_or (kept number) (filter_map (numbered number) (uses_in names function nodes)))
gathering names function kept [] = refl
gathering names function kept (node ∷ nodes) =
    gathering names function (with_use (use_in names function node) kept) nodes
    ∙ (λ i. (names, function, λ number. one_use (use_in names function node) kept (uses_in names function nodes) number i))

pub all_gathered : (names : Names) (function : Option ℕ) (nodes : List Node)
    → visited gathered_after (names, function, no_meanings) nodes ≡ (names, function, use_numbered (uses_in names function nodes))
all_gathered names function nodes = gathering names function no_meanings nodes

-- what is found is the first that the module breaks
pub found_first : (m : Module) (names : Names) (found : Option Refusal) → names ≡ names_of (nodes_of m) → found ≡ finding (rule_of names) (nodes_of m)
    → IsFirst (BreaksNames m) found
found_first m names found same is =
    let nodes = nodes_of m in
    subst (λ (o : Option Refusal). IsFirst (BreaksNames m) o) (sym (is ∙ ap (λ (n : Names). finding (rule_of n) nodes) same))
    (finding-first (rule_of (names_of nodes)) nodes)
