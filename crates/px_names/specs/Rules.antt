-- The rules of names: what a node breaks in its context, by what the text of the module says of its names.
use Rattle.std.specs.Prelude.{ℕ, Bool, true, false, ◌&&◌, ◌||◌, not, if◌then◌else◌, nat_eq, List, [], ◌∷◌, Option, Some, None, is_some, codes, bytes_eq, slice_get}
use Rattle.px_base.specs.declared.refusals.Span.{Span}
use Rattle.px_base.specs.declared.refusals.Refusal.{Refusal}
use Rattle.px_tree.specs.declared.expressions.CompareOp.{CompareOp}
use Rattle.px_tree.specs.declared.expressions.CompareOp.TheVariants as comparison
use Rattle.px_tree.specs.declared.modules.Module.{Module}
use Rattle.px_walk.specs.Findings.{Breaks}
use Rattle.px_walk.specs.Forms.{Form}
use Rattle.px_walk.specs.Forms as form
use Rattle.px_walk.specs.Roses.{head_of, number_of, at_of, parts_of}
use Rattle.px_walk.specs.ExprView.{Tree}
use Rattle.px_names.specs.declared.contexts.Role.{Role}
use Rattle.px_names.specs.declared.contexts.Role.TheVariants as role
use Rattle.px_names.specs.declared.contexts.Context.{Context}
use Rattle.px_names.specs.declared.meanings.Imported.TheVariants as import
use Rattle.px_names.specs.declared.meanings.Meaning.{Meaning}
use Rattle.px_names.specs.declared.meanings.Meaning.TheVariants as meaning
use Rattle.px_names.specs.declared.settings.Directive.{Directive}
use Rattle.px_names.specs.declared.tables.Declared.{Declared}
use Rattle.px_names.specs.declared.tables.Defined.{Defined}
use Rattle.px_names.specs.Tables.{entry_of, is_among}
use Rattle.px_names.specs.Contexts.{nodes_of}
use Rattle.px_names.specs.Imports.{imported_module, are_parts_known}
use Rattle.px_names.specs.Declarations.{Names, names_of}
use Rattle.px_names.specs.Meanings.{module_meaning_of, meaning_of}
use Rattle.px_names.specs.Comments.{is_comment_known, directives}
use Rattle.px_names.specs.Uses.{unless, use_of, row_refusal}

-- whether the first declaration, or the first function, of a name has this number

abbrev pub is_declaration : Option Declared → ℕ → Bool
is_declaration None number = false
is_declaration (Some declared) number = nat_eq declared.number number

abbrev pub is_definition : Option Defined → ℕ → Bool
is_definition None number = false
is_definition (Some defined) number = nat_eq defined.number number

-- Decorators

-- the directive that a name in an import stands for: one of the three, in `cython`
abbrev pub directive_in : Option Meaning → List ℕ → Option Directive
directive_in (Some (meaning.Import import.Cython)) name = entry_of directives name
directive_in _ name = None

-- the directive of a decorator, by what its first name stands for in module code
abbrev pub directive_of : Names → List (List ℕ) → Option Directive
directive_of names [] = None
directive_of names (first ∷ []) = None
directive_of names (first ∷ name ∷ []) = directive_in (module_meaning_of names first) name
directive_of names (first ∷ name ∷ further ∷ others) = None

abbrev pub is_import : Option Meaning → Bool
is_import (Some (meaning.Import imported)) = true
is_import _ = false

-- whether it is spelled as one of the three, and its first name isn't imported
abbrev pub is_unimported : Names → List (List ℕ) → Bool
is_unimported names [] = false
is_unimported names (first ∷ []) = false
is_unimported names (first ∷ name ∷ []) =
    bytes_eq (codes "cython") first && is_some (entry_of directives name) && not (is_import (module_meaning_of names first))
is_unimported names (first ∷ name ∷ further ∷ others) = false

-- such a one is an unknown name; any other that is no directive is none of the language
abbrev pub decorator_refusal : Names → List (List ℕ) → Span → Span → Option Refusal
decorator_refusal names spelled name_at at =
    if is_unimported names spelled then unless false 10 name_at else unless (is_some (directive_of names spelled)) 27 at

-- `raise` names one of Python's kinds

abbrev pub kinds : List (List ℕ)
kinds =
    codes "IndexError" ∷ codes "ValueError" ∷ codes "ZeroDivisionError" ∷ codes "OverflowError" ∷ codes "TypeError"
    ∷ codes "KeyError" ∷ codes "EOFError" ∷ codes "NameError" ∷ codes "UnboundLocalError" ∷ codes "AttributeError"
    ∷ codes "RuntimeError" ∷ codes "RecursionError" ∷ []

-- `is` and `is not` have the literal None on one side

abbrev pub is_identity_operator : CompareOp → Bool
is_identity_operator comparison.Is = true
is_identity_operator comparison.IsNot = true
is_identity_operator _ = false

abbrev pub is_identity : Form → Bool
is_identity (form.Comparison op) = is_identity_operator op
is_identity _ = false

abbrev pub is_none_form : Form → Bool
is_none_form form.None = true
is_none_form _ = false

abbrev pub is_none_at : Option Tree → Bool
is_none_at None = false
is_none_at (Some operand) = is_none_form (head_of operand)

-- the right operand of a comparison
abbrev pub right_of : Tree → Option Tree
right_of compared = slice_get (parts_of compared) 0

-- of comparisons, the first of which has the literal None on its left or not
abbrev pub are_identities_right : Bool → List Tree → Bool
are_identities_right left [] = true
are_identities_right left (compared ∷ others) =
    (not (is_identity (head_of compared)) || left || is_none_at (right_of compared))
    && are_identities_right (is_none_at (right_of compared)) others

abbrev pub is_chain_right : List Tree → Bool
is_chain_right [] = true
is_chain_right (first ∷ others) = are_identities_right (is_none_form (head_of first)) others

-- Names

abbrev pub is_value : Meaning → Bool
is_value (meaning.Local number kind) = true
is_value meaning.Module = true
is_value _ = false

-- A target is no use, at the head of a row a name is used as the row says, and elsewhere as a value.

abbrev pub known_refusal : Role → Meaning → Span → Option Refusal
known_refusal role.Atom what at = None
known_refusal r what at = unless (is_value what) 27 at

abbrev pub used_refusal : Role → Option Meaning → Span → Option Refusal
used_refusal r None at = unless false 10 at
used_refusal r (Some what) at = known_refusal r what at

abbrev pub name_refusal : Role → Option Meaning → Span → Option Refusal
name_refusal role.Target found at = None
name_refusal r found at = used_refusal r found at

-- what the name at the head of a row stands for
abbrev pub meaning_of_atom : Names → Option ℕ → Form → Option Meaning
meaning_of_atom names function (form.Name name) = meaning_of names function name
meaning_of_atom names function _ = None

abbrev pub row_rule : Names → Context → Span → List Tree → Option Refusal
row_rule names context at [] = None
row_rule names context at (atom ∷ trailers) =
    row_refusal at context.role trailers (use_of (meaning_of_atom names context.function (head_of atom)) trailers)

-- All rules

abbrev pub is_body : Role → Bool
is_body role.Body = true
is_body _ = false

abbrev pub is_untested : Role → Bool
is_untested role.Untested = true
is_untested _ = false

abbrev pub short_rule : Names → Context → Form → Tree → Option Refusal
-- imports are the known ones
short_rule names context (form.Import is_cimport dotted alias) node = unless (is_some (imported_module dotted)) 27 (at_of node)
short_rule names context (form.ImportFrom is_cimport dotted) node = unless (are_parts_known dotted (parts_of node)) 27 (at_of node)
-- there is no second function of a name, nor a second parameter or declaration of one in a function or in module code
short_rule names context (form.Function f) node = unless (is_definition (names.functions f.name) (number_of node)) 11 (at_of node)
short_rule names context (form.Param name is_not_none) node =
    unless (is_declaration (names.declared context.function name) (number_of node)) 11 (at_of node)
short_rule names context (form.Declarator name) node =
    unless (is_declaration (names.declared context.function name) (number_of node)) 11 (at_of node)
short_rule names context (form.Decorator spelled name_at value) node = decorator_refusal names spelled name_at (at_of node)
short_rule names context (form.Raise name) node = unless (is_among kinds name) 27 (at_of node)
-- `cdef` of variables stands in a function's own block
short_rule names context form.Declare node = unless (is_body context.role) 27 (at_of node)
short_rule names context form.DeclareGroup node = unless (is_body context.role) 27 (at_of node)
short_rule names context (form.Name name) node = name_refusal context.role (meaning_of names context.function name) (at_of node)
short_rule names context form.Compare node = unless (is_chain_right (parts_of node)) 27 (at_of node)
short_rule names context _ node = None

abbrev pub broken_by : Names → Context → Form → Tree → Option Refusal
-- each value of a directive is known
broken_by names context (form.Comment text) node = unless (is_comment_known text) 27 (at_of node)
broken_by names context form.Row node = row_rule names context (at_of node) (parts_of node)
broken_by names context head node = short_rule names context head node

-- the first rule by place and number that a node breaks
abbrev pub rule_of : Names → Context → Tree → Option Refusal
rule_of names context node = if is_untested context.role then None else broken_by names context (head_of node) node

-- a refusal is one of a rule of names that the module breaks
abbrev pub BreaksNames : Module → Refusal → Type 0
BreaksNames m = Breaks (rule_of (names_of (nodes_of m))) (nodes_of m)
