-- Heads of nodes that are none of those that a rule speaks of. (This file is written by a script.)
use Rattle.std.proofs.Common.{◌≡◌, ℕ, List, Bool, false, Option, None, Bor, refl, sym, ap, ◌∙◌}
use Rattle.px_base.specs.declared.refusals.Span.{Span}
use Rattle.px_base.specs.declared.c_types.BinOp.{BinOp}
use Rattle.px_tree.specs.declared.expressions.CompareOp.{CompareOp}
use Rattle.px_walk.specs.declared.heads.Head.{Head}
use Rattle.px_walk.specs.declared.heads.Head.TheVariants as head
use Rattle.px_walk.specs.declared.heads.FunctionHead.{FunctionHead}
use Rattle.px_walk.specs.Forms.{Form}
use Rattle.px_walk.specs.ExprView.{Tree}
use Rattle.px_walk.specs.HeadForms.{form_of}
use Rattle.px_names.specs.declared.callees.Callee.TheVariants as callee
use Rattle.px_names.specs.declared.contexts.Context.{Context}
use Rattle.px_names.specs.declared.contexts.Role.{Role}
use Rattle.px_names.specs.declared.contexts.Role.TheVariants as role
use Rattle.px_names.specs.declared.meanings.Imported.{Imported}
use Rattle.px_names.specs.Arguments.{keyword_of}
use Rattle.px_names.specs.Contexts.{tested_role, role_below, context_below}
use Rattle.px_names.specs.Declarations.{Names}
use Rattle.px_names.specs.Imports.{given_part}
use Rattle.px_names.specs.NamedModule.{name_use}
use Rattle.px_names.specs.Rules.{broken_by, short_rule, meaning_of_atom, is_none_form, is_identity}
use Rattle.px_names.specs.Steps.{after_form, shared_form}
use Rattle.px_names.specs.Uses.{called_behind, is_call, attribute_in, is_schedule, is_truth_literal}

pub other_broken : (names : Names) (context : Context) (node : Tree) (h : Head)
    → ((text : Bor (List ℕ)) → h ≡ head.Comment text → ⊥)
    → (h ≡ head.Row → ⊥)
    → broken_by names context (form_of h) node ≡ short_rule names context (form_of h) node
other_broken names context node (head.Comment text) no_Comment no_Row = absurd (no_Comment text refl)
other_broken names context node head.Row no_Comment no_Row = absurd (no_Row refl)
other_broken names context node _ no_Comment no_Row = refl

pub other_short : (names : Names) (context : Context) (node : Tree) (h : Head)
    → ((is_cimport : Bool) (dotted : Bor (List (List ℕ))) (alias : Option (Bor (List ℕ))) → h ≡ head.Import is_cimport dotted alias → ⊥)
    → ((is_cimport : Bool) (dotted : Bor (List (List ℕ))) → h ≡ head.ImportFrom is_cimport dotted → ⊥)
    → ((f : FunctionHead) → h ≡ head.Function f → ⊥)
    → ((name : Bor (List ℕ)) (is_not_none : Bool) → h ≡ head.Param name is_not_none → ⊥)
    → ((name : Bor (List ℕ)) → h ≡ head.Declarator name → ⊥)
    → ((spelled : Bor (List (List ℕ))) (name_at : Span) (value : Bool) → h ≡ head.Decorator spelled name_at value → ⊥)
    → ((name : Bor (List ℕ)) → h ≡ head.Raise name → ⊥)
    → (h ≡ head.Declare → ⊥)
    → (h ≡ head.DeclareGroup → ⊥)
    → ((name : Bor (List ℕ)) → h ≡ head.Name name → ⊥)
    → (h ≡ head.Compare → ⊥)
    → short_rule names context (form_of h) node ≡ None
other_short names context node (head.Import is_cimport dotted alias) no_Import no_ImportFrom no_Function no_Param no_Declarator no_Decorator no_Raise no_Declare no_DeclareGroup no_Name no_Compare = absurd (no_Import is_cimport dotted alias refl)
other_short names context node (head.ImportFrom is_cimport dotted) no_Import no_ImportFrom no_Function no_Param no_Declarator no_Decorator no_Raise no_Declare no_DeclareGroup no_Name no_Compare = absurd (no_ImportFrom is_cimport dotted refl)
other_short names context node (head.Function f) no_Import no_ImportFrom no_Function no_Param no_Declarator no_Decorator no_Raise no_Declare no_DeclareGroup no_Name no_Compare = absurd (no_Function f refl)
other_short names context node (head.Param name is_not_none) no_Import no_ImportFrom no_Function no_Param no_Declarator no_Decorator no_Raise no_Declare no_DeclareGroup no_Name no_Compare = absurd (no_Param name is_not_none refl)
other_short names context node (head.Declarator name) no_Import no_ImportFrom no_Function no_Param no_Declarator no_Decorator no_Raise no_Declare no_DeclareGroup no_Name no_Compare = absurd (no_Declarator name refl)
other_short names context node (head.Decorator spelled name_at value) no_Import no_ImportFrom no_Function no_Param no_Declarator no_Decorator no_Raise no_Declare no_DeclareGroup no_Name no_Compare = absurd (no_Decorator spelled name_at value refl)
other_short names context node (head.Raise name) no_Import no_ImportFrom no_Function no_Param no_Declarator no_Decorator no_Raise no_Declare no_DeclareGroup no_Name no_Compare = absurd (no_Raise name refl)
other_short names context node head.Declare no_Import no_ImportFrom no_Function no_Param no_Declarator no_Decorator no_Raise no_Declare no_DeclareGroup no_Name no_Compare = absurd (no_Declare refl)
other_short names context node head.DeclareGroup no_Import no_ImportFrom no_Function no_Param no_Declarator no_Decorator no_Raise no_Declare no_DeclareGroup no_Name no_Compare = absurd (no_DeclareGroup refl)
other_short names context node (head.Name name) no_Import no_ImportFrom no_Function no_Param no_Declarator no_Decorator no_Raise no_Declare no_DeclareGroup no_Name no_Compare = absurd (no_Name name refl)
other_short names context node head.Compare no_Import no_ImportFrom no_Function no_Param no_Declarator no_Decorator no_Raise no_Declare no_DeclareGroup no_Name no_Compare = absurd (no_Compare refl)
other_short names context node _ no_Import no_ImportFrom no_Function no_Param no_Declarator no_Decorator no_Raise no_Declare no_DeclareGroup no_Name no_Compare = refl

pub other_after : (names : Names) (context : Context) (number : ℕ) (parts : List Tree) (h : Head)
    → ((is_cimport : Bool) (dotted : Bor (List (List ℕ))) (alias : Option (Bor (List ℕ))) → h ≡ head.Import is_cimport dotted alias → ⊥)
    → ((is_cimport : Bool) (dotted : Bor (List (List ℕ))) → h ≡ head.ImportFrom is_cimport dotted → ⊥)
    → ((f : FunctionHead) → h ≡ head.Function f → ⊥)
    → ((name : Bor (List ℕ)) (is_not_none : Bool) → h ≡ head.Param name is_not_none → ⊥)
    → ((name : Bor (List ℕ)) → h ≡ head.Declarator name → ⊥)
    → ((globals : Bor (List (List ℕ))) → h ≡ head.Global globals → ⊥)
    → ((name : Bor (List ℕ)) → h ≡ head.Name name → ⊥)
    → after_form names context (form_of h) number parts ≡ names
other_after names context number parts (head.Import is_cimport dotted alias) no_Import no_ImportFrom no_Function no_Param no_Declarator no_Global no_Name = absurd (no_Import is_cimport dotted alias refl)
other_after names context number parts (head.ImportFrom is_cimport dotted) no_Import no_ImportFrom no_Function no_Param no_Declarator no_Global no_Name = absurd (no_ImportFrom is_cimport dotted refl)
other_after names context number parts (head.Function f) no_Import no_ImportFrom no_Function no_Param no_Declarator no_Global no_Name = absurd (no_Function f refl)
other_after names context number parts (head.Param name is_not_none) no_Import no_ImportFrom no_Function no_Param no_Declarator no_Global no_Name = absurd (no_Param name is_not_none refl)
other_after names context number parts (head.Declarator name) no_Import no_ImportFrom no_Function no_Param no_Declarator no_Global no_Name = absurd (no_Declarator name refl)
other_after names context number parts (head.Global globals) no_Import no_ImportFrom no_Function no_Param no_Declarator no_Global no_Name = absurd (no_Global globals refl)
other_after names context number parts (head.Name name) no_Import no_ImportFrom no_Function no_Param no_Declarator no_Global no_Name = absurd (no_Name name refl)
other_after names context number parts _ no_Import no_ImportFrom no_Function no_Param no_Declarator no_Global no_Name = refl

pub other_shared : (names : Names) (context : Context) (h : Head)
    → ((name : Bor (List ℕ)) → h ≡ head.Name name → ⊥)
    → shared_form names context (form_of h) ≡ names
other_shared names context (head.Name name) no_Name = absurd (no_Name name refl)
other_shared names context _ no_Name = refl

pub other_use : (names : Names) (function : Option ℕ) (number : ℕ) (h : Head)
    → ((name : Bor (List ℕ)) → h ≡ head.Name name → ⊥)
    → name_use names function number (form_of h) ≡ None
other_use names function number (head.Name name) no_Name = absurd (no_Name name refl)
other_use names function number _ no_Name = refl

pub other_atom : (names : Names) (function : Option ℕ) (h : Head)
    → ((name : Bor (List ℕ)) → h ≡ head.Name name → ⊥)
    → meaning_of_atom names function (form_of h) ≡ None
other_atom names function (head.Name name) no_Name = absurd (no_Name name refl)
other_atom names function _ no_Name = refl

pub other_role : (r : Role) (k : ℕ) (h : Head)
    → ((comments : ℕ) → h ≡ head.Module comments → ⊥)
    → ((targets : ℕ) → h ≡ head.Assign targets → ⊥)
    → ((op : BinOp) → h ≡ head.Augment op → ⊥)
    → ((arms : ℕ) (has_else : Bool) → h ≡ head.If arms has_else → ⊥)
    → (h ≡ head.Arm → ⊥)
    → (h ≡ head.While → ⊥)
    → (h ≡ head.For → ⊥)
    → (h ≡ head.WithGil → ⊥)
    → (h ≡ head.WithNogil → ⊥)
    → (h ≡ head.Tuple → ⊥)
    → (h ≡ head.Row → ⊥)
    → tested_role r (form_of h) k ≡ role.Value
other_role r k (head.Module comments) no_Module no_Assign no_Augment no_If no_Arm no_While no_For no_WithGil no_WithNogil no_Tuple no_Row = absurd (no_Module comments refl)
other_role r k (head.Assign targets) no_Module no_Assign no_Augment no_If no_Arm no_While no_For no_WithGil no_WithNogil no_Tuple no_Row = absurd (no_Assign targets refl)
other_role r k (head.Augment op) no_Module no_Assign no_Augment no_If no_Arm no_While no_For no_WithGil no_WithNogil no_Tuple no_Row = absurd (no_Augment op refl)
other_role r k (head.If arms has_else) no_Module no_Assign no_Augment no_If no_Arm no_While no_For no_WithGil no_WithNogil no_Tuple no_Row = absurd (no_If arms has_else refl)
other_role r k head.Arm no_Module no_Assign no_Augment no_If no_Arm no_While no_For no_WithGil no_WithNogil no_Tuple no_Row = absurd (no_Arm refl)
other_role r k head.While no_Module no_Assign no_Augment no_If no_Arm no_While no_For no_WithGil no_WithNogil no_Tuple no_Row = absurd (no_While refl)
other_role r k head.For no_Module no_Assign no_Augment no_If no_Arm no_While no_For no_WithGil no_WithNogil no_Tuple no_Row = absurd (no_For refl)
other_role r k head.WithGil no_Module no_Assign no_Augment no_If no_Arm no_While no_For no_WithGil no_WithNogil no_Tuple no_Row = absurd (no_WithGil refl)
other_role r k head.WithNogil no_Module no_Assign no_Augment no_If no_Arm no_While no_For no_WithGil no_WithNogil no_Tuple no_Row = absurd (no_WithNogil refl)
other_role r k head.Tuple no_Module no_Assign no_Augment no_If no_Arm no_While no_For no_WithGil no_WithNogil no_Tuple no_Row = absurd (no_Tuple refl)
other_role r k head.Row no_Module no_Assign no_Augment no_If no_Arm no_While no_For no_WithGil no_WithNogil no_Tuple no_Row = absurd (no_Row refl)
other_role r k _ no_Module no_Assign no_Augment no_If no_Arm no_While no_For no_WithGil no_WithNogil no_Tuple no_Row = refl

pub other_context : (context : Context) (number : ℕ) (k : ℕ) (h : Head)
    → ((f : FunctionHead) → h ≡ head.Function f → ⊥)
    → context_below context (form_of h) number k ≡ record { function = context.function; role = role_below context.role (form_of h) k }
other_context context number k (head.Function f) no_Function = absurd (no_Function f refl)
other_context context number k _ no_Function = refl

pub other_keyword : (h : Head)
    → ((name : Option (Bor (List ℕ))) → h ≡ head.Argument name → ⊥)
    → keyword_of (form_of h) ≡ None
other_keyword (head.Argument name) no_Argument = absurd (no_Argument name refl)
other_keyword _ no_Argument = refl

pub other_behind : (h : Head)
    → ((name : Bor (List ℕ)) → h ≡ head.Attribute name → ⊥)
    → called_behind (form_of h) ≡ callee.Value
other_behind (head.Attribute name) no_Attribute = absurd (no_Attribute name refl)
other_behind _ no_Attribute = refl

pub other_call : (h : Head)
    → (h ≡ head.Call → ⊥)
    → is_call (form_of h) ≡ false
other_call head.Call no_Call = absurd (no_Call refl)
other_call _ no_Call = refl

pub other_attribute : (imported : Imported) (h : Head)
    → ((name : Bor (List ℕ)) → h ≡ head.Attribute name → ⊥)
    → attribute_in imported (form_of h) ≡ None
other_attribute imported (head.Attribute name) no_Attribute = absurd (no_Attribute name refl)
other_attribute imported _ no_Attribute = refl

pub other_schedule : (h : Head)
    → (h ≡ head.None → ⊥)
    → ((contents : Bor (List (List ℕ))) → h ≡ head.Text contents → ⊥)
    → is_schedule (form_of h) ≡ false
other_schedule head.None no_None no_Text = absurd (no_None refl)
other_schedule (head.Text contents) no_None no_Text = absurd (no_Text contents refl)
other_schedule _ no_None no_Text = refl

pub other_truth : (h : Head)
    → (h ≡ head.True → ⊥)
    → (h ≡ head.False → ⊥)
    → is_truth_literal (form_of h) ≡ false
other_truth head.True no_True no_False = absurd (no_True refl)
other_truth head.False no_True no_False = absurd (no_False refl)
other_truth _ no_True no_False = refl

pub other_none : (h : Head)
    → (h ≡ head.None → ⊥)
    → is_none_form (form_of h) ≡ false
other_none head.None no_None = absurd (no_None refl)
other_none _ no_None = refl

pub other_identity : (h : Head)
    → ((op : CompareOp) → h ≡ head.Comparison op → ⊥)
    → is_identity (form_of h) ≡ false
other_identity (head.Comparison op) no_Comparison = absurd (no_Comparison op refl)
other_identity _ no_Comparison = refl

pub other_part : (dotted : List (List ℕ)) (h : Head)
    → ((name : Bor (List ℕ)) (alias : Option (Bor (List ℕ))) → h ≡ head.ImportedName name alias → ⊥)
    → given_part dotted (form_of h) ≡ None
other_part dotted (head.ImportedName name alias) no_ImportedName = absurd (no_ImportedName name alias refl)
other_part dotted _ no_ImportedName = refl

-- what is said of a head is said of the form that it shows

pub from_head : {A : Type 0} (F : Form → A) {h shown : Head} → h ≡ shown → F (form_of shown) ≡ F (form_of h)
from_head F is = ap (λ (other : Head). F (form_of other)) (sym is)

pub at_head : {A : Type 0} (F : Form → A) {h shown : Head} {form : Form} → h ≡ shown → form_of h ≡ form → F (form_of shown) ≡ F form
at_head F is has = from_head F is ∙ ap F has
