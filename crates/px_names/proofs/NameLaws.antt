-- In a module that breaks no rule of names each name has one declaration.
use Rattle.std.proofs.Common.{◌≡◌, ℕ, List, [], ◌∷◌, Bool, true, false, cond, Option, Some, None, refl, sym, ap, ◌∙◌}
use Rattle.std.specs.Prelude.{Contains, is_some, unwrap_or}
use Rattle.std.specs.List.{AllZip}
use Rattle.std.proofs.lemmas.Bool.{false≢true, eqb-true}
use Rattle.px_base.specs.declared.refusals.Refusal.{Refusal}
use Rattle.px_base.specs.declared.refusals.Span.{Span}
use Rattle.px_tree.specs.declared.modules.Module.{Module}
use Rattle.px_walk.specs.Forms.{Form}
use Rattle.px_walk.specs.Forms as form
use Rattle.px_walk.specs.Roses.{head_of, number_of, at_of}
use Rattle.px_walk.specs.ExprView.{Tree}
use Rattle.px_names.specs.declared.contexts.Role.{Role}
use Rattle.px_names.specs.declared.contexts.Role.TheVariants as role
use Rattle.px_names.specs.declared.contexts.Context.{Context}
use Rattle.px_names.specs.declared.meanings.Meaning.{Meaning}
use Rattle.px_names.specs.declared.tables.Declared.{Declared}
use Rattle.px_names.specs.declared.tables.Defined.{Defined}
use Rattle.px_names.specs.declared.named.NamedCode.{NamedCode}
use Rattle.px_names.specs.declared.named.Named.{Named}
use Rattle.px_names.specs.Contexts.{Node, nodes_of}
use Rattle.px_names.specs.Declarations.{Names, declares, defines, names_of}
use Rattle.px_names.specs.Meanings.{meaning_of}
use Rattle.px_walk.specs.Roses.{occurrences}
use Rattle.px_walk.specs.ModuleView.{rose_of_function}
use Rattle.px_names.specs.declared.settings.Directives.{Directives}
use Rattle.px_names.specs.Contexts.{module_code, down}
use Rattle.px_names.specs.NamedModule.{IsCode, IsFunctionCode, IsNamed, functions_of, function_directives, module_directives}
use Rattle.px_names.specs.Uses.{unless}
use Rattle.px_names.specs.Rules.{is_declaration, is_definition, is_untested, name_refusal, broken_by, rule_of}
use Rattle.px_names.specs.Laws.{IsAccepted, is_read, DeclaresName, DefinesName, AreNamesKnown, AreDeclarationsSingle, AreFunctionsSingle, IsSameCode, IsSameNamed}
use Rattle.px_names.proofs.MapSteps.{equal}

-- ---- what isn't broken

holds : (b : Bool) (number : ℕ) (at : Span) → unless b number at ≡ None → b ≡ true
holds true number at is = refl
holds false number at is = absurd (false≢true (sym (ap (λ (o : Option Refusal). is_some o) is)))

nothing : (o : Option Refusal) → ((r : Refusal) → o ≡ Some r → ⊥) → o ≡ None
nothing None never = refl
nothing (Some r) never = absurd (never r refl)

-- a node breaks no rule
clean : (m : Module) → IsAccepted m → (node : Node) → Contains (nodes_of m) node → rule_of (names_of (nodes_of m)) node.0 node.1 ≡ None
clean m accepted node occurs =
    nothing (rule_of (names_of (nodes_of m)) node.0 node.1) (λ r is. accepted r (node, occurs, is))

judged : (names : Names) (context : Context) (node : Tree) → is_untested context.role ≡ false → rule_of names context node ≡ broken_by names context (head_of node) node
judged names context node is = ap (λ b. cond b None (broken_by names context (head_of node) node)) is

unbroken : (m : Module) → IsAccepted m → (node : Node) → Contains (nodes_of m) node → is_untested node.0.role ≡ false
    → broken_by (names_of (nodes_of m)) node.0 (head_of node.1) node.1 ≡ None
unbroken m accepted node occurs is = sym (judged (names_of (nodes_of m)) node.0 node.1 is) ∙ clean m accepted node occurs

-- ---- names that are read

read_tested : (r : Role) → is_read r ≡ true → is_untested r ≡ false
read_tested role.Body is = refl
read_tested role.Block is = refl
read_tested role.Target is = refl
read_tested role.Value is = refl
read_tested role.Head is = refl
read_tested role.Atom is = refl
read_tested role.Untested is = absurd (false≢true is)

unknown : (at : Span) → unless false 10 at ≡ None → ⊥
unknown at is = false≢true (sym (ap (λ (o : Option Refusal). is_some o) is))

read_known : (r : Role) (found : Option Meaning) (at : Span) → is_read r ≡ true → name_refusal r found at ≡ None → is_some found ≡ true
read_known r (Some what) at is none = refl
read_known role.Body None at is none = absurd (unknown at none)
read_known role.Block None at is none = absurd (unknown at none)
read_known role.Target None at is none = absurd (false≢true is)
read_known role.Value None at is none = absurd (unknown at none)
read_known role.Head None at is none = absurd (unknown at none)
read_known role.Atom None at is none = absurd (unknown at none)
read_known role.Untested None at is none = absurd (false≢true is)

pub names_known : (m : Module) → IsAccepted m → AreNamesKnown m
names_known m accepted node name reads =
    let names = names_of (nodes_of m) in
    let none : broken_by names node.0 (form.Name name) node.1 ≡ None =
    ap (λ (h : Form). broken_by names node.0 h node.1) (sym reads.spelled) ∙ unbroken m accepted node reads.occurs (read_tested node.0.role reads.read) in
    read_known node.0.role (meaning_of names node.0.function name) (at_of node.1) reads.read none

-- ---- declarations

declared_first : (names : Names) (context : Context) (name : List ℕ) (node : Tree) (h : Form) → declares name h ≡ true → broken_by names context h node ≡ None
    → is_declaration (names.declared context.function name) (number_of node) ≡ true
declared_first names context name node (form.Param other is_not_none) is none =
    ap (λ (n : List ℕ). is_declaration (names.declared context.function n) (number_of node)) (equal name other is)
    ∙ holds (is_declaration (names.declared context.function other) (number_of node)) 11 (at_of node) none
declared_first names context name node (form.Declarator other) is none =
    ap (λ (n : List ℕ). is_declaration (names.declared context.function n) (number_of node)) (equal name other is)
    ∙ holds (is_declaration (names.declared context.function other) (number_of node)) 11 (at_of node) none
declared_first names context name node _ is none = absurd (false≢true is)

one_declaration : (o : Option Declared) (a b : ℕ) → is_declaration o a ≡ true → is_declaration o b ≡ true → a ≡ b
one_declaration None a b first also = absurd (false≢true first)
one_declaration (Some declared) a b first also = sym (eqb-true declared.number a first) ∙ eqb-true declared.number b also

declared_here : (m : Module) → IsAccepted m → (function : Option ℕ) (node : Node) (name : List ℕ) → DeclaresName m function node name
    → is_declaration ((names_of (nodes_of m)).declared function name) (number_of node.1) ≡ true
declared_here m accepted function node name declares =
    let names = names_of (nodes_of m) in
    ap (λ (f : Option ℕ). is_declaration (names.declared f name) (number_of node.1)) (sym declares.within)
    ∙ declared_first names node.0 name node.1 (head_of node.1) declares.spelled (unbroken m accepted node declares.occurs declares.judged)

pub declarations_single : (m : Module) → IsAccepted m → AreDeclarationsSingle m
declarations_single m accepted function a b name first also =
    one_declaration ((names_of (nodes_of m)).declared function name) (number_of a.1) (number_of b.1)
    (declared_here m accepted function a name first) (declared_here m accepted function b name also)

-- ---- functions

defined_first : (names : Names) (context : Context) (name : List ℕ) (node : Tree) (h : Form) → defines name h ≡ true → broken_by names context h node ≡ None
    → is_definition (names.functions name) (number_of node) ≡ true
defined_first names context name node (form.Function f) is none =
    ap (λ (n : List ℕ). is_definition (names.functions n) (number_of node)) (equal name f.name is)
    ∙ holds (is_definition (names.functions f.name) (number_of node)) 11 (at_of node) none
defined_first names context name node _ is none = absurd (false≢true is)

one_definition : (o : Option Defined) (a b : ℕ) → is_definition o a ≡ true → is_definition o b ≡ true → a ≡ b
one_definition None a b first also = absurd (false≢true first)
one_definition (Some defined) a b first also = sym (eqb-true defined.number a first) ∙ eqb-true defined.number b also

defined_here : (m : Module) → IsAccepted m → (node : Node) (name : List ℕ) → DefinesName m node name
    → is_definition ((names_of (nodes_of m)).functions name) (number_of node.1) ≡ true
defined_here m accepted node name defines =
    defined_first (names_of (nodes_of m)) node.0 name node.1 (head_of node.1) defines.spelled (unbroken m accepted node defines.occurs defines.judged)

pub functions_single : (m : Module) → IsAccepted m → AreFunctionsSingle m
functions_single m accepted a b name first also =
    one_definition ((names_of (nodes_of m)).functions name) (number_of a.1) (number_of b.1)
    (defined_here m accepted a name first) (defined_here m accepted b name also)

-- ---- one thing at most

pub one_thing : (o : Option Meaning) (a b : Meaning) → o ≡ Some a → o ≡ Some b → a ≡ b
one_thing o a b first also = some_same (sym first ∙ also)
  where
    some_same : Some a ≡ Some b → a ≡ b
    some_same is = ap (λ (x : Option Meaning). unwrap_or x a) is

same_code : (names : Names) (function : Option ℕ) (nodes : List Node) (set : Directives) (a b : NamedCode)
    → IsCode names function nodes set a → IsCode names function nodes set b → IsSameCode a b
same_code names function nodes set a b first also = record { scope = first.scope ∙ sym also.scope; set = first.set ∙ sym also.set }

zip_both : {A B : Type 0} (R : A → B → Type 0) (S : B → B → Type 0) → ((x : A) (a b : B) → R x a → R x b → S a b)
    → (xs : List A) (firsts others : List B) → AllZip R xs firsts → AllZip R xs others → AllZip S firsts others
zip_both R S one [] [] [] first also = tt
zip_both R S one [] [] (b ∷ others) first also = absurd also
zip_both R S one [] (a ∷ firsts) others first also = absurd first
zip_both R S one (x ∷ xs) [] others first also = absurd first
zip_both R S one (x ∷ xs) (a ∷ firsts) [] first also = absurd also
zip_both R S one (x ∷ xs) (a ∷ firsts) (b ∷ others) first also = (one x a b first.0 also.0, zip_both R S one xs firsts others first.1 also.1)

pub same_named : (m : Module) (a b : Named) → IsNamed m a → IsNamed m b → IsSameNamed a b
same_named m a b first also =
    let names = names_of (nodes_of m) in
    record {
      kept = first.kept ∙ sym also.kept;
      code = same_code names None (nodes_of m) (module_directives m) a.code b.code first.code also.code;
      functions = zip_both (IsFunctionCode names (module_directives m)) IsSameCode
          (λ f x y. same_code names (Some f.number) (occurrences down module_code (rose_of_function f)) (function_directives names (module_directives m) f) x y)
          (functions_of m) a.functions b.functions first.functions also.functions;
    }
