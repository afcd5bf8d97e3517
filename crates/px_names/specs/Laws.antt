-- Laws of names: each occurrence has one declaration at most, and in a module that breaks no rule of names exactly one.
use Rattle.std.specs.Prelude.{◌≡◌, ℕ, Bool, true, false, List, Contains, Option, None, is_some}
use Rattle.std.specs.List.{AllZip}
use Rattle.px_base.specs.Findings.{IsFirst}
use Rattle.px_tree.specs.declared.modules.Module.{Module}
use Rattle.px_walk.specs.Forms.{Form}
use Rattle.px_walk.specs.Forms as form
use Rattle.px_walk.specs.Roses.{head_of, number_of}
use Rattle.px_names.specs.declared.contexts.Role.{Role}
use Rattle.px_names.specs.declared.contexts.Role.TheVariants as role
use Rattle.px_names.specs.declared.named.NamedCode.{NamedCode}
use Rattle.px_names.specs.declared.named.Named.{Named}
use Rattle.px_names.specs.Contexts.{Node, nodes_of}
use Rattle.px_names.specs.Declarations.{declares, defines, names_of}
use Rattle.px_names.specs.Meanings.{meaning_of}
use Rattle.px_names.specs.Rules.{is_untested, BreaksNames}
use Rattle.px_names.specs.Kept.{meanings_kept}

abbrev pub IsAccepted : Module → Type 0
IsAccepted m = IsFirst (BreaksNames m) None

-- whether a name in this role is read or called
abbrev pub is_read : Role → Bool
is_read role.Target = false
is_read role.Untested = false
is_read _ = true

-- a node of the module that is this name, and is read or called
pub record ReadsName (m : Module) (node : Node) (name : List ℕ) : Type 0 where
  pub occurs : Contains (nodes_of m) node
  pub read : is_read node.0.role ≡ true
  pub spelled : head_of node.1 ≡ form.Name name

-- a node of the module that declares this name as a parameter or a variable in this function, or else in module code
pub record DeclaresName (m : Module) (function : Option ℕ) (node : Node) (name : List ℕ) : Type 0 where
  pub occurs : Contains (nodes_of m) node
  pub judged : is_untested node.0.role ≡ false
  pub within : node.0.function ≡ function
  pub spelled : declares name (head_of node.1) ≡ true

-- a node of the module that is a function of this name
pub record DefinesName (m : Module) (node : Node) (name : List ℕ) : Type 0 where
  pub occurs : Contains (nodes_of m) node
  pub judged : is_untested node.0.role ≡ false
  pub spelled : defines name (head_of node.1) ≡ true

-- each name that is read or called stands for something
abbrev pub AreNamesKnown : Module → Type 0
AreNamesKnown m = (node : Node) (name : List ℕ) → ReadsName m node name
    → is_some (meaning_of (names_of (nodes_of m)) node.0.function name) ≡ true

-- no name is declared twice in one function, and there is no second function of a name
abbrev pub AreDeclarationsSingle : Module → Type 0
AreDeclarationsSingle m = (function : Option ℕ) (a b : Node) (name : List ℕ) → DeclaresName m function a name → DeclaresName m function b name
    → number_of a.1 ≡ number_of b.1

abbrev pub AreFunctionsSingle : Module → Type 0
AreFunctionsSingle m = (a b : Node) (name : List ℕ) → DefinesName m a name → DefinesName m b name → number_of a.1 ≡ number_of b.1

-- the same names stand for the same, under the same directives
pub record IsSameCode (a b : NamedCode) : Type 0 where
  pub scope : meanings_kept a.scope ≡ meanings_kept b.scope
  pub set : a.directives ≡ b.directives

pub record IsSameNamed (a b : Named) : Type 0 where
  pub kept : a.«module» ≡ b.«module»
  pub code : IsSameCode a.code b.code
  pub functions : AllZip IsSameCode a.functions b.functions
