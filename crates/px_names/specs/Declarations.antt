-- What the text of a module says of a name: how functions and module code declare and assign it, and which functions and imports
-- give it.
use Rattle.std.specs.Prelude.{ℕ, Bool, true, false, ◌&&◌, not, if◌then◌else◌, nat_eq, List, Option, Some, None, is_some, option_map, bytes_eq, find, flat_map, filter_map}
use Rattle.std.specs.List.{list_any, last_or}
use Rattle.std.specs.Option.{option_eq}
use Rattle.px_walk.specs.Forms.{Form}
use Rattle.px_walk.specs.Forms as form
use Rattle.px_walk.specs.Roses.{head_of, number_of}
use Rattle.px_names.specs.declared.contexts.Role.{Role}
use Rattle.px_names.specs.declared.contexts.Role.TheVariants as role
use Rattle.px_names.specs.declared.meanings.LocalKind.{LocalKind}
use Rattle.px_names.specs.declared.meanings.LocalKind.TheVariants as local
use Rattle.px_names.specs.declared.meanings.Imported.{Imported}
use Rattle.px_names.specs.declared.tables.Declared.{Declared}
use Rattle.px_names.specs.declared.tables.Defined.{Defined}
use Rattle.px_names.specs.Contexts.{Node}
use Rattle.px_names.specs.Imports.{given}

-- what is said of each name: first of a name in a function, or else in module code, then of one in the whole module
pub record Names : Type 0 where
  -- its first declaration
  pub declared : Option ℕ → List ℕ → Option Declared
  -- the number of the first name that assigns it
  pub assigned : Option ℕ → List ℕ → Option ℕ
  -- whether `global` has it, wherever it stands there
  pub globals : Option ℕ → List ℕ → Bool
  -- whether it is a name of the module
  pub shared : List ℕ → Bool
  -- its first function
  pub functions : List ℕ → Option Defined
  -- what its last import gives
  pub imports : List ℕ → Option Imported

-- Declarations: parameters and `cdef` variables

-- whether a node is in the parameters or the body of this function, or else in module code
abbrev pub is_in : Option ℕ → Node → Bool
is_in function node = option_eq nat_eq function node.0.function

abbrev pub declares : List ℕ → Form → Bool
declares name (form.Param other is_not_none) = bytes_eq name other
declares name (form.Declarator other) = bytes_eq name other
declares name _ = false

abbrev pub kind_of : Form → LocalKind
kind_of (form.Param name is_not_none) = local.Parameter
kind_of _ = local.Variable

abbrev pub declaration : Node → Declared
declaration node = record { number = number_of node.1; kind = kind_of (head_of node.1) }

abbrev pub first_declared : List Node → Option ℕ → List ℕ → Option Declared
first_declared nodes function name =
    option_map declaration (find (λ node. is_in function node && declares name (head_of node.1)) nodes)

-- Assignments: targets of `=`, `op=` and `for`, alone or among several. The variable of a subscript is read.

abbrev pub is_target : Role → Bool
is_target role.Target = true
is_target _ = false

abbrev pub is_name : List ℕ → Form → Bool
is_name name (form.Name other) = bytes_eq name other
is_name name _ = false

abbrev pub assigns : List ℕ → Node → Bool
assigns name node = is_target node.0.role && is_name name (head_of node.1)

abbrev pub first_assigned : List Node → Option ℕ → List ℕ → Option ℕ
first_assigned nodes function name =
    option_map (λ node. number_of node.1) (find (λ node. is_in function node && assigns name node) nodes)

-- `global`

abbrev pub makes_global : List ℕ → Form → Bool
makes_global name (form.Global names) = list_any (λ other. bytes_eq name other) names
makes_global name _ = false

abbrev pub is_global : List Node → Option ℕ → List ℕ → Bool
is_global nodes function name = list_any (λ node. is_in function node && makes_global name (head_of node.1)) nodes

-- A module name is one that module code assigns, or a function with `global`; parameters and declared variables stay locals.

abbrev pub is_assigned_outside : Bool → Option Declared → Option ℕ → Bool
is_assigned_outside has_global declared None = true
is_assigned_outside has_global declared (Some function) = has_global && not (is_some declared)

abbrev pub is_shared : List Node → List ℕ → Bool
is_shared nodes name =
    list_any (λ node. assigns name node
    && is_assigned_outside (is_global nodes node.0.function name) (first_declared nodes node.0.function name) node.0.function) nodes

-- Functions and imports

abbrev pub defines : List ℕ → Form → Bool
defines name (form.Function f) = bytes_eq name f.name
defines name _ = false

abbrev pub count_of_params : Form → ℕ
count_of_params (form.Function f) = f.params
count_of_params _ = 0

abbrev pub definition : Node → Defined
definition node = record { number = number_of node.1; params = count_of_params (head_of node.1) }

abbrev pub first_function : List Node → List ℕ → Option Defined
first_function nodes name = option_map definition (find (λ node. defines name (head_of node.1)) nodes)

abbrev pub last_import : List Node → List ℕ → Option Imported
last_import nodes name =
    last_or None (filter_map (λ entry. if bytes_eq name entry.0 then Some entry.1 else None) (flat_map (λ node. given node.1) nodes))

-- what the nodes of a module say
abbrev pub names_of : List Node → Names
names_of nodes = record {
  declared = first_declared nodes;
  assigned = first_assigned nodes;
  globals = is_global nodes;
  shared = is_shared nodes;
  functions = first_function nodes;
  imports = last_import nodes;
}
