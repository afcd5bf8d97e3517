-- What a name stands for. A function's parameters, its declared variables and the names that it assigns without `global` are
-- its locals. All other names are module names, functions, imports or builtins, in this order.
use Rattle.std.specs.Prelude.{ℕ, if◌then◌else◌, List, [], ◌∷◌, Option, Some, None, codes, option_map}
use Rattle.std.specs.Option.{option_or}
use Rattle.px_base.specs.declared.objects.Builtin.{Builtin}
use Rattle.px_base.specs.declared.objects.Builtin.TheVariants as builtin
use Rattle.px_names.specs.declared.meanings.LocalKind.TheVariants as local
use Rattle.px_names.specs.declared.meanings.Meaning.{Meaning}
use Rattle.px_names.specs.declared.meanings.Meaning.TheVariants as meaning
use Rattle.px_names.specs.declared.tables.Declared.{Declared}
use Rattle.px_names.specs.declared.tables.Defined.{Defined}
use Rattle.px_names.specs.Declarations.{Names}
use Rattle.px_names.specs.Tables.{entry_of}

-- Locals

abbrev pub local_declared : Declared → Meaning
local_declared declared = meaning.Local declared.number declared.kind

abbrev pub local_assigned : ℕ → Meaning
local_assigned number = meaning.Local number local.Assigned

abbrev pub own_assigned : Names → Option ℕ → List ℕ → Option Meaning
own_assigned names function name =
    if names.globals function name then None else option_map local_assigned (names.assigned function name)

abbrev pub own_of : Names → Option ℕ → List ℕ → Option Meaning
own_of names function name = option_or (option_map local_declared (names.declared function name)) (own_assigned names function name)

abbrev pub local_of : Names → Option ℕ → List ℕ → Option Meaning
local_of names None name = None
local_of names (Some function) name = own_of names (Some function) name

-- Names of the whole module

abbrev pub function_meaning : Defined → Meaning
function_meaning defined = meaning.Function defined.number defined.params

abbrev pub builtins : List (List ℕ × Builtin)
builtins =
    (codes "print", builtin.Print) ∷ (codes "input", builtin.Input) ∷ (codes "len", builtin.Len) ∷ (codes "int", builtin.Int)
    ∷ (codes "str", builtin.Str) ∷ (codes "repr", builtin.Repr) ∷ (codes "bool", builtin.Bool) ∷ (codes "list", builtin.List)
    ∷ (codes "tuple", builtin.Tuple) ∷ (codes "abs", builtin.Abs) ∷ (codes "min", builtin.Min) ∷ (codes "max", builtin.Max)
    ∷ (codes "range", builtin.Range) ∷ []

-- what a name stands for in module code
abbrev pub module_meaning_of : Names → List ℕ → Option Meaning
module_meaning_of names name =
    option_or (if names.shared name then Some meaning.Module else None)
    (option_or (option_map function_meaning (names.functions name))
    (option_or (option_map meaning.Import (names.imports name)) (option_map meaning.Builtin (entry_of builtins name))))

-- what it stands for in a function, or else in module code; nothing where it is unknown
abbrev pub meaning_of : Names → Option ℕ → List ℕ → Option Meaning
meaning_of names function name = option_or (local_of names function name) (module_meaning_of names name)
