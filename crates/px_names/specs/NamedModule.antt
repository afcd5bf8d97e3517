-- What the phase of names gives: what each name stands for, and the directives of each piece of code.
use Rattle.std.specs.Prelude.{◌≡◌, ℕ, Bool, ◌&&◌, not, if◌then◌else◌, nat_eq, List, Option, Some, None, option_map, filter_map, flat_map, fold}
use Rattle.std.specs.List.{last_or, AllZip}
use Rattle.std.specs.Option.{option_eq}
use Rattle.px_tree.specs.declared.modules.Comment.{Comment}
use Rattle.px_tree.specs.declared.modules.Decorator.{Decorator}
use Rattle.px_tree.specs.declared.modules.Function.{Function}
use Rattle.px_tree.specs.declared.modules.Module.{Module}
use Rattle.px_tree.specs.declared.modules.ModuleItem.{ModuleItem}
use Rattle.px_tree.specs.declared.modules.ModuleItem.TheVariants as item
use Rattle.px_walk.specs.Forms.{Form}
use Rattle.px_walk.specs.Forms as form
use Rattle.px_walk.specs.Roses.{head_of, number_of, occurrences}
use Rattle.px_walk.specs.ModuleView.{rose_of_function}
use Rattle.px_names.specs.declared.contexts.Context.{Context}
use Rattle.px_names.specs.declared.meanings.Meaning.{Meaning}
use Rattle.px_names.specs.declared.settings.Directives.{Directives}
use Rattle.px_names.specs.declared.named.NamedCode.{NamedCode}
use Rattle.px_names.specs.declared.named.Named.{Named}
use Rattle.px_names.specs.Contexts.{Node, module_code, down, nodes_of}
use Rattle.px_names.specs.Declarations.{Names, names_of}
use Rattle.px_names.specs.Meanings.{meaning_of}
use Rattle.px_names.specs.Comments.{Setting, pairs_of, setting_of, with_setting, directives_by}
use Rattle.px_names.specs.Rules.{directive_of, is_untested}
use Rattle.px_names.specs.Kept.{meanings_kept}

-- Names: the number of each that is read, called or assigned in a function, or else in module code, with what it stands for there

abbrev pub Use : Type 0
Use = ℕ × Meaning

abbrev pub meaning_use : ℕ → Option Meaning → Option Use
meaning_use number found = option_map (λ what. (number, what)) found

abbrev pub name_use : Names → Option ℕ → ℕ → Form → Option Use
name_use names function number (form.Name name) = meaning_use number (meaning_of names function name)
name_use names function number _ = None

abbrev pub is_there : Option ℕ → Context → Bool
is_there function context = not (is_untested context.role) && option_eq nat_eq function context.function

abbrev pub use_in : Names → Option ℕ → Node → Option Use
use_in names function node =
    if is_there function node.0 then name_use names function (number_of node.1) (head_of node.1) else None

abbrev pub uses_in : Names → Option ℕ → List Node → List Use
uses_in names function nodes = filter_map (use_in names function) nodes

-- what the name of a number stands for, of several the last
abbrev pub use_numbered : List Use → ℕ → Option Meaning
use_numbered uses number = last_or None (filter_map (λ entry. if nat_eq number entry.0 then Some entry.1 else None) uses)

-- Directives: those of the leading comments count for the whole module, and decorators set them for a function

abbrev pub settings_of_comment : Comment → List Setting
settings_of_comment comment = filter_map setting_of (pairs_of comment.text)

abbrev pub module_directives : Module → Directives
module_directives m = directives_by (flat_map settings_of_comment m.comments)

abbrev pub setting_of_decorator : Names → Decorator → Option Setting
setting_of_decorator names decorator = option_map (λ d. (d, decorator.value)) (directive_of names decorator.name)

-- in a module with these
abbrev pub function_directives : Names → Directives → Function → Directives
function_directives names directives f = fold with_setting directives (filter_map (setting_of_decorator names) f.decorators)

-- The code of a function, or else of a module, with these nodes and directives

pub record IsCode (names : Names) (function : Option ℕ) (nodes : List Node) (directives : Directives) (code : NamedCode) : Type 0 where
  pub scope : meanings_kept code.scope ≡ use_numbered (uses_in names function nodes)
  pub set : code.directives ≡ directives

abbrev pub IsFunctionCode : Names → Directives → Function → NamedCode → Type 0
IsFunctionCode names directives f code =
    IsCode names (Some f.number) (occurrences down module_code (rose_of_function f)) (function_directives names directives f) code

abbrev pub function_item : ModuleItem → Option Function
function_item (item.Import imported) = None
function_item (item.Function f) = Some f
function_item (item.Statement s) = None

-- the functions of a module, in the order of the text
abbrev pub functions_of : Module → List Function
functions_of m = filter_map function_item m.items

-- a module with what its names stand for, and with its directives
pub record IsNamed (m : Module) (named : Named) : Type 0 where
  pub kept : named.«module» ≡ m
  pub code : IsCode (names_of (nodes_of m)) None (nodes_of m) (module_directives m) named.code
  pub functions : AllZip (IsFunctionCode (names_of (nodes_of m)) (module_directives m)) (functions_of m) named.functions
