-- What the tables of the phase keep, as plain data.
use Rattle.std.specs.Prelude.{ℕ, Bool, ◌&&◌, false, true, if◌then◌else◌, nat_eq, List, Option, None, Some, bytes_eq}
use denote.Bor.{Bor}
use Rattle.std.specs.Option.{option_eq}
use Rattle.indexmap.specs.IndexMap.{get_by}
use Rattle.indexmap.specs.IndexSet.{contains_by}
use Rattle.std.specs.HashSet.{HashSet}
use Rattle.px_names.specs.declared.meanings.Meaning.{Meaning}
use Rattle.px_names.specs.declared.named.Scope.{Scope}
use Rattle.px_names.specs.declared.tables.Key.{Key}
use Rattle.px_names.specs.declared.tables.Tables.{Tables}
use Rattle.px_names.specs.declared.lookups.Lookup.{Lookup}
use Rattle.px_names.specs.Declarations.{Names}

-- what a scope has for the name of a number
abbrev pub meanings_kept : Scope → ℕ → Option Meaning
meanings_kept scope number = get_by (λ kept. nat_eq number kept) scope.meanings

abbrev pub no_meanings : ℕ → Option Meaning
no_meanings number = None

abbrev pub is_key : Option ℕ → List ℕ → Key → Bool
is_key function name key = option_eq nat_eq function key.function && bytes_eq name key.name.now

-- the tables without the module names
abbrev pub names_kept : Tables → Names
names_kept tables = record {
  declared = λ function name. get_by (is_key function name) tables.declared;
  assigned = λ function name. get_by (is_key function name) tables.assigned;
  globals = λ function name. contains_by (is_key function name) tables.globals;
  shared = λ name. false;
  functions = λ name. get_by (λ kept. bytes_eq name kept.now) tables.functions;
  imports = λ name. get_by (λ kept. bytes_eq name kept.now) tables.imports;
}

-- the tables with them
abbrev pub names_in : Lookup → Names
names_in lookup = record {
  declared = (names_kept lookup.tables).declared;
  assigned = (names_kept lookup.tables).assigned;
  globals = (names_kept lookup.tables).globals;
  shared = λ name. contains_by (λ kept. bytes_eq name kept.now) lookup.shared;
  functions = (names_kept lookup.tables).functions;
  imports = (names_kept lookup.tables).imports;
}

-- Keywords that were seen

abbrev pub is_seen : {S : Type 0} → HashSet (Bor (List ℕ)) S → List ℕ → Bool
is_seen seen name = contains_by (λ kept. bytes_eq name kept.now) seen

abbrev pub with_seen : Option (List ℕ) → (List ℕ → Bool) → List ℕ → Bool
with_seen None seen n = seen n
with_seen (Some name) seen n = if bytes_eq name n then true else seen n

abbrev pub is_second_of : Option (List ℕ) → (List ℕ → Bool) → Bool
is_second_of None seen = false
is_second_of (Some name) seen = seen name
