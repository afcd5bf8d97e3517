-- What imports give: `cython`, `cython.parallel`, `cython.view`, and from them `parallel`, `view`, `prange` and `array`.
use Rattle.std.specs.Prelude.{ℕ, Bool, List, [], ◌∷◌, Option, Some, None, is_some, option_map, option_and_then, filter_map, codes, unwrap_or}
use Rattle.std.specs.List.{list_all}
use Rattle.std.specs.Option.{option_to_list}
use Rattle.px_walk.specs.Forms.{Form}
use Rattle.px_walk.specs.Forms as form
use Rattle.px_walk.specs.Roses.{head_of, parts_of}
use Rattle.px_walk.specs.ExprView.{Tree}
use Rattle.px_names.specs.declared.meanings.Imported.{Imported}
use Rattle.px_names.specs.declared.meanings.Imported.TheVariants as import
use Rattle.px_names.specs.Tables.{entry_of}

abbrev pub parts_of_cython : List (List ℕ × Imported)
parts_of_cython = (codes "parallel", import.Parallel) ∷ (codes "view", import.View) ∷ []

abbrev pub parts_of_parallel : List (List ℕ × Imported)
parts_of_parallel = (codes "prange", import.Prange) ∷ []

abbrev pub parts_of_view : List (List ℕ × Imported)
parts_of_view = (codes "array", import.Array) ∷ []

-- the thing of that name in what is imported
abbrev pub member : Imported → List ℕ → Option Imported
member import.Cython name = entry_of parts_of_cython name
member import.Parallel name = entry_of parts_of_parallel name
member import.View name = entry_of parts_of_view name
member import.Prange name = None
member import.Array name = None

abbrev pub top_modules : List (List ℕ × Imported)
top_modules = (codes "cython", import.Cython) ∷ []

-- the module of a dotted name
abbrev pub imported_module : List (List ℕ) → Option Imported
imported_module [] = None
imported_module (top ∷ []) = entry_of top_modules top
imported_module (top ∷ name ∷ []) = option_and_then (λ whole. member whole name) (entry_of top_modules top)
imported_module (top ∷ name ∷ further ∷ names) = None

-- A name with what it stands for here. `import a.b` gives the name `a` with all below it, and `import a.b as c` gives `a.b`
-- the name `c`. What isn't known gives no name.
abbrev pub Given : Type 0
Given = List ℕ × Imported

-- a known dotted name begins with `cython`
abbrev pub whole_given : Option (List ℕ) → Imported → Given
whole_given (Some alias) what = (alias, what)
whole_given None what = (codes "cython", import.Cython)

abbrev pub given_whole : List (List ℕ) → Option (List ℕ) → Option Given
given_whole names alias = option_map (whole_given alias) (imported_module names)

-- the thing of that name in the module of a dotted name
abbrev pub given_name : List (List ℕ) → List ℕ → Option (List ℕ) → Option Given
given_name names name alias =
    option_map (λ what. (unwrap_or alias name, what)) (option_and_then (λ whole. member whole name) (imported_module names))

abbrev pub given_part : List (List ℕ) → Form → Option Given
given_part names (form.ImportedName name alias) = given_name names name alias
given_part names _ = None

abbrev pub given_by : Form → List Tree → List Given
given_by (form.Import is_cimport names alias) parts = option_to_list (given_whole names alias)
given_by (form.ImportFrom is_cimport names) parts = filter_map (λ part. given_part names (head_of part)) parts
given_by _ parts = []

-- the names that a node imports
abbrev pub given : Tree → List Given
given node = given_by (head_of node) (parts_of node)

-- whether all that `from` names is known
abbrev pub are_parts_known : List (List ℕ) → List Tree → Bool
are_parts_known names parts = list_all (λ part. is_some (given_part names (head_of part))) parts
