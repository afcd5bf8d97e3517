-- Calls, and what else stands behind an atom.
use Rattle.std.specs.Prelude.{ℕ, Bool, true, false, List, [], ◌∷◌, zip, Option, Some, None}
use Rattle.px_base.specs.declared.refusals.Span.{Span}
use Rattle.px_base.specs.declared.objects.Builtin.{Builtin}
use Rattle.px_base.specs.declared.objects.Builtin.TheVariants as builtin
use Rattle.px_tree.specs.declared.typed_heads.TypedHead.TheVariants as head
use Rattle.px_ctypes.specs.Conversions.{promoted}
use Rattle.px_walk.specs.Forms.{Form}
use Rattle.px_walk.specs.Forms as form
use Rattle.px_walk.specs.Roses.{head_of}
use Rattle.px_walk.specs.ExprView.{Tree}
use Rattle.px_typed_walk.specs.TypedView.{TypedRose, typed_node}
use Rattle.px_names.specs.declared.meanings.Meaning.{Meaning}
use Rattle.px_names.specs.declared.meanings.Meaning.TheVariants as meaning
use Rattle.px_operators.specs.Outcomes.{Outcome, refused, unbuilt, followed, mapped, both, all_of, single, only}
use Rattle.px_environments.specs.declared.signatures.Signature.{Signature}
use Rattle.px_environments.specs.Environments.{Environment}
use Rattle.px_operators.specs.Conversions.{fitted_each, as_objects, in_c}
use Rattle.px_operators.specs.Operators.{Operand, operands, of_common}
use Rattle.px_environments.specs.Atoms.{atom_meaning, is_value}

-- each argument becomes one of the type of its parameter, and the call gives the type of the result
abbrev pub function_call : Option Signature → ℕ → Span → List (Outcome TypedRose) → Outcome TypedRose
function_call None number at arguments = unbuilt at
function_call (Some f) number at arguments =
    mapped (λ values. typed_node (head.Call f.place f.gives) number at values) (fitted_each f.params arguments)

-- `abs` of a C operand has the promoted type
abbrev pub abs_step : ℕ → Span → Operand → TypedRose
abs_step number at (tree, t) = typed_node (head.Abs (promoted t)) number at (in_c (promoted t) (tree, t) ∷ [])

abbrev pub abs_of : ℕ → Span → List Operand → Outcome TypedRose
abs_of number at operands = mapped (abs_step number at) (single at operands)

-- `print` takes objects and gives None
abbrev pub print_of : ℕ → Span → List (Outcome TypedRose) → Outcome TypedRose
print_of number at arguments =
    mapped (λ values. typed_node (head.Builtin builtin.Print) number at values) (as_objects arguments)

-- `min` and `max` of two or more C operands have their common type
abbrev pub builtin_call : Builtin → ℕ → Span → List (Outcome TypedRose) → Outcome TypedRose
builtin_call builtin.Print number at arguments = print_of number at arguments
builtin_call builtin.Abs number at arguments = followed (operands arguments) (abs_of number at)
builtin_call builtin.Min number at arguments = followed (operands arguments) (of_common head.Min number at)
builtin_call builtin.Max number at arguments = followed (operands arguments) (of_common head.Max number at)
builtin_call _ number at arguments = unbuilt at

-- a call of what a name stands for
abbrev pub named_call : Environment → Meaning → ℕ → Span → List (Outcome TypedRose) → Outcome TypedRose
named_call environment (meaning.Function f params) number at arguments = function_call (environment.functions f) number at arguments
named_call environment (meaning.Builtin b) number at arguments = builtin_call b number at arguments
named_call environment _ number at arguments = unbuilt at

-- A trailer with what its parts come to.
abbrev pub Trailer : Type 0
Trailer = Tree × List (Outcome TypedRose)

-- a value isn't called
abbrev pub behind_value : Span → Form → Outcome TypedRose
behind_value at form.Call = refused at
behind_value at _ = unbuilt at

abbrev pub behind_one : Span → Outcome TypedRose → Trailer → Outcome TypedRose
behind_one at so_far (trailer, parts) =
    mapped (λ found. found.0) (both (followed so_far (λ _. behind_value at (head_of trailer))) (all_of parts))

abbrev pub behind : Span → Outcome TypedRose → List Trailer → Outcome TypedRose
behind at so_far [] = so_far
behind at so_far (trailer ∷ trailers) = behind at (behind_one at so_far trailer) trailers

-- what a row begins with where its atom isn't a value
abbrev pub first_call : Environment → Option Meaning → ℕ → Span → List (Outcome TypedRose) → Outcome TypedRose
first_call environment None number at parts = unbuilt at
first_call environment (Some what) number at parts = named_call environment what number at parts

abbrev pub named_row : Environment → Option Meaning → ℕ → Span → List Trailer → Outcome TypedRose
named_row environment what number at [] = unbuilt at
named_row environment what number at ((trailer, parts) ∷ trailers) =
    behind at (first_call environment what number at parts) trailers

abbrev pub value_row : Span → List (Outcome TypedRose) → List Trailer → Outcome TypedRose
value_row at atom trailers = behind at (only at atom) trailers

abbrev pub row_by : Bool → Environment → Option Meaning → ℕ → Span → List (Outcome TypedRose) → List Trailer
    → Outcome TypedRose
row_by true environment what number at atom trailers = value_row at atom trailers
row_by false environment what number at atom trailers = named_row environment what number at trailers

-- the parts of a row are its atom and the trailers
abbrev pub row_of : Environment → ℕ → Span → List Tree → List (List (Outcome TypedRose)) → Outcome TypedRose
row_of environment number at (atom ∷ trailers) (outcomes ∷ others) =
    row_by (is_value (atom_meaning environment atom)) environment (atom_meaning environment atom) number at outcomes
    (zip trailers others)
row_of environment number at _ _ = unbuilt at
