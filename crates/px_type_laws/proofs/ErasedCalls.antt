-- Calls once they are erased, and what else stands behind an atom.
use Rattle.std.proofs.Common.{◌≡◌, ℕ, List, [], ◌∷◌, sym, ap, ◌∙◌}
use Rattle.std.specs.Prelude.{Bool, true, false, zip, Option, Some, None, Ok}
use Rattle.std.specs.List.{AllZip}
use Rattle.px_base.specs.declared.refusals.Span.{Span}
use Rattle.px_base.specs.declared.objects.Builtin.{Builtin}
use Rattle.px_base.specs.declared.objects.Builtin.TheVariants as builtin
use Rattle.px_ctypes.specs.Conversions.{promoted}
use Rattle.px_tree.specs.declared.typed_heads.TypedHead.TheVariants as head
use Rattle.px_walk.specs.Forms.{Form}
use Rattle.px_walk.specs.Forms as form
use Rattle.px_walk.specs.Roses.{Roses, none, more, listed, head_of}
use Rattle.px_walk.specs.ExprView.{Tree}
use Rattle.px_typed_walk.specs.TypedView.{TypedRose, typed_node}
use Rattle.px_names.specs.declared.meanings.Meaning.{Meaning}
use Rattle.px_names.specs.declared.meanings.Meaning.TheVariants as meaning
use Rattle.px_operators.specs.Outcomes.{Outcome, followed, both, all_of, single, only}
use Rattle.px_operators.specs.Conversions.{fitted_each, as_objects, in_c}
use Rattle.px_operators.specs.Operators.{Operand, operands, of_common}
use Rattle.px_environments.specs.declared.signatures.Signature.{Signature}
use Rattle.px_environments.specs.Environments.{Environment}
use Rattle.px_environments.specs.Atoms.{atom_meaning, is_value}
use Rattle.px_typed_expressions.specs.Calls.{function_call, abs_step, abs_of, builtin_call, Trailer, behind_value, behind_one, behind, first_call, named_row, value_row, row_by, row_of}
use Rattle.px_typed_expressions.specs.Expressions.{operands_below, operands_each}
use Rattle.px_type_laws.specs.PlainForms.{PlainForm, PlainTree, written, call, called, call_row}
use Rattle.px_type_laws.specs.PlainForms as plain
use Rattle.px_type_laws.specs.Erased.{erased}
use Rattle.px_type_laws.specs.BareExpressions.{name_of_function, name_meant, for_parameters, arguments_for, bare_named_row, bare_value_row, bare_row_by, bare_row}
use Rattle.px_type_laws.proofs.OutcomeParts.{followed_ok, mapped_ok, both_ok, single_ok}
use Rattle.px_type_laws.proofs.Agreements.{Agrees, Agree, only_shown}
use Rattle.px_type_laws.proofs.ErasedNodes.{node_erased, in_c_erased, operands_erased, operands_shown, objects_shown, fitted_each_shown}
use Rattle.px_type_laws.proofs.ErasedOperators.{min_erased, max_erased}

-- ---- calls of functions and builtins

function_erased : (name : Form) (f : Option Signature) (number : ℕ) (at : Span) (outcomes : List (Outcome TypedRose)) (trees : List PlainTree) (typed : TypedRose)
    → Agree outcomes trees → function_call f number at outcomes ≡ Ok typed → erased typed ≡ call_row (name_of_function name f) number at (for_parameters f trees)
function_erased name None number at outcomes trees typed all is = absurd cc
function_erased name (Some f) number at outcomes trees typed all is =
    let found = mapped_ok (λ (values : List TypedRose). typed_node (head.Call f.place f.gives) number at values) (fitted_each f.params outcomes) typed is in
    ap erased (sym found.2)
    ∙ node_erased (head.Call f.place f.gives) number at found.0
    ∙ ap (call_row (plain.FunctionName f.place) number at) (fitted_each_shown f.params outcomes trees found.0 all found.1)

abs_erased : (number : ℕ) (at : Span) (os : List Operand) (typed : TypedRose) → abs_of number at os ≡ Ok typed
    → erased typed ≡ call_row (plain.BuiltinName builtin.Abs) number at (operands_erased os)
abs_erased number at os typed is =
    let found = mapped_ok (abs_step number at) (single at os) typed is in
    let o : Operand = found.0 in
    ap erased (sym found.2)
    ∙ node_erased (head.Abs (promoted o.1)) number at (in_c (promoted o.1) o ∷ [])
    ∙ ap (λ (t : PlainTree). call_row (plain.BuiltinName builtin.Abs) number at (t ∷ [])) (in_c_erased (promoted o.1) o)
    ∙ ap (λ (taken : List Operand). call_row (plain.BuiltinName builtin.Abs) number at (operands_erased taken)) (sym (single_ok at os o found.1))

builtin_erased : (b : Builtin) (number : ℕ) (at : Span) (outcomes : List (Outcome TypedRose)) (trees : List PlainTree) (typed : TypedRose)
    → Agree outcomes trees → builtin_call b number at outcomes ≡ Ok typed → erased typed ≡ call_row (plain.BuiltinName b) number at trees
builtin_erased builtin.Print number at outcomes trees typed all is =
    let found = mapped_ok (λ (values : List TypedRose). typed_node (head.Builtin builtin.Print) number at values) (as_objects outcomes) typed is in
    ap erased (sym found.2)
    ∙ node_erased (head.Builtin builtin.Print) number at found.0
    ∙ ap (call_row (plain.BuiltinName builtin.Print) number at) (objects_shown outcomes trees found.0 all found.1)
builtin_erased builtin.Abs number at outcomes trees typed all is =
    let found = followed_ok (operands outcomes) (abs_of number at) typed is in
    abs_erased number at found.0 typed found.2
    ∙ ap (call_row (plain.BuiltinName builtin.Abs) number at) (operands_shown outcomes trees found.0 all found.1)
builtin_erased builtin.Min number at outcomes trees typed all is =
    let found = followed_ok (operands outcomes) (of_common head.Min number at) typed is in
    min_erased number at found.0 typed found.2
    ∙ ap (call_row (plain.BuiltinName builtin.Min) number at) (operands_shown outcomes trees found.0 all found.1)
builtin_erased builtin.Max number at outcomes trees typed all is =
    let found = followed_ok (operands outcomes) (of_common head.Max number at) typed is in
    max_erased number at found.0 typed found.2
    ∙ ap (call_row (plain.BuiltinName builtin.Max) number at) (operands_shown outcomes trees found.0 all found.1)
builtin_erased _ number at outcomes trees typed all is = absurd cc

meant_erased : (environment : Environment) (name : Form) (what : Option Meaning) (number : ℕ) (at : Span) (outcomes : List (Outcome TypedRose)) (trees : List PlainTree) (typed : TypedRose)
    → Agree outcomes trees → first_call environment what number at outcomes ≡ Ok typed
    → erased typed ≡ call_row (name_meant environment name what) number at (arguments_for environment what trees)
meant_erased environment name None number at outcomes trees typed all is = absurd cc
meant_erased environment name (Some (meaning.Local declaration kind)) number at outcomes trees typed all is = absurd cc
meant_erased environment name (Some meaning.Module) number at outcomes trees typed all is = absurd cc
meant_erased environment name (Some (meaning.Function f params)) number at outcomes trees typed all is =
    function_erased name (environment.functions f) number at outcomes trees typed all is
meant_erased environment name (Some (meaning.Import imported)) number at outcomes trees typed all is = absurd cc
meant_erased environment name (Some (meaning.Builtin b)) number at outcomes trees typed all is = builtin_erased b number at outcomes trees typed all is

-- ---- rows

-- a value isn't called

value_never : (at : Span) (shape : Form) (typed : TypedRose) → behind_value at shape ≡ Ok typed → ⊥
value_never at form.Call typed is = cc
value_never at _ typed is = cc

one_never : (at : Span) (so_far : Outcome TypedRose) (trailer : Trailer) (typed : TypedRose) → behind_one at so_far trailer ≡ Ok typed → ⊥
one_never at so_far trailer typed is =
    let value = followed so_far (λ (t : TypedRose). behind_value at (head_of trailer.0)) in
    let found = mapped_ok (λ (pair : TypedRose × List TypedRose). pair.0) (both value (all_of trailer.1)) typed is in
    let parts = both_ok value (all_of trailer.1) found.0 found.1 in
    let called_one = followed_ok so_far (λ (t : TypedRose). behind_value at (head_of trailer.0)) found.0.0 parts.0 in
    value_never at (head_of trailer.0) found.0.0 called_one.2

behind_never : (at : Span) (so_far : Outcome TypedRose) (trailers : List Trailer) → ((typed : TypedRose) → so_far ≡ Ok typed → ⊥)
    → (typed : TypedRose) → behind at so_far trailers ≡ Ok typed → ⊥
behind_never at so_far [] never typed is = never typed is
behind_never at so_far (trailer ∷ trailers) never typed is = behind_never at (behind_one at so_far trailer) trailers (one_never at so_far trailer) typed is

-- an atom with its trailers, each of them with what its parts come to
abbrev pub trailers_below : Environment → Roses Form → List Trailer
trailers_below environment trailers = zip (listed trailers) (operands_each environment trailers)

value_erased : (environment : Environment) (number : ℕ) (at : Span) (atom : List (Outcome TypedRose)) (trees : List PlainTree) (trailers : Roses Form) (others : List (List PlainTree))
    → Agree atom trees → AllZip Agree (operands_each environment trailers) others
    → Agrees (value_row at atom (trailers_below environment trailers)) (bare_value_row number at trees others)
unfolding operands_below
value_erased environment number at atom trees none [] first next typed is =
    sym (ap (λ (ts : List PlainTree). bare_value_row number at ts []) (only_shown at atom trees typed first is))
value_erased environment number at atom trees none (other ∷ others) first next typed is = absurd next
value_erased environment number at atom trees (more trailer trailers) others first next typed is =
    absurd (behind_never at (behind_one at (only at atom) (trailer, operands_below environment trailer)) (trailers_below environment trailers)
    (one_never at (only at atom) (trailer, operands_below environment trailer)) typed is)

-- what is called
abbrev pub name_of_atom : Environment → Tree → PlainForm
name_of_atom environment atom = name_meant environment (head_of atom) (atom_meaning environment atom)

named_erased : (environment : Environment) (atom : Tree) (number : ℕ) (at : Span) (trailers : Roses Form) (others : List (List PlainTree))
    → AllZip Agree (operands_each environment trailers) others
    → Agrees (named_row environment (atom_meaning environment atom) number at (trailers_below environment trailers))
    (written form.Row number at (called at (name_of_atom environment atom) ∷ bare_named_row environment atom number at others))
unfolding operands_below
named_erased environment atom number at none others all typed is = absurd cc
named_erased environment atom number at (more trailer none) [] all typed is = absurd all
named_erased environment atom number at (more trailer none) (arguments ∷ []) all typed is =
    meant_erased environment (head_of atom) (atom_meaning environment atom) number at (operands_below environment trailer) arguments typed all.0 is
named_erased environment atom number at (more trailer none) (arguments ∷ other ∷ others) all typed is = absurd all.1
named_erased environment atom number at (more trailer (more next trailers)) others all typed is =
    let so_far = first_call environment (atom_meaning environment atom) number at (operands_below environment trailer) in
    absurd (behind_never at (behind_one at so_far (next, operands_below environment next)) (trailers_below environment trailers)
    (one_never at so_far (next, operands_below environment next)) typed is)

atom_erased : (is_a_value : Bool) (environment : Environment) (atom : Tree) (number : ℕ) (at : Span) (outcomes : List (Outcome TypedRose)) (trees : List PlainTree) (trailers : Roses Form) (others : List (List PlainTree))
    → Agree outcomes trees → AllZip Agree (operands_each environment trailers) others
    → Agrees (row_by is_a_value environment (atom_meaning environment atom) number at outcomes (trailers_below environment trailers))
    (bare_row_by is_a_value environment atom number at trees others)
atom_erased true environment atom number at outcomes trees trailers others first next = value_erased environment number at outcomes trees trailers others first next
atom_erased false environment atom number at outcomes trees trailers others first next = named_erased environment atom number at trailers others next

pub row_erased : (environment : Environment) (number : ℕ) (at : Span) (parts : Roses Form) (trees : List (List PlainTree)) → AllZip Agree (operands_each environment parts) trees
    → Agrees (row_of environment number at (listed parts) (operands_each environment parts)) (bare_row environment number at (listed parts) trees)
unfolding operands_below
row_erased environment number at none trees all typed is = absurd cc
row_erased environment number at (more atom trailers) [] all typed is = absurd all
row_erased environment number at (more atom trailers) (atoms ∷ others) all typed is =
    atom_erased (is_value (atom_meaning environment atom)) environment atom number at (operands_below environment atom) atoms trailers others all.0 all.1 typed is
