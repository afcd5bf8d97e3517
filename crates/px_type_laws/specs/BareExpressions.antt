-- An expression of the parse tree as it is, but for what its names and written types stand for.
use Rattle.std.specs.Prelude.{ℕ, Bool, if◌then◌else◌, List, [], ◌∷◌, ◌++◌, length, take, drop, map, filter_map, Option, Some, None}
use Rattle.px_base.specs.declared.refusals.Span.{Span}
use Rattle.px_tree.specs.declared.expressions.CompareOp.{CompareOp}
use Rattle.px_tree.specs.declared.typed_values.ValueType.{ValueType}
use Rattle.px_walk.specs.Forms.{Form}
use Rattle.px_walk.specs.Forms as form
use Rattle.px_walk.specs.Roses.{Roses, rose, none, more, listed, head_of, number_of, at_of}
use Rattle.px_walk.specs.ExprView.{Tree}
use Rattle.px_names.specs.declared.meanings.Meaning.{Meaning}
use Rattle.px_names.specs.declared.meanings.Meaning.TheVariants as meaning
use Rattle.px_operators.specs.Outcomes.{flat}
use Rattle.px_environments.specs.declared.signatures.Variable.{Variable}
use Rattle.px_environments.specs.declared.signatures.Signature.{Signature}
use Rattle.px_environments.specs.Environments.{Environment}
use Rattle.px_environments.specs.Atoms.{atom_meaning, is_value, is_range_row}
use Rattle.px_environments.specs.WrittenTypes.{first_type}
use Rattle.px_typed_expressions.specs.Expressions.{operators, is_between}
use Rattle.px_type_laws.specs.PlainForms.{PlainForm, PlainTree, plain_node, written, link, comparison, call, type_name, called}
use Rattle.px_type_laws.specs.PlainForms as plain

-- Names. One that stands for nothing of these stays as it is.

abbrev pub name_of_variable : Form → Option Variable → PlainForm
name_of_variable name None = plain.Written name
name_of_variable name (Some variable) = plain.Variable variable.slot

abbrev pub name_of_function : Form → Option Signature → PlainForm
name_of_function name None = plain.Written name
name_of_function name (Some f) = plain.FunctionName f.place

abbrev pub name_meant : Environment → Form → Option Meaning → PlainForm
name_meant environment name (Some (meaning.Local declaration kind)) = name_of_variable name (environment.variables declaration)
name_meant environment name (Some (meaning.Function f params)) = name_of_function name (environment.functions f)
name_meant environment name (Some (meaning.Builtin b)) = plain.BuiltinName b
name_meant environment name _ = plain.Written name

-- Written types. What is no type has no node.

abbrev pub type_written : Span → Option ValueType → List PlainTree
type_written at None = []
type_written at (Some t) = type_name at t ∷ []

-- Operands with the operators that stand before them: the first one has none.

abbrev pub with_operators : {Op : Type 0} → (Op → PlainTree → PlainTree) → List Op → List PlainTree → List PlainTree
with_operators joined [] operands = []
with_operators joined (op ∷ ops) [] = []
with_operators joined (op ∷ ops) (operand ∷ operands) = joined op operand ∷ with_operators joined ops operands

abbrev pub behind_first : {Op : Type 0} → (Op → PlainTree → PlainTree) → List Op → List PlainTree → List PlainTree
behind_first joined ops [] = []
behind_first joined ops (first ∷ others) = first ∷ with_operators joined ops others

abbrev pub sign_of : Form → Option CompareOp
sign_of (form.Comparison op) = Some op
sign_of _ = None

abbrev pub signs : List Tree → List CompareOp
signs parts = filter_map (λ part. sign_of (head_of part)) parts

-- An expression by its form, its parts, and its operands as plain trees
abbrev pub bare_by_form : Environment → Form → ℕ → Span → List Tree → List PlainTree → PlainTree
bare_by_form environment (form.Name name) number at parts operands =
    plain_node (name_meant environment (form.Name name) (environment.meanings number)) number at []
bare_by_form environment (form.Number n) number at parts operands = written (form.Number n) number at []
bare_by_form environment form.True number at parts operands = written form.True number at []
bare_by_form environment form.False number at parts operands = written form.False number at []
bare_by_form environment form.Sizeof number at parts operands = written form.Sizeof number at (type_written at (first_type parts))
bare_by_form environment form.Cast number at parts operands = written form.Cast number at (type_written at (first_type parts) ++ operands)
bare_by_form environment form.Chain number at parts operands = written form.Chain number at (behind_first link (operators parts) operands)
bare_by_form environment form.Compare number at parts operands =
    written form.Compare number at (behind_first comparison (signs (drop 1 parts)) operands)
bare_by_form environment shape number at parts operands = written shape number at operands

-- Rows. What stands behind the name of a function or of a builtin is its call, of a function with as many arguments as it has
-- parameters; an atom with nothing behind it is itself.

abbrev pub for_parameters : Option Signature → List PlainTree → List PlainTree
for_parameters None arguments = arguments
for_parameters (Some f) arguments = take (length f.params) arguments

abbrev pub arguments_for : Environment → Option Meaning → List PlainTree → List PlainTree
arguments_for environment (Some (meaning.Function f params)) arguments = for_parameters (environment.functions f) arguments
arguments_for environment _ arguments = arguments

abbrev pub bare_named_row : Environment → Tree → ℕ → Span → List (List PlainTree) → List PlainTree
bare_named_row environment atom number at [] = []
bare_named_row environment atom number at (arguments ∷ others) =
    call at (arguments_for environment (atom_meaning environment atom) arguments) ∷ map (call at) others

abbrev pub bare_value_row : ℕ → Span → List PlainTree → List (List PlainTree) → PlainTree
bare_value_row number at (value ∷ []) [] = value
bare_value_row number at atom others = written form.Row number at (atom ++ map (call at) others)

abbrev pub bare_row_by : Bool → Environment → Tree → ℕ → Span → List PlainTree → List (List PlainTree) → PlainTree
bare_row_by is_value environment atom number at atoms others =
    if is_value then bare_value_row number at atoms others
    else written form.Row number at
    (called at (name_meant environment (head_of atom) (atom_meaning environment atom)) ∷ bare_named_row environment atom number at others)

abbrev pub bare_row : Environment → ℕ → Span → List Tree → List (List PlainTree) → PlainTree
bare_row environment number at (atom ∷ trailers) (atoms ∷ others) =
    bare_row_by (is_value (atom_meaning environment atom)) environment atom number at atoms others
bare_row environment number at _ _ = written form.Row number at []

-- What a node gives as operands of what holds it: an expression itself, and what stands between expressions those below it. A name that
-- is no value is none, and of a call of `range` its arguments are.
abbrev pub bare_operands : Environment → Form → ℕ → Span → List Tree → List (List PlainTree) → List PlainTree
bare_operands environment form.Row number at parts below =
    if is_range_row environment parts then flat below else bare_row environment number at parts below ∷ []
bare_operands environment (form.Name name) number at parts below =
    if is_value (environment.meanings number) then bare_by_form environment (form.Name name) number at [] [] ∷ [] else []
bare_operands environment shape number at parts below =
    if is_between shape then flat below else bare_by_form environment shape number at parts (flat below) ∷ []

unfoldable mutual
  pub bare_below : Environment → Tree → List PlainTree
  bare_below environment (rose shape number at parts) =
      bare_operands environment shape number at (listed parts) (bare_each environment parts)

  pub bare_each : Environment → Roses Form → List (List PlainTree)
  bare_each environment none = []
  bare_each environment (more part parts) = bare_below environment part ∷ bare_each environment parts

abbrev pub bare_alone : Tree → List PlainTree → PlainTree
bare_alone tree (one ∷ []) = one
bare_alone tree trees = written (head_of tree) (number_of tree) (at_of tree) trees

-- an expression
abbrev pub bare : Environment → Tree → PlainTree
bare environment tree = bare_alone tree (bare_below environment tree)
