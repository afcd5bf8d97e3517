-- The types of expressions, one clause for each form. Forms whose types aren't built are told apart; a module with one is refused
-- before its types are asked for.
use Rattle.std.specs.Prelude.{ℕ, ℤ, pos, Bool, true, false, if◌then◌else◌, List, [], ◌∷◌, drop, filter_map, Option, Some, None, Ok}
use Rattle.px_base.specs.declared.refusals.Span.{Span}
use Rattle.px_base.specs.declared.c_types.CType.TheVariants as c
use Rattle.px_base.specs.declared.c_types.BinOp.{BinOp}
use Rattle.px_base.specs.declared.c_types.CmpOp.{CmpOp}
use Rattle.px_tree.specs.declared.typed_values.ValueType.{ValueType}
use Rattle.px_tree.specs.declared.typed_values.ValueType.TheVariants as value
use Rattle.px_tree.specs.declared.typed_heads.TypedHead.TheVariants as head
use Rattle.px_walk.specs.Forms.{Form}
use Rattle.px_walk.specs.Forms as form
use Rattle.px_walk.specs.Roses.{Roses, rose, none, more, listed, head_of, at_of}
use Rattle.px_walk.specs.ExprView.{Tree}
use Rattle.px_typed_walk.specs.TypedView.{TypedRose, typed_node}
use Rattle.px_names.specs.declared.meanings.Meaning.{Meaning}
use Rattle.px_names.specs.declared.meanings.Meaning.TheVariants as meaning
use Rattle.px_operators.specs.Outcomes.{Outcome, refused, refused_with, unbuilt, followed, mapped, only, flat}
use Rattle.px_environments.specs.WrittenTypes.{first_type}
use Rattle.px_environments.specs.declared.signatures.Variable.{Variable}
use Rattle.px_environments.specs.Environments.{Environment}
use Rattle.px_operators.specs.Conversions.{fitted}
use Rattle.px_operators.specs.Operators.{operands, unary_of, chain_of, comparison_of, logic_of, not_of, conditional_of}
use Rattle.px_environments.specs.Atoms.{c_comparison, is_value, is_long, is_range_row}
use Rattle.px_typed_expressions.specs.Calls.{row_of}

abbrev pub number_of_type : ℤ → ℕ → Span → Outcome TypedRose
number_of_type n number at = if is_long n then Ok (typed_node (head.Literal c.Long n) number at []) else unbuilt at

-- True and False are bint.
abbrev pub truth_of : ℤ → ℕ → Span → Outcome TypedRose
truth_of n number at = Ok (typed_node (head.Literal c.Bint n) number at [])

-- `sizeof` of a C type is a size_t; an object type and a view type have none.
abbrev pub size_of : Option ValueType → ℕ → Span → Outcome TypedRose
size_of (Some (value.C t)) number at = Ok (typed_node (head.Sizeof t) number at [])
size_of _ number at = refused at

-- A cast has the type that it names, into which its operand is converted.
abbrev pub cast_of : Option ValueType → ℕ → Span → Outcome TypedRose → Outcome TypedRose
cast_of None number at outcome = refused_with at outcome
cast_of (Some t) number at outcome =
    mapped (λ operand. typed_node (head.Cast t) number at (operand ∷ [])) (followed outcome (fitted t))

-- the operators of a chain

abbrev pub operator_of : Form → Option BinOp
operator_of (form.Link op) = Some op
operator_of _ = None

abbrev pub operators : List Tree → List BinOp
operators parts = filter_map (λ part. operator_of (head_of part)) parts

-- the comparisons of a chain

abbrev pub listed_comparison : Span → Option CmpOp → Outcome (List CmpOp) → Outcome (List CmpOp)
listed_comparison at None others = unbuilt at
listed_comparison at (Some op) others = mapped (λ ops. op ∷ ops) others

abbrev pub comparison_in : Form → Option CmpOp
comparison_in (form.Comparison op) = c_comparison op
comparison_in _ = None

abbrev pub comparisons : Span → List Tree → Outcome (List CmpOp)
comparisons at [] = Ok []
comparisons at (part ∷ parts) = listed_comparison at (comparison_in (head_of part)) (comparisons at parts)

-- A name is that of a variable.

abbrev pub variable_of : Option Variable → ℕ → Span → Outcome TypedRose
variable_of None number at = unbuilt at
variable_of (Some variable) number at = Ok (typed_node (head.Local variable.slot variable.value_type) number at [])

abbrev pub name_of : Environment → Option Meaning → ℕ → Span → Outcome TypedRose
name_of environment (Some (meaning.Local declaration kind)) number at = variable_of (environment.variables declaration) number at
name_of environment _ number at = unbuilt at

-- An expression by its form, its parts, and what the expressions come to that are its operands.
abbrev pub expression_of : Environment → Form → ℕ → Span → List Tree → List (Outcome TypedRose) → Outcome TypedRose
expression_of environment (form.Name name) number at parts outcomes = name_of environment (environment.meanings number) number at
expression_of environment (form.Number n) number at parts outcomes = number_of_type n number at
expression_of environment form.True number at parts outcomes = truth_of (pos 1) number at
expression_of environment form.False number at parts outcomes = truth_of (pos 0) number at
expression_of environment form.Sizeof number at parts outcomes = size_of (first_type parts) number at
expression_of environment (form.Unary op) number at parts outcomes = followed (operands outcomes) (unary_of op number at)
expression_of environment form.Cast number at parts outcomes = cast_of (first_type parts) number at (only at outcomes)
expression_of environment form.Chain number at parts outcomes =
    followed (operands outcomes) (chain_of environment.cdivision number at (operators parts))
expression_of environment form.Compare number at parts outcomes =
    followed (comparisons at (drop 1 parts)) (λ ops. followed (operands outcomes) (comparison_of number at ops))
expression_of environment form.Not number at parts outcomes = not_of number at outcomes
expression_of environment form.And number at parts outcomes = followed (operands outcomes) (logic_of head.And number at)
expression_of environment form.Or number at parts outcomes = followed (operands outcomes) (logic_of head.Or number at)
expression_of environment form.Conditional number at parts outcomes = conditional_of number at outcomes
expression_of environment _ number at parts outcomes = unbuilt at

-- What is below an expression, and no expression by itself: its operands are those of what holds it.
abbrev pub is_between : Form → Bool
is_between (form.«Type» is_const base axes) = true
is_between (form.Attribute name) = true
is_between form.Call = true
is_between (form.Subscript has_comma) = true
is_between (form.Argument name) = true
is_between form.Index = true
is_between (form.Slice has_from has_to has_step) = true
is_between form.Ellipsis = true
is_between (form.Link op) = true
is_between (form.Comparison op) = true
is_between form.Entry = true
is_between _ = false

abbrev pub row_operands : Environment → ℕ → Span → List Tree → List (List (Outcome TypedRose))
    → List (Outcome TypedRose)
row_operands environment number at parts outcomes =
    if is_range_row environment parts then flat outcomes else row_of environment number at parts outcomes ∷ []

abbrev pub name_operands : Environment → Form → ℕ → Span → List (Outcome TypedRose)
name_operands environment head number at =
    if is_value (environment.meanings number) then expression_of environment head number at [] [] ∷ [] else []

abbrev pub other_operands : Environment → Form → ℕ → Span → List Tree → List (List (Outcome TypedRose))
    → List (Outcome TypedRose)
other_operands environment head number at parts outcomes =
    if is_between head then flat outcomes else expression_of environment head number at parts (flat outcomes) ∷ []

-- what a node gives as operands of what holds it
abbrev pub operands_by : Environment → Form → ℕ → Span → List Tree → List (List (Outcome TypedRose))
    → List (Outcome TypedRose)
operands_by environment form.Row number at parts outcomes = row_operands environment number at parts outcomes
operands_by environment (form.Name name) number at parts outcomes = name_operands environment (form.Name name) number at
operands_by environment head number at parts outcomes = other_operands environment head number at parts outcomes

unfoldable mutual
  -- what a node of an expression comes to: an expression to one typed tree, and what is between expressions to those below it
  pub operands_below : Environment → Tree → List (Outcome TypedRose)
  operands_below environment (rose head number at parts) =
      operands_by environment head number at (listed parts) (operands_each environment parts)

  pub operands_each : Environment → Roses Form → List (List (Outcome TypedRose))
  operands_each environment none = []
  operands_each environment (more part parts) = operands_below environment part ∷ operands_each environment parts

-- an expression
abbrev pub expression : Environment → Tree → Outcome TypedRose
expression environment tree = only (at_of tree) (operands_below environment tree)

-- the expression that is a part of a statement
abbrev pub expression_at : Environment → Span → Option Tree → Outcome TypedRose
expression_at environment at None = unbuilt at
expression_at environment at (Some tree) = expression environment tree
