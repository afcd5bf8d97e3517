-- What a parse tree and its typed tree have in common: the forms of the text, in which names and written types are what they stand for.
use Rattle.std.specs.Prelude.{ℕ, List, [], ◌∷◌, map, None}
use Rattle.px_base.specs.declared.refusals.Span.{Span}
use Rattle.px_base.specs.declared.c_types.BinOp.{BinOp}
use Rattle.px_base.specs.declared.objects.Builtin.{Builtin}
use Rattle.px_tree.specs.declared.expressions.CompareOp.{CompareOp}
use Rattle.px_tree.specs.declared.typed_values.ValueType.{ValueType}
use Rattle.px_tree.specs.declared.typed_heads.TypedHead.{TypedHead}
use Rattle.px_walk.specs.Forms.{Form}
use Rattle.px_walk.specs.Forms as form
use Rattle.px_walk.specs.Roses.{Rose, rose, at_of, gathered}

pub data PlainForm : Type 0 where
  -- a form of the text, as it is
  Written : Form → PlainForm
  -- a name that stands for a variable, by its place among the locals
  Variable : (slot : ℕ) → PlainForm
  -- the declaration of a variable, and its type
  Declared : (slot : ℕ) (value_type : ValueType) → PlainForm
  -- a name that stands for a function, by its place among the functions of the module
  FunctionName : (place : ℕ) → PlainForm
  -- a name that stands for a builtin
  BuiltinName : Builtin → PlainForm
  -- a written type
  TypeName : ValueType → PlainForm
  -- in a typed tree alone: a value that is read again, and what comes from no form of the text
  AtHand : PlainForm
  Other : TypedHead → PlainForm

abbrev pub PlainTree : Type 0
PlainTree = Rose PlainForm

-- a node by its parts
abbrev pub plain_node : PlainForm → ℕ → Span → List PlainTree → PlainTree
plain_node shape number at parts = rose shape number at (gathered parts)

abbrev pub written : Form → ℕ → Span → List PlainTree → PlainTree
written shape number at parts = plain_node (Written shape) number at parts

-- What has no number in the parse tree has the number 0 here too: operators with their operands at the place of these, calls at the
-- place of their row. So have the nodes whose own number and place a typed tree doesn't keep: a written type, and the name that is
-- called, at the place of what they are part of.

abbrev pub link : BinOp → PlainTree → PlainTree
link op operand = written (form.Link op) 0 (at_of operand) (operand ∷ [])

abbrev pub comparison : CompareOp → PlainTree → PlainTree
comparison op operand = written (form.Comparison op) 0 (at_of operand) (operand ∷ [])

abbrev pub argument : PlainTree → PlainTree
argument value = written (form.Argument None) 0 (at_of value) (value ∷ [])

abbrev pub call : Span → List PlainTree → PlainTree
call at arguments = written form.Call 0 at (map argument arguments)

abbrev pub type_name : Span → ValueType → PlainTree
type_name at t = plain_node (TypeName t) 0 at []

abbrev pub called : Span → PlainForm → PlainTree
called at name = plain_node name 0 at []

-- a name with a call behind it
abbrev pub call_row : PlainForm → ℕ → Span → List PlainTree → PlainTree
call_row name number at arguments = written form.Row number at (called at name ∷ call at arguments ∷ [])
