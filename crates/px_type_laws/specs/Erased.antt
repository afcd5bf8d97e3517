-- A typed tree without what the rules of types add to the text: conversions that they ask for, values that are kept and read again, and
-- the steps into which operators are taken apart.
use Rattle.std.specs.Prelude.{ℕ, zero, suc, ℤ, pos, ◌++◌, Bool, true, false, ◌&&◌, if◌then◌else◌, nat_eq, nat_lt, List, [], ◌∷◌, take, drop, flat_map}
use Rattle.px_base.specs.declared.refusals.Span.{Span}
use Rattle.px_base.specs.declared.c_types.CType.{CType}
use Rattle.px_base.specs.declared.c_types.CType.TheVariants as c
use Rattle.px_base.specs.declared.c_types.BinOp.{BinOp}
use Rattle.px_base.specs.declared.c_types.BinOp.TheVariants as binary
use Rattle.px_base.specs.declared.c_types.CmpOp.{CmpOp}
use Rattle.px_base.specs.declared.c_types.CmpOp.TheVariants as compared
use Rattle.px_base.specs.declared.objects.Builtin.TheVariants as builtin
use Rattle.px_tree.specs.declared.expressions.CompareOp.{CompareOp}
use Rattle.px_tree.specs.declared.expressions.CompareOp.TheVariants as sign
use Rattle.px_tree.specs.declared.typed_values.ValueType.TheVariants as value
use Rattle.px_tree.specs.declared.typed_values.Comparing.{Comparing}
use Rattle.px_tree.specs.declared.typed_values.Comparing.TheVariants as comparing
use Rattle.px_tree.specs.declared.typed_heads.TypedHead.{TypedHead}
use Rattle.px_tree.specs.declared.typed_heads.TypedHead.TheVariants as head
use Rattle.px_walk.specs.Forms.{Form}
use Rattle.px_walk.specs.Forms as form
use Rattle.px_walk.specs.Roses.{Roses, rose, none, more, head_of, parts_of}
use Rattle.px_typed_walk.specs.TypedView.{TypedRose}
use Rattle.px_type_laws.specs.PlainForms.{PlainForm, PlainTree, plain_node, written, link, comparison, type_name, call_row}
use Rattle.px_type_laws.specs.PlainForms as plain

-- Literals. One of the type bint is `True` or `False`.

abbrev pub truth_form : ℤ → Form
truth_form (pos zero) = form.False
truth_form _ = form.True

abbrev pub literal_form : CType → ℤ → Form
literal_form c.Bint n = truth_form n
literal_form _ n = form.Number n

-- The comparison as it is spelled

abbrev pub spelled : CmpOp → CompareOp
spelled compared.Lt = sign.Less
spelled compared.Gt = sign.Greater
spelled compared.Le = sign.LessEqual
spelled compared.Ge = sign.GreaterEqual
spelled compared.Eq = sign.Equal
spelled compared.Ne = sign.NotEqual

abbrev pub spelled_how : Comparing → CompareOp
spelled_how (comparing.C op t) = spelled op
spelled_how (comparing.Objects op) = spelled op
spelled_how comparing.In = sign.In
spelled_how comparing.NotIn = sign.NotIn
spelled_how comparing.Is = sign.Is
spelled_how comparing.IsNot = sign.IsNot

-- a node that has other parts than its form asks for stays as it is
abbrev pub as_it_is : TypedHead → ℕ → Span → List PlainTree → PlainTree
as_it_is head number at parts = plain_node (plain.Other head) number at parts

-- a node that is left out: its one part stands in its place
abbrev pub left_out : TypedHead → ℕ → Span → List PlainTree → PlainTree
left_out head number at (part ∷ []) = part
left_out head number at parts = as_it_is head number at parts

abbrev pub chain_of_two : TypedHead → BinOp → ℕ → Span → List PlainTree → PlainTree
chain_of_two head op number at (left ∷ right ∷ []) = written form.Chain number at (left ∷ link op right ∷ [])
chain_of_two head op number at parts = as_it_is head number at parts

abbrev pub comparison_of_two : TypedHead → CompareOp → ℕ → Span → List PlainTree → PlainTree
comparison_of_two head op number at (left ∷ right ∷ []) = written form.Compare number at (left ∷ comparison op right ∷ [])
comparison_of_two head op number at parts = as_it_is head number at parts

-- Several steps are one node of their form. Each behind the first reads at its first place the value of the one before, and adds what
-- stands behind that; what doesn't stays a part of its own.

-- the forms whose operators are steps, by numbers
abbrev pub number_of_form : PlainForm → ℕ
number_of_form (plain.Written form.Chain) = 1
number_of_form (plain.Written form.Compare) = 2
number_of_form (plain.Written form.And) = 3
number_of_form (plain.Written form.Or) = 4
number_of_form _ = 0

abbrev pub goes_on : PlainForm → PlainForm → Bool
goes_on shape next = nat_lt 0 (number_of_form shape) && nat_eq (number_of_form shape) (number_of_form next)

abbrev pub is_at_hand : PlainForm → Bool
is_at_hand plain.AtHand = true
is_at_hand _ = false

abbrev pub behind_hand : PlainTree → List PlainTree → List PlainTree
behind_hand step [] = step ∷ []
behind_hand step (first ∷ others) = if is_at_hand (head_of first) then others else step ∷ []

abbrev pub added : PlainForm → PlainTree → List PlainTree
added shape step = if goes_on shape (head_of step) then behind_hand step (parts_of step) else step ∷ []

abbrev pub joined : TypedHead → ℕ → Span → List PlainTree → PlainTree
joined head number at [] = as_it_is head number at []
joined head number at (first ∷ steps) =
    plain_node (head_of first) number at (parts_of first ++ flat_map (added (head_of first)) steps)

-- Assignments to several targets: an assignment of the value at hand to each, and the value

abbrev pub target_of : PlainTree → PlainForm → List PlainTree → PlainTree
target_of step (plain.Written (form.Assign targets)) (target ∷ given ∷ []) = if is_at_hand (head_of given) then target else step
target_of step _ _ = step

abbrev pub targets_and_value : List PlainTree → List PlainTree
targets_and_value [] = []
targets_and_value (tree ∷ []) = tree ∷ []
targets_and_value (step ∷ next ∷ steps) = target_of step (head_of step) (parts_of step) ∷ targets_and_value (next ∷ steps)

-- so many trees but one
abbrev pub count_of_targets : List PlainTree → ℕ
count_of_targets [] = 0
count_of_targets (tree ∷ []) = 0
count_of_targets (target ∷ next ∷ trees) = suc (count_of_targets (next ∷ trees))

abbrev pub assigned_to_each : ℕ → Span → List PlainTree → PlainTree
assigned_to_each number at parts = written (form.Assign (count_of_targets parts)) number at (targets_and_value parts)

-- `target op= value`: the operator's other operand, where its first one is the value at hand

abbrev pub number_of_operator : BinOp → ℕ
number_of_operator binary.Add = 0
number_of_operator binary.Sub = 1
number_of_operator binary.Mul = 2
number_of_operator binary.FloorDiv = 3
number_of_operator binary.Mod = 4
number_of_operator binary.Shl = 5
number_of_operator binary.Shr = 6
number_of_operator binary.BitAnd = 7
number_of_operator binary.BitOr = 8
number_of_operator binary.BitXor = 9

abbrev pub is_link : BinOp → PlainForm → Bool
is_link op (plain.Written (form.Link other)) = nat_eq (number_of_operator op) (number_of_operator other)
is_link op _ = false

abbrev pub other_operand : BinOp → PlainTree → List PlainTree → List PlainTree
other_operand op step (first ∷ second ∷ []) =
    if is_at_hand (head_of first) && is_link op (head_of second) then parts_of second else step ∷ []
other_operand op step _ = step ∷ []

abbrev pub augmented_by : BinOp → ℕ → Span → List PlainTree → PlainTree
augmented_by op number at (target ∷ step ∷ []) =
    written (form.Augment op) number at (target ∷ other_operand op step (parts_of step))
augmented_by op number at parts = as_it_is (head.Augment op) number at parts

-- a loop over `range`, whose call has no node of its own
abbrev pub loop_over_range : ℕ → ℕ → Span → List PlainTree → PlainTree
loop_over_range count number at [] = as_it_is (head.Range count) number at []
loop_over_range count number at (target ∷ parts) =
    written form.For number at (target ∷ call_row (plain.BuiltinName builtin.Range) 0 at (take count parts) ∷ drop count parts)

-- A node by its head and its parts. Those heads that no rule of types makes yet stay as they are.
abbrev pub erased_by : TypedHead → ℕ → Span → List PlainTree → PlainTree
erased_by (head.Converted how) number at parts = left_out (head.Converted how) number at parts
erased_by (head.Kept t) number at parts = left_out (head.Kept t) number at parts
erased_by (head.Given t) number at parts = plain_node plain.AtHand number at parts
erased_by (head.Steps t) number at parts = joined (head.Steps t) number at parts
erased_by head.Comparisons number at parts = joined head.Comparisons number at parts
erased_by (head.Literal t n) number at parts = written (literal_form t n) number at parts
erased_by (head.Sizeof t) number at parts = written form.Sizeof number at (type_name at (value.C t) ∷ parts)
erased_by (head.Local slot t) number at parts = plain_node (plain.Variable slot) number at parts
erased_by (head.Cast t) number at parts = written form.Cast number at (type_name at t ∷ parts)
erased_by (head.Unary op t) number at parts = written (form.Unary op) number at parts
erased_by (head.Binary op t truncates) number at parts = chain_of_two (head.Binary op t truncates) op number at parts
erased_by (head.Compare how) number at parts = comparison_of_two (head.Compare how) (spelled_how how) number at parts
erased_by head.Not number at parts = written form.Not number at parts
erased_by (head.And t) number at parts = written form.And number at parts
erased_by (head.Or t) number at parts = written form.Or number at parts
erased_by (head.Conditional t) number at parts = written form.Conditional number at parts
erased_by (head.Call place t) number at parts = call_row (plain.FunctionName place) number at parts
erased_by (head.Abs t) number at parts = call_row (plain.BuiltinName builtin.Abs) number at parts
erased_by (head.Min t) number at parts = call_row (plain.BuiltinName builtin.Min) number at parts
erased_by (head.Max t) number at parts = call_row (plain.BuiltinName builtin.Max) number at parts
erased_by (head.Builtin b) number at parts = call_row (plain.BuiltinName b) number at parts
erased_by head.Expression number at parts = written (form.Assign 0) number at parts
erased_by head.Assign number at parts = written (form.Assign 1) number at parts
erased_by head.AssignEach number at parts = assigned_to_each number at parts
erased_by (head.Augment op) number at parts = augmented_by op number at parts
erased_by head.Declare number at parts = written form.Declare number at parts
erased_by (head.Declarator slot t) number at parts = plain_node (plain.Declared slot t) number at parts
erased_by head.Pass number at parts = written form.Pass number at parts
erased_by head.Break number at parts = written form.Break number at parts
erased_by head.Continue number at parts = written form.Continue number at parts
erased_by head.Return number at parts = written form.Return number at parts
erased_by head.Global number at parts = written (form.Global []) number at parts
erased_by (head.If arms has_else) number at parts = written (form.If arms has_else) number at parts
erased_by head.Arm number at parts = written form.Arm number at parts
erased_by head.While number at parts = written form.While number at parts
erased_by (head.Range count) number at parts = loop_over_range count number at parts
erased_by head number at parts = as_it_is head number at parts

unfoldable mutual
  pub erased : TypedRose → PlainTree
  erased (rose head number at parts) = erased_by head number at (erased_each parts)

  pub erased_each : Roses TypedHead → List PlainTree
  erased_each none = []
  erased_each (more part parts) = erased part ∷ erased_each parts
