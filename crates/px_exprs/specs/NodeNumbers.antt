-- The numbers of the nodes of an expression: its own, and those of the expressions and types in it.
use Rattle.std.specs.Prelude.{ℕ, ◌≢◌, List, [], ◌∷◌, ◌++◌, Option, Some, None, AllPairs}
use Rattle.std.specs.List.{concat}
use Rattle.px_tree.specs.declared.expressions.Expr.{Expr}
use Rattle.px_tree.specs.declared.expressions.ExprForm.TheFolds.{fold-Expr}
use Rattle.px_tree.specs.declared.expressions.ExprForm.TheOpen.{Expr-F, ExprForm-F, Entry-F, Trailer-F, Argument-F, Item-F, Link-F, Comparison-F}

-- one layer of the data of an expression, with the numbers in each part in its place
abbrev pub Layer : (Type 0 → Type 0 → Type 0 → Type 0 → Type 0 → Type 0 → Type 0 → Type 0 → Type 0) → Type 0
Layer F = F (List ℕ) (List ℕ) (List ℕ) (List ℕ) (List ℕ) (List ℕ) (List ℕ) (List ℕ)

-- those in a part that may be left out
abbrev pub numbers_in_part : Option (List ℕ) → List ℕ
numbers_in_part None = []
numbers_in_part (Some part) = part

-- those in what a node is, without its own; a type has a number too
abbrev pub numbers_in_form : Layer ExprForm-F → List ℕ
numbers_in_form (ExprForm-F.Name spelled) = []
numbers_in_form (ExprForm-F.Number n) = []
numbers_in_form (ExprForm-F.Text contents) = []
numbers_in_form ExprForm-F.True = []
numbers_in_form ExprForm-F.False = []
numbers_in_form ExprForm-F.None = []
numbers_in_form (ExprForm-F.Sizeof typing) = typing.number ∷ []
numbers_in_form (ExprForm-F.Tuple items) = concat items
numbers_in_form (ExprForm-F.List items) = concat items
numbers_in_form (ExprForm-F.Dict entries) = concat entries
numbers_in_form (ExprForm-F.Row atom trailers) = atom ++ concat trailers
numbers_in_form (ExprForm-F.Unary op operand) = operand
numbers_in_form (ExprForm-F.Cast typing operand) = typing.number ∷ operand
numbers_in_form (ExprForm-F.Chain first links) = first ++ concat links
numbers_in_form (ExprForm-F.Compare first comparisons) = first ++ concat comparisons
numbers_in_form (ExprForm-F.Not operand) = operand
numbers_in_form (ExprForm-F.And operands) = concat operands
numbers_in_form (ExprForm-F.Or operands) = concat operands
numbers_in_form (ExprForm-F.Conditional value test otherwise) = value ++ (test ++ otherwise)

-- a node's own, and those in it
abbrev pub numbers_of_node : Layer Expr-F → List ℕ
numbers_of_node e = e.number ∷ e.form

-- those of the nodes in `key: value`
abbrev pub numbers_in_entry : Layer Entry-F → List ℕ
numbers_in_entry entry = entry.key ++ entry.value

-- those of the nodes in what stands behind an atom
abbrev pub numbers_in_trailer : Layer Trailer-F → List ℕ
numbers_in_trailer (Trailer-F.Attribute name) = []
numbers_in_trailer (Trailer-F.Call arguments) = concat arguments
numbers_in_trailer (Trailer-F.Subscript items comma) = concat items

-- those of the nodes in an argument, whose name is no node
abbrev pub numbers_in_argument : Layer Argument-F → List ℕ
numbers_in_argument argument = argument.value

-- those of the nodes in an item of a subscript
abbrev pub numbers_in_item : Layer Item-F → List ℕ
numbers_in_item (Item-F.Index e) = e
numbers_in_item (Item-F.Slice from to step) = numbers_in_part from ++ (numbers_in_part to ++ numbers_in_part step)
numbers_in_item Item-F.Ellipsis = []

-- those of the nodes in a right operand
abbrev pub numbers_in_link : Layer Link-F → List ℕ
numbers_in_link link = link.operand

-- those of the nodes in the right operand of a comparison
abbrev pub numbers_in_comparison : Layer Comparison-F → List ℕ
numbers_in_comparison comparison = comparison.operand

-- the number of the node, and those of all nodes in it, each node before its parts and these in the order of the text
abbrev pub node_numbers : Expr → List ℕ
node_numbers =
    fold-Expr (List ℕ) (List ℕ) (List ℕ) (List ℕ) (List ℕ) (List ℕ) (List ℕ) (List ℕ)
    numbers_in_form numbers_in_item numbers_in_trailer numbers_in_argument numbers_in_comparison numbers_in_entry numbers_of_node numbers_in_link

-- no two are the same
abbrev pub AreDistinct : List ℕ → Type 0
AreDistinct = AllPairs (λ m n. m ≢ n)
