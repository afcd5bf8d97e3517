-- What the data of an expression have from its tokens: the places of its nodes, its names, numbers and strings.
use Rattle.std.specs.Prelude.{ℕ, ℤ, ◌≤◌, ◌<◌, List, [], ◌∷◌, ◌++◌, map, Option, Some, None}
use Rattle.std.specs.List.{flat_map}
use Rattle.px_base.specs.declared.refusals.Span.{Span}
use Rattle.px_lexer.specs.declared.token_list.TokenKind.TheVariants as kind
use Rattle.px_tree.specs.declared.expressions.Expr.{Expr}
use Rattle.px_tree.specs.declared.expressions.ExprForm.TheFolds.{fold-Expr}
use Rattle.px_tree.specs.declared.expressions.ExprForm.TheOpen.{Expr-F, ExprForm-F, Entry-F, Trailer-F, Argument-F, Item-F, Link-F, Comparison-F}
use Rattle.px_lexer.specs.Terminals.{Terminal, HasKind, IsName, IsAt}

-- the place of a node or a type, the name of an identifier, an attribute or an argument, a number, the content of a string
pub data Mark : Type 0 where
  place : Span → Mark
  name : List ℕ → Mark
  number : ℤ → Mark
  text : List ℕ → Mark

-- the token at an index has it
abbrev pub IsMarkAt : List Terminal → ℕ → Mark → Type 0
IsMarkAt ts i (Mark.place at) = IsAt ts i at
IsMarkAt ts i (Mark.name spelled) = IsName ts i spelled
IsMarkAt ts i (Mark.number n) = HasKind ts i (kind.Number n)
IsMarkAt ts i (Mark.text content) = HasKind ts i (kind.Text content)

-- one of the tokens from one index to before another has it
pub record IsMarkOf (ts : List Terminal) (from to : ℕ) (mark : Mark) : Type 0 where
  pub at : ℕ
  pub forward : from ≤ at
  pub within : at < to
  pub has : IsMarkAt ts at mark

-- one layer of the data of an expression, with the marks in each part in its place
abbrev pub MarkLayer : (Type 0 → Type 0 → Type 0 → Type 0 → Type 0 → Type 0 → Type 0 → Type 0 → Type 0) → Type 0
MarkLayer F = F (List Mark) (List Mark) (List Mark) (List Mark) (List Mark) (List Mark) (List Mark) (List Mark)

-- those in parts, one after another
abbrev pub marks_in_parts : List (List Mark) → List Mark
marks_in_parts = flat_map (λ (part : List Mark). part)

-- those in a part that may be left out
abbrev pub marks_in_part : Option (List Mark) → List Mark
marks_in_part None = []
marks_in_part (Some part) = part

-- those in what a node is, without its own; a type has a place too
abbrev pub marks_in_form : MarkLayer ExprForm-F → List Mark
marks_in_form (ExprForm-F.Name spelled) = Mark.name spelled ∷ []
marks_in_form (ExprForm-F.Number n) = Mark.number n ∷ []
marks_in_form (ExprForm-F.Text contents) = map Mark.text contents
marks_in_form ExprForm-F.True = []
marks_in_form ExprForm-F.False = []
marks_in_form ExprForm-F.None = []
marks_in_form (ExprForm-F.Sizeof typing) = Mark.place typing.at ∷ []
marks_in_form (ExprForm-F.Tuple items) = marks_in_parts items
marks_in_form (ExprForm-F.List items) = marks_in_parts items
marks_in_form (ExprForm-F.Dict entries) = marks_in_parts entries
marks_in_form (ExprForm-F.Row atom trailers) = atom ++ marks_in_parts trailers
marks_in_form (ExprForm-F.Unary op operand) = operand
marks_in_form (ExprForm-F.Cast typing operand) = Mark.place typing.at ∷ operand
marks_in_form (ExprForm-F.Chain first links) = first ++ marks_in_parts links
marks_in_form (ExprForm-F.Compare first comparisons) = first ++ marks_in_parts comparisons
marks_in_form (ExprForm-F.Not operand) = operand
marks_in_form (ExprForm-F.And operands) = marks_in_parts operands
marks_in_form (ExprForm-F.Or operands) = marks_in_parts operands
marks_in_form (ExprForm-F.Conditional value test otherwise) = value ++ (test ++ otherwise)

-- a node's own, and those in it
abbrev pub marks_of_node : MarkLayer Expr-F → List Mark
marks_of_node e = Mark.place e.at ∷ e.form

-- those in `key: value`
abbrev pub marks_in_entry : MarkLayer Entry-F → List Mark
marks_in_entry entry = entry.key ++ entry.value

-- those in what stands behind an atom
abbrev pub marks_in_trailer : MarkLayer Trailer-F → List Mark
marks_in_trailer (Trailer-F.Attribute spelled) = Mark.name spelled ∷ []
marks_in_trailer (Trailer-F.Call arguments) = marks_in_parts arguments
marks_in_trailer (Trailer-F.Subscript items comma) = marks_in_parts items

-- the name of an argument
abbrev pub marks_in_name : Option (List ℕ) → List Mark
marks_in_name None = []
marks_in_name (Some spelled) = Mark.name spelled ∷ []

-- those in an argument, its name first
abbrev pub marks_in_argument : MarkLayer Argument-F → List Mark
marks_in_argument argument = marks_in_name argument.name ++ argument.value

-- those in an item of a subscript
abbrev pub marks_in_item : MarkLayer Item-F → List Mark
marks_in_item (Item-F.Index e) = e
marks_in_item (Item-F.Slice from to step) = marks_in_part from ++ (marks_in_part to ++ marks_in_part step)
marks_in_item Item-F.Ellipsis = []

-- those in a right operand
abbrev pub marks_in_link : MarkLayer Link-F → List Mark
marks_in_link link = link.operand

-- those in the right operand of a comparison
abbrev pub marks_in_comparison : MarkLayer Comparison-F → List Mark
marks_in_comparison comparison = comparison.operand

-- the place of the node, and the marks of all in it, each node before its parts and these in the order of the text
abbrev pub node_marks : Expr → List Mark
node_marks =
    fold-Expr (List Mark) (List Mark) (List Mark) (List Mark) (List Mark) (List Mark) (List Mark) (List Mark)
    marks_in_form marks_in_item marks_in_trailer marks_in_argument marks_in_comparison marks_in_entry marks_of_node marks_in_link
