-- The parse tree as rose trees: for each node its form, its number, its place, and its parts in the order of the text.
use Rattle.std.specs.Prelude.{ℕ, List, [], ◌∷◌, ◌++◌, map, Option, Some, None, is_some}
use Rattle.px_base.specs.declared.refusals.Span.{Span}
use Rattle.px_tree.specs.declared.typings.«Type».{«Type» as Typing}
use Rattle.px_tree.specs.declared.expressions.Expr.{Expr}
use Rattle.px_tree.specs.declared.expressions.Entry.{Entry}
use Rattle.px_tree.specs.declared.expressions.ExprForm.{ExprForm}
use Rattle.px_tree.specs.declared.expressions.Trailer.{Trailer}
use Rattle.px_tree.specs.declared.expressions.Argument.{Argument}
use Rattle.px_tree.specs.declared.expressions.Item.{Item}
use Rattle.px_tree.specs.declared.expressions.Link.{Link}
use Rattle.px_tree.specs.declared.expressions.Comparison.{Comparison}
use Rattle.px_tree.specs.declared.expressions.ExprForm.TheFolds.{fold-Expr, fold-ExprForm, fold-Entry, fold-Trailer, fold-Argument, fold-Item, fold-Link, fold-Comparison}
use Rattle.px_tree.specs.declared.expressions.ExprForm.TheOpen.{Expr-F, ExprForm-F, Entry-F, Trailer-F, Argument-F, Item-F, Link-F, Comparison-F}
use Rattle.px_walk.specs.Forms.{Form}
use Rattle.px_walk.specs.Forms as form
use Rattle.px_walk.specs.Roses.{Rose, rose, at_of, gathered}

abbrev pub Tree : Type 0
Tree = Rose Form

-- a node by its parts
abbrev pub node : Form → ℕ → Span → List Tree → Tree
node head number at parts = rose head number at (gathered parts)

-- the tree of what may be left out
abbrev pub if_written : {A : Type 0} → (A → Tree) → Option A → List Tree
if_written view None = []
if_written view (Some written) = view written ∷ []

-- how many trees that is
abbrev pub count_written : {A : Type 0} → Option A → ℕ
count_written None = 0
count_written (Some written) = 1

-- what has no number and no place of its own, at this place
abbrev pub placed : Span → Form × List Tree → Tree
placed at made = node made.0 0 at made.1

-- Types

abbrev pub rose_of_type : Typing → Tree
rose_of_type typing = node (form.«Type» typing.is_const typing.base typing.axes) typing.number typing.at []

-- Expressions: what an expression is without its parts, and these

abbrev pub Layer : (Type 0 → Type 0 → Type 0 → Type 0 → Type 0 → Type 0 → Type 0 → Type 0 → Type 0) → Type 0
Layer F = F (Form × List Tree) (Form × List Tree) (Span → Form × List Tree) Tree Tree Tree Tree Tree

abbrev pub expr_layer : Layer ExprForm-F → Form × List Tree
expr_layer (ExprForm-F.Name name) = (form.Name name, [])
expr_layer (ExprForm-F.Number n) = (form.Number n, [])
expr_layer (ExprForm-F.Text contents) = (form.Text contents, [])
expr_layer ExprForm-F.True = (form.True, [])
expr_layer ExprForm-F.False = (form.False, [])
expr_layer ExprForm-F.None = (form.None, [])
expr_layer (ExprForm-F.Sizeof typing) = (form.Sizeof, rose_of_type typing ∷ [])
expr_layer (ExprForm-F.Tuple items) = (form.Tuple, items)
expr_layer (ExprForm-F.List items) = (form.ListDisplay, items)
expr_layer (ExprForm-F.Dict entries) = (form.Dict, entries)
expr_layer (ExprForm-F.Row atom trailers) = (form.Row, atom ∷ map (λ (trailer : Span → Form × List Tree). placed (at_of atom) (trailer (at_of atom))) trailers)
expr_layer (ExprForm-F.Unary op operand) = (form.Unary op, operand ∷ [])
expr_layer (ExprForm-F.Cast typing operand) = (form.Cast, rose_of_type typing ∷ operand ∷ [])
expr_layer (ExprForm-F.Chain first links) = (form.Chain, first ∷ links)
expr_layer (ExprForm-F.Compare first comparisons) = (form.Compare, first ∷ comparisons)
expr_layer (ExprForm-F.Not operand) = (form.Not, operand ∷ [])
expr_layer (ExprForm-F.And operands) = (form.And, operands)
expr_layer (ExprForm-F.Or operands) = (form.Or, operands)
expr_layer (ExprForm-F.Conditional value test otherwise) = (form.Conditional, value ∷ test ∷ otherwise ∷ [])

abbrev pub expr_node : Layer Expr-F → Tree
expr_node e = node e.form.0 e.number e.at e.form.1

abbrev pub entry_node : Layer Entry-F → Tree
entry_node entry = node form.Entry 0 (at_of entry.key) (entry.key ∷ entry.value ∷ [])

-- what a trailer is without its parts, and these, for the place of its row
abbrev pub trailer_layer : Layer Trailer-F → Span → Form × List Tree
trailer_layer (Trailer-F.Attribute name) at = (form.Attribute name, [])
trailer_layer (Trailer-F.Call arguments) at = (form.Call, arguments)
trailer_layer (Trailer-F.Subscript items comma) at = (form.Subscript comma, map (placed at) items)

abbrev pub argument_node : Layer Argument-F → Tree
argument_node argument = node (form.Argument argument.name) 0 (at_of argument.value) (argument.value ∷ [])

abbrev pub item_layer : Layer Item-F → Form × List Tree
item_layer (Item-F.Index index) = (form.Index, index ∷ [])
item_layer (Item-F.Slice from to step) =
    let itself : Tree → Tree = λ part. part in
    (form.Slice (is_some from) (is_some to) (is_some step), if_written itself from ++ (if_written itself to ++ if_written itself step))
item_layer Item-F.Ellipsis = (form.Ellipsis, [])

abbrev pub link_node : Layer Link-F → Tree
link_node link = node (form.Link link.op) 0 (at_of link.operand) (link.operand ∷ [])

abbrev pub comparison_node : Layer Comparison-F → Tree
comparison_node comparison = node (form.Comparison comparison.op) 0 (at_of comparison.operand) (comparison.operand ∷ [])

unfoldable pub rose_of_expr : Expr → Tree
rose_of_expr = fold-Expr (Form × List Tree) (Form × List Tree) (Span → Form × List Tree) Tree Tree Tree Tree Tree
    expr_layer item_layer trailer_layer argument_node comparison_node entry_node expr_node link_node

unfoldable pub rose_of_entry : Entry → Tree
rose_of_entry = fold-Entry (Form × List Tree) (Form × List Tree) (Span → Form × List Tree) Tree Tree Tree Tree Tree
    expr_layer item_layer trailer_layer argument_node comparison_node entry_node expr_node link_node

unfoldable pub rose_of_argument : Argument → Tree
rose_of_argument = fold-Argument (Form × List Tree) (Form × List Tree) (Span → Form × List Tree) Tree Tree Tree Tree Tree
    expr_layer item_layer trailer_layer argument_node comparison_node entry_node expr_node link_node

unfoldable pub rose_of_link : Link → Tree
rose_of_link = fold-Link (Form × List Tree) (Form × List Tree) (Span → Form × List Tree) Tree Tree Tree Tree Tree
    expr_layer item_layer trailer_layer argument_node comparison_node entry_node expr_node link_node

unfoldable pub rose_of_comparison : Comparison → Tree
rose_of_comparison = fold-Comparison (Form × List Tree) (Form × List Tree) (Span → Form × List Tree) Tree Tree Tree Tree Tree
    expr_layer item_layer trailer_layer argument_node comparison_node entry_node expr_node link_node

-- what each is without its parts, and these; of a trailer for the place of its row
unfoldable pub expr_parts : ExprForm → Form × List Tree
expr_parts = fold-ExprForm (Form × List Tree) (Form × List Tree) (Span → Form × List Tree) Tree Tree Tree Tree Tree
    expr_layer item_layer trailer_layer argument_node comparison_node entry_node expr_node link_node

unfoldable pub trailer_parts : Trailer → Span → Form × List Tree
trailer_parts = fold-Trailer (Form × List Tree) (Form × List Tree) (Span → Form × List Tree) Tree Tree Tree Tree Tree
    expr_layer item_layer trailer_layer argument_node comparison_node entry_node expr_node link_node

unfoldable pub item_parts : Item → Form × List Tree
item_parts = fold-Item (Form × List Tree) (Form × List Tree) (Span → Form × List Tree) Tree Tree Tree Tree Tree
    expr_layer item_layer trailer_layer argument_node comparison_node entry_node expr_node link_node

-- a trailer and an item at the place of their row
abbrev pub rose_of_trailer : Trailer → Span → Tree
rose_of_trailer trailer at = placed at (trailer_parts trailer at)

abbrev pub rose_of_item : Item → Span → Tree
rose_of_item item at = placed at (item_parts item)
