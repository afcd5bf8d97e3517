-- The marks of an expression, one equation for each form.
use Rattle.std.proofs.Common.{◌≡◌, ℕ, ℤ, Bool, List, [], ◌∷◌, ◌++◌, Option, Some, None, map, sym, ap, ◌∙◌}
use Rattle.std.specs.Option.{option_map}
use Rattle.px_base.specs.declared.refusals.Span.{Span}
use Rattle.px_base.specs.declared.c_types.BinOp.{BinOp}
use Rattle.px_base.specs.declared.c_types.UnOp.{UnOp}
use Rattle.px_tree.specs.declared.typings.«Type».{«Type» as Typing}
use Rattle.px_tree.specs.declared.expressions.CompareOp.{CompareOp}
use Rattle.px_tree.specs.declared.expressions.Expr.{Expr}
use Rattle.px_tree.specs.declared.expressions.ExprForm.{ExprForm, roll-ExprForm}
use Rattle.px_tree.specs.declared.expressions.Entry.{Entry}
use Rattle.px_tree.specs.declared.expressions.Trailer.{Trailer, roll-Trailer}
use Rattle.px_tree.specs.declared.expressions.Argument.{Argument}
use Rattle.px_tree.specs.declared.expressions.Item.{Item, roll-Item}
use Rattle.px_tree.specs.declared.expressions.Link.{Link}
use Rattle.px_tree.specs.declared.expressions.Comparison.{Comparison}
use Rattle.px_tree.specs.declared.expressions.ExprForm.TheOpen.{ExprForm-F, Trailer-F, Item-F}
use Rattle.px_tree.specs.declared.expressions.ExprForm.TheFolds.{fold-ExprForm, fold-Entry, fold-Trailer, fold-Argument, fold-Item, fold-Link, fold-Comparison, fold-roll-Expr, fold-roll-ExprForm, fold-roll-Entry, fold-roll-Trailer, fold-roll-Argument, fold-roll-Item, fold-roll-Link, fold-roll-Comparison, map-ExprForm, map-Trailer, map-Item}
use Rattle.px_tree.specs.declared.expressions.ExprForm.TheVariants as form
use Rattle.px_tree.specs.declared.expressions.ExprForm.TheVariants.{rolls-Name, rolls-Number, rolls-Text, rolls-True, rolls-False, rolls-None, rolls-Sizeof, rolls-Tuple, rolls-List, rolls-Dict, rolls-Row, rolls-Unary, rolls-Cast, rolls-Chain, rolls-Compare, rolls-Not, rolls-And, rolls-Or, rolls-Conditional}
use Rattle.px_tree.specs.declared.expressions.Trailer.TheVariants as trailer
use Rattle.px_tree.specs.declared.expressions.Trailer.TheVariants.{rolls-Attribute, rolls-Call, rolls-Subscript}
use Rattle.px_tree.specs.declared.expressions.Item.TheVariants as item
use Rattle.px_tree.specs.declared.expressions.Item.TheVariants.{rolls-Index, rolls-Slice, rolls-Ellipsis}
use Rattle.px_exprs.specs.Grammar.{node, link, comparison, argument, entry}
use Rattle.px_exprs.specs.Marks.{Mark, marks_in_parts, marks_in_part, marks_in_name, marks_in_form, marks_in_item, marks_in_trailer, marks_in_argument, marks_in_comparison, marks_in_entry, marks_of_node, marks_in_link, node_marks}

-- the marks in each other type of the cycle

abbrev pub form_marks : ExprForm → List Mark
form_marks =
    fold-ExprForm (List Mark) (List Mark) (List Mark) (List Mark) (List Mark) (List Mark) (List Mark) (List Mark)
    marks_in_form marks_in_item marks_in_trailer marks_in_argument marks_in_comparison marks_in_entry marks_of_node marks_in_link

abbrev pub entry_marks : Entry → List Mark
entry_marks =
    fold-Entry (List Mark) (List Mark) (List Mark) (List Mark) (List Mark) (List Mark) (List Mark) (List Mark)
    marks_in_form marks_in_item marks_in_trailer marks_in_argument marks_in_comparison marks_in_entry marks_of_node marks_in_link

abbrev pub trailer_marks : Trailer → List Mark
trailer_marks =
    fold-Trailer (List Mark) (List Mark) (List Mark) (List Mark) (List Mark) (List Mark) (List Mark) (List Mark)
    marks_in_form marks_in_item marks_in_trailer marks_in_argument marks_in_comparison marks_in_entry marks_of_node marks_in_link

abbrev pub argument_marks : Argument → List Mark
argument_marks =
    fold-Argument (List Mark) (List Mark) (List Mark) (List Mark) (List Mark) (List Mark) (List Mark) (List Mark)
    marks_in_form marks_in_item marks_in_trailer marks_in_argument marks_in_comparison marks_in_entry marks_of_node marks_in_link

abbrev pub item_marks : Item → List Mark
item_marks =
    fold-Item (List Mark) (List Mark) (List Mark) (List Mark) (List Mark) (List Mark) (List Mark) (List Mark)
    marks_in_form marks_in_item marks_in_trailer marks_in_argument marks_in_comparison marks_in_entry marks_of_node marks_in_link

abbrev pub link_marks : Link → List Mark
link_marks =
    fold-Link (List Mark) (List Mark) (List Mark) (List Mark) (List Mark) (List Mark) (List Mark) (List Mark)
    marks_in_form marks_in_item marks_in_trailer marks_in_argument marks_in_comparison marks_in_entry marks_of_node marks_in_link

abbrev pub comparison_marks : Comparison → List Mark
comparison_marks =
    fold-Comparison (List Mark) (List Mark) (List Mark) (List Mark) (List Mark) (List Mark) (List Mark) (List Mark)
    marks_in_form marks_in_item marks_in_trailer marks_in_argument marks_in_comparison marks_in_entry marks_of_node marks_in_link

-- Structs

pub of_node : (k : ℕ) (at : Span) (f : ExprForm) → node_marks (node k at f) ≡ Mark.place at ∷ form_marks f
of_node k at f =
    fold-roll-Expr (List Mark) (List Mark) (List Mark) (List Mark) (List Mark) (List Mark) (List Mark) (List Mark)
    marks_in_form marks_in_item marks_in_trailer marks_in_argument marks_in_comparison marks_in_entry marks_of_node marks_in_link
    (record { number = k; at = at; form = f })

pub of_link : (op : BinOp) (operand : Expr) → link_marks (link op operand) ≡ node_marks operand
of_link op operand =
    fold-roll-Link (List Mark) (List Mark) (List Mark) (List Mark) (List Mark) (List Mark) (List Mark) (List Mark)
    marks_in_form marks_in_item marks_in_trailer marks_in_argument marks_in_comparison marks_in_entry marks_of_node marks_in_link
    (record { op = op; operand = operand })

pub of_comparison : (op : CompareOp) (operand : Expr) → comparison_marks (comparison op operand) ≡ node_marks operand
of_comparison op operand =
    fold-roll-Comparison (List Mark) (List Mark) (List Mark) (List Mark) (List Mark) (List Mark) (List Mark) (List Mark)
    marks_in_form marks_in_item marks_in_trailer marks_in_argument marks_in_comparison marks_in_entry marks_of_node marks_in_link
    (record { op = op; operand = operand })

pub of_argument : (name : Option (List ℕ)) (value : Expr) → argument_marks (argument name value) ≡ marks_in_name name ++ node_marks value
of_argument name value =
    fold-roll-Argument (List Mark) (List Mark) (List Mark) (List Mark) (List Mark) (List Mark) (List Mark) (List Mark)
    marks_in_form marks_in_item marks_in_trailer marks_in_argument marks_in_comparison marks_in_entry marks_of_node marks_in_link
    (record { name = name; value = value })

pub of_entry : (key value : Expr) → entry_marks (entry key value) ≡ node_marks key ++ node_marks value
of_entry key value =
    fold-roll-Entry (List Mark) (List Mark) (List Mark) (List Mark) (List Mark) (List Mark) (List Mark) (List Mark)
    marks_in_form marks_in_item marks_in_trailer marks_in_argument marks_in_comparison marks_in_entry marks_of_node marks_in_link
    (record { key = key; value = value })

-- Enums, each by its layer

as_form : (layer : ExprForm-F ExprForm Item Trailer Argument Comparison Entry Expr Link) {x : ExprForm} → roll-ExprForm layer ≡ x → form_marks x
    ≡ marks_in_form (map-ExprForm ExprForm Item Trailer Argument Comparison Entry Expr Link (List Mark) (List Mark) (List Mark) (List Mark) (List Mark) (List Mark) (List Mark) (List Mark)
    form_marks item_marks trailer_marks argument_marks comparison_marks entry_marks node_marks link_marks layer)
as_form layer is =
    ap form_marks (sym is) ∙
    fold-roll-ExprForm (List Mark) (List Mark) (List Mark) (List Mark) (List Mark) (List Mark) (List Mark) (List Mark)
    marks_in_form marks_in_item marks_in_trailer marks_in_argument marks_in_comparison marks_in_entry marks_of_node marks_in_link layer

as_trailer : (layer : Trailer-F ExprForm Item Trailer Argument Comparison Entry Expr Link) {x : Trailer} → roll-Trailer layer ≡ x → trailer_marks x
    ≡ marks_in_trailer (map-Trailer ExprForm Item Trailer Argument Comparison Entry Expr Link (List Mark) (List Mark) (List Mark) (List Mark) (List Mark) (List Mark) (List Mark) (List Mark)
    form_marks item_marks trailer_marks argument_marks comparison_marks entry_marks node_marks link_marks layer)
as_trailer layer is =
    ap trailer_marks (sym is) ∙
    fold-roll-Trailer (List Mark) (List Mark) (List Mark) (List Mark) (List Mark) (List Mark) (List Mark) (List Mark)
    marks_in_form marks_in_item marks_in_trailer marks_in_argument marks_in_comparison marks_in_entry marks_of_node marks_in_link layer

as_item : (layer : Item-F ExprForm Item Trailer Argument Comparison Entry Expr Link) {x : Item} → roll-Item layer ≡ x → item_marks x
    ≡ marks_in_item (map-Item ExprForm Item Trailer Argument Comparison Entry Expr Link (List Mark) (List Mark) (List Mark) (List Mark) (List Mark) (List Mark) (List Mark) (List Mark)
    form_marks item_marks trailer_marks argument_marks comparison_marks entry_marks node_marks link_marks layer)
as_item layer is =
    ap item_marks (sym is) ∙
    fold-roll-Item (List Mark) (List Mark) (List Mark) (List Mark) (List Mark) (List Mark) (List Mark) (List Mark)
    marks_in_form marks_in_item marks_in_trailer marks_in_argument marks_in_comparison marks_in_entry marks_of_node marks_in_link layer

-- Forms

pub of_form_Name : (spelled : List ℕ) → form_marks (form.Name spelled) ≡ Mark.name spelled ∷ []
of_form_Name spelled = as_form (ExprForm-F.Name spelled) (rolls-Name spelled)

pub of_form_Number : (n : ℤ) → form_marks (form.Number n) ≡ Mark.number n ∷ []
of_form_Number n = as_form (ExprForm-F.Number n) (rolls-Number n)

pub of_form_Text : (contents : List (List ℕ)) → form_marks (form.Text contents) ≡ map Mark.text contents
of_form_Text contents = as_form (ExprForm-F.Text contents) (rolls-Text contents)

pub of_form_True : form_marks form.True ≡ []
of_form_True = as_form ExprForm-F.True rolls-True

pub of_form_False : form_marks form.False ≡ []
of_form_False = as_form ExprForm-F.False rolls-False

pub of_form_None : form_marks form.None ≡ []
of_form_None = as_form ExprForm-F.None rolls-None

pub of_form_Sizeof : (typing : Typing) → form_marks (form.Sizeof typing) ≡ Mark.place typing.at ∷ []
of_form_Sizeof typing = as_form (ExprForm-F.Sizeof typing) (rolls-Sizeof typing)

pub of_form_Tuple : (items : List Expr) → form_marks (form.Tuple items) ≡ marks_in_parts (map node_marks items)
of_form_Tuple items = as_form (ExprForm-F.Tuple items) (rolls-Tuple items)

pub of_form_List : (items : List Expr) → form_marks (form.List items) ≡ marks_in_parts (map node_marks items)
of_form_List items = as_form (ExprForm-F.List items) (rolls-List items)

pub of_form_Dict : (entries : List Entry) → form_marks (form.Dict entries) ≡ marks_in_parts (map entry_marks entries)
of_form_Dict entries = as_form (ExprForm-F.Dict entries) (rolls-Dict entries)

pub of_form_Row : (atom : Expr) (trailers : List Trailer) → form_marks (form.Row atom trailers) ≡ node_marks atom ++ marks_in_parts (map trailer_marks trailers)
of_form_Row atom trailers = as_form (ExprForm-F.Row atom trailers) (rolls-Row atom trailers)

pub of_form_Unary : (op : UnOp) (operand : Expr) → form_marks (form.Unary op operand) ≡ node_marks operand
of_form_Unary op operand = as_form (ExprForm-F.Unary op operand) (rolls-Unary op operand)

pub of_form_Cast : (typing : Typing) (operand : Expr) → form_marks (form.Cast typing operand) ≡ Mark.place typing.at ∷ node_marks operand
of_form_Cast typing operand = as_form (ExprForm-F.Cast typing operand) (rolls-Cast typing operand)

pub of_form_Chain : (first : Expr) (links : List Link) → form_marks (form.Chain first links) ≡ node_marks first ++ marks_in_parts (map link_marks links)
of_form_Chain first links = as_form (ExprForm-F.Chain first links) (rolls-Chain first links)

pub of_form_Compare : (first : Expr) (comparisons : List Comparison) → form_marks (form.Compare first comparisons) ≡ node_marks first ++ marks_in_parts (map comparison_marks comparisons)
of_form_Compare first comparisons = as_form (ExprForm-F.Compare first comparisons) (rolls-Compare first comparisons)

pub of_form_Not : (operand : Expr) → form_marks (form.Not operand) ≡ node_marks operand
of_form_Not operand = as_form (ExprForm-F.Not operand) (rolls-Not operand)

pub of_form_And : (operands : List Expr) → form_marks (form.And operands) ≡ marks_in_parts (map node_marks operands)
of_form_And operands = as_form (ExprForm-F.And operands) (rolls-And operands)

pub of_form_Or : (operands : List Expr) → form_marks (form.Or operands) ≡ marks_in_parts (map node_marks operands)
of_form_Or operands = as_form (ExprForm-F.Or operands) (rolls-Or operands)

pub of_form_Conditional : (value test otherwise : Expr) → form_marks (form.Conditional value test otherwise) ≡ node_marks value ++ (node_marks test ++ node_marks otherwise)
of_form_Conditional value test otherwise = as_form (ExprForm-F.Conditional value test otherwise) (rolls-Conditional value test otherwise)

-- Trailers and items

pub of_trailer_Attribute : (name : List ℕ) → trailer_marks (trailer.Attribute name) ≡ Mark.name name ∷ []
of_trailer_Attribute name = as_trailer (Trailer-F.Attribute name) (rolls-Attribute name)

pub of_trailer_Call : (arguments : List Argument) → trailer_marks (trailer.Call arguments) ≡ marks_in_parts (map argument_marks arguments)
of_trailer_Call arguments = as_trailer (Trailer-F.Call arguments) (rolls-Call arguments)

pub of_trailer_Subscript : (items : List Item) (comma : Bool) → trailer_marks (trailer.Subscript items comma) ≡ marks_in_parts (map item_marks items)
of_trailer_Subscript items comma = as_trailer (Trailer-F.Subscript items comma) (rolls-Subscript items comma)

-- the marks in an expression that may be left out
abbrev pub maybe_marks : Option Expr → List Mark
maybe_marks part = marks_in_part (option_map node_marks part)

pub of_item_Index : (e : Expr) → item_marks (item.Index e) ≡ node_marks e
of_item_Index e = as_item (Item-F.Index e) (rolls-Index e)

pub of_item_Ellipsis : item_marks item.Ellipsis ≡ []
of_item_Ellipsis = as_item Item-F.Ellipsis rolls-Ellipsis

pub of_item_Slice : (from to step : Option Expr) → item_marks (item.Slice from to step) ≡ maybe_marks from ++ (maybe_marks to ++ maybe_marks step)
of_item_Slice None None None = as_item (Item-F.Slice None None None) (rolls-Slice None None None)
of_item_Slice None None (Some c) = as_item (Item-F.Slice None None (Some c)) (rolls-Slice None None (Some c))
of_item_Slice None (Some b) None = as_item (Item-F.Slice None (Some b) None) (rolls-Slice None (Some b) None)
of_item_Slice None (Some b) (Some c) = as_item (Item-F.Slice None (Some b) (Some c)) (rolls-Slice None (Some b) (Some c))
of_item_Slice (Some a) None None = as_item (Item-F.Slice (Some a) None None) (rolls-Slice (Some a) None None)
of_item_Slice (Some a) None (Some c) = as_item (Item-F.Slice (Some a) None (Some c)) (rolls-Slice (Some a) None (Some c))
of_item_Slice (Some a) (Some b) None = as_item (Item-F.Slice (Some a) (Some b) None) (rolls-Slice (Some a) (Some b) None)
of_item_Slice (Some a) (Some b) (Some c) = as_item (Item-F.Slice (Some a) (Some b) (Some c)) (rolls-Slice (Some a) (Some b) (Some c))
