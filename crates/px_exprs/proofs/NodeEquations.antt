-- The numbers of the nodes of an expression, one equation for each form.
use Rattle.std.proofs.Common.{◌≡◌, ℕ, ℤ, Bool, List, [], ◌∷◌, ◌++◌, Option, Some, None, map, sym, ap, ◌∙◌}
use Rattle.std.specs.List.{concat}
use Rattle.std.specs.Option.{option_map}
use Rattle.px_base.specs.declared.refusals.Span.{Span}
use Rattle.px_base.specs.declared.c_types.BinOp.{BinOp}
use Rattle.px_base.specs.declared.c_types.UnOp.{UnOp}
use Rattle.px_tree.specs.declared.typings.«Type».{«Type» as Typing}
use Rattle.px_tree.specs.declared.expressions.CompareOp.{CompareOp}
use Rattle.px_tree.specs.declared.expressions.Expr.{Expr}
use Rattle.px_tree.specs.declared.expressions.ExprForm.{ExprForm}
use Rattle.px_tree.specs.declared.expressions.Entry.{Entry}
use Rattle.px_tree.specs.declared.expressions.Trailer.{Trailer}
use Rattle.px_tree.specs.declared.expressions.Argument.{Argument}
use Rattle.px_tree.specs.declared.expressions.Item.{Item}
use Rattle.px_tree.specs.declared.expressions.Link.{Link}
use Rattle.px_tree.specs.declared.expressions.Comparison.{Comparison}
use Rattle.px_tree.specs.declared.expressions.ExprForm.TheOpen.{ExprForm-F, Trailer-F, Item-F}
use Rattle.px_tree.specs.declared.expressions.ExprForm.TheFolds.{fold-ExprForm, fold-Entry, fold-Trailer, fold-Argument, fold-Item, fold-Link, fold-Comparison, fold-roll-Expr, fold-roll-ExprForm, fold-roll-Entry, fold-roll-Trailer, fold-roll-Argument, fold-roll-Item, fold-roll-Link, fold-roll-Comparison}
use Rattle.px_tree.specs.declared.expressions.ExprForm.TheVariants as form
use Rattle.px_tree.specs.declared.expressions.ExprForm.TheVariants.{rolls-Name, rolls-Number, rolls-Text, rolls-True, rolls-False, rolls-None, rolls-Sizeof, rolls-Tuple, rolls-List, rolls-Dict, rolls-Row, rolls-Unary, rolls-Cast, rolls-Chain, rolls-Compare, rolls-Not, rolls-And, rolls-Or, rolls-Conditional}
use Rattle.px_tree.specs.declared.expressions.Trailer.TheVariants as trailer
use Rattle.px_tree.specs.declared.expressions.Trailer.TheVariants.{rolls-Attribute, rolls-Call, rolls-Subscript}
use Rattle.px_tree.specs.declared.expressions.Item.TheVariants as item
use Rattle.px_tree.specs.declared.expressions.Item.TheVariants.{rolls-Index, rolls-Slice, rolls-Ellipsis}
use Rattle.px_exprs.specs.Grammar.{node, link, comparison, argument, entry}
use Rattle.px_exprs.specs.NodeNumbers.{numbers_in_part, numbers_in_form, numbers_in_item, numbers_in_trailer, numbers_in_argument, numbers_in_comparison, numbers_in_entry, numbers_of_node, numbers_in_link, node_numbers}

-- the numbers of the nodes in each other type of the cycle

abbrev pub form_numbers : ExprForm → List ℕ
form_numbers = fold-ExprForm (List ℕ) (List ℕ) (List ℕ) (List ℕ) (List ℕ) (List ℕ) (List ℕ) (List ℕ) numbers_in_form numbers_in_item numbers_in_trailer numbers_in_argument numbers_in_comparison numbers_in_entry numbers_of_node numbers_in_link

abbrev pub entry_numbers : Entry → List ℕ
entry_numbers = fold-Entry (List ℕ) (List ℕ) (List ℕ) (List ℕ) (List ℕ) (List ℕ) (List ℕ) (List ℕ) numbers_in_form numbers_in_item numbers_in_trailer numbers_in_argument numbers_in_comparison numbers_in_entry numbers_of_node numbers_in_link

abbrev pub trailer_numbers : Trailer → List ℕ
trailer_numbers = fold-Trailer (List ℕ) (List ℕ) (List ℕ) (List ℕ) (List ℕ) (List ℕ) (List ℕ) (List ℕ) numbers_in_form numbers_in_item numbers_in_trailer numbers_in_argument numbers_in_comparison numbers_in_entry numbers_of_node numbers_in_link

abbrev pub argument_numbers : Argument → List ℕ
argument_numbers = fold-Argument (List ℕ) (List ℕ) (List ℕ) (List ℕ) (List ℕ) (List ℕ) (List ℕ) (List ℕ) numbers_in_form numbers_in_item numbers_in_trailer numbers_in_argument numbers_in_comparison numbers_in_entry numbers_of_node numbers_in_link

abbrev pub item_numbers : Item → List ℕ
item_numbers = fold-Item (List ℕ) (List ℕ) (List ℕ) (List ℕ) (List ℕ) (List ℕ) (List ℕ) (List ℕ) numbers_in_form numbers_in_item numbers_in_trailer numbers_in_argument numbers_in_comparison numbers_in_entry numbers_of_node numbers_in_link

abbrev pub link_numbers : Link → List ℕ
link_numbers = fold-Link (List ℕ) (List ℕ) (List ℕ) (List ℕ) (List ℕ) (List ℕ) (List ℕ) (List ℕ) numbers_in_form numbers_in_item numbers_in_trailer numbers_in_argument numbers_in_comparison numbers_in_entry numbers_of_node numbers_in_link

abbrev pub comparison_numbers : Comparison → List ℕ
comparison_numbers = fold-Comparison (List ℕ) (List ℕ) (List ℕ) (List ℕ) (List ℕ) (List ℕ) (List ℕ) (List ℕ) numbers_in_form numbers_in_item numbers_in_trailer numbers_in_argument numbers_in_comparison numbers_in_entry numbers_of_node numbers_in_link

-- Structs

pub of_node : (k : ℕ) (at : Span) (f : ExprForm) → node_numbers (node k at f) ≡ k ∷ form_numbers f
of_node k at f = fold-roll-Expr (List ℕ) (List ℕ) (List ℕ) (List ℕ) (List ℕ) (List ℕ) (List ℕ) (List ℕ) numbers_in_form numbers_in_item numbers_in_trailer numbers_in_argument numbers_in_comparison numbers_in_entry numbers_of_node numbers_in_link (record { number = k; at = at; form = f })

pub of_link : (op : BinOp) (operand : Expr) → link_numbers (link op operand) ≡ node_numbers operand
of_link op operand = fold-roll-Link (List ℕ) (List ℕ) (List ℕ) (List ℕ) (List ℕ) (List ℕ) (List ℕ) (List ℕ) numbers_in_form numbers_in_item numbers_in_trailer numbers_in_argument numbers_in_comparison numbers_in_entry numbers_of_node numbers_in_link (record { op = op; operand = operand })

pub of_comparison : (op : CompareOp) (operand : Expr) → comparison_numbers (comparison op operand) ≡ node_numbers operand
of_comparison op operand = fold-roll-Comparison (List ℕ) (List ℕ) (List ℕ) (List ℕ) (List ℕ) (List ℕ) (List ℕ) (List ℕ) numbers_in_form numbers_in_item numbers_in_trailer numbers_in_argument numbers_in_comparison numbers_in_entry numbers_of_node numbers_in_link (record { op = op; operand = operand })

pub of_argument : (name : Option (List ℕ)) (value : Expr) → argument_numbers (argument name value) ≡ node_numbers value
of_argument name value = fold-roll-Argument (List ℕ) (List ℕ) (List ℕ) (List ℕ) (List ℕ) (List ℕ) (List ℕ) (List ℕ) numbers_in_form numbers_in_item numbers_in_trailer numbers_in_argument numbers_in_comparison numbers_in_entry numbers_of_node numbers_in_link (record { name = name; value = value })

pub of_entry : (key value : Expr) → entry_numbers (entry key value) ≡ node_numbers key ++ node_numbers value
of_entry key value = fold-roll-Entry (List ℕ) (List ℕ) (List ℕ) (List ℕ) (List ℕ) (List ℕ) (List ℕ) (List ℕ) numbers_in_form numbers_in_item numbers_in_trailer numbers_in_argument numbers_in_comparison numbers_in_entry numbers_of_node numbers_in_link (record { key = key; value = value })

-- Forms

pub of_form_Name : (spelled : List ℕ) → form_numbers (form.Name spelled) ≡ []
of_form_Name spelled = ap form_numbers (sym (rolls-Name spelled)) ∙ fold-roll-ExprForm (List ℕ) (List ℕ) (List ℕ) (List ℕ) (List ℕ) (List ℕ) (List ℕ) (List ℕ) numbers_in_form numbers_in_item numbers_in_trailer numbers_in_argument numbers_in_comparison numbers_in_entry numbers_of_node numbers_in_link (ExprForm-F.Name spelled)

pub of_form_Number : (n : ℤ) → form_numbers (form.Number n) ≡ []
of_form_Number n = ap form_numbers (sym (rolls-Number n)) ∙ fold-roll-ExprForm (List ℕ) (List ℕ) (List ℕ) (List ℕ) (List ℕ) (List ℕ) (List ℕ) (List ℕ) numbers_in_form numbers_in_item numbers_in_trailer numbers_in_argument numbers_in_comparison numbers_in_entry numbers_of_node numbers_in_link (ExprForm-F.Number n)

pub of_form_Text : (contents : List (List ℕ)) → form_numbers (form.Text contents) ≡ []
of_form_Text contents = ap form_numbers (sym (rolls-Text contents)) ∙ fold-roll-ExprForm (List ℕ) (List ℕ) (List ℕ) (List ℕ) (List ℕ) (List ℕ) (List ℕ) (List ℕ) numbers_in_form numbers_in_item numbers_in_trailer numbers_in_argument numbers_in_comparison numbers_in_entry numbers_of_node numbers_in_link (ExprForm-F.Text contents)

pub of_form_True : form_numbers form.True ≡ []
of_form_True = ap form_numbers (sym rolls-True) ∙ fold-roll-ExprForm (List ℕ) (List ℕ) (List ℕ) (List ℕ) (List ℕ) (List ℕ) (List ℕ) (List ℕ) numbers_in_form numbers_in_item numbers_in_trailer numbers_in_argument numbers_in_comparison numbers_in_entry numbers_of_node numbers_in_link ExprForm-F.True

pub of_form_False : form_numbers form.False ≡ []
of_form_False = ap form_numbers (sym rolls-False) ∙ fold-roll-ExprForm (List ℕ) (List ℕ) (List ℕ) (List ℕ) (List ℕ) (List ℕ) (List ℕ) (List ℕ) numbers_in_form numbers_in_item numbers_in_trailer numbers_in_argument numbers_in_comparison numbers_in_entry numbers_of_node numbers_in_link ExprForm-F.False

pub of_form_None : form_numbers form.None ≡ []
of_form_None = ap form_numbers (sym rolls-None) ∙ fold-roll-ExprForm (List ℕ) (List ℕ) (List ℕ) (List ℕ) (List ℕ) (List ℕ) (List ℕ) (List ℕ) numbers_in_form numbers_in_item numbers_in_trailer numbers_in_argument numbers_in_comparison numbers_in_entry numbers_of_node numbers_in_link ExprForm-F.None

pub of_form_Sizeof : (typing : Typing) → form_numbers (form.Sizeof typing) ≡ typing.number ∷ []
of_form_Sizeof typing = ap form_numbers (sym (rolls-Sizeof typing)) ∙ fold-roll-ExprForm (List ℕ) (List ℕ) (List ℕ) (List ℕ) (List ℕ) (List ℕ) (List ℕ) (List ℕ) numbers_in_form numbers_in_item numbers_in_trailer numbers_in_argument numbers_in_comparison numbers_in_entry numbers_of_node numbers_in_link (ExprForm-F.Sizeof typing)

pub of_form_Tuple : (items : List Expr) → form_numbers (form.Tuple items) ≡ concat (map node_numbers items)
of_form_Tuple items = ap form_numbers (sym (rolls-Tuple items)) ∙ fold-roll-ExprForm (List ℕ) (List ℕ) (List ℕ) (List ℕ) (List ℕ) (List ℕ) (List ℕ) (List ℕ) numbers_in_form numbers_in_item numbers_in_trailer numbers_in_argument numbers_in_comparison numbers_in_entry numbers_of_node numbers_in_link (ExprForm-F.Tuple items)

pub of_form_List : (items : List Expr) → form_numbers (form.List items) ≡ concat (map node_numbers items)
of_form_List items = ap form_numbers (sym (rolls-List items)) ∙ fold-roll-ExprForm (List ℕ) (List ℕ) (List ℕ) (List ℕ) (List ℕ) (List ℕ) (List ℕ) (List ℕ) numbers_in_form numbers_in_item numbers_in_trailer numbers_in_argument numbers_in_comparison numbers_in_entry numbers_of_node numbers_in_link (ExprForm-F.List items)

pub of_form_Dict : (entries : List Entry) → form_numbers (form.Dict entries) ≡ concat (map entry_numbers entries)
of_form_Dict entries = ap form_numbers (sym (rolls-Dict entries)) ∙ fold-roll-ExprForm (List ℕ) (List ℕ) (List ℕ) (List ℕ) (List ℕ) (List ℕ) (List ℕ) (List ℕ) numbers_in_form numbers_in_item numbers_in_trailer numbers_in_argument numbers_in_comparison numbers_in_entry numbers_of_node numbers_in_link (ExprForm-F.Dict entries)

pub of_form_Row : (atom : Expr) (trailers : List Trailer) → form_numbers (form.Row atom trailers) ≡ node_numbers atom ++ concat (map trailer_numbers trailers)
of_form_Row atom trailers = ap form_numbers (sym (rolls-Row atom trailers)) ∙ fold-roll-ExprForm (List ℕ) (List ℕ) (List ℕ) (List ℕ) (List ℕ) (List ℕ) (List ℕ) (List ℕ) numbers_in_form numbers_in_item numbers_in_trailer numbers_in_argument numbers_in_comparison numbers_in_entry numbers_of_node numbers_in_link (ExprForm-F.Row atom trailers)

pub of_form_Unary : (op : UnOp) (operand : Expr) → form_numbers (form.Unary op operand) ≡ node_numbers operand
of_form_Unary op operand = ap form_numbers (sym (rolls-Unary op operand)) ∙ fold-roll-ExprForm (List ℕ) (List ℕ) (List ℕ) (List ℕ) (List ℕ) (List ℕ) (List ℕ) (List ℕ) numbers_in_form numbers_in_item numbers_in_trailer numbers_in_argument numbers_in_comparison numbers_in_entry numbers_of_node numbers_in_link (ExprForm-F.Unary op operand)

pub of_form_Cast : (typing : Typing) (operand : Expr) → form_numbers (form.Cast typing operand) ≡ typing.number ∷ node_numbers operand
of_form_Cast typing operand = ap form_numbers (sym (rolls-Cast typing operand)) ∙ fold-roll-ExprForm (List ℕ) (List ℕ) (List ℕ) (List ℕ) (List ℕ) (List ℕ) (List ℕ) (List ℕ) numbers_in_form numbers_in_item numbers_in_trailer numbers_in_argument numbers_in_comparison numbers_in_entry numbers_of_node numbers_in_link (ExprForm-F.Cast typing operand)

pub of_form_Chain : (first : Expr) (links : List Link) → form_numbers (form.Chain first links) ≡ node_numbers first ++ concat (map link_numbers links)
of_form_Chain first links = ap form_numbers (sym (rolls-Chain first links)) ∙ fold-roll-ExprForm (List ℕ) (List ℕ) (List ℕ) (List ℕ) (List ℕ) (List ℕ) (List ℕ) (List ℕ) numbers_in_form numbers_in_item numbers_in_trailer numbers_in_argument numbers_in_comparison numbers_in_entry numbers_of_node numbers_in_link (ExprForm-F.Chain first links)

pub of_form_Compare : (first : Expr) (comparisons : List Comparison) → form_numbers (form.Compare first comparisons) ≡ node_numbers first ++ concat (map comparison_numbers comparisons)
of_form_Compare first comparisons = ap form_numbers (sym (rolls-Compare first comparisons)) ∙ fold-roll-ExprForm (List ℕ) (List ℕ) (List ℕ) (List ℕ) (List ℕ) (List ℕ) (List ℕ) (List ℕ) numbers_in_form numbers_in_item numbers_in_trailer numbers_in_argument numbers_in_comparison numbers_in_entry numbers_of_node numbers_in_link (ExprForm-F.Compare first comparisons)

pub of_form_Not : (operand : Expr) → form_numbers (form.Not operand) ≡ node_numbers operand
of_form_Not operand = ap form_numbers (sym (rolls-Not operand)) ∙ fold-roll-ExprForm (List ℕ) (List ℕ) (List ℕ) (List ℕ) (List ℕ) (List ℕ) (List ℕ) (List ℕ) numbers_in_form numbers_in_item numbers_in_trailer numbers_in_argument numbers_in_comparison numbers_in_entry numbers_of_node numbers_in_link (ExprForm-F.Not operand)

pub of_form_And : (operands : List Expr) → form_numbers (form.And operands) ≡ concat (map node_numbers operands)
of_form_And operands = ap form_numbers (sym (rolls-And operands)) ∙ fold-roll-ExprForm (List ℕ) (List ℕ) (List ℕ) (List ℕ) (List ℕ) (List ℕ) (List ℕ) (List ℕ) numbers_in_form numbers_in_item numbers_in_trailer numbers_in_argument numbers_in_comparison numbers_in_entry numbers_of_node numbers_in_link (ExprForm-F.And operands)

pub of_form_Or : (operands : List Expr) → form_numbers (form.Or operands) ≡ concat (map node_numbers operands)
of_form_Or operands = ap form_numbers (sym (rolls-Or operands)) ∙ fold-roll-ExprForm (List ℕ) (List ℕ) (List ℕ) (List ℕ) (List ℕ) (List ℕ) (List ℕ) (List ℕ) numbers_in_form numbers_in_item numbers_in_trailer numbers_in_argument numbers_in_comparison numbers_in_entry numbers_of_node numbers_in_link (ExprForm-F.Or operands)

pub of_form_Conditional : (value test otherwise : Expr) → form_numbers (form.Conditional value test otherwise) ≡ node_numbers value ++ (node_numbers test ++ node_numbers otherwise)
of_form_Conditional value test otherwise = ap form_numbers (sym (rolls-Conditional value test otherwise)) ∙ fold-roll-ExprForm (List ℕ) (List ℕ) (List ℕ) (List ℕ) (List ℕ) (List ℕ) (List ℕ) (List ℕ) numbers_in_form numbers_in_item numbers_in_trailer numbers_in_argument numbers_in_comparison numbers_in_entry numbers_of_node numbers_in_link (ExprForm-F.Conditional value test otherwise)

-- Trailers and items

pub of_trailer_Attribute : (name : List ℕ) → trailer_numbers (trailer.Attribute name) ≡ []
of_trailer_Attribute name = ap trailer_numbers (sym (rolls-Attribute name)) ∙ fold-roll-Trailer (List ℕ) (List ℕ) (List ℕ) (List ℕ) (List ℕ) (List ℕ) (List ℕ) (List ℕ) numbers_in_form numbers_in_item numbers_in_trailer numbers_in_argument numbers_in_comparison numbers_in_entry numbers_of_node numbers_in_link (Trailer-F.Attribute name)

pub of_trailer_Call : (arguments : List Argument) → trailer_numbers (trailer.Call arguments) ≡ concat (map argument_numbers arguments)
of_trailer_Call arguments = ap trailer_numbers (sym (rolls-Call arguments)) ∙ fold-roll-Trailer (List ℕ) (List ℕ) (List ℕ) (List ℕ) (List ℕ) (List ℕ) (List ℕ) (List ℕ) numbers_in_form numbers_in_item numbers_in_trailer numbers_in_argument numbers_in_comparison numbers_in_entry numbers_of_node numbers_in_link (Trailer-F.Call arguments)

pub of_trailer_Subscript : (items : List Item) (comma : Bool) → trailer_numbers (trailer.Subscript items comma) ≡ concat (map item_numbers items)
of_trailer_Subscript items comma = ap trailer_numbers (sym (rolls-Subscript items comma)) ∙ fold-roll-Trailer (List ℕ) (List ℕ) (List ℕ) (List ℕ) (List ℕ) (List ℕ) (List ℕ) (List ℕ) numbers_in_form numbers_in_item numbers_in_trailer numbers_in_argument numbers_in_comparison numbers_in_entry numbers_of_node numbers_in_link (Trailer-F.Subscript items comma)

-- the numbers of the nodes in an expression that may be left out
abbrev pub maybe_numbers : Option Expr → List ℕ
maybe_numbers part = numbers_in_part (option_map node_numbers part)

pub of_item_Index : (e : Expr) → item_numbers (item.Index e) ≡ node_numbers e
of_item_Index e = ap item_numbers (sym (rolls-Index e)) ∙ fold-roll-Item (List ℕ) (List ℕ) (List ℕ) (List ℕ) (List ℕ) (List ℕ) (List ℕ) (List ℕ) numbers_in_form numbers_in_item numbers_in_trailer numbers_in_argument numbers_in_comparison numbers_in_entry numbers_of_node numbers_in_link (Item-F.Index e)

pub of_item_Ellipsis : item_numbers item.Ellipsis ≡ []
of_item_Ellipsis = ap item_numbers (sym rolls-Ellipsis) ∙ fold-roll-Item (List ℕ) (List ℕ) (List ℕ) (List ℕ) (List ℕ) (List ℕ) (List ℕ) (List ℕ) numbers_in_form numbers_in_item numbers_in_trailer numbers_in_argument numbers_in_comparison numbers_in_entry numbers_of_node numbers_in_link Item-F.Ellipsis

pub of_item_Slice : (from to step : Option Expr) → item_numbers (item.Slice from to step) ≡ maybe_numbers from ++ (maybe_numbers to ++ maybe_numbers step)
of_item_Slice None None None = ap item_numbers (sym (rolls-Slice None None None)) ∙ fold-roll-Item (List ℕ) (List ℕ) (List ℕ) (List ℕ) (List ℕ) (List ℕ) (List ℕ) (List ℕ) numbers_in_form numbers_in_item numbers_in_trailer numbers_in_argument numbers_in_comparison numbers_in_entry numbers_of_node numbers_in_link (Item-F.Slice None None None)
of_item_Slice None None (Some c) = ap item_numbers (sym (rolls-Slice None None (Some c))) ∙ fold-roll-Item (List ℕ) (List ℕ) (List ℕ) (List ℕ) (List ℕ) (List ℕ) (List ℕ) (List ℕ) numbers_in_form numbers_in_item numbers_in_trailer numbers_in_argument numbers_in_comparison numbers_in_entry numbers_of_node numbers_in_link (Item-F.Slice None None (Some c))
of_item_Slice None (Some b) None = ap item_numbers (sym (rolls-Slice None (Some b) None)) ∙ fold-roll-Item (List ℕ) (List ℕ) (List ℕ) (List ℕ) (List ℕ) (List ℕ) (List ℕ) (List ℕ) numbers_in_form numbers_in_item numbers_in_trailer numbers_in_argument numbers_in_comparison numbers_in_entry numbers_of_node numbers_in_link (Item-F.Slice None (Some b) None)
of_item_Slice None (Some b) (Some c) = ap item_numbers (sym (rolls-Slice None (Some b) (Some c))) ∙ fold-roll-Item (List ℕ) (List ℕ) (List ℕ) (List ℕ) (List ℕ) (List ℕ) (List ℕ) (List ℕ) numbers_in_form numbers_in_item numbers_in_trailer numbers_in_argument numbers_in_comparison numbers_in_entry numbers_of_node numbers_in_link (Item-F.Slice None (Some b) (Some c))
of_item_Slice (Some a) None None = ap item_numbers (sym (rolls-Slice (Some a) None None)) ∙ fold-roll-Item (List ℕ) (List ℕ) (List ℕ) (List ℕ) (List ℕ) (List ℕ) (List ℕ) (List ℕ) numbers_in_form numbers_in_item numbers_in_trailer numbers_in_argument numbers_in_comparison numbers_in_entry numbers_of_node numbers_in_link (Item-F.Slice (Some a) None None)
of_item_Slice (Some a) None (Some c) = ap item_numbers (sym (rolls-Slice (Some a) None (Some c))) ∙ fold-roll-Item (List ℕ) (List ℕ) (List ℕ) (List ℕ) (List ℕ) (List ℕ) (List ℕ) (List ℕ) numbers_in_form numbers_in_item numbers_in_trailer numbers_in_argument numbers_in_comparison numbers_in_entry numbers_of_node numbers_in_link (Item-F.Slice (Some a) None (Some c))
of_item_Slice (Some a) (Some b) None = ap item_numbers (sym (rolls-Slice (Some a) (Some b) None)) ∙ fold-roll-Item (List ℕ) (List ℕ) (List ℕ) (List ℕ) (List ℕ) (List ℕ) (List ℕ) (List ℕ) numbers_in_form numbers_in_item numbers_in_trailer numbers_in_argument numbers_in_comparison numbers_in_entry numbers_of_node numbers_in_link (Item-F.Slice (Some a) (Some b) None)
of_item_Slice (Some a) (Some b) (Some c) = ap item_numbers (sym (rolls-Slice (Some a) (Some b) (Some c))) ∙ fold-roll-Item (List ℕ) (List ℕ) (List ℕ) (List ℕ) (List ℕ) (List ℕ) (List ℕ) (List ℕ) numbers_in_form numbers_in_item numbers_in_trailer numbers_in_argument numbers_in_comparison numbers_in_entry numbers_of_node numbers_in_link (Item-F.Slice (Some a) (Some b) (Some c))
