-- Expressions as rose trees, one equation for each form.
use Rattle.std.proofs.Common.{◌≡◌, ℕ, ℤ, Bool, List, [], ◌∷◌, ◌++◌, Option, Some, None, map, refl, sym, ap, ◌∙◌}
use Rattle.std.specs.Prelude.{is_some}
use Rattle.px_base.specs.declared.refusals.Span.{Span}
use Rattle.px_base.specs.declared.c_types.UnOp.{UnOp}
use Rattle.px_tree.specs.declared.typings.«Type».{«Type» as Typing}
use Rattle.px_tree.specs.declared.expressions.Expr.{Expr}
use Rattle.px_tree.specs.declared.expressions.Entry.{Entry}
use Rattle.px_tree.specs.declared.expressions.Trailer.{Trailer}
use Rattle.px_tree.specs.declared.expressions.Argument.{Argument}
use Rattle.px_tree.specs.declared.expressions.Item.{Item}
use Rattle.px_tree.specs.declared.expressions.Link.{Link}
use Rattle.px_tree.specs.declared.expressions.Comparison.{Comparison}
use Rattle.px_tree.specs.declared.expressions.ExprForm.TheOpen.{ExprForm-F, Trailer-F, Item-F}
use Rattle.px_tree.specs.declared.expressions.ExprForm.TheFolds.{fold-roll-Expr, fold-roll-ExprForm, fold-roll-Entry, fold-roll-Trailer, fold-roll-Argument, fold-roll-Item, fold-roll-Link, fold-roll-Comparison}
use Rattle.px_tree.specs.declared.expressions.ExprForm.TheVariants as variant
use Rattle.px_tree.specs.declared.expressions.ExprForm.TheVariants.{rolls-Name, rolls-Number, rolls-Text, rolls-True, rolls-False, rolls-None, rolls-Sizeof, rolls-Tuple, rolls-List, rolls-Dict, rolls-Row, rolls-Unary, rolls-Cast, rolls-Chain, rolls-Compare, rolls-Not, rolls-And, rolls-Or, rolls-Conditional}
use Rattle.px_tree.specs.declared.expressions.Trailer.TheVariants as trailer
use Rattle.px_tree.specs.declared.expressions.Trailer.TheVariants.{rolls-Attribute, rolls-Call, rolls-Subscript}
use Rattle.px_tree.specs.declared.expressions.Item.TheVariants as item
use Rattle.px_tree.specs.declared.expressions.Item.TheVariants.{rolls-Index, rolls-Slice, rolls-Ellipsis}
use Rattle.px_walk.specs.Forms.{Form}
use Rattle.px_walk.specs.Forms as form
use Rattle.px_walk.specs.Roses.{at_of}
use Rattle.px_walk.specs.ExprView.{Tree, node, if_written, placed, rose_of_type, expr_layer, item_layer, trailer_layer, argument_node, comparison_node, entry_node, expr_node, link_node, rose_of_expr, rose_of_entry, rose_of_trailer, rose_of_argument, rose_of_item, rose_of_link, rose_of_comparison, expr_parts, trailer_parts, item_parts}

map_twice : {A B : Type 0} (outer : B → Tree) (inner : A → B) (xs : List A) → map outer (map inner xs) ≡ map (λ x. outer (inner x)) xs
map_twice outer inner [] = refl
map_twice outer inner (x ∷ xs) = ap (λ trees. outer (inner x) ∷ trees) (map_twice outer inner xs)

-- Structs

pub expr_is : (e : Expr) → rose_of_expr e ≡ node (expr_parts e.form).0 e.number e.at (expr_parts e.form).1
unfolding rose_of_expr rose_of_entry rose_of_argument rose_of_link rose_of_comparison expr_parts trailer_parts item_parts
expr_is e = fold-roll-Expr (Form × List Tree) (Form × List Tree) (Span → Form × List Tree) Tree Tree Tree Tree Tree expr_layer item_layer trailer_layer argument_node comparison_node entry_node expr_node link_node (record { number = e.number; at = e.at; form = e.form })

pub entry_is : (entry : Entry) → rose_of_entry entry ≡ node form.Entry 0 (at_of (rose_of_expr entry.key)) (rose_of_expr entry.key ∷ rose_of_expr entry.value ∷ [])
unfolding rose_of_expr rose_of_entry rose_of_argument rose_of_link rose_of_comparison expr_parts trailer_parts item_parts
entry_is entry = fold-roll-Entry (Form × List Tree) (Form × List Tree) (Span → Form × List Tree) Tree Tree Tree Tree Tree expr_layer item_layer trailer_layer argument_node comparison_node entry_node expr_node link_node (record { key = entry.key; value = entry.value })

pub argument_is : (argument : Argument) → rose_of_argument argument ≡ node (form.Argument argument.name) 0 (at_of (rose_of_expr argument.value)) (rose_of_expr argument.value ∷ [])
unfolding rose_of_expr rose_of_entry rose_of_argument rose_of_link rose_of_comparison expr_parts trailer_parts item_parts
argument_is argument = fold-roll-Argument (Form × List Tree) (Form × List Tree) (Span → Form × List Tree) Tree Tree Tree Tree Tree expr_layer item_layer trailer_layer argument_node comparison_node entry_node expr_node link_node (record { name = argument.name; value = argument.value })

pub link_is : (link : Link) → rose_of_link link ≡ node (form.Link link.op) 0 (at_of (rose_of_expr link.operand)) (rose_of_expr link.operand ∷ [])
unfolding rose_of_expr rose_of_entry rose_of_argument rose_of_link rose_of_comparison expr_parts trailer_parts item_parts
link_is link = fold-roll-Link (Form × List Tree) (Form × List Tree) (Span → Form × List Tree) Tree Tree Tree Tree Tree expr_layer item_layer trailer_layer argument_node comparison_node entry_node expr_node link_node (record { op = link.op; operand = link.operand })

pub comparison_is : (comparison : Comparison) → rose_of_comparison comparison ≡ node (form.Comparison comparison.op) 0 (at_of (rose_of_expr comparison.operand)) (rose_of_expr comparison.operand ∷ [])
unfolding rose_of_expr rose_of_entry rose_of_argument rose_of_link rose_of_comparison expr_parts trailer_parts item_parts
comparison_is comparison = fold-roll-Comparison (Form × List Tree) (Form × List Tree) (Span → Form × List Tree) Tree Tree Tree Tree Tree expr_layer item_layer trailer_layer argument_node comparison_node entry_node expr_node link_node (record { op = comparison.op; operand = comparison.operand })

-- Forms

pub of_Name : (name : List ℕ) → expr_parts (variant.Name name) ≡ (form.Name name, [])
unfolding rose_of_expr rose_of_entry rose_of_argument rose_of_link rose_of_comparison expr_parts trailer_parts item_parts
of_Name name = ap expr_parts (sym (rolls-Name name)) ∙ fold-roll-ExprForm (Form × List Tree) (Form × List Tree) (Span → Form × List Tree) Tree Tree Tree Tree Tree expr_layer item_layer trailer_layer argument_node comparison_node entry_node expr_node link_node (ExprForm-F.Name name)

pub of_Number : (n : ℤ) → expr_parts (variant.Number n) ≡ (form.Number n, [])
unfolding rose_of_expr rose_of_entry rose_of_argument rose_of_link rose_of_comparison expr_parts trailer_parts item_parts
of_Number n = ap expr_parts (sym (rolls-Number n)) ∙ fold-roll-ExprForm (Form × List Tree) (Form × List Tree) (Span → Form × List Tree) Tree Tree Tree Tree Tree expr_layer item_layer trailer_layer argument_node comparison_node entry_node expr_node link_node (ExprForm-F.Number n)

pub of_Text : (contents : List (List ℕ)) → expr_parts (variant.Text contents) ≡ (form.Text contents, [])
unfolding rose_of_expr rose_of_entry rose_of_argument rose_of_link rose_of_comparison expr_parts trailer_parts item_parts
of_Text contents = ap expr_parts (sym (rolls-Text contents)) ∙ fold-roll-ExprForm (Form × List Tree) (Form × List Tree) (Span → Form × List Tree) Tree Tree Tree Tree Tree expr_layer item_layer trailer_layer argument_node comparison_node entry_node expr_node link_node (ExprForm-F.Text contents)

pub of_True : expr_parts variant.True ≡ (form.True, [])
unfolding rose_of_expr rose_of_entry rose_of_argument rose_of_link rose_of_comparison expr_parts trailer_parts item_parts
of_True = ap expr_parts (sym rolls-True) ∙ fold-roll-ExprForm (Form × List Tree) (Form × List Tree) (Span → Form × List Tree) Tree Tree Tree Tree Tree expr_layer item_layer trailer_layer argument_node comparison_node entry_node expr_node link_node ExprForm-F.True

pub of_False : expr_parts variant.False ≡ (form.False, [])
unfolding rose_of_expr rose_of_entry rose_of_argument rose_of_link rose_of_comparison expr_parts trailer_parts item_parts
of_False = ap expr_parts (sym rolls-False) ∙ fold-roll-ExprForm (Form × List Tree) (Form × List Tree) (Span → Form × List Tree) Tree Tree Tree Tree Tree expr_layer item_layer trailer_layer argument_node comparison_node entry_node expr_node link_node ExprForm-F.False

pub of_None : expr_parts variant.None ≡ (form.None, [])
unfolding rose_of_expr rose_of_entry rose_of_argument rose_of_link rose_of_comparison expr_parts trailer_parts item_parts
of_None = ap expr_parts (sym rolls-None) ∙ fold-roll-ExprForm (Form × List Tree) (Form × List Tree) (Span → Form × List Tree) Tree Tree Tree Tree Tree expr_layer item_layer trailer_layer argument_node comparison_node entry_node expr_node link_node ExprForm-F.None

pub of_Sizeof : (typing : Typing) → expr_parts (variant.Sizeof typing) ≡ (form.Sizeof, rose_of_type typing ∷ [])
unfolding rose_of_expr rose_of_entry rose_of_argument rose_of_link rose_of_comparison expr_parts trailer_parts item_parts
of_Sizeof typing = ap expr_parts (sym (rolls-Sizeof typing)) ∙ fold-roll-ExprForm (Form × List Tree) (Form × List Tree) (Span → Form × List Tree) Tree Tree Tree Tree Tree expr_layer item_layer trailer_layer argument_node comparison_node entry_node expr_node link_node (ExprForm-F.Sizeof typing)

pub of_Tuple : (items : List Expr) → expr_parts (variant.Tuple items) ≡ (form.Tuple, map rose_of_expr items)
unfolding rose_of_expr rose_of_entry rose_of_argument rose_of_link rose_of_comparison expr_parts trailer_parts item_parts
of_Tuple items = ap expr_parts (sym (rolls-Tuple items)) ∙ fold-roll-ExprForm (Form × List Tree) (Form × List Tree) (Span → Form × List Tree) Tree Tree Tree Tree Tree expr_layer item_layer trailer_layer argument_node comparison_node entry_node expr_node link_node (ExprForm-F.Tuple items)

pub of_List : (items : List Expr) → expr_parts (variant.List items) ≡ (form.ListDisplay, map rose_of_expr items)
unfolding rose_of_expr rose_of_entry rose_of_argument rose_of_link rose_of_comparison expr_parts trailer_parts item_parts
of_List items = ap expr_parts (sym (rolls-List items)) ∙ fold-roll-ExprForm (Form × List Tree) (Form × List Tree) (Span → Form × List Tree) Tree Tree Tree Tree Tree expr_layer item_layer trailer_layer argument_node comparison_node entry_node expr_node link_node (ExprForm-F.List items)

pub of_Dict : (entries : List Entry) → expr_parts (variant.Dict entries) ≡ (form.Dict, map rose_of_entry entries)
unfolding rose_of_expr rose_of_entry rose_of_argument rose_of_link rose_of_comparison expr_parts trailer_parts item_parts
of_Dict entries = ap expr_parts (sym (rolls-Dict entries)) ∙ fold-roll-ExprForm (Form × List Tree) (Form × List Tree) (Span → Form × List Tree) Tree Tree Tree Tree Tree expr_layer item_layer trailer_layer argument_node comparison_node entry_node expr_node link_node (ExprForm-F.Dict entries)

pub of_Row : (atom : Expr) (trailers : List Trailer) → expr_parts (variant.Row atom trailers) ≡ (form.Row, rose_of_expr atom ∷ map (λ (trailer : Trailer). rose_of_trailer trailer (at_of (rose_of_expr atom))) trailers)
unfolding rose_of_expr rose_of_entry rose_of_argument rose_of_link rose_of_comparison expr_parts trailer_parts item_parts
of_Row atom trailers =
    ap expr_parts (sym (rolls-Row atom trailers)) ∙ fold-roll-ExprForm (Form × List Tree) (Form × List Tree) (Span → Form × List Tree) Tree Tree Tree Tree Tree expr_layer item_layer trailer_layer argument_node comparison_node entry_node expr_node link_node (ExprForm-F.Row atom trailers)
    ∙ ap (λ (parts : List Tree). (form.Row, rose_of_expr atom ∷ parts)) (map_twice (λ (trailer : Span → Form × List Tree). placed (at_of (rose_of_expr atom)) (trailer (at_of (rose_of_expr atom)))) trailer_parts trailers)

pub of_Unary : (op : UnOp) (operand : Expr) → expr_parts (variant.Unary op operand) ≡ (form.Unary op, rose_of_expr operand ∷ [])
unfolding rose_of_expr rose_of_entry rose_of_argument rose_of_link rose_of_comparison expr_parts trailer_parts item_parts
of_Unary op operand = ap expr_parts (sym (rolls-Unary op operand)) ∙ fold-roll-ExprForm (Form × List Tree) (Form × List Tree) (Span → Form × List Tree) Tree Tree Tree Tree Tree expr_layer item_layer trailer_layer argument_node comparison_node entry_node expr_node link_node (ExprForm-F.Unary op operand)

pub of_Cast : (typing : Typing) (operand : Expr) → expr_parts (variant.Cast typing operand) ≡ (form.Cast, rose_of_type typing ∷ rose_of_expr operand ∷ [])
unfolding rose_of_expr rose_of_entry rose_of_argument rose_of_link rose_of_comparison expr_parts trailer_parts item_parts
of_Cast typing operand = ap expr_parts (sym (rolls-Cast typing operand)) ∙ fold-roll-ExprForm (Form × List Tree) (Form × List Tree) (Span → Form × List Tree) Tree Tree Tree Tree Tree expr_layer item_layer trailer_layer argument_node comparison_node entry_node expr_node link_node (ExprForm-F.Cast typing operand)

pub of_Chain : (first : Expr) (links : List Link) → expr_parts (variant.Chain first links) ≡ (form.Chain, rose_of_expr first ∷ map rose_of_link links)
unfolding rose_of_expr rose_of_entry rose_of_argument rose_of_link rose_of_comparison expr_parts trailer_parts item_parts
of_Chain first links = ap expr_parts (sym (rolls-Chain first links)) ∙ fold-roll-ExprForm (Form × List Tree) (Form × List Tree) (Span → Form × List Tree) Tree Tree Tree Tree Tree expr_layer item_layer trailer_layer argument_node comparison_node entry_node expr_node link_node (ExprForm-F.Chain first links)

pub of_Compare : (first : Expr) (comparisons : List Comparison) → expr_parts (variant.Compare first comparisons) ≡ (form.Compare, rose_of_expr first ∷ map rose_of_comparison comparisons)
unfolding rose_of_expr rose_of_entry rose_of_argument rose_of_link rose_of_comparison expr_parts trailer_parts item_parts
of_Compare first comparisons = ap expr_parts (sym (rolls-Compare first comparisons)) ∙ fold-roll-ExprForm (Form × List Tree) (Form × List Tree) (Span → Form × List Tree) Tree Tree Tree Tree Tree expr_layer item_layer trailer_layer argument_node comparison_node entry_node expr_node link_node (ExprForm-F.Compare first comparisons)

pub of_Not : (operand : Expr) → expr_parts (variant.Not operand) ≡ (form.Not, rose_of_expr operand ∷ [])
unfolding rose_of_expr rose_of_entry rose_of_argument rose_of_link rose_of_comparison expr_parts trailer_parts item_parts
of_Not operand = ap expr_parts (sym (rolls-Not operand)) ∙ fold-roll-ExprForm (Form × List Tree) (Form × List Tree) (Span → Form × List Tree) Tree Tree Tree Tree Tree expr_layer item_layer trailer_layer argument_node comparison_node entry_node expr_node link_node (ExprForm-F.Not operand)

pub of_And : (operands : List Expr) → expr_parts (variant.And operands) ≡ (form.And, map rose_of_expr operands)
unfolding rose_of_expr rose_of_entry rose_of_argument rose_of_link rose_of_comparison expr_parts trailer_parts item_parts
of_And operands = ap expr_parts (sym (rolls-And operands)) ∙ fold-roll-ExprForm (Form × List Tree) (Form × List Tree) (Span → Form × List Tree) Tree Tree Tree Tree Tree expr_layer item_layer trailer_layer argument_node comparison_node entry_node expr_node link_node (ExprForm-F.And operands)

pub of_Or : (operands : List Expr) → expr_parts (variant.Or operands) ≡ (form.Or, map rose_of_expr operands)
unfolding rose_of_expr rose_of_entry rose_of_argument rose_of_link rose_of_comparison expr_parts trailer_parts item_parts
of_Or operands = ap expr_parts (sym (rolls-Or operands)) ∙ fold-roll-ExprForm (Form × List Tree) (Form × List Tree) (Span → Form × List Tree) Tree Tree Tree Tree Tree expr_layer item_layer trailer_layer argument_node comparison_node entry_node expr_node link_node (ExprForm-F.Or operands)

pub of_Conditional : (value : Expr) (test : Expr) (otherwise : Expr) → expr_parts (variant.Conditional value test otherwise) ≡ (form.Conditional, rose_of_expr value ∷ rose_of_expr test ∷ rose_of_expr otherwise ∷ [])
unfolding rose_of_expr rose_of_entry rose_of_argument rose_of_link rose_of_comparison expr_parts trailer_parts item_parts
of_Conditional value test otherwise = ap expr_parts (sym (rolls-Conditional value test otherwise)) ∙ fold-roll-ExprForm (Form × List Tree) (Form × List Tree) (Span → Form × List Tree) Tree Tree Tree Tree Tree expr_layer item_layer trailer_layer argument_node comparison_node entry_node expr_node link_node (ExprForm-F.Conditional value test otherwise)

-- Trailers, for the place of their row, and items

pub of_Attribute : (name : List ℕ) (at : Span) → trailer_parts (trailer.Attribute name) at ≡ (form.Attribute name, [])
unfolding rose_of_expr rose_of_entry rose_of_argument rose_of_link rose_of_comparison expr_parts trailer_parts item_parts
of_Attribute name at = ap (λ (f : Span → Form × List Tree). f at) (ap trailer_parts (sym (rolls-Attribute name)) ∙ fold-roll-Trailer (Form × List Tree) (Form × List Tree) (Span → Form × List Tree) Tree Tree Tree Tree Tree expr_layer item_layer trailer_layer argument_node comparison_node entry_node expr_node link_node (Trailer-F.Attribute name))

pub of_Call : (arguments : List Argument) (at : Span) → trailer_parts (trailer.Call arguments) at ≡ (form.Call, map rose_of_argument arguments)
unfolding rose_of_expr rose_of_entry rose_of_argument rose_of_link rose_of_comparison expr_parts trailer_parts item_parts
of_Call arguments at = ap (λ (f : Span → Form × List Tree). f at) (ap trailer_parts (sym (rolls-Call arguments)) ∙ fold-roll-Trailer (Form × List Tree) (Form × List Tree) (Span → Form × List Tree) Tree Tree Tree Tree Tree expr_layer item_layer trailer_layer argument_node comparison_node entry_node expr_node link_node (Trailer-F.Call arguments))

pub of_Subscript : (items : List Item) (comma : Bool) (at : Span) → trailer_parts (trailer.Subscript items comma) at ≡ (form.Subscript comma, map (λ (item : Item). rose_of_item item at) items)
unfolding rose_of_expr rose_of_entry rose_of_argument rose_of_link rose_of_comparison expr_parts trailer_parts item_parts
of_Subscript items comma at =
    ap (λ (f : Span → Form × List Tree). f at) (ap trailer_parts (sym (rolls-Subscript items comma)) ∙ fold-roll-Trailer (Form × List Tree) (Form × List Tree) (Span → Form × List Tree) Tree Tree Tree Tree Tree expr_layer item_layer trailer_layer argument_node comparison_node entry_node expr_node link_node (Trailer-F.Subscript items comma))
    ∙ ap (λ (parts : List Tree). (form.Subscript comma, parts)) (map_twice (placed at) item_parts items)

pub of_Index : (index : Expr) → item_parts (item.Index index) ≡ (form.Index, rose_of_expr index ∷ [])
unfolding rose_of_expr rose_of_entry rose_of_argument rose_of_link rose_of_comparison expr_parts trailer_parts item_parts
of_Index index = ap item_parts (sym (rolls-Index index)) ∙ fold-roll-Item (Form × List Tree) (Form × List Tree) (Span → Form × List Tree) Tree Tree Tree Tree Tree expr_layer item_layer trailer_layer argument_node comparison_node entry_node expr_node link_node (Item-F.Index index)

pub of_Ellipsis : item_parts item.Ellipsis ≡ (form.Ellipsis, [])
unfolding rose_of_expr rose_of_entry rose_of_argument rose_of_link rose_of_comparison expr_parts trailer_parts item_parts
of_Ellipsis = ap item_parts (sym rolls-Ellipsis) ∙ fold-roll-Item (Form × List Tree) (Form × List Tree) (Span → Form × List Tree) Tree Tree Tree Tree Tree expr_layer item_layer trailer_layer argument_node comparison_node entry_node expr_node link_node Item-F.Ellipsis

pub of_Slice : (from : Option Expr) (to : Option Expr) (step : Option Expr) → item_parts (item.Slice from to step) ≡ (form.Slice (is_some from) (is_some to) (is_some step), if_written rose_of_expr from ++ (if_written rose_of_expr to ++ if_written rose_of_expr step))
unfolding rose_of_expr rose_of_entry rose_of_argument rose_of_link rose_of_comparison expr_parts trailer_parts item_parts
of_Slice None None None = ap item_parts (sym (rolls-Slice None None None)) ∙ fold-roll-Item (Form × List Tree) (Form × List Tree) (Span → Form × List Tree) Tree Tree Tree Tree Tree expr_layer item_layer trailer_layer argument_node comparison_node entry_node expr_node link_node (Item-F.Slice None None None)
of_Slice None None (Some step) = ap item_parts (sym (rolls-Slice None None (Some step))) ∙ fold-roll-Item (Form × List Tree) (Form × List Tree) (Span → Form × List Tree) Tree Tree Tree Tree Tree expr_layer item_layer trailer_layer argument_node comparison_node entry_node expr_node link_node (Item-F.Slice None None (Some step))
of_Slice None (Some to) None = ap item_parts (sym (rolls-Slice None (Some to) None)) ∙ fold-roll-Item (Form × List Tree) (Form × List Tree) (Span → Form × List Tree) Tree Tree Tree Tree Tree expr_layer item_layer trailer_layer argument_node comparison_node entry_node expr_node link_node (Item-F.Slice None (Some to) None)
of_Slice None (Some to) (Some step) = ap item_parts (sym (rolls-Slice None (Some to) (Some step))) ∙ fold-roll-Item (Form × List Tree) (Form × List Tree) (Span → Form × List Tree) Tree Tree Tree Tree Tree expr_layer item_layer trailer_layer argument_node comparison_node entry_node expr_node link_node (Item-F.Slice None (Some to) (Some step))
of_Slice (Some from) None None = ap item_parts (sym (rolls-Slice (Some from) None None)) ∙ fold-roll-Item (Form × List Tree) (Form × List Tree) (Span → Form × List Tree) Tree Tree Tree Tree Tree expr_layer item_layer trailer_layer argument_node comparison_node entry_node expr_node link_node (Item-F.Slice (Some from) None None)
of_Slice (Some from) None (Some step) = ap item_parts (sym (rolls-Slice (Some from) None (Some step))) ∙ fold-roll-Item (Form × List Tree) (Form × List Tree) (Span → Form × List Tree) Tree Tree Tree Tree Tree expr_layer item_layer trailer_layer argument_node comparison_node entry_node expr_node link_node (Item-F.Slice (Some from) None (Some step))
of_Slice (Some from) (Some to) None = ap item_parts (sym (rolls-Slice (Some from) (Some to) None)) ∙ fold-roll-Item (Form × List Tree) (Form × List Tree) (Span → Form × List Tree) Tree Tree Tree Tree Tree expr_layer item_layer trailer_layer argument_node comparison_node entry_node expr_node link_node (Item-F.Slice (Some from) (Some to) None)
of_Slice (Some from) (Some to) (Some step) = ap item_parts (sym (rolls-Slice (Some from) (Some to) (Some step))) ∙ fold-roll-Item (Form × List Tree) (Form × List Tree) (Span → Form × List Tree) Tree Tree Tree Tree Tree expr_layer item_layer trailer_layer argument_node comparison_node entry_node expr_node link_node (Item-F.Slice (Some from) (Some to) (Some step))
