-- The places, names, numbers and strings of an expression are those of its tokens: each form has its marks from the tokens in its
-- range, and those of its parts from the same, since theirs lies in it.
use Rattle.std.proofs.Common.{◌≡◌, ℕ, suc, ◌<◌, ◌≤◌, List, [], ◌∷◌, ◌++◌, Option, None, map, All, sym, ap, ◌∙◌, subst, arith}
use Rattle.std.proofs.lemmas.List.Elements.{All-nil, All-cons, All-append, All-weaker}
use Rattle.px_base.specs.declared.refusals.Span.{Span}
use Rattle.px_tree.specs.declared.expressions.Expr.{Expr}
use Rattle.px_tree.specs.declared.expressions.ExprForm.{ExprForm}
use Rattle.px_tree.specs.declared.typings.«Type».{«Type» as Typing}
use Rattle.px_tree.specs.declared.expressions.Comparison.{Comparison}
use Rattle.px_tree.specs.declared.expressions.Link.{Link}
use Rattle.px_tree.specs.declared.expressions.Trailer.{Trailer}
use Rattle.px_tree.specs.declared.expressions.Argument.{Argument}
use Rattle.px_tree.specs.declared.expressions.Item.{Item}
use Rattle.px_tree.specs.declared.expressions.Entry.{Entry}
use Rattle.px_lexer.specs.Terminals.{Terminal, IsAt}
use Rattle.px_exprs.specs.Typings.{IsTyping}
use Rattle.px_exprs.specs.Grammar.{node, Level, AreTexts, IsExpr, IsOr, AreOrs, IsAnd, AreAnds, IsNot, IsCompare, AreComparisons, IsBinary, AreLinks, IsUnary, IsPrimary, AreTrailers, IsTrailer, AreArguments, IsArgument, AreItems, IsItem, MaybeExpr, AreExprs, AreEntries, IsAtom, HasCommas}
use Rattle.px_exprs.specs.Laws.{MarksAreOfTokens}
use Rattle.px_exprs.specs.Marks.{Mark, IsMarkAt, IsMarkOf, marks_in_parts, node_marks}
use Rattle.px_exprs.proofs.Keeping.{typing_forward, comma_forward, comparison_forward}
use Rattle.px_exprs.proofs.MarkEquations.{form_marks, entry_marks, trailer_marks, argument_marks, item_marks, link_marks, comparison_marks, maybe_marks, of_node, of_link, of_comparison, of_argument, of_entry, of_form_Conditional, of_form_Or, of_form_And, of_form_Not, of_form_Compare, of_form_Chain, of_form_Unary, of_form_Row, of_trailer_Attribute, of_trailer_Call, of_trailer_Subscript, of_item_Index, of_item_Ellipsis, of_item_Slice, of_form_Name, of_form_Number, of_form_Text, of_form_True, of_form_False, of_form_None, of_form_Tuple, of_form_List, of_form_Dict, of_form_Cast, of_form_Sizeof}

-- Marks of the tokens in a range

-- a record, so that the marks are found from it
record Marked (ts : List Terminal) (i j : ℕ) (ms : List Mark) : Type 0 where
  each : All (IsMarkOf ts i j) ms

nothing : {ts : List Terminal} {i j : ℕ} → Marked ts i j []
nothing {ts} {i} {j} = record { each = All-nil (IsMarkOf ts i j) }

wider : {ts : List Terminal} {ms : List Mark} {a b i j : ℕ} → Marked ts a b ms → i ≤ a → b ≤ j → Marked ts i j ms
wider {ts} {ms} {a} {b} {i} {j} p le ge = record {
  each = All-weaker (IsMarkOf ts a b) (IsMarkOf ts i j) (λ m h. record { at = h.at; forward = omega (arith, h.forward, le); within = omega (arith, h.within, ge); has = h.has }) ms p.each;
}

both : {ts : List Terminal} {ms ns : List Mark} {i j : ℕ} → Marked ts i j ms → Marked ts i j ns → Marked ts i j (ms ++ ns)
both {ts} {ms} {ns} {i} {j} p q = record { each = All-append (IsMarkOf ts i j) ms ns p.each q.each }

with_mark : {ts : List Terminal} {ms : List Mark} {i j : ℕ} (m : Mark) (k : ℕ) → IsMarkAt ts k m → i ≤ k → k < j → Marked ts i j ms → Marked ts i j (m ∷ ms)
with_mark {ts} {ms} {i} {j} m k has le lt p = record { each = All-cons (IsMarkOf ts i j) m ms (record { at = k; forward = le; within = lt; has = has }) p.each }

-- Forms of one token or more

abbrev Spans : List Terminal → List Mark → ℕ → ℕ → Type 0
Spans ts ms i j = (i < j) × Marked ts i j ms

same_marks : {ts : List Terminal} {ms ns : List Mark} {i j : ℕ} → ns ≡ ms → Spans ts ms i j → Spans ts ns i j
same_marks {ts} {i = i} {j = j} same p = (p.0, subst (λ ms. Marked ts i j ms) (sym same) p.1)

-- tokens round a form
enclosed : {ts : List Terminal} {ms : List Mark} {a b i j : ℕ} → Spans ts ms a b → i ≤ a → b ≤ j → Spans ts ms i j
enclosed p le ge = (omega (arith, p.0, le, ge), wider p.1 le ge)

-- a form, and another behind it
joined : {ts : List Terminal} {ms ns : List Mark} {i k l j : ℕ} → Spans ts ms i k → Spans ts ns l j → k ≤ l → Spans ts (ms ++ ns) i j
joined p q le = (omega (arith, p.0, q.0, le), both (wider p.1 (omega arith) (omega (arith, q.0, le))) (wider q.1 (omega (arith, p.0, le)) (omega arith)))

-- one form, and no other
alone : {ts : List Terminal} {ms : List Mark} {i j : ℕ} → Spans ts ms i j → Spans ts (ms ++ []) i j
alone p = (p.0, both p.1 nothing)

-- a node has the place of its first token
as_node : {ts : List Terminal} {e : Expr} {i k j : ℕ} {at : Span} {f : ExprForm} {ms : List Mark} → IsAt ts i at → e ≡ node k at f → form_marks f ≡ ms → Spans ts ms i j → Spans ts (node_marks e) i j
as_node {i} {k} {at} {f} placed same is p =
    same_marks (ap node_marks same ∙ of_node k at f ∙ ap (λ ms. Mark.place at ∷ ms) is) (p.0, with_mark (Mark.place at) i placed (omega arith) p.0 p.1)

-- one without parts
leaf : {ts : List Terminal} {e : Expr} {i k j : ℕ} {at : Span} {f : ExprForm} → IsAt ts i at → e ≡ node k at f → form_marks f ≡ [] → i < j → Spans ts (node_marks e) i j
leaf placed same is lt = as_node placed same is (lt, nothing)

texts_marked : {ts : List Terminal} {i j : ℕ} {contents : List (List ℕ)} → AreTexts ts i contents j → Spans ts (map Mark.text contents) i j
texts_marked (AreTexts.last_text {i} {content} t) = (omega arith, with_mark (Mark.text content) i t (omega arith) (omega arith) nothing)
texts_marked (AreTexts.more_texts {i} {content} t others) =
    let p = texts_marked others in
    (omega (arith, p.0), with_mark (Mark.text content) i t (omega arith) (omega (arith, p.0)) (wider p.1 (omega arith) (omega arith)))

-- the place of a type, with a token behind it
typing_marked : {ts : List Terminal} {i d j : ℕ} {t : Typing} → IsTyping ts i t d j → Spans ts (Mark.place t.at ∷ []) i (suc j)
typing_marked {i} {t} p =
    let le = typing_forward p in
    (omega (arith, le), with_mark (Mark.place t.at) i p.placed (omega arith) (omega (arith, le)) nothing)

mutual
  expr_marked : {ts : List Terminal} {i d j : ℕ} {e : Expr} → IsExpr ts i e d j → Spans ts (node_marks e) i j
  expr_marked (IsExpr.plain p) = or_marked p
  expr_marked (IsExpr.conditional at p a q b r same) = as_node at same (of_form_Conditional _ _ _) (joined (or_marked p) (joined (or_marked q) (expr_marked r) (omega arith)) (omega arith))

  or_marked : {ts : List Terminal} {i d j : ℕ} {e : Expr} → IsOr ts i e d j → Spans ts (node_marks e) i j
  or_marked (IsOr.one_and p) = and_marked p
  or_marked (IsOr.or_chain at p q same) = as_node at same (of_form_Or _) (joined (and_marked p) (ors_marked q) (omega arith))

  ors_marked : {ts : List Terminal} {i d j : ℕ} {es : List Expr} → AreOrs ts i es d j → Spans ts (marks_in_parts (map node_marks es)) i j
  ors_marked (AreOrs.last_or a p) = enclosed (alone (and_marked p)) (omega arith) (omega arith)
  ors_marked (AreOrs.more_ors a p q) = enclosed (joined (and_marked p) (ors_marked q) (omega arith)) (omega arith) (omega arith)

  and_marked : {ts : List Terminal} {i d j : ℕ} {e : Expr} → IsAnd ts i e d j → Spans ts (node_marks e) i j
  and_marked (IsAnd.one_not p) = not_marked p
  and_marked (IsAnd.and_chain at p q same) = as_node at same (of_form_And _) (joined (not_marked p) (ands_marked q) (omega arith))

  ands_marked : {ts : List Terminal} {i d j : ℕ} {es : List Expr} → AreAnds ts i es d j → Spans ts (marks_in_parts (map node_marks es)) i j
  ands_marked (AreAnds.last_and a p) = enclosed (alone (not_marked p)) (omega arith) (omega arith)
  ands_marked (AreAnds.more_ands a p q) = enclosed (joined (not_marked p) (ands_marked q) (omega arith)) (omega arith) (omega arith)

  not_marked : {ts : List Terminal} {i d j : ℕ} {e : Expr} → IsNot ts i e d j → Spans ts (node_marks e) i j
  not_marked (IsNot.compared p) = compare_marked p
  not_marked (IsNot.denied at a p same) = as_node at same (of_form_Not _) (enclosed (not_marked p) (omega arith) (omega arith))

  compare_marked : {ts : List Terminal} {i d j : ℕ} {e : Expr} → IsCompare ts i e d j → Spans ts (node_marks e) i j
  compare_marked (IsCompare.one_operand p) = binary_marked p
  compare_marked (IsCompare.compare_chain at p q same) = as_node at same (of_form_Compare _ _) (joined (binary_marked p) (comparisons_marked q) (omega arith))

  comparisons_marked : {ts : List Terminal} {i d j : ℕ} {es : List Comparison} → AreComparisons ts i es d j → Spans ts (marks_in_parts (map comparison_marks es)) i j
  comparisons_marked (AreComparisons.last_comparison p q) = enclosed (alone (same_marks (of_comparison _ _) (binary_marked q))) (omega (arith, comparison_forward p)) (omega arith)
  comparisons_marked (AreComparisons.more_comparisons p q r) =
      enclosed (joined (same_marks (of_comparison _ _) (binary_marked q)) (comparisons_marked r) (omega arith)) (omega (arith, comparison_forward p)) (omega arith)

  binary_marked : {ts : List Terminal} {levels : List Level} {i d j : ℕ} {e : Expr} → IsBinary ts levels i e d j → Spans ts (node_marks e) i j
  binary_marked (IsBinary.tightest p) = unary_marked p
  binary_marked (IsBinary.alone p) = binary_marked p
  binary_marked (IsBinary.binary_chain at p q same) = as_node at same (of_form_Chain _ _) (joined (binary_marked p) (links_marked q) (omega arith))

  links_marked : {ts : List Terminal} {level : Level} {tighter : List Level} {i d j : ℕ} {es : List Link} → AreLinks ts level tighter i es d j → Spans ts (marks_in_parts (map link_marks es)) i j
  links_marked (AreLinks.last_link a p) = enclosed (alone (same_marks (of_link _ _) (binary_marked p))) (omega arith) (omega arith)
  links_marked (AreLinks.more_links a p q) = enclosed (joined (same_marks (of_link _ _) (binary_marked p)) (links_marked q) (omega arith)) (omega arith) (omega arith)

  unary_marked : {ts : List Terminal} {i d j : ℕ} {e : Expr} → IsUnary ts i e d j → Spans ts (node_marks e) i j
  unary_marked (IsUnary.signed at a p same) = as_node at same (of_form_Unary _ _) (enclosed (unary_marked p) (omega arith) (omega arith))
  unary_marked (IsUnary.cast at a p b q same) = as_node at same (of_form_Cast _ _) (enclosed (joined (typing_marked p) (unary_marked q) (omega arith)) (omega arith) (omega arith))
  unary_marked (IsUnary.unsigned p) = primary_marked p

  primary_marked : {ts : List Terminal} {i d j : ℕ} {e : Expr} → IsPrimary ts i e d j → Spans ts (node_marks e) i j
  primary_marked (IsPrimary.one_atom p) = atom_marked p
  primary_marked (IsPrimary.row at p q same) = as_node at same (of_form_Row _ _) (joined (atom_marked p) (trailers_marked q) (omega arith))

  trailers_marked : {ts : List Terminal} {i d j : ℕ} {es : List Trailer} → AreTrailers ts i es d j → Spans ts (marks_in_parts (map trailer_marks es)) i j
  trailers_marked (AreTrailers.last_trailer p) = alone (trailer_marked p)
  trailers_marked (AreTrailers.more_trailers p q) = joined (trailer_marked p) (trailers_marked q) (omega arith)

  trailer_marked : {ts : List Terminal} {i d j : ℕ} {t : Trailer} → IsTrailer ts i t d j → Spans ts (trailer_marks t) i j
  trailer_marked (IsTrailer.attribute {k} {name} a b) = same_marks (of_trailer_Attribute name) (omega arith, with_mark (Mark.name name) (suc k) b (omega arith) (omega arith) nothing)
  trailer_marked (IsTrailer.empty_call a b) = same_marks (of_trailer_Call []) (omega arith, nothing)
  trailer_marked (IsTrailer.call a p q b) = same_marks (of_trailer_Call _) (enclosed (arguments_marked p) (omega arith) (omega (arith, comma_forward q)))
  trailer_marked (IsTrailer.subscript a p q b) = same_marks (of_trailer_Subscript _ _) (enclosed (items_marked p) (omega arith) (omega (arith, comma_forward q)))

  arguments_marked : {ts : List Terminal} {i d j : ℕ} {es : List Argument} → AreArguments ts i es d j → Spans ts (marks_in_parts (map argument_marks es)) i j
  arguments_marked (AreArguments.last_argument p) = alone (argument_marked p)
  arguments_marked (AreArguments.more_arguments p a q) = joined (argument_marked p) (arguments_marked q) (omega arith)

  argument_marked : {ts : List Terminal} {i d j : ℕ} {a : Argument} → IsArgument ts i a d j → Spans ts (argument_marks a) i j
  argument_marked (IsArgument.positional p) = same_marks (of_argument None _) (expr_marked p)
  argument_marked (IsArgument.keyword {k} {name} a b p) =
      let value = expr_marked p in
      same_marks (of_argument _ _) (omega (arith, value.0), with_mark (Mark.name name) k a (omega arith) (omega (arith, value.0)) (wider value.1 (omega arith) (omega arith)))

  items_marked : {ts : List Terminal} {i d j : ℕ} {es : List Item} → AreItems ts i es d j → Spans ts (marks_in_parts (map item_marks es)) i j
  items_marked (AreItems.last_item p) = alone (item_marked p)
  items_marked (AreItems.more_items p a q) = joined (item_marked p) (items_marked q) (omega arith)

  item_marked : {ts : List Terminal} {i d j : ℕ} {a : Item} → IsItem ts i a d j → Spans ts (item_marks a) i j
  item_marked (IsItem.index p) = same_marks (of_item_Index _) (expr_marked p)
  item_marked (IsItem.ellipsis a) = same_marks of_item_Ellipsis (omega arith, nothing)
  item_marked (IsItem.slice {from} {to} p a q) =
      let p' = maybe_marked p in
      let q' = maybe_marked q in
      same_marks (of_item_Slice from to None) (omega (arith, p'.0, q'.0), both (wider p'.1 (omega arith) (omega (arith, q'.0))) (both (wider q'.1 (omega (arith, p'.0)) (omega arith)) nothing))
  item_marked (IsItem.step_slice {from} {to} {step} p a q b r) =
      let p' = maybe_marked p in
      let q' = maybe_marked q in
      let r' = maybe_marked r in
      same_marks (of_item_Slice from to step) (
        omega (arith, p'.0, q'.0, r'.0),
        both (wider p'.1 (omega arith) (omega (arith, q'.0, r'.0))) (both (wider q'.1 (omega (arith, p'.0)) (omega (arith, r'.0))) (wider r'.1 (omega (arith, p'.0, q'.0)) (omega arith))),
      )

  maybe_marked : {ts : List Terminal} {i d j : ℕ} {m : Option Expr} → MaybeExpr ts i m d j → (i ≤ j) × Marked ts i j (maybe_marks m)
  maybe_marked MaybeExpr.absent = (omega arith, nothing)
  maybe_marked (MaybeExpr.present p) = let p' = expr_marked p in (omega (arith, p'.0), p'.1)

  exprs_marked : {ts : List Terminal} {i d j : ℕ} {es : List Expr} → AreExprs ts i es d j → Spans ts (marks_in_parts (map node_marks es)) i j
  exprs_marked (AreExprs.last_expr p) = alone (expr_marked p)
  exprs_marked (AreExprs.more_exprs p a q) = joined (expr_marked p) (exprs_marked q) (omega arith)

  entries_marked : {ts : List Terminal} {i d j : ℕ} {es : List Entry} → AreEntries ts i es d j → Spans ts (marks_in_parts (map entry_marks es)) i j
  entries_marked (AreEntries.last_entry p a q) = alone (same_marks (of_entry _ _) (joined (expr_marked p) (expr_marked q) (omega arith)))
  entries_marked (AreEntries.more_entries p a q b r) = joined (same_marks (of_entry _ _) (joined (expr_marked p) (expr_marked q) (omega arith))) (entries_marked r) (omega arith)

  atom_marked : {ts : List Terminal} {i d j : ℕ} {e : Expr} → IsAtom ts i e d j → Spans ts (node_marks e) i j
  atom_marked (IsAtom.name {i} {spelled} at a same) = as_node at same (of_form_Name spelled) (omega arith, with_mark (Mark.name spelled) i a (omega arith) (omega arith) nothing)
  atom_marked (IsAtom.number {i} {n} at a same) = as_node at same (of_form_Number n) (omega arith, with_mark (Mark.number n) i a (omega arith) (omega arith) nothing)
  atom_marked (IsAtom.texts at p same) = as_node at same (of_form_Text _) (texts_marked p)
  atom_marked (IsAtom.true_ at a same) = leaf at same of_form_True (omega arith)
  atom_marked (IsAtom.false_ at a same) = leaf at same of_form_False (omega arith)
  atom_marked (IsAtom.none at a same) = leaf at same of_form_None (omega arith)
  atom_marked (IsAtom.sizeof at a b p c same) = as_node at same (of_form_Sizeof _) (enclosed (typing_marked p) (omega arith) (omega arith))
  atom_marked (IsAtom.in_parentheses a p b) = enclosed (expr_marked p) (omega arith) (omega arith)
  atom_marked (IsAtom.empty_tuple at a b same) = leaf at same (of_form_Tuple []) (omega arith)
  atom_marked (IsAtom.tuple at a p b same) = as_node at same (of_form_Tuple _) (enclosed (commas_marked p) (omega arith) (omega arith))
  atom_marked (IsAtom.empty_list at a b same) = leaf at same (of_form_List []) (omega arith)
  atom_marked (IsAtom.list at a p q b same) = as_node at same (of_form_List _) (enclosed (exprs_marked p) (omega arith) (omega (arith, comma_forward q)))
  atom_marked (IsAtom.empty_dict at a b same) = leaf at same (of_form_Dict []) (omega arith)
  atom_marked (IsAtom.dict at a p q b same) = as_node at same (of_form_Dict _) (enclosed (entries_marked p) (omega arith) (omega (arith, comma_forward q)))

  commas_marked : {ts : List Terminal} {i d j : ℕ} {es : List Expr} → HasCommas ts i es d j → Spans ts (marks_in_parts (map node_marks es)) i j
  commas_marked (HasCommas.one_with_comma p a) = enclosed (alone (expr_marked p)) (omega arith) (omega arith)
  commas_marked (HasCommas.several p a q r) = enclosed (joined (expr_marked p) (exprs_marked q) (omega arith)) (omega arith) (comma_forward r)

pub marks_of_tokens : MarksAreOfTokens
marks_of_tokens ts from to e depth p = (expr_marked p).1.each
