-- The numbers of the nodes of an expression are distinct: each form has its numbers in the range of its tokens, and those of its parts
-- lie apart from each other and from its own.
use Rattle.std.proofs.Common.{◌≡◌, ℕ, suc, ◌<◌, ◌≤◌, List, [], ◌∷◌, ◌++◌, Option, None, map, sym, ap, ◌∙◌, subst, arith}
use Rattle.std.specs.List.{concat}
use Rattle.px_base.specs.declared.refusals.Span.{Span}
use Rattle.px_tree.specs.declared.expressions.Expr.{Expr}
use Rattle.px_tree.specs.declared.expressions.ExprForm.{ExprForm}
use Rattle.px_tree.specs.declared.expressions.ExprForm.TheVariants as form
use Rattle.px_tree.specs.declared.typings.«Type».{«Type» as Typing}
use Rattle.px_tree.specs.declared.expressions.Comparison.{Comparison}
use Rattle.px_tree.specs.declared.expressions.Link.{Link}
use Rattle.px_tree.specs.declared.expressions.Trailer.{Trailer}
use Rattle.px_tree.specs.declared.expressions.Argument.{Argument}
use Rattle.px_tree.specs.declared.expressions.Item.{Item}
use Rattle.px_tree.specs.declared.expressions.Entry.{Entry}
use Rattle.px_lexer.specs.Terminals.{Terminal}
use Rattle.px_exprs.specs.Typings.{IsTyping}
use Rattle.px_exprs.specs.Grammar.{node, Level, IsExpr, IsOr, AreOrs, IsAnd, AreAnds, IsNot, IsCompare, AreComparisons, IsBinary, AreLinks, IsUnary, IsPrimary, AreTrailers, IsTrailer, AreArguments, IsArgument, AreItems, IsItem, MaybeExpr, AreExprs, AreEntries, IsAtom, HasCommas}
use Rattle.px_exprs.specs.Laws.{NodeNumbersAreDistinct}
use Rattle.px_exprs.specs.NodeNumbers.{node_numbers}
use Rattle.px_exprs.proofs.Keeping.{texts_forward, typing_forward, comma_forward, comparison_forward}
use Rattle.px_exprs.proofs.NodeRanges.{Fits, nothing, wider, before, both, between}
use Rattle.px_exprs.proofs.NodeEquations.{form_numbers, entry_numbers, trailer_numbers, argument_numbers, item_numbers, link_numbers, comparison_numbers, maybe_numbers, of_node, of_link, of_comparison, of_argument, of_entry, of_form_Conditional, of_form_Or, of_form_And, of_form_Not, of_form_Compare, of_form_Chain, of_form_Unary, of_form_Row, of_trailer_Attribute, of_trailer_Call, of_trailer_Subscript, of_item_Index, of_item_Ellipsis, of_item_Slice, of_form_Name, of_form_Number, of_form_Text, of_form_True, of_form_False, of_form_None, of_form_Tuple, of_form_List, of_form_Dict, of_form_Cast, of_form_Sizeof}

-- tokens, one or more, and numbers among them
abbrev Spans : List ℕ → ℕ → ℕ → Type 0
Spans ns i j = (i < j) × Fits ns i j

-- the same, where the first token is none of the numbers
abbrev Follows : List ℕ → ℕ → ℕ → Type 0
Follows ns i j = (i < j) × Fits ns (suc i) j

same_numbers : {ns ms : List ℕ} {i j : ℕ} → ms ≡ ns → Fits ns i j → Fits ms i j
same_numbers {ns} {ms} {i} {j} same f = subst (λ xs. Fits xs i j) (sym same) f

-- a node's number, and those of what it is
as_node : {e : Expr} {k : ℕ} {at : Span} {f : ExprForm} {ns : List ℕ} {i j : ℕ} → e ≡ node k at f → form_numbers f ≡ ns → Fits (k ∷ ns) i j → Fits (node_numbers e) i j
as_node {e} {k} {at} {f} same is fit = same_numbers (ap node_numbers same ∙ of_node k at f ∙ ap (λ ns. k ∷ ns) is) fit

-- a leaf, of one token or more
leaf : {e : Expr} {i : ℕ} {at : Span} {f : ExprForm} {j : ℕ} → i < j → e ≡ node i at f → form_numbers f ≡ [] → Spans (node_numbers e) i j
leaf lt same is = (lt, as_node same is (before lt nothing))

-- a node of its first token and what stands behind it
led : {e : Expr} {i : ℕ} {at : Span} {f : ExprForm} {ns : List ℕ} {k j : ℕ} → Fits ns (suc i) k → i < j → k ≤ j → e ≡ node i at f → form_numbers f ≡ ns → Spans (node_numbers e) i j
led fits lt le same is = (lt, as_node same is (before lt (wider fits (omega arith) le)))

-- a node of an operand and what stands behind it, whose own token stands between them
chained : {e : Expr} {i k j : ℕ} {at : Span} {f : ExprForm} {ns ms : List ℕ} → Spans ns i k → Follows ms k j → e ≡ node k at f → form_numbers f ≡ ns ++ ms → Spans (node_numbers e) i j
chained p q same is = (omega (arith, p.0, q.0), as_node same is (between p.1 q.1 (omega (arith, p.0)) q.0))

-- one part, and no other
alone : {ns : List ℕ} {i j : ℕ} → i ≤ j → Fits ns i j → Fits (ns ++ []) i j
alone {i} {j} le f = both f (nothing {i = j} {j = j}) le (omega arith) (omega arith)

-- what only wraps an expression
as_part : {ns ms : List ℕ} {i j : ℕ} → Spans ns i j → ms ≡ ns → Spans ms i j
as_part p is = (p.0, same_numbers is p.1)

-- the last operand, behind its operator
one_follows : {ns : List ℕ} {k l j : ℕ} → Spans ns l j → k < l → Follows (ns ++ []) k j
one_follows p lt = (omega (arith, p.0, lt), wider (alone (omega (arith, p.0)) p.1) lt (omega arith))

-- an operand behind its operator, and others behind it
one_and_others : {ns ms : List ℕ} {k l m j : ℕ} → Spans ns l m → Follows ms m j → k < l → Follows (ns ++ ms) k j
one_and_others {k} {m} p q lt = (omega (arith, p.0, q.0, lt), both {i = suc k} {k = m} (wider p.1 lt (omega arith)) q.1 (omega (arith, p.0, lt)) (omega arith) (omega (arith, q.0)))

-- the last of a list
last_spans : {ns : List ℕ} {i j : ℕ} → Spans ns i j → Spans (ns ++ []) i j
last_spans p = (p.0, alone (omega (arith, p.0)) p.1)

-- one of a list, and others behind a comma or a colon
more_span : {ns ms : List ℕ} {i l j : ℕ} → Spans ns i l → Spans ms (suc l) j → Spans (ns ++ ms) i j
more_span p q = (omega (arith, p.0, q.0), both p.1 q.1 (omega (arith, p.0)) (omega arith) (omega (arith, q.0)))

-- a list in brackets
enclosed : {ns ms : List ℕ} {k l m : ℕ} → Spans ns (suc k) l → l ≤ m → ms ≡ ns → Follows ms k (suc m)
enclosed p le is = (omega (arith, p.0, le), same_numbers is (wider p.1 (omega arith) (omega (arith, le))))

listed : {e : Expr} {i : ℕ} {at : Span} {f : ExprForm} {ns : List ℕ} {k l : ℕ} → Spans ns (suc i) k → k ≤ l → e ≡ node i at f → form_numbers f ≡ ns → Spans (node_numbers e) i (suc l)
listed p le same is = led p.1 (omega (arith, p.0, le)) (omega (arith, le)) same is

-- the number of a type
typing_fits : {ts : List Terminal} {i d j : ℕ} {t : Typing} → IsTyping ts i t d j → Fits (t.number ∷ []) i (suc j)
typing_fits {i} {j} {t} p = same_numbers (ap (λ n. n ∷ []) p.number) (before (omega (arith, typing_forward p)) nothing)

cast_spans : {ts : List Terminal} {e : Expr} (operand : Expr) {t : Typing} {at : Span} {i k d j : ℕ} → IsTyping ts (suc i) t d k → Spans (node_numbers operand) (suc k) j → e ≡ node i at (form.Cast t operand) → Spans (node_numbers e) i j
cast_spans operand {t} p q same =
    let le = typing_forward p in
    let typing = typing_fits p in
    led (both typing q.1 (omega (arith, le)) (omega arith) (omega (arith, q.0))) (omega (arith, le, q.0)) (omega arith) same (of_form_Cast t operand)

sizeof_spans : {ts : List Terminal} {e : Expr} {t : Typing} {at : Span} {i k d : ℕ} → IsTyping ts (suc (suc i)) t d k → e ≡ node i at (form.Sizeof t) → Spans (node_numbers e) i (suc k)
sizeof_spans {t} {k} p same =
    let le = typing_forward p in
    led {k = suc k} (wider (typing_fits p) (omega arith) (omega arith)) (omega (arith, le)) (omega arith) same (of_form_Sizeof t)

mutual
  expr_spans : {ts : List Terminal} {i d j : ℕ} {e : Expr} → IsExpr ts i e d j → Spans (node_numbers e) i j
  expr_spans (IsExpr.plain p) = or_spans p
  expr_spans (IsExpr.conditional at p a q b r same) =
      let p' = or_spans p in
      let q' = or_spans q in
      let r' = expr_spans r in
      (omega (arith, p'.0, q'.0, r'.0), as_node same (of_form_Conditional _ _ _) (between p'.1 (both q'.1 r'.1 (omega (arith, q'.0)) (omega arith) (omega (arith, r'.0))) (omega (arith, p'.0)) (omega (arith, q'.0, r'.0))))

  or_spans : {ts : List Terminal} {i d j : ℕ} {e : Expr} → IsOr ts i e d j → Spans (node_numbers e) i j
  or_spans (IsOr.one_and p) = and_spans p
  or_spans (IsOr.or_chain at p q same) = chained (and_spans p) (ors_follow q) same (of_form_Or _)

  ors_follow : {ts : List Terminal} {i d j : ℕ} {es : List Expr} → AreOrs ts i es d j → Follows (concat (map node_numbers es)) i j
  ors_follow (AreOrs.last_or a p) = one_follows (and_spans p) (omega arith)
  ors_follow (AreOrs.more_ors a p q) = one_and_others (and_spans p) (ors_follow q) (omega arith)

  and_spans : {ts : List Terminal} {i d j : ℕ} {e : Expr} → IsAnd ts i e d j → Spans (node_numbers e) i j
  and_spans (IsAnd.one_not p) = not_spans p
  and_spans (IsAnd.and_chain at p q same) = chained (not_spans p) (ands_follow q) same (of_form_And _)

  ands_follow : {ts : List Terminal} {i d j : ℕ} {es : List Expr} → AreAnds ts i es d j → Follows (concat (map node_numbers es)) i j
  ands_follow (AreAnds.last_and a p) = one_follows (not_spans p) (omega arith)
  ands_follow (AreAnds.more_ands a p q) = one_and_others (not_spans p) (ands_follow q) (omega arith)

  not_spans : {ts : List Terminal} {i d j : ℕ} {e : Expr} → IsNot ts i e d j → Spans (node_numbers e) i j
  not_spans (IsNot.compared p) = compare_spans p
  not_spans (IsNot.denied at a p same) = let p' = not_spans p in led p'.1 (omega (arith, p'.0)) (omega arith) same (of_form_Not _)

  compare_spans : {ts : List Terminal} {i d j : ℕ} {e : Expr} → IsCompare ts i e d j → Spans (node_numbers e) i j
  compare_spans (IsCompare.one_operand p) = binary_spans p
  compare_spans (IsCompare.compare_chain at p q same) = chained (binary_spans p) (comparisons_follow q) same (of_form_Compare _ _)

  comparisons_follow : {ts : List Terminal} {i d j : ℕ} {es : List Comparison} → AreComparisons ts i es d j → Follows (concat (map comparison_numbers es)) i j
  comparisons_follow (AreComparisons.last_comparison p q) = one_follows (as_part (binary_spans q) (of_comparison _ _)) (comparison_forward p)
  comparisons_follow (AreComparisons.more_comparisons p q r) = one_and_others (as_part (binary_spans q) (of_comparison _ _)) (comparisons_follow r) (comparison_forward p)

  binary_spans : {ts : List Terminal} {levels : List Level} {i d j : ℕ} {e : Expr} → IsBinary ts levels i e d j → Spans (node_numbers e) i j
  binary_spans (IsBinary.tightest p) = unary_spans p
  binary_spans (IsBinary.alone p) = binary_spans p
  binary_spans (IsBinary.binary_chain at p q same) = chained (binary_spans p) (links_follow q) same (of_form_Chain _ _)

  links_follow : {ts : List Terminal} {level : Level} {tighter : List Level} {i d j : ℕ} {es : List Link} → AreLinks ts level tighter i es d j → Follows (concat (map link_numbers es)) i j
  links_follow (AreLinks.last_link a p) = one_follows (as_part (binary_spans p) (of_link _ _)) (omega arith)
  links_follow (AreLinks.more_links a p q) = one_and_others (as_part (binary_spans p) (of_link _ _)) (links_follow q) (omega arith)

  unary_spans : {ts : List Terminal} {i d j : ℕ} {e : Expr} → IsUnary ts i e d j → Spans (node_numbers e) i j
  unary_spans (IsUnary.signed at a p same) = let p' = unary_spans p in led p'.1 (omega (arith, p'.0)) (omega arith) same (of_form_Unary _ _)
  unary_spans (IsUnary.cast at a p b q same) = cast_spans _ p (unary_spans q) same
  unary_spans (IsUnary.unsigned p) = primary_spans p

  primary_spans : {ts : List Terminal} {i d j : ℕ} {e : Expr} → IsPrimary ts i e d j → Spans (node_numbers e) i j
  primary_spans (IsPrimary.one_atom p) = atom_spans p
  primary_spans (IsPrimary.row at p q same) = chained (atom_spans p) (trailers_follow q) same (of_form_Row _ _)

  trailers_follow : {ts : List Terminal} {i d j : ℕ} {es : List Trailer} → AreTrailers ts i es d j → Follows (concat (map trailer_numbers es)) i j
  trailers_follow (AreTrailers.last_trailer p) = let p' = trailer_follows p in (p'.0, alone (omega (arith, p'.0)) p'.1)
  trailers_follow (AreTrailers.more_trailers p q) =
      let p' = trailer_follows p in
      let q' = trailers_follow q in
      (omega (arith, p'.0, q'.0), both p'.1 q'.1 (omega (arith, p'.0)) (omega arith) (omega (arith, q'.0)))

  trailer_follows : {ts : List Terminal} {i d j : ℕ} {t : Trailer} → IsTrailer ts i t d j → Follows (trailer_numbers t) i j
  trailer_follows (IsTrailer.attribute a b) = (omega arith, same_numbers (of_trailer_Attribute _) nothing)
  trailer_follows (IsTrailer.empty_call a b) = (omega arith, same_numbers (of_trailer_Call []) nothing)
  trailer_follows (IsTrailer.call a p q b) = enclosed (arguments_span p) (comma_forward q) (of_trailer_Call _)
  trailer_follows (IsTrailer.subscript a p q b) = enclosed (items_span p) (comma_forward q) (of_trailer_Subscript _ _)

  arguments_span : {ts : List Terminal} {i d j : ℕ} {es : List Argument} → AreArguments ts i es d j → Spans (concat (map argument_numbers es)) i j
  arguments_span (AreArguments.last_argument p) = last_spans (argument_spans p)
  arguments_span (AreArguments.more_arguments p a q) = more_span (argument_spans p) (arguments_span q)

  argument_spans : {ts : List Terminal} {i d j : ℕ} {a : Argument} → IsArgument ts i a d j → Spans (argument_numbers a) i j
  argument_spans (IsArgument.positional p) = as_part (expr_spans p) (of_argument _ _)
  argument_spans (IsArgument.keyword a b p) =
      let p' = expr_spans p in
      (omega (arith, p'.0), same_numbers (of_argument _ _) (wider p'.1 (omega arith) (omega arith)))

  items_span : {ts : List Terminal} {i d j : ℕ} {es : List Item} → AreItems ts i es d j → Spans (concat (map item_numbers es)) i j
  items_span (AreItems.last_item p) = last_spans (item_spans p)
  items_span (AreItems.more_items p a q) = more_span (item_spans p) (items_span q)

  item_spans : {ts : List Terminal} {i d j : ℕ} {a : Item} → IsItem ts i a d j → Spans (item_numbers a) i j
  item_spans (IsItem.index p) = as_part (expr_spans p) (of_item_Index _)
  item_spans (IsItem.ellipsis a) = (omega arith, same_numbers of_item_Ellipsis nothing)
  item_spans (IsItem.slice {from} {to} p a q) =
      let p' = maybe_spans p in
      let q' = maybe_spans q in
      (omega (arith, p'.0, q'.0), same_numbers (of_item_Slice from to None) (both p'.1 (alone q'.0 q'.1) (omega (arith, p'.0)) (omega arith) (omega (arith, q'.0))))
  item_spans (IsItem.step_slice {from} {to} {step} p a q b r) =
      let p' = maybe_spans p in
      let q' = maybe_spans q in
      let r' = maybe_spans r in
      let behind = both q'.1 r'.1 (omega (arith, q'.0)) (omega arith) (omega (arith, r'.0)) in
      (omega (arith, p'.0, q'.0, r'.0), same_numbers (of_item_Slice from to step) (both p'.1 behind (omega (arith, p'.0)) (omega arith) (omega (arith, q'.0, r'.0))))

  maybe_spans : {ts : List Terminal} {i d j : ℕ} {m : Option Expr} → MaybeExpr ts i m d j → (i ≤ j) × Fits (maybe_numbers m) i j
  maybe_spans MaybeExpr.absent = (omega arith, nothing)
  maybe_spans (MaybeExpr.present p) = let p' = expr_spans p in (omega (arith, p'.0), p'.1)

  exprs_span : {ts : List Terminal} {i d j : ℕ} {es : List Expr} → AreExprs ts i es d j → Spans (concat (map node_numbers es)) i j
  exprs_span (AreExprs.last_expr p) = last_spans (expr_spans p)
  exprs_span (AreExprs.more_exprs p a q) = more_span (expr_spans p) (exprs_span q)

  entries_span : {ts : List Terminal} {i d j : ℕ} {es : List Entry} → AreEntries ts i es d j → Spans (concat (map entry_numbers es)) i j
  entries_span (AreEntries.last_entry p a q) = last_spans (as_part (more_span (expr_spans p) (expr_spans q)) (of_entry _ _))
  entries_span (AreEntries.more_entries p a q b r) = more_span (as_part (more_span (expr_spans p) (expr_spans q)) (of_entry _ _)) (entries_span r)

  atom_spans : {ts : List Terminal} {i d j : ℕ} {e : Expr} → IsAtom ts i e d j → Spans (node_numbers e) i j
  atom_spans (IsAtom.name at a same) = leaf (omega arith) same (of_form_Name _)
  atom_spans (IsAtom.number at a same) = leaf (omega arith) same (of_form_Number _)
  atom_spans (IsAtom.texts at p same) = leaf (texts_forward p) same (of_form_Text _)
  atom_spans (IsAtom.true_ at a same) = leaf (omega arith) same of_form_True
  atom_spans (IsAtom.false_ at a same) = leaf (omega arith) same of_form_False
  atom_spans (IsAtom.none at a same) = leaf (omega arith) same of_form_None
  atom_spans (IsAtom.sizeof at a b p c same) = sizeof_spans p same
  atom_spans (IsAtom.in_parentheses a p b) = let p' = expr_spans p in (omega (arith, p'.0), wider p'.1 (omega arith) (omega arith))
  atom_spans (IsAtom.empty_tuple at a b same) = leaf (omega arith) same (of_form_Tuple [])
  atom_spans (IsAtom.tuple at a p b same) = let p' = commas_span p in led p'.1 (omega (arith, p'.0)) (omega arith) same (of_form_Tuple _)
  atom_spans (IsAtom.empty_list at a b same) = leaf (omega arith) same (of_form_List [])
  atom_spans (IsAtom.list at a p q b same) = listed (exprs_span p) (comma_forward q) same (of_form_List _)
  atom_spans (IsAtom.empty_dict at a b same) = leaf (omega arith) same (of_form_Dict [])
  atom_spans (IsAtom.dict at a p q b same) = listed (entries_span p) (comma_forward q) same (of_form_Dict _)

  commas_span : {ts : List Terminal} {i d j : ℕ} {es : List Expr} → HasCommas ts i es d j → Spans (concat (map node_numbers es)) i j
  commas_span (HasCommas.one_with_comma p a) = let p' = expr_spans p in (omega (arith, p'.0), wider (alone (omega (arith, p'.0)) p'.1) (omega arith) (omega arith))
  commas_span (HasCommas.several p a q r) =
      let p' = more_span (expr_spans p) (exprs_span q) in
      (omega (arith, p'.0, comma_forward r), wider p'.1 (omega arith) (comma_forward r))

pub numbers_distinct : NodeNumbersAreDistinct
numbers_distinct ts from to e depth p = let p' = expr_spans p in (p'.1.within, p'.1.distinct)
