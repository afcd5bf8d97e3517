-- Tokens are one expression at most: its derivations agree where no token behind them could go on with them.
use Rattle.std.proofs.Common.{ℕ, ◌+◌, length, take, List, ◌∷◌, Option, arith}
use Rattle.px_tree.specs.declared.expressions.Expr.{Expr}
use Rattle.px_tree.specs.declared.expressions.Comparison.{Comparison}
use Rattle.px_tree.specs.declared.expressions.Link.{Link}
use Rattle.px_tree.specs.declared.expressions.Trailer.{Trailer}
use Rattle.px_tree.specs.declared.expressions.Argument.{Argument}
use Rattle.px_tree.specs.declared.expressions.Item.{Item}
use Rattle.px_tree.specs.declared.expressions.Entry.{Entry}
use Rattle.px_exprs.specs.Laws.{ExpressionsAreUnique}
use Rattle.px_lexer.specs.Terminals.{Terminal}
use Rattle.px_exprs.specs.Grammar.{Level, binary_levels, IsExpr, IsOr, AreOrs, IsAnd, AreAnds, IsNot, IsCompare, AreComparisons, IsBinary, AreLinks, IsUnary, IsPrimary, AreTrailers, IsTrailer, AreArguments, IsArgument, AreItems, IsItem, MaybeExpr, AreExprs, AreEntries, IsAtom, HasCommas}
use Rattle.px_exprs.specs.Codes.{Past}
use Rattle.px_exprs.proofs.Codes.{code_past}
use Rattle.px_exprs.proofs.Stops.{past_from}
use Rattle.px_exprs.proofs.Tables.{AreLevels, are_levels, six_levels}
use Rattle.px_exprs.proofs.Only.{IsOnly, From, EndsItem}
use Rattle.px_exprs.proofs.Agreement.{nothing_behind}
use Rattle.px_exprs.proofs.Keeping.{expr_cut}
use Rattle.px_exprs.proofs.OperatorLaws.{plain_only, conditional_only, or_one_only, or_chain_only, ors_last_only, ors_more_only, and_one_only, and_chain_only, ands_last_only, ands_more_only, compared_only, denied_only, one_operand_only, compare_chain_only, comparisons_last_only, comparisons_more_only, tightest_only, alone_only, binary_chain_only, links_last_only, links_more_only, signed_only, cast_only, unsigned_only}
use Rattle.px_exprs.proofs.ListLaws.{IsOnlyList, Anywhere, exprs_last_only, exprs_more_only, arguments_last_only, arguments_more_only, items_last_only, items_more_only, entries_last_only, entries_more_only, positional_only, keyword_only, absent_only, present_only, index_only, ellipsis_only, slice_only, step_slice_only, attribute_only, empty_call_only, call_only, subscript_only, trailers_last_only, trailers_more_only, one_atom_only, row_only}
use Rattle.px_exprs.proofs.AtomLaws.{AreOnlyCommas, name_only, number_only, true_only, false_only, none_only, texts_only, sizeof_only, in_parentheses_only, empty_tuple_only, tuple_only, one_with_comma_only, several_only, empty_list_only, list_only, empty_dict_only, dict_only}

-- Behind each form stands a token that goes on with nothing below a code: 1 behind an atom, 12 behind a primary and a unary, one more
-- for each level of binary operators, 23 behind a comparison and `not`, 24 behind `and`, 25 behind `or` and 26 behind an expression. An
-- operator goes on with a lower code than that of the form that it makes, so a derivation that ends before it isn't one of these.

-- an operand of the loosest level
pub operand_only : {ts : List Terminal} {i d j : ℕ} {e : Expr} → IsOnly (IsBinary ts binary_levels i) (Past (12 + length binary_levels) ts) e d j → IsOnly (IsBinary ts binary_levels i) (Past 18 ts) e d j
operand_only only s f c k q t = only (omega (arith, six_levels, s)) f c k q (omega (arith, six_levels, t))

mutual
  pub expr_only : {ts : List Terminal} {i d j : ℕ} {e : Expr} → IsExpr ts i e d j → IsOnly (IsExpr ts i) (Past 26 ts) e d j
  expr_only (IsExpr.plain p) = plain_only (or_only p)
  expr_only (IsExpr.conditional at p condition q otherwise r e) = conditional_only at (or_only p) condition (or_only q) otherwise (expr_only r) e

  pub or_only : {ts : List Terminal} {i d j : ℕ} {e : Expr} → IsOr ts i e d j → IsOnly (IsOr ts i) (Past 25 ts) e d j
  or_only (IsOr.one_and p) = or_one_only (and_only p)
  or_only (IsOr.or_chain at p others e) = or_chain_only at (and_only p) others (ors_only others) e

  pub ors_only : {ts : List Terminal} {k d j : ℕ} {es : List Expr} → AreOrs ts k es d j → IsOnly (AreOrs ts k) (Past 25 ts) es d j
  ors_only (AreOrs.last_or o p) = ors_last_only (and_only p)
  ors_only (AreOrs.more_ors o p others) = ors_more_only (and_only p) others (ors_only others)

  pub and_only : {ts : List Terminal} {i d j : ℕ} {e : Expr} → IsAnd ts i e d j → IsOnly (IsAnd ts i) (Past 24 ts) e d j
  and_only (IsAnd.one_not p) = and_one_only (not_only p)
  and_only (IsAnd.and_chain at p others e) = and_chain_only at (not_only p) others (ands_only others) e

  pub ands_only : {ts : List Terminal} {k d j : ℕ} {es : List Expr} → AreAnds ts k es d j → IsOnly (AreAnds ts k) (Past 24 ts) es d j
  ands_only (AreAnds.last_and o p) = ands_last_only (not_only p)
  ands_only (AreAnds.more_ands o p others) = ands_more_only (not_only p) others (ands_only others)

  pub not_only : {ts : List Terminal} {i d j : ℕ} {e : Expr} → IsNot ts i e d j → IsOnly (IsNot ts i) (Past 23 ts) e d j
  not_only (IsNot.compared p) = compared_only p (compare_only p)
  not_only (IsNot.denied at denial p e) = denied_only at denial (not_only p) e

  pub compare_only : {ts : List Terminal} {i d j : ℕ} {e : Expr} → IsCompare ts i e d j → IsOnly (IsCompare ts i) (Past 23 ts) e d j
  compare_only (IsCompare.one_operand p) = one_operand_only (operand_only (binary_only are_levels p))
  compare_only (IsCompare.compare_chain at p others e) = compare_chain_only at (operand_only (binary_only are_levels p)) others (comparisons_only others) e

  pub comparisons_only : {ts : List Terminal} {k d j : ℕ} {es : List Comparison} → AreComparisons ts k es d j → IsOnly (AreComparisons ts k) (Past 23 ts) es d j
  comparisons_only (AreComparisons.last_comparison o p) = comparisons_last_only o p (operand_only (binary_only are_levels p))
  comparisons_only (AreComparisons.more_comparisons o p others) = comparisons_more_only o p (operand_only (binary_only are_levels p)) others (comparisons_only others)

  pub binary_only : {ts : List Terminal} {levels : List Level} {i d j : ℕ} {e : Expr} → AreLevels levels → IsBinary ts levels i e d j → IsOnly (IsBinary ts levels i) (Past (12 + length levels) ts) e d j
  binary_only levels (IsBinary.tightest p) = tightest_only (unary_only p)
  binary_only levels (IsBinary.alone p) = alone_only levels (binary_only levels.1 p)
  binary_only levels (IsBinary.binary_chain at p others e) = binary_chain_only levels at (binary_only levels.1 p) others (links_only levels others) e

  pub links_only : {ts : List Terminal} {level : Level} {tighter : List Level} {k d j : ℕ} {es : List Link} → AreLevels (level ∷ tighter) → AreLinks ts level tighter k es d j
      → IsOnly (AreLinks ts level tighter k) (Past (12 + length (level ∷ tighter)) ts) es d j
  links_only levels (AreLinks.last_link o p) = links_last_only levels o (binary_only levels.1 p)
  links_only levels (AreLinks.more_links o p others) = links_more_only levels o (binary_only levels.1 p) others (links_only levels others)

  pub unary_only : {ts : List Terminal} {i d j : ℕ} {e : Expr} → IsUnary ts i e d j → IsOnly (IsUnary ts i) (Past 12 ts) e d j
  unary_only (IsUnary.signed at o p e) = signed_only at o (unary_only p) e
  unary_only (IsUnary.cast at less u greater p e) = cast_only at less u greater (unary_only p) e
  unary_only (IsUnary.unsigned p) = unsigned_only p (primary_only p)

  pub primary_only : {ts : List Terminal} {i d j : ℕ} {e : Expr} → IsPrimary ts i e d j → IsOnly (IsPrimary ts i) (Past 12 ts) e d j
  primary_only (IsPrimary.one_atom p) = one_atom_only (atom_only p)
  primary_only (IsPrimary.row at p others e) = row_only at (atom_only p) others (trailers_only others) e

  pub trailers_only : {ts : List Terminal} {k d j : ℕ} {es : List Trailer} → AreTrailers ts k es d j → IsOnly (AreTrailers ts k) (Past 12 ts) es d j
  trailers_only (AreTrailers.last_trailer p) = trailers_last_only (trailer_only p)
  trailers_only (AreTrailers.more_trailers p others) = trailers_more_only (trailer_only p) others (trailers_only others)

  pub trailer_only : {ts : List Terminal} {k d j : ℕ} {t : Trailer} → IsTrailer ts k t d j → IsOnly (IsTrailer ts k) Anywhere t d j
  trailer_only (IsTrailer.attribute p n) = attribute_only p n
  trailer_only (IsTrailer.empty_call p closed) = empty_call_only p closed
  trailer_only (IsTrailer.call p a ending closed) = call_only p a (arguments_only a) ending closed
  trailer_only (IsTrailer.subscript p a ending closed) = subscript_only p (items_only a) ending closed

  pub arguments_only : {ts : List Terminal} {k d j : ℕ} {es : List Argument} → AreArguments ts k es d j → IsOnlyList (AreArguments ts k) ts es d j
  arguments_only (AreArguments.last_argument p) = arguments_last_only (argument_only p)
  arguments_only (AreArguments.more_arguments p separator others) = arguments_more_only (argument_only p) separator others (arguments_only others)

  pub argument_only : {ts : List Terminal} {k d j : ℕ} {a : Argument} → IsArgument ts k a d j → IsOnly (IsArgument ts k) (EndsItem ts) a d j
  argument_only (IsArgument.positional p) = positional_only p (expr_only p)
  argument_only (IsArgument.keyword n equal p) = keyword_only n equal (expr_only p)

  pub items_only : {ts : List Terminal} {k d j : ℕ} {es : List Item} → AreItems ts k es d j → IsOnlyList (AreItems ts k) ts es d j
  items_only (AreItems.last_item p) = items_last_only (item_only p)
  items_only (AreItems.more_items p separator others) = items_more_only (item_only p) separator others (items_only others)

  pub item_only : {ts : List Terminal} {k d j : ℕ} {a : Item} → IsItem ts k a d j → IsOnly (IsItem ts k) (EndsItem ts) a d j
  item_only (IsItem.index p) = index_only p (expr_only p)
  item_only (IsItem.ellipsis p) = ellipsis_only p
  item_only (IsItem.slice p colon q) = slice_only p (maybe_only p) colon (maybe_only q)
  item_only (IsItem.step_slice p colon q second r) = step_slice_only p (maybe_only p) colon (maybe_only q) second (maybe_only r)

  pub maybe_only : {ts : List Terminal} {k d j : ℕ} {e : Option Expr} → MaybeExpr ts k e d j → IsOnly (MaybeExpr ts k) (From ts 26) e d j
  maybe_only MaybeExpr.absent = absent_only
  maybe_only (MaybeExpr.present p) = present_only p (expr_only p)

  pub exprs_only : {ts : List Terminal} {k d j : ℕ} {es : List Expr} → AreExprs ts k es d j → IsOnlyList (AreExprs ts k) ts es d j
  exprs_only (AreExprs.last_expr p) = exprs_last_only (expr_only p)
  exprs_only (AreExprs.more_exprs p separator others) = exprs_more_only (expr_only p) separator others (exprs_only others)

  pub entries_only : {ts : List Terminal} {k d j : ℕ} {es : List Entry} → AreEntries ts k es d j → IsOnlyList (AreEntries ts k) ts es d j
  entries_only (AreEntries.last_entry p colon q) = entries_last_only (expr_only p) colon (expr_only q)
  entries_only (AreEntries.more_entries p colon q separator others) = entries_more_only (expr_only p) colon (expr_only q) separator others (entries_only others)

  pub atom_only : {ts : List Terminal} {i d j : ℕ} {e : Expr} → IsAtom ts i e d j → IsOnly (IsAtom ts i) (Past 1 ts) e d j
  atom_only (IsAtom.name at h e) = name_only at h e
  atom_only (IsAtom.number at h e) = number_only at h e
  atom_only (IsAtom.texts at p e) = texts_only at p e
  atom_only (IsAtom.true_ at h e) = true_only at h e
  atom_only (IsAtom.false_ at h e) = false_only at h e
  atom_only (IsAtom.none at h e) = none_only at h e
  atom_only (IsAtom.sizeof at h opened u closed e) = sizeof_only at h u closed e
  atom_only (IsAtom.in_parentheses opened p closed) = in_parentheses_only opened p (expr_only p) closed
  atom_only (IsAtom.empty_tuple at opened closed e) = empty_tuple_only at opened closed e
  atom_only (IsAtom.tuple at opened p closed e) = tuple_only at opened p (commas_only p) closed e
  atom_only (IsAtom.empty_list at opened closed e) = empty_list_only at opened closed e
  atom_only (IsAtom.list at opened p ending closed e) = list_only at opened p (exprs_only p) ending closed e
  atom_only (IsAtom.empty_dict at opened closed e) = empty_dict_only at opened closed e
  atom_only (IsAtom.dict at opened p ending closed e) = dict_only at opened p (entries_only p) ending closed e

  pub commas_only : {ts : List Terminal} {i d j : ℕ} {es : List Expr} → HasCommas ts i es d j → AreOnlyCommas ts i es d j
  commas_only (HasCommas.one_with_comma p separator) = one_with_comma_only (expr_only p) separator
  commas_only (HasCommas.several p separator others ending) = several_only (expr_only p) separator others (exprs_only others) ending

-- behind the tokens of an expression alone stands none
pub expressions_unique : ExpressionsAreUnique
expressions_unique ts from to e other depth other_depth p q =
    let stops : Past 26 (take to ts) to = past_from (take to ts) to (omega (arith, code_past (take to ts) to (nothing_behind to ts))) in
    let same = expr_only (expr_cut p) stops other other_depth to (expr_cut q) stops in
    (same.tree, same.depth)
