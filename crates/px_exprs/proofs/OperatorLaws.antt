-- Of an operator with its operands, there is one derivation where there is one of each operand.
use Rattle.std.proofs.Common.{◌≡◌, ℕ, suc, max, ◌+◌, ◌≤◌, length, List, [], ◌∷◌, refl, sym, ap, ap₂, ◌∙◌, subst, arith}
use Rattle.px_base.specs.declared.refusals.Span.{Span}
use Rattle.px_base.specs.declared.c_types.BinOp.{BinOp}
use Rattle.px_base.specs.declared.c_types.UnOp.{UnOp}
use Rattle.px_lexer.specs.declared.spelling.Keyword.TheVariants as word
use Rattle.px_lexer.specs.declared.spelling.Operator.TheVariants as sign
use Rattle.px_tree.specs.declared.typings.«Type».{«Type» as Typing}
use Rattle.px_tree.specs.declared.expressions.CompareOp.{CompareOp}
use Rattle.px_tree.specs.declared.expressions.Expr.{Expr}
use Rattle.px_tree.specs.declared.expressions.ExprForm.{ExprForm}
use Rattle.px_tree.specs.declared.expressions.ExprForm.TheVariants as form
use Rattle.px_tree.specs.declared.expressions.Link.{Link}
use Rattle.px_tree.specs.declared.expressions.Comparison.{Comparison}
use Rattle.px_lexer.specs.Terminals.{Terminal, IsKeyword, IsOperator, IsAt}
use Rattle.px_exprs.specs.Typings.{IsTyping}
use Rattle.px_exprs.specs.Grammar.{Level, binary_levels, unary_operators, node, link, comparison, IsOf, IsCompareOp, IsExpr, IsOr, AreOrs, IsAnd, AreAnds, IsNot, IsCompare, AreComparisons, IsBinary, AreLinks, IsUnary, IsPrimary}
use Rattle.px_exprs.specs.Codes.{code_at, stop_at, Past}
use Rattle.px_exprs.proofs.Codes.{code_here}
use Rattle.px_lexer.proofs.OneToken.{one_place}
use Rattle.px_exprs.proofs.Tables.{AreLevels, one_binary, one_unary, unary_code, one_comparison, compare_code}
use Rattle.px_exprs.proofs.Only.{IsOnly}
use Rattle.px_exprs.proofs.Beginnings.{primary_begins, compare_begins, binary_begins}
use Rattle.px_exprs.proofs.Telling.{stop_here}
use Rattle.px_exprs.proofs.Stops.{ors_stop, ands_stop, comparisons_stop, links_stop}
use Rattle.px_exprs.proofs.TypingLaws.{typing_unique}

pub node_same : {k l : ℕ} {at place : Span} {f g : ExprForm} → k ≡ l → at ≡ place → f ≡ g → node k at f ≡ node l place g
node_same {k} {l} {at} {place} {f} {g} p q r = ap (λ x. node x at f) p ∙ ap (λ x. node l x f) q ∙ ap (λ x. node l place x) r

-- `or`

pub or_one_only : {ts : List Terminal} {i d j : ℕ} {e : Expr} → IsOnly (IsAnd ts i) (Past 24 ts) e d j → IsOnly (IsOr ts i) (Past 25 ts) e d j
or_one_only only s f c k (IsOr.one_and q) t = only (omega (arith, s)) f c k q (omega (arith, t))
or_one_only {ts} only s f c k (IsOr.or_chain at q others e) t =
    let same = only (omega (arith, s)) _ _ _ q (omega (arith, ors_stop others)) in
    absurd (omega (arith, ap (stop_at ts) same.end, ors_stop others, s))

pub or_chain_only : {ts : List Terminal} {i k a b j : ℕ} {at : Span} {first e : Expr} {others : List Expr} → IsAt ts i at → IsOnly (IsAnd ts i) (Past 24 ts) first a k → AreOrs ts k others b j
    → IsOnly (AreOrs ts k) (Past 25 ts) others b j → e ≡ node k at (form.Or (first ∷ others)) → IsOnly (IsOr ts i) (Past 25 ts) e (suc (max a b)) j
or_chain_only {ts} at only others rest e s f c k (IsOr.one_and q) t =
    let same = only (omega (arith, ors_stop others)) _ _ _ q (omega (arith, t)) in
    absurd (omega (arith, ap (stop_at ts) same.end, ors_stop others, t))
or_chain_only {ts} at only others rest e s f c k (IsOr.or_chain {b = b} {others = more} place q following g) t =
    let same = only (omega (arith, ors_stop others)) _ _ _ q (omega (arith, ors_stop following)) in
    let later = rest s more b k (subst (λ x. AreOrs ts x more b k) (sym same.end) following) t in
    record {
      tree = e ∙ node_same same.end (one_place at place) (ap₂ (λ x xs. form.Or (x ∷ xs)) same.tree later.tree) ∙ sym g;
      depth = ap suc (ap₂ max same.depth later.depth);
      end = later.end;
    }

pub ors_last_only : {ts : List Terminal} {k d j : ℕ} {e : Expr} → IsOnly (IsAnd ts (suc k)) (Past 24 ts) e d j → IsOnly (AreOrs ts k) (Past 25 ts) (e ∷ []) d j
ors_last_only only s _ c m (AreOrs.last_or o q) t = let same = only (omega (arith, s)) _ _ _ q (omega (arith, t)) in record { tree = ap (λ x. x ∷ []) same.tree; depth = same.depth; end = same.end }
ors_last_only {ts} only s _ c m (AreOrs.more_ors o q others) t =
    let same = only (omega (arith, s)) _ _ _ q (omega (arith, ors_stop others)) in
    absurd (omega (arith, ap (stop_at ts) same.end, ors_stop others, s))

pub ors_more_only : {ts : List Terminal} {k l a b j : ℕ} {e : Expr} {others : List Expr} → IsOnly (IsAnd ts (suc k)) (Past 24 ts) e a l → AreOrs ts l others b j
    → IsOnly (AreOrs ts l) (Past 25 ts) others b j → IsOnly (AreOrs ts k) (Past 25 ts) (e ∷ others) (max a b) j
ors_more_only {ts} only others rest s _ c m (AreOrs.last_or o q) t =
    let same = only (omega (arith, ors_stop others)) _ _ _ q (omega (arith, t)) in
    absurd (omega (arith, ap (stop_at ts) same.end, ors_stop others, t))
ors_more_only {ts} only others rest s _ c m (AreOrs.more_ors {b = b} {others = more} o q following) t =
    let same = only (omega (arith, ors_stop others)) _ _ _ q (omega (arith, ors_stop following)) in
    let later = rest s more b m (subst (λ x. AreOrs ts x more b m) (sym same.end) following) t in
    record { tree = ap₂ (λ x xs. x ∷ xs) same.tree later.tree; depth = ap₂ max same.depth later.depth; end = later.end }

-- `and`

pub and_one_only : {ts : List Terminal} {i d j : ℕ} {e : Expr} → IsOnly (IsNot ts i) (Past 23 ts) e d j → IsOnly (IsAnd ts i) (Past 24 ts) e d j
and_one_only only s f c k (IsAnd.one_not q) t = only (omega (arith, s)) f c k q (omega (arith, t))
and_one_only {ts} only s f c k (IsAnd.and_chain at q others e) t =
    let same = only (omega (arith, s)) _ _ _ q (omega (arith, ands_stop others)) in
    absurd (omega (arith, ap (stop_at ts) same.end, ands_stop others, s))

pub and_chain_only : {ts : List Terminal} {i k a b j : ℕ} {at : Span} {first e : Expr} {others : List Expr} → IsAt ts i at → IsOnly (IsNot ts i) (Past 23 ts) first a k → AreAnds ts k others b j
    → IsOnly (AreAnds ts k) (Past 24 ts) others b j → e ≡ node k at (form.And (first ∷ others)) → IsOnly (IsAnd ts i) (Past 24 ts) e (suc (max a b)) j
and_chain_only {ts} at only others rest e s f c k (IsAnd.one_not q) t =
    let same = only (omega (arith, ands_stop others)) _ _ _ q (omega (arith, t)) in
    absurd (omega (arith, ap (stop_at ts) same.end, ands_stop others, t))
and_chain_only {ts} at only others rest e s f c k (IsAnd.and_chain {b = b} {others = more} place q following g) t =
    let same = only (omega (arith, ands_stop others)) _ _ _ q (omega (arith, ands_stop following)) in
    let later = rest s more b k (subst (λ x. AreAnds ts x more b k) (sym same.end) following) t in
    record {
      tree = e ∙ node_same same.end (one_place at place) (ap₂ (λ x xs. form.And (x ∷ xs)) same.tree later.tree) ∙ sym g;
      depth = ap suc (ap₂ max same.depth later.depth);
      end = later.end;
    }

pub ands_last_only : {ts : List Terminal} {k d j : ℕ} {e : Expr} → IsOnly (IsNot ts (suc k)) (Past 23 ts) e d j → IsOnly (AreAnds ts k) (Past 24 ts) (e ∷ []) d j
ands_last_only only s _ c m (AreAnds.last_and o q) t = let same = only (omega (arith, s)) _ _ _ q (omega (arith, t)) in record { tree = ap (λ x. x ∷ []) same.tree; depth = same.depth; end = same.end }
ands_last_only {ts} only s _ c m (AreAnds.more_ands o q others) t =
    let same = only (omega (arith, s)) _ _ _ q (omega (arith, ands_stop others)) in
    absurd (omega (arith, ap (stop_at ts) same.end, ands_stop others, s))

pub ands_more_only : {ts : List Terminal} {k l a b j : ℕ} {e : Expr} {others : List Expr} → IsOnly (IsNot ts (suc k)) (Past 23 ts) e a l → AreAnds ts l others b j
    → IsOnly (AreAnds ts l) (Past 24 ts) others b j → IsOnly (AreAnds ts k) (Past 24 ts) (e ∷ others) (max a b) j
ands_more_only {ts} only others rest s _ c m (AreAnds.last_and o q) t =
    let same = only (omega (arith, ands_stop others)) _ _ _ q (omega (arith, t)) in
    absurd (omega (arith, ap (stop_at ts) same.end, ands_stop others, t))
ands_more_only {ts} only others rest s _ c m (AreAnds.more_ands {b = b} {others = more} o q following) t =
    let same = only (omega (arith, ands_stop others)) _ _ _ q (omega (arith, ands_stop following)) in
    let later = rest s more b m (subst (λ x. AreAnds ts x more b m) (sym same.end) following) t in
    record { tree = ap₂ (λ x xs. x ∷ xs) same.tree later.tree; depth = ap₂ max same.depth later.depth; end = later.end }

-- `if`

pub plain_only : {ts : List Terminal} {i d j : ℕ} {e : Expr} → IsOnly (IsOr ts i) (Past 25 ts) e d j → IsOnly (IsExpr ts i) (Past 26 ts) e d j
plain_only only s f c k (IsExpr.plain q) t = only (omega (arith, s)) f c k q (omega (arith, t))
plain_only {ts} only s f c k (IsExpr.conditional at q condition test otherwise r e) t =
    let same = only (omega (arith, s)) _ _ _ q (omega (arith, stop_here condition refl)) in
    absurd (omega (arith, ap (stop_at ts) same.end, stop_here condition refl, s))

conditional_form : {u v w x y z : Expr} → u ≡ x → v ≡ y → w ≡ z → form.Conditional u v w ≡ form.Conditional x y z
conditional_form {u} {v} {w} {x} {y} {z} p q r = ap (λ a. form.Conditional a v w) p ∙ ap₂ (λ a b. form.Conditional x a b) q r

pub conditional_only : {ts : List Terminal} {i k l a b c j : ℕ} {at : Span} {value test otherwise e : Expr} → IsAt ts i at → IsOnly (IsOr ts i) (Past 25 ts) value a k → IsKeyword ts k word.If
    → IsOnly (IsOr ts (suc k)) (Past 25 ts) test b l → IsKeyword ts l word.Else → IsOnly (IsExpr ts (suc l)) (Past 26 ts) otherwise c j → e ≡ node k at (form.Conditional value test otherwise)
    → IsOnly (IsExpr ts i) (Past 26 ts) e (suc (max a (max b c))) j
conditional_only {ts} at first condition second otherwise third e s f c k (IsExpr.plain q) t =
    let same = first (omega (arith, stop_here condition refl)) _ _ _ q (omega (arith, t)) in
    absurd (omega (arith, ap (stop_at ts) same.end, stop_here condition refl, t))
conditional_only {ts} at first condition second otherwise third e s f _ k (IsExpr.conditional {l = n} {b = b} {c = c} {test = test} {otherwise = last} place q condition' r otherwise' u g) t =
    let one = first (omega (arith, stop_here condition refl)) _ _ _ q (omega (arith, stop_here condition' refl)) in
    let two = second (omega (arith, stop_here otherwise refl)) test b n (subst (λ x. IsOr ts (suc x) test b n) (sym one.end) r) (omega (arith, stop_here otherwise' refl)) in
    let three = third s last c k (subst (λ x. IsExpr ts (suc x) last c k) (sym two.end) u) t in
    record {
      tree =
          e ∙ node_same one.end (one_place at place) (conditional_form one.tree two.tree three.tree) ∙ sym g;
      depth = ap suc (ap₂ max one.depth (ap₂ max two.depth three.depth));
      end = three.end;
    }

-- `not`

pub compared_only : {ts : List Terminal} {i d j : ℕ} {e : Expr} → IsCompare ts i e d j → IsOnly (IsCompare ts i) (Past 23 ts) e d j → IsOnly (IsNot ts i) (Past 23 ts) e d j
compared_only p only s f c k (IsNot.compared q) t = only s f c k q t
compared_only p only s f c k (IsNot.denied at denial q e) t = absurd (omega (arith, compare_begins p, code_here denial))

pub denied_only : {ts : List Terminal} {i d j : ℕ} {at : Span} {operand e : Expr} → IsAt ts i at → IsKeyword ts i word.Not → IsOnly (IsNot ts (suc i)) (Past 23 ts) operand d j → e ≡ node i at (form.Not operand)
    → IsOnly (IsNot ts i) (Past 23 ts) e (suc d) j
denied_only at denial only e s f c k (IsNot.compared q) t = absurd (omega (arith, compare_begins q, code_here denial))
denied_only at denial only e s f c k (IsNot.denied place denial' q g) t =
    let same = only s _ _ _ q t in
    record { tree = e ∙ node_same refl (one_place at place) (ap form.Not same.tree) ∙ sym g; depth = ap suc same.depth; end = same.end }

-- Comparisons

-- the least and the greatest code of a comparison of its form
abbrev op_low : {ts : List Terminal} {k l : ℕ} {meant : CompareOp} → IsCompareOp ts k meant l → ℕ
op_low (IsCompareOp.by_sign o e) = 18
op_low (IsCompareOp.in_ h m e) = 20
op_low (IsCompareOp.not_in h g m e) = 21
op_low (IsCompareOp.is_ h m e) = 22
op_low (IsCompareOp.is_not h g m e) = 22

abbrev op_high : {ts : List Terminal} {k l : ℕ} {meant : CompareOp} → IsCompareOp ts k meant l → ℕ
op_high (IsCompareOp.by_sign o e) = 19
op_high (IsCompareOp.in_ h m e) = 20
op_high (IsCompareOp.not_in h g m e) = 21
op_high (IsCompareOp.is_ h m e) = 22
op_high (IsCompareOp.is_not h g m e) = 22

op_bounds : {ts : List Terminal} {k l : ℕ} {meant : CompareOp} (p : IsCompareOp ts k meant l) → (op_low p ≤ code_at ts k) × (code_at ts k ≤ op_high p)
op_bounds (IsCompareOp.by_sign o e) = compare_code o
op_bounds (IsCompareOp.in_ h m e) = (omega (arith, code_here h), omega (arith, code_here h))
op_bounds (IsCompareOp.not_in h g m e) = (omega (arith, code_here h), omega (arith, code_here h))
op_bounds (IsCompareOp.is_ h m e) = (omega (arith, code_here h), omega (arith, code_here h))
op_bounds (IsCompareOp.is_not h g m e) = (omega (arith, code_here h), omega (arith, code_here h))

-- before an operand a comparison is the only one
pub compare_op_unique : {ts : List Terminal} {k l m : ℕ} {meant other : CompareOp} → IsCompareOp ts k meant l → IsCompareOp ts k other m → code_at ts l ≤ 18 → code_at ts m ≤ 18 → (meant ≡ other) × (l ≡ m)
compare_op_unique (IsCompareOp.by_sign o e) (IsCompareOp.by_sign p f) s t = (one_comparison o p, e ∙ sym f)
compare_op_unique (IsCompareOp.by_sign o e) q s t = absurd (omega (arith, (compare_code o).1, (op_bounds q).0))
compare_op_unique (IsCompareOp.in_ h m e) (IsCompareOp.in_ g n f) s t = (m ∙ sym n, e ∙ sym f)
compare_op_unique (IsCompareOp.in_ h m e) q s t = absurd (omega (arith, code_here h, (op_bounds q).0, (op_bounds q).1))
compare_op_unique (IsCompareOp.not_in h i m e) (IsCompareOp.not_in g j n f) s t = (m ∙ sym n, e ∙ sym f)
compare_op_unique (IsCompareOp.not_in h i m e) q s t = absurd (omega (arith, code_here h, (op_bounds q).0, (op_bounds q).1))
compare_op_unique (IsCompareOp.is_ h m e) (IsCompareOp.is_ g n f) s t = (m ∙ sym n, e ∙ sym f)
compare_op_unique {ts} (IsCompareOp.is_ h m e) (IsCompareOp.is_not g j n f) s t = absurd (omega (arith, ap (code_at ts) e, s, code_here j))
compare_op_unique (IsCompareOp.is_ h m e) q s t = absurd (omega (arith, code_here h, (op_bounds q).0, (op_bounds q).1))
compare_op_unique (IsCompareOp.is_not h i m e) (IsCompareOp.is_not g j n f) s t = (m ∙ sym n, e ∙ sym f)
compare_op_unique {ts} (IsCompareOp.is_not h i m e) (IsCompareOp.is_ g n f) s t = absurd (omega (arith, ap (code_at ts) f, t, code_here i))
compare_op_unique (IsCompareOp.is_not h i m e) q s t = absurd (omega (arith, code_here h, (op_bounds q).0, (op_bounds q).1))

pub one_operand_only : {ts : List Terminal} {i d j : ℕ} {e : Expr} → IsOnly (IsBinary ts binary_levels i) (Past 18 ts) e d j → IsOnly (IsCompare ts i) (Past 23 ts) e d j
one_operand_only only s f c k (IsCompare.one_operand q) t = only (omega (arith, s)) f c k q (omega (arith, t))
one_operand_only {ts} only s f c k (IsCompare.compare_chain at q others e) t =
    let begin = comparisons_stop others in
    let same = only (omega (arith, s)) _ _ _ q (omega (arith, begin.0)) in
    absurd (omega (arith, ap (stop_at ts) same.end, begin.1, s))

pub compare_chain_only : {ts : List Terminal} {i k a b j : ℕ} {at : Span} {first e : Expr} {others : List Comparison} → IsAt ts i at → IsOnly (IsBinary ts binary_levels i) (Past 18 ts) first a k
    → AreComparisons ts k others b j → IsOnly (AreComparisons ts k) (Past 23 ts) others b j → e ≡ node k at (form.Compare first others) → IsOnly (IsCompare ts i) (Past 23 ts) e (suc (max a b)) j
compare_chain_only {ts} at only others rest e s f c k (IsCompare.one_operand q) t =
    let begin = comparisons_stop others in
    let same = only (omega (arith, begin.0)) _ _ _ q (omega (arith, t)) in
    absurd (omega (arith, ap (stop_at ts) same.end, begin.1, t))
compare_chain_only {ts} at only others rest e s f c k (IsCompare.compare_chain {b = b} {others = more} place q following g) t =
    let same = only (omega (arith, (comparisons_stop others).0)) _ _ _ q (omega (arith, (comparisons_stop following).0)) in
    let later = rest s more b k (subst (λ x. AreComparisons ts x more b k) (sym same.end) following) t in
    record {
      tree = e ∙ node_same same.end (one_place at place) (ap₂ (λ x xs. form.Compare x xs) same.tree later.tree) ∙ sym g;
      depth = ap suc (ap₂ max same.depth later.depth);
      end = later.end;
    }

pub comparisons_last_only : {ts : List Terminal} {k l d j : ℕ} {meant : CompareOp} {e : Expr} → IsCompareOp ts k meant l → IsBinary ts binary_levels l e d j → IsOnly (IsBinary ts binary_levels l) (Past 18 ts) e d j
    → IsOnly (AreComparisons ts k) (Past 23 ts) (comparison meant e ∷ []) d j
comparisons_last_only {ts} o p only s _ c m (AreComparisons.last_comparison {e = f} o' q) t =
    let op = compare_op_unique o o' (binary_begins p) (binary_begins q) in
    let same = only (omega (arith, s)) f c m (subst (λ x. IsBinary ts binary_levels x f c m) (sym op.1) q) (omega (arith, t)) in
    record { tree = ap₂ (λ x y. comparison x y ∷ []) op.0 same.tree; depth = same.depth; end = same.end }
comparisons_last_only {ts} o p only s _ c m (AreComparisons.more_comparisons {m = n} {a = a} {e = f} o' q others) t =
    let op = compare_op_unique o o' (binary_begins p) (binary_begins q) in
    let begin = comparisons_stop others in
    let same = only (omega (arith, s)) f a n (subst (λ x. IsBinary ts binary_levels x f a n) (sym op.1) q) (omega (arith, begin.0)) in
    absurd (omega (arith, ap (stop_at ts) same.end, begin.1, s))

pub comparisons_more_only : {ts : List Terminal} {k l m a b j : ℕ} {meant : CompareOp} {e : Expr} {others : List Comparison} → IsCompareOp ts k meant l → IsBinary ts binary_levels l e a m
    → IsOnly (IsBinary ts binary_levels l) (Past 18 ts) e a m → AreComparisons ts m others b j → IsOnly (AreComparisons ts m) (Past 23 ts) others b j
    → IsOnly (AreComparisons ts k) (Past 23 ts) (comparison meant e ∷ others) (max a b) j
comparisons_more_only {ts} o p only others rest s _ c m (AreComparisons.last_comparison {e = f} o' q) t =
    let op = compare_op_unique o o' (binary_begins p) (binary_begins q) in
    let begin = comparisons_stop others in
    let same = only (omega (arith, begin.0)) f c m (subst (λ x. IsBinary ts binary_levels x f c m) (sym op.1) q) (omega (arith, t)) in
    absurd (omega (arith, ap (stop_at ts) same.end, begin.1, t))
comparisons_more_only {ts} o p only others rest s _ c z (AreComparisons.more_comparisons {m = n} {a = a} {b = b} {e = f} {others = more} o' q following) t =
    let op = compare_op_unique o o' (binary_begins p) (binary_begins q) in
    let same = only (omega (arith, (comparisons_stop others).0)) f a n (subst (λ x. IsBinary ts binary_levels x f a n) (sym op.1) q) (omega (arith, (comparisons_stop following).0)) in
    let later = rest s more b z (subst (λ x. AreComparisons ts x more b z) (sym same.end) following) t in
    record { tree = ap₂ (λ x xs. x ∷ xs) (ap₂ comparison op.0 same.tree) later.tree; depth = ap₂ max same.depth later.depth; end = later.end }

-- Binary operators

pub tightest_only : {ts : List Terminal} {i d j : ℕ} {e : Expr} → IsOnly (IsUnary ts i) (Past 12 ts) e d j → IsOnly (IsBinary ts [] i) (Past 12 ts) e d j
tightest_only only s f c k (IsBinary.tightest q) t = only s f c k q t

pub alone_only : {ts : List Terminal} {level : Level} {tighter : List Level} {i d j : ℕ} {e : Expr} → AreLevels (level ∷ tighter) → IsOnly (IsBinary ts tighter i) (Past (12 + length tighter) ts) e d j
    → IsOnly (IsBinary ts (level ∷ tighter) i) (Past (12 + length (level ∷ tighter)) ts) e d j
alone_only levels only s f c k (IsBinary.alone q) t = only (omega (arith, s)) f c k q (omega (arith, t))
alone_only {ts} levels only s f c k (IsBinary.binary_chain at q others e) t =
    let begin = links_stop levels others in
    let same = only (omega (arith, s)) _ _ _ q (omega (arith, begin)) in
    absurd (omega (arith, ap (stop_at ts) same.end, begin, s))

pub binary_chain_only : {ts : List Terminal} {level : Level} {tighter : List Level} {i k a b j : ℕ} {at : Span} {first e : Expr} {others : List Link} → AreLevels (level ∷ tighter) → IsAt ts i at
    → IsOnly (IsBinary ts tighter i) (Past (12 + length tighter) ts) first a k → AreLinks ts level tighter k others b j → IsOnly (AreLinks ts level tighter k) (Past (12 + length (level ∷ tighter)) ts) others b j
    → e ≡ node k at (form.Chain first others) → IsOnly (IsBinary ts (level ∷ tighter) i) (Past (12 + length (level ∷ tighter)) ts) e (suc (max a b)) j
binary_chain_only {ts} levels at only others rest e s f c k (IsBinary.alone q) t =
    let begin = links_stop levels others in
    let same = only (omega (arith, begin)) _ _ _ q (omega (arith, t)) in
    absurd (omega (arith, ap (stop_at ts) same.end, begin, t))
binary_chain_only {ts} {level} {tighter} levels at only others rest e s f c k (IsBinary.binary_chain {b = b} {others = more} place q following g) t =
    let same = only (omega (arith, links_stop levels others)) _ _ _ q (omega (arith, links_stop levels following)) in
    let later = rest s more b k (subst (λ x. AreLinks ts level tighter x more b k) (sym same.end) following) t in
    record {
      tree = e ∙ node_same same.end (one_place at place) (ap₂ (λ x xs. form.Chain x xs) same.tree later.tree) ∙ sym g;
      depth = ap suc (ap₂ max same.depth later.depth);
      end = later.end;
    }

pub links_last_only : {ts : List Terminal} {level : Level} {tighter : List Level} {k d j : ℕ} {meant : BinOp} {e : Expr} → AreLevels (level ∷ tighter) → IsOf level ts k meant
    → IsOnly (IsBinary ts tighter (suc k)) (Past (12 + length tighter) ts) e d j → IsOnly (AreLinks ts level tighter k) (Past (12 + length (level ∷ tighter)) ts) (link meant e ∷ []) d j
links_last_only {tighter} levels o only s _ c m (AreLinks.last_link o' q) t =
    let same = only (omega (arith, s)) _ _ _ q (omega (arith, t)) in
    record { tree = ap₂ (λ x y. link x y ∷ []) (one_binary tighter levels o o') same.tree; depth = same.depth; end = same.end }
links_last_only {ts} levels o only s _ c m (AreLinks.more_links o' q others) t =
    let begin = links_stop levels others in
    let same = only (omega (arith, s)) _ _ _ q (omega (arith, begin)) in
    absurd (omega (arith, ap (stop_at ts) same.end, begin, s))

pub links_more_only : {ts : List Terminal} {level : Level} {tighter : List Level} {k l a b j : ℕ} {meant : BinOp} {e : Expr} {others : List Link} → AreLevels (level ∷ tighter) → IsOf level ts k meant
    → IsOnly (IsBinary ts tighter (suc k)) (Past (12 + length tighter) ts) e a l → AreLinks ts level tighter l others b j → IsOnly (AreLinks ts level tighter l) (Past (12 + length (level ∷ tighter)) ts) others b j
    → IsOnly (AreLinks ts level tighter k) (Past (12 + length (level ∷ tighter)) ts) (link meant e ∷ others) (max a b) j
links_more_only {ts} levels o only others rest s _ c m (AreLinks.last_link o' q) t =
    let begin = links_stop levels others in
    let same = only (omega (arith, begin)) _ _ _ q (omega (arith, t)) in
    absurd (omega (arith, ap (stop_at ts) same.end, begin, t))
links_more_only {ts} {level} {tighter} levels o only others rest s _ c m (AreLinks.more_links {b = b} {others = more} o' q following) t =
    let same = only (omega (arith, links_stop levels others)) _ _ _ q (omega (arith, links_stop levels following)) in
    let later = rest s more b m (subst (λ x. AreLinks ts level tighter x more b m) (sym same.end) following) t in
    record { tree = ap₂ (λ x xs. x ∷ xs) (ap₂ link (one_binary tighter levels o o') same.tree) later.tree; depth = ap₂ max same.depth later.depth; end = later.end }

-- Unary operators and casts

pub signed_only : {ts : List Terminal} {i d j : ℕ} {at : Span} {meant : UnOp} {operand e : Expr} → IsAt ts i at → IsOf unary_operators ts i meant → IsOnly (IsUnary ts (suc i)) (Past 12 ts) operand d j
    → e ≡ node i at (form.Unary meant operand) → IsOnly (IsUnary ts i) (Past 12 ts) e (suc d) j
signed_only at o only e s f c k (IsUnary.signed place o' q g) t =
    let same = only s _ _ _ q t in
    record { tree = e ∙ node_same refl (one_place at place) (ap₂ form.Unary (one_unary o o') same.tree) ∙ sym g; depth = ap suc same.depth; end = same.end }
signed_only at o only e s f c k (IsUnary.cast place less u greater q g) t = absurd (omega (arith, (unary_code o).1, code_here less))
signed_only at o only e s f c k (IsUnary.unsigned q) t = absurd (omega (arith, (unary_code o).0, primary_begins q))

pub cast_only : {ts : List Terminal} {i k a b j : ℕ} {at : Span} {typing : Typing} {operand e : Expr} → IsAt ts i at → IsOperator ts i sign.Less → IsTyping ts (suc i) typing a k → IsOperator ts k sign.Greater
    → IsOnly (IsUnary ts (suc k)) (Past 12 ts) operand b j → e ≡ node i at (form.Cast typing operand) → IsOnly (IsUnary ts i) (Past 12 ts) e (suc (max a b)) j
cast_only at less u greater only e s f c k (IsUnary.signed place o q g) t = absurd (omega (arith, (unary_code o).1, code_here less))
cast_only {ts} at less u greater only e s f c k (IsUnary.cast {b = b} {operand = operand} place less' v greater' q g) t =
    let type = typing_unique u v (omega (arith, code_here greater)) (omega (arith, code_here greater')) in
    let same = only s operand b k (subst (λ x. IsUnary ts (suc x) operand b k) (sym type.end) q) t in
    record { tree = e ∙ node_same refl (one_place at place) (ap₂ form.Cast type.tree same.tree) ∙ sym g; depth = ap suc (ap₂ max type.depth same.depth); end = same.end }
cast_only at less u greater only e s f c k (IsUnary.unsigned q) t = absurd (omega (arith, primary_begins q, code_here less))

pub unsigned_only : {ts : List Terminal} {i d j : ℕ} {e : Expr} → IsPrimary ts i e d j → IsOnly (IsPrimary ts i) (Past 12 ts) e d j → IsOnly (IsUnary ts i) (Past 12 ts) e d j
unsigned_only p only s f c k (IsUnary.signed place o q g) t = absurd (omega (arith, (unary_code o).0, primary_begins p))
unsigned_only p only s f c k (IsUnary.cast place less v greater q g) t = absurd (omega (arith, primary_begins p, code_here less))
unsigned_only p only s f c k (IsUnary.unsigned q) t = only s f c k q t
