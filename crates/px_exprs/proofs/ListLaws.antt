-- Of a list with its elements, and of a row, there is one derivation where there is one of each element.
use Rattle.std.proofs.Common.{nat_lt, ◌≡◌, ℕ, suc, max, inl, inr, List, [], ◌∷◌, Option, Some, None, refl, sym, ap, ap₂, ◌∙◌, subst, arith}
use Rattle.px_base.specs.declared.refusals.Span.{Span}
use Rattle.px_lexer.specs.declared.spelling.Operator.TheVariants as sign
use Rattle.px_tree.specs.declared.expressions.Expr.{Expr}
use Rattle.px_tree.specs.declared.expressions.ExprForm.TheVariants as form
use Rattle.px_tree.specs.declared.expressions.Entry.{Entry}
use Rattle.px_tree.specs.declared.expressions.Trailer.{Trailer}
use Rattle.px_tree.specs.declared.expressions.Trailer.TheVariants as trailer
use Rattle.px_tree.specs.declared.expressions.Argument.{Argument}
use Rattle.px_tree.specs.declared.expressions.Item.{Item}
use Rattle.px_tree.specs.declared.expressions.Item.TheVariants as item
use Rattle.px_lexer.specs.Terminals.{Terminal, IsOperator, IsName, IsAt}
use Rattle.px_exprs.specs.Grammar.{node, argument, entry, IsExpr, IsPrimary, AreTrailers, IsTrailer, AreArguments, IsArgument, AreItems, IsItem, MaybeExpr, HasComma, AreExprs, AreEntries, IsAtom}
use Rattle.px_exprs.specs.Codes.{code_at, stop_at, Past}
use Rattle.px_exprs.proofs.Codes.{code_here, name_code}
use Rattle.px_lexer.proofs.OneToken.{one_place, one_name}
use Rattle.px_exprs.proofs.Only.{IsOnly, From, Closes, EndsItem, ends_item, one_closing, no_more}
use Rattle.px_exprs.proofs.Beginnings.{expr_begins, exprs_begin, entries_begin, arguments_begin, items_begin, maybe_begins, expr_alone}
use Rattle.px_exprs.proofs.Telling.{stop_here}
use Rattle.px_exprs.proofs.Stops.{past_from, trailers_stop}
use Rattle.px_exprs.proofs.OperatorLaws.{node_same}

-- two lists with one tree, one nesting, one place of the bracket behind them and one end
pub record SameList {A : Type 0} (es fs : A) (d c m n l k : ℕ) : Type 0 where
  pub tree : es ≡ fs
  pub depth : d ≡ c
  pub end : m ≡ n
  pub last : l ≡ k

-- the only list from its index, among those that go on to a bracket that closes
abbrev pub IsOnlyList : {A : Type 0} → (A → ℕ → ℕ → Type 0) → List Terminal → A → ℕ → ℕ → Type 0
IsOnlyList {A} X ts es d l = (m : ℕ) → HasComma ts l m → Closes ts m → (fs : A) (c k : ℕ) → X fs c k → (n : ℕ) → HasComma ts k n → Closes ts n → SameList es fs d c m n l k

pub exprs_open : {ts : List Terminal} {i d j : ℕ} {es : List Expr} → AreExprs ts i es d j → Closes ts i → ⊥
exprs_open p c = omega (arith, exprs_begin p, c.0)

pub entries_open : {ts : List Terminal} {i d j : ℕ} {es : List Entry} → AreEntries ts i es d j → Closes ts i → ⊥
entries_open p c = omega (arith, entries_begin p, c.0)

pub arguments_open : {ts : List Terminal} {i d j : ℕ} {es : List Argument} → AreArguments ts i es d j → Closes ts i → ⊥
arguments_open p c = omega (arith, arguments_begin p, c.0)

pub items_open : {ts : List Terminal} {i d j : ℕ} {es : List Item} → AreItems ts i es d j → Closes ts i → ⊥
items_open p c = elim (items_begin p) [ inl x ↦ omega (arith, x, c.0) | inr x ↦ omega (arith, x, c.1) ]

-- behind the last element stands no further one
after_last : {ts : List Terminal} {l k m : ℕ} → HasComma ts l m → Closes ts m → l ≡ k → IsOperator ts k sign.Comma → Closes ts (suc k)
after_last {ts} ending s e comma =
    let closed = no_more ending s (subst (λ x. IsOperator ts x sign.Comma) (sym e) comma) in
    subst (λ x. Closes ts (suc x)) e closed

same_closing : {ts : List Terminal} {l k m n : ℕ} → HasComma ts l m → Closes ts m → HasComma ts k n → Closes ts n → l ≡ k → m ≡ n
same_closing {ts} {n = n} ending s other t e = one_closing ending (subst (λ x. HasComma ts x n) (sym e) other) s t

-- Lists of expressions

pub exprs_last_only : {ts : List Terminal} {k d j : ℕ} {e : Expr} → IsOnly (IsExpr ts k) (Past 26 ts) e d j → IsOnlyList (AreExprs ts k) ts (e ∷ []) d j
exprs_last_only only m ending s _ c k (AreExprs.last_expr q) n other t =
    let same = only (past_from _ _ (omega (arith, (ends_item ending s).0))) _ _ _ q (past_from _ _ (omega (arith, (ends_item other t).0))) in
    record { tree = ap (λ x. x ∷ []) same.tree; depth = same.depth; end = same_closing ending s other t same.end; last = same.end }
exprs_last_only only m ending s _ c k (AreExprs.more_exprs q comma following) n other t =
    let same = only (past_from _ _ (omega (arith, (ends_item ending s).0))) _ _ _ q (omega (arith, stop_here comma refl)) in
    absurd (exprs_open following (after_last ending s same.end comma))

pub exprs_more_only : {ts : List Terminal} {k l c d j : ℕ} {e : Expr} {others : List Expr} → IsOnly (IsExpr ts k) (Past 26 ts) e c l → IsOperator ts l sign.Comma → AreExprs ts (suc l) others d j
    → IsOnlyList (AreExprs ts (suc l)) ts others d j → IsOnlyList (AreExprs ts k) ts (e ∷ others) (max c d) j
exprs_more_only only comma others rest m ending s _ c k (AreExprs.last_expr q) n other t =
    let same = only (omega (arith, stop_here comma refl)) _ _ _ q (past_from _ _ (omega (arith, (ends_item other t).0))) in
    absurd (exprs_open others (after_last other t (sym same.end) comma))
exprs_more_only {ts} only comma others rest m ending s _ _ k (AreExprs.more_exprs {d = d} {others = more} q second following) n other t =
    let same = only (omega (arith, stop_here comma refl)) _ _ _ q (omega (arith, stop_here second refl)) in
    let later = rest m ending s more d k (subst (λ x. AreExprs ts (suc x) more d k) (sym same.end) following) n other t in
    record { tree = ap₂ (λ x xs. x ∷ xs) same.tree later.tree; depth = ap₂ max same.depth later.depth; end = later.end; last = later.last }

-- Lists of arguments

pub arguments_last_only : {ts : List Terminal} {k d j : ℕ} {e : Argument} → IsOnly (IsArgument ts k) (EndsItem ts) e d j → IsOnlyList (AreArguments ts k) ts (e ∷ []) d j
arguments_last_only only m ending s _ c k (AreArguments.last_argument q) n other t =
    let same = only (ends_item ending s) _ _ _ q (ends_item other t) in
    record { tree = ap (λ x. x ∷ []) same.tree; depth = same.depth; end = same_closing ending s other t same.end; last = same.end }
arguments_last_only only m ending s _ c k (AreArguments.more_arguments q comma following) n other t =
    let same = only (ends_item ending s) _ _ _ q (omega (arith, code_here comma), omega (arith, code_here comma)) in
    absurd (arguments_open following (after_last ending s same.end comma))

pub arguments_more_only : {ts : List Terminal} {k l c d j : ℕ} {e : Argument} {others : List Argument} → IsOnly (IsArgument ts k) (EndsItem ts) e c l → IsOperator ts l sign.Comma → AreArguments ts (suc l) others d j
    → IsOnlyList (AreArguments ts (suc l)) ts others d j → IsOnlyList (AreArguments ts k) ts (e ∷ others) (max c d) j
arguments_more_only only comma others rest m ending s _ c k (AreArguments.last_argument q) n other t =
    let same = only (omega (arith, code_here comma), omega (arith, code_here comma)) _ _ _ q (ends_item other t) in
    absurd (arguments_open others (after_last other t (sym same.end) comma))
arguments_more_only {ts} only comma others rest m ending s _ _ k (AreArguments.more_arguments {d = d} {others = more} q second following) n other t =
    let same = only (omega (arith, code_here comma), omega (arith, code_here comma)) _ _ _ q (omega (arith, code_here second), omega (arith, code_here second)) in
    let later = rest m ending s more d k (subst (λ x. AreArguments ts (suc x) more d k) (sym same.end) following) n other t in
    record { tree = ap₂ (λ x xs. x ∷ xs) same.tree later.tree; depth = ap₂ max same.depth later.depth; end = later.end; last = later.last }

-- Lists of items

pub items_last_only : {ts : List Terminal} {k d j : ℕ} {e : Item} → IsOnly (IsItem ts k) (EndsItem ts) e d j → IsOnlyList (AreItems ts k) ts (e ∷ []) d j
items_last_only only m ending s _ c k (AreItems.last_item q) n other t =
    let same = only (ends_item ending s) _ _ _ q (ends_item other t) in
    record { tree = ap (λ x. x ∷ []) same.tree; depth = same.depth; end = same_closing ending s other t same.end; last = same.end }
items_last_only only m ending s _ c k (AreItems.more_items q comma following) n other t =
    let same = only (ends_item ending s) _ _ _ q (omega (arith, code_here comma), omega (arith, code_here comma)) in
    absurd (items_open following (after_last ending s same.end comma))

pub items_more_only : {ts : List Terminal} {k l c d j : ℕ} {e : Item} {others : List Item} → IsOnly (IsItem ts k) (EndsItem ts) e c l → IsOperator ts l sign.Comma → AreItems ts (suc l) others d j
    → IsOnlyList (AreItems ts (suc l)) ts others d j → IsOnlyList (AreItems ts k) ts (e ∷ others) (max c d) j
items_more_only only comma others rest m ending s _ c k (AreItems.last_item q) n other t =
    let same = only (omega (arith, code_here comma), omega (arith, code_here comma)) _ _ _ q (ends_item other t) in
    absurd (items_open others (after_last other t (sym same.end) comma))
items_more_only {ts} only comma others rest m ending s _ _ k (AreItems.more_items {d = d} {others = more} q second following) n other t =
    let same = only (omega (arith, code_here comma), omega (arith, code_here comma)) _ _ _ q (omega (arith, code_here second), omega (arith, code_here second)) in
    let later = rest m ending s more d k (subst (λ x. AreItems ts (suc x) more d k) (sym same.end) following) n other t in
    record { tree = ap₂ (λ x xs. x ∷ xs) same.tree later.tree; depth = ap₂ max same.depth later.depth; end = later.end; last = later.last }

-- Entries of a dict

pub entries_last_only : {ts : List Terminal} {k l a b j : ℕ} {key value : Expr} → IsOnly (IsExpr ts k) (Past 26 ts) key a l → IsOperator ts l sign.Colon → IsOnly (IsExpr ts (suc l)) (Past 26 ts) value b j
    → IsOnlyList (AreEntries ts k) ts (entry key value ∷ []) (max a b) j
entries_last_only {ts} first colon second m ending s _ _ k (AreEntries.last_entry {b = b} {value = value} q colon' r) n other t =
    let one = first (omega (arith, stop_here colon refl)) _ _ _ q (omega (arith, stop_here colon' refl)) in
    let two = second (past_from _ _ (omega (arith, (ends_item ending s).0))) value b k (subst (λ x. IsExpr ts (suc x) value b k) (sym one.end) r) (past_from _ _ (omega (arith, (ends_item other t).0))) in
    record { tree = ap (λ x. x ∷ []) (ap₂ entry one.tree two.tree); depth = ap₂ max one.depth two.depth; end = same_closing ending s other t two.end; last = two.end }
entries_last_only {ts} first colon second m ending s _ _ k (AreEntries.more_entries {m = o} {b = b} {value = value} q colon' r comma following) n other t =
    let one = first (omega (arith, stop_here colon refl)) _ _ _ q (omega (arith, stop_here colon' refl)) in
    let two = second (past_from _ _ (omega (arith, (ends_item ending s).0))) value b o (subst (λ x. IsExpr ts (suc x) value b o) (sym one.end) r) (omega (arith, stop_here comma refl)) in
    absurd (entries_open following (after_last ending s two.end comma))

pub entries_more_only : {ts : List Terminal} {k l m a b c j : ℕ} {key value : Expr} {others : List Entry} → IsOnly (IsExpr ts k) (Past 26 ts) key a l → IsOperator ts l sign.Colon
    → IsOnly (IsExpr ts (suc l)) (Past 26 ts) value b m → IsOperator ts m sign.Comma → AreEntries ts (suc m) others c j → IsOnlyList (AreEntries ts (suc m)) ts others c j
    → IsOnlyList (AreEntries ts k) ts (entry key value ∷ others) (max (max a b) c) j
entries_more_only {ts} first colon second comma others rest m ending s _ _ k (AreEntries.last_entry {b = b} {value = value} q colon' r) n other t =
    let one = first (omega (arith, stop_here colon refl)) _ _ _ q (omega (arith, stop_here colon' refl)) in
    let two = second (omega (arith, stop_here comma refl)) value b k (subst (λ x. IsExpr ts (suc x) value b k) (sym one.end) r) (past_from _ _ (omega (arith, (ends_item other t).0))) in
    absurd (entries_open others (after_last other t (sym two.end) comma))
entries_more_only {ts} first colon second comma others rest m ending s _ _ k (AreEntries.more_entries {m = o} {b = b} {c = c} {value = value} {others = more} q colon' r comma' following) n other t =
    let one = first (omega (arith, stop_here colon refl)) _ _ _ q (omega (arith, stop_here colon' refl)) in
    let two = second (omega (arith, stop_here comma refl)) value b o (subst (λ x. IsExpr ts (suc x) value b o) (sym one.end) r) (omega (arith, stop_here comma' refl)) in
    let later = rest m ending s more c k (subst (λ x. AreEntries ts (suc x) more c k) (sym two.end) following) n other t in
    record { tree = ap₂ (λ x xs. x ∷ xs) (ap₂ entry one.tree two.tree) later.tree; depth = ap₂ max (ap₂ max one.depth two.depth) later.depth; end = later.end; last = later.last }

-- Arguments

pub positional_only : {ts : List Terminal} {k d j : ℕ} {e : Expr} → IsExpr ts k e d j → IsOnly (IsExpr ts k) (Past 26 ts) e d j → IsOnly (IsArgument ts k) (EndsItem ts) (argument None e) d j
positional_only p only s _ c m (IsArgument.positional q) t =
    let same = only (past_from _ _ (omega (arith, s.0))) _ _ _ q (past_from _ _ (omega (arith, t.0))) in
    record { tree = ap (argument None) same.tree; depth = same.depth; end = same.end }
positional_only {ts} p only s _ c m (IsArgument.keyword name equal q) t = absurd (omega (arith, ap (code_at ts) (expr_alone p (name_code name) (code_here equal)), code_here equal, s.1))

pub keyword_only : {ts : List Terminal} {k d j : ℕ} {name : List ℕ} {e : Expr} → IsName ts k name → IsOperator ts (suc k) sign.Equal → IsOnly (IsExpr ts (suc (suc k))) (Past 26 ts) e d j
    → IsOnly (IsArgument ts k) (EndsItem ts) (argument (Some name) e) d j
keyword_only {ts} name equal only s _ c m (IsArgument.positional q) t = absurd (omega (arith, ap (code_at ts) (expr_alone q (name_code name) (code_here equal)), code_here equal, t.1))
keyword_only name equal only s _ c m (IsArgument.keyword other equal' q) t =
    let same = only (past_from _ _ (omega (arith, s.0))) _ _ _ q (past_from _ _ (omega (arith, t.0))) in
    record { tree = ap₂ (λ x y. argument (Some x) y) (one_name name other) same.tree; depth = same.depth; end = same.end }

-- Items

pub absent_only : {ts : List Terminal} {k : ℕ} → IsOnly (MaybeExpr ts k) (From ts 26) None 0 k
absent_only s _ c m MaybeExpr.absent t = record { tree = refl; depth = refl; end = refl }
absent_only s _ c m (MaybeExpr.present q) t = absurd (omega (arith, expr_begins q, s))

pub present_only : {ts : List Terminal} {k d j : ℕ} {e : Expr} → IsExpr ts k e d j → IsOnly (IsExpr ts k) (Past 26 ts) e d j → IsOnly (MaybeExpr ts k) (From ts 26) (Some e) d j
present_only p only s _ c m MaybeExpr.absent t = absurd (omega (arith, expr_begins p, t))
present_only p only s _ c m (MaybeExpr.present q) t = let same = only (past_from _ _ s) _ _ _ q (past_from _ _ t) in record { tree = ap Some same.tree; depth = same.depth; end = same.end }

-- an expression before a comma or a bracket is no front of a slice
pub no_slice : {ts : List Terminal} {k d j c l : ℕ} {from to : Option Expr} → IsOnly (MaybeExpr ts k) (From ts 26) from d j → EndsItem ts j → MaybeExpr ts k to c l → IsOperator ts l sign.Colon → ⊥
no_slice {ts} only s q colon =
    let same = only (omega (arith, s.0)) _ _ _ q (omega (arith, code_here colon)) in
    omega (arith, ap (code_at ts) same.end, code_here colon, s.1)

-- nor the other way round
pub no_item : {ts : List Terminal} {k d j c l : ℕ} {from to : Option Expr} → IsOnly (MaybeExpr ts k) (From ts 26) from d j → IsOperator ts j sign.Colon → MaybeExpr ts k to c l → EndsItem ts l → ⊥
no_item {ts} only colon q t =
    let same = only (omega (arith, code_here colon)) _ _ _ q (omega (arith, t.0)) in
    omega (arith, ap (code_at ts) same.end, code_here colon, t.1)

pub not_ellipsis : {ts : List Terminal} {k d l : ℕ} {e : Option Expr} → IsOperator ts k sign.Ellipsis → MaybeExpr ts k e d l → IsOperator ts l sign.Colon → ⊥
not_ellipsis p q colon = elim (maybe_begins q colon) [ inl x ↦ omega (arith, x, code_here p) | inr x ↦ omega (arith, x, code_here p) ]

pub index_only : {ts : List Terminal} {k d j : ℕ} {e : Expr} → IsExpr ts k e d j → IsOnly (IsExpr ts k) (Past 26 ts) e d j → IsOnly (IsItem ts k) (EndsItem ts) (item.Index e) d j
index_only p only s _ c m (IsItem.index q) t =
    let same = only (past_from _ _ (omega (arith, s.0))) _ _ _ q (past_from _ _ (omega (arith, t.0))) in
    record { tree = ap item.Index same.tree; depth = same.depth; end = same.end }
index_only p only s _ c m (IsItem.ellipsis q) t = absurd (omega (arith, expr_begins p, code_here q))
index_only p only s _ c m (IsItem.slice q colon r) t = absurd (no_slice (present_only p only) s q colon)
index_only p only s _ c m (IsItem.step_slice q colon r second u) t = absurd (no_slice (present_only p only) s q colon)

pub ellipsis_only : {ts : List Terminal} {k : ℕ} → IsOperator ts k sign.Ellipsis → IsOnly (IsItem ts k) (EndsItem ts) item.Ellipsis 0 (suc k)
ellipsis_only p s _ c m (IsItem.index q) t = absurd (omega (arith, expr_begins q, code_here p))
ellipsis_only p s _ c m (IsItem.ellipsis q) t = record { tree = refl; depth = refl; end = refl }
ellipsis_only p s _ c m (IsItem.slice q colon r) t = absurd (not_ellipsis p q colon)
ellipsis_only p s _ c m (IsItem.step_slice q colon r second u) t = absurd (not_ellipsis p q colon)

pub slice_only : {ts : List Terminal} {k l a b j : ℕ} {from to : Option Expr} → MaybeExpr ts k from a l → IsOnly (MaybeExpr ts k) (From ts 26) from a l → IsOperator ts l sign.Colon
    → IsOnly (MaybeExpr ts (suc l)) (From ts 26) to b j → IsOnly (IsItem ts k) (EndsItem ts) (item.Slice from to None) (max a b) j
slice_only p first colon second s _ c m (IsItem.index q) t = absurd (no_item first colon (MaybeExpr.present q) t)
slice_only p first colon second s _ c m (IsItem.ellipsis q) t = absurd (not_ellipsis q p colon)
slice_only {ts} p first colon second s _ _ m (IsItem.slice {b = b} {to = to} q colon' r) t =
    let one = first (omega (arith, code_here colon)) _ _ _ q (omega (arith, code_here colon')) in
    let two = second (omega (arith, s.0)) to b m (subst (λ x. MaybeExpr ts (suc x) to b m) (sym one.end) r) (omega (arith, t.0)) in
    record { tree = ap₂ (λ x y. item.Slice x y None) one.tree two.tree; depth = ap₂ max one.depth two.depth; end = two.end }
slice_only {ts} p first colon second s _ _ m (IsItem.step_slice {m = n} {b = b} {to = to} q colon' r last u) t =
    let one = first (omega (arith, code_here colon)) _ _ _ q (omega (arith, code_here colon')) in
    absurd (no_slice second s (subst (λ x. MaybeExpr ts (suc x) to b n) (sym one.end) r) last)

slice_form : {u v w x y z : Option Expr} → u ≡ x → v ≡ y → w ≡ z → item.Slice u v w ≡ item.Slice x y z
slice_form {u} {v} {w} {x} {y} {z} p q r = ap (λ a. item.Slice a v w) p ∙ ap₂ (λ a b. item.Slice x a b) q r

pub step_slice_only : {ts : List Terminal} {k l m a b c j : ℕ} {from to step : Option Expr} → MaybeExpr ts k from a l → IsOnly (MaybeExpr ts k) (From ts 26) from a l → IsOperator ts l sign.Colon
    → IsOnly (MaybeExpr ts (suc l)) (From ts 26) to b m → IsOperator ts m sign.Colon → IsOnly (MaybeExpr ts (suc m)) (From ts 26) step c j
    → IsOnly (IsItem ts k) (EndsItem ts) (item.Slice from to step) (max a (max b c)) j
step_slice_only p first colon second last third s _ c m (IsItem.index q) t = absurd (no_item first colon (MaybeExpr.present q) t)
step_slice_only p first colon second last third s _ c m (IsItem.ellipsis q) t = absurd (not_ellipsis q p colon)
step_slice_only {ts} p first colon second last third s _ _ m (IsItem.slice {b = b} {to = to} q colon' r) t =
    let one = first (omega (arith, code_here colon)) _ _ _ q (omega (arith, code_here colon')) in
    absurd (no_item second last (subst (λ x. MaybeExpr ts (suc x) to b m) (sym one.end) r) t)
step_slice_only {ts} p first colon second last third s _ _ m (IsItem.step_slice {m = n} {b = b} {c = c} {to = to} {step = step} q colon' r last' u) t =
    let one = first (omega (arith, code_here colon)) _ _ _ q (omega (arith, code_here colon')) in
    let two = second (omega (arith, code_here last)) to b n (subst (λ x. MaybeExpr ts (suc x) to b n) (sym one.end) r) (omega (arith, code_here last')) in
    let three = third (omega (arith, s.0)) step c m (subst (λ x. MaybeExpr ts (suc x) step c m) (sym two.end) u) (omega (arith, t.0)) in
    record { tree = slice_form one.tree two.tree three.tree; depth = ap₂ max one.depth (ap₂ max two.depth three.depth); end = three.end }

-- Trailers

abbrev trailer_code : {ts : List Terminal} {k d j : ℕ} {t : Trailer} → IsTrailer ts k t d j → ℕ
trailer_code (IsTrailer.attribute p n) = 1
trailer_code (IsTrailer.empty_call p c) = 9
trailer_code (IsTrailer.call p a ending c) = 9
trailer_code (IsTrailer.subscript p a ending c) = 10

trailer_first : {ts : List Terminal} {k d j : ℕ} {t : Trailer} (p : IsTrailer ts k t d j) → code_at ts k ≡ trailer_code p
trailer_first (IsTrailer.attribute p n) = code_here p
trailer_first (IsTrailer.empty_call p c) = code_here p
trailer_first (IsTrailer.call p a ending c) = code_here p
trailer_first (IsTrailer.subscript p a ending c) = code_here p

-- any index
abbrev pub Anywhere : ℕ → Type 0
Anywhere j = Unit {0}

pub closes : {ts : List Terminal} {j : ℕ} → IsOperator ts j sign.CloseParenthesis → Closes ts j
closes h = (omega (arith, code_here h), omega (arith, code_here h))

pub closes_bracket : {ts : List Terminal} {j : ℕ} → IsOperator ts j sign.CloseBracket → Closes ts j
closes_bracket h = (omega (arith, code_here h), omega (arith, code_here h))

pub closes_brace : {ts : List Terminal} {j : ℕ} → IsOperator ts j sign.CloseBrace → Closes ts j
closes_brace h = (omega (arith, code_here h), omega (arith, code_here h))

pub attribute_only : {ts : List Terminal} {k : ℕ} {name : List ℕ} → IsOperator ts k sign.Point → IsName ts (suc k) name → IsOnly (IsTrailer ts k) Anywhere (trailer.Attribute name) 0 (suc (suc k))
attribute_only p n s _ c m (IsTrailer.attribute q l) t = record { tree = ap trailer.Attribute (one_name n l); depth = refl; end = refl }
attribute_only p n s _ c m q t = absurd (omega (arith, code_here p, trailer_first q))

pub empty_call_only : {ts : List Terminal} {k : ℕ} → IsOperator ts k sign.OpenParenthesis → IsOperator ts (suc k) sign.CloseParenthesis → IsOnly (IsTrailer ts k) Anywhere (trailer.Call []) 1 (suc (suc k))
empty_call_only p closed s _ c m (IsTrailer.empty_call q g) t = record { tree = refl; depth = refl; end = refl }
empty_call_only p closed s _ c m (IsTrailer.call q a ending g) t = absurd (arguments_open a (closes closed))
empty_call_only p closed s _ c m q t = absurd (omega (arith, code_here p, trailer_first q))

pub call_only : {ts : List Terminal} {k l m d : ℕ} {arguments : List Argument} → IsOperator ts k sign.OpenParenthesis → AreArguments ts (suc k) arguments d l → IsOnlyList (AreArguments ts (suc k)) ts arguments d l
    → HasComma ts l m → IsOperator ts m sign.CloseParenthesis → IsOnly (IsTrailer ts k) Anywhere (trailer.Call arguments) (suc d) (suc m)
call_only p a only ending closed s _ c m (IsTrailer.empty_call q g) t = absurd (arguments_open a (closes g))
call_only p a only ending closed s _ c m (IsTrailer.call q b other g) t =
    let same = only _ ending (closes closed) _ _ _ b _ other (closes g) in
    record { tree = ap trailer.Call same.tree; depth = ap suc same.depth; end = ap suc same.end }
call_only p a only ending closed s _ c m q t = absurd (omega (arith, code_here p, trailer_first q))

pub subscript_only : {ts : List Terminal} {k l m d : ℕ} {items : List Item} → IsOperator ts k sign.OpenBracket → IsOnlyList (AreItems ts (suc k)) ts items d l → HasComma ts l m
    → IsOperator ts m sign.CloseBracket → IsOnly (IsTrailer ts k) Anywhere (trailer.Subscript items (nat_lt l m)) (suc d) (suc m)
subscript_only p only ending closed s _ c m (IsTrailer.subscript q b other g) t =
    let same = only _ ending (closes_bracket closed) _ _ _ b _ other (closes_bracket g) in
    record { tree = ap₂ (λ items comma. trailer.Subscript items comma) same.tree (ap₂ nat_lt same.last same.end); depth = ap suc same.depth; end = ap suc same.end }
subscript_only p only ending closed s _ c m q t = absurd (omega (arith, code_here p, trailer_first q))

pub trailers_last_only : {ts : List Terminal} {k d j : ℕ} {t : Trailer} → IsOnly (IsTrailer ts k) Anywhere t d j → IsOnly (AreTrailers ts k) (Past 12 ts) (t ∷ []) d j
trailers_last_only only s _ c m (AreTrailers.last_trailer q) t = let same = only tt _ _ _ q tt in record { tree = ap (λ x. x ∷ []) same.tree; depth = same.depth; end = same.end }
trailers_last_only {ts} only s _ c m (AreTrailers.more_trailers q others) t =
    let same = only tt _ _ _ q tt in
    absurd (omega (arith, ap (stop_at ts) same.end, (trailers_stop others).1, s))

pub trailers_more_only : {ts : List Terminal} {k l a b j : ℕ} {t : Trailer} {others : List Trailer} → IsOnly (IsTrailer ts k) Anywhere t a l → AreTrailers ts l others b j
    → IsOnly (AreTrailers ts l) (Past 12 ts) others b j → IsOnly (AreTrailers ts k) (Past 12 ts) (t ∷ others) (max a b) j
trailers_more_only {ts} only others rest s _ c m (AreTrailers.last_trailer q) t =
    let same = only tt _ _ _ q tt in
    absurd (omega (arith, ap (stop_at ts) same.end, (trailers_stop others).1, t))
trailers_more_only {ts} only others rest s _ _ m (AreTrailers.more_trailers {b = b} {others = more} q following) t =
    let same = only tt _ _ _ q tt in
    let later = rest s more b m (subst (λ x. AreTrailers ts x more b m) (sym same.end) following) t in
    record { tree = ap₂ (λ x xs. x ∷ xs) same.tree later.tree; depth = ap₂ max same.depth later.depth; end = later.end }

-- Rows

pub one_atom_only : {ts : List Terminal} {i d j : ℕ} {e : Expr} → IsOnly (IsAtom ts i) (Past 1 ts) e d j → IsOnly (IsPrimary ts i) (Past 12 ts) e d j
one_atom_only only s f c k (IsPrimary.one_atom q) t = only (omega (arith, s)) f c k q (omega (arith, t))
one_atom_only {ts} only s f c k (IsPrimary.row at q others e) t =
    let begin = trailers_stop others in
    let same = only (omega (arith, s)) _ _ _ q (omega (arith, begin.0)) in
    absurd (omega (arith, ap (stop_at ts) same.end, begin.1, s))

pub row_only : {ts : List Terminal} {i k a b j : ℕ} {at : Span} {atom e : Expr} {others : List Trailer} → IsAt ts i at → IsOnly (IsAtom ts i) (Past 1 ts) atom a k → AreTrailers ts k others b j
    → IsOnly (AreTrailers ts k) (Past 12 ts) others b j → e ≡ node k at (form.Row atom others) → IsOnly (IsPrimary ts i) (Past 12 ts) e (max a b) j
row_only {ts} at only others rest e s f c k (IsPrimary.one_atom q) t =
    let begin = trailers_stop others in
    let same = only (omega (arith, begin.0)) _ _ _ q (omega (arith, t)) in
    absurd (omega (arith, ap (stop_at ts) same.end, begin.1, t))
row_only {ts} at only others rest e s f _ k (IsPrimary.row {b = b} {others = more} place q following g) t =
    let same = only (omega (arith, (trailers_stop others).0)) _ _ _ q (omega (arith, (trailers_stop following).0)) in
    let later = rest s more b k (subst (λ x. AreTrailers ts x more b k) (sym same.end) following) t in
    record { tree = e ∙ node_same same.end (one_place at place) (ap₂ form.Row same.tree later.tree) ∙ sym g; depth = ap₂ max same.depth later.depth; end = later.end }
