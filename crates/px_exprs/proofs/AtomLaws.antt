-- Of an atom with its parts, there is one derivation where there is one of each part.
use Rattle.std.proofs.Common.{◌≡◌, ℕ, ℤ, suc, max, ◌≤◌, List, [], ◌∷◌, refl, sym, ap, ap₂, ◌∙◌, subst, arith}
use Rattle.px_base.specs.declared.refusals.Span.{Span}
use Rattle.px_lexer.specs.declared.spelling.Keyword.TheVariants as word
use Rattle.px_lexer.specs.declared.spelling.Operator.TheVariants as sign
use Rattle.px_lexer.specs.declared.token_list.TokenKind.TheVariants as kind
use Rattle.px_tree.specs.declared.typings.«Type».{«Type» as Typing}
use Rattle.px_tree.specs.declared.expressions.Expr.{Expr}
use Rattle.px_tree.specs.declared.expressions.ExprForm.TheVariants as form
use Rattle.px_tree.specs.declared.expressions.Entry.{Entry}
use Rattle.px_lexer.specs.Terminals.{Terminal, HasKind, IsKeyword, IsOperator, IsName, IsAt}
use Rattle.px_exprs.specs.Typings.{IsTyping}
use Rattle.px_exprs.specs.Grammar.{node, AreTexts, IsExpr, HasComma, AreExprs, AreEntries, IsAtom, HasCommas}
use Rattle.px_exprs.specs.Codes.{code_at, Past}
use Rattle.px_exprs.proofs.Codes.{code_here, name_code}
use Rattle.px_lexer.proofs.OneToken.{one_place, one_name, one_number, one_content}
use Rattle.px_exprs.proofs.Only.{IsOnly, Closes}
use Rattle.px_exprs.proofs.Beginnings.{expr_begins, exprs_begin, entries_begin, texts_begin, atom_first}
use Rattle.px_exprs.proofs.Telling.{stop_here}
use Rattle.px_exprs.proofs.Stops.{text_goes_on}
use Rattle.px_exprs.proofs.TypingLaws.{typing_unique}
use Rattle.px_exprs.proofs.OperatorLaws.{node_same}
use Rattle.px_exprs.proofs.ListLaws.{IsOnlyList, exprs_open, closes, closes_bracket, closes_brace}

-- Adjacent strings

pub texts_go_on : {ts : List Terminal} {i j : ℕ} {content : List ℕ} {contents : List (List ℕ)} → HasKind ts i (kind.Text content) → AreTexts ts (suc i) contents j → Past 1 ts (suc i) → ⊥
texts_go_on h (AreTexts.last_text t) past = text_goes_on h t past
texts_go_on h (AreTexts.more_texts t others) past = text_goes_on h t past

pub texts_unique : {ts : List Terminal} {i j : ℕ} {contents : List (List ℕ)} → AreTexts ts i contents j → (k : ℕ) (others : List (List ℕ)) → AreTexts ts i others k → Past 1 ts j → Past 1 ts k
    → (contents ≡ others) × (j ≡ k)
texts_unique (AreTexts.last_text p) k _ (AreTexts.last_text q) s t = (ap (λ x. x ∷ []) (one_content p q), refl)
texts_unique (AreTexts.last_text p) k _ (AreTexts.more_texts q others) s t = absurd (texts_go_on q others s)
texts_unique (AreTexts.more_texts p others) k _ (AreTexts.last_text q) s t = absurd (texts_go_on p others t)
texts_unique (AreTexts.more_texts p others) k _ (AreTexts.more_texts q following) s t =
    let later = texts_unique others k _ following s t in
    (ap₂ (λ x xs. x ∷ xs) (one_content p q) later.0, later.1)

-- Atoms of one token

pub name_only : {ts : List Terminal} {i : ℕ} {at : Span} {spelled : List ℕ} {e : Expr} → IsAt ts i at → IsName ts i spelled → e ≡ node i at (form.Name spelled) → IsOnly (IsAtom ts i) (Past 1 ts) e 0 (suc i)
name_only at h e s f c k (IsAtom.name place g same) t = record { tree = e ∙ node_same refl (one_place at place) (ap form.Name (one_name h g)) ∙ sym same; depth = refl; end = refl }
name_only at h e s f c k q t = absurd (omega (arith, name_code h, atom_first q))

pub number_only : {ts : List Terminal} {i : ℕ} {at : Span} {n : ℤ} {e : Expr} → IsAt ts i at → HasKind ts i (kind.Number n) → e ≡ node i at (form.Number n) → IsOnly (IsAtom ts i) (Past 1 ts) e 0 (suc i)
number_only at h e s f c k (IsAtom.number place g same) t = record { tree = e ∙ node_same refl (one_place at place) (ap form.Number (one_number h g)) ∙ sym same; depth = refl; end = refl }
number_only at h e s f c k q t = absurd (omega (arith, code_here h, atom_first q))

pub true_only : {ts : List Terminal} {i : ℕ} {at : Span} {e : Expr} → IsAt ts i at → IsKeyword ts i word.True → e ≡ node i at form.True → IsOnly (IsAtom ts i) (Past 1 ts) e 0 (suc i)
true_only at h e s f c k (IsAtom.true_ place g same) t = record { tree = e ∙ node_same refl (one_place at place) refl ∙ sym same; depth = refl; end = refl }
true_only at h e s f c k q t = absurd (omega (arith, code_here h, atom_first q))

pub false_only : {ts : List Terminal} {i : ℕ} {at : Span} {e : Expr} → IsAt ts i at → IsKeyword ts i word.False → e ≡ node i at form.False → IsOnly (IsAtom ts i) (Past 1 ts) e 0 (suc i)
false_only at h e s f c k (IsAtom.false_ place g same) t = record { tree = e ∙ node_same refl (one_place at place) refl ∙ sym same; depth = refl; end = refl }
false_only at h e s f c k q t = absurd (omega (arith, code_here h, atom_first q))

pub none_only : {ts : List Terminal} {i : ℕ} {at : Span} {e : Expr} → IsAt ts i at → IsKeyword ts i word.None → e ≡ node i at form.None → IsOnly (IsAtom ts i) (Past 1 ts) e 0 (suc i)
none_only at h e s f c k (IsAtom.none place g same) t = record { tree = e ∙ node_same refl (one_place at place) refl ∙ sym same; depth = refl; end = refl }
none_only at h e s f c k q t = absurd (omega (arith, code_here h, atom_first q))

pub texts_only : {ts : List Terminal} {i j : ℕ} {at : Span} {contents : List (List ℕ)} {e : Expr} → IsAt ts i at → AreTexts ts i contents j → e ≡ node i at (form.Text contents)
    → IsOnly (IsAtom ts i) (Past 1 ts) e 0 j
texts_only at p e s f c k (IsAtom.texts place q g) t =
    let same = texts_unique p k _ q s t in
    record { tree = e ∙ node_same refl (one_place at place) (ap form.Text same.0) ∙ sym g; depth = refl; end = same.1 }
texts_only at p e s f c k q t = absurd (omega (arith, texts_begin p, atom_first q))

pub sizeof_only : {ts : List Terminal} {i k d : ℕ} {at : Span} {typing : Typing} {e : Expr} → IsAt ts i at → IsKeyword ts i word.Sizeof → IsTyping ts (suc (suc i)) typing d k
    → IsOperator ts k sign.CloseParenthesis → e ≡ node i at (form.Sizeof typing) → IsOnly (IsAtom ts i) (Past 1 ts) e (suc d) (suc k)
sizeof_only at h u closed e s f c k (IsAtom.sizeof place g opened v closed' same) t =
    let type = typing_unique u v (omega (arith, code_here closed)) (omega (arith, code_here closed')) in
    record { tree = e ∙ node_same refl (one_place at place) (ap form.Sizeof type.tree) ∙ sym same; depth = ap suc type.depth; end = ap suc type.end }
sizeof_only at h u closed e s f c k q t = absurd (omega (arith, code_here h, atom_first q))

-- Parentheses

-- the only expressions with commas, and none of them without one
abbrev pub AreOnlyCommas : List Terminal → ℕ → List Expr → ℕ → ℕ → Type 0
AreOnlyCommas ts i items d k = IsOnly (HasCommas ts i) (Closes ts) items d k × ((e : Expr) (c l : ℕ) → IsExpr ts i e c l → IsOperator ts l sign.CloseParenthesis → ⊥)

pub no_comma_behind : {ts : List Terminal} {i k d : ℕ} {e : Expr} → IsOnly (IsExpr ts i) (Past 26 ts) e d k → IsOperator ts k sign.Comma → (f : Expr) (c l : ℕ) → IsExpr ts i f c l → IsOperator ts l sign.CloseParenthesis → ⊥
no_comma_behind {ts} only comma f c l q closed =
    let same = only (omega (arith, stop_here comma refl)) f c l q (omega (arith, stop_here closed refl)) in
    omega (arith, ap (code_at ts) same.end, code_here comma, code_here closed)

pub no_commas : {ts : List Terminal} {i k d c m : ℕ} {e : Expr} {items : List Expr} → IsOnly (IsExpr ts i) (Past 26 ts) e d k → IsOperator ts k sign.CloseParenthesis → HasCommas ts i items c m → ⊥
no_commas {ts} only closed (HasCommas.one_with_comma q comma) =
    let same = only (omega (arith, stop_here closed refl)) _ _ _ q (omega (arith, stop_here comma refl)) in
    omega (arith, ap (code_at ts) same.end, code_here comma, code_here closed)
no_commas {ts} only closed (HasCommas.several q comma others ending) =
    let same = only (omega (arith, stop_here closed refl)) _ _ _ q (omega (arith, stop_here comma refl)) in
    omega (arith, ap (code_at ts) same.end, code_here comma, code_here closed)

pub commas_begin : {ts : List Terminal} {i d k : ℕ} {items : List Expr} → HasCommas ts i items d k → code_at ts i ≤ 21
commas_begin (HasCommas.one_with_comma q comma) = expr_begins q
commas_begin (HasCommas.several q comma others ending) = expr_begins q

pub one_with_comma_only : {ts : List Terminal} {i k d : ℕ} {e : Expr} → IsOnly (IsExpr ts i) (Past 26 ts) e d k → IsOperator ts k sign.Comma → AreOnlyCommas ts i (e ∷ []) d (suc k)
one_with_comma_only {ts} {i} {k} {d} {e} only comma = (unique, no_comma_behind only comma)
  where
    unique : IsOnly (HasCommas ts i) (Closes ts) (e ∷ []) d (suc k)
    unique s _ c m (HasCommas.one_with_comma q comma') t =
        let same = only (omega (arith, stop_here comma refl)) _ _ _ q (omega (arith, stop_here comma' refl)) in
        record { tree = ap (λ x. x ∷ []) same.tree; depth = same.depth; end = ap suc same.end }
    unique s _ c m (HasCommas.several q comma' others ending) t =
        let same = only (omega (arith, stop_here comma refl)) _ _ _ q (omega (arith, stop_here comma' refl)) in
        absurd (exprs_open others (subst (λ x. Closes ts (suc x)) same.end s))

pub several_only : {ts : List Terminal} {i k l a b j : ℕ} {first : Expr} {others : List Expr} → IsOnly (IsExpr ts i) (Past 26 ts) first a k → IsOperator ts k sign.Comma → AreExprs ts (suc k) others b l
    → IsOnlyList (AreExprs ts (suc k)) ts others b l → HasComma ts l j → AreOnlyCommas ts i (first ∷ others) (max a b) j
several_only {ts} {i} {k} {l} {a} {b} {j} {first} {others} only comma p rest ending = (unique, no_comma_behind only comma)
  where
    unique : IsOnly (HasCommas ts i) (Closes ts) (first ∷ others) (max a b) j
    unique s _ c m (HasCommas.one_with_comma q comma') t =
        let same = only (omega (arith, stop_here comma refl)) _ _ _ q (omega (arith, stop_here comma' refl)) in
        absurd (exprs_open p (subst (λ x. Closes ts (suc x)) (sym same.end) t))
    unique s _ _ m (HasCommas.several {l = n} {b = c} {others = more} q comma' following other) t =
        let same = only (omega (arith, stop_here comma refl)) _ _ _ q (omega (arith, stop_here comma' refl)) in
        let later = rest j ending s more c n (subst (λ x. AreExprs ts (suc x) more c n) (sym same.end) following) m other t in
        record { tree = ap₂ (λ x xs. x ∷ xs) same.tree later.tree; depth = ap₂ max same.depth later.depth; end = later.end }

pub in_parentheses_only : {ts : List Terminal} {i k d : ℕ} {e : Expr} → IsOperator ts i sign.OpenParenthesis → IsExpr ts (suc i) e d k → IsOnly (IsExpr ts (suc i)) (Past 26 ts) e d k
    → IsOperator ts k sign.CloseParenthesis → IsOnly (IsAtom ts i) (Past 1 ts) e (suc d) (suc k)
in_parentheses_only opened p only closed s f c k (IsAtom.in_parentheses first q last) t =
    let same = only (omega (arith, stop_here closed refl)) _ _ _ q (omega (arith, stop_here last refl)) in
    record { tree = same.tree; depth = ap suc same.depth; end = ap suc same.end }
in_parentheses_only opened p only closed s f c k (IsAtom.empty_tuple place first last e) t = absurd (omega (arith, expr_begins p, code_here last))
in_parentheses_only opened p only closed s f c k (IsAtom.tuple place first q last e) t = absurd (no_commas only closed q)
in_parentheses_only opened p only closed s f c k q t = absurd (omega (arith, code_here opened, atom_first q))

pub empty_tuple_only : {ts : List Terminal} {i : ℕ} {at : Span} {e : Expr} → IsAt ts i at → IsOperator ts i sign.OpenParenthesis → IsOperator ts (suc i) sign.CloseParenthesis → e ≡ node i at (form.Tuple [])
    → IsOnly (IsAtom ts i) (Past 1 ts) e 1 (suc (suc i))
empty_tuple_only at opened closed e s f c k (IsAtom.in_parentheses first q last) t = absurd (omega (arith, expr_begins q, code_here closed))
empty_tuple_only at opened closed e s f c k (IsAtom.empty_tuple place first last g) t = record { tree = e ∙ node_same refl (one_place at place) refl ∙ sym g; depth = refl; end = refl }
empty_tuple_only at opened closed e s f c k (IsAtom.tuple place first q last g) t = absurd (omega (arith, commas_begin q, code_here closed))
empty_tuple_only at opened closed e s f c k q t = absurd (omega (arith, code_here opened, atom_first q))

pub tuple_only : {ts : List Terminal} {i k d : ℕ} {at : Span} {items : List Expr} {e : Expr} → IsAt ts i at → IsOperator ts i sign.OpenParenthesis → HasCommas ts (suc i) items d k
    → AreOnlyCommas ts (suc i) items d k → IsOperator ts k sign.CloseParenthesis → e ≡ node i at (form.Tuple items) → IsOnly (IsAtom ts i) (Past 1 ts) e (suc d) (suc k)
tuple_only at opened p only closed e s f c k (IsAtom.in_parentheses first q last) t = absurd (only.1 _ _ _ q last)
tuple_only at opened p only closed e s f c k (IsAtom.empty_tuple place first last g) t = absurd (omega (arith, commas_begin p, code_here last))
tuple_only at opened p only closed e s f c k (IsAtom.tuple place first q last g) t =
    let same = only.0 (closes closed) _ _ _ q (closes last) in
    record { tree = e ∙ node_same refl (one_place at place) (ap form.Tuple same.tree) ∙ sym g; depth = ap suc same.depth; end = ap suc same.end }
tuple_only at opened p only closed e s f c k q t = absurd (omega (arith, code_here opened, atom_first q))

-- Brackets and braces

pub empty_list_only : {ts : List Terminal} {i : ℕ} {at : Span} {e : Expr} → IsAt ts i at → IsOperator ts i sign.OpenBracket → IsOperator ts (suc i) sign.CloseBracket → e ≡ node i at (form.List [])
    → IsOnly (IsAtom ts i) (Past 1 ts) e 1 (suc (suc i))
empty_list_only at opened closed e s f c k (IsAtom.empty_list place first last g) t = record { tree = e ∙ node_same refl (one_place at place) refl ∙ sym g; depth = refl; end = refl }
empty_list_only at opened closed e s f c k (IsAtom.list place first q ending last g) t = absurd (omega (arith, exprs_begin q, code_here closed))
empty_list_only at opened closed e s f c k q t = absurd (omega (arith, code_here opened, atom_first q))

pub list_only : {ts : List Terminal} {i k l d : ℕ} {at : Span} {items : List Expr} {e : Expr} → IsAt ts i at → IsOperator ts i sign.OpenBracket → AreExprs ts (suc i) items d k
    → IsOnlyList (AreExprs ts (suc i)) ts items d k → HasComma ts k l → IsOperator ts l sign.CloseBracket → e ≡ node i at (form.List items) → IsOnly (IsAtom ts i) (Past 1 ts) e (suc d) (suc l)
list_only at opened p only ending closed e s f c k (IsAtom.empty_list place first last g) t = absurd (omega (arith, exprs_begin p, code_here last))
list_only at opened p only ending closed e s f c k (IsAtom.list place first q other last g) t =
    let same = only _ ending (closes_bracket closed) _ _ _ q _ other (closes_bracket last) in
    record { tree = e ∙ node_same refl (one_place at place) (ap form.List same.tree) ∙ sym g; depth = ap suc same.depth; end = ap suc same.end }
list_only at opened p only ending closed e s f c k q t = absurd (omega (arith, code_here opened, atom_first q))

pub empty_dict_only : {ts : List Terminal} {i : ℕ} {at : Span} {e : Expr} → IsAt ts i at → IsOperator ts i sign.OpenBrace → IsOperator ts (suc i) sign.CloseBrace → e ≡ node i at (form.Dict [])
    → IsOnly (IsAtom ts i) (Past 1 ts) e 1 (suc (suc i))
empty_dict_only at opened closed e s f c k (IsAtom.empty_dict place first last g) t = record { tree = e ∙ node_same refl (one_place at place) refl ∙ sym g; depth = refl; end = refl }
empty_dict_only at opened closed e s f c k (IsAtom.dict place first q ending last g) t = absurd (omega (arith, entries_begin q, code_here closed))
empty_dict_only at opened closed e s f c k q t = absurd (omega (arith, code_here opened, atom_first q))

pub dict_only : {ts : List Terminal} {i k l d : ℕ} {at : Span} {entries : List Entry} {e : Expr} → IsAt ts i at → IsOperator ts i sign.OpenBrace → AreEntries ts (suc i) entries d k
    → IsOnlyList (AreEntries ts (suc i)) ts entries d k → HasComma ts k l → IsOperator ts l sign.CloseBrace → e ≡ node i at (form.Dict entries) → IsOnly (IsAtom ts i) (Past 1 ts) e (suc d) (suc l)
dict_only at opened p only ending closed e s f c k (IsAtom.empty_dict place first last g) t = absurd (omega (arith, entries_begin p, code_here last))
dict_only at opened p only ending closed e s f c k (IsAtom.dict place first q other last g) t =
    let same = only _ ending (closes_brace closed) _ _ _ q _ other (closes_brace last) in
    record { tree = e ∙ node_same refl (one_place at place) (ap form.Dict same.tree) ∙ sym g; depth = ap suc same.depth; end = ap suc same.end }
dict_only at opened p only ending closed e s f c k q t = absurd (omega (arith, code_here opened, atom_first q))
