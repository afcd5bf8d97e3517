-- Where a token goes on with a form, the form's tokens with this one too begin a longer one.
use Rattle.std.proofs.Common.{◌≡◌, ℕ, zero, suc, ◌+◌, ◌<◌, ◌≤◌, ◌++◌, inl, inr, length, take, max, nat_lt, List, [], ◌∷◌, refl, sym, subst, ◌∙◌, arith}
use Rattle.std.proofs.lemmas.Bool.{cases_lt}
use Rattle.std.proofs.lemmas.List.{length-append, length-take-le}
use Rattle.std.proofs.lemmas.Option.{slice_get_past, slice_get_within}
use Rattle.px_base.specs.declared.refusals.Span.{Span}
use Rattle.px_base.specs.declared.c_types.BinOp.{BinOp}
use Rattle.px_base.specs.declared.c_types.UnOp.{UnOp}
use Rattle.px_lexer.specs.declared.spelling.Keyword.TheVariants as word
use Rattle.px_lexer.specs.declared.spelling.Operator.TheVariants as sign
use Rattle.px_lexer.specs.declared.token_list.TokenKind.{TokenKind}
use Rattle.px_lexer.specs.declared.token_list.TokenKind.TheVariants as kind
use Rattle.px_tree.specs.declared.typings.«Type».{«Type» as Typing}
use Rattle.px_tree.specs.declared.expressions.CompareOp.{CompareOp}
use Rattle.px_tree.specs.declared.expressions.CompareOp.TheVariants as compare
use Rattle.px_tree.specs.declared.expressions.ExprForm.TheVariants as form
use Rattle.px_tree.specs.declared.expressions.Item.TheVariants as item
use Rattle.px_tree.specs.declared.expressions.Expr.{Expr}
use Rattle.px_tree.specs.declared.expressions.Comparison.{Comparison}
use Rattle.px_tree.specs.declared.expressions.Link.{Link}
use Rattle.px_tree.specs.declared.expressions.Trailer.{Trailer}
use Rattle.px_tree.specs.declared.expressions.Trailer.TheVariants as trailer
use Rattle.px_lexer.specs.Terminals.{Terminal, Stands, HasKind, IsKeyword, IsOperator, IsName, IsAt}
use Rattle.px_exprs.specs.Typings.{IsTyping}
use Rattle.px_exprs.specs.Grammar.{Level, binary_levels, node, link, comparison, unary_operators, IsOf, IsCompareOp, AreTexts, IsExpr, IsOr, AreOrs, IsAnd, AreAnds, IsNot, IsCompare, AreComparisons, IsBinary, AreLinks, IsUnary, IsPrimary, AreTrailers, IsTrailer, AreItems, IsItem, HasComma, IsAtom}
use Rattle.px_exprs.specs.Readings.{Form, Agree, HasWay}
use Rattle.px_exprs.specs.Parts.{IsAlternative, IsOrPart, IsAndPart, IsComparison, IsLink}
use Rattle.px_exprs.specs.Codes.{stop_at}
use Rattle.px_exprs.proofs.Agreement.{agree_same, agree_through, agree_carried, agree_append, agree_front, agree_take}
use Rattle.px_exprs.proofs.Codes.{code_past}
use Rattle.px_exprs.proofs.Tables.{six_levels}
use Rattle.px_exprs.proofs.Telling.{Told, told_bounds, told_at, stop_above, AreWhole, are_whole}
use Rattle.px_exprs.proofs.Stops.{past_behind}
use Rattle.px_lexer.proofs.TokenAccess.{name_kind}
use Rattle.px_exprs.proofs.Fresh.{some_name, IsFresh, stands_behind, fresh_operand, fresh_expr, way_binary, way_operand, way_not, way_and, way_or, way_expr}
use Rattle.px_exprs.proofs.Keeping.{kind_carried, place_carried, of_carried, comparison_carried, texts_carried, typing_carried, typing_forward, texts_forward, expr_carried, or_carried, ors_carried, and_carried, ands_carried, not_carried, comparisons_carried, binary_carried, links_carried, unary_carried, trailers_carried, trailer_carried, atom_carried}

-- the token at an index goes on with a form that ends there, if it does so below this code
abbrev pub GoesOn : {A : Type 0} → Form A → List Terminal → ℕ → ℕ → ℕ → Type 0
GoesOn X ts i k n = stop_at ts k < n → HasWay X ts i (suc k)

-- the form stands from one index to another
record Found {A : Type 0} (X : Form A) (us : List Terminal) (i j : ℕ) : Type 0 where
  pub tree : A
  pub depth : ℕ
  pub derived : X us i tree depth j

found : {A : Type 0} {X : Form A} {us : List Terminal} {i j : ℕ} (e : A) (d : ℕ) → X us i e d j → Found X us i j
found e d p = record { tree = e; depth = d; derived = p }

-- where the last part goes on, the whole does
put_back : {A B : Type 0} {X : Form A} {Y : Form B} {ts : List Terminal} {i l n : ℕ} → HasWay X ts l n
    → ((us : List Terminal) → Agree n us ts → (e : A) (d : ℕ) → X us l e d (length us) → Found Y us i (length us)) → HasWay Y ts i n
put_back way whole =
    let f = whole way.tokens way.same way.tree way.depth way.derived in
    record { tokens = way.tokens; same = way.same; long = way.long; tree = f.tree; depth = f.depth; derived = f.derived }

-- Tokens

kind_within : {ts : List Terminal} {i : ℕ} {k : TokenKind} → HasKind ts i k → i < length ts
kind_within {ts} {i} h = slice_get_within ts i h.token h.stands

place_there : (ts : List Terminal) (i : ℕ) → i < length ts → (at : Span) × IsAt ts i at
place_there [] i lt = absurd (omega (arith, lt))
place_there (t ∷ ts) zero lt = (t.at, record { token = t; stands = refl; placed = refl })
place_there (t ∷ ts) (suc i) lt =
    let there = place_there ts i (omega (arith, lt)) in
    (there.0, record { token = there.1.token; stands = there.1.stands; placed = there.1.placed })

-- what goes on is a token
stop_within : (ts : List Terminal) (k : ℕ) → stop_at ts k < 26 → k < length ts
stop_within ts k lt = elim (cases_lt k (length ts)) [
  | inl within ↦ within
  | inr past ↦ absurd (omega (arith, code_past ts k (slice_get_past ts k past), stop_above ts k, lt))
]

-- Forms with a tail

-- forms that are an operand, alone or with a tail
record IsGrown {A B : Type 0} (X : Form A) (T : Form B) (Y : Form A) : Type 0 where
  pub alone : {us : List Terminal} {i d j : ℕ} {e : A} → X us i e d j → Y us i e d j
  pub tailed : {us : List Terminal} {i a k b j : ℕ} {e : A} {t : B} {at : Span} → IsAt us i at → X us i e a k → T us k t b j → Found Y us i j
  pub carried : {ts us : List Terminal} (n : ℕ) {i d j : ℕ} {e : A} → Agree n us ts → X ts i e d j → (i < j) × (j ≤ n → X us i e d j)

-- a longer tail makes a longer form
tail_longer : {A B : Type 0} {X : Form A} {T : Form B} {Y : Form A} → IsGrown X T Y → {ts : List Terminal} {i k n d : ℕ} {e : A} → X ts i e d k → k ≤ n → n ≤ length ts
    → HasWay T ts k n → HasWay Y ts i n
tail_longer laws {ts} {i} {k} {n} x le within way =
    let forward = (laws.carried n (agree_same ts) x).0 in
    let place = place_there ts i (omega (arith, forward, le, within)) in
    put_back way (λ us agree t b tail. laws.tailed (place_carried n agree place.1 (omega (arith, forward, le))) ((laws.carried n agree x).1 le) tail)

-- a token behind an operand goes on with the operand, or begins a tail
operand_longer : {A B : Type 0} {X : Form A} {T : Form B} {Y : Form A} → IsGrown X T Y → (low high : ℕ) → high ≤ 26 → {ts : List Terminal} {i d k : ℕ} {e : A} → X ts i e d k → GoesOn X ts i k low
    → (low ≤ stop_at ts k → stop_at ts k < high → HasWay T ts k (suc k)) → GoesOn Y ts i k high
operand_longer laws low high bound {ts} {i} {d} {k} x on begun lt =
    elim (cases_lt (stop_at ts k) low) [
      | inl below ↦ put_back (on below) (λ us agree e c y. found e c (laws.alone y))
      | inr above ↦ tail_longer laws x (omega arith) (stop_within ts k (omega (arith, lt, bound))) (begun above lt)
    ]

chain_longer : {A B : Type 0} {X : Form A} {T : Form B} {Y : Form A} → IsGrown X T Y → (high : ℕ) → high ≤ 26 → {ts : List Terminal} {i d m k : ℕ} {e : A} → X ts i e d m → m < k
    → GoesOn T ts m k high → GoesOn Y ts i k high
chain_longer laws high bound {ts} {k = k} x forward on lt = tail_longer laws x (omega (arith, forward)) (stop_within ts k (omega (arith, lt, bound))) (on lt)

-- Rows of elements

record IsRow {A : Type 0} (E : Form A) (Es : Form (List A)) : Type 0 where
  pub one : {us : List Terminal} {k d j : ℕ} {t : A} → E us k t d j → Es us k (t ∷ []) d j
  pub more : {us : List Terminal} {k l a b j : ℕ} {t : A} {rest : List A} → E us k t a l → Es us l rest b j → Es us k (t ∷ rest) (max a b) j
  pub carried : {ts us : List Terminal} (n : ℕ) {i d j : ℕ} {t : A} → Agree n us ts → E ts i t d j → (i < j) × (j ≤ n → E us i t d j)

row_begun : {A : Type 0} {E : Form A} {Es : Form (List A)} → IsRow E Es → {ts : List Terminal} {k n : ℕ} → HasWay E ts k n → HasWay Es ts k n
row_begun laws way = put_back way (λ us agree t d e. found (t ∷ []) d (laws.one e))

row_more : {A : Type 0} {E : Form A} {Es : Form (List A)} → IsRow E Es → {ts : List Terminal} {k l n d : ℕ} {t : A} → E ts k t d l → l ≤ n → HasWay Es ts l n → HasWay Es ts k n
row_more laws {n = n} {d = d} {t = t} e le way = put_back way (λ us agree rest b es. found (t ∷ rest) (max d b) (laws.more ((laws.carried n agree e).1 le) es))

-- a token behind an element goes on with it, or begins another
element_longer : {A : Type 0} {E : Form A} {Es : Form (List A)} → IsRow E Es → (low high : ℕ) → {ts : List Terminal} {i d k : ℕ} {t : A} → E ts i t d k → GoesOn E ts i k low
    → (low ≤ stop_at ts k → stop_at ts k < high → HasWay E ts k (suc k)) → GoesOn Es ts i k high
element_longer laws low high {ts} {i} {d} {k} e on begun lt =
    elim (cases_lt (stop_at ts k) low) [
      | inl below ↦ row_begun laws (on below)
      | inr above ↦ row_more laws e (omega arith) (row_begun laws (begun above lt))
    ]

elements_longer : {A : Type 0} {E : Form A} {Es : Form (List A)} → IsRow E Es → {ts : List Terminal} {i d m k n : ℕ} {t : A} → E ts i t d m → m < k → GoesOn Es ts m k n → GoesOn Es ts i k n
elements_longer laws e forward on lt = row_more laws e (omega (arith, forward)) (on lt)

-- Behind tokens

-- some tokens, one more, and a form behind it
record Followed {A : Type 0} (X : Form A) (us : List Terminal) (t : Terminal) : Type 0 where
  pub tokens : List Terminal
  pub same : Agree (length us) tokens us
  pub stands : Stands tokens (length us) t
  pub long : suc (length us) ≤ length tokens
  pub tree : A
  pub derived : X tokens (suc (length us)) tree 0 (length tokens)

followed : {A : Type 0} (X : Form A) → IsFresh X → (us : List Terminal) (t : Terminal) → Followed X us t
followed X fresh us t =
    let vs : List Terminal = us ++ t ∷ [] in
    let tokens : List Terminal = vs ++ some_name ∷ [] in
    let cut : length vs ≡ suc (length us) = omega (arith, length-append us (t ∷ [])) in
    let long : length tokens ≡ suc (length vs) = omega (arith, length-append vs (some_name ∷ [])) in
    let made = fresh vs in
    record {
      tokens = tokens;
      same = agree_through tokens vs us (agree_carried tokens vs (agree_append vs (some_name ∷ [])) (omega (arith, cut))) (agree_append us (t ∷ []));
      stands = agree_append vs (some_name ∷ []) (length us) (omega (arith, cut)) ∙ stands_behind us t;
      long = omega (arith, cut, long);
      tree = made.0;
      derived = subst (λ n. X tokens (suc (length us)) made.0 0 n) (sym long) (subst (λ n. X tokens n made.0 0 (suc (length vs))) cut made.1);
    }

-- a form of the token at an index and of this one behind it
next_way : {A : Type 0} {X : Form A} {ts : List Terminal} {k : ℕ} (t : Terminal) → k < length ts
    → ((us : List Terminal) → Agree (suc k) us ts → Stands us (suc k) t → Found X us k (suc (suc k))) → HasWay X ts k (suc k)
next_way {X = X} {ts} {k} t lt make =
    let us : List Terminal = take (suc k) ts in
    let cut : length us ≡ suc k = length-take-le (suc k) ts (omega (arith, lt)) in
    let tokens : List Terminal = us ++ t ∷ [] in
    let long : length tokens ≡ suc (suc k) = omega (arith, length-append us (t ∷ []), cut) in
    let same : Agree (suc k) tokens ts = agree_take (suc k) ts (t ∷ []) (omega (arith, lt)) in
    let f = make tokens same (subst (λ n. Stands tokens n t) cut (stands_behind us t)) in
    record { tokens = tokens; same = same; long = omega (arith, long); tree = f.tree; depth = f.depth; derived = subst (λ n. X tokens k f.tree f.depth n) (sym long) f.derived }

-- a token of this kind
abbrev some_token : TokenKind → Terminal
some_token k = record { kind = k; at = record { line = 1; column = 1 }; spelling = [] }

-- What begins behind an operand

or_part_begun : {ts : List Terminal} {k : ℕ} → 24 ≤ stop_at ts k → stop_at ts k < 25 → HasWay IsOrPart ts k (suc k)
or_part_begun {ts} {k} low high = by_told (told_at ts k)
  where
    by_told : Told ts k → HasWay IsOrPart ts k (suc k)
    by_told (Told.or h) = put_back (way_and ts (suc k) 0 (omega (arith, kind_within h))).way (λ us agree e d p. found e d (record { sign = kind_carried (suc k) agree h (omega arith); operand = p }))
    by_told told = absurd (omega (arith, told_bounds told, low, high))

and_part_begun : {ts : List Terminal} {k : ℕ} → 23 ≤ stop_at ts k → stop_at ts k < 24 → HasWay IsAndPart ts k (suc k)
and_part_begun {ts} {k} low high = by_told (told_at ts k)
  where
    by_told : Told ts k → HasWay IsAndPart ts k (suc k)
    by_told (Told.and h) = put_back (way_not ts (suc k) 0 (omega (arith, kind_within h))).way (λ us agree e d p. found e d (record { sign = kind_carried (suc k) agree h (omega arith); operand = p }))
    by_told told = absurd (omega (arith, told_bounds told, low, high))

alternative_begun : {ts : List Terminal} {k : ℕ} → 25 ≤ stop_at ts k → stop_at ts k < 26 → HasWay IsAlternative ts k (suc k)
alternative_begun {ts} {k} low high = by_told (told_at ts k)
  where
    begun : IsKeyword ts k word.If → HasWay IsAlternative ts k (suc k)
    begun h =
        let test = (way_or ts (suc k) 0 (omega (arith, kind_within h))).way in
        let otherwise : ℕ = length test.tokens in
        let other = followed IsExpr fresh_expr test.tokens (some_token (kind.Keyword word.Else)) in
        let same : Agree (suc k) other.tokens ts = agree_through other.tokens test.tokens ts (agree_carried other.tokens test.tokens other.same test.long) test.same in
        record {
          tokens = other.tokens;
          same = same;
          long = omega (arith, test.long, other.long);
          tree = (test.tree, other.tree);
          depth = max test.depth 0;
          derived = record {
            otherwise = otherwise;
            test_depth = test.depth;
            other_depth = 0;
            condition = kind_carried (suc k) same h (omega arith);
            test = (or_carried {us = other.tokens} otherwise other.same test.derived).1 (omega arith);
            denial = record { token = some_token (kind.Keyword word.Else); stands = other.stands; kind = refl };
            other = other.derived;
            nests = refl;
          };
        }

    by_told : Told ts k → HasWay IsAlternative ts k (suc k)
    by_told (Told.if_ h) = begun h
    by_told told = absurd (omega (arith, told_bounds told, low, high))

comparison_begun : {ts : List Terminal} {k : ℕ} → 18 ≤ stop_at ts k → stop_at ts k < 23 → HasWay IsComparison ts k (suc k)
comparison_begun {ts} {k} low high = by_told (told_at ts k)
  where
    by_one : (m : CompareOp) → k < length ts → IsCompareOp ts k m (suc k) → HasWay IsComparison ts k (suc k)
    by_one m lt o =
        put_back (way_operand ts (suc k) 0 (omega (arith, lt))).way (λ us agree e d p. found (comparison m e) d (record {
          meant = m;
          behind = suc k;
          operand = e;
          sign = (comparison_carried {us = us} (suc k) agree o).1 (omega arith);
          read = p;
          tree = refl;
        }))

    by_not : IsKeyword ts k word.Not → HasWay IsComparison ts k (suc k)
    by_not h =
        let us : List Terminal = take (suc k) ts in
        let cut : length us ≡ suc k = length-take-le (suc k) ts (omega (arith, kind_within h)) in
        let inner = followed (λ vs. IsBinary vs binary_levels) fresh_operand us (some_token (kind.Keyword word.In)) in
        let same : Agree (suc k) inner.tokens ts = agree_through inner.tokens us ts (agree_carried inner.tokens us inner.same (omega (arith, cut))) (agree_front (suc k) ts) in
        record {
          tokens = inner.tokens;
          same = same;
          long = omega (arith, inner.long, cut);
          tree = comparison compare.NotIn inner.tree;
          depth = 0;
          derived = record {
            meant = compare.NotIn;
            behind = suc (suc k);
            operand = inner.tree;
            sign = IsCompareOp.not_in (kind_carried (suc k) same h (omega arith))
                (record { token = some_token (kind.Keyword word.In); stands = subst (λ n. Stands inner.tokens n (some_token (kind.Keyword word.In))) cut inner.stands; kind = refl }) refl refl;
            read = subst (λ n. IsBinary inner.tokens binary_levels (suc n) inner.tree 0 (length inner.tokens)) cut inner.derived;
            tree = refl;
          };
        }

    by_told : Told ts k → HasWay IsComparison ts k (suc k)
    by_told (Told.compared m h from to) = by_one m (kind_within h.stands) (IsCompareOp.by_sign h refl)
    by_told (Told.in_ h) = by_one compare.In (kind_within h) (IsCompareOp.in_ h refl refl)
    by_told (Told.not_ h) = by_not h
    by_told (Told.is_ h) = by_one compare.Is (kind_within h) (IsCompareOp.is_ h refl refl)
    by_told told = absurd (omega (arith, told_bounds told, low, high))

link_begun : {level : Level} (tighter : List Level) → AreWhole (level ∷ tighter) → {ts : List Terminal} {k : ℕ} → 12 + length tighter ≤ stop_at ts k → stop_at ts k < 12 + length (level ∷ tighter)
    → HasWay (IsLink level tighter) ts k (suc k)
link_begun {level} tighter whole {ts} {k} low high = by_told (told_at ts k)
  where
    begun : (m : BinOp) → IsOf level ts k m → HasWay (IsLink level tighter) ts k (suc k)
    begun m o =
        put_back (way_binary tighter ts (suc k) 0 (omega (arith, kind_within o.stands))).way (λ us agree e d p. found (link m e) d (record {
          meant = m;
          operand = e;
          sign = of_carried (suc k) agree o (omega arith);
          read = p;
          tree = refl;
        }))

    by_told : Told ts k → HasWay (IsLink level tighter) ts k (suc k)
    by_told (Told.binary o h e from to) = let row = whole.0.0 o (omega (arith, e, low, high)) in begun row.0 (record { spelled = o; known = row.1; stands = h })
    by_told told = absurd (omega (arith, told_bounds told, whole.0.1, low, high))

trailer_begun : {ts : List Terminal} {k : ℕ} → 1 ≤ stop_at ts k → stop_at ts k < 12 → HasWay IsTrailer ts k (suc k)
trailer_begun {ts} {k} low high = by_told (told_at ts k)
  where
    by_point : IsOperator ts k sign.Point → HasWay IsTrailer ts k (suc k)
    by_point h =
        next_way some_name (kind_within h) (λ us agree s.
        let name : IsName us (suc k) [] = record { token = some_name; stands = s; kind = refl; spelled = refl } in
        found (trailer.Attribute []) 0 (IsTrailer.attribute (kind_carried (suc k) agree h (omega arith)) name))

    by_parenthesis : IsOperator ts k sign.OpenParenthesis → HasWay IsTrailer ts k (suc k)
    by_parenthesis h =
        let closing : Terminal = some_token (kind.Operator sign.CloseParenthesis) in
        next_way closing (kind_within h) (λ us agree s.
        let closed : IsOperator us (suc k) sign.CloseParenthesis = record { token = closing; stands = s; kind = refl } in
        found (trailer.Call []) 1 (IsTrailer.empty_call (kind_carried (suc k) agree h (omega arith)) closed))

    by_bracket : IsOperator ts k sign.OpenBracket → HasWay IsTrailer ts k (suc k)
    by_bracket h =
        let closing : Terminal = some_token (kind.Operator sign.CloseBracket) in
        let inner = (way_expr ts (suc k) 0 (omega (arith, kind_within h))).way in
        let n : ℕ = length inner.tokens in
        let tokens : List Terminal = inner.tokens ++ closing ∷ [] in
        let long : length tokens ≡ suc n = omega (arith, length-append inner.tokens (closing ∷ [])) in
        let behind : Agree n tokens inner.tokens = agree_append inner.tokens (closing ∷ []) in
        let same : Agree (suc k) tokens ts = agree_through tokens inner.tokens ts (agree_carried tokens inner.tokens behind inner.long) inner.same in
        let index : IsExpr tokens (suc k) inner.tree inner.depth n = (expr_carried {us = tokens} n behind inner.derived).1 (omega arith) in
        let whole : Trailer = trailer.Subscript (item.Index inner.tree ∷ []) (nat_lt n n) in
        let closed : IsOperator tokens n sign.CloseBracket = record { token = closing; stands = stands_behind inner.tokens closing; kind = refl } in
        let derived : IsTrailer tokens k whole (suc inner.depth) (suc n) =
        IsTrailer.subscript (kind_carried (suc k) same h (omega arith)) (AreItems.last_item (IsItem.index index)) HasComma.no_comma closed
        in
        record {
          tokens = tokens;
          same = same;
          long = omega (arith, long, inner.long);
          tree = whole;
          depth = suc inner.depth;
          derived = subst (λ m. IsTrailer tokens k whole (suc inner.depth) m) (sym long) derived;
        }

    by_told : Told ts k → HasWay IsTrailer ts k (suc k)
    by_told (Told.attribute h) = by_point h
    by_told (Told.call h) = by_parenthesis h
    by_told (Told.subscript h) = by_bracket h
    by_told told = absurd (omega (arith, told_bounds told, low, high))

-- An operator with its right operand goes on as the operand does

or_part_longer : {ts : List Terminal} {k d j n : ℕ} {e : Expr} → IsOrPart ts k e d j → GoesOn IsAnd ts (suc k) j n → GoesOn IsOrPart ts k j n
or_part_longer {ts} {j = j} part on lt =
    let forward = (and_carried j (agree_same ts) part.operand).0 in
    put_back (on lt) (λ us agree e d p. found e d (record { sign = kind_carried (suc j) agree part.sign (omega (arith, forward)); operand = p }))

and_part_longer : {ts : List Terminal} {k d j n : ℕ} {e : Expr} → IsAndPart ts k e d j → GoesOn IsNot ts (suc k) j n → GoesOn IsAndPart ts k j n
and_part_longer {ts} {j = j} part on lt =
    let forward = (not_carried j (agree_same ts) part.operand).0 in
    put_back (on lt) (λ us agree e d p. found e d (record { sign = kind_carried (suc j) agree part.sign (omega (arith, forward)); operand = p }))

-- an operand of the loosest level
operand_low : {ts : List Terminal} {i k : ℕ} → GoesOn (λ us. IsBinary us binary_levels) ts i k (12 + length binary_levels) → GoesOn (λ us. IsBinary us binary_levels) ts i k 18
operand_low on lt = on (omega (arith, six_levels, lt))

comparison_longer : {ts : List Terminal} {k d j n : ℕ} {c : Comparison} (part : IsComparison ts k c d j) → GoesOn (λ us. IsBinary us binary_levels) ts part.behind j n → GoesOn IsComparison ts k j n
comparison_longer {ts} {j = j} part on lt =
    let forward = (binary_carried j (agree_same ts) part.read).0 in
    put_back (on lt) (λ us agree e d p. found (comparison part.meant e) d (record {
      meant = part.meant;
      behind = part.behind;
      operand = e;
      sign = (comparison_carried {us = us} (suc j) agree part.sign).1 (omega (arith, forward));
      read = p;
      tree = refl;
    }))

link_longer : {level : Level} {tighter : List Level} {ts : List Terminal} {k d j n : ℕ} {l : Link} → IsLink level tighter ts k l d j
    → GoesOn (λ us. IsBinary us tighter) ts (suc k) j n → GoesOn (IsLink level tighter) ts k j n
link_longer {ts = ts} {j = j} part on lt =
    let forward = (binary_carried j (agree_same ts) part.read).0 in
    put_back (on lt) (λ us agree e d p. found (link part.meant e) d (record {
      meant = part.meant;
      operand = e;
      sign = of_carried (suc j) agree part.sign (omega (arith, forward));
      read = p;
      tree = refl;
    }))

alternative_longer : {ts : List Terminal} {k d j n : ℕ} {parts : Expr × Expr} (part : IsAlternative ts k parts d j) → GoesOn IsExpr ts (suc part.otherwise) j n → GoesOn IsAlternative ts k j n
alternative_longer {ts} {j = j} {parts = parts} part on lt =
    let first = (or_carried j (agree_same ts) part.test).0 in
    let second = (expr_carried j (agree_same ts) part.other).0 in
    put_back (on lt) (λ us agree e d p. found (parts.0, e) (max part.test_depth d) (record {
      otherwise = part.otherwise;
      test_depth = part.test_depth;
      other_depth = d;
      condition = kind_carried (suc j) agree part.condition (omega (arith, first, second));
      test = (or_carried {us = us} (suc j) agree part.test).1 (omega (arith, second));
      denial = kind_carried (suc j) agree part.denial (omega (arith, second));
      other = p;
      nests = refl;
    }))

-- a trailer ends with no string, so nothing goes on with it
trailer_ended : {ts : List Terminal} {k d j : ℕ} {t : Trailer} → IsTrailer ts k t d j → GoesOn IsTrailer ts k j 1
trailer_ended (IsTrailer.attribute p n) lt = absurd (omega (arith, past_behind (name_kind n) refl, lt))
trailer_ended (IsTrailer.empty_call p c) lt = absurd (omega (arith, past_behind c refl, lt))
trailer_ended (IsTrailer.call p a ending c) lt = absurd (omega (arith, past_behind c refl, lt))
trailer_ended (IsTrailer.subscript p a ending c) lt = absurd (omega (arith, past_behind c refl, lt))

-- The rows

or_row : IsRow IsOrPart AreOrs
or_row = record {
  one = λ e. AreOrs.last_or e.sign e.operand;
  more = λ e es. AreOrs.more_ors e.sign e.operand es;
  carried = λ {ts} {us} n agree e.
      let p = and_carried {us = us} n agree e.operand in
      (omega (arith, p.0), λ le. record { sign = kind_carried n agree e.sign (omega (arith, p.0, le)); operand = p.1 le });
}

and_row : IsRow IsAndPart AreAnds
and_row = record {
  one = λ e. AreAnds.last_and e.sign e.operand;
  more = λ e es. AreAnds.more_ands e.sign e.operand es;
  carried = λ {ts} {us} n agree e.
      let p = not_carried {us = us} n agree e.operand in
      (omega (arith, p.0), λ le. record { sign = kind_carried n agree e.sign (omega (arith, p.0, le)); operand = p.1 le });
}

comparison_row : IsRow IsComparison AreComparisons
comparison_row = record {
  one = λ {us} {k} {d} {j} {t} e. subst (λ c. AreComparisons us k (c ∷ []) d j) (sym e.tree) (AreComparisons.last_comparison e.sign e.read);
  more = λ {us} {k} {l} {a} {b} {j} {t} {rest} e es. subst (λ c. AreComparisons us k (c ∷ rest) (max a b) j) (sym e.tree) (AreComparisons.more_comparisons e.sign e.read es);
  carried = λ {ts} {us} n agree e.
      let o = comparison_carried {us = us} n agree e.sign in
      let p = binary_carried {us = us} n agree e.read in
      (omega (arith, o.0, p.0), λ le. record { meant = e.meant; behind = e.behind; operand = e.operand; sign = o.1 (omega (arith, p.0, le)); read = p.1 le; tree = e.tree });
}

link_row : (level : Level) (tighter : List Level) → IsRow (IsLink level tighter) (λ us. AreLinks us level tighter)
link_row level tighter = record {
  one = λ {us} {k} {d} {j} {t} e. subst (λ l. AreLinks us level tighter k (l ∷ []) d j) (sym e.tree) (AreLinks.last_link e.sign e.read);
  more = λ {us} {k} {l} {a} {b} {j} {t} {rest} e es. subst (λ x. AreLinks us level tighter k (x ∷ rest) (max a b) j) (sym e.tree) (AreLinks.more_links e.sign e.read es);
  carried = λ {ts} {us} n agree e.
      let p = binary_carried {us = us} n agree e.read in
      (omega (arith, p.0), λ le. record { meant = e.meant; operand = e.operand; sign = of_carried n agree e.sign (omega (arith, p.0, le)); read = p.1 le; tree = e.tree });
}

trailer_row : IsRow IsTrailer AreTrailers
trailer_row = record {
  one = λ e. AreTrailers.last_trailer e;
  more = λ e es. AreTrailers.more_trailers e es;
  carried = λ n agree e. trailer_carried n agree e;
}

-- The forms with tails

expr_grown : IsGrown IsOr IsAlternative IsExpr
expr_grown = record {
  alone = λ p. IsExpr.plain p;
  tailed = λ at p t. found _ _ (IsExpr.conditional at p t.condition t.test t.denial t.other refl);
  carried = λ n agree p. or_carried n agree p;
}

or_grown : IsGrown IsAnd AreOrs IsOr
or_grown = record {
  alone = λ p. IsOr.one_and p;
  tailed = λ at p t. found _ _ (IsOr.or_chain at p t refl);
  carried = λ n agree p. and_carried n agree p;
}

and_grown : IsGrown IsNot AreAnds IsAnd
and_grown = record {
  alone = λ p. IsAnd.one_not p;
  tailed = λ at p t. found _ _ (IsAnd.and_chain at p t refl);
  carried = λ n agree p. not_carried n agree p;
}

compare_grown : IsGrown (λ us. IsBinary us binary_levels) AreComparisons IsCompare
compare_grown = record {
  alone = λ p. IsCompare.one_operand p;
  tailed = λ at p t. found _ _ (IsCompare.compare_chain at p t refl);
  carried = λ n agree p. binary_carried n agree p;
}

binary_grown : (level : Level) (tighter : List Level) → IsGrown (λ us. IsBinary us tighter) (λ us. AreLinks us level tighter) (λ us. IsBinary us (level ∷ tighter))
binary_grown level tighter = record {
  alone = λ p. IsBinary.alone p;
  tailed = λ at p t. found _ _ (IsBinary.binary_chain at p t refl);
  carried = λ n agree p. binary_carried n agree p;
}

primary_grown : IsGrown IsAtom AreTrailers IsPrimary
primary_grown = record {
  alone = λ p. IsPrimary.one_atom p;
  tailed = λ at p t. found _ _ (IsPrimary.row at p t refl);
  carried = λ n agree p. atom_carried n agree p;
}

-- Operators before an operand, and atoms

denied_longer : {ts : List Terminal} {i d k : ℕ} {at : Span} {operand : Expr} → IsAt ts i at → IsKeyword ts i word.Not → IsNot ts (suc i) operand d k
    → GoesOn IsNot ts (suc i) k 23 → GoesOn IsNot ts i k 23
denied_longer {ts} {k = k} at h p on lt =
    let forward = (not_carried k (agree_same ts) p).0 in
    put_back (on lt) (λ us agree e d q. found _ _ (IsNot.denied (place_carried (suc k) agree at (omega (arith, forward))) (kind_carried (suc k) agree h (omega (arith, forward))) q refl))

signed_longer : {ts : List Terminal} {i d k : ℕ} {at : Span} {meant : UnOp} {operand : Expr} → IsAt ts i at → IsOf unary_operators ts i meant → IsUnary ts (suc i) operand d k
    → GoesOn IsUnary ts (suc i) k 12 → GoesOn IsUnary ts i k 12
signed_longer {ts} {k = k} at o p on lt =
    let forward = (unary_carried k (agree_same ts) p).0 in
    put_back (on lt) (λ us agree e d q. found _ _ (IsUnary.signed (place_carried (suc k) agree at (omega (arith, forward))) (of_carried (suc k) agree o (omega (arith, forward))) q refl))

cast_longer : {ts : List Terminal} {i m a b k : ℕ} {at : Span} {typing : Typing} {operand : Expr} → IsAt ts i at → IsOperator ts i sign.Less → IsTyping ts (suc i) typing a m
    → IsOperator ts m sign.Greater → IsUnary ts (suc m) operand b k → GoesOn IsUnary ts (suc m) k 12 → GoesOn IsUnary ts i k 12
cast_longer {ts} {k = k} at less t greater p on lt =
    let inner = typing_forward t in
    let forward = (unary_carried k (agree_same ts) p).0 in
    put_back (on lt) (λ us agree e d q.
    let at' = place_carried (suc k) agree at (omega (arith, inner, forward)) in
    let less' = kind_carried (suc k) agree less (omega (arith, inner, forward)) in
    let t' = (typing_carried {us = us} (suc k) agree t).1 (omega (arith, forward)) in
    found _ _ (IsUnary.cast at' less' t' (kind_carried (suc k) agree greater (omega (arith, forward))) q refl))

-- one more string
texts_on : {ts : List Terminal} {i k : ℕ} {contents : List (List ℕ)} {content : List ℕ} → AreTexts ts i contents k → HasKind ts k (kind.Text content)
    → (longer : List (List ℕ)) × AreTexts ts i longer (suc k)
texts_on {contents = contents} {content = content} (AreTexts.last_text t) h = (contents ++ content ∷ [], AreTexts.more_texts t (AreTexts.last_text h))
texts_on (AreTexts.more_texts {content = first} t others) h = let later = texts_on others h in (first ∷ later.0, AreTexts.more_texts t later.1)

texts_longer : {ts : List Terminal} {i k : ℕ} {at : Span} {contents : List (List ℕ)} → IsAt ts i at → AreTexts ts i contents k → GoesOn IsAtom ts i k 1
texts_longer {ts} {i} {k} {at} place p lt = by_told (told_at ts k)
  where
    longer : (content : List ℕ) → HasKind ts k (kind.Text content) → HasWay IsAtom ts i (suc k)
    longer content h =
        let tokens : List Terminal = take (suc k) ts in
        let long : length tokens ≡ suc k = length-take-le (suc k) ts (omega (arith, kind_within h)) in
        let same : Agree (suc k) tokens ts = agree_front (suc k) ts in
        let more = texts_on p h in
        let atom : IsAtom tokens i (node i at (form.Text more.0)) 0 (suc k) =
        IsAtom.texts (place_carried (suc k) same place (omega (arith, texts_forward p))) ((texts_carried {us = tokens} (suc k) same more.1).1 (omega arith)) refl
        in
        record {
          tokens = tokens;
          same = same;
          long = omega (arith, long);
          tree = node i at (form.Text more.0);
          depth = 0;
          derived = subst (λ n. IsAtom tokens i (node i at (form.Text more.0)) 0 n) (sym long) atom;
        }

    by_told : Told ts k → HasWay IsAtom ts i (suc k)
    by_told (Told.more_text content h behind e) = longer content h
    by_told told = absurd (omega (arith, told_bounds told, lt))

-- Only a string goes on with an atom, and only with strings
pub atom_longer : {ts : List Terminal} {i d k : ℕ} {e : Expr} → IsAtom ts i e d k → GoesOn IsAtom ts i k 1
atom_longer (IsAtom.name at n e) lt = absurd (omega (arith, past_behind (name_kind n) refl, lt))
atom_longer (IsAtom.number at h e) lt = absurd (omega (arith, past_behind h refl, lt))
atom_longer (IsAtom.texts at p e) lt = texts_longer at p lt
atom_longer (IsAtom.true_ at h e) lt = absurd (omega (arith, past_behind h refl, lt))
atom_longer (IsAtom.false_ at h e) lt = absurd (omega (arith, past_behind h refl, lt))
atom_longer (IsAtom.none at h e) lt = absurd (omega (arith, past_behind h refl, lt))
atom_longer (IsAtom.sizeof at h opened u closed e) lt = absurd (omega (arith, past_behind closed refl, lt))
atom_longer (IsAtom.in_parentheses opened p closed) lt = absurd (omega (arith, past_behind closed refl, lt))
atom_longer (IsAtom.empty_tuple at opened closed e) lt = absurd (omega (arith, past_behind closed refl, lt))
atom_longer (IsAtom.tuple at opened p closed e) lt = absurd (omega (arith, past_behind closed refl, lt))
atom_longer (IsAtom.empty_list at opened closed e) lt = absurd (omega (arith, past_behind closed refl, lt))
atom_longer (IsAtom.list at opened p ending closed e) lt = absurd (omega (arith, past_behind closed refl, lt))
atom_longer (IsAtom.empty_dict at opened closed e) lt = absurd (omega (arith, past_behind closed refl, lt))
atom_longer (IsAtom.dict at opened p ending closed e) lt = absurd (omega (arith, past_behind closed refl, lt))

-- Expressions: either the token goes on with the last operand, or it begins a tail or one more element

pub trailers_longer : {ts : List Terminal} {m d k : ℕ} {es : List Trailer} → AreTrailers ts m es d k → GoesOn AreTrailers ts m k 12
trailers_longer (AreTrailers.last_trailer t) = element_longer trailer_row 1 12 t (trailer_ended t) trailer_begun
trailers_longer {ts} (AreTrailers.more_trailers t others) = elements_longer trailer_row t (trailers_carried 0 (agree_same ts) others).0 (trailers_longer others)

pub primary_longer : {ts : List Terminal} {i d k : ℕ} {e : Expr} → IsPrimary ts i e d k → GoesOn IsPrimary ts i k 12
primary_longer (IsPrimary.one_atom p) = operand_longer primary_grown 1 12 (omega arith) p (atom_longer p) (λ low high. row_begun trailer_row (trailer_begun low high))
primary_longer {ts} (IsPrimary.row at p others e) = chain_longer primary_grown 12 (omega arith) p (trailers_carried 0 (agree_same ts) others).0 (trailers_longer others)

pub unary_longer : {ts : List Terminal} {i d k : ℕ} {e : Expr} → IsUnary ts i e d k → GoesOn IsUnary ts i k 12
unary_longer (IsUnary.signed at o p e) = signed_longer at o p (unary_longer p)
unary_longer (IsUnary.cast at less t greater p e) = cast_longer at less t greater p (unary_longer p)
unary_longer (IsUnary.unsigned p) = λ lt. put_back (primary_longer p lt) (λ us agree e d q. found e d (IsUnary.unsigned q))

mutual
  pub binary_longer : {ts : List Terminal} {levels : List Level} {i d k : ℕ} {e : Expr} → AreWhole levels → IsBinary ts levels i e d k
      → GoesOn (λ us. IsBinary us levels) ts i k (12 + length levels)
  binary_longer whole (IsBinary.tightest p) = λ lt. put_back (unary_longer p (omega (arith, lt))) (λ us agree e d q. found e d (IsBinary.tightest q))
  binary_longer whole (IsBinary.alone {level = level} {tighter = tighter} p) =
      operand_longer (binary_grown level tighter) (12 + length tighter) (12 + length (level ∷ tighter)) (omega (arith, whole.0.1)) p (binary_longer whole.1 p)
      (λ low high. row_begun (link_row level tighter) (link_begun tighter whole low high))
  binary_longer {ts} whole (IsBinary.binary_chain {level = level} {tighter = tighter} at p others e) =
      chain_longer (binary_grown level tighter) (12 + length (level ∷ tighter)) (omega (arith, whole.0.1)) p (links_carried 0 (agree_same ts) others).0 (links_longer whole others)

  pub links_longer : {ts : List Terminal} {level : Level} {tighter : List Level} {m d k : ℕ} {es : List Link} → AreWhole (level ∷ tighter) → AreLinks ts level tighter m es d k
      → GoesOn (λ us. AreLinks us level tighter) ts m k (12 + length (level ∷ tighter))
  links_longer {ts} {level} {tighter} {m} {d} {k} whole (AreLinks.last_link {meant = meant} {e = e} o p) =
      let part : IsLink level tighter ts m (link meant e) d k = record { meant = meant; operand = e; sign = o; read = p; tree = refl } in
      element_longer (link_row level tighter) (12 + length tighter) (12 + length (level ∷ tighter)) part (link_longer part (binary_longer whole.1 p)) (link_begun tighter whole)
  links_longer {ts} {level} {tighter} {m} whole (AreLinks.more_links {l = l} {a = a} {meant = meant} {e = e} o p others) =
      let part : IsLink level tighter ts m (link meant e) a l = record { meant = meant; operand = e; sign = o; read = p; tree = refl } in
      elements_longer (link_row level tighter) part (links_carried 0 (agree_same ts) others).0 (links_longer whole others)

pub comparisons_longer : {ts : List Terminal} {m d k : ℕ} {es : List Comparison} → AreComparisons ts m es d k → GoesOn AreComparisons ts m k 23
comparisons_longer {ts} {m} {d} {k} (AreComparisons.last_comparison {l = l} {meant = meant} {e = e} o p) =
    let part : IsComparison ts m (comparison meant e) d k = record { meant = meant; behind = l; operand = e; sign = o; read = p; tree = refl } in
    element_longer comparison_row 18 23 part (comparison_longer part (operand_low (binary_longer are_whole p))) comparison_begun
comparisons_longer {ts} {m} (AreComparisons.more_comparisons {l = l} {m = n} {a = a} {meant = meant} {e = e} o p others) =
    let part : IsComparison ts m (comparison meant e) a n = record { meant = meant; behind = l; operand = e; sign = o; read = p; tree = refl } in
    elements_longer comparison_row part (comparisons_carried 0 (agree_same ts) others).0 (comparisons_longer others)

pub compare_longer : {ts : List Terminal} {i d k : ℕ} {e : Expr} → IsCompare ts i e d k → GoesOn IsCompare ts i k 23
compare_longer (IsCompare.one_operand p) =
    operand_longer compare_grown 18 23 (omega arith) p (operand_low (binary_longer are_whole p)) (λ low high. row_begun comparison_row (comparison_begun low high))
compare_longer {ts} (IsCompare.compare_chain at p others e) = chain_longer compare_grown 23 (omega arith) p (comparisons_carried 0 (agree_same ts) others).0 (comparisons_longer others)

pub not_longer : {ts : List Terminal} {i d k : ℕ} {e : Expr} → IsNot ts i e d k → GoesOn IsNot ts i k 23
not_longer (IsNot.compared p) = λ lt. put_back (compare_longer p lt) (λ us agree e d q. found e d (IsNot.compared q))
not_longer (IsNot.denied at h p e) = denied_longer at h p (not_longer p)

pub ands_longer : {ts : List Terminal} {m d k : ℕ} {es : List Expr} → AreAnds ts m es d k → GoesOn AreAnds ts m k 24
ands_longer {ts} {m} {d} {k} (AreAnds.last_and {e = e} o p) =
    let part : IsAndPart ts m e d k = record { sign = o; operand = p } in
    element_longer and_row 23 24 part (and_part_longer part (not_longer p)) and_part_begun
ands_longer {ts} {m} (AreAnds.more_ands {l = l} {a = a} {e = e} o p others) =
    let part : IsAndPart ts m e a l = record { sign = o; operand = p } in
    elements_longer and_row part (ands_carried 0 (agree_same ts) others).0 (ands_longer others)

pub and_longer : {ts : List Terminal} {i d k : ℕ} {e : Expr} → IsAnd ts i e d k → GoesOn IsAnd ts i k 24
and_longer (IsAnd.one_not p) = operand_longer and_grown 23 24 (omega arith) p (not_longer p) (λ low high. row_begun and_row (and_part_begun low high))
and_longer {ts} (IsAnd.and_chain at p others e) = chain_longer and_grown 24 (omega arith) p (ands_carried 0 (agree_same ts) others).0 (ands_longer others)

pub ors_longer : {ts : List Terminal} {m d k : ℕ} {es : List Expr} → AreOrs ts m es d k → GoesOn AreOrs ts m k 25
ors_longer {ts} {m} {d} {k} (AreOrs.last_or {e = e} o p) =
    let part : IsOrPart ts m e d k = record { sign = o; operand = p } in
    element_longer or_row 24 25 part (or_part_longer part (and_longer p)) or_part_begun
ors_longer {ts} {m} (AreOrs.more_ors {l = l} {a = a} {e = e} o p others) =
    let part : IsOrPart ts m e a l = record { sign = o; operand = p } in
    elements_longer or_row part (ors_carried 0 (agree_same ts) others).0 (ors_longer others)

pub or_longer : {ts : List Terminal} {i d k : ℕ} {e : Expr} → IsOr ts i e d k → GoesOn IsOr ts i k 25
or_longer (IsOr.one_and p) = operand_longer or_grown 24 25 (omega arith) p (and_longer p) (λ low high. row_begun or_row (or_part_begun low high))
or_longer {ts} (IsOr.or_chain at p others e) = chain_longer or_grown 25 (omega arith) p (ors_carried 0 (agree_same ts) others).0 (ors_longer others)

pub expr_longer : {ts : List Terminal} {i d k : ℕ} {e : Expr} → IsExpr ts i e d k → GoesOn IsExpr ts i k 26
expr_longer (IsExpr.plain p) = operand_longer expr_grown 25 26 (omega arith) p (or_longer p) alternative_begun
expr_longer {ts} {k = j} (IsExpr.conditional {k = k} {l = l} {b = b} {c = c} {test = test} {otherwise = otherwise} at p condition q denial r e) =
    let part : IsAlternative ts k (test, otherwise) (max b c) j = record {
      otherwise = l;
      test_depth = b;
      other_depth = c;
      condition = condition;
      test = q;
      denial = denial;
      other = r;
      nests = refl;
    } in
    chain_longer expr_grown 26 (omega arith) p (omega (arith, (or_carried 0 (agree_same ts) q).0, (expr_carried 0 (agree_same ts) r).0)) (alternative_longer part (expr_longer r))

pub expr_goes_on : (ts : List Terminal) {i d k : ℕ} {e : Expr} → IsExpr ts i e d k → stop_at ts k < 26 → HasWay IsExpr ts i (suc k)
expr_goes_on ts p lt = expr_longer p lt
