-- What a reading tells of the run of an expression, and of where it is refused.
use Rattle.std.proofs.Common.{◌≡◌, ℕ, zero, suc, ◌<◌, ◌≤◌, ◌⊎◌, inl, inr, List, [], ◌∷◌, ◌++◌, length, take, drop, refl, sym, ap, ap₂, ◌∙◌, subst, arith}
use Rattle.std.specs.Prelude.{slice_get, None, Some}
use Rattle.std.proofs.lemmas.List.{length-append, length-take-le}
use Rattle.px_base.specs.declared.refusals.Refusal.{Refusal}
use Rattle.px_lexer.specs.declared.spelling.Keyword.TheVariants as word
use Rattle.px_tree.specs.declared.expressions.Expr.{Expr}
use Rattle.px_lexer.specs.Terminals.{Terminal, IsKeyword}
use Rattle.px_exprs.specs.Codes.{stop_at, Past}
use Rattle.px_exprs.specs.Grammar.{IsExpr}
use Rattle.px_exprs.specs.Laws.{ReadingsAreUnique}
use Rattle.px_exprs.specs.Readings.{Agree, HasWay, HasShallow, IsReached, IsStuck, IsOver, IsReading}
use Rattle.px_exprs.specs.Runs.{Begins, IsRun, IsTooDeep, IsNestedTooDeep, IsNoExpression, IsRead, IsRefusalAt, IsExpressionRefused}
use Rattle.px_exprs.proofs.Agreement.{agree_same, agree_carried, agree_front, agree_take}
use Rattle.px_exprs.proofs.Codes.{code_past}
use Rattle.px_lexer.proofs.OneToken.{one_token}
use Rattle.px_exprs.proofs.GoingOn.{expr_goes_on}
use Rattle.px_exprs.proofs.Keeping.{expr_carried}
use Rattle.px_exprs.proofs.Stops.{past_from, past_carried}
use Rattle.px_exprs.proofs.Uniqueness.{expr_only, expressions_unique}

-- a list that has the first k tokens is these and more
pub front_and_more : (k : ℕ) (us ts : List Terminal) → Agree k us ts → k ≤ length us → us ≡ take k ts ++ drop k us
front_and_more zero us ts agree le = refl
front_and_more (suc k) [] ts agree le = absurd (omega (arith, le))
front_and_more (suc k) (u ∷ us) [] agree le = let e = agree 0 (omega arith) in absurd cc
front_and_more (suc k) (u ∷ us) (t ∷ ts) agree le =
    let e = agree 0 (omega arith) in
    let head : u ≡ t = cc in
    ap₂ (λ x xs. x ∷ xs) head (front_and_more k us ts (λ i lt. agree (suc i) (omega (arith, lt))) (omega (arith, le)))

none_past : (us : List Terminal) → slice_get us (length us) ≡ None
none_past [] = refl
none_past (u ∷ us) = none_past us

past_end : (us : List Terminal) → Past 26 us (length us)
past_end us = past_from us (length us) (omega (arith, code_past us (length us) (none_past us)))

begins_of : (ts : List Terminal) (from k : ℕ) → HasWay IsExpr ts from k → Begins (take k ts) from
begins_of ts from k way =
    (drop k way.tokens, way.tree, way.depth, subst (λ us. IsExpr us from way.tree way.depth (length us)) (front_and_more k way.tokens ts way.same way.long) way.derived)

front_long : (k : ℕ) (ts more : List Terminal) → k ≤ length ts → k ≤ length (take k ts ++ more)
front_long k ts more within = omega (arith, length-append (take k ts) more, length-take-le k ts within)

pub nat_order : (i n : ℕ) → (i < n) ⊎ (n ≤ i)
nat_order i zero = inr (omega arith)
nat_order zero (suc n) = inl (omega arith)
nat_order (suc i) (suc n) = elim (nat_order i n) [ inl a ↦ inl (omega (arith, a)) | inr a ↦ inr (omega (arith, a)) ]

pub earlier : (i n : ℕ) → i < suc n → (i < n) ⊎ (i ≡ n)
earlier zero zero lt = inr refl
earlier zero (suc n) lt = inl (omega arith)
earlier (suc i) zero lt = absurd (omega (arith, lt))
earlier (suc i) (suc n) lt = elim (earlier i n (omega (arith, lt))) [ inl a ↦ inl (omega (arith, a)) | inr e ↦ inr (ap suc e) ]

-- Where no expression begins with a token more, the run ends

-- no expression over tokens that agree up to this one ends as an expression may
abbrev NoneFrom : List Terminal → ℕ → ℕ → Type 0
NoneFrom ts from k = (us : List Terminal) → Agree (suc k) us ts → (e : Expr) (depth : ℕ) → IsExpr us from e depth (length us) → k < length us → ⊥

longest_from : (ts : List Terminal) (from k : ℕ) → NoneFrom ts from k → (j : ℕ) → k < j → j ≤ length ts → Begins (take j ts) from → ⊥
longest_from ts from k none j lt within b = none (take j ts ++ b.0) (agree_carried _ _ (agree_take j ts b.0 within) (omega (arith, lt))) b.1 b.2 b.3 (omega (arith, lt, front_long j ts b.0 within))

none_read : (ts : List Terminal) (from k depth : ℕ) (e : Expr) → IsExpr ts from e depth k → Past 26 ts k → NoneFrom ts from k
none_read ts from k depth e p stops us agree f c q lt =
    let there = (expr_carried {us = us} k (agree_carried us ts agree (omega arith)) p).1 (omega arith) in
    let same = expr_only there (past_carried ts us k agree stops) f c (length us) q (past_end us) in
    omega (arith, same.end, lt)

none_stuck : (ts : List Terminal) (from room k : ℕ) → IsStuck IsExpr (Past 26) ts from room k → NoneFrom ts from k
none_stuck ts from room k stuck us agree f c q lt = stuck.none us agree f c (length us) q (past_end us)

-- Where tokens go on without too deep a nesting, none of them shows one

shallow_before : (limit : ℕ) (ts : List Terminal) (from k i : ℕ) → HasShallow IsExpr ts from k limit → i < k → IsTooDeep limit ts from i → ⊥
shallow_before limit ts from k i h lt deep =
    let way = h.way in
    let more = drop (suc i) way.tokens in
    let is : way.tokens ≡ take (suc i) ts ++ more = front_and_more (suc i) way.tokens ts (agree_carried _ _ way.same (omega (arith, lt))) (omega (arith, lt, way.long)) in
    omega (arith, h.shallow, deep.deep more way.tree way.depth (subst (λ us. IsExpr us from way.tree way.depth (length us)) is way.derived))

reached_before : (limit : ℕ) (ts : List Terminal) (from k i : ℕ) → IsReached IsExpr ts from k limit → i < k → IsTooDeep limit ts from i → ⊥
reached_before limit ts from k i (IsReached.reached h) lt deep = shallow_before limit ts from k i h lt deep
reached_before limit ts from k i (IsReached.behind_sizeof n e forward counted h way) lt deep =
    elim (earlier i n (omega (arith, e, lt))) [ inl a ↦ shallow_before limit ts from n i h a deep | inr same ↦ deep.counted (subst (λ x. IsKeyword ts x word.Sizeof) (sym same) counted) ]

reached_begins : (limit : ℕ) (ts : List Terminal) (from k : ℕ) → IsReached IsExpr ts from k limit → Begins (take k ts) from
reached_begins limit ts from k (IsReached.reached h) = begins_of ts from k h.way
reached_begins limit ts from k (IsReached.behind_sizeof n e forward counted h way) = begins_of ts from k way

-- behind the run no token shows too deep a nesting
deep_inside : (limit : ℕ) (ts : List Terminal) (from to i : ℕ) → IsRun ts from to → IsTooDeep limit ts from i → i < to
deep_inside limit ts from to i run deep =
    elim (nat_order i to) [ inl a ↦ a | inr le ↦ absurd (run.longest (suc i) (omega (arith, le)) (omega (arith, deep.within)) deep.begins) ]

-- What the reader answers

pub run_read : (limit : ℕ) (ts : List Terminal) (from to depth : ℕ) (e : Expr) → IsReading IsExpr (Past 26) ts from limit e depth to → IsRead limit ts from e to
run_read limit ts from to depth e reading =
    let there = expr_carried {us = take to ts} to (agree_front to ts) reading.derived in
    let long = length-take-le to ts (omega (arith, reading.within)) in
    record {
      run = record {
        forward = omega (arith, there.0);
        within = omega (arith, reading.within);
        begins = begins_of ts from to (record {
          tokens = take to ts;
          same = agree_front to ts;
          long = omega (arith, long);
          tree = e;
          depth = depth;
          derived = subst (λ x. IsExpr (take to ts) from e depth x) (sym long) (there.1 (omega arith));
        });
        longest = longest_from ts from to (none_read ts from to depth e reading.derived reading.stops);
      };
      depth = depth;
      derived = reading.derived;
      shallow = reading.shallow;
    }

pub run_stuck : (limit : ℕ) (ts : List Terminal) (from k : ℕ) → IsStuck IsExpr (Past 26) ts from limit k → IsNoExpression limit ts from k
run_stuck limit ts from k stuck =
    let longest = longest_from ts from k (none_stuck ts from limit k stuck) in
    let run : IsRun ts from k = record { forward = stuck.forward; within = omega (arith, stuck.within); begins = reached_begins limit ts from k stuck.reached; longest = longest } in
    record {
      run = run;
      none = λ e depth p. no_end e depth p;
      shallow = λ i deep. reached_before limit ts from k i stuck.reached (deep_inside limit ts from k i run deep) deep;
    }
  where
    -- a token behind an expression that doesn't end it goes on with it
    no_end : (e : Expr) (depth : ℕ) → IsExpr ts from e depth k → ⊥
    no_end e depth p =
        elim (nat_order (stop_at ts k) 26) [
          | inl lt ↦ longest_from ts from k (none_stuck ts from limit k stuck) (suc k) (omega arith) (omega (arith, stuck.within)) (begins_of ts from (suc k) (expr_goes_on ts p lt))
          | inr le ↦ stuck.none ts (agree_same ts) e depth k p le
        ]

pub run_over : (limit : ℕ) (ts : List Terminal) (from k : ℕ) → IsOver IsExpr (Past 26) ts from limit k → IsNestedTooDeep limit ts from k
run_over limit ts from k over = record {
  deep = record {
    within = over.within;
    begins = begins_of ts from (suc k) over.way;
    counted = over.counted;
    deep = λ more e depth p. over.deep (take (suc k) ts ++ more) (agree_take (suc k) ts more (omega (arith, over.within))) e depth (length (take (suc k) ts ++ more)) p (past_end (take (suc k) ts ++ more));
  };
  first = λ i lt deep. reached_before limit ts from k i over.reached lt deep;
}

-- The tokens are read in one way

runs_end : (ts : List Terminal) (from to other : ℕ) → IsRun ts from to → IsRun ts from other → to < other → ⊥
runs_end ts from to other run rival lt = run.longest other lt rival.within rival.begins

one_run : (ts : List Terminal) (from to other : ℕ) → IsRun ts from to → IsRun ts from other → to ≡ other
one_run ts from to other run rival =
    elim (nat_order to other) [ inl lt ↦ absurd (runs_end ts from to other run rival lt) | inr le ↦ elim (nat_order other to) [ inl lt ↦ absurd (runs_end ts from other to rival run lt) | inr ge ↦ omega (arith, le, ge) ] ]

one_depth : (limit : ℕ) (ts : List Terminal) (from k other : ℕ) → IsNestedTooDeep limit ts from k → IsNestedTooDeep limit ts from other → k ≡ other
one_depth limit ts from k other deep rival =
    elim (nat_order k other) [ inl lt ↦ absurd (rival.first k lt deep.deep) | inr le ↦ elim (nat_order other k) [ inl lt ↦ absurd (deep.first other lt rival.deep) | inr ge ↦ omega (arith, le, ge) ] ]

one_refusal : (ts : List Terminal) (number k l : ℕ) (refusal other : Refusal) → k ≡ l → IsRefusalAt ts number k refusal → IsRefusalAt ts number l other → refusal ≡ other
one_refusal ts number k l refusal other e r s =
    let same = one_token ts l r.token s.token (subst (λ x. slice_get ts x ≡ Some r.token) e r.stands) s.stands in
    r.refused ∙ ap (λ (t : Terminal). record { number = number; line = t.at.line; column = t.at.column }) same ∙ sym s.refused

read_deep : (limit : ℕ) (ts : List Terminal) (from to k : ℕ) (e : Expr) → IsRead limit ts from e to → IsTooDeep limit ts from k → ⊥
read_deep limit ts from to k e read deep = shallow_before limit ts from to k (record {
  way = record {
    tokens = take to ts;
    same = agree_front to ts;
    long = omega (arith, long);
    tree = e;
    depth = read.depth;
    derived = subst (λ x. IsExpr (take to ts) from e read.depth x) (sym long) ((expr_carried {us = take to ts} to (agree_front to ts) read.derived).1 (omega arith));
  };
  shallow = read.shallow;
}) (deep_inside limit ts from to k read.run deep) deep
  where
    long : length (take to ts) ≡ to
    long = length-take-le to ts read.run.within

pub readings_unique : ReadingsAreUnique
readings_unique = record {
  read = λ limit ts from to other_to e other r s. one_reading limit ts from to other_to e other r s (one_run ts from to other_to r.run s.run);
  refused = λ limit ts from refusal other r s. one_way limit ts from refusal other r s;
  either = λ limit ts from to e refusal r s. not_both limit ts from to e refusal r s;
}
  where
    one_reading : (limit : ℕ) (ts : List Terminal) (from to other_to : ℕ) (e other : Expr) → IsRead limit ts from e to → IsRead limit ts from other other_to → to ≡ other_to → (e ≡ other) × (to ≡ other_to)
    one_reading limit ts from to other_to e other r s same =
        ((expressions_unique ts from other_to e other r.depth s.depth (subst (λ x. IsExpr ts from e r.depth x) same r.derived) s.derived).0, same)

    one_way : (limit : ℕ) (ts : List Terminal) (from : ℕ) (refusal other : Refusal) → IsExpressionRefused limit ts from refusal → IsExpressionRefused limit ts from other → refusal ≡ other
    one_way limit ts from refusal other (IsExpressionRefused.no_expression k n r) (IsExpressionRefused.no_expression l m s) = one_refusal ts 5 k l refusal other (one_run ts from k l n.run m.run) r s
    one_way limit ts from refusal other (IsExpressionRefused.no_expression k n r) (IsExpressionRefused.nested_too_deep l m s) = absurd (n.shallow l m.deep)
    one_way limit ts from refusal other (IsExpressionRefused.nested_too_deep k n r) (IsExpressionRefused.no_expression l m s) = absurd (m.shallow k n.deep)
    one_way limit ts from refusal other (IsExpressionRefused.nested_too_deep k n r) (IsExpressionRefused.nested_too_deep l m s) = one_refusal ts 6 k l refusal other (one_depth limit ts from k l n m) r s

    not_both : (limit : ℕ) (ts : List Terminal) (from to : ℕ) (e : Expr) (refusal : Refusal) → IsRead limit ts from e to → IsExpressionRefused limit ts from refusal → ⊥
    not_both limit ts from to e refusal r (IsExpressionRefused.no_expression k n s) = n.none e r.depth (subst (λ x. IsExpr ts from e r.depth x) (one_run ts from to k r.run n.run) r.derived)
    not_both limit ts from to e refusal r (IsExpressionRefused.nested_too_deep k n s) = read_deep limit ts from to k e r n.deep
