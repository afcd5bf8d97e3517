-- How `or`, `and` and `not` are read: which parts they have, and where they end.
use Rattle.std.proofs.Common.{◌≡◌, ℕ, suc, max, ◌+◌, ◌≤◌, ◌<◌, ◌++◌, length, Option, Some, None, Result, Ok, Err, Bor, List, [], ◌∷◌, refl, sym, ◌∙◌, subst, arith}
use Rattle.std.specs.Prelude.{slice_get}
use Rattle.std.specs.Ordering.{nat_cmp, ord_max}
use Rattle.std.proofs.lemmas.Bool.Decides.{nat_tests}
use Rattle.std.specs.declared.alloc.Global.{Global}
use Rattle.px_base.specs.declared.refusals.Span.{Span}
use Rattle.px_lexer.specs.declared.spelling.Keyword.TheVariants as word
use Rattle.px_lexer.specs.declared.token_list.TokenKind.{TokenKind}
use Rattle.px_lexer.specs.declared.token_list.Tokens.{Tokens}
use Rattle.px_tree.specs.declared.expressions.Expr.{Expr}
use Rattle.px_tree.specs.declared.expressions.ExprForm.TheVariants as form
use Rattle.px_exprs.specs.Inputs.{Nests}
use Rattle.px_exprs.specs.declared.readings.Read.{Read}
use Rattle.px_exprs.specs.declared.readings.Unread.{Unread}
use Rattle.px_exprs.specs.declared.readings.Unread.TheVariants as unread
use Rattle.px_lexer.specs.Terminals.{Terminal, HasKind, IsKeyword, IsAt}
use Rattle.px_exprs.specs.Codes.{code_of, code_at, Past}
use Rattle.px_exprs.specs.Grammar.{node, IsOr, AreOrs, IsAnd, AreAnds, IsNot, IsCompare}
use Rattle.px_exprs.specs.Parts.{IsOrPart, IsAndPart}
use Rattle.px_exprs.specs.Words.{IsTooDeepAt}
use Rattle.px_exprs.specs.Lists.{Ran}
use Rattle.px_exprs.specs.Readings.{Form, Stops, Agree, HasWay, IsReached, IsOver, IsUnread, IsReading, Reads}
use Rattle.px_exprs.proofs.Agreement.{agree_same, agree_back, kind_carried}
use Rattle.px_exprs.proofs.Codes.{code_here}
use Rattle.px_exprs.proofs.Beginnings.{compare_begins, not_begins, and_begins}
use Rattle.px_exprs.proofs.Keeping.{and_carried, not_carried}
use Rattle.px_exprs.proofs.Stops.{past_carried, past_and, past_or, or_goes_on, and_goes_on, ors_stop, ands_stop, or_stops, and_stops}
use Rattle.px_exprs.proofs.Uniqueness.{and_only, not_only}
use Rattle.px_exprs.proofs.Only.{IsOnly}
use Rattle.px_exprs.proofs.Fresh.{way_and, way_not}
use Rattle.px_exprs.proofs.Steps.{Part, Step, fails, step_twice, way_made}
use Rattle.px_exprs.proofs.Tailed.{TailedCase, IsTailed, tail_step, tail_over}
use Rattle.px_exprs.proofs.ChainLaws.{ChainCase, IsChain, ran_on, ran_whole, chain_step}

-- Places of tokens

place_of : (ts : List Terminal) (i : ℕ) (found : Option Terminal) → slice_get ts i ≡ found → code_of found ≤ 34 → (at : Span) × IsAt ts i at
place_of ts i None e le = absurd (omega (arith, le))
place_of ts i (Some t) e le = (t.at, record { token = t; stands = e; placed = refl })

-- where a token stands, it has a place
pub place_coded : (ts : List Terminal) (i : ℕ) → code_at ts i ≤ 34 → (at : Span) × IsAt ts i at
unfolding code_at
place_coded ts i le = place_of ts i (slice_get ts i) refl le

pub place_kind : {ts : List Terminal} {i : ℕ} {k : TokenKind} → HasKind ts i k → (at : Span) × IsAt ts i at
place_kind h = (h.token.at, record { token = h.token; stands = h.stands; placed = refl })

-- with less room left, the reader of nested expressions serves too
pub nests_less : {room left : ℕ} {pre : Global → Bor Tokens → ℕ → ℕ → Type 0} {post : Global → Bor Tokens → ℕ → ℕ → Result (Read Expr) Unread → Type 0} → Nests room pre post → left ≤ room → Nests left pre post
nests_less nests le = record {
  callable = λ alloc tokens less from input inside lt. nests.callable alloc tokens less from input inside (omega (arith, le, lt));
  reads = λ alloc tokens less from r input inside lt called. nests.reads alloc tokens less from r input inside (omega (arith, le, lt)) called;
}

-- An operand with a tail, in the room that is left

-- behind what was read the tail is a part
pub left_step : {A B : Type 0} {X : Form A} {S : Stops} {T : Form B} {Y : Form A} {R : Stops} → IsTailed X S T Y R 1 → {ts : List Terminal} {i room left a k : ℕ} {e : A} → IsReading X S ts i room e a k
    → (a < room) × (room ≡ suc left) → ((us : List Terminal) → Agree (suc k) us ts → R us k → ⊥) → Step T R Y R ts i k left room
left_step {T = T} {Y = Y} {R = R} laws {ts} {i} {room} {left} {k = k} reading inside none =
    let n : 1 + left ≡ room = omega (arith, inside.1) in
    subst (λ m. Step T R Y R ts i k left m) n (tail_step laws reading.derived reading.stops (omega (arith, inside.0, inside.1)) none)

-- and where no room is left, it is nested too deep
pub left_over : {A B : Type 0} {X : Form A} {S : Stops} {T : Form B} {Y : Form A} {R : Stops} → IsTailed X S T Y R 1 → {ts : List Terminal} {i room a k : ℕ} {e : A} → IsReading X S ts i room e a k
    → ((us : List Terminal) → Agree (suc k) us ts → R us k → ⊥) → (IsKeyword ts k word.Sizeof → ⊥) → HasWay T ts k (suc k) → (u : Unread) → IsTooDeepAt k u × (room ≤ a) → IsUnread Y R ts i room u
left_over laws reading none counted way (unread.Stuck n) h = absurd h.0
left_over {Y = Y} {R = R} laws {ts} {i} {room} reading none counted way (unread.TooDeep n) h =
    subst (λ m. IsOver Y R ts i room m) (sym h.0) (tail_over laws reading.derived reading.stops reading.within reading.shallow (omega (arith, h.1)) none counted way)
left_over laws reading none counted way unread.NoMemory h = tt

-- Rows of operators with their operands

pub ord_max-max : (a b : ℕ) → ord_max nat_cmp a b ≡ max a b
ord_max-max a b = grind (arith, nat_tests)

-- what the reader of a row has read so far
abbrev pub IsRun : {A : Type 0} → Form A → Stops → List Terminal → ℕ → ℕ → List A → ℕ → ℕ → Type 0
IsRun E Q ts room k es d l = Ran E ts k es d l × (d ≤ room) × Q ts l × (l < length ts)

pub run_begun : {A : Type 0} {E : Form A} {ts : List Terminal} {k n : ℕ} {es : List A} (Q : Stops) (room : ℕ) → es ≡ [] → Q ts k → k < n → length ts ≡ n → IsRun E Q ts room k es 0 k
run_begun {E = E} {ts} {k} Q room e s within long = (subst (λ xs. Ran E ts k xs 0 k) (sym e) Ran.none, omega arith, s, omega (arith, within, long))

pub run_on : {A B : Type 0} {E : Form A} {X : Form B} {Q : Stops} {ts : List Terminal} {room k d l c m n : ℕ} {es fs : List A} {e : A} {x : B} → IsRun E Q ts room k es d l → E ts l e c m → IsReading X Q ts (l + 1) room x c m
    → fs ≡ es ++ e ∷ [] → n ≡ ord_max nat_cmp d c → IsRun E Q ts room k fs n m
run_on {E = E} {ts = ts} {k = k} {d} {c = c} {m} {n} {es = es} {fs} {e} run element reading joined greater =
    let deep : n ≡ max d c = greater ∙ ord_max-max d c in
    let deeper : Ran E ts k (es ++ e ∷ []) n m = subst (λ b. Ran E ts k (es ++ e ∷ []) b m) (sym deep) (ran_on run.0 element) in
    (subst (λ xs. Ran E ts k xs n m) (sym joined) deeper, omega (arith, deep, run.1, reading.shallow), reading.stops, reading.within)

-- `or`

or_with_tail : {us : List Terminal} {i a k b j : ℕ} {e : Expr} {t : List Expr} → IsAnd us i e a k → AreOrs us k t b j → (f : Expr) × IsOr us i f (1 + max a b) j
or_with_tail {us} {i} {a} {k} {b} {j} {e} {t} p q =
    let at = place_coded us i (omega (arith, and_begins p)) in
    let n : suc (max a b) ≡ 1 + max a b = omega arith in
    (node k at.0 (form.Or (e ∷ t)), subst (λ d. IsOr us i (node k at.0 (form.Or (e ∷ t))) d j) n (IsOr.or_chain at.1 p q refl))

or_cases : {us : List Terminal} {i c j : ℕ} {f : Expr} → IsOr us i f c j → TailedCase IsAnd AreOrs 1 us i f c j
or_cases (IsOr.one_and p) = TailedCase.alone p
or_cases (IsOr.or_chain at p q e) = TailedCase.tailed _ _ _ _ _ p q (omega arith)

pub or_tailed : IsTailed IsAnd (Past 24) AreOrs IsOr (Past 25) 1
or_tailed = record {
  alone = IsOr.one_and;
  tailed = or_with_tail;
  cases = or_cases;
  only = λ p. and_only p;
  carried = λ n agree p. and_carried n agree p;
  local = λ agree s. past_carried _ _ _ agree s;
  stops = λ s. omega (arith, s);
  tail_stops = λ t. omega (arith, ors_stop t);
}

or_part_cases : {us : List Terminal} {k c j : ℕ} {es : List Expr} → AreOrs us k es c j → ChainCase IsOrPart AreOrs us k es c j
or_part_cases (AreOrs.last_or h p) = ChainCase.one _ (record { sign = h; operand = p }) refl
or_part_cases (AreOrs.more_ors h p others) = ChainCase.more _ _ _ _ _ (record { sign = h; operand = p }) others refl refl

or_part_only : {us : List Terminal} {i d j : ℕ} {e : Expr} → IsOrPart us i e d j → IsOnly (IsOrPart us i) (Past 24 us) e d j
or_part_only p s f c k q t = and_only p.operand s f c k q.operand t

or_part_carried : {ts us : List Terminal} (n : ℕ) {i d j : ℕ} {e : Expr} → Agree n us ts → IsOrPart ts i e d j → (i < j) × (j ≤ n → IsOrPart us i e d j)
or_part_carried {us = us} n agree p =
    let later = and_carried {us = us} n agree p.operand in
    (omega (arith, later.0), λ le. record { sign = kind_carried p.sign (omega (arith, later.0, le)) agree; operand = later.1 le })

pub or_laws : IsChain IsOrPart (Past 24) AreOrs (Past 25)
or_laws = record {
  one = λ p. AreOrs.last_or p.sign p.operand;
  more = λ p others. AreOrs.more_ors p.sign p.operand others;
  cases = or_part_cases;
  only = λ p. or_part_only p;
  carried = λ n agree p. or_part_carried n agree p;
  local = λ agree s. past_carried _ _ _ agree s;
  stops = λ s. omega (arith, s);
  starts = λ p. or_stops p.sign;
  ends = λ s p. or_goes_on p.sign s;
}

-- behind an operator stands its operand
pub or_part_step : {ts : List Terminal} {k : ℕ} (room : ℕ) → IsKeyword ts k word.Or → Step IsAnd (Past 24) IsOrPart (Past 24) ts k (suc k) room room
or_part_step room h = record {
  forward = omega arith;
  make = λ us agree long e d x. (record { tokens = us; same = agree_same us; long = omega arith; tree = e; depth = d; derived = record { sign = kind_carried h (omega arith) agree; operand = x } }, λ le. le);
  split = λ us agree f c j whole stop. (record { tree = f; depth = c; end = j; derived = whole.operand; stops = stop }, λ lt. lt);
}

or_ends : {ts : List Terminal} {k : ℕ} → IsKeyword ts k word.Or → (us : List Terminal) → Agree (suc k) us ts → Past 25 us k → ⊥
or_ends h us agree stop = or_goes_on (kind_carried h (omega arith) agree) stop

-- the operand of the next operator is a part of the chain
pub ors_step : {ts : List Terminal} {k d l : ℕ} {es : List Expr} (room : ℕ) → Ran IsOrPart ts k es d l → d ≤ room → IsKeyword ts l word.Or → Step IsAnd (Past 24) AreOrs (Past 25) ts k (suc l) room room
ors_step room ran shallow h = step_twice (or_part_step room h) (chain_step or_laws ran shallow (or_stops h) (or_ends h))

pub ors_refused : {ts : List Terminal} {room k d l : ℕ} {es : List Expr} → IsRun IsOrPart (Past 24) ts room k es d l → IsKeyword ts l word.Or → (u : Unread) → IsUnread IsAnd (Past 24) ts (l + 1) room u
    → IsUnread AreOrs (Past 25) ts k room u
ors_refused {ts} {room} {l = l} run h u refused =
    let n : l + 1 ≡ suc l = omega arith in
    fails (ors_step room run.0 run.1 h) u (subst (λ m. IsUnread IsAnd (Past 24) ts m room u) n refused)

pub ors_on : {ts : List Terminal} {room k d l c m n : ℕ} {es fs : List Expr} {e : Expr} → IsRun IsOrPart (Past 24) ts room k es d l → IsKeyword ts l word.Or → IsReading IsAnd (Past 24) ts (l + 1) room e c m
    → fs ≡ es ++ e ∷ [] → n ≡ ord_max nat_cmp d c → IsRun IsOrPart (Past 24) ts room k fs n m
ors_on {ts} {l = l} {c} {m} {e = e} run h reading joined deep =
    let n : l + 1 ≡ suc l = omega arith in
    let element : IsOrPart ts l e c m = record { sign = h; operand = subst (λ i. IsAnd ts i e c m) n reading.derived } in
    run_on run element reading joined deep

pub ors_read : {ts : List Terminal} {room k d l : ℕ} {es : List Expr} → IsRun IsOrPart (Past 24) ts room k es d l → IsKeyword ts k word.Or → (IsKeyword ts l word.Or → ⊥) → IsReading AreOrs (Past 25) ts k room es d l
ors_read {ts} run first none = record {
  derived = ran_whole or_laws run.0 (λ same. none (subst (λ n. IsKeyword ts n word.Or) same first));
  shallow = run.1;
  stops = past_or run.2 none;
  within = run.3;
}

pub or_left : {ts : List Terminal} {i room left a k : ℕ} {e : Expr} → IsReading IsAnd (Past 24) ts i room e a k → IsKeyword ts k word.Or → (a < room) × (room ≡ suc left) → Step AreOrs (Past 25) IsOr (Past 25) ts i k left room
or_left reading h inside = left_step or_tailed reading inside (or_ends h)

pub or_over : {ts : List Terminal} {i room a k : ℕ} {e : Expr} → IsReading IsAnd (Past 24) ts i room e a k → IsKeyword ts k word.Or → (u : Unread) → IsTooDeepAt k u × (room ≤ a) → IsUnread IsOr (Past 25) ts i room u
or_over {ts} {k = k} reading h u deep =
    let way = (way_and ts (suc k) 0 (omega (arith, reading.within))).way in
    left_over or_tailed reading (or_ends h) (λ other. omega (arith, code_here h, code_here other)) (way_made (ors_step 0 Ran.none (omega arith) h) (omega arith) way) u deep

pub or_read : {ts : List Terminal} {i room left a k b j m number : ℕ} {at : Span} {first e : Expr} {others all : List Expr} → IsReading IsAnd (Past 24) ts i room first a k → (a < room) × (room ≡ suc left)
    → IsReading AreOrs (Past 25) ts k left others b j → all ≡ first ∷ others → IsAt ts i at → number ≡ k → e ≡ node number at (form.Or all) → m ≡ max a b → IsReading IsOr (Past 25) ts i room e (m + 1) j
or_read {ts} {i} {a = a} {k} {b} {j} {m} {at = at} {first} {e} {others} reading inside tail joined placed numbered tree greater =
    let deep : m + 1 ≡ suc (max a b) = omega (arith, greater) in
    record {
      derived =
          let same : e ≡ node k at (form.Or (first ∷ others)) = cc in
          subst (λ n. IsOr ts i e n j) (sym deep) (IsOr.or_chain placed reading.derived tail.derived same);
      shallow = omega (arith, deep, inside.0, inside.1, tail.shallow);
      stops = tail.stops;
      within = tail.within;
    }

-- `and`

and_with_tail : {us : List Terminal} {i a k b j : ℕ} {e : Expr} {t : List Expr} → IsNot us i e a k → AreAnds us k t b j → (f : Expr) × IsAnd us i f (1 + max a b) j
and_with_tail {us} {i} {a} {k} {b} {j} {e} {t} p q =
    let at = place_coded us i (omega (arith, not_begins p)) in
    let n : suc (max a b) ≡ 1 + max a b = omega arith in
    (node k at.0 (form.And (e ∷ t)), subst (λ d. IsAnd us i (node k at.0 (form.And (e ∷ t))) d j) n (IsAnd.and_chain at.1 p q refl))

and_cases : {us : List Terminal} {i c j : ℕ} {f : Expr} → IsAnd us i f c j → TailedCase IsNot AreAnds 1 us i f c j
and_cases (IsAnd.one_not p) = TailedCase.alone p
and_cases (IsAnd.and_chain at p q e) = TailedCase.tailed _ _ _ _ _ p q (omega arith)

pub and_tailed : IsTailed IsNot (Past 23) AreAnds IsAnd (Past 24) 1
and_tailed = record {
  alone = IsAnd.one_not;
  tailed = and_with_tail;
  cases = and_cases;
  only = λ p. not_only p;
  carried = λ n agree p. not_carried n agree p;
  local = λ agree s. past_carried _ _ _ agree s;
  stops = λ s. omega (arith, s);
  tail_stops = λ t. omega (arith, ands_stop t);
}

and_part_cases : {us : List Terminal} {k c j : ℕ} {es : List Expr} → AreAnds us k es c j → ChainCase IsAndPart AreAnds us k es c j
and_part_cases (AreAnds.last_and h p) = ChainCase.one _ (record { sign = h; operand = p }) refl
and_part_cases (AreAnds.more_ands h p others) = ChainCase.more _ _ _ _ _ (record { sign = h; operand = p }) others refl refl

and_part_only : {us : List Terminal} {i d j : ℕ} {e : Expr} → IsAndPart us i e d j → IsOnly (IsAndPart us i) (Past 23 us) e d j
and_part_only p s f c k q t = not_only p.operand s f c k q.operand t

and_part_carried : {ts us : List Terminal} (n : ℕ) {i d j : ℕ} {e : Expr} → Agree n us ts → IsAndPart ts i e d j → (i < j) × (j ≤ n → IsAndPart us i e d j)
and_part_carried {us = us} n agree p =
    let later = not_carried {us = us} n agree p.operand in
    (omega (arith, later.0), λ le. record { sign = kind_carried p.sign (omega (arith, later.0, le)) agree; operand = later.1 le })

pub and_laws : IsChain IsAndPart (Past 23) AreAnds (Past 24)
and_laws = record {
  one = λ p. AreAnds.last_and p.sign p.operand;
  more = λ p others. AreAnds.more_ands p.sign p.operand others;
  cases = and_part_cases;
  only = λ p. and_part_only p;
  carried = λ n agree p. and_part_carried n agree p;
  local = λ agree s. past_carried _ _ _ agree s;
  stops = λ s. omega (arith, s);
  starts = λ p. and_stops p.sign;
  ends = λ s p. and_goes_on p.sign s;
}

pub and_part_step : {ts : List Terminal} {k : ℕ} (room : ℕ) → IsKeyword ts k word.And → Step IsNot (Past 23) IsAndPart (Past 23) ts k (suc k) room room
and_part_step room h = record {
  forward = omega arith;
  make = λ us agree long e d x. (record { tokens = us; same = agree_same us; long = omega arith; tree = e; depth = d; derived = record { sign = kind_carried h (omega arith) agree; operand = x } }, λ le. le);
  split = λ us agree f c j whole stop. (record { tree = f; depth = c; end = j; derived = whole.operand; stops = stop }, λ lt. lt);
}

and_ends : {ts : List Terminal} {k : ℕ} → IsKeyword ts k word.And → (us : List Terminal) → Agree (suc k) us ts → Past 24 us k → ⊥
and_ends h us agree stop = and_goes_on (kind_carried h (omega arith) agree) stop

pub ands_step : {ts : List Terminal} {k d l : ℕ} {es : List Expr} (room : ℕ) → Ran IsAndPart ts k es d l → d ≤ room → IsKeyword ts l word.And → Step IsNot (Past 23) AreAnds (Past 24) ts k (suc l) room room
ands_step room ran shallow h = step_twice (and_part_step room h) (chain_step and_laws ran shallow (and_stops h) (and_ends h))

pub ands_refused : {ts : List Terminal} {room k d l : ℕ} {es : List Expr} → IsRun IsAndPart (Past 23) ts room k es d l → IsKeyword ts l word.And → (u : Unread) → IsUnread IsNot (Past 23) ts (l + 1) room u
    → IsUnread AreAnds (Past 24) ts k room u
ands_refused {ts} {room} {l = l} run h u refused =
    let n : l + 1 ≡ suc l = omega arith in
    fails (ands_step room run.0 run.1 h) u (subst (λ m. IsUnread IsNot (Past 23) ts m room u) n refused)

pub ands_on : {ts : List Terminal} {room k d l c m n : ℕ} {es fs : List Expr} {e : Expr} → IsRun IsAndPart (Past 23) ts room k es d l → IsKeyword ts l word.And → IsReading IsNot (Past 23) ts (l + 1) room e c m
    → fs ≡ es ++ e ∷ [] → n ≡ ord_max nat_cmp d c → IsRun IsAndPart (Past 23) ts room k fs n m
ands_on {ts} {l = l} {c} {m} {e = e} run h reading joined deep =
    let n : l + 1 ≡ suc l = omega arith in
    let element : IsAndPart ts l e c m = record { sign = h; operand = subst (λ i. IsNot ts i e c m) n reading.derived } in
    run_on run element reading joined deep

pub ands_read : {ts : List Terminal} {room k d l : ℕ} {es : List Expr} → IsRun IsAndPart (Past 23) ts room k es d l → IsKeyword ts k word.And → (IsKeyword ts l word.And → ⊥) → IsReading AreAnds (Past 24) ts k room es d l
ands_read {ts} run first none = record {
  derived = ran_whole and_laws run.0 (λ same. none (subst (λ n. IsKeyword ts n word.And) same first));
  shallow = run.1;
  stops = past_and run.2 none;
  within = run.3;
}

pub and_left : {ts : List Terminal} {i room left a k : ℕ} {e : Expr} → IsReading IsNot (Past 23) ts i room e a k → IsKeyword ts k word.And → (a < room) × (room ≡ suc left) → Step AreAnds (Past 24) IsAnd (Past 24) ts i k left room
and_left reading h inside = left_step and_tailed reading inside (and_ends h)

pub and_over : {ts : List Terminal} {i room a k : ℕ} {e : Expr} → IsReading IsNot (Past 23) ts i room e a k → IsKeyword ts k word.And → (u : Unread) → IsTooDeepAt k u × (room ≤ a) → IsUnread IsAnd (Past 24) ts i room u
and_over {ts} {k = k} reading h u deep =
    let way = (way_not ts (suc k) 0 (omega (arith, reading.within))).way in
    left_over and_tailed reading (and_ends h) (λ other. omega (arith, code_here h, code_here other)) (way_made (ands_step 0 Ran.none (omega arith) h) (omega arith) way) u deep

pub and_read : {ts : List Terminal} {i room left a k b j m number : ℕ} {at : Span} {first e : Expr} {others all : List Expr} → IsReading IsNot (Past 23) ts i room first a k → (a < room) × (room ≡ suc left)
    → IsReading AreAnds (Past 24) ts k left others b j → all ≡ first ∷ others → IsAt ts i at → number ≡ k → e ≡ node number at (form.And all) → m ≡ max a b → IsReading IsAnd (Past 24) ts i room e (m + 1) j
and_read {ts} {i} {a = a} {k} {b} {j} {m} {at = at} {first} {e} {others} reading inside tail joined placed numbered tree greater =
    let deep : m + 1 ≡ suc (max a b) = omega (arith, greater) in
    record {
      derived =
          let same : e ≡ node k at (form.And (first ∷ others)) = cc in
          subst (λ n. IsAnd ts i e n j) (sym deep) (IsAnd.and_chain placed reading.derived tail.derived same);
      shallow = omega (arith, deep, inside.0, inside.1, tail.shallow);
      stops = tail.stops;
      within = tail.within;
    }

-- `not`

denied_deep : {us : List Terminal} {i c j : ℕ} {f : Expr} → IsKeyword us i word.Not → IsNot us i f c j → 0 < c
denied_deep h (IsNot.compared p) = absurd (omega (arith, compare_begins p, code_here h))
denied_deep h (IsNot.denied at g p e) = omega arith

-- behind `not` stands its operand
pub not_step : {ts : List Terminal} {i room left : ℕ} → IsKeyword ts i word.Not → room ≡ suc left → Step IsNot (Past 23) IsNot (Past 23) ts i (suc i) left room
not_step {ts} {i} {room} {left} h inside = record {
  forward = omega arith;
  make = λ us agree long e d x.
      let denial = kind_carried h (omega arith) agree in
      let at = place_kind denial in
      (record { tokens = us; same = agree_same us; long = omega arith; tree = node i at.0 (form.Not e); depth = suc d; derived = IsNot.denied at.1 denial x refl }, λ le. omega (arith, inside, le));
  split = λ us agree f c j whole stop. parts us agree f c j whole stop;
}
  where
    parts : (us : List Terminal) → Agree (suc (suc i)) us ts → (f : Expr) (c j : ℕ) → IsNot us i f c j → Past 23 us j → (part : Part IsNot (Past 23) us (suc i)) × (left < part.depth → room < c)
    parts us agree f c j (IsNot.compared p) stop =
        let denial : IsKeyword us i word.Not = kind_carried h (omega arith) agree in
        absurd (omega (arith, compare_begins p, code_here denial))
    parts us agree f c j (IsNot.denied {d = d} {operand = operand} at g p e) stop = (record { tree = operand; depth = d; end = j; derived = p; stops = stop }, λ lt. omega (arith, inside, lt))

pub not_read : {ts : List Terminal} {i room left d j c to : ℕ} {at : Span} {operand boxed e : Expr} → IsKeyword ts i word.Not → room ≡ suc left → IsReading IsNot (Past 23) ts (i + 1) left operand d j → IsAt ts i at
    → boxed ≡ operand → e ≡ node i at (form.Not boxed) → c ≡ d + 1 → to ≡ j → IsReading IsNot (Past 23) ts i room e c to
not_read {ts} {i} {room} {d = d} {j} {c} {at = at} {operand} {e = e} h inside reading placed same tree deep end =
    let whole : e ≡ node i at (form.Not operand) = cc in
    let next : i + 1 ≡ suc i = omega arith in
    let deeper : c ≡ suc d = omega (arith, deep) in
    let here : IsReading IsNot (Past 23) ts i room e (suc d) j = record {
      derived = IsNot.denied placed h (subst (λ m. IsNot ts m operand d j) next reading.derived) whole;
      shallow = omega (arith, inside, reading.shallow);
      stops = reading.stops;
      within = reading.within;
    } in
    subst (λ n. IsReading IsNot (Past 23) ts i room e c n) (sym end) (subst (λ n. IsReading IsNot (Past 23) ts i room e n j) (sym deeper) here)

-- where no room is left within `not`, it is nested too deep
pub not_over : {ts : List Terminal} {i room : ℕ} → IsKeyword ts i word.Not → i < length ts → (u : Unread) → IsTooDeepAt i u × (room ≤ 0) → IsUnread IsNot (Past 23) ts i room u
not_over h within (unread.Stuck n) deep = absurd deep.0
not_over {ts} {i} {room} h within (unread.TooDeep n) deep =
    let here : IsOver IsNot (Past 23) ts i room i = record {
      forward = omega arith;
      within = within;
      counted = λ other. omega (arith, code_here h, code_here other);
      reached = IsReached.reached (way_not ts i room (omega (arith, within)));
      way = way_made (not_step {room = 1} {left = 0} h refl) (omega arith) (way_not ts (suc i) 0 (omega (arith, within))).way;
      deep = λ us agree f c j whole stop. omega (arith, deep.1, denied_deep (kind_carried h (omega arith) agree) whole);
    } in
    subst (λ m. IsOver IsNot (Past 23) ts i room m) (sym deep.0) here
not_over h within unread.NoMemory deep = tt

-- without `not` stands a comparison
compare_step : {ts : List Terminal} {i room : ℕ} → (IsKeyword ts i word.Not → ⊥) → Step IsCompare (Past 23) IsNot (Past 23) ts i i room room
compare_step {ts} {i} {room} none = record {
  forward = omega arith;
  make = λ us agree long e d x. (record { tokens = us; same = agree_same us; long = omega arith; tree = e; depth = d; derived = IsNot.compared x }, λ le. le);
  split = λ us agree f c j whole stop. parts us agree f c j whole stop;
}
  where
    parts : (us : List Terminal) → Agree (suc i) us ts → (f : Expr) (c j : ℕ) → IsNot us i f c j → Past 23 us j → (part : Part IsCompare (Past 23) us i) × (room < part.depth → room < c)
    parts us agree f c j (IsNot.compared p) stop = (record { tree = f; depth = c; end = j; derived = p; stops = stop }, λ lt. lt)
    parts us agree f c j (IsNot.denied at g p e) stop = absurd (none (kind_carried g (omega arith) (agree_back us ts agree)))

pub compared : (ts : List Terminal) (i room : ℕ) → (IsKeyword ts i word.Not → ⊥) → (r : Result (Read Expr) Unread) → Reads IsCompare (Past 23) ts i room r → Reads IsNot (Past 23) ts i room r
compared ts i room none (Ok read) reading = record { derived = IsNot.compared reading.derived; shallow = reading.shallow; stops = reading.stops; within = reading.within }
compared ts i room none (Err u) h = fails (compare_step none) u h

pub not_forward : {ts : List Terminal} {i room d j : ℕ} {e : Expr} → IsReading IsNot (Past 23) ts i room e d j → i < j
not_forward {ts} {j = j} reading = (not_carried {us = ts} j (agree_same ts) reading.derived).0

pub and_forward : {ts : List Terminal} {i room d j : ℕ} {e : Expr} → IsReading IsAnd (Past 24) ts i room e d j → i < j
and_forward {ts} {j = j} reading = (and_carried {us = ts} j (agree_same ts) reading.derived).0

pub not_refused : {ts : List Terminal} {i room left : ℕ} → IsKeyword ts i word.Not → (0 < room) × (room ≡ suc left) → (u : Unread) → IsUnread IsNot (Past 23) ts (i + 1) left u → IsUnread IsNot (Past 23) ts i room u
not_refused {ts} {i} {left = left} h inside u refused =
    let n : i + 1 ≡ suc i = omega arith in
    fails (not_step h inside.1) u (subst (λ m. IsUnread IsNot (Past 23) ts m left u) n refused)
