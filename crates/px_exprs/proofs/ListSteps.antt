-- How the elements between brackets are read: which parts they have, and where they end.
use Rattle.std.proofs.Common.{◌≡◌, ℕ, suc, max, ◌≤◌, ◌<◌, ◌++◌, length, take, inl, inr, Bool, Result, Ok, Err, MatchResult, List, [], ◌∷◌, refl, sym, ap, ap₂, ◌∙◌, subst, arith}
use Rattle.std.specs.Prelude.{◌↔◌, IsTrue, IsFalse}
use Rattle.std.proofs.lemmas.List.{length-append, length-take-le}
use Rattle.px_lexer.specs.declared.spelling.Operator.{Operator}
use Rattle.px_lexer.specs.declared.spelling.Operator.TheVariants as sign
use Rattle.px_lexer.specs.declared.token_list.TokenKind.TheVariants as kind
use Rattle.px_tree.specs.declared.expressions.Expr.{Expr}
use Rattle.px_tree.specs.declared.expressions.Entry.{Entry}
use Rattle.px_lexer.specs.Terminals.{Terminal, IsOperator}
use Rattle.px_exprs.specs.Codes.{sign_code, Past, IsClosing}
use Rattle.px_exprs.specs.Grammar.{entry, IsExpr, AreExprs, AreEntries}
use Rattle.px_exprs.specs.Parts.{IsEntry}
use Rattle.px_base.proofs.Facts.{denied}
use Rattle.px_exprs.specs.declared.readings.Read.{Read}
use Rattle.px_exprs.specs.declared.readings.Unread.{Unread}
use Rattle.px_exprs.specs.declared.readings.Unread.TheVariants as unread
use Rattle.px_exprs.specs.Words.{IsBehind, IsStuckAt}
use Rattle.px_exprs.specs.Readings.{Form, Agree, EndsElement, IsReached, IsStuck, IsUnread, IsReading, Reads}
use Rattle.px_exprs.proofs.Agreement.{agree_same, agree_back, agree_through, agree_carried, agree_append, agree_front, kind_carried}
use Rattle.px_exprs.proofs.Codes.{code_here}
use Rattle.px_exprs.proofs.Only.{IsOnly}
use Rattle.px_exprs.proofs.Beginnings.{exprs_begin, entries_begin}
use Rattle.px_exprs.proofs.Keeping.{expr_carried, expr_forward}
use Rattle.px_exprs.proofs.Stops.{past_carried, sign_stops}
use Rattle.px_exprs.proofs.Uniqueness.{expr_only}
use Rattle.px_exprs.proofs.Fresh.{some_name, stands_behind, fresh_expr}
use Rattle.px_exprs.proofs.Steps.{Made, Step, reached_made, fails}
use Rattle.px_exprs.proofs.Elements.{ElementsCase, IsElements}

-- an operator that closes a list
pub ends_past : {closing : Operator} {ts : List Terminal} {j : ℕ} → IsClosing closing → EndsElement closing ts j → Past 26 ts j
ends_past closes (inl comma) = sign_stops sign.Comma comma (omega arith) (omega arith)
ends_past {closing} closes (inr close) = sign_stops closing close (omega (arith, closes.0)) (omega (arith, closes.0))

ends_carried : {closing : Operator} {ts us : List Terminal} {j n : ℕ} → EndsElement closing ts j → j < n → Agree n us ts → EndsElement closing us j
ends_carried (inl comma) lt agree = inl (kind_carried comma lt agree)
ends_carried (inr close) lt agree = inr (kind_carried close lt agree)

-- what was read is a way on
pub read_reached : {A : Type 0} (X : Form A) (ts : List Terminal) (i room d j : ℕ) (e : A) → X (take j ts) i e d j → j ≤ length ts → d ≤ room → IsReached X ts i j room
read_reached X ts i room d j e cut le shallow =
    let long : length (take j ts) ≡ j = length-take-le j ts le in
    IsReached.reached (record {
      way = record {
        tokens = take j ts;
        same = agree_front j ts;
        long = omega (arith, long);
        tree = e;
        depth = d;
        derived = subst (λ n. X (take j ts) i e d n) (sym long) cut;
      };
      shallow = shallow;
    })

-- Expressions

element_only : {closing : Operator} {us : List Terminal} {i d j : ℕ} {e : Expr} → IsClosing closing → IsExpr us i e d j → IsOnly (IsExpr us i) (EndsElement closing us) e d j
element_only closes p s f c k q t = expr_only p (ends_past closes s) f c k q (ends_past closes t)

exprs_cases : {us : List Terminal} {k c j : ℕ} {es : List Expr} → AreExprs us k es c j → ElementsCase IsExpr AreExprs us k es c j
exprs_cases (AreExprs.last_expr p) = ElementsCase.last _ p refl
exprs_cases (AreExprs.more_exprs p comma others) = ElementsCase.more _ _ _ _ _ p comma others refl refl

no_comma : (closing : Operator) → IsClosing closing → closing ≡ sign.Comma → ⊥
no_comma closing closes e = let code : sign_code closing ≡ 27 = ap sign_code e in omega (arith, code, closes.0)

pub expr_elements : (closing : Operator) → IsClosing closing → IsElements IsExpr closing AreExprs
expr_elements closing closes = record {
  last = AreExprs.last_expr;
  more = AreExprs.more_exprs;
  cases = exprs_cases;
  only = λ p. element_only closes p;
  carried = λ n agree p. expr_carried n agree p;
  open_ = λ es h. omega (arith, exprs_begin es, code_here h, closes.0);
  apart = no_comma closing closes;
}

-- an element is an expression
pub expr_step : {closing : Operator} → IsClosing closing → (ts : List Terminal) (i room : ℕ) → Step IsExpr (Past 26) IsExpr (EndsElement closing) ts i i room room
expr_step closes ts i room = record {
  forward = omega arith;
  make = λ us agree long e d x. (record { tokens = us; same = agree_same us; long = omega arith; tree = e; depth = d; derived = x }, λ le. le);
  split = λ us agree f c j whole stop. (record { tree = f; depth = c; end = j; derived = whole; stops = ends_past closes stop }, λ lt. lt);
}

pub expr_reached : {ts : List Terminal} {i room d j : ℕ} {e : Expr} → IsReading IsExpr (Past 26) ts i room e d j → IsReached IsExpr ts i j room
expr_reached {ts} {i} {room} {d} {j} {e} reading =
    read_reached IsExpr ts i room d j e ((expr_carried j (agree_front j ts) reading.derived).1 (omega arith)) (omega (arith, reading.within)) reading.shallow

-- over tokens that agree the same expression is read
same_end : {ts us : List Terminal} {i room d j c k : ℕ} {e f : Expr} → IsReading IsExpr (Past 26) ts i room e d j → Agree (suc j) us ts → IsExpr us i f c k → Past 26 us k → j ≡ k
same_end {ts} {us} {j = j} reading agree q s = (expr_only ((expr_carried (suc j) agree reading.derived).1 (omega arith)) (past_carried ts us j agree reading.stops) _ _ _ q s).end

pub element_stuck : {closing : Operator} {ts : List Terminal} {i room d j : ℕ} {e : Expr} → IsClosing closing → IsReading IsExpr (Past 26) ts i room e d j → (EndsElement closing ts j → ⊥)
    → IsStuck IsExpr (EndsElement closing) ts i room j
element_stuck {closing} {ts} {j = j} closes reading none = record {
  forward = omega (arith, expr_forward reading.derived);
  within = reading.within;
  reached = expr_reached reading;
  none = λ us agree f c k q s.
      let end = same_end reading agree q (ends_past closes s) in
      none (ends_carried (subst (EndsElement closing us) (sym end) s) (omega arith) (agree_back us ts agree));
}

-- it is an element where it may end there, and stuck else
pub element_kept : {closing : Operator} {ts : List Terminal} {i room : ℕ} (read : Read Expr) (may_end : Bool) → IsClosing closing → IsReading IsExpr (Past 26) ts i room read.tree read.depth read.to
    → (IsTrue may_end ↔ EndsElement closing ts read.to) → (r : Result (Read Expr) Unread) → MatchResult r (λ kept. IsTrue may_end × (kept ≡ read)) (λ u. IsFalse may_end × IsStuckAt read.to u)
    → Reads IsExpr (EndsElement closing) ts i room r
element_kept {closing} {ts} {i} {room} read may_end closes reading ends (Ok kept) h =
    let whole : IsReading IsExpr (EndsElement closing) ts i room read.tree read.depth read.to = record { derived = reading.derived; shallow = reading.shallow; stops = ends.0 h.0; within = reading.within } in
    subst (λ (x : Read Expr). IsReading IsExpr (EndsElement closing) ts i room x.tree x.depth x.to) (sym h.1) whole
element_kept {closing} {ts} {i} {room} read may_end closes reading ends (Err (unread.Stuck k)) h = subst (IsStuck IsExpr (EndsElement closing) ts i room) (sym h.1) (element_stuck closes reading (denied ends h.0))
element_kept read may_end closes reading ends (Err (unread.TooDeep k)) h = absurd h.1
element_kept read may_end closes reading ends (Err unread.NoMemory) h = absurd h.1

-- Entries

entry_last : {us : List Terminal} {k d j : ℕ} {e : Entry} → IsEntry us k e d j → AreEntries us k (e ∷ []) d j
entry_last {us} {k} {d} {j} {e} x =
    let one : AreEntries us k (entry x.key x.value ∷ []) (max x.key_depth x.value_depth) j = AreEntries.last_entry x.key_read x.separated x.value_read in
    subst (λ c. AreEntries us k (e ∷ []) c j) (sym x.nests) (subst (λ t. AreEntries us k (t ∷ []) (max x.key_depth x.value_depth) j) (sym x.tree) one)

entry_more : {us : List Terminal} {k l a b j : ℕ} {e : Entry} {es : List Entry} → IsEntry us k e a l → IsOperator us l sign.Comma → AreEntries us (suc l) es b j
    → AreEntries us k (e ∷ es) (max a b) j
entry_more {us} {k} {b = b} {j} {e} {es} x comma others =
    subst (λ c. AreEntries us k (e ∷ es) (max c b) j) (sym x.nests)
    (subst (λ t. AreEntries us k (t ∷ es) (max (max x.key_depth x.value_depth) b) j) (sym x.tree) (AreEntries.more_entries x.key_read x.separated x.value_read comma others))

pub entry_made : {us : List Terminal} {k l a b j : ℕ} {key value : Expr} → IsExpr us k key a l → IsOperator us l sign.Colon → IsExpr us (suc l) value b j
    → IsEntry us k (entry key value) (max a b) j
entry_made {l = l} {a} {b} {key = key} {value} p colon q = record {
  key = key;
  value = value;
  key_depth = a;
  value_depth = b;
  colon = l;
  key_read = p;
  separated = colon;
  value_read = q;
  tree = refl;
  nests = refl;
}

entries_cases : {us : List Terminal} {k c j : ℕ} {es : List Entry} → AreEntries us k es c j → ElementsCase IsEntry AreEntries us k es c j
entries_cases (AreEntries.last_entry p colon q) = ElementsCase.last _ (entry_made p colon q) refl
entries_cases (AreEntries.more_entries p colon q comma others) = ElementsCase.more _ _ _ _ _ (entry_made p colon q) comma others refl refl

colon_past : {ts : List Terminal} {j : ℕ} → IsOperator ts j sign.Colon → Past 26 ts j
colon_past colon = sign_stops sign.Colon colon (omega arith) (omega arith)

brace_closes : IsClosing sign.CloseBrace
brace_closes = (omega arith, omega arith)

entry_only : {us : List Terminal} {i d j : ℕ} {e : Entry} → IsEntry us i e d j → IsOnly (IsEntry us i) (EndsElement sign.CloseBrace us) e d j
entry_only {us} x s f c k y t =
    let keys = expr_only x.key_read (colon_past x.separated) _ _ _ y.key_read (colon_past y.separated) in
    let later = subst (λ n. IsExpr us (suc n) y.value y.value_depth k) (sym keys.end) y.value_read in
    let values = expr_only x.value_read (ends_past brace_closes s) _ _ _ later (ends_past brace_closes t) in
    record { tree = x.tree ∙ ap₂ entry keys.tree values.tree ∙ sym y.tree; depth = x.nests ∙ ap₂ max keys.depth values.depth ∙ sym y.nests; end = values.end }

entry_carried : {ts us : List Terminal} (n : ℕ) {i d j : ℕ} {e : Entry} → Agree n us ts → IsEntry ts i e d j → (i < j) × (j ≤ n → IsEntry us i e d j)
entry_carried n agree x =
    let first = expr_carried n agree x.key_read in
    let second = expr_carried n agree x.value_read in (
      omega (arith, first.0, second.0),
      λ le. record {
        key = x.key;
        value = x.value;
        key_depth = x.key_depth;
        value_depth = x.value_depth;
        colon = x.colon;
        key_read = first.1 (omega (arith, second.0, le));
        separated = kind_carried x.separated (omega (arith, second.0, le)) agree;
        value_read = second.1 le;
        tree = x.tree;
        nests = x.nests;
      },
    )

pub entry_elements : IsElements IsEntry sign.CloseBrace AreEntries
entry_elements = record {
  last = entry_last;
  more = entry_more;
  cases = entries_cases;
  only = entry_only;
  carried = entry_carried;
  open_ = λ es h. omega (arith, entries_begin es, code_here h);
  apart = no_comma sign.CloseBrace brace_closes;
}

abbrev some_colon : Terminal
some_colon = record { kind = kind.Operator sign.Colon; at = record { line = 1; column = 1 }; spelling = [] }

-- behind a key a colon and a name make an entry
with_value : {us : List Terminal} {i d : ℕ} {e : Expr} → IsExpr us i e d (length us) → (made : Made IsEntry us i) × (made.depth ≡ d)
with_value {us} {i} {d} {e} p =
    let front : List Terminal = us ++ some_colon ∷ [] in
    let all : List Terminal = front ++ some_name ∷ [] in
    let long : length front ≡ suc (length us) = omega (arith, length-append us (some_colon ∷ [])) in
    let longer : length all ≡ suc (length front) = omega (arith, length-append front (some_name ∷ [])) in
    let agree : Agree (length us) all us = agree_through all front us (agree_carried all front (agree_append front (some_name ∷ [])) (omega (arith, long))) (agree_append us (some_colon ∷ [])) in
    let colon : IsOperator front (length us) sign.Colon = record { token = some_colon; stands = stands_behind us some_colon; kind = refl } in
    let fresh = fresh_expr front in
    let value : IsExpr all (suc (length us)) fresh.0 0 (length all) =
    subst (λ n. IsExpr all (suc (length us)) fresh.0 0 n) (sym longer) (subst (λ n. IsExpr all n fresh.0 0 (suc (length front))) long fresh.1) in
    let colon_there : IsOperator all (length us) sign.Colon = kind_carried colon (omega (arith, long)) (agree_append front (some_name ∷ [])) in
    let same : max d 0 ≡ d = omega arith in (
      record {
        tokens = all;
        same = agree;
        long = omega (arith, long, longer);
        tree = entry e fresh.0;
        depth = d;
        derived = subst (λ c. IsEntry all i (entry e fresh.0) c (length all)) same (entry_made ((expr_carried (length us) agree p).1 (omega arith)) colon_there value);
      },
      omega arith,
    )

pub key_step : (ts : List Terminal) (i room : ℕ) → Step IsExpr (Past 26) IsEntry (EndsElement sign.CloseBrace) ts i i room room
key_step ts i room = record {
  forward = omega arith;
  make = λ us agree long e d x. let made = with_value x in (made.0, λ le. omega (arith, le, made.1));
  split = λ us agree f c j whole stop.
      (record { tree = whole.key; depth = whole.key_depth; end = whole.colon; derived = whole.key_read; stops = colon_past whole.separated }, λ lt. omega (arith, lt, whole.nests));
}

pub colon_stuck : {ts : List Terminal} {i room d j : ℕ} {e : Expr} → IsReading IsExpr (Past 26) ts i room e d j → (IsOperator ts j sign.Colon → ⊥)
    → IsStuck IsEntry (EndsElement sign.CloseBrace) ts i room j
colon_stuck {ts} {i} {room} {j = j} reading none = record {
  forward = omega (arith, expr_forward reading.derived);
  within = reading.within;
  reached = reached_made (key_step ts i room) (omega (arith, expr_forward reading.derived)) (expr_reached reading);
  none = λ us agree f c k x s.
      let end = same_end reading agree x.key_read (colon_past x.separated) in
      none (kind_carried (subst (λ n. IsOperator us n sign.Colon) (sym end) x.separated) (omega arith) (agree_back us ts agree));
}

pub value_step : {ts : List Terminal} {i room d j : ℕ} {e : Expr} → IsReading IsExpr (Past 26) ts i room e d j → IsOperator ts j sign.Colon
    → Step IsExpr (EndsElement sign.CloseBrace) IsEntry (EndsElement sign.CloseBrace) ts i (suc j) room room
value_step {ts} {d = d} {j} {e} reading colon = record {
  forward = omega (arith, expr_forward reading.derived);
  make = λ us agree long f c x. (
    record {
      tokens = us;
      same = agree_same us;
      long = omega arith;
      tree = entry e f;
      depth = max d c;
      derived = entry_made ((expr_carried (suc j) agree reading.derived).1 (omega arith)) (kind_carried colon (omega arith) agree) x;
    },
    λ le. omega (arith, le, reading.shallow),
  );
  split = λ us agree f c k x s.
      let end = same_end reading (agree_carried us ts agree (omega arith)) x.key_read (colon_past x.separated) in
      let value = subst (λ n. IsExpr us (suc n) x.value x.value_depth k) (sym end) x.value_read in
      (record { tree = x.value; depth = x.value_depth; end = k; derived = value; stops = s }, λ lt. omega (arith, lt, x.nests));
}

pub colon_refused : {ts : List Terminal} {i room d j : ℕ} {e : Expr} → IsReading IsExpr (Past 26) ts i room e d j → (u : Unread) → IsBehind ts j sign.Colon (Err u)
    → IsUnread IsEntry (EndsElement sign.CloseBrace) ts i room u
colon_refused {ts} {i} {room} reading (unread.Stuck k) refused = subst (λ n. IsStuck IsEntry (EndsElement sign.CloseBrace) ts i room n) (sym refused.0) (colon_stuck reading refused.1)
colon_refused reading (unread.TooDeep k) refused = absurd refused.0
colon_refused reading unread.NoMemory refused = absurd refused.0

pub value_refused : {ts : List Terminal} {i room d j n : ℕ} {e : Expr} → IsReading IsExpr (Past 26) ts i room e d j → IsBehind ts j sign.Colon (Ok n) → (u : Unread)
    → IsUnread IsExpr (EndsElement sign.CloseBrace) ts n room u → IsUnread IsEntry (EndsElement sign.CloseBrace) ts i room u
value_refused {ts} {room = room} reading behind u refused =
    fails (value_step reading behind.1) u (subst (λ m. IsUnread IsExpr (EndsElement sign.CloseBrace) ts m room u) behind.0 refused)

pub entry_read : {ts : List Terminal} {i room a k b j n d : ℕ} {key value : Expr} → IsReading IsExpr (Past 26) ts i room key a k → IsBehind ts k sign.Colon (Ok n)
    → IsReading IsExpr (EndsElement sign.CloseBrace) ts n room value b j → d ≡ max a b → IsReading IsEntry (EndsElement sign.CloseBrace) ts i room (entry key value) d j
entry_read {ts} {i} {room} {a} {k} {b} {j} {n} {d} {key} {value} first behind second same =
    let later : IsExpr ts (suc k) value b j = subst (λ m. IsExpr ts m value b j) behind.0 second.derived in
    record {
      derived = subst (λ c. IsEntry ts i (entry key value) c j) (sym same) (entry_made first.derived behind.1 later);
      shallow = omega (arith, same, first.shallow, second.shallow);
      stops = second.stops;
      within = second.within;
    }
