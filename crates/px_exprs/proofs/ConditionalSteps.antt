-- How a conditional is read: its value, and behind it `if`, the test, `else` and the other value.
use Rattle.std.proofs.Common.{◌≡◌, ℕ, suc, max, ◌+◌, ◌≤◌, ◌<◌, ◌++◌, length, take, List, [], ◌∷◌, refl, sym, subst, arith}
use Rattle.std.proofs.lemmas.List.{length-append, length-take-le}
use Rattle.px_base.specs.declared.refusals.Span.{Span}
use Rattle.px_lexer.specs.declared.spelling.Keyword.TheVariants as word
use Rattle.px_lexer.specs.declared.token_list.TokenKind.TheVariants as kind
use Rattle.px_tree.specs.declared.expressions.Expr.{Expr}
use Rattle.px_tree.specs.declared.expressions.ExprForm.{ExprForm}
use Rattle.px_tree.specs.declared.expressions.ExprForm.TheVariants as form
use Rattle.px_exprs.specs.declared.readings.Unread.{Unread}
use Rattle.px_exprs.specs.declared.readings.Unread.TheVariants as unread
use Rattle.px_lexer.specs.Terminals.{Terminal, IsKeyword, IsAt}
use Rattle.px_exprs.specs.Codes.{Past}
use Rattle.px_exprs.specs.Grammar.{node, IsExpr, IsOr}
use Rattle.px_exprs.specs.Parts.{IsAlternative}
use Rattle.px_exprs.specs.Words.{IsTooDeepAt}
use Rattle.px_exprs.specs.Readings.{Agree, IsReached, IsStuck, IsUnread, IsReading}
use Rattle.px_exprs.proofs.Agreement.{agree_same, agree_back, agree_through, agree_carried, agree_append, agree_front, kind_carried}
use Rattle.px_exprs.proofs.Codes.{code_here}
use Rattle.px_exprs.proofs.Beginnings.{or_begins}
use Rattle.px_exprs.proofs.Keeping.{or_carried}
use Rattle.px_exprs.proofs.Stops.{past_carried, if_goes_on, if_stops, else_stops}
use Rattle.px_exprs.proofs.Uniqueness.{or_only}
use Rattle.px_exprs.proofs.Fresh.{some_name, stands_behind, fresh_expr, way_or}
use Rattle.px_exprs.proofs.Steps.{Made, Step, fails, step_twice, way_made, reached_made}
use Rattle.px_exprs.proofs.Tailed.{TailedCase, IsTailed}
use Rattle.px_exprs.proofs.JunctionSteps.{place_coded, left_step, left_over}

-- the word `else`
abbrev else_word : Terminal
else_word = record { kind = kind.Keyword word.Else; at = record { line = 1; column = 1 }; spelling = [] }

-- A value with an alternative behind it

with_alternative : {us : List Terminal} {i a k b j : ℕ} {e : Expr} {t : Expr × Expr} → IsOr us i e a k → IsAlternative us k t b j → (f : Expr) × IsExpr us i f (1 + max a b) j
with_alternative {us} {i} {a} {k} {b} {j} {e} {t} p q =
    let at = place_coded us i (omega (arith, or_begins p)) in
    let n : suc (max a (max q.test_depth q.other_depth)) ≡ 1 + max a b = omega (arith, q.nests) in
    let whole : Expr = node k at.0 (form.Conditional e t.0 t.1) in
    (whole, subst (λ d. IsExpr us i whole d j) n (IsExpr.conditional at.1 p q.condition q.test q.denial q.other refl))

expr_cases : {us : List Terminal} {i c j : ℕ} {f : Expr} → IsExpr us i f c j → TailedCase IsOr IsAlternative 1 us i f c j
expr_cases (IsExpr.plain p) = TailedCase.alone p
expr_cases (IsExpr.conditional {l = l} {b = b} {c = c} {test = test} {otherwise = otherwise} at p condition q denial r e) =
    TailedCase.tailed _ _ _ (test, otherwise) (max b c) p (record { otherwise = l; test_depth = b; other_depth = c; condition = condition; test = q; denial = denial; other = r; nests = refl }) (omega arith)

pub expr_tailed : IsTailed IsOr (Past 25) IsAlternative IsExpr (Past 26) 1
expr_tailed = record {
  alone = IsExpr.plain;
  tailed = with_alternative;
  cases = expr_cases;
  only = λ p. or_only p;
  carried = λ n agree p. or_carried n agree p;
  local = λ agree s. past_carried _ _ _ agree s;
  stops = λ s. omega (arith, s);
  tail_stops = λ t. if_stops t.condition;
}

-- The test

-- a test goes on with `else` and a name
tested : (us : List Terminal) (k d : ℕ) (e : Expr) → IsKeyword us k word.If → k < length us → IsOr us (suc k) e d (length us) → Made IsAlternative us k
tested us k d e h lt p =
    let behind : List Terminal = us ++ else_word ∷ [] in
    let tokens : List Terminal = behind ++ some_name ∷ [] in
    let long : length behind ≡ suc (length us) = omega (arith, length-append us (else_word ∷ [])) in
    let longer : length tokens ≡ suc (suc (length us)) = omega (arith, length-append behind (some_name ∷ []), long) in
    let near : Agree (length us) behind us = agree_append us (else_word ∷ []) in
    let far : Agree (length behind) tokens behind = agree_append behind (some_name ∷ []) in
    let same : Agree (length us) tokens us = agree_through tokens behind us (agree_carried tokens behind far (omega (arith, long))) near in
    let denial : IsKeyword behind (length us) word.Else = record { token = else_word; stands = stands_behind us else_word; kind = refl } in
    let name = fresh_expr behind in
    let other : IsExpr tokens (suc (length us)) name.0 0 (length tokens) =
    subst (λ n. IsExpr tokens (suc (length us)) name.0 0 n) (sym longer) (subst (λ n. IsExpr tokens n name.0 0 (suc n)) long name.1) in
    record {
      tokens = tokens;
      same = same;
      long = omega (arith, longer);
      tree = (e, name.0);
      depth = d;
      derived = record {
        otherwise = length us;
        test_depth = d;
        other_depth = 0;
        condition = kind_carried h lt same;
        test = (or_carried {us = tokens} (length us) same p).1 (omega arith);
        denial = kind_carried denial (omega (arith, long)) far;
        other = other;
        nests = omega arith;
      };
    }

pub test_step : {ts : List Terminal} {k : ℕ} (room : ℕ) → IsKeyword ts k word.If → Step IsOr (Past 25) IsAlternative (Past 26) ts k (suc k) room room
unfolding tested
test_step {k = k} room h = record {
  forward = omega arith;
  make = λ us agree long e d x. (tested us k d e (kind_carried h (omega arith) agree) (omega (arith, long)) x, λ le. le);
  split = λ us agree f c j whole stop.
      let s = else_stops whole.denial in
      (record { tree = f.0; depth = whole.test_depth; end = whole.otherwise; derived = whole.test; stops = omega (arith, s) }, λ lt. omega (arith, lt, whole.nests));
}

or_reached : {ts : List Terminal} {i room d j : ℕ} {e : Expr} → IsReading IsOr (Past 25) ts i room e d j → IsReached IsOr ts i j room
or_reached {ts} {i} {room} {d} {j} {e} reading =
    let cut : IsOr (take j ts) i e d j = (or_carried {us = take j ts} j (agree_front j ts) reading.derived).1 (omega arith) in
    let long : length (take j ts) ≡ j = length-take-le j ts (omega (arith, reading.within)) in
    IsReached.reached (record {
      way = record {
        tokens = take j ts;
        same = agree_front j ts;
        long = omega (arith, long);
        tree = e;
        depth = d;
        derived = subst (λ n. IsOr (take j ts) i e d n) (sym long) cut;
      };
      shallow = reading.shallow;
    })

pub or_forward : {ts : List Terminal} {i room d j : ℕ} {e : Expr} → IsReading IsOr (Past 25) ts i room e d j → i < j
or_forward {ts} {j = j} reading = (or_carried {us = ts} j (agree_same ts) reading.derived).0

-- over tokens that agree the same test is read
same_test : {ts us : List Terminal} {k room d l c j : ℕ} {e : Expr} {f : Expr × Expr} → IsReading IsOr (Past 25) ts (suc k) room e d l → Agree (suc l) us ts → (whole : IsAlternative us k f c j) → l ≡ whole.otherwise
same_test {ts} {us} {l = l} reading agree whole =
    let s = else_stops whole.denial in
    (or_only ((or_carried {us = us} (suc l) agree reading.derived).1 (omega arith)) (past_carried ts us l agree reading.stops) _ _ _ whole.test (omega (arith, s))).end

-- without `else` behind the test
else_stuck : {ts : List Terminal} {k room d l : ℕ} {e : Expr} → IsKeyword ts k word.If → IsReading IsOr (Past 25) ts (suc k) room e d l → (IsKeyword ts l word.Else → ⊥) → IsStuck IsAlternative (Past 26) ts k room l
else_stuck {ts} {k} {room} {l = l} h reading none = record {
  forward = omega (arith, or_forward reading);
  within = reading.within;
  reached = reached_made (test_step room h) (omega (arith, or_forward reading)) (or_reached reading);
  none = λ us agree f c j whole stop.
      let end = same_test reading agree whole in
      none (kind_carried (subst (λ n. IsKeyword us n word.Else) (sym end) whole.denial) (omega arith) (agree_back us ts agree));
}

-- The other value

other_step : {ts : List Terminal} {k room d l : ℕ} {e : Expr} → IsKeyword ts k word.If → IsReading IsOr (Past 25) ts (suc k) room e d l → IsKeyword ts l word.Else → Step IsExpr (Past 26) IsAlternative (Past 26) ts k (suc l) room room
other_step {ts} {k} {room} {d} {l} {e} h reading g = record {
  forward = omega (arith, or_forward reading);
  make = λ us agree long f c x. (
    record {
      tokens = us;
      same = agree_same us;
      long = omega arith;
      tree = (e, f);
      depth = max d c;
      derived = record {
        otherwise = l;
        test_depth = d;
        other_depth = c;
        condition = kind_carried h (omega (arith, or_forward reading)) agree;
        test = (or_carried {us = us} (suc l) agree reading.derived).1 (omega arith);
        denial = kind_carried g (omega arith) agree;
        other = x;
        nests = refl;
      };
    },
    λ le. omega (arith, le, reading.shallow),
  );
  split = λ us agree f c j whole stop.
      let end = same_test reading (agree_carried us ts agree (omega arith)) whole in (
        record { tree = f.1; depth = whole.other_depth; end = j; derived = subst (λ n. IsExpr us (suc n) f.1 whole.other_depth j) (sym end) whole.other; stops = stop },
        λ lt. omega (arith, lt, whole.nests),
      );
}

-- What the function answers

if_ends : {ts : List Terminal} {k : ℕ} → IsKeyword ts k word.If → (us : List Terminal) → Agree (suc k) us ts → Past 26 us k → ⊥
if_ends h us agree stop = if_goes_on (kind_carried h (omega arith) agree) stop

alternative_left : {ts : List Terminal} {i room left a k : ℕ} {e : Expr} → IsReading IsOr (Past 25) ts i room e a k → IsKeyword ts k word.If → (a < room) × (room ≡ suc left)
    → Step IsAlternative (Past 26) IsExpr (Past 26) ts i k left room
alternative_left reading h inside = left_step expr_tailed reading inside (if_ends h)

pub alternative_over : {ts : List Terminal} {i room a k : ℕ} {e : Expr} → IsReading IsOr (Past 25) ts i room e a k → IsKeyword ts k word.If → (u : Unread) → IsTooDeepAt k u × (room ≤ a) → IsUnread IsExpr (Past 26) ts i room u
alternative_over {ts} {k = k} reading h u deep =
    let way = (way_or ts (suc k) 0 (omega (arith, reading.within))).way in
    left_over expr_tailed reading (if_ends h) (λ other. omega (arith, code_here h, code_here other)) (way_made (test_step 0 h) (omega arith) way) u deep

pub test_refused : {ts : List Terminal} {i room left a k : ℕ} {e : Expr} → IsReading IsOr (Past 25) ts i room e a k → IsKeyword ts k word.If → (a < room) × (room ≡ suc left) → (u : Unread)
    → IsUnread IsOr (Past 25) ts (k + 1) left u → IsUnread IsExpr (Past 26) ts i room u
test_refused {ts} {left = left} {k = k} reading h inside u refused =
    let n : k + 1 ≡ suc k = omega arith in
    fails (step_twice (test_step left h) (alternative_left reading h inside)) u (subst (λ m. IsUnread IsOr (Past 25) ts m left u) n refused)

test_at : {ts : List Terminal} {left k d l : ℕ} {e : Expr} → IsReading IsOr (Past 25) ts (k + 1) left e d l → IsReading IsOr (Past 25) ts (suc k) left e d l
test_at {ts} {left} {k} {d} {l} {e} reading = let n : k + 1 ≡ suc k = omega arith in subst (λ m. IsReading IsOr (Past 25) ts m left e d l) n reading

pub else_missing : {ts : List Terminal} {i room left a k d l : ℕ} {e f : Expr} → IsReading IsOr (Past 25) ts i room e a k → IsKeyword ts k word.If → (a < room) × (room ≡ suc left) → IsReading IsOr (Past 25) ts (k + 1) left f d l
    → (IsKeyword ts l word.Else → ⊥) → IsStuck IsExpr (Past 26) ts i room l
else_missing {l = l} reading h inside test none = fails (alternative_left reading h inside) (unread.Stuck l) (else_stuck h (test_at test) none)

pub other_refused : {ts : List Terminal} {i room left a k d l : ℕ} {e f : Expr} → IsReading IsOr (Past 25) ts i room e a k → IsKeyword ts k word.If → (a < room) × (room ≡ suc left) → IsReading IsOr (Past 25) ts (k + 1) left f d l
    → IsKeyword ts l word.Else → (u : Unread) → IsUnread IsExpr (Past 26) ts (l + 1) left u → IsUnread IsExpr (Past 26) ts i room u
other_refused {ts} {left = left} {l = l} reading h inside test g u refused =
    let n : l + 1 ≡ suc l = omega arith in
    fails (step_twice (other_step h (test_at test) g) (alternative_left reading h inside)) u (subst (λ m. IsUnread IsExpr (Past 26) ts m left u) n refused)

pub conditional_read : {ts : List Terminal} {i room left a k b l c j m n : ℕ} {at : Span} {value test other e : Expr} {made : ExprForm} → IsReading IsOr (Past 25) ts i room value a k → IsKeyword ts k word.If
    → (a < room) × (room ≡ suc left) → IsReading IsOr (Past 25) ts (k + 1) left test b l → IsKeyword ts l word.Else → IsReading IsExpr (Past 26) ts (l + 1) left other c j → made ≡ form.Conditional value test other
    → IsAt ts i at → e ≡ node k at made → n ≡ max b c → m ≡ max a n → IsReading IsExpr (Past 26) ts i room e (m + 1) j
conditional_read {ts} {i} {a = a} {k} {b} {l} {c} {j} {m} {n} {at = at} {value} {test} {other} {e = e} reading h inside tested g otherwise same placed tree greater greatest =
    let next : l + 1 ≡ suc l = omega arith in
    let deep : m + 1 ≡ suc (max a (max b c)) = omega (arith, greater, greatest) in
    let last : IsExpr ts (suc l) other c j = subst (λ x. IsExpr ts x other c j) next otherwise.derived in
    let whole : e ≡ node k at (form.Conditional value test other) = cc in
    record {
      derived = subst (λ x. IsExpr ts i e x j) (sym deep) (IsExpr.conditional placed reading.derived h (test_at tested).derived g last whole);
      shallow = omega (arith, deep, inside.0, inside.1, tested.shallow, otherwise.shallow);
      stops = otherwise.stops;
      within = otherwise.within;
    }
