-- Comparisons and their operands.
use Rattle.std.proofs.Common.{◌≡◌, ◌∙◌, ℕ, suc, max, ◌+◌, ◌<◌, ◌≤◌, ◌++◌, length, take, List, [], ◌∷◌, refl, sym, ap, ap₂, subst, arith}
use Rattle.std.proofs.lemmas.List.{length-take-le}
use Rattle.std.specs.Ordering.{nat_cmp, ord_max}
use Rattle.px_base.specs.declared.refusals.Span.{Span}
use Rattle.px_lexer.specs.declared.spelling.Keyword.TheVariants as word
use Rattle.px_lexer.specs.declared.token_list.Tokens.{Tokens}
use Rattle.px_lexer.specs.declared.token_list.TokenKind.TheVariants as kind
use Rattle.px_tree.specs.declared.expressions.CompareOp.{CompareOp}
use Rattle.px_tree.specs.declared.expressions.CompareOp.TheVariants as compare
use Rattle.px_tree.specs.declared.expressions.Comparison.{Comparison}
use Rattle.px_tree.specs.declared.expressions.Expr.{Expr}
use Rattle.px_tree.specs.declared.expressions.ExprForm.TheVariants as form
use Rattle.px_exprs.specs.declared.readings.Unread.{Unread}
use Rattle.px_lexer.specs.Terminals.{Terminal, IsKeyword, IsAt, terminals_of}
use Rattle.px_exprs.specs.Codes.{code_at, Past}
use Rattle.px_exprs.specs.Grammar.{binary_levels, IsCompareOp, comparison, node, IsBinary, IsCompare, AreComparisons}
use Rattle.px_exprs.specs.Inputs.{IsInput}
use Rattle.px_exprs.specs.Lists.{Ran}
use Rattle.px_exprs.specs.Parts.{BeginsComparison, IsComparison, IsNotBehind}
use Rattle.px_exprs.specs.Readings.{Agree, HasWay, HasShallow, IsReached, IsUnread, IsReading}
use Rattle.px_exprs.specs.Words.{IsTooDeepAt}
use Rattle.px_exprs.proofs.Agreement.{agree_same, agree_back, agree_carried, agree_through, agree_front}
use Rattle.px_exprs.proofs.Beginnings.{binary_begins}
use Rattle.px_exprs.proofs.ChainLaws.{ChainCase, IsChain, ran_on, ran_whole, chain_step}
use Rattle.px_exprs.proofs.Codes.{code_here}
use Rattle.px_exprs.proofs.Fresh.{some_name, way_operand}
use Rattle.px_exprs.proofs.JunctionSteps.{place_coded, left_step, left_over, IsRun, ord_max-max}
use Rattle.px_exprs.proofs.Keeping.{kind_carried, comparison_carried, binary_carried}
use Rattle.px_exprs.proofs.Only.{IsOnly}
use Rattle.px_exprs.proofs.OperatorLaws.{compare_op_unique}
use Rattle.px_exprs.proofs.Steps.{Part, Step, fails, step_twice}
use Rattle.px_exprs.proofs.Stops.{past_carried, past_from, stop_high, comparison_stops, comparisons_stop, comparison_goes_on, past_comparison}
use Rattle.px_exprs.proofs.Tables.{compare_code, are_levels}
use Rattle.px_exprs.proofs.Tailed.{TailedCase, IsTailed, first_step, read_alone}
use Rattle.px_exprs.proofs.UnarySteps.{added}
use Rattle.px_exprs.proofs.Uniqueness.{binary_only, operand_only}

-- The first token of a comparison

pub begins_code : {ts : List Terminal} {k : ℕ} → BeginsComparison ts k → (18 ≤ code_at ts k) × (code_at ts k ≤ 22)
begins_code (BeginsComparison.by_sign o) = let code = compare_code o in (omega (arith, code), omega (arith, code))
begins_code (BeginsComparison.by_in h) = (omega (arith, code_here h), omega (arith, code_here h))
begins_code (BeginsComparison.by_not h) = (omega (arith, code_here h), omega (arith, code_here h))
begins_code (BeginsComparison.by_is h) = (omega (arith, code_here h), omega (arith, code_here h))

-- a comparison has a token behind it
pub begins_inside : (tokens : Tokens) (k : ℕ) → IsInput tokens → BeginsComparison (terminals_of tokens) k → suc k < length tokens.list
begins_inside tokens k input begins = input.ends k (omega (arith, begins_code begins))

pub begins_stops : {ts : List Terminal} {k : ℕ} → BeginsComparison ts k → Past 18 ts k
begins_stops {ts} {k} begins = past_from ts k (begins_code begins).0

-- it goes on with the comparisons, over all tokens that agree with these up to it
pub begins_goes_on : {ts : List Terminal} {k : ℕ} → BeginsComparison ts k → (us : List Terminal) → Agree (suc k) us ts → Past 23 us k → ⊥
begins_goes_on {ts} {k} begins us agree past =
    let code = begins_code begins in
    let here : Past 23 ts k = past_carried us ts k (agree_back us ts agree) past in
    omega (arith, code, stop_high ts k (omega (arith, code)), here)

pub past_comparisons : {ts : List Terminal} {k : ℕ} → Past 18 ts k → (BeginsComparison ts k → ⊥) → Past 23 ts k
past_comparisons past none =
    past_comparison past (λ m o. none (BeginsComparison.by_sign o)) (λ h. none (BeginsComparison.by_in h)) (λ h. none (BeginsComparison.by_not h)) (λ h. none (BeginsComparison.by_is h))

-- An operand, alone or with comparisons

compare_cases : {us : List Terminal} {i c j : ℕ} {f : Expr} → IsCompare us i f c j → TailedCase (λ ts. IsBinary ts binary_levels) AreComparisons 1 us i f c j
compare_cases (IsCompare.one_operand p) = TailedCase.alone p
compare_cases (IsCompare.compare_chain at p others e) = TailedCase.tailed _ _ _ _ _ p others (omega arith)

compare_made : {us : List Terminal} {i a k b j : ℕ} {e : Expr} {others : List Comparison} → IsBinary us binary_levels i e a k → AreComparisons us k others b j → (f : Expr) × IsCompare us i f (1 + max a b) j
compare_made {us} {i} {a} {k} {b} {j} {e} {others} p q =
    let place = place_coded us i (omega (arith, binary_begins p)) in
    let n : suc (max a b) ≡ 1 + max a b = omega arith in
    let f = node k place.0 (form.Compare e others) in
    (f, subst (λ d. IsCompare us i f d j) n (IsCompare.compare_chain place.1 p q refl))

pub compare_tailed : IsTailed (λ ts. IsBinary ts binary_levels) (Past 18) AreComparisons IsCompare (Past 23) 1
compare_tailed = record {
  alone = λ x. IsCompare.one_operand x;
  tailed = λ x t. compare_made x t;
  cases = λ y. compare_cases y;
  only = λ x. operand_only (binary_only are_levels x);
  carried = λ n agree x. binary_carried n agree x;
  local = λ {ts} {us} {j} agree past. past_carried ts us j agree past;
  stops = λ past. omega (arith, past);
  tail_stops = λ others. (comparisons_stop others).0;
}

-- Comparisons

comparison_cases : {us : List Terminal} {k c j : ℕ} {cs : List Comparison} → AreComparisons us k cs c j → ChainCase IsComparison AreComparisons us k cs c j
comparison_cases (AreComparisons.last_comparison {meant = meant} {e = e} o p) = ChainCase.one (comparison meant e) (record { meant = meant; behind = _; operand = e; sign = o; read = p; tree = refl }) refl
comparison_cases (AreComparisons.more_comparisons {meant = meant} {e = e} o p others) =
    ChainCase.more (comparison meant e) _ _ _ _ (record { meant = meant; behind = _; operand = e; sign = o; read = p; tree = refl }) others refl refl

comparison_only : {us : List Terminal} {i d j : ℕ} {t : Comparison} → IsComparison us i t d j → IsOnly (IsComparison us i) (Past 18 us) t d j
comparison_only {us} x s f c k y r =
    let sign = compare_op_unique x.sign y.sign (binary_begins x.read) (binary_begins y.read) in
    let same = operand_only (binary_only are_levels x.read) s y.operand c k (subst (λ n. IsBinary us binary_levels n y.operand c k) (sym sign.1) y.read) r in
    record { tree = x.tree ∙ ap₂ comparison sign.0 same.tree ∙ sym y.tree; depth = same.depth; end = same.end }

comparison_kept : {ts us : List Terminal} (n : ℕ) {i d j : ℕ} {t : Comparison} → Agree n us ts → IsComparison ts i t d j → (i < j) × (j ≤ n → IsComparison us i t d j)
comparison_kept {us = us} n agree x =
    let sign = comparison_carried {us = us} n agree x.sign in
    let read = binary_carried {us = us} n agree x.read in (
      omega (arith, sign.0, read.0),
      λ le. record { meant = x.meant; behind = x.behind; operand = x.operand; sign = sign.1 (omega (arith, read.0, le)); read = read.1 le; tree = x.tree },
    )

pub comparison_chain : IsChain IsComparison (Past 18) AreComparisons (Past 23)
comparison_chain = record {
  one = λ {us} {k} {d} {j} {t} x. subst (λ l. AreComparisons us k (l ∷ []) d j) (sym x.tree) (AreComparisons.last_comparison x.sign x.read);
  more = λ {us} {k} {l} {a} {b} {j} {t} {rest} x others. subst (λ l. AreComparisons us k (l ∷ rest) (max a b) j) (sym x.tree) (AreComparisons.more_comparisons x.sign x.read others);
  cases = λ others. comparison_cases others;
  only = λ x. comparison_only x;
  carried = λ n agree x. comparison_kept n agree x;
  local = λ {ts} {us} {j} agree past. past_carried ts us j agree past;
  stops = λ past. omega (arith, past);
  starts = λ x. comparison_stops x.sign;
  ends = λ past x. comparison_goes_on x.sign past;
}

-- the longest comparison here, before an operand, is the only one
longest_end : {ts : List Terminal} {k l m : ℕ} {meant other : CompareOp} → IsCompareOp ts k meant l → (meant ≡ compare.Is → IsKeyword ts (suc k) word.Not → ⊥) → IsCompareOp ts k other m → code_at ts m ≤ 18 → l ≡ m
longest_end {ts} {k} (IsCompareOp.is_ h m e) longest (IsCompareOp.is_not g j n f) t = absurd (longest m j)
longest_end (IsCompareOp.is_ h m e) longest (IsCompareOp.is_ g n f) t = e ∙ sym f
longest_end (IsCompareOp.is_ h m e) longest (IsCompareOp.by_sign o f) t = absurd (omega (arith, code_here h, compare_code o))
longest_end (IsCompareOp.is_ h m e) longest (IsCompareOp.in_ g n f) t = absurd (omega (arith, code_here h, code_here g))
longest_end (IsCompareOp.is_ h m e) longest (IsCompareOp.not_in g j n f) t = absurd (omega (arith, code_here h, code_here g))
longest_end (IsCompareOp.by_sign o e) longest (IsCompareOp.by_sign p f) t = e ∙ sym f
longest_end (IsCompareOp.by_sign o e) longest (IsCompareOp.in_ g n f) t = absurd (omega (arith, compare_code o, code_here g))
longest_end (IsCompareOp.by_sign o e) longest (IsCompareOp.not_in g j n f) t = absurd (omega (arith, compare_code o, code_here g))
longest_end (IsCompareOp.by_sign o e) longest (IsCompareOp.is_ g n f) t = absurd (omega (arith, compare_code o, code_here g))
longest_end (IsCompareOp.by_sign o e) longest (IsCompareOp.is_not g j n f) t = absurd (omega (arith, compare_code o, code_here g))
longest_end (IsCompareOp.in_ h m e) longest (IsCompareOp.in_ g n f) t = e ∙ sym f
longest_end (IsCompareOp.in_ h m e) longest (IsCompareOp.by_sign o f) t = absurd (omega (arith, code_here h, compare_code o))
longest_end (IsCompareOp.in_ h m e) longest (IsCompareOp.not_in g j n f) t = absurd (omega (arith, code_here h, code_here g))
longest_end (IsCompareOp.in_ h m e) longest (IsCompareOp.is_ g n f) t = absurd (omega (arith, code_here h, code_here g))
longest_end (IsCompareOp.in_ h m e) longest (IsCompareOp.is_not g j n f) t = absurd (omega (arith, code_here h, code_here g))
longest_end (IsCompareOp.not_in h i m e) longest (IsCompareOp.not_in g j n f) t = e ∙ sym f
longest_end (IsCompareOp.not_in h i m e) longest (IsCompareOp.by_sign o f) t = absurd (omega (arith, code_here h, compare_code o))
longest_end (IsCompareOp.not_in h i m e) longest (IsCompareOp.in_ g n f) t = absurd (omega (arith, code_here h, code_here g))
longest_end (IsCompareOp.not_in h i m e) longest (IsCompareOp.is_ g n f) t = absurd (omega (arith, code_here h, code_here g))
longest_end (IsCompareOp.not_in h i m e) longest (IsCompareOp.is_not g j n f) t = absurd (omega (arith, code_here h, code_here g))
longest_end (IsCompareOp.is_not h i m e) longest (IsCompareOp.is_not g j n f) t = e ∙ sym f
longest_end {ts} (IsCompareOp.is_not h i m e) longest (IsCompareOp.is_ g n f) t = absurd (omega (arith, ap (code_at ts) f, t, code_here i))
longest_end (IsCompareOp.is_not h i m e) longest (IsCompareOp.by_sign o f) t = absurd (omega (arith, code_here h, compare_code o))
longest_end (IsCompareOp.is_not h i m e) longest (IsCompareOp.in_ g n f) t = absurd (omega (arith, code_here h, code_here g))
longest_end (IsCompareOp.is_not h i m e) longest (IsCompareOp.not_in g j n f) t = absurd (omega (arith, code_here h, code_here g))

comparison_split : {ts us : List Terminal} {k l c j : ℕ} {meant : CompareOp} {f : Comparison} (room : ℕ) → Agree (suc l) us ts → IsCompareOp ts k meant l → (meant ≡ compare.Is → IsKeyword ts (suc k) word.Not → ⊥)
    → IsComparison us k f c j → Past 18 us j → (part : Part (λ vs. IsBinary vs binary_levels) (Past 18) us l) × (room < part.depth → room < c)
comparison_split {ts} {us} {k} {l} {c} {j} {meant} room agree sign longest whole stop =
    let here = comparison_carried {us = us} (suc l) agree sign in
    let long : meant ≡ compare.Is → IsKeyword us (suc k) word.Not → ⊥ = λ same denial. longest same (kind_carried (suc l) (agree_back us ts agree) denial (omega (arith, here.0))) in
    let end = longest_end (here.1 (omega arith)) long whole.sign (binary_begins whole.read) in
    (record { tree = whole.operand; depth = c; end = j; derived = subst (λ n. IsBinary us binary_levels n whole.operand c j) (sym end) whole.read; stops = stop }, λ lt. lt)

-- the operand of a comparison is a part of it
pub comparison_step : {ts : List Terminal} {k l room : ℕ} {meant : CompareOp} → IsCompareOp ts k meant l → (meant ≡ compare.Is → IsKeyword ts (suc k) word.Not → ⊥)
    → Step (λ us. IsBinary us binary_levels) (Past 18) IsComparison (Past 18) ts k l room room
comparison_step {ts} {k} {l} {room} {meant} sign longest = record {
  forward = omega (arith, (comparison_carried {us = ts} l (agree_same ts) sign).0);
  make = λ us agree long e d x. (
    record {
      tokens = us;
      same = agree_same us;
      long = omega arith;
      tree = comparison meant e;
      depth = d;
      derived = record { meant = meant; behind = l; operand = e; sign = (comparison_carried l agree sign).1 (omega arith); read = x; tree = refl };
    },
    λ le. le,
  );
  split = λ us agree f c j whole stop. comparison_split room agree sign longest whole stop;
}

-- Ways on

in_word : Terminal
in_word = record { kind = kind.Keyword word.In; at = some_name.at; spelling = [] }

-- behind `not` come `in` and an operand
denied_way : {ts : List Terminal} {k : ℕ} (room : ℕ) → IsKeyword ts k word.Not → k < length ts → HasShallow IsComparison ts k (suc k) room
unfolding in_word
denied_way {ts} {k} room denial within =
    let long : length (take (suc k) ts) ≡ suc k = length-take-le (suc k) ts (omega (arith, within)) in
    let two = added (take (suc k) ts) in_word (suc k) long in
    let operand = way_operand two.tokens (suc (suc k)) room (omega (arith, two.long)) in
    let way = operand.way in
    let near : Agree (suc k) way.tokens two.tokens = agree_carried way.tokens two.tokens way.same (omega arith) in
    let same : Agree (suc k) way.tokens ts = agree_through way.tokens two.tokens ts near (agree_through two.tokens (take (suc k) ts) ts two.same (agree_front (suc k) ts)) in
    let second : IsKeyword way.tokens (suc k) word.In = kind_carried (suc (suc k)) way.same (record { token = in_word; stands = two.stands; kind = refl }) (omega arith) in
    record {
      way = record {
        tokens = way.tokens;
        same = same;
        long = omega (arith, way.long);
        tree = comparison compare.NotIn way.tree;
        depth = way.depth;
        derived = record {
          meant = compare.NotIn;
          behind = suc (suc k);
          operand = way.tree;
          sign = IsCompareOp.not_in (kind_carried (suc k) same denial (omega arith)) second refl refl;
          read = way.derived;
          tree = refl;
        };
      };
      shallow = operand.shallow;
    }

one_way : {ts : List Terminal} {k : ℕ} {meant : CompareOp} (room : ℕ) → ((us : List Terminal) → Agree (suc k) us ts → IsCompareOp us k meant (suc k)) → k < length ts → HasShallow IsComparison ts k (suc k) room
one_way {ts} {k} {meant} room sign within =
    let operand = way_operand ts (suc k) room (omega (arith, within)) in
    let way = operand.way in
    record {
      way = record {
        tokens = way.tokens;
        same = way.same;
        long = way.long;
        tree = comparison meant way.tree;
        depth = way.depth;
        derived = record { meant = meant; behind = suc k; operand = way.tree; sign = sign way.tokens way.same; read = way.derived; tree = refl };
      };
      shallow = operand.shallow;
    }

begins_way : {ts : List Terminal} {k : ℕ} (room : ℕ) → BeginsComparison ts k → k < length ts → HasShallow IsComparison ts k (suc k) room
begins_way {k = k} room (BeginsComparison.by_sign o) within = one_way room (λ us agree. (comparison_carried (suc k) agree (IsCompareOp.by_sign o refl)).1 (omega arith)) within
begins_way {k = k} room (BeginsComparison.by_in h) within = one_way room (λ us agree. IsCompareOp.in_ (kind_carried (suc k) agree h (omega arith)) refl refl) within
begins_way room (BeginsComparison.by_not h) within = denied_way room h within
begins_way {k = k} room (BeginsComparison.by_is h) within = one_way room (λ us agree. IsCompareOp.is_ (kind_carried (suc k) agree h (omega arith)) refl refl) within

-- `not` without `in`

denied_none : {us : List Terminal} {k d j : ℕ} {t : Comparison} → IsKeyword us k word.Not → (IsKeyword us (suc k) word.In → ⊥) → IsComparison us k t d j → ⊥
denied_none denial missing x =
    let code = code_here denial in
    elim x.sign [
      | IsCompareOp.by_sign o e ↦ omega (arith, code, compare_code o)
      | IsCompareOp.in_ h m e ↦ omega (arith, code, code_here h)
      | IsCompareOp.not_in h g m e ↦ missing g
      | IsCompareOp.is_ h m e ↦ omega (arith, code, code_here h)
      | IsCompareOp.is_not h g m e ↦ omega (arith, code, code_here h)
    ]

pub denied_stuck : {ts : List Terminal} {k : ℕ} (room : ℕ) (u : Unread) → IsNotBehind ts k u → suc k < length ts → IsUnread IsComparison (Past 18) ts k room u
denied_stuck {ts} {k} room u h within = subst (IsUnread IsComparison (Past 18) ts k room) (sym h.stuck) (record {
  forward = omega arith;
  within = within;
  reached = IsReached.reached (denied_way room h.denial (omega (arith, within)));
  none = λ us agree tree depth j x stop.
      denied_none (kind_carried (suc (suc k)) agree h.denial (omega arith)) (λ g. h.missing (kind_carried (suc (suc k)) (agree_back us ts agree) g (omega arith))) x;
})

-- What the readers of comparisons answer

abbrev pub IsComparisonRun : List Terminal → ℕ → ℕ → List Comparison → ℕ → ℕ → Type 0
IsComparisonRun ts room k found d l = IsRun IsComparison (Past 18) ts room k found d l

next_comparison : {ts : List Terminal} {room k d l : ℕ} {found : List Comparison} → IsComparisonRun ts room k found d l → BeginsComparison ts l → Step IsComparison (Past 18) AreComparisons (Past 23) ts k l room room
next_comparison run begins = chain_step comparison_chain run.0 run.1 (begins_stops begins) (begins_goes_on begins)

pub operator_refused : {ts : List Terminal} {room k d l : ℕ} {found : List Comparison} → IsComparisonRun ts room k found d l → BeginsComparison ts l → suc l < length ts → (u : Unread) → IsNotBehind ts l u
    → IsUnread AreComparisons (Past 23) ts k room u
operator_refused {room = room} run begins within u refused = fails (next_comparison run begins) u (denied_stuck room u refused within)

pub operand_refused : {ts : List Terminal} {room k d l m : ℕ} {found : List Comparison} {meant : CompareOp} → IsComparisonRun ts room k found d l → BeginsComparison ts l → IsCompareOp ts l meant m
    → (meant ≡ compare.Is → IsKeyword ts (suc l) word.Not → ⊥) → (u : Unread) → IsUnread (λ us. IsBinary us binary_levels) (Past 18) ts m room u → IsUnread AreComparisons (Past 23) ts k room u
operand_refused run begins sign longest u refused = fails (step_twice (comparison_step sign longest) (next_comparison run begins)) u refused

pub comparison_on : {ts : List Terminal} {room k d l m c n deeper : ℕ} {found more : List Comparison} {meant : CompareOp} {operand : Expr} → IsComparisonRun ts room k found d l → IsCompareOp ts l meant m
    → IsReading (λ us. IsBinary us binary_levels) (Past 18) ts m room operand c n → more ≡ found ++ comparison meant operand ∷ [] → deeper ≡ ord_max nat_cmp d c → IsComparisonRun ts room k more deeper n
comparison_on {ts} {k = k} {d} {l} {m} {c} {n} {deeper} {found} {more} {meant} {operand} run sign reading joined greater =
    let deep : deeper ≡ max d c = greater ∙ ord_max-max d c in
    let element : IsComparison ts l (comparison meant operand) c n = record { meant = meant; behind = m; operand = operand; sign = sign; read = reading.derived; tree = refl } in
    let longer : Ran IsComparison ts k (found ++ comparison meant operand ∷ []) deeper n = subst (λ b. Ran IsComparison ts k (found ++ comparison meant operand ∷ []) b n) (sym deep) (ran_on run.0 element) in
    (subst (λ cs. Ran IsComparison ts k cs deeper n) (sym joined) longer, omega (arith, deep, run.1, reading.shallow), reading.stops, reading.within)

pub comparisons_read : {ts : List Terminal} {room k d l : ℕ} {found : List Comparison} → IsComparisonRun ts room k found d l → BeginsComparison ts k → (BeginsComparison ts l → ⊥)
    → IsReading AreComparisons (Past 23) ts k room found d l
comparisons_read {ts} run first none = record {
  derived = ran_whole comparison_chain run.0 (λ same. none (subst (λ n. BeginsComparison ts n) same first));
  shallow = run.1;
  stops = past_comparisons run.2 none;
  within = run.3;
}

comparisons_way : {ts : List Terminal} {k : ℕ} → BeginsComparison ts k → k < length ts → HasWay AreComparisons ts k (suc k)
comparisons_way begins within =
    let one = (begins_way 0 begins within).way in
    record { tokens = one.tokens; same = one.same; long = one.long; tree = one.tree ∷ []; depth = one.depth; derived = comparison_chain.one one.derived }

pub no_room_for_comparisons : {ts : List Terminal} {i room a k : ℕ} {x : Expr} → IsReading (λ us. IsBinary us binary_levels) (Past 18) ts i room x a k → BeginsComparison ts k → (u : Unread) → IsTooDeepAt k u × (room ≤ a)
    → IsUnread IsCompare (Past 23) ts i room u
no_room_for_comparisons reading begins u deep =
    left_over compare_tailed reading (begins_goes_on begins) (λ h. omega (arith, begins_code begins, code_here h)) (comparisons_way begins reading.within) u deep

pub comparisons_refused : {ts : List Terminal} {i room left a k : ℕ} {x : Expr} → IsReading (λ us. IsBinary us binary_levels) (Past 18) ts i room x a k → BeginsComparison ts k → (a < room) × (room ≡ suc left) → (u : Unread)
    → IsUnread AreComparisons (Past 23) ts k left u → IsUnread IsCompare (Past 23) ts i room u
comparisons_refused reading begins inside u refused = fails (left_step compare_tailed reading inside (begins_goes_on begins)) u refused

pub one_operand_refused : (ts : List Terminal) (i room : ℕ) (u : Unread) → IsUnread (λ us. IsBinary us binary_levels) (Past 18) ts i room u → IsUnread IsCompare (Past 23) ts i room u
one_operand_refused ts i room u refused = fails (first_step compare_tailed ts i room) u refused

pub one_operand_read : {ts : List Terminal} {i room a k : ℕ} {x : Expr} → IsReading (λ us. IsBinary us binary_levels) (Past 18) ts i room x a k → (BeginsComparison ts k → ⊥) → IsReading IsCompare (Past 23) ts i room x a k
one_operand_read reading none = read_alone compare_tailed reading (past_comparisons reading.stops none)

pub compare_read : {ts : List Terminal} {i room left a k b j deepest c : ℕ} {x boxed e : Expr} {others : List Comparison} {at : Span} → IsReading (λ us. IsBinary us binary_levels) (Past 18) ts i room x a k
    → (a < room) × (room ≡ suc left) → IsReading AreComparisons (Past 23) ts k left others b j → boxed ≡ x → IsAt ts i at → e ≡ node k at (form.Compare boxed others) → deepest ≡ max a b → c ≡ deepest + 1
    → IsReading IsCompare (Past 23) ts i room e c j
compare_read {ts} {i} {a = a} {k} {b} {j} {c = c} {e = e} {others} {at} reading inside tail same placed tree deepest deep =
    let derived : IsCompare ts i e (suc (max a b)) j = IsCompare.compare_chain placed reading.derived tail.derived (tree ∙ ap (λ y. node k at (form.Compare y others)) same) in
    let deeper : suc (max a b) ≡ c = omega (arith, deep, deepest) in
    record {
      derived = subst (λ n. IsCompare ts i e n j) deeper derived;
      shallow = omega (arith, deep, deepest, inside.0, inside.1, tail.shallow);
      stops = tail.stops;
      within = tail.within;
    }

pub comparison_forward : {ts : List Terminal} {room l m d j : ℕ} {meant : CompareOp} {x : Expr} → IsCompareOp ts l meant m → IsReading (λ us. IsBinary us binary_levels) (Past 18) ts m room x d j → l < j
comparison_forward {ts} {m = m} {j = j} sign reading = omega (arith, (comparison_carried {us = ts} m (agree_same ts) sign).0, (binary_carried {us = ts} j (agree_same ts) reading.derived).0)
