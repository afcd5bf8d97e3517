-- How the expressions of a list are read one behind the other.
use Rattle.std.proofs.Common.{◌≡◌, ℕ, suc, ◌+◌, ◌<◌, true, false, List, Some, None, inl, inr, length, refl, ap, subst, arith}
use Rattle.std.specs.Prelude.{nat_lt, not}
use Rattle.px_base.specs.declared.refusals.Span.{Span}
use Rattle.px_lexer.specs.declared.spelling.Operator.TheVariants as sign
use Rattle.px_lexer.specs.declared.token_list.Tokens.{Tokens}
use Rattle.px_lexer.specs.declared.token_list.TokenKind.TheVariants as kind
use Rattle.px_tree.specs.declared.expressions.Expr.{Expr}
use Rattle.px_exprs.specs.declared.readings.Unread.{Unread}
use Rattle.px_exprs.specs.declared.readings.Unread.TheVariants as unread
use Rattle.px_lexer.specs.Terminals.{Terminal, IsOperator, IsAt, terminals_of}
use Rattle.px_exprs.specs.Codes.{code_at, Past}
use Rattle.px_exprs.specs.Readings.{Stops}
use Rattle.px_parser.specs.Shapes.{Here, Gives, Seq, Either, Elements}
use Rattle.px_parser.specs.Readings.{IsStuck, IsUnread, IsReading}
use Rattle.px_parser.specs.StatementGrammar.{IsWithinLimit, expr_list}
use Rattle.px_parser.specs.Parts.{ExprsRead}
use Rattle.px_parser.specs.Ends.{EndsExprs}
use Rattle.px_parser.proofs.Shapely.{Good, good_after, good_here, good_of, good_seq, stands_there}
use Rattle.px_parser.proofs.Onlies.{Leads}
use Rattle.px_parser.proofs.ExprShapes.{Others, good_expr, solid_expr, only_expr, good_others, good_other_exprs, good_expr_commas, leads_others, comma_is_no_end, comma_past, end_past}
use Rattle.px_parser.proofs.ListedSteps.{EndsIn}
use Rattle.px_parser.proofs.ExprLists.{ends_local}
use Rattle.px_parser.proofs.PartSteps.{step_placed, step_here, step_after}
use Rattle.px_parser.proofs.Steps.{Step, Never, fails, stuck_here, step_first, step_second, step_of, step_left, step_twice}
use Rattle.px_parser.proofs.KindLaws.{solid_front}

good_behind : Good (Seq Here (Others IsWithinLimit))
good_behind = good_seq good_here (good_others good_expr)

pub first_step : (ts : List Terminal) (i room : ℕ) → Step IsWithinLimit (Past 26) ExprsRead EndsExprs ts i i room
unfolding ExprsRead
first_step ts i room =
    let solid = solid_front solid_expr good_behind.sound in
    let good = good_seq good_expr good_behind in
    step_twice (step_first {Y = λ _. Seq Here (Others IsWithinLimit)} {S = Past 26} {R = EndsExprs} ts i room good_expr.sound good_expr.rises (λ _. good_behind.fresh) (λ _. leads_others (comma_past (omega arith)) (end_past (omega arith))))
    (step_twice (step_placed EndsExprs ts i room solid good.rises) (step_of _ EndsExprs ts i room good_expr_commas.rises))

-- what stands behind the first
behind_step : (ts : List Terminal) (i l room : ℕ) (t : Expr) → IsReading IsWithinLimit (Past 26) ts i room t l → Step (Seq Here (Others IsWithinLimit)) EndsExprs ExprsRead EndsExprs ts i l room
unfolding ExprsRead
behind_step ts i l room t reading =
    let solid = solid_front solid_expr good_behind.sound in
    let good = good_seq good_expr good_behind in
    step_twice (step_second {Y = λ _. Seq Here (Others IsWithinLimit)} {M = Past 26} {R = EndsExprs} ts i l room t good_expr.sound good_expr.rises only_expr (λ _. leads_others (comma_past (omega arith)) (end_past (omega arith))) good_behind.rises
    reading.derived reading.stops)
    (step_twice (step_placed EndsExprs ts i room solid good.rises) (step_of _ EndsExprs ts i room good_expr_commas.rises))

-- the others behind a comma
pub others_step : (ts : List Terminal) (i l room : ℕ) (t : Expr) → IsReading IsWithinLimit (Past 26) ts i room t l → IsOperator ts l sign.Comma
    → Step (Elements (kind.Operator sign.Comma) IsWithinLimit) EndsExprs ExprsRead EndsExprs ts i (suc l) room
others_step ts i l room t reading comma =
    let others = good_other_exprs in
    let after = good_after (kind.Operator sign.Comma) others in
    let some = good_of Some after in
    let absent : Never (Gives None) EndsExprs ts l = λ us agree mode t n j x s. comma_is_no_end ts us l agree comma (subst (EndsExprs us) x.end s) in
    step_twice (step_after (kind.Operator sign.Comma) EndsExprs ts l room others.rises comma)
    (step_twice (step_of Some EndsExprs ts l room after.rises)
    (step_twice (step_left ts l room some.rises absent)
    (step_twice (step_here EndsExprs ts l room (good_others good_expr).rises) (behind_step ts i l room t reading))))

-- where neither a comma nor an end stands behind the first
pub first_stuck : (ts : List Terminal) (i l room : ℕ) (t : Expr) → IsReading IsWithinLimit (Past 26) ts i room t l → (IsOperator ts l sign.Comma → ⊥) → (EndsExprs ts l → ⊥) → IsStuck ExprsRead EndsExprs ts i room l
first_stuck ts i l room t reading none going =
    let E : Stops = EndsIn (kind.Operator sign.Comma) EndsExprs in
    let leads : Leads (Seq Here (Others IsWithinLimit)) EndsExprs E = leads_others (λ us p h. inl h) (λ us p h. inr h) in
    let never : Never (Seq Here (Others IsWithinLimit)) EndsExprs ts l = λ us agree mode f n j x s.
    elim (ends_local ts us l agree (leads.leads x s)) [ inl comma ↦ none comma | inr end ↦ going end ] in
    fails (behind_step ts i l room t reading) (unread.Stuck l) (stuck_here ts l room good_behind.fresh reading.within never)

-- Readings

pub alone_read : (ts : List Terminal) (i l room : ℕ) (t : Expr) → i < length ts → IsReading IsWithinLimit (Past 26) ts i room t l → EndsExprs ts l → IsReading ExprsRead EndsExprs ts i room (t, true) l
unfolding ExprsRead
alone_read ts i l room t inside reading end =
    let first = stands_there ts i inside in
    record {
      derived = record {
        inner = (first.0.at, (t, (l, None)));
        read = record {
          middle = i;
          first = record { placed = record { token = first.0; stands = first.1; placed = refl }; end = refl };
          second = record {
            middle = l;
            first = reading.derived;
            second = record { middle = l; first = record { counted = refl; end = refl }; second = Either.right (record { tree = refl; end = refl }) };
          };
        };
        tree = refl;
      };
      stops = end;
      within = reading.within;
    }

pub list_read : (ts : List Terminal) (i l j room : ℕ) (t made : Expr) (others : List Expr) (at : Span) → IsAt ts i at → IsReading IsWithinLimit (Past 26) ts i room t l → IsOperator ts l sign.Comma
    → IsReading (Elements (kind.Operator sign.Comma) IsWithinLimit) EndsExprs ts (suc l) room others j → made ≡ expr_list at t l (Some others) → IsReading ExprsRead EndsExprs ts i room (made, false) j
unfolding ExprsRead
list_read ts i l j room t made others at placed reading comma rest same = record {
  derived = record {
    inner = (at, (t, (l, Some others)));
    read = record {
      middle = i;
      first = record { placed = placed; end = refl };
      second = record {
        middle = l;
        first = reading.derived;
        second = record {
          middle = l;
          first = record { counted = refl; end = refl };
          second = Either.left (record {
            inner = others;
            read = record { inner = (tt, others); read = record { middle = suc l; first = record { stands = comma; end = refl }; second = rest.derived }; tree = refl };
            tree = refl;
          });
        };
      };
    };
    tree = ap (λ e. (e, false)) same;
  };
  stops = rest.stops;
  within = rest.within;
}

-- Ends

pub told_end : (ts : List Terminal) (i : ℕ) → not (nat_lt (code_at ts i) 28) ≡ true → EndsExprs ts i
told_end ts i e = grind arith

pub told_no_end : (ts : List Terminal) (i : ℕ) → not (nat_lt (code_at ts i) 28) ≡ false → EndsExprs ts i → ⊥
told_no_end ts i e end = grind arith

-- The same where the index behind the comma is one more

pub others_failed : (tokens : Tokens) (i l room : ℕ) (t : Expr) → IsReading IsWithinLimit (Past 26) (terminals_of tokens) i room t l → IsOperator (terminals_of tokens) l sign.Comma → (u : Unread)
    → IsUnread (Elements (kind.Operator sign.Comma) IsWithinLimit) EndsExprs (terminals_of tokens) (l + 1) room u → IsUnread ExprsRead EndsExprs (terminals_of tokens) i room u
others_failed tokens i l room t reading comma u h =
    let ts = terminals_of tokens in
    let next : l + 1 ≡ suc l = omega arith in
    fails (others_step ts i l room t reading comma) u (subst (λ n. IsUnread (Elements (kind.Operator sign.Comma) IsWithinLimit) EndsExprs ts n room u) next h)

pub others_read : (tokens : Tokens) (i l j room : ℕ) (t made : Expr) (others : List Expr) → IsReading IsWithinLimit (Past 26) (terminals_of tokens) i room t l → IsOperator (terminals_of tokens) l sign.Comma
    → IsReading (Elements (kind.Operator sign.Comma) IsWithinLimit) EndsExprs (terminals_of tokens) (l + 1) room others j → (at : Span) × IsAt (terminals_of tokens) i at × (made ≡ expr_list at t l (Some others))
    → IsReading ExprsRead EndsExprs (terminals_of tokens) i room (made, false) j
others_read tokens i l j room t made others reading comma rest list =
    let ts = terminals_of tokens in
    let next : l + 1 ≡ suc l = omega arith in
    list_read ts i l j room t made others list.0 list.1 reading comma (subst (λ n. IsReading (Elements (kind.Operator sign.Comma) IsWithinLimit) EndsExprs ts n room others j) next rest) list.2
