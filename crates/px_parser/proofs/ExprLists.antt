-- How the expressions behind a comma are read.
use Rattle.std.proofs.Common.{◌≡◌, ℕ, suc, ◌+◌, ◌<◌, ◌≤◌, true, false, List, [], ◌∷◌, ◌++◌, inl, inr, length, Result, Ok, Err, MatchResult, sym, ap, subst, ◌∙◌, arith}
use Rattle.std.proofs.lemmas.Bool.{false≢true}
use Rattle.px_lexer.specs.declared.spelling.Operator.TheVariants as sign
use Rattle.px_lexer.specs.declared.token_list.Tokens.{Tokens}
use Rattle.px_lexer.specs.declared.token_list.TokenKind.TheVariants as kind
use Rattle.px_tree.specs.declared.expressions.Expr.{Expr}
use Rattle.px_exprs.specs.declared.readings.Unread.{Unread}
use Rattle.px_exprs.specs.declared.readings.Unread.TheVariants as unread
use Rattle.px_lexer.specs.Terminals.{Terminal, IsOperator, terminals_of}
use Rattle.px_exprs.specs.Codes.{code_at, begins_code, Past}
use Rattle.px_exprs.specs.Readings.{Agree}
use Rattle.px_exprs.specs.Runs.{nesting_limit}
use Rattle.px_exprs.specs.Words.{IsStuckAt}
use Rattle.px_exprs.proofs.Agreement.{agree_back}
use Rattle.px_exprs.proofs.BeginningCodes.{expr_codes}
use Rattle.px_exprs.proofs.Keeping.{kind_carried}
use Rattle.px_exprs.proofs.Stops.{code_carried}
use Rattle.px_lexer.proofs.TokenAccess.{length_terminals}
use Rattle.px_parser.specs.declared.readings.Found.{Found}
use Rattle.px_parser.specs.Shapes.{Elements, Many}
use Rattle.px_parser.specs.Parsing.{strict}
use Rattle.px_parser.specs.Readings.{IsStuck, IsUnread, IsReading, Reads}
use Rattle.px_parser.specs.StatementGrammar.{IsWithinLimit}
use Rattle.px_parser.specs.Ends.{EndsExprs}
use Rattle.px_parser.proofs.ExprShapes.{good_expr, only_expr, leads_expr, low_is_no_end, comma_is_no_end, comma_past, end_past}
use Rattle.px_parser.proofs.ListedSteps.{Front, EndsIn, step_elements, elements_last, elements_ended, front_more}
use Rattle.px_parser.proofs.Steps.{Step, Never, Local, fails, stuck_here, stuck_behind, step_narrower, step_twice}
use Rattle.px_parser.proofs.TokenShapes.{unread_at}

-- Tokens

-- a token before which a list ends begins no expression
pub high_begins_nothing : (c : ℕ) → 28 ≤ c → begins_code c ≡ false
high_begins_nothing c high = grind arith

pub begins_before_end : (ts us : List Terminal) (i : ℕ) → begins_code (code_at ts i) ≡ true → Agree (suc i) us ts → EndsExprs us i → ⊥
begins_before_end ts us i begins agree end = false≢true (sym (high_begins_nothing (code_at us i) end) ∙ ap begins_code (code_carried ts us i agree) ∙ begins)

pub no_expr_here : (ts : List Terminal) (i : ℕ) → begins_code (code_at ts i) ≡ false → Never IsWithinLimit (EndsIn (kind.Operator sign.Comma) EndsExprs) ts i
no_expr_here ts i none us agree mode t n j x s = false≢true (sym none ∙ sym (ap begins_code (code_carried ts us i agree)) ∙ expr_codes x.read)

-- whether a list ends hangs on the token there
pub ends_told : (ts : List Terminal) (i : ℕ) → (told : EndsExprs ts i → ⊥) → (us : List Terminal) → Agree (suc i) us ts → EndsExprs us i → ⊥
ends_told ts i told us agree end = told (omega (arith, end, code_carried ts us i agree))

pub ends_local : Local (EndsIn (kind.Operator sign.Comma) EndsExprs)
ends_local ts us i agree (inl comma) = inl (kind_carried (suc i) (agree_back us ts agree) comma (omega arith))
ends_local ts us i agree (inr end) = inr (omega (arith, end, code_carried ts us i agree))

-- Elements

-- expressions each with a comma behind it
abbrev pub WithCommas : List Terminal → ℕ → List Expr → ℕ → Type 0
WithCommas ts i xs l = (room : ℕ) → Front (kind.Operator sign.Comma) IsWithinLimit (strict nesting_limit) ts i xs room l

element_step : (ts : List Terminal) (i l room : ℕ) (xs : List Expr) → WithCommas ts i xs l → ((us : List Terminal) → Agree (suc l) us ts → EndsExprs us l → ⊥)
    → Step IsWithinLimit (EndsIn (kind.Operator sign.Comma) EndsExprs) (Elements (kind.Operator sign.Comma) IsWithinLimit) EndsExprs ts i l room
element_step ts i l room xs front goes_on =
    step_elements {S = EndsExprs} (kind.Operator sign.Comma) ts i l room xs good_expr.sound good_expr.rises only_expr leads_expr low_is_no_end comma_is_no_end (comma_past (omega arith)) (end_past (omega arith)) (front room) goes_on

element_past : (us : List Terminal) (p : ℕ) → EndsIn (kind.Operator sign.Comma) EndsExprs us p → Past 26 us p
element_past us p (inl comma) = comma_past (omega arith) us p comma
element_past us p (inr end) = end_past (omega arith) us p end

-- where an element isn't read, the others aren't
pub element_refused : (ts : List Terminal) (i l room : ℕ) (xs : List Expr) → WithCommas ts i xs l → begins_code (code_at ts l) ≡ true → (u : Unread) → IsUnread IsWithinLimit (Past 26) ts l room u
    → IsUnread (Elements (kind.Operator sign.Comma) IsWithinLimit) EndsExprs ts i room u
element_refused ts i l room xs front begins u h = fails (step_twice (step_narrower ts l room good_expr.rises element_past) (element_step ts i l room xs front (λ us. begins_before_end ts us l begins))) u h

-- what is answered where it is looked whether they end
abbrev IsClosed : List Terminal → List Expr → ℕ → Result (Found (List Expr)) Unread → Type 0
IsClosed ts tree to result = MatchResult result (λ found. (found.tree ≡ tree) × (found.to ≡ to) × EndsExprs ts to) (λ unread. IsStuckAt to unread × (EndsExprs ts to → ⊥))

-- behind an element without a comma
pub others_last : (ts : List Terminal) (i l m room : ℕ) (xs ys : List Expr) (t : Expr) → WithCommas ts i xs l → begins_code (code_at ts l) ≡ true → IsReading IsWithinLimit (Past 26) ts l room t m → (IsOperator ts m sign.Comma → ⊥)
    → ys ≡ xs ++ t ∷ [] → (result : Result (Found (List Expr)) Unread) → IsClosed ts ys m result → Reads (Elements (kind.Operator sign.Comma) IsWithinLimit) EndsExprs ts i room result
others_last ts i l m room xs ys t front begins reading none same (Ok found) closed =
    let E : List Expr → ℕ → Type 0 = λ es j. Elements (kind.Operator sign.Comma) IsWithinLimit (strict nesting_limit) ts i es room j in
    record {
      derived = subst (λ es. E es found.to) (sym (closed.0 ∙ same)) (subst (E (xs ++ t ∷ [])) (sym closed.1) (elements_last (kind.Operator sign.Comma) (front room) reading.derived));
      stops = subst (EndsExprs ts) (sym closed.1) closed.2;
      within = omega (arith, closed.1, reading.within);
    }
others_last ts i l m room xs ys t front begins reading none same (Err u) closed =
    let stuck : IsStuck IsWithinLimit (EndsIn (kind.Operator sign.Comma) EndsExprs) ts l room m =
    stuck_behind ts l m room t good_expr.sound good_expr.rises only_expr element_past ends_local reading.derived reading.stops (λ end. elim (end) [ inl comma ↦ none comma | inr e ↦ closed.1 e ]) reading.within in
    unread_at u closed.0 (fails (element_step ts i l room xs front (λ us. begins_before_end ts us l begins)) (unread.Stuck m) stuck)

-- where no expression begins behind a comma
pub others_ended : (tokens : Tokens) (i l room : ℕ) (xs : List Expr) → WithCommas (terminals_of tokens) i xs l → begins_code (code_at (terminals_of tokens) l) ≡ false → l < length tokens.list
    → (result : Result (Found (List Expr)) Unread) → IsClosed (terminals_of tokens) xs l result → Reads (Elements (kind.Operator sign.Comma) IsWithinLimit) EndsExprs (terminals_of tokens) i room result
others_ended tokens i l room xs front none inside (Ok found) closed =
    let ts = terminals_of tokens in
    let E : List Expr → ℕ → Type 0 = λ es j. Elements (kind.Operator sign.Comma) IsWithinLimit (strict nesting_limit) ts i es room j in
    record {
      derived = subst (λ es. E es found.to) (sym closed.0) (subst (E xs) (sym closed.1) (elements_ended (kind.Operator sign.Comma) (front room)));
      stops = subst (EndsExprs ts) (sym closed.1) closed.2;
      within = omega (arith, closed.1, inside, length_terminals tokens);
    }
others_ended tokens i l room xs front none inside (Err u) closed =
    let ts = terminals_of tokens in
    unread_at u closed.0 (fails (element_step ts i l room xs front (λ us. ends_told ts l closed.1 us)) (unread.Stuck l)
    (stuck_here ts l room good_expr.fresh (omega (arith, inside, length_terminals tokens)) (no_expr_here ts l none)))

-- one more element and its comma
pub commas_more : (ts : List Terminal) (i l m : ℕ) (xs ys : List Expr) (t : Expr) → WithCommas ts i xs l → ((room : ℕ) → IsReading IsWithinLimit (Past 26) ts l room t m) → IsOperator ts m sign.Comma → ys ≡ xs ++ t ∷ []
    → WithCommas ts i ys (m + 1)
commas_more ts i l m xs ys t front reading comma same =
    λ room.
    let next : suc m ≡ m + 1 = omega arith in
    subst (λ es. Front (kind.Operator sign.Comma) IsWithinLimit (strict nesting_limit) ts i es room (m + 1)) (sym same)
    (subst (Front (kind.Operator sign.Comma) IsWithinLimit (strict nesting_limit) ts i (xs ++ t ∷ []) room) next (front_more (kind.Operator sign.Comma) (front room) ((reading room).derived) comma))

-- no elements
pub commas_none : (ts : List Terminal) (i : ℕ) (xs : List Expr) → xs ≡ [] → WithCommas ts i xs i
commas_none ts i xs e = λ room. subst (λ es. Front (kind.Operator sign.Comma) IsWithinLimit (strict nesting_limit) ts i es room i) (sym e) Many.none
