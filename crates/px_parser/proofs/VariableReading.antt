-- What the readers of declared variables answer.
use Rattle.std.proofs.Common.{◌≡◌, ℕ, suc, ◌+◌, ◌<◌, List, [], ◌∷◌, ◌++◌, inl, inr, Option, Some, None, length, Result, Ok, Err, MatchResult, refl, sym, subst, arith}
use Rattle.px_base.specs.declared.refusals.Span.{Span}
use Rattle.px_lexer.specs.declared.token_list.Tokens.{Tokens}
use Rattle.px_lexer.specs.declared.spelling.Operator.TheVariants as sign
use Rattle.px_lexer.specs.declared.token_list.TokenKind.TheVariants as kind
use Rattle.px_tree.specs.declared.expressions.Expr.{Expr}
use Rattle.px_tree.specs.declared.statements.Declarator.{Declarator}
use Rattle.px_exprs.specs.declared.readings.Unread.{Unread}
use Rattle.px_exprs.specs.declared.readings.Unread.TheVariants as unread
use Rattle.px_lexer.specs.Terminals.{Terminal, HasKind, IsOperator, IsName, IsAt, terminals_of}
use Rattle.px_exprs.specs.Codes.{Past}
use Rattle.px_exprs.specs.Runs.{nesting_limit}
use Rattle.px_exprs.specs.Words.{IsStuckAt, IsNamed}
use Rattle.px_exprs.proofs.Agreement.{agree_back}
use Rattle.px_exprs.proofs.Keeping.{kind_carried}
use Rattle.px_lexer.proofs.TokenAccess.{length_terminals}
use Rattle.px_parser.specs.declared.readings.Found.{Found}
use Rattle.px_parser.specs.Shapes.{Token, Name, Gives, Seq, Either, Many, After}
use Rattle.px_parser.specs.Parsing.{strict}
use Rattle.px_parser.specs.Readings.{IsStuck, IsUnread, IsReading, Reads, Anywhere}
use Rattle.px_parser.specs.Ends.{EndsDecl, IsBefore}
use Rattle.px_parser.specs.StatementGrammar.{IsWithinLimit, Decl}
use Rattle.px_parser.specs.Parts.{DeclRest}
use Rattle.px_parser.proofs.Shapely.{good_name, good_here, good_seq, good_of, good_placed, good_after, sound_name}
use Rattle.px_parser.proofs.Onlies.{leads_anywhere, only_name}
use Rattle.px_parser.proofs.Steps.{Step, Never, Local, fails, many_more, step_first, step_second, step_of, step_left, step_many, step_twice, step_narrower, stuck_here, stuck_behind}
use Rattle.px_parser.proofs.TokenShapes.{unread_at}
use Rattle.px_parser.proofs.TokenSteps.{after_by, counted_by, placed_by, here_by, step_after, step_counted}
use Rattle.px_parser.proofs.ExprShapes.{good_expr, only_expr}
use Rattle.px_parser.proofs.VariableShapes.{Value, IsComma, MoreDecls, LineEnd, MoreToEnd, equal_ends_no_decl, decl_past, good_value, only_value, good_named_value, solid_named_value, good_decl, good_more_decls, only_more, leads_more, comma_is_no_newline, only_more_decls, good_line_end, leads_line_end, good_more_to_end, leads_more_to_end, declarator_of}
use Rattle.px_parser.proofs.PartSteps.{step_placed, step_here}

-- The value of a variable

pub decl_local : Local EndsDecl
decl_local ts us i agree (inl comma) = inl (kind_carried (suc i) (agree_back us ts agree) comma (omega arith))
decl_local ts us i agree (inr line) = inr (kind_carried (suc i) (agree_back us ts agree) line (omega arith))

abbrev pub IsClosed : List Terminal → Option Expr → ℕ → Result (Found (Option Expr)) Unread → Type 0
IsClosed ts tree to result = MatchResult result (λ found. (found.tree ≡ tree) × (found.to ≡ to) × EndsDecl ts to) (λ unread. IsStuckAt to unread × (EndsDecl ts to → ⊥))

-- the expression behind `=`
value_step : (ts : List Terminal) (i room : ℕ) → IsOperator ts i sign.Equal → Step IsWithinLimit EndsDecl Value EndsDecl ts i (suc i) room
value_step ts i room equal =
    let never : Never (Gives None) EndsDecl ts i = λ us agree mode t n j x s. equal_ends_no_decl ts us i agree equal (subst (EndsDecl us) x.end s) in
    let behind = step_after EndsDecl ts i room good_expr equal in
    let some = step_of Some EndsDecl ts i room (good_after (kind.Operator sign.Equal) good_expr).rises in
    step_twice behind (step_twice some (step_left ts i room (good_of Some (good_after (kind.Operator sign.Equal) good_expr)).rises never))

pub given_refused : (ts : List Terminal) (i room : ℕ) (u : Unread) → IsOperator ts i sign.Equal → IsUnread IsWithinLimit (Past 26) ts (i + 1) room u → IsUnread Value EndsDecl ts i room u
given_refused ts i room u equal h =
    let next : i + 1 ≡ suc i = omega arith in
    fails (step_twice (step_narrower ts (suc i) room good_expr.rises decl_past) (value_step ts i room equal)) u (subst (λ k. IsUnread IsWithinLimit (Past 26) ts k room u) next h)

pub given_none : (tokens : Tokens) (i room : ℕ) (r : Result (Found (Option Expr)) Unread) → i < length tokens.list → (IsOperator (terminals_of tokens) i sign.Equal → ⊥) → IsClosed (terminals_of tokens) None i r
    → Reads Value EndsDecl (terminals_of tokens) i room r
given_none tokens i room (Ok found) inside none h =
    let ts = terminals_of tokens in
    record {
      derived = subst (λ j. Value (strict nesting_limit) ts i found.tree room j) (sym h.1) (Either.right (record { tree = h.0; end = refl }));
      stops = subst (EndsDecl ts) (sym h.1) h.2;
      within = omega (arith, h.1, inside, length_terminals tokens);
    }
given_none tokens i room (Err u) inside none h =
    let ts = terminals_of tokens in
    let never : Never Value EndsDecl ts i = λ us agree mode t n j x s. elim (x) [
      | Either.left g ↦ none (kind_carried (suc i) (agree_back us ts agree) g.read.read.first.stands (omega arith))
      | Either.right g ↦ h.1 (decl_local ts us i agree (subst (EndsDecl us) g.end s))
    ] in
    unread_at u h.0 (stuck_here ts i room good_value.fresh (omega (arith, inside, length_terminals tokens)) never)

pub given_some : (ts : List Terminal) (i room l : ℕ) (e : Expr) (r : Result (Found (Option Expr)) Unread) → IsOperator ts i sign.Equal → IsReading IsWithinLimit (Past 26) ts (i + 1) room e l → IsClosed ts (Some e) l r
    → Reads Value EndsDecl ts i room r
given_some ts i room l e (Ok found) equal reading h =
    let next : i + 1 ≡ suc i = omega arith in
    let value : IsWithinLimit (strict nesting_limit) ts (suc i) e room l = subst (λ k. IsWithinLimit (strict nesting_limit) ts k e room l) next reading.derived in
    record {
      derived = subst (λ j. Value (strict nesting_limit) ts i found.tree room j) (sym h.1) (Either.left (record { inner = e; read = after_by equal value; tree = h.0 }));
      stops = subst (EndsDecl ts) (sym h.1) h.2;
      within = omega (arith, h.1, reading.within);
    }
given_some ts i room l e (Err u) equal reading h =
    let next : i + 1 ≡ suc i = omega arith in
    let value : IsWithinLimit (strict nesting_limit) ts (suc i) e room l = subst (λ k. IsWithinLimit (strict nesting_limit) ts k e room l) next reading.derived in
    let stuck : IsStuck IsWithinLimit EndsDecl ts (suc i) room l = stuck_behind ts (suc i) l room e good_expr.sound good_expr.rises only_expr decl_past decl_local value reading.stops h.1 reading.within in
    fails (value_step ts i room equal) u (unread_at u h.0 stuck)

-- A variable

-- its name and value
decl_step : (ts : List Terminal) (i room : ℕ) → Step (Seq Name Value) EndsDecl Decl EndsDecl ts i i room
unfolding Decl
decl_step ts i room =
    let placed = good_placed solid_named_value good_named_value in
    step_twice (step_twice (step_placed EndsDecl ts i room solid_named_value good_named_value.rises) (step_here EndsDecl ts i room placed.rises)) (step_of _ EndsDecl ts i room (good_seq good_here placed).rises)

pub decl_name_refused : (ts : List Terminal) (i room : ℕ) (u : Unread) → IsUnread Name Anywhere ts i room u → IsUnread Decl EndsDecl ts i room u
decl_name_refused ts i room u h = fails (step_twice (step_first ts i room sound_name good_name.rises (λ a. good_value.fresh) (λ a. leads_anywhere Value EndsDecl)) (decl_step ts i room)) u h

pub decl_value_refused : (ts : List Terminal) (i l room : ℕ) (name : List ℕ) (u : Unread) → IsReading Name Anywhere ts i room name l → IsUnread Value EndsDecl ts l room u → IsUnread Decl EndsDecl ts i room u
decl_value_refused ts i l room name u reading h =
    fails (step_twice (step_second ts i l room name sound_name good_name.rises (only_name Anywhere) (λ b. leads_anywhere Value EndsDecl) good_value.rises reading.derived tt) (decl_step ts i room)) u h

pub decl_read : (ts : List Terminal) (i l j room : ℕ) (name : List ℕ) (value : Option Expr) (at : Span) → IsReading Name Anywhere ts i room name l → IsReading Value EndsDecl ts l room value j → IsAt ts i at
    → IsReading Decl EndsDecl ts i room (declarator_of i at name value) j
unfolding Decl
decl_read ts i l j room name value at first second placed =
    let both : Seq Name Value (strict nesting_limit) ts i (name, value) room j = record { middle = l; first = first.derived; second = second.derived } in
    record {
      derived = record { inner = (i, (at, (name, value))); read = here_by (placed_by placed both); tree = refl };
      stops = second.stops;
      within = second.within;
    }

-- What stands behind the first name

-- others were read, and a comma or the end of the line comes
abbrev pub HasMore : Tokens → ℕ → List Declarator → ℕ → Type 0
HasMore tokens i others l = (room : ℕ) → IsReading MoreDecls EndsDecl (terminals_of tokens) i room others l

pub no_more : (tokens : Tokens) (i : ℕ) (value : Option Expr) (others : List Declarator) (h : ℕ) → ((room : ℕ) → IsReading Value EndsDecl (terminals_of tokens) h room value i) → others ≡ [] → HasMore tokens i others i
no_more tokens i value others h reading e room =
    let value_read = reading room in
    let ts = terminals_of tokens in
    record { derived = subst (λ xs. MoreDecls (strict nesting_limit) ts i xs room i) (sym e) Many.none; stops = value_read.stops; within = value_read.within }

pub one_more : (tokens : Tokens) (i l j : ℕ) (others longer : List Declarator) (d : Declarator) → HasMore tokens i others l → IsComma (terminals_of tokens) l → ((room : ℕ) → IsReading Decl EndsDecl (terminals_of tokens) (l + 1) room d j)
    → longer ≡ others ++ d ∷ [] → HasMore tokens i longer j
one_more tokens i l j others longer d front comma next e room =
    let ts = terminals_of tokens in
    let step : l + 1 ≡ suc l = omega arith in
    let reading = next room in
    let decl : Decl (strict nesting_limit) ts (suc l) d room j = subst (λ k. Decl (strict nesting_limit) ts k d room j) step reading.derived in
    record {
      derived = subst (λ xs. MoreDecls (strict nesting_limit) ts i xs room j) (sym e) (many_more (front room).derived (after_by comma decl));
      stops = reading.stops;
      within = reading.within;
    }

-- what stands behind the value
rest_step : (ts : List Terminal) (i l room : ℕ) (value : Option Expr) → IsReading Value EndsDecl ts i room value l → Step MoreToEnd Anywhere DeclRest Anywhere ts i l room
unfolding DeclRest
rest_step ts i l room value reading = step_second ts i l room value good_value.sound good_value.rises only_value (λ b. leads_more_to_end) good_more_to_end.rises reading.derived reading.stops

pub rest_value_refused : (ts : List Terminal) (i room : ℕ) (u : Unread) → IsUnread Value EndsDecl ts i room u → IsUnread DeclRest Anywhere ts i room u
unfolding DeclRest
rest_value_refused ts i room u h = fails (step_first {R = Anywhere} ts i room good_value.sound good_value.rises (λ a. good_more_to_end.fresh) (λ a. leads_more_to_end)) u h

pub rest_decl_refused : (tokens : Tokens) (h i l room : ℕ) (value : Option Expr) (others : List Declarator) (u : Unread) → IsReading Value EndsDecl (terminals_of tokens) h room value i → IsReading MoreDecls EndsDecl (terminals_of tokens) i room others l
    → IsComma (terminals_of tokens) l → IsUnread Decl EndsDecl (terminals_of tokens) (l + 1) room u → IsUnread DeclRest Anywhere (terminals_of tokens) h room u
rest_decl_refused tokens h i l room value others u reading front comma refused =
    let ts = terminals_of tokens in
    let next : l + 1 ≡ suc l = omega arith in
    let more = good_after (kind.Operator sign.Comma) good_decl in
    let element = step_after EndsDecl ts l room good_decl comma in
    let elements : Step (After (kind.Operator sign.Comma) Decl) EndsDecl MoreDecls (IsBefore kind.Newline) ts i l room =
    step_many ts i l room others more.sound more.rises only_more leads_more comma_is_no_newline (λ us k c. inl c) (λ us k c. inr c) front.derived (inr front.stops) (λ us agree line. comma_is_no_newline ts us l agree comma line) in
    let to_end : Step MoreDecls (IsBefore kind.Newline) MoreToEnd Anywhere ts i i room = step_first ts i room good_more_decls.sound good_more_decls.rises (λ a. good_line_end.fresh) (λ a. leads_line_end) in
    fails (step_twice (step_twice (step_twice element elements) to_end) (rest_step ts h i room value reading)) u (subst (λ k. IsUnread Decl EndsDecl ts k room u) next refused)

newline_there : {ts : List Terminal} {l : ℕ} → EndsDecl ts l → (IsComma ts l → ⊥) → HasKind ts l kind.Newline
newline_there (inl comma) none = absurd (none comma)
newline_there (inr line) none = line

pub rest_end_refused : (tokens : Tokens) (h i l room : ℕ) (value : Option Expr) (others : List Declarator) (u : Unread) → IsReading Value EndsDecl (terminals_of tokens) h room value i → IsReading MoreDecls EndsDecl (terminals_of tokens) i room others l
    → (IsComma (terminals_of tokens) l → ⊥) → IsUnread (Token kind.Newline) Anywhere (terminals_of tokens) l room u → IsUnread DeclRest Anywhere (terminals_of tokens) h room u
rest_end_refused tokens h i l room value others u reading front none refused =
    let ts = terminals_of tokens in
    let to_end : Step LineEnd Anywhere MoreToEnd Anywhere ts i l room =
    step_second ts i l room others good_more_decls.sound good_more_decls.rises only_more_decls (λ b. leads_line_end) good_line_end.rises front.derived (newline_there front.stops none) in
    fails (step_twice (step_twice (step_counted kind.Newline Anywhere ts l room) to_end) (rest_step ts h i room value reading)) u refused

pub rest_read : (tokens : Tokens) (h i l j room : ℕ) (value : Option Expr) (others : List Declarator) → IsReading Value EndsDecl (terminals_of tokens) h room value i → IsReading MoreDecls EndsDecl (terminals_of tokens) i room others l
    → IsReading (Token kind.Newline) Anywhere (terminals_of tokens) l room tt j → IsReading DeclRest Anywhere (terminals_of tokens) h room (value, (others, l)) j
unfolding DeclRest
rest_read tokens h i l j room value others first front line =
    let ts = terminals_of tokens in
    let end : LineEnd (strict nesting_limit) ts l l room j = subst (λ k. LineEnd (strict nesting_limit) ts l l room k) (sym line.derived.end) (counted_by line.derived.stands) in
    record { derived = record { middle = i; first = first.derived; second = record { middle = l; first = front.derived; second = end } }; stops = tt; within = line.within }

-- an identifier that stands there is refused for want of memory alone
pub name_memory : {ts : List Terminal} {i : ℕ} → (u : Unread) → ((spelled : List ℕ) × IsName ts i spelled) → IsNamed ts i (Err u) → u ≡ unread.NoMemory
name_memory (unread.Stuck k) named h = absurd (h.1 named.0 named.1)
name_memory (unread.TooDeep k) named h = absurd h
name_memory unread.NoMemory named h = refl
