-- What the readers of assignments answer, by what they have read.
use Rattle.std.proofs.Common.{◌≡◌, ℕ, suc, ◌+◌, ◌<◌, Bool, true, false, List, [], ◌∷◌, ◌++◌, length, Result, Ok, Err, sym, ap, subst, arith}
use Rattle.std.specs.Prelude.{MatchResult}
use Rattle.std.proofs.lemmas.Bool.{false≢true}
use Rattle.px_base.specs.declared.c_types.BinOp.{BinOp}
use Rattle.px_lexer.specs.declared.spelling.Operator.{Operator}
use Rattle.px_lexer.specs.declared.spelling.Operator.TheVariants as sign
use Rattle.px_lexer.specs.declared.token_list.Tokens.{Tokens}
use Rattle.px_lexer.specs.declared.token_list.TokenKind.{TokenKind}
use Rattle.px_lexer.specs.declared.token_list.TokenKind.TheVariants as kind
use Rattle.px_tree.specs.declared.expressions.Expr.{Expr}
use Rattle.px_tree.specs.declared.statements.StmtForm.{StmtForm}
use Rattle.px_tree.specs.declared.statements.StmtForm.TheVariants as statement
use Rattle.px_exprs.specs.declared.readings.Unread.{Unread}
use Rattle.px_exprs.specs.declared.readings.Unread.TheVariants as unread
use Rattle.px_lexer.specs.Terminals.{Terminal, IsOperator, terminals_of}
use Rattle.px_exprs.specs.Codes.{Past}
use Rattle.px_exprs.specs.Readings.{Stops}
use Rattle.px_exprs.specs.Words.{IsStuckAt}
use Rattle.px_parser.specs.declared.readings.Found.{Found}
use Rattle.px_parser.specs.Listings.{IsListing}
use Rattle.px_parser.specs.Shapes.{Shape}
use Rattle.px_parser.specs.Readings.{IsStuck, IsUnread, IsReading, Reads}
use Rattle.px_parser.specs.StatementGrammar.{IsWithinLimit}
use Rattle.px_parser.specs.Parts.{ExprsRead, IsTargetTree, Assigned}
use Rattle.px_parser.specs.Ends.{EndsExprs, EndsSimple}
use Rattle.px_parser.proofs.Steps.{fails}
use Rattle.px_parser.proofs.ExprShapes.{good_exprs_read}
use Rattle.px_parser.proofs.TargetsSteps.{Assigning, Augmenting, front_more, none_later, assigning_more, step_exprs, step_behind, step_value, augment_reads, augment_ended, assigning_reads, value_stuck}

-- Behind an operator stands a token

abbrev is_end : TokenKind → Bool
is_end kind.End = true
is_end _ = false

no_end : (o : Operator) → kind.Operator o ≡ kind.End → ⊥
no_end o e = false≢true (ap is_end e)

pub behind_operator : (tokens : Tokens) (i : ℕ) (o : Operator) → IsListing tokens → IsOperator (terminals_of tokens) i o → i + 1 < length tokens.list
behind_operator tokens i o listing h = omega (arith, listing.goes_on i (kind.Operator o) h (no_end o))

-- A tree where a form may end

pub ended_reads : {A : Type 0} {X : Shape A} {S : Stops} (ts : List Terminal) (from room : ℕ) (tree : A) (to : ℕ) (r : Result (Found A) Unread)
    → MatchResult r (λ found. (found.tree ≡ tree) × (found.to ≡ to) × S ts to) (λ u. IsStuckAt to u × (S ts to → ⊥)) → (S ts to → IsReading X S ts from room tree to) → ((S ts to → ⊥) → IsStuck X S ts from room to) → Reads X S ts from room r
ended_reads {X = X} {S} ts from room tree to (Ok found) m reading stuck =
    subst (λ t. IsReading X S ts from room t found.to) (sym m.0) (subst (λ k. IsReading X S ts from room tree k) (sym m.1) (reading m.2))
ended_reads {X = X} {S} ts from room tree to (Err (unread.Stuck k)) m reading stuck = subst (λ n. IsStuck X S ts from room n) (sym m.0) (stuck m.1)
ended_reads ts from room tree to (Err (unread.TooDeep k)) m reading stuck = absurd m.0
ended_reads ts from room tree to (Err unread.NoMemory) m reading stuck = tt

-- Augmented assignments

pub value_refused : {ts : List Terminal} {from to : ℕ} {p : Expr × Bool} {meant : BinOp} → Augmenting ts from p to meant → p.1 ≡ true → IsTargetTree p.0 → (room : ℕ) (u : Unread) → IsUnread IsWithinLimit (Past 26) ts (to + 1) room u
    → IsUnread Assigned EndsSimple ts from room u
value_refused {ts} {from} {to} {p} {meant} a one target room u h =
    let next : to + 1 ≡ suc to = omega arith in
    fails (step_value ts from to room p meant a one target) u (subst (λ k. IsUnread IsWithinLimit (Past 26) ts k room u) next h)

pub augmentation_read : {ts : List Terminal} {from to end : ℕ} {p : Expr × Bool} {meant : BinOp} {t v w : Expr} → Augmenting ts from p to meant → p.1 ≡ true → IsTargetTree p.0 → (room : ℕ) → IsReading IsWithinLimit (Past 26) ts (to + 1) room v end → t ≡ p.0 → w ≡ v
    → (r : Result (Found StmtForm) Unread) → MatchResult r (λ found. (found.tree ≡ statement.Augment t meant w) × (found.to ≡ end) × EndsSimple ts end) (λ u. IsStuckAt end u × (EndsSimple ts end → ⊥)) → Reads Assigned EndsSimple ts from room r
augmentation_read {ts} {from} {to} {end} {p} {meant} {t} {v} {w} a one target room value own same r h =
    let m = subst (λ e. MatchResult r (λ found. (found.tree ≡ statement.Augment e meant w) × (found.to ≡ end) × EndsSimple ts end) (λ u. IsStuckAt end u × (EndsSimple ts end → ⊥))) own h in
    let next : to + 1 ≡ suc to = omega arith in
    let there = subst (λ k. IsReading IsWithinLimit (Past 26) ts k room w end) next (subst (λ e. IsReading IsWithinLimit (Past 26) ts (to + 1) room e end) (sym same) value) in
    ended_reads ts from room (statement.Augment p.0 meant w) end r m (λ stop. augment_reads a one target room there stop) (λ endless. augment_ended a one target room there endless)

-- Assignments

pub first_refused : (ts : List Terminal) (from room : ℕ) (u : Unread) → IsUnread ExprsRead EndsExprs ts from room u → IsUnread Assigned EndsSimple ts from room u
first_refused ts from room u h = fails (step_exprs ts from room) u h

pub next_refused : {ts : List Terminal} {from to : ℕ} {xs : List Expr} {v : Expr} → Assigning ts from xs v to → IsTargetTree v → IsOperator ts to sign.Equal → (room : ℕ) (u : Unread) → IsUnread ExprsRead EndsExprs ts (to + 1) room u
    → IsUnread Assigned EndsSimple ts from room u
next_refused {ts} {from} {to} {xs} {v} a target equal room u h =
    let next : to + 1 ≡ suc to = omega arith in
    fails (step_behind ts from (suc to) room (xs ++ v ∷ []) (front_more a target equal room) (none_later a.plain (omega arith))) u (subst (λ k. IsUnread ExprsRead EndsExprs ts k room u) next h)

pub assigning_on : {ts : List Terminal} {from to end : ℕ} {xs : List Expr} {v : Expr} (p : Expr × Bool) → Assigning ts from xs v to → IsTargetTree v → IsOperator ts to sign.Equal → ((room : ℕ) → IsReading ExprsRead EndsExprs ts (to + 1) room p end)
    → Assigning ts from (xs ++ v ∷ []) p.0 end
assigning_on {ts} {to = to} {end} p a target equal read =
    let next : to + 1 ≡ suc to = omega arith in
    assigning_more p a target equal (λ room. subst (λ k. IsReading ExprsRead EndsExprs ts k room p end) next (read room))

pub next_forward : {ts : List Terminal} {to end room : ℕ} {p : Expr × Bool} → IsReading ExprsRead EndsExprs ts (to + 1) room p end → to < end
next_forward r = omega (arith, good_exprs_read.sound.forward r.derived)

pub assignment_read : {ts : List Terminal} {from to : ℕ} {xs : List Expr} {v : Expr} → Assigning ts from xs v to → (IsOperator ts to sign.Equal → ⊥) → (room : ℕ) (r : Result (Found StmtForm) Unread)
    → MatchResult r (λ found. (found.tree ≡ statement.Assign xs v) × (found.to ≡ to) × EndsSimple ts to) (λ u. IsStuckAt to u × (EndsSimple ts to → ⊥)) → Reads Assigned EndsSimple ts from room r
assignment_read {ts} {from} {to} {xs} {v} a unequal room r m = ended_reads ts from room (statement.Assign xs v) to r m (λ stop. assigning_reads a stop room) (λ endless. value_stuck a unequal endless room)
