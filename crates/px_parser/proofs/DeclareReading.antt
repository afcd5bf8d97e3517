-- What the readers of declarations answer.
use Rattle.std.proofs.Common.{◌≡◌, ℕ, suc, ◌+◌, ◌<◌, ◌⊎◌, inl, inr, List, [], ◌∷◌, ◌++◌, Option, Result, Ok, Err, length, refl, sym, ap, subst, ◌∙◌, arith}
use Rattle.px_base.specs.declared.refusals.Span.{Span}
use Rattle.px_lexer.specs.declared.spelling.Keyword.TheVariants as word
use Rattle.px_lexer.specs.declared.spelling.Operator.TheVariants as sign
use Rattle.px_lexer.specs.declared.token_list.TokenKind.TheVariants as kind
use Rattle.px_tree.specs.declared.expressions.Expr.{Expr}
use Rattle.px_tree.specs.declared.typings.«Type».{«Type» as Typing}
use Rattle.px_tree.specs.declared.statements.Declaration.{Declaration}
use Rattle.px_tree.specs.declared.statements.Declarator.{Declarator}
use Rattle.px_tree.specs.declared.statements.Stmt.{Stmt}
use Rattle.px_tree.specs.declared.statements.StmtForm.TheVariants as statement
use Rattle.px_exprs.specs.declared.readings.Unread.{Unread}
use Rattle.px_lexer.specs.Terminals.{Terminal, HasKind, IsOperator, IsName, IsAt}
use Rattle.px_exprs.specs.Runs.{nesting_limit}
use Rattle.px_exprs.proofs.Agreement.{agree_back}
use Rattle.px_exprs.proofs.Codes.{code_here}
use Rattle.px_exprs.proofs.Keeping.{kind_carried}
use Rattle.px_parser.specs.declared.readings.Found.{Found}
use Rattle.px_parser.specs.Shapes.{Mode, Token, Word, Sign, Seq, Either, Many, After}
use Rattle.px_parser.specs.Parsing.{strict}
use Rattle.px_parser.specs.Readings.{IsUnread, IsReading, Reads, Anywhere}
use Rattle.px_parser.specs.Ends.{EndsName, IsBefore}
use Rattle.px_parser.specs.StatementGrammar.{Declared, DeclareLine, GroupLine, DeclareGroup, Declare, declaration_of, statement_node}
use Rattle.px_parser.specs.Parts.{TypedName, DeclRest}
use Rattle.px_parser.proofs.Shapely.{good_seq, good_placed, good_here}
use Rattle.px_parser.proofs.Onlies.{Only, leads_anywhere}
use Rattle.px_parser.proofs.Steps.{Step, Never, fails, many_more, step_first, step_second, step_of, step_left, step_right, step_many, step_twice, step_alike}
use Rattle.px_parser.proofs.TokenSteps.{after_read, before_read, counted_read, here_by, placed_by, step_after, step_before, step_behind, step_counted, step_token, step_token_behind}
use Rattle.px_parser.proofs.ForkSteps.{Nowhere, fails_beside}
use Rattle.px_parser.proofs.VariableShapes.{IsNameThere, LineEnd, GroupLines, ToDedent, FromIndent, FromNewline, ColonHere, FromColon, CdefGroup, DeclaredRead, good_typed_name, only_typed_name, good_decl_rest, leads_decl_rest, good_declared_read, alike_declared, typed_opened, declared_opened, declared_made, declarator_of, good_declared, solid_declared, good_cdef_declared, solid_cdef_declared, good_declare_line, declare_line_begins, good_group_line, only_group_line, leads_group_line, good_more_lines, good_group_lines, only_group_lines, name_is_no_dedent, good_to_dedent, good_from_indent, good_from_newline, good_colon_here, only_colon_here, good_from_colon, good_cdef_group, solid_cdef_group, good_declare_group, declare_group_begins}
use Rattle.px_parser.proofs.PartSteps.{step_placed, step_here}

abbrev pub Variables : Type 0
Variables = Typing × (List Declarator × ℕ)

-- A type, and variables

pub declared_step : (ts : List Terminal) (i room : ℕ) → Step DeclaredRead Anywhere Declared Anywhere ts i i room
declared_step ts i room = step_alike Anywhere ts i room good_declared_read.rises alike_declared

pub declared_type_refused : (ts : List Terminal) (i room : ℕ) (u : Unread) → IsUnread TypedName EndsName ts i room u → IsUnread Declared Anywhere ts i room u
declared_type_refused ts i room u h = fails (step_twice (step_first ts i room good_typed_name.sound good_typed_name.rises (λ a. good_decl_rest.fresh) (λ a. leads_decl_rest)) (declared_step ts i room)) u h

pub declared_rest_refused : (ts : List Terminal) (i l room : ℕ) (p : Typing × ℕ) (u : Unread) → IsReading TypedName EndsName ts i room p l → IsUnread DeclRest Anywhere ts l room u → IsUnread Declared Anywhere ts i room u
declared_rest_refused ts i l room p u reading h =
    fails (step_twice (step_second ts i l room p good_typed_name.sound good_typed_name.rises only_typed_name (λ b. leads_decl_rest) good_decl_rest.rises reading.derived reading.stops) (declared_step ts i room)) u h

pub typed_named : (ts : List Terminal) (i l room : ℕ) (p : Typing × ℕ) → IsReading TypedName EndsName ts i room p l → (spelled : List ℕ) × IsName ts p.1 spelled
typed_named ts i l room p reading =
    let a = typed_opened reading.derived in
    (a.name, subst (λ x. IsName ts x a.name) (sym a.counted) a.named)

pub declared_read : (ts : List Terminal) (i l j room : ℕ) (p : Typing × ℕ) (r : Option Expr × (List Declarator × ℕ)) (all : List Declarator) → IsReading TypedName EndsName ts i room p l → IsReading DeclRest Anywhere ts l room r j
    → ((at : Span) × (spelled : List ℕ) × IsAt ts p.1 at × IsName ts p.1 spelled × (all ≡ declarator_of p.1 at spelled r.0 ∷ r.1.0)) → IsReading Declared Anywhere ts i room (p.0, (all, r.1.1)) j
declared_read ts i l j room p r all first second known = record {
  derived = subst (λ xs. Declared (strict nesting_limit) ts i (p.0, (xs, r.1.1)) room j) (sym known.4) (declared_made (strict nesting_limit) ts i room l j p r known.0 known.1 first.derived second.derived known.2 known.3);
  stops = tt;
  within = second.within;
}

line_end_counts : {mode : Mode} {ts : List Terminal} {i t n j : ℕ} → LineEnd mode ts i t n j → j ≡ suc t
line_end_counts h = omega (arith, h.tree, h.read.first.counted, h.read.first.end, h.read.second.end)

rest_counts : (mode : Mode) (ts : List Terminal) (i n j : ℕ) (r : Option Expr × (List Declarator × ℕ)) → DeclRest mode ts i r n j → j ≡ suc r.1.1
unfolding DeclRest
rest_counts mode ts i n j r h = line_end_counts h.second.second

-- the NEWLINE stands inside the list
pub declared_inside : (ts : List Terminal) (i j room : ℕ) (p : Variables) → IsReading Declared Anywhere ts i room p j → p.1.1 < length ts
declared_inside ts i j room p reading =
    let a = declared_opened reading.derived in
    omega (arith, rest_counts (strict nesting_limit) ts (suc a.middle) room j (a.value, (a.others, p.1.1)) a.rest, reading.within)

-- A line

pub line_step : (ts : List Terminal) (i room : ℕ) → Step (After (kind.Keyword word.Cdef) Declared) Anywhere DeclareLine Anywhere ts i i room
unfolding DeclareLine
line_step ts i room =
    let placed = good_placed solid_cdef_declared good_cdef_declared in
    step_twice (step_placed Anywhere ts i room solid_cdef_declared good_cdef_declared.rises) (step_twice (step_here Anywhere ts i room placed.rises) (step_of _ Anywhere ts i room (good_seq good_here placed).rises))

pub line_word_refused : (ts : List Terminal) (i room : ℕ) (u : Unread) → IsUnread (Word word.Cdef) Anywhere ts i room u → IsUnread DeclareLine Anywhere ts i room u
line_word_refused ts i room u h = fails (step_twice (step_token (kind.Keyword word.Cdef) Anywhere ts i room good_declared) (line_step ts i room)) u h

pub line_declared_refused : (ts : List Terminal) (i l room : ℕ) (u : Unread) → IsReading (Word word.Cdef) Anywhere ts i room tt l → IsUnread Declared Anywhere ts l room u → IsUnread DeclareLine Anywhere ts i room u
line_declared_refused ts i l room u cdef h = fails (step_twice (step_behind Anywhere ts i l room good_declared cdef.derived) (line_step ts i room)) u h

pub line_read : (ts : List Terminal) (i l j room : ℕ) (p : Variables) (s : Stmt) → IsReading (Word word.Cdef) Anywhere ts i room tt l → IsReading Declared Anywhere ts l room p j
    → ((at : Span) × IsAt ts i at × (s ≡ statement_node p.1.1 at (statement.Declare (declaration_of i at p)))) → IsReading DeclareLine Anywhere ts i room s j
unfolding DeclareLine
line_read ts i l j room p s cdef reading known = record {
  derived = record { inner = (i, (known.0, p)); read = here_by (placed_by known.1 (after_read cdef.derived reading.derived)); tree = known.2 };
  stops = tt;
  within = reading.within;
}

-- The lines of a group

group_line_step : (ts : List Terminal) (i room : ℕ) → Step Declared Anywhere GroupLine Anywhere ts i i room
unfolding GroupLine
group_line_step ts i room = step_twice (step_placed Anywhere ts i room solid_declared good_declared.rises) (step_of _ Anywhere ts i room (good_placed solid_declared good_declared).rises)

group_line_by : (ts : List Terminal) (i j room : ℕ) (p : Variables) (d : Declaration) → IsReading Declared Anywhere ts i room p j → ((at : Span) × IsAt ts i at × (d ≡ declaration_of p.1.1 at p)) → GroupLine (strict nesting_limit) ts i d room j
unfolding GroupLine
group_line_by ts i j room p d reading known = record { inner = (known.0, p); read = placed_by known.1 reading.derived; tree = known.2 }

lines_step : (ts : List Terminal) (i room : ℕ) → Step (Seq GroupLine (Many GroupLine)) (IsBefore kind.Dedent) GroupLines (IsBefore kind.Dedent) ts i i room
lines_step ts i room = step_of _ (IsBefore kind.Dedent) ts i room (good_seq good_group_line good_more_lines).rises

pub lines_first_refused : (ts : List Terminal) (i room : ℕ) (u : Unread) → IsUnread Declared Anywhere ts i room u → IsUnread GroupLines (IsBefore kind.Dedent) ts i room u
lines_first_refused ts i room u h =
    let first = step_first ts i room good_group_line.sound good_group_line.rises (λ a. good_more_lines.fresh) (λ a. leads_anywhere (Many GroupLine) (IsBefore kind.Dedent)) in
    fails (step_twice (step_twice (group_line_step ts i room) first) (lines_step ts i room)) u h

pub lines_next_refused : (ts : List Terminal) (i l room : ℕ) (ds : List Declaration) (u : Unread) → IsReading GroupLines Anywhere ts i room ds l → (HasKind ts l kind.Dedent → ⊥) → IsUnread Declared Anywhere ts l room u
    → IsUnread GroupLines (IsBefore kind.Dedent) ts i room u
lines_next_refused ts i l room ds u reading none h =
    let line : Only GroupLine Anywhere = only_group_line in
    let read = reading.derived.read in
    let others = reading.derived.inner.1 in
    let next : Step GroupLine Anywhere (Many GroupLine) (IsBefore kind.Dedent) ts read.middle l room =
    step_many ts read.middle l room others good_group_line.sound good_group_line.rises line leads_group_line name_is_no_dedent (λ us k s. tt) (λ us k s. tt) read.second (inr tt)
    (λ us agree s. none (kind_carried (suc l) (agree_back us ts agree) s (omega arith))) in
    let behind : Step (Many GroupLine) (IsBefore kind.Dedent) (Seq GroupLine (Many GroupLine)) (IsBefore kind.Dedent) ts i read.middle room =
    step_second ts i read.middle room reading.derived.inner.0 good_group_line.sound good_group_line.rises line (λ b. leads_anywhere (Many GroupLine) (IsBefore kind.Dedent)) good_more_lines.rises read.first tt in
    fails (step_twice (step_twice (step_twice (group_line_step ts l room) next) behind) (lines_step ts i room)) u h

-- lines that were read one behind the other
abbrev pub HasLines : List Terminal → ℕ → List Declaration → ℕ → Type 0
HasLines ts i ds l = (room : ℕ) → IsReading GroupLines Anywhere ts i room ds l

pub one_line : (ts : List Terminal) (i j : ℕ) (p : Variables) (d : Declaration) (none ds : List Declaration) → ((room : ℕ) → IsReading Declared Anywhere ts i room p j) → ((at : Span) × IsAt ts i at × (d ≡ declaration_of p.1.1 at p)) → none ≡ []
    → ds ≡ none ++ d ∷ [] → HasLines ts i ds j
one_line ts i j p d none ds reading known empty e room =
    let one : ds ≡ d ∷ [] = e ∙ ap (λ xs. xs ++ d ∷ []) empty in
    let here = reading room in
    record {
      derived = record { inner = (d, []); read = record { middle = j; first = group_line_by ts i j room p d here known; second = Many.none }; tree = one };
      stops = tt;
      within = here.within;
    }

pub more_lines : (ts : List Terminal) (i l j : ℕ) (p : Variables) (d : Declaration) (ds longer : List Declaration) → HasLines ts i ds l → ((room : ℕ) → IsReading Declared Anywhere ts l room p j) → ((at : Span) × IsAt ts l at × (d ≡ declaration_of p.1.1 at p))
    → longer ≡ ds ++ d ∷ [] → HasLines ts i longer j
more_lines ts i l j p d ds longer front reading known e room =
    let before = (front room).derived in
    let here = reading room in
    record {
      derived = record {
        inner = (before.inner.0, before.inner.1 ++ d ∷ []);
        read = record { middle = before.read.middle; first = before.read.first; second = many_more before.read.second (group_line_by ts l j room p d here known) };
        tree = e ∙ ap (λ xs. xs ++ d ∷ []) before.tree;
      };
      stops = tt;
      within = here.within;
    }

pub lines_read : (ts : List Terminal) (i l room : ℕ) (ds : List Declaration) → IsReading GroupLines Anywhere ts i room ds l → HasKind ts l kind.Dedent → IsReading GroupLines (IsBefore kind.Dedent) ts i room ds l
lines_read ts i l room ds reading dedent = record { derived = reading.derived; stops = dedent; within = reading.within }

-- A group

group_step : (ts : List Terminal) (i room : ℕ) → Step CdefGroup Anywhere DeclareGroup Anywhere ts i i room
unfolding DeclareGroup
group_step ts i room = step_twice (step_placed Anywhere ts i room solid_cdef_group good_cdef_group.rises) (step_of _ Anywhere ts i room (good_placed solid_cdef_group good_cdef_group).rises)

pub group_word_refused : (ts : List Terminal) (i room : ℕ) (u : Unread) → IsUnread (Word word.Cdef) Anywhere ts i room u → IsUnread DeclareGroup Anywhere ts i room u
group_word_refused ts i room u h = fails (step_twice (step_token (kind.Keyword word.Cdef) Anywhere ts i room good_from_colon) (group_step ts i room)) u h

colon_step : (ts : List Terminal) (i a room : ℕ) → Token (kind.Keyword word.Cdef) (strict nesting_limit) ts i tt room a → Step FromColon Anywhere DeclareGroup Anywhere ts i a room
colon_step ts i a room cdef = step_twice (step_behind Anywhere ts i a room good_from_colon cdef) (group_step ts i room)

pub group_colon_refused : (ts : List Terminal) (i a room : ℕ) (u : Unread) → IsReading (Word word.Cdef) Anywhere ts i room tt a → IsUnread (Sign sign.Colon) Anywhere ts a room u → IsUnread DeclareGroup Anywhere ts i room u
group_colon_refused ts i a room u cdef h =
    let first : Step ColonHere Anywhere FromColon Anywhere ts a a room = step_first ts a room good_colon_here.sound good_colon_here.rises (λ x. good_from_newline.fresh) (λ x. leads_anywhere FromNewline Anywhere) in
    fails (step_twice (step_twice (step_counted (kind.Operator sign.Colon) Anywhere ts a room) first) (colon_step ts i a room cdef.derived)) u h

newline_step : (ts : List Terminal) (i a b room : ℕ) → Token (kind.Keyword word.Cdef) (strict nesting_limit) ts i tt room a → Token (kind.Operator sign.Colon) (strict nesting_limit) ts a tt room b → Step FromNewline Anywhere DeclareGroup Anywhere ts i b room
newline_step ts i a b room cdef colon =
    let here : Only ColonHere Anywhere = only_colon_here in
    step_twice (step_second ts a b room a good_colon_here.sound good_colon_here.rises here (λ x. leads_anywhere FromNewline Anywhere) good_from_newline.rises (counted_read colon) tt) (colon_step ts i a room cdef)

pub group_newline_refused : (ts : List Terminal) (i a b room : ℕ) (u : Unread) → IsReading (Word word.Cdef) Anywhere ts i room tt a → IsReading (Sign sign.Colon) Anywhere ts a room tt b → IsUnread (Token kind.Newline) Anywhere ts b room u
    → IsUnread DeclareGroup Anywhere ts i room u
group_newline_refused ts i a b room u cdef colon h = fails (step_twice (step_token kind.Newline Anywhere ts b room good_from_indent) (newline_step ts i a b room cdef.derived colon.derived)) u h

-- the tokens before the lines
pub record Opening (ts : List Terminal) (i a b c room : ℕ) : Type 0 where
  pub cdef : IsReading (Word word.Cdef) Anywhere ts i room tt a
  pub colon : IsReading (Sign sign.Colon) Anywhere ts a room tt b
  pub newline : IsReading (Token kind.Newline) Anywhere ts b room tt c

indent_step : (ts : List Terminal) (i a b c room : ℕ) → Opening ts i a b c room → Step FromIndent Anywhere DeclareGroup Anywhere ts i c room
indent_step ts i a b c room o = step_twice (step_behind Anywhere ts b c room good_from_indent o.newline.derived) (newline_step ts i a b room o.cdef.derived o.colon.derived)

pub group_indent_refused : (ts : List Terminal) (i a b c room : ℕ) (u : Unread) → Opening ts i a b c room → IsUnread (Token kind.Indent) Anywhere ts c room u → IsUnread DeclareGroup Anywhere ts i room u
group_indent_refused ts i a b c room u o h = fails (step_twice (step_token kind.Indent Anywhere ts c room good_to_dedent) (indent_step ts i a b c room o)) u h

dedent_step : (ts : List Terminal) (i a b c d room : ℕ) → Opening ts i a b c room → IsReading (Token kind.Indent) Anywhere ts c room tt d → Step ToDedent Anywhere DeclareGroup Anywhere ts i d room
dedent_step ts i a b c d room o indent = step_twice (step_behind Anywhere ts c d room good_to_dedent indent.derived) (indent_step ts i a b c room o)

pub group_lines_refused : (ts : List Terminal) (i a b c d room : ℕ) (u : Unread) → Opening ts i a b c room → IsReading (Token kind.Indent) Anywhere ts c room tt d → IsUnread GroupLines (IsBefore kind.Dedent) ts d room u
    → IsUnread DeclareGroup Anywhere ts i room u
group_lines_refused ts i a b c d room u o indent h = fails (step_twice (step_before kind.Dedent Anywhere ts d room good_group_lines (λ us j s. s)) (dedent_step ts i a b c d room o indent)) u h

pub group_end_refused : (ts : List Terminal) (i a b c d l room : ℕ) (ds : List Declaration) (u : Unread) → Opening ts i a b c room → IsReading (Token kind.Indent) Anywhere ts c room tt d → IsReading GroupLines (IsBefore kind.Dedent) ts d room ds l
    → IsUnread (Token kind.Dedent) Anywhere ts l room u → IsUnread DeclareGroup Anywhere ts i room u
group_end_refused ts i a b c d l room ds u o indent lines h =
    fails (step_twice (step_token_behind kind.Dedent Anywhere ts d l room ds good_group_lines only_group_lines (λ us j s. s) lines.derived lines.stops) (dedent_step ts i a b c d room o indent)) u h

pub group_read : (ts : List Terminal) (i a b c d l j room : ℕ) (ds : List Declaration) (at : Span) → Opening ts i a b c room → IsReading (Token kind.Indent) Anywhere ts c room tt d → IsReading GroupLines (IsBefore kind.Dedent) ts d room ds l
    → IsReading (Token kind.Dedent) Anywhere ts l room tt j → IsAt ts i at → IsReading DeclareGroup Anywhere ts i room (statement_node a at (statement.DeclareGroup ds)) j
unfolding DeclareGroup
group_read ts i a b c d l j room ds at o indent lines dedent placed =
    let behind : FromNewline (strict nesting_limit) ts b ds room j = after_read o.newline.derived (after_read indent.derived (before_read lines.derived dedent.derived)) in
    let colon : FromColon (strict nesting_limit) ts a (a, ds) room j = record { middle = b; first = counted_read o.colon.derived; second = behind } in
    record {
      derived = record { inner = (at, (a, ds)); read = placed_by placed (after_read o.cdef.derived colon); tree = refl };
      stops = tt;
      within = dedent.within;
    }

-- A line or a group

declare_parts : (mode : Mode) (us : List Terminal) (i : ℕ) (t : Stmt) (n j : ℕ) → Declare mode us i t n j → DeclareLine mode us i t n j ⊎ DeclareGroup mode us i t n j
unfolding Declare
declare_parts mode us i t n j h = elim (h) [
  | Either.left a ↦ inl a
  | Either.right b ↦ inr b
]

declare_parts_back : (mode : Mode) (us : List Terminal) (i : ℕ) (t : Stmt) (n j : ℕ) → Declare mode us i t n j → DeclareGroup mode us i t n j ⊎ DeclareLine mode us i t n j
unfolding Declare
declare_parts_back mode us i t n j h = elim (h) [
  | Either.left a ↦ inr a
  | Either.right b ↦ inl b
]

pub line_whole : (ts : List Terminal) (i room : ℕ) → Step DeclareLine Anywhere Declare Nowhere ts i i room
unfolding Declare
line_whole ts i room =
    let never : Never DeclareGroup Nowhere ts i = λ us agree mode t n j x s. s in
    let step = step_left {S = Nowhere} ts i room good_declare_line.rises never in
    record { forward = step.forward; rising = step.rising; make = step.make; split = λ mode us n f j agree sees y stop. absurd stop }

pub group_whole : (ts : List Terminal) (i room : ℕ) → Step DeclareGroup Anywhere Declare Nowhere ts i i room
unfolding Declare
group_whole ts i room =
    let never : Never DeclareLine Nowhere ts i = λ us agree mode t n j x s. s in
    let step = step_right {S = Nowhere} ts i room good_declare_group.rises never in
    record { forward = step.forward; rising = step.rising; make = step.make; split = λ mode us n f j agree sees y stop. absurd stop }

colon_is_no_name : {ts : List Terminal} {i : ℕ} → IsOperator ts i sign.Colon → IsNameThere ts i → ⊥
colon_is_no_name colon name = omega (arith, code_here colon, code_here name)

line_refused : (ts : List Terminal) (i room : ℕ) (u : Unread) → (IsOperator ts (suc i) sign.Colon → ⊥) → IsUnread DeclareLine Anywhere ts i room u → IsUnread Declare Anywhere ts i room u
line_refused ts i room u none h =
    fails_beside DeclareGroup ts i room (kind.Keyword word.Cdef) (line_whole ts i room) (λ mode us t n j z. declare_parts mode us i t n j z) (λ mode us t n j y. (declare_group_begins mode us i n j t y).0)
    (λ mode us t n j agree y. none (kind_carried (suc (suc i)) (agree_back us ts agree) (declare_group_begins mode us i n j t y).1 (omega arith))) good_declared.fresh
    (λ cdef. step_twice (step_after Anywhere ts i room good_declared cdef) (line_step ts i room)) u h

group_refused : (ts : List Terminal) (i room : ℕ) (u : Unread) → IsOperator ts (suc i) sign.Colon → IsUnread DeclareGroup Anywhere ts i room u → IsUnread Declare Anywhere ts i room u
group_refused ts i room u colon h =
    fails_beside DeclareLine ts i room (kind.Keyword word.Cdef) (group_whole ts i room) (λ mode us t n j z. declare_parts_back mode us i t n j z) (λ mode us t n j y. (declare_line_begins mode us i n j t y).0)
    (λ mode us t n j agree y. colon_is_no_name (kind_carried (suc (suc i)) agree colon (omega arith)) (declare_line_begins mode us i n j t y).1) good_from_colon.fresh
    (λ cdef. step_twice (step_after Anywhere ts i room good_from_colon cdef) (group_step ts i room)) u h

pub declare_by_line : (ts : List Terminal) (i room : ℕ) (r : Result (Found Stmt) Unread) → (IsOperator ts (i + 1) sign.Colon → ⊥) → Reads DeclareLine Anywhere ts i room r → Reads Declare Anywhere ts i room r
unfolding Declare
declare_by_line ts i room (Ok found) none h = record { derived = Either.left h.derived; stops = tt; within = h.within }
declare_by_line ts i room (Err u) none h =
    let next : suc i ≡ i + 1 = omega arith in
    line_refused ts i room u (λ colon. none (subst (λ k. IsOperator ts k sign.Colon) next colon)) h

pub declare_by_group : (ts : List Terminal) (i room : ℕ) (r : Result (Found Stmt) Unread) → IsOperator ts (i + 1) sign.Colon → Reads DeclareGroup Anywhere ts i room r → Reads Declare Anywhere ts i room r
unfolding Declare
declare_by_group ts i room (Ok found) colon h = record { derived = Either.right h.derived; stops = tt; within = h.within }
declare_by_group ts i room (Err u) colon h =
    let next : i + 1 ≡ suc i = omega arith in
    group_refused ts i room u (subst (λ k. IsOperator ts k sign.Colon) next colon) h
