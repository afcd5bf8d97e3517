-- How compound statements are read: each part is a part of the whole.
use Rattle.std.proofs.Common.{◌≡◌, ℕ, suc, ◌+◌, ◌<◌, List, [], ◌∷◌, ◌++◌, inr, Option, Some, None, length, refl, sym, subst, ap, ◌∙◌, arith, codes, Result, Ok, Err, MatchResult}
use Rattle.px_base.specs.declared.refusals.Span.{Span}
use Rattle.px_lexer.specs.declared.spelling.Keyword.{Keyword}
use Rattle.px_lexer.specs.declared.spelling.Keyword.TheVariants as word
use Rattle.px_lexer.specs.declared.spelling.Operator.TheVariants as sign
use Rattle.px_lexer.specs.declared.token_list.TokenKind.TheVariants as kind
use Rattle.px_tree.specs.declared.expressions.Expr.{Expr}
use Rattle.px_tree.specs.declared.statements.Arm.{Arm}
use Rattle.px_tree.specs.declared.statements.Stmt.{Stmt}
use Rattle.px_tree.specs.declared.statements.StmtForm.{StmtForm}
use Rattle.px_tree.specs.declared.statements.StmtForm.TheVariants as statement
use Rattle.px_lexer.specs.declared.token_list.Tokens.{Tokens}
use Rattle.px_exprs.specs.declared.readings.Unread.{Unread}
use Rattle.px_lexer.specs.Terminals.{terminals_of, Terminal, IsKeyword, IsOperator, IsName, IsAt}
use Rattle.px_exprs.specs.Words.{IsStuckAt}
use Rattle.px_parser.specs.declared.readings.Found.{Found}
use Rattle.px_parser.specs.Listings.{IsListing}
use Rattle.px_parser.proofs.TokenSteps.{here_by}
use Rattle.px_parser.proofs.TokenShapes.{unread_at}
use Rattle.px_exprs.specs.Codes.{Past}
use Rattle.px_exprs.specs.Runs.{nesting_limit}
use Rattle.px_exprs.proofs.Agreement.{agree_back}
use Rattle.px_lexer.proofs.OneToken.{one_place}
use Rattle.px_exprs.proofs.Keeping.{name_carried, kind_carried}
use Rattle.px_parser.specs.Shapes.{Mode, Shape, Token, Soft, Here, Placed, Seq, Either, Many, Of, After, Before}
use Rattle.px_parser.specs.Parsing.{strict}
use Rattle.px_parser.specs.Readings.{IsReading, IsStuck, Reads, Anywhere}
use Rattle.px_parser.specs.Ends.{EndsExprs, EndsArms, EndsElifs, IsBefore}
use Rattle.px_parser.specs.StatementGrammar.{IsWithinLimit, Exprs, LoopTargets, Body, Guarded, Armed, If, While, For, LockWord, With, Block, arm_of, if_of, statement_node}
use Rattle.px_parser.proofs.Shapely.{Good, good_here, good_seq, good_of, good_placed, good_many, good_maybe, good_after, good_before, good_either, good_soft}
use Rattle.px_parser.proofs.Onlies.{Leads, Clash, Only, leads_anywhere, leads_wider, only_before, only_here, only_after, only_of}
use Rattle.px_parser.proofs.Steps.{Step, Never, Local, Alike, step_twice, step_alike, step_many, many_more, stuck_here, step_narrower}
use Rattle.px_parser.proofs.ExprShapes.{good_expr, only_expr, good_exprs, only_exprs}
use Rattle.px_parser.proofs.ReadingSteps.{read_both, read_of, read_left, read_right, read_after, read_placed, read_end, read_absent, step_front, step_back, step_made, step_word, step_after, step_numbered_end, step_placed, step_or, ended_stuck, stuck_of, kind_read, spelled_read}
use Rattle.px_parser.proofs.KindLaws.{solid_after}
use Rattle.px_parser.proofs.CompoundShapes
use Rattle.px_parser.proofs.BlockShapes
use Rattle.px_parser.proofs.TargetsOnly.{good_loop_targets, only_loop_targets}
use Rattle.px_parser.proofs.PartSteps.{step_here}

-- ':' block

abbrev ColonHere : Shape ℕ
ColonHere = Before Here (kind.Operator sign.Colon)

good_colon : Good ColonHere
good_colon = good_before _ good_here

only_colon : Only ColonHere Anywhere
only_colon = only_before (kind.Operator sign.Colon) Anywhere good_here.sound (only_here Anywhere) (λ ts i h. tt)

pub good_body : Good (Body Block)
unfolding Body
good_body = good_seq good_colon BlockShapes.good_block

pub step_body_colon : (ts : List Terminal) (i room : ℕ) → Step (Token (kind.Operator sign.Colon)) Anywhere (Body Block) Anywhere ts i i room
unfolding Body
step_body_colon ts i room = step_twice (step_numbered_end (kind.Operator sign.Colon)) (step_front good_colon BlockShapes.good_block (leads_anywhere Block Anywhere))

pub step_body_block : {ts : List Terminal} {i l room : ℕ} {t : Unit {0}} → IsReading (Token (kind.Operator sign.Colon)) Anywhere ts i room t l → Step Block Anywhere (Body Block) Anywhere ts i l room
unfolding Body
step_body_block colon = step_back good_colon BlockShapes.good_block only_colon (leads_anywhere Block Anywhere) (read_end (kind.Operator sign.Colon) colon)

pub read_body : {ts : List Terminal} {i l j room : ℕ} {t : Unit {0}} {block : List Stmt} → IsReading (Token (kind.Operator sign.Colon)) Anywhere ts i room t l → IsReading Block Anywhere ts l room block j
    → IsReading (Body Block) Anywhere ts i room (i, block) j
unfolding Body
read_body colon block = read_both (read_end (kind.Operator sign.Colon) colon) block

-- the number of a body is an index of its tokens
pub colon_inside : {ts : List Terminal} {i j room : ℕ} {body : ℕ × List Stmt} → IsReading (Body Block) Anywhere ts i room body j → body.0 < length ts
unfolding Body
colon_inside {j = j} h =
    let colon = h.derived.first.read in
    let forward = BlockShapes.sound_block.forward h.derived.second in
    omega (arith, h.within, colon.first.counted, colon.first.end, colon.second.end, forward)

-- a keyword, expr ':' block

abbrev Tested : Shape (Expr × (ℕ × List Stmt))
Tested = Seq IsWithinLimit (Body Block)

good_tested : Good Tested
good_tested = good_seq good_expr good_body

leads_body_past : Leads (Body Block) Anywhere (Past 26)
leads_body_past = leads_wider (CompoundShapes.leads_body Block {R = Anywhere}) CompoundShapes.colon_past

pub good_guarded : (w : Keyword) → Good (Guarded w Block)
unfolding Guarded
good_guarded w = good_placed (solid_after _ good_tested.sound) (good_after _ good_tested)

placed_guarded : (w : Keyword) (ts : List Terminal) (i room : ℕ) → Step (After (kind.Keyword w) Tested) Anywhere (Placed (After (kind.Keyword w) Tested)) Anywhere ts i i room
placed_guarded w ts i room = step_placed (good_after _ good_tested) (solid_after _ good_tested.sound)

pub step_guarded_word : (w : Keyword) (ts : List Terminal) (i room : ℕ) → Step (Token (kind.Keyword w)) Anywhere (Guarded w Block) Anywhere ts i i room
unfolding Guarded
step_guarded_word w ts i room = step_twice (step_word (kind.Keyword w) good_tested) (placed_guarded w ts i room)

pub step_guarded_test : (w : Keyword) {ts : List Terminal} {i l room : ℕ} {t : Unit {0}} → IsReading (Token (kind.Keyword w)) Anywhere ts i room t l → Step IsWithinLimit (Past 26) (Guarded w Block) Anywhere ts i l room
unfolding Guarded
step_guarded_test w {ts} {i} {l} {room} keyword = step_twice (step_twice (step_front good_expr good_body leads_body_past) (step_after (kind.Keyword w) good_tested keyword)) (placed_guarded w ts i room)

pub step_guarded_body : (w : Keyword) {ts : List Terminal} {i l m room : ℕ} {t : Unit {0}} {e : Expr} → IsReading (Token (kind.Keyword w)) Anywhere ts i room t l → IsReading IsWithinLimit (Past 26) ts l room e m
    → Step (Body Block) Anywhere (Guarded w Block) Anywhere ts i m room
unfolding Guarded
step_guarded_body w {ts} {i} {room = room} keyword test =
    step_twice (step_twice (step_back good_expr good_body only_expr leads_body_past test) (step_after (kind.Keyword w) good_tested keyword)) (placed_guarded w ts i room)

pub read_guarded : (w : Keyword) {ts : List Terminal} {i l m j room : ℕ} {at : Span} {t : Unit {0}} {e : Expr} {body : ℕ × List Stmt} → IsAt ts i at → IsReading (Token (kind.Keyword w)) Anywhere ts i room t l
    → IsReading IsWithinLimit (Past 26) ts l room e m → IsReading (Body Block) Anywhere ts m room body j → IsReading (Guarded w Block) Anywhere ts i room (at, (e, body)) j
unfolding Guarded
read_guarded w at keyword test body = read_placed at (read_after (kind.Keyword w) keyword (read_both test body))

body_derived_inside : (mode : Mode) (ts : List Terminal) (i n j : ℕ) (body : ℕ × List Stmt) → Body Block mode ts i body n j → body.0 < j
unfolding Body
body_derived_inside mode ts i n j body h =
    let colon = h.first.read in
    let forward = BlockShapes.sound_block.forward h.second in
    omega (arith, colon.first.counted, colon.first.end, colon.second.end, forward)

pub number_inside : (w : Keyword) {ts : List Terminal} {i j room : ℕ} {p : Span × (Expr × (ℕ × List Stmt))} → IsReading (Guarded w Block) Anywhere ts i room p j → p.1.1.0 < length ts
unfolding Guarded
number_inside w {p = p} h =
    let same : p.1.1.0 ≡ h.derived.second.inner.1.1.0 = ap (λ q. q.1.0) h.derived.second.tree in
    omega (arith, same, h.within, body_derived_inside _ _ _ _ _ _ h.derived.second.read.second.second)

-- ('elif' expr ':' block)*

-- a guarded block with the index of its keyword

pub good_armed : (w : Keyword) → Good (Armed w Block)
unfolding Armed
good_armed w = good_seq good_here (good_guarded w)

step_armed : (w : Keyword) (ts : List Terminal) (i room : ℕ) → Step (Guarded w Block) Anywhere (Armed w Block) Anywhere ts i i room
unfolding Armed
step_armed w ts i room = step_here Anywhere ts i room (good_guarded w).rises

armed_read : (w : Keyword) {ts : List Terminal} {i j room : ℕ} {p : Span × (Expr × (ℕ × List Stmt))} → IsReading (Guarded w Block) Anywhere ts i room p j → IsReading (Armed w Block) Anywhere ts i room (i, p) j
unfolding Armed
armed_read w h = record { derived = here_by h.derived; stops = tt; within = h.within }

abbrev ElifArm : Shape Arm
ElifArm = Of arm_of (Armed word.Elif Block)

good_elif : Good ElifArm
good_elif = good_of _ (good_armed word.Elif)

only_elif : Only ElifArm Anywhere
only_elif = only_of _ (CompoundShapes.only_armed word.Elif BlockShapes.sound_block BlockShapes.only_block)

pub good_elifs : Good (CompoundShapes.Elifs Block)
good_elifs = good_many good_elif

-- the parts that were read
pub record AreElifs (ts : List Terminal) (i room : ℕ) (arms : List Arm) (to : ℕ) : Type 0 where
  pub read : Many (Of arm_of (Armed word.Elif Block)) (strict nesting_limit) ts i arms room to
  pub within : to < length ts

pub elifs_begun : (ts : List Terminal) (i room : ℕ) → i < length ts → AreElifs ts i room [] i
elifs_begun ts i room inside = record { read = Many.none; within = inside }

pub elifs_on : {ts : List Terminal} {i l j room : ℕ} {arms : List Arm} {p : Span × (Expr × (ℕ × List Stmt))} → AreElifs ts i room arms l → IsReading (Guarded word.Elif Block) Anywhere ts l room p j
    → AreElifs ts i room (arms ++ arm_of (l, p) ∷ []) j
elifs_on {l = l} {p = p} front next = record { read = many_more front.read (record { inner = (l, p); read = (armed_read word.Elif next).derived; tree = refl }); within = next.within }

pub elifs_refused : {ts : List Terminal} {i l room : ℕ} {arms : List Arm} → AreElifs ts i room arms l → IsKeyword ts l word.Elif → Step (Guarded word.Elif Block) Anywhere (CompoundShapes.Elifs Block) EndsElifs ts i l room
elifs_refused {ts} {i} {l} {room} {arms} front elif_ =
    step_twice (step_twice (step_armed word.Elif ts l room) (step_made arm_of (good_armed word.Elif)))
    (step_many {S = EndsElifs} ts i l room arms good_elif.sound good_elif.rises only_elif (CompoundShapes.leads_elif Block) CompoundShapes.elif_is_no_end (λ us k h. tt) (λ us k h. tt) front.read (inr tt)
    (λ us agree none. none (kind_carried (suc l) agree elif_ (omega arith))))

pub elifs_read : {ts : List Terminal} {i l room : ℕ} {arms : List Arm} → AreElifs ts i room arms l → (IsKeyword ts l word.Elif → ⊥) → IsReading (CompoundShapes.Elifs Block) EndsElifs ts i room arms l
elifs_read front none = record { derived = front.read; stops = none; within = front.within }

-- ['else' ':' block]

abbrev ElseBlock : Shape (List Stmt)
ElseBlock = After (kind.Operator sign.Colon) Block

good_else_block : Good ElseBlock
good_else_block = good_after _ BlockShapes.good_block

abbrev ElsePart : Shape (List Stmt)
ElsePart = After (kind.Keyword word.Else) ElseBlock

good_else_part : Good ElsePart
good_else_part = good_after _ good_else_block

pub good_otherwise : Good (CompoundShapes.Otherwise Block)
good_otherwise = good_maybe good_else_part

-- the tree of a body without the number of its colon
body_block : (mode : Mode) (ts : List Terminal) (i n j : ℕ) (body : ℕ × List Stmt) → Body Block mode ts i body n j → ElseBlock mode ts i body.1 n j
unfolding Body
body_block mode ts i n j body h =
    let colon = h.first.read in
    record {
      inner = (tt, body.1);
      read = record {
        middle = h.middle;
        first = record { stands = subst (λ k. IsOperator ts k sign.Colon) colon.first.end colon.second.stands; end = omega (arith, colon.first.end, colon.second.end) };
        second = h.second;
      };
      tree = refl;
    }

block_body : {mode : Mode} {ts : List Terminal} {i n j : ℕ} {block : List Stmt} → ElseBlock mode ts i block n j → Body Block mode ts i (i, block) n j
unfolding Body
block_body {mode} {ts} {i} {n} {j} {block} h = record {
  middle = h.read.middle;
  first = record { inner = (i, tt); read = record { middle = i; first = record { counted = refl; end = refl }; second = record { stands = h.read.first.stands; end = h.read.first.end } }; tree = refl };
  second = subst (λ b. Block mode ts h.read.middle b n j) (sym h.tree) h.read.second;
}

alike_body : Alike (Body Block) ElseBlock
alike_body = record {
  there = λ {mode} {ts} {i} {n} {j} {t} h. (t.1, body_block mode ts i n j t h);
  back = λ {i} {u} h. ((i, u), block_body h);
}

pub else_is_no_arms_end : Clash CompoundShapes.IsElse EndsArms
else_is_no_arms_end ts us i agree h none = none.1 (kind_carried (suc i) agree h (omega arith))

else_step : {ts : List Terminal} {i l room : ℕ} {t : Unit {0}} → IsReading (Token (kind.Keyword word.Else)) Anywhere ts i room t l → Step ElseBlock EndsArms (CompoundShapes.Otherwise Block) EndsArms ts i l room
else_step token =
    let stands : IsKeyword _ _ word.Else = token.derived.stands in
    step_twice (step_after (kind.Keyword word.Else) good_else_block token) (step_twice (step_made Some good_else_part) (step_or None (good_of Some good_else_part) else_is_no_arms_end stands))

pub otherwise_refused : {ts : List Terminal} {i l room : ℕ} {t : Unit {0}} → IsReading (Token (kind.Keyword word.Else)) Anywhere ts i room t l → Step (Body Block) Anywhere (CompoundShapes.Otherwise Block) EndsArms ts i l room
otherwise_refused {ts} {i} {l} {room} token =
    step_twice (step_twice (step_narrower ts l room good_body.rises (λ us k h. tt)) (step_alike EndsArms ts l room good_body.rises alike_body)) (else_step token)

-- the `else` part was read, up to where another may not stand
pub otherwise_read : {ts : List Terminal} {i l j room : ℕ} {t : Unit {0}} {body : ℕ × List Stmt} → IsReading (Token (kind.Keyword word.Else)) Anywhere ts i room t l → IsReading (Body Block) Anywhere ts l room body j
    → EndsArms ts j → IsReading (CompoundShapes.Otherwise Block) EndsArms ts i room (Some body.1) j
otherwise_read {l = l} {body = body} token whole ends = record {
  derived = Either.left (record { inner = body.1; read = record { inner = (tt, body.1); read = record { middle = l; first = token.derived; second = body_block _ _ _ _ _ body whole.derived }; tree = refl }; tree = refl });
  stops = ends;
  within = whole.within;
}

pub local_arms : Local EndsArms
local_arms ts us i agree ends = (λ h. ends.0 (kind_carried (suc i) agree h (omega arith)), λ h. ends.1 (kind_carried (suc i) agree h (omega arith)))

pub otherwise_stuck : {ts : List Terminal} {i l j room : ℕ} {t : Unit {0}} {body : ℕ × List Stmt} → IsReading (Token (kind.Keyword word.Else)) Anywhere ts i room t l → IsReading (Body Block) Anywhere ts l room body j
    → (EndsArms ts j → ⊥) → IsStuck (CompoundShapes.Otherwise Block) EndsArms ts i room j
otherwise_stuck {ts} {i} {l} {j} {room} {body = body} token whole none =
    let block : IsReading ElseBlock Anywhere ts l room body.1 j = record { derived = body_block _ _ _ _ _ body whole.derived; stops = tt; within = whole.within } in
    stuck_of (else_step token) (ended_stuck good_else_block (only_after _ BlockShapes.sound_block BlockShapes.only_block) (λ us k h. tt) local_arms block none)

-- no `else` stands there
pub otherwise_absent : (ts : List Terminal) (i room : ℕ) → i < length ts → (IsKeyword ts i word.Else → ⊥) → (EndsArms ts i → ⊥) → IsStuck (CompoundShapes.Otherwise Block) EndsArms ts i room i
otherwise_absent ts i room inside no_else none = stuck_here ts i room good_otherwise.fresh inside never
  where
    never : Never (CompoundShapes.Otherwise Block) EndsArms ts i
    never us agree mode t n j (Either.left h) stop = no_else (kind_carried (suc i) (agree_back us ts agree) h.read.read.first.stands (omega arith))
    never us agree mode t n j (Either.right h) stop = none (local_arms ts us i agree (subst (EndsArms us) h.end stop))

-- what is answered where something was read, and no `elif` or `else` may stand behind it
abbrev pub GoneOn : {A : Type 0} → List Terminal → A → ℕ → Result (Found A) Unread → Type 0
GoneOn {A} ts tree to result = MatchResult result (λ (found : Found A). (found.tree ≡ tree) × (found.to ≡ to) × EndsArms ts to) (λ unread. IsStuckAt to unread × (EndsArms ts to → ⊥))

-- what was read, or the refusal behind it
pub gone_reads : {A : Type 0} {X : Shape A} (ts : List Terminal) (i room : ℕ) (tree : A) (to : ℕ) (result : Result (Found A) Unread) → (EndsArms ts to → IsReading X EndsArms ts i room tree to) → ((EndsArms ts to → ⊥) → IsStuck X EndsArms ts i room to)
    → GoneOn ts tree to result → Reads X EndsArms ts i room result
gone_reads {X = X} ts i room tree to (Ok found) read stuck h =
    subst (λ t. IsReading X EndsArms ts i room t found.to) (sym h.0) (subst (λ k. IsReading X EndsArms ts i room tree k) (sym h.1) (read h.2))
gone_reads ts i room tree to (Err u) read stuck h = unread_at u h.0 (stuck h.1)

pub otherwise_none : (ts : List Terminal) (i room : ℕ) → i < length ts → (IsKeyword ts i word.Else → ⊥) → (result : Result (Found (Option (List Stmt))) Unread) → GoneOn ts None i result → Reads (CompoundShapes.Otherwise Block) EndsArms ts i room result
otherwise_none ts i room inside no_else result h =
    gone_reads ts i room None i result (λ ends. read_absent (Of Some ElsePart) None ends inside) (λ none. otherwise_absent ts i room inside no_else none) h

pub otherwise_gone_on : {ts : List Terminal} {i l j room : ℕ} {t : Unit {0}} {body : ℕ × List Stmt} → IsReading (Token (kind.Keyword word.Else)) Anywhere ts i room t l → IsReading (Body Block) Anywhere ts l room body j
    → (result : Result (Found (Option (List Stmt))) Unread) → GoneOn ts (Some body.1) j result → Reads (CompoundShapes.Otherwise Block) EndsArms ts i room result
otherwise_gone_on {ts} {i} {l} {j} {room} {body = body} token whole result h =
    gone_reads ts i room (Some body.1) j result (λ ends. otherwise_read token whole ends) (λ none. otherwise_stuck token whole none) h

pub else_read : (tokens : Tokens) (i room : ℕ) → IsListing tokens → IsKeyword (terminals_of tokens) i word.Else → IsReading (Token (kind.Keyword word.Else)) Anywhere (terminals_of tokens) i room tt (i + 1)
else_read tokens i room listing h = kind_read tokens i (i + 1) room listing h (λ e. cc) (omega arith)

-- if

good_arms : Good (Seq (CompoundShapes.Elifs Block) (CompoundShapes.Otherwise Block))
good_arms = good_seq good_elifs good_otherwise

abbrev IfParts : Shape ((ℕ × (Span × (Expr × (ℕ × List Stmt)))) × (List Arm × Option (List Stmt)))
IfParts = Seq (Armed word.If Block) (Seq (CompoundShapes.Elifs Block) (CompoundShapes.Otherwise Block))

good_if_parts : Good IfParts
good_if_parts = good_seq (good_armed word.If) good_arms

pub good_if : Good (If Block)
unfolding If
good_if = good_of _ good_if_parts

only_first_if : Only (Armed word.If Block) Anywhere
only_first_if = CompoundShapes.only_armed word.If BlockShapes.sound_block BlockShapes.only_block

only_block_elifs : Only (CompoundShapes.Elifs Block) EndsElifs
only_block_elifs = CompoundShapes.only_elifs BlockShapes.sound_block BlockShapes.only_block

pub step_if_first : (ts : List Terminal) (i room : ℕ) → Step (Guarded word.If Block) Anywhere (If Block) EndsArms ts i i room
unfolding If
step_if_first ts i room = step_twice (step_armed word.If ts i room) (step_twice (step_front (good_armed word.If) good_arms (leads_anywhere (Seq (CompoundShapes.Elifs Block) (CompoundShapes.Otherwise Block)) EndsArms)) (step_made _ good_if_parts))

abbrev FirstPart : Type 0
FirstPart = Span × (Expr × (ℕ × List Stmt))

arms_step : {ts : List Terminal} {i l room : ℕ} {p : FirstPart} → IsReading (Guarded word.If Block) Anywhere ts i room p l → Step (Seq (CompoundShapes.Elifs Block) (CompoundShapes.Otherwise Block)) EndsArms (If Block) EndsArms ts i l room
unfolding If
arms_step first = step_twice (step_back (good_armed word.If) good_arms only_first_if (leads_anywhere (Seq (CompoundShapes.Elifs Block) (CompoundShapes.Otherwise Block)) EndsArms) (armed_read word.If first)) (step_made _ good_if_parts)

pub step_if_elifs : {ts : List Terminal} {i l room : ℕ} {p : FirstPart} → IsReading (Guarded word.If Block) Anywhere ts i room p l → Step (CompoundShapes.Elifs Block) EndsElifs (If Block) EndsArms ts i l room
step_if_elifs first = step_twice (step_front good_elifs good_otherwise (CompoundShapes.leads_otherwise Block)) (arms_step first)

pub step_if_otherwise : {ts : List Terminal} {i l m room : ℕ} {p : FirstPart} {arms : List Arm} → IsReading (Guarded word.If Block) Anywhere ts i room p l → IsReading (CompoundShapes.Elifs Block) EndsElifs ts l room arms m
    → Step (CompoundShapes.Otherwise Block) EndsArms (If Block) EndsArms ts i m room
step_if_otherwise first others = step_twice (step_back good_elifs good_otherwise only_block_elifs (CompoundShapes.leads_otherwise Block) others) (arms_step first)

first_place : {ts : List Terminal} {i l room : ℕ} {p : FirstPart} (w : Keyword) → IsReading (Guarded w Block) Anywhere ts i room p l → IsAt ts i p.0
unfolding Guarded
first_place w h = h.derived.first.placed

-- the place of the whole is that of its keyword
pub one_start : {ts : List Terminal} {i l room : ℕ} {p : FirstPart} {at : Span} (w : Keyword) → IsReading (Guarded w Block) Anywhere ts i room p l → IsAt ts i at → at ≡ p.0
one_start w h at = one_place at (first_place w h)

pub read_if : {ts : List Terminal} {i l m j room : ℕ} {p : FirstPart} {arms : List Arm} {otherwise : Option (List Stmt)} → IsReading (Guarded word.If Block) Anywhere ts i room p l → IsReading (CompoundShapes.Elifs Block) EndsElifs ts l room arms m
    → IsReading (CompoundShapes.Otherwise Block) EndsArms ts m room otherwise j → IsReading (If Block) EndsArms ts i room (if_of (i, p) arms otherwise) j
unfolding If
read_if first others otherwise = read_of (λ q. if_of q.0 q.1.0 q.1.1) (read_both (armed_read word.If first) (read_both others otherwise))

pub if_built : {ts : List Terminal} {i l m j room : ℕ} {p : FirstPart} {others arms : List Arm} {otherwise : Option (List Stmt)} {at : Span} {made : Stmt} → IsReading (Guarded word.If Block) Anywhere ts i room p l
    → IsReading (CompoundShapes.Elifs Block) EndsElifs ts l room others m → IsReading (CompoundShapes.Otherwise Block) EndsArms ts m room otherwise j → IsAt ts i at → arms ≡ arm_of (i, p) ∷ others
    → made ≡ statement_node p.1.1.0 at (statement.If arms otherwise) → IsReading (If Block) EndsArms ts i room made j
if_built {ts} {i} {l} {m} {j} {room} {p} {others} {arms} {otherwise} {at} {made} first more rest place all same =
    let moved : made ≡ if_of (i, p) others otherwise = same ∙ ap (λ a. statement_node p.1.1.0 a (statement.If arms otherwise)) (one_start word.If first place) ∙ ap (λ a. statement_node p.1.1.0 p.0 (statement.If a otherwise)) all in
    subst (λ s. IsReading (If Block) EndsArms ts i room s j) (sym moved) (read_if first more rest)

-- while

pub good_while : Good (While Block)
unfolding While
good_while = good_of _ (good_guarded word.While)

pub step_while : (ts : List Terminal) (i room : ℕ) → Step (Guarded word.While Block) Anywhere (While Block) Anywhere ts i i room
unfolding While
step_while ts i room = step_made _ (good_guarded word.While)

pub read_while : {ts : List Terminal} {i j room : ℕ} {p : FirstPart} → IsReading (Guarded word.While Block) Anywhere ts i room p j
    → IsReading (While Block) Anywhere ts i room (statement_node p.1.1.0 p.0 (statement.While p.1.0 p.1.1.1)) j
unfolding While
read_while {p = p} whole = read_of (λ q. statement_node q.1.1.0 q.0 (statement.While q.1.0 q.1.1.1)) whole

-- the tree that was made of it
pub while_built : {ts : List Terminal} {i j room : ℕ} {p : FirstPart} {at : Span} {made : Stmt} → IsReading (Guarded word.While Block) Anywhere ts i room p j → IsAt ts i at → made ≡ statement_node p.1.1.0 at (statement.While p.1.0 p.1.1.1)
    → IsReading (While Block) Anywhere ts i room made j
while_built {ts} {i} {j} {room} {p} {at} {made} whole place same =
    let moved : made ≡ statement_node p.1.1.0 p.0 (statement.While p.1.0 p.1.1.1) = same ∙ ap (λ a. statement_node p.1.1.0 a (statement.While p.1.0 p.1.1.1)) (one_start word.While whole place) in
    subst (λ s. IsReading (While Block) Anywhere ts i room s j) (sym moved) (read_while whole)

-- for

good_for_value : Good (CompoundShapes.ForValue Block)
good_for_value = good_seq good_exprs good_body

good_for_in : Good (CompoundShapes.ForIn Block)
good_for_in = good_after _ good_for_value

good_for_rest : Good (CompoundShapes.ForRest Block)
good_for_rest = good_seq good_loop_targets good_for_in

pub good_for : Good (For Block)
unfolding For
good_for = good_of _ (good_placed (solid_after _ good_for_rest.sound) (good_after _ good_for_rest))

rest_step : {ts : List Terminal} {i room : ℕ} → Step (After (kind.Keyword word.For) (CompoundShapes.ForRest Block)) Anywhere (For Block) Anywhere ts i i room
unfolding For
rest_step = step_twice (step_placed (good_after _ good_for_rest) (solid_after _ good_for_rest.sound)) (step_made _ (good_placed (solid_after _ good_for_rest.sound) (good_after _ good_for_rest)))

abbrev IsFor : List Terminal → ℕ → ℕ → ℕ → Type 0
IsFor ts i room l = IsReading (Token (kind.Keyword word.For)) Anywhere ts i room tt l

abbrev IsIn : List Terminal → ℕ → ℕ → ℕ → Type 0
IsIn ts i room l = IsReading (Token (kind.Keyword word.In)) Anywhere ts i room tt l

abbrev pub AreLoopTargets : List Terminal → ℕ → ℕ → Expr → ℕ → Type 0
AreLoopTargets ts i room e l = IsReading LoopTargets (IsBefore (kind.Keyword word.In)) ts i room e l

pub step_for_word : (ts : List Terminal) (i room : ℕ) → Step (Token (kind.Keyword word.For)) Anywhere (For Block) Anywhere ts i i room
step_for_word ts i room = step_twice (step_word (kind.Keyword word.For) good_for_rest) rest_step

behind_for : {ts : List Terminal} {i l room : ℕ} → IsFor ts i room l → Step (CompoundShapes.ForRest Block) Anywhere (For Block) Anywhere ts i l room
behind_for for_ = step_twice (step_after (kind.Keyword word.For) good_for_rest for_) rest_step

pub step_for_target : {ts : List Terminal} {i l room : ℕ} → IsFor ts i room l → Step LoopTargets (IsBefore (kind.Keyword word.In)) (For Block) Anywhere ts i l room
step_for_target for_ = step_twice (step_front good_loop_targets good_for_in (CompoundShapes.leads_for_in Block)) (behind_for for_)

behind_target : {ts : List Terminal} {i l m room : ℕ} {e : Expr} → IsFor ts i room l → AreLoopTargets ts l room e m → Step (CompoundShapes.ForIn Block) Anywhere (For Block) Anywhere ts i m room
behind_target for_ target = step_twice (step_back good_loop_targets good_for_in only_loop_targets (CompoundShapes.leads_for_in Block) target) (behind_for for_)

pub step_for_in : {ts : List Terminal} {i l m room : ℕ} {e : Expr} → IsFor ts i room l → AreLoopTargets ts l room e m → Step (Token (kind.Keyword word.In)) Anywhere (For Block) Anywhere ts i m room
step_for_in for_ target = step_twice (step_word (kind.Keyword word.In) good_for_value) (behind_target for_ target)

behind_in : {ts : List Terminal} {i l m n room : ℕ} {e : Expr} → IsFor ts i room l → AreLoopTargets ts l room e m → IsIn ts m room n → Step (CompoundShapes.ForValue Block) Anywhere (For Block) Anywhere ts i n room
behind_in for_ target in_ = step_twice (step_after (kind.Keyword word.In) good_for_value in_) (behind_target for_ target)

leads_body_ends : Leads (Body Block) Anywhere EndsExprs
leads_body_ends = leads_wider (CompoundShapes.leads_body Block {R = Anywhere}) CompoundShapes.colon_ends_exprs

pub step_for_value : {ts : List Terminal} {i l m n room : ℕ} {e : Expr} → IsFor ts i room l → AreLoopTargets ts l room e m → IsIn ts m room n → Step Exprs EndsExprs (For Block) Anywhere ts i n room
step_for_value for_ target in_ = step_twice (step_front good_exprs good_body leads_body_ends) (behind_in for_ target in_)

pub step_for_body : {ts : List Terminal} {i l m n o room : ℕ} {e f : Expr} → IsFor ts i room l → AreLoopTargets ts l room e m → IsIn ts m room n → IsReading Exprs EndsExprs ts n room f o → Step (Body Block) Anywhere (For Block) Anywhere ts i o room
step_for_body for_ target in_ value = step_twice (step_back good_exprs good_body only_exprs leads_body_ends value) (behind_in for_ target in_)

pub read_for : {ts : List Terminal} {i l m n o j room : ℕ} {e f : Expr} {body : ℕ × List Stmt} {at : Span} → IsAt ts i at → IsFor ts i room l → AreLoopTargets ts l room e m → IsIn ts m room n → IsReading Exprs EndsExprs ts n room f o
    → IsReading (Body Block) Anywhere ts o room body j → IsReading (For Block) Anywhere ts i room (statement_node body.0 at (statement.For e f body.1)) j
unfolding For
read_for {e = e} {f} {body} {at} place for_ target in_ value whole =
    read_of (λ p. statement_node p.1.1.1.0 p.0 (statement.For p.1.0 p.1.1.0 p.1.1.1.1))
    (read_placed place (read_after (kind.Keyword word.For) for_ (read_both target (read_after (kind.Keyword word.In) in_ (read_both value whole)))))

pub for_built : {ts : List Terminal} {i l m n o j room : ℕ} {e f g : Expr} {body : ℕ × List Stmt} {at : Span} {made : Stmt} → IsFor ts i room l → AreLoopTargets ts l room e m → IsIn ts m room n → IsReading Exprs EndsExprs ts n room f o
    → IsReading (Body Block) Anywhere ts o room body j → IsAt ts i at → g ≡ f → made ≡ statement_node body.0 at (statement.For e g body.1) → IsReading (For Block) Anywhere ts i room made j
for_built {ts} {i} {n = n} {o = o} {j = j} {room} for_ target in_ value whole place boxed same =
    let there = subst (λ e. IsReading Exprs EndsExprs ts n room e o) (sym boxed) value in
    subst (λ s. IsReading (For Block) Anywhere ts i room s j) (sym same) (read_for place for_ target in_ there whole)

-- with

good_lock : Good LockWord
unfolding LockWord
good_lock = good_either (good_of _ (good_soft _)) (good_of _ (good_soft _))

good_with_rest : Good (CompoundShapes.WithRest Block)
good_with_rest = good_seq good_lock good_body

pub good_with : Good (With Block)
unfolding With
good_with = good_of _ (good_placed (solid_after _ good_with_rest.sound) (good_after _ good_with_rest))

with_step : {ts : List Terminal} {i room : ℕ} → Step (After (kind.Keyword word.With) (CompoundShapes.WithRest Block)) Anywhere (With Block) Anywhere ts i i room
unfolding With
with_step = step_twice (step_placed (good_after _ good_with_rest) (solid_after _ good_with_rest.sound)) (step_made _ (good_placed (solid_after _ good_with_rest.sound) (good_after _ good_with_rest)))

abbrev IsWith : List Terminal → ℕ → ℕ → ℕ → Type 0
IsWith ts i room l = IsReading (Token (kind.Keyword word.With)) Anywhere ts i room tt l

abbrev Locks : List Terminal → ℕ → ℕ → (List Stmt → StmtForm) → ℕ → Type 0
Locks ts i room form l = IsReading LockWord Anywhere ts i room form l

pub step_with_word : (ts : List Terminal) (i room : ℕ) → Step (Token (kind.Keyword word.With)) Anywhere (With Block) Anywhere ts i i room
step_with_word ts i room = step_twice (step_word (kind.Keyword word.With) good_with_rest) with_step

behind_with : {ts : List Terminal} {i l room : ℕ} → IsWith ts i room l → Step (CompoundShapes.WithRest Block) Anywhere (With Block) Anywhere ts i l room
behind_with with_ = step_twice (step_after (kind.Keyword word.With) good_with_rest with_) with_step

pub step_with_lock : {ts : List Terminal} {i l room : ℕ} → IsWith ts i room l → Step LockWord Anywhere (With Block) Anywhere ts i l room
step_with_lock with_ = step_twice (step_front good_lock good_body (leads_anywhere (Body Block) Anywhere)) (behind_with with_)

pub step_with_body : {ts : List Terminal} {i l m room : ℕ} {form : List Stmt → StmtForm} → IsWith ts i room l → Locks ts l room form m → Step (Body Block) Anywhere (With Block) Anywhere ts i m room
step_with_body with_ lock = step_twice (step_back good_lock good_body CompoundShapes.only_lock (leads_anywhere (Body Block) Anywhere) lock) (behind_with with_)

pub read_with : {ts : List Terminal} {i l m j room : ℕ} {form : List Stmt → StmtForm} {body : ℕ × List Stmt} {at : Span} → IsAt ts i at → IsWith ts i room l → Locks ts l room form m → IsReading (Body Block) Anywhere ts m room body j
    → IsReading (With Block) Anywhere ts i room (statement_node body.0 at (form body.1)) j
unfolding With
read_with {form = form} {body} {at} place with_ lock whole =
    read_of (λ p. statement_node p.1.1.0 p.0 (p.1.0 p.1.1.1)) (read_placed place (read_after (kind.Keyword word.With) with_ (read_both lock whole)))

pub lock_stuck : (ts : List Terminal) (i room : ℕ) → i < length ts → (IsName ts i (codes "gil") → ⊥) → (IsName ts i (codes "nogil") → ⊥) → IsStuck LockWord Anywhere ts i room i
unfolding LockWord
lock_stuck ts i room inside no_gil no_nogil = stuck_here ts i room good_lock.fresh inside never
  where
    never : Never LockWord Anywhere ts i
    never us agree mode t n j (Either.left h) stop = no_gil (name_carried (suc i) (agree_back us ts agree) h.read.stands (omega arith))
    never us agree mode t n j (Either.right h) stop = no_nogil (name_carried (suc i) (agree_back us ts agree) h.read.stands (omega arith))

pub takes_lock : {ts : List Terminal} {i l room : ℕ} → IsReading (Soft (codes "gil")) Anywhere ts i room tt l → Locks ts i room statement.WithGil l
unfolding LockWord
takes_lock h = read_left (Of (λ _. statement.WithNogil) (Soft (codes "nogil"))) (read_of (λ _. statement.WithGil) h)

pub frees_lock : {ts : List Terminal} {i l room : ℕ} → IsReading (Soft (codes "nogil")) Anywhere ts i room tt l → Locks ts i room statement.WithNogil l
unfolding LockWord
frees_lock h = read_right (Of (λ _. statement.WithGil) (Soft (codes "gil"))) (read_of (λ _. statement.WithNogil) h)

-- the word behind `with`

pub gil_lock : (tokens : Tokens) (i room : ℕ) → IsListing tokens → IsName (terminals_of tokens) i (codes "gil") → Locks (terminals_of tokens) i room statement.WithGil (i + 1)
gil_lock tokens i room listing h = takes_lock (spelled_read tokens i (i + 1) room listing h (omega arith))

pub nogil_lock : (tokens : Tokens) (i room : ℕ) → IsListing tokens → IsName (terminals_of tokens) i (codes "nogil") → Locks (terminals_of tokens) i room statement.WithNogil (i + 1)
nogil_lock tokens i room listing h = frees_lock (spelled_read tokens i (i + 1) room listing h (omega arith))

pub with_built : {ts : List Terminal} {i l m j room : ℕ} {form : List Stmt → StmtForm} {body : ℕ × List Stmt} {at : Span} {made : Stmt} (kept : StmtForm) → IsWith ts i room l → Locks ts l room form m → IsReading (Body Block) Anywhere ts m room body j
    → IsAt ts i at → made ≡ statement_node body.0 at kept → kept ≡ form body.1 → IsReading (With Block) Anywhere ts i room made j
with_built {ts} {i} {j = j} {room} {body = body} {at} kept with_ lock whole place same is =
    subst (λ s. IsReading (With Block) Anywhere ts i room s j) (sym (same ∙ ap (λ f. statement_node body.0 at f) is)) (read_with place with_ lock whole)
