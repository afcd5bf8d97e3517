-- How statements and blocks are read: each part is a part of the whole, and a block has room for one block less in it.
use Rattle.std.proofs.Common.{◌≡◌, ℕ, zero, suc, ◌≤◌, ◌<◌, List, [], ◌∷◌, ◌++◌, inl, inr, length, refl, sym, subst, ap, ◌∙◌, arith, Result, Ok, Err, append_assoc, append-nil}
use Rattle.px_lexer.specs.declared.token_list.TokenKind.{TokenKind}
use Rattle.px_lexer.specs.declared.spelling.Operator.TheVariants as sign
use Rattle.px_lexer.specs.declared.token_list.TokenKind.TheVariants as kind
use Rattle.px_tree.specs.declared.statements.Stmt.{Stmt}
use Rattle.px_exprs.specs.declared.readings.Unread.{Unread}
use Rattle.px_exprs.specs.declared.readings.Unread.TheVariants as unread
use Rattle.px_lexer.specs.Terminals.{Terminal, HasKind}
use Rattle.px_exprs.specs.Readings.{Agree}
use Rattle.px_exprs.specs.Runs.{nesting_limit}
use Rattle.px_exprs.proofs.Agreement.{agree_back, agree_same, agree_carried}
use Rattle.px_exprs.proofs.Keeping.{kind_carried}
use Rattle.px_parser.specs.declared.readings.Found.{Found}
use Rattle.px_parser.specs.Shapes.{Mode, Shape, Token, Seq, Either, Many, Of, After, Before, Several, Listed}
use Rattle.px_parser.specs.Parsing.{strict, looks_before, unseen_from, AreTogether}
use Rattle.px_parser.specs.Readings.{HasWay, IsShallow, IsReached, IsReading, IsUnread, IsStuck, IsOver, Reads, Anywhere, HasBlocks, IsArrived, ReadsFlat}
use Rattle.px_parser.specs.Ends.{EndsArms, IsBefore, EndsSimple}
use Rattle.px_parser.specs.StatementGrammar.{If, While, For, With, Declare, Line, StatementWith, StatementsWith, IndentedWith, BlockWithin, Block, Statement, alone, joined, Simple}
use Rattle.std.specs.Prelude.{MatchOption}
use Rattle.std.specs.Result.{result_err}
use Rattle.px_parser.proofs.LineSteps.{line_first}
use Rattle.px_parser.proofs.Shapely.{AtLeast, Rises, Good, good_seq, good_of, good_many, good_either, good_after, good_before}
use Rattle.px_parser.proofs.Onlies.{Leads, Clash, Sees, Only}
use Rattle.px_parser.proofs.Steps.{Step, Made, Never, never_by, fails, step_twice, step_left, step_right, step_many, many_more, sees_strict, reached_here, reached_made, sees_unseen, shallow_here, way_made, arrived_way, reached_whole}
use Rattle.px_parser.proofs.ReadingSteps.{read_of, read_after, read_before, step_front, step_back, step_made, step_word, step_after, step_before, step_end, step_ends, ended_stuck, stuck_of}
use Rattle.px_parser.proofs.Heads.{Heads, HeadsUpTo, head_here, head_ends_arms, IsOther, head_carried}
use Rattle.px_parser.proofs.CompoundShapes
use Rattle.px_parser.proofs.BlockShapes
use Rattle.px_parser.proofs.CompoundSteps.{good_if, good_while, good_for, good_with, GoneOn, gone_reads, local_arms}
use Rattle.px_parser.proofs.SimpleShapes.{good_line, only_line, good_simple, solid_simple}
use Rattle.px_parser.proofs.VariableShapes.{good_declare}
use Rattle.px_parser.proofs.LineHeads.{line_head, declare_head}

-- One statement

abbrev DeclareLine : Shape (List Stmt)
DeclareLine = Either (Of alone Declare) Line

good_declare_line : Good DeclareLine
good_declare_line = good_either (good_of _ good_declare) good_line

good_after_for : Good (BlockShapes.AfterFor Block)
good_after_for = good_either (good_of _ good_with) good_declare_line

good_after_while : Good (BlockShapes.AfterWhile Block)
good_after_while = good_either (good_of _ good_for) good_after_for

good_after_if : Good (BlockShapes.AfterIf Block)
good_after_if = good_either (good_of _ good_while) good_after_while

heads_off : (n m : ℕ) → (n ≡ m → ⊥) → Clash (Heads n) (Heads m)
heads_off n m off ts us i agree a b = off (omega (arith, head_carried ts us i agree, a, b))

low_off : (n m : ℕ) → n < m → Clash (HeadsUpTo n) (Heads m)
low_off n m lt ts us i agree a b = omega (arith, head_carried ts us i agree, a, b, lt)

-- no form that begins otherwise stands there
no_if : (ts : List Terminal) (i : ℕ) → HeadsUpTo 4 ts i → Never (Of alone (If Block)) EndsArms ts i
no_if ts i h us agree mode t n j x s = omega (arith, head_carried ts us i agree, h, (CompoundShapes.leads_if Block {R = Anywhere}).leads x.read tt)

no_while : (ts : List Terminal) (i : ℕ) → HeadsUpTo 3 ts i → Never (Of alone (While Block)) EndsArms ts i
no_while ts i h us agree mode t n j x s = omega (arith, head_carried ts us i agree, h, (CompoundShapes.leads_while Block {R = Anywhere}).leads x.read tt)

no_for : (ts : List Terminal) (i : ℕ) → HeadsUpTo 2 ts i → Never (Of alone (For Block)) EndsArms ts i
no_for ts i h us agree mode t n j x s = omega (arith, head_carried ts us i agree, h, (CompoundShapes.leads_for Block {R = Anywhere}).leads x.read tt)

no_with : (ts : List Terminal) (i : ℕ) → HeadsUpTo 1 ts i → Never (Of alone (With Block)) EndsArms ts i
no_with ts i h us agree mode t n j x s = omega (arith, head_carried ts us i agree, h, (CompoundShapes.leads_with Block {R = Anywhere}).leads x.read tt)

-- where a statement has this form, what is read of the form is read of the statement
pub record Places (X : Shape (List Stmt)) (ts : List Terminal) (i room : ℕ) : Type 0 where
  pub step : Step X EndsArms Statement EndsArms ts i i room
  pub into : (t : List Stmt) (j : ℕ) → X (strict nesting_limit) ts i t room j → Statement (strict nesting_limit) ts i t room j

pub places_if : (ts : List Terminal) (i room : ℕ) → Heads 5 ts i → Places (Of alone (If Block)) ts i room
unfolding Statement StatementWith
places_if ts i room h = record {
  step = step_left ts i room (good_of alone good_if).rises (never_by ts i (BlockShapes.leads_after_if Block {R = EndsArms}) (low_off 4 5 (omega arith)) h);
  into = λ t j x. Either.left x;
}

from_if : (ts : List Terminal) (i room : ℕ) → HeadsUpTo 4 ts i → Step (BlockShapes.AfterIf Block) EndsArms Statement EndsArms ts i i room
unfolding Statement StatementWith
from_if ts i room h = step_right ts i room good_after_if.rises (no_if ts i h)

from_while : (ts : List Terminal) (i room : ℕ) → HeadsUpTo 3 ts i → Step (BlockShapes.AfterWhile Block) EndsArms Statement EndsArms ts i i room
from_while ts i room h = step_twice (step_right ts i room good_after_while.rises (no_while ts i h)) (from_if ts i room (omega (arith, h)))

from_for : (ts : List Terminal) (i room : ℕ) → HeadsUpTo 2 ts i → Step (BlockShapes.AfterFor Block) EndsArms Statement EndsArms ts i i room
from_for ts i room h = step_twice (step_right ts i room good_after_for.rises (no_for ts i h)) (from_while ts i room (omega (arith, h)))

from_with : (ts : List Terminal) (i room : ℕ) → HeadsUpTo 1 ts i → Step DeclareLine EndsArms Statement EndsArms ts i i room
from_with ts i room h = step_twice (step_right ts i room good_declare_line.rises (no_with ts i h)) (from_for ts i room (omega (arith, h)))

pub places_while : (ts : List Terminal) (i room : ℕ) → Heads 4 ts i → Places (Of alone (While Block)) ts i room
unfolding Statement StatementWith
places_while ts i room h = record {
  step = step_twice (step_left ts i room (good_of alone good_while).rises (never_by ts i (BlockShapes.leads_after_while Block {R = EndsArms}) (low_off 3 4 (omega arith)) h)) (from_if ts i room (omega (arith, h)));
  into = λ t j x. Either.right (Either.left x);
}

pub places_for : (ts : List Terminal) (i room : ℕ) → Heads 3 ts i → Places (Of alone (For Block)) ts i room
unfolding Statement StatementWith
places_for ts i room h = record {
  step = step_twice (step_left ts i room (good_of alone good_for).rises (never_by ts i (BlockShapes.leads_after_for Block {R = EndsArms}) (low_off 2 3 (omega arith)) h)) (from_while ts i room (omega (arith, h)));
  into = λ t j x. Either.right (Either.right (Either.left x));
}

pub places_with : (ts : List Terminal) (i room : ℕ) → Heads 2 ts i → Places (Of alone (With Block)) ts i room
unfolding Statement StatementWith
places_with ts i room h = record {
  step = step_twice (step_left ts i room (good_of alone good_with).rises (never_by ts i (BlockShapes.leads_declare_line {R = EndsArms}) (low_off 1 2 (omega arith)) h)) (from_for ts i room (omega (arith, h)));
  into = λ t j x. Either.right (Either.right (Either.right (Either.left x)));
}

pub places_declare : (ts : List Terminal) (i room : ℕ) → Heads 1 ts i → Places (Of alone Declare) ts i room
unfolding Statement StatementWith
places_declare ts i room h = record {
  step = step_twice (step_left ts i room (good_of alone good_declare).rises (never_by ts i (line_head {R = EndsArms}) (heads_off 0 1 (λ e. omega (arith, e))) h)) (from_with ts i room (omega (arith, h)));
  into = λ t j x. Either.right (Either.right (Either.right (Either.right (Either.left x))));
}

-- What was read of a form, and nothing but a statement stands behind it

pub single_read : {X : Shape Stmt} {ts : List Terminal} {i room to : ℕ} {tree : Stmt} (all : List Stmt) → Good X → Only X Anywhere → Places (Of alone X) ts i room → IsReading X Anywhere ts i room tree to → all ≡ tree ∷ []
    → (result : Result (Found (List Stmt)) Unread) → GoneOn ts all to result → Reads Statement EndsArms ts i room result
single_read {X} {ts} {i} {room} {to} {tree} all good only places reading same result h =
    let one : IsReading (Of alone X) Anywhere ts i room all to = subst (λ a. IsReading (Of alone X) Anywhere ts i room a to) (sym same) (read_of alone reading) in
    gone_reads ts i room all to result
    (λ ends. record { derived = places.into all to one.derived; stops = ends; within = reading.within })
    (λ none. stuck_of places.step (ended_stuck (good_of alone good) (BlockShapes.only_alone only) (λ us k e. tt) local_arms one none))
    h

pub if_read : {ts : List Terminal} {i room to : ℕ} {tree : Stmt} (all : List Stmt) → Heads 5 ts i → IsReading (If Block) EndsArms ts i room tree to → all ≡ tree ∷ [] → (result : Result (Found (List Stmt)) Unread) → GoneOn ts all to result
    → Reads Statement EndsArms ts i room result
if_read {ts} {i} {room} {to} {tree} all keyword reading same result h =
    let one : IsReading (Of alone (If Block)) EndsArms ts i room all to = subst (λ a. IsReading (Of alone (If Block)) EndsArms ts i room a to) (sym same) (read_of alone reading) in
    gone_reads ts i room all to result
    (λ ends. record { derived = (places_if ts i room keyword).into all to one.derived; stops = ends; within = reading.within })
    (λ none. absurd (none reading.stops))
    h

-- the same of what several readers may have read

pub single_joined : {X : Shape Stmt} {ts : List Terminal} {i room : ℕ} (all : List Stmt) (joint found : Found Stmt) → Good X → Only X Anywhere → Places (Of alone X) ts i room → IsReading X Anywhere ts i room found.tree found.to → joint ≡ found
    → all ≡ joint.tree ∷ [] → (result : Result (Found (List Stmt)) Unread) → GoneOn ts all joint.to result → Reads Statement EndsArms ts i room result
single_joined {ts = ts} all joint found good only places reading is same result h = single_read all good only places reading (same ∙ ap (λ f. f.tree ∷ []) is) result (subst (λ f. GoneOn ts all f.to result) is h)

pub if_joined : {ts : List Terminal} {i room : ℕ} (all : List Stmt) (joint found : Found Stmt) → IsReading (If Block) EndsArms ts i room found.tree found.to → joint ≡ found → all ≡ joint.tree ∷ []
    → (result : Result (Found (List Stmt)) Unread) → GoneOn ts all joint.to result → Reads Statement EndsArms ts i room result
if_joined {ts} {i} all joint found reading is same result h =
    let head : Heads 5 ts i = (CompoundShapes.leads_if Block {R = Anywhere}).leads reading.derived tt in
    if_read all head reading (same ∙ ap (λ f. f.tree ∷ []) is) result (subst (λ f. GoneOn ts all f.to result) is h)

pub single_refused : {X : Shape Stmt} {ts : List Terminal} {i room : ℕ} → Good X → Places (Of alone X) ts i room → (u : Unread) → IsUnread X Anywhere ts i room u → IsUnread Statement EndsArms ts i room u
single_refused {X} good places u h = fails (step_twice (step_twice (step_ends good (λ us k e. tt)) (step_made alone good)) places.step) u h

pub if_refused : (ts : List Terminal) (i room : ℕ) → Heads 5 ts i → (u : Unread) → IsUnread (If Block) EndsArms ts i room u → IsUnread Statement EndsArms ts i room u
if_refused ts i room keyword u h = fails (step_twice (step_made alone good_if) (places_if ts i room keyword).step) u h

-- A line

never_single : {X : Shape Stmt} {n : ℕ} (ts : List Terminal) (i : ℕ) → Leads X Anywhere (Heads n) → (Heads n ts i → ⊥) → Never (Of alone X) EndsArms ts i
never_single {X} {n} ts i leads off us agree mode t m j x s =
    let there : Heads n us i = leads.leads x.read tt in
    let here : Heads n ts i = sym (head_carried ts us i agree) ∙ there in
    off here

no_head : (ts : List Terminal) (i n : ℕ) → 1 ≤ n → n ≤ 5 → IsOther ts i → Heads n ts i → ⊥
no_head ts i n low high (inl z) h = omega (arith, z, h, low)
no_head ts i n low high (inr z) h = omega (arith, z, h, high)

pub places_line : (ts : List Terminal) (i room : ℕ) → IsOther ts i → Places Line ts i room
unfolding Statement StatementWith
places_line ts i room off = record {
  step = step_twice (step_right ts i room good_line.rises (never_single ts i declare_head (no_head ts i 1 (omega arith) (omega arith) off)))
      (step_twice (step_right ts i room good_declare_line.rises (never_single ts i (CompoundShapes.leads_with Block) (no_head ts i 2 (omega arith) (omega arith) off)))
      (step_twice (step_right ts i room good_after_for.rises (never_single ts i (CompoundShapes.leads_for Block) (no_head ts i 3 (omega arith) (omega arith) off)))
      (step_twice (step_right ts i room good_after_while.rises (never_single ts i (CompoundShapes.leads_while Block) (no_head ts i 4 (omega arith) (omega arith) off))) (step_right ts i room good_after_if.rises (never_single ts i (CompoundShapes.leads_if Block) (no_head ts i 5 (omega arith) (omega arith) off))))));
  into = λ t j x. Either.right (Either.right (Either.right (Either.right (Either.right x))));
}

pub line_read : {ts : List Terminal} {i room to : ℕ} {tree : List Stmt} → Places Line ts i room → IsReading Line Anywhere ts i room tree to → (result : Result (Found (List Stmt)) Unread) → GoneOn ts tree to result → Reads Statement EndsArms ts i room result
line_read {ts} {i} {room} {to} {tree} places reading result h =
    gone_reads ts i room tree to result
    (λ ends. record { derived = places.into tree to reading.derived; stops = ends; within = reading.within })
    (λ none. stuck_of places.step (ended_stuck good_line (only_line Anywhere) (λ us k e. tt) local_arms reading none))
    h

pub line_refused : {ts : List Terminal} {i room : ℕ} → Places Line ts i room → (u : Unread) → IsUnread Line Anywhere ts i room u → IsUnread Statement EndsArms ts i room u
line_refused places u h = fails (step_twice (step_ends good_line (λ us k e. tt)) places.step) u h

-- statement+

good_block_statement : Good (StatementWith Block)
unfolding Statement
good_block_statement = BlockShapes.good_statement

abbrev Row : Shape (List (List Stmt))
Row = Several (StatementWith Block)

good_row_parts : Good (Seq (StatementWith Block) (Many (StatementWith Block)))
good_row_parts = good_seq good_block_statement (good_many good_block_statement)

good_row : Good Row
good_row = good_of _ good_row_parts

pub good_statements : Good (StatementsWith Block)
unfolding StatementsWith
good_statements = good_of _ good_row

only_block_statement : Only (StatementWith Block) EndsArms
only_block_statement = BlockShapes.only_statement_with BlockShapes.sound_block BlockShapes.only_block

-- the statements that were read
pub record AreStatements (ts : List Terminal) (i room : ℕ) (tree : List Stmt) (to : ℕ) : Type 0 where
  pub middle : ℕ
  pub first : List Stmt
  pub others : List (List Stmt)
  pub begun : StatementWith Block (strict nesting_limit) ts i first room middle
  pub apart : EndsArms ts middle
  pub read : Many (StatementWith Block) (strict nesting_limit) ts middle others room to
  pub same : tree ≡ first ++ joined others
  pub stops : EndsArms ts to
  pub within : to < length ts

pub statements_begun : {ts : List Terminal} {i room to : ℕ} {first : List Stmt} (tree : List Stmt) → IsReading Statement EndsArms ts i room first to → tree ≡ first → AreStatements ts i room tree to
unfolding Statement
statements_begun {to = to} {first} tree reading same = record {
  middle = to;
  first = first;
  others = [];
  begun = reading.derived;
  apart = reading.stops;
  read = Many.none;
  same = same ∙ sym (append-nil first);
  stops = reading.stops;
  within = reading.within;
}

joined_more : (xs : List (List Stmt)) (more : List Stmt) → joined (xs ++ more ∷ []) ≡ joined xs ++ more
joined_more [] more = append-nil more
joined_more (x ∷ xs) more = ap (λ r. x ++ r) (joined_more xs more) ∙ sym (append_assoc x (joined xs) more)

pub statements_on : {ts : List Terminal} {i l j room : ℕ} {tree next : List Stmt} (longer : List Stmt) → AreStatements ts i room tree l → IsReading Statement EndsArms ts l room next j → longer ≡ tree ++ next → AreStatements ts i room longer j
unfolding Statement
statements_on {next = next} longer front reading same = record {
  middle = front.middle;
  first = front.first;
  others = front.others ++ next ∷ [];
  begun = front.begun;
  apart = front.apart;
  read = many_more front.read reading.derived;
  same = same ∙ ap (λ r. r ++ next) front.same ∙ append_assoc front.first (joined front.others) next ∙ ap (λ r. front.first ++ r) (sym (joined_more front.others next));
  stops = reading.stops;
  within = reading.within;
}

pub step_statements_first : (ts : List Terminal) (i room : ℕ) → Step Statement EndsArms (StatementsWith Block) (IsBefore kind.Dedent) ts i i room
unfolding StatementsWith Statement
step_statements_first ts i room =
    step_twice (step_front good_block_statement (good_many good_block_statement) (BlockShapes.leads_more_statements Block)) (step_twice (step_made _ good_row_parts) (step_made joined good_row))

pub step_statements_next : {ts : List Terminal} {i l room : ℕ} {tree : List Stmt} → AreStatements ts i room tree l → (HasKind ts l kind.Dedent → ⊥) → Step Statement EndsArms (StatementsWith Block) (IsBefore kind.Dedent) ts i l room
unfolding StatementsWith Statement
step_statements_next {ts} {i} {l} {room} front none =
    let first : IsReading (StatementWith Block) EndsArms ts i room front.first front.middle = record { derived = front.begun; stops = front.apart; within = omega (arith, front.within, (good_many good_block_statement).sound.forward front.read) } in
    step_twice
    (step_many {S = IsBefore kind.Dedent} ts front.middle l room front.others good_block_statement.sound good_block_statement.rises only_block_statement (BlockShapes.leads_statement_with Block) BlockShapes.statement_is_no_dedent
    head_ends_arms BlockShapes.dedent_ends_arms front.read (inr front.stops) (λ us agree h. none (kind_carried (suc l) (agree_back us ts agree) h (omega arith))))
    (step_twice (step_back good_block_statement (good_many good_block_statement) only_block_statement (BlockShapes.leads_more_statements Block) first) (step_twice (step_made _ good_row_parts) (step_made joined good_row)))

pub statements_read : {ts : List Terminal} {i l room : ℕ} {tree : List Stmt} → AreStatements ts i room tree l → HasKind ts l kind.Dedent → IsReading (StatementsWith Block) (IsBefore kind.Dedent) ts i room tree l
unfolding StatementsWith
statements_read {tree = tree} front dedent = record {
  derived = record {
    inner = front.first ∷ front.others;
    read = record { inner = (front.first, front.others); read = record { middle = front.middle; first = front.begun; second = front.read }; tree = refl };
    tree = front.same;
  };
  stops = dedent;
  within = front.within;
}

-- each of them has a token
pub statement_grows : {ts : List Terminal} {i room to : ℕ} {tree : List Stmt} → IsReading Statement EndsArms ts i room tree to → i < to
statement_grows reading = BlockShapes.solid_statement.grows reading.derived

-- NEWLINE INDENT statement+ DEDENT

abbrev Inner : Shape (List Stmt)
Inner = Before (StatementsWith Block) kind.Dedent

abbrev Deeper : Shape (List Stmt)
Deeper = After kind.Indent Inner

good_inner : Good Inner
good_inner = good_before _ good_statements

good_deeper : Good Deeper
good_deeper = good_after _ good_inner

abbrev IsToken : TokenKind → List Terminal → ℕ → ℕ → ℕ → Type 0
IsToken k ts i room l = IsReading (Token k) Anywhere ts i room tt l

pub step_indented_newline : (ts : List Terminal) (i room : ℕ) → Step (Token kind.Newline) Anywhere (IndentedWith Block) Anywhere ts i i room
unfolding IndentedWith
step_indented_newline ts i room = step_word kind.Newline good_deeper

behind_newline : {ts : List Terminal} {i l room : ℕ} → IsToken kind.Newline ts i room l → Step Deeper Anywhere (IndentedWith Block) Anywhere ts i l room
unfolding IndentedWith
behind_newline newline = step_after kind.Newline good_deeper newline

pub step_indented_indent : {ts : List Terminal} {i l room : ℕ} → IsToken kind.Newline ts i room l → Step (Token kind.Indent) Anywhere (IndentedWith Block) Anywhere ts i l room
step_indented_indent newline = step_twice (step_word kind.Indent good_inner) (behind_newline newline)

behind_indent : {ts : List Terminal} {i l m room : ℕ} → IsToken kind.Newline ts i room l → IsToken kind.Indent ts l room m → Step Inner Anywhere (IndentedWith Block) Anywhere ts i m room
behind_indent newline indent = step_twice (step_after kind.Indent good_inner indent) (behind_newline newline)

pub step_indented_statements : {ts : List Terminal} {i l m room : ℕ} → IsToken kind.Newline ts i room l → IsToken kind.Indent ts l room m → Step (StatementsWith Block) (IsBefore kind.Dedent) (IndentedWith Block) Anywhere ts i m room
step_indented_statements newline indent = step_twice (step_before kind.Dedent good_statements (λ us p h. h)) (behind_indent newline indent)

pub step_indented_dedent : {ts : List Terminal} {i l m n room : ℕ} {tree : List Stmt} → IsToken kind.Newline ts i room l → IsToken kind.Indent ts l room m → IsReading (StatementsWith Block) (IsBefore kind.Dedent) ts m room tree n
    → Step (Token kind.Dedent) Anywhere (IndentedWith Block) Anywhere ts i n room
step_indented_dedent newline indent statements =
    step_twice (step_end kind.Dedent good_statements (BlockShapes.only_statements_with BlockShapes.sound_block BlockShapes.only_block) (λ us p h. h) statements) (behind_indent newline indent)

pub read_indented : {ts : List Terminal} {i l m n j room : ℕ} {tree : List Stmt} → IsToken kind.Newline ts i room l → IsToken kind.Indent ts l room m → IsReading (StatementsWith Block) (IsBefore kind.Dedent) ts m room tree n
    → IsToken kind.Dedent ts n room j → IsReading (IndentedWith Block) Anywhere ts i room tree j
unfolding IndentedWith
read_indented newline indent statements dedent = read_after kind.Newline newline (read_after kind.Indent indent (read_before kind.Dedent statements dedent))

-- A block

same_mode : (mode : Mode) → AtLeast mode mode
same_mode mode = record { limits = omega arith; unseen = λ from e. record { first = from; hidden = e; earlier = omega arith } }

-- a block on lines of its own is one block round what stands in it
pub indented_into : (mode : Mode) (ts : List Terminal) (i n j : ℕ) (t : List Stmt) → IndentedWith Block mode ts i t n j → Block mode ts i t (suc n) j
unfolding Block BlockWithin
indented_into mode ts i n j t h =
    let inner : Rises Block (BlockWithin n) mode mode n (suc n) = record { rise = λ x. (BlockShapes.rises_within n n n (suc n) (same_mode mode) (omega arith)).rise x } in
    Either.right (Either.right ((BlockShapes.rises_indented_with (same_mode mode) inner).rise h))

starts_newline : (mode : Mode) (ts : List Terminal) (i n j : ℕ) (t : List Stmt) → Line mode ts i t n j → HasKind ts i kind.Newline → ⊥
starts_newline mode ts i n j t h newline =
    let low : Heads 0 ts i = (line_head {R = Anywhere}).leads h tt in
    omega (arith, low, head_here newline)

pub block_indented : (mode : Mode) (ts : List Terminal) (i n j : ℕ) (t : List Stmt) → Sees mode i → HasKind ts i kind.Newline → Block mode ts i t (suc n) j → IndentedWith Block mode ts i t n j
unfolding Block BlockWithin
block_indented mode ts i n j t sees newline (Either.left h) = absurd (BlockShapes.seen h sees (omega arith))
block_indented mode ts i n j t sees newline (Either.right (Either.left h)) = absurd (starts_newline mode ts i (suc n) j t h newline)
block_indented mode ts i n j t sees newline (Either.right (Either.right h)) =
    let inner : Rises (BlockWithin n) Block mode mode (suc n) n = record { rise = λ x. (BlockShapes.rises_within n n (suc n) n (same_mode mode) (omega arith)).rise x } in
    (BlockShapes.rises_indented_with (same_mode mode) inner).rise h

pub no_block : (mode : Mode) (ts : List Terminal) (i j : ℕ) (t : List Stmt) → Sees mode i → Block mode ts i t 0 j → ⊥
unfolding Block BlockWithin
no_block mode ts i j t sees h = BlockShapes.seen h sees (omega arith)

way_into : {ts : List Terminal} {i k : ℕ} → HasWay (IndentedWith Block) ts i k → HasWay Block ts i k
way_into {i = i} way = record {
  tokens = way.tokens;
  same = way.same;
  long = way.long;
  tree = way.tree;
  limit = way.limit;
  blocks = suc way.blocks;
  derived = indented_into (strict way.limit) way.tokens i way.blocks (length way.tokens) way.tree way.derived;
}

blocks_into : {ts : List Terminal} {i k limit room : ℕ} → HasBlocks (IndentedWith Block) limit ts i k room → HasBlocks Block limit ts i k (suc room)
blocks_into {i = i} {k} {limit} {room} way = record {
  tokens = way.tokens;
  same = way.same;
  long = way.long;
  tree = way.tree;
  derived = indented_into (unseen_from limit k) way.tokens i room (length way.tokens) way.tree way.derived;
}

shown_into : {ts : List Terminal} {i k room : ℕ} → IsShallow (IndentedWith Block) ts i k room → IsShallow Block ts i k (suc room)
shown_into (IsShallow.shallow h) = IsShallow.shallow (blocks_into h)
shown_into (IsShallow.behind_sizeof m limit e from keyword before loose) = IsShallow.behind_sizeof m limit e from keyword (blocks_into before) (blocks_into loose)

reached_into : {ts : List Terminal} {i k room : ℕ} → IsReached (IndentedWith Block) ts i k room → IsReached Block ts i k (suc room)
reached_into h = record { way = way_into h.way; shallow = shown_into h.shallow }

arrived_into : {ts : List Terminal} {i k room : ℕ} → IsArrived (IndentedWith Block) ts i k room → IsArrived Block ts i k (suc room)
arrived_into (IsArrived.reached h) = IsArrived.reached (reached_into h)
arrived_into (IsArrived.behind_line n forward together way h) = IsArrived.behind_line n forward together (way_into way) (blocks_into h)

pub indented_refused : (ts : List Terminal) (i room : ℕ) → HasKind ts i kind.Newline → (u : Unread) → IsUnread (IndentedWith Block) Anywhere ts i room u → IsUnread Block Anywhere ts i (suc room) u
indented_refused ts i room newline (unread.Stuck k) h = record {
  forward = h.forward;
  within = h.within;
  reached = arrived_into h.reached;
  none = λ us agree limit tree blocks j x s. none us agree limit tree j blocks x;
}
  where
    none : (us : List Terminal) → Agree (suc k) us ts → (limit : ℕ) (tree : List Stmt) (j blocks : ℕ) → Block (strict limit) us i tree blocks j → ⊥
    none us agree limit tree j zero x = no_block (strict limit) us i j tree (sees_strict limit i) x
    none us agree limit tree j (suc blocks) x =
        let there : HasKind us i kind.Newline = kind_carried (suc k) agree newline (omega (arith, h.forward)) in
        h.none us agree limit tree blocks j (block_indented (strict limit) us i blocks j tree (sees_strict limit i) there x) tt
indented_refused ts i room newline (unread.TooDeep k) h = record {
  forward = h.forward;
  within = h.within;
  reached = reached_into h.reached;
  way = way_into h.way;
  counted = λ keyword us agree limit tree j x s.
      let there : HasKind us i kind.Newline = kind_carried (suc k) agree newline (omega (arith, h.forward)) in
      h.counted keyword us agree limit tree j (block_indented (unseen_from limit (suc k)) us i room j tree (sees_unseen limit (suc k) i (omega (arith, h.forward))) there x) tt;
  apart = λ together. way_into (h.apart together);
  deep = λ us agree tree j x s.
      let there : HasKind us i kind.Newline = kind_carried (suc k) agree newline (omega (arith, h.forward)) in
      h.deep us agree tree j (block_indented (looks_before (suc k)) us i room j tree (sees_unseen nesting_limit (suc k) i (omega (arith, h.forward))) there x) tt;
}
indented_refused ts i room newline unread.NoMemory h = tt

pub indented_block : {ts : List Terminal} {i room j : ℕ} {tree : List Stmt} → IsReading (IndentedWith Block) Anywhere ts i room tree j → IsReading Block Anywhere ts i (suc room) tree j
indented_block {ts} {i} {room} {j} {tree} h = record { derived = indented_into (strict nesting_limit) ts i room j tree h.derived; stops = tt; within = h.within }

-- the same where the room is one less
pub indented_answer : {ts : List Terminal} {i less : ℕ} (room : ℕ) (result : Result (Found (List Stmt)) Unread) → HasKind ts i kind.Newline → room ≡ suc less → Reads (IndentedWith Block) Anywhere ts i less result → Reads Block Anywhere ts i room result
indented_answer {ts} {i} {less} room (Ok found) newline e h = subst (λ r. IsReading Block Anywhere ts i r found.tree found.to) (sym e) (indented_block h)
indented_answer {ts} {i} {less} room (Err u) newline e h = subst (λ r. IsUnread Block Anywhere ts i r u) (sym e) (indented_refused ts i less newline u h)

-- a line

line_into : (mode : Mode) (ts : List Terminal) (i n j : ℕ) (t : List Stmt) → Line mode ts i t (suc n) j → Block mode ts i t (suc n) j
unfolding Block BlockWithin
line_into mode ts i n j t h = Either.right (Either.left h)

indented_newline : (mode : Mode) (ts : List Terminal) (i n j : ℕ) (t : List Stmt) (B : Shape (List Stmt)) → IndentedWith B mode ts i t n j → HasKind ts i kind.Newline
unfolding IndentedWith
indented_newline mode ts i n j t B h = h.read.first.stands

line_of_block : (mode : Mode) (ts : List Terminal) (i n j : ℕ) (t : List Stmt) → Sees mode i → (HasKind ts i kind.Newline → ⊥) → Block mode ts i t n j → Line mode ts i t n j
unfolding Block BlockWithin
line_of_block mode ts i zero j t sees none h = absurd (BlockShapes.seen h sees (omega arith))
line_of_block mode ts i (suc n) j t sees none (Either.left h) = absurd (BlockShapes.seen h sees (omega arith))
line_of_block mode ts i (suc n) j t sees none (Either.right (Either.left h)) = h
line_of_block mode ts i (suc n) j t sees none (Either.right (Either.right h)) = absurd (none (indented_newline mode ts i (suc n) j t (BlockWithin n) h))

step_line_room : (ts : List Terminal) (i room : ℕ) → (HasKind ts i kind.Newline → ⊥) → Step Line Anywhere Block Anywhere ts i i (suc room)
step_line_room ts i room none = record {
  forward = omega arith;
  rising = good_line.rises;
  make = λ mode us n e agree long least le opens x. make mode us n e le x;
  split = λ mode us n f j agree sees y stop. record { tree = f; end = j; derived = line_of_block mode us i n j f sees (λ h. none (kind_carried (suc i) (agree_back us ts agree) h (omega arith))) y; stops = tt };
}
  where
    make : (mode : Mode) (us : List Terminal) (n : ℕ) (e : List Stmt) → suc room ≤ n → Line mode us i e n (length us) → Made Block mode us i n
    make mode us zero e le x = absurd (omega (arith, le))
    make mode us (suc n) e le x = record { tokens = us; same = agree_same us; long = omega arith; tree = e; derived = line_into mode us i n (length us) e x }

pub step_block_line : (ts : List Terminal) (i room : ℕ) → (room ≡ 0 → ⊥) → (HasKind ts i kind.Newline → ⊥) → Step Line Anywhere Block Anywhere ts i i room
step_block_line ts i zero some none = absurd (some refl)
step_block_line ts i (suc room) some none = step_line_room ts i room none

line_block : {ts : List Terminal} {i j : ℕ} (room : ℕ) {tree : List Stmt} → (room ≡ 0 → ⊥) → IsReading Line Anywhere ts i room tree j → IsReading Block Anywhere ts i room tree j
line_block zero some h = absurd (some refl)
line_block {ts} {i} {j} (suc room) {tree} some h = record { derived = line_into (strict nesting_limit) ts i room j tree h.derived; stops = tt; within = h.within }

pub line_answer : (ts : List Terminal) (i room : ℕ) (result : Result (Found (List Stmt)) Unread) → (room ≡ 0 → ⊥) → (HasKind ts i kind.Newline → ⊥) → Reads Line Anywhere ts i room result → Reads Block Anywhere ts i room result
line_answer ts i room (Ok found) some none h = line_block room some h
line_answer ts i room (Err u) some none h = fails (step_block_line ts i room some none) u h

indented_indent : (mode : Mode) (ts : List Terminal) (i n j : ℕ) (t : List Stmt) → IndentedWith Block mode ts i t n j → HasKind ts (suc i) kind.Indent
unfolding IndentedWith
indented_indent mode ts i n j t h = subst (λ k. HasKind ts k kind.Indent) h.read.first.end h.read.second.read.first.stands

-- Where no block may stand

-- a token with which a block begins, and behind which it goes on
block_over : (ts : List Terminal) (i : ℕ) → i < length ts → HasWay Block ts i (suc i) → (AreTogether ts i (suc i) → HasWay Block ts i (suc (suc i))) → IsOver Block Anywhere ts i 0 i
block_over ts i inside way apart = record {
  forward = omega arith;
  within = inside;
  reached = reached_here ts i 0 BlockShapes.fresh_block (omega (arith, inside));
  way = way;
  deep = λ us agree tree j x s. no_block (looks_before (suc i)) us i j tree (sees_unseen nesting_limit (suc i) i (omega arith)) x;
  counted = λ keyword us agree limit tree j x s. no_block (unseen_from limit (suc i)) us i j tree (sees_unseen limit (suc i) i (omega arith)) x;
  apart = apart;
}

newline_way : (ts : List Terminal) (i : ℕ) → HasKind ts i kind.Newline → suc i < length ts → HasWay Block ts i (suc i)
newline_way ts i newline inside =
    let token : IsToken kind.Newline ts i 0 (suc i) = record { derived = record { stands = newline; end = refl }; stops = tt; within = inside } in
    way_into (reached_made (behind_newline token) (omega arith) (reached_here ts (suc i) 0 good_deeper.fresh (omega (arith, inside)))).way

-- a line's end behind which a deeper line begins, or which stands at a place of its own
pub newline_over : (ts : List Terminal) (i : ℕ) → HasKind ts i kind.Newline → suc i < length ts → (AreTogether ts i (suc i) → HasKind ts (suc i) kind.Indent × (suc (suc i) < length ts)) → IsOver Block Anywhere ts i 0 i
newline_over ts i newline inside next =
    block_over ts i (omega (arith, inside)) (newline_way ts i newline inside) (λ together.
    let token : IsToken kind.Newline ts i 0 (suc i) = record { derived = record { stands = newline; end = refl }; stops = tt; within = inside } in
    let deeper : IsToken kind.Indent ts (suc i) 0 (suc (suc i)) = record { derived = record { stands = (next together).0; end = refl }; stops = tt; within = (next together).1 } in
    way_into (reached_made (behind_indent token deeper) (omega arith) (reached_here ts (suc (suc i)) 0 good_inner.fresh (omega (arith, (next together).1)))).way)

-- a line's end at the place of the next token, with which no deeper line begins
pub newline_stuck : (ts : List Terminal) (i : ℕ) → suc i < length ts → AreTogether ts i (suc i) → (HasKind ts (suc i) kind.Indent → ⊥) → IsStuck Block Anywhere ts i 0 (suc i)
newline_stuck ts i inside together none = record {
  forward = omega arith;
  within = inside;
  reached = IsArrived.behind_line i (omega arith) together (newline_way ts i together.line inside) (shallow_here ts i 0 BlockShapes.fresh_block (omega (arith, inside)));
  none = λ us agree limit tree blocks j x s. goes_on us agree limit tree j blocks x;
}
  where
    goes_on : (us : List Terminal) → Agree (suc (suc i)) us ts → (limit : ℕ) (tree : List Stmt) (j blocks : ℕ) → Block (strict limit) us i tree blocks j → ⊥
    goes_on us agree limit tree j zero x = no_block (strict limit) us i j tree (sees_strict limit i) x
    goes_on us agree limit tree j (suc blocks) x =
        let there : HasKind us i kind.Newline = kind_carried (suc (suc i)) agree together.line (omega arith) in
        none (kind_carried (suc (suc i)) (agree_back us ts agree) (indented_indent (strict limit) us i blocks j tree (block_indented (strict limit) us i blocks j tree (sees_strict limit i) there x)) (omega arith))

-- the first statement of a line
record BeginsLine (mode : Mode) (ts : List Terminal) (i n : ℕ) : Type 0 where
  pub statement : Stmt
  pub end : ℕ
  pub read : Simple mode ts i statement n end
  pub ends : EndsSimple ts end

listed_first : {mode : Mode} {ts : List Terminal} {i n j : ℕ} {xs : List Stmt} → Listed (kind.Operator sign.Semicolon) Simple mode ts i xs n j → HasKind ts j kind.Newline → BeginsLine mode ts i n
listed_first (Listed.last x) newline = record { statement = _; end = _; read = x; ends = inr newline }
listed_first (Listed.ended x semicolon) newline = record { statement = _; end = _; read = x; ends = inl semicolon }
listed_first (Listed.more x semicolon rest) newline = record { statement = _; end = _; read = x; ends = inl semicolon }

line_first_simple : (mode : Mode) (ts : List Terminal) (i n j : ℕ) (t : List Stmt) → Line mode ts i t n j → BeginsLine mode ts i n
unfolding Line
line_first_simple mode ts i n j t h = listed_first h.read.first h.read.second.stands

pub fewer : {A : Type 0} {X : Shape A} {ts : List Terminal} {i k l : ℕ} → l ≤ k → HasWay X ts i k → HasWay X ts i l
fewer le way = record { tokens = way.tokens; same = agree_carried _ _ way.same le; long = omega (arith, le, way.long); tree = way.tree; limit = way.limit; blocks = way.blocks; derived = way.derived }

-- a simple statement begins with this token
pub simple_over : (ts : List Terminal) (i k : ℕ) → i < length ts → (HasKind ts i kind.Newline → ⊥) → i < k → HasWay Simple ts i k → IsOver Block Anywhere ts i 0 i
simple_over ts i k inside none lt way =
    block_over ts i inside (way_made (step_twice (line_first ts i 1) (step_block_line ts i 1 (λ e. omega (arith, e)) none)) (omega arith) (fewer lt way)) (λ together. absurd (none together.line))

-- and none begins so
pub simple_stuck : (ts : List Terminal) (i room : ℕ) → i < length ts → (HasKind ts i kind.Newline → ⊥) → IsStuck Simple EndsSimple ts i room i → IsStuck Block Anywhere ts i 0 i
simple_stuck ts i room inside none stuck = record {
  forward = omega arith;
  within = inside;
  reached = IsArrived.reached (reached_here ts i 0 BlockShapes.fresh_block (omega (arith, inside)));
  none = λ us agree limit tree blocks j x s.
      let line = line_of_block (strict limit) us i blocks j tree (sees_strict limit i) (λ h. none (kind_carried (suc i) (agree_back us ts agree) h (omega arith))) x in
      let first = line_first_simple (strict limit) us i blocks j tree line in
      stuck.none us agree limit first.statement blocks first.end first.read first.ends;
}

pub refused_answer : (ts : List Terminal) (i : ℕ) (r : Result (Found Stmt) Unread) → ReadsFlat Simple EndsSimple ts i r → MatchOption (result_err r) (HasWay Simple ts i (suc i)) (λ u. IsUnread Simple EndsSimple ts i 0 u)
refused_answer ts i (Ok found) h =
    let reading = h 0 in
    let way = (reached_whole ts i found.to 0 found.tree good_simple.sound good_simple.rises reading.derived (omega (arith, reading.within))).way in
    fewer (solid_simple.grows reading.derived) way
refused_answer ts i (Err u) h = h 0

strictly : (i k : ℕ) → i ≤ k → (k ≡ i → ⊥) → i < k
strictly zero zero le other = absurd (other refl)
strictly zero (suc k) le other = omega arith
strictly (suc i) zero le other = absurd (omega (arith, le))
strictly (suc i) (suc k) le other = omega (arith, strictly i k (omega (arith, le)) (λ e. other (ap suc e)))

-- where a simple statement isn't read, no block is, and where one begins, the block is nested too deep
pub no_room_answer : (ts : List Terminal) (i k : ℕ) → i < length ts → (HasKind ts i kind.Newline → ⊥) → IsStuck Simple EndsSimple ts i 0 k → (k ≡ i → ⊥) → IsOver Block Anywhere ts i 0 i
no_room_answer ts i k inside none stuck other = simple_over ts i k inside none (strictly i k stuck.forward other) (arrived_way stuck.reached)

pub no_room_deep : (ts : List Terminal) (i k : ℕ) → i < length ts → (HasKind ts i kind.Newline → ⊥) → IsOver Simple EndsSimple ts i 0 k → IsOver Block Anywhere ts i 0 i
no_room_deep ts i k inside none over = simple_over ts i (suc k) inside none (omega (arith, over.forward)) over.way
