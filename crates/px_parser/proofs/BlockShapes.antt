-- Blocks and statements as shapes: each is sound, rises with its blocks, can begin anywhere, and is read in one way.
use Rattle.std.proofs.Common.{ℕ, zero, suc, ◌≤◌, max, List, [], arith}
use Rattle.px_lexer.specs.declared.token_list.TokenKind.TheVariants as kind
use Rattle.px_tree.specs.declared.statements.Stmt.{Stmt}
use Rattle.px_lexer.specs.Terminals.{Terminal}
use Rattle.px_exprs.specs.Readings.{Stops}
use Rattle.px_exprs.proofs.Agreement.{agree_same}
use Rattle.px_parser.specs.Shapes.{Mode, Shape, Either, Many, Of, After, Before}
use Rattle.px_parser.specs.Readings.{Anywhere}
use Rattle.px_parser.specs.Ends.{EndsArms, IsBefore}
use Rattle.px_parser.proofs.VariableShapes.{good_declare, only_declare, solid_declare}
use Rattle.px_parser.specs.StatementGrammar.{While, For, With, Declare, Line, StatementWith, StatementsWith, IndentedWith, Unseen, BlockWithin, Block, Statement, alone}
use Rattle.px_parser.proofs.Shapely.{Sound, Solid, AtLeast, Rises, IsRising, IsFresh, Opens, Good, sound_either, sound_many, sound_of, sound_after, sound_before, sound_several, rises_either, rises_of, rises_after, rises_before, rises_several, fresh_right}
use Rattle.px_parser.proofs.Onlies.{Leads, Clash, clash_back, Sees, Only, leads_of, leads_after, leads_either, leads_wider, leads_many, only_seq, only_of, only_either, only_many, only_after, only_before, only_narrower}
use Rattle.px_parser.proofs.FlatShapes.{flat_line, flat_declare}
use Rattle.px_parser.proofs.Heads.{Heads, HeadsUpTo, heads_apart, heads_apart_kind, head_here, head_ends_arms}
use Rattle.px_parser.proofs.SimpleShapes.{good_line, only_line, solid_line}
use Rattle.px_parser.proofs.LineHeads.{line_head, declare_head}
use Rattle.px_parser.proofs.KindLaws.{solid_of, solid_either}
use Rattle.px_parser.proofs.CompoundShapes.{sound_if, solid_if, rises_if, only_if, leads_if, sound_while, solid_while, rises_while, only_while, leads_while, sound_for, solid_for, rises_for, only_for, leads_for, sound_with, solid_with, rises_with, only_with, leads_with}

-- statements

abbrev pub AfterFor : Shape (List Stmt) → Shape (List Stmt)
AfterFor B = Either (Of alone (With B)) (Either (Of alone Declare) Line)

abbrev pub AfterWhile : Shape (List Stmt) → Shape (List Stmt)
AfterWhile B = Either (Of alone (For B)) (AfterFor B)

abbrev pub AfterIf : Shape (List Stmt) → Shape (List Stmt)
AfterIf B = Either (Of alone (While B)) (AfterWhile B)

pub sound_declare_line : Sound (Either (Of alone Declare) Line)
sound_declare_line = sound_either (sound_of _ good_declare.sound) good_line.sound

pub sound_after_for : {B : Shape (List Stmt)} → Sound B → Sound (AfterFor B)
sound_after_for b = sound_either (sound_of _ (sound_with b)) sound_declare_line

pub sound_after_while : {B : Shape (List Stmt)} → Sound B → Sound (AfterWhile B)
sound_after_while b = sound_either (sound_of _ (sound_for b)) (sound_after_for b)

pub sound_after_if : {B : Shape (List Stmt)} → Sound B → Sound (AfterIf B)
sound_after_if b = sound_either (sound_of _ (sound_while b)) (sound_after_while b)

pub sound_statement_with : {B : Shape (List Stmt)} → Sound B → Sound (StatementWith B)
unfolding StatementWith
sound_statement_with b = sound_either (sound_of _ (sound_if b)) (sound_after_if b)

pub solid_statement_with : {B : Shape (List Stmt)} → Sound B → Solid (StatementWith B)
unfolding StatementWith
solid_statement_with b =
    solid_either (solid_of _ (solid_if b)) (solid_either (solid_of _ (solid_while b)) (solid_either (solid_of _ (solid_for b)) (solid_either (solid_of _ (solid_with b)) (solid_either (solid_of _ solid_declare) solid_line))))

pub rises_statement_with : {B C : Shape (List Stmt)} {mode other : Mode} {n m : ℕ} → AtLeast mode other → Rises B C mode other n m → Rises (StatementWith B) (StatementWith C) mode other n m
unfolding StatementWith
rises_statement_with {mode = mode} {other} {n} {m} le b =
    rises_either (rises_of _ (rises_if le b)) (rises_either (rises_of _ (rises_while le b)) (rises_either (rises_of _ (rises_for le b)) (rises_either (rises_of _ (rises_with le b))
    (rises_either (rises_of _ (flat_declare mode other n m le)) (flat_line mode other n m le)))))

pub fresh_statement_with : (B : Shape (List Stmt)) → IsFresh (StatementWith B)
unfolding StatementWith
fresh_statement_with B = fresh_right (fresh_right (fresh_right (fresh_right (fresh_right good_line.fresh))))

heads_low : (n m : ℕ) → n ≤ m → (ts : List Terminal) (i : ℕ) → Heads n ts i → HeadsUpTo m ts i
heads_low n m le ts i h = omega (arith, h, le)

pub leads_declare_line : {R : Stops} → Leads (Either (Of alone Declare) Line) R (HeadsUpTo 1)
leads_declare_line = leads_either (leads_of _ (leads_wider declare_head (heads_low 1 1 (omega arith)))) (leads_wider line_head (heads_low 0 1 (omega arith)))

pub leads_after_for : (B : Shape (List Stmt)) {R : Stops} → Leads (AfterFor B) R (HeadsUpTo 2)
leads_after_for B = leads_either (leads_of _ (leads_wider (leads_with B) (heads_low 2 2 (omega arith)))) (leads_wider leads_declare_line (λ ts i h. omega (arith, h)))

pub leads_after_while : (B : Shape (List Stmt)) {R : Stops} → Leads (AfterWhile B) R (HeadsUpTo 3)
leads_after_while B = leads_either (leads_of _ (leads_wider (leads_for B) (heads_low 3 3 (omega arith)))) (leads_wider (leads_after_for B) (λ ts i h. omega (arith, h)))

pub leads_after_if : (B : Shape (List Stmt)) {R : Stops} → Leads (AfterIf B) R (HeadsUpTo 4)
leads_after_if B = leads_either (leads_of _ (leads_wider (leads_while B) (heads_low 4 4 (omega arith)))) (leads_wider (leads_after_while B) (λ ts i h. omega (arith, h)))

pub leads_statement_with : (B : Shape (List Stmt)) {R : Stops} → Leads (StatementWith B) R (HeadsUpTo 5)
unfolding StatementWith
leads_statement_with B = leads_either (leads_of _ (leads_wider (leads_if B) (heads_low 5 5 (omega arith)))) (leads_wider (leads_after_if B) (λ ts i h. omega (arith, h)))

pub only_alone : {X : Shape Stmt} {S : Stops} → Only X Anywhere → Only (Of alone X) S
only_alone x = only_of _ (only_narrower x (λ ts i h. tt))

pub only_declare_line : {S : Stops} → Only (Either (Of alone Declare) Line) S
only_declare_line =
    only_either (sound_of _ good_declare.sound) good_line.sound (only_alone only_declare) (only_line _) (leads_of _ declare_head) (leads_wider line_head (heads_low 0 0 (omega arith))) (heads_apart 1 0 (omega arith))

pub only_after_for : {B : Shape (List Stmt)} {S : Stops} → Sound B → Only B Anywhere → Only (AfterFor B) S
only_after_for {B} s b =
    only_either (sound_of _ (sound_with s)) sound_declare_line (only_alone (only_with s b)) only_declare_line (leads_of _ (leads_with B)) leads_declare_line (heads_apart 2 1 (omega arith))

pub only_after_while : {B : Shape (List Stmt)} {S : Stops} → Sound B → Only B Anywhere → Only (AfterWhile B) S
only_after_while {B} s b =
    only_either (sound_of _ (sound_for s)) (sound_after_for s) (only_alone (only_for s b)) (only_after_for s b) (leads_of _ (leads_for B)) (leads_after_for B) (heads_apart 3 2 (omega arith))

pub only_after_if : {B : Shape (List Stmt)} {S : Stops} → Sound B → Only B Anywhere → Only (AfterIf B) S
only_after_if {B} s b =
    only_either (sound_of _ (sound_while s)) (sound_after_while s) (only_alone (only_while s b)) (only_after_while s b) (leads_of _ (leads_while B)) (leads_after_while B) (heads_apart 4 3 (omega arith))

pub only_statement_with : {B : Shape (List Stmt)} → Sound B → Only B Anywhere → Only (StatementWith B) EndsArms
unfolding StatementWith
only_statement_with {B} s b =
    only_either (sound_of _ (sound_if s)) (sound_after_if s) (only_of _ (only_if s b)) (only_after_if s b) (leads_of _ (leads_if B)) (leads_after_if B) (heads_apart 5 4 (omega arith))

-- statement+

pub sound_statements_with : {B : Shape (List Stmt)} → Sound B → Sound (StatementsWith B)
unfolding StatementsWith
sound_statements_with b = sound_of _ (sound_several (sound_statement_with b))

pub rises_statements_with : {B C : Shape (List Stmt)} {mode other : Mode} {n m : ℕ} → AtLeast mode other → Rises B C mode other n m → Rises (StatementsWith B) (StatementsWith C) mode other n m
unfolding StatementsWith
rises_statements_with le b = rises_of _ (rises_several (rises_statement_with le b))

abbrev pub IsDedent : Stops
IsDedent = IsBefore kind.Dedent

pub dedent_ends_arms : (ts : List Terminal) (i : ℕ) → IsDedent ts i → EndsArms ts i
dedent_ends_arms ts i h =
    let heads = head_here h in
    (λ g. omega (arith, heads, head_here g), λ g. omega (arith, heads, head_here g))

pub statement_is_no_dedent : Clash (HeadsUpTo 5) IsDedent
statement_is_no_dedent = heads_apart_kind 5 kind.Dedent (omega arith)

-- statements behind others
pub only_more_statements : {B : Shape (List Stmt)} → Sound B → Only B Anywhere → Only (Many (StatementWith B)) IsDedent
only_more_statements {B} s b = only_many (sound_statement_with s) (only_statement_with s b) (leads_statement_with B) statement_is_no_dedent head_ends_arms dedent_ends_arms

pub leads_more_statements : (B : Shape (List Stmt)) → Leads (Many (StatementWith B)) IsDedent EndsArms
leads_more_statements B = leads_many (leads_wider (leads_statement_with B) head_ends_arms) dedent_ends_arms

pub only_statements_with : {B : Shape (List Stmt)} → Sound B → Only B Anywhere → Only (StatementsWith B) IsDedent
unfolding StatementsWith
only_statements_with {B} s b =
    only_of _ (only_of _ (only_seq (sound_statement_with s) (sound_many (sound_statement_with s)) (only_statement_with s b) (leads_more_statements B) (only_more_statements s b)))

-- NEWLINE INDENT statement+ DEDENT

pub sound_before_dedent : {B : Shape (List Stmt)} → Sound B → Sound (Before (StatementsWith B) kind.Dedent)
sound_before_dedent b = sound_before _ (sound_statements_with b)

pub sound_after_indent : {B : Shape (List Stmt)} → Sound B → Sound (After kind.Indent (Before (StatementsWith B) kind.Dedent))
sound_after_indent b = sound_after _ (sound_before_dedent b)

pub sound_indented_with : {B : Shape (List Stmt)} → Sound B → Sound (IndentedWith B)
unfolding IndentedWith
sound_indented_with b = sound_after _ (sound_after_indent b)

pub rises_indented_with : {B C : Shape (List Stmt)} {mode other : Mode} {n m : ℕ} → AtLeast mode other → Rises B C mode other n m → Rises (IndentedWith B) (IndentedWith C) mode other n m
unfolding IndentedWith
rises_indented_with le b = rises_after _ (rises_after _ (rises_before _ (rises_statements_with le b)))

pub only_before_dedent : {B : Shape (List Stmt)} {S : Stops} → Sound B → Only B Anywhere → Only (Before (StatementsWith B) kind.Dedent) S
only_before_dedent {S = S} s b = only_before kind.Dedent S (sound_statements_with s) (only_statements_with s b) (λ ts i h. h)

pub only_after_indent : {B : Shape (List Stmt)} {S : Stops} → Sound B → Only B Anywhere → Only (After kind.Indent (Before (StatementsWith B) kind.Dedent)) S
only_after_indent s b = only_after _ (sound_before_dedent s) (only_before_dedent s b)

pub only_indented_with : {B : Shape (List Stmt)} {S : Stops} → Sound B → Only B Anywhere → Only (IndentedWith B) S
unfolding IndentedWith
only_indented_with s b = only_after _ (sound_after_indent s) (only_after_indent s b)

pub leads_indented_with : (B : Shape (List Stmt)) {R : Stops} → Leads (IndentedWith B) R (Heads 9)
unfolding IndentedWith
leads_indented_with B {R} = leads_after (After kind.Indent (Before (StatementsWith B) kind.Dedent)) kind.Newline R (Heads 9) (λ ts i h. head_here h)

-- block

sound_unseen : Sound Unseen
sound_unseen = record {
  carried = λ h a. record { from = h.from; hidden = h.hidden; behind = h.behind; forward = h.forward };
  forward = λ h. h.forward;
}

-- where each block is looked at, none is unseen
pub seen : {mode : Mode} {ts : List Terminal} {i n j l : ℕ} {ss : List Stmt} → Unseen mode ts i ss n j → Sees mode l → i ≤ l → ⊥
seen h sees le = omega (arith, sees h.from h.hidden, h.behind, le)

pub sound_within : (n : ℕ) → Sound (BlockWithin n)
unfolding BlockWithin
sound_within zero = sound_unseen
sound_within (suc n) = sound_either sound_unseen (sound_either good_line.sound (sound_indented_with (sound_within n)))

rises_unseen : {mode other : Mode} {n m : ℕ} → AtLeast mode other → Rises Unseen Unseen mode other n m
rises_unseen le = record {
  rise = λ h.
      let hides = le.unseen h.from h.hidden in
      record { from = hides.first; hidden = hides.hidden; behind = omega (arith, hides.earlier, h.behind); forward = h.forward };
}

pub rises_within : (n m : ℕ) {mode other : Mode} (a b : ℕ) → AtLeast mode other → n ≤ m → Rises (BlockWithin n) (BlockWithin m) mode other a b
unfolding BlockWithin
rises_within zero zero a b le more = rises_unseen le
rises_within zero (suc m) a b le more = record { rise = λ h. Either.left ((rises_unseen le).rise h) }
rises_within (suc n) zero a b le more = absurd (omega (arith, more))
rises_within (suc n) (suc m) {mode} {other} a b le more =
    rises_either (rises_unseen le) (rises_either (flat_line mode other a b le) (rises_indented_with le (rises_within n m a b le (omega (arith, more)))))

abbrev pub Written : Shape (List Stmt) → Shape (List Stmt)
Written B = Either Line (IndentedWith B)

pub sound_written : {B : Shape (List Stmt)} → Sound B → Sound (Written B)
sound_written b = sound_either good_line.sound (sound_indented_with b)

pub only_written : {B : Shape (List Stmt)} → Sound B → Only B Anywhere → Only (Written B) Anywhere
only_written {B} s b =
    only_either good_line.sound (sound_indented_with s) (only_line Anywhere) (only_indented_with s b) (leads_wider line_head (heads_low 0 0 (omega arith))) (leads_indented_with B) (clash_back (heads_apart 9 0 (omega arith)))

-- a block that is looked at
one_seen : {B : Shape (List Stmt)} → Sound B → Only B Anywhere → Only (Either Unseen (Written B)) Anywhere
one_seen s b = record {
  one = λ g t h r agree sees sight. elim (g) [
    | Either.left a ↦ absurd (seen a sees a.forward)
    | Either.right a ↦ (elim (h) [
      | Either.left c ↦ absurd (seen c sight ((sound_written s).forward a))
      | Either.right c ↦ (only_written s b).one a t c r agree sees sight
    ])
  ];
}

pub only_within : (n : ℕ) → Only (BlockWithin n) Anywhere
unfolding BlockWithin
only_within zero = record { one = λ g s h r agree sees sight. absurd (seen g sees g.forward) }
only_within (suc n) = one_seen (sound_within n) (only_within n)

pub sound_block : Sound Block
unfolding Block
sound_block = record {
  carried = λ {n} h a. (sound_within n).carried h a;
  forward = λ {n} h. (sound_within n).forward h;
}

pub rises_block : IsRising Block
unfolding Block
rises_block mode other n m le more = record { rise = λ h. (rises_within n m n m le more).rise h }

pub fresh_block : IsFresh Block
unfolding Block BlockWithin
fresh_block mode us zero (Opens.blocks some) = absurd (omega (arith, some))
fresh_block mode us (suc n) (Opens.blocks some) =
    let one = good_line.fresh mode us (suc n) (Opens.blocks some) in
    record { tokens = one.tokens; same = one.same; long = one.long; tree = one.tree; derived = Either.right (Either.left one.derived) }
fresh_block mode us zero (Opens.hidden from e behind) = record {
  tokens = us;
  same = agree_same us;
  long = omega arith;
  tree = [];
  derived = record { from = from; hidden = e; behind = behind; forward = omega arith };
}
fresh_block mode us (suc n) (Opens.hidden from e behind) = record {
  tokens = us;
  same = agree_same us;
  long = omega arith;
  tree = [];
  derived = Either.left (record { from = from; hidden = e; behind = behind; forward = omega arith });
}

pub only_block : Only Block Anywhere
unfolding Block
only_block = record {
  one = λ {mode} {other} {n} {m} g s h r agree sees sight.
      (only_within (max n m)).one ((rises_within n (max n m) n n (same_mode mode) (omega arith)).rise g) s ((rises_within m (max n m) m m (same_mode other) (omega arith)).rise h) r agree sees sight;
}
  where
    same_mode : (mode : Mode) → AtLeast mode mode
    same_mode mode = record { limits = omega arith; unseen = λ from e. record { first = from; hidden = e; earlier = omega arith } }

pub good_block : Good Block
good_block = record { sound = sound_block; rises = rises_block; fresh = fresh_block }

-- statement

pub good_statement : Good Statement
unfolding Statement
good_statement = record { sound = sound_statement_with sound_block; rises = λ mode other n m le more. rises_statement_with le (rises_block mode other n m le more); fresh = fresh_statement_with Block }

pub only_statement : Only Statement EndsArms
unfolding Statement
only_statement = only_statement_with sound_block only_block

pub solid_statement : Solid Statement
unfolding Statement
solid_statement = solid_statement_with sound_block

pub leads_statement : {R : Stops} → Leads Statement R (HeadsUpTo 5)
unfolding Statement
leads_statement = leads_statement_with Block
