-- Compound statements as shapes over those of their blocks: each is sound, rises with its blocks, and is read in one way.
use Rattle.std.proofs.Common.{◌≡◌, ℕ, suc, List, Option, subst, arith, codes}
use Rattle.px_lexer.specs.declared.spelling.Keyword.{Keyword}
use Rattle.px_lexer.specs.declared.spelling.Keyword.TheVariants as word
use Rattle.px_lexer.specs.declared.spelling.Operator.TheVariants as sign
use Rattle.px_lexer.specs.declared.token_list.TokenKind.TheVariants as kind
use Rattle.px_tree.specs.declared.expressions.Expr.{Expr}
use Rattle.px_tree.specs.declared.statements.Arm.{Arm}
use Rattle.px_tree.specs.declared.statements.Stmt.{Stmt}
use Rattle.px_tree.specs.declared.statements.StmtForm.{StmtForm}
use Rattle.px_lexer.specs.Terminals.{Terminal, IsKeyword, IsOperator, IsName}
use Rattle.px_exprs.specs.Codes.{Past}
use Rattle.px_exprs.specs.Readings.{Stops}
use Rattle.px_exprs.proofs.Codes.{code_here}
use Rattle.px_lexer.proofs.OneToken.{one_name, one_kind}
use Rattle.px_exprs.proofs.Keeping.{name_carried, kind_carried}
use Rattle.px_exprs.proofs.Stops.{kind_stops}
use Rattle.px_parser.specs.Shapes.{Mode, Shape, Here, Seq, Many, Of, After, Before, Maybe}
use Rattle.px_parser.specs.Readings.{Anywhere}
use Rattle.px_parser.specs.Ends.{EndsExprs, EndsArms, EndsElifs, EndsElse, IsBefore}
use Rattle.px_parser.proofs.VariableShapes.{solid_here}
use Rattle.px_parser.specs.StatementGrammar.{IsWithinLimit, Exprs, LoopTargets, Body, Guarded, Armed, If, While, For, LockWord, With, arm_of}
use Rattle.px_parser.proofs.Shapely.{Sound, Solid, AtLeast, Rises, sound_soft, sound_here, sound_seq, sound_placed, sound_either, sound_many, sound_of, sound_after, sound_before, sound_maybe, rises_here, rises_seq, rises_placed, rises_many, rises_of, rises_nested, rises_after, rises_before, rises_maybe}
use Rattle.px_parser.proofs.Onlies.{Leads, Clash, Only, leads_here, leads_placed, leads_of, leads_after, leads_either, leads_gives, leads_wider, leads_anywhere, only_here, only_soft, only_seq, only_placed, only_of, only_either, only_many, only_after, only_before, only_maybe, only_narrower}
use Rattle.px_parser.proofs.ExprShapes.{good_expr, only_expr, good_exprs, only_exprs}
use Rattle.px_parser.proofs.FlatShapes.{flat_exprs, flat_loop_targets, flat_lock}
use Rattle.px_parser.proofs.Heads.{Heads, head_here}
use Rattle.px_parser.proofs.TargetsOnly.{good_loop_targets, only_loop_targets}
use Rattle.px_parser.proofs.KindLaws.{solid_front, solid_placed, solid_of, solid_after, leads_first}

-- ':' block

abbrev ColonHere : Shape ℕ
ColonHere = Before Here (kind.Operator sign.Colon)

sound_colon : Sound ColonHere
sound_colon = sound_before _ sound_here

pub sound_body : {B : Shape (List Stmt)} → Sound B → Sound (Body B)
unfolding Body
sound_body b = sound_seq sound_colon b

pub rises_body : {B C : Shape (List Stmt)} {mode other : Mode} {n m : ℕ} → Rises B C mode other n m → Rises (Body B) (Body C) mode other n m
unfolding Body
rises_body b = rises_seq (rises_before _ rises_here) b

pub only_body : {B : Shape (List Stmt)} {S : Stops} → Sound B → Only B S → Only (Body B) S
unfolding Body
only_body {B} {S} sound b = only_seq sound_colon sound (only_before (kind.Operator sign.Colon) Anywhere sound_here (only_here Anywhere) (λ ts i h. tt)) (leads_anywhere B S) b

abbrev pub IsColon : Stops
IsColon ts i = IsOperator ts i sign.Colon

pub leads_body : (B : Shape (List Stmt)) {R : Stops} → Leads (Body B) R IsColon
unfolding Body
leads_body B = record { leads = λ {ts} h r. subst (λ k. IsOperator ts k sign.Colon) h.first.read.first.end h.first.read.second.stands }

pub colon_past : (ts : List Terminal) (i : ℕ) → IsColon ts i → Past 26 ts i
colon_past ts i h = kind_stops h (omega arith)

pub colon_ends_exprs : (ts : List Terminal) (i : ℕ) → IsColon ts i → EndsExprs ts i
colon_ends_exprs ts i h = omega (arith, code_here h)

-- a keyword, expr ':' block

sound_test : {B : Shape (List Stmt)} → Sound B → Sound (Seq IsWithinLimit (Body B))
sound_test b = sound_seq good_expr.sound (sound_body b)

pub sound_guarded : {B : Shape (List Stmt)} (w : Keyword) → Sound B → Sound (Guarded w B)
unfolding Guarded
sound_guarded w b = sound_placed (sound_after _ (sound_test b)) (solid_after _ (sound_test b))

pub solid_guarded : {B : Shape (List Stmt)} (w : Keyword) → Sound B → Solid (Guarded w B)
unfolding Guarded
solid_guarded w b = solid_placed (solid_after _ (sound_test b))

pub rises_guarded : {B C : Shape (List Stmt)} {mode other : Mode} {n m : ℕ} (w : Keyword) → AtLeast mode other → Rises B C mode other n m → Rises (Guarded w B) (Guarded w C) mode other n m
unfolding Guarded
rises_guarded w le b = rises_placed (rises_after _ (rises_seq (rises_nested _ le) (rises_body b)))

pub only_guarded : {B : Shape (List Stmt)} {S : Stops} (w : Keyword) → Sound B → Only B S → Only (Guarded w B) S
unfolding Guarded
only_guarded {S = S} w s b =
    only_placed (solid_after _ (sound_test s))
    (only_after _ (sound_test s) (only_seq good_expr.sound (sound_body s) only_expr (leads_wider (leads_body _ {R = S}) colon_past) (only_body s b)))

pub leads_guarded : (B : Shape (List Stmt)) {R T : Stops} (w : Keyword) → ((ts : List Terminal) (i : ℕ) → IsKeyword ts i w → T ts i) → Leads (Guarded w B) R T
unfolding Guarded
leads_guarded B {R} {T} w h = leads_placed (leads_after (Seq IsWithinLimit (Body B)) (kind.Keyword w) R T h)

-- the same with the index of the keyword

pub sound_armed : {B : Shape (List Stmt)} (w : Keyword) → Sound B → Sound (Armed w B)
unfolding Armed
sound_armed w b = sound_seq sound_here (sound_guarded w b)

pub solid_armed : {B : Shape (List Stmt)} (w : Keyword) → Sound B → Solid (Armed w B)
unfolding Armed
solid_armed w b = solid_here (solid_guarded w b)

pub rises_armed : {B C : Shape (List Stmt)} {mode other : Mode} {n m : ℕ} (w : Keyword) → AtLeast mode other → Rises B C mode other n m → Rises (Armed w B) (Armed w C) mode other n m
unfolding Armed
rises_armed w le b = rises_seq rises_here (rises_guarded w le b)

pub only_armed : {B : Shape (List Stmt)} {S : Stops} (w : Keyword) → Sound B → Only B S → Only (Armed w B) S
unfolding Armed
only_armed {B} {S} w s b = only_seq sound_here (sound_guarded w s) (only_here Anywhere) (leads_anywhere (Guarded w B) S) (only_guarded w s b)

pub leads_armed : (B : Shape (List Stmt)) {R T : Stops} (w : Keyword) → ((ts : List Terminal) (i : ℕ) → IsKeyword ts i w → T ts i) → Leads (Armed w B) R T
unfolding Armed
leads_armed B {R} {T} w h = leads_here (leads_guarded B w h)

-- if

abbrev pub Elifs : Shape (List Stmt) → Shape (List Arm)
Elifs B = Many (Of arm_of (Armed word.Elif B))

abbrev pub Otherwise : Shape (List Stmt) → Shape (Option (List Stmt))
Otherwise B = Maybe (After (kind.Keyword word.Else) (After (kind.Operator sign.Colon) B))

pub sound_elifs : {B : Shape (List Stmt)} → Sound B → Sound (Elifs B)
sound_elifs b = sound_many (sound_of _ (sound_armed _ b))

pub rises_elifs : {B C : Shape (List Stmt)} {mode other : Mode} {n m : ℕ} → AtLeast mode other → Rises B C mode other n m → Rises (Elifs B) (Elifs C) mode other n m
rises_elifs le b = rises_many (rises_of _ (rises_armed _ le b))

abbrev pub IsElif : Stops
IsElif ts i = IsKeyword ts i word.Elif

abbrev pub IsElse : Stops
IsElse ts i = IsKeyword ts i word.Else

pub elif_is_no_end : Clash IsElif EndsElifs
elif_is_no_end ts us i agree h none = none (kind_carried (suc i) agree h (omega arith))

pub else_is_no_end : Clash IsElse EndsElse
else_is_no_end ts us i agree h none = none (kind_carried (suc i) agree h (omega arith))

pub leads_elif : (B : Shape (List Stmt)) {R : Stops} → Leads (Of arm_of (Armed word.Elif B)) R IsElif
leads_elif B = leads_of _ (leads_armed B word.Elif (λ ts i h. h))

pub only_elifs : {B : Shape (List Stmt)} → Sound B → Only B Anywhere → Only (Elifs B) EndsElifs
only_elifs s b = only_many (sound_of _ (sound_armed word.Elif s)) (only_of _ (only_armed word.Elif s b)) (leads_elif _) elif_is_no_end (λ ts i h. tt) (λ ts i h. tt)

sound_else : {B : Shape (List Stmt)} → Sound B → Sound (After (kind.Keyword word.Else) (After (kind.Operator sign.Colon) B))
sound_else b = sound_after _ (sound_after _ b)

pub sound_otherwise : {B : Shape (List Stmt)} → Sound B → Sound (Otherwise B)
sound_otherwise b = sound_maybe (sound_else b)

pub rises_otherwise : {B C : Shape (List Stmt)} {mode other : Mode} {n m : ℕ} → Rises B C mode other n m → Rises (Otherwise B) (Otherwise C) mode other n m
rises_otherwise b = rises_maybe (rises_after _ (rises_after _ b))

pub leads_else : (B : Shape (List Stmt)) {R : Stops} → Leads (After (kind.Keyword word.Else) (After (kind.Operator sign.Colon) B)) R IsElse
leads_else B {R} = leads_after (After (kind.Operator sign.Colon) B) (kind.Keyword word.Else) R IsElse (λ ts i h. h)

pub only_otherwise : {B : Shape (List Stmt)} → Sound B → Only B Anywhere → Only (Otherwise B) EndsElse
only_otherwise s b = only_maybe (sound_else s) (only_narrower (only_after _ (sound_after _ s) (only_after _ s b)) (λ ts i h. tt)) (leads_else _) else_is_no_end

else_ends_elifs : (ts : List Terminal) (i : ℕ) → IsElse ts i → EndsElifs ts i
else_ends_elifs ts i h g = let same : kind.Keyword word.Else ≡ kind.Keyword word.Elif = one_kind h g in cc

-- what stands behind the `elif` parts
pub leads_otherwise : (B : Shape (List Stmt)) → Leads (Otherwise B) EndsArms EndsElifs
leads_otherwise B = leads_either (leads_of _ (leads_wider (leads_else B {R = EndsArms}) else_ends_elifs)) (leads_gives _ (λ ts i h. h.0))

sound_arms : {B : Shape (List Stmt)} → Sound B → Sound (Seq (Elifs B) (Otherwise B))
sound_arms b = sound_seq (sound_elifs b) (sound_otherwise b)

pub sound_if : {B : Shape (List Stmt)} → Sound B → Sound (If B)
unfolding If
sound_if b = sound_of _ (sound_seq (sound_armed _ b) (sound_arms b))

pub solid_if : {B : Shape (List Stmt)} → Sound B → Solid (If B)
unfolding If
solid_if b = solid_of _ (solid_front (solid_armed _ b) (sound_arms b))

pub rises_if : {B C : Shape (List Stmt)} {mode other : Mode} {n m : ℕ} → AtLeast mode other → Rises B C mode other n m → Rises (If B) (If C) mode other n m
unfolding If
rises_if le b = rises_of _ (rises_seq (rises_armed _ le b) (rises_seq (rises_elifs le b) (rises_otherwise b)))

pub only_arms : {B : Shape (List Stmt)} → Sound B → Only B Anywhere → Only (Seq (Elifs B) (Otherwise B)) EndsArms
only_arms s b = only_seq (sound_elifs s) (sound_otherwise s) (only_elifs s b) (leads_otherwise _) (only_narrower (only_otherwise s b) (λ ts i h. h.1))

pub only_if : {B : Shape (List Stmt)} → Sound B → Only B Anywhere → Only (If B) EndsArms
unfolding If
only_if {B} s b = only_of _ (only_seq (sound_armed _ s) (sound_arms s) (only_armed word.If s b) (leads_anywhere (Seq (Elifs B) (Otherwise B)) EndsArms) (only_arms s b))

pub leads_if : (B : Shape (List Stmt)) {R : Stops} → Leads (If B) R (Heads 5)
unfolding If
leads_if B = leads_of _ (leads_first (leads_armed B word.If (λ ts i h. head_here h)))

-- while

pub sound_while : {B : Shape (List Stmt)} → Sound B → Sound (While B)
unfolding While
sound_while b = sound_of _ (sound_guarded _ b)

pub solid_while : {B : Shape (List Stmt)} → Sound B → Solid (While B)
unfolding While
solid_while b = solid_of _ (solid_guarded _ b)

pub rises_while : {B C : Shape (List Stmt)} {mode other : Mode} {n m : ℕ} → AtLeast mode other → Rises B C mode other n m → Rises (While B) (While C) mode other n m
unfolding While
rises_while le b = rises_of _ (rises_guarded _ le b)

pub only_while : {B : Shape (List Stmt)} {S : Stops} → Sound B → Only B S → Only (While B) S
unfolding While
only_while s b = only_of _ (only_guarded word.While s b)

pub leads_while : (B : Shape (List Stmt)) {R : Stops} → Leads (While B) R (Heads 4)
unfolding While
leads_while B = leads_of _ (leads_guarded B word.While (λ ts i h. head_here h))

-- for

abbrev pub ForValue : Shape (List Stmt) → Shape (Expr × (ℕ × List Stmt))
ForValue B = Seq Exprs (Body B)

abbrev pub ForIn : Shape (List Stmt) → Shape (Expr × (ℕ × List Stmt))
ForIn B = After (kind.Keyword word.In) (ForValue B)

abbrev pub ForRest : Shape (List Stmt) → Shape (Expr × (Expr × (ℕ × List Stmt)))
ForRest B = Seq LoopTargets (ForIn B)

pub sound_for_value : {B : Shape (List Stmt)} → Sound B → Sound (ForValue B)
sound_for_value b = sound_seq good_exprs.sound (sound_body b)

pub sound_for_in : {B : Shape (List Stmt)} → Sound B → Sound (ForIn B)
sound_for_in b = sound_after _ (sound_for_value b)

pub sound_for_rest : {B : Shape (List Stmt)} → Sound B → Sound (ForRest B)
sound_for_rest b = sound_seq good_loop_targets.sound (sound_for_in b)

pub sound_for : {B : Shape (List Stmt)} → Sound B → Sound (For B)
unfolding For
sound_for b = sound_of _ (sound_placed (sound_after _ (sound_for_rest b)) (solid_after _ (sound_for_rest b)))

pub solid_for : {B : Shape (List Stmt)} → Sound B → Solid (For B)
unfolding For
solid_for b = solid_of _ (solid_placed (solid_after _ (sound_for_rest b)))

pub rises_for_value : {B C : Shape (List Stmt)} {mode other : Mode} {n m : ℕ} → AtLeast mode other → Rises B C mode other n m → Rises (ForValue B) (ForValue C) mode other n m
rises_for_value {mode = mode} {other} {n} {m} le b = rises_seq (flat_exprs mode other n m le) (rises_body b)

pub rises_for_in : {B C : Shape (List Stmt)} {mode other : Mode} {n m : ℕ} → AtLeast mode other → Rises B C mode other n m → Rises (ForIn B) (ForIn C) mode other n m
rises_for_in le b = rises_after _ (rises_for_value le b)

pub rises_for_rest : {B C : Shape (List Stmt)} {mode other : Mode} {n m : ℕ} → AtLeast mode other → Rises B C mode other n m → Rises (ForRest B) (ForRest C) mode other n m
rises_for_rest {mode = mode} {other} {n} {m} le b = rises_seq (flat_loop_targets mode other n m le) (rises_for_in le b)

pub rises_for : {B C : Shape (List Stmt)} {mode other : Mode} {n m : ℕ} → AtLeast mode other → Rises B C mode other n m → Rises (For B) (For C) mode other n m
unfolding For
rises_for le b = rises_of _ (rises_placed (rises_after _ (rises_for_rest le b)))

pub only_for_value : {B : Shape (List Stmt)} {S : Stops} → Sound B → Only B S → Only (ForValue B) S
only_for_value {S = S} s b = only_seq good_exprs.sound (sound_body s) only_exprs (leads_wider (leads_body _ {R = S}) colon_ends_exprs) (only_body s b)

pub leads_for_in : (B : Shape (List Stmt)) {R : Stops} → Leads (ForIn B) R (IsBefore (kind.Keyword word.In))
leads_for_in B {R} = leads_after (ForValue B) (kind.Keyword word.In) R (IsBefore (kind.Keyword word.In)) (λ ts i h. h)

pub only_for_in : {B : Shape (List Stmt)} {S : Stops} → Sound B → Only B S → Only (ForIn B) S
only_for_in s b = only_after _ (sound_for_value s) (only_for_value s b)

pub only_for_rest : {B : Shape (List Stmt)} {S : Stops} → Sound B → Only B S → Only (ForRest B) S
only_for_rest s b = only_seq good_loop_targets.sound (sound_for_in s) only_loop_targets (leads_for_in _) (only_for_in s b)

pub only_for : {B : Shape (List Stmt)} {S : Stops} → Sound B → Only B S → Only (For B) S
unfolding For
only_for s b = only_of _ (only_placed (solid_after _ (sound_for_rest s)) (only_after _ (sound_for_rest s) (only_for_rest s b)))

pub leads_for : (B : Shape (List Stmt)) {R : Stops} → Leads (For B) R (Heads 3)
unfolding For
leads_for B {R} = leads_of _ (leads_placed (leads_after (ForRest B) (kind.Keyword word.For) R (Heads 3) (λ ts i h. head_here h)))

-- with

pub sound_lock : Sound LockWord
unfolding LockWord
sound_lock = sound_either (sound_of _ (sound_soft _)) (sound_of _ (sound_soft _))

abbrev IsNamed : List ℕ → Stops
IsNamed name ts i = IsName ts i name

no_two_words : codes "gil" ≡ codes "nogil" → ⊥
no_two_words e = cc

pub only_lock : Only LockWord Anywhere
unfolding LockWord
only_lock =
    only_either (sound_of _ (sound_soft (codes "gil"))) (sound_of _ (sound_soft (codes "nogil"))) (only_of _ (only_soft (codes "gil") Anywhere)) (only_of _ (only_soft (codes "nogil") Anywhere))
    (record { leads = λ h r. h.read.stands }) (record { leads = λ h r. h.read.stands })
    clash
  where
    clash : Clash (IsNamed (codes "gil")) (IsNamed (codes "nogil"))
    clash ts us i agree g h = no_two_words (one_name (name_carried (suc i) agree g (omega arith)) h)

abbrev pub WithRest : Shape (List Stmt) → Shape ((List Stmt → StmtForm) × (ℕ × List Stmt))
WithRest B = Seq LockWord (Body B)

pub sound_with_rest : {B : Shape (List Stmt)} → Sound B → Sound (WithRest B)
sound_with_rest b = sound_seq sound_lock (sound_body b)

pub sound_with : {B : Shape (List Stmt)} → Sound B → Sound (With B)
unfolding With
sound_with b = sound_of _ (sound_placed (sound_after _ (sound_with_rest b)) (solid_after _ (sound_with_rest b)))

pub solid_with : {B : Shape (List Stmt)} → Sound B → Solid (With B)
unfolding With
solid_with b = solid_of _ (solid_placed (solid_after _ (sound_with_rest b)))

pub rises_with_rest : {B C : Shape (List Stmt)} {mode other : Mode} {n m : ℕ} → AtLeast mode other → Rises B C mode other n m → Rises (WithRest B) (WithRest C) mode other n m
rises_with_rest {mode = mode} {other} {n} {m} le b = rises_seq (flat_lock mode other n m le) (rises_body b)

pub rises_with : {B C : Shape (List Stmt)} {mode other : Mode} {n m : ℕ} → AtLeast mode other → Rises B C mode other n m → Rises (With B) (With C) mode other n m
unfolding With
rises_with le b = rises_of _ (rises_placed (rises_after _ (rises_with_rest le b)))

pub only_with_rest : {B : Shape (List Stmt)} {S : Stops} → Sound B → Only B S → Only (WithRest B) S
only_with_rest {B} {S} s b = only_seq sound_lock (sound_body s) only_lock (leads_anywhere (Body B) S) (only_body s b)

pub only_with : {B : Shape (List Stmt)} {S : Stops} → Sound B → Only B S → Only (With B) S
unfolding With
only_with s b = only_of _ (only_placed (solid_after _ (sound_with_rest s)) (only_after _ (sound_with_rest s) (only_with_rest s b)))

pub leads_with : (B : Shape (List Stmt)) {R : Stops} → Leads (With B) R (Heads 2)
unfolding With
leads_with B {R} = leads_of _ (leads_placed (leads_after (WithRest B) (kind.Keyword word.With) R (Heads 2) (λ ts i h. head_here h)))
