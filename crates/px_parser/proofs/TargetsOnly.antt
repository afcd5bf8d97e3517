-- Assignments are read in one way.
use Rattle.std.proofs.Common.{◌≡◌, ℕ, suc, ◌≤◌, ◌<◌, Bool, true, List, [], ◌∷◌, All, refl, sym, ap, ap₂, subst, ◌∙◌, inl, inr, arith}
use Rattle.std.proofs.lemmas.List.Elements.{All-contains, All-cons, All-nil}
use Rattle.px_base.specs.declared.c_types.BinOp.{BinOp}
use Rattle.px_base.specs.declared.c_types.BinOp.TheVariants as op
use Rattle.px_lexer.specs.declared.spelling.Operator.{Operator}
use Rattle.px_lexer.specs.declared.spelling.Operator.TheVariants as sign
use Rattle.px_lexer.specs.declared.token_list.TokenKind.TheVariants as kind
use Rattle.px_tree.specs.declared.expressions.Expr.{Expr}
use Rattle.px_tree.specs.declared.statements.StmtForm.{StmtForm}
use Rattle.px_tree.specs.declared.statements.StmtForm.TheVariants as statement
use Rattle.px_lexer.specs.Terminals.{Terminal, IsOperator}
use Rattle.px_exprs.specs.Grammar.{IsOf}
use Rattle.px_exprs.specs.Readings.{Stops, Agree}
use Rattle.px_exprs.proofs.Agreement.{agree_carried}
use Rattle.px_exprs.proofs.Codes.{code_here}
use Rattle.px_lexer.proofs.OneToken.{one_operator}
use Rattle.px_exprs.proofs.Keeping.{kind_carried, of_carried}
use Rattle.px_exprs.proofs.Stops.{code_carried}
use Rattle.px_parser.specs.Shapes.{Mode, Either, Many, Before, Nested}
use Rattle.px_parser.specs.Readings.{Anywhere}
use Rattle.px_parser.specs.StatementGrammar.{IsWithinLimit, IsTarget, Targets, LoopTargets, Assignment, augmented}
use Rattle.px_parser.specs.Parts.{Assigned}
use Rattle.px_parser.specs.Ends.{EndsExprs, EndsSimple, EndsLoopTarget}
use Rattle.px_parser.proofs.Shapely.{Good, Solid, sound_many, sound_seq, sound_here, good_of, good_placed, good_seq, good_here, good_many}
use Rattle.px_parser.proofs.Onlies.{Leads, Clash, Sees, Only, sees_less, leads_after, leads_wider, leads_many, leads_here, leads_anywhere, only_of, only_placed, only_seq, only_here, only_after, only_many, only_narrower}
use Rattle.px_parser.proofs.ExprShapes.{good_exprs_read, good_expr, only_exprs_read, only_expr, end_past, IsComma, BeginsLow, solid_exprs, leads_exprs}
use Rattle.px_parser.proofs.TargetsLaws.{good_target, only_target, solid_target}
use Rattle.px_parser.proofs.TargetsLoops.{Next, good_next, IsIn, loop_past}
use Rattle.px_parser.proofs.TargetsShapes.{good_assignment, ReadAny, exprs_of, exprs_read, targets_read, only_targets, augmented_ends, augmented_no_end, augmented_no_equal, simple_ends, equal_ends, equal_no_end, simple_carried}
use Rattle.px_parser.proofs.TargetsSteps.{Was, Assigns, Augments, Assumes, assigned_first, assignment_first, augmentation_first, good_front}
use Rattle.px_parser.proofs.KindLaws.{solid_front}

-- An operator has one meaning

abbrev meaning_of : Operator → BinOp
meaning_of sign.PlusEqual = op.Add
meaning_of sign.MinusEqual = op.Sub
meaning_of sign.StarEqual = op.Mul
meaning_of sign.DoubleSlashEqual = op.FloorDiv
meaning_of sign.PercentEqual = op.Mod
meaning_of sign.AmpersandEqual = op.BitAnd
meaning_of sign.BarEqual = op.BitOr
meaning_of sign.CaretEqual = op.BitXor
meaning_of sign.LeftShiftEqual = op.Shl
meaning_of _ = op.Shr

abbrev IsMeant : Operator × BinOp → Type 0
IsMeant row = meaning_of row.0 ≡ row.1

abbrev AreMeant : List (Operator × BinOp) → Type 0
AreMeant [] = Unit {0}
AreMeant (row ∷ rows) = IsMeant row × AreMeant rows

each_meant : (rows : List (Operator × BinOp)) → AreMeant rows → All IsMeant rows
each_meant [] h = All-nil IsMeant
each_meant (row ∷ rows) h = All-cons IsMeant row rows h.0 (each_meant rows h.1)

augmented_meant : All IsMeant augmented
unfolding augmented
augmented_meant = each_meant augmented (refl, (refl, (refl, (refl, (refl, (refl, (refl, (refl, (refl, (refl, tt))))))))))

one_meaning : {ts : List Terminal} {i : ℕ} {m o : BinOp} → IsOf augmented ts i m → IsOf augmented ts i o → m ≡ o
one_meaning {m = m} {o = o} g h =
    sym (All-contains IsMeant augmented (g.spelled, m) augmented_meant g.known) ∙ ap meaning_of (one_operator g.stands h.stands) ∙ All-contains IsMeant augmented (h.spelled, o) augmented_meant h.known

-- What was read is the same

same_read : {mode other : Mode} {ts us : List Terminal} {i n m l j : ℕ} {p q : Expr × Bool} → Was mode ts i p n l → EndsExprs ts l → Was other us i q m j → EndsExprs us j → Agree (suc l) us ts → Sees mode l → Sees other l → (p ≡ q) × (l ≡ j)
same_read g s h r agree sees sight = only_exprs_read.one g.read s h.read r agree sees sight

assignments_same : {mode other : Mode} {ts us : List Terminal} {i k q n m l j : ℕ} {xs ys : List Expr} {v w : Expr} → Many (Before Targets (kind.Operator sign.Equal)) mode ts i xs n k → ReadAny mode ts k v n l → EndsSimple ts l
    → Many (Before Targets (kind.Operator sign.Equal)) other us i ys m q → ReadAny other us q w m j → EndsSimple us j → Agree (suc l) us ts → Sees mode l → Sees other l → (statement.Assign xs v ≡ statement.Assign ys w) × (xs ≡ ys) × (v ≡ w) × (l ≡ j)
assignments_same {ts = ts} {us} {l = l} {j} Many.none a s Many.none b r agree sees sight =
    let met = same_read (record { read = a.read }) (simple_ends ts l s) (record { read = b.read }) (simple_ends us j r) agree sees sight in
    let value = ap (λ x. x.0) met.0 in
    (ap (statement.Assign []) value, refl, value, met.1)
assignments_same {ts = ts} {us} {l = l} Many.none a s (Many.more h rest) b r agree sees sight =
    let w = targets_read h.read.first in
    let equal = h.read.second.stands in
    let met = same_read (record { read = a.read }) (simple_ends ts l s) (record { read = w.read }) (equal_ends equal) agree sees sight in
    absurd (equal_no_end (subst (λ x. IsOperator us x sign.Equal) (sym met.1) equal) (simple_carried ts us l agree s))
assignments_same {mode} {other} {ts} {us} {k = k} {l = l} {j} (Many.more {k = p} g tail) a s Many.none b r agree sees sight =
    let w = targets_read g.read.first in
    let equal = g.read.second.stands in
    let before : suc g.read.middle ≤ l = omega (arith, g.read.second.end, (sound_many good_front.sound).forward tail, good_exprs_read.sound.forward a.read) in
    let met = same_read (record { read = w.read }) (equal_ends equal) (record { read = b.read }) (simple_ends us j r) (agree_carried us ts agree (omega (arith, before))) (sees_less mode sees (omega (arith, before))) (sees_less other sight (omega (arith, before))) in
    absurd (equal_no_end (subst (λ x. IsOperator us x sign.Equal) met.1 (kind_carried (suc l) agree equal (omega (arith, before)))) r)
assignments_same {mode} {other} {ts} {us} {i} {k} {q} {n} {m} {l} {j} (Many.more {k = p} {t = t} {others = xs} g tail) a s (Many.more {k = x} {t = u} {others = ys} h rest) b r agree sees sight =
    let le : p ≤ l = omega (arith, (sound_many good_front.sound).forward tail, good_exprs_read.sound.forward a.read) in
    let before : suc g.read.middle ≤ l = omega (arith, g.read.second.end, le) in
    let met = only_targets.one g.read.first (equal_ends g.read.second.stands) h.read.first (equal_ends h.read.second.stands) (agree_carried us ts agree (omega (arith, before))) (sees_less mode sees (omega (arith, before))) (sees_less other sight (omega (arith, before))) in
    let first : t ≡ u = g.tree ∙ met.0 ∙ sym h.tree in
    let there : x ≡ p = omega (arith, met.1, g.read.second.end, h.read.second.end) in
    let moved = subst (λ y. Many (Before Targets (kind.Operator sign.Equal)) other us y ys m q) there rest in
    let others = assignments_same tail a s moved b r agree sees sight in
    let lists = ap₂ (λ y ys. y ∷ ys) first others.1 in
    (ap₂ statement.Assign lists others.2, lists, others.2, others.3)

-- an assignment by its parts
record AssignmentParts (mode : Mode) (ts : List Terminal) (i : ℕ) (t : StmtForm) (n l : ℕ) : Type 0 where
  targets : List Expr
  value : Expr
  start : ℕ
  front : Many (Before Targets (kind.Operator sign.Equal)) mode ts i targets n start
  read : ReadAny mode ts start value n l
  tree : t ≡ statement.Assign targets value

assignment_parts : {mode : Mode} {ts : List Terminal} {i n l : ℕ} {t : StmtForm} → Assignment mode ts i t n l → AssignmentParts mode ts i t n l
unfolding Assignment
assignment_parts h = record { targets = h.inner.0; value = h.inner.1; start = h.read.middle; front = h.read.first; read = exprs_read h.read.second; tree = h.tree }

assignment_same : {mode other : Mode} {ts us : List Terminal} {i n m l j : ℕ} {t u : StmtForm} → AssignmentParts mode ts i t n l → EndsSimple ts l → AssignmentParts other us i u m j → EndsSimple us j → Agree (suc l) us ts → Sees mode l → Sees other l
    → (t ≡ u) × (l ≡ j)
assignment_same g s h r agree sees sight =
    let same = assignments_same g.front g.read s h.front h.read r agree sees sight in
    (g.tree ∙ same.0 ∙ sym h.tree, same.3)

augmentation_same : {mode other : Mode} {ts us : List Terminal} {i n m l j : ℕ} {t u : StmtForm} → Augments mode ts i t n l → EndsSimple ts l → Augments other us i u m j → EndsSimple us j → Agree (suc l) us ts → Sees mode l → Sees other l
    → (t ≡ u) × (l ≡ j)
augmentation_same {mode} {other} {ts} {us} {i} {n} {m} {l} {j} g s h r agree sees sight =
    let before = good_expr.sound.forward g.behind in
    let met = same_read (record { read = g.read }) (augmented_ends g.stands) (record { read = h.read }) (augmented_ends h.stands) (agree_carried us ts agree (omega (arith, before))) (sees_less mode sees (omega (arith, before))) (sees_less other sight (omega (arith, before))) in
    let there = of_carried (suc l) agree g.stands (omega (arith, before)) in
    let meant : g.meant ≡ h.meant = one_meaning there (subst (λ k. IsOf augmented us k h.meant) (sym met.1) h.stands) in
    let moved : IsWithinLimit other us (suc g.k) h.value m j = subst (λ k. IsWithinLimit other us (suc k) h.value m j) (sym met.1) h.behind in
    let value = only_expr.one g.behind (end_past (omega arith) ts l (simple_ends ts l s)) moved (end_past (omega arith) us j (simple_ends us j r)) agree sees sight in
    let target : g.e ≡ h.e = ap (λ x. x.0) met.0 in
    (g.tree ∙ ap (λ e. statement.Augment e g.meant g.value) target ∙ ap (λ o. statement.Augment h.e o g.value) meant ∙ ap (λ v. statement.Augment h.e h.meant v) value.0 ∙ sym h.tree, value.1)

assigns_no_augment : {mode other : Mode} {ts us : List Terminal} {i n m l j : ℕ} {t u : StmtForm} → Assigns mode ts i t n l → EndsSimple ts l → Augments other us i u m j → Agree (suc l) us ts → Sees mode l → Sees other l → ⊥
assigns_no_augment {ts = ts} {us} {l = l} (Assigns.just_value e read same) s b agree sees sight =
    let met = same_read (record { read = read.read }) (simple_ends ts l s) (record { read = b.read }) (augmented_ends b.stands) agree sees sight in
    augmented_no_end (subst (λ k. IsOf augmented us k b.meant) (sym met.1) b.stands) (simple_carried ts us l agree s)
assigns_no_augment {mode} {other} {ts} {us} {l = l} (Assigns.one_target e k read equal others v rest same) s b agree sees sight =
    let before : suc k ≤ l = good_assignment.sound.forward rest in
    let met = same_read (record { read = read.read }) (equal_ends equal) (record { read = b.read }) (augmented_ends b.stands) (agree_carried us ts agree (omega (arith, before))) (sees_less mode sees (omega (arith, before))) (sees_less other sight (omega (arith, before))) in
    augmented_no_equal (subst (λ x. IsOf augmented us x b.meant) (sym met.1) b.stands) (kind_carried (suc l) agree equal (omega (arith, before)))

augment_no_assigns : {mode other : Mode} {ts us : List Terminal} {i n m l j : ℕ} {t u : StmtForm} → Augments mode ts i t n l → Assigns other us i u m j → EndsSimple us j → Agree (suc l) us ts → Sees mode l → Sees other l → ⊥
augment_no_assigns {mode} {other} {ts} {us} {l = l} {j} a (Assigns.just_value e read same) r agree sees sight =
    let before = good_expr.sound.forward a.behind in
    let met = same_read (record { read = a.read }) (augmented_ends a.stands) (record { read = read.read }) (simple_ends us j r) (agree_carried us ts agree (omega (arith, before))) (sees_less mode sees (omega (arith, before))) (sees_less other sight (omega (arith, before))) in
    augmented_no_end (subst (λ k. IsOf augmented us k a.meant) met.1 (of_carried (suc l) agree a.stands (omega (arith, before)))) r
augment_no_assigns {mode} {other} {ts} {us} {l = l} a (Assigns.one_target e k read equal others v rest same) r agree sees sight =
    let before = good_expr.sound.forward a.behind in
    let met = same_read (record { read = a.read }) (augmented_ends a.stands) (record { read = read.read }) (equal_ends equal) (agree_carried us ts agree (omega (arith, before))) (sees_less mode sees (omega (arith, before))) (sees_less other sight (omega (arith, before))) in
    augmented_no_equal (subst (λ x. IsOf augmented us x a.meant) met.1 (of_carried (suc l) agree a.stands (omega (arith, before)))) equal

pub only_assigned : Only Assigned EndsSimple
unfolding Assigned
only_assigned = record {
  one = λ {t = t} {u = u} g s h r agree sees sight. elim (g) [
    | Either.left a ↦ (elim (h) [
      | Either.left b ↦ assignment_same (assignment_parts a) s (assignment_parts b) r agree sees sight
      | Either.right b ↦ absurd (assigns_no_augment (assignment_first t a) s (augmentation_first b) agree sees sight)
    ])
    | Either.right a ↦ (elim (h) [
      | Either.left b ↦ absurd (augment_no_assigns (augmentation_first a) (assignment_first u b) r agree sees sight)
      | Either.right b ↦ augmentation_same (augmentation_first a) s (augmentation_first b) r agree sees sight
    ])
  ];
}

-- What an assignment begins with

read_begins : {mode : Mode} {ts : List Terminal} {i n j : ℕ} {e : Expr} → ReadAny mode ts i e n j → BeginsLow ts i
read_begins {j = j} r = (leads_exprs {R = Anywhere}).leads (exprs_of r) tt

read_grows : {mode : Mode} {ts : List Terminal} {i n j : ℕ} {e : Expr} → ReadAny mode ts i e n j → i < j
read_grows r = solid_exprs.grows (exprs_of r)

assumes_begins : {mode : Mode} {ts : List Terminal} {i n j : ℕ} {t : StmtForm} → Assumes mode ts i t n j → BeginsLow ts i
assumes_begins (Assumes.assigns (Assigns.just_value e read same)) = read_begins read
assumes_begins (Assumes.assigns (Assigns.one_target e k read equal others v rest same)) = read_begins (record { is_alone = read.is_alone; read = read.read })
assumes_begins (Assumes.augments a) = read_begins (record { is_alone = true; read = a.read })

assumes_grows : {mode : Mode} {ts : List Terminal} {i n j : ℕ} {t : StmtForm} → Assumes mode ts i t n j → i < j
assumes_grows (Assumes.assigns (Assigns.just_value e read same)) = read_grows read
assumes_grows (Assumes.assigns (Assigns.one_target e k read equal others v rest same)) = omega (arith, good_assignment.sound.forward rest, read_grows (record { is_alone = read.is_alone; read = read.read }))
assumes_grows (Assumes.augments a) = omega (arith, good_expr.sound.forward a.behind, read_grows (record { is_alone = true; read = a.read }))

pub leads_assigned : {R : Stops} → Leads Assigned R BeginsLow
leads_assigned = record { leads = λ h r. assumes_begins (assigned_first h) }

pub solid_assigned : Solid Assigned
solid_assigned = record { grows = λ h. assumes_grows (assigned_first h) }

-- The targets of a `for`

comma_is_no_in : Clash IsComma IsIn
comma_is_no_in ts us i agree comma keyword = omega (arith, code_carried ts us i agree, code_here comma, code_here keyword)

next_begins : {R : Stops} → Leads Next R IsComma
next_begins {R} = leads_after (Nested IsTarget) _ R IsComma (λ ts i h. h)

only_nexts : Only (Many Next) IsIn
only_nexts = only_many good_next.sound (only_after _ good_target.sound (only_narrower only_target loop_past)) next_begins comma_is_no_in (λ ts i comma. inl comma) (λ ts i keyword. inr keyword)

pub good_loop_targets : Good LoopTargets
unfolding LoopTargets
good_loop_targets = good_of _ (good_placed (solid_front solid_target (good_seq good_here (good_many good_next)).sound) (good_seq good_target (good_seq good_here (good_many good_next))))

pub only_loop_targets : Only LoopTargets IsIn
unfolding LoopTargets
only_loop_targets =
    let nexts = sound_many good_next.sound in
    let behind = sound_seq sound_here nexts in
    let leads : Leads (Many Next) IsIn EndsLoopTarget = leads_many (leads_wider next_begins (λ ts i comma. inl comma)) (λ ts i keyword. inr keyword) in
    only_of _ (only_placed (solid_front solid_target behind)
    (only_seq good_target.sound behind (only_narrower only_target loop_past) (leads_here leads) (only_seq sound_here nexts (only_here Anywhere) (leads_anywhere (Many Next) IsIn) only_nexts)))
