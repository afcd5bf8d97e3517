-- Lists of targets as lists of expressions, and the parts of assignments as shapes.
use Rattle.std.proofs.Common.{◌≡◌, ℕ, suc, Bool, true, false, List, [], ◌∷◌, ◌++◌, Option, Some, None, All, Contains, refl, sym, ap, subst, ◌∙◌, inl, inr, arith}
use Rattle.std.proofs.lemmas.Bool.{false≢true}
use Rattle.std.proofs.lemmas.List.Elements.{All-contains, All-cons, All-nil}
use Rattle.px_base.specs.declared.refusals.Span.{Span}
use Rattle.px_base.specs.declared.c_types.BinOp.{BinOp}
use Rattle.px_base.specs.declared.c_types.BinOp.TheVariants as op
use Rattle.px_lexer.specs.declared.spelling.Operator.{Operator}
use Rattle.px_lexer.specs.declared.spelling.Operator.TheVariants as sign
use Rattle.px_lexer.specs.declared.token_list.TokenKind.{TokenKind}
use Rattle.px_lexer.specs.declared.token_list.TokenKind.TheVariants as kind
use Rattle.px_tree.specs.declared.expressions.Expr.{Expr}
use Rattle.px_tree.specs.declared.expressions.ExprForm.TheOpen.{ExprForm-F}
use Rattle.px_tree.specs.declared.expressions.ExprForm.TheVariants.{rolls-Tuple}
use Rattle.px_lexer.specs.Terminals.{Terminal, HasKind, IsOperator, IsAt}
use Rattle.px_exprs.specs.Grammar.{IsOf}
use Rattle.px_exprs.specs.Codes.{sign_code}
use Rattle.px_exprs.specs.Readings.{Agree}
use Rattle.px_exprs.proofs.Agreement.{agree_append}
use Rattle.px_exprs.proofs.Codes.{code_here}
use Rattle.px_lexer.proofs.OneToken.{one_kind}
use Rattle.px_exprs.proofs.Keeping.{kind_carried, of_carried}
use Rattle.px_parser.specs.Shapes.{Mode, Either, Listed, Elements, Nested}
use Rattle.px_parser.specs.StatementGrammar.{IsWithinLimit, Exprs, IsTarget, Targets, Augmented, Assignment, Augmentation, augmented, expr_list}
use Rattle.px_parser.specs.Parts.{ExprsRead, is_alone, IsTargetTree, AreTargetTrees, Assigned}
use Rattle.px_parser.specs.Ends.{EndsExprs, EndsSimple}
use Rattle.px_parser.proofs.Shapely.{Rises, IsFresh, Good, token_of, stands_last, one_longer, rises_placed, rises_seq, rises_here, rises_maybe, rises_after, rises_elements, good_of, good_seq, good_many, good_before, good_either}
use Rattle.px_parser.proofs.Onlies.{Only, only_of}
use Rattle.px_parser.proofs.ExprShapes.{Others, Commas, comma_past, end_past, good_expr, good_exprs, good_commas, only_commas}
use Rattle.px_parser.proofs.TargetsTrees.{target_told, first_target}
use Rattle.px_parser.proofs.TargetsLaws.{target_is_expr, expr_target, target_has_tree, good_target, only_target, solid_target, leads_target}

-- targets

pub good_targets : Good Targets
unfolding Targets
good_targets = good_of _ (good_commas solid_target good_target)

pub only_targets : Only Targets EndsExprs
unfolding Targets
only_targets = only_of _ (only_commas solid_target good_target.sound only_target leads_target (comma_past (omega arith)) (end_past (omega arith)))

-- Targets are expressions

pub target_rises : {mode : Mode} {n : ℕ} → Rises (Nested IsTarget) IsWithinLimit mode mode n n
target_rises = record { rise = λ h. record { depth = h.depth; read = target_is_expr h.read; within = h.within } }

commas_rise : {mode : Mode} {n : ℕ} → Rises (Commas (Nested IsTarget)) (Commas IsWithinLimit) mode mode n n
commas_rise = rises_placed (rises_seq target_rises (rises_seq rises_here (rises_maybe (rises_after _ (rises_elements _ target_rises)))))

-- what was read, and its tree is that of a target
pub record ReadAs (mode : Mode) (ts : List Terminal) (i : ℕ) (e : Expr) (n j : ℕ) : Type 0 where
  pub is_alone : Bool
  pub read : ExprsRead mode ts i (e, is_alone) n j
  pub target : IsTargetTree e

trees_listed : {mode : Mode} {ts : List Terminal} (k : TokenKind) {i n j : ℕ} {es : List Expr} → Listed k (Nested IsTarget) mode ts i es n j → AreTargetTrees es
trees_listed k (Listed.last h) = AreTargetTrees.more (target_has_tree h.read) AreTargetTrees.none
trees_listed k (Listed.ended h comma) = AreTargetTrees.more (target_has_tree h.read) AreTargetTrees.none
trees_listed k (Listed.more h comma rest) = AreTargetTrees.more (target_has_tree h.read) (trees_listed k rest)

abbrev pub AreOtherTrees : Option (List Expr) → Type 0
AreOtherTrees None = Unit {0}
AreOtherTrees (Some es) = AreTargetTrees es

trees_others : {mode : Mode} {ts : List Terminal} {i n j : ℕ} {es : Option (List Expr)} → Others (Nested IsTarget) mode ts i es n j → AreOtherTrees es
trees_others (Either.left some) = subst AreOtherTrees (sym some.tree) (subst AreTargetTrees (sym some.read.tree) (elements some.read.read.second))
  where
    elements : {mode : Mode} {ts : List Terminal} {i n j : ℕ} {es : List Expr} → Elements (kind.Operator sign.Comma) (Nested IsTarget) mode ts i es n j → AreTargetTrees es
    elements (Either.left l) = trees_listed (kind.Operator sign.Comma) l
    elements (Either.right none) = subst AreTargetTrees (sym none.tree) AreTargetTrees.none
trees_others (Either.right none) = subst AreOtherTrees (sym none.tree) tt

list_tree : (at : Span) (first : Expr) (number : ℕ) (others : Option (List Expr)) → IsTargetTree first → AreOtherTrees others → IsTargetTree (expr_list at first number others)
list_tree at first number None t more = t
list_tree at first number (Some es) t more = IsTargetTree.tuple number at first es t more refl

pub targets_read : {mode : Mode} {ts : List Terminal} {i n j : ℕ} {e : Expr} → Targets mode ts i e n j → ReadAs mode ts i e n j
unfolding Targets ExprsRead
targets_read h = record {
  is_alone = is_alone h.inner.1.1.1;
  read = record { inner = h.inner; read = commas_rise.rise h.read; tree = ap (λ x. (x, is_alone h.inner.1.1.1)) h.tree };
  target = subst IsTargetTree (sym h.tree) (list_tree h.inner.0 h.inner.1.0 h.inner.1.1.0 h.inner.1.1.1 (target_has_tree h.read.second.first.read) (trees_others h.read.second.second.second));
}

-- Expressions with such a tree are targets

list_told : (at : Span) (first : Expr) (number : ℕ) (others : Option (List Expr)) → IsTargetTree (expr_list at first number others) → IsTargetTree first × AreOtherTrees others
list_told at first number None t = (t, tt)
list_told at first number (Some es) t = first_target (target_told number at (ExprForm-F.Tuple (first ∷ es)) (rolls-Tuple (first ∷ es)) refl t).0

pub within_target : {mode : Mode} {ts : List Terminal} {i n j : ℕ} {e : Expr} → IsWithinLimit mode ts i e n j → IsTargetTree e → Nested IsTarget mode ts i e n j
within_target h t = record { depth = h.depth; read = expr_target h.read t; within = h.within }

targets_listed : {mode : Mode} {ts : List Terminal} (k : TokenKind) {i n j : ℕ} {es : List Expr} → Listed k IsWithinLimit mode ts i es n j → AreTargetTrees es → Listed k (Nested IsTarget) mode ts i es n j
targets_listed k (Listed.last h) (AreTargetTrees.more t trees) = Listed.last (within_target h t)
targets_listed k (Listed.ended h comma) (AreTargetTrees.more t trees) = Listed.ended (within_target h t) comma
targets_listed k (Listed.more h comma rest) (AreTargetTrees.more t trees) = Listed.more (within_target h t) comma (targets_listed k rest trees)

targets_elements : {mode : Mode} {ts : List Terminal} {i n j : ℕ} {es : List Expr} → Elements (kind.Operator sign.Comma) IsWithinLimit mode ts i es n j → AreTargetTrees es → Elements (kind.Operator sign.Comma) (Nested IsTarget) mode ts i es n j
targets_elements (Either.left l) trees = Either.left (targets_listed (kind.Operator sign.Comma) l trees)
targets_elements (Either.right none) trees = Either.right none

targets_others : {mode : Mode} {ts : List Terminal} {i n j : ℕ} {es : Option (List Expr)} → Others IsWithinLimit mode ts i es n j → AreOtherTrees es → Others (Nested IsTarget) mode ts i es n j
targets_others (Either.left some) trees =
    let known = subst AreTargetTrees some.read.tree (subst AreOtherTrees some.tree trees) in
    Either.left (record {
      inner = some.inner;
      read = record { inner = some.read.inner; read = record { middle = some.read.read.middle; first = some.read.read.first; second = targets_elements some.read.read.second known }; tree = some.read.tree };
      tree = some.tree;
    })
targets_others (Either.right none) trees = Either.right none

pub exprs_targets : {mode : Mode} {ts : List Terminal} {i n j : ℕ} {e : Expr} → ReadAs mode ts i e n j → Targets mode ts i e n j
unfolding Targets ExprsRead
exprs_targets g =
    let h = g.read in
    let e = ap (λ x. x.0) h.tree in
    let trees = list_told h.inner.0 h.inner.1.0 h.inner.1.1.0 h.inner.1.1.1 (subst IsTargetTree e g.target) in
    let r = h.read.second in
    record {
      inner = h.inner;
      read = record {
        middle = h.read.middle;
        first = h.read.first;
        second = record { middle = r.middle; first = within_target r.first trees.0; second = record { middle = r.second.middle; first = r.second.first; second = targets_others r.second.second trees.1 } };
      };
      tree = e;
    }

-- One expression without a comma

no_others : {A : Type 0} (es : List A) → ◌≡◌ {A = Option (List A)} None (Some es) → ⊥
no_others es e = cc

others_none : {mode : Mode} {ts : List Terminal} {i n j : ℕ} → Others IsWithinLimit mode ts i None n j → j ≡ i
others_none (Either.left some) = absurd (no_others some.inner some.tree)
others_none (Either.right none) = none.end

alone_by : {mode : Mode} {ts : List Terminal} {i n j : ℕ} {e : Expr} (at : Span) (first : Expr) (number : ℕ) (others : Option (List Expr)) → Commas IsWithinLimit mode ts i (at, (first, (number, others))) n j
    → e ≡ expr_list at first number others → is_alone others ≡ true → IsWithinLimit mode ts i e n j
alone_by {mode} {ts} {i} {n} {j} {e} at first number None h same one =
    let r = h.second in
    let end : j ≡ r.middle = omega (arith, others_none r.second.second, r.second.first.end) in
    subst (λ k. IsWithinLimit mode ts k e n j) h.first.end (subst (λ x. IsWithinLimit mode ts h.middle x n j) (sym same) (subst (λ k. IsWithinLimit mode ts h.middle first n k) (sym end) r.first))
alone_by at first number (Some es) h same one = absurd (false≢true one)

pub exprs_alone : {mode : Mode} {ts : List Terminal} {i n j : ℕ} {p : Expr × Bool} → ExprsRead mode ts i p n j → p.1 ≡ true → IsWithinLimit mode ts i p.0 n j
unfolding ExprsRead
exprs_alone h one = alone_by h.inner.0 h.inner.1.0 h.inner.1.1.0 h.inner.1.1.1 h.read (ap (λ x. x.0) h.tree) (sym (ap (λ x. x.1) h.tree) ∙ one)

-- the place of the token at which a target begins
kind_place : {ts : List Terminal} {i : ℕ} {k : TokenKind} → HasKind ts i k → (at : Span) × IsAt ts i at
kind_place h = (h.token.at, record { token = h.token; stands = h.stands; placed = refl })

pub target_place : {ts : List Terminal} {i d j : ℕ} {e : Expr} → IsTarget ts i e d j → (at : Span) × IsAt ts i at
target_place (IsTarget.name at n e) = (_, at)
target_place (IsTarget.element at p others ends e) = (_, at)
target_place (IsTarget.in_parentheses opened p closed) = kind_place opened
target_place (IsTarget.tuple at opened p closed e) = (_, at)

pub target_read : {mode : Mode} {ts : List Terminal} {i n j : ℕ} {e : Expr} → Nested IsTarget mode ts i e n j → ExprsRead mode ts i (e, true) n j
unfolding ExprsRead
target_read {i = i} {j = j} {e = e} h =
    let place = target_place h.read in
    record {
      inner = (place.0, (e, (j, None)));
      read = record {
        middle = i;
        first = record { placed = place.1; end = refl };
        second = record { middle = j; first = target_rises.rise h; second = record { middle = j; first = record { counted = refl; end = refl }; second = Either.right (record { tree = refl; end = refl }) } };
      };
      tree = refl;
    }

-- exprs

-- what was read, whatever its tree
pub record ReadAny (mode : Mode) (ts : List Terminal) (i : ℕ) (e : Expr) (n j : ℕ) : Type 0 where
  pub is_alone : Bool
  pub read : ExprsRead mode ts i (e, is_alone) n j

pub exprs_of : {mode : Mode} {ts : List Terminal} {i n j : ℕ} {e : Expr} → ReadAny mode ts i e n j → Exprs mode ts i e n j
unfolding ExprsRead Exprs
exprs_of g = record { inner = g.read.inner; read = g.read.read; tree = ap (λ x. x.0) g.read.tree }

pub exprs_read : {mode : Mode} {ts : List Terminal} {i n j : ℕ} {e : Expr} → Exprs mode ts i e n j → ReadAny mode ts i e n j
unfolding ExprsRead Exprs
exprs_read h = record { is_alone = is_alone h.inner.1.1.1; read = record { inner = h.inner; read = h.read; tree = ap (λ x. (x, is_alone h.inner.1.1.1)) h.tree } }

-- Augmented operators

abbrev pub is_augmented : TokenKind → Bool
is_augmented (kind.Operator sign.PlusEqual) = true
is_augmented (kind.Operator sign.MinusEqual) = true
is_augmented (kind.Operator sign.StarEqual) = true
is_augmented (kind.Operator sign.DoubleSlashEqual) = true
is_augmented (kind.Operator sign.PercentEqual) = true
is_augmented (kind.Operator sign.AmpersandEqual) = true
is_augmented (kind.Operator sign.BarEqual) = true
is_augmented (kind.Operator sign.CaretEqual) = true
is_augmented (kind.Operator sign.LeftShiftEqual) = true
is_augmented (kind.Operator sign.RightShiftEqual) = true
is_augmented _ = false

abbrev IsRow : Operator × BinOp → Type 0
IsRow row = (is_augmented (kind.Operator row.0) ≡ true) × (sign_code row.0 ≡ 34)

abbrev AreRows : List (Operator × BinOp) → Type 0
AreRows [] = Unit {0}
AreRows (row ∷ rows) = IsRow row × AreRows rows

each_row : (rows : List (Operator × BinOp)) → AreRows rows → All IsRow rows
each_row [] h = All-nil IsRow
each_row (row ∷ rows) h = All-cons IsRow row rows h.0 (each_row rows h.1)

augmented_rows : All IsRow augmented
unfolding augmented
augmented_rows = each_row augmented ((refl, refl), ((refl, refl), ((refl, refl), ((refl, refl), ((refl, refl), ((refl, refl), ((refl, refl), ((refl, refl), ((refl, refl), ((refl, refl), tt))))))))))

augmented_row : {ts : List Terminal} {i : ℕ} {m : BinOp} (h : IsOf augmented ts i m) → IsRow (h.spelled, m)
augmented_row {m = m} h = All-contains IsRow augmented (h.spelled, m) augmented_rows h.known

-- no other token stands there
pub augmented_kind : {ts : List Terminal} {i : ℕ} {m : BinOp} {k : TokenKind} → IsOf augmented ts i m → HasKind ts i k → is_augmented k ≡ false → ⊥
augmented_kind h other plain = false≢true (sym plain ∙ ap is_augmented (one_kind other h.stands) ∙ (augmented_row h).0)

pub augmented_ends : {ts : List Terminal} {i : ℕ} {m : BinOp} → IsOf augmented ts i m → EndsExprs ts i
augmented_ends h = omega (arith, code_here h.stands, (augmented_row h).1)

pub augmented_no_end : {ts : List Terminal} {i : ℕ} {m : BinOp} → IsOf augmented ts i m → EndsSimple ts i → ⊥
augmented_no_end h (inl semicolon) = augmented_kind h semicolon refl
augmented_no_end h (inr newline) = augmented_kind h newline refl

pub augmented_no_equal : {ts : List Terminal} {i : ℕ} {m : BinOp} → IsOf augmented ts i m → IsOperator ts i sign.Equal → ⊥
augmented_no_equal h equal = augmented_kind h equal refl

-- Ends

pub simple_ends : (ts : List Terminal) (i : ℕ) → EndsSimple ts i → EndsExprs ts i
simple_ends ts i (inl semicolon) = omega (arith, code_here semicolon)
simple_ends ts i (inr newline) = omega (arith, code_here newline)

pub equal_ends : {ts : List Terminal} {i : ℕ} → IsOperator ts i sign.Equal → EndsExprs ts i
equal_ends h = omega (arith, code_here h)

pub equal_no_end : {ts : List Terminal} {i : ℕ} → IsOperator ts i sign.Equal → EndsSimple ts i → ⊥
equal_no_end h (inl semicolon) = omega (arith, code_here h, code_here semicolon)
equal_no_end h (inr newline) = omega (arith, code_here h, code_here newline)

pub simple_carried : (ts us : List Terminal) (i : ℕ) → Agree (suc i) us ts → EndsSimple ts i → EndsSimple us i
simple_carried ts us i agree (inl semicolon) = inl (kind_carried (suc i) agree semicolon (omega arith))
simple_carried ts us i agree (inr newline) = inr (kind_carried (suc i) agree newline (omega arith))

-- Assignments

plus_known : Contains augmented (sign.PlusEqual, op.Add)
unfolding augmented
plus_known = (0, omega arith, refl)

fresh_augmented : IsFresh Augmented
fresh_augmented mode us n opens =
    let token = token_of (kind.Operator sign.PlusEqual) in
    record {
      tokens = us ++ token ∷ [];
      same = agree_append us (token ∷ []);
      long = omega (arith, one_longer us token);
      tree = op.Add;
      derived = record { read = record { spelled = sign.PlusEqual; known = plus_known; stands = record { token = token; stands = stands_last us token; kind = refl } }; end = one_longer us token };
    }

pub good_augmented : Good Augmented
good_augmented = record {
  sound = record {
    carried = λ {j} h a. record { read = of_carried j a h.read (omega (arith, h.end)); end = h.end };
    forward = λ h. omega (arith, h.end);
  };
  rises = λ mode other n m le more. record { rise = λ h. record { read = h.read; end = h.end } };
  fresh = fresh_augmented;
}

pub good_assignment : Good Assignment
unfolding Assignment
good_assignment = good_of _ (good_seq (good_many (good_before _ good_targets)) good_exprs)

pub good_augmentation : Good Augmentation
unfolding Augmentation
good_augmentation = good_of _ (good_seq good_target (good_seq good_augmented good_expr))

pub good_assigned : Good Assigned
unfolding Assigned
good_assigned = good_either good_assignment good_augmentation
