-- What the reading of expressions tells of the assignment that they begin.
use Rattle.std.proofs.Common.{◌≡◌, ℕ, suc, ◌≤◌, Bool, true, List, [], ◌∷◌, ◌++◌, refl, sym, ap, subst, arith}
use Rattle.px_base.specs.declared.c_types.BinOp.{BinOp}
use Rattle.px_lexer.specs.declared.spelling.Operator.TheVariants as sign
use Rattle.px_lexer.specs.declared.token_list.TokenKind.TheVariants as kind
use Rattle.px_tree.specs.declared.expressions.Expr.{Expr}
use Rattle.px_tree.specs.declared.statements.StmtForm.{StmtForm}
use Rattle.px_tree.specs.declared.statements.StmtForm.TheVariants as statement
use Rattle.px_lexer.specs.Terminals.{Terminal, IsOperator}
use Rattle.px_exprs.specs.Grammar.{IsOf}
use Rattle.px_exprs.specs.Codes.{Past}
use Rattle.px_exprs.specs.Readings.{Agree}
use Rattle.px_exprs.specs.Runs.{nesting_limit}
use Rattle.px_exprs.proofs.Agreement.{agree_same, agree_back, agree_carried}
use Rattle.px_exprs.proofs.Keeping.{kind_carried, of_carried}
use Rattle.px_parser.specs.Shapes.{Mode, Either, Many, Before, Nested}
use Rattle.px_parser.specs.Parsing.{strict}
use Rattle.px_parser.specs.Readings.{IsReached, IsArrived, IsStuck, IsReading}
use Rattle.px_parser.specs.StatementGrammar.{IsWithinLimit, IsTarget, Targets, Assignment, Augmentation, augmented}
use Rattle.px_parser.specs.Parts.{ExprsRead, IsTargetTree, Assigned}
use Rattle.px_parser.specs.Ends.{EndsExprs, EndsSimple}
use Rattle.px_parser.proofs.Shapely.{Good, sound_many, rises_many, good_before}
use Rattle.px_parser.proofs.Onlies.{Sees, sees_less}
use Rattle.px_parser.proofs.Steps.{Part, Step, sees_strict, many_more, reached_made, reached_whole}
use Rattle.px_parser.proofs.ExprShapes.{good_exprs_read, only_exprs_read, good_expr, only_expr, end_past}
use Rattle.px_parser.proofs.TargetsLaws.{good_target, target_has_tree}
use Rattle.px_parser.proofs.TargetsShapes.{ReadAs, ReadAny, good_targets, targets_read, exprs_targets, exprs_alone, within_target, target_read, exprs_of, exprs_read, augmented_ends, augmented_no_end, augmented_no_equal, simple_ends, equal_ends, equal_no_end, simple_carried, good_assigned}

-- What an assignment begins with

-- expressions that were read
pub record Was (mode : Mode) (us : List Terminal) (i : ℕ) (p : Expr × Bool) (n k : ℕ) : Type 0 where
  pub read : ExprsRead mode us i p n k

-- the value alone, or a target and `=`
pub data Assigns (mode : Mode) (us : List Terminal) (i : ℕ) (f : StmtForm) (n j : ℕ) : Type 0 where
  just_value : (e : Expr) → ReadAny mode us i e n j → f ≡ statement.Assign [] e → Assigns mode us i f n j
  one_target : (e : Expr) (k : ℕ) → ReadAs mode us i e n k → IsOperator us k sign.Equal → (others : List Expr) (v : Expr) → Assignment mode us (suc k) (statement.Assign others v) n j → f ≡ statement.Assign (e ∷ others) v
      → Assigns mode us i f n j

assigns_by : {mode : Mode} {us : List Terminal} {i k n j : ℕ} {xs : List Expr} {v : Expr} {f : StmtForm} → Many (Before Targets (kind.Operator sign.Equal)) mode us i xs n k → ReadAny mode us k v n j → f ≡ statement.Assign xs v
    → Assigns mode us i f n j
unfolding Assignment
assigns_by Many.none read same = Assigns.just_value _ read same
assigns_by {mode = mode} {us = us} {i = i} {k = l} {n = n} {v = v} (Many.more {t = t} {others = others} first rest) read same =
    let middle = first.read.middle in
    let as_target = subst (λ e. ReadAs mode us i e n middle) (sym first.tree) (targets_read first.read.first) in
    let behind = subst (λ k. Many (Before Targets (kind.Operator sign.Equal)) mode us k others n l) first.read.second.end rest in
    Assigns.one_target t middle as_target first.read.second.stands others v (record { inner = (others, v); read = record { middle = l; first = behind; second = exprs_of read }; tree = refl }) same

pub assignment_first : {mode : Mode} {us : List Terminal} {i n j : ℕ} (f : StmtForm) → Assignment mode us i f n j → Assigns mode us i f n j
unfolding Assignment
assignment_first f h = assigns_by h.read.first (exprs_read h.read.second) h.tree

-- a target and an augmented operator
pub record Augments (mode : Mode) (us : List Terminal) (i : ℕ) (f : StmtForm) (n j : ℕ) : Type 0 where
  pub e : Expr
  pub k : ℕ
  pub read : ExprsRead mode us i (e, true) n k
  pub target : IsTargetTree e
  pub meant : BinOp
  pub stands : IsOf augmented us k meant
  pub value : Expr
  pub behind : IsWithinLimit mode us (suc k) value n j
  pub tree : f ≡ statement.Augment e meant value

pub data Assumes (mode : Mode) (us : List Terminal) (i : ℕ) (f : StmtForm) (n j : ℕ) : Type 0 where
  assigns : Assigns mode us i f n j → Assumes mode us i f n j
  augments : Augments mode us i f n j → Assumes mode us i f n j

pub augmentation_first : {mode : Mode} {us : List Terminal} {i n j : ℕ} {f : StmtForm} → Augmentation mode us i f n j → Augments mode us i f n j
unfolding Augmentation
augmentation_first {mode} {us} {n = n} {j = j} b = record {
  e = b.inner.0;
  k = b.read.middle;
  read = target_read b.read.first;
  target = target_has_tree b.read.first.read;
  meant = b.inner.1.0;
  stands = b.read.second.first.read;
  value = b.inner.1.1;
  behind = subst (λ k. IsWithinLimit mode us k b.inner.1.1 n j) b.read.second.first.end b.read.second.second;
  tree = b.tree;
}

pub assigned_first : {mode : Mode} {us : List Terminal} {i n j : ℕ} {f : StmtForm} → Assigned mode us i f n j → Assumes mode us i f n j
unfolding Assigned
assigned_first {f = f} (Either.left a) = Assumes.assigns (assignment_first f a)
assigned_first (Either.right b) = Assumes.augments (augmentation_first b)

-- expressions with what they are the first of

assigns_part : {mode : Mode} {us : List Terminal} {i n j : ℕ} {f : StmtForm} → Assigns mode us i f n j → EndsSimple us j → Part ExprsRead EndsExprs mode us i n
assigns_part {us = us} {j = j} (Assigns.just_value e read same) stop = record { tree = (e, read.is_alone); end = j; derived = read.read; stops = simple_ends us j stop }
assigns_part (Assigns.one_target e k read equal others v rest same) stop = record { tree = (e, read.is_alone); end = k; derived = read.read; stops = equal_ends equal }

assumes_part : {mode : Mode} {us : List Terminal} {i n j : ℕ} {f : StmtForm} → Assumes mode us i f n j → EndsSimple us j → Part ExprsRead EndsExprs mode us i n
assumes_part (Assumes.assigns a) stop = assigns_part a stop
assumes_part (Assumes.augments a) stop = record { tree = (a.e, true); end = a.k; derived = a.read; stops = augmented_ends a.stands }

meets : {mode : Mode} {ts us : List Terminal} {i room n to k : ℕ} {p q : Expr × Bool} → Was (strict nesting_limit) ts i p room to → EndsExprs ts to → Was mode us i q n k → EndsExprs us k → Agree (suc to) us ts → Sees mode to → (p ≡ q) × (to ≡ k)
meets w end x stop agree sees = only_exprs_read.one w.read end x.read stop agree (sees_strict nesting_limit _) sees

-- Targets with `=` behind each, that were read

abbrev pub Front : List Terminal → ℕ → List Expr → ℕ → ℕ → Type 0
Front ts i xs room k = Many (Before Targets (kind.Operator sign.Equal)) (strict nesting_limit) ts i xs room k

pub good_front : Good (Before Targets (kind.Operator sign.Equal))
good_front = good_before _ good_targets

-- behind them an assignment goes on as one
assignment_rest : {ts us : List Terminal} {mode : Mode} {i room k n j : ℕ} {xs : List Expr} {f : StmtForm} → Front ts i xs room k → Agree k us ts → Sees mode k → Assigns mode us i f n j → EndsSimple us j → (g : StmtForm) × Assigns mode us k g n j
assignment_rest Many.none agree sees whole stop = (_, whole)
assignment_rest {ts} {us} {mode} {i} {room} {k} {n} {j} (Many.more {k = m} first tail) agree sees (Assigns.just_value e read same) stop =
    let le : m ≤ k = (sound_many good_front.sound).forward tail in
    let w = targets_read first.read.first in
    let equal = first.read.second.stands in
    let before : suc first.read.middle ≤ k = omega (arith, le, first.read.second.end) in
    let met = meets (record { read = w.read }) (equal_ends equal) (record { read = read.read }) (simple_ends us j stop) (agree_carried us ts agree before) (sees_less mode sees (omega (arith, before))) in
    absurd (equal_no_end (subst (λ x. IsOperator us x sign.Equal) met.1 (kind_carried k agree equal (omega (arith, before)))) stop)
assignment_rest {ts} {us} {mode} {i} {room} {k} {n} {j} (Many.more {k = m} first tail) agree sees (Assigns.one_target e q read equal others v rest same) stop =
    let le : m ≤ k = (sound_many good_front.sound).forward tail in
    let w = targets_read first.read.first in
    let before : suc first.read.middle ≤ k = omega (arith, le, first.read.second.end) in
    let met = meets (record { read = w.read }) (equal_ends first.read.second.stands) (record { read = read.read }) (equal_ends equal) (agree_carried us ts agree before) (sees_less mode sees (omega (arith, before))) in
    let there : suc q ≡ m = omega (arith, met.1, first.read.second.end) in
    let moved = subst (λ x. Assigns mode us x (statement.Assign others v) n j) there (assignment_first (statement.Assign others v) rest) in
    assignment_rest tail agree sees moved stop

-- no augmented assignment begins with the tokens up to an index
pub record NoAugmentation (ts : List Terminal) (from l : ℕ) : Type 0 where
  pub none : {mode : Mode} {us : List Terminal} {f : StmtForm} {n j : ℕ} → Augments mode us from f n j → Agree (suc l) us ts → Sees mode l → ⊥

pub no_augmentation : {ts : List Terminal} {from room to : ℕ} {p : Expr × Bool} → IsReading ExprsRead EndsExprs ts from room p to → ((meant : BinOp) → IsOf augmented ts to meant → ⊥) → NoAugmentation ts from to
no_augmentation {ts} {to = to} r plain = record {
  none = λ {us = us} a agree sees.
      let met = meets (record { read = r.derived }) r.stops (record { read = a.read }) (augmented_ends a.stands) agree sees in
      plain a.meant (of_carried (suc to) (agree_back us ts agree) (subst (λ k. IsOf augmented us k a.meant) (sym met.1) a.stands) (omega arith));
}

pub none_later : {ts : List Terminal} {from l m : ℕ} → NoAugmentation ts from l → l ≤ m → NoAugmentation ts from m
none_later {ts} h le = record { none = λ {mode} {us} a agree sees. h.none a (agree_carried us ts agree (omega (arith, le))) (sees_less mode sees le) }

-- The reading of assignments

-- targets with `=` behind each, and a value behind them
pub record Assigning (ts : List Terminal) (from : ℕ) (targets : List Expr) (value : Expr) (to : ℕ) : Type 0 where
  pub start : ℕ
  pub is_alone : Bool
  pub front : (room : ℕ) → Front ts from targets room start
  pub read : (room : ℕ) → IsReading ExprsRead EndsExprs ts start room (value, is_alone) to
  pub plain : NoAugmentation ts from to

pub assigning_begins : {ts : List Terminal} {from to : ℕ} (p : Expr × Bool) → ((room : ℕ) → IsReading ExprsRead EndsExprs ts from room p to) → ((meant : BinOp) → IsOf augmented ts to meant → ⊥) → Assigning ts from [] p.0 to
assigning_begins {from = from} p read plain = record { start = from; is_alone = p.1; front = λ room. Many.none; read = read; plain = no_augmentation (read 0) plain }

pub assigning_whole : {ts : List Terminal} {from to : ℕ} {xs : List Expr} {v : Expr} → Assigning ts from xs v to → (room : ℕ) → Assigned (strict nesting_limit) ts from (statement.Assign xs v) room to
unfolding Assigned Assignment
assigning_whole {xs = xs} {v = v} a room =
    Either.left (record { inner = (xs, v); read = record { middle = a.start; first = a.front room; second = exprs_of (record { is_alone = a.is_alone; read = (a.read room).derived }) }; tree = refl })

pub assigning_forward : {ts : List Terminal} {from to : ℕ} {xs : List Expr} {v : Expr} → Assigning ts from xs v to → from ≤ to
assigning_forward a = omega (arith, (sound_many good_front.sound).forward (a.front 0), good_exprs_read.sound.forward (a.read 0).derived)

pub assigning_reads : {ts : List Terminal} {from to : ℕ} {xs : List Expr} {v : Expr} → Assigning ts from xs v to → EndsSimple ts to → (room : ℕ) → IsReading Assigned EndsSimple ts from room (statement.Assign xs v) to
assigning_reads a stop room = record { derived = assigning_whole a room; stops = stop; within = (a.read room).within }

assigning_reached : {ts : List Terminal} {from to : ℕ} {xs : List Expr} {v : Expr} → Assigning ts from xs v to → (room : ℕ) → IsReached Assigned ts from to room
assigning_reached {ts} {from} {to} {xs} {v} a room = reached_whole ts from to room (statement.Assign xs v) good_assigned.sound good_assigned.rises (assigning_whole a room) (omega (arith, (a.read room).within))

-- how an assignment goes on from the value
assigning_rest : {ts us : List Terminal} {mode : Mode} {from to n j : ℕ} {xs : List Expr} {v : Expr} {f : StmtForm} (a : Assigning ts from xs v to) → Agree (suc to) us ts → Sees mode to → Assumes mode us from f n j → EndsSimple us j
    → (g : StmtForm) × Assigns mode us a.start g n j
assigning_rest {ts} {us} {mode} a agree sees (Assumes.assigns b) stop =
    let le = good_exprs_read.sound.forward (a.read 0).derived in
    assignment_rest (a.front 0) (agree_carried us ts agree (omega (arith, le))) (sees_less mode sees le) b stop
assigning_rest a agree sees (Assumes.augments b) stop = absurd (a.plain.none b agree sees)

assigning_meets : {ts us : List Terminal} {mode : Mode} {from to n k : ℕ} {xs : List Expr} {v : Expr} {q : Expr × Bool} (a : Assigning ts from xs v to) → Was mode us a.start q n k → EndsExprs us k → Agree (suc to) us ts → Sees mode to → (v ≡ q.0) × (to ≡ k)
assigning_meets a w end agree sees =
    let r = a.read 0 in
    let met = meets (record { read = r.derived }) r.stops w end agree sees in
    (ap (λ x. x.0) met.0, met.1)

-- `=` behind what is no target

equal_refused : {ts us : List Terminal} {mode : Mode} {from to n j : ℕ} {xs : List Expr} {v : Expr} {g : StmtForm} (a : Assigning ts from xs v to) → (IsTargetTree v → ⊥) → IsOperator ts to sign.Equal → Agree (suc to) us ts → Sees mode to
    → Assigns mode us a.start g n j → EndsSimple us j → ⊥
equal_refused {us = us} {to = to} {j = j} a other equal agree sees (Assigns.just_value e read same) stop =
    let met = assigning_meets a (record { read = read.read }) (simple_ends us j stop) agree sees in
    equal_no_end (subst (λ x. IsOperator us x sign.Equal) met.1 (kind_carried (suc to) agree equal (omega arith))) stop
equal_refused a other equal agree sees (Assigns.one_target e q read behind others v rest same) stop =
    let met = assigning_meets a (record { read = read.read }) (equal_ends behind) agree sees in
    other (subst IsTargetTree (sym met.0) read.target)

pub equal_stuck : {ts : List Terminal} {from to : ℕ} {xs : List Expr} {v : Expr} → Assigning ts from xs v to → (IsTargetTree v → ⊥) → IsOperator ts to sign.Equal → (room : ℕ) → IsStuck Assigned EndsSimple ts from room to
equal_stuck {to = to} a other equal room = record {
  forward = assigning_forward a;
  within = (a.read room).within;
  reached = IsArrived.reached (assigning_reached a room);
  none = λ us agree limit tree blocks j whole stop.
      let rest = assigning_rest a agree (sees_strict limit to) (assigned_first whole) stop in
      equal_refused a other equal agree (sees_strict limit to) rest.1 stop;
}

-- a value behind which nothing ends

value_refused : {ts us : List Terminal} {mode : Mode} {from to n j : ℕ} {xs : List Expr} {v : Expr} {g : StmtForm} (a : Assigning ts from xs v to) → (IsOperator ts to sign.Equal → ⊥) → (EndsSimple ts to → ⊥) → Agree (suc to) us ts → Sees mode to
    → Assigns mode us a.start g n j → EndsSimple us j → ⊥
value_refused {ts} {us} {to = to} {j = j} a unequal endless agree sees (Assigns.just_value e read same) stop =
    let met = assigning_meets a (record { read = read.read }) (simple_ends us j stop) agree sees in
    endless (simple_carried us ts to (agree_back us ts agree) (subst (EndsSimple us) (sym met.1) stop))
value_refused {ts} {us} {to = to} a unequal endless agree sees (Assigns.one_target e q read behind others v rest same) stop =
    let met = assigning_meets a (record { read = read.read }) (equal_ends behind) agree sees in
    unequal (kind_carried (suc to) (agree_back us ts agree) (subst (λ x. IsOperator us x sign.Equal) (sym met.1) behind) (omega arith))

pub value_stuck : {ts : List Terminal} {from to : ℕ} {xs : List Expr} {v : Expr} → Assigning ts from xs v to → (IsOperator ts to sign.Equal → ⊥) → (EndsSimple ts to → ⊥) → (room : ℕ) → IsStuck Assigned EndsSimple ts from room to
value_stuck {to = to} a unequal endless room = record {
  forward = assigning_forward a;
  within = (a.read room).within;
  reached = IsArrived.reached (assigning_reached a room);
  none = λ us agree limit tree blocks j whole stop.
      let rest = assigning_rest a agree (sees_strict limit to) (assigned_first whole) stop in
      value_refused a unequal endless agree (sees_strict limit to) rest.1 stop;
}

-- one more target

pub front_more : {ts : List Terminal} {from to : ℕ} {xs : List Expr} {v : Expr} → Assigning ts from xs v to → IsTargetTree v → IsOperator ts to sign.Equal → (room : ℕ) → Front ts from (xs ++ v ∷ []) room (suc to)
front_more {to = to} {v = v} a target equal room =
    many_more (a.front room) (record {
      inner = (v, tt);
      read = record { middle = to; first = exprs_targets (record { is_alone = a.is_alone; read = (a.read room).derived; target = target }); second = record { stands = equal; end = refl } };
      tree = refl;
    })

pub assigning_more : {ts : List Terminal} {from to end : ℕ} {xs : List Expr} {v : Expr} (p : Expr × Bool) → Assigning ts from xs v to → IsTargetTree v → IsOperator ts to sign.Equal → ((room : ℕ) → IsReading ExprsRead EndsExprs ts (suc to) room p end)
    → Assigning ts from (xs ++ v ∷ []) p.0 end
assigning_more {to = to} p a target equal read = record {
  start = suc to;
  is_alone = p.1;
  front = front_more a target equal;
  read = read;
  plain = none_later a.plain (omega (arith, good_exprs_read.sound.forward (read 0).derived));
}

-- Where the expressions aren't read

pub step_exprs : (ts : List Terminal) (from room : ℕ) → Step ExprsRead EndsExprs Assigned EndsSimple ts from from room
unfolding Assigned Assignment
step_exprs ts from room = record {
  forward = omega arith;
  rising = good_exprs_read.rises;
  make = λ mode us n e agree long least le opens x. record {
    tokens = us;
    same = agree_same us;
    long = omega arith;
    tree = statement.Assign [] e.0;
    derived = Either.left (record { inner = ([], e.0); read = record { middle = from; first = Many.none; second = exprs_of (record { is_alone = e.1; read = x }) }; tree = refl });
  };
  split = λ mode us n f j agree sees whole stop. assumes_part (assigned_first whole) stop;
}

behind_part : {ts us : List Terminal} {mode : Mode} {from l room n j : ℕ} {xs : List Expr} {f : StmtForm} → Front ts from xs room l → NoAugmentation ts from l → Agree (suc l) us ts → Sees mode l → Assumes mode us from f n j → EndsSimple us j
    → Part ExprsRead EndsExprs mode us l n
behind_part {ts} {us} front plain agree sees (Assumes.assigns a) stop = assigns_part (assignment_rest front (agree_carried us ts agree (omega arith)) sees a stop).1 stop
behind_part front plain agree sees (Assumes.augments a) stop = absurd (plain.none a agree sees)

pub step_behind : (ts : List Terminal) (from l room : ℕ) (xs : List Expr) → Front ts from xs room l → NoAugmentation ts from l → Step ExprsRead EndsExprs Assigned EndsSimple ts from l room
unfolding Assigned Assignment
step_behind ts from l room xs front plain = record {
  forward = (sound_many good_front.sound).forward front;
  rising = good_exprs_read.rises;
  make = λ mode us n e agree long least le opens x. record {
    tokens = us;
    same = agree_same us;
    long = omega arith;
    tree = statement.Assign xs e.0;
    derived = Either.left (record {
      inner = (xs, e.0);
      read = record {
        middle = l;
        first = (sound_many good_front.sound).carried ((rises_many (good_front.rises (strict nesting_limit) mode room n least le)).rise front) agree;
        second = exprs_of (record { is_alone = e.1; read = x });
      };
      tree = refl;
    });
  };
  split = λ mode us n f j agree sees whole stop. behind_part front plain agree sees (assigned_first whole) stop;
}

-- Augmented assignments

-- what was read, with its operator behind it
pub record Augmenting (ts : List Terminal) (from : ℕ) (p : Expr × Bool) (to : ℕ) (meant : BinOp) : Type 0 where
  pub read : (room : ℕ) → IsReading ExprsRead EndsExprs ts from room p to
  pub stands : IsOf augmented ts to meant

-- each assignment that begins so is an augmented one
pub record AugmentsAlone (mode : Mode) (us : List Terminal) (from : ℕ) (p : Expr × Bool) (to : ℕ) (f : StmtForm) (n j : ℕ) : Type 0 where
  pub augments : Augments mode us from f n j
  pub tree : p ≡ (augments.e, true)
  pub end : to ≡ augments.k

augmenting_first : {ts us : List Terminal} {mode : Mode} {from to n j : ℕ} {p : Expr × Bool} {meant : BinOp} {f : StmtForm} → Augmenting ts from p to meant → Agree (suc to) us ts → Sees mode to → Assumes mode us from f n j → EndsSimple us j
    → AugmentsAlone mode us from p to f n j
augmenting_first {ts} {us} {to = to} {j = j} {meant = meant} a agree sees (Assumes.assigns (Assigns.just_value e read same)) stop =
    let met = meets (record { read = (a.read 0).derived }) (a.read 0).stops (record { read = read.read }) (simple_ends us j stop) agree sees in
    absurd (augmented_no_end (subst (λ k. IsOf augmented us k meant) met.1 (of_carried (suc to) agree a.stands (omega arith))) stop)
augmenting_first {ts} {us} {to = to} {meant = meant} a agree sees (Assumes.assigns (Assigns.one_target e k read equal others v rest same)) stop =
    let met = meets (record { read = (a.read 0).derived }) (a.read 0).stops (record { read = read.read }) (equal_ends equal) agree sees in
    absurd (augmented_no_equal (subst (λ k. IsOf augmented us k meant) met.1 (of_carried (suc to) agree a.stands (omega arith))) equal)
augmenting_first a agree sees (Assumes.augments b) stop =
    let met = meets (record { read = (a.read 0).derived }) (a.read 0).stops (record { read = b.read }) (augmented_ends b.stands) agree sees in
    record { augments = b; tree = met.0; end = met.1 }

pub augment_stuck : {ts : List Terminal} {from to : ℕ} {p : Expr × Bool} {meant : BinOp} → Augmenting ts from p to meant → (p.1 ≡ true → IsTargetTree p.0 → ⊥) → (room : ℕ) → IsStuck Assigned EndsSimple ts from room to
augment_stuck {ts} {from} {to} {p} a other room =
    let r = a.read room in
    let step = step_exprs ts from room in
    record {
      forward = good_exprs_read.sound.forward r.derived;
      within = r.within;
      reached = IsArrived.reached (reached_made step (good_exprs_read.sound.forward r.derived) (reached_whole ts from to room p good_exprs_read.sound good_exprs_read.rises r.derived (omega (arith, r.within))));
      none = λ us agree limit tree blocks j whole stop.
          let first = augmenting_first a agree (sees_strict limit to) (assigned_first whole) stop in
          other (ap (λ x. x.1) first.tree) (subst IsTargetTree (sym (ap (λ x. x.0) first.tree)) first.augments.target);
    }

augment_target : {ts : List Terminal} {from to : ℕ} {p : Expr × Bool} {meant : BinOp} → Augmenting ts from p to meant → p.1 ≡ true → IsTargetTree p.0 → (room : ℕ) → Nested IsTarget (strict nesting_limit) ts from p.0 room to
augment_target {p = p} a one target room = within_target (exprs_alone (a.read room).derived one) target

augment_part : {us : List Terminal} {mode : Mode} {from to n j : ℕ} {p : Expr × Bool} {f : StmtForm} → AugmentsAlone mode us from p to f n j → EndsSimple us j → Part IsWithinLimit (Past 26) mode us (suc to) n
augment_part {us = us} {mode} {n = n} {j = j} first stop = record {
  tree = first.augments.value;
  end = j;
  derived = subst (λ k. IsWithinLimit mode us (suc k) first.augments.value n j) (sym first.end) first.augments.behind;
  stops = end_past (omega arith) us j (simple_ends us j stop);
}

pub step_value : (ts : List Terminal) (from to room : ℕ) (p : Expr × Bool) (meant : BinOp) → Augmenting ts from p to meant → p.1 ≡ true → IsTargetTree p.0 → Step IsWithinLimit (Past 26) Assigned EndsSimple ts from (suc to) room
unfolding Assigned Augmentation
step_value ts from to room p meant a one target = record {
  forward = omega (arith, good_exprs_read.sound.forward (a.read room).derived);
  rising = good_expr.rises;
  make = λ mode us n e agree long least le opens x. record {
    tokens = us;
    same = agree_same us;
    long = omega arith;
    tree = statement.Augment p.0 meant e;
    derived = Either.right (record {
      inner = (p.0, (meant, e));
      read = record {
        middle = to;
        first = good_target.sound.carried ((good_target.rises (strict nesting_limit) mode room n least le).rise (augment_target a one target room)) (agree_carried us ts agree (omega arith));
        second = record { middle = suc to; first = record { read = of_carried (suc to) agree a.stands (omega arith); end = refl }; second = x };
      };
      tree = refl;
    });
  };
  split = λ mode us n f j agree sees whole stop.
      augment_part (augmenting_first a (agree_carried us ts agree (omega arith)) (sees_less mode sees (omega arith)) (assigned_first whole) stop) stop;
}

-- the value behind the operator

augment_whole : (ts : List Terminal) (from to end room : ℕ) (p : Expr × Bool) (meant : BinOp) (v : Expr) → Augmenting ts from p to meant → p.1 ≡ true → IsTargetTree p.0 → IsReading IsWithinLimit (Past 26) ts (suc to) room v end
    → Assigned (strict nesting_limit) ts from (statement.Augment p.0 meant v) room end
unfolding Assigned Augmentation
augment_whole ts from to end room p meant v a one target value =
    Either.right (record {
      inner = (p.0, (meant, v));
      read = record {
        middle = to;
        first = augment_target a one target room;
        second = record { middle = suc to; first = record { read = a.stands; end = refl }; second = value.derived };
      };
      tree = refl;
    })

pub augment_reads : {ts : List Terminal} {from to end : ℕ} {p : Expr × Bool} {meant : BinOp} {v : Expr} → Augmenting ts from p to meant → p.1 ≡ true → IsTargetTree p.0 → (room : ℕ) → IsReading IsWithinLimit (Past 26) ts (suc to) room v end → EndsSimple ts end
    → IsReading Assigned EndsSimple ts from room (statement.Augment p.0 meant v) end
augment_reads {ts} {from} {to} {end} {p} {meant} {v} a one target room value stop = record { derived = augment_whole ts from to end room p meant v a one target value; stops = stop; within = value.within }

pub augment_ended : {ts : List Terminal} {from to end : ℕ} {p : Expr × Bool} {meant : BinOp} {v : Expr} → Augmenting ts from p to meant → p.1 ≡ true → IsTargetTree p.0 → (room : ℕ) → IsReading IsWithinLimit (Past 26) ts (suc to) room v end
    → (EndsSimple ts end → ⊥) → IsStuck Assigned EndsSimple ts from room end
unfolding augment_part
augment_ended {ts} {from} {to} {end} {p} {meant} {v} a one target room value endless =
    let forward = good_expr.sound.forward value.derived in
    let before = good_exprs_read.sound.forward (a.read room).derived in
    record {
      forward = omega (arith, forward, before);
      within = value.within;
      reached = IsArrived.reached (reached_whole ts from end room (statement.Augment p.0 meant v) good_assigned.sound good_assigned.rises (augment_whole ts from to end room p meant v a one target value) (omega (arith, value.within)));
      none = λ us agree limit tree blocks j whole stop.
          let first = augmenting_first a (agree_carried us ts agree (omega (arith, forward))) (sees_strict limit to) (assigned_first whole) stop in
          let part = augment_part first stop in
          let same = only_expr.one value.derived value.stops part.derived part.stops agree (sees_strict nesting_limit end) (sees_strict limit end) in
          endless (simple_carried us ts end (agree_back us ts agree) (subst (EndsSimple us) (sym same.1) stop));
    }
