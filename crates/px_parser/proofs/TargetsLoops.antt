-- The targets of a `for`: each is read as a primary, which can go on to a target.
use Rattle.std.proofs.Common.{◌≡◌, Bool, IsTrue, IsFalse, Result, Ok, Err, MatchResult, ℕ, zero, suc, ◌+◌, ◌≤◌, ◌<◌, max, List, [], ◌∷◌, ◌++◌, Some, length, refl, sym, ap, subst, ◌∙◌, inl, inr, length-append, codes, arith}
use Rattle.std.specs.Prelude.{slice_get, nat_lt}
use Rattle.px_base.specs.declared.refusals.Span.{Span}
use Rattle.px_lexer.specs.declared.spelling.Keyword.TheVariants as word
use Rattle.px_lexer.specs.declared.spelling.Operator.TheVariants as sign
use Rattle.px_lexer.specs.declared.token_list.TokenKind.TheVariants as kind
use Rattle.px_tree.specs.declared.expressions.Expr.{Expr}
use Rattle.px_tree.specs.declared.expressions.ExprForm.TheVariants as form
use Rattle.px_tree.specs.declared.expressions.Trailer.{Trailer}
use Rattle.px_tree.specs.declared.expressions.Trailer.TheVariants as trailer
use Rattle.px_tree.specs.declared.expressions.Item.TheVariants as item
use Rattle.px_exprs.specs.declared.readings.Unread.{Unread}
use Rattle.px_lexer.specs.Terminals.{Terminal, Stands, IsKeyword, IsOperator, IsAt}
use Rattle.px_exprs.specs.Grammar.{node, IsExpr, IsPrimary, IsAtom, AreTrailers, IsTrailer, AreItems, IsItem, HasComma}
use Rattle.px_exprs.specs.Codes.{Past}
use Rattle.px_exprs.specs.Readings.{Stops, Agree, IsUnread as FormUnread, IsReading as FormReading}
use Rattle.px_exprs.specs.Runs.{nesting_limit}
use Rattle.px_exprs.specs.Words.{IsStuckAt}
use Rattle.px_exprs.proofs.Agreement.{agree_same, agree_back, agree_carried, agree_append}
use Rattle.px_exprs.proofs.Codes.{code_here}
use Rattle.px_exprs.proofs.Keeping.{kind_carried, primary_carried}
use Rattle.px_exprs.proofs.Stops.{past_carried, kind_stops}
use Rattle.px_exprs.proofs.Uniqueness.{primary_only}
use Rattle.px_parser.specs.declared.readings.Found.{Found}
use Rattle.px_parser.specs.Ends.{EndsLoopTarget}
use Rattle.px_parser.specs.Shapes.{Mode, Shape, Many, After, Nested}
use Rattle.px_parser.specs.Parsing.{strict}
use Rattle.px_parser.specs.Readings.{IsArrived, IsStuck, IsUnread, IsReading, Reads}
use Rattle.px_parser.specs.StatementGrammar.{IsTarget, EndsWithSubscript, LoopTargets, loop_target, expr_list}
use Rattle.px_parser.specs.Parts.{IsTargetTree}
use Rattle.px_parser.proofs.Shapely.{Good, good_after, sound_many, rises_many, Sound, IsRising, SoundForm, token_of, name_of, stands_there, sound_nested, rises_nested}
use Rattle.px_parser.proofs.Onlies.{Sees, sees_less, Only, only_nested}
use Rattle.px_parser.proofs.Steps.{Part, Step, many_more, fails, reached_made, reached_whole, sees_strict}
use Rattle.px_parser.proofs.TokenShapes.{unread_at}
use Rattle.px_parser.proofs.TargetsLaws.{primary_is_expr, target_is_primary, primary_target, target_has_tree, good_target, only_target}
use Rattle.px_parser.proofs.TargetsShapes.{target_place}
use Rattle.px_parser.proofs.NestedReadings.{primary_lines, nested_unread}

-- Primaries

sound_form_primary : SoundForm IsPrimary
sound_form_primary = record {
  carried = λ {ts} {us} {i} {d} {j} h a. (primary_carried j a h).1 (omega arith);
  forward = λ {ts} h. (primary_carried 0 (agree_same ts) h).0;
}

sound_primary : Sound (Nested IsPrimary)
sound_primary = sound_nested sound_form_primary

rising_primary : IsRising (Nested IsPrimary)
rising_primary mode other n m le more = rises_nested IsPrimary le

only_primary : Only (Nested IsPrimary) (Past 12)
only_primary = only_nested (record {
  one = λ {ts} {us} {l = l} h s g r agree.
      let same = primary_only (sound_form_primary.carried h (λ i lt. agree i (omega (arith, lt)))) (past_carried ts us l agree s) _ _ _ g r in
      (same.tree, same.end);
})

-- A primary goes on to a target: with a subscript behind it

stands_after : (us more : List Terminal) (i m : ℕ) → m ≡ length us + i → slice_get (us ++ more) m ≡ slice_get more i
stands_after [] more i m e = ap (slice_get more) (let same : m ≡ i = omega (arith, e) in same)
stands_after (u ∷ us) more i zero e = absurd (omega (arith, e))
stands_after (u ∷ us) more i (suc m) e = stands_after us more i m (omega (arith, e))

abbrev behind : List Terminal
behind = token_of (kind.Operator sign.OpenBracket) ∷ name_of (codes "x") ∷ token_of (kind.Operator sign.CloseBracket) ∷ []

-- trailers, the last of which is a subscript
record Subscripted (ts : List Terminal) (k d j : ℕ) : Type 0 where
  trailers : List Trailer
  depth : ℕ
  read : AreTrailers ts k trailers depth j
  ends : EndsWithSubscript trailers
  small : depth ≤ max d 1

ends_later : (t : Trailer) (trailers : List Trailer) → EndsWithSubscript trailers → EndsWithSubscript (t ∷ trailers)
ends_later t trailers ends = (t ∷ ends.0, ends.1, ends.2, ap (λ x. t ∷ x) ends.3)

subscript_behind : (us : List Terminal) → Subscripted (us ++ behind) (length us) 0 (length (us ++ behind))
subscript_behind us =
    let ts : List Terminal = us ++ behind in
    let k : ℕ = length us in
    let opened : IsOperator ts k sign.OpenBracket = record { token = token_of (kind.Operator sign.OpenBracket); stands = stands_after us behind 0 k (omega arith); kind = refl } in
    let there : Stands ts (suc k) (name_of (codes "x")) = stands_after us behind 1 (suc k) (omega arith) in
    let closed : IsOperator ts (suc (suc k)) sign.CloseBracket = record { token = token_of (kind.Operator sign.CloseBracket); stands = stands_after us behind 2 (suc (suc k)) (omega arith); kind = refl } in
    let e : Expr = node (suc k) (name_of (codes "x")).at (form.Name (codes "x")) in
    let name : IsExpr ts (suc k) e 0 (suc (suc k)) =
    primary_is_expr (IsPrimary.one_atom (IsAtom.name (record { token = name_of (codes "x"); stands = there; placed = refl }) (record { token = name_of (codes "x"); stands = there; kind = refl; spelled = refl }) refl)) in
    let long : suc (suc (suc k)) ≡ length ts = omega (arith, length-append us behind) in
    record {
      trailers = trailer.Subscript (item.Index e ∷ []) (nat_lt (suc (suc k)) (suc (suc k))) ∷ [];
      depth = 1;
      read = subst (AreTrailers ts k _ 1) long (AreTrailers.last_trailer (IsTrailer.subscript opened (AreItems.last_item (IsItem.index name)) HasComma.no_comma closed));
      ends = ([], item.Index e ∷ [], nat_lt (suc (suc k)) (suc (suc k)), refl);
      small = omega arith;
    }

trailers_on : {ts : List Terminal} {k l j d : ℕ} {trailers : List Trailer} → AreTrailers ts k trailers d l → Subscripted ts l 0 j → Subscripted ts k d j
trailers_on (AreTrailers.last_trailer {t = t} h) s = record { trailers = t ∷ s.trailers; depth = _; read = AreTrailers.more_trailers h s.read; ends = ends_later t s.trailers s.ends; small = omega (arith, s.small) }
trailers_on (AreTrailers.more_trailers {t = t} h rest) s =
    let later = trailers_on rest s in
    record { trailers = t ∷ later.trailers; depth = _; read = AreTrailers.more_trailers h later.read; ends = ends_later t later.trailers later.ends; small = omega (arith, later.small) }

-- the target that a primary becomes
record Completed (ts : List Terminal) (i d j : ℕ) : Type 0 where
  tree : Expr
  depth : ℕ
  read : IsTarget ts i tree depth j
  small : depth ≤ max d 1

primary_on : {ts : List Terminal} {i d k j : ℕ} {e : Expr} (at : Span) → IsAt ts i at → IsPrimary ts i e d k → Subscripted ts k 0 j → Completed ts i d j
primary_on at placed (IsPrimary.one_atom p) s = record { tree = _; depth = _; read = IsTarget.element placed p s.read s.ends refl; small = omega (arith, s.small) }
primary_on at placed (IsPrimary.row place p others same) s =
    let more_trailers = trailers_on others s in
    record { tree = _; depth = _; read = IsTarget.element placed p more_trailers.read more_trailers.ends refl; small = omega (arith, more_trailers.small) }

primary_completed : (us : List Terminal) {i d : ℕ} {e : Expr} → IsPrimary us i e d (length us) → Completed (us ++ behind) i d (length (us ++ behind))
primary_completed us {i} p =
    let first = stands_there us i (sound_form_primary.forward p) in
    let carried = sound_form_primary.carried p (agree_append us behind) in
    let there = agree_append us behind i (sound_form_primary.forward p) ∙ first.1 in
    primary_on first.0.at (record { token = first.0; stands = there; placed = refl }) carried (subscript_behind us)

-- A target with what may follow it in a `for`

pub loop_past : (ts : List Terminal) (i : ℕ) → EndsLoopTarget ts i → Past 12 ts i
loop_past ts i (inl comma) = kind_stops comma (omega arith)
loop_past ts i (inr keyword) = kind_stops keyword (omega arith)

step_target : (ts : List Terminal) (from room : ℕ) → Step (Nested IsPrimary) (Past 12) (Nested IsTarget) EndsLoopTarget ts from from room
step_target ts from room = record {
  forward = omega arith;
  rising = rising_primary;
  make = λ mode us n e agree long least le opens x.
      let made = primary_completed us x.read in
      record {
        tokens = us ++ behind;
        same = agree_append us behind;
        long = omega (arith, length-append us behind);
        tree = made.tree;
        derived = record { depth = made.depth; read = made.read; within = omega (arith, made.small, x.within, least.limits) };
      };
  split = λ mode us n f j agree sees y stop. record { tree = f; end = j; derived = record { depth = y.depth; read = target_is_primary y.read; within = y.within }; stops = loop_past us j stop };
}

pub target_refused : (ts : List Terminal) (from room : ℕ) (u : Unread) → FormUnread IsPrimary (Past 12) ts from nesting_limit u → IsUnread (Nested IsTarget) EndsLoopTarget ts from room u
target_refused ts from room u h = fails (step_target ts from room) u (nested_unread IsPrimary (Past 12) primary_lines ts from room u h)

nested_read : {ts : List Terminal} {from d to : ℕ} {e : Expr} → FormReading IsPrimary (Past 12) ts from nesting_limit e d to → (room : ℕ) → Nested IsPrimary (strict nesting_limit) ts from e room to
nested_read {d = d} r room = record { depth = d; read = r.derived; within = r.shallow }

pub target_reads : {ts : List Terminal} {from d to : ℕ} {e : Expr} → FormReading IsPrimary (Past 12) ts from nesting_limit e d to → IsTargetTree e → EndsLoopTarget ts to → (room : ℕ) → IsReading (Nested IsTarget) EndsLoopTarget ts from room e to
target_reads {d = d} r target stop room = record { derived = record { depth = d; read = primary_target r.derived target; within = r.shallow }; stops = stop; within = r.within }

loop_carried : (ts us : List Terminal) (i : ℕ) → Agree (suc i) us ts → EndsLoopTarget ts i → EndsLoopTarget us i
loop_carried ts us i agree (inl comma) = inl (kind_carried (suc i) agree comma (omega arith))
loop_carried ts us i agree (inr keyword) = inr (kind_carried (suc i) agree keyword (omega arith))

pub target_stuck : {ts : List Terminal} {from d to : ℕ} {e : Expr} → FormReading IsPrimary (Past 12) ts from nesting_limit e d to → (IsTargetTree e → EndsLoopTarget ts to → ⊥) → (room : ℕ) → IsStuck (Nested IsTarget) EndsLoopTarget ts from room to
target_stuck {ts} {from} {d} {to} {e} r other room =
    let read = nested_read r room in
    record {
      forward = sound_primary.forward read;
      within = r.within;
      reached = IsArrived.reached (reached_made (step_target ts from room) (sound_primary.forward read) (reached_whole ts from to room e sound_primary rising_primary read (omega (arith, r.within))));
      none = λ us agree limit tree blocks j x stop.
          let y : Nested IsPrimary (strict limit) us from tree blocks j = record { depth = x.depth; read = target_is_primary x.read; within = x.within } in
          let same = only_primary.one read r.stops y (loop_past us j stop) agree (sees_strict nesting_limit to) (sees_strict limit to) in
          other (subst IsTargetTree (sym same.0) (target_has_tree x.read)) (loop_carried us ts to (agree_back us ts agree) (subst (EndsLoopTarget us) (sym same.1) stop));
    }

-- a primary that is kept where it is a target, and ends there
pub target_kept : {ts : List Terminal} {from d to : ℕ} {e : Expr} (r : Result (Found Expr) Unread) (whole : Bool) → FormReading IsPrimary (Past 12) ts from nesting_limit e d to → (IsTrue whole → IsTargetTree e × EndsLoopTarget ts to)
    → (IsFalse whole → IsTargetTree e → EndsLoopTarget ts to → ⊥) → MatchResult r (λ found. IsTrue whole × (found.tree ≡ e) × (found.to ≡ to)) (λ u. IsFalse whole × IsStuckAt to u) → (room : ℕ) → Reads (Nested IsTarget) EndsLoopTarget ts from room r
target_kept {ts} {from} {d} {to} {e} (Ok found) whole read told other m room =
    let here = target_reads read (told m.0).0 (told m.0).1 room in
    subst (λ t. IsReading (Nested IsTarget) EndsLoopTarget ts from room t found.to) (sym m.1) (subst (λ k. IsReading (Nested IsTarget) EndsLoopTarget ts from room e k) (sym m.2) here)
target_kept (Err u) whole read told other m room = unread_at u m.1 (target_stuck read (other m.0) room)

-- More targets

abbrev pub Next : Shape Expr
Next = After (kind.Operator sign.Comma) (Nested IsTarget)

pub good_next : Good Next
good_next = good_after _ good_target

next_target : {mode : Mode} {ts : List Terminal} {i n m : ℕ} {e : Expr} → Next mode ts i e n m → Nested IsTarget mode ts (suc i) e n m
next_target {mode} {ts} {n = n} {m} {e} h = subst (λ k. Nested IsTarget mode ts k e n m) h.read.first.end (subst (λ x. Nested IsTarget mode ts h.read.middle x n m) (sym h.tree) h.read.second)

target_next : {mode : Mode} {ts : List Terminal} {i n m : ℕ} {e : Expr} → IsOperator ts i sign.Comma → Nested IsTarget mode ts (suc i) e n m → Next mode ts i e n m
target_next {i = i} {e = e} comma h = record { inner = (tt, e); read = record { middle = suc i; first = record { stands = comma; end = refl }; second = h }; tree = refl }

many_ends : {mode : Mode} {ts : List Terminal} {i n j : ℕ} {xs : List Expr} → Many Next mode ts i xs n j → EndsLoopTarget ts j → EndsLoopTarget ts i
many_ends Many.none end = end
many_ends (Many.more h rest) end = inl h.read.first.stands

comma_is_no_keyword : {ts : List Terminal} {i : ℕ} → IsOperator ts i sign.Comma → IsKeyword ts i word.In → ⊥
comma_is_no_keyword comma keyword = omega (arith, code_here comma, code_here keyword)

many_rest : {ts us : List Terminal} {mode : Mode} {i room k n j : ℕ} {xs ys : List Expr} → Many Next (strict nesting_limit) ts i xs room k → EndsLoopTarget ts k → Many Next mode us i ys n j → IsKeyword us j word.In → Agree (suc k) us ts
    → Sees mode k → (zs : List Expr) × Many Next mode us k zs n j
many_rest Many.none end whole keyword agree sees = (_, whole)
many_rest {k = k} (Many.more g tail) end Many.none keyword agree sees =
    let le = (sound_many good_next.sound).forward tail in
    absurd (comma_is_no_keyword (kind_carried (suc k) agree g.read.first.stands (omega (arith, le, good_next.sound.forward g))) keyword)
many_rest {ts} {us} {mode} {i} {room} {k} {n} {j} (Many.more {k = m} g tail) end (Many.more {k = q} {others = others} h rest) keyword agree sees =
    let le : m ≤ k = (sound_many good_next.sound).forward tail in
    let one = only_target.one (next_target g) (loop_past ts m (many_ends tail end)) (next_target h) (loop_past us q (many_ends rest (inr keyword))) (agree_carried us ts agree (omega (arith, le))) (sees_strict nesting_limit m) (sees_less mode sees le) in
    let moved : Many Next mode us m others n j = subst (λ p. Many Next mode us p others n j) (sym one.1) rest in
    many_rest tail end moved keyword agree sees

-- the targets by their parts
record LoopParts (mode : Mode) (us : List Terminal) (i n j : ℕ) : Type 0 where
  first : Expr
  middle : ℕ
  others : List Expr
  head : Nested IsTarget mode us i first n middle
  tail : Many Next mode us middle others n j

loop_parts : {mode : Mode} {us : List Terminal} {i n j : ℕ} (f : Expr) → LoopTargets mode us i f n j → LoopParts mode us i n j
unfolding LoopTargets
loop_parts {mode} {us} {i} {n} {j} f y =
    let r = y.read.second in
    record {
      first = y.inner.1.0;
      middle = r.middle;
      others = y.inner.1.1.1;
      head = subst (λ k. Nested IsTarget mode us k y.inner.1.0 n r.middle) y.read.first.end r.first;
      tail = subst (λ k. Many Next mode us k y.inner.1.1.1 n j) r.second.first.end r.second.second;
    }

loop_made : {mode : Mode} {us : List Terminal} {i m n j : ℕ} {f first : Expr} {others : List Expr} (at : Span) → IsAt us i at → Nested IsTarget mode us i first n m → Many Next mode us m others n j → f ≡ loop_target at first m others → LoopTargets mode us i f n j
unfolding LoopTargets
loop_made {i = i} {m} {first = first} {others = others} at placed head tail same = record {
  inner = (at, (first, (m, others)));
  read = record {
    middle = i;
    first = record { placed = placed; end = refl };
    second = record { middle = m; first = head; second = record { middle = m; first = record { counted = refl; end = refl }; second = tail } };
  };
  tree = same;
}

abbrev pub IsIn : Stops
IsIn ts i = IsKeyword ts i word.In

step_first : (ts : List Terminal) (from room : ℕ) → Step (Nested IsTarget) EndsLoopTarget LoopTargets IsIn ts from from room
step_first ts from room = record {
  forward = omega arith;
  rising = good_target.rises;
  make = λ mode us n e agree long least le opens x.
      let place = target_place x.read in
      record { tokens = us; same = agree_same us; long = omega arith; tree = e; derived = loop_made place.0 place.1 x Many.none refl };
  split = λ mode us n f j agree sees y stop.
      let parts = loop_parts f y in
      record { tree = parts.first; end = parts.middle; derived = parts.head; stops = many_ends parts.tail (inr stop) };
}

pub first_target_refused : (ts : List Terminal) (from room : ℕ) (u : Unread) → IsUnread (Nested IsTarget) EndsLoopTarget ts from room u → IsUnread LoopTargets IsIn ts from room u
first_target_refused ts from room u h = fails (step_first ts from room) u h

-- targets that were read
pub record Looping (ts : List Terminal) (from : ℕ) (first : Expr) (comma : ℕ) (others : List Expr) (to : ℕ) : Type 0 where
  pub head : (room : ℕ) → IsReading (Nested IsTarget) EndsLoopTarget ts from room first comma
  pub tail : (room : ℕ) → Many Next (strict nesting_limit) ts comma others room to
  pub stops : EndsLoopTarget ts to
  pub within : to < length ts

pub looping_begins : {ts : List Terminal} {from comma : ℕ} {first : Expr} → ((room : ℕ) → IsReading (Nested IsTarget) EndsLoopTarget ts from room first comma) → Looping ts from first comma [] comma
looping_begins h = record { head = h; tail = λ room. Many.none; stops = (h 0).stops; within = (h 0).within }

pub looping_on : {ts : List Terminal} {from comma to end : ℕ} {first e : Expr} {others : List Expr} → Looping ts from first comma others to → IsOperator ts to sign.Comma
    → ((room : ℕ) → IsReading (Nested IsTarget) EndsLoopTarget ts (to + 1) room e end) → Looping ts from first comma (others ++ e ∷ []) end
looping_on {ts} {to = to} {end} {e = e} a comma h =
    let next : to + 1 ≡ suc to = omega arith in
    record {
      head = a.head;
      tail = λ room. many_more (a.tail room) (target_next comma (subst (λ k. Nested IsTarget (strict nesting_limit) ts k e room end) next (h room).derived));
      stops = (h 0).stops;
      within = (h 0).within;
    }

pub target_forward : {ts : List Terminal} {to end room : ℕ} {e : Expr} → IsReading (Nested IsTarget) EndsLoopTarget ts (to + 1) room e end → to < end
target_forward r = omega (arith, good_target.sound.forward r.derived)

loop_rest : {ts us : List Terminal} {mode : Mode} {from comma to n j : ℕ} {first : Expr} {others : List Expr} → Looping ts from first comma others to → LoopParts mode us from n j → IsKeyword us j word.In → Agree (suc to) us ts → Sees mode to
    → (zs : List Expr) × Many Next mode us to zs n j
loop_rest {ts} {us} {mode} {from} {comma} {to} {n} {j} a parts keyword agree sees =
    let h = a.head 0 in
    let le : comma ≤ to = (sound_many good_next.sound).forward (a.tail 0) in
    let one = only_target.one h.derived (loop_past ts comma h.stops) parts.head (loop_past us parts.middle (many_ends parts.tail (inr keyword))) (agree_carried us ts agree (omega (arith, le))) (sees_strict nesting_limit comma) (sees_less mode sees le) in
    many_rest (a.tail 0) a.stops (subst (λ k. Many Next mode us k parts.others n j) (sym one.1) parts.tail) keyword agree sees

next_part : {ts us : List Terminal} {mode : Mode} {to n j : ℕ} (zs : List Expr) → IsOperator ts to sign.Comma → Agree (suc to) us ts → Many Next mode us to zs n j → IsKeyword us j word.In → Part (Nested IsTarget) EndsLoopTarget mode us (suc to) n
next_part {to = to} zs comma agree Many.none keyword = absurd (comma_is_no_keyword (kind_carried (suc to) agree comma (omega arith)) keyword)
next_part zs comma agree (Many.more {k = q} {t = t} h rest) keyword = record { tree = t; end = q; derived = next_target h; stops = many_ends rest (inr keyword) }

step_next : (ts : List Terminal) (from comma to room : ℕ) (first : Expr) (others : List Expr) → Looping ts from first comma others to → IsOperator ts to sign.Comma → Step (Nested IsTarget) EndsLoopTarget LoopTargets IsIn ts from (suc to) room
step_next ts from comma to room first others a stands = record {
  forward = omega (arith, good_target.sound.forward (a.head 0).derived, (sound_many good_next.sound).forward (a.tail 0));
  rising = good_target.rises;
  make = λ mode us n e agree long least le opens x.
      let before : comma ≤ to = (sound_many good_next.sound).forward (a.tail room) in
      let head : Nested IsTarget mode us from first n comma =
      good_target.sound.carried ((good_target.rises (strict nesting_limit) mode room n least le).rise (a.head room).derived) (agree_carried us ts agree (omega (arith, before))) in
      let tail : Many Next mode us comma others n to =
      (sound_many good_next.sound).carried ((rises_many (good_next.rises (strict nesting_limit) mode room n least le)).rise (a.tail room)) (agree_carried us ts agree (omega arith)) in
      let comma_there = kind_carried (suc to) agree stands (omega arith) in
      let place = target_place head.read in
      record { tokens = us; same = agree_same us; long = omega arith; tree = loop_target place.0 first comma (others ++ e ∷ []); derived = loop_made place.0 place.1 head (many_more tail (target_next comma_there x)) refl };
  split = λ mode us n f j agree sees y stop.
      let rest = loop_rest a (loop_parts f y) stop (agree_carried us ts agree (omega arith)) (sees_less mode sees (omega arith)) in
      next_part rest.0 stands (agree_carried us ts agree (omega arith)) rest.1 stop;
}

pub next_target_refused : {ts : List Terminal} {from comma to : ℕ} {first : Expr} {others : List Expr} → Looping ts from first comma others to → IsOperator ts to sign.Comma → (room : ℕ) (u : Unread)
    → IsUnread (Nested IsTarget) EndsLoopTarget ts (to + 1) room u → IsUnread LoopTargets IsIn ts from room u
next_target_refused {ts} {from} {comma} {to} {first} {others} a stands room u h =
    let next : to + 1 ≡ suc to = omega arith in
    fails (step_next ts from comma to room first others a stands) u (subst (λ k. IsUnread (Nested IsTarget) EndsLoopTarget ts k room u) next h)

-- All were read

keyword_there : {ts : List Terminal} {to : ℕ} → EndsLoopTarget ts to → (IsOperator ts to sign.Comma → ⊥) → IsKeyword ts to word.In
keyword_there (inl comma) none = absurd (none comma)
keyword_there (inr keyword) none = keyword

pub one_read : {ts : List Terminal} {from comma to : ℕ} {first : Expr} {others : List Expr} → Looping ts from first comma others to → (IsOperator ts to sign.Comma → ⊥) → others ≡ [] → (room : ℕ) → IsReading LoopTargets IsIn ts from room first to
one_read {ts} {comma = comma} {first = first} {others} a none empty room =
    let place = target_place (a.head room).derived.read in
    let same : loop_target place.0 first comma [] ≡ loop_target place.0 first comma others = ap (loop_target place.0 first comma) (sym empty) in
    record { derived = loop_made place.0 place.1 (a.head room).derived (a.tail room) same; stops = keyword_there a.stops none; within = a.within }

several_tree : (at : Span) (first : Expr) (comma : ℕ) (others : List Expr) → (others ≡ [] → ⊥) → expr_list at first comma (Some others) ≡ loop_target at first comma others
several_tree at first comma [] some = absurd (some refl)
several_tree at first comma (second ∷ others) some = refl

pub several_read : {ts : List Terminal} {from comma to : ℕ} {first made : Expr} {others : List Expr} → Looping ts from first comma others to → (IsOperator ts to sign.Comma → ⊥) → (others ≡ [] → ⊥)
    → (at : Span) × IsAt ts from at × (made ≡ expr_list at first comma (Some others)) → (room : ℕ) → IsReading LoopTargets IsIn ts from room made to
several_read {comma = comma} {first = first} {others = others} a none some list room =
    record { derived = loop_made list.0 list.1 (a.head room).derived (a.tail room) (list.2 ∙ several_tree list.0 first comma others some); stops = keyword_there a.stops none; within = a.within }
