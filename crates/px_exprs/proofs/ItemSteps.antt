-- The parts of a subscript's items: bounds, and items.
use Rattle.std.proofs.Common.{◌≡◌, ℕ, suc, max, ◌+◌, ◌≤◌, ◌<◌, ◌++◌, true, false, inl, inr, length, take, List, [], ◌∷◌, Option, Some, None, refl, sym, ap, subst, ◌∙◌, arith}
use Rattle.std.proofs.lemmas.Bool.{false≢true}
use Rattle.std.proofs.lemmas.List.{length-append, length-take-le}
use Rattle.px_lexer.specs.declared.spelling.Operator.{Operator}
use Rattle.px_lexer.specs.declared.spelling.Operator.TheVariants as sign
use Rattle.px_lexer.specs.declared.token_list.Tokens.{Tokens}
use Rattle.px_lexer.specs.declared.token_list.TokenKind.TheVariants as kind
use Rattle.px_tree.specs.declared.expressions.Expr.{Expr}
use Rattle.px_tree.specs.declared.expressions.Item.{Item}
use Rattle.px_tree.specs.declared.expressions.Item.TheVariants as item
use Rattle.px_exprs.specs.declared.readings.Unread.{Unread}
use Rattle.px_exprs.specs.declared.readings.Unread.TheVariants as unread
use Rattle.px_lexer.specs.Terminals.{Terminal, IsOperator, terminals_of}
use Rattle.px_exprs.specs.Codes.{code_at, begins_code, Past}
use Rattle.px_exprs.specs.Grammar.{IsExpr, AreItems, IsItem, MaybeExpr}
use Rattle.px_exprs.specs.Readings.{Form, Stops, Agree, HasShallow, IsReached, IsStuck, IsUnread, IsReading, EndsElement, EndsBound}
use Rattle.px_exprs.specs.Inputs.{IsInput}
use Rattle.px_exprs.proofs.TokenReading.{goes_on}
use Rattle.px_lexer.proofs.TokenAccess.{length_terminals}
use Rattle.px_exprs.proofs.Agreement.{agree_same, agree_back, agree_carried, agree_append, agree_front, kind_carried}
use Rattle.px_exprs.proofs.Codes.{code_here}
use Rattle.px_exprs.proofs.Only.{IsOnly, From, EndsItem}
use Rattle.px_exprs.proofs.Beginnings.{expr_begins, item_begins}
use Rattle.px_exprs.proofs.BeginningCodes.{expr_codes}
use Rattle.px_exprs.proofs.Stops.{past_from, past_carried, code_carried}
use Rattle.px_exprs.proofs.Keeping.{expr_carried, maybe_carried, item_carried}
use Rattle.px_exprs.proofs.ListLaws.{no_item, not_ellipsis, items_open, closes_bracket}
use Rattle.px_exprs.proofs.Uniqueness.{expr_only, maybe_only, item_only}
use Rattle.px_exprs.proofs.Fresh.{stands_behind}
use Rattle.px_exprs.proofs.Elements.{ElementsCase, IsElements}
use Rattle.px_exprs.proofs.Steps.{Made, Part, Step, shallow_made, fails}

-- A form that was read, and behind which stands no token that may stand there

-- what was read, over its own tokens
pub cut_way : {A : Type 0} {X : Form A} {ts : List Terminal} {i d j room : ℕ} (e : A) → ((us : List Terminal) → Agree j us ts → X us i e d j) → j ≤ length ts → d ≤ room → HasShallow X ts i j room
cut_way {X = X} {ts} {i} {d} {j} e x within shallow =
    let long : length (take j ts) ≡ j = length-take-le j ts within in
    record {
      way = record {
        tokens = take j ts;
        same = agree_front j ts;
        long = omega (arith, long);
        tree = e;
        depth = d;
        derived = subst (λ n. X (take j ts) i e d n) (sym long) (x (take j ts) (agree_front j ts));
      };
      shallow = shallow;
    }

pub stuck_behind : {A : Type 0} {X : Form A} (P : Stops) {S : Stops} {ts : List Terminal} {i d j room : ℕ} (e : A) → ((us : List Terminal) → Agree j us ts → X us i e d j)
    → ((us : List Terminal) → X us i e d j → IsOnly (X us i) (P us) e d j) → ((us : List Terminal) → Agree (suc j) us ts → P us j) → ((us : List Terminal) (k : ℕ) → S us k → P us k)
    → ((us : List Terminal) → Agree (suc j) us ts → S us j → ⊥) → i ≤ j → j < length ts → d ≤ room → IsStuck X S ts i room j
stuck_behind P {S = S} {i = i} {j = j} e x only here stronger none forward within shallow = record {
  forward = forward;
  within = within;
  reached = IsReached.reached (cut_way e x (omega (arith, within)) shallow);
  none = λ us agree f c k y stop.
      let same = only us (x us (agree_carried _ _ agree (omega arith))) (here us agree) f c k y (stronger us k stop) in
      none us agree (subst (λ n. S us n) (sym same.end) stop);
}

-- Bounds

bound_code : {ts : List Terminal} {i : ℕ} → EndsBound ts i → (27 ≤ code_at ts i) × (code_at ts i ≤ 31) × (begins_code (code_at ts i) ≡ false)
bound_code (inl h) = (omega (arith, code_here h), omega (arith, code_here h), ap begins_code (code_here h))
bound_code (inr (inl h)) = (omega (arith, code_here h), omega (arith, code_here h), ap begins_code (code_here h))
bound_code (inr (inr h)) = (omega (arith, code_here h), omega (arith, code_here h), ap begins_code (code_here h))

pub bound_past : (ts : List Terminal) (i : ℕ) → EndsBound ts i → Past 26 ts i
bound_past ts i h = past_from _ _ (omega (arith, (bound_code h).0))

bound_from : {ts : List Terminal} {i : ℕ} → EndsBound ts i → From ts 26 i
bound_from h = omega (arith, (bound_code h).0)

pub bound_carried : {ts us : List Terminal} {i n : ℕ} → i < n → Agree n us ts → EndsBound ts i → EndsBound us i
bound_carried lt agree (inl h) = inl (kind_carried h lt agree)
bound_carried lt agree (inr (inl h)) = inr (inl (kind_carried h lt agree))
bound_carried lt agree (inr (inr h)) = inr (inr (kind_carried h lt agree))

pub element_carried : {closing : Operator} {ts us : List Terminal} {i n : ℕ} → i < n → Agree n us ts → EndsElement closing ts i → EndsElement closing us i
element_carried lt agree (inl h) = inl (kind_carried h lt agree)
element_carried lt agree (inr h) = inr (kind_carried h lt agree)

-- where an expression begins, a bound is one
pub present_step : {S : Stops} → ((us : List Terminal) (j : ℕ) → EndsBound us j → S us j) → (ts : List Terminal) (i room : ℕ) → begins_code (code_at ts i) ≡ true
    → Step IsExpr S MaybeExpr EndsBound ts i i room room
present_step {S = S} weaker ts i room begins = record {
  forward = omega arith;
  make = λ us agree long e d x. (record { tokens = us; same = agree_same us; long = omega arith; tree = Some e; depth = d; derived = MaybeExpr.present x }, λ le. le);
  split = λ us agree f c j whole stop. split us agree f c j whole stop;
}
  where
    split : (us : List Terminal) → Agree (suc i) us ts → (f : Option Expr) (c j : ℕ) → MaybeExpr us i f c j → EndsBound us j → (part : Part IsExpr S us i) × (room < part.depth → room < c)
    split us agree _ _ j MaybeExpr.absent stop = absurd (false≢true (sym (bound_code stop).2 ∙ ap begins_code (code_carried ts us i agree) ∙ begins))
    split us agree _ c j (MaybeExpr.present {e = e} p) stop = (record { tree = e; depth = c; end = j; derived = p; stops = weaker us j stop }, λ lt. lt)

-- neither an expression nor what may stand behind a bound
pub no_bound : (ts : List Terminal) (i room : ℕ) → begins_code (code_at ts i) ≡ false → (EndsBound ts i → ⊥) → i < length ts → IsStuck MaybeExpr EndsBound ts i room i
no_bound ts i room begins none within = record {
  forward = omega arith;
  within = within;
  reached = IsReached.reached (cut_way None (λ us agree. MaybeExpr.absent) (omega (arith, within)) (omega arith));
  none = λ us agree f c j whole stop. refuses us agree f c j whole stop;
}
  where
    refuses : (us : List Terminal) → Agree (suc i) us ts → (f : Option Expr) (c j : ℕ) → MaybeExpr us i f c j → EndsBound us j → ⊥
    refuses us agree _ _ _ MaybeExpr.absent stop = none (bound_carried (omega arith) (agree_back us ts agree) stop)
    refuses us agree _ c j (MaybeExpr.present p) stop = false≢true (sym begins ∙ sym (ap begins_code (code_carried ts us i agree)) ∙ expr_codes p)

-- an expression behind which stands nothing that may stand behind a bound
pub bound_stuck : {ts : List Terminal} {i d j room : ℕ} {e : Expr} → IsExpr ts i e d j → Past 26 ts j → d ≤ room → j < length ts → (EndsBound ts j → ⊥) → IsStuck IsExpr EndsBound ts i room j
bound_stuck {ts} {j = j} p past shallow within none =
    stuck_behind (Past 26) _ (λ us agree. (expr_carried j agree p).1 (omega arith)) (λ us q. expr_only q) (λ us agree. past_carried ts us j agree past) bound_past
    (λ us agree stop. none (bound_carried (omega arith) (agree_back us ts agree) stop)) (omega (arith, (expr_carried j (agree_same ts) p).0)) within shallow

-- Items

item_ends : {us : List Terminal} {j : ℕ} → EndsElement sign.CloseBracket us j → EndsItem us j
item_ends (inl h) = (omega (arith, code_here h), omega (arith, code_here h))
item_ends (inr h) = (omega (arith, code_here h), omega (arith, code_here h))

item_from : {us : List Terminal} {j : ℕ} → EndsElement sign.CloseBracket us j → From us 26 j
item_from h = omega (arith, (item_ends h).0)

items_cases : {us : List Terminal} {k c j : ℕ} {es : List Item} → AreItems us k es c j → ElementsCase IsItem AreItems us k es c j
items_cases (AreItems.last_item {a = a} p) = ElementsCase.last a p refl
items_cases (AreItems.more_items {l = l} {c = c} {d = d} {a = a} {others = others} p comma rest) = ElementsCase.more a c l others d p comma rest refl refl

pub item_laws : IsElements IsItem sign.CloseBracket AreItems
item_laws = record {
  last = λ {us} {k} {d} {j} {e} p. AreItems.last_item p;
  more = λ {us} {k} {l} {a} {b} {j} {e} {es} p comma rest. AreItems.more_items p comma rest;
  cases = λ {us} {k} {c} {j} {es} p. items_cases p;
  only = λ {us} {i} {d} {j} {e} p stop f c k q end. item_only p (item_ends stop) f c k q (item_ends end);
  carried = λ {ts} {us} n {i} {d} {j} {e} agree p. item_carried n agree p;
  open_ = λ {us} {k} {d} {j} {es} p close. items_open p (closes_bracket close);
  apart = λ same. cc;
}

abbrev some_colon : Terminal
some_colon = record { kind = kind.Operator sign.Colon; at = record { line = 1; column = 1 }; spelling = [] }

-- a bound with a colon behind it is an item
colon_behind : {us : List Terminal} {i d : ℕ} {e : Option Expr} → MaybeExpr us i e d (length us) → (made : Made IsItem us i) × (made.depth ≡ max d 0)
colon_behind {us} {i} {d} {e} p =
    let tokens : List Terminal = us ++ some_colon ∷ [] in
    let long : length tokens ≡ suc (length us) = omega (arith, length-append us (some_colon ∷ [])) in
    let colon : IsOperator tokens (length us) sign.Colon = record { token = some_colon; stands = stands_behind us some_colon; kind = refl } in
    let bound = (maybe_carried (length us) (agree_append us (some_colon ∷ [])) p).1 (omega arith) in
    let derived : IsItem tokens i (item.Slice e None None) (max d 0) (suc (length us)) = IsItem.slice bound colon MaybeExpr.absent in
    let made : Made IsItem us i = record {
      tokens = tokens;
      same = agree_append us (some_colon ∷ []);
      long = omega (arith, long);
      tree = item.Slice e None None;
      depth = max d 0;
      derived = subst (λ n. IsItem tokens i (item.Slice e None None) (max d 0) n) (sym long) derived;
    } in
    (made, refl)

-- where no `...` stands, an item begins with a bound
pub first_bound : (ts : List Terminal) (i room : ℕ) → (IsOperator ts i sign.Ellipsis → ⊥) → Step MaybeExpr EndsBound IsItem (EndsElement sign.CloseBracket) ts i i room room
first_bound ts i room plain = record {
  forward = omega arith;
  make = λ us agree long e d x. let made = colon_behind x in (made.0, λ le. omega (arith, made.1, le));
  split = λ us agree f c j whole stop. split us agree f c j whole stop;
}
  where
    split : (us : List Terminal) → Agree (suc i) us ts → (f : Item) (c j : ℕ) → IsItem us i f c j → EndsElement sign.CloseBracket us j
        → (part : Part MaybeExpr EndsBound us i) × (room < part.depth → room < c)
    split us agree _ c j (IsItem.index {e = e} p) stop = (record { tree = Some e; depth = c; end = j; derived = MaybeExpr.present p; stops = inr stop }, λ lt. lt)
    split us agree _ c j (IsItem.ellipsis p) stop = absurd (plain (kind_carried p (omega arith) (agree_back us ts agree)))
    split us agree _ c j (IsItem.slice {l = l} {a = a} {from = from} p colon q) stop = (record { tree = from; depth = a; end = l; derived = p; stops = inl colon }, λ lt. omega (arith, lt))
    split us agree _ c j (IsItem.step_slice {l = l} {a = a} {from = from} p colon q second r) stop = (record { tree = from; depth = a; end = l; derived = p; stops = inl colon }, λ lt. omega (arith, lt))

-- behind the first `:` stands a bound
pub second_bound : {ts : List Terminal} {i l a room : ℕ} {first : Option Expr} → MaybeExpr ts i first a l → IsOperator ts l sign.Colon → a ≤ room
    → Step MaybeExpr EndsBound IsItem (EndsElement sign.CloseBracket) ts i (suc l) room room
second_bound {ts} {i} {l} {a} {room} {first} p colon shallow = record {
  forward = omega (arith, (maybe_carried l (agree_same ts) p).0);
  make = λ us agree long e d x.
      let derived = IsItem.slice ((maybe_carried (suc l) agree p).1 (omega arith)) (kind_carried colon (omega arith) agree) x in
      (record { tokens = us; same = agree_same us; long = omega arith; tree = item.Slice first e None; depth = max a d; derived = derived }, λ le. omega (arith, shallow, le));
  split = λ us agree f c j whole stop.
      split us ((maybe_carried (suc l) (agree_carried _ _ agree (omega arith)) p).1 (omega arith)) (kind_carried colon (omega arith) agree) f c j whole stop;
}
  where
    split : (us : List Terminal) → MaybeExpr us i first a l → IsOperator us l sign.Colon → (f : Item) (c j : ℕ) → IsItem us i f c j → EndsElement sign.CloseBracket us j
        → (part : Part MaybeExpr EndsBound us (suc l)) × (room < part.depth → room < c)
    split us p colon _ c j (IsItem.index q) stop = absurd (no_item (maybe_only p) colon (MaybeExpr.present q) (item_ends stop))
    split us p colon _ c j (IsItem.ellipsis q) stop = absurd (not_ellipsis q p colon)
    split us p colon _ _ j (IsItem.slice {b = b} {to = to} q other r) stop =
        let one = maybe_only p (omega (arith, code_here colon)) _ _ _ q (omega (arith, code_here other)) in
        (record { tree = to; depth = b; end = j; derived = subst (λ n. MaybeExpr us (suc n) to b j) (sym one.end) r; stops = inr stop }, λ lt. omega (arith, lt))
    split us p colon _ _ j (IsItem.step_slice {m = m} {b = b} {to = to} q other r second u) stop =
        let one = maybe_only p (omega (arith, code_here colon)) _ _ _ q (omega (arith, code_here other)) in
        (record { tree = to; depth = b; end = m; derived = subst (λ n. MaybeExpr us (suc n) to b m) (sym one.end) r; stops = inl second }, λ lt. omega (arith, lt))

-- behind the second `:` too, and no third one behind it
pub third_bound : {S : Stops} {ts : List Terminal} {i l m a b room : ℕ} {first second : Option Expr} → ((us : List Terminal) (j : ℕ) → EndsElement sign.CloseBracket us j → S us j)
    → MaybeExpr ts i first a l → IsOperator ts l sign.Colon
    → MaybeExpr ts (suc l) second b m → IsOperator ts m sign.Colon → a ≤ room → b ≤ room → Step MaybeExpr S IsItem (EndsElement sign.CloseBracket) ts i (suc m) room room
third_bound {S = S} {ts} {i} {l} {m} {a} {b} {room} {first} {second} weaker p colon q next shallow low =
    let forward = (maybe_carried m (agree_same ts) q).0 in
    record {
      forward = omega (arith, (maybe_carried l (agree_same ts) p).0, forward);
      make = λ us agree long e d x.
          let derived = IsItem.step_slice ((maybe_carried (suc m) agree p).1 (omega (arith, forward))) (kind_carried colon (omega (arith, forward)) agree) ((maybe_carried (suc m) agree q).1 (omega arith))
          (kind_carried next (omega arith) agree) x in
          (record { tokens = us; same = agree_same us; long = omega arith; tree = item.Slice first second e; depth = max a (max b d); derived = derived }, λ le. omega (arith, shallow, low, le));
      split = λ us agree f c j whole stop.
          split us ((maybe_carried (suc m) (agree_carried _ _ agree (omega arith)) p).1 (omega (arith, forward))) (kind_carried colon (omega (arith, forward)) agree)
          ((maybe_carried (suc m) (agree_carried _ _ agree (omega arith)) q).1 (omega arith)) (kind_carried next (omega arith) agree) f c j whole stop;
    }
  where
    split : (us : List Terminal) → MaybeExpr us i first a l → IsOperator us l sign.Colon → MaybeExpr us (suc l) second b m → IsOperator us m sign.Colon → (f : Item) (c j : ℕ) → IsItem us i f c j
        → EndsElement sign.CloseBracket us j → (part : Part MaybeExpr S us (suc m)) × (room < part.depth → room < c)
    split us p colon q next _ c j (IsItem.index r) stop = absurd (no_item (maybe_only p) colon (MaybeExpr.present r) (item_ends stop))
    split us p colon q next _ c j (IsItem.ellipsis r) stop = absurd (not_ellipsis r p colon)
    split us p colon q next _ _ j (IsItem.slice {b = d} {to = to} r other u) stop =
        let one = maybe_only p (omega (arith, code_here colon)) _ _ _ r (omega (arith, code_here other)) in
        absurd (no_item (maybe_only q) next (subst (λ n. MaybeExpr us (suc n) to d j) (sym one.end) u) (item_ends stop))
    split us p colon q next _ _ j (IsItem.step_slice {m = n} {b = d} {c = c} {to = to} {step = step} r other u last v) stop =
        let one = maybe_only p (omega (arith, code_here colon)) _ _ _ r (omega (arith, code_here other)) in
        let two = maybe_only q (omega (arith, code_here next)) _ _ _ (subst (λ x. MaybeExpr us (suc x) to d n) (sym one.end) u) (omega (arith, code_here last)) in
        (record { tree = step; depth = c; end = j; derived = subst (λ x. MaybeExpr us (suc x) step c j) (sym two.end) v; stops = weaker us j stop }, λ lt. omega (arith, lt))

no_colon : {us : List Terminal} {j : ℕ} → IsOperator us j sign.Colon → EndsElement sign.CloseBracket us j → ⊥
no_colon colon stop = omega (arith, code_here colon, (item_ends stop).1)

-- a third `:` is one too many
pub third_colon : {ts : List Terminal} {i l m n a b c room : ℕ} {first second third : Option Expr} → MaybeExpr ts i first a l → IsOperator ts l sign.Colon → MaybeExpr ts (suc l) second b m
    → IsOperator ts m sign.Colon
    → MaybeExpr ts (suc m) third c n → IsOperator ts n sign.Colon → a ≤ room → b ≤ room → c ≤ room → n < length ts → IsStuck IsItem (EndsElement sign.CloseBracket) ts i room n
third_colon {ts} {m = m} {n = n} p colon q next r last shallow low deep within =
    fails (third_bound {S = EndsElement sign.CloseBracket} (λ us j stop. stop) p colon q next shallow low) (unread.Stuck n)
    (stuck_behind (λ us j. From us 26 j) _ (λ us agree. (maybe_carried n agree r).1 (omega arith)) (λ us x. maybe_only x)
    (λ us agree. omega (arith, code_here (kind_carried last (omega arith) agree))) (λ us k stop. item_from stop) (λ us agree stop. no_colon (kind_carried last (omega arith) agree) stop)
    (maybe_carried n (agree_same ts) r).0 within deep)

-- behind a `...` the item ends
pub behind_ellipsis : {ts : List Terminal} {i : ℕ} (room : ℕ) → IsOperator ts i sign.Ellipsis → suc i < length ts → (EndsElement sign.CloseBracket ts (suc i) → ⊥)
    → IsStuck IsItem (EndsElement sign.CloseBracket) ts i room (suc i)
behind_ellipsis {ts} {i} room dots within none = record {
  forward = omega arith;
  within = within;
  reached = IsReached.reached (cut_way item.Ellipsis (λ us agree. IsItem.ellipsis (kind_carried dots (omega arith) agree)) (omega (arith, within)) (omega arith));
  none = λ us agree f c j whole stop. refuses us agree (kind_carried dots (omega arith) agree) f c j whole stop;
}
  where
    refuses : (us : List Terminal) → Agree (suc (suc i)) us ts → IsOperator us i sign.Ellipsis → (f : Item) (c j : ℕ) → IsItem us i f c j → EndsElement sign.CloseBracket us j → ⊥
    refuses us agree here _ c j (IsItem.index p) stop = omega (arith, expr_begins p, code_here here)
    refuses us agree here _ _ _ (IsItem.ellipsis p) stop = none (element_carried (omega arith) (agree_back us ts agree) stop)
    refuses us agree here _ _ j (IsItem.slice p colon q) stop = not_ellipsis here p colon
    refuses us agree here _ _ j (IsItem.step_slice p colon q second r) stop = not_ellipsis here p colon

-- no bound, and no `:`
pub no_item_here : {ts : List Terminal} {i d j : ℕ} (room : ℕ) → MaybeExpr ts i None d j → EndsElement sign.CloseBracket ts j → j < length ts
    → IsStuck IsItem (EndsElement sign.CloseBracket) ts i room i
no_item_here {ts} room (MaybeExpr.absent {k = i}) stop within = record {
  forward = omega arith;
  within = within;
  reached = IsReached.reached (shallow_made (first_bound ts i room (λ h. omega (arith, code_here h, (item_ends stop).1))) (omega arith)
      (cut_way None (λ us agree. MaybeExpr.absent) (omega (arith, within)) (omega arith)));
  none = λ us agree f c j whole end.
      let here = item_ends (element_carried (omega arith) agree stop) in
      elim (item_begins whole) [ inl x ↦ omega (arith, x, here.0) | inr x ↦ omega (arith, x, here.1) ];
}

-- a bound alone is an item

pub ends_item : {ts : List Terminal} {j : ℕ} → EndsBound ts j → (IsOperator ts j sign.Colon → ⊥) → EndsElement sign.CloseBracket ts j
ends_item (inl h) none = absurd (none h)
ends_item (inr h) none = h

pub bound_inside : {ts : List Terminal} {i d j : ℕ} {e : Expr} → MaybeExpr ts i (Some e) d j → IsExpr ts i e d j
bound_inside (MaybeExpr.present p) = p

-- Slices that were read

-- the second bound is refused
pub second_refused : {ts : List Terminal} {i l a room : ℕ} {first : Option Expr} → MaybeExpr ts i first a l → a ≤ room → IsOperator ts l sign.Colon → (u : Unread)
    → IsUnread MaybeExpr EndsBound ts (l + 1) room u
    → IsUnread IsItem (EndsElement sign.CloseBracket) ts i room u
second_refused {ts} {l = l} {room = room} p shallow colon u refused =
    let next : l + 1 ≡ suc l = omega arith in
    fails (second_bound p colon shallow) u (subst (λ n. IsUnread MaybeExpr EndsBound ts n room u) next refused)

-- and the third one
pub third_refused : {ts : List Terminal} {i l m a b room : ℕ} {first second : Option Expr} → MaybeExpr ts i first a l → a ≤ room → IsOperator ts l sign.Colon
    → IsReading MaybeExpr EndsBound ts (l + 1) room second b m
    → IsOperator ts m sign.Colon → (u : Unread) → IsUnread MaybeExpr EndsBound ts (m + 1) room u → IsUnread IsItem (EndsElement sign.CloseBracket) ts i room u
third_refused {ts} {l = l} {m} {b = b} {room = room} {second = second} p shallow colon reading last u refused =
    let next : l + 1 ≡ suc l = omega arith in
    let after : m + 1 ≡ suc m = omega arith in
    let q = subst (λ n. MaybeExpr ts n second b m) next reading.derived in
    fails (third_bound {S = EndsBound} (λ us j stop. inr stop) p colon q last shallow reading.shallow) u (subst (λ n. IsUnread MaybeExpr EndsBound ts n room u) after refused)

pub third_stuck : {ts : List Terminal} {i l m n a b c room : ℕ} {first second third : Option Expr} → MaybeExpr ts i first a l → a ≤ room → IsOperator ts l sign.Colon
    → IsReading MaybeExpr EndsBound ts (l + 1) room second b m
    → IsOperator ts m sign.Colon → IsReading MaybeExpr EndsBound ts (m + 1) room third c n → IsOperator ts n sign.Colon → IsStuck IsItem (EndsElement sign.CloseBracket) ts i room n
third_stuck {ts} {l = l} {m} {n} {b = b} {c = c} {second = second} {third} p shallow colon reading last other more =
    let next : l + 1 ≡ suc l = omega arith in
    let after : m + 1 ≡ suc m = omega arith in
    third_colon p colon (subst (λ x. MaybeExpr ts x second b m) next reading.derived) last (subst (λ x. MaybeExpr ts x third c n) after other.derived) more shallow reading.shallow other.shallow other.within

pub sliced : {ts : List Terminal} {i l m a b c room : ℕ} {first second from to : Option Expr} → MaybeExpr ts i first a l → a ≤ room → IsOperator ts l sign.Colon
    → IsReading MaybeExpr EndsBound ts (l + 1) room second b m
    → (IsOperator ts m sign.Colon → ⊥) → from ≡ first → to ≡ second → c ≡ max a b → IsReading IsItem (EndsElement sign.CloseBracket) ts i room (item.Slice from to None) c m
sliced {ts} {i} {l} {m} {a} {b} {c} {second = second} {from} {to} p shallow colon reading none e f deep =
    let next : l + 1 ≡ suc l = omega arith in
    let one = subst (λ x. MaybeExpr ts i x a l) (sym e) p in
    let two = subst (λ x. MaybeExpr ts (suc l) x b m) (sym f) (subst (λ n. MaybeExpr ts n second b m) next reading.derived) in
    record {
      derived = subst (λ d. IsItem ts i (item.Slice from to None) d m) (sym deep) (IsItem.slice one colon two);
      shallow = omega (arith, deep, shallow, reading.shallow);
      stops = ends_item reading.stops none;
      within = reading.within;
    }

pub step_sliced : {ts : List Terminal} {i l m n a b c d h room : ℕ} {first second third from to step : Option Expr} → MaybeExpr ts i first a l → a ≤ room → IsOperator ts l sign.Colon
    → IsReading MaybeExpr EndsBound ts (l + 1) room second b m → IsOperator ts m sign.Colon → IsReading MaybeExpr EndsBound ts (m + 1) room third c n → (IsOperator ts n sign.Colon → ⊥)
    → from ≡ first → to ≡ second → step ≡ third → h ≡ max b c → d ≡ max a h → IsReading IsItem (EndsElement sign.CloseBracket) ts i room (item.Slice from to step) d n
step_sliced {ts} {i} {l} {m} {n} {a} {b} {c} {d} {h} {second = second} {third} {from} {to} {step} p shallow colon reading last other none e f g inner deep =
    let next : l + 1 ≡ suc l = omega arith in
    let after : m + 1 ≡ suc m = omega arith in
    let one = subst (λ x. MaybeExpr ts i x a l) (sym e) p in
    let two = subst (λ x. MaybeExpr ts (suc l) x b m) (sym f) (subst (λ k. MaybeExpr ts k second b m) next reading.derived) in
    let three = subst (λ x. MaybeExpr ts (suc m) x c n) (sym g) (subst (λ k. MaybeExpr ts k third c n) after other.derived) in
    let whole : max a (max b c) ≡ d = omega (arith, inner, deep) in
    record {
      derived = subst (λ x. IsItem ts i (item.Slice from to step) x n) whole (IsItem.step_slice one colon two last three);
      shallow = omega (arith, inner, deep, shallow, reading.shallow, other.shallow);
      stops = ends_item other.stops none;
      within = other.within;
    }

-- an index that was read
pub indexed : {ts : List Terminal} {i d j room : ℕ} {found : Option Expr} {e : Expr} → IsReading MaybeExpr EndsBound ts i room found d j → (IsOperator ts j sign.Colon → ⊥) → found ≡ Some e
    → IsReading IsItem (EndsElement sign.CloseBracket) ts i room (item.Index e) d j
indexed {ts} {i} {d} {j} reading none same = record {
  derived = IsItem.index (bound_inside (subst (λ x. MaybeExpr ts i x d j) same reading.derived));
  shallow = reading.shallow;
  stops = ends_item reading.stops none;
  within = reading.within;
}

pub nothing_read : {ts : List Terminal} {i d j room : ℕ} {found : Option Expr} → IsReading MaybeExpr EndsBound ts i room found d j → (IsOperator ts j sign.Colon → ⊥) → found ≡ None
    → IsStuck IsItem (EndsElement sign.CloseBracket) ts i room i
nothing_read {ts} {i} {d} {j} {room} reading none same = no_item_here room (subst (λ x. MaybeExpr ts i x d j) same reading.derived) (ends_item reading.stops none) reading.within

pub dots_stuck : (tokens : Tokens) {i : ℕ} (room : ℕ) → IsInput tokens → IsOperator (terminals_of tokens) i sign.Ellipsis → (EndsElement sign.CloseBracket (terminals_of tokens) (i + 1) → ⊥)
    → IsStuck IsItem (EndsElement sign.CloseBracket) (terminals_of tokens) i room (i + 1)
dots_stuck tokens {i} room input dots none =
    let next : i + 1 ≡ suc i = omega arith in
    let within : suc i < length (terminals_of tokens) = omega (arith, goes_on tokens i (kind.Operator sign.Ellipsis) input dots (omega arith), length_terminals tokens) in
    subst (λ n. IsStuck IsItem (EndsElement sign.CloseBracket) (terminals_of tokens) i room n) (sym next)
    (behind_ellipsis room dots within (subst (λ n. EndsElement sign.CloseBracket (terminals_of tokens) n → ⊥) next none))

pub dots_read : (tokens : Tokens) {i : ℕ} (room : ℕ) → IsInput tokens → IsOperator (terminals_of tokens) i sign.Ellipsis → EndsElement sign.CloseBracket (terminals_of tokens) (i + 1)
    → IsReading IsItem (EndsElement sign.CloseBracket) (terminals_of tokens) i room item.Ellipsis 0 (i + 1)
dots_read tokens {i} room input dots stop =
    let next : suc i ≡ i + 1 = omega arith in
    record {
      derived = subst (λ n. IsItem (terminals_of tokens) i item.Ellipsis 0 n) next (IsItem.ellipsis dots);
      shallow = omega arith;
      stops = stop;
      within = omega (arith, goes_on tokens i (kind.Operator sign.Ellipsis) input dots (omega arith), length_terminals tokens);
    }
