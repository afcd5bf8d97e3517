-- Signs and casts with their operands.
use Rattle.std.proofs.Common.{◌≡◌, ◌∙◌, ℕ, suc, max, ◌+◌, ◌<◌, ◌≤◌, ◌++◌, codes, length, take, List, [], ◌∷◌, false, refl, sym, ap, subst, arith}
use Rattle.std.specs.Prelude.{Result, Ok, Err}
use Rattle.std.proofs.lemmas.List.{length-append, length-take-le}
use Rattle.std.proofs.lemmas.Option.{slice_get_within}
use Rattle.px_base.specs.declared.c_types.CType.TheVariants as ctype
use Rattle.px_base.specs.declared.c_types.UnOp.{UnOp}
use Rattle.px_base.specs.declared.refusals.Span.{Span}
use Rattle.px_lexer.specs.declared.spelling.Operator.{Operator}
use Rattle.px_lexer.specs.declared.spelling.Operator.TheVariants as sign
use Rattle.px_lexer.specs.declared.token_list.Tokens.{Tokens}
use Rattle.px_lexer.specs.declared.token_list.TokenKind.TheVariants as kind
use Rattle.px_tree.specs.declared.typings.BaseType.TheVariants as base
use Rattle.px_tree.specs.declared.typings.«Type».{«Type» as Typing}
use Rattle.px_tree.specs.declared.expressions.Expr.{Expr}
use Rattle.px_tree.specs.declared.expressions.ExprForm.TheVariants as form
use Rattle.px_exprs.specs.declared.readings.Read.{Read}
use Rattle.px_exprs.specs.declared.readings.Unread.{Unread}
use Rattle.px_exprs.specs.declared.readings.Unread.TheVariants as unread
use Rattle.px_lexer.specs.Terminals.{Terminal, Stands, IsOperator, IsAt, terminals_of}
use Rattle.px_exprs.specs.Typings.{HasConst, HasAxes, IsTyping, bases}
use Rattle.px_exprs.specs.Codes.{Past}
use Rattle.px_exprs.specs.Grammar.{IsOf, unary_operators, node, IsUnary, IsPrimary}
use Rattle.px_exprs.specs.Inputs.{IsInput}
use Rattle.px_exprs.specs.Words.{IsTooDeepAt}
use Rattle.px_exprs.specs.Readings.{Form, Stops, Agree, HasWay, IsReached, IsOver, IsUnread, IsReading, Reads, At}
use Rattle.px_exprs.proofs.Agreement.{agree_same, agree_back, agree_carried, agree_through, agree_front, agree_append}
use Rattle.px_exprs.proofs.Beginnings.{primary_begins}
use Rattle.px_exprs.proofs.Codes.{code_here}
use Rattle.px_exprs.proofs.Fresh.{some_name, stands_behind, way_unary}
use Rattle.px_exprs.proofs.Keeping.{kind_carried, place_carried, of_carried, const_carried, names_carried, view_carried, typing_carried}
use Rattle.px_exprs.proofs.Steps.{Made, Part, Step, fails, way_made}
use Rattle.px_exprs.proofs.Tables.{unary_code}
use Rattle.px_exprs.proofs.TypingLaws.{typing_unique}

-- a form that is another from the same index on is read as that is
pub reads_as : {A : Type 0} {X Y : Form A} {S R : Stops} {ts : List Terminal} {i room : ℕ} → Step X S Y R ts i i room room → ((e : A) (d j : ℕ) → X ts i e d j → Y ts i e d j) → ((j : ℕ) → S ts j → R ts j)
    → (r : Result (Read A) Unread) → Reads X S ts i room r → Reads Y R ts i room r
reads_as step same stops (Ok read) h = record { derived = same _ _ _ h.derived; shallow = h.shallow; stops = stops _ h.stops; within = h.within }
reads_as step same stops (Err u) h = fails step u h

-- Tokens that are added

-- a token behind others
pub record Added (us : List Terminal) (t : Terminal) (n : ℕ) : Type 0 where
  pub tokens : List Terminal
  pub same : Agree n tokens us
  pub stands : Stands tokens n t
  pub long : length tokens ≡ suc n

pub added : (us : List Terminal) (t : Terminal) (n : ℕ) → length us ≡ n → Added us t n
added us t n e = record {
  tokens = us ++ t ∷ [];
  same = subst (λ m. Agree m (us ++ t ∷ []) us) e (agree_append us (t ∷ []));
  stands = subst (λ m. Stands (us ++ t ∷ []) m t) e (stands_behind us t);
  long = omega (arith, length-append us (t ∷ []), e);
}

abbrev pub some_sign : Operator → Terminal
some_sign o = record { kind = kind.Operator o; at = some_name.at; spelling = [] }

-- Operands

-- where neither a sign nor a cast begins, the primary is all
only_primary : {us : List Terminal} {i c j : ℕ} {f : Expr} (room : ℕ) → (IsOperator us i sign.Less → ⊥) → ((m : UnOp) → IsOf unary_operators us i m → ⊥) → IsUnary us i f c j → Past 12 us j
    → (part : Part IsPrimary (Past 12) us i) × (room < part.depth → room < c)
only_primary room no_less no_sign (IsUnary.signed at o p same) stop = absurd (no_sign _ o)
only_primary room no_less no_sign (IsUnary.cast at less t greater p same) stop = absurd (no_less less)
only_primary room no_less no_sign (IsUnary.unsigned p) stop = (record { tree = _; depth = _; end = _; derived = p; stops = stop }, λ lt. lt)

primary_step : {ts : List Terminal} {i room : ℕ} → (IsOperator ts i sign.Less → ⊥) → ((m : UnOp) → IsOf unary_operators ts i m → ⊥) → Step IsPrimary (Past 12) IsUnary (Past 12) ts i i room room
primary_step {ts} {i} {room} no_less no_sign = record {
  forward = omega arith;
  make = λ us agree long e d x. (record { tokens = us; same = agree_same us; long = omega arith; tree = e; depth = d; derived = IsUnary.unsigned x }, λ le. le);
  split = λ us agree f c j whole stop.
      only_primary room (λ less. no_less (kind_carried (suc i) (agree_back us ts agree) less (omega arith))) (λ m o. no_sign m (of_carried (suc i) (agree_back us ts agree) o (omega arith))) whole stop;
}

pub read_primary : {ts : List Terminal} {i : ℕ} (room : ℕ) → (IsOperator ts i sign.Less → ⊥) → ((m : UnOp) → IsOf unary_operators ts i m → ⊥) → (r : Result (Read Expr) Unread) → Reads IsPrimary (Past 12) ts i room r
    → Reads IsUnary (Past 12) ts i room r
read_primary room no_less no_sign r h = reads_as (primary_step no_less no_sign) (λ e d j x. IsUnary.unsigned x) (λ j s. s) r h

-- A sign

sign_split : {us : List Terminal} {i c j : ℕ} {f : Expr} {meant : UnOp} (room : ℕ) → IsOf unary_operators us i meant → IsUnary us i f c j → Past 12 us j
    → (part : Part IsUnary (Past 12) us (suc i)) × (room < part.depth → suc room < c)
sign_split room o (IsUnary.signed at o' p same) stop = (record { tree = _; depth = _; end = _; derived = p; stops = stop }, λ lt. omega (arith, lt))
sign_split room o (IsUnary.cast at less t greater p same) stop = absurd (omega (arith, unary_code o, code_here less))
sign_split room o (IsUnary.unsigned p) stop = absurd (omega (arith, unary_code o, primary_begins p))

-- the operand of a sign is a part
sign_step : {ts : List Terminal} {i room : ℕ} {meant : UnOp} → IsOf unary_operators ts i meant → Step IsUnary (Past 12) IsUnary (Past 12) ts i (suc i) room (suc room)
sign_step {ts} {i} {room} {meant} o = record {
  forward = omega arith;
  make = λ us agree long e d x.
      let here = of_carried (suc i) agree o (omega arith) in (
        record {
          tokens = us;
          same = agree_same us;
          long = omega arith;
          tree = node i here.stands.token.at (form.Unary meant e);
          depth = suc d;
          derived = IsUnary.signed (record { token = here.stands.token; stands = here.stands.stands; placed = refl }) here x refl;
        },
        λ le. omega (arith, le),
      );
  split = λ us agree f c j whole stop. sign_split room (of_carried (suc (suc i)) agree o (omega arith)) whole stop;
}

-- A cast

cast_split : {us : List Terminal} {i c j : ℕ} {f : Expr} (room : ℕ) → IsOperator us i sign.Less → IsUnary us i f c j → Past 12 us j → (part : Part IsTyping (At sign.Greater) us (suc i)) × (room < part.depth → suc room < c)
cast_split room less (IsUnary.signed at o p same) stop = absurd (omega (arith, unary_code o, code_here less))
cast_split room less (IsUnary.cast at less' t greater p same) stop = (record { tree = _; depth = _; end = _; derived = t; stops = greater }, λ lt. omega (arith, lt))
cast_split room less (IsUnary.unsigned p) stop = absurd (omega (arith, primary_begins p, code_here less))

-- a type has a token
typing_within : {ts : List Terminal} {i d j : ℕ} {t : Typing} → IsTyping ts i t d j → i < length ts
typing_within {ts} {i} h = slice_get_within ts i h.placed.token h.placed.stands

-- and over tokens that go on with its own it is the same
typing_onto : {us vs : List Terminal} {i d : ℕ} {t : Typing} → Agree (length us) vs us → IsTyping us i t d (length us) → IsTyping vs i t d (length us)
typing_onto {us} {vs} {i} {d} {t} agree h =
    let n = length us in
    let c = const_carried {us = vs} n agree i t.is_const h.base_from h.const in
    let b = names_carried us vs n agree h.base_from h.axes_from h.base.words h.base.stand in
    let a = view_carried {us = vs} n agree h.axes_from t.axes d n h.axes in
    record {
      number = h.number;
      placed = place_carried n agree h.placed (typing_within h);
      base_from = h.base_from;
      axes_from = h.axes_from;
      const = c.1 (omega (arith, a.0, b.0));
      base = record { words = h.base.words; stand = b.1 (omega (arith, a.0)); known = h.base.known };
      axes = a.1 (omega arith);
    }

-- a cast whose operand is missing goes on with a name
cast_made : {us : List Terminal} {i d : ℕ} {t : Typing} → IsOperator us i sign.Less → IsTyping us (suc i) t d (length us) → (made : Made IsUnary us i) × (made.depth ≡ suc d)
cast_made {us} {i} {d} {t} less typing =
    let two = added us (some_sign sign.Greater) (length us) refl in
    let end = suc (length us) in
    let three = (way_unary two.tokens end 0 (omega (arith, two.long))) in
    let way = three.way in
    let same : Agree (length us) way.tokens us = agree_through way.tokens two.tokens us (agree_carried way.tokens two.tokens way.same (omega arith)) two.same in
    let here = kind_carried (length us) same less (omega (arith, typing_within typing)) in
    let greater : IsOperator way.tokens (length us) sign.Greater = kind_carried end way.same (record { token = some_sign sign.Greater; stands = two.stands; kind = refl }) (omega arith) in (
      record {
        tokens = way.tokens;
        same = same;
        long = omega (arith, way.long);
        tree = node i here.token.at (form.Cast t way.tree);
        depth = suc (max d way.depth);
        derived = IsUnary.cast (record { token = here.token; stands = here.stands; placed = refl }) here (typing_onto same typing) greater way.derived refl;
      },
      omega (arith, three.shallow),
    )

-- the type of a cast is a part
cast_step : {ts : List Terminal} {i room : ℕ} → IsOperator ts i sign.Less → Step IsTyping (At sign.Greater) IsUnary (Past 12) ts i (suc i) room (suc room)
cast_step {ts} {i} {room} less = record {
  forward = omega arith;
  make = λ us agree long t d x.
      let made = cast_made (kind_carried (suc i) agree less (omega arith)) x in
      (made.0, λ le. omega (arith, made.1, le));
  split = λ us agree f c j whole stop. cast_split room (kind_carried (suc (suc i)) agree less (omega arith)) whole stop;
}

operand_split : {us : List Terminal} {i a k c j : ℕ} {t : Typing} {f : Expr} (room : ℕ) → IsOperator us i sign.Less → IsTyping us (suc i) t a k → IsOperator us k sign.Greater → IsUnary us i f c j → Past 12 us j
    → (part : Part IsUnary (Past 12) us (suc k)) × (room < part.depth → suc room < c)
operand_split room less typing greater (IsUnary.signed at o p same) stop = absurd (omega (arith, unary_code o, code_here less))
operand_split {us} {j = j} room less typing greater (IsUnary.cast {b = b} {operand = operand} at less' t greater' p same) stop =
    let one = typing_unique typing t (omega (arith, code_here greater)) (omega (arith, code_here greater')) in
    (record { tree = operand; depth = b; end = j; derived = subst (λ n. IsUnary us (suc n) operand b j) (sym one.end) p; stops = stop }, λ lt. omega (arith, lt))
operand_split room less typing greater (IsUnary.unsigned p) stop = absurd (omega (arith, primary_begins p, code_here less))

-- the operand of a cast is a part
cast_operand_step : {ts : List Terminal} {i a k room : ℕ} {t : Typing} → IsOperator ts i sign.Less → IsTyping ts (suc i) t a k → a ≤ room → IsOperator ts k sign.Greater
    → Step IsUnary (Past 12) IsUnary (Past 12) ts i (suc k) room (suc room)
cast_operand_step {ts} {i} {a} {k} {room} {t} less typing shallow greater =
    let forward = (typing_carried {us = ts} k (agree_same ts) typing).0 in
    record {
      forward = omega (arith, forward);
      make = λ us agree long e d x.
          let here = kind_carried (suc k) agree less (omega (arith, forward)) in (
            record {
              tokens = us;
              same = agree_same us;
              long = omega arith;
              tree = node i here.token.at (form.Cast t e);
              depth = suc (max a d);
              derived = IsUnary.cast (record { token = here.token; stands = here.stands; placed = refl }) here ((typing_carried (suc k) agree typing).1 (omega arith)) (kind_carried (suc k) agree greater (omega arith)) x refl;
            },
            λ le. omega (arith, le, shallow),
          );
      split = λ us agree f c j whole stop.
          operand_split room (kind_carried (suc (suc k)) agree less (omega (arith, forward))) ((typing_carried (suc (suc k)) agree typing).1 (omega arith)) (kind_carried (suc (suc k)) agree greater (omega arith)) whole stop;
    }

-- No room for the operand

sign_over : {ts : List Terminal} {i room : ℕ} {meant : UnOp} → IsOf unary_operators ts i meant → i < length ts → room ≤ 0 → IsOver IsUnary (Past 12) ts i room i
sign_over {ts} {i} {room} {meant} o within none = record {
  forward = omega arith;
  within = within;
  counted = λ h. omega (arith, unary_code o, code_here h);
  reached = IsReached.reached (way_unary ts i room (omega (arith, within)));
  way = way_made (sign_step {room = 0} o) (omega arith) (way_unary ts (suc i) 0 (omega (arith, within))).way;
  deep = λ us agree f c j whole stop. deep_sign (of_carried (suc i) agree o (omega arith)) whole;
}
  where
    deep_sign : {us : List Terminal} {c j : ℕ} {f : Expr} → IsOf unary_operators us i meant → IsUnary us i f c j → room < c
    deep_sign o (IsUnary.signed at o' p same) = omega (arith, none)
    deep_sign o (IsUnary.cast at less t greater p same) = omega (arith, none)
    deep_sign o (IsUnary.unsigned p) = absurd (omega (arith, unary_code o, primary_begins p))

-- a cast to `int` goes on with a name
int_name : Terminal
int_name = record { kind = kind.Name; at = some_name.at; spelling = codes "int" }

cast_way : {ts : List Terminal} {i : ℕ} → IsOperator ts i sign.Less → i < length ts → HasWay IsUnary ts i (suc i)
unfolding bases int_name
cast_way {ts} {i} less within =
    let long : length (take (suc i) ts) ≡ suc i = length-take-le (suc i) ts (omega (arith, within)) in
    let two = added (take (suc i) ts) int_name (suc i) long in
    let same : Agree (suc i) two.tokens ts = agree_through two.tokens (take (suc i) ts) ts two.same (agree_front (suc i) ts) in
    let here : IsOperator two.tokens i sign.Less = kind_carried (suc i) same less (omega arith) in
    let typing : IsTyping two.tokens (suc i) (record { number = suc i; at = some_name.at; is_const = false; base = base.C ctype.Int; axes = [] }) 0 (length two.tokens) = record {
      number = refl;
      placed = record { token = int_name; stands = two.stands; placed = refl };
      base_from = suc i;
      axes_from = suc (suc i);
      const = HasConst.plain refl refl;
      base = record {
        words = codes "int" ∷ [];
        stand = (record { token = int_name; stands = two.stands; kind = refl; spelled = refl }, refl);
        known = (17, omega arith, refl);
      };
      axes = HasAxes.no_view refl refl two.long;
    } in
    let made = (cast_made here typing).0 in
    record {
      tokens = made.tokens;
      same = agree_through made.tokens two.tokens ts (agree_carried made.tokens two.tokens made.same (omega (arith, two.long))) same;
      long = omega (arith, made.long, two.long);
      tree = made.tree;
      depth = made.depth;
      derived = made.derived;
    }

cast_over : {ts : List Terminal} {i room : ℕ} → IsOperator ts i sign.Less → i < length ts → room ≤ 0 → IsOver IsUnary (Past 12) ts i room i
cast_over {ts} {i} {room} less within none = record {
  forward = omega arith;
  within = within;
  counted = λ h. omega (arith, code_here less, code_here h);
  reached = IsReached.reached (way_unary ts i room (omega (arith, within)));
  way = cast_way less within;
  deep = λ us agree f c j whole stop. deep_cast (kind_carried (suc i) agree less (omega arith)) whole;
}
  where
    deep_cast : {us : List Terminal} {c j : ℕ} {f : Expr} → IsOperator us i sign.Less → IsUnary us i f c j → room < c
    deep_cast less (IsUnary.signed at o p same) = omega (arith, none)
    deep_cast less (IsUnary.cast at less' t greater p same) = omega (arith, none)
    deep_cast less (IsUnary.unsigned p) = absurd (omega (arith, code_here less, primary_begins p))

-- What the reader of a unary answers

pub no_room_for_sign : {ts : List Terminal} {i room : ℕ} {meant : UnOp} → IsOf unary_operators ts i meant → i < length ts → (u : Unread) → IsTooDeepAt i u × (room ≤ 0) → IsUnread IsUnary (Past 12) ts i room u
no_room_for_sign o within (unread.Stuck n) deep = absurd deep.0
no_room_for_sign {ts} {i} {room} o within (unread.TooDeep n) deep = subst (IsOver IsUnary (Past 12) ts i room) (sym deep.0) (sign_over o within deep.1)
no_room_for_sign o within unread.NoMemory deep = tt

pub no_room_for_cast : {ts : List Terminal} {i room : ℕ} → IsOperator ts i sign.Less → i < length ts → (u : Unread) → IsTooDeepAt i u × (room ≤ 0) → IsUnread IsUnary (Past 12) ts i room u
no_room_for_cast less within (unread.Stuck n) deep = absurd deep.0
no_room_for_cast {ts} {i} {room} less within (unread.TooDeep n) deep = subst (IsOver IsUnary (Past 12) ts i room) (sym deep.0) (cast_over less within deep.1)
no_room_for_cast less within unread.NoMemory deep = tt

next : {n : ℕ} → n + 1 ≡ suc n
next = omega arith

pub sign_refused : {ts : List Terminal} {i room left : ℕ} {meant : UnOp} → IsOf unary_operators ts i meant → room ≡ suc left → (u : Unread) → IsUnread IsUnary (Past 12) ts (i + 1) left u → IsUnread IsUnary (Past 12) ts i room u
sign_refused {ts} {i} {left = left} o inside u refused =
    subst (λ n. IsUnread IsUnary (Past 12) ts i n u) (sym inside) (fails (sign_step o) u (subst (λ n. IsUnread IsUnary (Past 12) ts n left u) next refused))

pub type_refused : {ts : List Terminal} {i room left : ℕ} → IsOperator ts i sign.Less → room ≡ suc left → (u : Unread) → IsUnread IsTyping (At sign.Greater) ts (i + 1) left u → IsUnread IsUnary (Past 12) ts i room u
type_refused {ts} {i} {left = left} less inside u refused =
    subst (λ n. IsUnread IsUnary (Past 12) ts i n u) (sym inside) (fails (cast_step less) u (subst (λ n. IsUnread IsTyping (At sign.Greater) ts n left u) next refused))

pub cast_refused : {ts : List Terminal} {i room left a k : ℕ} {t : Typing} → IsOperator ts i sign.Less → room ≡ suc left → IsReading IsTyping (At sign.Greater) ts (i + 1) left t a k → (u : Unread)
    → IsUnread IsUnary (Past 12) ts (k + 1) left u → IsUnread IsUnary (Past 12) ts i room u
cast_refused {ts} {i} {left = left} {a} {k} {t} less inside typing u refused =
    let step = cast_operand_step less (subst (λ n. IsTyping ts n t a k) next typing.derived) typing.shallow typing.stops in
    subst (λ n. IsUnread IsUnary (Past 12) ts i n u) (sym inside) (fails step u (subst (λ n. IsUnread IsUnary (Past 12) ts n left u) next refused))

pub sign_read : {ts : List Terminal} {i room left d j c to : ℕ} {at : Span} {meant : UnOp} {operand boxed e : Expr} → IsOf unary_operators ts i meant → room ≡ suc left → IsReading IsUnary (Past 12) ts (i + 1) left operand d j
    → boxed ≡ operand → IsAt ts i at → e ≡ node i at (form.Unary meant boxed) → c ≡ d + 1 → to ≡ j → IsReading IsUnary (Past 12) ts i room e c to
sign_read {ts} {i} {room} {d = d} {j} {c} {at = at} {meant} {operand} {e = e} o inside reading same placed tree deep end =
    let here : IsUnary ts i e (suc d) j = IsUnary.signed placed o (subst (λ n. IsUnary ts n operand d j) next reading.derived) (tree ∙ ap (λ x. node i at (form.Unary meant x)) same) in
    let deeper : suc d ≡ c = omega (arith, deep) in
    let whole : IsReading IsUnary (Past 12) ts i room e c j = record {
      derived = subst (λ n. IsUnary ts i e n j) deeper here;
      shallow = omega (arith, deep, inside, reading.shallow);
      stops = reading.stops;
      within = reading.within;
    } in
    subst (IsReading IsUnary (Past 12) ts i room e c) (sym end) whole

pub cast_read : {ts : List Terminal} {i room left a k b j d c to : ℕ} {at : Span} {t : Typing} {operand boxed e : Expr} → IsOperator ts i sign.Less → room ≡ suc left → IsReading IsTyping (At sign.Greater) ts (i + 1) left t a k
    → IsReading IsUnary (Past 12) ts (k + 1) left operand b j → boxed ≡ operand → d ≡ max a b → IsAt ts i at → e ≡ node i at (form.Cast t boxed) → c ≡ d + 1 → to ≡ j → IsReading IsUnary (Past 12) ts i room e c to
cast_read {ts} {i} {room} {a = a} {k} {b} {j} {d} {c} {at = at} {t} {operand} {e = e} less inside typing reading same deepest placed tree deep end =
    let type : IsTyping ts (suc i) t a k = subst (λ n. IsTyping ts n t a k) next typing.derived in
    let rest : IsUnary ts (suc k) operand b j = subst (λ n. IsUnary ts n operand b j) next reading.derived in
    let here : IsUnary ts i e (suc (max a b)) j = IsUnary.cast placed less type typing.stops rest (tree ∙ ap (λ x. node i at (form.Cast t x)) same) in
    let deeper : suc (max a b) ≡ c = omega (arith, deep, deepest) in
    let whole : IsReading IsUnary (Past 12) ts i room e c j = record {
      derived = subst (λ n. IsUnary ts i e n j) deeper here;
      shallow = omega (arith, deep, deepest, inside, typing.shallow, reading.shallow);
      stops = reading.stops;
      within = reading.within;
    } in
    subst (IsReading IsUnary (Past 12) ts i room e c) (sym end) whole

-- a sign has a token behind it
pub sign_inside : (tokens : Tokens) (i : ℕ) {meant : UnOp} → IsInput tokens → IsOf unary_operators (terminals_of tokens) i meant → suc i < length tokens.list
sign_inside tokens i input o = input.ends i (omega (arith, unary_code o))
