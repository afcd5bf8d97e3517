-- A name behind a type: the words of types are names elsewhere, so what ends the name tells how far the type goes.
use Rattle.std.proofs.Common.{◌≡◌, ◌⊎◌, inl, inr, ℕ, zero, suc, ◌+◌, ◌-◌, ◌≤◌, ◌<◌, Bool, false, List, [], ◌∷◌, ◌++◌, Some, None, length, take, codes, Contains, All, bytes_eq, refl, sym, ap, ap₂, subst, ◌∙◌, arith}
use Rattle.std.proofs.lemmas.Bool.{false≢true}
use Rattle.std.proofs.lemmas.List.Elements.{All-contains, All-cons, All-nil}
use Rattle.std.proofs.lemmas.Option.{slice_get_within, none-some}
use Rattle.px_base.specs.declared.refusals.Span.{Span}
use Rattle.px_lexer.specs.declared.spelling.Operator.TheVariants as sign
use Rattle.px_tree.specs.declared.typings.Axis.{Axis}
use Rattle.px_tree.specs.declared.typings.BaseType.{BaseType}
use Rattle.px_tree.specs.declared.typings.BaseType.TheVariants as base
use Rattle.px_tree.specs.declared.typings.«Type».{«Type» as Typing}
use Rattle.px_tree.specs.declared.modules.ResultType.TheVariants as result_type
use Rattle.px_lexer.specs.Terminals.{Terminal, IsName, IsOperator}
use Rattle.px_exprs.specs.Readings.{Stops, Agree}
use Rattle.px_exprs.specs.Typings.{bases, AreNames, IsBase, HasAxes, HasConst, IsTyping}
use Rattle.px_exprs.specs.TypeParts.{NoName}
use Rattle.px_exprs.specs.Codes.{code_at}
use Rattle.px_exprs.proofs.Codes.{code_here, name_code}
use Rattle.px_lexer.proofs.OneToken.{one_name, one_place}
use Rattle.px_exprs.proofs.Agreement.{agree_same, agree_back, agree_carried, agree_append, agree_front, nothing_behind}
use Rattle.px_exprs.proofs.Keeping.{kind_carried, name_carried, place_carried, names_carried, view_carried, const_carried}
use Rattle.px_exprs.proofs.TypingLaws.{base_of, base_tells, const_unique, axes_unique}
use Rattle.px_exprs.proofs.TypeReading.{names_length, base_forward, no_base, base_stuck}
use Rattle.px_parser.specs.Shapes.{Mode, Shape, Soft, Gives, Seq, Either, Of, Maybe, Nested}
use Rattle.px_parser.specs.Readings.{Anywhere}
use Rattle.px_parser.specs.Ends.{EndsName}
use Rattle.px_parser.specs.Parts.{TypedName, MaybeTypedName, ResultName, GoesOn}
use Rattle.px_parser.specs.ModuleGrammar.{Numbered, Result}
use Rattle.px_parser.proofs.Shapely.{Sound, Solid, SoundForm, FreshForm, Good, good_nested, good_seq, good_here, good_name, good_of, good_or, good_maybe, good_either, good_soft, good_gives, name_of, stands_last, one_longer}
use Rattle.px_parser.proofs.Onlies.{Leads, Only, only_seq, only_of, only_soft, only_gives, leads_anywhere}

-- Order

pub same_or_below : (x y : ℕ) → x ≤ y → (x ≡ y) ⊎ (suc x ≤ y)
same_or_below zero zero le = inl refl
same_or_below zero (suc y) le = inr (omega arith)
same_or_below (suc x) zero le = absurd (omega (arith, le))
same_or_below (suc x) (suc y) le = elim (same_or_below x y (omega (arith, le))) [ inl e ↦ inl (ap suc e) | inr l ↦ inr (omega (arith, l)) ]

pub below_or_above : (x y : ℕ) → (x ≤ y) ⊎ (suc y ≤ x)
below_or_above zero y = inl (omega arith)
below_or_above (suc x) zero = inr (omega arith)
below_or_above (suc x) (suc y) = elim (below_or_above x y) [ inl l ↦ inl (omega (arith, l)) | inr l ↦ inr (omega (arith, l)) ]

-- What stands behind words

-- an identifier
abbrev pub SomeName : Stops
SomeName ts i = (name : List ℕ) × IsName ts i name

-- a name, where it ends
abbrev pub IsLast : Stops
IsLast ts i = SomeName ts i × EndsName ts (suc i)

-- the words of a type end here
abbrev pub EndsWords : Stops
EndsWords ts i = IsLast ts i ⊎ IsOperator ts i sign.OpenBracket

pub words_go_on : {ts : List Terminal} {i : ℕ} → EndsWords ts i → GoesOn ts i
words_go_on (inl h) = inl h.0
words_go_on (inr h) = inr h

pub goes_on_ends : {ts : List Terminal} {i : ℕ} → GoesOn ts i → EndsName ts i → ⊥
goes_on_ends (inl h) s = s.0 h.0 h.1
goes_on_ends (inr h) s = s.1 h

pub ends_name : {ts : List Terminal} {i : ℕ} → (GoesOn ts i → ⊥) → EndsName ts i
ends_name none = (λ name h. none (inl (name, h)), λ h. none (inr h))

pub ends_carried : {ts us : List Terminal} (n : ℕ) → Agree n us ts → {i : ℕ} → EndsName ts i → i < n → EndsName us i
ends_carried {ts} {us} n agree s lt = (λ name h. s.0 name (name_carried n (agree_back us ts agree) h lt), λ h. s.1 (kind_carried n (agree_back us ts agree) h lt))

pub goes_on_carried : {ts us : List Terminal} (n : ℕ) → Agree n us ts → {i : ℕ} → GoesOn ts i → i < n → GoesOn us i
goes_on_carried n agree (inl h) lt = inl (h.0, name_carried n agree h.1 lt)
goes_on_carried n agree (inr h) lt = inr (kind_carried n agree h lt)

pub last_carried : {ts us : List Terminal} (n : ℕ) → Agree n us ts → {i : ℕ} → IsLast ts i → suc i < n → IsLast us i
last_carried n agree h lt = ((h.0.0, name_carried n agree h.0.1 (omega (arith, lt))), ends_carried n agree h.1 lt)

-- Bases

names_at : (ts : List Terminal) (i j : ℕ) (words : List (List ℕ)) → AreNames ts i words j → (m : ℕ) → i ≤ m → m < j → SomeName ts m
names_at ts i j [] a m le lt = absurd (omega (arith, a, le, lt))
names_at ts i j (word ∷ words) a m le lt =
    elim (same_or_below i m le) [ inl e ↦ (word, subst (λ x. IsName ts x word) e a.0) | inr l ↦ names_at ts (suc i) j words a.1 m l lt ]

-- an identifier stands at each index of a base
pub base_names : (ts : List Terminal) (i j : ℕ) (b : BaseType) → IsBase ts i b j → (m : ℕ) → i ≤ m → m < j → SomeName ts m
base_names ts i j b h m le lt = names_at ts i j h.words h.stand m le lt

pub base_carried : {ts us : List Terminal} (n : ℕ) → Agree n us ts → {i j : ℕ} {b : BaseType} → IsBase ts i b j → j ≤ n → IsBase us i b j
base_carried {ts} {us} n agree {i} {j} h le = record { words = h.words; stand = (names_carried ts us n agree i j h.words h.stand).1 le; known = h.known }

base_inside : (ts : List Terminal) (i j : ℕ) (b : BaseType) → IsBase ts i b j → j ≤ length ts
base_inside ts i j b h =
    let forward = base_forward ts i j b h in
    let last = base_names ts i j b h (j - 1) (omega (arith, forward)) (omega (arith, forward)) in
    omega (arith, forward, slice_get_within ts (j - 1) last.1.token last.1.stands)

no_name_behind : (ts : List Terminal) (j : ℕ) → NoName (take j ts) j
no_name_behind ts j name h = none-some h.token (sym (nothing_behind j ts) ∙ h.stands)

-- what a base begins with is a base: no other answer is left
fronts : (ts : List Terminal) (i j : ℕ) (b : BaseType) → IsBase ts i b j → (n m : ℕ) → m ≡ suc (i + n) → m ≤ j → ((other : BaseType) → IsBase ts i other m → ⊥) → ⊥
fronts ts i j b h zero m e le none =
    let inside = base_inside ts i j b h in
    let stuck = no_base ts i (omega (arith, e, le, inside)) (λ other g. none other (subst (IsBase ts i other) (omega (arith, e)) g)) in
    stuck.none (take j ts) (agree_carried (take j ts) ts (agree_front j ts) (omega (arith, e, le))) b 0 j (base_carried j (agree_front j ts) h (omega arith), refl) (no_name_behind ts j)
fronts ts i j b h (suc n) m e le none =
    let inside = base_inside ts i j b h in
    fronts ts i j b h n (suc (i + n)) refl (omega (arith, e, le)) (λ shorter g.
    let stuck = base_stuck ts i (suc (i + n)) shorter (omega (arith, e, le, inside)) g (λ other k. none other (subst (IsBase ts i other) (omega (arith, e)) k))
    (base_names ts i j b h (suc (i + n)) (omega arith) (omega (arith, e, le))) in
    stuck.none (take j ts) (agree_carried (take j ts) ts (agree_front j ts) (omega (arith, e, le))) b 0 j (base_carried j (agree_front j ts) h (omega arith), refl) (no_name_behind ts j))

pub no_front : (ts : List Terminal) (i j m : ℕ) (b : BaseType) → IsBase ts i b j → i < m → m ≤ j → ((other : BaseType) → IsBase ts i other m → ⊥) → ⊥
no_front ts i j m b h lt le none = fronts ts i j b h (m - suc i) m (omega (arith, lt)) le none

names_same : (ts : List Terminal) (i j : ℕ) (words others : List (List ℕ)) → AreNames ts i words j → AreNames ts i others j → words ≡ others
names_same ts i j [] [] a b = refl
names_same ts i j [] (other ∷ others) a b = absurd (omega (arith, a, names_length ts (suc i) j others b.1))
names_same ts i j (word ∷ words) [] a b = absurd (omega (arith, b, names_length ts (suc i) j words a.1))
names_same ts i j (word ∷ words) (other ∷ others) a b = ap₂ (λ x xs. x ∷ xs) (one_name a.0 b.0) (names_same ts (suc i) j words others a.1 b.1)

one_base : (ts : List Terminal) (i j : ℕ) (b c : BaseType) → IsBase ts i b j → IsBase ts i c j → b ≡ c
one_base ts i j b c g h = sym (base_tells g.words b g.known).0 ∙ ap (base_of bases) (names_same ts i j g.words h.words g.stand h.stand) ∙ (base_tells h.words c h.known).0

-- the words of a type that goes on don't end earlier
no_shorter : (ts : List Terminal) (i a b : ℕ) (x : BaseType) → IsBase ts i x a → GoesOn ts a → i ≤ b → b < a → EndsWords ts b → ⊥
no_shorter ts i a b x h more le lt (inr bracket) =
    let named = base_names ts i a x h b le lt in
    omega (arith, code_here bracket, name_code named.1)
no_shorter ts i a b x h more le lt (inl last) =
    elim (same_or_below (suc b) a (omega (arith, lt))) [
      | inl e ↦ goes_on_ends (subst (GoesOn ts) (sym e) more) last.1
      | inr l ↦ (let named = base_names ts i a x h (suc b) (omega (arith, le)) (omega (arith, l)) in last.1.0 named.0 named.1)
    ]

pub words_end : (ts : List Terminal) (i a b : ℕ) (x y : BaseType) → IsBase ts i x a → IsBase ts i y b → EndsWords ts a → EndsWords ts b → a ≡ b
words_end ts i a b x y g h s t =
    elim (below_or_above a b) [
      | inl le ↦ (elim (same_or_below a b le) [
        | inl e ↦ e
        | inr lt ↦ absurd (no_shorter ts i b a y h (words_go_on t) (omega (arith, base_forward ts i a x g)) (omega (arith, lt)) s)
      ])
      | inr lt ↦ absurd (no_shorter ts i a b x g (words_go_on s) (omega (arith, base_forward ts i b y h)) (omega (arith, lt)) t)
    ]

-- the words end before a base that can't go on with the token there
pub words_end_here : (ts : List Terminal) (i a b : ℕ) (x y : BaseType) → IsBase ts i x a → GoesOn ts a → ((other : BaseType) → IsBase ts i other (suc a) → ⊥) → IsBase ts i y b → EndsWords ts b → b ≡ a
words_end_here ts i a b x y g more none h t =
    elim (below_or_above b a) [
      | inl le ↦ (elim (same_or_below b a le) [
        | inl e ↦ e
        | inr lt ↦ absurd (no_shorter ts i a b x g more (omega (arith, base_forward ts i b y h)) (omega (arith, lt)) t)
      ])
      | inr lt ↦ absurd (no_front ts i b (suc a) y h (omega (arith, base_forward ts i a x g)) (omega (arith, lt)) none)
    ]

-- Types

pub axes_end_words : (ts : List Terminal) (a d l : ℕ) (axes : List Axis) → HasAxes ts a axes d l → IsLast ts l → EndsWords ts a
axes_end_words ts a d l axes (HasAxes.no_view m p e) s = inl (subst (IsLast ts) e s)
axes_end_words ts a d l axes (HasAxes.view k opened x closed p e) s = inr opened

axes_same : (ts : List Terminal) (a d c l j : ℕ) (axes others : List Axis) → HasAxes ts a axes d l → HasAxes ts a others c j → IsLast ts l → IsLast ts j → (axes ≡ others) × (l ≡ j)
axes_same ts a d c l j axes others (HasAxes.no_view m p e) (HasAxes.no_view n q f) s t = (m ∙ sym n, e ∙ sym f)
axes_same ts a d c l j axes others (HasAxes.no_view m p e) (HasAxes.view k opened x closed q f) s t = absurd (omega (arith, ap (code_at ts) e, code_here opened, name_code s.0.1))
axes_same ts a d c l j axes others (HasAxes.view k opened x closed p e) (HasAxes.no_view n q f) s t = absurd (omega (arith, ap (code_at ts) f, code_here opened, name_code t.0.1))
axes_same ts a d c l j axes others (HasAxes.view k opened x closed p e) (HasAxes.view m second y last q f) s t =
    let same = axes_unique (suc a) k axes x m others y (code_here closed) (code_here last) in
    (same.0, e ∙ ap suc same.1 ∙ sym f)

abbrev typing_of : ℕ → Span → Bool → BaseType → List Axis → Typing
typing_of number at is_const base axes = record { number = number; at = at; is_const = is_const; base = base; axes = axes }

-- with a name behind it a type is read in one way
pub typing_same : (ts : List Terminal) (i d c l j : ℕ) (t u : Typing) → IsTyping ts i t d l → IsTyping ts i u c j → IsLast ts l → IsLast ts j → (t ≡ u) × (l ≡ j)
typing_same ts i d c l j t u g h s r =
    let const = const_unique i g.base_from h.base_from t.is_const u.is_const g.const h.const g.axes_from h.axes_from t.base u.base g.base h.base in
    let there : IsBase ts h.base_from t.base g.axes_from = subst (λ x. IsBase ts x t.base g.axes_from) const.1 g.base in
    let end = words_end ts h.base_from g.axes_from h.axes_from t.base u.base there h.base (axes_end_words ts g.axes_from d l t.axes g.axes s) (axes_end_words ts h.axes_from c j u.axes h.axes r) in
    let based = one_base ts h.base_from h.axes_from t.base u.base (subst (IsBase ts h.base_from t.base) end there) h.base in
    let axes = axes_same ts h.axes_from d c l j t.axes u.axes (subst (λ x. HasAxes ts x t.axes d l) end g.axes) h.axes s r in (
      ap (λ x. typing_of x t.at t.is_const t.base t.axes) (g.number ∙ sym h.number)
          ∙ ap (λ x. typing_of u.number x t.is_const t.base t.axes) (one_place g.placed h.placed)
          ∙ ap (λ x. typing_of u.number u.at x t.base t.axes) const.0
          ∙ ap (λ x. typing_of u.number u.at u.is_const x t.axes) based
          ∙ ap (λ x. typing_of u.number u.at u.is_const u.base x) axes.0,
      axes.1,
    )

-- a type hangs on its own tokens
pub typing_kept : {ts us : List Terminal} (n : ℕ) → Agree n us ts → {i d j : ℕ} {t : Typing} → IsTyping ts i t d j → (i < j) × (j ≤ n → IsTyping us i t d j)
typing_kept {ts} {us} n agree {i} {d} {j} {t} h =
    let c = const_carried {us = us} n agree i t.is_const h.base_from h.const in
    let b = base_forward ts h.base_from h.axes_from t.base h.base in
    let a = view_carried {us = us} n agree h.axes_from t.axes d j h.axes in (
      omega (arith, a.0, b, c.0),
      λ le. record {
        number = h.number;
        placed = place_carried n agree h.placed (omega (arith, a.0, b, c.0, le));
        base_from = h.base_from;
        axes_from = h.axes_from;
        const = c.1 (omega (arith, a.0, b, le));
        base = base_carried n agree h.base (omega (arith, a.0, le));
        axes = a.1 le;
      },
    )

sound_typing : SoundForm IsTyping
sound_typing = record {
  carried = λ {ts} {us} {i} {d} {j} h agree. (typing_kept {us = us} j agree h).1 (omega arith);
  forward = λ {ts} h. (typing_kept 0 (agree_same ts) h).0;
}

pub object_known : Contains bases (codes "object" ∷ [], base.Object)
unfolding bases
object_known = (1, omega arith, refl)

fresh_typing : (us : List Terminal) → FreshForm IsTyping us
fresh_typing us = record {
  tokens = us ++ name_of (codes "object") ∷ [];
  same = agree_append us (name_of (codes "object") ∷ []);
  long = omega (arith, one_longer us (name_of (codes "object")));
  tree = record { number = length us; at = record { line = 1; column = 1 }; is_const = false; base = base.Object; axes = [] };
  derived = record {
    number = refl;
    placed = record { token = name_of (codes "object"); stands = stands_last us (name_of (codes "object")); placed = refl };
    base_from = length us;
    axes_from = length (us ++ name_of (codes "object") ∷ []);
    const = HasConst.plain refl refl;
    base = record {
      words = codes "object" ∷ [];
      stand = (record { token = name_of (codes "object"); stands = stands_last us (name_of (codes "object")); kind = refl; spelled = refl }, sym (one_longer us (name_of (codes "object"))));
      known = object_known;
    };
    axes = HasAxes.no_view refl refl refl;
  };
}

pub good_typing : Good (Nested IsTyping)
good_typing = good_nested (record { sound = sound_typing; fresh = fresh_typing })

-- Names with their index

pub good_numbered : Good Numbered
unfolding Numbered
good_numbered = good_seq good_here good_name

pub numbered_parts : (mode : Mode) (ts : List Terminal) (i n j : ℕ) (p : ℕ × List ℕ) → Numbered mode ts i p n j → (p.0 ≡ i) × IsName ts i p.1 × (j ≡ suc i)
unfolding Numbered
numbered_parts mode ts i n j p h = (h.first.counted, subst (λ x. IsName ts x p.1) h.first.end h.second.stands, omega (arith, h.first.end, h.second.end))

pub numbered_by : (mode : Mode) (ts : List Terminal) (i n : ℕ) (name : List ℕ) → IsName ts i name → Numbered mode ts i (i, name) n (suc i)
unfolding Numbered
numbered_by mode ts i n name h = record { middle = i; first = record { counted = refl; end = refl }; second = record { stands = h; end = refl } }

pub numbered_last : (mode : Mode) (ts : List Terminal) (i n j : ℕ) (p : ℕ × List ℕ) → Numbered mode ts i p n j → EndsName ts j → IsLast ts i
numbered_last mode ts i n j p h s = let parts = numbered_parts mode ts i n j p h in ((p.1, parts.1), subst (EndsName ts) parts.2 s)

only_numbered : Only Numbered EndsName
only_numbered = record {
  one = λ {mode} {other} {ts} {us} {i} {n} {m} {l} {j} {t} {u} g s h r agree sees sight.
      let a = numbered_parts mode ts i n l t g in
      let b = numbered_parts other us i m j u h in
      let name : t.1 ≡ u.1 = one_name (name_carried (suc i) (agree_carried us ts agree (omega (arith, a.2))) a.1 (omega arith)) b.1 in
      (ap₂ (λ x y. (x, y)) (a.0 ∙ sym b.0) name, a.2 ∙ sym b.2);
}

-- One way

-- a type before a form that begins with such a name
pub only_typing_before : {B : Type 0} {W : Shape B} {S : Stops} → Solid W → Leads W S IsLast → Only W S → Only (Seq (Nested IsTyping) W) S
only_typing_before {W = W} solid leads w = record {
  one = λ {mode} {other} {ts} {us} {i} {n} {m} {l} {j} {t} {u} g s h r agree sees sight.
      let lt = solid.grows g.second in
      let kept = (typing_kept {us = us} (suc l) agree g.first.read).1 (omega (arith, lt)) in
      let last = last_carried (suc l) agree (leads.leads g.second s) (omega (arith, lt)) in
      let same = typing_same us i g.first.depth h.first.depth g.middle h.middle t.0 u.0 kept h.first.read last (leads.leads h.second r) in
      let moved : W other us g.middle u.1 m j = subst (λ k. W other us k u.1 m j) (sym same.1) h.second in
      let rest = w.one g.second s moved r agree sees sight in
      (ap₂ (λ x y. (x, y)) same.0 rest.0, rest.1);
}

pub solid_numbered : Solid Numbered
solid_numbered = record { grows = λ {mode} {ts} {i} {n} {j} {t} h. omega (arith, (numbered_parts mode ts i n j t h).2) }

pub leads_numbered : Leads Numbered EndsName IsLast
leads_numbered = record { leads = λ {mode} {ts} {i} {n} {j} {t} h s. numbered_last mode ts i n j t h s }

pub only_typed : Only (Seq (Nested IsTyping) Numbered) EndsName
only_typed = only_typing_before solid_numbered leads_numbered only_numbered

-- What such forms begin with

-- no type begins here
abbrev pub NoType : Stops
NoType ts i = (IsName ts i (codes "const") → ⊥) × ((b : BaseType) → IsBase ts i b (suc i) → ⊥)

abbrev pub BeginsTyped : Stops
BeginsTyped ts i = (NoType ts i → ⊥) × GoesOn ts (suc i)

abbrev pub BeginsVoid : Stops
BeginsVoid ts i = IsName ts i (codes "void") × SomeName ts (suc i)

begins_by : (ts : List Terminal) (i k a d l : ℕ) (is_const : Bool) (b : BaseType) (axes : List Axis) → HasConst ts i is_const k → IsBase ts k b a → HasAxes ts a axes d l → IsLast ts l → BeginsTyped ts i
begins_by ts i k a d l is_const b axes (HasConst.const w m e) h x s =
    let forward = base_forward ts k a b h in
    (λ no. no.0 w, inl (base_names ts k a b h (suc i) (omega (arith, e)) (omega (arith, e, forward))))
begins_by ts i k a d l is_const b axes (HasConst.plain m e) h x s =
    let forward = base_forward ts k a b h in
    let there : IsBase ts i b a = subst (λ y. IsBase ts y b a) e h in (
      λ no. no_front ts i a (suc i) b there (omega arith) (omega (arith, e, forward)) no.1,
      elim (same_or_below (suc i) a (omega (arith, e, forward))) [
        | inl f ↦ subst (GoesOn ts) (sym f) (words_go_on (axes_end_words ts a d l axes x s))
        | inr lt ↦ inl (base_names ts i a b there (suc i) (omega arith) (omega (arith, lt)))
      ],
    )

pub typing_begins : {ts : List Terminal} {i d l : ℕ} {t : Typing} → IsTyping ts i t d l → IsLast ts l → BeginsTyped ts i
typing_begins {ts} {i} {d} {l} {t} h s = begins_by ts i h.base_from h.axes_from d l t.is_const t.base t.axes h.const h.base h.axes s

pub leads_typing_before : {B : Type 0} {W : Shape B} {S : Stops} → Leads W S IsLast → Leads (Seq (Nested IsTyping) W) S BeginsTyped
leads_typing_before w = record { leads = λ h s. typing_begins h.first.read (w.leads h.second s) }

pub leads_typed : Leads (Seq (Nested IsTyping) Numbered) EndsName BeginsTyped
leads_typed = leads_typing_before leads_numbered

pub leads_alone : {A : Type 0} (value : A) → Leads (Seq (Gives value) Numbered) EndsName IsLast
leads_alone value = record { leads = λ {mode} {ts} {i} {n} {j} {t} h s. subst (IsLast ts) h.first.end (numbered_last mode ts h.middle n j t.1 h.second s) }

pub leads_void : {A : Type 0} (f : Unit {0} → A) → Leads (Seq (Of f (Soft (codes "void"))) Numbered) EndsName BeginsVoid
leads_void f = record { leads = λ {mode} {ts} {i} {n} {j} {t} h s. (h.first.read.stands, subst (SomeName ts) h.first.read.end (numbered_last mode ts h.middle n j t.1 h.second s).0) }

leads_seq_of : {A B C : Type 0} {X : Shape A} {Z : Shape B} {S T : Stops} (f : A → C) → Leads (Seq X Z) S T → Leads (Seq (Of f X) Z) S T
leads_seq_of f x = record { leads = λ h s. x.leads (record { middle = h.middle; first = h.first.read; second = h.second }) s }

only_seq_of : {A B C : Type 0} {X : Shape A} {Z : Shape B} {S : Stops} (f : A → C) → Only (Seq X Z) S → Only (Seq (Of f X) Z) S
only_seq_of {X = X} {Z = Z} f x = record {
  one = λ {mode} {other} {ts} {us} {i} {n} {m} {l} {j} {t} {u} g s h r agree sees sight.
      let left : Seq X Z mode ts i (g.first.inner, t.1) n l = record { middle = g.middle; first = g.first.read; second = g.second } in
      let right : Seq X Z other us i (h.first.inner, u.1) m j = record { middle = h.middle; first = h.first.read; second = h.second } in
      let same = x.one left s right r agree sees sight in
      (ap₂ (λ a b. (a, b)) (g.first.tree ∙ ap (λ p. f p.0) same.0 ∙ sym h.first.tree) (ap (λ p. p.1) same.0), same.1);
}

-- the two can't begin with the same two tokens
abbrev pub ClashAhead : Stops → Stops → Type 0
ClashAhead T V = (ts us : List Terminal) (i : ℕ) → Agree (suc (suc i)) us ts → T ts i → V us i → ⊥

pub solid_before_name : {A : Type 0} {X : Shape A} → Sound X → Solid (Seq X Numbered)
solid_before_name x = record { grows = λ {mode} {ts} {i} {n} {j} {t} h. omega (arith, x.forward h.first, (numbered_parts mode ts h.middle n j t.1 h.second).2) }

only_fork : {A B : Type 0} {X Y : Shape A} {Z : Shape B} {S T V : Stops} → Solid (Seq X Z) → Solid (Seq Y Z) → Only (Seq X Z) S → Only (Seq Y Z) S → Leads (Seq X Z) S T → Leads (Seq Y Z) S V → ClashAhead T V → Only (Seq (Either X Y) Z) S
only_fork {X = X} {Y = Y} {Z = Z} p q x y first second parts = record {
  one = λ {mode} {other} {ts} {us} {i} {n} {m} {l} {j} {t = a} {u = b} g s h r agree sees sight. elim (g.first) [
    | Either.left c ↦ (
        let left : Seq X Z mode ts i a n l = record { middle = g.middle; first = c; second = g.second } in
        elim (h.first) [
          | Either.left d ↦ (let right : Seq X Z other us i b m j = record { middle = h.middle; first = d; second = h.second } in x.one left s right r agree sees sight)
          | Either.right d ↦ (
              let right : Seq Y Z other us i b m j = record { middle = h.middle; first = d; second = h.second } in
              absurd (parts ts us i (agree_carried us ts agree (omega (arith, p.grows left))) (first.leads left s) (second.leads right r)))
        ])
    | Either.right c ↦ (
        let left : Seq Y Z mode ts i a n l = record { middle = g.middle; first = c; second = g.second } in
        elim (h.first) [
          | Either.left d ↦ (
              let right : Seq X Z other us i b m j = record { middle = h.middle; first = d; second = h.second } in
              absurd (parts us ts i (agree_back us ts (agree_carried us ts agree (omega (arith, q.grows left)))) (first.leads right r) (second.leads left s)))
          | Either.right d ↦ (let right : Seq Y Z other us i b m j = record { middle = h.middle; first = d; second = h.second } in y.one left s right r agree sees sight)
        ])
  ];
}

-- A type that may be left out

abbrev begins_base : List (List ℕ) → List ℕ → Bool
begins_base [] word = false
begins_base (w ∷ ws) word = bytes_eq w word

abbrev NoneBegins : List ℕ → List (List (List ℕ) × BaseType) → Type 0
NoneBegins word [] = Unit {0}
NoneBegins word (row ∷ rows) = (begins_base row.0 word ≡ false) × NoneBegins word rows

none_begins : (word : List ℕ) (rows : List (List (List ℕ) × BaseType)) → NoneBegins word rows → All (λ (row : List (List ℕ) × BaseType). begins_base row.0 word ≡ false) rows
none_begins word [] r = All-nil (λ (row : List (List ℕ) × BaseType). begins_base row.0 word ≡ false)
none_begins word (row ∷ rows) r = All-cons (λ (row : List (List ℕ) × BaseType). begins_base row.0 word ≡ false) row rows r.0 (none_begins word rows r.1)

void_begins : NoneBegins (codes "void") bases
unfolding bases
void_begins = (refl, (refl, (refl, (refl, (refl, (refl, (refl, (refl, (refl, (refl, (refl, (refl, (refl, (refl, (refl, (refl, (refl, (refl, (refl, (refl, (refl, (refl, (refl, (refl, (refl, (refl, (refl, (refl, (refl, (refl, (refl, (refl, (refl, (refl, tt))))))))))))))))))))))))))))))))))

pub void_is_no_base : (ts : List Terminal) (i j : ℕ) (b : BaseType) → IsName ts i (codes "void") → IsBase ts i b j → ⊥
void_is_no_base ts i j b named h = by_words h.words h.stand (All-contains (λ (row : List (List ℕ) × BaseType). begins_base row.0 (codes "void") ≡ false) bases (h.words, b) (none_begins (codes "void") bases void_begins) h.known)
  where
    by_words : (words : List (List ℕ)) → AreNames ts i words j → begins_base words (codes "void") ≡ false → ⊥
    by_words [] a e = omega (arith, a, base_forward ts i j b h)
    by_words (w ∷ ws) a e = false≢true (sym e ∙ ap (λ x. bytes_eq x (codes "void")) (one_name a.0 named))

pub const_is_not_void : codes "const" ≡ codes "void" → ⊥
const_is_not_void e = false≢true (ap (λ x. bytes_eq x (codes "void")) e)

pub typed_alone : ClashAhead BeginsTyped IsLast
typed_alone ts us i agree t s = goes_on_ends (goes_on_carried (suc (suc i)) agree t.1 (omega arith)) s.1

pub void_alone : ClashAhead BeginsVoid IsLast
void_alone ts us i agree t s = s.1.0 t.1.0 (name_carried (suc (suc i)) agree t.1.1 (omega arith))

pub void_typed : ClashAhead BeginsVoid BeginsTyped
void_typed ts us i agree t s =
    let void = name_carried (suc (suc i)) agree t.0 (omega arith) in
    s.0 (λ const. const_is_not_void (one_name const void), λ b h. void_is_no_base us i (suc i) b void h)

pub good_maybe_typing : Good (Maybe (Nested IsTyping))
good_maybe_typing = good_maybe good_typing

only_alone : {A : Type 0} (value : A) → Only (Seq (Gives value) Numbered) EndsName
only_alone value = only_seq (good_gives value).sound good_numbered.sound (only_gives value Anywhere) (leads_anywhere Numbered EndsName) only_numbered

pub only_maybe_typed : Only (Seq (Maybe (Nested IsTyping)) Numbered) EndsName
only_maybe_typed = only_fork (solid_before_name (good_of Some good_typing).sound) (solid_before_name (good_gives None).sound) (only_seq_of Some only_typed) (only_alone None) (leads_seq_of Some leads_typed) (leads_alone None) typed_alone

void_form : Good (Of (λ _. result_type.Void) (Soft (codes "void")))
void_form = good_of _ (good_soft (codes "void"))

written : Good (Either (Of (λ _. result_type.Void) (Soft (codes "void"))) (Of result_type.Of (Nested IsTyping)))
written = good_either void_form (good_of result_type.Of good_typing)

pub good_result : Good Result
unfolding Result
good_result = good_or result_type.Unwritten written

pub leads_written : Leads (Seq (Either (Of (λ _. result_type.Void) (Soft (codes "void"))) (Of result_type.Of (Nested IsTyping))) Numbered) EndsName (λ ts i. BeginsVoid ts i ⊎ BeginsTyped ts i)
leads_written = record {
  leads = λ {mode} {ts} {i} {n} {j} {t} h s. elim (h.first) [
    | Either.left a ↦ (
        let left : Seq (Of (λ _. result_type.Void) (Soft (codes "void"))) Numbered mode ts i t n j = record { middle = h.middle; first = a; second = h.second } in
        inl ((leads_void (λ _. result_type.Void)).leads left s))
    | Either.right b ↦ (
        let right : Seq (Of result_type.Of (Nested IsTyping)) Numbered mode ts i t n j = record { middle = h.middle; first = b; second = h.second } in
        inr ((leads_seq_of result_type.Of leads_typed).leads right s))
  ];
}

written_alone : ClashAhead (λ ts i. BeginsVoid ts i ⊎ BeginsTyped ts i) IsLast
written_alone ts us i agree (inl h) s = void_alone ts us i agree h s
written_alone ts us i agree (inr h) s = typed_alone ts us i agree h s

only_void : Only (Seq (Of (λ _. result_type.Void) (Soft (codes "void"))) Numbered) EndsName
only_void = only_seq void_form.sound good_numbered.sound (only_of _ (only_soft (codes "void") Anywhere)) (leads_anywhere Numbered EndsName) only_numbered

only_written : Only (Seq (Either (Of (λ _. result_type.Void) (Soft (codes "void"))) (Of result_type.Of (Nested IsTyping))) Numbered) EndsName
only_written = only_fork (solid_before_name void_form.sound) (solid_before_name (good_of result_type.Of good_typing).sound) only_void (only_seq_of result_type.Of only_typed) (leads_void (λ _. result_type.Void)) (leads_seq_of result_type.Of leads_typed) void_typed

pub only_result : Only (Seq Result Numbered) EndsName
unfolding Result
only_result = only_fork (solid_before_name written.sound) (solid_before_name (good_gives result_type.Unwritten).sound) only_written (only_alone result_type.Unwritten) leads_written (leads_alone result_type.Unwritten) written_alone

-- The first token

typing_named : (ts : List Terminal) (i k a : ℕ) (is_const : Bool) (b : BaseType) → HasConst ts i is_const k → IsBase ts k b a → SomeName ts i
typing_named ts i k a is_const b (HasConst.plain m e) h = subst (SomeName ts) e (base_names ts k a b h k (omega arith) (base_forward ts k a b h))
typing_named ts i k a is_const b (HasConst.const w m e) h = (codes "const", w)

pub leads_typing : Leads (Nested IsTyping) Anywhere SomeName
leads_typing = record { leads = λ {ts = ts} {i = i} {t = t} h s. typing_named ts i h.read.base_from h.read.axes_from t.is_const t.base h.read.const h.read.base }

pub leads_result : Leads (Seq Result Numbered) Anywhere SomeName
unfolding Result
leads_result = record {
  leads = λ {mode} {ts} {i} {n} {j} {t} h s. elim (h.first) [
    | Either.left w ↦ (elim (w) [ Either.left v ↦ (codes "void", v.read.stands) | Either.right a ↦ leads_typing.leads a.read tt ])
    | Either.right b ↦ subst (SomeName ts) b.end (t.1.1, (numbered_parts mode ts h.middle n j t.1 h.second).1)
  ];
}

-- The same with the number alone

pub good_typed_name : Good TypedName
unfolding TypedName
good_typed_name = good_of _ (good_seq good_typing good_numbered)

pub only_typed_name : Only TypedName EndsName
unfolding TypedName
only_typed_name = only_of _ only_typed

pub good_maybe_name : Good MaybeTypedName
unfolding MaybeTypedName
good_maybe_name = good_of _ (good_seq good_maybe_typing good_numbered)

pub good_result_name : Good ResultName
unfolding ResultName
good_result_name = good_of _ (good_seq good_result good_numbered)

pub only_result_name : Only ResultName EndsName
unfolding ResultName
only_result_name = only_of _ only_result
