-- What reading the parts of a type shows: a part that was read, or tokens that make none.
use Rattle.std.proofs.Common.{Result, Ok, Err, MatchResult, Option, None, MatchOption, ◌≡◌, ◌⊎◌, inl, inr, ℕ, zero, suc, ◌+◌, ◌-◌, ◌<◌, ◌≤◌, Bool, true, false, ◌&&◌, ◌||◌, List, [], ◌∷◌, ◌++◌, length, take, Some, codes, Contains, All, bytes_eq, refl, sym, ap, ap₂, ◌∙◌, subst, arith}
use Rattle.std.proofs.lemmas.Bool.{and_parts, false≢true, lt-ltb, le-ltb}
use Rattle.std.proofs.lemmas.List.{append_assoc, length-append}
use Rattle.std.proofs.lemmas.List.Elements.{All-contains, All-cons, All-nil}
use Rattle.std.proofs.lemmas.Option.{slice_get_within}
use Rattle.std.specs.Cmp.Lexicographic.{bytes_decides}
use Rattle.std.specs.Prelude.{slice_get, nat_lt}
use Rattle.px_base.specs.declared.refusals.Span.{Span}
use Rattle.px_base.specs.declared.c_types.CType.TheVariants as c
use Rattle.px_lexer.specs.declared.spelling.Operator.{Operator}
use Rattle.px_lexer.specs.declared.spelling.Operator.TheVariants as sign
use Rattle.px_lexer.specs.declared.token_list.Tokens.{Tokens}
use Rattle.px_lexer.specs.declared.token_list.TokenKind.TheVariants as kind
use Rattle.px_tree.specs.declared.typings.Axis.{Axis}
use Rattle.px_tree.specs.declared.typings.Axis.TheVariants as axis
use Rattle.px_tree.specs.declared.typings.BaseType.{BaseType}
use Rattle.px_tree.specs.declared.typings.BaseType.TheVariants as base
use Rattle.px_tree.specs.declared.typings.«Type».{«Type» as Typing}
use Rattle.px_exprs.specs.declared.readings.Read.{Read}
use Rattle.px_exprs.specs.declared.readings.Unread.{Unread}
use Rattle.px_exprs.specs.declared.readings.Unread.TheVariants as unread
use Rattle.px_lexer.specs.Terminals.{Terminal, Stands, IsOperator, IsName, IsAt, terminals_of}
use Rattle.px_exprs.specs.Typings.{bases, AreNames, IsBase, IsAxis, AreAxes, HasAxes, HasConst, IsTyping}
use Rattle.px_exprs.specs.Codes.{code_at, sign_code}
use Rattle.px_exprs.specs.Readings.{Agree, HasWay, IsStuck, IsOver, IsUnread, At, EndsElement}
use Rattle.px_exprs.specs.Words.{IsOne, IsStuckAt, IsTooDeepAt}
use Rattle.px_exprs.specs.TypeParts.{Flat, ReadsFlat, ReadsInPlace, NoName, IsBaseOf, IsBehindConst}
use Rattle.px_exprs.specs.Inputs.{IsInput}
use Rattle.px_exprs.proofs.Codes.{code_here, name_code}
use Rattle.px_exprs.proofs.Agreement.{agree_same, agree_back, agree_through, agree_carried, agree_append, agree_take}
use Rattle.px_exprs.proofs.Keeping.{kind_carried, name_carried, names_carried, axis_carried, axes_carried, view_carried, const_carried}
use Rattle.px_exprs.proofs.TypingLaws.{same_words, base_tells, begins_base, const_begins_none, axis_unique, axes_unique}
use Rattle.px_exprs.proofs.TokenReading.{goes_on}
use Rattle.px_lexer.proofs.TokenAccess.{stands_within, name_kind}
use Rattle.px_exprs.proofs.Ways.{sign_token, word_token, digit_token, sign_behind, word_behind, stands_behind, way_by, reached_by, reached_through}

-- Order

same_or_below : (x y : ℕ) → x ≤ y → (x ≡ y) ⊎ (suc x ≤ y)
same_or_below zero zero le = inl refl
same_or_below zero (suc y) le = inr (omega arith)
same_or_below (suc x) zero le = absurd (omega (arith, le))
same_or_below (suc x) (suc y) le = elim (same_or_below x y (omega (arith, le))) [ inl e ↦ inl (ap suc e) | inr l ↦ inr (omega (arith, l)) ]

below_or_above : (x y : ℕ) → (x ≤ y) ⊎ (suc y ≤ x)
below_or_above zero y = inl (omega arith)
below_or_above (suc x) zero = inr (omega arith)
below_or_above (suc x) (suc y) = elim (below_or_above x y) [ inl l ↦ inl (omega (arith, l)) | inr l ↦ inr (omega (arith, l)) ]

-- Words

pub names_length : (ts : List Terminal) (i j : ℕ) (words : List (List ℕ)) → AreNames ts i words j → j ≡ i + length words
names_length ts i j [] a = omega (arith, a)
names_length ts i j (word ∷ words) a = omega (arith, names_length ts (suc i) j words a.1)

names_front : (ts : List Terminal) (i j : ℕ) (words : List (List ℕ)) → AreNames ts i words j → (n m : ℕ) → m ≡ i + n → n ≤ length words → AreNames ts i (take n words) m
names_front ts i j words a zero m e le = omega (arith, e)
names_front ts i j [] a (suc n) m e le = absurd (omega (arith, le))
names_front ts i j (word ∷ words) a (suc n) m e le = (a.0, names_front ts (suc i) j words a.1 n m (omega (arith, e)) (omega (arith, le)))

-- an identifier stands at each index of the words
names_at : (ts : List Terminal) (i j : ℕ) (words : List (List ℕ)) → AreNames ts i words j → (m : ℕ) → i ≤ m → m < j → (name : List ℕ) × IsName ts m name
names_at ts i j [] a m le lt = absurd (omega (arith, a, le, lt))
names_at ts i j (word ∷ words) a m le lt =
    elim (same_or_below i m le) [ inl e ↦ (word, subst (λ x. IsName ts x word) e a.0) | inr l ↦ names_at ts (suc i) j words a.1 m l lt ]

-- words from one index to where no identifier stands end there
names_end : (ts : List Terminal) (i j k : ℕ) (words others : List (List ℕ)) → AreNames ts i words j → AreNames ts i others k → NoName ts j → NoName ts k → j ≡ k
names_end ts i j k [] [] a b s t = sym a ∙ b
names_end ts i j k [] (name ∷ others) a b s t = absurd (s name (subst (λ x. IsName ts x name) a b.0))
names_end ts i j k (name ∷ words) [] a b s t = absurd (t name (subst (λ x. IsName ts x name) b a.0))
names_end ts i j k (name ∷ words) (other ∷ others) a b s t = names_end ts (suc i) j k words others a.1 b.1 s t

-- Bases

has_row : List (List (List ℕ) × BaseType) → List (List ℕ) → Bool
has_row [] words = false
has_row (row ∷ rows) words = same_words row.0 words || has_row rows words

same_told : (vs ws : List (List ℕ)) → same_words vs ws ≡ true → vs ≡ ws
same_told [] [] e = refl
same_told [] (w ∷ ws) e = absurd (false≢true e)
same_told (v ∷ vs) [] e = absurd (false≢true e)
same_told (v ∷ vs) (w ∷ ws) e =
    let parts = and_parts (bytes_eq v w) (same_words vs ws) e in
    ap₂ (λ x xs. x ∷ xs) ((bytes_decides v w).0 parts.0) (same_told vs ws parts.1)

or_told : (a b : Bool) → (a || b) ≡ true → (a ≡ true) ⊎ (b ≡ true)
or_told true b e = inl refl
or_told false b e = inr e

row_told : (rows : List (List (List ℕ) × BaseType)) (words : List (List ℕ)) → has_row rows words ≡ true → (b : BaseType) × Contains rows (words, b)
unfolding has_row
row_told [] words e = absurd (false≢true e)
row_told (row ∷ rows) words e =
    elim (or_told (same_words row.0 words) (has_row rows words) e) [
      | inl same ↦ (row.1, (0, omega arith, ap (λ ws. (ws, row.1)) (same_told row.0 words same)))
      | inr later ↦ let found = row_told rows words later in (found.0, (suc found.1.0, omega (arith, found.1.1), found.1.2))
    ]

-- each beginning of these words is a row, behind other words
fronts_are_rows : List (List ℕ) → List (List ℕ) → Bool
fronts_are_rows front [] = true
fronts_are_rows front (word ∷ words) = has_row bases (front ++ word ∷ []) && fronts_are_rows (front ++ word ∷ []) words

front_told : (front words : List (List ℕ)) (n : ℕ) → fronts_are_rows front words ≡ true → suc n ≤ length words → has_row bases (front ++ take (suc n) words) ≡ true
unfolding fronts_are_rows
front_told front [] n e le = absurd (omega (arith, le))
front_told front (word ∷ words) zero e le = (and_parts (has_row bases (front ++ word ∷ [])) (fronts_are_rows (front ++ word ∷ []) words) e).0
front_told front (word ∷ words) (suc n) e le =
    let parts = and_parts (has_row bases (front ++ word ∷ [])) (fronts_are_rows (front ++ word ∷ []) words) e in
    let later = front_told (front ++ word ∷ []) words n parts.1 (omega (arith, le)) in
    subst (λ xs. has_row bases xs ≡ true) (append_assoc front (word ∷ []) (take (suc n) words)) later

abbrev AreClosed : List (List (List ℕ) × BaseType) → Type 0
AreClosed [] = Unit {0}
AreClosed (row ∷ rows) = (fronts_are_rows [] row.0 ≡ true) × AreClosed rows

each_closed : (rows : List (List (List ℕ) × BaseType)) → AreClosed rows → All (λ (row : List (List ℕ) × BaseType). fronts_are_rows [] row.0 ≡ true) rows
each_closed [] r = All-nil (λ (row : List (List ℕ) × BaseType). fronts_are_rows [] row.0 ≡ true)
each_closed (row ∷ rows) r = All-cons (λ (row : List (List ℕ) × BaseType). fronts_are_rows [] row.0 ≡ true) row rows r.0 (each_closed rows r.1)

all_closed : AreClosed bases
unfolding bases fronts_are_rows has_row
all_closed = (
  refl,
  (
    refl,
    (
      refl,
      (
        refl,
        (
          refl,
          (
            refl,
            (
              refl,
              (
                refl,
                (
                  refl,
                  (
                    refl,
                    (
                      refl,
                      (
                        refl,
                        (refl, (refl, (refl, (refl, (refl, (refl, (refl, (refl, (refl, (refl, (refl, (refl, (refl, (refl, (refl, (refl, (refl, (refl, (refl, (refl, (refl, (refl, tt)))))))))))))))))))))),
                      ),
                    ),
                  ),
                ),
              ),
            ),
          ),
        ),
      ),
    ),
  ),
)

front_is_row : (words : List (List ℕ)) (b : BaseType) (n : ℕ) → Contains bases (words, b) → suc n ≤ length words → (other : BaseType) × Contains bases (take (suc n) words, other)
front_is_row words b n known le =
    row_told bases (take (suc n) words) (front_told [] words n (All-contains (λ (row : List (List ℕ) × BaseType). fronts_are_rows [] row.0 ≡ true) bases (words, b)
    (each_closed bases all_closed) known) le)

-- a base has a word
pub base_forward : (ts : List Terminal) (i j : ℕ) (b : BaseType) → IsBase ts i b j → i < j
base_forward ts i j b h = by_words h.words h.stand (base_tells h.words b h.known).1
  where
    by_words : (words : List (List ℕ)) → AreNames ts i words j → begins_base words ≡ true → i < j
    by_words [] a e = absurd (false≢true e)
    by_words (w ∷ ws) a e = omega (arith, names_length ts i j (w ∷ ws) a)

-- what a base begins with is a base
base_front : (ts : List Terminal) (i j m : ℕ) (b : BaseType) → IsBase ts i b j → i < m → m ≤ j → (other : BaseType) × IsBase ts i other m
base_front ts i j m b h lt le = by_count (m - i) (omega (arith, lt))
  where
    by_count : (n : ℕ) → m ≡ i + n → (other : BaseType) × IsBase ts i other m
    by_count zero e = absurd (omega (arith, e, lt))
    by_count (suc n) e =
        let enough : suc n ≤ length h.words = omega (arith, e, le, names_length ts i j h.words h.stand) in
        let row = front_is_row h.words b n h.known enough in
        (row.0, record { words = take (suc n) h.words; stand = names_front ts i j h.words h.stand (suc n) m e enough; known = row.1 })

base_carried : (ts us : List Terminal) (n i j : ℕ) (b : BaseType) → Agree n us ts → IsBase ts i b j → j ≤ n → IsBase us i b j
base_carried ts us n i j b agree h le = record { words = h.words; stand = (names_carried ts us n agree i j h.words h.stand).1 le; known = h.known }

pub base_end : (ts : List Terminal) (i j k : ℕ) (b other : BaseType) → IsBase ts i b j → IsBase ts i other k → NoName ts j → NoName ts k → j ≡ k
base_end ts i j k b other g h s t = names_end ts i j k g.words h.words g.stand h.stand s t

-- an identifier stands at each index of a base
base_names : (ts : List Terminal) (i j : ℕ) (b : BaseType) → IsBase ts i b j → (m : ℕ) → i ≤ m → m < j → (name : List ℕ) × IsName ts m name
base_names ts i j b h m le lt = names_at ts i j h.words h.stand m le lt

-- the tokens behind a base
pub base_within : (tokens : Tokens) (i j : ℕ) (b : BaseType) → IsBase (terminals_of tokens) i b j → j ≤ length tokens.list
base_within tokens i j b h =
    let forward = base_forward (terminals_of tokens) i j b h in
    let last = base_names (terminals_of tokens) i j b h (j - 1) (omega (arith, forward)) (omega (arith, forward)) in
    omega (arith, forward, stands_within tokens (j - 1) last.1.token last.1.stands)

pub base_goes_on : (tokens : Tokens) (i j : ℕ) (b : BaseType) → IsInput tokens → IsBase (terminals_of tokens) i b j → j < length tokens.list
base_goes_on tokens i j b input h =
    let forward = base_forward (terminals_of tokens) i j b h in
    let last = base_names (terminals_of tokens) i j b h (j - 1) (omega (arith, forward)) (omega (arith, forward)) in
    omega (arith, forward, input.ends (j - 1) (omega (arith, name_code last.1)))

-- no base goes on with the token at an index
base_none : (ts us : List Terminal) (from k : ℕ) → Agree (suc k) us ts → from ≤ k → ((b : BaseType) → IsBase ts from b (suc k) → ⊥) → ((m : ℕ) → from < m → m ≤ k → (name : List ℕ) × IsName ts m name)
    → (b : BaseType) (j : ℕ) → IsBase us from b j → NoName us j → ⊥
base_none ts us from k agree le none names b j h stop =
    elim (below_or_above j k) [
      | inl l ↦ (let found = names j (base_forward us from j b h) l in stop found.0 (name_carried (suc k) agree found.1 (omega (arith, l))))
      | inr l ↦ (let front = base_front us from j (suc k) b h (omega (arith, le)) l in none front.0 (base_carried us ts (suc k) from (suc k) front.0 (agree_back us ts agree) front.1 (omega arith)))
    ]

int_known : Contains bases (codes "int" ∷ [], base.C c.Int)
unfolding bases
int_known = (17, omega arith, refl)

-- no base at all from this index
pub no_base : (ts : List Terminal) (from : ℕ) → from < length ts → ((b : BaseType) → IsBase ts from b (from + 1) → ⊥) → IsStuck (Flat IsBase) NoName ts from 0 from
no_base ts from lt none =
    let more = word_token (codes "int") ∷ [] in
    record {
      forward = omega arith;
      within = lt;
      reached = reached_by (Flat IsBase) ts from from 0 more (base.C c.Int) 0 (omega (arith, lt)) (omega arith)
          (record { words = codes "int" ∷ []; stand = (word_behind ts from more 0 from (codes "int") (omega arith) (omega (arith, lt)) refl, omega arith); known = int_known }, refl);
      none = λ us agree tree depth j h stop. base_none ts us from from agree (omega arith) (λ b g. none b (subst (IsBase ts from b) (omega arith) g))
          (λ m above below. absurd (omega (arith, above, below))) tree j h.0 stop;
    }

-- behind a base an identifier with which none goes on
pub base_stuck : (ts : List Terminal) (from k : ℕ) (b : BaseType) → k < length ts → IsBase ts from b k → ((other : BaseType) → IsBase ts from other (k + 1) → ⊥) → (name : List ℕ) × IsName ts k name
    → IsStuck (Flat IsBase) NoName ts from 0 k
base_stuck ts from k b lt h none named =
    let forward = base_forward ts from k b h in
    record {
      forward = omega (arith, forward);
      within = lt;
      reached = reached_by (Flat IsBase) ts from k 0 [] b 0 (omega (arith, lt)) (omega arith)
          (subst (IsBase (take k ts ++ []) from b) (omega arith) (base_carried ts (take k ts ++ []) k from k b (agree_take k ts [] (omega (arith, lt))) h (omega arith)), refl);
      none = λ us agree tree depth j g stop. base_none ts us from k agree (omega (arith, forward)) (λ other o. none other (subst (IsBase ts from other) (omega arith) o))
          (λ m above below. elim (same_or_below m k below) [
            | inl e ↦ (named.0, subst (λ x. IsName ts x named.0) (sym e) named.1)
            | inr l ↦ base_names ts from k b h m
                (omega (arith, above)) l
          ]) tree j g.0 stop;
    }

-- Ends of axes

ends_carried : (ts us : List Terminal) (n i : ℕ) → Agree n us ts → i < n → EndsElement sign.CloseBracket ts i → EndsElement sign.CloseBracket us i
ends_carried ts us n i agree lt (inl h) = inl (kind_carried n agree h lt)
ends_carried ts us n i agree lt (inr h) = inr (kind_carried n agree h lt)

pub ends_within : (ts : List Terminal) (i : ℕ) → EndsElement sign.CloseBracket ts i → i < length ts
ends_within ts i (inl h) = slice_get_within ts i h.token h.stands
ends_within ts i (inr h) = slice_get_within ts i h.token h.stands

ends_code : (ts : List Terminal) (i : ℕ) → EndsElement sign.CloseBracket ts i → (27 ≤ code_at ts i) × (code_at ts i ≤ 29)
ends_code ts i (inl h) = (omega (arith, code_here h), omega (arith, code_here h))
ends_code ts i (inr h) = (omega (arith, code_here h), omega (arith, code_here h))

no_colon : (ts : List Terminal) (i j : ℕ) → i ≡ j → IsOperator ts i sign.Colon → EndsElement sign.CloseBracket ts j → ⊥
no_colon ts i j e h g = omega (arith, ap (code_at ts) e, code_here h, ends_code ts j g)

-- Axes

axis_begins : (ts : List Terminal) (i j : ℕ) (a : Axis) → IsAxis ts i a j → IsOperator ts i sign.Colon
axis_begins ts i j a (IsAxis.strided colon m e) = colon
axis_begins ts i j a (IsAxis.contiguous one colon second stands number spelled m e) = colon

pub no_axis : (ts : List Terminal) (from : ℕ) → from < length ts → (IsOperator ts from sign.Colon → ⊥) → IsStuck (Flat IsAxis) (EndsElement sign.CloseBracket) ts from 0 from
no_axis ts from lt none =
    let more = sign_token sign.Colon ∷ [] in
    record {
      forward = omega arith;
      within = lt;
      reached = reached_by (Flat IsAxis) ts from from 0 more axis.Strided 0 (omega (arith, lt)) (omega arith)
          (IsAxis.strided (sign_behind ts from more 0 from sign.Colon (omega arith) (omega (arith, lt)) refl) refl (omega arith), refl);
      none = λ us agree tree depth j h stop. none (kind_carried (suc from) (agree_back us ts agree) (axis_begins us from j tree h.0) (omega arith));
    }

pub strided_stuck : (ts : List Terminal) (from : ℕ) → from + 1 < length ts → IsOperator ts from sign.Colon → (IsOperator ts (from + 1) sign.Colon → ⊥)
    → (EndsElement sign.CloseBracket ts (from + 1) → ⊥)
    → IsStuck (Flat IsAxis) (EndsElement sign.CloseBracket) ts from 0 (from + 1)
strided_stuck ts from lt colon single none = record {
  forward = omega arith;
  within = lt;
  reached = reached_by (Flat IsAxis) ts from (from + 1) 0 [] axis.Strided 0 (omega (arith, lt)) (omega arith)
      (IsAxis.strided (kind_carried (from + 1) (agree_take (from + 1) ts [] (omega (arith, lt))) colon (omega arith)) refl (omega arith), refl);
  none = λ us agree tree depth j h stop. fails us agree tree j h.0 stop;
}
  where
    fails : (us : List Terminal) → Agree (suc (from + 1)) us ts → (tree : Axis) (j : ℕ) → IsAxis us from tree j → EndsElement sign.CloseBracket us j → ⊥
    fails us agree tree j (IsAxis.strided c m e) stop = none (ends_carried us ts (suc (from + 1)) (from + 1) (agree_back us ts agree) (omega arith)
        (subst (EndsElement sign.CloseBracket us) (omega (arith, e)) stop))
    fails us agree tree j (IsAxis.contiguous one c second stands number spelled m e) stop = single (kind_carried (suc (from + 1)) (agree_back us ts agree) second (omega arith))

pub not_one : (ts : List Terminal) (from : ℕ) → from + 2 < length ts → IsOperator ts from sign.Colon → IsOperator ts (from + 1) sign.Colon → (IsOne ts (from + 2) → ⊥)
    → IsStuck (Flat IsAxis) (EndsElement sign.CloseBracket) ts from 0 (from + 2)
not_one ts from lt colon second none =
    let agree = agree_take (from + 2) ts (digit_token ∷ []) (omega (arith, lt)) in
    record {
      forward = omega arith;
      within = lt;
      reached = reached_by (Flat IsAxis) ts from (from + 2) 0 (digit_token ∷ []) axis.Contiguous 0 (omega (arith, lt)) (omega arith) (
        IsAxis.contiguous digit_token (kind_carried (from + 2) agree colon (omega arith)) (kind_carried (from + 2) agree second (omega arith))
            (stands_behind ts (from + 2) (digit_token ∷ []) 0 (from + 2) (omega arith) (omega (arith, lt))) refl refl refl (omega arith),
        refl,
      );
      none = λ us agree tree depth j h stop. fails us agree tree j h.0 stop;
    }
  where
    fails : (us : List Terminal) → Agree (suc (from + 2)) us ts → (tree : Axis) (j : ℕ) → IsAxis us from tree j → EndsElement sign.CloseBracket us j → ⊥
    fails us agree tree j (IsAxis.strided c m e) stop = no_colon us (from + 1) j (omega (arith, e)) (kind_carried (suc (from + 2)) agree second (omega arith)) stop
    fails us agree tree j (IsAxis.contiguous one c d stands number spelled m e) stop = none (one, agree_back us ts agree (from + 2) (omega arith) ∙ stands, number, spelled)

pub contiguous : (ts : List Terminal) (from : ℕ) → IsOperator ts from sign.Colon → IsOperator ts (from + 1) sign.Colon → IsOne ts (from + 2) → IsAxis ts from axis.Contiguous (from + 3)
contiguous ts from colon second one = IsAxis.contiguous one.0 colon second one.1 one.2 one.3 refl (omega arith)

pub contiguous_stuck : (ts : List Terminal) (from : ℕ) → from + 3 < length ts → IsOperator ts from sign.Colon → IsOperator ts (from + 1) sign.Colon → IsOne ts (from + 2)
    → (EndsElement sign.CloseBracket ts (from + 3) → ⊥)
    → IsStuck (Flat IsAxis) (EndsElement sign.CloseBracket) ts from 0 (from + 3)
contiguous_stuck ts from lt colon second one none =
    let agree = agree_take (from + 3) ts [] (omega (arith, lt)) in
    record {
      forward = omega arith;
      within = lt;
      reached = reached_by (Flat IsAxis) ts from (from + 3) 0 [] axis.Contiguous 0 (omega (arith, lt)) (omega arith)
          (subst (IsAxis (take (from + 3) ts ++ []) from axis.Contiguous) (omega arith) ((axis_carried (from + 3) agree (contiguous ts from colon second one)).1 (omega arith)), refl);
      none = λ us agree tree depth j h stop. fails us agree tree j h.0 stop;
    }
  where
    fails : (us : List Terminal) → Agree (suc (from + 3)) us ts → (tree : Axis) (j : ℕ) → IsAxis us from tree j → EndsElement sign.CloseBracket us j → ⊥
    fails us agree tree j (IsAxis.strided c m e) stop = no_colon us (from + 1) j (omega (arith, e)) (kind_carried (suc (from + 3)) agree second (omega arith)) stop
    fails us agree tree j (IsAxis.contiguous x c d stands number spelled m e) stop = none (ends_carried us ts (suc (from + 3)) (from + 3) (agree_back us ts agree) (omega arith)
        (subst (EndsElement sign.CloseBracket us) (omega (arith, e)) stop))

-- an axis that was read to its end, or is stuck there
pub ended_reads : (ts : List Terminal) (from to : ℕ) (tree : Axis) (r : Result (Read Axis) Unread) → IsAxis ts from tree to
    → ((EndsElement sign.CloseBracket ts to → ⊥) → IsStuck (Flat IsAxis) (EndsElement sign.CloseBracket) ts from 0 to)
    → MatchResult r (λ read. (read.tree ≡ tree) × (read.depth ≡ 0) × (read.to ≡ to) × EndsElement sign.CloseBracket ts to) (λ u. IsStuckAt to u × (EndsElement sign.CloseBracket ts to → ⊥))
    → ReadsInPlace IsAxis (EndsElement sign.CloseBracket) ts from r
ended_reads ts from to tree (Ok read) h stuck m = record {
  derived = (subst (λ x. IsAxis ts from x read.to) (sym m.0) (subst (IsAxis ts from tree) (sym m.2) h), m.1);
  shallow = omega (arith, m.1);
  stops = subst (EndsElement sign.CloseBracket ts) (sym m.2) m.3;
  within = subst (λ x. x < length ts) (sym m.2) (ends_within ts to m.3);
}
ended_reads ts from to tree (Err (unread.Stuck k)) h stuck m = subst (IsStuck (Flat IsAxis) (EndsElement sign.CloseBracket) ts from 0) (sym m.0) (stuck m.1)
ended_reads ts from to tree (Err (unread.TooDeep k)) h stuck m = absurd m.0
ended_reads ts from to tree (Err unread.NoMemory) h stuck m = absurd m.0

-- Axes with commas between them

pub axes_then : {ts : List Terminal} (i m j : ℕ) (axes others : List Axis) → AreAxes ts i axes m → IsOperator ts m sign.Comma → AreAxes ts (suc m) others j → AreAxes ts i (axes ++ others) j
axes_then i m j _ others (AreAxes.last_axis a) comma rest = AreAxes.more_axes a comma rest
axes_then i m j _ others (AreAxes.more_axes {k = l} {others = more} a second later) comma rest = AreAxes.more_axes a second (axes_then (suc l) m j more others later comma rest)

axes_split : {ts : List Terminal} (i m : ℕ) (axes : List Axis) → AreAxes ts i axes m → IsOperator ts m sign.Comma → (j : ℕ) (all : List Axis) → AreAxes ts i all j → IsOperator ts j sign.CloseBracket
    → (others : List Axis) × AreAxes ts (suc m) others j
axes_split {ts} i m _ (AreAxes.last_axis a) comma j _ (AreAxes.last_axis b) close =
    let same = axis_unique i m j _ _ a b (omega (arith, code_here comma)) (omega (arith, code_here close)) in
    absurd (omega (arith, ap (code_at ts) same.1, code_here comma, code_here close))
axes_split {ts} i m _ (AreAxes.last_axis a) comma j _ (AreAxes.more_axes {k = l} {others = rest} b second others) close =
    let same = axis_unique i m l _ _ a b (omega (arith, code_here comma)) (omega (arith, code_here second)) in
    (rest, subst (λ x. AreAxes ts (suc x) rest j) (sym same.1) others)
axes_split {ts} i m _ (AreAxes.more_axes {k = l} a second more) comma j _ (AreAxes.last_axis b) close =
    let same = axis_unique i l j _ _ a b (omega (arith, code_here second)) (omega (arith, code_here close)) in
    absurd (omega (arith, ap (code_at ts) same.1, code_here second, code_here close))
axes_split {ts} i m _ (AreAxes.more_axes {k = l} {others = xs} a second more) comma j _ (AreAxes.more_axes {k = n} {others = rest} b third others) close =
    let same = axis_unique i l n _ _ a b (omega (arith, code_here second)) (omega (arith, code_here third)) in
    axes_split (suc l) m xs more comma j rest (subst (λ x. AreAxes ts (suc x) rest j) (sym same.1) others) close

-- no axis that ends as it must, so no axes
axes_fail : {us : List Terminal} (i j : ℕ) (axes : List Axis) → ((a : Axis) (k : ℕ) → IsAxis us i a k → EndsElement sign.CloseBracket us k → ⊥) → AreAxes us i axes j
    → IsOperator us j sign.CloseBracket → ⊥
axes_fail i j _ none (AreAxes.last_axis {a = a} h) close = none a j h (inr close)
axes_fail i j _ none (AreAxes.more_axes {k = k} {a = a} h comma others) close = none a k h (inl comma)

pub first_stuck : (ts : List Terminal) (from k : ℕ) → IsStuck (Flat IsAxis) (EndsElement sign.CloseBracket) ts from 0 k → IsStuck (Flat AreAxes) (At sign.CloseBracket) ts from 0 k
first_stuck ts from k h = record {
  forward = h.forward;
  within = h.within;
  reached = reached_through (Flat IsAxis) (Flat AreAxes) ts from from k 0 0 (omega arith) h.forward
      (λ n at le w. (record { tokens = w.tokens; same = w.same; long = w.long; tree = w.tree ∷ []; depth = w.depth; derived = (AreAxes.last_axis w.derived.0, w.derived.1) }, λ d. d)) h.reached;
  none = λ us agree tree depth j g stop. axes_fail from j tree (λ a l x e. h.none us agree a 0 l (x, refl) e) g.0 stop;
}

pub next_stuck : (ts : List Terminal) (from m k : ℕ) (axes : List Axis) → AreAxes ts from axes m → IsOperator ts m sign.Comma → IsStuck (Flat IsAxis) (EndsElement sign.CloseBracket) ts (suc m) 0 k
    → IsStuck (Flat AreAxes) (At sign.CloseBracket) ts from 0 k
next_stuck ts from m k axes before comma h =
    let forward = (axes_carried m (agree_same ts) before).0 in
    record {
      forward = omega (arith, forward, h.forward);
      within = h.within;
      reached = reached_through (Flat IsAxis) (Flat AreAxes) ts (suc m) from k 0 0 (omega (arith, forward)) h.forward
          (λ n at le w. (
            record {
              tokens = w.tokens;
              same = w.same;
              long = w.long;
              tree = axes ++ w.tree ∷ [];
              depth = w.depth;
              derived = (
                axes_then from m (length w.tokens) axes (w.tree ∷ []) ((axes_carried n w.same before).1 (omega (arith, at))) (kind_carried n w.same comma (omega (arith, at)))
                    (AreAxes.last_axis w.derived.0),
                w.derived.1,
              );
            },
            λ d. d,
          )) h.reached;
      none = λ us agree tree depth j g stop.
          let there = (axes_carried (suc k) agree before).1 (omega (arith, h.forward)) in
          let rest = axes_split from m axes there (kind_carried (suc k) agree comma (omega (arith, h.forward))) j tree g.0 stop in
          axes_fail (suc m) j rest.0 (λ a l x e. h.none us agree a 0 l (x, refl) e) rest.1 stop;
    }

-- Views

-- axes before one closing bracket end where those before another do
axes_end : {ts : List Terminal} (i j k : ℕ) (axes others : List Axis) → AreAxes ts i axes j → AreAxes ts i others k → IsOperator ts j sign.CloseBracket → IsOperator ts k sign.CloseBracket → j ≡ k
axes_end {ts} i j k axes others g h s t = (axes_unique i j axes g k others h (code_here s) (code_here t)).1

-- an operator from 11 on is no bracket that opens axes
no_bracket : (ts : List Terminal) (i j : ℕ) (closing : Operator) → 11 ≤ sign_code closing → i ≡ j → IsOperator ts i sign.OpenBracket → IsOperator ts j closing → ⊥
no_bracket ts i j closing low e h g = omega (arith, ap (code_at ts) e, code_here h, code_here g)

pub view_stuck : (ts : List Terminal) (from room : ℕ) (closing : Operator) → from < length ts → (IsOperator ts from closing → ⊥) → (IsOperator ts from sign.OpenBracket → ⊥)
    → IsStuck HasAxes (At closing) ts from room from
view_stuck ts from room closing lt unclosed unopened = record {
  forward = omega arith;
  within = lt;
  reached = reached_by HasAxes ts from from room [] [] 0 (omega (arith, lt)) (omega arith) (HasAxes.no_view refl refl (omega arith));
  none = λ us agree tree depth j h stop. fails us agree tree depth j h stop;
}
  where
    fails : (us : List Terminal) → Agree (suc from) us ts → (tree : List Axis) (depth j : ℕ) → HasAxes us from tree depth j → IsOperator us j closing → ⊥
    fails us agree tree depth j (HasAxes.no_view m p e) stop = unclosed (kind_carried (suc from) (agree_back us ts agree) (subst (λ x. IsOperator us x closing) e stop) (omega arith))
    fails us agree tree depth j (HasAxes.view k opened a closed p e) stop = unopened (kind_carried (suc from) (agree_back us ts agree) opened (omega arith))

-- the shortest axes behind their bracket
shortest : (ts : List Terminal) (from : ℕ) → suc from ≤ length ts → IsOperator ts from sign.OpenBracket
    → HasAxes (take (suc from) ts ++ (sign_token sign.Colon ∷ sign_token sign.CloseBracket ∷ [])) from (axis.Strided ∷ []) 1 (suc from + 2)
shortest ts from le opened =
    let more = sign_token sign.Colon ∷ sign_token sign.CloseBracket ∷ [] in
    HasAxes.view (suc (suc from)) (kind_carried (suc from) (agree_take (suc from) ts more le) opened (omega arith))
    (AreAxes.last_axis (IsAxis.strided (sign_behind ts (suc from) more 0 (suc from) sign.Colon (omega arith) le refl) refl refl))
    (sign_behind ts (suc from) more 1 (suc (suc from)) sign.CloseBracket (omega arith) le refl) refl (omega arith)

pub view_over : (ts : List Terminal) (from room : ℕ) (closing : Operator) → from < length ts → 11 ≤ sign_code closing → IsOperator ts from sign.OpenBracket → room ≤ 0
    → IsOver HasAxes (At closing) ts from room from
view_over ts from room closing lt low opened full = record {
  forward = omega arith;
  within = lt;
  counted = λ sizeof. omega (arith, code_here sizeof, code_here opened);
  reached = reached_by HasAxes ts from from room [] [] 0 (omega (arith, lt)) (omega arith) (HasAxes.no_view refl refl (omega arith));
  way = way_by HasAxes ts from (suc from) (sign_token sign.Colon ∷ sign_token sign.CloseBracket ∷ []) (axis.Strided ∷ []) 1 (omega (arith, lt)) (shortest ts from (omega (arith, lt)) opened);
  deep = λ us agree tree depth j h stop. deep us agree tree depth j h stop;
}
  where
    deep : (us : List Terminal) → Agree (suc from) us ts → (tree : List Axis) (depth j : ℕ) → HasAxes us from tree depth j → IsOperator us j closing → room < depth
    deep us agree tree depth j (HasAxes.no_view m p e) stop = absurd (no_bracket us from j closing low (sym e) (kind_carried (suc from) agree opened (omega arith)) stop)
    deep us agree tree depth j (HasAxes.view k opens a closed p e) stop = omega (arith, full, p)

-- tokens that go on to axes go on to a view
view_through : (ts : List Terminal) (from n room : ℕ) → suc from ≤ n → 0 < room → IsOperator ts from sign.OpenBracket → (w : HasWay (Flat AreAxes) ts (suc from) n)
    → (v : HasWay HasAxes ts from n) × (w.depth ≤ 0 → v.depth ≤ room)
view_through ts from n room le some opened w =
    let us = w.tokens ++ sign_token sign.CloseBracket ∷ [] in
    let longer = agree_append w.tokens (sign_token sign.CloseBracket ∷ []) in
    let same = agree_through us w.tokens ts (agree_carried us w.tokens longer w.long) w.same in
    let long = length-append w.tokens (sign_token sign.CloseBracket ∷ []) in (
      record {
        tokens = us;
        same = same;
        long = omega (arith, w.long, long);
        tree = w.tree;
        depth = 1;
        derived = HasAxes.view (length w.tokens) (kind_carried n same opened (omega (arith, le))) ((axes_carried (length w.tokens) longer w.derived.0).1 (omega arith))
            (record { token = sign_token sign.CloseBracket; stands = behind_all w.tokens (sign_token sign.CloseBracket); kind = refl }) refl (omega (arith, long));
      },
      λ d. omega (arith, some),
    )
  where
    behind_all : (vs : List Terminal) (t : Terminal) → slice_get (vs ++ t ∷ []) (length vs) ≡ Some t
    behind_all [] t = refl
    behind_all (v ∷ vs) t = behind_all vs t

pub view_axes_stuck : (ts : List Terminal) (from room k : ℕ) (closing : Operator) → 11 ≤ sign_code closing → 0 < room → IsOperator ts from sign.OpenBracket
    → IsStuck (Flat AreAxes) (At sign.CloseBracket) ts (suc from) 0 k
    → IsStuck HasAxes (At closing) ts from room k
view_axes_stuck ts from room k closing low some opened h = record {
  forward = omega (arith, h.forward);
  within = h.within;
  reached = reached_through (Flat AreAxes) HasAxes ts (suc from) from k 0 room (omega arith) h.forward (λ n at le w. view_through ts from n room at some opened w) h.reached;
  none = λ us agree tree depth j g stop. fails us agree tree depth j g stop;
}
  where
    fails : (us : List Terminal) → Agree (suc k) us ts → (tree : List Axis) (depth j : ℕ) → HasAxes us from tree depth j → IsOperator us j closing → ⊥
    fails us agree tree depth j (HasAxes.no_view m p e) stop = no_bracket us from j closing low (sym e) (kind_carried (suc k) agree opened (omega (arith, h.forward))) stop
    fails us agree tree depth j (HasAxes.view l opens a closed p e) stop = h.none us agree tree 0 l (a, refl) closed

pub view_end_stuck : (ts : List Terminal) (from room l : ℕ) (axes : List Axis) (closing : Operator) → suc l < length ts → 11 ≤ sign_code closing → 0 < room
    → IsOperator ts from sign.OpenBracket → AreAxes ts (suc from) axes l → IsOperator ts l sign.CloseBracket
    → (IsOperator ts (suc l) closing → ⊥) → IsStuck HasAxes (At closing) ts from room (suc l)
view_end_stuck ts from room l axes closing lt low some opened a closed unclosed =
    let forward = (axes_carried l (agree_same ts) a).0 in
    let le : suc l ≤ length ts = omega (arith, lt) in
    record {
      forward = omega (arith, forward);
      within = lt;
      reached = reached_by HasAxes ts from (suc l) room [] axes 1 le (omega (arith, some))
          (subst (HasAxes (take (suc l) ts ++ []) from axes 1) (omega arith) ((view_carried (suc l) (agree_take (suc l) ts [] le) from axes 1 (suc l)
          (HasAxes.view l opened a closed refl refl)).1 (omega arith)));
      none = λ us agree tree depth j g stop. fails us agree forward tree depth j g stop;
    }
  where
    fails : (us : List Terminal) → Agree (suc (suc l)) us ts → suc from < l → (tree : List Axis) (depth j : ℕ) → HasAxes us from tree depth j → IsOperator us j closing → ⊥
    fails us agree forward tree depth j (HasAxes.no_view m p e) stop = no_bracket us from j closing low (sym e) (kind_carried (suc (suc l)) agree opened (omega (arith, forward))) stop
    fails us agree forward tree depth j (HasAxes.view k opens b closes p e) stop =
        let there = (axes_carried (suc (suc l)) agree a).1 (omega arith) in
        let same = axes_end (suc from) l k axes tree there b (kind_carried (suc (suc l)) agree closed (omega arith)) closes in
        unclosed (kind_carried (suc (suc l)) (agree_back us ts agree) (subst (λ x. IsOperator us x closing) (omega (arith, e, same)) stop) (omega arith))

-- Types

place_there : (ts : List Terminal) (i j k : ℕ) (is_const : Bool) (b : BaseType) → HasConst ts i is_const j → IsBase ts j b k → (at : Span) × IsAt ts i at
place_there ts i j k is_const b (HasConst.plain m e) h =
    let named = base_names ts j k b h j (omega arith) (base_forward ts j k b h) in
    (named.1.token.at, record { token = named.1.token; stands = subst (λ x. Stands ts x named.1.token) e named.1.stands; placed = refl })
place_there ts i j k is_const b (HasConst.const w m e) h = (w.token.at, record { token = w.token; stands = w.stands; placed = refl })

typing_by : (ts : List Terminal) (i j k l depth : ℕ) (is_const : Bool) (b : BaseType) (axes : List Axis) → HasConst ts i is_const j → IsBase ts j b k → HasAxes ts k axes depth l
    → (t : Typing) × IsTyping ts i t depth l
typing_by ts i j k l depth is_const b axes taken base seen =
    let placed = place_there ts i j k is_const b taken base in
    (record { number = i; at = placed.0; is_const = is_const; base = b; axes = axes }, record { number = refl; placed = placed.1; base_from = j; axes_from = k; const = taken; base = base; axes = seen })

pub const_of : (ts : List Terminal) (i j : ℕ) → IsBehindConst ts i j → HasConst ts i (nat_lt i j) j
const_of ts i j (inl h) = HasConst.const h.0 (lt-ltb i j (omega (arith, h.1))) h.1
const_of ts i j (inr h) = HasConst.plain (le-ltb i j (omega (arith, h.1))) h.1

pub const_forward : (ts : List Terminal) (i j : ℕ) → IsBehindConst ts i j → i ≤ j
const_forward ts i j (inl h) = omega (arith, h.1)
const_forward ts i j (inr h) = omega (arith, h.1)

-- where `const` stands it belongs to the type
const_end : (ts us : List Terminal) (n i j k l : ℕ) (is_const : Bool) (b : BaseType) → Agree n us ts → i < n → IsBehindConst ts i j → HasConst us i is_const k → IsBase us k b l → k ≡ j
const_end ts us n i j k l is_const b agree lt (inl h) (HasConst.plain m e) base = absurd (const_begins_none l b (name_carried n agree h.0 lt) (subst (λ x. IsBase us x b l) e base))
const_end ts us n i j k l is_const b agree lt (inl h) (HasConst.const w m e) base = e ∙ sym h.1
const_end ts us n i j k l is_const b agree lt (inr h) (HasConst.plain m e) base = e ∙ sym h.1
const_end ts us n i j k l is_const b agree lt (inr h) (HasConst.const w m e) base = absurd (h.0 (name_carried n (agree_back us ts agree) w lt))

view_stops : (ts : List Terminal) (i depth j : ℕ) (axes : List Axis) (closing : Operator) → 11 ≤ sign_code closing → HasAxes ts i axes depth j → IsOperator ts j closing → NoName ts i
view_stops ts i depth j axes closing low (HasAxes.no_view m p e) stop name h = omega (arith, ap (code_at ts) e, code_here stop, name_code h)
view_stops ts i depth j axes closing low (HasAxes.view k opened a closed p e) stop name h = omega (arith, code_here opened, name_code h)

pub typing_base_stuck : (ts : List Terminal) (from i room k : ℕ) (closing : Operator) → 11 ≤ sign_code closing → IsBehindConst ts from i → IsStuck (Flat IsBase) NoName ts i 0 k
    → IsStuck IsTyping (At closing) ts from room k
typing_base_stuck ts from i room k closing low taken h =
    let forward = const_forward ts from i taken in
    record {
      forward = omega (arith, forward, h.forward);
      within = h.within;
      reached = reached_through (Flat IsBase) IsTyping ts i from k 0 room forward h.forward
          (λ n at le w.
          let made = typing_by w.tokens from i (length w.tokens) (length w.tokens) 0 (nat_lt from i) w.tree []
          ((const_carried n w.same from (nat_lt from i) i (const_of ts from i taken)).1 at) w.derived.0 (HasAxes.no_view refl refl refl) in
          (record { tokens = w.tokens; same = w.same; long = w.long; tree = made.0; depth = 0; derived = made.1 }, λ d. omega arith)) h.reached;
      none = λ us agree t depth j g stop.
          let same = const_end ts us (suc k) from i g.base_from g.axes_from t.is_const t.base agree (omega (arith, forward, h.forward)) taken g.const g.base in
          h.none us agree t.base 0 g.axes_from (subst (λ x. IsBase us x t.base g.axes_from) same g.base, refl) (view_stops us g.axes_from depth j t.axes closing low g.axes stop);
    }

-- a view behind the base of a type in other tokens begins where it does here
axes_there : (ts us : List Terminal) (n from i l depth j : ℕ) (b : BaseType) (t : Typing) (closing : Operator) → 11 ≤ sign_code closing → Agree n us ts → l < n → IsBehindConst ts from i
    → IsBase ts i b l → NoName ts l
    → IsTyping us from t depth j → IsOperator us j closing → HasAxes us l t.axes depth j
axes_there ts us n from i l depth j b t closing low agree lt taken base stops g stop =
    let forward = base_forward ts i l b base in
    let same = const_end ts us n from i g.base_from g.axes_from t.is_const t.base agree (omega (arith, const_forward ts from i taken, forward, lt)) taken g.const g.base in
    let there = base_carried ts us n i l b agree base (omega (arith, lt)) in
    let other : IsBase us i t.base g.axes_from = subst (λ x. IsBase us x t.base g.axes_from) same g.base in
    let end = base_end us i l g.axes_from b t.base there other (λ name h. stops name (name_carried n (agree_back us ts agree) h lt))
    (view_stops us g.axes_from depth j t.axes closing low g.axes stop) in
    subst (λ x. HasAxes us x t.axes depth j) (sym end) g.axes

-- tokens that go on to a view go on to a type
typing_through : (ts : List Terminal) (from i l n room : ℕ) (b : BaseType) → l ≤ n → IsBehindConst ts from i → IsBase ts i b l → (w : HasWay HasAxes ts l n)
    → (v : HasWay IsTyping ts from n) × (w.depth ≤ room → v.depth ≤ room)
typing_through ts from i l n room b le taken base w =
    let forward = base_forward ts i l b base in
    let made = typing_by w.tokens from i l (length w.tokens) w.depth (nat_lt from i) b w.tree
    ((const_carried n w.same from (nat_lt from i) i (const_of ts from i taken)).1 (omega (arith, forward, le))) (base_carried ts w.tokens n i l b w.same base le) w.derived in
    (record { tokens = w.tokens; same = w.same; long = w.long; tree = made.0; depth = w.depth; derived = made.1 }, λ d. d)

pub typing_unread : (ts : List Terminal) (from i l room : ℕ) (b : BaseType) (closing : Operator) (u : Unread) → 11 ≤ sign_code closing → IsBehindConst ts from i → IsBase ts i b l
    → NoName ts l → IsUnread HasAxes (At closing) ts l room u
    → IsUnread IsTyping (At closing) ts from room u
typing_unread ts from i l room b closing (unread.Stuck k) low taken base stops h =
    let forward : from ≤ l = omega (arith, const_forward ts from i taken, base_forward ts i l b base) in
    record {
      forward = omega (arith, forward, h.forward);
      within = h.within;
      reached = reached_through HasAxes IsTyping ts l from k room room forward h.forward (λ n at le w. typing_through ts from i l n room b at taken base w) h.reached;
      none = λ us agree t depth j g stop. h.none us agree t.axes depth j (axes_there ts us (suc k) from i l depth j b t closing low agree (omega (arith, h.forward)) taken base stops g stop) stop;
    }
typing_unread ts from i l room b closing (unread.TooDeep k) low taken base stops h =
    let forward : from ≤ l = omega (arith, const_forward ts from i taken, base_forward ts i l b base) in
    record {
      forward = omega (arith, forward, h.forward);
      within = h.within;
      counted = h.counted;
      reached = reached_through HasAxes IsTyping ts l from k room room forward h.forward (λ n at le w. typing_through ts from i l n room b at taken base w) h.reached;
      way = (typing_through ts from i l (suc k) room b (omega (arith, h.forward)) taken base h.way).0;
      deep = λ us agree t depth j g stop. h.deep us agree t.axes depth j (axes_there ts us (suc k) from i l depth j b t closing low agree (omega (arith, h.forward)) taken base stops g stop) stop;
    }
typing_unread ts from i l room b closing unread.NoMemory low taken base stops h = tt

-- Tables

-- a row that doesn't stand here is no base here
pub row_left : (row : List (List ℕ) × BaseType) (rows : List (List (List ℕ) × BaseType)) (ts : List Terminal) (i j : ℕ) (b : BaseType) → (AreNames ts i row.0 j → ⊥)
    → IsBaseOf (row ∷ rows) ts i b j → IsBaseOf rows ts i b j
row_left row rows ts i j b none (words, stand, (zero, lt, e)) = absurd (none (subst (λ x. AreNames ts i x j) (ap (λ (r : List (List ℕ) × BaseType). r.0) (sym e)) stand))
row_left row rows ts i j b none (words, stand, (suc k, lt, e)) = (words, stand, (k, omega (arith, lt), e))

pub row_more : (row : List (List ℕ) × BaseType) (rows : List (List (List ℕ) × BaseType)) (ts : List Terminal) (i j : ℕ) (b : BaseType) → IsBaseOf rows ts i b j → IsBaseOf (row ∷ rows) ts i b j
row_more row rows ts i j b h = (h.0, h.1, (suc h.2.0, omega (arith, h.2.1), h.2.2))

pub row_here : (row : List (List ℕ) × BaseType) (rows : List (List (List ℕ) × BaseType)) (ts : List Terminal) (i j : ℕ) → AreNames ts i row.0 j → IsBaseOf (row ∷ rows) ts i row.1 j
row_here row rows ts i j stand = (row.0, stand, (0, omega arith, refl))

pub base_told : (r : Option BaseType) (ts : List Terminal) (i j : ℕ) → MatchOption r ((b : BaseType) → IsBaseOf bases ts i b j → ⊥) (λ b. IsBaseOf bases ts i b j)
    → MatchOption r ((b : BaseType) → IsBase ts i b j → ⊥) (λ b. IsBase ts i b j)
base_told None ts i j none = λ b h. none b (h.words, h.stand, h.known)
base_told (Some b) ts i j h = record { words = h.0; stand = h.1; known = h.2 }

pub base_absent : (r : Option BaseType) (ts : List Terminal) (i j : ℕ) → r ≡ None → MatchOption r ((b : BaseType) → IsBase ts i b j → ⊥) (λ b. IsBase ts i b j) → (b : BaseType) → IsBase ts i b j → ⊥
base_absent r ts i j e h = subst (λ x. MatchOption x ((b : BaseType) → IsBase ts i b j → ⊥) (λ b. IsBase ts i b j)) e h

-- What stopped a part stops the whole

pub first_unread : (ts : List Terminal) (from : ℕ) (u : Unread) → ReadsInPlace IsAxis (EndsElement sign.CloseBracket) ts from (Err u) → ReadsFlat AreAxes (At sign.CloseBracket) ts from (Err u)
first_unread ts from (unread.Stuck k) h = first_stuck ts from k h
first_unread ts from (unread.TooDeep k) h = h
first_unread ts from unread.NoMemory h = absurd h

pub next_unread : (ts : List Terminal) (from m i : ℕ) (axes : List Axis) (u : Unread) → i ≡ suc m → AreAxes ts from axes m → IsOperator ts m sign.Comma
    → ReadsInPlace IsAxis (EndsElement sign.CloseBracket) ts i (Err u)
    → ReadsFlat AreAxes (At sign.CloseBracket) ts from (Err u)
next_unread ts from m i axes (unread.Stuck k) e before comma h = next_stuck ts from m k axes before comma (subst (λ x. IsStuck (Flat IsAxis) (EndsElement sign.CloseBracket) ts x 0 k) e h)
next_unread ts from m i axes (unread.TooDeep k) e before comma h = h
next_unread ts from m i axes unread.NoMemory e before comma h = absurd h

pub room_unread : (ts : List Terminal) (from room : ℕ) (closing : Operator) (u : Unread) → from < length ts → 11 ≤ sign_code closing → IsOperator ts from sign.OpenBracket
    → IsTooDeepAt from u → room ≤ 0 → IsUnread HasAxes (At closing) ts from room u
room_unread ts from room closing (unread.Stuck k) lt low opened h full = absurd h
room_unread ts from room closing (unread.TooDeep k) lt low opened h full = subst (IsOver HasAxes (At closing) ts from room) (sym h) (view_over ts from room closing lt low opened full)
room_unread ts from room closing unread.NoMemory lt low opened h full = absurd h

pub view_axes_unread : (ts : List Terminal) (from i room : ℕ) (closing : Operator) (u : Unread) → i ≡ suc from → 11 ≤ sign_code closing → 0 < room → IsOperator ts from sign.OpenBracket
    → ReadsFlat AreAxes (At sign.CloseBracket) ts i (Err u)
    → IsUnread HasAxes (At closing) ts from room u
view_axes_unread ts from i room closing (unread.Stuck k) e low some opened h = view_axes_stuck ts from room k closing low some opened
    (subst (λ x. IsStuck (Flat AreAxes) (At sign.CloseBracket) ts x 0 k) e h)
view_axes_unread ts from i room closing (unread.TooDeep k) e low some opened h = absurd h
view_axes_unread ts from i room closing unread.NoMemory e low some opened h = tt

pub typing_base_unread : (ts : List Terminal) (from i room : ℕ) (closing : Operator) (u : Unread) → 11 ≤ sign_code closing → IsBehindConst ts from i → ReadsInPlace IsBase NoName ts i (Err u)
    → IsUnread IsTyping (At closing) ts from room u
typing_base_unread ts from i room closing (unread.Stuck k) low taken h = typing_base_stuck ts from i room k closing low taken h
typing_base_unread ts from i room closing (unread.TooDeep k) low taken h = absurd h
typing_base_unread ts from i room closing unread.NoMemory low taken h = absurd h

-- Where parts end

pub axis_forward : (ts : List Terminal) (i j : ℕ) (a : Axis) → IsAxis ts i a j → i < j
axis_forward ts i j a h = (axis_carried j (agree_same ts) h).0

pub last_ends : (ts : List Terminal) (i : ℕ) → EndsElement sign.CloseBracket ts i → (IsOperator ts i sign.Comma → ⊥) → IsOperator ts i sign.CloseBracket
last_ends ts i (inl comma) none = absurd (none comma)
last_ends ts i (inr close) none = close

pub const_inside : (tokens : Tokens) (from i : ℕ) → IsInput tokens → from < length tokens.list → IsBehindConst (terminals_of tokens) from i → i < length tokens.list
const_inside tokens from i input lt (inl h) = omega (arith, h.1, goes_on tokens from kind.Name input (name_kind h.0) (omega arith))
const_inside tokens from i input lt (inr h) = omega (arith, h.1, lt)
