-- What the reading of a type with a name behind it shows: what was read, or where no such tokens go on.
use Rattle.std.proofs.Common.{◌≡◌, ◌⊎◌, inl, inr, ℕ, suc, ◌+◌, ◌≤◌, ◌<◌, Bool, List, [], ◌∷◌, ◌++◌, Some, Result, Ok, Err, MatchResult, length, take, codes, refl, sym, ap, subst, ◌∙◌, arith}
use Rattle.std.proofs.lemmas.List.{length-append, length-take-le}
use Rattle.std.specs.Prelude.{slice_get, nat_lt}
use Rattle.px_base.specs.declared.refusals.Span.{Span}
use Rattle.px_lexer.specs.declared.spelling.Operator.TheVariants as sign
use Rattle.px_lexer.specs.declared.token_list.Tokens.{Tokens}
use Rattle.px_lexer.specs.declared.token_list.TokenKind.TheVariants as kind
use Rattle.px_tree.specs.declared.typings.Axis.{Axis}
use Rattle.px_tree.specs.declared.typings.BaseType.{BaseType}
use Rattle.px_tree.specs.declared.typings.BaseType.TheVariants as base
use Rattle.px_tree.specs.declared.typings.«Type».{«Type» as Typing}
use Rattle.px_exprs.specs.declared.readings.Unread.{Unread}
use Rattle.px_exprs.specs.declared.readings.Unread.TheVariants as unread
use Rattle.px_lexer.specs.Terminals.{Terminal, Stands, IsName, IsOperator, IsAt, terminals_of}
use Rattle.px_exprs.specs.Inputs.{IsInput}
use Rattle.px_exprs.specs.Readings.{Agree, At, HasWay as FormWay, HasShallow as FormShallow, IsReached as FormReached}
use Rattle.px_exprs.specs.Runs.{nesting_limit}
use Rattle.px_exprs.specs.Typings.{IsBase, AreAxes, HasAxes, HasConst, IsTyping}
use Rattle.px_exprs.specs.TypeParts.{Flat, NoName, IsBehindConst, ReadsFlat as FlatReads}
use Rattle.px_exprs.specs.Words.{IsStuckAt}
use Rattle.px_exprs.proofs.Codes.{code_here, name_code}
use Rattle.px_exprs.proofs.Agreement.{agree_same, agree_back, agree_through, agree_carried, agree_append, agree_take}
use Rattle.px_exprs.proofs.Keeping.{kind_carried, name_carried, axes_carried, const_carried}
use Rattle.px_exprs.proofs.TokenReading.{goes_on}
use Rattle.px_lexer.proofs.TokenAccess.{length_terminals, stands_within, name_kind}
use Rattle.px_exprs.proofs.TypingLaws.{axes_unique, const_begins_none}
use Rattle.px_exprs.proofs.TypeReading.{base_forward, const_of, const_forward}
use Rattle.px_exprs.proofs.Ways.{sign_token, word_token, word_behind, reached_through}
use Rattle.px_parser.specs.declared.readings.Found.{Found}
use Rattle.px_parser.specs.Shapes.{Mode}
use Rattle.px_parser.specs.Parsing.{strict, looks_before, unseen_from}
use Rattle.px_parser.specs.Readings.{HasWay, HasShallow, IsShallow, IsReached, IsStuck, IsUnread, IsReading, Reads, IsArrived, HasBlocks}
use Rattle.px_parser.specs.Ends.{EndsName}
use Rattle.px_parser.specs.Parts.{TypedName, GoesOn}
use Rattle.px_parser.specs.ModuleGrammar.{Numbered}
use Rattle.px_parser.proofs.TypedNames.{SomeName, IsLast, below_or_above, words_go_on, ends_carried, goes_on_carried, base_names, base_carried, no_front, words_end_here, axes_end_words, typing_kept, object_known, numbered_parts, numbered_by}

-- As a form of its own

-- a type with a name behind it, and the index of the name
pub record IsTyped (ts : List Terminal) (i : ℕ) (t : Typing × ℕ) (depth j : ℕ) : Type 0 where
  pub typing : IsTyping ts i t.0 depth t.1
  pub name : List ℕ
  pub stands : IsName ts t.1 name
  pub end : j ≡ suc t.1

pub typed_by : (mode : Mode) (ts : List Terminal) (i n j d : ℕ) (t : Typing × ℕ) → IsTyped ts i t d j → d ≤ mode.limit → TypedName mode ts i t n j
unfolding TypedName
typed_by mode ts i n j d t h le = record {
  inner = (t.0, (t.1, h.name));
  read = record {
    middle = t.1;
    first = record { depth = d; read = h.typing; within = le };
    second = subst (Numbered mode ts t.1 (t.1, h.name) n) (sym h.end) (numbered_by mode ts t.1 n h.name h.stands);
  };
  tree = refl;
}

pub typed_parts : (mode : Mode) (ts : List Terminal) (i n j : ℕ) (t : Typing × ℕ) → TypedName mode ts i t n j → (d : ℕ) × IsTyped ts i t d j
unfolding TypedName
typed_parts mode ts i n j t h =
    let a = numbered_parts mode ts h.read.middle n j h.inner.1 h.read.second in
    let depth = h.read.first.depth in
    let tree : t.0 ≡ h.inner.0 = ap (λ p. p.0) h.tree in
    let number : t.1 ≡ h.read.middle = ap (λ p. p.1) h.tree ∙ a.0 in
    let read : IsTyping ts i h.inner.0 depth t.1 = subst (IsTyping ts i h.inner.0 depth) (sym number) h.read.first.read in (
      depth,
      record {
        typing = subst (λ x. IsTyping ts i x depth t.1) (sym tree) read;
        name = h.inner.1.1;
        stands = subst (λ x. IsName ts x h.inner.1.1) (sym number) a.1;
        end = a.2 ∙ ap suc (sym number);
      },
    )

pub typed_last : (ts : List Terminal) (i d j : ℕ) (t : Typing × ℕ) → IsTyped ts i t d j → EndsName ts j → IsLast ts t.1
typed_last ts i d j t h s = ((h.name, h.stands), subst (EndsName ts) h.end s)

way_typed : (ts : List Terminal) (from k : ℕ) → FormWay IsTyped ts from k → HasWay TypedName ts from k
way_typed ts from k w = record {
  tokens = w.tokens;
  same = w.same;
  long = w.long;
  tree = w.tree;
  limit = w.depth;
  blocks = 0;
  derived = typed_by (strict w.depth) w.tokens from 0 (length w.tokens) w.depth w.tree w.derived (omega arith);
}

blocks_typed : (ts : List Terminal) (from k room : ℕ) → (w : FormWay IsTyped ts from k) → HasBlocks TypedName w.depth ts from k room
blocks_typed ts from k room w = record {
  tokens = w.tokens;
  same = w.same;
  long = w.long;
  tree = w.tree;
  derived = typed_by (unseen_from w.depth k) w.tokens from room (length w.tokens) w.depth w.tree w.derived (omega arith);
}

shallow_typed : (ts : List Terminal) (from k room : ℕ) → FormShallow IsTyped ts from k nesting_limit → HasShallow TypedName ts from k room
shallow_typed ts from k room s = record {
  tokens = s.way.tokens;
  same = s.way.same;
  long = s.way.long;
  tree = s.way.tree;
  derived = typed_by (looks_before k) s.way.tokens from room (length s.way.tokens) s.way.depth s.way.tree s.way.derived s.shallow;
}

reached_typed : (ts : List Terminal) (from k room : ℕ) → FormReached IsTyped ts from k nesting_limit → IsReached TypedName ts from k room
reached_typed ts from k room (FormReached.reached s) = record { way = way_typed ts from k s.way; shallow = IsShallow.shallow (shallow_typed ts from k room s) }
reached_typed ts from k room (FormReached.behind_sizeof i e le sizeof s w) = record { way = way_typed ts from k w; shallow = IsShallow.behind_sizeof i w.depth e le sizeof (shallow_typed ts from i room s) (blocks_typed ts from k room w) }

typed_stuck : (ts : List Terminal) (from k room : ℕ) → from ≤ k → k < length ts → FormReached IsTyped ts from k nesting_limit
    → ((us : List Terminal) → Agree (suc k) us ts → (t : Typing × ℕ) (d j : ℕ) → IsTyped us from t d j → EndsName us j → ⊥) → IsStuck TypedName EndsName ts from room k
typed_stuck ts from k room forward lt way none = record {
  forward = forward;
  within = lt;
  reached = IsArrived.reached (reached_typed ts from k room way);
  none = λ us agree limit tree blocks j x s. let h = typed_parts (strict limit) us from blocks j tree x in none us agree tree h.0 j h.1 s;
}

-- Tokens that go on

place_there : (ts : List Terminal) (i j k : ℕ) (is_const : Bool) (b : BaseType) → HasConst ts i is_const j → IsBase ts j b k → (at : Span) × IsAt ts i at
place_there ts i j k is_const b (HasConst.plain m e) h =
    let named = base_names ts j k b h j (omega arith) (base_forward ts j k b h) in
    (named.1.token.at, record { token = named.1.token; stands = subst (λ x. Stands ts x named.1.token) e named.1.stands; placed = refl })
place_there ts i j k is_const b (HasConst.const w m e) h = (w.token.at, record { token = w.token; stands = w.stands; placed = refl })

typing_by : (ts : List Terminal) (i j k l depth : ℕ) (is_const : Bool) (b : BaseType) (axes : List Axis) → HasConst ts i is_const j → IsBase ts j b k → HasAxes ts k axes depth l
    → (t : Typing) × IsTyping ts i t depth l
typing_by ts i j k l depth is_const b axes taken base seen =
    let placed = place_there ts i j k is_const b taken base in
    (record { number = i; at = placed.0; is_const = is_const; base = b; axes = axes }, record { number = refl; placed = placed.1; base_from = j; axes_from = k; const = taken; base = base; axes = seen })

shallow_by : (ts : List Terminal) (from k : ℕ) (more : List Terminal) (t : Typing × ℕ) (depth : ℕ) → k ≤ length ts → depth ≤ nesting_limit → IsTyped (take k ts ++ more) from t depth (k + length more) → FormShallow IsTyped ts from k nesting_limit
shallow_by ts from k more t depth le low h =
    let long : length (take k ts ++ more) ≡ k + length more = length-append (take k ts) more ∙ ap (λ n. n + length more) (length-take-le k ts le) in
    record {
      way = record { tokens = take k ts ++ more; same = agree_take k ts more le; long = omega (arith, long); tree = t; depth = depth; derived = subst (IsTyped (take k ts ++ more) from t depth) (sym long) h };
      shallow = low;
    }

-- behind `const`, or before any token of a type
pub shallow_base : (ts : List Terminal) (from i : ℕ) (is_const : Bool) → HasConst ts from is_const i → i ≤ length ts → FormShallow IsTyped ts from i nesting_limit
shallow_base ts from i is_const taken le =
    let more = word_token (codes "object") ∷ word_token (codes "x") ∷ [] in
    let us = take i ts ++ more in
    let const = (const_carried {us = us} i (agree_take i ts more le) from is_const i taken).1 (omega arith) in
    let words : IsBase us i base.Object (suc i) = record { words = codes "object" ∷ []; stand = (word_behind ts i more 0 i (codes "object") (omega arith) le refl, refl); known = object_known } in
    let made = typing_by us from i (suc i) (suc i) 0 is_const base.Object [] const words (HasAxes.no_view refl refl refl) in
    let typed : IsTyped us from (made.0, suc i) 0 (i + 2) = record { typing = made.1; name = codes "x"; stands = word_behind ts i more 1 (suc i) (codes "x") (omega arith) le refl; end = omega arith } in
    shallow_by ts from i more (made.0, suc i) 0 le (omega arith) typed

-- behind a type
pub shallow_typing : (ts : List Terminal) (from at depth : ℕ) (t : Typing) → IsTyping ts from t depth at → at ≤ length ts → depth ≤ nesting_limit → FormShallow IsTyped ts from at nesting_limit
shallow_typing ts from at depth t h le low =
    let more = word_token (codes "x") ∷ [] in
    let us = take at ts ++ more in
    let kept = (typing_kept {us = us} at (agree_take at ts more le) h).1 (omega arith) in
    let typed : IsTyped us from (t, at) depth (at + 1) = record { typing = kept; name = codes "x"; stands = word_behind ts at more 0 at (codes "x") (omega arith) le refl; end = omega arith } in
    shallow_by ts from at more (t, at) depth le low typed

-- behind the words of a type
pub shallow_words : (ts : List Terminal) (from i to : ℕ) (is_const : Bool) (b : BaseType) → HasConst ts from is_const i → IsBase ts i b to → to ≤ length ts → FormShallow IsTyped ts from to nesting_limit
shallow_words ts from i to is_const b taken base le =
    let made = typing_by ts from i to to 0 is_const b [] taken base (HasAxes.no_view refl refl refl) in
    shallow_typing ts from to 0 made.0 made.1 le (omega arith)

-- behind the name
shallow_name : (ts : List Terminal) (from at depth : ℕ) (t : Typing) → IsTyping ts from t depth at → SomeName ts at → suc at ≤ length ts → depth ≤ nesting_limit → FormShallow IsTyped ts from (suc at) nesting_limit
shallow_name ts from at depth t h named le low =
    let us = take (suc at) ts ++ [] in
    let agree = agree_take (suc at) ts [] le in
    let kept = (typing_kept {us = us} (suc at) agree h).1 (omega arith) in
    let typed : IsTyped us from (t, at) depth (suc at + 0) = record { typing = kept; name = named.0; stands = name_carried (suc at) agree named.1 (omega arith); end = omega arith } in
    shallow_by ts from (suc at) [] (t, at) depth le low typed

first_behind : (vs : List Terminal) (t u : Terminal) → slice_get (vs ++ t ∷ u ∷ []) (length vs) ≡ Some t
first_behind [] t u = refl
first_behind (v ∷ vs) t u = first_behind vs t u

second_behind : (vs : List Terminal) (t u : Terminal) → slice_get (vs ++ t ∷ u ∷ []) (suc (length vs)) ≡ Some u
second_behind [] t u = refl
second_behind (v ∷ vs) t u = second_behind vs t u

-- tokens that go on to axes behind their bracket
axes_through : (ts : List Terminal) (from i to n : ℕ) (is_const : Bool) (b : BaseType) → HasConst ts from is_const i → IsBase ts i b to → IsOperator ts to sign.OpenBracket → suc to ≤ n
    → (w : FormWay (Flat AreAxes) ts (suc to) n) → (v : FormWay IsTyped ts from n) × (w.depth ≤ 0 → v.depth ≤ nesting_limit)
axes_through ts from i to n is_const b taken base opened le w =
    let close = sign_token sign.CloseBracket in
    let last = word_token (codes "x") in
    let us = w.tokens ++ close ∷ last ∷ [] in
    let longer = agree_append w.tokens (close ∷ last ∷ []) in
    let same : Agree n us ts = agree_through us w.tokens ts (agree_carried us w.tokens longer w.long) w.same in
    let long = length-append w.tokens (close ∷ last ∷ []) in
    let forward = base_forward ts i to b base in
    let const = (const_carried {us = us} n same from is_const i taken).1 (omega (arith, forward, le)) in
    let axes : AreAxes us (suc to) w.tree (length w.tokens) = (axes_carried {us = us} (length w.tokens) longer w.derived.0).1 (omega arith) in
    let seen : HasAxes us to w.tree 1 (suc (length w.tokens)) = HasAxes.view (length w.tokens) (kind_carried n same opened (omega (arith, le))) axes (record { token = close; stands = first_behind w.tokens close last; kind = refl }) refl refl in
    let made = typing_by us from i to (suc (length w.tokens)) 1 is_const b w.tree const (base_carried n same base (omega (arith, le))) seen in (
      record {
        tokens = us;
        same = same;
        long = omega (arith, w.long, long);
        tree = (made.0, suc (length w.tokens));
        depth = 1;
        derived = record { typing = made.1; name = codes "x"; stands = record { token = last; stands = second_behind w.tokens close last; kind = refl; spelled = refl }; end = omega (arith, long) };
      },
      λ d. omega arith,
    )

-- The type in other tokens

-- where `const` stands it belongs to the type
const_end : (ts us : List Terminal) (n i j k l : ℕ) (is_const : Bool) (b : BaseType) → Agree n us ts → i < n → IsBehindConst ts i j → HasConst us i is_const k → IsBase us k b l → k ≡ j
const_end ts us n i j k l is_const b agree lt (inl h) (HasConst.plain m e) base = absurd (const_begins_none l b (name_carried n agree h.0 lt) (subst (λ x. IsBase us x b l) e base))
const_end ts us n i j k l is_const b agree lt (inl h) (HasConst.const w m e) base = e ∙ sym h.1
const_end ts us n i j k l is_const b agree lt (inr h) (HasConst.plain m e) base = e ∙ sym h.1
const_end ts us n i j k l is_const b agree lt (inr h) (HasConst.const w m e) base = absurd (h.0 (name_carried n (agree_back us ts agree) w lt))

base_there : (ts us : List Terminal) (n from i d l : ℕ) (t : Typing) → Agree n us ts → from < n → IsBehindConst ts from i → (h : IsTyping us from t d l) → IsBase us i t.base h.axes_from
base_there ts us n from i d l t agree lt taken h = subst (λ x. IsBase us x t.base h.axes_from) (const_end ts us n from i h.base_from h.axes_from t.is_const t.base agree lt taken h.const h.base) h.base

no_longer : (ts us : List Terminal) (n i to : ℕ) → Agree n us ts → suc to ≤ n → ((b : BaseType) → IsBase ts i b (suc to) → ⊥) → (b : BaseType) → IsBase us i b (suc to) → ⊥
no_longer ts us n i to agree le none b h = none b (base_carried n (agree_back us ts agree) h le)

-- the words end where they do here
axes_there : (ts us : List Terminal) (n from i to d l : ℕ) (b : BaseType) (t : Typing) → Agree n us ts → to < n → IsBehindConst ts from i → IsBase ts i b to → ((b : BaseType) → IsBase ts i b (suc to) → ⊥)
    → GoesOn ts to → IsTyping us from t d l → IsLast us l → HasAxes us to t.axes d l
axes_there ts us n from i to d l b t agree lt taken base none more h s =
    let forward : from < to = omega (arith, const_forward ts from i taken, base_forward ts i to b base) in
    let there = base_there ts us n from i d l t agree (omega (arith, lt, forward)) taken h in
    let end = words_end_here us i to h.axes_from b t.base (base_carried n agree base (omega (arith, lt))) (goes_on_carried n agree more lt) (no_longer ts us n i to agree (omega (arith, lt)) none) there
    (axes_end_words us h.axes_from d l t.axes h.axes s) in
    subst (λ x. HasAxes us x t.axes d l) end h.axes

-- what stands behind the words of a type: a name, or axes
pub data Seen (ts : List Terminal) (to : ℕ) (axes : List Axis) (depth at : ℕ) : Type 0 where
  plain : SomeName ts to → axes ≡ [] → depth ≡ 0 → at ≡ to → Seen ts to axes depth at
  viewed : (m : ℕ) → IsOperator ts to sign.OpenBracket → AreAxes ts (suc to) axes m → IsOperator ts m sign.CloseBracket → depth ≡ 1 → at ≡ suc m → Seen ts to axes depth at

pub seen_axes : {ts : List Terminal} {to depth at : ℕ} {axes : List Axis} → Seen ts to axes depth at → HasAxes ts to axes depth at
seen_axes (Seen.plain named m p e) = HasAxes.no_view m p e
seen_axes (Seen.viewed m opened a closed p e) = HasAxes.view m opened a closed p e

seen_goes_on : {ts : List Terminal} {to depth at : ℕ} {axes : List Axis} → Seen ts to axes depth at → GoesOn ts to
seen_goes_on (Seen.plain named m p e) = inl named
seen_goes_on (Seen.viewed m opened a closed p e) = inr opened

seen_low : {ts : List Terminal} {to depth at : ℕ} {axes : List Axis} → Seen ts to axes depth at → (to ≤ at) × (depth ≤ nesting_limit)
seen_low (Seen.plain named m p e) = (omega (arith, e), omega (arith, p))
seen_low {ts = ts} (Seen.viewed m opened a closed p e) = (omega (arith, e, (axes_carried m (agree_same ts) a).0), omega (arith, p))

seen_inside : (tokens : Tokens) (to depth at : ℕ) (axes : List Axis) → IsInput tokens → Seen (terminals_of tokens) to axes depth at → at < length tokens.list
seen_inside tokens to depth at axes input (Seen.plain named m p e) = omega (arith, e, stands_within tokens to named.1.token named.1.stands)
seen_inside tokens to depth at axes input (Seen.viewed m opened a closed p e) = omega (arith, e, goes_on tokens m (kind.Operator sign.CloseBracket) input closed (omega arith))

no_bracket_name : (ts : List Terminal) (i : ℕ) → IsOperator ts i sign.OpenBracket → SomeName ts i → ⊥
no_bracket_name ts i opened named = omega (arith, code_here opened, name_code named.1)

seen_end : (ts us : List Terminal) (n to depth d at l : ℕ) (axes others : List Axis) → Agree n us ts → at < n → Seen ts to axes depth at → HasAxes us to others d l → IsLast us l → l ≡ at
seen_end ts us n to depth d at l axes others agree lt (Seen.plain named m p e) (HasAxes.no_view q r f) s = f ∙ sym e
seen_end ts us n to depth d at l axes others agree lt (Seen.plain named m p e) (HasAxes.view k opened a closed r f) s =
    absurd (no_bracket_name us to opened (named.0, name_carried n agree named.1 (omega (arith, e, lt))))
seen_end ts us n to depth d at l axes others agree lt (Seen.viewed m opened a closed p e) (HasAxes.no_view q r f) s =
    absurd (no_bracket_name us to (kind_carried n agree opened (omega (arith, e, lt, (axes_carried m (agree_same ts) a).0))) (subst (SomeName us) f s.0))
seen_end ts us n to depth d at l axes others agree lt (Seen.viewed m opened a closed p e) (HasAxes.view k second b last r f) s =
    let same = axes_unique (suc to) m axes ((axes_carried {us = us} n agree a).1 (omega (arith, e, lt))) k others b (code_here (kind_carried n agree closed (omega (arith, e, lt)))) (code_here last) in
    f ∙ ap suc (sym same.1) ∙ sym e

-- What is known of a type that was read, before its name
pub record Known (ts : List Terminal) (from at : ℕ) (t : Typing) : Type 0 where
  pub i : ℕ
  pub to : ℕ
  pub depth : ℕ
  pub taken : IsBehindConst ts from i
  pub base : IsBase ts i t.base to
  pub none : (b : BaseType) → IsBase ts i b (suc to) → ⊥
  pub seen : Seen ts to t.axes depth at
  pub typing : IsTyping ts from t depth at

known_end : (ts us : List Terminal) (n from at d l : ℕ) (t u : Typing) → Agree n us ts → at < n → Known ts from at t → IsTyping us from u d l → IsLast us l → l ≡ at
known_end ts us n from at d l t u agree lt k h s =
    let low = seen_low k.seen in
    seen_end ts us n k.to k.depth d at l t.axes u.axes agree lt k.seen
    (axes_there ts us n from k.i k.to d l t.base u agree (omega (arith, lt, low.0)) k.taken k.base k.none (seen_goes_on k.seen) h s) s

-- Where reading ends

-- a type begins with a word of a base
pub typed_no_base : (ts : List Terminal) (from i room : ℕ) → i < length ts → IsBehindConst ts from i → ((b : BaseType) → IsBase ts i b (suc i) → ⊥) → IsStuck TypedName EndsName ts from room i
typed_no_base ts from i room lt taken none =
    let forward = const_forward ts from i taken in
    typed_stuck ts from i room forward lt (FormReached.reached (shallow_base ts from i (nat_lt from i) (const_of ts from i taken) (omega (arith, lt)))) (λ us agree t d j h s.
    let there = base_there ts us (suc i) from i d t.1 t.0 agree (omega (arith, forward)) taken h.typing in
    no_front us i h.typing.axes_from (suc i) t.0.base there (omega arith) (omega (arith, base_forward us i h.typing.axes_from t.0.base there)) (no_longer ts us (suc i) i i agree (omega arith) none))

-- one word with neither a name nor axes behind it
pub typed_one_word : (ts : List Terminal) (from i to room : ℕ) (b : BaseType) → to < length ts → to ≡ suc i → IsBehindConst ts from i → IsBase ts i b to → ((b : BaseType) → IsBase ts i b (suc to) → ⊥) → (GoesOn ts to → ⊥)
    → IsStuck TypedName EndsName ts from room to
typed_one_word ts from i to room b lt e taken base none ends =
    let forward = const_forward ts from i taken in
    typed_stuck ts from to room (omega (arith, forward, e)) lt (FormReached.reached (shallow_words ts from i to (nat_lt from i) b (const_of ts from i taken) base (omega (arith, lt)))) (λ us agree t d j h s.
    let there = base_there ts us (suc to) from i d t.1 t.0 agree (omega (arith, forward, e)) taken h.typing in
    let past = base_forward us i h.typing.axes_from t.0.base there in
    let words = axes_end_words us h.typing.axes_from d t.1 t.0.axes h.typing.axes (typed_last us from d j t h s) in
    elim (below_or_above h.typing.axes_from to) [
      | inl le ↦ (let same : h.typing.axes_from ≡ to = omega (arith, le, past, e) in ends (goes_on_carried (suc to) (agree_back us ts agree) (subst (GoesOn us) same (words_go_on words)) (omega arith)))
      | inr l ↦ no_front us i h.typing.axes_from (suc to) t.0.base there (omega (arith, e)) (omega (arith, l)) (no_longer ts us (suc to) i to agree (omega arith) none)
    ])

-- axes that don't go on
pub typed_axes_unread : (ts : List Terminal) (from i to room : ℕ) (b : BaseType) (u : Unread) → IsBehindConst ts from i → IsBase ts i b to → ((b : BaseType) → IsBase ts i b (suc to) → ⊥) → IsOperator ts to sign.OpenBracket
    → FlatReads AreAxes (At sign.CloseBracket) ts (suc to) (Err u) → IsUnread TypedName EndsName ts from room u
typed_axes_unread ts from i to room b (unread.Stuck k) taken base none opened h =
    let forward : from < to = omega (arith, const_forward ts from i taken, base_forward ts i to b base) in
    typed_stuck ts from k room (omega (arith, forward, h.forward)) h.within
    (reached_through (Flat AreAxes) IsTyped ts (suc to) from k 0 nesting_limit (omega (arith, forward)) h.forward (λ n at le w. axes_through ts from i to n (nat_lt from i) b (const_of ts from i taken) base opened at w) h.reached)
    (λ us agree t d j g s.
    let last = typed_last us from d j t g s in
    fails us agree t.0.axes d t.1 (axes_there ts us (suc k) from i to d t.1 b t.0 agree (omega (arith, h.forward)) taken base none (inr opened) g.typing last) last)
  where
    fails : (us : List Terminal) → Agree (suc k) us ts → (axes : List Axis) (d l : ℕ) → HasAxes us to axes d l → IsLast us l → ⊥
    fails us agree axes d l (HasAxes.no_view m p e) s = no_bracket_name us to (kind_carried (suc k) agree opened (omega (arith, h.forward))) (subst (SomeName us) e s.0)
    fails us agree axes d l (HasAxes.view m second a closed p e) s = h.none us agree axes 0 m (a, refl) closed
typed_axes_unread ts from i to room b (unread.TooDeep k) taken base none opened h = absurd h
typed_axes_unread ts from i to room b unread.NoMemory taken base none opened h = tt

-- what a name was read with, or where it wasn't
abbrev pub Named : {A : Type 0} → List Terminal → A → ℕ → Result (Found (A × ℕ)) Unread → Type 0
Named {A} ts tree at r = MatchResult r
    (λ (found : Found (A × ℕ)). (found.tree ≡ (tree, at)) × (found.to ≡ suc at) × SomeName ts at × EndsName ts (suc at))
    (λ u. (IsStuckAt at u × NoName ts at) ⊎ (IsStuckAt (suc at) u × SomeName ts at × (EndsName ts (suc at) → ⊥)))

pub typing_read : (tokens : Tokens) (from at room to depth : ℕ) (t : Typing) → IsInput tokens → IsTyping (terminals_of tokens) from t depth at → depth ≤ nesting_limit → SomeName (terminals_of tokens) at
    → EndsName (terminals_of tokens) (suc at) → to ≡ suc at → IsReading TypedName EndsName (terminals_of tokens) from room (t, at) to
typing_read tokens from at room to depth t input h low named ends e = record {
  derived = typed_by (strict nesting_limit) (terminals_of tokens) from room to depth (t, at) (record { typing = h; name = named.0; stands = named.1; end = e }) low;
  stops = subst (EndsName (terminals_of tokens)) (sym e) ends;
  within = omega (arith, e, length_terminals tokens, goes_on tokens at kind.Name input (name_kind named.1) (omega arith));
}

known_stuck : (tokens : Tokens) (from at room : ℕ) (t : Typing) → IsInput tokens → Known (terminals_of tokens) from at t → NoName (terminals_of tokens) at → IsStuck TypedName EndsName (terminals_of tokens) from room at
known_stuck tokens from at room t input k none =
    let ts = terminals_of tokens in
    let lt : at < length ts = omega (arith, length_terminals tokens, seen_inside tokens k.to k.depth at t.axes input k.seen) in
    typed_stuck ts from at room (omega (arith, (typing_kept 0 (agree_same ts) k.typing).0)) lt (FormReached.reached (shallow_typing ts from at k.depth t k.typing (omega (arith, lt)) (seen_low k.seen).1)) (λ us agree u d j h s.
    let same = known_end ts us (suc at) from at d u.1 t u.0 agree (omega arith) k h.typing (typed_last us from d j u h s) in
    none h.name (name_carried (suc at) (agree_back us ts agree) (subst (λ x. IsName us x h.name) same h.stands) (omega arith)))

known_unended : (tokens : Tokens) (from at room : ℕ) (t : Typing) → IsInput tokens → Known (terminals_of tokens) from at t → SomeName (terminals_of tokens) at → (EndsName (terminals_of tokens) (suc at) → ⊥)
    → IsStuck TypedName EndsName (terminals_of tokens) from room (suc at)
known_unended tokens from at room t input k named goes =
    let ts = terminals_of tokens in
    let lt : suc at < length ts = omega (arith, length_terminals tokens, goes_on tokens at kind.Name input (name_kind named.1) (omega arith)) in
    typed_stuck ts from (suc at) room (omega (arith, (typing_kept 0 (agree_same ts) k.typing).0)) lt (FormReached.reached (shallow_name ts from at k.depth t k.typing named (omega (arith, lt)) (seen_low k.seen).1)) (λ us agree u d j h s.
    let last = typed_last us from d j u h s in
    let same = known_end ts us (suc (suc at)) from at d u.1 t u.0 agree (omega arith) k h.typing last in
    goes (ends_carried (suc (suc at)) (agree_back us ts agree) (subst (λ x. EndsName us (suc x)) same last.1) (omega arith)))

pub known_reads : (tokens : Tokens) (from at room : ℕ) (t : Typing) (r : Result (Found (Typing × ℕ)) Unread) → IsInput tokens → Known (terminals_of tokens) from at t → Named (terminals_of tokens) t at r
    → Reads TypedName EndsName (terminals_of tokens) from room r
known_reads tokens from at room t (Ok found) input k m =
    subst (λ x. IsReading TypedName EndsName (terminals_of tokens) from room x found.to) (sym m.0) (typing_read tokens from at room found.to k.depth t input k.typing (seen_low k.seen).1 m.2 m.3 m.1)
known_reads tokens from at room t (Err (unread.Stuck n)) input k (inl m) = subst (IsStuck TypedName EndsName (terminals_of tokens) from room) (sym m.0) (known_stuck tokens from at room t input k m.1)
known_reads tokens from at room t (Err (unread.Stuck n)) input k (inr m) = subst (IsStuck TypedName EndsName (terminals_of tokens) from room) (sym m.0) (known_unended tokens from at room t input k m.1 m.2)
known_reads tokens from at room t (Err (unread.TooDeep n)) input k (inl m) = absurd m.0
known_reads tokens from at room t (Err (unread.TooDeep n)) input k (inr m) = absurd m.0
known_reads tokens from at room t (Err unread.NoMemory) input k (inl m) = absurd m.0
known_reads tokens from at room t (Err unread.NoMemory) input k (inr m) = absurd m.0

-- The type of these parts

pub typing_made : (ts : List Terminal) (from i to depth at : ℕ) (b : BaseType) (axes : List Axis) (t : Typing) → IsBehindConst ts from i → IsBase ts i b to → HasAxes ts to axes depth at
    → t.number ≡ from → IsAt ts from t.at → t.is_const ≡ nat_lt from i → t.base ≡ b → t.axes ≡ axes → IsTyping ts from t depth at
typing_made ts from i to depth at b axes t taken base seen number placed const based axed = record {
  number = number;
  placed = placed;
  base_from = i;
  axes_from = to;
  const = subst (λ x. HasConst ts from x i) (sym const) (const_of ts from i taken);
  base = subst (λ x. IsBase ts i x to) (sym based) base;
  axes = subst (λ x. HasAxes ts to x depth at) (sym axed) seen;
}

-- where they end before this index
pub known_typing : (ts : List Terminal) (from i to depth at : ℕ) (b : BaseType) (axes : List Axis) (t : Typing) → IsBehindConst ts from i → IsBase ts i b to → ((b : BaseType) → IsBase ts i b (suc to) → ⊥) → Seen ts to axes depth at
    → t.number ≡ from → IsAt ts from t.at → t.is_const ≡ nat_lt from i → t.base ≡ b → t.axes ≡ axes → Known ts from at t
known_typing ts from i to depth at b axes t taken base none seen number placed const based axed = record {
  i = i;
  to = to;
  depth = depth;
  taken = taken;
  base = subst (λ x. IsBase ts i x to) (sym based) base;
  none = none;
  seen = subst (λ x. Seen ts to x depth at) (sym axed) seen;
  typing = typing_made ts from i to depth at b axes t taken base (seen_axes seen) number placed const based axed;
}
