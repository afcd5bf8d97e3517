-- What the reading of a name shows before which a type may stand, or not.
use Rattle.std.proofs.Common.{◌≡◌, ◌⊎◌, inl, inr, ℕ, suc, ◌≤◌, ◌<◌, true, false, List, Option, Some, None, Result as Answer, Ok, Err, MatchOption, length, take, codes, refl, sym, ap, subst, ◌∙◌, arith}
use Rattle.std.specs.Option.{is_some}
use Rattle.std.proofs.lemmas.Bool.{false≢true}
use Rattle.std.proofs.lemmas.List.{length-take-le}
use Rattle.std.proofs.lemmas.Option.{slice_get_past, none-some}
use Rattle.px_lexer.specs.declared.token_list.Tokens.{Tokens}
use Rattle.px_lexer.specs.declared.token_list.TokenKind.TheVariants as kind
use Rattle.px_tree.specs.declared.typings.BaseType.{BaseType}
use Rattle.px_tree.specs.declared.typings.«Type».{«Type» as Typing}
use Rattle.px_tree.specs.declared.modules.ResultType.{ResultType}
use Rattle.px_tree.specs.declared.modules.ResultType.TheVariants as result_type
use Rattle.px_exprs.specs.declared.readings.Unread.{Unread}
use Rattle.px_exprs.specs.declared.readings.Unread.TheVariants as unread
use Rattle.px_lexer.specs.Terminals.{Terminal, IsName, terminals_of}
use Rattle.px_exprs.specs.Inputs.{IsInput}
use Rattle.px_exprs.specs.Readings.{Stops, Agree, HasShallow as FormShallow}
use Rattle.px_exprs.specs.Runs.{nesting_limit}
use Rattle.px_exprs.specs.Typings.{IsBase, HasConst}
use Rattle.px_exprs.specs.TypeParts.{NoName}
use Rattle.px_lexer.proofs.OneToken.{one_name}
use Rattle.px_exprs.proofs.Agreement.{agree_same, agree_back, agree_carried, agree_front}
use Rattle.px_exprs.proofs.Keeping.{name_carried}
use Rattle.px_exprs.proofs.TokenReading.{goes_on}
use Rattle.px_lexer.proofs.TokenAccess.{length_terminals, name_kind}
use Rattle.px_parser.specs.declared.readings.Found.{Found}
use Rattle.px_parser.specs.Shapes.{Mode, Shape, Either}
use Rattle.px_parser.specs.Parsing.{strict, looks_before, unseen_from}
use Rattle.px_parser.specs.Readings.{IsShallow, IsReached, IsStuck, IsOver, IsUnread, IsReading, Reads, IsArrived}
use Rattle.px_parser.specs.Ends.{EndsName}
use Rattle.px_parser.specs.Parts.{TypedName, MaybeTypedName, ResultName, BeginsType, GoesOn}
use Rattle.px_parser.specs.ModuleGrammar.{Result}
use Rattle.px_parser.proofs.Shapely.{Good}
use Rattle.px_parser.proofs.Steps.{Step, way_made, reached_made, stuck_here, arrived_made}
use Rattle.px_parser.proofs.TypedNames.{SomeName, IsLast, NoType, BeginsTyped, BeginsVoid, below_or_above, goes_on_ends, ends_carried, goes_on_carried, base_names, base_carried, typing_begins, good_typed_name, good_maybe_name, good_result_name, numbered_by, numbered_last, void_is_no_base, const_is_not_void, void_typed, void_alone}
use Rattle.px_parser.proofs.TypedReading.{IsTyped, Named, typed_by, typed_parts, typed_last, shallow_base, shallow_words}

-- Such forms

abbrev pub Nowhere : Stops
Nowhere ts i = ⊥

-- the word `void`, and a name behind it
abbrev pub VoidLast : Stops
VoidLast ts i = IsName ts i (codes "void") × IsLast ts (suc i)

-- the ways in which a name stands behind a type, or without one; V is one more
abbrev pub Ways : Stops → Mode → List Terminal → ℕ → ℕ → ℕ → Type 0
Ways V mode ts i n j = V ts i ⊎ (((t : Typing × ℕ) × TypedName mode ts i t n j) ⊎ IsLast ts i)

pub record Choice {A : Type 0} (Y : Shape (A × ℕ)) (wrap : Typing → A) (absent : A) (V : Stops) : Type 0 where
  pub good : Good Y
  pub behind_type : (mode : Mode) (ts : List Terminal) (i n j : ℕ) (t : Typing × ℕ) → TypedName mode ts i t n j → Y mode ts i (wrap t.0, t.1) n j
  pub alone : (mode : Mode) (ts : List Terminal) (i n : ℕ) (name : List ℕ) → IsName ts i name → Y mode ts i (absent, i) n (suc i)
  pub split : (mode : Mode) (ts : List Terminal) (i n j : ℕ) (f : A × ℕ) → Y mode ts i f n j → EndsName ts j → Ways V mode ts i n j

maybe_by : (mode : Mode) (ts : List Terminal) (i n j : ℕ) (t : Typing × ℕ) → TypedName mode ts i t n j → MaybeTypedName mode ts i (Some t.0, t.1) n j
unfolding TypedName MaybeTypedName
maybe_by mode ts i n j t h = record {
  inner = (Some h.inner.0, h.inner.1);
  read = record { middle = h.read.middle; first = Either.left (record { inner = h.inner.0; read = h.read.first; tree = refl }); second = h.read.second };
  tree = ap (λ (p : Typing × ℕ). (Some p.0, p.1)) h.tree;
}

maybe_alone : (mode : Mode) (ts : List Terminal) (i n : ℕ) (name : List ℕ) → IsName ts i name → MaybeTypedName mode ts i (None, i) n (suc i)
unfolding MaybeTypedName
maybe_alone mode ts i n name h = record {
  inner = (None, (i, name));
  read = record { middle = i; first = Either.right (record { tree = refl; end = refl }); second = numbered_by mode ts i n name h };
  tree = refl;
}

maybe_split : (mode : Mode) (ts : List Terminal) (i n j : ℕ) (f : Option Typing × ℕ) → MaybeTypedName mode ts i f n j → EndsName ts j → Ways Nowhere mode ts i n j
unfolding TypedName MaybeTypedName
maybe_split mode ts i n j f h s = elim (h.read.first) [
  | Either.left a ↦ inr (inl ((a.inner, h.inner.1.0), record { inner = (a.inner, h.inner.1); read = record { middle = h.read.middle; first = a.read; second = h.read.second }; tree = refl }))
  | Either.right b ↦ inr (inr (subst (IsLast ts) b.end (numbered_last mode ts h.read.middle n j h.inner.1 h.read.second s)))
]

pub maybe_choice : Choice MaybeTypedName Some None Nowhere
maybe_choice = record { good = good_maybe_name; behind_type = maybe_by; alone = maybe_alone; split = maybe_split }

result_by : (mode : Mode) (ts : List Terminal) (i n j : ℕ) (t : Typing × ℕ) → TypedName mode ts i t n j → ResultName mode ts i (result_type.Of t.0, t.1) n j
unfolding TypedName ResultName Result
result_by mode ts i n j t h = record {
  inner = (result_type.Of h.inner.0, h.inner.1);
  read = record { middle = h.read.middle; first = Either.left (Either.right (record { inner = h.inner.0; read = h.read.first; tree = refl })); second = h.read.second };
  tree = ap (λ (p : Typing × ℕ). (result_type.Of p.0, p.1)) h.tree;
}

result_alone : (mode : Mode) (ts : List Terminal) (i n : ℕ) (name : List ℕ) → IsName ts i name → ResultName mode ts i (result_type.Unwritten, i) n (suc i)
unfolding ResultName Result
result_alone mode ts i n name h = record {
  inner = (result_type.Unwritten, (i, name));
  read = record { middle = i; first = Either.right (record { tree = refl; end = refl }); second = numbered_by mode ts i n name h };
  tree = refl;
}

result_void : (mode : Mode) (ts : List Terminal) (i n : ℕ) (name : List ℕ) → IsName ts i (codes "void") → IsName ts (suc i) name → ResultName mode ts i (result_type.Void, suc i) n (suc (suc i))
unfolding ResultName Result
result_void mode ts i n name v h = record {
  inner = (result_type.Void, (suc i, name));
  read = record { middle = suc i; first = Either.left (Either.left (record { inner = tt; read = record { stands = v; end = refl }; tree = refl })); second = numbered_by mode ts (suc i) n name h };
  tree = refl;
}

result_split : (mode : Mode) (ts : List Terminal) (i n j : ℕ) (f : ResultType × ℕ) → ResultName mode ts i f n j → EndsName ts j → Ways VoidLast mode ts i n j
unfolding TypedName ResultName Result
result_split mode ts i n j f h s = elim (h.read.first) [
  | Either.left w ↦ (elim (w) [
    | Either.left v ↦ inl (v.read.stands, subst (IsLast ts) v.read.end (numbered_last mode ts h.read.middle n j h.inner.1 h.read.second s))
    | Either.right a ↦ inr (inl ((a.inner, h.inner.1.0), record { inner = (a.inner, h.inner.1); read = record { middle = h.read.middle; first = a.read; second = h.read.second }; tree = refl }))
  ])
  | Either.right b ↦ inr (inr (subst (IsLast ts) b.end (numbered_last mode ts h.read.middle n j h.inner.1 h.read.second s)))
]

pub result_choice : Choice ResultName result_type.Of result_type.Unwritten VoidLast
result_choice = record { good = good_result_name; behind_type = result_by; alone = result_alone; split = result_split }

-- Where a type begins

pub some_base : (r : Option BaseType) (ts : List Terminal) (i j : ℕ) → is_some r ≡ true → MatchOption r ((b : BaseType) → IsBase ts i b j → ⊥) (λ b. IsBase ts i b j) → (b : BaseType) × IsBase ts i b j
some_base None ts i j e h = absurd (false≢true e)
some_base (Some b) ts i j e h = (b, h)

pub none_base : (r : Option BaseType) (ts : List Terminal) (i j : ℕ) → is_some r ≡ false → MatchOption r ((b : BaseType) → IsBase ts i b j → ⊥) (λ b. IsBase ts i b j) → (b : BaseType) → IsBase ts i b j → ⊥
none_base None ts i j e h = h
none_base (Some b) ts i j e h = absurd (false≢true (sym e))

begins_shallow : (ts : List Terminal) (from : ℕ) → BeginsType ts from → suc from ≤ length ts → FormShallow IsTyped ts from (suc from) nesting_limit
begins_shallow ts from (inl w) le = shallow_base ts from (suc from) true (HasConst.const w refl refl) le
begins_shallow ts from (inr h) le = shallow_words ts from from (suc from) false h.0 (HasConst.plain refl refl) h.1 le

ends_at_end : (us : List Terminal) → EndsName us (length us)
ends_at_end us =
    let past = slice_get_past us (length us) (omega arith) in
    (λ name h. none-some h.token (sym past ∙ h.stands), λ h. none-some h.token (sym past ∙ h.stands))

-- some type goes on with the token with which it begins
stuck_later : (ts : List Terminal) (from room k : ℕ) → BeginsType ts from → suc from ≤ length ts → IsStuck TypedName EndsName ts from room k → k ≤ from → ⊥
stuck_later ts from room k begins le h early =
    let s = begins_shallow ts from begins le in
    let w = s.way in
    h.none w.tokens (agree_carried w.tokens ts w.same (omega (arith, early))) w.depth w.tree 0 (length w.tokens) (typed_by (strict w.depth) w.tokens from 0 (length w.tokens) w.depth w.tree w.derived (omega arith)) (ends_at_end w.tokens)

over_later : (ts : List Terminal) (from room k : ℕ) → BeginsType ts from → suc from ≤ length ts → IsOver TypedName EndsName ts from room k → k ≤ from → ⊥
over_later ts from room k begins le h early =
    let s = begins_shallow ts from begins le in
    let w = s.way in
    h.deep w.tokens (agree_carried w.tokens ts w.same (omega (arith, early))) w.tree (length w.tokens) (typed_by (looks_before (suc k)) w.tokens from room (length w.tokens) w.depth w.tree w.derived s.shallow) (ends_at_end w.tokens)

behind_first : (k from : ℕ) → (k ≤ from → ⊥) → suc from ≤ k
behind_first k from none = elim (below_or_above k from) [ inl le ↦ absurd (none le) | inr l ↦ l ]

choice_step : {A : Type 0} {Y : Shape (A × ℕ)} {wrap : Typing → A} {absent : A} {V : Stops} (ts : List Terminal) (from room : ℕ) → Choice Y wrap absent V → Step TypedName EndsName Y Nowhere ts from from room
choice_step {wrap = wrap} ts from room choice = record {
  forward = omega arith;
  rising = good_typed_name.rises;
  make = λ mode us n e agree long least le opens x. record { tokens = us; same = agree_same us; long = omega arith; tree = (wrap e.0, e.1); derived = choice.behind_type mode us from n (length us) e x };
  split = λ mode us n f j agree sees y stop. absurd stop;
}

-- the type is there where it begins, and what it goes on with is behind its first word
typed_there : {A : Type 0} {Y : Shape (A × ℕ)} {wrap : Typing → A} {absent : A} {V : Stops} (ts us : List Terminal) (from n j : ℕ) (mode : Mode) (f : A × ℕ) → Choice Y wrap absent V → GoesOn ts (suc from)
    → ((vs : List Terminal) → Agree (suc (suc from)) vs ts → V vs from → ⊥) → Agree (suc (suc from)) us ts → Y mode us from f n j → EndsName us j → (t : Typing × ℕ) × TypedName mode us from t n j
typed_there ts us from n j mode f choice more out agree y s = elim (choice.split mode us from n j f y s) [
  | inl v ↦ absurd (out us agree v)
  | inr w ↦ (elim (w) [
    | inl t ↦ t
    | inr last ↦ absurd (goes_on_ends (goes_on_carried (suc (suc from)) agree more (omega arith)) last.1)
  ])
]

-- where the type with its name isn't read, the form isn't
pub choice_unread : {A : Type 0} {Y : Shape (A × ℕ)} {wrap : Typing → A} {absent : A} {V : Stops} (ts : List Terminal) (from room : ℕ) (u : Unread) → Choice Y wrap absent V → BeginsType ts from → GoesOn ts (suc from) → suc from ≤ length ts
    → ((us : List Terminal) → Agree (suc (suc from)) us ts → V us from → ⊥) → IsUnread TypedName EndsName ts from room u → IsUnread Y EndsName ts from room u
choice_unread ts from room (unread.Stuck k) choice begins more le out h =
    let past = behind_first k from (stuck_later ts from room k begins le h) in
    record {
      forward = h.forward;
      within = h.within;
      reached = arrived_made (choice_step ts from room choice) h.forward h.reached;
      none = λ us agree limit tree blocks j y s.
          let part = typed_there ts us from blocks j (strict limit) tree choice more out (agree_carried us ts agree (omega (arith, past))) y s in
          h.none us agree limit part.0 blocks j part.1 s;
    }
choice_unread ts from room (unread.TooDeep k) choice begins more le out h =
    let past = behind_first k from (over_later ts from room k begins le h) in
    record {
      forward = h.forward;
      within = h.within;
      reached = reached_made (choice_step ts from room choice) h.forward h.reached;
      apart = λ together. way_made (choice_step ts from room choice) (omega (arith, h.forward)) (h.apart together);
      counted = λ keyword us agree limit tree j y s.
          let part = typed_there ts us from room j (unseen_from limit (suc k)) tree choice more out (agree_carried us ts agree (omega (arith, past))) y s in
          h.counted keyword us agree limit part.0 j part.1 s;
      way = way_made (choice_step ts from room choice) (omega (arith, h.forward)) h.way;
      deep = λ us agree tree j y s.
          let part = typed_there ts us from room j (looks_before (suc k)) tree choice more out (agree_carried us ts agree (omega (arith, past))) y s in
          h.deep us agree part.0 j part.1 s;
    }
choice_unread ts from room unread.NoMemory choice begins more le out h = tt

pub choice_read : {A : Type 0} {Y : Shape (A × ℕ)} {wrap : Typing → A} {absent : A} {V : Stops} (ts : List Terminal) (from room to : ℕ) (t : Typing × ℕ) → Choice Y wrap absent V → IsReading TypedName EndsName ts from room t to
    → IsReading Y EndsName ts from room (wrap t.0, t.1) to
choice_read ts from room to t choice h = record { derived = choice.behind_type (strict nesting_limit) ts from room to t h.derived; stops = h.stops; within = h.within }

-- Without a type

-- what was read goes on
reached_at : {A : Type 0} {Y : Shape A} (ts : List Terminal) (from k room : ℕ) (t : A) → Good Y → ((mode : Mode) (n : ℕ) → Y mode ts from t n k) → k ≤ length ts → IsReached Y ts from k room
reached_at {Y = Y} ts from k room t good h le =
    let cut : length (take k ts) ≡ k = length-take-le k ts le in
    record {
      way = record {
        tokens = take k ts;
        same = agree_front k ts;
        long = omega (arith, cut);
        tree = t;
        limit = 0;
        blocks = 0;
        derived = subst (Y (strict 0) (take k ts) from t 0) (sym cut) (good.sound.carried (h (strict 0) 0) (agree_front k ts));
      };
      shallow = IsShallow.shallow (record {
        tokens = take k ts;
        same = agree_front k ts;
        long = omega (arith, cut);
        tree = t;
        derived = subst (Y (looks_before k) (take k ts) from t room) (sym cut) (good.sound.carried (h (looks_before k) room) (agree_front k ts));
      });
    }

no_type_carried : (ts us : List Terminal) (n i : ℕ) → Agree n us ts → suc i ≤ n → NoType ts i → NoType us i
no_type_carried ts us n i agree le free = (λ w. free.0 (name_carried n (agree_back us ts agree) w (omega (arith, le))), λ b h. free.1 b (base_carried n (agree_back us ts agree) h le))

nameless : (ts : List Terminal) (i : ℕ) → NoName ts i → NoType ts i
nameless ts i none = (λ w. none (codes "const") w, λ b h. let named = base_names ts i (suc i) b h i (omega arith) (omega arith) in none named.0 named.1)

typed_begins : (mode : Mode) (ts : List Terminal) (i n j : ℕ) (t : Typing × ℕ) → TypedName mode ts i t n j → EndsName ts j → BeginsTyped ts i
typed_begins mode ts i n j t h s =
    let parts = typed_parts mode ts i n j t h in
    typing_begins parts.1.typing (typed_last ts i parts.0 j t parts.1 s)

alone_stuck : {A : Type 0} {Y : Shape (A × ℕ)} {wrap : Typing → A} {absent : A} {V : Stops} (ts : List Terminal) (from room : ℕ) → Choice Y wrap absent V → from < length ts → ((us : List Terminal) → V us from → SomeName us from) → NoName ts from
    → IsStuck Y EndsName ts from room from
alone_stuck {A} {Y = Y} ts from room choice lt first none = stuck_here ts from room choice.good.fresh lt (λ us agree mode t n j y s. fails us agree mode t n j y s)
  where
    fails : (us : List Terminal) → Agree (suc from) us ts → (mode : Mode) (t : A × ℕ) (n j : ℕ) → Y mode us from t n j → EndsName us j → ⊥
    fails us agree mode t n j y s =
        let free : NoName us from = λ name h. none name (name_carried (suc from) (agree_back us ts agree) h (omega arith)) in
        elim (choice.split mode us from n j t y s) [
          | inl v ↦ (let named = first us v in free named.0 named.1)
          | inr w ↦ (elim (w) [
            | inl h ↦ (typed_begins mode us from n j h.0 h.1 s).0 (nameless us from free)
            | inr last ↦ free last.0.0 last.0.1
          ])
        ]

-- no type begins here, or none goes on
abbrev pub NoTyped : Stops
NoTyped ts i = BeginsType ts i × GoesOn ts (suc i) → ⊥

alone_unended : {A : Type 0} {Y : Shape (A × ℕ)} {wrap : Typing → A} {absent : A} {V : Stops} (ts : List Terminal) (from room : ℕ) → Choice Y wrap absent V → suc from < length ts → SomeName ts from → NoTyped ts from
    → ((us : List Terminal) → Agree (suc (suc from)) us ts → V us from → ⊥) → (EndsName ts (suc from) → ⊥) → IsStuck Y EndsName ts from room (suc from)
alone_unended {absent = absent} ts from room choice lt named free out goes = record {
  forward = omega arith;
  within = lt;
  reached = IsArrived.reached (reached_at ts from (suc from) room (absent, from) choice.good (λ mode n. choice.alone mode ts from n named.0 named.1) (omega (arith, lt)));
  none = λ us agree limit tree blocks j y s. elim (choice.split (strict limit) us from blocks j tree y s) [
    | inl v ↦ out us agree v
    | inr w ↦ (elim (w) [
      | inl h ↦
          (let begins = typed_begins (strict limit) us from blocks j h.0 h.1 s in
          let more = goes_on_carried (suc (suc from)) (agree_back us ts agree) begins.1 (omega arith) in
          begins.0 (no_type_carried ts us (suc (suc from)) from agree (omega arith) (λ w. free (inl w, more), λ b g. free (inr (b, g), more))))
      | inr last ↦ goes (ends_carried (suc (suc from)) (agree_back us ts agree) last.1 (omega arith))
    ])
  ];
}

pub alone_reads : {A : Type 0} {Y : Shape (A × ℕ)} {wrap : Typing → A} {absent : A} {V : Stops} (tokens : Tokens) (from room : ℕ) (r : Answer (Found (A × ℕ)) Unread) → Choice Y wrap absent V → IsInput tokens → from < length tokens.list
    → NoTyped (terminals_of tokens) from → ((us : List Terminal) → V us from → SomeName us from) → ((us : List Terminal) → Agree (suc (suc from)) us (terminals_of tokens) → V us from → ⊥)
    → Named (terminals_of tokens) absent from r → Reads Y EndsName (terminals_of tokens) from room r
alone_reads {Y = Y} {absent = absent} tokens from room (Ok found) choice input lt free first out m =
    let ts = terminals_of tokens in
    let made : Y (strict nesting_limit) ts from (absent, from) room found.to = subst (Y (strict nesting_limit) ts from (absent, from) room) (sym m.1) (choice.alone (strict nesting_limit) ts from room m.2.0 m.2.1) in
    record {
      derived = subst (λ x. Y (strict nesting_limit) ts from x room found.to) (sym m.0) made;
      stops = subst (EndsName ts) (sym m.1) m.3;
      within = omega (arith, m.1, length_terminals tokens, goes_on tokens from kind.Name input (name_kind m.2.1) (omega arith));
    }
alone_reads {Y = Y} tokens from room (Err (unread.Stuck k)) choice input lt free first out (inl m) =
    subst (IsStuck Y EndsName (terminals_of tokens) from room) (sym m.0) (alone_stuck (terminals_of tokens) from room choice (omega (arith, lt, length_terminals tokens)) first m.1)
alone_reads {Y = Y} tokens from room (Err (unread.Stuck k)) choice input lt free first out (inr m) =
    let ts = terminals_of tokens in
    let inside : suc from < length ts = omega (arith, length_terminals tokens, goes_on tokens from kind.Name input (name_kind m.1.1) (omega arith)) in
    subst (IsStuck Y EndsName ts from room) (sym m.0) (alone_unended ts from room choice inside m.1 free out m.2)
alone_reads tokens from room (Err (unread.TooDeep k)) choice input lt free first out (inl m) = absurd m.0
alone_reads tokens from room (Err (unread.TooDeep k)) choice input lt free first out (inr m) = absurd m.0
alone_reads tokens from room (Err unread.NoMemory) choice input lt free first out (inl m) = absurd m.0
alone_reads tokens from room (Err unread.NoMemory) choice input lt free first out (inr m) = absurd m.0

-- `void`

pub void_first : (from : ℕ) (us : List Terminal) → VoidLast us from → SomeName us from
void_first from us v = (codes "void", v.0)

-- no type begins with `void`
pub void_out : (ts : List Terminal) (from : ℕ) → BeginsType ts from → (us : List Terminal) → Agree (suc (suc from)) us ts → VoidLast us from → ⊥
void_out ts from (inl w) us agree v = const_is_not_void (one_name (name_carried (suc (suc from)) agree w (omega arith)) v.0)
void_out ts from (inr h) us agree v = void_is_no_base us from (suc from) h.0 v.0 (base_carried (suc (suc from)) agree h.1 (omega arith))

pub void_absent : (ts : List Terminal) (from : ℕ) → (IsName ts from (codes "void") → SomeName ts (suc from) → ⊥) → (us : List Terminal) → Agree (suc (suc from)) us ts → VoidLast us from → ⊥
void_absent ts from none us agree v =
    let back = agree_back us ts agree in
    none (name_carried (suc (suc from)) back v.0 (omega arith)) (v.1.0.0, name_carried (suc (suc from)) back v.1.0.1 (omega arith))

void_unended : (ts : List Terminal) (from room : ℕ) → suc (suc from) < length ts → IsName ts from (codes "void") → SomeName ts (suc from) → (EndsName ts (suc (suc from)) → ⊥) → IsStuck ResultName EndsName ts from room (suc (suc from))
void_unended ts from room lt void named goes = record {
  forward = omega arith;
  within = lt;
  reached = IsArrived.reached (reached_at ts from (suc (suc from)) room (result_type.Void, suc from) good_result_name (λ mode n. result_void mode ts from n named.0 void named.1) (omega (arith, lt)));
  none = λ us agree limit tree blocks j y s.
      let n = suc (suc (suc from)) in
      let here : BeginsVoid us from = (name_carried n agree void (omega arith), (named.0, name_carried n agree named.1 (omega arith))) in
      elim (result_split (strict limit) us from blocks j tree y s) [
        | inl v ↦ goes (ends_carried n (agree_back us ts agree) v.1.1 (omega arith))
        | inr w ↦ (elim (w) [
          | inl h ↦ void_typed us us from (agree_same us) here (typed_begins (strict limit) us from blocks j h.0 h.1 s)
          | inr last ↦ void_alone us us from (agree_same us) here last
        ])
      ];
}

pub void_reads : (tokens : Tokens) (from room : ℕ) (r : Answer (Found (ResultType × ℕ)) Unread) → IsInput tokens → IsName (terminals_of tokens) from (codes "void") → SomeName (terminals_of tokens) (suc from)
    → Named (terminals_of tokens) result_type.Void (suc from) r → Reads ResultName EndsName (terminals_of tokens) from room r
void_reads tokens from room (Ok found) input void named m =
    let ts = terminals_of tokens in
    let made : ResultName (strict nesting_limit) ts from (result_type.Void, suc from) room found.to =
    subst (ResultName (strict nesting_limit) ts from (result_type.Void, suc from) room) (sym m.1) (result_void (strict nesting_limit) ts from room named.0 void named.1) in
    record {
      derived = subst (λ x. ResultName (strict nesting_limit) ts from x room found.to) (sym m.0) made;
      stops = subst (EndsName ts) (sym m.1) m.3;
      within = omega (arith, m.1, length_terminals tokens, goes_on tokens (suc from) kind.Name input (name_kind named.1) (omega arith));
    }
void_reads tokens from room (Err (unread.Stuck k)) input void named (inl m) = absurd (m.1 named.0 named.1)
void_reads tokens from room (Err (unread.Stuck k)) input void named (inr m) =
    let ts = terminals_of tokens in
    let inside : suc (suc from) < length ts = omega (arith, length_terminals tokens, goes_on tokens (suc from) kind.Name input (name_kind named.1) (omega arith)) in
    subst (IsStuck ResultName EndsName ts from room) (sym m.0) (void_unended ts from room inside void named m.2)
void_reads tokens from room (Err (unread.TooDeep k)) input void named (inl m) = absurd m.0
void_reads tokens from room (Err (unread.TooDeep k)) input void named (inr m) = absurd m.0
void_reads tokens from room (Err unread.NoMemory) input void named (inl m) = absurd m.0
void_reads tokens from room (Err unread.NoMemory) input void named (inr m) = absurd m.0
