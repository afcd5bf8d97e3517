-- How atoms are read: those in brackets, and `sizeof`.
use Rattle.std.proofs.Common.{◌≡◌, ℕ, ℤ, zero, suc, nat_lt, ◌+◌, ◌≤◌, ◌<◌, ◌⊎◌, inl, inr, ◌++◌, length, take, Bool, true, false, Ok, Err, codes, List, [], ◌∷◌, refl, sym, ap, ◌∙◌, subst, arith}
use Rattle.std.proofs.lemmas.Bool.{true≢false}
use Rattle.std.proofs.lemmas.List.{append_assoc, length-append, length-take-le}
use Rattle.std.proofs.lemmas.Option.{slice_get_within}
use Rattle.std.specs.Prelude.{Contains}
use Rattle.px_base.specs.declared.refusals.Span.{Span}
use Rattle.px_lexer.specs.declared.spelling.Keyword.{Keyword}
use Rattle.px_lexer.specs.declared.spelling.Keyword.TheVariants as word
use Rattle.px_lexer.specs.declared.spelling.Operator.{Operator}
use Rattle.px_lexer.specs.declared.spelling.Operator.TheVariants as sign
use Rattle.px_lexer.specs.declared.token_list.TokenKind.{TokenKind}
use Rattle.px_lexer.specs.declared.token_list.TokenKind.TheVariants as kind
use Rattle.px_tree.specs.declared.typings.«Type».{«Type» as Typing}
use Rattle.px_tree.specs.declared.typings.BaseType.TheVariants as base
use Rattle.px_tree.specs.declared.expressions.Expr.{Expr}
use Rattle.px_tree.specs.declared.expressions.Entry.{Entry}
use Rattle.px_tree.specs.declared.expressions.ExprForm.TheVariants as form
use Rattle.px_exprs.specs.declared.readings.Unread.{Unread}
use Rattle.px_exprs.specs.declared.readings.Unread.TheVariants as unread
use Rattle.px_lexer.specs.Terminals.{Terminal, Stands, HasKind, IsKeyword, IsOperator, IsAt, terminals_of}
use Rattle.px_exprs.specs.Typings.{bases, IsTyping, HasConst, HasAxes}
use Rattle.px_exprs.specs.Codes.{kind_code, sign_code, word_code, code_at, is_text_kind, Past}
use Rattle.px_exprs.specs.Grammar.{node, AreTexts, IsAtom, AreExprs, AreEntries, HasComma, HasCommas}
use Rattle.px_lexer.specs.declared.token_list.Tokens.{Tokens}
use Rattle.px_exprs.specs.Inputs.{IsInput}
use Rattle.px_exprs.specs.Lists.{Listed}
use Rattle.px_exprs.specs.Parts.{IsTupleOf}
use Rattle.px_exprs.specs.Words.{IsBehind, IsNamed, IsTooDeepAt}
use Rattle.px_exprs.specs.Readings.{Form, Stops, Agree, At, HasWay, IsReached, IsStuck, IsOver, IsUnread, IsReading}
use Rattle.px_exprs.proofs.Agreement.{agree_back, agree_through, agree_carried, agree_append, agree_front, agree_take, kind_carried}
use Rattle.px_exprs.proofs.Codes.{code_here, name_code}
use Rattle.px_lexer.proofs.OneToken.{one_kind}
use Rattle.px_exprs.proofs.Beginnings.{atom_first, atom_begins}
use Rattle.px_exprs.proofs.Keeping.{place_carried, names_carried, view_carried, const_carried, comma_carried, exprs_carried, entries_carried}
use Rattle.px_exprs.proofs.Stops.{past_behind, code_carried}
use Rattle.px_exprs.proofs.TokenReading.{goes_on}
use Rattle.px_lexer.proofs.TokenAccess.{length_terminals, some_name}
use Rattle.px_exprs.proofs.Fresh.{stands_behind, way_atom}
use Rattle.px_exprs.proofs.Steps.{Step, way_made, fails}
use Rattle.px_exprs.proofs.Elements.{below_next, not_below}

-- an inner part with its bracket
pub record Inner {B : Type 0} (X : Form B) (closing : Operator) (us : List Terminal) (l c : ℕ) : Type 0 where
  pub tree : B
  pub depth : ℕ
  pub end : ℕ
  pub derived : X us l tree depth end
  pub close : IsOperator us end closing
  pub nests : c ≡ suc depth

-- atoms with such a head and an inner part behind it
pub record IsEnclosed {B : Type 0} (head : Stops) (behind : ℕ → ℕ) (X : Form B) (closing : Operator) : Type 0 where
  pub forward : (i : ℕ) → i < behind i
  pub head_carried : {ts us : List Terminal} {i n : ℕ} → head ts i → behind i ≤ n → Agree n us ts → head us i
  pub longer : {us vs : List Terminal} {i d : ℕ} {e : B} → Agree (length us) vs us → X us i e d (length us) → X vs i e d (length us)
  pub made : {us : List Terminal} {i d k : ℕ} {e : B} → head us i → X us (behind i) e d k → IsOperator us k closing → (f : Expr) × IsAtom us i f (suc d) (suc k)
  pub parts : {us : List Terminal} {i c j : ℕ} {f : Expr} → head us i → IsAtom us i f c j → Inner X closing us (behind i) c

abbrev some_sign : Operator → Terminal
some_sign o = record { kind = kind.Operator o; at = record { line = 1; column = 1 }; spelling = [] }

sign_there : (us : List Terminal) (o : Operator) → IsOperator (us ++ some_sign o ∷ []) (length us) o
sign_there us o = record { token = some_sign o; stands = stands_behind us (some_sign o); kind = refl }

pub enclosed_step : {B : Type 0} {head : Stops} {behind : ℕ → ℕ} {X : Form B} {closing : Operator} → IsEnclosed head behind X closing → {ts : List Terminal} {i : ℕ} (room : ℕ) → head ts i
    → Step X (At closing) IsAtom (Past 1) ts i (behind i) room (suc room)
enclosed_step {behind = behind} {closing = closing} laws {ts} {i} room h = record {
  forward = omega (arith, laws.forward i);
  make = λ us agree long e d x.
      let all : List Terminal = us ++ some_sign closing ∷ [] in
      let cut : Agree (length us) all us = agree_append us (some_sign closing ∷ []) in
      let there = laws.head_carried (laws.head_carried h (omega arith) agree) long cut in
      let whole = laws.made there (laws.longer cut x) (sign_there us closing) in
      let longer : length all ≡ suc (length us) = omega (arith, length-append us (some_sign closing ∷ [])) in (
        record {
          tokens = all;
          same = cut;
          long = omega (arith, longer);
          tree = whole.0;
          depth = suc d;
          derived = subst (λ n. IsAtom all i whole.0 (suc d) n) (sym longer) whole.1;
        },
        λ le. omega (arith, le),
      );
  split = λ us agree f c j whole stop.
      let part = laws.parts (laws.head_carried h (omega arith) agree) whole in
      (record { tree = part.tree; depth = part.depth; end = part.end; derived = part.derived; stops = part.close }, λ lt. omega (arith, lt, part.nests));
}

abbrev is_sign : TokenKind → Bool
is_sign (kind.Operator o) = true
is_sign _ = false

-- where there is no room for a nesting, it shows at the bracket that opens
pub enclosed_over : {B : Type 0} {head : Stops} {behind : ℕ → ℕ} {X : Form B} {closing opening : Operator} → IsEnclosed head behind X closing → {ts : List Terminal} {i room : ℕ} (p : ℕ)
    → suc p ≡ behind i → head ts i → IsOperator ts p opening → p < length ts → room ≤ 0 → IsReached IsAtom ts i p room → HasWay X ts (behind i) (behind i) → (u : Unread) → IsTooDeepAt p u
    → IsUnread IsAtom (Past 1) ts i room u
enclosed_over laws p e h opened within none begun way (unread.Stuck k) at = absurd at
enclosed_over {behind = behind} laws {ts} {i} {room} p e h opened within none begun way (unread.TooDeep k) at =
    let over : IsOver IsAtom (Past 1) ts i room p = record {
      forward = omega (arith, laws.forward i, e);
      within = within;
      counted = λ word. true≢false (ap is_sign (one_kind opened word));
      reached = begun;
      way = subst (λ n. HasWay IsAtom ts i n) (sym e) (way_made (enclosed_step laws 0 h) (omega arith) way);
      deep = λ us agree tree depth j whole stop. let part = laws.parts (laws.head_carried h (omega (arith, e)) agree) whole in omega (arith, part.nests, none);
    } in
    subst (λ n. IsOver IsAtom (Past 1) ts i room n) (sym at) over
enclosed_over laws p e h opened within none begun way unread.NoMemory at = absurd at

-- what was read within its brackets is an atom
pub enclosed_read : {B : Type 0} {X : Form B} {closing : Operator} (tokens : Tokens) → IsInput tokens → {i l left room d c k m : ℕ} {e : B} {f : Expr} → sign_code closing ≤ 33
    → IsReading X (At closing) (terminals_of tokens) l left e d k → room ≡ suc left → c ≡ d + 1 → m ≡ k + 1 → IsAtom (terminals_of tokens) i f (suc d) (suc k)
    → IsReading IsAtom (Past 1) (terminals_of tokens) i room f c m
enclosed_read {closing = closing} tokens input {i} {d = d} {c} {k} {m} {f = f} low reading enough deep end atom =
    let ts = terminals_of tokens in
    let deeper : suc d ≡ c = omega (arith, deep) in
    let further : suc k ≡ m = omega (arith, end) in
    record {
      derived = subst (λ n. IsAtom ts i f c n) further (subst (λ n. IsAtom ts i f n (suc k)) deeper atom);
      shallow = omega (arith, deep, enough, reading.shallow);
      stops = subst (Past 1 ts) further (past_behind reading.stops refl);
      within = omega (arith, end, goes_on tokens k (kind.Operator closing) input reading.stops low, length_terminals tokens);
    }

-- Brackets

abbrev pub IsBracket : Operator → Stops
IsBracket opening ts i = IsOperator ts i opening

here : {ts : List Terminal} {i : ℕ} {opening : Operator} (h : IsOperator ts i opening) → IsAt ts i h.token.at
here h = record { token = h.token; stands = h.stands; placed = refl }

abbrev pub next : ℕ → ℕ
next i = suc i

-- the answers of a function that reads brackets
pub bracket_over : {B : Type 0} {X : Form B} {closing opening : Operator} → IsEnclosed (IsBracket opening) next X closing → {ts : List Terminal} {i room : ℕ} → IsOperator ts i opening
    → HasWay X ts (suc i) (suc i) → (u : Unread) → IsTooDeepAt i u × (room ≤ 0) → IsUnread IsAtom (Past 1) ts i room u
bracket_over laws {ts} {i} {room} h way u over =
    let within : i < length ts = slice_get_within ts i h.token h.stands in
    enclosed_over laws i refl h h within over.1 (IsReached.reached (way_atom ts i room (omega (arith, within)))) way u over.0

pub bracket_refused : {B : Type 0} {X : Form B} {closing opening : Operator} → IsEnclosed (IsBracket opening) next X closing → {ts : List Terminal} {i left room : ℕ}
    → IsOperator ts i opening → room ≡ suc left → (u : Unread) → IsUnread X (At closing) ts (i + 1) left u → IsUnread IsAtom (Past 1) ts i room u
bracket_refused {X = X} {closing} laws {ts} {i} {left} {room} h enough u refused =
    let next : i + 1 ≡ suc i = omega arith in
    subst (λ n. IsUnread IsAtom (Past 1) ts i n u) (sym enough) (fails (enclosed_step laws left h) u (subst (λ n. IsUnread X (At closing) ts n left u) next refused))

-- the inner part where its index is a sum
pub behind_bracket : {B : Type 0} {X : Form B} {S : Stops} {ts : List Terminal} {i left d k : ℕ} {e : B} → IsReading X S ts (i + 1) left e d k → X ts (suc i) e d k
behind_bracket {X = X} {ts = ts} {i} {d = d} {k} {e} reading = let next : i + 1 ≡ suc i = omega arith in subst (λ n. X ts n e d k) next reading.derived

pub way_listed : {B : Type 0} (Xs : Form (List B)) (ts : List Terminal) (k : ℕ) → k ≤ length ts → HasWay (Listed Xs true) ts k k
way_listed Xs ts k le =
    let long : length (take k ts) ≡ k = length-take-le k ts le in
    record {
      tokens = take k ts;
      same = agree_front k ts;
      long = omega (arith, long);
      tree = ([], false);
      depth = 0;
      derived = subst (λ n. Listed Xs true (take k ts) k ([], false) 0 n) (sym long) (Listed.nothing refl);
    }

exprs_longer : {us vs : List Terminal} {i d : ℕ} {e : List Expr × Bool} → Agree (length us) vs us → Listed AreExprs true us i e d (length us) → Listed AreExprs true vs i e d (length us)
exprs_longer {us} {vs} agree x = by_cases (omega arith) x
  where
    by_cases : {i d j : ℕ} {e : List Expr × Bool} → j ≤ length us → Listed AreExprs true us i e d j → Listed AreExprs true vs i e d j
    by_cases le (Listed.nothing may) = Listed.nothing may
    by_cases le (Listed.some es ending) =
        let comma = comma_carried {us = vs} (length us) agree ending in
        Listed.some ((exprs_carried (length us) agree es).1 (omega (arith, comma.0, le))) (comma.1 le)

entries_longer : {us vs : List Terminal} {i d : ℕ} {e : List Entry × Bool} → Agree (length us) vs us → Listed AreEntries true us i e d (length us) → Listed AreEntries true vs i e d (length us)
entries_longer {us} {vs} agree x = by_cases (omega arith) x
  where
    by_cases : {i d j : ℕ} {e : List Entry × Bool} → j ≤ length us → Listed AreEntries true us i e d j → Listed AreEntries true vs i e d j
    by_cases le (Listed.nothing may) = Listed.nothing may
    by_cases le (Listed.some es ending) =
        let comma = comma_carried {us = vs} (length us) agree ending in
        Listed.some ((entries_carried (length us) agree es).1 (omega (arith, comma.0, le))) (comma.1 le)

-- Lists and dicts

pub list_atom : {us : List Terminal} {i d k : ℕ} {at : Span} {e : List Expr × Bool} {f : Expr} → IsAt us i at → IsOperator us i sign.OpenBracket → Listed AreExprs true us (suc i) e d k
    → IsOperator us k sign.CloseBracket → f ≡ node i at (form.List e.0) → IsAtom us i f (suc d) (suc k)
list_atom at opened (Listed.nothing may) close same = IsAtom.empty_list at opened close same
list_atom at opened (Listed.some es ending) close same = IsAtom.list at opened es ending close same

list_parts : {us : List Terminal} {i c j : ℕ} {f : Expr} → IsOperator us i sign.OpenBracket → IsAtom us i f c j → Inner (Listed AreExprs true) sign.CloseBracket us (suc i) c
list_parts h (IsAtom.empty_list at opened close same) = record { tree = ([], false); depth = 0; end = _; derived = Listed.nothing refl; close = close; nests = refl }
list_parts h (IsAtom.list at opened es ending close same) = record { tree = _; depth = _; end = _; derived = Listed.some es ending; close = close; nests = refl }
list_parts h p = absurd (omega (arith, code_here h, atom_first p))

pub list_enclosed : IsEnclosed (IsBracket sign.OpenBracket) next (Listed AreExprs true) sign.CloseBracket
list_enclosed = record {
  forward = λ i. omega arith;
  head_carried = λ h le agree. kind_carried h (omega (arith, le)) agree;
  longer = exprs_longer;
  made = λ {us} {i} {d} {k} {e} h x close. (node i h.token.at (form.List e.0), list_atom (here h) h x close refl);
  parts = list_parts;
}

pub dict_atom : {us : List Terminal} {i d k : ℕ} {at : Span} {e : List Entry × Bool} {f : Expr} → IsAt us i at → IsOperator us i sign.OpenBrace → Listed AreEntries true us (suc i) e d k
    → IsOperator us k sign.CloseBrace → f ≡ node i at (form.Dict e.0) → IsAtom us i f (suc d) (suc k)
dict_atom at opened (Listed.nothing may) close same = IsAtom.empty_dict at opened close same
dict_atom at opened (Listed.some es ending) close same = IsAtom.dict at opened es ending close same

dict_parts : {us : List Terminal} {i c j : ℕ} {f : Expr} → IsOperator us i sign.OpenBrace → IsAtom us i f c j → Inner (Listed AreEntries true) sign.CloseBrace us (suc i) c
dict_parts h (IsAtom.empty_dict at opened close same) = record { tree = ([], false); depth = 0; end = _; derived = Listed.nothing refl; close = close; nests = refl }
dict_parts h (IsAtom.dict at opened es ending close same) = record { tree = _; depth = _; end = _; derived = Listed.some es ending; close = close; nests = refl }
dict_parts h p = absurd (omega (arith, code_here h, atom_first p))

pub dict_enclosed : IsEnclosed (IsBracket sign.OpenBrace) next (Listed AreEntries true) sign.CloseBrace
dict_enclosed = record {
  forward = λ i. omega arith;
  head_carried = λ h le agree. kind_carried h (omega (arith, le)) agree;
  longer = entries_longer;
  made = λ {us} {i} {d} {k} {e} h x close. (node i h.token.at (form.Dict e.0), dict_atom (here h) h x close refl);
  parts = dict_parts;
}

-- Parentheses

no_items : {e : Expr} → [] ≡ e ∷ [] → ⊥
no_items same = let long : 0 ≡ 1 = ap length same in omega (arith, long)

abbrev tail_of : List Expr → List Expr
tail_of [] = []
tail_of (e ∷ es) = es

abbrev head_of : Expr → List Expr → Expr
head_of otherwise [] = otherwise
head_of otherwise (e ∷ es) = e

one_item : {e f : Expr} {es : List Expr} → f ∷ es ≡ e ∷ [] → es ≡ []
one_item same = ap tail_of same

some_items : {us : List Terminal} {k d j : ℕ} {es : List Expr} → AreExprs us k es d j → es ≡ [] → ⊥
some_items (AreExprs.last_expr p) same = let long : 1 ≡ 0 = ap length same in omega (arith, long)
some_items (AreExprs.more_exprs {others = others} p comma es) same = let long : suc (length others) ≡ 0 = ap length same in omega (arith, long)

tuple_of : {us : List Terminal} {i l m d : ℕ} {es : List Expr} {f : Expr} → IsOperator us i sign.OpenParenthesis → AreExprs us (suc i) es d l → HasComma us l m
    → IsOperator us m sign.CloseParenthesis → IsTupleOf us i es (nat_lt l m) f → IsAtom us i f (suc d) (suc m)
tuple_of {us} {i} {d = d} opened (AreExprs.last_expr {j = l} {e = e} p) HasComma.no_comma close (IsTupleOf.one same none) =
    subst (λ x. IsAtom us i x (suc d) (suc l)) (ap (head_of e) same) (IsAtom.in_parentheses opened p close)
tuple_of opened (AreExprs.last_expr p) HasComma.no_comma close (IsTupleOf.other several at place same) = absurd (several _ refl (not_below _))
tuple_of opened (AreExprs.last_expr p) (HasComma.comma comma) close (IsTupleOf.one same none) = absurd (true≢false (sym (below_next _) ∙ none))
tuple_of opened (AreExprs.last_expr p) (HasComma.comma comma) close (IsTupleOf.other several at place same) = IsAtom.tuple place opened (HasCommas.one_with_comma p comma) close same
tuple_of opened (AreExprs.more_exprs p comma es) ending close (IsTupleOf.one same none) = absurd (some_items es (one_item same))
tuple_of opened (AreExprs.more_exprs p comma es) ending close (IsTupleOf.other several at place same) = IsAtom.tuple place opened (HasCommas.several p comma es ending) close same

pub tuple_atom : {us : List Terminal} {i d k : ℕ} {e : List Expr × Bool} {f : Expr} → IsOperator us i sign.OpenParenthesis → Listed AreExprs true us (suc i) e d k
    → IsOperator us k sign.CloseParenthesis → IsTupleOf us i e.0 e.1 f → IsAtom us i f (suc d) (suc k)
tuple_atom opened (Listed.nothing may) close (IsTupleOf.one same none) = absurd (no_items same)
tuple_atom opened (Listed.nothing may) close (IsTupleOf.other several at place same) = IsAtom.empty_tuple place opened close same
tuple_atom opened (Listed.some es ending) close tuple = tuple_of opened es ending close tuple

-- what parentheses are round any elements
some_tuple : {us : List Terminal} {i : ℕ} → IsOperator us i sign.OpenParenthesis → (es : List Expr) (has_comma : Bool) → (f : Expr) × IsTupleOf us i es has_comma f
some_tuple {i = i} h [] has_comma = (node i h.token.at (form.Tuple []), IsTupleOf.other (λ only same none. no_items same) h.token.at (here h) refl)
some_tuple h (e ∷ []) false = (e, IsTupleOf.one refl refl)
some_tuple {i = i} h (e ∷ []) true = (node i h.token.at (form.Tuple (e ∷ [])), IsTupleOf.other (λ only same none. true≢false none) h.token.at (here h) refl)
some_tuple {i = i} h (e ∷ (f ∷ es)) has_comma =
    (node i h.token.at (form.Tuple (e ∷ (f ∷ es))), IsTupleOf.other (λ only same none. let long : suc (length es) ≡ 0 = ap length (one_item same) in omega (arith, long)) h.token.at (here h) refl)

tuple_parts : {us : List Terminal} {i c j : ℕ} {f : Expr} → IsOperator us i sign.OpenParenthesis → IsAtom us i f c j → Inner (Listed AreExprs true) sign.CloseParenthesis us (suc i) c
tuple_parts h (IsAtom.in_parentheses opened p close) = record { tree = _; depth = _; end = _; derived = Listed.some (AreExprs.last_expr p) HasComma.no_comma; close = close; nests = refl }
tuple_parts h (IsAtom.empty_tuple at opened close same) = record { tree = ([], false); depth = 0; end = _; derived = Listed.nothing refl; close = close; nests = refl }
tuple_parts h (IsAtom.tuple at opened (HasCommas.one_with_comma p comma) close same) =
    record { tree = _; depth = _; end = _; derived = Listed.some (AreExprs.last_expr p) (HasComma.comma comma); close = close; nests = refl }
tuple_parts h (IsAtom.tuple at opened (HasCommas.several p comma es ending) close same) =
    record { tree = _; depth = _; end = _; derived = Listed.some (AreExprs.more_exprs p comma es) ending; close = close; nests = refl }
tuple_parts h p = absurd (omega (arith, code_here h, atom_first p))

pub tuple_enclosed : IsEnclosed (IsBracket sign.OpenParenthesis) next (Listed AreExprs true) sign.CloseParenthesis
tuple_enclosed = record {
  forward = λ i. omega arith;
  head_carried = λ h le agree. kind_carried h (omega (arith, le)) agree;
  longer = exprs_longer;
  made = λ {us} {i} {d} {k} {e} h x close. let tuple = some_tuple h e.0 e.1 in (tuple.0, tuple_atom h x close tuple.1);
  parts = tuple_parts;
}

pub not_one : {es : List Expr} → (length es ≡ 1 → ⊥) → (only : Expr) → es ≡ only ∷ [] → ⊥
not_one none only same = none (ap length same)

pub other_tuple : {ts : List Terminal} {i : ℕ} {es fs : List Expr} {has_comma : Bool} {e : Expr} → (span : Span) × IsAt ts i span × (e ≡ node i span (form.Tuple fs)) → fs ≡ es
    → ((only : Expr) → es ≡ only ∷ [] → has_comma ≡ false → ⊥) → IsTupleOf ts i es has_comma e
other_tuple {ts} {i} tree same several = IsTupleOf.other several tree.0 tree.1 (tree.2 ∙ ap (λ gs. node i tree.0 (form.Tuple gs)) same)

-- `sizeof`

abbrev pub IsSizeof : Stops
IsSizeof ts i = IsKeyword ts i word.Sizeof × IsOperator ts (suc i) sign.OpenParenthesis

abbrev pub behind_sizeof : ℕ → ℕ
behind_sizeof i = suc (suc i)

typing_longer : {us vs : List Terminal} {i d : ℕ} {t : Typing} → Agree (length us) vs us → IsTyping us i t d (length us) → IsTyping vs i t d (length us)
typing_longer {us} {vs} {i} {d} {t} agree h =
    let const = const_carried {us = vs} (length us) agree i t.is_const h.base_from h.const in
    let names = names_carried us vs (length us) agree h.base_from h.axes_from h.base.words h.base.stand in
    let axes = view_carried {us = vs} (length us) agree h.axes_from t.axes d (length us) h.axes in
    record {
      number = h.number;
      placed = place_carried (length us) agree h.placed (slice_get_within us i h.placed.token h.placed.stands);
      base_from = h.base_from;
      axes_from = h.axes_from;
      const = const.1 (omega (arith, names.0, axes.0));
      base = record { words = h.base.words; stand = names.1 (omega (arith, axes.0)); known = h.base.known };
      axes = axes.1 (omega arith);
    }

sizeof_parts : {us : List Terminal} {i c j : ℕ} {f : Expr} → IsSizeof us i → IsAtom us i f c j → Inner IsTyping sign.CloseParenthesis us (suc (suc i)) c
sizeof_parts h (IsAtom.sizeof at word opened typing close same) = record { tree = _; depth = _; end = _; derived = typing; close = close; nests = refl }
sizeof_parts h p = absurd (omega (arith, code_here h.0, atom_first p))

pub sizeof_enclosed : IsEnclosed IsSizeof behind_sizeof IsTyping sign.CloseParenthesis
sizeof_enclosed = record {
  forward = λ i. omega arith;
  head_carried = λ h le agree. (kind_carried h.0 (omega (arith, le)) agree, kind_carried h.1 (omega (arith, le)) agree);
  longer = typing_longer;
  made = λ {us} {i} {d} {k} {e} h x close. (node i h.0.token.at (form.Sizeof e), IsAtom.sizeof (record { token = h.0.token; stands = h.0.stands; placed = refl }) h.0 h.1 x close refl);
  parts = sizeof_parts;
}

abbrev object_name : Terminal
object_name = record { kind = kind.Name; at = record { line = 1; column = 1 }; spelling = codes "object" }

object_known : Contains bases (codes "object" ∷ [], base.Object)
unfolding bases
object_known = (1, omega arith, refl)

-- a type begins wherever the tokens end
way_typing : (ts : List Terminal) (k : ℕ) → k ≤ length ts → HasWay IsTyping ts k k
way_typing ts k le =
    let front : List Terminal = take k ts in
    let all : List Terminal = front ++ object_name ∷ [] in
    let cut : length front ≡ k = length-take-le k ts le in
    let long : length all ≡ suc k = omega (arith, length-append front (object_name ∷ []), cut) in
    let stands : Stands all k object_name = subst (λ n. Stands all n object_name) cut (stands_behind front object_name) in
    let object : Typing = record { number = k; at = object_name.at; is_const = false; base = base.Object; axes = [] } in
    let typing : IsTyping all k object 0 (suc k) = record {
      number = refl;
      placed = record { token = object_name; stands = stands; placed = refl };
      base_from = k;
      axes_from = suc k;
      const = HasConst.plain refl refl;
      base = record { words = codes "object" ∷ []; stand = (record { token = object_name; stands = stands; kind = refl; spelled = refl }, refl); known = object_known };
      axes = HasAxes.no_view refl refl refl;
    } in
    record {
      tokens = all;
      same = agree_take k ts (object_name ∷ []) le;
      long = omega (arith, long);
      tree = object;
      depth = 0;
      derived = subst (λ n. IsTyping all k object 0 n) (sym long) typing;
    }

-- behind `sizeof` go on a parenthesis and a type
way_sizeof : {ts : List Terminal} {i : ℕ} → IsKeyword ts i word.Sizeof → HasWay IsAtom ts i (suc i)
way_sizeof {ts} {i} h =
    let within : i < length ts = slice_get_within ts i h.token h.stands in
    let front : List Terminal = take (suc i) ts in
    let us : List Terminal = front ++ some_sign sign.OpenParenthesis ∷ [] in
    let cut : length front ≡ suc i = length-take-le (suc i) ts (omega (arith, within)) in
    let long : length us ≡ suc (suc i) = omega (arith, length-append front (some_sign sign.OpenParenthesis ∷ []), cut) in
    let agree : Agree (suc i) us ts = agree_take (suc i) ts (some_sign sign.OpenParenthesis ∷ []) (omega (arith, within)) in
    let opened : IsOperator us (suc i) sign.OpenParenthesis = subst (λ n. IsOperator us n sign.OpenParenthesis) cut (sign_there front sign.OpenParenthesis) in
    let head : IsSizeof us i = (kind_carried h (omega arith) agree, opened) in
    let whole = way_made (enclosed_step sizeof_enclosed 0 head) (omega arith) (way_typing us (suc (suc i)) (omega (arith, long))) in
    record {
      tokens = whole.tokens;
      same = agree_through _ _ _ (agree_carried _ _ whole.same (omega arith)) agree;
      long = omega (arith, whole.long);
      tree = whole.tree;
      depth = whole.depth;
      derived = whole.derived;
    }

-- the word alone never is too deep
sizeof_reached : {ts : List Terminal} {i room : ℕ} → IsKeyword ts i word.Sizeof → IsReached IsAtom ts i (suc i) room
sizeof_reached {ts} {i} {room} h =
    let within : i < length ts = slice_get_within ts i h.token h.stands in
    IsReached.behind_sizeof i refl (omega arith) h (way_atom ts i room (omega (arith, within))) (way_sizeof h)

sizeof_stuck : {ts : List Terminal} {i room : ℕ} → IsKeyword ts i word.Sizeof → suc i < length ts → (IsOperator ts (suc i) sign.OpenParenthesis → ⊥) → IsStuck IsAtom (Past 1) ts i room (suc i)
sizeof_stuck {ts} {i} h within none = record {
  forward = omega arith;
  within = within;
  reached = sizeof_reached h;
  none = λ us agree tree depth j whole stop. no_sizeof us agree whole;
}
  where
    no_sizeof : (us : List Terminal) → Agree (suc (suc i)) us ts → {f : Expr} {c j : ℕ} → IsAtom us i f c j → ⊥
    no_sizeof us agree (IsAtom.sizeof at word opened typing close same) = none (kind_carried opened (omega arith) (agree_back us ts agree))
    no_sizeof us agree p = omega (arith, code_here (kind_carried h (omega arith) agree), atom_first p)

-- The answers of the function that reads it

parenthesis_behind : {ts : List Terminal} {i : ℕ} → IsOperator ts (i + 1) sign.OpenParenthesis → IsOperator ts (suc i) sign.OpenParenthesis
parenthesis_behind {ts} {i} h = let next : i + 1 ≡ suc i = omega arith in subst (λ n. IsOperator ts n sign.OpenParenthesis) next h

pub sizeof_unopened : (tokens : Tokens) → IsInput tokens → (i room : ℕ) → IsKeyword (terminals_of tokens) i word.Sizeof → (u : Unread)
    → IsBehind (terminals_of tokens) (i + 1) sign.OpenParenthesis (Err u) → IsUnread IsAtom (Past 1) (terminals_of tokens) i room u
sizeof_unopened tokens input i room h (unread.Stuck k) refused =
    let ts = terminals_of tokens in
    let next : i + 1 ≡ suc i = omega arith in
    let place : suc i ≡ k = omega (arith, refused.0) in
    let none : IsOperator ts (suc i) sign.OpenParenthesis → ⊥ = λ g. refused.1 (subst (λ n. IsOperator ts n sign.OpenParenthesis) (sym next) g) in
    let within : suc i < length ts = omega (arith, goes_on tokens i (kind.Keyword word.Sizeof) input h (omega arith), length_terminals tokens) in
    subst (λ n. IsStuck IsAtom (Past 1) ts i room n) place (sizeof_stuck h within none)
sizeof_unopened tokens input i room h (unread.TooDeep k) refused = absurd refused.0
sizeof_unopened tokens input i room h unread.NoMemory refused = absurd refused.0

pub sizeof_over : {ts : List Terminal} {i room : ℕ} → IsKeyword ts i word.Sizeof → IsOperator ts (i + 1) sign.OpenParenthesis → (u : Unread) → IsTooDeepAt (i + 1) u × (room ≤ 0)
    → IsUnread IsAtom (Past 1) ts i room u
sizeof_over {ts} {i} {room} h open_ u over =
    let opened = parenthesis_behind open_ in
    let within : suc i < length ts = slice_get_within ts (suc i) opened.token opened.stands in
    let next : i + 1 ≡ suc i = omega arith in
    let way = way_typing ts (suc (suc i)) (omega (arith, within)) in
    enclosed_over sizeof_enclosed (suc i) refl (h, opened) opened within over.1 (sizeof_reached h) way u (subst (λ n. IsTooDeepAt n u) next over.0)

pub sizeof_refused : {ts : List Terminal} {i l left room : ℕ} → IsKeyword ts i word.Sizeof → IsBehind ts (i + 1) sign.OpenParenthesis (Ok l) → room ≡ suc left → (u : Unread)
    → IsUnread IsTyping (At sign.CloseParenthesis) ts l left u → IsUnread IsAtom (Past 1) ts i room u
sizeof_refused {ts} {i} {l} {left} h open_ enough u refused =
    let place : l ≡ suc (suc i) = omega (arith, open_.0) in
    subst (λ n. IsUnread IsAtom (Past 1) ts i n u) (sym enough)
    (fails (enclosed_step sizeof_enclosed left (h, parenthesis_behind open_.1)) u (subst (λ n. IsUnread IsTyping (At sign.CloseParenthesis) ts n left u) place refused))

pub sizeof_atom : {ts : List Terminal} {i l left d k : ℕ} {at : Span} {t : Typing} {f : Expr} → IsAt ts i at → IsKeyword ts i word.Sizeof → IsBehind ts (i + 1) sign.OpenParenthesis (Ok l)
    → IsReading IsTyping (At sign.CloseParenthesis) ts l left t d k → f ≡ node i at (form.Sizeof t) → IsAtom ts i f (suc d) (suc k)
sizeof_atom {ts} {i} {l} {d = d} {k} {t = t} at h open_ reading same =
    let place : l ≡ suc (suc i) = omega (arith, open_.0) in
    IsAtom.sizeof at h (parenthesis_behind open_.1) (subst (λ n. IsTyping ts n t d k) place reading.derived) reading.stops same

-- Atoms of one token

no_point : {ts : List Terminal} {i d j : ℕ} {e : Expr} → IsAtom ts i e d j → code_at ts i ≡ 1 → ⊥
no_point (IsAtom.name at h same) code = omega (arith, name_code h, code)
no_point p code = omega (arith, atom_first p, code)

-- an atom begins with no other token
pub atom_stuck : {ts : List Terminal} {i room : ℕ} → i < length ts → (code_at ts i ≡ 1) ⊎ (11 ≤ code_at ts i) → IsStuck IsAtom (Past 1) ts i room i
atom_stuck {ts} {i} {room} within other = record {
  forward = omega arith;
  within = within;
  reached = IsReached.reached (way_atom ts i room (omega (arith, within)));
  none = λ us agree tree depth j whole stop. elim other [
    | inl point ↦ no_point whole (code_carried ts us i agree ∙ point)
    | inr high ↦ omega (arith, code_carried ts us i agree, atom_begins whole, high)
  ];
}

pub token_read : (tokens : Tokens) → IsInput tokens → {i room c m : ℕ} {k : TokenKind} {f : Expr} → HasKind (terminals_of tokens) i k → kind_code k ≤ 33 → is_text_kind k ≡ false
    → IsAtom (terminals_of tokens) i f 0 (suc i) → c ≡ 0 → m ≡ i + 1 → IsReading IsAtom (Past 1) (terminals_of tokens) i room f c m
token_read tokens input {i} {room} {c} {m} {k} {f} h low no_text atom flat end =
    let ts = terminals_of tokens in
    let further : suc i ≡ m = omega (arith, end) in
    record {
      derived = subst (λ n. IsAtom ts i f n m) (sym flat) (subst (λ n. IsAtom ts i f 0 n) further atom);
      shallow = omega (arith, flat);
      stops = subst (Past 1 ts) further (past_behind h no_text);
      within = omega (arith, end, goes_on tokens i k input h low, length_terminals tokens);
    }

other_keyword : (w : Keyword) → (w ≡ word.True → ⊥) → (w ≡ word.False → ⊥) → (w ≡ word.None → ⊥) → (w ≡ word.Sizeof → ⊥) → 11 ≤ word_code w
other_keyword word.True a b c d = absurd (a refl)
other_keyword word.False a b c d = absurd (b refl)
other_keyword word.None a b c d = absurd (c refl)
other_keyword word.Sizeof a b c d = absurd (d refl)
other_keyword w a b c d = omega arith

pub keyword_stuck : {ts : List Terminal} {i room : ℕ} (w : Keyword) → IsKeyword ts i w → (w ≡ word.True → ⊥) → (w ≡ word.False → ⊥) → (w ≡ word.None → ⊥) → (w ≡ word.Sizeof → ⊥)
    → IsStuck IsAtom (Past 1) ts i room i
keyword_stuck {ts} {i} w h a b c d = atom_stuck (slice_get_within ts i h.token h.stands) (inr (omega (arith, code_here h, other_keyword w a b c d)))

-- Strings

-- strings that were read go on with what follows them
abbrev pub GoesOn : List Terminal → ℕ → List (List ℕ) → ℕ → Type 0
GoesOn ts i contents k = (rest : List (List ℕ)) (j : ℕ) → AreTexts ts k rest j → AreTexts ts i (contents ++ rest) j

pub texts_on : {ts : List Terminal} {i k : ℕ} (contents : List (List ℕ)) {more : List (List ℕ)} {content item : List ℕ} → GoesOn ts i contents k → HasKind ts k (kind.Text content)
    → item ≡ content → more ≡ contents ++ item ∷ [] → GoesOn ts i more (k + 1) × ((k + 1 ≡ i) ⊎ AreTexts ts i more (k + 1))
texts_on {ts} {i} {k} contents {more} {content} {item} before h same longer =
    let next : suc k ≡ k + 1 = omega arith in
    let all : more ≡ contents ++ (content ∷ []) = longer ∙ ap (λ x. contents ++ (x ∷ [])) same in
    let last : AreTexts ts i more (k + 1) = subst (λ n. AreTexts ts i more n) next (subst (λ cs. AreTexts ts i cs (suc k)) (sym all) (before (content ∷ []) (suc k) (AreTexts.last_text h))) in
    let on : GoesOn ts i more (k + 1) = λ rest j others.
    let later = before (content ∷ rest) j (AreTexts.more_texts h (subst (λ n. AreTexts ts n rest j) (sym next) others)) in
    subst (λ cs. AreTexts ts i cs j) (sym (ap (λ cs. cs ++ rest) all ∙ append_assoc contents (content ∷ []) rest)) later in
    (on, inr last)

pub texts_read : {ts : List Terminal} {i k : ℕ} {contents : List (List ℕ)} → (k ≡ i) ⊎ AreTexts ts i contents k → (content : List ℕ) × HasKind ts i (kind.Text content)
    → ((content : List ℕ) → HasKind ts k (kind.Text content) → ⊥) → AreTexts ts i contents k
texts_read {ts} (inl same) first none = absurd (none first.0 (subst (λ n. HasKind ts n (kind.Text first.0)) (sym same) first.1))
texts_read (inr texts) first none = texts

texts_end : {ts : List Terminal} {i j : ℕ} {contents : List (List ℕ)} → AreTexts ts i contents j → (k : ℕ) × (suc k ≡ j) × (code_at ts k ≡ 0)
texts_end (AreTexts.last_text h) = (_, refl, code_here h)
texts_end (AreTexts.more_texts h others) = texts_end others

pub texts_atom : (tokens : Tokens) → IsInput tokens → {i room j c m : ℕ} {at : Span} {contents : List (List ℕ)} {f : Expr} → IsAt (terminals_of tokens) i at
    → AreTexts (terminals_of tokens) i contents j → Past 1 (terminals_of tokens) j → f ≡ node i at (form.Text contents) → c ≡ 0 → m ≡ j
    → IsReading IsAtom (Past 1) (terminals_of tokens) i room f c m
texts_atom tokens input {i} {room} {j} {c} {m} {f = f} at texts past same flat end =
    let ts = terminals_of tokens in
    let last = texts_end texts in
    record {
      derived = subst (λ n. IsAtom ts i f n m) (sym flat) (subst (λ n. IsAtom ts i f 0 n) (sym end) (IsAtom.texts at texts same));
      shallow = omega (arith, flat);
      stops = subst (Past 1 ts) (sym end) past;
      within = omega (arith, end, last.1, input.ends last.0 (omega (arith, last.2)), length_terminals tokens);
    }

-- Names, and tokens with which no atom begins

pub name_refused : {ts : List Terminal} {i : ℕ} (room : ℕ) → HasKind ts i kind.Name → (u : Unread) → IsNamed ts i (Err u) → IsUnread IsAtom (Past 1) ts i room u
name_refused room h (unread.Stuck k) refused = let name = some_name h in absurd (refused.1 name.0 name.1)
name_refused room h (unread.TooDeep k) refused = absurd refused
name_refused room h unread.NoMemory refused = tt

other_operator : (o : Operator) → (o ≡ sign.OpenParenthesis → ⊥) → (o ≡ sign.OpenBracket → ⊥) → (o ≡ sign.OpenBrace → ⊥) → (sign_code o ≡ 1) ⊎ (11 ≤ sign_code o)
other_operator sign.OpenParenthesis a b c = absurd (a refl)
other_operator sign.OpenBracket a b c = absurd (b refl)
other_operator sign.OpenBrace a b c = absurd (c refl)
other_operator sign.Point a b c = inl refl
other_operator o a b c = inr (omega arith)

pub operator_stuck : {ts : List Terminal} {i room : ℕ} (o : Operator) → IsOperator ts i o → (o ≡ sign.OpenParenthesis → ⊥) → (o ≡ sign.OpenBracket → ⊥) → (o ≡ sign.OpenBrace → ⊥)
    → IsStuck IsAtom (Past 1) ts i room i
operator_stuck {ts} {i} o h a b c =
    let code : code_at ts i ≡ sign_code o = code_here h in
    atom_stuck (slice_get_within ts i h.token h.stands) (elim (other_operator o a b c) [ inl point ↦ inl (code ∙ point) | inr high ↦ inr (omega (arith, code, high)) ])

other_kind : (k : TokenKind) → (k ≡ kind.Name → ⊥) → ((n : ℤ) → k ≡ kind.Number n → ⊥) → ((content : List ℕ) → k ≡ kind.Text content → ⊥) → ((w : Keyword) → k ≡ kind.Keyword w → ⊥)
    → ((o : Operator) → k ≡ kind.Operator o → ⊥) → 11 ≤ kind_code k
other_kind kind.Name a b c d e = absurd (a refl)
other_kind (kind.Number n) a b c d e = absurd (b n refl)
other_kind (kind.Text content) a b c d e = absurd (c content refl)
other_kind (kind.Keyword w) a b c d e = absurd (d w refl)
other_kind (kind.Operator o) a b c d e = absurd (e o refl)
other_kind k a b c d e = omega arith

pub kind_stuck : {ts : List Terminal} {i room : ℕ} (k : TokenKind) → HasKind ts i k → (k ≡ kind.Name → ⊥) → ((n : ℤ) → k ≡ kind.Number n → ⊥)
    → ((content : List ℕ) → k ≡ kind.Text content → ⊥) → ((w : Keyword) → k ≡ kind.Keyword w → ⊥) → ((o : Operator) → k ≡ kind.Operator o → ⊥) → IsStuck IsAtom (Past 1) ts i room i
kind_stuck {ts} {i} k h a b c d e = atom_stuck (slice_get_within ts i h.token h.stands) (inr (omega (arith, code_here h, other_kind k a b c d e)))

some_token : (ts : List Terminal) (i : ℕ) → i < length ts → (t : Terminal) × Stands ts i t
some_token [] i lt = absurd (omega (arith, lt))
some_token (t ∷ ts) zero lt = (t, refl)
some_token (t ∷ ts) (suc i) lt = some_token ts i (omega (arith, lt))

pub no_token : (tokens : Tokens) (i : ℕ) → i < length tokens.list → ((k : TokenKind) → HasKind (terminals_of tokens) i k → ⊥) → ⊥
no_token tokens i lt none =
    let there = some_token (terminals_of tokens) i (omega (arith, lt, length_terminals tokens)) in
    none there.0.kind (record { token = there.0; stands = there.1; kind = refl })
