-- The parts of a primary: its trailers, and their arguments.
use Rattle.std.proofs.Common.{◌≡◌, ℕ, suc, max, nat_lt, ◌+◌, ◌≤◌, ◌<◌, ◌++◌, Bool, true, false, inl, inr, length, take, List, [], ◌∷◌, Option, Some, None, Err, refl, sym, ap, subst, ◌∙◌, arith}
use Rattle.std.specs.Prelude.{slice_get}
use Rattle.std.proofs.lemmas.List.{length-append, length-take-le}
use Rattle.px_base.specs.declared.refusals.Span.{Span}
use Rattle.px_lexer.specs.declared.spelling.Keyword.TheVariants as word
use Rattle.px_lexer.specs.declared.spelling.Operator.{Operator}
use Rattle.px_lexer.specs.declared.spelling.Operator.TheVariants as sign
use Rattle.px_lexer.specs.declared.token_list.TokenKind.TheVariants as kind
use Rattle.px_tree.specs.declared.expressions.Expr.{Expr}
use Rattle.px_tree.specs.declared.expressions.ExprForm.TheVariants as form
use Rattle.px_tree.specs.declared.expressions.Argument.{Argument}
use Rattle.px_tree.specs.declared.expressions.Item.{Item}
use Rattle.px_tree.specs.declared.expressions.Trailer.{Trailer}
use Rattle.px_tree.specs.declared.expressions.Trailer.TheVariants as trailer
use Rattle.px_exprs.specs.declared.readings.Unread.{Unread}
use Rattle.px_exprs.specs.declared.readings.Unread.TheVariants as unread
use Rattle.px_lexer.specs.Terminals.{Terminal, IsKeyword, IsOperator, IsName, IsAt, terminals_of}
use Rattle.px_exprs.specs.Codes.{code_of, code_at, stop_at, Past}
use Rattle.px_exprs.proofs.Telling.{stop_here}
use Rattle.px_exprs.specs.Grammar.{node, argument, IsExpr, IsAtom, IsPrimary, AreTrailers, IsTrailer, AreArguments, IsArgument, AreItems, IsItem, HasComma}
use Rattle.px_exprs.specs.Lists.{Front, Listed, Ran}
use Rattle.px_exprs.specs.Parts.{BeginsTrailer}
use Rattle.px_exprs.specs.Readings.{Form, Agree, At, EndsElement, HasWay, HasShallow, IsReached, IsStuck, IsOver, IsUnread, IsReading}
use Rattle.px_lexer.specs.declared.token_list.Tokens.{Tokens}
use Rattle.px_exprs.specs.Inputs.{IsInput}
use Rattle.px_exprs.proofs.TokenReading.{goes_on}
use Rattle.px_lexer.proofs.TokenAccess.{name_kind, length_terminals}
use Rattle.std.proofs.lemmas.Bool.{lt-ltb, false≢true}
use Rattle.px_exprs.proofs.Agreement.{agree_same, agree_back, agree_through, agree_carried, agree_append, agree_front, agree_take, kind_carried}
use Rattle.px_exprs.proofs.Codes.{code_here}
use Rattle.px_lexer.proofs.OneToken.{one_operator}
use Rattle.px_exprs.proofs.Only.{EndsItem}
use Rattle.px_exprs.proofs.Beginnings.{atom_begins, expr_alone}
use Rattle.px_exprs.proofs.Codes.{name_code}
use Rattle.px_exprs.proofs.NameLaws.{names_are_expressions}
use Rattle.std.proofs.lemmas.Bool.{cases_eq}
use Rattle.px_exprs.specs.Words.{IsNamed, IsTooDeepAt}
use Rattle.px_exprs.proofs.Stops.{past_carried, stop_carried, past_behind, past_trailer, trailer_stops, trailer_goes_on, trailers_stop}
use Rattle.px_exprs.proofs.Keeping.{name_carried, argument_carried, item_carried, items_carried, arguments_carried, comma_carried, trailer_carried, atom_carried}
use Rattle.px_exprs.proofs.ListLaws.{arguments_open, closes}
use Rattle.px_exprs.proofs.Uniqueness.{argument_only, trailer_only, atom_only}
use Rattle.px_exprs.proofs.Fresh.{some_name, stands_behind, fresh_expr}
use Rattle.px_exprs.proofs.Tailed.{TailedCase, IsTailed, first_step, tail_step, read_alone}
use Rattle.px_exprs.proofs.ChainLaws.{ChainCase, IsChain, ran_on, ran_whole, chain_step}
use Rattle.px_exprs.proofs.Elements.{ElementsCase, IsElements, listed_front, listed_last, front_forward, element_step}
use Rattle.px_exprs.proofs.Steps.{Made, Part, Step, fails}
use Rattle.px_exprs.proofs.ItemSteps.{item_laws}

abbrev some_close : Terminal
some_close = record { kind = kind.Operator sign.CloseParenthesis; at = record { line = 1; column = 1 }; spelling = [] }

-- Arguments

argument_ends : {us : List Terminal} {j : ℕ} → EndsElement sign.CloseParenthesis us j → EndsItem us j
argument_ends (inl h) = (omega (arith, code_here h), omega (arith, code_here h))
argument_ends (inr h) = (omega (arith, code_here h), omega (arith, code_here h))

arguments_cases : {us : List Terminal} {k c j : ℕ} {es : List Argument} → AreArguments us k es c j → ElementsCase IsArgument AreArguments us k es c j
arguments_cases (AreArguments.last_argument {a = a} p) = ElementsCase.last a p refl
arguments_cases (AreArguments.more_arguments {l = l} {c = c} {d = d} {a = a} {others = others} p comma rest) = ElementsCase.more a c l others d p comma rest refl refl

pub argument_laws : IsElements IsArgument sign.CloseParenthesis AreArguments
argument_laws = record {
  last = λ {us} {k} {d} {j} {e} p. AreArguments.last_argument p;
  more = λ {us} {k} {l} {a} {b} {j} {e} {es} p comma rest. AreArguments.more_arguments p comma rest;
  cases = λ {us} {k} {c} {j} {es} p. arguments_cases p;
  only = λ {us} {i} {d} {j} {e} p stop f c k q end. argument_only p (argument_ends stop) f c k q (argument_ends end);
  carried = λ {ts} {us} n {i} {d} {j} {e} agree p. argument_carried n agree p;
  open_ = λ {us} {k} {d} {j} {es} p close. arguments_open p (closes close);
  apart = λ same. cc;
}

-- a name, which may be all of an argument
named_alone : {ts : List Terminal} {i : ℕ} {name : List ℕ} → IsName ts i name → i < length ts
    → (us : List Terminal) × (e : Expr) × Agree (suc i) us ts × IsExpr us i e 0 (suc i) × EndsElement sign.CloseParenthesis us (suc i)
named_alone {ts} {i} {name} n within =
    let long : length (take (suc i) ts) ≡ suc i = length-take-le (suc i) ts (omega (arith, within)) in
    let tokens : List Terminal = take (suc i) ts ++ some_close ∷ [] in
    let same : Agree (suc i) tokens ts = agree_take (suc i) ts (some_close ∷ []) (omega (arith, within)) in
    let here : IsName tokens i name = name_carried (suc i) same n (omega arith) in
    let place : IsAt tokens i here.token.at = record { token = here.token; stands = here.stands; placed = refl } in
    let close : IsOperator tokens (length (take (suc i) ts)) sign.CloseParenthesis = record { token = some_close; stands = stands_behind (take (suc i) ts) some_close; kind = refl } in (
      tokens,
      node i here.token.at (form.Name name),
      same,
      names_are_expressions tokens i here.token.at name place here,
      inr (subst (λ k. IsOperator tokens k sign.CloseParenthesis) long close),
    )

-- an argument without a name is an expression

way_as : {A B : Type 0} {X : Form A} {Y : Form B} (f : A → B) → ((us : List Terminal) (i d j : ℕ) (e : A) → X us i e d j → Y us i (f e) d j) → {ts : List Terminal} {i k : ℕ} → HasWay X ts i k
    → HasWay Y ts i k
way_as f into way = record { tokens = way.tokens; same = way.same; long = way.long; tree = f way.tree; depth = way.depth; derived = into _ _ _ _ _ way.derived }

shallow_as : {A B : Type 0} {X : Form A} {Y : Form B} (f : A → B) → ((us : List Terminal) (i d j : ℕ) (e : A) → X us i e d j → Y us i (f e) d j) → {ts : List Terminal} {i k room : ℕ}
    → HasShallow X ts i k room
    → HasShallow Y ts i k room
shallow_as f into h = record {
  way = record { tokens = h.way.tokens; same = h.way.same; long = h.way.long; tree = f h.way.tree; depth = h.way.depth; derived = into _ _ _ _ _ h.way.derived };
  shallow = h.shallow;
}

reached_as : {A B : Type 0} {X : Form A} {Y : Form B} (f : A → B) → ((us : List Terminal) (i d j : ℕ) (e : A) → X us i e d j → Y us i (f e) d j) → {ts : List Terminal} {i k room : ℕ}
    → IsReached X ts i k room
    → IsReached Y ts i k room
reached_as f into (IsReached.reached way) = IsReached.reached (shallow_as f into way)
reached_as f into (IsReached.behind_sizeof m e from keyword before way) = IsReached.behind_sizeof m e from keyword (shallow_as f into before) (way_as f into way)

positional : (us : List Terminal) (i d j : ℕ) (e : Expr) → IsExpr us i e d j → IsArgument us i (argument None e) d j
positional us i d j e p = IsArgument.positional p

-- no name with an `=` behind it stands here
abbrev pub IsUnnamed : List Terminal → ℕ → Type 0
IsUnnamed ts i = (name : List ℕ) → IsName ts i name → IsOperator ts (suc i) sign.Equal → ⊥

pub unnamed_here : {ts : List Terminal} {i : ℕ} → (IsOperator ts (i + 1) sign.Equal → ⊥) → IsUnnamed ts i
unnamed_here {ts} {i} none name n equal = let next : suc i ≡ i + 1 = omega arith in none (subst (λ k. IsOperator ts k sign.Equal) next equal)

-- an argument over tokens that agree up to an index is an expression; at the first index too, where the reading of an expression is
-- refused, since a name alone is one
unnamed : {ts us : List Terminal} {i k d j : ℕ} {a : Argument} → IsUnnamed ts i → i ≤ k → ((name : List ℕ) → IsName ts i name → k ≡ i → ⊥) → Agree (suc k) us ts → IsArgument us i a d j
    → (e : Expr) × IsExpr us i e d j
unnamed plain le open_ agree (IsArgument.positional {e = e} p) = (e, p)
unnamed {ts} {us} {i} {k} plain le open_ agree (IsArgument.keyword {name = name} n equal p) =
    let here : IsName ts i name = name_carried (suc k) (agree_back us ts agree) n (omega (arith, le)) in
    elim (cases_eq k i) [
      | inl same ↦ absurd (open_ name here same)
      | inr apart ↦ absurd (plain name here (kind_carried equal (omega (arith, le, apart)) (agree_back us ts agree)))
    ]

pub positional_refused : {ts : List Terminal} {i : ℕ} (room : ℕ) → IsUnnamed ts i → i < length ts → (u : Unread) → IsUnread IsExpr (EndsElement sign.CloseParenthesis) ts i room u
    → IsUnread IsArgument (EndsElement sign.CloseParenthesis) ts i room u
positional_refused {ts} {i} room plain within (unread.Stuck k) stuck =
    let open_ : (name : List ℕ) → IsName ts i name → k ≡ i → ⊥ = λ name n same.
    (let alone = named_alone n within in
    stuck.none alone.0 (subst (λ x. Agree (suc x) alone.0 ts) (sym same) alone.2) alone.1 0 (suc i) alone.3 alone.4) in
    record {
      forward = stuck.forward;
      within = stuck.within;
      reached = reached_as (argument None) positional stuck.reached;
      none = λ us agree f c j whole stop. let found = unnamed plain stuck.forward open_ agree whole in stuck.none us agree found.0 c j found.1 stop;
    }
positional_refused {ts} {i} room plain within (unread.TooDeep k) over =
    let open_ : (name : List ℕ) → IsName ts i name → k ≡ i → ⊥ = λ name n same.
    (let alone = named_alone n within in
    let deep = over.deep alone.0 (subst (λ x. Agree (suc x) alone.0 ts) (sym same) alone.2) alone.1 0 (suc i) alone.3 alone.4 in
    omega (arith, deep)) in
    record {
      forward = over.forward;
      within = over.within;
      counted = over.counted;
      reached = reached_as (argument None) positional over.reached;
      way = way_as (argument None) positional over.way;
      deep = λ us agree f c j whole stop. let found = unnamed plain over.forward open_ agree whole in over.deep us agree found.0 c j found.1 stop;
    }
positional_refused room plain within unread.NoMemory h = tt

pub positional_read : {ts : List Terminal} {i d j room : ℕ} {e : Expr} → IsReading IsExpr (EndsElement sign.CloseParenthesis) ts i room e d j
    → IsReading IsArgument (EndsElement sign.CloseParenthesis) ts i room (argument None e) d j
positional_read reading = record { derived = IsArgument.positional reading.derived; shallow = reading.shallow; stops = reading.stops; within = reading.within }

-- and behind a name and its `=` too
keyword_step : {ts : List Terminal} {i : ℕ} {name : List ℕ} (room : ℕ) → IsName ts i name → IsOperator ts (suc i) sign.Equal
    → Step IsExpr (EndsElement sign.CloseParenthesis) IsArgument (EndsElement sign.CloseParenthesis) ts i (suc (suc i)) room room
keyword_step {ts} {i} {name} room n equal = record {
  forward = omega arith;
  make = λ us agree long e d x.
      let derived = IsArgument.keyword (name_carried (suc (suc i)) agree n (omega arith)) (kind_carried equal (omega arith) agree) x in
      (record { tokens = us; same = agree_same us; long = omega arith; tree = argument (Some name) e; depth = d; derived = derived }, λ le. le);
  split = λ us agree f c j whole stop. split us (name_carried (suc (suc (suc i))) agree n (omega arith)) (kind_carried equal (omega arith) agree) f c j whole stop;
}
  where
    split : (us : List Terminal) → IsName us i name → IsOperator us (suc i) sign.Equal → (f : Argument) (c j : ℕ) → IsArgument us i f c j → EndsElement sign.CloseParenthesis us j
        → (part : Part IsExpr (EndsElement sign.CloseParenthesis) us (suc (suc i))) × (room < part.depth → room < c)
    split us n equal _ c j (IsArgument.positional p) stop =
        let end : j ≡ suc i = expr_alone p (name_code n) (code_here equal) in
        absurd (omega (arith, ap (code_at us) end, code_here equal, (argument_ends stop).1))
    split us n equal _ c j (IsArgument.keyword {e = e} other equal' p) stop = (record { tree = e; depth = c; end = j; derived = p; stops = stop }, λ lt. lt)

pub keyword_refused : {ts : List Terminal} {i : ℕ} {name : List ℕ} (room : ℕ) → IsName ts i name → IsOperator ts (i + 1) sign.Equal → (u : Unread)
    → IsUnread IsExpr (EndsElement sign.CloseParenthesis) ts (i + 2) room u
    → IsUnread IsArgument (EndsElement sign.CloseParenthesis) ts i room u
keyword_refused {ts} {i} room n equal u refused =
    let next : i + 1 ≡ suc i = omega arith in
    let after : i + 2 ≡ suc (suc i) = omega arith in
    fails (keyword_step room n (subst (λ k. IsOperator ts k sign.Equal) next equal)) u (subst (λ k. IsUnread IsExpr (EndsElement sign.CloseParenthesis) ts k room u) after refused)

pub keyword_read : {ts : List Terminal} {i d j room : ℕ} {name : List ℕ} {e : Expr} → IsName ts i name → IsOperator ts (i + 1) sign.Equal
    → IsReading IsExpr (EndsElement sign.CloseParenthesis) ts (i + 2) room e d j
    → IsReading IsArgument (EndsElement sign.CloseParenthesis) ts i room (argument (Some name) e) d j
keyword_read {ts} {i} {d} {j} {room} {name} {e} n equal reading =
    let next : i + 1 ≡ suc i = omega arith in
    let after : i + 2 ≡ suc (suc i) = omega arith in
    record {
      derived = IsArgument.keyword n (subst (λ k. IsOperator ts k sign.Equal) next equal) (subst (λ k. IsExpr ts k e d j) after reading.derived);
      shallow = reading.shallow;
      stops = reading.stops;
      within = reading.within;
    }

-- the name that stands here isn't missed
pub name_refused : {ts : List Terminal} {i : ℕ} {name : List ℕ} (room : ℕ) → IsName ts i name → (u : Unread) → IsNamed ts i (Err u)
    → IsUnread IsArgument (EndsElement sign.CloseParenthesis) ts i room u
name_refused {name = name} room n (unread.Stuck k) h = absurd (h.1 name n)
name_refused room n (unread.TooDeep k) h = absurd h
name_refused room n unread.NoMemory h = tt

-- Items, of which there is one at least

pub items_refused : {ts : List Terminal} {k d l room : ℕ} {es : List Item} → Front IsItem ts k es d l → d ≤ room → (IsOperator ts l sign.CloseBracket → l ≡ k) → (u : Unread)
    → IsUnread IsItem (EndsElement sign.CloseBracket) ts l room u → IsUnread (Listed AreItems false) (At sign.CloseBracket) ts k room u
items_refused front shallow begun u refused = fails (element_step item_laws front shallow (λ h. (begun h, refl))) u refused

pub items_last : {ts : List Terminal} {k d l c m n room : ℕ} {es fs : List Item} {e : Item} → Front IsItem ts k es d l → d ≤ room → IsReading IsItem (EndsElement sign.CloseBracket) ts l room e c m
    → IsOperator ts m sign.CloseBracket → fs ≡ es ++ e ∷ [] → n ≡ max d c → IsReading (Listed AreItems false) (At sign.CloseBracket) ts k room (fs, false) n m
items_last {ts} {k} {d} {c = c} {m} {n} {es = es} {e = e} front shallow reading close more deep = record {
  derived = subst (λ gs. Listed AreItems false ts k (gs, false) n m) (sym more) (subst (λ b. Listed AreItems false ts k (es ++ e ∷ [], false) b m) (sym deep) (listed_last item_laws front reading.derived));
  shallow = omega (arith, deep, shallow, reading.shallow);
  stops = close;
  within = reading.within;
}

pub items_whole : (tokens : Tokens) {k d l room : ℕ} {es : List Item} → Front IsItem (terminals_of tokens) k es d l → d ≤ room → l < length tokens.list → (l ≡ k → ⊥)
    → IsOperator (terminals_of tokens) l sign.CloseBracket
    → IsReading (Listed AreItems false) (At sign.CloseBracket) (terminals_of tokens) k room (es, true) d l
items_whole tokens {k} {d} {l} {es = es} front shallow within apart close =
    let ts = terminals_of tokens in
    let forward : k ≤ l = front_forward (λ i c j e x. (item_carried j (agree_same ts) x).0) front in
    let flag : nat_lt k l ≡ true = lt-ltb k l (omega (arith, forward, apart)) in
    record {
      derived = subst (λ b. Listed AreItems false ts k (es, b) d l) flag (listed_front item_laws front (λ same. absurd (apart (sym same))));
      shallow = shallow;
      stops = close;
      within = omega (arith, within, length_terminals tokens);
    }

-- Trailers

abbrev some_point : Terminal
some_point = record { kind = kind.Operator sign.Point; at = record { line = 1; column = 1 }; spelling = [] }

abbrev some_bracket : Terminal
some_bracket = record { kind = kind.Operator sign.CloseBracket; at = record { line = 1; column = 1 }; spelling = [] }

-- a name behind a point
attribute_behind : (us : List Terminal) (k : ℕ) → length us ≡ suc k → IsOperator us k sign.Point → (made : Made IsTrailer us k) × (made.depth ≡ 0)
attribute_behind us k e point =
    let tokens : List Terminal = us ++ some_name ∷ [] in
    let same : Agree (length us) tokens us = agree_append us (some_name ∷ []) in
    let long : length tokens ≡ suc (suc k) = omega (arith, length-append us (some_name ∷ []), e) in
    let named : IsName tokens (length us) [] = record { token = some_name; stands = stands_behind us some_name; kind = refl; spelled = refl } in
    let derived : IsTrailer tokens k (trailer.Attribute []) 0 (suc (suc k)) = IsTrailer.attribute (kind_carried point (omega (arith, e)) same) (subst (λ n. IsName tokens n []) e named) in
    let made : Made IsTrailer us k = record {
      tokens = tokens;
      same = same;
      long = omega (arith, long, e);
      tree = trailer.Attribute [];
      depth = 0;
      derived = subst (λ n. IsTrailer tokens k (trailer.Attribute []) 0 n) (sym long) derived;
    } in
    (made, refl)

-- the trailers that lists in brackets are
call_of : {vs : List Terminal} {i d j : ℕ} {list : List Argument × Bool} → IsOperator vs i sign.OpenParenthesis → Listed AreArguments true vs (suc i) list d j → IsOperator vs j sign.CloseParenthesis
    → IsTrailer vs i (trailer.Call list.0) (suc d) (suc j)
call_of open_ (Listed.nothing may) close = IsTrailer.empty_call open_ close
call_of open_ (Listed.some p ending) close = IsTrailer.call open_ p ending close

subscript_of : {vs : List Terminal} {i d j : ℕ} {list : List Item × Bool} → IsOperator vs i sign.OpenBracket → Listed AreItems false vs (suc i) list d j → IsOperator vs j sign.CloseBracket
    → IsTrailer vs i (trailer.Subscript list.0 list.1) (suc d) (suc j)
subscript_of open_ (Listed.nothing may) close = absurd (false≢true may)
subscript_of open_ (Listed.some p ending) close = IsTrailer.subscript open_ p ending close

-- a parenthesis behind arguments
call_behind : (us : List Terminal) {i j d : ℕ} {list : List Argument × Bool} → length us ≡ j → IsOperator us i sign.OpenParenthesis → Listed AreArguments true us (suc i) list d j
    → (made : Made IsTrailer us i) × (made.depth ≡ suc d)
call_behind us {i} {j} {d} {list} e open_ arguments =
    let tokens : List Terminal = us ++ some_close ∷ [] in
    let same : Agree (length us) tokens us = agree_append us (some_close ∷ []) in
    let long : length tokens ≡ suc j = omega (arith, length-append us (some_close ∷ []), e) in
    let close : IsOperator tokens (length us) sign.CloseParenthesis = record { token = some_close; stands = stands_behind us some_close; kind = refl } in
    let forward = listed_forward arguments in
    let derived : IsTrailer tokens i (trailer.Call list.0) (suc d) (suc j) =
    call_of (kind_carried open_ (omega (arith, forward, e)) same) (listed_carried (omega (arith, e)) same arguments) (subst (λ n. IsOperator tokens n sign.CloseParenthesis) e close) in
    let made : Made IsTrailer us i = record {
      tokens = tokens;
      same = same;
      long = omega (arith, long, e);
      tree = trailer.Call list.0;
      depth = suc d;
      derived = subst (λ n. IsTrailer tokens i (trailer.Call list.0) (suc d) n) (sym long) derived;
    } in
    (made, refl)
  where
    listed_forward : {i j d : ℕ} {list : List Argument × Bool} → Listed AreArguments true us i list d j → i ≤ j
    listed_forward (Listed.nothing may) = omega arith
    listed_forward (Listed.some {l = l} {m = m} p ending) = omega (arith, (arguments_carried l (agree_same us) p).0, (comma_carried m (agree_same us) ending).0)

    listed_carried : {vs : List Terminal} {n i j d : ℕ} {list : List Argument × Bool} → j ≤ n → Agree n vs us → Listed AreArguments true us i list d j → Listed AreArguments true vs i list d j
    listed_carried le agree (Listed.nothing may) = Listed.nothing may
    listed_carried {n = n} le agree (Listed.some p ending) =
        let after = comma_carried n agree ending in
        Listed.some ((arguments_carried n agree p).1 (omega (arith, le, after.0))) (after.1 le)

-- a bracket behind items
subscript_behind : (us : List Terminal) {i j d : ℕ} {list : List Item × Bool} → length us ≡ j → IsOperator us i sign.OpenBracket → Listed AreItems false us (suc i) list d j
    → (made : Made IsTrailer us i) × (made.depth ≡ suc d)
subscript_behind us {i} {j} {d} {list} e open_ items =
    let tokens : List Terminal = us ++ some_bracket ∷ [] in
    let same : Agree (length us) tokens us = agree_append us (some_bracket ∷ []) in
    let long : length tokens ≡ suc j = omega (arith, length-append us (some_bracket ∷ []), e) in
    let close : IsOperator tokens (length us) sign.CloseBracket = record { token = some_bracket; stands = stands_behind us some_bracket; kind = refl } in
    let forward = listed_forward items in
    let derived : IsTrailer tokens i (trailer.Subscript list.0 list.1) (suc d) (suc j) =
    subscript_of (kind_carried open_ (omega (arith, forward, e)) same) (listed_carried (omega (arith, e)) same items) (subst (λ n. IsOperator tokens n sign.CloseBracket) e close) in
    let made : Made IsTrailer us i = record {
      tokens = tokens;
      same = same;
      long = omega (arith, long, e);
      tree = trailer.Subscript list.0 list.1;
      depth = suc d;
      derived = subst (λ n. IsTrailer tokens i (trailer.Subscript list.0 list.1) (suc d) n) (sym long) derived;
    } in
    (made, refl)
  where
    listed_forward : {i j d : ℕ} {list : List Item × Bool} → Listed AreItems false us i list d j → i ≤ j
    listed_forward (Listed.nothing may) = omega arith
    listed_forward (Listed.some {l = l} {m = m} p ending) = omega (arith, (items_carried l (agree_same us) p).0, (comma_carried m (agree_same us) ending).0)

    listed_carried : {vs : List Terminal} {n i j d : ℕ} {list : List Item × Bool} → j ≤ n → Agree n vs us → Listed AreItems false us i list d j → Listed AreItems false vs i list d j
    listed_carried le agree (Listed.nothing may) = Listed.nothing may
    listed_carried {n = n} le agree (Listed.some p ending) =
        let after = comma_carried n agree ending in
        Listed.some ((items_carried n agree p).1 (omega (arith, le, after.0))) (after.1 le)

-- a parenthesis is a call of the arguments behind it
pub call_step : {ts : List Terminal} {i : ℕ} (inner : ℕ) → IsOperator ts i sign.OpenParenthesis
    → Step (Listed AreArguments true) (At sign.CloseParenthesis) IsTrailer (Past 1) ts i (suc i) inner (suc inner)
call_step {ts} {i} inner open_ = record {
  forward = omega arith;
  make = λ us agree long list d x. let made = call_behind us refl (kind_carried open_ (omega arith) agree) x in (made.0, λ le. omega (arith, made.1, le));
  split = λ us agree f c j whole stop. split us (kind_carried open_ (omega arith) agree) f c j whole;
}
  where
    split : (us : List Terminal) → IsOperator us i sign.OpenParenthesis → (f : Trailer) (c j : ℕ) → IsTrailer us i f c j
        → (part : Part (Listed AreArguments true) (At sign.CloseParenthesis) us (suc i)) × (inner < part.depth → suc inner < c)
    split us open_ _ _ _ (IsTrailer.attribute p n) = absurd (omega (arith, code_here p, code_here open_))
    split us open_ _ _ _ (IsTrailer.empty_call p close) = (record { tree = ([], false); depth = 0; end = suc i; derived = Listed.nothing refl; stops = close }, λ lt. omega (arith, lt))
    split us open_ _ _ _ (IsTrailer.call {l = l} {m = m} {d = d} {arguments = arguments} p a ending close) =
        (record { tree = (arguments, nat_lt l m); depth = d; end = m; derived = Listed.some a ending; stops = close }, λ lt. omega (arith, lt))
    split us open_ _ _ _ (IsTrailer.subscript p a ending close) = absurd (omega (arith, code_here p, code_here open_))

-- a bracket is a subscript by the items behind it
pub subscript_step : {ts : List Terminal} {i : ℕ} (inner : ℕ) → IsOperator ts i sign.OpenBracket → Step (Listed AreItems false) (At sign.CloseBracket) IsTrailer (Past 1) ts i (suc i) inner (suc inner)
subscript_step {ts} {i} inner open_ = record {
  forward = omega arith;
  make = λ us agree long list d x. let made = subscript_behind us refl (kind_carried open_ (omega arith) agree) x in (made.0, λ le. omega (arith, made.1, le));
  split = λ us agree f c j whole stop. split us (kind_carried open_ (omega arith) agree) f c j whole;
}
  where
    split : (us : List Terminal) → IsOperator us i sign.OpenBracket → (f : Trailer) (c j : ℕ) → IsTrailer us i f c j
        → (part : Part (Listed AreItems false) (At sign.CloseBracket) us (suc i)) × (inner < part.depth → suc inner < c)
    split us open_ _ _ _ (IsTrailer.attribute p n) = absurd (omega (arith, code_here p, code_here open_))
    split us open_ _ _ _ (IsTrailer.empty_call p close) = absurd (omega (arith, code_here p, code_here open_))
    split us open_ _ _ _ (IsTrailer.call p a ending close) = absurd (omega (arith, code_here p, code_here open_))
    split us open_ _ _ _ (IsTrailer.subscript {l = l} {m = m} {d = d} {items = items} p a ending close) =
        (record { tree = (items, nat_lt l m); depth = d; end = m; derived = Listed.some a ending; stops = close }, λ lt. omega (arith, lt))

-- the tokens before a trailer go on with one
trailer_way : (ts : List Terminal) (i room : ℕ) → i ≤ length ts → HasShallow IsTrailer ts i i room
trailer_way ts i room within =
    let front : List Terminal = take i ts in
    let cut : length front ≡ i = length-take-le i ts within in
    let us : List Terminal = front ++ some_point ∷ [] in
    let long : length us ≡ suc i = omega (arith, length-append front (some_point ∷ []), cut) in
    let point : IsOperator us (length front) sign.Point = record { token = some_point; stands = stands_behind front some_point; kind = refl } in
    let made = attribute_behind us i long (subst (λ n. IsOperator us n sign.Point) cut point) in
    let same : Agree i us ts = agree_take i ts (some_point ∷ []) within in
    record {
      way = record {
        tokens = made.0.tokens;
        same = agree_through _ _ _ (agree_carried _ _ made.0.same (omega (arith, long))) same;
        long = omega (arith, made.0.long, long);
        tree = made.0.tree;
        depth = made.0.depth;
        derived = made.0.derived;
      };
      shallow = omega (arith, made.1);
    }

-- where nothing begins a trailer
pub no_trailer : {ts : List Terminal} {i : ℕ} (room : ℕ) → (BeginsTrailer ts i → ⊥) → i < length ts → IsStuck IsTrailer (Past 1) ts i room i
no_trailer {ts} {i} room none within = record {
  forward = omega arith;
  within = within;
  reached = IsReached.reached (trailer_way ts i room (omega (arith, within)));
  none = λ us agree f c j whole stop. refuses us (agree_back us ts agree) f c j whole;
}
  where
    refuses : (us : List Terminal) → Agree (suc i) ts us → (f : Trailer) (c j : ℕ) → IsTrailer us i f c j → ⊥
    refuses us agree _ _ _ (IsTrailer.attribute p n) = none (BeginsTrailer.by_point (kind_carried p (omega arith) agree))
    refuses us agree _ _ _ (IsTrailer.empty_call p close) = none (BeginsTrailer.by_parenthesis (kind_carried p (omega arith) agree))
    refuses us agree _ _ _ (IsTrailer.call p a ending close) = none (BeginsTrailer.by_parenthesis (kind_carried p (omega arith) agree))
    refuses us agree _ _ _ (IsTrailer.subscript p a ending close) = none (BeginsTrailer.by_bracket (kind_carried p (omega arith) agree))

pub not_begun : {ts : List Terminal} {i : ℕ} → ((o : Operator) → IsOperator ts i o → ⊥) → BeginsTrailer ts i → ⊥
not_begun none (BeginsTrailer.by_point h) = none sign.Point h
not_begun none (BeginsTrailer.by_parenthesis h) = none sign.OpenParenthesis h
not_begun none (BeginsTrailer.by_bracket h) = none sign.OpenBracket h

pub other_sign : {ts : List Terminal} {i : ℕ} {o : Operator} → IsOperator ts i o → (o ≡ sign.Point → ⊥) → (o ≡ sign.OpenParenthesis → ⊥) → (o ≡ sign.OpenBracket → ⊥) → BeginsTrailer ts i → ⊥
other_sign here point parenthesis bracket (BeginsTrailer.by_point h) = point (one_operator here h)
other_sign here point parenthesis bracket (BeginsTrailer.by_parenthesis h) = parenthesis (one_operator here h)
other_sign here point parenthesis bracket (BeginsTrailer.by_bracket h) = bracket (one_operator here h)

-- where no name stands behind a point
pub nameless : {ts : List Terminal} {i : ℕ} (room : ℕ) → IsOperator ts i sign.Point → suc i < length ts → ((name : List ℕ) → IsName ts (suc i) name → ⊥) → IsStuck IsTrailer (Past 1) ts i room (suc i)
nameless {ts} {i} room point within none =
    let us : List Terminal = take (suc i) ts in
    let long : length us ≡ suc i = length-take-le (suc i) ts (omega (arith, within)) in
    let same : Agree (suc i) us ts = agree_front (suc i) ts in
    let made = attribute_behind us i long (kind_carried point (omega arith) same) in
    record {
      forward = omega arith;
      within = within;
      reached = IsReached.reached (record {
        way = record {
          tokens = made.0.tokens;
          same = agree_through _ _ _ (agree_carried _ _ made.0.same (omega (arith, long))) same;
          long = omega (arith, made.0.long, long);
          tree = made.0.tree;
          depth = made.0.depth;
          derived = made.0.derived;
        };
        shallow = omega (arith, made.1);
      });
      none = λ us agree f c j whole stop. refuses us agree (kind_carried point (omega arith) agree) f c j whole;
    }
  where
    refuses : (us : List Terminal) → Agree (suc (suc i)) us ts → IsOperator us i sign.Point → (f : Trailer) (c j : ℕ) → IsTrailer us i f c j → ⊥
    refuses us agree here _ _ _ (IsTrailer.attribute {name = name} p n) = none name (name_carried (suc (suc i)) (agree_back us ts agree) n (omega arith))
    refuses us agree here _ _ _ (IsTrailer.empty_call p close) = omega (arith, code_here p, code_here here)
    refuses us agree here _ _ _ (IsTrailer.call p a ending close) = omega (arith, code_here p, code_here here)
    refuses us agree here _ _ _ (IsTrailer.subscript p a ending close) = omega (arith, code_here p, code_here here)

pub attribute_refused : (tokens : Tokens) {i : ℕ} (room : ℕ) → IsInput tokens → IsOperator (terminals_of tokens) i sign.Point → (u : Unread) → IsNamed (terminals_of tokens) (i + 1) (Err u)
    → IsUnread IsTrailer (Past 1) (terminals_of tokens) i room u
attribute_refused tokens {i} room input point (unread.Stuck k) h =
    let ts = terminals_of tokens in
    let next : k ≡ suc i = omega (arith, h.0) in
    let within : suc i < length ts = omega (arith, goes_on tokens i (kind.Operator sign.Point) input point (omega arith), length_terminals tokens) in
    subst (λ n. IsStuck IsTrailer (Past 1) ts i room n) (sym next) (nameless room point within (subst (λ n. (name : List ℕ) → IsName ts n name → ⊥) (sym h.0 ∙ next) h.1))
attribute_refused tokens room input point (unread.TooDeep k) h = absurd h
attribute_refused tokens room input point unread.NoMemory h = tt

pub attribute_read : (tokens : Tokens) {i : ℕ} {name : List ℕ} (room : ℕ) → IsInput tokens → IsOperator (terminals_of tokens) i sign.Point → IsName (terminals_of tokens) (i + 1) name
    → IsReading IsTrailer (Past 1) (terminals_of tokens) i room (trailer.Attribute name) 0 (i + 2)
attribute_read tokens {i} {name} room input point named =
    let ts = terminals_of tokens in
    let next : i + 1 ≡ suc i = omega arith in
    let after : suc (suc i) ≡ i + 2 = omega arith in
    let here = subst (λ n. IsName ts n name) next named in
    record {
      derived = subst (λ n. IsTrailer ts i (trailer.Attribute name) 0 n) after (IsTrailer.attribute point here);
      shallow = omega arith;
      stops = subst (λ n. Past 1 ts n) after (past_behind (name_kind here) refl);
      within = omega (arith, goes_on tokens (suc i) kind.Name input (name_kind here) (omega arith), length_terminals tokens);
    }

-- Brackets without room

trailer_over : {ts : List Terminal} {i : ℕ} (room : ℕ) → i < length ts → room ≤ 0 → (IsKeyword ts i word.Sizeof → ⊥) → HasWay IsTrailer ts i (suc i)
    → ((us : List Terminal) → Agree (suc i) us ts → (f : Trailer) (c j : ℕ) → IsTrailer us i f c j → 0 < c) → (u : Unread) → IsTooDeepAt i u → IsUnread IsTrailer (Past 1) ts i room u
trailer_over room within none counted way deep (unread.Stuck k) h = absurd h
trailer_over {ts} {i} room within none counted way deep (unread.TooDeep k) h =
    subst (λ n. IsOver IsTrailer (Past 1) ts i room n) (sym h) (record {
      forward = omega arith;
      within = within;
      counted = counted;
      reached = IsReached.reached (trailer_way ts i room (omega (arith, within)));
      way = way;
      deep = λ us agree f c j whole stop. omega (arith, deep us agree f c j whole, none);
    })
trailer_over room within none counted way deep unread.NoMemory h = absurd h

made_way : {ts us : List Terminal} {i k : ℕ} → Agree k us ts → k ≤ length us → Made IsTrailer us i → HasWay IsTrailer ts i k
made_way same long made = record {
  tokens = made.tokens;
  same = agree_through _ _ _ (agree_carried _ _ made.same long) same;
  long = omega (arith, made.long, long);
  tree = made.tree;
  depth = made.depth;
  derived = made.derived;
}

pub call_over : {ts : List Terminal} {i : ℕ} (room : ℕ) → i < length ts → IsOperator ts i sign.OpenParenthesis → (u : Unread) → IsTooDeepAt i u × (room ≤ 0) → IsUnread IsTrailer (Past 1) ts i room u
call_over {ts} {i} room within open_ u h =
    let us : List Terminal = take (suc i) ts in
    let long : length us ≡ suc i = length-take-le (suc i) ts (omega (arith, within)) in
    let same : Agree (suc i) us ts = agree_front (suc i) ts in
    let made = call_behind us long (kind_carried open_ (omega arith) same) (Listed.nothing refl) in
    trailer_over room within h.1 (λ word. omega (arith, code_here word, code_here open_)) (made_way same (omega (arith, long)) made.0)
    (λ vs agree f c j whole. deep vs (kind_carried open_ (omega arith) agree) f c j whole) u h.0
  where
    deep : (vs : List Terminal) → IsOperator vs i sign.OpenParenthesis → (f : Trailer) (c j : ℕ) → IsTrailer vs i f c j → 0 < c
    deep vs here _ _ _ (IsTrailer.attribute p n) = absurd (omega (arith, code_here p, code_here here))
    deep vs here _ _ _ (IsTrailer.empty_call p close) = omega arith
    deep vs here _ _ _ (IsTrailer.call p a ending close) = omega arith
    deep vs here _ _ _ (IsTrailer.subscript p a ending close) = omega arith

pub subscript_over : {ts : List Terminal} {i : ℕ} (room : ℕ) → i < length ts → IsOperator ts i sign.OpenBracket → (u : Unread) → IsTooDeepAt i u × (room ≤ 0) → IsUnread IsTrailer (Past 1) ts i room u
subscript_over {ts} {i} room within open_ u h =
    let front : List Terminal = take (suc i) ts in
    let cut : length front ≡ suc i = length-take-le (suc i) ts (omega (arith, within)) in
    let us : List Terminal = front ++ some_name ∷ [] in
    let long : length us ≡ suc (suc i) = omega (arith, length-append front (some_name ∷ []), cut) in
    let same : Agree (suc i) us ts = agree_take (suc i) ts (some_name ∷ []) (omega (arith, within)) in
    let fresh = fresh_expr front in
    let inside : IsExpr us (suc i) fresh.0 0 (suc (suc i)) = subst (λ n. IsExpr us n fresh.0 0 (suc n)) cut fresh.1 in
    let made = subscript_behind us long (kind_carried open_ (omega arith) same) (Listed.some (AreItems.last_item (IsItem.index inside)) HasComma.no_comma) in
    trailer_over room within h.1 (λ word. omega (arith, code_here word, code_here open_)) (made_way same (omega (arith, long)) made.0)
    (λ vs agree f c j whole. deep vs (kind_carried open_ (omega arith) agree) f c j whole) u h.0
  where
    deep : (vs : List Terminal) → IsOperator vs i sign.OpenBracket → (f : Trailer) (c j : ℕ) → IsTrailer vs i f c j → 0 < c
    deep vs here _ _ _ (IsTrailer.attribute p n) = absurd (omega (arith, code_here p, code_here here))
    deep vs here _ _ _ (IsTrailer.empty_call p close) = omega arith
    deep vs here _ _ _ (IsTrailer.call p a ending close) = omega arith
    deep vs here _ _ _ (IsTrailer.subscript p a ending close) = omega arith

-- Brackets with their lists

pub call_refused : {ts : List Terminal} {i left room : ℕ} → IsOperator ts i sign.OpenParenthesis → room ≡ suc left → (u : Unread)
    → IsUnread (Listed AreArguments true) (At sign.CloseParenthesis) ts (i + 1) left u
    → IsUnread IsTrailer (Past 1) ts i room u
call_refused {ts} {i} {left} open_ inner u refused =
    let next : i + 1 ≡ suc i = omega arith in
    subst (λ r. IsUnread IsTrailer (Past 1) ts i r u) (sym inner) (fails (call_step left open_) u (subst (λ n. IsUnread (Listed AreArguments true) (At sign.CloseParenthesis) ts n left u) next refused))

pub subscript_refused : {ts : List Terminal} {i left room : ℕ} → IsOperator ts i sign.OpenBracket → room ≡ suc left → (u : Unread)
    → IsUnread (Listed AreItems false) (At sign.CloseBracket) ts (i + 1) left u
    → IsUnread IsTrailer (Past 1) ts i room u
subscript_refused {ts} {i} {left} open_ inner u refused =
    let next : i + 1 ≡ suc i = omega arith in
    subst (λ r. IsUnread IsTrailer (Past 1) ts i r u) (sym inner) (fails (subscript_step left open_) u (subst (λ n. IsUnread (Listed AreItems false) (At sign.CloseBracket) ts n left u) next refused))

pub called : (tokens : Tokens) {i left room d j : ℕ} {list : List Argument × Bool} → IsInput tokens → IsOperator (terminals_of tokens) i sign.OpenParenthesis → room ≡ suc left
    → IsReading (Listed AreArguments true) (At sign.CloseParenthesis) (terminals_of tokens) (i + 1) left list d j
    → IsReading IsTrailer (Past 1) (terminals_of tokens) i room (trailer.Call list.0) (d + 1) (j + 1)
called tokens {i} {d = d} {j} {list} input open_ inner reading =
    let ts = terminals_of tokens in
    let next : i + 1 ≡ suc i = omega arith in
    let deeper : suc d ≡ d + 1 = omega arith in
    let after : suc j ≡ j + 1 = omega arith in
    let derived = call_of open_ (subst (λ n. Listed AreArguments true ts n list d j) next reading.derived) reading.stops in
    record {
      derived = subst (λ n. IsTrailer ts i (trailer.Call list.0) (d + 1) n) after (subst (λ c. IsTrailer ts i (trailer.Call list.0) c (suc j)) deeper derived);
      shallow = omega (arith, reading.shallow, inner);
      stops = subst (λ n. Past 1 ts n) after (past_behind reading.stops refl);
      within = omega (arith, goes_on tokens j (kind.Operator sign.CloseParenthesis) input reading.stops (omega arith), length_terminals tokens);
    }

pub subscripted : (tokens : Tokens) {i left room d j : ℕ} {list : List Item × Bool} → IsInput tokens → IsOperator (terminals_of tokens) i sign.OpenBracket → room ≡ suc left
    → IsReading (Listed AreItems false) (At sign.CloseBracket) (terminals_of tokens) (i + 1) left list d j
    → IsReading IsTrailer (Past 1) (terminals_of tokens) i room (trailer.Subscript list.0 list.1) (d + 1) (j + 1)
subscripted tokens {i} {d = d} {j} {list} input open_ inner reading =
    let ts = terminals_of tokens in
    let next : i + 1 ≡ suc i = omega arith in
    let deeper : suc d ≡ d + 1 = omega arith in
    let after : suc j ≡ j + 1 = omega arith in
    let derived = subscript_of open_ (subst (λ n. Listed AreItems false ts n list d j) next reading.derived) reading.stops in
    record {
      derived = subst (λ n. IsTrailer ts i (trailer.Subscript list.0 list.1) (d + 1) n) after (subst (λ c. IsTrailer ts i (trailer.Subscript list.0 list.1) c (suc j)) deeper derived);
      shallow = omega (arith, reading.shallow, inner);
      stops = subst (λ n. Past 1 ts n) after (past_behind reading.stops refl);
      within = omega (arith, goes_on tokens j (kind.Operator sign.CloseBracket) input reading.stops (omega arith), length_terminals tokens);
    }

-- Rows of trailers

trailers_cases : {us : List Terminal} {k c j : ℕ} {es : List Trailer} → AreTrailers us k es c j → ChainCase IsTrailer AreTrailers us k es c j
trailers_cases (AreTrailers.last_trailer {t = t} p) = ChainCase.one t p refl
trailers_cases (AreTrailers.more_trailers {l = l} {a = a} {b = b} {t = t} {others = others} p rest) = ChainCase.more t a l others b p rest refl refl

pub trailer_chain : IsChain IsTrailer (Past 1) AreTrailers (Past 12)
trailer_chain = record {
  one = λ {us} {k} {d} {j} {t} p. AreTrailers.last_trailer p;
  more = λ {us} {k} {l} {a} {b} {j} {t} {rest} p others. AreTrailers.more_trailers p others;
  cases = λ {us} {k} {c} {j} {es} p. trailers_cases p;
  only = λ {us} {i} {d} {j} {t} p stop f c k q end. trailer_only p tt f c k q tt;
  carried = λ {ts} {us} n {i} {d} {j} {t} agree p. trailer_carried n agree p;
  local = λ {ts} {us} {j} agree past. past_carried ts us j agree past;
  stops = λ {us} {j} past. omega (arith, past);
  starts = λ {us} {k} {d} {j} {t} p. trailer_stops p;
  ends = λ {us} {k} {d} {j} {t} past p. trailer_goes_on p past;
}

begins_stop : {ts : List Terminal} {i : ℕ} → BeginsTrailer ts i → (1 ≤ stop_at ts i) × (stop_at ts i ≤ 10)
begins_stop (BeginsTrailer.by_point h) = (omega (arith, stop_here h refl), omega (arith, stop_here h refl))
begins_stop (BeginsTrailer.by_parenthesis h) = (omega (arith, stop_here h refl), omega (arith, stop_here h refl))
begins_stop (BeginsTrailer.by_bracket h) = (omega (arith, stop_here h refl), omega (arith, stop_here h refl))

pub begins_past : {ts : List Terminal} {i : ℕ} → BeginsTrailer ts i → Past 1 ts i
begins_past h = (begins_stop h).0

-- where a trailer begins the row doesn't end
begins_open : (ts : List Terminal) (i : ℕ) → BeginsTrailer ts i → (us : List Terminal) → Agree (suc i) us ts → Past 12 us i → ⊥
begins_open ts i h us agree past = omega (arith, stop_carried ts us i agree, (begins_stop h).1, past)

ends_row : {ts : List Terminal} {i : ℕ} → Past 1 ts i → (BeginsTrailer ts i → ⊥) → Past 12 ts i
ends_row past none = past_trailer past (λ h. none (BeginsTrailer.by_point h)) (λ h. none (BeginsTrailer.by_parenthesis h)) (λ h. none (BeginsTrailer.by_bracket h))

pub trailers_begun : {ts : List Terminal} {k : ℕ} {es : List Trailer} → es ≡ [] → Ran IsTrailer ts k es 0 k
trailers_begun {ts} {k} e = subst (λ es. Ran IsTrailer ts k es 0 k) (sym e) Ran.none

pub trailers_refused : {ts : List Terminal} {k d l room : ℕ} {es : List Trailer} → Ran IsTrailer ts k es d l → d ≤ room → BeginsTrailer ts l → (u : Unread) → IsUnread IsTrailer (Past 1) ts l room u
    → IsUnread AreTrailers (Past 12) ts k room u
trailers_refused {ts} {l = l} ran shallow begins u refused = fails (chain_step trailer_chain ran shallow (begins_past begins) (begins_open ts l begins)) u refused

pub trailers_on : (tokens : Tokens) {k d l c m n room : ℕ} {es fs : List Trailer} {t : Trailer} → Ran IsTrailer (terminals_of tokens) k es d l → d ≤ room
    → IsReading IsTrailer (Past 1) (terminals_of tokens) l room t c m
    → fs ≡ es ++ t ∷ [] → n ≡ max d c → Ran IsTrailer (terminals_of tokens) k fs n m × (n ≤ room) × Past 1 (terminals_of tokens) m × (m < length tokens.list)
trailers_on tokens {k} {d} {c = c} {m} {n} {es = es} {t = t} ran shallow reading more deep =
    let ts = terminals_of tokens in
    let longer : Ran IsTrailer ts k (es ++ t ∷ []) n m = subst (λ b. Ran IsTrailer ts k (es ++ t ∷ []) b m) (sym deep) (ran_on ran reading.derived) in (
      subst (λ gs. Ran IsTrailer ts k gs n m) (sym more) longer,
      omega (arith, deep, shallow, reading.shallow),
      reading.stops,
      omega (arith, reading.within, length_terminals tokens),
    )

pub trailers_whole : (tokens : Tokens) {k d l room : ℕ} {es : List Trailer} → Ran IsTrailer (terminals_of tokens) k es d l → d ≤ room → Past 1 (terminals_of tokens) l → l < length tokens.list
    → BeginsTrailer (terminals_of tokens) k → (BeginsTrailer (terminals_of tokens) l → ⊥) → IsReading AreTrailers (Past 12) (terminals_of tokens) k room es d l
trailers_whole tokens ran shallow past within begins none = record {
  derived = ran_whole trailer_chain ran (λ same. none (subst (BeginsTrailer (terminals_of tokens)) same begins));
  shallow = shallow;
  stops = ends_row past none;
  within = omega (arith, within, length_terminals tokens);
}

pub trailer_forward : {ts : List Terminal} {i d j room : ℕ} {t : Trailer} → IsReading IsTrailer (Past 1) ts i room t d j → i < j
trailer_forward {ts} {j = j} reading = (trailer_carried j (agree_same ts) reading.derived).0

-- Primaries

-- a token with a code has a place
placed : (ts : List Terminal) (i : ℕ) → code_at ts i ≤ 34 → (at : Span) × IsAt ts i at
unfolding code_at
placed ts i low = found (slice_get ts i) refl
  where
    found : (t : Option Terminal) → slice_get ts i ≡ t → (at : Span) × IsAt ts i at
    found None e = absurd (omega (arith, ap code_of e, low))
    found (Some t) e = (t.at, record { token = t; stands = e; placed = refl })

primary_cases : {us : List Terminal} {i c j : ℕ} {f : Expr} → IsPrimary us i f c j → TailedCase IsAtom AreTrailers 0 us i f c j
primary_cases (IsPrimary.one_atom p) = TailedCase.alone p
primary_cases (IsPrimary.row {k = k} {a = a} {b = b} {atom = atom} {others = others} at p rest e) = TailedCase.tailed atom a k others b p rest (omega arith)

row_of : {us : List Terminal} {i a k b j : ℕ} {e : Expr} {t : List Trailer} → IsAtom us i e a k → AreTrailers us k t b j → (f : Expr) × IsPrimary us i f (0 + max a b) j
row_of {us} {i} {a} {k} {b} {j} {e} {t} p rest =
    let at = placed us i (omega (arith, atom_begins p)) in
    let zero : max a b ≡ 0 + max a b = omega arith in
    let f = node k at.0 (form.Row e t) in
    (f, subst (λ d. IsPrimary us i f d j) zero (IsPrimary.row at.1 p rest refl))

pub primary_tailed : IsTailed IsAtom (Past 1) AreTrailers IsPrimary (Past 12) 0
primary_tailed = record {
  alone = λ {us} {i} {d} {j} {e} p. IsPrimary.one_atom p;
  tailed = λ {us} {i} {a} {k} {b} {j} {e} {t} p rest. row_of p rest;
  cases = λ {us} {i} {c} {j} {f} p. primary_cases p;
  only = λ {us} {i} {d} {j} {e} p. atom_only p;
  carried = λ {ts} {us} n {i} {d} {j} {e} agree p. atom_carried n agree p;
  local = λ {ts} {us} {j} agree past. past_carried ts us j agree past;
  stops = λ {us} {j} past. omega (arith, past);
  tail_stops = λ {us} {k} {b} {j} {t} rest. (trailers_stop rest).0;
}

pub atom_refused : (ts : List Terminal) (i room : ℕ) (u : Unread) → IsUnread IsAtom (Past 1) ts i room u → IsUnread IsPrimary (Past 12) ts i room u
atom_refused ts i room u refused = fails (first_step primary_tailed ts i room) u refused

pub atom_read : {ts : List Terminal} {i d j room : ℕ} {e : Expr} → IsReading IsAtom (Past 1) ts i room e d j → (BeginsTrailer ts j → ⊥) → IsReading IsPrimary (Past 12) ts i room e d j
atom_read reading none = read_alone primary_tailed reading (ends_row reading.stops none)

pub row_refused : {ts : List Terminal} {i d j room : ℕ} {e : Expr} → IsReading IsAtom (Past 1) ts i room e d j → BeginsTrailer ts j → (u : Unread) → IsUnread AreTrailers (Past 12) ts j room u
    → IsUnread IsPrimary (Past 12) ts i room u
row_refused {ts} {i} {j = j} {room} reading begins u refused =
    let zero : 0 + room ≡ room = omega arith in
    subst (λ r. IsUnread IsPrimary (Past 12) ts i r u) zero (fails (tail_step primary_tailed reading.derived reading.stops reading.shallow (begins_open ts j begins)) u refused)

pub row_read : {ts : List Terminal} {i d j b m n room : ℕ} {e f g : Expr} {rest : List Trailer} → IsReading IsAtom (Past 1) ts i room e d j → IsReading AreTrailers (Past 12) ts j room rest b m
    → n ≡ max d b → g ≡ e
    → ((at : Span) × IsAt ts i at × (f ≡ node j at (form.Row g rest))) → IsReading IsPrimary (Past 12) ts i room f n m
row_read {ts} {i} {j = j} {m = m} {f = f} {rest = rest} reading others deep same made =
    let tree = made.2 ∙ ap (λ x. node j made.0 (form.Row x rest)) same in
    record {
      derived = subst (λ d. IsPrimary ts i f d m) (sym deep) (IsPrimary.row made.1 reading.derived others.derived tree);
      shallow = omega (arith, deep, reading.shallow, others.shallow);
      stops = others.stops;
      within = others.within;
    }
