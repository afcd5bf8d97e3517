-- The loop that reads elements between brackets, whatever the elements are.
use Rattle.std.proofs.Common.{◌≡◌, ℕ, suc, max, nat_lt, ◌+◌, ◌≤◌, ◌<◌, ◌++◌, length, true, false, inl, inr, List, [], ◌∷◌, refl, sym, subst, arith}
use Rattle.px_lexer.specs.declared.spelling.Operator.{Operator}
use Rattle.px_lexer.specs.declared.spelling.Operator.TheVariants as sign
use Rattle.px_lexer.specs.declared.token_list.Tokens.{Tokens}
use Rattle.px_lexer.specs.declared.token_list.TokenKind.TheVariants as kind
use Rattle.px_exprs.specs.declared.readings.Unread.{Unread}
use Rattle.px_lexer.specs.Terminals.{Terminal, IsOperator, terminals_of}
use Rattle.px_exprs.specs.Inputs.{IsInput}
use Rattle.px_exprs.specs.Lists.{Front, Listed}
use Rattle.px_exprs.specs.Readings.{Form, At, EndsElement, IsUnread, IsReading}
use Rattle.px_exprs.proofs.Agreement.{agree_same}
use Rattle.px_exprs.proofs.TokenReading.{goes_on}
use Rattle.px_lexer.proofs.TokenAccess.{length_terminals}
use Rattle.px_exprs.proofs.Steps.{fails}
use Rattle.px_exprs.proofs.Elements.{IsElements, front_on, listed_front, listed_last, element_step}

pub list_begun : {A : Type 0} (X : Form A) {ts : List Terminal} {k : ℕ} {es : List A} → es ≡ [] → Front X ts k es 0 k
list_begun X {ts} {k} e = subst (λ es. Front X ts k es 0 k) (sym e) Front.none

pub list_refused : {A : Type 0} {X : Form A} {closing : Operator} {Xs : Form (List A)} → IsElements X closing Xs → {ts : List Terminal} {k d l room : ℕ} {es : List A} → Front X ts k es d l
    → d ≤ room → (IsOperator ts l closing → ⊥) → (u : Unread) → IsUnread X (EndsElement closing) ts l room u → IsUnread (Listed Xs true) (At closing) ts k room u
list_refused laws front shallow none u refused = fails (element_step laws front shallow (λ h. absurd (none h))) u refused

pub list_last : {A : Type 0} {X : Form A} {closing : Operator} {Xs : Form (List A)} → IsElements X closing Xs → {ts : List Terminal} {k d l c m n room : ℕ} {es fs : List A} {e : A}
    → Front X ts k es d l → d ≤ room → IsReading X (EndsElement closing) ts l room e c m → IsOperator ts m closing → fs ≡ es ++ e ∷ [] → n ≡ max d c
    → IsReading (Listed Xs true) (At closing) ts k room (fs, false) n m
list_last {Xs = Xs} laws {ts} {k} {d} {c = c} {m} {n} {es = es} {e = e} front shallow reading close more deep = record {
  derived = subst (λ gs. Listed Xs true ts k (gs, false) n m) (sym more) (subst (λ b. Listed Xs true ts k (es ++ e ∷ [], false) b m) (sym deep) (listed_last laws front reading.derived));
  shallow = omega (arith, deep, shallow, reading.shallow);
  stops = close;
  within = reading.within;
}

comma_there : {closing : Operator} {ts : List Terminal} {m : ℕ} → EndsElement closing ts m → (IsOperator ts m closing → ⊥) → IsOperator ts m sign.Comma
comma_there (inl comma) none = comma
comma_there (inr close) none = absurd (none close)

-- the loop's invariant behind one more element and its comma
pub list_on : {A : Type 0} {X : Form A} {closing : Operator} (tokens : Tokens) → IsInput tokens → {k d l c m n room : ℕ} {es fs : List A} {e : A} → Front X (terminals_of tokens) k es d l
    → d ≤ room → IsReading X (EndsElement closing) (terminals_of tokens) l room e c m → (IsOperator (terminals_of tokens) m closing → ⊥) → fs ≡ es ++ e ∷ [] → n ≡ max d c
    → Front X (terminals_of tokens) k fs n (m + 1) × (n ≤ room) × (m + 1 < length tokens.list)
list_on {X = X} tokens input {k} {d} {c = c} {m} {n} {es = es} {fs} {e} front shallow reading none more deep =
    let ts = terminals_of tokens in
    let comma = comma_there reading.stops none in
    let next : suc m ≡ m + 1 = omega arith in
    let longer : Front X ts k (es ++ e ∷ []) (max d c) (suc m) = front_on front reading.derived comma in
    let deeper : Front X ts k (es ++ e ∷ []) n (suc m) = subst (λ b. Front X ts k (es ++ e ∷ []) b (suc m)) (sym deep) longer in (
      subst (λ j. Front X ts k fs n j) next (subst (λ gs. Front X ts k gs n (suc m)) (sym more) deeper),
      omega (arith, deep, shallow, reading.shallow),
      omega (arith, goes_on tokens m (kind.Operator sign.Comma) input comma (omega arith)),
    )

pub list_whole : {A : Type 0} {X : Form A} {closing : Operator} {Xs : Form (List A)} → IsElements X closing Xs → (tokens : Tokens) {k d l room : ℕ} {es : List A}
    → Front X (terminals_of tokens) k es d l → d ≤ room → l < length tokens.list → IsOperator (terminals_of tokens) l closing
    → IsReading (Listed Xs true) (At closing) (terminals_of tokens) k room (es, nat_lt k l) d l
list_whole laws tokens front shallow within close = record {
  derived = listed_front laws front (λ same. refl);
  shallow = shallow;
  stops = close;
  within = omega (arith, within, length_terminals tokens);
}

-- an element ends behind where it begins
pub list_forward : {A : Type 0} {X : Form A} {closing : Operator} {Xs : Form (List A)} → IsElements X closing Xs → {ts : List Terminal} {l c m room : ℕ} {e : A}
    → IsReading X (EndsElement closing) ts l room e c m → l < m
list_forward laws {ts} {m = m} reading = (laws.carried m (agree_same ts) reading.derived).0
