-- Lists of elements with commas between them before a closing bracket.
use Rattle.std.proofs.Common.{◌≡◌, ℕ, suc, max, nat_lt, ◌≤◌, ◌<◌, ◌++◌, Bool, true, false, inl, inr, List, [], ◌∷◌, refl, sym, subst, ◌∙◌, true≢false, arith}
use Rattle.std.proofs.lemmas.Bool.{le-ltb, lt-ltb}
use Rattle.px_lexer.specs.declared.spelling.Operator.{Operator}
use Rattle.px_lexer.specs.declared.spelling.Operator.TheVariants as sign
use Rattle.px_lexer.specs.Terminals.{Terminal, IsOperator}
use Rattle.px_exprs.specs.Grammar.{HasComma}
use Rattle.px_exprs.specs.Readings.{Form, Agree, At, EndsElement}
use Rattle.px_exprs.specs.Lists.{Front, Listed}
use Rattle.px_exprs.proofs.Agreement.{agree_same, agree_back, agree_carried, kind_carried}
use Rattle.px_lexer.proofs.OneToken.{one_operator}
use Rattle.px_exprs.proofs.Only.{IsOnly}
use Rattle.px_exprs.proofs.Steps.{Part, Step}

pub data ElementsCase {A : Type 0} (X : Form A) (Xs : Form (List A)) (us : List Terminal) (k : ℕ) (es : List A) (c j : ℕ) : Type 0 where
  last : (e : A) → X us k e c j → es ≡ e ∷ [] → ElementsCase X Xs us k es c j
  more : (e : A) (a l : ℕ) (rest : List A) (b : ℕ) → X us k e a l → IsOperator us l sign.Comma → Xs us (suc l) rest b j → es ≡ e ∷ rest → c ≡ max a b → ElementsCase X Xs us k es c j

pub record IsElements {A : Type 0} (X : Form A) (closing : Operator) (Xs : Form (List A)) : Type 0 where
  pub last : {us : List Terminal} {k d j : ℕ} {e : A} → X us k e d j → Xs us k (e ∷ []) d j
  pub more : {us : List Terminal} {k l a b j : ℕ} {e : A} {es : List A} → X us k e a l → IsOperator us l sign.Comma → Xs us (suc l) es b j → Xs us k (e ∷ es) (max a b) j
  pub cases : {us : List Terminal} {k c j : ℕ} {es : List A} → Xs us k es c j → ElementsCase X Xs us k es c j
  pub only : {us : List Terminal} {i d j : ℕ} {e : A} → X us i e d j → IsOnly (X us i) (EndsElement closing us) e d j
  pub carried : {ts us : List Terminal} (n : ℕ) {i d j : ℕ} {e : A} → Agree n us ts → X ts i e d j → (i < j) × (j ≤ n → X us i e d j)
  pub open_ : {us : List Terminal} {k d j : ℕ} {es : List A} → Xs us k es d j → IsOperator us k closing → ⊥
  pub apart : closing ≡ sign.Comma → ⊥

-- Elements that were read

pub front_on : {A : Type 0} {X : Form A} {ts : List Terminal} {k d l c m : ℕ} {es : List A} {e : A} → Front X ts k es d l → X ts l e c m → IsOperator ts m sign.Comma → Front X ts k (es ++ e ∷ []) (max d c) (suc m)
front_on {X = X} {ts} {k} {c = c} {m} {e = e} Front.none x comma = let n : max c 0 ≡ max 0 c = omega arith in subst (λ d. Front X ts k (e ∷ []) d (suc m)) n (Front.more x comma Front.none)
front_on {X = X} {ts} {k} {c = c} {m} {e = e} (Front.more {a = a} {b = b} {e = first} {es = rest} y between front) x comma =
    let n : max a (max b c) ≡ max (max a b) c = omega arith in
    subst (λ d. Front X ts k (first ∷ (rest ++ e ∷ [])) d (suc m)) n (Front.more y between (front_on front x comma))

pub front_forward : {A : Type 0} {X : Form A} {ts : List Terminal} {k d l : ℕ} {es : List A} → ((i c j : ℕ) (e : A) → X ts i e c j → i < j) → Front X ts k es d l → k ≤ l
front_forward forward Front.none = omega arith
front_forward forward (Front.more x comma front) = omega (arith, forward _ _ _ _ x, front_forward forward front)

elements_forward : {A : Type 0} {X : Form A} {closing : Operator} {Xs : Form (List A)} → IsElements X closing Xs → {ts : List Terminal} {k d l : ℕ} {es : List A} → Front X ts k es d l → k ≤ l
elements_forward laws {ts} front = front_forward (λ i c j e x. (laws.carried j (agree_same ts) x).0) front

pub front_carried : {A : Type 0} {X : Form A} {closing : Operator} {Xs : Form (List A)} → IsElements X closing Xs → {ts us : List Terminal} {k d l : ℕ} {es : List A} → Agree l us ts → Front X ts k es d l → Front X us k es d l
front_carried laws agree Front.none = Front.none
front_carried laws {l = l} agree (Front.more x comma front) =
    let rest = elements_forward laws front in
    Front.more ((laws.carried l agree x).1 (omega (arith, rest))) (kind_carried comma (omega (arith, rest)) agree) (front_carried laws agree front)

-- elements with a comma behind the last of them
record Ended {A : Type 0} (Xs : Form (List A)) (ts : List Terminal) (k : ℕ) (es : List A) (d l : ℕ) : Type 0 where
  pub end : ℕ
  pub before : suc end ≡ l
  pub comma : IsOperator ts end sign.Comma
  pub derived : Xs ts k es d end

front_ended : {A : Type 0} {X : Form A} {closing : Operator} {Xs : Form (List A)} → IsElements X closing Xs → {ts : List Terminal} {k d l : ℕ} {es : List A} → Front X ts k es d l → (k ≡ l → ⊥) → Ended Xs ts k es d l
front_ended laws Front.none apart = absurd (apart refl)
front_ended {Xs = Xs} laws {ts} {k} (Front.more {l = l} {a = a} {e = e} x comma Front.none) apart =
    let n : a ≡ max a 0 = omega arith in
    record { end = l; before = refl; comma = comma; derived = subst (λ d. Xs ts k (e ∷ []) d l) n (laws.last x) }
front_ended laws {ts} (Front.more x comma (Front.more {l = m} y second front)) apart =
    let rest = front_ended laws (Front.more y second front) (λ same. omega (arith, same, (laws.carried m (agree_same ts) y).0, elements_forward laws front)) in
    record { end = rest.end; before = rest.before; comma = rest.comma; derived = laws.more x comma rest.derived }

front_last : {A : Type 0} {X : Form A} {closing : Operator} {Xs : Form (List A)} → IsElements X closing Xs → {ts : List Terminal} {k d l c m : ℕ} {es : List A} {e : A} → Front X ts k es d l → X ts l e c m
    → Xs ts k (es ++ e ∷ []) (max d c) m
front_last {Xs = Xs} laws {ts} {k} {c = c} {m} {e = e} Front.none x = let n : c ≡ max 0 c = omega arith in subst (λ d. Xs ts k (e ∷ []) d m) n (laws.last x)
front_last {Xs = Xs} laws {ts} {k} {c = c} {m} {e = e} (Front.more {a = a} {b = b} {e = first} {es = rest} y comma front) x =
    let n : max a (max b c) ≡ max (max a b) c = omega arith in
    subst (λ d. Xs ts k (first ∷ (rest ++ e ∷ [])) d m) n (laws.more y comma (front_last laws front x))

pub below_next : (n : ℕ) → nat_lt n (suc n) ≡ true
below_next n = lt-ltb n (suc n) (omega arith)

pub not_below : (n : ℕ) → nat_lt n n ≡ false
not_below n = le-ltb n n (omega arith)

below : (n m : ℕ) → n < m → nat_lt n m ≡ true
below n m lt = lt-ltb n m lt

pub listed_front : {A : Type 0} {X : Form A} {closing : Operator} {Xs : Form (List A)} → IsElements X closing Xs → {empty : Bool} {ts : List Terminal} {k d l : ℕ} {es : List A} → Front X ts k es d l → (k ≡ l → empty ≡ true)
    → Listed Xs empty ts k (es, nat_lt k l) d l
listed_front {Xs = Xs} laws {empty} {ts} {k} Front.none may = subst (λ b. Listed Xs empty ts k ([], b) 0 k) (sym (not_below k)) (Listed.nothing (may refl))
listed_front {Xs = Xs} laws {empty} {ts} {k} {d} {l} {es} (Front.more {l = m} {es = rest} x comma front) may =
    let first = (laws.carried m (agree_same ts) x).0 in
    let forward : k < l = omega (arith, first, elements_forward laws front) in
    let ended = front_ended laws (Front.more x comma front) (λ same. omega (arith, same, forward)) in
    let list : Listed Xs empty ts k (es, nat_lt ended.end (suc ended.end)) d (suc ended.end) = Listed.some ended.derived (HasComma.comma ended.comma) in
    let told = below_next ended.end ∙ sym (below k l forward) in
    subst (λ n. Listed Xs empty ts k (es, nat_lt k l) d n) ended.before (subst (λ b. Listed Xs empty ts k (es, b) d (suc ended.end)) told list)

pub listed_last : {A : Type 0} {X : Form A} {closing : Operator} {Xs : Form (List A)} → IsElements X closing Xs → {empty : Bool} {ts : List Terminal} {k d l c m : ℕ} {es : List A} {e : A} → Front X ts k es d l → X ts l e c m
    → Listed Xs empty ts k (es ++ e ∷ [], false) (max d c) m
listed_last {Xs = Xs} laws {empty} {ts} {k} {d} {c = c} {m} {es} {e} front x =
    subst (λ b. Listed Xs empty ts k (es ++ e ∷ [], b) (max d c) m) (not_below m) (Listed.some (front_last laws front x) HasComma.no_comma)

-- Lists

ends_before : {closing : Operator} {us : List Terminal} {l j : ℕ} → HasComma us l j → IsOperator us j closing → EndsElement closing us l
ends_before HasComma.no_comma close = inr close
ends_before (HasComma.comma h) close = inl h

-- behind the last element and its comma stands the bracket
closed_behind : {closing : Operator} {us : List Terminal} {l j : ℕ} → (closing ≡ sign.Comma → ⊥) → HasComma us l j → IsOperator us j closing → IsOperator us l sign.Comma → IsOperator us (suc l) closing
closed_behind apart HasComma.no_comma close comma = absurd (apart (one_operator close comma))
closed_behind apart (HasComma.comma h) close comma = close

-- where elements stand before a comma, the bracket doesn't stand behind it before more of them
front_open : {A : Type 0} {X : Form A} {closing : Operator} {Xs : Form (List A)} → IsElements X closing Xs → {us : List Terminal} {k d l : ℕ} {es : List A} → Front X us k es d l → (IsOperator us l closing → ⊥) → IsOperator us k closing → ⊥
front_open laws Front.none none close = none close
front_open laws (Front.more x comma front) none close = laws.open_ (laws.last x) close

-- a list that begins with what was read goes on with an element
elements_split : {A : Type 0} {X : Form A} {closing : Operator} {Xs : Form (List A)} → IsElements X closing Xs → {us : List Terminal} {k d l : ℕ} {es : List A} (room : ℕ) → Front X us k es d l → (IsOperator us l closing → l ≡ k)
    → (fs : List A) (c m j : ℕ) → Xs us k fs c m → HasComma us m j → IsOperator us j closing → (part : Part X (EndsElement closing) us l) × (room < part.depth → room < c)
elements_split laws room Front.none begun fs c m j whole ending close =
    elim (laws.cases whole) [
      | ElementsCase.last e x same ↦ (record { tree = e; depth = c; end = m; derived = x; stops = ends_before ending close }, λ lt. lt)
      | ElementsCase.more e a n rest b x comma others same deep ↦ (record { tree = e; depth = a; end = n; derived = x; stops = inl comma }, λ lt. omega (arith, lt, deep))
    ]
elements_split {closing = closing} {Xs = Xs} laws {us} {k} {l = l} room (Front.more {l = p} x comma front) begun fs c m j whole ending close =
    let first = (laws.carried p (agree_same us) x).0 in
    let later = elements_forward laws front in
    let none : IsOperator us l closing → ⊥ = λ h. omega (arith, begun h, first, later) in
    elim (laws.cases whole) [
      | ElementsCase.last e y same ↦
          (let one = laws.only x (inl comma) _ _ _ y (ends_before ending close) in
          let behind = closed_behind laws.apart ending close (subst (λ n. IsOperator us n sign.Comma) one.end comma) in
          absurd (front_open laws front none (subst (λ n. IsOperator us (suc n) closing) (sym one.end) behind)))
      | ElementsCase.more e a n rest b y second others same deep ↦
          (let one = laws.only x (inl comma) _ _ _ y (inl second) in
          let on = elements_split laws room front (λ h. absurd (none h)) rest b m j (subst (λ n. Xs us (suc n) rest b m) (sym one.end) others) ending close in
          (on.0, λ lt. omega (arith, on.1 lt, deep)))
    ]

listed_split : {A : Type 0} {X : Form A} {closing : Operator} {Xs : Form (List A)} → IsElements X closing Xs → {empty : Bool} {us : List Terminal} {k d l : ℕ} {es : List A} (room : ℕ) → Front X us k es d l
    → (IsOperator us l closing → (l ≡ k) × (empty ≡ false)) → (f : List A × Bool) (c j : ℕ) → Listed Xs empty us k f c j → IsOperator us j closing → (part : Part X (EndsElement closing) us l) × (room < part.depth → room < c)
listed_split laws room Front.none begun _ c j (Listed.nothing may) close = let no = (begun close).1 in absurd (true≢false (sym may ∙ no))
listed_split laws room (Front.more x comma front) begun _ c j (Listed.nothing may) close = absurd (laws.open_ (laws.last x) close)
listed_split laws room front begun _ c j (Listed.some {l = m} {es = fs} list ending) close = elements_split laws room front (λ h. (begun h).0) fs c m j list ending close

pub element_step : {A : Type 0} {X : Form A} {closing : Operator} {Xs : Form (List A)} → IsElements X closing Xs → {empty : Bool} {ts : List Terminal} {k d l room : ℕ} {es : List A} → Front X ts k es d l → d ≤ room
    → (IsOperator ts l closing → (l ≡ k) × (empty ≡ false)) → Step X (EndsElement closing) (Listed Xs empty) (At closing) ts k l room room
element_step laws {empty} {ts} {k} {d} {l} {room} {es} front shallow begun = record {
  forward = elements_forward laws front;
  make = λ us agree long e c x.
      (record { tokens = us; same = agree_same us; long = omega arith; tree = (es ++ e ∷ [], false); depth = max d c; derived = listed_last laws (front_carried laws agree front) x }, λ le. omega (arith, shallow, le));
  split = λ us agree f c j whole close.
      listed_split laws room (front_carried laws (agree_carried _ _ agree (omega arith)) front) (λ h. begun (kind_carried h (omega arith) (agree_back us ts agree))) f c j whole close;
}
