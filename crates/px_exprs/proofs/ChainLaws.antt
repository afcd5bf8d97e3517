-- Forms that are elements one behind the other, one or more.
use Rattle.std.proofs.Common.{◌≡◌, ℕ, suc, max, ◌≤◌, ◌<◌, ◌++◌, List, [], ◌∷◌, refl, sym, subst, arith}
use Rattle.px_lexer.specs.Terminals.{Terminal}
use Rattle.px_exprs.specs.Readings.{Form, Stops, Agree}
use Rattle.px_exprs.specs.Lists.{Ran}
use Rattle.px_exprs.proofs.Agreement.{agree_same, agree_carried}
use Rattle.px_exprs.proofs.Only.{IsOnly}
use Rattle.px_exprs.proofs.Steps.{Part, Step}

pub data ChainCase {A : Type 0} (E : Form A) (Es : Form (List A)) (us : List Terminal) (k : ℕ) (ts : List A) (c j : ℕ) : Type 0 where
  one : (t : A) → E us k t c j → ts ≡ t ∷ [] → ChainCase E Es us k ts c j
  more : (t : A) (a l : ℕ) (rest : List A) (b : ℕ) → E us k t a l → Es us l rest b j → ts ≡ t ∷ rest → c ≡ max a b → ChainCase E Es us k ts c j

pub record IsChain {A : Type 0} (E : Form A) (Q : Stops) (Es : Form (List A)) (R : Stops) : Type 0 where
  pub one : {us : List Terminal} {k d j : ℕ} {t : A} → E us k t d j → Es us k (t ∷ []) d j
  pub more : {us : List Terminal} {k l a b j : ℕ} {t : A} {rest : List A} → E us k t a l → Es us l rest b j → Es us k (t ∷ rest) (max a b) j
  pub cases : {us : List Terminal} {k c j : ℕ} {es : List A} → Es us k es c j → ChainCase E Es us k es c j
  pub only : {us : List Terminal} {i d j : ℕ} {t : A} → E us i t d j → IsOnly (E us i) (Q us) t d j
  pub carried : {ts us : List Terminal} (n : ℕ) {i d j : ℕ} {t : A} → Agree n us ts → E ts i t d j → (i < j) × (j ≤ n → E us i t d j)
  pub local : {ts us : List Terminal} {j : ℕ} → Agree (suc j) us ts → Q ts j → Q us j
  pub stops : {us : List Terminal} {j : ℕ} → R us j → Q us j
  pub starts : {us : List Terminal} {k d j : ℕ} {t : A} → E us k t d j → Q us k
  pub ends : {us : List Terminal} {k d j : ℕ} {t : A} → R us k → E us k t d j → ⊥

-- Elements that were read

pub ran_on : {A : Type 0} {E : Form A} {ts : List Terminal} {k d l c m : ℕ} {es : List A} {t : A} → Ran E ts k es d l → E ts l t c m → Ran E ts k (es ++ t ∷ []) (max d c) m
ran_on {E = E} {ts} {k} {c = c} {m} {t = t} Ran.none e = let n : max c 0 ≡ max 0 c = omega arith in subst (λ d. Ran E ts k (t ∷ []) d m) n (Ran.more e Ran.none)
ran_on {E = E} {ts} {k} {c = c} {m} {t = t} (Ran.more {a = a} {b = b} {t = first} {rest = rest} f ran) e =
    let n : max a (max b c) ≡ max (max a b) c = omega arith in
    subst (λ d. Ran E ts k (first ∷ (rest ++ t ∷ [])) d m) n (Ran.more f (ran_on ran e))

pub ran_forward : {A : Type 0} {E : Form A} {ts : List Terminal} {k d l : ℕ} {es : List A} → ((i c j : ℕ) (t : A) → E ts i t c j → i < j) → Ran E ts k es d l → k ≤ l
ran_forward forward Ran.none = omega arith
ran_forward forward (Ran.more e ran) = omega (arith, forward _ _ _ _ e, ran_forward forward ran)

chain_forward : {A : Type 0} {E : Form A} {Q : Stops} {Es : Form (List A)} {R : Stops} → IsChain E Q Es R → {ts : List Terminal} {k d l : ℕ} {es : List A} → Ran E ts k es d l → k ≤ l
chain_forward laws {ts} ran = ran_forward (λ i c j t e. (laws.carried j (agree_same ts) e).0) ran

pub ran_whole : {A : Type 0} {E : Form A} {Q : Stops} {Es : Form (List A)} {R : Stops} → IsChain E Q Es R → {ts : List Terminal} {k d j : ℕ} {es : List A} → Ran E ts k es d j → (k ≡ j → ⊥) → Es ts k es d j
ran_whole laws Ran.none apart = absurd (apart refl)
ran_whole {Es = Es} laws {ts} {k} {j = j} (Ran.more {a = a} {t = t} e Ran.none) apart =
    let n : a ≡ max a 0 = omega arith in
    subst (λ d. Es ts k (t ∷ []) d j) n (laws.one e)
ran_whole laws {ts} {j = j} (Ran.more e (Ran.more f ran)) apart =
    laws.more e (ran_whole laws (Ran.more f ran) (λ same. omega (arith, same, (laws.carried j (agree_same ts) f).0, chain_forward laws ran)))

pub ran_carried : {A : Type 0} {E : Form A} {Q : Stops} {Es : Form (List A)} {R : Stops} → IsChain E Q Es R → {ts us : List Terminal} {k d l : ℕ} {es : List A} → Agree l us ts → Ran E ts k es d l → Ran E us k es d l
ran_carried laws agree Ran.none = Ran.none
ran_carried laws {l = l} agree (Ran.more e ran) = Ran.more ((laws.carried l agree e).1 (chain_forward laws ran)) (ran_carried laws agree ran)

-- an element ends where the elements behind it begin
ran_stops : {A : Type 0} {E : Form A} {Q : Stops} {Es : Form (List A)} {R : Stops} → IsChain E Q Es R → {us : List Terminal} {k d l : ℕ} {es : List A} → Ran E us k es d l → Q us l → Q us k
ran_stops laws Ran.none s = s
ran_stops laws (Ran.more e ran) s = laws.starts e

-- and the whole doesn't
ran_ends : {A : Type 0} {E : Form A} {Q : Stops} {Es : Form (List A)} {R : Stops} → IsChain E Q Es R → {us : List Terminal} {k d l : ℕ} {es : List A} → Ran E us k es d l → (R us l → ⊥) → R us k → ⊥
ran_ends laws Ran.none none stop = none stop
ran_ends laws (Ran.more e ran) none stop = laws.ends stop e

chain_starts : {A : Type 0} {E : Form A} {Q : Stops} {Es : Form (List A)} {R : Stops} → IsChain E Q Es R → {us : List Terminal} {k c j : ℕ} {es : List A} → Es us k es c j → Q us k
chain_starts laws whole = elim (laws.cases whole) [ ChainCase.one t e same ↦ laws.starts e | ChainCase.more t a l rest b e others same deep ↦ laws.starts e ]

-- Chains

-- a chain that begins with what was read goes on with an element
chain_split : {A : Type 0} {E : Form A} {Q : Stops} {Es : Form (List A)} {R : Stops} → IsChain E Q Es R → {us : List Terminal} {k d l : ℕ} {es : List A} (room : ℕ) → Ran E us k es d l → Q us l → (R us l → ⊥)
    → (fs : List A) (c j : ℕ) → Es us k fs c j → R us j → (part : Part E Q us l) × (room < part.depth → room < c)
chain_split laws room Ran.none s none fs c j whole stop =
    elim (laws.cases whole) [
      | ChainCase.one t e same ↦ (record { tree = t; depth = c; end = j; derived = e; stops = laws.stops stop }, λ lt. lt)
      | ChainCase.more t a m rest b e others same deep ↦ (record { tree = t; depth = a; end = m; derived = e; stops = chain_starts laws others }, λ lt. omega (arith, lt, deep))
    ]
chain_split {Es = Es} {R = R} laws {us} room (Ran.more e ran) s none fs c j whole stop =
    elim (laws.cases whole) [
      | ChainCase.one t f same ↦
          (let one = laws.only e (ran_stops laws ran s) _ _ _ f (laws.stops stop) in
          absurd (ran_ends laws ran none (subst (λ n. R us n) (sym one.end) stop)))
      | ChainCase.more t a m rest b f others same deep ↦
          (let one = laws.only e (ran_stops laws ran s) _ _ _ f (chain_starts laws others) in
          let later = chain_split laws room ran s none rest b j (subst (λ n. Es us n rest b j) (sym one.end) others) stop in
          (later.0, λ lt. omega (arith, later.1 lt, deep)))
    ]

pub chain_step : {A : Type 0} {E : Form A} {Q : Stops} {Es : Form (List A)} {R : Stops} → IsChain E Q Es R → {ts : List Terminal} {k d l room : ℕ} {es : List A} → Ran E ts k es d l → d ≤ room → Q ts l
    → ((us : List Terminal) → Agree (suc l) us ts → R us l → ⊥) → Step E Q Es R ts k l room room
chain_step laws {ts} {k} {d} {l} {room} {es} ran shallow s none = record {
  forward = chain_forward laws ran;
  make = λ us agree long t c e.
      let longer = (laws.carried l (agree_same us) e).0 in
      let derived = ran_whole laws (ran_on (ran_carried laws agree ran) e) (λ same. omega (arith, same, longer, chain_forward laws ran)) in
      (record { tokens = us; same = agree_same us; long = omega arith; tree = es ++ t ∷ []; depth = max d c; derived = derived }, λ le. omega (arith, shallow, le));
  split = λ us agree fs c j whole stop. chain_split laws room (ran_carried laws (agree_carried _ _ agree (omega arith)) ran) (laws.local agree s) (none us agree) fs c j whole stop;
}
