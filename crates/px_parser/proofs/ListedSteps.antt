-- How a list is read whose elements have a separator between them, and perhaps one behind the last.
use Rattle.std.proofs.Common.{◌≡◌, ℕ, suc, ◌≤◌, List, [], ◌∷◌, ◌++◌, ◌⊎◌, inl, inr, length, take, refl, sym, ap, subst, ◌∙◌, arith}
use Rattle.std.proofs.lemmas.List.{length-take-le}
use Rattle.px_lexer.specs.declared.token_list.TokenKind.{TokenKind}
use Rattle.px_lexer.specs.Terminals.{Terminal, HasKind}
use Rattle.px_exprs.specs.Readings.{Stops, Agree}
use Rattle.px_exprs.specs.Runs.{nesting_limit}
use Rattle.px_exprs.proofs.Agreement.{agree_same, agree_carried, agree_front}
use Rattle.px_parser.specs.Shapes.{Mode, Shape, Gives, Either, Many, Listed, Before, Elements}
use Rattle.px_parser.specs.Parsing.{strict, looks_before}
use Rattle.px_parser.specs.Readings.{IsShallow, IsReached, IsStuck, IsReading, Anywhere, IsArrived}
use Rattle.px_parser.proofs.Shapely.{Sound, IsRising, sound_many, sound_before, rises_many, rises_before, rises_listed}
use Rattle.px_parser.proofs.Onlies.{Leads, Clash, Sees, Only, sees_less}
use Rattle.px_parser.proofs.Steps.{Part, Step, Never, strict_unseen, sees_strict, many_more, step_left, step_twice}

-- Forms that were read, and where they may not end

-- what was read is a way on
pub read_reached : {A : Type 0} {X : Shape A} {M : Stops} {ts : List Terminal} {i room j : ℕ} {t : A} → Sound X → IsRising X → IsReading X M ts i room t j → IsReached X ts i j room
read_reached {A} {X} {M} {ts} {i} {room} {j} {t} sound rising reading =
    let long : length (take j ts) ≡ j = length-take-le j ts (omega (arith, reading.within)) in
    let cut : X (strict nesting_limit) (take j ts) i t room (length (take j ts)) = subst (λ n. X (strict nesting_limit) (take j ts) i t room n) (sym long) (sound.carried reading.derived (agree_front j ts)) in
    record {
      way = record { tokens = take j ts; same = agree_front j ts; long = omega (arith, long); tree = t; limit = nesting_limit; blocks = room; derived = cut };
      shallow = IsShallow.shallow (record {
        tokens = take j ts;
        same = agree_front j ts;
        long = omega (arith, long);
        tree = t;
        derived = (rising (strict nesting_limit) (looks_before j) room room (strict_unseen nesting_limit nesting_limit j (omega arith)) (omega arith)).rise cut;
      });
    }

-- it is refused at the token behind it
pub stuck_behind : {A : Type 0} {X : Shape A} {M R : Stops} {ts : List Terminal} {i room j : ℕ} {t : A} → Sound X → IsRising X → Only X M → ((us : List Terminal) (p : ℕ) → R us p → M us p) → IsReading X M ts i room t j
    → ((us : List Terminal) → Agree (suc j) us ts → R us j → ⊥) → IsStuck X R ts i room j
stuck_behind {R = R} {j = j} sound rising only wider reading none = record {
  forward = sound.forward reading.derived;
  within = reading.within;
  reached = IsArrived.reached (read_reached sound rising reading);
  none = λ us agree limit tree blocks k x r.
      let same = only.one reading.derived reading.stops x (wider us k r) agree (sees_strict nesting_limit j) (sees_strict limit j) in
      none us agree (subst (R us) (sym same.1) r);
}

-- Fronts

-- elements each with its separator
abbrev pub Front : {A : Type 0} → TokenKind → Shape A → Shape (List A)
Front k X = Many (Before X k)

-- where an element of a list ends that ends there
abbrev pub EndsIn : TokenKind → Stops → Stops
EndsIn k S ts i = HasKind ts i k ⊎ S ts i

pub front_more : {A : Type 0} {X : Shape A} (k : TokenKind) {mode : Mode} {ts : List Terminal} {i l n j : ℕ} {xs : List A} {t : A} → Front k X mode ts i xs n l → X mode ts l t n j → HasKind ts j k → Front k X mode ts i (xs ++ t ∷ []) n (suc j)
front_more k {j = j} {t = t} front x stands = many_more front (record { inner = (t, tt); read = record { middle = j; first = x; second = record { stands = stands; end = refl } }; tree = refl })

pub front_forward : {A : Type 0} {X : Shape A} (k : TokenKind) {mode : Mode} {ts : List Terminal} {i l n : ℕ} {xs : List A} → Sound X → Front k X mode ts i xs n l → i ≤ l
front_forward k sound front = (sound_many (sound_before k sound)).forward front

-- one more element ends the list
pub listed_last : {A : Type 0} {X : Shape A} (k : TokenKind) {mode : Mode} {ts : List Terminal} {i l n j : ℕ} {xs : List A} {t : A} → Front k X mode ts i xs n l → X mode ts l t n j → Listed k X mode ts i (xs ++ t ∷ []) n j
listed_last k Many.none x = Listed.last x
listed_last {X = X} k {mode} {ts} {i} {l} {n} {j} {t = t} (Many.more {t = first} {others = xs} g tail) x =
    let rest : Listed k X mode ts (suc g.read.middle) (xs ++ t ∷ []) n j = subst (λ p. Listed k X mode ts p (xs ++ t ∷ []) n j) g.read.second.end (listed_last k tail x) in
    subst (λ a. Listed k X mode ts i (a ∷ (xs ++ t ∷ [])) n j) (sym g.tree) (Listed.more g.read.first g.read.second.stands rest)

-- some elements each with its separator are a list
pub listed_ended : {A : Type 0} {X : Shape A} (k : TokenKind) {mode : Mode} {ts : List Terminal} {i l n : ℕ} {xs : List A} → Front k X mode ts i xs n l → (xs ≡ [] → ⊥) → Listed k X mode ts i xs n l
listed_ended k Many.none some = absurd (some refl)
listed_ended {X = X} k {mode} {ts} {i} {l} {n} (Many.more {t = first} g Many.none) some =
    subst (λ a. Listed k X mode ts i (a ∷ []) n l) (sym g.tree) (subst (λ p. Listed k X mode ts i (g.inner.0 ∷ []) n p) (sym g.read.second.end) (Listed.ended g.read.first g.read.second.stands))
listed_ended {X = X} k {mode} {ts} {i} {l} {n} (Many.more {t = first} g (Many.more {t = second} {others = xs} h tail)) some =
    let rest : Listed k X mode ts (suc g.read.middle) (second ∷ xs) n l = subst (λ p. Listed k X mode ts p (second ∷ xs) n l) g.read.second.end (listed_ended k (Many.more h tail) (λ e. cc)) in
    subst (λ a. Listed k X mode ts i (a ∷ (second ∷ xs)) n l) (sym g.tree) (Listed.more g.read.first g.read.second.stands rest)

pub elements_ended : {A : Type 0} {X : Shape A} (k : TokenKind) {mode : Mode} {ts : List Terminal} {i l n : ℕ} {xs : List A} → Front k X mode ts i xs n l → Elements k X mode ts i xs n l
elements_ended k Many.none = Either.right (record { tree = refl; end = refl })
elements_ended k (Many.more g tail) = Either.left (listed_ended k (Many.more g tail) (λ e. cc))

pub elements_last : {A : Type 0} {X : Shape A} (k : TokenKind) {mode : Mode} {ts : List Terminal} {i l n j : ℕ} {xs : List A} {t : A} → Front k X mode ts i xs n l → X mode ts l t n j → Elements k X mode ts i (xs ++ t ∷ []) n j
elements_last k front x = Either.left (listed_last k front x)

-- Steps

-- the first element of a list
listed_first : {A : Type 0} {X : Shape A} {S : Stops} (k : TokenKind) {mode : Mode} {us : List Terminal} {i n j : ℕ} {f : List A} → Listed k X mode us i f n j → S us j → Part X (EndsIn k S) mode us i n
listed_first k (Listed.last x) s = record { tree = _; end = _; derived = x; stops = inr s }
listed_first k (Listed.ended x stands) s = record { tree = _; end = _; derived = x; stops = inl stands }
listed_first k (Listed.more x stands rest) s = record { tree = _; end = _; derived = x; stops = inl stands }

-- a list doesn't end before an element
pub no_end_before : {A : Type 0} {X : Shape A} {S T : Stops} {ts : List Terminal} {mode : Mode} {i l n : ℕ} {xs : List A} (k : TokenKind) → Sound X → Leads X Anywhere T → Clash T S → Front k X mode ts i xs n l
    → ((us : List Terminal) → Agree (suc l) us ts → S us l → ⊥) → (us : List Terminal) → Agree (suc i) us ts → S us i → ⊥
no_end_before k sound leads clash Many.none goes_on us agree s = goes_on us agree s
no_end_before {ts = ts} k sound leads clash (Many.more g tail) goes_on us agree s = clash ts us _ agree (leads.leads g.read.first tt) s

listed_split : {A : Type 0} {X : Shape A} {M S T : Stops} {ts : List Terminal} (k : TokenKind) {room i l : ℕ} {xs : List A} → Sound X → Only X M → Leads X Anywhere T → Clash T S → Clash (λ vs p. HasKind vs p k) S
    → ((us : List Terminal) (p : ℕ) → HasKind us p k → M us p) → ((us : List Terminal) (p : ℕ) → S us p → M us p) → ((us : List Terminal) → Agree (suc l) us ts → S us l → ⊥) → Front k X (strict nesting_limit) ts i xs room l
    → (us : List Terminal) → Agree (suc l) us ts → (mode : Mode) (n : ℕ) → Sees mode l → {j : ℕ} {f : List A} → Listed k X mode us i f n j → S us j → Part X (EndsIn k S) mode us l n
listed_split k sound only leads clash apart sep ends goes_on Many.none us agree mode n sees whole s = listed_first k whole s
listed_split {S = S} {ts = ts} k sound only leads clash apart sep ends goes_on (Many.more g tail) us agree mode n sees (Listed.last h) s =
    let le = front_forward k sound tail in
    let one = only.one g.read.first (sep ts _ g.read.second.stands) h (ends us _ s) (agree_carried us ts agree (omega (arith, le, g.read.second.end))) (sees_strict nesting_limit _) (sees_less mode sees (omega (arith, le, g.read.second.end))) in
    absurd (apart ts us g.read.middle (agree_carried us ts agree (omega (arith, le, g.read.second.end))) g.read.second.stands (subst (S us) (sym one.1) s))
listed_split {S = S} {ts = ts} k sound only leads clash apart sep ends goes_on (Many.more g tail) us agree mode n sees (Listed.ended h stands) s =
    let le = front_forward k sound tail in
    let one = only.one g.read.first (sep ts _ g.read.second.stands) h (sep us _ stands) (agree_carried us ts agree (omega (arith, le, g.read.second.end))) (sees_strict nesting_limit _) (sees_less mode sees (omega (arith, le, g.read.second.end))) in
    absurd (no_end_before {S = S} k sound leads clash tail goes_on us (agree_carried us ts agree (omega (arith, le))) (subst (S us) (sym (g.read.second.end ∙ ap suc one.1)) s))
listed_split {X = X} {S = S} {ts = ts} k sound only leads clash apart sep ends goes_on (Many.more g tail) us agree mode n sees {j} (Listed.more {others = others} h stands rest) s =
    let le = front_forward k sound tail in
    let one = only.one g.read.first (sep ts _ g.read.second.stands) h (sep us _ stands) (agree_carried us ts agree (omega (arith, le, g.read.second.end))) (sees_strict nesting_limit _) (sees_less mode sees (omega (arith, le, g.read.second.end))) in
    let moved : Listed k X mode us _ others n j = subst (λ p. Listed k X mode us p others n j) (sym (g.read.second.end ∙ ap suc one.1)) rest in
    listed_split {S = S} k sound only leads clash apart sep ends goes_on tail us agree mode n sees moved s

-- the first element
pub step_listed_first : {A : Type 0} {X : Shape A} {S : Stops} (k : TokenKind) (ts : List Terminal) (i room : ℕ) → IsRising X → Step X (EndsIn k S) (Listed k X) S ts i i room
step_listed_first {S = S} k ts i room rising = record {
  forward = omega arith;
  rising = rising;
  make = λ mode us n e agree long least le opens x. record { tokens = us; same = agree_same us; long = omega arith; tree = e ∷ []; derived = Listed.last x };
  split = λ mode us n f j agree sees whole stop. listed_first {S = S} k whole stop;
}

-- one more element, behind others, where the list doesn't end
pub step_listed_next : {A : Type 0} {X : Shape A} {M S T : Stops} (k : TokenKind) (ts : List Terminal) (i l room : ℕ) (xs : List A) → Sound X → IsRising X → Only X M → Leads X Anywhere T → Clash T S → Clash (λ vs p. HasKind vs p k) S
    → ((us : List Terminal) (p : ℕ) → HasKind us p k → M us p) → ((us : List Terminal) (p : ℕ) → S us p → M us p) → Front k X (strict nesting_limit) ts i xs room l → ((us : List Terminal) → Agree (suc l) us ts → S us l → ⊥)
    → Step X (EndsIn k S) (Listed k X) S ts i l room
step_listed_next {S = S} k ts i l room xs sound rising only leads clash apart sep ends front goes_on = record {
  forward = front_forward k sound front;
  rising = rising;
  make = λ mode us n e agree long least le opens x. record {
    tokens = us;
    same = agree_same us;
    long = omega arith;
    tree = xs ++ e ∷ [];
    derived = listed_last k ((sound_many (sound_before k sound)).carried ((rises_many (rises_before k (rising (strict nesting_limit) mode room n least le))).rise front) agree) x;
  };
  split = λ mode us n f j agree sees whole stop. listed_split {S = S} k sound only leads clash apart sep ends goes_on front us agree mode n sees whole stop;
}

-- the same of a list that may be empty
pub step_elements : {A : Type 0} {X : Shape A} {M S T : Stops} (k : TokenKind) (ts : List Terminal) (i l room : ℕ) (xs : List A) → Sound X → IsRising X → Only X M → Leads X Anywhere T → Clash T S → Clash (λ vs p. HasKind vs p k) S
    → ((us : List Terminal) (p : ℕ) → HasKind us p k → M us p) → ((us : List Terminal) (p : ℕ) → S us p → M us p) → Front k X (strict nesting_limit) ts i xs room l → ((us : List Terminal) → Agree (suc l) us ts → S us l → ⊥)
    → Step X (EndsIn k S) (Elements k X) S ts i l room
step_elements {X = X} {S = S} k ts i l room xs sound rising only leads clash apart sep ends front goes_on =
    let rises : IsRising (Listed k X) = λ mode other n m le more. rises_listed k (rising mode other n m le more) in
    let some : Never (Gives []) S ts i = λ us agree mode t n j x s. no_end_before {S = S} k sound leads clash front goes_on us agree (subst (S us) x.end s) in
    step_twice (step_listed_next {S = S} k ts i l room xs sound rising only leads clash apart sep ends front goes_on) (step_left ts i room rises some)
