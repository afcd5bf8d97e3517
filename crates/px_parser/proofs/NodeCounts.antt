-- What holds of each shape of the grammar: the numbers in its tree are indices of its own tokens, each once.
use Rattle.std.proofs.Common.{◌≡◌, ℕ, suc, ◌<◌, ◌≤◌, ◌≢◌, List, [], ◌∷◌, ◌++◌, Option, Some, None, All, refl, sym, ap, ◌∙◌, subst, arith, append_assoc, append-nil}
use Rattle.std.proofs.lemmas.List.Elements.{All-cons, All-head, All-tail}
use Rattle.px_lexer.specs.declared.token_list.TokenKind.{TokenKind}
use Rattle.px_lexer.specs.Terminals.{Terminal}
use Rattle.px_exprs.proofs.NodeRanges.{IsWithin, Fits, nothing, wider, with_own, before, both}
use Rattle.px_parser.specs.Shapes.{Shape, Token, Name, Here, Placed, Gives, Then, Seq, Either, Many, Listed, Of, After, Before, Or, Maybe, Several, Separated, Elements}
use Rattle.px_parser.specs.Parsing.{strict}
use Rattle.px_parser.specs.ModuleNumbers.{numbers_in_part, numbers_in_each}
use Rattle.px_parser.proofs.Shapely.{Sound, sound_token}

-- Lists of numbers

-- the same list
pub same_fits : {ns ms : List ℕ} {i j : ℕ} → ms ≡ ns → Fits ns i j → Fits ms i j
same_fits {i} {j} same f = subst (λ xs. Fits xs i j) (sym same) f

first_within : (n : ℕ) (ns : List ℕ) {i j : ℕ} → Fits (n ∷ ns) i j → IsWithin i j n
first_within n ns {i} {j} f = All-head (IsWithin i j) n ns f.within

first_apart : (n : ℕ) (ns : List ℕ) {i j : ℕ} → Fits (n ∷ ns) i j → All (λ m. n ≢ m) ns
first_apart n ns f k d lt = f.distinct 0 (suc k) d (omega arith) (omega (arith, lt))

-- without the first
pub others_fit : (n : ℕ) (ns : List ℕ) {i j : ℕ} → Fits (n ∷ ns) i j → Fits ns i j
others_fit n ns {i} {j} f = record { within = All-tail (IsWithin i j) n ns f.within; distinct = λ a b d lt within. f.distinct (suc a) (suc b) d (omega (arith, lt)) (omega (arith, within)) }

all_moved : (P : ℕ → Type 0) (ns ms : List ℕ) (k : ℕ) → All P (ns ++ k ∷ ms) → All P (k ∷ (ns ++ ms))
all_moved P [] ms k h = h
all_moved P (n ∷ ns) ms k h =
    let behind = all_moved P ns ms k (All-tail P n (ns ++ k ∷ ms) h) in
    All-cons P k (n ∷ (ns ++ ms)) (All-head P k (ns ++ ms) behind) (All-cons P n (ns ++ ms) (All-head P n (ns ++ k ∷ ms) h) (All-tail P k (ns ++ ms) behind))

-- one of them before the others
pub moved : (ns ms : List ℕ) (k : ℕ) {i j : ℕ} → Fits (ns ++ k ∷ ms) i j → Fits (k ∷ (ns ++ ms)) i j
moved [] ms k f = f
moved (n ∷ ns) ms k f =
    let behind = moved ns ms k (others_fit n (ns ++ k ∷ ms) f) in
    let place = first_within k (ns ++ ms) behind in
    let own = first_within n (ns ++ k ∷ ms) f in
    let apart = all_moved (λ m. n ≢ m) ns ms k (first_apart n (ns ++ k ∷ ms) f) in
    let unlike : n ≢ k = All-head (λ m. n ≢ m) k (ns ++ ms) apart in
    with_own place.0 place.1 (All-cons (λ m. k ≢ m) n (ns ++ ms) (λ same. unlike (sym same)) (first_apart k (ns ++ ms) behind))
    (with_own own.0 own.1 (All-tail (λ m. n ≢ m) k (ns ++ ms) apart) (others_fit k (ns ++ ms) behind))

-- the last before the others
pub last_first : (ns : List ℕ) (k : ℕ) {i j : ℕ} → Fits (ns ++ k ∷ []) i j → Fits (k ∷ ns) i j
last_first ns k f = same_fits (ap (λ ms. k ∷ ms) (sym (append-nil ns))) (moved ns [] k f)

pub ended : (ns : List ℕ) {i j : ℕ} → Fits ns i j → Fits (ns ++ []) i j
ended ns f = same_fits (append-nil ns) f

pub unended : (ns : List ℕ) {i j : ℕ} → Fits (ns ++ []) i j → Fits ns i j
unended ns f = same_fits (sym (append-nil ns)) f

-- Lists of parts

pub each_append : {A : Type 0} (numbers : A → List ℕ) (xs ys : List A) → numbers_in_each numbers (xs ++ ys) ≡ numbers_in_each numbers xs ++ numbers_in_each numbers ys
each_append numbers [] ys = refl
each_append numbers (x ∷ xs) ys = ap (λ ns. numbers x ++ ns) (each_append numbers xs ys) ∙ sym (append_assoc (numbers x) (numbers_in_each numbers xs) (numbers_in_each numbers ys))

-- Shapes

pub record Counts {A : Type 0} (X : Shape A) (numbers : A → List ℕ) : Type 0 where
  pub forward : {limit : ℕ} {ts : List Terminal} {i n j : ℕ} {t : A} → X (strict limit) ts i t n j → i ≤ j
  pub fits : {limit : ℕ} {ts : List Terminal} {i n j : ℕ} {t : A} → X (strict limit) ts i t n j → Fits (numbers t) i j

-- a form without numbers
pub counts_none : {A : Type 0} {X : Shape A} → Sound X → Counts X (λ _. [])
counts_none sound = record { forward = λ h. sound.forward h; fits = λ h. nothing }

pub counts_gives : {A : Type 0} (numbers : A → List ℕ) (value : A) → numbers value ≡ [] → Counts (Gives value) numbers
counts_gives numbers value e = record {
  forward = λ h. omega (arith, h.end);
  fits = λ {i} {j} h. subst (λ t. Fits (numbers t) i j) (sym h.tree) (same_fits e nothing);
}

-- the same numbers in another order, or fewer
pub counts_as : {A : Type 0} {X : Shape A} {f g : A → List ℕ} → Counts X f → ((t : A) (i j : ℕ) → Fits (f t) i j → Fits (g t) i j) → Counts X g
counts_as x how = record { forward = λ h. x.forward h; fits = λ {i} {j} {t} h. how t i j (x.fits h) }

pub counts_then : {A B : Type 0} {X : Shape A} {Y : A → Shape B} {f : A → List ℕ} {g : B → List ℕ} → Counts X f → ((a : A) → Counts (Y a) g) → Counts (Then X Y) (λ p. f p.0 ++ g p.1)
counts_then x y = record {
  forward = λ {t} h. omega (arith, x.forward h.first, (y t.0).forward h.second);
  fits = λ {t} h. both (x.fits h.first) ((y t.0).fits h.second) (x.forward h.first) (omega arith) ((y t.0).forward h.second);
}

pub counts_seq : {A B : Type 0} {X : Shape A} {Y : Shape B} {f : A → List ℕ} {g : B → List ℕ} → Counts X f → Counts Y g → Counts (Seq X Y) (λ p. f p.0 ++ g p.1)
counts_seq x y = counts_then x (λ a. y)

pub counts_first : {A B : Type 0} {X : Shape A} {Y : Shape B} {f : A → List ℕ} → Counts X f → Sound Y → Counts (Seq X Y) (λ p. f p.0)
counts_first {f} x sound = counts_as (counts_seq x (counts_none sound)) (λ p i j h. unended (f p.0) h)

pub counts_second : {A B : Type 0} {X : Shape A} {Y : Shape B} {g : B → List ℕ} → Sound X → Counts Y g → Counts (Seq X Y) (λ p. g p.1)
counts_second sound y = counts_seq (counts_none sound) y

pub counts_placed : {A : Type 0} {X : Shape A} {f : A → List ℕ} → Counts X f → Counts (Placed X) (λ p. f p.1)
counts_placed x = record {
  forward = λ h. omega (arith, h.first.end, x.forward h.second);
  fits = λ h. wider (x.fits h.second) (omega (arith, h.first.end)) (omega arith);
}

pub counts_either : {A : Type 0} {X Y : Shape A} {f : A → List ℕ} → Counts X f → Counts Y f → Counts (Either X Y) f
counts_either x y = record {
  forward = λ h. elim (h) [
    | Either.left g ↦ x.forward g
    | Either.right g ↦ y.forward g
  ];
  fits = λ h. elim (h) [
    | Either.left g ↦ x.fits g
    | Either.right g ↦ y.fits g
  ];
}

pub counts_of : {A B : Type 0} {X : Shape A} {f : A → List ℕ} {g : B → List ℕ} (h : A → B) → Counts X f → ((a : A) (i j : ℕ) → Fits (f a) i j → Fits (g (h a)) i j) → Counts (Of h X) g
counts_of {g} h x how = record {
  forward = λ r. x.forward r.read;
  fits = λ {i} {j} r. subst (λ t. Fits (g t) i j) (sym r.tree) (how r.inner i j (x.fits r.read));
}

many_fits : {A : Type 0} {X : Shape A} {f : A → List ℕ} → Counts X f → {limit : ℕ} {ts : List Terminal} {i n j : ℕ} {xs : List A} → Many X (strict limit) ts i xs n j → (i ≤ j) × Fits (numbers_in_each f xs) i j
many_fits x Many.none = (omega arith, nothing)
many_fits x (Many.more h rest) =
    let behind = many_fits x rest in
    (omega (arith, x.forward h, behind.0), both (x.fits h) behind.1 (x.forward h) (omega arith) behind.0)

pub counts_many : {A : Type 0} {X : Shape A} {f : A → List ℕ} → Counts X f → Counts (Many X) (numbers_in_each f)
counts_many x = record { forward = λ h. (many_fits x h).0; fits = λ h. (many_fits x h).1 }

listed_fits : {A : Type 0} {X : Shape A} {f : A → List ℕ} {k : TokenKind} → Counts X f → {limit : ℕ} {ts : List Terminal} {i n j : ℕ} {xs : List A} → Listed k X (strict limit) ts i xs n j → (i ≤ j) × Fits (numbers_in_each f xs) i j
listed_fits {f} x (Listed.last {t} h) = (x.forward h, ended (f t) (x.fits h))
listed_fits {f} x (Listed.ended {t} h comma) = (omega (arith, x.forward h), wider (ended (f t) (x.fits h)) (omega arith) (omega arith))
listed_fits x (Listed.more h comma rest) =
    let behind = listed_fits x rest in
    (omega (arith, x.forward h, behind.0), both (x.fits h) behind.1 (omega (arith, x.forward h)) (omega arith) (omega (arith, behind.0)))

pub counts_listed : {A : Type 0} {X : Shape A} {f : A → List ℕ} (k : TokenKind) → Counts X f → Counts (Listed k X) (numbers_in_each f)
counts_listed k x = record { forward = λ h. (listed_fits x h).0; fits = λ h. (listed_fits x h).1 }

pub counts_after : {A : Type 0} {X : Shape A} {f : A → List ℕ} (k : TokenKind) → Counts X f → Counts (After k X) f
counts_after k x = counts_of _ (counts_second (sound_token k) x) (λ p i j h. h)

pub counts_before : {A : Type 0} {X : Shape A} {f : A → List ℕ} (k : TokenKind) → Counts X f → Counts (Before X k) f
counts_before k x = counts_of _ (counts_first x (sound_token k)) (λ p i j h. h)

pub counts_or : {A : Type 0} {X : Shape A} (numbers : A → List ℕ) (absent : A) → numbers absent ≡ [] → Counts X numbers → Counts (Or absent X) numbers
counts_or numbers absent e x = counts_either x (counts_gives numbers absent e)

pub counts_maybe : {A : Type 0} {X : Shape A} {f : A → List ℕ} → Counts X f → Counts (Maybe X) (numbers_in_part f)
counts_maybe {f} x = counts_or (numbers_in_part f) None refl (counts_of _ x (λ a i j h. h))

pub counts_several : {A : Type 0} {X : Shape A} {f : A → List ℕ} → Counts X f → Counts (Several X) (numbers_in_each f)
counts_several x = counts_of _ (counts_seq x (counts_many x)) (λ p i j h. h)

pub counts_separated : {A : Type 0} {X : Shape A} {f : A → List ℕ} (k : TokenKind) → Counts X f → Counts (Separated k X) (numbers_in_each f)
counts_separated k x = counts_of _ (counts_seq x (counts_many (counts_after k x))) (λ p i j h. h)

pub counts_elements : {A : Type 0} {X : Shape A} {f : A → List ℕ} (k : TokenKind) → Counts X f → Counts (Elements k X) (numbers_in_each f)
counts_elements {f} k x = counts_or (numbers_in_each f) [] refl (counts_listed k x)

-- Forms whose first token is none of the numbers, so that its index may be one

pub record CountsBehind {A : Type 0} (X : Shape A) (numbers : A → List ℕ) : Type 0 where
  pub grows : {limit : ℕ} {ts : List Terminal} {i n j : ℕ} {t : A} → X (strict limit) ts i t n j → i < j
  pub fits : {limit : ℕ} {ts : List Terminal} {i n j : ℕ} {t : A} → X (strict limit) ts i t n j → Fits (numbers t) (suc i) j

pub behind_token : (k : TokenKind) → CountsBehind (Token k) (λ _. [])
behind_token k = record { grows = λ h. omega (arith, h.end); fits = λ h. nothing }

pub behind_name : CountsBehind Name (λ _. [])
behind_name = record { grows = λ h. omega (arith, h.end); fits = λ h. nothing }

pub behind_seq : {A B : Type 0} {X : Shape A} {Y : Shape B} {f : A → List ℕ} {g : B → List ℕ} → CountsBehind X f → Counts Y g → CountsBehind (Seq X Y) (λ p. f p.0 ++ g p.1)
behind_seq x y = record {
  grows = λ h. omega (arith, x.grows h.first, y.forward h.second);
  fits = λ h. both (x.fits h.first) (y.fits h.second) (x.grows h.first) (omega arith) (y.forward h.second);
}

pub behind_after : {A : Type 0} {X : Shape A} {f : A → List ℕ} (k : TokenKind) → Counts X f → CountsBehind (After k X) f
behind_after {f} k x = record {
  grows = λ h. omega (arith, h.read.first.end, x.forward h.read.second);
  fits = λ {i} {j} h. subst (λ t. Fits (f t) (suc i) j) (sym h.tree) (wider (x.fits h.read.second) (omega (arith, h.read.first.end)) (omega arith));
}

pub behind_placed : {A : Type 0} {X : Shape A} {f : A → List ℕ} → CountsBehind X f → CountsBehind (Placed X) (λ p. f p.1)
behind_placed x = record {
  grows = λ h. omega (arith, h.first.end, x.grows h.second);
  fits = λ h. wider (x.fits h.second) (omega (arith, h.first.end)) (omega arith);
}

-- the index of its first token, and its numbers
pub counts_here : {A : Type 0} {X : Shape A} {f : A → List ℕ} → CountsBehind X f → Counts (Seq Here X) (λ p. p.0 ∷ f p.1)
counts_here {f} x = record {
  forward = λ h. omega (arith, h.first.end, x.grows h.second);
  fits = λ {t} h. same_fits (ap (λ n. n ∷ f t.1) h.first.counted) (before (omega (arith, h.first.end, x.grows h.second)) (wider (x.fits h.second) (omega (arith, h.first.end)) (omega arith)));
}

-- the index of a token
pub counts_mark : (k : TokenKind) → Counts (Before Here k) (λ n. n ∷ [])
counts_mark k = counts_of _ (counts_here (behind_token k)) (λ p i j h. h)

-- an index that is a number only where a part begins there
abbrev pub led_part : {A : Type 0} → (A → List ℕ) → ℕ → Option A → List ℕ
led_part numbers k None = []
led_part numbers k (Some part) = k ∷ numbers part

pub counts_here_maybe : {A : Type 0} {X : Shape A} {f : A → List ℕ} (k : TokenKind) → Counts X f → Counts (Seq Here (Maybe (After k X))) (λ p. led_part f p.0 p.1)
counts_here_maybe {f} k x = record {
  forward = λ h. omega (arith, h.first.end, (counts_maybe (counts_after k x)).forward h.second);
  fits = λ {i} {j} {t} h. elim (h.second) [
    | Either.left g ↦ subst (λ part. Fits (led_part f t.0 part) i j) (sym g.tree) ((counts_here (behind_after k x)).fits {t = (t.0, g.inner)} (record { middle = h.middle; first = h.first; second = g.read }))
    | Either.right g ↦ subst (λ part. Fits (led_part f t.0 part) i j) (sym g.tree) nothing
  ];
}

abbrev pub led_list : {A : Type 0} → (A → List ℕ) → ℕ → List A → List ℕ
led_list numbers k [] = []
led_list numbers k (part ∷ others) = k ∷ numbers_in_each numbers (part ∷ others)

led_fits : {A : Type 0} {X : Shape A} {f : A → List ℕ} (k : TokenKind) → Counts X f → {limit : ℕ} {ts : List Terminal} {i n m j number : ℕ} {xs : List A} → Here (strict limit) ts i number n m → Many (After k X) (strict limit) ts m xs n j
    → Fits (led_list f number xs) i j
led_fits k x here Many.none = nothing
led_fits k x {m} {number} here (Many.more {k = l} {t} {others} h rest) =
    (counts_here (behind_seq (behind_after k x) (counts_many (counts_after k x)))).fits {t = (number, (t, others))} (record { middle = m; first = here; second = record { middle = l; first = h; second = rest } })

pub counts_here_many : {A : Type 0} {X : Shape A} {f : A → List ℕ} (k : TokenKind) → Counts X f → Counts (Seq Here (Many (After k X))) (λ p. led_list f p.0 p.1)
counts_here_many k x = record {
  forward = λ h. omega (arith, h.first.end, (counts_many (counts_after k x)).forward h.second);
  fits = λ h. led_fits k x h.first h.second;
}
