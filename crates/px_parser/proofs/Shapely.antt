-- What holds of each shape of the grammar: a form hangs on its own tokens alone, holds with more room too, and can begin wherever
-- the tokens end.
use Rattle.std.proofs.Common.{◌≡◌, ℕ, zero, suc, ◌≤◌, ◌<◌, List, [], ◌∷◌, ◌++◌, Some, None, length, refl, arith, length-append, codes}
use Rattle.px_lexer.specs.declared.token_list.TokenKind.{TokenKind}
use Rattle.px_lexer.specs.declared.token_list.TokenKind.TheVariants as kind
use Rattle.px_lexer.specs.Terminals.{Terminal, Stands}
use Rattle.px_exprs.specs.Readings.{Form, Agree}
use Rattle.px_exprs.proofs.Agreement.{agree_same, agree_through, agree_carried, agree_append}
use Rattle.px_exprs.proofs.Keeping.{kind_carried, name_carried, place_carried}
use Rattle.px_parser.specs.Shapes.{Mode, Shape, Token, Name, Soft, Here, Placed, Gives, Then, Seq, Either, Many, Listed, Of, After, Before, Or, Maybe, Several, Separated, Elements, Nested}

-- Tokens behind which a list ends

pub stands_last : (us : List Terminal) (t : Terminal) → Stands (us ++ t ∷ []) (length us) t
stands_last [] t = refl
stands_last (u ∷ us) t = stands_last us t

abbrev pub token_of : TokenKind → Terminal
token_of k = record { kind = k; at = record { line = 1; column = 1 }; spelling = [] }

abbrev pub name_of : List ℕ → Terminal
name_of name = record { kind = kind.Name; at = record { line = 1; column = 1 }; spelling = name }

pub stands_there : (us : List Terminal) (i : ℕ) → i < length us → (t : Terminal) × Stands us i t
stands_there [] i lt = absurd (omega (arith, lt))
stands_there (u ∷ us) zero lt = (u, refl)
stands_there (u ∷ us) (suc i) lt = stands_there us i (omega (arith, lt))

-- Sound: a form hangs on its own tokens, and doesn't go back

pub record Sound {A : Type 0} (X : Shape A) : Type 0 where
  pub carried : {mode : Mode} {ts us : List Terminal} {i n j : ℕ} {t : A} → X mode ts i t n j → Agree j us ts → X mode us i t n j
  pub forward : {mode : Mode} {ts : List Terminal} {i n j : ℕ} {t : A} → X mode ts i t n j → i ≤ j

pub sound_token : (k : TokenKind) → Sound (Token k)
sound_token k = record {
  carried = λ {j} h a. record { stands = kind_carried j a h.stands (omega (arith, h.end)); end = h.end };
  forward = λ h. omega (arith, h.end);
}

pub sound_name : Sound Name
sound_name = record {
  carried = λ {j} h a. record { stands = name_carried j a h.stands (omega (arith, h.end)); end = h.end };
  forward = λ h. omega (arith, h.end);
}

pub sound_soft : (name : List ℕ) → Sound (Soft name)
sound_soft name = record {
  carried = λ {j} h a. record { stands = name_carried j a h.stands (omega (arith, h.end)); end = h.end };
  forward = λ h. omega (arith, h.end);
}

pub sound_here : Sound Here
sound_here = record {
  carried = λ h a. record { counted = h.counted; end = h.end };
  forward = λ h. omega (arith, h.end);
}

pub sound_gives : {A : Type 0} (value : A) → Sound (Gives value)
sound_gives value = record {
  carried = λ h a. record { tree = h.tree; end = h.end };
  forward = λ h. omega (arith, h.end);
}

pub sound_then : {A B : Type 0} {X : Shape A} {Y : A → Shape B} → Sound X → ((a : A) → Sound (Y a)) → Sound (Then X Y)
sound_then x y = record {
  carried = λ {ts} {us} {t} h a. record {
    middle = h.middle;
    first = x.carried h.first (agree_carried us ts a ((y t.0).forward h.second));
    second = (y t.0).carried h.second a;
  };
  forward = λ {t} h. omega (arith, x.forward h.first, (y t.0).forward h.second);
}

pub sound_seq : {A B : Type 0} {X : Shape A} {Y : Shape B} → Sound X → Sound Y → Sound (Seq X Y)
sound_seq x y = sound_then x (λ _. y)

-- each of its forms has a token
pub record Solid {A : Type 0} (X : Shape A) : Type 0 where
  pub grows : {mode : Mode} {ts : List Terminal} {i n j : ℕ} {t : A} → X mode ts i t n j → i < j

pub sound_placed : {A : Type 0} {X : Shape A} → Sound X → Solid X → Sound (Placed X)
sound_placed x solid = record {
  carried = λ {ts} {us} {j} h a. record {
    middle = h.middle;
    first = record { placed = place_carried j a h.first.placed (omega (arith, h.first.end, solid.grows h.second)); end = h.first.end };
    second = x.carried h.second a;
  };
  forward = λ h. omega (arith, h.first.end, x.forward h.second);
}

pub sound_either : {A : Type 0} {X Y : Shape A} → Sound X → Sound Y → Sound (Either X Y)
sound_either x y = record {
  carried = λ h a. elim (h) [
    | Either.left g ↦ Either.left (x.carried g a)
    | Either.right g ↦ Either.right (y.carried g a)
  ];
  forward = λ h. elim (h) [
    | Either.left g ↦ x.forward g
    | Either.right g ↦ y.forward g
  ];
}

many_forward : {A : Type 0} {X : Shape A} → Sound X → {mode : Mode} {ts : List Terminal} {i n j : ℕ} {xs : List A} → Many X mode ts i xs n j → i ≤ j
many_forward x Many.none = omega arith
many_forward x (Many.more h rest) = omega (arith, x.forward h, many_forward x rest)

many_carried : {A : Type 0} {X : Shape A} → Sound X → {mode : Mode} {ts us : List Terminal} {i n j : ℕ} {xs : List A} → Many X mode ts i xs n j → Agree j us ts → Many X mode us i xs n j
many_carried x Many.none a = Many.none
many_carried x (Many.more h rest) a = Many.more (x.carried h (agree_carried _ _ a (many_forward x rest))) (many_carried x rest a)

pub sound_many : {A : Type 0} {X : Shape A} → Sound X → Sound (Many X)
sound_many x = record { carried = λ h a. many_carried x h a; forward = λ h. many_forward x h }

listed_forward : {A : Type 0} {X : Shape A} {k : TokenKind} → Sound X → {mode : Mode} {ts : List Terminal} {i n j : ℕ} {xs : List A} → Listed k X mode ts i xs n j → i ≤ j
listed_forward x (Listed.last h) = x.forward h
listed_forward x (Listed.ended h comma) = omega (arith, x.forward h)
listed_forward x (Listed.more h comma rest) = omega (arith, x.forward h, listed_forward x rest)

listed_carried : {A : Type 0} {X : Shape A} {k : TokenKind} → Sound X → {mode : Mode} {ts us : List Terminal} {i n j : ℕ} {xs : List A} → Listed k X mode ts i xs n j → Agree j us ts → Listed k X mode us i xs n j
listed_carried x (Listed.last h) a = Listed.last (x.carried h a)
listed_carried x (Listed.ended h comma) a = Listed.ended (x.carried h (agree_carried _ _ a (omega arith))) (kind_carried _ a comma (omega arith))
listed_carried x (Listed.more h comma rest) a =
    let le = listed_forward x rest in
    Listed.more (x.carried h (agree_carried _ _ a (omega (arith, le)))) (kind_carried _ a comma (omega (arith, le))) (listed_carried x rest a)

pub sound_listed : {A : Type 0} {X : Shape A} (k : TokenKind) → Sound X → Sound (Listed k X)
sound_listed k x = record { carried = λ h a. listed_carried x h a; forward = λ h. listed_forward x h }

pub sound_of : {A B : Type 0} {X : Shape A} (f : A → B) → Sound X → Sound (Of f X)
sound_of f x = record {
  carried = λ h a. record { inner = h.inner; read = x.carried h.read a; tree = h.tree };
  forward = λ h. x.forward h.read;
}

pub sound_after : {A : Type 0} {X : Shape A} (k : TokenKind) → Sound X → Sound (After k X)
sound_after k x = sound_of _ (sound_seq (sound_token k) x)

pub sound_before : {A : Type 0} {X : Shape A} (k : TokenKind) → Sound X → Sound (Before X k)
sound_before k x = sound_of _ (sound_seq x (sound_token k))

pub sound_or : {A : Type 0} {X : Shape A} (absent : A) → Sound X → Sound (Or absent X)
sound_or absent x = sound_either x (sound_gives absent)

pub sound_maybe : {A : Type 0} {X : Shape A} → Sound X → Sound (Maybe X)
sound_maybe x = sound_or None (sound_of _ x)

pub sound_several : {A : Type 0} {X : Shape A} → Sound X → Sound (Several X)
sound_several x = sound_of _ (sound_seq x (sound_many x))

pub sound_separated : {A : Type 0} {X : Shape A} (k : TokenKind) → Sound X → Sound (Separated k X)
sound_separated k x = sound_of _ (sound_seq x (sound_many (sound_after k x)))

pub sound_elements : {A : Type 0} {X : Shape A} (k : TokenKind) → Sound X → Sound (Elements k X)
sound_elements k x = sound_or [] (sound_listed k x)

-- a form of expressions hangs on its own tokens
pub record SoundForm {A : Type 0} (X : Form A) : Type 0 where
  pub carried : {ts us : List Terminal} {i d j : ℕ} {t : A} → X ts i t d j → Agree j us ts → X us i t d j
  pub forward : {ts : List Terminal} {i d j : ℕ} {t : A} → X ts i t d j → i < j

pub sound_nested : {A : Type 0} {X : Form A} → SoundForm X → Sound (Nested X)
sound_nested x = record {
  carried = λ h a. record { depth = h.depth; read = x.carried h.read a; within = h.within };
  forward = λ h. omega (arith, x.forward h.read);
}

-- Rises: with more room a form holds too

-- blocks that begin at this index or behind it aren't looked at
pub record Hides (mode : Mode) (from : ℕ) : Type 0 where
  pub first : ℕ
  pub hidden : mode.unseen ≡ Some first
  pub earlier : first ≤ from

pub record AtLeast (mode other : Mode) : Type 0 where
  pub limits : mode.limit ≤ other.limit
  pub unseen : (from : ℕ) → mode.unseen ≡ Some from → Hides other from

pub record Rises {A : Type 0} (X Y : Shape A) (mode other : Mode) (n m : ℕ) : Type 0 where
  pub rise : {ts : List Terminal} {i j : ℕ} {t : A} → X mode ts i t n j → Y other ts i t m j

pub rises_token : (k : TokenKind) {mode other : Mode} {n m : ℕ} → Rises (Token k) (Token k) mode other n m
rises_token k = record { rise = λ h. record { stands = h.stands; end = h.end } }

pub rises_name : {mode other : Mode} {n m : ℕ} → Rises Name Name mode other n m
rises_name = record { rise = λ h. record { stands = h.stands; end = h.end } }

pub rises_soft : (name : List ℕ) {mode other : Mode} {n m : ℕ} → Rises (Soft name) (Soft name) mode other n m
rises_soft name = record { rise = λ h. record { stands = h.stands; end = h.end } }

pub rises_here : {mode other : Mode} {n m : ℕ} → Rises Here Here mode other n m
rises_here = record { rise = λ h. record { counted = h.counted; end = h.end } }

pub rises_gives : {A : Type 0} (value : A) {mode other : Mode} {n m : ℕ} → Rises (Gives value) (Gives value) mode other n m
rises_gives value = record { rise = λ h. record { tree = h.tree; end = h.end } }

pub rises_then : {A B : Type 0} {X Z : Shape A} {Y W : A → Shape B} {mode other : Mode} {n m : ℕ} → Rises X Z mode other n m → ((a : A) → Rises (Y a) (W a) mode other n m) → Rises (Then X Y) (Then Z W) mode other n m
rises_then x y = record { rise = λ {t} h. record { middle = h.middle; first = x.rise h.first; second = (y t.0).rise h.second } }

pub rises_seq : {A B : Type 0} {X Z : Shape A} {Y W : Shape B} {mode other : Mode} {n m : ℕ} → Rises X Z mode other n m → Rises Y W mode other n m → Rises (Seq X Y) (Seq Z W) mode other n m
rises_seq x y = rises_then x (λ a. y)

pub rises_placed : {A : Type 0} {X Z : Shape A} {mode other : Mode} {n m : ℕ} → Rises X Z mode other n m → Rises (Placed X) (Placed Z) mode other n m
rises_placed x = record { rise = λ h. record { middle = h.middle; first = record { placed = h.first.placed; end = h.first.end }; second = x.rise h.second } }

pub rises_either : {A : Type 0} {X Y Z W : Shape A} {mode other : Mode} {n m : ℕ} → Rises X Z mode other n m → Rises Y W mode other n m → Rises (Either X Y) (Either Z W) mode other n m
rises_either x y = record {
  rise = λ h. elim (h) [
    | Either.left g ↦ Either.left (x.rise g)
    | Either.right g ↦ Either.right (y.rise g)
  ];
}

many_rise : {A : Type 0} {X Z : Shape A} {mode other : Mode} {ts : List Terminal} {m n : ℕ} → Rises X Z mode other n m → {i j : ℕ} {xs : List A} → Many X mode ts i xs n j → Many Z other ts i xs m j
many_rise x Many.none = Many.none
many_rise x (Many.more h rest) = Many.more (x.rise h) (many_rise x rest)

pub rises_many : {A : Type 0} {X Z : Shape A} {mode other : Mode} {n m : ℕ} → Rises X Z mode other n m → Rises (Many X) (Many Z) mode other n m
rises_many x = record { rise = λ h. many_rise x h }

listed_rise : {A : Type 0} {X Z : Shape A} (k : TokenKind) {mode other : Mode} {ts : List Terminal} {m n : ℕ} → Rises X Z mode other n m → {i j : ℕ} {xs : List A} → Listed k X mode ts i xs n j → Listed k Z other ts i xs m j
listed_rise k x (Listed.last h) = Listed.last (x.rise h)
listed_rise k x (Listed.ended h comma) = Listed.ended (x.rise h) comma
listed_rise k x (Listed.more h comma rest) = Listed.more (x.rise h) comma (listed_rise k x rest)

pub rises_listed : {A : Type 0} {X Z : Shape A} (k : TokenKind) {mode other : Mode} {n m : ℕ} → Rises X Z mode other n m → Rises (Listed k X) (Listed k Z) mode other n m
rises_listed k x = record { rise = λ h. listed_rise k x h }

pub rises_of : {A B : Type 0} {X Z : Shape A} (f : A → B) {mode other : Mode} {n m : ℕ} → Rises X Z mode other n m → Rises (Of f X) (Of f Z) mode other n m
rises_of f x = record { rise = λ h. record { inner = h.inner; read = x.rise h.read; tree = h.tree } }

pub rises_nested : {A : Type 0} (X : Form A) {mode other : Mode} {n m : ℕ} → AtLeast mode other → Rises (Nested X) (Nested X) mode other n m
rises_nested X le = record { rise = λ h. record { depth = h.depth; read = h.read; within = omega (arith, h.within, le.limits) } }

pub rises_after : {A : Type 0} {X Z : Shape A} (k : TokenKind) {mode other : Mode} {n m : ℕ} → Rises X Z mode other n m → Rises (After k X) (After k Z) mode other n m
rises_after k x = rises_of _ (rises_seq (rises_token k) x)

pub rises_before : {A : Type 0} {X Z : Shape A} (k : TokenKind) {mode other : Mode} {n m : ℕ} → Rises X Z mode other n m → Rises (Before X k) (Before Z k) mode other n m
rises_before k x = rises_of _ (rises_seq x (rises_token k))

pub rises_or : {A : Type 0} {X Z : Shape A} (absent : A) {mode other : Mode} {n m : ℕ} → Rises X Z mode other n m → Rises (Or absent X) (Or absent Z) mode other n m
rises_or absent x = rises_either x (rises_gives absent)

pub rises_maybe : {A : Type 0} {X Z : Shape A} {mode other : Mode} {n m : ℕ} → Rises X Z mode other n m → Rises (Maybe X) (Maybe Z) mode other n m
rises_maybe x = rises_or None (rises_of _ x)

pub rises_several : {A : Type 0} {X Z : Shape A} {mode other : Mode} {n m : ℕ} → Rises X Z mode other n m → Rises (Several X) (Several Z) mode other n m
rises_several x = rises_of _ (rises_seq x (rises_many x))

pub rises_separated : {A : Type 0} {X Z : Shape A} (k : TokenKind) {mode other : Mode} {n m : ℕ} → Rises X Z mode other n m → Rises (Separated k X) (Separated k Z) mode other n m
rises_separated k x = rises_of _ (rises_seq x (rises_many (rises_after k x)))

pub rises_elements : {A : Type 0} {X Z : Shape A} (k : TokenKind) {mode other : Mode} {n m : ℕ} → Rises X Z mode other n m → Rises (Elements k X) (Elements k Z) mode other n m
rises_elements k x = rises_or [] (rises_listed k x)

-- a shape rises where its modes do
abbrev pub IsRising : {A : Type 0} → Shape A → Type 0
IsRising X = (mode other : Mode) (n m : ℕ) → AtLeast mode other → n ≤ m → Rises X X mode other n m

-- Fresh: a form can begin where the tokens end

-- blocks may stand there, or aren't looked at
pub data Opens (mode : Mode) (us : List Terminal) (n : ℕ) : Type 0 where
  blocks : 1 ≤ n → Opens mode us n
  hidden : (from : ℕ) → mode.unseen ≡ Some from → from ≤ length us → Opens mode us n

pub opens_longer : {mode : Mode} (us vs : List Terminal) {n : ℕ} → length us ≤ length vs → Opens mode us n → Opens mode vs n
opens_longer us vs le (Opens.blocks some) = Opens.blocks some
opens_longer us vs le (Opens.hidden from e behind) = Opens.hidden from e (omega (arith, le, behind))

pub record Freshly {A : Type 0} (X : Shape A) (mode : Mode) (us : List Terminal) (n : ℕ) : Type 0 where
  pub tokens : List Terminal
  pub same : Agree (length us) tokens us
  pub long : length us ≤ length tokens
  pub tree : A
  pub derived : X mode tokens (length us) tree n (length tokens)

abbrev pub IsFresh : {A : Type 0} → Shape A → Type 0
IsFresh X = (mode : Mode) (us : List Terminal) (n : ℕ) → Opens mode us n → Freshly X mode us n

-- the same with one more token
pub one_longer : (us : List Terminal) (t : Terminal) → length (us ++ t ∷ []) ≡ suc (length us)
one_longer us t = omega (arith, length-append us (t ∷ []))

pub fresh_token : (k : TokenKind) → IsFresh (Token k)
fresh_token k mode us n opens = record {
  tokens = us ++ token_of k ∷ [];
  same = agree_append us (token_of k ∷ []);
  long = omega (arith, one_longer us (token_of k));
  tree = tt;
  derived = record { stands = record { token = token_of k; stands = stands_last us (token_of k); kind = refl }; end = one_longer us (token_of k) };
}

pub fresh_name : IsFresh Name
fresh_name mode us n opens = record {
  tokens = us ++ name_of (codes "x") ∷ [];
  same = agree_append us (name_of (codes "x") ∷ []);
  long = omega (arith, one_longer us (name_of (codes "x")));
  tree = codes "x";
  derived = record { stands = record { token = name_of (codes "x"); stands = stands_last us (name_of (codes "x")); kind = refl; spelled = refl }; end = one_longer us (name_of (codes "x")) };
}

pub fresh_soft : (name : List ℕ) → IsFresh (Soft name)
fresh_soft name mode us n opens = record {
  tokens = us ++ name_of name ∷ [];
  same = agree_append us (name_of name ∷ []);
  long = omega (arith, one_longer us (name_of name));
  tree = tt;
  derived = record { stands = record { token = name_of name; stands = stands_last us (name_of name); kind = refl; spelled = refl }; end = one_longer us (name_of name) };
}

pub fresh_here : IsFresh Here
fresh_here mode us n opens = record { tokens = us; same = agree_same us; long = omega arith; tree = length us; derived = record { counted = refl; end = refl } }

pub fresh_gives : {A : Type 0} (value : A) → IsFresh (Gives value)
fresh_gives value mode us n opens = record { tokens = us; same = agree_same us; long = omega arith; tree = value; derived = record { tree = refl; end = refl } }

pub fresh_then : {A B : Type 0} {X : Shape A} {Y : A → Shape B} → Sound X → IsFresh X → ((a : A) → IsFresh (Y a)) → IsFresh (Then X Y)
fresh_then s x y mode us n opens =
    let one = x mode us n opens in
    let two = y one.tree mode one.tokens n (opens_longer us one.tokens one.long opens) in
    record {
      tokens = two.tokens;
      same = agree_through two.tokens one.tokens us (agree_carried _ _ two.same one.long) one.same;
      long = omega (arith, one.long, two.long);
      tree = (one.tree, two.tree);
      derived = record { middle = length one.tokens; first = s.carried one.derived two.same; second = two.derived };
    }

pub fresh_placed : {A : Type 0} {X : Shape A} → Solid X → IsFresh X → IsFresh (Placed X)
fresh_placed solid x mode us n opens =
    let one = x mode us n opens in
    let first = stands_there one.tokens (length us) (solid.grows one.derived) in
    record {
      tokens = one.tokens;
      same = one.same;
      long = one.long;
      tree = (first.0.at, one.tree);
      derived = record { middle = length us; first = record { placed = record { token = first.0; stands = first.1; placed = refl }; end = refl }; second = one.derived };
    }

pub fresh_left : {A : Type 0} {X Y : Shape A} → IsFresh X → IsFresh (Either X Y)
fresh_left x mode us n opens =
    let one = x mode us n opens in
    record { tokens = one.tokens; same = one.same; long = one.long; tree = one.tree; derived = Either.left one.derived }

pub fresh_right : {A : Type 0} {X Y : Shape A} → IsFresh Y → IsFresh (Either X Y)
fresh_right y mode us n opens =
    let one = y mode us n opens in
    record { tokens = one.tokens; same = one.same; long = one.long; tree = one.tree; derived = Either.right one.derived }

pub fresh_many : {A : Type 0} {X : Shape A} → IsFresh (Many X)
fresh_many mode us n opens = record { tokens = us; same = agree_same us; long = omega arith; tree = []; derived = Many.none }

pub fresh_listed : {A : Type 0} {X : Shape A} (k : TokenKind) → IsFresh X → IsFresh (Listed k X)
fresh_listed k x mode us n opens =
    let one = x mode us n opens in
    record { tokens = one.tokens; same = one.same; long = one.long; tree = one.tree ∷ []; derived = Listed.last one.derived }

pub fresh_of : {A B : Type 0} {X : Shape A} (f : A → B) → IsFresh X → IsFresh (Of f X)
fresh_of f x mode us n opens =
    let one = x mode us n opens in
    record { tokens = one.tokens; same = one.same; long = one.long; tree = f one.tree; derived = record { inner = one.tree; read = one.derived; tree = refl } }

pub fresh_or : {A : Type 0} {X : Shape A} (absent : A) → IsFresh (Or absent X)
fresh_or absent = fresh_right (fresh_gives absent)

-- All three, for shapes without blocks

pub record Good {A : Type 0} (X : Shape A) : Type 0 where
  pub sound : Sound X
  pub rises : IsRising X
  pub fresh : IsFresh X

pub good_token : (k : TokenKind) → Good (Token k)
good_token k = record { sound = sound_token k; rises = λ mode other n m le more. rises_token k; fresh = fresh_token k }

pub good_name : Good Name
good_name = record { sound = sound_name; rises = λ mode other n m le more. rises_name; fresh = fresh_name }

pub good_soft : (name : List ℕ) → Good (Soft name)
good_soft name = record { sound = sound_soft name; rises = λ mode other n m le more. rises_soft name; fresh = fresh_soft name }

pub good_here : Good Here
good_here = record { sound = sound_here; rises = λ mode other n m le more. rises_here; fresh = fresh_here }

pub good_gives : {A : Type 0} (value : A) → Good (Gives value)
good_gives value = record { sound = sound_gives value; rises = λ mode other n m le more. rises_gives value; fresh = fresh_gives value }

pub good_then : {A B : Type 0} {X : Shape A} {Y : A → Shape B} → Good X → ((a : A) → Good (Y a)) → Good (Then X Y)
good_then x y = record {
  sound = sound_then x.sound (λ a. (y a).sound);
  rises = λ mode other n m le more. rises_then (x.rises mode other n m le more) (λ a. (y a).rises mode other n m le more);
  fresh = fresh_then x.sound x.fresh (λ a. (y a).fresh);
}

pub good_seq : {A B : Type 0} {X : Shape A} {Y : Shape B} → Good X → Good Y → Good (Seq X Y)
good_seq x y = good_then x (λ _. y)

pub good_placed : {A : Type 0} {X : Shape A} → Solid X → Good X → Good (Placed X)
good_placed solid x = record {
  sound = sound_placed x.sound solid;
  rises = λ mode other n m le more. rises_placed (x.rises mode other n m le more);
  fresh = fresh_placed solid x.fresh;
}

pub good_either : {A : Type 0} {X Y : Shape A} → Good X → Good Y → Good (Either X Y)
good_either x y = record {
  sound = sound_either x.sound y.sound;
  rises = λ mode other n m le more. rises_either (x.rises mode other n m le more) (y.rises mode other n m le more);
  fresh = fresh_left x.fresh;
}

pub good_many : {A : Type 0} {X : Shape A} → Good X → Good (Many X)
good_many x = record { sound = sound_many x.sound; rises = λ mode other n m le more. rises_many (x.rises mode other n m le more); fresh = fresh_many }

pub good_listed : {A : Type 0} {X : Shape A} (k : TokenKind) → Good X → Good (Listed k X)
good_listed k x = record { sound = sound_listed k x.sound; rises = λ mode other n m le more. rises_listed k (x.rises mode other n m le more); fresh = fresh_listed k x.fresh }

pub good_of : {A B : Type 0} {X : Shape A} (f : A → B) → Good X → Good (Of f X)
good_of f x = record { sound = sound_of f x.sound; rises = λ mode other n m le more. rises_of f (x.rises mode other n m le more); fresh = fresh_of f x.fresh }

pub good_after : {A : Type 0} {X : Shape A} (k : TokenKind) → Good X → Good (After k X)
good_after k x = good_of _ (good_seq (good_token k) x)

pub good_before : {A : Type 0} {X : Shape A} (k : TokenKind) → Good X → Good (Before X k)
good_before k x = good_of _ (good_seq x (good_token k))

pub good_or : {A : Type 0} {X : Shape A} (absent : A) → Good X → Good (Or absent X)
good_or absent x = good_either x (good_gives absent)

pub good_maybe : {A : Type 0} {X : Shape A} → Good X → Good (Maybe X)
good_maybe x = good_or None (good_of _ x)

pub good_several : {A : Type 0} {X : Shape A} → Good X → Good (Several X)
good_several x = good_of _ (good_seq x (good_many x))

pub good_separated : {A : Type 0} {X : Shape A} (k : TokenKind) → Good X → Good (Separated k X)
good_separated k x = good_of _ (good_seq x (good_many (good_after k x)))

pub good_elements : {A : Type 0} {X : Shape A} (k : TokenKind) → Good X → Good (Elements k X)
good_elements k x = good_or [] (good_listed k x)

-- tokens behind which a form of expressions begins, without nesting
pub record FreshForm {A : Type 0} (X : Form A) (us : List Terminal) : Type 0 where
  pub tokens : List Terminal
  pub same : Agree (length us) tokens us
  pub long : length us ≤ length tokens
  pub tree : A
  pub derived : X tokens (length us) tree 0 (length tokens)

pub record GoodForm {A : Type 0} (X : Form A) : Type 0 where
  pub sound : SoundForm X
  pub fresh : (us : List Terminal) → FreshForm X us

pub good_nested : {A : Type 0} {X : Form A} → GoodForm X → Good (Nested X)
good_nested x = record {
  sound = sound_nested x.sound;
  rises = λ mode other n m le more. rises_nested _ le;
  fresh = λ mode us n opens.
      let made = x.fresh us in
      record { tokens = made.tokens; same = made.same; long = made.long; tree = made.tree; derived = record { depth = 0; read = made.derived; within = omega arith } };
}
