-- Options, tests and lists that are looked through for a first or a last element.
use Rattle.std.proofs.Common.{◌≡◌, List, [], ◌∷◌, ◌++◌, Bool, true, false, ◌&&◌, ◌||◌, cond, Option, Some, None, refl, sym, ap, ◌∙◌}
use Rattle.std.specs.Prelude.{is_some, option_map, filter_map}
use Rattle.std.specs.List.{last_or, cons_option, AllZip}
use Rattle.std.specs.Option.{option_or, option_to_list}

pub or_none : {A : Type 0} (o : Option A) → option_or o None ≡ o
or_none None = refl
or_none (Some x) = refl

pub or_false : (b : Bool) → (b || false) ≡ b
or_false true = refl
or_false false = refl

pub and_true : (b : Bool) → (b && true) ≡ b
and_true true = refl
and_true false = refl

pub is_some-mapped : {A B : Type 0} (f : A → B) (o : Option A) → is_some (option_map f o) ≡ is_some o
is_some-mapped f None = refl
is_some-mapped f (Some x) = refl

-- nothing is added where a test fails

pub adds_nothing : {A : Type 0} (o : Option A) (x : A) (b : Bool) → option_or o (cond (b && false) (Some x) None) ≡ o
adds_nothing o x true = or_none o
adds_nothing o x false = or_none o

pub adds_no_target : {A : Type 0} (o : Option A) (x : A) (b t : Bool) → option_or o (cond (b && (t && false)) (Some x) None) ≡ o
adds_no_target o x true true = or_none o
adds_no_target o x true false = or_none o
adds_no_target o x false t = or_none o

pub adds_no_truth : (a b : Bool) → (a || b && false) ≡ a
adds_no_truth true b = refl
adds_no_truth false true = refl
adds_no_truth false false = refl

pub adds_no_shared : (a t o : Bool) → (a || (t && false) && o) ≡ a
adds_no_shared true t o = refl
adds_no_shared false true o = refl
adds_no_shared false false o = refl

pub or_assoc : (a b c : Bool) → ((a || b) || c) ≡ (a || (b || c))
or_assoc true b c = refl
or_assoc false b c = refl

-- the first: what was found before, or an element that passes a test, or one behind it

kept_first : {A : Type 0} (o : Option A) (x : A) (rest : Option A) → option_or (option_or o (Some x)) rest ≡ option_or o (Some x)
kept_first None x rest = refl
kept_first (Some y) x rest = refl

pub first_found : {A B : Type 0} (g : A → B) (o : Option B) (x : A) (b : Bool) (rest : Option A)
    → option_or (option_or o (cond b (Some (g x)) None)) (option_map g rest) ≡ option_or o (option_map g (cond b (Some x) rest))
first_found g o x true rest = kept_first o (g x) (option_map g rest)
first_found g o x false rest = ap (λ before. option_or before (option_map g rest)) (or_none o)

-- the last

pub last_chosen : {A : Type 0} (b : Bool) (o : Option A) (x : A) (rest : List A)
    → last_or (cond b (Some x) o) rest ≡ last_or o (cons_option (cond b (Some x) None) rest)
last_chosen true o x rest = refl
last_chosen false o x rest = refl

pub last_or-append : {A : Type 0} (o : Option A) (xs ys : List A) → last_or (last_or o xs) ys ≡ last_or o (xs ++ ys)
last_or-append o [] ys = refl
last_or-append o (x ∷ xs) ys = last_or-append (Some x) xs ys

cons_option-append : {A : Type 0} (o : Option A) (xs ys : List A) → cons_option o xs ++ ys ≡ cons_option o (xs ++ ys)
cons_option-append None xs ys = refl
cons_option-append (Some x) xs ys = refl

pub filter_map-append : {A B : Type 0} (h : A → Option B) (xs ys : List A) → filter_map h (xs ++ ys) ≡ filter_map h xs ++ filter_map h ys
filter_map-append h [] ys = refl
filter_map-append h (x ∷ xs) ys = ap (cons_option (h x)) (filter_map-append h xs ys) ∙ sym (cons_option-append (h x) (filter_map h xs) (filter_map h ys))

pub filter_map-one : {A B : Type 0} (h : A → Option B) (x : A) → filter_map h (x ∷ []) ≡ option_to_list (h x)
filter_map-one {B = B} h x = one (h x)
  where
    one : (o : Option B) → cons_option o [] ≡ option_to_list o
    one None = refl
    one (Some y) = refl

-- two lists that agree place by place, and one more of each

pub zip_push : {A B : Type 0} (R : A → B → Type 0) (xs : List A) (ys : List B) (x : A) (y : B) → AllZip R xs ys → R x y → AllZip R (xs ++ x ∷ []) (ys ++ y ∷ [])
zip_push R [] [] x y all one = (one, tt)
zip_push R [] (w ∷ ys) x y all one = absurd all
zip_push R (v ∷ xs) [] x y all one = absurd all
zip_push R (v ∷ xs) (w ∷ ys) x y all one = (all.0, zip_push R xs ys x y all.1 one)
