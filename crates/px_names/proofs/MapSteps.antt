-- What the tables keep after an entry is put in.
use Rattle.std.proofs.Common.{◌≡◌, ℕ, List, [], ◌∷◌, Bool, true, false, ◌&&◌, ◌||◌, cond, Option, Some, None, Bor, nat_eq, refl, sym, ap, ◌∙◌}
use Rattle.std.specs.Prelude.{bytes_eq, is_some}
use Rattle.std.specs.List.{list_any, cons_option}
use Rattle.std.specs.Option.{option_or, option_eq, option_to_list}
use Rattle.std.specs.Cmp.Lexicographic.{bytes_decides}
use Rattle.std.proofs.lemmas.Bool.{false≢true, eqb-true, eq-eqb}
use Rattle.indexmap.specs.IndexMap.{IndexMap, get_by, Updates}
use Rattle.indexmap.specs.IndexSet as sets
use Rattle.std.specs.HashSet.{HashSet}
use Rattle.px_names.specs.declared.tables.Key.{Key}
use Rattle.px_names.specs.Kept.{is_key}
use Rattle.px_names.specs.Declarations.{Names}
use Rattle.px_names.specs.Imports.{Given}
use Rattle.px_names.specs.Steps.{is_here, with_globals, with_imports}
use Rattle.px_names.proofs.Options.{or_none, adds_no_truth}

-- ---- equal names, and equal functions

pub equal : (xs ys : List ℕ) → bytes_eq xs ys ≡ true → xs ≡ ys
equal xs ys is = (bytes_decides xs ys).0 is

both_ways : (a b : Bool) → (a ≡ true → b ≡ true) → (b ≡ true → a ≡ true) → a ≡ b
both_ways true true there back = refl
both_ways true false there back = sym (there refl)
both_ways false true there back = back refl
both_ways false false there back = refl

pub name_order : (xs ys : List ℕ) → bytes_eq xs ys ≡ bytes_eq ys xs
name_order xs ys = both_ways (bytes_eq xs ys) (bytes_eq ys xs)
    (λ is. (bytes_decides ys xs).1 (sym (equal xs ys is))) (λ is. (bytes_decides xs ys).1 (sym (equal ys xs is)))

pub number_order : (m n : ℕ) → nat_eq m n ≡ nat_eq n m
number_order m n = both_ways (nat_eq m n) (nat_eq n m)
    (λ is. eq-eqb n m (sym (eqb-true m n is))) (λ is. eq-eqb m n (sym (eqb-true n m is)))

pub function_order : (f g : Option ℕ) → option_eq nat_eq f g ≡ option_eq nat_eq g f
function_order None None = refl
function_order None (Some n) = refl
function_order (Some m) None = refl
function_order (Some m) (Some n) = number_order m n

equal_functions : (f g : Option ℕ) → option_eq nat_eq f g ≡ true → f ≡ g
equal_functions None None is = refl
equal_functions None (Some n) is = absurd (false≢true is)
equal_functions (Some m) None is = absurd (false≢true is)
equal_functions (Some m) (Some n) is = ap Some (eqb-true m n is)

left_of : (a b : Bool) → (a && b) ≡ true → a ≡ true
left_of true b is = refl
left_of false b is = absurd (false≢true is)

right_of : (a b : Bool) → (a && b) ≡ true → b ≡ true
right_of true b is = is
right_of false b is = absurd (false≢true is)

-- what is said of a name here is said of the name that is the same
pub at_same : {A : Type 0} (said : Option ℕ → List ℕ → A) (function : Option ℕ) (name : List ℕ) (f : Option ℕ) (n : List ℕ)
    → is_here function name f n ≡ true → said f n ≡ said function name
at_same said function name f n is =
    ap (λ g. said g n) (equal_functions f function (left_of (option_eq nat_eq f function) (bytes_eq n name) is))
    ∙ ap (said function) (equal n name (right_of (option_eq nat_eq f function) (bytes_eq n name) is))

pub none_of : {V : Type 0} (o : Option V) → is_some o ≡ false → o ≡ None
none_of None is = refl
none_of (Some v) is = absurd (false≢true (sym is))

-- ---- the first entry of a name stays

pub new_first : {V : Type 0} (said : Option ℕ → List ℕ → Option V) (function : Option ℕ) (name : List ℕ) (v : V) → said function name ≡ None
    → (f : Option ℕ) (n : List ℕ) → cond (is_here function name f n) (Some v) (said f n) ≡ option_or (said f n) (cond (is_here function name f n) (Some v) None)
new_first {V = V} said function name v none f n = cases (is_here function name f n) refl
  where
    cases : (b : Bool) → is_here function name f n ≡ b → cond b (Some v) (said f n) ≡ option_or (said f n) (cond b (Some v) None)
    cases true is = sym (ap (λ (o : Option V). option_or o (Some v)) (at_same said function name f n is ∙ none))
    cases false is = sym (or_none (said f n))

there_before : {V : Type 0} (o : Option V) (v : V) → is_some o ≡ true → o ≡ option_or o (Some v)
there_before None v is = absurd (false≢true is)
there_before (Some w) v is = refl

pub old_first : {V : Type 0} (said : Option ℕ → List ℕ → Option V) (function : Option ℕ) (name : List ℕ) (v : V) → is_some (said function name) ≡ true
    → (f : Option ℕ) (n : List ℕ) → said f n ≡ option_or (said f n) (cond (is_here function name f n) (Some v) None)
old_first said function name v there f n = cases (is_here function name f n) refl
  where
    cases : (b : Bool) → is_here function name f n ≡ b → said f n ≡ option_or (said f n) (cond b (Some v) None)
    cases true is = there_before (said f n) v (ap (λ o. is_some o) (at_same said function name f n is) ∙ there)
    cases false is = sym (or_none (said f n))

-- the same of names in the whole module

pub new_name : {V : Type 0} (said : List ℕ → Option V) (name : List ℕ) (v : V) → said name ≡ None
    → (n : List ℕ) → cond (bytes_eq n name) (Some v) (said n) ≡ option_or (said n) (cond (bytes_eq n name) (Some v) None)
new_name {V = V} said name v none n = cases (bytes_eq n name) refl
  where
    cases : (b : Bool) → bytes_eq n name ≡ b → cond b (Some v) (said n) ≡ option_or (said n) (cond b (Some v) None)
    cases true is = sym (ap (λ (o : Option V). option_or o (Some v)) (ap said (equal n name is) ∙ none))
    cases false is = sym (or_none (said n))

pub old_name : {V : Type 0} (said : List ℕ → Option V) (name : List ℕ) (v : V) → is_some (said name) ≡ true
    → (n : List ℕ) → said n ≡ option_or (said n) (cond (bytes_eq n name) (Some v) None)
old_name said name v there n = cases (bytes_eq n name) refl
  where
    cases : (b : Bool) → bytes_eq n name ≡ b → said n ≡ option_or (said n) (cond b (Some v) None)
    cases true is = there_before (said n) v (ap (λ o. is_some o) (ap said (equal n name is)) ∙ there)
    cases false is = sym (or_none (said n))

-- ---- what maps and sets hold after an entry is put in

abbrev same_key : Key → Key → Bool
same_key a b = option_eq nat_eq a.function b.function && bytes_eq a.name.now b.name.now

-- the key of a name, at the place of another
abbrev key_at : Key → Option ℕ → List ℕ → Key
key_at key f n = record { function = f; name = record { ref_ptr = key.name.ref_ptr; now = n } }

here_order : (key : Key) (f : Option ℕ) (n : List ℕ) → same_key key (key_at key f n) ≡ is_here key.function key.name.now f n
here_order key f n = λ i. function_order key.function f i && name_order key.name.now n i

pub kept_after : {V S : Type 0} (m after : IndexMap Key V S) (key : Key) (v : V) → Updates same_key m after key (Some v)
    → (f : Option ℕ) (n : List ℕ) → get_by (is_key f n) after ≡ cond (is_here key.function key.name.now f n) (Some v) (get_by (is_key f n) m)
kept_after {V = V} m after key v updates f n =
    updates.0 (key_at key f n) ∙ ap (λ b. cond b (Some v) (get_by (is_key f n) m)) (here_order key f n)

pub set_after : {S : Type 0} (s after : HashSet Key S) (key : Key) → sets.Updates same_key s after key true
    → (f : Option ℕ) (n : List ℕ) → sets.contains_by (is_key f n) after ≡ cond (is_here key.function key.name.now f n) true (sets.contains_by (is_key f n) s)
set_after s after key updates f n =
    updates.0 (key_at key f n) ∙ ap (λ b. cond b true (sets.contains_by (is_key f n) s)) (here_order key f n)

abbrev same_name : Bor (List ℕ) → Bor (List ℕ) → Bool
same_name a b = bytes_eq a.now b.now

abbrev name_at : Bor (List ℕ) → List ℕ → Bor (List ℕ)
name_at name n = record { ref_ptr = name.ref_ptr; now = n }

pub name_kept_after : {V S : Type 0} (m after : IndexMap (Bor (List ℕ)) V S) (name : Bor (List ℕ)) (v : V) → Updates same_name m after name (Some v)
    → (n : List ℕ) → get_by (λ kept. bytes_eq n kept.now) after ≡ cond (bytes_eq n name.now) (Some v) (get_by (λ kept. bytes_eq n kept.now) m)
name_kept_after {V = V} m after name v updates n =
    updates.0 (name_at name n) ∙ ap (λ b. cond b (Some v) (get_by (λ kept. bytes_eq n kept.now) m)) (name_order name.now n)

pub name_set_after : {S : Type 0} (s after : HashSet (Bor (List ℕ)) S) (name : Bor (List ℕ)) → sets.Updates same_name s after name true
    → (n : List ℕ) → sets.contains_by (λ kept. bytes_eq n kept.now) after ≡ cond (bytes_eq n name.now) true (sets.contains_by (λ kept. bytes_eq n kept.now) s)
name_set_after s after name updates n =
    updates.0 (name_at name n) ∙ ap (λ b. cond b true (sets.contains_by (λ kept. bytes_eq n kept.now) s)) (name_order name.now n)

-- ---- names of `global`, one after another

one_global : (a e b : Bool) → cond (e && b) true a ≡ (a || e && (b || false))
one_global true true true = refl
one_global true true false = refl
one_global true false b = refl
one_global false true true = refl
one_global false true false = refl
one_global false false b = refl

more_globals : (a e b r : Bool) → ((a || e && (b || false)) || e && r) ≡ (a || e && (b || r))
more_globals true e b r = refl
more_globals false true true r = refl
more_globals false true false r = refl
more_globals false false b r = refl

pub globals_joined : (names : Names) (function : Option ℕ) (name : List ℕ) (rest : List (List ℕ))
    → with_globals (with_globals names function (name ∷ [])) function rest ≡ with_globals names function (name ∷ rest)
globals_joined names function name rest = λ i. record names {
  globals = λ f n. more_globals (names.globals f n) (option_eq nat_eq f function) (bytes_eq n name) (list_any (λ other. bytes_eq n other) rest) i;
}

pub globals_none : (names : Names) (function : Option ℕ) → with_globals names function [] ≡ names
globals_none names function = λ i. record names { globals = λ f n. adds_no_truth (names.globals f n) (option_eq nat_eq f function) i }

pub global_put : {S : Type 0} (names : Names) (s after : HashSet Key S) (key : Key) → sets.Updates same_key s after key true
    → ((f : Option ℕ) (n : List ℕ) → names.globals f n ≡ sets.contains_by (is_key f n) s)
    → (f : Option ℕ) (n : List ℕ) → sets.contains_by (is_key f n) after ≡ (with_globals names key.function (key.name.now ∷ [])).globals f n
global_put names s after key updates is f n =
    set_after s after key updates f n ∙ ap (λ old. cond (is_here key.function key.name.now f n) true old) (sym (is f n))
    ∙ one_global (names.globals f n) (option_eq nat_eq f key.function) (bytes_eq n key.name.now)

-- ---- imports, one after another

pub imports_joined : (names : Names) (entry : Option Given) (rest : List Given)
    → with_imports (with_imports names (option_to_list entry)) rest ≡ with_imports names (cons_option entry rest)
imports_joined names None rest = refl
imports_joined names (Some entry) rest = refl

-- ---- module names

pub one_shared : (a b : Bool) → cond b true a ≡ (a || b)
one_shared true true = refl
one_shared true false = refl
one_shared false true = refl
one_shared false false = refl

-- ---- numbers as keys

pub number_kept_after : {V S : Type 0} (m after : IndexMap ℕ V S) (name : ℕ) (v : V) → Updates nat_eq m after name (Some v)
    → (number : ℕ) → get_by (λ kept. nat_eq number kept) after ≡ cond (nat_eq number name) (Some v) (get_by (λ kept. nat_eq number kept) m)
number_kept_after {V = V} m after name v updates number =
    updates.0 number ∙ ap (λ b. cond b (Some v) (get_by (λ kept. nat_eq number kept) m)) (number_order name number)
