-- Loops over parts of which what each comes to is gathered.
use Rattle.std.proofs.Common.{◌≡◌, ℕ, ◌+◌, ◌<◌, ◌≤◌, zero, suc, List, [], ◌∷◌, ◌++◌, length, drop, take, map, get_or, Option, Some, None, refl, sym, ap, subst, ◌∙◌, append_assoc, arith}
use Rattle.std.specs.Prelude.{Result, Ok, Err, OnOk, slice_get}
use Rattle.std.proofs.lemmas.List.{drop_more, drop_all}
use Rattle.std.proofs.lemmas.Option.{slice_get_within, get_or_from_slice_get}
use Rattle.px_base.specs.declared.refusals.Refusal.{Refusal}
use Rattle.px_base.specs.declared.refusals.Span.{Span}
use Rattle.px_base.specs.declared.refusals.Trouble.{Trouble}
use Rattle.px_base.specs.declared.refusals.Trouble.TheVariants.{Refused, NoMemory}
use Rattle.px_tree.specs.declared.typed_trees.TypedTree.{TypedTree}
use Rattle.px_tree.specs.declared.typed_heads.TypedHead.{TypedHead}
use Rattle.px_typed_walk.specs.TypedView.{TypedRose, rose_of_typed, typed_node}
use Rattle.px_operators.specs.Outcomes.{Outcome, Gives, missing, unbuilt, refused_with, followed, mapped, both, all_of}
use Rattle.px_operators.specs.Kept.{gathers, Takes, both_answers, refused_answer}
use Rattle.px_operators.proofs.AllParts.{gives_mapped, parts_begin, parts_turn, parts_end}

pub drop_whole : {A : Type 0} (xs : List A) → drop 0 xs ≡ xs
drop_whole [] = refl
drop_whole (x ∷ xs) = refl

pub drop_one : {A : Type 0} (xs : List A) (k : ℕ) (x : A) → slice_get xs k ≡ Some x → drop k xs ≡ x ∷ drop (k + 1) xs
drop_one {A = A} xs k x is =
    let here : get_or xs k x ≡ x = get_or_from_slice_get xs k x x is in
    drop_more xs k x (slice_get_within xs k x is) ∙ ap (λ (y : A). y ∷ drop (k + 1) xs) here

pub drop_map : {A B : Type 0} (f : A → B) (k : ℕ) (xs : List A) → drop k (map f xs) ≡ map f (drop k xs)
drop_map f zero [] = refl
drop_map f zero (x ∷ xs) = refl
drop_map f (suc k) [] = refl
drop_map f (suc k) (x ∷ xs) = drop_map f k xs

pub taken_there : {A : Type 0} (n k : ℕ) (xs : List A) (x : A) → slice_get xs k ≡ Some x → k < n → slice_get (take n xs) k ≡ Some x
taken_there zero k xs x is within = absurd (omega arith)
taken_there (suc n) k [] x is within = is
taken_there (suc n) zero (y ∷ xs) x is within = is
taken_there (suc n) (suc k) (y ∷ xs) x is within = taken_there n k xs x is (omega arith)

-- ---- a loop over the parts from one on: at its start, at a turn, at its end

pub from_first : {A B P : Type 0} (view : A → B) (F : P → Outcome B) (so_far : Outcome (List A)) (items : List P)
    → so_far ≡ Ok [] → gathers (mapped (map view) so_far) (map F (drop 0 items)) ≡ all_of (map F items)
from_first view F so_far items none = parts_begin view F so_far (drop 0 items) none ∙ ap (λ xs. all_of (map F xs)) (drop_whole items)

pub from_next : {A B P : Type 0} (view : A → B) (F : P → Outcome B) (before behind : Outcome (List A)) (items : List P) (k : ℕ) (x : P) (answer : Result A Trouble) (total : Outcome (List B))
    → gathers (mapped (map view) before) (map F (drop k items)) ≡ total → slice_get items k ≡ Some x → Gives view answer (F x) → Takes answer before behind
    → gathers (mapped (map view) behind) (map F (drop (k + 1) items)) ≡ total
from_next view F before behind items k x answer total so_far is gives takes =
    parts_turn view F before behind (drop k items) (drop (k + 1) items) x answer total so_far (drop_one items k x is) gives takes

pub from_none : {A B P : Type 0} (view : A → B) (F : P → Outcome B) (so_far : Outcome (List A)) (items : List P) (k : ℕ) (total : Outcome (List B))
    → gathers (mapped (map view) so_far) (map F (drop k items)) ≡ total → length items ≤ k → mapped (map view) so_far ≡ total
from_none view F so_far items k total all past = parts_end view F so_far (drop k items) total all (drop_all k items past)

-- all that was gathered, as it is given
pub all_given : {A B V : Type 0} (items : V → List A) (view : A → B) (result : Result V Trouble) (so_far : Outcome (List A)) (total : Outcome (List B))
    → Gives items result so_far → mapped (map view) so_far ≡ total → Gives (λ all. map view (items all)) result total
all_given items view result so_far total gives is =
    subst (λ o. Gives (λ all. map view (items all)) result o) is (gives_mapped items (map view) result so_far gives)

-- ---- answers that are joined and followed

pub joined : {A B C D : Type 0} (view : A → B) (other : C → D) (a : Result A Trouble) (c : Result C Trouble) (oa : Outcome B) (oc : Outcome D)
    → Gives view a oa → Gives other c oc → Gives (λ pair. (view pair.0, other pair.1)) (both_answers a c) (both oa oc)
joined view other (Ok a) (Ok c) oa oc ga gc = ap (λ o. both o oc) ga ∙ ap (both (Ok (view a))) gc
joined view other (Ok a) (Err (Refused s)) oa oc ga gc = ap (λ o. both o oc) ga ∙ ap (both (Ok (view a))) gc
joined view other (Ok a) (Err NoMemory) oa oc ga gc = tt
joined view other (Err (Refused r)) (Ok c) oa oc ga gc = ap (λ o. both o oc) ga ∙ ap (both (Err r)) gc
joined view other (Err (Refused r)) (Err (Refused s)) oa oc ga gc = ap (λ o. both o oc) ga ∙ ap (both (Err r)) gc
joined view other (Err (Refused r)) (Err NoMemory) oa oc ga gc = tt
joined view other (Err NoMemory) c oa oc ga gc = tt

pub given_ok : {A B : Type 0} (view : A → B) (a : Result A Trouble) (o : Outcome B) (x : A) → Gives view a o → a ≡ Ok x → o ≡ Ok (view x)
given_ok view a o x gives is = subst (λ r. Gives view r o) is gives

err_of : {A B C D : Type 0} (view : A → B) (other : C → D) (o : Outcome B) (trouble : Trouble) (next : B → Outcome D)
    → Gives view (Err trouble) o → Gives other (Err trouble) (followed o next)
err_of view other o (Refused r) next gives = ap (λ o. followed o next) gives
err_of view other o NoMemory next gives = tt

pub given_err : {A B C D : Type 0} (view : A → B) (other : C → D) (a : Result A Trouble) (o : Outcome B) (trouble : Trouble) (next : B → Outcome D)
    → Gives view a o → a ≡ Err trouble → Gives other (Err trouble) (followed o next)
given_err {A = A} {B = B} view other a o trouble next gives is = err_of view other o trouble next (subst (λ (r : Result A Trouble). Gives view r o) is gives)

err_mapped : {A B C D : Type 0} (view : A → B) (other : C → D) (o : Outcome B) (trouble : Trouble) (f : B → D)
    → Gives view (Err trouble) o → Gives other (Err trouble) (mapped f o)
err_mapped view other o (Refused r) f gives = ap (mapped f) gives
err_mapped view other o NoMemory f gives = tt

pub mapped_err : {A B C D : Type 0} (view : A → B) (other : C → D) (a : Result A Trouble) (o : Outcome B) (trouble : Trouble) (f : B → D)
    → Gives view a o → a ≡ Err trouble → Gives other (Err trouble) (mapped f o)
mapped_err {A = A} view other a o trouble f gives is = err_mapped view other o trouble f (subst (λ (r : Result A Trouble). Gives view r o) is gives)

pub then_given : {B C D : Type 0} (other : C → D) (o : Outcome B) (x : B) (next : B → Outcome D) (result : Result C Trouble)
    → o ≡ Ok x → Gives other result (next x) → Gives other result (followed o next)
then_given other o x next result is gives = subst (Gives other result) (sym (ap (λ o. followed o next) is)) gives

-- what is refused whatever its parts come to
pub refused_given : {A B C D E : Type 0} (view : A → B) (other : C → D) (at : Span) (answer : Result A Trouble) (o : Outcome B) (f : B → E)
    → Gives view answer o → Gives other (Err (refused_answer at answer)) (refused_with at (mapped f o))
refused_given view other at (Ok a) o f gives = ap (λ o. refused_with at (mapped f o)) gives
refused_given view other at (Err (Refused r)) o f gives = ap (λ o. refused_with at (mapped f o)) gives
refused_given view other at (Err NoMemory) o f gives = tt

-- ---- nodes of the number and at the place of another

pub made_there : (head : TypedHead) (number other : ℕ) (at place : Span) (o : Outcome (List TypedRose)) (result : Result TypedTree Trouble)
    → number ≡ other → at ≡ place → Gives rose_of_typed result (mapped (typed_node head number at) o) → Gives rose_of_typed result (mapped (typed_node head other place) o)
made_there head number other at place o result same here gives =
    subst (λ (n : ℕ). Gives rose_of_typed result (mapped (typed_node head n place) o)) same
    (subst (λ (s : Span). Gives rose_of_typed result (mapped (typed_node head number s) o)) here gives)

-- ---- more on answers

pub joined_as : {A B C D : Type 0} (view : A → B) (other : C → D) (a : Result A Trouble) (c : Result C Trouble) (oa : Outcome B) (oc : Outcome D) (answer : Result (A × C) Trouble)
    → answer ≡ both_answers a c → Gives view a oa → Gives other c oc → Gives (λ (pair : A × C). (view pair.0, other pair.1)) answer (both oa oc)
joined_as {A = A} {B = B} {C = C} {D = D} view other a c oa oc answer is ga gc =
    subst (λ (r : Result (A × C) Trouble). Gives {A = A × C} {B = B × D} (λ pair. (view pair.0, other pair.1)) r (both oa oc)) (sym is) (joined view other a c oa oc ga gc)

map_same : {A : Type 0} (xs : List A) → map (λ (x : A). x) xs ≡ xs
map_same [] = refl
map_same (x ∷ xs) = ap (λ rest. x ∷ rest) (map_same xs)

mapped_same : {A : Type 0} (o : Outcome (List A)) → mapped (map (λ (x : A). x)) o ≡ o
mapped_same (Ok xs) = ap Ok (map_same xs)
mapped_same (Err r) = refl

-- all that was gathered, where it is seen as it is
pub all_same : {A V : Type 0} (items : V → List A) (result : Result V Trouble) (so_far total : Outcome (List A))
    → Gives items result so_far → mapped (map (λ (x : A). x)) so_far ≡ total → Gives items result total
all_same items result so_far total gives is = subst (Gives items result) (sym (mapped_same so_far) ∙ is) gives

pub mapped_twice : {A B C : Type 0} (f : A → B) (g : B → C) (o : Outcome A) → mapped (λ x. g (f x)) o ≡ mapped g (mapped f o)
mapped_twice f g (Ok x) = refl
mapped_twice f g (Err r) = refl

pub on_ok : {T E P Q : Type 0} (r : Result T E) → OnOk r P → (P → Q) → OnOk r Q
on_ok (Ok value) holds then = then holds
on_ok (Err e) holds then = tt

pub unbuilt_given : (trouble : Trouble) (at place : Span) (o : Outcome TypedRose) → trouble ≡ Refused (missing at) → at ≡ place → o ≡ unbuilt place → Gives rose_of_typed (Err trouble) o
unbuilt_given trouble at place o is here same =
    subst (λ (t : Trouble). Gives rose_of_typed (Err t) o) (sym (is ∙ ap (λ (s : Span). Refused (missing s)) here)) same

pub there : (F : ℕ → Span → Outcome TypedRose) (number other : ℕ) (at place : Span) (result : Result TypedTree Trouble)
    → number ≡ other → at ≡ place → Gives rose_of_typed result (F number at) → Gives rose_of_typed result (F other place)
there F number other at place result same here gives =
    subst (λ (n : ℕ). Gives rose_of_typed result (F n place)) same (subst (λ (s : Span). Gives rose_of_typed result (F number s)) here gives)
