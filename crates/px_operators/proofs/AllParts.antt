-- What is gathered part by part is what all parts come to.
use Rattle.std.proofs.Common.{◌≡◌, List, [], ◌∷◌, ◌++◌, length, map, Option, Some, None, refl, sym, ap, ◌∙◌, append_assoc, arith}
use Rattle.std.proofs.lemmas.List.{append-nil, map-append}
use Rattle.std.specs.Prelude.{Bool, true, false, Result, Ok, Err, if◌then◌else◌}
use Rattle.px_base.specs.declared.refusals.Refusal.{Refusal}
use Rattle.px_base.specs.declared.refusals.Trouble.{Trouble}
use Rattle.px_base.specs.declared.refusals.Trouble.TheVariants.{Refused, NoMemory}
use Rattle.px_base.specs.Findings.{comes_first, first_of}
use Rattle.px_base.proofs.FirstFindings.{first_of-associative}
use Rattle.px_operators.specs.Outcomes.{Outcome, Gives, mapped, both, earlier, all_of}
use Rattle.px_operators.specs.Kept.{with_one, gathers, Takes}

-- of three refusals the first, whichever two are compared before

abbrev of_some : Option Refusal → Refusal → Refusal
of_some None otherwise = otherwise
of_some (Some refusal) otherwise = refusal

some_if : (first : Bool) (a b : Refusal) → (if first then Some a else Some b) ≡ Some (if first then a else b)
some_if true a b = refl
some_if false a b = refl

first_of_some : (a b : Refusal) → first_of (Some a) (Some b) ≡ Some (earlier a b)
first_of_some a b = some_if (comes_first a b) a b

earlier-associative : (a b c : Refusal) → earlier (earlier a b) c ≡ earlier a (earlier b c)
earlier-associative a b c =
    ap (λ o. of_some o a)
    (sym (first_of_some (earlier a b) c) ∙ ap (λ o. first_of o (Some c)) (sym (first_of_some a b)) ∙ first_of-associative (Some a) (Some b) (Some c)
    ∙ ap (first_of (Some a)) (first_of_some b c) ∙ first_of_some a (earlier b c))

-- what was gathered, with all that is still to come
abbrev pub with_all : {A : Type 0} → Outcome (List A) → Outcome (List A) → Outcome (List A)
with_all so_far others = mapped (λ parts. parts.0 ++ parts.1) (both so_far others)

with_all-none : {A : Type 0} (so_far : Outcome (List A)) → with_all so_far (Ok []) ≡ so_far
with_all-none (Ok xs) = ap Ok (append-nil xs)
with_all-none (Err refusal) = refl

with_all-more : {A : Type 0} (so_far : Outcome (List A)) (o : Outcome A) (others : Outcome (List A))
    → with_all (with_one so_far o) others ≡ with_all so_far (mapped (λ parts. parts.0 ∷ parts.1) (both o others))
with_all-more (Ok xs) (Ok x) (Ok ys) = ap Ok (append_assoc xs (x ∷ []) ys)
with_all-more (Ok xs) (Ok x) (Err r) = refl
with_all-more (Ok xs) (Err r) (Ok ys) = refl
with_all-more (Ok xs) (Err r) (Err s) = refl
with_all-more (Err r) (Ok x) (Ok ys) = refl
with_all-more (Err r) (Ok x) (Err s) = refl
with_all-more (Err r) (Err s) (Ok ys) = refl
with_all-more (Err r) (Err s) (Err u) = ap Err (earlier-associative r s u)

pub gathers_with : {A : Type 0} (so_far : Outcome (List A)) (outcomes : List (Outcome A)) → gathers so_far outcomes ≡ with_all so_far (all_of outcomes)
gathers_with so_far [] = sym (with_all-none so_far)
gathers_with so_far (o ∷ outcomes) = gathers_with (with_one so_far o) outcomes ∙ with_all-more so_far o (all_of outcomes)

with_all-first : {A : Type 0} (others : Outcome (List A)) → with_all (Ok []) others ≡ others
with_all-first (Ok xs) = refl
with_all-first (Err refusal) = refl

-- from the beginning
pub gathers_all : {A : Type 0} (outcomes : List (Outcome A)) → gathers (Ok []) outcomes ≡ all_of outcomes
gathers_all outcomes = gathers_with (Ok []) outcomes ∙ with_all-first (all_of outcomes)

-- One part more, as contracts see it

with_one-mapped : {A B : Type 0} (f : A → B) (so_far : Outcome (List A)) (o : Outcome A)
    → mapped (map f) (with_one so_far o) ≡ with_one (mapped (map f) so_far) (mapped f o)
with_one-mapped f (Ok xs) (Ok x) = ap Ok (map-append f xs (x ∷ []))
with_one-mapped f (Ok xs) (Err r) = refl
with_one-mapped f (Err r) (Ok x) = refl
with_one-mapped f (Err r) (Err s) = refl

pub taken : {A B : Type 0} (view : A → B) (answer : Result A Trouble) (o : Outcome B) (before behind : Outcome (List A))
    → Gives view answer o → Takes answer before behind → mapped (map view) behind ≡ with_one (mapped (map view) before) o
taken view (Ok value) o before behind gives takes =
    ap (mapped (map view)) takes ∙ with_one-mapped view before (Ok value) ∙ ap (with_one (mapped (map view) before)) (sym gives)
taken view (Err (Refused refusal)) o before behind gives takes =
    ap (mapped (map view)) takes ∙ with_one-mapped view before (Err refusal) ∙ ap (with_one (mapped (map view) before)) (sym gives)
taken view (Err NoMemory) o before behind gives takes = absurd takes

pub gives_mapped : {A B C : Type 0} (view : A → B) (f : B → C) (answer : Result A Trouble) (o : Outcome B)
    → Gives view answer o → Gives (λ a. f (view a)) answer (mapped f o)
gives_mapped view f (Ok value) o gives = ap (mapped f) gives
gives_mapped view f (Err (Refused refusal)) o gives = ap (mapped f) gives
gives_mapped view f (Err NoMemory) o gives = tt

pub map_twice : {A B C : Type 0} (f : A → B) (g : B → C) (xs : List A) → map g (map f xs) ≡ map (λ x. g (f x)) xs
map_twice f g [] = refl
map_twice f g (x ∷ xs) = ap (λ rest. g (f x) ∷ rest) (map_twice f g xs)

pub nothing_left : {A : Type 0} (xs : List A) → length xs ≡ 0 → xs ≡ []
nothing_left [] none = refl
nothing_left (x ∷ xs) none = absurd (omega arith)

-- ---- a loop over parts: at its start, at a turn, and at its end

pub parts_begin : {A B P : Type 0} (view : A → B) (F : P → Outcome B) (so_far : Outcome (List A)) (items : List P)
    → so_far ≡ Ok [] → gathers (mapped (map view) so_far) (map F items) ≡ all_of (map F items)
parts_begin view F so_far items none = ap (λ o. gathers (mapped (map view) o) (map F items)) none ∙ gathers_all (map F items)

pub parts_turn : {A B P : Type 0} (view : A → B) (F : P → Outcome B) (before behind : Outcome (List A)) (items rest : List P) (x : P) (answer : Result A Trouble) (total : Outcome (List B))
    → gathers (mapped (map view) before) (map F items) ≡ total → items ≡ x ∷ rest → Gives view answer (F x) → Takes answer before behind
    → gathers (mapped (map view) behind) (map F rest) ≡ total
parts_turn view F before behind items rest x answer total so_far steps gives takes =
    ap (λ o. gathers o (map F rest)) (taken view answer (F x) before behind gives takes)
    ∙ sym (ap (λ xs. gathers (mapped (map view) before) (map F xs)) steps) ∙ so_far

pub parts_end : {A B P : Type 0} (view : A → B) (F : P → Outcome B) (so_far : Outcome (List A)) (items : List P) (total : Outcome (List B))
    → gathers (mapped (map view) so_far) (map F items) ≡ total → items ≡ [] → mapped (map view) so_far ≡ total
parts_end view F so_far items total all none = sym (ap (λ xs. gathers (mapped (map view) so_far) (map F xs)) none) ∙ all
