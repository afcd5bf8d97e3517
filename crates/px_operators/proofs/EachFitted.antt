-- Values as those of these types, one by one, as a list of outcomes that is gathered.
use Rattle.std.proofs.Common.{◌≡◌, ℕ, ◌+◌, ◌<◌, ◌≤◌, List, [], ◌∷◌, length, map, drop, get_or, refl, sym, ap, ◌∙◌}
use Rattle.std.specs.Prelude.{Result, Ok}
use Rattle.std.proofs.lemmas.List.{drop_more, drop_all}
use Rattle.px_base.specs.declared.refusals.Trouble.{Trouble}
use Rattle.px_tree.specs.declared.typed_values.ValueType.{ValueType}
use Rattle.px_tree.specs.declared.typed_trees.TypedTree.{TypedTree}
use Rattle.px_typed_walk.specs.TypedView.{TypedRose, rose_of_typed}
use Rattle.px_operators.specs.declared.gathering.Part.{Part}
use Rattle.px_operators.specs.Outcomes.{Outcome, Gives, followed, mapped, both, all_of}
use Rattle.px_operators.specs.Conversions.{fitted, fitted_each}
use Rattle.px_operators.specs.Kept.{part_kept, parts_kept, gathers, Takes}
use Rattle.px_operators.proofs.AllParts.{gathers_all, taken}

abbrev pub each_fitted : List ValueType → List (Outcome TypedRose) → List (Outcome TypedRose)
each_fitted (t ∷ types) (outcome ∷ outcomes) = followed outcome (fitted t) ∷ each_fitted types outcomes
each_fitted _ _ = []

pub each_fitted-all : (types : List ValueType) (outcomes : List (Outcome TypedRose)) → all_of (each_fitted types outcomes) ≡ fitted_each types outcomes
each_fitted-all [] outcomes = refl
each_fitted-all (t ∷ types) [] = refl
each_fitted-all (t ∷ types) (outcome ∷ outcomes) =
    ap (λ all. mapped (λ parts. parts.0 ∷ parts.1) (both (followed outcome (fitted t)) all)) (each_fitted-all types outcomes)

-- ---- a loop over types and parts: at its start, at a turn, and at its end

pub each_begin : (so_far : Outcome (List TypedTree)) (types : List ValueType) (parts : List Part)
    → so_far ≡ Ok [] → gathers (mapped (map rose_of_typed) so_far) (each_fitted types (parts_kept parts)) ≡ fitted_each types (parts_kept parts)
each_begin so_far types parts none =
    ap (λ o. gathers (mapped (map rose_of_typed) o) (each_fitted types (parts_kept parts))) none
    ∙ gathers_all (each_fitted types (parts_kept parts)) ∙ each_fitted-all types (parts_kept parts)

pub each_turn : (before behind : Outcome (List TypedTree)) (types : List ValueType) (k : ℕ) (d : ValueType) (items rest : List Part) (part : Part)
    (answer : Result TypedTree Trouble) (total : Outcome (List TypedRose))
    → gathers (mapped (map rose_of_typed) before) (each_fitted (drop k types) (parts_kept items)) ≡ total
    → k < length types → items ≡ part ∷ rest
    → Gives rose_of_typed answer (followed (part_kept part) (fitted (get_or types k d))) → Takes answer before behind
    → gathers (mapped (map rose_of_typed) behind) (each_fitted (drop (k + 1) types) (parts_kept rest)) ≡ total
each_turn before behind types k d items rest part answer total so_far below steps gives takes =
    ap (λ o. gathers o (each_fitted (drop (k + 1) types) (parts_kept rest))) (taken rose_of_typed answer (followed (part_kept part) (fitted (get_or types k d))) before behind gives takes)
    ∙ ap (λ ts. gathers (mapped (map rose_of_typed) before) (each_fitted ts (part_kept part ∷ parts_kept rest))) (sym (drop_more types k d below))
    ∙ ap (λ xs. gathers (mapped (map rose_of_typed) before) (each_fitted (drop k types) (parts_kept xs))) (sym steps)
    ∙ so_far

-- no type is left
pub each_past : (so_far : Outcome (List TypedTree)) (types : List ValueType) (k : ℕ) (items : List Part) (total : Outcome (List TypedRose))
    → gathers (mapped (map rose_of_typed) so_far) (each_fitted (drop k types) (parts_kept items)) ≡ total → length types ≤ k
    → mapped (map rose_of_typed) so_far ≡ total
each_past so_far types k items total all past =
    sym (ap (λ ts. gathers (mapped (map rose_of_typed) so_far) (each_fitted ts (parts_kept items))) (drop_all k types past)) ∙ all

each_fitted-none : (types : List ValueType) → each_fitted types [] ≡ []
each_fitted-none [] = refl
each_fitted-none (t ∷ types) = refl

-- no part is left
pub each_ended : (so_far : Outcome (List TypedTree)) (types : List ValueType) (items : List Part) (total : Outcome (List TypedRose))
    → gathers (mapped (map rose_of_typed) so_far) (each_fitted types (parts_kept items)) ≡ total → items ≡ []
    → mapped (map rose_of_typed) so_far ≡ total
each_ended so_far types items total all none =
    ap (gathers (mapped (map rose_of_typed) so_far)) (sym (each_fitted-none types))
    ∙ ap (λ xs. gathers (mapped (map rose_of_typed) so_far) (each_fitted types (parts_kept xs))) (sym none) ∙ all
