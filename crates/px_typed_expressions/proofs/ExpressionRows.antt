-- What a row comes to, and loops over its trailers.
use Rattle.std.proofs.Common.{◌≡◌, ℕ, ◌+◌, ◌≤◌, List, [], ◌∷◌, length, drop, map, Bool, true, false, Option, Some, None, refl, sym, ap, subst, ◌∙◌}
use Rattle.std.specs.Prelude.{slice_get, zip, Result}
use Rattle.px_base.specs.declared.refusals.Span.{Span}
use Rattle.px_base.specs.declared.refusals.Trouble.{Trouble}
use Rattle.px_walk.specs.ExprView.{Tree}
use Rattle.px_tree.specs.declared.typed_trees.TypedTree.{TypedTree}
use Rattle.px_typed_walk.specs.TypedView.{TypedRose, rose_of_typed}
use Rattle.px_names.specs.declared.meanings.Meaning.{Meaning}
use Rattle.px_names.proofs.PartLoops.{drop_whole, drop_one, drop_none, nothing_behind}
use Rattle.px_operators.specs.Outcomes.{Outcome, Gives, unbuilt, only}
use Rattle.px_environments.specs.Environments.{Environment}
use Rattle.px_environments.specs.Atoms.{atom_meaning, is_value}
use Rattle.px_typed_expressions.specs.Calls.{behind_one, behind, first_call, row_by, row_of}
use Rattle.px_typed_expressions.specs.Expressions.{operands_below}
use Rattle.px_typed_expressions.specs.ExpressionsKept.{outcomes_each, trailers_of}

zip_map : {A B : Type 0} (f : A → B) (xs : List A) → zip xs (map f xs) ≡ map (λ x. (x, f x)) xs
zip_map f [] = refl
zip_map f (x ∷ xs) = ap (λ rest. (x, f x) ∷ rest) (zip_map f xs)

row_first : (environment : Environment) (number : ℕ) (at : Span) (atom : Tree) (trailers : List Tree) (value : Bool)
    → is_value (atom_meaning environment atom) ≡ value
    → row_of environment number at (atom ∷ trailers) (outcomes_each environment (atom ∷ trailers))
    ≡ row_by value environment (atom_meaning environment atom) number at (operands_below environment atom) (trailers_of environment trailers)
row_first environment number at atom trailers value is =
    ap (λ (b : Bool). row_by b environment (atom_meaning environment atom) number at (operands_below environment atom) (zip trailers (outcomes_each environment trailers))) is
    ∙ ap (row_by value environment (atom_meaning environment atom) number at (operands_below environment atom)) (zip_map (operands_below environment) trailers)

parts_row : (environment : Environment) (number : ℕ) (at : Span) (parts : List Tree) (atom : Tree) → slice_get parts 0 ≡ Some atom
    → row_of environment number at parts (outcomes_each environment parts)
    ≡ row_of environment number at (atom ∷ drop 1 parts) (outcomes_each environment (atom ∷ drop 1 parts))
parts_row environment number at parts atom is =
    ap (λ (ps : List Tree). row_of environment number at ps (outcomes_each environment ps)) (sym (drop_whole parts) ∙ drop_one parts 0 atom is)

pub row_value : (environment : Environment) (number : ℕ) (at : Span) (parts : List Tree) (atom : Tree) → slice_get parts 0 ≡ Some atom
    → is_value (atom_meaning environment atom) ≡ true
    → row_of environment number at parts (outcomes_each environment parts)
    ≡ behind at (only at (operands_below environment atom)) (trailers_of environment (drop 1 parts))
row_value environment number at parts atom is value =
    parts_row environment number at parts atom is ∙ row_first environment number at atom (drop 1 parts) true value

pub row_called : (environment : Environment) (number : ℕ) (at : Span) (parts : List Tree) (atom call : Tree) → slice_get parts 0 ≡ Some atom
    → slice_get parts 1 ≡ Some call → is_value (atom_meaning environment atom) ≡ false
    → row_of environment number at parts (outcomes_each environment parts)
    ≡ behind at (first_call environment (atom_meaning environment atom) number at (operands_below environment call)) (trailers_of environment (drop 2 parts))
row_called environment number at parts atom call is next value =
    parts_row environment number at parts atom is
    ∙ row_first environment number at atom (drop 1 parts) false value
    ∙ ap (λ (ps : List Tree). row_by false environment (atom_meaning environment atom) number at (operands_below environment atom) (trailers_of environment ps)) (drop_one parts 1 call next)

pub row_alone : (environment : Environment) (number : ℕ) (at : Span) (parts : List Tree) (atom : Tree) → slice_get parts 0 ≡ Some atom
    → slice_get parts 1 ≡ None → is_value (atom_meaning environment atom) ≡ false
    → row_of environment number at parts (outcomes_each environment parts) ≡ unbuilt at
row_alone environment number at parts atom is next value =
    parts_row environment number at parts atom is
    ∙ row_first environment number at atom (drop 1 parts) false value
    ∙ ap (λ (ps : List Tree). row_by false environment (atom_meaning environment atom) number at (operands_below environment atom) (trailers_of environment ps)) (drop_none parts 1 next)

pub row_none : (environment : Environment) (number : ℕ) (at : Span) (parts : List Tree) → slice_get parts 0 ≡ None
    → row_of environment number at parts (outcomes_each environment parts) ≡ unbuilt at
row_none environment number at [] none = refl
row_none environment number at (part ∷ parts) none = absurd cc

-- ---- a loop over trailers

-- what the value so far comes to, with the trailers that are left, is what the whole row comes to
abbrev pub Behind : Environment → Span → Result TypedTree Trouble → List Tree → Outcome TypedRose → Type 0
Behind environment at so_far parts total = (o : Outcome TypedRose) × Gives rose_of_typed so_far o × (behind at o (trailers_of environment parts) ≡ total)

pub behind_more : (environment : Environment) (at : Span) (so_far next : Result TypedTree Trouble) (parts : List Tree) (k : ℕ) (part : Tree) (total : Outcome TypedRose)
    → slice_get parts k ≡ Some part
    → ((o : Outcome TypedRose) → Gives rose_of_typed so_far o → Gives rose_of_typed next (behind_one at o (part, operands_below environment part)))
    → Behind environment at so_far (drop k parts) total → Behind environment at next (drop (k + 1) parts) total
behind_more environment at so_far next parts k part total is step before = (
  behind_one at before.0 (part, operands_below environment part),
  step before.0 before.1,
  sym (ap (λ (ps : List Tree). behind at before.0 (trailers_of environment ps)) (drop_one parts k part is)) ∙ before.2,
)

pub behind_last : (environment : Environment) (at : Span) (so_far : Result TypedTree Trouble) (parts : List Tree) (k : ℕ) (total : Outcome TypedRose)
    → length parts ≤ k → Behind environment at so_far (drop k parts) total → Gives rose_of_typed so_far total
behind_last environment at so_far parts k total past before =
    let whole : before.0 ≡ total = sym (nothing_behind (λ (ps : List Tree). behind at before.0 (trailers_of environment ps)) parts k past) ∙ before.2 in
    subst (λ (o : Outcome TypedRose). Gives rose_of_typed so_far o) whole before.1

-- a turn of that loop, as the program takes it
pub behind_step : (next : Result TypedTree Trouble) (place at : Span) (part : Tree) (so_far : Outcome TypedRose) (parts outcomes : List (Outcome TypedRose))
    → place ≡ at → parts ≡ outcomes → Gives rose_of_typed next (behind_one place so_far (part, parts)) → Gives rose_of_typed next (behind_one at so_far (part, outcomes))
behind_step next place at part so_far parts outcomes at_is parts_are gives =
    subst (λ (a : Span). Gives rose_of_typed next (behind_one a so_far (part, outcomes))) at_is
    (subst (λ (ps : List (Outcome TypedRose)). Gives rose_of_typed next (behind_one place so_far (part, ps))) parts_are gives)

-- ---- what a row begins with

pub value_gives : (value : Result TypedTree Trouble) (place at : Span) (parts outcomes : List (Outcome TypedRose))
    → place ≡ at → parts ≡ outcomes → Gives rose_of_typed value (only place parts) → Gives rose_of_typed value (only at outcomes)
value_gives value place at parts outcomes at_is parts_are gives =
    subst (λ (a : Span). Gives rose_of_typed value (only a outcomes)) at_is
    (subst (λ (ps : List (Outcome TypedRose)). Gives rose_of_typed value (only place ps)) parts_are gives)

pub call_gives : (environment : Environment) (called : Result TypedTree Trouble) (what meant : Option Meaning) (number numbered : ℕ) (place at : Span) (parts outcomes : List (Outcome TypedRose))
    → what ≡ meant → number ≡ numbered → place ≡ at → parts ≡ outcomes
    → Gives rose_of_typed called (first_call environment what number place parts) → Gives rose_of_typed called (first_call environment meant numbered at outcomes)
call_gives environment called what meant number numbered place at parts outcomes what_is number_is at_is parts_are gives =
    subst (λ (w : Option Meaning). Gives rose_of_typed called (first_call environment w numbered at outcomes)) what_is
    (subst (λ (n : ℕ). Gives rose_of_typed called (first_call environment what n at outcomes)) number_is
    (subst (λ (a : Span). Gives rose_of_typed called (first_call environment what number a outcomes)) at_is
    (subst (λ (ps : List (Outcome TypedRose)). Gives rose_of_typed called (first_call environment what number place ps)) parts_are gives)))
