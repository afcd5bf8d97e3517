-- Outcomes whose trees are some plain trees once they are erased.
use Rattle.std.proofs.Common.{◌≡◌, List, [], ◌∷◌, ◌++◌, map, refl, sym, ap, ◌∙◌}
use Rattle.std.specs.Prelude.{Bool, true, false, if◌then◌else◌, Ok}
use Rattle.std.specs.List.{AllZip}
use Rattle.std.proofs.lemmas.List.{map-append}
use Rattle.px_base.specs.declared.refusals.Span.{Span}
use Rattle.px_walk.specs.Roses.{Rose, listed, gathered}
use Rattle.px_typed_walk.specs.TypedView.{TypedRose}
use Rattle.px_operators.specs.Outcomes.{Outcome, all_of, only, flat}
use Rattle.px_type_laws.specs.PlainForms.{PlainTree}
use Rattle.px_type_laws.specs.Erased.{erased}
use Rattle.px_type_laws.proofs.OutcomeParts.{ok_same, first_ok}

-- what comes of an outcome is seen as this
abbrev pub Shows : {A P : Type 0} → (A → P) → Outcome A → P → Type 0
Shows {A} view o seen = (a : A) → o ≡ Ok a → view a ≡ seen

abbrev pub Agrees : Outcome TypedRose → PlainTree → Type 0
Agrees o tree = (typed : TypedRose) → o ≡ Ok typed → erased typed ≡ tree

abbrev pub Agree : List (Outcome TypedRose) → List PlainTree → Type 0
Agree outcomes trees = AllZip Agrees outcomes trees

pub agree-append : (outcomes others : List (Outcome TypedRose)) (trees more_trees : List PlainTree)
    → Agree outcomes trees → Agree others more_trees → Agree (outcomes ++ others) (trees ++ more_trees)
agree-append [] others [] more_trees first next = next
agree-append [] others (tree ∷ trees) more_trees first next = absurd first
agree-append (o ∷ outcomes) others [] more_trees first next = absurd first
agree-append (o ∷ outcomes) others (tree ∷ trees) more_trees first next = (first.0, agree-append outcomes others trees more_trees first.1 next)

pub agree-flat : (outcomes : List (List (Outcome TypedRose))) (trees : List (List PlainTree)) → AllZip Agree outcomes trees → Agree (flat outcomes) (flat trees)
agree-flat [] [] all = tt
agree-flat [] (ts ∷ trees) all = absurd all
agree-flat (os ∷ outcomes) [] all = absurd all
agree-flat (os ∷ outcomes) (ts ∷ trees) all = agree-append os (flat outcomes) ts (flat trees) all.0 (agree-flat outcomes trees all.1)

pub agree-if : (test : Bool) (outcomes others : List (Outcome TypedRose)) (trees more_trees : List PlainTree)
    → Agree outcomes trees → Agree others more_trees → Agree (if test then outcomes else others) (if test then trees else more_trees)
agree-if true outcomes others trees more_trees first next = first
agree-if false outcomes others trees more_trees first next = next

-- what all of some outcomes come to
pub all_shown : {A P : Type 0} (view : A → P) (outcomes : List (Outcome A)) (seen : List P) (xs : List A)
    → AllZip (Shows view) outcomes seen → all_of outcomes ≡ Ok xs → map view xs ≡ seen
all_shown view [] [] xs all is = ap (map view) (sym (ok_same [] xs is))
all_shown view [] (p ∷ seen) xs all is = absurd all
all_shown view (o ∷ outcomes) [] xs all is = absurd all
all_shown view (o ∷ outcomes) (p ∷ seen) xs all is =
    let found = first_ok o (all_of outcomes) xs is in
    ap (map view) found.4
    ∙ ap (λ q. q ∷ map view found.1) (all.0 found.0 found.2)
    ∙ ap (λ rest. p ∷ rest) (all_shown view outcomes seen found.1 all.1 found.3)

pub shown_each : {A : Type 0} (view : A → PlainTree) (f : Outcome TypedRose → Outcome A) (outcomes : List (Outcome TypedRose)) (trees : List PlainTree)
    → ((o : Outcome TypedRose) (tree : PlainTree) → Agrees o tree → Shows view (f o) tree)
    → Agree outcomes trees → AllZip (Shows view) (map f outcomes) trees
shown_each view f [] [] each all = tt
shown_each view f [] (tree ∷ trees) each all = absurd all
shown_each view f (o ∷ outcomes) [] each all = absurd all
shown_each view f (o ∷ outcomes) (tree ∷ trees) each all = (each o tree all.0, shown_each view f outcomes trees each all.1)

pub only_shown : (at : Span) (outcomes : List (Outcome TypedRose)) (trees : List PlainTree) (typed : TypedRose)
    → Agree outcomes trees → only at outcomes ≡ Ok typed → trees ≡ erased typed ∷ []
only_shown at [] trees typed all is = absurd cc
only_shown at (o ∷ []) [] typed all is = absurd all
only_shown at (o ∷ []) (tree ∷ []) typed all is = ap (λ t. t ∷ []) (sym (all.0 typed is))
only_shown at (o ∷ []) (tree ∷ other ∷ trees) typed all is = absurd all.1
only_shown at (o ∷ next ∷ outcomes) trees typed all is = absurd cc

-- lists of lists

pub map-flat : {A P : Type 0} (view : A → P) (xss : List (List A)) → map view (flat xss) ≡ flat (map (map view) xss)
map-flat view [] = refl
map-flat view (xs ∷ xss) = map-append view xs (flat xss) ∙ ap (λ rest. map view xs ++ rest) (map-flat view xss)

pub listed-gathered : {H : Type 0} (trees : List (Rose H)) → listed (gathered trees) ≡ trees
listed-gathered [] = refl
listed-gathered (tree ∷ trees) = ap (λ rest. tree ∷ rest) (listed-gathered trees)
