-- The steps of the loop that frees objects.
use Rattle.std.proofs.Common.{◌≡◌, ℕ, List, get_or, set, Option, Some, None, ap, ◌∙◌}
use Rattle.px_heap.specs.declared.slots.Object.{Object}
use Rattle.px_heap.specs.References.{references}
use Rattle.px_heap.specs.Freeing.{Frees, Work, freed_slot, frees_none, frees_one, lowered_each, work}

pub no_more : (slots : List (Option Object)) (dead : Option ℕ) → dead ≡ None → Frees (work slots dead) slots
no_more slots dead e = rw e (frees_none slots)

pub lost_link : (slots now : List (Option Object)) (dead : Option ℕ) (key : ℕ) → dead ≡ Some key → get_or slots key None ≡ None → now ≡ slots → Frees (work slots dead) now
lost_link slots now dead key e h i =
    let f : Frees (freed_slot key (work slots (Some key)) (get_or slots key None)) slots = rw h (frees_none slots) in
    rw (e, i) (frees_one slots slots key f)

pub one_more : (slots cut : List (Option Object)) (dead : Option ℕ) (key : ℕ) (o : Object) (next : Work) (left : List (Option Object)) → dead ≡ Some key → get_or slots key None ≡ Some o → cut ≡ set slots key None
    → next ≡ lowered_each (references o.value) (work cut o.next) → Frees next left → Frees (work slots dead) left
one_more slots cut dead key o next left e h i j f =
    let at : next ≡ freed_slot key (work slots (Some key)) (Some o) = j ∙ ap (λ s. lowered_each (references o.value) (work s o.next)) i in
    let g : Frees (freed_slot key (work slots (Some key)) (get_or slots key None)) left = rw (h, ← at) f in
    rw e (frees_one slots left key g)
