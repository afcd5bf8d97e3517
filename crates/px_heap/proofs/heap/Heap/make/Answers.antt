use Rattle.std.proofs.Common.{refl, ap, sym, ◌∙◌, rules, get_or, None}
use Rattle.px_heap.specs.References.{references}
use Rattle.px_heap.proofs.Keeping.{heap_making, held_at, live_at, no_reference}
use Rattle.px_heap.proofs.Making.{is_new}
use Rattle.px_heap.proofs.heap.Heap.make.Goals as goal

pub invariant_of-self-2 : goal.invariant_of-self-2
invariant_of-self-2 c =
    let k = c.insert_reserved-key.ensures in
    let r = ap (λ s. s.slots) c.reserve.ensures.rest_kept in
    heap_making c.self.inside.objects.slots c.insert_reserved-key.new.self.slots c.self.inside.made c.insert_reserved-key.result
    (record { number = c.self.inside.made; count = 1; value = c.args.value; next = None }) c.self.invariant
    (sym (ap (λ s. get_or s c.insert_reserved-key.result None) r) ∙ k.was_vacant) k.updates.changed
    (λ other d. k.updates.others other d ∙ ap (λ s. get_or s other None) r) refl refl
    (live_at c.self.inside.objects.slots c.self.inside.made c.args.self.now (references c.args.value) c.self.view_is c.requires.live)
    (held_at c.self.inside.objects.slots c.self.inside.made c.args.self.now (references c.args.value) c.self.invariant c.self.view_is c.requires)

pub returns : goal.returns
returns c =
    let k = c.insert_reserved-key.ensures in
    let r = ap (λ s. s.slots) c.reserve.ensures.rest_kept in
    is_new c.self.inside.objects.slots c.insert_reserved-key.new.self.slots c.self.inside.made c.args.self.now _ c.insert_reserved-key.result
    (record { number = c.self.inside.made; count = 1; value = c.args.value; next = None }) c.self.invariant c.self.view_is refl (search rules) refl refl
    (sym (ap (λ s. get_or s c.insert_reserved-key.result None) r) ∙ k.was_vacant) k.updates.changed
    (λ other d. k.updates.others other d ∙ ap (λ s. get_or s other None) r)
    (no_reference c.self.inside.objects.slots c.insert_reserved-key.new.self.slots c.self.inside.made c.insert_reserved-key.result
    (record { number = c.self.inside.made; count = 1; value = c.args.value; next = None }) c.self.invariant
    (sym (ap (λ s. get_or s c.insert_reserved-key.result None) r) ∙ k.was_vacant) k.updates.changed
    (λ other d. k.updates.others other d ∙ ap (λ s. get_or s other None) r) refl refl
    (live_at c.self.inside.objects.slots c.self.inside.made c.args.self.now (references c.args.value) c.self.view_is c.requires.live)
    (held_at c.self.inside.objects.slots c.self.inside.made c.args.self.now (references c.args.value) c.self.invariant c.self.view_is c.requires))
