use Rattle.std.specs.Prelude.{option_map}
use Rattle.px_heap.specs.Heaps.{with_content}
use Rattle.px_heap.specs.Answers.{holding}
use Rattle.px_heap.proofs.Changing.{written_heap, written_live, written_sum}
use Rattle.px_heap.proofs.Methods.{has_key, has_now, value_read, written}
use Rattle.px_heap.proofs.heap.Heap.write.Goals as goal

pub set_value-requires : goal.set_value-requires
set_value-requires c = has_key c.self.inside.objects.slots c.self.inside.made c.args.self.now c.args.of c.self.view_is c.requires.live

pub invariant_of-self : goal.invariant_of-self
invariant_of-self c =
    let u = c.set_value.ensures.objects in
    written_heap c.self.inside.objects.slots c.set_value.new.objects.slots c.self.inside.made c.args.self.now c.args.of c.self.invariant c.self.view_is c.requires.live u.others
    c.args.value u.changed c.requires.held

pub returns-clause-value : goal.returns-clause-value
returns-clause-value c = value_read c.self.inside.objects.slots c.self.inside.made c.args.self.now c.args.of c.set_value.result c.self.view_is c.requires.live c.set_value.ensures.value

pub returns-clause-objects : goal.returns-clause-objects
returns-clause-objects c =
    let u = c.set_value.ensures.objects in
    has_now c.self.inside.objects.slots c.set_value.new.objects.slots c.self.inside.made c.args.self.now c.args.of c.self.invariant c.self.view_is c.requires.live
    (option_map (with_content c.args.value)) (option_map (holding c.args.value)) u.changed u.others (λ o h. written c.args.value o c.args.of.key)

pub returns-clause-inner : goal.returns-clause-inner
returns-clause-inner c =
    let u = c.set_value.ensures.objects in
    written_sum c.self.inside.objects.slots c.set_value.new.objects.slots c.self.inside.made c.args.self.now c.args.of c.self.invariant c.self.view_is c.requires.live u.others
    c.args.value c.set_value.result u.changed c.set_value.ensures.value

pub returns-clause-live : goal.returns-clause-live
returns-clause-live c =
    let u = c.set_value.ensures.objects in
    written_live c.self.inside.objects.slots c.set_value.new.objects.slots c.self.inside.made c.args.self.now c.args.of c.self.invariant c.self.view_is c.requires.live u.others
    c.args.value c.set_value.result u.changed c.set_value.ensures.value c.requires.held
