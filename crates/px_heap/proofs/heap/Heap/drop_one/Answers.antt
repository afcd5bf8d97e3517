use Rattle.px_heap.proofs.Drops.{dropped_heap, is_dropped}
use Rattle.px_heap.proofs.heap.Heap.drop_one.Goals as goal

pub invariant_of-self : goal.invariant_of-self
invariant_of-self c = dropped_heap c.self.inside.objects.slots c.release.new.objects.slots c.self.inside.made c.args.self.now c.args.of c.self.invariant c.self.view_is c.requires c.release.ensures

pub returns : goal.returns
returns c = is_dropped c.self.inside.objects.slots c.release.new.objects.slots c.self.inside.made c.args.self.now c.args.of c.self.invariant c.self.view_is c.requires c.release.ensures
