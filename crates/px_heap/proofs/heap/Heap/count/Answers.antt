use Rattle.px_heap.proofs.Methods.{count_read, has_key}
use Rattle.px_heap.proofs.heap.Heap.count.Goals as goal

pub count_at-requires : goal.count_at-requires
count_at-requires c = has_key c.self.inside.objects.slots c.self.inside.made c.args.self.now c.args.of c.self.view_is c.requires

pub returns : goal.returns
returns c = count_read c.self.inside.objects.slots c.self.inside.made c.args.self.now c.args.of c.count_at.result c.self.view_is c.requires c.count_at.ensures
