use Rattle.px_heap.proofs.HeapLaws.{counts_suffice, has_reference, number_given, references_live}
use Rattle.px_heap.proofs.heap.heap_laws.Goals as goal

pub returns-clause-numbers : goal.returns-clause-numbers
returns-clause-numbers c = λ n o h. number_given c.heap.inside.objects.slots c.heap.inside.made c.args.heap.now c.heap.invariant c.heap.view_is n o h

pub returns-clause-counts : goal.returns-clause-counts
returns-clause-counts c = λ n o h. has_reference c.heap.inside.objects.slots c.heap.inside.made c.args.heap.now c.heap.invariant c.heap.view_is n o h

pub returns-clause-references : goal.returns-clause-references
returns-clause-references c = λ n o h. references_live c.heap.inside.objects.slots c.heap.inside.made c.args.heap.now c.heap.invariant c.heap.view_is n o h

pub returns-clause-held : goal.returns-clause-held
returns-clause-held c = counts_suffice c.heap.inside.objects.slots c.heap.inside.made c.args.heap.now c.heap.invariant c.heap.view_is
