use Rattle.std.proofs.Common.{refl, ◌+◌}
use Rattle.std.specs.Prelude.{option_map}
use Rattle.px_heap.specs.Heaps.{with_count}
use Rattle.px_heap.specs.Answers.{shared}
use Rattle.px_heap.proofs.Changing.{shared_heap, shared_sum}
use Rattle.px_heap.proofs.Methods.{count_is, full, has_key, has_now, kept_full, shared_full, shared_once}
use Rattle.px_heap.proofs.heap.Heap.share.Goals as goal

pub count_at-count-requires : goal.count_at-count-requires
count_at-count-requires c = has_key c.self.inside.objects.slots c.self.inside.made c.args.self.now c.args.of c.self.view_is c.requires

pub invariant_of-self : goal.invariant_of-self
invariant_of-self c =
    let u = c.set_count.ensures in
    shared_heap c.self.inside.objects.slots c.set_count.new.objects.slots c.self.inside.made c.args.self.now c.args.of c.self.invariant c.self.view_is c.requires u.others
    c.count_at-count.result u.changed c.count_at-count.ensures c.if-count-lt18446744073709551615.true

pub returns-then-count-lt18446744073709551615 : goal.returns-then-count-lt18446744073709551615
returns-then-count-lt18446744073709551615 c =
    let u = c.set_count.ensures in
    record {
      objects = has_now c.self.inside.objects.slots c.set_count.new.objects.slots c.self.inside.made c.args.self.now c.args.of c.self.invariant c.self.view_is c.requires
          (option_map (with_count (c.count_at-count.result + 1))) (option_map shared) u.changed u.others
          (λ o h. shared_once c.count_at-count.result o c.args.of.key (count_is _ o _ h c.count_at-count.ensures) c.if-count-lt18446744073709551615.true);
      inner = shared_sum c.self.inside.objects.slots c.set_count.new.objects.slots c.self.inside.made c.args.self.now c.args.of c.self.invariant c.self.view_is c.requires u.others
          c.count_at-count.result u.changed;
    }

pub returns-else-count-lt18446744073709551615 : goal.returns-else-count-lt18446744073709551615
returns-else-count-lt18446744073709551615 c = record {
  objects = kept_full c.self.inside.objects.slots c.self.inside.made c.args.self.now c.args.of (option_map shared) c.count_at-count.result c.self.view_is c.requires c.count_at-count.ensures
      (λ o e. shared_full o (full c.count_at-count.result o.count e c.if-count-lt18446744073709551615.false c.count_at-count.type_inv));
  inner = λ number. refl;
}
