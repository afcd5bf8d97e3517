use Rattle.std.proofs.Common.{◌≡◌, ap, sym, ◌∙◌, Some, None}
use Rattle.std.specs.Prelude.{option_map, option_copied}
use Rattle.px_heap.proofs.Keeping.{value_live}
use Rattle.px_heap.proofs.Methods.{named, value_read}
use Rattle.px_heap.proofs.heap.Heap.read.Goals as goal

pub unreachable-requires : goal.unreachable-requires
unreachable-requires c =
    let n = named c.self.inside.objects.slots c.self.inside.made c.args.self.now c.args.of c.self.view_is c.requires in
    let a : option_copied c.get.result ≡ Some n.object = c.get.ensures ∙ n.there in
    let b : option_copied c.get.result ≡ None = ap option_copied c.in-None.is in
    absurd (cc)

pub returns : goal.returns
returns c =
    let a : option_copied c.get.result ≡ Some c.in-Some.object.now = ap option_copied c.in-Some.is in
    let v = ap (option_map (λ o. o.value)) (sym c.get.ensures ∙ a) in
    record {
      value = value_read c.self.inside.objects.slots c.self.inside.made c.args.self.now c.args.of c.in-Some.object.now.value c.self.view_is c.requires v;
      live = value_live c.self.inside.objects.slots c.self.inside.made c.args.of.key c.args.self.now c.in-Some.object.now.value c.self.invariant c.self.view_is v;
    }
