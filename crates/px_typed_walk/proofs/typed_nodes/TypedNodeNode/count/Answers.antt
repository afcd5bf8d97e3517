use Rattle.std.proofs.Common.{◌≡◌, ap, sym, ◌∙◌, length}
use Rattle.px_walk.specs.Roses.{parts_of}
use Rattle.px_typed_walk.proofs.TypedEquations.{typed_is, count_is}
use Rattle.px_typed_walk.proofs.typed_nodes.TypedNodeNode.count.Goals as goal

pub returns : goal.returns
returns c = c.len.ensures ∙ sym (count_is c.args.self.tree.now)
