use Rattle.std.proofs.Common.{◌≡◌, ap, sym}
use Rattle.px_walk.specs.Roses.{head_of}
use Rattle.px_typed_walk.proofs.TypedEquations.{typed_is}
use Rattle.px_typed_walk.proofs.typed_node.TypedNode.head.Goals as goal

pub returns : goal.returns
returns c = sym (ap head_of (typed_is c.args.self.tree.now))
