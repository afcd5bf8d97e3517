use Rattle.std.proofs.Common.{◌≡◌, ap, sym}
use Rattle.px_walk.specs.Roses.{at_of}
use Rattle.px_typed_walk.proofs.TypedEquations.{typed_is}
use Rattle.px_typed_walk.proofs.trees.at_of.Goals as goal

pub returns : goal.returns
returns c = sym (ap at_of (typed_is c.args.tree.now))
