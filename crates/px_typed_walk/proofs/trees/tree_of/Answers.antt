use Rattle.std.proofs.Common.{◌≡◌, ap, ◌∙◌}
use Rattle.px_typed_walk.proofs.TypedEquations.{typed_is}
use Rattle.px_typed_walk.proofs.trees.tree_of.Goals as goal

pub returns : goal.returns
returns c = typed_is c.new.result ∙ cc
