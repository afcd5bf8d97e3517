use Rattle.std.proofs.Common.{◌≡◌, ap, sym, ◌∙◌}
use Rattle.px_typed_walk.specs.TypedView.{type_of}
use Rattle.px_typed_walk.proofs.TypedEquations.{typed_is}
use Rattle.px_typed_walk.proofs.trees.type_of.Goals as goal

pub returns : goal.returns
returns c = c.value_type.ensures ∙ sym (ap type_of (typed_is c.args.tree.now))
