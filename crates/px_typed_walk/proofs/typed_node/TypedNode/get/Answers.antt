use Rattle.std.proofs.Common.{◌≡◌, ap, sym, ◌∙◌}
use Rattle.std.specs.Prelude.{option_map, option_copied}
use Rattle.px_typed_walk.specs.TypedView.{rose_of_typed}
use Rattle.px_typed_walk.proofs.TypedEquations.{part_is}
use Rattle.px_typed_walk.proofs.typed_node.TypedNode.get.Goals as goal

pub returns-in-Some : goal.returns-in-Some
returns-in-Some c =
    ap (option_map rose_of_typed) (ap option_copied (sym c.in-Some.is) ∙ c.get.ensures.value) ∙ sym (part_is c.args.self.tree.now c.args.k)

pub returns-in-None : goal.returns-in-None
returns-in-None c =
    ap (option_map rose_of_typed) (ap option_copied (sym c.in-None.is) ∙ c.get.ensures.value) ∙ sym (part_is c.args.self.tree.now c.args.k)
