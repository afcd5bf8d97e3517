use Rattle.px_types.proofs.ModuleLaws.{same_types}
use Rattle.px_types.proofs.laws.typed_trees_are_unique.Goals as goal

pub returns : goal.returns
returns c = same_types
