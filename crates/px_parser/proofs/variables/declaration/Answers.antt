use Rattle.std.proofs.Common.{refl}
use Rattle.px_parser.proofs.variables.declaration.Goals as goal

pub returns : goal.returns
returns c = (c.place.result, c.place.ensures, refl)
