use Rattle.px_compile.proofs.StatementParts.{none_of_one}
use Rattle.px_compile.proofs.statements.one_part.Goals as goal

pub returns-else-parts-eq1 : goal.returns-else-parts-eq1
returns-else-parts-eq1 c = none_of_one c.args.parts.now c.if-parts-eq1.false
