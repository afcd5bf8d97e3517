use Rattle.px_compile.proofs.StatementParts.{none_of_two}
use Rattle.px_compile.proofs.statements.two_parts.Goals as goal

pub returns-else-parts-eq2 : goal.returns-else-parts-eq2
returns-else-parts-eq2 c = none_of_two c.args.parts.now c.if-parts-eq2.false
