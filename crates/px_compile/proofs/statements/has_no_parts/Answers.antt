use Rattle.std.proofs.Common.{◌∙◌}
use Rattle.px_compile.proofs.StatementParts.{empty_has_none}
use Rattle.px_compile.proofs.statements.has_no_parts.Goals as goal

pub returns : goal.returns
returns c = c.is_empty.ensures ∙ empty_has_none c.args.parts.now
