use Rattle.px_cli.proofs.ExpressionLemmas.{begins_told}
use Rattle.px_cli.proofs.expressions.begins_with_term.Goals as goal

pub returns-in-Some : goal.returns-in-Some
returns-in-Some c = begins_told c.args.links.now c.in-Some.link.now c.is_term.result c.in-Some.ensures.value c.is_term.ensures
