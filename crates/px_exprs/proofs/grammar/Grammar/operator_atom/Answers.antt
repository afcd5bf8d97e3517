use Rattle.px_exprs.proofs.AtomSteps.{operator_stuck}
use Rattle.px_exprs.proofs.grammar.Grammar.operator_atom.Goals as goal

pub returns-in_default : goal.returns-in_default
returns-in_default g c = operator_stuck c.args.operator c.requires.begins c.in_default.not-OpenParenthesis c.in_default.not-OpenBracket c.in_default.not-OpenBrace
