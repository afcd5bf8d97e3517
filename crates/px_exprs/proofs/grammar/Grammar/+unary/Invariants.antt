use Rattle.px_exprs.proofs.grammar.Grammar.+unary.Given as goal

abbrev pub decreases-unary : goal.decreases-unary
decreases-unary g l = l.room
