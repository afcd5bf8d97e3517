use Rattle.px_exprs.proofs.grammar.Grammar.+inversion.Given as goal

abbrev pub decreases-inversion : goal.decreases-inversion
decreases-inversion g l = l.room
