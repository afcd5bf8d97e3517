use Rattle.px_exprs.proofs.grammar.Grammar.+conditional.Given as goal

abbrev pub decreases-conditional : goal.decreases-conditional
decreases-conditional g l = l.room
