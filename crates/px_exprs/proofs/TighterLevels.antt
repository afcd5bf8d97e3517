-- The levels that are left at the end of the table of binary operators.
use Rattle.std.proofs.Common.{List, sym, subst}
use Rattle.px_exprs.specs.Grammar.{Level}
use Rattle.px_exprs.specs.Parts.{AreTighter}
use Rattle.px_exprs.proofs.Tables.{AreLevels, are_levels}
use Rattle.px_exprs.proofs.Telling.{AreWhole, are_whole}

pub tighter_levels : {levels : List Level} → AreTighter levels → AreLevels levels
tighter_levels (AreTighter.all e) = subst AreLevels (sym e) are_levels
tighter_levels (AreTighter.below t) = (tighter_levels t).1

pub tighter_whole : {levels : List Level} → AreTighter levels → AreWhole levels
tighter_whole (AreTighter.all e) = subst AreWhole (sym e) are_whole
tighter_whole (AreTighter.below t) = (tighter_whole t).1
