-- Each identifier is an expression.
use Rattle.std.proofs.Common.{refl}
use Rattle.px_exprs.specs.Grammar.{binary_levels, IsExpr, IsOr, IsAnd, IsNot, IsCompare, IsBinary, IsUnary, IsPrimary, IsAtom}
use Rattle.px_exprs.specs.Laws.{NamesAreExpressions}

pub names_are_expressions : NamesAreExpressions
unfolding binary_levels
names_are_expressions ts i at name placed spelled =
    IsExpr.plain (IsOr.one_and (IsAnd.one_not (IsNot.compared (IsCompare.one_operand
    (IsBinary.alone (IsBinary.alone (IsBinary.alone (IsBinary.alone (IsBinary.alone (IsBinary.alone
    (IsBinary.tightest (IsUnary.unsigned (IsPrimary.one_atom (IsAtom.name placed spelled refl))))))))))))))
