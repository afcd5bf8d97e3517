use Rattle.std.proofs.lemmas.Result.{err_from_is_err_and}
use Rattle.std.proofs.Common.{◌+◌, sym, subst}
use Rattle.px_base.proofs.Facts.{denied}
use Rattle.px_lexer.specs.Terminals.{terminals_of}
use Rattle.px_parser.proofs.VariableReading.{given_refused, given_none, given_some}
use Rattle.px_exprs.specs.Codes.{Past}
use Rattle.px_parser.specs.Readings.{IsReading}
use Rattle.px_parser.specs.StatementGrammar.{IsWithinLimit}
use Rattle.px_parser.proofs.variables.initial_value.Goals as goal

pub returns-then-not-is_operator : goal.returns-then-not-is_operator
returns-then-not-is_operator c = λ room. given_none c.args.tokens.now c.args.from room _ c.requires.inside (denied c.is_operator.ensures c.if-not-is_operator.true) c.keep_before_end.ensures

pub returns-in_err-value : goal.returns-in_err-value
returns-in_err-value c =
    let p = err_from_is_err_and c.from_residual.result c.from_residual.ensures.1 in
    let equal = c.is_operator.ensures.0 c.if-not-is_operator.false in
    λ room. rw (p.1, p.2) (given_refused (terminals_of c.args.tokens.now) c.args.from room _ equal (c.in_err-value.ensures room))

pub returns : goal.returns
returns c =
    let equal = c.is_operator.ensures.0 c.if-not-is_operator.false in
    λ room. given_some (terminals_of c.args.tokens.now) c.args.from room _ _ _ equal
    (subst (λ e. IsReading IsWithinLimit (Past 26) (terminals_of c.args.tokens.now) (c.args.from + 1) room e c.in_ok-value.value.to) (sym c.in_ok-value_tree.ensures) (c.in_ok-value.ensures room)) c.keep_before_end-2.ensures
