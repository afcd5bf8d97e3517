use Rattle.std.proofs.Common.{refl, ◌+◌, arith}
use Rattle.px_base.proofs.Facts.{denied}
use Rattle.px_lexer.specs.declared.spelling.Operator.TheVariants as sign
use Rattle.px_lexer.specs.declared.token_list.TokenKind.TheVariants as kind
use Rattle.px_tree.specs.declared.typings.Axis.TheVariants as axis
use Rattle.px_exprs.specs.Typings.{IsAxis}
use Rattle.px_lexer.specs.Terminals.{terminals_of}
use Rattle.px_exprs.proofs.TokenReading.{goes_on, one_goes_on}
use Rattle.px_lexer.proofs.TokenAccess.{length_terminals}
use Rattle.px_exprs.proofs.TypeReading.{no_axis, strided_stuck, not_one, contiguous, contiguous_stuck, ended_reads}
use Rattle.px_exprs.proofs.typings.axis.Goals as goal

pub returns-then-not-is_operator : goal.returns-then-not-is_operator
returns-then-not-is_operator c =
    let tokens = c.args.tokens.now in
    no_axis (terminals_of tokens) c.args.from (omega (arith, length_terminals tokens, c.requires.inside)) (denied c.is_operator.ensures c.if-not-is_operator.true)

pub returns-then-not-is_operator-2 : goal.returns-then-not-is_operator-2
returns-then-not-is_operator-2 c =
    let tokens = c.args.tokens.now in
    let from = c.args.from in
    let colon = c.is_operator.ensures.0 c.if-not-is_operator.false in
    let lt = goes_on tokens from (kind.Operator sign.Colon) c.requires.input colon (omega arith) in
    ended_reads (terminals_of tokens) from (from + 1) axis.Strided c.end_axis.result (IsAxis.strided colon refl (omega arith))
    (λ none. strided_stuck (terminals_of tokens) from (omega (arith, lt, length_terminals tokens)) colon (denied c.is_operator-2.ensures c.if-not-is_operator-2.true) none) c.end_axis.ensures

pub returns-then-not-is_one : goal.returns-then-not-is_one
returns-then-not-is_one c =
    let tokens = c.args.tokens.now in
    let from = c.args.from in
    let colon = c.is_operator.ensures.0 c.if-not-is_operator.false in
    let second = c.is_operator-2.ensures.0 c.if-not-is_operator-2.false in
    let lt = goes_on tokens (from + 1) (kind.Operator sign.Colon) c.requires.input second (omega arith) in
    not_one (terminals_of tokens) from (omega (arith, lt, length_terminals tokens)) colon second (denied c.is_one.ensures c.if-not-is_one.true)

pub returns : goal.returns
returns c =
    let tokens = c.args.tokens.now in
    let from = c.args.from in
    let colon = c.is_operator.ensures.0 c.if-not-is_operator.false in
    let second = c.is_operator-2.ensures.0 c.if-not-is_operator-2.false in
    let one = c.is_one.ensures.0 c.if-not-is_one.false in
    let lt = one_goes_on tokens (from + 2) c.requires.input one in
    ended_reads (terminals_of tokens) from (from + 3) axis.Contiguous c.end_axis-2.result (contiguous (terminals_of tokens) from colon second one)
    (λ none. contiguous_stuck (terminals_of tokens) from (omega (arith, lt, length_terminals tokens)) colon second one none) c.end_axis-2.ensures
