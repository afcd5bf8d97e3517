use Rattle.std.proofs.Common.{refl, arith}
use Rattle.std.proofs.lemmas.Result.{err_from_is_err_and}
use Rattle.px_base.proofs.Facts.{denied}
use Rattle.px_lexer.specs.declared.spelling.Operator.TheVariants as sign
use Rattle.px_lexer.specs.declared.token_list.TokenKind.TheVariants as kind
use Rattle.px_exprs.proofs.TokenReading.{goes_on}
use Rattle.px_exprs.proofs.ItemSteps.{second_refused, third_refused, third_stuck, sliced, step_sliced}
use Rattle.px_exprs.proofs.grammar.Grammar.slice.Goals as goal

pub overflow_add-first : goal.overflow_add-first
overflow_add-first g c = omega (arith, goes_on c.args.tokens.now c.args.first.to (kind.Operator sign.Colon) c.requires.input c.requires.behind (omega arith), c.requires.input.few)

pub bound-requires-clause-inside : goal.bound-requires-clause-inside
bound-requires-clause-inside g c = omega (arith, goes_on c.args.tokens.now c.args.first.to (kind.Operator sign.Colon) c.requires.input c.requires.behind (omega arith))

pub returns-in_err-second : goal.returns-in_err-second
returns-in_err-second g c =
    let p = err_from_is_err_and c.from_residual.result c.from_residual.ensures.1 in
    rw (p.1, p.2) (second_refused c.requires.read c.requires.shallow c.requires.behind c.in_err-second.field-0.0 c.in_err-second.ensures)

pub returns-then-not-is_operator : goal.returns-then-not-is_operator
returns-then-not-is_operator g c =
    sliced c.requires.read c.requires.shallow c.requires.behind c.in_ok-second.ensures (denied c.is_operator.ensures c.if-not-is_operator.true)
    refl refl c.max.ensures

pub overflow_add-second : goal.overflow_add-second
overflow_add-second g c =
    let colon = c.is_operator.ensures.0 c.if-not-is_operator.false in
    omega (arith, goes_on c.args.tokens.now c.in_ok-second.second.to (kind.Operator sign.Colon) c.requires.input colon (omega arith), c.requires.input.few)

pub bound-requires-2-clause-inside : goal.bound-requires-2-clause-inside
bound-requires-2-clause-inside g c =
    let colon = c.is_operator.ensures.0 c.if-not-is_operator.false in
    omega (arith, goes_on c.args.tokens.now c.in_ok-second.second.to (kind.Operator sign.Colon) c.requires.input colon (omega arith))

pub returns-in_err-third : goal.returns-in_err-third
returns-in_err-third g c =
    let p = err_from_is_err_and c.from_residual-in_err-third.result c.from_residual-in_err-third.ensures.1 in
    let colon = c.is_operator.ensures.0 c.if-not-is_operator.false in
    rw (p.1, p.2) (third_refused c.requires.read c.requires.shallow c.requires.behind c.in_ok-second.ensures colon c.in_err-third.field-0.0 c.in_err-third.ensures)

pub returns-then-is_operator : goal.returns-then-is_operator
returns-then-is_operator g c =
    let colon = c.is_operator.ensures.0 c.if-not-is_operator.false in
    let other = c.is_operator-2.ensures.0 c.if-is_operator.true in
    third_stuck c.requires.read c.requires.shallow c.requires.behind c.in_ok-second.ensures colon c.in_ok-third.ensures other

pub returns : goal.returns
returns g c =
    let colon = c.is_operator.ensures.0 c.if-not-is_operator.false in
    let none = denied c.is_operator-2.ensures c.if-is_operator.false in
    step_sliced c.requires.read c.requires.shallow c.requires.behind c.in_ok-second.ensures colon c.in_ok-third.ensures none
    refl refl refl c.max-2.ensures c.max-3.ensures
