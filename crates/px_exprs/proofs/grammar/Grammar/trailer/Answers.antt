use Rattle.std.proofs.Common.{subst, arith}
use Rattle.std.proofs.lemmas.Result.{err_from_is_err_and}
use Rattle.px_lexer.specs.declared.spelling.Operator.TheVariants as sign
use Rattle.px_lexer.specs.declared.token_list.TokenKind.TheVariants as kind
use Rattle.px_lexer.specs.Terminals.{IsOperator, terminals_of}
use Rattle.px_exprs.proofs.TokenReading.{goes_on}
use Rattle.px_lexer.proofs.TokenAccess.{length_terminals}
use Rattle.px_exprs.proofs.TrailerSteps.{not_begun, other_sign, no_trailer, call_over, subscript_over, call_refused, subscript_refused, called, subscripted}
use Rattle.px_exprs.proofs.grammar.Grammar.trailer.Goals as goal

pub returns-in_default : goal.returns-in_default
returns-in_default g c = no_trailer c.args.room (not_begun c.in_default.ensures) (omega (arith, c.requires.inside, length_terminals c.args.tokens.now))

pub returns-in_err-room-in-OpenParenthesis : goal.returns-in_err-room-in-OpenParenthesis
returns-in_err-room-in-OpenParenthesis g c =
    let p = err_from_is_err_and c.from_residual.result c.from_residual.ensures.1 in
    let open_ = subst (IsOperator (terminals_of c.args.tokens.now) c.args.from) c.in-OpenParenthesis.is c.in-Some.ensures in
    rw (p.1, p.2) (call_over c.args.room (omega (arith, c.requires.inside, length_terminals c.args.tokens.now)) open_ c.in_err-room-in-OpenParenthesis.field-0.0 c.in_err-room-in-OpenParenthesis.ensures)

pub arguments-requires-clause-inside : goal.arguments-requires-clause-inside
arguments-requires-clause-inside g c =
    let open_ = subst (IsOperator (terminals_of c.args.tokens.now) c.args.from) c.in-OpenParenthesis.is c.in-Some.ensures in
    omega (arith, goes_on c.args.tokens.now c.args.from (kind.Operator sign.OpenParenthesis) c.requires.input open_ (omega arith))

pub returns-in_err-found-in-OpenParenthesis : goal.returns-in_err-found-in-OpenParenthesis
returns-in_err-found-in-OpenParenthesis g c =
    let p = err_from_is_err_and c.from_residual-in_err-found-in-OpenParenthesis.result c.from_residual-in_err-found-in-OpenParenthesis.ensures.1 in
    let open_ = subst (IsOperator (terminals_of c.args.tokens.now) c.args.from) c.in-OpenParenthesis.is c.in-Some.ensures in
    rw (p.1, p.2) (call_refused open_ c.in_ok-room-in-OpenParenthesis.ensures.1 c.in_err-found-in-OpenParenthesis.field-0.0 c.in_err-found-in-OpenParenthesis.ensures)

pub overflow_add-result-in-OpenParenthesis : goal.overflow_add-result-in-OpenParenthesis
overflow_add-result-in-OpenParenthesis g c = omega (arith, c.in_ok-found-in-OpenParenthesis.ensures.within, length_terminals c.args.tokens.now, c.requires.input.few)

pub returns-in_err-room-in-OpenBracket : goal.returns-in_err-room-in-OpenBracket
returns-in_err-room-in-OpenBracket g c =
    let p = err_from_is_err_and c.from_residual-in_err-room-in-OpenBracket.result c.from_residual-in_err-room-in-OpenBracket.ensures.1 in
    let open_ = subst (IsOperator (terminals_of c.args.tokens.now) c.args.from) c.in-OpenBracket.is c.in-Some.ensures in
    rw (p.1, p.2) (subscript_over c.args.room (omega (arith, c.requires.inside, length_terminals c.args.tokens.now)) open_ c.in_err-room-in-OpenBracket.field-0.0 c.in_err-room-in-OpenBracket.ensures)

pub items-requires-clause-inside : goal.items-requires-clause-inside
items-requires-clause-inside g c =
    let open_ = subst (IsOperator (terminals_of c.args.tokens.now) c.args.from) c.in-OpenBracket.is c.in-Some.ensures in
    omega (arith, goes_on c.args.tokens.now c.args.from (kind.Operator sign.OpenBracket) c.requires.input open_ (omega arith))

pub returns-in_err-found-in-OpenBracket : goal.returns-in_err-found-in-OpenBracket
returns-in_err-found-in-OpenBracket g c =
    let p = err_from_is_err_and c.from_residual-in_err-found-in-OpenBracket.result c.from_residual-in_err-found-in-OpenBracket.ensures.1 in
    let open_ = subst (IsOperator (terminals_of c.args.tokens.now) c.args.from) c.in-OpenBracket.is c.in-Some.ensures in
    rw (p.1, p.2) (subscript_refused open_ c.in_ok-room-in-OpenBracket.ensures.1 c.in_err-found-in-OpenBracket.field-0.0 c.in_err-found-in-OpenBracket.ensures)

pub overflow_add-result-in-OpenBracket-2 : goal.overflow_add-result-in-OpenBracket-2
overflow_add-result-in-OpenBracket-2 g c = omega (arith, c.in_ok-found-in-OpenBracket.ensures.within, length_terminals c.args.tokens.now, c.requires.input.few)

pub returns-in_ok-found-in-OpenParenthesis : goal.returns-in_ok-found-in-OpenParenthesis
returns-in_ok-found-in-OpenParenthesis g c =
    let open_ = subst (IsOperator (terminals_of c.args.tokens.now) c.args.from) c.in-OpenParenthesis.is c.in-Some.ensures in
    called c.args.tokens.now c.requires.input open_ c.in_ok-room-in-OpenParenthesis.ensures.1 c.in_ok-found-in-OpenParenthesis.ensures

pub returns-in_ok-found-in-OpenBracket : goal.returns-in_ok-found-in-OpenBracket
returns-in_ok-found-in-OpenBracket g c =
    let open_ = subst (IsOperator (terminals_of c.args.tokens.now) c.args.from) c.in-OpenBracket.is c.in-Some.ensures in
    subscripted c.args.tokens.now c.requires.input open_ c.in_ok-room-in-OpenBracket.ensures.1 c.in_ok-found-in-OpenBracket.ensures

pub returns-in_default-sign : goal.returns-in_default-sign
returns-in_default-sign g c =
    let h = c.in_default-sign in
    no_trailer c.args.room (other_sign c.in-Some.ensures h.not-Point h.not-OpenParenthesis h.not-OpenBracket) (omega (arith, c.requires.inside, length_terminals c.args.tokens.now))
