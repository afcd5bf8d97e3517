use Rattle.std.proofs.Common.{◌<◌, length, arith}
use Rattle.std.proofs.lemmas.Result.{err_from_is_err_and}
use Rattle.px_base.proofs.Facts.{denied}
use Rattle.px_lexer.specs.declared.spelling.Operator.TheVariants as sign
use Rattle.px_lexer.specs.declared.token_list.TokenKind.TheVariants as kind
use Rattle.px_lexer.specs.Terminals.{terminals_of}
use Rattle.px_exprs.proofs.TokenReading.{goes_on}
use Rattle.px_lexer.proofs.TokenAccess.{length_terminals}
use Rattle.px_exprs.proofs.JunctionSteps.{nests_less}
use Rattle.px_exprs.proofs.UnarySteps.{read_primary, no_room_for_sign, no_room_for_cast, sign_refused, type_refused, cast_refused, sign_read, cast_read, sign_inside}
use Rattle.px_exprs.proofs.grammar.Grammar.+unary.Goals as goal

pub returns-in_err-room : goal.returns-in_err-room
returns-in_err-room g t c =
    let p = err_from_is_err_and c.from_residual.result c.from_residual.ensures.1 in
    let within : c.args.from < length (terminals_of c.args.tokens.now) = omega (arith, c.requires.inside, length_terminals c.args.tokens.now) in
    rw (p.1, p.2) (no_room_for_cast (c.is_operator.ensures.0 c.if-is_operator.true) within _ c.in_err-room.ensures)

pub typing-requires-clause-inside : goal.typing-requires-clause-inside
typing-requires-clause-inside g t c =
    let inside = goes_on c.args.tokens.now c.args.from (kind.Operator sign.Less) c.requires.input (c.is_operator.ensures.0 c.if-is_operator.true) (omega arith) in
    omega (arith, inside)

pub returns-in_err-typing : goal.returns-in_err-typing
returns-in_err-typing g t c =
    let p = err_from_is_err_and c.from_residual-in_err-typing.result c.from_residual-in_err-typing.ensures.1 in
    rw (p.1, p.2) (type_refused (c.is_operator.ensures.0 c.if-is_operator.true) c.in_ok-room.ensures.1 _ c.in_err-typing.ensures)

pub overflow_add-typing : goal.overflow_add-typing
overflow_add-typing g t c =
    let reading = c.in_ok-typing.ensures in
    omega (arith, reading.within, length_terminals c.args.tokens.now, c.requires.input.few)

pub unary-requires : goal.unary-requires
unary-requires g t c κs within =
    let inside = goes_on c.args.tokens.now c.in_ok-typing.typing.to (kind.Operator sign.Greater) c.requires.input c.in_ok-typing.ensures.stops (omega arith) in
    (omega (arith, c.in_ok-room.ensures.1, c.decreases), (within, (c.requires.input, (omega (arith, inside), nests_less c.requires.nests (omega (arith, c.in_ok-room.ensures.1))))))

pub returns-in_err-operand : goal.returns-in_err-operand
returns-in_err-operand g t c =
    let p = err_from_is_err_and c.from_residual-in_err-operand.result c.from_residual-in_err-operand.ensures.1 in
    rw (p.1, p.2) (cast_refused (c.is_operator.ensures.0 c.if-is_operator.true) c.in_ok-room.ensures.1 c.in_ok-typing.ensures _ c.in_err-operand.ensures)

pub returns-then-is_operator : goal.returns-then-is_operator
returns-then-is_operator g t c =
    let made = c.read_node.ensures in
    cast_read (c.is_operator.ensures.0 c.if-is_operator.true) c.in_ok-room.ensures.1 c.in_ok-typing.ensures c.in_ok-operand.ensures c.in_ok-new.ensures c.max-depth.ensures made.1 made.2 made.3 made.4

pub returns-in_default : goal.returns-in_default
returns-in_default g t c = read_primary _ (denied c.is_operator.ensures c.if-is_operator.false) c.in_default.ensures _ c.primary.ensures

pub returns-in_err-room-2 : goal.returns-in_err-room-2
returns-in_err-room-2 g t c =
    let p = err_from_is_err_and c.from_residual-in_err-room-2.result c.from_residual-in_err-room-2.ensures.1 in
    let within : c.args.from < length (terminals_of c.args.tokens.now) = omega (arith, c.requires.inside, length_terminals c.args.tokens.now) in
    rw (p.1, p.2) (no_room_for_sign c.in-Some.ensures within _ c.in_err-room-2.ensures)

pub unary-requires-2 : goal.unary-requires-2
unary-requires-2 g t c κs within =
    let inside = sign_inside c.args.tokens.now c.args.from c.requires.input c.in-Some.ensures in
    (omega (arith, c.in_ok-room-2.ensures.1, c.decreases), (within, (c.requires.input, (omega (arith, inside), nests_less c.requires.nests (omega (arith, c.in_ok-room-2.ensures.1))))))

pub returns-in_err-operand-2 : goal.returns-in_err-operand-2
returns-in_err-operand-2 g t c =
    let p = err_from_is_err_and c.from_residual-in_err-operand-2.result c.from_residual-in_err-operand-2.ensures.1 in
    rw (p.1, p.2) (sign_refused c.in-Some.ensures c.in_ok-room-2.ensures.1 _ c.in_err-operand-2.ensures)

pub returns : goal.returns
returns g t c =
    let made = c.read_node-2.ensures in
    sign_read c.in-Some.ensures c.in_ok-room-2.ensures.1 c.in_ok-operand-2.ensures c.in_ok-new-2.ensures made.1 made.2 made.3 made.4
