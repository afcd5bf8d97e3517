use Rattle.std.proofs.Common.{arith}
use Rattle.std.proofs.lemmas.Result.{err_from_is_err_and}
use Rattle.px_lexer.specs.declared.spelling.Keyword.TheVariants as word
use Rattle.px_lexer.specs.declared.spelling.Operator.TheVariants as sign
use Rattle.px_lexer.specs.declared.token_list.TokenKind.TheVariants as kind
use Rattle.px_exprs.proofs.TokenReading.{goes_on}
use Rattle.px_lexer.proofs.TokenAccess.{length_terminals}
use Rattle.px_exprs.proofs.AtomSteps.{enclosed_read, sizeof_unopened, sizeof_over, sizeof_refused, sizeof_atom}
use Rattle.px_exprs.proofs.atoms.sizeof.Goals as goal

pub overflow_add-from : goal.overflow_add-from
overflow_add-from c = omega (arith, goes_on c.args.tokens.now c.args.from (kind.Keyword word.Sizeof) c.requires.input c.requires.begins (omega arith), c.requires.input.few)

pub returns-in_err-type_from : goal.returns-in_err-type_from
returns-in_err-type_from c =
    let p = err_from_is_err_and c.from_residual.result c.from_residual.ensures.1 in
    rw (p.1, p.2) (sizeof_unopened c.args.tokens.now c.requires.input c.args.from c.args.room c.requires.begins c.in_err-type_from.field-0.0 c.in_err-type_from.ensures)

pub returns-in_err-room : goal.returns-in_err-room
returns-in_err-room c =
    let p = err_from_is_err_and c.from_residual-in_err-room.result c.from_residual-in_err-room.ensures.1 in
    rw (p.1, p.2) (sizeof_over c.requires.begins c.in_ok-type_from.ensures.1 c.in_err-room.field-0.0 c.in_err-room.ensures)

pub typing-requires-clause-inside : goal.typing-requires-clause-inside
typing-requires-clause-inside c =
    let behind = c.in_ok-type_from.ensures in
    omega (arith, behind.0, goes_on c.args.tokens.now _ (kind.Operator sign.OpenParenthesis) c.requires.input behind.1 (omega arith))

pub returns-in_err-typing : goal.returns-in_err-typing
returns-in_err-typing c =
    let p = err_from_is_err_and c.from_residual-in_err-typing.result c.from_residual-in_err-typing.ensures.1 in
    rw (p.1, p.2) (sizeof_refused c.requires.begins c.in_ok-type_from.ensures c.in_ok-room.ensures.1 c.in_err-typing.field-0.0 c.in_err-typing.ensures)

pub overflow_add-typing-2 : goal.overflow_add-typing-2
overflow_add-typing-2 c = omega (arith, c.in_ok-typing.ensures.within, length_terminals c.args.tokens.now, c.requires.input.few)

pub read_node-requires-clause-inside : goal.read_node-requires-clause-inside
read_node-requires-clause-inside c = omega (arith, goes_on c.args.tokens.now c.args.from (kind.Keyword word.Sizeof) c.requires.input c.requires.begins (omega arith))

pub returns : goal.returns
returns c =
    let node = c.read_node.ensures in
    let found = c.in_ok-typing.ensures in
    enclosed_read c.args.tokens.now c.requires.input (omega arith) found c.in_ok-room.ensures.1 node.3 node.4 (sizeof_atom node.1 c.requires.begins c.in_ok-type_from.ensures found node.2)
