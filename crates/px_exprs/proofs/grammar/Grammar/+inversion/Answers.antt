use Rattle.std.proofs.Common.{◌<◌, length, arith}
use Rattle.std.proofs.lemmas.Result.{err_from_is_err_and}
use Rattle.px_base.proofs.Facts.{denied}
use Rattle.px_lexer.specs.declared.spelling.Keyword.TheVariants as word
use Rattle.px_lexer.specs.declared.token_list.TokenKind.TheVariants as kind
use Rattle.px_lexer.specs.Terminals.{terminals_of}
use Rattle.px_exprs.proofs.TokenReading.{goes_on}
use Rattle.px_lexer.proofs.TokenAccess.{length_terminals}
use Rattle.px_exprs.proofs.JunctionSteps.{nests_less, compared, not_over, not_refused, not_read}
use Rattle.px_exprs.proofs.grammar.Grammar.+inversion.Goals as goal

pub returns-then-not-is_keyword : goal.returns-then-not-is_keyword
returns-then-not-is_keyword g t c = compared _ _ _ (denied c.is_keyword.ensures c.if-not-is_keyword.true) _ c.comparison.ensures

pub returns-in_err-room : goal.returns-in_err-room
returns-in_err-room g t c =
    let p = err_from_is_err_and c.from_residual.result c.from_residual.ensures.1 in
    let within : c.args.from < length (terminals_of c.args.tokens.now) = omega (arith, c.requires.inside, length_terminals c.args.tokens.now) in
    rw (p.1, p.2) (not_over (c.is_keyword.ensures.0 c.if-not-is_keyword.false) within _ c.in_err-room.ensures)

pub inversion-requires : goal.inversion-requires
inversion-requires g t c κs within =
    let inside = goes_on c.args.tokens.now c.args.from (kind.Keyword word.Not) c.requires.input (c.is_keyword.ensures.0 c.if-not-is_keyword.false) (omega arith) in
    (omega (arith, c.in_ok-room.ensures.1, c.decreases), (within, (c.requires.input, (omega (arith, inside), nests_less c.requires.nests (omega (arith, c.in_ok-room.ensures.1))))))

pub returns-in_err-operand : goal.returns-in_err-operand
returns-in_err-operand g t c =
    let p = err_from_is_err_and c.from_residual-in_err-operand.result c.from_residual-in_err-operand.ensures.1 in
    rw (p.1, p.2) (not_refused (c.is_keyword.ensures.0 c.if-not-is_keyword.false) c.in_ok-room.ensures _ c.in_err-operand.ensures)

pub returns : goal.returns
returns g t c =
    let made = c.read_node.ensures in
    not_read (c.is_keyword.ensures.0 c.if-not-is_keyword.false) c.in_ok-room.ensures.1 c.in_ok-operand.ensures made.1 c.in_ok-new.ensures made.2 made.3 made.4
