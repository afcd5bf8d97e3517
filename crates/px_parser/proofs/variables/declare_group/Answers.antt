use Rattle.std.proofs.Common.{arith}
use Rattle.std.proofs.lemmas.Result.{err_from_is_err_and}
use Rattle.px_lexer.specs.Terminals.{terminals_of}
use Rattle.px_parser.proofs.TokenShapes.{misread}
use Rattle.px_parser.proofs.TokenSteps.{reading_inside}
use Rattle.px_parser.proofs.DeclareReading.{group_word_refused, group_colon_refused, group_newline_refused, group_indent_refused, group_lines_refused, group_end_refused, group_read}
use Rattle.px_parser.proofs.variables.declare_group.Goals as goal

pub returns-in_err-word : goal.returns-in_err-word
returns-in_err-word c =
    let p = err_from_is_err_and c.from_residual.result c.from_residual.ensures.1 in
    λ room. rw (p.1, p.2) (group_word_refused (terminals_of c.args.tokens.now) c.args.from room _ (misread (c.in_err-word.ensures room)))

pub operator-requires-clause-inside : goal.operator-requires-clause-inside
operator-requires-clause-inside c = reading_inside c.args.tokens.now (c.in_ok-word.ensures 0)

pub returns-in_err-colon : goal.returns-in_err-colon
returns-in_err-colon c =
    let p = err_from_is_err_and c.from_residual-in_err-colon.result c.from_residual-in_err-colon.ensures.1 in
    λ room. rw (p.1, p.2) (group_colon_refused (terminals_of c.args.tokens.now) c.args.from _ room _ (c.in_ok-word.ensures room) (misread (c.in_err-colon.ensures room)))

pub newline-requires-clause-inside : goal.newline-requires-clause-inside
newline-requires-clause-inside c = reading_inside c.args.tokens.now (c.in_ok-colon.ensures 0)

pub returns-in_err-end : goal.returns-in_err-end
returns-in_err-end c =
    let p = err_from_is_err_and c.from_residual-in_err-end.result c.from_residual-in_err-end.ensures.1 in
    λ room. rw (p.1, p.2) (group_newline_refused (terminals_of c.args.tokens.now) c.args.from _ _ room _ (c.in_ok-word.ensures room) (c.in_ok-colon.ensures room) (misread (c.in_err-end.ensures room)))

pub indent-requires-clause-inside : goal.indent-requires-clause-inside
indent-requires-clause-inside c = reading_inside c.args.tokens.now (c.in_ok-end.ensures 0)

pub returns-in_err-deeper : goal.returns-in_err-deeper
returns-in_err-deeper c =
    let p = err_from_is_err_and c.from_residual-in_err-deeper.result c.from_residual-in_err-deeper.ensures.1 in
    λ room. rw (p.1, p.2) (group_indent_refused (terminals_of c.args.tokens.now) c.args.from _ _ _ room _ (record { cdef = c.in_ok-word.ensures room; colon = c.in_ok-colon.ensures room; newline = c.in_ok-end.ensures room }) (misread (c.in_err-deeper.ensures room)))

pub group_lines-requires-clause-inside : goal.group_lines-requires-clause-inside
group_lines-requires-clause-inside c = reading_inside c.args.tokens.now (c.in_ok-deeper.ensures 0)

pub returns-in_err-lines : goal.returns-in_err-lines
returns-in_err-lines c =
    let p = err_from_is_err_and c.from_residual-in_err-lines.result c.from_residual-in_err-lines.ensures.1 in
    λ room. rw (p.1, p.2) (group_lines_refused (terminals_of c.args.tokens.now) c.args.from _ _ _ _ room _ (record { cdef = c.in_ok-word.ensures room; colon = c.in_ok-colon.ensures room; newline = c.in_ok-end.ensures room }) (c.in_ok-deeper.ensures room) (c.in_err-lines.ensures room))

pub dedent-requires-clause-inside : goal.dedent-requires-clause-inside
dedent-requires-clause-inside c = reading_inside c.args.tokens.now (c.in_ok-lines.ensures 0)

pub returns-in_err-closing : goal.returns-in_err-closing
returns-in_err-closing c =
    let p = err_from_is_err_and c.from_residual-in_err-closing.result c.from_residual-in_err-closing.ensures.1 in
    λ room. rw (p.1, p.2) (group_end_refused (terminals_of c.args.tokens.now) c.args.from _ _ _ _ _ room _ _ (record { cdef = c.in_ok-word.ensures room; colon = c.in_ok-colon.ensures room; newline = c.in_ok-end.ensures room }) (c.in_ok-deeper.ensures room) (c.in_ok-lines.ensures room)
    (misread (c.in_err-closing.ensures room)))

pub overflow_cast-result : goal.overflow_cast-result
overflow_cast-result c = omega (arith, reading_inside c.args.tokens.now (c.in_ok-word.ensures 0), c.requires.input.input.few)

pub returns : goal.returns
returns c =
    λ room. group_read (terminals_of c.args.tokens.now) c.args.from _ _ _ _ _ _ room _ _ (record { cdef = c.in_ok-word.ensures room; colon = c.in_ok-colon.ensures room; newline = c.in_ok-end.ensures room }) (c.in_ok-deeper.ensures room) (c.in_ok-lines.ensures room)
    (c.in_ok-closing.ensures room) c.place.ensures
