use Rattle.std.proofs.lemmas.Result.{err_from_is_err_and}
use Rattle.std.proofs.Common.{arith}
use Rattle.px_lexer.specs.Terminals.{terminals_of}
use Rattle.px_lexer.proofs.TokenAccess.{length_terminals}
use Rattle.px_parser.proofs.MaybeTyped.{maybe_choice, choice_unread, choice_read, alone_reads}
use Rattle.px_base.proofs.Facts.{denied}
use Rattle.px_parser.proofs.typed.maybe_typed_name.Goals as goal

pub returns-then-not-begins_typed : goal.returns-then-not-begins_typed
returns-then-not-begins_typed c = λ room.
    let free = denied c.begins_typed.ensures c.if-not-begins_typed.true in
    alone_reads c.args.tokens.now c.args.from room c.name_behind.result maybe_choice c.requires.input.input c.requires.inside free (λ us v. absurd v) (λ us agree v. v) c.name_behind.ensures

pub returns-in_err-found : goal.returns-in_err-found
returns-in_err-found c = λ room.
    let tokens = c.args.tokens.now in
    let p = err_from_is_err_and c.from_residual.result c.from_residual.ensures.1 in
    let begins = c.begins_typed.ensures.0 c.if-not-begins_typed.false in
    rw (p.1, p.2) (choice_unread (terminals_of tokens) c.args.from room c.in_err-found.field-0.0 maybe_choice begins.0 begins.1 (omega (arith, length_terminals tokens, c.requires.inside)) (λ us agree v. v) (c.in_err-found.ensures room))

pub returns : goal.returns
returns c = λ room. choice_read (terminals_of c.args.tokens.now) c.args.from room c.in_ok-found.found.to c.in_ok-found.found.tree maybe_choice (c.in_ok-found.ensures room)
