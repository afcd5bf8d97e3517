use Rattle.std.proofs.Common.{◌+◌, ◌<◌, ◌⊎◌, inl, inr, codes, length, arith}
use Rattle.std.proofs.lemmas.Result.{err_from_is_err_and}
use Rattle.px_base.proofs.Facts.{denied}
use Rattle.px_lexer.specs.Terminals.{IsName, terminals_of}
use Rattle.px_lexer.proofs.TokenAccess.{length_terminals}
use Rattle.px_parser.specs.Readings.{IsUnread, Anywhere}
use Rattle.px_parser.specs.StatementGrammar.{With, Block}
use Rattle.px_parser.proofs.TokenShapes.{misread}
use Rattle.px_parser.proofs.Steps.{fails}
use Rattle.px_exprs.specs.declared.readings.Unread.TheVariants as unread
use Rattle.px_parser.proofs.CompoundSteps.{step_with_word, step_with_lock, step_with_body, with_built, gil_lock, nogil_lock, lock_stuck, colon_inside}
use Rattle.px_parser.proofs.ReadingSteps.{name_goes_on}
use Rattle.px_parser.proofs.blocks.Statements.with_.Goals.{else-not-takes-via-then-not-takes+else-not-is_word, else-not-takes-via-else-not-takes, then-takes, else-takes}
use Rattle.px_parser.proofs.blocks.Statements.with_.Goals as goal

pub returns-in_err-word : goal.returns-in_err-word
returns-in_err-word g c =
    let p = err_from_is_err_and c.from_residual.result c.from_residual.ensures.1 in
    rw (p.1, p.2) (fails (step_with_word (terminals_of c.args.tokens.now) c.args.from c.args.room) c.in_err-word.field-0.0 (misread (c.in_err-word.ensures c.args.room)))

pub returns-then-not-is_word : goal.returns-then-not-is_word
returns-then-not-is_word g c = fails (step_with_lock (c.in_ok-word.ensures c.args.room)) (unread.Stuck c.in_ok-word.word.to) (lock_stuck (terminals_of c.args.tokens.now) c.in_ok-word.word.to c.args.room (c.in_ok-word.ensures c.args.room).within (denied c.is_word-takes.ensures c.if-not-takes.true) (denied c.is_word.ensures c.if-not-is_word.true))

pub overflow_add-word : goal.overflow_add-word
overflow_add-word g c = omega (arith, (c.in_ok-word.ensures c.args.room).within, c.requires.input.input.few, length_terminals c.args.tokens.now)

pub body-requires-clause-inside : goal.body-requires-clause-inside
body-requires-clause-inside g c =
    let named : IsName (terminals_of c.args.tokens.now) c.in_ok-word.word.to (codes "gil") ⊎ IsName (terminals_of c.args.tokens.now) c.in_ok-word.word.to (codes "nogil") = elim c.else-not-takes.branch [
      | else-not-takes-via-then-not-takes+else-not-is_word w ↦ inr (w.is_word.ensures.0 w.if-not-is_word.false)
      | else-not-takes-via-else-not-takes w ↦ inl (c.is_word-takes.ensures.0 w.if-not-takes.false)
    ] in
    let inside : c.in_ok-word.word.to + 1 < length c.args.tokens.now.list = elim named [
      | inl h ↦ name_goes_on c.args.tokens.now _ _ c.requires.input h (omega arith)
      | inr h ↦ name_goes_on c.args.tokens.now _ _ c.requires.input h (omega arith)
    ] in
    inside

pub returns-in_err-body : goal.returns-in_err-body
returns-in_err-body g c =
    let named : IsName (terminals_of c.args.tokens.now) c.in_ok-word.word.to (codes "gil") ⊎ IsName (terminals_of c.args.tokens.now) c.in_ok-word.word.to (codes "nogil") = elim c.else-not-takes.branch [
      | else-not-takes-via-then-not-takes+else-not-is_word w ↦ inr (w.is_word.ensures.0 w.if-not-is_word.false)
      | else-not-takes-via-else-not-takes w ↦ inl (c.is_word-takes.ensures.0 w.if-not-takes.false)
    ] in
    let p = err_from_is_err_and c.from_residual-in_err-body.result c.from_residual-in_err-body.ensures.1 in
    let refused : IsUnread (With Block) Anywhere (terminals_of c.args.tokens.now) c.args.from c.args.room c.in_err-body.field-0.0 = elim named [
      | inl h ↦ fails (step_with_body (c.in_ok-word.ensures c.args.room) (gil_lock c.args.tokens.now _ c.args.room c.requires.input h)) c.in_err-body.field-0.0 c.in_err-body.ensures
      | inr h ↦ fails (step_with_body (c.in_ok-word.ensures c.args.room) (nogil_lock c.args.tokens.now _ c.args.room c.requires.input h)) c.in_err-body.field-0.0 c.in_err-body.ensures
    ] in
    rw (p.1, p.2) refused

pub compound-tree-requires-clause-small : goal.compound-tree-requires-clause-small
compound-tree-requires-clause-small g c = omega (arith, colon_inside c.in_ok-body.ensures, c.requires.input.input.few, length_terminals c.args.tokens.now)

pub returns : goal.returns
returns g c =
    let named : IsName (terminals_of c.args.tokens.now) c.in_ok-word.word.to (codes "gil") ⊎ IsName (terminals_of c.args.tokens.now) c.in_ok-word.word.to (codes "nogil") = elim c.else-not-takes.branch [
      | else-not-takes-via-then-not-takes+else-not-is_word w ↦ inr (w.is_word.ensures.0 w.if-not-is_word.false)
      | else-not-takes-via-else-not-takes w ↦ inl (c.is_word-takes.ensures.0 w.if-not-takes.false)
    ] in
    elim c.if-takes.branch [
      | then-takes w ↦ with_built c.if-takes.form (c.in_ok-word.ensures c.args.room) (gil_lock c.args.tokens.now _ c.args.room c.requires.input (c.is_word-takes.ensures.0 w.if-takes.true)) c.in_ok-body.ensures c.compound-tree.ensures.1
          c.compound-tree.ensures.2 w.form-is
      | else-takes w ↦ (elim named [
        | inl h ↦ absurd (denied c.is_word-takes.ensures w.if-takes.false h)
        | inr h ↦ with_built c.if-takes.form (c.in_ok-word.ensures c.args.room) (nogil_lock c.args.tokens.now _ c.args.room c.requires.input h) c.in_ok-body.ensures c.compound-tree.ensures.1
            c.compound-tree.ensures.2 w.form-is
      ])
    ]
