use Rattle.std.proofs.Common.{◌+◌, add-one, refl}
use Rattle.std.proofs.lemmas.Result.{err_from_is_err_and}
use Rattle.px_base.proofs.Facts.{denied}
use Rattle.px_lexer.specs.Terminals.{terminals_of}
use Rattle.px_parser.proofs.ReadingSteps.{inside_terminals}
use Rattle.px_parser.proofs.SignatureReading.{IsLocked, locked_nogil, locked_gil, lock_unread, lock_read, lock_stuck}
use Rattle.px_parser.proofs.functions.lock_form.Goals.{then-is_word, else-is_word+then-is_keyword+in_ok-word, else-is_word+else-is_keyword}
use Rattle.px_parser.proofs.functions.lock_form.Goals as goal

pub returns-in_err-word : goal.returns-in_err-word
returns-in_err-word c =
    let p = err_from_is_err_and c.from_residual.result c.from_residual.ensures.1 in
    λ room. rw (p.1, p.2) (lock_unread c.args.tokens.now c.args.from (c.args.from + 1) room _ c.requires.input (denied c.is_word.ensures c.if-is_word.false) (c.is_keyword.ensures.0 c.if-is_keyword.true) (add-one c.args.from) (c.in_err-word.ensures room))

pub returns-then-is_operator : goal.returns-then-is_operator
returns-then-is_operator c =
    let known : IsLocked (terminals_of c.args.tokens.now) c.args.from c.if-is_word.tree.0 c.if-is_word.tree.1 = elim c.if-is_word.branch [
      | then-is_word w ↦ rw w.tree-is (locked_nogil c.args.tokens.now c.args.from (c.args.from + 1) c.requires.input (c.is_word.ensures.0 w.if-is_word.true) (add-one c.args.from))
      | else-is_word+then-is_keyword+in_ok-word w ↦ rw w.tree-is (locked_gil c.args.tokens.now c.args.from (c.args.from + 1) _ c.requires.input (w.is_keyword.ensures.0 w.if-is_keyword.true) (add-one c.args.from) w.in_ok-word.ensures)
      | else-is_word+else-is_keyword w ↦ rw w.tree-is (IsLocked.unwritten refl refl (denied c.is_word.ensures w.if-is_word.false) (denied w.is_keyword.ensures w.if-is_keyword.false) (inside_terminals c.args.tokens.now c.args.from c.requires.inside))
    ] in
    λ room. lock_read (terminals_of c.args.tokens.now) c.args.from _ room _ known (c.is_operator.ensures.0 c.if-is_operator.true)

pub returns-else-is_operator : goal.returns-else-is_operator
returns-else-is_operator c =
    let known : IsLocked (terminals_of c.args.tokens.now) c.args.from c.if-is_word.tree.0 c.if-is_word.tree.1 = elim c.if-is_word.branch [
      | then-is_word w ↦ rw w.tree-is (locked_nogil c.args.tokens.now c.args.from (c.args.from + 1) c.requires.input (c.is_word.ensures.0 w.if-is_word.true) (add-one c.args.from))
      | else-is_word+then-is_keyword+in_ok-word w ↦ rw w.tree-is (locked_gil c.args.tokens.now c.args.from (c.args.from + 1) _ c.requires.input (w.is_keyword.ensures.0 w.if-is_keyword.true) (add-one c.args.from) w.in_ok-word.ensures)
      | else-is_word+else-is_keyword w ↦ rw w.tree-is (IsLocked.unwritten refl refl (denied c.is_word.ensures w.if-is_word.false) (denied w.is_keyword.ensures w.if-is_keyword.false) (inside_terminals c.args.tokens.now c.args.from c.requires.inside))
    ] in
    λ room. record { at = c.if-is_word.tree.1; is = refl; stuck = lock_stuck (terminals_of c.args.tokens.now) c.args.from _ room _ known (denied c.is_operator.ensures c.if-is_operator.false) }
