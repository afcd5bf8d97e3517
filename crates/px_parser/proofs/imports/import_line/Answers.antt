use Rattle.std.proofs.Common.{ℕ, arith}
use Rattle.std.proofs.lemmas.Result.{err_from_is_err_and}
use Rattle.px_base.proofs.Facts.{denied}
use Rattle.px_lexer.specs.declared.token_list.TokenKind.TheVariants as kind
use Rattle.px_lexer.specs.Terminals.{terminals_of}
use Rattle.px_parser.specs.Readings.{IsReading}
use Rattle.px_parser.specs.Ends.{IsBefore}
use Rattle.px_parser.specs.ModuleGrammar.{WholeImport, PartImport}
use Rattle.px_parser.proofs.TokenShapes.{misread}
use Rattle.px_parser.proofs.ImportShapes.{SomeImport}
use Rattle.px_parser.proofs.ReadingSteps.{read_left, read_right, inside_tokens}
use Rattle.px_parser.proofs.ImportReading.{line_whole, line_part, line_unended, line_read}
use Rattle.px_parser.proofs.imports.import_line.Goals as goal
use Rattle.px_parser.proofs.imports.import_line.Goals.{then-is_keyword+in_ok-found, else-is_keyword+in_ok-found-2}

pub returns-in_err-found : goal.returns-in_err-found
returns-in_err-found c =
    let p = err_from_is_err_and c.from_residual.result c.from_residual.ensures.1 in
    λ room. rw (p.1, p.2) (line_part (terminals_of c.args.tokens.now) c.args.from room _ (c.is_keyword.ensures.0 c.if-is_keyword.true) (c.in_err-found.ensures room))

pub returns-in_err-found-2 : goal.returns-in_err-found-2
returns-in_err-found-2 c =
    let p = err_from_is_err_and c.from_residual-in_err-found-2.result c.from_residual-in_err-found-2.ensures.1 in
    λ room. rw (p.1, p.2) (line_whole (terminals_of c.args.tokens.now) c.args.from room _ (denied c.is_keyword.ensures c.if-is_keyword.false) (c.in_err-found-2.ensures room))

pub newline-requires-clause-inside : goal.newline-requires-clause-inside
newline-requires-clause-inside c =
    let some : (room : ℕ) → IsReading SomeImport (IsBefore kind.Newline) (terminals_of c.args.tokens.now) c.args.from room c.if-is_keyword.found.tree c.if-is_keyword.found.to = λ room. elim c.if-is_keyword.branch [
      | then-is_keyword+in_ok-found w ↦ rw w.found-is (read_right WholeImport (w.in_ok-found.ensures room))
      | else-is_keyword+in_ok-found-2 w ↦ rw w.found-is (read_left PartImport (w.in_ok-found-2.ensures room))
    ] in
    inside_tokens c.args.tokens.now c.if-is_keyword.found.to (some 0).within

pub returns-in_err-end : goal.returns-in_err-end
returns-in_err-end c =
    let some : (room : ℕ) → IsReading SomeImport (IsBefore kind.Newline) (terminals_of c.args.tokens.now) c.args.from room c.if-is_keyword.found.tree c.if-is_keyword.found.to = λ room. elim c.if-is_keyword.branch [
      | then-is_keyword+in_ok-found w ↦ rw w.found-is (read_right WholeImport (w.in_ok-found.ensures room))
      | else-is_keyword+in_ok-found-2 w ↦ rw w.found-is (read_left PartImport (w.in_ok-found-2.ensures room))
    ] in
    let p = err_from_is_err_and c.from_residual-in_err-end.result c.from_residual-in_err-end.ensures.1 in
    λ room. rw (p.1, p.2) (line_unended (terminals_of c.args.tokens.now) c.args.from c.if-is_keyword.found.to room c.if-is_keyword.found.tree _ (some room) (misread (c.in_err-end.ensures room)))

pub overflow_cast-result : goal.overflow_cast-result
overflow_cast-result c =
    let some : (room : ℕ) → IsReading SomeImport (IsBefore kind.Newline) (terminals_of c.args.tokens.now) c.args.from room c.if-is_keyword.found.tree c.if-is_keyword.found.to = λ room. elim c.if-is_keyword.branch [
      | then-is_keyword+in_ok-found w ↦ rw w.found-is (read_right WholeImport (w.in_ok-found.ensures room))
      | else-is_keyword+in_ok-found-2 w ↦ rw w.found-is (read_left PartImport (w.in_ok-found-2.ensures room))
    ] in
    let inside = inside_tokens c.args.tokens.now c.if-is_keyword.found.to (some 0).within in
    omega (arith, inside, c.requires.input.input.few)

pub returns : goal.returns
returns c =
    let some : (room : ℕ) → IsReading SomeImport (IsBefore kind.Newline) (terminals_of c.args.tokens.now) c.args.from room c.if-is_keyword.found.tree c.if-is_keyword.found.to = λ room. elim c.if-is_keyword.branch [
      | then-is_keyword+in_ok-found w ↦ rw w.found-is (read_right WholeImport (w.in_ok-found.ensures room))
      | else-is_keyword+in_ok-found-2 w ↦ rw w.found-is (read_left PartImport (w.in_ok-found-2.ensures room))
    ] in
    λ room. line_read (terminals_of c.args.tokens.now) c.args.from c.if-is_keyword.found.to _ room _ c.if-is_keyword.found.tree c.place.ensures (some room) (c.in_ok-end.ensures room)
