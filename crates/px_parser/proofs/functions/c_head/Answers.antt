use Rattle.std.proofs.Common.{ℕ, ◌+◌, add-one, arith}
use Rattle.std.proofs.lemmas.Result.{err_from_is_err_and}
use Rattle.px_base.proofs.Facts.{denied}
use Rattle.px_lexer.specs.Terminals.{terminals_of}
use Rattle.px_parser.specs.Readings.{IsReading, Anywhere}
use Rattle.px_parser.specs.ModuleGrammar.{CWord}
use Rattle.px_parser.proofs.HeadReading.{IsInline, cdef_read, cpdef_read, c_head_stuck, c_head_unread, c_head_read}
use Rattle.px_parser.proofs.functions.c_head.Goals.{then-is_keyword, else-is_keyword+then-is_keyword-2, then-is_inline, else-is_inline}
use Rattle.px_parser.proofs.functions.c_head.Goals as goal

pub returns-else-is_keyword-2 : goal.returns-else-is_keyword-2
returns-else-is_keyword-2 c = λ room. c_head_stuck c.args.tokens.now c.args.from room c.requires.inside (denied c.is_keyword.ensures c.if-is_keyword.false) (denied c.is_keyword-else-is_keyword.ensures c.if-is_keyword-2.false)

pub returns-in_err-gives : goal.returns-in_err-gives
returns-in_err-gives c =
    let which : (room : ℕ) → IsReading CWord Anywhere (terminals_of c.args.tokens.now) c.args.from room c.if-is_keyword.kind (c.args.from + 1) = λ room. elim c.if-is_keyword.branch [
      | then-is_keyword w ↦ rw w.kind-is (cdef_read c.args.tokens.now c.args.from _ room c.requires.input (c.is_keyword.ensures.0 w.if-is_keyword.true) (add-one c.args.from))
      | else-is_keyword+then-is_keyword-2 w ↦ rw w.kind-is (cpdef_read c.args.tokens.now c.args.from _ room c.requires.input (w.is_keyword-else-is_keyword.ensures.0 w.if-is_keyword-2.true) (add-one c.args.from))
    ] in
    let inlined : IsInline (terminals_of c.args.tokens.now) (c.args.from + 1) c.is_keyword-is_inline.result c.if-is_inline.gives_from = elim c.if-is_inline.branch [
      | then-is_inline w ↦ rw w.gives_from-is (IsInline.inline w.if-is_inline.true (c.is_keyword-is_inline.ensures.0 w.if-is_inline.true) (omega arith))
      | else-is_inline w ↦ IsInline.plain w.if-is_inline.false (denied c.is_keyword-is_inline.ensures w.if-is_inline.false) w.gives_from-is
    ] in
    let p = err_from_is_err_and c.from_residual.result c.from_residual.ensures.1 in
    λ room. rw (p.1, p.2) (c_head_unread c.args.tokens.now c.args.from (c.args.from + 1) c.if-is_inline.gives_from room _ _ _ c.requires.input (which room) inlined (c.in_err-gives.ensures room))

pub returns : goal.returns
returns c =
    let which : (room : ℕ) → IsReading CWord Anywhere (terminals_of c.args.tokens.now) c.args.from room c.if-is_keyword.kind (c.args.from + 1) = λ room. elim c.if-is_keyword.branch [
      | then-is_keyword w ↦ rw w.kind-is (cdef_read c.args.tokens.now c.args.from _ room c.requires.input (c.is_keyword.ensures.0 w.if-is_keyword.true) (add-one c.args.from))
      | else-is_keyword+then-is_keyword-2 w ↦ rw w.kind-is (cpdef_read c.args.tokens.now c.args.from _ room c.requires.input (w.is_keyword-else-is_keyword.ensures.0 w.if-is_keyword-2.true) (add-one c.args.from))
    ] in
    let inlined : IsInline (terminals_of c.args.tokens.now) (c.args.from + 1) c.is_keyword-is_inline.result c.if-is_inline.gives_from = elim c.if-is_inline.branch [
      | then-is_inline w ↦ rw w.gives_from-is (IsInline.inline w.if-is_inline.true (c.is_keyword-is_inline.ensures.0 w.if-is_inline.true) (omega arith))
      | else-is_inline w ↦ IsInline.plain w.if-is_inline.false (denied c.is_keyword-is_inline.ensures w.if-is_inline.false) w.gives_from-is
    ] in
    λ room. c_head_read c.args.tokens.now c.args.from (c.args.from + 1) c.if-is_inline.gives_from _ room _ _ _ c.requires.input (which room) inlined (c.in_ok-gives.ensures room)
