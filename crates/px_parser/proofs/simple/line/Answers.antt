use Rattle.std.proofs.Common.{inl, inr, ◌+◌, refl, arith}
use Rattle.std.proofs.lemmas.Result.{err_from_is_err_and}
use Rattle.px_base.proofs.Facts.{denied}
use Rattle.px_lexer.specs.Terminals.{terminals_of}
use Rattle.px_parser.proofs.TokenShapes.{misread}
use Rattle.px_parser.proofs.Steps.{fails}
use Rattle.px_parser.proofs.SimpleShapes.{good_simple}
use Rattle.px_parser.proofs.LineSteps.{EndsLine, line_begins, line_first, line_next, line_more, line_newline, line_exit, ends_newline, ends_read}
use Rattle.px_parser.proofs.TokenSteps.{reading_inside}
use Rattle.px_parser.proofs.simple.line.Goals as goal
use Rattle.px_parser.proofs.simple.line.Goals.{then-loop-alloc-test+else-not-is_newline, else-loop-alloc-test, then-is_operator, else-is_operator}

pub returns-in_err-first : goal.returns-in_err-first
returns-in_err-first c =
    let p = err_from_is_err_and c.from_residual-in_err-first.result c.from_residual-in_err-first.ensures.1 in
    λ room. rw (p.1, p.2) (fails (line_first (terminals_of c.args.tokens.now) c.args.from room) _ (c.in_err-first.ensures room))

pub loop-alloc-init : goal.loop-alloc-init
loop-alloc-init c = rw (c.in_ok-push.ensures.ok, c.in_ok-tree.ensures) ((λ room. line_begins (c.in_ok-first.ensures room)), reading_inside c.args.tokens.now (c.in_ok-first.ensures 0))

pub returns-in_err-next : goal.returns-in_err-next
returns-in_err-next c =
    let p = err_from_is_err_and c.from_residual-in_err-next.result c.from_residual-in_err-next.ensures.1 in
    λ room. rw (p.1, p.2)
    (fails (line_next {p = c.loop-alloc.to + 1} (c.loop-alloc.invariant.0 room) (c.loop-alloc-test.ensures.0 refl) (omega arith) (denied c.if-not-is_newline.ensures refl)) _ (c.in_err-next.ensures room))

pub loop-alloc-smaller : goal.loop-alloc-smaller
loop-alloc-smaller c = omega (arith, good_simple.sound.forward (c.in_ok-next.ensures 0).derived, c.loop-alloc.invariant.1)

pub loop-alloc-preserved : goal.loop-alloc-preserved
loop-alloc-preserved c = rw c.in_ok-push-2.ensures.ok (
  (λ room. line_more {p = c.loop-alloc.to + 1} (c.loop-alloc.invariant.0 room) (c.loop-alloc-test.ensures.0 refl) (omega arith) (c.in_ok-next.ensures room)),
  reading_inside c.args.tokens.now (c.in_ok-next.ensures 0),
)

pub returns-in_err-end : goal.returns-in_err-end
returns-in_err-end c =
    let ts = terminals_of c.args.tokens.now in
    let p = err_from_is_err_and c.from_residual-in_err-end.result c.from_residual-in_err-end.ensures.1 in
    let ends : EndsLine ts c.loop-alloc.to c.if-is_operator.to =
    line_exit (elim c.loop-alloc-test.branch [
      | then-loop-alloc-test+else-not-is_newline w ↦ inl (w.loop-alloc-test.ensures.0 refl, w.if-not-is_newline.ensures.0 refl)
      | else-loop-alloc-test w ↦ inr (denied w.loop-alloc-test.ensures refl)
    ]) (elim c.if-is_operator.branch [
      | then-is_operator w ↦ inl (w.if-is_operator.ensures.0 refl, w.to-is)
      | else-is_operator w ↦ inr (denied w.if-is_operator.ensures refl, w.to-is)
    ]) in
    λ room. rw (p.1, p.2) (line_newline c.args.from room (ends_newline (c.loop-alloc.invariant.0 room) ends) _ (misread (c.in_err-end.ensures room)))

pub returns : goal.returns
returns c =
    let ts = terminals_of c.args.tokens.now in
    let ends : EndsLine ts c.loop-alloc.to c.if-is_operator.to =
    line_exit (elim c.loop-alloc-test.branch [
      | then-loop-alloc-test+else-not-is_newline w ↦ inl (w.loop-alloc-test.ensures.0 refl, w.if-not-is_newline.ensures.0 refl)
      | else-loop-alloc-test w ↦ inr (denied w.loop-alloc-test.ensures refl)
    ]) (elim c.if-is_operator.branch [
      | then-is_operator w ↦ inl (w.if-is_operator.ensures.0 refl, w.to-is)
      | else-is_operator w ↦ inr (denied w.if-is_operator.ensures refl, w.to-is)
    ]) in
    λ room. ends_read (c.loop-alloc.invariant.0 room) ends (c.in_ok-end.ensures room)
