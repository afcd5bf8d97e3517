use Rattle.std.proofs.Common.{sym, ◌∙◌}
use Rattle.std.proofs.lemmas.Bool.{false≢true}
use Rattle.std.proofs.lemmas.Result.{err_from_is_err_and}
use Rattle.px_base.proofs.Facts.{denied}
use Rattle.px_lexer.specs.Terminals.{terminals_of}
use Rattle.px_parser.proofs.TargetsLoops.{target_refused, target_kept}
use Rattle.px_parser.proofs.targets.loop_target.Goals.{then-ends_loop_target, else-ends_loop_target}
use Rattle.px_parser.proofs.targets.loop_target.Goals as goal

pub returns-in_err-read : goal.returns-in_err-read
returns-in_err-read c =
    let p = err_from_is_err_and c.from_residual.result c.from_residual.ensures.1 in
    rw (p.1, p.2) (λ room. target_refused (terminals_of c.args.tokens.now) c.args.from room _ c.in_err-read.ensures)

pub returns : goal.returns
returns c =
    target_kept c.keep_if.result c.if-ends_loop_target.is_whole c.in_ok-read.ensures
    (λ whole. elim c.if-ends_loop_target.branch [
      | then-ends_loop_target w ↦ (w.is_target-is_whole.ensures.0 (sym w.is_whole-is ∙ whole), c.ends_loop_target.ensures.0 w.if-ends_loop_target.true)
      | else-ends_loop_target w ↦ absurd (false≢true (sym w.if-ends_loop_target.false ∙ sym w.is_whole-is ∙ whole))
    ])
    (λ partial target ends. elim c.if-ends_loop_target.branch [
      | then-ends_loop_target w ↦ false≢true (sym partial ∙ w.is_whole-is ∙ w.is_target-is_whole.ensures.1 target)
      | else-ends_loop_target w ↦ denied c.ends_loop_target.ensures w.if-ends_loop_target.false ends
    ])
    c.keep_if.ensures
