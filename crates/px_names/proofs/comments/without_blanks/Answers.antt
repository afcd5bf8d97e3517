use Rattle.std.proofs.Common.{◌≡◌, ◌<◌, length, drop, false, get_or, sym, ap, ◌∙◌, arith}
use Rattle.std.proofs.lemmas.List.{take_rest}
use Rattle.std.proofs.lemmas.List.Sums.{prefix_len_is}
use Rattle.px_names.specs.Comments.{is_blank}
use Rattle.px_names.proofs.comments.without_blanks.Goals.{then-loop-from-test+else-is_blank, else-loop-from-test}
use Rattle.px_names.proofs.comments.without_blanks.Goals as goal

pub returns : goal.returns
returns c =
    let text = c.args.text.now in
    let from = c.loop-from.from in
    let stops : from < length text → is_blank (get_or text from 0) ≡ false =
    elim c.loop-from-test.branch [
      | then-loop-from-test+else-is_blank w ↦ λ less. sym w.is_blank.ensures ∙ w.if-is_blank.false
      | else-loop-from-test w ↦ λ less. absurd (omega (arith, less, w.loop-from-test.false))
    ] in
    take_rest text from
    ∙ ap (λ n. drop n text) (sym (prefix_len_is is_blank text from 0 c.loop-from.invariant.within c.loop-from.invariant.blank stops))
