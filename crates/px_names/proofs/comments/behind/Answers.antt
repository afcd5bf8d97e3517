use Rattle.std.proofs.Common.{length, take, Some, sym, ap, ◌∙◌}
use Rattle.std.proofs.lemmas.List.{take_rest}
use Rattle.px_names.proofs.MapSteps.{name_order}
use Rattle.px_names.proofs.Cuts.{of_not, of_not_true, too_short, behind_there, behind_none}
use Rattle.px_names.proofs.comments.behind.Goals.{then-text-front-via-then-text-front, then-text-front-via-else-text-front+then-ne}
use Rattle.px_names.proofs.comments.behind.Goals as goal

pub returns-then-text-front : goal.returns-then-text-front
returns-then-text-front c =
    let front = c.args.front.now in
    let text = c.args.text.now in
    elim c.then-text-front.branch [
      | then-text-front-via-then-text-front w ↦ sym (behind_none front text (too_short front text w.if-text-front.true))
      | then-text-front-via-else-text-front+then-ne w ↦
          sym (behind_none front text (name_order front (take (length front) text) ∙ of_not_true _ (sym w.ne.ensures ∙ w.if-ne.true)))
    ]

pub returns : goal.returns
returns c =
    let front = c.args.front.now in
    let text = c.args.text.now in
    ap Some (take_rest text (length front)) ∙ sym (behind_there front text (of_not _ (sym c.ne.ensures ∙ c.if-ne.false)))
