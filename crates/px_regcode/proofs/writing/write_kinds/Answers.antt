use Rattle.std.proofs.Common.{[], ◌∷◌, ◌++◌, ap, ◌∙◌}
use Rattle.px_regcode.specs.Listing.{spaced}
use Rattle.px_base.specs.Lines.{kind_name}
use Rattle.px_regcode.proofs.Spacing.{word_more, words_end}
use Rattle.px_regcode.proofs.writing.write_kinds.Goals as goal

pub loop-kind-preserved : goal.loop-kind-preserved
loop-kind-preserved c =
    word_more kind_name c.args.kinds.now c.loop-kind.kind-index _
    c.loop-kind.text c.write_word.new.text _ c.loop-kind-test.true c.loop-kind.invariant
    (c.in_ok-write_word.ensures ∙ ap (λ w. c.loop-kind.text ++ spaced (w ∷ [])) c.kind_word.ensures)

pub returns : goal.returns
returns c = words_end kind_name c.args.kinds.now c.loop-kind.kind-index c.loop-kind.text _ c.loop-kind-test.false c.loop-kind.invariant
