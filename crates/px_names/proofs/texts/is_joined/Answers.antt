use Rattle.std.proofs.Common.{◌≡◌, ◌+◌, ◌++◌, length, drop, sym, ap, ◌∙◌}
use Rattle.std.specs.Prelude.{bytes_eq}
use Rattle.std.specs.List.{concat}
use Rattle.std.proofs.lemmas.List.{at_drop_more, take_rest}
use Rattle.px_names.proofs.Cuts.{joined_on, not_joined, too_long}
use Rattle.px_names.proofs.texts.is_joined.Goals.{then-content-rest-via-then-content-rest, then-content-rest-via-else-content-rest+then-not-is_spelled}
use Rattle.px_names.proofs.texts.is_joined.Goals as goal

pub returns-then-content-rest : goal.returns-then-content-rest
returns-then-content-rest c =
    let contents = c.args.contents.now in
    let rest = c.loop-content.rest.now in
    let k = c.loop-content.content-index in
    let content = c.as_slice-content.result.now in
    let more = concat (drop (k + 1) contents) in
    let split : concat (drop k contents) ≡ content ++ more =
    at_drop_more concat contents k c.content-item.result c.loop-content-test.true ∙ ap (λ x. x ++ more) (sym c.content-item.is ∙ sym c.as_slice-content.ensures) in
    elim c.then-content-rest.branch [
      | then-content-rest-via-then-content-rest w ↦
          sym (c.loop-content.invariant ∙ ap (bytes_eq rest) split ∙ too_long rest content more w.if-content-rest.true)
      | then-content-rest-via-else-content-rest+then-not-is_spelled w ↦
          sym (c.loop-content.invariant ∙ ap (bytes_eq rest) split
          ∙ not_joined rest content more w.if-content-rest.false (sym w.is_spelled.ensures ∙ w.if-not-is_spelled.true))
    ]

pub loop-content-preserved : goal.loop-content-preserved
loop-content-preserved c =
    let contents = c.args.contents.now in
    let rest = c.loop-content.rest.now in
    let k = c.loop-content.content-index in
    let content = c.as_slice-content.result.now in
    let more = concat (drop (k + 1) contents) in
    let split : concat (drop k contents) ≡ content ++ more =
    at_drop_more concat contents k c.content-item.result c.loop-content-test.true ∙ ap (λ x. x ++ more) (sym c.content-item.is ∙ sym c.as_slice-content.ensures) in
    c.loop-content.invariant ∙ ap (bytes_eq rest) split
    ∙ joined_on rest content more c.if-content-rest.false (sym c.is_spelled.ensures ∙ c.if-not-is_spelled.false)
    ∙ ap (λ r. bytes_eq r more) (sym (take_rest rest (length content)))
