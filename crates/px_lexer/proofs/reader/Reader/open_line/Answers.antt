use Rattle.std.proofs.Common.{◌≡◌, rules, ap, ◌∙◌}
use Rattle.std.specs.Prelude.{filter, nat_lt}
use Rattle.std.proofs.lemmas.Fn.{filter_same}
use Rattle.px_lexer.proofs.ReaderLemmas.{levels_with_own, levels_without_own}
use Rattle.px_lexer.specs.declared.reader.Reader.{Reader}
use Rattle.px_lexer.proofs.reader.Reader.open_line.Goals.{then-level-self+in_ok-push, else-level-self, then-level-gt0+in_ok-push-2, else-level-gt0}
use Rattle.px_lexer.proofs.reader.Reader.open_line.Goals as goal

pub returns-clause-levels : goal.returns-clause-levels
returns-clause-levels c =
    let kept : c.retain.new.self.items ≡ filter (λ l. nat_lt l c.args.level) c.if-level-self.self.levels.items =
    filter_same _ (λ l. nat_lt l c.args.level) _ (λ x b f' k. search rules) _ _ c.retain.ensures.filtered in
    let same : c.if-level-self.self.levels.items ≡ c.args.self.now.levels.items =
    elim c.if-level-self.branch [ then-level-self+in_ok-push w ↦ ap (λ (r : Reader). r.levels.items) w.self-is | else-level-self w ↦ ap (λ (r : Reader). r.levels.items) w.self-is ] in
    elim c.if-level-gt0.branch [
      | then-level-gt0+in_ok-push-2 w ↦ levels_with_own _ _ _ _ c.args.level kept same w.if-level-gt0.true (ap (λ (r : Reader). r.levels.items) w.self-is ∙ w.in_ok-push-2.ensures.items)
      | else-level-gt0 w ↦ ap (λ (r : Reader). r.levels.items) w.self-is ∙ levels_without_own _ _ _ c.args.level kept same w.if-level-gt0.false
    ]
