use Rattle.std.proofs.Common.{◌≡◌, ◌++◌, ◌+◌, length, refl, ap, sym, subst, ◌∙◌, arith}
use Rattle.std.proofs.lemmas.Bool.{ltb-false, ltb-true}
use Rattle.px_meaning.specs.Objects.{output_limit}
use Rattle.px_interp.specs.Texts.{IsLineOf, texts_in}
use Rattle.px_interp.proofs.PrintSteps.{row_printed, row_too_long, row_unprinted}
use Rattle.px_interp.proofs.interp.Interp.print.Goals as goal

pub returns-in-Ok-None-clause-row : goal.returns-in-Ok-None-clause-row
returns-in-Ok-None-clause-row c image =
    row_unprinted image c.args.arguments.now c.args.self.now c.args.registers.now c.requires.live
    (subst (IsLineOf (texts_in c.args.self.now.heap c.args.registers.now c.args.arguments.now)) c.in-Ok-None.field-0-is c.in-Ok-None.ensures)

pub returns-then-is_too_long-clause-row : goal.returns-then-is_too_long-clause-row
returns-then-is_too_long-clause-row c image =
    let output : c.self.inside.output ≡ c.args.self.now.output = ap (λ i. i.output) c.self.view_is in
    let long = ltb-true output_limit (c.len.result + c.len-2.result) (sym c.is_too_long.ensures ∙ c.if-is_too_long.true) in
    let printed : c.len.result ≡ length c.args.self.now.output = c.len.ensures ∙ ap length output in
    let more = c.len-2.ensures in
    row_too_long image c.args.arguments.now c.args.self.now _ c.args.registers.now c.in-Ok-Some.line c.requires.live
    (subst (IsLineOf (texts_in c.args.self.now.heap c.args.registers.now c.args.arguments.now)) c.in-Ok-Some.field-0-is c.in-Ok-Some.ensures)
    (omega (arith, long, printed, more)) refl

pub returns-clause-row : goal.returns-clause-row
returns-clause-row c image =
    let output : c.self.inside.output ≡ c.args.self.now.output = ap (λ i. i.output) c.self.view_is in
    let fits = ltb-false output_limit (c.len.result + c.len-2.result) (sym c.is_too_long.ensures ∙ c.if-is_too_long.false) in
    let printed : c.len.result ≡ length c.args.self.now.output = c.len.ensures ∙ ap length output in
    let more = c.len-2.ensures in
    row_printed image c.args.arguments.now c.args.self.now (record { heap = c.self.inside.heap; output = c.extend_from_slice.new.self }) c.args.registers.now c.in-Ok-Some.line c.requires.live
    (subst (IsLineOf (texts_in c.args.self.now.heap c.args.registers.now c.args.arguments.now)) c.in-Ok-Some.field-0-is c.in-Ok-Some.ensures)
    (omega (arith, fits, printed, more)) (ap (λ i. i.heap) c.self.view_is)
    (c.in_ok-extend_from_slice.ensures.ok ∙ ap (λ line. c.self.inside.output ++ line) c.as_slice.ensures ∙ ap (λ before. before ++ c.in-Ok-Some.line) output)
