use Rattle.std.proofs.Common.{sym, ap, ◌∙◌}
use Rattle.std.specs.Prelude.{is_some}
use Rattle.px_names.specs.Kept.{names_kept}
use Rattle.px_names.proofs.MapSteps.{kept_after, new_first, old_first, none_of}
use Rattle.px_names.proofs.tables.Tables.declare.Goals as goal

pub returns-then-is_some : goal.returns-then-is_some
returns-then-is_some c =
    let said = names_kept c.args.self.now in
    let there = ap (λ o. is_some o) (sym c.declaration.ensures) ∙ sym c.is_some.ensures ∙ c.if-is_some.true in
    λ i. record said { declared = λ f n. old_first said.declared c.args.function c.args.name.now c.args.declared there f n i }

pub returns : goal.returns
returns c =
    let said = names_kept c.args.self.now in
    let none = sym c.declaration.ensures ∙ none_of c.declaration.result (sym c.is_some.ensures ∙ c.if-is_some.false) in
    λ i. record said {
      declared = λ f n. (kept_after c.args.self.now.declared c.insert.new.self (record { function = c.args.function; name = c.args.name }) c.args.declared c.in_ok-insert.ensures.updates f n
          ∙ new_first said.declared c.args.function c.args.name.now c.args.declared none f n) i;
    }
