use Rattle.std.proofs.Common.{sym, ap, ◌∙◌}
use Rattle.std.specs.Prelude.{is_some}
use Rattle.px_names.specs.Kept.{names_kept}
use Rattle.px_names.proofs.MapSteps.{name_kept_after, new_name, old_name, none_of}
use Rattle.px_names.proofs.tables.Tables.define.Goals as goal

pub returns-then-is_some : goal.returns-then-is_some
returns-then-is_some c =
    let said = names_kept c.args.self.now in
    let there = ap (λ o. is_some o) (sym c.function.ensures) ∙ sym c.is_some.ensures ∙ c.if-is_some.true in
    λ i. record said { functions = λ n. old_name said.functions c.args.name.now c.args.defined there n i }

pub returns : goal.returns
returns c =
    let said = names_kept c.args.self.now in
    let none = sym c.function.ensures ∙ none_of c.function.result (sym c.is_some.ensures ∙ c.if-is_some.false) in
    λ i. record said {
      functions = λ n. (name_kept_after c.args.self.now.functions c.insert.new.self c.args.name c.args.defined c.in_ok-insert.ensures.updates n
          ∙ new_name said.functions c.args.name.now c.args.defined none n) i;
    }
