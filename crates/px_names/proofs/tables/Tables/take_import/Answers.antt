use Rattle.std.proofs.Common.{Option, sym, ap, ◌∙◌}
use Rattle.std.specs.Prelude.{option_map, option_to_list}
use Rattle.px_names.specs.declared.imports.Given.{Given}
use Rattle.px_names.specs.Kept.{names_kept}
use Rattle.px_names.specs.Steps.{with_imports}
use Rattle.px_names.proofs.MapSteps.{name_kept_after}
use Rattle.px_names.proofs.tables.Tables.take_import.Goals as goal

pub returns : goal.returns
returns c =
    let names = names_kept c.args.self.now in
    (λ i. record names {
      imports = λ n. name_kept_after c.args.self.now.imports c.insert.new.self c.in-Some.given.name c.in-Some.given.what c.in_ok-insert.ensures.updates n i;
    })
    ∙ ap (λ (given : Option Given). with_imports names (option_to_list (option_map (λ g. (g.name.now, g.what)) given))) (sym c.in-Some.is)
