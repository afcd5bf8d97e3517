use Rattle.std.proofs.Common.{Some, None, sym, ◌∙◌, subst}
use Rattle.px_names.specs.Contexts.{nodes_of}
use Rattle.px_names.specs.Declarations.{Names}
use Rattle.px_names.specs.Kept.{names_in}
use Rattle.px_names.specs.NamedModule.{IsCode, module_directives}
use Rattle.px_names.proofs.NameSteps.{found_first}
use Rattle.px_names.proofs.naming.checked_by.Goals as goal

pub returns-in-Some-clause-refused : goal.returns-in-Some-clause-refused
returns-in-Some-clause-refused c =
    found_first c.args.«module».now (names_in c.args.lookup.now) (Some c.in-Some.refusal) c.requires (sym c.in-Some.is ∙ c.in_ok-refusal.ensures)

pub returns-in_ok-parts-in-None-clause-code : goal.returns-in_ok-parts-in-None-clause-code
returns-in_ok-parts-in-None-clause-code c =
    let m = c.args.«module».now in
    subst (λ (names : Names). IsCode names None (nodes_of m) (module_directives m) c.in_ok-parts-in-None.parts.code) c.requires c.in_ok-parts-in-None.ensures.code

pub returns-in_ok-parts-in-None-clause-clean : goal.returns-in_ok-parts-in-None-clause-clean
returns-in_ok-parts-in-None-clause-clean c =
    found_first c.args.«module».now (names_in c.args.lookup.now) None c.requires (sym c.in-None.is ∙ c.in_ok-refusal.ensures)
