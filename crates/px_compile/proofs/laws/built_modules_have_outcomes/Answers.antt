use Rattle.std.proofs.Common.{sym, subst}
use Rattle.px_types.specs.TypedModule.{module_kept}
use Rattle.px_compile.specs.ModuleImage.{module_image, source_in}
use Rattle.px_compile.specs.ModuleRuns.{RunsToOutcome}
use Rattle.px_compile.proofs.ModuleFits.{is_compiled, same_source}
use Rattle.px_compile.proofs.NoReturns.{code_has_no_return}
use Rattle.px_compile.proofs.laws.built_modules_have_outcomes.Goals as goal

pub returns-clause-outcome : goal.returns-clause-outcome
returns-clause-outcome c = λ named found typed built input turns members.
    let image = module_image found in
    let compiled = is_compiled found built in
    c.compiled_modules_have_outcomes.ensures image (source_in found) compiled
    (code_has_no_return named found typed image compiled) input turns members

pub returns-clause-run : goal.returns-clause-run
returns-clause-run c = λ named typed has_types built input turns members.
    let found = module_kept typed in
    let image = module_image found in
    let source = source_in found in
    let compiled = is_compiled found built in
    let o = c.compiled_modules_have_outcomes.ensures image source compiled
    (code_has_no_return named found has_types image compiled) input turns members in
    subst (λ text. RunsToOutcome image text input turns members) (sym (same_source typed)) (record {
      outcome = o.outcome;
      means = o.is;
      gives = c.images_give_the_meaning.ensures image source input turns members o.outcome
          (c.code_means_its_module.ensures image source compiled) o.is;
    })
