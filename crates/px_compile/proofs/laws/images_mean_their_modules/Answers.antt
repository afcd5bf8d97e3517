use Rattle.std.proofs.Common.{sym, subst}
use Rattle.px_code_laws.specs.Compiled.{IsCompiled}
use Rattle.px_types.specs.TypedModule.{module_kept}
use Rattle.px_compile.specs.ModuleImage.{module_image}
use Rattle.px_compile.proofs.ModuleFits.{is_compiled, same_source}
use Rattle.px_compile.proofs.laws.images_mean_their_modules.Goals as goal

pub returns-clause-code : goal.returns-clause-code
returns-clause-code c = λ typed is. subst (IsCompiled (module_image (module_kept typed))) (sym (same_source typed)) (is_compiled (module_kept typed) is)

pub returns-clause-meaning : goal.returns-clause-meaning
returns-clause-meaning c = λ typed is.
    c.code_means_its_module.ensures (module_image (module_kept typed)) _
    (subst (IsCompiled (module_image (module_kept typed))) (sym (same_source typed)) (is_compiled (module_kept typed) is))
