use Rattle.px_types.specs.TypedModule.{module_kept}
use Rattle.px_compile.specs.ModuleImage.{module_image}
use Rattle.px_compile.proofs.ModuleFits.{is_compiled}
use Rattle.px_compile.proofs.laws.images_run.Goals as goal

pub returns : goal.returns
returns c = λ typed is. c.code_runs.ensures (module_image (module_kept typed)) _ (is_compiled (module_kept typed) is)
