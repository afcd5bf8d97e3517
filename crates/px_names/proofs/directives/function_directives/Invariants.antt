use Rattle.std.proofs.Common.{◌≡◌, drop}
use Rattle.std.specs.Prelude.{fold, filter_map}
use Rattle.px_names.specs.Comments.{with_setting}
use Rattle.px_names.specs.Kept.{names_in}
use Rattle.px_names.specs.NamedModule.{setting_of_decorator, function_directives}
use Rattle.px_names.proofs.directives.function_directives.Given as goal

abbrev pub invariant-loop-decorator : goal.invariant-loop-decorator
invariant-loop-decorator l = fold with_setting l.directives (filter_map (setting_of_decorator (names_in l.lookup)) (drop l.decorator-index l.function.decorators)) ≡ function_directives (names_in l.lookup) l.initial.directives l.function
