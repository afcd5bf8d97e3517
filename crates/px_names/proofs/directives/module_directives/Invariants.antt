use Rattle.std.proofs.Common.{◌≡◌, drop}
use Rattle.std.specs.Prelude.{fold, flat_map}
use Rattle.px_names.specs.Comments.{with_setting}
use Rattle.px_names.specs.NamedModule.{settings_of_comment, module_directives}
use Rattle.px_names.proofs.directives.module_directives.Given as goal

abbrev pub invariant-loop-comment : goal.invariant-loop-comment
invariant-loop-comment l = fold with_setting l.directives (flat_map settings_of_comment (drop l.comment-index l.«module».comments)) ≡ module_directives l.«module»
