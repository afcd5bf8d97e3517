-- Modules that have types and code have a meaning on each input, and their images run to it.
use Rattle.std.specs.Prelude.{◌≡◌, ℕ, List, Some, None, Ok}
use Rattle.px_tree.specs.declared.typed_modules.Typed.{Typed}
use Rattle.px_model.specs.declared.outcomes.Outcome.{Outcome}
use Rattle.px_regcode.specs.Images.{ImageParts}
use Rattle.px_meaning.specs.Calls.{Source}
use Rattle.px_meaning.specs.Modules.{source_of}
use Rattle.px_meaning.specs.OneWorld.{meaning_in}
use Rattle.px_machine.specs.OneWorld.{RunGives}
use Rattle.px_code_laws.specs.Outcomes.{HasOutcome}
use Rattle.px_names.specs.declared.named.Named.{Named}
use Rattle.px_types.specs.TypedModule.{ModuleTypes, module_kept}
use Rattle.px_types.specs.Types.{types_of}
use Rattle.px_compile.specs.FitModules.{unbuilt_of}
use Rattle.px_compile.specs.ModuleImage.{module_image, source_in}

-- a module that has types, and in which nothing is without code, has a meaning on each input
abbrev pub BuiltModulesHaveOutcomes : Type 0
BuiltModulesHaveOutcomes =
    (named : Named) (found : ModuleTypes) → types_of named ≡ Ok found → unbuilt_of found ≡ None
    → (input : List ℕ) (turns members : ℕ) → HasOutcome (source_in found) input turns members

-- what a module does on an input, to which the main member of an image runs
pub record RunsToOutcome (image : ImageParts) (source : Source) (input : List ℕ) (turns members : ℕ) : Type 0 where
  pub outcome : Outcome
  pub means : meaning_in source input turns members ≡ Some outcome
  pub gives : RunGives image source.names input turns members outcome

abbrev pub BuiltImagesRun : Type 0
BuiltImagesRun =
    (named : Named) (typed : Typed) → types_of named ≡ Ok (module_kept typed) → unbuilt_of (module_kept typed) ≡ None
    → (input : List ℕ) (turns members : ℕ) → RunsToOutcome (module_image (module_kept typed)) (source_of typed) input turns members
