-- What `list` writes of a module is the listing of an image that means it.
use Rattle.std.proofs.Common.{◌≡◌, ℕ, List, Ok, None, ap, ◌∙◌, subst}
use Rattle.px_tree.specs.declared.typed_modules.Typed.{Typed}
use Rattle.px_operators.specs.Outcomes.{Outcome}
use Rattle.px_types.specs.TypedModule.{ModuleTypes, module_kept}
use Rattle.px_types.specs.Types.{types_of}
use Rattle.px_regcode.specs.Listing.{listing_of}
use Rattle.px_meaning.specs.Modules.{source_of}
use Rattle.px_machine.specs.Means.{Means}
use Rattle.px_compile.specs.FitModules.{unbuilt_of}
use Rattle.px_compile.specs.ModuleImage.{module_image}
use Rattle.px_cli.specs.Laws.{ListingsMeanTheirModules}

-- the listing of the image of a module with these types
abbrev image_text : ModuleTypes → List ℕ
image_text found = listing_of (module_image found).codes (module_image found).constants

-- an outcome is one tree at most
pub same_types : {A : Type 0} {a b : A} (t : Outcome A) → t ≡ Ok a → t ≡ Ok b → a ≡ b
same_types t is again = cc

pub listings_mean : ((typed : Typed) → unbuilt_of (module_kept typed) ≡ None → Means (module_image (module_kept typed)) (source_of typed)) → ListingsMeanTheirModules
listings_mean means = record {
  means = λ named typed output is writes.
      let same : writes.found ≡ module_kept typed = same_types (types_of named) writes.typed is in
      record {
        image = module_image (module_kept typed);
        listing = writes.listing ∙ ap image_text same;
        meaning = means typed (subst (λ t. unbuilt_of t ≡ None) same writes.built);
      };
}
