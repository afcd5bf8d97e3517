-- Laws of texts and of reports: a text has one answer at most, a call in which nothing fails gives it, and what is listed is the code of
-- the module.
use Rattle.std.specs.Prelude.{◌≡◌, ◌⊎◌, ◌≤◌, ℕ, List, Option, Some, Ok, length}
use Rattle.px_base.specs.declared.statuses.Status.{Status}
use Rattle.px_base.specs.declared.statuses.Status.TheVariants.{Done, Refused, NoMemory}
use Rattle.px_base.specs.declared.refusals.Refusal.{Refusal}
use Rattle.px_base.specs.Lines.{refusal_text}
use Rattle.px_base.specs.Outside.{Rose}
use Rattle.px_tree.specs.declared.typed_modules.Typed.{Typed}
use Rattle.px_names.specs.declared.named.Named.{Named}
use Rattle.px_types.specs.TypedModule.{module_kept}
use Rattle.px_types.specs.Types.{types_of}
use Rattle.px_regcode.specs.Images.{ImageParts}
use Rattle.px_regcode.specs.Listing.{listing_of}
use Rattle.px_meaning.specs.Modules.{source_of}
use Rattle.px_machine.specs.Means.{Means}
use Rattle.px_cli.specs.declared.words.Command.{Command}
use Rattle.px_cli.specs.Answer.{Facts, HasFailed, IsAsked, IsReport, Taking, TookAll, TookNothing, module_limit}
use Rattle.px_cli.specs.LineEnds.{with_line_end}
use Rattle.px_cli.specs.Phases.{IsAccepted, IsTextRefused, WritesListing}

-- a command writes one output for a text, or has one refusal, and never both
pub record AnswersAreUnique : Type 0 where
  pub accepted : (command : Command) (text output other : List ℕ) → IsAccepted command text output → IsAccepted command text other
      → output ≡ other
  pub refused : (command : Command) (text : List ℕ) (refusal other : Refusal) → IsTextRefused command text refusal
      → IsTextRefused command text other → refusal ≡ other
  pub either : (command : Command) (text output : List ℕ) (refusal : Refusal) → IsAccepted command text output
      → IsTextRefused command text refusal → ⊥

-- The words ask for a command that the call serves, the library tells that it holds this text for the file, which isn't too large,
-- and no count of faults rose.
pub record IsCalmCall (facts : Facts) (out err : Taking) (command : Command) (file text : List ℕ) : Type 0 where
  pub map : List ℕ → Option (List ℕ)
  pub asked : IsAsked facts command file
  pub told : facts.map ≡ Some map
  pub held : map file ≡ Some text
  pub small : length text ≤ module_limit
  pub library : Rose facts.faults_before facts.faults_after → ⊥
  pub out_calm : HasFailed out → ⊥
  pub err_calm : HasFailed err → ⊥

-- a text that is accepted is done, and one that is refused is refused, but for want of memory
pub record CallsAreComplete : Type 0 where
  pub accepted : (facts : Facts) (status : Status) (out err : Taking) (command : Command) (file text output : List ℕ)
      → IsReport facts status out err → IsCalmCall facts out err command file text → IsAccepted command text output
      → ((status ≡ Done) × TookAll out output × TookNothing err) ⊎ (status ≡ NoMemory)
  pub refused : (facts : Facts) (status : Status) (out err : Taking) (command : Command) (file text : List ℕ) (refusal : Refusal)
      → IsReport facts status out err → IsCalmCall facts out err command file text → IsTextRefused command text refusal
      → ((status ≡ Refused) × TookNothing out × TookAll err (with_line_end (refusal_text file refusal))) ⊎ (status ≡ NoMemory)

-- the text is the listing of an image that means the module with this typed tree
pub record IsListingOf (typed : Typed) (output : List ℕ) : Type 0 where
  pub image : ImageParts
  pub listing : output ≡ listing_of image.codes image.constants
  pub meaning : Means image (source_of typed)

-- what `list` writes of a module is the listing of an image that means it
pub record ListingsMeanTheirModules : Type 0 where
  pub means : (named : Named) (typed : Typed) (output : List ℕ) → types_of named ≡ Ok (module_kept typed) → WritesListing named output
      → IsListingOf typed output
