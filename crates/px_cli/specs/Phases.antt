-- What the phases make of a text, one after the other: its tokens, its module, what its names stand for, its types, and what a
-- command writes; or the refusal of the first phase whose rules it breaks.
use Rattle.std.specs.Prelude.{◌≡◌, ◌⊎◌, ℕ, List, Some, None, Ok, Err, codes}
use Rattle.px_base.specs.declared.refusals.Refusal.{Refusal}
use Rattle.px_base.specs.Findings.{IsFirst}
use Rattle.px_lexer.specs.declared.token_list.Tokens.{Tokens}
use Rattle.px_lexer.specs.Tokens.{IsTokens}
use Rattle.px_lexer.specs.Refusals.{BreaksText}
use Rattle.px_lexer.specs.Terminals.{terminals_of}
use Rattle.px_tree.specs.declared.modules.Module.{Module}
use Rattle.px_parser.specs.Parsing.{IsModuleOf, IsModuleRefused}
use Rattle.px_names.specs.declared.named.Named.{Named}
use Rattle.px_names.specs.NamedModule.{IsNamed}
use Rattle.px_names.specs.Rules.{BreaksNames}
use Rattle.px_types.specs.TypedModule.{ModuleTypes}
use Rattle.px_types.specs.Types.{types_of}
use Rattle.px_regcode.specs.Listing.{listing_of}
use Rattle.px_compile.specs.FitModules.{unbuilt_of}
use Rattle.px_compile.specs.ModuleImage.{module_image}
use Rattle.px_cli.specs.declared.words.Command.{Command}
use Rattle.px_cli.specs.declared.words.Command.TheVariants as commands
use Rattle.px_cli.specs.FirstMeaning.{Prints}
use Rattle.px_cli.specs.FirstRefusals.{IsUnbuilt}
use Rattle.px_cli.specs.LineEnds.{with_line_end}

-- these are the tokens of the text
pub record AreTokensOf (text : List ℕ) (tokens : Tokens) : Type 0 where
  pub kept : tokens.text ≡ text
  pub listed : IsTokens text tokens.list tokens.comments

-- the text is this module
pub record IsModuleText (text : List ℕ) (m : Module) : Type 0 where
  pub tokens : Tokens
  pub lexed : AreTokensOf text tokens
  pub parsed : IsModuleOf tokens m

-- the text is this module, which breaks no rule of names, and this is what its names stand for
pub record IsNamedText (text : List ℕ) (named : Named) : Type 0 where
  pub is_module : IsModuleText text named.«module»
  pub clean : IsFirst (BreaksNames named.«module») None
  pub names : IsNamed named.«module» named

-- what `check` writes of a module that is accepted
abbrev pub ok_line : List ℕ
ok_line = with_line_end (codes "ok")

-- its types don't fit, and it is refused so
pub record IsMistyped (named : Named) (refusal : Refusal) : Type 0 where
  pub answer : types_of named ≡ Err refusal
  pub rule : refusal.number ≡ 12

-- as far as types are built, those of the module fit
abbrev pub Fits : Named → Type 0
Fits named = (refusal : Refusal) → IsMistyped named refusal → ⊥

-- A command takes the module, and writes this. `check` takes it where it has types, `list` where it has code too.

abbrev pub WritesOk : Named → List ℕ → Type 0
WritesOk named output = (found : ModuleTypes) × (types_of named ≡ Ok found) × (output ≡ ok_line)

-- its types are these, each of its statements and functions has code, and this is the listing of its image
pub record WritesListing (named : Named) (output : List ℕ) : Type 0 where
  pub found : ModuleTypes
  pub typed : types_of named ≡ Ok found
  pub built : unbuilt_of found ≡ None
  pub listing : output ≡ listing_of (module_image found).codes (module_image found).constants

abbrev pub WritesPrinted : Named → List ℕ → Type 0
WritesPrinted named output = Fits named × Prints named.«module» output

abbrev pub Writes : Command → Named → List ℕ → Type 0
Writes commands.Check named output = WritesOk named output
Writes commands.List named output = WritesListing named output
Writes commands.Run named output = WritesPrinted named output

-- A command refuses the module so: `check` by E12, or E27 of a form whose types aren't built; `list` as `check`, or else by E27 of what
-- has no code; `run` by E12, or else E27 of what it doesn't run.

abbrev pub IsUntyped : Named → Refusal → Type 0
IsUntyped named refusal = types_of named ≡ Err refusal

-- it has types, and this is the first thing in it without code
pub record IsWithoutCode (named : Named) (refusal : Refusal) : Type 0 where
  pub found : ModuleTypes
  pub typed : types_of named ≡ Ok found
  pub unbuilt : unbuilt_of found ≡ Some refusal

abbrev pub IsNotListed : Named → Refusal → Type 0
IsNotListed named refusal = IsUntyped named refusal ⊎ IsWithoutCode named refusal

abbrev pub IsNotRun : Named → Refusal → Type 0
IsNotRun named refusal = IsMistyped named refusal ⊎ (Fits named × IsUnbuilt named.«module» refusal)

abbrev pub IsNotTaken : Command → Named → Refusal → Type 0
IsNotTaken commands.Check named refusal = IsUntyped named refusal
IsNotTaken commands.List named refusal = IsNotListed named refusal
IsNotTaken commands.Run named refusal = IsNotRun named refusal

-- the text is accepted: it is a module that breaks no rule and that the command takes, and this is written
pub record IsAccepted (command : Command) (text output : List ℕ) : Type 0 where
  pub named : Named
  pub is_named : IsNamedText text named
  pub writes : Writes command named output

-- the text is refused
pub data IsTextRefused (command : Command) (text : List ℕ) (refusal : Refusal) : Type 0 where
  -- E1 to E9 without E5 and E6: by the lexer
  no_tokens : IsFirst (BreaksText text) (Some refusal) → IsTextRefused command text refusal
  -- E27 at the first foreign word; E5 or E6 of the grammar
  no_module : (tokens : Tokens) → AreTokensOf text tokens → IsModuleRefused (terminals_of tokens) refusal
      → IsTextRefused command text refusal
  -- E10, E11, E13 or E27 of names
  bad_names : (m : Module) → IsModuleText text m → IsFirst (BreaksNames m) (Some refusal) → IsTextRefused command text refusal
  -- E12 where types don't fit, or E27 at what isn't built or has no code
  not_taken : (named : Named) → IsNamedText text named → IsNotTaken command named refusal → IsTextRefused command text refusal
