-- What the words of a command line ask for.
use Rattle.std.specs.Prelude.{◌≡◌, ◌≢◌, ℕ, List, [], ◌∷◌, ◌++◌, codes}
use Rattle.px_cli.specs.declared.words.Command.{Command}
use Rattle.px_cli.specs.declared.words.Command.TheVariants as commands

-- the word of a command
abbrev pub command_word : Command → List ℕ
command_word commands.Check = codes "check"
command_word commands.List = codes "list"
command_word commands.Run = codes "run"

-- The words ask for this command on this file: a name that is there and doesn't begin with the mark of an option.
pub record Asks (command : Command) (words : List (List ℕ)) (file : List ℕ) : Type 0 where
  pub spelled : words ≡ command_word command ∷ file ∷ []
  pub nonempty : file ≢ []
  pub no_option : (rest : List ℕ) → file ≢ codes "-" ++ rest

-- the commands that the call without a run serves, and all that are built

abbrev pub checking_commands : List Command
checking_commands = commands.Check ∷ commands.List ∷ []

abbrev pub all_commands : List Command
all_commands = commands.Check ∷ commands.List ∷ commands.Run ∷ []
