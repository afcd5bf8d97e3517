-- What is answered for the bytes that the library hands over, before it is known what the library holds.
use Rattle.std.specs.Prelude.{◌≡◌, ◌<◌, ◌≤◌, ℕ, List, [], length}
use Rattle.px_base.specs.declared.statuses.Status.{Status}
use Rattle.px_base.specs.declared.statuses.Status.TheVariants.{Done, Refused, TooLarge}
use Rattle.px_base.specs.declared.refusals.Refusal.{Refusal}
use Rattle.px_base.specs.Lines.{refusal_text}
use Rattle.px_cli.specs.declared.words.Command.{Command}
use Rattle.px_cli.specs.Phases.{IsAccepted, IsTextRefused}
use Rattle.px_cli.specs.Answer.{module_limit, too_large_line}
use Rattle.px_cli.specs.LineEnds.{with_line_end}

abbrev pub IsModuleAnswer : Command → List ℕ → List ℕ → Status → List ℕ → List ℕ → Type 0
IsModuleAnswer command file text Done out err = IsAccepted command text out × (err ≡ []) × (length text ≤ module_limit)
IsModuleAnswer command file text Refused out err =
    (refusal : Refusal) × IsTextRefused command text refusal × (out ≡ []) × (err ≡ with_line_end (refusal_text file refusal))
    × (length text ≤ module_limit)
IsModuleAnswer command file text TooLarge out err = (module_limit < length text) × (out ≡ []) × (err ≡ too_large_line)
IsModuleAnswer command file text other out err = ⊥
