-- How the writing of a text ends.
use Rattle.std.specs.Prelude.{◌≢◌, ℕ, List, []}
use Rattle.px_cli.specs.Answer.{HasFailed, IsCalm, Taking, TookAll, TookFront}
use Rattle.px_cli.specs.declared.writing.Wrote.{Wrote}
use Rattle.px_cli.specs.declared.writing.Wrote.TheVariants.{All, Fault, NoMemory}

-- the sink took all of the text, or a front of it until a write failed or found no memory
abbrev pub IsWritten : Wrote → List ℕ → Taking → Type 0
IsWritten All text sink = TookAll sink text × IsCalm sink
IsWritten Fault text sink = (text ≢ []) × TookFront sink text × HasFailed sink
IsWritten NoMemory text sink = (text ≢ []) × TookFront sink text × IsCalm sink
