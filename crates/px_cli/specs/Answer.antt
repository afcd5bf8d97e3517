-- What a call of the program answers: a status, what it writes on the standard output and on the standard error.
use Rattle.std.specs.Prelude.{◌≡◌, ◌≢◌, ◌<◌, ◌≤◌, ◌⊎◌, ℕ, List, [], ◌++◌, Option, Some, None, Contains, length, codes}
use Rattle.std.specs.Io.KnownBytes.{Appends}
use Rattle.px_base.specs.declared.statuses.Status.{Status}
use Rattle.px_base.specs.declared.statuses.Status.TheVariants.{Done, Refused, Usage, Raised, Spent, ReadFault, WriteFault, NoMemory, NoFile, TooLarge}
use Rattle.px_base.specs.declared.refusals.Refusal.{Refusal}
use Rattle.px_base.specs.Lines.{refusal_text}
use Rattle.px_base.specs.Outside.{Rose, Grows}
use Rattle.px_cli.specs.declared.words.Command.{Command}
use Rattle.px_cli.specs.LineEnds.{with_line_end}
use Rattle.px_cli.specs.Phases.{IsAccepted, IsTextRefused}
use Rattle.px_cli.specs.Words.{Asks}

-- the greatest number of bytes of a module
abbrev pub module_limit : ℕ
module_limit = 1048576

abbrev pub usage_line : List ℕ
usage_line = with_line_end (codes "usage: pyxrun check FILE | list FILE | run FILE [--threads=T] [--turns=N] [--buffers] | simulate FILE --threads=T --seed=S [--turns=N] | generate SEED SIZE")

abbrev pub read_fault_line : List ℕ
read_fault_line = with_line_end (codes "read fault")

abbrev pub no_memory_line : List ℕ
no_memory_line = with_line_end (codes "out of memory")

abbrev pub too_large_line : List ℕ
too_large_line = with_line_end (codes "too large")

abbrev pub no_file_line : List ℕ → List ℕ
no_file_line file = with_line_end (codes "no such file: " ++ file)

-- The facts of a call: the commands that it serves, the command's words, the library's map where the library tells it, and the
-- library's counts of faults when the call begins and when it ends.
pub record Facts : Type 0 where
  pub commands : List Command
  pub words : List (List ℕ)
  pub map : Option (List ℕ → Option (List ℕ))
  pub faults_before : ℕ
  pub faults_after : ℕ

-- these facts
abbrev pub facts_of : List Command → List (List ℕ) → Option (List ℕ → Option (List ℕ)) → ℕ → ℕ → Facts
facts_of commands words map before after =
    record { commands = commands; words = words; map = map; faults_before = before; faults_after = after }

-- the words ask for this command on this file, and the call serves it
pub record IsAsked (facts : Facts) (command : Command) (file : List ℕ) : Type 0 where
  pub served : Contains facts.commands command
  pub asked : Asks command facts.words file

-- the library didn't fail in the call
abbrev pub IsUnbroken : Facts → Type 0
IsUnbroken facts = facts.faults_after ≡ facts.faults_before

-- the library's map has this for the name, where the library tells it
abbrev pub Holds : Option (List ℕ → Option (List ℕ)) → List ℕ → Option (List ℕ) → Type 0
Holds None file given = Unit {0}
Holds (Some map) file given = map file ≡ given

-- the file that is asked for is a module that isn't too large
pub record HasModule (facts : Facts) (command : Command) (file text : List ℕ) : Type 0 where
  pub asked : IsAsked facts command file
  pub content : Holds facts.map file (Some text)
  pub small : length text ≤ module_limit
  pub unbroken : IsUnbroken facts

-- the module is accepted, and the output of the command is written
pub record IsDone (facts : Facts) (out err : List ℕ) : Type 0 where
  pub command : Command
  pub file : List ℕ
  pub text : List ℕ
  pub has : HasModule facts command file text
  pub accepted : IsAccepted command text out
  pub silent : err ≡ []

-- the module is refused
pub record IsRefused (facts : Facts) (out err : List ℕ) : Type 0 where
  pub command : Command
  pub file : List ℕ
  pub text : List ℕ
  pub refusal : Refusal
  pub has : HasModule facts command file text
  pub refused : IsTextRefused command text refusal
  pub no_output : out ≡ []
  pub line : err ≡ with_line_end (refusal_text file refusal)

-- the words ask for nothing that the call serves
pub record IsUsage (facts : Facts) (out err : List ℕ) : Type 0 where
  pub unasked : (command : Command) (file : List ℕ) → IsAsked facts command file → ⊥
  pub unbroken : IsUnbroken facts
  pub no_output : out ≡ []
  pub line : err ≡ usage_line

-- the library failed
pub record IsReadFault (facts : Facts) (out err : List ℕ) : Type 0 where
  pub command : Command
  pub file : List ℕ
  pub asked : IsAsked facts command file
  pub cause : Rose facts.faults_before facts.faults_after
  pub no_output : out ≡ []
  pub line : err ≡ read_fault_line

-- the library doesn't hold the file
pub record IsNoFile (facts : Facts) (out err : List ℕ) : Type 0 where
  pub command : Command
  pub file : List ℕ
  pub asked : IsAsked facts command file
  pub absent : Holds facts.map file None
  pub unbroken : IsUnbroken facts
  pub no_output : out ≡ []
  pub line : err ≡ no_file_line file

-- the file has more bytes than a module may have
pub record IsTooLarge (facts : Facts) (out err : List ℕ) : Type 0 where
  pub command : Command
  pub file : List ℕ
  pub text : List ℕ
  pub asked : IsAsked facts command file
  pub content : Holds facts.map file (Some text)
  pub large : module_limit < length text
  pub unbroken : IsUnbroken facts
  pub no_output : out ≡ []
  pub line : err ≡ too_large_line

-- The answer of a call where nothing fails on the way out: which status comes, and what is written on each sink.
abbrev pub IsAnswer : Facts → Status → List ℕ → List ℕ → Type 0
IsAnswer facts Done out err = IsDone facts out err
IsAnswer facts Refused out err = IsRefused facts out err
IsAnswer facts Usage out err = IsUsage facts out err
IsAnswer facts Raised out err = ⊥
IsAnswer facts Spent out err = ⊥
IsAnswer facts ReadFault out err = IsReadFault facts out err
IsAnswer facts WriteFault out err = ⊥
IsAnswer facts NoMemory out err = ⊥
IsAnswer facts NoFile out err = IsNoFile facts out err
IsAnswer facts TooLarge out err = IsTooLarge facts out err

-- What a sink took in a call, where it tells, and its fault counts.
pub record Taking : Type 0 where
  pub before : Option (List ℕ)
  pub after : Option (List ℕ)
  pub faults_before : ℕ
  pub faults_after : ℕ

-- what a sink took from one moment to another, and its counts of faults then
abbrev pub taking_of : Option (List ℕ) → Option (List ℕ) → ℕ → ℕ → Taking
taking_of before after faults_before faults_after =
    record { before = before; after = after; faults_before = faults_before; faults_after = faults_after }

-- the sink took all of the text, a front of it, or nothing
abbrev pub TookAll : Taking → List ℕ → Type 0
TookAll sink text = Appends sink.before sink.after text

abbrev pub TookFront : Taking → List ℕ → Type 0
TookFront sink text = Grows sink.before sink.after text

abbrev pub TookNothing : Taking → Type 0
TookNothing sink = TookAll sink []

abbrev pub HasFailed : Taking → Type 0
HasFailed sink = Rose sink.faults_before sink.faults_after

-- no call of the sink failed
abbrev pub IsCalm : Taking → Type 0
IsCalm sink = sink.faults_after ≡ sink.faults_before

-- Each sink took all of the answer of the call, and no write failed.
pub record IsGiven (facts : Facts) (status : Status) (out err : Taking) : Type 0 where
  pub output : List ℕ
  pub line : List ℕ
  pub answer : IsAnswer facts status output line
  pub out_took : TookAll out output
  pub out_calm : IsCalm out
  pub err_took : TookAll err line
  pub err_calm : IsCalm err

-- the output sink failed with some of the output still to take, and nothing is tried on the other
pub record IsBrokenOutput (output : List ℕ) (out err : Taking) : Type 0 where
  pub some : output ≢ []
  pub out_took : TookFront out output
  pub out_failed : HasFailed out
  pub err_took : TookNothing err
  pub err_calm : IsCalm err

-- the output is written, and the error sink failed with some of the line still to take
pub record IsBrokenLine (output line : List ℕ) (out err : Taking) : Type 0 where
  pub some : line ≢ []
  pub out_took : TookAll out output
  pub out_calm : IsCalm out
  pub err_took : TookFront err line
  pub err_failed : HasFailed err

-- A sink failed in the middle of an answer.
pub record IsBroken (facts : Facts) (out err : Taking) : Type 0 where
  pub status : Status
  pub output : List ℕ
  pub line : List ℕ
  pub answer : IsAnswer facts status output line
  pub broken : IsBrokenOutput output out err ⊎ IsBrokenLine output line out err

-- the sink took a front of the text, and then a front of the line of want of memory
pub record TookTwoFronts (sink : Taking) (text : List ℕ) : Type 0 where
  pub between : Option (List ℕ)
  pub first : Grows sink.before between text
  pub second : Grows between sink.after no_memory_line

-- There was no memory for the answer: only the line of want of memory is tried.
pub record IsUnanswered (out err : Taking) : Type 0 where
  pub out_took : TookNothing out
  pub out_calm : IsCalm out
  pub err_took : TookFront err no_memory_line

-- the output sink had no memory with some of the output still to take
pub record IsCutOutput (output : List ℕ) (out err : Taking) : Type 0 where
  pub some : output ≢ []
  pub out_took : TookFront out output
  pub out_calm : IsCalm out
  pub err_took : TookFront err no_memory_line

-- the output is written, and the error sink had no memory with some of the line still to take
pub record IsCutLine (output line : List ℕ) (out err : Taking) : Type 0 where
  pub some : line ≢ []
  pub out_took : TookAll out output
  pub out_calm : IsCalm out
  pub err_took : TookTwoFronts err line

-- A sink had no memory in the middle of an answer; only the line of want of memory is tried behind that.
pub record IsCutShort (facts : Facts) (out err : Taking) : Type 0 where
  pub status : Status
  pub output : List ℕ
  pub line : List ℕ
  pub answer : IsAnswer facts status output line
  pub cut : IsCutOutput output out err ⊎ IsCutLine output line out err

-- The report of a call: its status, and what the two sinks took.
abbrev pub IsReport : Facts → Status → Taking → Taking → Type 0
IsReport facts WriteFault out err = IsBroken facts out err
IsReport facts NoMemory out err = IsUnanswered out err ⊎ IsCutShort facts out err
IsReport facts status out err = IsGiven facts status out err
