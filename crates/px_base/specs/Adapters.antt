-- The outside over files and streams of the system: how often each failed, and the bytes where the stream tells them.
use Rattle.std.specs.Prelude.{◌≡◌, ℕ, Bool, true, false, ◌&&◌, ◌==◌, nat_lt, if◌then◌else◌, List, length, take, Option, Some, None, Result, Ok, Err, IfOk, IfSome, IsSomeAnd}
use Rattle.std.specs.IoError.{error_kind}
use Rattle.std.specs.declared.io.Error.{Error}
use Rattle.std.specs.declared.io.ErrorKind.{ErrorKind}
use Rattle.std.specs.declared.io.ErrorKind.TheVariants.{NotFound, NotADirectory, Interrupted, OutOfMemory}
use Rattle.px_base.specs.Memory.{one_more}
use Rattle.px_base.specs.Outside.{handed_limit}
use Rattle.px_base.specs.declared.outside.LibraryTrouble.{LibraryTrouble}
use Rattle.px_base.specs.declared.outside.LibraryTrouble.TheVariants as library
use Rattle.px_base.specs.declared.outside.SinkTrouble.{SinkTrouble}
use Rattle.px_base.specs.declared.outside.SinkTrouble.TheVariants as sink
use Rattle.px_base.specs.declared.refusals.Failed.{Failed}

-- an input: the bytes that are left, where the stream tells them
pub record InputState : Type 0 where
  pub left : Option (List ℕ)
  pub faults : ℕ

-- an output: the bytes that were taken, where the stream tells them
pub record OutputState : Type 0 where
  pub taken : Option (List ℕ)
  pub faults : ℕ

-- what a library answers where its file can't be opened, by the kind of the error: nothing is held where no file is there
abbrev pub answer_unopened : {X : Type 0} → ErrorKind → Result (Option X) LibraryTrouble
answer_unopened NotFound = Ok None
answer_unopened NotADirectory = Ok None
answer_unopened OutOfMemory = Err library.NoMemory
answer_unopened kind = Err library.Failed

-- What a library answers where this is what opening its file gave, for files that have so much left: a file that is there
-- is never one that isn't held, and where its bytes are known these are given, of more than the limit the first.
abbrev pub AnswersOpened : {F : Type 0} → (F → Option (List ℕ)) → Result F Error → Result (Option (List ℕ)) LibraryTrouble
    → Type 0
AnswersOpened remaining (Ok file) result =
    IfOk result (λ given. IsSomeAnd given (λ bytes. IfSome (remaining file) (λ all. bytes ≡ take handed_limit all)))
AnswersOpened remaining (Err error) result = result ≡ answer_unopened (error_kind error)

-- what a failed read of a file comes to, or nothing where a signal interrupted it
abbrev pub trouble_of_read : ErrorKind → Option LibraryTrouble
trouble_of_read Interrupted = None
trouble_of_read OutOfMemory = Some library.NoMemory
trouble_of_read kind = Some library.Failed

-- what a failed write comes to, or nothing where a signal interrupted it
abbrev pub trouble_of_write : ErrorKind → Option SinkTrouble
trouble_of_write Interrupted = None
trouble_of_write OutOfMemory = Some sink.NoMemory
trouble_of_write kind = Some sink.Failed

-- a library's count of faults after an answer: one more for Failed alone
abbrev pub faults_of_module : {X : Type 0} → ℕ → Result X LibraryTrouble → ℕ
faults_of_module faults (Err library.Failed) = one_more faults
faults_of_module faults (Err library.NoMemory) = faults
faults_of_module faults (Ok given) = faults

-- an input's count of faults after a read
abbrev pub faults_of_read : ℕ → Result ℕ Failed → ℕ
faults_of_read faults (Ok n) = faults
faults_of_read faults (Err trouble) = one_more faults

-- whether a write of the piece failed, or took nothing of a piece that has some
abbrev pub is_write_fault : List ℕ → Result ℕ SinkTrouble → Bool
is_write_fault piece (Ok n) = n == 0 && nat_lt 0 (length piece)
is_write_fault piece (Err sink.Failed) = true
is_write_fault piece (Err sink.NoMemory) = false

-- an output's count of faults after a write of the piece
abbrev pub faults_of_write : ℕ → List ℕ → Result ℕ SinkTrouble → ℕ
faults_of_write faults piece result = if is_write_fault piece result then one_more faults else faults
