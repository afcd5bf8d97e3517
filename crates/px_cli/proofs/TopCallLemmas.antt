-- From what the sinks took to the report of a call.
use Rattle.std.proofs.Common.{◌≡◌, ℕ, List, Option, sym, subst, inr}
use Rattle.px_base.specs.Outside.{Grows}
use Rattle.px_base.specs.declared.statuses.Status.{Status}
use Rattle.px_base.specs.declared.statuses.Status.TheVariants as s
use Rattle.px_cli.specs.Answer.{Facts, IsAnswer, IsCalm, IsGiven, IsReport, Taking, TookAll, no_memory_line}
use Rattle.px_cli.specs.Writing.{IsWritten}
use Rattle.px_cli.specs.declared.writing.Wrote.TheVariants as w

-- an answer that both sinks took is the report
given_report : (facts : Facts) (status : Status) (out err : Taking) → IsGiven facts status out err → IsReport facts status out err
given_report facts s.Done out err given = given
given_report facts s.Refused out err given = given
given_report facts s.Usage out err given = given
given_report facts s.Raised out err given = given
given_report facts s.Spent out err given = given
given_report facts s.ReadFault out err given = given
given_report facts s.WriteFault out err given = absurd given.answer
given_report facts s.NoMemory out err given = absurd given.answer
given_report facts s.NoFile out err given = given
given_report facts s.TooLarge out err given = given

-- the output is written: how the writing of the line ends
abbrev pub LineReport : Status → List ℕ → List ℕ → Status → Taking → Type 0
LineReport given output line told err = (facts : Facts) (out : Taking) → IsAnswer facts given output line → TookAll out output → IsCalm out → IsReport facts told out err

pub line_given : (given : Status) (output line piece : List ℕ) (err : Taking) → piece ≡ line → IsWritten w.All piece err → LineReport given output line given err
line_given given output line piece err whole (took, calm) = λ facts out answer out_took out_calm.
    given_report facts given out err (record { output = output; line = line; answer = answer; out_took = out_took; out_calm = out_calm; err_took = subst (TookAll err) whole took; err_calm = calm })

pub line_broken : (given : Status) (output line piece : List ℕ) (err : Taking) → piece ≡ line → IsWritten w.Fault piece err → LineReport given output line s.WriteFault err
line_broken given output line piece err whole written = λ facts out answer out_took out_calm.
    let (some, took, failed) = subst (λ (text : List ℕ). IsWritten w.Fault text err) whole written in
    record { status = given; output = output; line = line; answer = answer; broken = inr (record { some = some; out_took = out_took; out_calm = out_calm; err_took = took; err_failed = failed }) }

pub line_cut : (given told : Status) (output line piece : List ℕ) (before between after : Option (List ℕ)) (faults_before faults_between faults_after : ℕ) → told ≡ s.NoMemory → piece ≡ line →
    IsWritten w.NoMemory piece (record { before = before; after = between; faults_before = faults_before; faults_after = faults_between }) → Grows between after no_memory_line →
    LineReport given output line told (record { before = before; after = after; faults_before = faults_before; faults_after = faults_after })
line_cut given told output line piece before between after faults_before faults_between faults_after is whole written second = λ facts out answer out_took out_calm.
    let err : Taking = record { before = before; after = after; faults_before = faults_before; faults_after = faults_after } in
    let (some, took, calm) = subst (λ (text : List ℕ). IsWritten w.NoMemory text (record { before = before; after = between; faults_before = faults_before; faults_after = faults_between })) whole written in
    subst (λ (status : Status). IsReport facts status out err) (sym is)
    (inr (record { status = given; output = output; line = line; answer = answer; cut = inr (record { some = some; out_took = out_took; out_calm = out_calm; err_took = record { between = between; first = took; second = second } }) }))
