-- A call in which nothing fails is done or refused as its text is accepted or refused.
use Rattle.std.proofs.Common.{◌≡◌, ℕ, List, Option, Some, None, length, arith, refl, sym, ap, ◌∙◌, subst, inl, inr, ◌⊎◌}
use Rattle.px_base.specs.declared.refusals.Refusal.{Refusal}
use Rattle.px_base.specs.declared.statuses.Status.{Status}
use Rattle.px_base.specs.declared.statuses.Status.TheVariants as s
use Rattle.px_base.specs.Lines.{refusal_text}
use Rattle.px_cli.specs.declared.words.Command.{Command}
use Rattle.px_cli.specs.Answer.{Facts, Holds, IsAsked, IsGiven, IsReport, Taking, TookAll, TookNothing}
use Rattle.px_cli.specs.LineEnds.{with_line_end}
use Rattle.px_cli.specs.Phases.{IsAccepted, IsTextRefused}
use Rattle.px_cli.specs.Laws.{AnswersAreUnique, CallsAreComplete, IsCalmCall}
use Rattle.px_cli.proofs.CommandLemmas.{one_command}

-- what a library that tells its map holds
held_so : {map : List ℕ → Option (List ℕ)} {file name : List ℕ} {text given : Option (List ℕ)} (facts : Facts) → facts.map ≡ Some map → map file ≡ text → name ≡ file → Holds facts.map name given → given ≡ text
held_so {map} {file} {name} {text} {given} facts told held same holds =
    let has : map name ≡ given = subst (λ m. Holds m name given) told holds in
    sym has ∙ ap map same ∙ held

some_same : {a b : List ℕ} → Some a ≡ Some b → a ≡ b
some_same e = cc

-- a call asks for one command on one file, of which the library holds one text
record IsSameCall (command other : Command) (file name text content : List ℕ) : Type 0 where
  pub commands : other ≡ command
  pub files : name ≡ file
  pub texts : content ≡ text

same_call : {facts : Facts} {out err : Taking} {command other : Command} {file name text content : List ℕ} → IsCalmCall facts out err command file text → IsAsked facts other name → Holds facts.map name (Some content) → IsSameCall command other file name text content
same_call {facts} calm asked holds =
    let same = one_command asked.asked calm.asked.asked in
    record { commands = same.0; files = same.1; texts = some_same (held_so facts calm.told calm.held same.1 holds) }

-- the reports that are left where nothing fails
data CalmReport (facts : Facts) (out err : Taking) (status : Status) : Type 0 where
  as_done : status ≡ s.Done → IsGiven facts s.Done out err → CalmReport facts out err status
  as_refused : status ≡ s.Refused → IsGiven facts s.Refused out err → CalmReport facts out err status
  as_unanswered : status ≡ s.NoMemory → CalmReport facts out err status

none_or_some : {text : List ℕ} → None ≡ Some text → ⊥
none_or_some e = absurd cc

calm_report : {facts : Facts} {out err : Taking} {command : Command} {file text : List ℕ} (status : Status) → IsCalmCall facts out err command file text → IsReport facts status out err → CalmReport facts out err status
calm_report s.Done calm given = CalmReport.as_done refl given
calm_report s.Refused calm given = CalmReport.as_refused refl given
calm_report {command = command} {file = file} s.Usage calm given = absurd (given.answer.unasked command file calm.asked)
calm_report s.Raised calm given = absurd given.answer
calm_report s.Spent calm given = absurd given.answer
calm_report s.ReadFault calm given = absurd (calm.library given.answer.cause)
calm_report s.WriteFault calm given = absurd (elim (given.broken) [ inl b ↦ calm.out_calm b.out_failed | inr b ↦ calm.err_calm b.err_failed ])
calm_report s.NoMemory calm given = CalmReport.as_unanswered refl
calm_report {facts} s.NoFile calm given =
    let same = one_command given.answer.asked.asked calm.asked.asked in
    absurd (none_or_some (held_so facts calm.told calm.held same.1 given.answer.absent))
calm_report s.TooLarge calm given =
    let same = same_call calm given.answer.asked given.answer.content in
    absurd (omega (arith, given.answer.large, calm.small, ap length same.texts))

accepted_as : {command other : Command} {file name text content output : List ℕ} → IsSameCall command other file name text content → IsAccepted other content output → IsAccepted command text output
accepted_as {command} {content = content} {output = output} same h = subst (λ t. IsAccepted command t output) same.texts (subst (λ c. IsAccepted c content output) same.commands h)

refused_as : {command other : Command} {file name text content : List ℕ} {refusal : Refusal} → IsSameCall command other file name text content → IsTextRefused other content refusal → IsTextRefused command text refusal
refused_as {command} {content = content} {refusal = refusal} same h = subst (λ t. IsTextRefused command t refusal) same.texts (subst (λ c. IsTextRefused c content refusal) same.commands h)

accepted_done : {facts : Facts} {status : Status} {out err : Taking} {command : Command} {file text output : List ℕ} → AnswersAreUnique → IsCalmCall facts out err command file text → IsAccepted command text output → CalmReport facts out err status
    → ((status ≡ s.Done) × TookAll out output × TookNothing err) ⊎ (status ≡ s.NoMemory)
accepted_done {out = out} {err = err} {command = command} {text = text} {output = output} unique calm accepted (CalmReport.as_done is given) =
    let done = given.answer in
    let same = same_call calm done.has.asked done.has.content in
    let outputs : given.output ≡ output = unique.accepted command text given.output output (accepted_as same done.accepted) accepted in
    inl (is, subst (TookAll out) outputs given.out_took, subst (TookAll err) done.silent given.err_took)
accepted_done {command = command} {text = text} {output = output} unique calm accepted (CalmReport.as_refused is given) =
    let refused = given.answer in
    let same = same_call calm refused.has.asked refused.has.content in
    absurd (unique.either command text output refused.refusal accepted (refused_as same refused.refused))
accepted_done unique calm accepted (CalmReport.as_unanswered is) = inr is

refused_told : {facts : Facts} {status : Status} {out err : Taking} {command : Command} {file text : List ℕ} {refusal : Refusal} → AnswersAreUnique → IsCalmCall facts out err command file text → IsTextRefused command text refusal → CalmReport facts out err status
    → ((status ≡ s.Refused) × TookNothing out × TookAll err (with_line_end (refusal_text file refusal))) ⊎ (status ≡ s.NoMemory)
refused_told {command = command} {text = text} {refusal = refusal} unique calm refused (CalmReport.as_done is given) =
    let done = given.answer in
    let same = same_call calm done.has.asked done.has.content in
    absurd (unique.either command text given.output refusal (accepted_as same done.accepted) refused)
refused_told {out = out} {err = err} {command = command} {file = file} {text = text} {refusal = refusal} unique calm refused (CalmReport.as_refused is given) =
    let told = given.answer in
    let same = same_call calm told.has.asked told.has.content in
    let refusals : told.refusal ≡ refusal = unique.refused command text told.refusal refusal (refused_as same told.refused) refused in
    let lines : given.line ≡ with_line_end (refusal_text file refusal) =
    told.line ∙ ap (λ name. with_line_end (refusal_text name told.refusal)) same.files ∙ ap (λ r. with_line_end (refusal_text file r)) refusals in
    inl (is, subst (TookAll out) told.no_output given.out_took, subst (TookAll err) lines given.err_took)
refused_told unique calm refused (CalmReport.as_unanswered is) = inr is

pub calls_complete : AnswersAreUnique → CallsAreComplete
calls_complete unique = record {
  accepted = λ facts status out err command file text output report calm accepted. accepted_done unique calm accepted (calm_report status calm report);
  refused = λ facts status out err command file text refusal report calm refused. refused_told unique calm refused (calm_report status calm report);
}
