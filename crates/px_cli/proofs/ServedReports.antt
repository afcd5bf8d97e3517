-- Two calls that serve for these words the same have the same reports.
use Rattle.std.proofs.Common.{ℕ, List, [], ◌∷◌, Option, inl, inr, sym, subst}
use Rattle.std.specs.Prelude.{Contains}
use Rattle.px_base.specs.declared.statuses.Status.{Status}
use Rattle.px_base.specs.declared.statuses.Status.TheVariants as s
use Rattle.px_cli.specs.declared.words.Command.{Command}
use Rattle.px_cli.specs.declared.words.Command.TheVariants as commands
use Rattle.px_cli.specs.Words.{Asks, all_commands, checking_commands}
use Rattle.px_cli.specs.Answer.{Facts, IsAnswer, IsAsked, IsBroken, IsCutShort, IsGiven, IsReport, HasModule, Taking, facts_of}
use Rattle.px_cli.proofs.CommandLemmas.{serves_itself, serves_all, serves_check, serves_list, serves_no_run, only_itself, one_command}

abbrev Told : Type 0
Told = Option (List ℕ → Option (List ℕ))

module _ (xs ys : List Command) (words : List (List ℕ)) (map : Told) (before after : ℕ)
    (on : (command : Command) (file : List ℕ) → IsAsked (facts_of xs words map before after) command file → IsAsked (facts_of ys words map before after) command file)
    (back : (command : Command) (file : List ℕ) → IsAsked (facts_of ys words map before after) command file → IsAsked (facts_of xs words map before after) command file) where
  abbrev A : Facts
  A = facts_of xs words map before after

  abbrev B : Facts
  B = facts_of ys words map before after

  module_over : {command : Command} {file text : List ℕ} → HasModule A command file text → HasModule B command file text
  module_over {command} {file} h = record { asked = on command file h.asked; content = h.content; small = h.small; unbroken = h.unbroken }

  answer_over : (status : Status) (out err : List ℕ) → IsAnswer A status out err → IsAnswer B status out err
  answer_over s.Done out err h = record { command = h.command; file = h.file; text = h.text; has = module_over h.has; accepted = h.accepted; silent = h.silent }
  answer_over s.Refused out err h = record { command = h.command; file = h.file; text = h.text; refusal = h.refusal; has = module_over h.has; refused = h.refused; no_output = h.no_output; line = h.line }
  answer_over s.Usage out err h = record { unasked = λ command file asked. h.unasked command file (back command file asked); unbroken = h.unbroken; no_output = h.no_output; line = h.line }
  answer_over s.Raised out err h = h
  answer_over s.Spent out err h = h
  answer_over s.ReadFault out err h = record { command = h.command; file = h.file; asked = on h.command h.file h.asked; cause = h.cause; no_output = h.no_output; line = h.line }
  answer_over s.WriteFault out err h = h
  answer_over s.NoMemory out err h = h
  answer_over s.NoFile out err h = record { command = h.command; file = h.file; asked = on h.command h.file h.asked; absent = h.absent; unbroken = h.unbroken; no_output = h.no_output; line = h.line }
  answer_over s.TooLarge out err h =
      record { command = h.command; file = h.file; text = h.text; asked = on h.command h.file h.asked; content = h.content; large = h.large; unbroken = h.unbroken; no_output = h.no_output; line = h.line }

  given_over : (status : Status) (out err : Taking) → IsGiven A status out err → IsGiven B status out err
  given_over status out err h =
      record { output = h.output; line = h.line; answer = answer_over status h.output h.line h.answer; out_took = h.out_took; out_calm = h.out_calm; err_took = h.err_took; err_calm = h.err_calm }

  broken_over : (out err : Taking) → IsBroken A out err → IsBroken B out err
  broken_over out err h = record { status = h.status; output = h.output; line = h.line; answer = answer_over h.status h.output h.line h.answer; broken = h.broken }

  cut_over : (out err : Taking) → IsCutShort A out err → IsCutShort B out err
  cut_over out err h = record { status = h.status; output = h.output; line = h.line; answer = answer_over h.status h.output h.line h.answer; cut = h.cut }

  pub report_over : (status : Status) (out err : Taking) → IsReport A status out err → IsReport B status out err
  report_over s.Done out err h = given_over s.Done out err h
  report_over s.Refused out err h = given_over s.Refused out err h
  report_over s.Usage out err h = given_over s.Usage out err h
  report_over s.Raised out err h = given_over s.Raised out err h
  report_over s.Spent out err h = given_over s.Spent out err h
  report_over s.ReadFault out err h = given_over s.ReadFault out err h
  report_over s.WriteFault out err h = broken_over out err h
  report_over s.NoMemory out err (inl h) = inl h
  report_over s.NoMemory out err (inr h) = inr (cut_over out err h)
  report_over s.NoFile out err h = given_over s.NoFile out err h
  report_over s.TooLarge out err h = given_over s.TooLarge out err h

-- Where the words ask for a command that a call serves, the call reports what one reports that serves this command alone.
pub asked_report : (command : Command) (serves : List Command) (words : List (List ℕ)) (map : Told) (before after : ℕ) (name : List ℕ) (status : Status) (out err : Taking) → Contains serves command → Asks command words name
    → IsReport (facts_of (command ∷ []) words map before after) status out err → IsReport (facts_of serves words map before after) status out err
asked_report command serves words map before after name status out err served asked h = report_over (command ∷ []) serves words map before after on back status out err h
  where
    on : (other : Command) (file : List ℕ) → IsAsked (facts_of (command ∷ []) words map before after) other file → IsAsked (facts_of serves words map before after) other file
    on other file h = record { served = subst (Contains serves) (sym (only_itself command other h.served)) served; asked = h.asked }

    back : (other : Command) (file : List ℕ) → IsAsked (facts_of serves words map before after) other file → IsAsked (facts_of (command ∷ []) words map before after) other file
    back other file h = record { served = subst (Contains (command ∷ [])) (one_command asked h.asked).0 (serves_itself command); asked = h.asked }

-- where they don't ask for a listing, the call without a run reports what one reports that serves a check alone
pub unlisted_report : (words : List (List ℕ)) (map : Told) (before after : ℕ) (status : Status) (out err : Taking) → ((file : List ℕ) → Asks commands.List words file → ⊥) → IsReport (facts_of (commands.Check ∷ []) words map before after) status out err
    → IsReport (facts_of checking_commands words map before after) status out err
unlisted_report words map before after status out err none h = report_over (commands.Check ∷ []) checking_commands words map before after on back status out err h
  where
    on : (other : Command) (file : List ℕ) → IsAsked (facts_of (commands.Check ∷ []) words map before after) other file → IsAsked (facts_of checking_commands words map before after) other file
    on other file h = record { served = subst (Contains checking_commands) (sym (only_itself commands.Check other h.served)) serves_check; asked = h.asked }

    back : (other : Command) (file : List ℕ) → IsAsked (facts_of checking_commands words map before after) other file → IsAsked (facts_of (commands.Check ∷ []) words map before after) other file
    back commands.Check file h = record { served = serves_itself commands.Check; asked = h.asked }
    back commands.List file h = absurd (none file h.asked)
    back commands.Run file h = absurd (serves_no_run h.served)

-- and where they don't ask for a run, the call that serves all commands reports what the one without a run does
pub checked_report : (words : List (List ℕ)) (map : Told) (before after : ℕ) (status : Status) (out err : Taking) → ((file : List ℕ) → Asks commands.Run words file → ⊥) → IsReport (facts_of checking_commands words map before after) status out err
    → IsReport (facts_of all_commands words map before after) status out err
checked_report words map before after status out err none h = report_over checking_commands all_commands words map before after on back status out err h
  where
    on : (other : Command) (file : List ℕ) → IsAsked (facts_of checking_commands words map before after) other file → IsAsked (facts_of all_commands words map before after) other file
    on other file h = record { served = serves_all other; asked = h.asked }

    back : (other : Command) (file : List ℕ) → IsAsked (facts_of all_commands words map before after) other file → IsAsked (facts_of checking_commands words map before after) other file
    back commands.Check file h = record { served = serves_check; asked = h.asked }
    back commands.List file h = record { served = serves_list; asked = h.asked }
    back commands.Run file h = absurd (none file h.asked)
