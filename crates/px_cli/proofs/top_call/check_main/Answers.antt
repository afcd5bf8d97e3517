use Rattle.px_cli.specs.declared.words.Command.TheVariants as commands
use Rattle.px_cli.specs.Words.{checking_commands}
use Rattle.px_cli.proofs.CommandLemmas.{serves_list}
use Rattle.px_cli.proofs.ServedReports.{asked_report, unlisted_report}
use Rattle.px_cli.proofs.top_call.check_main.Goals as goal

pub returns-in-Some-clause-answer : goal.returns-in-Some-clause-answer
returns-in-Some-clause-answer g c = asked_report commands.List checking_commands _ _ _ _ _ _ _ _ serves_list c.in-Some.ensures c.report_of.ensures

pub returns-in-None-clause-answer : goal.returns-in-None-clause-answer
returns-in-None-clause-answer g c = unlisted_report _ _ _ _ _ _ _ c.in-None.ensures c.report_of-in-None.ensures
