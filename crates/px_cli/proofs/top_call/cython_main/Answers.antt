use Rattle.px_cli.specs.declared.words.Command.TheVariants as commands
use Rattle.px_cli.specs.Words.{all_commands}
use Rattle.px_cli.proofs.CommandLemmas.{serves_all}
use Rattle.px_cli.proofs.ServedReports.{asked_report, checked_report}
use Rattle.px_cli.proofs.top_call.cython_main.Goals as goal

pub returns-in-Some-clause-answer : goal.returns-in-Some-clause-answer
returns-in-Some-clause-answer g c = asked_report commands.Run all_commands _ _ _ _ _ _ _ _ (serves_all commands.Run) c.in-Some.ensures c.report_of.ensures

pub returns-in-None-clause-answer : goal.returns-in-None-clause-answer
returns-in-None-clause-answer g c = checked_report _ _ _ _ _ _ _ c.in-None.ensures c.check_main.ensures.answer
