use Rattle.std.proofs.Common.{refl}
use Rattle.std.proofs.lemmas.Bool.{false≢true}
use Rattle.px_cli.proofs.CallLemmas.{call_missing, call_told}
use Rattle.px_cli.proofs.running.is_call.Goals as goal

pub returns-in_default-arguments_of : goal.returns-in_default-arguments_of
returns-in_default-arguments_of c = (λ yes. absurd (false≢true yes), λ h. absurd (call_missing c.in-Statement.statement c.in-Assign.targets c.in-Assign.call c.in-Statement.is c.in-Assign.is c.in_default-arguments_of.ensures h))

pub returns-then-is_empty : goal.returns-then-is_empty
returns-then-is_empty c =
    call_told c.in-Statement.statement c.in-Assign.targets c.in-Assign.call c.in-Some.arguments.now c.is_empty-then-is_empty.result c.in-Statement.is c.in-Assign.is (c.if-is_empty.ensures.0 refl) c.in-Some.ensures c.is_empty-then-is_empty.ensures
