use Rattle.std.proofs.Common.{sym, ◌∙◌}
use Rattle.px_cli.proofs.CallLemmas.{same_arguments, some_named}
use Rattle.px_cli.proofs.statements.print_argument.Goals as goal

pub returns-in_default-only : goal.returns-in_default-only
returns-in_default-only c = λ argument call unnamed. c.in_default-only.ensures argument (same_arguments c.in-Some.ensures call)

pub returns-then-is_some : goal.returns-then-is_some
returns-then-is_some c = λ argument call unnamed.
    let same = sym c.in-Some-only.ensures ∙ same_arguments c.in-Some.ensures call in
    some_named c.in-Some-only.argument.now argument same unnamed c.if-is_some.ensures
