use Rattle.std.proofs.lemmas.Result.{err_from_is_err_and}
use Rattle.px_lexer.specs.Terminals.{terminals_of}
use Rattle.px_parser.proofs.TargetsReading.{first_refused}
use Rattle.px_parser.proofs.targets.assigned_form.Goals as goal

pub returns-in_err-first : goal.returns-in_err-first
returns-in_err-first c =
    let p = err_from_is_err_and c.from_residual.result c.from_residual.ensures.1 in
    rw (p.1, p.2) (λ room. first_refused (terminals_of c.args.tokens.now) c.args.from room _ (c.in_err-first.ensures room))
