use Rattle.std.proofs.Common.{Ok, Err, suc, ◌<◌, arith}
use Rattle.std.proofs.lemmas.Result.{err_from_is_err_and}
use Rattle.px_lexer.specs.Terminals.{terminals_of}
use Rattle.px_exprs.proofs.Steps.{fails}
use Rattle.px_exprs.proofs.ListSteps.{expr_step, element_kept}
use Rattle.px_exprs.proofs.grammar.Grammar.element.Goals as goal

pub returns-in_err-found : goal.returns-in_err-found
returns-in_err-found g c =
    let ts = terminals_of c.args.tokens.now in
    let p = err_from_is_err_and c.from_residual.result c.from_residual.ensures.1 in
    let less : c.args.room < suc c.args.room = omega arith in
    let refused = c.requires.nests.reads c.args.self.now.alloc c.args.tokens c.args.room c.args.from (Err c.in_err-found.field-0.0) c.requires.input c.requires.inside less c.in_err-found.ensures in
    rw (p.1, p.2) (fails (expr_step c.requires.closes ts c.args.from c.args.room) c.in_err-found.field-0.0 refused)

pub returns : goal.returns
returns g c =
    let less : c.args.room < suc c.args.room = omega arith in
    let reading = c.requires.nests.reads c.args.self.now.alloc c.args.tokens c.args.room c.args.from (Ok c.in_ok-found.found) c.requires.input c.requires.inside less c.in_ok-found.ensures in
    element_kept c.in_ok-found.found c.ends_element-may_end.result c.requires.closes reading c.ends_element-may_end.ensures c.keep_if.result c.keep_if.ensures
