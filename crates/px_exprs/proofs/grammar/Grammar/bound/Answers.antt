use Rattle.std.proofs.Common.{Ok, Err, sym, ◌∙◌, arith}
use Rattle.std.proofs.lemmas.Result.{err_from_is_err_and}
use Rattle.px_base.proofs.Facts.{denied}
use Rattle.px_exprs.specs.Grammar.{MaybeExpr}
use Rattle.px_lexer.specs.Terminals.{terminals_of}
use Rattle.px_lexer.proofs.TokenAccess.{length_terminals}
use Rattle.px_exprs.specs.declared.readings.Unread.TheVariants as unread
use Rattle.px_exprs.proofs.Steps.{fails}
use Rattle.px_exprs.proofs.ItemSteps.{no_bound, bound_past, present_step, bound_stuck}
use Rattle.px_exprs.proofs.grammar.Grammar.bound.Goals as goal

pub returns-then-not-ends_bound : goal.returns-then-not-ends_bound
returns-then-not-ends_bound g c =
    no_bound (terminals_of c.args.tokens.now) c.args.from c.args.room (sym c.begins_expr.ensures ∙ c.if-not-begins_expr.true) (denied c.ends_bound.ensures c.if-not-ends_bound.true)
    (omega (arith, c.requires.inside, length_terminals c.args.tokens.now))

pub returns-then-not-begins_expr : goal.returns-then-not-begins_expr
returns-then-not-begins_expr g c = record {
  derived = MaybeExpr.absent;
  shallow = omega arith;
  stops = c.ends_bound.ensures.0 c.if-not-ends_bound.false;
  within = omega (arith, c.requires.inside, length_terminals c.args.tokens.now);
}

pub returns-in_err-found : goal.returns-in_err-found
returns-in_err-found g c =
    let p = err_from_is_err_and c.from_residual.result c.from_residual.ensures.1 in
    let refused = c.requires.nests.reads c.args.self.now.alloc c.args.tokens c.args.room c.args.from (Err c.in_err-found.field-0.0) c.requires.input c.requires.inside (omega arith) c.in_err-found.ensures in
    rw (p.1, p.2) (fails (present_step bound_past (terminals_of c.args.tokens.now) c.args.from c.args.room (sym c.begins_expr.ensures ∙ c.if-not-begins_expr.false)) c.in_err-found.field-0.0 refused)

pub returns-then-not-ends_bound-2 : goal.returns-then-not-ends_bound-2
returns-then-not-ends_bound-2 g c =
    let reading = c.requires.nests.reads c.args.self.now.alloc c.args.tokens c.args.room c.args.from (Ok c.in_ok-found.found) c.requires.input c.requires.inside (omega arith) c.in_ok-found.ensures in
    fails (present_step (λ us j stop. stop) (terminals_of c.args.tokens.now) c.args.from c.args.room (sym c.begins_expr.ensures ∙ c.if-not-begins_expr.false)) (unread.Stuck c.in_ok-found.found.to)
    (bound_stuck reading.derived reading.stops reading.shallow reading.within (denied c.ends_bound-2.ensures c.if-not-ends_bound-2.true))

pub returns : goal.returns
returns g c =
    let reading = c.requires.nests.reads c.args.self.now.alloc c.args.tokens c.args.room c.args.from (Ok c.in_ok-found.found) c.requires.input c.requires.inside (omega arith) c.in_ok-found.ensures in
    rw c.in_ok-tree.ensures record { derived = MaybeExpr.present reading.derived; shallow = reading.shallow; stops = c.ends_bound-2.ensures.0 c.if-not-ends_bound-2.false; within = reading.within }
