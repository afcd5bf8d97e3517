use Rattle.std.proofs.Common.{true, sym, subst, arith}
use Rattle.std.proofs.lemmas.Result.{err_from_is_err_and}
use Rattle.px_base.proofs.Facts.{denied}
use Rattle.px_lexer.specs.Terminals.{terminals_of}
use Rattle.px_lexer.proofs.TokenAccess.{length_terminals}
use Rattle.px_parser.proofs.Steps.{fails}
use Rattle.px_parser.proofs.ExprSteps.{first_step, first_stuck, alone_read, others_failed, others_read}
use Rattle.px_parser.proofs.TargetsReading.{ended_reads}
use Rattle.px_exprs.specs.Codes.{Past}
use Rattle.px_parser.specs.Readings.{IsReading}
use Rattle.px_parser.specs.StatementGrammar.{IsWithinLimit}
use Rattle.px_parser.specs.Ends.{EndsExprs}
use Rattle.px_parser.proofs.exprs.exprs.Goals as goal

pub returns-in_err-first : goal.returns-in_err-first
returns-in_err-first c =
    let p = err_from_is_err_and c.from_residual.result c.from_residual.ensures.1 in
    λ room. rw (p.1, p.2) (fails (first_step (terminals_of c.args.tokens.now) c.args.from room) _ (c.in_err-first.ensures room))

pub returns-then-not-is_operator : goal.returns-then-not-is_operator
returns-then-not-is_operator c =
    let ts = terminals_of c.args.tokens.now in
    let none = denied c.is_operator.ensures c.if-not-is_operator.true in
    λ room. ended_reads {S = EndsExprs} ts c.args.from room (c.in_ok-first.first.tree, true) c.in_ok-first.first.to c.keep_before_end.result c.keep_before_end.ensures
    (alone_read ts c.args.from c.in_ok-first.first.to room c.in_ok-first.first.tree (omega (arith, c.requires.inside, length_terminals c.args.tokens.now)) (c.in_ok-first.ensures room))
    (first_stuck ts c.args.from c.in_ok-first.first.to room c.in_ok-first.first.tree (c.in_ok-first.ensures room) none)

pub returns-in_err-others : goal.returns-in_err-others
returns-in_err-others c =
    let p = err_from_is_err_and c.from_residual-in_err-others.result c.from_residual-in_err-others.ensures.1 in
    let comma = c.is_operator.ensures.0 c.if-not-is_operator.false in
    λ room. rw (p.1, p.2) (others_failed c.args.tokens.now c.args.from c.in_ok-first.first.to room c.in_ok-first.first.tree (c.in_ok-first.ensures room) comma _ (c.in_err-others.ensures room))

pub returns : goal.returns
returns c =
    let comma = c.is_operator.ensures.0 c.if-not-is_operator.false in
    λ room. others_read c.args.tokens.now c.args.from c.in_ok-first.first.to _ room _ _ _
    (subst (λ e. IsReading IsWithinLimit (Past 26) (terminals_of c.args.tokens.now) c.args.from room e c.in_ok-first.first.to) (sym c.in_ok-first_tree.ensures) (c.in_ok-first.ensures room)) comma (c.in_ok-others.ensures room)
    c.in_ok-tree.ensures
