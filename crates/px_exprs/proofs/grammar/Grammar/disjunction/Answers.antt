use Rattle.std.proofs.Common.{refl, ap, ◌∙◌, ◌∷◌, arith}
use Rattle.std.proofs.lemmas.Result.{err_from_is_err_and}
use Rattle.px_base.proofs.Facts.{denied}
use Rattle.px_lexer.specs.Terminals.{terminals_of}
use Rattle.px_exprs.proofs.Stops.{past_or}
use Rattle.px_exprs.proofs.Steps.{fails}
use Rattle.px_exprs.proofs.Tailed.{first_step, read_alone}
use Rattle.px_lexer.proofs.TokenAccess.{length_terminals}
use Rattle.px_exprs.proofs.JunctionSteps.{or_tailed, or_left, or_over, or_read}
use Rattle.px_exprs.proofs.grammar.Grammar.disjunction.Goals as goal

pub returns-in_err-first : goal.returns-in_err-first
returns-in_err-first g c =
    let p = err_from_is_err_and c.from_residual.result c.from_residual.ensures.1 in
    rw (p.1, p.2) (fails (first_step or_tailed (terminals_of c.args.tokens.now) c.args.from c.args.room) _ c.in_err-first.ensures)

pub returns-then-not-is_keyword : goal.returns-then-not-is_keyword
returns-then-not-is_keyword g c =
    let reading = c.in_ok-first.ensures in
    read_alone or_tailed reading (past_or reading.stops (denied c.is_keyword.ensures c.if-not-is_keyword.true))

pub returns-in_err-room : goal.returns-in_err-room
returns-in_err-room g c =
    let p = err_from_is_err_and c.from_residual-in_err-room.result c.from_residual-in_err-room.ensures.1 in
    rw (p.1, p.2) (or_over c.in_ok-first.ensures (c.is_keyword.ensures.0 c.if-not-is_keyword.false) _ c.in_err-room.ensures)

pub ors-requires-clause-inside : goal.ors-requires-clause-inside
ors-requires-clause-inside g c =
    let reading = c.in_ok-first.ensures in
    omega (arith, reading.within, length_terminals c.args.tokens.now)

pub returns-in_err-others : goal.returns-in_err-others
returns-in_err-others g c =
    let p = err_from_is_err_and c.from_residual-in_err-others.result c.from_residual-in_err-others.ensures.1 in
    rw (p.1, p.2) (fails (or_left c.in_ok-first.ensures (c.is_keyword.ensures.0 c.if-not-is_keyword.false) c.in_ok-room.ensures) _ c.in_err-others.ensures)

pub node-requires-clause-small : goal.node-requires-clause-small
node-requires-clause-small g c =
    let reading = c.in_ok-first.ensures in
    omega (arith, reading.within, length_terminals c.args.tokens.now, c.requires.input.few)

pub returns : goal.returns
returns g c =
    let made = c.node.ensures in
    or_read c.in_ok-first.ensures c.in_ok-room.ensures c.in_ok-others.ensures (c.in_ok-prepend.ensures ∙ ap (λ t. t ∷ c.in_ok-others.others.tree) c.in_ok-first_tree.ensures) made.1 refl made.2 c.max-depth.ensures
