use Rattle.std.proofs.Common.{◌∙◌, ◌<◌, ◌-◌, length, sym, subst, arith}
use Rattle.std.proofs.lemmas.Bool.{false≢true}
use Rattle.std.proofs.lemmas.Result.{err_from_is_err_and}
use Rattle.px_base.proofs.Facts.{denied}
use Rattle.px_lexer.specs.Terminals.{terminals_of}
use Rattle.px_lexer.proofs.TokenAccess.{length_terminals}
use Rattle.px_parser.proofs.TargetsLoops.{Looping, next_target_refused, looping_begins, looping_on, target_forward, one_read, several_read}
use Rattle.px_parser.proofs.targets.further_targets.Goals as goal

pub loop-others-init : goal.loop-others-init
loop-others-init c =
    rw c.new-others.ensures (looping_begins c.requires.read)

pub returns-in_err-next : goal.returns-in_err-next
returns-in_err-next c =
    let p = err_from_is_err_and c.from_residual.result c.from_residual.ensures.1 in
    rw (p.1, p.2) (λ room. next_target_refused c.loop-others.invariant (c.is_operator.ensures.0 c.loop-others-test.true) room _ (c.in_err-next.ensures room))

pub loop-others-smaller : goal.loop-others-smaller
loop-others-smaller c =
    let forward = target_forward (c.in_ok-next.ensures 0) in
    let inside = c.loop-others.invariant.within in
    let less : length c.args.tokens.now.list - c.in_ok-next.next.to < length c.args.tokens.now.list - c.loop-others.to = omega (arith, forward, inside, length_terminals c.args.tokens.now) in
    less

pub loop-others-preserved : goal.loop-others-preserved
loop-others-preserved c =
    subst (λ es. Looping (terminals_of c.args.tokens.now) c.args.from c.args.first c.args.comma es c.in_ok-next.next.to) (sym c.in_ok-push.ensures.ok)
    (looping_on c.loop-others.invariant (c.is_operator.ensures.0 c.loop-others-test.true) c.in_ok-next.ensures)

pub returns-then-is_empty : goal.returns-then-is_empty
returns-then-is_empty c = rw c.into_inner.ensures (one_read c.loop-others.invariant (denied c.is_operator.ensures c.loop-others-test.false) (c.is_empty.ensures.0 c.if-is_empty.true))

pub list-requires-clause-behind : goal.list-requires-clause-behind
list-requires-clause-behind c = omega (arith, (c.requires.read 0).within, length_terminals c.args.tokens.now)

pub returns : goal.returns
returns c =
    several_read c.loop-others.invariant (denied c.is_operator.ensures c.loop-others-test.false) (λ e. false≢true (sym c.if-is_empty.false ∙ c.is_empty.ensures.1 e)) c.in_ok-tree.ensures
