use Rattle.std.proofs.Common.{◌<◌, ◌-◌, ◌+◌, length, ◌∙◌, arith}
use Rattle.px_exprs.proofs.Stops.{past_no_text}
use Rattle.px_lexer.proofs.TokenAccess.{stands_within}
use Rattle.px_exprs.proofs.AtomSteps.{texts_on, texts_read}
use Rattle.px_exprs.proofs.atoms.texts.Goals as goal

pub overflow_add-to : goal.overflow_add-to
overflow_add-to c =
    let there = c.in-Some.ensures in
    omega (arith, stands_within c.args.tokens.now c.loop-content.to there.token there.stands, c.requires.input.few)

pub loop-content-smaller : goal.loop-content-smaller
loop-content-smaller c =
    let there = c.in-Some.ensures in
    let inside : c.loop-content.to < length c.args.tokens.now.list = stands_within c.args.tokens.now c.loop-content.to there.token there.stands in
    let less : length c.args.tokens.now.list - (c.loop-content.to + 1) < length c.args.tokens.now.list - c.loop-content.to = omega (arith, inside) in
    less

pub loop-content-preserved : goal.loop-content-preserved
loop-content-preserved c = texts_on c.loop-content.contents c.loop-content.invariant.0 c.in-Some.ensures (c.in_ok-from_slice.ensures ∙ c.as_slice.ensures) c.in_ok-push.ensures.ok

pub returns-clause-read : goal.returns-clause-read
returns-clause-read c = texts_read c.loop-content.invariant.1 c.requires.begins c.in_default.ensures

pub returns-clause-ended : goal.returns-clause-ended
returns-clause-ended c = past_no_text c.in_default.ensures
