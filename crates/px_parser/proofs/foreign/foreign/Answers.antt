use Rattle.std.proofs.Common.{◌≡◌, length, ap, arith, below_more}
use Rattle.px_base.proofs.Facts.{denied}
use Rattle.px_lexer.proofs.TokenAccess.{stands_within}
use Rattle.px_parser.proofs.foreign.foreign.Goals as goal

pub returns-then-is_foreign : goal.returns-then-is_foreign
returns-then-is_foreign c =
    let there = c.is_foreign.ensures.0 c.if-is_foreign.true in
    (record { foreign = there; first = c.loop-at.invariant }, stands_within c.args.tokens.now c.loop-at.at there.token there.stands)

pub loop-at-preserved : goal.loop-at-preserved
loop-at-preserved c = below_more _ _ c.loop-at.invariant (denied c.is_foreign.ensures c.if-is_foreign.false)

pub returns : goal.returns
returns c = λ i h.
    let long : length c.as_slice-at-end.result.now ≡ length c.args.tokens.now.list = ap length c.as_slice-at-end.ensures in
    c.loop-at.invariant i (omega (arith, stands_within c.args.tokens.now i h.token h.stands, long, c.loop-at-test.false)) h
