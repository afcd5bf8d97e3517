use Rattle.std.proofs.Common.{◌+◌, refl, arith}
use Rattle.px_base.proofs.Facts.{denied}
use Rattle.px_lexer.specs.Terminals.{terminals_of}
use Rattle.px_lexer.proofs.TokenAccess.{length_terminals, stands_within}
use Rattle.px_exprs.proofs.TypeReading.{no_base, base_stuck, base_within, base_goes_on, base_absent}
use Rattle.px_exprs.proofs.typings.base.Goals as goal

pub returns-in_default : goal.returns-in_default
returns-in_default c = let tokens = c.args.tokens.now in no_base (terminals_of tokens) c.args.from (omega (arith, length_terminals tokens, c.requires.inside))
    (base_absent c.base_of.result (terminals_of tokens) c.args.from (c.args.from + 1) c.in_default.is c.base_of.ensures)

pub loop-longer-preserved : goal.loop-longer-preserved
loop-longer-preserved c = record {
  known = c.in-Some-base_of.ensures;
  within = base_within c.args.tokens.now c.args.from (c.loop-longer.to + 1) c.in-Some-base_of.longer c.in-Some-base_of.ensures;
}

pub loop-longer-smaller : goal.loop-longer-smaller
loop-longer-smaller c =
    let more = base_within c.args.tokens.now c.args.from (c.loop-longer.to + 1) c.in-Some-base_of.longer c.in-Some-base_of.ensures in
    omega (arith, more)

pub returns-then-is_name : goal.returns-then-is_name
returns-then-is_name c =
    let tokens = c.args.tokens.now in
    let named = c.is_name.ensures.0 c.if-is_name.true in
    base_stuck (terminals_of tokens) c.args.from c.loop-longer.to c.loop-longer.tree (omega
    (arith, length_terminals tokens, stands_within tokens c.loop-longer.to named.1.token named.1.stands)) c.loop-longer.invariant.known
    (base_absent c.base_of-in-loop-longer.result (terminals_of tokens) c.args.from (c.loop-longer.to + 1) c.in_default-base_of.is c.base_of-in-loop-longer.ensures) named

pub returns-else-is_name : goal.returns-else-is_name
returns-else-is_name c =
    record {
      derived = (c.loop-longer.invariant.known, refl);
      shallow = omega arith;
      stops = λ name named. denied c.is_name.ensures c.if-is_name.false (name, named);
      within = omega (arith, length_terminals c.args.tokens.now, base_goes_on c.args.tokens.now c.args.from c.loop-longer.to c.loop-longer.tree c.requires.input c.loop-longer.invariant.known);
    }
