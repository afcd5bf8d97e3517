use Rattle.std.proofs.Common.{◌+◌, sym, subst, add-one, arith}
use Rattle.px_exprs.specs.Typings.{IsBase}
use Rattle.px_lexer.specs.Terminals.{terminals_of}
use Rattle.px_exprs.proofs.TypeReading.{base_within, base_absent}
use Rattle.px_parser.proofs.typed.longest.Goals as goal

pub returns-in_err-tree : goal.returns-in_err-tree
returns-in_err-tree c =
    let ts = terminals_of c.args.tokens.now in
    rw (c.from_residual.ensures) (λ b h. c.in_err-tree.ensures b (subst (IsBase ts c.args.from b) (sym (add-one c.args.from)) h))

pub loop-longer-smaller : goal.loop-longer-smaller
loop-longer-smaller c =
    let more = base_within c.args.tokens.now c.args.from (c.loop-longer.to + 1) c.in-Some.longer c.in-Some.ensures in
    omega (arith, more)

pub loop-longer-preserved : goal.loop-longer-preserved
loop-longer-preserved c = record {
  known = c.in-Some.ensures;
  within = base_within c.args.tokens.now c.args.from (c.loop-longer.to + 1) c.in-Some.longer c.in-Some.ensures;
}

pub returns : goal.returns
returns c =
    let ts = terminals_of c.args.tokens.now in
    let none = base_absent c.base_of-in-loop-longer.result ts c.args.from (c.loop-longer.to + 1) c.in_default.is c.base_of-in-loop-longer.ensures in
    (c.loop-longer.invariant.known, λ b h. none b (subst (IsBase ts c.args.from b) (sym (add-one c.loop-longer.to)) h))
