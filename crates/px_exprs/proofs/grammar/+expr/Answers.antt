use Rattle.std.proofs.Common.{arith}
use Rattle.px_exprs.proofs.grammar.+expr.Goals as goal

pub conditional-requires-clause-nests : goal.conditional-requires-clause-nests
conditional-requires-clause-nests t c = record {
  callable = λ alloc tokens less from input inside lt. (omega (arith, c.decreases, lt), (input, inside));
  reads = λ alloc tokens less from r input inside lt called. called.1;
}
