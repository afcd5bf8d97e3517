use Rattle.std.proofs.Common.{arith}
use Rattle.px_parser.proofs.blocks.statement.Goals as goal

pub statement-requires-clause-nests : goal.statement-requires-clause-nests
statement-requires-clause-nests c = record {
  callable = λ alloc tokens from input inside. (input, (inside, omega arith));
  reads = λ alloc tokens from r input inside called. called.1;
}
