use Rattle.px_exprs.proofs.grammar.primary.Goals as goal

pub primary-requires-clause-nests : goal.primary-requires-clause-nests
primary-requires-clause-nests t = record {
  callable = λ alloc tokens less from input inside lt. (input, inside);
  reads = λ alloc tokens less from r input inside lt called. called.1;
}
