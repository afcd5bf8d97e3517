use Rattle.std.proofs.Common.{drop}
use Rattle.px_lexer.proofs.NumberPlaces.{decimal_at}
use Rattle.px_lexer.proofs.numbers.literal_at.Goals as goal

pub returns-in-None : goal.returns-in-None
returns-in-None c = decimal_at (drop c.args.from c.args.cs.now) c.args.from c.decimal_literal.result c.in-None.ensures c.decimal_literal.ensures
