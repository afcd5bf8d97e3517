use Rattle.std.proofs.Common.{arith}
use Rattle.px_base.proofs.Facts.{denied}
use Rattle.px_lexer.specs.Terminals.{terminals_of}
use Rattle.px_parser.proofs.DeclareReading.{declare_by_group, declare_by_line}
use Rattle.px_parser.proofs.variables.declare.Goals as goal

pub overflow_add-from : goal.overflow_add-from
overflow_add-from c = omega (arith, c.requires.inside, c.requires.input.input.few)

pub returns-then-is_operator : goal.returns-then-is_operator
returns-then-is_operator c = λ room. declare_by_group (terminals_of c.args.tokens.now) c.args.from room _ (c.is_operator.ensures.0 c.if-is_operator.true) (c.declare_group.ensures room)

pub returns-else-is_operator : goal.returns-else-is_operator
returns-else-is_operator c = λ room. declare_by_line (terminals_of c.args.tokens.now) c.args.from room _ (denied c.is_operator.ensures c.if-is_operator.false) (c.declare_line.ensures room)
