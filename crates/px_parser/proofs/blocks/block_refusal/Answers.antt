use Rattle.px_lexer.specs.Terminals.{terminals_of}
use Rattle.px_parser.proofs.BlockSteps.{refused_answer}
use Rattle.px_parser.proofs.blocks.block_refusal.Goals as goal

pub returns : goal.returns
returns c = rw (c.err.ensures.value) (refused_answer (terminals_of c.args.tokens.now) c.args.from c.simple.result c.simple.ensures)
