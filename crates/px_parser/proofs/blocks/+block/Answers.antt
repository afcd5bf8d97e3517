use Rattle.std.proofs.Common.{◌≡◌, suc, ◌-◌, subst, arith}
use Rattle.px_base.proofs.Facts.{denied}
use Rattle.px_lexer.specs.Terminals.{terminals_of}
use Rattle.px_parser.specs.Readings.{IsUnread, Anywhere}
use Rattle.px_parser.specs.StatementGrammar.{Block}
use Rattle.px_parser.proofs.BlockSteps.{indented_answer, line_answer}
use Rattle.px_parser.proofs.blocks.+block.Goals as goal

pub returns-then-room-eq0 : goal.returns-then-room-eq0
returns-then-room-eq0 t c =
    let none : 0 ≡ c.args.room = omega (arith, c.if-room-eq0.true) in
    subst (λ r. IsUnread Block Anywhere (terminals_of c.args.tokens.now) c.args.from r c.no_room.result) none c.no_room.ensures

pub indented_block-requires-clause-nests : goal.indented_block-requires-clause-nests
indented_block-requires-clause-nests t c = record {
  callable = λ alloc tokens from input inside. (omega (arith, c.decreases, c.if-room-eq0.false), (input, (inside, omega (arith, c.requires.bounded))));
  reads = λ alloc tokens from r input inside called. called.1;
}

pub returns-then-is_newline : goal.returns-then-is_newline
returns-then-is_newline t c =
    let more : c.args.room ≡ suc (c.args.room - 1) = omega (arith, c.if-room-eq0.false) in
    indented_answer c.args.room c.indented_block.result (c.is_newline.ensures.0 c.if-is_newline.true) more c.indented_block.ensures

pub returns-else-is_newline : goal.returns-else-is_newline
returns-else-is_newline t c =
    line_answer (terminals_of c.args.tokens.now) c.args.from c.args.room c.line.result (λ e. omega (arith, e, c.if-room-eq0.false)) (denied c.is_newline.ensures c.if-is_newline.false) (c.line.ensures c.args.room)
