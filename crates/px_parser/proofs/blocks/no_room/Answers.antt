use Rattle.std.proofs.Common.{◌≡◌, suc, subst, arith}
use Rattle.px_base.proofs.Facts.{denied}
use Rattle.px_lexer.specs.Terminals.{terminals_of}
use Rattle.px_lexer.proofs.TokenAccess.{length_terminals}
use Rattle.px_parser.specs.Ends.{EndsSimple}
use Rattle.px_parser.specs.Readings.{IsStuck, IsOver, IsUnread}
use Rattle.px_parser.specs.StatementGrammar.{Simple}
use Rattle.px_parser.proofs.BlockSteps.{simple_over, simple_stuck, no_room_answer, no_room_deep}
use Rattle.px_parser.proofs.blocks.no_room.Goals as goal

pub returns-in_default : goal.returns-in_default
returns-in_default c =
    simple_over (terminals_of c.args.tokens.now) c.args.from (suc c.args.from) (omega (arith, c.requires.inside, length_terminals c.args.tokens.now)) (denied c.is_newline.ensures c.if-is_newline.false) (omega arith) c.in_default.ensures

pub returns-in-TooDeep : goal.returns-in-TooDeep
returns-in-TooDeep c =
    let over : IsOver Simple EndsSimple (terminals_of c.args.tokens.now) c.args.from 0 _ = subst (λ u. IsUnread Simple EndsSimple (terminals_of c.args.tokens.now) c.args.from 0 u) c.in-TooDeep.is c.in-Some.ensures in
    no_room_deep (terminals_of c.args.tokens.now) c.args.from _ (omega (arith, c.requires.inside, length_terminals c.args.tokens.now)) (denied c.is_newline.ensures c.if-is_newline.false) over

pub returns-then-at-from : goal.returns-then-at-from
returns-then-at-from c =
    let same : c.in-Stuck.at ≡ c.args.from = omega (arith, c.if-at-from.true) in
    let stuck : IsStuck Simple EndsSimple (terminals_of c.args.tokens.now) c.args.from 0 c.in-Stuck.at = subst (λ u. IsUnread Simple EndsSimple (terminals_of c.args.tokens.now) c.args.from 0 u) c.in-Stuck.is c.in-Some.ensures in
    simple_stuck (terminals_of c.args.tokens.now) c.args.from 0 (omega (arith, c.requires.inside, length_terminals c.args.tokens.now)) (denied c.is_newline.ensures c.if-is_newline.false)
    (subst (IsStuck Simple EndsSimple (terminals_of c.args.tokens.now) c.args.from 0) same stuck)

pub returns-else-at-from : goal.returns-else-at-from
returns-else-at-from c =
    let stuck : IsStuck Simple EndsSimple (terminals_of c.args.tokens.now) c.args.from 0 c.in-Stuck.at = subst (λ u. IsUnread Simple EndsSimple (terminals_of c.args.tokens.now) c.args.from 0 u) c.in-Stuck.is c.in-Some.ensures in
    no_room_answer (terminals_of c.args.tokens.now) c.args.from c.in-Stuck.at (omega (arith, c.requires.inside, length_terminals c.args.tokens.now)) (denied c.is_newline.ensures c.if-is_newline.false) stuck (λ e. omega (arith, e, c.if-at-from.false))
