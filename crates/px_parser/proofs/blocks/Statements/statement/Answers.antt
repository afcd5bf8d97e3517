use Rattle.std.proofs.lemmas.Result.{err_from_is_err_and}
use Rattle.px_base.proofs.Facts.{denied}
use Rattle.px_lexer.specs.Terminals.{terminals_of}
use Rattle.px_parser.proofs.CompoundShapes.{only_while, only_for, only_with}
use Rattle.px_parser.proofs.BlockShapes.{sound_block, only_block}
use Rattle.px_parser.proofs.CompoundSteps.{good_while, good_for, good_with}
use Rattle.px_parser.proofs.Heads.{IsOther, head_here, words_are_other}
use Rattle.px_parser.proofs.VariableShapes.{good_declare, only_declare}
use Rattle.px_parser.proofs.BlockSteps.{places_while, places_for, places_with, places_declare, places_line, single_joined, if_joined, single_refused, if_refused, line_read, line_refused}
use Rattle.px_parser.proofs.blocks.Statements.statement.Goals.{then-is_keyword+in_ok-found, else-is_keyword+then-is_keyword-2+in_ok-found-2, else-is_keyword+else-is_keyword-2+then-is_keyword-3+in_ok-found-3, else-is_keyword+else-is_keyword-2+else-is_keyword-3+then-is_keyword-4+in_ok-found-4, else-is_keyword+else-is_keyword-2+else-is_keyword-3+else-is_keyword-4+then-is_keyword-5+in_ok-found-5}
use Rattle.px_parser.proofs.blocks.Statements.statement.Goals as goal

pub returns-in_err-found : goal.returns-in_err-found
returns-in_err-found g c =
    let p = err_from_is_err_and c.from_residual.result c.from_residual.ensures.1 in
    rw (p.1, p.2) (if_refused (terminals_of c.args.tokens.now) c.args.from c.args.room (head_here (c.is_keyword.ensures.0 c.if-is_keyword.true)) c.in_err-found.field-0.0 c.in_err-found.ensures)

pub returns-in_err-found-2 : goal.returns-in_err-found-2
returns-in_err-found-2 g c =
    let p = err_from_is_err_and c.from_residual-in_err-found-2.result c.from_residual-in_err-found-2.ensures.1 in
    rw (p.1, p.2) (single_refused good_while (places_while (terminals_of c.args.tokens.now) c.args.from c.args.room (head_here (c.is_keyword-else-is_keyword.ensures.0 c.if-is_keyword-2.true))) c.in_err-found-2.field-0.0 c.in_err-found-2.ensures)

pub returns-in_err-found-3 : goal.returns-in_err-found-3
returns-in_err-found-3 g c =
    let p = err_from_is_err_and c.from_residual-in_err-found-3.result c.from_residual-in_err-found-3.ensures.1 in
    rw (p.1, p.2) (single_refused good_for (places_for (terminals_of c.args.tokens.now) c.args.from c.args.room (head_here (c.is_keyword-else-is_keyword-2.ensures.0 c.if-is_keyword-3.true))) c.in_err-found-3.field-0.0 c.in_err-found-3.ensures)

pub returns-in_err-found-4 : goal.returns-in_err-found-4
returns-in_err-found-4 g c =
    let p = err_from_is_err_and c.from_residual-in_err-found-4.result c.from_residual-in_err-found-4.ensures.1 in
    rw (p.1, p.2) (single_refused good_with (places_with (terminals_of c.args.tokens.now) c.args.from c.args.room (head_here (c.is_keyword-else-is_keyword-3.ensures.0 c.if-is_keyword-4.true))) c.in_err-found-4.field-0.0 c.in_err-found-4.ensures)

pub returns-in_err-found-5 : goal.returns-in_err-found-5
returns-in_err-found-5 g c =
    let p = err_from_is_err_and c.from_residual-in_err-found-5.result c.from_residual-in_err-found-5.ensures.1 in
    rw (p.1, p.2) (single_refused good_declare (places_declare (terminals_of c.args.tokens.now) c.args.from c.args.room (head_here (c.is_keyword-else-is_keyword-4.ensures.0 c.if-is_keyword-5.true))) c.in_err-found-5.field-0.0 (c.in_err-found-5.ensures c.args.room))

pub returns-in_err-found-6 : goal.returns-in_err-found-6
returns-in_err-found-6 g c =
    let other : IsOther (terminals_of c.args.tokens.now) c.args.from = words_are_other (terminals_of c.args.tokens.now) c.args.from (denied c.is_keyword.ensures c.if-is_keyword.false) (denied c.is_keyword-else-is_keyword.ensures c.if-is_keyword-2.false) (denied c.is_keyword-else-is_keyword-2.ensures c.if-is_keyword-3.false) (denied c.is_keyword-else-is_keyword-3.ensures c.if-is_keyword-4.false) (denied c.is_keyword-else-is_keyword-4.ensures c.if-is_keyword-5.false) in
    let p = err_from_is_err_and c.from_residual-in_err-found-6.result c.from_residual-in_err-found-6.ensures.1 in
    rw (p.1, p.2) (line_refused (places_line (terminals_of c.args.tokens.now) c.args.from c.args.room other) c.in_err-found-6.field-0.0 (c.in_err-found-6.ensures c.args.room))

pub returns-else-is_keyword-5 : goal.returns-else-is_keyword-5
returns-else-is_keyword-5 g c =
    let other : IsOther (terminals_of c.args.tokens.now) c.args.from = words_are_other (terminals_of c.args.tokens.now) c.args.from (denied c.is_keyword.ensures c.if-is_keyword.false) (denied c.is_keyword-else-is_keyword.ensures c.if-is_keyword-2.false) (denied c.is_keyword-else-is_keyword-2.ensures c.if-is_keyword-3.false) (denied c.is_keyword-else-is_keyword-3.ensures c.if-is_keyword-4.false) (denied c.is_keyword-else-is_keyword-4.ensures c.if-is_keyword-5.false) in
    line_read (places_line (terminals_of c.args.tokens.now) c.args.from c.args.room other) (c.in_ok-found-6.ensures c.args.room) c.gone_on.result c.gone_on.ensures

pub returns-in_err-alone : goal.returns-in_err-alone
returns-in_err-alone g c =
    let p = err_from_is_err_and c.from_residual-in_err-alone.result c.from_residual-in_err-alone.ensures.1 in
    rw (p.1, p.2, c.in_err-alone.ensures) tt

pub returns : goal.returns
returns g c =
    elim c.if-is_keyword.branch [
      | then-is_keyword+in_ok-found w ↦ if_joined c.in_ok-alone.field-0 c.if-is_keyword.found w.in_ok-found.found w.in_ok-found.ensures w.found-is c.in_ok-alone.ensures c.gone_on-2.result c.gone_on-2.ensures
      | else-is_keyword+then-is_keyword-2+in_ok-found-2 w ↦ single_joined c.in_ok-alone.field-0 c.if-is_keyword.found w.in_ok-found-2.found good_while (only_while sound_block only_block) (places_while (terminals_of c.args.tokens.now) c.args.from c.args.room (head_here (w.is_keyword-else-is_keyword.ensures.0 w.if-is_keyword-2.true))) w.in_ok-found-2.ensures w.found-is c.in_ok-alone.ensures c.gone_on-2.result c.gone_on-2.ensures
      | else-is_keyword+else-is_keyword-2+then-is_keyword-3+in_ok-found-3 w ↦ single_joined c.in_ok-alone.field-0 c.if-is_keyword.found w.in_ok-found-3.found good_for (only_for sound_block only_block) (places_for (terminals_of c.args.tokens.now) c.args.from c.args.room (head_here (w.is_keyword-else-is_keyword-2.ensures.0 w.if-is_keyword-3.true))) w.in_ok-found-3.ensures w.found-is c.in_ok-alone.ensures c.gone_on-2.result c.gone_on-2.ensures
      | else-is_keyword+else-is_keyword-2+else-is_keyword-3+then-is_keyword-4+in_ok-found-4 w ↦ single_joined c.in_ok-alone.field-0 c.if-is_keyword.found w.in_ok-found-4.found good_with (only_with sound_block only_block) (places_with (terminals_of c.args.tokens.now) c.args.from c.args.room (head_here (w.is_keyword-else-is_keyword-3.ensures.0 w.if-is_keyword-4.true))) w.in_ok-found-4.ensures w.found-is c.in_ok-alone.ensures c.gone_on-2.result c.gone_on-2.ensures
      | else-is_keyword+else-is_keyword-2+else-is_keyword-3+else-is_keyword-4+then-is_keyword-5+in_ok-found-5 w ↦ single_joined c.in_ok-alone.field-0 c.if-is_keyword.found w.in_ok-found-5.found good_declare only_declare (places_declare (terminals_of c.args.tokens.now) c.args.from c.args.room (head_here (w.is_keyword-else-is_keyword-4.ensures.0 w.if-is_keyword-5.true))) (w.in_ok-found-5.ensures c.args.room) w.found-is c.in_ok-alone.ensures c.gone_on-2.result c.gone_on-2.ensures
    ]
