use Rattle.px_base.proofs.Facts.{denied}
use Rattle.px_lexer.specs.Terminals.{terminals_of}
use Rattle.px_exprs.proofs.Rows.{left_ascii, left_step, left_found, left_none}
use Rattle.px_exprs.proofs.typings.base_in.Goals as goal

pub are_words-requires-clause-ascii : goal.are_words-requires-clause-ascii
are_words-requires-clause-ascii c = left_ascii c.args.table.now c.loop-table.table.now (terminals_of c.args.tokens.now) c.args.from c.args.to _ c.in-len1-up.len_at_least c.loop-table.invariant

pub loop-table-preserved : goal.loop-table-preserved
loop-table-preserved c = left_step c.args.table.now c.loop-table.table.now (terminals_of c.args.tokens.now) c.args.from c.args.to _ c.in-len1-up.len_at_least
    (denied c.are_words.ensures c.if-are_words.false) c.loop-table.invariant

pub returns-then-are_words : goal.returns-then-are_words
returns-then-are_words c = left_found c.args.table.now c.loop-table.table.now (terminals_of c.args.tokens.now) c.args.from c.args.to _ c.in-len1-up.len_at_least
    (c.are_words.ensures.0 c.if-are_words.true) c.loop-table.invariant

pub returns : goal.returns
returns c = left_none c.args.table.now c.loop-table.table.now (terminals_of c.args.tokens.now) c.args.from c.args.to c.in_default.len_below c.loop-table.invariant
