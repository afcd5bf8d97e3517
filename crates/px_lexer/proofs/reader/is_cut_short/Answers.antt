use Rattle.px_lexer.proofs.ReaderLemmas.{cut_decides, not_cut}
use Rattle.px_lexer.proofs.reader.is_cut_short.Goals as goal

pub returns-then-len-gt0 : goal.returns-then-len-gt0
returns-then-len-gt0 c = cut_decides c.args.cs.now c.len-len.result c.code.result c.len-len.ensures c.if-len-gt0.true c.code.ensures

pub returns-else-len-gt0 : goal.returns-else-len-gt0
returns-else-len-gt0 c = not_cut c.args.cs.now c.len-len.result c.len-len.ensures c.if-len-gt0.false
