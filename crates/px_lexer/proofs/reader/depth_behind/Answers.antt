use Rattle.std.proofs.Common.{arith, sym, ◌∙◌}
use Rattle.px_lexer.proofs.ReaderLemmas.{depth_long, depth_opened, depth_closed, depth_kept}
use Rattle.px_lexer.proofs.reader.depth_behind.Goals as goal

pub returns-then-to-from-gt1 : goal.returns-then-to-from-gt1
returns-then-to-from-gt1 c = depth_long c.args.cs.now c.args.depth c.args.from c.args.to c.requires.within (omega arith)

pub returns-then-opens : goal.returns-then-opens
returns-then-opens c =
    depth_opened c.args.cs.now c.args.depth c.args.from c.args.to c.code-code.result c.requires.forward c.requires.within (omega arith) c.code-code.ensures (sym c.opens.ensures ∙ c.if-opens.true)

pub returns-then-closes : goal.returns-then-closes
returns-then-closes c = λ form.
    c.saturating_sub.ensures ∙ depth_closed c.args.cs.now c.args.depth c.args.from c.args.to c.code-code.result c.requires.forward c.requires.within (omega arith) c.code-code.ensures (sym c.opens.ensures ∙ c.if-opens.false) (sym c.closes.ensures ∙ c.if-closes.true) form

pub returns-else-closes : goal.returns-else-closes
returns-else-closes c =
    depth_kept c.args.cs.now c.args.depth c.args.from c.args.to c.code-code.result c.requires.forward c.requires.within (omega arith) c.code-code.ensures (sym c.opens.ensures ∙ c.if-opens.false) (sym c.closes.ensures ∙ c.if-closes.false)
