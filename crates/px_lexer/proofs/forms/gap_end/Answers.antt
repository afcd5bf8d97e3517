use Rattle.std.proofs.Common.{drop, refl, sym, subst, arith}
use Rattle.px_lexer.specs.Pieces.{HasLength}
use Rattle.px_lexer.specs.Readers.{EndsAt}
use Rattle.px_lexer.proofs.FormLemmas.{comment_len, gap_ends, join_ends}
use Rattle.px_lexer.proofs.forms.gap_end.Goals as goal

pub returns-in-Join : goal.returns-in-Join
returns-in-Join c = join_ends c.args.form c.args.cs.now c.args.from c.line_end_len-in-Join.result c.requires.inside c.requires.stands c.requires.gap c.in-Join.is c.line_end_len-in-Join.ensures

pub overflow_add-result-in-Join-2 : goal.overflow_add-result-in-Join-2
overflow_add-result-in-Join-2 c =
    let ends = join_ends c.args.form c.args.cs.now c.args.from c.line_end_len-in-Join.result c.requires.inside c.requires.stands c.requires.gap c.in-Join.is c.line_end_len-in-Join.ensures in
    omega (arith, ends.within)

pub returns-in-Comment : goal.returns-in-Comment
returns-in-Comment c =
    let n = comment_len (drop c.args.from c.args.cs.now) in
    let whole = subst (λ f. HasLength f (drop c.args.from c.args.cs.now) n) (sym c.in-Comment.is) refl in
    subst (λ to. EndsAt c.args.form c.args.cs.now c.args.from to) (sym c.comment_end.ensures) (gap_ends c.args.form c.args.cs.now c.args.from n c.requires.inside c.requires.stands c.requires.gap whole)
