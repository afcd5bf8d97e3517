use Rattle.std.proofs.Common.{sym, ◌∙◌}
use Rattle.px_lexer.proofs.StrayLemmas.{refused_unreadable, refused_stray}
use Rattle.px_lexer.proofs.strays.stray.Goals as goal

pub returns-then-code-eq-UNREADABLE : goal.returns-then-code-eq-UNREADABLE
returns-then-code-eq-UNREADABLE c = refused_unreadable c.args.cs.now c.args.from c.requires.inside (sym c.code.ensures ∙ c.if-code-eq-UNREADABLE.true)

pub returns-else-code-eq-UNREADABLE : goal.returns-else-code-eq-UNREADABLE
returns-else-code-eq-UNREADABLE c = refused_stray c.args.cs.now c.args.from c.requires.inside (λ e. c.if-code-eq-UNREADABLE.false (c.code.ensures ∙ e))
