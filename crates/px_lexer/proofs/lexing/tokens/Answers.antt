use Rattle.std.proofs.Common.{subst, sym}
use Rattle.px_base.specs.declared.refusals.Refusal.{Refusal}
use Rattle.px_lexer.specs.Refusals.{BreaksCharacters}
use Rattle.px_lexer.proofs.TextLaws.{breaks_of_small}
use Rattle.px_lexer.proofs.FirstLaws.{too_large_first}
use Rattle.px_lexer.proofs.lexing.tokens.Goals as goal

pub returns-then-text-gt-SIZE_LIMIT-clause-refused : goal.returns-then-text-gt-SIZE_LIMIT-clause-refused
returns-then-text-gt-SIZE_LIMIT-clause-refused c = too_large_first c.args.text.now c.if-text-gt-SIZE_LIMIT.true

pub returns-clause-clean : goal.returns-clause-clean
returns-clause-clean c = λ (refusal : Refusal) broken. c.in_ok-list.ensures.clean refusal (subst (λ cs. BreaksCharacters cs refusal) (sym c.in_ok-characters.ensures) (breaks_of_small c.args.text.now refusal c.if-text-gt-SIZE_LIMIT.false broken))
