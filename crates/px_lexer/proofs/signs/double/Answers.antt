use Rattle.std.proofs.Common.{◌<◌, sym, ◌∙◌, arith, rules, tests}
use Rattle.px_lexer.specs.Signs.{operators, foreign_signs}
use Rattle.px_lexer.specs.SignSteps.{kind_if_sign}
use Rattle.px_lexer.proofs.SignLemmas.{no_double}
use Rattle.px_lexer.proofs.signs.double.Goals as goal

pub returns-in_err-from_u32 : goal.returns-in_err-from_u32
returns-in_err-from_u32 c = let big : 126 < c.args.c = omega (arith, c.in_err-from_u32.ensures.cases) in c.from_residual.ensures ∙ sym (no_double c.args.c big)

pub returns-in-61 : goal.returns-in-61
unfolding kind_if_sign operators foreign_signs
returns-in-61 c = rw (sym c.in_ok-from_u32.ensures.value.1 ∙ c.in-61.is)

pub returns-in-47 : goal.returns-in-47
unfolding kind_if_sign operators foreign_signs
returns-in-47 c = rw (sym c.in_ok-from_u32.ensures.value.1 ∙ c.in-47.is)

pub returns-in-60 : goal.returns-in-60
unfolding kind_if_sign operators foreign_signs
returns-in-60 c = rw (sym c.in_ok-from_u32.ensures.value.1 ∙ c.in-60.is)

pub returns-in-62 : goal.returns-in-62
unfolding kind_if_sign operators foreign_signs
returns-in-62 c = rw (sym c.in_ok-from_u32.ensures.value.1 ∙ c.in-62.is)

pub returns-in-42 : goal.returns-in-42
unfolding kind_if_sign operators foreign_signs
returns-in-42 c = rw (sym c.in_ok-from_u32.ensures.value.1 ∙ c.in-42.is)

pub returns-in_default : goal.returns-in_default
unfolding kind_if_sign operators foreign_signs
returns-in_default c = search (tests, rules)
