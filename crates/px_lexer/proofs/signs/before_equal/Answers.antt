use Rattle.std.proofs.Common.{◌<◌, sym, ◌∙◌, arith, rules, tests}
use Rattle.px_lexer.specs.Signs.{operators, foreign_signs}
use Rattle.px_lexer.specs.SignSteps.{kind_if_sign}
use Rattle.px_lexer.proofs.SignLemmas.{no_before_equal}
use Rattle.px_lexer.proofs.signs.before_equal.Goals as goal

pub returns-in_err-from_u32 : goal.returns-in_err-from_u32
returns-in_err-from_u32 c = let big : 126 < c.args.c = omega (arith, c.in_err-from_u32.ensures.cases) in c.from_residual.ensures ∙ sym (no_before_equal c.args.c big)

pub returns-in-61 : goal.returns-in-61
unfolding kind_if_sign operators foreign_signs
returns-in-61 c = rw (sym c.in_ok-from_u32.ensures.value.1 ∙ c.in-61.is)

pub returns-in-33 : goal.returns-in-33
unfolding kind_if_sign operators foreign_signs
returns-in-33 c = rw (sym c.in_ok-from_u32.ensures.value.1 ∙ c.in-33.is)

pub returns-in-60 : goal.returns-in-60
unfolding kind_if_sign operators foreign_signs
returns-in-60 c = rw (sym c.in_ok-from_u32.ensures.value.1 ∙ c.in-60.is)

pub returns-in-62 : goal.returns-in-62
unfolding kind_if_sign operators foreign_signs
returns-in-62 c = rw (sym c.in_ok-from_u32.ensures.value.1 ∙ c.in-62.is)

pub returns-in-43 : goal.returns-in-43
unfolding kind_if_sign operators foreign_signs
returns-in-43 c = rw (sym c.in_ok-from_u32.ensures.value.1 ∙ c.in-43.is)

pub returns-in-45 : goal.returns-in-45
unfolding kind_if_sign operators foreign_signs
returns-in-45 c = rw (sym c.in_ok-from_u32.ensures.value.1 ∙ c.in-45.is)

pub returns-in-42 : goal.returns-in-42
unfolding kind_if_sign operators foreign_signs
returns-in-42 c = rw (sym c.in_ok-from_u32.ensures.value.1 ∙ c.in-42.is)

pub returns-in-37 : goal.returns-in-37
unfolding kind_if_sign operators foreign_signs
returns-in-37 c = rw (sym c.in_ok-from_u32.ensures.value.1 ∙ c.in-37.is)

pub returns-in-38 : goal.returns-in-38
unfolding kind_if_sign operators foreign_signs
returns-in-38 c = rw (sym c.in_ok-from_u32.ensures.value.1 ∙ c.in-38.is)

pub returns-in-124 : goal.returns-in-124
unfolding kind_if_sign operators foreign_signs
returns-in-124 c = rw (sym c.in_ok-from_u32.ensures.value.1 ∙ c.in-124.is)

pub returns-in-94 : goal.returns-in-94
unfolding kind_if_sign operators foreign_signs
returns-in-94 c = rw (sym c.in_ok-from_u32.ensures.value.1 ∙ c.in-94.is)

pub returns-in-47 : goal.returns-in-47
unfolding kind_if_sign operators foreign_signs
returns-in-47 c = rw (sym c.in_ok-from_u32.ensures.value.1 ∙ c.in-47.is)

pub returns-in-64 : goal.returns-in-64
unfolding kind_if_sign operators foreign_signs
returns-in-64 c = rw (sym c.in_ok-from_u32.ensures.value.1 ∙ c.in-64.is)

pub returns-in-58 : goal.returns-in-58
unfolding kind_if_sign operators foreign_signs
returns-in-58 c = rw (sym c.in_ok-from_u32.ensures.value.1 ∙ c.in-58.is)

pub returns-in_default : goal.returns-in_default
unfolding kind_if_sign operators foreign_signs
returns-in_default c = search (tests, rules)
