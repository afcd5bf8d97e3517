use Rattle.std.proofs.Common.{◌<◌, sym, ◌∙◌, arith, rules, tests}
use Rattle.px_lexer.specs.Signs.{operators}
use Rattle.px_lexer.proofs.SignLemmas.{no_single}
use Rattle.px_lexer.proofs.signs.single.Goals as goal

pub returns-in_err-from_u32 : goal.returns-in_err-from_u32
returns-in_err-from_u32 c = let big : 126 < c.args.c = omega (arith, c.in_err-from_u32.ensures.cases) in c.from_residual.ensures ∙ sym (no_single c.args.c big)

pub returns-in-43 : goal.returns-in-43
unfolding operators
returns-in-43 c = rw (sym c.in_ok-from_u32.ensures.value.1 ∙ c.in-43.is)

pub returns-in-45 : goal.returns-in-45
unfolding operators
returns-in-45 c = rw (sym c.in_ok-from_u32.ensures.value.1 ∙ c.in-45.is)

pub returns-in-42 : goal.returns-in-42
unfolding operators
returns-in-42 c = rw (sym c.in_ok-from_u32.ensures.value.1 ∙ c.in-42.is)

pub returns-in-37 : goal.returns-in-37
unfolding operators
returns-in-37 c = rw (sym c.in_ok-from_u32.ensures.value.1 ∙ c.in-37.is)

pub returns-in-38 : goal.returns-in-38
unfolding operators
returns-in-38 c = rw (sym c.in_ok-from_u32.ensures.value.1 ∙ c.in-38.is)

pub returns-in-124 : goal.returns-in-124
unfolding operators
returns-in-124 c = rw (sym c.in_ok-from_u32.ensures.value.1 ∙ c.in-124.is)

pub returns-in-94 : goal.returns-in-94
unfolding operators
returns-in-94 c = rw (sym c.in_ok-from_u32.ensures.value.1 ∙ c.in-94.is)

pub returns-in-126 : goal.returns-in-126
unfolding operators
returns-in-126 c = rw (sym c.in_ok-from_u32.ensures.value.1 ∙ c.in-126.is)

pub returns-in-60 : goal.returns-in-60
unfolding operators
returns-in-60 c = rw (sym c.in_ok-from_u32.ensures.value.1 ∙ c.in-60.is)

pub returns-in-62 : goal.returns-in-62
unfolding operators
returns-in-62 c = rw (sym c.in_ok-from_u32.ensures.value.1 ∙ c.in-62.is)

pub returns-in-40 : goal.returns-in-40
unfolding operators
returns-in-40 c = rw (sym c.in_ok-from_u32.ensures.value.1 ∙ c.in-40.is)

pub returns-in-41 : goal.returns-in-41
unfolding operators
returns-in-41 c = rw (sym c.in_ok-from_u32.ensures.value.1 ∙ c.in-41.is)

pub returns-in-91 : goal.returns-in-91
unfolding operators
returns-in-91 c = rw (sym c.in_ok-from_u32.ensures.value.1 ∙ c.in-91.is)

pub returns-in-93 : goal.returns-in-93
unfolding operators
returns-in-93 c = rw (sym c.in_ok-from_u32.ensures.value.1 ∙ c.in-93.is)

pub returns-in-123 : goal.returns-in-123
unfolding operators
returns-in-123 c = rw (sym c.in_ok-from_u32.ensures.value.1 ∙ c.in-123.is)

pub returns-in-125 : goal.returns-in-125
unfolding operators
returns-in-125 c = rw (sym c.in_ok-from_u32.ensures.value.1 ∙ c.in-125.is)

pub returns-in-44 : goal.returns-in-44
unfolding operators
returns-in-44 c = rw (sym c.in_ok-from_u32.ensures.value.1 ∙ c.in-44.is)

pub returns-in-58 : goal.returns-in-58
unfolding operators
returns-in-58 c = rw (sym c.in_ok-from_u32.ensures.value.1 ∙ c.in-58.is)

pub returns-in-46 : goal.returns-in-46
unfolding operators
returns-in-46 c = rw (sym c.in_ok-from_u32.ensures.value.1 ∙ c.in-46.is)

pub returns-in-59 : goal.returns-in-59
unfolding operators
returns-in-59 c = rw (sym c.in_ok-from_u32.ensures.value.1 ∙ c.in-59.is)

pub returns-in-64 : goal.returns-in-64
unfolding operators
returns-in-64 c = rw (sym c.in_ok-from_u32.ensures.value.1 ∙ c.in-64.is)

pub returns-in-61 : goal.returns-in-61
unfolding operators
returns-in-61 c = rw (sym c.in_ok-from_u32.ensures.value.1 ∙ c.in-61.is)

pub returns-in-63 : goal.returns-in-63
unfolding operators
returns-in-63 c = rw (sym c.in_ok-from_u32.ensures.value.1 ∙ c.in-63.is)

pub returns-in_default : goal.returns-in_default
unfolding operators
returns-in_default c = search (tests, rules)
