use Rattle.std.proofs.Common.{arith, refl}
use Rattle.px_lexer.proofs.EscapeLemmas.{behind, powers_of_eight, low_is_scalar}
use Rattle.px_lexer.proofs.string_content.octal_escape.Goals as goal

pub number-requires-clause-fits : goal.number-requires-clause-fits
number-requires-clause-fits c =
    let p = powers_of_eight c.digits_len-count.result (omega arith) in
    omega arith

pub returns-in_err-c : goal.returns-in_err-c
returns-in_err-c c =
    let p = powers_of_eight c.digits_len-count.result (omega arith) in
    absurd (c.in_err-c.ensures.value (low_is_scalar c.number.result (omega arith)))

pub returns : goal.returns
returns c =
    let e = behind c.args.body.now c.args.at 1 in
    rw (c.in_ok-c.ensures.value.1, c.number.ensures.value, c.digits_len-count.ensures, e) refl
