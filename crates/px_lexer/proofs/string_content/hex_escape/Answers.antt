use Rattle.std.proofs.Common.{drop, arith, sym}
use Rattle.px_lexer.proofs.EscapeLemmas.{behind, powers_of_sixteen, hex_escape-few, hex_escape-no_scalar, hex_escape-is}
use Rattle.px_lexer.proofs.string_content.hex_escape.Goals as goal

pub returns-then-digits_len-count : goal.returns-then-digits_len-count
returns-then-digits_len-count c =
    let e = behind c.args.body.now c.args.at 2 in
    sym (hex_escape-few c.args.count (drop c.args.at c.args.body.now) (rw e (omega arith)))

pub number-requires-clause-fits : goal.number-requires-clause-fits
number-requires-clause-fits c = powers_of_sixteen c.args.count c.requires.few

pub returns-in_err-c : goal.returns-in_err-c
returns-in_err-c c =
    let e = behind c.args.body.now c.args.at 2 in
    let v = c.number.ensures.value in
    rw c.from_residual.ensures (sym (hex_escape-no_scalar c.args.count (drop c.args.at c.args.body.now) (rw (e, ← v) c.in_err-c.ensures.value)))

pub returns : goal.returns
returns c =
    let e = behind c.args.body.now c.args.at 2 in
    let v = c.number.ensures.value in
    let s = c.in_ok-c.ensures.value in
    rw (s.1, v, ← e) (sym (hex_escape-is c.args.count (drop c.args.at c.args.body.now) (rw e (omega arith)) (rw (e, ← v) s.0)))
