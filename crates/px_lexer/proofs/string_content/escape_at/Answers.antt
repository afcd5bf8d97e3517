use Rattle.std.proofs.Common.{drop, arith, sym, ◌∙◌}
use Rattle.px_lexer.proofs.EscapeLemmas.{behind, next_of, escape-line_end, escape-octal, escape-x, escape-u, escape-U, escape-N, escape-simple, line_break_is}
use Rattle.px_lexer.proofs.string_content.escape_at.Goals as goal

pub returns-then-next-eq13 : goal.returns-then-next-eq13
returns-then-next-eq13 c =
    let n = next_of c.args.body.now c.args.at ∙ c.requires.next in
    let e = escape-line_end (drop c.args.at c.args.body.now) (rw n (line_break_is c.args.next c.then-next-eq13.either)) in
    rw (c.line_end_len.ensures, ← behind c.args.body.now c.args.at 1) (sym e)

pub returns-then-is_digit : goal.returns-then-is_digit
returns-then-is_digit c =
    let n = next_of c.args.body.now c.args.at ∙ c.requires.next in
    let e = escape-octal (drop c.args.at c.args.body.now) (rw n (sym c.is_digit.ensures.value ∙ c.if-is_digit.true)) in
    c.octal_escape.ensures ∙ sym e

pub returns-in-x : goal.returns-in-x
returns-in-x c = c.hex_escape.ensures ∙ sym (escape-x (drop c.args.at c.args.body.now) (next_of c.args.body.now c.args.at ∙ (c.requires.next ∙ c.in-x.is)))

pub returns-in-u : goal.returns-in-u
returns-in-u c = c.hex_escape-in-u.ensures ∙ sym (escape-u (drop c.args.at c.args.body.now) (next_of c.args.body.now c.args.at ∙ (c.requires.next ∙ c.in-u.is)))

pub returns-in-U : goal.returns-in-U
returns-in-U c = c.hex_escape-in-U.ensures ∙ sym (escape-U (drop c.args.at c.args.body.now) (next_of c.args.body.now c.args.at ∙ (c.requires.next ∙ c.in-U.is)))

pub returns-in-N : goal.returns-in-N
returns-in-N c = sym (escape-N (drop c.args.at c.args.body.now) (next_of c.args.body.now c.args.at ∙ (c.requires.next ∙ c.in-N.is)))

pub returns-in_default : goal.returns-in_default
returns-in_default c =
    let n = next_of c.args.body.now c.args.at ∙ c.requires.next in
    let e = escape-simple (drop c.args.at c.args.body.now) c.args.next n c.if-next-eq13.false c.if-next-eq10.false (sym c.is_digit.ensures.value ∙ c.if-is_digit.false) (omega arith) (omega arith) (omega arith) (omega arith) in
    c.simple_escape.ensures ∙ sym e
