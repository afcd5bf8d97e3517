use Rattle.std.proofs.Common.{◌+◌, arith, sym, ◌∙◌}
use Rattle.std.proofs.lemmas.Bool.{false≢true}
use Rattle.px_lexer.specs.StringSteps.{given_of}
use Rattle.px_lexer.proofs.EscapeLemmas.{line_break_is}
use Rattle.px_lexer.proofs.StringContentLemmas.{read_none, read_character, read_line_end, read_escape, escape_within, no_line_break, over_where_unread, lone_is_good, lone_escapes, all_good, read_all}
use Rattle.px_lexer.proofs.string_content.escaped_content.Goals as goal
use Rattle.px_lexer.proofs.string_content.escaped_content.Goals.{in-Some+then-c-eq92+in_default-character, in_default}

pub loop-c-init : goal.loop-c-init
loop-c-init c = rw c.new-content.ensures (read_none c.args.body.now)

pub overflow_add-at-then-c-eq92 : goal.overflow_add-at-then-c-eq92
overflow_add-at-then-c-eq92 c =
    let w = escape_within c.args.body.now c.loop-c.at (record { taken = c.in-Some-escape_at.escape.taken; given = given_of c.in-Some-escape_at.escape.given }) c.in-Some-character.ensures.cases.0 (sym c.in-Some-escape_at.ensures) in
    omega (arith, c.in-Some.ensures.short)

pub loop-c-smaller-then-c-eq92 : goal.loop-c-smaller-then-c-eq92
loop-c-smaller-then-c-eq92 c =
    let w = escape_within c.args.body.now c.loop-c.at (record { taken = c.in-Some-escape_at.escape.taken; given = given_of c.in-Some-escape_at.escape.given }) c.in-Some-character.ensures.cases.0 (sym c.in-Some-escape_at.ensures) in
    omega arith

pub loop-c-preserved-then-c-eq92 : goal.loop-c-preserved-then-c-eq92
loop-c-preserved-then-c-eq92 c =
    rw c.in_ok-give.ensures (read_escape c.args.body.now c.loop-c.at c.loop-c.content (record { taken = c.in-Some-escape_at.escape.taken; given = given_of c.in-Some-escape_at.escape.given }) c.loop-c.invariant c.in-Some-character.ensures.cases.0 (c.in-Some.ensures.cases.1 ∙ c.if-c-eq92.true) (sym c.in-Some-escape_at.ensures))

pub loop-c-preserved-then-c-eq10 : goal.loop-c-preserved-then-c-eq10
loop-c-preserved-then-c-eq10 c =
    let b = line_break_is c.in-Some.c c.if-c-eq10.either in
    rw c.in_ok-push.ensures.ok (read_line_end c.args.body.now c.loop-c.at c.line_end_len-at.result c.loop-c.content c.loop-c.invariant c.in-Some.ensures.cases.0 (rw c.in-Some.ensures.cases.1 b) c.line_end_len-at.ensures)

pub loop-c-preserved : goal.loop-c-preserved
loop-c-preserved c =
    rw c.in_ok-push-2.ensures.ok (read_character c.args.body.now c.loop-c.at c.in-Some.c c.loop-c.content c.loop-c.invariant c.in-Some.ensures.cases.0 c.in-Some.ensures.cases.1 c.if-c-eq92.false (no_line_break c.in-Some.c (omega arith) (omega arith)))

pub returns : goal.returns
returns c = elim c.match-character.branch [
  | in-Some+then-c-eq92+in_default-character w ↦
      let past = over_where_unread c.args.body.now (c.loop-c.at + 1) c.requires w.in_default-character.ensures.cases in
      let b = w.in-Some.ensures.cases.1 ∙ w.if-c-eq92.true in (
        lone_is_good c.args.body.now c.loop-c.at c.loop-c.invariant.good w.in-Some.ensures.cases.0 past b,
        λ e. absurd (false≢true (sym e ∙ lone_escapes c.args.body.now c.loop-c.at c.loop-c.invariant.begins w.in-Some.ensures.cases.0 past b)),
      )
  | in_default w ↦
      let past = over_where_unread c.args.body.now c.loop-c.at c.requires w.in_default.ensures.cases in
      (all_good c.args.body.now c.loop-c.at c.loop-c.invariant.good past, λ e. read_all c.args.body.now c.loop-c.at c.loop-c.content c.loop-c.invariant past)
]
