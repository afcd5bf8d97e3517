use Rattle.std.proofs.Common.{◌≡◌, false, sym, ap, ◌∙◌}
use Rattle.std.specs.Prelude.{◌==◌, slice_index}
use Rattle.std.proofs.lemmas.Bool.{ne_eqb}
use Rattle.px_lexer.specs.Places.{is_line_break}
use Rattle.px_lexer.specs.Pieces.{is_blank}
use Rattle.px_lexer.proofs.FormLemmas.{is_word, is_number}
use Rattle.px_lexer.proofs.forms.form_at.Goals as goal

pub returns-then-starts_word : goal.returns-then-starts_word
returns-then-starts_word c =
    let blank = sym (ap is_blank c.code-c.ensures) ∙ sym c.is_blank.ensures ∙ c.if-is_blank.false in
    let line_break = sym (ap is_line_break c.code-c.ensures) ∙ sym c.is_line_break.ensures ∙ c.if-is_line_break.false in
    let join = sym c.joins_lines.ensures ∙ c.if-joins_lines.false in
    let comment : (slice_index c.args.cs.now c.args.at == 35) ≡ false = ne_eqb _ 35 (λ e. c.if-c-from.false (c.code-c.ensures ∙ e ∙ sym c.from.ensures)) in
    let text = sym c.opens_string.ensures ∙ c.if-opens_string.false in
    let word = sym c.starts_word.ensures ∙ c.if-starts_word.true in
    is_word c.args.cs.now c.args.at blank line_break join comment text word

pub returns-then-begins_number : goal.returns-then-begins_number
returns-then-begins_number c =
    let blank = sym (ap is_blank c.code-c.ensures) ∙ sym c.is_blank.ensures ∙ c.if-is_blank.false in
    let line_break = sym (ap is_line_break c.code-c.ensures) ∙ sym c.is_line_break.ensures ∙ c.if-is_line_break.false in
    let join = sym c.joins_lines.ensures ∙ c.if-joins_lines.false in
    let comment : (slice_index c.args.cs.now c.args.at == 35) ≡ false = ne_eqb _ 35 (λ e. c.if-c-from.false (c.code-c.ensures ∙ e ∙ sym c.from.ensures)) in
    let text = sym c.opens_string.ensures ∙ c.if-opens_string.false in
    let word = sym c.starts_word.ensures ∙ c.if-starts_word.false in
    let number = sym c.begins_number.ensures ∙ c.if-begins_number.true in
    is_number c.args.cs.now c.args.at blank line_break join comment text word number
