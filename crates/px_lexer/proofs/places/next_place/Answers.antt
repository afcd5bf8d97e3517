use Rattle.std.proofs.Common.{arith, ap, sym, ◌∙◌}
use Rattle.std.specs.Char.{len_utf8}
use Rattle.std.proofs.lemmas.Str.{len_utf8_bounds}
use Rattle.px_lexer.proofs.PlaceLemmas.{few_characters, next_line, next_column}
use Rattle.px_lexer.proofs.places.next_place.Goals as goal

pub overflow_add-byte : goal.overflow_add-byte
overflow_add-byte c =
    let few = few_characters _ _ c.requires.whole.whole c.requires.whole.small in
    omega (arith, few, len_utf8_bounds c.code.result)

pub overflow_add-result : goal.overflow_add-result
overflow_add-result c = omega (arith, few_characters _ _ c.requires.whole.whole c.requires.whole.small)

pub overflow_add-result-then-line_ends : goal.overflow_add-result-then-line_ends
overflow_add-result-then-line_ends c = omega (arith, few_characters _ _ c.requires.whole.whole c.requires.whole.small)

pub overflow_add-result-else-line_ends : goal.overflow_add-result-else-line_ends
overflow_add-result-else-line_ends c = omega (arith, few_characters _ _ c.requires.whole.whole c.requires.whole.small)

pub overflow_add-result-else-line_ends-2 : goal.overflow_add-result-else-line_ends-2
overflow_add-result-else-line_ends-2 c = omega (arith, few_characters _ _ c.requires.whole.whole c.requires.whole.small)

pub returns-then-line_ends-clause-place : goal.returns-then-line_ends-clause-place
returns-then-line_ends-clause-place c =
    next_line c.args.source.now c.requires.whole c.args.place c.utf8_len.result c.requires.there c.requires.inside (c.utf8_len.ensures ∙ ap len_utf8 c.code.ensures) (sym c.line_ends.ensures ∙ c.if-line_ends.true)

pub returns-else-line_ends-clause-place : goal.returns-else-line_ends-clause-place
returns-else-line_ends-clause-place c =
    next_column c.args.source.now c.requires.whole c.args.place c.utf8_len.result c.requires.there c.requires.inside (c.utf8_len.ensures ∙ ap len_utf8 c.code.ensures) (sym c.line_ends.ensures ∙ c.if-line_ends.false)
