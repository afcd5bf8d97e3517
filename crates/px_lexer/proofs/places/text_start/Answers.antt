use Rattle.std.proofs.Common.{refl, sym, ◌∙◌, add-zero}
use Rattle.px_lexer.specs.Places.{lines_before, columns_before}
use Rattle.px_lexer.proofs.places.text_start.Goals as goal

pub returns-clause-place : goal.returns-clause-place
unfolding lines_before columns_before
returns-clause-place c = record { line = refl; column = refl; byte = c.mark_len-byte.ensures.value ∙ sym (add-zero _) }
