use Rattle.std.proofs.Common.{◌≤◌, [], sym, arith}
use Rattle.std.proofs.lemmas.List.{get_or_past}
use Rattle.px_base.specs.Lines.{row_texts}
use Rattle.px_base.proofs.lines.text_of_row.Goals as goal

pub returns-in_default : goal.returns-in_default
unfolding row_texts
returns-in_default c =
    let past : 35 ≤ c.args.row = omega arith in
    sym (get_or_past row_texts c.args.row [] past)
