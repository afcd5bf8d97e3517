use Rattle.std.proofs.Common.{◌≤◌, [], sym, arith}
use Rattle.std.proofs.lemmas.List.{get_or_past}
use Rattle.px_base.specs.Lines.{rule_texts}
use Rattle.px_base.proofs.lines.text_of_rule.Goals as goal

pub returns-in_default : goal.returns-in_default
unfolding rule_texts
returns-in_default c =
    let past : 28 ≤ c.args.number = omega arith in
    sym (get_or_past rule_texts c.args.number [] past)
