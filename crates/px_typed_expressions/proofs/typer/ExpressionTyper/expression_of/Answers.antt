use Rattle.std.proofs.Common.{sym, ap, ◌∙◌}
use Rattle.px_walk.specs.HeadForms.{form_of}
use Rattle.px_walk.specs.Nodes.{rose_of}
use Rattle.px_walk.specs.Roses.{head_of, number_of, at_of, parts_of}
use Rattle.px_operators.specs.Kept.{parts_kept, operands_kept}
use Rattle.px_typed_expressions.specs.Typers.{environment_of}
use Rattle.px_typed_expressions.proofs.ExpressionLogic.{and_gives, or_gives}
use Rattle.px_typed_expressions.proofs.typer.ExpressionTyper.expression_of.Goals as goal

pub returns-in_ok-operands-in-And : goal.returns-in_ok-operands-in-And
returns-in_ok-operands-in-And c =
    let tree = rose_of c.args.node in
    and_gives (environment_of c.args.self.now) (head_of tree) c.logic_of.result c.number-number.result (number_of tree) c.at-at.result (at_of tree) (parts_of tree)
    (parts_kept c.args.parts.items) (operands_kept c.in_ok-operands-in-And.operands.items)
    (sym c.head.ensures ∙ ap form_of c.in-And.is) c.in_ok-operands-in-And.ensures c.number-number.ensures c.at-at.ensures c.logic_of.ensures

pub returns-in_ok-operands-in-Or : goal.returns-in_ok-operands-in-Or
returns-in_ok-operands-in-Or c =
    let tree = rose_of c.args.node in
    or_gives (environment_of c.args.self.now) (head_of tree) c.logic_of-in-Or.result c.number-number.result (number_of tree) c.at-at.result (at_of tree) (parts_of tree)
    (parts_kept c.args.parts.items) (operands_kept c.in_ok-operands-in-Or.operands.items)
    (sym c.head.ensures ∙ ap form_of c.in-Or.is) c.in_ok-operands-in-Or.ensures c.number-number.ensures c.at-at.ensures c.logic_of-in-Or.ensures
