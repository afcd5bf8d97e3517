use Rattle.std.proofs.Common.{ap, ◌∙◌}
use Rattle.px_tree.specs.declared.statements.StmtForm.TheVariants as statement
use Rattle.px_lexer.proofs.OneToken.{one_place}
use Rattle.px_parser.specs.StatementGrammar.{declaration_of, statement_node}
use Rattle.px_parser.proofs.variables.declare_node.Goals as goal

pub returns : goal.returns
returns c =
    let same = one_place c.declaration.ensures.1 c.place.ensures in
    (c.place.result, c.place.ensures, ap (λ d. statement_node c.args.found.1.1 c.place.result (statement.Declare d)) (c.declaration.ensures.2 ∙ ap (λ s. declaration_of c.args.at s c.args.found) same))
