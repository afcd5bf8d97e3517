use Rattle.std.proofs.Common.{◌≡◌, Option, Some, None, sym, subst, ◌∙◌, MatchOption}
use Rattle.std.specs.Prelude.{◌↔◌, IsTrue}
use Rattle.std.proofs.lemmas.Bool.{false≢true}
use Rattle.px_lexer.specs.declared.spelling.Operator.{Operator}
use Rattle.px_lexer.specs.contracts.spelling.Operator.{the_type}
use denote.Enum.Bare.{sameb, same_true, true_same}
use Rattle.std.specs.Option.{option_eq}
use Rattle.px_lexer.specs.Terminals.{IsOperator, terminals_of}
use Rattle.px_lexer.proofs.OneToken.{one_operator}
use Rattle.px_lexer.proofs.access.is_operator.Goals as goal

pub returns : goal.returns
returns c = told c.operator_at.result c.operator_at.ensures c.eq.ensures
  where
    told : (r : Option Operator) → MatchOption r ((o : Operator) → IsOperator (terminals_of c.args.tokens.now) c.args.at o → ⊥) (IsOperator (terminals_of c.args.tokens.now) c.args.at)
        → c.eq.result ≡ option_eq (sameb the_type) r (Some c.args.operator)
        → IsTrue c.eq.result ↔ IsOperator (terminals_of c.args.tokens.now) c.args.at c.args.operator
    told None none e = (λ holds. absurd (false≢true (sym e ∙ holds)), λ there. absurd (none c.args.operator there))
    told (Some o) there e = (
      λ holds. subst (IsOperator (terminals_of c.args.tokens.now) c.args.at) (same_true the_type tt o c.args.operator (sym e ∙ holds)) there,
      λ here. e ∙ true_same the_type o c.args.operator (one_operator there here),
    )
