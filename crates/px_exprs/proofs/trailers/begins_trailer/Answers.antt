use Rattle.std.proofs.Common.{MatchOption, subst}
use Rattle.std.proofs.lemmas.Bool.{false≢true}
use Rattle.px_lexer.specs.declared.spelling.Operator.{Operator}
use Rattle.px_lexer.specs.Terminals.{IsOperator, terminals_of}
use Rattle.px_exprs.proofs.TrailerSteps.{not_begun}
use Rattle.px_exprs.proofs.trailers.begins_trailer.Goals as goal

pub returns-in_default-2 : goal.returns-in_default-2
returns-in_default-2 c =
    let ts = terminals_of c.args.tokens.now in (
      λ told. absurd (false≢true told),
      λ h. absurd (not_begun (subst (λ r. MatchOption r ((o : Operator) → IsOperator ts c.args.at o → ⊥) (IsOperator ts c.args.at)) c.in_default.is c.operator_at.ensures) h),
    )
