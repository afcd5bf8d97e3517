use Rattle.std.proofs.Common.{refl, subst, MatchOption}
use Rattle.std.proofs.lemmas.Bool.{false≢true}
use Rattle.px_lexer.specs.declared.token_list.TokenKind.{TokenKind}
use Rattle.px_lexer.specs.declared.token_list.TokenKind.TheVariants as kind
use Rattle.px_lexer.specs.Terminals.{HasKind, terminals_of}
use Rattle.px_parser.proofs.words.is_dedent.Goals as goal

pub returns-in-Some-Dedent : goal.returns-in-Some-Dedent
returns-in-Some-Dedent c = (λ _. subst (HasKind (terminals_of c.args.tokens.now) c.args.at) c.in-Some-Dedent.field-0-is c.in-Some-Dedent.ensures, λ _. refl)

pub returns-in_default-2 : goal.returns-in_default-2
returns-in_default-2 c =
    let ts = terminals_of c.args.tokens.now in (
      λ holds. absurd (false≢true holds),
      λ h. absurd (subst (λ r. MatchOption r ((k : TokenKind) → HasKind ts c.args.at k → ⊥) (λ k. HasKind ts c.args.at k.now)) c.in_default.is c.kind_at.ensures kind.Dedent h),
    )
