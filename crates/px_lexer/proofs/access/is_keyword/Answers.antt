use Rattle.std.proofs.Common.{◌≡◌, Option, Some, None, sym, subst, ◌∙◌, MatchOption}
use Rattle.std.specs.Prelude.{◌↔◌, IsTrue}
use Rattle.std.proofs.lemmas.Bool.{false≢true}
use Rattle.px_lexer.specs.declared.spelling.Keyword.{Keyword}
use Rattle.px_lexer.specs.contracts.spelling.Keyword.{the_type}
use denote.Enum.Bare.{sameb, same_true, true_same}
use Rattle.std.specs.Option.{option_eq}
use Rattle.px_lexer.specs.Terminals.{IsKeyword, terminals_of}
use Rattle.px_lexer.proofs.OneToken.{one_keyword}
use Rattle.px_lexer.proofs.access.is_keyword.Goals as goal

pub returns : goal.returns
returns c = told c.keyword_at.result c.keyword_at.ensures c.eq.ensures
  where
    told : (r : Option Keyword) → MatchOption r ((k : Keyword) → IsKeyword (terminals_of c.args.tokens.now) c.args.at k → ⊥) (IsKeyword (terminals_of c.args.tokens.now) c.args.at)
        → c.eq.result ≡ option_eq (sameb the_type) r (Some c.args.keyword)
        → IsTrue c.eq.result ↔ IsKeyword (terminals_of c.args.tokens.now) c.args.at c.args.keyword
    told None none e = (λ holds. absurd (false≢true (sym e ∙ holds)), λ there. absurd (none c.args.keyword there))
    told (Some k) there e = (
      λ holds. subst (IsKeyword (terminals_of c.args.tokens.now) c.args.at) (same_true the_type tt k c.args.keyword (sym e ∙ holds)) there,
      λ here. e ∙ true_same the_type k c.args.keyword (one_keyword there here),
    )
