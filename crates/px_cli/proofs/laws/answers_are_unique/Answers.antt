use Rattle.px_cli.proofs.AnswerLaws.{answers_unique}
use Rattle.px_cli.proofs.laws.answers_are_unique.Goals as goal

pub returns : goal.returns
returns c =
    answers_unique c.parsing_is_unique.ensures
    (λ m a b first also. c.typed_trees_are_unique.ensures a b (c.named_modules_are_unique.ensures m a b first also))
