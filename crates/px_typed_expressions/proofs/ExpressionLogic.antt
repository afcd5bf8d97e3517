-- `and` and `or` as expressions.
use Rattle.std.proofs.Common.{◌≡◌, ℕ, List, sym, ap, subst, ◌∙◌}
use Rattle.std.specs.Prelude.{Result, Ok}
use Rattle.px_base.specs.declared.refusals.Span.{Span}
use Rattle.px_base.specs.declared.refusals.Trouble.{Trouble}
use Rattle.px_tree.specs.declared.typed_trees.TypedTree.{TypedTree}
use Rattle.px_tree.specs.declared.typed_heads.TypedHead.TheVariants as head
use Rattle.px_walk.specs.Forms.{Form}
use Rattle.px_walk.specs.Forms as form
use Rattle.px_walk.specs.ExprView.{Tree}
use Rattle.px_typed_walk.specs.TypedView.{TypedRose, rose_of_typed}
use Rattle.px_operators.specs.declared.operators.Logic.TheVariants as logic
use Rattle.px_operators.specs.Outcomes.{Outcome, Gives, followed}
use Rattle.px_operators.specs.Operators.{Operand, operands, logic_of}
use Rattle.px_operators.specs.OperatorsKept.{head_of_logic}
use Rattle.px_environments.specs.Environments.{Environment}
use Rattle.px_typed_expressions.specs.Expressions.{expression_of}

pub and_gives : (environment : Environment) (f : Form) (made : Result TypedTree Trouble) (number numbered : ℕ) (place at : Span) (parts : List Tree) (outcomes : List (Outcome TypedRose)) (taken : List Operand)
    → f ≡ form.And → operands outcomes ≡ Ok taken → number ≡ numbered → place ≡ at
    → Gives rose_of_typed made (logic_of (head_of_logic logic.And) number place taken) → Gives rose_of_typed made (expression_of environment f numbered at parts outcomes)
and_gives environment f made number numbered place at parts outcomes taken is taken_are number_is at_is gives =
    subst (λ (o : Outcome TypedRose). Gives rose_of_typed made o)
    (ap (λ (n : ℕ). logic_of (head_of_logic logic.And) n place taken) number_is
    ∙ ap (λ (a : Span). logic_of (head_of_logic logic.And) numbered a taken) at_is
    ∙ sym (ap (λ (g : Form). expression_of environment g numbered at parts outcomes) is ∙ ap (λ (o : Outcome (List Operand)). followed o (logic_of head.And numbered at)) taken_are))
    gives

pub or_gives : (environment : Environment) (f : Form) (made : Result TypedTree Trouble) (number numbered : ℕ) (place at : Span) (parts : List Tree) (outcomes : List (Outcome TypedRose)) (taken : List Operand)
    → f ≡ form.Or → operands outcomes ≡ Ok taken → number ≡ numbered → place ≡ at
    → Gives rose_of_typed made (logic_of (head_of_logic logic.Or) number place taken) → Gives rose_of_typed made (expression_of environment f numbered at parts outcomes)
or_gives environment f made number numbered place at parts outcomes taken is taken_are number_is at_is gives =
    subst (λ (o : Outcome TypedRose). Gives rose_of_typed made o)
    (ap (λ (n : ℕ). logic_of (head_of_logic logic.Or) n place taken) number_is
    ∙ ap (λ (a : Span). logic_of (head_of_logic logic.Or) numbered a taken) at_is
    ∙ sym (ap (λ (g : Form). expression_of environment g numbered at parts outcomes) is ∙ ap (λ (o : Outcome (List Operand)). followed o (logic_of head.Or numbered at)) taken_are))
    gives
