use Rattle.std.proofs.Common.{◌+◌, MatchOption, subst, arith}
use Rattle.px_lexer.specs.declared.spelling.Keyword.{Keyword}
use Rattle.px_lexer.specs.declared.spelling.Keyword.TheVariants as word
use Rattle.px_lexer.specs.declared.token_list.TokenKind.TheVariants as kind
use Rattle.px_lexer.specs.Terminals.{IsKeyword, terminals_of}
use Rattle.px_exprs.specs.Grammar.{IsCompareOp, compare_signs}
use Rattle.px_exprs.specs.Parts.{BeginsComparison}
use Rattle.px_exprs.proofs.TokenReading.{goes_on}
use Rattle.px_exprs.proofs.ComparisonSteps.{begins_inside}
use Rattle.px_exprs.proofs.operators.compare_operator.Goals as goal

pub overflow_add-result : goal.overflow_add-result
overflow_add-result c = omega (arith, begins_inside c.args.tokens.now c.args.at c.requires.input c.requires.begins, c.requires.input.few)

pub returns-in-Some-clause-read : goal.returns-in-Some-clause-read
unfolding compare_signs
returns-in-Some-clause-read c = IsCompareOp.by_sign c.in-Some.ensures (omega arith)

pub returns-in-Some-clause-inside : goal.returns-in-Some-clause-inside
returns-in-Some-clause-inside c = omega (arith, begins_inside c.args.tokens.now c.args.at c.requires.input c.requires.begins)

pub overflow_add-result-in-Some-In : goal.overflow_add-result-in-Some-In
overflow_add-result-in-Some-In c = omega (arith, begins_inside c.args.tokens.now c.args.at c.requires.input c.requires.begins, c.requires.input.few)

pub overflow_add-at : goal.overflow_add-at
overflow_add-at c = omega (arith, begins_inside c.args.tokens.now c.args.at c.requires.input c.requires.begins, c.requires.input.few)

pub overflow_add-result-then-is_keyword : goal.overflow_add-result-then-is_keyword
overflow_add-result-then-is_keyword c =
    omega (arith, goes_on c.args.tokens.now (c.args.at + 1) (kind.Keyword word.In) c.requires.input (c.is_keyword.ensures.0 c.if-is_keyword.true) (omega arith), c.requires.input.few)

pub overflow_add-result-else-is_keyword : goal.overflow_add-result-else-is_keyword
overflow_add-result-else-is_keyword c = omega (arith, begins_inside c.args.tokens.now c.args.at c.requires.input c.requires.begins, c.requires.input.few)

pub overflow_add-at-in-Some-Is : goal.overflow_add-at-in-Some-Is
overflow_add-at-in-Some-Is c = omega (arith, begins_inside c.args.tokens.now c.args.at c.requires.input c.requires.begins, c.requires.input.few)

pub overflow_add-result-then-is_keyword-2 : goal.overflow_add-result-then-is_keyword-2
overflow_add-result-then-is_keyword-2 c =
    omega (arith, goes_on c.args.tokens.now (c.args.at + 1) (kind.Keyword word.Not) c.requires.input (c.is_keyword-in-Some-Is.ensures.0 c.if-is_keyword-2.true) (omega arith), c.requires.input.few)

pub overflow_add-result-else-is_keyword-2 : goal.overflow_add-result-else-is_keyword-2
overflow_add-result-else-is_keyword-2 c = omega (arith, begins_inside c.args.tokens.now c.args.at c.requires.input c.requires.begins, c.requires.input.few)

pub returns-in-Some-In-clause-inside : goal.returns-in-Some-In-clause-inside
returns-in-Some-In-clause-inside c = omega (arith, begins_inside c.args.tokens.now c.args.at c.requires.input c.requires.begins)

pub returns-then-is_keyword-clause-inside : goal.returns-then-is_keyword-clause-inside
returns-then-is_keyword-clause-inside c =
    omega (arith, goes_on c.args.tokens.now (c.args.at + 1) (kind.Keyword word.In) c.requires.input (c.is_keyword.ensures.0 c.if-is_keyword.true) (omega arith))

pub returns-then-is_keyword-2-clause-inside : goal.returns-then-is_keyword-2-clause-inside
returns-then-is_keyword-2-clause-inside c =
    omega (arith, goes_on c.args.tokens.now (c.args.at + 1) (kind.Keyword word.Not) c.requires.input (c.is_keyword-in-Some-Is.ensures.0 c.if-is_keyword-2.true) (omega arith))

pub returns-else-is_keyword-2-clause-inside : goal.returns-else-is_keyword-2-clause-inside
returns-else-is_keyword-2-clause-inside c = omega (arith, begins_inside c.args.tokens.now c.args.at c.requires.input c.requires.begins)

pub returns-in_default-keyword_at-2-clause-stuck : goal.returns-in_default-keyword_at-2-clause-stuck
unfolding compare_signs
returns-in_default-keyword_at-2-clause-stuck c =
    let ts = terminals_of c.args.tokens.now in
    let none = subst (λ r. MatchOption r ((k : Keyword) → IsKeyword ts c.args.at k → ⊥) (IsKeyword ts c.args.at)) c.in_default-keyword_at.is c.keyword_at.ensures in
    absurd (elim c.requires.begins [
      | BeginsComparison.by_sign o ↦ c.in_default.ensures _ o
      | BeginsComparison.by_in h ↦ none _ h
      | BeginsComparison.by_not h ↦ none _ h
      | BeginsComparison.by_is h ↦ none _ h
    ])
