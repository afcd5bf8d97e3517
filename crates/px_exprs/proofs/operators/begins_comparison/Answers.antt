use Rattle.std.proofs.Common.{◌∙◌, sym}
use Rattle.std.proofs.lemmas.Bool.{false≢true}
use Rattle.px_base.proofs.Facts.{denied}
use Rattle.px_tree.specs.declared.expressions.CompareOp.{CompareOp}
use Rattle.px_exprs.specs.Grammar.{IsOf, compare_signs}
use Rattle.px_exprs.specs.Parts.{BeginsComparison}
use Rattle.px_lexer.specs.Terminals.{terminals_of}
use Rattle.px_exprs.proofs.BinarySteps.{some_meant, meant_some}
use Rattle.px_exprs.proofs.operators.begins_comparison.Goals as goal
use Rattle.px_exprs.proofs.operators.begins_comparison.Goals.{then-is_keyword, else-is_keyword, then-is_keyword-2, else-is_keyword-2}

pub returns-else-is_keyword-3 : goal.returns-else-is_keyword-3
unfolding compare_signs
returns-else-is_keyword-3 c = (
  λ told. BeginsComparison.by_sign (some_meant ((m : CompareOp) → IsOf compare_signs (terminals_of c.args.tokens.now) c.args.at m → ⊥) (IsOf compare_signs (terminals_of c.args.tokens.now) c.args.at) c.meaning.result c.meaning.ensures (sym c.is_some.ensures ∙ told)).1,
  λ begins.
      elim begins [
        | BeginsComparison.by_sign o ↦ c.is_some.ensures ∙ meant_some (IsOf compare_signs (terminals_of c.args.tokens.now) c.args.at) c.meaning.result c.meaning.ensures _ o
        | BeginsComparison.by_in h ↦ absurd
            (elim c.if-is_keyword-2.branch [
              | then-is_keyword-2 w ↦ false≢true (sym c.if-is_keyword-3.false ∙ w.value-is ∙ w.if-is_keyword-2.true)
              | else-is_keyword-2 w ↦ (elim c.if-is_keyword.branch [ then-is_keyword v ↦ false≢true (sym w.if-is_keyword-2.false ∙ v.value-is ∙ v.if-is_keyword.true) | else-is_keyword v ↦ denied c.is_keyword.ensures v.if-is_keyword.false h ])
            ])
        | BeginsComparison.by_not h ↦ absurd
            (elim c.if-is_keyword-2.branch [
              | then-is_keyword-2 w ↦ false≢true (sym c.if-is_keyword-3.false ∙ w.value-is ∙ w.if-is_keyword-2.true)
              | else-is_keyword-2 w ↦
                  (elim c.if-is_keyword.branch [
                    | then-is_keyword v ↦ false≢true (sym w.if-is_keyword-2.false ∙ v.value-is ∙ v.if-is_keyword.true)
                    | else-is_keyword v ↦ denied v.is_keyword-else-is_keyword.ensures (sym v.value-is ∙ w.if-is_keyword-2.false) h
                  ])
            ])
        | BeginsComparison.by_is h ↦ absurd
            (elim c.if-is_keyword-2.branch [
              | then-is_keyword-2 w ↦ false≢true (sym c.if-is_keyword-3.false ∙ w.value-is ∙ w.if-is_keyword-2.true)
              | else-is_keyword-2 w ↦ denied w.is_keyword-else-is_keyword-2.ensures (sym w.value-is ∙ c.if-is_keyword-3.false) h
            ])
      ],
)
