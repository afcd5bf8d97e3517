use Rattle.std.proofs.Common.{length, ap, sym, ◌∙◌, arith}
use Rattle.std.proofs.lemmas.Bool.{true≢false}
use Rattle.px_exprs.proofs.AtomSteps.{other_tuple, not_one}
use Rattle.px_exprs.proofs.atoms.parenthesize.Goals as goal
use Rattle.px_exprs.proofs.atoms.parenthesize.Goals.{then-not-has_comma+then-len-eq1+in_default, else-not-has_comma, else-not-has_comma-via-then-not-has_comma+else-len-eq1, else-not-has_comma-via-else-not-has_comma}

pub returns : goal.returns
returns c =
    elim c.if-not-has_comma.branch [
      | then-not-has_comma+then-len-eq1+in_default w ↦ absurd (omega (arith, w.len.ensures, w.if-len-eq1.true, ap length w.in_default.ensures.0))
      | else-not-has_comma w ↦ elim w.else-not-has_comma.branch [
        | else-not-has_comma-via-then-not-has_comma+else-len-eq1 v ↦ other_tuple c.node.ensures w.items-is (λ only same none. not_one (λ one. v.if-len-eq1.false (v.len.ensures ∙ one)) only same)
        | else-not-has_comma-via-else-not-has_comma v ↦ other_tuple c.node.ensures w.items-is (λ only same none. true≢false (sym v.if-not-has_comma.false ∙ none))
      ]
    ]
