use Rattle.std.proofs.Common.{◌≡◌, sym, arith}
use Rattle.px_lexer.specs.Signs.{operators, foreign_signs}
use Rattle.px_lexer.specs.SignSteps.{kind_if_sign}
use Rattle.px_lexer.proofs.SignLemmas.{no_triple, no_same}
use Rattle.px_lexer.proofs.signs.triple.Goals.{else-third-from-2-via-then-third-from-2+else-first-from, else-third-from-2-via-else-third-from-2}
use Rattle.px_lexer.proofs.signs.triple.Goals as goal

pub returns-then-second-first : goal.returns-then-second-first
returns-then-second-first c = sym (no_triple c.args.first c.args.second c.args.third c.if-second-first.true)

pub returns-then-first-from : goal.returns-then-first-from
unfolding kind_if_sign operators foreign_signs
returns-then-first-from c =
    let first : c.args.first ≡ 46 = omega arith in
    let second : c.args.second ≡ 46 = omega arith in
    let third : c.args.third ≡ 46 = omega arith in
    rw (first, second, third)

pub returns : goal.returns
returns c =
    let no_points : c.args.third ≡ 46 → c.args.first ≡ 46 → ⊥ = λ third first. elim c.else-third-from-2.branch [ else-third-from-2-via-then-third-from-2+else-first-from w ↦ omega arith | else-third-from-2-via-else-third-from-2 w ↦ omega arith ] in
    let same : c.args.second ≡ c.args.first = omega arith in
    rw same (sym (no_same c.args.first c.args.third (λ e. omega arith) no_points))
