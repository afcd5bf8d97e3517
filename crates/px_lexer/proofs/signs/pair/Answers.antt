use Rattle.std.proofs.Common.{◌≡◌, sym, arith}
use Rattle.px_lexer.specs.Signs.{operators, foreign_signs}
use Rattle.px_lexer.specs.SignSteps.{kind_if_sign}
use Rattle.px_lexer.proofs.SignLemmas.{no_pair}
use Rattle.px_lexer.proofs.signs.pair.Goals.{else-second-from-2-via-then-second-from-2+else-first-from, else-second-from-2-via-else-second-from-2}
use Rattle.px_lexer.proofs.signs.pair.Goals as goal

pub returns-then-first-from : goal.returns-then-first-from
unfolding kind_if_sign operators foreign_signs
returns-then-first-from c =
    let first : c.args.first ≡ 45 = omega arith in
    let second : c.args.second ≡ 62 = omega arith in
    rw (first, second)

pub returns : goal.returns
returns c =
    let no_arrow : c.args.second ≡ 62 → c.args.first ≡ 45 → ⊥ = λ second first. elim c.else-second-from-2.branch [ else-second-from-2-via-then-second-from-2+else-first-from w ↦ omega arith | else-second-from-2-via-else-second-from-2 w ↦ omega arith ] in
    sym (no_pair c.args.first c.args.second (λ e. omega arith) c.if-second-first.false no_arrow)
