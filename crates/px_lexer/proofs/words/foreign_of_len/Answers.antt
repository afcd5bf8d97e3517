use Rattle.std.proofs.Common.{ℕ, List, length, filter, refl, ap, sym, arith}
use Rattle.std.specs.Prelude.{◌==◌, ◌&&◌, not, nat_le}
use Rattle.std.proofs.lemmas.Bool.{leb-true, and_parts, not-true, eqb-false}
use Rattle.px_lexer.specs.Words.{foreign_words}
use Rattle.px_lexer.proofs.WordLemmas.{filter-lengths}
use Rattle.px_lexer.proofs.words.foreign_of_len.Goals as goal

pub returns-in-3 : goal.returns-in-3
unfolding foreign_words
returns-in-3 c = ap (λ n. filter (λ (spelling : List ℕ). length spelling == n) foreign_words) (sym c.in-3.is)

pub returns-in-5 : goal.returns-in-5
unfolding foreign_words
returns-in-5 c = ap (λ n. filter (λ (spelling : List ℕ). length spelling == n) foreign_words) (sym c.in-5.is)

pub returns-in-6 : goal.returns-in-6
unfolding foreign_words
returns-in-6 c = ap (λ n. filter (λ (spelling : List ℕ). length spelling == n) foreign_words) (sym c.in-6.is)

pub returns-in-7 : goal.returns-in-7
unfolding foreign_words
returns-in-7 c = ap (λ n. filter (λ (spelling : List ℕ). length spelling == n) foreign_words) (sym c.in-7.is)

pub returns-in-8 : goal.returns-in-8
unfolding foreign_words
returns-in-8 c = ap (λ n. filter (λ (spelling : List ℕ). length spelling == n) foreign_words) (sym c.in-8.is)

pub returns-in_default : goal.returns-in_default
unfolding foreign_words
returns-in_default c = sym (filter-lengths (λ (spelling : List ℕ). length spelling) foreign_words (λ k. nat_le 3 k && (nat_le k 8 && not (k == 4))) c.args.len refl (λ k within same.
    let parts = and_parts _ _ within in
    let others = and_parts _ _ parts.1 in
    let above = leb-true 3 k parts.0 in
    let below = leb-true k 8 others.0 in
    let apart = eqb-false k 4 (not-true _ others.1) in
    omega (arith, same)))
