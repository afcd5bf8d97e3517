use Rattle.std.proofs.Common.{ℕ, List, length, filter, refl, ap, sym, arith}
use Rattle.std.specs.Prelude.{◌==◌, ◌&&◌, nat_le}
use Rattle.std.proofs.lemmas.Bool.{leb-true, and_parts}
use Rattle.px_lexer.specs.declared.spelling.Keyword.{Keyword}
use Rattle.px_lexer.specs.Words.{keywords}
use Rattle.px_lexer.proofs.WordLemmas.{filter-lengths}
use Rattle.px_lexer.proofs.words.keywords_of_len.Goals as goal

pub returns-in-2 : goal.returns-in-2
unfolding keywords
returns-in-2 c = ap (λ n. filter (λ (row : List ℕ × Keyword). length row.0 == n) keywords) (sym c.in-2.is)

pub returns-in-3 : goal.returns-in-3
unfolding keywords
returns-in-3 c = ap (λ n. filter (λ (row : List ℕ × Keyword). length row.0 == n) keywords) (sym c.in-3.is)

pub returns-in-4 : goal.returns-in-4
unfolding keywords
returns-in-4 c = ap (λ n. filter (λ (row : List ℕ × Keyword). length row.0 == n) keywords) (sym c.in-4.is)

pub returns-in-5 : goal.returns-in-5
unfolding keywords
returns-in-5 c = ap (λ n. filter (λ (row : List ℕ × Keyword). length row.0 == n) keywords) (sym c.in-5.is)

pub returns-in-6 : goal.returns-in-6
unfolding keywords
returns-in-6 c = ap (λ n. filter (λ (row : List ℕ × Keyword). length row.0 == n) keywords) (sym c.in-6.is)

pub returns-in-7 : goal.returns-in-7
unfolding keywords
returns-in-7 c = ap (λ n. filter (λ (row : List ℕ × Keyword). length row.0 == n) keywords) (sym c.in-7.is)

pub returns-in-8 : goal.returns-in-8
unfolding keywords
returns-in-8 c = ap (λ n. filter (λ (row : List ℕ × Keyword). length row.0 == n) keywords) (sym c.in-8.is)

pub returns-in_default : goal.returns-in_default
unfolding keywords
returns-in_default c = sym (filter-lengths (λ (row : List ℕ × Keyword). length row.0) keywords (λ k. nat_le 2 k && nat_le k 8) c.args.len refl (λ k within same.
    let parts = and_parts _ _ within in
    let above = leb-true 2 k parts.0 in
    let below = leb-true k 8 parts.1 in
    omega (arith, same)))
