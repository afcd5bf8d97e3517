-- Rows of a table of bases that are left to look at.
use Rattle.std.proofs.Common.{◌≡◌, ℕ, ◌-◌, ◌<◌, ◌≤◌, true, List, [], ◌∷◌, length, map, take, drop, Bor, slice_index_or, sym, subst, arith}
use Rattle.std.proofs.lemmas.Bool.{and_parts}
use Rattle.std.proofs.lemmas.List.{take_all}
use Rattle.px_tree.specs.declared.typings.BaseType.{BaseType}
use Rattle.px_lexer.specs.Terminals.{Terminal}
use Rattle.px_exprs.specs.Typings.{AreNames}
use Rattle.px_exprs.specs.TypeParts.{IsBaseOf, words_are_ascii, table_is_ascii}
use Rattle.px_exprs.proofs.TypeReading.{row_left, row_more, row_here}

abbrev pub Row : Type 0
Row = Bor (List (Bor (List ℕ))) × BaseType

abbrev pub words_of : Row → List (List ℕ)
words_of row = map (λ (word : Bor (List ℕ)). word.now) row.0.now

abbrev pub row_of : Row → List (List ℕ) × BaseType
row_of row = (words_of row, row.1)

-- a base of all rows is one of those that are left
pub record IsLeft (all left : List Row) (ts : List Terminal) (i j : ℕ) : Type 0 where
  pub ascii : table_is_ascii (map row_of left) ≡ true
  pub whole : (b : BaseType) → IsBaseOf (map row_of left) ts i b j → IsBaseOf (map row_of all) ts i b j
  pub rest : (b : BaseType) → IsBaseOf (map row_of all) ts i b j → IsBaseOf (map row_of left) ts i b j

rest_is : (row : Row) (rest : List Row) → take (length (row ∷ rest) - 1) (drop 1 (row ∷ rest)) ≡ rest
rest_is row rest = take_all (length (row ∷ rest) - 1) rest (omega arith)

pub left_ascii : (all left : List Row) (ts : List Terminal) (i j : ℕ) (none : Row) → 1 ≤ length left → IsLeft all left ts i j → words_are_ascii (words_of (slice_index_or left 0 none)) ≡ true
left_ascii all [] ts i j none le h = absurd (omega (arith, le))
left_ascii all (row ∷ rows) ts i j none le h = (and_parts (words_are_ascii (words_of row)) (table_is_ascii (map row_of rows)) h.ascii).0

pub left_step : (all left : List Row) (ts : List Terminal) (i j : ℕ) (none : Row) → 1 ≤ length left → (AreNames ts i (words_of (slice_index_or left 0 none)) j → ⊥) → IsLeft all left ts i j
    → IsLeft all (take (length left - 1) (drop 1 left)) ts i j
left_step all [] ts i j none le fails h = absurd (omega (arith, le))
left_step all (row ∷ rows) ts i j none le fails h = subst (λ xs. IsLeft all xs ts i j) (sym (rest_is row rows)) (record {
  ascii = (and_parts (words_are_ascii (words_of row)) (table_is_ascii (map row_of rows)) h.ascii).1;
  whole = λ b g. h.whole b (row_more (row_of row) (map row_of rows) ts i j b g);
  rest = λ b g. row_left (row_of row) (map row_of rows) ts i j b fails (h.rest b g);
})

pub left_found : (all left : List Row) (ts : List Terminal) (i j : ℕ) (none : Row) → 1 ≤ length left → AreNames ts i (words_of (slice_index_or left 0 none)) j → IsLeft all left ts i j
    → IsBaseOf (map row_of all) ts i (slice_index_or left 0 none).1 j
left_found all [] ts i j none le stand h = absurd (omega (arith, le))
left_found all (row ∷ rows) ts i j none le stand h = h.whole row.1 (row_here (row_of row) (map row_of rows) ts i j stand)

pub left_none : (all left : List Row) (ts : List Terminal) (i j : ℕ) → length left < 1 → IsLeft all left ts i j → (b : BaseType) → IsBaseOf (map row_of all) ts i b j → ⊥
left_none all [] ts i j lt h b g = let found = (h.rest b g).2 in omega (arith, found.1)
left_none all (row ∷ rows) ts i j lt h b g = absurd (omega (arith, lt))
