-- What writes leave, and the words of numbers.
use Rattle.std.proofs.Common.{◌≡◌, refl}
use Rattle.std.specs.Prelude.{ℕ, pos, negsuc, [], ◌∷◌}
use Rattle.px_base.specs.declared.c_types.CType.TheVariants as c
use Rattle.px_ctypes.specs.Wrapping.{wrap}
use Rattle.px_model.specs.declared.cells.Cell.{Cell}
use Rattle.px_meaning.specs.Worlds.{written, word_of_number, number_of_word, fill_writes, copy_writes}

abbrev cell : ℕ → ℕ → Cell
cell buffer place = record { buffer = buffer; place = place }

-- of two writes of one cell the later one counts, and other cells keep their words
later_write : written ((cell 1 2, 5) ∷ (cell 1 3, 6) ∷ (cell 1 2, 7) ∷ []) (λ c. 9) (cell 1 2) ≡ 7
later_write = refl

own_place : written ((cell 1 2, 5) ∷ (cell 1 3, 6) ∷ (cell 1 2, 7) ∷ []) (λ c. 9) (cell 1 3) ≡ 6
own_place = refl

own_buffer : written ((cell 1 2, 5) ∷ []) (λ c. 9) (cell 2 2) ≡ 9
own_buffer = refl

filled : written (fill_writes (cell 1 0 ∷ cell 1 1 ∷ []) 4) (λ c. 9) (cell 1 1) ≡ 4
filled = refl

-- all are read before one is written: two cells swap their words
swapped : copy_writes ((cell 1 0, cell 1 1) ∷ (cell 1 1, cell 1 0) ∷ []) c.Long c.Long (λ c. c.place)
    ≡ (cell 1 0, 1) ∷ (cell 1 1, 0) ∷ []
unfolding wrap
swapped = refl

-- a word of one type becomes one of another: -1 of a signed char, as a long
widened : copy_writes ((cell 1 0, cell 1 1) ∷ []) c.SChar c.Long (λ c. 255) ≡ (cell 1 0, 18446744073709551615) ∷ []
unfolding wrap
widened = refl

below_zero : word_of_number (negsuc 0) ≡ 18446744073709551615
below_zero = refl

of_a_signed_type : number_of_word c.Int 4294967295 ≡ negsuc 0
unfolding wrap
of_a_signed_type = refl

of_an_unsigned_type : number_of_word c.UInt 4294967295 ≡ pos 4294967295
unfolding wrap
of_an_unsigned_type = refl

-- an element of a view of bint is 0 or 1
of_bint : number_of_word c.Bint 6 ≡ pos 1
of_bint = refl
