use Rattle.std.proofs.Common.{◌^◌, ◌<◌, bit_and, bit_xor, arith, rules}
use Rattle.std.proofs.lemmas.Int.{ints, to_z-of_z}
use Rattle.std.proofs.lemmas.Nat.{and_le_l, xor_lt}
use Rattle.px_ctypes.proofs.WrapLaws.{wrap_extended, wrapped_from}
use Rattle.px_ctypes.proofs.wrapping.wrap.Goals as goal

pub returns-clause-value : goal.returns-clause-value
returns-clause-value c =
    let n = c.ranges.n in
    let word = c.low_word.result in
    let mask = c.mask.result in
    let sign = c.sign_bit-sign.result in
    let below : word < 2 ^ 64 = search rules in
    let one : sign < 2 ^ 64 = search rules in
    let turned : bit_xor (bit_and word mask) sign < 2 ^ 64 = xor_lt 64 (bit_and word mask) sign (omega (arith, and_le_l word mask)) one in
    omega (arith, ints, wrap_extended c.args.t c.args.n word mask sign (simp to_z-of_z at c.low_word.ensures) c.mask.ensures c.sign_bit-sign.ensures)

pub returns-clause-wrapped : goal.returns-clause-wrapped
returns-clause-wrapped c = wrapped_from c.args.t c.args.n _ (returns-clause-value c)
