-- the text, with the words that are left behind it, is the whole
use Rattle.std.proofs.Common.{◌≡◌, ◌++◌, map, drop}
use Rattle.px_regcode.specs.Words.{register_word}
use Rattle.px_regcode.specs.Listing.{spaced}
use Rattle.px_regcode.proofs.writing.write_registers.Given as goal

abbrev pub invariant-loop-register : goal.invariant-loop-register
invariant-loop-register l =
    l.text ++ spaced (map register_word (drop l.register-index l.registers)) ≡ l.initial.text ++ spaced (map register_word l.registers)
