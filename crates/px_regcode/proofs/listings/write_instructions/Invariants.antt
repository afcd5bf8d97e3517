-- the text, with the lines that are left behind it, is the whole
use Rattle.std.proofs.Common.{◌≡◌, ◌++◌, drop}
use Rattle.px_regcode.specs.Listing.{instruction_lines}
use Rattle.px_regcode.proofs.listings.write_instructions.Given as goal

abbrev pub invariant-loop-k : goal.invariant-loop-k
invariant-loop-k l = l.text ++ instruction_lines l.k (drop l.k l.instrs) ≡ l.initial.text ++ instruction_lines 0 l.instrs
