-- the text, with the lines that are left behind it, is the whole
use Rattle.std.proofs.Common.{◌≡◌, ◌++◌, drop}
use Rattle.px_regcode.specs.Listing.{constant_lines}
use Rattle.px_regcode.proofs.constants.write_constants.Given as goal

abbrev pub invariant-loop-n : goal.invariant-loop-n
invariant-loop-n l = l.text ++ constant_lines l.n (drop l.n l.constants) ≡ l.initial.text ++ constant_lines 0 l.constants
