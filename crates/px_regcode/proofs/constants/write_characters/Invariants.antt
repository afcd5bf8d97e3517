-- the text, with the characters that are left behind it, is the whole
use Rattle.std.proofs.Common.{◌≡◌, ◌++◌, drop}
use Rattle.std.specs.List.{flat_map}
use Rattle.px_regcode.specs.Listing.{escaped}
use Rattle.px_regcode.proofs.constants.write_characters.Given as goal

abbrev pub invariant-loop-c : goal.invariant-loop-c
invariant-loop-c l = l.text ++ flat_map (escaped l.quote) (drop l.c-index l.chars) ≡ l.initial.text ++ flat_map (escaped l.quote) l.chars
