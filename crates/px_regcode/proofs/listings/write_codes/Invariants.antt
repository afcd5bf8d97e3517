-- the text, with the functions that are left behind it, is the whole
use Rattle.std.proofs.Common.{◌≡◌, ◌++◌, drop}
use Rattle.std.specs.List.{flat_map}
use Rattle.px_regcode.specs.Listing.{code_text}
use Rattle.px_regcode.proofs.listings.write_codes.Given as goal

abbrev pub invariant-loop-code : goal.invariant-loop-code
invariant-loop-code l = l.text ++ flat_map code_text (drop l.code-index l.codes) ≡ l.initial.text ++ flat_map code_text l.codes
