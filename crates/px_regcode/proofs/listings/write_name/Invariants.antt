-- the text, with the characters that are left behind it, is the whole
use Rattle.std.proofs.Common.{◌≡◌, ◌++◌, drop}
use Rattle.std.specs.Prelude.{encode_utf8_all}
use Rattle.px_regcode.proofs.listings.write_name.Given as goal

abbrev pub invariant-loop-c : goal.invariant-loop-c
invariant-loop-c l = l.text ++ encode_utf8_all (drop l.c-index l.name) ≡ l.initial.text ++ encode_utf8_all l.name
