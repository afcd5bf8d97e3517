-- the text, with the words that are left behind it, is the whole
use Rattle.std.proofs.Common.{◌≡◌, ◌++◌, map, drop}
use Rattle.px_base.specs.Lines.{kind_name}
use Rattle.px_regcode.specs.Listing.{spaced}
use Rattle.px_regcode.proofs.writing.write_kinds.Given as goal

abbrev pub invariant-loop-kind : goal.invariant-loop-kind
invariant-loop-kind l = l.text ++ spaced (map kind_name (drop l.kind-index l.kinds)) ≡ l.initial.text ++ spaced (map kind_name l.kinds)
