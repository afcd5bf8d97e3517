use Rattle.std.proofs.Common.{◌≡◌, map, drop}
use Rattle.px_base.specs.Memory.{file_entry, content_of}
use Rattle.px_base.proofs.memory.find.Given as goal

abbrev pub invariant-loop-own : goal.invariant-loop-own
invariant-loop-own l = content_of (map file_entry (drop l.own-index l.files)) l.name ≡ content_of (map file_entry l.files) l.name
