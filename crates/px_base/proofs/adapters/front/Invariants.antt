use Rattle.std.proofs.Common.{◌≤◌, length}
use Rattle.std.specs.Io.KnownBytes.{Keeps, prepend_known}
use Rattle.px_base.specs.Outside.{handed_limit}
use Rattle.px_base.proofs.adapters.front.Given as goal

abbrev pub invariant-pieces : goal.invariant-pieces
invariant-pieces g l = (length l.bytes ≤ handed_limit) × Keeps (g.S.Read.remaining l.fn.stream) (prepend_known l.bytes (g.S.Read.remaining l.stream))
