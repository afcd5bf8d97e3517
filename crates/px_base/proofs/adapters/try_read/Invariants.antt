use Rattle.std.proofs.Common.{◌≡◌, length}
use Rattle.std.specs.Io.KnownBytes.{Keeps}
use Rattle.px_base.proofs.adapters.try_read.Given as goal

abbrev pub invariant-tries : goal.invariant-tries
invariant-tries g l = (length l.into ≡ length l.fn.into) × Keeps (g.S.Read.remaining l.fn.stream) (g.S.Read.remaining l.stream)
