use Rattle.std.specs.Io.KnownBytes.{Keeps}
use Rattle.px_base.proofs.adapters.try_write.Given as goal

abbrev pub invariant-tries : goal.invariant-tries
invariant-tries g l = Keeps (g.W.Write.contents l.fn.stream) (g.W.Write.contents l.stream)
