use Rattle.std.proofs.Common.{arith}
use Rattle.px_stmtgen.proofs.Cleanups.{cleanup_short}
use Rattle.px_stmtgen.proofs.functions.begin.Goals as goal

pub overflow_add-cleanup_length : goal.overflow_add-cleanup_length
overflow_add-cleanup_length c =
    omega (arith, c.requires.objects, c.cleanup_length.ensures, cleanup_short c.args.layout c.args.swallows)
