use Rattle.px_walk.specs.Roses.{parts_of}
use Rattle.px_typed_walk.specs.TypedView.{rose_of_typed}
use Rattle.px_stmtgen.proofs.Wholes.{printed}
use Rattle.px_stmtgen.proofs.printing.print.Goals as goal

pub returns : goal.returns
returns c =
    printed c.drops.result c.args.layout (parts_of (rose_of_typed c.args.node.tree.now)) c.args.code.now c.arguments.new.code c.push.new.self c.drops.new.code c.in_ok-registers.registers c.count-count.result
    c.in_ok-arguments.ensures c.in_ok-registers.ensures c.count-count.ensures c.in_ok-push.ensures.ok c.drops.ensures
