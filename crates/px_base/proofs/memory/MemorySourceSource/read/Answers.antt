use Rattle.std.proofs.Common.{◌≡◌, drop, ap, ◌∙◌}
use Rattle.std.proofs.lemmas.List.{drop-drop}
use Rattle.px_base.proofs.MemoryLemmas.{moves}
use Rattle.px_base.proofs.memory.MemorySourceSource.read.Goals as goal

pub returns-clause-bytes : goal.returns-clause-bytes
returns-clause-bytes c =
    let at = c.self.inside.at in
    let n = c.give-n.result in
    let left-is : c.split_at.result.1.now ≡ drop at c.self.inside.bytes = c.split_at.ensures.back ∙ ap (drop at) c.as_slice.ensures in
    rw (← c.self.view_is, ← drop-drop n at c.self.inside.bytes, ← left-is)
    (moves c.split_at.result.1.now c.args.into.now c.give-n.new.into c.self.inside.piece n c.self.invariant.0 c.give-n.ensures.count c.give-n.ensures.buffer)
