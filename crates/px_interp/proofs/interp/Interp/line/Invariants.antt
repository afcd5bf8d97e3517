use Rattle.std.proofs.Common.{take}
use Rattle.px_interp.specs.Texts.{texts_in}
use Rattle.px_interp.proofs.LineTexts.{IsFront}
use Rattle.px_interp.proofs.interp.Interp.line.Given as goal

abbrev pub invariant-loop-place : goal.invariant-loop-place
invariant-loop-place l = IsFront (texts_in l.self.heap l.registers (take l.place l.arguments)) l.place l.line
