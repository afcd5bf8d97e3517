use Rattle.std.proofs.Common.{◌≡◌, drop}
use Rattle.std.specs.Prelude.{bytes_eq}
use Rattle.std.specs.List.{concat}
use Rattle.px_names.proofs.texts.is_joined.Given as goal

abbrev pub invariant-loop-content : goal.invariant-loop-content
invariant-loop-content l = bytes_eq l.initial.rest (concat l.contents) ≡ bytes_eq l.rest (concat (drop l.content-index l.contents))
