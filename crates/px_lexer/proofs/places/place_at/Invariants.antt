use Rattle.std.proofs.Common.{◌-◌, ◌≤◌}
use Rattle.px_lexer.specs.Reached.{IsPlace, IsNear}
use Rattle.px_lexer.proofs.places.place_at.Given as goal

abbrev pub invariant-loop-place : goal.invariant-loop-place
invariant-loop-place l = record { forward : l.place.index ≤ l.to; there : IsPlace l.source.text.now l.place; near : IsNear l.place }

abbrev pub decreases-loop-place : goal.decreases-loop-place
decreases-loop-place l = l.to - l.place.index
