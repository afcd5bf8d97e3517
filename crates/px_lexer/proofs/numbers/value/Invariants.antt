use Rattle.std.proofs.Common.{◌≡◌, ◌-◌, drop, slice_range}
use Rattle.px_lexer.specs.Numbers.{digits_value}
use Rattle.px_lexer.proofs.NumberPlaces.{value_behind}
use Rattle.px_lexer.proofs.numbers.value.Given as goal

abbrev pub invariant-loop-at : goal.invariant-loop-at
invariant-loop-at l = value_behind l.base l.value (drop (l.at - l.from) (slice_range l.cs l.from l.to)) ≡ digits_value l.base (slice_range l.cs l.from l.to)
