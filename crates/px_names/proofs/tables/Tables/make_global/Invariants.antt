use Rattle.std.proofs.Common.{◌≡◌, drop}
use Rattle.px_names.specs.Kept.{names_kept}
use Rattle.px_names.specs.Steps.{with_globals}
use Rattle.px_names.proofs.tables.Tables.make_global.Given as goal

abbrev pub invariant-loop-name : goal.invariant-loop-name
invariant-loop-name l = with_globals (names_kept l.self) l.function (drop l.name-index l.names) ≡ with_globals (names_kept l.initial.self) l.function l.names
