-- The use of a name at the head of a row, by the part of the row that is the call.
use Rattle.std.specs.Prelude.{List, drop}
use Rattle.px_walk.specs.ExprView.{Tree}
use Rattle.px_names.specs.declared.rows.Use.{Use as UseKept}
use Rattle.px_names.specs.Uses.{Use}

abbrev pub use_kept : List Tree → UseKept → Use
use_kept parts used = (used.callee, drop used.from parts)
