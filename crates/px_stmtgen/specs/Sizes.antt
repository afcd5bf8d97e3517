-- What statements and functions ask for: registers, registers for objects, and places.
use Rattle.std.specs.Prelude.{ℕ, ◌+◌, max, List, [], ◌∷◌, length}
use Rattle.px_base.specs.declared.objects.Builtin.TheVariants as builtin
use Rattle.px_tree.specs.declared.typed_values.ValueType.{ValueType}
use Rattle.px_tree.specs.declared.typed_values.ValueType.TheVariants as type
use Rattle.px_tree.specs.declared.typed_heads.TypedHead.{TypedHead}
use Rattle.px_tree.specs.declared.typed_heads.TypedHead.TheVariants as head
use Rattle.px_walk.specs.Roses.{Roses, rose, none, more, listed}
use Rattle.px_typed_walk.specs.TypedView.{TypedRose}
use Rattle.px_stmtgen.specs.declared.layouts.Layout.{Layout}
use Rattle.px_stmtgen.specs.Layouts.{temporary}
use Rattle.px_stmtgen.specs.StatementCode.{result_width, statement_width}

-- an end with an object takes a register for it, and so does a call that gives one
abbrev pub result_objects : ValueType → ℕ
result_objects type.Object = 1
result_objects _ = 0

-- by the head of a node, and how many parts it has
abbrev pub objects_by : TypedHead → ℕ → ℕ
objects_by (head.Builtin builtin.Print) count = count
objects_by (head.Call function t) count = result_objects t
objects_by _ count = 0

-- how many registers for objects a tree takes
abbrev mutual
  pub objects : TypedRose → ℕ
  objects (rose head number at parts) = max (objects_by head (length (listed parts))) (objects_below parts)

  pub objects_below : Roses TypedHead → ℕ
  objects_below none = 0
  objects_below (more tree trees) = max (objects tree) (objects_below trees)

-- the greatest that statements ask for, one behind another
abbrev pub greatest : (TypedRose → ℕ) → List TypedRose → ℕ
greatest asked [] = 0
greatest asked (tree ∷ trees) = max (asked tree) (greatest asked trees)

-- how many registers a function takes: those of its layout, and behind them those of its statements and of its end
abbrev pub registers : Layout → List TypedRose → ℕ
registers l body = temporary l + max (result_width l.gives) (greatest statement_width body)

-- how many of them a function takes for objects that gives this type
abbrev pub body_objects : ValueType → List TypedRose → ℕ
body_objects gives body = max (result_objects gives) (greatest objects body)
