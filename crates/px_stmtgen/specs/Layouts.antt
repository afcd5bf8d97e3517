-- How the registers of a function lie: its variables by their places, behind them registers for objects that live for a while, and
-- behind these the others. Module code is laid out like a function without variables and without a result.
use Rattle.std.specs.Prelude.{ℕ, zero, suc, ◌+◌, pos, List, [], ◌∷◌}
use Rattle.px_tree.specs.declared.typed_values.ValueType.{ValueType}
use Rattle.px_tree.specs.declared.typed_values.ValueType.TheVariants as type
use Rattle.px_regcode.specs.declared.operands.Register.{Register}
use Rattle.px_regcode.specs.declared.instructions.Instr.{Instr}
use Rattle.px_regcode.specs.declared.instructions.Instr.TheVariants as instr
use Rattle.px_exprgen.specs.ExpressionCode.{register}
use Rattle.px_stmtgen.specs.declared.layouts.Layout.{Layout}

-- the first register behind those of variables and objects
abbrev pub temporary : Layout → ℕ
temporary l = l.variables + l.objects

-- so many registers from one on
abbrev pub registers_from : ℕ → ℕ → List Register
registers_from first zero = []
registers_from first (suc count) = register first ∷ registers_from (suc first) count

-- lets the objects in so many registers go
abbrev pub drops : ℕ → ℕ → List Instr
drops first zero = []
drops first (suc count) = instr.Drop (register first) ∷ drops (suc first) count

-- The end without a value: 0, None, or nothing. That of a function that gives a view isn't code yet.
abbrev pub ending_code : Layout → ValueType → List Instr
ending_code l (type.C t) = instr.Const (register (temporary l)) (pos 0) ∷ instr.Return (register (temporary l)) ∷ []
ending_code l type.Object = instr.Text (register l.variables) l.none_at ∷ instr.Return (register l.variables) ∷ []
ending_code l (type.View t) = []
ending_code l type.Void = instr.Finish ∷ []
