-- The code of statements.
use Rattle.std.specs.Prelude.{ℕ, suc, max, List, [], ◌∷◌, ◌++◌, Some, None}
use Rattle.px_base.specs.declared.objects.Builtin.TheVariants as builtin
use Rattle.px_tree.specs.declared.typed_values.ValueType.{ValueType}
use Rattle.px_tree.specs.declared.typed_values.ValueType.TheVariants as type
use Rattle.px_tree.specs.declared.typed_values.Conversion.TheVariants as conversion
use Rattle.px_tree.specs.declared.typed_heads.TypedHead.{TypedHead}
use Rattle.px_tree.specs.declared.typed_heads.TypedHead.TheVariants as head
use Rattle.px_walk.specs.Roses.{Roses, rose, none, more, head_of}
use Rattle.px_typed_walk.specs.TypedView.{TypedRose}
use Rattle.px_regcode.specs.declared.instructions.Instr.{Instr}
use Rattle.px_regcode.specs.declared.instructions.Instr.TheVariants as instr
use Rattle.px_exprgen.specs.ExpressionCode.{register, behind, part_code, expression_code, expression_codes, width, widest}
use Rattle.px_stmtgen.specs.declared.layouts.Layout.{Layout}
use Rattle.px_stmtgen.specs.Layouts.{temporary, registers_from, drops, ending_code}

-- the code of a statement, by the number of its first instruction
abbrev pub StatementEmission : Type 0
StatementEmission = (pc : ℕ) → List Instr

-- how many parts there are
abbrev pub count_of : Roses TypedHead → ℕ
count_of none = 0
count_of (more tree trees) = suc (count_of trees)

-- ---- print

-- An argument of `print` as an object in the register of this number; its number stands in the first temporary register before.
abbrev pub boxed_code : Layout → ℕ → TypedHead → Roses TypedHead → StatementEmission
boxed_code l d (head.Converted (conversion.ToObject t)) parts pc =
    part_code (expression_codes parts) 0 pc (temporary l) ++ instr.Box t (register d) (register (temporary l)) ∷ []
boxed_code l d _ parts pc = []

abbrev pub argument_code : Layout → ℕ → TypedRose → StatementEmission
argument_code l d (rose head number at parts) pc = boxed_code l d head parts pc

abbrev pub arguments_code : Layout → ℕ → Roses TypedHead → StatementEmission
arguments_code l d none pc = []
arguments_code l d (more tree trees) pc = behind (argument_code l d tree pc) (arguments_code l (suc d) trees) pc

-- the arguments, which are printed and let go
abbrev pub print_code : Layout → Roses TypedHead → StatementEmission
print_code l parts pc =
    arguments_code l l.variables parts pc
    ++ (instr.Print (registers_from l.variables (count_of parts)) ∷ drops l.variables (count_of parts))

-- ---- calls as statements: functions without parameters

abbrev pub call_code : Layout → ℕ → ValueType → List Instr
call_code l function (type.C t) = instr.Call (suc function) (Some (register (temporary l))) [] ∷ []
call_code l function type.Object =
    instr.Call (suc function) (Some (register l.variables)) [] ∷ instr.Drop (register l.variables) ∷ []
call_code l function (type.View t) = []
call_code l function type.Void = instr.Call (suc function) None [] ∷ []

-- ---- statements

-- what stands for its own: a print, a call or a number
abbrev pub alone_code : Layout → TypedRose → StatementEmission
alone_code l (rose (head.Builtin builtin.Print) number at parts) pc = print_code l parts pc
alone_code l (rose (head.Call function t) number at parts) pc = call_code l function t
alone_code l (rose head number at parts) pc = expression_code (rose head number at parts) pc (temporary l)

abbrev pub alone_first : Layout → Roses TypedHead → StatementEmission
alone_first l none pc = []
alone_first l (more tree trees) pc = alone_code l tree pc

-- a number for a variable
abbrev pub set_code : Layout → ℕ → TypedRose → StatementEmission
set_code l slot tree pc =
    expression_code tree pc (temporary l) ++ instr.Move (register slot) (register (temporary l)) ∷ []

abbrev pub target_code : Layout → TypedHead → TypedRose → StatementEmission
target_code l (head.Local slot t) tree pc = set_code l slot tree pc
target_code l _ tree pc = []

abbrev pub assign_code : Layout → Roses TypedHead → StatementEmission
assign_code l (more target (more tree trees)) pc = target_code l (head_of target) tree pc
assign_code l _ pc = []

-- `target op= value`: the value of the variable, in which place the value comes that it gets
abbrev pub augment_code : Layout → Roses TypedHead → StatementEmission
augment_code l (more target (more tree trees)) pc =
    behind (expression_code target pc (temporary l)) (target_code l (head_of target) tree) pc
augment_code l _ pc = []

abbrev pub declared_code : Layout → ℕ → Roses TypedHead → StatementEmission
declared_code l slot none pc = []
declared_code l slot (more tree trees) pc = set_code l slot tree pc

abbrev pub return_code : Layout → Roses TypedHead → StatementEmission
return_code l none pc = ending_code l l.gives
return_code l (more tree trees) pc =
    expression_code tree pc (temporary l) ++ instr.Return (register (temporary l)) ∷ []

-- statements one behind another
abbrev pub in_turn_code : List StatementEmission → StatementEmission
in_turn_code [] pc = []
in_turn_code (code ∷ codes) pc = behind (code pc) (in_turn_code codes) pc

-- By the head of a statement, its parts and their code. `pass` and `global` have none; what other heads mean that aren't named isn't code
-- yet.
unfoldable pub statement_by : Layout → TypedHead → Roses TypedHead → List StatementEmission → StatementEmission
statement_by l head.Expression parts codes pc = alone_first l parts pc
statement_by l head.Assign parts codes pc = assign_code l parts pc
statement_by l (head.Augment op) parts codes pc = augment_code l parts pc
statement_by l head.Declare parts codes pc = in_turn_code codes pc
statement_by l (head.Declarator slot t) parts codes pc = declared_code l slot parts pc
statement_by l head.Return parts codes pc = return_code l parts pc
statement_by l _ parts codes pc = []

unfoldable mutual
  pub statement_code : Layout → TypedRose → StatementEmission
  statement_code l (rose head number at parts) pc = statement_by l head parts (statement_codes l parts) pc

  pub statement_codes : Layout → Roses TypedHead → List StatementEmission
  statement_codes l none = []
  statement_codes l (more tree trees) = statement_code l tree ∷ statement_codes l trees

-- ---- how many registers behind those of variables and objects a statement takes

-- what stands for its own: the arguments of a print take the same ones in turn
abbrev pub result_width : ValueType → ℕ
result_width (type.C t) = 1
result_width _ = 0

abbrev pub alone_width : TypedRose → ℕ
alone_width (rose (head.Builtin builtin.Print) number at parts) = widest parts
alone_width (rose (head.Call function t) number at parts) = result_width t
alone_width (rose head number at parts) = width (rose head number at parts)

abbrev pub alone_widths : Roses TypedHead → ℕ
alone_widths none = 0
alone_widths (more tree trees) = max (alone_width tree) (alone_widths trees)

abbrev pub statement_width_by : TypedHead → Roses TypedHead → ℕ → ℕ
statement_width_by head.Expression parts inner = alone_widths parts
statement_width_by head.Assign parts inner = widest parts
statement_width_by (head.Augment op) parts inner = widest parts
statement_width_by head.Declare parts inner = inner
statement_width_by (head.Declarator slot t) parts inner = widest parts
statement_width_by head.Return parts inner = widest parts
statement_width_by _ parts inner = 0

abbrev mutual
  pub statement_width : TypedRose → ℕ
  statement_width (rose head number at parts) = statement_width_by head parts (statement_widths parts)

  pub statement_widths : Roses TypedHead → ℕ
  statement_widths none = 0
  statement_widths (more tree trees) = max (statement_width tree) (statement_widths trees)
