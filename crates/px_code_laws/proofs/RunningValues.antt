-- The code of what stands for its own, of a print, a call or a number, has only instructions that run.
use Rattle.std.proofs.Common.{ℕ, zero, suc, ◌∷◌, None, refl}
use Rattle.px_base.specs.declared.objects.Builtin.TheVariants as builtin
use Rattle.px_tree.specs.declared.typed_values.ValueType.{ValueType}
use Rattle.px_tree.specs.declared.typed_values.ValueType.TheVariants as type
use Rattle.px_tree.specs.declared.typed_values.Conversion.TheVariants as conversion
use Rattle.px_tree.specs.declared.typed_heads.TypedHead.{TypedHead}
use Rattle.px_tree.specs.declared.typed_heads.TypedHead.TheVariants as head
use Rattle.px_walk.specs.Roses.{Roses, rose, none, more}
use Rattle.px_typed_walk.specs.TypedView.{TypedRose}
use Rattle.px_exprgen.specs.ExpressionCode.{expression_code}
use Rattle.px_stmtgen.specs.declared.layouts.Layout.{Layout}
use Rattle.px_stmtgen.specs.Layouts.{temporary, registers_from, drops, ending_code}
use Rattle.px_stmtgen.specs.StatementCode.{StatementEmission, count_of, boxed_code, argument_code, arguments_code, print_code, call_code, alone_code}
use Rattle.px_regcode.specs.declared.instructions.Instr.TheVariants as instr
use Rattle.px_machine.specs.Running.{is_run}
use Rattle.px_code_laws.specs.Fine.{IsFine}
use Rattle.px_code_laws.specs.FineStatements.{Surrounding, FineBoxed, FineArguments, FineAlone}
use Rattle.px_code_laws.proofs.RunningExpressions.{AllOf, both_run, behind_runs, expression_run, part_runs}

abbrev pub StatementRuns : StatementEmission → Type 0
StatementRuns code = (pc : ℕ) → AllOf (code pc)

pub drops_run : (first count : ℕ) → AllOf (drops first count)
unfolding is_run
drops_run first zero = tt
drops_run first (suc count) = (refl, drops_run (suc first) count)

pub end_runs : (l : Layout) (t : ValueType) → AllOf (ending_code l t)
unfolding is_run
end_runs l (type.C t) = (refl, (refl, tt))
end_runs l type.Object = (refl, (refl, tt))
end_runs l (type.View t) = tt
end_runs l type.Void = (refl, tt)

module _ (layout : Layout) (around : Surrounding) where
  call_run : (function : ℕ) (t : ValueType) → AllOf (call_code layout function t)
  unfolding is_run
  call_run function (type.C t) = (refl, tt)
  call_run function type.Object = (refl, (refl, tt))
  call_run function (type.View t) = tt
  call_run function type.Void = (refl, tt)

  boxed_run : (h : TypedHead) (parts : Roses TypedHead) (d : ℕ) → FineBoxed around.locals h parts → StatementRuns (boxed_code layout d h parts)
  unfolding is_run
  boxed_run (head.Literal t n) parts d fine pc = tt
  boxed_run (head.Sizeof t) parts d fine pc = tt
  boxed_run (head.Constant which) parts d fine pc = tt
  boxed_run (head.Local slot t) parts d fine pc = tt
  boxed_run (head.ModuleName name) parts d fine pc = tt
  boxed_run (head.Given t) parts d fine pc = tt
  boxed_run (head.Kept t) parts d fine pc = tt
  boxed_run (head.Converted (conversion.ToObject t)) parts d fine pc =
      both_run _ _ (part_runs around.locals parts None fine.1 0 pc (temporary layout)) (refl, tt)
  boxed_run (head.Converted (conversion.ToC t)) parts d fine pc = tt
  boxed_run (head.Converted (conversion.FromObject t)) parts d fine pc = tt
  boxed_run (head.Converted conversion.Truth) parts d fine pc = tt
  boxed_run (head.Converted (conversion.ViewOfObject t)) parts d fine pc = tt
  boxed_run (head.Converted (conversion.ViewOfView t)) parts d fine pc = tt
  boxed_run (head.Cast t) parts d fine pc = tt
  boxed_run (head.Steps t) parts d fine pc = tt
  boxed_run (head.Unary op t) parts d fine pc = tt
  boxed_run (head.Binary op t truncates) parts d fine pc = tt
  boxed_run (head.Compare how) parts d fine pc = tt
  boxed_run head.Comparisons parts d fine pc = tt
  boxed_run head.Not parts d fine pc = tt
  boxed_run (head.And t) parts d fine pc = tt
  boxed_run (head.Or t) parts d fine pc = tt
  boxed_run (head.Conditional t) parts d fine pc = tt
  boxed_run (head.Call function t) parts d fine pc = tt
  boxed_run (head.Abs t) parts d fine pc = tt
  boxed_run (head.Min t) parts d fine pc = tt
  boxed_run (head.Max t) parts d fine pc = tt
  boxed_run head.ThreadId parts d fine pc = tt
  boxed_run (head.ObjectUnary op) parts d fine pc = tt
  boxed_run (head.ObjectBinary op) parts d fine pc = tt
  boxed_run head.Tuple parts d fine pc = tt
  boxed_run head.List parts d fine pc = tt
  boxed_run head.Dict parts d fine pc = tt
  boxed_run head.Item parts d fine pc = tt
  boxed_run (head.Part has_from has_to has_step) parts d fine pc = tt
  boxed_run (head.Method method) parts d fine pc = tt
  boxed_run (head.Builtin what) parts d fine pc = tt
  boxed_run (head.Element t wraparound) parts d fine pc = tt
  boxed_run (head.ViewPart t wraparound) parts d fine pc = tt
  boxed_run head.Index parts d fine pc = tt
  boxed_run (head.Slice has_from has_to has_step) parts d fine pc = tt
  boxed_run head.NewAxis parts d fine pc = tt
  boxed_run head.Ellipsis parts d fine pc = tt
  boxed_run (head.Transposed t) parts d fine pc = tt
  boxed_run (head.Copied t) parts d fine pc = tt
  boxed_run head.Length parts d fine pc = tt
  boxed_run (head.Extent axis) parts d fine pc = tt
  boxed_run head.Array parts d fine pc = tt
  boxed_run (head.Keyword keyword) parts d fine pc = tt
  boxed_run head.Expression parts d fine pc = tt
  boxed_run head.Assign parts d fine pc = tt
  boxed_run head.AssignEach parts d fine pc = tt
  boxed_run head.Unpack parts d fine pc = tt
  boxed_run (head.Augment op) parts d fine pc = tt
  boxed_run head.Declare parts d fine pc = tt
  boxed_run (head.Declarator slot t) parts d fine pc = tt
  boxed_run head.Pass parts d fine pc = tt
  boxed_run head.Break parts d fine pc = tt
  boxed_run head.Continue parts d fine pc = tt
  boxed_run head.Return parts d fine pc = tt
  boxed_run (head.Raise kind) parts d fine pc = tt
  boxed_run head.Reraise parts d fine pc = tt
  boxed_run (head.Try clauses has_else has_finally) parts d fine pc = tt
  boxed_run head.Block parts d fine pc = tt
  boxed_run (head.Handler kinds assigns) parts d fine pc = tt
  boxed_run (head.Catches kind) parts d fine pc = tt
  boxed_run head.CatchesAll parts d fine pc = tt
  boxed_run head.Global parts d fine pc = tt
  boxed_run (head.If arms has_else) parts d fine pc = tt
  boxed_run head.Arm parts d fine pc = tt
  boxed_run head.While parts d fine pc = tt
  boxed_run (head.Range arguments) parts d fine pc = tt
  boxed_run head.Over parts d fine pc = tt
  boxed_run (head.Parallel arguments nogil schedule) parts d fine pc = tt
  boxed_run head.ChunkSize parts d fine pc = tt
  boxed_run head.TeamSize parts d fine pc = tt
  boxed_run head.WithGil parts d fine pc = tt
  boxed_run head.WithNogil parts d fine pc = tt
  boxed_run (head.ParallelBlock has_size) parts d fine pc = tt

  arguments_run : (parts : Roses TypedHead) (d : ℕ) → FineArguments around.locals parts → StatementRuns (arguments_code layout d parts)
  arguments_run none d fine pc = tt
  arguments_run (more (rose h number at parts) trees) d fine pc =
      behind_runs (argument_code layout d (rose h number at parts) pc) (arguments_code layout (suc d) trees) (boxed_run h parts d fine.0 pc)
      (λ next. arguments_run trees (suc d) fine.1 next) pc

  print_runs : (parts : Roses TypedHead) → FineArguments around.locals parts → StatementRuns (print_code layout parts)
  unfolding is_run
  print_runs parts fine pc =
      both_run (arguments_code layout layout.variables parts pc)
      (instr.Print (registers_from layout.variables (count_of parts)) ∷ drops layout.variables (count_of parts))
      (arguments_run parts layout.variables fine pc) (refl, drops_run layout.variables (count_of parts))

  number_runs : (tree : TypedRose) → IsFine around.locals None tree → StatementRuns (λ pc. expression_code tree pc (temporary layout))
  number_runs tree fine pc = expression_run around.locals tree None fine pc (temporary layout)

  pub alone_run : (tree : TypedRose) → FineAlone around tree → StatementRuns (alone_code layout tree)
  alone_run (rose (head.Literal t n) number at parts) fine pc = number_runs (rose (head.Literal t n) number at parts) fine pc
  alone_run (rose (head.Sizeof t) number at parts) fine pc = number_runs (rose (head.Sizeof t) number at parts) fine pc
  alone_run (rose (head.Constant which) number at parts) fine pc = number_runs (rose (head.Constant which) number at parts) fine pc
  alone_run (rose (head.Local slot t) number at parts) fine pc = number_runs (rose (head.Local slot t) number at parts) fine pc
  alone_run (rose (head.ModuleName name) number at parts) fine pc = number_runs (rose (head.ModuleName name) number at parts) fine pc
  alone_run (rose (head.Given t) number at parts) fine pc = number_runs (rose (head.Given t) number at parts) fine pc
  alone_run (rose (head.Kept t) number at parts) fine pc = number_runs (rose (head.Kept t) number at parts) fine pc
  alone_run (rose (head.Converted asked) number at parts) fine pc = number_runs (rose (head.Converted asked) number at parts) fine pc
  alone_run (rose (head.Cast t) number at parts) fine pc = number_runs (rose (head.Cast t) number at parts) fine pc
  alone_run (rose (head.Steps t) number at parts) fine pc = number_runs (rose (head.Steps t) number at parts) fine pc
  alone_run (rose (head.Unary op t) number at parts) fine pc = number_runs (rose (head.Unary op t) number at parts) fine pc
  alone_run (rose (head.Binary op t truncates) number at parts) fine pc = number_runs (rose (head.Binary op t truncates) number at parts) fine pc
  alone_run (rose (head.Compare how) number at parts) fine pc = number_runs (rose (head.Compare how) number at parts) fine pc
  alone_run (rose head.Comparisons number at parts) fine pc = number_runs (rose head.Comparisons number at parts) fine pc
  alone_run (rose head.Not number at parts) fine pc = number_runs (rose head.Not number at parts) fine pc
  alone_run (rose (head.And t) number at parts) fine pc = number_runs (rose (head.And t) number at parts) fine pc
  alone_run (rose (head.Or t) number at parts) fine pc = number_runs (rose (head.Or t) number at parts) fine pc
  alone_run (rose (head.Conditional t) number at parts) fine pc = number_runs (rose (head.Conditional t) number at parts) fine pc
  alone_run (rose (head.Call function t) number at none) fine pc = call_run function t
  alone_run (rose (head.Call function t) number at (more tree trees)) fine pc = absurd fine
  alone_run (rose (head.Abs t) number at parts) fine pc = number_runs (rose (head.Abs t) number at parts) fine pc
  alone_run (rose (head.Min t) number at parts) fine pc = number_runs (rose (head.Min t) number at parts) fine pc
  alone_run (rose (head.Max t) number at parts) fine pc = number_runs (rose (head.Max t) number at parts) fine pc
  alone_run (rose head.ThreadId number at parts) fine pc = number_runs (rose head.ThreadId number at parts) fine pc
  alone_run (rose (head.ObjectUnary op) number at parts) fine pc = number_runs (rose (head.ObjectUnary op) number at parts) fine pc
  alone_run (rose (head.ObjectBinary op) number at parts) fine pc = number_runs (rose (head.ObjectBinary op) number at parts) fine pc
  alone_run (rose head.Tuple number at parts) fine pc = number_runs (rose head.Tuple number at parts) fine pc
  alone_run (rose head.List number at parts) fine pc = number_runs (rose head.List number at parts) fine pc
  alone_run (rose head.Dict number at parts) fine pc = number_runs (rose head.Dict number at parts) fine pc
  alone_run (rose head.Item number at parts) fine pc = number_runs (rose head.Item number at parts) fine pc
  alone_run (rose (head.Part has_from has_to has_step) number at parts) fine pc =
      number_runs (rose (head.Part has_from has_to has_step) number at parts) fine pc
  alone_run (rose (head.Method method) number at parts) fine pc = number_runs (rose (head.Method method) number at parts) fine pc
  alone_run (rose (head.Builtin builtin.Print) number at parts) fine pc = print_runs parts fine.1.1 pc
  alone_run (rose (head.Builtin builtin.Input) number at parts) fine pc = absurd fine.0
  alone_run (rose (head.Builtin builtin.Len) number at parts) fine pc = absurd fine.0
  alone_run (rose (head.Builtin builtin.Int) number at parts) fine pc = absurd fine.0
  alone_run (rose (head.Builtin builtin.Str) number at parts) fine pc = absurd fine.0
  alone_run (rose (head.Builtin builtin.Repr) number at parts) fine pc = absurd fine.0
  alone_run (rose (head.Builtin builtin.Bool) number at parts) fine pc = absurd fine.0
  alone_run (rose (head.Builtin builtin.List) number at parts) fine pc = absurd fine.0
  alone_run (rose (head.Builtin builtin.Tuple) number at parts) fine pc = absurd fine.0
  alone_run (rose (head.Builtin builtin.Abs) number at parts) fine pc = absurd fine.0
  alone_run (rose (head.Builtin builtin.Min) number at parts) fine pc = absurd fine.0
  alone_run (rose (head.Builtin builtin.Max) number at parts) fine pc = absurd fine.0
  alone_run (rose (head.Builtin builtin.Range) number at parts) fine pc = absurd fine.0
  alone_run (rose (head.Element t wraparound) number at parts) fine pc = number_runs (rose (head.Element t wraparound) number at parts) fine pc
  alone_run (rose (head.ViewPart t wraparound) number at parts) fine pc = number_runs (rose (head.ViewPart t wraparound) number at parts) fine pc
  alone_run (rose head.Index number at parts) fine pc = number_runs (rose head.Index number at parts) fine pc
  alone_run (rose (head.Slice has_from has_to has_step) number at parts) fine pc =
      number_runs (rose (head.Slice has_from has_to has_step) number at parts) fine pc
  alone_run (rose head.NewAxis number at parts) fine pc = number_runs (rose head.NewAxis number at parts) fine pc
  alone_run (rose head.Ellipsis number at parts) fine pc = number_runs (rose head.Ellipsis number at parts) fine pc
  alone_run (rose (head.Transposed t) number at parts) fine pc = number_runs (rose (head.Transposed t) number at parts) fine pc
  alone_run (rose (head.Copied t) number at parts) fine pc = number_runs (rose (head.Copied t) number at parts) fine pc
  alone_run (rose head.Length number at parts) fine pc = number_runs (rose head.Length number at parts) fine pc
  alone_run (rose (head.Extent axis) number at parts) fine pc = number_runs (rose (head.Extent axis) number at parts) fine pc
  alone_run (rose head.Array number at parts) fine pc = number_runs (rose head.Array number at parts) fine pc
  alone_run (rose (head.Keyword keyword) number at parts) fine pc = number_runs (rose (head.Keyword keyword) number at parts) fine pc
  alone_run (rose head.Expression number at parts) fine pc = number_runs (rose head.Expression number at parts) fine pc
  alone_run (rose head.Assign number at parts) fine pc = number_runs (rose head.Assign number at parts) fine pc
  alone_run (rose head.AssignEach number at parts) fine pc = number_runs (rose head.AssignEach number at parts) fine pc
  alone_run (rose head.Unpack number at parts) fine pc = number_runs (rose head.Unpack number at parts) fine pc
  alone_run (rose (head.Augment op) number at parts) fine pc = number_runs (rose (head.Augment op) number at parts) fine pc
  alone_run (rose head.Declare number at parts) fine pc = number_runs (rose head.Declare number at parts) fine pc
  alone_run (rose (head.Declarator slot t) number at parts) fine pc = number_runs (rose (head.Declarator slot t) number at parts) fine pc
  alone_run (rose head.Pass number at parts) fine pc = number_runs (rose head.Pass number at parts) fine pc
  alone_run (rose head.Break number at parts) fine pc = number_runs (rose head.Break number at parts) fine pc
  alone_run (rose head.Continue number at parts) fine pc = number_runs (rose head.Continue number at parts) fine pc
  alone_run (rose head.Return number at parts) fine pc = number_runs (rose head.Return number at parts) fine pc
  alone_run (rose (head.Raise kind) number at parts) fine pc = number_runs (rose (head.Raise kind) number at parts) fine pc
  alone_run (rose head.Reraise number at parts) fine pc = number_runs (rose head.Reraise number at parts) fine pc
  alone_run (rose (head.Try clauses has_else has_finally) number at parts) fine pc =
      number_runs (rose (head.Try clauses has_else has_finally) number at parts) fine pc
  alone_run (rose head.Block number at parts) fine pc = number_runs (rose head.Block number at parts) fine pc
  alone_run (rose (head.Handler kinds assigns) number at parts) fine pc = number_runs (rose (head.Handler kinds assigns) number at parts) fine pc
  alone_run (rose (head.Catches kind) number at parts) fine pc = number_runs (rose (head.Catches kind) number at parts) fine pc
  alone_run (rose head.CatchesAll number at parts) fine pc = number_runs (rose head.CatchesAll number at parts) fine pc
  alone_run (rose head.Global number at parts) fine pc = number_runs (rose head.Global number at parts) fine pc
  alone_run (rose (head.If arms has_else) number at parts) fine pc = number_runs (rose (head.If arms has_else) number at parts) fine pc
  alone_run (rose head.Arm number at parts) fine pc = number_runs (rose head.Arm number at parts) fine pc
  alone_run (rose head.While number at parts) fine pc = number_runs (rose head.While number at parts) fine pc
  alone_run (rose (head.Range arguments) number at parts) fine pc = number_runs (rose (head.Range arguments) number at parts) fine pc
  alone_run (rose head.Over number at parts) fine pc = number_runs (rose head.Over number at parts) fine pc
  alone_run (rose (head.Parallel arguments nogil schedule) number at parts) fine pc =
      number_runs (rose (head.Parallel arguments nogil schedule) number at parts) fine pc
  alone_run (rose head.ChunkSize number at parts) fine pc = number_runs (rose head.ChunkSize number at parts) fine pc
  alone_run (rose head.TeamSize number at parts) fine pc = number_runs (rose head.TeamSize number at parts) fine pc
  alone_run (rose head.WithGil number at parts) fine pc = number_runs (rose head.WithGil number at parts) fine pc
  alone_run (rose head.WithNogil number at parts) fine pc = number_runs (rose head.WithNogil number at parts) fine pc
  alone_run (rose (head.ParallelBlock has_size) number at parts) fine pc = number_runs (rose (head.ParallelBlock has_size) number at parts) fine pc
