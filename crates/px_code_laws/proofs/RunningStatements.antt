-- The code of statements has only instructions that run.
use Rattle.std.proofs.Common.{ℕ, List, [], ◌∷◌, Option, Some, None, refl}
use Rattle.px_base.specs.declared.c_types.CType.{CType}
use Rattle.px_tree.specs.declared.typed_values.ValueType.{ValueType}
use Rattle.px_tree.specs.declared.typed_values.ValueType.TheVariants as type
use Rattle.px_tree.specs.declared.typed_heads.TypedHead.{TypedHead}
use Rattle.px_tree.specs.declared.typed_heads.TypedHead.TheVariants as head
use Rattle.px_walk.specs.Roses.{Roses, rose, none, more}
use Rattle.px_typed_walk.specs.TypedView.{TypedRose}
use Rattle.px_regcode.specs.declared.instructions.Instr.TheVariants as instr
use Rattle.px_regcode.proofs.Tests.{Each}
use Rattle.px_exprgen.specs.ExpressionCode.{register, behind, expression_code}
use Rattle.px_stmtgen.specs.declared.layouts.Layout.{Layout}
use Rattle.px_stmtgen.specs.Layouts.{temporary}
use Rattle.px_stmtgen.specs.StatementCode.{StatementEmission, set_code, target_code, return_code, in_turn_code}
use Rattle.px_stmtgen.specs.StatementCode.{statement_by, statement_code, statement_codes}
use Rattle.px_machine.specs.Running.{is_run}
use Rattle.px_code_laws.specs.Fine.{IsFine}
use Rattle.px_code_laws.specs.FineStatements.{Surrounding, FineTarget, FineAugmentTo, FineReturned, FineStatementBy}
use Rattle.px_code_laws.specs.FineStatements.{IsFineStatement, AreFineStatements}
use Rattle.px_code_laws.proofs.RunningExpressions.{both_run, behind_runs, expression_run}
use Rattle.px_code_laws.proofs.RunningValues.{StatementRuns, end_runs, alone_run}

abbrev pub AllRunning : List StatementEmission → Type 0
AllRunning codes = Each StatementRuns codes

pub in_turn_runs : (codes : List StatementEmission) → AllRunning codes → StatementRuns (in_turn_code codes)
in_turn_runs [] all pc = tt
in_turn_runs (code ∷ codes) all pc = behind_runs (code pc) (in_turn_code codes) (all.0 pc) (in_turn_runs codes all.1) pc

module _ (layout : Layout) (around : Surrounding) where
  set_runs : (slot : ℕ) (tree : TypedRose) (at_hand : Option CType) → IsFine around.locals at_hand tree → StatementRuns (set_code layout slot tree)
  unfolding is_run
  set_runs slot tree at_hand fine pc =
      both_run (expression_code tree pc (temporary layout)) (instr.Move (register slot) (register (temporary layout)) ∷ [])
      (expression_run around.locals tree at_hand fine pc (temporary layout)) (refl, tt)

  return_runs : (gives : ValueType) (tree : TypedRose) → FineReturned around gives tree → StatementRuns (return_code layout (more tree none))
  unfolding is_run
  return_runs (type.C t) tree fine pc =
      both_run (expression_code tree pc (temporary layout)) (instr.Return (register (temporary layout)) ∷ [])
      (expression_run around.locals tree None fine.fine pc (temporary layout)) (refl, tt)
  return_runs type.Object tree fine pc = absurd fine
  return_runs (type.View t) tree fine pc = absurd fine
  return_runs type.Void tree fine pc = absurd fine

  target_runs : (h : TypedHead) (tree : TypedRose) → FineTarget around h tree → StatementRuns (target_code layout h tree)
  target_runs (head.Literal t n) tree fine pc = tt
  target_runs (head.Sizeof t) tree fine pc = tt
  target_runs (head.Constant which) tree fine pc = tt
  target_runs (head.Local slot (type.C t)) tree fine pc = set_runs slot tree None fine.1.fine pc
  target_runs (head.Local slot type.Object) tree fine pc = absurd fine
  target_runs (head.Local slot (type.View t)) tree fine pc = absurd fine
  target_runs (head.Local slot type.Void) tree fine pc = absurd fine
  target_runs (head.ModuleName name) tree fine pc = tt
  target_runs (head.Given t) tree fine pc = tt
  target_runs (head.Kept t) tree fine pc = tt
  target_runs (head.Converted asked) tree fine pc = tt
  target_runs (head.Cast t) tree fine pc = tt
  target_runs (head.Steps t) tree fine pc = tt
  target_runs (head.Unary op t) tree fine pc = tt
  target_runs (head.Binary op t truncates) tree fine pc = tt
  target_runs (head.Compare how) tree fine pc = tt
  target_runs head.Comparisons tree fine pc = tt
  target_runs head.Not tree fine pc = tt
  target_runs (head.And t) tree fine pc = tt
  target_runs (head.Or t) tree fine pc = tt
  target_runs (head.Conditional t) tree fine pc = tt
  target_runs (head.Call function t) tree fine pc = tt
  target_runs (head.Abs t) tree fine pc = tt
  target_runs (head.Min t) tree fine pc = tt
  target_runs (head.Max t) tree fine pc = tt
  target_runs head.ThreadId tree fine pc = tt
  target_runs (head.ObjectUnary op) tree fine pc = tt
  target_runs (head.ObjectBinary op) tree fine pc = tt
  target_runs head.Tuple tree fine pc = tt
  target_runs head.List tree fine pc = tt
  target_runs head.Dict tree fine pc = tt
  target_runs head.Item tree fine pc = tt
  target_runs (head.Part has_from has_to has_step) tree fine pc = tt
  target_runs (head.Method method) tree fine pc = tt
  target_runs (head.Builtin what) tree fine pc = tt
  target_runs (head.Element t wraparound) tree fine pc = tt
  target_runs (head.ViewPart t wraparound) tree fine pc = tt
  target_runs head.Index tree fine pc = tt
  target_runs (head.Slice has_from has_to has_step) tree fine pc = tt
  target_runs head.NewAxis tree fine pc = tt
  target_runs head.Ellipsis tree fine pc = tt
  target_runs (head.Transposed t) tree fine pc = tt
  target_runs (head.Copied t) tree fine pc = tt
  target_runs head.Length tree fine pc = tt
  target_runs (head.Extent axis) tree fine pc = tt
  target_runs head.Array tree fine pc = tt
  target_runs (head.Keyword keyword) tree fine pc = tt
  target_runs head.Expression tree fine pc = tt
  target_runs head.Assign tree fine pc = tt
  target_runs head.AssignEach tree fine pc = tt
  target_runs head.Unpack tree fine pc = tt
  target_runs (head.Augment op) tree fine pc = tt
  target_runs head.Declare tree fine pc = tt
  target_runs (head.Declarator slot t) tree fine pc = tt
  target_runs head.Pass tree fine pc = tt
  target_runs head.Break tree fine pc = tt
  target_runs head.Continue tree fine pc = tt
  target_runs head.Return tree fine pc = tt
  target_runs (head.Raise kind) tree fine pc = tt
  target_runs head.Reraise tree fine pc = tt
  target_runs (head.Try clauses has_else has_finally) tree fine pc = tt
  target_runs head.Block tree fine pc = tt
  target_runs (head.Handler kinds assigns) tree fine pc = tt
  target_runs (head.Catches kind) tree fine pc = tt
  target_runs head.CatchesAll tree fine pc = tt
  target_runs head.Global tree fine pc = tt
  target_runs (head.If arms has_else) tree fine pc = tt
  target_runs head.Arm tree fine pc = tt
  target_runs head.While tree fine pc = tt
  target_runs (head.Range arguments) tree fine pc = tt
  target_runs head.Over tree fine pc = tt
  target_runs (head.Parallel arguments nogil schedule) tree fine pc = tt
  target_runs head.ChunkSize tree fine pc = tt
  target_runs head.TeamSize tree fine pc = tt
  target_runs head.WithGil tree fine pc = tt
  target_runs head.WithNogil tree fine pc = tt
  target_runs (head.ParallelBlock has_size) tree fine pc = tt

  augment_runs : (h : TypedHead) (target tree : TypedRose) → FineAugmentTo around h target tree
      → StatementRuns (λ pc. behind (expression_code target pc (temporary layout)) (target_code layout h tree) pc)
  augment_runs (head.Literal t n) target tree fine pc = absurd fine
  augment_runs (head.Sizeof t) target tree fine pc = absurd fine
  augment_runs (head.Constant which) target tree fine pc = absurd fine
  augment_runs (head.Local slot (type.C t)) target tree fine pc =
      behind_runs (expression_code target pc (temporary layout)) (target_code layout (head.Local slot (type.C t)) tree)
      (expression_run around.locals target None fine.target_fine pc (temporary layout)) (λ next. set_runs slot tree (Some t) fine.fine next) pc
  augment_runs (head.Local slot type.Object) target tree fine pc = absurd fine
  augment_runs (head.Local slot (type.View t)) target tree fine pc = absurd fine
  augment_runs (head.Local slot type.Void) target tree fine pc = absurd fine
  augment_runs (head.ModuleName name) target tree fine pc = absurd fine
  augment_runs (head.Given t) target tree fine pc = absurd fine
  augment_runs (head.Kept t) target tree fine pc = absurd fine
  augment_runs (head.Converted asked) target tree fine pc = absurd fine
  augment_runs (head.Cast t) target tree fine pc = absurd fine
  augment_runs (head.Steps t) target tree fine pc = absurd fine
  augment_runs (head.Unary op t) target tree fine pc = absurd fine
  augment_runs (head.Binary op t truncates) target tree fine pc = absurd fine
  augment_runs (head.Compare how) target tree fine pc = absurd fine
  augment_runs head.Comparisons target tree fine pc = absurd fine
  augment_runs head.Not target tree fine pc = absurd fine
  augment_runs (head.And t) target tree fine pc = absurd fine
  augment_runs (head.Or t) target tree fine pc = absurd fine
  augment_runs (head.Conditional t) target tree fine pc = absurd fine
  augment_runs (head.Call function t) target tree fine pc = absurd fine
  augment_runs (head.Abs t) target tree fine pc = absurd fine
  augment_runs (head.Min t) target tree fine pc = absurd fine
  augment_runs (head.Max t) target tree fine pc = absurd fine
  augment_runs head.ThreadId target tree fine pc = absurd fine
  augment_runs (head.ObjectUnary op) target tree fine pc = absurd fine
  augment_runs (head.ObjectBinary op) target tree fine pc = absurd fine
  augment_runs head.Tuple target tree fine pc = absurd fine
  augment_runs head.List target tree fine pc = absurd fine
  augment_runs head.Dict target tree fine pc = absurd fine
  augment_runs head.Item target tree fine pc = absurd fine
  augment_runs (head.Part has_from has_to has_step) target tree fine pc = absurd fine
  augment_runs (head.Method method) target tree fine pc = absurd fine
  augment_runs (head.Builtin what) target tree fine pc = absurd fine
  augment_runs (head.Element t wraparound) target tree fine pc = absurd fine
  augment_runs (head.ViewPart t wraparound) target tree fine pc = absurd fine
  augment_runs head.Index target tree fine pc = absurd fine
  augment_runs (head.Slice has_from has_to has_step) target tree fine pc = absurd fine
  augment_runs head.NewAxis target tree fine pc = absurd fine
  augment_runs head.Ellipsis target tree fine pc = absurd fine
  augment_runs (head.Transposed t) target tree fine pc = absurd fine
  augment_runs (head.Copied t) target tree fine pc = absurd fine
  augment_runs head.Length target tree fine pc = absurd fine
  augment_runs (head.Extent axis) target tree fine pc = absurd fine
  augment_runs head.Array target tree fine pc = absurd fine
  augment_runs (head.Keyword keyword) target tree fine pc = absurd fine
  augment_runs head.Expression target tree fine pc = absurd fine
  augment_runs head.Assign target tree fine pc = absurd fine
  augment_runs head.AssignEach target tree fine pc = absurd fine
  augment_runs head.Unpack target tree fine pc = absurd fine
  augment_runs (head.Augment op) target tree fine pc = absurd fine
  augment_runs head.Declare target tree fine pc = absurd fine
  augment_runs (head.Declarator slot t) target tree fine pc = absurd fine
  augment_runs head.Pass target tree fine pc = absurd fine
  augment_runs head.Break target tree fine pc = absurd fine
  augment_runs head.Continue target tree fine pc = absurd fine
  augment_runs head.Return target tree fine pc = absurd fine
  augment_runs (head.Raise kind) target tree fine pc = absurd fine
  augment_runs head.Reraise target tree fine pc = absurd fine
  augment_runs (head.Try clauses has_else has_finally) target tree fine pc = absurd fine
  augment_runs head.Block target tree fine pc = absurd fine
  augment_runs (head.Handler kinds assigns) target tree fine pc = absurd fine
  augment_runs (head.Catches kind) target tree fine pc = absurd fine
  augment_runs head.CatchesAll target tree fine pc = absurd fine
  augment_runs head.Global target tree fine pc = absurd fine
  augment_runs (head.If arms has_else) target tree fine pc = absurd fine
  augment_runs head.Arm target tree fine pc = absurd fine
  augment_runs head.While target tree fine pc = absurd fine
  augment_runs (head.Range arguments) target tree fine pc = absurd fine
  augment_runs head.Over target tree fine pc = absurd fine
  augment_runs (head.Parallel arguments nogil schedule) target tree fine pc = absurd fine
  augment_runs head.ChunkSize target tree fine pc = absurd fine
  augment_runs head.TeamSize target tree fine pc = absurd fine
  augment_runs head.WithGil target tree fine pc = absurd fine
  augment_runs head.WithNogil target tree fine pc = absurd fine
  augment_runs (head.ParallelBlock has_size) target tree fine pc = absurd fine

  by_head : (h : TypedHead) (parts : Roses TypedHead) → FineStatementBy around h parts (AreFineStatements around parts)
      → (AreFineStatements around parts → AllRunning (statement_codes layout parts))
      → StatementRuns (statement_by layout h parts (statement_codes layout parts))
  unfolding statement_by
  by_head (head.Literal t n) parts fine inner pc = tt
  by_head (head.Sizeof t) parts fine inner pc = tt
  by_head (head.Constant which) parts fine inner pc = tt
  by_head (head.Local slot t) parts fine inner pc = tt
  by_head (head.ModuleName name) parts fine inner pc = tt
  by_head (head.Given t) parts fine inner pc = tt
  by_head (head.Kept t) parts fine inner pc = tt
  by_head (head.Converted asked) parts fine inner pc = tt
  by_head (head.Cast t) parts fine inner pc = tt
  by_head (head.Steps t) parts fine inner pc = tt
  by_head (head.Unary op t) parts fine inner pc = tt
  by_head (head.Binary op t truncates) parts fine inner pc = tt
  by_head (head.Compare how) parts fine inner pc = tt
  by_head head.Comparisons parts fine inner pc = tt
  by_head head.Not parts fine inner pc = tt
  by_head (head.And t) parts fine inner pc = tt
  by_head (head.Or t) parts fine inner pc = tt
  by_head (head.Conditional t) parts fine inner pc = tt
  by_head (head.Call function t) parts fine inner pc = tt
  by_head (head.Abs t) parts fine inner pc = tt
  by_head (head.Min t) parts fine inner pc = tt
  by_head (head.Max t) parts fine inner pc = tt
  by_head head.ThreadId parts fine inner pc = tt
  by_head (head.ObjectUnary op) parts fine inner pc = tt
  by_head (head.ObjectBinary op) parts fine inner pc = tt
  by_head head.Tuple parts fine inner pc = tt
  by_head head.List parts fine inner pc = tt
  by_head head.Dict parts fine inner pc = tt
  by_head head.Item parts fine inner pc = tt
  by_head (head.Part has_from has_to has_step) parts fine inner pc = tt
  by_head (head.Method method) parts fine inner pc = tt
  by_head (head.Builtin what) parts fine inner pc = tt
  by_head (head.Element t wraparound) parts fine inner pc = tt
  by_head (head.ViewPart t wraparound) parts fine inner pc = tt
  by_head head.Index parts fine inner pc = tt
  by_head (head.Slice has_from has_to has_step) parts fine inner pc = tt
  by_head head.NewAxis parts fine inner pc = tt
  by_head head.Ellipsis parts fine inner pc = tt
  by_head (head.Transposed t) parts fine inner pc = tt
  by_head (head.Copied t) parts fine inner pc = tt
  by_head head.Length parts fine inner pc = tt
  by_head (head.Extent axis) parts fine inner pc = tt
  by_head head.Array parts fine inner pc = tt
  by_head (head.Keyword keyword) parts fine inner pc = tt
  by_head head.Expression none fine inner pc = absurd fine
  by_head head.Expression (more tree none) fine inner pc = alone_run layout around tree fine pc
  by_head head.Expression (more tree (more other trees)) fine inner pc = absurd fine
  by_head head.Assign none fine inner pc = absurd fine
  by_head head.Assign (more (rose h number at parts) none) fine inner pc = absurd fine
  by_head head.Assign (more (rose h number at parts) (more tree none)) fine inner pc = target_runs h tree fine pc
  by_head head.Assign (more (rose h number at parts) (more tree (more other trees))) fine inner pc = absurd fine
  by_head head.AssignEach parts fine inner pc = tt
  by_head head.Unpack parts fine inner pc = tt
  by_head (head.Augment op) none fine inner pc = absurd fine
  by_head (head.Augment op) (more (rose h number at parts) none) fine inner pc = absurd fine
  by_head (head.Augment op) (more (rose h number at parts) (more tree none)) fine inner pc = augment_runs h (rose h number at parts) tree fine pc
  by_head (head.Augment op) (more (rose h number at parts) (more tree (more other trees))) fine inner pc = absurd fine
  by_head head.Declare parts fine inner pc = in_turn_runs (statement_codes layout parts) (inner fine) pc
  by_head (head.Declarator slot t) none fine inner pc = tt
  by_head (head.Declarator slot (type.C t)) (more tree none) fine inner pc = set_runs slot tree None fine.1.fine pc
  by_head (head.Declarator slot type.Object) (more tree none) fine inner pc = absurd fine
  by_head (head.Declarator slot (type.View t)) (more tree none) fine inner pc = absurd fine
  by_head (head.Declarator slot type.Void) (more tree none) fine inner pc = absurd fine
  by_head (head.Declarator slot t) (more tree (more other trees)) fine inner pc = absurd fine
  by_head head.Pass parts fine inner pc = tt
  by_head head.Break parts fine inner pc = tt
  by_head head.Continue parts fine inner pc = tt
  by_head head.Return none fine inner pc = end_runs layout layout.gives
  by_head head.Return (more tree none) fine inner pc = return_runs around.gives tree fine pc
  by_head head.Return (more tree (more other trees)) fine inner pc = absurd fine
  by_head (head.Raise kind) parts fine inner pc = tt
  by_head head.Reraise parts fine inner pc = tt
  by_head (head.Try clauses has_else has_finally) parts fine inner pc = tt
  by_head head.Block parts fine inner pc = tt
  by_head (head.Handler kinds assigns) parts fine inner pc = tt
  by_head (head.Catches kind) parts fine inner pc = tt
  by_head head.CatchesAll parts fine inner pc = tt
  by_head head.Global parts fine inner pc = tt
  by_head (head.If arms has_else) parts fine inner pc = tt
  by_head head.Arm parts fine inner pc = tt
  by_head head.While parts fine inner pc = tt
  by_head (head.Range arguments) parts fine inner pc = tt
  by_head head.Over parts fine inner pc = tt
  by_head (head.Parallel arguments nogil schedule) parts fine inner pc = tt
  by_head head.ChunkSize parts fine inner pc = tt
  by_head head.TeamSize parts fine inner pc = tt
  by_head head.WithGil parts fine inner pc = tt
  by_head head.WithNogil parts fine inner pc = tt
  by_head (head.ParallelBlock has_size) parts fine inner pc = tt

  mutual
    unfolding statement_code

    pub statement_runs : (tree : TypedRose) → IsFineStatement around tree → StatementRuns (statement_code layout tree)
    statement_runs (rose h number at parts) fine pc = by_head h parts fine (λ all. statements_run parts all) pc

    statements_run : (parts : Roses TypedHead) → AreFineStatements around parts → AllRunning (statement_codes layout parts)
    statements_run none fine = tt
    statements_run (more tree trees) fine = (statement_runs tree fine.0, statements_run trees fine.1)
