-- The code of statements keeps the rules, and leaves no object.
use Rattle.std.proofs.Common.{◌≡◌, ◌≢◌, ℕ, suc, ◌+◌, ◌<◌, ◌≤◌, nat_eq, if◌then◌else◌, List, [], ◌∷◌, ◌++◌, length, Option, Some, None, Bool, true, false, refl, sym, ap, ◌∙◌, subst, arith}
use Rattle.std.specs.Prelude.{slice_get}
use Rattle.px_base.specs.declared.c_types.CType.{CType}
use Rattle.px_base.specs.declared.objects.Builtin.TheVariants as builtin
use Rattle.px_tree.specs.declared.typed_values.ValueType.{ValueType}
use Rattle.px_tree.specs.declared.typed_values.ValueType.TheVariants as type
use Rattle.px_tree.specs.declared.typed_values.Conversion.TheVariants as conversion
use Rattle.px_tree.specs.declared.typed_values.Comparing.TheVariants as comparing
use Rattle.px_tree.specs.declared.typed_heads.TypedHead.{TypedHead}
use Rattle.px_tree.specs.declared.typed_heads.TypedHead.TheVariants as head
use Rattle.px_walk.specs.Roses.{Roses, rose, none, more}
use Rattle.px_typed_walk.specs.TypedView.{TypedRose}
use Rattle.px_regcode.specs.declared.operands.Register.{Register}
use Rattle.px_regcode.specs.declared.operands.RegKind.TheVariants as kind
use Rattle.px_regcode.specs.declared.codes.Code.{Code}
use Rattle.px_regcode.specs.declared.instructions.Instr.{Instr}
use Rattle.px_regcode.specs.declared.instructions.Instr.TheVariants as instr
use Rattle.px_regcode.specs.Images.{ImageParts}
use Rattle.px_regcode.specs.Facts.{State, result_of}
use Rattle.px_regcode.specs.Shapes.{IsTextOrNone, IsCallOf, IsThereFor}
use Rattle.px_machine.specs.Means.{kind_of}
use Rattle.px_exprgen.specs.ExpressionCode.{register, expression_code, width}
use Rattle.px_stmtgen.specs.Layouts.{ending_code}
use Rattle.px_stmtgen.specs.StatementCode.{StatementEmission, call_code, alone_code, set_code, target_code, in_turn_code, statement_by, statement_code, statement_codes, alone_width, statement_width_by, statement_width, statement_widths, result_width}
use Rattle.px_code_laws.specs.FineStatements.{Surrounding, FineCall, FineAlone, FineSet, FineTarget, FineEnd, FineReturned, FineAugmented, FineStatementBy, IsFineStatement, AreFineStatements}
use Rattle.px_code_laws.specs.Compiled.{layout_of}
use Rattle.px_code_laws.proofs.Straight.{Kind, bare, numeric, owning, May, Kinds, put, put_same, put_other, Plain, Loses, Path, joined, is_whole}
use Rattle.px_code_laws.proofs.ObjectSteps.{Released, drop_step, call_step, result_step, return_step}
use Rattle.px_code_laws.proofs.FormedExpressions.{Safe, Ready, Sets, loses_number}
use Rattle.px_code_laws.proofs.FormedStates.{Walk, safe_with, bare_loses, end_walk, plain_at, EndRoom, EndText}
use Rattle.px_code_laws.proofs.FormedPrinting.{Callee, Done, nothing_done, settled, number_sets, alone_number, set_done, print_done}

module _ (image : ImageParts) (code : Code) (around : Surrounding) (handled : Bool) (handles : 1 ≤ around.objects → handled ≡ true)
    (room : length around.locals + around.objects ≤ code.registers)
    (callees : (function : ℕ) (t : ValueType) → slice_get around.callees function ≡ Some (Some t) → Callee image function t)
    (result : code.result ≡ kind_of around.gives) (constants : image.constants ≡ around.constants) where
  abbrev at_first : ℕ
  at_first = length around.locals

  abbrev at_base : ℕ
  at_base = length around.locals + around.objects

  abbrev IsReady : ℕ → Kinds → Type 0
  IsReady d at = Ready image code around.locals around.objects handled d at

  abbrev IsSafe : Kinds → Type 0
  IsSafe at = Safe image code around.locals around.objects handled at

  abbrev Goes : Kinds → List Instr → Kinds → Type 0
  Goes before is after = Walk image code around.locals around.objects handled before is after

  abbrev Sets_at : ℕ → Kinds → List Instr → Type 0
  Sets_at d before is = Sets image code around.locals around.objects handled d before is

  abbrev IsDone : Kinds → List Instr → Type 0
  IsDone before is = Done image code around handled handles room before is

  -- code between two statements, wherever it stands
  pub record Does (emission : StatementEmission) : Type 0 where
    pub run : (pc : ℕ) (before : Kinds) → IsReady at_first before → IsDone before (emission pc)

  pub then_done : (before : Kinds) (is js : List Instr) (p : IsDone before is) → IsDone p.after js → IsDone before (is ++ js)
  then_done before is js p q = record { after = q.after; path = joined image code at_first around.objects {mid = p.after} {after = q.after} is js p.path q.path; ready = q.ready }

  -- ---- calls

  call_of : (function : ℕ) (t : ValueType) (d : Option Register) → Callee image function t → IsThereFor d (kind_of t) → IsCallOf image (suc function) d 0
  call_of function t d c is = record {
    code = c.code;
    is_there = c.there;
    arguments = sym (ap length c.params);
    result = subst (λ k. IsThereFor d k) (sym c.result) is;
  }

  gives_kind : (function : ℕ) (t : ValueType) → Callee image function t → result_of (slice_get image.codes (suc function)) ≡ Some (kind_of t)
  gives_kind function t c = ap result_of c.there ∙ ap (λ k. Some k) c.result

  ready_put : (d : ℕ) (k : Kind) (before : Kinds) → at_first ≤ d → Plain k → ((s : State) → May k s → Loses image code at_first around.objects handled d s) → IsReady at_first before
      → IsReady at_first (put d k before)
  ready_put d k before from plain new ready = record {
    variables = λ r less. put_other d r k before (λ e. omega (arith, e, less, from)) ∙ ready.variables r less;
    free = λ r low. by_test r low (nat_eq r d) refl;
    safe = safe_with image code around.locals around.objects handled d k before new ready.safe;
  }
    where
      by_test : (r : ℕ) → at_first ≤ r → (b : Bool) → nat_eq r d ≡ b → Plain (put d k before r)
      by_test r low true is = subst (λ l. Plain l) (sym (ap (λ b. if b then k else before r) is)) plain
      by_test r low false is = subst (λ l. Plain l) (sym (ap (λ b. if b then k else before r) is)) (ready.free r low)

  ready_twice : (d : ℕ) (before : Kinds) → at_first ≤ d → IsSafe before → IsReady at_first before → IsReady at_first (put d bare (put d owning before))
  ready_twice d before from safe ready = record {
    variables = λ r less. let other : r ≢ d = (λ e. omega (arith, e, less, from)) in put_other d r bare (put d owning before) other ∙ put_other d r owning before other ∙ ready.variables r less;
    free = λ r low. by_test r low (nat_eq r d) refl;
    safe = λ r s may. by_safe r s (nat_eq r d) refl may;
  }
    where
      by_test : (r : ℕ) → at_first ≤ r → (b : Bool) → nat_eq r d ≡ b → Plain (put d bare (put d owning before) r)
      by_test r low true is = subst (λ l. Plain l) (sym (ap (λ b. if b then bare else put d owning before r) is)) tt
      by_test r low false is =
          subst (λ l. Plain l) (sym (ap (λ b. if b then bare else put d owning before r) is ∙ ap (λ b. if b then owning else before r) is)) (ready.free r low)

      by_safe : (r : ℕ) (s : State) (b : Bool) → nat_eq r d ≡ b → May (if b then bare else put d owning before r) s → Loses image code at_first around.objects handled r s
      by_safe r s true is may = bare_loses image code around.locals around.objects handled r s may
      by_safe r s false is may = safe r s (subst (λ k. May k s) (ap (λ b. if b then owning else before r) is) may)

  call_done : (function : ℕ) (t : ValueType) → FineCall around function t none → at_base + result_width t ≤ code.registers → (pc : ℕ) (before : Kinds) → IsReady at_first before
      → IsDone before (call_code (layout_of around) function t)
  call_done function (type.C t) fine wide pc before ready =
      let c = callees function (type.C t) fine.0 in
      record {
        after = put at_base numeric before;
        path = Path.go (result_step image code at_first around.objects handled before ready.safe (suc function) at_base kind.Whole (call_of function (type.C t) (Some (register at_base)) c tt)
            (gives_kind function (type.C t) c) tt (omega (arith, wide)) (ready.free at_base (omega arith))) Path.stop;
        ready = ready_put at_base numeric before (omega arith) tt (λ s may. number_loses s may) ready;
      }
    where
      number_loses : (s : State) → May numeric s → Loses image code at_first around.objects handled at_base s
      number_loses s may = subst (λ u. Loses image code at_first around.objects handled at_base u) (sym (is_whole numeric refl s may)) (loses_number image code around.locals around.objects handled handled at_base (omega arith))
  call_done function type.Object fine wide pc before ready =
      let c = callees function type.Object fine.0 in
      let inside : at_first < code.registers = omega (arith, fine.1.0, room) in
      record {
        after = put at_first bare (put at_first owning before);
        path = Path.go (result_step image code at_first around.objects handled before ready.safe (suc function) at_first kind.Object (call_of function type.Object (Some (register at_first)) c tt)
            (gives_kind function type.Object c) tt inside (ready.free at_first (omega arith)))
            (Path.go (drop_step image code at_first around.objects handled (put at_first owning before) at_first inside
            (subst (λ k. Released k) (sym (put_same at_first owning before)) tt)) Path.stop);
        ready = ready_twice at_first before (omega arith) ready.safe ready;
      }
  call_done function (type.View t) fine wide pc before ready = absurd fine.1
  call_done function type.Void fine wide pc before ready =
      let c = callees function type.Void fine.0 in
      record {
        after = before;
        path = Path.go (call_step image code at_first around.objects handled before ready.safe (suc function) (call_of function type.Void None c tt)) Path.stop;
        ready = ready;
      }

  -- ---- statements that stand for their own

  alone_does : (tree : TypedRose) → FineAlone around tree → at_base + alone_width tree ≤ code.registers → Does (alone_code (layout_of around) tree)
  alone_does (rose (head.Literal t n) number place parts) fine wide = record { run = λ pc before ready. alone_number image code around handled handles room (rose (head.Literal t n) number place parts) fine wide pc before ready }
  alone_does (rose (head.Sizeof t) number place parts) fine wide = record { run = λ pc before ready. alone_number image code around handled handles room (rose (head.Sizeof t) number place parts) fine wide pc before ready }
  alone_does (rose (head.Constant which) number place parts) fine wide = absurd fine.0
  alone_does (rose (head.Local slot (type.C t)) number place parts) fine wide = record { run = λ pc before ready. alone_number image code around handled handles room (rose (head.Local slot (type.C t)) number place parts) fine wide pc before ready }
  alone_does (rose (head.Local slot type.Object) number place parts) fine wide = absurd fine.0
  alone_does (rose (head.Local slot (type.View t)) number place parts) fine wide = absurd fine.0
  alone_does (rose (head.Local slot type.Void) number place parts) fine wide = absurd fine.0
  alone_does (rose (head.ModuleName name) number place parts) fine wide = absurd fine.0
  alone_does (rose (head.Given (type.C t)) number place parts) fine wide = record { run = λ pc before ready. alone_number image code around handled handles room (rose (head.Given (type.C t)) number place parts) fine wide pc before ready }
  alone_does (rose (head.Given type.Object) number place parts) fine wide = absurd fine.0
  alone_does (rose (head.Given (type.View t)) number place parts) fine wide = absurd fine.0
  alone_does (rose (head.Given type.Void) number place parts) fine wide = absurd fine.0
  alone_does (rose (head.Kept t) number place parts) fine wide = absurd fine.0
  alone_does (rose (head.Converted (conversion.ToC t)) number place parts) fine wide = record { run = λ pc before ready. alone_number image code around handled handles room (rose (head.Converted (conversion.ToC t)) number place parts) fine wide pc before ready }
  alone_does (rose (head.Converted (conversion.ToObject t)) number place parts) fine wide = absurd fine.0
  alone_does (rose (head.Converted (conversion.FromObject t)) number place parts) fine wide = absurd fine.0
  alone_does (rose (head.Converted conversion.Truth) number place parts) fine wide = absurd fine.0
  alone_does (rose (head.Converted (conversion.ViewOfObject t)) number place parts) fine wide = absurd fine.0
  alone_does (rose (head.Converted (conversion.ViewOfView t)) number place parts) fine wide = absurd fine.0
  alone_does (rose (head.Cast (type.C t)) number place parts) fine wide = record { run = λ pc before ready. alone_number image code around handled handles room (rose (head.Cast (type.C t)) number place parts) fine wide pc before ready }
  alone_does (rose (head.Cast type.Object) number place parts) fine wide = absurd fine.0
  alone_does (rose (head.Cast (type.View t)) number place parts) fine wide = absurd fine.0
  alone_does (rose (head.Cast type.Void) number place parts) fine wide = absurd fine.0
  alone_does (rose (head.Steps (type.C t)) number place parts) fine wide = record { run = λ pc before ready. alone_number image code around handled handles room (rose (head.Steps (type.C t)) number place parts) fine wide pc before ready }
  alone_does (rose (head.Steps type.Object) number place parts) fine wide = absurd fine.0
  alone_does (rose (head.Steps (type.View t)) number place parts) fine wide = absurd fine.0
  alone_does (rose (head.Steps type.Void) number place parts) fine wide = absurd fine.0
  alone_does (rose (head.Unary op t) number place parts) fine wide = record { run = λ pc before ready. alone_number image code around handled handles room (rose (head.Unary op t) number place parts) fine wide pc before ready }
  alone_does (rose (head.Binary op t truncates) number place parts) fine wide = record { run = λ pc before ready. alone_number image code around handled handles room (rose (head.Binary op t truncates) number place parts) fine wide pc before ready }
  alone_does (rose (head.Compare (comparing.C op t)) number place parts) fine wide = record { run = λ pc before ready. alone_number image code around handled handles room (rose (head.Compare (comparing.C op t)) number place parts) fine wide pc before ready }
  alone_does (rose (head.Compare (comparing.Objects op)) number place parts) fine wide = absurd fine.0
  alone_does (rose (head.Compare comparing.In) number place parts) fine wide = absurd fine.0
  alone_does (rose (head.Compare comparing.NotIn) number place parts) fine wide = absurd fine.0
  alone_does (rose (head.Compare comparing.Is) number place parts) fine wide = absurd fine.0
  alone_does (rose (head.Compare comparing.IsNot) number place parts) fine wide = absurd fine.0
  alone_does (rose head.Comparisons number place parts) fine wide = absurd fine.0
  alone_does (rose head.Not number place parts) fine wide = absurd fine.0
  alone_does (rose (head.And t) number place parts) fine wide = absurd fine.0
  alone_does (rose (head.Or t) number place parts) fine wide = absurd fine.0
  alone_does (rose (head.Conditional t) number place parts) fine wide = absurd fine.0
  alone_does (rose (head.Call function (type.C t)) number place none) fine wide = record { run = λ pc before ready. call_done function (type.C t) fine wide pc before ready }
  alone_does (rose (head.Call function type.Object) number place none) fine wide = record { run = λ pc before ready. call_done function type.Object fine wide pc before ready }
  alone_does (rose (head.Call function type.Void) number place none) fine wide = record { run = λ pc before ready. call_done function type.Void fine wide pc before ready }
  alone_does (rose (head.Call function (type.View t)) number place none) fine wide = absurd fine.1
  alone_does (rose (head.Call function t) number place (more tree trees)) fine wide = absurd fine
  alone_does (rose (head.Abs t) number place parts) fine wide = record { run = λ pc before ready. alone_number image code around handled handles room (rose (head.Abs t) number place parts) fine wide pc before ready }
  alone_does (rose (head.Min t) number place parts) fine wide = absurd fine.0
  alone_does (rose (head.Max t) number place parts) fine wide = absurd fine.0
  alone_does (rose head.ThreadId number place parts) fine wide = absurd fine.0
  alone_does (rose (head.ObjectUnary op) number place parts) fine wide = absurd fine.0
  alone_does (rose (head.ObjectBinary op) number place parts) fine wide = absurd fine.0
  alone_does (rose head.Tuple number place parts) fine wide = absurd fine.0
  alone_does (rose head.List number place parts) fine wide = absurd fine.0
  alone_does (rose head.Dict number place parts) fine wide = absurd fine.0
  alone_does (rose head.Item number place parts) fine wide = absurd fine.0
  alone_does (rose (head.Part has_from has_to has_step) number place parts) fine wide = absurd fine.0
  alone_does (rose (head.Method method) number place parts) fine wide = absurd fine.0
  alone_does (rose (head.Builtin builtin.Print) number place parts) fine wide = record { run = λ pc before ready. print_done image code around handled handles room parts fine.1.1 fine.1.0 wide pc before ready }
  alone_does (rose (head.Builtin builtin.Input) number place parts) fine wide = absurd fine.0
  alone_does (rose (head.Builtin builtin.Len) number place parts) fine wide = absurd fine.0
  alone_does (rose (head.Builtin builtin.Int) number place parts) fine wide = absurd fine.0
  alone_does (rose (head.Builtin builtin.Str) number place parts) fine wide = absurd fine.0
  alone_does (rose (head.Builtin builtin.Repr) number place parts) fine wide = absurd fine.0
  alone_does (rose (head.Builtin builtin.Bool) number place parts) fine wide = absurd fine.0
  alone_does (rose (head.Builtin builtin.List) number place parts) fine wide = absurd fine.0
  alone_does (rose (head.Builtin builtin.Tuple) number place parts) fine wide = absurd fine.0
  alone_does (rose (head.Builtin builtin.Abs) number place parts) fine wide = absurd fine.0
  alone_does (rose (head.Builtin builtin.Min) number place parts) fine wide = absurd fine.0
  alone_does (rose (head.Builtin builtin.Max) number place parts) fine wide = absurd fine.0
  alone_does (rose (head.Builtin builtin.Range) number place parts) fine wide = absurd fine.0
  alone_does (rose (head.Element t wraparound) number place parts) fine wide = absurd fine.0
  alone_does (rose (head.ViewPart t wraparound) number place parts) fine wide = absurd fine.0
  alone_does (rose head.Index number place parts) fine wide = absurd fine.0
  alone_does (rose (head.Slice has_from has_to has_step) number place parts) fine wide = absurd fine.0
  alone_does (rose head.NewAxis number place parts) fine wide = absurd fine.0
  alone_does (rose head.Ellipsis number place parts) fine wide = absurd fine.0
  alone_does (rose (head.Transposed t) number place parts) fine wide = absurd fine.0
  alone_does (rose (head.Copied t) number place parts) fine wide = absurd fine.0
  alone_does (rose head.Length number place parts) fine wide = absurd fine.0
  alone_does (rose (head.Extent axis) number place parts) fine wide = absurd fine.0
  alone_does (rose head.Array number place parts) fine wide = absurd fine.0
  alone_does (rose (head.Keyword keyword) number place parts) fine wide = absurd fine.0
  alone_does (rose head.Expression number place parts) fine wide = absurd fine.0
  alone_does (rose head.Assign number place parts) fine wide = absurd fine.0
  alone_does (rose head.AssignEach number place parts) fine wide = absurd fine.0
  alone_does (rose head.Unpack number place parts) fine wide = absurd fine.0
  alone_does (rose (head.Augment op) number place parts) fine wide = absurd fine.0
  alone_does (rose head.Declare number place parts) fine wide = absurd fine.0
  alone_does (rose (head.Declarator slot t) number place parts) fine wide = absurd fine.0
  alone_does (rose head.Pass number place parts) fine wide = absurd fine.0
  alone_does (rose head.Break number place parts) fine wide = absurd fine.0
  alone_does (rose head.Continue number place parts) fine wide = absurd fine.0
  alone_does (rose head.Return number place parts) fine wide = absurd fine.0
  alone_does (rose (head.Raise kind) number place parts) fine wide = absurd fine.0
  alone_does (rose head.Reraise number place parts) fine wide = absurd fine.0
  alone_does (rose (head.Try clauses has_else has_finally) number place parts) fine wide = absurd fine.0
  alone_does (rose head.Block number place parts) fine wide = absurd fine.0
  alone_does (rose (head.Handler kinds assigns) number place parts) fine wide = absurd fine.0
  alone_does (rose (head.Catches kind) number place parts) fine wide = absurd fine.0
  alone_does (rose head.CatchesAll number place parts) fine wide = absurd fine.0
  alone_does (rose head.Global number place parts) fine wide = absurd fine.0
  alone_does (rose (head.If arms has_else) number place parts) fine wide = absurd fine.0
  alone_does (rose head.Arm number place parts) fine wide = absurd fine.0
  alone_does (rose head.While number place parts) fine wide = absurd fine.0
  alone_does (rose (head.Range arguments) number place parts) fine wide = absurd fine.0
  alone_does (rose head.Over number place parts) fine wide = absurd fine.0
  alone_does (rose (head.Parallel arguments nogil schedule) number place parts) fine wide = absurd fine.0
  alone_does (rose head.ChunkSize number place parts) fine wide = absurd fine.0
  alone_does (rose head.TeamSize number place parts) fine wide = absurd fine.0
  alone_does (rose head.WithGil number place parts) fine wide = absurd fine.0
  alone_does (rose head.WithNogil number place parts) fine wide = absurd fine.0
  alone_does (rose (head.ParallelBlock has_size) number place parts) fine wide = absurd fine.0

  -- ---- numbers for variables

  set_does : (slot : ℕ) (t : ValueType) (tree : TypedRose) → FineSet around slot t tree → at_base + width tree ≤ code.registers → Does (set_code (layout_of around) slot tree)
  set_does slot (type.C t) tree fine wide = record { run = λ pc before ready. set_done image code around handled handles room slot t tree None fine.0 fine.1.fine wide pc before ready tt }
  set_does slot type.Object tree fine wide = absurd fine
  set_does slot (type.View t) tree fine wide = absurd fine
  set_does slot type.Void tree fine wide = absurd fine

  target_does : (h : TypedHead) (tree : TypedRose) → FineTarget around h tree → at_base + width tree ≤ code.registers → Does (target_code (layout_of around) h tree)
  target_does (head.Literal t n) tree fine wide = absurd fine
  target_does (head.Sizeof t) tree fine wide = absurd fine
  target_does (head.Constant which) tree fine wide = absurd fine
  target_does (head.Local slot t) tree fine wide = set_does slot t tree fine wide
  target_does (head.ModuleName name) tree fine wide = absurd fine
  target_does (head.Given t) tree fine wide = absurd fine
  target_does (head.Kept t) tree fine wide = absurd fine
  target_does (head.Converted asked) tree fine wide = absurd fine
  target_does (head.Cast t) tree fine wide = absurd fine
  target_does (head.Steps t) tree fine wide = absurd fine
  target_does (head.Unary op t) tree fine wide = absurd fine
  target_does (head.Binary op t truncates) tree fine wide = absurd fine
  target_does (head.Compare how) tree fine wide = absurd fine
  target_does head.Comparisons tree fine wide = absurd fine
  target_does head.Not tree fine wide = absurd fine
  target_does (head.And t) tree fine wide = absurd fine
  target_does (head.Or t) tree fine wide = absurd fine
  target_does (head.Conditional t) tree fine wide = absurd fine
  target_does (head.Call function t) tree fine wide = absurd fine
  target_does (head.Abs t) tree fine wide = absurd fine
  target_does (head.Min t) tree fine wide = absurd fine
  target_does (head.Max t) tree fine wide = absurd fine
  target_does head.ThreadId tree fine wide = absurd fine
  target_does (head.ObjectUnary op) tree fine wide = absurd fine
  target_does (head.ObjectBinary op) tree fine wide = absurd fine
  target_does head.Tuple tree fine wide = absurd fine
  target_does head.List tree fine wide = absurd fine
  target_does head.Dict tree fine wide = absurd fine
  target_does head.Item tree fine wide = absurd fine
  target_does (head.Part has_from has_to has_step) tree fine wide = absurd fine
  target_does (head.Method method) tree fine wide = absurd fine
  target_does (head.Builtin what) tree fine wide = absurd fine
  target_does (head.Element t wraparound) tree fine wide = absurd fine
  target_does (head.ViewPart t wraparound) tree fine wide = absurd fine
  target_does head.Index tree fine wide = absurd fine
  target_does (head.Slice has_from has_to has_step) tree fine wide = absurd fine
  target_does head.NewAxis tree fine wide = absurd fine
  target_does head.Ellipsis tree fine wide = absurd fine
  target_does (head.Transposed t) tree fine wide = absurd fine
  target_does (head.Copied t) tree fine wide = absurd fine
  target_does head.Length tree fine wide = absurd fine
  target_does (head.Extent axis) tree fine wide = absurd fine
  target_does head.Array tree fine wide = absurd fine
  target_does (head.Keyword keyword) tree fine wide = absurd fine
  target_does head.Expression tree fine wide = absurd fine
  target_does head.Assign tree fine wide = absurd fine
  target_does head.AssignEach tree fine wide = absurd fine
  target_does head.Unpack tree fine wide = absurd fine
  target_does (head.Augment op) tree fine wide = absurd fine
  target_does head.Declare tree fine wide = absurd fine
  target_does (head.Declarator slot t) tree fine wide = absurd fine
  target_does head.Pass tree fine wide = absurd fine
  target_does head.Break tree fine wide = absurd fine
  target_does head.Continue tree fine wide = absurd fine
  target_does head.Return tree fine wide = absurd fine
  target_does (head.Raise kind) tree fine wide = absurd fine
  target_does head.Reraise tree fine wide = absurd fine
  target_does (head.Try clauses has_else has_finally) tree fine wide = absurd fine
  target_does head.Block tree fine wide = absurd fine
  target_does (head.Handler kinds assigns) tree fine wide = absurd fine
  target_does (head.Catches kind) tree fine wide = absurd fine
  target_does head.CatchesAll tree fine wide = absurd fine
  target_does head.Global tree fine wide = absurd fine
  target_does (head.If arms has_else) tree fine wide = absurd fine
  target_does head.Arm tree fine wide = absurd fine
  target_does head.While tree fine wide = absurd fine
  target_does (head.Range arguments) tree fine wide = absurd fine
  target_does head.Over tree fine wide = absurd fine
  target_does (head.Parallel arguments nogil schedule) tree fine wide = absurd fine
  target_does head.ChunkSize tree fine wide = absurd fine
  target_does head.TeamSize tree fine wide = absurd fine
  target_does head.WithGil tree fine wide = absurd fine
  target_does head.WithNogil tree fine wide = absurd fine
  target_does (head.ParallelBlock has_size) tree fine wide = absurd fine

  augment_done : (slot : ℕ) (t : CType) (target tree : TypedRose) → FineAugmented around target slot t tree → at_base + width target ≤ code.registers → at_base + width tree ≤ code.registers
      → (pc : ℕ) (before : Kinds) → IsReady at_first before
      → IsDone before (expression_code target pc at_base ++ set_code (layout_of around) slot tree (pc + length (expression_code target pc at_base)))
  augment_done slot t target tree fine wide wide2 pc before ready =
      let is = expression_code target pc at_base in
      let p = number_sets image code around handled handles room target None fine.target_fine wide pc before ready tt in
      let q = set_done image code around handled handles room slot t tree (Some t) fine.local fine.fine wide2 (pc + length is) p.after (settled image code around handled handles room before is p ready) p.there in
      record { after = q.after; path = joined image code at_first around.objects {mid = p.after} {after = q.after} is _ p.path q.path; ready = q.ready }

  -- ---- return

  end_text : (gives : ValueType) → FineEnd around gives → EndText image code around.locals around.objects handled gives around.none_at
  end_text (type.C t) fine = tt
  end_text type.Object fine = subst (λ o. IsTextOrNone o) (sym (ap (λ cs. slice_get cs around.none_at) constants ∙ fine.1)) tt
  end_text (type.View t) fine = tt
  end_text type.Void fine = tt

  -- an end has registers enough
  abbrev pub EndFits : Type 0
  EndFits = EndRoom image code around.locals around.objects handled around.gives

  pub end_done : FineEnd around around.gives → EndFits → (before : Kinds) → IsReady at_first before → IsDone before (ending_code (layout_of around) around.gives)
  end_done fine fits before ready = record {
    after = before;
    path = end_walk image code around.locals around.objects handled (layout_of around) around.gives before before refl refl result fits (end_text around.gives fine) ready.safe
        (plain_at image code around.locals around.objects handled before ready);
    ready = ready;
  }

  return_done : (gives : ValueType) → code.result ≡ kind_of gives → (tree : TypedRose) → FineReturned around gives tree → at_base + width tree ≤ code.registers
      → Does (λ pc. expression_code tree pc at_base ++ instr.Return (register at_base) ∷ [])
  return_done (type.C t) same tree fine wide = record {
    run = λ pc before ready.
        let is = expression_code tree pc at_base in
        let p = number_sets image code around handled handles room tree None fine.fine wide pc before ready tt in
        let low = settled image code around handled handles room before is p ready in
        record {
          after = p.after;
          path = joined image code at_first around.objects {mid = p.after} {after = p.after} is _ p.path
              (Path.go (return_step image code at_first around.objects handled p.after at_base kind.Whole p.after p.inside same tt p.there
              (λ r other. plain_at image code around.locals around.objects handled p.after low r)) Path.stop);
          ready = low;
        };
  }
  return_done type.Object same tree fine wide = absurd fine
  return_done (type.View t) same tree fine wide = absurd fine
  return_done type.Void same tree fine wide = absurd fine

  -- ---- one statement after another

  abbrev pub AllDo : List StatementEmission → Type 0
  AllDo [] = Unit {0}
  AllDo (emission ∷ emissions) = Does emission × AllDo emissions

  pub in_turn_done : (emissions : List StatementEmission) → AllDo emissions → (pc : ℕ) (before : Kinds) → IsReady at_first before → IsDone before (in_turn_code emissions pc)
  in_turn_done [] all pc before ready = nothing_done image code around handled handles room before ready
  in_turn_done (emission ∷ emissions) all pc before ready =
      let p = all.0.run pc before ready in
      then_done before (emission pc) _ p (in_turn_done emissions all.1 (pc + length (emission pc)) p.after p.ready)

  nothing_does : Does (λ pc. [])
  nothing_does = record { run = λ pc before ready. nothing_done image code around handled handles room before ready }

  -- ---- by the head

  by_head : (h : TypedHead) (parts : Roses TypedHead) → FineStatementBy around h parts (AreFineStatements around parts)
      → (AreFineStatements around parts → at_base + statement_widths parts ≤ code.registers → AllDo (statement_codes (layout_of around) parts))
      → at_base + statement_width_by h parts (statement_widths parts) ≤ code.registers → EndFits
      → Does (statement_by (layout_of around) h parts (statement_codes (layout_of around) parts))
  unfolding statement_by
  by_head (head.Literal t n) parts fine inner wide fits = absurd fine
  by_head (head.Sizeof t) parts fine inner wide fits = absurd fine
  by_head (head.Constant which) parts fine inner wide fits = absurd fine
  by_head (head.Local slot t) parts fine inner wide fits = absurd fine
  by_head (head.ModuleName name) parts fine inner wide fits = absurd fine
  by_head (head.Given t) parts fine inner wide fits = absurd fine
  by_head (head.Kept t) parts fine inner wide fits = absurd fine
  by_head (head.Converted asked) parts fine inner wide fits = absurd fine
  by_head (head.Cast t) parts fine inner wide fits = absurd fine
  by_head (head.Steps t) parts fine inner wide fits = absurd fine
  by_head (head.Unary op t) parts fine inner wide fits = absurd fine
  by_head (head.Binary op t truncates) parts fine inner wide fits = absurd fine
  by_head (head.Compare how) parts fine inner wide fits = absurd fine
  by_head head.Comparisons parts fine inner wide fits = absurd fine
  by_head head.Not parts fine inner wide fits = absurd fine
  by_head (head.And t) parts fine inner wide fits = absurd fine
  by_head (head.Or t) parts fine inner wide fits = absurd fine
  by_head (head.Conditional t) parts fine inner wide fits = absurd fine
  by_head (head.Call function t) parts fine inner wide fits = absurd fine
  by_head (head.Abs t) parts fine inner wide fits = absurd fine
  by_head (head.Min t) parts fine inner wide fits = absurd fine
  by_head (head.Max t) parts fine inner wide fits = absurd fine
  by_head head.ThreadId parts fine inner wide fits = absurd fine
  by_head (head.ObjectUnary op) parts fine inner wide fits = absurd fine
  by_head (head.ObjectBinary op) parts fine inner wide fits = absurd fine
  by_head head.Tuple parts fine inner wide fits = absurd fine
  by_head head.List parts fine inner wide fits = absurd fine
  by_head head.Dict parts fine inner wide fits = absurd fine
  by_head head.Item parts fine inner wide fits = absurd fine
  by_head (head.Part has_from has_to has_step) parts fine inner wide fits = absurd fine
  by_head (head.Method method) parts fine inner wide fits = absurd fine
  by_head (head.Builtin what) parts fine inner wide fits = absurd fine
  by_head (head.Element t wraparound) parts fine inner wide fits = absurd fine
  by_head (head.ViewPart t wraparound) parts fine inner wide fits = absurd fine
  by_head head.Index parts fine inner wide fits = absurd fine
  by_head (head.Slice has_from has_to has_step) parts fine inner wide fits = absurd fine
  by_head head.NewAxis parts fine inner wide fits = absurd fine
  by_head head.Ellipsis parts fine inner wide fits = absurd fine
  by_head (head.Transposed t) parts fine inner wide fits = absurd fine
  by_head (head.Copied t) parts fine inner wide fits = absurd fine
  by_head head.Length parts fine inner wide fits = absurd fine
  by_head (head.Extent axis) parts fine inner wide fits = absurd fine
  by_head head.Array parts fine inner wide fits = absurd fine
  by_head (head.Keyword keyword) parts fine inner wide fits = absurd fine
  by_head head.Expression none fine inner wide fits = absurd fine
  by_head head.Expression (more tree none) fine inner wide fits = record { run = λ pc before ready. (alone_does tree fine (omega (arith, wide))).run pc before ready }
  by_head head.Expression (more tree (more other trees)) fine inner wide fits = absurd fine
  by_head head.Assign none fine inner wide fits = absurd fine
  by_head head.Assign (more (rose target number place parts) none) fine inner wide fits = absurd fine
  by_head head.Assign (more (rose target number place parts) (more tree none)) fine inner wide fits = record { run = λ pc before ready. (target_does target tree fine (omega (arith, wide))).run pc before ready }
  by_head head.Assign (more (rose target number place parts) (more tree (more other trees))) fine inner wide fits = absurd fine
  by_head head.AssignEach parts fine inner wide fits = absurd fine
  by_head head.Unpack parts fine inner wide fits = absurd fine
  by_head (head.Augment op) none fine inner wide fits = absurd fine
  by_head (head.Augment op) (more (rose target number place parts) none) fine inner wide fits = absurd fine
  by_head (head.Augment op) (more (rose target number place parts) (more tree (more other trees))) fine inner wide fits = absurd fine
  by_head (head.Augment op) (more (rose (head.Literal t n) number place parts) (more tree none)) fine inner wide fits = absurd fine
  by_head (head.Augment op) (more (rose (head.Sizeof t) number place parts) (more tree none)) fine inner wide fits = absurd fine
  by_head (head.Augment op) (more (rose (head.Constant which) number place parts) (more tree none)) fine inner wide fits = absurd fine
  by_head (head.Augment op) (more (rose (head.Local slot (type.C t)) number place parts) (more tree none)) fine inner wide fits = record { run = λ pc before ready. augment_done slot t (rose (head.Local slot (type.C t)) number place parts) tree fine (omega (arith, wide)) (omega (arith, wide)) pc before ready }
  by_head (head.Augment op) (more (rose (head.Local slot type.Object) number place parts) (more tree none)) fine inner wide fits = absurd fine
  by_head (head.Augment op) (more (rose (head.Local slot (type.View t)) number place parts) (more tree none)) fine inner wide fits = absurd fine
  by_head (head.Augment op) (more (rose (head.Local slot type.Void) number place parts) (more tree none)) fine inner wide fits = absurd fine
  by_head (head.Augment op) (more (rose (head.ModuleName name) number place parts) (more tree none)) fine inner wide fits = absurd fine
  by_head (head.Augment op) (more (rose (head.Given t) number place parts) (more tree none)) fine inner wide fits = absurd fine
  by_head (head.Augment op) (more (rose (head.Kept t) number place parts) (more tree none)) fine inner wide fits = absurd fine
  by_head (head.Augment op) (more (rose (head.Converted asked) number place parts) (more tree none)) fine inner wide fits = absurd fine
  by_head (head.Augment op) (more (rose (head.Cast t) number place parts) (more tree none)) fine inner wide fits = absurd fine
  by_head (head.Augment op) (more (rose (head.Steps t) number place parts) (more tree none)) fine inner wide fits = absurd fine
  by_head (head.Augment op) (more (rose (head.Unary op2 t) number place parts) (more tree none)) fine inner wide fits = absurd fine
  by_head (head.Augment op) (more (rose (head.Binary op2 t truncates) number place parts) (more tree none)) fine inner wide fits = absurd fine
  by_head (head.Augment op) (more (rose (head.Compare how) number place parts) (more tree none)) fine inner wide fits = absurd fine
  by_head (head.Augment op) (more (rose head.Comparisons number place parts) (more tree none)) fine inner wide fits = absurd fine
  by_head (head.Augment op) (more (rose head.Not number place parts) (more tree none)) fine inner wide fits = absurd fine
  by_head (head.Augment op) (more (rose (head.And t) number place parts) (more tree none)) fine inner wide fits = absurd fine
  by_head (head.Augment op) (more (rose (head.Or t) number place parts) (more tree none)) fine inner wide fits = absurd fine
  by_head (head.Augment op) (more (rose (head.Conditional t) number place parts) (more tree none)) fine inner wide fits = absurd fine
  by_head (head.Augment op) (more (rose (head.Call function t) number place parts) (more tree none)) fine inner wide fits = absurd fine
  by_head (head.Augment op) (more (rose (head.Abs t) number place parts) (more tree none)) fine inner wide fits = absurd fine
  by_head (head.Augment op) (more (rose (head.Min t) number place parts) (more tree none)) fine inner wide fits = absurd fine
  by_head (head.Augment op) (more (rose (head.Max t) number place parts) (more tree none)) fine inner wide fits = absurd fine
  by_head (head.Augment op) (more (rose head.ThreadId number place parts) (more tree none)) fine inner wide fits = absurd fine
  by_head (head.Augment op) (more (rose (head.ObjectUnary op2) number place parts) (more tree none)) fine inner wide fits = absurd fine
  by_head (head.Augment op) (more (rose (head.ObjectBinary op2) number place parts) (more tree none)) fine inner wide fits = absurd fine
  by_head (head.Augment op) (more (rose head.Tuple number place parts) (more tree none)) fine inner wide fits = absurd fine
  by_head (head.Augment op) (more (rose head.List number place parts) (more tree none)) fine inner wide fits = absurd fine
  by_head (head.Augment op) (more (rose head.Dict number place parts) (more tree none)) fine inner wide fits = absurd fine
  by_head (head.Augment op) (more (rose head.Item number place parts) (more tree none)) fine inner wide fits = absurd fine
  by_head (head.Augment op) (more (rose (head.Part has_from has_to has_step) number place parts) (more tree none)) fine inner wide fits = absurd fine
  by_head (head.Augment op) (more (rose (head.Method method) number place parts) (more tree none)) fine inner wide fits = absurd fine
  by_head (head.Augment op) (more (rose (head.Builtin what) number place parts) (more tree none)) fine inner wide fits = absurd fine
  by_head (head.Augment op) (more (rose (head.Element t wraparound) number place parts) (more tree none)) fine inner wide fits = absurd fine
  by_head (head.Augment op) (more (rose (head.ViewPart t wraparound) number place parts) (more tree none)) fine inner wide fits = absurd fine
  by_head (head.Augment op) (more (rose head.Index number place parts) (more tree none)) fine inner wide fits = absurd fine
  by_head (head.Augment op) (more (rose (head.Slice has_from has_to has_step) number place parts) (more tree none)) fine inner wide fits = absurd fine
  by_head (head.Augment op) (more (rose head.NewAxis number place parts) (more tree none)) fine inner wide fits = absurd fine
  by_head (head.Augment op) (more (rose head.Ellipsis number place parts) (more tree none)) fine inner wide fits = absurd fine
  by_head (head.Augment op) (more (rose (head.Transposed t) number place parts) (more tree none)) fine inner wide fits = absurd fine
  by_head (head.Augment op) (more (rose (head.Copied t) number place parts) (more tree none)) fine inner wide fits = absurd fine
  by_head (head.Augment op) (more (rose head.Length number place parts) (more tree none)) fine inner wide fits = absurd fine
  by_head (head.Augment op) (more (rose (head.Extent axis) number place parts) (more tree none)) fine inner wide fits = absurd fine
  by_head (head.Augment op) (more (rose head.Array number place parts) (more tree none)) fine inner wide fits = absurd fine
  by_head (head.Augment op) (more (rose (head.Keyword keyword) number place parts) (more tree none)) fine inner wide fits = absurd fine
  by_head (head.Augment op) (more (rose head.Expression number place parts) (more tree none)) fine inner wide fits = absurd fine
  by_head (head.Augment op) (more (rose head.Assign number place parts) (more tree none)) fine inner wide fits = absurd fine
  by_head (head.Augment op) (more (rose head.AssignEach number place parts) (more tree none)) fine inner wide fits = absurd fine
  by_head (head.Augment op) (more (rose head.Unpack number place parts) (more tree none)) fine inner wide fits = absurd fine
  by_head (head.Augment op) (more (rose (head.Augment op2) number place parts) (more tree none)) fine inner wide fits = absurd fine
  by_head (head.Augment op) (more (rose head.Declare number place parts) (more tree none)) fine inner wide fits = absurd fine
  by_head (head.Augment op) (more (rose (head.Declarator slot t) number place parts) (more tree none)) fine inner wide fits = absurd fine
  by_head (head.Augment op) (more (rose head.Pass number place parts) (more tree none)) fine inner wide fits = absurd fine
  by_head (head.Augment op) (more (rose head.Break number place parts) (more tree none)) fine inner wide fits = absurd fine
  by_head (head.Augment op) (more (rose head.Continue number place parts) (more tree none)) fine inner wide fits = absurd fine
  by_head (head.Augment op) (more (rose head.Return number place parts) (more tree none)) fine inner wide fits = absurd fine
  by_head (head.Augment op) (more (rose (head.Raise kind) number place parts) (more tree none)) fine inner wide fits = absurd fine
  by_head (head.Augment op) (more (rose head.Reraise number place parts) (more tree none)) fine inner wide fits = absurd fine
  by_head (head.Augment op) (more (rose (head.Try clauses has_else has_finally) number place parts) (more tree none)) fine inner wide fits = absurd fine
  by_head (head.Augment op) (more (rose head.Block number place parts) (more tree none)) fine inner wide fits = absurd fine
  by_head (head.Augment op) (more (rose (head.Handler kinds assigns) number place parts) (more tree none)) fine inner wide fits = absurd fine
  by_head (head.Augment op) (more (rose (head.Catches kind) number place parts) (more tree none)) fine inner wide fits = absurd fine
  by_head (head.Augment op) (more (rose head.CatchesAll number place parts) (more tree none)) fine inner wide fits = absurd fine
  by_head (head.Augment op) (more (rose head.Global number place parts) (more tree none)) fine inner wide fits = absurd fine
  by_head (head.Augment op) (more (rose (head.If arms has_else) number place parts) (more tree none)) fine inner wide fits = absurd fine
  by_head (head.Augment op) (more (rose head.Arm number place parts) (more tree none)) fine inner wide fits = absurd fine
  by_head (head.Augment op) (more (rose head.While number place parts) (more tree none)) fine inner wide fits = absurd fine
  by_head (head.Augment op) (more (rose (head.Range arguments) number place parts) (more tree none)) fine inner wide fits = absurd fine
  by_head (head.Augment op) (more (rose head.Over number place parts) (more tree none)) fine inner wide fits = absurd fine
  by_head (head.Augment op) (more (rose (head.Parallel arguments nogil schedule) number place parts) (more tree none)) fine inner wide fits = absurd fine
  by_head (head.Augment op) (more (rose head.ChunkSize number place parts) (more tree none)) fine inner wide fits = absurd fine
  by_head (head.Augment op) (more (rose head.TeamSize number place parts) (more tree none)) fine inner wide fits = absurd fine
  by_head (head.Augment op) (more (rose head.WithGil number place parts) (more tree none)) fine inner wide fits = absurd fine
  by_head (head.Augment op) (more (rose head.WithNogil number place parts) (more tree none)) fine inner wide fits = absurd fine
  by_head (head.Augment op) (more (rose (head.ParallelBlock has_size) number place parts) (more tree none)) fine inner wide fits = absurd fine
  by_head head.Declare parts fine inner wide fits = record { run = λ pc before ready. in_turn_done (statement_codes (layout_of around) parts) (inner fine wide) pc before ready }
  by_head (head.Declarator slot t) none fine inner wide fits = nothing_does
  by_head (head.Declarator slot (type.C t)) (more tree none) fine inner wide fits = record { run = λ pc before ready. (set_does slot (type.C t) tree fine (omega (arith, wide))).run pc before ready }
  by_head (head.Declarator slot type.Object) (more tree none) fine inner wide fits = absurd fine
  by_head (head.Declarator slot (type.View t)) (more tree none) fine inner wide fits = absurd fine
  by_head (head.Declarator slot type.Void) (more tree none) fine inner wide fits = absurd fine
  by_head (head.Declarator slot t) (more tree (more other trees)) fine inner wide fits = absurd fine
  by_head head.Pass parts fine inner wide fits = nothing_does
  by_head head.Break parts fine inner wide fits = absurd fine
  by_head head.Continue parts fine inner wide fits = absurd fine
  by_head head.Return none fine inner wide fits = record { run = λ pc before ready. end_done fine fits before ready }
  by_head head.Return (more tree none) fine inner wide fits = record { run = λ pc before ready. (return_done around.gives result tree fine (omega (arith, wide))).run pc before ready }
  by_head head.Return (more tree (more other trees)) fine inner wide fits = absurd fine
  by_head (head.Raise kind) parts fine inner wide fits = absurd fine
  by_head head.Reraise parts fine inner wide fits = absurd fine
  by_head (head.Try clauses has_else has_finally) parts fine inner wide fits = absurd fine
  by_head head.Block parts fine inner wide fits = absurd fine
  by_head (head.Handler kinds assigns) parts fine inner wide fits = absurd fine
  by_head (head.Catches kind) parts fine inner wide fits = absurd fine
  by_head head.CatchesAll parts fine inner wide fits = absurd fine
  by_head head.Global parts fine inner wide fits = nothing_does
  by_head (head.If arms has_else) parts fine inner wide fits = absurd fine
  by_head head.Arm parts fine inner wide fits = absurd fine
  by_head head.While parts fine inner wide fits = absurd fine
  by_head (head.Range arguments) parts fine inner wide fits = absurd fine
  by_head head.Over parts fine inner wide fits = absurd fine
  by_head (head.Parallel arguments nogil schedule) parts fine inner wide fits = absurd fine
  by_head head.ChunkSize parts fine inner wide fits = absurd fine
  by_head head.TeamSize parts fine inner wide fits = absurd fine
  by_head head.WithGil parts fine inner wide fits = absurd fine
  by_head head.WithNogil parts fine inner wide fits = absurd fine
  by_head (head.ParallelBlock has_size) parts fine inner wide fits = absurd fine

  mutual
    unfolding statement_code

    pub statement_does : (tree : TypedRose) → IsFineStatement around tree → at_base + statement_width tree ≤ code.registers → EndFits → Does (statement_code (layout_of around) tree)
    statement_does (rose h number at parts) fine wide fits = by_head h parts fine (λ inner all_wide. statements_do parts inner all_wide fits) wide fits

    statements_do : (parts : Roses TypedHead) → AreFineStatements around parts → at_base + statement_widths parts ≤ code.registers → EndFits → AllDo (statement_codes (layout_of around) parts)
    statements_do none fine wide fits = tt
    statements_do (more tree trees) fine wide fits = (statement_does tree fine.0 (omega (arith, wide)) fits, statements_do trees fine.1 (omega (arith, wide)) fits)
