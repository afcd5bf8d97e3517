-- The code of numbers for variables, of `print`, and of calls keeps the rules, and leaves no object.
use Rattle.std.proofs.Common.{◌≡◌, ℕ, suc, ◌+◌, ◌<◌, ◌≤◌, nat_eq, ◌&&◌, if◌then◌else◌, List, [], ◌∷◌, ◌++◌, length, Option, Some, None, Bool, true, false, refl, sym, ap, ◌∙◌, subst, arith}
use Rattle.std.specs.Prelude.{slice_get, nat_le}
use Rattle.std.proofs.lemmas.Bool.{leb-true, leb-false}
use Rattle.std.proofs.lemmas.Option.{slice_get_within}
use Rattle.px_base.specs.declared.c_types.CType.{CType}
use Rattle.px_tree.specs.declared.typed_values.ValueType.{ValueType}
use Rattle.px_tree.specs.declared.typed_values.ValueType.TheVariants as type
use Rattle.px_tree.specs.declared.typed_values.Conversion.TheVariants as conversion
use Rattle.px_tree.specs.declared.typed_heads.TypedHead.{TypedHead}
use Rattle.px_tree.specs.declared.typed_heads.TypedHead.TheVariants as head
use Rattle.px_walk.specs.Roses.{Roses, rose, none, more}
use Rattle.px_typed_walk.specs.TypedView.{TypedRose}
use Rattle.px_regcode.specs.declared.codes.Code.{Code}
use Rattle.px_regcode.specs.declared.instructions.Instr.{Instr}
use Rattle.px_regcode.specs.declared.instructions.Instr.TheVariants as instr
use Rattle.px_regcode.specs.Images.{ImageParts}
use Rattle.px_regcode.specs.Facts.{State, whole, object}
use Rattle.px_machine.specs.Means.{kind_of}
use Rattle.px_exprgen.specs.ExpressionCode.{register, part_code, expression_code, expression_codes, width, width_by, widths, widest}
use Rattle.px_stmtgen.specs.StatementCode.{count_of, boxed_code, argument_code, arguments_code, print_code, set_code}
use Rattle.px_code_laws.specs.Fine.{IsFine, AreFine, types_of, HasType}
use Rattle.px_code_laws.specs.FineStatements.{Surrounding, FineBoxed, FineArguments}
use Rattle.px_code_laws.specs.Compiled.{layout_of}
use Rattle.px_code_laws.proofs.Straight.{numeric, owning, unowned, releasable, May, Kinds, put, put_other, Plain, Loses, Path, joined, clean, is_whole}
use Rattle.px_code_laws.proofs.NumberSteps.{move_step}
use Rattle.px_code_laws.proofs.ObjectSteps.{Released, box_step, print_step, is_reference}
use Rattle.px_code_laws.proofs.FormedExpressions.{Safe, Ready, Sets, HandIs, expression_forms, unequal}
use Rattle.px_code_laws.proofs.FormedStates.{Walk, safe_with, Dropped, drops_walk, plain_at}

-- the function that is called is there, without parameters
pub record Callee (image : ImageParts) (function : ℕ) (t : ValueType) : Type 0 where
  pub code : Code
  pub there : slice_get image.codes (suc function) ≡ Some code
  pub params : code.params ≡ []
  pub result : code.result ≡ kind_of t

module _ (image : ImageParts) (code : Code) (around : Surrounding) (handled : Bool) (handles : 1 ≤ around.objects → handled ≡ true)
    (room : length around.locals + around.objects ≤ code.registers) where
  abbrev at_first : ℕ
  at_first = length around.locals

  abbrev at_base : ℕ
  at_base = length around.locals + around.objects

  abbrev IsReady : ℕ → Kinds → Type 0
  IsReady d at = Ready image code around.locals around.objects handled d at

  abbrev IsSafe : Kinds → Type 0
  IsSafe at = Safe image code around.locals around.objects handled at

  abbrev Goes : Kinds → List Instr → Kinds → Type 0
  Goes before is after = Walk image code around.locals around.objects handled before is after

  abbrev Sets_at : ℕ → Kinds → List Instr → Type 0
  Sets_at d before is = Sets image code around.locals around.objects handled d before is

  -- code between two statements
  pub record Done (before : Kinds) (is : List Instr) : Type 0 where
    pub after : Kinds
    pub path : Goes before is after
    pub ready : IsReady at_first after

  pub nothing_done : (before : Kinds) → IsReady at_first before → Done before []
  nothing_done before ready = record { after = before; path = Path.stop; ready = ready }

  raised : (before : Kinds) → IsReady at_first before → IsReady at_base before
  raised before ready = record { variables = ready.variables; free = λ r from. ready.free r (omega (arith, from)); safe = ready.safe }

  pub settled : (before : Kinds) (is : List Instr) (p : Sets_at at_base before is) → IsReady at_first before → IsReady at_first p.after
  settled before is p ready = record { variables = p.ready.variables; free = λ r from. by_test r from (nat_le (suc r) at_base) refl; safe = p.ready.safe }
    where
      by_test : (r : ℕ) → at_first ≤ r → (b : Bool) → nat_le (suc r) at_base ≡ b → Plain (p.after r)
      by_test r from true is = subst (λ k. Plain k) (sym (p.same r (leb-true (suc r) at_base is))) (ready.free r from)
      by_test r from false is = let less : at_base < suc r = leb-false (suc r) at_base is in p.ready.free r (omega (arith, less))

  pub number_sets : (tree : TypedRose) (at_hand : Option CType) → IsFine around.locals at_hand tree → at_base + width tree ≤ code.registers → (pc : ℕ) (before : Kinds) → IsReady at_first before
      → HandIs at_hand (before at_base) → Sets_at at_base before (expression_code tree pc at_base)
  number_sets tree at_hand fine wide pc before ready given =
      (expression_forms image code around.locals around.objects handled tree at_hand fine).run pc at_base before (omega arith) wide (raised before ready) given

  pub alone_number : (tree : TypedRose) → IsFine around.locals None tree → at_base + width tree ≤ code.registers → (pc : ℕ) (before : Kinds) → IsReady at_first before
      → Done before (expression_code tree pc at_base)
  alone_number tree fine wide pc before ready =
      let p = number_sets tree None fine wide pc before ready tt in
      record { after = p.after; path = p.path; ready = settled before _ p ready }

  -- ---- a number for a variable

  number_loses : (slot : ℕ) → slot < at_first → (s : State) → May numeric s → Loses image code at_first around.objects handled slot s
  number_loses slot less s may = subst (λ t. Loses image code at_first around.objects handled slot t) (sym (is_whole numeric refl s may)) (by_handler handled)
    where
      by_tests : (a b : Bool) → nat_le at_first slot ≡ a → May (if a && b then releasable else unowned) whole
      by_tests false b is = tt
      by_tests true false is = tt
      by_tests true true is = let no : at_first ≤ slot = leb-true at_first slot is in absurd (omega (arith, less, no))

      by_handler : (h : Bool) → Loses image code at_first around.objects h slot whole
      by_handler true = by_tests (nat_le at_first slot) (nat_le (suc slot) at_base) refl
      by_handler false = refl

  ready_set : (slot : ℕ) (before : Kinds) → slot < at_first → IsReady at_first before → IsReady at_first (put slot numeric before)
  ready_set slot before less ready = record {
    variables = λ r inside. by_test r inside (nat_eq r slot) refl;
    free = λ r from. subst (λ k. Plain k) (sym (put_other slot r numeric before (λ e. omega (arith, e, less, from)))) (ready.free r from);
    safe = safe_with image code around.locals around.objects handled slot numeric before (number_loses slot less) ready.safe;
  }
    where
      by_test : (r : ℕ) → r < at_first → (b : Bool) → nat_eq r slot ≡ b → put slot numeric before r ≡ numeric
      by_test r inside true is = ap (λ b. if b then numeric else before r) is
      by_test r inside false is = ap (λ b. if b then numeric else before r) is ∙ ready.variables r inside

  pub set_done : (slot : ℕ) (t : CType) (tree : TypedRose) (at_hand : Option CType) → slice_get around.locals slot ≡ Some (type.C t) → IsFine around.locals at_hand tree
      → at_base + width tree ≤ code.registers → (pc : ℕ) (before : Kinds) → IsReady at_first before → HandIs at_hand (before at_base)
      → Done before (set_code (layout_of around) slot tree pc)
  set_done slot t tree at_hand has fine wide pc before ready given =
      let p = number_sets tree at_hand fine wide pc before ready given in
      let less : slot < at_first = slice_get_within around.locals slot _ has in
      let low = settled before _ p ready in
      record {
        after = put slot numeric p.after;
        path = joined image code at_first around.objects _ _ p.path
            (Path.go (move_step image code at_first around.objects handled p.after p.ready.safe at_base slot p.inside (omega (arith, less, room)) p.there
            (plain_at image code around.locals around.objects handled p.after low slot)) Path.stop);
        ready = ready_set slot p.after less low;
      }

  -- ---- objects

  object_loses : (d : ℕ) → at_first ≤ d → d < at_base → (s : State) → May owning s → Loses image code at_first around.objects handled d s
  object_loses d from less s may =
      subst (λ h. Loses image code at_first around.objects h d s) (sym (handles (omega (arith, from, less))))
      (subst (λ t. May (clean image code at_first around.objects d) t) (sym (is_reference owning refl s may)) (by_tests (nat_le at_first d) (nat_le (suc d) at_base) refl refl))
    where
      by_tests : (a b : Bool) → nat_le at_first d ≡ a → nat_le (suc d) at_base ≡ b → May (if a && b then releasable else unowned) (object false)
      by_tests true true is is2 = tt
      by_tests false b is is2 = let no : d < at_first = leb-false at_first d is in absurd (omega (arith, from, no))
      by_tests true false is is2 = let no : at_base < suc d = leb-false (suc d) at_base is2 in absurd (omega (arith, less, no))

  -- objects stand in the first registers for them
  record Filled (last : ℕ) (at : Kinds) : Type 0 where
    variables : (r : ℕ) → r < at_first → at r ≡ numeric
    owned : (r : ℕ) → at_first ≤ r → r < last → at r ≡ owning
    behind : (r : ℕ) → last ≤ r → Plain (at r)
    safe : IsSafe at

  record Fills (last : ℕ) (before : Kinds) (is : List Instr) : Type 0 where
    after : Kinds
    path : Goes before is after
    filled : Filled last after

  filled_with : (d : ℕ) (before : Kinds) → at_first ≤ d → d < at_base → Filled d before → Filled (suc d) (put d owning before)
  filled_with d before from less f = record {
    variables = λ r inside. put_other d r owning before (λ e. omega (arith, e, inside, from)) ∙ f.variables r inside;
    owned = λ r low high. by_test r low high (nat_eq r d) refl;
    behind = λ r high. subst (λ k. Plain k) (sym (put_other d r owning before (λ e. omega (arith, e, high)))) (f.behind r (omega (arith, high)));
    safe = safe_with image code around.locals around.objects handled d owning before (object_loses d from less) f.safe;
  }
    where
      by_test : (r : ℕ) → at_first ≤ r → r < suc d → (b : Bool) → nat_eq r d ≡ b → put d owning before r ≡ owning
      by_test r low high true is = ap (λ b. if b then owning else before r) is
      by_test r low high false is = ap (λ b. if b then owning else before r) is ∙ f.owned r low (omega (arith, high, unequal r d is))

  filled_number : (d : ℕ) (before : Kinds) (is : List Instr) → d ≤ at_base → (p : Sets_at at_base before is) → Filled d before → Filled d p.after
  filled_number d before is less p f = record {
    variables = p.ready.variables;
    owned = λ r low high. p.same r (omega (arith, less, high)) ∙ f.owned r low high;
    behind = λ r high. by_test r high (nat_le (suc r) at_base) refl;
    safe = p.ready.safe;
  }
    where
      by_test : (r : ℕ) → d ≤ r → (b : Bool) → nat_le (suc r) at_base ≡ b → Plain (p.after r)
      by_test r high true is = subst (λ k. Plain k) (sym (p.same r (leb-true (suc r) at_base is))) (f.behind r high)
      by_test r high false is = let no : at_base < suc r = leb-false (suc r) at_base is in p.ready.free r (omega (arith, no))

  boxed_fills : (d : ℕ) (t : CType) (parts : Roses TypedHead) → HasType (types_of parts) 0 t → AreFine around.locals None parts → at_first ≤ d → d < at_base → at_base + widths parts ≤ code.registers
      → (pc : ℕ) (before : Kinds) → Filled d before
      → Fills (suc d) before (part_code (expression_codes parts) 0 pc at_base ++ instr.Box t (register d) (register at_base) ∷ [])
  unfolding expression_code
  boxed_fills d t none has fine from less wide pc before f = cc
  boxed_fills d t (more tree trees) has fine from less wide pc before f =
      let start : IsReady at_base before = record { variables = f.variables; free = λ r high. f.behind r (omega (arith, high, less)); safe = f.safe } in
      let p = (expression_forms image code around.locals around.objects handled tree None fine.0).run pc at_base before (omega arith) (omega (arith, wide)) start tt in
      let g = filled_number d before _ (omega (arith, less)) p f in
      record {
        after = put d owning p.after;
        path = joined image code at_first around.objects _ _ p.path
            (Path.go (box_step image code at_first around.objects handled p.after p.ready.safe d at_base t (omega (arith, less, room)) p.inside (λ e. omega (arith, e, less)) p.there
            (g.behind d (omega arith))) Path.stop);
        filled = filled_with d p.after from less g;
      }

  boxed_by : (h : TypedHead) (parts : Roses TypedHead) (d : ℕ) → FineBoxed around.locals h parts → at_first ≤ d → d < at_base → at_base + widths parts ≤ code.registers
      → (pc : ℕ) (before : Kinds) → Filled d before → Fills (suc d) before (boxed_code (layout_of around) d h parts pc)
  boxed_by (head.Literal t n) parts d fine from less wide pc before f = absurd fine
  boxed_by (head.Sizeof t) parts d fine from less wide pc before f = absurd fine
  boxed_by (head.Constant which) parts d fine from less wide pc before f = absurd fine
  boxed_by (head.Local slot t) parts d fine from less wide pc before f = absurd fine
  boxed_by (head.ModuleName name) parts d fine from less wide pc before f = absurd fine
  boxed_by (head.Given t) parts d fine from less wide pc before f = absurd fine
  boxed_by (head.Kept t) parts d fine from less wide pc before f = absurd fine
  boxed_by (head.Converted (conversion.ToC t)) parts d fine from less wide pc before f = absurd fine
  boxed_by (head.Converted (conversion.ToObject t)) parts d fine from less wide pc before f = boxed_fills d t parts fine.0 fine.1 from less wide pc before f
  boxed_by (head.Converted (conversion.FromObject t)) parts d fine from less wide pc before f = absurd fine
  boxed_by (head.Converted conversion.Truth) parts d fine from less wide pc before f = absurd fine
  boxed_by (head.Converted (conversion.ViewOfObject t)) parts d fine from less wide pc before f = absurd fine
  boxed_by (head.Converted (conversion.ViewOfView t)) parts d fine from less wide pc before f = absurd fine
  boxed_by (head.Cast t) parts d fine from less wide pc before f = absurd fine
  boxed_by (head.Steps t) parts d fine from less wide pc before f = absurd fine
  boxed_by (head.Unary op t) parts d fine from less wide pc before f = absurd fine
  boxed_by (head.Binary op t truncates) parts d fine from less wide pc before f = absurd fine
  boxed_by (head.Compare how) parts d fine from less wide pc before f = absurd fine
  boxed_by head.Comparisons parts d fine from less wide pc before f = absurd fine
  boxed_by head.Not parts d fine from less wide pc before f = absurd fine
  boxed_by (head.And t) parts d fine from less wide pc before f = absurd fine
  boxed_by (head.Or t) parts d fine from less wide pc before f = absurd fine
  boxed_by (head.Conditional t) parts d fine from less wide pc before f = absurd fine
  boxed_by (head.Call function t) parts d fine from less wide pc before f = absurd fine
  boxed_by (head.Abs t) parts d fine from less wide pc before f = absurd fine
  boxed_by (head.Min t) parts d fine from less wide pc before f = absurd fine
  boxed_by (head.Max t) parts d fine from less wide pc before f = absurd fine
  boxed_by head.ThreadId parts d fine from less wide pc before f = absurd fine
  boxed_by (head.ObjectUnary op) parts d fine from less wide pc before f = absurd fine
  boxed_by (head.ObjectBinary op) parts d fine from less wide pc before f = absurd fine
  boxed_by head.Tuple parts d fine from less wide pc before f = absurd fine
  boxed_by head.List parts d fine from less wide pc before f = absurd fine
  boxed_by head.Dict parts d fine from less wide pc before f = absurd fine
  boxed_by head.Item parts d fine from less wide pc before f = absurd fine
  boxed_by (head.Part has_from has_to has_step) parts d fine from less wide pc before f = absurd fine
  boxed_by (head.Method method) parts d fine from less wide pc before f = absurd fine
  boxed_by (head.Builtin what) parts d fine from less wide pc before f = absurd fine
  boxed_by (head.Element t wraparound) parts d fine from less wide pc before f = absurd fine
  boxed_by (head.ViewPart t wraparound) parts d fine from less wide pc before f = absurd fine
  boxed_by head.Index parts d fine from less wide pc before f = absurd fine
  boxed_by (head.Slice has_from has_to has_step) parts d fine from less wide pc before f = absurd fine
  boxed_by head.NewAxis parts d fine from less wide pc before f = absurd fine
  boxed_by head.Ellipsis parts d fine from less wide pc before f = absurd fine
  boxed_by (head.Transposed t) parts d fine from less wide pc before f = absurd fine
  boxed_by (head.Copied t) parts d fine from less wide pc before f = absurd fine
  boxed_by head.Length parts d fine from less wide pc before f = absurd fine
  boxed_by (head.Extent axis) parts d fine from less wide pc before f = absurd fine
  boxed_by head.Array parts d fine from less wide pc before f = absurd fine
  boxed_by (head.Keyword keyword) parts d fine from less wide pc before f = absurd fine
  boxed_by head.Expression parts d fine from less wide pc before f = absurd fine
  boxed_by head.Assign parts d fine from less wide pc before f = absurd fine
  boxed_by head.AssignEach parts d fine from less wide pc before f = absurd fine
  boxed_by head.Unpack parts d fine from less wide pc before f = absurd fine
  boxed_by (head.Augment op) parts d fine from less wide pc before f = absurd fine
  boxed_by head.Declare parts d fine from less wide pc before f = absurd fine
  boxed_by (head.Declarator slot t) parts d fine from less wide pc before f = absurd fine
  boxed_by head.Pass parts d fine from less wide pc before f = absurd fine
  boxed_by head.Break parts d fine from less wide pc before f = absurd fine
  boxed_by head.Continue parts d fine from less wide pc before f = absurd fine
  boxed_by head.Return parts d fine from less wide pc before f = absurd fine
  boxed_by (head.Raise kind) parts d fine from less wide pc before f = absurd fine
  boxed_by head.Reraise parts d fine from less wide pc before f = absurd fine
  boxed_by (head.Try clauses has_else has_finally) parts d fine from less wide pc before f = absurd fine
  boxed_by head.Block parts d fine from less wide pc before f = absurd fine
  boxed_by (head.Handler kinds assigns) parts d fine from less wide pc before f = absurd fine
  boxed_by (head.Catches kind) parts d fine from less wide pc before f = absurd fine
  boxed_by head.CatchesAll parts d fine from less wide pc before f = absurd fine
  boxed_by head.Global parts d fine from less wide pc before f = absurd fine
  boxed_by (head.If arms has_else) parts d fine from less wide pc before f = absurd fine
  boxed_by head.Arm parts d fine from less wide pc before f = absurd fine
  boxed_by head.While parts d fine from less wide pc before f = absurd fine
  boxed_by (head.Range arguments) parts d fine from less wide pc before f = absurd fine
  boxed_by head.Over parts d fine from less wide pc before f = absurd fine
  boxed_by (head.Parallel arguments nogil schedule) parts d fine from less wide pc before f = absurd fine
  boxed_by head.ChunkSize parts d fine from less wide pc before f = absurd fine
  boxed_by head.TeamSize parts d fine from less wide pc before f = absurd fine
  boxed_by head.WithGil parts d fine from less wide pc before f = absurd fine
  boxed_by head.WithNogil parts d fine from less wide pc before f = absurd fine
  boxed_by (head.ParallelBlock has_size) parts d fine from less wide pc before f = absurd fine

  boxed_room : (h : TypedHead) (parts : Roses TypedHead) → FineBoxed around.locals h parts → at_base + width_by h (widths parts) (widest parts) ≤ code.registers → at_base + widths parts ≤ code.registers
  boxed_room (head.Literal t n) parts fine wide = absurd fine
  boxed_room (head.Sizeof t) parts fine wide = absurd fine
  boxed_room (head.Constant which) parts fine wide = absurd fine
  boxed_room (head.Local slot t) parts fine wide = absurd fine
  boxed_room (head.ModuleName name) parts fine wide = absurd fine
  boxed_room (head.Given t) parts fine wide = absurd fine
  boxed_room (head.Kept t) parts fine wide = absurd fine
  boxed_room (head.Converted (conversion.ToC t)) parts fine wide = absurd fine
  boxed_room (head.Converted (conversion.ToObject t)) parts fine wide = omega (arith, wide)
  boxed_room (head.Converted (conversion.FromObject t)) parts fine wide = absurd fine
  boxed_room (head.Converted conversion.Truth) parts fine wide = absurd fine
  boxed_room (head.Converted (conversion.ViewOfObject t)) parts fine wide = absurd fine
  boxed_room (head.Converted (conversion.ViewOfView t)) parts fine wide = absurd fine
  boxed_room (head.Cast t) parts fine wide = absurd fine
  boxed_room (head.Steps t) parts fine wide = absurd fine
  boxed_room (head.Unary op t) parts fine wide = absurd fine
  boxed_room (head.Binary op t truncates) parts fine wide = absurd fine
  boxed_room (head.Compare how) parts fine wide = absurd fine
  boxed_room head.Comparisons parts fine wide = absurd fine
  boxed_room head.Not parts fine wide = absurd fine
  boxed_room (head.And t) parts fine wide = absurd fine
  boxed_room (head.Or t) parts fine wide = absurd fine
  boxed_room (head.Conditional t) parts fine wide = absurd fine
  boxed_room (head.Call function t) parts fine wide = absurd fine
  boxed_room (head.Abs t) parts fine wide = absurd fine
  boxed_room (head.Min t) parts fine wide = absurd fine
  boxed_room (head.Max t) parts fine wide = absurd fine
  boxed_room head.ThreadId parts fine wide = absurd fine
  boxed_room (head.ObjectUnary op) parts fine wide = absurd fine
  boxed_room (head.ObjectBinary op) parts fine wide = absurd fine
  boxed_room head.Tuple parts fine wide = absurd fine
  boxed_room head.List parts fine wide = absurd fine
  boxed_room head.Dict parts fine wide = absurd fine
  boxed_room head.Item parts fine wide = absurd fine
  boxed_room (head.Part has_from has_to has_step) parts fine wide = absurd fine
  boxed_room (head.Method method) parts fine wide = absurd fine
  boxed_room (head.Builtin what) parts fine wide = absurd fine
  boxed_room (head.Element t wraparound) parts fine wide = absurd fine
  boxed_room (head.ViewPart t wraparound) parts fine wide = absurd fine
  boxed_room head.Index parts fine wide = absurd fine
  boxed_room (head.Slice has_from has_to has_step) parts fine wide = absurd fine
  boxed_room head.NewAxis parts fine wide = absurd fine
  boxed_room head.Ellipsis parts fine wide = absurd fine
  boxed_room (head.Transposed t) parts fine wide = absurd fine
  boxed_room (head.Copied t) parts fine wide = absurd fine
  boxed_room head.Length parts fine wide = absurd fine
  boxed_room (head.Extent axis) parts fine wide = absurd fine
  boxed_room head.Array parts fine wide = absurd fine
  boxed_room (head.Keyword keyword) parts fine wide = absurd fine
  boxed_room head.Expression parts fine wide = absurd fine
  boxed_room head.Assign parts fine wide = absurd fine
  boxed_room head.AssignEach parts fine wide = absurd fine
  boxed_room head.Unpack parts fine wide = absurd fine
  boxed_room (head.Augment op) parts fine wide = absurd fine
  boxed_room head.Declare parts fine wide = absurd fine
  boxed_room (head.Declarator slot t) parts fine wide = absurd fine
  boxed_room head.Pass parts fine wide = absurd fine
  boxed_room head.Break parts fine wide = absurd fine
  boxed_room head.Continue parts fine wide = absurd fine
  boxed_room head.Return parts fine wide = absurd fine
  boxed_room (head.Raise kind) parts fine wide = absurd fine
  boxed_room head.Reraise parts fine wide = absurd fine
  boxed_room (head.Try clauses has_else has_finally) parts fine wide = absurd fine
  boxed_room head.Block parts fine wide = absurd fine
  boxed_room (head.Handler kinds assigns) parts fine wide = absurd fine
  boxed_room (head.Catches kind) parts fine wide = absurd fine
  boxed_room head.CatchesAll parts fine wide = absurd fine
  boxed_room head.Global parts fine wide = absurd fine
  boxed_room (head.If arms has_else) parts fine wide = absurd fine
  boxed_room head.Arm parts fine wide = absurd fine
  boxed_room head.While parts fine wide = absurd fine
  boxed_room (head.Range arguments) parts fine wide = absurd fine
  boxed_room head.Over parts fine wide = absurd fine
  boxed_room (head.Parallel arguments nogil schedule) parts fine wide = absurd fine
  boxed_room head.ChunkSize parts fine wide = absurd fine
  boxed_room head.TeamSize parts fine wide = absurd fine
  boxed_room head.WithGil parts fine wide = absurd fine
  boxed_room head.WithNogil parts fine wide = absurd fine
  boxed_room (head.ParallelBlock has_size) parts fine wide = absurd fine

  arguments_fill : (parts : Roses TypedHead) (d : ℕ) → FineArguments around.locals parts → at_first ≤ d → d + count_of parts ≤ at_base → at_base + widest parts ≤ code.registers
      → (pc : ℕ) (before : Kinds) → Filled d before → Fills (d + count_of parts) before (arguments_code (layout_of around) d parts pc)
  arguments_fill none d fine from less wide pc before f = let e : d ≡ d + 0 = omega arith in record { after = before; path = Path.stop; filled = subst (λ n. Filled n before) e f }
  arguments_fill (more (rose h number at parts) trees) d fine from less wide pc before f =
      let first = argument_code (layout_of around) d (rose h number at parts) pc in
      let p = boxed_by h parts d fine.0 from (omega (arith, less)) (boxed_room h parts fine.0 (omega (arith, wide))) pc before f in
      let q = arguments_fill trees (suc d) fine.1 (omega (arith, from)) (omega (arith, less)) (omega (arith, wide)) (pc + length first) p.after p.filled in
      let e : suc d + count_of trees ≡ d + suc (count_of trees) = omega arith in
      record { after = q.after; path = joined image code at_first around.objects {mid = p.after} {after = q.after} _ _ p.path q.path; filled = subst (λ n. Filled n q.after) e q.filled }

  pub print_done : (parts : Roses TypedHead) → FineArguments around.locals parts → count_of parts ≤ around.objects → at_base + widest parts ≤ code.registers
      → (pc : ℕ) (before : Kinds) → IsReady at_first before → Done before (print_code (layout_of around) parts pc)
  print_done parts fine some wide pc before ready =
      let start : Filled at_first before = record {
        variables = ready.variables;
        owned = λ r low high. absurd (omega (arith, low, high));
        behind = λ r high. ready.free r high;
        safe = ready.safe;
      } in
      let p = arguments_fill parts at_first fine (omega arith) (omega (arith, some)) wide pc before start in
      let n = count_of parts in
      let printing = print_step image code at_first around.objects handled p.after p.filled.safe at_first n (omega (arith, some, room)) p.filled.owned in
      let q = drops_walk image code around.locals around.objects handled at_first n p.after (omega (arith, some, room))
      (λ r low high. subst (λ k. Released k) (sym (p.filled.owned r low high)) tt) in
      record {
        after = q.after;
        path = joined image code at_first around.objects {mid = p.after} {after = q.after} _ _ p.path (Path.go printing q.path);
        ready = record {
          variables = λ r less. q.others r less ∙ p.filled.variables r less;
          free = λ r from. dropped_plain n p.after q (λ r high. p.filled.behind r high) r from (nat_le (suc r) (at_first + n)) refl;
          safe = q.safe p.filled.safe;
        };
      }
    where
      dropped_plain : (n : ℕ) (at : Kinds) (q : Dropped image code around.locals around.objects handled at_first n at) → ((r : ℕ) → at_first + n ≤ r → Plain (at r))
          → (r : ℕ) → at_first ≤ r → (b : Bool) → nat_le (suc r) (at_first + n) ≡ b → Plain (q.after r)
      dropped_plain n at q behind r from true is = subst (λ k. Plain k) (sym (q.gone r from (leb-true (suc r) (at_first + n) is))) tt
      dropped_plain n at q behind r from false is =
          let no : at_first + n < suc r = leb-false (suc r) (at_first + n) is in
          subst (λ k. Plain k) (sym (q.behind r (omega (arith, no)))) (behind r (omega (arith, no)))
