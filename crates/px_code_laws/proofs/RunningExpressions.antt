-- The code of expressions of C types has only instructions that run.
use Rattle.std.proofs.Common.{◌≡◌, ◌≢◌, ℕ, zero, suc, ◌+◌, List, [], ◌∷◌, ◌++◌, length, Option, Some, None, true, refl}
use Rattle.px_base.specs.declared.c_types.CType.{CType}
use Rattle.px_base.specs.declared.c_types.CType.TheVariants as c
use Rattle.px_tree.specs.declared.typed_values.ValueType.TheVariants as type
use Rattle.px_tree.specs.declared.typed_values.Conversion.TheVariants as conversion
use Rattle.px_tree.specs.declared.typed_values.Comparing.TheVariants as comparing
use Rattle.px_tree.specs.declared.typed_values.ValueType.{ValueType}
use Rattle.px_tree.specs.declared.typed_heads.TypedHead.{TypedHead}
use Rattle.px_tree.specs.declared.typed_heads.TypedHead.TheVariants as head
use Rattle.px_walk.specs.Roses.{Roses, rose, none, more}
use Rattle.px_typed_walk.specs.TypedView.{TypedRose}
use Rattle.px_regcode.specs.declared.instructions.Instr.{Instr}
use Rattle.px_regcode.specs.declared.instructions.Instr.TheVariants as instr
use Rattle.px_regcode.proofs.Tests.{Each}
use Rattle.px_exprgen.specs.ExpressionCode.{Emission, register, behind, part_code, on_one, on_two, steps_code, code_by}
use Rattle.px_exprgen.specs.ExpressionCode.{expression_code, expression_codes}
use Rattle.px_machine.specs.Running.{is_arithmetic, is_run}
use Rattle.px_code_laws.specs.Fine.{FineHead, FineParts, IsFine, AreFine, AreSteps, types_of}

-- each of these instructions runs
abbrev pub AllOf : List Instr → Type 0
AllOf is = Each (λ i. is_run i ≡ true) is

pub both_run : (a b : List Instr) → AllOf a → AllOf b → AllOf (a ++ b)
both_run [] b p q = q
both_run (i ∷ a) b p q = (p.0, both_run a b p.1 q)

pub behind_runs : (code : List Instr) (others : ℕ → List Instr) → AllOf code → ((next : ℕ) → AllOf (others next)) → (pc : ℕ)
    → AllOf (behind code others pc)
behind_runs code others p q pc = both_run code (others (pc + length code)) p (q (pc + length code))

arithmetic : (t : CType) → t ≢ c.Bint → is_arithmetic t ≡ true
arithmetic c.Bint other = absurd (other refl)
arithmetic c.SChar other = refl
arithmetic c.UChar other = refl
arithmetic c.Char other = refl
arithmetic c.Short other = refl
arithmetic c.UShort other = refl
arithmetic c.Int other = refl
arithmetic c.UInt other = refl
arithmetic c.Long other = refl
arithmetic c.ULong other = refl
arithmetic c.LongLong other = refl
arithmetic c.ULongLong other = refl
arithmetic c.SsizeT other = refl
arithmetic c.SizeT other = refl

abbrev pub EmissionRuns : Emission → Type 0
EmissionRuns code = (pc d : ℕ) → AllOf (code pc d)

abbrev pub PartsRun : Roses TypedHead → Type 0
PartsRun parts = (k : ℕ) → EmissionRuns (part_code (expression_codes parts) k)

on_one_runs : (parts : Roses TypedHead) (make : ℕ → Instr) → PartsRun parts
    → ((d : ℕ) → is_run (make d) ≡ true) → EmissionRuns (on_one make (expression_codes parts))
on_one_runs parts make p runs pc d = both_run (part_code (expression_codes parts) 0 pc d) (make d ∷ []) (p 0 pc d) (runs d, tt)

on_two_runs : (parts : Roses TypedHead) (make : ℕ → Instr) → PartsRun parts
    → ((d : ℕ) → is_run (make d) ≡ true) → EmissionRuns (on_two make (expression_codes parts))
on_two_runs parts make p runs pc d =
    behind_runs (part_code (expression_codes parts) 0 pc d) (λ next. part_code (expression_codes parts) 1 next (suc d) ++ make d ∷ []) (p 0 pc d)
    (λ next. both_run (part_code (expression_codes parts) 1 next (suc d)) (make d ∷ []) (p 1 next (suc d)) (runs d, tt)) pc

module _ (locals : List ValueType) where
  by_head : (h : TypedHead) (at_hand : Option CType) (parts : Roses TypedHead) → (AreFine locals at_hand parts → PartsRun parts)
      → ((t : CType) → AreSteps locals at_hand t parts → EmissionRuns (steps_code (expression_codes parts)))
      → FineHead locals at_hand h (types_of parts) → FineParts h (AreFine locals at_hand parts) (λ t. AreSteps locals at_hand t parts)
      → EmissionRuns (code_by h (expression_codes parts))
  unfolding code_by is_run
  by_head (head.Literal t n) at_hand parts plain steps fine p pc d = (refl, tt)
  by_head (head.Sizeof t) at_hand parts plain steps fine p pc d = (refl, tt)
  by_head (head.Constant which) at_hand parts plain steps fine p pc d = tt
  by_head (head.Local slot t) at_hand parts plain steps fine p pc d = (refl, tt)
  by_head (head.ModuleName name) at_hand parts plain steps fine p pc d = tt
  by_head (head.Given t) at_hand parts plain steps fine p pc d = tt
  by_head (head.Kept t) at_hand parts plain steps fine p pc d = tt
  by_head (head.Converted (conversion.ToC t)) at_hand parts plain steps fine p pc d =
      on_one_runs parts (λ d. instr.Convert t (register d) (register d)) (plain p) (λ d. refl) pc d
  by_head (head.Converted (conversion.ToObject t)) at_hand parts plain steps fine p pc d = tt
  by_head (head.Converted (conversion.FromObject t)) at_hand parts plain steps fine p pc d = tt
  by_head (head.Converted conversion.Truth) at_hand parts plain steps fine p pc d = tt
  by_head (head.Converted (conversion.ViewOfObject t)) at_hand parts plain steps fine p pc d = tt
  by_head (head.Converted (conversion.ViewOfView t)) at_hand parts plain steps fine p pc d = tt
  by_head (head.Cast (type.C t)) at_hand parts plain steps fine p pc d = plain p 0 pc d
  by_head (head.Cast type.Object) at_hand parts plain steps fine p pc d = absurd fine
  by_head (head.Cast (type.View t)) at_hand parts plain steps fine p pc d = absurd fine
  by_head (head.Cast type.Void) at_hand parts plain steps fine p pc d = absurd fine
  by_head (head.Steps (type.C t)) at_hand parts plain steps fine p pc d = steps t p pc d
  by_head (head.Steps type.Object) at_hand parts plain steps fine p pc d = absurd fine
  by_head (head.Steps (type.View t)) at_hand parts plain steps fine p pc d = absurd fine
  by_head (head.Steps type.Void) at_hand parts plain steps fine p pc d = absurd fine
  by_head (head.Unary op t) at_hand parts plain steps fine p pc d =
      on_one_runs parts (λ d. instr.Unary op t (register d) (register d)) (plain p) (λ d. arithmetic t fine.0) pc d
  by_head (head.Binary op t truncates) at_hand parts plain steps fine p pc d =
      on_two_runs parts (λ d. instr.Binary op t (register d) (register d) (register (suc d)) truncates) (plain p) (λ d. arithmetic t fine.0) pc d
  by_head (head.Compare (comparing.C op t)) at_hand parts plain steps fine p pc d =
      on_two_runs parts (λ d. instr.Compare op t (register d) (register d) (register (suc d))) (plain p) (λ d. refl) pc d
  by_head (head.Compare (comparing.Objects op)) at_hand parts plain steps fine p pc d = tt
  by_head (head.Compare comparing.In) at_hand parts plain steps fine p pc d = tt
  by_head (head.Compare comparing.NotIn) at_hand parts plain steps fine p pc d = tt
  by_head (head.Compare comparing.Is) at_hand parts plain steps fine p pc d = tt
  by_head (head.Compare comparing.IsNot) at_hand parts plain steps fine p pc d = tt
  by_head head.Comparisons at_hand parts plain steps fine p pc d = tt
  by_head head.Not at_hand parts plain steps fine p pc d = tt
  by_head (head.And t) at_hand parts plain steps fine p pc d = tt
  by_head (head.Or t) at_hand parts plain steps fine p pc d = tt
  by_head (head.Conditional t) at_hand parts plain steps fine p pc d = tt
  by_head (head.Call function t) at_hand parts plain steps fine p pc d = tt
  by_head (head.Abs t) at_hand parts plain steps fine p pc d =
      on_one_runs parts (λ d. instr.Magnitude t (register d) (register d)) (plain p) (λ d. arithmetic t fine.0) pc d
  by_head (head.Min t) at_hand parts plain steps fine p pc d = tt
  by_head (head.Max t) at_hand parts plain steps fine p pc d = tt
  by_head head.ThreadId at_hand parts plain steps fine p pc d = tt
  by_head (head.ObjectUnary op) at_hand parts plain steps fine p pc d = tt
  by_head (head.ObjectBinary op) at_hand parts plain steps fine p pc d = tt
  by_head head.Tuple at_hand parts plain steps fine p pc d = tt
  by_head head.List at_hand parts plain steps fine p pc d = tt
  by_head head.Dict at_hand parts plain steps fine p pc d = tt
  by_head head.Item at_hand parts plain steps fine p pc d = tt
  by_head (head.Part has_from has_to has_step) at_hand parts plain steps fine p pc d = tt
  by_head (head.Method method) at_hand parts plain steps fine p pc d = tt
  by_head (head.Builtin what) at_hand parts plain steps fine p pc d = tt
  by_head (head.Element t wraparound) at_hand parts plain steps fine p pc d = tt
  by_head (head.ViewPart t wraparound) at_hand parts plain steps fine p pc d = tt
  by_head head.Index at_hand parts plain steps fine p pc d = tt
  by_head (head.Slice has_from has_to has_step) at_hand parts plain steps fine p pc d = tt
  by_head head.NewAxis at_hand parts plain steps fine p pc d = tt
  by_head head.Ellipsis at_hand parts plain steps fine p pc d = tt
  by_head (head.Transposed t) at_hand parts plain steps fine p pc d = tt
  by_head (head.Copied t) at_hand parts plain steps fine p pc d = tt
  by_head head.Length at_hand parts plain steps fine p pc d = tt
  by_head (head.Extent axis) at_hand parts plain steps fine p pc d = tt
  by_head head.Array at_hand parts plain steps fine p pc d = tt
  by_head (head.Keyword keyword) at_hand parts plain steps fine p pc d = tt
  by_head head.Expression at_hand parts plain steps fine p pc d = tt
  by_head head.Assign at_hand parts plain steps fine p pc d = tt
  by_head head.AssignEach at_hand parts plain steps fine p pc d = tt
  by_head head.Unpack at_hand parts plain steps fine p pc d = tt
  by_head (head.Augment op) at_hand parts plain steps fine p pc d = tt
  by_head head.Declare at_hand parts plain steps fine p pc d = tt
  by_head (head.Declarator slot t) at_hand parts plain steps fine p pc d = tt
  by_head head.Pass at_hand parts plain steps fine p pc d = tt
  by_head head.Break at_hand parts plain steps fine p pc d = tt
  by_head head.Continue at_hand parts plain steps fine p pc d = tt
  by_head head.Return at_hand parts plain steps fine p pc d = tt
  by_head (head.Raise kind) at_hand parts plain steps fine p pc d = tt
  by_head head.Reraise at_hand parts plain steps fine p pc d = tt
  by_head (head.Try clauses has_else has_finally) at_hand parts plain steps fine p pc d = tt
  by_head head.Block at_hand parts plain steps fine p pc d = tt
  by_head (head.Handler kinds assigns) at_hand parts plain steps fine p pc d = tt
  by_head (head.Catches kind) at_hand parts plain steps fine p pc d = tt
  by_head head.CatchesAll at_hand parts plain steps fine p pc d = tt
  by_head head.Global at_hand parts plain steps fine p pc d = tt
  by_head (head.If arms has_else) at_hand parts plain steps fine p pc d = tt
  by_head head.Arm at_hand parts plain steps fine p pc d = tt
  by_head head.While at_hand parts plain steps fine p pc d = tt
  by_head (head.Range arguments) at_hand parts plain steps fine p pc d = tt
  by_head head.Over at_hand parts plain steps fine p pc d = tt
  by_head (head.Parallel arguments nogil schedule) at_hand parts plain steps fine p pc d = tt
  by_head head.ChunkSize at_hand parts plain steps fine p pc d = tt
  by_head head.TeamSize at_hand parts plain steps fine p pc d = tt
  by_head head.WithGil at_hand parts plain steps fine p pc d = tt
  by_head head.WithNogil at_hand parts plain steps fine p pc d = tt
  by_head (head.ParallelBlock has_size) at_hand parts plain steps fine p pc d = tt

  mutual
    unfolding expression_code

    pub expression_run : (tree : TypedRose) (at_hand : Option CType) → IsFine locals at_hand tree → EmissionRuns (expression_code tree)
    expression_run (rose h number at parts) at_hand fine pc d =
        by_head h at_hand parts (λ all. part_runs parts at_hand all) (λ t all. steps_run parts at_hand t all) fine.0 fine.1 pc d

    pub part_runs : (parts : Roses TypedHead) (at_hand : Option CType) → AreFine locals at_hand parts → PartsRun parts
    part_runs none at_hand fine k pc d = tt
    part_runs (more tree trees) at_hand fine zero pc d = expression_run tree at_hand fine.0 pc d
    part_runs (more tree trees) at_hand fine (suc k) pc d = part_runs trees None fine.1 k pc d

    steps_run : (parts : Roses TypedHead) (at_hand : Option CType) (t : CType) → AreSteps locals at_hand t parts
        → EmissionRuns (steps_code (expression_codes parts))
    steps_run none at_hand t fine pc d = absurd fine
    steps_run (more tree none) at_hand t fine pc d =
        behind_runs (expression_code tree pc d) (λ next. []) (expression_run tree at_hand fine.0 pc d) (λ next. tt) pc
    steps_run (more tree (more other trees)) at_hand t fine pc d =
        behind_runs (expression_code tree pc d) (λ next. steps_code (expression_codes (more other trees)) next d)
        (expression_run tree at_hand fine.1.0.0 pc d) (λ next. steps_run (more other trees) (Some fine.0) t fine.1.1 next d) pc
