-- What registers hold between statements, where objects stand in some of them, and where code ends.
use Rattle.std.proofs.Common.{◌≡◌, ◌≢◌, ℕ, zero, suc, ◌+◌, ◌<◌, ◌≤◌, nat_eq, ◌&&◌, if◌then◌else◌, List, length, Bool, true, false, refl, sym, ap, ◌∙◌, subst, arith}
use Rattle.std.specs.Prelude.{pos, slice_get, nat_le}
use Rattle.std.proofs.lemmas.Int.{ints}
use Rattle.std.proofs.lemmas.Bool.{eqb-true, leb-true, leb-false}
use Rattle.px_tree.specs.declared.typed_values.ValueType.{ValueType}
use Rattle.px_tree.specs.declared.typed_values.ValueType.TheVariants as type
use Rattle.px_regcode.specs.declared.operands.RegKind.TheVariants as kind
use Rattle.px_regcode.specs.declared.codes.Code.{Code}
use Rattle.px_regcode.specs.declared.instructions.Instr.{Instr}
use Rattle.px_regcode.specs.Images.{ImageParts}
use Rattle.px_regcode.specs.Facts.{State, empty, whole, object, held, lent, fault}
use Rattle.px_regcode.specs.Shapes.{IsTextOrNone}
use Rattle.px_machine.specs.Means.{kind_of}
use Rattle.px_stmtgen.specs.declared.layouts.Layout.{Layout}
use Rattle.px_stmtgen.specs.Layouts.{drops, ending_code}
use Rattle.px_code_laws.proofs.Straight.{Kind, bare, numeric, owning, unowned, releasable, May, Kinds, put, put_same, put_other, Plain, plain_free, Loses, Path}
use Rattle.px_code_laws.proofs.NumberSteps.{const_step}
use Rattle.px_code_laws.proofs.ObjectSteps.{Released, drop_step, text_step, return_step, finish_step}
use Rattle.px_code_laws.proofs.FormedExpressions.{Safe, Ready, unequal}

module _ (image : ImageParts) (code : Code) (locals : List ValueType) (objects : ℕ) (handled : Bool) where
  abbrev IsSafe : Kinds → Type 0
  IsSafe at = Safe image code locals objects handled at

  abbrev IsReady : ℕ → Kinds → Type 0
  IsReady d at = Ready image code locals objects handled d at

  abbrev pub Walk : Kinds → List Instr → Kinds → Type 0
  Walk before is after = Path image code (length locals) objects handled before is after

  pub safe_with : (d : ℕ) (k : Kind) (before : Kinds) → ((s : State) → May k s → Loses image code (length locals) objects handled d s) → IsSafe before → IsSafe (put d k before)
  safe_with d k before new safe r s may = by_test (nat_eq r d) refl may
    where
      by_test : (b : Bool) → nat_eq r d ≡ b → May (if b then k else before r) s → Loses image code (length locals) objects handled r s
      by_test true is here = subst (λ n. Loses image code (length locals) objects handled n s) (sym (eqb-true r d is)) (new s here)
      by_test false is other = safe r s other

  -- whatever is let go
  pub bare_loses : (d : ℕ) (s : State) → May bare s → Loses image code (length locals) objects handled d s
  bare_loses d s may = by_handler handled s may
    where
      by_clean : (b : Bool) → May (if b then releasable else unowned) empty
      by_clean true = tt
      by_clean false = tt

      by_handler : (h : Bool) (s : State) → May bare s → Loses image code (length locals) objects h d s
      by_handler true empty may = by_clean (nat_le (length locals) d && nat_le (suc d) (length locals + objects))
      by_handler true whole may = absurd may
      by_handler true (object stood) may = absurd may
      by_handler true (held rank stood) may = absurd may
      by_handler true (lent rank from gone) may = absurd may
      by_handler true fault may = absurd may
      by_handler false s may = plain_free bare tt s may

  -- ---- objects that are let go

  pub record Dropped (first count : ℕ) (before : Kinds) : Type 0 where
    pub after : Kinds
    pub path : Walk before (drops first count) after
    pub others : (r : ℕ) → r < first → after r ≡ before r
    pub behind : (r : ℕ) → first + count ≤ r → after r ≡ before r
    pub gone : (r : ℕ) → first ≤ r → r < first + count → after r ≡ bare
    pub safe : IsSafe before → IsSafe after

  pub drops_walk : (first count : ℕ) (before : Kinds) → first + count ≤ code.registers → ((r : ℕ) → first ≤ r → r < first + count → Released (before r)) → Dropped first count before
  drops_walk first zero before room all = record {
    after = before;
    path = Path.stop;
    others = λ r less. refl;
    behind = λ r from. refl;
    gone = λ r from less. absurd (omega (arith, from, less));
    safe = λ safe. safe;
  }
  drops_walk first (suc count) before room all =
      let mid = put first bare before in
      let rest = drops_walk (suc first) count mid (omega (arith, room)) (λ r from less.
      subst (λ k. Released k) (sym (put_other first r bare before (λ e. omega (arith, e, from)))) (all r (omega (arith, from)) (omega (arith, less)))) in
      record {
        after = rest.after;
        path = Path.go (drop_step image code (length locals) objects handled before first (omega (arith, room)) (all first (omega arith) (omega arith))) rest.path;
        others = λ r less. rest.others r (omega (arith, less)) ∙ put_other first r bare before (λ e. omega (arith, e, less));
        behind = λ r from. rest.behind r (omega (arith, from)) ∙ put_other first r bare before (λ e. omega (arith, e, from));
        gone = λ r from less. by_test first count before rest r from less (nat_eq r first) refl;
        safe = λ safe. rest.safe (safe_with first bare before (bare_loses first) safe);
      }
    where
      by_test : (first count : ℕ) (before : Kinds) (rest : Dropped (suc first) count (put first bare before)) (r : ℕ) → first ≤ r → r < first + suc count → (b : Bool) → nat_eq r first ≡ b → rest.after r ≡ bare
      by_test first count before rest r from less true is =
          let same : r ≡ first = eqb-true r first is in
          rest.others r (omega (arith, same)) ∙ ap (put first bare before) same ∙ put_same first bare before
      by_test first count before rest r from less false is = rest.gone r (omega (arith, from, unequal r first is)) (omega (arith, less))

  -- ---- the end without a value

  abbrev pub EndRoom : ValueType → Type 0
  EndRoom (type.C t) = length locals + objects < code.registers
  EndRoom type.Object = length locals < code.registers
  EndRoom (type.View t) = ⊥
  EndRoom type.Void = Unit {0}

  abbrev pub EndText : ValueType → ℕ → Type 0
  EndText type.Object none_at = IsTextOrNone (slice_get image.constants none_at)
  EndText (type.C t) none_at = Unit {0}
  EndText (type.View t) none_at = Unit {0}
  EndText type.Void none_at = Unit {0}

  plain_but : (d : ℕ) (k : Kind) (before : Kinds) → ((r : ℕ) → Plain (before r)) → (r : ℕ) → r ≢ d → Plain (put d k before r)
  plain_but d k before all r other = subst (λ l. Plain l) (sym (put_other d r k before other)) (all r)

  pub plain_at : (before : Kinds) → IsReady (length locals) before → (r : ℕ) → Plain (before r)
  plain_at before ready r = by_test (nat_le (suc r) (length locals)) refl
    where
      by_test : (b : Bool) → nat_le (suc r) (length locals) ≡ b → Plain (before r)
      by_test true is = subst (λ k. Plain k) (sym (ready.variables r (leb-true (suc r) (length locals) is))) tt
      by_test false is = ready.free r (omega (arith, leb-false (suc r) (length locals) is))

  pub end_walk : (l : Layout) (gives : ValueType) (before after : Kinds) → l.variables ≡ length locals → l.objects ≡ objects → code.result ≡ kind_of gives → EndRoom gives → EndText gives l.none_at
      → IsSafe before → ((r : ℕ) → Plain (before r)) → Walk before (ending_code l gives) after
  end_walk l (type.C t) before after same same2 result room text safe all =
      let d = l.variables + l.objects in
      Path.go (const_step image code (length locals) objects handled before safe d (pos 0) (omega (arith, ints), omega (arith, ints)) (omega (arith, same, same2, room)) (all d))
      (Path.go (return_step image code (length locals) objects handled (put d numeric before) d kind.Whole after (omega (arith, same, same2, room)) result tt (put_same d numeric before)
      (plain_but d numeric before all)) Path.stop)
  end_walk l type.Object before after same same2 result room text safe all =
      let d = l.variables in
      Path.go (text_step image code (length locals) objects handled before safe d l.none_at (omega (arith, same, room)) text (all d))
      (Path.go (return_step image code (length locals) objects handled (put d owning before) d kind.Object after (omega (arith, same, room)) result tt (put_same d owning before)
      (plain_but d owning before all)) Path.stop)
  end_walk l (type.View t) before after same same2 result room text safe all = absurd room
  end_walk l type.Void before after same same2 result room text safe all =
      Path.go (finish_step image code (length locals) objects handled before after result all) Path.stop
