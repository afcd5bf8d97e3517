-- The code of modules has only instructions that run.
use Rattle.std.proofs.Common.{◌≡◌, ⊎_elim, ℕ, zero, suc, ◌-◌, ◌<◌, if◌then◌else◌, List, [], ◌∷◌, ◌++◌, length, map}
use Rattle.std.proofs.Common.{Some, Bool, true, false, refl, sym, ◌∙◌, subst, arith}
use Rattle.std.specs.Prelude.{slice_get, get_or}
use Rattle.std.proofs.lemmas.Option.{slice_get_within, slice_get_cases}
use Rattle.px_typed_walk.specs.TypedView.{TypedRose}
use Rattle.px_regcode.specs.declared.codes.Code.{Code}
use Rattle.px_regcode.specs.declared.instructions.Instr.TheVariants as instr
use Rattle.px_regcode.specs.Images.{ImageParts}
use Rattle.px_regcode.proofs.Tests.{each_at}
use Rattle.px_meaning.specs.Calls.{SourceFunction, Source}
use Rattle.px_stmtgen.specs.declared.layouts.Layout.{Layout}
use Rattle.px_stmtgen.specs.Layouts.{drops, ending_code}
use Rattle.px_stmtgen.specs.StatementCode.{in_turn_code, statement_code}
use Rattle.px_stmtgen.specs.FunctionCode.{zeros, body_code, cleanup, handles, prologue, function_code}
use Rattle.px_machine.specs.Running.{is_run, AllRun}
use Rattle.px_code_laws.specs.FineStatements.{Surrounding}
use Rattle.px_code_laws.specs.Compiled.{AreCompiled, layout_of, IsCode, IsCompiled}
use Rattle.px_code_laws.proofs.RunningExpressions.{AllOf, both_run, behind_runs}
use Rattle.px_code_laws.proofs.RunningValues.{drops_run, end_runs}
use Rattle.px_code_laws.proofs.RunningStatements.{AllRunning, in_turn_runs, statement_runs}

zeros_run : (first count : ℕ) → AllOf (zeros first count)
unfolding is_run
zeros_run first zero = tt
zeros_run first (suc count) = (refl, zeros_run (suc first) count)

cleanup_runs : (l : Layout) (swallows : Bool) → AllOf (cleanup l swallows)
unfolding is_run
cleanup_runs l true = both_run (drops l.variables l.objects) (ending_code l l.gives) (drops_run l.variables l.objects) (end_runs l l.gives)
cleanup_runs l false = both_run (drops l.variables l.objects) (instr.Throw ∷ []) (drops_run l.variables l.objects) (refl, tt)

prologue_runs : (l : Layout) (swallows : Bool) → AllOf (prologue l swallows)
unfolding is_run
prologue_runs l swallows = by_test (handles l swallows)
  where
    by_test : (b : Bool) → AllOf (if b then instr.Jump (suc (length (cleanup l swallows))) ∷ (cleanup l swallows ++ instr.Handle 1 ∷ []) else [])
    by_test true = (refl, both_run (cleanup l swallows) (instr.Handle 1 ∷ []) (cleanup_runs l swallows) (refl, tt))
    by_test false = tt

body_statements_run : (around : Surrounding) (registers : ℕ) (body : List TypedRose) → AreCompiled around registers body
    → AllRunning (map (statement_code (layout_of around)) body)
body_statements_run around registers [] compiled = tt
body_statements_run around registers (tree ∷ trees) compiled =
    (statement_runs (layout_of around) around tree compiled.0.0, body_statements_run around registers trees compiled.1)

code_runs : (around : Surrounding) (swallowed : Bool) (body : List TypedRose) (code : Code) → IsCode around swallowed body code → AllOf code.instrs
unfolding function_code
code_runs around swallowed body code is =
    let l = layout_of around in
    let front = prologue l swallowed ++ zeros 0 (l.variables - 0) in
    subst AllOf (sym is.instrs)
    (behind_runs front (body_code l body)
    (both_run (prologue l swallowed) (zeros 0 (l.variables - 0)) (prologue_runs l swallowed) (zeros_run 0 (l.variables - 0)))
    (λ pc. behind_runs (in_turn_code (map (statement_code l) body) pc) (λ next. ending_code l l.gives)
    (in_turn_runs (map (statement_code l) body) (body_statements_run around code.registers body is.compiled) pc) (λ next. end_runs l l.gives) pc) 0)

same_code : {a b : Code} → Some a ≡ Some b → a ≡ b
same_code e = cc

module _ (image : ImageParts) (source : Source) (compiled : IsCompiled image source) where
  codes_run : (function : ℕ) (code : Code) → slice_get image.codes function ≡ Some code → AllOf code.instrs
  codes_run zero code there =
      subst (λ other. AllOf other.instrs) (same_code (sym compiled.code_there ∙ there)) (code_runs _ false source.code compiled.code compiled.is_code)
  codes_run (suc function) code there = ⊎_elim
      (λ (found : (f : SourceFunction) × (function < length source.functions)
      × (slice_get source.functions function ≡ Some f) × (get_or source.functions function f ≡ f)).
      let x = compiled.functions function found.0 found.2 in
      subst (λ other. AllOf other.instrs) (same_code (sym x.there ∙ there)) (code_runs _ _ found.0.body x.code x.compiled.is_code))
      (λ past. absurd (omega (arith, past.0, compiled.count, slice_get_within image.codes (suc function) code there)))
      (slice_get_cases source.functions function).1

  pub code_all_runs : AllRun image
  code_all_runs function pc i at = each_at (λ i. is_run i ≡ true) at.code.instrs (codes_run function at.code at.is_code) pc i at.is_instr
