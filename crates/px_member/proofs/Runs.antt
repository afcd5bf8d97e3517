-- Which instruction a member runs, and what those are that it may run.
use Rattle.std.proofs.Common.{◌≡◌, ◌≢◌, ℕ, ◌<◌, ◌≤◌, true, List, [], ◌∷◌, length, get_or, Option, Some, None, refl, sym, ap, ◌∙◌, subst}
use Rattle.std.specs.Prelude.{slice_get}
use Rattle.std.proofs.lemmas.Bool.{false≢true}
use Rattle.std.proofs.lemmas.Option.{slice_get-get_or, slice_get_past}
use Rattle.px_base.specs.declared.c_types.CType.{CType}
use Rattle.px_base.specs.declared.c_types.CType.TheVariants.{Bint}
use Rattle.px_regcode.specs.declared.operands.Register.{Register}
use Rattle.px_regcode.specs.declared.codes.Code.{Code}
use Rattle.px_regcode.specs.declared.instructions.Instr.{Instr}
use Rattle.px_regcode.specs.Images.{ImageParts}
use Rattle.px_machine.specs.Slots as machine
use Rattle.px_machine.specs.Steps.{stuck}
use Rattle.px_machine.specs.Machine.{act, act_at, instruction_at, instruction_in, step}
use Rattle.px_member.specs.declared.member.Step.{Step}
use Rattle.px_member.specs.Members.{IsMember, Member}
use Rattle.px_member.specs.Acts.{Acts, Did}
use Rattle.px_machine.specs.Running.{are_none, is_arithmetic}

pub arithmetic : (t : CType) → is_arithmetic t ≡ true → t ≢ Bint
arithmetic t h e = false≢true (sym (ap is_arithmetic e) ∙ h)

pub none_given : (arguments : List Register) → are_none arguments ≡ true → arguments ≡ []
none_given [] h = refl
none_given (a ∷ arguments) h = absurd (false≢true h)

-- an instruction was done by what did one that is the same
pub done_by : (image : ImageParts) (i j : Instr) → i ≡ j → (old new : Member) (result : Step) (m : machine.Member) → IsMember old m
    → act image i m ≢ stuck
    → Acts image j old result new → Did result (act image i m) new
done_by image i j e old new result m h u acts = subst (λ x. Acts image x old result new) (sym e) acts m h u

-- ---- the instruction at which the running frame stands

pub there : {A : Type 0} (xs all : List A) (k : ℕ) (x : A) → xs ≡ all → k < length xs → x ≡ get_or xs k x → slice_get all k ≡ Some x
there xs all k x e less is = ap (λ l. slice_get l k) (sym e) ∙ slice_get-get_or xs k x less ∙ ap Some (sym is)

pub past : {A : Type 0} (xs all : List A) (k : ℕ) → xs ≡ all → length xs ≤ k → slice_get all k ≡ None
past xs all k e less = ap (λ l. slice_get l k) (sym e) ∙ slice_get_past xs k less

module _ (image : ImageParts) (old : Member) (m : machine.Member) (h : IsMember old m) where
  stands_in : (code : Option Code) → slice_get image.codes old.frame.function ≡ code
      → step image m ≡ act_at image (instruction_in code old.frame.pc) m
  unfolding step
  stands_in code e = ap (λ f. act_at image (instruction_at image f) m) h.frame ∙ ap (λ x. act_at image (instruction_in x old.frame.pc) m) e

  pub no_code_there : slice_get image.codes old.frame.function ≡ None → step image m ≡ stuck
  no_code_there e = stands_in None e

  pub no_instruction_there : (code : Code) → slice_get image.codes old.frame.function ≡ Some code → slice_get code.instrs old.frame.pc ≡ None
      → step image m ≡ stuck
  no_instruction_there code e none = stands_in (Some code) e ∙ ap (λ i. act_at image i m) none

  pub acts_there : (code : Code) → slice_get image.codes old.frame.function ≡ Some code → (i : Instr)
      → slice_get code.instrs old.frame.pc ≡ Some i → step image m ≡ act image i m
  acts_there code e i is = stands_in (Some code) e ∙ ap (λ x. act_at image x m) is
