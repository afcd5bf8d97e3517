-- Code that is appended.
use Rattle.std.proofs.Common.{◌≡◌, ℕ, ◌+◌, length, length-append, List, [], ◌++◌, sym, ap, ◌∙◌, append_assoc}
use Rattle.std.specs.Prelude.{Result, Ok, Err, OnOk}
use Rattle.std.proofs.lemmas.List.{append-nil}
use Rattle.px_regcode.specs.declared.instructions.Instr.{Instr}

pub same_code : {E : Type 0} (r : Result (Unit {0}) E) (before after code other : List Instr) → other ≡ code
    → OnOk r (after ≡ before ++ code) → OnOk r (after ≡ before ++ other)
same_code (Ok x) before after code other is e = e ∙ ap (λ xs. before ++ xs) (sym is)
same_code (Err x) before after code other is e = tt

pub no_code : (before code : List Instr) → code ≡ [] → before ≡ before ++ code
no_code before code is = sym (ap (λ xs. before ++ xs) is ∙ append-nil before)

pub then_code : {E : Type 0} (r : Result (Unit {0}) E) (before mid after code other : List Instr) → mid ≡ before ++ code
    → OnOk r (after ≡ mid ++ other) → OnOk r (after ≡ before ++ (code ++ other))
then_code (Ok x) before mid after code other m e = e ∙ ap (λ xs. xs ++ other) m ∙ append_assoc before code other
then_code (Err x) before mid after code other m e = tt

-- code that hangs on where it begins
pub behind_code : {E : Type 0} (r : Result (Unit {0}) E) (before mid after code : List Instr) (others : ℕ → List Instr) → mid ≡ before ++ code
    → OnOk r (after ≡ mid ++ others (length mid)) → OnOk r (after ≡ before ++ (code ++ others (length before + length code)))
behind_code (Ok x) before mid after code others m e =
    let len : length mid ≡ length before + length code = ap length m ∙ length-append before code in
    e ∙ ap (λ n. mid ++ others n) len ∙ ap (λ xs. xs ++ others (length before + length code)) m ∙ append_assoc before code (others (length before + length code))
behind_code (Err x) before mid after code others m e = tt
