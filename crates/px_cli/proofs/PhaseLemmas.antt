-- From what the phases answer to what is answered for a text.
use Rattle.std.proofs.Common.{◌≡◌, List, ℕ, Result, Ok, Err, None, sym, subst}
use Rattle.std.specs.Prelude.{IfOk, OnOk}
use Rattle.px_base.specs.declared.refusals.Trouble.{Trouble}
use Rattle.px_base.specs.Findings.{IsFirst}
use Rattle.px_tree.specs.declared.modules.Module.{Module}
use Rattle.px_names.specs.declared.named.Named.{Named}
use Rattle.px_names.specs.NamedModule.{IsNamed}
use Rattle.px_names.specs.Rules.{BreaksNames}
use Rattle.px_cli.specs.Phases.{IsModuleText, IsNamedText}

-- the text is the module that the phase of names hands on
pub named_for : (text : List ℕ) (m : Module) (result : Result Named Trouble) → IsModuleText text m → IfOk result (IsNamed m) → OnOk result (IsFirst (BreaksNames m) None) → IfOk result (IsNamedText text)
named_for text m (Ok named) is kept clean =
    let same : m ≡ named.«module» = sym kept.kept in
    record {
      is_module = subst (IsModuleText text) same is;
      clean = subst (λ x. IsFirst (BreaksNames x) None) same clean;
      names = subst (λ x. IsNamed x named) same kept;
    }
named_for text m (Err u) is kept clean = tt
