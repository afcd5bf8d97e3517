-- What the program keeps of names and variables, as plain data.
use Rattle.std.specs.Prelude.{ℕ, nat_eq, if◌then◌else◌, Option, Some, None}
use Rattle.std.specs.Option.{option_or}
use Rattle.indexmap.specs.IndexMap.{get_by}
use Rattle.px_names.specs.Kept.{meanings_kept}
use Rattle.px_environments.specs.declared.signatures.Variable.{Variable}
use Rattle.px_environments.specs.declared.signatures.Signature.{Signature}
use Rattle.px_environments.specs.declared.variables.Variables.{Variables}
use Rattle.px_environments.specs.declared.variables.Signatures.{Signatures}
use Rattle.px_environments.specs.declared.code_environments.CodeEnvironment.{CodeEnvironment}
use Rattle.px_environments.specs.Environments.{Environment}

-- Tables

abbrev pub variables_kept : Variables → ℕ → Option Variable
variables_kept kept number = get_by (λ key. nat_eq number key) kept.variables

abbrev pub signatures_kept : Signatures → ℕ → Option Signature
signatures_kept kept number = get_by (λ key. nat_eq number key) kept.signatures

-- a table with an entry for a number, where it has none there
abbrev pub with_first : {V : Type 0} → ℕ → V → (ℕ → Option V) → ℕ → Option V
with_first number value kept n = option_or (kept n) (if nat_eq n number then Some value else None)

abbrev pub environment_kept : CodeEnvironment → Environment
environment_kept code = record {
  meanings = meanings_kept code.scope.now;
  variables = variables_kept code.variables.now;
  functions = signatures_kept code.functions.now;
  cdivision = code.cdivision;
  gives = code.gives;
}
