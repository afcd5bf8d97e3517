-- The environment that the tables of variables and functions make.
use Rattle.std.proofs.Common.{◌≡◌, ℕ, List, Option, ◌∙◌}
use Rattle.px_tree.specs.declared.modules.Function.{Function}
use Rattle.px_tree.specs.declared.typed_values.ValueType.{ValueType}
use Rattle.px_tree.specs.declared.typed_modules.Local.{Local}
use Rattle.px_names.specs.declared.named.NamedCode.{NamedCode}
use Rattle.px_names.specs.Kept.{meanings_kept}
use Rattle.px_environments.specs.declared.signatures.Variable.{Variable}
use Rattle.px_environments.specs.declared.signatures.Signature.{Signature}
use Rattle.px_environments.specs.Environments.{Environment}
use Rattle.px_environments.specs.Signatures.{code_environment, function_in, variable_in}

pub same_environment : (made : Environment) (variables : ℕ → Option Variable) (signatures : ℕ → Option Signature) (gave : Option ValueType)
    (functions : List Function) (locals : List Local) (gives : Option ValueType) (code : NamedCode)
    → made ≡ record { meanings = meanings_kept code.scope; variables = variables; functions = signatures; cdivision = code.directives.cdivision; gives = gave }
    → variables ≡ variable_in 0 locals → signatures ≡ function_in 0 functions → gave ≡ gives
    → made ≡ code_environment functions locals gives code
same_environment made variables signatures gave functions locals gives code is same_variables same_functions same_gives =
    is ∙ (λ i. record {
      meanings = meanings_kept code.scope;
      variables = same_variables i;
      functions = same_functions i;
      cdivision = code.directives.cdivision;
      gives = same_gives i;
    })
