-- What the types of the expressions and statements of a function, or of module code, hang on.
use Rattle.std.specs.Prelude.{ℕ, Bool, Option}
use Rattle.px_tree.specs.declared.typed_values.ValueType.{ValueType}
use Rattle.px_names.specs.declared.meanings.Meaning.{Meaning}
use Rattle.px_environments.specs.declared.signatures.Variable.{Variable}
use Rattle.px_environments.specs.declared.signatures.Signature.{Signature}

pub record Environment : Type 0 where
  -- what the name of a number stands for
  pub meanings : ℕ → Option Meaning
  -- the variable with the declaration of a number
  pub variables : ℕ → Option Variable
  -- the function of a number
  pub functions : ℕ → Option Signature
  -- whether `//` and `%` truncate
  pub cdivision : Bool
  -- the type of the function's result; module code has none
  pub gives : Option ValueType
