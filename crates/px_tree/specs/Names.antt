-- Names of functions.
use Rattle.std.specs.Prelude.{◌≢◌, ℕ, List, [], Contains}

-- the characters that no name of a function has

abbrev pub space : ℕ
space = 32

abbrev pub line_feed : ℕ
line_feed = 10

-- it is nonempty, and has neither a space nor LF
pub record IsFunctionName (name : List ℕ) : Type 0 where
  pub nonempty : name ≢ []
  pub no_space : Contains name space → ⊥
  pub no_line_feed : Contains name line_feed → ⊥
