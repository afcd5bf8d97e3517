-- What expressions come to, part by part.
use Rattle.std.specs.Prelude.{ℕ, if◌then◌else◌, List, [], ◌∷◌, map, Option}
use Rattle.px_base.specs.declared.refusals.Span.{Span}
use Rattle.px_base.specs.declared.refusals.Trouble.{Trouble}
use Rattle.px_base.specs.declared.refusals.Trouble.TheVariants.{Refused}
use Rattle.px_walk.specs.Forms.{Form}
use Rattle.px_walk.specs.Forms as form
use Rattle.px_walk.specs.ExprView.{Tree}
use Rattle.px_typed_walk.specs.TypedView.{TypedRose}
use Rattle.px_operators.specs.Outcomes.{Outcome, misfit, missing}
use Rattle.px_environments.specs.Environments.{Environment}
use Rattle.px_names.specs.declared.meanings.Meaning.{Meaning}
use Rattle.px_environments.specs.Atoms.{is_value}
use Rattle.px_typed_expressions.specs.Calls.{Trailer}
use Rattle.px_typed_expressions.specs.Expressions.{name_of, operands_below}

abbrev pub outcomes_each : Environment → List Tree → List (List (Outcome TypedRose))
outcomes_each environment parts = map (operands_below environment) parts

-- the trailers of a row, each with what its parts come to
abbrev pub trailers_of : Environment → List Tree → List Trailer
trailers_of environment parts = map (λ part. (part, operands_below environment part)) parts

-- a name as an operand, where it is a value
abbrev pub value_operands : Environment → Option Meaning → ℕ → Span → List (Outcome TypedRose)
value_operands environment what number at = if is_value what then name_of environment what number at ∷ [] else []

abbrev pub behind_trouble : Form → Span → Trouble
behind_trouble form.Call at = Refused (misfit at)
behind_trouble _ at = Refused (missing at)
