-- What a typer knows of the code round what it types.
use Rattle.px_environments.specs.Environments.{Environment}
use Rattle.px_environments.specs.Kept.{environment_kept}
use Rattle.px_typed_expressions.specs.declared.typer.ExpressionTyper.{ExpressionTyper}

abbrev pub environment_of : ExpressionTyper → Environment
environment_of typer = environment_kept typer.code
