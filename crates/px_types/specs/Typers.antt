-- What a typer knows of the code round what it types.
use Rattle.px_environments.specs.Environments.{Environment}
use Rattle.px_environments.specs.Kept.{environment_kept}
use Rattle.px_types.specs.declared.typer.Typer.{Typer}

abbrev pub environment_of : Typer → Environment
environment_of typer = environment_kept typer.code
