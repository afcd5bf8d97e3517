use Rattle.std.proofs.Common.{◌≡◌, Bor, Option, sym, subst}
use Rattle.std.specs.Prelude.{IfOk, option_copied}
use Rattle.px_names.specs.declared.named.NamedCode.{NamedCode}
use Rattle.px_environments.specs.BuiltForms.{unbuilt_in_known}
use Rattle.px_environments.proofs.unbuilt.unbuilt_in_known.Goals as goal

pub returns-in-Some : goal.returns-in-Some
returns-in-Some c =
    λ functions is.
    subst (λ (code : Option (Bor NamedCode)). IfOk c.unbuilt_in_function.result (λ found. found ≡ unbuilt_in_known functions c.args.function.now (option_copied code)))
    (sym c.in-Some.is) (c.unbuilt_in_function.ensures functions is)
