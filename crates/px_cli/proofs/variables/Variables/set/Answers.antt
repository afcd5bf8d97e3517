use Rattle.std.proofs.Common.{rules, FitsSigned}
use Rattle.std.specs.Int.{w128}
use Rattle.std.proofs.lemmas.Int.{to_z-of_z}
use Rattle.px_cli.proofs.VariableLemmas.{sets}
use Rattle.px_cli.proofs.variables.Variables.set.Goals as goal

pub returns : goal.returns
returns c =
    let fits : FitsSigned w128 c.args.value = search rules in
    sets c.args.self.now.values c.insert.new.self c.args.name c.args.value (rw (to_z-of_z w128 c.args.value fits) at c.in_ok-insert.ensures.updates)
