use Rattle.px_names.proofs.MapSteps.{number_kept_after}
use Rattle.px_names.proofs.named.Scope.set.Goals as goal

pub returns : goal.returns
returns c = λ i n. number_kept_after c.args.self.now.meanings c.insert.new.self c.args.name c.args.meaning c.in_ok-insert.ensures.updates n i
