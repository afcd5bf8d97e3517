use Rattle.std.proofs.Common.{◌∙◌}
use Rattle.std.specs.Prelude.{bytes_eq}
use Rattle.px_names.specs.Kept.{names_in}
use Rattle.px_names.proofs.MapSteps.{name_set_after, one_shared}
use Rattle.px_names.proofs.lookups.Lookup.add.Goals as goal

pub returns : goal.returns
returns c =
    let names = names_in c.args.self.now in
    λ i. record names {
      shared = λ n. (name_set_after c.args.self.now.shared c.insert.new.self c.args.name c.in_ok-insert.ensures.updates n
          ∙ one_shared (names.shared n) (bytes_eq n c.args.name.now)) i;
    }
