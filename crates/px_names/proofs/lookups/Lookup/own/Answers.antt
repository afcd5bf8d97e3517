use Rattle.std.proofs.Common.{Option, ap, ◌∙◌}
use Rattle.std.specs.Prelude.{option_map}
use Rattle.std.specs.Option.{option_or}
use Rattle.px_names.specs.declared.tables.Declared.{Declared}
use Rattle.px_names.specs.Kept.{names_in}
use Rattle.px_names.specs.Meanings.{local_declared, own_assigned}
use Rattle.px_names.proofs.lookups.Lookup.own.Goals as goal

pub returns-in-Some : goal.returns-in-Some
returns-in-Some c =
    let rest = own_assigned (names_in c.args.self.now) c.args.function c.args.name.now in
    ap (λ (o : Option Declared). option_or (option_map local_declared o) rest) c.in-Some.ensures

pub returns-in-None : goal.returns-in-None
returns-in-None c =
    let rest = own_assigned (names_in c.args.self.now) c.args.function c.args.name.now in
    c.own_assigned.ensures ∙ ap (λ (o : Option Declared). option_or (option_map local_declared o) rest) c.in-None.ensures
