use Rattle.std.proofs.Common.{Option, ap, ◌∙◌}
use Rattle.std.specs.Option.{option_or}
use Rattle.px_names.specs.declared.meanings.Meaning.{Meaning}
use Rattle.px_names.specs.Kept.{names_in}
use Rattle.px_names.specs.Meanings.{module_meaning_of}
use Rattle.px_names.proofs.lookups.Lookup.meaning.Goals as goal

pub returns-in-Some : goal.returns-in-Some
returns-in-Some c =
    let rest = module_meaning_of (names_in c.args.self.now) c.args.name.now in
    ap (λ (o : Option Meaning). option_or o rest) c.in-Some.ensures

pub returns-in-None : goal.returns-in-None
returns-in-None c =
    let rest = module_meaning_of (names_in c.args.self.now) c.args.name.now in
    c.module_meaning.ensures ∙ ap (λ (o : Option Meaning). option_or o rest) c.in-None.ensures
