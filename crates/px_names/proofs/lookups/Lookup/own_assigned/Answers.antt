use Rattle.std.proofs.Common.{ℕ, Option, None, Bool, sym, ap, ◌∙◌}
use Rattle.std.specs.Prelude.{option_map, if◌then◌else◌}
use Rattle.px_names.specs.Kept.{names_in}
use Rattle.px_names.specs.Meanings.{local_assigned}
use Rattle.px_names.proofs.lookups.Lookup.own_assigned.Goals as goal

pub returns-then-is_global : goal.returns-then-is_global
returns-then-is_global c =
    let names = names_in c.args.self.now in
    let rest = option_map local_assigned (names.assigned c.args.function c.args.name.now) in
    sym (ap (λ (b : Bool). if b then None else rest) (sym c.is_global.ensures ∙ c.if-is_global.true))

pub returns-in-Some : goal.returns-in-Some
returns-in-Some c =
    let names = names_in c.args.self.now in
    let rest = option_map local_assigned (names.assigned c.args.function c.args.name.now) in
    ap (λ (o : Option ℕ). option_map local_assigned o) c.in-Some.ensures
    ∙ sym (ap (λ (b : Bool). if b then None else rest) (sym c.is_global.ensures ∙ c.if-is_global.false))

pub returns-in-None : goal.returns-in-None
returns-in-None c =
    let names = names_in c.args.self.now in
    let rest = option_map local_assigned (names.assigned c.args.function c.args.name.now) in
    ap (λ (o : Option ℕ). option_map local_assigned o) c.in-None.ensures
    ∙ sym (ap (λ (b : Bool). if b then None else rest) (sym c.is_global.ensures ∙ c.if-is_global.false))
