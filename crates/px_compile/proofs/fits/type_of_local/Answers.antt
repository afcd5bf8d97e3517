use Rattle.std.proofs.Common.{ap, sym, ◌∙◌, Some}
use Rattle.std.specs.Prelude.{option_map}
use Rattle.std.proofs.lemmas.Option.{slice_get_past, slice_get-get_or, slice_get-map}
use Rattle.px_tree.specs.declared.typed_modules.Local.{Local}
use Rattle.px_compile.proofs.fits.type_of_local.Goals as goal

pub returns-in-Some : goal.returns-in-Some
returns-in-Some c =
    let there = slice_get-get_or c.args.locals.now c.args.slot c.in-Some.local.now c.in-Some.ensures.lookup.3.0 ∙ ap Some (sym c.in-Some.ensures.lookup.1) in
    ap (option_map (λ (local : Local). local.value_type)) (sym there) ∙ sym (slice_get-map (λ (local : Local). local.value_type) c.args.locals.now c.args.slot)

pub returns-in-None : goal.returns-in-None
returns-in-None c =
    ap (option_map (λ (local : Local). local.value_type)) (sym (slice_get_past c.args.locals.now c.args.slot c.in-None.ensures.lookup.3))
    ∙ sym (slice_get-map (λ (local : Local). local.value_type) c.args.locals.now c.args.slot)
