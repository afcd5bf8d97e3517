use Rattle.std.proofs.Common.{ap, sym, ◌∙◌, Some}
use Rattle.std.specs.Prelude.{option_map}
use Rattle.std.proofs.lemmas.Option.{slice_get_past, slice_get-get_or}
use Rattle.px_typed_walk.specs.TypedView.{rose_of_typed, type_of}
use Rattle.px_compile.proofs.Parts.{type_there}
use Rattle.px_compile.proofs.fits.type_at.Goals as goal

pub returns-in-Some : goal.returns-in-Some
returns-in-Some c =
    let there = slice_get-get_or c.args.parts.now c.args.k c.in-Some.part.now c.in-Some.ensures.lookup.3.0 ∙ ap Some (sym c.in-Some.ensures.lookup.1) in
    ap Some c.type_of.ensures
    ∙ (ap (option_map (λ tree. type_of (rose_of_typed tree))) (sym there) ∙ sym (type_there c.args.parts.now c.args.k))

pub returns-in-None : goal.returns-in-None
returns-in-None c =
    ap (option_map (λ tree. type_of (rose_of_typed tree))) (sym (slice_get_past c.args.parts.now c.args.k c.in-None.ensures.lookup.3))
    ∙ sym (type_there c.args.parts.now c.args.k)
