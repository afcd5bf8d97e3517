use Rattle.std.proofs.Common.{◌≡◌, ◌+◌, drop, Some, None, sym, ap, ◌∙◌}
use Rattle.std.specs.Prelude.{option_map, option_and_then}
use Rattle.std.specs.Option.{option_or}
use Rattle.px_walk.specs.Nodes.{rose_of}
use Rattle.px_walk.specs.Roses.{head_of, parts_of}
use Rattle.px_names.specs.declared.meanings.Imported.{Imported}
use Rattle.px_names.specs.Uses.{attribute_in, import_called, import_used}
use Rattle.px_names.specs.UsesKept.{use_kept}
use Rattle.px_names.proofs.PartLoops.{import_more}
use Rattle.px_names.proofs.rows.import_used.Goals as goal

pub returns-in_default-attribute_in : goal.returns-in_default-attribute_in
returns-in_default-attribute_in c =
    let parts = parts_of (rose_of c.args.row) in
    let part = rose_of c.part.result in
    let imported = c.loop-k.imported in
    let behind = drop (c.loop-k.k + 1) parts in
    let called : import_called imported (drop c.loop-k.k parts) ≡ None = sym c.import_called.ensures ∙ ap (option_map (use_kept parts)) c.in_default.is in
    let inner : attribute_in imported (head_of part) ≡ None = ap (attribute_in imported) (sym c.head.ensures) ∙ sym c.attribute_in.ensures ∙ c.in_default-attribute_in.is in
    sym (import_more imported parts c.loop-k.k part c.part.ensures
    ∙ (λ i. option_or (called i) (option_and_then (λ (found : Imported). import_used found behind) (inner i))))
    ∙ c.loop-k.invariant

pub loop-k-preserved : goal.loop-k-preserved
loop-k-preserved c =
    let parts = parts_of (rose_of c.args.row) in
    let part = rose_of c.part.result in
    let imported = c.loop-k.imported in
    let behind = drop (c.loop-k.k + 1) parts in
    let called : import_called imported (drop c.loop-k.k parts) ≡ None = sym c.import_called.ensures ∙ ap (option_map (use_kept parts)) c.in_default.is in
    let inner : attribute_in imported (head_of part) ≡ Some c.in-Some-attribute_in.inner =
    ap (attribute_in imported) (sym c.head.ensures) ∙ sym c.attribute_in.ensures ∙ c.in-Some-attribute_in.is in
    sym (import_more imported parts c.loop-k.k part c.part.ensures
    ∙ (λ i. option_or (called i) (option_and_then (λ (found : Imported). import_used found behind) (inner i))))
    ∙ c.loop-k.invariant
