use Rattle.std.proofs.Common.{◌≤◌, List, ◌++◌, sym, ap, subst, ◌∙◌}
use Rattle.std.specs.Prelude.{filter_map}
use Rattle.std.proofs.lemmas.List.{append-nil, drop_all}
use Rattle.px_tree.specs.declared.typed_values.ValueType.{ValueType}
use Rattle.px_walk.specs.ExprView.{Tree}
use Rattle.px_walk.specs.Nodes.{rose_of}
use Rattle.px_walk.specs.Roses.{parts_of}
use Rattle.px_environments.specs.Signatures.{local_of_part, or_object}
use Rattle.px_environments.proofs.Gathered.{filter_map_step}
use Rattle.px_environments.proofs.Parts.{drop_one}
use Rattle.px_environments.proofs.locals.add_declaration.Goals as goal

pub loop-k-preserved : goal.loop-k-preserved
loop-k-preserved c =
    let parts = parts_of (rose_of c.args.node) in
    let part = rose_of c.part.result in
    filter_map_step (local_of_part c.or_object-t.result) parts c.loop-k.k part c.loop-k.locals c.add_part.new.locals
    (drop_one parts c.loop-k.k part c.part.ensures) c.in_ok-add_part.ensures
    ∙ c.loop-k.invariant

pub returns : goal.returns
returns c =
    let parts = parts_of (rose_of c.args.node) in
    sym (append-nil c.loop-k.locals)
    ∙ ap (λ (rest : List Tree). c.loop-k.locals ++ filter_map (local_of_part c.or_object-t.result) rest)
    (sym (drop_all c.loop-k.k parts (subst (λ n. n ≤ c.loop-k.k) c.count-k-end.ensures c.loop-k-test.false)))
    ∙ c.loop-k.invariant
    ∙ ap (λ (t : ValueType). c.args.locals.now ++ filter_map (local_of_part t) parts) (c.or_object-t.ensures ∙ ap or_object c.first_type.ensures)
