use Rattle.std.proofs.Common.{◌≡◌, ◌+◌, drop, List, Option, sym, ap, ◌∙◌}
use Rattle.std.specs.Prelude.{filter_map}
use Rattle.std.specs.Option.{option_to_list}
use Rattle.px_walk.specs.Nodes.{rose_of}
use Rattle.px_walk.specs.Roses.{head_of, parts_of}
use Rattle.px_walk.specs.ExprView.{Tree}
use Rattle.px_names.specs.Imports.{Given, given_part}
use Rattle.px_names.specs.Declarations.{Names}
use Rattle.px_names.specs.Kept.{names_kept}
use Rattle.px_names.specs.Steps.{with_imports}
use Rattle.px_names.proofs.MapSteps.{imports_joined}
use Rattle.px_names.proofs.PartLoops.{drop_one}
use Rattle.px_names.proofs.tables.Tables.take_parts.Goals as goal

pub loop-k-preserved : goal.loop-k-preserved
loop-k-preserved c =
    let names = c.args.names.now in
    let parts = parts_of (rose_of c.args.node) in
    let part = rose_of c.part.result in
    let said = names_kept c.loop-k.self in
    let rest = filter_map (λ (other : Tree). given_part names (head_of other)) (drop (c.loop-k.k + 1) parts) in
    let taken : names_kept c.take_import.new.self ≡ with_imports said (option_to_list (given_part names (head_of part))) =
    c.in_ok-take_import.ensures
    ∙ ap (λ (o : Option Given). with_imports said (option_to_list o)) (c.given_part.ensures ∙ ap (given_part names) c.head.ensures) in
    ap (λ (n : Names). with_imports n rest) taken
    ∙ imports_joined said (given_part names (head_of part)) rest
    ∙ ap (λ (others : List Tree). with_imports said (filter_map (λ (other : Tree). given_part names (head_of other)) others)) (sym (drop_one parts c.loop-k.k part c.part.ensures))
    ∙ c.loop-k.invariant
