use Rattle.std.proofs.Common.{◌≡◌, ◌<◌, List, ◌++◌, refl, sym, ap, subst, ◌∙◌, arith}
use Rattle.std.specs.Prelude.{OnOk}
use Rattle.px_walk.specs.HeadForms.{form_of}
use Rattle.px_walk.specs.Nodes.{rose_of}
use Rattle.px_walk.specs.Roses.{head_of, number_of, at_of, parts_of, size}
use Rattle.px_walk.proofs.Walks.{size-part}
use Rattle.px_typed_walk.specs.TypedView.{TypedRose, rose_of_typed}
use Rattle.px_operators.specs.Outcomes.{Outcome, Gives, only, flat}
use Rattle.px_operators.specs.Kept.{parts_kept}
use Rattle.px_environments.specs.Atoms.{atom_meaning, is_value}
use Rattle.px_typed_expressions.specs.Calls.{first_call}
use Rattle.px_typed_expressions.specs.Expressions.{expression_of, operands_below}
use Rattle.px_typed_expressions.specs.ExpressionsKept.{outcomes_each}
use Rattle.px_typed_expressions.specs.Typers.{environment_of}
use Rattle.px_typed_expressions.proofs.ExpressionParts.{of_row, of_name, of_between, of_composed, parts_first, parts_more, parts_last, range_operands, value_row_operands}
use Rattle.px_typed_expressions.proofs.ExpressionRows.{row_value, row_called, row_alone, row_none, behind_more, behind_last, behind_step, value_gives, call_gives}
use Rattle.px_typed_expressions.proofs.typer.ExpressionTyper.+gather.Goals as goal

-- ---- behind

pub behind-loop-k-init : goal.behind-loop-k-init
behind-loop-k-init t c = λ o gives. (o, gives, refl)

pub behind-part-trailer-requires : goal.behind-part-trailer-requires
behind-part-trailer-requires t c = omega arith

pub behind-below-requires : goal.behind-below-requires
behind-below-requires t c =
    let less : size (rose_of c.part-trailer.result) < size (rose_of c.args.row) =
    size-part (rose_of c.args.row) c.loop-k.k (rose_of c.part-trailer.result) c.part-trailer.ensures in
    let d = c.decreases in
    (omega arith, tt)

pub behind-loop-k-preserved : goal.behind-loop-k-preserved
behind-loop-k-preserved t c =
    let environment = environment_of c.args.self.now in
    let at = at_of (rose_of c.args.row) in
    let part = rose_of c.part-trailer.result in
    λ o gives. behind_more environment at c.loop-k.so_far c.behind_one-so_far.result (parts_of (rose_of c.args.row)) c.loop-k.k part _ c.part-trailer.ensures
    (λ so_far so_far_gives. behind_step c.behind_one-so_far.result c.at.result at part so_far (parts_kept c.in_ok-parts.parts.items) (operands_below environment part)
    c.at.ensures c.in_ok-parts.ensures (c.behind_one-so_far.ensures so_far so_far_gives))
    (c.loop-k.invariant o gives)

pub behind-returns : goal.behind-returns
behind-returns t c =
    λ o gives. behind_last (environment_of c.args.self.now) (at_of (rose_of c.args.row)) c.loop-k.so_far (parts_of (rose_of c.args.row)) c.loop-k.k _ (omega arith) (c.loop-k.invariant o gives)

-- ---- below

pub below-gather-requires : goal.below-gather-requires
below-gather-requires t c =
    let d = c.decreases in
    (omega arith, tt)

pub below-returns : goal.below-returns
below-returns t c =
    c.in_ok-gather.ensures ∙ ap (λ items. parts_kept items ++ operands_below (environment_of c.args.self.now) (rose_of c.args.node)) c.new-gathered.ensures.items

-- ---- composed

pub composed-gather_parts-requires : goal.composed-gather_parts-requires
composed-gather_parts-requires t c =
    let d = c.decreases in
    (omega arith, tt)

pub composed-returns : goal.composed-returns
composed-returns t c =
    let environment = environment_of c.args.self.now in
    let tree = rose_of c.args.node in
    let outcomes = flat (outcomes_each environment (parts_of tree)) in
    subst (λ (o : List (Outcome TypedRose)). Gives rose_of_typed c.expression_of.result (expression_of environment (head_of tree) (number_of tree) (at_of tree) (parts_of tree) o))
    (c.in_ok-gather_parts.ensures ∙ ap (λ items. parts_kept items ++ outcomes) c.new-below.ensures.items)
    c.expression_of.ensures

-- ---- gather

pub gather-gather_row-requires : goal.gather-gather_row-requires
gather-gather_row-requires t c =
    let d = c.decreases in
    (omega arith, tt)

pub gather-gather_parts-requires : goal.gather-gather_parts-requires
gather-gather_parts-requires t c =
    let d = c.decreases in
    (omega arith, tt)

pub gather-composed-requires : goal.gather-composed-requires
gather-composed-requires t c =
    let d = c.decreases in
    (omega arith, tt)

pub gather-returns-in-Row : goal.gather-returns-in-Row
gather-returns-in-Row t c =
    subst (λ (o : List (Outcome TypedRose)). OnOk c.gather_row.result (parts_kept c.gather_row.new.gathered.items ≡ parts_kept c.args.gathered.now.items ++ o))
    (sym (of_row (environment_of c.args.self.now) (rose_of c.args.node) c.head.result c.head.ensures c.in-Row.is))
    c.gather_row.ensures

pub gather-returns-in-Name : goal.gather-returns-in-Name
gather-returns-in-Name t c =
    subst (λ (o : List (Outcome TypedRose)). OnOk c.gather_name.result (parts_kept c.gather_name.new.gathered.items ≡ parts_kept c.args.gathered.now.items ++ o))
    (sym (of_name (environment_of c.args.self.now) (rose_of c.args.node) c.head.result c.in-Name.field-0.now c.head.ensures (ap form_of c.in-Name.is)))
    c.gather_name.ensures

pub gather-returns-then-is_between : goal.gather-returns-then-is_between
gather-returns-then-is_between t c =
    subst (λ (o : List (Outcome TypedRose)). OnOk c.gather_parts.result (parts_kept c.gather_parts.new.gathered.items ≡ parts_kept c.args.gathered.now.items ++ o))
    (sym (of_between (environment_of c.args.self.now) (rose_of c.args.node) c.head.result c.head.ensures c.in_default.not-Row c.in_default.not-Name
    (sym c.is_between.ensures ∙ c.if-is_between.true)))
    c.gather_parts.ensures

pub gather-returns-else-is_between : goal.gather-returns-else-is_between
gather-returns-else-is_between t c =
    subst (λ (o : List (Outcome TypedRose)). OnOk c.add.result (parts_kept c.add.new.parts.items ≡ parts_kept c.args.gathered.now.items ++ o))
    (sym (of_composed (environment_of c.args.self.now) (rose_of c.args.node) c.head.result c.head.ensures c.in_default.not-Row c.in_default.not-Name
    (sym c.is_between.ensures ∙ c.if-is_between.false)))
    (c.add.ensures _ c.composed.ensures)

-- ---- gather_parts

pub gather_parts-loop-k-init : goal.gather_parts-loop-k-init
gather_parts-loop-k-init t c = parts_first (environment_of c.args.self.now) (parts_kept c.args.gathered.now.items) (parts_of (rose_of c.args.node))

pub gather_parts-part-requires : goal.gather_parts-part-requires
gather_parts-part-requires t c = omega arith

pub gather_parts-gather-requires : goal.gather_parts-gather-requires
gather_parts-gather-requires t c =
    let less : size (rose_of c.part.result) < size (rose_of c.args.node) =
    size-part (rose_of c.args.node) c.loop-k.k (rose_of c.part.result) c.part.ensures in
    let d = c.decreases in
    (omega arith, tt)

pub gather_parts-loop-k-preserved : goal.gather_parts-loop-k-preserved
gather_parts-loop-k-preserved t c =
    parts_more (environment_of c.args.self.now) (parts_kept c.loop-k.gathered.items) (parts_kept c.gather.new.gathered.items) _ (parts_of (rose_of c.args.node)) c.loop-k.k
    (rose_of c.part.result) c.part.ensures c.in_ok-gather.ensures c.loop-k.invariant

pub gather_parts-returns : goal.gather_parts-returns
gather_parts-returns t c =
    parts_last (environment_of c.args.self.now) (parts_kept c.loop-k.gathered.items) _ (parts_of (rose_of c.args.node)) c.loop-k.k (omega arith) c.loop-k.invariant

-- ---- gather_row

pub gather_row-gather_parts-requires : goal.gather_row-gather_parts-requires
gather_row-gather_parts-requires t c =
    let d = c.decreases in
    (omega arith, tt)

pub gather_row-row-requires : goal.gather_row-row-requires
gather_row-row-requires t c =
    let d = c.decreases in
    (omega arith, tt)

pub gather_row-returns-then-is_range_row : goal.gather_row-returns-then-is_range_row
gather_row-returns-then-is_range_row t c =
    let environment = environment_of c.args.self.now in
    let tree = rose_of c.args.node in
    subst (λ (o : List (Outcome TypedRose)). OnOk c.gather_parts.result (parts_kept c.gather_parts.new.gathered.items ≡ parts_kept c.args.gathered.now.items ++ o))
    (sym (range_operands environment (number_of tree) (at_of tree) (parts_of tree) (outcomes_each environment (parts_of tree)) (sym c.is_range_row.ensures ∙ c.if-is_range_row.true)))
    c.gather_parts.ensures

pub gather_row-returns-else-is_range_row : goal.gather_row-returns-else-is_range_row
gather_row-returns-else-is_range_row t c =
    let environment = environment_of c.args.self.now in
    let tree = rose_of c.args.node in
    subst (λ (o : List (Outcome TypedRose)). OnOk c.add.result (parts_kept c.add.new.parts.items ≡ parts_kept c.args.gathered.now.items ++ o))
    (sym (value_row_operands environment (number_of tree) (at_of tree) (parts_of tree) (outcomes_each environment (parts_of tree)) (sym c.is_range_row.ensures ∙ c.if-is_range_row.false)))
    (c.add.ensures _ c.row.ensures)

-- ---- row

pub row-returns-in_default : goal.row-returns-in_default
row-returns-in_default t c =
    let tree = rose_of c.args.row in
    rw (c.unbuilt.ensures, c.at.ensures) (row_none (environment_of c.args.self.now) (number_of tree) (at_of tree) (parts_of tree) (sym c.in_default.ensures))

pub row-below-requires : goal.row-below-requires
row-below-requires t c =
    let less : size (rose_of c.in-Some.atom) < size (rose_of c.args.row) = size-part (rose_of c.args.row) 0 (rose_of c.in-Some.atom) (sym c.in-Some.ensures) in
    let d = c.decreases in
    (omega arith, tt)

pub row-behind-requires : goal.row-behind-requires
row-behind-requires t c =
    let d = c.decreases in
    (omega arith, tt)

pub row-returns-then-is_value : goal.row-returns-then-is_value
row-returns-then-is_value t c =
    let environment = environment_of c.args.self.now in
    let tree = rose_of c.args.row in
    let atom = rose_of c.in-Some.atom in
    subst (λ (o : Outcome TypedRose). Gives rose_of_typed c.behind.result o)
    (sym (row_value environment (number_of tree) (at_of tree) (parts_of tree) atom (sym c.in-Some.ensures)
    (ap is_value (sym c.atom_meaning-meaning.ensures) ∙ sym c.is_value.ensures ∙ c.if-is_value.true)))
    (c.behind.ensures (only (at_of tree) (operands_below environment atom))
    (value_gives c.only_part.result c.at-then-is_value.result (at_of tree) (parts_kept c.in_ok-value.value.items) (operands_below environment atom)
    c.at-then-is_value.ensures c.in_ok-value.ensures c.only_part.ensures))

pub row-returns-in_default-get : goal.row-returns-in_default-get
row-returns-in_default-get t c =
    let tree = rose_of c.args.row in
    rw (c.unbuilt-in_default-get.ensures, c.at-in_default-get.ensures)
    (row_alone (environment_of c.args.self.now) (number_of tree) (at_of tree) (parts_of tree) (rose_of c.in-Some.atom) (sym c.in-Some.ensures) (sym c.in_default-get.ensures)
    (ap is_value (sym c.atom_meaning-meaning.ensures) ∙ sym c.is_value.ensures ∙ c.if-is_value.false))

pub row-below-requires-2 : goal.row-below-requires-2
row-below-requires-2 t c =
    let less : size (rose_of c.in-Some-get.call) < size (rose_of c.args.row) = size-part (rose_of c.args.row) 1 (rose_of c.in-Some-get.call) (sym c.in-Some-get.ensures) in
    let d = c.decreases in
    (omega arith, tt)

pub row-behind-requires-2 : goal.row-behind-requires-2
row-behind-requires-2 t c =
    let d = c.decreases in
    (omega arith, tt)

pub row-returns : goal.row-returns
row-returns t c =
    let environment = environment_of c.args.self.now in
    let tree = rose_of c.args.row in
    let atom = rose_of c.in-Some.atom in
    let call = rose_of c.in-Some-get.call in
    subst (λ (o : Outcome TypedRose). Gives rose_of_typed c.behind-2.result o)
    (sym (row_called environment (number_of tree) (at_of tree) (parts_of tree) atom call (sym c.in-Some.ensures) (sym c.in-Some-get.ensures)
    (ap is_value (sym c.atom_meaning-meaning.ensures) ∙ sym c.is_value.ensures ∙ c.if-is_value.false)))
    (c.behind-2.ensures (first_call environment (atom_meaning environment atom) (number_of tree) (at_of tree) (operands_below environment call))
    (call_gives environment c.first_call-called.result c.atom_meaning-meaning.result (atom_meaning environment atom) c.number.result (number_of tree) c.at-2.result (at_of tree)
    (parts_kept c.in_ok-arguments.arguments.items) (operands_below environment call)
    c.atom_meaning-meaning.ensures c.number.ensures c.at-2.ensures c.in_ok-arguments.ensures c.first_call-called.ensures))
