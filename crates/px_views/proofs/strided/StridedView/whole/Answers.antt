-- An array in column-major order is the transposed one of the other shape in row-major order.
use Rattle.std.proofs.Common.{◌≡◌, arith, ap, sym, ◌∙◌, take}
use Rattle.std.specs.Prelude.{reverse}
use Rattle.px_model.specs.Views.{array_cells, buffer_cells, cell_count, transposed}
use Rattle.px_views.proofs.Wholes.{count_reversed}
use Rattle.px_views.proofs.strided.StridedView.whole.Goals as goal
use Rattle.px_views.proofs.strided.StridedView.whole.Goals.{After-reversed}

count : (c : After-reversed) → cell_count (take c.args.rank c.reversed.result) ≡ cell_count (take c.args.rank c.args.shape)
count c = ap cell_count c.reversed.ensures ∙ count_reversed (take c.args.rank c.args.shape)

pub in_rows-requires-clause-few_cells : goal.in_rows-requires-clause-few_cells
in_rows-requires-clause-few_cells c = omega (arith, count c, c.requires.few_cells)

pub returns-then-fortran-clause-cells : goal.returns-then-fortran-clause-cells
returns-then-fortran-clause-cells c =
    c.transpose.ensures.cells
    ∙ ap transposed
    (c.in_rows.ensures.cells
    ∙ ap (λ s. record { shape = s; cells = buffer_cells c.args.buffer (cell_count (take c.args.rank c.reversed.result)) }) c.reversed.ensures
    ∙ ap (λ n. record { shape = reverse (take c.args.rank c.args.shape); cells = buffer_cells c.args.buffer n })
    (count (goal.at.returns-then-fortran-clause-cells c).After-reversed))
    ∙ ap (array_cells c.args.buffer (take c.args.rank c.args.shape)) (sym c.if-fortran.true)

pub returns-then-fortran-clause-size : goal.returns-then-fortran-clause-size
returns-then-fortran-clause-size c =
    c.transpose.ensures.array.size ∙ c.in_rows.ensures.size ∙ count (goal.at.returns-then-fortran-clause-size c).After-reversed
