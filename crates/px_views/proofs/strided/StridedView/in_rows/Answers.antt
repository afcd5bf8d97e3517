-- The axes are those of row-major order, as far as there are cells.
use Rattle.std.proofs.Common.{◌≡◌, ◌≤◌, ◌<◌, ◌*◌, ◌^◌, ℕ, List, pos, length, get_or, take, arith, sym, subst, ap, ◌∙◌, rules}
use Rattle.std.proofs.lemmas.List.{length-take-le}
use Rattle.px_model.specs.Views.{buffer_cells, cell_count}
use Rattle.px_views.specs.declared.strided.StridedView.{StridedView}
use Rattle.px_views.specs.Cells.{axes_in, view_cells}
use Rattle.px_views.specs.Strides.{AreCells, places_of}
use Rattle.px_views.specs.Triples.{listed}
use Rattle.px_views.proofs.Wholes.{count_is, product_is, whole_need, whole_view}
use Rattle.px_views.proofs.strided.StridedView.in_rows.Goals as goal
use Rattle.px_views.proofs.strided.StridedView.in_rows.Goals.{After-product-2}

module _ (c : After-product-2) where
  abbrev s : List ℕ
  s = take c.args.rank c.args.shape

  rank_is : length s ≡ c.args.rank
  rank_is =
      let three : length c.args.shape ≡ 3 = search rules in
      length-take-le c.args.rank c.args.shape (omega (arith, c.requires.few_axes))

  some : 1 ≤ length s
  some = omega (arith, rank_is, c.requires.some_axes)

  few : length s ≤ 3
  few = omega (arith, rank_is, c.requires.few_axes)

  abbrev first : ℕ
  first = c.extent_at-first.result

  abbrev second : ℕ
  second = c.extent_at-second.result

  abbrev third : ℕ
  third = c.extent_at-third.result

  count : first * (second * third) ≡ cell_count s
  count =
      ap (λ l. l * (second * third)) c.extent_at-first.ensures
      ∙ ap (λ m. get_or s 0 1 * (m * third)) c.extent_at-second.ensures
      ∙ ap (λ n. get_or s 0 1 * (get_or s 1 1 * n)) c.extent_at-third.ensures
      ∙ sym (count_is s some few)

  sized : c.product-2.result ≡ cell_count s
  sized =
      product_is first (second * third) c.product.result c.product-2.result (omega (arith, count, c.requires.few_cells)) c.product.ensures c.product-2.ensures ∙ count

  planes : get_or s 1 1 * get_or s 2 1 < 2 ^ 63 → c.rows_of-axes.result.first.stride ≡ pos (get_or s 1 1 * get_or s 2 1)
  planes =
      subst (λ m. m * get_or s 2 1 < 2 ^ 63 → c.rows_of-axes.result.first.stride ≡ pos (m * get_or s 2 1)) c.extent_at-second.ensures
      (subst (λ n. second * n < 2 ^ 63 → c.rows_of-axes.result.first.stride ≡ pos (second * n)) c.extent_at-third.ensures c.rows_of-axes.ensures.first_stride)

  rows : get_or s 2 1 < 2 ^ 63 → c.rows_of-axes.result.second.stride ≡ pos (get_or s 2 1)
  rows =
      subst (λ n. n < 2 ^ 63 → c.rows_of-axes.result.second.stride ≡ pos n) c.extent_at-third.ensures c.rows_of-axes.ensures.second_stride

  need : AreCells c.product-2.result (places_of (pos 0) (take (length s) (listed c.rows_of-axes.result)))
  need =
      whole_need c.rows_of-axes.result s some few c.requires.few_cells
      (c.rows_of-axes.ensures.first_extent ∙ c.extent_at-first.ensures)
      (c.rows_of-axes.ensures.second_extent ∙ c.extent_at-second.ensures)
      (c.rows_of-axes.ensures.third_extent ∙ c.extent_at-third.ensures)
      planes rows c.rows_of-axes.ensures.third_stride c.product-2.result sized

  view : (v : StridedView) → axes_in v ≡ take c.args.rank (listed c.rows_of-axes.result) → v.offset ≡ 0 → v.buffer ≡ c.args.buffer
      → view_cells v ≡ record { shape = s; cells = buffer_cells c.args.buffer (cell_count s) }
  view v axes offset buffer =
      whole_view c.rows_of-axes.result s some few c.requires.few_cells
      (c.rows_of-axes.ensures.first_extent ∙ c.extent_at-first.ensures)
      (c.rows_of-axes.ensures.second_extent ∙ c.extent_at-second.ensures)
      (c.rows_of-axes.ensures.third_extent ∙ c.extent_at-third.ensures)
      planes rows c.rows_of-axes.ensures.third_stride v c.args.buffer
      (axes ∙ ap (λ r. take r (listed c.rows_of-axes.result)) (sym rank_is)) offset buffer

pub of_axes-requires-clause-cells : goal.of_axes-requires-clause-cells
of_axes-requires-clause-cells c =
    subst (λ r. AreCells c.product-2.result (places_of (pos 0) (take r (listed c.rows_of-axes.result)))) (rank_is c) (need c)

pub returns-clause-cells : goal.returns-clause-cells
returns-clause-cells c =
    view (goal.at.returns-clause-cells c).After-product-2 c.of_axes.result c.of_axes.ensures.axes c.of_axes.ensures.offset c.of_axes.ensures.buffer

pub returns-clause-size : goal.returns-clause-size
returns-clause-size c = c.of_axes.ensures.size ∙ sized (goal.at.returns-clause-size c).After-product-2
