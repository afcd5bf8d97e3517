-- A slice goes as far as its stop is from its start, and begins at its start where it picks an item.
use Rattle.std.proofs.Common.{Bool, FitsSigned, ap, arith, length, of_z, pos, rules, subst, sym, to_z, ◌<◌, ◌∙◌, ◌≡◌}
use Rattle.std.specs.Prelude.{◌+ℤ◌, ◌*ℤ◌, ◌≤ℤ◌, unsigned_abs}
use Rattle.std.specs.Int.{div_ceil}
use mir.Syntax.{w128}
use Rattle.std.proofs.lemmas.Int.{ints, to_z-of_z}
use Rattle.px_model.specs.Sequences.{goes_up, highest, lowest, slice_distance, slice_indices, slice_start, slice_stop}
use Rattle.px_views.proofs.Slicing.{div_ceil_small, picked_is, picked_number, some_start, start_within, stop_within}
use Rattle.px_views.proofs.slices.cut_of.Goals as goal
use Rattle.px_views.proofs.slices.cut_of.Goals.{After-div_ceil, After-stop_of-stop, else-start-lt0, then-start-lt0}

-- where a slice begins and stops is within its ends
module _ (c : After-stop_of-stop) where
  abbrev up : Bool
  up = goes_up (to_z w128 (of_z w128 c.args.step))

  start_is : to_z w128 (of_z w128 c.start_of-start.result) ≡ slice_start c.args.extent up c.args.from
  start_is =
      let fits : FitsSigned w128 c.start_of-start.result = search rules in
      to_z-of_z w128 c.start_of-start.result fits ∙ c.start_of-start.ensures

  stop_is : to_z w128 (of_z w128 c.stop_of-stop.result) ≡ slice_stop c.args.extent up c.args.to
  stop_is =
      let fits : FitsSigned w128 c.stop_of-stop.result = search rules in
      to_z-of_z w128 c.stop_of-stop.result fits ∙ c.stop_of-stop.ensures

pub distance-far-requires-clause-start_low : goal.distance-far-requires-clause-start_low
distance-far-requires-clause-start_low c = subst (λ z. lowest (up c) ≤ℤ z) (sym (start_is c)) (start_within c.args.extent (up c) c.args.from).0

pub distance-far-requires-clause-start_high : goal.distance-far-requires-clause-start_high
distance-far-requires-clause-start_high c = subst (λ z. z ≤ℤ highest c.args.extent (up c)) (sym (start_is c)) (start_within c.args.extent (up c) c.args.from).1

pub distance-far-requires-clause-stop_low : goal.distance-far-requires-clause-stop_low
distance-far-requires-clause-stop_low c = subst (λ z. lowest (up c) ≤ℤ z) (sym (stop_is c)) (stop_within c.args.extent (up c) c.args.to).0

pub distance-far-requires-clause-stop_high : goal.distance-far-requires-clause-stop_high
distance-far-requires-clause-stop_high c = subst (λ z. z ≤ℤ highest c.args.extent (up c)) (sym (stop_is c)) (stop_within c.args.extent (up c) c.args.to).1

pub overflow_cast-result-2 : goal.overflow_cast-result-2
overflow_cast-result-2 c =
    let some : 0 < c.unsigned_abs.result = search rules in
    record { fits = omega (arith, c.div_ceil.ensures, div_ceil_small c.distance-far.result c.unsigned_abs.result some, c.distance-far.type_inv) }

start : (c : After-div_ceil) → c.start_of-start.result ≡ slice_start c.args.extent (goes_up c.args.step) c.args.from
start c = c.start_of-start.ensures ∙ ap (λ k. slice_start c.args.extent (goes_up k) c.args.from) (to_z-of_z w128 c.args.step c.ranges.step)

stop : (c : After-div_ceil) → c.stop_of-stop.result ≡ slice_stop c.args.extent (goes_up c.args.step) c.args.to
stop c = c.stop_of-stop.ensures ∙ ap (λ k. slice_stop c.args.extent (goes_up k) c.args.to) (to_z-of_z w128 c.args.step c.ranges.step)

far : (c : After-div_ceil) → c.distance-far.result
    ≡ slice_distance (goes_up c.args.step) (slice_start c.args.extent (goes_up c.args.step) c.args.from) (slice_stop c.args.extent (goes_up c.args.step) c.args.to)
far c =
    let one : FitsSigned w128 c.start_of-start.result = search rules in
    let two : FitsSigned w128 c.stop_of-stop.result = search rules in
    c.distance-far.ensures
    ∙ ap (λ k. slice_distance (goes_up k) (to_z w128 (of_z w128 c.start_of-start.result)) (to_z w128 (of_z w128 c.stop_of-stop.result)))
    (to_z-of_z w128 c.args.step c.ranges.step)
    ∙ ap (λ z. slice_distance (goes_up c.args.step) z (to_z w128 (of_z w128 c.stop_of-stop.result)))
    (to_z-of_z w128 c.start_of-start.result one ∙ start c)
    ∙ ap (slice_distance (goes_up c.args.step) (slice_start c.args.extent (goes_up c.args.step) c.args.from))
    (to_z-of_z w128 c.stop_of-stop.result two ∙ stop c)

counted : (c : After-div_ceil) → c.div_ceil.result ≡ length (slice_indices c.args.extent c.args.from c.args.to c.args.step)
counted c =
    c.div_ceil.ensures
    ∙ ap (λ d. div_ceil d c.unsigned_abs.result) (far c)
    ∙ ap (div_ceil _) (c.unsigned_abs.ensures.value ∙ ap unsigned_abs (to_z-of_z w128 c.args.step c.ranges.step))
    ∙ sym (picked_number c.args.extent c.args.from c.args.to c.args.step)

pub returns-clause-count : goal.returns-clause-count
returns-clause-count c = counted c

pub returns-clause-items : goal.returns-clause-items
returns-clause-items c m less =
    let within : m < length (slice_indices c.args.extent c.args.from c.args.to c.args.step) = omega (arith, counted c) in
    let low : pos 0 ≤ℤ slice_start c.args.extent (goes_up c.args.step) c.args.from =
    some_start c.args.extent c.args.from c.args.to c.args.step c.requires m within in
    let begins : slice_start c.args.extent (goes_up c.args.step) c.args.from ≡ pos c.if-start-lt0.result =
    elim c.if-start-lt0.branch [
      | then-start-lt0 w ↦ absurd (omega (arith, ints, low, start c, w.if-start-lt0.true))
      | else-start-lt0 w ↦ omega (arith, ints, low, start c, w.result-is)
    ] in
    picked_is c.args.extent c.args.from c.args.to c.args.step c.requires m within ∙ ap (λ z. z +ℤ pos m *ℤ c.args.step) begins
