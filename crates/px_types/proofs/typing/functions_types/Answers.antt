use Rattle.std.proofs.Common.{ℕ, List, ◌≡◌, ◌+◌, ◌≤◌, length, Some, map, option_copied, refl, sym, ap, subst, ◌∙◌, arith}
use Rattle.std.specs.Prelude.{slice_get}
use Rattle.std.proofs.lemmas.Option.{slice_get_read}
use Rattle.px_tree.specs.declared.modules.ModuleItem.{ModuleItem}
use Rattle.px_names.specs.NamedModule.{function_item}
use Rattle.px_operators.specs.Outcomes.{mapped}
use Rattle.px_operators.specs.Kept.{gathered_kept}
use Rattle.px_types.specs.TypedModule.{function_types, function_kept}
use Rattle.px_types.specs.ModuleKept.{functions_gathered}
use Rattle.px_types.proofs.StatementLoops.{all_given}
use Rattle.px_types.proofs.ModuleSteps.{pairs_first, pairs_next, pairs_none, count_is_small}
use Rattle.px_types.proofs.typing.functions_types.Goals as goal

pub loop-item-init : goal.loop-item-init
loop-item-init c = record {
  gathered = λ functions kept. pairs_first function_item (function_types functions) (functions_gathered c.new-all.result) c.args.named.now.«module».items c.args.named.now.functions
      (ap (mapped (map function_kept)) c.new-all.ensures);
  few = omega arith;
}

pub loop-item-preserved : goal.loop-item-preserved
loop-item-preserved c =
    let index = c.loop-item.item-index in
    let item = c.item-item.result in
    let here : slice_get c.args.named.now.«module».items index ≡ Some item =
    subst (λ (xs : List ModuleItem). slice_get xs index ≡ Some item) c.as_slice-item-items.ensures
    (slice_get_read c.as_slice-item-items.result.now _ _ _ refl c.loop-item-test.true c.item-item.is) in
    let small = count_is_small (function_item item) in
    let counted = c.count_of_function-place.ensures in
    let few = c.loop-item.invariant.few in
    record {
      gathered = λ functions kept. pairs_next function_item (function_types functions) (functions_gathered c.loop-item.all) (functions_gathered c.take_function.new.all) c.args.named.now.«module».items
          c.args.named.now.functions index c.loop-item.place (c.loop-item.place + c.count_of_function-place.result) item (option_copied c.at-code.result) _
          (c.loop-item.invariant.gathered functions kept) here (c.at-code.ensures ∙ ap (λ xs. slice_get xs c.loop-item.place) c.as_slice.ensures)
          (ap (λ (n : ℕ). c.loop-item.place + n) c.count_of_function-place.ensures) (c.in_ok-take_function.ensures functions kept);
      few = omega (arith, small, counted, few);
    }

pub returns : goal.returns
returns c = λ functions kept.
    let past : length c.args.named.now.«module».items ≤ c.loop-item.item-index =
    subst (λ (xs : List ModuleItem). length xs ≤ c.loop-item.item-index) c.as_slice-item-items.ensures c.loop-item-test.false in
    all_given (λ all. all.items) function_kept c.all.result (gathered_kept c.loop-item.all) _ c.all.ensures
    (pairs_none function_item (function_types functions) (functions_gathered c.loop-item.all) c.args.named.now.«module».items c.args.named.now.functions c.loop-item.item-index c.loop-item.place _
    (c.loop-item.invariant.gathered functions kept) past)
