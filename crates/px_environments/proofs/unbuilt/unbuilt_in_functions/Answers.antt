use Rattle.std.proofs.Common.{◌+◌, ◌≤◌, List, drop, map, Option, sym, ap, ◌∙◌, arith}
use Rattle.std.specs.Prelude.{filter_map, option_copied, slice_get, zip}
use Rattle.px_base.specs.declared.refusals.Refusal.{Refusal}
use Rattle.px_base.specs.Findings.{first_of}
use Rattle.px_tree.specs.declared.modules.Function.{Function}
use Rattle.px_tree.specs.declared.modules.ModuleItem.{ModuleItem}
use Rattle.px_names.specs.declared.named.NamedCode.{NamedCode}
use Rattle.px_names.specs.NamedModule.{function_item}
use Rattle.px_names.proofs.PartLoops.{none_first}
use Rattle.px_environments.specs.BuiltForms.{first_in, unbuilt_in_function, unbuilt_in_known}
use Rattle.px_environments.proofs.FirstForms.{functions_step}
use Rattle.px_environments.proofs.Parts.{drop_here, drop_past, lent}
use Rattle.px_environments.proofs.TableSteps.{nothing_copied, no_function}
use Rattle.px_environments.proofs.unbuilt.unbuilt_in_functions.Goals as goal
use Rattle.px_environments.proofs.unbuilt.unbuilt_in_functions.Goals.{in-Some+in_ok-unbuilt_in_known, in_default}

pub loop-item-preserved : goal.loop-item-preserved
loop-item-preserved c =
    let items = c.args.named.now.«module».items in
    let codes = c.args.named.now.functions in
    let k = c.loop-item.item-index in
    let item = c.item-item.result in
    let here = drop_here c.as_slice-item-items.result.now items k item c.as_slice-item-items.ensures c.loop-item-test.true c.item-item.is in
    let counted : c.loop-item.place ≤ k = c.loop-item.invariant.counted in
    elim c.match-function_item.branch [
      | in-Some+in_ok-unbuilt_in_known w ↦ record {
        rest = λ functions is.
            (λ i. first_of (w.first-is i) (first_in (map (unbuilt_in_function functions) (zip (filter_map function_item (drop (k + 1) items)) (drop (w.place-is i) codes)))))
            ∙ ap (λ (found : Option Refusal). first_of found (first_in (map (unbuilt_in_function functions) (zip (filter_map function_item (drop (k + 1) items)) (drop (c.loop-item.place + 1) codes)))))
            w.earlier-first.ensures
            ∙ functions_step functions items k item w.in-Some.function.now codes c.loop-item.place c.loop-item.first w.in_ok-unbuilt_in_known.field-0 here
            (sym c.function_item.ensures ∙ ap option_copied w.in-Some.is)
            (w.in_ok-unbuilt_in_known.ensures functions is
            ∙ ap (unbuilt_in_known functions w.in-Some.function.now)
            (lent w.as_slice.result.now c.loop-item.place w.get-code.result w.get-code.ensures.lookup ∙ ap (λ (known : List NamedCode). slice_get known c.loop-item.place) w.as_slice.ensures))
            ∙ c.loop-item.invariant.rest functions is;
        counted = omega (arith, w.place-is);
      }
      | in_default w ↦ record {
        rest = λ functions is.
            (λ i. first_of (w.first-is i) (first_in (map (unbuilt_in_function functions) (zip (filter_map function_item (drop (k + 1) items)) (drop (w.place-is i) codes)))))
            ∙ ap (λ (fs : List Function). first_of c.loop-item.first (first_in (map (unbuilt_in_function functions) (zip fs (drop c.loop-item.place codes)))))
            (no_function items k item here (sym c.function_item.ensures ∙ nothing_copied c.function_item.result w.in_default.not-Some))
            ∙ c.loop-item.invariant.rest functions is;
        counted = omega (arith, w.place-is);
      }
    ]

pub returns : goal.returns
returns c =
    let items = c.args.named.now.«module».items in
    let codes = c.args.named.now.functions in
    λ functions is.
    sym (none_first c.loop-item.first)
    ∙ ap (λ (rest : List ModuleItem). first_of c.loop-item.first (first_in (map (unbuilt_in_function functions) (zip (filter_map function_item rest) (drop c.loop-item.place codes)))))
    (sym (drop_past c.as_slice-item-items.result.now items c.loop-item.item-index c.as_slice-item-items.ensures c.loop-item-test.false))
    ∙ c.loop-item.invariant.rest functions is
