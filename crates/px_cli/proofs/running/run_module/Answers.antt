use Rattle.std.proofs.Common.{◌≡◌, ℕ, List, None, Some, refl, sym, ap, ◌∙◌, subst}
use Rattle.std.specs.Prelude.{slice_get}
use Rattle.std.proofs.lemmas.Bool.{false≢true}
use Rattle.std.proofs.lemmas.Result.{err_from_is_err_and}
use Rattle.px_tree.specs.declared.modules.Function.{Function}
use Rattle.px_tree.specs.declared.modules.ModuleItem.{ModuleItem}
use Rattle.px_tree.specs.declared.modules.ModuleItem.TheVariants as module_item
use Rattle.px_cli.specs.FirstRefusals.{IsUnbuiltAt, StopsAt}
use Rattle.px_cli.specs.FirstMeaning.{Values, no_values, DoInTurn}
use Rattle.px_cli.proofs.RefusalLemmas.{refused_weaker, refused_at, nothing_refused, first_refused, header_refused, body_refused, uncalled_refused, next_refused, further_refused, module_prints}
use Rattle.px_cli.proofs.running.run_module.Goals as goal

-- the item is the function that its box holds
function_given : {item : ModuleItem} {boxed given : Function} → item ≡ module_item.Function boxed → given ≡ boxed → item ≡ module_item.Function given
function_given is same = is ∙ ap (λ f. module_item.Function f) (sym same)

pub returns-in_default-clause-refused : goal.returns-in_default-clause-refused
returns-in_default-clause-refused c =
    let m = c.args.tree.now in
    let none : None ≡ slice_get m.items 0 = c.in_default.ensures ∙ ap (λ xs. slice_get xs 0) c.as_slice-items.ensures in
    refused_at (List ℕ) m.at c.unbuilt_at.ensures (nothing_refused none)

pub returns-in_default-first : goal.returns-in_default-first
returns-in_default-first c =
    let m = c.args.tree.now in
    let first : Some c.in-Some.first.now ≡ slice_get m.items 0 = c.in-Some.ensures ∙ ap (λ xs. slice_get xs 0) c.as_slice-items.ensures in
    record { done = tt; refused = refused_at (List ℕ) c.place.result c.unbuilt_at-in_default-first.ensures (subst (λ at. IsUnbuiltAt m at) (sym c.place.ensures) (first_refused c.in-Some.first.now first c.in_default-first.not-Function)) }

pub returns-then-not-is_main-clause-refused : goal.returns-then-not-is_main-clause-refused
returns-then-not-is_main-clause-refused c =
    let m = c.args.tree.now in
    let first : Some c.in-Some.first.now ≡ slice_get m.items 0 = c.in-Some.ensures ∙ ap (λ xs. slice_get xs 0) c.as_slice-items.ensures in
    refused_at (List ℕ) c.get-main.result.now.at c.unbuilt_at-then-not-is_main.ensures (header_refused c.in-Some.first.now c.get-main.result.now first (function_given c.in-Function.is c.get-main.ensures) (λ h. false≢true (c.if-not-is_main.ensures.1 h)))

pub returns-in_err-output-clause-refused : goal.returns-in_err-output-clause-refused
returns-in_err-output-clause-refused c =
    let m = c.args.tree.now in
    let first : Some c.in-Some.first.now ≡ slice_get m.items 0 = c.in-Some.ensures ∙ ap (λ xs. slice_get xs 0) c.as_slice-items.ensures in
    let p = err_from_is_err_and c.from_residual.result c.from_residual.ensures.1 in
    rw (p.1, p.2) (refused_weaker (List ℕ) (List ℕ) c.in_err-output.field-0.0 c.in_err-output.ensures.refused (λ refusal h.
    record { at = h.0; stands = body_refused c.in-Some.first.now c.get-main.result.now first (function_given c.in-Function.is c.get-main.ensures) (c.if-not-is_main.ensures.0 refl) (subst (λ xs. StopsAt no_values xs h.0) c.as_slice.ensures h.1); given = h.2 }))

pub returns-in_default-at-clause-refused : goal.returns-in_default-at-clause-refused
returns-in_default-at-clause-refused c =
    let m = c.args.tree.now in
    let first : Some c.in-Some.first.now ≡ slice_get m.items 0 = c.in-Some.ensures ∙ ap (λ xs. slice_get xs 0) c.as_slice-items.ensures in
    let none : None ≡ slice_get m.items 1 = c.in_default-at.ensures ∙ ap (λ xs. slice_get xs 1) c.as_slice-items.ensures in
    let done : (after : Values) × DoInTurn no_values c.get-main.result.now.body after c.in_ok-output.output = subst (λ xs. (after : Values) × DoInTurn no_values xs after c.in_ok-output.output) c.as_slice.ensures c.in_ok-output.ensures.done in
    refused_at (List ℕ) m.at c.unbuilt_at-in_default-at.ensures (uncalled_refused c.in-Some.first.now c.get-main.result.now first none (function_given c.in-Function.is c.get-main.ensures) (c.if-not-is_main.ensures.0 refl) done)

pub returns-then-not-is_call-clause-refused : goal.returns-then-not-is_call-clause-refused
returns-then-not-is_call-clause-refused c =
    let m = c.args.tree.now in
    let first : Some c.in-Some.first.now ≡ slice_get m.items 0 = c.in-Some.ensures ∙ ap (λ xs. slice_get xs 0) c.as_slice-items.ensures in
    let next : Some c.in-Some-at.next.now ≡ slice_get m.items 1 = c.in-Some-at.ensures ∙ ap (λ xs. slice_get xs 1) c.as_slice-items.ensures in
    let done : (after : Values) × DoInTurn no_values c.get-main.result.now.body after c.in_ok-output.output = subst (λ xs. (after : Values) × DoInTurn no_values xs after c.in_ok-output.output) c.as_slice.ensures c.in_ok-output.ensures.done in
    refused_at (List ℕ) c.place-then-not-is_call.result c.unbuilt_at-then-not-is_call.ensures (subst (λ at. IsUnbuiltAt m at) (sym c.place-then-not-is_call.ensures)
    (next_refused c.in-Some.first.now c.in-Some-at.next.now c.get-main.result.now first next (function_given c.in-Function.is c.get-main.ensures) (c.if-not-is_main.ensures.0 refl) done (λ h. false≢true (c.if-not-is_call.ensures.1 h))))

pub returns-in-Some-at-2-clause-refused : goal.returns-in-Some-at-2-clause-refused
returns-in-Some-at-2-clause-refused c =
    let m = c.args.tree.now in
    let first : Some c.in-Some.first.now ≡ slice_get m.items 0 = c.in-Some.ensures ∙ ap (λ xs. slice_get xs 0) c.as_slice-items.ensures in
    let next : Some c.in-Some-at.next.now ≡ slice_get m.items 1 = c.in-Some-at.ensures ∙ ap (λ xs. slice_get xs 1) c.as_slice-items.ensures in
    let third : Some c.in-Some-at-2.further.now ≡ slice_get m.items 2 = c.in-Some-at-2.ensures ∙ ap (λ xs. slice_get xs 2) c.as_slice-items.ensures in
    let done : (after : Values) × DoInTurn no_values c.get-main.result.now.body after c.in_ok-output.output = subst (λ xs. (after : Values) × DoInTurn no_values xs after c.in_ok-output.output) c.as_slice.ensures c.in_ok-output.ensures.done in
    refused_at (List ℕ) c.place-in-Some-at-2.result c.unbuilt_at-in-Some-at-2.ensures (subst (λ at. IsUnbuiltAt m at) (sym c.place-in-Some-at-2.ensures)
    (further_refused c.in-Some.first.now c.in-Some-at.next.now c.in-Some-at-2.further.now c.get-main.result.now first next third (function_given c.in-Function.is c.get-main.ensures) (c.if-not-is_main.ensures.0 refl) done (c.if-not-is_call.ensures.0 refl)))

pub returns-clause-done : goal.returns-clause-done
returns-clause-done c =
    let m = c.args.tree.now in
    let first : Some c.in-Some.first.now ≡ slice_get m.items 0 = c.in-Some.ensures ∙ ap (λ xs. slice_get xs 0) c.as_slice-items.ensures in
    let next : Some c.in-Some-at.next.now ≡ slice_get m.items 1 = c.in-Some-at.ensures ∙ ap (λ xs. slice_get xs 1) c.as_slice-items.ensures in
    let none : None ≡ slice_get m.items 2 = c.in_default-at-2.ensures ∙ ap (λ xs. slice_get xs 2) c.as_slice-items.ensures in
    let done : (after : Values) × DoInTurn no_values c.get-main.result.now.body after c.in_ok-output.output = subst (λ xs. (after : Values) × DoInTurn no_values xs after c.in_ok-output.output) c.as_slice.ensures c.in_ok-output.ensures.done in
    module_prints c.in-Some.first.now c.in-Some-at.next.now c.get-main.result.now first next none (function_given c.in-Function.is c.get-main.ensures) (c.if-not-is_main.ensures.0 refl) done (c.if-not-is_call.ensures.0 refl)
