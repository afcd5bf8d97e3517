use Rattle.std.proofs.Common.{◌+◌, ◌≤◌, List, drop, Option, nat_eq, sym, ap, ◌∙◌, arith}
use Rattle.std.specs.Prelude.{filter_map, option_copied}
use Rattle.std.specs.Option.{option_or}
use Rattle.px_tree.specs.declared.modules.Function.{Function}
use Rattle.px_tree.specs.declared.modules.ModuleItem.{ModuleItem}
use Rattle.px_names.specs.NamedModule.{function_item, functions_of}
use Rattle.px_names.proofs.Options.{or_none}
use Rattle.px_environments.specs.declared.signatures.Signature.{Signature}
use Rattle.px_environments.specs.Kept.{signatures_kept}
use Rattle.px_environments.specs.Signatures.{function_in}
use Rattle.px_environments.proofs.Parts.{drop_here, drop_past}
use Rattle.px_environments.proofs.TableSteps.{nothing_copied, nothing_kept, functions_step, no_function}
use Rattle.px_environments.proofs.variables.Signatures.new.Goals as goal
use Rattle.px_environments.proofs.variables.Signatures.new.Goals.{in-Some+in_ok-add, in_default}

pub loop-item-init : goal.loop-item-init
loop-item-init c = record {
  rest = λ n. ap (λ (o : Option Signature). option_or o (function_in 0 (functions_of c.args.«module».now) n))
      (nothing_kept c.new.result (λ key. nat_eq n key) c.new.ensures.empty);
  counted = omega arith;
}

pub loop-item-preserved : goal.loop-item-preserved
loop-item-preserved c =
    let items = c.args.«module».now.items in
    let k = c.loop-item.item-index in
    let item = c.item-item.result in
    let here = drop_here c.as_slice-item-items.result.now items k item c.as_slice-item-items.ensures c.loop-item-test.true c.item-item.is in
    let counted : c.loop-item.place ≤ k = c.loop-item.invariant.counted in
    elim c.match-function_item.branch [
      | in-Some+in_ok-add w ↦ record {
        rest = λ n.
            (λ i. option_or (signatures_kept (w.kept-is i) n) (function_in (w.place-is i) (filter_map function_item (drop (k + 1) items)) n))
            ∙ functions_step (signatures_kept c.loop-item.kept) (signatures_kept w.add.new.self) c.loop-item.place items k item w.in-Some.function.now here
            (sym c.function_item.ensures ∙ ap option_copied w.in-Some.is) w.in_ok-add.ensures n
            ∙ c.loop-item.invariant.rest n;
        counted = omega (arith, w.place-is);
      }
      | in_default w ↦ record {
        rest = λ n.
            (λ i. option_or (signatures_kept (w.kept-is i) n) (function_in (w.place-is i) (filter_map function_item (drop (k + 1) items)) n))
            ∙ ap (λ (functions : List Function). option_or (signatures_kept c.loop-item.kept n) (function_in c.loop-item.place functions n))
            (no_function items k item here (sym c.function_item.ensures ∙ nothing_copied c.function_item.result w.in_default.not-Some))
            ∙ c.loop-item.invariant.rest n;
        counted = omega (arith, w.place-is);
      }
    ]

pub returns : goal.returns
returns c =
    let items = c.args.«module».now.items in
    let k = c.loop-item.item-index in
    λ i n.
    (sym (or_none (signatures_kept c.loop-item.kept n))
    ∙ ap (λ (rest : List ModuleItem). option_or (signatures_kept c.loop-item.kept n) (function_in c.loop-item.place (filter_map function_item rest) n))
    (sym (drop_past c.as_slice-item-items.result.now items k c.as_slice-item-items.ensures c.loop-item-test.false))
    ∙ c.loop-item.invariant.rest n) i
