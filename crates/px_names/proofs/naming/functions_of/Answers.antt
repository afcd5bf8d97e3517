use Rattle.std.proofs.Common.{◌≡◌, ◌+◌, List, [], ◌∷◌, ◌++◌, take, sym, ap, ◌∙◌, subst}
use Rattle.std.specs.Prelude.{filter_map}
use Rattle.std.specs.List.{AllZip}
use Rattle.std.specs.Option.{option_to_list}
use Rattle.std.proofs.lemmas.List.{take_more, take_all}
use Rattle.px_tree.specs.declared.modules.Function.{Function}
use Rattle.px_tree.specs.declared.modules.ModuleItem.{ModuleItem}
use Rattle.px_names.specs.Kept.{names_in}
use Rattle.px_names.specs.NamedModule.{IsFunctionCode, function_item}
use Rattle.px_names.proofs.Options.{filter_map-append, filter_map-one}
use Rattle.px_names.proofs.naming.functions_of.Goals as goal

pub loop-item-preserved : goal.loop-item-preserved
loop-item-preserved c =
    let items = c.args.«module».now.items in
    let kept = c.as_slice-item-items.result.now in
    let k = c.loop-item.item-index in
    let before = filter_map function_item (take k items) in
    let same : kept ≡ items = c.as_slice-item-items.ensures in
    let more : take (k + 1) items ≡ take k items ++ c.item-item.result ∷ [] =
    ap (take (k + 1)) (sym same) ∙ take_more kept k c.item-item.result c.loop-item-test.true
    ∙ (λ i. take k (same i) ++ sym c.item-item.is i ∷ []) in
    let split : filter_map function_item (take (k + 1) items) ≡ before ++ option_to_list (function_item c.item-item.result) =
    ap (filter_map function_item) more ∙ filter_map-append function_item (take k items) (c.item-item.result ∷ [])
    ∙ ap (λ (one : List Function). before ++ one) (filter_map-one function_item c.item-item.result) in
    subst (λ (functions : List Function). AllZip (IsFunctionCode (names_in c.args.lookup.now) c.args.directives) functions c.push_code.new.functions)
    (sym split) (c.in_ok-push_code.ensures before c.loop-item.invariant)

pub returns : goal.returns
returns c =
    let items = c.args.«module».now.items in
    let k = c.loop-item.item-index in
    let kept = c.as_slice-item-items.result.now in
    let same : kept ≡ items = c.as_slice-item-items.ensures in
    subst (λ (some : List ModuleItem). AllZip (IsFunctionCode (names_in c.args.lookup.now) c.args.directives) (filter_map function_item some) c.loop-item.functions)
    (ap (take k) (sym same) ∙ take_all k kept c.loop-item-test.false ∙ same) c.loop-item.invariant
