use Rattle.std.proofs.Common.{Some, map, option_copied, sym, ap, subst, ◌∙◌}
use Rattle.px_tree.specs.declared.modules.Function.{Function}
use Rattle.px_tree.specs.declared.modules.ModuleItem.{ModuleItem}
use Rattle.px_names.specs.NamedModule.{function_item}
use Rattle.px_operators.specs.Outcomes.{Gives}
use Rattle.px_operators.specs.Kept.{gathered_kept, gathers}
use Rattle.px_operators.proofs.AllParts.{taken}
use Rattle.px_types.specs.TypedModule.{function_types, function_kept}
use Rattle.px_types.specs.ModuleKept.{functions_gathered, pair_of}
use Rattle.px_types.proofs.StatementLoops.{on_ok}
use Rattle.px_types.proofs.typing.take_function.Goals as goal

pub returns-in-Function-Some : goal.returns-in-Function-Some
returns-in-Function-Some c = λ functions kept.
    let f = c.in-Function-Some.function in
    let code = c.in-Function-Some.code.now in
    let gives : Gives function_kept c.function_types.result (function_types functions (f, code)) =
    subst (λ (g : Function). Gives function_kept c.function_types.result (function_types functions (g, code))) c.get.ensures (c.function_types.ensures functions kept) in
    on_ok c.take.result c.take.ensures (λ takes.
    taken function_kept c.function_types.result (function_types functions (f, code)) (gathered_kept c.args.all.now) (gathered_kept c.take.new.self) gives takes
    ∙ sym (ap (λ (i : ModuleItem). gathers (functions_gathered c.args.all.now) (map (function_types functions) (pair_of (function_item i) (option_copied c.args.code)))) c.in-Function-Some.is-0
    ∙ ap (λ o. gathers (functions_gathered c.args.all.now) (map (function_types functions) (pair_of (Some f) (option_copied o)))) c.in-Function-Some.is-1))
