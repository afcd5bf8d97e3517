use Rattle.std.proofs.Common.{◌≡◌, List, [], ◌∷◌, ◌++◌, Option, Some, sym, ap, ◌∙◌, subst}
use Rattle.std.specs.Prelude.{option_copied}
use Rattle.std.specs.List.{AllZip}
use Rattle.std.specs.Option.{option_to_list}
use Rattle.px_tree.specs.declared.modules.Function.{Function}
use Rattle.px_names.specs.declared.named.NamedCode.{NamedCode}
use Rattle.px_names.specs.Kept.{names_in}
use Rattle.px_names.specs.NamedModule.{IsFunctionCode, function_item}
use Rattle.px_names.proofs.Options.{zip_push}
use Rattle.px_names.proofs.naming.push_code.Goals as goal

pub returns-in_ok-push-in-Some : goal.returns-in_ok-push-in-Some
returns-in_ok-push-in-Some c =
    let function = c.in-Some.function.now in
    let code = c.in_ok-code-in-Some.code in
    let stands : function_item c.args.item.now ≡ Some function = sym c.function_item.ensures ∙ ap option_copied c.in-Some.is in
    λ before all.
    subst (λ (functions : List Function). AllZip (IsFunctionCode (names_in c.args.lookup.now) c.args.directives) functions c.push.new.self)
    (ap (λ (o : Option Function). before ++ option_to_list o) (sym stands))
    (subst (λ (codes : List NamedCode). AllZip (IsFunctionCode (names_in c.args.lookup.now) c.args.directives) (before ++ function ∷ []) codes)
    (sym c.in_ok-push-in-Some.ensures.ok)
    (zip_push (IsFunctionCode (names_in c.args.lookup.now) c.args.directives) before c.args.functions.now function code all c.in_ok-code-in-Some.ensures))
