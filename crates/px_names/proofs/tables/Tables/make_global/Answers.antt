use Rattle.std.proofs.Common.{◌≡◌, ◌+◌, ℕ, List, [], ◌∷◌, drop, refl, sym, ap, ◌∙◌}
use Rattle.std.proofs.lemmas.List.{drop_more, drop_all}
use Rattle.px_names.specs.Kept.{names_kept}
use Rattle.px_names.specs.Declarations.{Names}
use Rattle.px_names.specs.Steps.{with_globals}
use Rattle.px_names.proofs.MapSteps.{globals_none, globals_joined, global_put}
use Rattle.px_names.proofs.PartLoops.{drop_whole}
use Rattle.px_names.proofs.tables.Tables.make_global.Goals as goal

pub loop-name-init : goal.loop-name-init
loop-name-init c = ap (with_globals (names_kept c.args.self.now) c.args.function) (drop_whole c.args.names.now)

pub loop-name-preserved : goal.loop-name-preserved
loop-name-preserved c =
    let names = c.args.names.now in
    let said = names_kept c.loop-name.self in
    let function = c.args.function in
    let k = c.loop-name.name-index in
    let rest = drop (k + 1) names in
    let name = c.as_slice-name.result in
    let put : names_kept (record c.loop-name.self { globals = c.insert.new.self }) ≡ with_globals said function (name.now ∷ []) =
    λ i. record said {
      globals = λ f n. global_put said c.loop-name.self.globals c.insert.new.self (record { function = function; name = name }) c.in_ok-insert.ensures.updates (λ g m. refl) f n i;
    } in
    ap (λ (n : Names). with_globals n function rest) put
    ∙ globals_joined said function name.now rest
    ∙ ap (λ (others : List (List ℕ)). with_globals said function others)
    (ap (λ (n : List ℕ). n ∷ rest) (c.as_slice-name.ensures ∙ c.name-item.is) ∙ sym (drop_more names k c.name-item.result c.loop-name-test.true))
    ∙ c.loop-name.invariant

pub returns : goal.returns
returns c =
    let names = c.args.names.now in
    let said = names_kept c.loop-name.self in
    sym (globals_none said c.args.function)
    ∙ ap (λ (others : List (List ℕ)). with_globals said c.args.function others) (sym (drop_all c.loop-name.name-index names c.loop-name-test.false))
    ∙ c.loop-name.invariant
