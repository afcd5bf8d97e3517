use Rattle.std.proofs.Common.{List, Option, nat_eq, sym, ap, ◌∙◌}
use Rattle.std.specs.Option.{option_or}
use Rattle.std.proofs.lemmas.List.{drop_all}
use Rattle.px_tree.specs.declared.typed_modules.Local.{Local}
use Rattle.px_names.proofs.Options.{or_none}
use Rattle.px_environments.specs.declared.signatures.Variable.{Variable}
use Rattle.px_environments.specs.Kept.{variables_kept}
use Rattle.px_environments.specs.Signatures.{variable_in}
use Rattle.px_environments.proofs.Parts.{drop_here}
use Rattle.px_environments.proofs.TableSteps.{nothing_kept, variables_step}
use Rattle.px_environments.proofs.variables.Variables.new.Goals as goal

pub loop-slot-init : goal.loop-slot-init
loop-slot-init c =
    λ n. ap (λ (o : Option Variable). option_or o (variable_in 0 c.args.locals.now n)) (nothing_kept c.new.result (λ key. nat_eq n key) c.new.ensures.empty)

pub loop-slot-preserved : goal.loop-slot-preserved
loop-slot-preserved c =
    let locals = c.args.locals.now in
    let k = c.loop-slot.slot in
    let local = c.index-locals-slot.result in
    λ n.
    variables_step (variables_kept c.loop-slot.kept) (variables_kept c.add.new.self) locals k local
    (drop_here locals locals k local (λ i. locals) c.loop-slot-test.true c.index-locals-slot.is) c.in_ok-add.ensures n
    ∙ c.loop-slot.invariant n

pub returns : goal.returns
returns c =
    let locals = c.args.locals.now in
    let k = c.loop-slot.slot in
    λ i n.
    (sym (or_none (variables_kept c.loop-slot.kept n))
    ∙ ap (λ (rest : List Local). option_or (variables_kept c.loop-slot.kept n) (variable_in k rest n)) (sym (drop_all k locals c.loop-slot-test.false))
    ∙ c.loop-slot.invariant n) i
