use Rattle.std.proofs.Common.{rules, [], sym, ap, ◌∙◌, subst, FitsSigned, refl}
use Rattle.std.specs.Int.{w128}
use Rattle.std.proofs.lemmas.Int.{to_z-of_z}
use Rattle.std.proofs.lemmas.List.{append-nil}
use Rattle.px_cli.specs.FirstMeaning.{Does, Assigns}
use Rattle.px_cli.specs.KeptValues.{values_of}
use Rattle.px_tree.specs.declared.statements.StmtForm.TheVariants as stmt_form
use Rattle.px_cli.proofs.VariableLemmas.{longs_after, some_there}
use Rattle.px_cli.proofs.DoesLemmas.{assign_told}
use Rattle.px_cli.proofs.statements.assign.Goals as goal

pub returns-in_default-clause-tried : goal.returns-in_default-clause-tried
returns-in_default-clause-tried c = λ output then printed does.
    let told = assign_told c.args.targets.now c.args.given.now c.requires.stands c.requires.some does in
    c.in_default.ensures told.target told.one

pub returns-in_default-value_of_sum-clause-tried : goal.returns-in_default-value_of_sum-clause-tried
returns-in_default-value_of_sum-clause-tried c = λ output then printed does.
    let told = assign_told c.args.targets.now c.args.given.now c.requires.stands c.requires.some does in
    c.in_default-value_of_sum.ensures.value told.value told.sum

-- the variable has its value
set_there : (c : goal.In_ok-set) → Assigns (values_of c.args.variables.now) c.in-Name.name c.in-Some-value_of_sum.value (values_of c.set.new.self)
set_there c =
    let fits : FitsSigned w128 c.in-Some-value_of_sum.value = search rules in
    subst (λ x. Assigns (values_of c.args.variables.now) x c.in-Some-value_of_sum.value (values_of c.set.new.self)) c.as_slice-2.ensures (rw (to_z-of_z w128 c.in-Some-value_of_sum.value fits) at c.in_ok-set.ensures)

pub returns-clause-tried : goal.returns-clause-tried
returns-clause-tried c = λ output.
    let stands = c.requires.stands ∙ ap (λ ts. stmt_form.Assign ts c.args.given.now) c.in-Some.ensures in
    let old = some_there c.value.result c.is_none.result c.is_none.ensures c.if-is_none.false in
    let declared = ap (values_of c.args.variables.now) (sym c.as_slice.ensures) ∙ sym c.value.ensures ∙ old.1 in
    ([], Does.assigns c.in-Some.target.now c.args.given.now c.in-Name.name old.0 c.in-Some-value_of_sum.value stands c.in-Name.is declared c.in-Some-value_of_sum.ensures.value (set_there c) refl, sym (append-nil output))

pub returns-clause-longs : goal.returns-clause-longs
returns-clause-longs c = longs_after c.requires.longs c.in-Some-value_of_sum.ensures.long (set_there c)
