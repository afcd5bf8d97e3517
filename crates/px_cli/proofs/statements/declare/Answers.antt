use Rattle.std.proofs.Common.{rules, [], sym, subst, FitsSigned}
use Rattle.std.specs.Int.{w128}
use Rattle.std.proofs.lemmas.Int.{to_z-of_z}
use Rattle.std.proofs.lemmas.List.{append-nil}
use Rattle.px_cli.specs.FirstMeaning.{Assigns}
use Rattle.px_cli.specs.KeptValues.{values_of}
use Rattle.px_cli.proofs.VariableLemmas.{longs_after}
use Rattle.px_cli.proofs.DoesLemmas.{declare_told, declare_fails, declare_does}
use Rattle.px_cli.proofs.statements.declare.Goals as goal

pub returns-in_default-clause-tried : goal.returns-in_default-clause-tried
returns-in_default-clause-tried c = λ output then printed does.
    let told = declare_told c.args.declaration.now c.requires.stands does in
    c.in_default.ensures told.declarator told.one

pub returns-in_default-first_value-clause-tried : goal.returns-in_default-first_value-clause-tried
returns-in_default-first_value-clause-tried c = λ output then printed does.
    declare_fails c.args.declaration.now c.in-Some.declarator.now c.requires.stands c.in-Some.ensures c.in_default-first_value.ensures.value does

-- the variable has its value
set_there : (c : goal.In_ok-set) → Assigns (values_of c.args.variables.now) c.in-Some.declarator.now.name c.in-Some-first_value.value (values_of c.set.new.self)
set_there c =
    let fits : FitsSigned w128 c.in-Some-first_value.value = search rules in
    subst (λ x. Assigns (values_of c.args.variables.now) x c.in-Some-first_value.value (values_of c.set.new.self)) c.as_slice.ensures (rw (to_z-of_z w128 c.in-Some-first_value.value fits) at c.in_ok-set.ensures)

pub returns-clause-tried : goal.returns-clause-tried
returns-clause-tried c = λ output. ([], declare_does c.in-Some.declarator.now c.in-Some-first_value.value c.in-Some.ensures c.in-Some-first_value.ensures.value (set_there c), sym (append-nil output))

pub returns-clause-longs : goal.returns-clause-longs
returns-clause-longs c = longs_after c.requires.longs c.in-Some-first_value.ensures.long (set_there c)
