use Rattle.std.proofs.Common.{rules, [], ◌∷◌, refl, FitsSigned}
use Rattle.std.specs.Prelude.{codes}
use Rattle.std.specs.Int.{w128}
use Rattle.std.proofs.lemmas.Int.{to_z-of_z}
use Rattle.std.specs.Fmt.{signed_decimal}
use Rattle.px_cli.specs.FirstMeaning.{Calls, Does}
use Rattle.px_cli.specs.LineEnds.{with_line_end}
use Rattle.px_cli.proofs.DoesLemmas.{print_told, print_fails}
use Rattle.px_cli.proofs.statements.print.Goals as goal

pub returns-in_default : goal.returns-in_default
returns-in_default c = λ then printed does.
    let told = print_told c.args.call.now c.requires.stands does in
    c.in_default.ensures told.argument told.is told.unnamed

pub returns-in_default-value_of_sum : goal.returns-in_default-value_of_sum
returns-in_default-value_of_sum c = λ then printed does.
    print_fails c.args.call.now c.in-Some.argument.now c.requires.stands c.in-Some.ensures.0 c.in_default-value_of_sum.ensures.value does

pub returns : goal.returns
returns c =
    let fits : FitsSigned w128 c.in-Some-value_of_sum.value = search rules in
    let calls : Calls (codes "print") c.args.statement.now (c.in-Some.argument.now ∷ []) = record { call = c.args.call.now; stands = c.requires.stands; is = c.in-Some.ensures.0 } in (
      with_line_end (signed_decimal c.in-Some-value_of_sum.value),
      Does.prints c.in-Some.argument.now c.in-Some-value_of_sum.value calls c.in-Some.ensures.1 c.in-Some-value_of_sum.ensures.value refl refl,
      rw (to_z-of_z w128 c.in-Some-value_of_sum.value fits) at c.in_ok-print_number.ensures,
    )
