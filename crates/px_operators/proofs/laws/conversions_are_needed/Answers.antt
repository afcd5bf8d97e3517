use Rattle.px_base.specs.declared.c_types.CType.TheVariants as c_type
use Rattle.px_tree.specs.declared.typed_values.ValueType.TheVariants as value
use Rattle.px_operators.proofs.ConversionLaws.{equal_types, conversion_gives, conversions_differ, fitted_type, fitted_stays}
use Rattle.px_operators.proofs.laws.conversions_are_needed.Goals as goal

pub returns-clause-differ : goal.returns-clause-differ
returns-clause-differ c = conversions_differ

pub returns-clause-gives : goal.returns-clause-gives
returns-clause-gives c = conversion_gives

pub returns-clause-equal : goal.returns-clause-equal
returns-clause-equal c = equal_types

pub returns-clause-stays : goal.returns-clause-stays
returns-clause-stays c = fitted_stays

pub returns-clause-made : goal.returns-clause-made
returns-clause-made c = fitted_type

pub returns-clause-test : goal.returns-clause-test
returns-clause-test c = fitted_type (value.C c_type.Bint)
