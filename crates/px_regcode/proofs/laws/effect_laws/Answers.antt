use Rattle.px_regcode.proofs.Handing.{made_is_changed, derived_is_changed}
use Rattle.px_regcode.proofs.Readings.{asked_all}
use Rattle.px_regcode.proofs.laws.effect_laws.Goals as goal

pub returns-clause-asked : goal.returns-clause-asked
returns-clause-asked c = asked_all

pub returns-clause-made : goal.returns-clause-made
returns-clause-made c = made_is_changed

pub returns-clause-derived : goal.returns-clause-derived
returns-clause-derived c = derived_is_changed
