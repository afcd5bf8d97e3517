use Rattle.px_names.specs.Meanings.{meaning_of}
use Rattle.px_names.proofs.NameLaws.{one_thing, names_known, declarations_single, functions_single}
use Rattle.px_names.proofs.laws.names_stand_for_one.Goals as goal

pub returns : goal.returns
returns c = record {
  once = λ names function name a b first also. one_thing (meaning_of names function name) a b first also;
  known = λ m accepted. names_known m accepted;
  declarations = λ m accepted. declarations_single m accepted;
  functions = λ m accepted. functions_single m accepted;
}
