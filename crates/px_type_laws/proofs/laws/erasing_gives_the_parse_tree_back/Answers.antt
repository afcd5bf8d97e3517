use Rattle.px_type_laws.proofs.ErasedExpressions.{expression_erased}
use Rattle.px_type_laws.proofs.ErasedModules.{function_erased, module_erased}
use Rattle.px_type_laws.proofs.ErasedStatements.{statement_erased}
use Rattle.px_type_laws.proofs.laws.erasing_gives_the_parse_tree_back.Goals as goal

pub returns-clause-expressions : goal.returns-clause-expressions
returns-clause-expressions c = expression_erased

pub returns-clause-statements : goal.returns-clause-statements
returns-clause-statements c = statement_erased

pub returns-clause-functions : goal.returns-clause-functions
returns-clause-functions c = function_erased

pub returns-clause-modules : goal.returns-clause-modules
returns-clause-modules c = module_erased
