use Rattle.std.proofs.Common.{◌≡◌, ◌++◌, drop, map}
use Rattle.std.specs.Prelude.{flat_map}
use Rattle.px_walk.specs.StmtView.{rose_of_stmt}
use Rattle.px_environments.specs.Signatures.{local_of_param, locals_of_statement, locals_of}
use Rattle.px_environments.proofs.locals.locals_of.Given as goal

abbrev pub invariant-loop-param : goal.invariant-loop-param
invariant-loop-param l = l.locals ++ map local_of_param (drop l.param-index l.function.params) ≡ map local_of_param l.function.params

abbrev pub invariant-loop-statement : goal.invariant-loop-statement
invariant-loop-statement l =
    l.locals ++ flat_map (λ s. locals_of_statement (rose_of_stmt s)) (drop l.statement-index l.function.body) ≡ locals_of l.function
