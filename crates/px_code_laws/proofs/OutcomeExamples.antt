-- Modules without an outcome, since a `return` stands in their code.
use Rattle.std.proofs.Common.{◌≡◌, [], ◌∷◌, None, refl}
use Rattle.px_base.specs.declared.c_types.CType.TheVariants as c
use Rattle.px_tree.specs.declared.typed_heads.TypedHead.TheVariants as head
use Rattle.px_walk.specs.Roses.{gathered}
use Rattle.px_meaning.specs.OneWorld.{meaning_in}
use Rattle.px_meaning.specs.Modules.{module_run}
use Rattle.px_meaning.specs.Statements.{exec, exec_by}
use Rattle.px_meaning.proofs.Trees.{node, long, declare, give, a_module}
use Rattle.px_code_laws.specs.Outcomes.{HaveNoReturn}

returns_nothing : meaning_in (a_module (node head.Return [] ∷ []) []) [] 9 1 ≡ None
unfolding meaning_in module_run exec exec_by
returns_nothing = refl

it_is_one : HaveNoReturn (gathered (node head.Return [] ∷ [])) → ⊥
it_is_one plain = plain.0

-- one among others, and one in another statement

among_others : HaveNoReturn (gathered (declare 0 c.Long (long 6) ∷ give (long 7) ∷ [])) → ⊥
among_others plain = plain.1.0

inside : HaveNoReturn (gathered (node head.While (long 1 ∷ give (long 7) ∷ []) ∷ [])) → ⊥
inside plain = plain.0.1.0

others : HaveNoReturn (gathered (declare 0 c.Long (long 6) ∷ node head.While (long 1 ∷ node head.Break [] ∷ []) ∷ []))
others = ((tt, tt), ((tt, (tt, tt)), tt))
