-- What the program keeps of parts and operands, as plain data.
use Rattle.std.specs.Prelude.{◌≡◌, List, [], ◌∷◌, ◌++◌, map, Option, Some, None, Result, Ok, Err}
use Rattle.px_base.specs.declared.refusals.Refusal.{Refusal}
use Rattle.px_base.specs.declared.refusals.Span.{Span}
use Rattle.px_base.specs.declared.refusals.Trouble.{Trouble}
use Rattle.px_base.specs.declared.refusals.Trouble.TheVariants.{Refused, NoMemory}
use Rattle.px_base.specs.declared.c_types.CType.{CType}
use Rattle.px_tree.specs.declared.typed_trees.TypedTree.{TypedTree}
use Rattle.px_typed_walk.specs.TypedView.{TypedRose, rose_of_typed}
use Rattle.px_operators.specs.declared.gathering.Part.{Part}
use Rattle.px_operators.specs.declared.gathering.Part.TheVariants as part
use Rattle.px_operators.specs.declared.gathering.Gathered.{Gathered}
use Rattle.px_operators.specs.declared.operands.Operand.{Operand}
use Rattle.px_operators.specs.Outcomes.{Outcome, misfit, mapped, both, earlier}

-- Trees, parts and operands

abbrev pub trees_kept : List TypedTree → List TypedRose
trees_kept trees = map rose_of_typed trees

abbrev pub part_kept : Part → Outcome TypedRose
part_kept (part.Typed tree) = Ok (rose_of_typed tree)
part_kept (part.Broken refusal) = Err refusal

abbrev pub parts_kept : List Part → List (Outcome TypedRose)
parts_kept parts = map part_kept parts

abbrev pub operand_kept : Operand → TypedRose × CType
operand_kept operand = (rose_of_typed operand.tree, operand.c_type)

abbrev pub operands_kept : List Operand → List (TypedRose × CType)
operands_kept operands = map operand_kept operands

-- What some parts came to

abbrev pub unless_broken : {A : Type 0} → Option Refusal → A → Outcome A
unless_broken None a = Ok a
unless_broken (Some refusal) a = Err refusal

abbrev pub gathered_kept : {T : Type 0} → Gathered T → Outcome (List T)
gathered_kept gathered = unless_broken gathered.broken gathered.items.items

-- one more behind those so far
abbrev pub with_one : {A : Type 0} → Outcome (List A) → Outcome A → Outcome (List A)
with_one so_far next = mapped (λ parts. parts.0 ++ parts.1 ∷ []) (both so_far next)

-- what was gathered before and behind this answer
abbrev pub Takes : {T : Type 0} → Result T Trouble → Outcome (List T) → Outcome (List T) → Type 0
Takes (Ok value) before behind = behind ≡ with_one before (Ok value)
Takes (Err (Refused refusal)) before behind = behind ≡ with_one before (Err refusal)
Takes (Err NoMemory) before behind = ⊥

-- all that is gathered, where these are still to come
abbrev pub gathers : {A : Type 0} → Outcome (List A) → List (Outcome A) → Outcome (List A)
gathers so_far [] = so_far
gathers so_far (outcome ∷ outcomes) = gathers (with_one so_far outcome) outcomes

-- Answers that are joined

abbrev pub both_answers : {A B : Type 0} → Result A Trouble → Result B Trouble → Result (A × B) Trouble
both_answers (Ok a) (Ok b) = Ok (a, b)
both_answers (Err NoMemory) b = Err NoMemory
both_answers (Ok a) (Err trouble) = Err trouble
both_answers (Err (Refused refusal)) (Ok b) = Err (Refused refusal)
both_answers (Err (Refused refusal)) (Err (Refused other)) = Err (Refused (earlier refusal other))
both_answers (Err (Refused refusal)) (Err NoMemory) = Err NoMemory

abbrev pub refused_answer : {T : Type 0} → Span → Result T Trouble → Trouble
refused_answer at (Ok value) = Refused (misfit at)
refused_answer at (Err (Refused refusal)) = Refused (earlier refusal (misfit at))
refused_answer at (Err NoMemory) = NoMemory
