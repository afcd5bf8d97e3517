-- What the forms of expressions show by themselves.
use Rattle.std.specs.Prelude.{ℕ, Bool, true, false, List, [], ◌∷◌, Option, Some, None, ◌^◌, ℤ, pos, int_lt}
use Rattle.px_base.specs.declared.objects.Builtin.TheVariants as builtin
use Rattle.px_walk.specs.Forms.{Form}
use Rattle.px_walk.specs.Forms as form
use Rattle.px_walk.specs.Roses.{head_of, number_of, parts_of}
use Rattle.px_walk.specs.ExprView.{Tree}
use Rattle.px_names.specs.declared.meanings.Meaning.{Meaning}
use Rattle.px_names.specs.declared.meanings.Meaning.TheVariants as meaning
use Rattle.px_environments.specs.Environments.{Environment}
use Rattle.px_base.specs.declared.c_types.CmpOp.{CmpOp}
use Rattle.px_base.specs.declared.c_types.CmpOp.TheVariants as compared
use Rattle.px_tree.specs.declared.expressions.CompareOp.{CompareOp}
use Rattle.px_tree.specs.declared.expressions.CompareOp.TheVariants as comparison

-- what the name at the head of a row stands for

abbrev pub meaning_of_atom : Environment → ℕ → Form → Option Meaning
meaning_of_atom environment number (form.Name name) = environment.meanings number
meaning_of_atom environment number _ = None

abbrev pub atom_meaning : Environment → Tree → Option Meaning
atom_meaning environment atom = meaning_of_atom environment (number_of atom) (head_of atom)

-- Functions, imports and builtins are no values.
abbrev pub is_value : Option Meaning → Bool
is_value (Some (meaning.Function f params)) = false
is_value (Some (meaning.Import imported)) = false
is_value (Some (meaning.Builtin b)) = false
is_value _ = true

-- A literal below 2^63 is a long; a larger one is an object.

abbrev pub is_long : ℤ → Bool
is_long n = int_lt n (pos (2 ^ 63))

-- `range` as the head of a loop is no expression either.

abbrev pub is_range : Option Meaning → Bool
is_range (Some (meaning.Builtin builtin.Range)) = true
is_range _ = false

abbrev pub is_range_row : Environment → List Tree → Bool
is_range_row environment [] = false
is_range_row environment (atom ∷ trailers) = is_range (atom_meaning environment atom)

abbrev pub is_range_head : Environment → Tree → Form → Bool
is_range_head environment tree form.Row = is_range_row environment (parts_of tree)
is_range_head environment tree _ = false

-- A comparison of C operands converts both to the common type. Comparisons chain: a middle operand is evaluated once, and taken in
-- the common type of each comparison.

-- the C comparison that is spelled so; `in` and `is` are steps on objects
abbrev pub c_comparison : CompareOp → Option CmpOp
c_comparison comparison.Less = Some compared.Lt
c_comparison comparison.Greater = Some compared.Gt
c_comparison comparison.LessEqual = Some compared.Le
c_comparison comparison.GreaterEqual = Some compared.Ge
c_comparison comparison.Equal = Some compared.Eq
c_comparison comparison.NotEqual = Some compared.Ne
c_comparison _ = None
