-- Typed trees by hand, for examples, and what the modules of examples do.
use Rattle.std.specs.Prelude.{◌≡◌, ℕ, ℤ, pos, true, false, List, [], ◌∷◌, Some}
use Rattle.px_base.specs.declared.c_types.CType.{CType}
use Rattle.px_base.specs.declared.c_types.CType.TheVariants as c
use Rattle.px_base.specs.declared.c_types.BinOp.{BinOp}
use Rattle.px_base.specs.declared.c_types.UnOp.{UnOp}
use Rattle.px_base.specs.declared.c_types.CmpOp.{CmpOp}
use Rattle.px_base.specs.declared.objects.Builtin.TheVariants as builtin
use Rattle.px_tree.specs.declared.modules.Lock.TheVariants as lock
use Rattle.px_tree.specs.declared.typed_values.ValueType.{ValueType}
use Rattle.px_tree.specs.declared.typed_values.ValueType.TheVariants as value
use Rattle.px_tree.specs.declared.typed_values.Conversion.TheVariants as conversion
use Rattle.px_tree.specs.declared.typed_values.Comparing.TheVariants as comparing
use Rattle.px_tree.specs.declared.typed_heads.TypedHead.{TypedHead}
use Rattle.px_tree.specs.declared.typed_heads.TypedHead.TheVariants as head
use Rattle.px_typed_walk.specs.TypedView.{TypedRose, typed_node}
use Rattle.px_model.specs.declared.outcomes.End.{End}
use Rattle.px_model.specs.declared.outcomes.End.TheVariants as end
use Rattle.px_meaning.specs.Calls.{SourceFunction, Source}
use Rattle.px_meaning.specs.OneWorld.{meaning_in}

abbrev pub node : TypedHead → List TypedRose → TypedRose
node head parts = typed_node head 0 (record { line = 1; column = 1 }) parts

abbrev pub number : CType → ℤ → TypedRose
number t n = node (head.Literal t n) []

abbrev pub long : ℕ → TypedRose
long n = number c.Long (pos n)

abbrev pub local : ℕ → CType → TypedRose
local slot t = node (head.Local slot (value.C t)) []

abbrev pub given : CType → TypedRose
given t = node (head.Given (value.C t)) []

abbrev pub unary : UnOp → CType → TypedRose → TypedRose
unary op t e = node (head.Unary op t) (e ∷ [])

abbrev pub binary : BinOp → CType → TypedRose → TypedRose → TypedRose
binary op t a b = node (head.Binary op t false) (a ∷ b ∷ [])

abbrev pub truncating : BinOp → CType → TypedRose → TypedRose → TypedRose
truncating op t a b = node (head.Binary op t true) (a ∷ b ∷ [])

abbrev pub compare : CmpOp → CType → TypedRose → TypedRose → TypedRose
compare op t a b = node (head.Compare (comparing.C op t)) (a ∷ b ∷ [])

abbrev pub to : CType → TypedRose → TypedRose
to t e = node (head.Converted (conversion.ToC t)) (e ∷ [])

abbrev pub cast : CType → TypedRose → TypedRose
cast t e = node (head.Cast (value.C t)) (to t e ∷ [])

abbrev pub box : CType → TypedRose → TypedRose
box t e = node (head.Converted (conversion.ToObject t)) (e ∷ [])

abbrev pub alone : TypedRose → TypedRose
alone e = node head.Expression (e ∷ [])

abbrev pub print : List TypedRose → TypedRose
print objects = alone (node (head.Builtin builtin.Print) objects)

-- `print` of one long
abbrev pub print_long : TypedRose → TypedRose
print_long e = print (box c.Long e ∷ [])

abbrev pub set : ℕ → CType → TypedRose → TypedRose
set slot t e = node head.Assign (local slot t ∷ e ∷ [])

abbrev pub declare : ℕ → CType → TypedRose → TypedRose
declare slot t e = node head.Declare (node (head.Declarator slot (value.C t)) (e ∷ []) ∷ [])

abbrev pub call : ℕ → ValueType → List TypedRose → TypedRose
call function t arguments = node (head.Call function t) arguments

abbrev pub give : TypedRose → TypedRose
give e = node head.Return (e ∷ [])

abbrev pub arm : TypedRose → List TypedRose → TypedRose
arm test body = node head.Arm (test ∷ body)

abbrev pub pass : TypedRose
pass = node head.Pass []

-- A function with so many variables, a type of its result and statements. The types of its parameters are left out, for which no call
-- asks.
abbrev pub function : ℕ → ValueType → List TypedRose → SourceFunction
function variables gives body =
    record { params = []; variables = variables; gives = gives; is_noexcept = false; lock = lock.Unwritten; body = body }

-- one that swallows its faults, and one that takes the lock
abbrev pub swallowing : ℕ → ValueType → List TypedRose → SourceFunction
swallowing variables gives body = record (function variables gives body) { is_noexcept = true }

abbrev pub with_gil : ℕ → ValueType → List TypedRose → SourceFunction
with_gil variables gives body = record (function variables gives body) { lock = lock.WithGil }

-- a module of code and functions
abbrev pub a_module : List TypedRose → List SourceFunction → Source
a_module code functions = record { code = code; functions = functions; names = 0; constants = [] }

-- a module whose one function `main` has these statements and so many variables, and its call
abbrev pub with_main : ℕ → List TypedRose → Source
with_main variables body = a_module (alone (call 0 value.Object []) ∷ []) (function variables value.Object body ∷ [])

-- the module ends so with these turns, and prints this
abbrev pub Does : Source → ℕ → End → List ℕ → Type 0
Does source turns ends text = meaning_in source [] turns 4 ≡ Some (record { end = ends; output = text; released = [] })

abbrev pub Prints : Source → List ℕ → Type 0
Prints source text = Does source 1000 end.Done text
