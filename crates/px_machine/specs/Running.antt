-- The instructions that a member runs: those that make no request of what it shares with others, and whose rows are defined.
use Rattle.std.specs.Prelude.{◌≡◌, ℕ, Bool, true, false, List, [], ◌∷◌}
use Rattle.px_base.specs.declared.c_types.CType.{CType}
use Rattle.px_base.specs.declared.c_types.CType.TheVariants as c
use Rattle.px_regcode.specs.declared.operands.Register.{Register}
use Rattle.px_regcode.specs.declared.instructions.Instr.{Instr}
use Rattle.px_regcode.specs.declared.instructions.Instr.TheVariants as instr
use Rattle.px_regcode.specs.Images.{ImageParts, IsAt}

-- the operands of arithmetic have any C type but bint
abbrev pub is_arithmetic : CType → Bool
is_arithmetic c.Bint = false
is_arithmetic t = true

-- calls give no arguments
abbrev pub are_none : List Register → Bool
are_none [] = true
are_none (a ∷ arguments) = false

unfoldable pub is_run : Instr → Bool
is_run (instr.Const d n) = true
is_run (instr.Move d a) = true
is_run (instr.Binary op t d a b truncates) = is_arithmetic t
is_run (instr.Unary op t d a) = is_arithmetic t
is_run (instr.Compare op t d a b) = true
is_run (instr.Convert t d a) = true
is_run (instr.Magnitude t d a) = is_arithmetic t
is_run (instr.Jump k) = true
is_run (instr.Branch a k j) = true
is_run instr.Turn = true
is_run (instr.Call f d arguments) = are_none arguments
is_run (instr.Return a) = true
is_run instr.Finish = true
is_run (instr.Handle k) = true
is_run instr.Unhandle = true
is_run instr.Throw = true
is_run (instr.Caught d) = true
is_run (instr.Takes a kinds k) = false
is_run (instr.Forget a) = true
is_run (instr.Unset d) = true
is_run (instr.Need a) = true
is_run (instr.Element t d a indices) = false
is_run (instr.Put t a indices b) = false
is_run (instr.Pick d a axis i wraps) = false
is_run (instr.Slice d a axis b c e) = false
is_run (instr.Axis d a n) = false
is_run (instr.Turned d a) = false
is_run (instr.Extent d a axis) = false
is_run (instr.Ordered a order) = false
is_run (instr.Acquire a) = false
is_run (instr.Release a) = false
is_run (instr.Fill a b) = false
is_run (instr.Spread d a) = false
is_run instr.Ticket = false
is_run instr.Enter = false
is_run instr.Leave = false
is_run (instr.Loop n d k) = false
is_run instr.Look = false
is_run instr.Claim = false
is_run instr.Begin = false
is_run instr.End = false
is_run (instr.Stop kind a) = false
is_run (instr.Reduce op t x a) = false
is_run (instr.Members d) = true
is_run (instr.Text d n) = true
is_run (instr.Wide d n) = true
is_run (instr.Box t d a) = true
is_run (instr.Unbox t d a) = false
is_run (instr.Truth d a) = false
is_run (instr.Fetch d n) = false
is_run (instr.Keep n a) = false
is_run (instr.Share d a) = true
is_run (instr.Drop a) = true
is_run (instr.ObjectBinary op d a b) = false
is_run (instr.ObjectUnary op d a) = false
is_run (instr.ObjectCompare op d a b) = false
is_run (instr.ObjectIn d a b) = false
is_run (instr.ObjectGet d a b) = false
is_run (instr.ObjectSet a b c) = false
is_run (instr.ObjectCut d a b c e) = false
is_run (instr.List d arguments) = false
is_run (instr.Tuple d arguments) = false
is_run (instr.Dict d arguments) = false
is_run (instr.Unpack n a items) = false
is_run (instr.Method m d a arguments) = false
is_run (instr.Builtin m d arguments) = false
is_run (instr.Print arguments) = true
is_run (instr.Input d arguments) = false
is_run (instr.Raise kind a) = false
is_run (instr.Walk d x a) = false
is_run (instr.Next d a x k) = false
is_run (instr.Array d arguments) = false
is_run (instr.View t d a rank) = false
is_run (instr.Copy d a) = false
is_run (instr.Said d a) = false
is_run (instr.Rethrow a) = false

-- each instruction of an image runs
abbrev pub AllRun : ImageParts → Type 0
AllRun image = (function pc : ℕ) (i : Instr) → IsAt image function pc i → is_run i ≡ true
