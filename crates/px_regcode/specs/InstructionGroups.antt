-- Groups of instructions with operands, so that a function over instructions can be written in parts.
use Rattle.std.specs.Prelude.{Bool, true, false}
use Rattle.px_regcode.specs.declared.instructions.Instr.{Instr}
use Rattle.px_regcode.specs.declared.instructions.Instr.TheVariants as instr

-- for numbers, order, calls and faults of a frame
abbrev pub is_flow : Instr → Bool
is_flow (instr.Const d n) = true
is_flow (instr.Move d a) = true
is_flow (instr.Binary op t d a b truncates) = true
is_flow (instr.Unary op t d a) = true
is_flow (instr.Compare op t d a b) = true
is_flow (instr.Convert t d a) = true
is_flow (instr.Magnitude t d a) = true
is_flow (instr.Jump k) = true
is_flow (instr.Branch a k j) = true
is_flow (instr.Call f d arguments) = true
is_flow (instr.Return a) = true
is_flow (instr.Handle k) = true
is_flow (instr.Caught a) = true
is_flow (instr.Takes a kinds k) = true
is_flow (instr.Forget a) = true
is_flow (instr.Unset a) = true
is_flow (instr.Need a) = true
is_flow i = false

-- for views and parallel loops
abbrev pub is_view : Instr → Bool
is_view (instr.Element t d a indices) = true
is_view (instr.Put t a indices b) = true
is_view (instr.Pick d a axis i wraps) = true
is_view (instr.Slice d a axis b c e) = true
is_view (instr.Axis d a n) = true
is_view (instr.Turned d a) = true
is_view (instr.Extent d a n) = true
is_view (instr.Ordered a order) = true
is_view (instr.Acquire a) = true
is_view (instr.Release a) = true
is_view (instr.Fill d a) = true
is_view (instr.Spread d a) = true
is_view (instr.Loop n d k) = true
is_view (instr.Stop kind a) = true
is_view (instr.Reduce op t x a) = true
is_view (instr.Members a) = true
is_view i = false

-- for constants, conversions, names, references and operators of objects
abbrev pub is_value : Instr → Bool
is_value (instr.Text d n) = true
is_value (instr.Wide d n) = true
is_value (instr.Box t d a) = true
is_value (instr.Unbox t d a) = true
is_value (instr.Truth d a) = true
is_value (instr.Fetch d n) = true
is_value (instr.Keep n a) = true
is_value (instr.Share d a) = true
is_value (instr.Drop a) = true
is_value (instr.ObjectBinary op d a b) = true
is_value (instr.ObjectUnary op d a) = true
is_value (instr.ObjectCompare op d a b) = true
is_value (instr.ObjectIn d a b) = true
is_value (instr.ObjectGet d a b) = true
is_value (instr.ObjectSet d a b) = true
is_value (instr.ObjectCut d a b c e) = true
is_value i = false

-- for displays, methods, builtins, loops, arrays and faults of objects
abbrev pub is_builtin : Instr → Bool
is_builtin (instr.List d arguments) = true
is_builtin (instr.Tuple d arguments) = true
is_builtin (instr.Dict d arguments) = true
is_builtin (instr.Unpack n a items) = true
is_builtin (instr.Method m d a arguments) = true
is_builtin (instr.Builtin m d arguments) = true
is_builtin (instr.Print arguments) = true
is_builtin (instr.Input d arguments) = true
is_builtin (instr.Raise kind a) = true
is_builtin (instr.Walk d a b) = true
is_builtin (instr.Next d a x k) = true
is_builtin (instr.Array d arguments) = true
is_builtin (instr.View t d a rank) = true
is_builtin (instr.Copy d a) = true
is_builtin (instr.Said d a) = true
is_builtin (instr.Rethrow a) = true
is_builtin i = false
