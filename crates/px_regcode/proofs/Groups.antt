-- An instruction in no group has no operands.
use Rattle.std.proofs.Common.{◌≡◌, Bool, true, false, Some, None, [], refl}
use Rattle.std.specs.Prelude.{if◌then◌else◌}
use Rattle.px_regcode.specs.declared.instructions.Instr.{Instr}
use Rattle.px_regcode.specs.declared.instructions.Instr.TheVariants as instr
use Rattle.px_regcode.specs.InstructionGroups.{is_flow, is_view, is_value, is_builtin}
use Rattle.px_regcode.specs.Listing.{operands_of}

pub not_there : {A : Type 0} (holds : Bool) (all : A) → None ≡ (if holds then Some all else None) → holds ≡ false
not_there true all is = absurd cc
not_there false all is = refl

pub none_left : (i : Instr) → is_flow i ≡ false → is_view i ≡ false → is_value i ≡ false → is_builtin i ≡ false → [] ≡ operands_of i
unfolding operands_of
none_left (instr.Const d n) flow view value builtin = cc
none_left (instr.Move d a) flow view value builtin = cc
none_left (instr.Binary op t d a b truncates) flow view value builtin = cc
none_left (instr.Unary op t d a) flow view value builtin = cc
none_left (instr.Compare op t d a b) flow view value builtin = cc
none_left (instr.Convert t d a) flow view value builtin = cc
none_left (instr.Magnitude t d a) flow view value builtin = cc
none_left (instr.Jump k) flow view value builtin = cc
none_left (instr.Branch a k j) flow view value builtin = cc
none_left instr.Turn flow view value builtin = refl
none_left (instr.Call f d arguments) flow view value builtin = cc
none_left (instr.Return a) flow view value builtin = cc
none_left instr.Finish flow view value builtin = refl
none_left (instr.Handle k) flow view value builtin = cc
none_left instr.Unhandle flow view value builtin = refl
none_left instr.Throw flow view value builtin = refl
none_left (instr.Caught a) flow view value builtin = cc
none_left (instr.Takes a kinds k) flow view value builtin = cc
none_left (instr.Forget a) flow view value builtin = cc
none_left (instr.Unset a) flow view value builtin = cc
none_left (instr.Need a) flow view value builtin = cc
none_left (instr.Element t d a indices) flow view value builtin = cc
none_left (instr.Put t a indices b) flow view value builtin = cc
none_left (instr.Pick d a axis i wraps) flow view value builtin = cc
none_left (instr.Slice d a axis b c e) flow view value builtin = cc
none_left (instr.Axis d a n) flow view value builtin = cc
none_left (instr.Turned d a) flow view value builtin = cc
none_left (instr.Extent d a n) flow view value builtin = cc
none_left (instr.Ordered a order) flow view value builtin = cc
none_left (instr.Acquire a) flow view value builtin = cc
none_left (instr.Release a) flow view value builtin = cc
none_left (instr.Fill d a) flow view value builtin = cc
none_left (instr.Spread d a) flow view value builtin = cc
none_left instr.Ticket flow view value builtin = refl
none_left instr.Enter flow view value builtin = refl
none_left instr.Leave flow view value builtin = refl
none_left (instr.Loop n d k) flow view value builtin = cc
none_left instr.Look flow view value builtin = refl
none_left instr.Claim flow view value builtin = refl
none_left instr.Begin flow view value builtin = refl
none_left instr.End flow view value builtin = refl
none_left (instr.Stop kind a) flow view value builtin = cc
none_left (instr.Reduce op t x a) flow view value builtin = cc
none_left (instr.Members a) flow view value builtin = cc
none_left (instr.Text d n) flow view value builtin = cc
none_left (instr.Wide d n) flow view value builtin = cc
none_left (instr.Box t d a) flow view value builtin = cc
none_left (instr.Unbox t d a) flow view value builtin = cc
none_left (instr.Truth d a) flow view value builtin = cc
none_left (instr.Fetch d n) flow view value builtin = cc
none_left (instr.Keep n a) flow view value builtin = cc
none_left (instr.Share d a) flow view value builtin = cc
none_left (instr.Drop a) flow view value builtin = cc
none_left (instr.ObjectBinary op d a b) flow view value builtin = cc
none_left (instr.ObjectUnary op d a) flow view value builtin = cc
none_left (instr.ObjectCompare op d a b) flow view value builtin = cc
none_left (instr.ObjectIn d a b) flow view value builtin = cc
none_left (instr.ObjectGet d a b) flow view value builtin = cc
none_left (instr.ObjectSet d a b) flow view value builtin = cc
none_left (instr.ObjectCut d a b c e) flow view value builtin = cc
none_left (instr.List d arguments) flow view value builtin = cc
none_left (instr.Tuple d arguments) flow view value builtin = cc
none_left (instr.Dict d arguments) flow view value builtin = cc
none_left (instr.Unpack n a items) flow view value builtin = cc
none_left (instr.Method m d a arguments) flow view value builtin = cc
none_left (instr.Builtin m d arguments) flow view value builtin = cc
none_left (instr.Print arguments) flow view value builtin = cc
none_left (instr.Input d arguments) flow view value builtin = cc
none_left (instr.Raise kind a) flow view value builtin = cc
none_left (instr.Walk d a b) flow view value builtin = cc
none_left (instr.Next d a x k) flow view value builtin = cc
none_left (instr.Array d arguments) flow view value builtin = cc
none_left (instr.View t d a rank) flow view value builtin = cc
none_left (instr.Copy d a) flow view value builtin = cc
none_left (instr.Said d a) flow view value builtin = cc
none_left (instr.Rethrow a) flow view value builtin = cc
