-- What each instruction that a member runs comes to, by the forms of Forms.antt.
use Rattle.std.proofs.Common.{◌≡◌, ℕ, ◌+◌, Bool, true, false, if◌then◌else◌, refl, arith}
use Rattle.std.proofs.Common.{ℤ, slice_get, Some, None}
use Rattle.px_base.specs.declared.c_types.CType.{CType}
use Rattle.px_base.specs.declared.c_types.BinOp.{BinOp}
use Rattle.px_base.specs.declared.c_types.BinOp.TheVariants as op
use Rattle.px_ctypes.specs.Operators.{binary_value}
use Rattle.px_ctypes.specs.Conversions.{converted}
use Rattle.px_regcode.specs.declared.operands.Register.{Register}
use Rattle.px_regcode.specs.declared.instructions.Instr.{Instr}
use Rattle.px_regcode.specs.declared.instructions.Instr.TheVariants as instr
use Rattle.px_regcode.specs.Images.{ImageParts}
use Rattle.px_regcode.specs.Effects.{may_fault}
use Rattle.px_regcode.specs.Facts.{done, successors, frame_done, frame_after}
use Rattle.px_meaning.specs.Objects.{new_object, constant_object, boxed, fetched}
use Rattle.px_machine.specs.Running.{is_run}
use Rattle.px_machine.specs.Slots.{empty, object, Member, going_to, slot_of}
use Rattle.px_machine.specs.Steps.{went}
use Rattle.px_machine.specs.Machine.{act, sets_or_faults}
use Rattle.px_machine.specs.Machine.{objects_at}
use Rattle.px_run.proofs.Forms.{Comes, nowhere, along, unwinds, gives, second_fault, first_fault, by_number, by_fault}
use Rattle.px_run.proofs.Forms.{by_object, by_store, by_constant, by_turns, next_here, set_by, set_here, set_stored, fault_by}
use Rattle.px_run.proofs.Forms.{by_result, by_made, by_moved, by_given, by_need, by_dropped, by_printed, by_call}

-- ---- arithmetic and branches

-- those operators that may fault go on at the handler
by_binary : (image : ImageParts) (m : Member) (o : BinOp) (t : CType) (d a b : Register) (truncates : Bool) (x y : ℤ)
    → Comes image (instr.Binary o t d a b truncates) m (sets_or_faults d (binary_value o t x y truncates) m)
unfolding successors frame_done frame_after may_fault
by_binary image m op.Add t d a b truncates x y = set_here ((0, omega arith, refl), refl, refl) d _
by_binary image m op.Sub t d a b truncates x y = set_here ((0, omega arith, refl), refl, refl) d _
by_binary image m op.Mul t d a b truncates x y = set_here ((0, omega arith, refl), refl, refl) d _
by_binary image m op.FloorDiv t d a b truncates x y = by_result ((0, omega arith, refl), refl, refl) second_fault d _
by_binary image m op.Mod t d a b truncates x y = by_result ((0, omega arith, refl), refl, refl) second_fault d _
by_binary image m op.Shl t d a b truncates x y = by_result ((0, omega arith, refl), refl, refl) second_fault d _
by_binary image m op.Shr t d a b truncates x y = by_result ((0, omega arith, refl), refl, refl) second_fault d _
by_binary image m op.BitAnd t d a b truncates x y = set_here ((0, omega arith, refl), refl, refl) d _
by_binary image m op.BitOr t d a b truncates x y = set_here ((0, omega arith, refl), refl, refl) d _
by_binary image m op.BitXor t d a b truncates x y = set_here ((0, omega arith, refl), refl, refl) d _

by_branch : (image : ImageParts) (a : Register) (k j : ℕ) (m : Member) (b : Bool)
    → Comes image (instr.Branch a k j) m (went (going_to (if b then j else k) m))
unfolding successors frame_done frame_after
by_branch image a k j m true = along done (record m.frame { pc = j }) m.rest refl (1, omega arith, refl) refl refl
by_branch image a k j m false = along done (record m.frame { pc = k }) m.rest refl (0, omega arith, refl) refl refl

no_lock : false ≡ true → ⊥
no_lock e = cc

-- ---- instructions

-- an instruction that takes no lock and gives none back
pub comes : (image : ImageParts) (i : Instr) (m : Member) → is_run i ≡ true → Comes image i m (act image i m)
unfolding act successors frame_done frame_after may_fault is_run
comes image (instr.Const d n) m runs = set_here ((0, omega arith, refl), refl, refl) d _
comes image (instr.Move d a) m runs = by_moved ((0, omega arith, refl), refl, refl) d a (slot_of m a)
comes image (instr.Binary o t d a b truncates) m runs =
    by_number (slot_of m a) _ (λ x. by_number (slot_of m b) _ (λ y. by_binary image m o t d a b truncates _ _))
comes image (instr.Unary o t d a) m runs = by_number (slot_of m a) _ (λ x. set_here ((0, omega arith, refl), refl, refl) d _)
comes image (instr.Compare o t d a b) m runs =
    by_number (slot_of m a) _ (λ x. by_number (slot_of m b) _ (λ y. set_here ((0, omega arith, refl), refl, refl) d _))
comes image (instr.Convert t d a) m runs = by_number (slot_of m a) _ (λ x. set_here ((0, omega arith, refl), refl, refl) d _)
comes image (instr.Magnitude t d a) m runs = by_number (slot_of m a) _ (λ x. set_here ((0, omega arith, refl), refl, refl) d _)
comes image (instr.Jump k) m runs = along done (record m.frame { pc = k }) m.rest refl (0, omega arith, refl) refl refl
comes image (instr.Branch a k j) m runs = by_number (slot_of m a) _ (λ x. by_branch image a k j m _)
comes image instr.Turn m runs = by_turns _ m.rest.turns refl
    (λ left e. along done (record m.frame { pc = m.frame.pc + 1 }) (record m.rest { turns = left }) refl (0, omega arith, refl) refl e)
comes image (instr.Call f d arguments) m runs =
    by_call (record { callee = f; result = d; arguments = arguments; is = refl }) refl second_fault f (slice_get image.codes f) refl d arguments _
comes image (instr.Return a) m runs = by_given (slot_of m a)
comes image instr.Finish m runs = gives empty
comes image (instr.Handle k) m runs =
    along done (record m.frame { pc = m.frame.pc + 1; handler = Some k }) m.rest refl (0, omega arith, refl) refl refl
comes image instr.Unhandle m runs = along done (record m.frame { pc = m.frame.pc + 1; handler = None }) m.rest refl (0, omega arith, refl) refl refl
comes image instr.Throw m runs = unwinds _ m.rest (omega arith)
comes image (instr.Caught d) m runs = set_by ((0, omega arith, refl), refl, refl) d _ (record m.frame { caught = None }) m.rest refl refl refl refl
comes image (instr.Takes a kinds k) m runs = nowhere
comes image (instr.Forget a) m runs = by_fault (slot_of m a) _ (λ f. set_here ((0, omega arith, refl), refl, refl) a empty)
comes image (instr.Unset d) m runs = set_here ((0, omega arith, refl), refl, refl) d empty
comes image (instr.Need a) m runs = by_need ((0, omega arith, refl), refl, refl) second_fault (slot_of m a)
comes image (instr.Element t d a indices) m runs = nowhere
comes image (instr.Put t a indices b) m runs = nowhere
comes image (instr.Pick d a axis x wraps) m runs = nowhere
comes image (instr.Slice d a axis b c e) m runs = nowhere
comes image (instr.Axis d a n) m runs = nowhere
comes image (instr.Turned d a) m runs = nowhere
comes image (instr.Extent d a axis) m runs = nowhere
comes image (instr.Ordered a order) m runs = nowhere
comes image (instr.Acquire a) m runs = nowhere
comes image (instr.Release a) m runs = nowhere
comes image (instr.Fill a b) m runs = nowhere
comes image (instr.Spread d a) m runs = nowhere
comes image instr.Ticket m runs = next_here ((0, omega arith, refl), refl, refl)
comes image instr.Enter m runs = absurd (no_lock runs)
comes image instr.Leave m runs = absurd (no_lock runs)
comes image (instr.Loop n d k) m runs = nowhere
comes image instr.Look m runs = nowhere
comes image instr.Claim m runs = nowhere
comes image instr.Begin m runs = nowhere
comes image instr.End m runs = nowhere
comes image (instr.Stop kind a) m runs = nowhere
comes image (instr.Reduce o t x a) m runs = nowhere
comes image (instr.Members d) m runs = set_here ((0, omega arith, refl), refl, refl) d _
comes image (instr.Text d n) m runs =
    by_constant _ _ (λ what. by_made ((0, omega arith, refl), refl, refl) second_fault d (new_object (constant_object what)))
comes image (instr.Wide d n) m runs =
    by_constant _ _ (λ what. by_made ((0, omega arith, refl), refl, refl) second_fault d (new_object (constant_object what)))
comes image (instr.Box t d a) m runs =
    by_number (slot_of m a) _ (λ x. by_made ((0, omega arith, refl), refl, refl) second_fault d (new_object (boxed t (converted t x))))
comes image (instr.Unbox t d a) m runs = nowhere
comes image (instr.Truth d a) m runs = nowhere
comes image (instr.Fetch d n) m runs = by_made ((0, omega arith, refl), refl, refl) second_fault d (fetched n)
comes image (instr.Keep n a) m runs =
    by_object (slot_of m a) _ (λ serial. by_store m.rest.store _ (λ store. set_stored ((0, omega arith, refl), refl, refl) a empty _))
comes image (instr.Share d a) m runs =
    by_object (slot_of m a) _ (λ serial. by_store m.rest.store _ (λ store. set_here ((0, omega arith, refl), refl, refl) d (object serial)))
comes image (instr.Drop a) m runs = by_store m.rest.store _ (λ store. by_dropped ((0, omega arith, refl), refl, refl) a (slot_of m a))
comes image (instr.ObjectBinary o d a b) m runs = nowhere
comes image (instr.ObjectUnary o d a) m runs = nowhere
comes image (instr.ObjectCompare o d a b) m runs = nowhere
comes image (instr.ObjectIn d a b) m runs = nowhere
comes image (instr.ObjectGet d a b) m runs = nowhere
comes image (instr.ObjectSet a b c) m runs = nowhere
comes image (instr.ObjectCut d a b c e) m runs = nowhere
comes image (instr.List d arguments) m runs = nowhere
comes image (instr.Tuple d arguments) m runs = nowhere
comes image (instr.Dict d arguments) m runs = nowhere
comes image (instr.Unpack n a items) m runs = nowhere
comes image (instr.Method name d a arguments) m runs = nowhere
comes image (instr.Builtin name d arguments) m runs = nowhere
comes image (instr.Print arguments) m runs = by_printed ((0, omega arith, refl), refl, refl) second_fault (objects_at m.frame.registers arguments)
comes image (instr.Input d arguments) m runs = nowhere
comes image (instr.Raise kind a) m runs = nowhere
comes image (instr.Walk d x a) m runs = nowhere
comes image (instr.Next d a x k) m runs = nowhere
comes image (instr.Array d arguments) m runs = nowhere
comes image (instr.View t d a rank) m runs = nowhere
comes image (instr.Copy d a) m runs = nowhere
comes image (instr.Said d a) m runs = nowhere
comes image (instr.Rethrow a) m runs =
    by_fault (slot_of m a) _ (λ f. by_store m.rest.store _ (λ store. fault_by first_fault f m.rest refl (omega arith)))
