-- What an instruction that a member runs may come to: the frame goes on at a follower of the instruction, or a frame above or below it
-- does, or the member ends.
use Rattle.std.proofs.Common.{◌≡◌, ℕ, zero, suc, ◌+◌, ◌≤◌, Bool, true, false, if◌then◌else◌, refl, sym, ap, ◌∙◌, subst, arith}
use Rattle.std.proofs.Common.{ℤ, pos, List, ◌∷◌, slice_get, Option, Some, None, Result, Ok, Err, Contains}
use Rattle.px_base.specs.declared.objects.Constant.{Constant}
use Rattle.px_base.specs.declared.faults.Fault.{Fault}
use Rattle.px_base.specs.declared.faults.Kind.TheVariants.{RecursionError}
use Rattle.px_ctypes.specs.Operators.{fault_of}
use Rattle.px_model.specs.declared.stores.Store.{Store}
use Rattle.px_regcode.specs.declared.operands.Register.{Register}
use Rattle.px_regcode.specs.declared.codes.Code.{Code}
use Rattle.px_regcode.specs.declared.instructions.Instr.{Instr}
use Rattle.px_regcode.specs.declared.instructions.Instr.TheVariants as instr
use Rattle.px_regcode.specs.Images.{ImageParts}
use Rattle.px_regcode.specs.Facts.{Way, done, faulted, successors, frame_done, frame_after}
use Rattle.px_regcode.specs.Facts as facts
use Rattle.px_regcode.specs.Paths as paths
use Rattle.px_meaning.specs.Values.{Value}
use Rattle.px_meaning.specs.Objects.{Stepped, gave, failed}
use Rattle.px_machine.specs.Slots.{Slot, empty, whole, object, view, fault, Frame, Rest, Member, member, with_rest, next, writing, storing}
use Rattle.px_machine.specs.Steps.{Step, MemberEnd, spent, went, ended, stuck}
use Rattle.px_machine.specs.Machine.{sets, handled, at_handler, unwound, faulting, with_number, sets_or_faults, moved, opened, opens, taken, spends}
use Rattle.px_machine.specs.Machine.{calls, returns_to, returns_slot, fault_at, needs, with_store}
use Rattle.px_machine.specs.Machine.{stepped, stepping, gets, slot_of_value, object_at, constant_at}
use Rattle.px_machine.specs.Machine.{drops, prints_line, prints}
use Rattle.px_run.specs.Heights.{fact_of}

-- the turns behind an instruction that spends one, and behind one that doesn't
abbrev pub Turns : Bool → ℕ → ℕ → Type 0
Turns true left turns = suc left ≡ turns
Turns false left turns = left ≡ turns

pub record IsCall (i : Instr) : Type 0 where
  pub callee : ℕ
  pub result : Option Register
  pub arguments : List Register
  pub is : i ≡ instr.Call callee result arguments

pub data Comes (image : ImageParts) (i : Instr) (m : Member) : Step → Type 0 where
  nowhere : Comes image i m stuck
  -- the frame goes on
  along : (way : Way) (frame : Frame) (rest : Rest) → frame.function ≡ m.frame.function
      → Contains (successors image m.frame.pc i (fact_of m.frame)) (way, frame.pc) → fact_of frame ≡ frame_after i way (fact_of m.frame)
      → Turns (paths.spends i) rest.turns m.rest.turns → Comes image i m (went (member frame m.callers rest))
  -- the frame ends, by a fault and with what it gives
  unwinds : (f : Fault) (rest : Rest) → rest.turns ≤ m.rest.turns → Comes image i m (unwound f m.callers rest)
  gives : (slot : Slot) → Comes image i m (returns_to slot m.frame.result m.callers m.rest)
  -- it waits for a frame that begins
  begins : (function : ℕ) (code : Code) (d : Option Register) (slots : List Slot) (caller : Frame) (rest : Rest)
      → slice_get image.codes function ≡ Some code → caller.function ≡ m.frame.function → caller.pc ≡ m.frame.pc → caller.handler ≡ m.frame.handler
      → IsCall i → suc rest.turns ≡ m.rest.turns → Comes image i m (went (member (opened function code d slots) (caller ∷ m.callers) rest))
  stops : (last : MemberEnd) (rest : Rest) → Comes image i m (ended last rest)

-- ---- what several instructions share

-- Behind an instruction that spends no turn and keeps the handler the frame is as before.
abbrev pub GoesOn : ImageParts → Instr → Member → Type 0
GoesOn image i m =
    Contains (successors image m.frame.pc i (fact_of m.frame)) (done, m.frame.pc + 1)
    × (fact_of m.frame ≡ frame_after i done (fact_of m.frame))
    × (paths.spends i ≡ false)

-- a fault goes on at the handler, if there is one
abbrev pub MayFault : ImageParts → Instr → Member → Type 0
MayFault image i m = (k : ℕ) → m.frame.handler ≡ Some k → Contains (successors image m.frame.pc i (fact_of m.frame)) (faulted, k)

pub second_fault : {to : ℕ} {h : Option ℕ} (k : ℕ) → h ≡ Some k → Contains ((done, to) ∷ facts.at_handler h) (faulted, k)
second_fault {to} k e = subst (λ x. Contains ((done, to) ∷ facts.at_handler x) (faulted, k)) (sym e) (1, omega arith, refl)

pub first_fault : {h : Option ℕ} (k : ℕ) → h ≡ Some k → Contains (facts.at_handler h) (faulted, k)
first_fault k e = subst (λ x. Contains (facts.at_handler x) (faulted, k)) (sym e) (0, omega arith, refl)

free_turns : (b : Bool) (left turns : ℕ) → b ≡ false → left ≡ turns → Turns b left turns
free_turns true left turns free e = cc
free_turns false left turns free e = e

module _ {image : ImageParts} {i : Instr} {m : Member} where
  -- by what registers and tables hold

  pub by_number : (s : Slot) (go : ℤ → Step) → ((n : ℤ) → Comes image i m (go n)) → Comes image i m (with_number s go)
  by_number (whole n) go p = p n
  by_number empty go p = nowhere
  by_number (object serial) go p = nowhere
  by_number (view v) go p = nowhere
  by_number (fault f) go p = nowhere

  pub by_fault : (s : Slot) (go : Fault → Step) → ((f : Fault) → Comes image i m (go f)) → Comes image i m (fault_at s go)
  by_fault (fault f) go p = p f
  by_fault empty go p = nowhere
  by_fault (whole n) go p = nowhere
  by_fault (object serial) go p = nowhere
  by_fault (view v) go p = nowhere

  pub by_object : (s : Slot) (go : ℕ → Step) → ((serial : ℕ) → Comes image i m (go serial)) → Comes image i m (object_at s go)
  by_object (object serial) go p = p serial
  by_object empty go p = nowhere
  by_object (whole n) go p = nowhere
  by_object (view v) go p = nowhere
  by_object (fault f) go p = nowhere

  pub by_store : (o : Option Store) (go : Store → Step) → ((store : Store) → Comes image i m (go store)) → Comes image i m (with_store o go)
  by_store None go p = nowhere
  by_store (Some store) go p = p store

  pub by_constant : (o : Option Constant) (go : Constant → Step) → ((what : Constant) → Comes image i m (go what))
      → Comes image i m (constant_at o go)
  by_constant None go p = nowhere
  by_constant (Some what) go p = p what

  pub by_turns : (go : Member → Step) (turns : ℕ) → turns ≡ m.rest.turns
      → ((left : ℕ) → suc left ≡ m.rest.turns → Comes image i m (go (with_rest (record m.rest { turns = left }) m)))
      → Comes image i m (spends turns go m)
  by_turns go zero is p = stops spent m.rest
  by_turns go (suc left) is p = p left is

  -- the frame goes on behind the instruction

  pub next_by : GoesOn image i m → (frame : Frame) (rest : Rest) → frame.function ≡ m.frame.function → frame.pc ≡ m.frame.pc
      → frame.handler ≡ m.frame.handler → rest.turns ≡ m.rest.turns → Comes image i m (went (next (member frame m.callers rest)))
  next_by on frame rest function pc handler turns =
      along done (record frame { pc = frame.pc + 1 }) rest function
      (subst (λ n. Contains (successors image m.frame.pc i (fact_of m.frame)) (done, n + 1)) (sym pc) on.0)
      (ap (λ h. facts.frame_fact h (pos 0) facts.outside) handler ∙ on.1) (free_turns _ _ _ on.2 turns)

  pub next_here : GoesOn image i m → Comes image i m (went (next m))
  next_here on = next_by on m.frame m.rest refl refl refl refl

  pub set_by : GoesOn image i m → (d : Register) (slot : Slot) (frame : Frame) (rest : Rest) → frame.function ≡ m.frame.function
      → frame.pc ≡ m.frame.pc → frame.handler ≡ m.frame.handler → rest.turns ≡ m.rest.turns
      → Comes image i m (sets d slot (member frame m.callers rest))
  set_by on d slot frame rest function pc handler turns = next_by on (record frame { registers = _ }) rest function pc handler turns

  pub set_here : GoesOn image i m → (d : Register) (slot : Slot) → Comes image i m (sets d slot m)
  set_here on d slot = set_by on d slot m.frame m.rest refl refl refl refl

  -- the store changes, and a register is written
  pub set_stored : GoesOn image i m → (d : Register) (slot : Slot) (store : Store) → Comes image i m (sets d slot (storing store m))
  set_stored on d slot store = set_by on d slot m.frame (record m.rest { store = Some store }) refl refl refl refl

  -- what a register holds leaves it, and another is written
  set_moved : GoesOn image i m → (d a : Register) (slot : Slot) → Comes image i m (sets d slot (writing a empty m))
  set_moved on d a slot = set_by on d slot (record m.frame { registers = _ }) m.rest refl refl refl refl

  -- a fault

  pub fault_by : MayFault image i m → (f : Fault) (rest : Rest) → Turns (paths.spends i) rest.turns m.rest.turns → rest.turns ≤ m.rest.turns
      → Comes image i m (unwound f (m.frame ∷ m.callers) rest)
  unfolding frame_after
  fault_by may f rest turns le = by m.frame.handler refl
    where
      by : (h : Option ℕ) → m.frame.handler ≡ h → Comes image i m (at_handler h f m.frame m.callers rest (unwound f m.callers rest))
      by None e = unwinds f rest le
      by (Some k) e = along faulted (handled k f m.frame) rest refl (may k e) refl turns

  pub free_fault : paths.spends i ≡ false → MayFault image i m → (f : Fault) (rest : Rest) → rest.turns ≡ m.rest.turns
      → Comes image i m (unwound f (m.frame ∷ m.callers) rest)
  free_fault free may f rest e = fault_by may f rest (free_turns _ _ _ free e) (omega arith)

  pub by_result : GoesOn image i m → MayFault image i m → (d : Register) (r : Result ℤ Fault) → Comes image i m (sets_or_faults d r m)
  by_result on may d (Ok n) = set_here on d (whole n)
  by_result on may d (Err f) = free_fault on.2 may f m.rest refl

  by_step : {A : Type 0} → GoesOn image i m → MayFault image i m → (x : Stepped A) (go : A → Member → Step)
      → ((a : A) (store : Store) → Comes image i m (go a (storing store m))) → Comes image i m (stepped x go m)
  by_step on may (gave a store) go p = p a store
  by_step on may (failed f store) go p = free_fault on.2 may f (record m.rest { store = Some store }) refl

  pub by_made : GoesOn image i m → MayFault image i m → (d : Register) (step : Store → Stepped Value) → Comes image i m (stepping step (gets d) m)
  by_made on may d step =
      by_store m.rest.store _ (λ (store : Store). by_step on may (step store) (gets d)
      (λ (v : Value) (s : Store). set_stored on d (slot_of_value v) s))

  -- rows with cases on a register

  pub by_moved : GoesOn image i m → (d a : Register) (s : Slot) → Comes image i m (moved d a s m)
  by_moved on d a empty = nowhere
  by_moved on d a (whole n) = set_here on d (whole n)
  by_moved on d a (object serial) = set_moved on d a (object serial)
  by_moved on d a (view v) = set_moved on d a (view v)
  by_moved on d a (fault f) = set_moved on d a (fault f)

  pub by_given : (s : Slot) → Comes image i m (returns_slot s m)
  by_given empty = nowhere
  by_given (whole n) = gives (whole n)
  by_given (object serial) = gives (object serial)
  by_given (view v) = gives (view v)
  by_given (fault f) = gives (fault f)

  pub by_need : GoesOn image i m → MayFault image i m → (s : Slot) → Comes image i m (needs s m)
  by_need on may empty = free_fault on.2 may _ m.rest refl
  by_need on may (whole n) = next_here on
  by_need on may (object serial) = next_here on
  by_need on may (view v) = next_here on
  by_need on may (fault f) = next_here on

  pub by_dropped : GoesOn image i m → (a : Register) (s : Slot) → Comes image i m (drops a s m)
  by_dropped on a (object serial) = set_here on a empty
  by_dropped on a empty = next_here on
  by_dropped on a (whole n) = nowhere
  by_dropped on a (view v) = nowhere
  by_dropped on a (fault f) = nowhere

  by_texts : GoesOn image i m → MayFault image i m → (o : Option (List (List ℕ))) (store : Store) → Comes image i m (prints_line o store m)
  by_texts on may None store = nowhere
  by_texts on may (Some texts) store =
      by_step on may _ (λ _ m1. went (next m1)) (λ a s. next_by on m.frame (record m.rest { store = Some s }) refl refl refl refl)

  pub by_printed : GoesOn image i m → MayFault image i m → (o : Option (List Value)) → Comes image i m (prints o m)
  by_printed on may None = nowhere
  by_printed on may (Some values) = by_store m.rest.store _ (λ store. by_texts on may _ store)

  -- calls

  by_opened : IsCall i → paths.spends i ≡ true → MayFault image i m → (function : ℕ) (code : Code) (d : Option Register)
      → (arguments : List Register) (slots : List Slot) (left : ℕ) → slice_get image.codes function ≡ Some code → suc left ≡ m.rest.turns → (b : Bool)
      → Comes image i m (if b
      then went (member (opened function code d slots) (record m.frame { registers = taken arguments m.frame.registers } ∷ m.callers)
      (record m.rest { turns = left }))
      else faulting (fault_of RecursionError 31) (with_rest (record m.rest { turns = left }) m))
  by_opened call is may function code d arguments slots left there turns true =
      begins function code d slots (record m.frame { registers = taken arguments m.frame.registers }) (record m.rest { turns = left })
      there refl refl refl call turns
  by_opened call is may function code d arguments slots left there turns false =
      fault_by may _ (record m.rest { turns = left }) (subst (λ b. Turns b left m.rest.turns) (sym is) turns) (omega arith)

  pub by_call : IsCall i → paths.spends i ≡ true → MayFault image i m → (function : ℕ) (o : Option Code) → slice_get image.codes function ≡ o
      → (d : Option Register) (arguments : List Register) (slots : Option (List Slot)) → Comes image i m (calls function o d arguments slots m)
  by_call call is may function None there d arguments slots = nowhere
  by_call call is may function (Some code) there d arguments None = nowhere
  by_call call is may function (Some code) there d arguments (Some slots) =
      by_turns (opens function code d arguments slots) m.rest.turns refl
      (λ left turns. by_opened call is may function code d arguments slots left there turns _)
