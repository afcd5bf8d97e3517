-- Formed code: no fact of an instruction breaks one of five rules. Each rule is a record with a field for each of its sentences, and
-- speaks of an instruction that has a frame fact; one that has none breaks none. The rules are said of any frame facts and register facts
-- of instructions, and an image is formed by the facts that it has.
use Rattle.std.specs.Prelude.{◌≡◌, ◌≢◌, ◌⊎◌, ℕ, suc, ◌<◌, ◌≤◌, nat_eq, not, ◌&&◌, ◌||◌, if◌then◌else◌, pos, negsuc, ◌≤ℤ◌, Bool, true, false}
use Rattle.std.specs.Prelude.{List, [], ◌∷◌, ◌++◌, length, slice_get, Option, Some, None, Contains, codes}
use Rattle.px_regcode.specs.declared.operands.Register.{Register}
use Rattle.px_regcode.specs.declared.operands.RegKind.{RegKind}
use Rattle.px_regcode.specs.declared.operands.RegKind.TheVariants as kind
use Rattle.px_regcode.specs.declared.codes.Code.{Code}
use Rattle.px_regcode.specs.declared.codes.Start.{Start}
use Rattle.px_regcode.specs.declared.codes.Start.TheVariants as start
use Rattle.px_regcode.specs.declared.plans.LoopPlan.{LoopPlan}
use Rattle.px_regcode.specs.declared.instructions.Instr.{Instr}
use Rattle.px_regcode.specs.declared.instructions.Instr.TheVariants as instr
use Rattle.px_regcode.specs.Images.{ImageParts, IsAt}
use Rattle.px_regcode.specs.Effects.{is_object, may_fault, reads, writes, empties, gives_object}
use Rattle.px_regcode.specs.Operands.{takes, targets}
use Rattle.px_regcode.specs.Facts.{State, object, held, lent, Phase, to_look, to_claim, to_begin, in_iteration, Stage, outside, inside}
use Rattle.px_regcode.specs.Facts.{FrameFact, Way, FrameMay, RegisterMay, successors, numbers_of, result_of, plan_writes, acquires}
use Rattle.px_regcode.specs.Paths.{FreePath, Reaches, is_loop, is_members, is_ticket, called}
use Rattle.px_regcode.specs.Plans.{IsPlan}
use Rattle.px_regcode.specs.Shapes.{IsShaped, IsOfKind, Need, Meets, arguments_of, plan_of, plan_needs, all_needs, registers_in}

-- ---- shape

abbrev pub callee : ImageParts → Instr → Option Code
callee image (instr.Call f d args) = slice_get image.codes f
callee image i = None

-- what an instruction names exists, and each that may follow it
pub record KeepsShape
    (image : ImageParts) (frames : ℕ → ℕ → FrameFact → Type 0) (registers : ℕ → ℕ → ℕ → State → Type 0)
    (f pc : ℕ) (code : Code) (i : Instr) (fact : FrameFact) : Type 0 where
  pub named : (r : ℕ) → Contains (numbers_of (reads i ++ writes i ++ empties i)) r → r < code.registers
  pub followers : (way : Way) (to : ℕ) → Contains (successors image pc i fact) (way, to) → to < length code.instrs
  pub places : (k : ℕ) → Contains (targets i) k → k < length code.instrs
  pub shaped : IsShaped image code i
  -- the arguments of a call have the kinds of the parameters
  pub arguments : (other : Code) (n : ℕ) (a : Register) (k : RegKind) (s : State)
      → callee image i ≡ Some other → slice_get (arguments_of i) n ≡ Some a → slice_get other.params n ≡ Some k
      → registers f pc a.number s → IsOfKind s k
  -- a path that comes back has passed a `turn`, a `call` or a `begin`
  pub no_free_path : FreePath image frames f pc pc → ⊥
  -- a `loop` runs a loop of its own function, whose registers have the kinds that the loop needs
  pub own_plan : (plan : LoopPlan) → plan_of image i ≡ Some plan → plan.function ≡ f
  pub plan_kinds : (r : ℕ) (need : Need) (s : State) → Contains (plan_needs (plan_of image i)) (r, need) → registers f pc r s → Meets s need

-- ---- kinds

-- a function gives something where it has a `return`; a view has one to three axes
abbrev pub IsGiven : RegKind → Instr → Type 0
IsGiven result (instr.Return a) = result ≢ kind.Empty
IsGiven result (instr.View t d a rank) = (1 ≤ rank) × (rank ≤ 3)
IsGiven result i = Unit {0}

-- each register that is read has the kind that is asked of it
pub record KeepsKinds
    (image : ImageParts) (registers : ℕ → ℕ → ℕ → State → Type 0) (f pc : ℕ) (code : Code) (i : Instr) : Type 0 where
  pub kinds : (r : ℕ) (need : Need) (s : State) → Contains (all_needs image code.result i) (r, need) → registers f pc r s → Meets s need
  pub given : IsGiven code.result i

-- ---- references

-- a reference or a view that holds its buffer; and one that stood there where the parallel loop was entered

abbrev pub is_owned : State → Bool
is_owned (object stood) = true
is_owned (held rank stood) = true
is_owned s = false

abbrev pub stood_there : State → Bool
stood_there (object stood) = stood
stood_there (held rank stood) = stood
stood_there s = false

-- the registers into which an instruction writes a reference or a view that holds its buffer, unless they get it from one that it takes

abbrev pub owning_result : Option RegKind → List ℕ → List ℕ
owning_result (Some kind.Object) rs = rs
owning_result (Some (kind.View rank)) rs = rs
owning_result k rs = []

unfoldable pub owning_writes : ImageParts → Instr → List ℕ
owning_writes image (instr.View t d a rank) = d.number ∷ []
owning_writes image (instr.Copy d a) = d.number ∷ []
owning_writes image (instr.Acquire a) = a.number ∷ []
owning_writes image (instr.Call f (Some d) args) = owning_result (result_of (slice_get image.codes f)) (d.number ∷ [])
owning_writes image i = numbers_of (gives_object i)

-- how often a register is named
abbrev pub times : ℕ → List ℕ → ℕ
times r [] = 0
times r (x ∷ xs) = if nat_eq r x then suc (times r xs) else times r xs

-- the registers that an instruction names, as often as it does; the place that `next` counts and the copy that `reduce` changes once
abbrev pub names : Instr → List ℕ
names (instr.Reduce o t x a) = x.number ∷ a.number ∷ []
names (instr.Next d a x k) = d.number ∷ a.number ∷ x.number ∷ []
names i = numbers_of (reads i) ++ numbers_of (writes i)

-- the instruction may end its frame, or the iteration, where the fact holds: by its own row, or by a fault without a handler

abbrev pub ends_frame : Instr → Bool
ends_frame (instr.Return a) = true
ends_frame instr.Finish = true
ends_frame instr.Throw = true
ends_frame i = false

abbrev pub is_without : Option ℕ → Bool
is_without None = true
is_without (Some k) = false

abbrev pub may_end : Instr → FrameFact → Bool
may_end i fact = ends_frame i || (may_fault i && is_without fact.handler)

abbrev pub ends_iteration : Instr → Bool
ends_iteration instr.End = true
ends_iteration (instr.Stop how a) = true
ends_iteration i = false

-- a register may be left so where the frame ends: `return` takes what it gives, and `need` faults only where its register is empty
abbrev pub may_be_left : Instr → ℕ → State → Bool
may_be_left (instr.Return a) r s = not (nat_eq r a.number)
may_be_left (instr.Need a) r s = not (nat_eq r a.number && is_owned s)
may_be_left i r s = true

pub record KeepsReferences
    (image : ImageParts) (registers : ℕ → ℕ → ℕ → State → Type 0) (f pc : ℕ) (i : Instr) (fact : FrameFact) : Type 0 where
  -- no instruction writes over a reference or a view that holds its buffer
  pub kept : (r : ℕ) (s : State) → Contains (numbers_of (writes i) ++ plan_writes image fact.stage i) r → registers f pc r s
      → is_owned s ≡ false
  -- a register from which such a value is taken is named once, and one into which one is written
  pub taken_once : (r : ℕ) (s : State) → Contains (numbers_of (takes i)) r → registers f pc r s → is_owned s ≡ true → times r (names i) ≡ 1
  pub written_once : (r : ℕ) → Contains (owning_writes image i) r → times r (names i) ≡ 1
  -- none is left where a frame ends, or an iteration, but for those that stood there at the `loop`
  pub none_left : (r : ℕ) (s : State) → may_end i fact ≡ true → registers f pc r s → may_be_left i r s ≡ true → is_owned s ≡ true
      → stood_there s ≡ true
  pub none_behind : (r : ℕ) (s : State) → ends_iteration i ≡ true → registers f pc r s → is_owned s ≡ true → stood_there s ≡ true
  -- in the code of a parallel loop what stood there stays the frame's
  pub untaken : (r : ℕ) (s : State) → Contains (numbers_of (takes i) ++ acquires i) r → registers f pc r s → stood_there s ≡ false

-- ---- views

-- the registers that have to hold their buffers where they hold views
abbrev pub gets : Instr → List ℕ
gets (instr.Call f d args) = numbers_of args
gets (instr.Return a) = a.number ∷ []
gets (instr.Release a) = a.number ∷ []
gets i = []

pub record KeepsViews (image : ImageParts) (registers : ℕ → ℕ → ℕ → State → Type 0) (f pc : ℕ) (code : Code) (i : Instr) : Type 0 where
  -- what a call, a `return` and a `release` get isn't lent, and what `acquire` gets is
  pub given : (r rank from : ℕ) (gone : Bool) → Contains (gets i) r → registers f pc r (lent rank from gone) → ⊥
  pub acquired : (r rank : ℕ) (stood : Bool) → Contains (acquires i) r → registers f pc r (held rank stood) → ⊥
  -- a lent view isn't read once the register that it goes back to was emptied
  pub live : (r rank from : ℕ) → Contains (registers_in (all_needs image code.result i)) r → registers f pc r (lent rank from true) → ⊥

-- ---- the lock, and the order of the code of parallel loops

abbrev pub is_enter : Instr → Bool
is_enter instr.Enter = true
is_enter i = false

abbrev pub is_leave : Instr → Bool
is_leave instr.Leave = true
is_leave i = false

-- a path holds the lock
abbrev pub Holds : Start → FrameFact → Type 0
Holds s fact = (pos 1 ≤ℤ fact.count) ⊎ ((fact.count ≡ pos 0) × (fact.stage ≡ outside) × (s ≡ start.Held))

abbrev pub is_held : Start → Bool
is_held start.Held = true
is_held start.Any = false

abbrev pub is_called_held : Option Code → Bool
is_called_held None = false
is_called_held (Some code) = is_held code.start

-- an object instruction, a `leave`, and a call of a function that is called with the lock alone
abbrev pub asks_lock : ImageParts → Instr → Bool
asks_lock image instr.Leave = true
asks_lock image (instr.Call f d args) = is_called_held (slice_get image.codes f)
asks_lock image i = is_object i

-- in which stage an instruction may stand
unfoldable pub StandsIn : Instr → Stage → Type 0
StandsIn instr.Look outside = ⊥
StandsIn instr.Claim outside = ⊥
StandsIn instr.Begin outside = ⊥
StandsIn instr.End outside = ⊥
StandsIn (instr.Stop how a) outside = ⊥
StandsIn i outside = Unit {0}
StandsIn (instr.Jump k) (inside n phase) = Unit {0}
StandsIn instr.Look (inside n to_look) = Unit {0}
StandsIn instr.Claim (inside n to_claim) = Unit {0}
StandsIn instr.Begin (inside n to_begin) = Unit {0}
StandsIn instr.Look (inside n phase) = ⊥
StandsIn instr.Claim (inside n phase) = ⊥
StandsIn instr.Begin (inside n phase) = ⊥
StandsIn (instr.Loop m d k) (inside n phase) = ⊥
StandsIn (instr.Return a) (inside n phase) = ⊥
StandsIn instr.Finish (inside n phase) = ⊥
StandsIn (instr.Members d) (inside n phase) = ⊥
StandsIn i (inside n in_iteration) = Unit {0}
StandsIn i (inside n phase) = ⊥

-- where the count has to be 0 beside the end of a frame
abbrev pub is_between : Instr → Bool
is_between instr.Look = true
is_between instr.End = true
is_between (instr.Stop how a) = true
is_between i = false

pub record KeepsOrder
    (image : ImageParts) (frames : ℕ → ℕ → FrameFact → Type 0) (f pc : ℕ) (code : Code) (i : Instr) (fact : FrameFact) : Type 0 where
  pub locked : asks_lock image i ≡ true → Holds code.start fact
  -- a `ticket` stands directly before an `enter`, and an `enter` directly after a `ticket`
  pub tickets : is_ticket i ≡ true → (way : Way) (to : ℕ) → Contains (successors image pc i fact) (way, to) → IsAt image f to instr.Enter
  pub enters : is_enter i ≡ true → (from : ℕ) (before : Instr) (way : Way) (was : FrameFact)
      → frames f from was → IsAt image f from before → Contains (successors image from before was) (way, pc) → is_ticket before ≡ true
  pub begins : is_enter i ≡ true → pc ≢ 0
  -- no hold is left where the frame or an iteration ends
  pub ends : may_end i fact ≡ true → fact.count ≡ pos 0
  pub between : is_between i ≡ true → fact.count ≡ pos 0
  pub no_more : is_enter i ≡ true → fact.count ≢ pos 64
  pub no_less : is_leave i ≡ true → fact.count ≢ negsuc 0
  pub stands : StandsIn i fact.stage
  -- no call in the code of a parallel loop reaches a `loop` or a `members`
  pub no_inner_loop : (g n : ℕ) (phase : Phase) → called i ≡ Some g → fact.stage ≡ inside n phase → Reaches image frames is_loop g → ⊥
  pub no_inner_members : (g n : ℕ) (phase : Phase) → called i ≡ Some g → fact.stage ≡ inside n phase → Reaches image frames is_members g → ⊥
  pub one : (other : FrameFact) → frames f pc other → other ≡ fact

-- ---- the rules

-- the five rules, in the order of their numbers
pub data Rule : Type 0 where
  shape : Rule
  kinds : Rule
  references : Rule
  views : Rule
  order : Rule

unfoldable pub Keeps : ImageParts → (ℕ → ℕ → FrameFact → Type 0) → (ℕ → ℕ → ℕ → State → Type 0) → ℕ → ℕ → Code → Instr → FrameFact
    → Rule → Type 0
Keeps image frames registers f pc code i fact shape = KeepsShape image frames registers f pc code i fact
Keeps image frames registers f pc code i fact kinds = KeepsKinds image registers f pc code i
Keeps image frames registers f pc code i fact references = KeepsReferences image registers f pc i fact
Keeps image frames registers f pc code i fact views = KeepsViews image registers f pc code i
Keeps image frames registers f pc code i fact order = KeepsOrder image frames f pc code i fact

-- no fact of an instruction breaks a rule
abbrev pub KeepsRules : ImageParts → (ℕ → ℕ → FrameFact → Type 0) → (ℕ → ℕ → ℕ → State → Type 0) → Type 0
KeepsRules image frames registers =
    (f pc : ℕ) (code : Code) (i : Instr) (fact : FrameFact) (rule : Rule) → slice_get image.codes f ≡ Some code
    → slice_get code.instrs pc ≡ Some i → frames f pc fact → Keeps image frames registers f pc code i fact rule

-- ---- images

-- a name has a character, and neither a space nor a line feed
abbrev pub IsName : List ℕ → Type 0
IsName name = (name ≢ []) × (Contains name 32 → ⊥) × (Contains name 10 → ⊥)

-- the number in the kind of a view is its rank
abbrev pub IsKind : RegKind → Type 0
IsKind (kind.View rank) = (1 ≤ rank) × (rank ≤ 3)
IsKind k = Unit {0}

-- the module's code stands first, and is called with the lock, without arguments
pub record IsModule (code : Code) : Type 0 where
  pub name : code.name ≡ codes "module"
  pub start : code.start ≡ start.Held
  pub result : code.result ≡ kind.Empty
  pub params : code.params ≡ []

-- a function has an instruction, a line for each, and registers for its parameters
pub record IsCode (code : Code) : Type 0 where
  pub some : 0 < length code.instrs
  pub lines : length code.lines ≡ length code.instrs
  pub room : length code.params ≤ code.registers
  pub kinds : (k : RegKind) → Contains (code.result ∷ code.params) k → IsKind k

pub record IsFormed (image : ImageParts) : Type 0 where
  pub first : Code
  pub is_first : slice_get image.codes 0 ≡ Some first
  pub is_module : IsModule first
  pub names : (f : ℕ) (code : Code) → slice_get image.codes (suc f) ≡ Some code → IsName code.name
  pub functions : (f : ℕ) (code : Code) → slice_get image.codes f ≡ Some code → IsCode code
  pub plans : (n : ℕ) (plan : LoopPlan) → slice_get image.loops n ≡ Some plan → IsPlan image n plan
  pub rules : KeepsRules image (FrameMay image) (RegisterMay image)
