-- What is asked of the operands of an instruction, and of the registers that it reads, by the instruction.
use Rattle.std.specs.Prelude.{◌≡◌, ◌≢◌, ℕ, ◌-◌, ◌%◌, ◌^◌, ◌<◌, ◌≤◌, pos, neg_ℤ, ◌≤ℤ◌, List, [], ◌∷◌, ◌++◌, map, length, slice_get, Option}
use Rattle.std.specs.Prelude.{Some, None}
use Rattle.px_base.specs.declared.c_types.BinOp.{BinOp}
use Rattle.px_base.specs.declared.c_types.BinOp.TheVariants as op
use Rattle.px_base.specs.declared.c_types.CType.TheVariants.{Bint}
use Rattle.px_base.specs.declared.objects.Constant.{Constant}
use Rattle.px_base.specs.declared.objects.Constant.TheVariants as constant
use Rattle.px_base.specs.declared.objects.Builtin.TheVariants as builtin
use Rattle.px_base.specs.declared.objects.Method.TheVariants as method
use Rattle.px_regcode.specs.declared.operands.Register.{Register}
use Rattle.px_regcode.specs.declared.operands.RegKind.{RegKind}
use Rattle.px_regcode.specs.declared.operands.RegKind.TheVariants as kind
use Rattle.px_regcode.specs.declared.operands.StopKind.TheVariants as stop
use Rattle.px_regcode.specs.declared.codes.Code.{Code}
use Rattle.px_regcode.specs.declared.plans.LoopPlan.{LoopPlan}
use Rattle.px_regcode.specs.declared.plans.Owner.{Owner}
use Rattle.px_regcode.specs.declared.instructions.Instr.{Instr}
use Rattle.px_regcode.specs.declared.instructions.Instr.TheVariants as instr
use Rattle.px_regcode.specs.Images.{ImageParts}
use Rattle.px_regcode.specs.Facts.{State, empty, whole, object, held, lent, fault, copies_of}

-- ---- the numbers of arguments

-- how many arguments a method, a builtin, `input` and `array` may have; the others say it otherwise, or have none
abbrev pub IsNumberFor : Instr → ℕ → Type 0
IsNumberFor (instr.Method method.Append d a args) n = n ≡ 1
IsNumberFor (instr.Method method.Pop d a args) n = n ≤ 1
IsNumberFor (instr.Method method.Extend d a args) n = n ≡ 1
IsNumberFor (instr.Method method.Reverse d a args) n = n ≡ 0
IsNumberFor (instr.Method method.Get d a args) n = (1 ≤ n) × (n ≤ 2)
IsNumberFor (instr.Method method.Keys d a args) n = n ≡ 0
IsNumberFor (instr.Method method.Values d a args) n = n ≡ 0
IsNumberFor (instr.Method method.Items d a args) n = n ≡ 0
IsNumberFor (instr.Method method.Split d a args) n = n ≤ 1
IsNumberFor (instr.Method method.Join d a args) n = n ≡ 1
IsNumberFor (instr.Method method.Strip d a args) n = n ≡ 0
IsNumberFor (instr.Method method.Other d a args) n = Unit {0}
IsNumberFor (instr.Builtin builtin.Print d args) n = ⊥
IsNumberFor (instr.Builtin builtin.Input d args) n = ⊥
IsNumberFor (instr.Builtin builtin.Range d args) n = ⊥
IsNumberFor (instr.Builtin builtin.Len d args) n = n ≡ 1
IsNumberFor (instr.Builtin builtin.Int d args) n = n ≡ 1
IsNumberFor (instr.Builtin builtin.Str d args) n = n ≡ 1
IsNumberFor (instr.Builtin builtin.Repr d args) n = n ≡ 1
IsNumberFor (instr.Builtin builtin.Bool d args) n = n ≡ 1
IsNumberFor (instr.Builtin builtin.List d args) n = n ≤ 1
IsNumberFor (instr.Builtin builtin.Tuple d args) n = n ≤ 1
IsNumberFor (instr.Builtin builtin.Abs d args) n = n ≡ 1
IsNumberFor (instr.Builtin builtin.Min d args) n = 1 ≤ n
IsNumberFor (instr.Builtin builtin.Max d args) n = 1 ≤ n
IsNumberFor (instr.Input d args) n = n ≤ 1
IsNumberFor (instr.Array d args) n = (3 ≤ n) × (n ≤ 4)
IsNumberFor i n = Unit {0}

abbrev pub arguments_of : Instr → List Register
arguments_of (instr.Call f d args) = args
arguments_of (instr.Method m d a args) = args
arguments_of (instr.Builtin b d args) = args
arguments_of (instr.Input d args) = args
arguments_of (instr.Array d args) = args
arguments_of i = []

-- ---- the operands

-- the operators by which iterations are combined
abbrev pub IsReducing : BinOp → Type 0
IsReducing op.Add = Unit {0}
IsReducing op.Sub = Unit {0}
IsReducing op.Mul = Unit {0}
IsReducing op.BitAnd = Unit {0}
IsReducing op.BitOr = Unit {0}
IsReducing op.BitXor = Unit {0}
IsReducing op.FloorDiv = ⊥
IsReducing op.Mod = ⊥
IsReducing op.Shl = ⊥
IsReducing op.Shr = ⊥

abbrev pub IsTextOrNone : Option Constant → Type 0
IsTextOrNone (Some (constant.Text text)) = Unit {0}
IsTextOrNone (Some constant.None) = Unit {0}
IsTextOrNone (Some (constant.Wide n)) = ⊥
IsTextOrNone None = ⊥

abbrev pub IsWideNumber : Option Constant → Type 0
IsWideNumber (Some (constant.Wide n)) = Unit {0}
IsWideNumber (Some (constant.Text text)) = ⊥
IsWideNumber (Some constant.None) = ⊥
IsWideNumber None = ⊥

-- a register stands there exactly where a function gives something; and exactly where it gives a number

abbrev pub IsThereFor : Option Register → RegKind → Type 0
IsThereFor None kind.Empty = Unit {0}
IsThereFor None k = ⊥
IsThereFor (Some d) kind.Empty = ⊥
IsThereFor (Some d) k = Unit {0}

abbrev pub IsThereForNumber : Option Register → RegKind → Type 0
IsThereForNumber None kind.Whole = ⊥
IsThereForNumber None k = Unit {0}
IsThereForNumber (Some d) kind.Whole = Unit {0}
IsThereForNumber (Some d) k = ⊥

-- the function that is called is there, has as many parameters, and a result exactly where its register stands there
pub record IsCallOf (image : ImageParts) (f : ℕ) (d : Option Register) (count : ℕ) : Type 0 where
  pub code : Code
  pub is_there : slice_get image.codes f ≡ Some code
  pub arguments : count ≡ length code.params
  pub result : IsThereFor d code.result

-- What the operands of an instruction are asked, beside that the registers and the instructions that it names exist. Those that aren't
-- named here are asked for a number of arguments alone.
unfoldable pub IsShaped : ImageParts → Code → Instr → Type 0
IsShaped image code (instr.Const d n) = (neg_ℤ (pos (2 ^ 63)) ≤ℤ n) × (n ≤ℤ pos (2 ^ 64 - 1))
IsShaped image code (instr.Binary o t d a b truncates) = t ≢ Bint
IsShaped image code (instr.Unary o t d a) = t ≢ Bint
IsShaped image code (instr.Magnitude t d a) = t ≢ Bint
IsShaped image code (instr.Reduce o t x a) = (t ≢ Bint) × IsReducing o
IsShaped image code (instr.Unbox t d a) = t ≢ Some Bint
IsShaped image code (instr.Call f d args) = IsCallOf image f d (length args)
IsShaped image code instr.Finish = code.result ≡ kind.Empty
IsShaped image code (instr.Loop n d k) = (n < length image.loops) × IsThereForNumber d code.result
IsShaped image code (instr.Stop stop.Break a) = a ≡ None
IsShaped image code (instr.Stop stop.Return a) = IsThereForNumber a code.result
IsShaped image code (instr.Text d n) = IsTextOrNone (slice_get image.constants n)
IsShaped image code (instr.Wide d n) = IsWideNumber (slice_get image.constants n)
IsShaped image code (instr.Unpack n a ds) = n ≡ length ds
IsShaped image code (instr.Dict d args) = length args % 2 ≡ 0
IsShaped image code i = IsNumberFor i (length (arguments_of i))

-- ---- kinds

-- a state has a kind
unfoldable pub IsOfKind : State → RegKind → Type 0
IsOfKind whole kind.Whole = Unit {0}
IsOfKind (object stood) kind.Object = Unit {0}
IsOfKind (held rank stood) (kind.View n) = rank ≡ n
IsOfKind (lent rank from gone) (kind.View n) = rank ≡ n
IsOfKind empty kind.Empty = Unit {0}
IsOfKind fault kind.Fault = Unit {0}
IsOfKind s k = ⊥

-- What a register that is read is asked to hold: of views so many axes, the axis n beside others or alone, or a place for one more axis.
pub data Need : Type 0 where
  number : Need
  reference : Need
  reference_or_nothing : Need
  view : Need
  view_or_nothing : Need
  view_of : ℕ → Need
  over : ℕ → Need
  over_or_nothing : ℕ → Need
  pickable : ℕ → Need
  widenable : ℕ → Need
  a_fault : Need
  something : Need
  anything : Need
  of_kind : RegKind → Need

-- a state meets it
unfoldable pub Meets : State → Need → Type 0
Meets whole number = Unit {0}
Meets (object stood) reference = Unit {0}
Meets (object stood) reference_or_nothing = Unit {0}
Meets empty reference_or_nothing = Unit {0}
Meets (held rank stood) view = Unit {0}
Meets (lent rank from gone) view = Unit {0}
Meets (held rank stood) view_or_nothing = Unit {0}
Meets (lent rank from gone) view_or_nothing = Unit {0}
Meets empty view_or_nothing = Unit {0}
Meets (held rank stood) (view_of n) = rank ≡ n
Meets (lent rank from gone) (view_of n) = rank ≡ n
Meets (held rank stood) (over n) = n < rank
Meets (lent rank from gone) (over n) = n < rank
Meets (held rank stood) (over_or_nothing n) = n < rank
Meets (lent rank from gone) (over_or_nothing n) = n < rank
Meets empty (over_or_nothing n) = Unit {0}
Meets (held rank stood) (pickable n) = (1 < rank) × (n < rank)
Meets (lent rank from gone) (pickable n) = (1 < rank) × (n < rank)
Meets (held rank stood) (widenable n) = (rank < 3) × (n ≤ rank)
Meets (lent rank from gone) (widenable n) = (rank < 3) × (n ≤ rank)
Meets fault a_fault = Unit {0}
Meets empty something = ⊥
Meets s something = Unit {0}
Meets s anything = Unit {0}
Meets s (of_kind k) = IsOfKind s k
Meets s need = ⊥

abbrev pub each : Need → List Register → List (ℕ × Need)
each need rs = map (λ r. (r.number, need)) rs

abbrev pub if_given : Need → Option Register → List (ℕ × Need)
if_given need None = []
if_given need (Some r) = (r.number, need) ∷ []

-- what an instruction asks of the registers that it reads
unfoldable pub needs : RegKind → Instr → List (ℕ × Need)
needs result (instr.Const d n) = []
needs result (instr.Move d a) = (a.number, something) ∷ []
needs result (instr.Binary op t d a b truncates) = (a.number, number) ∷ (b.number, number) ∷ []
needs result (instr.Unary op t d a) = (a.number, number) ∷ []
needs result (instr.Compare op t d a b) = (a.number, number) ∷ (b.number, number) ∷ []
needs result (instr.Convert t d a) = (a.number, number) ∷ []
needs result (instr.Magnitude t d a) = (a.number, number) ∷ []
needs result (instr.Jump k) = []
needs result (instr.Branch a k j) = (a.number, number) ∷ []
needs result instr.Turn = []
needs result (instr.Call f d arguments) = each something arguments
needs result (instr.Return a) = (a.number, of_kind result) ∷ []
needs result instr.Finish = []
needs result (instr.Handle k) = []
needs result instr.Unhandle = []
needs result instr.Throw = []
needs result (instr.Caught d) = []
needs result (instr.Takes a kinds k) = (a.number, a_fault) ∷ []
needs result (instr.Forget a) = (a.number, a_fault) ∷ []
needs result (instr.Unset d) = []
needs result (instr.Need a) = (a.number, anything) ∷ []
needs result (instr.Element t d a indices) = (a.number, view_of (length indices)) ∷ each number indices
needs result (instr.Put t a indices b) = (a.number, view_of (length indices)) ∷ each number indices ++ (b.number, number) ∷ []
needs result (instr.Pick d a axis i wraps) = (a.number, pickable axis) ∷ (i.number, number) ∷ []
needs result (instr.Slice d a axis b c e) = (a.number, over axis) ∷ if_given number b ++ if_given number c ++ if_given number e
needs result (instr.Axis d a n) = (a.number, widenable n) ∷ []
needs result (instr.Turned d a) = (a.number, view) ∷ []
needs result (instr.Extent d a axis) = (a.number, over axis) ∷ []
needs result (instr.Ordered a order) = (a.number, view) ∷ []
needs result (instr.Acquire a) = (a.number, view) ∷ []
needs result (instr.Release a) = (a.number, view_or_nothing) ∷ []
needs result (instr.Fill a b) = (a.number, view) ∷ (b.number, number) ∷ []
needs result (instr.Spread d a) = (d.number, view) ∷ (a.number, view) ∷ []
needs result instr.Ticket = []
needs result instr.Enter = []
needs result instr.Leave = []
needs result (instr.Loop n d k) = []
needs result instr.Look = []
needs result instr.Claim = []
needs result instr.Begin = []
needs result instr.End = []
needs result (instr.Stop kind a) = if_given number a
needs result (instr.Reduce op t x a) = (x.number, number) ∷ (a.number, number) ∷ []
needs result (instr.Members d) = []
needs result (instr.Text d n) = []
needs result (instr.Wide d n) = []
needs result (instr.Box t d a) = (a.number, number) ∷ []
needs result (instr.Unbox t d a) = (a.number, reference) ∷ []
needs result (instr.Truth d a) = (a.number, reference) ∷ []
needs result (instr.Fetch d n) = []
needs result (instr.Keep n a) = (a.number, reference) ∷ []
needs result (instr.Share d a) = (a.number, reference) ∷ []
needs result (instr.Drop a) = (a.number, reference_or_nothing) ∷ []
needs result (instr.ObjectBinary op d a b) = (a.number, reference) ∷ (b.number, reference) ∷ []
needs result (instr.ObjectUnary op d a) = (a.number, reference) ∷ []
needs result (instr.ObjectCompare op d a b) = (a.number, reference) ∷ (b.number, reference) ∷ []
needs result (instr.ObjectIn d a b) = (a.number, reference) ∷ (b.number, reference) ∷ []
needs result (instr.ObjectGet d a b) = (a.number, reference) ∷ (b.number, reference) ∷ []
needs result (instr.ObjectSet a b c) = (a.number, reference) ∷ (b.number, reference) ∷ (c.number, reference) ∷ []
needs result (instr.ObjectCut d a b c e) = (a.number, reference) ∷ if_given number b ++ if_given number c ++ if_given number e
needs result (instr.List d arguments) = each reference arguments
needs result (instr.Tuple d arguments) = each reference arguments
needs result (instr.Dict d arguments) = each reference arguments
needs result (instr.Unpack n a items) = (a.number, reference) ∷ []
needs result (instr.Method m d a arguments) = (a.number, reference) ∷ each reference arguments
needs result (instr.Builtin m d arguments) = each reference arguments
needs result (instr.Print arguments) = each reference arguments
needs result (instr.Input d arguments) = each reference arguments
needs result (instr.Raise kind a) = if_given reference a
needs result (instr.Walk d x a) = (a.number, reference) ∷ []
needs result (instr.Next d a x k) = (a.number, reference) ∷ (x.number, number) ∷ []
needs result (instr.Array d arguments) = each reference arguments
needs result (instr.View t d a rank) = (a.number, reference) ∷ []
needs result (instr.Copy d a) = (a.number, view) ∷ []
needs result (instr.Said d a) = (a.number, a_fault) ∷ []
needs result (instr.Rethrow a) = (a.number, a_fault) ∷ []

-- ---- what a parallel loop reads by its plan

-- the plan of the loop that an instruction runs
abbrev pub plan_of : ImageParts → Instr → Option LoopPlan
plan_of image (instr.Loop n d k) = slice_get image.loops n
plan_of image i = None

-- a view that is written has the axis by which its cells are owned
abbrev pub owned_need : Option Owner → Need
owned_need None = view_or_nothing
owned_need (Some owner) = over_or_nothing owner.axis

abbrev pub if_named : Option ℕ → List (ℕ × Need)
if_named None = []
if_named (Some r) = (r, number) ∷ []

-- its arguments, its index and its copies are numbers; a view variable may be unassigned
abbrev pub plan_needs : Option LoopPlan → List (ℕ × Need)
plan_needs None = []
plan_needs (Some plan) =
    (plan.args.first, number) ∷ (plan.args.past, number) ∷ (plan.args.by, number) ∷ if_named plan.args.team ++ if_named plan.args.size
    ++ map (λ r. (r, number)) (copies_of (Some plan)) ++ map (λ v. (v.register, owned_need v.owned)) plan.views

abbrev pub registers_in : List (ℕ × Need) → List ℕ
registers_in asked = map (λ p. p.0) asked

-- what an instruction asks of the registers that it reads, and of those that the plan of its loop names
abbrev pub all_needs : ImageParts → RegKind → Instr → List (ℕ × Need)
all_needs image result i = needs result i ++ plan_needs (plan_of image i)
