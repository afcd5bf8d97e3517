-- Code by hand, and what it prints, how it ends and how many turns are left.
use Rattle.std.proofs.Common.{◌≡◌, ℕ, zero, suc, List, [], ◌∷◌, Option, Some, None, Bool, true, false, refl}
use Rattle.std.specs.Prelude.{ℤ, pos, negsuc, codes}
use Rattle.std.specs.Fmt.{digits}
use Rattle.px_base.specs.declared.c_types.CType.TheVariants as c
use Rattle.px_base.specs.declared.c_types.BinOp.TheVariants as op
use Rattle.px_base.specs.declared.c_types.UnOp.TheVariants as un
use Rattle.px_base.specs.declared.c_types.CmpOp.TheVariants as cmp
use Rattle.px_base.specs.declared.faults.Kind.TheVariants.{ZeroDivisionError, ValueError, TypeError, NameError, UnboundLocalError, RecursionError}
use Rattle.px_base.specs.declared.objects.Constant.{Constant}
use Rattle.px_base.specs.declared.objects.Constant.TheVariants as constant
use Rattle.px_ctypes.specs.Wrapping.{wrap}
use Rattle.px_ctypes.specs.Operators.{fault_of}
use Rattle.px_model.specs.declared.stores.Store.{Store}
use Rattle.px_regcode.specs.declared.operands.Register.{Register}
use Rattle.px_regcode.specs.declared.operands.RegKind.TheVariants as kind
use Rattle.px_regcode.specs.declared.codes.Code.{Code}
use Rattle.px_regcode.specs.declared.codes.Start.TheVariants as start
use Rattle.px_regcode.specs.declared.instructions.Instr.{Instr}
use Rattle.px_regcode.specs.declared.instructions.Instr.TheVariants as instr
use Rattle.px_regcode.specs.Images.{ImageParts}
use Rattle.px_meaning.specs.States.{holding}
use Rattle.px_meaning.specs.Modules.{first_state}
use Rattle.px_meaning.specs.Worlds.{World, with_stored}
use Rattle.px_meaning.specs.OneWorld.{first_store, first_world}
use Rattle.px_machine.specs.Slots.{Member, Rest, member}
use Rattle.px_machine.specs.Steps.{Step, went, loads, puts, fills, copies, makes, releases, enters, leaves, ended, stuck, MemberEnd, over, raised, spent}
use Rattle.px_machine.specs.Machine.{act, step}
use Rattle.px_machine.specs.Means.{rest_of, first_frame, first_member}
use Rattle.px_machine.specs.OneWorld.{output_of}

record Ran : Type 0 where
  last : MemberEnd
  output : List ℕ
  turns : ℕ

-- so many steps of the main member on one world, whose cells aren't used
abbrev ran : ℕ → ImageParts → Step → World → Option Ran
ran zero image s w = None
ran (suc n) image (went m) w = ran n image (step image m) w
ran (suc n) image (loads cell k) w = None
ran (suc n) image (puts cell word m) w = None
ran (suc n) image (fills cells word m) w = None
ran (suc n) image (copies pairs from to m) w = None
ran (suc n) image (makes buffer size m) w = None
ran (suc n) image (releases buffer m) w = None
ran (suc n) image (enters k) w = ran n image (went (k w.store)) w
ran (suc n) image (leaves store m) w = ran n image (went m) (with_stored store w)
ran (suc n) image (ended last rest) w = Some (record { last = last; output = output_of rest.store w; turns = rest.turns })
ran (suc n) image stuck w = None

abbrev r : ℕ → Register
r n = record { number = n }

abbrev code : ℕ → List Instr → Code
code registers instrs =
    record { name = []; params = []; result = kind.Empty; start = start.Held; registers = registers; instrs = instrs; lines = [] }

abbrev image : List Constant → List Code → ImageParts
image constants list = record { codes = list; loops = []; constants = constants }

-- the module of this code ends so with these turns
abbrev Ends : ImageParts → (turns : ℕ) → MemberEnd → (output : List ℕ) → (left : ℕ) → Type 0
Ends i turns last output left =
    ran 100 i (went (first_member i (holding (first_store 2 []) (first_state turns 4)))) (first_world 2 [])
    ≡ Some (record { last = last; output = output; turns = left })

-- 1. nothing but its end
finishes : Ends (image [] (code 0 (instr.Finish ∷ []) ∷ [])) 5 over [] 5
unfolding step act
finishes = refl

-- 2. a product that wraps, as an object, is printed and let go
prints : Ends (image [] (code 3 (
    instr.Const (r 0) (pos 100) ∷ instr.Const (r 1) (pos 100) ∷ instr.Binary op.Mul c.SChar (r 0) (r 0) (r 1) false ∷
    instr.Box c.SChar (r 2) (r 0) ∷ instr.Print (r 2 ∷ []) ∷ instr.Drop (r 2) ∷ instr.Finish ∷ []) ∷ [])) 5 over (codes "16\n") 5
unfolding step act wrap digits
prints = refl

-- 3. operands are converted first, but for the count of a shift: 300 of an unsigned char is 44; 1 << 8 has a count that is too large
converts : Ends (image [] (code 3 (
    instr.Const (r 0) (pos 300) ∷ instr.Const (r 1) (pos 300) ∷ instr.Compare cmp.Lt c.UChar (r 0) (r 0) (r 1) ∷ instr.Convert c.UChar (r 1) (r 1) ∷
    instr.Box c.Int (r 2) (r 1) ∷ instr.Print (r 2 ∷ []) ∷ instr.Drop (r 2) ∷
    instr.Const (r 0) (pos 1) ∷ instr.Const (r 1) (pos 264) ∷ instr.Binary op.Shl c.UChar (r 0) (r 0) (r 1) false ∷ instr.Finish ∷ []) ∷ []))
    5 (raised (fault_of ValueError 5)) (codes "44\n") 5
unfolding step act wrap digits
converts = refl

-- 4. a fault goes to the handler, which it clears; `throw` passes it on
throws : Ends (image [] (code 2 (
    instr.Handle 4 ∷ instr.Const (r 0) (pos 0) ∷ instr.Binary op.FloorDiv c.Long (r 1) (r 0) (r 0) false ∷ instr.Finish ∷
    instr.Const (r 1) (pos 7) ∷ instr.Box c.Long (r 0) (r 1) ∷ instr.Print (r 0 ∷ []) ∷ instr.Drop (r 0) ∷ instr.Throw ∷ []) ∷ []))
    5 (raised (fault_of ZeroDivisionError 1)) (codes "7\n") 5
unfolding step act wrap digits
throws = refl

-- 5. a `throw` without a fault is one of a wrong kind, and so is one behind `caught`, which took the fault
takes : Ends (image [] (code 3 (
    instr.Handle 4 ∷ instr.Const (r 0) (pos 0) ∷ instr.Binary op.Mod c.Long (r 1) (r 0) (r 0) false ∷ instr.Finish ∷
    instr.Caught (r 2) ∷ instr.Forget (r 2) ∷ instr.Throw ∷ []) ∷ [])) 5 (raised (fault_of TypeError 22)) [] 5
unfolding step act wrap
takes = refl

-- 6. a call spends a turn, has registers of its own, and its result goes into a register of the caller
calls : Ends (image [] (
    code 3 (instr.Const (r 0) (pos 5) ∷ instr.Call 1 (Some (r 1)) (r 0 ∷ []) ∷ instr.Box c.Long (r 2) (r 1) ∷ instr.Print (r 2 ∷ []) ∷ instr.Drop (r 2) ∷
    instr.Box c.Long (r 2) (r 0) ∷ instr.Print (r 2 ∷ []) ∷ instr.Drop (r 2) ∷ instr.Finish ∷ []) ∷
    code 2 (instr.Const (r 1) (pos 2) ∷ instr.Binary op.Sub c.Long (r 0) (r 0) (r 1) false ∷ instr.Return (r 0) ∷ []) ∷ []))
    5 over (codes "3\n5\n") 4
unfolding step act wrap digits
calls = refl

-- 7. without a turn the run is over
runs_out : Ends (image [] (
    code 0 (instr.Call 1 None [] ∷ instr.Call 1 None [] ∷ instr.Call 1 None [] ∷ instr.Finish ∷ []) ∷
    code 0 (instr.Finish ∷ []) ∷ [])) 2 spent [] 0
unfolding step act
runs_out = refl

-- 8. the 501st frame is a fault of the 500th one, and of all that wait for it; here 498 frames are below
deep : ImageParts
deep = image [] (code 0 (instr.Call 1 None [] ∷ instr.Finish ∷ []) ∷ code 0 (instr.Call 1 None [] ∷ instr.Finish ∷ []) ∷ [])

too_deep : ran 10 deep (went (member (first_frame deep) [] (rest_of 498 [] 1 (holding (first_store 2 []) (first_state 9 4))))) (first_world 2 [])
    ≡ Some (record { last = raised (fault_of RecursionError 31); output = []; turns = 7 })
unfolding step act deep
too_deep = refl

-- 9. a branch goes to its first target where the number isn't 0; a turn spends one
branches : Ends (image [] (code 3 (
    instr.Const (r 0) (pos 3) ∷ instr.Branch (r 0) 2 9 ∷ instr.Turn ∷
    instr.Box c.Long (r 1) (r 0) ∷ instr.Print (r 1 ∷ []) ∷ instr.Drop (r 1) ∷
    instr.Const (r 2) (pos 1) ∷ instr.Binary op.Sub c.Long (r 0) (r 0) (r 2) false ∷ instr.Jump 1 ∷ instr.Finish ∷ []) ∷ []))
    5 over (codes "3\n2\n1\n") 2
unfolding step act wrap digits
branches = refl

-- 10. names keep objects; one that isn't assigned is a fault
names : Ends (image (constant.None ∷ []) (code 2 (
    instr.Text (r 0) 0 ∷ instr.Share (r 1) (r 0) ∷ instr.Keep 1 (r 0) ∷ instr.Drop (r 1) ∷ instr.Fetch (r 1) 1 ∷ instr.Print (r 1 ∷ []) ∷
    instr.Drop (r 1) ∷ instr.Drop (r 1) ∷ instr.Fetch (r 1) 0 ∷ instr.Finish ∷ []) ∷ [])) 5 (raised (fault_of NameError 27)) (codes "None\n") 5
unfolding step act digits
names = refl

-- 11. the lock is given back and taken again; holds that stand in one another are counted
holds : Ends (image [] (code 2 (
    instr.Leave ∷ instr.Ticket ∷ instr.Enter ∷ instr.Ticket ∷ instr.Enter ∷ instr.Leave ∷
    instr.Const (r 0) (negsuc 0) ∷ instr.Box c.Long (r 1) (r 0) ∷ instr.Print (r 1 ∷ []) ∷ instr.Drop (r 1) ∷ instr.Leave ∷ instr.Finish ∷ []) ∷ []))
    5 over (codes "-1\n") 5
unfolding step act wrap digits
holds = refl

-- 12. an empty register is a fault where one is needed; a move of an object empties its register
needs : Ends (image [] (code 3 (
    instr.Members (r 0) ∷ instr.Box c.Bint (r 1) (r 0) ∷ instr.Move (r 2) (r 1) ∷ instr.Print (r 2 ∷ []) ∷ instr.Drop (r 2) ∷ instr.Need (r 0) ∷ instr.Need (r 1) ∷
    instr.Finish ∷ []) ∷ [])) 5 (raised (fault_of UnboundLocalError 26)) (codes "True\n") 5
unfolding step act
needs = refl

-- an object instruction without the lock does nothing that code may do
without_lock : ran 100 (image (constant.None ∷ []) (code 1 (instr.Leave ∷ instr.Text (r 0) 0 ∷ instr.Finish ∷ []) ∷ []))
    (went (first_member (image (constant.None ∷ []) (code 1 (instr.Leave ∷ instr.Text (r 0) 0 ∷ instr.Finish ∷ []) ∷ [])) (holding (first_store 2 []) (first_state 5 4)))) (first_world 2 [])
    ≡ None
unfolding step act
without_lock = refl
