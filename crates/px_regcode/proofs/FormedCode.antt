-- Code that is formed, by a listed table: the empty module, and straight code with a call, an object and a handler.
use Rattle.std.proofs.Common.{◌≡◌, ◌≢◌, ℕ, suc, pos, true, false, List, [], ◌∷◌, slice_get, codes, Some, None, Contains, refl, arith}
use Rattle.px_base.specs.declared.c_types.BinOp.TheVariants as op
use Rattle.px_base.specs.declared.c_types.CType.TheVariants.{Long}
use Rattle.px_regcode.specs.declared.operands.Register.{Register}
use Rattle.px_regcode.specs.declared.operands.RegKind.TheVariants as kind
use Rattle.px_regcode.specs.declared.codes.Code.{Code}
use Rattle.px_regcode.specs.declared.codes.Start.TheVariants as start
use Rattle.px_regcode.specs.declared.plans.LoopPlan.{LoopPlan}
use Rattle.px_regcode.specs.declared.instructions.Instr.{Instr}
use Rattle.px_regcode.specs.declared.instructions.Instr.TheVariants as instr
use Rattle.px_regcode.specs.Images.{ImageParts}
use Rattle.px_regcode.specs.Effects.{is_object, may_fault, reads, writes, gives_whole, gives_object, empties}
use Rattle.px_regcode.specs.Operands.{targets, takes}
use Rattle.px_regcode.specs.Facts.{State, empty, whole, object, FrameFact, frame_fact, outside, successors, frame_done, frame_after, makes}
use Rattle.px_regcode.specs.Facts.{derives, hands_on}
use Rattle.px_regcode.specs.Shapes.{IsShaped, needs}
use Rattle.px_regcode.specs.Plans.{IsPlan}
use Rattle.px_regcode.specs.Formed.{IsFormed, IsModule, IsName, IsCode, IsKind, StandsIn, owning_writes}
use Rattle.px_regcode.specs.Listed.{Place, frames_of, registers_of, is_closed, keeps_rules, AllStated, same_state, same_fact, is_of_kind}
use Rattle.px_regcode.specs.Listed.{meets}
use Rattle.px_regcode.proofs.Tests.{Each, each_at, each_in}
use Rattle.px_regcode.proofs.Tables.{is_formed}
use Rattle.px_regcode.proofs.ListedTables.{is_table}
use Rattle.px_regcode.proofs.ListedRules.{rules_kept}

-- An image is formed where a listed table of it passes the two tests, and its plans are right.
pub formed_by_test : (first : Code) (functions : List Code) (image : ImageParts) (table : List (List Place))
    → image.codes ≡ first ∷ functions
    → is_closed image table ≡ true → keeps_rules image table ≡ true → AllStated image table 0 image.codes
    → IsModule first → Each (λ c. IsName c.name) functions → Each IsCode image.codes
    → ((n : ℕ) (plan : LoopPlan) → slice_get image.loops n ≡ Some plan → IsPlan image n plan) → IsFormed image
formed_by_test first functions image table is closed kept stated is_module named coded planned =
    is_formed image (frames_of table) (registers_of table) (record {
      first = first;
      is_first = rw is refl;
      is_module = is_module;
      names = λ f code at. each_at (λ c. IsName c.name) functions named f code (among is f code at);
      functions = λ f code at. each_at IsCode image.codes coded f code at;
      plans = planned;
      table = is_table image table closed;
      rules = rules_kept image table kept stated;
    })
  where
    among : {first : Code} {functions : List Code} {cs : List Code} → cs ≡ first ∷ functions → (f : ℕ) (code : Code)
        → slice_get cs (suc f) ≡ Some code → slice_get functions f ≡ Some code
    among is f code at = cc

no_plan : {image : ImageParts} (n : ℕ) (plan : LoopPlan) → slice_get {X = LoopPlan} [] n ≡ Some plan → IsPlan image n plan
no_plan n plan at = cc

-- ---- the empty module

abbrev r : ℕ → Register
r n = record { number = n }

abbrev entry : FrameFact
entry = frame_fact None (pos 0) outside

abbrev empty_code : Code
empty_code = record {
  name = codes "module";
  params = [];
  result = kind.Empty;
  start = start.Held;
  registers = 0;
  instrs = instr.Finish ∷ [];
  lines = 1 ∷ [];
}

abbrev empty_image : ImageParts
empty_image = record { codes = empty_code ∷ []; loops = []; constants = [] }

abbrev empty_table : List (List Place)
empty_table = (record { frame = Some entry; registers = []; rank = 0 } ∷ []) ∷ []

empty_closed : is_closed empty_image empty_table ≡ true
unfolding is_closed successors same_fact
empty_closed = refl

empty_kept : keeps_rules empty_image empty_table ≡ true
unfolding keeps_rules reads writes empties takes targets successors may_fault is_object needs owning_writes gives_object
empty_kept = refl

empty_stated : AllStated empty_image empty_table 0 empty_image.codes
unfolding IsShaped StandsIn
empty_stated = (((refl, tt, tt), tt), tt)

pub empty_module_is_formed : IsFormed empty_image
empty_module_is_formed =
    formed_by_test empty_code [] empty_image empty_table refl empty_closed empty_kept empty_stated
    (record { name = refl; start = refl; result = refl; params = refl }) tt (
      record {
        some = omega arith;
        lines = refl;
        room = omega arith;
        kinds = λ k named. each_in IsKind (kind.Empty ∷ []) (tt, tt) k named;
      },
      tt,
    )
    no_plan

-- ---- straight code: a sum is given to a function, and what it gives is printed

abbrev twice : Code
twice = record {
  name = codes "same";
  params = kind.Whole ∷ [];
  result = kind.Whole;
  start = start.Any;
  registers = 2;
  instrs = instr.Move (r 1) (r 0) ∷ instr.Return (r 1) ∷ [];
  lines = 1 ∷ 2 ∷ [];
}

abbrev printing : List Instr
printing =
    instr.Const (r 0) (pos 2) ∷ instr.Move (r 1) (r 0) ∷ instr.Binary op.Add Long (r 2) (r 0) (r 1) true
    ∷ instr.Call 1 (Some (r 3)) (r 2 ∷ []) ∷ instr.Handle 9 ∷ instr.Box Long (r 4) (r 3) ∷ instr.Print (r 4 ∷ [])
    ∷ instr.Drop (r 4) ∷ instr.Finish ∷ instr.Drop (r 4) ∷ instr.Throw ∷ []

abbrev straight_code : Code
straight_code = record {
  name = codes "module";
  params = [];
  result = kind.Empty;
  start = start.Held;
  registers = 5;
  instrs = printing;
  lines = 4 ∷ 4 ∷ 4 ∷ 5 ∷ 6 ∷ 6 ∷ 6 ∷ 6 ∷ 1 ∷ 6 ∷ 6 ∷ [];
}

abbrev straight_image : ImageParts
straight_image = record { codes = straight_code ∷ twice ∷ []; loops = []; constants = [] }

abbrev with_handler : FrameFact
with_handler = frame_fact (Some 9) (pos 0) outside

abbrev five : State → State → State → State → List State → List (ℕ × State)
five a b c d [] = (0, a) ∷ (1, b) ∷ (2, c) ∷ (3, d) ∷ []
five a b c d (e ∷ es) = (4, e) ∷ five a b c d es

abbrev at : FrameFact → List (ℕ × State) → ℕ → Place
at fact registers rank = record { frame = Some fact; registers = registers; rank = rank }

abbrev straight_table : List (List Place)
straight_table =
    (at entry (five empty empty empty empty (empty ∷ [])) 11
    ∷ at entry (five whole empty empty empty (empty ∷ [])) 10
    ∷ at entry (five whole whole empty empty (empty ∷ [])) 9
    ∷ at entry (five whole whole whole empty (empty ∷ [])) 8
    ∷ at entry (five whole whole whole whole (empty ∷ [])) 7
    ∷ at with_handler (five whole whole whole whole (empty ∷ [])) 6
    ∷ at with_handler (five whole whole whole whole (object false ∷ [])) 5
    ∷ at with_handler (five whole whole whole whole (object false ∷ [])) 4
    ∷ at with_handler (five whole whole whole whole (empty ∷ [])) 3
    ∷ at entry (five whole whole whole whole (empty ∷ object false ∷ [])) 2
    ∷ at entry (five whole whole whole whole (empty ∷ [])) 1 ∷ [])
    ∷ (at entry ((0, whole) ∷ (1, empty) ∷ []) 2 ∷ at entry ((0, whole) ∷ (1, whole) ∷ []) 1 ∷ []) ∷ []

straight_closed : is_closed straight_image straight_table ≡ true
unfolding is_closed successors same_fact same_state frame_after frame_done may_fault writes gives_whole gives_object empties makes derives
    hands_on
straight_closed = refl

straight_kept : keeps_rules straight_image straight_table ≡ true
unfolding keeps_rules reads writes empties takes targets successors may_fault is_object needs owning_writes gives_object is_of_kind meets
straight_kept = refl

straight_stated : AllStated straight_image straight_table 0 straight_image.codes
unfolding IsShaped StandsIn
straight_stated =
    let plain : Unit {0} × Unit {0} × Unit {0} = (tt, tt, tt) in (
      (
        ((record { le = tt }, record { le = tt }), tt, tt),
        (
          plain,
          (
            ((λ is. cc), tt, tt),
            (
              (record { code = twice; is_there = refl; arguments = refl; result = tt }, tt, tt),
              (plain, (plain, (plain, (plain, ((refl, tt, tt), (plain, (plain, tt))))))),
            ),
          ),
        ),
      ),
      ((plain, ((tt, (λ is. cc), tt), tt)), tt),
    )

-- a name without a character
pub spared : (c : ℕ) (name : List ℕ) → Each (λ x. x ≢ c) name → Contains name c → ⊥
spared c name each named = each_in (λ x. x ≢ c) name each c named refl

pub straight_code_is_formed : IsFormed straight_image
straight_code_is_formed =
    formed_by_test straight_code (twice ∷ []) straight_image straight_table refl straight_closed straight_kept straight_stated
    (record { name = refl; start = refl; result = refl; params = refl }) (
      (
        (λ is. cc),
        spared 32 (codes "same") (omega arith, (omega arith, (omega arith, (omega arith, tt)))),
        spared 10 (codes "same")
            (omega arith, (omega arith, (omega arith, (omega arith, tt)))),
      ),
      tt,
    ) (
      record { some = omega arith; lines = refl; room = omega arith; kinds = λ k named. each_in IsKind (kind.Empty ∷ []) (tt, tt) k named },
      (
        record {
          some = omega arith;
          lines = refl;
          room = omega arith;
          kinds = λ k named. each_in IsKind (kind.Whole ∷ kind.Whole ∷ [])
              (tt, (tt, tt)) k named;
        },
        tt,
      ),
    )
    no_plan
