-- A table that the entries are in, and that each instruction keeps, has all facts; and rules that what it has keeps are kept by the facts.
use Rattle.std.proofs.Common.{ℕ, pos, Bool, None}
use Rattle.px_regcode.specs.declared.codes.Code.{Code}
use Rattle.px_regcode.specs.declared.plans.LoopPlan.{LoopPlan}
use Rattle.px_regcode.specs.declared.instructions.Instr.{Instr}
use Rattle.px_regcode.specs.Images.{ImageParts}
use Rattle.px_regcode.specs.Facts.{State, FrameFact, frame_fact, inside, to_look, FrameMay, RegisterMay}
use Rattle.px_regcode.specs.Paths.{FreePath, Reaches}
use Rattle.px_regcode.specs.Plans.{BodyMay}
use Rattle.px_regcode.specs.Formed.{KeepsRules, Rule, shape, kinds, references, views, order, Keeps, KeepsShape, KeepsKinds}
use Rattle.px_regcode.specs.Formed.{KeepsReferences}
use Rattle.px_regcode.specs.Formed.{KeepsViews, KeepsOrder, IsFormed}
use Rattle.px_regcode.specs.Tables.{IsTable, IsFormedBy}

-- ---- facts

module _ (image : ImageParts) (frames : ℕ → ℕ → FrameFact → Type 0) (registers : ℕ → ℕ → ℕ → State → Type 0)
    (t : IsTable image frames registers) where
  pub has_frames : (f pc : ℕ) (fact : FrameFact) → FrameMay image f pc fact → frames f pc fact
  has_frames f pc fact (FrameMay.entry lt) = t.entry f lt
  has_frames f pc fact (FrameMay.follows {pc = from} {i} {way} {fact = was} before at next) =
      t.follows f from pc i way was (has_frames f from was before) at next

  pub has_registers : (f pc r : ℕ) (s : State) → RegisterMay image f pc r s → registers f pc r s
  has_registers f pc r s (RegisterMay.entry {code} is lt) = t.parameters f r code is lt
  has_registers f pc r s (RegisterMay.made {pc = from} {i} {way} {fact} here at next makes) =
      t.made f from pc r i way fact s (has_frames f from fact here) at next makes
  has_registers f pc r s (RegisterMay.handed {pc = from} {r = other} {i} {way} {fact} {s = was} here at next before hands) =
      t.handed f from pc other r i way fact was s (has_frames f from fact here) at next (has_registers f from other was before) hands

  -- the code of a loop, where the table has its start
  pub has_body : (n : ℕ) (plan : LoopPlan) → frames plan.function plan.start (frame_fact None (pos 0) (inside n to_look))
      → (pc : ℕ) (fact : FrameFact) → BodyMay image n plan pc fact → frames plan.function pc fact
  has_body n plan starts pc fact BodyMay.entry = starts
  has_body n plan starts pc fact (BodyMay.follows {pc = from} {i} {way} {fact = was} before at next) =
      t.follows plan.function from pc i way was (has_body n plan starts from was before) at next

-- ---- rules

module _ (image : ImageParts) (frames fewer : ℕ → ℕ → FrameFact → Type 0) (less : (f pc : ℕ) (fact : FrameFact) → fewer f pc fact
    → frames f pc fact) where
  pub free_path : (f pc to : ℕ) → FreePath image fewer f pc to → FreePath image frames f pc to
  free_path f pc to (FreePath.step {i} {way} {fact} here at free next) = FreePath.step (less f pc fact here) at free next
  free_path f pc to (FreePath.steps {mid} p q) = FreePath.steps (free_path f pc mid p) (free_path f mid to q)

  pub reaches : (such : Instr → Bool) (f : ℕ) → Reaches image fewer such f → Reaches image frames such f
  reaches such f (Reaches.itself {pc} {fact} here at is) = Reaches.itself (less f pc fact here) at is
  reaches such f (Reaches.by_call {pc} {g} {fact} here at calls below) =
      Reaches.by_call (less f pc fact here) at calls (reaches such g below)

module _
    (image : ImageParts) (frames fewer : ℕ → ℕ → FrameFact → Type 0) (registers rarer : ℕ → ℕ → ℕ → State → Type 0)
    (less : (f pc : ℕ) (fact : FrameFact) → fewer f pc fact → frames f pc fact)
    (rare : (f pc r : ℕ) (s : State) → rarer f pc r s → registers f pc r s) where
  shape_of : (f pc : ℕ) (code : Code) (i : Instr) (fact : FrameFact) → KeepsShape image frames registers f pc code i fact
      → KeepsShape image fewer rarer f pc code i fact
  shape_of f pc code i fact k = record {
    named = k.named;
    followers = k.followers;
    places = k.places;
    shaped = k.shaped;
    arguments = λ other n a kind s called given parameter may. k.arguments other n a kind s called given parameter
        (rare f pc a.number s may);
    no_free_path = λ p. k.no_free_path (free_path image frames fewer less f pc pc p);
    own_plan = k.own_plan;
    plan_kinds = λ r need s asked may. k.plan_kinds r need s asked (rare f pc r s may);
  }

  kinds_of : (f pc : ℕ) (code : Code) (i : Instr) → KeepsKinds image registers f pc code i → KeepsKinds image rarer f pc code i
  kinds_of f pc code i k = record {
    kinds = λ r need s asked may. k.kinds r need s asked (rare f pc r s may);
    given = k.given;
  }

  references_of : (f pc : ℕ) (i : Instr) (fact : FrameFact) → KeepsReferences image registers f pc i fact
      → KeepsReferences image rarer f pc i fact
  references_of f pc i fact k = record {
    kept = λ r s writes may. k.kept r s writes (rare f pc r s may);
    taken_once = λ r s takes may. k.taken_once r s takes (rare f pc r s may);
    written_once = k.written_once;
    none_left = λ r s ends may. k.none_left r s ends (rare f pc r s may);
    none_behind = λ r s ends may. k.none_behind r s ends (rare f pc r s may);
    untaken = λ r s takes may. k.untaken r s takes (rare f pc r s may);
  }

  views_of : (f pc : ℕ) (code : Code) (i : Instr) → KeepsViews image registers f pc code i → KeepsViews image rarer f pc code i
  views_of f pc code i k = record {
    given = λ r rank from gone gets may. k.given r rank from gone gets (rare f pc r _ may);
    acquired = λ r rank stood acquires may. k.acquired r rank stood acquires (rare f pc r _ may);
    live = λ r rank from asked may. k.live r rank from asked (rare f pc r _ may);
  }

  order_of : (f pc : ℕ) (code : Code) (i : Instr) (fact : FrameFact) → KeepsOrder image frames f pc code i fact
      → KeepsOrder image fewer f pc code i fact
  order_of f pc code i fact k = record {
    locked = k.locked;
    tickets = k.tickets;
    enters = λ is from before way was may. k.enters is from before way was (less f from was may);
    begins = k.begins;
    ends = k.ends;
    between = k.between;
    no_more = k.no_more;
    no_less = k.no_less;
    stands = k.stands;
    no_inner_loop = λ g n phase calls is below. k.no_inner_loop g n phase calls is (reaches image frames fewer less _ g below);
    no_inner_members = λ g n phase calls is below. k.no_inner_members g n phase calls is (reaches image frames fewer less _ g below);
    one = λ other may. k.one other (less f pc other may);
  }

  -- a rule that facts keep is kept by fewer
  pub keeps : (f pc : ℕ) (code : Code) (i : Instr) (fact : FrameFact) (rule : Rule) → Keeps image frames registers f pc code i fact rule
      → Keeps image fewer rarer f pc code i fact rule
  unfolding Keeps
  keeps f pc code i fact shape k = shape_of f pc code i fact k
  keeps f pc code i fact kinds k = kinds_of f pc code i k
  keeps f pc code i fact references k = references_of f pc i fact k
  keeps f pc code i fact views k = views_of f pc code i k
  keeps f pc code i fact order k = order_of f pc code i fact k

-- ---- images

pub kept_by_facts : (image : ImageParts) (frames : ℕ → ℕ → FrameFact → Type 0) (registers : ℕ → ℕ → ℕ → State → Type 0)
    → IsTable image frames registers → KeepsRules image frames registers → KeepsRules image (FrameMay image) (RegisterMay image)
kept_by_facts image frames registers table rules f pc code i fact rule is at may =
    let less = has_frames image frames registers table in
    let rare = has_registers image frames registers table in
    keeps image frames (FrameMay image) registers (RegisterMay image) less rare f pc code i fact rule
    (rules f pc code i fact rule is at (less f pc fact may))

pub is_formed : (image : ImageParts) (frames : ℕ → ℕ → FrameFact → Type 0) (registers : ℕ → ℕ → ℕ → State → Type 0)
    → IsFormedBy image frames registers
    → IsFormed image
is_formed image frames registers by = record {
  first = by.first;
  is_first = by.is_first;
  is_module = by.is_module;
  names = by.names;
  functions = by.functions;
  plans = by.plans;
  rules = kept_by_facts image frames registers by.table by.rules;
}
