-- Heads of nodes that are no statements whose types are built. (This file is written by a script.)
use Rattle.std.proofs.Common.{◌≡◌, ℕ, List, Bool, Bor, refl}
use Rattle.px_base.specs.declared.refusals.Span.{Span}
use Rattle.px_base.specs.declared.c_types.BinOp.{BinOp}
use Rattle.px_walk.specs.declared.heads.Head.{Head}
use Rattle.px_walk.specs.declared.heads.Head.TheVariants as head
use Rattle.px_walk.specs.ExprView.{Tree}
use Rattle.px_walk.specs.HeadForms.{form_of}
use Rattle.px_typed_walk.specs.TypedView.{TypedRose}
use Rattle.px_operators.specs.Outcomes.{Outcome, unbuilt}
use Rattle.px_environments.specs.Environments.{Environment}
use Rattle.px_types.specs.Statements.{statement_by}

pub other_statement : (environment : Environment) (looped : Bool) (number : ℕ) (at : Span) (parts : List Tree) (block : List (Outcome TypedRose)) (h : Head)
    → ((targets : ℕ) → h ≡ head.Assign targets → ⊥)
    → ((op : BinOp) → h ≡ head.Augment op → ⊥)
    → (h ≡ head.Pass → ⊥)
    → (h ≡ head.Break → ⊥)
    → (h ≡ head.Continue → ⊥)
    → (h ≡ head.Return → ⊥)
    → ((names : Bor (List (List ℕ))) → h ≡ head.Global names → ⊥)
    → ((arms : ℕ) (has_else : Bool) → h ≡ head.If arms has_else → ⊥)
    → (h ≡ head.Arm → ⊥)
    → (h ≡ head.While → ⊥)
    → (h ≡ head.For → ⊥)
    → (h ≡ head.Declare → ⊥)
    → (h ≡ head.DeclareGroup → ⊥)
    → statement_by environment looped (form_of h) number at parts block ≡ unbuilt at
other_statement environment looped number at parts block (head.Assign targets) no_Assign no_Augment no_Pass no_Break no_Continue no_Return no_Global no_If no_Arm no_While no_For no_Declare no_DeclareGroup = absurd (no_Assign targets refl)
other_statement environment looped number at parts block (head.Augment op) no_Assign no_Augment no_Pass no_Break no_Continue no_Return no_Global no_If no_Arm no_While no_For no_Declare no_DeclareGroup = absurd (no_Augment op refl)
other_statement environment looped number at parts block head.Pass no_Assign no_Augment no_Pass no_Break no_Continue no_Return no_Global no_If no_Arm no_While no_For no_Declare no_DeclareGroup = absurd (no_Pass refl)
other_statement environment looped number at parts block head.Break no_Assign no_Augment no_Pass no_Break no_Continue no_Return no_Global no_If no_Arm no_While no_For no_Declare no_DeclareGroup = absurd (no_Break refl)
other_statement environment looped number at parts block head.Continue no_Assign no_Augment no_Pass no_Break no_Continue no_Return no_Global no_If no_Arm no_While no_For no_Declare no_DeclareGroup = absurd (no_Continue refl)
other_statement environment looped number at parts block head.Return no_Assign no_Augment no_Pass no_Break no_Continue no_Return no_Global no_If no_Arm no_While no_For no_Declare no_DeclareGroup = absurd (no_Return refl)
other_statement environment looped number at parts block (head.Global names) no_Assign no_Augment no_Pass no_Break no_Continue no_Return no_Global no_If no_Arm no_While no_For no_Declare no_DeclareGroup = absurd (no_Global names refl)
other_statement environment looped number at parts block (head.If arms has_else) no_Assign no_Augment no_Pass no_Break no_Continue no_Return no_Global no_If no_Arm no_While no_For no_Declare no_DeclareGroup = absurd (no_If arms has_else refl)
other_statement environment looped number at parts block head.Arm no_Assign no_Augment no_Pass no_Break no_Continue no_Return no_Global no_If no_Arm no_While no_For no_Declare no_DeclareGroup = absurd (no_Arm refl)
other_statement environment looped number at parts block head.While no_Assign no_Augment no_Pass no_Break no_Continue no_Return no_Global no_If no_Arm no_While no_For no_Declare no_DeclareGroup = absurd (no_While refl)
other_statement environment looped number at parts block head.For no_Assign no_Augment no_Pass no_Break no_Continue no_Return no_Global no_If no_Arm no_While no_For no_Declare no_DeclareGroup = absurd (no_For refl)
other_statement environment looped number at parts block head.Declare no_Assign no_Augment no_Pass no_Break no_Continue no_Return no_Global no_If no_Arm no_While no_For no_Declare no_DeclareGroup = absurd (no_Declare refl)
other_statement environment looped number at parts block head.DeclareGroup no_Assign no_Augment no_Pass no_Break no_Continue no_Return no_Global no_If no_Arm no_While no_For no_Declare no_DeclareGroup = absurd (no_DeclareGroup refl)
other_statement environment looped number at parts block _ no_Assign no_Augment no_Pass no_Break no_Continue no_Return no_Global no_If no_Arm no_While no_For no_Declare no_DeclareGroup = refl
