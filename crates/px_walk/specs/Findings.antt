-- The rules that nodes of a tree break.
use Rattle.std.specs.Prelude.{◌≡◌, List, [], ◌∷◌, Contains, Option, Some, None}
use Rattle.px_base.specs.declared.refusals.Refusal.{Refusal}
use Rattle.px_base.specs.Findings.{first_of}
use Rattle.px_walk.specs.Roses.{Rose}

-- a rule says of a node in its context what it breaks there; a refusal is one that some of the nodes breaks
abbrev pub Breaks : {C H : Type 0} → (C → Rose H → Option Refusal) → List (C × Rose H) → Refusal → Type 0
Breaks {C = C} {H = H} rule nodes refusal = (node : C × Rose H) × Contains nodes node × (rule node.0 node.1 ≡ Some refusal)

-- of what a rule says of some nodes the first
abbrev pub finding : {C H : Type 0} → (C → Rose H → Option Refusal) → List (C × Rose H) → Option Refusal
finding rule [] = None
finding rule (node ∷ nodes) = first_of (rule node.0 node.1) (finding rule nodes)

-- the state of a visitor behind these nodes, in their order
abbrev pub visited : {S C H : Type 0} → (S → C → Rose H → S) → S → List (C × Rose H) → S
visited step state [] = state
visited step state (node ∷ nodes) = visited step (step state node.0 node.1) nodes
