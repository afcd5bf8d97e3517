-- What stands at places of lists of parts.
use Rattle.std.proofs.Common.{◌≡◌, Bool, true, false, ℕ, zero, suc, List, [], ◌∷◌, map, slice_get, Option, refl, ap, sym, ◌∙◌}
use Rattle.std.specs.Prelude.{option_map, ◌&&◌}
use Rattle.px_base.specs.declared.c_types.CType.{CType}
use Rattle.px_tree.specs.declared.typed_values.ValueType.{ValueType}
use Rattle.px_tree.specs.declared.typed_trees.TypedTree.{TypedTree, out-TypedTree}
use Rattle.px_walk.specs.Roses.{gathered}
use Rattle.px_typed_walk.specs.TypedView.{rose_of_typed, type_of}
use Rattle.px_typed_walk.proofs.TypedEquations.{typed_is}
use Rattle.px_code_laws.specs.Fine.{types_of}
use Rattle.px_compile.specs.Fits.{are_steps, head_fits, parts_fit, tree_fits}

-- the type of the part of a number
pub type_there : (trees : List TypedTree) (k : ℕ)
    → slice_get (types_of (gathered (map rose_of_typed trees))) k ≡ option_map (λ tree. type_of (rose_of_typed tree)) (slice_get trees k)
type_there [] k = refl
type_there (tree ∷ trees) zero = refl
type_there (tree ∷ trees) (suc k) = type_there trees k

-- a tree fits by its head and its parts
pub tree_is : (locals : List ValueType) (at_hand : Option CType) (tree : TypedTree) (parts : List TypedTree) → parts ≡ (out-TypedTree tree).parts
    → tree_fits locals at_hand (rose_of_typed tree)
    ≡ (head_fits locals at_hand (out-TypedTree tree).head (types_of (gathered (map rose_of_typed parts)))
    && parts_fit locals at_hand (are_steps (out-TypedTree tree).head) (gathered (map rose_of_typed parts)))
tree_is locals at_hand tree parts is =
    ap (tree_fits locals at_hand) (typed_is tree)
    ∙ ap (λ (ps : List TypedTree). head_fits locals at_hand (out-TypedTree tree).head (types_of (gathered (map rose_of_typed ps)))
    && parts_fit locals at_hand (are_steps (out-TypedTree tree).head) (gathered (map rose_of_typed ps))) (sym is)

first_holds : (a b : Bool) → a ≡ true → (a && b) ≡ b
first_holds a b is = ap (λ x. x && b) is

first_fails : (a b : Bool) → a ≡ false → (a && b) ≡ false
first_fails a b is = ap (λ x. x && b) is

pub tree_then : (locals : List ValueType) (at_hand : Option CType) (tree : TypedTree) (parts : List TypedTree) (steps ok fit : Bool)
    → parts ≡ (out-TypedTree tree).parts
    → ok ≡ head_fits locals at_hand (out-TypedTree tree).head (types_of (gathered (map rose_of_typed parts)))
    → steps ≡ are_steps (out-TypedTree tree).head → fit ≡ parts_fit locals at_hand steps (gathered (map rose_of_typed parts)) → ok ≡ true
    → fit ≡ tree_fits locals at_hand (rose_of_typed tree)
tree_then locals at_hand tree parts steps ok fit is head_ok are_is fit_is holds =
    fit_is
    ∙ (ap (λ s. parts_fit locals at_hand s (gathered (map rose_of_typed parts))) are_is
    ∙ sym (tree_is locals at_hand tree parts is ∙ first_holds _ _ (sym head_ok ∙ holds)))

pub tree_else : (locals : List ValueType) (at_hand : Option CType) (tree : TypedTree) (parts : List TypedTree) (ok : Bool)
    → parts ≡ (out-TypedTree tree).parts
    → ok ≡ head_fits locals at_hand (out-TypedTree tree).head (types_of (gathered (map rose_of_typed parts))) → ok ≡ false
    → ok ≡ tree_fits locals at_hand (rose_of_typed tree)
tree_else locals at_hand tree parts ok is head_ok fails =
    fails ∙ sym (tree_is locals at_hand tree parts is ∙ first_fails _ _ (sym head_ok ∙ fails))
