-- The typed tree as rose trees, by one equation.
use Rattle.std.proofs.Common.{◌≡◌, ℕ, zero, suc, List, [], ◌∷◌, length, map, refl, sym, ap, ◌∙◌}
use Rattle.std.specs.Prelude.{slice_get, option_map}
use Rattle.px_tree.specs.declared.typed_trees.TypedTree.{TypedTree, out-TypedTree}
use Rattle.px_tree.specs.declared.typed_trees.TypedTree.TheFolds.{fold_out-TypedTree}
use Rattle.px_walk.specs.Roses.{Rose, listed, gathered, parts_of}
use Rattle.px_typed_walk.specs.TypedView.{TypedRose, typed_node, typed_layer, rose_of_typed}

pub typed_is : (tree : TypedTree) → rose_of_typed tree
    ≡ typed_node (out-TypedTree tree).head (out-TypedTree tree).number (out-TypedTree tree).at (map rose_of_typed (out-TypedTree tree).parts)
unfolding rose_of_typed
typed_is tree = fold_out-TypedTree TypedRose typed_layer tree

listed_gathered : {H : Type 0} (trees : List (Rose H)) → listed (gathered trees) ≡ trees
listed_gathered [] = refl
listed_gathered (tree ∷ trees) = ap (λ rest. tree ∷ rest) (listed_gathered trees)

-- the parts of a node
pub parts_are : (tree : TypedTree) → parts_of (rose_of_typed tree) ≡ map rose_of_typed (out-TypedTree tree).parts
parts_are tree = ap parts_of (typed_is tree) ∙ listed_gathered (map rose_of_typed (out-TypedTree tree).parts)

length_map : {A B : Type 0} (f : A → B) (xs : List A) → length (map f xs) ≡ length xs
length_map f [] = refl
length_map f (x ∷ xs) = ap suc (length_map f xs)

pub count_is : (tree : TypedTree) → length (parts_of (rose_of_typed tree)) ≡ length (out-TypedTree tree).parts
count_is tree = ap length (parts_are tree) ∙ length_map rose_of_typed (out-TypedTree tree).parts

get_map : {A B : Type 0} (f : A → B) (xs : List A) (k : ℕ) → slice_get (map f xs) k ≡ option_map f (slice_get xs k)
get_map f [] k = refl
get_map f (x ∷ xs) zero = refl
get_map f (x ∷ xs) (suc k) = get_map f xs k

pub part_is : (tree : TypedTree) (k : ℕ) → slice_get (parts_of (rose_of_typed tree)) k ≡ option_map rose_of_typed (slice_get (out-TypedTree tree).parts k)
part_is tree k = ap (λ trees. slice_get trees k) (parts_are tree) ∙ get_map rose_of_typed (out-TypedTree tree).parts k
