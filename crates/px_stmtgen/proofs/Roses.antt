-- Loops over parts that find the greatest of numbers.
use Rattle.std.proofs.Common.{◌≡◌, ℕ, ◌+◌, ◌≤◌, max, List, drop, length, ap, ◌∙◌, arith}
use Rattle.std.specs.Prelude.{Some, slice_get}
use Rattle.std.proofs.lemmas.List.{drop_all}
use Rattle.px_tree.specs.declared.typed_heads.TypedHead.{TypedHead}
use Rattle.px_walk.specs.Roses.{Roses, rose, none, more, gathered, listed, head_of, parts_of}
use Rattle.px_walk.proofs.Walks.{gathered-listed}
use Rattle.px_typed_walk.specs.TypedView.{TypedRose}
use Rattle.px_exprgen.specs.Places.{capped}
use Rattle.px_exprgen.proofs.Parts.{drop_whole, drop_one}
use Rattle.px_stmtgen.specs.Sizes.{objects_by, objects, objects_below}

-- G is the greatest that F gives for parts
pub parts_first : (G : Roses TypedHead → ℕ) (trees : List TypedRose) → max 0 (capped (G (gathered (drop 0 trees)))) ≡ capped (G (gathered trees))
parts_first G trees =
    let e : G (gathered (drop 0 trees)) ≡ G (gathered trees) = ap (λ ts. G (gathered ts)) (drop_whole trees) in
    omega arith

pub parts_next : (F : TypedRose → ℕ) (G : Roses TypedHead → ℕ) → ((tree : TypedRose) (trees : Roses TypedHead) → G (more tree trees) ≡ max (F tree) (G trees))
    → (trees : List TypedRose) (k : ℕ) (part : TypedRose) (most result greater total : ℕ)
    → max most (capped (G (gathered (drop k trees)))) ≡ total → slice_get trees k ≡ Some part → result ≡ capped (F part) → greater ≡ max result most
    → max greater (capped (G (gathered (drop (k + 1) trees)))) ≡ total
parts_next F G step trees k part most result greater total so_far is r g =
    let e : G (gathered (drop k trees)) ≡ max (F part) (G (gathered (drop (k + 1) trees))) =
    ap (λ ts. G (gathered ts)) (drop_one trees k part is) ∙ step part (gathered (drop (k + 1) trees)) in
    omega arith

pub parts_last : (G : Roses TypedHead → ℕ) → G none ≡ 0 → (trees : List TypedRose) (k most total : ℕ)
    → max most (capped (G (gathered (drop k trees)))) ≡ total → length trees ≤ k → most ≡ total
parts_last G none_there trees k most total so_far past =
    let e : G (gathered (drop k trees)) ≡ 0 = ap (λ ts. G (gathered ts)) (drop_all k trees past) ∙ none_there in
    omega arith

pub objects_first : (tree : TypedRose) (h : TypedHead) (count most : ℕ) → h ≡ head_of tree → count ≡ length (parts_of tree) → most ≡ capped (objects_by h count)
    → max most (capped (objects_below (gathered (drop 0 (parts_of tree))))) ≡ capped (objects tree)
objects_first (rose head number at parts) h count most is c m =
    let p : objects_by h count ≡ objects_by head (length (listed parts)) = ap (λ h. objects_by h count) is ∙ ap (objects_by head) c in
    let g : objects_below (gathered (drop 0 (listed parts))) ≡ objects_below parts =
    ap (λ ts. objects_below (gathered ts)) (drop_whole (listed parts)) ∙ ap objects_below (gathered-listed parts) in
    omega arith
