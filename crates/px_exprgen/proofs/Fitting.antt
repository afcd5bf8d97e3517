-- The registers of a part are among those of its node.
use Rattle.std.proofs.Common.{◌≡◌, ℕ, ◌+◌, ◌≤◌, zero, suc, max, sym, ap, subst, ◌∙◌, arith}
use Rattle.std.specs.Prelude.{Some, slice_get}
use Rattle.px_tree.specs.declared.typed_values.ValueType.{ValueType}
use Rattle.px_tree.specs.declared.typed_heads.TypedHead.{TypedHead}
use Rattle.px_tree.specs.declared.typed_heads.TypedHead.TheVariants as head
use Rattle.px_walk.specs.Roses.{Roses, rose, none, more, listed, head_of, parts_of}
use Rattle.px_typed_walk.specs.TypedView.{TypedRose}
use Rattle.px_exprgen.specs.ExpressionCode.{width_by, width, widths, widest}
use Rattle.px_exprgen.specs.Places.{place_by, places, places_below}

pub behind_width : (trees : Roses TypedHead) (k : ℕ) (part : TypedRose) → slice_get (listed trees) k ≡ Some part → k + width part ≤ widths trees
behind_width none k part is = absurd cc
behind_width (more tree trees) zero part is = let same : tree ≡ part = cc in subst (λ t. 0 + width t ≤ widths (more tree trees)) same (omega arith)
behind_width (more tree trees) (suc k) part is = let le = behind_width trees k part is in omega arith

pub in_one_width : (trees : Roses TypedHead) (k : ℕ) (part : TypedRose) → slice_get (listed trees) k ≡ Some part → width part ≤ widest trees
in_one_width none k part is = absurd cc
in_one_width (more tree trees) zero part is = let same : tree ≡ part = cc in subst (λ t. width t ≤ widest (more tree trees)) same (omega arith)
in_one_width (more tree trees) (suc k) part is = let le = in_one_width trees k part is in omega arith

pub below_places : (trees : Roses TypedHead) (k : ℕ) (part : TypedRose) → slice_get (listed trees) k ≡ Some part → places part ≤ places_below trees
below_places none k part is = absurd cc
below_places (more tree trees) zero part is = let same : tree ≡ part = cc in subst (λ t. places t ≤ places_below (more tree trees)) same (omega arith)
below_places (more tree trees) (suc k) part is = let le = below_places trees k part is in omega arith

pub part_fits : (tree : TypedRose) (h : TypedHead) (d k first : ℕ) (part : TypedRose) → h ≡ head_of tree → ((a b : ℕ) → width_by h a b ≡ max 1 a)
    → d + width tree ≤ 4294967295 → first ≡ d + k → slice_get (parts_of tree) k ≡ Some part → first + width part ≤ 4294967295
part_fits (rose head number at parts) h d k first part is behind fits f there =
    let w : width_by head (widths parts) (widest parts) ≡ max 1 (widths parts) =
    ap (λ h. width_by h (widths parts) (widest parts)) (sym is) ∙ behind (widths parts) (widest parts) in
    let le = behind_width parts k part there in
    omega arith

pub step_fits : (tree : TypedRose) (t : ValueType) (d k : ℕ) (part : TypedRose) → head.Steps t ≡ head_of tree
    → d + width tree ≤ 4294967295 → slice_get (parts_of tree) k ≡ Some part → d + width part ≤ 4294967295
step_fits (rose head number at parts) t d k part is fits there =
    let w : width_by head (widths parts) (widest parts) ≡ max 1 (widest parts) = ap (λ h. width_by h (widths parts) (widest parts)) (sym is) in
    let le = in_one_width parts k part there in
    omega arith

pub part_places : (tree part : TypedRose) (k : ℕ) → slice_get (parts_of tree) k ≡ Some part → places tree ≤ 4294967295 → places part ≤ 4294967295
part_places (rose head number at parts) part k there fits = let le = below_places parts k part there in omega arith

-- the place of a node's own name
pub place_here : (tree : TypedRose) (h : TypedHead) → h ≡ head_of tree → places tree ≤ 4294967295 → place_by h ≤ 4294967295
place_here (rose head number at parts) h is fits =
    let p : place_by h ≡ place_by head = ap place_by is in
    omega arith
