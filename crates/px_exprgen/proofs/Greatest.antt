-- Loops that find the greatest of numbers, and what it is then.
use Rattle.std.proofs.Common.{◌≡◌, ℕ, ◌+◌, ◌≤◌, suc, min, max, List, drop, length, sym, ap, ◌∙◌, arith}
use Rattle.std.specs.Prelude.{Some, slice_get}
use Rattle.std.proofs.lemmas.List.{drop_all}
use Rattle.px_tree.specs.declared.typed_values.ValueType.{ValueType}
use Rattle.px_tree.specs.declared.typed_heads.TypedHead.{TypedHead}
use Rattle.px_tree.specs.declared.typed_heads.TypedHead.TheVariants as head
use Rattle.px_walk.specs.Roses.{rose, gathered, listed, head_of, parts_of}
use Rattle.px_walk.proofs.Walks.{gathered-listed}
use Rattle.px_typed_walk.specs.TypedView.{TypedRose}
use Rattle.px_exprgen.specs.ExpressionCode.{width_by, width, widths, widest}
use Rattle.px_exprgen.specs.Places.{capped, place_by, places, places_below}
use Rattle.px_exprgen.proofs.Parts.{drop_whole, drop_one}
use Rattle.px_exprgen.proofs.OtherHeads.{other_width}

-- ---- registers in one

pub widest_first : (trees : List TypedRose) → max 0 (capped (widest (gathered (drop 0 trees)))) ≡ capped (widest (gathered trees))
widest_first trees =
    let e : widest (gathered (drop 0 trees)) ≡ widest (gathered trees) = ap (λ ts. widest (gathered ts)) (drop_whole trees) in
    omega arith

pub widest_next : (trees : List TypedRose) (k : ℕ) (part : TypedRose) (most result greater total : ℕ)
    → max most (capped (widest (gathered (drop k trees)))) ≡ total → slice_get trees k ≡ Some part → result ≡ capped (width part) → greater ≡ max result most
    → max greater (capped (widest (gathered (drop (k + 1) trees)))) ≡ total
widest_next trees k part most result greater total so_far is r g =
    let e : widest (gathered (drop k trees)) ≡ max (width part) (widest (gathered (drop (k + 1) trees))) = ap (λ ts. widest (gathered ts)) (drop_one trees k part is) in
    omega arith

pub widest_last : (trees : List TypedRose) (k most total : ℕ)
    → max most (capped (widest (gathered (drop k trees)))) ≡ total → length trees ≤ k → most ≡ total
widest_last trees k most total so_far past =
    let e : widest (gathered (drop k trees)) ≡ 0 = ap (λ ts. widest (gathered ts)) (drop_all k trees past) in
    omega arith

-- ---- registers behind one another

pub widths_first : (trees : List TypedRose) → capped (max 0 (0 + widths (gathered (drop 0 trees)))) ≡ capped (widths (gathered trees))
widths_first trees =
    let e : widths (gathered (drop 0 trees)) ≡ widths (gathered trees) = ap (λ ts. widths (gathered ts)) (drop_whole trees) in
    omega arith

pub widths_next : (trees : List TypedRose) (k : ℕ) (part : TypedRose) (most result behind greater total : ℕ)
    → capped (max most (k + widths (gathered (drop k trees)))) ≡ total → slice_get trees k ≡ Some part → result ≡ capped (width part)
    → behind ≡ min (result + k) 18446744073709551615 → greater ≡ max behind most
    → capped (max greater (k + 1 + widths (gathered (drop (k + 1) trees)))) ≡ total
widths_next trees k part most result behind greater total so_far is r b g =
    let e : widths (gathered (drop k trees)) ≡ max (width part) (suc (widths (gathered (drop (k + 1) trees)))) = ap (λ ts. widths (gathered ts)) (drop_one trees k part is) in
    omega arith

pub widths_last : (trees : List TypedRose) (k most count greater result total : ℕ)
    → capped (max most (k + widths (gathered (drop k trees)))) ≡ total → length trees ≤ k → k ≤ length trees → count ≡ length trees
    → greater ≡ max count most → result ≡ min greater 4294967296 → result ≡ total
widths_last trees k most count greater result total so_far past not_past c g r =
    let e : widths (gathered (drop k trees)) ≡ 0 = ap (λ ts. widths (gathered ts)) (drop_all k trees past) in
    omega arith

-- ---- registers of a node

pub width_steps : (tree : TypedRose) (t : ValueType) (inner result : ℕ) → head.Steps t ≡ head_of tree
    → inner ≡ capped (widest (gathered (parts_of tree))) → result ≡ max inner 1 → result ≡ capped (width tree)
width_steps (rose head number at parts) t inner result is i r =
    let w : width_by head (widths parts) (widest parts) ≡ max 1 (widest parts) = ap (λ h. width_by h (widths parts) (widest parts)) (sym is) in
    let g : widest (gathered (listed parts)) ≡ widest parts = ap widest (gathered-listed parts) in
    omega arith

pub width_other : (tree : TypedRose) (h : TypedHead) (inner result : ℕ) → h ≡ head_of tree → ((t : ValueType) → h ≡ head.Steps t → ⊥)
    → inner ≡ capped (widths (gathered (parts_of tree))) → result ≡ max inner 1 → result ≡ capped (width tree)
width_other (rose head number at parts) h inner result is others i r =
    let w : width_by head (widths parts) (widest parts) ≡ max 1 (widths parts) =
    ap (λ h. width_by h (widths parts) (widest parts)) (sym is) ∙ other_width (widths parts) (widest parts) h others in
    let g : widths (gathered (listed parts)) ≡ widths parts = ap widths (gathered-listed parts) in
    omega arith

-- ---- places

pub places_first : (tree : TypedRose) (h : TypedHead) (most : ℕ) → h ≡ head_of tree → most ≡ capped (place_by h)
    → max most (capped (places_below (gathered (drop 0 (parts_of tree))))) ≡ capped (places tree)
places_first (rose head number at parts) h most is m =
    let p : place_by h ≡ place_by head = ap place_by is in
    let g : places_below (gathered (drop 0 (listed parts))) ≡ places_below parts =
    ap (λ ts. places_below (gathered ts)) (drop_whole (listed parts)) ∙ ap places_below (gathered-listed parts) in
    omega arith

pub places_next : (trees : List TypedRose) (k : ℕ) (part : TypedRose) (most result greater total : ℕ)
    → max most (capped (places_below (gathered (drop k trees)))) ≡ total → slice_get trees k ≡ Some part → result ≡ capped (places part) → greater ≡ max result most
    → max greater (capped (places_below (gathered (drop (k + 1) trees)))) ≡ total
places_next trees k part most result greater total so_far is r g =
    let e : places_below (gathered (drop k trees)) ≡ max (places part) (places_below (gathered (drop (k + 1) trees))) = ap (λ ts. places_below (gathered ts)) (drop_one trees k part is) in
    omega arith

pub places_last : (trees : List TypedRose) (k most total : ℕ)
    → max most (capped (places_below (gathered (drop k trees)))) ≡ total → length trees ≤ k → most ≡ total
places_last trees k most total so_far past =
    let e : places_below (gathered (drop k trees)) ≡ 0 = ap (λ ts. places_below (gathered ts)) (drop_all k trees past) in
    omega arith
