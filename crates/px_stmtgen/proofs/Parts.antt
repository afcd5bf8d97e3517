-- What holds of a node's parts where it holds of the node.
use Rattle.std.proofs.Common.{◌≡◌, ℕ, zero, suc, ◌+◌, ◌≤◌, max, List, [], ◌∷◌, refl, sym, ap, subst, ◌∙◌, arith}
use Rattle.std.specs.Prelude.{Some, slice_get}
use Rattle.px_base.specs.declared.objects.Builtin.TheVariants as builtin
use Rattle.px_tree.specs.declared.typed_heads.TypedHead.{TypedHead}
use Rattle.px_tree.specs.declared.typed_heads.TypedHead.TheVariants as head
use Rattle.px_walk.specs.Roses.{Roses, rose, more, gathered, listed, head_of, parts_of}
use Rattle.px_walk.proofs.Walks.{gathered-listed}
use Rattle.px_typed_walk.specs.TypedView.{TypedRose}
use Rattle.px_exprgen.specs.ExpressionCode.{widest}
use Rattle.px_stmtgen.specs.Sizes.{objects, objects_below, greatest}
use Rattle.px_stmtgen.specs.StatementCode.{alone_width, statement_width_by, statement_width, statement_widths}

-- G is the greatest that F gives for parts
pub part_below : (F : TypedRose → ℕ) (G : Roses TypedHead → ℕ) → ((tree : TypedRose) (trees : Roses TypedHead) → G (more tree trees) ≡ max (F tree) (G trees))
    → (trees : List TypedRose) (k : ℕ) (part : TypedRose) → slice_get trees k ≡ Some part → F part ≤ G (gathered trees)
part_below F G step [] k part is = absurd cc
part_below F G step (tree ∷ trees) zero part is =
    let same : tree ≡ part = cc in
    let e = step tree (gathered trees) in
    subst (λ t. F t ≤ G (more tree (gathered trees))) same (omega arith)
part_below F G step (tree ∷ trees) (suc k) part is =
    let le = part_below F G step trees k part is in
    let e = step tree (gathered trees) in
    omega arith

pub part_fits : (F : TypedRose → ℕ) (G : Roses TypedHead → ℕ) → ((tree : TypedRose) (trees : Roses TypedHead) → G (more tree trees) ≡ max (F tree) (G trees))
    → (trees : List TypedRose) (k n : ℕ) (part : TypedRose) → slice_get trees k ≡ Some part → n + G (gathered trees) ≤ 4294967295 → n + F part ≤ 4294967295
part_fits F G step trees k n part is fits = let le = part_below F G step trees k part is in omega arith

objects_there : (trees : Roses TypedHead) (k : ℕ) (part : TypedRose) → slice_get (listed trees) k ≡ Some part → objects part ≤ objects_below trees
objects_there trees k part is =
    subst (λ ts. objects part ≤ objects_below ts) (gathered-listed trees) (part_below objects objects_below (λ t ts. refl) (listed trees) k part is)

pub part_objects : (tree part : TypedRose) (k n : ℕ) → slice_get (parts_of tree) k ≡ Some part → objects tree ≤ n → objects part ≤ n
part_objects (rose head number at parts) part k n is fits = let le = objects_there parts k part is in omega arith

-- what statements ask for
pub statement_below : (asked : TypedRose → ℕ) (trees : List TypedRose) (k : ℕ) (tree : TypedRose) → slice_get trees k ≡ Some tree → asked tree ≤ greatest asked trees
statement_below asked [] k tree is = absurd cc
statement_below asked (first ∷ trees) zero tree is =
    let same : first ≡ tree = cc in
    subst (λ t. asked t ≤ greatest asked (first ∷ trees)) same (omega arith)
statement_below asked (first ∷ trees) (suc k) tree is = let le = statement_below asked trees k tree is in omega arith

-- the registers of a statement, by its head
pub width_by_head : (tree : TypedRose) (h : TypedHead) → h ≡ head_of tree
    → statement_width tree ≡ statement_width_by h (gathered (parts_of tree)) (statement_widths (gathered (parts_of tree)))
width_by_head (rose head number at parts) h is =
    ap (λ h. statement_width_by h parts (statement_widths parts)) (sym is)
    ∙ sym (ap (λ ps. statement_width_by h ps (statement_widths ps)) (gathered-listed parts))

pub statement_fits : (tree : TypedRose) (h : TypedHead) (asked : Roses TypedHead → ℕ) (n : ℕ) → h ≡ head_of tree
    → statement_width_by h (gathered (parts_of tree)) (statement_widths (gathered (parts_of tree))) ≡ asked (gathered (parts_of tree))
    → n + statement_width tree ≤ 4294967295 → n + asked (gathered (parts_of tree)) ≤ 4294967295
statement_fits tree h asked n is by fits = let e = width_by_head tree h is ∙ by in omega arith

-- the registers of a print
pub print_width : (tree : TypedRose) → head.Builtin builtin.Print ≡ head_of tree → alone_width tree ≡ widest (gathered (parts_of tree))
print_width (rose head number at parts) is =
    ap (λ h. alone_width (rose h number at parts)) (sym is) ∙ sym (ap widest (gathered-listed parts))
