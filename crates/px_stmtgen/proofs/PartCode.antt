-- The code of statements, by the parts that are there.
use Rattle.std.proofs.Common.{◌≡◌, ℕ, suc, ◌+◌, List, [], ◌∷◌, ◌++◌, map, drop, length, refl, sym, ap, ◌∙◌, append_assoc, length-append}
use Rattle.std.specs.Prelude.{Some, None, slice_get}
use Rattle.px_base.specs.declared.c_types.CType.{CType}
use Rattle.px_base.specs.declared.objects.Builtin.TheVariants as builtin
use Rattle.px_tree.specs.declared.typed_values.Conversion.TheVariants as conversion
use Rattle.px_tree.specs.declared.typed_heads.TypedHead.{TypedHead}
use Rattle.px_tree.specs.declared.typed_heads.TypedHead.TheVariants as head
use Rattle.px_walk.specs.Roses.{Roses, rose, none, more, gathered, listed, head_of, parts_of}
use Rattle.px_walk.proofs.Walks.{gathered-listed}
use Rattle.px_typed_walk.specs.TypedView.{TypedRose}
use Rattle.px_regcode.specs.declared.instructions.Instr.{Instr}
use Rattle.px_regcode.specs.declared.instructions.Instr.TheVariants as instr
use Rattle.px_exprgen.specs.ExpressionCode.{register, part_code, expression_code}
use Rattle.px_exprgen.proofs.Parts.{drop_one}
use Rattle.px_exprgen.proofs.Shapes.{codes_of, codes_listed}
use Rattle.px_stmtgen.specs.declared.layouts.Layout.{Layout}
use Rattle.px_stmtgen.specs.Layouts.{temporary, ending_code}
use Rattle.px_stmtgen.specs.StatementCode.{count_of, boxed_code, argument_code, arguments_code, print_code, alone_code, alone_first, set_code, target_code, assign_code, augment_code, declared_code, return_code, statement_by, statement_code, statement_codes}

-- ---- the first parts

pub assign_there : (l : Layout) (trees : List TypedRose) (target value : TypedRose) (pc : ℕ) → slice_get trees 0 ≡ Some target → slice_get trees 1 ≡ Some value
    → assign_code l (gathered trees) pc ≡ target_code l (head_of target) value pc
assign_there l [] target value pc first second = absurd cc
assign_there l (t ∷ []) target value pc first second = absurd cc
assign_there l (t ∷ (v ∷ trees)) target value pc first second =
    let a : t ≡ target = cc in
    let b : v ≡ value = cc in
    ap (λ t. target_code l (head_of t) v pc) a ∙ ap (λ v. target_code l (head_of target) v pc) b

pub assign_empty : (l : Layout) (trees : List TypedRose) (pc : ℕ) → slice_get trees 0 ≡ None → assign_code l (gathered trees) pc ≡ []
assign_empty l [] pc first = refl
assign_empty l (t ∷ trees) pc first = absurd cc

pub assign_short : (l : Layout) (trees : List TypedRose) (pc : ℕ) → slice_get trees 1 ≡ None → assign_code l (gathered trees) pc ≡ []
assign_short l [] pc second = refl
assign_short l (t ∷ []) pc second = refl
assign_short l (t ∷ (v ∷ trees)) pc second = absurd cc

pub augment_there : (l : Layout) (trees : List TypedRose) (target value : TypedRose) (pc : ℕ) → slice_get trees 0 ≡ Some target → slice_get trees 1 ≡ Some value
    → augment_code l (gathered trees) pc
    ≡ expression_code target pc (temporary l) ++ target_code l (head_of target) value (pc + length (expression_code target pc (temporary l)))
augment_there l [] target value pc first second = absurd cc
augment_there l (t ∷ []) target value pc first second = absurd cc
augment_there l (t ∷ (v ∷ trees)) target value pc first second =
    let a : t ≡ target = cc in
    let b : v ≡ value = cc in
    ap (λ t. expression_code t pc (temporary l) ++ target_code l (head_of t) v (pc + length (expression_code t pc (temporary l)))) a
    ∙ ap (λ v. expression_code target pc (temporary l) ++ target_code l (head_of target) v (pc + length (expression_code target pc (temporary l)))) b

pub augment_empty : (l : Layout) (trees : List TypedRose) (pc : ℕ) → slice_get trees 0 ≡ None → augment_code l (gathered trees) pc ≡ []
augment_empty l [] pc first = refl
augment_empty l (t ∷ trees) pc first = absurd cc

pub augment_short : (l : Layout) (trees : List TypedRose) (pc : ℕ) → slice_get trees 1 ≡ None → augment_code l (gathered trees) pc ≡ []
augment_short l [] pc second = refl
augment_short l (t ∷ []) pc second = refl
augment_short l (t ∷ (v ∷ trees)) pc second = absurd cc

pub declared_there : (l : Layout) (slot : ℕ) (trees : List TypedRose) (value : TypedRose) (pc : ℕ) → slice_get trees 0 ≡ Some value
    → declared_code l slot (gathered trees) pc ≡ set_code l slot value pc
declared_there l slot [] value pc first = absurd cc
declared_there l slot (v ∷ trees) value pc first = let a : v ≡ value = cc in ap (λ v. set_code l slot v pc) a

pub declared_empty : (l : Layout) (slot : ℕ) (trees : List TypedRose) (pc : ℕ) → slice_get trees 0 ≡ None → declared_code l slot (gathered trees) pc ≡ []
declared_empty l slot [] pc first = refl
declared_empty l slot (v ∷ trees) pc first = absurd cc

pub return_there : (l : Layout) (trees : List TypedRose) (value : TypedRose) (pc : ℕ) → slice_get trees 0 ≡ Some value
    → return_code l (gathered trees) pc ≡ expression_code value pc (temporary l) ++ instr.Return (register (temporary l)) ∷ []
return_there l [] value pc first = absurd cc
return_there l (v ∷ trees) value pc first = let a : v ≡ value = cc in ap (λ v. expression_code v pc (temporary l) ++ instr.Return (register (temporary l)) ∷ []) a

pub return_empty : (l : Layout) (trees : List TypedRose) (pc : ℕ) → slice_get trees 0 ≡ None → return_code l (gathered trees) pc ≡ ending_code l l.gives
return_empty l [] pc first = refl
return_empty l (v ∷ trees) pc first = absurd cc

pub alone_there : (l : Layout) (trees : List TypedRose) (part : TypedRose) (pc : ℕ) → slice_get trees 0 ≡ Some part
    → alone_first l (gathered trees) pc ≡ alone_code l part pc
alone_there l [] part pc first = absurd cc
alone_there l (p ∷ trees) part pc first = let a : p ≡ part = cc in ap (λ p. alone_code l p pc) a

pub alone_empty : (l : Layout) (trees : List TypedRose) (pc : ℕ) → slice_get trees 0 ≡ None → alone_first l (gathered trees) pc ≡ []
alone_empty l [] pc first = refl
alone_empty l (p ∷ trees) pc first = absurd cc

-- ---- prints

pub boxed : (l : Layout) (d : ℕ) (tree : TypedRose) (t : CType) (pc : ℕ) → head.Converted (conversion.ToObject t) ≡ head_of tree
    → argument_code l d tree pc ≡ part_code (codes_of tree) 0 pc (temporary l) ++ instr.Box t (register d) (register (temporary l)) ∷ []
boxed l d (rose head number at parts) t pc is =
    ap (λ h. boxed_code l d h parts pc) (sym is)
    ∙ ap (λ codes. part_code codes 0 pc (temporary l) ++ instr.Box t (register d) (register (temporary l)) ∷ []) (codes_listed parts)

pub print_there : (l : Layout) (tree : TypedRose) (pc : ℕ) → head.Builtin builtin.Print ≡ head_of tree
    → alone_code l tree pc ≡ print_code l (gathered (parts_of tree)) pc
print_there l (rose head number at parts) pc is =
    ap (λ h. alone_code l (rose h number at parts) pc) (sym is) ∙ sym (ap (λ ps. print_code l ps pc) (gathered-listed parts))

pub count_gathered : (trees : List TypedRose) → count_of (gathered trees) ≡ length trees
count_gathered [] = refl
count_gathered (tree ∷ trees) = ap suc (count_gathered trees)

pub arguments_next : (l : Layout) (trees : List TypedRose) (k d : ℕ) (part : TypedRose) (before after total : List Instr)
    → before ++ arguments_code l d (gathered (drop k trees)) (length before) ≡ total → slice_get trees k ≡ Some part
    → after ≡ before ++ argument_code l d part (length before)
    → after ++ arguments_code l (suc d) (gathered (drop (k + 1) trees)) (length after) ≡ total
arguments_next l trees k d part before after total so_far is e =
    let code = argument_code l d part (length before) in
    let rest = gathered (drop (k + 1) trees) in
    let len : length after ≡ length before + length code = ap length e ∙ length-append before code in
    ap (λ n. after ++ arguments_code l (suc d) rest n) len ∙ ap (λ xs. xs ++ arguments_code l (suc d) rest (length before + length code)) e
    ∙ append_assoc before code (arguments_code l (suc d) rest (length before + length code))
    ∙ sym (ap (λ ts. before ++ arguments_code l d (gathered ts) (length before)) (drop_one trees k part is)) ∙ so_far

-- ---- statements, by their heads

pub codes_in_turn : (l : Layout) (trees : Roses TypedHead) → statement_codes l trees ≡ map (statement_code l) (listed trees)
unfolding statement_code
codes_in_turn l none = refl
codes_in_turn l (more tree trees) = ap (λ codes. statement_code l tree ∷ codes) (codes_in_turn l trees)

pub statement_is : (l : Layout) (tree : TypedRose) (h : TypedHead) (pc : ℕ) → h ≡ head_of tree
    → statement_code l tree pc ≡ statement_by l h (gathered (parts_of tree)) (map (statement_code l) (parts_of tree)) pc
unfolding statement_code
statement_is l (rose head number at parts) h pc is =
    ap (λ h. statement_by l h parts (statement_codes l parts) pc) (sym is)
    ∙ ap (λ codes. statement_by l h parts codes pc) (codes_in_turn l parts)
    ∙ sym (ap (λ ps. statement_by l h ps (map (statement_code l) (listed parts)) pc) (gathered-listed parts))
