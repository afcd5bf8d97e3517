-- The code of a node, by its head, from the code that its parts have.
use Rattle.std.proofs.Common.{◌≡◌, ℕ, ◌+◌, ◌≤◌, zero, suc, List, [], ◌∷◌, ◌++◌, length, drop, map, refl, sym, ap, ◌∙◌, append_assoc, append-nil, length-append, arith}
use Rattle.std.specs.Prelude.{Result, Ok, Err, OnOk, Some, None, slice_get}
use Rattle.std.proofs.lemmas.List.{drop_all}
use Rattle.px_tree.specs.declared.typed_heads.TypedHead.{TypedHead}
use Rattle.px_walk.specs.Roses.{Roses, rose, none, more, listed, head_of, parts_of}
use Rattle.px_typed_walk.specs.TypedView.{TypedRose}
use Rattle.px_regcode.specs.declared.instructions.Instr.{Instr}
use Rattle.px_exprgen.proofs.Parts.{drop_whole, drop_one}
use Rattle.px_exprgen.specs.ExpressionCode.{Emission, part_code, on_one, on_two, steps_code, code_by, expression_code, expression_codes}

pub codes_listed : (trees : Roses TypedHead) → expression_codes trees ≡ map expression_code (listed trees)
unfolding expression_code
codes_listed none = refl
codes_listed (more tree trees) = ap (λ codes. expression_code tree ∷ codes) (codes_listed trees)

abbrev pub codes_of : TypedRose → List Emission
codes_of tree = map expression_code (parts_of tree)

pub by_head : (tree : TypedRose) (h : TypedHead) (pc d : ℕ) → h ≡ head_of tree → expression_code tree pc d ≡ code_by h (codes_of tree) pc d
unfolding expression_code
by_head (rose head number at parts) h pc d is =
    ap (λ h. code_by h (expression_codes parts) pc d) (sym is) ∙ ap (λ codes. code_by h codes pc d) (codes_listed parts)

-- code that stands behind what was there
pub emitted : {E : Type 0} (r : Result (Unit {0}) E) (tree : TypedRose) (h : TypedHead) (d : ℕ) (before after made : List Instr)
    → h ≡ head_of tree → code_by h (codes_of tree) (length before) d ≡ made → OnOk r (after ≡ before ++ made)
    → OnOk r (after ≡ before ++ expression_code tree (length before) d)
emitted (Ok x) tree h d before after made is code e = e ∙ ap (λ m. before ++ m) (sym (by_head tree h (length before) d is ∙ code))
emitted (Err x) tree h d before after made is code e = tt

-- no code
pub nothing : (tree : TypedRose) (h : TypedHead) (d : ℕ) (before : List Instr) → h ≡ head_of tree → code_by h (codes_of tree) (length before) d ≡ []
    → before ≡ before ++ expression_code tree (length before) d
nothing tree h d before is code = sym (ap (λ m. before ++ m) (by_head tree h (length before) d is ∙ code) ∙ append-nil before)

-- an instruction behind the code of one part
pub one_emitted : {E : Type 0} (r : Result (Unit {0}) E) (tree : TypedRose) (h : TypedHead) (d : ℕ) (make : ℕ → Instr) (before mid after : List Instr)
    → h ≡ head_of tree → code_by h (codes_of tree) (length before) d ≡ on_one make (codes_of tree) (length before) d
    → mid ≡ before ++ part_code (codes_of tree) 0 (length before) d → OnOk r (after ≡ mid ++ make d ∷ [])
    → OnOk r (after ≡ before ++ expression_code tree (length before) d)
one_emitted {E = E} (Ok x) tree h d make before mid after is code m e =
    emitted {E = E} (Ok x) tree h d before after _ is code
    (e ∙ ap (λ xs. xs ++ make d ∷ []) m ∙ append_assoc before (part_code (codes_of tree) 0 (length before) d) (make d ∷ []))
one_emitted (Err x) tree h d make before mid after is code m e = tt

-- an instruction behind the code of two parts
pub two_emitted : {E : Type 0} (r : Result (Unit {0}) E) (tree : TypedRose) (h : TypedHead) (d : ℕ) (make : (to right : ℕ) → Instr) (before first second after : List Instr)
    → h ≡ head_of tree → code_by h (codes_of tree) (length before) d ≡ on_two (λ d. make d (suc d)) (codes_of tree) (length before) d
    → first ≡ before ++ part_code (codes_of tree) 0 (length before) d → second ≡ first ++ part_code (codes_of tree) 1 (length first) (d + 1)
    → OnOk r (after ≡ second ++ make d (d + 1) ∷ [])
    → OnOk r (after ≡ before ++ expression_code tree (length before) d)
two_emitted {E = E} (Ok x) tree h d make before first second after is code f s e =
    let a = part_code (codes_of tree) 0 (length before) d in
    let len : length first ≡ length before + length a = ap length f ∙ length-append before a in
    let b = part_code (codes_of tree) 1 (length before + length a) (suc d) in
    let next : d + 1 ≡ suc d = omega arith in
    emitted {E = E} (Ok x) tree h d before after _ is code
    (e ∙ ap (λ n. second ++ make d n ∷ []) next ∙ ap (λ xs. xs ++ make d (suc d) ∷ []) (s ∙ ap (λ n. first ++ part_code (codes_of tree) 1 n (d + 1)) len ∙ ap (λ n. first ++ part_code (codes_of tree) 1 (length before + length a) n) next ∙ ap (λ xs. xs ++ b) f)
    ∙ append_assoc (before ++ a) b (make d (suc d) ∷ []) ∙ append_assoc before a (b ++ make d (suc d) ∷ []))
two_emitted (Err x) tree h d make before first second after is code f s e = tt

-- ---- the code of parts

pub part_there : (trees : List TypedRose) (k : ℕ) (part : TypedRose) (pc d : ℕ) → slice_get trees k ≡ Some part
    → part_code (map expression_code trees) k pc d ≡ expression_code part pc d
part_there [] k part pc d is = absurd cc
part_there (tree ∷ trees) zero part pc d is = let same : tree ≡ part = cc in ap (λ t. expression_code t pc d) same
part_there (tree ∷ trees) (suc k) part pc d is = part_there trees k part pc d is

part_missing : (trees : List TypedRose) (k pc d : ℕ) → slice_get trees k ≡ None → part_code (map expression_code trees) k pc d ≡ []
part_missing [] k pc d is = refl
part_missing (tree ∷ trees) zero pc d is = absurd cc
part_missing (tree ∷ trees) (suc k) pc d is = part_missing trees k pc d is

pub part_emitted : {E : Type 0} (r : Result (Unit {0}) E) (trees : List TypedRose) (k : ℕ) (part : TypedRose) (d : ℕ) (before after : List Instr)
    → slice_get trees k ≡ Some part → OnOk r (after ≡ before ++ expression_code part (length before) d)
    → OnOk r (after ≡ before ++ part_code (map expression_code trees) k (length before) d)
part_emitted (Ok x) trees k part d before after is e = e ∙ ap (λ m. before ++ m) (sym (part_there trees k part (length before) d is))
part_emitted (Err x) trees k part d before after is e = tt

pub part_nothing : (trees : List TypedRose) (k d : ℕ) (before : List Instr) → slice_get trees k ≡ None
    → before ≡ before ++ part_code (map expression_code trees) k (length before) d
part_nothing trees k d before is = sym (ap (λ m. before ++ m) (part_missing trees k (length before) d is) ∙ append-nil before)

-- ---- steps

pub steps_first : (trees : List TypedRose) (d : ℕ) (before : List Instr)
    → before ++ steps_code (map expression_code (drop 0 trees)) (length before) d ≡ before ++ steps_code (map expression_code trees) (length before) d
steps_first trees d before = ap (λ ts. before ++ steps_code (map expression_code ts) (length before) d) (drop_whole trees)

pub steps_next : (trees : List TypedRose) (k : ℕ) (part : TypedRose) (d : ℕ) (before after total : List Instr)
    → before ++ steps_code (map expression_code (drop k trees)) (length before) d ≡ total → slice_get trees k ≡ Some part
    → after ≡ before ++ expression_code part (length before) d
    → after ++ steps_code (map expression_code (drop (k + 1) trees)) (length after) d ≡ total
steps_next trees k part d before after total so_far is e =
    let code = expression_code part (length before) d in
    let rest = map expression_code (drop (k + 1) trees) in
    let len : length after ≡ length before + length code = ap length e ∙ length-append before code in
    ap (λ n. after ++ steps_code rest n d) len ∙ ap (λ xs. xs ++ steps_code rest (length before + length code) d) e
    ∙ append_assoc before code (steps_code rest (length before + length code) d)
    ∙ sym (ap (λ ts. before ++ steps_code (map expression_code ts) (length before) d) (drop_one trees k part is)) ∙ so_far

pub steps_last : (trees : List TypedRose) (k d : ℕ) (before total : List Instr)
    → before ++ steps_code (map expression_code (drop k trees)) (length before) d ≡ total → length trees ≤ k → before ≡ total
steps_last trees k d before total so_far past =
    sym (append-nil before) ∙ sym (ap (λ ts. before ++ steps_code (map expression_code ts) (length before) d) (drop_all k trees past)) ∙ so_far
