-- Loops over statements.
use Rattle.std.proofs.Common.{◌≡◌, ◌+◌, List, [], ◌∷◌, ◌++◌, map, drop, length, sym, ap, ◌∙◌, append_assoc, length-append}
use Rattle.std.proofs.lemmas.List.{append-nil}
use Rattle.px_typed_walk.specs.TypedView.{TypedRose}
use Rattle.px_regcode.specs.declared.instructions.Instr.{Instr}
use Rattle.px_exprgen.proofs.Parts.{drop_whole}
use Rattle.px_stmtgen.specs.declared.layouts.Layout.{Layout}
use Rattle.px_stmtgen.specs.StatementCode.{in_turn_code, statement_code}

pub turns_first : (l : Layout) (trees : List TypedRose) (before : List Instr)
    → before ++ in_turn_code (map (statement_code l) (drop 0 trees)) (length before) ≡ before ++ in_turn_code (map (statement_code l) trees) (length before)
turns_first l trees before = ap (λ ts. before ++ in_turn_code (map (statement_code l) ts) (length before)) (drop_whole trees)

pub turns_next : (l : Layout) (tree : TypedRose) (all rest : List TypedRose) (before after total : List Instr)
    → before ++ in_turn_code (map (statement_code l) all) (length before) ≡ total → all ≡ tree ∷ rest
    → after ≡ before ++ statement_code l tree (length before)
    → after ++ in_turn_code (map (statement_code l) rest) (length after) ≡ total
turns_next l tree all rest before after total so_far is e =
    let code = statement_code l tree (length before) in
    let others = map (statement_code l) rest in
    let len : length after ≡ length before + length code = ap length e ∙ length-append before code in
    ap (λ n. after ++ in_turn_code others n) len ∙ ap (λ xs. xs ++ in_turn_code others (length before + length code)) e
    ∙ append_assoc before code (in_turn_code others (length before + length code))
    ∙ sym (ap (λ ts. before ++ in_turn_code (map (statement_code l) ts) (length before)) is) ∙ so_far

pub turns_last : (l : Layout) (all : List TypedRose) (before total : List Instr)
    → before ++ in_turn_code (map (statement_code l) all) (length before) ≡ total → all ≡ [] → before ≡ total
turns_last l all before total so_far is =
    sym (append-nil before) ∙ sym (ap (λ ts. before ++ in_turn_code (map (statement_code l) ts) (length before)) is) ∙ so_far
