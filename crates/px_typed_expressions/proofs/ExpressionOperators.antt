-- Loops over the operators of chains.
use Rattle.std.proofs.Common.{◌≡◌, ℕ, ◌+◌, ◌≤◌, List, [], ◌∷◌, ◌++◌, length, drop, Option, Some, None, refl, sym, ap, ◌∙◌, append_assoc}
use Rattle.std.specs.Prelude.{slice_get, Ok, Err}
use Rattle.std.specs.List.{cons_option}
use Rattle.px_base.specs.declared.refusals.Span.{Span}
use Rattle.px_base.specs.declared.c_types.BinOp.{BinOp}
use Rattle.px_base.specs.declared.c_types.CmpOp.{CmpOp}
use Rattle.px_walk.specs.Roses.{head_of}
use Rattle.px_walk.specs.ExprView.{Tree}
use Rattle.px_names.proofs.PartLoops.{drop_whole, drop_one, nothing_behind}
use Rattle.px_operators.specs.Outcomes.{Outcome, mapped, unbuilt}
use Rattle.px_typed_expressions.specs.Expressions.{operator_of, operators, listed_comparison, comparison_in, comparisons}

pub append_none : {A : Type 0} (xs : List A) → xs ++ [] ≡ xs
append_none [] = refl
append_none (x ∷ xs) = ap (λ rest. x ∷ rest) (append_none xs)

cons_append : {A : Type 0} (before : List A) (o : Option A) (rest : List A) → (before ++ cons_option o []) ++ rest ≡ before ++ cons_option o rest
cons_append before None rest = ap (λ xs. xs ++ rest) (append_none before)
cons_append before (Some x) rest = append_assoc before (x ∷ []) rest

pub operators_first : (parts : List Tree) → operators (drop 0 parts) ≡ operators parts
operators_first parts = ap operators (drop_whole parts)

pub operators_more : (before behind total : List BinOp) (parts : List Tree) (k : ℕ) (part : Tree) → slice_get parts k ≡ Some part
    → behind ≡ before ++ cons_option (operator_of (head_of part)) [] → before ++ operators (drop k parts) ≡ total
    → behind ++ operators (drop (k + 1) parts) ≡ total
operators_more before behind total parts k part is taken all =
    ap (λ ops. ops ++ operators (drop (k + 1) parts)) taken
    ∙ cons_append before (operator_of (head_of part)) (operators (drop (k + 1) parts))
    ∙ sym (ap (λ (ps : List Tree). before ++ operators ps) (drop_one parts k part is))
    ∙ all

pub operators_last : (so_far total : List BinOp) (parts : List Tree) (k : ℕ) → length parts ≤ k → so_far ++ operators (drop k parts) ≡ total → so_far ≡ total
operators_last so_far total parts k past all =
    sym (nothing_behind (λ (ps : List Tree). so_far ++ operators ps) parts k past ∙ append_none so_far) ∙ all

-- the comparisons so far, with those of the parts from one on
abbrev pub with_comparisons : Span → List CmpOp → List Tree → Outcome (List CmpOp)
with_comparisons at so_far parts = mapped (λ rest. so_far ++ rest) (comparisons at parts)

mapped_whole : (o : Outcome (List CmpOp)) → mapped (λ rest. [] ++ rest) o ≡ o
mapped_whole (Ok ops) = refl
mapped_whole (Err refusal) = refl

pub comparisons_first : (at : Span) (parts : List Tree) → with_comparisons at [] parts ≡ comparisons at parts
comparisons_first at parts = mapped_whole (comparisons at parts)

mapped_more : (before : List CmpOp) (op : CmpOp) (o : Outcome (List CmpOp))
    → mapped (λ rest. (before ++ op ∷ []) ++ rest) o ≡ mapped (λ rest. before ++ rest) (mapped (λ rest. op ∷ rest) o)
mapped_more before op (Ok ops) = ap Ok (append_assoc before (op ∷ []) ops)
mapped_more before op (Err refusal) = refl

there : (at : Span) (so_far : List CmpOp) (parts : List Tree) (k : ℕ) (part : Tree) (o : Option CmpOp) → slice_get parts k ≡ Some part → comparison_in (head_of part) ≡ o
    → with_comparisons at so_far (drop k parts) ≡ mapped (λ rest. so_far ++ rest) (listed_comparison at o (comparisons at (drop (k + 1) parts)))
there at so_far parts k part o is spelled =
    ap (with_comparisons at so_far) (drop_one parts k part is)
    ∙ ap (λ (op : Option CmpOp). mapped (λ rest. so_far ++ rest) (listed_comparison at op (comparisons at (drop (k + 1) parts)))) spelled

pub comparisons_more : (at : Span) (before behind : List CmpOp) (op : CmpOp) (total : Outcome (List CmpOp)) (parts : List Tree) (k : ℕ) (part : Tree)
    → slice_get parts k ≡ Some part → comparison_in (head_of part) ≡ Some op → behind ≡ before ++ op ∷ [] → with_comparisons at before (drop k parts) ≡ total
    → with_comparisons at behind (drop (k + 1) parts) ≡ total
comparisons_more at before behind op total parts k part is spelled taken all =
    ap (λ ops. with_comparisons at ops (drop (k + 1) parts)) taken
    ∙ mapped_more before op (comparisons at (drop (k + 1) parts))
    ∙ sym (there at before parts k part (Some op) is spelled)
    ∙ all

pub comparisons_other : (at : Span) (so_far : List CmpOp) (total : Outcome (List CmpOp)) (parts : List Tree) (k : ℕ) (part : Tree)
    → slice_get parts k ≡ Some part → comparison_in (head_of part) ≡ None → with_comparisons at so_far (drop k parts) ≡ total → total ≡ unbuilt at
comparisons_other at so_far total parts k part is spelled all = sym all ∙ there at so_far parts k part None is spelled

pub comparisons_last : (at : Span) (so_far : List CmpOp) (total : Outcome (List CmpOp)) (parts : List Tree) (k : ℕ) → length parts ≤ k
    → with_comparisons at so_far (drop k parts) ≡ total → total ≡ Ok so_far
comparisons_last at so_far total parts k past all =
    sym all ∙ nothing_behind (with_comparisons at so_far) parts k past ∙ ap Ok (append_none so_far)
