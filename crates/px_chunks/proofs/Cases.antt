-- The table by the cases of the program, and the chunks of kept first places.
use Rattle.std.proofs.Common.{◌≡◌, ℕ, ◌+◌, ◌-◌, ◌%◌, ◌<◌, ◌≤◌, List, [], ◌∷◌, ◌++◌, length, get_or, refl, sym, ◌∙◌, ap, subst, inl, inr, arith, Option, Some, None, append-nil, append_assoc}
use Rattle.std.specs.Prelude.{sum, unwrap_or, nat_lt, if◌then◌else◌}
use Rattle.std.proofs.lemmas.List.{take_all}
use Rattle.std.proofs.lemmas.Bool.{cases_lt, lt-ltb, le-ltb}
use Rattle.std.proofs.Math.Nat.{mod-eq_of_lt}
use Rattle.px_base.specs.declared.c_types.Schedule.{Schedule}
use Rattle.px_base.specs.declared.c_types.Schedule.TheVariants.{Static, Dynamic, Guided}
use Rattle.px_model.specs.Chunks.{blocks_of, chunk_owner, chunk_table, even_blocks, first_place, guided_block, guided_blocks}
use Rattle.px_model.specs.Partition.{Partition, partition}
use Rattle.px_chunks.specs.Starts.{starts_from}
use Rattle.px_chunks.proofs.Guided.{next_blocks, starts_at, starts_length}
use Rattle.px_chunks.proofs.Tables.{even_length, sum_more}

owner_by : (n members k : ℕ) (asked : Option ℕ) (by : Schedule) → 0 < members → by ≡ Static
    → k < length (chunk_table (partition n members by asked)) → Some (k % members) ≡ chunk_owner (partition n members by asked) k
unfolding chunk_table
owner_by n members k None Static h s less = ap Some (mod-eq_of_lt (omega (arith, even_length n members h)))
owner_by n members k (Some least) Static h s less = refl
owner_by n members k asked Dynamic h s less = cc
owner_by n members k asked Guided h s less = cc

module _ (n members : ℕ) (schedule : Schedule) (size : Option ℕ) (p : Partition) (is : partition n members schedule size ≡ p) where
  pub even_table : schedule ≡ Static → size ≡ None → chunk_table p ≡ even_blocks n members
  unfolding chunk_table
  even_table s none = ap chunk_table (sym is) ∙ rw (s, none) refl

  pub sized_table : (least : ℕ) → schedule ≡ Static → size ≡ Some least → chunk_table p ≡ blocks_of least n
  unfolding chunk_table
  sized_table least s some = ap chunk_table (sym is) ∙ rw (s, some) refl

  pub dynamic_table : (least : ℕ) → schedule ≡ Dynamic → least ≡ unwrap_or size 1 → chunk_table p ≡ blocks_of least n
  unfolding chunk_table
  dynamic_table least s some = ap chunk_table (sym is) ∙ rw (s, some) refl

  pub guided_table : (least : ℕ) → schedule ≡ Guided → least ≡ unwrap_or size 1 → chunk_table p ≡ guided_blocks members least n n
  unfolding chunk_table
  guided_table least s some = ap chunk_table (sym is) ∙ rw (s, some) refl

  -- a static chunk's owner
  pub static_owner : (k : ℕ) → 0 < members → schedule ≡ Static → k < length (chunk_table p) → Some (k % members) ≡ chunk_owner p k
  static_owner k h s within =
      let P : Partition → Type 0 = λ q. k < length (chunk_table q) → Some (k % members) ≡ chunk_owner q k in
      subst P is (owner_by n members k size schedule h s) within

-- ---- chunks from their first places
pub same_pair : (r : ℕ × ℕ) (a b : ℕ) → r.0 ≡ a → r.1 ≡ b → r ≡ (a, b)
same_pair (x, y) a b first second = ap (λ v. (v, y)) first ∙ ap (λ v. (a, v)) second

module _ (table starts : List ℕ) (n : ℕ) (kept : starts ≡ starts_from 0 table) (all : sum table ≡ n) (k : ℕ) (within : k < length table) where
  pub started_length : length starts ≡ length table
  started_length = ap length kept ∙ starts_length 0 table

  pub started_first : get_or starts k 0 ≡ first_place table k
  started_first = ap (λ xs. get_or xs k 0) kept ∙ omega (arith, starts_at 0 table k within)

  pub started_past : (if nat_lt (k + 1) (length starts) then get_or starts (k + 1) 0 else n) ≡ first_place table k + get_or table k 0
  started_past = elim (cases_lt (k + 1) (length table)) [
    | inl less ↦ rw (lt-ltb (k + 1) (length starts) (omega (arith, started_length)))
        (ap (λ xs. get_or xs (k + 1) 0) kept ∙ omega (arith, starts_at 0 table (k + 1) less, sum_more table k within))
    | inr more ↦ rw (le-ltb (k + 1) (length starts) (omega (arith, started_length)))
        (omega (arith, all, sum_more table k within, ap sum (take_all (k + 1) table more)))
  ]

-- ---- the loop over what is left
pub one_start : (members least n at count : ℕ) (before after : List ℕ) → 0 < least → at < n → count ≡ guided_block members least (n - at)
    → after ≡ before ++ at ∷ []
    → before ++ starts_from at (guided_blocks members least (n - at) (n - at)) ≡ starts_from 0 (guided_blocks members least n n)
    → after ++ starts_from (at + count) (guided_blocks members least (n - (at + count)) (n - (at + count))) ≡ starts_from 0 (guided_blocks members least n n)
one_start members least n at count before after some less is pushed so_far =
    let left : (n - at) - count ≡ n - (at + count) = omega arith in
    let next : guided_blocks members least (n - at) (n - at) ≡ count ∷ guided_blocks members least (n - (at + count)) (n - (at + count)) =
    next_blocks members least some (n - at) (omega arith)
    ∙ ap (λ m. m ∷ guided_blocks members least ((n - at) - m) ((n - at) - m)) (sym is)
    ∙ ap (λ m. count ∷ guided_blocks members least m m) left in
    ap (λ xs. xs ++ starts_from (at + count) (guided_blocks members least (n - (at + count)) (n - (at + count)))) pushed
    ∙ append_assoc before (at ∷ []) (starts_from (at + count) (guided_blocks members least (n - (at + count)) (n - (at + count))))
    ∙ ap (λ bs. before ++ starts_from at bs) (sym next)
    ∙ so_far

pub no_start : (members least n at : ℕ) (before : List ℕ) → n ≤ at
    → before ++ starts_from at (guided_blocks members least (n - at) (n - at)) ≡ starts_from 0 (guided_blocks members least n n)
    → before ≡ starts_from 0 (guided_blocks members least n n)
unfolding guided_blocks
no_start members least n at before past so_far =
    let none : n - at ≡ 0 = omega arith in
    sym (append-nil before) ∙ ap (λ m. before ++ starts_from at (guided_blocks members least m m)) (sym none) ∙ so_far
