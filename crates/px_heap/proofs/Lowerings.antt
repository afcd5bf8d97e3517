-- Taking references off, and freeing objects, as steps of what holds meanwhile.
use Rattle.std.proofs.Common.{◌≡◌, ◌≢◌, ℕ, suc, ◌-◌, ◌<◌, List, [], ◌∷◌, length, get_or, set, Option, Some, None, true, false, refl, sym, ap, ◌∙◌, inl, inr, arith}
use Rattle.std.specs.Prelude.{option_map, nat_eq}
use Rattle.std.proofs.lemmas.Bool.{cases_eq, cases_lt, eq-eqb, ne_eqb}
use Rattle.std.proofs.lemmas.List.{get_or-set_other, get_or-set_same, get_or_past}
use Rattle.px_heap.specs.declared.slots.Object.{Object}
use Rattle.px_heap.specs.declared.values.Serial.{Serial}
use Rattle.px_heap.specs.Heaps.{limit}
use Rattle.px_heap.specs.Freeing.{Work, lowered, lowered_each, lowered_slot, work}
use Rattle.px_heap.proofs.Chains.{IsChain, IsIn, chain_dead, chain_kept}
use Rattle.px_heap.proofs.Freeings.{IsFreeing, IsLowering, lowering}
use Rattle.px_heap.proofs.Maps.{AreApart}
use Rattle.px_heap.proofs.Sums.{times_here}

some_is : (o p : Object) → Some o ≡ Some p → o ≡ p
some_is o p e = cc

none_is_some : (o : Object) → None ≡ Some o → ⊥
none_is_some o e = absurd (cc)

pub within : (slots : List (Option Object)) (k : ℕ) (o : Object) → get_or slots k None ≡ Some o → k < length slots
within slots k o h = elim (cases_lt k (length slots)) [
  | inl e ↦ e
  | inr e ↦ absurd (none_is_some o (sym (get_or_past slots k None e) ∙ h))
]

module _ (a : List (Option Object)) (s : Serial) (freed : List Object) (r : Serial) (rs : List Serial) (w : Work) (o : Object) (apart : AreApart a)
    (f : IsFreeing a s freed (r ∷ rs) w) (there : get_or w.slots r.key None ≡ Some o) (is : r.number ≡ o.number) where
  put_slots : Object → List (Option Object)
  put_slots p = set w.slots r.key (Some p)

  lower_to : (p : Object) (dead : Option ℕ) → p.number ≡ o.number → p.value ≡ o.value → (o.count ≡ limit → p.count ≡ limit) → (o.count ≢ limit → suc p.count ≡ o.count)
      → IsLowering w (work (set w.slots r.key (Some p)) dead) r.key o p
  lower_to p dead number value full less = record {
    there = there;
    next = get_or-set_same w.slots r.key (Some p) None (within w.slots r.key o there);
    others = λ k d. get_or-set_other w.slots r.key k (Some p) None d;
    number = number;
    value = value;
    full = full;
    less = less;
  }

  -- the object isn't in the list yet
  not_dead : o.count ≢ 0 → IsIn f.dead r.key → ⊥
  not_dead d h =
      let x = chain_dead w.slots w.dead f.dead r.key f.chain h in
      d (ap (λ q. q.count) (some_is o x.object (sym there ∙ x.there)) ∙ x.count)

  kept_chain : (p : Object) → o.count ≢ 0 → IsChain (set w.slots r.key (Some p)) w.dead f.dead
  kept_chain p d = chain_kept w.slots (set w.slots r.key (Some p)) w.dead f.dead
      (λ k i. get_or-set_other w.slots r.key k (Some p) None (λ e. not_dead d (rw e at i))) f.chain

  all_as_before : (p : Object) → p.count ≢ 0 → (k : ℕ) (q : Object) → get_or (set w.slots r.key (Some p)) k None ≡ Some q → q.count ≡ 0 → IsIn f.dead k
  all_as_before p d k q h c = elim (cases_eq k r.key) [
    | inl e ↦ absurd (d (ap (λ x. x.count) (some_is p q (sym (get_or-set_same w.slots r.key (Some p) None (within w.slots r.key o there)) ∙ ap (λ n. get_or (set w.slots r.key (Some p)) n None) (sym e) ∙ h)) ∙ c))
    | inr e ↦ f.all_dead k q (sym (get_or-set_other w.slots r.key k (Some p) None e) ∙ h) c
  ]

  some_count : o.count ≢ limit → o.count ≢ 0
  some_count d e =
      let c = f.covered r.key o there d in
      let t = times_here o.number r rs is in
      omega (arith, c, t, e)

  full_step : o.count ≡ limit → IsFreeing a s freed rs (lowered_slot r.key w (Some o))
  full_step e =
      let zero : nat_eq o.count 0 ≡ false = ne_eqb o.count 0 (λ i. omega (arith, e, i)) in
      let full : nat_eq o.count limit ≡ true = eq-eqb o.count limit e in
      let one : nat_eq o.count 1 ≡ false = ne_eqb o.count 1 (λ i. omega (arith, e, i)) in
      let d : o.count ≢ 0 = λ i. omega (arith, e, i) in
      rw (zero, full, one) (lowering a s freed r rs w (work (set w.slots r.key (Some o)) w.dead) o o apart f
      (lower_to o w.dead refl refl (λ i. i) (λ i. absurd (i e))) is f.dead (kept_chain o d) (all_as_before o d))

  last_step : o.count ≡ 1 → IsFreeing a s freed rs (lowered_slot r.key w (Some o))
  last_step e =
      let p : Object = record o { count = 0; next = w.dead } in
      let zero : nat_eq o.count 0 ≡ false = ne_eqb o.count 0 (λ i. omega (arith, e, i)) in
      let full : nat_eq o.count limit ≡ false = ne_eqb o.count limit (λ i. omega (arith, e, i)) in
      let one : nat_eq o.count 1 ≡ true = eq-eqb o.count 1 e in
      let d : o.count ≢ 0 = λ i. omega (arith, e, i) in
      let new = set w.slots r.key (Some p) in
      let same = get_or-set_same w.slots r.key (Some p) None (within w.slots r.key o there) in
      rw (zero, full, one) (lowering a s freed r rs w (work new (Some r.key)) o p apart f
      (lower_to p (Some r.key) refl refl (λ i. omega (arith, i, e)) (λ i. omega (arith, e))) is (r.key ∷ f.dead)
      (refl, record { object = p; there = same; count = refl }, not_dead d, kept_chain p d)
      (λ k q h c. elim (cases_eq k r.key) [
        | inl i ↦ inl i
        | inr i ↦ inr (f.all_dead k q (sym (get_or-set_other w.slots r.key k (Some p) None i) ∙ h) c)
      ]))

  more_step : o.count ≢ limit → o.count ≢ 1 → IsFreeing a s freed rs (lowered_slot r.key w (Some o))
  more_step less more =
      let p : Object = record o { count = o.count - 1 } in
      let d = some_count less in
      let zero : nat_eq o.count 0 ≡ false = ne_eqb o.count 0 d in
      let full : nat_eq o.count limit ≡ false = ne_eqb o.count limit less in
      let one : nat_eq o.count 1 ≡ false = ne_eqb o.count 1 more in
      let c : suc (o.count - 1) ≡ o.count = positive o.count d in
      rw (zero, full, one) (lowering a s freed r rs w (work (set w.slots r.key (Some p)) w.dead) o p apart f
      (lower_to p w.dead refl refl (λ i. absurd (less i)) (λ i. c)) is f.dead (kept_chain p d) (all_as_before p (two o.count d more)))
    where
      positive : (n : ℕ) → n ≢ 0 → suc (n - 1) ≡ n
      positive n d = omega (arith, d)

      two : (n : ℕ) → n ≢ 0 → n ≢ 1 → n - 1 ≢ 0
      two n d e i = omega (arith, d, e, i)

  step_at : IsFreeing a s freed rs (lowered_slot r.key w (Some o))
  step_at = elim (cases_eq o.count limit) [
    | inl e ↦ full_step e
    | inr d ↦ elim (cases_eq o.count 1) [
      | inl e ↦ last_step e
      | inr i ↦ more_step d i
    ]
  ]

lower_step_by : (a : List (Option Object)) (s : Serial) (freed : List Object) (r : Serial) (rs : List Serial) (w : Work) (slot : Option Object) → AreApart a
    → IsFreeing a s freed (r ∷ rs) w → get_or w.slots r.key None ≡ slot → option_map (λ o. o.number) slot ≡ Some r.number → IsFreeing a s freed rs (lowered_slot r.key w slot)
lower_step_by a s freed r rs w None apart f h i = absurd (cc)
lower_step_by a s freed r rs w (Some o) apart f h i = let same : o.number ≡ r.number = cc in step_at a s freed r rs w o apart f h (sym same)

pub lower_step : (a : List (Option Object)) (s : Serial) (freed : List Object) (r : Serial) (rs : List Serial) (w : Work) → AreApart a → IsFreeing a s freed (r ∷ rs) w → IsFreeing a s freed rs (lowered r.key w)
lower_step a s freed r rs w apart f = lower_step_by a s freed r rs w (get_or w.slots r.key None) apart f refl f.taking.0

pub lower_steps : (a : List (Option Object)) (s : Serial) (freed : List Object) (rs : List Serial) (w : Work) → AreApart a → IsFreeing a s freed rs w → IsFreeing a s freed [] (lowered_each rs w)
lower_steps a s freed [] w apart f = f
lower_steps a s freed (r ∷ rs) w apart f = lower_steps a s freed rs (lowered r.key w) apart (lower_step a s freed r rs w apart f)
