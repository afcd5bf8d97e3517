-- The map that the slots of a heap stand for, and what a change of one slot does to it.
use Rattle.std.proofs.Common.{◌≡◌, ◌≢◌, ℕ, zero, suc, ◌+◌, List, [], ◌∷◌, Bool, true, false, get_or, Option, Some, None, cond, refl, sym, ap, ◌∙◌, inl, inr, arith}
use Rattle.std.specs.Prelude.{option_map, nat_eq}
use Rattle.std.proofs.lemmas.Bool.{cases_eq, eq-eqb, ne_eqb, eqb-true}
use Rattle.px_heap.specs.declared.slots.Object.{Object}
use Rattle.px_heap.specs.Heaps.{Live, found_from, live, put}

-- slots in which each number stands once
abbrev pub AreApart : List (Option Object) → Type 0
AreApart slots = (j k : ℕ) (o p : Object) → get_or slots j None ≡ Some o → get_or slots k None ≡ Some p → o.number ≡ p.number → j ≡ k

apart_behind : (slot : Option Object) (slots : List (Option Object)) → AreApart (slot ∷ slots) → AreApart slots
apart_behind slot slots apart = λ j k o p h i e. let same : suc j ≡ suc k = apart (suc j) (suc k) o p h i e in omega (arith, same)

-- the object in a slot is the one with its number
found_there : (first : ℕ) (slots : List (Option Object)) (k : ℕ) (o : Object) → AreApart slots → get_or slots k None ≡ Some o → found_from first slots o.number ≡ Some (live (first + k) o)
found_there first [] k o apart h = absurd (cc)
found_there first (None ∷ slots) zero o apart h = absurd (cc)
found_there first (None ∷ slots) (suc k) o apart h =
    let e : first + 1 + k ≡ first + suc k = omega arith in
    found_there (first + 1) slots k o (apart_behind None slots apart) h ∙ ap (λ n. Some (live n o)) e
found_there first (Some p ∷ slots) zero o apart h =
    let same : p ≡ o = cc in
    let e : nat_eq o.number p.number ≡ true = eq-eqb o.number p.number (ap (λ x. x.number) (sym same)) in
    let f : first ≡ first + 0 = omega arith in
    rw e (ap (λ x. Some (live first x)) same ∙ ap (λ n. Some (live n o)) f)
found_there first (Some p ∷ slots) (suc k) o apart h =
    let e : nat_eq o.number p.number ≡ false = ne_eqb o.number p.number (λ i. absurd (suc_is_not (apart (suc k) 0 o p h refl i))) in
    let f : first + 1 + k ≡ first + suc k = omega arith in
    rw e (found_there (first + 1) slots k o (apart_behind (Some p) slots apart) h ∙ ap (λ n. Some (live n o)) f)
  where
    suc_is_not : suc k ≡ 0 → ⊥
    suc_is_not h = omega (arith, h)

pub found_at : (slots : List (Option Object)) (k : ℕ) (o : Object) → AreApart slots → get_or slots k None ≡ Some o → found_from 0 slots o.number ≡ Some (live k o)
found_at slots k o apart h = let e : 0 + k ≡ k = omega arith in found_there 0 slots k o apart h ∙ ap (λ n. Some (live n o)) e

-- Where an object with this number is found, it stands in the slot of its key.
record Stands (first : ℕ) (slots : List (Option Object)) (number : ℕ) (l : Live) : Type 0 where
  pub k : ℕ
  pub object : Object
  pub there : get_or slots k None ≡ Some object
  pub number_is : object.number ≡ number
  pub live_is : l ≡ live (first + k) object

stands_behind : (first : ℕ) (slot : Option Object) (slots : List (Option Object)) (number : ℕ) (l : Live) → Stands (first + 1) slots number l → Stands first (slot ∷ slots) number l
stands_behind first slot slots number l s = record {
  k = suc s.k;
  object = s.object;
  there = s.there;
  number_is = s.number_is;
  live_is = let e : first + 1 + s.k ≡ first + suc s.k = omega arith in s.live_is ∙ ap (λ n. live n s.object) e;
}

stands_by : (first : ℕ) (p : Object) (slots : List (Option Object)) (number : ℕ) (l : Live) (b : Bool) → nat_eq number p.number ≡ b
    → (found_from (first + 1) slots number ≡ Some l → Stands (first + 1) slots number l)
    → cond b (Some (live first p)) (found_from (first + 1) slots number) ≡ Some l → Stands first (Some p ∷ slots) number l
stands_by first p slots number l true e next h = record {
  k = 0;
  object = p;
  there = refl;
  number_is = sym (eqb-true number p.number e);
  live_is = let f : first ≡ first + 0 = omega arith in let same : l ≡ live first p = cc in same ∙ ap (λ n. live n p) f;
}
stands_by first p slots number l false e next h = stands_behind first (Some p) slots number l (next h)

stands_from : (first : ℕ) (slots : List (Option Object)) (number : ℕ) (l : Live) → found_from first slots number ≡ Some l → Stands first slots number l
stands_from first [] number l h = absurd (cc)
stands_from first (None ∷ slots) number l h = stands_behind first None slots number l (stands_from (first + 1) slots number l h)
stands_from first (Some p ∷ slots) number l h = stands_by first p slots number l (nat_eq number p.number) refl (stands_from (first + 1) slots number l) h

-- the object with this number stands in a slot
pub record IsThere (slots : List (Option Object)) (number : ℕ) (l : Live) : Type 0 where
  pub object : Object
  pub there : get_or slots l.key None ≡ Some object
  pub number_is : object.number ≡ number
  pub live_is : l ≡ live l.key object

pub is_there : (slots : List (Option Object)) (number : ℕ) (l : Live) → found_from 0 slots number ≡ Some l → IsThere slots number l
is_there slots number l h =
    let s = stands_from 0 slots number l h in
    let e : 0 + s.k ≡ s.k = omega arith in
    let f : l.key ≡ s.k = ap (λ x. x.key) s.live_is ∙ e in
    record {
      object = s.object;
      there = ap (λ n. get_or slots n None) f ∙ s.there;
      number_is = s.number_is;
      live_is = s.live_is ∙ ap (λ n. live n s.object) (e ∙ sym f);
    }

found_or : {A : Type 0} (o : Option A) → ((a : A) → o ≡ Some a → ⊥) → o ≡ None
found_or None h = refl
found_or (Some a) h = absurd (h a refl)

-- no slot has this number
pub found_none : (slots : List (Option Object)) (number : ℕ) → ((k : ℕ) (o : Object) → get_or slots k None ≡ Some o → o.number ≢ number) → found_from 0 slots number ≡ None
found_none slots number without = found_or (found_from 0 slots number) (λ l h. let t = is_there slots number l h in without l.key t.object t.there t.number_is)

-- One slot is changed, and what may stand there has this number, which no other slot has.
pub record Changes (old new : List (Option Object)) (key number : ℕ) (slot : Option Object) : Type 0 where
  pub changed : get_or new key None ≡ slot
  pub others : (other : ℕ) → other ≢ key → get_or new other None ≡ get_or old other None
  pub was : (o : Object) → get_or old key None ≡ Some o → o.number ≡ number
  pub is : (o : Object) → slot ≡ Some o → o.number ≡ number
  pub alone : (k : ℕ) (o : Object) → k ≢ key → get_or old k None ≡ Some o → o.number ≢ number

module _ (old new : List (Option Object)) (key number : ℕ) (slot : Option Object) (changes : Changes old new key number slot) where
  -- the number of an object in a new slot, by whether the slot is the changed one
  elsewhere : (k : ℕ) (o : Object) → k ≢ key → get_or new k None ≡ Some o → get_or old k None ≡ Some o
  elsewhere k o differs h = sym (changes.others k differs) ∙ h

  pub still_apart : AreApart old → AreApart new
  still_apart apart j k o p h i e =
      elim (cases_eq j key) [
        | inl a ↦ elim (cases_eq k key) [
          | inl b ↦ a ∙ sym b
          | inr b ↦ absurd (changes.alone k p b (elsewhere k p b i) (sym e ∙ changes.is o (sym changes.changed ∙ ap (λ n. get_or new n None) (sym a) ∙ h)))
        ]
        | inr a ↦ elim (cases_eq k key) [
          | inl b ↦ absurd (changes.alone j o a (elsewhere j o a h) (e ∙ changes.is p (sym changes.changed ∙ ap (λ n. get_or new n None) (sym b) ∙ i)))
          | inr b ↦ apart j k o p (elsewhere j o a h) (elsewhere k p b i) e
        ]
      ]

  in_slot : AreApart new → (s : Option Object) → slot ≡ s → found_from 0 new number ≡ option_map (live key) s
  in_slot apart (Some o) e =
      ap (found_from 0 new) (sym (changes.is o e)) ∙ found_at new key o apart (changes.changed ∙ e)
  in_slot apart None e = found_none new number (λ k o h.
      elim (cases_eq k key) [
        | inl a ↦ absurd (none_is_some o (sym e ∙ sym changes.changed ∙ ap (λ n. get_or new n None) (sym a) ∙ h))
        | inr a ↦ changes.alone k o a (elsewhere k o a h)
      ])
    where
      none_is_some : (o : Object) → None ≡ Some o → ⊥
      none_is_some o h = absurd (cc)

  beside : AreApart old → AreApart new → (other : ℕ) → other ≢ number → (l : Option Live) → found_from 0 old other ≡ l → found_from 0 new other ≡ l
  beside before after other differs (Some l) h =
      let t = is_there old other l h in
      let away : l.key ≢ key = λ e. differs (sym t.number_is ∙ changes.was t.object (ap (λ n. get_or old n None) (sym e) ∙ t.there)) in
      ap (found_from 0 new) (sym t.number_is) ∙ found_at new l.key t.object after (changes.others l.key away ∙ t.there) ∙ ap (λ x. Some x) (sym t.live_is)
  beside before after other differs None h = found_none new other (λ k o i e.
      elim (cases_eq k key) [
        | inl a ↦ differs (sym e ∙ changes.is o (sym changes.changed ∙ ap (λ n. get_or new n None) (sym a) ∙ i))
        | inr a ↦ none_found o (sym h ∙ ap (found_from 0 old) (sym e) ∙ found_at old k o before (elsewhere k o a i))
      ])
    where
      none_found : {k : ℕ} (o : Object) → None ≡ Some (live k o) → ⊥
      none_found o h = absurd (cc)

  -- the map has what stands in the slot, and is as before at other numbers
  pub put_there : AreApart old → (other : ℕ) → found_from 0 new other ≡ put number (option_map (live key) slot) (found_from 0 old) other
  put_there apart other =
      elim (cases_eq other number) [
        | inl a ↦ rw (eq-eqb other number a) (ap (found_from 0 new) a ∙ in_slot (still_apart apart) slot refl)
        | inr a ↦ rw (ne_eqb other number a) (beside apart (still_apart apart) other a (found_from 0 old other) refl)
      ]
