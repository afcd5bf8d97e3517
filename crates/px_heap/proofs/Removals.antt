-- Freeing the first object of the list, and all of them.
use Rattle.std.proofs.Common.{◌≡◌, ◌≢◌, ◌⊎◌, ℕ, ◌+◌, ◌<◌, List, [], ◌∷◌, get_or, set, Option, Some, None, refl, sym, ap, ◌∙◌, inl, inr, arith}
use Rattle.std.specs.Prelude.{option_map}
use Rattle.std.proofs.lemmas.Bool.{cases_eq}
use Rattle.std.proofs.lemmas.List.{get_or-set_other, get_or-set_same}
use Rattle.px_heap.specs.declared.slots.Object.{Object}
use Rattle.px_heap.specs.declared.values.Serial.{Serial}
use Rattle.px_heap.specs.Heaps.{limit}
use Rattle.px_heap.specs.References.{AreAt, IsAt, inner, references, times, times_in}
use Rattle.px_heap.specs.Freeing.{Frees, Work, freed_slot, frees_none, frees_one, lowered_each, work}
use Rattle.px_heap.proofs.Chains.{IsChain, IsIn, chain_kept}
use Rattle.px_heap.proofs.Freeings.{IsFreeing, Was, apart_now, lost_by}
use Rattle.px_heap.proofs.Lowerings.{lower_steps, within}
use Rattle.px_heap.proofs.Maps.{AreApart}
use Rattle.px_heap.proofs.Sums.{inner_at, inner_changed, still_at}

some_is : (o p : Object) → Some o ≡ Some p → o ≡ p
some_is o p e = cc

none_is_some : (o : Object) → None ≡ Some o → ⊥
none_is_some o e = absurd (cc)

module _ (a : List (Option Object)) (s : Serial) (freed : List Object) (slots : List (Option Object)) (key : ℕ) (o : Object) (next : Option ℕ) (ks : List ℕ) (link : Option ℕ) (apart : AreApart a)
    (f : IsFreeing a s freed [] (work slots link)) (there : get_or slots key None ≡ Some o) (none_left : o.count ≡ 0)
    (rest : IsChain slots next ks) (alone : IsIn ks key → ⊥) (all : (k : ℕ) (q : Object) → get_or slots k None ≡ Some q → q.count ≡ 0 → (k ≡ key) ⊎ IsIn ks k) where
  cut : List (Option Object)
  cut = set slots key None

  empty : get_or (set slots key None) key None ≡ None
  empty = get_or-set_same slots key None None (within slots key o there)

  beside : (k : ℕ) → k ≢ key → get_or (set slots key None) k None ≡ get_or slots k None
  beside k d = get_or-set_other slots key k None None d

  away : (k : ℕ) (q : Object) → get_or (set slots key None) k None ≡ Some q → k ≢ key
  away k q h e = none_is_some q (sym empty ∙ ap (λ n. get_or (set slots key None) n None) (sym e) ∙ h)

  as_was : (k : ℕ) (q : Object) → get_or (set slots key None) k None ≡ Some q → get_or slots k None ≡ Some q
  as_was k q h = sym (beside k (away k q h)) ∙ h

  other_number : (k : ℕ) (q : Object) → get_or (set slots key None) k None ≡ Some q → q.number ≢ o.number
  other_number k q h e = away k q h (apart_now a s freed [] (work slots link) apart f k key q o (as_was k q h) there e)

  less_inner : (n : ℕ) → inner (set slots key None) n + times n (references o.value) ≡ inner slots n
  less_inner n =
      let c = inner_changed slots (set slots key None) key n beside in
      let x : times_in n (get_or slots key None) ≡ times n (references o.value) = ap (times_in n) there in
      let y : times_in n (get_or (set slots key None) key None) ≡ 0 = ap (times_in n) empty in
      omega (arith, c, x, y)

  -- no object has a reference to it
  no_reference : inner slots o.number ≡ 0
  no_reference =
      let c = f.covered key o there (λ e. omega (arith, e, none_left)) in
      omega (arith, c, none_left)

  at_by : (q : Serial) → 0 < inner slots q.number → IsAt slots q → (k : ℕ) → q.key ≡ k → (k ≡ key) ⊎ (k ≢ key) → IsAt (set slots key None) q
  at_by q i h k e (inl same) =
      let x : option_map (λ x. x.number) (get_or slots q.key None) ≡ Some o.number = ap (λ n. option_map (λ x. x.number) (get_or slots n None)) (e ∙ same) ∙ ap (option_map (λ x. x.number)) there in
      let y : Some q.number ≡ Some o.number = sym h ∙ x in
      let z : q.number ≡ o.number = cc in
      let u : inner slots q.number ≡ inner slots o.number = ap (inner slots) z in
      let v = no_reference in
      absurd (omega (arith, i, u, v))
  at_by q i h k e (inr d) = ap (option_map (λ x. x.number)) (beside q.key (λ g. d (sym e ∙ g))) ∙ h

  at_slot : (q : Serial) → 0 < inner slots q.number → IsAt slots q → IsAt (set slots key None) q
  at_slot q i h = at_by q i h q.key refl (cases_eq q.key key)

  targets_of : (k : ℕ) (q : Object) → get_or slots k None ≡ Some q → AreAt (set slots key None) (references q.value)
  targets_of k q h = still_at slots (set slots key None) (references q.value)
      (λ x c.
      let i = inner_at slots k x.number in
      let g : times_in x.number (get_or slots k None) ≡ times x.number (references q.value) = ap (times_in x.number) h in
      at_slot x (omega (arith, c, i, g)))
      (f.targets k q h)

  old : Was a key o (lost_by s freed o.number) 0
  old = f.was key o there

  open_then : old.object.count ≢ limit
  open_then e = let g = old.full e in omega (arith, g, none_left)

  pub removal : IsFreeing a s (o ∷ freed) (references o.value) (work (set slots key None) next)
  removal = record {
    was = λ k q h.
        let x = f.was k q (as_was k q h) in
        record {
          object = x.object;
          there = x.there;
          number = x.number;
          value = x.value;
          few = x.few;
          full = x.full;
          less = x.less;
          exact = λ c. let i = x.exact c in omega (arith, i);
        };
    gone = λ k q h i. elim (cases_eq k key) [
      | inl e ↦ inl (ap (λ x. x.number) (some_is q old.object (sym h ∙ ap (λ n. get_or a n None) e ∙ old.there)) ∙ sym old.number)
      | inr d ↦ inr (f.gone k q h (sym (beside k d) ∙ i))
    ];
    left = λ k q h i. elim i [
      | inl e ↦ other_number k q h e
      | inr j ↦ f.left k q (as_was k q h) j
    ];
    targets = λ k q h. targets_of k q (as_was k q h);
    taking = targets_of key o there;
    covered = λ k q h c.
        let i = f.covered k q (as_was k q h) c in
        let j = less_inner q.number in
        omega (arith, i, j);
    dead = ks;
    chain = chain_kept slots (set slots key None) next ks (λ k i. beside k (λ e. alone (rw e at i))) rest;
    all_dead = λ k q h c. elim (all k q (as_was k q h) c) [
      | inl e ↦ absurd (away k q h e)
      | inr i ↦ i
    ];
    freed_before = (
      record {
        key = key;
        object = old.object;
        there = old.there;
        number = old.number;
        value = old.value;
        count = let e = old.exact open_then in omega (arith, e, none_left);
        less = open_then;
      },
      f.left key o there,
      f.freed_before,
    );
    sum = λ n. let i = f.sum n in let j = less_inner n in omega (arith, i, j);
  }

pub record Freed (a : List (Option Object)) (s : Serial) (left : List (Option Object)) : Type 0 where
  pub freed : List Object
  pub state : IsFreeing a s freed [] (work left None)

first_of : (a : List (Option Object)) (s : Serial) (freed : List Object) (slots : List (Option Object)) (key : ℕ) (ks : List ℕ) → AreApart a → (f : IsFreeing a s freed [] (work slots (Some key)))
    → IsChain slots (Some key) ks → ((k : ℕ) (q : Object) → get_or slots k None ≡ Some q → q.count ≡ 0 → IsIn ks k)
    → (o : Object) × (get_or slots key None ≡ Some o) × IsFreeing a s (o ∷ freed) (references o.value) (work (set slots key None) o.next)
first_of a s freed slots key [] apart f c all = absurd (cc)
first_of a s freed slots key (k ∷ ks) apart f c all =
    let same : key ≡ k = cc in
    let there : get_or slots key None ≡ Some c.1.object = ap (λ n. get_or slots n None) same ∙ c.1.there in (
      c.1.object,
      there,
      removal a s freed slots key c.1.object c.1.object.next ks (Some key) apart f there c.1.count c.3 (λ i. c.2 (rw same at i)) (λ j q h i. elim (all j q h i) [
        | inl e ↦ inl (e ∙ sym same)
        | inr g ↦ inr g
      ]),
    )

pub all_freed : (a : List (Option Object)) (s : Serial) (freed : List Object) (w : Work) (left : List (Option Object)) → AreApart a → Frees w left → IsFreeing a s freed [] w → Freed a s left
all_freed a s freed w left apart (frees_none slots) f = record { freed = freed; state = f }
all_freed a s freed w left apart (frees_one slots l key more) f =
    let x = first_of a s freed slots key f.dead apart f f.chain f.all_dead in
    let same : freed_slot key (work slots (Some key)) (get_or slots key None) ≡ lowered_each (references x.0.value) (work (set slots key None) x.0.next) = ap (freed_slot key (work slots (Some key))) x.1 in
    let g = lower_steps a s (x.0 ∷ freed) (references x.0.value) (work (set slots key None) x.0.next) apart x.2 in
    all_freed a s (x.0 ∷ freed) _ left apart more (rw same g)
