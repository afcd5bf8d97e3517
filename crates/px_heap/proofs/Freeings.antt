-- What holds of the slots of a heap while objects are freed.
use Rattle.std.proofs.Common.{◌≡◌, ◌≢◌, ℕ, suc, ◌+◌, ◌≤◌, List, [], ◌∷◌, get_or, Option, Some, None, sym, ap, ◌∙◌, inl, inr, arith}
use Rattle.std.specs.Prelude.{option_map}
use Rattle.std.proofs.lemmas.Bool.{cases_eq}
use Rattle.px_heap.specs.declared.slots.Object.{Object}
use Rattle.px_heap.specs.declared.values.Serial.{Serial}
use Rattle.px_heap.specs.Heaps.{limit}
use Rattle.px_heap.specs.References.{AreAt, IsAt, inner, references, times, times_in}
use Rattle.px_heap.specs.Freeing.{Work}
use Rattle.px_heap.proofs.Chains.{IsChain, IsIn}
use Rattle.px_heap.proofs.Maps.{AreApart}
use Rattle.px_heap.proofs.Sums.{inner_changed, still_at, times_here, times_there}

-- how many references were lost by the object with this number: that one, and those in the objects that were freed, the last first
abbrev pub lost_by : Serial → List Object → ℕ → ℕ
lost_by s [] n = times n (s ∷ [])
lost_by s (o ∷ freed) n = times n (references o.value) + lost_by s freed n

-- What an object was: its count is what it was, less what it lost; of that some is still to be taken off.
pub record Was (a : List (Option Object)) (k : ℕ) (o : Object) (lost still : ℕ) : Type 0 where
  pub object : Object
  pub there : get_or a k None ≡ Some object
  pub number : o.number ≡ object.number
  pub value : o.value ≡ object.value
  pub few : o.count ≤ limit
  pub full : object.count ≡ limit → o.count ≡ limit
  pub less : object.count ≢ limit → o.count ≢ limit
  pub exact : object.count ≢ limit → o.count + lost ≡ object.count + still

-- a freed object had the references that were lost until then
pub record WasFreed (a : List (Option Object)) (o : Object) (lost : ℕ) : Type 0 where
  pub key : ℕ
  pub object : Object
  pub there : get_or a key None ≡ Some object
  pub number : o.number ≡ object.number
  pub value : o.value ≡ object.value
  pub count : object.count ≡ lost
  pub less : object.count ≢ limit

abbrev pub numbers : List Object → List ℕ
numbers [] = []
numbers (o ∷ os) = o.number ∷ numbers os

abbrev pub AreFreed : List (Option Object) → Serial → List Object → Type 0
AreFreed a s [] = Unit {0}
AreFreed a s (o ∷ freed) = WasFreed a o (lost_by s freed o.number) × (IsIn (numbers freed) o.number → ⊥) × AreFreed a s freed

pub record IsFreeing (a : List (Option Object)) (s : Serial) (freed : List Object) (rs : List Serial) (w : Work) : Type 0 where
  pub was : (k : ℕ) (o : Object) → get_or w.slots k None ≡ Some o → Was a k o (lost_by s freed o.number) (times o.number rs)
  pub gone : (k : ℕ) (o : Object) → get_or a k None ≡ Some o → get_or w.slots k None ≡ None → IsIn (numbers freed) o.number
  pub left : (k : ℕ) (o : Object) → get_or w.slots k None ≡ Some o → IsIn (numbers freed) o.number → ⊥
  pub targets : (k : ℕ) (o : Object) → get_or w.slots k None ≡ Some o → AreAt w.slots (references o.value)
  pub taking : AreAt w.slots rs
  pub covered : (k : ℕ) (o : Object) → get_or w.slots k None ≡ Some o → o.count ≢ limit → inner w.slots o.number + times o.number rs ≤ o.count
  pub dead : List ℕ
  pub chain : IsChain w.slots w.dead dead
  pub all_dead : (k : ℕ) (o : Object) → get_or w.slots k None ≡ Some o → o.count ≡ 0 → IsIn dead k
  pub freed_before : AreFreed a s freed
  pub sum : (n : ℕ) → inner w.slots n + lost_by s freed n ≡ inner a n + times n (s ∷ [])

-- the objects that are there have different numbers, as they had
pub apart_now : (a : List (Option Object)) (s : Serial) (freed : List Object) (rs : List Serial) (w : Work) → AreApart a → IsFreeing a s freed rs w → AreApart w.slots
apart_now a s freed rs w apart f j k o p h i e =
    let x = f.was j o h in
    let y = f.was k p i in
    apart j k x.object y.object x.there y.there (sym x.number ∙ e ∙ y.number)

-- Where a reference is taken off the object in a slot.
pub record IsLowering (w v : Work) (key : ℕ) (o p : Object) : Type 0 where
  pub there : get_or w.slots key None ≡ Some o
  pub next : get_or v.slots key None ≡ Some p
  pub others : (k : ℕ) → k ≢ key → get_or v.slots k None ≡ get_or w.slots k None
  pub number : p.number ≡ o.number
  pub value : p.value ≡ o.value
  pub full : o.count ≡ limit → p.count ≡ limit
  pub less : o.count ≢ limit → suc p.count ≡ o.count

some_is : (o p : Object) → Some o ≡ Some p → o ≡ p
some_is o p e = cc

some_not_none : (o : Object) → Some o ≡ None → ⊥
some_not_none o e = absurd (cc)

module _ (a : List (Option Object)) (s : Serial) (freed : List Object) (r : Serial) (rs : List Serial) (w v : Work) (o p : Object) (apart : AreApart a)
    (f : IsFreeing a s freed (r ∷ rs) w) (l : IsLowering w v r.key o p) (is : r.number ≡ o.number) where
  the_same : (k : ℕ) (q : Object) → k ≢ r.key → get_or v.slots k None ≡ Some q → get_or w.slots k None ≡ Some q
  the_same k q d h = sym (l.others k d) ∙ h

  here : (k : ℕ) (q : Object) → k ≡ r.key → get_or v.slots k None ≡ Some q → q ≡ p
  here k q e h = some_is q p (sym h ∙ ap (λ n. get_or v.slots n None) e ∙ l.next)

  away : (k : ℕ) (q : Object) → k ≢ r.key → get_or w.slots k None ≡ Some q → r.number ≢ q.number
  away k q d h e = d (sym (apart_now a s freed (r ∷ rs) w apart f r.key k o q l.there h (sym is ∙ e)))

  taken_here : times o.number (r ∷ rs) ≡ 1 + times o.number rs
  taken_here = times_here o.number r rs is

  now_was : Was a r.key p (lost_by s freed p.number) (times p.number rs)
  now_was =
      let x = f.was r.key o l.there in
      record {
        object = x.object;
        there = x.there;
        number = l.number ∙ x.number;
        value = l.value ∙ x.value;
        few = elim (cases_eq o.count limit) [
          | inl e ↦ let g = l.full e in omega (arith, g)
          | inr d ↦ let g = l.less d in let i = x.few in omega (arith, g, i)
        ];
        full = λ e. l.full (x.full e);
        less = λ d e. let g = l.less (x.less d) in let i = x.few in omega (arith, e, g, i);
        exact = λ d.
            let g = l.less (x.less d) in
            let i = x.exact d in
            let t = taken_here in
            let m : lost_by s freed p.number ≡ lost_by s freed o.number = ap (lost_by s freed) l.number in
            let n : times p.number rs ≡ times o.number rs = ap (λ n. times n rs) l.number in
            omega (arith, g, i, t, m, n);
      }

  same_inner : (n : ℕ) → inner v.slots n ≡ inner w.slots n
  same_inner n =
      let c = inner_changed w.slots v.slots r.key n l.others in
      let x : times_in n (get_or w.slots r.key None) ≡ times n (references o.value) = ap (times_in n) l.there in
      let y : times_in n (get_or v.slots r.key None) ≡ times n (references p.value) = ap (times_in n) l.next in
      let z : times n (references p.value) ≡ times n (references o.value) = ap (λ u. times n (references u)) l.value in
      omega (arith, c, x, y, z)

  at_slot : (q : Serial) → IsAt w.slots q → IsAt v.slots q
  at_slot q h = elim (cases_eq q.key r.key) [
    | inl e ↦
        ap (λ k. option_map (λ x. x.number) (get_or v.slots k None)) e ∙ ap (option_map (λ x. x.number)) l.next ∙ ap (λ n. Some n) l.number
        ∙ sym (ap (option_map (λ x. x.number)) l.there) ∙ sym (ap (λ k. option_map (λ x. x.number) (get_or w.slots k None)) e) ∙ h
    | inr d ↦ ap (option_map (λ x. x.number)) (l.others q.key d) ∙ h
  ]

  -- with a list of the objects without references that fits
  pub lowering : (dead : List ℕ) → IsChain v.slots v.dead dead → ((k : ℕ) (q : Object) → get_or v.slots k None ≡ Some q → q.count ≡ 0 → IsIn dead k) → IsFreeing a s freed rs v
  lowering dead chain all = record {
    was = λ k q h. elim (cases_eq k r.key) [
      | inl e ↦ rw (e, here k q e h) now_was
      | inr d ↦
          let g = the_same k q d h in
          let t = times_there q.number r rs (away k q d g) in
          let x = f.was k q g in
          record {
            object = x.object;
            there = x.there;
            number = x.number;
            value = x.value;
            few = x.few;
            full = x.full;
            less = x.less;
            exact = λ c. let i = x.exact c in omega (arith, i, t);
          }
    ];
    gone = λ k q h i. elim (cases_eq k r.key) [
      | inl e ↦ absurd (some_not_none p (sym l.next ∙ sym (ap (λ n. get_or v.slots n None) e) ∙ i))
      | inr d ↦ f.gone k q h (sym (l.others k d) ∙ i)
    ];
    left = λ k q h i. elim (cases_eq k r.key) [
      | inl e ↦ f.left r.key o l.there (rw (ap (λ x. x.number) (here k q e h) ∙ l.number) at i)
      | inr d ↦ f.left k q (the_same k q d h) i
    ];
    targets = λ k q h. elim (cases_eq k r.key) [
      | inl e ↦
          let g = f.targets r.key o l.there in
          let u : references o.value ≡ references q.value = ap references (sym l.value) ∙ ap (λ x. references x.value) (sym (here k q e h)) in
          rw u at (still_at w.slots v.slots (references o.value) (λ x c. at_slot x) g)
      | inr d ↦ still_at w.slots v.slots (references q.value) (λ x c. at_slot x) (f.targets k q (the_same k q d h))
    ];
    taking = still_at w.slots v.slots rs (λ x c. at_slot x) f.taking.1;
    covered = λ k q h c. elim (cases_eq k r.key) [
      | inl e ↦
          let same = here k q e h in
          let n : q.number ≡ o.number = ap (λ x. x.number) same ∙ l.number in
          let m : q.count ≡ p.count = ap (λ x. x.count) same in
          elim (cases_eq o.count limit) [
            | inl full ↦ absurd (c (m ∙ l.full full))
            | inr less ↦
                let g = f.covered r.key o l.there less in
                let i = l.less less in
                let t = taken_here in
                let j = same_inner q.number in
                let u : inner w.slots q.number ≡ inner w.slots o.number = ap (inner w.slots) n in
                let x : times q.number rs ≡ times o.number rs = ap (λ y. times y rs) n in
                omega (arith, g, i, t, j, u, x, m)
          ]
      | inr d ↦
          let g = the_same k q d h in
          let t = times_there q.number r rs (away k q d g) in
          let i = f.covered k q g c in
          let j = same_inner q.number in
          omega (arith, t, i, j)
    ];
    dead = dead;
    chain = chain;
    all_dead = all;
    freed_before = f.freed_before;
    sum = λ n. let i = f.sum n in let j = same_inner n in omega (arith, i, j);
  }
