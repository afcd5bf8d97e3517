-- Which references are held after the calls of a heap.
use Rattle.std.proofs.Common.{◌≡◌, ◌≢◌, ℕ, ◌+◌, ◌-◌, ◌<◌, ◌≤◌, List, [], ◌∷◌, ◌++◌, Bool, true, false, Option, Some, None, refl, sym, ap, ◌∙◌, inl, inr, arith}
use Rattle.std.specs.Prelude.{option_map}
use Rattle.std.proofs.lemmas.Bool.{cases_Bool, cases_eq, eq-eqb, ne_eqb}
use Rattle.px_heap.specs.declared.values.Serial.{Serial}
use Rattle.px_heap.specs.declared.values.Value.{Value}
use Rattle.px_heap.specs.References.{references, times}
use Rattle.px_heap.specs.Heaps.{AreHeld, AreLive, Heap, IsLive, Live, count_of, inner_count, limit, object_of, put}
use Rattle.px_heap.specs.Answers.{AreFreed, HasNow, IsDropped, IsNew, holding, is_among, lost, lowered_by, raised, rest_of, shared}
use Rattle.px_heap.proofs.Sums.{times_here, times_less, times_there}

live_is : (o p : Live) → Some o ≡ Some p → o ≡ p
live_is o p e = cc

put_same : (n m : ℕ) (l : Option Live) (f : ℕ → Option Live) → m ≡ n → put n l f m ≡ l
put_same n m l f e = rw (eq-eqb m n e) refl

put_other : (n m : ℕ) (l : Option Live) (f : ℕ → Option Live) → m ≢ n → put n l f m ≡ f m
put_other n m l f d = rw (ne_eqb m n d) refl

-- live references stay so where their objects do
live_all : (old new : Heap) (all rs : List Serial) → ((r : Serial) → 0 < times r.number all → IsLive old r → IsLive new r) → ((n : ℕ) → times n rs ≤ times n all) → AreLive old rs → AreLive new rs
live_all old new all [] f h l = tt
live_all old new all (r ∷ rs) f h l = (
  f r (let e = times_here r.number r rs refl in let i = h r.number in omega (arith, e, i)) l.0,
  live_all old new all rs f (λ n. let e = times_less n r rs in let i = h n in omega (arith, e, i)) l.1,
)

live_behind : (heap : Heap) (front back : List Serial) → AreLive heap (front ++ back) → AreLive heap back
live_behind heap [] back h = h
live_behind heap (r ∷ front) back h = live_behind heap front back h.1

live_joined : (heap : Heap) (front back : List Serial) → AreLive heap front → AreLive heap back → AreLive heap (front ++ back)
live_joined heap [] back g h = h
live_joined heap (r ∷ front) back g h = (g.0, live_joined heap front back g.1 h)

times_joined : (n : ℕ) (front back : List Serial) → times n (front ++ back) ≡ times n front + times n back
times_joined n [] back = omega arith
times_joined n (r ∷ front) back = let e = times_joined n front back in omega (arith, e)

-- ---- a changed object keeps its key
module _ (old new : Heap) (number : ℕ) (effect : Live → Live) (key : (l : Live) → (effect l).key ≡ l.key) (g : HasNow old new number (option_map effect (object_of old number))) where
  key_kept : (was : Option Live) → option_map (λ o. o.key) (option_map effect was) ≡ option_map (λ o. o.key) was
  key_kept None = refl
  key_kept (Some l) = ap (λ k. Some k) (key l)

  live_still : (r : Serial) → IsLive old r → IsLive new r
  live_still r h = elim (cases_eq r.number number) [
    | inl e ↦
        ap (option_map (λ o. o.key)) (g.objects r.number ∙ put_same number r.number _ (object_of old) e) ∙ key_kept (object_of old number)
        ∙ ap (λ n. option_map (λ o. o.key) (object_of old n)) (sym e) ∙ h
    | inr d ↦ ap (option_map (λ o. o.key)) (g.objects r.number ∙ put_other number r.number _ (object_of old) d) ∙ h
  ]

  -- what an object was
  was_there : (m : ℕ) (o : Live) (was : Option Live) → m ≡ number → object_of new m ≡ Some o → object_of old number ≡ was → (l : Live) × (object_of old m ≡ Some l) × (effect l ≡ o)
  was_there m o None e h w =
      let n : None ≡ Some o = sym (ap (option_map effect) w) ∙ sym (g.objects m ∙ put_same number m _ (object_of old) e) ∙ h in
      absurd (cc)
  was_there m o (Some l) e h w = (
    l,
    ap (object_of old) e ∙ w,
    live_is (effect l) o (sym (ap (option_map effect) w) ∙ sym (g.objects m ∙ put_same number m _ (object_of old) e) ∙ h),
  )

pub shared_held : (old new : Heap) (of : Serial) (rs : List Serial) → IsLive old of → AreHeld old rs → HasNow old new of.number (option_map shared (object_of old of.number))
    → ((number : ℕ) → inner_count new number ≡ inner_count old number) → AreHeld new (of ∷ rs)
shared_held old new of rs live h g sum = record {
  live = (
    live_still old new of.number shared (λ l. refl) g of live,
    live_all old new rs rs (λ r i. live_still old new of.number shared (λ l. refl) g r) (λ n. omega arith) h.live,
  );
  counted = λ m o i d. elim (cases_eq m of.number) [
    | inl e ↦
        let w = was_there old new of.number shared (λ l. refl) g m o (object_of old of.number) e i refl in
        let c : raised w.0.count ≡ o.count = ap (λ x. x.count) w.2 in
        elim (cases_eq w.0.count limit) [
          | inl full ↦ absurd (d (sym c ∙ raised_full w.0.count full ∙ full))
          | inr less ↦
              let k = h.counted m w.0 w.1 less in
              let r = raised_less w.0.count less in
              let t = times_here m of rs (sym e) in
              let s = sum m in
              omega (arith, c, k, r, t, s)
        ]
    | inr e ↦
        let k = h.counted m o (sym (g.objects m ∙ put_other of.number m _ (object_of old) e) ∙ i) d in
        let t = times_there m of rs (λ x. e (sym x)) in
        let s = sum m in
        omega (arith, k, t, s)
  ];
}
  where
    raised_full : (n : ℕ) → n ≡ limit → raised n ≡ n
    raised_full n e = rw (eq-eqb n limit e) refl

    raised_less : (n : ℕ) → n ≢ limit → raised n ≡ n + 1
    raised_less n d = rw (ne_eqb n limit d) refl

pub written_held : (old new : Heap) (of : Serial) (value was : Value) (rs : List Serial) → AreHeld old (references value ++ rs) → HasNow old new of.number (option_map (holding value) (object_of old of.number))
    → AreLive new (references was) → ((number : ℕ) → inner_count new number + times number (references was) ≡ inner_count old number + times number (references value)) → AreHeld new (references was ++ rs)
written_held old new of value was rs h g live sum = record {
  live = live_joined new (references was) rs live
      (live_all old new rs rs (λ r i. live_still old new of.number (holding value) (λ l. refl) g r) (λ n. omega arith) (live_behind old (references value) rs h.live));
  counted = λ m o i d.
      let s = sum m in
      let t = times_joined m (references was) rs in
      let u = times_joined m (references value) rs in
      elim (cases_eq m of.number) [
        | inl e ↦
            let w = was_there old new of.number (holding value) (λ l. refl) g m o (object_of old of.number) e i refl in
            let c : w.0.count ≡ o.count = ap (λ x. x.count) w.2 in
            let k = h.counted m w.0 w.1 (λ x. d (sym c ∙ x)) in
            omega (arith, c, k, s, t, u)
        | inr e ↦
            let k = h.counted m o (sym (g.objects m ∙ put_other of.number m _ (object_of old) e) ∙ i) d in
            omega (arith, k, s, t, u)
      ];
}

-- ---- a new object
not_fresh : (old new : Heap) (value : Value) (s r : Serial) → IsNew old new value s → IsLive old r → r.number ≢ old.made
not_fresh old new value s r g h e =
    let n : None ≡ Some r.key = sym (ap (option_map (λ o. o.key)) (ap (object_of old) e ∙ g.fresh)) ∙ h in
    absurd (cc)

times_fresh : (old new : Heap) (value : Value) (s : Serial) (rs : List Serial) → IsNew old new value s → AreLive old rs → times old.made rs ≡ 0
times_fresh old new value s [] g h = refl
times_fresh old new value s (r ∷ rs) g h = times_there old.made r rs (not_fresh old new value s r g h.0) ∙ times_fresh old new value s rs g h.1

pub made_held : (old new : Heap) (value : Value) (s : Serial) (rs : List Serial) → AreHeld old (references value ++ rs) → IsNew old new value s → AreHeld new (s ∷ rs)
made_held old new value s rs h g =
    let live = live_behind old (references value) rs h.live in
    record {
      live = (
        ap (option_map (λ o. o.key)) (g.objects s.number ∙ put_same old.made s.number _ (object_of old) g.number),
        live_all old new rs rs
            (λ r i k. ap (option_map (λ o. o.key)) (g.objects r.number ∙ put_other old.made r.number _ (object_of old) (not_fresh old new value s r g k)) ∙ k)
            (λ n. omega arith) live,
      );
      counted = λ m o i d. elim (cases_eq m old.made) [
        | inl e ↦
            let is = live_is o (record { key = s.key; count = 1; value = value }) (sym i ∙ g.objects m ∙ put_same old.made m _ (object_of old) e) in
            let c : o.count ≡ 1 = ap (λ x. x.count) is in
            let t = times_here m s rs (g.number ∙ sym e) in
            let u : times m rs ≡ 0 = ap (λ n. times n rs) e ∙ times_fresh old new value s rs g live in
            let n : inner_count new m ≡ 0 = ap (inner_count new) e ∙ g.alone in
            omega (arith, c, t, u, n)
        | inr e ↦
            let k = h.counted m o (sym (g.objects m ∙ put_other old.made m _ (object_of old) e) ∙ i) d in
            let t = times_there m s rs (λ x. e (sym x ∙ g.number)) in
            let u = times_joined m (references value) rs in
            let n = g.inner m in
            omega (arith, k, t, u, n)
      ];
    }

-- ---- a reference less
record WasLost (heap : Heap) (dropped m : ℕ) (freed : List ℕ) : Type 0 where
  pub count : ℕ
  pub is : count_of heap m ≡ Some count
  pub less : count ≢ limit
  pub lost_all : count ≤ lost heap dropped freed m

was_lost : (heap : Heap) (dropped m : ℕ) (freed : List ℕ) → AreFreed heap dropped freed → is_among m freed ≡ true → WasLost heap dropped m freed
was_lost heap dropped m [] f e = absurd (cc)
was_lost heap dropped m (n ∷ freed) f e = elim (cases_eq m n) [
  | inl same ↦ record {
    count = lost heap dropped freed n;
    is = ap (count_of heap) same ∙ f.0;
    less = f.1;
    lost_all = let i : lost heap dropped freed n ≡ lost heap dropped freed m = ap (lost heap dropped freed) (sym same) in omega (arith, i);
  }
  | inr d ↦
      let w = was_lost heap dropped m freed f.3 (sym (beside d) ∙ e) in
      record { count = w.count; is = w.is; less = w.less; lost_all = let i = w.lost_all in omega (arith, i) }
]
  where
    beside : m ≢ n → is_among m (n ∷ freed) ≡ is_among m freed
    beside d = rw (ne_eqb m n d) refl

module _ (old new : Heap) (of : Serial) (rs : List Serial) (h : AreHeld old (of ∷ rs)) (g : IsDropped old new of.number) where
  counted_by : (m count : ℕ) (was : Option Live) → object_of old m ≡ was → option_map (λ o. o.count) was ≡ Some count → count ≢ limit → inner_count old m + times m (of ∷ rs) ≤ count
  counted_by m count None w e d = absurd (cc)
  counted_by m count (Some l) w e d =
      let c : l.count ≡ count = cc in
      let k = h.counted m l w (λ x. d (sym c ∙ x)) in
      omega (arith, k, c)

  -- a held object isn't freed
  stays : (m : ℕ) → 0 < times m rs → is_among m g.freed ≡ false
  stays m i = elim (cases_Bool (is_among m g.freed)) [
    | inl e ↦
        let w = was_lost old of.number m g.freed g.in_turn e in
        let k = counted_by m w.count (object_of old m) refl w.is w.less in
        let s = g.inner m in
        let l = w.lost_all in
        absurd (omega (arith, i, k, s, l))
    | inr e ↦ e
  ]

  live_now : (r : Serial) → 0 < times r.number rs → IsLive old r → IsLive new r
  live_now r i k =
      ap (option_map (λ o. o.key)) (g.objects r.number ∙ ap (λ b. rest_of (lost old of.number g.freed r.number) b (object_of old r.number)) (stays r.number i))
      ∙ key_kept_by (object_of old r.number) (lost old of.number g.freed r.number) ∙ k
    where
      key_kept_by : (was : Option Live) (n : ℕ) → option_map (λ o. o.key) (option_map (lowered_by n) was) ≡ option_map (λ o. o.key) was
      key_kept_by None n = refl
      key_kept_by (Some l) n = refl

  counted_rest : (m : ℕ) (o : Live) (b : Bool) (was : Option Live) → object_of old m ≡ was → rest_of (lost old of.number g.freed m) b was ≡ Some o → o.count ≢ limit → inner_count new m + times m rs ≤ o.count
  counted_rest m o true was w e d = absurd (cc)
  counted_rest m o false None w e d = absurd (cc)
  counted_rest m o false (Some l) w e d =
      let c = ap (λ x. x.count) (live_is (lowered_by (lost old of.number g.freed m) l) o e) in
      elim (cases_eq l.count limit) [
        | inl full ↦ absurd (d (sym c ∙ at_limit l (lost old of.number g.freed m) full))
        | inr less ↦
            let k = h.counted m l w less in
            let s = g.inner m in
            let x = below l (lost old of.number g.freed m) less in
            omega (arith, c, k, s, x)
      ]
    where
      at_limit : (l : Live) (n : ℕ) → l.count ≡ limit → (lowered_by n l).count ≡ limit
      at_limit l n e = rw (eq-eqb l.count limit e) e

      below : (l : Live) (n : ℕ) → l.count ≢ limit → (lowered_by n l).count ≡ l.count - n
      below l n d = rw (ne_eqb l.count limit d) refl

  pub dropped_held : AreHeld new rs
  dropped_held = record {
    live = live_all old new rs rs live_now (λ n. omega arith) h.live.1;
    counted = λ m o i d. counted_rest m o (is_among m g.freed) (object_of old m) refl (sym (g.objects m) ∙ i) d;
  }
