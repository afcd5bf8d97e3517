-- The calls of a heap as steps of the store that it stands for.
use Rattle.std.proofs.Common.{◌≡◌, ◌≢◌, ℕ, List, [], ◌∷◌, ◌++◌, length, get_or, set, Bool, true, false, Option, Some, None, refl, sym, ap, ◌∙◌, inl, inr, arith}
use Rattle.std.specs.Prelude.{option_map, slice_get}
use Rattle.std.proofs.lemmas.Bool.{cases_eq, eq-eqb, ne_eqb}
use Rattle.std.proofs.lemmas.List.{get_or-set_other, get_or-set_same, get_or_append_left, length-append, length-set}
use Rattle.std.proofs.lemmas.Option.{get_or_from_slice_get, slice_get_read, slice_get_within}
use Rattle.std.proofs.Math.Seq.{get_or-append_seam}
use Rattle.px_model.specs.declared.stores.Store.{Store}
use Rattle.px_heap.specs.declared.values.Serial.{Serial}
use Rattle.px_heap.specs.declared.values.Value.{Value}
use Rattle.px_heap.specs.Heaps.{Heap, Live, object_of, put}
use Rattle.px_heap.specs.Answers.{HasNow, IsDropped, IsNew, holding, is_among, lost, lowered_by, rest_of, shared}
use Rattle.px_heap.specs.Stores.{StandsFor, object_value, with_object, with_value_at}

live_is : (o p : Live) → Some o ≡ Some p → o ≡ p
live_is o p e = cc

put_same : (n m : ℕ) (l : Option Live) (f : ℕ → Option Live) → m ≡ n → put n l f m ≡ l
put_same n m l f e = rw (eq-eqb m n e) refl

put_other : (n m : ℕ) (l : Option Live) (f : ℕ → Option Live) → m ≢ n → put n l f m ≡ f m
put_other n m l f d = rw (ne_eqb m n d) refl

module _ {X : Type 0} where
  last_there : (xs : List X) (x : X) (n : ℕ) → n ≡ length xs → slice_get (xs ++ x ∷ []) n ≡ Some x
  last_there xs x n e =
      let l = length-append xs (x ∷ []) in
      slice_get_read (xs ++ x ∷ []) (length (xs ++ x ∷ [])) n x refl (omega (arith, l, e)) (sym (ap (λ k. get_or (xs ++ x ∷ []) k x) e ∙ get_or-append_seam xs x [] x))

  still_there : (xs : List X) (x y : X) (n : ℕ) → slice_get xs n ≡ Some y → slice_get (xs ++ x ∷ []) n ≡ Some y
  still_there xs x y n h =
      let l = length-append xs (x ∷ []) in
      let w = slice_get_within xs n y h in
      slice_get_read (xs ++ x ∷ []) (length (xs ++ x ∷ [])) n y refl (omega (arith, l, w)) (sym (get_or_append_left xs (x ∷ []) y n w ∙ get_or_from_slice_get xs n y y h))

  set_there : (xs : List X) (x y : X) (n : ℕ) → slice_get xs n ≡ Some y → slice_get (set xs n x) n ≡ Some x
  set_there xs x y n h =
      let w = slice_get_within xs n y h in
      let l = length-set xs n x in
      slice_get_read (set xs n x) (length (set xs n x)) n x refl (omega (arith, w, l)) (sym (get_or-set_same xs n x x w))

  set_beside : (xs : List X) (x y : X) (n m : ℕ) → m ≢ n → slice_get xs m ≡ Some y → slice_get (set xs n x) m ≡ Some y
  set_beside xs x y n m d h =
      let w = slice_get_within xs m y h in
      let l = length-set xs n x in
      slice_get_read (set xs n x) (length (set xs n x)) m y refl (omega (arith, w, l)) (sym (get_or-set_other xs n m x y d ∙ get_or_from_slice_get xs m y y h))

pub made_there : (old new : Heap) (value : Value) (s : Serial) (store : Store) → StandsFor old store → IsNew old new value s → StandsFor new (with_object value store)
made_there old new value s store f g = record {
  made =
      let l = length-append store.objects (object_value value ∷ []) in
      let m = g.made in
      let k = f.made in
      omega (arith, l, m, k);
  objects = λ n o h. elim (cases_eq n old.made) [
    | inl e ↦
        let is : Some o ≡ Some (record { key = s.key; count = 1; value = value }) = sym h ∙ g.objects n ∙ put_same old.made n _ (object_of old) e in
        last_there store.objects (object_value value) n (e ∙ f.made) ∙ ap (λ l. Some (object_value l.value)) (sym (live_is o _ is))
    | inr d ↦ still_there store.objects (object_value value) (object_value o.value) n (f.objects n o (sym (put_other old.made n _ (object_of old) d) ∙ sym (g.objects n) ∙ h))
  ];
}

-- a step that keeps the values of objects
keeps : (effect : Live → Live) → ((l : Live) → (effect l).value ≡ l.value) → (heap : Heap) (store : Store) (n : ℕ) (o : Live) (was : Option Live) → StandsFor heap store
    → object_of heap n ≡ was → option_map effect was ≡ Some o → slice_get store.objects n ≡ Some (object_value o.value)
keeps effect same heap store n o None f h e = absurd (cc)
keeps effect same heap store n o (Some l) f h e = f.objects n l h ∙ ap (λ v. Some (object_value v)) (sym (same l) ∙ ap (λ x. x.value) (live_is (effect l) o e))

pub shared_there : (old new : Heap) (number : ℕ) (store : Store) → StandsFor old store → HasNow old new number (option_map shared (object_of old number)) → StandsFor new store
shared_there old new number store f g = record {
  made = g.made ∙ f.made;
  objects = λ n o h. elim (cases_eq n number) [
    | inl e ↦ keeps shared (λ l. refl) old store n o (object_of old n) f refl
        (ap (λ m. option_map shared (object_of old m)) e ∙ sym (put_same number n _ (object_of old) e) ∙ sym (g.objects n) ∙ h)
    | inr d ↦ f.objects n o (sym (put_other number n _ (object_of old) d) ∙ sym (g.objects n) ∙ h)
  ];
}

rest_there : (heap : Heap) (store : Store) (n m : ℕ) (o : Live) (b : Bool) → StandsFor heap store → rest_of m b (object_of heap n) ≡ Some o → slice_get store.objects n ≡ Some (object_value o.value)
rest_there heap store n m o true f e = absurd (cc)
rest_there heap store n m o false f e = keeps (lowered_by m) (λ l. refl) heap store n o (object_of heap n) f refl e

pub dropped_there : (old new : Heap) (number : ℕ) (store : Store) → StandsFor old store → IsDropped old new number → StandsFor new store
dropped_there old new number store f g = record {
  made = g.made ∙ f.made;
  objects = λ n o h. rest_there old store n (lost old number g.freed n) o (is_among n g.freed) f (sym (g.objects n) ∙ h);
}

held_there : (value : Value) (heap : Heap) (store : Store) (n : ℕ) (o : Live) (was : Option Live) → StandsFor heap store → object_of heap n ≡ was → option_map (holding value) was ≡ Some o
    → slice_get (set store.objects n (object_value value)) n ≡ Some (object_value o.value)
held_there value heap store n o None f h e = absurd (cc)
held_there value heap store n o (Some l) f h e =
    set_there store.objects (object_value value) (object_value l.value) n (f.objects n l h) ∙ ap (λ x. Some (object_value x.value)) (live_is (holding value l) o e)

pub written_there : (old new : Heap) (number : ℕ) (value : Value) (store : Store) → StandsFor old store → HasNow old new number (option_map (holding value) (object_of old number)) → StandsFor new (with_value_at number value store)
written_there old new number value store f g = record {
  made = g.made ∙ f.made ∙ sym (length-set store.objects number (object_value value));
  objects = λ n o h. elim (cases_eq n number) [
    | inl e ↦
        let i = held_there value old store n o (object_of old n) f refl (ap (λ m. option_map (holding value) (object_of old m)) e ∙ sym (put_same number n _ (object_of old) e) ∙ sym (g.objects n) ∙ h) in
        ap (λ m. slice_get (set store.objects m (object_value value)) n) (sym e) ∙ i
    | inr d ↦ set_beside store.objects (object_value value) (object_value o.value) number n d (f.objects n o (sym (put_other number n _ (object_of old) d) ∙ sym (g.objects n) ∙ h))
  ];
}
