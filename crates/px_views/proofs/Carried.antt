-- What the indices of a picked view name in the view that it was picked from.
use Rattle.std.proofs.Common.{◌≡◌, ℕ, ℤ, pos, zero, suc, ◌<◌, ◌≤◌, List, [], ◌∷◌, length, refl, sym, ◌∙◌, ap, arith}
use Rattle.std.specs.Prelude.{◌+ℤ◌, ◌*ℤ◌, insert, remove, reverse, slice_set}
use Rattle.std.proofs.lemmas.Int.{ints}
use Rattle.std.proofs.lemmas.List.{reverse-reverse}
use Rattle.px_views.specs.declared.axes.Axis.{Axis}
use Rattle.px_views.specs.Strides.{axis_at}
use Rattle.px_views.proofs.Spreads.{moved_apart}
use Rattle.px_views.proofs.Indices.{IsIndex, place_at, Reaches}

-- ---- a view whose indices name places of another one
pub carried : (size : ℕ) (o p : ℤ) (axes new : List Axis) (g : List ℕ → List ℕ) → Reaches size o axes
    → ((us : List ℕ) → IsIndex new us → IsIndex axes (g us))
    → ((us : List ℕ) → IsIndex new us → place_at p new us ≡ place_at o axes (g us))
    → ((us vs : List ℕ) → IsIndex new us → IsIndex new vs → g us ≡ g vs → us ≡ vs)
    → Reaches size p new
carried size o p axes new g reaches index place same = record {
  inside = λ us h. rw (place us h) (reaches.inside (g us) (index us h));
  distinct = λ us vs h k e. same us vs h k (reaches.distinct (g us) (g vs) (index us h) (index vs k) (sym (place us h) ∙ e ∙ place vs k));
}

-- ---- an index
index_in : (axes : List Axis) (n i : ℕ) (us : List ℕ) → n < length axes → i < (axis_at axes n).extent → IsIndex (remove axes n) us → IsIndex axes (insert us n i)
index_in [] n i us h k l = absurd (omega arith)
index_in (a ∷ axes) zero i us h k l = (k, l)
index_in (a ∷ axes) (suc n) i [] h k l = absurd l
index_in (a ∷ axes) (suc n) i (u ∷ us) h k l = (l.0, index_in axes n i us (omega arith) k l.1)

place_in : (o : ℤ) (axes : List Axis) (n i : ℕ) (us : List ℕ) → n < length axes → IsIndex (remove axes n) us
    → place_at (o +ℤ pos i *ℤ (axis_at axes n).stride) (remove axes n) us ≡ place_at o axes (insert us n i)
place_in o [] n i us h l = absurd (omega arith)
place_in o (a ∷ axes) zero i us h l = refl
place_in o (a ∷ axes) (suc n) i [] h l = absurd l
place_in o (a ∷ axes) (suc n) i (u ∷ us) h l =
    ap (λ p. place_at p (remove axes n) us) (moved_apart o (pos i *ℤ (axis_at axes n).stride) (pos u *ℤ a.stride))
    ∙ place_in (o +ℤ pos u *ℤ a.stride) axes n i us (omega arith) l.1

same_in : (axes : List Axis) (n i : ℕ) (us vs : List ℕ) → n < length axes → IsIndex (remove axes n) us → IsIndex (remove axes n) vs → insert us n i ≡ insert vs n i → us ≡ vs
same_in [] n i us vs h k l e = absurd (omega arith)
same_in (a ∷ axes) zero i us vs h k l e = cc
same_in (a ∷ axes) (suc n) i [] vs h k l e = absurd k
same_in (a ∷ axes) (suc n) i (u ∷ us) [] h k l e = absurd l
same_in (a ∷ axes) (suc n) i (u ∷ us) (v ∷ vs) h k l e =
    let first : u ≡ v = cc in
    let later : insert us n i ≡ insert vs n i = cc in
    let rest : us ≡ vs = same_in axes n i us vs (omega arith) k.1 l.1 later in
    cc

pub picked_reaches : (size : ℕ) (o : ℤ) (axes : List Axis) (n i : ℕ) → n < length axes → i < (axis_at axes n).extent → Reaches size o axes
    → Reaches size (o +ℤ pos i *ℤ (axis_at axes n).stride) (remove axes n)
picked_reaches size o axes n i h k reaches =
    carried size o _ axes (remove axes n) (λ us. insert us n i) reaches
    (λ us l. index_in axes n i us h k l) (λ us l. place_in o axes n i us h l) (λ us vs l m e. same_in axes n i us vs h l m e)

-- ---- a slice
-- the index on an axis is another item's
abbrev pub changed : ℕ → (ℕ → ℕ) → List ℕ → List ℕ
changed n f [] = []
changed zero f (u ∷ us) = f u ∷ us
changed (suc n) f (u ∷ us) = u ∷ changed n f us

module _ (c : ℕ) (t : ℤ) (f : ℕ → ℕ) where
  abbrev pub cut_axis : Axis
  cut_axis = record { extent = c; stride = t }

  index_cut : (axes : List Axis) (n : ℕ) (us : List ℕ) → n < length axes → ((m : ℕ) → m < c → f m < (axis_at axes n).extent)
      → IsIndex (slice_set axes n cut_axis) us → IsIndex axes (changed n f us)
  index_cut [] n us h k l = absurd (omega arith)
  index_cut (a ∷ axes) zero [] h k l = absurd l
  index_cut (a ∷ axes) zero (u ∷ us) h k l = (k u l.0, l.1)
  index_cut (a ∷ axes) (suc n) [] h k l = absurd l
  index_cut (a ∷ axes) (suc n) (u ∷ us) h k l = (l.0, index_cut axes n us (omega arith) k l.1)

  place_cut : (o p : ℤ) (axes : List Axis) (n : ℕ) (us : List ℕ) → n < length axes
      → ((m : ℕ) → m < c → p +ℤ pos m *ℤ t ≡ o +ℤ pos (f m) *ℤ (axis_at axes n).stride)
      → IsIndex (slice_set axes n cut_axis) us → place_at p (slice_set axes n cut_axis) us ≡ place_at o axes (changed n f us)
  place_cut o p [] n us h reach l = absurd (omega arith)
  place_cut o p (a ∷ axes) zero [] h reach l = absurd l
  place_cut o p (a ∷ axes) zero (u ∷ us) h reach l = ap (λ q. place_at q axes us) (reach u l.0)
  place_cut o p (a ∷ axes) (suc n) [] h reach l = absurd l
  place_cut o p (a ∷ axes) (suc n) (u ∷ us) h reach l =
      place_cut (o +ℤ pos u *ℤ a.stride) (p +ℤ pos u *ℤ a.stride) axes n us (omega arith)
      (λ m less. moved_apart p (pos u *ℤ a.stride) (pos m *ℤ t) ∙ ap (λ q. q +ℤ pos u *ℤ a.stride) (reach m less)
      ∙ moved_apart o (pos (f m) *ℤ (axis_at axes n).stride) (pos u *ℤ a.stride))
      l.1

  same_cut : (axes : List Axis) (n : ℕ) (us vs : List ℕ) → n < length axes → ((m k : ℕ) → m < c → k < c → f m ≡ f k → m ≡ k)
      → IsIndex (slice_set axes n cut_axis) us → IsIndex (slice_set axes n cut_axis) vs → changed n f us ≡ changed n f vs → us ≡ vs
  same_cut [] n us vs h apart l m e = absurd (omega arith)
  same_cut (a ∷ axes) zero [] vs h apart l m e = absurd l
  same_cut (a ∷ axes) zero (u ∷ us) [] h apart l m e = absurd m
  same_cut (a ∷ axes) zero (u ∷ us) (v ∷ vs) h apart l m e =
      let image : f u ≡ f v = cc in
      let first : u ≡ v = apart u v l.0 m.0 image in
      cc
  same_cut (a ∷ axes) (suc n) [] vs h apart l m e = absurd l
  same_cut (a ∷ axes) (suc n) (u ∷ us) [] h apart l m e = absurd m
  same_cut (a ∷ axes) (suc n) (u ∷ us) (v ∷ vs) h apart l m e =
      let first : u ≡ v = cc in
      let later : changed n f us ≡ changed n f vs = cc in
      let rest : us ≡ vs = same_cut axes n us vs (omega arith) apart l.1 m.1 later in
      cc

  pub cut_reaches : (size : ℕ) (o p : ℤ) (axes : List Axis) (n : ℕ) → n < length axes → ((m : ℕ) → m < c → f m < (axis_at axes n).extent)
      → ((m k : ℕ) → m < c → k < c → f m ≡ f k → m ≡ k)
      → ((m : ℕ) → m < c → p +ℤ pos m *ℤ t ≡ o +ℤ pos (f m) *ℤ (axis_at axes n).stride)
      → Reaches size o axes → Reaches size p (slice_set axes n (record { extent = c; stride = t }))
  cut_reaches size o p axes n h below apart reach reaches =
      carried size o p axes (slice_set axes n cut_axis) (changed n f) reaches
      (λ us l. index_cut axes n us h below l) (λ us l. place_cut o p axes n us h reach l) (λ us vs l m e. same_cut axes n us vs h apart l m e)

-- ---- a new axis
module _ (t : ℤ) where
  abbrev pub one_axis : Axis
  one_axis = record { extent = 1; stride = t }

  index_wide : (axes : List Axis) (n : ℕ) (us : List ℕ) → n ≤ length axes → IsIndex (insert axes n one_axis) us → IsIndex axes (remove us n)
  index_wide axes zero [] h l = absurd l
  index_wide axes zero (u ∷ us) h l = l.1
  index_wide [] (suc n) us h l = absurd (omega arith)
  index_wide (a ∷ axes) (suc n) [] h l = absurd l
  index_wide (a ∷ axes) (suc n) (u ∷ us) h l = (l.0, index_wide axes n us (omega arith) l.1)

  place_wide : (o : ℤ) (axes : List Axis) (n : ℕ) (us : List ℕ) → n ≤ length axes → IsIndex (insert axes n one_axis) us
      → place_at o (insert axes n one_axis) us ≡ place_at o axes (remove us n)
  place_wide o axes zero [] h l = absurd l
  place_wide o axes zero (u ∷ us) h l =
      let none : u ≡ 0 = omega (arith, l.0) in
      ap (λ m. place_at (o +ℤ pos m *ℤ t) axes us) none ∙ ap (λ p. place_at p axes us) (omega (arith, ints))
  place_wide o [] (suc n) us h l = absurd (omega arith)
  place_wide o (a ∷ axes) (suc n) [] h l = absurd l
  place_wide o (a ∷ axes) (suc n) (u ∷ us) h l = place_wide (o +ℤ pos u *ℤ a.stride) axes n us (omega arith) l.1

  same_wide : (axes : List Axis) (n : ℕ) (us vs : List ℕ) → n ≤ length axes → IsIndex (insert axes n one_axis) us → IsIndex (insert axes n one_axis) vs
      → remove us n ≡ remove vs n → us ≡ vs
  same_wide axes zero [] vs h l m e = absurd l
  same_wide axes zero (u ∷ us) [] h l m e = absurd m
  same_wide axes zero (u ∷ us) (v ∷ vs) h l m e = let first : u ≡ v = omega (arith, l.0, m.0) in cc
  same_wide [] (suc n) us vs h l m e = absurd (omega arith)
  same_wide (a ∷ axes) (suc n) [] vs h l m e = absurd l
  same_wide (a ∷ axes) (suc n) (u ∷ us) [] h l m e = absurd m
  same_wide (a ∷ axes) (suc n) (u ∷ us) (v ∷ vs) h l m e =
      let first : u ≡ v = cc in
      let later : remove us n ≡ remove vs n = cc in
      let rest : us ≡ vs = same_wide axes n us vs (omega arith) l.1 m.1 later in
      cc

  pub wide_reaches : (size : ℕ) (o : ℤ) (axes : List Axis) (n : ℕ) → n ≤ length axes → Reaches size o axes → Reaches size o (insert axes n (record { extent = 1; stride = t }))
  wide_reaches size o axes n h reaches =
      carried size o o axes (insert axes n one_axis) (λ us. remove us n) reaches
      (λ us l. index_wide axes n us h l) (λ us l. place_wide o axes n us h l) (λ us vs l m e. same_wide axes n us vs h l m e)

-- ---- the axes in the other order
pub two_reach : (size : ℕ) (o : ℤ) (x y : Axis) → Reaches size o (x ∷ y ∷ []) → Reaches size o (y ∷ x ∷ [])
two_reach size o x y reaches =
    carried size o o (x ∷ y ∷ []) (y ∷ x ∷ []) reverse reaches index place same where
      index : (us : List ℕ) → IsIndex (y ∷ x ∷ []) us → IsIndex (x ∷ y ∷ []) (reverse us)
      index [] l = absurd l
      index (u ∷ []) l = absurd l.1
      index (u ∷ v ∷ []) l = (l.1.0, (l.0, tt))
      index (u ∷ v ∷ w ∷ us) l = absurd l.1.1

      place : (us : List ℕ) → IsIndex (y ∷ x ∷ []) us → place_at o (y ∷ x ∷ []) us ≡ place_at o (x ∷ y ∷ []) (reverse us)
      place [] l = absurd l
      place (u ∷ []) l = absurd l.1
      place (u ∷ v ∷ []) l = moved_apart o (pos u *ℤ y.stride) (pos v *ℤ x.stride)
      place (u ∷ v ∷ w ∷ us) l = absurd l.1.1

      same : (us vs : List ℕ) → IsIndex (y ∷ x ∷ []) us → IsIndex (y ∷ x ∷ []) vs → reverse us ≡ reverse vs → us ≡ vs
      same us vs l m e = sym (reverse-reverse us) ∙ ap reverse e ∙ reverse-reverse vs

pub three_reach : (size : ℕ) (o : ℤ) (x y z : Axis) → Reaches size o (x ∷ y ∷ z ∷ []) → Reaches size o (z ∷ y ∷ x ∷ [])
three_reach size o x y z reaches =
    carried size o o (x ∷ y ∷ z ∷ []) (z ∷ y ∷ x ∷ []) reverse reaches index place same where
      index : (us : List ℕ) → IsIndex (z ∷ y ∷ x ∷ []) us → IsIndex (x ∷ y ∷ z ∷ []) (reverse us)
      index [] l = absurd l
      index (u ∷ []) l = absurd l.1
      index (u ∷ v ∷ []) l = absurd l.1.1
      index (u ∷ v ∷ w ∷ []) l = (l.1.1.0, (l.1.0, (l.0, tt)))
      index (u ∷ v ∷ w ∷ a ∷ us) l = absurd l.1.1.1

      place : (us : List ℕ) → IsIndex (z ∷ y ∷ x ∷ []) us → place_at o (z ∷ y ∷ x ∷ []) us ≡ place_at o (x ∷ y ∷ z ∷ []) (reverse us)
      place [] l = absurd l
      place (u ∷ []) l = absurd l.1
      place (u ∷ v ∷ []) l = absurd l.1.1
      place (u ∷ v ∷ w ∷ []) l = omega (arith, ints)
      place (u ∷ v ∷ w ∷ a ∷ us) l = absurd l.1.1.1

      same : (us vs : List ℕ) → IsIndex (z ∷ y ∷ x ∷ []) us → IsIndex (z ∷ y ∷ x ∷ []) vs → reverse us ≡ reverse vs → us ≡ vs
      same us vs l m e = sym (reverse-reverse us) ∙ ap reverse e ∙ reverse-reverse vs
