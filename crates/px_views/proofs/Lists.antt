-- Lists made along a range of numbers, and cut into rows.
use Rattle.std.proofs.Common.{◌≡◌, ℕ, zero, suc, ◌+◌, ◌*◌, ◌<◌, ◌≤◌, List, [], ◌∷◌, ◌++◌, length, get_or, take, drop, map, refl, sym, ◌∙◌, ap, arith, length-append, add-zero, zero-add, add-one}
use Rattle.std.specs.Prelude.{insert, remove, reverse, slice_set}
use Rattle.std.specs.List.{flat_map, range_with_len}
use Rattle.std.proofs.lemmas.List.{take_at, drop_at, map-append, get_or_append_left, get_or-append-add}
use Rattle.std.proofs.lemmas.Grind.{flat_map-append, reverse_onto}
use Rattle.std.proofs.Math.Nat.{suc-mul, zero-mul}
use Rattle.px_model.specs.Views.{rows, columns}

module _ {X : Type 0} where
  -- two functions that agree on a range
  pub flat_map_same : (f g : ℕ → List X) (a n : ℕ) → ((i : ℕ) → a ≤ i → i < a + n → f i ≡ g i) → flat_map f (range_with_len a n) ≡ flat_map g (range_with_len a n)
  flat_map_same f g a zero h = refl
  flat_map_same f g a (suc n) h =
      ap (λ xs. xs ++ flat_map f (range_with_len (a + 1) n)) (h a (omega arith) (omega arith))
      ∙ ap (λ xs. g a ++ xs) (flat_map_same f g (a + 1) n (λ i low high. h i (omega arith) (omega arith)))

  pub length_flat : (g : ℕ → List X) (w a n : ℕ) → ((i : ℕ) → length (g i) ≡ w) → length (flat_map g (range_with_len a n)) ≡ n * w
  length_flat g w a zero h = omega (arith, zero-mul w)
  length_flat g w a (suc n) h =
      omega (arith, length-append (g a) (flat_map g (range_with_len (a + 1) n)), h a, length_flat g w (a + 1) n h, suc-mul n w)

  -- the rows of lists of one length that stand one after another
  pub rows_flat : (g : ℕ → List X) (w a n : ℕ) → ((i : ℕ) → length (g i) ≡ w) → rows n w (flat_map g (range_with_len a n)) ≡ map g (range_with_len a n)
  rows_flat g w a zero h = refl
  rows_flat g w a (suc n) h =
      let rest : List X = flat_map g (range_with_len (a + 1) n) in
      let first : take w (g a ++ rest) ≡ g a = take_at (g a) rest w (h a) in
      let later : drop w (g a ++ rest) ≡ rest = drop_at (g a) rest w (h a) in
      ap (λ r. r ∷ rows n w (drop w (g a ++ rest))) first
      ∙ ap (λ r. g a ∷ rows n w r) later
      ∙ ap (λ r. g a ∷ r) (rows_flat g w (a + 1) n h)

  -- an item of the rows one after another
  pub get_flat : (g : ℕ → List X) (w a n i r : ℕ) (d : X) → ((i : ℕ) → length (g i) ≡ w) → i < n → r < w
      → get_or (flat_map g (range_with_len a n)) (i * w + r) d ≡ get_or (g (a + i)) r d
  get_flat g w a zero i r d h k l = absurd (omega arith)
  get_flat g w a (suc n) zero r d h k l =
      ap (λ m. get_or (g a ++ flat_map g (range_with_len (a + 1) n)) m d) (omega (arith, zero-mul w))
      ∙ get_or_append_left (g a) (flat_map g (range_with_len (a + 1) n)) d r (omega (arith, h a))
      ∙ ap (λ m. get_or (g m) r d) (omega arith)
  get_flat g w a (suc n) (suc i) r d h k l =
      ap (λ m. get_or (g a ++ flat_map g (range_with_len (a + 1) n)) m d) (omega (arith, suc-mul i w, h a))
      ∙ get_or-append-add (g a) (flat_map g (range_with_len (a + 1) n)) (i * w + r) d
      ∙ get_flat g w (a + 1) n i r d h (omega arith) l
      ∙ ap (λ m. get_or (g m) r d) (omega arith)

  -- the columns of a table of items
  heads_of : {A B : Type 0} (f : A → B → X) (b : B) (bs : List B) (us : List A) → flat_map (take 1) (map (λ a. map (f a) (b ∷ bs)) us) ≡ map (λ a. f a b) us
  heads_of f b bs [] = refl
  heads_of f b bs (a ∷ us) = ap (λ xs. f a b ∷ xs) (heads_of f b bs us)

  tails_of : {A B : Type 0} (f : A → B → X) (b : B) (bs : List B) (us : List A) → map (drop 1) (map (λ a. map (f a) (b ∷ bs)) us) ≡ map (λ a. map (f a) bs) us
  tails_of f b bs [] = refl
  tails_of f b bs (a ∷ us) = ap (λ xs. map (f a) bs ∷ xs) (tails_of f b bs us)

  pub columns_of : {A B : Type 0} (f : A → B → X) (us : List A) (bs : List B) → columns (length bs) (map (λ a. map (f a) bs) us) ≡ map (λ b. map (λ a. f a b) us) bs
  columns_of f us [] = refl
  columns_of f us (b ∷ bs) =
      ap (λ xs. xs ∷ columns (length bs) (map (drop 1) (map (λ a. map (f a) (b ∷ bs)) us))) (heads_of f b bs us)
      ∙ ap (λ rs. map (λ a. f a b) us ∷ columns (length bs) rs) (tails_of f b bs us)
      ∙ ap (λ xs. map (λ a. f a b) us ∷ xs) (columns_of f us bs)

module _ {X Y : Type 0} where
  pub map_same : (f g : X → Y) (us : List X) → ((x : X) → f x ≡ g x) → map f us ≡ map g us
  map_same f g [] h = refl
  map_same f g (x ∷ us) h = ap (λ y. y ∷ map f us) (h x) ∙ ap (λ ys. g x ∷ ys) (map_same f g us h)

  pub map-map : {A : Type 0} (h : X → Y) (g : A → X) (us : List A) → map h (map g us) ≡ map (λ a. h (g a)) us
  map-map h g [] = refl
  map-map h g (a ∷ us) = ap (λ ys. h (g a) ∷ ys) (map-map h g us)

  pub map-flat_map : {A : Type 0} (h : X → Y) (g : A → List X) (us : List A) → map h (flat_map g us) ≡ flat_map (λ a. map h (g a)) us
  map-flat_map h g [] = refl
  map-flat_map h g (a ∷ us) = map-append h (g a) (flat_map g us) ∙ ap (λ ys. map h (g a) ++ ys) (map-flat_map h g us)

  pub flat_map-flat_map : {A : Type 0} (h : X → List Y) (g : A → List X) (us : List A) → flat_map h (flat_map g us) ≡ flat_map (λ a. flat_map h (g a)) us
  flat_map-flat_map h g [] = refl
  flat_map-flat_map h g (a ∷ us) = flat_map-append h (g a) (flat_map g us) ∙ ap (λ ys. flat_map h (g a) ++ ys) (flat_map-flat_map h g us)

-- ---- ranges
pub range_more : (a n m : ℕ) → range_with_len a (n + m) ≡ range_with_len a n ++ range_with_len (a + n) m
range_more a zero m = rw (zero-add m, add-zero a) refl
range_more a (suc n) m =
    let longer : suc n + m ≡ suc (n + m) = omega arith in
    let later : (a + 1) + n ≡ a + suc n = omega arith in
    ap (range_with_len a) longer
    ∙ ap (λ xs. a ∷ xs) (range_more (a + 1) n m ∙ ap (λ b. range_with_len (a + 1) n ++ range_with_len b m) later)

-- ranges of one length, each behind the one before it
pub ranges_flat : (o w a n : ℕ) → flat_map (λ i. range_with_len (o + i * w) w) (range_with_len a n) ≡ range_with_len (o + a * w) (n * w)
ranges_flat o w a zero = ap (range_with_len (o + a * w)) (sym (zero-mul w))
ranges_flat o w a (suc n) =
    let later : o + (a + 1) * w ≡ o + a * w + w = omega (arith, suc-mul a w, add-one a) in
    let longer : w + n * w ≡ suc n * w = omega (arith, suc-mul n w) in
    ap (λ xs. range_with_len (o + a * w) w ++ xs) (ranges_flat o w (a + 1) n)
    ∙ ap (λ b. range_with_len (o + a * w) w ++ range_with_len b (n * w)) later
    ∙ sym (range_more (o + a * w) w (n * w))
    ∙ ap (range_with_len (o + a * w)) longer

-- ---- items taken away and put in
module _ {X Y : Type 0} (f : X → Y) where
  pub map-remove : (us : List X) (n : ℕ) → map f (remove us n) ≡ remove (map f us) n
  map-remove [] zero = refl
  map-remove [] (suc n) = refl
  map-remove (u ∷ us) zero = refl
  map-remove (u ∷ us) (suc n) = ap (λ ys. f u ∷ ys) (map-remove us n)

  pub map-insert : (us : List X) (n : ℕ) (x : X) → map f (insert us n x) ≡ insert (map f us) n (f x)
  map-insert us zero x = refl
  map-insert [] (suc n) x = refl
  map-insert (u ∷ us) (suc n) x = ap (λ ys. f u ∷ ys) (map-insert us n x)

pub remove-set : {X : Type 0} (us : List X) (n : ℕ) (x : X) → remove (slice_set us n x) n ≡ remove us n
remove-set [] zero x = refl
remove-set [] (suc n) x = refl
remove-set (u ∷ us) zero x = refl
remove-set (u ∷ us) (suc n) x = ap (λ ys. u ∷ ys) (remove-set us n x)

pub map-reverse : {X Y : Type 0} (f : X → Y) (us : List X) → map f (reverse us) ≡ reverse (map f us)
map-reverse f [] = refl
map-reverse f (u ∷ us) =
    ap (map f) (reverse_onto us u []) ∙ map-append f (reverse us) (u ∷ []) ∙ ap (λ ys. ys ++ f u ∷ []) (map-reverse f us)
    ∙ sym (reverse_onto (map f us) (f u) [])
