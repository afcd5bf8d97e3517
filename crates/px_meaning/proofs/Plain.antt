-- Iterations that touch cells apart.
use Rattle.std.proofs.Common.{◌≡◌, ℕ, zero, suc, ◌+◌, ◌<◌, ◌≤◌, List, [], ◌∷◌, ◌++◌, length, None, Bool, true, false, refl, sym, ap, ◌∙◌, subst, inl, inr, ⊎_elim, arith}
use Rattle.std.specs.Prelude.{if◌then◌else◌, ◌==◌, ◌&&◌, IsTrue, Contains}
use Rattle.std.specs.List.{flat_map, range_with_len}
use Rattle.std.proofs.lemmas.Grind.{flat_map-append}
use Rattle.std.proofs.Math.Nat.{eq-or-lt_of_le}
use Rattle.px_base.specs.declared.c_types.CType.{CType}
use Rattle.px_model.specs.declared.cells.Cell.{Cell}
use Rattle.px_model.specs.declared.journals.Journal.{Journal}
use Rattle.px_model.specs.declared.stores.Store.{Store}
use Rattle.px_meaning.specs.Journals.{Sections, opening_sections, stores_of, result_at, times_at, Lawful, entered_in, places_ran, world_along}
use Rattle.px_meaning.proofs.Whole.{below_end, places_within, unstopped_are_whole, counted_first}
use Rattle.px_meaning.specs.Ends.{Ends, Flow}
use Rattle.px_meaning.specs.Interactions.{LoopEntry, Interaction, done, load, put, fill, copy, make, released, enter, leave, loop}
use Rattle.px_meaning.specs.Iterations.{LoopBodies, iteration, Alone, Reached, waits, behind_writes, alone}
use Rattle.px_meaning.specs.Iterations as reaching
use Rattle.px_meaning.specs.OneWorld.{Together, together}
use Rattle.px_meaning.specs.OneWorld as order
use Rattle.px_meaning.specs.Worlds.{Words, Write, is_cell, with_word, written, fill_writes, copy_writes, word_of_number, number_of_word, World, with_writes}
use Rattle.px_meaning.specs.Apart.{LoopsLeaveTheirWorld, AllOf, Stays, AreApart, world_behind, in_order, writes_of_first, reached_as, EndsAs, left_alone, ArePlain, PlainLoops}
use Rattle.px_ctypes.specs.Conversions.{converted}

-- Writes

pub written_behind : (xs ys : List Write) (words : Words) → written (xs ++ ys) words ≡ written ys (written xs words)
written_behind [] ys words = refl
written_behind (x ∷ xs) ys words = written_behind xs ys (with_word words x.0 x.1)

word_alike : (b : Bool) (x y v : ℕ) → x ≡ y → (if b then v else x) ≡ (if b then v else y)
word_alike true x y v same = refl
word_alike false x y v same = same

written_alike : (ws : List Write) (a b : Words) (R : Cell → Type 0) → ((c : Cell) → R c → a c ≡ b c) → (c : Cell) → R c
    → written ws a c ≡ written ws b c
written_alike [] a b R same c r = same c r
written_alike (w ∷ ws) a b R same c r =
    written_alike ws (with_word a w.0 w.1) (with_word b w.0 w.1) R (λ d q. word_alike (is_cell d w.0) (a d) (b d) w.1 (same d q)) c r

-- Where two states of the cells agree on what a run reads, it does the same on both.

copied_alike : (R W : Cell → Type 0) (pairs : List (Cell × Cell)) (from to : CType) (a b : Words)
    → AllOf (λ pair. W pair.0 × R pair.1) pairs
    → ((c : Cell) → R c → a c ≡ b c) → copy_writes pairs from to a ≡ copy_writes pairs from to b
copied_alike R W [] from to a b stays same = refl
copied_alike R W (pair ∷ pairs) from to a b stays same =
    ap (λ v. (pair.0, word_of_number (converted to (number_of_word from v))) ∷ copy_writes pairs from to a) (same pair.1 stays.0.1)
    ∙ ap (λ ws. (pair.0, word_of_number (converted to (number_of_word from (b pair.1)))) ∷ ws)
    (copied_alike R W pairs from to a b stays.1 same)

alone_alike : {A : Type 0} (R W : Cell → Type 0) (t : Interaction A) (a b : Words) → Stays R W t → ((c : Cell) → R c → a c ≡ b c)
    → alone t a [] ≡ alone t b []
alone_alike R W (done x) a b stays same = refl
alone_alike R W (load cell k) a b stays same =
    alone_alike R W (k (a cell)) a b (stays.1 (a cell)) same ∙ ap (λ v. alone (k v) b []) (same cell stays.0)
alone_alike R W (put cell word t) a b stays same =
    ap (behind_writes ((cell, word) ∷ []))
    (alone_alike R W t (written ((cell, word) ∷ []) a) (written ((cell, word) ∷ []) b) stays.1
    (written_alike ((cell, word) ∷ []) a b R same))
alone_alike R W (fill cells word t) a b stays same =
    ap (behind_writes (fill_writes cells word))
    (alone_alike R W t (written (fill_writes cells word) a) (written (fill_writes cells word) b) stays.1
    (written_alike (fill_writes cells word) a b R same))
alone_alike R W (copy pairs from to t) a b stays same =
    let copied : copy_writes pairs from to a ≡ copy_writes pairs from to b = copied_alike R W pairs from to a b stays.0 same in
    ap (behind_writes (copy_writes pairs from to a))
    (alone_alike R W t (written (copy_writes pairs from to a) a) (written (copy_writes pairs from to a) b) stays.1
    (written_alike (copy_writes pairs from to a) a b R same))
    ∙ ap (λ ws. behind_writes ws (alone t (written ws b) [])) copied
alone_alike R W (make buffer size t) a b stays same = absurd stays
alone_alike R W (released buffer t) a b stays same = absurd stays
alone_alike R W (enter k) a b stays same = absurd stays
alone_alike R W (leave store t) a b stays same = absurd stays
alone_alike R W (loop entry k) a b stays same = absurd stays

-- On one world a run does what it does alone.

behind_as : {A : Type 0} (ws : List Write) (a : Alone A) (w : World) (end : Together A) → EndsAs a (with_writes ws w) end
    → EndsAs (behind_writes ws a) w end
behind_as ws a w end is = reached_behind a.reached a.writes is
  where
    reached_behind : (r : Reached _) (vs : List Write) → reached_as r vs (with_writes ws w) end → reached_as r (ws ++ vs) w end
    reached_behind waits vs x = x
    reached_behind (reaching.ended v) vs x = x ∙ ap (λ words. order.ended v (record w { words = words }))
        (sym (written_behind ws vs w.words))
    reached_behind reaching.refused vs x = x

ends_as : {A : Type 0} (R W : Cell → Type 0) (t : Interaction A) (w : World) → Stays R W t → EndsAs (alone t w.words []) w (together t w)
ends_as R W (done x) w stays = refl
ends_as R W (load cell k) w stays = ends_as R W (k (w.words cell)) w (stays.1 (w.words cell))
ends_as R W (put cell word t) w stays =
    behind_as ((cell, word) ∷ []) (alone t (written ((cell, word) ∷ []) w.words) []) w _
    (ends_as R W t (with_writes ((cell, word) ∷ []) w) stays.1)
ends_as R W (fill cells word t) w stays =
    behind_as (fill_writes cells word) (alone t (written (fill_writes cells word) w.words) []) w _
    (ends_as R W t (with_writes (fill_writes cells word) w) stays.1)
ends_as R W (copy pairs from to t) w stays =
    behind_as (copy_writes pairs from to w.words) (alone t (written (copy_writes pairs from to w.words) w.words) []) w _
    (ends_as R W t (with_writes (copy_writes pairs from to w.words) w) stays.1)
ends_as R W (make buffer size t) w stays = absurd stays
ends_as R W (released buffer t) w stays = absurd stays
ends_as R W (enter k) w stays = absurd stays
ends_as R W (leave store t) w stays = absurd stays
ends_as R W (loop entry k) w stays = absurd stays

-- What a run writes alone are cells of W.

all_behind : {X : Type 0} (P : X → Type 0) (xs ys : List X) → AllOf P xs → AllOf P ys → AllOf P (xs ++ ys)
all_behind P [] ys p q = q
all_behind P (x ∷ xs) ys p q = (p.0, all_behind P xs ys p.1 q)

all_filled : (W : Cell → Type 0) (cells : List Cell) (word : ℕ) → AllOf W cells → AllOf (λ write. W write.0) (fill_writes cells word)
all_filled W [] word p = tt
all_filled W (cell ∷ cells) word p = (p.0, all_filled W cells word p.1)

all_copied : (R W : Cell → Type 0) (pairs : List (Cell × Cell)) (from to : CType) (words : Words)
    → AllOf (λ pair. W pair.0 × R pair.1) pairs
    → AllOf (λ write. W write.0) (copy_writes pairs from to words)
all_copied R W [] from to words p = tt
all_copied R W (pair ∷ pairs) from to words p = (p.0.0, all_copied R W pairs from to words p.1)

all_written : {A : Type 0} (R W : Cell → Type 0) (t : Interaction A) (words : Words) → Stays R W t
    → AllOf (λ write. W write.0) (alone t words []).writes
all_written R W (done x) words stays = tt
all_written R W (load cell k) words stays = all_written R W (k (words cell)) words (stays.1 (words cell))
all_written R W (put cell word t) words stays = (stays.0, all_written R W t (written ((cell, word) ∷ []) words) stays.1)
all_written R W (fill cells word t) words stays =
    all_behind (λ write. W write.0) (fill_writes cells word) _ (all_filled W cells word stays.0)
    (all_written R W t (written (fill_writes cells word) words) stays.1)
all_written R W (copy pairs from to t) words stays =
    all_behind (λ write. W write.0) (copy_writes pairs from to words) _ (all_copied R W pairs from to words stays.0)
    (all_written R W t (written (copy_writes pairs from to words) words) stays.1)
all_written R W (make buffer size t) words stays = absurd stays
all_written R W (released buffer t) words stays = absurd stays
all_written R W (enter k) words stays = absurd stays
all_written R W (leave store t) words stays = absurd stays
all_written R W (loop entry k) words stays = absurd stays

-- Writes of other cells leave a word as it is.

same_cell : (c d : Cell) → is_cell c d ≡ true → c ≡ d
same_cell c d is = both_parts c d (equal_numbers c.buffer d.buffer (left_true _ _ is)) (equal_numbers c.place d.place (right_true _ _ is))
  where
    left_true : (a b : Bool) → (a && b) ≡ true → a ≡ true
    left_true true b h = refl
    left_true false b h = h

    right_true : (a b : Bool) → (a && b) ≡ true → b ≡ true
    right_true true b h = h
    right_true false true h = refl
    right_true false false h = h

    equal_numbers : (n m : ℕ) → (n == m) ≡ true → n ≡ m
    equal_numbers n m h = grind (arith, Rattle.std.proofs.lemmas.Bool.Decides.nat_tests)

    both_parts : (c d : Cell) → c.buffer ≡ d.buffer → c.place ≡ d.place → c ≡ d
    both_parts c d p q = λ i. record { buffer = p i; place = q i }

unless_same : (b : Bool) (x v : ℕ) → (b ≡ true → ⊥) → (if b then v else x) ≡ x
unless_same true x v out = absurd (out refl)
unless_same false x v out = refl

untouched : (W : Cell → Type 0) (ws : List Write) (words : Words) → AllOf (λ write. W write.0) ws → (c : Cell) → (W c → ⊥)
    → written ws words c ≡ words c
untouched W [] words all c out = refl
untouched W (w ∷ ws) words all c out =
    untouched W ws (with_word words w.0 w.1) all.1 c out
    ∙ unless_same (is_cell c w.0) (words c) w.1 (λ is. out (subst W (sym (same_cell c w.0 is)) all.0))

module _ {A : Type 0} (iterations : ℕ → Interaction A) (count : ℕ) (reads writes : ℕ → Cell → Bool)
    (apart : AreApart iterations count reads writes) where
  abbrev written_by : ℕ → Words → Words
  written_by n words = written (writes_of_first iterations words n) words

  -- what one more iteration writes
  one_more : (n : ℕ) (words : Words) (c : Cell)
      → written_by (suc n) words c ≡ written (alone (iterations n) words []).writes (written_by n words) c
  one_more n words c = ap (λ f. f c) (written_behind (writes_of_first iterations words n) (alone (iterations n) words []).writes words)

  others_kept : (n : ℕ) (words : Words) → n < count → (c : Cell) → (IsTrue (writes n c) → ⊥)
      → written_by (suc n) words c ≡ written_by n words c
  others_kept n words lt c out =
      one_more n words c
      ∙ untouched (λ d. IsTrue (writes n d)) (alone (iterations n) words []).writes (written_by n words)
      (all_written (λ d. IsTrue (reads n d)) (λ d. IsTrue (writes n d)) (iterations n) words (apart.stays n lt)) c out

  -- a cell that none of the first ones writes
  before : (n : ℕ) (words : Words) → n ≤ count → (c : Cell) → ((k : ℕ) → k < n → IsTrue (writes k c) → ⊥) → written_by n words c ≡ words c
  before zero words le c out = refl
  before (suc n) words le c out =
      others_kept n words (omega (arith, le)) c (out n (omega arith)) ∙ before n words (omega (arith, le)) c
      (λ k lt. out k (omega (arith, lt)))

  -- a cell that the last of the first ones writes
  last_word : (n : ℕ) (words : Words) → n < count → (c : Cell) → IsTrue (writes n c)
      → written_by (suc n) words c ≡ left_alone (iterations n) words c
  last_word n words lt c w =
      one_more n words c
      ∙ written_alike (alone (iterations n) words []).writes (written_by n words) words (λ d. IsTrue (writes n d))
      (λ d r. before n words (omega (arith, lt)) d
      (λ k less v. apart.apart k n d (omega (arith, lt, less)) lt (λ e. absurd (omega (arith, less, e))) v (inr r))) c w

  -- a cell that one of the first ones writes
  own_word : (n i : ℕ) (words : Words) → n ≤ count → i < n → (c : Cell) → IsTrue (writes i c)
      → written_by n words c ≡ left_alone (iterations i) words c
  own_word zero i words le lt c w = absurd (omega (arith, lt))
  own_word (suc n) i words le lt c w =
      ⊎_elim
      (λ same. last_word n words (omega (arith, le)) c (subst (λ k. IsTrue (writes k c)) same w) ∙
      ap (λ k. left_alone (iterations k) words c) (sym same))
      (λ less. others_kept n words (omega (arith, le)) c
      (λ v. apart.apart i n c (omega (arith, le, less)) (omega (arith, le)) (λ e. absurd (omega (arith, less, e))) w (inr v))
      ∙ own_word n i words (omega (arith, le)) less c w)
      (eq-or-lt_of_le (omega (arith, lt)))

  -- an iteration does the same on the opening words and behind those before it
  same_alone : (n : ℕ) (words : Words) → n < count → alone (iterations n) (written_by n words) [] ≡ alone (iterations n) words []
  same_alone n words lt =
      alone_alike (λ c. IsTrue (reads n c)) (λ c. IsTrue (writes n c)) (iterations n) (written_by n words) words (apart.stays n lt)
      (λ c r. before n words (omega (arith, lt)) c
      (λ k less v. apart.apart k n c (omega (arith, lt, less)) lt (λ e. absurd (omega (arith, less, e))) v (inl r)))

  ended_on : (n : ℕ) (w v : World) → n < count → v ≡ with_writes (writes_of_first iterations w.words n) w
      → EndsAs (alone (iterations n) w.words []) v (together (iterations n) v)
  ended_on n w v lt is =
      let at : World = with_writes (writes_of_first iterations w.words n) w in
      subst (λ u. EndsAs (alone (iterations n) w.words []) u (together (iterations n) u)) (sym is)
      (subst (λ a. EndsAs a at (together (iterations n) at)) (same_alone n w.words lt)
      (ends_as (λ c. IsTrue (reads n c)) (λ c. IsTrue (writes n c)) (iterations n) at (apart.stays n lt)))

  world_of_end : (r : Reached A) (ws : List Write) (v : World) (end : Together A) → reached_as r ws v end
      → world_behind end ≡ with_writes ws v
  world_of_end waits ws v end is = absurd is
  world_of_end (reaching.ended a) ws v end is = ap world_behind is
  world_of_end reaching.refused ws v end is = absurd is

  worlds : (n : ℕ) (w : World) → n ≤ count → in_order iterations n w ≡ with_writes (writes_of_first iterations w.words n) w
  worlds zero w le = refl
  worlds (suc n) w le =
      let a : Alone A = alone (iterations n) w.words [] in
      let v : World = in_order iterations n w in
      let before_it : in_order iterations n w ≡ with_writes (writes_of_first iterations w.words n) w = worlds n w (omega (arith, le)) in
      world_of_end a.reached a.writes v (together (iterations n) v) (ended_on n w v (omega (arith, le)) before_it)
      ∙ ap (with_writes a.writes) before_it
      ∙ ap (λ words. record w { words = words }) (sym (written_behind (writes_of_first iterations w.words n) a.writes w.words))

  pub plain : (n : ℕ) (w : World) → n ≤ count → ArePlain iterations writes n w
  plain n w le = record {
    value = λ i lt. ended_on i w (in_order iterations i w) (omega (arith, le, lt)) (worlds i w (omega (arith, le, lt)));
    world = worlds n w le;
    own = λ i cell lt is. ap (λ v. v.words cell) (worlds n w le) ∙ own_word n i w.words le lt cell is;
    rest = λ cell out. ap (λ v. v.words cell) (worlds n w le) ∙ before n w.words le cell out;
  }

pub plain_loops : PlainLoops
plain_loops iterations count reads writes apart n w le = plain iterations count reads writes apart n w le

-- Along a journal

range_longer : (a n : ℕ) → range_with_len a (suc n) ≡ range_with_len a n ++ (a + n) ∷ []
range_longer a zero = let e : a ≡ a + 0 = omega arith in ap (λ k. k ∷ []) e
range_longer a (suc n) =
    let e : a + 1 + n ≡ a + suc n = omega arith in
    ap (λ xs. a ∷ xs) (range_longer (a + 1) n) ∙ ap (λ k. a ∷ (range_with_len (a + 1) n ++ k ∷ [])) e

behind_nothing : {X : Type 0} (xs : List X) → xs ++ [] ≡ xs
behind_nothing [] = refl
behind_nothing (x ∷ xs) = ap (λ ys. x ∷ ys) (behind_nothing xs)

gathered_writes : {A : Type 0} (iterations : ℕ → Interaction A) (words : Words) (n : ℕ)
    → flat_map (λ i. (alone (iterations i) words []).writes) (range_with_len 0 n) ≡ writes_of_first iterations words n
gathered_writes iterations words zero = refl
gathered_writes iterations words (suc n) =
    let f : ℕ → List Write = λ i. (alone (iterations i) words []).writes in
    let e : 0 + n ≡ n = omega arith in
    ap (flat_map f) (range_longer 0 n) ∙ flat_map-append f (range_with_len 0 n) ((0 + n) ∷ []) ∙
    ap (λ ws. flat_map f (range_with_len 0 n) ++ ws) (behind_nothing (f (0 + n)))
    ∙ ap (λ k. flat_map f (range_with_len 0 n) ++ f k) e ∙ ap (λ ws. ws ++ f n) (gathered_writes iterations words n)

no_sections : (iterations : ℕ → Interaction (Ends Flow)) (words : Words) (places : List ℕ) (now : Sections) → places ≡ []
    → stores_of iterations words places now ≡ now
unfolding stores_of
no_sections iterations words places now none_ = ap (λ ps. stores_of iterations words ps now) none_

world_left : (bodies : LoopBodies) (entry : LoopEntry) (w : World) (journal : Journal) → journal.sections ≡ []
    → places_ran entry.partition journal ≡ range_with_len 0 entry.partition.count
    → world_along bodies entry w journal ≡ with_writes (writes_of_first (iteration bodies entry) w.words entry.partition.count) w
unfolding world_along result_at
world_left bodies entry w journal none_ all =
    let its : ℕ → Interaction (Ends Flow) = iteration bodies entry in
    let same : stores_of its w.words journal.sections (opening_sections w.store) ≡ opening_sections w.store = no_sections its w.words
    journal.sections (opening_sections w.store) none_ in
    ap (λ (now : Sections). record w {
      words = written (flat_map (λ place. (alone (its place) w.words (now.starts place)).writes) (places_ran entry.partition journal))
          w.words;
      store = now.store;
    }) same
    ∙ ap (λ ps. record w { words = written (flat_map (λ place. (alone (its place) w.words []).writes) ps) w.words }) all
    ∙ ap (λ ws. record w { words = written ws w.words }) (gathered_writes its w.words entry.partition.count)

left_along : (bodies : LoopBodies) (entry : LoopEntry) (w : World) (journal : Journal) (reads writes : ℕ → Cell → Bool)
    → AreApart (iteration bodies entry) entry.partition.count reads writes → journal.sections ≡ []
    → places_ran entry.partition journal ≡ range_with_len 0 entry.partition.count
    → world_along bodies entry w journal ≡ in_order (iteration bodies entry) entry.partition.count w
left_along bodies entry w journal reads writes apart none_ all =
    let count : ℕ = entry.partition.count in
    world_left bodies entry w journal none_ all ∙ sym (plain (iteration bodies entry) count reads writes apart count w (omega arith)).world

-- A run without lock sections leaves no store.

no_left : {A : Type 0} (R W : Cell → Type 0) (t : Interaction A) (words : Words) (starts : List Store) → Stays R W t
    → (alone t words starts).left ≡ []
no_left R W (done a) words starts stays = refl
no_left R W (load cell k) words starts stays = no_left R W (k (words cell)) words starts (stays.1 (words cell))
no_left R W (put cell word t) words starts stays = no_left R W t _ starts stays.1
no_left R W (fill cells word t) words starts stays = no_left R W t _ starts stays.1
no_left R W (copy pairs from to t) words starts stays = no_left R W t _ starts stays.1
no_left R W (make buffer size t) words starts stays = absurd stays
no_left R W (released buffer t) words starts stays = absurd stays
no_left R W (enter k) words starts stays = absurd stays
no_left R W (leave store t) words starts stays = absurd stays
no_left R W (loop entry k) words starts stays = absurd stays

module _ (bodies : LoopBodies) (entry : LoopEntry) (w : World) (journal : Journal) (reads writes : ℕ → Cell → Bool)
    (apart : AreApart (iteration bodies entry) entry.partition.count reads writes) (lawful : Lawful (entered_in bodies entry w) journal)
  where
    none_left : (place : ℕ) → place < entry.partition.count → (result_at (entered_in bodies entry w) journal place).left ≡ []
    unfolding result_at
    none_left place lt = no_left (λ c. IsTrue (reads place c)) (λ c. IsTrue (writes place c)) (iteration bodies entry place) w.words _
        (apart.stays place lt)

    first_of : (place : ℕ) (places : List ℕ) → journal.sections ≡ place ∷ places → ⊥
    first_of place places is =
        let there : Contains journal.sections place = subst (λ xs. Contains xs place) (sym is) (0, omega arith, refl) in
        let within : place < entry.partition.count =
        below_end 0 (places_ran entry.partition journal) entry.partition.count place
        (places_within (entered_in bodies entry w) journal lawful) (lawful.no_other place there) in
        let often : times_at (place ∷ places) place ≡ 0 =
        ap (λ xs. times_at xs place) (sym is) ∙ lawful.sections place (lawful.no_other place there) ∙ ap length (none_left place within) in
        omega (arith, often, counted_first place places)

    no_section : (places : List ℕ) → journal.sections ≡ places → journal.sections ≡ []
    no_section [] is = is
    no_section (place ∷ places) is = absurd (first_of place places is)

    pub left_lawfully : journal.stopped ≡ None
        → world_along bodies entry w journal ≡ in_order (iteration bodies entry) entry.partition.count w
    left_lawfully unstopped =
        left_along bodies entry w journal reads writes apart (no_section journal.sections refl)
        (unstopped_are_whole (entered_in bodies entry w) journal lawful unstopped)

pub loops_leave_their_world : LoopsLeaveTheirWorld
loops_leave_their_world = record { along = left_along; lawful = left_lawfully }
