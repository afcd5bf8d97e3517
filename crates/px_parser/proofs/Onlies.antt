-- From one index on a form is read in one way at most, in all lists that agree up to the token behind it.
use Rattle.std.proofs.Common.{◌≡◌, ℕ, suc, ◌≤◌, ◌<◌, List, [], ◌∷◌, Some, None, refl, sym, ap, ap₂, subst, ◌∙◌, arith}
use Rattle.px_lexer.specs.declared.token_list.TokenKind.{TokenKind}
use Rattle.px_lexer.specs.Terminals.{Terminal, HasKind}
use Rattle.px_exprs.specs.Readings.{Form, Stops, Agree}
use Rattle.px_exprs.proofs.Agreement.{agree_back, agree_carried}
use Rattle.px_exprs.proofs.Keeping.{name_carried, place_carried}
use Rattle.px_lexer.proofs.OneToken.{one_name, one_place}
use Rattle.px_parser.specs.Shapes.{Mode, Shape, Token, Name, Soft, Here, Placed, Gives, Then, Seq, Either, Many, Listed, Of, After, Before, Or, Maybe, Nested}
use Rattle.px_parser.specs.Readings.{Anywhere}
use Rattle.px_parser.proofs.Shapely.{Sound, Solid, sound_token, sound_many, sound_gives, sound_listed, sound_of}

-- What a form begins with

-- before R the form begins where T holds
pub record Leads {A : Type 0} (X : Shape A) (R T : Stops) : Type 0 where
  pub leads : {mode : Mode} {ts : List Terminal} {i n j : ℕ} {t : A} → X mode ts i t n j → R ts j → T ts i

-- the two can't hold at one token
abbrev pub Clash : Stops → Stops → Type 0
Clash T R = (ts us : List Terminal) (i : ℕ) → Agree (suc i) us ts → T ts i → R us i → ⊥

pub clash_back : {T R : Stops} → Clash T R → Clash R T
clash_back clash ts us i agree r t = clash us ts i (agree_back us ts agree) t r

pub leads_token : (k : TokenKind) (R T : Stops) → ((ts : List Terminal) (i : ℕ) → HasKind ts i k → T ts i) → Leads (Token k) R T
leads_token k R T h = record { leads = λ t r. h _ _ t.stands }

pub leads_then : {A B : Type 0} {X : Shape A} {Y : A → Shape B} {R M T : Stops} → Leads X M T → ((a : A) → Leads (Y a) R M) → Leads (Then X Y) R T
leads_then x y = record { leads = λ {t} h r. x.leads h.first ((y t.0).leads h.second r) }

pub leads_seq : {A B : Type 0} {X : Shape A} {Y : Shape B} {R M T : Stops} → Leads X M T → Leads Y R M → Leads (Seq X Y) R T
leads_seq x y = leads_then x (λ a. y)

pub leads_here : {A : Type 0} {X : Shape A} {R T : Stops} → Leads X R T → Leads (Seq Here X) R T
leads_here {T = T} x = record { leads = λ {ts} h r. subst (T ts) h.first.end (x.leads h.second r) }

pub leads_placed : {A : Type 0} {X : Shape A} {R T : Stops} → Leads X R T → Leads (Placed X) R T
leads_placed {T = T} x = record { leads = λ {ts} h r. subst (T ts) h.first.end (x.leads h.second r) }

pub leads_of : {A B : Type 0} {X : Shape A} (f : A → B) {R T : Stops} → Leads X R T → Leads (Of f X) R T
leads_of f x = record { leads = λ h r. x.leads h.read r }

pub leads_after : {A : Type 0} (X : Shape A) (k : TokenKind) (R T : Stops) → ((ts : List Terminal) (i : ℕ) → HasKind ts i k → T ts i) → Leads (After k X) R T
leads_after X k R T h = record { leads = λ g r. h _ _ g.read.first.stands }

pub leads_either : {A : Type 0} {X Y : Shape A} {R T : Stops} → Leads X R T → Leads Y R T → Leads (Either X Y) R T
leads_either x y = record {
  leads = λ h r. elim (h) [
    | Either.left g ↦ x.leads g r
    | Either.right g ↦ y.leads g r
  ];
}

pub leads_gives : {A : Type 0} (value : A) {R T : Stops} → ((ts : List Terminal) (i : ℕ) → R ts i → T ts i) → Leads (Gives value) R T
leads_gives value {R = R} h = record { leads = λ {ts} g r. h _ _ (subst (R ts) g.end r) }

-- elements begin where one begins, or where they end
many_begins : {A : Type 0} {X : Shape A} {R T : Stops} → Leads X Anywhere T → ((ts : List Terminal) (i : ℕ) → R ts i → T ts i) → {mode : Mode} {ts : List Terminal} {i n j : ℕ} {xs : List A} → Many X mode ts i xs n j → R ts j → T ts i
many_begins x h Many.none r = h _ _ r
many_begins x h (Many.more first rest) r = x.leads first tt

pub leads_many : {A : Type 0} {X : Shape A} {R T : Stops} → Leads X Anywhere T → ((ts : List Terminal) (i : ℕ) → R ts i → T ts i) → Leads (Many X) R T
leads_many x h = record { leads = λ g r. many_begins x h g r }

listed_begins : {A : Type 0} {X : Shape A} {T : Stops} (k : TokenKind) → Leads X Anywhere T → {mode : Mode} {ts : List Terminal} {i n j : ℕ} {xs : List A} → Listed k X mode ts i xs n j → T ts i
listed_begins k x (Listed.last first) = x.leads first tt
listed_begins k x (Listed.ended first comma) = x.leads first tt
listed_begins k x (Listed.more first comma rest) = x.leads first tt

pub leads_listed : {A : Type 0} {X : Shape A} {R T : Stops} (k : TokenKind) → Leads X Anywhere T → Leads (Listed k X) R T
leads_listed k x = record { leads = λ g r. listed_begins k x g }

-- what holds more often
pub leads_wider : {A : Type 0} {X : Shape A} {R T V : Stops} → Leads X R T → ((ts : List Terminal) (i : ℕ) → T ts i → V ts i) → Leads X R V
leads_wider x h = record { leads = λ g r. h _ _ (x.leads g r) }

pub leads_anyhow : {A : Type 0} {X : Shape A} {R T : Stops} → Leads X Anywhere T → Leads X R T
leads_anyhow x = record { leads = λ g r. x.leads g tt }

pub leads_anywhere : {A : Type 0} (X : Shape A) (R : Stops) → Leads X R Anywhere
leads_anywhere X R = record { leads = λ g r. tt }

-- One way

-- each block that begins up to this index is looked at
abbrev pub Sees : Mode → ℕ → Type 0
Sees mode l = (from : ℕ) → mode.unseen ≡ Some from → l < from

pub sees_less : (mode : Mode) {l k : ℕ} → Sees mode l → k ≤ l → Sees mode k
sees_less mode sees le from e = omega (arith, sees from e, le)

pub record Only {A : Type 0} (X : Shape A) (S : Stops) : Type 0 where
  pub one : {mode other : Mode} {ts us : List Terminal} {i n m l j : ℕ} {t u : A} → X mode ts i t n l → S ts l → X other us i u m j → S us j → Agree (suc l) us ts → Sees mode l → Sees other l
      → (t ≡ u) × (l ≡ j)

pub only_token : (k : TokenKind) (S : Stops) → Only (Token k) S
only_token k S = record { one = λ g s h r agree sees sight. (refl, omega (arith, g.end, h.end)) }

pub only_name : (S : Stops) → Only Name S
only_name S = record {
  one = λ {ts} {us} {i} g s h r agree sees sight.
      (one_name (name_carried (suc i) (agree_carried us ts agree (omega (arith, g.end))) g.stands (omega arith)) h.stands, omega (arith, g.end, h.end));
}

pub only_soft : (name : List ℕ) (S : Stops) → Only (Soft name) S
only_soft name S = record { one = λ g s h r agree sees sight. (refl, omega (arith, g.end, h.end)) }

pub only_here : (S : Stops) → Only Here S
only_here S = record { one = λ g s h r agree sees sight. (omega (arith, g.counted, h.counted), omega (arith, g.end, h.end)) }

pub only_gives : {A : Type 0} (value : A) (S : Stops) → Only (Gives value) S
only_gives value S = record { one = λ g s h r agree sees sight. (g.tree ∙ sym h.tree, omega (arith, g.end, h.end)) }

pub only_placed : {A : Type 0} {X : Shape A} {S : Stops} → Solid X → Only X S → Only (Placed X) S
only_placed {X = X} solid x = record {
  one = λ {mode} {other} {ts} {us} {i} {n} {m} {l} {j} {t} {u} g s h r agree sees sight.
      let left : X mode ts i t.1 n l = subst (λ k. X mode ts k t.1 n l) g.first.end g.second in
      let right : X other us i u.1 m j = subst (λ k. X other us k u.1 m j) h.first.end h.second in
      let same = x.one left s right r agree sees sight in
      let place : t.0 ≡ u.0 = one_place (place_carried (suc l) agree g.first.placed (omega (arith, solid.grows left))) h.first.placed in
      (ap₂ (λ a b. (a, b)) place same.0, same.1);
}

pub only_then : {A B : Type 0} {X : Shape A} {Y : A → Shape B} {M S : Stops} → Sound X → ((a : A) → Sound (Y a)) → Only X M → ((a : A) → Leads (Y a) S M) → ((a : A) → Only (Y a) S) → Only (Then X Y) S
only_then {Y = Y} sound behind x leads y = record {
  one = λ {mode} {other} {ts} {us} {i} {n} {m} {l} {j} {t} {u} g s h r agree sees sight.
      let le : g.middle ≤ l = (behind t.0).forward g.second in
      let first = x.one g.first ((leads t.0).leads g.second s) h.first ((leads u.0).leads h.second r) (agree_carried us ts agree (omega (arith, le))) (sees_less mode sees le) (sees_less other sight le) in
      let second : Y t.0 other us g.middle u.1 m j = subst (λ k. Y t.0 other us k u.1 m j) (sym first.1) (subst (λ a. Y a other us h.middle u.1 m j) (sym first.0) h.second) in
      let rest = (y t.0).one g.second s second r agree sees sight in
      (ap₂ (λ a b. (a, b)) first.0 rest.0, rest.1);
}

pub only_seq : {A B : Type 0} {X : Shape A} {Y : Shape B} {M S : Stops} → Sound X → Sound Y → Only X M → Leads Y S M → Only Y S → Only (Seq X Y) S
only_seq sound behind x leads y = only_then sound (λ a. behind) x (λ a. leads) (λ a. y)

pub only_of : {A B : Type 0} {X : Shape A} (f : A → B) {S : Stops} → Only X S → Only (Of f X) S
only_of f x = record {
  one = λ g s h r agree sees sight.
      let same = x.one g.read s h.read r agree sees sight in
      (g.tree ∙ ap f same.0 ∙ sym h.tree, same.1);
}

pub only_either : {A : Type 0} {X Y : Shape A} {S T V : Stops} → Sound X → Sound Y → Only X S → Only Y S → Leads X S T → Leads Y S V → Clash T V → Only (Either X Y) S
only_either p q x y t v clash = record {
  one = λ {mode} {other} {ts} {us} {i} {n} {m} {l} {j} g s h r agree sees sight. elim (g) [
    | Either.left a ↦ (elim (h) [
      | Either.left b ↦ x.one a s b r agree sees sight
      | Either.right b ↦ absurd (clash ts us i (agree_carried us ts agree (omega (arith, p.forward a))) (t.leads a s) (v.leads b r))
    ])
    | Either.right a ↦ (elim (h) [
      | Either.left b ↦ absurd (clash us ts i (agree_back us ts (agree_carried us ts agree (omega (arith, q.forward a)))) (t.leads b r) (v.leads a s))
      | Either.right b ↦ y.one a s b r agree sees sight
    ])
  ];
}

only_many-go : {A : Type 0} {X : Shape A} {M S T : Stops} → Sound X → Only X M → Leads X Anywhere T → Clash T S → ((ts : List Terminal) (i : ℕ) → T ts i → M ts i) → ((ts : List Terminal) (i : ℕ) → S ts i → M ts i)
    → {mode other : Mode} {ts us : List Terminal} {i n m l j : ℕ} {t u : List A} → Many X mode ts i t n l → S ts l → Many X other us i u m j → S us j → Agree (suc l) us ts → Sees mode l → Sees other l → (t ≡ u) × (l ≡ j)
only_many-go sound x leads clash begins ends Many.none s Many.none r agree sees sight = (refl, refl)
only_many-go sound x leads clash begins ends {ts = ts} {us = us} Many.none s (Many.more h rest) r agree sees sight = absurd (clash us ts _ (agree_back us ts agree) (leads.leads h tt) s)
only_many-go sound x leads clash begins ends {ts = ts} {us = us} (Many.more g tail) s Many.none r agree sees sight =
    absurd (clash ts us _ (agree_carried us ts agree (omega (arith, sound.forward g, (sound_many sound).forward tail))) (leads.leads g tt) r)
only_many-go {X = X} {M = M} {S = S} {T = T} sound x leads clash begins ends {mode} {other} {ts} {us} {n = n} {m = m} {j = j} (Many.more {k = k} g tail) s (Many.more {k = q} {others = others} h rest) r agree sees sight =
    let le = (sound_many sound).forward tail in
    let wider : Leads X Anywhere M = leads_wider leads begins in
    let next : Leads (Many X) S M = leads_many wider ends in
    let first = x.one g (next.leads tail s) h (next.leads rest r) (agree_carried us ts agree (omega (arith, le))) (sees_less mode sees le) (sees_less other sight le) in
    let moved : Many X other us k others m j = subst (λ p. Many X other us p others m j) (sym first.1) rest in
    let others_same = only_many-go {S = S} sound x leads clash begins ends tail s moved r agree sees sight in
    (ap₂ (λ a b. a ∷ b) first.0 others_same.0, others_same.1)

pub only_many : {A : Type 0} {X : Shape A} {M S T : Stops} → Sound X → Only X M → Leads X Anywhere T → Clash T S → ((ts : List Terminal) (i : ℕ) → T ts i → M ts i) → ((ts : List Terminal) (i : ℕ) → S ts i → M ts i) → Only (Many X) S
only_many {S = S} sound x leads clash begins ends = record { one = λ g s h r agree sees sight. only_many-go {S = S} sound x leads clash begins ends g s h r agree sees sight }

only_listed-go : {A : Type 0} {X : Shape A} {M S T : Stops} (k : TokenKind) → Sound X → Only X M → Leads X Anywhere T → Clash T S → Clash (λ ts i. HasKind ts i k) S → ((ts : List Terminal) (i : ℕ) → HasKind ts i k → M ts i)
    → ((ts : List Terminal) (i : ℕ) → S ts i → M ts i) → {mode other : Mode} {ts us : List Terminal} {i n m l j : ℕ} {t u : List A} → Listed k X mode ts i t n l → S ts l → Listed k X other us i u m j → S us j → Agree (suc l) us ts → Sees mode l
    → Sees other l → (t ≡ u) × (l ≡ j)
only_listed-go {S = S} {T = T} k sound x leads clash apart sep ends (Listed.last g) s (Listed.last h) r agree sees sight =
    let one = x.one g (ends _ _ s) h (ends _ _ r) agree sees sight in
    (ap (λ a. a ∷ []) one.0, one.1)
only_listed-go {S = S} {T = T} k sound x leads clash apart sep ends {ts = ts} {us = us} (Listed.last g) s (Listed.ended h comma) r agree sees sight =
    let one = x.one g (ends _ _ s) h (sep _ _ comma) agree sees sight in
    absurd (apart us ts _ (agree_back us ts agree) (subst (λ p. HasKind us p k) (sym one.1) comma) s)
only_listed-go {S = S} {T = T} k sound x leads clash apart sep ends {ts = ts} {us = us} (Listed.last g) s (Listed.more h comma rest) r agree sees sight =
    let one = x.one g (ends _ _ s) h (sep _ _ comma) agree sees sight in
    absurd (apart us ts _ (agree_back us ts agree) (subst (λ p. HasKind us p k) (sym one.1) comma) s)
only_listed-go {S = S} {T = T} k sound x leads clash apart sep ends {mode} {other} {ts} {us} (Listed.ended g comma) s (Listed.last h) r agree sees sight =
    let one = x.one g (sep _ _ comma) h (ends _ _ r) (agree_carried us ts agree (omega arith)) (sees_less mode sees (omega arith)) (sees_less other sight (omega arith)) in
    absurd (apart ts us _ (agree_carried us ts agree (omega arith)) comma (subst (S us) (sym one.1) r))
only_listed-go {S = S} {T = T} k sound x leads clash apart sep ends {mode} {other} {ts} {us} (Listed.ended g comma) s (Listed.ended h second) r agree sees sight =
    let one = x.one g (sep _ _ comma) h (sep _ _ second) (agree_carried us ts agree (omega arith)) (sees_less mode sees (omega arith)) (sees_less other sight (omega arith)) in
    (ap (λ a. a ∷ []) one.0, ap suc one.1)
only_listed-go {S = S} {T = T} k sound x leads clash apart sep ends {mode} {other} {ts} {us} (Listed.ended g comma) s (Listed.more h second rest) r agree sees sight =
    let one = x.one g (sep _ _ comma) h (sep _ _ second) (agree_carried us ts agree (omega arith)) (sees_less mode sees (omega arith)) (sees_less other sight (omega arith)) in
    absurd (clash us ts _ (agree_back us ts agree) (subst (λ p. T us (suc p)) (sym one.1) (listed_begins k leads rest)) s)
only_listed-go {S = S} {T = T} k sound x leads clash apart sep ends {mode} {other} {ts} {us} (Listed.more g comma tail) s (Listed.last h) r agree sees sight =
    let le = (sound_listed k sound).forward tail in
    let one = x.one g (sep _ _ comma) h (ends _ _ r) (agree_carried us ts agree (omega (arith, le))) (sees_less mode sees (omega (arith, le))) (sees_less other sight (omega (arith, le))) in
    absurd (apart ts us _ (agree_carried us ts agree (omega (arith, le))) comma (subst (S us) (sym one.1) r))
only_listed-go {S = S} {T = T} k sound x leads clash apart sep ends {mode} {other} {ts} {us} (Listed.more g comma tail) s (Listed.ended h second) r agree sees sight =
    let le = (sound_listed k sound).forward tail in
    let one = x.one g (sep _ _ comma) h (sep _ _ second) (agree_carried us ts agree (omega (arith, le))) (sees_less mode sees (omega (arith, le))) (sees_less other sight (omega (arith, le))) in
    absurd (clash ts us _ (agree_carried us ts agree (omega (arith, le))) (listed_begins k leads tail) (subst (λ p. S us (suc p)) (sym one.1) r))
only_listed-go {X = X} {S = S} {T = T} k sound x leads clash apart sep ends {mode} {other} {ts} {us} {m = m} {j = j} (Listed.more {k = p} g comma tail) s (Listed.more {k = q} {others = others} h second rest) r agree sees sight =
    let le = (sound_listed k sound).forward tail in
    let one = x.one g (sep _ _ comma) h (sep _ _ second) (agree_carried us ts agree (omega (arith, le))) (sees_less mode sees (omega (arith, le))) (sees_less other sight (omega (arith, le))) in
    let moved : Listed k X other us (suc p) others m j = subst (λ v. Listed k X other us (suc v) others m j) (sym one.1) rest in
    let same = only_listed-go {S = S} k sound x leads clash apart sep ends tail s moved r agree sees sight in
    (ap₂ (λ a b. a ∷ b) one.0 same.0, same.1)

pub only_listed : {A : Type 0} {X : Shape A} {M S T : Stops} (k : TokenKind) → Sound X → Only X M → Leads X Anywhere T → Clash T S → Clash (λ ts i. HasKind ts i k) S → ((ts : List Terminal) (i : ℕ) → HasKind ts i k → M ts i)
    → ((ts : List Terminal) (i : ℕ) → S ts i → M ts i) → Only (Listed k X) S
only_listed {S = S} k sound x leads clash apart sep ends = record { one = λ g s h r agree sees sight. only_listed-go {S = S} k sound x leads clash apart sep ends g s h r agree sees sight }

pub only_after : {A : Type 0} {X : Shape A} {S : Stops} (k : TokenKind) → Sound X → Only X S → Only (After k X) S
only_after {X = X} {S = S} k sound x = only_of _ (only_seq (sound_token k) sound (only_token k Anywhere) (leads_anywhere X S) x)

pub only_before : {A : Type 0} {X : Shape A} {M : Stops} (k : TokenKind) (S : Stops) → Sound X → Only X M → ((ts : List Terminal) (i : ℕ) → HasKind ts i k → M ts i) → Only (Before X k) S
only_before {M = M} k S sound x ends = only_of _ (only_seq sound (sound_token k) x (leads_token k S M ends) (only_token k S))

pub only_or : {A : Type 0} {X : Shape A} {S T : Stops} (absent : A) → Sound X → Only X S → Leads X S T → Clash T S → Only (Or absent X) S
only_or {S = S} absent sound x leads clash = only_either sound (sound_gives absent) x (only_gives absent S) leads (leads_gives absent (λ ts i s. s)) clash

pub only_maybe : {A : Type 0} {X : Shape A} {S T : Stops} → Sound X → Only X S → Leads X S T → Clash T S → Only (Maybe X) S
only_maybe sound x leads clash = only_or None (sound_of _ sound) (only_of _ x) (leads_of _ leads) clash

-- a form of expressions is read in one way
pub record OnlyForm {A : Type 0} (X : Form A) (S : Stops) : Type 0 where
  pub one : {ts us : List Terminal} {i d c l j : ℕ} {t u : A} → X ts i t d l → S ts l → X us i u c j → S us j → Agree (suc l) us ts → (t ≡ u) × (l ≡ j)

pub only_nested : {A : Type 0} {X : Form A} {S : Stops} → OnlyForm X S → Only (Nested X) S
only_nested x = record { one = λ g s h r agree sees sight. x.one g.read s h.read r agree }

-- what can stand before a form that ends so
pub only_narrower : {A : Type 0} {X : Shape A} {S R : Stops} → Only X S → ((ts : List Terminal) (i : ℕ) → R ts i → S ts i) → Only X R
only_narrower x h = record { one = λ g s k r agree sees sight. x.one g (h _ _ s) k (h _ _ r) agree sees sight }
