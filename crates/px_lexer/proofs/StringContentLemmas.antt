-- The content of a string that isn't raw, as it is read from left to right.
use Rattle.std.proofs.Common.{◌≡◌, ◌≢◌, ◌⊎◌, inl, inr, ⊎_elim, ℕ, Bool, true, false, not, cond, List, [], ◌∷◌, ◌++◌, ◌+◌, ◌-◌, ◌<◌, ◌≤◌, length, drop, slice_index, nat_le, ◌==◌, ◌&&◌, refl, ap, sym, subst, ◌∙◌, arith, add-one, add-zero, IsTrue, IsFalse, Option, Some, None, Contains}
use Rattle.std.proofs.lemmas.List.{append_assoc, append-nil, drop_more, drop_all, drop-drop, get_or-drop, length-drop}
use Rattle.std.proofs.lemmas.Bool.{eqb-true, ne_eqb, cases_lt, and_right, false≢true, leb-true}
use Rattle.std.proofs.lemmas.List.Elements.{Contains-get_or}
use borrow.Author.Count.{below_more}
use Rattle.px_lexer.specs.Characters.{unreadable}
use Rattle.px_lexer.specs.Places.{is_line_break, line_end_len}
use Rattle.px_lexer.specs.Strings.{Escape, escape_of, simple_escapes, is_escaped, IsContent, IsBadEscape, with_line_feeds}
use Rattle.px_lexer.specs.Strings.IsContent.{ends, character, line_end, escape}
use Rattle.px_lexer.specs.StringSteps.{AreGoodBefore}
use Rattle.px_lexer.proofs.EscapeLemmas.{IsSpan, escape_span, inside_by}
use Rattle.px_lexer.proofs.StringBodyLemmas.{escaped_behind, not_escaped}

-- the characters before this index are read, and stand for what is done; no escape before it is wrong, and none goes over it
pub record IsReadTo (body : List ℕ) (at : ℕ) (done : List ℕ) : Type 0 where
  pub inside : at ≤ length body
  pub begins : is_escaped body at ≡ false
  pub good : AreGoodBefore body at
  pub spells : (content : List ℕ) → IsContent (drop at body) content → IsContent body (done ++ content)

pub read_none : (body : List ℕ) → IsReadTo body 0 []
unfolding is_escaped
read_none body = record { inside = omega arith; begins = refl; good = λ i h b. absurd (omega arith); spells = λ content h. h }

no_backslash_is_good : (body : List ℕ) (i : ℕ) → slice_index body i ≢ 92 → IsBadEscape body i → ⊥
no_backslash_is_good body i h b = h b.backslash

pub read_character : (body : List ℕ) (at c : ℕ) (done : List ℕ) → IsReadTo body at done → at < length body → slice_index body at ≡ c → c ≢ 92 → IsFalse (is_line_break c) → IsReadTo body (at + 1) (done ++ c ∷ [])
read_character body at c done r inside is_c no_backslash no_break =
    let here : slice_index body at ≢ 92 = λ e. no_backslash (sym is_c ∙ e) in
    record {
      inside = omega arith;
      begins = not_escaped body at here;
      good = below_more (λ i. IsBadEscape body i → ⊥) at r.good (no_backslash_is_good body at here);
      spells = λ content h.
          let left : drop at body ≡ c ∷ drop (at + 1) body = drop_more body at 0 inside ∙ ap (λ x. x ∷ drop (at + 1) body) is_c in
          rw append_assoc (r.spells (c ∷ content) (rw left (character no_backslash no_break h)));
    }

-- a line end at an index of a body
pub line_end_at : (body : List ℕ) (at : ℕ) → at < length body → IsTrue (is_line_break (slice_index body at)) → (line_end_len (drop at body) ≡ 1) ⊎ ((line_end_len (drop at body) ≡ 2) × (slice_index body (at + 1) ≡ 10))
line_end_at body at inside h = by_cases (slice_index (drop at body) 0 == 13) (slice_index (drop at body) 1 == 10) refl
  where
    by_cases : (b d : Bool) → (slice_index (drop at body) 1 == 10) ≡ d → (◌≡◌ {A = ℕ} (cond (b && d) 2 1) 1) ⊎ ((◌≡◌ {A = ℕ} (cond (b && d) 2 1) 2) × (slice_index body (at + 1) ≡ 10))
    by_cases false d e = inl refl
    by_cases true false e = inl refl
    by_cases true true e = inr (refl, sym (get_or-drop at body 1 0) ∙ eqb-true _ _ e)

pub no_line_break : (c : ℕ) → c ≢ 13 → c ≢ 10 → IsFalse (is_line_break c)
no_line_break c h k = rw (ne_eqb _ _ k, ne_eqb _ _ h) refl

line_break_no_backslash : (c : ℕ) → IsTrue (is_line_break c) → c ≢ 92
line_break_no_backslash c h e = absurd (let k : false ≡ true = rw e at h in cc)

good_on : (body : List ℕ) (at n : ℕ) → AreGoodBefore body at → ((i : ℕ) → at ≤ i → i < n → IsBadEscape body i → ⊥) → AreGoodBefore body n
good_on body at n before here i h b = ⊎_elim (λ (k : i < at). before i k b) (λ (k : at ≤ i). here i k h b) (cases_lt i at)

first_at : (body : List ℕ) (at : ℕ) → slice_index (drop at body) 0 ≡ slice_index body at
first_at body at = rw (get_or-drop, add-zero) refl

no_break_behind : (body : List ℕ) (at len i : ℕ) → slice_index body at ≢ 92 → (len ≡ 1) ⊎ ((len ≡ 2) × (slice_index body (at + 1) ≡ 10)) → at ≤ i → i < at + len → slice_index body i ≢ 92
no_break_behind body at len i here (inl one) h k = let i_is : at ≡ i = omega arith in subst (λ i. slice_index body i ≢ 92) i_is here
no_break_behind body at len i here (inr two) h k = ⊎_elim
    (λ (l : i < at + 1). let i_is : at ≡ i = omega arith in subst (λ i. slice_index body i ≢ 92) i_is here)
    (λ (l : at + 1 ≤ i). let i_is : at + 1 ≡ i = omega arith in subst (λ i. slice_index body i ≢ 92) i_is (λ e. absurd (omega (arith, two.1))))
    (cases_lt i (at + 1))

len_within : (body : List ℕ) (at len : ℕ) → at < length body → (len ≡ 1) ⊎ ((len ≡ 2) × (slice_index body (at + 1) ≡ 10)) → (at + len ≤ length body) × (0 < len)
len_within body at len inside (inl one) = (omega arith, omega arith)
len_within body at len inside (inr two) = let l = inside_by body (at + 1) 10 two.1 (omega arith) in (omega arith, omega arith)

pub read_line_end : (body : List ℕ) (at len : ℕ) (done : List ℕ) → IsReadTo body at done → at < length body → IsTrue (is_line_break (slice_index body at)) → len ≡ line_end_len (drop at body) → IsReadTo body (at + len) (done ++ 10 ∷ [])
read_line_end body at len done r inside h e =
    let two = rw (← e) at (line_end_at body at inside h) in
    let none : (i : ℕ) → at ≤ i → i < at + len → slice_index body i ≢ 92 = λ i k l. no_break_behind body at len i (line_break_no_backslash (slice_index body at) h) two k l in
    let w = len_within body at len inside two in
    let last : is_escaped body ((at + len - 1) + 1) ≡ false = not_escaped body (at + len - 1) (none (at + len - 1) (omega arith) (omega arith)) in
    let last_is : (at + len - 1) + 1 ≡ at + len = omega arith in
    record {
      inside = w.0;
      begins = rw last_is at last;
      good = good_on body at (at + len) r.good (λ i k l. no_backslash_is_good body i (none i k l));
      spells = λ content g.
          let start : IsTrue (is_line_break (slice_index (drop at body) 0)) = rw (first_at body at) h in
          let rest : IsContent (drop (line_end_len (drop at body)) (drop at body)) content = rw (← e, drop-drop len at body) g in
          rw append_assoc (r.spells (10 ∷ content) (line_end start rest));
    }

pub line_end_within : (body : List ℕ) (at len : ℕ) → at < length body → IsTrue (is_line_break (slice_index body at)) → len ≡ line_end_len (drop at body) → (at + len ≤ length body) × (0 < len)
line_end_within body at len inside h e = len_within body at len inside (rw (← e) at (line_end_at body at inside h))

not_escaped_twice : (body : List ℕ) (i : ℕ) → is_escaped body i ≡ true → is_escaped body (i + 1) ≡ false
unfolding is_escaped
not_escaped_twice body i e = rw (add-one, e) (and_right _ _ refl)

begins_behind : (body : List ℕ) (at taken : ℕ) → is_escaped body at ≡ false → slice_index body at ≡ 92 → 2 ≤ taken → ((k : ℕ) → 2 ≤ k → k < taken → slice_index body (at + k) ≢ 92) → is_escaped body (at + taken) ≡ false
begins_behind body at taken e b long later = ⊎_elim
    (λ (h : taken < 3).
    let one : is_escaped body (at + 1) ≡ true = escaped_behind body at b ∙ ap not e in
    let two : is_escaped body ((at + 1) + 1) ≡ false = not_escaped_twice body (at + 1) one in
    let at_is : (at + 1) + 1 ≡ at + taken = omega arith in
    rw at_is at two)
    (λ (h : 3 ≤ taken).
    let last : is_escaped body ((at + (taken - 1)) + 1) ≡ false = not_escaped body (at + (taken - 1)) (later (taken - 1) (omega arith) (omega arith)) in
    let at_is : (at + (taken - 1)) + 1 ≡ at + taken = omega arith in
    rw at_is at last)
    (cases_lt taken 3)

span_at : (body : List ℕ) (at : ℕ) (e : Escape) → at + 1 < length body → escape_of (drop at body) ≡ Some e → IsSpan (drop at body) e.taken
span_at body at e inside h = escape_span (drop at body) e (omega (arith, length-drop at body)) h

pub escape_within : (body : List ℕ) (at : ℕ) (e : Escape) → at + 1 < length body → escape_of (drop at body) ≡ Some e → (at + e.taken ≤ length body) × (0 < e.taken)
escape_within body at e inside h =
    let s = span_at body at e inside h in
    (omega (arith, length-drop at body), omega arith)

pub read_escape : (body : List ℕ) (at : ℕ) (done : List ℕ) (e : Escape) → IsReadTo body at done → at + 1 < length body → slice_index body at ≡ 92 → escape_of (drop at body) ≡ Some e → IsReadTo body (at + e.taken) (done ++ e.given)
read_escape body at done e r inside b h =
    let s = span_at body at e inside h in
    let later : (k : ℕ) → 2 ≤ k → k < e.taken → slice_index body (at + k) ≢ 92 = λ k l m. (rw get_or-drop at (s.later k l m)) in
    record {
      inside = (escape_within body at e inside h).0;
      begins = begins_behind body at e.taken r.begins b s.long later;
      good = good_on body at (at + e.taken) r.good (λ i k l bad. ⊎_elim
          (λ (m : i < at + 1). let i_is : i ≡ at = omega arith in let n : escape_of (drop at body) ≡ None = rw i_is at bad.wrong in let x : ◌≡◌ {A = Option Escape} None (Some e) = sym n ∙ h in absurd cc)
          (λ (m : at + 1 ≤ i). ⊎_elim
          (λ (n : i < at + 2).
          let i_is : i ≡ at + 1 = omega arith in
          let f : is_escaped body (at + 1) ≡ false = rw i_is at bad.begins in
          let t : is_escaped body (at + 1) ≡ true = escaped_behind body at b ∙ ap not r.begins in
          absurd (false≢true (sym f ∙ t)))
          (λ (n : at + 2 ≤ i).
          let i_is : i ≡ at + (i - at) = omega arith in
          let x : slice_index body (at + (i - at)) ≡ 92 = rw i_is at bad.backslash in
          later (i - at) (omega arith) (omega arith) x)
          (cases_lt i (at + 2)))
          (cases_lt i (at + 1)));
      spells = λ content g.
          let start : slice_index (drop at body) 0 ≡ 92 = first_at body at ∙ b in
          let rest : IsContent (drop e.taken (drop at body)) content = rw (drop-drop e.taken at body) g in
          rw append_assoc (r.spells (e.given ++ content) (escape e start h rest refl));
    }

-- at the end of a body

pub all_good : (body : List ℕ) (at : ℕ) → AreGoodBefore body at → length body ≤ at → (i : ℕ) → IsBadEscape body i → ⊥
all_good body at r past i b = r i (let l = b.inside in omega arith) b

pub read_all : (body : List ℕ) (at : ℕ) (done : List ℕ) → IsReadTo body at done → length body ≤ at → IsContent body done
read_all body at done r past = let h : IsContent body (done ++ []) = r.spells [] (rw (drop_all at body past) ends) in rw append-nil at h

lone_backslash : (c : ℕ) → escape_of (c ∷ []) ≡ None → ⊥
unfolding escape_of simple_escapes
lone_backslash c h = let s : ◌≡◌ {A = Option Escape} (Some (record { taken = 2; given = 92 ∷ 0 ∷ [] })) None = h in cc

-- a backslash at the very end is no wrong escape, but makes what follows it escaped
pub lone_is_good : (body : List ℕ) (at : ℕ) → AreGoodBefore body at → at < length body → length body ≤ at + 1 → slice_index body at ≡ 92 → (i : ℕ) → IsBadEscape body i → ⊥
lone_is_good body at r inside past b i bad = good_on body at (at + 1) r (λ i k l wrong.
    let i_is : i ≡ at = omega arith in
    let n : escape_of (drop at body) ≡ None = rw i_is at wrong.wrong in
    let left : drop at body ≡ slice_index body at ∷ [] = drop_more body at 0 inside ∙ ap (λ x. slice_index body at ∷ x) (drop_all (at + 1) body past) in
    lone_backslash (slice_index body at) (rw left at n)) i (let l = bad.inside in omega arith) bad

pub lone_escapes : (body : List ℕ) (at : ℕ) → is_escaped body at ≡ false → at < length body → length body ≤ at + 1 → slice_index body at ≡ 92 → is_escaped body (length body) ≡ true
lone_escapes body at e inside past b =
    let t : is_escaped body (at + 1) ≡ true = escaped_behind body at b ∙ ap not e in
    let at_is : at + 1 ≡ length body = omega arith in
    rw at_is at t

-- a body without unreadable characters is over where none can be read
pub over_where_unread : (body : List ℕ) (at : ℕ) → (Contains body unreadable → ⊥) → IsTrue (nat_le (length body) at) ⊎ (slice_index body at ≡ unreadable) → length body ≤ at
over_where_unread body at none (inl h) = leb-true _ _ h
over_where_unread body at none (inr e) =
    let l = inside_by body at unreadable e (omega arith) in
    absurd (none (subst (Contains body) e (Contains-get_or body at 0 l)))

-- A raw string

wlf_at : (body : List ℕ) (at c : ℕ) → at < length body → slice_index body at ≡ c → with_line_feeds (drop at body) ≡ with_line_feeds (c ∷ drop (at + 1) body)
wlf_at body at c inside e = ap with_line_feeds (drop_more body at 0 inside ∙ ap (λ x. x ∷ drop (at + 1) body) e)

-- a CR that no LF follows
pub raw_line_end : (body content : List ℕ) (at : ℕ) → content ++ with_line_feeds (drop at body) ≡ with_line_feeds body → at < length body → slice_index body at ≡ 13 → slice_index body (at + 1) ≢ 10
    → (content ++ 10 ∷ []) ++ with_line_feeds (drop (at + 1) body) ≡ with_line_feeds body
raw_line_end body content at h inside e n =
    let f : slice_index (drop (at + 1) body) 0 ≡ slice_index body (at + 1) = first_at body (at + 1) in
    let m : slice_index (drop (at + 1) body) 0 ≢ 10 = λ k. n (sym f ∙ k) in
    let s : with_line_feeds (13 ∷ drop (at + 1) body) ≡ 10 ∷ with_line_feeds (drop (at + 1) body) = rw (ne_eqb _ _ m) refl in
    rw append_assoc (ap (λ x. content ++ x) (sym (wlf_at body at 13 inside e ∙ s)) ∙ h)
