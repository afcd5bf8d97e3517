-- What comes first of what may hold at the places of a text, and the first rule that a piece breaks.
use Rattle.std.proofs.Common.{◌≡◌, ◌≢◌, ℕ, zero, suc, ◌+◌, ◌<◌, ◌≤◌, ◌⊎◌, inl, inr, Bool, true, false, List, [], ◌∷◌, drop, take, length, replicate, Option, Some, None, refl, sym, subst, ◌∙◌, arith}
use Rattle.std.specs.Prelude.{IsTrue, IsFalse, slice_index, if◌then◌else◌, nat_eq}
use Rattle.std.specs.List.{starts_with}
use Rattle.std.proofs.lemmas.Bool.{false≢true, cases_lt, cases_eq, cases_Bool}
use Rattle.px_lexer.specs.declared.forms.Form.{Form}
use Rattle.px_lexer.specs.declared.forms.Form.TheVariants as form
use Rattle.px_lexer.specs.declared.token_list.TokenKind.{TokenKind}
use Rattle.px_lexer.specs.Characters.{unreadable}
use Rattle.px_lexer.specs.Words.{word_len, continues_word}
use Rattle.px_lexer.specs.Strings.{IsBodyLen, is_closed, is_raw, prefix_of, quotes_of, body_start, body_of, Escape, escape_of, is_escaped, IsBadEscape}
use Rattle.px_lexer.specs.Pieces.{HasLength, is_content}
use Rattle.px_lexer.specs.Tokens.{IsKind}
use Rattle.px_lexer.specs.Refusals.{IsBadCharacter, IsBadNumber, IsFloatLiteral, IsTooWide, HasBadEscape, BreaksIn, bad_character, bad_word, bad_number, float_literal, literal_too_wide, bad_escape, string_not_ended}
use Rattle.px_lexer.specs.Readers.{IsNotAfter}
use Rattle.px_lexer.proofs.FormLemmas.{body_len_unique}
use Rattle.px_lexer.proofs.WordLemmas.{word_clean, word_settled, word_breaks, word_breaks_first}
use Rattle.px_lexer.proofs.NumberLemmas.{number_clean, number_settled, decimal_not_float, whole_not_padded, whole_not_float}
use Rattle.px_lexer.proofs.StringLemmas.{string_settled}
use Rattle.px_lexer.proofs.SignLemmas.{sign_settled}
use Rattle.px_lexer.proofs.Lexed.{gap_breaks_nothing}

-- Places in order

pub not_after_trans : (rule i other j third k : ℕ) → IsNotAfter rule i other j → IsNotAfter other j third k → IsNotAfter rule i third k
not_after_trans rule i other j third k (inl a) (inl b) = inl (omega (arith, a, b))
not_after_trans rule i other j third k (inl a) (inr b) = inl (omega (arith, a, b.0))
not_after_trans rule i other j third k (inr a) (inl b) = inl (omega (arith, a.0, b))
not_after_trans rule i other j third k (inr a) (inr b) = inr (a.0 ∙ b.0, omega (arith, a.1, b.1))

pub one_not_after : (rule i other j : ℕ) → IsNotAfter rule i other j ⊎ IsNotAfter other j rule i
one_not_after rule i other j = elim (cases_lt i j) [
  | inl less ↦ inl (inl less)
  | inr more ↦ elim (cases_lt j i) [
    | inl less ↦ inr (inl less)
    | inr same ↦ elim (cases_lt rule other) [
      | inl lower ↦ inl (inr (omega (arith, more, same), omega (arith, lower)))
      | inr higher ↦ inr (inr (omega (arith, more, same), higher))
    ]
  ]
]

pub not_after_place : (rule i other j : ℕ) → IsNotAfter rule i other j → i ≤ j
not_after_place rule i other j (inl a) = omega (arith, a)
not_after_place rule i other j (inr a) = omega (arith, a.0)

-- a fact holds nowhere, or first here
pub data Finding (P : ℕ → ℕ → Type 0) : Type 0 where
  nowhere : ((rule i : ℕ) → P rule i → ⊥) → Finding P
  first_at : (rule i : ℕ) → P rule i → ((other j : ℕ) → P other j → IsNotAfter rule i other j) → Finding P

-- of two facts
pub either : (P Q : ℕ → ℕ → Type 0) → Finding P → Finding Q → Finding (λ rule i. P rule i ⊎ Q rule i)
either P Q (nowhere a) (nowhere b) = nowhere neither
  where
    neither : (rule i : ℕ) → P rule i ⊎ Q rule i → ⊥
    neither rule i (inl p) = a rule i p
    neither rule i (inr q) = b rule i q
either P Q (nowhere a) (first_at rule i q f) = first_at rule i (inr q) first
  where
    first : (other j : ℕ) → P other j ⊎ Q other j → IsNotAfter rule i other j
    first other j (inl p) = absurd (a other j p)
    first other j (inr r) = f other j r
either P Q (first_at rule i p f) (nowhere b) = first_at rule i (inl p) first
  where
    first : (other j : ℕ) → P other j ⊎ Q other j → IsNotAfter rule i other j
    first other j (inl r) = f other j r
    first other j (inr q) = absurd (b other j q)
either P Q (first_at rule i p f) (first_at second k q g) = elim (one_not_after rule i second k) [
  | inl before ↦ first_at rule i (inl p) (left before)
  | inr before ↦ first_at second k (inr q) (right before)
]
  where
    left : IsNotAfter rule i second k → (other j : ℕ) → P other j ⊎ Q other j → IsNotAfter rule i other j
    left before other j (inl r) = f other j r
    left before other j (inr r) = not_after_trans rule i second k other j before (g other j r)

    right : IsNotAfter second k rule i → (other j : ℕ) → P other j ⊎ Q other j → IsNotAfter second k other j
    right before other j (inl r) = not_after_trans second k rule i other j before (f other j r)
    right before other j (inr r) = g other j r

-- Wrong escapes

no_escape : (body : List ℕ) (k : ℕ) (o : Option Escape) → escape_of (drop k body) ≡ o → (escape_of (drop k body) ≡ None) ⊎ (escape_of (drop k body) ≡ None → ⊥)
no_escape body k None e = inl e
no_escape body k (Some x) e = inr (λ f. let t : Some x ≡ None = sym e ∙ f in cc)

bad_escape_or_not : (body : List ℕ) (k : ℕ) → IsBadEscape body k ⊎ (IsBadEscape body k → ⊥)
bad_escape_or_not body k = elim (cases_lt k (length body)) [
  | inr past ↦ inr (λ b. omega (arith, past, b.inside))
  | inl inside ↦ elim (cases_eq (slice_index body k) 92) [
    | inr other ↦ inr (λ b. other b.backslash)
    | inl backslash ↦ elim (cases_Bool (is_escaped body k)) [
      | inl escaped ↦ inr (λ b. false≢true (sym b.begins ∙ escaped))
      | inr begins ↦ elim (no_escape body k (escape_of (drop k body)) refl) [
        | inl wrong ↦ inl (record { inside = inside; backslash = backslash; begins = begins; wrong = wrong })
        | inr right ↦ inr (λ b. right b.wrong)
      ]
    ]
  ]
]

-- there is no wrong escape before an index, or a first one
pub data EscapesBefore (body : List ℕ) (k : ℕ) : Type 0 where
  all_right : ((i : ℕ) → i < k → IsBadEscape body i → ⊥) → EscapesBefore body k
  first_wrong : (i : ℕ) → IsBadEscape body i → ((j : ℕ) → IsBadEscape body j → i ≤ j) → EscapesBefore body k

pub escapes_before : (body : List ℕ) (k : ℕ) → EscapesBefore body k
escapes_before body zero = all_right (λ i less b. omega (arith, less))
escapes_before body (suc k) = more (escapes_before body k) (bad_escape_or_not body k)
  where
    none_yet : ((i : ℕ) → i < k → IsBadEscape body i → ⊥) → (j : ℕ) → IsBadEscape body j → k ≤ j
    none_yet right j b = elim (cases_lt j k) [
      | inl less ↦ absurd (right j less b)
      | inr le ↦ le
    ]

    none_here : ((i : ℕ) → i < k → IsBadEscape body i → ⊥) → (IsBadEscape body k → ⊥) → (i : ℕ) → i < suc k → IsBadEscape body i → ⊥
    none_here right here i less b = elim (cases_lt i k) [
      | inl before ↦ right i before b
      | inr le ↦ here (subst (λ m. IsBadEscape body m) (let t : i ≡ k = omega (arith, less, le) in t) b)
    ]

    more : EscapesBefore body k → IsBadEscape body k ⊎ (IsBadEscape body k → ⊥) → EscapesBefore body (suc k)
    more (first_wrong i b f) here = first_wrong i b f
    more (all_right right) (inl b) = first_wrong k b (none_yet right)
    more (all_right right) (inr n) = all_right (none_here right n)

-- Strings

by_three : (b : Bool) (quote : ℕ) → 0 < length (if b then replicate 3 quote else quote ∷ [])
by_three true quote = omega arith
by_three false quote = omega arith

quotes_some : (cs : List ℕ) → 0 < length (quotes_of cs)
quotes_some cs = by_three (starts_with nat_eq (drop (word_len cs) cs) (replicate 3 (slice_index cs (word_len cs)))) (slice_index cs (word_len cs))

starts_behind : (cs : List ℕ) → 0 < body_start cs
starts_behind cs = omega (arith, quotes_some cs)

-- what a string breaks
pub data StringBreaks (cs : List ℕ) (body rule i : ℕ) : Type 0 where
  escape_wrong : (index : ℕ) → rule ≡ 2 → IsFalse (is_raw (prefix_of cs)) → i ≡ body_start cs + index → IsBadEscape (body_of cs body) index → StringBreaks cs body rule i
  not_ended : rule ≡ 4 → i ≡ 0 → IsFalse (is_closed cs body) → slice_index cs (body_start cs + body) ≢ unreadable → StringBreaks cs body rule i

pub string_breaks : (cs : List ℕ) (n body rule i : ℕ) → IsBodyLen cs body → BreaksIn form.Text cs n rule i → StringBreaks cs body rule i
string_breaks cs n body rule i is (bad_character f r p b) = absurd (cc)
string_breaks cs n body rule i is (bad_word f r p b) = absurd (cc)
string_breaks cs n body rule i is (bad_number f r p b) = absurd (cc)
string_breaks cs n body rule i is (float_literal f r p b) = absurd (cc)
string_breaks cs n body rule i is (literal_too_wide f r p b) = absurd (cc)
string_breaks cs n body rule i is (bad_escape f r b) =
    escape_wrong b.index r b.not_raw b.placed (subst (λ m. IsBadEscape (body_of cs m) b.index) (body_len_unique cs b.body body b.whole is) b.wrong)
string_breaks cs n body rule i is (string_not_ended f r p b) =
    let same = body_len_unique cs b.body body b.whole is in
    not_ended r p (subst (λ m. IsFalse (is_closed cs m)) same b.open_end) (subst (λ m. slice_index cs (body_start cs + m) ≢ unreadable) same b.readable)

-- the first wrong escape, where the string is closed or what can't be read ends it
escapes_finding : (cs : List ℕ) (n body : ℕ) → IsBodyLen cs body → ((i : ℕ) → StringBreaks cs body 4 i → ⊥) → Finding (BreaksIn form.Text cs n)
escapes_finding cs n body is ended = elim (cases_Bool (is_raw (prefix_of cs))) [
  | inl raw ↦ nowhere (λ rule i b. in_raw raw rule i (string_breaks cs n body rule i is b))
  | inr not_raw ↦ by_search not_raw (escapes_before (body_of cs body) (length (body_of cs body)))
]
  where
    in_raw : is_raw (prefix_of cs) ≡ true → (rule i : ℕ) → StringBreaks cs body rule i → ⊥
    in_raw raw rule i (escape_wrong index r not_raw p b) = false≢true (sym not_raw ∙ raw)
    in_raw raw rule i (not_ended r p o u) = ended i (not_ended refl p o u)

    none_wrong : ((i : ℕ) → i < length (body_of cs body) → IsBadEscape (body_of cs body) i → ⊥) → (rule i : ℕ) → StringBreaks cs body rule i → ⊥
    none_wrong right rule i (escape_wrong index r not_raw p b) = right index b.inside b
    none_wrong right rule i (not_ended r p o u) = ended i (not_ended refl p o u)

    before : (k : ℕ) → ((j : ℕ) → IsBadEscape (body_of cs body) j → k ≤ j) → (rule i : ℕ) → StringBreaks cs body rule i → IsNotAfter 2 (body_start cs + k) rule i
    before k f rule i (escape_wrong index r not_raw p b) = elim (cases_lt k index) [
      | inl less ↦ inl (omega (arith, less, p))
      | inr le ↦ inr (omega (arith, le, p, f index b), omega (arith, r))
    ]
    before k f rule i (not_ended r p o u) = absurd (ended i (not_ended refl p o u))

    by_search : is_raw (prefix_of cs) ≡ false → EscapesBefore (body_of cs body) (length (body_of cs body)) → Finding (BreaksIn form.Text cs n)
    by_search not_raw (all_right right) = nowhere (λ rule i b. none_wrong right rule i (string_breaks cs n body rule i is b))
    by_search not_raw (first_wrong k b f) =
        first_at 2 (body_start cs + k) (bad_escape refl refl (record { body = body; whole = is; not_raw = not_raw; index = k; placed = refl; wrong = b }))
        (λ other j c. before k f other j (string_breaks cs n body other j is c))

string_finding : (cs : List ℕ) (n body : ℕ) → IsBodyLen cs body → Finding (BreaksIn form.Text cs n)
string_finding cs n body is = elim (cases_Bool (is_closed cs body)) [
  | inl closed ↦ escapes_finding cs n body is (λ i b. closed_ends closed i b)
  | inr open_end ↦ elim (cases_eq (slice_index cs (body_start cs + body)) unreadable) [
    | inl cut ↦ escapes_finding cs n body is (λ i b. cut_ends cut i b)
    | inr readable ↦ first_at 4 0 (string_not_ended refl refl refl (record { body = body; whole = is; open_end = open_end; readable = readable }))
        (λ other j b. before other j (string_breaks cs n body other j is b))
  ]
]
  where
    closed_ends : is_closed cs body ≡ true → (i : ℕ) → StringBreaks cs body 4 i → ⊥
    closed_ends closed i (escape_wrong index r not_raw p b) = absurd (let t : ⊥ = cc in t)
    closed_ends closed i (not_ended r p o u) = false≢true (sym o ∙ closed)

    cut_ends : slice_index cs (body_start cs + body) ≡ unreadable → (i : ℕ) → StringBreaks cs body 4 i → ⊥
    cut_ends cut i (escape_wrong index r not_raw p b) = absurd (let t : ⊥ = cc in t)
    cut_ends cut i (not_ended r p o u) = u cut

    before : (rule i : ℕ) → StringBreaks cs body rule i → IsNotAfter 4 0 rule i
    before rule i (escape_wrong index r not_raw p b) = inl (omega (arith, p, starts_behind cs))
    before rule i (not_ended r p o u) = inr (sym p, omega (arith, r))

-- Numbers

-- a number breaks rules at its first character
pub data NumberBreaks (cs : List ℕ) (n rule i : ℕ) : Type 0 where
  bad : rule ≡ 2 → i ≡ 0 → IsBadNumber cs n → NumberBreaks cs n rule i
  a_float : rule ≡ 8 → i ≡ 0 → IsFloatLiteral cs n → NumberBreaks cs n rule i
  too_wide : rule ≡ 9 → i ≡ 0 → IsTooWide cs n → NumberBreaks cs n rule i

pub number_breaks : (cs : List ℕ) (n rule i : ℕ) → BreaksIn form.Number cs n rule i → NumberBreaks cs n rule i
number_breaks cs n rule i (bad_character f r p b) = absurd (cc)
number_breaks cs n rule i (bad_word f r p b) = absurd (cc)
number_breaks cs n rule i (bad_number f r p b) = bad r p b
number_breaks cs n rule i (float_literal f r p b) = a_float r p b
number_breaks cs n rule i (literal_too_wide f r p b) = too_wide r p b
number_breaks cs n rule i (bad_escape f r b) = absurd (cc)
number_breaks cs n rule i (string_not_ended f r p b) = absurd (cc)

bad_first : (cs : List ℕ) (n rule i : ℕ) → NumberBreaks cs n rule i → IsNotAfter 2 0 rule i
bad_first cs n rule i (bad r p b) = inr (sym p, omega (arith, r))
bad_first cs n rule i (a_float r p b) = inr (sym p, omega (arith, r))
bad_first cs n rule i (too_wide r p b) = inr (sym p, omega (arith, r))

-- where no identifier character follows, the rule of the literal's kind is the first
kind_first : (cs : List ℕ) (n rule i other j : ℕ) → continues_word (slice_index cs n) ≡ false → NumberBreaks cs n rule i → NumberBreaks cs n other j → IsNotAfter rule i other j
kind_first cs n rule i other j ends (bad r p b) c = subst (λ m. IsNotAfter m i other j) (sym r) (subst (λ m. IsNotAfter 2 m other j) (sym p) (bad_first cs n other j c))
kind_first cs n rule i other j ends (a_float r p b) (bad s q (inl zero_first)) = absurd (decimal_not_float (take n cs) zero_first.digits b)
kind_first cs n rule i other j ends (a_float r p b) (bad s q (inr follows)) = absurd (false≢true (sym ends ∙ follows))
kind_first cs n rule i other j ends (a_float r p b) (a_float s q c) = inr (p ∙ sym q, omega (arith, r, s))
kind_first cs n rule i other j ends (a_float r p b) (too_wide s q c) = inr (p ∙ sym q, omega (arith, r, s))
kind_first cs n rule i other j ends (too_wide r p b) (bad s q (inl zero_first)) = absurd (whole_not_padded (take n cs) b.value b.whole zero_first)
kind_first cs n rule i other j ends (too_wide r p b) (bad s q (inr follows)) = absurd (false≢true (sym ends ∙ follows))
kind_first cs n rule i other j ends (too_wide r p b) (a_float s q c) = absurd (whole_not_float (take n cs) b.value b.whole c)
kind_first cs n rule i other j ends (too_wide r p b) (too_wide s q c) = inr (p ∙ sym q, omega (arith, r, s))

number_finding : (cs : List ℕ) (n : ℕ) → HasLength form.Number cs n → 0 < n → Finding (BreaksIn form.Number cs n)
number_finding cs n whole some = elim (cases_Bool (continues_word (slice_index cs n))) [
  | inl follows ↦ first_at 2 0 (bad_number refl refl refl (inr follows)) (λ other j b. bad_first cs n other j (number_breaks cs n other j b))
  | inr ends ↦ elim (number_settled cs n whole some) [
    | inl has ↦ nowhere (λ rule i b. number_clean cs n has.0 rule i has.1 b)
    | inr broken ↦ first_at broken.0 broken.1 broken.2
        (λ other j b. kind_first cs n broken.0 broken.1 other j ends (number_breaks cs n broken.0 broken.1 broken.2) (number_breaks cs n other j b))
  ]
]

-- Words, signs, and characters that begin no token

word_finding : (cs : List ℕ) (n : ℕ) → Finding (BreaksIn form.Word cs n)
word_finding cs n = elim (word_settled cs n) [
  | inl has ↦ nowhere (λ rule i b. word_clean cs n has.0 rule i has.1 b)
  | inr broken ↦ (
      let is = word_breaks cs n broken.0 broken.1 broken.2 in
      first_at 2 0 (bad_word refl refl refl is.2) (λ other j b. word_breaks_first cs n other j b)
      )
]

sign_breaks_nothing : (cs : List ℕ) (n rule i : ℕ) → BreaksIn form.Sign cs n rule i → ⊥
sign_breaks_nothing cs n rule i (bad_character f r p b) = cc
sign_breaks_nothing cs n rule i (bad_word f r p b) = cc
sign_breaks_nothing cs n rule i (bad_number f r p b) = cc
sign_breaks_nothing cs n rule i (float_literal f r p b) = cc
sign_breaks_nothing cs n rule i (literal_too_wide f r p b) = cc
sign_breaks_nothing cs n rule i (bad_escape f r b) = cc
sign_breaks_nothing cs n rule i (string_not_ended f r p b) = cc

stray_breaks : (cs : List ℕ) (n rule i : ℕ) → BreaksIn form.Stray cs n rule i → (rule ≡ 2) × (i ≡ 0) × IsBadCharacter cs
stray_breaks cs n rule i (bad_character f r p b) = (r, p, b)
stray_breaks cs n rule i (bad_word f r p b) = absurd (cc)
stray_breaks cs n rule i (bad_number f r p b) = absurd (cc)
stray_breaks cs n rule i (float_literal f r p b) = absurd (cc)
stray_breaks cs n rule i (literal_too_wide f r p b) = absurd (cc)
stray_breaks cs n rule i (bad_escape f r b) = absurd (cc)
stray_breaks cs n rule i (string_not_ended f r p b) = absurd (cc)

stray_finding : (cs : List ℕ) (n : ℕ) → Finding (BreaksIn form.Stray cs n)
stray_finding cs n = elim (cases_eq (slice_index cs 0) unreadable) [
  | inl cut ↦ nowhere (λ rule i b. (stray_breaks cs n rule i b).2 cut)
  | inr readable ↦ first_at 2 0 (bad_character refl refl refl readable) (λ other j b. let is = stray_breaks cs n other j b in inr (sym is.1, omega (arith, is.0)))
]

-- the first rule that a piece breaks
pub piece_finding : (found : Form) (cs : List ℕ) (n : ℕ) → HasLength found cs n → 0 < n → Finding (BreaksIn found cs n)
piece_finding form.Blank cs n whole some = nowhere (λ rule i b. gap_breaks_nothing form.Blank cs n rule i refl b)
piece_finding form.LineEnd cs n whole some = nowhere (λ rule i b. gap_breaks_nothing form.LineEnd cs n rule i refl b)
piece_finding form.Join cs n whole some = nowhere (λ rule i b. gap_breaks_nothing form.Join cs n rule i refl b)
piece_finding form.Comment cs n whole some = nowhere (λ rule i b. gap_breaks_nothing form.Comment cs n rule i refl b)
piece_finding form.Word cs n whole some = word_finding cs n
piece_finding form.Number cs n whole some = number_finding cs n whole some
piece_finding form.Text cs n whole some = string_finding cs n whole.0 whole.1
piece_finding form.Sign cs n whole some = nowhere (λ rule i b. sign_breaks_nothing cs n rule i b)
piece_finding form.Stray cs n whole some = stray_finding cs n

-- a piece that is content is a token, or it breaks a rule, or what is at it can't be read
pub settled : (found : Form) (cs : List ℕ) (n : ℕ) → IsTrue (is_content found) → HasLength found cs n → 0 < n
    → ((t : TokenKind) × IsKind found cs n t) ⊎ ((rule i : ℕ) × BreaksIn found cs n rule i) ⊎ ((i : ℕ) × (i ≤ n) × (slice_index cs i ≡ unreadable))
settled form.Blank cs n content whole some = absurd (false≢true content)
settled form.LineEnd cs n content whole some = absurd (false≢true content)
settled form.Join cs n content whole some = absurd (false≢true content)
settled form.Comment cs n content whole some = absurd (false≢true content)
settled form.Word cs n content whole some = elim (word_settled cs n) [
  | inl has ↦ inl has
  | inr broken ↦ inr (inl broken)
]
settled form.Number cs n content whole some = elim (number_settled cs n whole some) [
  | inl has ↦ inl has
  | inr broken ↦ inr (inl broken)
]
settled form.Text cs n content whole some = elim (string_settled cs n whole) [
  | inl has ↦ inl has
  | inr other ↦ elim other [
    | inl broken ↦ inr (inl broken)
    | inr cut ↦ inr (inr (n, omega arith, cut))
  ]
]
settled form.Sign cs n content whole some = inl (sign_settled cs n)
settled form.Stray cs n content whole some = elim (cases_eq (slice_index cs 0) unreadable) [
  | inl cut ↦ inr (inr (0, omega arith, cut))
  | inr readable ↦ inr (inl (2, 0, bad_character refl refl refl readable))
]

-- a piece breaks rules at its own characters
at_first : (n i : ℕ) → 0 < n → i ≡ 0 → i < n
at_first n i some e = omega (arith, some, e)

escape_inside : (cs : List ℕ) (n i : ℕ) → HasLength form.Text cs n → HasBadEscape cs i → i < n
escape_inside cs n i whole b =
    let same = body_len_unique cs b.body whole.0 b.whole whole.1 in
    let short = front_short b.body (drop (body_start cs) cs) in
    by_end (if is_closed cs whole.0 then length (quotes_of cs) else 0) same short whole.2
  where
    front_short : (k : ℕ) (xs : List ℕ) → length (take k xs) ≤ k
    front_short zero xs = omega arith
    front_short (suc k) [] = omega arith
    front_short (suc k) (x ∷ xs) = omega (arith, front_short k xs)

    by_end : (closing : ℕ) → b.body ≡ whole.0 → length (body_of cs b.body) ≤ b.body → n ≡ body_start cs + whole.0 + closing → i < n
    by_end closing same short size = omega (arith, same, short, size, b.placed, b.wrong.inside)

pub breaks_inside : (found : Form) (cs : List ℕ) (n rule i : ℕ) → HasLength found cs n → 0 < n → BreaksIn found cs n rule i → i < n
breaks_inside found cs n rule i whole some (bad_character f r p b) = at_first n i some p
breaks_inside found cs n rule i whole some (bad_word f r p b) = at_first n i some p
breaks_inside found cs n rule i whole some (bad_number f r p b) = at_first n i some p
breaks_inside found cs n rule i whole some (float_literal f r p b) = at_first n i some p
breaks_inside found cs n rule i whole some (literal_too_wide f r p b) = at_first n i some p
breaks_inside found cs n rule i whole some (bad_escape f r b) = escape_inside cs n i (subst (λ g. HasLength g cs n) f whole) b
breaks_inside found cs n rule i whole some (string_not_ended f r p b) = at_first n i some p
