-- A number is one token, or breaks a rule, and not both.
use Rattle.std.proofs.Common.{◌≡◌, ◌≢◌, ℕ, pos, ◌<◌, ◌≤◌, Bool, true, false, cond, ◌&&◌, ◌||◌, ◌⊎◌, List, [], ◌∷◌, ◌++◌, length, take, eqb, slice_index, sym, refl, ap, ◌∙◌, subst, ap₂, inl, inr, arith}
use Rattle.std.proofs.lemmas.Bool.{or_cases, and_parts, eqb-true, false≢true, cases_lt, cases_eq}
use Rattle.std.proofs.lemmas.Bool.Decides.{nat_tests}
use Rattle.std.specs.Char.{is_digit, is_ascii_digit}
use Rattle.px_lexer.specs.declared.forms.Form.{Form}
use Rattle.px_lexer.specs.declared.forms.Form.TheVariants as form
use Rattle.px_lexer.specs.declared.token_list.TokenKind.{TokenKind}
use Rattle.px_lexer.specs.declared.token_list.TokenKind.TheVariants as kind
use Rattle.px_lexer.specs.Words.{continues_word}
use Rattle.px_lexer.specs.Numbers.{IsDigits, last, next, parted, IsDecimal, base_of, digits_value, fraction_alone, point, IsFloat, IsBased, IsNumeral, IsWhole, HasLeadingZero, is_zero, number_limit}
use Rattle.px_lexer.specs.Pieces.{form_of, begins_number, HasLength}
use Rattle.px_lexer.specs.Tokens.{IsKind}
use Rattle.px_lexer.specs.Refusals.{BreaksIn, bad_character, bad_word, bad_number, float_literal, literal_too_wide, bad_escape, string_not_ended}
use Rattle.px_lexer.specs.NumberSteps.{digits_len, tail_len, numeral_len}
use Rattle.px_lexer.proofs.NumberSteps.{IsPlain, Begins, decimal_digit, digits_of_decimal, digits_append, first_digit, base-le, digit_is_no_underscore, plain_longest, float_apart, based_longest, based_decimal, numeral_longest, numeral_is_longest}

-- Where a number begins

skip_form : (b : Bool) (x rest : Form) → x ≢ form.Number → cond b x rest ≡ form.Number → rest ≡ form.Number
skip_form true x rest h e = absurd (h e)
skip_form false x rest h e = e

is_number : (b d : Bool) → cond b form.Number (cond d form.Sign form.Stray) ≡ form.Number → b ≡ true
is_number true d e = refl
is_number false true e = cc
is_number false false e = cc

begins_of_form : (cs : List ℕ) → form_of cs ≡ form.Number → begins_number cs ≡ true
unfolding form_of
begins_of_form cs e =
    is_number _ _ (skip_form _ form.Word _ (λ (q : form.Word ≡ form.Number). cc)
    (skip_form _ form.Text _ (λ (q : form.Text ≡ form.Number). cc)
    (skip_form _ form.Comment _ (λ (q : form.Comment ≡ form.Number). cc)
    (skip_form _ form.Join _ (λ (q : form.Join ≡ form.Number). cc)
    (skip_form _ form.LineEnd _ (λ (q : form.LineEnd ≡ form.Number). cc)
    (skip_form _ form.Blank _ (λ (q : form.Blank ≡ form.Number). cc) e))))))

begins_so : (cs : List ℕ) → begins_number cs ≡ true → Begins cs
begins_so cs t = go (or_cases _ _ t)
  where
    go : (is_ascii_digit (slice_index cs 0) ≡ true) ⊎ ((eqb (slice_index cs 0) 46 && is_ascii_digit (slice_index cs 1)) ≡ true) → Begins cs
    go (inl d) = inl (sym (decimal_digit (slice_index cs 0)) ∙ d)
    go (inr p) = let q = and_parts _ _ p in inr (eqb-true (slice_index cs 0) 46 q.0, sym (decimal_digit (slice_index cs 1)) ∙ q.1)

pub begins_of_number : (cs : List ℕ) → form_of cs ≡ form.Number → Begins cs
begins_of_number cs e = begins_so cs (begins_of_form cs e)

-- The kinds of literals are apart.

whole_len_of : {x : List ℕ} → IsDecimal x → digits_len 10 (x ++ []) ≡ length x
unfolding tail_len
whole_len_of d = let e = digits_append 10 (digits_of_decimal d) [] in omega arith

pub decimal_not_float : (x : List ℕ) → IsDecimal x → IsFloat x → ⊥
decimal_not_float x d f = let a = whole_len_of d in let b = float_apart x f [] in omega arith

pub plain_not_based : (x : List ℕ) (l : ℕ) (digits : List ℕ) → IsPlain x → IsBased x l digits → ⊥
plain_not_based x l digits p b = let a = plain_longest x p [] in let w = based_longest x l digits b [] in let d = based_decimal (x ++ []) w.0 in omega arith

no_underscore_first : (base : ℕ) (digits others : List ℕ) → base ≤ 36 → IsDigits (λ c. is_digit c base) digits → digits ≡ 95 ∷ others → ⊥
no_underscore_first base digits others h d e =
    let t = first_digit base d [] in
    let u = digit_is_no_underscore 95 base h (subst (λ (xs : List ℕ). is_digit (slice_index (xs ++ []) 0) base ≡ true) e t) in
    false≢true (sym u)

based_same : (x : List ℕ) (l m : ℕ) (ds es : List ℕ) → IsBased x l ds → IsBased x m es → (l ≡ m) × (ds ≡ es)
based_same x l m ds es a b = go a.spelled b.spelled
  where
    go : (x ≡ 48 ∷ l ∷ ds) ⊎ (x ≡ 48 ∷ l ∷ 95 ∷ ds) → (x ≡ 48 ∷ m ∷ es) ⊎ (x ≡ 48 ∷ m ∷ 95 ∷ es) → (l ≡ m) × (ds ≡ es)
    go (inl e) (inl f) = (cc, cc)
    go (inr e) (inr f) = (cc, cc)
    go (inl e) (inr f) = absurd (no_underscore_first (base_of l) ds es (base-le l) a.formed cc)
    go (inr e) (inl f) = absurd (no_underscore_first (base_of m) es ds (base-le m) b.formed cc)

zero_is_48 : (c : ℕ) → is_ascii_digit c ≡ true → (eqb c 48 || eqb c 95) ≡ true → c ≡ 48
zero_is_48 c t e = grind (arith, nat_tests)

-- each digit of a zero is 0, so the first is
zero_begins : {x : List ℕ} → IsDecimal x → is_zero x ≡ true → slice_index x 0 ≡ 48
zero_begins (last {c} t) z = zero_is_48 c t (and_parts _ _ z).0
zero_begins (next {c} t d) z = zero_is_48 c t (and_parts _ _ z).0
zero_begins (parted {c} t u d) z = zero_is_48 c t (and_parts _ _ z).0

-- a whole number has one value
pub whole_unique : (x : List ℕ) (v w : ℕ) → IsWhole x v → IsWhole x w → v ≡ w
whole_unique x v w (IsWhole.zero d z e) (IsWhole.zero g y f) = e ∙ sym f
whole_unique x v w (IsWhole.zero d z e) (IsWhole.decimal g n f) = absurd (n (zero_begins d z))
whole_unique x v w (IsWhole.zero d z e) (IsWhole.based l ds b f) = absurd (plain_not_based x l ds (inl d) b)
whole_unique x v w (IsWhole.decimal d n e) (IsWhole.zero g y f) = absurd (n (zero_begins g y))
whole_unique x v w (IsWhole.decimal d n e) (IsWhole.decimal g m f) = e ∙ sym f
whole_unique x v w (IsWhole.decimal d n e) (IsWhole.based l ds b f) = absurd (plain_not_based x l ds (inl d) b)
whole_unique x v w (IsWhole.based l ds b e) (IsWhole.zero g y f) = absurd (plain_not_based x l ds (inl g) b)
whole_unique x v w (IsWhole.based l ds b e) (IsWhole.decimal g m f) = absurd (plain_not_based x l ds (inl g) b)
whole_unique x v w (IsWhole.based l ds b e) (IsWhole.based m es a f) = let s = based_same x l m ds es b a in let q : digits_value (base_of l) ds ≡ digits_value (base_of m) es = ap₂ (λ (k : ℕ) (xs : List ℕ). digits_value (base_of k) xs) s.0 s.1 in e ∙ q ∙ sym f

pub whole_not_padded : (x : List ℕ) (v : ℕ) → IsWhole x v → HasLeadingZero x → ⊥
whole_not_padded x v (IsWhole.zero d z e) h = false≢true (sym h.other ∙ z)
whole_not_padded x v (IsWhole.decimal d n e) h = n h.leading
whole_not_padded x v (IsWhole.based l ds b e) h = plain_not_based x l ds (inl h.digits) b

pub whole_not_float : (x : List ℕ) (v : ℕ) → IsWhole x v → IsFloat x → ⊥
whole_not_float x v (IsWhole.zero d z e) f = decimal_not_float x d f
whole_not_float x v (IsWhole.decimal d n e) f = decimal_not_float x d f
whole_not_float x v (IsWhole.based l ds b e) f = plain_not_based x l ds (inr f) b

pub number_unique : (cs : List ℕ) (n : ℕ) (t u : TokenKind) → IsKind form.Number cs n t → IsKind form.Number cs n u → t ≡ u
number_unique cs n t u a b = a.kind ∙ ap (λ (v : ℕ). kind.Number (pos v)) (whole_unique (take n cs) a.value b.value a.spelled b.spelled) ∙ sym b.kind

pub number_clean : (cs : List ℕ) (n : ℕ) (t : TokenKind) (rule i : ℕ) → IsKind form.Number cs n t → BreaksIn form.Number cs n rule i → ⊥
number_clean cs n t rule i k (bad_character f r e b) = cc
number_clean cs n t rule i k (bad_word f r e b) = cc
number_clean cs n t rule i k (bad_number f r e (inl h)) = whole_not_padded (take n cs) k.value k.spelled h
number_clean cs n t rule i k (bad_number f r e (inr h)) = false≢true (sym k.ends ∙ h)
number_clean cs n t rule i k (float_literal f r e b) = whole_not_float (take n cs) k.value k.spelled b
number_clean cs n t rule i k (literal_too_wide f r e b) =
    let s = whole_unique (take n cs) k.value b.value k.spelled b.whole in
    let l = k.fits in
    let w = b.wide in
    omega arith
number_clean cs n t rule i k (bad_escape f r b) = cc
number_clean cs n t rule i k (string_not_ended f r e b) = cc

pub some_numeral : (cs : List ℕ) → Begins cs → 0 < numeral_len cs
some_numeral [] (inl t) = absurd (false≢true t)
some_numeral [] (inr h) = absurd (omega (arith, h.0))
some_numeral (c ∷ cs) (inl t) = numeral_longest (c ∷ []) (IsNumeral.decimal (last (decimal_digit c ∙ t))) cs
some_numeral (c ∷ []) (inr h) = absurd (false≢true h.1)
some_numeral (c ∷ d ∷ cs) (inr h) =
    let p = IsNumeral.float (inl (point (fraction_alone (record { digits = d ∷ []; formed = last (decimal_digit d ∙ h.1); spelled = refl })))) in
    let l : 2 ≤ numeral_len (46 ∷ d ∷ cs) = numeral_longest (46 ∷ d ∷ []) p cs in
    rw h.0 (omega arith)

pub number_length : (cs : List ℕ) → form_of cs ≡ form.Number → (n : ℕ) × (0 < n) × (n ≤ length cs) × HasLength form.Number cs n
number_length cs e =
    let l = numeral_is_longest cs (begins_of_number cs e) in
    (numeral_len cs, some_numeral cs (begins_of_number cs e), l.within, l)

abbrev IsSettled : List ℕ → ℕ → Type 0
IsSettled cs n = ((t : TokenKind) × IsKind form.Number cs n t) ⊎ ((rule i : ℕ) × BreaksIn form.Number cs n rule i)

whole_settled : (cs : List ℕ) (n v : ℕ) → IsWhole (take n cs) v → continues_word (slice_index cs n) ≡ false → IsSettled cs n
whole_settled cs n v w f = go (cases_lt v number_limit)
  where
    go : (v < number_limit) ⊎ (number_limit ≤ v) → IsSettled cs n
    go (inl l) = inl (kind.Number (pos v), record { value = v; spelled = w; fits = l; ends = f; kind = refl })
    go (inr g) = inr (9, 0, literal_too_wide refl refl refl (record { value = v; whole = w; wide = g }))

decimal_settled : (cs : List ℕ) (n : ℕ) → IsDecimal (take n cs) → continues_word (slice_index cs n) ≡ false → IsSettled cs n
decimal_settled cs n d f = by_zero (is_zero (take n cs)) refl (cases_eq (slice_index (take n cs) 0) 48)
  where
    by_zero : (z : Bool) → is_zero (take n cs) ≡ z → (slice_index (take n cs) 0 ≡ 48) ⊎ (slice_index (take n cs) 0 ≡ 48 → ⊥) → IsSettled cs n
    by_zero true z e = whole_settled cs n 0 (IsWhole.zero d z refl) f
    by_zero false z (inl e) = inr (2, 0, bad_number refl refl refl (inl (record { digits = d; leading = e; other = z })))
    by_zero false z (inr e) = whole_settled cs n (digits_value 10 (take n cs)) (IsWhole.decimal d e refl) f

numeral_settled : (cs : List ℕ) (n : ℕ) → IsNumeral (take n cs) → continues_word (slice_index cs n) ≡ false → IsSettled cs n
numeral_settled cs n (IsNumeral.decimal d) f = decimal_settled cs n d f
numeral_settled cs n (IsNumeral.based l ds b) f = whole_settled cs n (digits_value (base_of l) ds) (IsWhole.based l ds b refl) f
numeral_settled cs n (IsNumeral.float b) f = inr (8, 0, float_literal refl refl refl b)

pub number_settled : (cs : List ℕ) (n : ℕ) → HasLength form.Number cs n → 0 < n → ((t : TokenKind) × IsKind form.Number cs n t) ⊎ ((rule i : ℕ) × BreaksIn form.Number cs n rule i)
number_settled cs n h p = by_end (continues_word (slice_index cs n)) refl
  where
    by_end : (b : Bool) → continues_word (slice_index cs n) ≡ b → IsSettled cs n
    by_end true e = inr (2, 0, bad_number refl refl refl (inr e))
    by_end false e = numeral_settled cs n h.spelled e
