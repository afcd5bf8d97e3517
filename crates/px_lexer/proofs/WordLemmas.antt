-- The kinds of words.
use Rattle.std.proofs.Common.{◌≡◌, ℕ, ◌+◌, ◌-◌, ◌<◌, ◌≤◌, ◌⊎◌, Bool, true, false, ◌&&◌, List, [], ◌∷◌, ◌++◌, length, take, drop, filter, get_or, Option, Some, None, Err, refl, ap, sym, subst, ◌∙◌, inl, inr, ⊎_elim, arith, length-append, length-drop}
use Rattle.std.specs.Prelude.{◌==◌, bytes_eq, slice_index, if◌then◌else◌}
use Rattle.std.specs.Char.{len_utf8}
use Rattle.std.specs.Str.{encode_utf8_all}
use Rattle.std.specs.List.{list_all}
use Rattle.std.specs.Cmp.Lexicographic.{bytes_decides}
use Rattle.std.proofs.lemmas.Bool.{cases_Bool, cases_lt, eqb-true, eqb-false, ne_eqb, and_parts, and_from, or_cases, false≢true, false_from_ne_true}
use Rattle.std.proofs.lemmas.List.{take_more, get_or-drop}
use Rattle.std.proofs.lemmas.List.Sums.{prefix_len-le-length, prefix_len_passes}
use Rattle.std.proofs.lemmas.Str.{encodes-append, length-encode}
use lib.Utf8.{encode}
use Rattle.unicode_ident.proofs.Computing.{unicode_ident}
use Rattle.unicode_ident.proofs.IdentLemmas.{is_xid_start-is_xid_continue}
use Rattle.unicode_normalization.specs.Forms.{nfkc}
use Rattle.px_lexer.specs.declared.forms.Form.TheVariants as form
use Rattle.px_lexer.specs.declared.spelling.Keyword.{Keyword}
use Rattle.px_lexer.specs.declared.token_list.TokenKind.{TokenKind}
use Rattle.px_lexer.specs.declared.token_list.TokenKind.TheVariants as kind
use Rattle.px_lexer.specs.Characters.{unreadable}
use Rattle.px_lexer.specs.Spellings.{meaning_in, is_among}
use Rattle.px_lexer.specs.Words.{starts_word, continues_word, word_len, keywords, foreign_words, IsIdentifier, HasWordKind, IsWordKind}
use Rattle.px_lexer.specs.Strings.{opens_string}
use Rattle.px_lexer.specs.Places.{is_line_break}
use Rattle.px_lexer.specs.Signs.{begins_sign}
use Rattle.px_lexer.specs.Pieces.{is_blank, begins_number, form_of, HasLength}
use Rattle.px_lexer.specs.Tokens.{IsKind}
use Rattle.px_lexer.specs.Refusals.{IsBadWord, BreaksIn}
use Rattle.px_lexer.specs.declared.readings.Unread.TheVariants.{Broken}
use Rattle.px_lexer.specs.Readers.{EndsAt, IsReadAs, IsNotAfter, Reads}
use Rattle.px_lexer.proofs.CharacterLemmas.{word_len-more}

-- spellings of different lengths differ
other_length : (spelling word : List ℕ) → (length spelling == length word) ≡ false → bytes_eq spelling word ≡ false
other_length spelling word apart =
    false_from_ne_true _ (λ same. eqb-false _ _ apart (ap length ((bytes_decides spelling word).0 same)))

-- a word can only be found among spellings of its length
pub meaning_in-filter : {A : Type 0} (rows : List (List ℕ × A)) (word : List ℕ) → meaning_in (filter (λ row. length row.0 == length word) rows) word ≡ meaning_in rows word
meaning_in-filter [] word = refl
meaning_in-filter {A} (row ∷ rows) word = by_cases (length row.0 == length word) refl (meaning_in-filter rows word)
  where
    by_cases : (b : Bool) → (length row.0 == length word) ≡ b → meaning_in (filter (λ row. length row.0 == length word) rows) word ≡ meaning_in rows word
        → meaning_in (filter (λ row. length row.0 == length word) (row ∷ rows)) word ≡ meaning_in (row ∷ rows) word
    by_cases true e rest = rw (e, rest) refl
    by_cases false e rest = rw (e, other_length row.0 word e) rest

pub is_among-filter : (spellings : List (List ℕ)) (word : List ℕ) → is_among (filter (λ spelling. length spelling == length word) spellings) word ≡ is_among spellings word
is_among-filter [] word = refl
is_among-filter (spelling ∷ spellings) word = by_cases (length spelling == length word) refl (is_among-filter spellings word)
  where
    by_cases : (b : Bool) → (length spelling == length word) ≡ b → is_among (filter (λ spelling. length spelling == length word) spellings) word ≡ is_among spellings word
        → is_among (filter (λ spelling. length spelling == length word) (spelling ∷ spellings)) word ≡ is_among (spelling ∷ spellings) word
    by_cases true e rest = rw (e, rest) refl
    by_cases false e rest = rw (e, other_length spelling word e) rest

-- nothing is found of a length that no element has
pub filter-lengths : {A : Type 0} (size : A → ℕ) (xs : List A) (p : ℕ → Bool) (n : ℕ) → list_all (λ x. p (size x)) xs ≡ true
    → ((k : ℕ) → p k ≡ true → k ≡ n → ⊥) → filter (λ x. size x == n) xs ≡ []
filter-lengths size [] p n within apart = refl
filter-lengths size (x ∷ xs) p n within apart =
    let parts = and_parts _ _ within in
    rw (ne_eqb (size x) n (apart (size x) parts.0)) (filter-lengths size xs p n parts.1 apart)

-- a sum of lengths in UTF-8, one character further
pub length-encodes-more : (cs : List ℕ) (i c n : ℕ) → i < length cs → c ≡ get_or cs i c → n ≡ len_utf8 c → length (encode_utf8_all (take i cs)) + n ≡ length (encode_utf8_all (take (i + 1) cs))
length-encodes-more cs i c n inside is size =
    let more : encode_utf8_all (take (i + 1) cs) ≡ encode_utf8_all (take i cs) ++ encode_utf8_all (c ∷ []) =
    ap encode_utf8_all (take_more cs i c inside ∙ ap (λ x. take i cs ++ x ∷ []) (sym is)) ∙ encodes-append (take i cs) (c ∷ []) in
    omega (arith, ap length more, length-append (encode_utf8_all (take i cs)) (encode_utf8_all (c ∷ [])), length-append (encode c) [], length-encode c, size)

-- Where a word stands

form_by_cases : (blank line_end join comment string word number sign : Bool)
    → (if blank then form.Blank
    else (if line_end then form.LineEnd
    else (if join then form.Join
    else (if comment then form.Comment
    else (if string then form.Text
    else (if word then form.Word
    else (if number then form.Number
    else (if sign then form.Sign else form.Stray)))))))) ≡ form.Word
    → word ≡ true
form_by_cases true line_end join comment string word number sign is = absurd (cc)
form_by_cases false true join comment string word number sign is = absurd (cc)
form_by_cases false false true comment string word number sign is = absurd (cc)
form_by_cases false false false true string word number sign is = absurd (cc)
form_by_cases false false false false true word number sign is = absurd (cc)
form_by_cases false false false false false true number sign is = refl
form_by_cases false false false false false false true sign is = absurd (cc)
form_by_cases false false false false false false false true is = absurd (cc)
form_by_cases false false false false false false false false is = absurd (cc)

-- a word begins with a character that may begin one
pub form_of-word : (cs : List ℕ) → form_of cs ≡ form.Word → starts_word (slice_index cs 0) ≡ true
unfolding form_of
form_of-word cs is =
    let c = slice_index cs 0 in
    form_by_cases (is_blank c) (is_line_break c) (c == 92 && is_line_break (slice_index cs 1)) (c == 35) (opens_string cs) (starts_word c) (begins_number cs) (begins_sign cs) is

low_line_continues : continues_word 95 ≡ true
unfolding unicode_ident
low_line_continues = refl

-- what may begin a word may continue one
pub starts_word-continues : (c : ℕ) → starts_word c ≡ true → continues_word c ≡ true
starts_word-continues c starts =
    ⊎_elim
    (λ low_line. ap continues_word (eqb-true c 95 low_line) ∙ low_line_continues)
    (λ other.
    let parts = and_parts _ _ other in
    and_from _ _ parts.0 (is_xid_start-is_xid_continue c parts.1))
    (or_cases _ _ starts)

-- so it has a character
pub word_len-positive : (cs : List ℕ) → form_of cs ≡ form.Word → 0 < word_len cs
word_len-positive cs is =
    let more = word_len-more cs 0 (starts_word-continues _ (form_of-word cs is)) in
    omega (arith, more)

pub EndsAt-word : (cs : List ℕ) (from to : ℕ) → form_of (drop from cs) ≡ form.Word → to ≡ from + word_len (drop from cs) → EndsAt form.Word cs from to
EndsAt-word cs from to is ends =
    let some = word_len-positive (drop from cs) is in
    let within = prefix_len-le-length continues_word (drop from cs) in
    let rest = length-drop from cs in
    record {
      forward = omega arith;
      within = omega arith;
      whole = omega arith;
    }

-- its last character can be read
pub word_readable : (cs : List ℕ) (from to : ℕ) → form_of (drop from cs) ≡ form.Word → to ≡ from + word_len (drop from cs) → slice_index cs (to - 1) ≡ unreadable → ⊥
word_readable cs from to is ends broken =
    let some = word_len-positive (drop from cs) is in
    let last : from + (word_len (drop from cs) - 1) ≡ to - 1 = omega arith in
    let passes = prefix_len_passes continues_word (drop from cs) (word_len (drop from cs) - 1) 0 (omega arith) in
    let here : slice_index (drop from cs) (word_len (drop from cs) - 1) ≡ unreadable = get_or-drop from cs (word_len (drop from cs) - 1) 0 ∙ ap (slice_index cs) last ∙ broken in
    false≢true (sym (ap continues_word here) ∙ passes)

-- What a word breaks

-- a word breaks no rule but the second, at its first character
pub word_breaks : (cs : List ℕ) (n rule i : ℕ) → BreaksIn form.Word cs n rule i → (rule ≡ 2) × (i ≡ 0) × IsBadWord (take n cs)
word_breaks cs n rule i (BreaksIn.bad_character found r p bad) = absurd (cc)
word_breaks cs n rule i (BreaksIn.bad_word found r p bad) = (r, p, bad)
word_breaks cs n rule i (BreaksIn.bad_number found r p bad) = absurd (cc)
word_breaks cs n rule i (BreaksIn.float_literal found r p bad) = absurd (cc)
word_breaks cs n rule i (BreaksIn.literal_too_wide found r p bad) = absurd (cc)
word_breaks cs n rule i (BreaksIn.bad_escape found r bad) = absurd (cc)
word_breaks cs n rule i (BreaksIn.string_not_ended found r p bad) = absurd (cc)

pub word_breaks_first : (cs : List ℕ) (n rule i : ℕ) → BreaksIn form.Word cs n rule i → IsNotAfter 2 0 rule i
word_breaks_first cs n rule i broken =
    let is = word_breaks cs n rule i broken in
    inr (sym is.1, omega (arith, is.0))

-- What the reader of a word answers

pub word_read : (cs word : List ℕ) (from to : ℕ) (t : TokenKind) → EndsAt form.Word cs from to → word ≡ take (to - from) (drop from cs) → IsWordKind word t
    → IsReadAs form.Word cs from (record { kind = t; to = to })
word_read cs word from to t ends is has = record { ends = ends; kind = subst (λ word. IsWordKind word t) is has }

pub word_unread : (cs word : List ℕ) (from to : ℕ) → EndsAt form.Word cs from to → word ≡ take (to - from) (drop from cs) → IsBadWord word
    → Reads form.Word cs from (Err (Broken (record { rule = 2; at = from })))
word_unread cs word from to ends is bad = (
  to,
  ends,
  inl (record {
    index = 0;
    placed = omega arith;
    broken = BreaksIn.bad_word refl refl refl (subst IsBadWord is bad);
    first = word_breaks_first (drop from cs) (to - from);
  }),
)

-- The laws of the kinds of words

kind_unique : (found : Option Keyword) (foreign : Bool) (word : List ℕ) (t u : TokenKind) → HasWordKind found foreign word t → HasWordKind found foreign word u → t ≡ u
kind_unique (Some k) foreign word t u p q = p ∙ sym q
kind_unique None true word t u p q = p ∙ sym q
kind_unique None false word t u p q = p.0 ∙ sym q.0

-- a word has at most one kind
pub word_unique : (cs : List ℕ) (n : ℕ) (t u : TokenKind) → IsKind form.Word cs n t → IsKind form.Word cs n u → t ≡ u
word_unique cs n t u p q = kind_unique (meaning_in keywords (take n cs)) (is_among foreign_words (take n cs)) (take n cs) t u p q

named : (found : Option Keyword) (foreign : Bool) (word : List ℕ) (t : TokenKind) → found ≡ None → foreign ≡ false → HasWordKind found foreign word t → IsIdentifier word
named (Some k) foreign word t none other has = absurd (cc)
named None true word t none other has = absurd (cc)
named None false word t none other has = has.1

-- a word that has a kind breaks no rule
pub word_clean : (cs : List ℕ) (n : ℕ) (t : TokenKind) (rule i : ℕ) → IsKind form.Word cs n t → BreaksIn form.Word cs n rule i → ⊥
word_clean cs n t rule i has broken =
    let bad = (word_breaks cs n rule i broken).2 in
    bad.wrong (named _ _ (take n cs) t bad.no_keyword bad.not_foreign has)

-- a word has a length
pub word_length : (cs : List ℕ) → form_of cs ≡ form.Word → (n : ℕ) × (0 < n) × (n ≤ length cs) × HasLength form.Word cs n
word_length cs is = (word_len cs, word_len-positive cs is, prefix_len-le-length continues_word cs, refl)

identifier_or_not : (word : List ℕ) → IsIdentifier word ⊎ (IsIdentifier word → ⊥)
identifier_or_not word =
    let same = bytes_decides (nfkc word) word in
    ⊎_elim
    (λ long. inr (λ is. let short = is.short in omega arith))
    (λ short. ⊎_elim
    (λ yes. inl (record { normal = same.0 yes; short = short }))
    (λ no. inr (λ is. false≢true (sym no ∙ same.1 is.normal)))
    (cases_Bool (bytes_eq (nfkc word) word)))
    (cases_lt 255 (length (encode_utf8_all word)))

settled : (found : Option Keyword) (foreign : Bool) (word : List ℕ) → meaning_in keywords word ≡ found → is_among foreign_words word ≡ foreign
    → ((t : TokenKind) × HasWordKind found foreign word t) ⊎ IsBadWord word
settled (Some k) foreign word e f = inl (kind.Keyword k, refl)
settled None true word e f = inl (kind.Foreign, refl)
settled None false word e f =
    ⊎_elim
    (λ is. inl (kind.Name, (refl, is)))
    (λ wrong. inr (record { no_keyword = e; not_foreign = f; wrong = wrong }))
    (identifier_or_not word)

-- a word has a kind, or it breaks a rule
pub word_settled : (cs : List ℕ) (n : ℕ) → ((t : TokenKind) × IsKind form.Word cs n t) ⊎ ((rule i : ℕ) × BreaksIn form.Word cs n rule i)
word_settled cs n =
    ⊎_elim
    (λ has. inl has)
    (λ bad. inr (2, 0, BreaksIn.bad_word refl refl refl bad))
    (settled (meaning_in keywords (take n cs)) (is_among foreign_words (take n cs)) (take n cs) refl refl)
