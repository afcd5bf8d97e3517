-- Texts that begin alike, and texts that are cut at a sign.
use Rattle.std.proofs.Common.{◌≡◌, ℕ, ◌+◌, ◌<◌, ◌≤◌, List, [], ◌∷◌, ◌++◌, length, take, drop, Bool, true, false, ◌&&◌, not, cond, Option, Some, None, nat_eq, refl, sym, ap, ◌∙◌, arith}
use Rattle.std.specs.Prelude.{bytes_eq, nat_lt, option_map, map}
use Rattle.std.specs.List.{slice_split, onto_first, position_or_len, starts_with}
use Rattle.std.specs.Cmp.Lexicographic.{unequal}
use Rattle.std.proofs.lemmas.Bool.{false≢true, ltb-true, ltb-false}
use Rattle.std.proofs.lemmas.List.{length-append, append_assoc, take_all}
use Rattle.std.proofs.lemmas.List.Splits.{slice_split_first}
use Rattle.px_names.specs.Comments.{Pair, pair_of, pair_at, all_of, pairs_between_commas, is_comma, is_equal_sign, behind}
use Rattle.px_names.proofs.MapSteps.{name_order}

pub of_not : (b : Bool) → not b ≡ false → b ≡ true
of_not true is = refl
of_not false is = sym is

pub of_not_true : (b : Bool) → not b ≡ true → b ≡ false
of_not_true true is = sym is
of_not_true false is = refl

-- ---- beginnings

both_on : {a b c : Bool} (head : Bool) → (a ≡ true → b ≡ c) → (head && a) ≡ true → (head && b) ≡ c
both_on true rest is = rest is
both_on false rest is = absurd (false≢true is)

not_both : {a b : Bool} (head : Bool) → (a ≡ false → b ≡ false) → (head && a) ≡ false → (head && b) ≡ false
not_both true rest is = rest is
not_both false rest is = refl

pub joined_on : (rest content more : List ℕ) → length content ≤ length rest → bytes_eq (take (length content) rest) content ≡ true
    → bytes_eq rest (content ++ more) ≡ bytes_eq (drop (length content) rest) more
joined_on rest [] more small is = refl
joined_on [] (x ∷ content) more small is = absurd (omega (arith, small))
joined_on (y ∷ rest) (x ∷ content) more small is = both_on (nat_eq y x) (λ same. joined_on rest content more (omega (arith, small)) same) is

pub not_joined : (rest content more : List ℕ) → length content ≤ length rest → bytes_eq (take (length content) rest) content ≡ false
    → bytes_eq rest (content ++ more) ≡ false
not_joined rest [] more small is = absurd (false≢true (sym is))
not_joined [] (x ∷ content) more small is = absurd (omega (arith, small))
not_joined (y ∷ rest) (x ∷ content) more small is = not_both (nat_eq y x) (λ differs. not_joined rest content more (omega (arith, small)) differs) is

pub too_long : (rest content more : List ℕ) → length rest < length content → bytes_eq rest (content ++ more) ≡ false
too_long rest content more short =
    unequal nat_eq rest (content ++ more) (λ same. let whole = length-append content more in omega (arith, short, same, whole))

pub too_short : (front text : List ℕ) → length text < length front → starts_with nat_eq text front ≡ false
too_short front text short =
    unequal nat_eq front (take (length front) text) (λ same. let all = ap length (take_all (length front) text (omega (arith, short))) in omega (arith, short, same, all))

pub behind_there : (front text : List ℕ) → bytes_eq (take (length front) text) front ≡ true → behind front text ≡ Some (drop (length front) text)
behind_there front text is = ap (λ b. cond b (Some (drop (length front) text)) None) (name_order front (take (length front) text) ∙ is)

pub behind_none : (front text : List ℕ) → starts_with nat_eq text front ≡ false → behind front text ≡ None
behind_none front text is = ap (λ b. cond b (Some (drop (length front) text)) None) is

-- ---- cuts

length_more : (x : ℕ) (xs : List ℕ) → length (x ∷ xs) ≡ 1 + length xs
length_more x xs = omega arith

pub uncut : (p : ℕ → Bool) (xs : List ℕ) → position_or_len p xs ≡ length xs → slice_split p xs ≡ xs ∷ []
uncut p [] is = refl
uncut p (x ∷ xs) is = heads (p x) (λ same. uncut p xs (omega (arith, same))) (is ∙ length_more x xs)
  where
    heads : (b : Bool) → (1 + position_or_len p xs ≡ 1 + length xs → slice_split p xs ≡ xs ∷ []) → cond (not b) (1 + position_or_len p xs) 0 ≡ 1 + length xs
        → cond b ([] ∷ slice_split p xs) (onto_first x (slice_split p xs)) ≡ (x ∷ xs) ∷ []
    heads true rest same = absurd (omega (arith, same))
    heads false rest same = ap (onto_first x) (rest same)

third_side : (a b : List ℕ) (p : ℕ → Bool) (xs : List ℕ) → pair_of (a ∷ b ∷ slice_split p xs) ≡ None
third_side a b p [] = refl
third_side a b p (x ∷ xs) = heads (p x) (slice_split p xs)
  where
    heads : (yes : Bool) (parts : List (List ℕ)) → pair_of (a ∷ b ∷ cond yes ([] ∷ parts) (onto_first x parts)) ≡ None
    heads true parts = refl
    heads false [] = refl
    heads false (part ∷ parts) = refl

pub no_sign : (text : List ℕ) → position_or_len is_equal_sign text ≡ length text → pair_at text ≡ None
no_sign text is = ap pair_of (uncut is_equal_sign text is)

pub one_sign : (text : List ℕ) (n : ℕ) → position_or_len is_equal_sign text ≡ n → n < length text
    → pair_at text ≡ pair_of (take n text ∷ slice_split is_equal_sign (drop (n + 1) text))
one_sign text n is less =
    ap pair_of (slice_split_first is_equal_sign text 0 (omega (arith, is, less)) ∙ ap (λ m. take m text ∷ slice_split is_equal_sign (drop (m + 1) text)) is)

pub two_signs : (a text : List ℕ) (n : ℕ) → position_or_len is_equal_sign text ≡ n → n < length text → pair_of (a ∷ slice_split is_equal_sign text) ≡ None
two_signs a text n is less =
    ap (λ parts. pair_of (a ∷ parts)) (slice_split_first is_equal_sign text 0 (omega (arith, is, less)))
    ∙ third_side a (take (position_or_len is_equal_sign text) text) is_equal_sign (drop (position_or_len is_equal_sign text + 1) text)

pub two_sides : (a text : List ℕ) → position_or_len is_equal_sign text ≡ length text → pair_of (a ∷ slice_split is_equal_sign text) ≡ pair_of (a ∷ text ∷ [])
two_sides a text is = ap (λ parts. pair_of (a ∷ parts)) (uncut is_equal_sign text is)

pub last_pair : (text : List ℕ) → position_or_len is_comma text ≡ length text
    → pairs_between_commas text ≡ all_of (pair_at text ∷ [])
last_pair text is = ap (λ parts. all_of (map pair_at parts)) (uncut is_comma text is)

pub more_pairs : (text : List ℕ) (n : ℕ) → position_or_len is_comma text ≡ n → n < length text
    → pairs_between_commas text ≡ all_of (pair_at (take n text) ∷ map pair_at (slice_split is_comma (drop (n + 1) text)))
more_pairs text n is less =
    ap (λ parts. all_of (map pair_at parts)) (slice_split_first is_comma text 0 (omega (arith, is, less))
    ∙ ap (λ m. take m text ∷ slice_split is_comma (drop (m + 1) text)) is)

-- ---- pairs between commas, one after another

first_none : (left : List ℕ) (n : ℕ) → position_or_len is_comma left ≡ n → n ≤ length left → pair_at (take n left) ≡ None → pairs_between_commas left ≡ None
first_none left n is within none = sides (nat_lt n (length left)) refl
  where
    sides : (b : Bool) → nat_lt n (length left) ≡ b → pairs_between_commas left ≡ None
    sides true less = more_pairs left n is (ltb-true n (length left) less)
        ∙ ap (λ (o : Option Pair). all_of (o ∷ map pair_at (slice_split is_comma (drop (n + 1) left)))) none
    sides false all =
        let end : length left ≤ n = ltb-false n (length left) all in
        last_pair left (omega (arith, is, within, end))
        ∙ ap (λ (o : Option Pair). all_of (o ∷ [])) (ap pair_at (sym (take_all n left end)) ∙ none)

pub pairs_none : (before : List Pair) (left : List ℕ) (n : ℕ) → position_or_len is_comma left ≡ n → n ≤ length left → pair_at (take n left) ≡ None
    → option_map (λ (more : List Pair). before ++ more) (pairs_between_commas left) ≡ None
pairs_none before left n is within none = ap (option_map (λ (more : List Pair). before ++ more)) (first_none left n is within none)

pub pairs_done : (before : List Pair) (left : List ℕ) (n : ℕ) (p : Pair) → position_or_len is_comma left ≡ n → n ≡ length left → pair_at (take n left) ≡ Some p
    → option_map (λ (more : List Pair). before ++ more) (pairs_between_commas left) ≡ Some (before ++ p ∷ [])
pairs_done before left n p is end one =
    ap (option_map (λ (more : List Pair). before ++ more)) (last_pair left (is ∙ end)
    ∙ ap (λ (o : Option Pair). all_of (o ∷ [])) (ap pair_at (sym (take_all n left (omega (arith, end)))) ∙ one))

pub pairs_on : (before : List Pair) (left : List ℕ) (n : ℕ) (p : Pair) → position_or_len is_comma left ≡ n → n < length left → pair_at (take n left) ≡ Some p
    → option_map (λ (more : List Pair). (before ++ p ∷ []) ++ more) (pairs_between_commas (drop (n + 1) left))
    ≡ option_map (λ (more : List Pair). before ++ more) (pairs_between_commas left)
pairs_on before left n p is less one =
    both (pairs_between_commas (drop (n + 1) left))
    ∙ sym (ap (option_map (λ (more : List Pair). before ++ more)) (more_pairs left n is less
    ∙ ap (λ (o : Option Pair). all_of (o ∷ map pair_at (slice_split is_comma (drop (n + 1) left)))) one))
  where
    both : (rest : Option (List Pair)) → option_map (λ (more : List Pair). (before ++ p ∷ []) ++ more) rest
        ≡ option_map (λ (more : List Pair). before ++ more) (option_map (λ (more : List Pair). p ∷ more) rest)
    both None = refl
    both (Some more) = ap Some (append_assoc before (p ∷ []) more)
