-- Each token that is spelled is the longest lexeme at its place.
use Rattle.std.proofs.Common.{◌≡◌, ℕ, ◌+◌, ◌-◌, ◌<◌, ◌≤◌, Bool, true, false, List, [], ◌∷◌, ◌++◌, All, flat_map, length, take, drop, replicate, slice_index, refl, sym, ap, ◌∙◌, subst, arith, IsTrue, IsFalse}
use Rattle.std.specs.Prelude.{nat_lt, if◌then◌else◌, MatchBool, filter}
use Rattle.std.specs.List.{AllZip, list_all}
use Rattle.std.proofs.lemmas.Bool.{false≢true}
use Rattle.std.proofs.lemmas.List.{get_or-take, length-drop}
use Rattle.std.proofs.lemmas.List.Elements.{All-nil, All-cons, All-head, All-tail, All-same, All-append, All-replicate, All-filter, All-contains}
use Rattle.std.proofs.lemmas.List.Sums.{prefix_len-le-length}
use Rattle.px_lexer.specs.declared.forms.Form.{Form}
use Rattle.px_lexer.specs.declared.forms.Form.TheVariants as form
use Rattle.px_lexer.specs.declared.token_list.Token.{Token}
use Rattle.px_lexer.specs.declared.token_list.Comment.{Comment}
use Rattle.px_lexer.specs.declared.token_list.TokenKind.{TokenKind}
use Rattle.px_lexer.specs.declared.token_list.TokenKind.TheVariants as kind
use Rattle.px_lexer.specs.Characters.{characters}
use Rattle.px_lexer.specs.Spellings.{IsLongest}
use Rattle.px_lexer.specs.Words.{IsWord, starts_word, continues_word, word_len}
use Rattle.px_lexer.specs.Numbers.{IsNumeral}
use Rattle.px_lexer.specs.Signs.{IsSign}
use Rattle.px_lexer.specs.Strings.{opens_string, string_len, is_closed, IsBodyLen, IsClosedString}
use Rattle.px_lexer.specs.Pieces.{Piece, IsPiece, AreBetween, form_of, HasLength, is_content}
use Rattle.px_lexer.specs.Lines.{Line, pieces_of, has_content, level_of, indentation_end, last_level, open_levels, own_level, levels_of}
use Rattle.px_lexer.specs.Tokens.{IsTokens, IsTokenOf, IsKind, token_at, newline_at, token_behind, indentation_tokens, tokens_before_line, AreOfContent, AreOfLine, AreOfLines, end_of_text}
use Rattle.px_lexer.specs.Laws.{IsLexeme, word, number, sign, closed_string, is_spelled, TokensAreLongest}
use Rattle.px_lexer.proofs.FormLemmas.{word_starts, word_fails, number_begins, number_fails, sign_fails, text_opens, body_len_unique, length_within}
use Rattle.px_lexer.proofs.FrontLemmas.{front_passes, front_short, front_opens, some_quotes, closed_len, string_alone, string_longest}
use Rattle.px_lexer.proofs.LexemeLemmas.{front_number, number_starts_no_word, number_opens_no_string, sign_starts_no_word, sign_opens_no_string, long_sign_begins_no_number}

-- One token

no_way : {b : Bool} → IsFalse b → IsTrue b → ⊥
no_way e t = false≢true (sym e ∙ t)

front_starts : (cs : List ℕ) (m : ℕ) → 0 < m → IsWord (take m cs) → IsTrue (starts_word (slice_index cs 0))
front_starts cs m some w = subst (λ c. IsTrue (starts_word c)) (get_or-take m cs 0 0 some) w.begins

word_longest : (cs : List ℕ) (n : ℕ) → form_of cs ≡ form.Word → 0 < n → n ≡ word_len cs → IsLongest IsLexeme cs n
word_longest cs n e some len = record {
  within = subst (λ k. k ≤ length cs) (sym len) (prefix_len-le-length continues_word cs);
  spelled = word (record {
    begins = subst (λ c. IsTrue (starts_word c)) (sym (get_or-take n cs 0 0 some)) (word_starts cs e);
    goes_on = subst (λ k. IsTrue (list_all continues_word (take k cs))) (sym len) (front_passes continues_word cs);
  });
  longest = λ m more within x. no_longer m more within x;
}
  where
    no_longer : (m : ℕ) → n < m → m ≤ length cs → IsLexeme (take m cs) → ⊥
    no_longer m more within (word w) = omega (arith, front_short continues_word cs m within w.goes_on)
    no_longer m more within (number x) = no_way (number_starts_no_word cs (front_number cs m x)) (word_starts cs e)
    no_longer m more within (sign s) = no_way (sign_starts_no_word cs m s) (word_starts cs e)
    no_longer m more within (closed_string t) = no_way (word_fails cs e) (front_opens cs m t.opens)

number_longest : (cs : List ℕ) (n : ℕ) → form_of cs ≡ form.Number → 0 < n → IsLongest IsNumeral cs n → IsLongest IsLexeme cs n
number_longest cs n e some whole = record {
  within = whole.within;
  spelled = number whole.spelled;
  longest = λ m more within x. no_longer m more within x;
}
  where
    no_longer : (m : ℕ) → n < m → m ≤ length cs → IsLexeme (take m cs) → ⊥
    no_longer m more within (word w) = no_way (number_fails cs e).1 (front_starts cs m (omega arith) w)
    no_longer m more within (number x) = whole.longest m more within x
    no_longer m more within (sign s) = no_way (long_sign_begins_no_number cs m (omega arith) s) (number_begins cs e)
    no_longer m more within (closed_string t) = no_way (number_fails cs e).0 (front_opens cs m t.opens)

sign_longest : (cs : List ℕ) (n : ℕ) → form_of cs ≡ form.Sign → 0 < n → IsLongest IsSign cs n → IsLongest IsLexeme cs n
sign_longest cs n e some whole = record {
  within = whole.within;
  spelled = sign whole.spelled;
  longest = λ m more within x. no_longer m more within x;
}
  where
    no_longer : (m : ℕ) → n < m → m ≤ length cs → IsLexeme (take m cs) → ⊥
    no_longer m more within (word w) = no_way (sign_fails cs e).1 (front_starts cs m (omega arith) w)
    no_longer m more within (number x) = no_way (sign_fails cs e).2 (front_number cs m x)
    no_longer m more within (sign s) = whole.longest m more within s
    no_longer m more within (closed_string t) = no_way (sign_fails cs e).0 (front_opens cs m t.opens)

text_longest : (cs : List ℕ) (n body : ℕ) → form_of cs ≡ form.Text → n ≤ length cs → IsBodyLen cs body → IsTrue (is_closed cs body) → n ≡ string_len cs body → IsLongest IsLexeme cs n
text_longest cs n body e inside whole closed len = record {
  within = inside;
  spelled = closed_string (subst (λ k. IsClosedString (take k cs)) (sym len) (string_alone cs body opens whole closed (subst (λ k. k ≤ length cs) len inside)));
  longest = λ m more within x. no_longer m more within x;
}
  where
    opens : IsTrue (opens_string cs)
    opens = text_opens cs e

    no_longer : (m : ℕ) → n < m → m ≤ length cs → IsLexeme (take m cs) → ⊥
    no_longer m more within (word w) = omega (arith, front_short continues_word cs m within w.goes_on, len, closed_len cs body closed, some_quotes cs)
    no_longer m more within (number x) = no_way (number_opens_no_string cs (front_number cs m x)) opens
    no_longer m more within (sign s) = no_way (sign_opens_no_string cs m s) opens
    no_longer m more within (closed_string t) = string_longest cs body m opens whole closed (omega (arith, len, more)) within t

piece_longest : (found : Form) (cs : List ℕ) (n : ℕ) (t : TokenKind) → form_of cs ≡ found → 0 < n → n ≤ length cs → HasLength found cs n → IsKind found cs n t → IsLongest IsLexeme cs n
piece_longest form.Blank cs n t e some within whole k = absurd k
piece_longest form.LineEnd cs n t e some within whole k = absurd k
piece_longest form.Join cs n t e some within whole k = absurd k
piece_longest form.Comment cs n t e some within whole k = absurd k
piece_longest form.Word cs n t e some within whole k = word_longest cs n e some whole
piece_longest form.Number cs n t e some within whole k = number_longest cs n e some whole
piece_longest form.Text cs n t e some within whole k = text_longest cs n k.body e within k.whole k.closed (whole.2 ∙ ap (string_len cs) (body_len_unique cs whole.0 k.body whole.1 k.whole))
piece_longest form.Sign cs n t e some within whole k = sign_longest cs n e some whole
piece_longest form.Stray cs n t e some within whole k = absurd k

-- What holds of each token that is spelled and of each that tells of lines, holds of all

pieces_all : (cs : List ℕ) (from to : ℕ) (ps : List Piece) → AreBetween cs from ps to → All (IsPiece cs) ps
pieces_all cs from to [] a = All-nil (IsPiece cs)
pieces_all cs from to (p ∷ ps) a = All-cons (IsPiece cs) p ps a.1 (pieces_all cs p.to to ps a.2)

all_left : {A : Type 0} (P : A → Type 0) (xs ys : List A) → All P (xs ++ ys) → All P xs
all_left P [] ys a = All-nil P
all_left P (x ∷ xs) ys a = All-cons P x xs (All-head P x (xs ++ ys) a) (all_left P xs ys (All-tail P x (xs ++ ys) a))

all_right : {A : Type 0} (P : A → Type 0) (xs ys : List A) → All P (xs ++ ys) → All P ys
all_right P [] ys a = a
all_right P (x ∷ xs) ys a = all_right P xs ys (All-tail P x (xs ++ ys) a)

-- what is known of the tokens of a text
record Known (P : Token → Type 0) (text : List ℕ) : Type 0 where
  spelled : (p : Piece) (t : Token) → IsPiece (characters text) p → IsTokenOf text p t → P t
  other : (i j : ℕ) (k : TokenKind) → IsFalse (is_spelled k) → P (token_at text i j k)

all_spelled : (P : Token → Type 0) (text : List ℕ) → Known P text → (ps : List Piece) (ts : List Token) → All (IsPiece (characters text)) ps → AllZip (IsTokenOf text) ps ts → All P ts
all_spelled P text known [] [] a z = All-nil P
all_spelled P text known [] (t ∷ ts) a z = absurd z
all_spelled P text known (p ∷ ps) [] a z = absurd z
all_spelled P text known (p ∷ ps) (t ∷ ts) a z =
    let is = IsPiece (characters text) in
    All-cons P t ts (known.spelled p t (All-head is p ps a) z.0) (all_spelled P text known ps ts (All-tail is p ps a) z.1)

all_if : (P : Token → Type 0) (b : Bool) (t : Token) → P t → All P (if b then t ∷ [] else [])
all_if P true t p = All-cons P t [] p (All-nil P)
all_if P false t p = All-nil P

all_indentation : (P : Token → Type 0) (text levels : List ℕ) (level at : ℕ) → Known P text → All P (indentation_tokens text levels level at)
all_indentation P text levels level at known =
    All-append P (if nat_lt (last_level levels) level then token_at text at at kind.Indent ∷ [] else [])
    (replicate (length (filter (nat_lt level) (open_levels levels))) (token_at text at at kind.Dedent))
    (all_if P (nat_lt (last_level levels) level) (token_at text at at kind.Indent) (known.other at at kind.Indent refl))
    (All-replicate P _ (token_at text at at kind.Dedent) (known.other at at kind.Dedent refl))

all_line : (P : Token → Type 0) (text levels : List ℕ) (ps : List Piece) (newline : Token) (tokens : List Token) → Known P text → All (IsPiece (characters text)) ps → P newline
    → AreOfLine text levels ps newline tokens → All P tokens
all_line P text levels ps newline tokens known a n = by_cases (has_content ps)
  where
    by_cases : (b : Bool) → MatchBool b (AreOfContent text levels ps newline tokens) (tokens ≡ []) → All P tokens
    by_cases true c =
        All-same P tokens (tokens_before_line text levels ps ++ c.spelled ++ newline ∷ []) c.all
        (All-append P (tokens_before_line text levels ps ++ c.spelled) (newline ∷ [])
        (All-append P (tokens_before_line text levels ps) c.spelled (all_indentation P text levels (level_of (characters text) ps) (indentation_end (characters text) ps) known)
        (all_spelled P text known (filter (λ (q : Piece). is_content q.form) ps) c.spelled (All-filter (λ (q : Piece). is_content q.form) (IsPiece (characters text)) ps a) c.each))
        (All-cons P newline [] n (All-nil P)))
    by_cases false e = All-same P tokens [] e (All-nil P)

all_lines : (P : Token → Type 0) (text levels : List ℕ) (lines : List Line) (tokens : List Token) → Known P text → All (IsPiece (characters text)) (flat_map pieces_of lines)
    → AreOfLines text levels lines tokens → All P tokens
all_lines P text levels [] tokens known a e = All-same P tokens [] e (All-nil P)
all_lines P text levels (line ∷ lines) tokens known a o =
    let is = IsPiece (characters text) in
    let own = all_left is (pieces_of line) (flat_map pieces_of lines) a in
    All-same P tokens (o.0 ++ o.1) o.2
    (All-append P o.0 o.1
    (all_line P text levels line.pieces (newline_at text line.ending) o.0 known (all_left is line.pieces (line.ending ∷ []) own) (known.other line.ending.from line.ending.to kind.Newline refl) o.3)
    (all_lines P text (levels ++ own_level (characters text) line.pieces) lines o.1 known (all_right is (pieces_of line) (flat_map pieces_of lines) a) o.4))

all_tokens : (P : Token → Type 0) (text : List ℕ) (tokens : List Token) (comments : List Comment) → Known P text → IsTokens text tokens comments → All P tokens
all_tokens P text tokens comments known t =
    let cs = characters text in
    let end = length cs in
    let is = IsPiece cs in
    let all = pieces_all cs 0 end (flat_map pieces_of t.lines ++ t.rest) t.cut.pieces in
    let levels = levels_of cs t.lines ++ own_level cs t.rest in
    All-same P tokens (t.of_lines ++ t.of_rest ++ end_of_text text levels) t.all
    (All-append P (t.of_lines ++ t.of_rest) (end_of_text text levels)
    (All-append P t.of_lines t.of_rest
    (all_lines P text [] t.lines t.of_lines known (all_left is (flat_map pieces_of t.lines) t.rest all) t.ended)
    (all_line P text (levels_of cs t.lines) t.rest (token_behind text kind.Newline) t.of_rest known (all_right is (flat_map pieces_of t.lines) t.rest all) (known.other end end kind.Newline refl) t.unended))
    (All-append P (replicate (length (open_levels levels)) (token_behind text kind.Dedent)) (token_behind text kind.End ∷ [])
    (All-replicate P (length (open_levels levels)) (token_behind text kind.Dedent) (known.other end end kind.Dedent refl))
    (All-cons P (token_behind text kind.End) [] (known.other end end kind.End refl) (All-nil P))))

-- The law

abbrev IsLongestToken : List ℕ → Token → Type 0
IsLongestToken text token = IsTrue (is_spelled token.kind) → (from n : ℕ) × (token ≡ token_at text from (from + n) token.kind) × IsLongest IsLexeme (drop from (characters text)) n

spelled_longest : (text : List ℕ) (p : Piece) (t : Token) → IsPiece (characters text) p → IsTokenOf text p t → IsLongestToken text t
spelled_longest text p t is of spelled =
    let rest = drop p.from (characters text) in
    let n = p.to - p.from in
    let to : p.to ≡ p.from + n = omega (arith, is.forward) in
    let within = length_within p.form rest n is.formed (omega (arith, is.inside, length-drop p.from (characters text))) is.whole in (
      p.from,
      n,
      of.placed ∙ ap (λ k. token_at text p.from k t.kind) to,
      piece_longest p.form rest n t.kind (sym is.formed) (omega (arith, is.forward)) within is.whole of.kind,
    )

pub tokens_longest : TokensAreLongest
tokens_longest text tokens comments are token inside =
    All-contains (IsLongestToken text) tokens token (all_tokens (IsLongestToken text) text tokens comments (record { spelled = spelled_longest text; other = λ i j k e t. absurd (no_way e t) }) are) inside
