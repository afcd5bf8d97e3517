-- The tokens of a text are what the reader needs.
use Rattle.std.proofs.Common.{◌≡◌, ℕ, zero, suc, ◌+◌, ◌-◌, ◌*◌, ◌^◌, ◌<◌, ◌≤◌, inl, inr, Bool, true, false, List, [], ◌∷◌, ◌++◌, All, flat_map, length, take, drop, replicate, refl, ap, ap₂, sym, ◌∙◌, subst, arith, append_assoc, length-append, length-drop, take-add, take-append-drop, drop_at}
use Rattle.std.specs.Prelude.{nat_eq, nat_lt, not, if◌then◌else◌, ◌==◌, ◌&&◌, MatchBool, Contains, slice_range, filter}
use Rattle.std.specs.List.{AllZip, starts_with}
use Rattle.std.specs.Str.{chars, IsUtf8, all_scalars, encode_utf8_all}
use Rattle.std.specs.Str.Lossy.{utf8_valid_len, valid_len_up_to}
use Rattle.std.proofs.lemmas.Bool.{and_parts, cases_lt, cond_both, ltb-true, ne_eqb, eq-eqb}
use Rattle.std.proofs.lemmas.List.{take_all, take_at, drop-drop, append-nil, length-replicate}
use Rattle.std.proofs.lemmas.List.Filters.{length-filter_both}
use Rattle.std.proofs.lemmas.List.Elements.{All-nil, All-cons, All-head, All-tail, All-same, All-append, All-replicate, All-filter, All-weaker, All-contains, Contains-push}
use Rattle.std.proofs.lemmas.List.Sums.{prefix_len-le-length}
use Rattle.std.proofs.lemmas.Str.{utf8_valid_len_le, IsUtf8-nil, IsUtf8-from_is_utf8, encodes-append, encodes-chars, scalars-chars}
use Rattle.px_lexer.specs.declared.token_list.Token.{Token}
use Rattle.px_lexer.specs.declared.token_list.Tokens.{Tokens}
use Rattle.px_lexer.specs.declared.token_list.Comment.{Comment}
use Rattle.px_lexer.specs.declared.token_list.TokenKind.{TokenKind}
use Rattle.px_lexer.specs.declared.token_list.TokenKind.TheVariants as kind
use Rattle.px_lexer.specs.Characters.{unreadable, mark_len, characters_of, characters, byte_of}
use Rattle.px_lexer.specs.Pieces.{Piece, AreBetween, is_content}
use Rattle.px_lexer.specs.Lines.{Line, pieces_of, has_content, start_of, feeds_from, indented_to, indentation_end, level_of, last_level, open_levels, own_level, levels_of}
use Rattle.px_lexer.specs.Tokens.{IsTokens, IsTokenOf, token_at, newline_at, token_behind, indentation_tokens, tokens_before_line, AreOfContent, AreOfLine, AreOfLines, end_of_text}
use Rattle.px_lexer.proofs.CharacterLemmas.{characters_short}
use Rattle.px_lexer.proofs.Cuts.{between_forward, all_mid}
use Rattle.px_lexer.proofs.LevelLemmas.{open_levels-snoc}
use Rattle.px_lexer.proofs.SpellingLemmas.{starts_fits}
use Rattle.px_lexer.specs.Terminals.{terminals, terminals_of}
use Rattle.px_exprs.specs.Codes.{kind_code, code_at}
use Rattle.px_exprs.specs.Inputs.{IsInput}

-- Parts of lists

pub all_left : {A : Type 0} (P : A → Type 0) (xs ys : List A) → All P (xs ++ ys) → All P xs
all_left P [] ys a = All-nil P
all_left P (x ∷ xs) ys a = All-cons P x xs (All-head P x (xs ++ ys) a) (all_left P xs ys (All-tail P x (xs ++ ys) a))

pub all_right : {A : Type 0} (P : A → Type 0) (xs ys : List A) → All P (xs ++ ys) → All P ys
all_right P [] ys a = a
all_right P (x ∷ xs) ys a = all_right P xs ys (All-tail P x (xs ++ ys) a)

-- The last token

-- no token of an expression stands where the list ends with END
ends_within : (text : List ℕ) (front : List Token) (last : Token) → last.kind ≡ kind.End → (i : ℕ) → code_at (terminals text (front ++ last ∷ [])) i ≤ 33 → suc i < length (front ++ last ∷ [])
unfolding terminals code_at
ends_within text [] last e zero le = absurd (omega (arith, ap kind_code e, le))
ends_within text [] last e (suc i) le = absurd (omega (arith, le))
ends_within text (t ∷ front) last e zero le = omega (arith, length-append front (last ∷ []))
ends_within text (t ∷ front) last e (suc i) le = omega (arith, ends_within text front last e i le)

pub input_ends : (tokens : Tokens) → IsTokens tokens.text tokens.list tokens.comments → (i : ℕ) → code_at (terminals_of tokens) i ≤ 33 → suc i < length tokens.list
input_ends tokens t =
    let text = tokens.text in
    let levels = levels_of (characters text) t.lines ++ own_level (characters text) t.rest in
    let closing = replicate (length (open_levels levels)) (token_behind text kind.Dedent) in
    let whole : tokens.list ≡ (t.of_lines ++ t.of_rest ++ closing) ++ token_behind text kind.End ∷ [] =
    t.all ∙ sym (append_assoc (t.of_lines ++ t.of_rest) closing (token_behind text kind.End ∷ [])) in
    subst (λ list. (i : ℕ) → code_at (terminals text list) i ≤ 33 → suc i < length list) (sym whole) (ends_within text _ (token_behind text kind.End) refl)

-- Bytes of characters

scalars_left : (cs ds : List ℕ) → all_scalars (cs ++ ds) ≡ true → all_scalars cs ≡ true
scalars_left [] ds e = refl
scalars_left (c ∷ cs) ds e = let parts = and_parts _ _ e in ap₂ (λ a b. a && b) parts.0 (scalars_left cs ds parts.1)

scalars_right : (cs ds : List ℕ) → all_scalars (cs ++ ds) ≡ true → all_scalars ds ≡ true
scalars_right [] ds e = e
scalars_right (c ∷ cs) ds e = scalars_right cs ds (and_parts _ _ e).1

-- the front that is read is UTF-8
valid_front : (bytes : List ℕ) (n : ℕ) → IsUtf8 (take (valid_len_up_to bytes n) bytes)
valid_front bytes zero = IsUtf8-nil
valid_front bytes (suc n) =
    cond_both _ (suc n) (valid_len_up_to bytes n) (λ k. IsUtf8 (take k bytes)) (λ valid. IsUtf8-from_is_utf8 _ valid) (λ _. valid_front bytes n)

front_read : (bytes : List ℕ) → IsUtf8 (take (utf8_valid_len bytes) bytes)
unfolding utf8_valid_len
front_read bytes = valid_front bytes (length bytes)

-- bytes that can all be read are those of their characters
pub record AreBytesOf (cs whole : List ℕ) : Type 0 where
  pub bytes : encode_utf8_all cs ≡ whole
  pub scalars : all_scalars cs ≡ true

all_read : (bytes : List ℕ) → (Contains (characters_of bytes) unreadable → ⊥) → AreBytesOf (characters_of bytes) bytes
all_read bytes readable = elim (cases_lt (utf8_valid_len bytes) (length bytes)) [
  | inl less ↦ (
      let rest : characters_of bytes ≡ chars (take (utf8_valid_len bytes) bytes) ++ unreadable ∷ [] =
      ap (λ b. chars (take (utf8_valid_len bytes) bytes) ++ (if b then [] else unreadable ∷ [])) (ne_eqb (utf8_valid_len bytes) (length bytes) (λ same. omega (arith, less, same))) in
      absurd (readable (subst (λ cs. Contains cs unreadable) (sym rest) (Contains-push (chars (take (utf8_valid_len bytes) bytes)) unreadable)))
      )
  | inr all ↦ (
      let same : utf8_valid_len bytes ≡ length bytes = omega (arith, utf8_valid_len_le bytes, all) in
      let whole : take (utf8_valid_len bytes) bytes ≡ bytes = take_all (utf8_valid_len bytes) bytes all in
      let read : characters_of bytes ≡ chars bytes =
      ap (λ b. chars (take (utf8_valid_len bytes) bytes) ++ (if b then [] else unreadable ∷ [])) (eq-eqb (utf8_valid_len bytes) (length bytes) same)
      ∙ append-nil _ ∙ ap chars whole in
      let valid : IsUtf8 bytes = subst IsUtf8 whole (front_read bytes) in
      record { bytes = ap encode_utf8_all read ∙ encodes-chars bytes valid; scalars = ap all_scalars read ∙ scalars-chars bytes valid }
      )
]

pub text_read : (text : List ℕ) → (Contains (characters text) unreadable → ⊥) → AreBytesOf (characters text) (drop (mark_len text) text)
unfolding characters
text_read text readable = all_read (drop (mark_len text) text) readable

mark_inside : (text : List ℕ) → mark_len text ≤ length text
mark_inside text =
    cond_both (starts_with nat_eq text (0xEF ∷ 0xBB ∷ 0xBF ∷ [])) 3 0 (λ n. n ≤ length text) (λ starts. starts_fits text (0xEF ∷ 0xBB ∷ 0xBF ∷ []) starts) (λ _. omega arith)

abbrev pub bytes_len : List ℕ → ℕ
bytes_len cs = length (encode_utf8_all cs)

bytes_len-append : (cs ds : List ℕ) → bytes_len (cs ++ ds) ≡ bytes_len cs + bytes_len ds
bytes_len-append cs ds = ap length (encodes-append cs ds) ∙ length-append (encode_utf8_all cs) (encode_utf8_all ds)

-- the characters from one index to before another
abbrev pub part : List ℕ → ℕ → ℕ → List ℕ
part cs i j = take (j - i) (drop i cs)

pub byte_further : (text : List ℕ) (i j : ℕ) → i ≤ j → byte_of text j ≡ byte_of text i + bytes_len (part (characters text) i j)
byte_further text i j le =
    let cs = characters text in
    let whole : i + (j - i) ≡ j = omega arith in
    let front : take j cs ≡ take i cs ++ part cs i j = ap (λ n. take n cs) (sym whole) ∙ take-add i (j - i) cs in
    omega (arith, ap bytes_len front, bytes_len-append (take i cs) (part cs i j))

pub byte_inside : (text : List ℕ) (i : ℕ) → AreBytesOf (characters text) (drop (mark_len text) text) → byte_of text i ≤ length text
byte_inside text i read =
    let cs = characters text in
    let whole : bytes_len cs ≡ length text - mark_len text = ap length read.bytes ∙ length-drop (mark_len text) text in
    omega (arith, whole, mark_inside text, ap bytes_len (take-append-drop i cs), bytes_len-append (take i cs) (drop i cs))

bytes_between : (text : List ℕ) (i j : ℕ) → AreBytesOf (characters text) (drop (mark_len text) text) → i ≤ j
    → slice_range text (byte_of text i) (byte_of text j) ≡ encode_utf8_all (part (characters text) i j)
bytes_between text i j read le =
    let cs = characters text in
    let front = encode_utf8_all (take i cs) in
    let middle = encode_utf8_all (part cs i j) in
    let back = encode_utf8_all (drop (j - i) (drop i cs)) in
    let cut : encode_utf8_all (drop i cs) ≡ middle ++ back = ap encode_utf8_all (sym (take-append-drop (j - i) (drop i cs))) ∙ encodes-append (part cs i j) (drop (j - i) (drop i cs)) in
    let whole : drop (mark_len text) text ≡ front ++ (middle ++ back) =
    sym read.bytes ∙ ap encode_utf8_all (sym (take-append-drop i cs)) ∙ encodes-append (take i cs) (drop i cs) ∙ ap (λ bs. front ++ bs) cut in
    let behind : drop (byte_of text i) text ≡ middle ++ back =
    sym (drop-drop (length front) (mark_len text) text) ∙ ap (drop (length front)) whole ∙ drop_at front (middle ++ back) (length front) refl in
    let size : byte_of text j - byte_of text i ≡ length middle = omega (arith, byte_further text i j le) in
    ap (λ n. take n (drop (byte_of text i) text)) size ∙ ap (take (length middle)) behind ∙ take_at middle back (length middle) refl

scalars_between : (cs : List ℕ) (i j : ℕ) → all_scalars cs ≡ true → all_scalars (part cs i j) ≡ true
scalars_between cs i j e =
    let behind = scalars_right (take i cs) (drop i cs) (ap all_scalars (take-append-drop i cs) ∙ e) in
    scalars_left (part cs i j) (drop (j - i) (drop i cs)) (ap all_scalars (take-append-drop (j - i) (drop i cs)) ∙ behind)

-- Places of tokens

-- a token from one character to before another
pub record IsPlaced (text : List ℕ) (token : Token) : Type 0 where
  pub first : ℕ
  pub last : ℕ
  pub forward : first ≤ last
  pub inside : last ≤ length (characters text)
  pub begins : token.from ≡ byte_of text first
  pub ends : token.to ≡ byte_of text last

pub placed_at : (text : List ℕ) (i j : ℕ) (k : TokenKind) → i ≤ j → j ≤ length (characters text) → IsPlaced text (token_at text i j k)
placed_at text i j k le inside = record { first = i; last = j; forward = le; inside = inside; begins = refl; ends = refl }

-- a piece of so many characters
abbrev pub IsInside : ℕ → Piece → Type 0
IsInside n p = (p.from ≤ p.to) × (p.to ≤ n)

pub pieces_inside : (cs : List ℕ) (from to : ℕ) (ps : List Piece) → AreBetween cs from ps to → All (IsInside to) ps
pieces_inside cs from to [] a = All-nil (IsInside to)
pieces_inside cs from to (p ∷ ps) a = All-cons (IsInside to) p ps (omega (arith, a.1.forward), between_forward cs p.to to ps a.2) (pieces_inside cs p.to to ps a.2)

spelled_placed : (text : List ℕ) (ps : List Piece) (ts : List Token) → All (IsInside (length (characters text))) ps → AllZip (IsTokenOf text) ps ts → All (IsPlaced text) ts
spelled_placed text [] [] a z = All-nil (IsPlaced text)
spelled_placed text [] (t ∷ ts) a z = absurd z
spelled_placed text (p ∷ ps) [] a z = absurd z
spelled_placed text (p ∷ ps) (t ∷ ts) a z =
    let here = All-head (IsInside (length (characters text))) p ps a in
    All-cons (IsPlaced text) t ts (subst (IsPlaced text) (sym z.0.placed) (placed_at text p.from p.to t.kind here.0 here.1))
    (spelled_placed text ps ts (All-tail (IsInside (length (characters text))) p ps a) z.1)

if_placed : (text : List ℕ) (b : Bool) (t : Token) → IsPlaced text t → All (IsPlaced text) (if b then t ∷ [] else [])
if_placed text true t p = All-cons (IsPlaced text) t [] p (All-nil (IsPlaced text))
if_placed text false t p = All-nil (IsPlaced text)

changes_placed : (text levels : List ℕ) (level at : ℕ) → at ≤ length (characters text) → All (IsPlaced text) (indentation_tokens text levels level at)
changes_placed text levels level at inside =
    All-append (IsPlaced text) (if nat_lt (last_level levels) level then token_at text at at kind.Indent ∷ [] else [])
    (replicate (length (filter (nat_lt level) (open_levels levels))) (token_at text at at kind.Dedent))
    (if_placed text (nat_lt (last_level levels) level) (token_at text at at kind.Indent) (placed_at text at at kind.Indent (omega arith) inside))
    (All-replicate (IsPlaced text) _ (token_at text at at kind.Dedent) (placed_at text at at kind.Dedent (omega arith) inside))

indented_inside : (cs : List ℕ) (start : ℕ) → start ≤ length cs → indented_to cs start ≤ length cs
indented_inside cs start inside =
    let behind = start + feeds_from cs start in
    let feeds = prefix_len-le-length (λ c. c == 12) (drop start cs) in
    let spaces = prefix_len-le-length (λ c. c == 32) (drop behind cs) in
    omega (arith, inside, feeds, length-drop start cs, spaces, length-drop behind cs)

start_inside : (n : ℕ) (ps : List Piece) → All (IsInside n) ps → start_of ps ≤ n
start_inside n [] a = omega arith
start_inside n (p ∷ ps) a = omega (arith, (All-head (IsInside n) p ps a).0, (All-head (IsInside n) p ps a).1)

content_placed : (text levels : List ℕ) (ps : List Piece) (newline : Token) (tokens : List Token) → All (IsInside (length (characters text))) ps → IsPlaced text newline
    → AreOfContent text levels ps newline tokens → All (IsPlaced text) tokens
content_placed text levels ps newline tokens a p c =
    let inside = indented_inside (characters text) (start_of ps) (start_inside (length (characters text)) ps a) in
    All-same (IsPlaced text) tokens (tokens_before_line text levels ps ++ c.spelled ++ newline ∷ []) c.all
    (All-append (IsPlaced text) (tokens_before_line text levels ps ++ c.spelled) (newline ∷ [])
    (All-append (IsPlaced text) (tokens_before_line text levels ps) c.spelled (changes_placed text levels _ _ inside)
    (spelled_placed text (filter (λ (q : Piece). is_content q.form) ps) c.spelled (All-filter (λ (q : Piece). is_content q.form) (IsInside (length (characters text))) ps a) c.each))
    (All-cons (IsPlaced text) newline [] p (All-nil (IsPlaced text))))

line_placed : (text levels : List ℕ) (ps : List Piece) (newline : Token) (tokens : List Token) → All (IsInside (length (characters text))) ps → IsPlaced text newline
    → AreOfLine text levels ps newline tokens → All (IsPlaced text) tokens
line_placed text levels ps newline tokens a p = by_cases (has_content ps)
  where
    by_cases : (b : Bool) → MatchBool b (AreOfContent text levels ps newline tokens) (tokens ≡ []) → All (IsPlaced text) tokens
    by_cases true c = content_placed text levels ps newline tokens a p c
    by_cases false e = All-same (IsPlaced text) tokens [] e (All-nil (IsPlaced text))

lines_placed : (text levels : List ℕ) (lines : List Line) (tokens : List Token) → All (IsInside (length (characters text))) (flat_map pieces_of lines) → AreOfLines text levels lines tokens
    → All (IsPlaced text) tokens
lines_placed text levels [] tokens a e = All-same (IsPlaced text) tokens [] e (All-nil (IsPlaced text))
lines_placed text levels (line ∷ lines) tokens a o =
    let inside = IsInside (length (characters text)) in
    let own = all_left inside (pieces_of line) (flat_map pieces_of lines) a in
    let ending = all_mid inside line.pieces line.ending [] own in
    let newline = placed_at text line.ending.from line.ending.to kind.Newline ending.0 ending.1 in
    All-same (IsPlaced text) tokens (o.0 ++ o.1) o.2
    (All-append (IsPlaced text) o.0 o.1
    (line_placed text levels line.pieces (newline_at text line.ending) o.0 (all_left inside line.pieces (line.ending ∷ []) own) newline o.3)
    (lines_placed text (levels ++ own_level (characters text) line.pieces) lines o.1 (all_right inside (pieces_of line) (flat_map pieces_of lines) a) o.4))

tokens_placed : (text : List ℕ) (tokens : List Token) (comments : List Comment) → IsTokens text tokens comments → All (IsPlaced text) tokens
tokens_placed text tokens comments t =
    let cs = characters text in
    let inside = IsInside (length cs) in
    let all = pieces_inside cs 0 (length cs) (flat_map pieces_of t.lines ++ t.rest) t.cut.pieces in
    let levels = levels_of cs t.lines ++ own_level cs t.rest in
    let behind = λ (k : TokenKind). placed_at text (length cs) (length cs) k (omega arith) (omega arith) in
    All-same (IsPlaced text) tokens (t.of_lines ++ t.of_rest ++ end_of_text text levels) t.all
    (All-append (IsPlaced text) (t.of_lines ++ t.of_rest) (end_of_text text levels)
    (All-append (IsPlaced text) t.of_lines t.of_rest
    (lines_placed text [] t.lines t.of_lines (all_left inside (flat_map pieces_of t.lines) t.rest all) t.ended)
    (line_placed text (levels_of cs t.lines) t.rest (token_behind text kind.Newline) t.of_rest (all_right inside (flat_map pieces_of t.lines) t.rest all) (behind kind.Newline) t.unended))
    (All-append (IsPlaced text) (replicate (length (open_levels levels)) (token_behind text kind.Dedent)) (token_behind text kind.End ∷ [])
    (All-replicate (IsPlaced text) (length (open_levels levels)) (token_behind text kind.Dedent) (behind kind.Dedent))
    (All-cons (IsPlaced text) (token_behind text kind.End) [] (behind kind.End) (All-nil (IsPlaced text)))))

pub input_placed : (tokens : Tokens) → IsTokens tokens.text tokens.list tokens.comments → All (λ (t : Token). (t.from ≤ t.to) × (t.to ≤ length tokens.text)) tokens.list
input_placed tokens t =
    let text = tokens.text in
    let read = text_read text t.readable in
    All-weaker (IsPlaced text) (λ (t : Token). (t.from ≤ t.to) × (t.to ≤ length tokens.text))
    (λ token p. (omega (arith, p.begins, p.ends, byte_further text p.first p.last p.forward), omega (arith, p.ends, byte_inside text p.last read)))
    tokens.list (tokens_placed text tokens.list tokens.comments t)

pub input_spelled : (tokens : Tokens) → IsTokens tokens.text tokens.list tokens.comments → (t : Token) → Contains tokens.list t → IsUtf8 (slice_range tokens.text t.from t.to)
input_spelled tokens t token inside =
    let text = tokens.text in
    let read = text_read text t.readable in
    let p = All-contains (IsPlaced text) tokens.list token (tokens_placed text tokens.list tokens.comments t) inside in
    let is : slice_range text token.from token.to ≡ encode_utf8_all (part (characters text) p.first p.last) =
    ap₂ (slice_range text) p.begins p.ends ∙ bytes_between text p.first p.last read p.forward in
    (part (characters text) p.first p.last, (scalars_between (characters text) p.first p.last read.scalars, sym is))

-- How many tokens there are

between_long : (cs : List ℕ) (from to : ℕ) (ps : List Piece) → AreBetween cs from ps to → from + length ps ≤ to
between_long cs from to [] a = omega (arith, a)
between_long cs from to (p ∷ ps) a = omega (arith, between_long cs p.to to ps a.2, a.0, a.1.forward)

if_short : {A : Type 0} (b : Bool) (x : A) → length (if b then x ∷ [] else []) ≤ 1
if_short true x = omega arith
if_short false x = omega arith

-- the levels over and below one are no more than all
over_and_below : (level : ℕ) (ls : List ℕ) → length (filter (nat_lt level) ls) + length (filter (λ l. nat_lt l level) ls) ≤ length ls
over_and_below level [] = omega arith
over_and_below level (l ∷ ls) = by_cases (nat_lt level l) (nat_lt l level) (λ p q. omega (arith, ltb-true level l p, ltb-true l level q)) _ _ (over_and_below level ls)
  where
    by_cases : (b c : Bool) → (b ≡ true → c ≡ true → ⊥) → (ms ns : List ℕ) → length ms + length ns ≤ length ls
        → length (if b then l ∷ ms else ms) + length (if c then l ∷ ns else ns) ≤ suc (length ls)
    by_cases true true apart ms ns le = absurd (apart refl refl)
    by_cases true false apart ms ns le = omega (arith, le)
    by_cases false true apart ms ns le = omega (arith, le)
    by_cases false false apart ms ns le = omega (arith, le)

length_zip : {A B : Type 0} (R : A → B → Type 0) (xs : List A) (ys : List B) → AllZip R xs ys → length ys ≡ length xs
length_zip R [] [] z = refl
length_zip R [] (y ∷ ys) z = absurd z
length_zip R (x ∷ xs) [] z = absurd z
length_zip R (x ∷ xs) (y ∷ ys) z = ap suc (length_zip R xs ys z.1)

-- the tokens of a line, and the levels that are open behind it, by those open before it
content_few : (text levels : List ℕ) (ps : List Piece) (newline : Token) (tokens : List Token) → AreOfContent text levels ps newline tokens
    → length tokens + length (open_levels (levels ++ level_of (characters text) ps ∷ [])) ≤ length (open_levels levels) + length ps + 3
content_few text levels ps newline tokens c =
    let level = level_of (characters text) ps in
    let at = indentation_end (characters text) ps in
    let opened = open_levels levels in
    let deeper = if nat_lt (last_level levels) level then token_at text at at kind.Indent ∷ [] else [] in
    let left = replicate (length (filter (nat_lt level) opened)) (token_at text at at kind.Dedent) in
    let own = if nat_lt 0 level then level ∷ [] else [] in
    let kept = filter (λ (q : Piece). is_content q.form) ps in
    let all : length tokens ≡ length deeper + length left + length c.spelled + 1 =
    ap length c.all ∙ length-append (deeper ++ left ++ c.spelled) (newline ∷ [])
    ∙ ap (λ n. n + 1) (length-append (deeper ++ left) c.spelled) ∙ ap (λ n. n + length c.spelled + 1) (length-append deeper left) in
    let behind : length (open_levels (levels ++ level ∷ [])) ≡ length (filter (λ l. nat_lt l level) opened) + length own =
    ap length (open_levels-snoc levels level) ∙ length-append (filter (λ l. nat_lt l level) opened) own in
    let spelled : length c.spelled ≤ length ps =
    omega (arith, length_zip (IsTokenOf text) kept c.spelled c.each, length-filter_both (λ (q : Piece). is_content q.form) (λ (q : Piece). not (is_content q.form)) (λ q. refl) ps) in
    omega (
      arith,
      all,
      behind,
      spelled,
      over_and_below level opened,
      length-replicate (length (filter (nat_lt level) opened)) (token_at text at at kind.Dedent),
      if_short (nat_lt (last_level levels) level) (token_at text at at kind.Indent),
      if_short (nat_lt 0 level) level,
    )

line_few : (text levels : List ℕ) (ps : List Piece) (newline : Token) (tokens : List Token) → AreOfLine text levels ps newline tokens
    → length tokens + length (open_levels (levels ++ own_level (characters text) ps)) ≤ length (open_levels levels) + length ps + 3
line_few text levels ps newline tokens = by_cases (has_content ps)
  where
    by_cases : (b : Bool) → MatchBool b (AreOfContent text levels ps newline tokens) (tokens ≡ [])
        → length tokens + length (open_levels (levels ++ (if b then level_of (characters text) ps ∷ [] else []))) ≤ length (open_levels levels) + length ps + 3
    by_cases true c = content_few text levels ps newline tokens c
    by_cases false e = omega (arith, ap length e, ap (λ ls. length (open_levels ls)) (append-nil levels))

lines_few : (text levels : List ℕ) (lines : List Line) (tokens : List Token) → AreOfLines text levels lines tokens
    → length tokens + length (open_levels (levels ++ levels_of (characters text) lines)) ≤ length (open_levels levels) + 3 * length (flat_map pieces_of lines)
lines_few text levels [] tokens e = omega (arith, ap length e, ap (λ ls. length (open_levels ls)) (append-nil levels))
lines_few text levels (line ∷ lines) tokens o =
    let cs = characters text in
    let own = own_level cs line.pieces in
    let here = line_few text levels line.pieces (newline_at text line.ending) o.0 o.3 in
    let later = lines_few text (levels ++ own) lines o.1 o.4 in
    omega (
      arith,
      here,
      later,
      ap length o.2,
      length-append o.0 o.1,
      ap (λ ls. length (open_levels ls)) (append_assoc levels own (levels_of cs lines)),
      length-append (pieces_of line) (flat_map pieces_of lines),
      length-append line.pieces (line.ending ∷ []),
    )

none_open : length (open_levels []) ≡ 0
unfolding open_levels
none_open = refl

pub input_few : (tokens : Tokens) → IsTokens tokens.text tokens.list tokens.comments → length tokens.list < 2 ^ 32
input_few tokens t =
    let text = tokens.text in
    let cs = characters text in
    let before = levels_of cs t.lines in
    let levels = before ++ own_level cs t.rest in
    let closing = replicate (length (open_levels levels)) (token_behind text kind.Dedent) in
    let all : length tokens.list ≡ length t.of_lines + length t.of_rest + (length closing + 1) =
    ap length t.all ∙ length-append (t.of_lines ++ t.of_rest) (end_of_text text levels)
    ∙ ap₂ (λ m n. m + n) (length-append t.of_lines t.of_rest) (length-append closing (token_behind text kind.End ∷ [])) in
    omega (
      arith,
      all,
      length-replicate (length (open_levels levels)) (token_behind text kind.Dedent),
      lines_few text [] t.lines t.of_lines t.ended,
      line_few text before t.rest (token_behind text kind.Newline) t.of_rest t.unended,
      none_open,
      between_long cs 0 (length cs) (flat_map pieces_of t.lines ++ t.rest) t.cut.pieces,
      length-append (flat_map pieces_of t.lines) t.rest,
      characters_short text,
      t.small,
    )

pub input : (tokens : Tokens) → IsTokens tokens.text tokens.list tokens.comments → IsInput tokens
input tokens t = record { few = input_few tokens t; placed = input_placed tokens t; named = λ token inside is. input_spelled tokens t token inside; numbered = λ token n inside is. input_spelled tokens t token inside; ends = input_ends tokens t }
