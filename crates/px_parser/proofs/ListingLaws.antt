-- The tokens of a text are what the reader of modules needs.
use Rattle.std.proofs.Common.{◌≡◌, ℕ, zero, suc, ◌+◌, ◌-◌, ◌<◌, ◌≤◌, ◌⊎◌, inl, inr, Bool, true, false, Option, Some, None, List, [], ◌∷◌, ◌++◌, All, flat_map, length, take, drop, replicate, refl, ap, ap₂, sym, ◌∙◌, subst, arith, append_assoc, length-append, take-append-drop, drop_at}
use Rattle.std.specs.Prelude.{nat_lt, if◌then◌else◌, ◌&&◌, MatchBool, slice_range, filter}
use Rattle.std.specs.List.{AllZip}
use Rattle.std.specs.Str.{chars, all_scalars, encode_utf8_all}
use Rattle.std.proofs.lemmas.Bool.{and_parts, false≢true}
use Rattle.std.proofs.lemmas.List.{take_at, drop-drop, length-take-le}
use Rattle.std.proofs.lemmas.List.Elements.{All-nil, All-cons, All-head, All-tail, All-same, All-append, All-replicate, All-filter, All-contains}
use Rattle.std.proofs.lemmas.List.Sums.{prefix_len-le-length}
use Rattle.std.proofs.lemmas.Option.{none-some}
use Rattle.std.proofs.lemmas.Str.{encodes-append, chars-encodes}
use Rattle.px_lexer.specs.declared.spelling.Keyword.{Keyword}
use Rattle.px_lexer.specs.declared.spelling.Operator.{Operator}
use Rattle.px_lexer.specs.declared.forms.Form.{Form}
use Rattle.px_lexer.specs.declared.forms.Form.TheVariants as form
use Rattle.px_lexer.specs.declared.token_list.Token.{Token}
use Rattle.px_lexer.specs.declared.token_list.Tokens.{Tokens}
use Rattle.px_lexer.specs.declared.token_list.TokenKind.{TokenKind}
use Rattle.px_lexer.specs.declared.token_list.TokenKind.TheVariants as kind
use Rattle.px_lexer.specs.Characters.{mark_len, characters, byte_of}
use Rattle.px_lexer.specs.Spellings.{meaning_in, is_among}
use Rattle.px_lexer.specs.Words.{continues_word, word_len, keywords, foreign_words, HasWordKind}
use Rattle.px_lexer.specs.Signs.{sign_kind, operators}
use Rattle.px_lexer.specs.Pieces.{Piece, IsPiece, HasLength, AreBetween, is_content}
use Rattle.px_lexer.specs.Lines.{Line, pieces_of, has_content, indentation_end, level_of, last_level, open_levels, own_level, levels_of}
use Rattle.px_lexer.specs.Tokens.{IsTokens, IsTokenOf, IsKind, string_kind, token_at, newline_at, token_behind, indentation_tokens, tokens_before_line, AreOfContent, AreOfLine, AreOfLines}
use Rattle.px_tree.specs.Names.{IsFunctionName}
use Rattle.px_lexer.specs.Terminals.{Terminal, terminal_of, terminals, Stands, terminals_of}
use Rattle.unicode_ident.proofs.Computing.{unicode_ident}
use Rattle.px_exprs.proofs.InputLaws.{AreBytesOf, text_read, part, byte_further, all_left, all_right, input}
use Rattle.px_parser.specs.Listings.{IsListing}

-- Characters of tokens

bytes_between : (text : List ℕ) (i j : ℕ) → AreBytesOf (characters text) (drop (mark_len text) text) → i ≤ j → slice_range text (byte_of text i) (byte_of text j) ≡ encode_utf8_all (part (characters text) i j)
bytes_between text i j read le =
    let cs = characters text in
    let front = encode_utf8_all (take i cs) in
    let middle = encode_utf8_all (part cs i j) in
    let back = encode_utf8_all (drop (j - i) (drop i cs)) in
    let cut : encode_utf8_all (drop i cs) ≡ middle ++ back = ap encode_utf8_all (sym (take-append-drop (j - i) (drop i cs))) ∙ encodes-append (part cs i j) (drop (j - i) (drop i cs)) in
    let whole : drop (mark_len text) text ≡ front ++ (middle ++ back) =
    sym read.bytes ∙ ap encode_utf8_all (sym (take-append-drop i cs)) ∙ encodes-append (take i cs) (drop i cs) ∙ ap (λ bs. front ++ bs) cut in
    let behind : drop (byte_of text i) text ≡ middle ++ back =
    sym (drop-drop (length front) (mark_len text) text) ∙ ap (drop (length front)) whole ∙ drop_at front (middle ++ back) (length front) refl in
    let size : byte_of text j - byte_of text i ≡ length middle = omega (arith, byte_further text i j le) in
    ap (λ n. take n (drop (byte_of text i) text)) size ∙ ap (take (length middle)) behind ∙ take_at middle back (length middle) refl

scalars_left : (cs ds : List ℕ) → all_scalars (cs ++ ds) ≡ true → all_scalars cs ≡ true
scalars_left [] ds e = refl
scalars_left (c ∷ cs) ds e = let parts = and_parts _ _ e in ap₂ (λ a b. a && b) parts.0 (scalars_left cs ds parts.1)

scalars_right : (cs ds : List ℕ) → all_scalars (cs ++ ds) ≡ true → all_scalars ds ≡ true
scalars_right [] ds e = e
scalars_right (c ∷ cs) ds e = scalars_right cs ds (and_parts _ _ e).1

scalars_between : (cs : List ℕ) (i j : ℕ) → all_scalars cs ≡ true → all_scalars (part cs i j) ≡ true
scalars_between cs i j e =
    let behind = scalars_right (take i cs) (drop i cs) (ap all_scalars (take-append-drop i cs) ∙ e) in
    scalars_left (part cs i j) (drop (j - i) (drop i cs)) (ap all_scalars (take-append-drop (j - i) (drop i cs)) ∙ behind)

spelled_part : (text : List ℕ) (i j : ℕ) → AreBytesOf (characters text) (drop (mark_len text) text) → i ≤ j → chars (slice_range text (byte_of text i) (byte_of text j)) ≡ part (characters text) i j
spelled_part text i j read le = ap chars (bytes_between text i j read le) ∙ chars-encodes (part (characters text) i j) (scalars_between (characters text) i j read.scalars)

-- Words

abbrev Continues : ℕ → Type 0
Continues c = continues_word c ≡ true

word_front : (c : ℕ) (cs : List ℕ) (b : Bool) → continues_word c ≡ b → All Continues (take (word_len cs) cs) → All Continues (take (if b then 1 + word_len cs else 0) (c ∷ cs))
word_front c cs true e rest =
    let next : suc (word_len cs) ≡ 1 + word_len cs = omega arith in
    subst (λ n. All Continues (take n (c ∷ cs))) next (All-cons Continues c (take (word_len cs) cs) e rest)
word_front c cs false e rest = All-nil Continues

word_all : (cs : List ℕ) → All Continues (take (word_len cs) cs)
word_all [] = All-nil Continues
word_all (c ∷ cs) = word_front c cs (continues_word c) refl (word_all cs)

-- some identifier characters
record IsWord (cs : List ℕ) : Type 0 where
  pub some : cs ≡ [] → ⊥
  pub all : All Continues cs

word_there : (cs : List ℕ) (n : ℕ) → n ≡ word_len cs → 0 < n → IsWord (take n cs)
word_there cs n e some =
    let long : length (take n cs) ≡ n = length-take-le n cs (omega (arith, e, prefix_len-le-length continues_word cs)) in
    record {
      some = λ none. let gone : length (take n cs) ≡ 0 = ap length none in omega (arith, gone, long, some);
      all = subst (λ m. All Continues (take m cs)) (sym e) (word_all cs);
    }

-- Kinds of pieces

-- no END, and a name only where these characters are a word
record IsPlainKind (spelled : List ℕ) (k : TokenKind) : Type 0 where
  pub other : k ≡ kind.End → ⊥
  pub named : k ≡ kind.Name → IsWord spelled

word_kind : (found : Option Keyword) (is_foreign : Bool) (word : List ℕ) (k : TokenKind) → IsWord word → HasWordKind found is_foreign word k → IsPlainKind word k
word_kind (Some w) is_foreign word k good h = record { other = λ e. cc; named = λ _. good }
word_kind None true word k good h = record { other = λ e. cc; named = λ _. good }
word_kind None false word k good h = record { other = λ e. (let is = h.0 in cc); named = λ _. good }

string_plain : (is_foreign : Bool) (content spelled : List ℕ) (k : TokenKind) → k ≡ string_kind is_foreign content → IsPlainKind spelled k
string_plain true content spelled k h = record { other = λ e. cc; named = λ e. absurd (cc) }
string_plain false content spelled k h = record { other = λ e. cc; named = λ e. absurd (cc) }

sign_plain : (found : Option Operator) (spelled : List ℕ) (k : TokenKind) → k ≡ sign_kind found → IsPlainKind spelled k
sign_plain (Some o) spelled k h = record { other = λ e. cc; named = λ e. absurd (cc) }
sign_plain None spelled k h = record { other = λ e. cc; named = λ e. absurd (cc) }

piece_kind : (f : Form) (cs : List ℕ) (n : ℕ) (k : TokenKind) → HasLength f cs n → 0 < n → IsKind f cs n k → IsPlainKind (take n cs) k
piece_kind form.Blank cs n k size some h = absurd h
piece_kind form.LineEnd cs n k size some h = absurd h
piece_kind form.Join cs n k size some h = absurd h
piece_kind form.Comment cs n k size some h = absurd h
piece_kind form.Word cs n k size some h = word_kind (meaning_in keywords (take n cs)) (is_among foreign_words (take n cs)) (take n cs) k (word_there cs n size some) h
piece_kind form.Number cs n k size some h = let is = h.kind in record { other = λ e. cc; named = λ e. absurd (cc) }
piece_kind form.Text cs n k size some h = string_plain _ h.content (take n cs) k h.kind
piece_kind form.Sign cs n k size some h = sign_plain (meaning_in operators (take n cs)) (take n cs) k h
piece_kind form.Stray cs n k size some h = absurd h

-- Tokens before END

abbrev IsPlain : List ℕ → Token → Type 0
IsPlain text token = IsPlainKind (chars (slice_range text token.from token.to)) token.kind

pieces_all : (cs : List ℕ) (from to : ℕ) (ps : List Piece) → AreBetween cs from ps to → All (IsPiece cs) ps
pieces_all cs from to [] a = All-nil (IsPiece cs)
pieces_all cs from to (p ∷ ps) a = All-cons (IsPiece cs) p ps a.1 (pieces_all cs p.to to ps a.2)

token_plain : (text : List ℕ) (p : Piece) (t : Token) → AreBytesOf (characters text) (drop (mark_len text) text) → IsPiece (characters text) p → IsTokenOf text p t → IsPlain text t
token_plain text p t read piece of =
    let cs = characters text in
    let kept : IsPlainKind (part cs p.from p.to) t.kind = piece_kind p.form (drop p.from cs) (p.to - p.from) t.kind piece.whole (omega (arith, piece.forward)) of.kind in
    let at : IsPlain text (token_at text p.from p.to t.kind) = subst (λ s. IsPlainKind s t.kind) (sym (spelled_part text p.from p.to read (omega (arith, piece.forward)))) kept in
    subst (IsPlain text) (sym of.placed) at

spelled_plain : (text : List ℕ) → AreBytesOf (characters text) (drop (mark_len text) text) → (ps : List Piece) (ts : List Token) → All (IsPiece (characters text)) ps → AllZip (IsTokenOf text) ps ts → All (IsPlain text) ts
spelled_plain text read [] [] a z = All-nil (IsPlain text)
spelled_plain text read [] (t ∷ ts) a z = absurd z
spelled_plain text read (p ∷ ps) [] a z = absurd z
spelled_plain text read (p ∷ ps) (t ∷ ts) a z =
    let P = IsPiece (characters text) in
    All-cons (IsPlain text) t ts (token_plain text p t read (All-head P p ps a) z.0) (spelled_plain text read ps ts (All-tail P p ps a) z.1)

newline_plain : (text : List ℕ) (i j : ℕ) → IsPlain text (token_at text i j kind.Newline)
newline_plain text i j = record { other = λ e. cc; named = λ e. absurd (cc) }

indent_plain : (text : List ℕ) (i j : ℕ) → IsPlain text (token_at text i j kind.Indent)
indent_plain text i j = record { other = λ e. cc; named = λ e. absurd (cc) }

dedent_plain : (text : List ℕ) (i j : ℕ) → IsPlain text (token_at text i j kind.Dedent)
dedent_plain text i j = record { other = λ e. cc; named = λ e. absurd (cc) }

if_plain : (text : List ℕ) (b : Bool) (t : Token) → IsPlain text t → All (IsPlain text) (if b then t ∷ [] else [])
if_plain text true t p = All-cons (IsPlain text) t [] p (All-nil (IsPlain text))
if_plain text false t p = All-nil (IsPlain text)

changes_plain : (text levels : List ℕ) (level at : ℕ) → All (IsPlain text) (indentation_tokens text levels level at)
changes_plain text levels level at =
    All-append (IsPlain text) (if nat_lt (last_level levels) level then token_at text at at kind.Indent ∷ [] else [])
    (replicate (length (filter (nat_lt level) (open_levels levels))) (token_at text at at kind.Dedent))
    (if_plain text (nat_lt (last_level levels) level) (token_at text at at kind.Indent) (indent_plain text at at))
    (All-replicate (IsPlain text) _ (token_at text at at kind.Dedent) (dedent_plain text at at))

content_plain : (text levels : List ℕ) (ps : List Piece) (newline : Token) (tokens : List Token) → AreBytesOf (characters text) (drop (mark_len text) text) → All (IsPiece (characters text)) ps → IsPlain text newline
    → AreOfContent text levels ps newline tokens → All (IsPlain text) tokens
content_plain text levels ps newline tokens read a p c =
    All-same (IsPlain text) tokens (tokens_before_line text levels ps ++ c.spelled ++ newline ∷ []) c.all
    (All-append (IsPlain text) (tokens_before_line text levels ps ++ c.spelled) (newline ∷ [])
    (All-append (IsPlain text) (tokens_before_line text levels ps) c.spelled (changes_plain text levels (level_of (characters text) ps) (indentation_end (characters text) ps))
    (spelled_plain text read (filter (λ (q : Piece). is_content q.form) ps) c.spelled (All-filter (λ (q : Piece). is_content q.form) (IsPiece (characters text)) ps a) c.each))
    (All-cons (IsPlain text) newline [] p (All-nil (IsPlain text))))

line_plain : (text levels : List ℕ) (ps : List Piece) (newline : Token) (tokens : List Token) → AreBytesOf (characters text) (drop (mark_len text) text) → All (IsPiece (characters text)) ps → IsPlain text newline
    → AreOfLine text levels ps newline tokens → All (IsPlain text) tokens
line_plain text levels ps newline tokens read a p = by_cases (has_content ps)
  where
    by_cases : (b : Bool) → MatchBool b (AreOfContent text levels ps newline tokens) (tokens ≡ []) → All (IsPlain text) tokens
    by_cases true c = content_plain text levels ps newline tokens read a p c
    by_cases false e = All-same (IsPlain text) tokens [] e (All-nil (IsPlain text))

lines_plain : (text levels : List ℕ) (lines : List Line) (tokens : List Token) → AreBytesOf (characters text) (drop (mark_len text) text) → All (IsPiece (characters text)) (flat_map pieces_of lines)
    → AreOfLines text levels lines tokens → All (IsPlain text) tokens
lines_plain text levels [] tokens read a e = All-same (IsPlain text) tokens [] e (All-nil (IsPlain text))
lines_plain text levels (line ∷ lines) tokens read a o =
    let P = IsPiece (characters text) in
    let own = all_left P (pieces_of line) (flat_map pieces_of lines) a in
    All-same (IsPlain text) tokens (o.0 ++ o.1) o.2
    (All-append (IsPlain text) o.0 o.1
    (line_plain text levels line.pieces (newline_at text line.ending) o.0 read (all_left P line.pieces (line.ending ∷ []) own) (newline_plain text line.ending.from line.ending.to) o.3)
    (lines_plain text (levels ++ own_level (characters text) line.pieces) lines o.1 read (all_right P (pieces_of line) (flat_map pieces_of lines) a) o.4))

-- The whole list

-- the tokens of the text before END
record Fronted (text : List ℕ) (tokens : List Token) : Type 0 where
  front : List Token
  plain : All (IsPlain text) front
  whole : tokens ≡ front ++ token_behind text kind.End ∷ []

fronted : (tokens : Tokens) → IsTokens tokens.text tokens.list tokens.comments → Fronted tokens.text tokens.list
fronted tokens t =
    let text = tokens.text in
    let cs = characters text in
    let P = IsPiece cs in
    let read = text_read text t.readable in
    let all = pieces_all cs 0 (length cs) (flat_map pieces_of t.lines ++ t.rest) t.cut.pieces in
    let levels = levels_of cs t.lines ++ own_level cs t.rest in
    let closing = replicate (length (open_levels levels)) (token_behind text kind.Dedent) in
    record {
      front = t.of_lines ++ t.of_rest ++ closing;
      plain = All-append (IsPlain text) (t.of_lines ++ t.of_rest) closing
          (All-append (IsPlain text) t.of_lines t.of_rest (lines_plain text [] t.lines t.of_lines read (all_left P (flat_map pieces_of t.lines) t.rest all) t.ended)
          (line_plain text (levels_of cs t.lines) t.rest (token_behind text kind.Newline) t.of_rest read (all_right P (flat_map pieces_of t.lines) t.rest all) (newline_plain text (length cs) (length cs)) t.unended))
          (All-replicate (IsPlain text) (length (open_levels levels)) (token_behind text kind.Dedent) (dedent_plain text (length cs) (length cs)));
      whole = t.all ∙ sym (append_assoc (t.of_lines ++ t.of_rest) closing (token_behind text kind.End ∷ []));
    }

some_same : {A : Type 0} {x y : A} → Some x ≡ Some y → x ≡ y
some_same e = cc

-- the last token
record IsLast (text : List ℕ) (tokens : List Token) (i : ℕ) (t : Terminal) : Type 0 where
  at_end : suc i ≡ length tokens
  is : terminal_of text (token_behind text kind.End) ≡ t

-- a token before it
record IsBefore (text : List ℕ) (tokens : List Token) (i : ℕ) (t : Terminal) : Type 0 where
  token : Token
  plain : IsPlain text token
  is : terminal_of text token ≡ t
  inside : suc i < length tokens

either_stands : (text : List ℕ) (front : List Token) → All (IsPlain text) front → (i : ℕ) (t : Terminal) → Stands (terminals text (front ++ token_behind text kind.End ∷ [])) i t
    → IsLast text (front ++ token_behind text kind.End ∷ []) i t ⊎ IsBefore text (front ++ token_behind text kind.End ∷ []) i t
unfolding terminals
either_stands text [] a zero t s = inl (record { at_end = refl; is = some_same s })
either_stands text [] a (suc i) t s = absurd (none-some t s)
either_stands text (u ∷ front) a zero t s =
    inr (record { token = u; plain = All-head (IsPlain text) u front a; is = some_same s; inside = omega (arith, length-append front (token_behind text kind.End ∷ [])) })
either_stands text (u ∷ front) a (suc i) t s = elim (either_stands text front (All-tail (IsPlain text) u front a) i t s) [
  | inl h ↦ inl (record { at_end = omega (arith, h.at_end); is = h.is })
  | inr h ↦ inr (record { token = h.token; plain = h.plain; is = h.is; inside = omega (arith, h.inside) })
]

stands_either : (tokens : Tokens) → IsTokens tokens.text tokens.list tokens.comments → (i : ℕ) (t : Terminal) → Stands (terminals_of tokens) i t → IsLast tokens.text tokens.list i t ⊎ IsBefore tokens.text tokens.list i t
stands_either tokens are i t s =
    let f = fronted tokens are in
    subst (λ list. Stands (terminals tokens.text list) i t → IsLast tokens.text list i t ⊎ IsBefore tokens.text list i t) (sym f.whole) (either_stands tokens.text f.front f.plain i t) s

kind_same : {t u : Terminal} → t ≡ u → t.kind ≡ u.kind
kind_same e = ap (λ (x : Terminal). x.kind) e

-- a word is a name that a function may have, since neither a space nor LF is an identifier character
word_named : continues_word 32 ≡ false → continues_word 10 ≡ false → (cs : List ℕ) → IsWord cs → IsFunctionName cs
word_named space line_feed cs word = record {
  nonempty = word.some;
  no_space = λ inside. false≢true (sym space ∙ All-contains Continues cs 32 word.all inside);
  no_line_feed = λ inside. false≢true (sym line_feed ∙ All-contains Continues cs 10 word.all inside);
}

pub listing_by : continues_word 32 ≡ false → continues_word 10 ≡ false → (tokens : Tokens) → IsTokens tokens.text tokens.list tokens.comments → IsListing tokens
listing_by space line_feed tokens are = record {
  input = input tokens are;
  goes_on = λ i k h other. elim (stands_either tokens are i h.token h.stands) [
    | inl l ↦ absurd (other (sym h.kind ∙ sym (kind_same l.is)))
    | inr b ↦ b.inside
  ];
  ends = λ i h. elim (stands_either tokens are i h.token h.stands) [
    | inl l ↦ l.at_end
    | inr b ↦ absurd (b.plain.other (kind_same b.is ∙ h.kind))
  ];
  named = λ i name h. elim (stands_either tokens are i h.token h.stands) [
    | inl l ↦ (let end : kind.End ≡ kind.Name = kind_same l.is ∙ h.kind in absurd (cc))
    | inr b ↦ subst IsFunctionName (ap (λ (x : Terminal). x.spelling) b.is ∙ h.spelled) (word_named space line_feed _ (b.plain.named (kind_same b.is ∙ h.kind)))
  ];
}

space_continues_none : continues_word 32 ≡ false
unfolding unicode_ident
space_continues_none = refl

line_feed_continues_none : continues_word 10 ≡ false
unfolding unicode_ident
line_feed_continues_none = refl

pub listing : (tokens : Tokens) → IsTokens tokens.text tokens.list tokens.comments → IsListing tokens
listing tokens are = listing_by space_continues_none line_feed_continues_none tokens are
