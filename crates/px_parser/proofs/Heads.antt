-- What a statement begins with, as a number: a line with 0, the others with the keyword of theirs.
use Rattle.std.proofs.Common.{◌≡◌, ℕ, suc, ◌≤◌, ◌<◌, List, Option, Some, None, ◌⊎◌, inl, inr, refl, ap, ◌∙◌, arith}
use Rattle.std.specs.Prelude.{slice_get}
use Rattle.px_lexer.specs.declared.spelling.Keyword.{Keyword}
use Rattle.px_lexer.specs.declared.spelling.Keyword.TheVariants as word
use Rattle.px_lexer.specs.declared.token_list.TokenKind.{TokenKind}
use Rattle.px_lexer.specs.declared.token_list.TokenKind.TheVariants as kind
use Rattle.px_lexer.specs.Terminals.{Terminal, HasKind, IsKeyword}
use Rattle.px_exprs.specs.Codes.{kind_code, code_of, code_at, word_code}
use Rattle.px_exprs.specs.Readings.{Stops, Agree}
use Rattle.px_parser.specs.Ends.{EndsArms}
use Rattle.px_parser.proofs.Onlies.{Clash}

abbrev pub word_head : Keyword → ℕ
word_head word.If = 5
word_head word.While = 4
word_head word.For = 3
word_head word.With = 2
word_head word.Cdef = 1
word_head word.Elif = 6
word_head word.Else = 7
word_head word.As = 8
word_head word.Cimport = 8
word_head word.Cpdef = 8
word_head word.Def = 8
word_head word.Except = 8
word_head word.From = 8
word_head word.Import = 8
word_head word.Inline = 8
word_head _ = 0

abbrev pub kind_head : TokenKind → ℕ
kind_head (kind.Keyword w) = word_head w
kind_head kind.Newline = 9
kind_head kind.Indent = 10
kind_head kind.Dedent = 11
kind_head kind.End = 12
kind_head kind.Foreign = 13
kind_head _ = 0

abbrev pub head_of : Option Terminal → ℕ
head_of None = 14
head_of (Some t) = kind_head t.kind

unfoldable pub head_at : List Terminal → ℕ → ℕ
head_at ts i = head_of (slice_get ts i)

pub head_here : {ts : List Terminal} {i : ℕ} {k : TokenKind} → HasKind ts i k → head_at ts i ≡ kind_head k
unfolding head_at
head_here h = ap head_of h.stands ∙ ap kind_head h.kind

pub head_carried : (ts us : List Terminal) (i : ℕ) → Agree (suc i) us ts → head_at us i ≡ head_at ts i
unfolding head_at
head_carried ts us i agree = ap head_of (agree i (omega arith))

-- what begins an expression begins a line

low_word : (w : Keyword) → word_code w ≤ 21 → word_head w ≡ 0
low_word word.If le = absurd (omega (arith, le))
low_word word.While le = absurd (omega (arith, le))
low_word word.For le = absurd (omega (arith, le))
low_word word.With le = absurd (omega (arith, le))
low_word word.Cdef le = absurd (omega (arith, le))
low_word word.Elif le = absurd (omega (arith, le))
low_word word.Else le = absurd (omega (arith, le))
low_word word.As le = absurd (omega (arith, le))
low_word word.Cimport le = absurd (omega (arith, le))
low_word word.Cpdef le = absurd (omega (arith, le))
low_word word.Def le = absurd (omega (arith, le))
low_word word.Except le = absurd (omega (arith, le))
low_word word.From le = absurd (omega (arith, le))
low_word word.Import le = absurd (omega (arith, le))
low_word word.Inline le = absurd (omega (arith, le))
low_word w le = refl

low_kind : (k : TokenKind) → kind_code k ≤ 21 → kind_head k ≡ 0
low_kind (kind.Keyword w) le = low_word w le
low_kind kind.Newline le = absurd (omega (arith, le))
low_kind kind.Indent le = absurd (omega (arith, le))
low_kind kind.Dedent le = absurd (omega (arith, le))
low_kind kind.End le = absurd (omega (arith, le))
low_kind kind.Foreign le = absurd (omega (arith, le))
low_kind k le = refl

low_token : (found : Option Terminal) → code_of found ≤ 21 → head_of found ≡ 0
low_token None le = absurd (omega (arith, le))
low_token (Some t) le = low_kind t.kind le

pub low_head : (ts : List Terminal) (i : ℕ) → code_at ts i ≤ 21 → head_at ts i ≡ 0
unfolding head_at code_at
low_head ts i le = low_token (slice_get ts i) le

-- Beginnings that exclude each other

abbrev pub Heads : ℕ → Stops
Heads n ts i = head_at ts i ≡ n

abbrev pub HeadsUpTo : ℕ → Stops
HeadsUpTo n ts i = head_at ts i ≤ n

pub heads_apart : (n m : ℕ) → m < n → Clash (Heads n) (HeadsUpTo m)
heads_apart n m lt ts us i agree a b = omega (arith, head_carried ts us i agree, a, b, lt)

pub heads_apart_kind : (n : ℕ) (k : TokenKind) → n < kind_head k → Clash (HeadsUpTo n) (λ ts i. HasKind ts i k)
heads_apart_kind n k lt ts us i agree a b = omega (arith, head_carried ts us i agree, a, head_here b, lt)

-- a statement begins neither with `elif` nor with `else`
pub head_ends_arms : (ts : List Terminal) (i : ℕ) → HeadsUpTo 5 ts i → EndsArms ts i
head_ends_arms ts i h = (λ w. omega (arith, h, head_here w), λ w. omega (arith, h, head_here w))

-- Tokens with which only a line begins, or nothing

other_word : (w : Keyword) → (w ≡ word.If → ⊥) → (w ≡ word.While → ⊥) → (w ≡ word.For → ⊥) → (w ≡ word.With → ⊥) → (w ≡ word.Cdef → ⊥) → (word_head w ≡ 0) ⊎ (6 ≤ word_head w)
other_word word.If a b c d e = absurd (a refl)
other_word word.While a b c d e = absurd (b refl)
other_word word.For a b c d e = absurd (c refl)
other_word word.With a b c d e = absurd (d refl)
other_word word.Cdef a b c d e = absurd (e refl)
other_word word.Elif a b c d e = inr (omega arith)
other_word word.Else a b c d e = inr (omega arith)
other_word word.As a b c d e = inr (omega arith)
other_word word.Cimport a b c d e = inr (omega arith)
other_word word.Cpdef a b c d e = inr (omega arith)
other_word word.Def a b c d e = inr (omega arith)
other_word word.Except a b c d e = inr (omega arith)
other_word word.From a b c d e = inr (omega arith)
other_word word.Import a b c d e = inr (omega arith)
other_word word.Inline a b c d e = inr (omega arith)
other_word w a b c d e = inl refl

-- no statement but a line begins there
abbrev pub IsOther : Stops
IsOther ts i = (head_at ts i ≡ 0) ⊎ (6 ≤ head_at ts i)

other_kind : (k : TokenKind) → ((w : Keyword) → k ≡ kind.Keyword w → (word_head w ≡ 0) ⊎ (6 ≤ word_head w)) → (kind_head k ≡ 0) ⊎ (6 ≤ kind_head k)
other_kind (kind.Keyword w) by_word = by_word w refl
other_kind kind.Newline by_word = inr (omega arith)
other_kind kind.Indent by_word = inr (omega arith)
other_kind kind.Dedent by_word = inr (omega arith)
other_kind kind.End by_word = inr (omega arith)
other_kind kind.Foreign by_word = inr (omega arith)
other_kind k by_word = inl refl

pub words_are_other : (ts : List Terminal) (i : ℕ) → (IsKeyword ts i word.If → ⊥) → (IsKeyword ts i word.While → ⊥) → (IsKeyword ts i word.For → ⊥) → (IsKeyword ts i word.With → ⊥) → (IsKeyword ts i word.Cdef → ⊥) → IsOther ts i
unfolding head_at
words_are_other ts i no_if no_while no_for no_with no_cdef = told (slice_get ts i) refl
  where
    there : (t : Terminal) → slice_get ts i ≡ Some t → (w v : Keyword) → t.kind ≡ kind.Keyword w → w ≡ v → IsKeyword ts i v
    there t e w v same is = record { token = t; stands = e; kind = same ∙ ap kind.Keyword is }

    told : (found : Option Terminal) → slice_get ts i ≡ found → (head_of found ≡ 0) ⊎ (6 ≤ head_of found)
    told None e = inr (omega arith)
    told (Some t) e = other_kind t.kind (λ w same. other_word w (λ is. no_if (there t e w word.If same is)) (λ is. no_while (there t e w word.While same is)) (λ is. no_for (there t e w word.For same is))
        (λ is. no_with (there t e w word.With same is)) (λ is. no_cdef (there t e w word.Cdef same is)))
