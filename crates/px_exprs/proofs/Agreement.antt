-- Lists that have the same tokens before an index.
use Rattle.std.proofs.Common.{◌≡◌, ℕ, zero, suc, ◌<◌, ◌≤◌, List, [], ◌∷◌, ◌++◌, length, take, refl, sym, ◌∙◌, arith}
use Rattle.std.specs.Prelude.{slice_get, None}
use Rattle.px_lexer.specs.declared.token_list.TokenKind.{TokenKind}
use Rattle.px_lexer.specs.Terminals.{Terminal, HasKind}
use Rattle.px_exprs.specs.Readings.{Agree}

pub agree_same : {n : ℕ} (ts : List Terminal) → Agree n ts ts
agree_same ts i lt = refl

pub agree_back : {n : ℕ} (us ts : List Terminal) → Agree n us ts → Agree n ts us
agree_back us ts a i lt = sym (a i lt)

pub agree_through : {n : ℕ} (vs us ts : List Terminal) → Agree n vs us → Agree n us ts → Agree n vs ts
agree_through vs us ts a b i lt = a i lt ∙ b i lt

pub agree_carried : {n m : ℕ} (us ts : List Terminal) → Agree n us ts → m ≤ n → Agree m us ts
agree_carried us ts a le i lt = a i (omega (arith, le, lt))

-- what follows doesn't matter
pub agree_append : (us more : List Terminal) → Agree (length us) (us ++ more) us
agree_append [] more i lt = absurd (omega (arith, lt))
agree_append (u ∷ us) more zero lt = refl
agree_append (u ∷ us) more (suc i) lt = agree_append us more i (omega (arith, lt))

slice_get-take : (n : ℕ) (ts : List Terminal) (i : ℕ) → i < n → slice_get (take n ts) i ≡ slice_get ts i
slice_get-take zero ts i lt = absurd (omega (arith, lt))
slice_get-take (suc n) [] i lt = refl
slice_get-take (suc n) (t ∷ ts) zero lt = refl
slice_get-take (suc n) (t ∷ ts) (suc i) lt = slice_get-take n ts i (omega (arith, lt))

pub agree_front : (n : ℕ) (ts : List Terminal) → Agree n (take n ts) ts
agree_front n ts i lt = slice_get-take n ts i lt

pub agree_take : (n : ℕ) (ts more : List Terminal) → n ≤ length ts → Agree n (take n ts ++ more) ts
agree_take zero ts more le i lt = absurd (omega (arith, lt))
agree_take (suc n) [] more le i lt = absurd (omega (arith, le))
agree_take (suc n) (t ∷ ts) more le zero lt = refl
agree_take (suc n) (t ∷ ts) more le (suc i) lt = agree_take n ts more (omega (arith, le)) i (omega (arith, lt))

pub nothing_behind : (n : ℕ) (ts : List Terminal) → slice_get (take n ts) n ≡ None
nothing_behind zero ts = refl
nothing_behind (suc n) [] = refl
nothing_behind (suc n) (t ∷ ts) = nothing_behind n ts

-- Tokens before the index

pub kind_carried : {ts us : List Terminal} {i n : ℕ} {k : TokenKind} → HasKind ts i k → i < n → Agree n us ts → HasKind us i k
kind_carried {i = i} h lt agree = record { token = h.token; stands = agree i lt ∙ h.stands; kind = h.kind }
