-- Where forms end: before tokens that don't go on with them.
use Rattle.std.proofs.Common.{◌≡◌, ℕ, zero, suc, ◌+◌, ◌≤◌, inl, inr, length, true, false, List, ◌∷◌, refl, sym, ap, ap₂, ◌∙◌, arith}
use Rattle.std.specs.Prelude.{slice_get}
use Rattle.std.proofs.lemmas.Bool.{false≢true, cases_eq}
use Rattle.px_base.specs.declared.c_types.BinOp.{BinOp}
use Rattle.px_lexer.specs.declared.spelling.Keyword.TheVariants as word
use Rattle.px_lexer.specs.declared.spelling.Operator.{Operator}
use Rattle.px_lexer.specs.declared.spelling.Operator.TheVariants as sign
use Rattle.px_lexer.specs.declared.token_list.TokenKind.{TokenKind}
use Rattle.px_lexer.specs.declared.token_list.TokenKind.TheVariants as kind
use Rattle.px_tree.specs.declared.expressions.CompareOp.{CompareOp}
use Rattle.px_tree.specs.declared.expressions.Expr.{Expr}
use Rattle.px_tree.specs.declared.expressions.Comparison.{Comparison}
use Rattle.px_tree.specs.declared.expressions.Link.{Link}
use Rattle.px_tree.specs.declared.expressions.Trailer.{Trailer}
use Rattle.px_lexer.specs.Terminals.{Terminal, HasKind, IsKeyword, IsOperator}
use Rattle.px_exprs.specs.Grammar.{Level, compare_signs, IsOf, IsCompareOp, AreOrs, AreAnds, AreComparisons, AreLinks, AreTrailers, IsTrailer}
use Rattle.px_exprs.specs.Readings.{Agree}
use Rattle.px_exprs.specs.Codes.{sign_code, kind_code, code_of, code_at, is_text_kind, is_text, following_text, behind_text, stop_at, Past}
use Rattle.px_exprs.proofs.Codes.{code_here}
use Rattle.px_exprs.proofs.Tables.{AreLevels, binary_code}
pub use Rattle.px_exprs.proofs.Telling.{stop_high, stop_above, AreWhole, are_whole}
use Rattle.px_exprs.proofs.Telling.{stop_here, text_stop, Told, told_bounds, told_at}
use Rattle.px_exprs.proofs.Beginnings.{comparison_code}

pub past_from : {n : ℕ} (ts : List Terminal) (i : ℕ) → n ≤ code_at ts i → Past n ts i
past_from ts i le = omega (arith, stop_above ts i, le)

pub kind_stops : {n : ℕ} {ts : List Terminal} {i : ℕ} {k : TokenKind} → HasKind ts i k → n ≤ kind_code k → Past n ts i
kind_stops {ts = ts} {i = i} h le = past_from ts i (omega (arith, code_here h, le))

-- The same tokens up to an index

pub code_carried : (ts us : List Terminal) (i : ℕ) → Agree (suc i) us ts → code_at us i ≡ code_at ts i
unfolding code_at
code_carried ts us i agree = ap code_of (agree i (omega arith))

behind_carried : (ts us : List Terminal) (i : ℕ) → Agree (suc i) us ts → behind_text us i ≡ behind_text ts i
behind_carried ts us zero agree = refl
behind_carried ts us (suc i) agree = ap is_text (agree i (omega arith))

pub stop_carried : (ts us : List Terminal) (i : ℕ) → Agree (suc i) us ts → stop_at us i ≡ stop_at ts i
unfolding stop_at
stop_carried ts us i agree =
    ap₂ (λ t b. following_text t b (code_at us i)) (ap is_text (agree i (omega arith))) (behind_carried ts us i agree)
    ∙ ap (λ c. following_text (is_text (slice_get ts i)) (behind_text ts i) c) (code_carried ts us i agree)

pub past_carried : {n : ℕ} (ts us : List Terminal) (i : ℕ) → Agree (suc i) us ts → Past n ts i → Past n us i
past_carried ts us i agree past = omega (arith, stop_carried ts us i agree, past)

-- Behind an atom

pub past_no_text : {ts : List Terminal} {i : ℕ} → ((content : List ℕ) → HasKind ts i (kind.Text content) → ⊥) → Past 1 ts i
past_no_text {ts} {i} none = by_told (told_at ts i)
  where
    by_told : Told ts i → Past 1 ts i
    by_told (Told.more_text content h behind e) = absurd (none content h)
    by_told told = omega (arith, (told_bounds told).0)

-- a string goes on with a string alone
pub past_behind : {ts : List Terminal} {i : ℕ} {k : TokenKind} → HasKind ts i k → is_text_kind k ≡ false → Past 1 ts (suc i)
past_behind {ts} {i} h no_text = by_told (told_at ts (suc i))
  where
    by_told : Told ts (suc i) → Past 1 ts (suc i)
    by_told (Told.more_text content g behind e) = absurd (false≢true (sym no_text ∙ sym (ap is_text_kind h.kind) ∙ sym (ap is_text h.stands) ∙ behind))
    by_told told = omega (arith, (told_bounds told).0)

pub text_goes_on : {ts : List Terminal} {i : ℕ} {content more : List ℕ} → HasKind ts i (kind.Text content) → HasKind ts (suc i) (kind.Text more) → Past 1 ts (suc i) → ⊥
text_goes_on {ts} {i} h g past =
    omega (arith, text_stop g ∙ ap (λ b. following_text true b 0) (ap is_text h.stands ∙ ap is_text_kind h.kind), past)

-- What may stand at an end that isn't further on

pub past_trailer : {ts : List Terminal} {i : ℕ} → Past 1 ts i → (IsOperator ts i sign.Point → ⊥) → (IsOperator ts i sign.OpenParenthesis → ⊥) → (IsOperator ts i sign.OpenBracket → ⊥) → Past 12 ts i
past_trailer {ts} {i} past no_point no_parenthesis no_bracket = by_told (told_at ts i)
  where
    by_told : Told ts i → Past 12 ts i
    by_told (Told.attribute h) = absurd (no_point h)
    by_told (Told.call h) = absurd (no_parenthesis h)
    by_told (Told.subscript h) = absurd (no_bracket h)
    by_told told = omega (arith, told_bounds told, past)

pub past_level : {level : Level} (tighter : List Level) {ts : List Terminal} {i : ℕ} → AreWhole (level ∷ tighter) → Past (12 + length tighter) ts i → ((m : BinOp) → IsOf level ts i m → ⊥)
    → Past (12 + length (level ∷ tighter)) ts i
past_level {level} tighter {ts} {i} whole past none = by_told (told_at ts i)
  where
    of_code : (o : Operator) → IsOperator ts i o → sign_code o ≡ 12 + length tighter → ⊥
    of_code o h e = let row = whole.0.0 o e in none row.0 (record { spelled = o; known = row.1; stands = h })

    by_told : Told ts i → Past (12 + length (level ∷ tighter)) ts i
    by_told (Told.binary o h e low high) = elim (cases_eq (sign_code o) (12 + length tighter)) [ inl same ↦ absurd (of_code o h same) | inr other ↦ omega (arith, e, other, past) ]
    by_told told = omega (arith, told_bounds told, whole.0.1, past)

pub past_comparison : {ts : List Terminal} {i : ℕ} → Past 18 ts i → ((m : CompareOp) → IsOf compare_signs ts i m → ⊥) → (IsKeyword ts i word.In → ⊥) → (IsKeyword ts i word.Not → ⊥) → (IsKeyword ts i word.Is → ⊥)
    → Past 23 ts i
past_comparison {ts} {i} past no_sign no_in no_not no_is = by_told (told_at ts i)
  where
    by_told : Told ts i → Past 23 ts i
    by_told (Told.compared m h low high) = absurd (no_sign m h)
    by_told (Told.in_ h) = absurd (no_in h)
    by_told (Told.not_ h) = absurd (no_not h)
    by_told (Told.is_ h) = absurd (no_is h)
    by_told told = omega (arith, told_bounds told, past)

pub past_and : {ts : List Terminal} {i : ℕ} → Past 23 ts i → (IsKeyword ts i word.And → ⊥) → Past 24 ts i
past_and {ts} {i} past none = by_told (told_at ts i)
  where
    by_told : Told ts i → Past 24 ts i
    by_told (Told.and h) = absurd (none h)
    by_told told = omega (arith, told_bounds told, past)

pub past_or : {ts : List Terminal} {i : ℕ} → Past 24 ts i → (IsKeyword ts i word.Or → ⊥) → Past 25 ts i
past_or {ts} {i} past none = by_told (told_at ts i)
  where
    by_told : Told ts i → Past 25 ts i
    by_told (Told.or h) = absurd (none h)
    by_told told = omega (arith, told_bounds told, past)

pub past_if : {ts : List Terminal} {i : ℕ} → Past 25 ts i → (IsKeyword ts i word.If → ⊥) → Past 26 ts i
past_if {ts} {i} past none = by_told (told_at ts i)
  where
    by_told : Told ts i → Past 26 ts i
    by_told (Told.if_ h) = absurd (none h)
    by_told told = omega (arith, told_bounds told, past)

-- A token that goes on

pub or_goes_on : {ts : List Terminal} {i : ℕ} → IsKeyword ts i word.Or → Past 25 ts i → ⊥
or_goes_on h past = omega (arith, stop_here h refl, past)

pub and_goes_on : {ts : List Terminal} {i : ℕ} → IsKeyword ts i word.And → Past 24 ts i → ⊥
and_goes_on h past = omega (arith, stop_here h refl, past)

pub if_goes_on : {ts : List Terminal} {i : ℕ} → IsKeyword ts i word.If → Past 26 ts i → ⊥
if_goes_on h past = omega (arith, stop_here h refl, past)

-- the code of what stands behind an atom
pub trailer_stop : {ts : List Terminal} {k d j : ℕ} {t : Trailer} → IsTrailer ts k t d j → (1 ≤ stop_at ts k) × (stop_at ts k ≤ 10)
trailer_stop (IsTrailer.attribute p n) = (omega (arith, stop_here p refl), omega (arith, stop_here p refl))
trailer_stop (IsTrailer.empty_call p c) = (omega (arith, stop_here p refl), omega (arith, stop_here p refl))
trailer_stop (IsTrailer.call p a ending c) = (omega (arith, stop_here p refl), omega (arith, stop_here p refl))
trailer_stop (IsTrailer.subscript p a ending c) = (omega (arith, stop_here p refl), omega (arith, stop_here p refl))

pub trailer_goes_on : {ts : List Terminal} {i d j : ℕ} {t : Trailer} → IsTrailer ts i t d j → Past 12 ts i → ⊥
trailer_goes_on p past = omega (arith, (trailer_stop p).1, past)

pub link_stop : {level : Level} (tighter : List Level) {ts : List Terminal} {i : ℕ} {m : BinOp} → AreLevels (level ∷ tighter) → IsOf level ts i m → stop_at ts i ≡ 12 + length tighter
link_stop tighter {ts} {i} levels o = let code = binary_code tighter levels o in stop_high ts i (omega (arith, code)) ∙ code

pub links_go_on : {level : Level} (tighter : List Level) {ts : List Terminal} {i : ℕ} {m : BinOp} → AreLevels (level ∷ tighter) → IsOf level ts i m → Past (12 + length (level ∷ tighter)) ts i → ⊥
links_go_on tighter levels o past = omega (arith, link_stop tighter levels o, past)

pub comparison_stop : {ts : List Terminal} {i j : ℕ} {m : CompareOp} → IsCompareOp ts i m j → (18 ≤ stop_at ts i) × (stop_at ts i ≤ 22)
comparison_stop {ts} {i} p =
    let code = comparison_code p in
    let same = stop_high ts i (omega (arith, code)) in
    (omega (arith, code, same), omega (arith, code, same))

pub comparison_goes_on : {ts : List Terminal} {i j : ℕ} {m : CompareOp} → IsCompareOp ts i m j → Past 23 ts i → ⊥
comparison_goes_on p past = omega (arith, (comparison_stop p).1, past)

-- The code of the rest of a chain

pub ors_stop : {ts : List Terminal} {k d j : ℕ} {es : List Expr} → AreOrs ts k es d j → stop_at ts k ≡ 24
ors_stop (AreOrs.last_or o p) = stop_here o refl
ors_stop (AreOrs.more_ors o p others) = stop_here o refl

pub ands_stop : {ts : List Terminal} {k d j : ℕ} {es : List Expr} → AreAnds ts k es d j → stop_at ts k ≡ 23
ands_stop (AreAnds.last_and o p) = stop_here o refl
ands_stop (AreAnds.more_ands o p others) = stop_here o refl

pub comparisons_stop : {ts : List Terminal} {k d j : ℕ} {es : List Comparison} → AreComparisons ts k es d j → (18 ≤ stop_at ts k) × (stop_at ts k ≤ 22)
comparisons_stop (AreComparisons.last_comparison o p) = comparison_stop o
comparisons_stop (AreComparisons.more_comparisons o p others) = comparison_stop o

pub links_stop : {ts : List Terminal} {level : Level} {tighter : List Level} {k d j : ℕ} {es : List Link} → AreLevels (level ∷ tighter) → AreLinks ts level tighter k es d j → stop_at ts k ≡ 12 + length tighter
links_stop {tighter = tighter} levels (AreLinks.last_link o p) = link_stop tighter levels o
links_stop {tighter = tighter} levels (AreLinks.more_links o p others) = link_stop tighter levels o

pub trailers_stop : {ts : List Terminal} {k d j : ℕ} {es : List Trailer} → AreTrailers ts k es d j → (1 ≤ stop_at ts k) × (stop_at ts k ≤ 10)
trailers_stop (AreTrailers.last_trailer t) = trailer_stop t
trailers_stop (AreTrailers.more_trailers t others) = trailer_stop t

-- Where an operand may end

pub or_stops : {ts : List Terminal} {i : ℕ} → IsKeyword ts i word.Or → Past 24 ts i
or_stops h = kind_stops h (omega arith)

pub and_stops : {ts : List Terminal} {i : ℕ} → IsKeyword ts i word.And → Past 23 ts i
and_stops h = kind_stops h (omega arith)

pub if_stops : {ts : List Terminal} {i : ℕ} → IsKeyword ts i word.If → Past 25 ts i
if_stops h = kind_stops h (omega arith)

pub else_stops : {ts : List Terminal} {i : ℕ} → IsKeyword ts i word.Else → Past 26 ts i
else_stops h = kind_stops h (omega arith)

pub link_stops : {level : Level} (tighter : List Level) {ts : List Terminal} {i : ℕ} {m : BinOp} → AreLevels (level ∷ tighter) → IsOf level ts i m → Past (12 + length tighter) ts i
link_stops tighter levels o = omega (arith, link_stop tighter levels o)

pub comparison_stops : {ts : List Terminal} {i j : ℕ} {m : CompareOp} → IsCompareOp ts i m j → Past 18 ts i
comparison_stops p = (comparison_stop p).0

pub trailer_stops : {ts : List Terminal} {i d j : ℕ} {t : Trailer} → IsTrailer ts i t d j → Past 1 ts i
trailer_stops p = (trailer_stop p).0

pub sign_stops : {n : ℕ} {ts : List Terminal} {i : ℕ} (o : Operator) → IsOperator ts i o → 12 ≤ sign_code o → n ≤ sign_code o → Past n ts i
sign_stops o h high le = kind_stops h le
