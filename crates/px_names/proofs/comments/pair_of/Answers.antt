use Rattle.std.proofs.Common.{◌≡◌, ◌+◌, ◌<◌, ◌≤◌, List, ℕ, length, take, drop, sym, ap, ◌∙◌, subst, arith}
use Rattle.std.specs.List.{position_or_len}
use Rattle.std.proofs.lemmas.List.{take_rest}
use Rattle.px_names.specs.Comments.{is_equal_sign, trimmed, words_pair}
use Rattle.px_names.proofs.Cuts.{no_sign, one_sign, two_signs, two_sides}
use Rattle.px_names.proofs.comments.pair_of.Goals as goal

pub returns-then-sign-text : goal.returns-then-sign-text
returns-then-sign-text c = sym (no_sign c.args.text.now (sym c.place_of-sign.ensures.place ∙ c.if-sign-text.true))

pub returns-then-place_of-behind : goal.returns-then-place_of-behind
returns-then-place_of-behind c =
    let text = c.args.text.now in
    let n = c.place_of-sign.result in
    let m = c.place_of.result in
    let rest = drop (n + 1) text in
    let first : n < length text = omega (arith, c.place_of-sign.ensures.within, c.if-sign-text.false) in
    let second : m < length rest = subst (λ (xs : List ℕ). m < length xs) (take_rest text (n + 1)) c.if-place_of-behind.true in
    let place : position_or_len is_equal_sign rest ≡ m = sym (c.place_of.ensures.place ∙ ap (position_or_len is_equal_sign) (take_rest text (n + 1))) in
    sym (one_sign text n (sym c.place_of-sign.ensures.place) first ∙ two_signs (take n text) rest m place second)

pub returns : goal.returns
returns c =
    let text = c.args.text.now in
    let n = c.place_of-sign.result in
    let m = c.place_of.result in
    let rest = drop (n + 1) text in
    let first : n < length text = omega (arith, c.place_of-sign.ensures.within, c.if-sign-text.false) in
    let within : m ≤ length rest = subst (λ (xs : List ℕ). m ≤ length xs) (take_rest text (n + 1)) c.place_of.ensures.within in
    let all : length rest ≤ m = subst (λ (xs : List ℕ). length xs ≤ m) (take_rest text (n + 1)) c.if-place_of-behind.false in
    let place : position_or_len is_equal_sign rest ≡ m = sym (c.place_of.ensures.place ∙ ap (position_or_len is_equal_sign) (take_rest text (n + 1))) in
    c.pair_of_words.ensures
    ∙ (λ i. words_pair (c.trimmed.ensures i) ((c.trimmed-2.ensures ∙ ap trimmed (take_rest text (n + 1))) i))
    ∙ sym (one_sign text n (sym c.place_of-sign.ensures.place) first ∙ two_sides (take n text) rest (place ∙ omega (arith, within, all)))
