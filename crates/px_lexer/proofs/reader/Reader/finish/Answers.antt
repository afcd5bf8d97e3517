use Rattle.std.proofs.Common.{◌≡◌, suc, ◌-◌, ◌<◌, List, length, Some, refl, subst, sym, ap, ◌∙◌, arith}
use Rattle.std.specs.Prelude.{slice_index}
use Rattle.px_base.proofs.Facts.{denied}
use Rattle.px_base.specs.Findings.{IsFirst}
use Rattle.px_base.specs.declared.refusals.Refusal.{Refusal}
use Rattle.px_lexer.specs.declared.token_list.Token.{Token}
use Rattle.px_lexer.specs.Characters.{characters, unreadable}
use Rattle.px_lexer.specs.Places.{refusal_at}
use Rattle.px_lexer.specs.Tokens.{IsTokens}
use Rattle.px_lexer.specs.Refusals.{BreaksAt, BreaksCharacters}
use Rattle.px_lexer.specs.Reached.{IsCutShort}
use Rattle.px_lexer.proofs.Breaks.{is_first}
use Rattle.px_lexer.proofs.FirstLaws.{no_unreadable}
use Rattle.px_lexer.proofs.Reaching.{reached_end, clean_end, cut_first, none_cut, closing}
use Rattle.px_lexer.proofs.reader.Reader.finish.Goals as goal

pub overflow_sub-breach : goal.overflow_sub-breach
overflow_sub-breach c = omega (arith, (c.if-is_cut_short.ensures.0 refl).0, c.len.ensures)

pub returns-then-is_cut_short-clause-refused : goal.returns-then-is_cut_short-clause-refused
returns-then-is_cut_short-clause-refused c =
    let text = c.args.source.now.text.now in
    let cs = c.args.source.now.characters in
    let whole = c.requires.whole.whole in
    let k = c.len.result - 1 in
    let some : 0 < length cs = (c.if-is_cut_short.ensures.0 refl).0 in
    let last : suc k ≡ length (characters text) = omega (arith, some, c.len.ensures, ap length whole) in
    let cut : slice_index (characters text) k ≡ unreadable = subst (λ xs. slice_index xs k ≡ unreadable) whole (subst (λ n. slice_index cs (n - 1) ≡ unreadable) (sym c.len.ensures) (c.if-is_cut_short.ensures.0 refl).1) in
    let first = cut_first text c.args.self.now k c.requires.reached (c.requires.all ∙ ap length whole) last cut in
    let there : IsFirst (BreaksCharacters cs) (Some (refusal_at cs 1 k)) = subst (λ xs. IsFirst (BreaksCharacters xs) (Some (refusal_at xs 1 k))) (sym whole) (is_first (characters text) 1 k first) in
    rw c.refusal.ensures there

pub returns-clause-accepted : goal.returns-clause-accepted
returns-clause-accepted c =
    let text = c.args.source.now.text.now in
    let r = c.args.self.now in
    let whole = c.requires.whole.whole in
    let none = no_unreadable (characters text) (none_cut text (subst (λ xs. IsCutShort xs → ⊥) whole (denied c.if-is_cut_short.ensures refl))) in
    let list : c.push.new.self ≡ closing r = c.in_ok-push.ensures.ok ∙ rw (c.in_ok-push_dedents.ensures, c.in_ok-push_newline.ensures, c.deref.ensures.value, c.token.ensures) refl in
    subst (λ (ts : List Token). IsTokens text ts r.comments) (sym list) (reached_end text r c.requires.whole.small none c.requires.reached (c.requires.all ∙ ap length whole))

pub returns-clause-clean : goal.returns-clause-clean
returns-clause-clean c =
    let text = c.args.source.now.text.now in
    let whole = c.requires.whole.whole in
    let none = none_cut text (subst (λ xs. IsCutShort xs → ⊥) whole (denied c.if-is_cut_short.ensures refl)) in
    λ (refusal : Refusal) b. none refusal.number b.0 (clean_end text c.args.self.now c.requires.reached (c.requires.all ∙ ap length whole) refusal.number b.0 (subst (λ xs. BreaksAt xs refusal.number b.0) whole b.1))
