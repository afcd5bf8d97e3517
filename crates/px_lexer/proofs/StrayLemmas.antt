-- Characters with which no piece begins.
use Rattle.std.proofs.Common.{◌≡◌, ℕ, ◌+◌, ◌-◌, ◌<◌, List, length, drop, get_or, refl, sym, ap, ◌∙◌, inl, inr, arith}
use Rattle.std.proofs.lemmas.List.{length-drop, get_or-drop}
use Rattle.px_lexer.specs.declared.forms.Form.TheVariants as form
use Rattle.px_lexer.specs.Characters.{unreadable}
use Rattle.px_lexer.specs.Refusals.{IsBadCharacter, BreaksIn, bad_character, bad_word, bad_number, float_literal, literal_too_wide, bad_escape, string_not_ended}
use Rattle.px_lexer.specs.Readers.{EndsAt, IsRefusedFor}
use Rattle.px_lexer.proofs.FormLemmas.{ends_at}

-- the only rule that it breaks, where it can be read
pub stray_breaks : (cs : List ℕ) (n rule i : ℕ) → BreaksIn form.Stray cs n rule i → (rule ≡ 2) × (i ≡ 0) × IsBadCharacter cs
stray_breaks cs n rule i (bad_character stray is_two is_first bad) = (is_two, is_first, bad)
stray_breaks cs n rule i (bad_word word is_two is_first bad) = absurd cc
stray_breaks cs n rule i (bad_number number is_two is_first bad) = absurd cc
stray_breaks cs n rule i (float_literal number is_eight is_first bad) = absurd cc
stray_breaks cs n rule i (literal_too_wide number is_nine is_first bad) = absurd cc
stray_breaks cs n rule i (bad_escape text is_two bad) = absurd cc
stray_breaks cs n rule i (string_not_ended text is_four is_first bad) = absurd cc

stray_ends : (cs : List ℕ) (from : ℕ) → from < length cs → EndsAt form.Stray cs from (from + 1)
stray_ends cs from inside = ends_at form.Stray cs from 1 (omega arith) (omega (arith, length-drop from cs)) refl

first_code : (cs : List ℕ) (from : ℕ) → get_or (drop from cs) 0 0 ≡ get_or cs from 0
first_code cs from = let n : from + 0 ≡ from = omega arith in get_or-drop from cs 0 0 ∙ ap (λ i. get_or cs i 0) n

pub refused_unreadable : (cs : List ℕ) (from : ℕ) → from < length cs → get_or cs from 0 ≡ unreadable → IsRefusedFor form.Stray cs from (record { rule = 1; at = from })
refused_unreadable cs from inside bad = (
  from + 1,
  stray_ends cs from inside,
  inr (record {
    rule = refl;
    unreadable = (inside, bad);
    behind = omega arith;
    near = omega arith;
    clean = λ rule i breaks. (stray_breaks (drop from cs) (from + 1 - from) rule i breaks).2 (first_code cs from ∙ bad);
  }),
)

pub refused_stray : (cs : List ℕ) (from : ℕ) → from < length cs → (get_or cs from 0 ≡ unreadable → ⊥) → IsRefusedFor form.Stray cs from (record { rule = 2; at = from })
refused_stray cs from inside good = (
  from + 1,
  stray_ends cs from inside,
  inl (record {
    index = 0;
    placed = omega arith;
    broken = bad_character refl refl refl (λ e. good (sym (first_code cs from) ∙ e));
    first = λ rule i breaks. let only = stray_breaks (drop from cs) (from + 1 - from) rule i breaks in inr (sym only.1, omega (arith, only.0));
  }),
)
