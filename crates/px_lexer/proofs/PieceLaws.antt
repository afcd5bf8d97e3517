-- Each place of a text has a piece, and a piece has at most one kind and then breaks no rule.
use Rattle.std.proofs.Common.{◌≡◌, ℕ, ◌+◌, ◌-◌, ◌<◌, ◌≤◌, List, [], ◌∷◌, drop, length, refl, sym, subst, arith}
use Rattle.std.proofs.lemmas.List.{length-drop}
use Rattle.px_lexer.specs.declared.forms.Form.{Form}
use Rattle.px_lexer.specs.declared.forms.Form.TheVariants as form
use Rattle.px_lexer.specs.declared.token_list.TokenKind.{TokenKind}
use Rattle.px_lexer.specs.Pieces.{Piece, IsPiece, AreBetween, form_of, HasLength}
use Rattle.px_lexer.specs.Tokens.{IsKind}
use Rattle.px_lexer.specs.Refusals.{BreaksIn}
use Rattle.px_lexer.proofs.WordLemmas.{word_unique, word_clean, word_length}
use Rattle.px_lexer.proofs.NumberLemmas.{number_unique, number_clean, number_length}
use Rattle.px_lexer.proofs.StringLemmas.{string_unique, string_clean, string_length}
use Rattle.px_lexer.proofs.SignLemmas.{sign_unique, sign_clean, sign_length}
use Rattle.px_lexer.proofs.FormLemmas.{gap_length, length_within}

-- a piece has at most one kind
pub kind_unique : (found : Form) (cs : List ℕ) (n : ℕ) (t u : TokenKind) → IsKind found cs n t → IsKind found cs n u → t ≡ u
kind_unique form.Blank cs n t u a b = absurd a
kind_unique form.LineEnd cs n t u a b = absurd a
kind_unique form.Join cs n t u a b = absurd a
kind_unique form.Comment cs n t u a b = absurd a
kind_unique form.Word cs n t u a b = word_unique cs n t u a b
kind_unique form.Number cs n t u a b = number_unique cs n t u a b
kind_unique form.Text cs n t u a b = string_unique cs n t u a b
kind_unique form.Sign cs n t u a b = sign_unique cs n t u a b
kind_unique form.Stray cs n t u a b = absurd a

-- a piece that has a kind breaks no rule
pub kind_clean : (found : Form) (cs : List ℕ) (n : ℕ) (t : TokenKind) (rule i : ℕ) → IsKind found cs n t → BreaksIn found cs n rule i → ⊥
kind_clean form.Blank cs n t rule i a b = a
kind_clean form.LineEnd cs n t rule i a b = a
kind_clean form.Join cs n t rule i a b = a
kind_clean form.Comment cs n t rule i a b = a
kind_clean form.Word cs n t rule i a b = word_clean cs n t rule i a b
kind_clean form.Number cs n t rule i a b = number_clean cs n t rule i a b
kind_clean form.Text cs n t rule i a b = string_clean cs n t rule i a b
kind_clean form.Sign cs n t rule i a b = sign_clean cs n t rule i a b
kind_clean form.Stray cs n t rule i a b = a

-- some characters begin with a piece of their form
pub piece_length : (found : Form) (cs : List ℕ) → found ≡ form_of cs → 0 < length cs → (n : ℕ) × (0 < n) × (n ≤ length cs) × HasLength found cs n
piece_length form.Blank cs e some = gap_length form.Blank cs e some refl
piece_length form.LineEnd cs e some = gap_length form.LineEnd cs e some refl
piece_length form.Join cs e some = gap_length form.Join cs e some refl
piece_length form.Comment cs e some = gap_length form.Comment cs e some refl
piece_length form.Word cs e some = word_length cs (sym e)
piece_length form.Number cs e some = number_length cs (sym e)
piece_length form.Text cs e some = string_length cs (sym e)
piece_length form.Sign cs e some = sign_length cs (sym e)
piece_length form.Stray cs e some = (1, omega arith, omega arith, refl)

-- a piece stands at each index of a text
pub record StandsAt (cs : List ℕ) (from : ℕ) : Type 0 where
  pub piece : Piece
  pub starts : piece.from ≡ from
  pub stands : IsPiece cs piece
  pub within : piece.to ≤ length cs

pub there_is_a_piece : (cs : List ℕ) (from : ℕ) → from < length cs → StandsAt cs from
there_is_a_piece cs from inside =
    let long = length-drop from cs in
    let found = form_of (drop from cs) in
    let long_piece = piece_length found (drop from cs) refl (omega arith) in
    let n = long_piece.0 in
    let size : (from + n) - from ≡ n = omega arith in
    let full : 0 < n = long_piece.1 in
    let less : n ≤ length (drop from cs) = long_piece.2 in
    record {
      piece = record { form = found; from = from; to = from + n };
      starts = refl;
      stands = record {
        inside = inside;
        formed = refl;
        forward = omega arith;
        whole = subst (λ k. HasLength found (drop from cs) k) (sym size) long_piece.3;
      };
      within = omega arith;
    }

-- a piece ends by the end of the text
pub piece_within : (cs : List ℕ) (p : Piece) → IsPiece cs p → p.to ≤ length cs
piece_within cs p is_p =
    let long = length-drop p.from cs in
    let inside = is_p.inside in
    let forward = is_p.forward in
    let within = length_within p.form (drop p.from cs) (p.to - p.from) is_p.formed (omega arith) is_p.whole in
    omega arith

pub between_within : (cs : List ℕ) (from to : ℕ) (ps : List Piece) → from ≤ length cs → AreBetween cs from ps to → to ≤ length cs
between_within cs from to [] le a = omega (arith, le, a)
between_within cs from to (p ∷ ps) le a = between_within cs p.to to ps (piece_within cs p a.1) a.2
