use Rattle.std.proofs.Common.{◌≡◌, ◌<◌, ◌≤◌, ℕ, List, [], ◌∷◌, length, get_or, arith, ap, sym, ◌∙◌, refl, map, Bool, true, false, not, nat_eq}
use Rattle.px_cli.specs.declared.words.Command.{Command}
use Rattle.px_cli.specs.Words.{Asks, command_word}
use lib.Pointwise.{pointwise, bytes_decides}

-- a list of two, from its length and its elements
two_elements : {A : Type 0} (xs : List A) (a b : A) → length xs < 3 → 2 ≤ length xs → a ≡ get_or xs 0 a → b ≡ get_or xs 1 b → xs ≡ a ∷ b ∷ []
two_elements [] a b short long first second = absurd (omega arith)
two_elements (x ∷ []) a b short long first second = absurd (omega arith)
two_elements (x ∷ y ∷ []) a b short long first second = cc
two_elements (x ∷ y ∷ z ∷ more) a b short long first second = absurd (omega arith)

not_false : (b : Bool) → false ≡ not b → b ≡ true
not_false true e = refl
not_false false e = absurd (cc)

-- a text that `!=` doesn't tell from another is that one
same_text : (text other : List ℕ) → false ≡ not (pointwise nat_eq text other) → text ≡ other
same_text text other e = (bytes_decides text other).0 (not_false (pointwise nat_eq text other) e)

-- a text with bytes isn't empty
has_bytes : (text : List ℕ) (n : ℕ) → length text ≡ n → false ≡ nat_eq n 0 → text ≡ [] → ⊥
has_bytes text n is e empty = absurd (cc)

pub asks_for : {A : Type 0} (bytes : A → List ℕ) (words : List A) (command : Command) (first file : A) (text word name : List ℕ) (n : ℕ) →
    length words < 3 → 2 ≤ length words → first ≡ get_or words 0 first → file ≡ get_or words 1 file →
    text ≡ bytes first → word ≡ command_word command → name ≡ bytes file → false ≡ not (pointwise nat_eq text word) →
    length name ≡ n → false ≡ nat_eq n 0 → (get_or name 0 0 ≡ 45 → ⊥) → Asks command (map bytes words) name
asks_for bytes words command first file text word name n short long begins follows spelled known named same counted some unmarked =
    let two : words ≡ first ∷ file ∷ [] = two_elements words first file short long begins follows in
    let asked : bytes first ≡ command_word command = sym spelled ∙ same_text text word same ∙ known in
    record {
      spelled = ap (map bytes) two ∙ (λ i. asked i ∷ sym named i ∷ []);
      nonempty = has_bytes name n counted some;
      no_option = λ rest dashed. unmarked (ap (λ (text : List ℕ). get_or text 0 0) dashed);
    }
