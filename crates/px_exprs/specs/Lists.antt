-- Elements that are read one behind the other.
use Rattle.std.specs.Prelude.{◌≡◌, ℕ, suc, max, nat_lt, Bool, true, false, List, [], ◌∷◌}
use Rattle.px_lexer.specs.declared.spelling.Operator.TheVariants as sign
use Rattle.px_lexer.specs.Terminals.{Terminal, IsOperator}
use Rattle.px_exprs.specs.Grammar.{HasComma}
use Rattle.px_exprs.specs.Readings.{Form}

-- elements that were read one behind the other
pub data Ran {A : Type 0} (E : Form A) (ts : List Terminal) : ℕ → List A → ℕ → ℕ → Type 0 where
  none : {k : ℕ} → Ran E ts k [] 0 k
  more : {k l a b j : ℕ} {t : A} {rest : List A} → E ts k t a l → Ran E ts l rest b j → Ran E ts k (t ∷ rest) (max a b) j

-- elements that were read, each with a comma behind it
pub data Front {A : Type 0} (X : Form A) (ts : List Terminal) : ℕ → List A → ℕ → ℕ → Type 0 where
  none : {k : ℕ} → Front X ts k [] 0 k
  more : {k l a b m : ℕ} {e : A} {es : List A} → X ts k e a l → IsOperator ts l sign.Comma → Front X ts (suc l) es b m → Front X ts k (e ∷ es) (max a b) m

-- elements with commas between them before a closing bracket, and whether a comma stands behind the last; none only where that is
-- allowed
pub data Listed {A : Type 0} (Xs : Form (List A)) (empty : Bool) (ts : List Terminal) : ℕ → List A × Bool → ℕ → ℕ → Type 0 where
  nothing : {k : ℕ} → empty ≡ true → Listed Xs empty ts k ([], false) 0 k
  some : {k l m d : ℕ} {es : List A} → Xs ts k es d l → HasComma ts l m → Listed Xs empty ts k (es, nat_lt l m) d m
