-- Grammars in Extended Backus-Naur Form (ISO/IEC 14977; the notation of the Python Language Reference, 1.2). A shape tells which
-- tokens, from one index to before another, are a form of the grammar, with which tree, and within which nesting.
use Rattle.std.specs.Prelude.{◌≡◌, ℕ, suc, ◌≤◌, List, [], ◌∷◌, Option, Some, None}
use Rattle.px_base.specs.declared.refusals.Span.{Span}
use Rattle.px_lexer.specs.declared.spelling.Keyword.{Keyword}
use Rattle.px_lexer.specs.declared.spelling.Operator.{Operator}
use Rattle.px_lexer.specs.declared.token_list.TokenKind.{TokenKind}
use Rattle.px_lexer.specs.declared.token_list.TokenKind.TheVariants as kind
use Rattle.px_lexer.specs.Terminals.{Terminal, HasKind, IsName, IsAt}
use Rattle.px_exprs.specs.Readings.{Form}

-- what is looked at
pub record Mode : Type 0 where
  -- how deep expressions and types may be nested
  pub limit : ℕ
  -- a block that begins at this index or behind it may be any tokens; where there is none, each block is looked at
  pub unseen : Option ℕ

-- Last come the number of blocks that may stand round a token, and the index behind the form.
abbrev pub Shape : Type 0 → Type 1
Shape A = Mode → List Terminal → ℕ → A → ℕ → ℕ → Type 0

-- Single tokens

pub record Token (k : TokenKind) (mode : Mode) (ts : List Terminal) (i : ℕ) (t : Unit {0}) (n j : ℕ) : Type 0 where
  pub stands : HasKind ts i k
  pub end : j ≡ suc i

abbrev pub Word : Keyword → Shape (Unit {0})
Word w = Token (kind.Keyword w)

abbrev pub Sign : Operator → Shape (Unit {0})
Sign o = Token (kind.Operator o)

-- NAME
pub record Name (mode : Mode) (ts : List Terminal) (i : ℕ) (name : List ℕ) (n j : ℕ) : Type 0 where
  pub stands : IsName ts i name
  pub end : j ≡ suc i

-- an identifier with this spelling
pub record Soft (name : List ℕ) (mode : Mode) (ts : List Terminal) (i : ℕ) (t : Unit {0}) (n j : ℕ) : Type 0 where
  pub stands : IsName ts i name
  pub end : j ≡ suc i

-- No tokens

-- the index that is reached
pub record Here (mode : Mode) (ts : List Terminal) (i : ℕ) (number n j : ℕ) : Type 0 where
  pub counted : number ≡ i
  pub end : j ≡ i

-- the place of the next token
pub record Place (mode : Mode) (ts : List Terminal) (i : ℕ) (at : Span) (n j : ℕ) : Type 0 where
  pub placed : IsAt ts i at
  pub end : j ≡ i

-- this tree
pub record Gives {A : Type 0} (value : A) (mode : Mode) (ts : List Terminal) (i : ℕ) (t : A) (n j : ℕ) : Type 0 where
  pub tree : t ≡ value
  pub end : j ≡ i

-- Several forms

-- X Y, where Y may depend on the tree of X
pub record Then {A B : Type 0} (X : Shape A) (Y : A → Shape B) (mode : Mode) (ts : List Terminal) (i : ℕ) (t : A × B) (n j : ℕ) : Type 0 where
  pub middle : ℕ
  pub first : X mode ts i t.0 n middle
  pub second : Y t.0 mode ts middle t.1 n j

-- X Y
abbrev pub Seq : {A B : Type 0} → Shape A → Shape B → Shape (A × B)
Seq X Y = Then X (λ _. Y)

-- X, with the place of its first token
abbrev pub Placed : {A : Type 0} → Shape A → Shape (Span × A)
Placed X = Seq Place X

-- X | Y
pub data Either {A : Type 0} (X Y : Shape A) (mode : Mode) (ts : List Terminal) (i : ℕ) (t : A) (n j : ℕ) : Type 0 where
  left : X mode ts i t n j → Either X Y mode ts i t n j
  right : Y mode ts i t n j → Either X Y mode ts i t n j

-- X*
pub data Many {A : Type 0} (X : Shape A) (mode : Mode) (ts : List Terminal) : ℕ → List A → ℕ → ℕ → Type 0 where
  none : {i n : ℕ} → Many X mode ts i [] n i
  more : {i k n j : ℕ} {t : A} {others : List A} → X mode ts i t n k → Many X mode ts k others n j → Many X mode ts i (t ∷ others) n j

-- X (separator X)* [separator]
pub data Listed {A : Type 0} (separator : TokenKind) (X : Shape A) (mode : Mode) (ts : List Terminal) : ℕ → List A → ℕ → ℕ → Type 0 where
  last : {i n j : ℕ} {t : A} → X mode ts i t n j → Listed separator X mode ts i (t ∷ []) n j
  ended : {i k n : ℕ} {t : A} → X mode ts i t n k → HasKind ts k separator → Listed separator X mode ts i (t ∷ []) n (suc k)
  more : {i k n j : ℕ} {t : A} {others : List A} → X mode ts i t n k → HasKind ts k separator → Listed separator X mode ts (suc k) others n j → Listed separator X mode ts i (t ∷ others) n j

-- X, with the tree that this function makes of its own
pub record Of {A B : Type 0} (f : A → B) (X : Shape A) (mode : Mode) (ts : List Terminal) (i : ℕ) (t : B) (n j : ℕ) : Type 0 where
  pub inner : A
  pub read : X mode ts i inner n j
  pub tree : t ≡ f inner

-- a token, and X behind it
abbrev pub After : {A : Type 0} → TokenKind → Shape A → Shape A
After k X = Of (λ p. p.1) (Seq (Token k) X)

-- X, and a token behind it
abbrev pub Before : {A : Type 0} → Shape A → TokenKind → Shape A
Before X k = Of (λ p. p.0) (Seq X (Token k))

-- [X], with another tree where it isn't there
abbrev pub Or : {A : Type 0} → A → Shape A → Shape A
Or absent X = Either X (Gives absent)

-- [X]
abbrev pub Maybe : {A : Type 0} → Shape A → Shape (Option A)
Maybe X = Or None (Of Some X)

-- X X*
abbrev pub Several : {A : Type 0} → Shape A → Shape (List A)
Several X = Of (λ p. p.0 ∷ p.1) (Seq X (Many X))

-- X (separator X)*
abbrev pub Separated : {A : Type 0} → TokenKind → Shape A → Shape (List A)
Separated separator X = Of (λ p. p.0 ∷ p.1) (Seq X (Many (After separator X)))

-- X or the tree of no elements
abbrev pub Elements : {A : Type 0} → TokenKind → Shape A → Shape (List A)
Elements separator X = Or [] (Listed separator X)

-- a form of expressions or types, nested within the limit
pub record Nested {A : Type 0} (X : Form A) (mode : Mode) (ts : List Terminal) (i : ℕ) (t : A) (n j : ℕ) : Type 0 where
  pub depth : ℕ
  pub read : X ts i t depth j
  pub within : depth ≤ mode.limit
