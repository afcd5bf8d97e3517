-- The grammar of types (Cython user guide, Language Basics and Typed Memoryviews). A relation from one index to another says that
-- the tokens from the first to before the second are so.
use Rattle.std.specs.Prelude.{◌≡◌, ℕ, suc, pos, ◌+◌, Bool, true, false, List, [], ◌∷◌, codes, Contains}
use Rattle.px_base.specs.declared.c_types.CType.TheVariants as c
use Rattle.px_lexer.specs.declared.spelling.Operator.TheVariants as sign
use Rattle.px_lexer.specs.declared.token_list.TokenKind.TheVariants as kind
use Rattle.px_tree.specs.declared.typings.Axis.{Axis}
use Rattle.px_tree.specs.declared.typings.Axis.TheVariants as axis
use Rattle.px_tree.specs.declared.typings.BaseType.{BaseType}
use Rattle.px_tree.specs.declared.typings.BaseType.TheVariants as base
use Rattle.px_tree.specs.declared.typings.«Type».{«Type» as Typing}
use Rattle.px_lexer.specs.Terminals.{Terminal, Stands, IsName, IsOperator, IsAt}

-- the words of a base, and what they name; these words are identifiers elsewhere
unfoldable pub bases : List (List (List ℕ) × BaseType)
bases =
    (codes "bint" ∷ [], base.C c.Bint) ∷ (codes "object" ∷ [], base.Object) ∷ (codes "Py_ssize_t" ∷ [], base.C c.SsizeT) ∷
    (codes "size_t" ∷ [], base.C c.SizeT) ∷ (codes "list" ∷ [], base.List) ∷ (codes "dict" ∷ [], base.Dict) ∷
    (codes "tuple" ∷ [], base.Tuple) ∷ (codes "str" ∷ [], base.Str) ∷
    (codes "char" ∷ [], base.C c.Char) ∷ (codes "signed" ∷ codes "char" ∷ [], base.C c.SChar) ∷ (codes "unsigned" ∷ codes "char" ∷ [], base.C c.UChar) ∷
    (codes "short" ∷ [], base.C c.Short) ∷ (codes "short" ∷ codes "int" ∷ [], base.C c.Short) ∷
    (codes "signed" ∷ codes "short" ∷ [], base.C c.Short) ∷ (codes "signed" ∷ codes "short" ∷ codes "int" ∷ [], base.C c.Short) ∷
    (codes "unsigned" ∷ codes "short" ∷ [], base.C c.UShort) ∷ (codes "unsigned" ∷ codes "short" ∷ codes "int" ∷ [], base.C c.UShort) ∷
    (codes "int" ∷ [], base.C c.Int) ∷ (codes "signed" ∷ codes "int" ∷ [], base.C c.Int) ∷ (codes "signed" ∷ [], base.C c.Int) ∷
    (codes "unsigned" ∷ codes "int" ∷ [], base.C c.UInt) ∷ (codes "unsigned" ∷ [], base.C c.UInt) ∷
    (codes "long" ∷ [], base.C c.Long) ∷ (codes "long" ∷ codes "int" ∷ [], base.C c.Long) ∷
    (codes "signed" ∷ codes "long" ∷ [], base.C c.Long) ∷ (codes "signed" ∷ codes "long" ∷ codes "int" ∷ [], base.C c.Long) ∷
    (codes "unsigned" ∷ codes "long" ∷ [], base.C c.ULong) ∷ (codes "unsigned" ∷ codes "long" ∷ codes "int" ∷ [], base.C c.ULong) ∷
    (codes "long" ∷ codes "long" ∷ [], base.C c.LongLong) ∷ (codes "long" ∷ codes "long" ∷ codes "int" ∷ [], base.C c.LongLong) ∷
    (codes "signed" ∷ codes "long" ∷ codes "long" ∷ [], base.C c.LongLong) ∷ (codes "signed" ∷ codes "long" ∷ codes "long" ∷ codes "int" ∷ [], base.C c.LongLong) ∷
    (codes "unsigned" ∷ codes "long" ∷ codes "long" ∷ [], base.C c.ULongLong) ∷ (codes "unsigned" ∷ codes "long" ∷ codes "long" ∷ codes "int" ∷ [], base.C c.ULongLong) ∷ []

-- these identifiers stand from the index on
abbrev pub AreNames : List Terminal → ℕ → List (List ℕ) → ℕ → Type 0
AreNames ts i [] j = i ≡ j
AreNames ts i (name ∷ names) j = IsName ts i name × AreNames ts (suc i) names j

pub record IsBase (ts : List Terminal) (i : ℕ) (b : BaseType) (j : ℕ) : Type 0 where
  pub words : List (List ℕ)
  pub stand : AreNames ts i words j
  pub known : Contains bases (words, b)

-- `:`, or `::1` with a number that is spelled so
pub data IsAxis (ts : List Terminal) (i : ℕ) (a : Axis) (j : ℕ) : Type 0 where
  strided : IsOperator ts i sign.Colon → a ≡ axis.Strided → j ≡ suc i → IsAxis ts i a j
  contiguous : (one : Terminal) → IsOperator ts i sign.Colon → IsOperator ts (i + 1) sign.Colon → Stands ts (i + 2) one → one.kind ≡ kind.Number (pos 1) → one.spelling ≡ codes "1"
      → a ≡ axis.Contiguous → j ≡ i + 3 → IsAxis ts i a j

-- axes with commas between them
pub data AreAxes (ts : List Terminal) : ℕ → List Axis → ℕ → Type 0 where
  last_axis : {i j : ℕ} {a : Axis} → IsAxis ts i a j → AreAxes ts i (a ∷ []) j
  more_axes : {i k j : ℕ} {a : Axis} {others : List Axis} → IsAxis ts i a k → IsOperator ts k sign.Comma → AreAxes ts (suc k) others j → AreAxes ts i (a ∷ others) j

-- nothing, or axes in brackets; with them the nesting is 1
pub data HasAxes (ts : List Terminal) (i : ℕ) (axes : List Axis) (depth j : ℕ) : Type 0 where
  no_view : axes ≡ [] → depth ≡ 0 → j ≡ i → HasAxes ts i axes depth j
  view : (k : ℕ) → IsOperator ts i sign.OpenBracket → AreAxes ts (suc i) axes k → IsOperator ts k sign.CloseBracket → depth ≡ 1 → j ≡ suc k → HasAxes ts i axes depth j

-- nothing, or `const`
pub data HasConst (ts : List Terminal) (i : ℕ) (is_const : Bool) (j : ℕ) : Type 0 where
  plain : is_const ≡ false → j ≡ i → HasConst ts i is_const j
  const : IsName ts i (codes "const") → is_const ≡ true → j ≡ suc i → HasConst ts i is_const j

-- a type, with the nesting of its tokens; its number is the index of its first token
pub record IsTyping (ts : List Terminal) (i : ℕ) (t : Typing) (depth j : ℕ) : Type 0 where
  pub number : t.number ≡ i
  pub placed : IsAt ts i t.at
  pub base_from : ℕ
  pub axes_from : ℕ
  pub const : HasConst ts i t.is_const base_from
  pub base : IsBase ts base_from t.base axes_from
  pub axes : HasAxes ts axes_from t.axes depth j
