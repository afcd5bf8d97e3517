-- Parts of forms that the reader reads by themselves.
use Rattle.std.specs.Prelude.{◌≡◌, ℕ, suc, max, Bool, false, List, [], ◌∷◌, map}
use denote.Bor.{Bor}
use Rattle.px_lexer.specs.declared.spelling.Keyword.TheVariants as word
use Rattle.px_lexer.specs.declared.spelling.Operator.TheVariants as sign
use Rattle.px_base.specs.declared.c_types.BinOp.{BinOp}
use Rattle.px_base.specs.declared.refusals.Span.{Span}
use Rattle.px_tree.specs.declared.expressions.ExprForm.TheVariants as form
use Rattle.px_tree.specs.declared.expressions.Expr.{Expr}
use Rattle.px_tree.specs.declared.expressions.Entry.{Entry}
use Rattle.px_tree.specs.declared.expressions.Link.{Link}
use Rattle.px_tree.specs.declared.expressions.Comparison.{Comparison}
use Rattle.px_tree.specs.declared.expressions.CompareOp.{CompareOp}
use Rattle.px_exprs.specs.declared.readings.Unread.{Unread}
use Rattle.px_exprs.specs.declared.readings.Unread.TheVariants as unread
use Rattle.px_lexer.specs.Terminals.{Terminal, IsKeyword, IsOperator, IsAt}
use Rattle.px_exprs.specs.Grammar.{Level, binary_levels, link, comparison, entry, node, compare_signs, IsOf, IsCompareOp, IsExpr, IsOr, IsAnd, IsNot, IsBinary}

-- `if`, the test, `else` and the other value
pub record IsAlternative (ts : List Terminal) (k : ℕ) (parts : Expr × Expr) (depth j : ℕ) : Type 0 where
  pub otherwise : ℕ
  pub test_depth : ℕ
  pub other_depth : ℕ
  pub condition : IsKeyword ts k word.If
  pub test : IsOr ts (suc k) parts.0 test_depth otherwise
  pub denial : IsKeyword ts otherwise word.Else
  pub other : IsExpr ts (suc otherwise) parts.1 other_depth j
  pub nests : depth ≡ max test_depth other_depth

-- an operator with its right operand

pub record IsOrPart (ts : List Terminal) (k : ℕ) (e : Expr) (depth j : ℕ) : Type 0 where
  pub sign : IsKeyword ts k word.Or
  pub operand : IsAnd ts (suc k) e depth j

pub record IsAndPart (ts : List Terminal) (k : ℕ) (e : Expr) (depth j : ℕ) : Type 0 where
  pub sign : IsKeyword ts k word.And
  pub operand : IsNot ts (suc k) e depth j

pub record IsComparison (ts : List Terminal) (k : ℕ) (c : Comparison) (depth j : ℕ) : Type 0 where
  pub meant : CompareOp
  pub behind : ℕ
  pub operand : Expr
  pub sign : IsCompareOp ts k meant behind
  pub read : IsBinary ts binary_levels behind operand depth j
  pub tree : c ≡ comparison meant operand

pub record IsLink (level : Level) (tighter : List Level) (ts : List Terminal) (k : ℕ) (l : Link) (depth j : ℕ) : Type 0 where
  pub meant : BinOp
  pub operand : Expr
  pub sign : IsOf level ts k meant
  pub read : IsBinary ts tighter (suc k) operand depth j
  pub tree : l ≡ link meant operand

-- a key and its value
pub record IsEntry (ts : List Terminal) (k : ℕ) (e : Entry) (depth j : ℕ) : Type 0 where
  pub key : Expr
  pub value : Expr
  pub key_depth : ℕ
  pub value_depth : ℕ
  pub colon : ℕ
  pub key_read : IsExpr ts k key key_depth colon
  pub separated : IsOperator ts colon sign.Colon
  pub value_read : IsExpr ts (suc colon) value value_depth j
  pub tree : e ≡ entry key value
  pub nests : depth ≡ max key_depth value_depth

-- the levels behind references
abbrev pub levels_of : List (Bor Level) → List Level
levels_of levels = map (λ (level : Bor Level). level.now) levels

-- these levels stand at the end of the table: they are the tightest
pub data AreTighter : List Level → Type 0 where
  all : {levels : List Level} → levels ≡ binary_levels → AreTighter levels
  below : {level : Level} {tighter : List Level} → AreTighter (level ∷ tighter) → AreTighter tighter

-- the first token of a comparison
pub data BeginsComparison (ts : List Terminal) (k : ℕ) : Type 0 where
  by_sign : {meant : CompareOp} → IsOf compare_signs ts k meant → BeginsComparison ts k
  by_in : IsKeyword ts k word.In → BeginsComparison ts k
  by_not : IsKeyword ts k word.Not → BeginsComparison ts k
  by_is : IsKeyword ts k word.Is → BeginsComparison ts k

-- the first token of a trailer
pub data BeginsTrailer (ts : List Terminal) (k : ℕ) : Type 0 where
  by_point : IsOperator ts k sign.Point → BeginsTrailer ts k
  by_parenthesis : IsOperator ts k sign.OpenParenthesis → BeginsTrailer ts k
  by_bracket : IsOperator ts k sign.OpenBracket → BeginsTrailer ts k

-- what parentheses from this index on are round these elements
pub data IsTupleOf (ts : List Terminal) (i : ℕ) (items : List Expr) (has_comma : Bool) (e : Expr) : Type 0 where
  one : items ≡ e ∷ [] → has_comma ≡ false → IsTupleOf ts i items has_comma e
  other : ((only : Expr) → items ≡ only ∷ [] → has_comma ≡ false → ⊥) → (at : Span) → IsAt ts i at → e ≡ node i at (form.Tuple items) → IsTupleOf ts i items has_comma e

-- behind a `not`, at which a comparison begins, stands no `in`
pub record IsNotBehind (ts : List Terminal) (k : ℕ) (u : Unread) : Type 0 where
  pub denial : IsKeyword ts k word.Not
  pub missing : IsKeyword ts (suc k) word.In → ⊥
  pub stuck : u ≡ unread.Stuck (suc k)
