-- What the reader needs of its tokens.
use Rattle.std.specs.Prelude.{◌≡◌, ℕ, ℤ, suc, ◌≤◌, ◌<◌, ◌^◌, length, All, Contains, slice_range, IsUtf8, Result}
use Rattle.std.specs.declared.alloc.Global.{Global}
use denote.Bor.{Bor}
use Rattle.px_lexer.specs.declared.token_list.Token.{Token}
use Rattle.px_lexer.specs.declared.token_list.Tokens.{Tokens}
use Rattle.px_lexer.specs.declared.token_list.TokenKind.TheVariants as kind
use Rattle.px_tree.specs.declared.expressions.Expr.{Expr}
use Rattle.px_exprs.specs.declared.readings.Read.{Read}
use Rattle.px_exprs.specs.declared.readings.Unread.{Unread}
use Rattle.px_lexer.specs.Terminals.{terminals_of}
use Rattle.px_exprs.specs.Codes.{code_at, part_code, EndsExpr}
use Rattle.px_exprs.specs.Grammar.{IsExpr}
use Rattle.px_exprs.specs.Readings.{Reads}

pub record IsInput (tokens : Tokens) : Type 0 where
  pub few : length tokens.list < 2 ^ 32
  pub placed : All (λ (t : Token). (t.from ≤ t.to) × (t.to ≤ length tokens.text)) tokens.list
  pub named : (t : Token) → Contains tokens.list t → t.kind ≡ kind.Name → IsUtf8 (slice_range tokens.text t.from t.to)
  pub numbered : (t : Token) (n : ℤ) → Contains tokens.list t → t.kind ≡ kind.Number n → IsUtf8 (slice_range tokens.text t.from t.to)
  -- no token that is a part of an expression is the last one
  pub ends : (i : ℕ) → code_at (terminals_of tokens) i ≤ part_code → suc i < length tokens.list

-- a function value that reads expressions with less room
pub record Nests (room : ℕ) (pre : Global → Bor Tokens → ℕ → ℕ → Type 0) (post : Global → Bor Tokens → ℕ → ℕ → Result (Read Expr) Unread → Type 0) : Type 0 where
  pub callable : (alloc : Global) (tokens : Bor Tokens) (less from : ℕ) → IsInput tokens.now → from < length tokens.now.list → less < room → pre alloc tokens less from
  pub reads : (alloc : Global) (tokens : Bor Tokens) (less from : ℕ) (r : Result (Read Expr) Unread) → IsInput tokens.now → from < length tokens.now.list → less < room → post alloc tokens less from r
      → Reads IsExpr EndsExpr (terminals_of tokens.now) from less r
