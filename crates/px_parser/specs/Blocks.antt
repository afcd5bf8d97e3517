-- What the readers of compound statements need of the reader of blocks.
use Rattle.std.specs.Prelude.{ℕ, ◌<◌, List, length, Result}
use Rattle.std.specs.declared.alloc.Global.{Global}
use denote.Bor.{Bor}
use Rattle.px_lexer.specs.declared.token_list.Tokens.{Tokens}
use Rattle.px_tree.specs.declared.statements.Stmt.{Stmt}
use Rattle.px_exprs.specs.declared.readings.Unread.{Unread}
use Rattle.px_lexer.specs.Terminals.{terminals_of}
use Rattle.px_parser.specs.declared.readings.Found.{Found}
use Rattle.px_parser.specs.Listings.{IsListing}
use Rattle.px_parser.specs.Readings.{Reads, Anywhere}
use Rattle.px_parser.specs.StatementGrammar.{Block}

-- a function value that reads blocks where so many may stand round a token
pub record NestsBlocks (room : ℕ) (pre : Global → Bor Tokens → ℕ → ℕ → Type 0) (post : Global → Bor Tokens → ℕ → ℕ → Result (Found (List Stmt)) Unread → Type 0) : Type 0 where
  pub callable : (alloc : Global) (tokens : Bor Tokens) (from : ℕ) → IsListing tokens.now → from < length tokens.now.list → pre alloc tokens room from
  pub reads : (alloc : Global) (tokens : Bor Tokens) (from : ℕ) (r : Result (Found (List Stmt)) Unread) → IsListing tokens.now → from < length tokens.now.list → post alloc tokens room from r
      → Reads Block Anywhere (terminals_of tokens.now) from room r
