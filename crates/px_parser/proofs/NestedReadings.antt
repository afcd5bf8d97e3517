-- What a reader of expressions or types within the limit answers says the same of them as a shape.
use Rattle.std.proofs.Common.{ℕ, suc, ◌≤◌, ◌<◌, List, arith}
use Rattle.px_exprs.specs.declared.readings.Unread.{Unread}
use Rattle.px_exprs.specs.declared.readings.Unread.TheVariants as unread
use Rattle.px_lexer.specs.declared.token_list.TokenKind.TheVariants as kind
use Rattle.px_lexer.specs.Terminals.{Terminal, HasKind}
use Rattle.px_exprs.proofs.Keeping.{kind_carried}
use Rattle.px_exprs.specs.Readings.{Form, Stops, HasWay as FormWay, HasShallow as FormShallow, IsReached as FormReached, IsUnread as FormUnread, IsReading as FormReading}
use Rattle.px_exprs.specs.Grammar.{IsExpr, IsPrimary}
use Rattle.px_exprs.specs.Runs.{nesting_limit}
use Rattle.px_parser.proofs.ExprTokens.{no_line_inside, no_line_in_primary}
use Rattle.px_parser.specs.Shapes.{Nested}
use Rattle.px_parser.specs.Readings.{HasWay, HasBlocks, HasShallow, IsShallow, IsReached, IsArrived, IsUnread, IsReading}

way_nested : {A : Type 0} {X : Form A} {ts : List Terminal} {from k : ℕ} → FormWay X ts from k → HasWay (Nested X) ts from k
way_nested way = record {
  tokens = way.tokens;
  same = way.same;
  long = way.long;
  tree = way.tree;
  limit = way.depth;
  blocks = 0;
  derived = record { depth = way.depth; read = way.derived; within = omega arith };
}

blocks_nested : {A : Type 0} {X : Form A} {ts : List Terminal} {from k : ℕ} (room : ℕ) (way : FormWay X ts from k) → HasBlocks (Nested X) way.depth ts from k room
blocks_nested room way = record {
  tokens = way.tokens;
  same = way.same;
  long = way.long;
  tree = way.tree;
  derived = record { depth = way.depth; read = way.derived; within = omega arith };
}

shallow_nested : {A : Type 0} {X : Form A} {ts : List Terminal} {from k : ℕ} (room : ℕ) → FormShallow X ts from k nesting_limit → HasShallow (Nested X) ts from k room
shallow_nested room h = record {
  tokens = h.way.tokens;
  same = h.way.same;
  long = h.way.long;
  tree = h.way.tree;
  derived = record { depth = h.way.depth; read = h.way.derived; within = h.shallow };
}

reached_nested : {A : Type 0} {X : Form A} {ts : List Terminal} {from k : ℕ} (room : ℕ) → FormReached X ts from k nesting_limit → IsReached (Nested X) ts from k room
reached_nested room (FormReached.reached h) = record { way = way_nested h.way; shallow = IsShallow.shallow (shallow_nested room h) }
reached_nested room (FormReached.behind_sizeof i e from keyword before way) = record { way = way_nested way; shallow = IsShallow.behind_sizeof i way.depth e from keyword (shallow_nested room before) (blocks_nested room way) }

pub nested_reading : {A : Type 0} {X : Form A} {S : Stops} {ts : List Terminal} {from depth to : ℕ} {tree : A} (room : ℕ) → FormReading X S ts from nesting_limit tree depth to → IsReading (Nested X) S ts from room tree to
nested_reading {depth = depth} room reading = record {
  derived = record { depth = depth; read = reading.derived; within = reading.shallow };
  stops = reading.stops;
  within = reading.within;
}

-- no end of a line stands inside the form
pub record HasNoLine {A : Type 0} (X : Form A) : Type 0 where
  pub outside : {ts : List Terminal} {i d j k : ℕ} {t : A} → X ts i t d j → i ≤ k → k < j → HasKind ts k kind.Newline → ⊥

pub nested_unread : {A : Type 0} (X : Form A) (S : Stops) → HasNoLine X → (ts : List Terminal) (from room : ℕ) (u : Unread) → FormUnread X S ts from nesting_limit u → IsUnread (Nested X) S ts from room u
nested_unread X S lines ts from room (unread.Stuck k) stuck = record {
  forward = stuck.forward;
  within = stuck.within;
  reached = IsArrived.reached (reached_nested room stuck.reached);
  none = λ us agree limit tree blocks j x s. stuck.none us agree tree x.depth j x.read s;
}
nested_unread X S lines ts from room (unread.TooDeep k) over = record {
  forward = over.forward;
  within = over.within;
  reached = reached_nested room over.reached;
  way = way_nested over.way;
  deep = λ us agree tree j x s. omega (arith, over.deep us agree tree x.depth j x.read s, x.within);
  counted = λ keyword us agree limit tree j x s. over.counted keyword;
  apart = λ together. absurd (lines.outside over.way.derived (omega (arith, over.forward)) (omega (arith, over.way.long)) (kind_carried (suc k) over.way.same together.line (omega arith)));
}
nested_unread X S lines ts from room unread.NoMemory h = tt

pub expr_lines : HasNoLine IsExpr
expr_lines = record { outside = λ h le lt line. no_line_inside h le lt line }

pub primary_lines : HasNoLine IsPrimary
primary_lines = record { outside = λ h le lt line. no_line_in_primary h le lt line }
