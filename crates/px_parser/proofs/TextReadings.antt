-- What the reader of expressions answers with one level less is what is answered of an expression in brackets.
use Rattle.std.proofs.Common.{◌≡◌, ℕ, suc, ◌≤◌, ◌<◌, List, refl, arith}
use Rattle.px_tree.specs.declared.expressions.Expr.{Expr}
use Rattle.px_exprs.specs.declared.readings.Unread.{Unread}
use Rattle.px_exprs.specs.declared.readings.Unread.TheVariants as unread
use Rattle.px_lexer.specs.Terminals.{Terminal}
use Rattle.px_exprs.specs.Codes.{Past}
use Rattle.px_exprs.specs.Grammar.{IsExpr}
use Rattle.px_exprs.specs.Readings.{HasWay as FormWay, HasShallow as FormShallow, IsReached as FormReached, IsUnread as FormUnread, IsReading as FormReading}
use Rattle.px_parser.specs.Shapes.{Mode}
use Rattle.px_parser.specs.Readings.{HasWay, HasBlocks, HasShallow, IsShallow, IsReached, IsArrived, IsUnread, IsReading}
use Rattle.px_exprs.proofs.Keeping.{kind_carried}
use Rattle.px_parser.proofs.ExprTokens.{no_line_inside}
use Rattle.px_parser.proofs.SimpleShapes.{Bracketed}

bracketed : {mode : Mode} {ts : List Terminal} {i d n j : ℕ} {e : Expr} → IsExpr ts i e d j → suc d ≤ mode.limit → Bracketed mode ts i e n j
bracketed {d = d} h le = record { depth = suc d; read = record { inner = d; read = h; nests = refl }; within = le }

way_bracketed : {ts : List Terminal} {i k : ℕ} → FormWay IsExpr ts i k → HasWay Bracketed ts i k
way_bracketed way = record { tokens = way.tokens; same = way.same; long = way.long; tree = way.tree; limit = suc way.depth; blocks = 0; derived = bracketed way.derived (omega arith) }

shallow_bracketed : {ts : List Terminal} {i k room less : ℕ} → suc less ≡ 64 → FormShallow IsExpr ts i k less → HasShallow Bracketed ts i k room
shallow_bracketed e h = record { tokens = h.way.tokens; same = h.way.same; long = h.way.long; tree = h.way.tree; derived = bracketed h.way.derived (omega (arith, e, h.shallow)) }

blocks_bracketed : {ts : List Terminal} {i k : ℕ} (room : ℕ) (way : FormWay IsExpr ts i k) → HasBlocks Bracketed (suc way.depth) ts i k room
blocks_bracketed room way = record { tokens = way.tokens; same = way.same; long = way.long; tree = way.tree; derived = bracketed way.derived (omega arith) }

reached_bracketed : {ts : List Terminal} {i k room less : ℕ} → suc less ≡ 64 → FormReached IsExpr ts i k less → IsReached Bracketed ts i k room
reached_bracketed e (FormReached.reached h) = record { way = way_bracketed h.way; shallow = IsShallow.shallow (shallow_bracketed e h) }
reached_bracketed {room = room} e (FormReached.behind_sizeof m same from keyword h way) =
    record { way = way_bracketed way; shallow = IsShallow.behind_sizeof m (suc way.depth) same from keyword (shallow_bracketed e h) (blocks_bracketed room way) }

pub text_unread : {less : ℕ} (ts : List Terminal) (i room : ℕ) → suc less ≡ 64 → (u : Unread) → FormUnread IsExpr (Past 26) ts i less u → IsUnread Bracketed (Past 26) ts i room u
text_unread ts i room e (unread.Stuck k) h = record {
  forward = h.forward;
  within = h.within;
  reached = IsArrived.reached (reached_bracketed e h.reached);
  none = λ us agree limit tree blocks j x s. h.none us agree tree x.read.inner j x.read.read s;
}
text_unread {less = less} ts i room e (unread.TooDeep k) h = record {
  forward = h.forward;
  within = h.within;
  counted = λ keyword us agree limit tree j x s. h.counted keyword;
  apart = λ together. absurd (no_line_inside h.way.derived (omega (arith, h.forward)) (omega (arith, h.way.long)) (kind_carried (suc k) h.way.same together.line (omega arith)));
  reached = reached_bracketed e h.reached;
  way = way_bracketed h.way;
  deep = λ us agree tree j x s.
      let deeper : less < x.read.inner = h.deep us agree tree x.read.inner j x.read.read s in
      omega (arith, e, deeper, x.within, x.read.nests);
}
text_unread ts i room e unread.NoMemory h = tt

pub text_reading : {ts : List Terminal} {i less d j : ℕ} {tree : Expr} (room : ℕ) → suc less ≡ 64 → FormReading IsExpr (Past 26) ts i less tree d j → IsReading Bracketed (Past 26) ts i room tree j
text_reading room e h = record { derived = bracketed h.derived (omega (arith, e, h.shallow)); stops = h.stops; within = h.within }
