-- What a line and a declaration begin with, among the statements.
use Rattle.std.proofs.Common.{ℕ, inl, inr, List}
use Rattle.px_lexer.specs.Terminals.{Terminal}
use Rattle.px_exprs.specs.Readings.{Stops}
use Rattle.px_parser.specs.StatementGrammar.{Line, Declare}
use Rattle.px_parser.proofs.Onlies.{Leads, leads_wider}
use Rattle.px_parser.proofs.Heads.{Heads, head_here, low_head}
use Rattle.px_parser.proofs.SimpleShapes.{BeginsSimple, leads_line}
use Rattle.px_parser.proofs.VariableShapes.{leads_declare}

simple_head : (ts : List Terminal) (i : ℕ) → BeginsSimple ts i → Heads 0 ts i
simple_head ts i (inl h) = head_here h
simple_head ts i (inr (inl h)) = head_here h
simple_head ts i (inr (inr (inl h))) = head_here h
simple_head ts i (inr (inr (inr (inl h)))) = head_here h
simple_head ts i (inr (inr (inr (inr (inl h))))) = head_here h
simple_head ts i (inr (inr (inr (inr (inr (inl h)))))) = head_here h
simple_head ts i (inr (inr (inr (inr (inr (inr low)))))) = low_head ts i low

pub line_head : {R : Stops} → Leads Line R (Heads 0)
line_head = leads_wider leads_line simple_head

pub declare_head : {R : Stops} → Leads Declare R (Heads 1)
declare_head = leads_wider leads_declare (λ ts i h. head_here h)
