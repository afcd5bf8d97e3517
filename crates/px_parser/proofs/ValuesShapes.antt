-- Lists of expressions, with or without what they say of commas, are the same tokens.
use Rattle.std.proofs.Common.{ℕ, Bool, List, refl, ap}
use Rattle.px_tree.specs.declared.expressions.Expr.{Expr}
use Rattle.px_lexer.specs.Terminals.{Terminal}
use Rattle.px_parser.specs.Shapes.{Mode}
use Rattle.px_parser.specs.StatementGrammar.{Exprs, expr_list}
use Rattle.px_parser.specs.Parts.{ExprsRead, is_alone}
use Rattle.px_parser.proofs.Steps.{Alike}

pub exprs_of_read : (mode : Mode) (ts : List Terminal) (i n j : ℕ) (t : Expr × Bool) → ExprsRead mode ts i t n j → Exprs mode ts i t.0 n j
unfolding ExprsRead Exprs
exprs_of_read mode ts i n j t h = record { inner = h.inner; read = h.read; tree = ap (λ p. p.0) h.tree }

pub read_of_exprs : (mode : Mode) (ts : List Terminal) (i n j : ℕ) (e : Expr) → Exprs mode ts i e n j → (t : Expr × Bool) × ExprsRead mode ts i t n j
unfolding ExprsRead Exprs
read_of_exprs mode ts i n j e h = ((expr_list h.inner.0 h.inner.1.0 h.inner.1.1.0 h.inner.1.1.1, is_alone h.inner.1.1.1), record { inner = h.inner; read = h.read; tree = refl })

pub exprs_alike : Alike ExprsRead Exprs
exprs_alike = record {
  there = λ {mode} {ts} {i} {n} {j} {t} h. (t.0, exprs_of_read mode ts i n j t h);
  back = λ {mode} {ts} {i} {n} {j} {u} h. read_of_exprs mode ts i n j u h;
}
