use Rattle.std.proofs.Common.{◌≡◌, ℕ, Err, sym, subst, arith}
use Rattle.px_base.specs.declared.refusals.Refusal.{Refusal}
use Rattle.px_base.specs.declared.refusals.Trouble.{Trouble}
use Rattle.px_base.specs.declared.refusals.Trouble.TheVariants.{Refused}
use Rattle.px_base.specs.Troubles.{IfRefused}
use Rattle.px_tree.specs.declared.expressions.Expr.{Expr}
use Rattle.px_exprs.specs.Codes.{Past}
use Rattle.px_exprs.specs.Grammar.{IsExpr}
use Rattle.px_lexer.specs.Terminals.{terminals_of}
use Rattle.px_exprs.specs.Readings.{IsStuck, IsOver, IsUnread}
use Rattle.px_exprs.specs.Runs.{IsExpressionRefused}
use Rattle.px_exprs.proofs.InputLaws.{input}
use Rattle.px_exprs.proofs.RunLaws.{run_read, run_stuck, run_over}
use Rattle.px_lexer.proofs.TokenAccess.{length_terminals}
use Rattle.px_exprs.proofs.reader.expression_within.Goals as goal

stuck : (c : goal.In-Err-Stuck) → IsStuck IsExpr (Past 26) (terminals_of c.args.tokens.now) c.args.from c.args.limit c.in-Err-Stuck.at
stuck c = subst (λ u. IsUnread IsExpr (Past 26) (terminals_of c.args.tokens.now) c.args.from c.args.limit u) c.in-Err-Stuck.field-0-is c.in-Err-Stuck.ensures

over : (c : goal.In-Err-TooDeep) → IsOver IsExpr (Past 26) (terminals_of c.args.tokens.now) c.args.from c.args.limit c.in-Err-TooDeep.at
over c = subst (λ u. IsUnread IsExpr (Past 26) (terminals_of c.args.tokens.now) c.args.from c.args.limit u) c.in-Err-TooDeep.field-0-is c.in-Err-TooDeep.ensures

pub expr-requires-clause-input : goal.expr-requires-clause-input
expr-requires-clause-input c = input c.args.tokens.now c.requires.lexed

pub refuse-requires : goal.refuse-requires
refuse-requires c = omega (arith, (stuck c).within, length_terminals c.args.tokens.now)

pub refuse-requires-in-Err-TooDeep : goal.refuse-requires-in-Err-TooDeep
refuse-requires-in-Err-TooDeep c = omega (arith, (over c).within, length_terminals c.args.tokens.now)

pub returns-in-Ok-clause-read : goal.returns-in-Ok-clause-read
returns-in-Ok-clause-read c = run_read c.args.limit (terminals_of c.args.tokens.now) c.args.from c.in-Ok.read.to c.in-Ok.read.depth c.in-Ok.read.tree c.in-Ok.ensures

refusing : (trouble : Trouble) (refusal : Refusal) (Refuses : Refusal → Type 0) → trouble ≡ Refused refusal → Refuses refusal → IfRefused {T = Expr × ℕ} (Err trouble) Refuses
refusing trouble refusal Refuses is refused = subst (λ t. IfRefused {T = Expr × ℕ} (Err t) Refuses) (sym is) refused

pub returns-in-Err-Stuck-clause-refused : goal.returns-in-Err-Stuck-clause-refused
returns-in-Err-Stuck-clause-refused c =
    let refused = c.refuse.ensures in
    let ts = terminals_of c.args.tokens.now in
    let stuck : IsStuck IsExpr (Past 26) ts c.args.from c.args.limit c.in-Err-Stuck.at = subst (λ u. IsUnread IsExpr (Past 26) ts c.args.from c.args.limit u) c.in-Err-Stuck.field-0-is c.in-Err-Stuck.ensures in
    refusing c.refuse.result refused.0 (IsExpressionRefused c.args.limit ts c.args.from) refused.1 (IsExpressionRefused.no_expression c.in-Err-Stuck.at (run_stuck c.args.limit ts c.args.from c.in-Err-Stuck.at stuck) refused.2)

pub returns-in-Err-TooDeep-clause-refused : goal.returns-in-Err-TooDeep-clause-refused
returns-in-Err-TooDeep-clause-refused c =
    let refused = c.refuse-in-Err-TooDeep.ensures in
    let ts = terminals_of c.args.tokens.now in
    let over : IsOver IsExpr (Past 26) ts c.args.from c.args.limit c.in-Err-TooDeep.at = subst (λ u. IsUnread IsExpr (Past 26) ts c.args.from c.args.limit u) c.in-Err-TooDeep.field-0-is c.in-Err-TooDeep.ensures in
    refusing c.refuse-in-Err-TooDeep.result refused.0 (IsExpressionRefused c.args.limit ts c.args.from) refused.1 (IsExpressionRefused.nested_too_deep c.in-Err-TooDeep.at (run_over c.args.limit ts c.args.from c.in-Err-TooDeep.at over) refused.2)
