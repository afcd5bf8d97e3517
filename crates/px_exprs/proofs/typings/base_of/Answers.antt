use Rattle.std.proofs.Common.{◌≡◌, true, sym, refl, subst, MatchOption}
use Rattle.px_tree.specs.declared.typings.BaseType.{BaseType}
use Rattle.px_exprs.specs.Typings.{bases}
use Rattle.px_lexer.specs.Terminals.{terminals_of}
use Rattle.px_exprs.specs.TypeParts.{IsBaseOf, table_is_ascii}
use Rattle.px_exprs.proofs.TypeReading.{base_told}
use Rattle.px_exprs.proofs.typings.base_of.Goals as goal

pub base_in-requires-clause-ascii : goal.base_in-requires-clause-ascii
unfolding bases
base_in-requires-clause-ascii c = subst (λ rows. table_is_ascii rows ≡ true) (sym c.table.ensures) refl

pub returns : goal.returns
returns c = base_told c.base_in.result (terminals_of c.args.tokens.now) c.args.from c.args.to
    (subst (λ rows. MatchOption c.base_in.result ((b : BaseType) → IsBaseOf rows (terminals_of c.args.tokens.now) c.args.from b c.args.to → ⊥)
    (λ b. IsBaseOf rows (terminals_of c.args.tokens.now) c.args.from b c.args.to)) c.table.ensures c.base_in.ensures)
