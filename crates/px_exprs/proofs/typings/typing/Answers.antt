use Rattle.std.proofs.Common.{refl, arith}
use Rattle.std.proofs.lemmas.Result.{err_from_is_err_and}
use Rattle.px_lexer.specs.Terminals.{terminals_of}
use Rattle.px_exprs.proofs.TypeReading.{const_of, const_inside, typing_base_unread, typing_unread}
use Rattle.px_lexer.proofs.TokenAccess.{length_terminals}
use Rattle.px_exprs.proofs.typings.typing.Goals as goal

pub base-requires-clause-inside : goal.base-requires-clause-inside
base-requires-clause-inside c = const_inside c.args.tokens.now c.args.from c.behind_const-base_from.result c.requires.input c.requires.inside c.behind_const-base_from.ensures

pub returns-in_err-base : goal.returns-in_err-base
returns-in_err-base c =
    let p = err_from_is_err_and c.from_residual.result c.from_residual.ensures.1 in
    let base_from = c.behind_const-base_from.result in
    rw (p.1, p.2) (typing_base_unread (terminals_of c.args.tokens.now) c.args.from base_from c.args.room c.args.closing c.in_err-base.field-0.0 c.requires.closes c.behind_const-base_from.ensures c.in_err-base.ensures)

pub view-requires-clause-inside : goal.view-requires-clause-inside
view-requires-clause-inside c = omega (arith, length_terminals c.args.tokens.now, c.in_ok-base.ensures.within)

pub returns-in_err-axes : goal.returns-in_err-axes
returns-in_err-axes c =
    let p = err_from_is_err_and c.from_residual-in_err-axes.result c.from_residual-in_err-axes.ensures.1 in
    let base = c.in_ok-base.base in
    let base_from = c.behind_const-base_from.result in
    rw (p.1, p.2) (typing_unread (terminals_of c.args.tokens.now) c.args.from base_from base.to c.args.room base.tree c.args.closing c.in_err-axes.field-0.0 c.requires.closes c.behind_const-base_from.ensures
    c.in_ok-base.ensures.derived.0 c.in_ok-base.ensures.stops c.in_err-axes.ensures)

pub returns : goal.returns
returns c =
    let ts = terminals_of c.args.tokens.now in
    let axes = c.in_ok-axes.ensures in
    record {
      derived = record {
        number = refl;
        placed = c.place.ensures;
        base_from = c.behind_const-base_from.result;
        axes_from = c.in_ok-base.base.to;
        const = const_of ts c.args.from c.behind_const-base_from.result c.behind_const-base_from.ensures;
        base = c.in_ok-base.ensures.derived.0;
        axes = axes.derived;
      };
      shallow = axes.shallow;
      stops = axes.stops;
      within = axes.within;
    }
